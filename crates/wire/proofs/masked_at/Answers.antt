-- `masked_at`: the mask 255 is the remainder by 256, the mask 65,535 leaves all of a u16.
use mathlib.Core.Bool.{Bool, true, false}
use mathlib.Core.Path.{◌≡◌, ap, ◌∙◌}
use Prim.Native.Nat.{ℕ, ◌+◌, ◌%◌, ◌<◌}
use native.Mathlib.Omega.{arith}
use lib.Bits.{bit_and, and_mask}
use Rattle.std.specs.Prelude.{if◌then◌else◌}
use Rattle.words.specs.Words.{◌=?◌}
use Rattle.wire.specs.Bytes.{u16_at}
use Rattle.wire.proofs.masked_at.Goals as goal

masked : (t : Bool) {v low : ℕ} → v < 65536 → v % 256 ≡ low → bit_and v (if t then 255 else 65535) ≡ (if t then low else v)
masked true {v} h e = and_mask v 8 ∙ e
masked false {v} h e = let m : v % 65536 ≡ v = omega arith in and_mask v 16 ∙ m

pub returns : goal.returns
unfolding u16_at
returns c =
    let a = c.args in
    let low = c.type_inv.s a.at in
    let high = c.type_inv.s (a.at + 1) in
    rw c.u16_at.ensures (ap (bit_and (u16_at a.s.now a.at)) c.requires.1 ∙ masked (a.mask =? 255) (omega (arith, low, high)) (omega (arith, low, high)))
