-- `counts`: a shift and the mask 1 are the bit.
use mathlib.Core.Path.{ap}
use Prim.Native.Nat.{ℕ, ◌+◌, ◌*◌, ◌/◌, ◌^◌}
use lib.Dec.{eqb}
use lib.Bits.{and_mask}
use Rattle.recognition.specs.Needs.{needs_at}
use Rattle.recognition.proofs.counts.Goals as goal

pub returns : goal.returns
returns c =
    let a = c.args in
    rw (c.needs_at.ensures, c.key_of.ensures) (ap (λ (k : ℕ). eqb k 1) (and_mask (needs_at a.flags / 2 ^ (8 * a.form + 4 * a.reinsured + a.trust)) 1))

pub needs_at-requires : goal.needs_at-requires
needs_at-requires c = rw c.key_of.ensures c.requires.1
