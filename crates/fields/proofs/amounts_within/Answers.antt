-- `amounts_within`: no amount is above the bits of all together.
use Prim.Native.Nat.{ℕ, ◌≤◌}
use native.Mathlib.Omega.{arith}
use lib.Bits.{bit_or}
use borrow.Author.Tests.{le-leb}
use Rattle.std.proofs.lemmas.Nat.{le_or_l, le_or_r}
use Rattle.wire.specs.Bytes.{M}
use Rattle.fields.proofs.amounts_within.Goals as goal

-- of five numbers
all-within : (a b c d e : ℕ) → bit_or (bit_or (bit_or (bit_or a b) c) d) e ≤ M → (a ≤ M) × (b ≤ M) × (c ≤ M) × (d ≤ M) × (e ≤ M)
all-within a b c d e h =
    let four = bit_or (bit_or (bit_or a b) c) d in
    let below : four ≤ M = omega (arith, le_or_l four e) in
    (omega (arith, le_or_l, le_or_r), omega (arith, le_or_l, le_or_r), omega (arith, le_or_l, le_or_r), omega (arith, le_or_r (bit_or (bit_or a b) c) d), omega (arith, le_or_r four e))

pub returns-then-all-le-M : goal.returns-then-all-le-M
returns-then-all-le-M c =
    let a = c.args.a in
    let h = all-within a.value a.offsets a.deductions a.insurance a.combination c.if-all-le-M.true in
    rw (le-leb _ _ h.0, le-leb _ _ h.1, le-leb _ _ h.2, le-leb _ _ h.3, le-leb _ _ h.4)
