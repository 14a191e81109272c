-- `of_kind`: a shift and the mask 31 are the digit.
use Prim.Native.Nat.{◌*◌, ◌-◌, ◌/◌, ◌^◌}
use lib.Bits.{and_mask, mask_lt}
use Rattle.columns.specs.Column.{digit}
use Rattle.columns.proofs.of_kind.Goals as goal

pub returns : goal.returns
unfolding digit
returns c = let n = c.args.word / 2 ^ (5 * (c.args.kind - 1)) in (and_mask n 5, mask_lt n 5)
