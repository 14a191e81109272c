-- `of_age`: a shift and the mask 31 are the digit.
use mathlib.Core.Path.{ap, ◌∙◌}
use Prim.Native.Nat.{ℕ, ◌*◌, ◌/◌, ◌^◌}
use lib.Bits.{and_mask, mask_lt}
use Rattle.columns.specs.Column.{digit}
use Rattle.columns.proofs.of_age.Goals as goal

pub returns : goal.returns
unfolding digit
returns c =
    let terms = c.args.terms in
    let n = terms / 2 ^ (5 * c.age_of.result) in
    (and_mask n 5 ∙ ap (λ (k : ℕ). digit k terms) c.age_of.ensures.0, mask_lt n 5)
