-- `of_form`: the shift is five times the digit of the form, by computation.
use mathlib.Core.Bool.{true}
use mathlib.Core.Path.{◌≡◌, refl, ◌∙◌}
use Prim.Native.Nat.{ℕ, ◌*◌, ◌/◌, ◌%◌, ◌^◌, ◌<◌}
use lib.Bits.{bit_and, and_mask, mask_lt}
use borrow.Author.Tests.{eqb-true}
use Rattle.words.specs.Words.{◌=?◌}
use Rattle.words.specs.Below.{all_below, below}
use Rattle.columns.specs.Column.{digit, digit_of}
use Rattle.columns.proofs.of_form.Goals as goal

shifts-computed : all_below 6 (λ f. 11167418289920 / 2 ^ (8 * f) % 64 =? 5 * digit_of f) ≡ true
unfolding all_below digit_of
shifts-computed = refl

shift : (f : ℕ) → f < 6 → bit_and (11167418289920 / 2 ^ (8 * f)) 63 ≡ 5 * digit_of f
shift f h = and_mask (11167418289920 / 2 ^ (8 * f)) 6 ∙ eqb-true _ _ (below 6 (λ f. 11167418289920 / 2 ^ (8 * f) % 64 =? 5 * digit_of f) shifts-computed f h)

pub returns : goal.returns
unfolding digit
returns c =
    let n = c.args.word / 2 ^ (5 * digit_of c.args.form) in
    rw (shift c.args.form c.requires.1) (and_mask n 5, mask_lt n 5)

pub overflow_shr-result : goal.overflow_shr-result
overflow_shr-result c = mask_lt (11167418289920 / 2 ^ (8 * c.args.form)) 6
