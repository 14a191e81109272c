-- `printing::answer` meets its contract: the input, cut after the schedule.
use mathlib.Core.Bool.{Bool, true, false}
use mathlib.Core.Path.{◌≡◌, refl, sym, ap, subst₂, ◌∙◌}
use mathlib.Core.List.{List}
use Prim.Native.Nat.{ℕ, ◌-◌, ◌<◌, min}
use native.Mathlib.Omega.{arith}
use lib.Dec.{leb}
use lib.ListN.{length, take, drop, length-drop, drop_of_length-le}
use lib.Seq.{take_all}
use borrow.Author.Tests.{leb-true, leb-false}
use Rattle.report.specs.Answer.{Answered}
use Rattle.printing.proofs.answer.Goals as goal

-- the first 122 bytes, and what stands behind them, cut where a shorter list ends
module _ (l : List ℕ) (n : ℕ) (e : n ≡ min (length l) 122) where
  first : take n l ≡ take 122 l
  first = by (leb 122 (length l)) refl
    where
      by : (t : Bool) → leb 122 (length l) ≡ t → take n l ≡ take 122 l
      by true h = let m : n ≡ 122 = omega (arith, leb-true 122 (length l) h) in ap (λ (k : ℕ). take k l) m
      by false h = let m : length l < 122 = leb-false 122 (length l) h in take_all n l (omega arith) ∙ sym (take_all 122 l (omega arith))

  rest : take (length l - n) (drop n l) ≡ drop 122 l
  rest = take_all (length l - n) (drop n l) (omega (arith, length-drop n l)) ∙ by (leb 122 (length l)) refl
    where
      by : (t : Bool) → leb 122 (length l) ≡ t → drop n l ≡ drop 122 l
      by true h = let m : n ≡ 122 = omega (arith, leb-true 122 (length l) h) in ap (λ (k : ℕ). drop k l) m
      by false h = let m : length l < 122 = leb-false 122 (length l) h in drop_of_length-le l {i = n} (omega arith) ∙ sym (drop_of_length-le l {i = 122} (omega arith))

pub returns : goal.returns
returns c =
    let p = c.report in
    let s = c.args in
    let n = c.schedule_end-end in
    subst₂ (λ (x y : List ℕ). Answered x y s.report.now p.new.report p.result) (first s.input.now n.result n.ensures.value) (rest s.input.now n.result n.ensures.value) p.ensures
