-- `age_of`: the ends of the stages of months that are past; the digit by computation.
use mathlib.Core.Bool.{Bool, true, false}
use mathlib.Core.Path.{◌≡◌, refl, ◌∙◌}
use Prim.Native.Nat.{ℕ, ◌+◌, ◌*◌, ◌/◌, ◌%◌, ◌^◌, ◌≤◌, ◌<◌}
use native.Mathlib.Omega.{arith}
use lib.Bits.{bit_and, and_mask}
use lib.Dec.{leb}
use borrow.Author.Tests.{eqb-true, leb-true, leb-false, lt-ltb, le-ltb}
use Rattle.std.specs.Prelude.{if◌then◌else◌}
use Rattle.std.specs.Int.{from_bool}
use Rattle.words.specs.Words.{◌≤?◌, ◌<?◌, ◌=?◌}
use Rattle.words.specs.Choice.{if-le}
use Rattle.words.specs.Below.{all_below, below}
use Rattle.columns.specs.Column.{age_at, stage_of}
use Rattle.columns.proofs.ColumnLaws.{age-le}
use Rattle.columns.proofs.age_of.Goals as goal

passed : (e m : ℕ) → 4 * e + from_bool (2 <? m) + from_bool (11 <? m) + from_bool (23 <? m) ≡ 4 * e + stage_of m
passed e m = by (leb m 2) (leb m 11) (leb m 23) refl refl refl
  where
    by : (p q r : Bool) → leb m 2 ≡ p → leb m 11 ≡ q → leb m 23 ≡ r → 4 * e + from_bool (2 <? m) + from_bool (11 <? m) + from_bool (23 <? m) ≡ 4 * e + (if p then 0 else if q then 1 else if r then 2 else 3)
    by true q r x y z =
        let h = leb-true m 2 x in
        rw (le-ltb 2 m h, le-ltb 11 m (omega arith), le-ltb 23 m (omega arith)) (omega arith)
    by false true r x y z =
        let h = leb-true m 11 y in
        rw (lt-ltb 2 m (leb-false m 2 x), le-ltb 11 m h, le-ltb 23 m (omega arith)) (omega arith)
    by false false true x y z =
        let h = leb-false m 11 y in
        rw (lt-ltb 2 m (omega arith), lt-ltb 11 m h, le-ltb 23 m (leb-true m 23 z)) (omega arith)
    by false false false x y z =
        let h = leb-false m 23 z in
        rw (lt-ltb 2 m (omega arith), lt-ltb 11 m (omega arith), lt-ltb 23 m h) (omega arith)

stage-le : (m : ℕ) → stage_of m ≤ 3
stage-le m = if-le (m ≤? 2) (omega arith) (if-le (m ≤? 11) (omega arith) (if-le (m ≤? 23) (omega arith) (omega arith)))

ages-computed : all_below 16 (λ n. 12215739472165273600 / 2 ^ (4 * n) % 16 =? age_at n) ≡ true
unfolding all_below age_at
ages-computed = refl

aged : (n : ℕ) → n < 16 → bit_and (12215739472165273600 / 2 ^ (4 * n)) 15 ≡ age_at n
aged n h = and_mask (12215739472165273600 / 2 ^ (4 * n)) 4 ∙ eqb-true _ _ (below 16 (λ n. 12215739472165273600 / 2 ^ (4 * n) % 16 =? age_at n) ages-computed n h)

pub returns : goal.returns
returns c =
    let a = c.args in
    rw (c.from-third.ensures, c.from-twelfth.ensures, c.from-last.ensures, passed a.entry a.months, aged (4 * a.entry + stage_of a.months) (omega (arith, stage-le a.months)))
    (refl, age-le a.entry a.months c.requires)
