-- C-17, "Ties before rounding": lines of funds whose limits are equal in cents and not before they are rounded, each beside what another reading of the
-- ranking gives.
use Rattle.std.specs.Prelude.{Bool, not, ◌&&◌, List, [], ◌∷◌, ◌++◌, ℕ, ◌-◌, T, set, length, if◌then◌else◌}
use Rattle.words.specs.Words.{◌≤?◌, ◌<?◌, ◌=?◌, every}
use Rattle.wire.specs.Bytes.{M}
use Rattle.schedule.specs.declared.Schedule.{Schedule}
use Rattle.schedule.specs.Schedule.{schedule_of, schedule_bytes}
use Rattle.schedule.specs.Tiers.{rate_alone, unrounded_limits}
use Rattle.book.specs.Book.{Book, book_of}
use Rattle.book.specs.Build.{counterparty, asset, book_bytes, specialist_bytes}
use Rattle.exposure.specs.Values.{VAF, VAF'}
use Rattle.exposure.specs.Sums.{W}
use Rattle.cascade.specs.Cascade.{by_tier, by_limit}
use Rattle.figures.specs.Report.{report}
use Rattle.figures.specs.Read.{charge_in}
use Rattle.figures.specs.Fund.{in_order}
use Rattle.fund.specs.Figures.{unrounded_of, cents_order, fund_of}
use Rattle.report.specs.Answer.{report_of, answer_of}
use Rattle.examples.specs.Build.{plain, reinsured, entered, usual, name, bank}
use Rattle.examples.specs.Reading.{printed, line}
use Rattle.examples.specs.Table.{published_bytes, same, accepted}
use Rattle.examples.specs.Opened.{report_computed}

-- ---- readings of the ranking

abbrev Reading : Type 0
Reading = Schedule → Book → ℕ → ℕ → Bool

-- as before C-17: "tiers rank by limit in cents, then number"
abbrev by_cents : Reading
by_cents S B = cents_order S B

-- of truly equal limits the higher number first
abbrev higher_first : Reading
higher_first S B a b =
    let E = by_tier (unrounded_of S B) in
    if E a =? E b then b ≤? a else E a <? E b

-- the percent kept left out of the comparison; W left out of it
abbrev without_percent : Reading
without_percent S B =
    let whole : Schedule = record { first = 100; second = 100; c = S.c; d = S.d; e = S.e; f = S.f; g = S.g; h = S.h; i = S.i; z = S.z } in
    by_limit (by_tier (unrounded_limits whole (VAF B) (VAF' B) B.base (W B)))

abbrev without_w : Reading
without_w S B = by_limit (by_tier (unrounded_limits S (VAF B) (VAF' B) B.base 0))

-- ---- what a case says

-- schedule and book, the charge and the lines; another reading, and what they are under it
record Tie : Type 0 where
  schedule : List ℕ
  book : List ℕ
  due : List ℕ
  reading : Reading
  misread : List ℕ

-- the report of another reading
abbrev report_by : Tie → List ℕ
report_by c =
    let S = schedule_of c.schedule in
    let B = book_of c.book in
    report (in_order (c.reading S B) (fund_of S B))

abbrev told : List ℕ → List ℕ
told r = charge_in r ∷ printed r

-- charge and lines are as they should be, under the ranking and under the other reading
unfoldable right : Tie → Bool
right c =
    let r = report_of c.schedule c.book in
    accepted (answer_of c.schedule c.book 65536) (length r) && same (told r) c.due && same (told (report_by c)) c.misread

-- and differ
abbrev caught : Tie → Bool
caught c = right c && not (same c.due c.misread)

abbrev tie : List ℕ → List ℕ → List ℕ → Reading → List ℕ → Tie
tie schedule book due reading misread = record { schedule = schedule; book = book; due = due; reading = reading; misread = misread }

-- ---- schedules and books

-- rates alone, of rows c to z, and percents of 66 and 34
abbrev rates : (c d e f g h i z : ℕ) → Schedule
rates c d e f g h i z =
    record { first = 66; second = 34; c = rate_alone c; d = rate_alone d; e = rate_alone e; f = rate_alone f; g = rate_alone g; h = rate_alone h; i = rate_alone i; z = rate_alone z }

-- such per mille, and in ten-thousandths
abbrev per_mille : Schedule → List ℕ
per_mille s = schedule_bytes s

abbrev ten_thousandths : Schedule → List ℕ
ten_thousandths s = set (schedule_bytes s) 4 2

-- an ungraded name and its graded child, by total and what of it is excluded, which VAF' is less by
abbrev pair : ℕ → ℕ → List (List ℕ) → List ℕ
pair total excluded assets = book_bytes total 0 excluded (name ∷ counterparty 1 0 2 0 ∷ []) assets []

-- tiers 0 and 1
abbrev two : ℕ → ℕ → ℕ → ℕ → List ℕ
two total excluded x y = pair total excluded (plain 11 1 x ∷ reinsured 1 0 y ∷ [])

-- the same with one each and VAF' one above VAF: reinsurance of no value now, and one under stress
abbrev above : ℕ → List ℕ
above total = pair total 0 (plain 11 1 1 ∷ asset 9 0 0 0 1 0 0 0 0 0 1 ∷ [])

-- tiers 0, 1 and 2
abbrev three : ℕ → ℕ → ℕ → List (List ℕ)
three x y z = plain 11 1 x ∷ reinsured 1 0 y ∷ plain 6 1 z ∷ []

-- rows i and h at 25 and 26 per mille, so that VAF 410 and VAF' 400 give tiers 0 to 3 limits of 10.25, 10.00, 10.66 and 10.40
abbrev close : List ℕ
close = per_mille (rates 250 500 250 250 125 26 25 125)

-- a bank's bills and deposits: with rows c and d at 100 and 200 per mille and VAF 1,005, limits of 100.5, and of 201 less W
abbrev deposits : ℕ → ℕ → List ℕ
deposits bills amount = book_bytes 1005 0 0 (bank ∷ []) (plain 3 1 bills ∷ plain 4 1 amount ∷ []) []

abbrev banked : List ℕ
banked = per_mille (rates 100 200 250 250 125 50 25 125)

-- beside the ranking before C-17; the charge is the same
unfoldable ties : List Tie
ties =
    -- "With VAF 41, VAF' 40 and base 0, tier 1 comes before tier 0": 1.025 and 1.000
    tie published_bytes (two 41 1 1 1) (1 ∷ line 1 1 1 1 1 0 ++ line 1 0 1 1 0 1) by_cents (1 ∷ line 1 0 1 1 1 0 ++ line 1 1 1 1 0 1)
    -- below a cent there is no room in either: .975 and .950
    ∷ tie published_bytes (two 39 1 1 1) (2 ∷ line 1 1 1 0 0 1 ++ line 1 0 1 0 0 1) by_cents (2 ∷ line 1 0 1 0 0 1 ++ line 1 1 1 0 0 1)
    -- large ones: 249,999,999,999.975 and 249,999,999,999.950
    ∷ tie published_bytes (two (M - 1) 1 249999999999 1) (1 ∷ line 1 1 1 249999999999 249999999999 0 ++ line 1 0 249999999999 249999999999 249999999998 1)
    by_cents (1 ∷ line 1 0 249999999999 249999999999 249999999999 0 ++ line 1 1 1 249999999999 0 1)
    -- three tiers within a cent, the higher number first and the lower: 10.00, 10.25, 10.66. By cents tier 1 has the excess that tier 0 has
    ∷ tie close (pair 410 10 (three 7 5 3)) (5 ∷ line 1 1 5 10 10 0 ++ line 1 0 7 10 5 2 ++ line 1 2 3 10 0 3) by_cents (5 ∷ line 1 0 7 10 10 0 ++ line 1 1 5 10 3 2 ++ line 1 2 3 10 0 3)
    -- and four: 10.00, 10.25, 10.40, 10.66
    ∷ tie close (pair 410 10 (reinsured 2 0 4 ∷ three 4 4 4)) (6 ∷ line 1 1 4 10 10 0 ++ line 1 0 4 10 6 0 ++ line 1 3 4 10 2 2 ++ line 1 2 4 10 0 4)
    by_cents (6 ∷ line 1 0 4 10 10 0 ++ line 1 1 4 10 6 0 ++ line 1 2 4 10 2 2 ++ line 1 3 4 10 0 4)
    -- a percent: .34 of 3.75 is 1.275, which is below 1.5; by cents they are equal
    ∷ tie published_bytes (pair 30 0 (reinsured 2 0 1 ∷ entered 2 12 1 1 ∷ [])) (1 ∷ line 1 4 1 1 1 0 ++ line 1 3 1 1 0 1) by_cents (1 ∷ line 1 3 1 1 1 0 ++ line 1 4 1 1 0 1)
    -- W: 201 less 101 is 100, below 100.5
    ∷ tie banked (deposits 101 50) (51 ∷ line 1 12 50 100 100 0 ++ line 1 11 101 100 50 51) by_cents (51 ∷ line 1 11 101 100 100 1 ++ line 1 12 50 100 0 50)
    -- C-15: 253 and 251 ten-thousandths of 400 are 10.12 and 10.04
    ∷ tie (ten_thousandths (rates 2500 5000 2500 2500 1250 251 253 1250)) (pair 400 0 (plain 11 1 6 ∷ plain 6 1 6 ∷ [])) (2 ∷ line 1 2 6 10 10 0 ++ line 1 0 6 10 4 2)
    by_cents (2 ∷ line 1 0 6 10 10 0 ++ line 1 2 6 10 4 2)
    -- C-11: 330 per mille of 100 are 33.0, row e's 331 are 33.1
    ∷ tie (per_mille (rates 250 500 331 250 125 50 25 125)) (specialist_bytes 100 0 0 (name ∷ []) (entered 1 0 1 20 ∷ entered 3 3 1 20 ∷ []) []) (7 ∷ line 1 14 20 33 33 0 ++ line 1 9 20 33 13 7)
    by_cents (7 ∷ line 1 9 20 33 33 0 ++ line 1 14 20 33 13 7)
    ∷ []

-- beside other readings. The charge may differ where limits in cents fall along them
unfoldable others : List Tie
others =
    -- "only truly equal ones by number": at VAF and VAF' 40 both are 1.000
    tie published_bytes (two 40 0 1 1) (1 ∷ line 1 0 1 1 1 0 ++ line 1 1 1 1 0 1) higher_first (1 ∷ line 1 1 1 1 1 0 ++ line 1 0 1 1 0 1)
    -- rows i and h at 25 per mille in version 1, which can't tell 253 from 251 ten-thousandths: 10.00 each
    ∷ tie (per_mille (rates 250 500 250 250 125 25 25 125)) (pair 400 0 (plain 11 1 6 ∷ plain 6 1 6 ∷ [])) (2 ∷ line 1 0 6 10 10 0 ++ line 1 2 6 10 4 2)
    higher_first (2 ∷ line 1 2 6 10 10 0 ++ line 1 0 6 10 4 2)
    -- without the percent 3.75 would be above 1.5; and 125 per mille of 10,000,000,000 above h's 50, where .34 of it is 425,000,000
    ∷ tie published_bytes (pair 30 0 (reinsured 2 0 1 ∷ entered 2 12 1 1 ∷ [])) (1 ∷ line 1 4 1 1 1 0 ++ line 1 3 1 1 0 1) without_percent (1 ∷ line 1 3 1 1 1 0 ++ line 1 4 1 1 0 1)
    ∷ tie published_bytes (usual (name ∷ counterparty 1 0 2 0 ∷ []) (reinsured 2 0 300000000 ∷ entered 2 12 1 300000000 ∷ []) [])
    (100000000 ∷ line 1 4 300000000 425000000 425000000 0 ++ line 1 3 300000000 500000000 200000000 100000000) without_percent
    (175000000 ∷ line 1 3 300000000 500000000 500000000 0 ++ line 1 4 300000000 425000000 125000000 175000000)
    -- without W 201 would be above 100.5
    ∷ tie banked (deposits 101 50) (51 ∷ line 1 12 50 100 100 0 ++ line 1 11 101 100 50 51) without_w (51 ∷ line 1 11 101 100 100 1 ++ line 1 12 50 100 0 50)
    ∷ []

-- the same by limits in cents: VAF' above VAF; and where the cents part, 2.000 and 1.975, 1.975 and 2.000
unfoldable alike : List Tie
alike =
    let agreed : List ℕ → List ℕ → Tie = λ book due. tie published_bytes book due by_cents due in
    agreed (above 40) (1 ∷ line 1 0 1 1 1 0 ++ line 1 1 1 1 0 1)
    ∷ agreed (two 80 1 1 1) (0 ∷ line 1 1 1 1 1 0 ++ line 1 0 1 2 1 0)
    ∷ agreed (above 79) (0 ∷ line 1 0 1 1 1 0 ++ line 1 1 1 2 1 0)
    ∷ []

holds : T (every caught ties && every caught others && every right alike)
unfolding report_computed right ties others alike
holds = tt
