-- C-14, "Capital cost per desk": lines' and desks' excesses and the bills, computed from bytes to bytes; the answers, and what stands in the lent buffer.
use Rattle.refusal.specs.Chain.{Answer}
use Rattle.std.specs.Prelude.{Bool, ◌&&◌, List, [], ◌∷◌, map, ℕ, ◌*◌, ◌/◌, T, length, set, take, drop, replicate}
use Rattle.words.specs.Words.{◌=?◌, sum_of, every, count_from}
use Rattle.wire.specs.Amounts.{amounts_bytes}
use Rattle.book.specs.Build.{counterparty, desk_asset, mitigant, desk_bytes}
use Rattle.figures.specs.Read.{line_at, lines_in, charge_in}
use Rattle.bills.specs.Lines.{ExposureLine, amount_in, tier_excess, stands_in, excess_lines}
use Rattle.bills.specs.Bills.{desk_count, bills_size, amount_of_desk, desk_excess, cost_of, bill_of, bill_bytes}
use Rattle.report.specs.Answer.{fund_in, report_of, written_by}
use Rattle.desks.specs.BookLines.{exposure_line, holding_lines, book_lines}
use Rattle.billing.specs.Billed.{exposure_lines_in, excess_in, bills_of, bill_check, bill_answer}
use Rattle.examples.specs.Build.{plain, usual, name, graded_name, bank}
use Rattle.examples.specs.Reading.{amounts_in}
use Rattle.examples.specs.Table.{published_bytes, same, accepted, turned}
use Rattle.examples.specs.Opened.{report_computed}

-- the bills, with every definition on the way opened: a proof that says `unfolding bills_computed` computes them
unfoldable bills_computed : List ℕ → List ℕ → ℕ → List ℕ
unfolding report_computed amounts_bytes amount_in tier_excess stands_in excess_lines amount_of_desk desk_excess cost_of bill_of bill_bytes exposure_line holding_lines book_lines excess_in bills_of bill_check bill_answer
bills_computed schedule book rate = bills_of schedule book rate

-- ---- what a case says

-- the figures of the 256 desks: `desk 1 50 (desk 7 20 none)` is 50 at desk 1, 20 at desk 7 and 0 at any other
abbrev none : List ℕ
none = replicate desk_count 0

abbrev desk : ℕ → ℕ → List ℕ → List ℕ
desk d amount others = set others d amount

abbrev total : List ℕ → ℕ
total xs = sum_of (λ x. x) xs

-- the excess of each exposure line in book order, and of each desk; the lines' add up to the report's in each group's tier, the desks' to its charge
unfoldable owed : List ℕ → List ℕ → List ℕ → Bool
owed book lines desks =
    let r = report_of published_bytes book in
    let xs = excess_lines (stands_in (fund_in published_bytes book)) (exposure_lines_in book) in
    let ds = map (excess_in published_bytes book) (count_from 0 desk_count) in
    same (map (λ (x : ExposureLine). x.amount) xs) lines
    && same ds desks
    && every (λ k. amount_in (line_at r k).top (line_at r k).tier xs =? (line_at r k).excess) (count_from 0 (lines_in r))
    && total ds =? charge_in r

-- all bills at a rate; "The bills must add up to the charge times the rate, rounded down, to the cent"
unfoldable billed : List ℕ → ℕ → List ℕ → Bool
billed book rate bills =
    let R = bills_of published_bytes book rate in
    let bs = amounts_in desk_count R in
    accepted (bill_answer published_bytes book rate bills_size) (length R)
    && same bs bills
    && total bs =? charge_in (report_of published_bytes book) * rate / 10000

-- ---- books

-- an asset of a desk, with its kind, counterparty, count of mitigants and value; the same without mitigants; a reinsurance asset
abbrev covered_at : ℕ → ℕ → ℕ → ℕ → ℕ → List ℕ
covered_at d kind who count value = desk_asset d kind 0 0 0 who count value 0 0 0 0

abbrev plain_at : ℕ → ℕ → ℕ → ℕ → List ℕ
plain_at d kind who value = covered_at d kind who 0 value

abbrev reinsured_at : ℕ → ℕ → ℕ → List ℕ
reinsured_at d who value = desk_asset d 9 0 0 0 who 0 value 0 0 0 value

-- the usual book with desks: tier 0 has a limit of 250,000,000, tiers 2 and 3 of 500,000,000
abbrev usual_at : List (List ℕ) → List (List ℕ) → List (List ℕ) → List ℕ
usual_at counterparties assets mitigants = desk_bytes 10_000_000_000 1_000_000_000 0 counterparties assets mitigants

-- three lines in one group's tier; the same in version 1
abbrev cut : List ℕ
cut = usual_at (name ∷ []) (plain_at 2 11 1 100000000 ∷ plain_at 1 11 1 200000000 ∷ plain_at 2 11 1 30000000 ∷ []) []

abbrev cut_before : List ℕ
cut_before = usual (name ∷ []) (plain 11 1 100000000 ∷ plain 11 1 200000000 ∷ plain 11 1 30000000 ∷ []) []

-- debt of 3, a child of 1, and of 1 as collateral: tier 2 of group 1 has a remainder, a part and the remainder of one asset, a part of an asset of 2's, a remainder
abbrev parts : List ℕ
parts =
    usual_at (graded_name ∷ name ∷ counterparty 1 0 2 0 ∷ [])
    (plain_at 3 6 1 400000000 ∷ covered_at 5 6 1 1 300000000 ∷ covered_at 7 11 2 1 90000000 ∷ plain_at 9 6 1 10000000 ∷ [])
    (mitigant 3 17 3 250000000 ∷ mitigant 3 17 1 60000000 ∷ [])

-- T8 at such desks
abbrev t8_at : ℕ → ℕ → ℕ → List ℕ
t8_at d e f =
    usual_at (graded_name ∷ graded_name ∷ graded_name ∷ [])
    (reinsured_at d 1 600000000 ∷ reinsured_at e 2 600000000 ∷ reinsured_at f 3 600000000 ∷ []) []

-- T2 at two desks, tier 2 before tier 0
abbrev t2_at : List ℕ
t2_at = usual_at (name ∷ []) (plain_at 255 6 1 300000000 ∷ plain_at 4 11 1 300000000 ∷ []) []

-- 1 is the home government and 2 its child; the second asset is linked, and its cash would be in tier 0 of that group
abbrev unlimited : List ℕ
unlimited =
    usual_at (counterparty 0 2 1 0 ∷ counterparty 1 0 0 0 ∷ [])
    (plain_at 2 1 1 9000000000 ∷ desk_asset 3 11 1 0 0 2 1 300000000 0 0 0 0 ∷ plain_at 4 11 2 260000000 ∷ [])
    (mitigant 1 17 2 100000000 ∷ [])

-- 1 and its child 3 are a group, 2 is another
abbrev groups : List ℕ
groups =
    usual_at (name ∷ name ∷ counterparty 1 0 0 0 ∷ [])
    (plain_at 1 11 3 200000000 ∷ plain_at 2 11 2 240000000 ∷ plain_at 3 11 1 80000000 ∷ plain_at 4 11 2 30000000 ∷ []) []

-- excesses of a few cents: VAF 40 gives tier 0 a limit of 1, which the first line is given
abbrev rounded : List ℕ
rounded = desk_bytes 40 0 0 (name ∷ []) (plain_at 9 11 1 10 ∷ plain_at 3 11 1 17 ∷ plain_at 7 11 1 15 ∷ []) []

abbrev ends : List ℕ
ends = desk_bytes 40 0 0 (name ∷ []) (plain_at 255 11 1 8 ∷ plain_at 0 11 1 15 ∷ []) []

-- VAF 4,001 and VAF' 4,000: tier 0 of desk 1 and tier 1 of desk 2, with limits of 100.025 and 100.000
abbrev near : List ℕ
near = desk_bytes 4001 0 1 (name ∷ []) (plain_at 1 11 1 80 ∷ reinsured_at 2 1 90 ∷ []) []

-- treaties of 600,000,000 and 500,000,000 with one reinsurer, at desks 1 and 2, and a letter for the first: half of both is 550,000,000
abbrev treaties : List ℕ
treaties =
    usual_at (graded_name ∷ bank ∷ []) (desk_asset 1 9 0 0 0 1 1 600000000 0 0 0 600000000 ∷ reinsured_at 2 1 500000000 ∷ [])
    (mitigant 5 8 2 600000000 ∷ [])

unfoldable bills : List Bool
bills =
    -- "what stands is given to the exposure lines in book order", "A line's unserved part is its excess": the first line is whole, of the second 150,000,000 stand.
    -- Desk after desk, or with the first lines cut first, desk 1 would have 0 and desk 2 80,000,000; in proportion, desk 1 48,484,848
    owed cut (0 ∷ 50000000 ∷ 30000000 ∷ []) (desk 1 50000000 (desk 2 30000000 none))
    ∷ billed cut 1000 (desk 1 5000000 (desk 2 3000000 none))
    -- "The cost rate is in ten-thousandths": per mille the bills would be ten times as high
    ∷ billed cut 1 (desk 1 5000 (desk 2 3000 none))
    ∷ billed cut 0 none
    -- C-17: tier 1 ranks first, and stands. By limits in cents desk 2 would have the excess
    ∷ owed near (70 ∷ 0 ∷ []) (desk 1 70 none)
    ∷ billed near 1000 (desk 1 7 none)
    -- C-18: 550,000,000 are covered, so that 50,000,000 and 500,000,000 stand in tier 3. By half of each treaty desk 2 would have 300,000,000
    ∷ owed treaties (0 ∷ 0 ∷ 50000000 ∷ []) (desk 2 50000000 none)
    ∷ billed treaties 1000 (desk 2 5000000 none)
    -- "goes to desk 0, as does every line of a version 1 book"
    ∷ owed cut_before (0 ∷ 50000000 ∷ 30000000 ∷ []) (desk 0 80000000 none)
    ∷ billed cut_before 1000 (desk 0 8000000 none)
    -- "each asset's covered parts before its remainder": 150,000,000 and 50,000,000. The other way round they are 200,000,000 and 0: this shows in lines, not in bills.
    -- With all parts of the book first, desk 3 would have 210,000,000; with all remainders first, desk 9 nothing; with parts at desk 0, that 210,000,000
    ∷ owed parts (0 ∷ 150000000 ∷ 50000000 ∷ 60000000 ∷ 0 ∷ 10000000 ∷ []) (desk 5 200000000 (desk 7 60000000 (desk 9 10000000 none)))
    ∷ billed parts 1000 (desk 5 20000000 (desk 7 6000000 (desk 9 1000000 none)))
    -- "The A3 excess goes to desk 0": 250,000,000, and each reinsurer's own 100,000,000 to its desk; shared out, each would have 83,333,333 more
    ∷ owed (t8_at 1 2 3) (100000000 ∷ 100000000 ∷ 100000000 ∷ []) (desk 0 250000000 (desk 1 100000000 (desk 2 100000000 (desk 3 100000000 none))))
    ∷ billed (t8_at 1 2 3) 1000 (desk 0 25000000 (desk 1 10000000 (desk 2 10000000 (desk 3 10000000 none))))
    -- on top of what desk 0's own lines have
    ∷ owed (t8_at 255 0 255) (100000000 ∷ 100000000 ∷ 100000000 ∷ []) (desk 0 350000000 (desk 255 200000000 none))
    ∷ billed (t8_at 255 0 255) 1000 (desk 0 35000000 (desk 255 20000000 none))
    -- "Within a group's tier, what stands": the cascade's. Against tier 2's own limit desk 255 would have 0; with the cascade in book order desk 4 300,000,000
    ∷ owed t2_at (50000000 ∷ 50000000 ∷ []) (desk 4 50000000 (desk 255 50000000 none))
    ∷ billed t2_at 1000 (desk 4 5000000 (desk 255 5000000 none))
    -- What has no limit has no excess, and takes nothing of what stands in its group: else desk 4 would have 260,000,000. A linked asset has no line: else desk 3
    -- would have 50,000,000
    ∷ owed unlimited (0 ∷ 10000000 ∷ []) (desk 4 10000000 none)
    ∷ billed unlimited 1000 (desk 4 1000000 none)
    -- "Within a group's tier": out of what stands in tier 0 of both groups, desk 3 would have 20,000,000 and desk 4 30,000,000; name by name, desk 3 0
    ∷ owed groups (0 ∷ 0 ∷ 30000000 ∷ 20000000 ∷ []) (desk 3 30000000 (desk 4 20000000 none))
    ∷ billed groups 1000 (desk 3 3000000 (desk 4 2000000 none))
    -- "Desk by desk from 0, the cost is the running excess times the rate, rounded down, less the same figure before that desk": 17, 32 and 41 give 1, 3 and 4.
    -- Each desk rounded by itself, the bills would be 1, 1 and 0; to the nearest 2, 1 and 1; from desk 255 down, or in the book's order of desks, 2, 2 and 0
    ∷ owed rounded (9 ∷ 17 ∷ 15 ∷ []) (desk 3 17 (desk 7 15 (desk 9 9 none)))
    ∷ billed rounded 1000 (desk 3 1 (desk 7 2 (desk 9 1 none)))
    -- 17, 32 and 41 give 0, 0 and 1
    ∷ billed rounded 250 (desk 9 1 none)
    -- the first and the last desk: 15 and 22 give 1 and 2, where 7 by itself gives 0
    ∷ owed ends (7 ∷ 15 ∷ []) (desk 0 15 (desk 255 7 none))
    ∷ billed ends 1000 (desk 0 1 (desk 255 1 none))
    ∷ []

bills-hold : T (every (λ t. t) bills)
unfolding bills_computed owed billed bills
bills-hold = tt

-- ---- the answers, and the lent buffer

abbrev answer : List ℕ → ℕ → ℕ → Answer
answer book rate n = bill_answer published_bytes book rate n

-- the bytes lent, each of them 7, and what stands there afterwards
abbrev written : List ℕ → ℕ → ℕ → List ℕ
written book rate n = written_by (answer book rate n) (bills_of published_bytes book rate) (replicate n 7)

-- refused 14, 15 and 17
abbrev over_total : List ℕ
over_total = desk_bytes 4 0 0 (name ∷ []) (reinsured_at 1 1 5 ∷ []) []

abbrev over_excluded : List ℕ
over_excluded = desk_bytes 0 0 1 [] [] []

abbrev special : List ℕ
special = desk_bytes 4 0 0 (name ∷ []) (plain_at 1 11 1 5 ∷ desk_asset 1 9 0 3 0 1 0 5 0 0 0 5 ∷ []) []

unfoldable answers : List Bool
answers =
    -- "up to 1,000", "19 when the rate exceeds 1,000"
    accepted (answer cut 1000 2048) 2048
    ∷ turned (answer cut 1001 2048) 19 0
    ∷ turned (answer cut 18446744073709551615 2048) 19 0
    -- "after 15", and before 16
    ∷ turned (answer over_excluded 1001 0) 15 0
    ∷ turned (answer over_total 1001 0) 14 0
    ∷ turned (answer special 1001 0) 17 2
    ∷ turned (answer [] 1001 0) 5 0
    ∷ turned (bill_answer (take 121 published_bytes) [] 1001 0) 1 0
    ∷ turned (answer over_excluded 1000 2048) 15 0
    ∷ turned (answer cut 1001 0) 19 0
    -- "16 compares that length", and not that of the report, 112 bytes
    ∷ turned (answer cut 1000 0) 16 0
    ∷ turned (answer cut 1000 2047) 16 0
    ∷ accepted (answer cut 1000 2049) 2048
    -- "256 amounts of eight bytes": those of desks 0, 1 and 2, and the last one
    ∷ same (take 24 (written cut 1000 2048))
    (0 ∷ 0 ∷ 0 ∷ 0 ∷ 0 ∷ 0 ∷ 0 ∷ 0 ∷ 64 ∷ 75 ∷ 76 ∷ 0 ∷ 0 ∷ 0 ∷ 0 ∷ 0 ∷ 192 ∷ 198 ∷ 45 ∷ 0 ∷ 0 ∷ 0 ∷ 0 ∷ 0 ∷ [])
    ∷ same (drop 2040 (written ends 1000 2048)) (1 ∷ 0 ∷ 0 ∷ 0 ∷ 0 ∷ 0 ∷ 0 ∷ 0 ∷ [])
    -- bytes behind the bills stay
    ∷ same (amounts_in desk_count (written cut 1000 2051)) (desk 1 5000000 (desk 2 3000000 none))
    ∷ same (drop 2048 (written cut 1000 2051)) (7 ∷ 7 ∷ 7 ∷ [])
    -- a refusal leaves all as it was
    ∷ same (written cut 1000 2047) (replicate 2047 7)
    ∷ same (written cut 1001 2051) (replicate 2051 7)
    ∷ []

answers-hold : T (every (λ t. t) answers)
unfolding bills_computed answers
answers-hold = tt
