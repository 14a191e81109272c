-- "Checked sums: T1 to T10 hold as one proved table", computed from schedule bytes and book bytes to report bytes.
use Rattle.std.specs.Prelude.{List, [], ◌∷◌, ◌++◌, ℕ, T, length}
use Rattle.words.specs.Words.{every}
use Rattle.book.specs.Build.{asset, mitigant, book_bytes}
use Rattle.figures.specs.Read.{group_excess_in, charge_in}
use Rattle.examples.specs.Build.{plain, reinsured, entered, usual, t2, name, graded_name, bank, registered}
use Rattle.examples.specs.Reading.{vaf_in, vaf'_in, a3_sum_in, a3_limit_in, printed, line}
use Rattle.examples.specs.Table.{Case, case, right}
use Rattle.examples.specs.Opened.{report_computed}

abbrev charges : List ℕ → List ℕ
charges r = charge_in r ∷ []

abbrev t3 : ℕ → List ℕ
t3 value = usual (name ∷ []) (plain 11 1 value ∷ []) []

abbrev t4 : ℕ → ℕ → List ℕ
t4 who bills = usual (bank ∷ bank ∷ []) (plain 4 1 4000000000 ∷ plain 3 who bills ∷ []) []

abbrev pub t6 : ℕ → List ℕ
t6 total = book_bytes total 0 0 (name ∷ []) (plain 11 1 1 ∷ []) []

abbrev pub t7 : List ℕ
t7 = book_bytes 71 0 0 (name ∷ []) (entered 2 12 1 10 ∷ []) []

abbrev t8 : List ℕ
t8 =
    usual (graded_name ∷ graded_name ∷ graded_name ∷ [])
    (reinsured 1 0 600000000 ∷ reinsured 2 0 600000000 ∷ reinsured 3 0 600000000 ∷ []) []

abbrev t9 : List ℕ → List ℕ
t9 reinsurer = usual (reinsurer ∷ bank ∷ []) (reinsured 1 1 101 ∷ []) (mitigant 5 8 2 101 ∷ [])

abbrev t10 : ℕ → List ℕ
t10 flags = usual (name ∷ []) (asset 9 flags 0 0 1 0 100 0 0 120 100 ∷ []) []

unfoldable pub table : List Case
table =
    -- T1 "empty book: 72 bytes, charge 0"
    case (usual [] [] []) (λ r. length r ∷ charge_in r ∷ []) (72 ∷ 0 ∷ [])
    -- T2 "kind 11 and kind 6, one ungraded name, 300000000 each"
    ∷ case t2 (λ r. printed r ++ (length r ∷ charge_in r ∷ []))
    (line 1 0 300000000 250000000 250000000 50000000 ++ line 1 2 300000000 500000000 250000000 50000000 ++ (152 ∷ 100000000 ∷ []))
    -- T3 "kind 11 at 250000000: excess 0; one more: 1"
    ∷ case (t3 250000000) printed (line 1 0 250000000 250000000 250000000 0)
    ∷ case (t3 250000001) printed (line 1 0 250000001 250000000 250000000 1)
    -- T4 "deposits 4000000000, another bank's bills 1000000000: 0; bills one more: 1"
    ∷ case (t4 2 1000000000) charges (0 ∷ [])
    ∷ case (t4 2 1000000001) charges (1 ∷ [])
    -- T5 "same bank: 1000000000"
    ∷ case (t4 1 1000000000) charges (1000000000 ∷ [])
    -- T6 "VAF 39, base 0: i limit 0; 40: 1"
    ∷ case (t6 39) (λ r. vaf_in r ∷ printed r) (39 ∷ line 1 0 1 0 0 1)
    ∷ case (t6 40) (λ r. vaf_in r ∷ printed r) (40 ∷ line 1 0 1 1 1 0)
    -- T7 "VAF' 71, base 0: tier 4 limit 3, not 2"
    ∷ case t7 (λ r. vaf'_in r ∷ printed r) (71 ∷ line 1 4 10 3 3 7)
    -- T8 "three graded unrelated reinsurers of kind 0 without flags, value and combination stress 600000000: charge 550000000, not 850000000"
    ∷ case t8 (λ r. group_excess_in r ∷ a3_sum_in r ∷ a3_limit_in r ∷ charge_in r ∷ []) (300000000 ∷ 1500000000 ∷ 1250000000 ∷ 550000000 ∷ [])
    -- T9 "reinsurance net 101, kind 0 without flags, good letter of 101: covered 50; registered reinsurer: 101"
    ∷ case (t9 name) printed (line 1 1 51 250000000 250000000 0 ++ line 2 11 50 2500000000 2500000000 0)
    ∷ case (t9 registered) printed (line 2 11 101 2500000000 2500000000 0)
    -- T10 "insurance stress 120, combination 100: 100 without bit 1, 120 with"
    ∷ case (t10 0) printed (line 1 1 100 250000000 250000000 0)
    ∷ case (t10 2) printed (line 1 1 120 250000000 250000000 0)
    ∷ []

pub holds : T (every right table)
unfolding report_computed table right
holds = tt
