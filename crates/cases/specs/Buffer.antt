-- The lent buffer: T2's report in it byte by byte, and what stands in it where it is longer than the report, as long and too short.
use Rattle.std.specs.Prelude.{Bool, List, [], ◌∷◌, ◌++◌, ℕ, T, replicate}
use Rattle.words.specs.Words.{every}
use Rattle.report.specs.Answer.{report_of, answer_of, written_by}
use Rattle.examples.specs.Build.{t2}
use Rattle.examples.specs.Table.{published_bytes, same, accepted, turned}
use Rattle.examples.specs.Opened.{report_computed}

-- "Report": the bytes of T2's, header and two lines
abbrev t2_report : List ℕ
t2_report =
    -- "ACR", zero, 1, 2 lines
    65 ∷ 67 ∷ 82 ∷ 0 ∷ 1 ∷ 0 ∷ 2 ∷ 0
    -- VAF and VAF' 10,000,000,000, all net 600,000,000, unlimited 0
    ∷ 0 ∷ 228 ∷ 11 ∷ 84 ∷ 2 ∷ 0 ∷ 0 ∷ 0
    ∷ 0 ∷ 228 ∷ 11 ∷ 84 ∷ 2 ∷ 0 ∷ 0 ∷ 0
    ∷ 0 ∷ 70 ∷ 195 ∷ 35 ∷ 0 ∷ 0 ∷ 0 ∷ 0
    ∷ 0 ∷ 0 ∷ 0 ∷ 0 ∷ 0 ∷ 0 ∷ 0 ∷ 0
    -- group excess 100,000,000, A3 sum 0, A3 limit 1,250,000,000, charge 100,000,000
    ∷ 0 ∷ 225 ∷ 245 ∷ 5 ∷ 0 ∷ 0 ∷ 0 ∷ 0
    ∷ 0 ∷ 0 ∷ 0 ∷ 0 ∷ 0 ∷ 0 ∷ 0 ∷ 0
    ∷ 128 ∷ 124 ∷ 129 ∷ 74 ∷ 0 ∷ 0 ∷ 0 ∷ 0
    ∷ 0 ∷ 225 ∷ 245 ∷ 5 ∷ 0 ∷ 0 ∷ 0 ∷ 0
    -- group 1, tier 0, tiers 0 and 2: 300,000,000, 250,000,000, 250,000,000, 50,000,000
    ∷ 1 ∷ 0 ∷ 0 ∷ 0 ∷ 5 ∷ 0 ∷ 0 ∷ 0
    ∷ 0 ∷ 163 ∷ 225 ∷ 17 ∷ 0 ∷ 0 ∷ 0 ∷ 0
    ∷ 128 ∷ 178 ∷ 230 ∷ 14 ∷ 0 ∷ 0 ∷ 0 ∷ 0
    ∷ 128 ∷ 178 ∷ 230 ∷ 14 ∷ 0 ∷ 0 ∷ 0 ∷ 0
    ∷ 128 ∷ 240 ∷ 250 ∷ 2 ∷ 0 ∷ 0 ∷ 0 ∷ 0
    -- group 1, tier 2: 300,000,000, 500,000,000, 250,000,000, 50,000,000
    ∷ 1 ∷ 0 ∷ 2 ∷ 0 ∷ 5 ∷ 0 ∷ 0 ∷ 0
    ∷ 0 ∷ 163 ∷ 225 ∷ 17 ∷ 0 ∷ 0 ∷ 0 ∷ 0
    ∷ 0 ∷ 101 ∷ 205 ∷ 29 ∷ 0 ∷ 0 ∷ 0 ∷ 0
    ∷ 128 ∷ 178 ∷ 230 ∷ 14 ∷ 0 ∷ 0 ∷ 0 ∷ 0
    ∷ 128 ∷ 240 ∷ 250 ∷ 2 ∷ 0 ∷ 0 ∷ 0 ∷ 0
    ∷ []

-- a buffer of so many bytes, each of them 7
abbrev lent : ℕ → List ℕ
lent n = replicate n 7

-- what stands in the buffer afterwards
abbrev written : ℕ → List ℕ
written n = written_by (answer_of published_bytes t2 n) (report_of published_bytes t2) (lent n)

unfoldable tests : List Bool
tests =
    accepted (answer_of published_bytes t2 152) 152
    ∷ same (written 152) t2_report
    -- "buffer shorter than report": one byte
    ∷ turned (answer_of published_bytes t2 151) 16 0
    ∷ same (written 151) (lent 151)
    -- bytes behind the report stay
    ∷ accepted (answer_of published_bytes t2 155) 152
    ∷ same (written 155) (t2_report ++ (7 ∷ 7 ∷ 7 ∷ []))
    ∷ []

holds : T (every (λ t. t) tests)
unfolding report_computed tests
holds = tt
