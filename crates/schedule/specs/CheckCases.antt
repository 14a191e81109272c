-- Refusals 1 to 4, computed on the definitions: document 01's examples and both sides of each bound, by bytes changed in the published schedule.
use Rattle.refusal.specs.Chain.{Checked}
use Rattle.std.specs.Prelude.{List, [], ◌∷◌, ◌++◌, ◌≡◌, refl, ℕ, ◌+◌, take, Ok, Err}
use Rattle.words.specs.Words.{each_of, All}
use Rattle.wire.specs.Bytes.{M, u16_at, u64_at, bytes16, bytes64, placed}
use Rattle.refusal.specs.declared.Refusal.TheVariants.{ScheduleLength, ScheduleMark, ScheduleVersion, ScheduleRates}
use Rattle.schedule.specs.Schedule.{row_at, written_of, published, row_bytes, head_bytes, schedule_bytes}
use Rattle.schedule.specs.Check.{row_fits, rates_fit, fields_check, schedule_check}

-- a schedule's bytes, and what the checks find
record Case : Type 0 where
  bytes : List ℕ
  finds : Checked

abbrev case : List ℕ → Checked → Case
case bytes finds = record { bytes = bytes; finds = finds }

-- the published schedule with other bytes at a place, and so in version 2
abbrev with : ℕ → List ℕ → List ℕ
with at vs = placed (schedule_bytes published) at vs

abbrev with2 : ℕ → List ℕ → List ℕ
with2 at vs = placed (with 4 (bytes16 2)) at vs

cases : List Case
cases =
    -- 1 "schedule not 122 bytes": "121"; 123; none
    case (take 121 (schedule_bytes published)) (Err ScheduleLength)
    ∷ case (schedule_bytes published ++ (0 ∷ [])) (Err ScheduleLength)
    ∷ case [] (Err ScheduleLength)
    -- 2 "its mark or zero": "ACB"; no zero
    ∷ case (with 2 (66 ∷ [])) (Err ScheduleMark)
    ∷ case (with 3 (1 ∷ [])) (Err ScheduleMark)
    -- 3 "its version", C-15: "passes 1 and 2 (its example is now 3)"; 0; 257 and 258, whose low bytes are 1 and 2; 512
    ∷ case (with 4 (bytes16 1)) (Ok tt)
    ∷ case (with 4 (bytes16 2)) (Ok tt)
    ∷ case (with 4 (bytes16 3)) (Err ScheduleVersion)
    ∷ case (with 4 (bytes16 0)) (Err ScheduleVersion)
    ∷ case (with 4 (bytes16 257)) (Err ScheduleVersion)
    ∷ case (with 4 (bytes16 258)) (Err ScheduleVersion)
    ∷ case (with 4 (bytes16 512)) (Err ScheduleVersion)
    -- 4 "a rate over 1,500, percent over 100 or fixed amount over M": row c's rates, row z's rates, percents, row c's fixed amount
    ∷ case (with 10 (bytes16 1501)) (Err ScheduleRates)
    ∷ case (with 12 (bytes16 1501)) (Err ScheduleRates)
    ∷ case (with 14 (bytes16 1501)) (Err ScheduleRates)
    ∷ case (with 112 (bytes16 1501)) (Err ScheduleRates)
    ∷ case (with 112 (bytes16 15000)) (Err ScheduleRates)
    ∷ case (with 6 (bytes16 101)) (Err ScheduleRates)
    ∷ case (with 8 (bytes16 101)) (Err ScheduleRates)
    ∷ case (with 16 (bytes64 (M + 1))) (Err ScheduleRates)
    ∷ case (with 6 (bytes16 100 ++ bytes16 100 ++ bytes16 1500 ++ bytes16 1500 ++ bytes16 1500 ++ bytes64 M)) (Ok tt)
    -- C-15: "refusal 4 reads 15,000 for version 2", percents and fixed amounts as before
    ∷ case (with2 10 (bytes16 1501)) (Ok tt)
    ∷ case (with2 10 (bytes16 15001)) (Err ScheduleRates)
    ∷ case (with2 12 (bytes16 15001)) (Err ScheduleRates)
    ∷ case (with2 14 (bytes16 15001)) (Err ScheduleRates)
    ∷ case (with2 112 (bytes16 15001)) (Err ScheduleRates)
    ∷ case (with2 6 (bytes16 101)) (Err ScheduleRates)
    ∷ case (with2 8 (bytes16 101)) (Err ScheduleRates)
    ∷ case (with2 16 (bytes64 (M + 1))) (Err ScheduleRates)
    ∷ case (with2 6 (bytes16 100 ++ bytes16 100 ++ bytes16 15000 ++ bytes16 15000 ++ bytes16 15000 ++ bytes64 M)) (Ok tt)
    -- "Checked by rising number": mark and version; version and percent; version and a rate that neither version has
    ∷ case (with 2 (66 ∷ 0 ∷ 3 ∷ [])) (Err ScheduleMark)
    ∷ case (with 4 (bytes16 3 ++ bytes16 101)) (Err ScheduleVersion)
    ∷ case (placed (with 4 (bytes16 3)) 10 (bytes16 65535)) (Err ScheduleVersion)
    ∷ []

Right : Case → Type 0
Right c = schedule_check c.bytes ≡ c.finds

checks-right : All Right cases
unfolding Right cases schedule_bytes head_bytes row_bytes each_of schedule_check fields_check rates_fit row_fits written_of row_at u16_at u64_at
checks-right =
    (refl, (refl, (refl, (refl, (refl, (refl, (refl, (refl, (refl, (refl, (refl, (refl, (refl, (refl, (refl, (refl, (refl, (refl, (refl, (refl, (refl, (refl, (refl, (refl, (refl, (refl, (refl, (refl, (refl, (refl, (refl, (refl, (refl, tt)))))))))))))))))))))))))))))))))
