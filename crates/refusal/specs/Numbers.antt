-- The refusals' numbers and places, computed: one for each row of document 01's table, for C-11's 17, C-13's 18, C-14's 19, C-16's 20 and 21 and C-19's 22, and the place of a record where there is one.
use Rattle.std.specs.Prelude.{List, [], ◌∷◌, map, ◌≡◌, refl}
use Rattle.words.specs.Words.{count_from}
use Rattle.refusal.specs.declared.Refusal.{Refusal}
use Rattle.refusal.specs.declared.Refusal.TheVariants.{ScheduleLength, ScheduleMark, ScheduleVersion, ScheduleRates, BookLength, BookMark, BookVersion, BookCounts, BookAmounts, Counterparty, Asset, Mitigant, MitigantCounts, ReinsuranceValues, StressedAssets, BufferShort, SpecialistEntry, ManyMitigants, CostRate, Questions, AnswersShort, Movement}
use Rattle.refusal.specs.Refusals.{number_of, place_of}

-- the table's rows and 17 to 22, those of a record at places 7 to 11
abbrev rows : List Refusal
rows =
    ScheduleLength ∷ ScheduleMark ∷ ScheduleVersion ∷ ScheduleRates ∷ BookLength ∷ BookMark ∷ BookVersion ∷ BookCounts ∷ BookAmounts
    ∷ Counterparty 7 ∷ Asset 8 ∷ Mitigant 9 ∷ MitigantCounts ∷ ReinsuranceValues ∷ StressedAssets ∷ BufferShort ∷ SpecialistEntry 10 ∷ ManyMitigants 11 ∷ CostRate ∷ Questions ∷ AnswersShort ∷ Movement ∷ []

pub numbers : map number_of rows ≡ count_from 1 22
unfolding count_from
numbers = refl

pub places : map place_of rows ≡ 0 ∷ 0 ∷ 0 ∷ 0 ∷ 0 ∷ 0 ∷ 0 ∷ 0 ∷ 0 ∷ 7 ∷ 8 ∷ 9 ∷ 0 ∷ 0 ∷ 0 ∷ 0 ∷ 10 ∷ 11 ∷ 0 ∷ 0 ∷ 0 ∷ 0 ∷ []
places = refl
