-- A refusal behind the schedule's own, out of the answer to a report of no bytes.
--   schedule-numbers                1 to 4 are the schedule's
--   no-report                       no bytes are refused by 1 to 4, or else by 5
--   own_first other-first no_length what each answer to them says
use Rattle.std.proofs.Common.{Ok, Err}
use mathlib.Core.Bool.{Bool, true, false}
use mathlib.Core.List.{List, []}
use mathlib.Core.Path.{◌≡◌, refl, ap, ◌∙◌}
use Prim.Native.Nat.{ℕ, ◌≤◌, ◌<◌}
use native.Mathlib.Omega.{arith}
use lib.ListN.{length}
use Rattle.words.specs.Words.{◌=?◌}
use Rattle.refusal.specs.declared.Refusal.{Refusal}
use Rattle.refusal.specs.declared.Refusal.TheVariants.{ScheduleLength, ScheduleMark, ScheduleVersion, ScheduleRates, BookLength}
use Rattle.refusal.specs.Refusals.{number_of}
use Rattle.refusal.specs.Chain.{refuse◌unless◌, ◌and_then◌, answer_by, Answer, Checked}
use Rattle.schedule.specs.Schedule.{schedule_size, version, written_of}
use Rattle.schedule.specs.Check.{most_written, schedule_marked, known, rates_fit, fields_check, schedule_check}
use Rattle.book.specs.Check.{book_check}
use Rattle.report.specs.Answer.{report_of, check_of, answer_of}
use Rattle.day.specs.Moving.{refused_behind}

-- the number of what checks found, and of an answer's refusal
abbrev found_number : Checked → ℕ
found_number (Ok _) = 0
found_number (Err why) = number_of why

abbrev answer_number : Answer → ℕ
answer_number (Ok length) = 0
answer_number (Err why) = number_of why

four-checks : (a b c d : Bool) → found_number ((refuse ScheduleLength unless a) and_then (refuse ScheduleMark unless b) and_then (refuse ScheduleVersion unless c) and_then (refuse ScheduleRates unless d)) ≤ 4
four-checks false b c d = omega arith
four-checks true false c d = omega arith
four-checks true true false d = omega arith
four-checks true true true false = omega arith
four-checks true true true true = omega arith

pub schedule-numbers : (s : List ℕ) → found_number (schedule_check s) ≤ 4
unfolding schedule_check fields_check
schedule-numbers s = four-checks (length s =? schedule_size) (schedule_marked s) (known (version s)) (rates_fit (most_written (version s)) (written_of s))

pub no-report : (schedule : List ℕ) → answer_of schedule [] 0 ≡ answer_by (schedule_check schedule and_then Err BookLength) (length (report_of schedule []))
unfolding answer_of check_of book_check
no-report schedule = refl

module _ (schedule : List ℕ) (why : Refusal) where
  pub own_first : {own : Refusal} → Err own ≡ answer_of schedule [] 0 → number_of own < 5 → Err own ≡ refused_behind (schedule_check schedule) why
  own_first {own} e l = by (schedule_check schedule) (e ∙ no-report schedule)
    where
      by : (c : Checked) → Err own ≡ answer_by (c and_then Err BookLength) (length (report_of schedule [])) → Err own ≡ refused_behind c why
      by (Ok _) q = absurd (omega (arith, ap answer_number q))
      by (Err w) q = q

  pub other-first : {own : Refusal} → Err own ≡ answer_of schedule [] 0 → 5 ≤ number_of own → Err why ≡ refused_behind (schedule_check schedule) why
  other-first {own} e l = by (schedule_check schedule) refl (e ∙ no-report schedule)
    where
      by : (c : Checked) → schedule_check schedule ≡ c → Err own ≡ answer_by (c and_then Err BookLength) (length (report_of schedule [])) → Err why ≡ refused_behind c why
      by (Ok _) f q = refl
      by (Err w) f q = absurd (omega (arith, ap answer_number q, ap found_number f, schedule-numbers schedule))

  pub no_length : {l : ℕ} → Ok l ≡ answer_of schedule [] 0 → Err why ≡ refused_behind (schedule_check schedule) why
  no_length {l} e = by (schedule_check schedule) (e ∙ no-report schedule)
    where
      by : (c : Checked) → Ok l ≡ answer_by (c and_then Err BookLength) (length (report_of schedule [])) → Err why ≡ refused_behind c why
      by (Ok _) q = absurd (let z : ◌≡◌ {A = ℕ} 0 1 = cc in omega arith)
      by (Err w) q = absurd (let z : ◌≡◌ {A = ℕ} 0 1 = cc in omega arith)
