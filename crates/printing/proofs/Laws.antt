-- What the answer and the lent buffer say of the text: report-printed, refusal-printed. promised: text put at the start keeps the promise.
use Rattle.std.proofs.Common.{Ok, Err}
use Rattle.refusal.specs.Chain.{Answer}
use mathlib.Core.Path.{◌≡◌, sym, ap, ap₂, ◌∙◌}
use mathlib.Core.List.{List, ◌++◌}
use Prim.Native.Nat.{ℕ, ◌≤◌}
use native.Mathlib.Omega.{arith}
use lib.ListN.{length, take, drop}
use lib.Seq.{length-take-le}
use Rattle.io.specs.Counts.{IsPrefixLen}
use Rattle.refusal.specs.declared.Refusal.{Refusal}
use Rattle.refusal.specs.Refusals.{number_of, place_of}
use Rattle.schedule.specs.Schedule.{schedule_size}
use Rattle.figures.specs.Report.{lines_of, charge}
use Rattle.figures.specs.Read.{lines_in, charge_in}
use Rattle.report.specs.Answer.{fund_in, report_of, Answered}
use Rattle.text.specs.Text.{refused_text, report_text, answer_text, lines_read}
use Rattle.digits.specs.Written as put
use Rattle.report_text.proofs.Back.{report-text}
use Rattle.printing.specs.Printed.{buffer_size, text_for, text_of, Printed}

module _ (schedule book before after : List ℕ) (size : length before ≡ buffer_size) where
  abbrev Told : Answer → Type 0
  Told r = Answered schedule book before after r

  by_answer : {r : Answer} → Told r → answer_text r (lines_of (fund_in schedule book)) (charge (fund_in schedule book)) ≡ text_for schedule book
  unfolding text_for
  by_answer a = rw (a.answer, size)

  -- the lines and the charge that are read off the buffer
  pub report-printed : (n : ℕ) → Told (Ok n) → report_text (lines_read after (lines_in after)) (charge_in after) ≡ text_for schedule book
  unfolding report_of
  report-printed n a = rw a.bytes (report-text (fund_in schedule book) (drop n before)) ∙ by_answer a

  pub refusal-printed : (why : Refusal) → Told (Err why) → refused_text (number_of why) (place_of why) ≡ text_for schedule book
  refusal-printed why a = by_answer a

-- text put at the start
pub promised : {input before t after : List ℕ} {r : ℕ} → put.Written before 0 t after r → t ≡ text_for (take schedule_size input) (drop schedule_size input) → Printed input before after r
unfolding text_of
promised {before = before} w e =
    record {
      size = omega (arith, w.place, ap length e);
      bytes = w.bytes ∙ ap₂ (λ (x : List ℕ) (k : ℕ). x ++ drop k before) e (sym w.place);
    }

-- a number of bytes that there are
pub counts : (n : ℕ) (l : List ℕ) → n ≤ length l → IsPrefixLen n l
counts n l h = (h, sym (length-take-le n l h))
