-- How long a report is at most, so that a caller may lend enough without knowing its length.
--   most_lines most_report   the most lines, and the most bytes
--   report-most            no report of an accepted book is longer
--   never-short            a buffer of so many bytes is not refused by 16
use Rattle.std.proofs.Common.{Ok, Err}
use mathlib.Core.List.{List}
use mathlib.Core.Path.{◌≡◌, refl}
use Prim.Native.Nat.{ℕ, ◌+◌, ◌*◌, ◌≤◌}
use native.Mathlib.Omega.{arith}
use lib.ListN.{length}
use borrow.Author.Tests.{le-leb}
use Rattle.words.specs.Words.{◌≤?◌}
use Rattle.refusal.specs.declared.Refusal.TheVariants.{BufferShort}
use Rattle.refusal.specs.Chain.{refuse◌unless◌, ◌and_then◌, Checked}
use Rattle.schedule.specs.Schedule.{schedule_of}
use Rattle.schedule.specs.Check.{schedule_check}
use Rattle.book.specs.Records.{most_assets, most_mitigants}
use Rattle.book.specs.Book.{book_of}
use Rattle.book.specs.Check.{book_check}
use Rattle.book.specs.AcceptedLaws.{accepted}
use Rattle.exposure.specs.Values.{fund_check}
use Rattle.figures.specs.Report.{head_size, line_size}
use Rattle.figures.proofs.Size.{report-long}
use Rattle.fund.proofs.MostLines.{lines-most}
use Rattle.report.specs.Answer.{fund_in, report_of, check_of}

-- an asset and a mitigant each make one line at most
abbrev pub most_lines : ℕ
most_lines = most_assets + most_mitigants

abbrev pub most_report : ℕ
most_report = head_size + line_size * most_lines

pub report-most : (schedule book : List ℕ) → book_check book ≡ Ok tt → length (report_of schedule book) ≤ most_report
unfolding report_of fund_in
report-most schedule book e =
    let a = accepted book e in
    omega (arith, report-long (fund_in schedule book), lines-most (schedule_of schedule) book a, a.assets, a.mitigants)

-- with so many bytes the answer goes by the checks before 16 alone
pub never-short : (schedule book : List ℕ) (buffer : ℕ) → most_report ≤ buffer
    → check_of schedule book buffer ≡ (schedule_check schedule and_then book_check book and_then fund_check (book_of book))
unfolding check_of
never-short schedule book buffer h = by (schedule_check schedule) (book_check book) (fund_check (book_of book)) refl
  where
    by : (a b f : Checked) → book_check book ≡ b → (a and_then b and_then f and_then (refuse BufferShort unless length (report_of schedule book) ≤? buffer)) ≡ (a and_then b and_then f)
    by (Err why) b f e = refl
    by (Ok _) (Err why) f e = refl
    by (Ok _) (Ok _) (Err why) e = refl
    by (Ok _) (Ok _) (Ok _) e = rw (le-leb (length (report_of schedule book)) buffer (omega (arith, report-most schedule book e)))
