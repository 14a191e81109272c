-- Whatever is wanted: what is refused changes no byte.
--   report_last bills_last answers_last   the checks behind 15, of each
--   all_reported all_billed all_asked     what any check refuses
--   reported billed asked                 what 1 to 15 and 17 refuse
use Rattle.std.specs.Prelude.{Ok, Err}
use mathlib.Core.List.{List}
use mathlib.Core.Path.{◌≡◌}
use Prim.Native.Nat.{ℕ, ◌*◌}
use native.Mathlib.Omega.{arith}
use lib.ListN.{length}
use Rattle.words.specs.Words.{◌≤?◌}
use Rattle.refusal.specs.declared.Refusal.{Refusal}
use Rattle.refusal.specs.declared.Refusal.TheVariants.{BufferShort, CostRate, Questions, AnswersShort}
use Rattle.refusal.specs.Chain.{refuse◌unless◌, ◌and_then◌, Checked, Answer}
use Rattle.bills.specs.Bills.{most_cost_rate, bills_size}
use Rattle.schedule.specs.Check.{schedule_check}
use Rattle.book.specs.Records.{C}
use Rattle.book.specs.Book.{book_of}
use Rattle.book.specs.Check.{book_check}
use Rattle.exposure.specs.Values.{fund_check}
use Rattle.report.specs.Answer.{report_of, check_of, Answered}
use Rattle.report.proofs.Chain as report
use Rattle.billing.specs.Billed.{bill_check, Billed}
use Rattle.billing.proofs.Chain as billing
use Rattle.asking.specs.Questions.{answer_size, count_of, good_list}
use Rattle.questions.specs.Headroom.{headroom_check, Asked}
use Rattle.questions.proofs.Chain as questions
use Rattle.wanted.specs.Wanted.{Unchanged, AllUnchanged}

-- what the sections before refuse, more checks behind them do not change
still : {why : Refusal} (s b f last : Checked) → (s and_then b and_then f) ≡ Err why → (s and_then b and_then f and_then last) ≡ Err why
still (Err other) b f last e = e
still (Ok _) (Err other) f last e = e
still (Ok _) (Ok _) (Err other) last e = e
still (Ok _) (Ok _) (Ok _) last e = absurd (let z : ◌≡◌ {A = ℕ} 0 1 = cc in omega arith)

early : (promise : List ℕ → List ℕ → List ℕ → List ℕ → Answer → Type 0) (last : List ℕ → List ℕ → List ℕ → Checked) → AllUnchanged promise last → Unchanged promise
early promise last all schedule book before why e =
    all schedule book before why (still (schedule_check schedule) (book_check book) (fund_check (book_of book)) (last schedule book before) e)

-- ---- the report

abbrev pub report_last : List ℕ → List ℕ → List ℕ → Checked
report_last schedule book before = refuse BufferShort unless length (report_of schedule book) ≤? length before

pub all_reported : AllUnchanged Answered report_last
unfolding check_of
all_reported schedule book before why e = report.refused schedule book before e

pub reported : Unchanged Answered
reported = early Answered report_last all_reported

-- ---- the bills at a rate

abbrev pub bills_last : ℕ → List ℕ → List ℕ → List ℕ → Checked
bills_last rate schedule book before = (refuse CostRate unless rate ≤? most_cost_rate) and_then (refuse BufferShort unless bills_size ≤? length before)

pub all_billed : (rate : ℕ) → AllUnchanged (λ schedule book. Billed schedule book rate) (bills_last rate)
unfolding bill_check
all_billed rate schedule book before why e = billing.refused schedule book rate before e

pub billed : (rate : ℕ) → Unchanged (λ schedule book. Billed schedule book rate)
billed rate = early (λ schedule book. Billed schedule book rate) (bills_last rate) (all_billed rate)

-- ---- the answers to a list of questions

abbrev pub answers_last : List ℕ → List ℕ → List ℕ → List ℕ → Checked
answers_last list schedule book before =
    (refuse Questions unless good_list (C book) list) and_then (refuse AnswersShort unless answer_size * count_of list ≤? length before)

pub all_asked : (list : List ℕ) → AllUnchanged (λ schedule book. Asked schedule book list) (answers_last list)
unfolding headroom_check
all_asked list schedule book before why e = questions.refused schedule book list before e

pub asked : (list : List ℕ) → Unchanged (λ schedule book. Asked schedule book list)
asked list = early (λ schedule book. Asked schedule book list) (answers_last list) (all_asked list)
