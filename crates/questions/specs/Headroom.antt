-- C-16: the answer to a schedule, a book, a list of questions and a lent buffer, and what stands in the buffer afterwards.
--   asked group_of tier_for            the exposure that a question speaks of, its group and its tier
--   answer_to answers_of               the answer for a place and a kind; the answers' bytes
--   headroom_check headroom_answer     the checks 1 to 15, 17, 20 and 21; the answers' length, or a refusal
--   answer_in AnswerRight             an answer as it is read; that it is the greatest amount, and the same when sent singly
--   Asked                            all that the entry promises
use Rattle.std.specs.Prelude.{List, map, ◌≡◌, ℕ, ◌*◌, ◌≤◌, ◌<◌, length, take, drop, Ok, Err}
use Rattle.words.specs.Words.{◌≤?◌, count_from}
use Rattle.wire.specs.Bytes.{M, u64_at}
use Rattle.wire.specs.Amounts.{amounts_bytes}
use Rattle.refusal.specs.declared.Refusal.TheVariants.{Questions, AnswersShort}
use Rattle.refusal.specs.Chain.{refuse◌unless◌, ◌and_then◌, answer_by, Answer, Checked}
use Rattle.figures.specs.Report.{charge}
use Rattle.figures.specs.Read.{charge_in}
use Rattle.headroom.specs.Headroom.{Greatest, headroom_of}
use Rattle.schedule.specs.Check.{schedule_check}
use Rattle.book.specs.Records.{C, counterparty_at}
use Rattle.book.specs.Book.{book_of, top_of}
use Rattle.book.specs.Check.{book_check}
use Rattle.exposure.specs.declared.Exposure.{Exposure}
use Rattle.exposure.specs.Tier.{tier_of}
use Rattle.exposure.specs.Values.{fund_check}
use Rattle.report.specs.Answer.{fund_in, report_of, written_by}
use Rattle.asking.specs.Questions.{answer_size, count_of, place_at, kind_at, question_at, good_list}

-- an exposure of that kind to that counterparty; its entry and months are 0, and its amount is what is asked for
abbrev pub asked : ℕ → ℕ → Exposure
asked place kind = record { counterparty = place; kind = kind; entry = 0; months = 0; amount = 0 }

-- "that group's tier": the group of the counterparty, and the tier of such an exposure
abbrev pub group_of : List ℕ → ℕ → ℕ
group_of book place = top_of (counterparty_at book) place

abbrev pub tier_for : List ℕ → ℕ → ℕ → ℕ
tier_for book place kind = tier_of (counterparty_at book) (asked place kind)

-- "the greatest amount up to M that can be added to that group's tier, the report's limits held, without raising the charge"
unfoldable pub answer_to : List ℕ → List ℕ → ℕ → ℕ → ℕ
answer_to schedule book place kind = headroom_of (fund_in schedule book) (group_of book place) (tier_for book place kind) M

-- one behind the other, a u64 each
unfoldable pub answers_of : List ℕ → List ℕ → List ℕ → List ℕ
answers_of schedule book questions =
    amounts_bytes (map (λ k. answer_to schedule book (place_at questions k) (kind_at questions k)) (count_from 0 (count_of questions)))

-- 1 to 13, 17, 14 and 15; "20 when a place or kind is out of range, the list is over 200 or its bytes aren't three a question, and 21 when the answer
-- buffer is shorter than eight bytes a question; both after 15, in that order"
unfoldable pub headroom_check : List ℕ → List ℕ → List ℕ → ℕ → Checked
headroom_check schedule book questions buffer =
    schedule_check schedule
    and_then book_check book
    and_then fund_check (book_of book)
    and_then (refuse Questions unless good_list (C book) questions)
    and_then (refuse AnswersShort unless answer_size * count_of questions ≤? buffer)

-- the answer to a buffer of so many bytes
unfoldable pub headroom_answer : List ℕ → List ℕ → List ℕ → ℕ → Answer
headroom_answer schedule book questions buffer = answer_by (headroom_check schedule book questions buffer) (answer_size * count_of questions)

-- the answer to question k, read off bytes
abbrev pub answer_in : List ℕ → ℕ → ℕ
answer_in R k = u64_at R (answer_size * k)

-- of question k, and of the bytes R:
-- charge     the charge that is not to be raised is the one that the report states
-- greatest   "the greatest amount up to M (..) without raising the charge; one cent more raises it unless the answer is M"
-- alone      sent singly, the question is answered
-- same       "each answer equals what the question gets when sent singly"
pub record AnswerRight (schedule book questions R : List ℕ) (k : ℕ) : Type 0 where
  pub charge : charge_in (report_of schedule book) ≡ charge (fund_in schedule book)
  pub greatest :
      Greatest (fund_in schedule book) (group_of book (place_at questions k)) (tier_for book (place_at questions k) (kind_at questions k)) M (answer_in R k)
  pub alone : (buffer : ℕ) → answer_size ≤ buffer → headroom_answer schedule book (question_at questions k) buffer ≡ Ok answer_size
  pub same : answers_of schedule book (question_at questions k) ≡ take answer_size (drop (answer_size * k) R)

-- of every question, where there are answers
abbrev pub RightBy : Answer → List ℕ → List ℕ → List ℕ → List ℕ → Type 0
RightBy (Ok length) schedule book questions R = (k : ℕ) → k < count_of questions → AnswerRight schedule book questions R k
RightBy (Err why) schedule book questions R = Unit {0}

-- what the entry promises of its answer r and of the lent buffer, `before` it and `after`
pub record Asked (schedule book questions before after : List ℕ) (r : Answer) : Type 0 where
  pub answer : r ≡ headroom_answer schedule book questions (length before)
  pub bytes : after ≡ written_by r (answers_of schedule book questions) before
  pub right : RightBy r schedule book questions after
