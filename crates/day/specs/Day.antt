-- C-19: "For every list of movements under one schedule, refused ones left out and nobody else writing the book".
--   Buffers             the two that are lent
--   answer_for left_by    a movement's answer, and what an answer leaves in both
--   after_one after_all   what a movement leaves in both, and a list of them
--   not_refused          those of a list that were not refused
--   afresh Current      the book made afresh from the assets then present; both buffers as after its report
use Rattle.refusal.specs.Chain.{Answer}
use Rattle.std.specs.Prelude.{List, [], ◌∷◌, ◌≡◌, ℕ, length, take, Ok, Err}
use Rattle.report.specs.Answer.{report_of, answer_of, written_by}
use Rattle.movement.specs.Raw.{raw_holdings, made_of}
use Rattle.movement.specs.Movement.{book_in, Movement, resulting, present}
use Rattle.day.specs.Moving.{movement_answer, stood_by}

-- "a lent buffer" for the book, and "a second buffer" for the report
pub record Buffers : Type 0 where
  pub book : List ℕ
  pub report : List ℕ

abbrev pub answer_for : List ℕ → Buffers → Movement → Answer
answer_for schedule d m = movement_answer schedule m d.book (length d.report)

-- what an answer to a movement leaves in both, as an entry promises it
abbrev pub left_by : List ℕ → Answer → Movement → Buffers → Buffers
left_by schedule r m d =
    let left = stood_by r (resulting (book_in d.book) m) d.book in
    record { book = left; report = written_by r (report_of schedule (book_in left)) d.report }

abbrev pub after_one : List ℕ → Buffers → Movement → Buffers
after_one schedule d m = left_by schedule (answer_for schedule d m) m d

unfoldable pub after_all : List ℕ → Buffers → List Movement → Buffers
after_all schedule d [] = d
after_all schedule d (m ∷ ms) = after_all schedule (after_one schedule d m) ms

-- "refused ones left out"
abbrev pub unless_refused : Answer → Movement → List Movement → List Movement
unless_refused (Ok bytes) m ms = m ∷ ms
unless_refused (Err why) m ms = ms

unfoldable pub not_refused : List ℕ → Buffers → List Movement → List Movement
not_refused schedule d [] = []
not_refused schedule d (m ∷ ms) = unless_refused (answer_for schedule d m) m (not_refused schedule (after_one schedule d m) ms)

-- the book "made afresh from the assets then present": those of b after movements none of which was refused
abbrev pub afresh : List ℕ → List Movement → List ℕ
afresh b ms = made_of b (present (raw_holdings b) ms)

-- both buffers as after a report of `fresh`: the book that stands in the one, and "the charge and the lines" at the start of the other, which the entry for reports gives of it
pub record Current (schedule fresh : List ℕ) (d : Buffers) : Type 0 where
  pub stands : book_in d.book ≡ fresh
  pub answer : answer_of schedule fresh (length d.report) ≡ Ok (length (report_of schedule fresh))
  pub report : take (length (report_of schedule fresh)) d.report ≡ report_of schedule fresh
