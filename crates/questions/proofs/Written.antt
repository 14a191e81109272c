-- The answers out of the tables are those of the definitions (answers-are); written, each is the greatest amount and the same when sent singly (asked-for).
use Rattle.std.proofs.Common.{Ok}
use mathlib.Core.Bool.{true}
use mathlib.Core.List.{List, [], ◌++◌, map}
use mathlib.Core.Path.{◌≡◌, refl, sym, ap, ◌∙◌}
use Prim.Native.Nat.{ℕ, ◌+◌, ◌*◌, ◌≤◌, ◌<◌}
use native.Mathlib.Omega.{arith}
use lib.ListN.{length, get_or, take, drop, length-map}
use lib.Seq.{ext_get_or}
use Rattle.words.specs.Words.{each_of, count_from}
use Rattle.words.specs.Sums.{length-count, count_at}
use Rattle.wire.specs.Bytes.{M, bytes64, placed}
use Rattle.wire.specs.Amounts.{amounts_bytes, amounts-length}
use Rattle.wire.proofs.Amounts.{amounts-in, amounts-at}
use Rattle.headroom.specs.Headroom.{Greatest}
use Rattle.headroom.proofs.Greatest.{greatest}
use Rattle.schedule.specs.Schedule.{schedule_of}
use Rattle.book.specs.Records.{C, counterparty_at}
use Rattle.book.specs.Book.{book_of}
use Rattle.book.proofs.TopLaws.{top-le, top_pos}
use Rattle.exposure.specs.Values.{fund_check}
use Rattle.book.specs.Accepted.{Accepted}
use Rattle.parties.specs.Rows.{tops_to}
use Rattle.cells.specs.Cells.{Rowed}
use Rattle.fund.specs.declared.Fund as made
use Rattle.fund.specs.Fund.{Passed, Exposed, RatedAs}
use Rattle.fund.specs.Figures.{order, fund_of}
use Rattle.report.specs.Answer.{fund_in}
use Rattle.report.proofs.Written.{ordered, report-charge}
use Rattle.asking.specs.Questions.{answer_size, count_of, place_at, kind_at, question_at, good_list}
use Rattle.questions.specs.Tables.{answers_at}
use Rattle.questions.specs.Headroom.{group_of, tier_for, answer_to, answers_of, answer_in, AnswerRight, Asked}
use Rattle.asking.proofs.Listed.{in-range, Listed, listed, single-place, single-kind, single-count, single-good}
use Rattle.questions.proofs.Answering.{answer-is}
use Rattle.questions.proofs.Chain.{fine}

-- f at 0 to n − 1
module _ (f : ℕ → ℕ) (n : ℕ) where
  pub counted-long : length (map f (count_from 0 n)) ≡ n
  counted-long = length-map (count_from 0 n) f ∙ length-count 0 n

  pub counted-at : (k : ℕ) → k < n → get_or (map f (count_from 0 n)) k 0 ≡ f k
  counted-at k l = count_at f 0 n k l ∙ ap f (omega arith)

pub counted_same : (f g : ℕ → ℕ) (n : ℕ) → ((k : ℕ) → k < n → f k ≡ g k) → map f (count_from 0 n) ≡ map g (count_from 0 n)
counted_same f g n h =
    ext_get_or 0 (map f (count_from 0 n)) (map g (count_from 0 n)) (counted-long f n ∙ sym (counted-long g n))
    (λ k l. let m : k < n = omega (arith, counted-long f n) in counted-at f n k m ∙ h k m ∙ sym (counted-at g n k m))

module _ (schedule b questions : List ℕ) where
  abbrev answer : ℕ → ℕ
  answer k = answer_to schedule b (place_at questions k) (kind_at questions k)

  answers-long : length (answers_of schedule b questions) ≡ answer_size * count_of questions
  unfolding answers_of
  answers-long = amounts-length (map answer (count_from 0 (count_of questions))) ∙ ap (λ (n : ℕ). answer_size * n) (counted-long answer (count_of questions))

  module _ (more : List ℕ) (k : ℕ) (l : k < count_of questions) where
    inside : k < length (map answer (count_from 0 (count_of questions)))
    inside = omega (arith, counted-long answer (count_of questions))

    read_answer : answer_in (answers_of schedule b questions ++ more) k ≡ answer k
    unfolding answers_of
    read_answer =
        let p : 0 + answer_size * k ≡ answer_size * k = omega arith in
        rw p at (amounts-in (map answer (count_from 0 (count_of questions))) [] more 0 k refl inside) ∙ counted-at answer (count_of questions) k l

    single-bytes : count_of (question_at questions k) ≡ 1 → answers_of schedule b (question_at questions k) ≡ take answer_size (drop (answer_size * k) (answers_of schedule b questions ++ more))
    unfolding answers_of amounts_bytes each_of count_from
    single-bytes one =
        let xs = map answer (count_from 0 (count_of questions)) in
        rw (one, single-place questions k, single-kind questions k)
        (ap bytes64 (sym (counted-at answer (count_of questions) k l)) ∙ sym (amounts-at xs more k inside))

  -- out of the tables
  pub answers-are :
      {groups : ℕ} {f : made.Fund} {words rows cells : List ℕ} → Accepted b → groups ≡ tops_to b (C b) → RatedAs schedule b f → Rowed b words rows → Exposed b groups cells
      → Listed (C b) questions → amounts_bytes (answers_at (order (schedule_of schedule) (book_of b)) f.limits words rows cells questions (count_of questions)) ≡ answers_of schedule b questions
  unfolding answers_of
  answers-are acc eg r w x l =
      ap amounts_bytes
      (counted_same _ answer (count_of questions) (λ k h. answer-is acc eg r w x (in-range (C b) (place_at questions k) (kind_at questions k) (l.good k h))))

  module _ (p : Passed schedule b) (f : fund_check (book_of b) ≡ Ok tt) (e : good_list (C b) questions ≡ true) where
    l : Listed (C b) questions
    l = listed (C b) questions e

    module _ (more : List ℕ) (k : ℕ) (h : k < count_of questions) where
      is-greatest : Greatest (fund_in schedule b) (group_of b (place_at questions k)) (tier_for b (place_at questions k) (kind_at questions k)) M (answer k)
      unfolding answer_to fund_in fund_of book_of
      is-greatest =
          let place = place_at questions k in
          let q = in-range (C b) place (kind_at questions k) (l.good k h) in
          greatest (fund_in schedule b) (ordered schedule b) (group_of b place) (tier_for b place (kind_at questions k)) M
          (top_pos (counterparty_at b) place q.first) (omega (arith, top-le (counterparty_at b) place, q.last))

      right : AnswerRight schedule b questions (answers_of schedule b questions ++ more) k
      right =
          let one = single-count questions k l h in
          record {
            charge = report-charge schedule b;
            greatest = rw (read_answer more k h) is-greatest;
            alone = λ buffer n. sym (rw one at (fine schedule b (question_at questions k) p f buffer (single-good questions k l h) (rw one n)));
            same = single-bytes more k h one;
          }

    pub asked-for : {before after : List ℕ} → answer_size * count_of questions ≤ length before → after ≡ placed before 0 (answers_of schedule b questions)
        → Asked schedule b questions before after (Ok (answer_size * count_of questions))
    asked-for {before} {after} n w =
        let d : 0 + length (answers_of schedule b questions) ≡ answer_size * count_of questions = omega (arith, answers-long) in
        let a : after ≡ answers_of schedule b questions ++ drop (answer_size * count_of questions) before = w ∙ ap (λ (k : ℕ). answers_of schedule b questions ++ drop k before) d in
        record {
          answer = fine schedule b questions p f (length before) e n;
          bytes = a;
          right = λ k h. rw a (right (drop (answer_size * count_of questions) before) k h);
        }
