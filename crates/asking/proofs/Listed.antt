-- A list that 20 lets pass, question by question.
--   InRange in-range       a question's place and kind
--   Listed listed          how many questions there are, each in range
--   single-place single-kind single-listed   a question by itself is such a list, of one
use mathlib.Core.Bool.{Bool, true, not}
use mathlib.Core.List.{List, [], ◌∷◌}
use mathlib.Core.Path.{◌≡◌, ap, ◌∙◌}
use Prim.Native.Nat.{ℕ, ◌+◌, ◌*◌, ◌/◌, ◌≤◌, ◌<◌}
use native.Mathlib.Nat.{add-zero}
use native.Mathlib.Omega.{arith}
use lib.ListN.{length, get_or, drop, length-drop}
use lib.Seq.{length-take-le, get_or-take, get_or-drop}
use borrow.Author.Tests.{leb-true, eqb-true, eqb-false}
use Rattle.words.specs.Words.{◌≤?◌, ◌=?◌}
use Rattle.words.specs.Choice.{each-true, not-true}
use Rattle.words.specs.Below.{all_below, below}
use Rattle.wire.specs.Bytes.{u16_at}
use Rattle.asking.specs.Questions.{question_size, most_questions, count_of, place_at, kind_at, question_at, good_question, good_list}

pub record InRange (c place kind : ℕ) : Type 0 where
  pub first : 0 < place
  pub last : place ≤ c
  pub low : 0 < kind
  pub high : kind < 12
  pub other : kind ≡ 9 → ⊥

pub in-range : (c place kind : ℕ) → good_question c place kind ≡ true → InRange c place kind
unfolding good_question
in-range c place kind e =
    let h = each-true (1 ≤? place) ((place ≤? c) ∷ (1 ≤? kind) ∷ (kind ≤? 11) ∷ not (kind =? 9) ∷ []) e in
    record {
      first = omega (arith, leb-true 1 place h.0);
      last = leb-true place c h.1.0;
      low = omega (arith, leb-true 1 kind h.1.1.0);
      high = omega (arith, leb-true kind 11 h.1.1.1.0);
      other = eqb-false kind 9 (not-true (kind =? 9) h.1.1.1.1.0);
    }

pub record Listed (c : ℕ) (questions : List ℕ) : Type 0 where
  pub few : count_of questions ≤ most_questions
  pub whole : length questions ≡ question_size * count_of questions
  pub good : (k : ℕ) → k < count_of questions → good_question c (place_at questions k) (kind_at questions k) ≡ true

pub listed : (c : ℕ) (questions : List ℕ) → good_list c questions ≡ true → Listed c questions
unfolding good_list
listed c questions e =
    let n = count_of questions in
    let t : ℕ → Bool = λ k. good_question c (place_at questions k) (kind_at questions k) in
    let h = each-true (n ≤? most_questions) ((length questions =? question_size * n) ∷ all_below n t ∷ []) e in
    record { few = leb-true n most_questions h.0; whole = eqb-true (length questions) (question_size * n) h.1.0; good = below n t h.1.1.0 }

-- ---- one question

module _ (questions : List ℕ) (k : ℕ) where
  byte_at : (j : ℕ) → j < question_size → get_or (question_at questions k) j 0 ≡ get_or questions (question_size * k + j) 0
  byte_at j l = get_or-take question_size (drop (question_size * k) questions) j 0 l ∙ get_or-drop (question_size * k) questions j 0

  pub single-place : place_at (question_at questions k) 0 ≡ place_at questions k
  unfolding u16_at
  single-place = rw (byte_at 0 (omega arith), byte_at 1 (omega arith), add-zero (question_size * k))

  pub single-kind : kind_at (question_at questions k) 0 ≡ kind_at questions k
  single-kind = byte_at 2 (omega arith)

  module _ {c : ℕ} (l : Listed c questions) (h : k < count_of questions) where
    single-long : length (question_at questions k) ≡ question_size
    single-long = length-take-le question_size (drop (question_size * k) questions) (omega (arith, l.whole, length-drop (question_size * k) questions))

    pub single-count : count_of (question_at questions k) ≡ 1
    single-count = ap (λ (n : ℕ). n / question_size) single-long

    pub single-good : good_list c (question_at questions k) ≡ true
    unfolding good_list all_below
    single-good = rw (single-count, single-long, single-place, single-kind, l.good k h)
