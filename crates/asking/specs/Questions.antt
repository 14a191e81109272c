-- C-16: "a list of up to 200 questions, each a counterparty place (u16) and an asset kind (one byte) other than 9".
--   question_size answer_size most_questions   bytes of a question and of an answer, the most questions
--   count_of place_at kind_at question_at       a list's questions, numbered from 0
--   good_question good_list                   what 20 lets pass, where there are c counterparties
use Rattle.std.specs.Prelude.{Bool, not, ◌&&◌, List, ℕ, ◌+◌, ◌*◌, ◌/◌, length, take, drop}
use Rattle.words.specs.Words.{◌≤?◌, ◌=?◌}
use Rattle.words.specs.Below.{all_below}
use Rattle.wire.specs.Bytes.{byte_at, u16_at}

-- "three a question"
abbrev pub question_size : ℕ
question_size = 3

-- "eight bytes a question"
abbrev pub answer_size : ℕ
answer_size = 8

-- "up to 200 questions"
abbrev pub most_questions : ℕ
most_questions = 200

abbrev pub count_of : List ℕ → ℕ
count_of questions = length questions / question_size

-- "a counterparty place (u16)"
abbrev pub place_at : List ℕ → ℕ → ℕ
place_at questions k = u16_at questions (question_size * k)

-- "an asset kind (one byte)"
abbrev pub kind_at : List ℕ → ℕ → ℕ
kind_at questions k = byte_at questions (question_size * k + 2)

-- question k by itself, as a list
abbrev pub question_at : List ℕ → ℕ → List ℕ
question_at questions k = take question_size (drop (question_size * k) questions)

-- a place of the book's and a kind "other than 9"
unfoldable pub good_question : ℕ → ℕ → ℕ → Bool
good_question c place kind = 1 ≤? place && place ≤? c && 1 ≤? kind && kind ≤? 11 && not (kind =? 9)

-- "20 when a place or kind is out of range, the list is over 200 or its bytes aren't three a question"
unfoldable pub good_list : ℕ → List ℕ → Bool
good_list c questions =
    count_of questions ≤? most_questions
    && length questions =? question_size * count_of questions
    && all_below (count_of questions) (λ k. good_question c (place_at questions k) (kind_at questions k))
