-- An answer out of a fund's tables.
--   answer_at answers_at   by an order of the tiers, the answer for a place and a kind, and those to a list's first n questions
--   Answerable           what the tables are to be like for it
--   AllAnswerable        and for every question of a list, with room for the answers
use Rattle.std.specs.Prelude.{Bool, List, map, ℕ, ◌+◌, ◌*◌, ◌-◌, ◌≤◌, ◌<◌, length, get_or}
use Rattle.words.specs.Words.{sum, count_from}
use Rattle.wire.specs.Bytes.{M}
use Rattle.cascade.specs.Cascade.{tiers, by_tier}
use Rattle.rows.specs.Rows.{columns}
use Rattle.headroom.specs.Headroom.{room_in, row_from, RankedBy}
use Rattle.columns.specs.Column.{tier_in, digit}
use Rattle.asking.specs.Questions.{question_size, answer_size, most_questions, place_at, kind_at}

-- where the row of a counterparty's group starts, and its exposures by tier
abbrev pub start_at : List ℕ → ℕ → ℕ
start_at rows place = get_or rows place 0

abbrev pub exposures_at : List ℕ → List ℕ → ℕ → ℕ → ℕ
exposures_at rows cells place = row_from cells (start_at rows place)

-- the column of a kind
abbrev pub asked_column : List ℕ → ℕ → ℕ → ℕ
asked_column words place kind = digit (kind - 1) (get_or words place 0)

unfoldable pub answer_at : (ℕ → ℕ → Bool) → List ℕ → List ℕ → List ℕ → List ℕ → ℕ → ℕ → ℕ
answer_at order limits words rows cells place kind =
    room_in tiers order (by_tier limits) (exposures_at rows cells place) (tier_in (asked_column words place kind)) M

abbrev pub answers_at : (ℕ → ℕ → Bool) → List ℕ → List ℕ → List ℕ → List ℕ → List ℕ → ℕ → List ℕ
answers_at order limits words rows cells questions n = map (λ k. answer_at order limits words rows cells (place_at questions k) (kind_at questions k)) (count_from 0 n)

pub record Answerable (limits ranking words rows cells : List ℕ) (place kind : ℕ) : Type 0 where
  pub words_size : place < length words
  pub rows-size : place < length rows
  pub low : 0 < kind
  pub high : kind < 12
  pub column : asked_column words place kind < columns
  pub row : start_at rows place + tiers ≤ length cells
  pub ranks : RankedBy limits ranking
  pub amounts : sum (exposures_at rows cells place) tiers ≤ 900 * M

-- few                       a list has no more questions
-- asked-size answers-size   the bytes of the questions are there, and those for the answers
-- each                      the tables answer every question
pub record AllAnswerable (questions : List ℕ) (n : ℕ) (limits ranking words rows cells answers : List ℕ) : Type 0 where
  pub few : n ≤ most_questions
  pub asked-size : question_size * n ≤ length questions
  pub answers-size : answer_size * n ≤ length answers
  pub each : (k : ℕ) → k < n → Answerable limits ranking words rows cells (place_at questions k) (kind_at questions k)
