-- A table of cases: schedule and book, what is read off the report, and what that must be.
use Rattle.refusal.specs.Chain.{Answer}
use Rattle.std.specs.Prelude.{Bool, true, false, ◌&&◌, List, [], ◌∷◌, ℕ, length, Ok, Err}
use Rattle.words.specs.Words.{◌=?◌}
use Rattle.refusal.specs.Refusals.{number_of, place_of}
use Rattle.schedule.specs.Schedule.{published, schedule_bytes}
use Rattle.report.specs.Answer.{report_of, answer_of}

pub record Case : Type 0 where
  pub schedule : List ℕ
  pub book : List ℕ
  pub reading : List ℕ → List ℕ
  pub due : List ℕ

-- "The published schedule (A1 to A3) is a constant of the product"
abbrev pub published_bytes : List ℕ
published_bytes = schedule_bytes published

-- a case with the published schedule
abbrev pub case : List ℕ → (List ℕ → List ℕ) → List ℕ → Case
case book reading due = record { schedule = published_bytes; book = book; reading = reading; due = due }

-- two lists of numbers are the same
abbrev pub same : List ℕ → List ℕ → Bool
same [] [] = true
same [] (y ∷ ys) = false
same (x ∷ xs) [] = false
same (x ∷ xs) (y ∷ ys) = x =? y && same xs ys

-- "The answer carries the report's length"
abbrev pub accepted : Answer → ℕ → Bool
accepted (Ok n) length = n =? length
accepted (Err why) length = false

-- "A refusal is a number and a place"
abbrev pub turned : Answer → ℕ → ℕ → Bool
turned (Ok n) number place = false
turned (Err why) number place = number_of why =? number && place_of why =? place

-- the answer is the report of the case, for a buffer of 65,536 bytes, and it reads as it should
unfoldable pub right : Case → Bool
right c =
    let r = report_of c.schedule c.book in
    accepted (answer_of c.schedule c.book 65536) (length r) && same (c.reading r) c.due
