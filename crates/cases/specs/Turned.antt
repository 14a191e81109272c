-- "What the desk turns back": the example of each refusal.
use Rattle.std.specs.Prelude.{Bool, List, [], ◌∷◌, ℕ, ◌+◌, T, set, take, replicate}
use Rattle.words.specs.Words.{every}
use Rattle.wire.specs.Bytes.{M}
use Rattle.book.specs.Build.{counterparty, mitigant, book_bytes}
use Rattle.report.specs.Answer.{answer_of}
use Rattle.examples.specs.Build.{covered, plain, reinsured, entered, usual, name, minus}
use Rattle.examples.specs.Table.{published_bytes, turned}
use Rattle.examples.specs.Opened.{report_computed}

-- what is handed over, and the refusal's number and place
pub record TurnedBack : Type 0 where
  pub schedule : List ℕ
  pub book : List ℕ
  pub buffer : ℕ
  pub number : ℕ
  pub place : ℕ

abbrev pub empty : List ℕ
empty = usual [] [] []

-- by the schedule; by the book, with the published schedule
abbrev pub by_schedule : List ℕ → ℕ → TurnedBack
by_schedule s n = record { schedule = s; book = empty; buffer = 65536; number = n; place = 0 }

abbrev pub by_book : List ℕ → ℕ → ℕ → TurnedBack
by_book b n p = record { schedule = published_bytes; book = b; buffer = 65536; number = n; place = p }

unfoldable pub table : List TurnedBack
table =
    -- "schedule not 122 bytes": 121
    by_schedule (take 121 published_bytes) 1
    -- "its mark or zero": "ACB"
    ∷ by_schedule (set published_bytes 2 66) 2
    -- "its version": C-15, "its example is now 3"
    ∷ by_schedule (set published_bytes 4 3) 3
    -- "a rate over 1,500 (..)": rate 1501; C-15: "reads 15,000 for version 2", rate 15001
    ∷ by_schedule (set (set published_bytes 10 221) 11 5) 4
    ∷ by_schedule (set (set (set published_bytes 4 2) 10 153) 11 58) 4
    -- "book under 40 bytes": empty
    ∷ by_book [] 5 0
    -- "its mark or zeros" ("its example is now byte 12 = 2")
    ∷ by_book (set empty 12 2) 6 0
    -- "its version": 0
    ∷ by_book (set empty 4 0) 7 0
    -- "a count over its most, or another length": N = 901
    ∷ by_book (usual (name ∷ []) (replicate 901 (plain 11 1 0)) []) 8 0
    -- "total or excluded over M, base outside −M to M": base −M − 1
    ∷ by_book (book_bytes 0 (minus (M + 1)) 0 [] [] []) 9 0
    -- "counterparty field, unknown bit": parent = own place
    ∷ by_book (usual (counterparty 1 0 0 0 ∷ []) [] []) 10 1
    -- "asset field, unknown bit, amount over M": counterparty 0 0
    ∷ by_book (usual (name ∷ []) (plain 11 0 0 ∷ []) []) 11 1
    -- "mitigant likewise": form 6
    ∷ by_book (usual (name ∷ []) (covered 11 1 1 0 ∷ []) (mitigant 6 0 1 0 ∷ [])) 12 1
    -- "counts don't add to K": K = 1, N = 0, C = 1
    ∷ by_book (usual (name ∷ []) [] (mitigant 1 0 1 0 ∷ [])) 13 0
    -- "reinsurance values over total": 5 over 4
    ∷ by_book (book_bytes 4 0 0 (name ∷ []) (reinsured 1 0 5 ∷ []) []) 14 0
    -- "VAF' below 0 or over M": excluded 1, total 0
    ∷ by_book (book_bytes 0 0 1 [] [] []) 15 0
    -- "buffer shorter than report": 71
    ∷ record { schedule = published_bytes; book = empty; buffer = 71; number = 16; place = 0 }
    -- "17 when entry 3 stands in a book whose byte 12 is 0"
    ∷ by_book (usual (name ∷ []) (entered 3 0 1 1 ∷ []) []) 17 1
    ∷ []

-- the answer is that refusal
unfoldable pub right : TurnedBack → Bool
right c = turned (answer_of c.schedule c.book c.buffer) c.number c.place

pub holds : T (every right table)
unfolding report_computed table right
holds = tt
