-- C-19: the answers to movements, computed from `movement_check` itself: numbers and places in their order, under the published schedule and with room for any report.
use Rattle.refusal.specs.Chain.{Checked}
use Rattle.std.specs.Prelude.{Bool, ◌&&◌, List, [], ◌∷◌, ◌++◌, ℕ, T, take, replicate, set, Ok, Err}
use Rattle.words.specs.Words.{◌=?◌, every}
use Rattle.wire.specs.Bytes.{M}
use Rattle.refusal.specs.Refusals.{number_of, place_of}
use Rattle.book.specs.Build.{counterparty, asset, desk_asset, mitigant, book_bytes, desk_bytes}
use Rattle.book_checks.specs.Checks.{book_checks}
use Rattle.movement.specs.Raw.{front_of}
use Rattle.movement.specs.Movement.{book_in, with_asset, without_asset, Movement, Add, Remove}
use Rattle.day.specs.Moving.{movement_check}
use Rattle.examples.specs.Table.{published_bytes}
use Rattle.examples.specs.Opened.{report_computed}

record Case : Type 0 where
  buffer : List ℕ
  movement : Movement
  number : ℕ
  place : ℕ

infix 8 ◌after◌gives◌at◌
abbrev ◌after◌gives◌at◌ : List ℕ → Movement → ℕ → ℕ → Case
b after m gives n at p = record { buffer = b; movement = m; number = n; place = p }

abbrev answers : Checked → ℕ → ℕ → Bool
answers (Ok _) number place = number =? 0 && place =? 0
answers (Err why) number place = number_of why =? number && place_of why =? place

unfoldable right : Case → Bool
right c = answers (movement_check published_bytes c.movement c.buffer 65536) c.number c.place

abbrev name : List ℕ
name = counterparty 0 0 0 0

abbrev plain : ℕ → List ℕ
plain value = asset 11 0 0 0 1 0 value 0 0 0 0

-- reinsurance of a value, with such a combination stress
abbrev treaty : ℕ → ℕ → List ℕ
treaty value stress = asset 9 0 0 0 1 0 value 0 0 0 stress

abbrev one : List ℕ
one = book_bytes 100 10 0 (name ∷ []) (plain 5 ∷ []) []

-- an asset with a mitigant, and one without
abbrev two : List ℕ
two = book_bytes 100 10 0 (name ∷ []) (asset 11 0 0 0 1 1 7 0 0 0 0 ∷ plain 5 ∷ []) (mitigant 1 0 1 0 ∷ [])

-- a book with room for an asset behind it
abbrev roomy : List ℕ → List ℕ
roomy b = b ++ replicate 48 7

unfoldable moves : List Case
moves =
    (roomy one after Add (plain 6) gives 0 at 0)
    ∷ (one after Remove 1 gives 0 at 0)
    ∷ (two after Remove 1 gives 0 at 0)
    ∷ (two after Remove 2 gives 0 at 0)
    -- a buffer that is longer
    ∷ (roomy one ++ (1 ∷ 2 ∷ 3 ∷ []) after Add (plain 6) gives 0 at 0)
    -- "8 if the buffer is shorter"; 5; the standing book first, and then 22
    ∷ (take 91 one after Add (plain 6) gives 8 at 0)
    ∷ (take 39 one after Remove 1 gives 5 at 0)
    ∷ (take 91 one after Remove 2 gives 8 at 0)
    ∷ (set one 44 12 after Remove 2 gives 11 at 1)
    ∷ (set one 4 3 after Remove 2 gives 7 at 0)
    ∷ (book_bytes 100 10 0 (name ∷ []) (treaty 101 0 ∷ []) [] after Remove 0 gives 14 at 0)
    ∷ (book_bytes 100 10 101 (name ∷ []) (plain 5 ∷ []) [] after Add [] gives 15 at 0)
    ∷ (book_bytes 100 10 0 (name ∷ []) (asset 9 0 3 0 1 0 6 0 0 0 0 ∷ []) [] after Remove 2 gives 17 at 1)
    -- "22 when the place taken away isn't there or the record isn't 48 bytes"
    ∷ (one after Remove 0 gives 22 at 0)
    ∷ (one after Remove 2 gives 22 at 0)
    ∷ (two after Remove 3 gives 22 at 0)
    ∷ (book_bytes 100 10 0 (name ∷ []) [] [] after Remove 1 gives 22 at 0)
    ∷ (one after Remove 65537 gives 22 at 0)
    ∷ (one after Remove 4294967297 gives 22 at 0)
    ∷ (one after Remove 1099511627776 gives 22 at 0)
    ∷ (one after Add (take 47 (plain 6)) gives 22 at 0)
    ∷ (one after Add (plain 6 ++ (0 ∷ [])) gives 22 at 0)
    ∷ (one after Add [] gives 22 at 0)
    -- "before any other check of that movement": a record that is bad and long
    ∷ (one after Add (asset 12 0 0 0 1 0 6 0 0 0 0 ++ (0 ∷ [])) gives 22 at 0)
    -- "is refused by that book's number and place": 11, 13 for a record with mitigants, 17, 14, 15
    ∷ (one after Add (asset 12 0 0 0 1 0 6 0 0 0 0) gives 11 at 2)
    ∷ (one after Add (asset 11 0 0 0 2 0 6 0 0 0 0) gives 11 at 2)
    ∷ (one after Add (asset 11 0 0 0 1 1 6 0 0 0 0) gives 13 at 0)
    ∷ (one after Add (asset 9 0 3 0 1 0 6 0 0 0 0) gives 17 at 2)
    ∷ (roomy (set one 12 1) after Add (asset 9 0 3 0 1 0 6 0 0 0 0) gives 0 at 0)
    ∷ (roomy one after Add (treaty 100 0) gives 0 at 0)
    ∷ (one after Add (treaty 101 0) gives 14 at 0)
    ∷ (one after Add (treaty 0 M) gives 15 at 0)
    ∷ (roomy one after Add (treaty 0 9999999999900) gives 0 at 0)
    ∷ (one after Add (treaty 0 9999999999901) gives 15 at 0)
    -- a removal can bring 15 too: without the treaty's stress there is less than what is excluded
    ∷ (book_bytes 100 10 110 (name ∷ []) (treaty 0 10 ∷ plain 5 ∷ []) [] after Remove 1 gives 15 at 0)
    ∷ (book_bytes 100 10 110 (name ∷ []) (treaty 0 10 ∷ plain 5 ∷ []) [] after Remove 2 gives 0 at 0)
    -- version 2: a desk is no count
    ∷ (roomy (desk_bytes 100 10 0 (name ∷ []) (plain 5 ∷ []) []) after Add (desk_asset 255 11 0 0 0 1 0 6 0 0 0 0) gives 0 at 0)
    ∷ (desk_bytes 100 10 0 (name ∷ []) (plain 5 ∷ []) [] after Add (desk_asset 0 11 0 0 0 1 1 6 0 0 0 0) gives 13 at 0)
    ∷ []

moves-hold : T (every right moves)
unfolding report_computed book_in with_asset without_asset front_of book_checks movement_check right moves
moves-hold = tt
