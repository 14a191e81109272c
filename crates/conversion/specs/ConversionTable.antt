-- The converter over bytes, computed.
--   turned back desks-left-out    the bytes of books, and the old ones from the new
--   edges                         7, 18 and their places
-- The counts are what is looked at: the lists of mitigants are shorter than they say, which no definition here reads.
use Rattle.refusal.specs.Chain.{Checked}
use Rattle.std.specs.Prelude.{Bool, ◌&&◌, List, [], ◌∷◌, ◌≡◌, refl, ℕ, T, set, take, replicate, Ok, Err}
use Rattle.words.specs.Words.{◌=?◌, every}
use Rattle.refusal.specs.Refusals.{number_of, place_of}
use Rattle.book.specs.Build.{counterparty, asset, desk_asset, mitigant, book_bytes, desk_bytes, book_computed}
use Rattle.conversion.specs.Conversion.{recounted, converted, rebuilt, first_check, narrow_check}

abbrev name : List ℕ
name = counterparty 0 0 0 0

-- an asset with so many mitigants, in version 1, and in version 2 at a desk
abbrev counting : ℕ → List ℕ
counting count = asset 11 0 0 0 1 count 0x0102030405 0 0 0 0

abbrev at_desk : ℕ → ℕ → List ℕ
at_desk desk count = desk_asset desk 11 0 0 0 1 count 0x0102030405 0 0 0 0

-- a book of such assets
abbrev book : List (List ℕ) → ℕ → List ℕ
book assets k = book_bytes 100 10 0 (name ∷ []) assets (replicate k (mitigant 1 0 1 0))

abbrev desk_book : List (List ℕ) → ℕ → List ℕ
desk_book assets k = desk_bytes 100 10 0 (name ∷ []) assets (replicate k (mitigant 1 0 1 0))

-- ---- "turns version 1 into 2 with desk 0", "and the old one can be rebuilt from the new"

pub turned : converted (book (counting 1 ∷ counting 0 ∷ counting 255 ∷ []) 2) ≡ desk_book (at_desk 0 1 ∷ at_desk 0 0 ∷ at_desk 0 255 ∷ []) 2
unfolding book_computed recounted converted
turned = refl

pub turned-empty : converted (book_bytes 0 0 0 [] [] []) ≡ desk_bytes 0 0 0 [] [] []
unfolding book_computed recounted converted
turned-empty = refl

pub back : rebuilt (desk_book (at_desk 0 1 ∷ at_desk 0 0 ∷ at_desk 0 255 ∷ []) 2) ≡ book (counting 1 ∷ counting 0 ∷ counting 255 ∷ []) 2
unfolding book_computed recounted rebuilt
back = refl

-- a desk has no place in version 1: it is left out, and never read as a part of the count
pub desks-left-out : rebuilt (desk_book (at_desk 7 1 ∷ at_desk 255 0 ∷ []) 1) ≡ book (counting 1 ∷ counting 0 ∷ []) 1
unfolding book_computed recounted rebuilt
desks-left-out = refl

-- ---- 7 and 18

record Case : Type 0 where
  found : Checked
  number : ℕ
  place : ℕ

infix 8 ◌gives◌at◌
abbrev ◌gives◌at◌ : Checked → ℕ → ℕ → Case
c gives n at p = record { found = c; number = n; place = p }

abbrev answers : Checked → ℕ → ℕ → Bool
answers (Ok _) number place = number =? 0 && place =? 0
answers (Err why) number place = number_of why =? number && place_of why =? place

unfoldable right : Case → Bool
right c = answers c.found c.number c.place

unfoldable edges : List Case
edges =
    -- "The converter takes only version 1, any other is its refusal 7", behind 5 and 6
    (first_check (book [] 0) gives 0 at 0)
    ∷ (first_check (set (book [] 0) 4 2) gives 7 at 0)
    ∷ (first_check (set (book [] 0) 4 3) gives 7 at 0)
    ∷ (first_check (set (book [] 0) 4 0) gives 7 at 0)
    ∷ (first_check (set (book [] 0) 5 1) gives 7 at 0)
    ∷ (first_check (take 39 (book [] 0)) gives 5 at 0)
    ∷ (first_check (set (set (book [] 0) 4 2) 0 0) gives 6 at 0)
    -- "18 when an asset has more than 255 mitigants, with its place": 255 and 256; 0x0101; the first of two
    ∷ (narrow_check (book (counting 255 ∷ []) 0) gives 0 at 0)
    ∷ (narrow_check (book (counting 256 ∷ []) 0) gives 18 at 1)
    ∷ (narrow_check (book (counting 0x0101 ∷ []) 0) gives 18 at 1)
    ∷ (narrow_check (book (counting 255 ∷ counting 1 ∷ counting 256 ∷ counting 300 ∷ []) 0) gives 18 at 3)
    ∷ (narrow_check (book (counting 1500 ∷ []) 0) gives 18 at 1)
    -- two assets that have more together are no such case
    ∷ (narrow_check (book (counting 200 ∷ counting 200 ∷ []) 0) gives 0 at 0)
    ∷ (narrow_check (book [] 0) gives 0 at 0)
    ∷ []

edges-hold : T (every right edges)
unfolding book_computed every right edges first_check narrow_check
edges-hold = tt
