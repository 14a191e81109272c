-- C-19, "Movements through the day": the book in a lent buffer, and what a movement makes of its bytes.
--   book_in                  the book "at the start of a lent buffer"
--   with_asset without_asset  "adds a 48-byte asset record (..) at the end, or takes the asset at a place away with its mitigants and closes up"
--   Movement movement_of     a movement, and that of an entry's call
--   resulting               the book after it
--   possible                what 22 lets pass
--   raw_after present        what movements do to the assets present
use Rattle.std.specs.Prelude.{Bool, ◌&&◌, List, [], ◌∷◌, ◌++◌, ℕ, ◌+◌, ◌*◌, ◌-◌, length, take, drop}
use Rattle.words.specs.Words.{◌≤?◌, ◌=?◌, sum}
use Rattle.book.specs.Records.{asset_size, mitigant_size, N, K, book_size, asset_start, mitigant_start, asset_at}
use Rattle.movement.specs.declared.Change.{Change}
use Rattle.movement.specs.Raw.{slice, RawHolding, bare, front_of}

-- "an accepted book at the start of a lent buffer, its length read from its counts (8 if the buffer is shorter)": all of a buffer that is shorter,
-- which 8 then turns back for its length, or 5 where not even a header is there
unfoldable pub book_in : List ℕ → List ℕ
book_in buffer = take (book_size buffer) buffer

-- "adds a 48-byte asset record without mitigants at the end": of the assets, before the mitigants
unfoldable pub with_asset : List ℕ → List ℕ → List ℕ
with_asset b record48 =
    front_of b (N b + 1) (K b) ++ (slice b (asset_start b 1) (asset_size * N b) ++ (record48 ++ drop (mitigant_start b 1) b))

-- how many mitigants the assets before a place have
abbrev pub counts_before : List ℕ → ℕ → ℕ
counts_before b place = sum (λ k. (asset_at b (1 + k)).count) (place - 1)

-- "takes the asset at a place away with its mitigants and closes up"
unfoldable pub without_asset : List ℕ → ℕ → List ℕ
without_asset b place =
    let first = 1 + counts_before b place in
    let count = (asset_at b place).count in
    front_of b (N b - 1) (K b - count)
    ++ (slice b (asset_start b 1) (asset_size * (place - 1))
    ++ (slice b (asset_start b (place + 1)) (asset_size * (N b - place))
    ++ (slice b (mitigant_start b 1) (mitigant_size * (first - 1)) ++ drop (mitigant_start b (first + count)) b)))

-- a movement
pub data Movement : Type 0 where
  Add : List ℕ → Movement
  Remove : ℕ → Movement

-- the one that an entry was asked
abbrev pub movement_of : Change → Movement
movement_of (Change.Add record48) = Add record48.now
movement_of (Change.Remove place) = Remove place

-- the book after it
abbrev pub resulting : List ℕ → Movement → List ℕ
resulting b (Add record48) = with_asset b record48
resulting b (Remove place) = without_asset b place

-- "22 when the place taken away isn't there or the record isn't 48 bytes". That the record is "without mitigants" is 13 of the book after it
abbrev pub possible : List ℕ → Movement → Bool
possible b (Add record48) = length record48 =? asset_size
possible b (Remove place) = 1 ≤? place && place ≤? N b

-- the assets present after a movement, and after a list of them
abbrev pub raw_after : List RawHolding → Movement → List RawHolding
raw_after items (Add record48) = items ++ (bare record48 ∷ [])
raw_after items (Remove place) = take (place - 1) items ++ drop place items

unfoldable pub present : List RawHolding → List Movement → List RawHolding
present items [] = items
present items (m ∷ ms) = present (raw_after items m) ms
