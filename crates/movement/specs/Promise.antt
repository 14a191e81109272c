-- What the functions that read the book in a buffer promise.
--   SizeIn   how many of a buffer's bytes are its book's
--   Found    where the asset at a place and its mitigants stand, and how many these are
use Rattle.std.specs.Prelude.{List, ◌≡◌, ℕ, ◌+◌, ◌≤◌, length, take}
use Rattle.book.specs.Records.{asset_start, mitigant_start, asset_at}
use Rattle.movement.specs.declared.Spot.{Spot}
use Rattle.movement.specs.Movement.{book_in, counts_before}

pub record SizeIn (buffer : List ℕ) (r : ℕ) : Type 0 where
  pub within : r ≤ length buffer
  pub bytes : take r buffer ≡ book_in buffer

pub record Found (b : List ℕ) (place : ℕ) (s : Spot) : Type 0 where
  pub asset : s.asset ≡ asset_start b place
  pub first : s.first ≡ mitigant_start b (1 + counts_before b place)
  pub behind : s.behind ≡ mitigant_start b (1 + counts_before b place + (asset_at b place).count)
  pub count : s.count ≡ (asset_at b place).count
