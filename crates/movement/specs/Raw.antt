-- A book's assets as they stand in its bytes, each with its mitigants; and the book made afresh from such assets.
--   slice                           a part of a list
--   RawHolding bare mitigant_count   an asset's record with its mitigants' records, one without, and how many these are in a book of a version
--   raw_from raw_holdings             those of a book
--   front_of made_of                  a header and counterparties with other counts; the book made afresh from such assets
use Rattle.std.specs.Prelude.{List, [], ◌∷◌, ◌++◌, ℕ, zero, suc, ◌+◌, ◌*◌, length, take, drop, if◌then◌else◌}
use Rattle.words.specs.Words.{◌=?◌, sum_of, each_of}
use Rattle.wire.specs.Bytes.{byte_at, u16_at, bytes16}
use Rattle.book.specs.Records.{asset_size, mitigant_size, version, C, N, asset_start, mitigant_start, asset_at}

-- n bytes from a place on
abbrev pub slice : List ℕ → ℕ → ℕ → List ℕ
slice s at n = take n (drop at s)

-- "the asset at a place (..) with its mitigants": their bytes
pub record RawHolding : Type 0 where
  pub asset : List ℕ
  pub mitigants : List ℕ

-- "a 48-byte asset record without mitigants"
abbrev pub bare : List ℕ → RawHolding
bare record48 = record { asset = record48; mitigants = [] }

-- "u16 count of mitigants"; C-13: "Book version 2 narrows the count of mitigants from two bytes to byte 6"
abbrev pub mitigant_count : ℕ → RawHolding → ℕ
mitigant_count v i = if v =? 2 then byte_at i.asset 6 else u16_at i.asset 6

-- `more` assets from a place on, whose first mitigant is the one at place m
unfoldable pub raw_from : List ℕ → ℕ → ℕ → ℕ → List RawHolding
raw_from b place m zero = []
raw_from b place m (suc more) =
    let count = (asset_at b place).count in
    record { asset = slice b (asset_start b place) asset_size; mitigants = slice b (mitigant_start b m) (mitigant_size * count) } ∷ raw_from b (place + 1) (m + count) more

-- the assets of a book, in book order
unfoldable pub raw_holdings : List ℕ → List RawHolding
raw_holdings b = raw_from b 1 1 (N b)

-- the bytes of the assets, one after the other, and of their mitigants
abbrev pub asset_bytes : List RawHolding → List ℕ
asset_bytes items = each_of (λ (i : RawHolding). i.asset) items

abbrev pub mitigant_bytes : List RawHolding → List ℕ
mitigant_bytes items = each_of (λ (i : RawHolding). i.mitigants) items

-- the header and the counterparties of b with n assets and k mitigants: "Header amounts (..) stay, counts follow"
unfoldable pub front_of : List ℕ → ℕ → ℕ → List ℕ
front_of b n k = take 8 b ++ (bytes16 n ++ (bytes16 k ++ slice b 12 (28 + 4 * C b)))

-- "made afresh from the assets then present", with the header amounts and counterparties of b
unfoldable pub made_of : List ℕ → List RawHolding → List ℕ
made_of b items = front_of b (length items) (sum_of (mitigant_count (version b)) items) ++ (asset_bytes items ++ mitigant_bytes items)
