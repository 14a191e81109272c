-- "Book": what stands where in its bytes.
--   header_size counterparty_size asset_size mitigant_size   how many bytes the header and a record of each type have
--   most_counterparties most_assets most_mitigants          the most records of each type
--   version C N K total base excluded specialist header_at   what the header says, and all of it behind the version together
--   assets_start mitigants_start book_size                  where a section starts, and how many bytes its counts give a book
--   counterparty_start asset_start mitigant_start           where the record of a place starts
--   kind_of                                               the kind of a number
--   count_in desk_in                                       what the version makes of an asset's bytes 6 and 7
--   count_mask assets_of                                   where the assets stand, for the code
--   asset_from                                            the asset whose record starts at a byte
--   counterparty_at asset_at mitigant_at                    the record of a place
use Rattle.std.specs.Prelude.{Bool, List, ℕ, ◌+◌, ◌*◌, ◌-◌, ◌/◌, ◌%◌, ℤ, if◌then◌else◌}
use Rattle.words.specs.Words.{◌=?◌}
use Rattle.wire.specs.Bytes.{byte_at, u16_at, u64_at, i64_at}
use Rattle.book.specs.declared.Kind.{Kind}
use Rattle.book.specs.declared.Kind.TheVariants.{Other, Bank, HomeGovernment, ProvincialGovernment, LifeCompany}
use Rattle.book.specs.declared.Header.{Header}
use Rattle.book.specs.declared.Counterparty.{Counterparty}
use Rattle.book.specs.declared.Asset.{Asset}
use Rattle.book.specs.declared.Assets.{Assets}
use Rattle.book.specs.declared.Mitigant.{Mitigant}

-- "Header, 40 bytes"
abbrev pub header_size : ℕ
header_size = 40

-- "Counterparty, 4 bytes"
abbrev pub counterparty_size : ℕ
counterparty_size = 4

-- "Asset, 48 bytes"
abbrev pub asset_size : ℕ
asset_size = 48

-- "Mitigant, 12 bytes"
abbrev pub mitigant_size : ℕ
mitigant_size = 12

-- "C ≤ 500"
abbrev pub most_counterparties : ℕ
most_counterparties = 500

-- "N ≤ 900"
abbrev pub most_assets : ℕ
most_assets = 900

-- "K ≤ 1,500"
abbrev pub most_mitigants : ℕ
most_mitigants = 1500

-- "u16 version 1", and C-13's "Book version 2"
abbrev pub version : List ℕ → ℕ
version b = u16_at b 4

-- "u16 counterparties C ≤ 500, u16 assets N ≤ 900, u16 mitigants K ≤ 1,500"
abbrev pub C : List ℕ → ℕ
C b = u16_at b 6

abbrev pub N : List ℕ → ℕ
N b = u16_at b 8

abbrev pub K : List ℕ → ℕ
K b = u16_at b 10

-- "u64 total assets, i64 capital base from −M to M, u64 excluded assets (P20b)"
abbrev pub total : List ℕ → ℕ
total b = u64_at b 16

abbrev pub base : List ℕ → ℤ
base b = i64_at b 24

abbrev pub excluded : List ℕ → ℕ
excluded b = u64_at b 32

-- C-11: "Header byte 12 set to 1 marks a specialist fund"
abbrev pub specialist : List ℕ → Bool
specialist b = byte_at b 12 =? 1

-- what the header says, together
unfoldable pub header_at : List ℕ → Header
header_at b =
    record {
      counterparties = C b;
      assets = N b;
      mitigants = K b;
      total = total b;
      base = base b;
      excluded = excluded b;
      specialist = specialist b;
    }

-- the sections follow the header in this order
abbrev pub assets_start : List ℕ → ℕ
assets_start b = header_size + counterparty_size * C b

abbrev pub mitigants_start : List ℕ → ℕ
mitigants_start b = assets_start b + asset_size * N b

-- "Length is 40 + 4C + 48N + 12K"
abbrev pub book_size : List ℕ → ℕ
book_size b = mitigants_start b + mitigant_size * K b

-- "record places from 1"
abbrev pub counterparty_start : ℕ → ℕ
counterparty_start place = header_size + counterparty_size * (place - 1)

abbrev pub asset_start : List ℕ → ℕ → ℕ
asset_start b place = assets_start b + asset_size * (place - 1)

abbrev pub mitigant_start : List ℕ → ℕ → ℕ
mitigant_start b place = mitigants_start b + mitigant_size * (place - 1)

-- "0 other, 1 bank, 2 home government, 3 provincial government, 4 registered life company"
abbrev pub kind_of : ℕ → Kind
kind_of n =
    if n =? 1 then Bank
    else if n =? 2 then HomeGovernment
    else if n =? 3 then ProvincialGovernment
    else if n =? 4 then LifeCompany
    else Other

-- "u16 parent (..); one byte with the grade 0 to 7 in its low four bits (..) and the kind in its high four (..); flags"
unfoldable pub counterparty_at : List ℕ → ℕ → Counterparty
counterparty_at b place =
    let at = counterparty_start place in
    record {
      parent = u16_at b at;
      kind = kind_of (byte_at b (at + 2) / 16);
      grade = byte_at b (at + 2) % 16;
      flags = byte_at b (at + 3);
    }

-- "u16 count of mitigants"; C-13: "Book version 2 narrows the count of mitigants from two bytes to byte 6"
abbrev pub count_in : List ℕ → ℕ → ℕ
count_in b at = if version b =? 2 then byte_at b (at + 6) else u16_at b (at + 6)

-- C-13: "and byte 7 holds the desk, 0 to 255"; a book of version 1 has desk 0 alone
abbrev pub desk_in : List ℕ → ℕ → ℕ
desk_in b at = if version b =? 2 then byte_at b (at + 7) else 0

-- the most that a count of mitigants can be, a mask of bytes 6 and 7
abbrev pub count_mask : List ℕ → ℕ
count_mask b = if version b =? 2 then 255 else 65535

-- where the assets start, and that mask
unfoldable pub assets_of : List ℕ → Assets
assets_of b = record { start = assets_start b; counts = count_mask b }

-- "Asset, 48 bytes: kind 1 to 11; flags (..); entry class (..); completed months since downgrade (..); u16 counterparty (..);
-- u16 count of mitigants; u64 value, offsets, deductions, insurance stress, combination stress", and C-13's desk
unfoldable pub asset_from : List ℕ → ℕ → Asset
asset_from b at =
    record {
      kind = byte_at b at;
      flags = byte_at b (at + 1);
      entry = byte_at b (at + 2);
      months = byte_at b (at + 3);
      counterparty = u16_at b (at + 4);
      count = count_in b at;
      desk = desk_in b at;
      value = u64_at b (at + 8);
      offsets = u64_at b (at + 16);
      deductions = u64_at b (at + 24);
      insurance = u64_at b (at + 32);
      combination = u64_at b (at + 40);
    }

abbrev pub asset_at : List ℕ → ℕ → Asset
asset_at b place = asset_from b (asset_start b place)

-- "Mitigant, 12 bytes, in asset order: form (..); flags (..); u16 counterparty; u64 value"
unfoldable pub mitigant_at : List ℕ → ℕ → Mitigant
mitigant_at b place =
    let at = mitigant_start b place in
    record {
      form = byte_at b at;
      flags = byte_at b (at + 1);
      counterparty = u16_at b (at + 2);
      value = u64_at b (at + 4);
    }
