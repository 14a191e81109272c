-- C-13's converter: a book of version 1 as one of version 2, and back.
--   versioned recounted     a book with another version, and with other bytes 6 and 7 in its assets
--   converted rebuilt       the book as version 2, and the old one from the new
--   first_check narrow_check  the converter's own 5 to 7, and 18
--   Narrow                  a book that they let pass
use Rattle.std.specs.Prelude.{List, ◌≡◌, ℕ, zero, suc, ◌+◌, ◌/◌, ◌%◌, ◌≤◌, ◌<◌, length, set}
use Rattle.words.specs.Words.{◌≤?◌, ◌=?◌}
use Rattle.refusal.specs.declared.Refusal.TheVariants.{BookLength, BookMark, BookVersion, ManyMitigants}
use Rattle.refusal.specs.Chain.{refuse◌unless◌, ◌and_then◌, refuse_each, Checked}
use Rattle.book.specs.declared.Asset.{Asset}
use Rattle.book.specs.Records.{header_size, version, N, asset_start, asset_at}
use Rattle.book.specs.Check.{book_marked}

-- another version in the header's bytes 4 and 5
abbrev pub versioned : List ℕ → ℕ → List ℕ
versioned b v = set (set b 4 (v % 256)) 5 (v / 256)

-- the first n assets' bytes 6 and 7, out of each asset
unfoldable pub recounted : (Asset → ℕ) → (Asset → ℕ) → List ℕ → ℕ → List ℕ
recounted six seven b zero = b
recounted six seven b (suc n) =
    let at = asset_start b (suc n) in
    let a = asset_at b (suc n) in
    set (set (recounted six seven b n) (at + 6) (six a)) (at + 7) (seven a)

-- "A converter turns version 1 into 2 with desk 0": "the count of mitigants" in byte 6, "and byte 7 holds the desk", which is 0 in an asset of version 1
unfoldable pub converted : List ℕ → List ℕ
converted b = versioned (recounted (λ a. a.count) (λ a. a.desk) b (N b)) 2

-- "and the old one can be rebuilt from the new": version 1, and the count in two bytes
unfoldable pub rebuilt : List ℕ → List ℕ
rebuilt b = versioned (recounted (λ a. a.count % 256) (λ a. a.count / 256) b (N b)) 1

-- "The converter takes only version 1, any other is its refusal 7", behind 5 and 6
unfoldable pub first_check : List ℕ → Checked
first_check b =
    (refuse BookLength unless header_size ≤? length b)
    and_then (refuse BookMark unless book_marked b)
    and_then (refuse BookVersion unless version b =? 1)

-- "It gives 18 when an asset has more than 255 mitigants, with its place"
unfoldable pub narrow_check : List ℕ → Checked
narrow_check b = refuse_each ManyMitigants (λ place. (asset_at b place).count ≤? 255) (N b)

-- version 1, and no more than 255 mitigants to an asset
pub record Narrow (b : List ℕ) : Type 0 where
  pub long : header_size ≤ length b
  pub first : version b ≡ 1
  pub few : (p : ℕ) → 0 < p → p ≤ N b → (asset_at b p).count ≤ 255
