-- Amounts one behind the other, each a u64.
--   amounts_bytes     their bytes
--   amounts-length   how many bytes these are
--   amounts-next     those of the first i + 1 amounts are those of the first i and then the next one's
use Rattle.std.specs.Prelude.{List, [], ◌∷◌, ◌++◌, ◌≡◌, refl, ℕ, ◌+◌, ◌*◌, ◌<◌, length, get_or, take}
use Rattle.std.proofs.Common.{ap, ◌∙◌, add-one}
use Rattle.words.specs.Words.{each_of}
use Rattle.words.specs.Sums.{length-each, each_next}
use Rattle.wire.specs.Bytes.{bytes64}

unfoldable pub amounts_bytes : List ℕ → List ℕ
amounts_bytes xs = each_of bytes64 xs

pub amounts-length : (xs : List ℕ) → length (amounts_bytes xs) ≡ 8 * length xs
unfolding amounts_bytes
amounts-length xs = length-each 8 bytes64 (λ x. refl) xs

pub amounts-next : (xs : List ℕ) (i : ℕ) → i < length xs → amounts_bytes (take (i + 1) xs) ≡ amounts_bytes (take i xs) ++ bytes64 (get_or xs i 0)
unfolding amounts_bytes
amounts-next xs i h = ap (λ (k : ℕ). each_of bytes64 (take k xs)) (add-one i) ∙ each_next bytes64 0 xs i h

-- none, and two
pub amounts-computed :
    (amounts_bytes [] ≡ []) × (amounts_bytes (258 ∷ 1 ∷ []) ≡ 2 ∷ 1 ∷ 0 ∷ 0 ∷ 0 ∷ 0 ∷ 0 ∷ 0 ∷ 1 ∷ 0 ∷ 0 ∷ 0 ∷ 0 ∷ 0 ∷ 0 ∷ 0 ∷ [])
unfolding amounts_bytes each_of
amounts-computed = (refl, refl)
