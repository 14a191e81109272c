-- Amounts one behind the other in a longer list: amounts-none, amounts-placed say how a loop places them, amounts-in and amounts-at what is read of them.
use mathlib.Core.Path.{◌≡◌, refl, sym, ap, ◌∙◌}
use mathlib.Core.List.{List, [], ◌∷◌, ◌++◌, append_assoc}
use Prim.Native.Nat.{ℕ, zero, suc, ◌+◌, ◌*◌, ◌≤◌, ◌<◌}
use native.Mathlib.Nat.{add-zero}
use native.Mathlib.Omega.{arith}
use lib.ListN.{length, get_or, take, drop, length-append}
use lib.Seq.{length-take-le, sets-eq, drop-append-add}
use Rattle.words.specs.Words.{each_of}
use Rattle.wire.specs.Bytes.{placed, u64_at, bytes64}
use Rattle.wire.specs.Amounts.{amounts_bytes, amounts-length, amounts-next}
use Rattle.wire.proofs.Laws.{then-placed, u64-in}

module _ (l xs : List ℕ) (at : ℕ) where
  pub amounts-none : at ≤ length l → l ≡ placed l at (amounts_bytes (take 0 xs))
  unfolding amounts_bytes each_of
  amounts-none h = sets-eq [] l at (omega arith)

  -- the next amount, placed behind the first i, is placed with them
  pub amounts-placed : {i : ℕ} {l₁ l₂ : List ℕ} → i < length xs → at + 8 * length xs ≤ length l
      → l₁ ≡ placed l at (amounts_bytes (take i xs)) → l₂ ≡ placed l₁ (at + 8 * i) (bytes64 (get_or xs i 0))
      → l₂ ≡ placed l at (amounts_bytes (take (i + 1) xs))
  amounts-placed {i} h k e₁ e₂ =
      then-placed l (amounts_bytes (take i xs)) (bytes64 (get_or xs i 0)) at (8 * i) e₁ e₂
      (amounts-length (take i xs) ∙ ap (λ (n : ℕ). 8 * n) (length-take-le i xs (omega arith))) (omega arith)
      ∙ ap (placed l at) (sym (amounts-next xs i h))

pub amounts-in : (xs a b : List ℕ) (at k : ℕ) → length a ≡ at → k < length xs → u64_at (a ++ amounts_bytes xs ++ b) (at + 8 * k) ≡ get_or xs k 0
unfolding amounts_bytes each_of
amounts-in [] a b at k e h = absurd (omega arith)
amounts-in (x ∷ xs) a b at zero e h =
    rw (← append_assoc a (bytes64 x) (each_of bytes64 xs), append_assoc (a ++ bytes64 x) (each_of bytes64 xs) b, add-zero at) (u64-in a (each_of bytes64 xs ++ b) at x e)
amounts-in (x ∷ xs) a b at (suc k) e h =
    let p : at + 8 * suc k ≡ at + 8 + 8 * k = omega arith in
    rw (← append_assoc a (bytes64 x) (each_of bytes64 xs), p)
    (amounts-in xs (a ++ bytes64 x) b (at + 8) k (omega (arith, length-append a (bytes64 x))) (omega arith))

-- the bytes of one
pub amounts-at : (xs b : List ℕ) (k : ℕ) → k < length xs → take 8 (drop (8 * k) (amounts_bytes xs ++ b)) ≡ bytes64 (get_or xs k 0)
unfolding amounts_bytes each_of
amounts-at [] b k h = absurd (omega arith)
amounts-at (x ∷ xs) b zero h = refl
amounts-at (x ∷ xs) b (suc k) h =
    let p : 8 * suc k ≡ 8 + 8 * k = omega arith in
    ap (λ (n : ℕ). take 8 (drop n (amounts_bytes (x ∷ xs) ++ b))) p ∙ ap (take 8) (drop-append-add (bytes64 x) (amounts_bytes xs ++ b) (8 * k)) ∙ amounts-at xs b k (omega arith)
