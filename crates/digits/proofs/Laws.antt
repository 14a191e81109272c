-- decimal-is: what `io::decimal` spells is `decimal`. then-written: text written behind text is written with it; then-number the same for
-- a number and the byte that ends it.
use mathlib.Core.Bool.{Bool, true, false}
use mathlib.Core.Path.{◌≡◌, refl, sym, ap, ap₂, subst, ◌∙◌}
use mathlib.Core.List.{List, [], ◌∷◌, ◌++◌, append_assoc}
use Prim.Native.Nat.{ℕ, zero, suc, ◌*◌, ◌-◌, ◌/◌, ◌%◌, ◌^◌, ◌≤◌, ◌<◌}
use native.Mathlib.Nat.{pow-suc, one-le-pow, pow-le-pow_right}
use native.Mathlib.Omega.{arith}
use lib.Dec.{leb}
use lib.ListN.{length, length-append}
use borrow.Author.Tests.{lt-ltb, le-ltb, leb-true, leb-false}
use Rattle.io.specs.Digits.{last_digits, hex_digit_ascii, IsDigitCount}
use Rattle.wire.specs.Bytes.{placed}
use Rattle.wire.proofs.Laws.{then-placed}
use Rattle.digits.specs.Decimal.{digit_byte, decimal_by, decimal}
use Rattle.digits.specs.Written.{Written}

-- a digit's byte
glyph-digit : (d : ℕ) → d < 10 → hex_digit_ascii d ≡ digit_byte d
glyph-digit d h = simp (lt-ltb d 10 h)

-- n below 10 is one digit
one-digit : (n : ℕ) → n < 10 → last_digits 10 1 n ≡ digit_byte n ∷ []
one-digit n h = ap (λ (b : ℕ). b ∷ []) (glyph-digit (n % 10) (omega arith) ∙ ap digit_byte (omega arith))

-- the fewest digits of n are the fewest of n / 10 and then the last
spelled : (more n k : ℕ) → k ≤ suc more → IsDigitCount 10 1 n k → last_digits 10 k n ≡ decimal_by more n
unfolding decimal_by
spelled more n zero h f = absurd (omega arith)
spelled zero n (suc zero) h f = one-digit n f.1
spelled zero n (suc (suc k)) h f = absurd (omega arith)
spelled (suc more) n (suc zero) h f = rw (lt-ltb n 10 f.1) (one-digit n f.1)
spelled (suc more) n (suc (suc k)) h f =
    let one_less : suc (suc k) - 1 ≡ suc k = omega arith in
    let less : suc k - 1 ≡ k = omega arith in
    let least : 10 ^ suc k ≤ n = rw one_less at (f.2 (omega arith)) in
    let up : 10 ^ suc k ≡ 10 ^ k * 10 = pow-suc 10 k in
    let up₂ : 10 ^ suc (suc k) ≡ 10 ^ suc k * 10 = pow-suc 10 (suc k) in
    let some : 1 ≤ 10 ^ k = one-le-pow k 10 (omega arith) in
    let fewer : IsDigitCount 10 1 (n / 10) (suc k) =
    (omega arith, omega (arith, f.1), λ _. rw less (omega arith)) in
    rw (le-ltb n 10 (omega arith))
    (ap₂ (λ (x : List ℕ) (b : ℕ). x ++ (b ∷ [])) (spelled more (n / 10) (suc k) (omega arith) fewer) (glyph-digit (n % 10) (omega arith)))

-- a number of 64 bits has at most 20 digits
pub few : (n k : ℕ) → n < 2 ^ 64 → IsDigitCount 10 1 n k → k ≤ 20
few n k h f = by (leb k 20) refl
  where
    by : (t : Bool) → leb k 20 ≡ t → k ≤ 20
    by true e = leb-true k 20 e
    by false e =
        let more : 20 < k = leb-false k 20 e in
        absurd (omega (arith, f.2 (omega arith), pow-le-pow_right {n = 10} (omega arith) {i = 20} {j = k - 1} (omega arith)))

-- what `io::decimal` spells
pub decimal-is : (n k : ℕ) → n < 2 ^ 64 → IsDigitCount 10 1 n k → last_digits 10 k n ≡ decimal n
unfolding decimal
decimal-is n k h f = spelled 19 n k (few n k h f) f

-- text written behind text
pub then-written : {l l₁ l₂ : List ℕ} {at k r : ℕ} (a b : List ℕ) → Written l at a l₁ k → Written l₁ k b l₂ r → r ≤ length l → Written l at (a ++ b) l₂ r
then-written {l} {l₁} {at = at} a b w v h =
    record {
      bytes = then-placed l a b at (length a) w.bytes (v.bytes ∙ ap (λ (j : ℕ). placed l₁ j b) w.place) refl (omega (arith, w.place, v.place));
      place = v.place ∙ omega (arith, w.place, length-append a b);
    }

-- a number and the byte that ends it, written behind text
pub then-number : {l l₁ l₂ : List ℕ} {at k r : ℕ} (a : List ℕ) (n end : ℕ) → Written l at a l₁ k → Written l₁ k (decimal n ++ (end ∷ [])) l₂ r → r ≤ length l
    → Written l at (a ++ decimal n ++ (end ∷ [])) l₂ r
then-number {l} {l₂ = l₂} {at} {r = r} a n end w v h =
    subst (λ (x : List ℕ). Written l at x l₂ r) (sym (append_assoc a (decimal n) (end ∷ []))) (then-written a (decimal n ++ (end ∷ [])) w v h)
