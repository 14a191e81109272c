-- What is read back of what was placed: u16-in, u64-in read a number off a longer list; u16-back, u64-back, i64-back what was written;
-- placed-more, then-placed join what is placed one after the other.
use mathlib.Core.Path.{◌≡◌, sym, ap, ap₂, ◌∙◌}
use mathlib.Core.List.{List, ◌++◌, append_assoc}
use Prim.Native.Nat.{ℕ, ◌+◌, ◌*◌, ◌/◌, ◌%◌, ◌≤◌, ◌<◌}
use native.Mathlib.Omega.{arith}
use lib.ListN.{length, get_or, take, drop, length-append, get_or-append}
use lib.Seq.{get_or-append-add, length-take-le, take_at, drop_at, drop-drop}
use Rattle.wire.specs.Bytes.{placed, u16_at, u64_at, i64_at, signed_of, bytes16, bytes64}

-- what stands in the middle of a list, read at its place
module _ (a vs b : List ℕ) (at : ℕ) (e : length a ≡ at) where
  pub read-in : (k : ℕ) → k < length vs → get_or (a ++ vs ++ b) (at + k) 0 ≡ get_or vs k 0
  read-in k h =
      get_or-append (a ++ vs) b 0 (at + k) (omega (arith, length-append a vs))
      ∙ ap (λ (n : ℕ). get_or (a ++ vs) (n + k) 0) (sym e)
      ∙ get_or-append-add a vs k 0

  pub read_first : 0 < length vs → get_or (a ++ vs ++ b) at 0 ≡ get_or vs 0 0
  read_first h = ap (λ (n : ℕ). get_or (a ++ vs ++ b) n 0) (omega arith) ∙ read-in 0 h

-- eight digits to the base 256, and what is left after each
digits : (v b0 b1 b2 b3 b4 b5 b6 q1 q2 q3 q4 q5 q6 q7 : ℕ)
    → b0 + q1 * 256 ≡ v → b1 + q2 * 256 ≡ q1 → b2 + q3 * 256 ≡ q2 → b3 + q4 * 256 ≡ q3
    → b4 + q5 * 256 ≡ q4 → b5 + q6 * 256 ≡ q5 → b6 + q7 * 256 ≡ q6
    → b0 + b1 * 256 + b2 * 65536 + b3 * 16777216 + b4 * 4294967296 + b5 * 1099511627776 + b6 * 281474976710656 + q7 * 72057594037927936 ≡ v
digits v b0 b1 b2 b3 b4 b5 b6 q1 q2 q3 q4 q5 q6 q7 e1 e2 e3 e4 e5 e6 e7 = omega arith

-- a number is the sum of its bytes
pub number : (v : ℕ)
    → v % 256 + v / 256 % 256 * 256 + v / 65536 % 256 * 65536 + v / 16777216 % 256 * 16777216 + v / 4294967296 % 256 * 4294967296
    + v / 1099511627776 % 256 * 1099511627776 + v / 281474976710656 % 256 * 281474976710656 + v / 72057594037927936 * 72057594037927936 ≡ v
number v =
    digits v _ _ _ _ _ _ _ (v / 256) (v / 65536) (v / 16777216) (v / 4294967296) (v / 1099511627776) (v / 281474976710656) (v / 72057594037927936)
    (omega arith) (omega arith) (omega arith) (omega arith) (omega arith) (omega arith) (omega arith)

-- a number that was written in the middle of a list
module _ (a b : List ℕ) (at v : ℕ) (e : length a ≡ at) where
  pub u16-in : u16_at (a ++ bytes16 v ++ b) at ≡ v
  unfolding u16_at
  u16-in = omega (arith, read_first a (bytes16 v) b at e (omega arith), read-in a (bytes16 v) b at e 1 (omega arith))

  pub u64-in : u64_at (a ++ bytes64 v ++ b) at ≡ v
  unfolding u64_at
  u64-in =
      let r = read-in a (bytes64 v) b at e in
      rw (read_first a (bytes64 v) b at e (omega arith), r 1 (omega arith), r 2 (omega arith), r 3 (omega arith), r 4 (omega arith), r 5 (omega arith), r 6 (omega arith), r 7 (omega arith))
      (number v)

-- what was placed is read back
pub u64-back : (l : List ℕ) (at v : ℕ) → at + 8 ≤ length l → u64_at (placed l at (bytes64 v)) at ≡ v
u64-back l at v h = u64-in (take at l) (drop (at + 8) l) at v (length-take-le at l (omega arith))

pub u16-back : (l : List ℕ) (at v : ℕ) → at + 2 ≤ length l → u16_at (placed l at (bytes16 v)) at ≡ v
u16-back l at v h = u16-in (take at l) (drop (at + 2) l) at v (length-take-le at l (omega arith))

pub i64-back : (l : List ℕ) (at v : ℕ) → at + 8 ≤ length l → i64_at (placed l at (bytes64 v)) at ≡ signed_of v
unfolding i64_at
i64-back l at v h = ap signed_of (u64-back l at v h)

-- what is placed right after what was placed is placed with it
pub placed-more : (l a b : List ℕ) (at : ℕ) → at + length a + length b ≤ length l → placed (placed l at a) (at + length a) b ≡ placed l at (a ++ b)
placed-more l a b at h =
    let p = take at l ++ a in
    let n : length p ≡ at + length a = length-append (take at l) a ∙ ap (λ (k : ℕ). k + length a) (length-take-le at l (omega arith)) in
    let m : at + length a + length b ≡ at + length (a ++ b) = omega (arith, length-append a b) in
    ap₂ (λ (x y : List ℕ). x ++ b ++ y) (take_at p (drop (at + length a) l) (at + length a) n)
    (sym (drop-drop (length b) (at + length a) (p ++ drop (at + length a) l))
    ∙ ap (drop (length b)) (drop_at p (drop (at + length a) l) (at + length a) n)
    ∙ drop-drop (length b) (at + length a) l)
    ∙ ap₂ (λ (x : List ℕ) (k : ℕ). x ++ drop k l) (append_assoc (take at l) a b) m

-- the same, as a run of calls leaves it: k is what stands there already
pub then-placed : (l a b : List ℕ) (at k : ℕ) {l₁ l₂ : List ℕ} → l₁ ≡ placed l at a → l₂ ≡ placed l₁ (at + k) b → length a ≡ k → at + k + length b ≤ length l → l₂ ≡ placed l at (a ++ b)
then-placed l a b at k e₁ e₂ n h =
    e₂ ∙ ap (λ (x : List ℕ). placed x (at + k) b) e₁ ∙ ap (λ (j : ℕ). placed (placed l at a) (at + j) b) (sym n) ∙ placed-more l a b at (omega arith)

-- what is placed right before what was placed, at the start, is placed with it
pub placed-before : (l a b : List ℕ) → length a + length b ≤ length l → placed (placed l (length a) b) 0 a ≡ placed l 0 (a ++ b)
placed-before l a b h =
    let rest = drop (length a + length b) l in
    let m : length a + length b ≡ 0 + length (a ++ b) = omega (arith, length-append a b) in
    let z : 0 + length a ≡ length a = omega arith in
    ap (λ (x : List ℕ). a ++ x)
    (ap₂ drop z (append_assoc (take (length a) l) b rest) ∙ drop_at (take (length a) l) (b ++ rest) (length a) (length-take-le (length a) l (omega arith)))
    ∙ sym (append_assoc a b rest) ∙ ap (λ (k : ℕ). a ++ b ++ drop k l) m
