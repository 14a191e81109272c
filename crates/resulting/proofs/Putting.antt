-- A book put together in lent bytes, part by part.
--   over over-start over-next   bytes over the start of others, and what is placed right behind them
--   over-counts                 other counts in a front
--   added-put removed-put       the book after a movement
use mathlib.Core.List.{List, ◌++◌, append_assoc}
use mathlib.Core.Path.{◌≡◌, sym, ap, ap₂, ◌∙◌}
use Prim.Native.Nat.{ℕ, ◌+◌, ◌*◌, ◌-◌, ◌≤◌, ◌<◌}
use native.Mathlib.Omega.{arith}
use native.Mathlib.Nat.{sub-zero}
use lib.ListN.{length, take, drop, length-append}
use lib.Seq.{length-take-le, take_at, drop_at, take-add, take-take, take-append-le, drop-drop, take_all}
use Rattle.wire.specs.Bytes.{bytes16, placed}
use Rattle.book.specs.Records.{C, N, K, asset_start, mitigant_start, mitigants_start, asset_at}
use Rattle.book.specs.Accepted.{Accepted}
use Rattle.movement.specs.declared.Spot.{Spot}
use Rattle.movement.specs.Raw.{slice, front_of}
use Rattle.movement.specs.Movement.{counts_before, with_asset, without_asset}
use Rattle.movement.specs.Promise.{Found}
use Rattle.resulting.specs.Promise.{BookPut}
use Rattle.movement.proofs.Reading.{slice-long, slice-add, slice-end}
use Rattle.movement.proofs.Front.{front_long}
use Rattle.movement.proofs.Afresh.{counts-within}
use Rattle.movement.proofs.Parse.{next-asset}
use Rattle.movement.proofs.Steps.{added-long, removed-long}

-- a over the start of l
abbrev pub over : List ℕ → List ℕ → List ℕ
over l a = a ++ drop (length a) l

pub over-start : (l a : List ℕ) → placed l 0 a ≡ over l a
over-start l a = let z : 0 + length a ≡ length a = omega arith in ap (λ (k : ℕ). a ++ drop k l) z

pub over-next : (l a b : List ℕ) (at : ℕ) {l₁ : List ℕ} → l₁ ≡ over l a → length a ≡ at → placed l₁ at b ≡ over l (a ++ b)
over-next l a b at e q =
    let n : length a + length b ≡ length (a ++ b) = sym (length-append a b) in
    rw e
    (ap₂ (λ (x y : List ℕ). x ++ b ++ y) (take_at a (drop (length a) l) at q)
    (sym (drop-drop (length b) at (a ++ drop (length a) l)) ∙ ap (drop (length b)) (drop_at a (drop (length a) l) at q) ∙ drop-drop (length b) (length a) l ∙ ap (λ (k : ℕ). drop k l) n))

module _ (b : List ℕ) (fits : 40 + 4 * C b ≤ length b) (n k : ℕ) where
  -- counts placed in a header
  counts-placed : (rest : List ℕ) → placed (take (40 + 4 * C b) b ++ rest) 8 (bytes16 n ++ bytes16 k) ≡ front_of b n k ++ rest
  unfolding front_of
  counts-placed rest =
      let x = 28 + 4 * C b in
      let F = take (40 + 4 * C b) b in
      let twelve : length (take 12 b) ≡ 12 = length-take-le 12 b (omega arith) in
      let s : 40 + 4 * C b ≡ 12 + x = omega arith in
      let split : F ≡ take 12 b ++ slice b 12 x = ap (λ (i : ℕ). take i b) s ∙ take-add 12 x b in
      let first : take 8 (F ++ rest) ≡ take 8 b = take-append-le 8 F rest (omega (arith, length-take-le (40 + 4 * C b) b fits)) ∙ take-take 8 (40 + 4 * C b) b (omega arith) in
      let behind : drop 12 (F ++ rest) ≡ slice b 12 x ++ rest =
      ap (λ (l : List ℕ). drop 12 (l ++ rest)) split ∙ ap (drop 12) (append_assoc (take 12 b) (slice b 12 x) rest) ∙ drop_at (take 12 b) (slice b 12 x ++ rest) 12 twelve in
      ap₂ (λ (u v : List ℕ). u ++ (bytes16 n ++ bytes16 k) ++ v) first behind ∙ simp append_assoc

  pub over-counts : (d y : List ℕ) {l : List ℕ} → l ≡ over d (take (40 + 4 * C b) b ++ y) → placed l 8 (bytes16 n ++ bytes16 k) ≡ over d (front_of b n k ++ y)
  over-counts d y e =
      let F = take (40 + 4 * C b) b in
      let same : length (F ++ y) ≡ length (front_of b n k ++ y) = omega (arith, length-append F y, length-append (front_of b n k) y, length-take-le (40 + 4 * C b) b fits, front_long b fits n k) in
      rw e
      (ap (λ (l : List ℕ). placed l 8 (bytes16 n ++ bytes16 k)) (append_assoc F y (drop (length (F ++ y)) d))
      ∙ counts-placed (y ++ drop (length (F ++ y)) d)
      ∙ sym (append_assoc (front_of b n k) y (drop (length (F ++ y)) d))
      ∙ ap (λ (i : ℕ). (front_of b n k ++ y) ++ drop i d) same)

-- where the parts around an asset and its mitigants meet
module _ (b : List ℕ) (acc : Accepted b) (place : ℕ) (low : 0 < place) (high : place ≤ N b) where
  at_in : asset_start b place ≤ length b
  at_in = omega (arith, acc.size)

  joint : asset_start b (place + 1) + 48 * (N b - place) ≡ mitigant_start b 1
  joint = omega arith

  between : mitigant_start b (1 + counts_before b place) - (asset_start b place + 48) ≡ 48 * (N b - place) + 12 * (1 + counts_before b place - 1)
  between = omega arith

  first-in : asset_start b place + 48 + (mitigant_start b (1 + counts_before b place) - (asset_start b place + 48)) ≤ length b
  first-in = omega (arith, counts-within b acc place low high, acc.size)

  first-before : asset_start b place + (mitigant_start b (1 + counts_before b place) - (asset_start b place + 48)) ≡ mitigant_start b (1 + counts_before b place) - 48
  first-before = omega arith

  last-in : length b ≤ mitigant_start b (1 + counts_before b place + (asset_at b place).count) + (length b - mitigant_start b (1 + counts_before b place + (asset_at b place).count))
  last-in = omega arith

  how-long : mitigant_start b (1 + counts_before b place) - 48 + (length b - mitigant_start b (1 + counts_before b place + (asset_at b place).count)) ≡ length (without_asset b place)
  how-long = omega (arith, removed-long b acc place low high, counts-within b acc place low high, acc.size)

-- that they stand in this order, within the book
pub record Bounds (b : List ℕ) (s : Spot) : Type 0 where
  pub front : 12 ≤ s.asset
  pub own : s.asset + 48 ≤ s.first
  pub several : s.first ≤ s.behind
  pub within : s.behind ≤ length b
  pub count : s.count ≤ K b
  pub fits : length b < 18446744073709551616

pub bounds : (b : List ℕ) → Accepted b → (place : ℕ) → 0 < place → place ≤ N b → {s : Spot} → Found b place s → Bounds b s
bounds b acc place low high {s} t =
    let w = counts-within b acc place low high in
    record {
      front = rw t.asset (omega arith);
      own = rw (t.asset, t.first) (omega arith);
      several = rw (t.first, t.behind) (omega arith);
      within = rw t.behind (omega (arith, w, acc.size));
      count = rw t.count (omega (arith, w));
      fits = omega (arith, acc.size, acc.counterparties, acc.assets, acc.mitigants);
    }

module _ (b d : List ℕ) (acc : Accepted b) where
  fits : 40 + 4 * C b ≤ length b
  fits = omega (arith, acc.size)

  -- what stands before the asset at a place, or before the mitigants
  before-asset : (n : ℕ) → take (40 + 4 * C b + 48 * n) b ≡ take (40 + 4 * C b) b ++ slice b (asset_start b 1) (48 * n)
  before-asset n = let a : 40 + 4 * C b ≡ asset_start b 1 = omega arith in take-add (40 + 4 * C b) (48 * n) b ∙ ap (λ (i : ℕ). take (40 + 4 * C b) b ++ slice b i (48 * n)) a

  -- ---- "adds a 48-byte asset record": what stands before the mitigants, the record, the mitigants; the counts
  pub added-put :
      (r : List ℕ) (m n k end : ℕ) {l₁ l₂ l₃ l₄ : List ℕ} → length r ≡ 48 → m ≡ mitigants_start b → n ≡ N b → k ≡ K b → end ≡ length b
      → l₁ ≡ placed d 0 (slice b 0 (m - 0)) → l₂ ≡ placed l₁ m (slice r 0 (48 - 0)) → l₃ ≡ placed l₂ (m + 48) (slice b m (end - m)) → l₄ ≡ placed l₃ 8 (bytes16 (n + 1) ++ bytes16 k)
      → BookPut (with_asset b r) d l₄ (end + 48)
  unfolding with_asset
  added-put r m n k end {l₁} {l₂} {l₃} {l₄} lr em en ek ee e₁ e₂ e₃ e₄ =
      let F = take (40 + 4 * C b) b in
      let P = slice b (asset_start b 1) (48 * N b) in
      let M = drop (mitigant_start b 1) b in
      let z : m - 0 ≡ m = omega arith in
      let mm : m ≡ mitigant_start b 1 = omega arith in
      let s₁ : l₁ ≡ over d (take m b) = e₁ ∙ over-start d (slice b 0 (m - 0)) ∙ ap (λ (i : ℕ). over d (take i b)) z in
      let s₂ : l₂ ≡ over d (take m b ++ r) = e₂ ∙ over-next d (take m b) (slice r 0 (48 - 0)) m s₁ (length-take-le m b (omega (arith, acc.size))) ∙ ap (λ (x : List ℕ). over d (take m b ++ x)) (take_all 48 r (omega arith)) in
      let long : length (take m b ++ r) ≡ m + 48 = omega (arith, length-append (take m b) r, length-take-le m b (omega (arith, acc.size))) in
      let s₃ : l₃ ≡ over d ((take m b ++ r) ++ M) =
      e₃ ∙ over-next d (take m b ++ r) (slice b m (end - m)) (m + 48) s₂ long
      ∙ ap (λ (x : List ℕ). over d ((take m b ++ r) ++ x)) (slice-end b m (end - m) (omega (arith, acc.size)) ∙ ap (λ (i : ℕ). drop i b) mm) in
      let cut : take m b ≡ F ++ P = ap (λ (i : ℕ). take i b) em ∙ before-asset (N b) in
      let all : (take m b ++ r) ++ M ≡ F ++ (P ++ (r ++ M)) = rw cut (simp append_assoc) in
      let counted = over-counts b fits (N b + 1) (K b) d (P ++ (r ++ M)) (s₃ ∙ ap (over d) all) in
      let same : l₄ ≡ placed l₃ 8 (bytes16 (N b + 1) ++ bytes16 (K b)) = e₄ ∙ ap₂ (λ (x y : ℕ). placed l₃ 8 (bytes16 (x + 1) ++ bytes16 y)) en ek in
      record { size = omega (arith, added-long b acc r lr); bytes = same ∙ counted }

  -- ---- "takes the asset at a place away with its mitigants and closes up": what stands before it, from behind it to its mitigants, what is behind these; the counts
  pub removed-put :
      (place at first behind n k end : ℕ) {l₁ l₂ l₃ l₄ : List ℕ} → 0 < place → place ≤ N b
      → at ≡ asset_start b place → first ≡ mitigant_start b (1 + counts_before b place) → behind ≡ mitigant_start b (1 + counts_before b place + (asset_at b place).count)
      → n ≡ N b - 1 → k ≡ K b - (asset_at b place).count → end ≡ length b
      → l₁ ≡ placed d 0 (slice b 0 (at - 0)) → l₂ ≡ placed l₁ at (slice b (at + 48) (first - (at + 48))) → l₃ ≡ placed l₂ (first - 48) (slice b behind (end - behind)) → l₄ ≡ placed l₃ 8 (bytes16 n ++ bytes16 k)
      → BookPut (without_asset b place) d l₄ (first - 48 + (end - behind))
  unfolding without_asset
  removed-put place at first behind n k end {l₁} {l₂} {l₃} {l₄} low high ea ef eb en ek ee e₁ e₂ e₃ e₄ =
      let c = counts_before b place in
      let count = (asset_at b place).count in
      let F = take (40 + 4 * C b) b in
      let A = slice b (asset_start b 1) (48 * (place - 1)) in
      let B = slice b (asset_start b (place + 1)) (48 * (N b - place)) in
      let D = slice b (mitigant_start b 1) (12 * (1 + c - 1)) in
      let E = drop (mitigant_start b (1 + c + count)) b in
      let gap : ℕ = first - (at + 48) in
      let z : at - 0 ≡ at = sub-zero at in
      let s₁ : l₁ ≡ over d (take at b) = e₁ ∙ over-start d (slice b 0 (at - 0)) ∙ ap (λ (i : ℕ). over d (take i b)) z in
      let la : length (take at b) ≡ at = length-take-le at b (rw ea (at_in b acc place low high)) in
      let next : at + 48 ≡ asset_start b (place + 1) = ap (λ (i : ℕ). i + 48) ea ∙ sym (next-asset b place low) in
      let both : gap ≡ 48 * (N b - place) + 12 * (1 + c - 1) = ap₂ (λ (i j : ℕ). i - (j + 48)) ef ea ∙ between b acc place low high in
      let middle : slice b (at + 48) gap ≡ B ++ D =
      ap₂ (λ (i j : ℕ). slice b i j) next both ∙ slice-add b (asset_start b (place + 1)) (48 * (N b - place)) (12 * (1 + c - 1)) ∙ ap (λ (i : ℕ). B ++ slice b i (12 * (1 + c - 1))) (joint b acc place low high) in
      let s₂ : l₂ ≡ over d (take at b ++ (B ++ D)) = e₂ ∙ over-next d (take at b) (slice b (at + 48) gap) at s₁ la ∙ ap (λ (x : List ℕ). over d (take at b ++ x)) middle in
      let lm : length (B ++ D) ≡ gap = ap length (sym middle) ∙ slice-long b (at + 48) gap (rw (ea, ef) (first-in b acc place low high)) in
      let long : length (take at b ++ (B ++ D)) ≡ first - 48 = length-append (take at b) (B ++ D) ∙ ap₂ (λ (i j : ℕ). i + j) la lm ∙ rw (ea, ef) (first-before b acc place low high) in
      let last : slice b behind (end - behind) ≡ E = slice-end b behind (end - behind) (rw (ee, eb) (last-in b acc place low high)) ∙ ap (λ (i : ℕ). drop i b) eb in
      let s₃ : l₃ ≡ over d ((take at b ++ (B ++ D)) ++ E) = e₃ ∙ over-next d (take at b ++ (B ++ D)) (slice b behind (end - behind)) (first - 48) s₂ long ∙ ap (λ (x : List ℕ). over d ((take at b ++ (B ++ D)) ++ x)) last in
      let cut : take at b ≡ F ++ A = ap (λ (i : ℕ). take i b) ea ∙ before-asset (place - 1) in
      let all : (take at b ++ (B ++ D)) ++ E ≡ F ++ (A ++ (B ++ (D ++ E))) = rw cut (simp append_assoc) in
      let counted = over-counts b fits (N b - 1) (K b - count) d (A ++ (B ++ (D ++ E))) (s₃ ∙ ap (over d) all) in
      let same : l₄ ≡ placed l₃ 8 (bytes16 (N b - 1) ++ bytes16 (K b - count)) = e₄ ∙ ap₂ (λ (x y : ℕ). placed l₃ 8 (bytes16 x ++ bytes16 y)) en ek in
      record { size = rw (ee, ef, eb) (how-long b acc place low high); bytes = same ∙ counted }
