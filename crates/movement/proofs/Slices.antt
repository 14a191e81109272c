-- The assets of a book with their mitigants, as parts of its bytes.
--   assets-slice mitigants-slice    their bytes, one after the other, are a part of the book's
--   raw-split raw-long              the first and the others; how many there are
--   raw-K own-formed                of an accepted book: their counts add to K, and they have their lengths
use mathlib.Core.List.{List, [], ◌++◌}
use mathlib.Core.Path.{◌≡◌, refl, sym, ap, ◌∙◌}
use Prim.Native.Nat.{ℕ, zero, suc, ◌+◌, ◌*◌, ◌≤◌, ◌<◌}
use native.Mathlib.Omega.{arith}
use native.Mathlib.Nat.{add-zero, zero-add}
use lib.ListN.{length}
use Rattle.words.specs.Words.{sum_of, sum, each_of, All}
use Rattle.words.specs.Sums.{sum_first, sum_same}
use Rattle.book.specs.Records.{version, N, K, asset_start, mitigant_start, asset_from, asset_at}
use Rattle.book.specs.Book.{Holding, holdings_from}
use Rattle.book.specs.Check.{counts_add}
use Rattle.book.specs.Accepted.{Accepted}
use Rattle.movement.specs.Raw.{slice, mitigant_count, raw_from, asset_bytes, mitigant_bytes}
use Rattle.movement.proofs.Reading.{count_by, slice-long, slice-agree, slice-add}
use Rattle.movement.proofs.Parse.{Formed, next-asset, next-mitigant}

module _ (b : List ℕ) where
  -- the count is the asset's
  pub raw-count : (place : ℕ) → mitigant_count (version b) (record { asset = slice b (asset_start b place) 48; mitigants = [] }) ≡ (asset_at b place).count
  unfolding asset_from
  raw-count place = sym (count_by (slice-agree b (asset_start b place) 48))

  pub assets-slice : (more place m : ℕ) → 0 < place → asset_bytes (raw_from b place m more) ≡ slice b (asset_start b place) (48 * more)
  unfolding raw_from each_of
  assets-slice zero place m l = refl
  assets-slice (suc more) place m l =
      let q : 48 * suc more ≡ 48 + 48 * more = omega arith in
      rw (assets-slice more (place + 1) (m + (asset_at b place).count) (omega arith), next-asset b place l, q) (sym (slice-add b (asset_start b place) 48 (48 * more)))

  pub mitigants-slice : (more place m : ℕ) → 0 < m → mitigant_bytes (raw_from b place m more) ≡ slice b (mitigant_start b m) (12 * sum_of (mitigant_count (version b)) (raw_from b place m more))
  unfolding raw_from each_of sum_of
  mitigants-slice zero place m l = refl
  mitigants-slice (suc more) place m l =
      let count = (asset_at b place).count in
      let others = sum_of (mitigant_count (version b)) (raw_from b (place + 1) (m + count) more) in
      let q : 12 * (count + others) ≡ 12 * count + 12 * others = omega arith in
      rw (raw-count place, mitigants-slice more (place + 1) (m + count) (omega arith), next-mitigant b m count l, q) (sym (slice-add b (mitigant_start b m) (12 * count) (12 * others)))

  pub raw-long : (more place m : ℕ) → length (raw_from b place m more) ≡ more
  unfolding raw_from
  raw-long zero place m = refl
  raw-long (suc more) place m = ap suc (raw-long more (place + 1) (m + (asset_at b place).count))

  pub raw-split : (x y place m : ℕ) → raw_from b place m (x + y) ≡ raw_from b place m x ++ raw_from b (place + x) (m + sum_of (mitigant_count (version b)) (raw_from b place m x)) y
  unfolding raw_from sum_of
  raw-split zero y place m = rw (zero-add, add-zero place, add-zero m)
  raw-split (suc x) y place m =
      let count = (asset_at b place).count in
      let rest = raw_from b (place + 1) (m + count) x in
      let q : suc x + y ≡ suc (x + y) = omega arith in
      let p : place + suc x ≡ place + 1 + x = omega arith in
      let r : m + (count + sum_of (mitigant_count (version b)) rest) ≡ m + count + sum_of (mitigant_count (version b)) rest = omega arith in
      rw (q, p, raw-count place, r, raw-split x y (place + 1) (m + count))

  -- the counts of an accepted book's assets add to K
  items-counts : (more place m : ℕ) → sum_of (mitigant_count (version b)) (raw_from b place m more) ≡ sum_of (λ (h : Holding). h.asset.count) (holdings_from b place m more)
  unfolding raw_from holdings_from sum_of
  items-counts zero place m = refl
  items-counts (suc more) place m = rw (raw-count place, items-counts more (place + 1) (m + (asset_at b place).count))

  -- and add up place by place
  pub raw-sum : (more place m : ℕ) → sum_of (mitigant_count (version b)) (raw_from b place m more) ≡ sum (λ k. (asset_at b (place + k)).count) more
  unfolding raw_from sum_of sum
  raw-sum zero place m = refl
  raw-sum (suc more) place m =
      let f : ℕ → ℕ = λ k. (asset_at b (place + k)).count in
      let here : f 0 ≡ (asset_at b place).count = ap (λ (p : ℕ). (asset_at b p).count) (add-zero place) in
      let same = sum_same (λ k. (asset_at b (place + 1 + k)).count) (λ k. f (suc k)) more (λ k _. ap (λ (p : ℕ). (asset_at b p).count) (omega arith)) in
      omega (arith, raw-count place, here, raw-sum more (place + 1) (m + (asset_at b place).count), same, sum_first f more)

  module _ (acc : Accepted b) where
    pub raw-K : sum_of (mitigant_count (version b)) (raw_from b 1 1 (N b)) ≡ K b
    unfolding counts_add
    raw-K = items-counts (N b) 1 1 ∙ acc.counted

    items-formed : (more place m : ℕ) → 0 < place → place + more ≤ N b + 1 → 0 < m → m + sum_of (mitigant_count (version b)) (raw_from b place m more) ≤ K b + 1 → All (Formed (version b)) (raw_from b place m more)
    unfolding raw_from sum_of
    items-formed zero place m l h lm k = tt
    items-formed (suc more) place m l h lm k =
        let count = (asset_at b place).count in
        let c = raw-count place in (
          (slice-long b (asset_start b place) 48 (omega (arith, acc.size)), slice-long b (mitigant_start b m) (12 * count) (omega (arith, acc.size)) ∙ omega arith),
          items-formed more (place + 1) (m + count) (omega arith) (omega arith) (omega arith) (omega arith),
        )

    pub own-formed : All (Formed (version b)) (raw_from b 1 1 (N b))
    own-formed = items-formed (N b) 1 1 (omega arith) (omega arith) (omega arith) (omega (arith, raw-K))
