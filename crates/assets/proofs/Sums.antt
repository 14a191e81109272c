-- Amounts of a book's assets by place: their sum (over_assets), and the sum below a place (Below), as a loop over rising places has it.
use mathlib.Core.Path.{◌≡◌, refl, ap}
use mathlib.Core.List.{List}
use Prim.Native.Nat.{ℕ, zero, suc, ◌+◌, ◌*◌, ◌-◌, ◌≤◌, ◌<◌, ◌^◌}
use native.Mathlib.Omega.{arith}
use Rattle.words.specs.Words.{sum_of}
use Rattle.wire.specs.Bytes.{M}
use Rattle.book.specs.declared.Asset.{Asset}
use Rattle.book.specs.Records.{C, N, asset_at}
use Rattle.book.specs.Book.{Holding, holdings_from}
use Rattle.book.specs.Accepted.{Accepted, AssetFits}

-- the sum of an amount over `more` assets from a place on
unfoldable pub over_assets : (Asset → ℕ) → List ℕ → ℕ → ℕ → ℕ
over_assets f b place zero = 0
over_assets f b place (suc more) = f (asset_at b place) + over_assets f b (place + 1) more

-- wherever their mitigants stand
pub over-holdings : (f : Asset → ℕ) (b : List ℕ) (more place m : ℕ) → sum_of (λ (h : Holding). f h.asset) (holdings_from b place m more) ≡ over_assets f b place more
unfolding over_assets sum_of holdings_from
over-holdings f b zero place m = refl
over-holdings f b (suc more) place m = ap (λ (s : ℕ). f (asset_at b place) + s) (over-holdings f b more (place + 1) (m + (asset_at b place).count))

over-le : (f g : Asset → ℕ) (b : List ℕ) → ((p : ℕ) → 0 < p → p ≤ N b → f (asset_at b p) ≤ g (asset_at b p)) → (more place : ℕ) → 0 < place → place + more ≤ N b + 1 → over_assets f b place more ≤ over_assets g b place more
unfolding over_assets
over-le f g b h zero place l k = omega arith
over-le f g b h (suc more) place l k = omega (arith, h place l (omega arith), over-le f g b h more (place + 1) (omega arith) (omega arith))

over-same : (n : ℕ) (b : List ℕ) (more place : ℕ) → over_assets (λ a. n) b place more ≡ n * more
unfolding over_assets
over-same n b zero place = omega arith
over-same n b (suc more) place = omega (arith, over-same n b more (place + 1))

module _ (b : List ℕ) (acc : Accepted b) (f : Asset → ℕ) where
  -- an amount that is at most another in each asset is so in all
  pub sum-le : (g : Asset → ℕ) → ((a : Asset) → AssetFits (C b) a → f a ≤ g a) → over_assets f b 1 (N b) ≤ over_assets g b 1 (N b)
  sum-le g h = over-le f g b (λ p l k. h (asset_at b p) (acc.asset p l k)) (N b) 1 (omega arith) (omega arith)

  -- an amount of at most M, over all assets
  pub sum-most : ((a : Asset) → AssetFits (C b) a → f a ≤ M) → over_assets f b 1 (N b) ≤ M * 900
  sum-most h = omega (arith, acc.assets, sum-le (λ a. M) h, over-same M b (N b) 1)

-- ---- the sum below a place

pub record Below (f : Asset → ℕ) (b : List ℕ) (place s : ℕ) : Type 0 where
  pub sum : s + over_assets f b place (N b + 1 - place) ≡ over_assets f b 1 (N b)

pub below-start : (f : Asset → ℕ) (b : List ℕ) → Below f b 1 0
below-start f b = let d : N b + 1 - 1 ≡ N b = omega arith in record { sum = rw d (omega arith) }

module _ {f : Asset → ℕ} {b : List ℕ} {place s : ℕ} (k : Below f b place s) where
  step : place ≤ N b → over_assets f b place (N b + 1 - place) ≡ f (asset_at b place) + over_assets f b (place + 1) (N b + 1 - (place + 1))
  unfolding over_assets
  step h =
      let d : N b + 1 - place ≡ suc (N b - place) = omega arith in
      let e : N b + 1 - (place + 1) ≡ N b - place = omega arith in
      rw (d, e)

  pub below_step : {v : ℕ} → place ≤ N b → v ≡ f (asset_at b place) → Below f b (place + 1) (s + v)
  below_step h e = record { sum = omega (arith, e, k.sum, step h) }

  pub below-room : {v : ℕ} → place ≤ N b → v ≡ f (asset_at b place) → over_assets f b 1 (N b) ≤ M * 900 → s + v < 2 ^ 64
  below-room h e m = omega (arith, e, k.sum, step h)

  pub below_end : N b < place → s ≡ over_assets f b 1 (N b)
  unfolding over_assets
  below_end h =
      let d : N b + 1 - place ≡ 0 = omega arith in
      let e : s + over_assets f b place 0 ≡ over_assets f b 1 (N b) = rw d at k.sum in
      omega arith
