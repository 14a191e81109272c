-- What was read of a header, field by field: header-counts, header-amounts, header-specialist; of where the sections start:
-- mitigants-from; of where the assets stand: assets-start, assets-counts.
use Rattle.std.specs.Prelude.{List, ◌≡◌, ℕ, ◌+◌, ◌*◌}
use Rattle.std.proofs.Math.Path.{ap}
use Rattle.std.proofs.Common.{arith}
use Rattle.book.specs.declared.Header.{Header}
use Rattle.book.specs.declared.Assets.{Assets}
use Rattle.book.specs.Records.{header_size, counterparty_size, asset_size, C, N, K, specialist, total, base, excluded, header_at, assets_start, mitigants_start, count_mask, assets_of}

module _ (b : List ℕ) {h : Header} (e : h ≡ header_at b) where
  pub header-counts : (h.counterparties ≡ C b) × (h.assets ≡ N b) × (h.mitigants ≡ K b)
  unfolding header_at
  header-counts = (ap (λ (x : Header). x.counterparties) e, ap (λ (x : Header). x.assets) e, ap (λ (x : Header). x.mitigants) e)

  pub header-amounts : (h.total ≡ total b) × (h.base ≡ base b) × (h.excluded ≡ excluded b)
  unfolding header_at
  header-amounts = (ap (λ (x : Header). x.total) e, ap (λ (x : Header). x.base) e, ap (λ (x : Header). x.excluded) e)

  pub header-specialist : h.specialist ≡ specialist b
  unfolding header_at
  header-specialist = ap (λ (x : Header). x.specialist) e

  -- where the mitigants start, out of the header
  pub mitigants-from : {n : ℕ} → n ≡ header_size + counterparty_size * h.counterparties + asset_size * h.assets → n ≡ mitigants_start b
  mitigants-from q = omega (arith, header-counts.0, header-counts.1)

module _ (b : List ℕ) {a : Assets} (e : a ≡ assets_of b) where
  pub assets-start : a.start ≡ assets_start b
  unfolding assets_of
  assets-start = ap (λ (x : Assets). x.start) e

  pub assets-counts : a.counts ≡ count_mask b
  unfolding assets_of
  assets-counts = ap (λ (x : Assets). x.counts) e
