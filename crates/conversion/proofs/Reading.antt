-- What is read of a book c whose bytes are those of b but for byte 4.
--   past u16-same u64-same base_same        bytes and numbers behind it
--   counterparty-same good-same mitigant-same asset-same   records, an asset where both make the same of its bytes 6 and 7
--   assets-same mitigants-same              where the sections start
use mathlib.Core.List.{List}
use mathlib.Core.Path.{◌≡◌, ap, ap₂}
use Prim.Native.Nat.{ℕ, ◌+◌, ◌*◌, ◌≤◌}
use native.Mathlib.Omega.{arith}
use lib.ListN.{length}
use Rattle.wire.specs.Bytes.{byte_at, u16_at, u64_at, i64_at, signed_of}
use Rattle.book.specs.Records.{header_size, counterparty_size, asset_size, base, assets_start, mitigants_start, counterparty_start, asset_start, mitigant_start, count_in, desk_in, counterparty_at, asset_from, asset_at, mitigant_at}
use Rattle.book.specs.Check.{good_counterparty}

pub record SameBut4 (b c : List ℕ) : Type 0 where
  pub size : length c ≡ length b
  pub each : (k : ℕ) → (k ≡ 4 → ⊥) → byte_at c k ≡ byte_at b k

module _ {b c : List ℕ} (s : SameBut4 b c) where
  -- a byte behind byte 4
  pub past : (k : ℕ) → 5 ≤ k → byte_at c k ≡ byte_at b k
  past k h = s.each k (λ e. omega arith)

  pub u16-same : (k : ℕ) → 5 ≤ k → u16_at c k ≡ u16_at b k
  unfolding u16_at
  u16-same k h = rw (past k h, past (k + 1) (omega arith))

  pub u64-same : (k : ℕ) → 5 ≤ k → u64_at c k ≡ u64_at b k
  unfolding u64_at
  u64-same k h =
      rw (past k h, past (k + 1) (omega arith), past (k + 2) (omega arith), past (k + 3) (omega arith), past (k + 4) (omega arith), past (k + 5) (omega arith), past (k + 6) (omega arith), past (k + 7) (omega arith))

  pub base_same : base c ≡ base b
  unfolding i64_at
  base_same = ap signed_of (u64-same 24 (omega arith))

  pub counterparty-same : (p : ℕ) → counterparty_at c p ≡ counterparty_at b p
  unfolding counterparty_at
  counterparty-same p = let at = counterparty_start p in rw (u16-same at (omega arith), past (at + 2) (omega arith), past (at + 3) (omega arith))

  pub good-same : (p : ℕ) → good_counterparty c p ≡ good_counterparty b p
  unfolding good_counterparty
  good-same p = let at = counterparty_start p in rw (u16-same at (omega arith), past (at + 2) (omega arith), past (at + 3) (omega arith))

  pub assets-same : assets_start c ≡ assets_start b
  assets-same = ap (λ (n : ℕ). header_size + counterparty_size * n) (u16-same 6 (omega arith))

  pub mitigants-same : mitigants_start c ≡ mitigants_start b
  mitigants-same = ap₂ (λ (m n : ℕ). m + asset_size * n) assets-same (u16-same 8 (omega arith))

  pub mitigant-same : (p : ℕ) → mitigant_at c p ≡ mitigant_at b p
  unfolding mitigant_at
  mitigant-same p =
      let at = mitigant_start b p in
      rw (mitigants-same, past at (omega arith), past (at + 1) (omega arith), u16-same (at + 2) (omega arith), u64-same (at + 4) (omega arith))

  -- where both make the same of bytes 6 and 7, an asset is the same
  pub asset-same : (p : ℕ) → count_in c (asset_start b p) ≡ count_in b (asset_start b p) → desk_in c (asset_start b p) ≡ desk_in b (asset_start b p) → asset_at c p ≡ asset_at b p
  unfolding asset_from
  asset-same p e f =
      let at = asset_start b p in
      rw (
        assets-same,
        past at (omega arith),
        past (at + 1) (omega arith),
        past (at + 2) (omega arith),
        past (at + 3) (omega arith),
        u16-same (at + 4) (omega arith),
        e,
        f,
        u64-same (at + 8) (omega arith),
        u64-same (at + 16) (omega arith),
        u64-same (at + 24) (omega arith),
        u64-same (at + 32) (omega arith),
        u64-same (at + 40) (omega arith),
      )
