-- Worked limits, computed on the definitions.
use Rattle.std.specs.Prelude.{Bool, true, false, List, [], ◌∷◌, ◌++◌, ◌≡◌, refl, ℕ, ◌*◌, ℤ, pos, negsuc}
use Rattle.words.specs.Words.{◌<?◌, ◌=?◌, every}
use Rattle.wire.specs.Bytes.{M}
use Rattle.limit.specs.declared.Row.{Row}
use Rattle.limit.specs.Limit.{ten_thousandths, greatest, unrounded, limit_of}
use Rattle.limit.specs.Bounds.{most_unrounded}

record Case : Type 0 where
  row : Row
  percent : ℕ
  vaf : ℕ
  base : ℤ
  w : ℕ
  limit : ℕ

-- rate, second rate and base rate in ten-thousandths, fixed amount; then percent, VAF, base, W and the limit
abbrev case : ℕ → ℕ → ℕ → ℕ → ℕ → ℕ → ℤ → ℕ → ℕ → Case
case rate second base_rate fixed percent vaf base w limit =
    record {
      row = record { rate = rate; second = second; base_rate = base_rate; fixed = fixed };
      percent = percent;
      vaf = vaf;
      base = base;
      w = w;
      limit = limit;
    }

-- the same with rates per mille
abbrev mille : ℕ → ℕ → ℕ → ℕ → ℕ → ℕ → ℤ → ℕ → ℕ → Case
mille rate second base_rate fixed = case (10 * rate) (10 * second) (10 * base_rate) fixed

in_per_mille : List Case
in_per_mille =
    -- T6 "VAF 39, base 0: i limit 0; 40: 1"
    mille 25 0 125 0 100 39 (pos 0) 0 0
    ∷ mille 25 0 125 0 100 40 (pos 0) 0 1
    -- T7 "VAF' 71, base 0: tier 4 limit 3, not 2"
    ∷ mille 125 0 625 0 34 71 (pos 0) 0 3
    -- "a negative base gives nothing": −1,000,000, −1, 0, 1; and takes nothing from the other products
    ∷ mille 0 0 1500 0 100 0 (negsuc 999999) 0 0
    ∷ mille 0 0 1500 0 100 0 (negsuc 0) 0 0
    ∷ mille 0 0 1500 0 100 0 (pos 0) 0 0
    ∷ mille 0 0 1500 0 100 0 (pos 1) 0 1
    ∷ mille 250 0 1500 0 100 1000 (negsuc 999999) 0 250
    -- each of the four products greatest
    ∷ mille 500 250 100 499 100 1000 (pos 1000) 0 500
    ∷ mille 250 500 100 499 100 1000 (pos 1000) 0 500
    ∷ mille 100 250 500 499 100 1000 (pos 1000) 0 500
    ∷ mille 100 250 499 500 100 1000 (pos 1000) 0 500
    -- W lessens the first product alone, before rounding, to 0 and no further
    ∷ mille 500 250 0 0 100 1000 (pos 0) 100 400
    ∷ mille 500 250 0 0 100 1000 (pos 0) 300 250
    ∷ mille 500 0 0 0 100 1000 (pos 0) 499 1
    ∷ mille 500 0 0 0 100 1000 (pos 0) 500 0
    ∷ mille 500 0 0 0 100 1000 (pos 0) 501 0
    ∷ mille 500 0 0 0 67 1001 (pos 0) 499 1
    -- the percent is taken of the fixed amount too; 0 and 100
    ∷ mille 0 0 0 1001 66 0 (pos 0) 0 660
    ∷ mille 1500 0 0 0 0 1000 (pos 0) 0 0
    ∷ mille 1500 0 0 0 100 1000 (pos 0) 0 1500
    ∷ []

-- C-15
in_ten_thousandths : List Case
in_ten_thousandths =
    -- "an adjusted rate of 4.37 per cent (..); per mille can't carry it": on VAF 71, and on M, where 43 and 44 per mille give others
    case 437 0 0 0 100 71 (pos 0) 0 3
    ∷ case 437 0 0 0 100 M (pos 0) 0 437_000_000_000
    ∷ mille 43 0 0 0 100 M (pos 0) 0 430_000_000_000
    ∷ mille 44 0 0 0 100 M (pos 0) 0 440_000_000_000
    -- the same by the second rate and by the base rate; both sides of a cent: 22 · 437 is 9,614, 23 · 437 is 10,051
    ∷ case 0 437 0 0 100 71 (pos 0) 0 3
    ∷ case 0 0 437 0 100 0 (pos 71) 0 3
    ∷ case 437 0 0 0 100 22 (pos 0) 0 0
    ∷ case 437 0 0 0 100 23 (pos 0) 0 1
    -- T6 and T7 with ten times the rates
    ∷ case 250 0 1250 0 100 39 (pos 0) 0 0
    ∷ case 250 0 1250 0 100 40 (pos 0) 0 1
    ∷ case 1250 0 6250 0 34 71 (pos 0) 0 3
    -- 1,500 is 15 per cent, and was 150; the most is 15,000
    ∷ case 1500 0 0 0 100 1000 (pos 0) 0 150
    ∷ mille 1500 0 0 0 100 1000 (pos 0) 0 1500
    ∷ case 15000 0 0 0 100 1000 (pos 0) 0 1500
    -- rounded once: 33 per cent of 3.1027 is 1.02, and of 3 it is .99
    ∷ case 437 0 0 0 33 71 (pos 0) 0 1
    -- the fixed amount is in cents
    ∷ case 0 0 0 437 100 0 (pos 0) 0 437
    -- the highest of everything: the exact limit is 1.5 · 10^19 parts of a cent
    ∷ case 15000 15000 15000 M 100 M (pos M) 0 15_000_000_000_000
    -- W at its largest, 900 assets of M, with row d; and where 10,000 W is 2^64 + 8,384, so that 64 bits would lose all but 8,384
    ∷ mille 500 250 0 0 100 M (pos 0) (900 * M) 2_500_000_000_000
    ∷ mille 500 250 0 0 100 M (pos 0) 1_844_674_407_370_956 2_500_000_000_000
    -- the first W that takes row d below its second product, one less, and one that takes all of the first
    ∷ case 5000 2500 0 0 100 M (pos 0) 2_499_999_999_999 2_500_000_000_001
    ∷ case 5000 2500 0 0 100 M (pos 0) 2_500_000_000_001 2_500_000_000_000
    ∷ case 5000 0 0 0 100 M (pos 0) 4_999_999_999_999 1
    ∷ case 5000 0 0 0 100 M (pos 0) 5_000_000_000_000 0
    ∷ []

right : Case → Bool
right c = limit_of ten_thousandths c.row c.percent c.vaf c.base c.w =? c.limit

limits-right : every right (in_per_mille ++ in_ten_thousandths) ≡ true
unfolding every right in_per_mille in_ten_thousandths limit_of unrounded greatest
limits-right = refl

-- 64 bits hold every limit before it is rounded; they don't hold ten thousand times the largest W
abbrev words64 : ℕ
words64 = 18_446_744_073_709_551_616

unrounded-fits : (most_unrounded <? words64) ≡ true
unrounded-fits = refl

w-passes : (ten_thousandths * (900 * M) <? words64) ≡ false
w-passes = refl
