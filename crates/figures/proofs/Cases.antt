-- Reports computed and read back: T1 and T2 of document 01, and a group of sixteen tiers among which limits are equal.
use mathlib.Core.Path.{◌≡◌, refl}
use mathlib.Core.List.{List, [], ◌∷◌}
use Prim.Native.Nat.{ℕ}
use lib.ListN.{length, take}
use Rattle.std.specs.Prelude.{if◌then◌else◌}
use Rattle.words.specs.Words.{◌=?◌, sum, each_of, count_from}
use Rattle.wire.specs.Bytes.{byte_at, u16_at, u64_at}
use Rattle.cascade.specs.Cascade.{tiers, by_tier, by_limit, ranks, insert, ranked, next, standing, left, excess, excess_sum}
use Rattle.figures.specs.declared.Line.{Line}
use Rattle.figures.specs.Fund.{Fund}
use Rattle.figures.specs.Report.{tier_set, line_of, cell_lines, group_excess, charge, line_bytes, head_bytes, head_of, report}
use Rattle.figures.specs.Read.{line_from, line_at, lines_in, group_excess_in, charge_in, read_excess}

-- a fund whose last group alone has exposures
abbrev fund : List ℕ → List ℕ → ℕ → ℕ → ℕ → Fund
fund limits exposures groups a3_sum a3_limit =
    record {
      groups = groups;
      tiers = tiers;
      order = by_limit (by_tier limits);
      limit = by_tier limits;
      exposure = λ g. by_tier (if g =? groups then exposures else []);
      vaf = 10000000000;
      stressed_vaf = 10000000001;
      all_net = 600000000;
      unlimited = 7;
      a3_sum = a3_sum;
      a3_limit = a3_limit;
    }

-- the limits of the published schedule at VAF 10,000,000,000 and base 1,000,000,000
abbrev published : List ℕ
published =
    250000000 ∷ 250000000 ∷ 500000000 ∷ 500000000 ∷ 425000000 ∷ 825000000 ∷ 1250000000 ∷ 850000000 ∷ 1650000000 ∷ 2500000000 ∷ 2500000000 ∷ 2500000000 ∷ 5000000000 ∷ 5000000000 ∷ 3300000000 ∷ 1700000000 ∷ []

t1-long : length (report (fund published [] 0 0 0)) ≡ 72
unfolding report head_bytes each_of count_from
t1-long = refl

abbrev t2 : List ℕ
t2 = report (fund published (300000000 ∷ 0 ∷ 300000000 ∷ []) 1 0 1250000000)

t2-head :
    (length t2 ≡ 152) × (take 4 t2 ≡ 65 ∷ 67 ∷ 82 ∷ 0 ∷ []) × (u16_at t2 4 ≡ 1) × (lines_in t2 ≡ 2) × (u64_at t2 8 ≡ 10000000000) × (u64_at t2 16 ≡ 10000000001) × (u64_at t2 24 ≡ 600000000)
    × (u64_at t2 32 ≡ 7) × (group_excess_in t2 ≡ 100000000) × (u64_at t2 48 ≡ 0) × (u64_at t2 56 ≡ 1250000000) × (charge_in t2 ≡ 100000000)
unfolding u16_at u64_at ranks insert ranked next standing left excess excess_sum sum each_of count_from tier_set line_of cell_lines group_excess charge line_bytes head_bytes head_of report
t2-head = (refl, refl, refl, refl, refl, refl, refl, refl, refl, refl, refl, refl)

t2-lines :
    (line_at t2 0 ≡ record { top = 1; tier = 0; tiers = 5; exposure = 300000000; limit = 250000000; left = 250000000; excess = 50000000 })
    × (line_at t2 1 ≡ record { top = 1; tier = 2; tiers = 5; exposure = 300000000; limit = 500000000; left = 250000000; excess = 50000000 })
    × (byte_at t2 75 ≡ 0) × (u16_at t2 78 ≡ 0) × (read_excess t2 1 2 ≡ 50000000) × (read_excess t2 1 1 ≡ 0)
unfolding u16_at u64_at ranks insert ranked next standing left excess excess_sum sum each_of count_from tier_set line_of cell_lines group_excess charge line_bytes head_bytes head_of report line_from read_excess
t2-lines = (refl, refl, refl, refl, refl, refl)

-- 6 in each tier of the second of two groups, limits equal in fives, tens, twenties, thirties, forties and fifties, the A3 sum 3 above its limit
abbrev ties : List ℕ
ties = report (fund (10 ∷ 10 ∷ 20 ∷ 20 ∷ 5 ∷ 30 ∷ 30 ∷ 5 ∷ 40 ∷ 40 ∷ 40 ∷ 40 ∷ 50 ∷ 20 ∷ 50 ∷ 5 ∷ []) (6 ∷ 6 ∷ 6 ∷ 6 ∷ 6 ∷ 6 ∷ 6 ∷ 6 ∷ 6 ∷ 6 ∷ 6 ∷ 6 ∷ 6 ∷ 6 ∷ 6 ∷ 6 ∷ []) 2 7 4)

-- of each line
abbrev each : (Line → ℕ) → List ℕ → List ℕ
each f R = each_of (λ i. f (line_at R i) ∷ []) (count_from 0 (lines_in R))

ties-read :
    (each (λ x. x.tier) ties ≡ 4 ∷ 7 ∷ 15 ∷ 0 ∷ 1 ∷ 2 ∷ 3 ∷ 13 ∷ 5 ∷ 6 ∷ 8 ∷ 9 ∷ 10 ∷ 11 ∷ 12 ∷ 14 ∷ [])
    × (each (λ x. x.left) ties ≡ 5 ∷ 0 ∷ 0 ∷ 5 ∷ 0 ∷ 10 ∷ 4 ∷ 0 ∷ 10 ∷ 4 ∷ 10 ∷ 4 ∷ 0 ∷ 0 ∷ 10 ∷ 4 ∷ [])
    × (each (λ x. x.excess) ties ≡ 1 ∷ 6 ∷ 6 ∷ 1 ∷ 6 ∷ 0 ∷ 2 ∷ 6 ∷ 0 ∷ 2 ∷ 0 ∷ 2 ∷ 6 ∷ 6 ∷ 0 ∷ 2 ∷ [])
    × ((line_at ties 15).top ≡ 2) × ((line_at ties 15).tiers ≡ 65535) × (group_excess_in ties ≡ 46) × (charge_in ties ≡ 49)
unfolding u16_at u64_at ranks insert ranked next standing left excess excess_sum sum each_of count_from tier_set line_of cell_lines group_excess charge line_bytes head_bytes head_of report line_from
ties-read = (refl, refl, refl, refl, refl, refl, refl)
