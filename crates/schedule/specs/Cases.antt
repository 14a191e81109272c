-- Worked limits of a fund, computed on the definitions.
use Rattle.std.specs.Prelude.{List, [], ◌∷◌, ◌≡◌, refl, ℕ, ◌*◌, ℤ, pos}
use Rattle.words.specs.Words.{All}
use Rattle.wire.specs.Bytes.{M}
use Rattle.limit.specs.declared.Row.{Row}
use Rattle.limit.specs.Limit.{greatest, unrounded, limit_of}
use Rattle.schedule.specs.declared.Schedule.{Schedule}
use Rattle.schedule.specs.Schedule.{counts, times_all, published}
use Rattle.schedule.specs.Tiers.{rate_alone, unrounded_in, limits, limits_in, a3_limit_of, a3_limit_in}

-- a fund, and its limits by tier number and A3 limit
record Case : Type 0 where
  schedule : Schedule
  vaf : ℕ
  vaf' : ℕ
  base : ℤ
  w : ℕ
  tiers : List ℕ
  a3 : ℕ

-- another rate per mille in each row, and percents that are not the published ones
abbrev uneven : Schedule
uneven =
    record {
      first = 70;
      second = 30;
      c = rate_alone 110;
      d = rate_alone 130;
      e = rate_alone 170;
      f = rate_alone 190;
      g = rate_alone 230;
      h = rate_alone 290;
      i = rate_alone 310;
      z = rate_alone 370;
    }

-- base rates and fixed amounts that win over every rate, and percents of 0
abbrev lavish : Schedule
lavish =
    let by_base : Row = record { rate = 25; second = 0; base_rate = 1500; fixed = 0 } in
    let by_fixed : Row = record { rate = 25; second = 0; base_rate = 0; fixed = 2000 } in
    record { first = 0; second = 0; c = by_fixed; d = by_fixed; e = by_fixed; f = by_fixed; g = by_base; h = by_base; i = by_base; z = by_base }

-- what the written rates of a version count
abbrev counted : ℕ → Schedule → Schedule
counted v s = times_all (counts v) s

-- the same row throughout, and both percents 100
abbrev throughout : Row → Schedule
throughout r = record { first = 100; second = 100; c = r; d = r; e = r; f = r; g = r; h = r; i = r; z = r }

-- each rate of each row at so much
abbrev all : ℕ → Schedule
all rate = throughout (record { rate = rate; second = rate; base_rate = rate; fixed = 0 })

-- VAF, VAF' and base M, where the schedule gives every tier the same limit
abbrev highest : Schedule → ℕ → Case
highest s l =
    record {
      schedule = s;
      vaf = M;
      vaf' = M;
      base = pos M;
      w = 0;
      tiers = l ∷ l ∷ l ∷ l ∷ l ∷ l ∷ l ∷ l ∷ l ∷ l ∷ l ∷ l ∷ l ∷ 5_000_000_000_000 ∷ 3_300_000_000_000 ∷ 1_700_000_000_000 ∷ [];
      a3 = l;
    }

-- row d's rates in every row, per mille, and what they come to of M where row d's first product is gone
abbrev rates : Schedule
rates = throughout (record { rate = 500; second = 250; base_rate = 0; fixed = 0 })

abbrev mostly : ℕ → List ℕ
mostly d =
    let l : ℕ = 5_000_000_000_000 in
    l ∷ l ∷ l ∷ l ∷ l ∷ l ∷ l ∷ l ∷ l ∷ l ∷ l ∷ l ∷ d ∷ l ∷ 3_300_000_000_000 ∷ 1_700_000_000_000 ∷ []

-- nothing but a VAF', and the limits of tiers 13, 14 and 15
abbrev small : ℕ → ℕ → ℕ → ℕ → Case
small vaf' full first second =
    let nothing = rate_alone 0 in
    record {
      schedule = record { first = 0; second = 0; c = nothing; d = nothing; e = nothing; f = nothing; g = nothing; h = nothing; i = nothing; z = nothing };
      vaf = 0;
      vaf' = vaf';
      base = pos 0;
      w = 0;
      tiers = 0 ∷ 0 ∷ 0 ∷ 0 ∷ 0 ∷ 0 ∷ 0 ∷ 0 ∷ 0 ∷ 0 ∷ 0 ∷ 0 ∷ 0 ∷ full ∷ first ∷ second ∷ [];
      a3 = 0;
    }

cases : List Case
cases =
    -- T6 "VAF 39, base 0: i limit 0" and T7 "VAF' 71, base 0: tier 4 limit 3, not 2"
    record {
      schedule = counted 1 published;
      vaf = 39;
      vaf' = 71;
      base = pos 0;
      w = 0;
      tiers = 0 ∷ 1 ∷ 1 ∷ 3 ∷ 3 ∷ 5 ∷ 8 ∷ 680_000_000 ∷ 1_320_000_000 ∷ 2_000_000_000 ∷ 2_000_000_000 ∷ 2_000_000_000 ∷ 2_000_000_000 ∷ 35 ∷ 23 ∷ 12 ∷ [];
      a3 = 8;
    }
    -- T6 "40: 1"
    ∷ record {
      schedule = counted 1 published;
      vaf = 40;
      vaf' = 71;
      base = pos 0;
      w = 0;
      tiers = 1 ∷ 1 ∷ 2 ∷ 3 ∷ 3 ∷ 5 ∷ 8 ∷ 680_000_000 ∷ 1_320_000_000 ∷ 2_000_000_000 ∷ 2_000_000_000 ∷ 2_000_000_000 ∷ 2_000_000_000 ∷ 35 ∷ 23 ∷ 12 ∷ [];
      a3 = 8;
    }
    -- "Published schedule, total 10,000,000,000, base 1,000,000,000"
    ∷ record {
      schedule = counted 1 published;
      vaf = 10_000_000_000;
      vaf' = 10_000_000_000;
      base = pos 1_000_000_000;
      w = 0;
      tiers =
          250_000_000 ∷ 250_000_000 ∷ 500_000_000 ∷ 500_000_000 ∷ 425_000_000 ∷ 825_000_000 ∷ 1_250_000_000 ∷ 850_000_000 ∷ 1_650_000_000
          ∷ 2_500_000_000 ∷ 2_500_000_000 ∷ 2_500_000_000 ∷ 5_000_000_000 ∷ 5_000_000_000 ∷ 3_300_000_000 ∷ 1_700_000_000 ∷ [];
      a3 = 1_250_000_000;
    }
    -- a row, percent or VAF in another's place, or W off another row, gives another figure
    ∷ record {
      schedule = counted 1 uneven;
      vaf = 1000;
      vaf' = 2000;
      base = pos 0;
      w = 100;
      tiers = 310 ∷ 620 ∷ 290 ∷ 580 ∷ 138 ∷ 322 ∷ 460 ∷ 102 ∷ 238 ∷ 340 ∷ 190 ∷ 110 ∷ 30 ∷ 1000 ∷ 660 ∷ 340 ∷ [];
      a3 = 740;
    }
    -- C-11 at VAF' 71, where every row of the schedule goes by its base or its fixed amount; percents of 0; a VAF and a W that would count
    ∷ record {
      schedule = counted 1 lavish;
      vaf = 1000;
      vaf' = 71;
      base = pos 1000;
      w = 71;
      tiers = 1500 ∷ 1500 ∷ 1500 ∷ 1500 ∷ 0 ∷ 0 ∷ 1500 ∷ 0 ∷ 0 ∷ 2000 ∷ 2000 ∷ 2000 ∷ 2000 ∷ 35 ∷ 23 ∷ 12 ∷ [];
      a3 = 1500;
    }
    -- C-15: version 2 with ten times the published rates gives T6's and T7's limits; with the published rates, a tenth of the rates' limits and the same of
    -- fixed amounts and of C-11's tiers
    ∷ record {
      schedule = counted 2 (times_all 10 published);
      vaf = 39;
      vaf' = 71;
      base = pos 0;
      w = 0;
      tiers = 0 ∷ 1 ∷ 1 ∷ 3 ∷ 3 ∷ 5 ∷ 8 ∷ 680_000_000 ∷ 1_320_000_000 ∷ 2_000_000_000 ∷ 2_000_000_000 ∷ 2_000_000_000 ∷ 2_000_000_000 ∷ 35 ∷ 23 ∷ 12 ∷ [];
      a3 = 8;
    }
    ∷ record {
      schedule = counted 2 published;
      vaf = 10_000_000_000;
      vaf' = 10_000_000_000;
      base = pos 1_000_000_000;
      w = 0;
      tiers =
          25_000_000 ∷ 25_000_000 ∷ 50_000_000 ∷ 50_000_000 ∷ 42_500_000 ∷ 82_500_000 ∷ 125_000_000 ∷ 680_000_000 ∷ 1_320_000_000
          ∷ 2_000_000_000 ∷ 2_000_000_000 ∷ 2_000_000_000 ∷ 2_000_000_000 ∷ 5_000_000_000 ∷ 3_300_000_000 ∷ 1_700_000_000 ∷ [];
      a3 = 125_000_000;
    }
    -- 1,500 in every rate, which both versions let pass: 1.5 times M, and 0.15 times M
    ∷ highest (counted 1 (all 1500)) 15_000_000_000_000
    ∷ highest (counted 2 (all 1500)) 1_500_000_000_000
    ∷ highest (counted 2 (all 15000)) 15_000_000_000_000
    -- 437 ten-thousandths in every row: 3 cents of VAF and VAF' 71, and of M 437,000,000,000; 43 per mille in version 1 gives 430,000,000,000
    ∷ record {
      schedule = counted 2 (all 437);
      vaf = 71;
      vaf' = 71;
      base = pos 0;
      w = 0;
      tiers = 3 ∷ 3 ∷ 3 ∷ 3 ∷ 3 ∷ 3 ∷ 3 ∷ 3 ∷ 3 ∷ 3 ∷ 3 ∷ 3 ∷ 3 ∷ 35 ∷ 23 ∷ 12 ∷ [];
      a3 = 3;
    }
    ∷ highest (counted 2 (all 437)) 437_000_000_000
    ∷ highest (counted 1 (all 43)) 430_000_000_000
    -- W at its largest takes all of row d's first product, in either version, and nothing of another row's
    ∷ record {
      schedule = counted 1 rates;
      vaf = M;
      vaf' = M;
      base = pos 0;
      w = 900 * M;
      tiers = mostly 2_500_000_000_000;
      a3 = 5_000_000_000_000;
    }
    ∷ record {
      schedule = counted 2 (times_all 10 rates);
      vaf = M;
      vaf' = M;
      base = pos 0;
      w = 900 * M;
      tiers = mostly 2_500_000_000_000;
      a3 = 5_000_000_000_000;
    }
    -- one of VAF' less and one more at each: 1, 2; 3, 4; 5, 6
    ∷ small 1 0 0 0
    ∷ small 2 1 0 0
    ∷ small 3 1 0 0
    ∷ small 4 2 1 0
    ∷ small 5 2 1 0
    ∷ small 6 3 1 1
    ∷ []

Right : Case → Type 0
Right c = (limits c.schedule c.vaf c.vaf' c.base c.w ≡ c.tiers) × (a3_limit_of c.schedule c.vaf' c.base ≡ c.a3)

limits-right : All Right cases
unfolding Right cases limits_in unrounded_in a3_limit_in limit_of unrounded greatest
limits-right =
    ((refl, refl), ((refl, refl), ((refl, refl), ((refl, refl), ((refl, refl), ((refl, refl), ((refl, refl), ((refl, refl), ((refl, refl), ((refl, refl), ((refl, refl), ((refl, refl), ((refl, refl), ((refl, refl), ((refl, refl), ((refl, refl), ((refl, refl), ((refl, refl), ((refl, refl), ((refl, refl), ((refl, refl), tt)))))))))))))))))))))
