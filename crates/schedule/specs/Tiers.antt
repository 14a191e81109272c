-- The limits of a fund, all by the limit formula at one scale of the rates.
--   rate_alone   a row with nothing but its VAF rate
--   alone       such a row of a rate per mille, at a scale
--   unrounded_in limits_in a3_limit_in     the limits by tier number, before they are rounded and in cents, and the A3 limit, at a scale of the schedule's rates
--   unrounded_limits limits a3_limit_of   those of a schedule in ten-thousandths
use Rattle.std.specs.Prelude.{List, [], ◌∷◌, map, ℕ, ◌*◌, ◌/◌, ℤ}
use Rattle.limit.specs.declared.Row.{Row}
use Rattle.limit.specs.Limit.{per_mille, ten_thousandths, unrounded, cents_of, limit_of}
use Rattle.schedule.specs.declared.Schedule.{Schedule}

-- C-11: "without base or fixed part"
abbrev pub rate_alone : ℕ → Row
rate_alone rate = record { rate = rate; second = 0; base_rate = 0; fixed = 0 }

-- C-11: so many "per mille of VAF', without base or fixed part"
abbrev pub alone : ℕ → ℕ → Row
alone scale rate = rate_alone (scale / per_mille * rate)

-- "Tier numbers: 0 i, 1 i reinsurance, 2 h, 3 h reinsurance, 4 g second, 5 g first, 6 g, 7 e second, 8 e first, 9 e, 10 f, 11 c, 12 d.
-- Tiers 1 and 3 to 9 use VAF'." "For d the first rate's product is lessened by W". C-11: "New tiers 13, 14 and 15 are 500, 330 and 170 per
-- mille of VAF', without base or fixed part", of no schedule
unfoldable pub unrounded_in : ℕ → Schedule → ℕ → ℕ → ℤ → ℕ → List ℕ
unrounded_in scale S vaf vaf' base w =
    unrounded scale S.i 100 vaf base 0
    ∷ unrounded scale S.i 100 vaf' base 0
    ∷ unrounded scale S.h 100 vaf base 0
    ∷ unrounded scale S.h 100 vaf' base 0
    ∷ unrounded scale S.g S.second vaf' base 0
    ∷ unrounded scale S.g S.first vaf' base 0
    ∷ unrounded scale S.g 100 vaf' base 0
    ∷ unrounded scale S.e S.second vaf' base 0
    ∷ unrounded scale S.e S.first vaf' base 0
    ∷ unrounded scale S.e 100 vaf' base 0
    ∷ unrounded scale S.f 100 vaf base 0
    ∷ unrounded scale S.c 100 vaf base 0
    ∷ unrounded scale S.d 100 vaf base w
    ∷ unrounded scale (alone scale 500) 100 vaf' base 0
    ∷ unrounded scale (alone scale 330) 100 vaf' base 0
    ∷ unrounded scale (alone scale 170) 100 vaf' base 0
    ∷ []

-- "rounded down once"
unfoldable pub limits_in : ℕ → Schedule → ℕ → ℕ → ℤ → ℕ → List ℕ
limits_in scale S vaf vaf' base w = map (cents_of scale) (unrounded_in scale S vaf vaf' base w)

-- "row z's limit (on VAF', no percent) the A3 limit"
unfoldable pub a3_limit_in : ℕ → Schedule → ℕ → ℤ → ℕ
a3_limit_in scale S vaf' base = limit_of scale S.z 100 vaf' base 0

-- C-15: "Every limit, of both versions and of C-11's per mille, must come from one shown formula"
abbrev pub unrounded_limits : Schedule → ℕ → ℕ → ℤ → ℕ → List ℕ
unrounded_limits = unrounded_in ten_thousandths

abbrev pub limits : Schedule → ℕ → ℕ → ℤ → ℕ → List ℕ
limits = limits_in ten_thousandths

abbrev pub a3_limit_of : Schedule → ℕ → ℤ → ℕ
a3_limit_of = a3_limit_in ten_thousandths
