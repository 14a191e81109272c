-- A3, computed: T8's three groups of 600000000 in tier 3, each capped at 500000000; a tier that does not count.
use Rattle.std.specs.Prelude.{◌≡◌, refl, ℕ, if◌then◌else◌}
use Rattle.words.specs.Words.{◌=?◌, sum_of, count_from}
use Rattle.cascade.specs.Cascade.{tiers}
use Rattle.a3.specs.A3.{a3_part, a3_sum_of}

-- a group with an exposure in one tier
abbrev only : ℕ → ℕ → ℕ → ℕ
only tier amount t = if t =? tier then amount else 0

abbrev limit : ℕ → ℕ
limit t = 500000000

-- "charge 550000000, not 850000000": with the excesses of 300000000 the A3 sum of 1500000000 has 250000000 above a limit of 1250000000
t8 : a3_sum_of 3 (λ g. only 3 600000000) limit ≡ 1500000000
unfolding a3_sum_of a3_part sum_of count_from
t8 = refl

-- what each tier adds, 0 to 15
each : sum_of (λ t. if a3_part (only t 7) limit =? 7 then 1 else 0) (count_from 0 tiers) ≡ 5
unfolding a3_part sum_of count_from
each = refl

-- the first and the last tier that count, and their neighbours; C-11's, which "A3 doesn't count"
edges : (a3_part (only 0 7) limit ≡ 0) × (a3_part (only 1 7) limit ≡ 7) × (a3_part (only 2 7) limit ≡ 0) × (a3_part (only 3 7) limit ≡ 7) × (a3_part (only 6 7) limit ≡ 7) × (a3_part (only 7 7) limit ≡ 0)
    × (a3_part (only 13 7) limit ≡ 0) × (a3_part (only 14 7) limit ≡ 0) × (a3_part (only 15 7) limit ≡ 0)
unfolding a3_part sum_of
edges = (refl, refl, refl, refl, refl, refl, refl, refl, refl)
