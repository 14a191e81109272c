-- What a report is made of, wherever it comes from.
use Rattle.std.specs.Prelude.{Bool, ℕ, ◌+◌}
use Rattle.words.specs.Words.{sum}

-- The groups have the places 1 .. groups, the tiers the numbers 0 .. tiers - 1.
--   order          whether a tier ranks at or below another
--   limit          a tier's limit, in cents
--   exposure       "A group's exposure in a tier", by the group's top place and the tier's number
--   the others     "VAF, VAF', all net (linked too), unlimited (linked nets and exposures without limit), (..) A3 sum, A3 limit"
pub record Fund : Type 0 where
  pub groups : ℕ
  pub tiers : ℕ
  pub order : ℕ → ℕ → Bool
  pub limit : ℕ → ℕ
  pub exposure : ℕ → ℕ → ℕ
  pub vaf : ℕ
  pub stressed_vaf : ℕ
  pub all_net : ℕ
  pub unlimited : ℕ
  pub a3_sum : ℕ
  pub a3_limit : ℕ

-- "all groups' (..) summed": the sum of f over the groups' places
abbrev pub over_groups : Fund → (ℕ → ℕ) → ℕ
over_groups F f = sum (λ k. f (k + 1)) F.groups

-- the fund with its tiers in another order
abbrev pub in_order : (ℕ → ℕ → Bool) → Fund → Fund
in_order le F =
    record {
      groups = F.groups;
      tiers = F.tiers;
      order = le;
      limit = F.limit;
      exposure = F.exposure;
      vaf = F.vaf;
      stressed_vaf = F.stressed_vaf;
      all_net = F.all_net;
      unlimited = F.unlimited;
      a3_sum = F.a3_sum;
      a3_limit = F.a3_limit;
    }
