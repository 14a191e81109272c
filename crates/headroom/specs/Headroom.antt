-- C-16, "How much more may be bought": what may be added to a group's tier without raising the charge.
--   plus with_more       a group's exposures with an amount more in a tier; a fund with such a group
--   Greatest            what the answer is, in the request's words
--   least_of             the least of a number and of f over the numbers below n that pass a test
--   over_at room_in headroom_of   what a tier's limit has left over; the answer in a closed form: of a group's exposures, and of a fund's group
--   row_from RankedBy    a group's exposures out of a table; a ranking that some order of the tiers gives, along which limits do not fall
-- That the two are the same: `proofs/Greatest.greatest`, `greatest-only`.
use Rattle.std.specs.Prelude.{Bool, List, ◌≡◌, ℕ, zero, suc, ◌+◌, ◌-◌, ◌≤◌, ◌<◌, min, get_or, if◌then◌else◌}
use Rattle.words.specs.Words.{◌<?◌, ◌=?◌}
use Rattle.cascade.specs.Cascade.{tiers, by_tier, ranked, excess}
use Rattle.cascade.specs.Cut.{stands, Ordered}
use Rattle.figures.specs.Fund.{Fund}
use Rattle.figures.specs.Report.{charge}

-- exposures by tier, with a more in tier t
abbrev pub plus : (ℕ → ℕ) → ℕ → ℕ → ℕ → ℕ
plus e t a u = e u + (if t =? u then a else 0)

-- "added to that group's tier, the report's limits held": a more in tier t of group g. Limits, their ranking and A3 are those of the report.
unfoldable pub with_more : Fund → ℕ → ℕ → ℕ → Fund
with_more F g t a =
    record {
      groups = F.groups;
      tiers = F.tiers;
      order = F.order;
      limit = F.limit;
      exposure = λ h. if g =? h then plus (F.exposure h) t a else F.exposure h;
      vaf = F.vaf;
      stressed_vaf = F.stressed_vaf;
      all_net = F.all_net;
      unlimited = F.unlimited;
      a3_sum = F.a3_sum;
      a3_limit = F.a3_limit;
    }

-- within   "The answer is the greatest amount up to M"
-- same     "that can be added to that group's tier, the report's limits held, without raising the charge"
-- more     "one cent more raises it unless the answer is M"
pub record Greatest (F : Fund) (g t most a : ℕ) : Type 0 where
  pub within : a ≤ most
  pub same : charge (with_more F g t a) ≡ charge F
  pub more : a < most → charge F < charge (with_more F g t (a + 1))

-- the least of `most` and of f at the numbers below n that pass a test
unfoldable pub least_of : (ℕ → Bool) → (ℕ → ℕ) → ℕ → ℕ → ℕ
least_of test f zero most = most
least_of test f (suc n) most = least_of test f n (if test n then min most (f n) else most)

-- limit less standing: what tier u has left over of its limit, where the excesses are cut from u and from all that rank below it
abbrev pub over_at : ℕ → (ℕ → ℕ → Bool) → (ℕ → ℕ) → (ℕ → ℕ) → ℕ → ℕ
over_at n le L e u = L u - stands n le e (excess L e (ranked le n)) u

-- what is added to tier t stands in t and in every tier that ranks above it, and has to find room in each. There are n tiers; what has no limit
-- is in none of them: "A kind without limit answers M"
unfoldable pub room_in : ℕ → (ℕ → ℕ → Bool) → (ℕ → ℕ) → (ℕ → ℕ) → ℕ → ℕ → ℕ
room_in n le L e t most = if t <? n then least_of (le t) (over_at n le L e) n most else most

-- exposures by tier, out of a table of cells
abbrev pub row_from : List ℕ → ℕ → ℕ → ℕ
row_from cells at t = get_or cells (at + t) 0

-- a ranking, and an order that gives it: along it the limits do not fall
pub record RankedBy (limits ranking : List ℕ) : Type 0 where
  pub order : ℕ → ℕ → Bool
  pub ordered : Ordered order (by_tier limits)
  pub ranks : ranking ≡ ranked order tiers

-- of tier t of group g
abbrev pub headroom_of : Fund → ℕ → ℕ → ℕ → ℕ
headroom_of F g t most = room_in F.tiers F.order F.limit (F.exposure g) t most
