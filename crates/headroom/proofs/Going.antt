-- The loop along the ranking (Going): what will have got through is the answer. It holds before the first tier (going_start), with each next one
-- passed (going_next, going-tier, going-fits, going_step), and behind the last the answer is there (going_end).
use mathlib.Core.Bool.{Bool, false, ◌||◌}
use mathlib.Core.List.{List, [], ◌∷◌}
use mathlib.Core.Path.{◌≡◌, sym, ◌∙◌}
use Prim.Native.Nat.{ℕ, ◌+◌, ◌*◌, ◌-◌, ◌≤◌, ◌<◌, ◌^◌, min}
use native.Mathlib.Omega.{arith}
use native.Mathlib.Numerals.{add-one}
use lib.ListN.{length, drop, get_or}
use lib.Seq.{drop-cons}
use Rattle.std.specs.Prelude.{if◌then◌else◌}
use Rattle.words.specs.Words.{◌=?◌, sum_of, sum, All}
use Rattle.wire.specs.Bytes.{M}
use Rattle.cascade.specs.Cascade.{tiers, by_tier, ranked, next}
use Rattle.cascade.proofs.Core.{Rising, rising-less, all-rising}
use Rattle.cascade.proofs.Ranking.{ranked-lists, ranked-sorted}
use Rattle.headroom.specs.Headroom.{room_in, RankedBy}
use Rattle.headroom.proofs.Along.{rest, next-is}
use Rattle.headroom.proofs.Closed.{rest-is}

-- ks are the tiers still to come, s stands before them, and `room` has got through so far
pub record Going (limits ranking : List ℕ) (e : ℕ → ℕ) (tier most : ℕ) (ks : List ℕ) (s room : ℕ) (met : Bool) : Type 0 where
  pub inside : All (λ t. t < tiers) ks
  pub rises : Rising (by_tier limits) s ks
  pub amounts : s + sum_of e ks ≤ 900 * M
  pub through : (q : RankedBy limits ranking) → rest (by_tier limits) e tier met s ks room ≡ room_in tiers q.order (by_tier limits) e tier most

pub going_start :
    {limits ranking : List ℕ} {e : ℕ → ℕ} {tier most : ℕ} → RankedBy limits ranking → sum e tiers ≤ 900 * M → tier < tiers
    → Going limits ranking e tier most ranking 0 most false
going_start {limits} {ranking} {e} {tier} {most} r h l =
    let L = by_tier limits in
    let le = r.order in
    let lists = ranked-lists le tiers in
    record {
      inside = rw r.ranks lists.only;
      rises = rw r.ranks (all-rising tiers le L e (ranked le tiers) r.ordered (ranked-sorted le L r.ordered tiers) lists);
      amounts = rw r.ranks (omega (arith, lists.once e));
      through = λ q. rw q.ranks (rest-is tiers q.order L q.ordered e tier most l);
    }

-- the tiers from a place of the ranking on, the first apart from the others
pub going_next :
    {limits : List ℕ} {e : ℕ → ℕ} (ranking : List ℕ) {tier most s room : ℕ} {met : Bool} (i : ℕ) → Going limits ranking e tier most (drop i ranking) s room met → i < length ranking
    → Going limits ranking e tier most (get_or ranking i 0 ∷ drop (i + 1) ranking) s room met
going_next ranking i g l = rw (add-one, ← drop-cons ranking i 0 l) g

module _ {limits ranking : List ℕ} {e : ℕ → ℕ} {tier most s room u : ℕ} {met : Bool} {us : List ℕ} (g : Going limits ranking e tier most (u ∷ us) s room met) where
  pub going-tier : u < tiers
  going-tier = g.inside.0

  pub going-fits : s + e u < 2 ^ 64
  unfolding sum_of
  going-fits = omega (arith, g.amounts)

  -- with r standing behind the tier
  pub going_step : (r : ℕ) → r ≡ min (s + e u) (by_tier limits u) → Going limits ranking e tier most us r (if met || u =? tier then min room (by_tier limits u - r) else room) (met || u =? tier)
  unfolding sum_of rest
  going_step r q =
      let n : next (by_tier limits) e s u ≡ r = next-is (by_tier limits) e u s g.rises.0 ∙ sym q in
      record {
        inside = g.inside.1;
        rises = rising-less (by_tier limits) us (by_tier limits u) r (omega arith) g.rises.1;
        amounts = omega (arith, g.amounts);
        through = λ q. rw n at (g.through q);
      }

pub going_end :
    {limits ranking : List ℕ} {e : ℕ → ℕ} {tier most s room : ℕ} {met : Bool} → Going limits ranking e tier most [] s room met
    → (q : RankedBy limits ranking) → room ≡ room_in tiers q.order (by_tier limits) e tier most
unfolding rest
going_end g q = g.through q
