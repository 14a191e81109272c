-- The closed form is the greatest amount (greatest) and the only one (greatest-only): what is added raises the charge by what of it has no room
-- (charge-added). In a group with an excess there is no room at its tier, and at none that ranks below it (no_room).
use mathlib.Core.Bool.{Bool, true, false}
use mathlib.Core.Path.{◌≡◌, refl, sym, ap, ◌∙◌}
use Prim.Native.Nat.{ℕ, ◌+◌, ◌-◌, ◌≤◌, ◌<◌}
use native.Mathlib.Omega.{arith}
use native.Mathlib.Decide.{dec_lt}
use lib.Dec.{eqb}
use borrow.Author.Tests.{eq-eqb, ne_eqb, eqb-true, eqb-false}
use Rattle.std.specs.Prelude.{if◌then◌else◌}
use Rattle.words.specs.Words.{◌=?◌, sum}
use Rattle.words.specs.Sums.{sum-add, sum_same}
use Rattle.words.specs.Ranges.{sum-here}
use Rattle.cascade.specs.Cascade.{next, excess, standing_after, excess_sum}
use Rattle.cascade.specs.Cut.{Ordered}
use Rattle.cascade.proofs.Fund.{ranked-stands}
use Rattle.figures.specs.Fund.{Fund}
use Rattle.figures.specs.Report.{ranking, excess_of, excess_sum_of, group_excess, charge}
use Rattle.headroom.specs.Headroom.{plus, with_more, Greatest, headroom_of}
use Rattle.headroom.proofs.Closed.{added, room_within, room-least}

module _ (F : Fund) (o : Ordered F.order F.limit) (g t most : ℕ) where
  abbrev room : ℕ
  room = headroom_of F g t most

  pub headroom-within : room ≤ most
  headroom-within = room_within F.tiers F.order F.limit (F.exposure g) t most

  -- the excesses of group h
  group-added : (a h : ℕ) → a ≤ most → excess_sum_of F h + (if g =? h then a - room else 0) ≡ excess_sum_of (with_more F g t a) h
  unfolding with_more
  group-added a h l = by (eqb g h) refl
    where
      by : (b : Bool) → eqb g h ≡ b
          → excess_sum_of F h + (if b then a - room else 0) ≡ excess_sum F.tiers F.limit (if b then plus (F.exposure h) t a else F.exposure h) (ranking F)
      by true q = rw (← eqb-true g h q) (sym (added F.tiers F.order F.limit o (F.exposure g) t a most l))
      by false q = omega arith

  module _ (first : 1 ≤ g) (last : g ≤ F.groups) where
    at-group : (v : ℕ) → sum (λ k. if g =? k + 1 then v else 0) F.groups ≡ v
    at-group v =
        sum_same (λ k. if g =? k + 1 then v else 0) (λ k. if g - 1 =? k then v else 0) F.groups (λ k _. ap (λ (b : Bool). if b then v else 0) (same k))
        ∙ sum-here v (g - 1) F.groups (omega arith)
      where
        same : (k : ℕ) → eqb g (k + 1) ≡ eqb (g - 1) k
        same k = by (eqb (g - 1) k) refl
          where
            by : (b : Bool) → eqb (g - 1) k ≡ b → eqb g (k + 1) ≡ b
            by true q = eq-eqb g (k + 1) (omega (arith, eqb-true (g - 1) k q))
            by false q = ne_eqb g (k + 1) (λ z. eqb-false (g - 1) k q (omega arith))

    pub charge-added : (a : ℕ) → a ≤ most → charge (with_more F g t a) ≡ charge F + (a - room)
    unfolding charge group_excess with_more
    charge-added a l =
        omega (
          arith,
          sum-add (λ k. excess_sum_of F (k + 1)) (λ k. if g =? k + 1 then a - room else 0) (λ k. excess_sum_of (with_more F g t a) (k + 1)) F.groups (λ k _. group-added a (k + 1) l),
          at-group (a - room),
        )

    pub greatest : Greatest F g t most room
    greatest = record {
      within = headroom-within;
      same = omega (arith, charge-added room headroom-within);
      more = λ l. omega (arith, charge-added (room + 1) (omega arith));
    }

    pub greatest-only : (a : ℕ) → Greatest F g t most a → a ≡ room
    greatest-only a h =
        elim (dec_lt a room) [
          | yes l ↦ absurd (omega (arith, headroom-within, h.more (omega (arith, headroom-within)), charge-added (a + 1) (omega (arith, headroom-within))))
          | no l ↦ omega (arith, h.same, charge-added a h.within)
        ]

-- tier u has an excess, and t is u or ranks below it
pub no_room :
    (F : Fund) → Ordered F.order F.limit → (g t most u : ℕ) → t < F.tiers → u < F.tiers → F.order t u ≡ true → 0 < excess_of F g u → headroom_of F g t most ≡ 0
unfolding excess standing_after next
no_room F o g t most u l k h x =
    omega (
      arith,
      room-least F.tiers F.order F.limit (F.exposure g) t most u l k h,
      ranked-stands F.tiers F.order F.limit (F.exposure g) o u k,
    )
