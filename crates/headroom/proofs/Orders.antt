-- The answers are the same in any order of the tiers along which the limits do not fall (headroom-either): they follow from charges, and these are.
use mathlib.Core.Bool.{Bool}
use mathlib.Core.Path.{◌≡◌, sym, ◌∙◌}
use Prim.Native.Nat.{ℕ, ◌+◌, ◌≤◌}
use Rattle.cascade.specs.Cut.{Ordered}
use Rattle.figures.specs.Fund.{Fund, in_order}
use Rattle.figures.specs.Report.{charge}
use Rattle.figures.proofs.Orders.{charge-either}
use Rattle.headroom.specs.Headroom.{with_more, Greatest, headroom_of}
use Rattle.headroom.proofs.Greatest.{greatest, greatest-only}

module _ (F : Fund) (le : ℕ → ℕ → Bool) (o : Ordered F.order F.limit) (o' : Ordered le F.limit) (g t most : ℕ) where
  more-either : (a : ℕ) → charge (with_more (in_order le F) g t a) ≡ charge (with_more F g t a)
  unfolding with_more
  more-either a = charge-either (with_more F g t a) le o o'

  greatest-either : (a : ℕ) → Greatest F g t most a → Greatest (in_order le F) g t most a
  greatest-either a h =
      record {
        within = h.within;
        same = more-either a ∙ h.same ∙ sym (charge-either F le o o');
        more = λ l. rw (more-either (a + 1), charge-either F le o o') (h.more l);
      }

  pub headroom-either : 1 ≤ g → g ≤ F.groups → headroom_of (in_order le F) g t most ≡ headroom_of F g t most
  headroom-either first last = sym (greatest-only (in_order le F) o' g t most first last (headroom_of F g t most) (greatest-either (headroom_of F g t most) (greatest F o g t most first last)))
