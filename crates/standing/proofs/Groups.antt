-- The groups one after the other (Stood, of the groups passed): the next one's row is still as it was, it can be stood (standable), and then there is a
-- group more (stood-step).
use mathlib.Core.Bool.{Bool, true, false}
use mathlib.Core.List.{List}
use mathlib.Core.Path.{◌≡◌, refl, sym, ◌∙◌}
use Prim.Native.Nat.{ℕ, ◌+◌, ◌*◌, ◌≤◌, ◌<◌}
use native.Mathlib.Omega.{arith}
use lib.Dec.{eqb}
use lib.ListN.{get_or}
use lib.Seq.{ext_get_or}
use borrow.Author.Tests.{eqb-true, eqb-false}
use Rattle.cascade.specs.Cascade.{tiers}
use Rattle.rows.specs.Rows.{columns, row, row_at, row-long}
use Rattle.standing.specs.Standing.{stood_at, Standable, GroupStood, Groups, Stood}

-- no group is stood
pub stood-start : {limits ranking cells : List ℕ} → Stood 0 limits ranking cells cells
stood-start = record { size = refl; tier = λ k t l h. absurd (omega arith); other = λ k c l h g. absurd (omega arith); behind = λ q l. refl }

module _ {groups k : ℕ} {limits ranking cells₀ cells : List ℕ} (g : Groups cells₀ groups ranking) (l : k < groups) (s : Stood k limits ranking cells₀ cells) where
  -- the next group's row is still as it was
  row_same : row cells k ≡ row cells₀ k
  row_same =
      let n = row-long cells k (omega (arith, g.rows, s.size)) in
      let n₀ = row-long cells₀ k (omega (arith, g.rows)) in
      ext_get_or 0 (row cells k) (row cells₀ k) (n ∙ sym n₀) (λ t h. row_at cells k t (omega arith) ∙ s.behind (columns * k + t) (omega arith) ∙ sym (row_at cells₀ k t (omega arith)))

  module _ {exposures : List ℕ} (e : exposures ≡ row cells k) where
    -- it can be stood
    pub standable : Standable cells k exposures ranking
    standable = record {
      few = omega (arith, g.few);
      row = omega (arith, g.rows, s.size);
      amounts = rw (e, row_same) (g.amounts k l);
      ranks = g.ranks;
    }

    module _ {cells₁ : List ℕ} (one : GroupStood k exposures limits ranking cells cells₁) where
      -- it is stood, as those before it are
      next-tier : (j t : ℕ) → j < k + 1 → t < tiers → get_or cells₁ (columns * j + t) 0 ≡ stood_at limits (row cells₀ j) ranking t
      next-tier j t i h = by (eqb j k) refl
        where
          by : (b : Bool) → eqb j k ≡ b → get_or cells₁ (columns * j + t) 0 ≡ stood_at limits (row cells₀ j) ranking t
          by true q = rw (eqb-true j k q, ← row_same, ← e) (one.tier t h)
          by false q = let n = eqb-false j k q in one.before (columns * j + t) (omega arith) ∙ s.tier j t (omega arith) h

      -- and no other column has changed
      next-other : (j c : ℕ) → j < k + 1 → tiers ≤ c → c < columns → get_or cells₁ (columns * j + c) 0 ≡ get_or cells₀ (columns * j + c) 0
      next-other j c i h m = by (eqb j k) refl
        where
          by : (b : Bool) → eqb j k ≡ b → get_or cells₁ (columns * j + c) 0 ≡ get_or cells₀ (columns * j + c) 0
          by true q = rw (eqb-true j k q) (one.behind (columns * k + c) (omega arith) ∙ s.behind (columns * k + c) (omega arith))
          by false q = let n = eqb-false j k q in one.before (columns * j + c) (omega arith) ∙ s.other j c (omega arith) h m

      -- there is a group more
      pub stood-step : Stood (k + 1) limits ranking cells₀ cells₁
      stood-step = record {
        size = one.size ∙ s.size;
        tier = next-tier;
        other = next-other;
        behind = λ q i. one.behind q (omega arith) ∙ s.behind q (omega arith);
      }
