-- The lines along a list of entries are the groups' lines: what stands along a group's own tiers is what stands along the whole ranking.
use mathlib.Core.Path.{◌≡◌, refl, ap, ap₂, ◌∙◌}
use mathlib.Core.Bool.{Bool, true, false}
use mathlib.Core.List.{List, [], ◌∷◌, ◌++◌}
use Prim.Native.Nat.{ℕ, zero, suc, ◌+◌, ◌≤◌, ◌<◌}
use native.Mathlib.Omega.{arith}
use borrow.Author.Tests.{eq-eqb, ne_eqb, ltb-false}
use lib.ListN.{length, get_or}
use Rattle.std.specs.Prelude.{if◌then◌else◌}
use Rattle.words.specs.Words.{◌<?◌, ◌=?◌, sum_of, each_of, those, count_from, All}
use Rattle.words.specs.Sums.{each_same, all_map}
use Rattle.cascade.specs.Cascade.{tiers, by_tier, left_at, excess_at, next, standing}
use Rattle.cascade.specs.Cut.{Ordered}
use Rattle.cascade.proofs.Core.{Sorted, apart}
use Rattle.figures.specs.declared.Line.{Line}
use Rattle.figures.proofs.Sums.{if-zero}
use Rattle.rows.specs.Rows.{row}
use Rattle.lines.specs.Listing.{entry, group_in, index_in, exposure_in, Source, before, entry_line, lines_along}
use Rattle.lines.proofs.Entries.{group-in, tier-in, exposure-in, group_entries, groups-in}

module _ (S : Source) where
  abbrev L : ℕ → ℕ
  L = by_tier S.limits

  -- where the group changes nothing stands
  fresh : (xs : List ℕ) (last s k : ℕ) → All (λ e. group_in e ≡ last → ⊥) xs → lines_along S last s xs ≡ lines_along S k 0 xs
  unfolding lines_along
  fresh [] last s k h = refl
  fresh (e ∷ es) last s k h = rw (ne_eqb (group_in e) last h.0, if-zero (group_in e =? k))

  pub along-long : (es : List ℕ) (last s : ℕ) → length (lines_along S last s es) ≡ length es
  unfolding lines_along
  along-long [] last s = refl
  along-long (e ∷ es) last s = ap suc (along-long es (group_in e) (next L (λ _. exposure_in S.cells e) (before last s e) (index_in e)))

  -- no excess passes its exposure
  pub along-within : (es : List ℕ) (last s : ℕ) → sum_of (λ x. x.excess) (lines_along S last s es) ≤ sum_of (exposure_in S.cells) es
  unfolding lines_along entry_line sum_of
  along-within [] last s = omega arith
  along-within (e ∷ es) last s = omega (arith, along-within es (group_in e) (next L (λ _. exposure_in S.cells e) (before last s e) (index_in e)))

  -- one group
  module _ (k : ℕ) where
    abbrev x : ℕ → ℕ
    x = by_tier (row S.cells k)

    -- the line of tier t, where s stands before it
    abbrev pub tier_line : ℕ → ℕ → Line
    tier_line s t =
        record {
          top = get_or S.heads k 0;
          tier = t;
          tiers = get_or S.sets k 0;
          exposure = x t;
          limit = L t;
          left = left_at L s t;
          excess = excess_at L x s t;
        }

    -- the line of tier t among the tiers ks, where s stands before these; none where the exposure is 0
    abbrev pub tier_lines : ℕ → List ℕ → ℕ → List Line
    tier_lines s ks t = if 0 <? x t then tier_line (standing L x s ks t) t ∷ [] else []

    line-in : (s t : ℕ) → t < tiers → entry_line S s (entry k t) ≡ tier_line s t
    unfolding entry_line
    line-in s t l = rw (exposure-in k t l S.cells, group-in k t l, tier-in k t l)

    next-in : (s t : ℕ) → t < tiers → next L (λ _. exposure_in S.cells (entry k t)) s (index_in (entry k t)) ≡ next L x s t
    unfolding next
    next-in s t l = rw (exposure-in k t l S.cells, tier-in k t l)

    -- an entry of the group, and what comes behind it
    along_one :
        (s t : ℕ) (es : List ℕ) → t < tiers → lines_along S k s (entry k t ∷ es) ≡ tier_line s t ∷ lines_along S k (next L x s t) es
    unfolding lines_along
    along_one s t es l =
        let g = group-in k t l in
        let u : before k s (entry k t) ≡ s = rw (eq-eqb (group_in (entry k t)) k g) in
        ap₂ (λ (a : Line) (xs : List Line). a ∷ xs) (ap (λ (r : ℕ). entry_line S r (entry k t)) u ∙ line-in s t l)
        (ap₂ (λ (j r : ℕ). lines_along S j r es) g (ap (λ (r : ℕ). next L (λ _. exposure_in S.cells (entry k t)) r (index_in (entry k t))) u ∙ next-in s t l))

    -- a tier without exposure adds nothing to what stands
    next-none : (s t : ℕ) → x t ≡ 0 → next L x s t ≡ s
    unfolding next
    next-none s t h = omega arith

    module _ (le : ℕ → ℕ → Bool) (o : Ordered le L) where
      -- behind its first tier the others' lines are those of what stands after it
      others : (s t : ℕ) (ts : List ℕ) → All (λ u. le u t ≡ false) ts → each_of (tier_lines s (t ∷ ts)) ts ≡ each_of (tier_lines (next L x s t) ts) ts
      unfolding standing
      others s t ts w = each_same (tier_lines s (t ∷ ts)) (tier_lines (next L x s t) ts) ts (all_map one ts w)
        where
          one : (u : ℕ) → le u t ≡ false → tier_lines s (t ∷ ts) u ≡ tier_lines (next L x s t) ts u
          one u q = rw (ne_eqb t u (apart le L o t u q))

      first : (s t : ℕ) (ts : List ℕ) → tier_lines s (t ∷ ts) t ≡ (if 0 <? x t then tier_line s t ∷ [] else [])
      unfolding standing
      first s t ts = rw (eq-eqb t t refl)

      pub along-group :
          (ks : List ℕ) (s : ℕ) (rest : List ℕ) → Sorted le ks → All (λ t. t < tiers) ks → All (λ e. group_in e ≡ k → ⊥) rest
          → lines_along S k s (group_entries S.cells ks k ++ rest) ≡ each_of (tier_lines s ks) ks ++ lines_along S k 0 rest
      unfolding those each_of
      along-group [] s rest w h r = fresh rest k s k r
      along-group (t ∷ ts) s rest w h r =
          rw (exposure-in k t h.0 S.cells, first s t ts, others s t ts w.0)
          (by (0 <? x t) refl (λ z. along-group ts z rest w.1 h.1 r))
        where
          by : (b : Bool) → (0 <? x t) ≡ b
              → ((z : ℕ) → lines_along S k z (group_entries S.cells ts k ++ rest) ≡ each_of (tier_lines z ts) ts ++ lines_along S k 0 rest)
              → lines_along S k s ((if b then entry k t ∷ group_entries S.cells ts k else group_entries S.cells ts k) ++ rest)
              ≡ ((if b then tier_line s t ∷ [] else []) ++ each_of (tier_lines (next L x s t) ts) ts) ++ lines_along S k 0 rest
          by true e ih =
              along_one s t (group_entries S.cells ts k ++ rest) h.0 ∙ ap (λ (xs : List Line). tier_line s t ∷ xs) (ih (next L x s t))
          by false e ih = rw (next-none s t (omega (arith, ltb-false 0 (x t) e))) (ih s)

  -- all groups, along a ranking
  module _ (le : ℕ → ℕ → Bool) (o : Ordered le L) (ranking : List ℕ) (w : Sorted le ranking) (h : All (λ t. t < tiers) ranking) where
    pub along-groups :
        (m k last s : ℕ) → ((j : ℕ) → k ≤ j → j < k + m → j ≡ last → ⊥)
        → lines_along S last s (each_of (group_entries S.cells ranking) (count_from k m)) ≡ each_of (λ j. each_of (tier_lines j 0 ranking) ranking) (count_from k m)
    unfolding each_of count_from lines_along
    along-groups zero k last s a = refl
    along-groups (suc m) k last s a =
        let rest = each_of (group_entries S.cells ranking) (count_from (k + 1) m) in
        fresh (group_entries S.cells ranking k ++ rest) last s k (all_map (λ e q. a (group_in e) q.0 q.1) (group_entries S.cells ranking k ++ rest) (groups-in ranking h S.cells k (suc m)))
        ∙ along-group k le o ranking 0 rest w h (all_map (λ e q r. omega (arith, q.0)) rest (groups-in ranking h S.cells (k + 1) m))
        ∙ ap (λ (xs : List Line). each_of (tier_lines k 0 ranking) ranking ++ xs) (along-groups m (k + 1) k 0 (λ j p q r. omega arith))
