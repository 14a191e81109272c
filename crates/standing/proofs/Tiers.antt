-- One group along the ranking (Walk): what stands in each tier that is passed is in the table, and what stands before those still to come is known.
-- It holds before the first tier (walk_start), with each next one passed (walk-next, walk_step), and behind the last it is the promise (walk_end).
use mathlib.Core.Bool.{Bool, true, false}
use mathlib.Core.List.{List, [], ◌∷◌}
use mathlib.Core.Path.{◌≡◌, refl, ap, ◌∙◌}
use Prim.Native.Nat.{ℕ, ◌+◌, ◌*◌, ◌-◌, ◌≤◌, ◌<◌, ◌^◌}
use native.Mathlib.Omega.{arith}
use native.Mathlib.Numerals.{add-one}
use lib.Dec.{eqb}
use lib.ListN.{length, drop, get_or, set, length-set}
use lib.Seq.{drop-cons, get_or-set_same, get_or-set_other}
use borrow.Author.Tests.{eq-eqb, ne_eqb, eqb-true, eqb-false}
use Rattle.std.specs.Prelude.{if◌then◌else◌}
use Rattle.words.specs.Words.{◌=?◌, sum_of, All}
use Rattle.wire.specs.Bytes.{M}
use Rattle.cascade.specs.declared.Outcome.{Outcome}
use Rattle.cascade.specs.Cascade.{tiers, by_tier, excess_at, next, standing, excess}
use Rattle.cascade.specs.Promise.{outcome_at}
use Rattle.cascade.proofs.Lists.{count-one}
use Rattle.rows.specs.Rows.{columns}
use Rattle.standing.specs.Standing.{stood_at, Standable, GroupStood}

-- how often tier t is among ks
abbrev counted : ℕ → List ℕ → ℕ
counted t ks = sum_of (λ u. if u =? t then 1 else 0) ks

-- ks are the tiers still to come, each once, and s stands before them: along them there stands before each what does along the whole ranking;
-- the entries of all other tiers are what stands there; the rest of the table is as it was
pub record Walk (k : ℕ) (exposures limits ranking cells₀ cells : List ℕ) (s : ℕ) (ks : List ℕ) : Type 0 where
  pub size : length cells ≡ length cells₀
  pub inside : All (λ t. t < tiers) ks
  pub once : (t : ℕ) → t < tiers → counted t ks ≤ 1
  pub amounts : s + sum_of (by_tier exposures) ks ≤ 900 * M
  pub ahead : (t : ℕ) → t < tiers → 0 < counted t ks → standing (by_tier limits) (by_tier exposures) s ks t ≡ standing (by_tier limits) (by_tier exposures) 0 ranking t
  pub passed : (t : ℕ) → t < tiers → counted t ks ≡ 0 → get_or cells (columns * k + t) 0 ≡ stood_at limits exposures ranking t
  pub before : (q : ℕ) → q < columns * k → get_or cells q 0 ≡ get_or cells₀ q 0
  pub behind : (q : ℕ) → columns * k + tiers ≤ q → get_or cells q 0 ≡ get_or cells₀ q 0

-- all tiers are to come
pub walk_start : {k : ℕ} {exposures limits ranking cells : List ℕ} → Standable cells k exposures ranking → Walk k exposures limits ranking cells cells 0 ranking
walk_start {exposures = exposures} {ranking = ranking} g = record {
  size = refl;
  inside = g.ranks.inside;
  once = λ t l. omega (arith, one t l);
  amounts = omega (arith, g.amounts, g.ranks.once (by_tier exposures));
  ahead = λ t l h. refl;
  passed = λ t l z. absurd (omega (arith, one t l));
  before = λ q l. refl;
  behind = λ q l. refl;
}
  where
    one : (t : ℕ) → t < tiers → counted t ranking ≡ 1
    one t l = g.ranks.once (λ u. if u =? t then 1 else 0) ∙ count-one t tiers l

-- none is to come
pub walk_end : {k : ℕ} {exposures limits ranking cells₀ cells : List ℕ} {s : ℕ} → Walk k exposures limits ranking cells₀ cells s [] → GroupStood k exposures limits ranking cells₀ cells
unfolding sum_of
walk_end w = record { size = w.size; tier = λ t l. w.passed t l refl; before = w.before; behind = w.behind }

-- the tiers from a place of the ranking on, the first apart from the others
pub walk-next :
    {k : ℕ} {exposures limits ranking cells₀ cells : List ℕ} {s : ℕ} (i : ℕ) → Walk k exposures limits ranking cells₀ cells s (drop i ranking) → i < length ranking
    → Walk k exposures limits ranking cells₀ cells s (get_or ranking i 0 ∷ drop (i + 1) ranking)
walk-next {ranking = ranking} i w l = rw (add-one, ← drop-cons ranking i 0 l) w

-- the next tier
module _ {k : ℕ} {exposures limits ranking cells₀ cells : List ℕ} {s u : ℕ} {us : List ℕ} (w : Walk k exposures limits ranking cells₀ cells s (u ∷ us)) where
  abbrev L : ℕ → ℕ
  L = by_tier limits

  abbrev e : ℕ → ℕ
  e = by_tier exposures

  pub walk-tier : u < tiers
  walk-tier = w.inside.0

  -- its exposure can be added to what stands
  pub walk-fits : s + by_tier exposures u < 2 ^ 64
  unfolding sum_of
  walk-fits = omega (arith, w.amounts)

  -- what stands in it
  stands_here : e u - excess_at L e s u ≡ stood_at limits exposures ranking u
  unfolding sum_of standing excess
  stands_here =
      let some : 0 < counted u (u ∷ us) = rw (eq-eqb u u refl) (omega arith) in
      ap (λ (x : ℕ). e u - excess_at L e x u) (rw (eq-eqb u u refl) at (w.ahead u walk-tier some))

  -- any other tier is among those behind it as often as before
  other : (t : ℕ) → (u ≡ t → ⊥) → counted t (u ∷ us) ≡ counted t us
  unfolding sum_of
  other t d = rw (ne_eqb u t d) (omega arith)

  -- a tier that comes behind it is another
  apart : (t : ℕ) → t < tiers → 0 < counted t us → u ≡ t → ⊥
  unfolding sum_of
  apart t l h q = omega (arith, rw (eq-eqb u t q) at (w.once t l))

  -- what stands before those behind it
  ahead-still : (t : ℕ) → t < tiers → 0 < counted t us → standing L e (next L e s u) us t ≡ standing L e 0 ranking t
  unfolding standing
  ahead-still t l h = let d = apart t l h in rw (ne_eqb u t d) at (w.ahead t l (omega (arith, other t d)))

  module _ (room : columns * (k + 1) ≤ length cells₀) where
    -- what stands in it is stored
    abbrev cells₁ : List ℕ
    cells₁ = set cells (columns * k + u) (e u - excess_at L e s u)

    -- it is passed, as those before it are
    passed-too : (t : ℕ) → t < tiers → counted t us ≡ 0 → get_or cells₁ (columns * k + t) 0 ≡ stood_at limits exposures ranking t
    passed-too t l z = by (eqb u t) refl
      where
        by : (b : Bool) → eqb u t ≡ b → get_or cells₁ (columns * k + t) 0 ≡ stood_at limits exposures ranking t
        by true q = rw (← eqb-true u t q) (get_or-set_same cells (columns * k + u) _ 0 (omega (arith, walk-tier, w.size)) ∙ stands_here)
        by false q =
            let d = eqb-false u t q in
            get_or-set_other cells (columns * k + u) (columns * k + t) _ 0 (λ p. d (omega arith)) ∙ w.passed t l (other t d ∙ z)

    stepped : Walk k exposures limits ranking cells₀ cells₁ (next L e s u) us
    unfolding next sum_of
    stepped = record {
      size = length-set cells _ _ ∙ w.size;
      inside = w.inside.1;
      once = λ t l. omega (arith, w.once t l);
      amounts = omega (arith, w.amounts);
      ahead = ahead-still;
      passed = passed-too;
      before = λ q l. get_or-set_other cells (columns * k + u) q _ 0 (λ p. omega arith) ∙ w.before q l;
      behind = λ q l. get_or-set_other cells (columns * k + u) q _ 0 (λ p. omega (arith, walk-tier)) ∙ w.behind q l;
    }

    -- the same with the outcome that `cut` returns
    pub walk_step :
        (r : Outcome) → r ≡ outcome_at (λ _. by_tier limits u) (λ _. by_tier exposures u) s 0
        → Walk k exposures limits ranking cells₀ (set cells (columns * k + u) (by_tier exposures u - r.excess)) r.standing us
    unfolding outcome_at next
    walk_step r h = rw h stepped
