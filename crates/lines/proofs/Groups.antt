-- One turn of the listing of the groups: the entries of a group are tried, and its set of tiers is put.
use mathlib.Core.Path.{◌≡◌, refl, ap, sym, ◌∙◌}
use mathlib.Core.Bool.{Bool}
use mathlib.Core.List.{List, [], ◌∷◌, ◌++◌, map}
use Prim.Native.Nat.{ℕ, suc, ◌+◌, ◌-◌, ◌≤◌, ◌<◌}
use native.Mathlib.Omega.{arith}
use lib.ListN.{length, take, drop, get_or, length-map, length-append}
use Rattle.words.specs.Words.{each_of, those, count_from}
use Rattle.words.specs.Sums.{sum-length, length-count, count_at}
use Rattle.wire.specs.Bytes.{placed}
use Rattle.wire.proofs.Laws.{read-in}
use Rattle.rows.specs.Rows.{row}
use Rattle.lines.specs.Table.{set_of}
use Rattle.lines.specs.Listing.{entry, all_entries, tried}
use Rattle.lines.proofs.Tries.{those-append, those-sum, tried-append}

-- the groups from k on
abbrev pub numbers : ℕ → ℕ → List ℕ
numbers groups k = count_from k (groups - k)

numbers-step : (groups k : ℕ) → k < groups → numbers groups k ≡ k ∷ numbers groups (k + 1)
unfolding count_from
numbers-step groups k l =
    let q : groups - k ≡ suc (groups - (k + 1)) = omega arith in
    rw q

numbers-end : (groups k : ℕ) → groups ≤ k → numbers groups k ≡ []
unfolding count_from
numbers-end groups k l = let q : groups - k ≡ 0 = omega arith in rw q

-- all entries of the groups from k on
abbrev pub later : ℕ → List ℕ → ℕ → List ℕ
later groups ranking k = each_of (λ j. map (entry j) ranking) (numbers groups k)

module _ (groups : ℕ) (ranking : List ℕ) where
  pub later_first : all_entries groups ranking ≡ later groups ranking 0
  later_first = let q : groups ≡ groups - 0 = omega arith in ap (λ (n : ℕ). each_of (λ j. map (entry j) ranking) (count_from 0 n)) q

  pub later-step : (k : ℕ) → k < groups → later groups ranking k ≡ map (entry k) ranking ++ later groups ranking (k + 1)
  unfolding each_of
  later-step k l = rw (numbers-step groups k l)

  pub later-end : (k : ℕ) → groups ≤ k → later groups ranking k ≡ []
  unfolding each_of
  later-end k l = rw (numbers-end groups k l)

-- where none is left
pub none-counted : (test : ℕ → Bool) {es : List ℕ} (n : ℕ) → es ≡ [] → n + length (those test es) ≡ n
unfolding those
none-counted test n e = rw e (omega arith)

pub none_tried : (test : ℕ → Bool) {es : List ℕ} (at : ℕ) (list : List ℕ) → es ≡ [] → list ≡ tried test at es list
unfolding tried
none_tried test at list e = rw e

-- a group: its entries tried, and counted where they have a line
module _ (test : ℕ → Bool) (groups : ℕ) (ranking : List ℕ) (k : ℕ) (l : k < groups) where
  pub count-step : length (those test (later groups ranking k)) ≡ length (those test (map (entry k) ranking)) + length (those test (later groups ranking (k + 1)))
  count-step = rw (later-step groups ranking k l, those-append test (map (entry k) ranking) (later groups ranking (k + 1)), length-append)

  pub group-few : length (those test (map (entry k) ranking)) ≤ length ranking
  group-few = omega (arith, those-sum test (λ _. 1) (map (entry k) ranking), sum-length (those test (map (entry k) ranking)), sum-length (map (entry k) ranking), length-map ranking (entry k))

  pub list-step :
      (at : ℕ) (list next : List ℕ) → next ≡ tried test at (map (entry k) ranking) list
      → tried test at (later groups ranking k) list ≡ tried test (at + length (those test (map (entry k) ranking))) (later groups ranking (k + 1)) next
  list-step at list next q =
      rw (later-step groups ranking k l)
      (tried-append test (map (entry k) ranking) (later groups ranking (k + 1)) at list
      ∙ ap (tried test (at + length (those test (map (entry k) ranking))) (later groups ranking (k + 1))) (sym q))

-- ---- the sets of the groups' tiers

module _ (cells : List ℕ) where
  abbrev pub set_at : ℕ → ℕ
  set_at k = set_of (row cells k)

  module _ (groups : ℕ) where
    abbrev pub all_sets : List ℕ
    all_sets = map set_at (count_from 0 groups)

    pub sets-long : length all_sets ≡ groups
    sets-long = length-map (count_from 0 groups) set_at ∙ length-count 0 groups

    -- each group's set, where they are placed
    pub set-each : (before : List ℕ) {after : List ℕ} → after ≡ placed before 0 all_sets → (k : ℕ) → k < groups → get_or after k 0 ≡ set_at k
    set-each before e k l =
        let q : 0 + k ≡ k = omega arith in
        rw e
        (ap (λ (j : ℕ). get_or (placed before 0 all_sets) j 0) (sym q)
        ∙ read-in (take 0 before) all_sets (drop (0 + length all_sets) before) 0 refl k (omega (arith, sets-long))
        ∙ count_at set_at 0 groups k l ∙ ap set_at q)
