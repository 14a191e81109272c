-- The loop's turn: the entry at the place reached, the exposures that stand for it, and the outcome that the cut gives.
use mathlib.Core.Path.{◌≡◌, refl, ap, sym, ◌∙◌}
use mathlib.Core.Bool.{true, false}
use mathlib.Core.List.{List, map}
use lib.Dec.{eqb}
use Prim.Native.Nat.{ℕ, ◌+◌, ◌≤◌, ◌<◌}
use native.Mathlib.Omega.{arith}
use lib.ListN.{length, get_or, length-map}
use Rattle.std.specs.Prelude.{Option, Some, None}
use Rattle.std.specs.Option.{option_eq, unwrap_or}
use borrow.Author.Tests.{eq-eqb, ne_eqb, eqb-true, eqb-false}
use borrow.Author.Rules.{rules}
use Rattle.words.specs.Words.{◌=?◌, sum_of}
use Rattle.words.specs.Choice.{if-le, not-true, not-false}
use Rattle.cascade.specs.Cascade.{tiers, by_tier}
use Rattle.cascade.specs.Promise.{outcome_at}
use Rattle.cascade.specs.declared.Outcome.{Outcome}
use Rattle.rows.specs.Rows.{row}
use Rattle.lines.specs.Listing.{group_in, index_in, exposure_in, of_rank, Source, source, before, no_group, entries_in}
use Rattle.lines.specs.Promise.{EntryInside}
use Rattle.lines.proofs.Entries.{exposure-in}
use Rattle.lines.proofs.Ranks.{rank-group, rank-tier}
use Rattle.rows.proofs.Ranked.{map_at, rank-few}
use Rattle.line_writing.proofs.Writing.{any-limits, same_outcome, outcome_in, kept, rest, entry-inside, exposure-step, put_first, put-turn, put_all}
use Rattle.line_writing.proofs.put_list.Goals as goal
use Rattle.line_writing.proofs.put_list.Goals.{Joined-ne, then-ne, else-ne}

-- the test of the group of the entry before
same-last : (o : Option ℕ) (k : ℕ) → option_eq eqb o (Some k) ≡ true → o ≡ Some k
same-last None k e = cc
same-last (Some j) k e = ap Some (eqb-true j k e)

other-last : (o : Option ℕ) (k : ℕ) → option_eq eqb o (Some k) ≡ false → k < no_group → k ≡ unwrap_or o no_group → ⊥
other-last None k e l z = omega arith
other-last (Some j) k e l z = eqb-false j k e (sym z)

-- where the group's exposures are at hand
module _ (c : Joined-ne) where
  abbrev cells : List ℕ
  cells = c.args.table.cells.now

  abbrev ranking : List ℕ
  ranking = c.args.table.ranking.now

  abbrev list : List ℕ
  list = c.args.table.list.now

  abbrev ranked : List ℕ
  ranked = c.by_rank-ranked.result

  abbrev S : List ℕ → Source
  S limits = source limits ranking cells c.args.table.sets.now c.args.table.heads.now

  abbrev own : Source
  own = S c.args.table.limits.now

  abbrev at : ℕ
  at = c.loop-entry.entry-index

  -- the entry by rank, and by tier
  abbrev code : ℕ
  code = c.from-entry.result

  abbrev e : ℕ
  e = of_rank ranking code

  inside : at < length list
  inside = omega arith

  code-is : code ≡ get_or list at 0
  code-is = c.from-entry.ensures

  -- the group of the entry before it
  abbrev last : ℕ
  last = unwrap_or c.loop-entry.last no_group

  long : length ranking ≡ tiers
  long = let n : length ranked ≡ tiers = search rules in sym (length-map ranking _) ∙ ap length (sym c.by_rank-ranked.ensures) ∙ n

  here : EntryInside own e
  here = entry-inside own list (length list) _ c.requires at inside code-is

  group : group_in e ≡ group_in code
  group = rank-group ranking c.requires.ranked long code

  tier : index_in e ≡ get_or ranking (index_in code) 0
  tier = rank-tier ranking c.requires.ranked long code

  small : group_in code < no_group
  small = omega arith

  -- what stands before it
  abbrev under : ℕ
  under = before last c.loop-entry.standing e

  -- its limit, of whatever limits the ranked ones are
  limit_is : (limits : List ℕ) → ranked ≡ map (by_tier limits) ranking → get_or ranked (index_in code) 0 ≡ by_tier limits (index_in e)
  limit_is limits q = ap (λ (r : List ℕ). get_or r (index_in code) 0) q ∙ map_at (by_tier limits) ranking (index_in code) (omega (arith, long)) ∙ ap (by_tier limits) (sym tier)

  exposures-are : c.if-ne.exposures ≡ map (by_tier (row cells (group_in code))) ranking
  exposures-are =
      elim c.if-ne.branch [
        | then-ne w ↦ w.exposures-is ∙ w.by_rank-exposures.ensures ∙ ap (λ (r : List ℕ). map (by_tier r) ranking) w.row_of.ensures
        | else-ne w ↦ w.exposures-is ∙ c.loop-entry.invariant.1 (group_in code) (same-last _ _ (not-false _ (sym w.if-ne.ensures)))
      ]

  standing-was : c.if-ne.standing ≡ under
  standing-was =
      elim c.if-ne.branch [
        | then-ne w ↦ w.standing-is ∙ rw (ne_eqb (group_in e) last (λ z. other-last _ _ (not-true _ (sym w.if-ne.ensures)) small (sym group ∙ z)))
        | else-ne w ↦ let s : c.loop-entry.last ≡ Some (group_in code) = same-last _ _ (not-false _ (sym w.if-ne.ensures)) in
            let z : group_in e ≡ last = group ∙ sym (ap (λ (o : Option ℕ). unwrap_or o no_group) s) in
            w.standing-is ∙ rw (eq-eqb (group_in e) last z)
      ]

  exposure-is : get_or c.if-ne.exposures (index_in code) 0 ≡ exposure_in cells e
  exposure-is =
      let r = index_in code in
      ap (λ (xs : List ℕ). get_or xs r 0) exposures-are
      ∙ map_at (by_tier (row cells (group_in code))) ranking r (omega (arith, long))
      ∙ sym (exposure-in (group_in code) (get_or ranking r 0) (rank-few ranking c.requires.ranked long r (omega arith)) cells)

  -- what stands before it, its exposure and the excesses so far are within all exposures
  within :
      c.if-ne.standing + get_or c.if-ne.exposures (index_in code) 0 + c.loop-entry.excesses
      + sum_of (exposure_in cells) (rest own list (length list) (at + 1))
      ≤ sum_of (exposure_in cells) (entries_in own list (length list))
  within =
      let l = c.loop-entry in
      let u : under ≤ l.standing = if-le (group_in e =? last) (omega arith) (omega arith) in
      omega (arith, u, standing-was, l.invariant.0, exposure-step own list (length list) _ c.requires at inside code-is, exposure-is)

  -- the outcome that the cut gives
  module _ (o : Outcome) (h : o ≡ outcome_at (λ _. get_or ranked (index_in code) 0) (λ _. get_or c.if-ne.exposures (index_in code) 0) c.if-ne.standing 0) where
    -- of whatever limits the ranked ones are
    cut-is : (limits : List ℕ) → ranked ≡ map (by_tier limits) ranking → o ≡ outcome_in (S limits) under e
    cut-is limits q = h ∙ same_outcome (limit_is limits q) exposure-is standing-was

    -- what it adds to what stands and to the excesses
    adds : o.standing + o.excess ≡ c.if-ne.standing + get_or c.if-ne.exposures (index_in code) 0
    adds = omega (arith, standing-was, exposure-is, kept own under e o (cut-is c.args.table.limits.now c.by_rank-ranked.ensures))

pub loop-entry-init : goal.loop-entry-init
loop-entry-init c = (omega arith, (λ k n. (cc)), omega arith, refl, λ limits q. put_first _ _ _ c.args.d.now)

pub row_of-requires : goal.row_of-requires
row_of-requires c =
    let n : length c.by_rank-ranked.result ≡ tiers = search rules in
    let long : length c.args.table.ranking.now ≡ tiers = sym (length-map c.args.table.ranking.now _) ∙ ap length (sym c.by_rank-ranked.ensures) ∙ n in
    let at = c.loop-entry.entry-index in
    let few : at < length c.args.table.list.now = omega arith in
    rw (← rank-group c.args.table.ranking.now c.requires.ranked long c.from-entry.result)
    (entry-inside _ c.args.table.list.now (length c.args.table.list.now) _ c.requires at few c.from-entry.ensures).cell

pub cut-cut-requires : goal.cut-cut-requires
cut-cut-requires c = omega (arith, within (goal.at.cut-cut-requires c).Joined-ne, c.requires.amounts)

pub bounds-heads-k : goal.bounds-heads-k
bounds-heads-k c = let j = (goal.at.bounds-heads-k c).Joined-ne in rw (← group j) (here j).head

pub bounds-sets-k : goal.bounds-sets-k
bounds-sets-k c = let j = (goal.at.bounds-sets-k c).Joined-ne in rw (← group j) (here j).set

pub overflow_add-excesses : goal.overflow_add-excesses
overflow_add-excesses c =
    let j = (goal.at.overflow_add-excesses c).Joined-ne in
    record { fits = omega (arith, adds j c.cut-cut.result c.cut-cut.ensures, within j, c.requires.amounts) }

pub loop-entry-preserved : goal.loop-entry-preserved
loop-entry-preserved c =
    let j = (goal.at.loop-entry-preserved c).Joined-ne in
    let l = c.loop-entry in
    let o = c.cut-cut in
    let p = c.put_line-place in (
      omega (arith, adds j o.result o.ensures, within j),
      (λ k z. exposures-are j ∙ ap (λ (g : ℕ). map (by_tier (row c.args.table.cells.now g)) c.args.table.ranking.now) (cc)),
      omega (arith, p.ensures.place, l.invariant.2),
      search rules,
      (λ limits q.
          put-turn (any-limits limits c.requires) (l.invariant.4 limits q) (inside j) (code-is j) o.result (cut-is j o.result o.ensures limits q) (sym (group j)) (sym (tier j)) (exposure-is j) (limit_is j limits q) p.ensures (search rules)),
    )

pub returns : goal.returns
returns c =
    put_all c.requires (c.loop-entry.invariant.4 c.args.table.limits.now c.by_rank-ranked.ensures) (omega arith)
