use mathlib.Core.Path.{◌≡◌, refl, sym, ◌∙◌}
use mathlib.Core.List.{map}
use native.Mathlib.Omega.{arith}
use lib.ListN.{length, get_or, length-set, length-map}
use lib.Seq.{ext_get_or}
use Rattle.cascade.specs.Cascade.{tiers, by_tier}
use Rattle.rows.proofs.Filling.{fill_more}
use Rattle.rows.proofs.Ranked.{map_at}
use borrow.Author.Rules.{rules}
use Rattle.rows.proofs.by_rank.Goals as goal
use Rattle.rows.proofs.by_rank.Goals.{At-loop-rank}

long : (c : At-loop-rank) → length c.args.ranking ≡ tiers
long c = search rules

pub loop-rank-preserved : goal.loop-rank-preserved
loop-rank-preserved c =
    let l = c.loop-rank in
    let a = c.args in (
      length-set l.out l.rank _ ∙ l.invariant.0,
      fill_more (λ u. by_tier a.amounts (get_or a.ranking u 0)) l.out l.rank _ (omega (arith, l.invariant.0)) l.invariant.1 refl,
    )

pub returns : goal.returns
returns c =
    let l = c.loop-rank in
    let a = c.args in
    ext_get_or 0 l.out (map (by_tier a.amounts) a.ranking) (l.invariant.0 ∙ sym (length-map a.ranking (by_tier a.amounts) ∙ long (goal.at.returns c).At-loop-rank))
    (λ u h. l.invariant.1 u (omega (arith, l.invariant.0)) ∙ sym (map_at (by_tier a.amounts) a.ranking u (omega (arith, l.invariant.0, long (goal.at.returns c).At-loop-rank))))
