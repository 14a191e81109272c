use Rattle.std.proofs.Common.{length, ap, sym, ◌∙◌, arith}
use Rattle.words.specs.Sums.{length-count}
use Rattle.cascade.specs.Cascade.{tiers}
use Rattle.lines.specs.Listing.{all_ranks, shown_by}
use Rattle.lines.proofs.Tries.{tried-long}
use Rattle.lines.proofs.Groups.{later-end, none-counted, none_tried, group-few, count-step, list-step}
use Rattle.lines.proofs.list_groups.Goals as goal

pub loop-k-preserved : goal.loop-k-preserved
loop-k-preserved c =
    let l = c.loop-k in
    let g = c.list_group-place in
    let a = c.args in
    let shows = shown_by a.cells.now a.ranking in
    let few = group-few shows a.groups all_ranks l.k (omega arith) in (
      omega (arith, few, g.ensures.0, l.invariant.0, length-count 0 tiers),
      ap length g.ensures.1 ∙ tried-long _ _ _ _ ∙ l.invariant.1,
      omega (arith, g.ensures.0, l.invariant.2, count-step shows a.groups all_ranks l.k (omega arith)),
      rw g.ensures.0 (sym (list-step shows a.groups all_ranks l.k (omega arith) l.place l.list g.new.list g.ensures.1) ∙ l.invariant.3),
    )

pub returns : goal.returns
returns c =
    let a = c.args in
    let l = c.loop-k in
    let shows = shown_by a.cells.now a.ranking in
    let none = later-end a.groups all_ranks l.k (omega arith) in
    (sym (none-counted shows l.place none) ∙ l.invariant.2, none_tried shows l.place l.list none ∙ l.invariant.3)
