use Rattle.std.proofs.Common.{Bool, true, false, ◌≡◌, ◌<◌, ◌≤◌, refl, length, get_or, sym, ◌∙◌, arith, rules}
use mir.Val.{bool_byte}
use lib.ListN.{length-set}
use Rattle.std.specs.Prelude.{if◌then◌else◌}
use Rattle.words.specs.Words.{◌<?◌}
use Rattle.cascade.specs.Cascade.{tiers, by_tier}
use Rattle.rows.specs.Rows.{row}
use Rattle.lines.proofs.Turn.{counted-end, tried-end, read_is, counted_step, tried-step}
use Rattle.lines.proofs.list_group.Goals as goal

-- 1 where a test holds, else 0
one-where : (b : Bool) → bool_byte b ≡ (if b then 1 else 0)
one-where true = refl
one-where false = refl

at-most : (b : Bool) → bool_byte b ≤ 1
at-most true = omega arith
at-most false = omega arith

pub loop-i-preserved : goal.loop-i-preserved
loop-i-preserved c =
    let l = c.loop-i in
    let a = c.args in
    let cells = a.cells.now in
    let o = c.requires.3 in
    let long : length a.ranking ≡ tiers = search rules in
    let few : l.i < tiers = omega arith in
    let some : c.from-place.result ≡ (if 0 <? by_tier (row cells a.k) (get_or a.ranking l.i 0) then 1 else 0) = read_is cells a.ranking a.k o long l.i few (c.from-place.ensures ∙ one-where _) in
    let small : c.from-place.result ≤ 1 = rw c.from-place.ensures (at-most _) in (
      omega arith,
      length-set l.list l.place _ ∙ l.invariant.1,
      sym (tried-step cells a.ranking a.k o long l.i few l.place c.from-place.result l.list some) ∙ l.invariant.2,
      omega (arith, l.invariant.3, counted_step cells a.ranking a.k o long l.i few c.from-place.result some),
    )

pub returns : goal.returns
returns c =
    let l = c.loop-i in
    let cells = c.args.cells.now in (
      omega (arith, l.invariant.3, counted-end cells c.args.ranking c.args.k l.i (omega arith)),
      sym (tried-end cells c.args.ranking c.args.k l.i l.place l.list (omega arith)) ∙ l.invariant.2,
    )
