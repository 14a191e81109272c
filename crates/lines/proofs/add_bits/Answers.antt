use Rattle.std.proofs.Common.{◌≡◌, ℕ, ◌+◌, ◌*◌, ◌%◌, ◌^◌, ◌<◌, get_or, refl, ◌∙◌, arith, rules, get_or-take}
use lib.ListN.{length-set}
use lib.Seq.{length-take-le}
use Rattle.words.specs.Words.{sum_of}
use Rattle.cascade.specs.Cascade.{tiers}
use Rattle.lines.specs.Listing.{group_in, index_in, bit_for}
use Rattle.rows.proofs.Ranked.{rank-few}
use Rattle.lines.proofs.Bits.{shifted, bits-next, bits-within, own-bit, added-bit}
use Rattle.lines.proofs.add_bits.Goals as goal
use Rattle.lines.proofs.add_bits.Goals.{In-loop-entry}

pub loop-entry-init : goal.loop-entry-init
unfolding sum_of
loop-entry-init c = (refl, λ k. omega arith)

-- the entry that is taken, and its tier's bit
module _ (c : In-loop-entry) where
  abbrev code : ℕ
  code = get_or c.args.list.now c.loop-entry.entry-index 0

  inside : c.loop-entry.entry-index < c.args.lines
  inside = omega (arith, length-take-le c.args.lines c.args.list.now c.requires.long)

  few : get_or c.args.ranking (index_in code) 0 < tiers
  few = rank-few c.args.ranking c.requires.ranks (search rules) (index_in code) (omega arith)

  bit_is : 1 * 2 ^ get_or c.args.ranking (index_in code) 0 % 65536 ≡ 2 ^ get_or c.args.ranking (index_in code) 0
  bit_is = shifted _ few

pub overflow_add-sets : goal.overflow_add-sets
overflow_add-sets c =
    let l = c.loop-entry in
    let i = l.entry-index in
    let list = c.args.list.now in
    let k = group_in (get_or list i 0) in
    let f = bit_for c.args.ranking k in
    let u = inside (goal.at.overflow_add-sets c).In-loop-entry in
    let is : c.from-entry.result ≡ get_or list i 0 = c.from-entry.ensures ∙ get_or-take c.args.lines list i 0 u in
    rw is
    (record { fits = omega (arith, bit_is (goal.at.overflow_add-sets c).In-loop-entry, l.invariant.1 k, own-bit c.args.ranking (get_or list i 0), bits-next f list i (omega (arith, c.requires.long)), bits-within f list (i + 1) c.args.lines (omega arith), c.requires.fit k) })

pub loop-entry-preserved : goal.loop-entry-preserved
loop-entry-preserved c =
    let l = c.loop-entry in
    let i = l.entry-index in
    let list = c.args.list.now in
    let e = get_or list i 0 in
    let u = inside (goal.at.loop-entry-preserved c).In-loop-entry in
    let is : c.from-entry.result ≡ e = c.from-entry.ensures ∙ get_or-take c.args.lines list i 0 u in
    rw is (
      length-set l.sets (group_in e) _ ∙ l.invariant.0,
      λ k.
          added-bit c.args.ranking l.sets e _ (omega (arith, l.invariant.0, c.requires.inside i (omega arith))) (bit_is (goal.at.loop-entry-preserved c).In-loop-entry) k
          ∙ omega (arith, l.invariant.1 k, bits-next (bit_for c.args.ranking k) list i (omega (arith, c.requires.long))),
    )
