-- `tiers::in_cents` meets its contract: what `map` says of each entry.
use mathlib.Core.Path.{◌≡◌, sym, ◌∙◌}
use mathlib.Core.List.{map}
use native.Mathlib.Omega.{arith}
use lib.ListN.{length, length-map}
use lib.Seq.{ext_get_or}
use Rattle.cascade.specs.Cascade.{tiers}
use Rattle.limit.specs.Limit.{ten_thousandths, cents_of}
use Rattle.schedule.specs.TierLaws.{cents-at}
use borrow.Author.Rules.{rules}
use Rattle.tiers.proofs.in_cents.Goals as goal

pub returns : goal.returns
returns c =
    let xs = c.args.unrounded in
    let m = c.map.ensures.items in
    let n : length xs ≡ tiers = search rules in
    ext_get_or 0 c.map.result (map (cents_of ten_thousandths) xs) (m.long ∙ sym n ∙ sym (length-map xs (cents_of ten_thousandths)))
    (λ u h. (m.at u 0 0 (omega (arith, m.long))).2.met ∙ sym (cents-at xs u))
