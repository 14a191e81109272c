-- `tiers::a3_limit` meets its contract, by the limit formula's promise alone.
use mathlib.Core.Path.{ap, ◌∙◌}
use native.Mathlib.Omega.{arith}
use lib.IntN.{ℤ}
use mir.Syntax.{w64}
use mir.Facts.{to_z-of_z}
use Rattle.schedule.specs.Tiers.{a3_limit_of, a3_limit_in}
use Rattle.tiers.proofs.Asked.{asked}
use Rattle.tiers.proofs.a3_limit.Goals as goal

pub limit-requires : goal.limit-requires
limit-requires c =
    let a = asked c.ranges.base c.requires.rates_fit.z (omega arith) c.requires.stressed_bound.0 c.requires.stressed_bound.1 in record { row_fits = a.0; percent_bound = a.1 }

pub returns : goal.returns
unfolding a3_limit_in
returns c =
    (c.limit.ensures.0 ∙ ap (λ (b : ℤ). a3_limit_of c.args.s c.args.stressed b) (to_z-of_z {w = w64} c.ranges.base), c.limit.ensures.1)
