-- `schedule::check_fields`: the last link, where the first two let pass.
use mathlib.Core.Path.{ap, ◌∙◌}
use native.Mathlib.Omega.{arith}
use Rattle.limit.specs.Bounds.{most_rate}
use Rattle.refusal.specs.Laws.{then_ok}
use Rattle.schedule.specs.Check.{rates_fit, fields_check}
use Rattle.schedule.specs.CountLaws.{counted-fits}
use Rattle.schedule.proofs.check_fields.Goals as goal

pub returns : goal.returns
unfolding fields_check
returns c =
    let fits = c.rates_fit.ensures ∙ ap (rates_fit most_rate) c.schedule_at.ensures ∙ counted-fits c.args.s.now in
    grind (arith, then_ok, fits)
