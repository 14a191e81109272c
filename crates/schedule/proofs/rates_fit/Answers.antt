-- `schedule::rates_fit` meets its contract: each call gives its row's test.
use Rattle.schedule.specs.Check.{rates_fit}
use Rattle.schedule.proofs.rates_fit.Goals as goal

pub returns : goal.returns
unfolding rates_fit
returns c = rw (
  c.row_fits-8.ensures,
  c.row_fits-7.ensures,
  c.row_fits-6.ensures,
  c.row_fits-5.ensures,
  c.row_fits-4.ensures,
  c.row_fits-3.ensures,
  c.row_fits-2.ensures,
  c.row_fits.ensures,
)
