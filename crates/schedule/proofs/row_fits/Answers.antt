-- `schedule::row_fits` meets its contract: the code's tests are the definition's.
use mathlib.Core.Path.{refl}
use Rattle.schedule.specs.Check.{row_fits}
use Rattle.schedule.proofs.row_fits.Goals as goal

pub returns : goal.returns
unfolding row_fits
returns c = refl
