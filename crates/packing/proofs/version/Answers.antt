-- `packing::version` meets its contract, by computation.
use mathlib.Core.Path.{refl}
use Rattle.words.specs.Words.{sum}
use Rattle.packing.specs.Version.{library_version}
use Rattle.packing.proofs.version.Goals as goal

pub returns : goal.returns
unfolding library_version sum
returns c = refl
