-- `sized`: the array has as many bytes as it is made with.
use native.Mathlib.Omega.{arith}
use Rattle.replacing.proofs.Array.{long}
use Rattle.replacing.proofs.sized.Goals as goal

pub make_in-requires : goal.make_in-requires
make_in-requires g c = (c.requires.0, omega (arith, long g.row.ROOM, c.requires.1))
