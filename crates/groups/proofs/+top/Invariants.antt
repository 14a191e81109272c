-- `top`: the place falls at each call.
use Rattle.groups.proofs.+top.Given as goal

abbrev pub decreases-top : goal.decreases-top
decreases-top l = l.place
