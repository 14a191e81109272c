-- `counts_before`: place by place, as the definition adds.
use mathlib.Core.Path.{◌≡◌}
use Prim.Native.Nat.{◌*◌, ◌-◌, ◌≤◌}
use Rattle.movement.specs.Movement.{counts_before}
use Rattle.movement.proofs.counts_before.Given as goal

abbrev pub invariant-loop-before : goal.invariant-loop-before
invariant-loop-before l = (l.sum ≡ counts_before l.b l.before) × (l.sum ≤ 65535 * (l.before - 1))
