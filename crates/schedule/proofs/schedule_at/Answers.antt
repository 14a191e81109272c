-- `schedule::schedule_at` meets its contract: each call reads its field of the definition.
use mathlib.Core.Path.{ap, ◌∙◌}
use Prim.Native.Nat.{ℕ, ◌≤◌, ◌<◌}
use native.Mathlib.Omega.{arith}
use lib.ListN.{length}
use Rattle.schedule.specs.Schedule.{schedule_size, row_count, counts}
use Rattle.schedule.specs.Fields.{schedule-by}
use Rattle.schedule.proofs.schedule_at.Goals as goal
use Rattle.schedule.proofs.schedule_at.Goals.{After-times-n}

-- what a row's call asks, where `times` has answered
asked : (t : After-times-n) {n : ℕ} → n < row_count → (n < row_count) × (schedule_size ≤ length t.args.s.now) × (t.times-n.result ≤ 10)
asked t h = (h, t.requires, t.times-n.ensures.1)

pub row_at-requires-6 : goal.row_at-requires-6
row_at-requires-6 c = asked (goal.at.row_at-requires-6 c).After-times-n (omega arith)

pub row_at-requires-7 : goal.row_at-requires-7
row_at-requires-7 c = asked (goal.at.row_at-requires-7 c).After-times-n (omega arith)

pub row_at-requires-8 : goal.row_at-requires-8
row_at-requires-8 c = asked (goal.at.row_at-requires-8 c).After-times-n (omega arith)

pub returns : goal.returns
returns c =
    schedule-by _
    (c.times-n.ensures.0 ∙ ap counts c.version.ensures)
    (c.from.ensures ∙ c.u16_at.ensures)
    (c.from-2.ensures ∙ c.u16_at-2.ensures)
    c.row_at.ensures
    c.row_at-2.ensures
    c.row_at-3.ensures
    c.row_at-4.ensures
    c.row_at-5.ensures
    c.row_at-6.ensures
    c.row_at-7.ensures
    c.row_at-8.ensures
