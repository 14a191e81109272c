-- `questions::answer` meets its contract: the column of the kind, its tier, the row of the group, and what `room` promises of them.
use mathlib.Core.Path.{◌≡◌, ap, ◌∙◌}
use Prim.Native.Nat.{ℕ}
use lib.ListN.{get_or}
use Rattle.columns.specs.Column.{tier_in}
use Rattle.questions.specs.Tables.{start_at, asked_column, answer_at}
use Rattle.questions.proofs.answer.Goals as goal
use Rattle.questions.proofs.answer.Goals.{After-of_kind-column, After-from-row}

-- the tier that the kind's column is part of
tier-is :
    (c : After-of_kind-column)
    → let a = c.args in
    get_or a.tiers.now c.of_kind-column.result 0 ≡ tier_in (asked_column a.words.now a.place a.kind)
tier-is c =
    let column : c.of_kind-column.result ≡ asked_column c.args.words.now c.args.place c.args.kind = rw (c.from-who.ensures, c.from-wanted.ensures) at c.of_kind-column.ensures.0 in
    rw column (c.requires.1.each _ c.requires.0.column)

-- where the row of the group starts
row-is : (c : After-from-row) → c.from-row.result ≡ start_at c.args.rows.now c.args.place
row-is c = c.from-row.ensures ∙ ap (λ (i : ℕ). get_or c.args.rows.now i 0) c.from-who.ensures

pub room-requires : goal.room-requires
room-requires c =
    let p = c.requires.0 in
    let row = row-is (goal.at.room-requires c).After-from-row in
    (p.ranks, rw row p.row, rw row p.amounts)

pub returns : goal.returns
unfolding answer_at
returns c q =
    let row = row-is (goal.at.returns c).After-from-row in
    let tier : c.from-tier.result ≡ tier_in (asked_column c.args.words.now c.args.place c.args.kind) = c.from-tier.ensures ∙ tier-is (goal.at.returns c).After-of_kind-column in
    rw (row, tier) at (c.room.ensures q)
