-- `cells::fold_row` meets its contract: six columns added onto their tiers', one after the other.
use native.Mathlib.Omega.{arith}
use mathlib.Core.Path.{refl}
use Prim.Native.Nat.{◌+◌}
use Rattle.rows.specs.Rows.{bill_column, a3_columns}
use Rattle.columns.specs.Column.{a3_column, column_by}
use Rattle.cells.specs.Cells.{apart, folded, cells_from}
use Rattle.cells.proofs.Folding.{onto, Row, row-start, row_fits, row_step, folded-row}
use Rattle.cells.proofs.fold_row.Goals as goal
use Rattle.cells.proofs.fold_row.Goals.{After-add, After-add-2, After-add-3, After-add-4, After-add-5, After-add-6}

row1 : (c : After-add) → Row c.args.at c.args.cells.now c.add.new.cells (onto 11 bill_column (cells_from c.args.cells.now c.args.at))
row1 c = row_step (row-start c.args.at c.args.cells.now) c.requires.0 11 bill_column (omega arith) (omega arith) refl refl c.add.ensures

row2 : (c : After-add-2) → Row c.args.at c.args.cells.now c.add-2.new.cells (onto 1 a3_columns (onto 11 bill_column (cells_from c.args.cells.now c.args.at)))
row2 c = row_step (row1 c.before.before.before.before) c.requires.0 1 a3_columns (omega arith) (omega arith) refl refl c.add-2.ensures

row3 : (c : After-add-3) → Row c.args.at c.args.cells.now c.add-3.new.cells (onto 3 (a3_columns + 1) (onto 1 a3_columns (onto 11 bill_column (cells_from c.args.cells.now c.args.at))))
row3 c = row_step (row2 c.before.before.before.before) c.requires.0 3 (a3_columns + 1) (omega arith) (omega arith) refl (omega arith) c.add-3.ensures

row4 : (c : After-add-4) → Row c.args.at c.args.cells.now c.add-4.new.cells (onto 4 (a3_columns + 2) (onto 3 (a3_columns + 1) (onto 1 a3_columns (onto 11 bill_column (cells_from c.args.cells.now c.args.at)))))
row4 c = row_step (row3 c.before.before.before.before) c.requires.0 4 (a3_columns + 2) (omega arith) (omega arith) refl (omega arith) c.add-4.ensures

row5 : (c : After-add-5) → Row c.args.at c.args.cells.now c.add-5.new.cells (onto 5 (a3_columns + 3) (onto 4 (a3_columns + 2) (onto 3 (a3_columns + 1) (onto 1 a3_columns (onto 11 bill_column (cells_from c.args.cells.now c.args.at))))))
row5 c = row_step (row4 c.before.before.before.before) c.requires.0 5 (a3_columns + 3) (omega arith) (omega arith) refl (omega arith) c.add-5.ensures

row6 : (c : After-add-6) → Row c.args.at c.args.cells.now c.add-6.new.cells (onto 6 (a3_columns + 4) (onto 5 (a3_columns + 3) (onto 4 (a3_columns + 2) (onto 3 (a3_columns + 1) (onto 1 a3_columns (onto 11 bill_column (cells_from c.args.cells.now c.args.at)))))))
row6 c = row_step (row5 c.before.before.before.before) c.requires.0 6 (a3_columns + 4) (omega arith) (omega arith) refl (omega arith) c.add-6.ensures

pub add-requires : goal.add-requires
unfolding folded apart column_by a3_column
add-requires c = row_fits (row-start c.args.at c.args.cells.now) c.requires.0 11 bill_column (omega arith) (omega arith) refl refl (c.requires.1 11 (omega arith))

pub add-requires-2 : goal.add-requires-2
unfolding folded apart column_by a3_column
add-requires-2 c = row_fits (row1 (goal.at.add-requires-2 c).After-add) c.requires.0 1 a3_columns (omega arith) (omega arith) refl refl (c.requires.1 1 (omega arith))

pub add-requires-3 : goal.add-requires-3
unfolding folded apart column_by a3_column
add-requires-3 c = row_fits (row2 (goal.at.add-requires-3 c).After-add-2) c.requires.0 3 (a3_columns + 1) (omega arith) (omega arith) refl (omega arith) (c.requires.1 3 (omega arith))

pub add-requires-4 : goal.add-requires-4
unfolding folded apart column_by a3_column
add-requires-4 c = row_fits (row3 (goal.at.add-requires-4 c).After-add-3) c.requires.0 4 (a3_columns + 2) (omega arith) (omega arith) refl (omega arith) (c.requires.1 4 (omega arith))

pub add-requires-5 : goal.add-requires-5
unfolding folded apart column_by a3_column
add-requires-5 c = row_fits (row4 (goal.at.add-requires-5 c).After-add-4) c.requires.0 5 (a3_columns + 3) (omega arith) (omega arith) refl (omega arith) (c.requires.1 5 (omega arith))

pub add-requires-6 : goal.add-requires-6
unfolding folded apart column_by a3_column
add-requires-6 c = row_fits (row5 (goal.at.add-requires-6 c).After-add-5) c.requires.0 6 (a3_columns + 4) (omega arith) (omega arith) refl (omega arith) (c.requires.1 6 (omega arith))

pub returns : goal.returns
returns c = folded-row (row6 (goal.at.returns c).After-add-6)
