-- `a3::part` meets its contract: five tiers, each up to its limit.
use mathlib.Core.Path.{◌≡◌}
use Prim.Native.Nat.{◌+◌, ◌*◌}
use native.Mathlib.Omega.{arith}
use Rattle.words.specs.Words.{sum_of}
use Rattle.rows.specs.Rows.{columns, a3_columns}
use Rattle.columns.specs.Column.{a3_column}
use Rattle.a3.specs.A3.{a3_part, a3_at}
use Rattle.a3.proofs.part.Goals as goal

pub overflow_add-result : goal.overflow_add-result
overflow_add-result c = let h = c.requires.2 in omega (arith, h 1, h 3, h 4, h 5, h 6)

pub overflow_add-result-2 : goal.overflow_add-result-2
overflow_add-result-2 c = let h = c.requires.2 in omega (arith, h 1, h 3, h 4, h 5, h 6)

pub overflow_add-result-3 : goal.overflow_add-result-3
overflow_add-result-3 c = let h = c.requires.2 in omega (arith, h 1, h 3, h 4, h 5, h 6)

pub overflow_add-result-4 : goal.overflow_add-result-4
overflow_add-result-4 c = let h = c.requires.2 in omega (arith, h 1, h 3, h 4, h 5, h 6)

pub returns : goal.returns
unfolding a3_part sum_of a3_at a3_column
returns c =
    let at = columns * c.args.k in
    let third : at + (a3_columns + 1) ≡ at + a3_columns + 1 = omega arith in
    let fourth : at + (a3_columns + 2) ≡ at + a3_columns + 2 = omega arith in
    let fifth : at + (a3_columns + 3) ≡ at + a3_columns + 3 = omega arith in
    let sixth : at + (a3_columns + 4) ≡ at + a3_columns + 4 = omega arith in
    rw (third, fourth, fifth, sixth) (omega arith)
