-- `put`: the book's bytes and another byte 4 are the converted book.
use mathlib.Core.List.{List, ◌++◌}
use mathlib.Core.Path.{sym, ap, ◌∙◌}
use native.Mathlib.Omega.{arith}
use Prim.Native.Nat.{ℕ}
use lib.ListN.{length, set, drop}
use lib.Seq.{set-append_left}
use Rattle.conversion.proofs.Converted.{converted-is}
use Rattle.conversion.proofs.put.Goals as goal

pub returns : goal.returns
returns c =
    let old = c.args.b.now in
    ap (λ (l : List ℕ). set l 4 2) c.put_all.ensures
    ∙ set-append_left old (drop (length old) c.args.d.now) 4 2 (omega (arith, c.requires.0.long))
    ∙ ap (λ (l : List ℕ). l ++ drop (length old) c.args.d.now) (sym (converted-is old c.requires.0))
