-- `class_of`: the sum of `class_of`, below 80.
use mathlib.Core.Bool.{Bool, true, false}
use mathlib.Core.Path.{◌≡◌}
use Prim.Native.Nat.{ℕ, ◌+◌, ◌*◌}
use native.Mathlib.Omega.{arith}
use Rattle.std.specs.Prelude.{if◌then◌else◌}
use Rattle.std.specs.Int.{from_bool}
use Rattle.columns.specs.Column.{class_of}
use Rattle.columns.specs.ClassLaws.{class-le}
use Rattle.columns.proofs.class_of.Goals as goal

-- so many times a test that is counted
times-test : (n r : ℕ) (t u : Bool) → r ≡ from_bool t → t ≡ u → n * r ≡ (if u then n else 0)
times-test n r t true e f = let z : r ≡ 1 = rw f at e in rw z (omega arith)
times-test n r t false e f = let z : r ≡ 0 = rw f at e in rw z (omega arith)

pub returns : goal.returns
unfolding class_of
returns c =
    let who = c.args.who in
    let g = times-test 8 _ _ _ c.from-graded.ensures c.is_graded.ensures in
    let a = times-test 4 _ _ _ c.from-approved.ensures c.is_approved.ensures in
    let f = times-test 2 _ _ _ c.from-affiliate.ensures c.is_affiliate.ensures in
    let r = times-test 1 _ _ _ c.from-related.ensures c.is_related.ensures in
    let e : 16 * c.from-kind.result + 8 * c.from-graded.result + 4 * c.from-approved.result + 2 * c.from-affiliate.result + c.from-related.result ≡ class_of who = omega arith in
    (e, rw e (class-le who c.requires))
