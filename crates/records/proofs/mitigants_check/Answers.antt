-- `mitigants_check`: what the search over the places found.
use Prim.Native.Nat.{◌+◌, ◌≤◌}
use native.Mathlib.Omega.{arith}
use borrow.Author.Tests.{tests}
use Rattle.std.proofs.Common.{refl, ap, rules}
use Rattle.refusal.specs.declared.Refusal.TheVariants.{Mitigant}
use Rattle.refusal.specs.Search.{searched}
use Rattle.book.specs.Records.{C, mitigant_at}
use Rattle.book.specs.Check.{good_mitigant, mitigants_check}
use Rattle.records.proofs.mitigants_check.Goals as goal

pub overflow_cast-result : goal.overflow_cast-result
overflow_cast-result c =
    let found = searched Mitigant (λ p. good_mitigant (C c.args.b.now) (mitigant_at c.args.b.now p)) _ _ _ _ c.find.result c.find.ensures.ran (λ x q k. search (rules, tests)) (λ x q k. search (rules, tests)) refl (ap (λ k. k + 1) c.requires.2) in
    let m : c.in-Some.place ≤ _ = (rw c.in-Some.is at found).0 in
    omega arith

pub returns-in-Some : goal.returns-in-Some
unfolding mitigants_check
returns-in-Some c =
    let found = searched Mitigant (λ p. good_mitigant (C c.args.b.now) (mitigant_at c.args.b.now p)) _ _ _ _ c.find.result c.find.ensures.ran (λ x q k. search (rules, tests)) (λ x q k. search (rules, tests)) refl (ap (λ k. k + 1) c.requires.2) in
    (rw c.in-Some.is at found).1

pub returns-in-None : goal.returns-in-None
unfolding mitigants_check
returns-in-None c =
    let found = searched Mitigant (λ p. good_mitigant (C c.args.b.now) (mitigant_at c.args.b.now p)) _ _ _ _ c.find.result c.find.ensures.ran (λ x q k. search (rules, tests)) (λ x q k. search (rules, tests)) refl (ap (λ k. k + 1) c.requires.2) in
    rw c.in-None.is at found
