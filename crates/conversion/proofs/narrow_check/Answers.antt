-- `narrow_check`: what the search over the assets found.
use Prim.Native.Nat.{◌+◌, ◌≤◌}
use native.Mathlib.Omega.{arith}
use borrow.Author.Tests.{tests}
use Rattle.std.proofs.Common.{refl, ap, rules}
use Rattle.std.proofs.iter.Serving.{serving}
use Rattle.words.specs.Words.{◌≤?◌}
use Rattle.refusal.specs.declared.Refusal.TheVariants.{ManyMitigants}
use Rattle.refusal.specs.Search.{searched}
use Rattle.book.specs.Records.{asset_at}
use Rattle.book.specs.HeaderLaws.{header-counts}
use Rattle.conversion.specs.Conversion.{narrow_check}
use Rattle.conversion.proofs.narrow_check.Goals as goal

pub find-requires-clause-callable : goal.find-requires-clause-callable
find-requires-clause-callable c =
    let e = (header-counts _ c.header_at-h.ensures).1 in
    let a = c.requires.assets in
    let s = c.requires.size in
    grind (arith, serving, e, a, s)

pub overflow_cast-result : goal.overflow_cast-result
overflow_cast-result c =
    let found = searched ManyMitigants (λ p. (asset_at c.args.b.now p).count ≤? 255) _ _ _ _ c.find.result c.find.ensures.ran (λ x q k. search (rules, tests)) (λ x q k. search (rules, tests)) refl (ap (λ k. k + 1) (header-counts _ c.header_at-h.ensures).1) in
    let m : c.in-Some.place ≤ _ = (rw c.in-Some.is at found).0 in
    omega (arith, c.requires.assets)

pub returns-in-Some : goal.returns-in-Some
unfolding narrow_check
returns-in-Some c =
    let found = searched ManyMitigants (λ p. (asset_at c.args.b.now p).count ≤? 255) _ _ _ _ c.find.result c.find.ensures.ran (λ x q k. search (rules, tests)) (λ x q k. search (rules, tests)) refl (ap (λ k. k + 1) (header-counts _ c.header_at-h.ensures).1) in
    (rw c.in-Some.is at found).1

pub returns-in-None : goal.returns-in-None
unfolding narrow_check
returns-in-None c =
    let found = searched ManyMitigants (λ p. (asset_at c.args.b.now p).count ≤? 255) _ _ _ _ c.find.result c.find.ensures.ran (λ x q k. search (rules, tests)) (λ x q k. search (rules, tests)) refl (ap (λ k. k + 1) (header-counts _ c.header_at-h.ensures).1) in
    rw c.in-None.is at found
