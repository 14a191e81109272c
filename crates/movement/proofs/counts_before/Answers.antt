use mathlib.Core.List.{List}
use mathlib.Core.Path.{◌≡◌, refl, sym, ap, ap₂, ◌∙◌}
use Prim.Native.Nat.{ℕ, suc, ◌+◌, ◌-◌, ◌<◌}
use native.Mathlib.Omega.{arith}
use Rattle.words.specs.Words.{sum}
use Rattle.book.specs.declared.Asset.{Asset}
use Rattle.book.specs.Records.{asset_at}
use Rattle.movement.specs.Movement.{counts_before}
use Rattle.movement.proofs.counts_before.Goals as goal

-- one place more
one_more : (b : List ℕ) (next s v : ℕ) → 0 < next → s ≡ counts_before b next → v ≡ (asset_at b next).count → s + v ≡ counts_before b (next + 1)
unfolding sum
one_more b next s v l e q = by (next - 1) (omega arith)
  where
    by : (n : ℕ) → next ≡ suc n → s + v ≡ counts_before b (next + 1)
    by n d =
        let m : next - 1 ≡ n = omega arith in
        let o : next + 1 - 1 ≡ suc n = omega arith in
        let p : 1 + n ≡ next = omega arith in
        ap₂ (λ (x y : ℕ). x + y) (e ∙ ap (sum (λ k. (asset_at b (1 + k)).count)) m) (q ∙ ap (λ (i : ℕ). (asset_at b i).count) (sym p))
        ∙ sym (ap (sum (λ k. (asset_at b (1 + k)).count)) o)

pub loop-before-init : goal.loop-before-init
unfolding sum
loop-before-init c = (refl, omega arith)

pub loop-before-preserved : goal.loop-before-preserved
loop-before-preserved c =
    let l = c.loop-before in
    let a = ap (λ (x : Asset). x.count) c.asset_at.ensures in
    (one_more c.args.b.now l.before l.sum _ (omega arith) l.invariant.0 (c.from-sum.ensures ∙ a), omega (arith, l.invariant, c.asset_at.type_inv, c.from-sum.ensures))
