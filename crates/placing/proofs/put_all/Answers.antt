use mathlib.Core.List.{List, [], ◌∷◌, ◌++◌}
use mathlib.Core.Path.{◌≡◌, refl, ap, ◌∙◌}
use Prim.Native.Nat.{ℕ, zero, suc, ◌+◌, ◌≤◌, ◌<◌}
use native.Mathlib.Omega.{arith}
use lib.ListN.{length, take, drop, get_or, set, length-set}
use lib.Seq.{take-length}
use Rattle.placing.proofs.put_all.Invariants.{Put}
use Rattle.placing.proofs.put_all.Goals as goal

one_more : (s d : List ℕ) (i : ℕ) → i < length s → i < length d → set (take i s ++ drop i d) i (get_or s i 0) ≡ take (suc i) s ++ drop (suc i) d
one_more [] d i h k = absurd (omega arith)
one_more (x ∷ xs) [] i h k = absurd (omega arith)
one_more (x ∷ xs) (y ∷ ys) zero h k = refl
one_more (x ∷ xs) (y ∷ ys) (suc i) h k = ap (λ (l : List ℕ). x ∷ l) (one_more xs ys i (omega arith) (omega arith))

put-starts : (s d : List ℕ) → Put s d d 0
put-starts s d = record { within = omega arith; size = refl; bytes = refl }

put_on : {s d₀ d : List ℕ} {i : ℕ} → Put s d₀ d i → i < length s → length s ≤ length d₀ → Put s d₀ (set d i (get_or s i 0)) (i + 1)
put_on {s} {d₀} {d} {i} p h l =
    let n : i + 1 ≡ suc i = omega arith in
    record {
      within = omega arith;
      size = length-set d i (get_or s i 0) ∙ p.size;
      bytes = rw (p.bytes, n) (one_more s d₀ i h (omega arith));
    }

put-ends : {s d₀ d : List ℕ} {i : ℕ} → Put s d₀ d i → length s ≤ i → d ≡ s ++ drop (length s) d₀
put-ends {s} {d₀} {d} {i} p h =
    let n : i ≡ length s = omega (arith, p.within) in
    p.bytes ∙ rw n (ap (λ (l : List ℕ). l ++ drop (length s) d₀) (take-length s))

pub loop-i-init : goal.loop-i-init
loop-i-init c = put-starts _ _

pub loop-i-preserved : goal.loop-i-preserved
loop-i-preserved c = put_on c.loop-i.invariant c.loop-i-test.true c.requires

pub returns : goal.returns
returns c = put-ends c.loop-i.invariant c.loop-i-test.false

pub bounds-d-i : goal.bounds-d-i
bounds-d-i c = omega (arith, c.loop-i.invariant.size)
