use mathlib.Core.List.{List}
use mathlib.Core.Path.{◌≡◌, refl, sym, ap, ◌∙◌}
use Prim.Native.Nat.{ℕ, ◌+◌, ◌*◌}
use native.Mathlib.Omega.{arith}
use lib.ListN.{get_or}
use lib.Seq.{take_all}
use borrow.Author.Rules.{rules}
use Rattle.wire.specs.Bytes.{placed}
use Rattle.wire.specs.Amounts.{amounts_bytes}
use Rattle.wire.proofs.Amounts.{amounts-none, amounts-placed}
use Rattle.asking.specs.Questions.{place_at, kind_at}
use Rattle.questions.specs.Tables.{answer_at, answers_at}
use Rattle.questions.proofs.Written.{counted-long, counted-at}
use Rattle.questions.proofs.put_answers.Goals as goal

pub loop-k-init : goal.loop-k-init
loop-k-init c =
    let a = c.args in
    (refl, λ q. amounts-none a.answers.now (answers_at q.order a.limits a.words.now a.rows.now a.cells.now a.questions.now a.n) 0 (omega arith))

pub answer-amount-requires : goal.answer-amount-requires
answer-amount-requires c =
    let p = c.requires in
    (rw c.u16_at-place.ensures (p.each c.loop-k.k (omega arith)), c.tiers-tiers.ensures)

pub loop-k-preserved : goal.loop-k-preserved
loop-k-preserved c =
    let a = c.args in
    let l = c.loop-k in
    let p : 0 + 8 * l.k ≡ 8 * l.k = omega arith in (
      search rules,
      λ q.
          let f : ℕ → ℕ = λ k. answer_at q.order a.limits a.words.now a.rows.now a.cells.now (place_at a.questions.now k) (kind_at a.questions.now k) in
          let xs = answers_at q.order a.limits a.words.now a.rows.now a.cells.now a.questions.now a.n in
          let long = counted-long f a.n in
          let e : c.answer-amount.result ≡ get_or xs l.k 0 =
          rw c.u16_at-place.ensures at (c.answer-amount.ensures q) ∙ sym (counted-at f a.n l.k (omega arith)) in
          amounts-placed a.answers.now xs 0 {i = l.k} (omega (arith, long)) (omega (arith, long)) (l.invariant.1 q) (rw (e, ← p) at c.put_u64.ensures),
    )

pub returns : goal.returns
returns c q =
    let a = c.args in
    let l = c.loop-k in
    let f : ℕ → ℕ = λ k. answer_at q.order a.limits a.words.now a.rows.now a.cells.now (place_at a.questions.now k) (kind_at a.questions.now k) in
    let xs = answers_at q.order a.limits a.words.now a.rows.now a.cells.now a.questions.now a.n in
    l.invariant.1 q ∙ ap (λ (ys : List ℕ). placed a.answers.now 0 (amounts_bytes ys)) (take_all l.k xs (omega (arith, counted-long f a.n)))
