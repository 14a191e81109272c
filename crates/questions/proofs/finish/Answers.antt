-- `questions::finish`: refused by 20 or 21, or the answers that were written are those of the definitions.
use mathlib.Core.Bool.{true}
use mathlib.Core.Path.{◌≡◌, sym, ap, ◌∙◌}
use Prim.Native.Nat.{ℕ}
use native.Mathlib.Omega.{arith}
use Rattle.words.specs.Choice.{not-true, not-false}
use Rattle.wire.specs.Bytes.{placed}
use Rattle.book.specs.Records.{C}
use Rattle.book.specs.HeaderLaws.{header-counts}
use Rattle.fund.proofs.Limits.{taken}
use Rattle.asking.specs.Questions.{place_at, kind_at, good_list}
use Rattle.asking.proofs.Listed.{in-range, listed}
use Rattle.questions.proofs.Answering.{ranked-by, answerable}
use Rattle.questions.proofs.Chain.{bad-list, short}
use Rattle.questions.proofs.Written.{answers-are, asked-for}
use Rattle.questions.proofs.finish.Lts.View as view
use Rattle.questions.proofs.finish.Reads as reads
use Rattle.questions.proofs.finish.Tie as tie
use Rattle.questions.proofs.finish.Goals as goal
use Rattle.questions.proofs.finish.Goals.{After-good_list, Else-not-good_list}

abbrev after-good_list-of-Else-not-good_list : Else-not-good_list → After-good_list
after-good_list-of-Else-not-good_list c = view.up-After-good_list tie.the-claims reads.Pre reads.Post c.before.before

-- what `good_list` found, of the book's counterparties
list-is :
    (c : After-good_list)
    → let a = c.args in
    c.good_list.result ≡ good_list (C a.book.now) a.questions.now
list-is c =
    let a = c.args in
    c.good_list.ensures ∙ ap (λ (n : ℕ). good_list n a.questions.now) (header-counts a.book.now c.header_at-h.ensures).0

list-good :
    (c : Else-not-good_list)
    → let a = c.args in
    good_list (C a.book.now) a.questions.now ≡ true
list-good c = sym (list-is (after-good_list-of-Else-not-good_list c)) ∙ not-false _ c.if-not-good_list.false-raw

pub header_at-h-requires : goal.header_at-h-requires
header_at-h-requires c = let a = taken c.requires.0.passed in omega (arith, a.size)

pub returns-then-not-good_list : goal.returns-then-not-good_list
returns-then-not-good_list c =
    bad-list c.args.schedule.now c.args.book.now c.args.questions.now c.requires.0.passed c.requires.0.checked c.args.answers.now (sym (list-is (goal.at.returns-then-not-good_list c).After-good_list) ∙ not-true _ c.if-not-good_list.true-raw)

pub overflow_mul-size : goal.overflow_mul-size
overflow_mul-size c = record { fits = omega (arith, (listed _ _ (list-good c)).few) }

pub returns-then-answers-size : goal.returns-then-answers-size
returns-then-answers-size c =
    short c.args.schedule.now c.args.book.now c.args.questions.now c.requires.0.passed c.requires.0.checked c.args.answers.now (list-good (goal.at.returns-then-answers-size c).Else-not-good_list) c.if-answers-size.true

pub put_answers-requires : goal.put_answers-requires
put_answers-requires c =
    let p = c.requires in
    let b = c.args.book.now in
    let q = c.args.questions.now in
    let l = listed (C b) q (list-good (goal.at.put_answers-requires c).Else-not-good_list) in
    record {
      few = l.few;
      asked-size = omega (arith, l.whole);
      answers-size = c.if-answers-size.false;
      each = λ k h. answerable (taken p.0.passed) p.0.count p.1 p.2 p.0.exposed (in-range (C b) (place_at q k) (kind_at q k) (l.good k h));
    }

pub returns : goal.returns
returns c =
    let p = c.requires in
    let schedule = c.args.schedule.now in
    let b = c.args.book.now in
    let q = c.args.questions.now in
    let e = list-good (goal.at.returns c).Else-not-good_list in
    let put = c.put_answers.ensures (ranked-by p.1) ∙ ap (placed c.args.answers.now 0) (answers-are schedule b q (taken p.0.passed) p.0.count p.1 p.2 p.0.exposed (listed (C b) q e)) in
    asked-for schedule b q p.0.passed p.0.checked e c.if-answers-size.false put
