-- `top` gives the topmost parent and keeps those on its way: by their rules.
use Rattle.std.proofs.Common.{arith, ◌∙◌}
use Rattle.groups.specs.TableLaws.{top-root, top_up, kept-root, kept-known, kept_new}
use Rattle.groups.proofs.+top.Goals as goal

pub returns-then-up-eq0 : goal.returns-then-up-eq0
returns-then-up-eq0 t c =
    let p = c.parent-up in
    let b = c.args.book.now in
    (top-root b c.args.place p.result p.ensures.0 c.if-up-eq0.true, kept-root b c.args.tops.now c.args.place p.result p.ensures.0 c.if-up-eq0.true)

pub returns-then-known-gt0 : goal.returns-then-known-gt0
returns-then-known-gt0 t c =
    let p = c.parent-up in
    let b = c.args.book.now in
    let n = c.if-up-eq0.false in (
      c.requires.1.each p.result (omega (arith, p.ensures.1)) c.if-known-gt0.true ∙ top_up b c.args.place p.result p.ensures.0 n,
      kept-known b c.args.tops.now c.args.place p.result p.ensures.0 n (λ z. omega arith),
    )

pub returns : goal.returns
returns t c =
    let p = c.parent-up in
    let r = c.top-found in
    let b = c.args.book.now in
    let n = c.if-up-eq0.false in
    (r.ensures.0 ∙ top_up b c.args.place p.result p.ensures.0 n, rw (r.ensures.1, r.ensures.0) (kept_new b c.args.tops.now c.args.place p.result p.ensures.0 n (omega (arith, c.if-known-gt0.false))))
