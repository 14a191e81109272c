use mathlib.Core.Bool.{Bool, true, false}
use mathlib.Core.Path.{◌≡◌, refl, ◌∙◌}
use mir.Val.{bool_byte}
use Rattle.std.specs.Prelude.{if◌then◌else◌}
use Prim.Native.Nat.{◌≤◌}
use native.Mathlib.Omega.{arith}
use Rattle.parties.proofs.Filling.{filling-start, filling_step, top-found, top_in}
use Rattle.parties.proofs.fill.Goals as goal

-- a test as a number
as-number : (t : Bool) → bool_byte t ≡ (if t then 1 else 0)
as-number true = refl
as-number false = refl

pub loop-place-init : goal.loop-place-init
loop-place-init c =
    let a = c.args in
    filling-start a.b.now a.c a.words.now a.terms.now a.rows.now a.heads.now

pub bounds-rows-top : goal.bounds-rows-top
bounds-rows-top c =
    let h : c.loop-place.place ≤ c.args.c = omega arith in
    rw (c.from-top.ensures ∙ top-found c.loop-place.invariant c.requires.0 c.requires.1 c.requires.2 h c.find_tops.ensures) (top_in c.loop-place.invariant c.requires.0 c.requires.1 c.requires.2 h)

pub loop-place-preserved : goal.loop-place-preserved
loop-place-preserved c =
    let h : c.loop-place.place ≤ c.args.c = omega arith in
    filling_step c.loop-place.invariant c.requires.0 c.requires.1 c.requires.2 h c.counterparty_at-who.ensures
    (c.from-top.ensures ∙ top-found c.loop-place.invariant c.requires.0 c.requires.1 c.requires.2 h c.find_tops.ensures)
    c.word_of.ensures c.terms_of.ensures c.pick.ensures (c.from-groups.ensures ∙ as-number _)
