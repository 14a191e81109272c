-- `limits_of`: each figure by its callee's promise.
use mathlib.Core.Path.{◌≡◌, ◌∙◌}
use native.Mathlib.Omega.{arith}
use mir.Syntax.{w64}
use mir.Val.{to_z, of_z}
use mir.Facts.{to_z-of_z}
use Rattle.book.specs.Records.{base}
use Rattle.book.specs.HeaderLaws.{header-amounts}
use Rattle.fund.proofs.Limits.{long, taken, rates, base-le, vaf-most, stressed-most, unrounded-are, limits-are, a3-limit-is}
use Rattle.fund.proofs.limits_of.Goals as goal
use Rattle.fund.proofs.limits_of.Goals.{After-struct_told-1}

pub schedule_at-s-requires : goal.schedule_at-s-requires
schedule_at-s-requires c =
    long c.requires.0

pub vaf-vaf-requires : goal.vaf-vaf-requires
vaf-vaf-requires c =
    (taken c.requires.0, c.requires.2)

pub stressed_vaf-stressed_vaf-requires : goal.stressed_vaf-stressed_vaf-requires
stressed_vaf-stressed_vaf-requires c =
    (taken c.requires.0, c.requires.2)

pub header_at-h-requires : goal.header_at-h-requires
header_at-h-requires c =
    let a = taken c.requires.0 in omega (arith, a.size)

-- the base that was read is the book's
based : (c : After-struct_told-1) → to_z w64 (of_z w64 c.header_at-h.result.base) ≡ base c.args.book.now
based c =
    to_z-of_z {w = w64} {z = c.header_at-h.result.base} (record { sfits = c.struct_told-1.given.1.1.1.1.0.1 })
    ∙ (header-amounts c.args.book.now c.header_at-h.ensures).1

pub unrounded_limits-unrounded-requires : goal.unrounded_limits-unrounded-requires
unrounded_limits-unrounded-requires c =
    record {
      rates_fit = rates c.requires.0 c.schedule_at-s.ensures;
      vaf_bound = (vaf-most c.requires.0 c.vaf-vaf.ensures, stressed-most c.requires.0 c.requires.1 c.stressed_vaf-stressed_vaf.ensures, base-le c.requires.0 (based c));
    }

pub a3_limit-requires : goal.a3_limit-requires
a3_limit-requires c =
    record {
      rates_fit = rates c.requires.0 c.schedule_at-s.ensures;
      stressed_bound = (stressed-most c.requires.0 c.requires.1 c.stressed_vaf-stressed_vaf.ensures, base-le c.requires.0 (based (goal.at.a3_limit-requires c).After-struct_told-1));
    }

pub returns : goal.returns
returns c =
    let es = c.schedule_at-s.ensures in
    let ev = c.vaf-vaf.ensures in
    let ev' = c.stressed_vaf-stressed_vaf.ensures in
    let ez = based (goal.at.returns c).After-struct_told-1 in
    let S = c.args.schedule.now in
    let B = c.args.book.now in
    let eu = c.unrounded_limits-unrounded.ensures ∙ unrounded-are S B es ev ev' ez c.requires.3 in
    record {
      vaf = ev;
      stressed = ev';
      unrounded = eu;
      limits = limits-are S B eu c.in_cents.ensures;
      a3 = c.a3_limit.ensures.0 ∙ a3-limit-is S B es ev' ez;
    }
