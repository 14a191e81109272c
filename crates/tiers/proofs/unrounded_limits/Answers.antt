-- `tiers::unrounded_limits` meets its contract, by the limit formula's promise alone.
use mathlib.Core.List.{◌∷◌}
use mathlib.Core.Path.{refl, ap, ap₂, ◌∙◌}
use native.Mathlib.Omega.{arith}
use lib.IntN.{ℤ}
use mir.Syntax.{w64}
use mir.Facts.{to_z-of_z}
use Rattle.schedule.specs.Tiers.{unrounded_limits, unrounded_in}
use Rattle.schedule.specs.TierLaws.{alone-fits}
use Rattle.tiers.proofs.Asked.{asked}
use Rattle.tiers.proofs.unrounded_limits.Goals as goal

pub unrounded-requires : goal.unrounded-requires
unrounded-requires c =
    let a = asked c.ranges.base c.requires.rates_fit.i (omega arith) (omega arith) c.requires.vaf_bound.2 in record { row_fits = a.0; percent_bound = a.1 }

pub unrounded-requires-2 : goal.unrounded-requires-2
unrounded-requires-2 c =
    let a = asked c.ranges.base c.requires.rates_fit.i (omega arith) (omega arith) c.requires.vaf_bound.2 in record { row_fits = a.0; percent_bound = a.1 }

pub unrounded-requires-3 : goal.unrounded-requires-3
unrounded-requires-3 c =
    let a = asked c.ranges.base c.requires.rates_fit.h (omega arith) (omega arith) c.requires.vaf_bound.2 in record { row_fits = a.0; percent_bound = a.1 }

pub unrounded-requires-4 : goal.unrounded-requires-4
unrounded-requires-4 c =
    let a = asked c.ranges.base c.requires.rates_fit.h (omega arith) (omega arith) c.requires.vaf_bound.2 in record { row_fits = a.0; percent_bound = a.1 }

pub unrounded-requires-5 : goal.unrounded-requires-5
unrounded-requires-5 c =
    let a = asked c.ranges.base c.requires.rates_fit.g (omega arith) (omega arith) c.requires.vaf_bound.2 in record { row_fits = a.0; percent_bound = a.1 }

pub unrounded-requires-6 : goal.unrounded-requires-6
unrounded-requires-6 c =
    let a = asked c.ranges.base c.requires.rates_fit.g (omega arith) (omega arith) c.requires.vaf_bound.2 in record { row_fits = a.0; percent_bound = a.1 }

pub unrounded-requires-7 : goal.unrounded-requires-7
unrounded-requires-7 c =
    let a = asked c.ranges.base c.requires.rates_fit.g (omega arith) (omega arith) c.requires.vaf_bound.2 in record { row_fits = a.0; percent_bound = a.1 }

pub unrounded-requires-8 : goal.unrounded-requires-8
unrounded-requires-8 c =
    let a = asked c.ranges.base c.requires.rates_fit.e (omega arith) (omega arith) c.requires.vaf_bound.2 in record { row_fits = a.0; percent_bound = a.1 }

pub unrounded-requires-9 : goal.unrounded-requires-9
unrounded-requires-9 c =
    let a = asked c.ranges.base c.requires.rates_fit.e (omega arith) (omega arith) c.requires.vaf_bound.2 in record { row_fits = a.0; percent_bound = a.1 }

pub unrounded-requires-10 : goal.unrounded-requires-10
unrounded-requires-10 c =
    let a = asked c.ranges.base c.requires.rates_fit.e (omega arith) (omega arith) c.requires.vaf_bound.2 in record { row_fits = a.0; percent_bound = a.1 }

pub unrounded-requires-11 : goal.unrounded-requires-11
unrounded-requires-11 c =
    let a = asked c.ranges.base c.requires.rates_fit.f (omega arith) (omega arith) c.requires.vaf_bound.2 in record { row_fits = a.0; percent_bound = a.1 }

pub unrounded-requires-12 : goal.unrounded-requires-12
unrounded-requires-12 c =
    let a = asked c.ranges.base c.requires.rates_fit.c (omega arith) (omega arith) c.requires.vaf_bound.2 in record { row_fits = a.0; percent_bound = a.1 }

pub unrounded-requires-13 : goal.unrounded-requires-13
unrounded-requires-13 c =
    let a = asked c.ranges.base c.requires.rates_fit.d (omega arith) (omega arith) c.requires.vaf_bound.2 in record { row_fits = a.0; percent_bound = a.1 }

pub unrounded-requires-14 : goal.unrounded-requires-14
unrounded-requires-14 c =
    let a = asked c.ranges.base (alone-fits (omega arith)) (omega arith) (omega arith) c.requires.vaf_bound.2 in record { row_fits = a.0; percent_bound = a.1 }

pub unrounded-requires-15 : goal.unrounded-requires-15
unrounded-requires-15 c =
    let a = asked c.ranges.base (alone-fits (omega arith)) (omega arith) (omega arith) c.requires.vaf_bound.2 in record { row_fits = a.0; percent_bound = a.1 }

pub unrounded-requires-16 : goal.unrounded-requires-16
unrounded-requires-16 c =
    let a = asked c.ranges.base (alone-fits (omega arith)) (omega arith) (omega arith) c.requires.vaf_bound.2 in record { row_fits = a.0; percent_bound = a.1 }

pub returns : goal.returns
unfolding unrounded_in
returns c =
    let a = c.args in
    (ap₂ ◌∷◌ c.unrounded.ensures.0
    (ap₂ ◌∷◌ c.unrounded-2.ensures.0
    (ap₂ ◌∷◌ c.unrounded-3.ensures.0
    (ap₂ ◌∷◌ c.unrounded-4.ensures.0
    (ap₂ ◌∷◌ c.unrounded-5.ensures.0
    (ap₂ ◌∷◌ c.unrounded-6.ensures.0
    (ap₂ ◌∷◌ c.unrounded-7.ensures.0
    (ap₂ ◌∷◌ c.unrounded-8.ensures.0
    (ap₂ ◌∷◌ c.unrounded-9.ensures.0
    (ap₂ ◌∷◌ c.unrounded-10.ensures.0
    (ap₂ ◌∷◌ c.unrounded-11.ensures.0
    (ap₂ ◌∷◌ c.unrounded-12.ensures.0
    (ap₂ ◌∷◌ c.unrounded-13.ensures.0
    (ap₂ ◌∷◌ c.unrounded-14.ensures.0
    (ap₂ ◌∷◌ c.unrounded-15.ensures.0
    (ap₂ ◌∷◌ c.unrounded-16.ensures.0 refl))))))))))))))))
    ∙ ap (λ (b : ℤ). unrounded_limits a.s a.vaf a.stressed b a.w) (to_z-of_z {w = w64} c.ranges.base)
