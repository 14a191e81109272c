-- What refusals 1 to 4 leave: a schedule, in ten-thousandths, whose rows and percents fit, RatesFit.
use Rattle.std.specs.Prelude.{◌≤◌}
use Rattle.limit.specs.Bounds.{RowFits}
use Rattle.schedule.specs.declared.Schedule.{Schedule}

-- refusal 4 is "a rate over 1,500, percent over 100 or fixed amount over M", and "reads 15,000 for version 2" (C-15); a version 1 rate counts ten times
pub record RatesFit (s : Schedule) : Type 0 where
  pub first : s.first ≤ 100
  pub second : s.second ≤ 100
  pub c : RowFits s.c
  pub d : RowFits s.d
  pub e : RowFits s.e
  pub f : RowFits s.f
  pub g : RowFits s.g
  pub h : RowFits s.h
  pub i : RowFits s.i
  pub z : RowFits s.z
