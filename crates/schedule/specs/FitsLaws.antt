-- A schedule that refusals 1 to 4 let pass fits: schedule-length, rates-fit.
use Rattle.std.specs.Prelude.{true, List, [], ◌∷◌, ◌≡◌, ℕ, Ok}
use Rattle.std.proofs.Common.{◌∙◌}
use Rattle.std.proofs.Math.ListN.{length}
use borrow.Author.Tests.{leb-true, eqb-true}
use Rattle.words.specs.Words.{◌≤?◌, ◌=?◌}
use Rattle.words.specs.Choice.{each-true}
use Rattle.wire.specs.Bytes.{M}
use Rattle.limit.specs.declared.Row.{Row}
use Rattle.limit.specs.Bounds.{most_rate, RowFits}
use Rattle.refusal.specs.declared.Refusal.TheVariants.{ScheduleLength, ScheduleMark, ScheduleVersion, ScheduleRates}
use Rattle.refusal.specs.Chain.{refuse◌unless◌, ◌and_then◌}
use Rattle.refusal.specs.Laws.{then-first, then-rest, unless-fine}
use Rattle.schedule.specs.declared.Schedule.{Schedule}
use Rattle.schedule.specs.Schedule.{schedule_size, version, written_of, schedule_of}
use Rattle.schedule.specs.Check.{schedule_marked, known, most_written, row_fits, rates_fit, fields_check, schedule_check}
use Rattle.schedule.specs.CountLaws.{counted-fits}
use Rattle.schedule.specs.Fits.{RatesFit}

row_fits_lem : (r : Row) → row_fits most_rate r ≡ true → RowFits r
unfolding row_fits
row_fits_lem r e =
    let h = each-true (r.rate ≤? most_rate) ((r.second ≤? most_rate) ∷ (r.base_rate ≤? most_rate) ∷ (r.fixed ≤? M) ∷ []) e in
    record {
      rate = leb-true r.rate most_rate h.0;
      second = leb-true r.second most_rate h.1.0;
      base = leb-true r.base_rate most_rate h.1.1.0;
      fixed = leb-true r.fixed M h.1.1.1.0;
    }

-- a schedule that passes the test in ten-thousandths fits
pub tested-fits : (s : Schedule) → rates_fit most_rate s ≡ true → RatesFit s
unfolding rates_fit
tested-fits s e =
    let t = row_fits most_rate in
    let rows = t s.c ∷ t s.d ∷ t s.e ∷ t s.f ∷ t s.g ∷ t s.h ∷ t s.i ∷ t s.z ∷ [] in
    let w = each-true (s.first ≤? 100) ((s.second ≤? 100) ∷ rows) e in
    let r = w.1.1 in
    record {
      first = leb-true s.first 100 w.0;
      second = leb-true s.second 100 w.1.0;
      c = row_fits_lem s.c r.0;
      d = row_fits_lem s.d r.1.0;
      e = row_fits_lem s.e r.1.1.0;
      f = row_fits_lem s.f r.1.1.1.0;
      g = row_fits_lem s.g r.1.1.1.1.0;
      h = row_fits_lem s.h r.1.1.1.1.1.0;
      i = row_fits_lem s.i r.1.1.1.1.1.1.0;
      z = row_fits_lem s.z r.1.1.1.1.1.1.1.0;
    }

module _ (s : List ℕ) (e : schedule_check s ≡ Ok tt) where
  pub schedule-length : length s ≡ schedule_size
  unfolding schedule_check
  schedule-length =
      eqb-true (length s) schedule_size
      (unless-fine ScheduleLength (length s =? schedule_size) (then-first (refuse ScheduleLength unless length s =? schedule_size) (fields_check s) e))

  pub rates-fit : RatesFit (schedule_of s)
  unfolding schedule_check fields_check
  rates-fit =
      let fit = rates_fit (most_written (version s)) (written_of s) in
      let known' = refuse ScheduleVersion unless known (version s) in
      let rates = refuse ScheduleRates unless fit in
      let f = then-rest (refuse ScheduleLength unless length s =? schedule_size) (fields_check s) e in
      let v = then-rest (refuse ScheduleMark unless schedule_marked s) (known' and_then rates) f in
      tested-fits (schedule_of s) (counted-fits s ∙ unless-fine ScheduleRates fit (then-rest known' rates v))
