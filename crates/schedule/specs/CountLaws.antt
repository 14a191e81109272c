-- What C-15 keeps.
--   counted-fits         refusal 4 reads rates as they are written, and so as they count
--   tenfold-limits       unrounded limits of ten times the rates are ten times as many parts
--   by-version           the rates that count, by the version
--   stays stays-a3       the limits of a version 1 schedule are those that its rates give in per mille; its tiers rank alike too (proofs/RankLaws)
--   Tenfold              a version 1 schedule, and a version 2 schedule with ten times its rates
--   tenfold-counts tenfold-check   they count alike, and refusals 1 to 4 find the same of both
use Rattle.std.specs.Prelude.{Bool, true, false, ◌≡◌, ℕ, ◌*◌, ℤ, length, if◌then◌else◌}
use mathlib.Core.List.{List, [], ◌∷◌, map}
use Rattle.std.proofs.Math.Path.{refl, ap, ap₂}
use Rattle.std.proofs.Common.{sym, ◌∙◌, one-mul, arith, leb-true, leb-false, le-leb}
use Rattle.std.proofs.lemmas.Bool.{lt-leb}
use Rattle.words.specs.Words.{◌≤?◌, ◌=?◌}
use Rattle.limit.specs.declared.Row.{Row}
use Rattle.limit.specs.Limit.{per_mille, ten_thousandths, times_row, cents_of}
use Rattle.limit.specs.Bounds.{most_rate}
use Rattle.limit.proofs.ScaleLaws.{tenfold-unrounded, per-mille}
use Rattle.schedule.specs.declared.Schedule.{Schedule}
use Rattle.schedule.specs.Schedule.{version, counts, times_all, written_of, schedule_of}
use Rattle.schedule.specs.Check.{schedule_marked, most_written, row_fits, rates_fit, fields_check, schedule_check}
use Rattle.schedule.specs.Tiers.{rate_alone, unrounded_in, unrounded_limits, limits, limits_in, a3_limit_of, a3_limit_in}

-- ten times a rate is at most 15,000 where the rate is at most 1,500
tenfold-le : (x : ℕ) (t : Bool) → (x ≤? 1500) ≡ t → (10 * x ≤? most_rate) ≡ t
tenfold-le x true e = le-leb (10 * x) most_rate (omega (arith, leb-true x 1500 e))
tenfold-le x false e = lt-leb (10 * x) most_rate (omega (arith, leb-false x 1500 e))

-- by whether the version is the first
counted-le : (first : Bool) (x : ℕ) → ((if first then 10 else 1) * x ≤? most_rate) ≡ (x ≤? (if first then 1500 else most_rate))
counted-le true x = tenfold-le x (x ≤? 1500) refl
counted-le false x = ap (λ (n : ℕ). n ≤? most_rate) (one-mul x)

counted-row : (v : ℕ) (r : Row) → row_fits most_rate (times_row (counts v) r) ≡ row_fits (most_written v) r
unfolding row_fits
counted-row v r = rw (counted-le (v =? 1) r.rate, counted-le (v =? 1) r.second, counted-le (v =? 1) r.base_rate)

pub counted-fits : (s : List ℕ) → rates_fit most_rate (schedule_of s) ≡ rates_fit (most_written (version s)) (written_of s)
unfolding rates_fit schedule_of
counted-fits s =
    let row = counted-row (version s) in
    let S = written_of s in
    rw (row S.c, row S.d, row S.e, row S.f, row S.g, row S.h, row S.i, row S.z)

-- unrounded, in per mille and in ten-thousandths
module _ (S : Schedule) (vaf vaf' : ℕ) (base : ℤ) (w : ℕ) where
  abbrev mille : List ℕ
  mille = unrounded_in per_mille S vaf vaf' base w

  pub tenfold-limits : unrounded_limits (times_all 10 S) vaf vaf' base w ≡ map (λ n. 10 * n) mille
  unfolding unrounded_in
  tenfold-limits =
      rw (
        tenfold-unrounded S.i 100 vaf base 0,
        tenfold-unrounded S.i 100 vaf' base 0,
        tenfold-unrounded S.h 100 vaf base 0,
        tenfold-unrounded S.h 100 vaf' base 0,
        tenfold-unrounded S.g S.second vaf' base 0,
        tenfold-unrounded S.g S.first vaf' base 0,
        tenfold-unrounded S.g 100 vaf' base 0,
        tenfold-unrounded S.e S.second vaf' base 0,
        tenfold-unrounded S.e S.first vaf' base 0,
        tenfold-unrounded S.e 100 vaf' base 0,
        tenfold-unrounded S.f 100 vaf base 0,
        tenfold-unrounded S.c 100 vaf base 0,
        tenfold-unrounded S.d 100 vaf base w,
        tenfold-unrounded (rate_alone 500) 100 vaf' base 0,
        tenfold-unrounded (rate_alone 330) 100 vaf' base 0,
        tenfold-unrounded (rate_alone 170) 100 vaf' base 0,
      )

  per-mille-limits : limits (times_all 10 S) vaf vaf' base w ≡ limits_in per_mille S vaf vaf' base w
  unfolding limits_in
  per-mille-limits = ap (map (cents_of ten_thousandths)) tenfold-limits ∙ cents mille
    where
      cents : (xs : List ℕ) → map (cents_of ten_thousandths) (map (λ n. 10 * n) xs) ≡ map (cents_of per_mille) xs
      cents [] = refl
      cents (x ∷ xs) = ap₂ ◌∷◌ (omega arith) (cents xs)

-- a schedule's rates, by its version
pub by-version : (s : List ℕ) {v : ℕ} → version s ≡ v → schedule_of s ≡ times_all (counts v) (written_of s)
unfolding schedule_of
by-version s e = ap (λ (v : ℕ). times_all (counts v) (written_of s)) e

module _ (s : List ℕ) (e : version s ≡ 1) where
  pub stays : (vaf vaf' : ℕ) (base : ℤ) (w : ℕ) → limits (schedule_of s) vaf vaf' base w ≡ limits_in per_mille (written_of s) vaf vaf' base w
  stays vaf vaf' base w = rw (by-version s e) (per-mille-limits (written_of s) vaf vaf' base w)

  pub stays-a3 : (vaf' : ℕ) (base : ℤ) → a3_limit_of (schedule_of s) vaf' base ≡ a3_limit_in per_mille (written_of s) vaf' base
  unfolding a3_limit_in
  stays-a3 vaf' base = rw (by-version s e) (per-mille (written_of s).z 100 vaf' base 0)

pub record Tenfold (s s' : List ℕ) : Type 0 where
  pub first : version s ≡ 1
  pub second : version s' ≡ 2
  pub size : length s' ≡ length s
  pub mark : schedule_marked s' ≡ schedule_marked s
  pub rates : written_of s' ≡ times_all 10 (written_of s)

times-one-row : (r : Row) → times_row 1 r ≡ r
times-one-row r = rw (one-mul r.rate, one-mul r.second, one-mul r.base_rate) refl

times-one : (S : Schedule) → times_all 1 S ≡ S
times-one S =
    let t = times-one-row in
    rw (t S.c, t S.d, t S.e, t S.f, t S.g, t S.h, t S.i, t S.z) refl

module _ {s s' : List ℕ} (t : Tenfold s s') where
  pub tenfold-counts : schedule_of s' ≡ schedule_of s
  tenfold-counts = by-version s' t.second ∙ times-one (written_of s') ∙ t.rates ∙ sym (by-version s t.first)

  tenfold-fits : rates_fit (most_written (version s')) (written_of s') ≡ rates_fit (most_written (version s)) (written_of s)
  tenfold-fits = sym (counted-fits s') ∙ ap (rates_fit most_rate) tenfold-counts ∙ counted-fits s

  pub tenfold-check : schedule_check s' ≡ schedule_check s
  unfolding schedule_check fields_check
  tenfold-check = rw (t.size, t.mark, tenfold-fits, t.first, t.second) refl
