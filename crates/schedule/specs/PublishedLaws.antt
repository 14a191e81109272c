-- The published schedule fits; its bytes are as many as a schedule has and state version 1, refusals 1 to 4 let them pass, they read back as it, and count as ten
-- times its rates; in version 2, with ten times its rates, it is `published2`.
use Rattle.std.specs.Prelude.{List, ◌≡◌, refl, ℕ, length, set, Ok}
use Rattle.words.specs.Words.{each_of}
use Rattle.wire.specs.Bytes.{u16_at, u64_at}
use Rattle.schedule.specs.Schedule.{schedule_size, version, row_at, times_all, written_of, schedule_of, published, row_bytes, head_bytes, schedule_bytes}
use Rattle.schedule.specs.Check.{row_fits, rates_fit, fields_check, schedule_check}
use Rattle.schedule.specs.CountLaws.{Tenfold}
use Rattle.schedule.specs.Fits.{RatesFit}
use Rattle.schedule.specs.FitsLaws.{tested-fits}

pub published-fits : RatesFit published
unfolding rates_fit row_fits
published-fits = tested-fits published refl

pub published-length : length (schedule_bytes published) ≡ schedule_size
unfolding schedule_bytes head_bytes row_bytes each_of
published-length = refl

pub published-passes : schedule_check (schedule_bytes published) ≡ Ok tt
unfolding schedule_bytes head_bytes row_bytes each_of schedule_check fields_check rates_fit row_fits written_of row_at u16_at u64_at
published-passes = refl

pub published-version : version (schedule_bytes published) ≡ 1
unfolding schedule_bytes head_bytes row_bytes each_of u16_at
published-version = refl

pub published-back : written_of (schedule_bytes published) ≡ published
unfolding schedule_bytes head_bytes row_bytes each_of written_of row_at u16_at u64_at
published-back = refl

pub published-counts : schedule_of (schedule_bytes published) ≡ times_all 10 published
unfolding schedule_bytes head_bytes row_bytes each_of schedule_of written_of row_at u16_at u64_at
published-counts = refl

abbrev pub published2 : List ℕ
published2 = set (schedule_bytes (times_all 10 published)) 4 2

pub published-tenfold : Tenfold (schedule_bytes published) published2
unfolding schedule_bytes head_bytes row_bytes each_of written_of row_at u16_at u64_at
published-tenfold = record { first = refl; second = refl; size = refl; mark = refl; rates = refl }
