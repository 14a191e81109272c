-- Refusals 1 to 4.
--   schedule_marked known row_fits rates_fit   the tests of 2, 3 and 4
--   most_written                             the most that a rate of a version may be
--   fields_check schedule_check               the refusals 2 to 4, and all
use Rattle.std.specs.Prelude.{Bool, ◌&&◌, ◌||◌, List, ℕ, length, if◌then◌else◌}
use Rattle.words.specs.Words.{◌≤?◌, ◌=?◌}
use Rattle.wire.specs.Bytes.{M, byte_at}
use Rattle.limit.specs.declared.Row.{Row}
use Rattle.limit.specs.Bounds.{most_rate}
use Rattle.refusal.specs.declared.Refusal.TheVariants.{ScheduleLength, ScheduleMark, ScheduleVersion, ScheduleRates}
use Rattle.refusal.specs.Chain.{refuse◌unless◌, ◌and_then◌, Checked}
use Rattle.schedule.specs.declared.Schedule.{Schedule}
use Rattle.schedule.specs.Schedule.{schedule_size, version, written_of}

-- "ACL", a zero byte
abbrev pub schedule_marked : List ℕ → Bool
schedule_marked s = byte_at s 0 =? 65 && byte_at s 1 =? 67 && byte_at s 2 =? 76 && byte_at s 3 =? 0

-- C-15: "Refusal 3 passes 1 and 2"
abbrev pub known : ℕ → Bool
known v = v =? 1 || v =? 2

-- rates "per mille, at most 1,500" in version 1; C-15: "in ten-thousandths, at most 15,000"
abbrev pub most_written : ℕ → ℕ
most_written v = if v =? 1 then 1500 else most_rate

-- rates at most so much, fixed amount at most M
unfoldable pub row_fits : ℕ → Row → Bool
row_fits most r = r.rate ≤? most && r.second ≤? most && r.base_rate ≤? most && r.fixed ≤? M

-- "Percents are at most 100"
unfoldable pub rates_fit : ℕ → Schedule → Bool
rates_fit most s =
    s.first ≤? 100 && s.second ≤? 100
    && row_fits most s.c && row_fits most s.d && row_fits most s.e && row_fits most s.f
    && row_fits most s.g && row_fits most s.h && row_fits most s.i && row_fits most s.z

-- 2 to 4 of "What the desk turns back"; C-15: "refusal 4 reads 15,000 for version 2"
unfoldable pub fields_check : List ℕ → Checked
fields_check s =
    (refuse ScheduleMark unless schedule_marked s)
    and_then (refuse ScheduleVersion unless known (version s))
    and_then (refuse ScheduleRates unless rates_fit (most_written (version s)) (written_of s))

-- 1 to 4: first "schedule not 122 bytes"
unfoldable pub schedule_check : List ℕ → Checked
schedule_check s = (refuse ScheduleLength unless length s =? schedule_size) and_then fields_check s
