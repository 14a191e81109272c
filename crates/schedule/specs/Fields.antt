-- A row and a schedule are made of their fields, the rates so many times: row_by, schedule-by.
use Rattle.std.specs.Prelude.{List, ◌≡◌, ℕ, ◌+◌, ◌*◌}
use Rattle.wire.specs.Bytes.{u16_at, u64_at}
use Rattle.limit.specs.declared.Row.{Row}
use Rattle.limit.specs.Limit.{times_row}
use Rattle.schedule.specs.Schedule.{row_start, version, counts, row_at, written_of, schedule_of}

pub row_by : (s : List ℕ) (n times : ℕ) {rate second base fixed : ℕ}
    → rate ≡ times * u16_at s (row_start n) → second ≡ times * u16_at s (row_start n + 2) → base ≡ times * u16_at s (row_start n + 4)
    → fixed ≡ u64_at s (row_start n + 6)
    → record { rate = rate; second = second; base_rate = base; fixed = fixed } ≡ times_row times (row_at s n)
unfolding row_at
row_by s n times er es eb ef = rw (er, es, eb, ef)

module _ (s : List ℕ) {times : ℕ} (t : times ≡ counts (version s)) where
  -- a row that was read by `times` is the schedule's
  abbrev Is : Row → ℕ → Type 0
  Is row n = row ≡ times_row times (row_at s n)

  pub schedule-by : {first second : ℕ} {c d e f g h i z : Row}
      → first ≡ u16_at s 6 → second ≡ u16_at s 8 → Is c 0 → Is d 1 → Is e 2 → Is f 3 → Is g 4 → Is h 5 → Is i 6 → Is z 7
      → record { first = first; second = second; c = c; d = d; e = e; f = f; g = g; h = h; i = i; z = z } ≡ schedule_of s
  unfolding schedule_of written_of
  schedule-by p q ec ed ee ef eg eh ei ez = rw (p, q, ec, ed, ee, ef, eg, eh, ei, ez, t)
