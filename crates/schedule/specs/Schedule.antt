-- "Schedule, 122 bytes".
--   schedule_size head_size row_size row_count   how many bytes a schedule, what stands before its rows, and a row have; how many rows there are
--   row_start                  where a row starts
--   version                   which version the bytes state
--   row_at written_of           a row and a schedule from bytes, as they are written
--   counts times_all           what a rate of a version counts in ten-thousandths; a schedule with its rates so many times
--   schedule_of                a schedule from bytes, its rates in ten-thousandths
--   rows_of                    a schedule's rows in their order
--   published                 the published schedule, as it is written
--   mark row_bytes head_bytes schedule_bytes    a version 1 schedule's bytes
use Rattle.std.specs.Prelude.{List, [], ◌∷◌, ◌++◌, ℕ, ◌+◌, ◌*◌, if◌then◌else◌}
use Rattle.words.specs.Words.{◌=?◌, each_of}
use Rattle.wire.specs.Bytes.{u16_at, u64_at, bytes16, bytes64}
use Rattle.limit.specs.declared.Row.{Row}
use Rattle.limit.specs.Limit.{times_row}
use Rattle.schedule.specs.declared.Schedule.{Schedule}

-- "Schedule, 122 bytes"
abbrev pub schedule_size : ℕ
schedule_size = 122

-- "ACL", a zero byte, version and two percents
abbrev pub head_size : ℕ
head_size = 10

-- "rows c, d, e, f, g, h, i, z of 14 bytes"
abbrev pub row_size : ℕ
row_size = 14

abbrev pub row_count : ℕ
row_count = 8

-- row 0 is c, row 7 is z
abbrev pub row_start : ℕ → ℕ
row_start n = head_size + row_size * n

-- "u16 version 1", and C-15's "Schedule version 2"
abbrev pub version : List ℕ → ℕ
version s = u16_at s 4

-- "14 bytes: u16 VAF rate, u16 second VAF rate, u16 base rate (..), u64 fixed amount"
unfoldable pub row_at : List ℕ → ℕ → Row
row_at s n =
    let at = row_start n in
    record {
      rate = u16_at s at;
      second = u16_at s (at + 2);
      base_rate = u16_at s (at + 4);
      fixed = u64_at s (at + 6);
    }

-- "u16 version 1, u16 percent kept (..), u16 after the second, then rows"; C-15: "version 2 has the same layout"
unfoldable pub written_of : List ℕ → Schedule
written_of s =
    record {
      first = u16_at s 6;
      second = u16_at s 8;
      c = row_at s 0;
      d = row_at s 1;
      e = row_at s 2;
      f = row_at s 3;
      g = row_at s 4;
      h = row_at s 5;
      i = row_at s 6;
      z = row_at s 7;
    }

-- C-15: "rates in ten-thousandths (..). A version 1 rate counts ten times"
abbrev pub counts : ℕ → ℕ
counts v = if v =? 1 then 10 else 1

-- the rates of every row; percents are per cent and fixed amounts cents in both versions
abbrev pub times_all : ℕ → Schedule → Schedule
times_all n s =
    record {
      first = s.first;
      second = s.second;
      c = times_row n s.c;
      d = times_row n s.d;
      e = times_row n s.e;
      f = times_row n s.f;
      g = times_row n s.g;
      h = times_row n s.h;
      i = times_row n s.i;
      z = times_row n s.z;
    }

-- the schedule in ten-thousandths, from which its limits are taken
unfoldable pub schedule_of : List ℕ → Schedule
schedule_of s = times_all (counts (version s)) (written_of s)

-- "rows c, d, e, f, g, h, i, z"
abbrev pub rows_of : Schedule → List Row
rows_of s = s.c ∷ s.d ∷ s.e ∷ s.f ∷ s.g ∷ s.h ∷ s.i ∷ s.z ∷ []

-- a row of its four numbers
abbrev row : ℕ → ℕ → ℕ → ℕ → Row
row rate second base fixed = record { rate = rate; second = second; base_rate = base; fixed = fixed }

-- of version 1, rates per mille: "The published schedule (..): percents 66, 34; rows c 250,0,0; d 500,250,0; e and f 250,0,1250, all four with fixed 2,000,000,000;
-- g and z 125,0,625; h 50,0,250; i 25,0,125, fixed 0"
abbrev pub published : Schedule
published =
    record {
      first = 66;
      second = 34;
      c = row 250 0 0 2_000_000_000;
      d = row 500 250 0 2_000_000_000;
      e = row 250 0 1250 2_000_000_000;
      f = row 250 0 1250 2_000_000_000;
      g = row 125 0 625 0;
      h = row 50 0 250 0;
      i = row 25 0 125 0;
      z = row 125 0 625 0;
    }

-- "ACL", a zero byte
abbrev pub mark : List ℕ
mark = 65 ∷ 67 ∷ 76 ∷ 0 ∷ []

-- a row's bytes, as `row_at` reads them
unfoldable pub row_bytes : Row → List ℕ
row_bytes r = bytes16 r.rate ++ bytes16 r.second ++ bytes16 r.base_rate ++ bytes64 r.fixed

-- a schedule's bytes before its rows: "ACL", a zero byte, version 1, percents
unfoldable pub head_bytes : Schedule → List ℕ
head_bytes s = mark ++ bytes16 1 ++ bytes16 s.first ++ bytes16 s.second

-- a schedule's bytes: "then rows"
unfoldable pub schedule_bytes : Schedule → List ℕ
schedule_bytes s = head_bytes s ++ each_of row_bytes (rows_of s)
