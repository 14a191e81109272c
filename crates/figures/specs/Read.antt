-- What any bytes say where they are read as a report: "Demand 3 reads excesses, group excess and charge off the written report".
use Rattle.std.specs.Prelude.{Bool, ◌&&◌, List, ℕ, ◌+◌, ◌*◌, if◌then◌else◌}
use Rattle.words.specs.Words.{◌=?◌, sum}
use Rattle.wire.specs.Bytes.{byte_at, u16_at, u64_at}
use Rattle.figures.specs.declared.Line.{Line}
use Rattle.figures.specs.Report.{head_size, line_size}

-- the line that starts at a byte: "u16 top place, tier byte, zero, u16 set (..), two zeros, u64 exposure, limit, left, excess"
unfoldable pub line_from : List ℕ → ℕ → Line
line_from R at =
    record {
      top = u16_at R at;
      tier = byte_at R (at + 2);
      tiers = u16_at R (at + 4);
      exposure = u64_at R (at + 8);
      limit = u64_at R (at + 16);
      left = u64_at R (at + 24);
      excess = u64_at R (at + 32);
    }

-- the line of number i, from 0: "Header, 72 bytes", "Lines of 40"
abbrev pub line_at : List ℕ → ℕ → Line
line_at R i = line_from R (head_size + line_size * i)

-- "u16 lines"
abbrev pub lines_in : List ℕ → ℕ
lines_in R = u16_at R 6

-- "group excess", the fifth of the u64s
abbrev pub group_excess_in : List ℕ → ℕ
group_excess_in R = u64_at R 40

-- "charge", the last of them
abbrev pub charge_in : List ℕ → ℕ
charge_in R = u64_at R 64

-- the line is that of group g and tier t
abbrev pub is_of : ℕ → ℕ → Line → Bool
is_of g t x = x.top =? g && x.tier =? t

-- the excess of group g in tier t: that of R's line of g and t, 0 where there is none
unfoldable pub read_excess : List ℕ → ℕ → ℕ → ℕ
read_excess R g t = sum (λ i. if is_of g t (line_at R i) then (line_at R i).excess else 0) (lines_in R)
