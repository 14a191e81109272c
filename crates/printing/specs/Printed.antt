-- What the program prints for what it reads.
--   buffer_size     how many bytes are lent for the report
--   text_for        the text that is printed for a schedule and a book
--   text_of         the text that is printed for an input
--   text_room       room for any such text
--   Printed        what the function that writes it promises
use Rattle.std.specs.Prelude.{◌≡◌, List, ◌++◌, ℕ, ◌*◌, ◌/◌, length, take, drop}
use Rattle.schedule.specs.Schedule.{schedule_size}
use Rattle.figures.specs.Report.{line_size, lines_of, charge}
use Rattle.report.specs.Answer.{fund_in, answer_of}
use Rattle.text.specs.Text.{answer_text, line_room}

-- "lends a report buffer of 65,536 bytes"
abbrev pub buffer_size : ℕ
buffer_size = 65536

-- "prints top, tier and the four amounts per line, last "charge N", or "refused N P" (number, place)"
unfoldable pub text_for : List ℕ → List ℕ → List ℕ
text_for schedule book =
    let F = fund_in schedule book in
    answer_text (answer_of schedule book buffer_size) (lines_of F) (charge F)

-- "The program reads a schedule (122 bytes) then a book"
unfoldable pub text_of : List ℕ → List ℕ
text_of input = text_for (take schedule_size input) (drop schedule_size input)

-- room for a printed line in place of each line that the report buffer has room for
abbrev pub text_room : ℕ
text_room = line_room * (buffer_size / line_size)

-- what is promised of the number r and of the lent text, `before` and `after`
--   size     r is the text's length
--   bytes    the text stands at the start, and every byte behind it is as it was
pub record Printed (input before after : List ℕ) (r : ℕ) : Type 0 where
  pub size : r ≡ length (text_of input)
  pub bytes : after ≡ text_of input ++ drop r before
