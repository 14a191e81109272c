-- What the desk prints, as bytes: "prints top, tier and the four amounts per line, last "charge N", or "refused N P" (number, place)".
--   line_text charge_text refused_text   a printed line of each sort
--   report_text     what is printed of a report's lines and its charge
--   answer_text     what is printed of an answer
--   lines_read      the lines that stand in a report's bytes
--   line_room       room for any printed line
use Rattle.refusal.specs.Chain.{Answer}
use Rattle.std.specs.Prelude.{List, [], ◌∷◌, ◌++◌, ℕ, zero, suc, Ok, Err}
use Rattle.words.specs.Words.{each_of}
use Rattle.refusal.specs.Refusals.{number_of, place_of}
use Rattle.figures.specs.declared.Line.{Line}
use Rattle.figures.specs.Read.{line_at}
use Rattle.digits.specs.Decimal.{ascii, decimal}

-- "prints top, tier and the four amounts per line"
unfoldable pub line_text : Line → List ℕ
line_text x =
    decimal x.top
    ++ ascii " "
    ++ decimal x.tier
    ++ ascii " "
    ++ decimal x.exposure
    ++ ascii " "
    ++ decimal x.limit
    ++ ascii " "
    ++ decimal x.left
    ++ ascii " "
    ++ decimal x.excess
    ++ ascii "\n"

-- "last "charge N""
unfoldable pub charge_text : ℕ → List ℕ
charge_text charge = ascii "charge " ++ decimal charge ++ ascii "\n"

-- "or "refused N P" (number, place)"
unfoldable pub refused_text : ℕ → ℕ → List ℕ
refused_text number place = ascii "refused " ++ decimal number ++ ascii " " ++ decimal place ++ ascii "\n"

-- "prints top, tier and the four amounts per line, last "charge N""
unfoldable pub report_text : List Line → ℕ → List ℕ
report_text lines charge = each_of line_text lines ++ charge_text charge

-- what is printed of an answer, with the report's lines and its charge
abbrev pub answer_text : Answer → List Line → ℕ → List ℕ
answer_text (Ok length) lines charge = report_text lines charge
answer_text (Err why) lines charge = refused_text (number_of why) (place_of why)

-- the first n lines of the report R, read off its bytes
unfoldable pub lines_read : List ℕ → ℕ → List Line
lines_read R zero = []
lines_read R (suc n) = lines_read R n ++ (line_at R n ∷ [])

-- no printed line is longer: six numbers, each with the byte that ends it
abbrev pub line_room : ℕ
line_room = 128
