-- The text computed from the bytes that are read: of T1 and T2, and of refusals 1, 5 and 11.
use Rattle.std.specs.Prelude.{◌≡◌, refl, [], ◌∷◌, ◌++◌, take}
use Rattle.digits.specs.Decimal.{ascii, decimal, decimal_by}
use Rattle.text.specs.Text.{line_text, charge_text, refused_text, report_text}
use Rattle.examples.specs.Build.{name, plain, usual, t2}
use Rattle.examples.specs.Table.{published_bytes}
use Rattle.examples.specs.Opened.{report_computed}
use Rattle.printing.specs.Printed.{text_for, text_of}

-- "empty book: (..) charge 0"
pub t1 : text_of (published_bytes ++ usual [] [] []) ≡ ascii "charge 0\n"
unfolding report_computed text_of text_for report_text line_text charge_text decimal decimal_by
t1 = refl

-- "kind 11 and kind 6, one ungraded name, 300000000 each"
pub t2-lines : text_of (published_bytes ++ t2) ≡ ascii "1 0 300000000 250000000 250000000 50000000\n1 2 300000000 500000000 250000000 50000000\ncharge 100000000\n"
unfolding report_computed text_of text_for report_text line_text charge_text decimal decimal_by
t2-lines = refl

-- an input that ends before the schedule does; one that ends behind it; an asset whose counterparty is 0, behind a good one
pub refused :
    (text_of (take 121 published_bytes) ≡ ascii "refused 1 0\n") × (text_of published_bytes ≡ ascii "refused 5 0\n")
    × (text_of (published_bytes ++ usual (name ∷ []) (plain 11 1 0 ∷ plain 11 0 0 ∷ []) []) ≡ ascii "refused 11 2\n")
unfolding report_computed text_of text_for refused_text decimal decimal_by
refused = (refl, refl, refl)
