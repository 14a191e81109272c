-- C-13: 256 and 257 mitigants on one asset. Computing them takes as long as all other cases together.
use Rattle.std.specs.Prelude.{List, [], ◌∷◌, ℕ, T, replicate}
use Rattle.book.specs.Build.{mitigant, book_bytes}
use Rattle.conversion.specs.Conversion.{first_check, narrow_check}
use Rattle.convert.specs.Convert.{book_converts, convert_answer}
use Rattle.examples.specs.Build.{covered, plain, name}
use Rattle.examples.specs.Table.{turned}
use Rattle.examples.specs.Opened.{report_computed}

-- ---- 256 and 257 mitigants on the second of two assets, of a fund with such a total and so much excluded; 18 "between 15 and 16"

abbrev many : ℕ → ℕ → ℕ → List ℕ
many total excluded k = book_bytes total 0 excluded (name ∷ []) (plain 11 1 1 ∷ covered 11 1 k 1 ∷ []) (replicate k (mitigant 1 0 1 0))

-- with no byte lent
one_more : T (turned (convert_answer (many 9 0 256) 0) 18 2)
unfolding report_computed first_check narrow_check book_converts convert_answer
one_more = tt

one-more-behind : T (turned (convert_answer (many 0 1 0x0101) 0) 15 0)
unfolding report_computed first_check narrow_check book_converts convert_answer
one-more-behind = tt
