-- The lines that are read off the report of a fund are the fund's: lines-read; and so is the text: report-text.
use mathlib.Core.Path.{◌≡◌, refl, ap₂, ◌∙◌}
use mathlib.Core.List.{List, [], ◌∷◌, ◌++◌, append_assoc}
use Prim.Native.Nat.{ℕ, zero, suc, ◌+◌, ◌*◌, ◌≤◌, ◌<◌}
use native.Mathlib.Omega.{arith}
use native.Mathlib.Nat.{add-zero}
use lib.ListN.{length, take, get_or, length-append}
use lib.Seq.{take-suc, take-length}
use Rattle.words.specs.Words.{each_of}
use Rattle.figures.specs.declared.Line.{Line}
use Rattle.figures.specs.Fund.{Fund}
use Rattle.figures.specs.Report.{head_size, line_size, lines_of, charge, line_bytes, joined, head_bytes, head_of, report}
use Rattle.figures.specs.Read.{line_from, line_at, lines_in, charge_in}
use Rattle.figures.proofs.Back.{line-long, line-back}
use Rattle.figures.proofs.Written.{head-long, lines-in, charge-in}
use Rattle.text.specs.Text.{report_text, lines_read}

-- a line among others, read at its place
line-in : (d : Line) (xs : List Line) (a b : List ℕ) (at k : ℕ) → length a ≡ at → k < length xs → line_from (a ++ joined xs ++ b) (at + line_size * k) ≡ get_or xs k d
unfolding each_of
line-in d [] a b at k e l = absurd (omega arith)
line-in d (x ∷ xs) a b at zero e l =
    rw (← append_assoc a (line_bytes x) (joined xs), append_assoc (a ++ line_bytes x) (joined xs) b, add-zero) (line-back x a (joined xs ++ b) at e)
line-in d (x ∷ xs) a b at (suc k) e l =
    let next : at + line_size * suc k ≡ at + line_size + line_size * k = omega arith in
    rw (← append_assoc a (line_bytes x) (joined xs), next)
    (line-in d xs (a ++ line_bytes x) b (at + line_size) k (omega (arith, length-append a (line_bytes x), line-long x)) (omega arith))

module _ (F : Fund) (more : List ℕ) where
  abbrev R : List ℕ
  R = report F ++ more

  line-at : (k : ℕ) → k < length (lines_of F) → line_at R k ≡ get_or (lines_of F) k (line_at R 0)
  unfolding report
  line-at k l = line-in (line_at R 0) (lines_of F) (head_bytes (head_of F)) more head_size k (head-long (head_of F)) l

  first-lines : (n : ℕ) → n ≤ length (lines_of F) → lines_read R n ≡ take n (lines_of F)
  unfolding lines_read
  first-lines zero l = refl
  first-lines (suc n) l =
      rw (take-suc (lines_of F) n (line_at R 0) (omega arith), line-at n (omega arith), first-lines n (omega arith))

  pub lines-read : lines_read R (lines_in R) ≡ lines_of F
  lines-read = rw (lines-in F more) (first-lines (length (lines_of F)) (omega arith) ∙ take-length (lines_of F))

  pub report-text : report_text (lines_read R (lines_in R)) (charge_in R) ≡ report_text (lines_of F) (charge F)
  report-text = ap₂ report_text lines-read (charge-in F more)
