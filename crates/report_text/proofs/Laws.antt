-- lines_next: the text of one line more.
use mathlib.Core.Path.{◌≡◌, ap, ◌∙◌}
use mathlib.Core.List.{List, [], ◌∷◌, ◌++◌, append-nil}
use Prim.Native.Nat.{ℕ, suc}
use Rattle.words.specs.Words.{each_of}
use Rattle.words.specs.Sums.{each_append}
use Rattle.figures.specs.Read.{line_at}
use Rattle.text.specs.Text.{line_text, lines_read}

pub lines_next : (R : List ℕ) (i : ℕ) → each_of line_text (lines_read R (suc i)) ≡ each_of line_text (lines_read R i) ++ line_text (line_at R i)
unfolding lines_read each_of
lines_next R i = each_append line_text (lines_read R i) (line_at R i ∷ []) ∙ ap (λ (x : List ℕ). each_of line_text (lines_read R i) ++ x) (append-nil (line_text (line_at R i)))
