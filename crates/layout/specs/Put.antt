-- What `put_line` promises (LinePut).
use Rattle.std.specs.Prelude.{◌≡◌, List, ℕ, ◌+◌, take, drop}
use Rattle.figures.specs.declared.Line.{Line}
use Rattle.figures.specs.Report.{line_size, line_bytes}

-- C-12: "each line put straight into the lent report, with no buffer between, by a part shown to change only that line's 40 bytes".
-- The line's bytes stand at the place, those before it and those behind it are as they were, and r is the place behind it.
pub record LinePut (line : Line) (at : ℕ) (before after : List ℕ) (r : ℕ) : Type 0 where
  pub there : take line_size (drop at after) ≡ line_bytes line
  pub earlier : take at after ≡ take at before
  pub later : drop (at + line_size) after ≡ drop (at + line_size) before
  pub place : r ≡ at + line_size
