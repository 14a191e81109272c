-- `report_text::put_report` meets its contract: the lines one behind the other, then the charge.
use mathlib.Core.Path.{◌≡◌}
use Prim.Native.Nat.{◌*◌, ◌≤◌}
use lib.ListN.{length}
use Rattle.words.specs.Words.{each_of}
use Rattle.digits.specs.Written.{Written}
use Rattle.text.specs.Text.{line_text, lines_read, line_room}
use Rattle.report_text.proofs.put_report.Given as goal

abbrev pub invariant-loop-i : goal.invariant-loop-i
invariant-loop-i l = (l.at ≤ line_room * l.i) × Written l.initial.out 0 (each_of line_text (lines_read l.report l.i)) l.out l.at × (length l.out ≡ length l.initial.out)
