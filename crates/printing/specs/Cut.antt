-- An input that is too long for any book gets the same text wherever it ends, so that the program need not read all of it.
--   most_book input_room   the longest book; a schedule, such a book and one byte more
--   too_long              what is found of a longer book
--   cut                  an input cut there, or further on, gets the same text
use Rattle.std.specs.Prelude.{Bool, ◌≡◌, ℕ, ◌+◌, ◌*◌, ◌≤◌, ◌<◌, leb, take, drop, Ok, Err}
use Rattle.std.proofs.Math.Bool.{true, false}
use mathlib.Core.List.{List, [], ◌∷◌}
use Rattle.std.proofs.Math.Path.{refl}
use Rattle.std.proofs.Common.{sym, ◌∙◌, arith, length-take, length-drop, take_all, take-take, get_or-take, get_or-drop, le-leb, leb-true, leb-false, eqb-true}
use Rattle.std.proofs.Math.ListN.{length}
use Rattle.words.specs.Words.{◌≤?◌, ◌=?◌}
use Rattle.words.specs.Choice.{each-true}
use Rattle.wire.specs.Bytes.{byte_at, u16_at}
use Rattle.refusal.specs.declared.Refusal.TheVariants.{BookMark, BookVersion, BookCounts, BufferShort}
use Rattle.refusal.specs.Chain.{refuse◌unless◌, ◌and_then◌, answer_by, Checked}
use Rattle.schedule.specs.Schedule.{schedule_size}
use Rattle.schedule.specs.Check.{schedule_check}
use Rattle.book.specs.Records.{header_size, counterparty_size, asset_size, mitigant_size, most_counterparties, most_assets, most_mitigants, C, N, K, book_size}
use Rattle.book.specs.Check.{book_marked, version_known, counts_fit, header_check, records_check, specialist_check, book_check}
use Rattle.book.specs.Book.{book_of}
use Rattle.exposure.specs.Values.{fund_check}
use Rattle.figures.specs.declared.Line.{Line}
use Rattle.figures.specs.Report.{lines_of, charge}
use Rattle.report.specs.Answer.{fund_in, report_of, check_of, answer_of}
use Rattle.text.specs.Text.{answer_text}
use Rattle.printing.specs.Printed.{buffer_size, text_for, text_of}

-- "Length is 40 + 4C + 48N + 12K", at the most of each
abbrev pub most_book : ℕ
most_book = header_size + counterparty_size * most_counterparties + asset_size * most_assets + mitigant_size * most_mitigants

abbrev pub input_room : ℕ
input_room = schedule_size + most_book + 1

-- what refusals 5 to 8 make of a longer book: "a count over its most, or another length", if not 6 or 7
abbrev pub too_long : Bool → Bool → Checked
too_long marked known = (refuse BookMark unless marked) and_then (refuse BookVersion unless known) and_then Err BookCounts

module _ (b : List ℕ) (h : most_book < length b) where
  misfit : counts_fit b ≡ false
  misfit = by (counts_fit b) refl
    where
      by : (t : Bool) → counts_fit b ≡ t → t ≡ false
      by false e = refl
      by true e =
          let w = each-true (C b ≤? most_counterparties) ((N b ≤? most_assets) ∷ (K b ≤? most_mitigants) ∷ (length b =? book_size b) ∷ []) e in
          absurd (omega (arith, leb-true (C b) most_counterparties w.0, leb-true (N b) most_assets w.1.0, leb-true (K b) most_mitigants w.1.1.0, eqb-true (length b) (book_size b) w.1.1.1.0))

  long-check : book_check b ≡ too_long (book_marked b) (version_known b)
  unfolding book_check header_check
  long-check = rw (le-leb header_size (length b) (omega arith), misfit) (by (book_marked b) (version_known b) (records_check b and_then specialist_check b))
    where
      by : (m v : Bool) (rest : Checked) → (too_long m v and_then rest) ≡ too_long m v
      by false v rest = refl
      by true false rest = refl
      by true true rest = refl

  -- what is printed for it
  long-text : (s : List ℕ) → text_for s b ≡ answer_text (answer_by (schedule_check s and_then too_long (book_marked b) (version_known b)) 0) [] 0
  unfolding text_for answer_of check_of
  long-text s =
      rw long-check
      (by (schedule_check s) (book_marked b) (version_known b) (fund_check (book_of b) and_then (refuse BufferShort unless length (report_of s b) ≤? buffer_size)) (length (report_of s b)) (lines_of (fund_in s b)) (charge (fund_in s b)))
    where
      by : (c : Checked) (m v : Bool) (rest : Checked) (n : ℕ) (lines : List Line) (charge : ℕ)
          → answer_text (answer_by (c and_then too_long m v and_then rest) n) lines charge ≡ answer_text (answer_by (c and_then too_long m v) 0) [] 0
      by (Err why) m v rest n lines charge = refl
      by (Ok _) false v rest n lines charge = refl
      by (Ok _) true false rest n lines charge = refl
      by (Ok _) true true rest n lines charge = refl

module _ (b c : List ℕ) (p : (k : ℕ) → k < header_size → byte_at b k ≡ byte_at c k) where
  marked-same : book_marked b ≡ book_marked c
  marked-same = rw (p 0 (omega arith), p 1 (omega arith), p 2 (omega arith), p 3 (omega arith), p 12 (omega arith), p 13 (omega arith), p 14 (omega arith), p 15 (omega arith))

  known_same : version_known b ≡ version_known c
  unfolding u16_at
  known_same = rw (p 4 (omega arith), p 5 (omega arith))

  -- two books that are too long and have the same header
  long_same : (s : List ℕ) → most_book < length b → most_book < length c → text_for s b ≡ text_for s c
  long_same s h l = long-text b h s ∙ rw (marked-same, known_same) (sym (long-text c l s))

pub cut : (input : List ℕ) (n : ℕ) → input_room ≤ n → text_of (take n input) ≡ text_of input
unfolding text_of
cut input n h = by (leb (length input) n) refl
  where
    kept : (k : ℕ) → k < header_size → byte_at (drop schedule_size (take n input)) k ≡ byte_at (drop schedule_size input) k
    kept k l = rw (get_or-drop schedule_size (take n input) k 0, get_or-drop schedule_size input k 0, get_or-take n input (schedule_size + k) 0 (omega arith))

    by : (t : Bool) → leb (length input) n ≡ t
        → text_for (take schedule_size (take n input)) (drop schedule_size (take n input)) ≡ text_for (take schedule_size input) (drop schedule_size input)
    by true e = rw (take_all n input (leb-true (length input) n e))
    by false e =
        let more : n < length input = leb-false (length input) n e in
        rw (take-take schedule_size n input (omega arith))
        (long_same (drop schedule_size (take n input)) (drop schedule_size input) kept (take schedule_size input)
        (omega (arith, length-drop schedule_size (take n input), length-take n input)) (omega (arith, length-drop schedule_size input)))
