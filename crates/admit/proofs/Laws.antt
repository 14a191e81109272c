-- The check by the first section that refuses: by_length, by-header, by-records.
use Rattle.std.proofs.Common.{Ok, Err}
use mathlib.Core.List.{List}
use mathlib.Core.Path.{◌≡◌, sym, ◌∙◌}
use Prim.Native.Nat.{ℕ, ◌≤◌, ◌<◌}
use lib.ListN.{length}
use borrow.Author.Tests.{le-leb, lt-leb}
use Rattle.book.specs.Records.{header_size}
use Rattle.book.specs.Check.{header_check, records_check, specialist_check, book_check}
use Rattle.refusal.specs.declared.Refusal.{Refusal}
use Rattle.refusal.specs.declared.Refusal.TheVariants.{BookLength}
use Rattle.refusal.specs.Chain.{◌and_then◌, Checked}

module _ (b : List ℕ) where
  pub by_length : length b < header_size → Err BookLength ≡ book_check b
  unfolding book_check
  by_length h = rw (lt-leb header_size (length b) h)

  pub by-header : {found : Checked} {why : Refusal} → header_size ≤ length b → found ≡ header_check b → found ≡ Err why → Err why ≡ book_check b
  unfolding book_check
  by-header h e f = rw (le-leb header_size (length b) h, sym e ∙ f)

  pub by-records : {found : Checked} → header_size ≤ length b → found ≡ header_check b → found ≡ Ok tt → (records_check b and_then specialist_check b) ≡ book_check b
  unfolding book_check
  by-records h e f = rw (le-leb header_size (length b) h, sym e ∙ f)
