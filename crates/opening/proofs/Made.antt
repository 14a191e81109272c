-- What 14 and 15 found of a fund that was made: nothing, and then its figures are those of the definitions; or the refusal.
use Rattle.std.proofs.Common.{Result, Ok, Err}
use Rattle.refusal.specs.Chain.{Checked}
use mathlib.Core.List.{List}
use mathlib.Core.Path.{◌≡◌, refl, sym, subst, ap, ◌∙◌}
use Prim.Native.Nat.{ℕ}
use native.Mathlib.Omega.{arith}
use Rattle.refusal.specs.declared.Refusal.{Refusal}
use Rattle.book.specs.Book.{book_of}
use Rattle.exposure.specs.Values.{fund_check}
use Rattle.fund.specs.declared.Fund as made
use Rattle.fund.specs.Fund.{RatedAs, MadeBy, Made}

module _ (schedule book : List ℕ) (r : Result made.Fund Refusal) (m : Made schedule book r) where
  pub made-fine : {f : made.Fund} → r ≡ Ok f → (fund_check (book_of book) ≡ Ok tt) × RatedAs schedule book f
  made-fine {f} e = by (fund_check (book_of book)) refl m
    where
      by : (x : Checked) → fund_check (book_of book) ≡ x → MadeBy x schedule book r → (fund_check (book_of book) ≡ Ok tt) × RatedAs schedule book f
      by (Ok _) h q = (h, subst (RatedAs schedule book) (let w = q.1 in cc) q.2)
      by (Err why) h q = absurd (let w = q in let z : ◌≡◌ {A = ℕ} 0 1 = cc in omega arith)

  pub made-bad : {why : Refusal} → r ≡ Err why → fund_check (book_of book) ≡ Err why
  made-bad {why} e = by (fund_check (book_of book)) refl m
    where
      by : (x : Checked) → fund_check (book_of book) ≡ x → MadeBy x schedule book r → fund_check (book_of book) ≡ Err why
      by (Ok _) h q = absurd (let w = q.1 in let z : ◌≡◌ {A = ℕ} 0 1 = cc in omega arith)
      by (Err other) h q = let z : other ≡ why = let w = sym q ∙ e in cc in h ∙ ap Err z
