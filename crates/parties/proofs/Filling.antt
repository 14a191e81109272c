-- What the loop over counterparties holds: the tables are filled below the place.
use mathlib.Core.Bool.{true, false}
use mathlib.Core.List.{List}
use mathlib.Core.Path.{◌≡◌, refl, sym, ap, ◌∙◌}
use Prim.Native.Nat.{ℕ, ◌+◌, ◌*◌, ◌-◌, ◌≤◌, ◌<◌}
use native.Mathlib.Omega.{arith}
use lib.ListN.{length, get_or, set, length-set}
use borrow.Author.Tests.{eqb-true, eqb-false}
use Rattle.std.specs.Prelude.{if◌then◌else◌}
use Rattle.words.specs.Words.{◌=?◌}
use Rattle.words.specs.Choice.{by-test}
use Rattle.words.specs.Tables.{filled, filled_none, filled_next, filled_at}
use Rattle.book.specs.declared.Counterparty.{Counterparty}
use Rattle.book.specs.Records.{C, counterparty_at}
use Rattle.book.specs.Book.{parent_of, top_of}
use Rattle.book.proofs.TopLaws.{top-le, top_pos}
use Rattle.book.specs.Accepted.{Accepted}
use Rattle.groups.specs.TableLaws.{parent-stored, top-root, top_up}
use Rattle.rows.specs.Rows.{columns}
use Rattle.columns.specs.Column.{word_of, terms_of}
use Rattle.parties.specs.Rows.{tops_to, row_of, headed, words_of, terms_for, Fillable}
use Rattle.parties.specs.RowLaws.{top-top, tops-le, tops_next, same-group, headed-next}

pub record Filling (b : List ℕ) (c : ℕ) (words₀ terms₀ rows₀ heads₀ words terms rows heads : List ℕ) (groups place : ℕ) : Type 0 where
  pub started : 0 < place
  pub within : place ≤ c + 1
  pub words_same : length words ≡ length words₀
  pub terms-same : length terms ≡ length terms₀
  pub rows_same : length rows ≡ length rows₀
  pub heads-same : length heads ≡ length heads₀
  pub few : groups < place
  pub of_words : words ≡ filled (words_of b) (place - 1) words₀
  pub of-terms : terms ≡ filled (terms_for b) (place - 1) terms₀
  pub of-rows : rows ≡ filled (row_of b) (place - 1) rows₀
  pub of-heads : heads ≡ headed b (place - 1) heads₀
  pub count : groups ≡ tops_to b (place - 1)

pub filling-start : (b : List ℕ) (c : ℕ) (words terms rows heads : List ℕ) → Filling b c words terms rows heads words terms rows heads 0 1
unfolding tops_to headed
filling-start b c words terms rows heads = record {
  started = omega arith;
  within = omega arith;
  words_same = refl;
  terms-same = refl;
  rows_same = refl;
  heads-same = refl;
  few = omega arith;
  of_words = filled_none (words_of b) words;
  of-terms = filled_none (terms_for b) terms;
  of-rows = filled_none (row_of b) rows;
  of-heads = refl;
  count = refl;
}

module _ {b : List ℕ} {c : ℕ} {words₀ terms₀ tops₀ rows₀ heads₀ words terms rows heads : List ℕ} {groups place : ℕ}
    (k : Filling b c words₀ terms₀ rows₀ heads₀ words terms rows heads groups place)
    (acc : Accepted b) (ec : c ≡ C b) (ready : Fillable c words₀ terms₀ tops₀ rows₀ heads₀) (h : place ≤ c) where
  parent-below : (counterparty_at b place).parent < place
  parent-below = acc.parent place k.started (omega arith)

  -- what the table of topmost parents has
  pub top-found : {tops : List ℕ} → tops ≡ filled (top_of (counterparty_at b)) c tops₀ → get_or tops place 0 ≡ top_of (counterparty_at b) place
  top-found e = rw e (filled_at (top_of (counterparty_at b)) c tops₀ ready.tops-blank.size place k.started h)

  pub top_in : top_of (counterparty_at b) place < length rows
  top_in = omega (arith, top-le (counterparty_at b) place, k.rows_same, ready.rows-size)

  is-parent : (counterparty_at b place).parent ≡ parent_of (counterparty_at b) place
  is-parent = parent-stored b place parent-below

  module _ {who : Counterparty} {top w t row one : ℕ}
      (ew : who ≡ counterparty_at b place)
      (ea : top ≡ top_of (counterparty_at b) place)
      (e1 : w ≡ word_of who)
      (e2 : t ≡ terms_of who)
      (e4 : row ≡ (if who.parent =? 0 then columns * groups else get_or rows top 0))
      (e5 : one ≡ (if who.parent =? 0 then 1 else 0)) where
    row_fresh : (counterparty_at b place).parent =? 0 ≡ true → columns * groups ≡ row_of b place
    unfolding row_of
    row_fresh z = rw (← top-root b place _ is-parent (eqb-true (counterparty_at b place).parent 0 z), k.count)

    row_shared : (counterparty_at b place).parent =? 0 ≡ false → get_or rows (top_of (counterparty_at b) place) 0 ≡ row_of b place
    row_shared z =
        let p = (counterparty_at b place).parent in
        let a = top_of (counterparty_at b) place in
        let same = top_up b place _ is-parent (eqb-false p 0 z) in
        let v : get_or rows a 0 ≡ row_of b a = rw k.of-rows (filled_at (row_of b) (place - 1) rows₀ (omega (arith, ready.rows-size)) a (top_pos (counterparty_at b) place k.started) (omega (arith, top-le (counterparty_at b) p, parent-below, same))) in
        v ∙ same-group b a place (top-top (counterparty_at b) place)

    row_is : row ≡ row_of b place
    row_is =
        e4
        ∙ rw (ea, ew) (by-test (λ (v : ℕ). v ≡ row_of b place) ((counterparty_at b place).parent =? 0) (columns * groups) (get_or rows (top_of (counterparty_at b) place) 0) row_fresh row_shared)

    count-is : groups + one ≡ tops_to b place
    count-is = rw (e5, ew, k.count, is-parent) (sym (tops_next b place k.started))

    pub filling_step : Filling b c words₀ terms₀ rows₀ heads₀ (set words place w) (set terms place t) (set rows place row) (set heads groups place) (groups + one) (place + 1)
    filling_step =
        let d : place + 1 - 1 ≡ place = omega arith in
        record {
          started = omega arith;
          within = omega arith;
          words_same = rw length-set k.words_same;
          terms-same = rw length-set k.terms-same;
          rows_same = rw length-set k.rows_same;
          heads-same = rw length-set k.heads-same;
          few = omega (arith, count-is, tops-le b place);
          of_words = rw d (filled_next (words_of b) words₀ k.started k.of_words (e1 ∙ ap word_of ew));
          of-terms = rw d (filled_next (terms_for b) terms₀ k.started k.of-terms (e2 ∙ ap terms_of ew));
          of-rows = rw d (filled_next (row_of b) rows₀ k.started k.of-rows row_is);
          of-heads = rw (d, k.count) (headed-next b place heads₀ k.started k.of-heads);
          count = rw d count-is;
        }
