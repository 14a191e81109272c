-- Groups numbered from 0 by their topmost parents, and the tables by counterparty.
--   tops_to     how many of the places 1 to n have no parent
--   row_of      where the row of a counterparty's group starts in a table of cells
--   headed     a table with the topmost parents by their groups' numbers
--   Parties    what the tables hold, place by place
--   Fillable      tables that the pass can fill
--   Filled     what it leaves in them
use Rattle.std.specs.Prelude.{List, ◌≡◌, ℕ, zero, suc, ◌+◌, ◌*◌, ◌-◌, ◌≤◌, ◌<◌, length, get_or, set, if◌then◌else◌}
use Rattle.words.specs.Words.{◌=?◌}
use Rattle.words.specs.Tables.{filled}
use Rattle.book.specs.Records.{C, counterparty_at}
use Rattle.book.specs.Book.{parent_of, top_of}
use Rattle.groups.specs.Tops.{Blank}
use Rattle.rows.specs.Rows.{columns}
use Rattle.columns.specs.Column.{word_of, terms_of}

unfoldable pub tops_to : List ℕ → ℕ → ℕ
tops_to b zero = 0
tops_to b (suc n) = tops_to b n + (if parent_of (counterparty_at b) (suc n) =? 0 then 1 else 0)

unfoldable pub row_of : List ℕ → ℕ → ℕ
row_of b place = columns * tops_to b (top_of (counterparty_at b) place - 1)

-- each place is stored under the number of groups before it; what a place with a parent stores there, the next top stores over
unfoldable pub headed : List ℕ → ℕ → List ℕ → List ℕ
headed b zero t = t
headed b (suc n) t = set (headed b n t) (tops_to b n) (suc n)

abbrev pub words_of : List ℕ → ℕ → ℕ
words_of b place = word_of (counterparty_at b place)

abbrev pub terms_for : List ℕ → ℕ → ℕ
terms_for b place = terms_of (counterparty_at b place)

-- what each counterparty's exposures need: both numbers and the row of its group
pub record Parties (b words terms rows : List ℕ) : Type 0 where
  pub words_size : C b < length words
  pub terms-size : C b < length terms
  pub rows-size : C b < length rows
  pub word : (p : ℕ) → 0 < p → p ≤ C b → get_or words p 0 ≡ words_of b p
  pub term : (p : ℕ) → 0 < p → p ≤ C b → get_or terms p 0 ≡ terms_for b p
  pub row : (p : ℕ) → 0 < p → p ≤ C b → get_or rows p 0 ≡ row_of b p

-- room for places 1 to c, and no topmost parent found
pub record Fillable (c : ℕ) (words terms tops rows heads : List ℕ) : Type 0 where
  pub words_size : c < length words
  pub terms-size : c < length terms
  pub tops-blank : Blank c tops
  pub rows-size : c < length rows
  pub heads-size : c < length heads

-- the tables filled at the places 1 to `known`, and the number of groups
pub record Filled (b : List ℕ) (known : ℕ) (words₀ terms₀ tops₀ rows₀ heads₀ words terms tops rows heads : List ℕ) (groups : ℕ) : Type 0 where
  pub of_words : words ≡ filled (words_of b) known words₀
  pub of-terms : terms ≡ filled (terms_for b) known terms₀
  pub of-tops : tops ≡ filled (top_of (counterparty_at b)) known tops₀
  pub of-rows : rows ≡ filled (row_of b) known rows₀
  pub of-heads : heads ≡ headed b known heads₀
  pub count : groups ≡ tops_to b known
