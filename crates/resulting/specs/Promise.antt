-- What the functions that put a book into lent bytes promise: so many bytes, which are the book's, and the lent ones' own rest.
use Rattle.std.specs.Prelude.{List, ◌++◌, ◌≡◌, ℕ, length, drop}

pub record BookPut (new before after : List ℕ) (r : ℕ) : Type 0 where
  pub size : r ≡ length new
  pub bytes : after ≡ new ++ drop (length new) before
