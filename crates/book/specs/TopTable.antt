-- "A group is everyone with the same topmost parent": two chains and a name by itself, and a chain of 100.
use Rattle.std.specs.Prelude.{List, [], ◌∷◌, map, ◌≡◌, refl, ℕ}
use Rattle.words.specs.Words.{count_from}
use Rattle.book.specs.Book.{top_of}
use Rattle.book.specs.Records.{counterparty_at}
use Rattle.book.specs.Build.{counterparty, book_bytes, book_computed}

-- names with these parents and nothing else
abbrev children : List ℕ → List ℕ
children parents = book_bytes 0 0 0 (map (λ parent. counterparty parent 0 0 0) parents) [] []

pub groups : map {B = ℕ} (top_of (counterparty_at (children (0 ∷ 1 ∷ 0 ∷ 2 ∷ 3 ∷ 0 ∷ 4 ∷ [])))) (1 ∷ 2 ∷ 3 ∷ 4 ∷ 5 ∷ 6 ∷ 7 ∷ []) ≡ 1 ∷ 1 ∷ 3 ∷ 1 ∷ 3 ∷ 6 ∷ 1 ∷ []
unfolding book_computed
groups = refl

pub chain : top_of (counterparty_at (children (count_from 0 100))) 100 ≡ 1
unfolding book_computed count_from
chain = refl
