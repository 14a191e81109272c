-- What a function that writes text promises.
use Rattle.std.specs.Prelude.{◌≡◌, List, ℕ, ◌+◌, length}
use Rattle.wire.specs.Bytes.{placed}

-- `after` is `before` with `text` at `at`, every other byte as it was, and `next` is the place behind the text
pub record Written (before : List ℕ) (at : ℕ) (text after : List ℕ) (next : ℕ) : Type 0 where
  pub bytes : after ≡ placed before at text
  pub place : next ≡ at + length text
