-- A table of topmost parents by place, 0 where one is not found yet.
--   Blank     none is found
--   Partial   some are
--   kept      the table once a place's topmost parent is found
use Rattle.std.specs.Prelude.{List, ◌≡◌, ℕ, zero, suc, ◌≤◌, ◌<◌, length, get_or, set, if◌then◌else◌}
use Rattle.words.specs.Words.{◌=?◌}
use Rattle.book.specs.Records.{C, counterparty_at}
use Rattle.book.specs.Book.{parent_of, top_of}

-- room for places 0 to c, and 0 at each
pub record Blank (c : ℕ) (t : List ℕ) : Type 0 where
  pub size : c < length t
  pub zeros : (p : ℕ) → p ≤ c → get_or t p 0 ≡ 0

-- what is above 0 is the topmost parent of its place. "A group is everyone with the same topmost parent"
pub record Partial (b t : List ℕ) : Type 0 where
  pub size : C b < length t
  pub each : (p : ℕ) → p ≤ C b → 0 < get_or t p 0 → get_or t p 0 ≡ top_of (counterparty_at b) p

-- from a place up in so many steps, as far as there are parents and none whose own is known: each parent with its topmost parent
unfoldable pub kept_in : ℕ → List ℕ → ℕ → List ℕ → List ℕ
kept_in zero b place t = t
kept_in (suc steps) b place t =
    let up = parent_of (counterparty_at b) place in
    if up =? 0 then t
    else if get_or t up 0 =? 0 then set (kept_in steps b up t) up (top_of (counterparty_at b) up)
    else t

-- each step goes to a lower place, so a place needs no more steps than its number
unfoldable pub kept : List ℕ → ℕ → List ℕ → List ℕ
kept b place t = kept_in place b place t
