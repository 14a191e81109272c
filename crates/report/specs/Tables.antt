-- The tables that a report is made in.
--   Headed    the groups' top places by number
--   Room      an empty set of tiers for each group, and room for the entries of their lines
--   Lists     what is left there: the sets, and a list of so many lines
use Rattle.std.specs.Prelude.{List, ◌≡◌, ℕ, ◌*◌, ◌≤◌, ◌<◌, length, get_or}
use Rattle.book.specs.Records.{C}
use Rattle.cascade.specs.Cascade.{tiers}
use Rattle.parties.specs.Rows.{headed}
use Rattle.lines.specs.Promise.{Listed}

-- what the pass over the counterparties leaves of a table that was `before`
pub record Headed (b heads : List ℕ) : Type 0 where
  pub before : List ℕ
  pub room : C b < length before
  pub stored : heads ≡ headed b (C b) before

pub record Room (groups : ℕ) (sets list : List ℕ) : Type 0 where
  pub of-sets : groups ≤ length sets
  pub empty : (k : ℕ) → get_or sets k 0 ≡ 0
  pub of-list : tiers * groups ≤ length list

pub record Lists (cells : List ℕ) (groups : ℕ) (ranking sets₀ sets list₀ list : List ℕ) : Type 0 where
  pub lines : ℕ
  pub listed : Listed cells groups ranking sets₀ sets list₀ list lines
