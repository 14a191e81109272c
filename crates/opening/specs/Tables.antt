-- The tables that an entry makes: their sizes, and what they hold.
--   most_places   no table has more entries
--   RoomFor       tables of these sizes have room for a book's counterparties, assets and mitigants
--   RowsFor       and cells, sets and a list of these for so many groups
--   Prepared      a schedule and a book, and the tables before the passes over assets and mitigants
use Rattle.std.specs.Prelude.{List, ℕ, ◌+◌, ◌*◌, ◌≤◌, ◌<◌}
use Rattle.cascade.specs.Cascade.{tiers}
use Rattle.rows.specs.Rows.{columns}
use Rattle.book.specs.Records.{C, N, K}
use Rattle.fund.specs.Fund.{Passed, Provided}
use Rattle.report.specs.Tables.{Headed}
use Rattle.opening.specs.declared.Tables.{Tables}

abbrev pub most_places : ℕ
most_places = 65536

-- places 0 to C, N and K; where each asset's mitigants start needs one entry more, behind the last
pub record RoomFor (b : List ℕ) (parties assets mitigants starts : ℕ) : Type 0 where
  pub of-parties : C b < parties
  pub of-assets : N b < assets
  pub of-mitigants : K b < mitigants
  pub of-starts : K b + 1 < starts
  pub few-parties : parties ≤ most_places
  pub few-assets : assets ≤ most_places
  pub few-mitigants : mitigants ≤ most_places
  pub few-starts : starts ≤ most_places

pub record RowsFor (groups cells sets lines : ℕ) : Type 0 where
  pub of-cells : columns * groups ≤ cells
  pub of-sets : groups ≤ sets
  pub of-lines : tiers * groups ≤ lines
  pub few-cells : cells ≤ most_places
  pub few-sets : sets ≤ most_places
  pub few-lines : lines ≤ most_places

-- passed     refusals 1 to 13 and 17 let both pass
-- provided   so many groups, the tables by counterparty, and those that the passes fill
-- headed     the groups' top places
pub record Prepared (schedule b : List ℕ) (groups : ℕ) {parties assets mitigants starts : ℕ} (t : Tables parties assets mitigants starts) : Type 0 where
  pub passed : Passed schedule b
  pub provided : Provided b groups t.words t.terms t.rows t.starts t.draws t.halves t.rests t.places t.covered
  pub headed : Headed b t.heads
