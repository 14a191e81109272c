-- The pass over a book's exposure lines, out of the tables by place.
--   line_cell                      the cell of a line
--   part_lines asset_lines lines_at  the lines at the places of some mitigants, of an asset, of assets from a place on
--   Lined                         tables with room for every line
--   PartsServable Servable        what the pass over some mitigants, and over all assets, starts from
--   PartsServed Served            what is left in them behind some mitigants' lines, and behind all lines
use Rattle.std.specs.Prelude.{List, [], ◌∷◌, ◌++◌, map, ◌≡◌, ℕ, zero, suc, ◌+◌, ◌*◌, ◌-◌, ◌≤◌, ◌<◌, ◌^◌, length, get_or}
use Rattle.rows.specs.Rows.{columns}
use Rattle.bills.specs.Lines.{ExposureLine}
use Rattle.bills.specs.Bills.{desk_count}
use Rattle.bills.specs.Tables.{by_desk, still_after, desks_after}
use Rattle.book.specs.Records.{C, N, K, assets_of, mitigants_start, counterparty_at, asset_at}
use Rattle.book.specs.Accepted.{Accepted}
use Rattle.header.specs.declared.Sections.{Sections}
use Rattle.exposure.specs.Parts.{remainder}
use Rattle.columns.specs.Column.{Tiered}
use Rattle.parties.specs.Rows.{tops_to, row_of}
use Rattle.covering.specs.ByPlace.{parts_at}
use Rattle.cells.specs.Cells.{Rowed, Placed}
use Rattle.desks.specs.BookLines.{exposure_line}

unfoldable pub line_cell : List ℕ → ExposureLine → ℕ
line_cell b x = row_of b x.group + x.tier

-- of `more` mitigants from a place on, of an asset of such a desk
unfoldable pub part_lines : List ℕ → List ℕ → ℕ → ℕ → ℕ → List ExposureLine
part_lines b covered desk place more = map (exposure_line (counterparty_at b) desk) (parts_at b covered place more)

abbrev pub rest_line : List ℕ → List ℕ → ℕ → ExposureLine
rest_line b rests place = exposure_line (counterparty_at b) (asset_at b place).desk (remainder (asset_at b place) (get_or rests place 0))

-- of the asset at a place, whose first mitigant is the one at `first`
unfoldable pub asset_lines : List ℕ → List ℕ → List ℕ → ℕ → ℕ → List ExposureLine
asset_lines b covered rests place first = part_lines b covered (asset_at b place).desk first (asset_at b place).count ++ (rest_line b rests place ∷ [])

-- of `more` assets from a place on
unfoldable pub lines_at : List ℕ → List ℕ → List ℕ → ℕ → ℕ → ℕ → List ExposureLine
lines_at b covered rests place first zero = []
lines_at b covered rests place first (suc more) = asset_lines b covered rests place first ++ lines_at b covered rests (place + 1) (first + (asset_at b place).count) more

pub record Lined (b still desks : List ℕ) : Type 0 where
  pub cells : columns * tops_to b (C b) ≤ length still
  pub places : length desks ≡ desk_count

-- a book, the mitigants from place `first` on and before `end`, of an asset of such a desk, and the tables:
-- accepted         refusals 5 to 13 and 17 let the book pass
-- section          its mitigants start at that byte
-- low along high   the places are of the book
-- desk-few         the desk is a byte
-- rowed tiered     the counterparties' words and rows, and the tier of each column
-- covered-size     a place of `covered` for each mitigant
-- lined            room for every line
-- room             no desk's sum passes 64 bits behind these lines
pub record PartsServable (b : List ℕ) (sections : Sections) (first end desk : ℕ) (words rows tiers covered still desks : List ℕ) : Type 0 where
  pub accepted : Accepted b
  pub section : sections.mitigants ≡ mitigants_start b
  pub low : 0 < first
  pub along : first ≤ end
  pub high : end ≤ K b + 1
  pub desk-few : desk < desk_count
  pub rowed : Rowed b words rows
  pub tiered : Tiered tiers
  pub covered-size : K b < length covered
  pub lined : Lined b still desks
  pub room : (d : ℕ) → by_desk (desks_after (line_cell b) (part_lines b covered desk first (end - first)) still desks) d < 2 ^ 64

-- a book and its tables:
-- accepted                  refusals 5 to 13 and 17 let the book pass
-- records section count     where its assets are, where its mitigants start, and how many assets it has
-- rowed placed              the counterparties' words and rows, and where what is left of each asset is posted
-- covered-size rests-size   a place for each mitigant and for each asset
-- lined                     room for every line
-- room                      no desk's sum passes 64 bits behind all lines
pub record Servable (b : List ℕ) (sections : Sections) (words rows places covered rests still desks : List ℕ) : Type 0 where
  pub accepted : Accepted b
  pub records : sections.assets ≡ assets_of b
  pub section : sections.mitigants ≡ mitigants_start b
  pub count : sections.asset_count ≡ N b
  pub rowed : Rowed b words rows
  pub placed : Placed b places
  pub covered-size : K b < length covered
  pub rests-size : N b < length rests
  pub lined : Lined b still desks
  pub room : (d : ℕ) → by_desk (desks_after (line_cell b) (lines_at b covered rests 1 1 (N b)) still desks) d < 2 ^ 64

-- what is still to be given, and what the desks have
pub record PartsServed (b covered : List ℕ) (desk place more : ℕ) (still₀ desks₀ still desks : List ℕ) : Type 0 where
  pub given : still ≡ still_after (line_cell b) (part_lines b covered desk place more) still₀
  pub excess : desks ≡ desks_after (line_cell b) (part_lines b covered desk place more) still₀ desks₀

pub record Served (b covered rests still₀ desks₀ still desks : List ℕ) : Type 0 where
  pub given : still ≡ still_after (line_cell b) (lines_at b covered rests 1 1 (N b)) still₀
  pub excess : desks ≡ desks_after (line_cell b) (lines_at b covered rests 1 1 (N b)) still₀ desks₀
