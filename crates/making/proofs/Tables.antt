-- What is made of a fund that 14 and 15 let pass has its tables (fund-tables).
use Rattle.std.proofs.Common.{Ok}
use mathlib.Core.List.{List}
use mathlib.Core.Path.{◌≡◌}
use Prim.Native.Nat.{ℕ, ◌<◌}
use lib.ListN.{length}
use lib.Seq.{length-sets}
use Rattle.words.specs.Tables.{filled, filled-length, filled_at}
use Rattle.book.specs.Records.{N, asset_at}
use Rattle.book.specs.Book.{book_of}
use Rattle.exposure.specs.Values.{fund_check}
use Rattle.assets.specs.Shares.{rest_of}
use Rattle.covering.specs.ByPlace.{parted}
use Rattle.cells.specs.Cells.{Zeros}
use Rattle.cells.specs.CellLaws.{rowed, placed}
use Rattle.fund.specs.declared.Fund.{Fund}
use Rattle.fund.specs.Fund.{Passed, Provided, Drew, RatedAs}
use Rattle.fund.specs.Tables.{FundTables}
use Rattle.fund.proofs.Limits.{taken}
use Rattle.making.proofs.Drawing.{exposed}

pub fund-tables : {schedule b : List ℕ} {groups : ℕ} {f : Fund} {words terms rows starts₀ draws₀ halves₀ rests₀ places₀ covered₀ cells₀ starts draws halves rests places covered cells : List ℕ}
    → Passed schedule b → Provided b groups words terms rows starts₀ draws₀ halves₀ rests₀ places₀ covered₀ → Zeros groups cells₀
    → Drew b groups starts₀ draws₀ halves₀ rests₀ places₀ covered₀ cells₀ starts draws halves rests places covered cells → fund_check (book_of b) ≡ Ok tt → RatedAs schedule b f
    → FundTables schedule b groups f words rows places covered rests cells
fund-tables {b = b} {rests₀ = rests₀} {places₀ = places₀} p given z d checked rated =
    let l = given.lent in
    let nets : N b < length (filled (λ p. rest_of (asset_at b p)) (N b) rests₀) = rw (filled-length (λ p. rest_of (asset_at b p)) (N b) rests₀) l.of-rests in
    record {
      rateable = record { passed = p; checked = checked; count = given.count; exposed = exposed d z };
      rated = rated;
      rowed = rowed given.parties;
      placed = placed b places₀ l.of_places d.at_places;
      covered-size = rw (d.amounts.parts, length-sets) l.of-covered;
      rests-size = rw (d.amounts.remainders, length-sets) nets;
      parts = parted (taken p) l.of-covered nets (filled_at (λ p. rest_of (asset_at b p)) (N b) rests₀ l.of-rests) d.amounts;
    }
