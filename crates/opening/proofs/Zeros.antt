-- Tables of zeros.
use mathlib.Core.List.{List}
use mathlib.Core.Path.{◌≡◌}
use Prim.Native.Nat.{ℕ, ◌+◌, ◌*◌, ◌≤◌, ◌<◌}
use native.Mathlib.Omega.{arith}
use lib.ListN.{length, replicate, length-replicate}
use Rattle.book.specs.Records.{C, N, K}
use Rattle.book.specs.Accepted.{Accepted}
use Rattle.rows.specs.Rows.{columns}
use Rattle.parties.specs.Rows.{tops_to, Fillable, Filled}
use Rattle.parties.specs.RowLaws.{tops-le, parties-of}
use Rattle.cascade.specs.Cascade.{tiers}
use Rattle.cells.specs.Cells.{Zeros}
use Rattle.fund.specs.Fund.{Passed, Lent}
use Rattle.report.specs.Tables.{Room}
use Rattle.billing.proofs.Written.{at-zeros}
use Rattle.opening.specs.Tables.{RoomFor, RowsFor, Prepared}

long : (n : ℕ) → length (replicate {A = ℕ} n 0) ≡ n
long n = length-replicate {A = ℕ} n 0

-- for the pass over the counterparties
pub zero-parties : (c n : ℕ) → c < n → Fillable c (replicate n 0) (replicate n 0) (replicate n 0) (replicate n 0) (replicate n 0)
zero-parties c n h =
    let l : c < length (replicate {A = ℕ} n 0) = omega (arith, long n) in
    record { words_size = l; terms-size = l; tops-blank = record { size = l; zeros = λ p _. at-zeros n p }; rows-size = l; heads-size = l }

-- for the cells and lines of the groups
module _ {groups cells sets lines : ℕ} (r : RowsFor groups cells sets lines) where
  pub zero-cells : Zeros groups (replicate cells 0)
  zero-cells = record { size = omega (arith, long cells, r.of-cells); each = at-zeros cells }

  pub zero_room : Room groups (replicate sets 0) (replicate lines 0)
  zero_room = record { of-sets = omega (arith, long sets, r.of-sets); empty = at-zeros sets; of-list = omega (arith, long lines, r.of-lines) }

-- there are no more groups than counterparties
pub groups-le : (b : List ℕ) {c groups : ℕ} → groups ≡ tops_to b c → groups ≤ c
groups-le b {c} e = omega (arith, tops-le b c)

pub fewer : {groups more cells sets lines : ℕ} → groups ≤ more → RowsFor more cells sets lines → RowsFor groups cells sets lines
fewer h r =
    record {
      of-cells = omega (arith, r.of-cells);
      of-sets = omega (arith, r.of-sets);
      of-lines = omega (arith, r.of-lines);
      few-cells = r.few-cells;
      few-sets = r.few-sets;
      few-lines = r.few-lines;
    }

-- a row for each of so many groups
pub rows-of : {groups : ℕ} (size : ℕ) → size ≤ 500 → groups ≤ size → RowsFor groups (columns * size) size (tiers * size)
rows-of size few h =
    record {
      of-cells = omega arith;
      of-sets = h;
      of-lines = omega arith;
      few-cells = omega arith;
      few-sets = omega arith;
      few-lines = omega arith;
    }

-- for so many counterparties, and four times as many assets and mitigants
pub room-of : {b : List ℕ} (size : ℕ) → size ≤ 500 → C b ≤ size → N b ≤ 4 * size → K b ≤ 4 * size → RoomFor b (size + 1) (4 * size + 1) (4 * size + 1) (4 * size + 2)
room-of size few c n k =
    record {
      of-parties = omega arith;
      of-assets = omega arith;
      of-mitigants = omega arith;
      of-starts = omega arith;
      few-parties = omega arith;
      few-assets = omega arith;
      few-mitigants = omega arith;
      few-starts = omega arith;
    }

-- for any book
pub room-for-all : {b : List ℕ} → Accepted b → RoomFor b 501 901 1501 1502
room-for-all a =
    record {
      of-parties = omega (arith, a.counterparties);
      of-assets = omega (arith, a.assets);
      of-mitigants = omega (arith, a.mitigants);
      of-starts = omega (arith, a.mitigants);
      few-parties = omega arith;
      few-assets = omega arith;
      few-mitigants = omega arith;
      few-starts = omega arith;
    }

module _ {b : List ℕ} {parties assets mitigants starts : ℕ} (r : RoomFor b parties assets mitigants starts) where
  -- for the passes over assets and mitigants
  pub zero-lent : Lent b (replicate starts 0) (replicate assets 0) (replicate parties 0) (replicate assets 0) (replicate assets 0) (replicate mitigants 0)
  zero-lent =
      let l : N b < length (replicate {A = ℕ} assets 0) = omega (arith, long assets, r.of-assets) in
      record {
        of-starts = omega (arith, long starts, r.of-starts);
        of-draws = l;
        of-halves = omega (arith, long parties, r.of-parties);
        of-rests = l;
        of_places = l;
        of-covered = omega (arith, long mitigants, r.of-mitigants);
        unmarked = at-zeros starts;
        undrawn = at-zeros parties;
      }

  -- behind the pass over the counterparties, of which there are c
  pub prepared : {schedule : List ℕ} {c groups : ℕ} {words terms tops rows heads : List ℕ} → Passed schedule b → c ≡ C b
      → Filled b c (replicate parties 0) (replicate parties 0) (replicate parties 0) (replicate parties 0) (replicate parties 0) words terms tops rows heads groups
      → Prepared schedule b groups {parties = parties} {assets = assets} {mitigants = mitigants} {starts = starts}
      (record {
        words = words;
        terms = terms;
        halves = replicate parties 0;
        rests = replicate assets 0;
        covered = replicate mitigants 0;
        tops = tops;
        rows = rows;
        heads = heads;
        draws = replicate assets 0;
        places = replicate assets 0;
        starts = replicate starts 0;
      })
  prepared p e f =
      let q = rw e at f in
      let z = zero-parties (C b) parties r.of-parties in
      record {
        passed = p;
        provided = record { count = q.count; parties = parties-of z q; lent = zero-lent };
        headed = record { before = replicate parties 0; room = z.heads-size; stored = q.of-heads };
      }
