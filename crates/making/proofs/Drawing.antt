-- What the passes ask for, and what they leave.
use mathlib.Core.List.{List}
use mathlib.Core.Path.{◌≡◌}
use Prim.Native.Nat.{ℕ, ◌≤◌, ◌<◌}
use native.Mathlib.Omega.{arith}
use lib.ListN.{length, get_or}
use Rattle.words.specs.Tables.{filled-length, filled_at}
use Rattle.book.specs.Records.{N, asset_at}
use Rattle.book.specs.Accepted.{Accepted}
use Rattle.parties.specs.Rows.{Parties}
use Rattle.assets.specs.declared.Values.{Values}
use Rattle.assets.specs.Assets as assets
use Rattle.assets.specs.Shares.{rest_of}
use Rattle.assets.specs.Halves.{Halved, added-length}
use Rattle.covering.specs.Pass.{Known, Coverable, Covers}
use Rattle.covering.specs.Start.{ready}
use Rattle.cells.specs.declared.Sums.{Sums}
use Rattle.cells.specs.Cells.{Zeros, Placed, Tabled, Posted}
use Rattle.cells.specs.CellLaws.{placed, tabled}
use Rattle.fund.specs.Fund.{Lent, sums_of, Drew, Exposed, Summed}

pub known : {b words terms rows : List ℕ} → Parties b words terms rows → Known b terms
known p = record { size = p.terms-size; each = p.term }

module _ {b starts₀ draws₀ halves₀ rests₀ places₀ covered₀ : List ℕ} (l : Lent b starts₀ draws₀ halves₀ rests₀ places₀ covered₀) where
  pub lent : assets.AssetRoom b starts₀ draws₀ halves₀ rests₀ places₀
  lent =
      record {
        of-starts = l.of-starts;
        of-draws = l.of-draws;
        of-halves = l.of-halves;
        undrawn = l.undrawn;
        of-rests = l.of-rests;
        of_places = l.of_places;
      }

  module _ (acc : Accepted b) {starts draws sums rests places : List ℕ} {v : Values} (q : assets.Valued b starts₀ draws₀ halves₀ rests₀ places₀ starts draws sums rests places v) where
    pub pass-halves : 0 < length sums
    pass-halves = rw (q.nets, added-length b (N b) 1 halves₀) (omega (arith, l.of-halves))

    pub pass-ready : {half : List ℕ} → Halved sums half → Coverable b starts draws half rests
    pass-ready h =
        rw (q.marks, q.on, q.there)
        (ready b starts₀ draws₀ halves₀ rests₀ acc l.of-starts l.of-draws l.of-halves l.of-rests l.unmarked l.undrawn (rw q.nets at h))

    pub pass-placed : Placed b places
    pass-placed = placed b places₀ l.of_places q.each-cell

    there : (p : ℕ) → 0 < p → p ≤ N b → get_or rests p 0 ≡ rest_of (asset_at b p)
    there p g h = rw q.there (filled_at (λ p. rest_of (asset_at b p)) (N b) rests₀ l.of-rests p g h)

    rests-long : N b < length rests
    rests-long = rw (q.there, filled-length (λ p. rest_of (asset_at b p)) (N b) rests₀) l.of-rests

    module _ {half halves rests' covered : List ℕ} (h : Halved sums half) (k : Covers b covered₀ half rests covered halves rests') where
      pub pass-tabled : Tabled b covered rests'
      pass-tabled = tabled acc l.of-covered rests-long there k

      module _ {groups : ℕ} {cells₀ cells : List ℕ} {s : Sums} (t : Posted b groups cells₀ cells s) where
        pub sums-are : s ≡ sums_of b
        sums-are = rw (← t.w, ← t.free)

        pub drew : Drew b groups starts₀ draws₀ halves₀ rests₀ places₀ covered₀ cells₀ starts draws halves rests' places covered cells
        drew =
            record {
              marks = q.marks;
              on = q.on;
              half = half;
              halved = rw q.nets at h;
              amounts = rw q.there at k;
              at_places = q.each-cell;
              exposed = rw sums-are at t;
            }

        pub summed : Summed b v s
        summed = record { of-assets = q.sums; of-exposures = sums-are }

pub exposed : {b : List ℕ} {groups : ℕ} {starts₀ draws₀ halves₀ rests₀ places₀ covered₀ cells₀ starts draws halves rests places covered cells : List ℕ}
    → Drew b groups starts₀ draws₀ halves₀ rests₀ places₀ covered₀ cells₀ starts draws halves rests places covered cells → Zeros groups cells₀ → Exposed b groups cells
exposed {cells₀ = cells₀} d z = record { before = cells₀; posted = d.exposed; size = omega (arith, d.exposed.size, z.size) }
