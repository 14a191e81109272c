-- What the loop over the mitigants holds: what is to come, run on the tables as they are, gives what all of it gives on those of the start.
use mathlib.Core.List.{List}
use mathlib.Core.Path.{◌≡◌, refl, sym, ap, ◌∙◌}
use Prim.Native.Nat.{ℕ, suc, ◌+◌, ◌*◌, ◌-◌, ◌/◌, ◌%◌, ◌≤◌, ◌<◌, min, max}
use native.Mathlib.Omega.{arith}
use lib.ListN.{length, get_or, set, length-set}
use Rattle.std.specs.Prelude.{if◌then◌else◌}
use Rattle.wire.specs.Bytes.{M}
use Rattle.book.specs.Records.{C, N, K, counterparty_at, asset_at}
use Rattle.book.specs.Fields.{reinsurance}
use Rattle.book.specs.Book.{holdings_from, book_of}
use Rattle.book.specs.Check.{counts_add}
use Rattle.book.specs.Accepted.{Accepted}
use Rattle.exposure.specs.Parts.{half_of}
use Rattle.assets.specs.Marks.{owner_by}
use Rattle.assets.specs.Halves.{endless-enough}
use Rattle.covering.specs.Covered.{drawn_off, held_by}
use Rattle.covering.specs.Pass.{Offers, Coverable, Covers}
use Rattle.covering.specs.Owners.{OwnerFits, mark-odd, owner-next, inside}
use Rattle.covering.proofs.Run.{Tables, Leaves, part_at, still_at, run, draws-le, run-all}

-- a table as the function of the place
abbrev by_place : List ℕ → ℕ → ℕ
by_place t place = get_or t place 0

abbrev tables : List ℕ → List ℕ → List ℕ → Tables
tables covered halves rests = record { covered = covered; halves = halves; rests = rests }

pub record Running (b starts draws covered₀ halves₀ rests₀ covered halves rests : List ℕ) (own place : ℕ) : Type 0 where
  pub started : 0 < place
  pub within : place ≤ K b + 1
  pub covered-size : length covered ≡ length covered₀
  pub halves-size : length halves ≡ length halves₀
  pub rests-size : length rests ≡ length rests₀
  pub owner : own ≡ owner_by starts (place - 1)
  pub coming : run b (owner_by starts) (by_place draws) place (K b + 1 - place) (tables covered halves rests) ≡ run b (owner_by starts) (by_place draws) 1 (K b) (tables covered₀ halves₀ rests₀)

pub running-start : (b starts draws covered halves rests : List ℕ) → Running b starts draws covered halves rests covered halves rests 0 1
unfolding owner_by
running-start b starts draws covered halves rests =
    let d : K b + 1 - 1 ≡ K b = omega arith in
    record {
      started = omega arith;
      within = omega arith;
      covered-size = refl;
      halves-size = refl;
      rests-size = refl;
      owner = refl;
      coming = rw d;
    }

module _ {b starts draws covered₀ halves₀ rests₀ covered halves rests : List ℕ} {own place : ℕ} (k : Running b starts draws covered₀ halves₀ rests₀ covered halves rests own place) (acc : Accepted b) (r : Coverable b starts draws halves₀ rests₀) where
  module _ (h : place ≤ K b) {now : ℕ} (en : now ≡ max own (get_or starts place 0)) where
    owner-now : now ≡ owner_by starts place
    owner-now = en ∙ rw k.owner (sym (owner-next starts place k.started))

    owner-fits : OwnerFits b (1 + N b) now
    unfolding counts_add
    owner-fits = rw owner-now (inside (owner_by starts) b (N b) 1 1 place (omega arith) r.owned k.started (omega (arith, acc.counted)))

    pub own-above : 0 < now / 2
    own-above = owner-fits.above

    pub own-inside : now / 2 ≤ N b
    own-inside = omega (arith, owner-fits.below)

    own-odd : now % 2 ≡ (if reinsurance (asset_at b (now / 2)) then 1 else 0)
    own-odd = ap (λ (n : ℕ). n % 2) owner-fits.whole ∙ mark-odd b (now / 2)

    pub draws-inside : now / 2 < length draws
    draws-inside = omega (arith, own-inside, r.draws-size)

    pub rests-inside : now / 2 < length rests
    rests-inside = omega (arith, own-inside, k.rests-size, r.rests-size)

    pub on-inside : get_or draws (now / 2) 0 ≤ C b
    on-inside =
        let f = acc.asset (now / 2) own-above own-inside in
        rw (r.on (now / 2) own-above own-inside) (draws-le (counterparty_at b) (asset_at b (now / 2)) f.low (C b) f.high)

    pub halves-inside : get_or draws (now / 2) 0 < length halves
    halves-inside = omega (arith, on-inside, k.halves-size, r.halves-size)

    pub running-step : {offer still part : ℕ} → Offers b place (now % 2) offer → still ≡ still_at halves rests (now / 2) (get_or draws (now / 2) 0) → part ≡ min offer still
        → Running b starts draws covered₀ halves₀ rests₀ (set covered place part) (drawn_off (get_or draws (now / 2) 0) part halves) (drawn_off (now / 2) part rests) now (place + 1)
    unfolding run
    running-step {part = part} eo es em =
        let d : place + 1 - 1 ≡ place = omega arith in
        let ep : part ≡ part_at b place (now / 2) (still_at halves rests (now / 2) (get_or draws (now / 2) 0)) = rw es at (em ∙ eo.part (asset_at b (now / 2)) own-odd _) in
        let m : K b + 1 - place ≡ suc (K b + 1 - (place + 1)) = omega arith in
        record {
          started = omega arith;
          within = omega arith;
          covered-size = rw length-set k.covered-size;
          halves-size = rw length-set k.halves-size;
          rests-size = rw length-set k.rests-size;
          owner = rw d owner-now;
          coming = rw (ep, owner-now) (rw m at k.coming);
        }

  pub running-end : K b < place → Covers b covered₀ halves₀ rests₀ covered halves rests
  unfolding run book_of counts_add
  running-end h =
      let d : K b + 1 - place ≡ 0 = omega arith in
      let whole : held_by (holdings_from b 1 1 (N b)) ≡ K b = acc.counted in
      let left = half_of (holdings_from b 1 1 (N b)) in
      let leaves : Leaves left (N b * M) halves₀ = record { of-nobody = omega (arith, r.of-nobody, acc.assets, endless-enough); each = r.halved } in
      let all = run-all b (owner_by starts) (by_place draws) acc (N b) 1 1 left (tables covered₀ halves₀ rests₀) (omega arith) (omega arith) r.owned r.halves-size r.rests-size r.on (λ p l g. r.there p (omega arith) g) leaves in
      let end = (rw d at k.coming) ∙ (rw whole at all) in
      record {
        parts = ap (λ (t : Tables). t.covered) end;
        drawn = ap (λ (t : Tables). t.halves) end;
        remainders = ap (λ (t : Tables). t.rests) end;
      }
