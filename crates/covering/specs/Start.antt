-- Tables that are filled out of zeros are ready for the pass over the mitigants: rest_le, ready.
use Rattle.std.specs.Prelude.{List, ◌≡◌, refl, ℕ, zero, suc, ◌+◌, ◌≤◌, ◌<◌, length, get_or, set}
use Rattle.std.proofs.Common.{◌∙◌, arith, length-set}
use Rattle.words.specs.Choice.{if-le}
use Rattle.words.specs.Tables.{filled, filled-length, filled_at}
use Rattle.wire.specs.Bytes.{M}
use Rattle.book.specs.declared.Asset.{Asset}
use Rattle.book.specs.Records.{C, N, K, counterparty_at, asset_at}
use Rattle.book.specs.Fields.{linked}
use Rattle.book.specs.Accepted.{Accepted, AssetFits}
use Rattle.exposure.proofs.ValueLaws.{net-le}
use Rattle.assets.specs.Marks.{mark_of, marked}
use Rattle.assets.specs.Shares.{rest_of, draws_on}
use Rattle.assets.specs.Halves.{added, Halved, added-length, halves_are}
use Rattle.covering.specs.Owners.{owned}
use Rattle.covering.specs.Pass.{Coverable}

pub rest_le : (c : ℕ) (a : Asset) → AssetFits c a → rest_of a ≤ M
unfolding rest_of
rest_le c a f = if-le (linked a) (omega arith) (net-le c a f)

marked-length : (b : List ℕ) (more place first : ℕ) (t : List ℕ) → length (marked b t place first more) ≡ length t
unfolding marked
marked-length b zero place first t = refl
marked-length b (suc more) place first t = marked-length b more (place + 1) (first + (asset_at b place).count) (set t first (mark_of b place)) ∙ length-set t first (mark_of b place)

abbrev draws_at : List ℕ → ℕ → ℕ
draws_at b p = draws_on (counterparty_at b) (asset_at b p)

abbrev there_at : List ℕ → ℕ → ℕ
there_at b p = rest_of (asset_at b p)

module _ (b starts draws halves₀ rests : List ℕ) (acc : Accepted b) (ls : K b + 1 < length starts) (ld : N b < length draws) (lh : C b < length halves₀) (lr : N b < length rests)
    (unmarked : (q : ℕ) → get_or starts q 0 ≡ 0) (undrawn : (q : ℕ) → get_or halves₀ q 0 ≡ 0) {halves : List ℕ} (half : Halved (added b halves₀ 1 (N b)) halves) where
  pub ready : Coverable b (marked b starts 1 1 (N b)) (filled (λ p. draws_on (counterparty_at b) (asset_at b p)) (N b) draws) halves (filled (λ p. rest_of (asset_at b p)) (N b) rests)
  ready =
      record {
        starts-size = omega (arith, marked-length b (N b) 1 1 starts);
        draws-size = omega (arith, filled-length (draws_at b) (N b) draws);
        halves-size = omega (arith, half.size, added-length b (N b) 1 halves₀);
        rests-size = omega (arith, filled-length (there_at b) (N b) rests);
        owned = owned b starts acc ls unmarked;
        on = filled_at (draws_at b) (N b) draws ld;
        of-nobody = half.of-nobody;
        halved = halves_are b acc halves₀ lh undrawn half;
        there = filled_at (there_at b) (N b) rests lr;
      }
