-- Bounds of exposures.
--   all-le             those of an accepted book add up to at most 900 × M
use Rattle.std.specs.Prelude.{Bool, true, false, List, ◌≡◌, refl, ℕ, zero, suc, ◌+◌, ◌*◌, ◌≤◌, ◌<◌}
use Rattle.std.proofs.Common.{arith}
use Rattle.words.specs.Words.{sum_of}
use Rattle.words.specs.Sums.{sum-append}
use Rattle.wire.specs.Bytes.{M}
use Rattle.book.specs.declared.Counterparty.{Counterparty}
use Rattle.book.specs.Records.{C, N, counterparty_at, asset_at}
use Rattle.book.specs.Fields.{linked}
use Rattle.book.specs.Book.{Holding, holdings_from, book_of}
use Rattle.book.specs.Accepted.{Accepted}
use Rattle.exposure.specs.declared.Exposure.{Exposure}
use Rattle.exposure.specs.Values.{net}
use Rattle.exposure.proofs.ValueLaws.{net-le}
use Rattle.exposure.specs.Parts.{half_of, left_after, exposures_of, each_drawing, exposures}
use Rattle.exposure.specs.PartLaws.{parts-net}
use Rattle.covering.specs.Covered.{holding_at}

abbrev amount : Exposure → ℕ
amount x = x.amount

holding-le : (cs : ℕ → Counterparty) (left : ℕ → ℕ) (h : Holding) → net h.asset ≤ M → sum_of amount (exposures_of cs left h) ≤ M
unfolding exposures_of sum_of
holding-le cs left h k = by (linked h.asset) refl
  where
    by : (t : Bool) → linked h.asset ≡ t → sum_of amount (exposures_of cs left h) ≤ M
    by true e = rw e (omega arith)
    by false e = omega (arith, parts-net cs left h e)

holdings-le : (b : List ℕ) → Accepted b → (left : ℕ → ℕ) (more place first : ℕ) → 0 < place → place + more ≤ N b + 1
    → sum_of amount (each_drawing (counterparty_at b) (exposures_of (counterparty_at b)) left (holdings_from b place first more)) ≤ more * M
unfolding sum_of each_drawing holdings_from
holdings-le b acc left zero place first l h = omega arith
holdings-le b acc left (suc more) place first l h =
    let cs = counterparty_at b in
    let a = asset_at b place in
    let this = holding_at b place first in
    let next = left_after cs left this in
    omega (
      arith,
      sum-append amount (exposures_of cs left this) (each_drawing cs (exposures_of cs) next (holdings_from b (place + 1) (first + a.count) more)),
      holding-le cs left this (net-le (C b) a (acc.asset place l (omega arith))),
      holdings-le b acc next more (place + 1) (first + a.count) (omega arith) (omega arith),
    )

pub all-le : (b : List ℕ) → Accepted b → sum_of (λ (x : Exposure). x.amount) (exposures (book_of b)) ≤ 900 * M
unfolding exposures book_of
all-le b acc = omega (arith, acc.assets, holdings-le b acc (half_of (holdings_from b 1 1 (N b))) (N b) 1 1 (omega arith) (omega arith))
