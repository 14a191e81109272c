use mathlib.Core.Path.{◌≡◌, sym, ◌∙◌}
use Prim.Native.Nat.{◌≤◌, ◌<◌}
use native.Mathlib.Omega.{arith}
use Rattle.book.specs.Records.{N, asset_at}
use Rattle.book.specs.HeaderLaws.{header-counts}
use Rattle.exposure.specs.Values.{of_reinsurance}
use Rattle.assets.specs.Entered.{less_netted}
use Rattle.assets.proofs.Sums.{below-start, below_step, below-room, below_end}
use Rattle.assets.proofs.Laws.{reinsurance-sum, values-most, stressed-most}
use Rattle.book_values.proofs.check_book.Goals as goal
use Rattle.book_values.proofs.check_book.Goals.{After-pick-stressed, After-pick-values, In-loop-place}

pub loop-place-init : goal.loop-place-init
loop-place-init c = record { started = omega arith; of_values = below-start _ _; of-stressed = below-start _ _ }

-- in the loop the place is an asset's
here : (c : In-loop-place) → c.loop-place.place ≤ N c.args.b.now
here c = omega (arith, c.loop-place-test.true, (header-counts _ c.header_at-h.ensures).1)

pub asset_at-a-requires : goal.asset_at-a-requires
asset_at-a-requires c =
    (c.assets_of-assets.ensures, c.loop-place.invariant.started, omega (arith, here c, c.requires.assets), omega (arith, here c, c.requires.size))

value-is : (c : After-pick-values) → c.pick-values.result ≡ of_reinsurance (λ a. a.value) (asset_at c.args.b.now c.loop-place.place)
value-is c = rw (c.pick-values.ensures, c.is_reinsurance-treaty.ensures, c.asset_at-a.ensures)

above-is : (c : After-pick-stressed) → c.pick-stressed.result ≡ of_reinsurance less_netted (asset_at c.args.b.now c.loop-place.place)
above-is c = rw (c.pick-stressed.ensures, c.saturating_sub-above.ensures, c.stressed_of.ensures, c.is_reinsurance-treaty.ensures, c.asset_at-a.ensures)

pub overflow_add-values : goal.overflow_add-values
overflow_add-values c = record { fits = below-room c.loop-place.invariant.of_values (here (goal.at.overflow_add-values c).In-loop-place) (value-is c) (values-most _ c.requires) }

pub overflow_add-stressed : goal.overflow_add-stressed
overflow_add-stressed c = record { fits = below-room c.loop-place.invariant.of-stressed (here (goal.at.overflow_add-stressed c).In-loop-place) (above-is c) (stressed-most _ c.requires) }

pub loop-place-preserved : goal.loop-place-preserved
loop-place-preserved c =
    let k = c.loop-place.invariant in
    let h = here (goal.at.loop-place-preserved c).In-loop-place in
    record { started = omega arith; of_values = below_step k.of_values h (value-is (goal.at.loop-place-preserved c).After-pick-values); of-stressed = below_step k.of-stressed h (above-is c) }

pub check_sums-requires : goal.check_sums-requires
check_sums-requires c =
    let B = c.args.b.now in
    let k = c.loop-place.invariant in
    let past : N B < c.loop-place.place = omega (arith, c.loop-place-test.false, (header-counts _ c.header_at-h.ensures).1) in
    (c.requires, below_end k.of_values past ∙ sym (reinsurance-sum B (λ a. a.value)), below_end k.of-stressed past ∙ sym (reinsurance-sum B less_netted))
