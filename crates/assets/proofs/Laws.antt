-- The fund's sums by place, and their bounds: at most M for each of 900 assets, all-net-le, linked-net-le, values-le, netted-le, stressed-sum-le;
-- "its offsets are netted liabilities, at most its value", netted-le-values.
use mathlib.Core.Path.{◌≡◌, refl}
use mathlib.Core.List.{List}
use mathlib.Core.Bool.{Bool, true, false}
use Prim.Native.Nat.{ℕ, ◌*◌, ◌≤◌}
use native.Mathlib.Omega.{arith}
use Rattle.std.specs.Prelude.{if◌then◌else◌}
use Rattle.words.specs.Choice.{if-le}
use Rattle.wire.specs.Bytes.{M}
use Rattle.book.specs.declared.Asset.{Asset}
use Rattle.book.specs.Records.{C, N}
use Rattle.book.specs.Check.{counts_add}
use Rattle.book.specs.Fields.{linked, reinsurance}
use Rattle.book.specs.Book.{book_of}
use Rattle.book.specs.Accepted.{Accepted, AssetFits}
use Rattle.exposure.specs.Values.{net, of_reinsurance, over_reinsurance, reinsurance_values, all_netted, stressed_less_netted}
use Rattle.exposure.proofs.ValueLaws.{stressed-le, net-le}
use Rattle.exposure.specs.Sums.{all_net, linked_net}
use Rattle.assets.specs.Entered.{linked_of, less_netted}
use Rattle.assets.proofs.Sums.{over_assets, over-holdings, sum-le, sum-most}

-- ---- the definitions' sums by place
module _ (b : List ℕ) where
  pub all-sum : all_net (book_of b) ≡ over_assets net b 1 (N b)
  unfolding all_net book_of
  all-sum = over-holdings net b (N b) 1 1

  pub linked-sum : linked_net (book_of b) ≡ over_assets linked_of b 1 (N b)
  unfolding linked_net book_of
  linked-sum = over-holdings linked_of b (N b) 1 1

  pub reinsurance-sum : (f : Asset → ℕ) → over_reinsurance f (book_of b) ≡ over_assets (of_reinsurance f) b 1 (N b)
  unfolding over_reinsurance book_of
  reinsurance-sum f = over-holdings (of_reinsurance f) b (N b) 1 1

  pub count-sum : counts_add b ≡ over_assets (λ a. a.count) b 1 (N b)
  unfolding counts_add
  count-sum = over-holdings (λ a. a.count) b (N b) 1 1

  -- ---- bounds
  module _ (acc : Accepted b) where
    pub net-most : over_assets net b 1 (N b) ≤ M * 900
    net-most = sum-most b acc net (λ a f. net-le (C b) a f)

    pub linked-most : over_assets linked_of b 1 (N b) ≤ M * 900
    linked-most = sum-most b acc linked_of (λ a f. if-le (linked a) (net-le (C b) a f) (omega arith))

    pub reinsurance-most : (f : Asset → ℕ) → ((a : Asset) → AssetFits (C b) a → f a ≤ M) → over_assets (of_reinsurance f) b 1 (N b) ≤ M * 900
    reinsurance-most f h = sum-most b acc (of_reinsurance f) (λ a k. if-le (reinsurance a) (h a k) (omega arith))

    pub values-most : over_assets (of_reinsurance (λ a. a.value)) b 1 (N b) ≤ M * 900
    values-most = reinsurance-most (λ a. a.value) (λ a k. k.value)

    pub netted-most : over_assets (of_reinsurance (λ a. a.offsets)) b 1 (N b) ≤ M * 900
    netted-most = reinsurance-most (λ a. a.offsets) (λ a k. k.offsets)

    pub stressed-most : over_assets (of_reinsurance less_netted) b 1 (N b) ≤ M * 900
    stressed-most = reinsurance-most less_netted (λ a k. omega (arith, stressed-le (C b) a k))

    pub all-net-le : all_net (book_of b) ≤ M * 900
    all-net-le = rw all-sum net-most

    pub linked-net-le : linked_net (book_of b) ≤ M * 900
    linked-net-le = rw linked-sum linked-most

    pub values-le : reinsurance_values (book_of b) ≤ M * 900
    values-le = rw (reinsurance-sum (λ a. a.value)) values-most

    pub netted-le : all_netted (book_of b) ≤ M * 900
    netted-le = rw (reinsurance-sum (λ a. a.offsets)) netted-most

    pub stressed-sum-le : stressed_less_netted (book_of b) ≤ M * 900
    stressed-sum-le = rw (reinsurance-sum less_netted) stressed-most

    -- "its offsets are netted liabilities, at most its value"
    pub netted-le-values : all_netted (book_of b) ≤ reinsurance_values (book_of b)
    netted-le-values =
        rw (reinsurance-sum (λ a. a.offsets), reinsurance-sum (λ a. a.value))
        (sum-le b acc (of_reinsurance (λ a. a.offsets)) (of_reinsurance (λ a. a.value)) each)
      where
        each : (a : Asset) → AssetFits (C b) a → of_reinsurance (λ x. x.offsets) a ≤ of_reinsurance (λ x. x.value) a
        each a k = by (reinsurance a) k.netted
          where
            by : (t : Bool) → (t ≡ true → a.offsets ≤ a.value) → (if t then a.offsets else 0) ≤ (if t then a.value else 0)
            by true h = h refl
            by false h = omega arith
