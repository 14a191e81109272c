-- Sums over a book.
--   amount_of                        the exposures that pass a test
--   exposure_of a3_exposure_of         a group's in a tier
--   W all_net linked_net unlimited    the whole fund's
use Rattle.std.specs.Prelude.{Bool, not, ◌&&◌, List, ℕ, ◌+◌, if◌then◌else◌}
use Rattle.words.specs.Words.{◌=?◌, sum_of}
use Rattle.book.specs.declared.Kind.TheVariants.{LifeCompany}
use Rattle.book.specs.Fields.{◌is◌, linked}
use Rattle.book.specs.Book.{Book, Holding, top_of}
use Rattle.exposure.specs.declared.Exposure.{Exposure}
use Rattle.exposure.specs.Values.{net}
use Rattle.exposure.specs.Parts.{exposures}
use Rattle.exposure.specs.Tier.{tier_of, no_limit}

-- the sum of the exposures that pass a test
unfoldable pub amount_of : (Exposure → Bool) → List Exposure → ℕ
amount_of test xs = sum_of (λ (x : Exposure). if test x then x.amount else 0) xs

-- "A group's exposure in a tier is all that its counterparties have there in covered parts and remainders"
unfoldable pub exposure_of : Book → ℕ → ℕ → ℕ
exposure_of B g t = amount_of (λ x. top_of B.counterparty x.counterparty =? g && tier_of B.counterparty x =? t) (exposures B)

-- A3: of these, "exposures to counterparties not of kind 4"
unfoldable pub a3_exposure_of : Book → ℕ → ℕ → ℕ
a3_exposure_of B g t =
    amount_of
    (λ x. top_of B.counterparty x.counterparty =? g && tier_of B.counterparty x =? t && not (B.counterparty x.counterparty is LifeCompany))
    (exposures B)

-- "W, the whole fund's tier c exposure of kind 3"
unfoldable pub W : Book → ℕ
W B = amount_of (λ x. tier_of B.counterparty x =? 11 && x.kind =? 3) (exposures B)

-- "all net (linked too)"
unfoldable pub all_net : Book → ℕ
all_net B = sum_of (λ (h : Holding). net h.asset) B.holdings

-- "linked nets"
unfoldable pub linked_net : Book → ℕ
linked_net B = sum_of (λ (h : Holding). if linked h.asset then net h.asset else 0) B.holdings

-- "unlimited (linked nets and exposures without limit)"
unfoldable pub unlimited : Book → ℕ
unlimited B = linked_net B + amount_of (λ x. tier_of B.counterparty x =? no_limit) (exposures B)
