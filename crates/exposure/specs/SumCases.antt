-- Sums of exposures, computed on one fund.
use Rattle.std.specs.Prelude.{[], ◌∷◌, ◌≡◌, refl}
use Rattle.book.specs.declared.Kind.TheVariants.{Other, Bank, HomeGovernment, ProvincialGovernment, LifeCompany}
use Rattle.book.specs.Book.{Book, parent_of, top_in, top_of}
use Rattle.exposure.specs.Sums.{exposure_of, a3_exposure_of, W, all_net, linked_net, unlimited}
use Rattle.exposure.specs.Examples.{opened, party, plain, reinsured, mitigant, held, fund}

-- 1 a bank, 2 a province, 3 the home government, 4 a graded reinsurer, 5 an ungraded name, 6 a related registered life company below 4; bills and
-- a deposit of the bank, a loan that the province guarantees, a loan with the bank's guarantee, reinsurance with the bank's letter, the home
-- government's paper, a linked bill, a linked loan with a mitigant, and reinsurance of 6
abbrev fund-of-all : Book
fund-of-all =
    fund 0 0 (party Bank 1 0 ∷ party ProvincialGovernment 1 0 ∷ party HomeGovernment 0 0 ∷ party Other 1 0 ∷ party Other 0 0 ∷ record { parent = 4; kind = LifeCompany; grade = 1; flags = 1 } ∷ [])
    (held (plain 3 0 1 1000) []
    ∷ held (plain 4 0 1 200) []
    ∷ held (plain 5 0 2 3000) []
    ∷ held (plain 7 0 5 40) (mitigant 4 4 1 30 ∷ [])
    ∷ held (reinsured 4 101 0 101) (mitigant 5 8 1 101 ∷ [])
    ∷ held (plain 1 0 3 600) []
    ∷ held (plain 3 1 1 50000) []
    ∷ held (plain 7 1 5 700000) (mitigant 4 4 1 30 ∷ [])
    ∷ held (reinsured 6 7 0 7) []
    ∷ [])

-- bills, the bank's guarantee and its letter; not the deposit, not kind 5, though in tier c too, not what is linked
w-case : W fund-of-all ≡ 1080
unfolding W opened
w-case = refl

all-net-case : all_net fund-of-all ≡ 754948
unfolding all_net opened
all-net-case = refl

linked-case : linked_net fund-of-all ≡ 750000
unfolding linked_net opened
linked-case = refl

-- linked nets and the home government's paper
unlimited-case : unlimited fund-of-all ≡ 750600
unfolding unlimited linked_net opened
unlimited-case = refl

-- the bank and the province in tier c; both names of a group in tier 3, of which A3 counts the one that isn't of kind 4; a remainder
exposure-case :
    exposure_of fund-of-all 1 11 ∷ exposure_of fund-of-all 2 11 ∷ exposure_of fund-of-all 4 3 ∷ a3_exposure_of fund-of-all 4 3 ∷ exposure_of fund-of-all 6 3 ∷ exposure_of fund-of-all 5 0 ∷ []
    ≡ 1080 ∷ 3000 ∷ 58 ∷ 51 ∷ 0 ∷ 10 ∷ []
unfolding exposure_of a3_exposure_of top_of top_in parent_of opened
exposure-case = refl
