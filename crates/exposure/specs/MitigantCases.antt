-- Mitigants, computed: each form recognised, and with each single condition removed not; what is covered, and what it becomes.
-- A mitigant's flags: 1 secured and held, 2 P35 or P36 terms, 4 P40 terms, 8 P42b to m terms, 16 same currency; 31 has all, 30, 29, 27, 23 and 15
-- lack one of them. A counterparty's: 1 related, 2 approved affiliate.
use Rattle.std.specs.Prelude.{Bool, true, false, List, [], ◌∷◌, ◌++◌, map, ◌≡◌, refl, ℕ}
use Rattle.book.specs.declared.Kind.{Kind}
use Rattle.book.specs.declared.Kind.TheVariants.{Other, Bank, HomeGovernment, ProvincialGovernment, LifeCompany}
use Rattle.book.specs.declared.Counterparty.{Counterparty}
use Rattle.book.specs.declared.Asset.{Asset}
use Rattle.book.specs.declared.Mitigant.{Mitigant}
use Rattle.book.specs.Book.{Holding}
use Rattle.exposure.specs.declared.Exposure.{Exposure}
use Rattle.exposure.specs.Parts.{recognised, covered_kind, half_covered, exposures}
use Rattle.exposure.specs.Examples.{opened, party, asset, plain, reinsured, mitigant, held, fund}

-- whether a mitigant of a form, flags and counterparty is recognised on a loan, and on reinsurance
abbrev on_loan : ℕ → ℕ → Counterparty → Bool
on_loan form flags who = recognised (plain 7 0 1 100) (mitigant form flags 1 100) who

abbrev on_reinsurance : ℕ → ℕ → Counterparty → Bool
on_reinsurance form flags who = recognised (reinsured 1 100 0 100) (mitigant form flags 1 100) who

-- cash and government security: no grade is asked
cash-cases :
    on_loan 1 31 (party Other 0 1) ∷ on_loan 1 30 (party Other 0 0) ∷ on_loan 1 15 (party Other 0 0)
    ∷ on_reinsurance 1 31 (party Other 0 1) ∷ on_reinsurance 1 30 (party Other 0 0) ∷ on_reinsurance 1 29 (party Other 0 0)
    ∷ on_reinsurance 1 28 (party Other 0 0) ∷ on_reinsurance 1 15 (party Other 0 0) ∷ []
    ≡ true ∷ false ∷ false ∷ true ∷ true ∷ true ∷ false ∷ false ∷ []
unfolding opened
cash-cases = refl

security-cases :
    on_loan 2 31 (party Other 0 1) ∷ on_loan 2 30 (party Other 0 0) ∷ on_loan 2 15 (party Other 0 0)
    ∷ on_reinsurance 2 31 (party Other 0 1) ∷ on_reinsurance 2 30 (party Other 0 0) ∷ on_reinsurance 2 29 (party Other 0 0)
    ∷ on_reinsurance 2 28 (party Other 0 0) ∷ on_reinsurance 2 15 (party Other 0 0) ∷ []
    ≡ true ∷ false ∷ false ∷ true ∷ true ∷ true ∷ false ∷ false ∷ []
unfolding opened
security-cases = refl

-- debt: grades 1 and 3, not 0 and 4
debt-cases :
    on_loan 3 31 (party Other 1 1) ∷ on_loan 3 31 (party Other 3 0) ∷ on_loan 3 31 (party Other 0 0) ∷ on_loan 3 31 (party Other 4 0)
    ∷ on_loan 3 30 (party Other 1 0) ∷ on_loan 3 15 (party Other 1 0)
    ∷ on_reinsurance 3 30 (party Other 1 0) ∷ on_reinsurance 3 30 (party Other 0 0) ∷ on_reinsurance 3 28 (party Other 1 0) ∷ on_reinsurance 3 15 (party Other 1 0) ∷ []
    ≡ true ∷ true ∷ false ∷ false ∷ false ∷ false ∷ true ∷ false ∷ false ∷ false ∷ []
unfolding opened
debt-cases = refl

-- a guarantee of a loan, by anyone: not related, graded, bit 2, no other bit
guarantee-cases :
    on_loan 4 4 (party Other 3 0) ∷ on_loan 4 4 (party Other 3 1) ∷ on_loan 4 4 (party Other 0 0) ∷ on_loan 4 4 (party Other 4 0) ∷ on_loan 4 27 (party Other 3 0) ∷ []
    ≡ true ∷ false ∷ false ∷ false ∷ false ∷ []
unfolding opened
guarantee-cases = refl

-- a guarantee of reinsurance: a bank, bit 3
reinsurance-guarantee-cases :
    on_reinsurance 4 8 (party Bank 3 0) ∷ on_reinsurance 4 8 (party Bank 3 1) ∷ on_reinsurance 4 8 (party Bank 0 0) ∷ on_reinsurance 4 23 (party Bank 3 0) ∷ on_reinsurance 4 31 (party Other 3 0) ∷ []
    ≡ true ∷ false ∷ false ∷ false ∷ false ∷ []
unfolding opened
reinsurance-guarantee-cases = refl

-- a letter of credit: as a guarantee of reinsurance, and on nothing else
letter-cases :
    on_reinsurance 5 8 (party Bank 3 0) ∷ on_reinsurance 5 8 (party Bank 3 1) ∷ on_reinsurance 5 8 (party Bank 0 0) ∷ on_reinsurance 5 23 (party Bank 3 0) ∷ on_reinsurance 5 31 (party Other 3 0) ∷ on_loan 5 31 (party Bank 3 0) ∷ []
    ≡ true ∷ false ∷ false ∷ false ∷ false ∷ false ∷ []
unfolding opened
letter-cases = refl

-- the kind of a covered part, by form and kind of counterparty
abbrev becomes : ℕ → Kind → ℕ
becomes form kind = covered_kind (mitigant form 31 1 100) (party kind 1 0)

kind-cases :
    becomes 1 Other ∷ becomes 2 Bank ∷ becomes 3 Bank ∷ becomes 5 Other ∷ becomes 4 Bank ∷ becomes 4 HomeGovernment ∷ becomes 4 ProvincialGovernment ∷ becomes 4 LifeCompany ∷ becomes 4 Other ∷ []
    ≡ 4 ∷ 1 ∷ 7 ∷ 3 ∷ 3 ∷ 1 ∷ 5 ∷ 7 ∷ 7 ∷ []
unfolding covered_kind
kind-cases = refl

-- half for reinsurance, but for a registered reinsurer and an approved affiliate; all of anything else
half-cases :
    half_covered (reinsured 1 0 0 0) (party Other 1 0) ∷ half_covered (reinsured 1 0 0 0) (party Other 1 5) ∷ half_covered (reinsured 1 0 0 0) (party LifeCompany 1 0)
    ∷ half_covered (reinsured 1 0 0 0) (party Other 1 2) ∷ half_covered (plain 7 0 1 0) (party Other 1 0) ∷ []
    ≡ true ∷ true ∷ false ∷ false ∷ false ∷ []
unfolding half_covered
half-cases = refl

-- a fund of holdings whose counterparty is at place 1; a good bank is at place 2, and another reinsurer at place 3; and of one asset
abbrev amounts_of : Counterparty → List Holding → List ℕ
amounts_of who hs = map (λ (x : Exposure). x.amount) (exposures (fund 0 0 (who ∷ party Bank 1 0 ∷ party Other 1 0 ∷ []) hs))

abbrev amounts : Counterparty → Asset → List Mitigant → List ℕ
amounts who a ms = amounts_of who (held a ms ∷ [])

-- T9: reinsurance net 101, a good letter of 101: covered 50; for a registered reinsurer 101
letter-half : amounts (party Other 1 0) (reinsured 1 101 0 101) (mitigant 5 8 2 101 ∷ []) ≡ 50 ∷ 51 ∷ []
unfolding opened
letter-half = refl

letter-whole : amounts (party LifeCompany 1 0) (reinsured 1 101 0 101) (mitigant 5 8 2 101 ∷ []) ≡ 101 ∷ 0 ∷ []
unfolding opened
letter-whole = refl

-- C-18. A treaty of a net with a counterparty and a good letter of some value; the same without; a linked one
abbrev lettered : ℕ → ℕ → ℕ → Holding
lettered who net value = held (reinsured who net 0 net) (mitigant 5 8 2 value ∷ [])

abbrev bare : ℕ → ℕ → Holding
bare who net = held (reinsured who net 0 net) []

abbrev linked_treaty : ℕ → ℕ → Holding
linked_treaty net value = held (asset 9 1 1 net 0 0 0 net) (mitigant 5 8 2 value ∷ [])

-- "Two treaties of 101 and 99 with good letters of 101 only on the first cover 100"; only on the second its net
one_of_two :
    amounts_of (party Other 1 0) (lettered 1 101 101 ∷ bare 1 99 ∷ []) ++ amounts_of (party Other 1 0) (bare 1 101 ∷ lettered 1 99 101 ∷ [])
    ≡ 100 ∷ 1 ∷ 99 ∷ 101 ∷ 99 ∷ 0 ∷ []
unfolding opened
one_of_two = refl

-- the first may draw all of it; "rounded down once"; what is drawn is what is covered; the second's draw is cut by the first's
drawn-in-order :
    amounts_of (party Other 1 0) (lettered 1 101 101 ∷ lettered 1 101 101 ∷ []) ++ amounts_of (party Other 1 0) (lettered 1 1 1 ∷ bare 1 1 ∷ [])
    ++ amounts_of (party Other 1 0) (lettered 1 50 90 ∷ lettered 1 150 60 ∷ lettered 1 10 10 ∷ [])
    ≡ 101 ∷ 0 ∷ 0 ∷ 101 ∷ 1 ∷ 0 ∷ 1 ∷ 50 ∷ 0 ∷ 55 ∷ 95 ∷ 0 ∷ 10 ∷ []
unfolding opened
drawn-in-order = refl

-- linked treaties neither add nor draw; another counterparty has its own half; a registered reinsurer and an affiliate have none
apart-cases :
    amounts_of (party Other 1 0) (linked_treaty 100 100 ∷ lettered 1 50 50 ∷ []) ++ amounts_of (party Other 1 0) (lettered 3 60 60 ∷ lettered 1 40 40 ∷ [])
    ++ amounts_of (party LifeCompany 1 0) (lettered 1 40 40 ∷ lettered 1 60 60 ∷ []) ++ amounts_of (party Other 1 2) (lettered 1 40 40 ∷ lettered 1 60 60 ∷ [])
    ≡ 25 ∷ 25 ∷ 30 ∷ 30 ∷ 20 ∷ 20 ∷ 40 ∷ 0 ∷ 60 ∷ 0 ∷ 40 ∷ 0 ∷ 60 ∷ 0 ∷ []
unfolding opened
apart-cases = refl

-- "that counterparty's": a reinsurer and its child, which are one group, have a half each
abbrev child : Counterparty
child = record { parent = 1; kind = Other; grade = 1; flags = 0 }

in-a-group : map (λ (x : Exposure). x.amount) (exposures (fund 0 0 (party Other 1 0 ∷ party Bank 1 0 ∷ child ∷ []) (lettered 1 100 100 ∷ bare 3 100 ∷ []))) ≡ 50 ∷ 50 ∷ 100 ∷ []
unfolding opened
in-a-group = refl

-- in order, each of what may still be covered; one that is not recognised covers nothing
in_order : amounts (party Other 0 0) (plain 7 0 1 100) (mitigant 1 17 2 30 ∷ mitigant 1 0 2 50 ∷ mitigant 4 4 2 90 ∷ mitigant 1 17 2 5 ∷ []) ≡ 30 ∷ 0 ∷ 70 ∷ 0 ∷ 0 ∷ []
unfolding opened
in_order = refl

-- a linked asset with mitigants gives no exposure
linked-case : amounts (party Other 0 0) (plain 7 1 1 100) (mitigant 1 17 2 30 ∷ mitigant 4 4 2 90 ∷ []) ≡ []
unfolding opened
linked-case = refl

-- a covered part goes by its mitigant, a remainder by its asset's own counterparty, kind, entry and months
abbrev downgraded : Asset
downgraded =
    record {
      kind = 9;
      flags = 0;
      entry = 2;
      months = 11;
      counterparty = 1;
      count = 1;
      desk = 0;
      value = 100;
      offsets = 0;
      deductions = 0;
      insurance = 0;
      combination = 100;
    }

parts-case :
    exposures (fund 0 0 (party Other 5 0 ∷ party Bank 1 0 ∷ []) (held downgraded (mitigant 4 8 2 20 ∷ []) ∷ []))
    ≡ record { counterparty = 2; kind = 3; entry = 0; months = 0; amount = 20 }
    ∷ record { counterparty = 1; kind = 9; entry = 2; months = 11; amount = 80 }
    ∷ []
unfolding opened
parts-case = refl
