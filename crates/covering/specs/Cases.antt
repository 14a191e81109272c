-- What mitigants cover and leave, computed. A mitigant's flags: 8 P42b to m terms, 17 secured and held in the same currency, 4 P40 terms.
use Rattle.std.specs.Prelude.{List, [], ◌∷◌, ◌≡◌, refl, ℕ, ◌-◌}
use Rattle.std.proofs.lemmas.List.Edits.{sets}
use Rattle.book.specs.declared.Kind.TheVariants.{Other, Bank, LifeCompany}
use Rattle.book.specs.declared.Counterparty.{Counterparty}
use Rattle.book.specs.Book.{Holding}
use Rattle.exposure.specs.Examples.{opened, party, plain, reinsured, mitigant, held, at}
use Rattle.exposure.specs.Parts.{half_of, covered_of, each_drawing}
use Rattle.assets.specs.Shares.{draws_on}
use Rattle.assets.specs.Halves.{endless}
use Rattle.covering.specs.Covered.{rests_from, halves_after}

-- a counterparty at place 1, a good bank at place 2
abbrev with-bank : Counterparty → ℕ → Counterparty
with-bank who = at (who ∷ party Bank 1 0 ∷ [])

-- T9: reinsurance net 101 with a good letter of 101; two mitigants one after the other, between them one that isn't recognised; the same on a linked asset
abbrev treaty : Holding
treaty = held (reinsured 1 101 0 101) (mitigant 5 8 2 101 ∷ [])

abbrev loan : Holding
loan = held (plain 7 0 1 100) (mitigant 1 17 2 30 ∷ mitigant 1 0 2 50 ∷ mitigant 4 4 2 90 ∷ [])

abbrev linked_loan : Holding
linked_loan = held (plain 7 1 1 100) (mitigant 1 17 2 30 ∷ mitigant 4 4 2 90 ∷ [])

abbrev all : List Holding
all = treaty ∷ loan ∷ linked_loan ∷ []

-- what each mitigant covers, and what is left of the halves
abbrev covering : Counterparty → List Holding → List ℕ
covering who hs = each_drawing (with-bank who) (covered_of (with-bank who)) (half_of hs) hs

t9-half : covering (party Other 1 0) (treaty ∷ []) ≡ 50 ∷ []
unfolding opened
t9-half = refl

t9-whole : covering (party LifeCompany 1 0) (treaty ∷ []) ≡ 101 ∷ []
unfolding opened
t9-whole = refl

in_order : covering (party Other 1 0) (loan ∷ []) ≡ 30 ∷ 0 ∷ 70 ∷ []
unfolding opened
in_order = refl

linked-none : covering (party Other 1 0) (linked_loan ∷ []) ≡ 0 ∷ 0 ∷ []
unfolding opened
linked-none = refl

-- whose half is drawn on: a treaty's counterparty's, nobody's for a registered reinsurer's, an affiliate's and any other asset
draws-cases :
    draws_on (with-bank (party Other 1 0)) treaty.asset ∷ draws_on (with-bank (party LifeCompany 1 0)) treaty.asset
    ∷ draws_on (with-bank (party Other 1 2)) treaty.asset ∷ draws_on (with-bank (party Other 1 0)) loan.asset ∷ []
    ≡ 1 ∷ 0 ∷ 0 ∷ 0 ∷ []
unfolding opened draws_on
draws-cases = refl

-- the tables behind all three: entry 0 and what stands past the last place stay
covered-table : sets (9 ∷ 9 ∷ 9 ∷ 9 ∷ 9 ∷ 9 ∷ 9 ∷ 9 ∷ []) 1 (covering (party Other 1 0) all) ≡ 9 ∷ 50 ∷ 30 ∷ 0 ∷ 70 ∷ 0 ∷ 0 ∷ 9 ∷ []
unfolding opened
covered-table = refl

rests-table : sets (0 ∷ 101 ∷ 100 ∷ 0 ∷ 9 ∷ []) 1 (rests_from (with-bank (party Other 1 0)) (half_of all) (0 ∷ 101 ∷ 100 ∷ 0 ∷ 9 ∷ []) 1 all) ≡ 0 ∷ 51 ∷ 0 ∷ 0 ∷ 9 ∷ []
unfolding opened rests_from
rests-table = refl

-- by counterparty: a half that is drawn down to 0, and to 20 by a letter of 30; another counterparty's stays; the loan draws 100 on nobody's
abbrev short : Holding
short = held (reinsured 1 101 0 101) (mitigant 5 8 2 30 ∷ [])

halves-table : halves_after (with-bank (party Other 1 0)) (half_of all) (endless ∷ 50 ∷ 7 ∷ []) all ≡ (endless - 100) ∷ 0 ∷ 7 ∷ []
unfolding opened halves_after draws_on
halves-table = refl

halves-left : halves_after (with-bank (party Other 1 0)) (half_of (short ∷ loan ∷ [])) (endless ∷ 50 ∷ 7 ∷ []) (short ∷ loan ∷ []) ≡ (endless - 100) ∷ 20 ∷ 7 ∷ []
unfolding opened halves_after draws_on
halves-left = refl
