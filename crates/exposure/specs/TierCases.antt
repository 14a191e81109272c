-- Tiers, computed: each one reached, each condition failed, and the months at both sides of each step.
-- A counterparty's flags: 1 related, 2 approved affiliate, 4 second limb. 16 is no limit.
use Rattle.std.specs.Prelude.{Bool, true, ◌&&◌, ◌||◌, List, [], ◌∷◌, map, ◌≡◌, refl, ℕ, if◌then◌else◌}
use Rattle.words.specs.Words.{◌<?◌, ◌=?◌, every}
use Rattle.words.specs.Below.{all_below}
use Rattle.book.specs.declared.Kind.TheVariants.{Other, Bank, HomeGovernment, ProvincialGovernment, LifeCompany}
use Rattle.book.specs.declared.Counterparty.{Counterparty}
use Rattle.book.specs.Records.{kind_of}
use Rattle.exposure.specs.Tier.{tier_by}
use Rattle.exposure.specs.Examples.{opened, party}

-- the tier of an exposure of a kind, and of reinsurance with an entry and months
abbrev kind_tier : ℕ → Counterparty → ℕ
kind_tier kind who = tier_by (record { counterparty = 1; kind = kind; entry = 0; months = 0; amount = 1 }) who

abbrev aged : ℕ → ℕ → Counterparty → ℕ
aged entry months who = tier_by (record { counterparty = 1; kind = 9; entry = entry; months = months; amount = 1 }) who

-- no limit: kind 1 with home government, kind 2 with a related registered life company; neither with anyone else
free-cases :
    kind_tier 1 (party HomeGovernment 0 0) ∷ kind_tier 1 (party ProvincialGovernment 1 0) ∷ kind_tier 1 (party Bank 0 0)
    ∷ kind_tier 2 (party LifeCompany 0 1) ∷ kind_tier 2 (party LifeCompany 1 0) ∷ kind_tier 2 (party Other 0 1) ∷ []
    ≡ 16 ∷ 2 ∷ 0 ∷ 16 ∷ 2 ∷ 0 ∷ []
unfolding opened
free-cases = refl

-- c: kind 3 with a bank, 5 with provincial; d: 4 with a bank; no grade asked; else h if graded, else i
high-cases :
    kind_tier 3 (party Bank 0 0) ∷ kind_tier 3 (party Other 1 0) ∷ kind_tier 3 (party Other 0 0)
    ∷ kind_tier 5 (party ProvincialGovernment 0 0) ∷ kind_tier 5 (party HomeGovernment 3 0) ∷ kind_tier 5 (party Bank 4 0)
    ∷ kind_tier 4 (party Bank 0 0) ∷ kind_tier 4 (party LifeCompany 1 0) ∷ kind_tier 4 (party ProvincialGovernment 0 0) ∷ []
    ≡ 11 ∷ 2 ∷ 0 ∷ 11 ∷ 2 ∷ 0 ∷ 12 ∷ 2 ∷ 0 ∷ []
unfolding opened
high-cases = refl

-- h: 6 and 8 whoever it is; f: 10 with graded kind 4; i: 11 whoever it is; 7 by grade, 1 to 3 and no other
low-cases :
    kind_tier 6 (party Other 0 0) ∷ kind_tier 8 (party Other 0 0) ∷ kind_tier 10 (party LifeCompany 3 1) ∷ kind_tier 10 (party LifeCompany 0 0) ∷ kind_tier 10 (party LifeCompany 4 0)
    ∷ kind_tier 10 (party Bank 1 0) ∷ kind_tier 11 (party Bank 1 0) ∷ kind_tier 7 (party Bank 1 0) ∷ kind_tier 7 (party Bank 3 0) ∷ kind_tier 7 (party Bank 0 0) ∷ kind_tier 7 (party Bank 4 0) ∷ []
    ≡ 2 ∷ 2 ∷ 10 ∷ 0 ∷ 0 ∷ 2 ∷ 0 ∷ 2 ∷ 2 ∷ 0 ∷ 0 ∷ []
unfolding opened
low-cases = refl

-- graded reinsurance: e if kind 4 and not related, or with bit 2 whatever the kind; else g if bit 1 and not kind 4; else h. An entry counts for nothing
graded-cases :
    aged 0 0 (party LifeCompany 1 0) ∷ aged 0 0 (party LifeCompany 3 2) ∷ aged 0 0 (party LifeCompany 1 1) ∷ aged 0 0 (party LifeCompany 1 3) ∷ aged 0 0 (party LifeCompany 1 5)
    ∷ aged 0 0 (party Other 1 4) ∷ aged 0 0 (party Bank 1 6) ∷ aged 0 0 (party Other 1 2) ∷ aged 0 0 (party Bank 1 3) ∷ aged 0 0 (party Other 1 0) ∷ aged 0 0 (party Other 1 1)
    ∷ aged 1 0 (party Other 1 0) ∷ aged 2 24 (party LifeCompany 1 0) ∷ []
    ≡ 9 ∷ 9 ∷ 3 ∷ 3 ∷ 9 ∷ 9 ∷ 9 ∷ 6 ∷ 6 ∷ 3 ∷ 3 ∷ 3 ∷ 9 ∷ []
unfolding opened
graded-cases = refl

-- ungraded: full limit for months 0 to 2, first percent 3 to 11, second 12 to 23, otherwise i; the entry alone chooses e or g
entry-e-cases : map {B = ℕ} (λ m. aged 1 m (party Other 0 0)) (0 ∷ 2 ∷ 3 ∷ 11 ∷ 12 ∷ 23 ∷ 24 ∷ 255 ∷ []) ≡ 9 ∷ 9 ∷ 8 ∷ 8 ∷ 7 ∷ 7 ∷ 1 ∷ 1 ∷ []
unfolding opened
entry-e-cases = refl

entry-g-cases : map {B = ℕ} (λ m. aged 2 m (party LifeCompany 4 4)) (0 ∷ 2 ∷ 3 ∷ 11 ∷ 12 ∷ 23 ∷ 24 ∷ 255 ∷ []) ≡ 6 ∷ 6 ∷ 5 ∷ 5 ∷ 4 ∷ 4 ∷ 1 ∷ 1 ∷ []
unfolding opened
entry-g-cases = refl

-- ungraded without an entry: i
no-entry-cases : aged 0 0 (party LifeCompany 0 6) ∷ aged 0 0 (party Other 7 0) ∷ [] ≡ 1 ∷ 1 ∷ []
unfolding opened
no-entry-cases = refl

-- ---- entry 3 (C-11), with every kind and flags

-- both sides of each step of the months
abbrev steps : List ℕ
steps = 0 ∷ 2 ∷ 3 ∷ 11 ∷ 12 ∷ 23 ∷ 24 ∷ 255 ∷ []

-- a test of every kind, by its number, and of all flags
each_sort : (ℕ → ℕ → Bool) → Bool
each_sort test = all_below 5 (λ kind. all_below 8 (test kind))

-- graded, 1 to 3: e, g or h without an entry; tier 13 with entry 3 whatever the months
overrides : ℕ → ℕ → Bool
overrides kind flags =
    every (λ grade.
    let who = party (kind_of kind) grade flags in
    let without = aged 0 0 who in
    (without =? 9 || without =? 6 || without =? 3) && every (λ m. aged 3 m who =? 13) steps) (1 ∷ 2 ∷ 3 ∷ [])

-- ungraded, 0 and 4 to 7: tier 13 for months 0 to 2, 14 for 3 to 11, 15 for 12 to 23, otherwise 1
ages : ℕ → ℕ → Bool
ages kind flags =
    every (λ grade. every (λ m. aged 3 m (party (kind_of kind) grade flags) =? (if m <? 3 then 13 else if m <? 12 then 14 else if m <? 24 then 15 else 1)) steps)
    (0 ∷ 4 ∷ 5 ∷ 6 ∷ 7 ∷ [])

retroceded-graded-cases : each_sort overrides ≡ true
unfolding opened each_sort overrides all_below every
retroceded-graded-cases = refl

retroceded-ungraded-cases : each_sort ages ≡ true
unfolding opened each_sort ages all_below every
retroceded-ungraded-cases = refl
