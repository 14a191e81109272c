-- "Tiers (A1, A2)", and C-11's (P46): the tier of an exposure, or no_limit.
--   tier_of tier_by lower_tier                          by kind and counterparty
--   reinsurance_tier graded_tier ungraded_tier by_months    of kind 9
use Rattle.std.specs.Prelude.{not, ◌&&◌, ◌||◌, ℕ, if◌then◌else◌}
use Rattle.words.specs.Words.{◌≤?◌, ◌=?◌}
use Rattle.book.specs.declared.Kind.TheVariants.{Bank, HomeGovernment, ProvincialGovernment, LifeCompany}
use Rattle.book.specs.declared.Counterparty.{Counterparty}
use Rattle.book.specs.Fields.{◌is◌, graded, related, affiliate, second_limb}
use Rattle.cascade.specs.Cascade.{tiers}
use Rattle.exposure.specs.declared.Exposure.{Exposure}

-- "no limit": no tier has this number
abbrev pub no_limit : ℕ
no_limit = tiers

-- "Kind 9, by its counterparty's kind and flags: graded gives e if kind 4 and not related, or if bit 2 is set whatever the kind;
-- else g if bit 1 and not kind 4; else h"
unfoldable pub graded_tier : Counterparty → ℕ
graded_tier who =
    if (who is LifeCompany && not (related who)) || second_limb who then 9
    else if affiliate who && not (who is LifeCompany) then 6
    else 3

-- "full limit for months 0 to 2, first percent 3 to 11, second 12 to 23; otherwise i"
abbrev pub by_months : ℕ → ℕ → ℕ → ℕ → ℕ
by_months months full first second =
    if months ≤? 2 then full
    else if months ≤? 11 then first
    else if months ≤? 23 then second
    else 1

-- "Ungraded with an entry: (..)"; "entry class (0 none, 1 e, 2 g)". C-11: "Entry class 3 marks an identified retrocessionaire that was graded on
-- entry"; "ungraded, months 0 to 2 give tier 13, 3 to 11 tier 14, 12 to 23 tier 15, from 24 the ordinary rule with no entry"
unfoldable pub ungraded_tier : Exposure → ℕ
ungraded_tier x =
    if x.entry =? 1 then by_months x.months 9 8 7
    else if x.entry =? 2 then by_months x.months 6 5 4
    else if x.entry =? 3 then by_months x.months 13 14 15
    else 1

-- the tier of kind 9: graded, or "Ungraded". C-11: of entry class 3 "Graded gives tier 13 whatever the months"
unfoldable pub reinsurance_tier : Exposure → Counterparty → ℕ
reinsurance_tier x who =
    if graded who then (if x.entry =? 3 then 13 else graded_tier who)
    else ungraded_tier x

-- "6 (traded), 8 (property): h. 10 (premiums owed) with graded kind 4: f. 11 (any other): i. Kind 7 (loan), and any of the above that
-- fails its condition: h if graded, else i. Kind 9, by its counterparty's kind and flags"
unfoldable pub lower_tier : Exposure → Counterparty → ℕ
lower_tier x who =
    if x.kind =? 6 || x.kind =? 8 then 2
    else if x.kind =? 10 && who is LifeCompany && graded who then 10
    else if x.kind =? 11 then 0
    else if x.kind =? 9 then reinsurance_tier x who
    else if graded who then 2 else 0

-- "Kind 1 (government guaranteed) with home government, and kind 2 (life policy) with a related registered life company: no limit.
-- Kind 3 (bank bill, guarantee, letter) with a bank, 5 (guaranteed by a province) with provincial: c. 4 (deposit) with a bank: d."
unfoldable pub tier_by : Exposure → Counterparty → ℕ
tier_by x who =
    if x.kind =? 1 && who is HomeGovernment then no_limit
    else if x.kind =? 2 && who is LifeCompany && related who then no_limit
    else if x.kind =? 3 && who is Bank then 11
    else if x.kind =? 5 && who is ProvincialGovernment then 11
    else if x.kind =? 4 && who is Bank then 12
    else lower_tier x who

-- the tier of an exposure, where cs are the counterparties by place
unfoldable pub tier_of : (ℕ → Counterparty) → Exposure → ℕ
tier_of cs x = tier_by x (cs x.counterparty)
