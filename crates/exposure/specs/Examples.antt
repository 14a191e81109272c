-- Records and books for the computed cases, from the fields that matter there; every other field is 0.
use Rattle.std.specs.Prelude.{List, [], ◌∷◌, ℕ, ◌-◌, pos, length, if◌then◌else◌}
use Rattle.words.specs.Words.{◌=?◌, sum_of}
use Rattle.book.specs.declared.Kind.{Kind}
use Rattle.book.specs.declared.Kind.TheVariants.{Other}
use Rattle.book.specs.declared.Counterparty.{Counterparty}
use Rattle.book.specs.declared.Asset.{Asset}
use Rattle.book.specs.declared.Mitigant.{Mitigant}
use Rattle.book.specs.Book.{Book, Holding}
use Rattle.exposure.specs.Values.{stressed, net}
use Rattle.exposure.specs.Parts.{good_collateral, good_guarantee, recognised, covers, covered_kind, half_covered, treaty_net, half_of, may_be_covered, covered_by, covered_of, drawn_by, left_after, covered_part, remainder, parts_of, exposures_of, each_drawing, exposures}
use Rattle.exposure.specs.Tier.{graded_tier, ungraded_tier, reinsurance_tier, lower_tier, tier_by, tier_of}
use Rattle.exposure.specs.Sums.{amount_of}

-- whoever unfolds this opens every definition on the way from holdings to exposures and tiers
unfoldable pub opened : ℕ
unfolding exposures each_drawing exposures_of parts_of covered_part remainder left_after drawn_by covered_of covered_by covers recognised good_collateral good_guarantee covered_kind half_covered treaty_net half_of may_be_covered net stressed graded_tier ungraded_tier reinsurance_tier lower_tier tier_by tier_of amount_of sum_of
opened = 0

-- a counterparty by kind, grade and flags
abbrev pub party : Kind → ℕ → ℕ → Counterparty
party kind grade flags = record { parent = 0; kind = kind; grade = grade; flags = flags }

-- an asset by kind, flags, counterparty, value, offsets, deductions, insurance and combination stress
abbrev pub asset : ℕ → ℕ → ℕ → ℕ → ℕ → ℕ → ℕ → ℕ → Asset
asset kind flags who value offsets deductions insurance combination =
    record {
      kind = kind;
      flags = flags;
      entry = 0;
      months = 0;
      counterparty = who;
      count = 0;
      desk = 0;
      value = value;
      offsets = offsets;
      deductions = deductions;
      insurance = insurance;
      combination = combination;
    }

-- an asset of a kind other than 9, by kind, flags, counterparty and value
abbrev pub plain : ℕ → ℕ → ℕ → ℕ → Asset
plain kind flags who value = asset kind flags who value 0 0 0 0

-- reinsurance by counterparty, value, offsets and combination stress
abbrev pub reinsured : ℕ → ℕ → ℕ → ℕ → Asset
reinsured who value offsets combination = asset 9 0 who value offsets 0 0 combination

-- a mitigant by form, flags, counterparty and value
abbrev pub mitigant : ℕ → ℕ → ℕ → ℕ → Mitigant
mitigant form flags who value = record { form = form; flags = flags; counterparty = who; value = value }

-- an asset with its mitigants
abbrev pub held : Asset → List Mitigant → Holding
held a ms = record { asset = a; mitigants = ms }

-- the counterparty at a place, counted from 1
abbrev pub at : List Counterparty → ℕ → Counterparty
at [] place = party Other 0 0
at (c ∷ cs) place = if place =? 1 then c else at cs (place - 1)

-- a book by total, excluded assets, counterparties and holdings
abbrev pub fund : ℕ → ℕ → List Counterparty → List Holding → Book
fund total excluded cs hs =
    record { total = total; base = pos 0; excluded = excluded; counterparties = length cs; counterparty = at cs; holdings = hs }
