-- A book that refusals 5 to 13 and 17 let pass is an accepted one.
--   header-fits   what refusals 6 to 9 leave of a header
--   accepted      what refusals 5 to 13 and 17 leave of a book
use Rattle.std.specs.Prelude.{Bool, true, false, ◌||◌, List, [], ◌∷◌, ◌≡◌, ℕ, ◌+◌, ◌-◌, ◌/◌, ◌%◌, ◌≤◌, ◌<◌, ℤ, pos, negsuc, neg_ℤ, length, if◌then◌else◌, Ok}
use Rattle.std.proofs.Common.{arith, leb-true, ltb-true, eqb-true}
use Rattle.std.specs.Int.Signed.{le_z}
use Rattle.words.specs.Words.{◌≤?◌, ◌<?◌, ◌=?◌}
use Rattle.words.specs.Choice.{both, each-true, never}
use Rattle.wire.specs.Bytes.{M, byte_at, u16_at}
use Rattle.refusal.specs.declared.Refusal.{Refusal}
use Rattle.refusal.specs.declared.Refusal.TheVariants.{BookLength, BookMark, BookVersion, BookCounts, BookAmounts, MitigantCounts, SpecialistEntry}
use Rattle.refusal.specs.Chain.{refuse◌unless◌, ◌and_then◌}
use Rattle.refusal.specs.Laws.{then-first, then-rest, unless-fine, each-good}
use Rattle.book.specs.declared.Asset.{Asset}
use Rattle.book.specs.declared.Mitigant.{Mitigant}
use Rattle.book.specs.Records.{header_size, most_counterparties, most_assets, most_mitigants, C, N, K, specialist, total, base, excluded, book_size, counterparty_start, counterparty_at, asset_at, mitigant_at}
use Rattle.book.specs.Fields.{reinsurance}
use Rattle.book.specs.Check.{book_marked, version_known, counts_fit, amounts_fit, good_counterparty, in_book, no_reinsurance_fields, reinsurance_fields_fit, amounts_within, good_asset, good_mitigant, entry_allowed, counts_add, header_check, counterparties_check, assets_check, mitigants_check, counts_check, records_check, specialist_check, book_check}
use Rattle.book.specs.Accepted.{Within, HeaderFits, AssetFits, MitigantFits, Accepted}

-- ---- the header
within : (z : ℤ) → le_z (neg_ℤ (pos M)) z ≡ true → le_z z (pos M) ≡ true → Within z
within (pos n) l h = leb-true n M h
within (negsuc n) l h = omega (arith, leb-true n (M - 1) l)

pub header-fits : (b : List ℕ) → header_check b ≡ Ok tt → HeaderFits b
unfolding header_check
header-fits b e =
    let counts = refuse BookCounts unless counts_fit b in
    let amounts = refuse BookAmounts unless amounts_fit b in
    let e1 = then-rest (refuse BookMark unless book_marked b) ((refuse BookVersion unless version_known b) and_then counts and_then amounts) e in
    let e2 = then-rest (refuse BookVersion unless version_known b) (counts and_then amounts) e1 in
    let w = each-true (C b ≤? most_counterparties) ((N b ≤? most_assets) ∷ (K b ≤? most_mitigants) ∷ (length b =? book_size b) ∷ []) (unless-fine BookCounts (counts_fit b) (then-first counts amounts e2)) in
    let v = each-true (total b ≤? M) ((excluded b ≤? M) ∷ le_z (neg_ℤ (pos M)) (base b) ∷ le_z (base b) (pos M) ∷ []) (unless-fine BookAmounts (amounts_fit b) (then-rest counts amounts e2)) in
    record {
      counterparties = leb-true (C b) most_counterparties w.0;
      assets = leb-true (N b) most_assets w.1.0;
      mitigants = leb-true (K b) most_mitigants w.1.1.0;
      size = eqb-true (length b) (book_size b) w.1.1.1.0;
      total = leb-true (total b) M v.0;
      base = within (base b) v.1.1.0 v.1.1.1.0;
      excluded = leb-true (excluded b) M v.1.0;
    }

-- ---- records
in-book : (c place : ℕ) → in_book c place ≡ true → (0 < place) × (place ≤ c)
in-book c place e = let h = both (1 ≤? place) (place ≤? c) e in (leb-true 1 place h.0, leb-true place c h.1)

netted : (a : Asset) (t : Bool) → (if t then reinsurance_fields_fit a else no_reinsurance_fields a) ≡ true → t ≡ true → a.offsets ≤ a.value
netted a true e r = leb-true a.offsets a.value (both (a.months =? 0 || 0 <? a.entry) (a.offsets ≤? a.value) e).1
netted a false e r = never r

asset-fits : (c : ℕ) (a : Asset) → good_asset c a ≡ true → AssetFits c a
unfolding good_asset
asset-fits c a e =
    let h = each-true (1 ≤? a.kind) ((a.kind ≤? 11) ∷ (a.flags <? 4) ∷ (a.entry ≤? 3) ∷ in_book c a.counterparty ∷ amounts_within a ∷ (if reinsurance a then reinsurance_fields_fit a else no_reinsurance_fields a) ∷ []) e in
    let who = in-book c a.counterparty h.1.1.1.1.0 in
    let w = each-true (a.value ≤? M) ((a.offsets ≤? M) ∷ (a.deductions ≤? M) ∷ (a.insurance ≤? M) ∷ (a.combination ≤? M) ∷ []) h.1.1.1.1.1.0 in
    record {
      kind-low = leb-true 1 a.kind h.0;
      kind = omega (arith, leb-true a.kind 11 h.1.0);
      flags = ltb-true a.flags 4 h.1.1.0;
      entry = leb-true a.entry 3 h.1.1.1.0;
      low = who.0;
      high = who.1;
      value = leb-true a.value M w.0;
      offsets = leb-true a.offsets M w.1.0;
      deductions = leb-true a.deductions M w.1.1.0;
      insurance = leb-true a.insurance M w.1.1.1.0;
      combination = leb-true a.combination M w.1.1.1.1.0;
      netted = netted a (reinsurance a) h.1.1.1.1.1.1.0;
    }

mitigant-fits : (c : ℕ) (m : Mitigant) → good_mitigant c m ≡ true → MitigantFits c m
unfolding good_mitigant
mitigant-fits c m e =
    let h = each-true (1 ≤? m.form) ((m.form ≤? 5) ∷ (m.flags <? 32) ∷ in_book c m.counterparty ∷ (m.value ≤? M) ∷ []) e in
    let who = in-book c m.counterparty h.1.1.1.0 in
    record {
      form-low = leb-true 1 m.form h.0;
      form = omega (arith, leb-true m.form 5 h.1.0);
      flags = ltb-true m.flags 32 h.1.1.0;
      low = who.0;
      high = who.1;
      value = leb-true m.value M h.1.1.1.1.0;
    }

counterparty-fits : (b : List ℕ) (p : ℕ) → good_counterparty b p ≡ true
    → ((counterparty_at b p).parent < p) × ((counterparty_at b p).grade < 8) × ((counterparty_at b p).flags < 8)
unfolding good_counterparty counterparty_at
counterparty-fits b p e =
    let at = counterparty_start p in
    let h = each-true (u16_at b at <? p) ((byte_at b (at + 2) % 16 ≤? 7) ∷ (byte_at b (at + 2) / 16 ≤? 4) ∷ (byte_at b (at + 3) <? 8) ∷ []) e in
    (ltb-true (u16_at b at) p h.0, omega (arith, leb-true (byte_at b (at + 2) % 16) 7 h.1.0), ltb-true (byte_at b (at + 3)) 8 h.1.1.1.0)

-- the entry that a specialist fund alone may have
allowed : (s : Bool) (a : Asset) → entry_allowed s a ≡ true → a.entry ≡ 3 → s ≡ true
allowed true a t e = t
allowed false a t e = never (rw e at t)

-- ---- the book
pub accepted : (b : List ℕ) → book_check b ≡ Ok tt → Accepted b
unfolding book_check records_check counterparties_check assets_check mitigants_check counts_check specialist_check
accepted b e =
    let e0 = then-rest (refuse BookLength unless header_size ≤? length b) (header_check b and_then records_check b and_then specialist_check b) e in
    let h = header-fits b (then-first (header_check b) (records_check b and_then specialist_check b) e0) in
    let e4 = then-rest (header_check b) (records_check b and_then specialist_check b) e0 in
    let e1 = then-first (records_check b) (specialist_check b) e4 in
    let e2 = then-rest (counterparties_check b) (assets_check b and_then mitigants_check b and_then counts_check b) e1 in
    let e3 = then-rest (assets_check b) (mitigants_check b and_then counts_check b) e2 in
    let counterparty : (p : ℕ) → 0 < p → p ≤ C b → good_counterparty b p ≡ true = λ p l g. each-good Refusal.Counterparty (good_counterparty b) (C b) 1 (then-first (counterparties_check b) (assets_check b and_then mitigants_check b and_then counts_check b) e1) p l (omega arith) in
    record {
      counterparties = h.counterparties;
      assets = h.assets;
      mitigants = h.mitigants;
      size = h.size;
      total = h.total;
      base = h.base;
      excluded = h.excluded;
      counted = eqb-true (counts_add b) (K b) (unless-fine MitigantCounts (counts_add b =? K b) (then-rest (mitigants_check b) (counts_check b) e3));
      parent = λ p l g. (counterparty-fits b p (counterparty p l g)).0;
      grade = λ p l g. (counterparty-fits b p (counterparty p l g)).1;
      flags = λ p l g. (counterparty-fits b p (counterparty p l g)).2;
      asset = λ p l g. asset-fits (C b) (asset_at b p) (each-good Refusal.Asset (λ place. good_asset (C b) (asset_at b place)) (N b) 1 (then-first (assets_check b) (mitigants_check b and_then counts_check b) e2) p l (omega arith));
      mitigant = λ p l g. mitigant-fits (C b) (mitigant_at b p) (each-good Refusal.Mitigant (λ place. good_mitigant (C b) (mitigant_at b place)) (K b) 1 (then-first (mitigants_check b) (counts_check b) e3) p l (omega arith));
      specialist =
          λ p l g e.
          allowed (specialist b) (asset_at b p)
          (each-good SpecialistEntry (λ place. entry_allowed (specialist b) (asset_at b place)) (N b) 1 (then-rest (records_check b) (specialist_check b) e4) p l (omega arith))
          e;
    }
