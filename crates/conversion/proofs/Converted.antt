-- Laws of the converted book, of a book b that is Narrow (`narrow`: one that the converter's checks let pass).
--   converted-is      only byte 4 is another
--   rebuilt-is        the old book's bytes again
--   converted-long    as long
--   converted-book    the same records
--   converted-check   the same refusals of 5 to 13 and 17
use Rattle.std.proofs.Common.{Ok}
use mathlib.Core.List.{List, ◌∷◌}
use mathlib.Core.Path.{◌≡◌, refl, sym, ap, ap₂, fun_ext, ◌∙◌}
use Prim.Native.Nat.{ℕ, zero, suc, ◌+◌, ◌*◌, ◌-◌, ◌/◌, ◌%◌, ◌≤◌, ◌<◌}
use native.Mathlib.Omega.{arith}
use lib.ListN.{length, set, length-set}
use lib.Seq.{get_or-set_same, get_or-set_other, set-set, set_comm, set-get_or}
use borrow.Author.Tests.{leb-true, eqb-true}
use Rattle.words.specs.Words.{◌≤?◌, ◌=?◌}
use Rattle.wire.specs.Bytes.{byte_at, u16_at}
use Rattle.refusal.specs.declared.Refusal.{Refusal}
use Rattle.refusal.specs.declared.Refusal.TheVariants.{BookLength, BookMark, BookVersion, SpecialistEntry, ManyMitigants}
use Rattle.refusal.specs.Chain.{refuse◌unless◌, ◌and_then◌}
use Rattle.refusal.specs.Laws.{then-first, then-rest, unless-fine, each-good, first-same}
use Rattle.book.specs.declared.Asset.{Asset}
use Rattle.book.specs.declared.Mitigant.{Mitigant}
use Rattle.book.specs.Records.{header_size, asset_size, version, C, N, K, specialist, asset_start, count_in, desk_in, counterparty_at, asset_from, asset_at, mitigant_at}
use Rattle.book.specs.Book.{mitigants_from, holdings_from, book_of}
use Rattle.book.specs.Check.{book_marked, counts_fit, amounts_fit, good_counterparty, good_asset, good_mitigant, entry_allowed, counts_add, header_check, counterparties_check, assets_check, mitigants_check, counts_check, records_check, specialist_check, book_check}
use Rattle.conversion.specs.Conversion.{versioned, recounted, converted, rebuilt, first_check, narrow_check, Narrow}
use Rattle.conversion.proofs.Reading.{SameBut4, past, u16-same, u64-same, base_same, counterparty-same, good-same, assets-same, mitigant-same, asset-same}

pub narrow : (b : List ℕ) → first_check b ≡ Ok tt → narrow_check b ≡ Ok tt → Narrow b
unfolding first_check narrow_check
narrow b e f =
    let size = refuse BookLength unless header_size ≤? length b in
    let mark = refuse BookMark unless book_marked b in
    let first = refuse BookVersion unless version b =? 1 in
    record {
      long = leb-true header_size (length b) (unless-fine BookLength (header_size ≤? length b) (then-first size (mark and_then first) e));
      first = eqb-true (version b) 1 (unless-fine BookVersion (version b =? 1) (then-rest mark first (then-rest size (mark and_then first) e)));
      few = λ p l k. leb-true (asset_at b p).count 255 (each-good ManyMitigants (λ place. (asset_at b place).count ≤? 255) (N b) 1 f p l (omega arith));
    }

-- ---- the bytes

-- assets that are given the bytes 6 and 7 that they have
recounted-own : (six seven : Asset → ℕ) (b : List ℕ) (n : ℕ)
    → ((p : ℕ) → 0 < p → p ≤ n → (six (asset_at b p) ≡ byte_at b (asset_start b p + 6)) × (seven (asset_at b p) ≡ byte_at b (asset_start b p + 7)))
    → recounted six seven b n ≡ b
unfolding recounted
recounted-own six seven b zero h = refl
recounted-own six seven b (suc n) h =
    let at = asset_start b (suc n) in
    let own = h (suc n) (omega arith) (omega arith) in
    rw (recounted-own six seven b n (λ p l k. h p l (omega arith)), own.0, own.1, set-get_or b (at + 6) 0, set-get_or b (at + 7) 0)

-- a book with version 1 given version v
versioned-own : (b : List ℕ) (v : ℕ) → byte_at b 5 ≡ 0 → v < 256 → versioned b v ≡ set b 4 v
versioned-own b v e l =
    let m : v % 256 ≡ v = omega arith in
    let d : v / 256 ≡ 0 = omega arith in
    let own : set b 5 0 ≡ b = rw (sym e) (set-get_or b 5 0) in
    rw (m, d) (set_comm b 4 5 v 0 (λ q. omega arith) ∙ ap (λ (s : List ℕ). set s 4 v) own)

module _ (b : List ℕ) (w : Narrow b) where
  -- bytes 4 and 5
  low-is : byte_at b 4 ≡ 1
  unfolding u16_at
  low-is = omega (arith, w.first)

  high_is : byte_at b 5 ≡ 0
  unfolding u16_at
  high_is = omega (arith, w.first)

  -- bytes 6 and 7 of an asset
  both : (p : ℕ) → byte_at b (asset_start b p + 6) + byte_at b (asset_start b p + 7) * 256 ≡ (asset_at b p).count
  unfolding asset_from u16_at
  both p = let next : asset_start b p + 6 + 1 ≡ asset_start b p + 7 = omega arith in rw (w.first, next)

  desk-none : (p : ℕ) → (asset_at b p).desk ≡ 0
  unfolding asset_from
  desk-none p = rw w.first

  seven_is : (p : ℕ) → 0 < p → p ≤ N b → byte_at b (asset_start b p + 7) ≡ 0
  seven_is p l k = omega (arith, w.few p l k, both p)

  six-is : (p : ℕ) → 0 < p → p ≤ N b → byte_at b (asset_start b p + 6) ≡ (asset_at b p).count
  six-is p l k = omega (arith, seven_is p l k, both p)

  -- the book with version 2
  two : List ℕ
  two = set b 4 2

  pub converted-is : converted b ≡ set b 4 2
  unfolding converted
  converted-is =
      rw (recounted-own (λ a. a.count) (λ a. a.desk) b (N b) (λ p l k. (sym (six-is p l k), desk-none p ∙ sym (seven_is p l k)))) (versioned-own b 2 high_is (omega arith))

  is-two : converted b ≡ two
  unfolding two
  is-two = converted-is

  same : SameBut4 b two
  unfolding two
  same = record { size = length-set b 4 2; each = λ k ne. get_or-set_other b 4 k 2 0 ne }

  pub converted-long : length (converted b) ≡ length b
  converted-long = ap length is-two ∙ same.size

  version-two : version two ≡ 2
  unfolding two u16_at
  version-two = omega (arith, get_or-set_same b 4 2 0 (omega (arith, w.long)), past same 5 (omega arith), high_is)

  counts_same : N two ≡ N b
  counts_same = u16-same same 8 (omega arith)

  start-same : (p : ℕ) → asset_start two p ≡ asset_start b p
  start-same p = ap (λ (n : ℕ). n + asset_size * (p - 1)) (assets-same same)

  six-two : (p : ℕ) → 0 < p → p ≤ N b → byte_at two (asset_start b p + 6) ≡ (asset_at b p).count
  six-two p l k = past same (asset_start b p + 6) (omega arith) ∙ six-is p l k

  seven-two : (p : ℕ) → 0 < p → p ≤ N b → byte_at two (asset_start b p + 7) ≡ 0
  seven-two p l k = past same (asset_start b p + 7) (omega arith) ∙ seven_is p l k

  asset-two : (p : ℕ) → 0 < p → p ≤ N b → asset_at two p ≡ asset_at b p
  unfolding asset_from
  asset-two p l k =
      let at = asset_start b p in
      let count : count_in two at ≡ count_in b at = rw version-two (six-two p l k) in
      let desk : desk_in two at ≡ desk_in b at = rw version-two (seven-two p l k ∙ sym (desk-none p)) in
      asset-same same p count desk

  back-to-one : set two 4 1 ≡ b
  unfolding two
  back-to-one = let one : set b 4 1 ≡ b = rw (sym low-is) (set-get_or b 4 0) in set-set b 4 2 1 ∙ one

  pub rebuilt-is : rebuilt (converted b) ≡ b
  unfolding rebuilt
  rebuilt-is =
      let own : (p : ℕ) → 0 < p → p ≤ N two → ((asset_at two p).count % 256 ≡ byte_at two (asset_start two p + 6)) × ((asset_at two p).count / 256 ≡ byte_at two (asset_start two p + 7)) = λ p l k.
      let h : p ≤ N b = omega (arith, counts_same) in
      let few = w.few p l h in
      rw (asset-two p l h, start-same p) (omega (arith, six-two p l h), omega (arith, seven-two p l h)) in
      rw (is-two, recounted-own (λ a. a.count % 256) (λ a. a.count / 256) two (N two) own)
      (versioned-own two 1 (past same 5 (omega arith) ∙ high_is) (omega arith) ∙ back-to-one)

  -- ---- the records

  mitigants-two : (count place : ℕ) → mitigants_from two place count ≡ mitigants_from b place count
  unfolding mitigants_from
  mitigants-two zero place = refl
  mitigants-two (suc count) place = ap₂ (λ (m : Mitigant) (ms : List Mitigant). m ∷ ms) (mitigant-same same place) (mitigants-two count (place + 1))

  holdings-two : (more place m : ℕ) → 0 < place → place + more ≤ N b + 1 → holdings_from two place m more ≡ holdings_from b place m more
  unfolding holdings_from
  holdings-two zero place m l h = refl
  holdings-two (suc more) place m l h =
      let count = (asset_at b place).count in
      rw (asset-two place l (omega arith), mitigants-two count m, holdings-two more (place + 1) (m + count) (omega arith) (omega arith))

  all_two : holdings_from two 1 1 (N two) ≡ holdings_from b 1 1 (N b)
  all_two = rw counts_same (holdings-two (N b) 1 1 (omega arith) (omega arith))

  pub converted-book : book_of (converted b) ≡ book_of b
  unfolding book_of
  converted-book =
      let who : counterparty_at two ≡ counterparty_at b = fun_ext (counterparty-same same) in
      rw (is-two, all_two, who, u64-same same 16 (omega arith), base_same same, u64-same same 32 (omega arith), u16-same same 6 (omega arith))

  -- ---- the refusals

  specialist-two : specialist two ≡ specialist b
  specialist-two = ap (λ (n : ℕ). n =? 1) (past same 12 (omega arith))

  marked-two : book_marked two ≡ book_marked b
  marked-two =
      let at : (k : ℕ) → (k ≡ 4 → ⊥) → byte_at two k ≡ byte_at b k = same.each in
      rw (at 0 (λ e. omega arith), at 1 (λ e. omega arith), at 2 (λ e. omega arith), at 3 (λ e. omega arith), at 12 (λ e. omega arith), at 13 (λ e. omega arith), at 14 (λ e. omega arith), at 15 (λ e. omega arith))

  counts-two : counts_fit two ≡ counts_fit b
  counts-two = rw (same.size, u16-same same 6 (omega arith), u16-same same 8 (omega arith), u16-same same 10 (omega arith))

  amounts-two : amounts_fit two ≡ amounts_fit b
  amounts-two = rw (u64-same same 16 (omega arith), base_same same, u64-same same 32 (omega arith))

  header-two : header_check two ≡ header_check b
  unfolding header_check
  header-two = rw (counts-two, amounts-two, marked-two, version-two, w.first)

  counterparties-two : counterparties_check two ≡ counterparties_check b
  unfolding counterparties_check
  counterparties-two = rw (u16-same same 6 (omega arith)) (first-same Refusal.Counterparty (good_counterparty two) (good_counterparty b) (C b) 1 (λ q l h. good-same same q))

  assets-two : assets_check two ≡ assets_check b
  unfolding assets_check
  assets-two =
      rw counts_same
      (first-same Refusal.Asset (λ p. good_asset (C two) (asset_at two p)) (λ p. good_asset (C b) (asset_at b p)) (N b) 1
      (λ q l h. ap₂ good_asset (u16-same same 6 (omega arith)) (asset-two q l (omega arith))))

  mitigants-check-two : mitigants_check two ≡ mitigants_check b
  unfolding mitigants_check
  mitigants-check-two =
      rw (u16-same same 10 (omega arith), u16-same same 6 (omega arith))
      (first-same Refusal.Mitigant (λ p. good_mitigant (C b) (mitigant_at two p)) (λ p. good_mitigant (C b) (mitigant_at b p)) (K b) 1 (λ q l h. ap (good_mitigant (C b)) (mitigant-same same q)))

  counts-check-two : counts_check two ≡ counts_check b
  unfolding counts_check counts_add
  counts-check-two = rw (all_two, u16-same same 10 (omega arith))

  specialist-check-two : specialist_check two ≡ specialist_check b
  unfolding specialist_check
  specialist-check-two =
      rw (counts_same, specialist-two)
      (first-same SpecialistEntry (λ p. entry_allowed (specialist b) (asset_at two p)) (λ p. entry_allowed (specialist b) (asset_at b p)) (N b) 1 (λ q l h. ap (entry_allowed (specialist b)) (asset-two q l (omega arith))))

  pub converted-check : book_check (converted b) ≡ book_check b
  unfolding book_check records_check
  converted-check =
      rw (is-two, same.size, header-two, counterparties-two, assets-two, mitigants-check-two, counts-check-two, specialist-check-two)
