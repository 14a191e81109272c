-- Refusals 5 to 13, and C-11's 17.
--   book_marked version_known counts_fit amounts_fit   the header's tests
--   good_counterparty good_asset good_mitigant      a record's; in_book, no_reinsurance_fields, reinsurance_fields_fit, amounts_within are parts of them
--   counts_add                                    the counts of mitigants added up
--   entry_allowed                                 whether an asset's entry may stand in a book that is a specialist fund's or not
--   header_check records_check book_check           the refusals 6 to 9, 10 to 13, and all with 17; counterparties_check, assets_check, mitigants_check, counts_check are 10 to 13
--   specialist_check                              17
use Rattle.std.specs.Prelude.{Bool, not, ◌&&◌, ◌||◌, List, ℕ, ◌+◌, ◌/◌, ◌%◌, pos, neg_ℤ, length, if◌then◌else◌}
use Rattle.std.specs.Int.Signed.{le_z}
use Rattle.words.specs.Words.{◌≤?◌, ◌<?◌, ◌=?◌, sum_of}
use Rattle.wire.specs.Bytes.{M, byte_at, u16_at}
use Rattle.refusal.specs.declared.Refusal.{Refusal}
use Rattle.refusal.specs.declared.Refusal.TheVariants.{BookLength, BookMark, BookVersion, BookCounts, BookAmounts, MitigantCounts, SpecialistEntry}
use Rattle.refusal.specs.Chain.{refuse◌unless◌, ◌and_then◌, refuse_each, Checked}
use Rattle.book.specs.declared.Asset.{Asset}
use Rattle.book.specs.declared.Mitigant.{Mitigant}
use Rattle.book.specs.Records.{header_size, most_counterparties, most_assets, most_mitigants, version, C, N, K, specialist, total, base, excluded, book_size, counterparty_start, asset_at, mitigant_at}
use Rattle.book.specs.Fields.{reinsurance, rises}
use Rattle.book.specs.Book.{Holding, holdings_from}

-- "ACB", zero, .. four zeros, of which C-11 makes the first a mark: "Refusals 6 (its example is now byte 12 = 2) and 11 admit the new values"
abbrev pub book_marked : List ℕ → Bool
book_marked b =
    byte_at b 0 =? 65 && byte_at b 1 =? 67 && byte_at b 2 =? 66 && byte_at b 3 =? 0
    && byte_at b 12 ≤? 1 && byte_at b 13 =? 0 && byte_at b 14 =? 0 && byte_at b 15 =? 0

-- "its version"; C-13: "Refusal 7 now passes versions 1 and 2"
abbrev pub version_known : List ℕ → Bool
version_known b = version b =? 1 || version b =? 2

-- "C ≤ 500, N ≤ 900, K ≤ 1,500"; "Length is 40 + 4C + 48N + 12K"
abbrev pub counts_fit : List ℕ → Bool
counts_fit b =
    C b ≤? most_counterparties && N b ≤? most_assets && K b ≤? most_mitigants && length b =? book_size b

-- "total or excluded over M, base outside −M to M"
abbrev pub amounts_fit : List ℕ → Bool
amounts_fit b = total b ≤? M && excluded b ≤? M && le_z (neg_ℤ (pos M)) (base b) && le_z (base b) (pos M)

-- "u16 parent (0 none, else a lower place); (..) grade 0 to 7 (..) kind (0 .. 4); flags: bit 0, 1, 2"
unfoldable pub good_counterparty : List ℕ → ℕ → Bool
good_counterparty b place =
    let at = counterparty_start place in
    u16_at b at <? place && byte_at b (at + 2) % 16 ≤? 7 && byte_at b (at + 2) / 16 ≤? 4 && byte_at b (at + 3) <? 8

-- "u16 counterparty (1 to C, in mitigants too)"
abbrev pub in_book : ℕ → ℕ → Bool
in_book C place = 1 ≤? place && place ≤? C

-- "Only reinsurance (kind 9) may have bit 1, entry, months or stress amounts nonzero"
abbrev pub no_reinsurance_fields : Asset → Bool
no_reinsurance_fields a =
    not (rises a) && a.entry =? 0 && a.months =? 0 && a.insurance =? 0 && a.combination =? 0

-- "months need a nonzero entry; its offsets are netted liabilities, at most its value"
abbrev pub reinsurance_fields_fit : Asset → Bool
reinsurance_fields_fit a = (a.months =? 0 || 0 <? a.entry) && a.offsets ≤? a.value

-- "amount over M"
abbrev pub amounts_within : Asset → Bool
amounts_within a =
    a.value ≤? M && a.offsets ≤? M && a.deductions ≤? M && a.insurance ≤? M && a.combination ≤? M

-- "kind 1 to 11; flags (bit 0, bit 1); entry class (0 none, 1 e, 2 g)", and C-11's "Entry class 3"
abbrev pub codes_fit : Asset → Bool
codes_fit a = 1 ≤? a.kind && a.kind ≤? 11 && a.flags <? 4 && a.entry ≤? 3

-- "asset field, unknown bit, amount over M"
unfoldable pub good_asset : ℕ → Asset → Bool
good_asset C a =
    codes_fit a && in_book C a.counterparty && amounts_within a
    && (if reinsurance a then reinsurance_fields_fit a else no_reinsurance_fields a)

-- "form (1 cash, .. 5 letter of credit); flags (bit 0, .. 4)"; "mitigant likewise"
unfoldable pub good_mitigant : ℕ → Mitigant → Bool
good_mitigant C m =
    1 ≤? m.form && m.form ≤? 5 && m.flags <? 32 && in_book C m.counterparty && m.value ≤? M

-- the counts of mitigants added up
unfoldable pub counts_add : List ℕ → ℕ
counts_add b = sum_of (λ (h : Holding). h.asset.count) (holdings_from b 1 1 (N b))

-- C-11: "17 when entry 3 stands in a book whose byte 12 is 0"
abbrev pub entry_allowed : Bool → Asset → Bool
entry_allowed specialist a = specialist || not (a.entry =? 3)

-- 6 to 9 of "What the desk turns back": "its mark or zeros"; "its version"; "a count over its most, or another length"; "total or excluded over M, base outside −M to M"
unfoldable pub header_check : List ℕ → Checked
header_check b =
    (refuse BookMark unless book_marked b)
    and_then (refuse BookVersion unless version_known b)
    and_then (refuse BookCounts unless counts_fit b)
    and_then (refuse BookAmounts unless amounts_fit b)

-- 10: "counterparty field, unknown bit"
unfoldable pub counterparties_check : List ℕ → Checked
counterparties_check b = refuse_each Refusal.Counterparty (good_counterparty b) (C b)

-- 11: "asset field, unknown bit, amount over M"
unfoldable pub assets_check : List ℕ → Checked
assets_check b = refuse_each Refusal.Asset (λ place. good_asset (C b) (asset_at b place)) (N b)

-- 12: "mitigant likewise"
unfoldable pub mitigants_check : List ℕ → Checked
mitigants_check b = refuse_each Refusal.Mitigant (λ place. good_mitigant (C b) (mitigant_at b place)) (K b)

-- 13: "counts don't add to K"
unfoldable pub counts_check : List ℕ → Checked
counts_check b = refuse MitigantCounts unless counts_add b =? K b

-- 10 to 13
unfoldable pub records_check : List ℕ → Checked
records_check b = counterparties_check b and_then assets_check b and_then mitigants_check b and_then counts_check b

-- 17, "with the asset's place"
unfoldable pub specialist_check : List ℕ → Checked
specialist_check b = refuse_each SpecialistEntry (λ place. entry_allowed (specialist b) (asset_at b place)) (N b)

-- 5 to 13, "by rising number", and 17 "after 13"; 5: "book under 40 bytes"
unfoldable pub book_check : List ℕ → Checked
book_check b = (refuse BookLength unless header_size ≤? length b) and_then header_check b and_then records_check b and_then specialist_check b
