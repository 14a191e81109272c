-- The words of document 01 for fields and flags of a record.
--   kind_number _is_                        a kind's number; a counterparty of a kind
--   graded related affiliate second_limb    of a counterparty
--   linked rises reinsurance               of an asset
use Rattle.std.specs.Prelude.{Bool, ◌&&◌, ℕ}
use Rattle.wire.specs.Bytes.{bit}
use Rattle.book.specs.declared.Kind.{Kind}
use Rattle.book.specs.declared.Kind.TheVariants.{Other, Bank, HomeGovernment, ProvincialGovernment, LifeCompany}
use Rattle.book.specs.declared.Counterparty.{Counterparty}
use Rattle.book.specs.declared.Asset.{Asset}
use Rattle.words.specs.Words.{◌≤?◌, ◌=?◌}

-- "0 other, 1 bank, 2 home government, 3 provincial government, 4 registered life company"
abbrev pub kind_number : Kind → ℕ
kind_number Other = 0
kind_number Bank = 1
kind_number HomeGovernment = 2
kind_number ProvincialGovernment = 3
kind_number LifeCompany = 4

-- a counterparty is of a kind
infix 40 ◌is◌
abbrev pub ◌is◌ : Counterparty → Kind → Bool
who is kind = kind_number who.kind =? kind_number kind

-- "Graded" means 1 to 3, "ungraded" any other
abbrev pub graded : Counterparty → Bool
graded who = 1 ≤? who.grade && who.grade ≤? 3

-- "flags: bit 0 related"
abbrev pub related : Counterparty → Bool
related who = bit 0 who.flags

-- "1 approved affiliate"
abbrev pub affiliate : Counterparty → Bool
affiliate who = bit 1 who.flags

-- "2 approved under A1(e) second limb"
abbrev pub second_limb : Counterparty → Bool
second_limb who = bit 2 who.flags

-- "flags (bit 0 linked, P24)"
abbrev pub linked : Asset → Bool
linked a = bit 0 a.flags

-- "bit 1 rises under stress, P17"
abbrev pub rises : Asset → Bool
rises a = bit 1 a.flags

-- "reinsurance (kind 9)"
abbrev pub reinsurance : Asset → Bool
reinsurance a = a.kind =? 9
