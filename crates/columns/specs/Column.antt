-- The column of an exposure in its group's row: its tier's own number; but `bill_column` for tier c of kind 3, which makes up W, and from
-- `a3_columns` on the tiers 1, 3, 4, 5, 6 of a counterparty not of kind 4, which count for A3.
--   a3_tiers a3_column column_by column_of   the column
--   tier_in Tiered                        the tier that a column is part of, and a table of them
-- Two numbers of a counterparty, in digits to the base 32:
--   class_of digit                        all that they depend on, as a number below 80; a digit
--   word_at word_of                        the columns of exposures to it: digit kind - 1 for each kind but 9, digit 8 for what a guarantee covers
--   digit_of                              the digit of what a form of mitigant covers
--   terms_at terms_of                      the columns of reinsurance, `age_of` saying which; then a bit, `halved`; then `trust_of`
--   age_at stage_of age_of halved trust_of   entry and months together; whether half may be covered; how far its promises count
use Rattle.std.specs.Prelude.{Bool, not, ◌&&◌, List, [], ◌∷◌, ◌≡◌, ℕ, ◌+◌, ◌*◌, ◌-◌, ◌/◌, ◌%◌, ◌^◌, ◌<◌, length, get_or, if◌then◌else◌}
use Rattle.words.specs.Words.{◌≤?◌, ◌=?◌}
use Rattle.cascade.specs.Cascade.{tiers}
use Rattle.book.specs.declared.Kind.TheVariants.{Bank, LifeCompany}
use Rattle.book.specs.declared.Counterparty.{Counterparty}
use Rattle.book.specs.Fields.{kind_number, ◌is◌, graded, related, affiliate, second_limb}
use Rattle.exposure.specs.declared.Exposure.{Exposure}
use Rattle.exposure.specs.Tier.{tier_by}
use Rattle.rows.specs.Rows.{columns, bill_column, a3_columns}

-- the tiers of which A3 counts exposures to counterparties not of kind 4
abbrev pub a3_tiers : List ℕ
a3_tiers = 1 ∷ 3 ∷ 4 ∷ 5 ∷ 6 ∷ []

-- the column of a tier, where the counterparty is of kind 4 or not
unfoldable pub a3_column : Bool → ℕ → ℕ
a3_column life t =
    if life then t
    else if t =? 1 then a3_columns
    else if t =? 3 then a3_columns + 1
    else if t =? 4 then a3_columns + 2
    else if t =? 5 then a3_columns + 3
    else if t =? 6 then a3_columns + 4
    else t

-- and where the exposure is of kind 3 or not
unfoldable pub column_by : Bool → Bool → ℕ → ℕ
column_by bill life t = if t =? 11 && bill then bill_column else a3_column life t

unfoldable pub column_of : Exposure → Counterparty → ℕ
column_of x who = column_by (x.kind =? 3) (who is LifeCompany) (tier_by x who)

unfoldable pub tier_in : ℕ → ℕ
tier_in c = if c ≤? tiers then c else get_or (11 ∷ a3_tiers) (c - bill_column) 0

pub record Tiered (table : List ℕ) : Type 0 where
  pub size : length table ≡ columns
  pub each : (c : ℕ) → c < columns → get_or table c 0 ≡ tier_in c

-- kind, whether graded, and flag by flag
unfoldable pub class_of : Counterparty → ℕ
class_of who =
    16 * kind_number who.kind
    + (if graded who then 8 else 0)
    + (if second_limb who then 4 else 0)
    + (if affiliate who then 2 else 0)
    + (if related who then 1 else 0)

-- digit n, the last being digit 0
unfoldable pub digit : ℕ → ℕ → ℕ
digit n number = number / 2 ^ (5 * n) % 32

unfoldable pub word_at : ℕ → ℕ
word_at class = get_or (
    68786585600 ∷ 68786585600 ∷ 68786585600 ∷ 68786585600 ∷
    68786585600 ∷ 68786585600 ∷ 68786585600 ∷ 68786585600 ∷
    72638703667266 ∷ 72638703667266 ∷ 72638703667266 ∷ 72638703667266 ∷
    72638703667266 ∷ 72638703667266 ∷ 72638703667266 ∷ 72638703667266 ∷
    18760484668416 ∷ 18760484668416 ∷ 18760484668416 ∷ 18760484668416 ∷
    18760484668416 ∷ 18760484668416 ∷ 18760484668416 ∷ 18760484668416 ∷
    89131378426946 ∷ 89131378426946 ∷ 89131378426946 ∷ 89131378426946 ∷
    89131378426946 ∷ 89131378426946 ∷ 89131378426946 ∷ 89131378426946 ∷
    17660972630032 ∷ 17660972630032 ∷ 17660972630032 ∷ 17660972630032 ∷
    17660972630032 ∷ 17660972630032 ∷ 17660972630032 ∷ 17660972630032 ∷
    88031866456144 ∷ 88031866456144 ∷ 88031866456144 ∷ 88031866456144 ∷
    88031866456144 ∷ 88031866456144 ∷ 88031866456144 ∷ 88031866456144 ∷
    12163426025472 ∷ 12163426025472 ∷ 12163426025472 ∷ 12163426025472 ∷
    12163426025472 ∷ 12163426025472 ∷ 12163426025472 ∷ 12163426025472 ∷
    82534317754434 ∷ 82534317754434 ∷ 82534317754434 ∷ 82534317754434 ∷
    82534317754434 ∷ 82534317754434 ∷ 82534317754434 ∷ 82534317754434 ∷
    68786585600 ∷ 68786586112 ∷ 68786585600 ∷ 68786586112 ∷
    68786585600 ∷ 68786586112 ∷ 68786585600 ∷ 68786586112 ∷
    354113680377922 ∷ 354113680378370 ∷ 354113680377922 ∷ 354113680378370 ∷
    354113680377922 ∷ 354113680378370 ∷ 354113680377922 ∷ 354113680378370 ∷ []) class 0

unfoldable pub word_of : Counterparty → ℕ
word_of who = word_at (class_of who)

-- of what cash, a government security, debt and a letter cover, that of its kind
unfoldable pub digit_of : ℕ → ℕ
digit_of form = get_or (0 ∷ 3 ∷ 0 ∷ 6 ∷ 8 ∷ 2 ∷ []) form 0

unfoldable pub terms_at : ℕ → ℕ
terms_at class = get_or (
    1173731330553520434 ∷ 1173731330553520434 ∷ 20809825946673458 ∷ 20809825946673458 ∷
    1173731330553520434 ∷ 1173731330553520434 ∷ 20809825946673458 ∷ 20809825946673458 ∷
    5779716380047298163 ∷ 3473873370833604211 ∷ 4626794878765587158 ∷ 2320951869551893206 ∷
    5779716368963511593 ∷ 3473873359749817641 ∷ 4626794864356664617 ∷ 2320951855142970665 ∷
    1173731330553520434 ∷ 1173731330553520434 ∷ 20809825946673458 ∷ 20809825946673458 ∷
    1173731330553520434 ∷ 1173731330553520434 ∷ 20809825946673458 ∷ 20809825946673458 ∷
    8085559389260992115 ∷ 3473873370833604211 ∷ 6932637887979281110 ∷ 2320951869551893206 ∷
    8085559378177205545 ∷ 3473873359749817641 ∷ 6932637873570358569 ∷ 2320951855142970665 ∷
    1173731330553520434 ∷ 1173731330553520434 ∷ 20809825946673458 ∷ 20809825946673458 ∷
    1173731330553520434 ∷ 1173731330553520434 ∷ 20809825946673458 ∷ 20809825946673458 ∷
    5779716380047298163 ∷ 3473873370833604211 ∷ 4626794878765587158 ∷ 2320951869551893206 ∷
    5779716368963511593 ∷ 3473873359749817641 ∷ 4626794864356664617 ∷ 2320951855142970665 ∷
    1173731330553520434 ∷ 1173731330553520434 ∷ 20809825946673458 ∷ 20809825946673458 ∷
    1173731330553520434 ∷ 1173731330553520434 ∷ 20809825946673458 ∷ 20809825946673458 ∷
    5779716380047298163 ∷ 3473873370833604211 ∷ 4626794878765587158 ∷ 2320951869551893206 ∷
    5779716368963511593 ∷ 3473873359749817641 ∷ 4626794864356664617 ∷ 2320951855142970665 ∷
    1669509796831521 ∷ 1669509796831521 ∷ 1669509796831521 ∷ 1669509796831521 ∷
    1669509796831521 ∷ 1669509796831521 ∷ 1669509796831521 ∷ 1669509796831521 ∷
    4626794864356664617 ∷ 2320951848492698723 ∷ 4626794864356664617 ∷ 2320951848492698723 ∷
    4626794864356664617 ∷ 2320951855142970665 ∷ 4626794864356664617 ∷ 2320951855142970665 ∷ []) class 0

unfoldable pub terms_of : Counterparty → ℕ
terms_of who = terms_at (class_of who)

-- "months 0 to 2, (..) 3 to 11, (..) 12 to 23; otherwise", of each entry in turn; the digit: 0 where no entry counts, 1 to 3 of entry 1, 4 to 6 of entry 2,
-- 7 to 10 of entry 3, which counts for the graded whatever the months
unfoldable pub age_at : ℕ → ℕ
age_at n = get_or (0 ∷ 0 ∷ 0 ∷ 0 ∷ 1 ∷ 2 ∷ 3 ∷ 0 ∷ 4 ∷ 5 ∷ 6 ∷ 0 ∷ 7 ∷ 8 ∷ 9 ∷ 10 ∷ []) n 0

abbrev pub stage_of : ℕ → ℕ
stage_of months = if months ≤? 2 then 0 else if months ≤? 11 then 1 else if months ≤? 23 then 2 else 3

abbrev pub age_of : ℕ → ℕ → ℕ
age_of entry months = age_at (4 * entry + stage_of months)

-- "neither of kind 4 nor an approved affiliate"
abbrev pub halved : Counterparty → Bool
halved who = not (who is LifeCompany) && not (affiliate who)

-- 0 not graded, 1 graded, 2 and not related, 3 and a bank
unfoldable pub trust_of : Counterparty → ℕ
trust_of who = if graded who then (if related who then 1 else if who is Bank then 3 else 2) else 0
