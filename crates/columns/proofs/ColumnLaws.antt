-- Laws of columns, each a test computed over all its cases.
--   tier-le                            a tier's number, or `no_limit`
--   column-le tier-in                  a column is below `columns`, and part of its exposure's tier
--   bill-column free-column a3-column  which exposures are in the columns that are no tier's own
--   word-kind word-form                what stands in a counterparty's word
--   age-le terms-column terms-half terms-trust trust-le   and in its terms
--   beq-true                           truths that test as equal
use Rattle.std.specs.Prelude.{Bool, true, false, ◌&&◌, ◌||◌, List, [], ◌∷◌, ◌≡◌, ℕ, ◌+◌, ◌*◌, ◌-◌, ◌/◌, ◌%◌, ◌^◌, ◌≤◌, ◌<◌, eqb, if◌then◌else◌}
use Rattle.std.proofs.Math.Bool.{not, beq}
use Rattle.std.proofs.Math.Path.{refl}
use Rattle.std.proofs.Common.{◌∙◌}
use native.Mathlib.Omega.{arith}
use Rattle.std.proofs.Math.ListN.{get_or}
use borrow.Author.Tests.{eqb-true, ltb-true, ne_eqb}
use Rattle.words.specs.Words.{◌≤?◌, ◌<?◌, ◌=?◌, All}
use Rattle.words.specs.Choice.{never, both, joined, each-true, if-le}
use Rattle.words.specs.Below.{all_below, below, all_truths, at-truth}
use Rattle.book.specs.declared.Kind.TheVariants.{Bank, HomeGovernment, ProvincialGovernment, LifeCompany}
use Rattle.book.specs.declared.Counterparty.{Counterparty}
use Rattle.book.specs.declared.Mitigant.{Mitigant}
use Rattle.book.specs.Fields.{◌is◌, graded, related, affiliate, second_limb}
use Rattle.exposure.specs.declared.Exposure.{Exposure}
use Rattle.exposure.specs.Parts.{covered_kind, covered_part}
use Rattle.exposure.specs.Tier.{no_limit, by_months, graded_tier, ungraded_tier, reinsurance_tier, lower_tier, tier_by}
use Rattle.rows.specs.Rows.{no_limit_column, bill_column, a3_columns, columns}
use Rattle.columns.specs.Column.{a3_tiers, a3_column, column_by, column_of, tier_in, class_of, digit, word_at, word_of, digit_of, terms_at, terms_of, age_at, age_of, halved, trust_of}
use Rattle.columns.specs.ClassLaws.{of_class, class-le, class-kind, class-graded, class-flags}

pub beq-true : (a b : Bool) → beq a b ≡ true → a ≡ b
beq-true true true e = refl
beq-true true false e = never e
beq-true false true e = never e
beq-true false false e = refl

-- ---- tiers

months-le : (m : ℕ) {full first second : ℕ} → full ≤ no_limit → first ≤ no_limit → second ≤ no_limit → by_months m full first second ≤ no_limit
months-le m h i j = if-le (m ≤? 2) h (if-le (m ≤? 11) i (if-le (m ≤? 23) j (omega arith)))

reinsurance-le : (x : Exposure) (who : Counterparty) → reinsurance_tier x who ≤ no_limit
unfolding reinsurance_tier graded_tier ungraded_tier
reinsurance-le x who =
    if-le (graded who)
    (if-le (x.entry =? 3) (omega arith)
    (if-le ((who is LifeCompany && not (related who)) || second_limb who) (omega arith) (if-le (affiliate who && not (who is LifeCompany)) (omega arith) (omega arith))))
    (if-le (x.entry =? 1) (months-le x.months (omega arith) (omega arith) (omega arith))
    (if-le (x.entry =? 2) (months-le x.months (omega arith) (omega arith) (omega arith))
    (if-le (x.entry =? 3) (months-le x.months (omega arith) (omega arith) (omega arith)) (omega arith))))

lower-le : (x : Exposure) (who : Counterparty) → lower_tier x who ≤ no_limit
unfolding lower_tier
lower-le x who =
    if-le (x.kind =? 6 || x.kind =? 8) (omega arith)
    (if-le (x.kind =? 10 && who is LifeCompany && graded who) (omega arith)
    (if-le (x.kind =? 11) (omega arith)
    (if-le (x.kind =? 9) (reinsurance-le x who) (if-le (graded who) (omega arith) (omega arith)))))

pub tier-le : (x : Exposure) (who : Counterparty) → tier_by x who ≤ no_limit
unfolding tier_by
tier-le x who =
    if-le (x.kind =? 1 && who is HomeGovernment) (omega arith)
    (if-le (x.kind =? 2 && who is LifeCompany && related who) (omega arith)
    (if-le (x.kind =? 3 && who is Bank) (omega arith)
    (if-le (x.kind =? 5 && who is ProvincialGovernment) (omega arith)
    (if-le (x.kind =? 4 && who is Bank) (omega arith) (lower-le x who)))))

-- ---- columns and tiers

-- what the column of tier t has to be, where the exposure is of kind 3 or not and its counterparty of kind 4 or not
tests : Bool → Bool → ℕ → List Bool
tests bill life t =
    let c = column_by bill life t in
    (tier_in c =? t)
    ∷ (c <? columns)
    ∷ beq (c =? bill_column) (t =? 11 && bill)
    ∷ beq (c =? no_limit_column) (t =? no_limit)
    ∷ all_below 5 (λ i. beq (c =? a3_columns + i) (t =? get_or a3_tiers i 0 && not life))
    ∷ []

columns-computed : all_below (no_limit + 1) (λ t. all_truths (λ bill. all_truths (λ life. joined true (tests bill life t)))) ≡ true
unfolding all_below all_truths tests column_by a3_column tier_in
columns-computed = refl

module _ (x : Exposure) (who : Counterparty) where
  pass : All (λ u. u ≡ true) (tests (x.kind =? 3) (who is LifeCompany) (tier_by x who))
  pass =
      let t = tier_by x who in
      let all = below (no_limit + 1) (λ t. all_truths (λ bill. all_truths (λ life. joined true (tests bill life t)))) columns-computed t (omega (arith, tier-le x who)) in
      let of-kind = at-truth (λ bill. all_truths (λ life. joined true (tests bill life t))) all (x.kind =? 3) in
      (each-true true (tests (x.kind =? 3) (who is LifeCompany) t) (at-truth (λ life. joined true (tests (x.kind =? 3) life t)) of-kind (who is LifeCompany))).1

  pub tier-in : tier_in (column_of x who) ≡ tier_by x who
  unfolding column_of tests
  tier-in = eqb-true _ _ pass.0

  pub column-le : column_of x who < columns
  unfolding column_of tests
  column-le = ltb-true _ _ pass.1.0

  pub bill-column : (column_of x who =? bill_column) ≡ (tier_by x who =? 11 && x.kind =? 3)
  unfolding column_of tests
  bill-column = beq-true _ _ pass.1.1.0

  pub free-column : (column_of x who =? no_limit_column) ≡ (tier_by x who =? no_limit)
  unfolding column_of tests
  free-column = beq-true _ _ pass.1.1.1.0

  pub a3-column : (i : ℕ) → i < 5 → (column_of x who =? a3_columns + i) ≡ (tier_by x who =? get_or a3_tiers i 0 && not (who is LifeCompany))
  unfolding column_of tests
  a3-column i h =
      let t = tier_by x who in
      let c = column_by (x.kind =? 3) (who is LifeCompany) t in
      beq-true _ _ (below 5 (λ i. beq (c =? a3_columns + i) (t =? get_or a3_tiers i 0 && not (who is LifeCompany))) pass.1.1.1.1.0 i h)

-- ---- a counterparty's word

-- an exposure of a kind, a mitigant of a form
abbrev of_kind : ℕ → Exposure
of_kind k = record { counterparty = 0; kind = k; entry = 0; months = 0; amount = 0 }

abbrev of_form : ℕ → Mitigant
of_form f = record { form = f; flags = 0; counterparty = 0; value = 0 }

kinds-right : ℕ → ℕ → Bool
kinds-right c n = n =? 8 || digit n (word_at c) =? column_of (of_kind (n + 1)) (of_class c)

forms-right : ℕ → ℕ → Bool
forms-right c f = f =? 0 || digit (digit_of f) (word_at c) =? column_of (covered_part (of_form f) (of_class c) 0) (of_class c)

word-computed : all_below 80 (λ c. all_below 11 (kinds-right c) && all_below 6 (forms-right c)) ≡ true
unfolding all_below kinds-right forms-right digit digit_of word_at column_of column_by a3_column tier_by lower_tier reinsurance_tier graded_tier ungraded_tier covered_part covered_kind
word-computed = refl

-- a tier of any kind but 9 goes by the kind alone
by_kind : (x y : Exposure) (who : Counterparty) (k : ℕ) → y.kind ≡ k → x.kind ≡ k → eqb k 9 ≡ false → column_of y who ≡ column_of x who
unfolding column_of tier_by lower_tier
by_kind x y who k f e n = rw (f, e, n)

module _ (who : Counterparty) (h : who.flags < 8) where
  abbrev same : Counterparty
  same = of_class (class_of who)

  same-column : (x : Exposure) → column_of x same ≡ column_of x who
  unfolding column_of tier_by lower_tier reinsurance_tier graded_tier
  same-column x = rw (class-kind who h, class-graded who h, class-flags who h)

  word-right : (all_below 11 (kinds-right (class_of who)) ≡ true) × (all_below 6 (forms-right (class_of who)) ≡ true)
  word-right = both _ _ (below 80 (λ c. all_below 11 (kinds-right c) && all_below 6 (forms-right c)) word-computed (class_of who) (class-le who h))

  -- the column of an exposure of any kind but 9
  pub word-kind : (x : Exposure) → 0 < x.kind → x.kind < 12 → (x.kind ≡ 9 → ⊥) → digit (x.kind - 1) (word_of who) ≡ column_of x who
  unfolding word_of kinds-right
  word-kind x l g n =
      let d : x.kind - 1 + 1 ≡ x.kind = omega arith in
      let test = below 11 (kinds-right (class_of who)) word-right.0 (x.kind - 1) (omega arith) in
      eqb-true _ _ (rw (ne_eqb (x.kind - 1) 8 (λ z. n (omega arith)), d) at test)
      ∙ by_kind x (of_kind x.kind) same x.kind refl refl (ne_eqb x.kind 9 n)
      ∙ same-column x

  same-part : (m : Mitigant) (amount : ℕ) → column_of (covered_part (of_form m.form) same 0) same ≡ column_of (covered_part m who amount) who
  unfolding column_of tier_by lower_tier reinsurance_tier graded_tier ungraded_tier covered_part covered_kind
  same-part m amount = rw (class-kind who h, class-graded who h, class-flags who h)

  -- the column of what a mitigant covers
  pub word-form : (m : Mitigant) (amount : ℕ) → 0 < m.form → m.form < 6 → digit (digit_of m.form) (word_of who) ≡ column_of (covered_part m who amount) who
  unfolding word_of forms-right
  word-form m amount l g =
      let test = below 6 (forms-right (class_of who)) word-right.1 m.form g in
      eqb-true _ _ (rw (ne_eqb m.form 0 (λ z. omega arith)) at test) ∙ same-part m amount

-- ---- its terms

-- the tier of reinsurance that is not graded, by its digit
abbrev aged : ℕ → ℕ
aged n = get_or (1 ∷ 9 ∷ 8 ∷ 7 ∷ 6 ∷ 5 ∷ 4 ∷ 13 ∷ 14 ∷ 15 ∷ 1 ∷ []) n 0

-- the digits of entry 3
abbrev retroceded : ℕ → Bool
retroceded n = 7 ≤? n

-- what the digit of an entry has to be, by the ends of the stages of months that are not past
aged-tests : ℕ → Bool → Bool → Bool → List Bool
aged-tests e p q r =
    let n = age_at (4 * e + (if p then 0 else if q then 1 else if r then 2 else 3)) in
    (n <? 11)
    ∷ (aged n
    =? (if e =? 1 then (if p then 9 else if q then 8 else if r then 7 else 1)
    else if e =? 2 then (if p then 6 else if q then 5 else if r then 4 else 1)
    else if e =? 3 then (if p then 13 else if q then 14 else if r then 15 else 1)
    else 1))
    ∷ beq (retroceded n) (e =? 3)
    ∷ []

aged-right : ℕ → Bool → Bool → Bool → Bool
aged-right e p q r = joined true (aged-tests e p q r)

aged-computed : all_below 4 (λ e. all_truths (λ p. all_truths (λ q. all_truths (λ r. aged-right e p q r)))) ≡ true
unfolding all_below all_truths aged-right aged-tests age_at
aged-computed = refl

aged-by : (e m : ℕ) → e ≤ 3 → All (λ u. u ≡ true) (aged-tests e (m ≤? 2) (m ≤? 11) (m ≤? 23))
unfolding aged-right
aged-by e m h =
    let of_entry = below 4 (λ e. all_truths (λ p. all_truths (λ q. all_truths (λ r. aged-right e p q r)))) aged-computed e (omega arith) in
    let p = at-truth (λ p. all_truths (λ q. all_truths (λ r. aged-right e p q r))) of_entry (m ≤? 2) in
    let q = at-truth (λ q. all_truths (λ r. aged-right e (m ≤? 2) q r)) p (m ≤? 11) in
    (each-true true (aged-tests e (m ≤? 2) (m ≤? 11) (m ≤? 23)) (at-truth (λ r. aged-right e (m ≤? 2) (m ≤? 11) r) q (m ≤? 23))).1

pub age-le : (entry months : ℕ) → entry ≤ 3 → age_of entry months < 11
unfolding aged-tests
age-le e m h = ltb-true _ _ (aged-by e m h).0

aged-is : (x : Exposure) → x.entry ≤ 3 → aged (age_of x.entry x.months) ≡ ungraded_tier x
unfolding aged-tests ungraded_tier
aged-is x h = eqb-true _ _ (aged-by x.entry x.months h).1.0

retroceded-is : (x : Exposure) → x.entry ≤ 3 → retroceded (age_of x.entry x.months) ≡ (x.entry =? 3)
unfolding aged-tests
retroceded-is x h = beq-true _ _ (aged-by x.entry x.months h).1.1.0

ages-right : ℕ → ℕ → Bool
ages-right c n =
    let who = of_class c in
    digit n (terms_at c) =? column_by false (who is LifeCompany) (if graded who then (if retroceded n then 13 else graded_tier who) else aged n)

half-right : ℕ → Bool
half-right c = terms_at c / 2 ^ 60 % 2 =? (if halved (of_class c) then 1 else 0)

trust-right : ℕ → Bool
trust-right c = terms_at c / 2 ^ 61 =? trust_of (of_class c)

terms-computed : all_below 80 (λ c. all_below 11 (ages-right c) && half-right c && trust-right c) ≡ true
unfolding all_below ages-right half-right trust-right digit terms_at column_by a3_column graded_tier trust_of
terms-computed = refl

-- 0 to 3
pub trust-le : (who : Counterparty) → trust_of who ≤ 3
unfolding trust_of
trust-le who = if-le (graded who) (if-le (related who) (omega arith) (if-le (who is Bank) (omega arith) (omega arith))) (omega arith)

reinsured : (x : Exposure) (who : Counterparty) → x.kind ≡ 9 → column_by false (who is LifeCompany) (if graded who then (if x.entry =? 3 then 13 else graded_tier who) else ungraded_tier x) ≡ column_of x who
unfolding column_of tier_by lower_tier reinsurance_tier
reinsured x who e = rw e

module _ (who : Counterparty) (h : who.flags < 8) where
  terms-right : All (λ u. u ≡ true) (all_below 11 (ages-right (class_of who)) ∷ half-right (class_of who) ∷ trust-right (class_of who) ∷ [])
  terms-right =
      let c = class_of who in
      each-true (all_below 11 (ages-right c)) (half-right c ∷ trust-right c ∷ [])
      (below 80 (λ c. all_below 11 (ages-right c) && half-right c && trust-right c) terms-computed c (class-le who h))

  -- the column of reinsurance
  pub terms-column : (x : Exposure) → x.kind ≡ 9 → x.entry ≤ 3 → digit (age_of x.entry x.months) (terms_of who) ≡ column_of x who
  unfolding terms_of ages-right graded_tier
  terms-column x k g =
      let n = age_of x.entry x.months in
      let test = below 11 (ages-right (class_of who)) terms-right.0 n (age-le x.entry x.months g) in
      eqb-true _ _ (rw (class-kind who h, class-graded who h, class-flags who h, aged-is x g, retroceded-is x g) at test) ∙ reinsured x who k

  pub terms-half : terms_of who / 2 ^ 60 % 2 ≡ (if halved who then 1 else 0)
  unfolding terms_of half-right
  terms-half = eqb-true _ _ (rw (class-kind who h, class-flags who h) at terms-right.1.0)

  pub terms-trust : terms_of who / 2 ^ 61 ≡ trust_of who
  unfolding terms_of trust-right trust_of
  terms-trust = eqb-true _ _ (rw (class-kind who h, class-graded who h, class-flags who h) at terms-right.1.1.0)
