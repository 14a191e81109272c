-- Laws of groups and their numbers.
--   top-alone top-self top-top        a topmost parent has no parent; one without is its own; so a topmost parent is
--   tops-le tops_next tops-more lower how many tops there are, and the number of each
--   same-group same_row               a row for each group, and one only
--   row_small                         each row ends within those of all groups
--   headed-length headed-next         the table of tops
--   Head head-is                      what stands in it under the number of a group
--   head_at head-row heads-rise       a top stands under its number; its row; tops in book order
--   parties-of                        what filled tables hold, place by place
use Rattle.std.specs.Prelude.{Bool, true, false, List, ◌≡◌, ltb, length, set, if◌then◌else◌}
use Rattle.std.proofs.Math.Path.{refl}
use Rattle.std.proofs.Common.{◌∙◌, get_or-set_other, eqb-true, eq-eqb, ltb-true, ltb-false}
use Prim.Native.Nat.{ℕ, zero, suc, ◌+◌, ◌*◌, ◌-◌, ◌≤◌, ◌<◌}
use native.Mathlib.Omega.{arith}
use Rattle.std.proofs.Math.ListN.{get_or, length-set}
use Rattle.std.proofs.Math.Seq.{get_or-set_same}
use Rattle.words.specs.Words.{◌=?◌}
use Rattle.words.specs.Choice.{by-test, if-le}
use Rattle.words.specs.Tables.{filled-length, filled_at}
use Rattle.book.specs.declared.Counterparty.{Counterparty}
use Rattle.book.specs.Records.{C, counterparty_at}
use Rattle.book.specs.Book.{parent_of, top_in, top_of}
use Rattle.book.proofs.TopLaws.{parent-lower, top-step, top-le, top_pos}
use Rattle.rows.specs.Rows.{columns}
use Rattle.parties.specs.Rows.{tops_to, row_of, headed, words_of, terms_for, Parties, Fillable, Filled}

-- ---- topmost parents

alone-in : (steps : ℕ) (who : ℕ → Counterparty) (p : ℕ) → p ≤ steps → parent_of who (top_in steps who p) ≡ 0
unfolding top_in
alone-in zero who p h = omega (arith, parent-lower who p)
alone-in (suc n) who p h =
    by-test (λ (t : ℕ). parent_of who t ≡ 0) (parent_of who p =? 0) p (top_in n who (parent_of who p))
    (λ e. eqb-true (parent_of who p) 0 e)
    (λ e. alone-in n who (parent_of who p) (omega (arith, parent-lower who p)))

pub top-alone : (who : ℕ → Counterparty) (p : ℕ) → parent_of who (top_of who p) ≡ 0
unfolding top_of
top-alone who p = alone-in p who p (omega arith)

-- a place without parent is its own top
pub top-self : (who : ℕ → Counterparty) (p : ℕ) → parent_of who p ≡ 0 → top_of who p ≡ p
top-self who p e = top-step who p ∙ rw (eq-eqb (parent_of who p) 0 e)

pub top-top : (who : ℕ → Counterparty) (p : ℕ) → top_of who (top_of who p) ≡ top_of who p
top-top who p = top-self who (top_of who p) (top-alone who p)

-- ---- how many there are

pub tops-le : (b : List ℕ) (n : ℕ) → tops_to b n ≤ n
unfolding tops_to
tops-le b zero = omega arith
tops-le b (suc n) = let h = if-le (parent_of (counterparty_at b) (suc n) =? 0) {a = 1} {b = 0} {n = 1} (omega arith) (omega arith) in omega (arith, tops-le b n)

pub tops_next : (b : List ℕ) (p : ℕ) → 0 < p → tops_to b p ≡ tops_to b (p - 1) + (if parent_of (counterparty_at b) p =? 0 then 1 else 0)
unfolding tops_to
tops_next b zero l = absurd (omega arith)
tops_next b (suc p) l = let d : suc p - 1 ≡ p = omega arith in rw d

pub tops-more : (b : List ℕ) (more n : ℕ) → tops_to b n ≤ tops_to b (n + more)
unfolding tops_to
tops-more b zero n = let d : n + 0 ≡ n = omega arith in rw d (omega arith)
tops-more b (suc more) n =
    let d : n + suc more ≡ suc (n + more) = omega arith in
    rw d (omega (arith, tops-more b more n))

module _ (b : List ℕ) where
  abbrev who : ℕ → Counterparty
  who = counterparty_at b

  rise : (m n : ℕ) → m ≤ n → tops_to b m ≤ tops_to b n
  rise m n h = let d : m + (n - m) ≡ n = omega arith in rw d at (tops-more b (n - m) m)

  -- a top has a lower number than there are tops from its place on
  pub lower : (t n : ℕ) → 0 < t → t ≤ n → parent_of who t ≡ 0 → tops_to b (t - 1) < tops_to b n
  lower t n l h e = let s : tops_to b t ≡ tops_to b (t - 1) + 1 = tops_next b t l ∙ rw (eq-eqb (parent_of who t) 0 e) in omega (arith, rise t n h)

  one-top : (s t : ℕ) → 0 < s → 0 < t → parent_of who s ≡ 0 → parent_of who t ≡ 0 → tops_to b (s - 1) ≡ tops_to b (t - 1) → s ≡ t
  one-top s t l m p q e = by (ltb s t) (ltb t s) refl refl
    where
      by : (x y : Bool) → ltb s t ≡ x → ltb t s ≡ y → s ≡ t
      by true y f g = let z = ltb-true s t f in absurd (omega (arith, lower s (t - 1) l (omega arith) p))
      by false true f g = let z = ltb-true t s g in absurd (omega (arith, lower t (s - 1) m (omega arith) q))
      by false false f g = omega (arith, ltb-false s t f, ltb-false t s g)

  -- ---- rows

  pub same-group : (p q : ℕ) → top_of who p ≡ top_of who q → row_of b p ≡ row_of b q
  unfolding row_of
  same-group p q e = rw e

  pub same_row : (p q : ℕ) → 0 < p → 0 < q → row_of b p ≡ row_of b q → top_of who p ≡ top_of who q
  unfolding row_of
  same_row p q l m e = one-top (top_of who p) (top_of who q) (top_pos who p l) (top_pos who q m) (top-alone who p) (top-alone who q) (omega arith)

  pub row_small : (c p : ℕ) → 0 < p → p ≤ c → row_of b p + columns ≤ columns * tops_to b c
  unfolding row_of
  row_small c p l h = omega (arith, lower (top_of who p) c (top_pos who p l) (omega (arith, top-le who p)) (top-alone who p))

  -- ---- the tops by number

  pub headed-length : (n : ℕ) (t : List ℕ) → length (headed b n t) ≡ length t
  unfolding headed
  headed-length zero t = refl
  headed-length (suc n) t = simp length-set (headed-length n t)

  pub headed-next : (p : ℕ) (t₀ : List ℕ) {t : List ℕ} → 0 < p → t ≡ headed b (p - 1) t₀ → set t (tops_to b (p - 1)) p ≡ headed b p t₀
  unfolding headed
  headed-next zero t₀ l e = absurd (omega arith)
  headed-next (suc n) t₀ l e = let d : suc n - 1 ≡ n = omega arith in rw (e, d)

-- h is the top of group k
pub record Head (b : List ℕ) (c k h : ℕ) : Type 0 where
  pub low : 0 < h
  pub high : h ≤ c
  pub alone : parent_of (counterparty_at b) h ≡ 0
  pub number : tops_to b (h - 1) ≡ k

module _ (b t₀ : List ℕ) where
  pub head-is : (c : ℕ) → c < length t₀ → (k : ℕ) → k < tops_to b c → Head b c k (get_or (headed b c t₀) k 0)
  unfolding tops_to headed
  head-is zero h k l = absurd (omega arith)
  head-is (suc n) h k l = by (ltb k (tops_to b n)) (parent_of (counterparty_at b) (suc n) =? 0) refl refl (head-is n (omega arith) k)
    where
      stored : get_or (set (headed b n t₀) (tops_to b n) (suc n)) (tops_to b n) 0 ≡ suc n
      stored = get_or-set_same (headed b n t₀) (tops_to b n) (suc n) 0 (omega (arith, tops-le b n, headed-length b n t₀))

      by : (s r : Bool) → ltb k (tops_to b n) ≡ s → parent_of (counterparty_at b) (suc n) =? 0 ≡ r → (k < tops_to b n → Head b n k (get_or (headed b n t₀) k 0)) → Head b (suc n) k (get_or (set (headed b n t₀) (tops_to b n) (suc n)) k 0)
      by true r e f before =
          let z = ltb-true k (tops_to b n) e in
          let ih = before z in
          rw (get_or-set_other (headed b n t₀) (tops_to b n) k (suc n) 0 (λ y. omega arith))
          (record { low = ih.low; high = omega (arith, ih.high); alone = ih.alone; number = ih.number })
      by false true e f before =
          let d : k ≡ tops_to b n = omega (arith, ltb-false k (tops_to b n) e, rw f at l) in
          let m : suc n - 1 ≡ n = omega arith in
          rw (d, stored) (record { low = omega arith; high = omega arith; alone = eqb-true _ 0 f; number = rw m })
      by false false e f before = absurd (omega (arith, ltb-false k (tops_to b n) e, rw f at l))

  module _ (c : ℕ) (room : c < length t₀) where
    abbrev pub head_of : ℕ → ℕ
    head_of k = get_or (headed b c t₀) k 0

    pub head_at : (t : ℕ) → 0 < t → t ≤ c → parent_of (counterparty_at b) t ≡ 0 → head_of (tops_to b (t - 1)) ≡ t
    head_at t l h e =
        let k = head-is c room (tops_to b (t - 1)) (lower b t c l h e) in
        one-top b (head_of (tops_to b (t - 1))) t k.low l k.alone e k.number

    pub head-row : (k : ℕ) → k < tops_to b c → row_of b (head_of k) ≡ columns * k
    unfolding row_of
    head-row k l = let h = head-is c room k l in rw (top-self (counterparty_at b) (head_of k) h.alone, h.number)

    pub heads-rise : (j k : ℕ) → j < k → k < tops_to b c → head_of j < head_of k
    heads-rise j k l h = by (ltb (head_of j) (head_of k)) refl
      where
        by : (s : Bool) → ltb (head_of j) (head_of k) ≡ s → head_of j < head_of k
        by true e = ltb-true (head_of j) (head_of k) e
        by false e =
            let x = head-is c room j (omega arith) in
            let y = head-is c room k h in
            let z = ltb-false (head_of j) (head_of k) e in
            absurd (omega (arith, rise b (head_of k - 1) (head_of j - 1) (omega arith), x.number, y.number))

-- ---- the tables

pub parties-of : {b words₀ terms₀ tops₀ rows₀ heads₀ words terms tops rows heads : List ℕ} {groups : ℕ} → Fillable (C b) words₀ terms₀ tops₀ rows₀ heads₀ → Filled b (C b) words₀ terms₀ tops₀ rows₀ heads₀ words terms tops rows heads groups → Parties b words terms rows
parties-of {b} {words₀} {terms₀} {tops₀} {rows₀} r f = record {
  words_size = rw (f.of_words, filled-length) r.words_size;
  terms-size = rw (f.of-terms, filled-length) r.terms-size;
  rows-size = rw (f.of-rows, filled-length) r.rows-size;
  word = λ p l h. rw f.of_words (filled_at (words_of b) (C b) words₀ r.words_size p l h);
  term = λ p l h. rw f.of-terms (filled_at (terms_for b) (C b) terms₀ r.terms-size p l h);
  row = λ p l h. rw f.of-rows (filled_at (row_of b) (C b) rows₀ r.rows-size p l h);
}
