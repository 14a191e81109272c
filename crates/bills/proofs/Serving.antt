-- Lines served out of tables: how a loop goes along them (Serving), that it ends (serving-end), and that what the desks have then is the lines' excesses (desks-are).
use mathlib.Core.Bool.{Bool, true, false}
use mathlib.Core.List.{List, [], ◌∷◌, ◌++◌}
use mathlib.Core.Path.{◌≡◌, refl, sym, ap, ◌∙◌}
use Prim.Native.Nat.{ℕ, ◌+◌, ◌-◌, ◌≤◌, ◌<◌}
use native.Mathlib.Omega.{arith}
use lib.Dec.{eqb}
use lib.ListN.{length, get_or, set, length-set}
use lib.Seq.{get_or-set_same, get_or-set_other}
use borrow.Author.Tests.{eqb-true, eqb-false}
use Rattle.std.specs.Prelude.{if◌then◌else◌}
use Rattle.words.specs.Words.{◌=?◌, sum_of, All}
use Rattle.words.specs.Sums.{all_map, all_both}
use Rattle.bills.specs.Lines.{ExposureLine, is_in, served, unserved, after, excess_lines}
use Rattle.bills.specs.Bills.{amount_of_desk}
use Rattle.bills.specs.Tables.{by_desk, LineServed, still_after, desks_after}

-- what holds of some lines and others holds of the others
pub all-behind : (P : ExposureLine → Type 0) (xs ys : List ExposureLine) → All P (xs ++ ys) → All P ys
all-behind P [] ys h = h
all-behind P (x ∷ xs) ys h = all-behind P xs ys h.1

-- an entry with something added
added : (t : List ℕ) (i v d : ℕ) → i < length t → get_or (set t i (get_or t i 0 + v)) d 0 ≡ get_or t d 0 + (if i =? d then v else 0)
added t i v d l = by (eqb i d) refl
  where
    by : (b : Bool) → eqb i d ≡ b → get_or (set t i (get_or t i 0 + v)) d 0 ≡ get_or t d 0 + (if b then v else 0)
    by true e = rw (← eqb-true i d e) (get_or-set_same t i (get_or t i 0 + v) 0 l)
    by false e = get_or-set_other t i d (get_or t i 0 + v) 0 (λ z. eqb-false i d e (sym z)) ∙ omega arith

module _ (cell : ExposureLine → ℕ) where
  -- one line, in both tables
  abbrev still_next : ExposureLine → List ℕ → List ℕ
  still_next x still = set still (cell x) (get_or still (cell x) 0 - x.amount)

  abbrev desks_next : ExposureLine → List ℕ → List ℕ → List ℕ
  desks_next x still desks = set desks x.desk (get_or desks x.desk 0 + (x.amount - get_or still (cell x) 0))

  -- ---- some lines and then others

  pub still-append : (xs ys : List ExposureLine) (still : List ℕ) → still_after cell (xs ++ ys) still ≡ still_after cell ys (still_after cell xs still)
  unfolding still_after
  still-append [] ys still = refl
  still-append (x ∷ xs) ys still = still-append xs ys (still_next x still)

  pub desks-append : (xs ys : List ExposureLine) (still desks : List ℕ) → desks_after cell (xs ++ ys) still desks ≡ desks_after cell ys (still_after cell xs still) (desks_after cell xs still desks)
  unfolding still_after desks_after
  desks-append [] ys still desks = refl
  desks-append (x ∷ xs) ys still desks = desks-append xs ys (still_next x still) (desks_next x still desks)

  pub still-length : (xs : List ExposureLine) (still : List ℕ) → length (still_after cell xs still) ≡ length still
  unfolding still_after
  still-length [] still = refl
  still-length (x ∷ xs) still = still-length xs (still_next x still) ∙ length-set still (cell x) _

  pub desks-length : (xs : List ExposureLine) (still desks : List ℕ) → length (desks_after cell xs still desks) ≡ length desks
  unfolding desks_after
  desks-length [] still desks = refl
  desks-length (x ∷ xs) still desks = desks-length xs (still_next x still) (desks_next x still desks) ∙ length-set desks x.desk _

  -- no desk has less than before
  pub desks-rise : (xs : List ExposureLine) (still desks : List ℕ) → All (λ x. x.desk < length desks) xs → (d : ℕ) → by_desk desks d ≤ by_desk (desks_after cell xs still desks) d
  unfolding desks_after
  desks-rise [] still desks h d = omega arith
  desks-rise (x ∷ xs) still desks h d =
      let next = desks_next x still desks in
      let same = length-set desks x.desk (get_or desks x.desk 0 + (x.amount - get_or still (cell x) 0)) in
      omega (
        arith,
        added desks x.desk (x.amount - get_or still (cell x) 0) d h.0,
        desks-rise xs (still_next x still) next (all_map (λ y l. omega (arith, same)) xs h.1) d,
      )

  -- ---- a loop along lines

  -- `more` are still to come
  pub record Serving (all : List ExposureLine) (still₀ desks₀ : List ℕ) (more : List ExposureLine) (still desks : List ℕ) : Type 0 where
    pub cells : length still ≡ length still₀
    pub places : length desks ≡ length desks₀
    pub given : still_after cell more still ≡ still_after cell all still₀
    pub excess : desks_after cell more still desks ≡ desks_after cell all still₀ desks₀

  pub serving-start : (all : List ExposureLine) (still desks : List ℕ) → Serving all still desks all still desks
  serving-start all still desks = record { cells = refl; places = refl; given = refl; excess = refl }

  module _ {all : List ExposureLine} {still₀ desks₀ : List ℕ} {more : List ExposureLine} {still desks : List ℕ} (s : Serving all still₀ desks₀ more still desks) where
    pub serving-end : more ≡ [] → (still ≡ still_after cell all still₀) × (desks ≡ desks_after cell all still₀ desks₀)
    unfolding still_after desks_after
    serving-end e = (rw e at s.given, rw e at s.excess)

    module _ (x : ExposureLine) {rest : List ExposureLine} (e : more ≡ x ∷ rest) where
      -- what the line's desk has behind it is no more than in the end
      pub serving-room : All (λ y. y.desk < length desks₀) more → by_desk desks x.desk + (x.amount - get_or still (cell x) 0) ≤ by_desk (desks_after cell all still₀ desks₀) x.desk
      unfolding desks_after
      serving-room h =
          let k = rw e at h in
          let next = desks_next x still desks in
          let same = length-set desks x.desk (get_or desks x.desk 0 + (x.amount - get_or still (cell x) 0)) in
          let here = get_or-set_same desks x.desk (get_or desks x.desk 0 + (x.amount - get_or still (cell x) 0)) 0 (omega (arith, k.0, s.places)) in
          omega (
            arith,
            here,
            ap (λ (t : List ℕ). by_desk t x.desk) (rw e at s.excess),
            desks-rise rest (still_next x still) next (all_map (λ y l. omega (arith, same, s.places)) rest k.1) x.desk,
          )

      pub serving-step : {still' desks' : List ℕ} → LineServed (cell x) x.amount x.desk still still' desks desks' → Serving all still₀ desks₀ rest still' desks'
      unfolding still_after desks_after
      serving-step l = record {
        cells = ap length l.cells ∙ length-set still (cell x) _ ∙ s.cells;
        places = ap length l.excess ∙ length-set desks x.desk _ ∙ s.places;
        given = rw l.cells (rw e at s.given);
        excess = rw (l.cells, l.excess) (rw e at s.excess);
      }

    -- several lines at once
    module _ (xs rest : List ExposureLine) (e : more ≡ xs ++ rest) where
      pub serving-rise : All (λ y. y.desk < length desks₀) more → (d : ℕ) → by_desk (desks_after cell xs still desks) d ≤ by_desk (desks_after cell all still₀ desks₀) d
      serving-rise h d =
          omega (
            arith,
            ap (λ (t : List ℕ). by_desk t d) (sym (desks-append xs rest still desks) ∙ ap (λ (ys : List ExposureLine). desks_after cell ys still desks) (sym e) ∙ s.excess),
            desks-rise rest (still_after cell xs still) (desks_after cell xs still desks)
                (all_map (λ y l. omega (arith, desks-length xs still desks, s.places)) rest (all-behind (λ y. y.desk < length desks₀) xs rest (rw e at h))) d,
          )

      pub serving-lines : {still' desks' : List ℕ} → still' ≡ still_after cell xs still → desks' ≡ desks_after cell xs still desks → Serving all still₀ desks₀ rest still' desks'
      serving-lines a b = record {
        cells = ap length a ∙ still-length xs still ∙ s.cells;
        places = ap length b ∙ desks-length xs still desks ∙ s.places;
        given = rw a (sym (still-append xs rest still) ∙ ap (λ (ys : List ExposureLine). still_after cell ys still) (sym e) ∙ s.given);
        excess = rw (a, b) (sym (desks-append xs rest still desks) ∙ ap (λ (ys : List ExposureLine). desks_after cell ys still desks) (sym e) ∙ s.excess);
      }

  -- ---- what the desks have in the end

  -- where cells tell groups and tiers apart
  module _ (Good : ExposureLine → Type 0) (apart : (x y : ExposureLine) → Good x → Good y → (cell x =? cell y) ≡ is_in y.group y.tier x) where
    -- the table says what is still to be given to the line
    abbrev Agrees : (ℕ → ℕ → ℕ) → List ℕ → ExposureLine → Type 0
    Agrees s still x = (cell x < length still) × (s x.group x.tier ≡ get_or still (cell x) 0)

    agrees-next : (s : ℕ → ℕ → ℕ) (still : List ℕ) (x y : ExposureLine) → Good x → Good y → Agrees s still x → Agrees s still y → Agrees (after s x) (still_next x still) y
    agrees-next s still x y g h a b = (rw (length-set still (cell x) v) b.0, rw (← apart x y g h) (by (eqb (cell x) (cell y)) refl))
      where
        v : ℕ
        v = get_or still (cell x) 0 - x.amount

        by : (t : Bool) → eqb (cell x) (cell y) ≡ t → (if t then s y.group y.tier - served s x else s y.group y.tier) ≡ get_or (still_next x still) (cell y) 0
        by true e =
            let same = eqb-true (cell x) (cell y) e in
            let here : get_or (still_next x still) (cell y) 0 ≡ v = rw (← same) (get_or-set_same still (cell x) v 0 a.0) in
            let there : get_or still (cell y) 0 ≡ get_or still (cell x) 0 = ap (λ (q : ℕ). get_or still q 0) (sym same) in
            omega (arith, here, there, a.1, b.1)
        by false e = b.1 ∙ sym (get_or-set_other still (cell x) (cell y) v 0 (λ z. eqb-false (cell x) (cell y) e (sym z)))

    pub desks-are : (xs : List ExposureLine) (s : ℕ → ℕ → ℕ) (still desks : List ℕ) → All Good xs → All (Agrees s still) xs → All (λ x. x.desk < length desks) xs
        → (d : ℕ) → by_desk (desks_after cell xs still desks) d ≡ by_desk desks d + amount_of_desk d (excess_lines s xs)
    unfolding desks_after excess_lines amount_of_desk sum_of
    desks-are [] s still desks g a h d = omega arith
    desks-are (x ∷ xs) s still desks g a h d =
        let same = length-set desks x.desk (get_or desks x.desk 0 + (x.amount - get_or still (cell x) 0)) in
        let own : unserved s x ≡ x.amount - get_or still (cell x) 0 = omega (arith, a.0.1) in
        rw own (omega (
          arith,
          added desks x.desk (x.amount - get_or still (cell x) 0) d h.0,
          desks-are xs (after s x) (still_next x still) (desks_next x still desks) g.1
              (all_both (λ y p q. agrees-next s still x y g.0 p a.0 q) xs g.1 a.1) (all_map (λ y l. omega (arith, same)) xs h.1) d,
        ))
