-- Movements over bytes, computed.
--   exact longer shorter over            the standing book of a buffer
--   added-case .. third-gone             each movement, on books of version 1 and 2, and of a specialist fund
--   back                                 added, then taken away
--   day-case made-case                   a day, and the book made afresh from the assets then present
use Rattle.std.specs.Prelude.{true, List, [], ◌∷◌, ◌++◌, ◌≡◌, refl, ℕ, take, replicate, set, Ok, Err}
use Rattle.words.specs.Words.{sum}
use Rattle.refusal.specs.declared.Refusal.TheVariants.{BookLength, BookCounts, MitigantCounts, Asset}
use Rattle.book.specs.Build.{counterparty, asset, desk_asset, mitigant, book_bytes, specialist_bytes, desk_bytes, book_computed}
use Rattle.book.specs.Check.{counts_fit, book_check}
use Rattle.movement.specs.Raw.{raw_from, raw_holdings, front_of, made_of}
use Rattle.movement.specs.Movement.{book_in, with_asset, without_asset, Add, Remove, resulting, present}

-- books of three assets, the first with two mitigants and the third with one
abbrev names : List (List ℕ)
names = counterparty 0 1 1 0 ∷ counterparty 1 0 0 0 ∷ []

abbrev first : List ℕ
first = asset 7 0 0 0 2 2 300 0 0 0 0

abbrev second : List ℕ
second = asset 4 0 0 0 1 0 40000 0 0 0 0

abbrev third : List ℕ
third = asset 9 0 1 3 2 1 500 0 0 0 400

abbrev m1 : List ℕ
m1 = mitigant 1 17 1 30

abbrev m2 : List ℕ
m2 = mitigant 4 4 1 70000

abbrev m3 : List ℕ
m3 = mitigant 5 8 1 90

abbrev book : List (List ℕ) → List (List ℕ) → List ℕ
book assets mitigants = book_bytes 100000 5 1 names assets mitigants

abbrev whole : List ℕ
whole = book (first ∷ second ∷ third ∷ []) (m1 ∷ m2 ∷ m3 ∷ [])

-- the same in version 2: desks 7, 0 and 255, which are no part of the counts
abbrev first' : List ℕ
first' = desk_asset 7 7 0 0 0 2 2 300 0 0 0 0

abbrev third' : List ℕ
third' = desk_asset 255 9 0 1 3 2 1 500 0 0 0 400

abbrev book' : List (List ℕ) → List (List ℕ) → List ℕ
book' assets mitigants = desk_bytes 100000 5 1 names assets mitigants

abbrev whole' : List ℕ
whole' = book' (first' ∷ second ∷ third' ∷ []) (m1 ∷ m2 ∷ m3 ∷ [])

-- ---- "at the start of a lent buffer, its length read from its counts (8 if the buffer is shorter)"

exact : book_in whole ≡ whole
unfolding book_computed book_in
exact = refl

longer : book_in (whole ++ replicate 100 9) ≡ whole
unfolding book_computed book_in
longer = refl

shorter : book_check (book_in (take 227 whole)) ≡ Err BookCounts
unfolding book_computed book_in
shorter = refl

-- counts over their most are 8 whatever the buffer's length
over : book_check (book_in (set whole 9 4 ++ replicate 100 9)) ≡ Err BookCounts
unfolding book_computed book_in
over = refl

-- a header alone; a byte less, with counts and without
no-counts : book_in (take 40 (book [] []) ++ (7 ∷ [])) ≡ take 41 (take 40 (book [] []) ++ (7 ∷ []))
unfolding book_computed book_in
no-counts = refl

under : book_check (book_in (take 39 whole)) ≡ Err BookLength
unfolding book_computed book_in
under = refl

empty : book_check (book_in []) ≡ Err BookLength
unfolding book_computed book_in
empty = refl

-- ---- one movement

added-case : with_asset (book (first ∷ third ∷ []) (m1 ∷ m2 ∷ m3 ∷ [])) second ≡ book (first ∷ third ∷ second ∷ []) (m1 ∷ m2 ∷ m3 ∷ [])
unfolding book_computed with_asset front_of
added-case = refl

added-first : with_asset (book [] []) second ≡ book (second ∷ []) []
unfolding book_computed with_asset front_of
added-first = refl

-- the first with its two, the second, which has none, and the last
first-gone : without_asset whole 1 ≡ book (second ∷ third ∷ []) (m3 ∷ [])
unfolding book_computed sum without_asset front_of
first-gone = refl

second-gone : without_asset whole 2 ≡ book (first ∷ third ∷ []) (m1 ∷ m2 ∷ m3 ∷ [])
unfolding book_computed sum without_asset front_of
second-gone = refl

third-gone : without_asset whole 3 ≡ book (first ∷ second ∷ []) (m1 ∷ m2 ∷ [])
unfolding book_computed sum without_asset front_of
third-gone = refl

-- between two others
middle-gone : without_asset (book (third ∷ first ∷ third ∷ []) (m3 ∷ m1 ∷ m2 ∷ m3 ∷ [])) 2 ≡ book (third ∷ third ∷ []) (m3 ∷ m3 ∷ [])
unfolding book_computed sum without_asset front_of
middle-gone = refl

-- added, then taken away
back : without_asset (with_asset whole second) 4 ≡ whole
unfolding book_computed sum with_asset without_asset front_of
back = refl

last-gone : without_asset (book (second ∷ []) []) 1 ≡ book [] []
unfolding book_computed sum without_asset front_of
last-gone = refl

-- ---- the same in version 2, and in a specialist fund

added-desk : with_asset (book' (first' ∷ third' ∷ []) (m1 ∷ m2 ∷ m3 ∷ [])) second ≡ book' (first' ∷ third' ∷ second ∷ []) (m1 ∷ m2 ∷ m3 ∷ [])
unfolding book_computed with_asset front_of
added-desk = refl

first-gone-desk : without_asset whole' 1 ≡ book' (second ∷ third' ∷ []) (m3 ∷ [])
unfolding book_computed sum without_asset front_of
first-gone-desk = refl

third-gone-desk : without_asset whole' 3 ≡ book' (first' ∷ second ∷ []) (m1 ∷ m2 ∷ [])
unfolding book_computed sum without_asset front_of
third-gone-desk = refl

specialist-stays : without_asset (specialist_bytes 100000 5 1 names (first ∷ second ∷ []) (m1 ∷ m2 ∷ [])) 1 ≡ specialist_bytes 100000 5 1 names (second ∷ []) []
unfolding book_computed sum without_asset front_of
specialist-stays = refl

-- ---- "A record whose count is not 0 fails 13"; in version 2 byte 7 is the desk and no count; in version 1 it is a part of the count

count-case : book_check (with_asset whole third) ≡ Err MitigantCounts
unfolding book_computed with_asset front_of
count-case = refl

desk-case : book_check (with_asset whole' (desk_asset 255 4 0 0 0 1 0 40000 0 0 0 0)) ≡ Ok tt
unfolding book_computed with_asset front_of
desk-case = refl

count-desk-case : book_check (with_asset whole' (desk_asset 0 4 0 0 0 1 1 40000 0 0 0 0)) ≡ Err MitigantCounts
unfolding book_computed with_asset front_of
count-desk-case = refl

desk-in-first : book_check (with_asset whole (desk_asset 1 4 0 0 0 1 0 40000 0 0 0 0)) ≡ Err MitigantCounts
unfolding book_computed with_asset front_of
desk-in-first = refl

-- the new record's place is the one behind the last
bad-record : book_check (with_asset whole (asset 12 0 0 0 1 0 0 0 0 0 0)) ≡ Err (Asset 4)
unfolding book_computed with_asset front_of
bad-record = refl

-- "the 901st asset is 8"
most : counts_fit (with_asset (book (replicate 899 second) []) second) ≡ true
unfolding book_computed with_asset front_of
most = refl

one_more : book_check (with_asset (book (replicate 900 second) []) second) ≡ Err BookCounts
unfolding book_computed with_asset front_of
one_more = refl

-- whatever it is
one-more-bad : book_check (with_asset (book (replicate 900 second) []) (asset 12 0 0 0 1 0 0 0 0 0 0)) ≡ Err BookCounts
unfolding book_computed with_asset front_of
one-more-bad = refl

-- ---- a day

day-case : resulting (resulting (resulting whole (Remove 1)) (Add second)) (Remove 2) ≡ book (second ∷ second ∷ []) []
unfolding book_computed sum with_asset without_asset front_of
day-case = refl

made-case : made_of whole (present (raw_holdings whole) (Remove 1 ∷ Add second ∷ Remove 2 ∷ [])) ≡ book (second ∷ second ∷ []) []
unfolding book_computed present raw_holdings raw_from made_of front_of
made-case = refl

made-desk : made_of whole' (present (raw_holdings whole') (Remove 2 ∷ [])) ≡ book' (first' ∷ third' ∷ []) (m1 ∷ m2 ∷ m3 ∷ [])
unfolding book_computed present raw_holdings raw_from made_of front_of
made-desk = refl
