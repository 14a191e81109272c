-- What is made of assets with their mitigants is read back as these: made-raw. And it is made again from them: made-made.
use mathlib.Core.List.{List, [], ◌∷◌, ◌++◌, append_assoc, append-nil}
use mathlib.Core.Path.{◌≡◌, refl, sym, ap, ◌∙◌}
use Prim.Native.Nat.{ℕ, ◌+◌, ◌*◌, ◌≤◌, ◌<◌}
use native.Mathlib.Omega.{arith}
use lib.ListN.{length, get_or, take, drop, length-append, get_or-append}
use lib.Seq.{take_at, drop_at, drop-drop, get_or-drop}
use Rattle.words.specs.Words.{sum_of, each_of, All}
use Rattle.wire.specs.Bytes.{byte_at}
use Rattle.book.specs.Records.{version, C, N, asset_start, mitigant_start, asset_from, asset_at}
use Rattle.book.specs.Book.{Holding, holdings_from}
use Rattle.movement.specs.Raw.{slice, RawHolding, mitigant_count, raw_from, raw_holdings, asset_bytes, mitigant_bytes, front_of, made_of}
use Rattle.movement.proofs.Reading.{Agree, count_by}
use Rattle.movement.proofs.Front.{front-version, front-N, front-C, front-behind, front-front}

-- 48 bytes, and 12 for each mitigant, in a book of version v
abbrev pub Formed : ℕ → RawHolding → Type 0
Formed v i = (length i.asset ≡ 48) × (length i.mitigants ≡ 12 * mitigant_count v i)

-- a list that starts with xs at a place: what is read there, and what is behind it
module _ (s xs rest : List ℕ) (at n : ℕ) (e : drop at s ≡ xs ++ rest) (l : length xs ≡ n) where
  starts-part : slice s at n ≡ xs
  starts-part = ap (take n) e ∙ take_at xs rest n l

  starts-next : drop (at + n) s ≡ rest
  starts-next = sym (drop-drop n at s) ∙ ap (drop n) e ∙ drop_at xs rest n l

  starts-agree : Agree 0 n s at xs 0
  starts-agree = record {
    each = λ j _ k.
        sym (get_or-drop at s j 0) ∙ ap (λ (x : List ℕ). get_or x j 0) e ∙ get_or-append xs rest 0 j (omega arith) ∙ ap (byte_at xs) (omega arith);
  }

-- where the next records start
pub next-asset : (s : List ℕ) (place : ℕ) → 0 < place → asset_start s (place + 1) ≡ asset_start s place + 48
next-asset s place l = omega arith

pub next-mitigant : (s : List ℕ) (m count : ℕ) → 0 < m → mitigant_start s (m + count) ≡ mitigant_start s m + 12 * count
next-mitigant s m count l = omega arith

parse :
    (s : List ℕ) (items : List RawHolding) (place m : ℕ) (x y : List ℕ) → All (Formed (version s)) items → 0 < place → 0 < m
    → drop (asset_start s place) s ≡ asset_bytes items ++ x → drop (mitigant_start s m) s ≡ mitigant_bytes items ++ y → raw_from s place m (length items) ≡ items
unfolding raw_from each_of asset_from
parse s [] place m x y f l k ea em = refl
parse s (i ∷ is) place m x y f l k ea em =
    let fa = f.0.0 in
    let fm = f.0.1 in
    let ea' : drop (asset_start s place) s ≡ i.asset ++ (asset_bytes is ++ x) = ea ∙ append_assoc i.asset (asset_bytes is) x in
    let em' : drop (mitigant_start s m) s ≡ i.mitigants ++ (mitigant_bytes is ++ y) = em ∙ append_assoc i.mitigants (mitigant_bytes is) y in
    let count : (asset_at s place).count ≡ mitigant_count (version s) i = count_by (starts-agree s i.asset (asset_bytes is ++ x) (asset_start s place) 48 ea' fa) in
    let ea'' : drop (asset_start s (place + 1)) s ≡ asset_bytes is ++ x = rw (next-asset s place l) (starts-next s i.asset (asset_bytes is ++ x) (asset_start s place) 48 ea' fa) in
    let em'' : drop (mitigant_start s (m + mitigant_count (version s) i)) s ≡ mitigant_bytes is ++ y = rw (next-mitigant s m (mitigant_count (version s) i) k) (starts-next s i.mitigants (mitigant_bytes is ++ y) (mitigant_start s m) (12 * mitigant_count (version s) i) em' fm) in
    rw (
      count,
      starts-part s i.asset (asset_bytes is ++ x) (asset_start s place) 48 ea' fa,
      starts-part s i.mitigants (mitigant_bytes is ++ y) (mitigant_start s m) (12 * mitigant_count (version s) i) em' fm,
      parse s is (place + 1) (m + mitigant_count (version s) i) x y f.1 (omega arith) (omega arith) ea'' em'',
    )

-- the counts that are read along the assets' bytes, whatever the mitigants are
pub parse-counts :
    (s : List ℕ) (items : List RawHolding) (place m : ℕ) (x : List ℕ) → All (λ (i : RawHolding). length i.asset ≡ 48) items → 0 < place
    → drop (asset_start s place) s ≡ asset_bytes items ++ x → sum_of (λ (h : Holding). h.asset.count) (holdings_from s place m (length items)) ≡ sum_of (mitigant_count (version s)) items
unfolding holdings_from sum_of each_of asset_from
parse-counts s [] place m x f l ea = refl
parse-counts s (i ∷ is) place m x f l ea =
    let ea' : drop (asset_start s place) s ≡ i.asset ++ (asset_bytes is ++ x) = ea ∙ append_assoc i.asset (asset_bytes is) x in
    let count : (asset_at s place).count ≡ mitigant_count (version s) i = count_by (starts-agree s i.asset (asset_bytes is ++ x) (asset_start s place) 48 ea' f.0) in
    let ea'' : drop (asset_start s (place + 1)) s ≡ asset_bytes is ++ x = rw (next-asset s place l) (starts-next s i.asset (asset_bytes is ++ x) (asset_start s place) 48 ea' f.0) in
    rw (count, parse-counts s is (place + 1) (m + mitigant_count (version s) i) x f.1 (omega arith) ea'')

-- the assets' bytes are 48 each
assets-long : (v : ℕ) (items : List RawHolding) → All (Formed v) items → length (asset_bytes items) ≡ 48 * length items
unfolding each_of
assets-long v [] f = refl
assets-long v (i ∷ is) f = length-append i.asset (asset_bytes is) ∙ omega (arith, f.0.0, assets-long v is f.1)

module _ (b : List ℕ) (fits : 40 + 4 * C b ≤ length b) (items : List RawHolding) where
  pub made-N : N (made_of b items) ≡ length items
  unfolding made_of
  made-N = front-N b fits (length items) (sum_of (mitigant_count (version b)) items) (asset_bytes items ++ mitigant_bytes items)

  pub made-C : C (made_of b items) ≡ C b
  unfolding made_of
  made-C = front-C b fits (length items) (sum_of (mitigant_count (version b)) items) (asset_bytes items ++ mitigant_bytes items)

  pub made-version : version (made_of b items) ≡ version b
  unfolding made_of
  made-version = front-version b fits (length items) (sum_of (mitigant_count (version b)) items) (asset_bytes items ++ mitigant_bytes items)

  pub made-made : (others : List RawHolding) → made_of (made_of b items) others ≡ made_of b others
  unfolding made_of
  made-made others =
      ap (λ (v : ℕ). front_of (made_of b items) (length others) (sum_of (mitigant_count v) others) ++ (asset_bytes others ++ mitigant_bytes others)) made-version
      ∙ ap (λ (x : List ℕ). x ++ (asset_bytes others ++ mitigant_bytes others))
      (front-front b fits (length items) (sum_of (mitigant_count (version b)) items) (asset_bytes items ++ mitigant_bytes items) (length others) (sum_of (mitigant_count (version b)) others))

  pub made-behind : drop (40 + 4 * C b) (made_of b items) ≡ asset_bytes items ++ mitigant_bytes items
  unfolding made_of
  made-behind = front-behind b fits (length items) (sum_of (mitigant_count (version b)) items) (asset_bytes items ++ mitigant_bytes items)

  pub made-raw : All (Formed (version b)) items → raw_holdings (made_of b items) ≡ items
  unfolding raw_holdings
  made-raw f = rw made-N (parse (made_of b items) items 1 1 (mitigant_bytes items) [] (rw made-version f) (omega arith) (omega arith) assets mitigants)
    where
      assets : drop (asset_start (made_of b items) 1) (made_of b items) ≡ asset_bytes items ++ mitigant_bytes items
      assets = let q : asset_start (made_of b items) 1 ≡ 40 + 4 * C b = omega (arith, made-C) in ap (λ (at : ℕ). drop at (made_of b items)) q ∙ made-behind

      mitigants : drop (mitigant_start (made_of b items) 1) (made_of b items) ≡ mitigant_bytes items ++ []
      mitigants =
          let q : mitigant_start (made_of b items) 1 ≡ 40 + 4 * C b + 48 * length items = omega (arith, made-C, made-N) in
          ap (λ (at : ℕ). drop at (made_of b items)) q
          ∙ starts-next (made_of b items) (asset_bytes items) (mitigant_bytes items) (40 + 4 * C b) (48 * length items) made-behind (assets-long (version b) items f)
          ∙ sym (append-nil (mitigant_bytes items))
