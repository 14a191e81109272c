-- A movement makes the book of the assets then present: added-made, removed-made. A book is made of its own: made-own.
use mathlib.Core.List.{List, [], ◌∷◌, ◌++◌, append_assoc, append-nil}
use mathlib.Core.Path.{◌≡◌, sym, ap, ap₂, ◌∙◌}
use Prim.Native.Nat.{ℕ, suc, ◌+◌, ◌*◌, ◌-◌, ◌/◌, ◌%◌, ◌≤◌, ◌<◌}
use native.Mathlib.Omega.{arith}
use native.Mathlib.Numerals.{add-one}
use lib.ListN.{length, take, drop, length-append, take-append-drop}
use lib.Seq.{take_at, take-add, drop-cons, drop-append-add}
use Rattle.words.specs.Words.{sum_of, each_of}
use Rattle.words.specs.Sums.{sum-append, each_append, all_map, all_append}
use Rattle.wire.specs.Bytes.{byte_at, u16_at, bytes16}
use Rattle.book.specs.Records.{version, C, N, K, asset_start, mitigant_start, asset_at}
use Rattle.book.specs.Book.{Holding, holdings_from}
use Rattle.book.specs.Check.{counts_add}
use Rattle.book.specs.Accepted.{Accepted}
use Rattle.movement.specs.Raw.{slice, RawHolding, bare, mitigant_count, raw_from, raw_holdings, asset_bytes, mitigant_bytes, front_of, made_of}
use Rattle.movement.specs.Movement.{counts_before, with_asset, without_asset}
use Rattle.movement.proofs.Reading.{slice-add, slice-end, slice-drop}
use Rattle.movement.proofs.Slices.{raw-count, assets-slice, mitigants-slice, raw-long, raw-split, raw-sum, raw-K, own-formed}
use Rattle.movement.proofs.Parse.{Formed, parse-counts}
use Rattle.movement.proofs.Front.{front-version, front-N, front-K, front-C, front-behind}

-- a u16 that is read and written again
two_bytes : (b : List ℕ) (at : ℕ) → at + 2 ≤ length b → byte_at b at < 256 → bytes16 (u16_at b at) ≡ slice b at 2
unfolding u16_at
two_bytes b at l small =
    let e : drop at b ≡ byte_at b at ∷ byte_at b (at + 1) ∷ drop (suc (at + 1)) b =
    drop-cons b at 0 (omega arith) ∙ ap (λ (x : List ℕ). byte_at b at ∷ x) (ap (λ (k : ℕ). drop k b) (sym (add-one at)) ∙ drop-cons b (at + 1) 0 (omega arith)) in
    let low : (byte_at b at + byte_at b (at + 1) * 256) % 256 ≡ byte_at b at = omega arith in
    let high : (byte_at b at + byte_at b (at + 1) * 256) / 256 ≡ byte_at b (at + 1) = omega arith in
    rw (e, low, high)

-- a list without the element at a place
without : {A : Type 0} (xs ys : List A) (x : A) (place : ℕ) → 0 < place → length xs ≡ place - 1 → take (place - 1) (xs ++ (x ∷ ys)) ++ drop place (xs ++ (x ∷ ys)) ≡ xs ++ ys
without {A} xs ys x place low l =
    let q : place ≡ length xs + 1 = omega arith in
    ap₂ (λ (u v : List A). u ++ v) (take_at xs (x ∷ ys) (place - 1) l) (ap (λ (k : ℕ). drop k (xs ++ (x ∷ ys))) q ∙ drop-append-add xs (x ∷ ys) 1)

module _ (b : List ℕ) (acc : Accepted b) where
  fits : 40 + 4 * C b + 48 * N b + 12 * K b ≡ length b
  fits = omega (arith, acc.size)

  mitigant-first : mitigant_start b 1 ≡ asset_start b 1 + 48 * N b
  mitigant-first = omega arith

  module _ (small : (k : ℕ) → byte_at b k < 256) where
    front-own : front_of b (N b) (K b) ≡ take (40 + 4 * C b) b
    unfolding front_of
    front-own =
        let rest = 28 + 4 * C b in
        let e : 40 + 4 * C b ≡ 8 + (2 + (2 + rest)) = omega arith in
        ap₂ (λ (x y : List ℕ). take 8 b ++ (x ++ (y ++ slice b 12 rest))) (two_bytes b 8 (omega (arith, fits)) (small 8)) (two_bytes b 10 (omega (arith, fits)) (small 10))
        ∙ sym (ap (λ (k : ℕ). take k b) e ∙ take-add 8 (2 + (2 + rest)) b
        ∙ ap (λ (x : List ℕ). take 8 b ++ x) (slice-add b 8 2 (2 + rest) ∙ ap (λ (x : List ℕ). slice b 8 2 ++ x) (slice-add b 10 2 rest)))

    -- a book is made of its own assets
    pub made-own : made_of b (raw_holdings b) ≡ b
    unfolding made_of raw_holdings
    made-own =
        let a : asset_start b 1 ≡ 40 + 4 * C b = omega arith in
        rw (
          raw-long b (N b) 1 1,
          raw-K b acc,
          assets-slice b (N b) 1 1 (omega arith),
          mitigants-slice b (N b) 1 1 (omega arith),
          raw-K b acc,
          front-own,
          slice-end b (mitigant_start b 1) (12 * K b) (omega (arith, fits)),
          mitigant-first,
          slice-drop b (asset_start b 1) (48 * N b),
          a,
        )
        (take-append-drop (40 + 4 * C b) b)

  made-append : (xs ys : List RawHolding) → made_of b (xs ++ ys) ≡ front_of b (length xs + length ys) (sum_of (mitigant_count (version b)) xs + sum_of (mitigant_count (version b)) ys) ++ ((asset_bytes xs ++ asset_bytes ys) ++ (mitigant_bytes xs ++ mitigant_bytes ys))
  unfolding made_of
  made-append xs ys =
      rw (length-append xs ys, sum-append (mitigant_count (version b)) xs ys, each_append (λ (i : RawHolding). i.asset) xs ys, each_append (λ (i : RawHolding). i.mitigants) xs ys)

  pub added-made : (record48 : List ℕ) → mitigant_count (version b) (bare record48) ≡ 0 → with_asset b record48 ≡ made_of b (raw_holdings b ++ (bare record48 ∷ []))
  unfolding with_asset raw_holdings each_of sum_of
  added-made r none =
      let k : K b + (mitigant_count (version b) (bare r) + 0) ≡ K b = omega arith in
      let P = slice b (asset_start b 1) (48 * N b) in
      let M = drop (mitigant_start b 1) b in
      sym (made-append (raw_from b 1 1 (N b)) (bare r ∷ [])
      ∙ rw (
        raw-long b (N b) 1 1,
        assets-slice b (N b) 1 1 (omega arith),
        mitigants-slice b (N b) 1 1 (omega arith),
        raw-K b acc,
        k,
        slice-end b (mitigant_start b 1) (12 * K b) (omega (arith, fits)),
        append-nil r,
        append-nil M,
        append_assoc P r M,
      ))

  -- "A record whose count is not 0 fails 13": where the book with it is accepted, it has none
  pub added_none : (record48 : List ℕ) → length record48 ≡ 48 → Accepted (with_asset b record48) → mitigant_count (version b) (bare record48) ≡ 0
  unfolding counts_add with_asset sum_of each_of
  added_none r long a =
      let xs = raw_from b 1 1 (N b) in
      let ys : List RawHolding = bare r ∷ [] in
      let M = drop (mitigant_start b 1) b in
      let P = slice b (asset_start b 1) (48 * N b) in
      let s = with_asset b r in
      let enough : 40 + 4 * C b ≤ length b = omega (arith, fits) in
      let start : asset_start s 1 ≡ 40 + 4 * C b = omega (arith, front-C b enough (N b + 1) (K b) (P ++ (r ++ M))) in
      let bytes : drop (asset_start s 1) s ≡ asset_bytes (xs ++ ys) ++ M =
      rw (start, each_append (λ (i : RawHolding). i.asset) xs ys, assets-slice b (N b) 1 1 (omega arith), append-nil r, append_assoc P r M) (front-behind b enough (N b + 1) (K b) (P ++ (r ++ M))) in
      let n : N s ≡ length (xs ++ ys) = front-N b enough (N b + 1) (K b) (P ++ (r ++ M)) ∙ omega (arith, length-append xs ys, raw-long b (N b) 1 1) in
      let lengths = all_append (λ (i : RawHolding). length i.asset ≡ 48) xs ys (all_map {P = Formed (version b)} {Q = λ (i : RawHolding). length i.asset ≡ 48} (λ i f. f.0) xs (own-formed b acc)) (long, tt) in
      let counted = ap (λ (k : ℕ). sum_of (λ (h : Holding). h.asset.count) (holdings_from s 1 1 k)) n ∙ parse-counts s (xs ++ ys) 1 1 M lengths (omega arith) bytes ∙ ap (λ (v : ℕ). sum_of (mitigant_count v) (xs ++ ys)) (front-version b enough (N b + 1) (K b) (P ++ (r ++ M))) in
      omega (arith, counted, a.counted, front-K b enough (N b + 1) (K b) (P ++ (r ++ M)), sum-append (mitigant_count (version b)) xs ys, raw-K b acc)

  module _ (place : ℕ) (low : 0 < place) (high : place ≤ N b) where
    abbrev before : List RawHolding
    before = raw_from b 1 1 (place - 1)

    abbrev count : ℕ
    count = (asset_at b place).count

    abbrev behind : List RawHolding
    behind = raw_from b (place + 1) (1 + counts_before b place + count) (N b - place)

    abbrev gone : RawHolding
    gone = record { asset = slice b (asset_start b place) 48; mitigants = slice b (mitigant_start b (1 + counts_before b place)) (12 * count) }

    raw-around : raw_holdings b ≡ before ++ (gone ∷ behind)
    unfolding raw_holdings raw_from
    raw-around =
        let n : N b ≡ place - 1 + suc (N b - place) = omega arith in
        let p : 1 + (place - 1) ≡ place = omega arith in
        ap (raw_from b 1 1) n ∙ raw-split b (place - 1) (suc (N b - place)) 1 1 ∙ rw (p, raw-sum b (place - 1) 1 1)

    others : take (place - 1) (raw_holdings b) ++ drop place (raw_holdings b) ≡ before ++ behind
    others = ap (λ (x : List RawHolding). take (place - 1) x ++ drop place x) raw-around ∙ without before behind gone place low (raw-long b (place - 1) 1 1)

    counts : sum_of (mitigant_count (version b)) before + (count + sum_of (mitigant_count (version b)) behind) ≡ K b
    unfolding raw_holdings sum_of
    counts = omega (arith, raw-count b place, sum-append (mitigant_count (version b)) before (gone ∷ behind), ap (sum_of (mitigant_count (version b))) raw-around, raw-K b acc)

    -- the mitigants before the asset's, and its own, are among the book's
    pub counts-within : counts_before b place + (asset_at b place).count ≤ K b
    counts-within = omega (arith, counts, raw-sum b (place - 1) 1 1)

    pub removed-made : without_asset b place ≡ made_of b (take (place - 1) (raw_holdings b) ++ drop place (raw_holdings b))
    unfolding without_asset
    removed-made =
        let first = counts_before b place in
        let s : sum_of (mitigant_count (version b)) before ≡ first = raw-sum b (place - 1) 1 1 in
        let k : K b - count ≡ first + sum_of (mitigant_count (version b)) behind = omega (arith, s, counts) in
        let n : N b - 1 ≡ place - 1 + (N b - place) = omega arith in
        let f : 1 + first - 1 ≡ first = omega arith in
        let e : length b ≤ mitigant_start b (1 + first + count) + 12 * sum_of (mitigant_count (version b)) behind = omega (arith, s, fits, counts) in
        sym (ap (made_of b) others ∙ made-append before behind
        ∙ rw (
          raw-long b (place - 1) 1 1,
          raw-long b (N b - place) (place + 1) (1 + first + count),
          assets-slice b (place - 1) 1 1 (omega arith),
          assets-slice b (N b - place) (place + 1) (1 + first + count) (omega arith),
          mitigants-slice b (place - 1) 1 1 (omega arith),
          mitigants-slice b (N b - place) (place + 1) (1 + first + count) (omega arith),
          slice-end b (mitigant_start b (1 + first + count)) (12 * sum_of (mitigant_count (version b)) behind) e,
          s,
          k,
          n,
          f,
          append_assoc (slice b (asset_start b 1) (48 * (place - 1))) (slice b (asset_start b (place + 1)) (48 * (N b - place))) (slice b (mitigant_start b 1) (12 * first) ++ drop (mitigant_start b (1 + first + count)) b),
        ))
