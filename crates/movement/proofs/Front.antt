-- A front with other counts, and bytes behind it: what is read of it, and that it can be taken off again.
use mathlib.Core.List.{List, ◌++◌, append_assoc}
use mathlib.Core.Path.{◌≡◌, sym, ap, ◌∙◌}
use Prim.Native.Nat.{ℕ, ◌+◌, ◌*◌, ◌-◌, ◌≤◌}
use native.Mathlib.Omega.{arith}
use lib.ListN.{length, get_or, take, drop, length-append, get_or-append}
use lib.Seq.{length-take-le, take_at, drop_at, get_or-take, get_or-drop}
use Rattle.wire.specs.Bytes.{byte_at, u16_at, bytes16}
use Rattle.wire.proofs.Laws.{u16-in}
use Rattle.book.specs.Records.{version, C, N, K}
use Rattle.movement.specs.Raw.{slice, front_of}
use Rattle.movement.proofs.Reading.{Agree, u16-by, slice-long}

module _ (b : List ℕ) (fits : 40 + 4 * C b ≤ length b) (n k : ℕ) where
  pub front_long : length (front_of b n k) ≡ 40 + 4 * C b
  unfolding front_of
  front_long =
      omega (arith, length-append (take 8 b) (bytes16 n ++ (bytes16 k ++ slice b 12 (28 + 4 * C b))), length-take-le 8 b (omega arith), slice-long b 12 (28 + 4 * C b) (omega arith))

  module _ (rest : List ℕ) where
    abbrev s : List ℕ
    s = front_of b n k ++ rest

    pub front-start : take 8 s ≡ take 8 b
    unfolding front_of
    front-start = ap (take 8) (append_assoc (take 8 b) (bytes16 n ++ (bytes16 k ++ slice b 12 (28 + 4 * C b))) rest) ∙ take_at (take 8 b) _ 8 (length-take-le 8 b (omega arith))

    pub front-N : N s ≡ n
    unfolding front_of
    front-N =
        ap (λ (x : List ℕ). u16_at x 8) (append_assoc (take 8 b) (bytes16 n ++ (bytes16 k ++ slice b 12 (28 + 4 * C b))) rest ∙ sym (append_assoc (take 8 b) (bytes16 n) ((bytes16 k ++ slice b 12 (28 + 4 * C b)) ++ rest)))
        ∙ u16-in (take 8 b) ((bytes16 k ++ slice b 12 (28 + 4 * C b)) ++ rest) 8 n (length-take-le 8 b (omega arith))

    pub front-K : K s ≡ k
    unfolding front_of
    front-K =
        let long : length (take 8 b ++ bytes16 n) ≡ 10 = omega (arith, length-append (take 8 b) (bytes16 n), length-take-le 8 b (omega arith)) in
        ap (λ (x : List ℕ). u16_at x 10) (simp append_assoc)
        ∙ u16-in (take 8 b ++ bytes16 n) (slice b 12 (28 + 4 * C b) ++ rest) 10 k long

    pub front-behind : drop (40 + 4 * C b) s ≡ rest
    front-behind = drop_at (front_of b n k) rest (40 + 4 * C b) front_long

    -- what stands before the counts is what stood there
    pub front-first : Agree 0 8 s 0 b 0
    front-first = record { each = λ j _ l. ap (byte_at s) (omega arith) ∙ sym (get_or-take 8 s j 0 l) ∙ ap (λ (x : List ℕ). get_or x j 0) front-start ∙ get_or-take 8 b j 0 l ∙ ap (byte_at b) (omega arith) }

    pub front-C : C s ≡ C b
    front-C = u16-by front-first 6 (omega arith) (omega arith)

    pub front-version : version s ≡ version b
    front-version = u16-by front-first 4 (omega arith) (omega arith)

    -- and behind them
    pub front_rest : drop 12 s ≡ slice b 12 (28 + 4 * C b) ++ rest
    unfolding front_of
    front_rest =
        let p = take 8 b ++ (bytes16 n ++ bytes16 k) in
        let long : length p ≡ 12 = omega (arith, length-append (take 8 b) (bytes16 n ++ bytes16 k), length-take-le 8 b (omega arith)) in
        let e : s ≡ p ++ (slice b 12 (28 + 4 * C b) ++ rest) = simp append_assoc in
        ap (drop 12) e ∙ drop_at p (slice b 12 (28 + 4 * C b) ++ rest) 12 long

    pub front-amounts : Agree 12 (40 + 4 * C b) s 0 b 0
    front-amounts = record {
      each = λ j l h.
          let i = j - 12 in
          let q : 12 + i ≡ j = omega arith in
          ap (byte_at s) (omega arith) ∙ ap (byte_at s) (sym q) ∙ sym (get_or-drop 12 s i 0) ∙ ap (λ (x : List ℕ). get_or x i 0) front_rest
          ∙ get_or-append (slice b 12 (28 + 4 * C b)) rest 0 i (omega (arith, slice-long b 12 (28 + 4 * C b) (omega arith)))
          ∙ get_or-take (28 + 4 * C b) (drop 12 b) i 0 (omega arith) ∙ get_or-drop 12 b i 0 ∙ ap (byte_at b) (omega arith);
    }

    -- another front in its place
    pub front-front : (n' k' : ℕ) → front_of s n' k' ≡ front_of b n' k'
    unfolding front_of
    front-front n' k' =
        ap (λ (x : List ℕ). take 8 s ++ (bytes16 n' ++ (bytes16 k' ++ x))) again
        ∙ ap (λ (x : List ℕ). x ++ (bytes16 n' ++ (bytes16 k' ++ slice b 12 (28 + 4 * C b)))) front-start
      where
        again : slice s 12 (28 + 4 * C s) ≡ slice b 12 (28 + 4 * C b)
        again =
            ap (λ (c : ℕ). take (28 + 4 * c) (drop 12 s)) front-C ∙ ap (take (28 + 4 * C b)) front_rest
            ∙ take_at (slice b 12 (28 + 4 * C b)) rest (28 + 4 * C b) (slice-long b 12 (28 + 4 * C b) (omega arith))
