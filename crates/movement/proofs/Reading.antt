-- What is read of bytes that agree, at two places of two lists: u16-by, u64-by, count_by; and parts of a list: slice-long, slice-agree, slice-add, slice-end, slice-drop.
use mathlib.Core.List.{List, ◌++◌}
use mathlib.Core.Path.{◌≡◌, sym, ap, ◌∙◌}
use Prim.Native.Nat.{ℕ, ◌+◌, ◌≤◌, ◌<◌}
use native.Mathlib.Omega.{arith}
use lib.ListN.{length, take, drop, length-drop, take-append-drop}
use lib.Seq.{length-take-le, take_all, take-add, drop-drop, get_or-take, get_or-drop}
use Rattle.std.specs.Prelude.{if◌then◌else◌}
use Rattle.words.specs.Words.{◌=?◌}
use Rattle.wire.specs.Bytes.{byte_at, u16_at, u64_at}
use Rattle.book.specs.Records.{version, count_in}
use Rattle.movement.specs.Raw.{slice}

-- the bytes of s from at + low to before at + high are those of t from at' + low on
pub record Agree (low high : ℕ) (s : List ℕ) (at : ℕ) (t : List ℕ) (at' : ℕ) : Type 0 where
  pub each : (j : ℕ) → low ≤ j → j < high → byte_at s (at + j) ≡ byte_at t (at' + j)

module _ {low high : ℕ} {s : List ℕ} {at : ℕ} {t : List ℕ} {at' : ℕ} (h : Agree low high s at t at') where
  -- the byte j after a place k that agrees
  after : (k j : ℕ) → low ≤ k → k + j < high → byte_at s (at + k + j) ≡ byte_at t (at' + k + j)
  after k j l m = ap (byte_at s) (omega arith) ∙ h.each (k + j) (omega arith) (omega arith) ∙ ap (byte_at t) (omega arith)

  pub u16-by : (k : ℕ) → low ≤ k → k + 2 ≤ high → u16_at s (at + k) ≡ u16_at t (at' + k)
  unfolding u16_at
  u16-by k l m = rw (h.each k l (omega arith), after k 1 l (omega arith))

  pub u64-by : (k : ℕ) → low ≤ k → k + 8 ≤ high → u64_at s (at + k) ≡ u64_at t (at' + k)
  unfolding u64_at
  u64-by k l m =
      rw (h.each k l (omega arith), after k 1 l (omega arith), after k 2 l (omega arith), after k 3 l (omega arith), after k 4 l (omega arith), after k 5 l (omega arith), after k 6 l (omega arith), after k 7 l (omega arith))

-- the count of mitigants of an asset whose 48 bytes are t
pub count_by : {s : List ℕ} {at : ℕ} {t : List ℕ} → Agree 0 48 s at t 0 → count_in s at ≡ (if version s =? 2 then byte_at t 6 else u16_at t 6)
count_by h = rw (h.each 6 (omega arith) (omega arith), u16-by h 6 (omega arith) (omega arith))

-- ---- parts
pub slice-long : (s : List ℕ) (at n : ℕ) → at + n ≤ length s → length (slice s at n) ≡ n
slice-long s at n l = length-take-le n (drop at s) (omega (arith, length-drop at s))

-- a part's bytes
pub slice-agree : (s : List ℕ) (at n : ℕ) → Agree 0 n s at (slice s at n) 0
slice-agree s at n = record { each = λ j _ l. sym (ap (byte_at (slice s at n)) (omega arith) ∙ get_or-take n (drop at s) j 0 l ∙ get_or-drop at s j 0) }

-- two parts that join
pub slice-add : (s : List ℕ) (at n m : ℕ) → slice s at (n + m) ≡ slice s at n ++ slice s (at + n) m
slice-add s at n m = take-add n m (drop at s) ∙ ap (λ (l : List ℕ). take n (drop at s) ++ take m l) (drop-drop n at s)

-- a part up to the end is what is behind a place
pub slice-end : (s : List ℕ) (at n : ℕ) → length s ≤ at + n → slice s at n ≡ drop at s
slice-end s at n l = take_all n (drop at s) (omega (arith, length-drop at s))

-- a part and what is behind it
pub slice-drop : (s : List ℕ) (at n : ℕ) → slice s at n ++ drop (at + n) s ≡ drop at s
slice-drop s at n = ap (λ (l : List ℕ). take n (drop at s) ++ l) (sym (drop-drop n at s)) ∙ take-append-drop n (drop at s)
