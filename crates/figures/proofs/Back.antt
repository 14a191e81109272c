-- What is read of written lines is what was written.
use mathlib.Core.Path.{◌≡◌, refl, ap, ap₂, ◌∙◌}
use mathlib.Core.List.{List, [], ◌∷◌, ◌++◌, append_assoc}
use Prim.Native.Nat.{ℕ, suc, ◌+◌, ◌*◌, ◌≤◌, ◌<◌}
use native.Mathlib.Omega.{arith}
use native.Mathlib.Nat.{add_assoc, add-zero}
use lib.ListN.{length, length-append}
use Rattle.words.specs.Words.{sum_of, sum, each_of}
use Rattle.words.specs.Sums.{sum_first, sum_same}
use Rattle.wire.specs.Bytes.{byte_at, u16_at, u64_at}
use Rattle.wire.proofs.Laws.{read-in, number}
use Rattle.figures.specs.declared.Line.{Line}
use Rattle.figures.specs.Report.{line_size, line_bytes, joined}
use Rattle.figures.specs.Read.{line_from}
use Rattle.figures.proofs.AgreeLaws.{same_line}

-- a number that stands in a part of a list, read in the whole
module _ (a vs b : List ℕ) (at k : ℕ) (e : length a ≡ at) where
  in-part : (j : ℕ) → k + j < length vs → byte_at (a ++ vs ++ b) (at + k + j) ≡ byte_at vs (k + j)
  in-part j h = ap (byte_at (a ++ vs ++ b)) (add_assoc at k j) ∙ read-in a vs b at e (k + j) h

  pub u16-part : k + 2 ≤ length vs → u16_at (a ++ vs ++ b) (at + k) ≡ u16_at vs k
  unfolding u16_at
  u16-part h = rw (read-in a vs b at e k (omega arith), in-part 1 (omega arith))

  pub u64-part : k + 8 ≤ length vs → u64_at (a ++ vs ++ b) (at + k) ≡ u64_at vs k
  unfolding u64_at
  u64-part h =
      let p : (j : ℕ) → j < 8 → byte_at (a ++ vs ++ b) (at + k + j) ≡ byte_at vs (k + j) = λ j l. in-part j (omega arith) in
      rw (read-in a vs b at e k (omega arith), p 1 (omega arith), p 2 (omega arith), p 3 (omega arith), p 4 (omega arith), p 5 (omega arith), p 6 (omega arith), p 7 (omega arith))

-- the numbers of a line
module _ (x : Line) where
  line-u16 : (u16_at (line_bytes x) 0 ≡ x.top) × (u16_at (line_bytes x) 4 ≡ x.tiers)
  unfolding line_bytes u16_at
  line-u16 = (omega arith, omega arith)

  line-u64 : (u64_at (line_bytes x) 8 ≡ x.exposure) × (u64_at (line_bytes x) 16 ≡ x.limit) × (u64_at (line_bytes x) 24 ≡ x.left) × (u64_at (line_bytes x) 32 ≡ x.excess)
  unfolding line_bytes u64_at
  line-u64 = (number x.exposure, number x.limit, number x.left, number x.excess)

  line-tier : byte_at (line_bytes x) 2 ≡ x.tier
  unfolding line_bytes
  line-tier = refl

  pub line-long : length (line_bytes x) ≡ line_size
  unfolding line_bytes
  line-long = refl

-- a line that stands in a list, read there
pub line-back : (x : Line) (a b : List ℕ) (at : ℕ) → length a ≡ at → line_from (a ++ line_bytes x ++ b) at ≡ x
unfolding line_from
line-back x a b at e =
    let n = line-long x in
    let h : (k : ℕ) → k + 8 ≤ length (line_bytes x) → u64_at (a ++ line_bytes x ++ b) (at + k) ≡ u64_at (line_bytes x) k = λ k l. u64-part a (line_bytes x) b at k e l in
    same_line x _ _ _ _ _ _ _ (rw add-zero at (u16-part a (line_bytes x) b at 0 e (omega arith)) ∙ (line-u16 x).0) (read-in a (line_bytes x) b at e 2 (omega arith) ∙ line-tier x)
    (u16-part a (line_bytes x) b at 4 e (omega arith) ∙ (line-u16 x).1)
    (h 8 (omega arith) ∙ (line-u64 x).0) (h 16 (omega arith) ∙ (line-u64 x).1) (h 24 (omega arith) ∙ (line-u64 x).2) (h 32 (omega arith) ∙ (line-u64 x).3)

-- a sum over the lines that are read is the sum over the lines that were written
pub lines-back :
    (f : Line → ℕ) (xs : List Line) (a b : List ℕ) (at : ℕ) → length a ≡ at
    → sum (λ i. f (line_from (a ++ joined xs ++ b) (at + line_size * i))) (length xs) ≡ sum_of f xs
unfolding each_of sum_of sum
lines-back f [] a b at e = refl
lines-back f (x ∷ xs) a b at e =
    sum_first (λ i. f (line_from (a ++ (line_bytes x ++ joined xs) ++ b) (at + line_size * i))) (length xs)
    ∙ rw (← append_assoc a (line_bytes x) (joined xs))
    (ap₂ ◌+◌ first (rest ∙ lines-back f xs (a ++ line_bytes x) b (at + line_size) (omega (arith, length-append a (line_bytes x), line-long x))))
  where
    read : ℕ → ℕ
    read k = f (line_from (a ++ line_bytes x ++ joined xs ++ b) k)

    first : read (at + line_size * 0) ≡ f x
    first = ap f (rw (append_assoc (a ++ line_bytes x) (joined xs) b, add-zero) (line-back x a (joined xs ++ b) at e))

    rest : sum (λ i. read (at + line_size * suc i)) (length xs) ≡ sum (λ i. read (at + line_size + line_size * i)) (length xs)
    rest = sum_same (λ i. read (at + line_size * suc i)) (λ i. read (at + line_size + line_size * i)) (length xs) (λ i _. ap read (omega arith))
