-- The counts of mitigants are added up place by place: adding-starts, adding-on, adding-ends.
use mathlib.Core.List.{List}
use mathlib.Core.Path.{◌≡◌}
use Prim.Native.Nat.{ℕ, suc, ◌+◌, ◌*◌, ◌-◌, ◌≤◌, ◌<◌}
use native.Mathlib.Omega.{arith}
use Rattle.words.specs.Words.{sum_of}
use Rattle.book.specs.Records.{N, asset_at}
use Rattle.book.specs.Book.{Holding, holdings_from}
use Rattle.book.specs.Check.{counts_add}

-- `sum` is the counts of the assets before a place; the next asset's first mitigant is at place 1 + sum
pub record Adding (b : List ℕ) (sum place : ℕ) : Type 0 where
  pub started : 0 < place
  pub within : place ≤ N b + 1
  pub small : sum + 65535 ≤ 65535 * place
  pub rest : sum + sum_of (λ (h : Holding). h.asset.count) (holdings_from b place (1 + sum) (N b + 1 - place)) ≡ counts_add b

pub adding-starts : (b : List ℕ) → Adding b 0 1
unfolding counts_add
adding-starts b = record {
  started = omega arith;
  within = omega arith;
  small = omega arith;
  rest = let d : N b + 1 - 1 ≡ N b = omega arith in rw d (omega arith);
}

module _ {b : List ℕ} {sum place : ℕ} (s : Adding b sum place) where
  pub adding-on : place ≤ N b → {v : ℕ} → v ≡ (asset_at b place).count → v < 65536 → Adding b (sum + v) (place + 1)
  unfolding sum_of holdings_from
  adding-on h {v} e l =
      let d : N b + 1 - place ≡ suc (N b - place) = omega arith in
      let f : N b + 1 - (place + 1) ≡ N b - place = omega arith in
      let m : 1 + sum + (asset_at b place).count ≡ 1 + (sum + v) = omega arith in
      record {
        started = omega arith;
        within = omega arith;
        small = omega arith;
        rest = rw f (omega (arith, rw (d, m) at s.rest));
      }

  pub adding-ends : N b < place → sum ≡ counts_add b
  unfolding sum_of holdings_from
  adding-ends h = let d : N b + 1 - place ≡ 0 = omega arith in omega (arith, rw d at s.rest)
