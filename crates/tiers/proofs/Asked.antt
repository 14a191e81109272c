-- What `limit::limit` and `limit::unrounded` ask at a call, from what its caller was asked: the base goes as 64 bits and comes as the same number.
use Prim.Native.Nat.{ℕ, ◌≤◌}
use lib.IntN.{ℤ}
use mir.Syntax.{w64}
use mir.Val.{SFits, to_z, of_z}
use mir.Facts.{to_z-of_z}
use Rattle.wire.specs.Bytes.{M}
use Rattle.limit.specs.declared.Row.{Row}
use Rattle.limit.specs.Limit.{counted}
use Rattle.limit.specs.Bounds.{RowFits}

pub asked : {row : Row} {percent vaf : ℕ} {base : ℤ} → SFits w64 base → RowFits row → percent ≤ 100 → vaf ≤ M → counted base ≤ M
    → RowFits row × ((percent ≤ 100) × (vaf ≤ M) × (counted (to_z w64 (of_z w64 base)) ≤ M))
asked f r p v b = (r, (p, v, rw (to_z-of_z {w = w64} f) b))
