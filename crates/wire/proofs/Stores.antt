-- What a run of stores at `at`, at + 1, at + 2, .. leaves, for any number of them: what `placed` says.
use mathlib.Core.Path.{◌≡◌, refl, ap, ◌∙◌}
use mathlib.Core.List.{List, [], ◌∷◌}
use Prim.Native.Nat.{ℕ, suc, ◌+◌, ◌≤◌}
use native.Mathlib.Nat.{add-suc}
use native.Mathlib.Numerals.{add-one}
use lib.ListN.{length, set}
use lib.Seq.{sets, sets-eq}
use Rattle.wire.specs.Bytes.{placed}

-- stores at at + k, at + (k + 1), ..
abbrev pub from : List ℕ → ℕ → ℕ → List ℕ → List ℕ
from l at k [] = l
from l at k (a ∷ vs) = from (set l (at + k) a) at (suc k) vs

-- stores at `at`, at + 1, ..
abbrev pub stores : List ℕ → ℕ → List ℕ → List ℕ
stores l at [] = l
stores l at (a ∷ vs) = from (set l at a) at 1 vs

from-sets : (vs l : List ℕ) (at k : ℕ) → from l at k vs ≡ sets l (at + k) vs
from-sets [] l at k = refl
from-sets (a ∷ vs) l at k = from-sets vs (set l (at + k) a) at (suc k) ∙ ap (λ (j : ℕ). sets (set l (at + k) a) j vs) (add-suc at k)

pub stored : (vs l : List ℕ) (at : ℕ) → at + length vs ≤ length l → stores l at vs ≡ placed l at vs
stored [] l at h = sets-eq [] l at h
stored (a ∷ vs) l at h =
    from-sets vs (set l at a) at 1 ∙ ap (λ (j : ℕ). sets (set l at a) j vs) (add-one at) ∙ sets-eq (a ∷ vs) l at h
