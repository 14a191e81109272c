-- Whose mitigant is whose, by a table: each asset's mark stands at the place of its first mitigant.
--   mark_of     an asset's mark: twice its place, and one more for reinsurance
--   marked     a table with the marks of some assets
--   owner_by    the greatest mark up to a place
--   Owned      it is the mark of each mitigant's own asset
use Rattle.std.specs.Prelude.{List, ◌≡◌, ℕ, zero, suc, ◌+◌, ◌*◌, ◌<◌, max, get_or, set, if◌then◌else◌}
use Rattle.book.specs.Records.{asset_at}
use Rattle.book.specs.Fields.{reinsurance}

unfoldable pub mark_of : List ℕ → ℕ → ℕ
mark_of b place = 2 * place + (if reinsurance (asset_at b place) then 1 else 0)

-- the marks of `more` assets from a place on, whose first mitigant is the one at `first`: an asset without mitigants is marked over by the next
unfoldable pub marked : List ℕ → List ℕ → ℕ → ℕ → ℕ → List ℕ
marked b t place first zero = t
marked b t place first (suc more) = marked b (set t first (mark_of b place)) (place + 1) (first + (asset_at b place).count) more

unfoldable pub owner_by : List ℕ → ℕ → ℕ
owner_by starts zero = 0
owner_by starts (suc place) = max (owner_by starts place) (get_or starts (suc place) 0)

-- of `more` assets from a place on, whose first mitigant is the one at `first`
unfoldable pub Owned : (ℕ → ℕ) → List ℕ → ℕ → ℕ → ℕ → Type 0
Owned owner b place first zero = Unit {0}
Owned owner b place first (suc more) =
    ((i : ℕ) → i < (asset_at b place).count → owner (first + i) ≡ mark_of b place)
    × Owned owner b (place + 1) (first + (asset_at b place).count) more
