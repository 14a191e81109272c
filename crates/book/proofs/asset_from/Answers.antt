-- `asset_from`: the asset's twelve fields stand where `asset_from` reads them; count and desk go by the mask as they go by the version.
use mathlib.Core.Bool.{Bool, true, false}
use mathlib.Core.Path.{◌≡◌}
use Prim.Native.Nat.{ℕ}
use native.Mathlib.Omega.{arith}
use Rattle.std.specs.Prelude.{if◌then◌else◌}
use Rattle.words.specs.Words.{◌=?◌}
use Rattle.book.specs.Records.{version, asset_from}
use Rattle.book.proofs.asset_from.Goals as goal

-- which of the two masks it is
told : (t : Bool) {m : ℕ} → m ≡ (if t then 255 else 65535) → (m =? 255) ≡ t
told true e = rw e
told false e = rw e

mask : (t : Bool) {m : ℕ} → m ≡ (if t then 255 else 65535) → m ≡ (if m =? 255 then 255 else 65535)
mask t e = rw (told t e) e

pub masked_at-requires : goal.masked_at-requires
masked_at-requires c = (omega arith, mask (version c.args.b.now =? 2) c.requires.1)

pub returns : goal.returns
unfolding asset_from
returns c =
    rw (
      c.u64_at-5.ensures,
      c.u64_at-4.ensures,
      c.u64_at-3.ensures,
      c.u64_at-2.ensures,
      c.u64_at.ensures,
      c.pick.ensures,
      c.masked_at.ensures,
      c.u16_at.ensures,
      told (version c.args.b.now =? 2) c.requires.1,
    )
