-- The bytes of the tables.
use prog.Memory.{up}
use mathlib.Core.List.{List}
use Prim.Native.Nat.{ℕ, ◌+◌, ◌*◌, ◌-◌, ◌≤◌, ◌<◌, ◌%◌}
use native.Mathlib.Omega.{arith}
use native.Mathlib.Nat.{mod-lt}
use Rattle.opening.specs.Tables.{RoomFor, most_places}

-- by a way to round up that adds no more than what it rounds to
module _ (round : ℕ → ℕ → ℕ) (eight : (e : ℕ) → round 8 e < e + 8) (two : (e : ℕ) → round 2 e < e + 2) where
  bytes-of : (p a m s : ℕ) → p ≤ most_places → a ≤ most_places → m ≤ most_places → s ≤ most_places
      → round 8 (round 2 (round 2 (round 2 (round 2 (round 2 (round 2 (round 8 (round 8 (round 8 (round 8 (0 + p * 8) + p * 8) + p * 8) + a * 8) + m * 8) + p * 2) + p * 2) + p * 2) + a * 2) + a * 2) + s * 2) < 9223372036854775808
  bytes-of p a m s hp ha hm hs =
      let e1 = 0 + p * 8 in
      let e2 = round 8 e1 + p * 8 in
      let e3 = round 8 e2 + p * 8 in
      let e4 = round 8 e3 + a * 8 in
      let e5 = round 8 e4 + m * 8 in
      let e6 = round 2 e5 + p * 2 in
      let e7 = round 2 e6 + p * 2 in
      let e8 = round 2 e7 + p * 2 in
      let e9 = round 2 e8 + a * 2 in
      let e10 = round 2 e9 + a * 2 in
      let e11 = round 2 e10 + s * 2 in
      omega (arith, hp, ha, hm, hs, eight e1, eight e2, eight e3, eight e4, two e5, two e6, two e7, two e8, two e9, two e10, eight e11)

eight : (e : ℕ) → up 8 e < e + 8
eight e = let h : 0 < 8 = omega arith in omega (arith, mod-lt (8 - e % 8) h)

two : (e : ℕ) → up 2 e < e + 2
two e = let h : 0 < 2 = omega arith in omega (arith, mod-lt (2 - e % 2) h)

pub bytes-fit : {b : List ℕ} {p a m s : ℕ} → RoomFor b p a m s
    → up 8 (up 2 (up 2 (up 2 (up 2 (up 2 (up 2 (up 8 (up 8 (up 8 (up 8 (0 + p * 8) + p * 8) + p * 8) + a * 8) + m * 8) + p * 2) + p * 2) + p * 2) + a * 2) + a * 2) + s * 2) < 9223372036854775808
bytes-fit {p = p} {a} {m} {s} r = bytes-of up eight two p a m s r.few-parties r.few-assets r.few-mitigants r.few-starts
