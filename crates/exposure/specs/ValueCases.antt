-- Values and refusals 14 and 15, computed.
use Rattle.refusal.specs.Chain.{Checked}
use Rattle.std.specs.Prelude.{[], ◌∷◌, map, ◌≡◌, refl, ℕ, Ok, Err}
use Rattle.words.specs.Words.{sum_of}
use Rattle.wire.specs.Bytes.{M}
use Rattle.refusal.specs.declared.Refusal.TheVariants.{ReinsuranceValues, StressedAssets}
use Rattle.book.specs.declared.Asset.{Asset}
use Rattle.book.specs.Book.{Book}
use Rattle.exposure.specs.Values.{stressed, net, over_reinsurance, VAF, before_excluded, VAF', fund_check}
use Rattle.exposure.specs.Examples.{asset, reinsured, held, fund}

-- reinsurance by flags, insurance and combination stress
abbrev stress : ℕ → ℕ → ℕ → Asset
stress flags insurance combination = asset 9 flags 1 0 0 0 insurance combination

-- T10: 100 without bit 1, 120 with; bit 0 changes nothing; with bit 1 the combination amount where it is the greater
stressed-cases : map {B = ℕ} stressed (stress 0 120 100 ∷ stress 2 120 100 ∷ stress 1 120 100 ∷ stress 2 100 120 ∷ []) ≡ 100 ∷ 120 ∷ 100 ∷ 120 ∷ []
unfolding stressed
stressed-cases = refl

-- an asset by kind, offsets and deductions, of value 100 and combination stress 50
abbrev less : ℕ → ℕ → ℕ → Asset
less kind offsets deductions = asset kind 0 1 100 offsets deductions 0 50

-- from the value, reinsurance from stressed; offsets and deductions taken off; never below 0
net-cases : map {B = ℕ} net (less 7 0 0 ∷ less 7 10 0 ∷ less 7 10 5 ∷ less 7 90 20 ∷ less 9 0 0 ∷ less 9 10 5 ∷ less 9 60 0 ∷ []) ≡ 100 ∷ 90 ∷ 85 ∷ 0 ∷ 50 ∷ 35 ∷ 0 ∷ []
unfolding net stressed
net-cases = refl

-- total 1000, excluded 1; reinsurance of value 100 and netted 10 twice, stressed 5 and 30, the second with deductions and linked; a loan with offsets
abbrev two : Book
two = fund 1000 1 [] (held (reinsured 1 100 10 5) [] ∷ held (asset 9 1 1 100 10 15 0 30) [] ∷ held (less 7 7 0) [] ∷ [])

-- offsets of reinsurance alone are netted
vaf-case : VAF two ≡ 980
unfolding VAF over_reinsurance sum_of
vaf-case = refl

-- stressed − netted is 0 and 20: each is cut off by itself, and deductions are not taken off
stressed-vaf-case : VAF' two ≡ 819
unfolding VAF' before_excluded over_reinsurance stressed sum_of
stressed-vaf-case = refl

-- by total, excluded, value and combination stress of one reinsurance asset
abbrev one : ℕ → ℕ → ℕ → ℕ → Book
one total excluded value combination = fund total excluded [] (held (reinsured 1 value 0 combination) [] ∷ [])

-- 14: 5 over 4, and 4 over 4. 15: excluded 1, total 0, and 1 of 1; M + 1, and M. 14 before 15
check-cases :
    map {B = Checked} fund_check
    (one 4 0 5 0 ∷ one 4 0 4 0 ∷ one 0 1 0 0 ∷ one 1 1 0 0 ∷ one M 0 0 1 ∷ one M 1 0 1 ∷ one 4 5 5 0 ∷ [])
    ≡ Err ReinsuranceValues ∷ (Ok tt) ∷ Err StressedAssets ∷ (Ok tt) ∷ Err StressedAssets ∷ (Ok tt) ∷ Err ReinsuranceValues ∷ []
unfolding fund_check VAF' before_excluded over_reinsurance stressed sum_of
check-cases = refl
