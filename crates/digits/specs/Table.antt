-- Numbers at the edges, in decimal digits.
use Rattle.std.specs.Prelude.{◌≡◌, refl}
use Rattle.digits.specs.Decimal.{ascii, decimal, decimal_by}

pub numbers :
    (decimal 0 ≡ ascii "0") × (decimal 9 ≡ ascii "9") × (decimal 10 ≡ ascii "10") × (decimal 1009 ≡ ascii "1009")
    × (decimal 18446744073709551615 ≡ ascii "18446744073709551615")
unfolding decimal decimal_by
numbers = (refl, refl, refl, refl, refl)
