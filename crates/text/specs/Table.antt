-- The text computed: of a line, of a charge, of a refusal.
use Rattle.std.specs.Prelude.{◌≡◌, refl}
use Rattle.digits.specs.Decimal.{ascii, decimal, decimal_by}
use Rattle.text.specs.Text.{line_text, charge_text, refused_text}

pub line : line_text (record { top = 1; tier = 0; tiers = 5; exposure = 300; limit = 250; left = 240; excess = 60 }) ≡ ascii "1 0 300 250 240 60\n"
unfolding line_text decimal decimal_by
line = refl

pub charge : charge_text 100 ≡ ascii "charge 100\n"
unfolding charge_text decimal decimal_by
charge = refl

pub refusal : refused_text 10 3 ≡ ascii "refused 10 3\n"
unfolding refused_text decimal decimal_by
refusal = refl
