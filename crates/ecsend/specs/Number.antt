-- Numbers as they are written.
use Rattle.std.specs.Prelude.{◌≡◌, ℕ, ◌^◌, ◌<◌, List}
use Rattle.std.specs.Str.Parse.{IsNumeral, digits_value}

-- the text is digits, one at least, and they write the number n, which a word of 64 bits holds
abbrev pub Writes : List ℕ → ℕ → Type 0
Writes text n = IsNumeral 10 text × (digits_value 10 text ≡ n) × (n < 2 ^ 64)
