-- Division of polynomials over GF(2). A number stands for a polynomial: its bit i is the coefficient of D^i, and bit_xor is the sum.
use Rattle.std.specs.Prelude.{◌≡◌, ℕ, ◌+◌, ◌-◌, ◌*◌, ◌^◌, ◌<◌, List, fold, bit_xor}
use Rattle.code.specs.Bits.{Bits}
use Rattle.code.specs.Part.{Sound}
use Rattle.code.specs.declared.part.Generator.{Generator}

-- the whole polynomial, with its leading one
abbrev pub polynomial : Generator → ℕ
polynomial g = 2 ^ g.degree + g.taps

-- the polynomial below the degree of g with every coefficient 1
abbrev pub all_ones : Generator → ℕ
all_ones g = 2 ^ g.degree - 1

-- bits read as a polynomial, the first at the highest power
abbrev pub read : List ℕ → ℕ
read = fold (λ a b. 2 * a + b) 0

-- the product of a polynomial, given by its bits, and another
abbrev pub product : List ℕ → ℕ → ℕ
product quotient p = fold (λ a b. bit_xor (2 * a) (b * p)) 0 quotient

-- division of the bits by g leaves r: they are some quotient times g, plus r, which is below g's degree
pub record Leaves (g : Generator) (bits : List ℕ) (r : ℕ) : Type 0 where
  pub quotient : List ℕ
  pub binary : Bits quotient
  pub small : r < 2 ^ g.degree
  pub whole : read bits ≡ bit_xor (product quotient (polynomial g)) r

-- a division leaves one remainder, and no other
abbrev pub OneRemainder : Type 0
OneRemainder = (g : Generator) → Sound g → (bits : List ℕ) → Bits bits → (r : ℕ) × Leaves g bits r × ((s : ℕ) → Leaves g bits s → s ≡ r)
