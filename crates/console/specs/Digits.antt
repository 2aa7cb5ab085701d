-- Digits of a text as numbers.
use Rattle.std.specs.Prelude.{ℕ, ◌-◌, ◌≤◌, List, map}
use Rattle.std.specs.List.{AllByRecursion}

-- the bytes of '0' to '9'
abbrev pub Digit : ℕ → Type 0
Digit c = (48 ≤ c) × (c ≤ 57)

abbrev pub Digits : List ℕ → Type 0
Digits = AllByRecursion Digit

abbrev pub digit_values : List ℕ → List ℕ
digit_values = map (λ c. c - 48)
