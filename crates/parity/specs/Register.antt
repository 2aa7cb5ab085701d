-- The register in which the code divides. No public contract speaks of it.
use Rattle.std.specs.Prelude.{ℕ, ◌+◌, ◌-◌, ◌*◌, ◌^◌, cond, bit_xor, nat_lt}
use Rattle.code.specs.declared.part.Generator.{Generator}

-- what is left after one more bit
abbrev pub next : Generator → ℕ → ℕ → ℕ
next g r b = cond (nat_lt (2 * r + b) (2 ^ g.degree)) (2 * r + b) (bit_xor (2 * r + b - 2 ^ g.degree) g.taps)
