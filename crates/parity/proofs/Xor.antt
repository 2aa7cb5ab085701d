-- Sums over GF(2) of numbers as polynomials.
use Rattle.std.proofs.Common.{◌≡◌, ℕ, ◌+◌, ◌*◌, ◌^◌, ◌<◌, ◌⊎◌, bit_xor, arith}
use Rattle.std.proofs.lemmas.Nat.{xor_block, xor_comm}
use Rattle.std.specs.Int.Bits.{xor_zero_l, xor_zero_r, xor_self, xor_assoc}

pub bit_cases : (b : ℕ) → b < 2 → (b ≡ 0) ⊎ (b ≡ 1)
bit_cases b h = grind arith

-- one power up, and one more bit
pub xor_double : (t r b : ℕ) → b < 2 → 2 * bit_xor t r + b ≡ bit_xor (2 * t) (2 * r + b)
xor_double t r b h = grind (arith, xor_block 1 t r 0 b (omega arith) h, xor_zero_l b)

-- what was added is taken off by adding it again
pub xor_again : (x y : ℕ) → bit_xor (bit_xor x y) y ≡ x
xor_again x y = cc (xor_assoc x y y, xor_self y, xor_zero_r x)

-- what is added on both sides goes
pub xor_both : (t g s : ℕ) → bit_xor (bit_xor t g) (bit_xor s g) ≡ bit_xor t s
xor_both t g s = cc (xor_assoc t g (bit_xor s g), xor_comm s g, xor_assoc g g s, xor_self g, xor_zero_l s)

-- what adds nothing is zero
pub xor_nothing : (x y : ℕ) → x ≡ bit_xor x y → y ≡ 0
xor_nothing x y e = cc (xor_again y x, xor_comm y x, xor_self x)

-- two numbers whose sum is zero are equal
pub xor_equal : (x y : ℕ) → bit_xor x y ≡ 0 → x ≡ y
xor_equal x y e = cc (xor_again x y, xor_zero_l y)

-- two numbers with a leading one at the same place
pub xor_leading : (d s t : ℕ) → s < 2 ^ d → t < 2 ^ d → bit_xor (2 ^ d + s) (2 ^ d + t) ≡ bit_xor s t
xor_leading d s t hs ht = grind (arith, xor_block d 1 1 s t hs ht)

-- sums of sums, paired the other way
pub xor_pairs : (x u y v : ℕ) → bit_xor (bit_xor x u) (bit_xor y v) ≡ bit_xor (bit_xor x y) (bit_xor u v)
xor_pairs x u y v = cc (xor_assoc x u (bit_xor y v), xor_assoc u y v, xor_comm u y, xor_assoc y u v, xor_assoc x y (bit_xor u v))
