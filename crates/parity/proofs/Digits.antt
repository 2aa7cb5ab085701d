-- Bits read as a number, the first at the highest power.
use Rattle.std.proofs.Common.{◌≡◌, ℕ, zero, suc, ◌+◌, ◌*◌, ◌/◌, ◌%◌, ◌^◌, ◌<◌, List, [], ◌∷◌, ◌++◌, length, replicate, fold, sym, refl, ap, ◌∙◌, ap₂, mod-lt, mul_assoc, mul_comm, add-mul, pow-suc, div-one, add-one, arith, lit<}
use Rattle.std.proofs.Math.Nat.{div-eq_of_lt, div-div-eq-div-mul}
use Rattle.std.proofs.lemmas.List.Sums.{fold-append}
use Rattle.code.specs.Bits.{Bits}
use Rattle.parity.specs.Division.{read}

abbrev grow : ℕ → ℕ → ℕ
grow a b = 2 * a + b

-- the bits read after what has been read
after : (a : ℕ) (ys : List ℕ) → fold grow a ys ≡ a * 2 ^ length ys + fold grow 0 ys
after a [] = omega arith
after a (y ∷ ys) =
    let t = 2 ^ length ys in
    let both : fold grow (2 * a + y) ys ≡ a * (t * 2) + fold grow (2 * 0 + y) ys = grind (arith, after (2 * a + y) ys, after (2 * 0 + y) ys) in
    both ∙ ap (λ n. a * n + fold grow (2 * 0 + y) ys) (sym (pow-suc 2 (length ys)))

pub read-append : (xs ys : List ℕ) → read (xs ++ ys) ≡ read xs * 2 ^ length ys + read ys
read-append xs ys = fold-append grow 0 xs ys ∙ after (read xs) ys

pub zeros_bits : (n : ℕ) → Bits (replicate {A = ℕ} n 0)
zeros_bits zero = tt
zeros_bits (suc n) = (omega arith, zeros_bits n)

pub read_zeros : (n : ℕ) → read (replicate {A = ℕ} n 0) ≡ 0
read_zeros zero = refl
read_zeros (suc n) = read_zeros n

read-cons : (b : ℕ) (xs : List ℕ) → read (b ∷ xs) ≡ b * 2 ^ length xs + read xs
read-cons b xs = ap (λ n. fold grow n xs) (omega arith) ∙ after b xs

pub read_lt : (xs : List ℕ) → Bits xs → read xs < 2 ^ length xs
read_lt [] h = omega arith
read_lt (b ∷ xs) h = let rest : read xs < 2 ^ length xs = read_lt xs h.1 in grind (arith, read-cons b xs, pow-suc 2 (length xs), h.0)

-- numbers below t, each behind a bit at t
lead_same : (t a b x y : ℕ) → a < 2 → b < 2 → x < t → y < t → a * t + x ≡ b * t + y → (a ≡ b) × (x ≡ y)
lead_same t a b x y ha hb hx hy h = (grind arith, grind arith)

-- strings of one length that read alike are equal
pub read_same : (xs ys : List ℕ) → Bits xs → Bits ys → length xs ≡ length ys → read xs ≡ read ys → xs ≡ ys
read_same [] [] h i long e = refl
read_same [] (y ∷ ys) h i long e = absurd (omega arith)
read_same (x ∷ xs) [] h i long e = absurd (omega arith)
read_same (x ∷ xs) (y ∷ ys) h i long e =
    let t = 2 ^ length xs in
    let same : length xs ≡ length ys = omega arith in
    let power : 2 ^ length ys ≡ t = ap (λ n. 2 ^ n) (sym same) in
    let last : read ys < t = omega (arith, read_lt ys i.1, power) in
    let level : x * t + read xs ≡ y * t + read ys =
    sym (read-cons x xs) ∙ e ∙ read-cons y ys ∙ ap (λ n. y * n + read ys) power in
    let parts = lead_same t x y (read xs) (read ys) h.0 i.0 (read_lt xs h.1) last level in
    ap₂ ◌∷◌ parts.0 (read_same xs ys h.1 i.1 same parts.1)

-- a number down to bit k is twice that down to the next, and bit k
pub digits_more : (v k : ℕ) → v / 2 ^ k ≡ 2 * (v / 2 ^ (k + 1)) + (v / 2 ^ k) % 2
digits_more v k =
    let e : v / 2 ^ k / 2 ≡ v / 2 ^ (k + 1) =
    div-div-eq-div-mul v (2 ^ k) 2 ∙ ap (λ n. v / n) (sym (pow-suc 2 k) ∙ ap (λ n. 2 ^ n) (sym (add-one k))) in
    omega (arith, e)

-- a number below 2 ^ d as d bits
abbrev pub bits_of : ℕ → ℕ → List ℕ
bits_of zero v = []
bits_of (suc d) v = (v / 2 ^ d) % 2 ∷ bits_of d v

pub bits_of_long : (d v : ℕ) → length (bits_of d v) ≡ d
bits_of_long zero v = refl
bits_of_long (suc d) v = ap suc (bits_of_long d v)

pub bits_of_bits : (d v : ℕ) → Bits (bits_of d v)
bits_of_bits zero v = tt
bits_of_bits (suc d) v = (mod-lt _ (lit< tt), bits_of_bits d v)

-- v is its last d bits and what stands above them
read-bits_of : (d v : ℕ) → read (bits_of d v) + (v / 2 ^ d) * 2 ^ d ≡ v
read-bits_of zero v = omega (arith, div-one v)
read-bits_of (suc d) v =
    let t = 2 ^ d in
    let b = (v / t) % 2 in
    let h = v / 2 ^ (d + 1) in
    let here : read (b ∷ bits_of d v) ≡ b * t + read (bits_of d v) =
    read-cons b (bits_of d v) ∙ ap (λ n. b * 2 ^ n + read (bits_of d v)) (bits_of_long d v) in
    let split : (v / t) * t ≡ (2 * h) * t + b * t = ap (λ n. n * t) (digits_more v d) ∙ add-mul (2 * h) b t in
    let power : h * 2 ^ (d + 1) ≡ (2 * h) * t =
    ap (λ n. h * n) (ap (λ n. 2 ^ n) (add-one d) ∙ pow-suc 2 d ∙ mul_comm t 2) ∙ sym (mul_assoc h 2 t) ∙ ap (λ n. n * t) (mul_comm h 2) in
    let top : (v / 2 ^ suc d) * 2 ^ suc d ≡ h * 2 ^ (d + 1) = ap (λ n. (v / 2 ^ n) * 2 ^ n) (sym (add-one d)) in
    omega (arith, here, split, power, top, read-bits_of d v)

pub read_back : (d v : ℕ) → v < 2 ^ d → read (bits_of d v) ≡ v
read_back d v h =
    let none : (v / 2 ^ d) * 2 ^ d ≡ 0 = ap (λ n. n * 2 ^ d) (div-eq_of_lt h) ∙ omega arith in
    omega (arith, none, read-bits_of d v)
