-- A division leaves one remainder: a sum of two multiples of the polynomial is a multiple, and a multiple that is not zero has its degree or more.
use Rattle.std.proofs.Common.{◌≡◌, ℕ, zero, suc, ◌+◌, ◌*◌, ◌^◌, ◌<◌, ◌≤◌, ◌⊎◌, List, [], ◌∷◌, ◌++◌, length, replicate, fold, bit_xor, sym, refl, ap, ◌∙◌, subst, ap₂, inl, inr, ⊎_elim, one-mul, zero-mul, arith, length-append, pow-add}
use Rattle.std.specs.Int.Bits.{xor_zero_l, xor_zero_r, xor_self}
use Rattle.std.proofs.lemmas.Nat.{xor_lt}
use Rattle.std.proofs.lemmas.List.{length-replicate}
use Rattle.std.proofs.lemmas.Bool.{cases_lt}
use Rattle.code.specs.Bits.{Bits}
use Rattle.code.specs.Part.{Sound}
use Rattle.code.specs.declared.part.Generator.{Generator}
use Rattle.code.proofs.Bits.{Bits-append}
use Rattle.parity.specs.Division.{Leaves, product, polynomial}
use Rattle.parity.proofs.Digits.{zeros_bits}
use Rattle.parity.proofs.Xor.{bit_cases, xor_double, xor_again, xor_equal, xor_pairs}

module _ (p d : ℕ) (lead : 2 ^ d ≤ p) (top : p < 2 ^ (d + 1)) where
  abbrev grow : ℕ → ℕ → ℕ
  grow a b = bit_xor (2 * a) (b * p)

  twice : 2 ^ (d + 1) ≡ 2 * 2 ^ d
  twice = pow-add 2 d 1 ∙ omega arith

  multiple : (b : ℕ) → b < 2 → b * p < 2 ^ (d + 1)
  multiple b h = grind arith

  large_step : (a b : ℕ) → b < 2 → 2 ^ d ≤ a → 2 ^ d ≤ grow a b
  large_step a b h l =
      ⊎_elim
      (λ (low : grow a b < 2 ^ (d + 1)).
      let back : bit_xor (grow a b) (b * p) ≡ 2 * a = xor_again (2 * a) (b * p) in
      let under = xor_lt (d + 1) (grow a b) (b * p) low (multiple b h) in
      absurd (omega (arith, back, under, twice, l)))
      (λ (high : 2 ^ (d + 1) ≤ grow a b). omega (arith, twice, high))
      (cases_lt (grow a b) (2 ^ (d + 1)))

  large_kept : (a : ℕ) (q : List ℕ) → Bits q → 2 ^ d ≤ a → 2 ^ d ≤ fold grow a q
  large_kept a [] h l = l
  large_kept a (b ∷ q) h l = large_kept (grow a b) q h.1 (large_step a b h.0 l)

  zero_or_large : (q : List ℕ) → Bits q → (fold grow 0 q ≡ 0) ⊎ (2 ^ d ≤ fold grow 0 q)
  zero_or_large [] h = inl refl
  zero_or_large (b ∷ q) h =
      ⊎_elim
      (λ (e : b ≡ 0).
      let z : grow 0 b ≡ 0 = ap (λ x. bit_xor 0 (x * p)) e ∙ ap (bit_xor 0) (zero-mul p) in
      subst (λ (n : ℕ). (fold grow n q ≡ 0) ⊎ (2 ^ d ≤ fold grow n q)) (sym z) (zero_or_large q h.1))
      (λ (e : b ≡ 1).
      let o : grow 0 b ≡ p = ap (λ x. bit_xor 0 (x * p)) e ∙ ap (bit_xor 0) (one-mul p) ∙ xor_zero_l p in
      inr (large_kept (grow 0 b) q h.1 (omega (arith, o, lead))))
      (bit_cases b h.0)

  abbrev added : List ℕ → List ℕ → List ℕ
  added [] ys = []
  added (x ∷ xs) [] = []
  added (x ∷ xs) (y ∷ ys) = bit_xor x y ∷ added xs ys

  added_bits : (q t : List ℕ) → Bits q → Bits t → Bits (added q t)
  added_bits [] t h i = tt
  added_bits (x ∷ q) [] h i = tt
  added_bits (x ∷ q) (y ∷ t) h i = (xor_lt 1 x y h.0 i.0, added_bits q t h.1 i.1)

  multiples : (b c : ℕ) → b < 2 → c < 2 → bit_xor (b * p) (c * p) ≡ bit_xor b c * p
  multiples b c hb hc =
      ⊎_elim
      (λ (e : b ≡ 0). rw (e, zero-mul p, xor_zero_l (c * p), xor_zero_l c))
      (λ (e : b ≡ 1).
      ⊎_elim
      (λ (f : c ≡ 0). rw (e, f, zero-mul p, xor_zero_r (1 * p)))
      (λ (f : c ≡ 1). rw (e, f) (xor_self (1 * p) ∙ sym (zero-mul p)))
      (bit_cases c hc))
      (bit_cases b hb)

  doubled : (a c : ℕ) → bit_xor (2 * a) (2 * c) ≡ 2 * bit_xor a c
  doubled a c =
      let e = xor_double a c 0 (omega arith) in
      let z : 2 * c + 0 ≡ 2 * c = omega arith in
      grind (arith, e, z)

  linear : (a c : ℕ) (q t : List ℕ) → length q ≡ length t → Bits q → Bits t → bit_xor (fold grow a q) (fold grow c t) ≡ fold grow (bit_xor a c) (added q t)
  linear a c [] [] e h i = refl
  linear a c [] (y ∷ t) e h i = absurd (omega arith)
  linear a c (x ∷ q) [] e h i = absurd (omega arith)
  linear a c (x ∷ q) (y ∷ t) e h i =
      linear (grow a x) (grow c y) q t (omega arith) h.1 i.1
      ∙ ap (λ n. fold grow n (added q t))
      (cc (xor_pairs (2 * a) (x * p) (2 * c) (y * p), doubled a c, multiples x y h.0 i.0))

  -- leading zeros change no product
  leading_zeros : (k : ℕ) (q : List ℕ) → fold grow 0 (replicate {A = ℕ} k 0 ++ q) ≡ fold grow 0 q
  leading_zeros zero q = refl
  leading_zeros (suc k) q =
      let z : grow 0 0 ≡ 0 = ap (bit_xor 0) (zero-mul p) in
      ap (λ n. fold grow n (replicate {A = ℕ} k 0 ++ q)) z ∙ leading_zeros k q

padded_long : (k : ℕ) (q : List ℕ) → length (replicate {A = ℕ} k 0 ++ q) ≡ k + length q
padded_long k q = length-append (replicate {A = ℕ} k 0) q ∙ omega (arith, length-replicate {A = ℕ} k 0)

pub one_remainder : (g : Generator) → Sound g → (bits : List ℕ) (r s : ℕ) → Leaves g bits r → Leaves g bits s → r ≡ s
one_remainder g sound bits r s one two =
    let d = g.degree in
    let p = polynomial g in
    let top : p < 2 ^ (d + 1) = omega (arith, pow-add 2 d 1, sound.below_leading) in
    let lead : 2 ^ d ≤ p = omega arith in
    let a = product one.quotient p in
    let b = product two.quotient p in
    let level : bit_xor a r ≡ bit_xor b s = sym one.whole ∙ two.whole in
    let both : bit_xor a b ≡ bit_xor r s =
    xor_equal (bit_xor a b) (bit_xor r s) (cc (xor_pairs a b r s, level, xor_self (bit_xor b s))) in
    let m = length one.quotient in
    let n = length two.quotient in
    let first = replicate {A = ℕ} n 0 ++ one.quotient in
    let second = replicate {A = ℕ} m 0 ++ two.quotient in
    let bits-first = Bits-append (replicate {A = ℕ} n 0) one.quotient (zeros_bits n) one.binary in
    let bits-second = Bits-append (replicate {A = ℕ} m 0) two.quotient (zeros_bits m) two.binary in
    let even : length first ≡ length second = omega (arith, padded_long n one.quotient, padded_long m two.quotient) in
    let q = added p d lead top first second in
    let sum : bit_xor a b ≡ product q p =
    ap₂ bit_xor (sym (leading_zeros p d lead top n one.quotient)) (sym (leading_zeros p d lead top m two.quotient))
    ∙ linear p d lead top 0 0 first second even bits-first bits-second in
    let under : bit_xor r s < 2 ^ d = xor_lt d r s one.small two.small in
    xor_equal r s
    (⊎_elim
    (λ (z : product q p ≡ 0). sym both ∙ sum ∙ z)
    (λ (l : 2 ^ d ≤ product q p). absurd (omega (arith, both, sum, under, l)))
    (zero_or_large p d lead top q (added_bits p d lead top first second bits-first bits-second)))
