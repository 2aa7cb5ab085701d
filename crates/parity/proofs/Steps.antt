-- One more bit of a division.
use Rattle.std.proofs.Common.{◌≡◌, ℕ, ◌+◌, ◌-◌, ◌*◌, ◌^◌, ◌<◌, ◌≤◌, ltb, List, [], ◌∷◌, ◌++◌, fold, bit_xor, sym, refl, ap, ◌∙◌, subst, ⊎_elim, append_assoc, append-nil, arith, pow_pos}
use Rattle.std.specs.Int.Bits.{xor_zero_r}
use Rattle.std.proofs.lemmas.Nat.{xor_lt}
use Rattle.std.proofs.lemmas.List.Sums.{fold_push}
use Rattle.std.proofs.lemmas.Bool.{cases_lt, cond-true, cond-false, lt-ltb, le-ltb}
use Rattle.code.specs.Bits.{Bits}
use Rattle.code.specs.Part.{Sound}
use Rattle.code.specs.declared.part.Generator.{Generator}
use Rattle.code.proofs.Bits.{Bits-push}
use Rattle.parity.specs.Division.{Leaves, read, product, polynomial}
use Rattle.parity.specs.Register.{next}
use Rattle.parity.proofs.Xor.{xor_double, xor_both, xor_leading}

module _ (g : Generator) (sound : Sound g) where
  -- nothing read, nothing left
  pub leaves_none : Leaves g [] 0
  leaves_none = record { quotient = []; binary = tt; small = pow_pos g.degree; whole = refl }

  -- with one more bit of the quotient, and what is left then
  pushed : (bits : List ℕ) (r b : ℕ) (old : Leaves g bits r) → b < 2 → (c s : ℕ) → c < 2 → s < 2 ^ g.degree
      → bit_xor (2 * product old.quotient (polynomial g)) (2 * r + b) ≡ bit_xor (bit_xor (2 * product old.quotient (polynomial g)) (c * polynomial g)) s
      → Leaves g (bits ++ (b ∷ [])) s
  pushed bits r b old hb c s hc hs e =
      let q = old.quotient in
      let p = polynomial g in
      let more : read (bits ++ (b ∷ [])) ≡ 2 * read bits + b = fold_push (λ x y. 2 * x + y) 0 bits b in
      let longer : product (q ++ (c ∷ [])) p ≡ bit_xor (2 * product q p) (c * p) = fold_push (λ x y. bit_xor (2 * x) (y * p)) 0 q c in
      record {
        quotient = q ++ (c ∷ []);
        binary = Bits-push q c old.binary hc;
        small = hs;
        whole = cc (more, old.whole, xor_double (product q p) r b hb, e, longer);
      }

  pub leaves_more : (bits : List ℕ) (r b : ℕ) → Leaves g bits r → b < 2 → Leaves g (bits ++ (b ∷ [])) (next g r b)
  leaves_more bits r b old hb =
      let d = g.degree in
      let p = product old.quotient (polynomial g) in
      let x = 2 * r + b in
      ⊎_elim
      (λ (low : x < 2 ^ d).
      subst (Leaves g (bits ++ (b ∷ []))) (sym (cond-true (ltb x (2 ^ d)) _ _ (lt-ltb x (2 ^ d) low)))
      (pushed bits r b old hb 0 x (omega arith) low (ap (λ n. bit_xor n x) (sym (ap (bit_xor (2 * p)) (omega arith) ∙ xor_zero_r (2 * p))))))
      (λ (high : 2 ^ d ≤ x).
      let s = bit_xor (x - 2 ^ d) g.taps in
      let under : x - 2 ^ d < 2 ^ d = omega (arith, old.small) in
      let reduced : bit_xor x (polynomial g) ≡ s =
      ap (λ n. bit_xor n (polynomial g)) (omega arith) ∙ xor_leading d (x - 2 ^ d) g.taps under sound.below_leading in
      subst (Leaves g (bits ++ (b ∷ []))) (sym (cond-false (ltb x (2 ^ d)) _ _ (le-ltb x (2 ^ d) high)))
      (pushed bits r b old hb 1 s (omega arith) (xor_lt d (x - 2 ^ d) g.taps under sound.below_leading)
      (sym (ap (λ n. bit_xor n s) (ap (bit_xor (2 * p)) (omega arith)) ∙ ap (bit_xor (bit_xor (2 * p) (polynomial g))) (sym reduced) ∙ xor_both (2 * p) (polynomial g) x))))
      (cases_lt x (2 ^ d))

  -- and with all of more bits
  pub leaves_all : (done bits : List ℕ) (r : ℕ) → Bits bits → Leaves g done r → Leaves g (done ++ bits) (fold (next g) r bits)
  leaves_all done [] r h old = subst (λ (l : List ℕ). Leaves g l r) (sym (append-nil done)) old
  leaves_all done (b ∷ bits) r h old =
      subst (λ (l : List ℕ). Leaves g l (fold (next g) (next g r b) bits)) (append_assoc done (b ∷ []) bits)
      (leaves_all (done ++ (b ∷ [])) bits (next g r b) h.1 (leaves_more done r b old h.0))

  -- the remainder, worked out bit by bit
  pub leaves_computed : (bits : List ℕ) → Bits bits → Leaves g bits (fold (next g) 0 bits)
  leaves_computed bits h = leaves_all [] bits 0 h leaves_none
