-- What `from_fn` makes by calls that keep P: the value of f at each index.
use Rattle.std.proofs.Common.{◌≡◌, ℕ, zero, suc, ◌+◌, ◌<◌, List, get_or, arith, ◌∙◌}
use Rattle.std.specs.Array.{IsFromFnResultFrom}
use Rattle.std.specs.Fn.{Called, Mut}

module _ {F : Type 0} (calls : Mut F (ℕ × Unit {0}) ℕ) (P : F → Type 0) (f : ℕ → ℕ) (keeps : (p q : F) (i y : ℕ) → P p → Called calls p (i, tt) y q → (y ≡ f i) × P q) where
  made_from : (n : ℕ) (p : F) (ys : List ℕ) (i : ℕ) → P p → IsFromFnResultFrom calls p ys i n → (k j : ℕ) → k < n → j ≡ i + k → get_or ys j 0 ≡ f j
  made_from zero p ys i holds all k j small at = absurd (omega arith)
  made_from (suc n) p ys i holds (q, y, stands, called, rest) zero j small at =
      let here : j ≡ i = omega arith in
      rw here (stands.1 0 ∙ (keeps p q i y holds called).0)
  made_from (suc n) p ys i holds (q, y, stands, called, rest) (suc k) j small at =
      made_from n q ys (i + 1) (keeps p q i y holds called).1 rest k j (omega arith) (omega arith)

  pub made : (n : ℕ) (p : F) (ys : List ℕ) → P p → IsFromFnResultFrom calls p ys 0 n → (k : ℕ) → k < n → get_or ys k 0 ≡ f k
  made n p ys holds all k small = made_from n p ys 0 holds all k k small (omega arith)
