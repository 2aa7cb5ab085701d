-- A list whose entries are given by a formula.
use Rattle.std.proofs.Common.{◌≡◌, ℕ, ◌<◌, ◌≤◌, List, length, get_or, map, slice_get, Some, None, ap, ◌∙◌, arith}
use Rattle.std.specs.List.{range_with_len}
use Rattle.std.proofs.lemmas.List.FromFn.{length-map-range_with_len, get_or-map-range_with_len}
use Rattle.std.proofs.lemmas.Option.{slice_get-get_or, slice_get_past}

-- the list has n entries, and entry j is f j
pub record ByFormula (f : ℕ → ℕ) (n : ℕ) (list : List ℕ) : Type 0 where
  pub long : length list ≡ n
  pub at : (j : ℕ) → j < n → get_or list j 0 ≡ f j
  pub get : (j : ℕ) → j < n → slice_get list j ≡ Some (f j)
  pub past : (j : ℕ) → n ≤ j → slice_get list j ≡ None

pub by_formula : (f : ℕ → ℕ) (n : ℕ) (list : List ℕ) → list ≡ map f (range_with_len 0 n) → ByFormula f n list
by_formula f n list e =
    let long : length list ≡ n = ap length e ∙ length-map-range_with_len f 0 n in
    let at : (j : ℕ) → j < n → get_or list j 0 ≡ f j =
    λ j h. ap (λ entries. get_or entries j 0) e ∙ get_or-map-range_with_len f 0 n j j 0 h (omega arith) in
    record {
      long = long;
      at = at;
      get = λ j h. slice_get-get_or list j 0 (omega arith) ∙ ap Some (at j h);
      past = λ j h. slice_get_past list j (omega arith);
    }
