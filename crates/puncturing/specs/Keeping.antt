-- A kept list is what is not dropped, in order: for any number of places and any rule.
use Rattle.std.specs.Prelude.{◌≡◌, ℕ, zero, suc, ◌+◌, ◌-◌, ◌<◌, ◌≤◌, Bool, true, not, List, [], ◌∷◌, length, filter, slice_index, refl}
use Rattle.std.proofs.Common.{get_or, All, Contains, ◌∙◌, arith}
use Rattle.std.specs.List.{range_with_len}
use Rattle.std.specs.List.Sorted.{IsStrictlyIncreasing}
use Rattle.std.proofs.lemmas.Bool.{cond_both, not-true, not_from_false}
use Rattle.std.proofs.lemmas.List.Elements.{All-filter, filter_passes, Contains-append_right}
use Rattle.std.proofs.lemmas.List.FromFn.{length-range_with_len, get_or-range_with_len}
use Rattle.std.proofs.lemmas.List.Kept.{AllPairs-from_increasing, IsStrictlyIncreasing-filter}
use Rattle.placement.specs.Kept.{kept}
use Rattle.puncturing.specs.Kept.{Keeps}

-- what passes stays
stays : (p : ℕ → Bool) (xs : List ℕ) (k : ℕ) → k < length xs → p (slice_index xs k) ≡ true → Contains (filter p xs) (slice_index xs k)
stays p [] k h passes = absurd (omega arith)
stays p (x ∷ xs) zero h passes = rw passes (0, omega arith, refl)
stays p (x ∷ xs) (suc k) h passes =
    let rest = stays p xs k (omega arith) passes in
    cond_both (p x) (x ∷ filter p xs) (filter p xs) (λ ys. Contains ys (slice_index xs k)) (λ _. Contains-append_right (x ∷ []) _ _ rest) (λ _. rest)

-- of the n numbers from a on, xs are those that pass
record Passing (p : ℕ → Bool) (a n : ℕ) (xs : List ℕ) : Type 0 where
  sent : (j : ℕ) → j < length xs → (a ≤ slice_index xs j) × (slice_index xs j < a + n) × (p (slice_index xs j) ≡ true)
  missing : (c : ℕ) → a ≤ c → c < a + n → p c ≡ true → Contains xs c
  rising : (i j : ℕ) → i < j → j < length xs → slice_index xs i < slice_index xs j

number_at : (a n k d : ℕ) → k < n → get_or (range_with_len a n) k d ≡ a + k
number_at a n k d h = get_or-range_with_len a n k d h

numbers_within : (a n : ℕ) → All (λ c. (a ≤ c) × (c < a + n)) (range_with_len a n)
numbers_within a n k d h =
    let l : k < n = omega (arith, length-range_with_len a n) in rw (number_at a n k d l) (omega arith, omega arith)

numbers_rising : (a n : ℕ) → IsStrictlyIncreasing (range_with_len a n)
numbers_rising a n k h =
    let l : k + 1 < n = omega (arith, length-range_with_len a n) in omega (arith, number_at a n k 0 (omega arith), number_at a n (k + 1) 0 l)

passing : (p : ℕ → Bool) (n a : ℕ) → Passing p a n (filter p (range_with_len a n))
passing p n a =
    let numbers = range_with_len a n in
    let rising = AllPairs-from_increasing _ (IsStrictlyIncreasing-filter p numbers (numbers_rising a n)) in
    record {
      sent = λ j h.
          let within = All-filter p (λ c. (a ≤ c) × (c < a + n)) numbers (numbers_within a n) j 0 h in (within.0, within.1, filter_passes p numbers j 0 h);
      missing = λ c low high goes.
          let k = c - a in
          let here : slice_index numbers k ≡ c = number_at a n k 0 (omega arith) ∙ omega arith in
          rw here at (stays p numbers k (omega (arith, length-range_with_len a n)) (rw here goes));
      rising = λ i j less h. rising i j 0 less h;
    }

pub keeping : (n : ℕ) (dropped : ℕ → Bool) → Keeps n dropped (kept n dropped)
unfolding kept
keeping n dropped =
    let all = passing (λ c. not (dropped c)) n 0 in
    record {
      sent = λ j h. let s = all.sent j h in (omega (arith, s.1), not-true _ s.2);
      missing = λ c h stays. all.missing c (omega arith) (omega arith) (not_from_false _ stays);
      rising = all.rising;
    }
