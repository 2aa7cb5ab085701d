-- Strings of bits, cut and put together.
use Rattle.std.proofs.Common.{ℕ, zero, suc, ◌<◌, List, [], ◌∷◌, ◌++◌, map, length, get_or, take, drop, All, arith}
use Rattle.std.proofs.lemmas.List.Elements.{All-append, All-drop, All-from_get_or, All-from_recursion, All-map, All-push, All-take, recursion_from_All}
use Rattle.code.specs.Bits.{Bits}

abbrev IsBit : ℕ → Type 0
IsBit b = b < 2

each : (xs : List ℕ) → Bits xs → All IsBit xs
each = All-from_recursion IsBit

whole : (xs : List ℕ) → All IsBit xs → Bits xs
whole = recursion_from_All IsBit

pub Bits-append : (xs ys : List ℕ) → Bits xs → Bits ys → Bits (xs ++ ys)
Bits-append xs ys h i = whole (xs ++ ys) (All-append IsBit xs ys (each xs h) (each ys i))

pub Bits-push : (xs : List ℕ) (b : ℕ) → Bits xs → b < 2 → Bits (xs ++ b ∷ [])
Bits-push xs b h i = whole (xs ++ b ∷ []) (All-push IsBit xs b (each xs h) i)

pub Bits-take : (n : ℕ) (xs : List ℕ) → Bits xs → Bits (take n xs)
Bits-take n xs h = whole (take n xs) (All-take IsBit n xs (each xs h))

pub Bits-drop : (n : ℕ) (xs : List ℕ) → Bits xs → Bits (drop n xs)
Bits-drop n xs h = whole (drop n xs) (All-drop IsBit n xs (each xs h))

pub Bits-map : (f : ℕ → ℕ) (ks : List ℕ) → ((k : ℕ) → f k < 2) → Bits (map f ks)
Bits-map f ks h = whole (map f ks) (All-map IsBit f ks (λ i d inside. h (get_or ks i d)))

pub Bits-from_get_or : (xs : List ℕ) → ((i : ℕ) → i < length xs → get_or xs i 0 < 2) → Bits xs
Bits-from_get_or xs h = whole xs (All-from_get_or IsBit xs 0 h)

-- past the end too, where 0 is read
pub Bits-get_or : (xs : List ℕ) → Bits xs → (i : ℕ) → get_or xs i 0 < 2
Bits-get_or [] h i = omega arith
Bits-get_or (b ∷ xs) h zero = h.0
Bits-get_or (b ∷ xs) h (suc i) = Bits-get_or xs h.1 i
