-- The code is linear over GF(2): lemmas on sums of words, up to the coded bits of a sum.
use Rattle.std.proofs.Common.{◌≡◌, ℕ, zero, suc, ◌+◌, ◌-◌, ◌/◌, ◌%◌, Bool, true, false, cond, eqb, ltb, List, [], ◌∷◌, map, length, get_or, sym, refl, ap, ap₂, arith}
use Rattle.code.specs.declared.part.Ending.{Ending}
use Rattle.code.specs.declared.part.Ending.TheVariants.{TailBiting, ZeroTail}
use Rattle.code.specs.Convolution.{before, back, coded, coded_word}
use Rattle.std.specs.List.{range_with_len}
use Rattle.code.specs.Bits.{sum_word}
use Rattle.code.specs.Part.{places}
use Rattle.code.specs.declared.part.Rule.{Rule}

pub length_sum : (v w : List ℕ) → length v ≡ length w → length (sum_word v w) ≡ length v
length_sum [] w e = refl
length_sum (a ∷ v) [] e = sym e
length_sum (a ∷ v) (b ∷ w) e = ap suc (length_sum v w (omega arith))

pub get_or-sum : (v w : List ℕ) → length v ≡ length w → (k : ℕ) → get_or (sum_word v w) k 0 ≡ (get_or v k 0 + get_or w k 0) % 2
get_or-sum [] [] e k = refl
get_or-sum [] (b ∷ w) e k = omega arith
get_or-sum (a ∷ v) [] e k = omega arith
get_or-sum (a ∷ v) (b ∷ w) e zero = refl
get_or-sum (a ∷ v) (b ∷ w) e (suc k) = get_or-sum v w (omega arith) k

before_sum : (e : Ending) (v w : List ℕ) → length v ≡ length w → (i : ℕ) → before e (sum_word v w) i ≡ (before e v i + before e w i) % 2
before_sum TailBiting v w h i = rw (length_sum v w h, ← h) (get_or-sum v w h (length v - i))
before_sum ZeroTail v w h i = refl

pub back_sum : (e : Ending) (v w : List ℕ) → length v ≡ length w → (k i : ℕ) → back e (sum_word v w) k i ≡ (back e v k i + back e w k i) % 2
back_sum e v w h k i = go (ltb k i)
  where
    go : (b : Bool) → cond b (before e (sum_word v w) (i - k)) (get_or (sum_word v w) (k - i) 0) ≡ (cond b (before e v (i - k)) (get_or v (k - i) 0) + cond b (before e w (i - k)) (get_or w (k - i) 0)) % 2
    go true = before_sum e v w h (i - k)
    go false = get_or-sum v w h (k - i)

four : (a b c d a' b' c' d' : ℕ) → ((a + a') % 2 + (b + b') % 2 + (c + c') % 2 + (d + d') % 2) % 2 ≡ ((a + b + c + d) % 2 + (a' + b' + c' + d') % 2) % 2
four a b c d a' b' c' d' = omega arith

five : (a b c d e a' b' c' d' e' : ℕ) → ((a + a') % 2 + (b + b') % 2 + (c + c') % 2 + (d + d') % 2 + (e + e') % 2) % 2 ≡ ((a + b + c + d + e) % 2 + (a' + b' + c' + d' + e') % 2) % 2
five a b c d e a' b' c' d' e' = omega arith

sums_sum : (r : ℕ) (a b c a' b' c' a'' b'' c'' : ℕ) → a % 2 ≡ (a' % 2 + a'' % 2) % 2 → b % 2 ≡ (b' % 2 + b'' % 2) % 2 → c % 2 ≡ (c' % 2 + c'' % 2) % 2 → cond (eqb r 0) a (cond (eqb r 1) b c) % 2 ≡ (cond (eqb r 0) a' (cond (eqb r 1) b' c') % 2 + cond (eqb r 0) a'' (cond (eqb r 1) b'' c'') % 2) % 2
sums_sum r a b c a' b' c' a'' b'' c'' p q s = go (eqb r 0) (eqb r 1)
  where
    go : (x y : Bool) → cond x a (cond y b c) % 2 ≡ (cond x a' (cond y b' c') % 2 + cond x a'' (cond y b'' c'') % 2) % 2
    go true y = p
    go false true = q
    go false false = s

pub coded_sum : (e : Ending) (v w : List ℕ) → length v ≡ length w → (p : ℕ) → coded e (sum_word v w) p ≡ (coded e v p + coded e w p) % 2
coded_sum e v w h p =
    let k : ℕ = p / 3 in
    sums_sum (p % 3) _ _ _ _ _ _ _ _ _
    (simp (back_sum e v w h k) (five (back e v k 0) (back e v k 2) (back e v k 3) (back e v k 5) (back e v k 6) (back e w k 0) (back e w k 2) (back e w k 3) (back e w k 5) (back e w k 6)))
    (simp (back_sum e v w h k) (five (back e v k 0) (back e v k 1) (back e v k 2) (back e v k 3) (back e v k 6) (back e w k 0) (back e w k 1) (back e w k 2) (back e w k 3) (back e w k 6)))
    (simp (back_sum e v w h k) (four (back e v k 0) (back e v k 1) (back e v k 4) (back e v k 6) (back e w k 0) (back e w k 1) (back e w k 4) (back e w k 6)))

sum_maps : (f g h : ℕ → ℕ) → ((c : ℕ) → h c ≡ (f c + g c) % 2) → (cs : List ℕ) → map h cs ≡ sum_word (map f cs) (map g cs)
sum_maps f g h e [] = refl
sum_maps f g h e (c ∷ cs) = ap₂ ◌∷◌ (e c) (sum_maps f g h e cs)

pub coded_word_sum : (r : Rule) (v w : List ℕ) → length v ≡ length w → coded_word r (sum_word v w) ≡ sum_word (coded_word r v) (coded_word r w)
coded_word_sum r v w h =
    let e = r.ending in
    sum_maps (coded e v) (coded e w) (coded e (sum_word v w)) (coded_sum e v w h) (range_with_len 0 (places r))
