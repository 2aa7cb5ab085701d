-- The convolutional code of rate 1/3: three coded bits for each step, each the sum of some of the last seven bits.
use Rattle.std.specs.Prelude.{◌≡◌, ℕ, ◌+◌, ◌-◌, ◌/◌, ◌%◌, cond, List, map, length, ◌==◌, nat_lt, slice_index}
use Rattle.std.specs.List.{range_with_len}
use Rattle.code.specs.Bits.{sum_word}
use Rattle.code.specs.Part.{places}
use Rattle.code.specs.declared.part.Ending.{Ending}
use Rattle.code.specs.declared.part.Ending.TheVariants.{TailBiting, ZeroTail}
use Rattle.code.specs.declared.part.Rule.{Rule}

-- w(-i): a tail-biting word goes round, and zeros stand before a zero tail's
abbrev pub before : Ending → List ℕ → ℕ → ℕ
before TailBiting w i = slice_index w (length w - i)
before ZeroTail w i = 0

-- w(k - i); zeros follow the word
abbrev pub back : Ending → List ℕ → ℕ → ℕ → ℕ
back e w k i = cond (nat_lt k i) (before e w (i - k)) (slice_index w (k - i))

-- the three sums of a step, where w i is the bit i steps back
abbrev pub sums : ℕ → (ℕ → ℕ) → ℕ
sums r w =
    cond (r == 0) (w 0 + w 2 + w 3 + w 5 + w 6)
    (cond (r == 1) (w 0 + w 1 + w 2 + w 3 + w 6)
    (w 0 + w 1 + w 4 + w 6))

-- C(c), the coded bit at place c of the word w
abbrev pub coded : Ending → List ℕ → ℕ → ℕ
coded e w c = sums (c % 3) (back e w (c / 3)) % 2

-- all coded bits of a part's word, in order
abbrev pub coded_word : Rule → List ℕ → List ℕ
coded_word r w = map (coded r.ending w) (range_with_len 0 (places r))

-- the coded bits of a sum of two words are the sums of their coded bits
pub record CodingIsLinear : Type 0 where
  pub each : (e : Ending) (v w : List ℕ) → length v ≡ length w → (c : ℕ) → coded e (sum_word v w) c ≡ (coded e v c + coded e w c) % 2
  pub all : (r : Rule) (v w : List ℕ) → length v ≡ length w → coded_word r (sum_word v w) ≡ sum_word (coded_word r v) (coded_word r w)
