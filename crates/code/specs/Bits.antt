-- Strings of bits, and which byte is refused where a string of bits is asked. A bit in a buffer is a byte, 0 or 1.
use Rattle.std.specs.Prelude.{◌≡◌, ℕ, ◌+◌, ◌%◌, ◌<◌, ◌≤◌, List, [], ◌∷◌, length, Ok, Err, Result, ◌==◌, nat_lt, slice_index}
use Rattle.std.specs.List.{AllByRecursion}
use Rattle.fault.specs.Check.{unless}
use Rattle.fault.specs.declared.ParityFault.{ParityFault}
use Rattle.fault.specs.declared.ParityFault.TheVariants.{Length, NotABit, WrongParity}

abbrev pub Bits : List ℕ → Type 0
Bits = AllByRecursion (λ b. b < 2)

-- a string of n bits
pub record BitString (n : ℕ) (string : List ℕ) : Type 0 where
  pub long : length string ≡ n
  pub bits : Bits string

-- the sum, bit by bit modulo 2, of two strings of one length
abbrev pub sum_word : List ℕ → List ℕ → List ℕ
sum_word [] w = []
sum_word (a ∷ v) [] = []
sum_word (a ∷ v) (b ∷ w) = (a + b) % 2 ∷ sum_word v w

-- a check passed, or refused by a fault
abbrev pub Checked : Type 0
Checked = Result (Unit {0}) ParityFault

-- a buffer has the length asked, or its number is told
abbrev pub length_check : ℕ → ℕ → ℕ → Checked → Checked
length_check buffer given asked rest = unless (given == asked) (Length buffer) rest

-- of the bytes from index i on, the first that is neither 0 nor 1 is told
abbrev pub bits_check_from : ℕ → List ℕ → Checked
bits_check_from i [] = Ok tt
bits_check_from i (b ∷ bs) = unless (nat_lt b 2) (NotABit i) (bits_check_from (i + 1) bs)

abbrev pub bits_check : List ℕ → Checked
bits_check = bits_check_from 0

-- every byte is a bit, or i is the first that is none
abbrev pub FirstNoBit : List ℕ → Checked → Type 0
FirstNoBit bytes (Ok _) = (k : ℕ) → k < length bytes → slice_index bytes k < 2
FirstNoBit bytes (Err (Length buffer)) = ⊥
FirstNoBit bytes (Err (NotABit i)) = (i < length bytes) × (2 ≤ slice_index bytes i) × ((k : ℕ) → k < i → slice_index bytes k < 2)
FirstNoBit bytes (Err (WrongParity part cost)) = ⊥

-- a call that reads a string of bits: its length, then the bits
abbrev pub string_check : List ℕ → ℕ → Checked
string_check bits asked = length_check 1 (length bits) asked (bits_check bits)

-- a call that writes from a string of bits: the string's length, the output's, then the bits
abbrev pub writing_check : List ℕ → ℕ → ℕ → ℕ → Checked
writing_check bits asked out room = length_check 1 (length bits) asked (length_check 2 out room (bits_check bits))
