-- The worked figures: one list, and what it means that they hold.
use Rattle.std.specs.Prelude.{◌≡◌, ℕ, List, [], ◌∷◌, ◌++◌, map, length, replicate}
use Rattle.std.specs.List.{range_with_len, AllByRecursion}
use Rattle.code.specs.Convolution.{coded}
use Rattle.code.specs.Parts.{rule_of}
use Rattle.code.specs.declared.part.Ending.{Ending}
use Rattle.code.specs.declared.part.Ending.TheVariants.{TailBiting, ZeroTail}
use Rattle.code.specs.declared.parts.EcPart.{EcPart}
use Rattle.code.specs.declared.parts.EcPart.TheVariants.{CcchDown, PacchDown, PacchUp, PacchUp48, McsHeader, McsData}
use Rattle.parity.specs.Parity.{WordOf}
use Rattle.placement.specs.Kept.{header_kept}

pub data Figure : Type 0 where
  -- a part's message and its parity bits
  parity_of : EcPart → List ℕ → List ℕ → Figure
  -- the first coded bits of a word
  coded_bits : Ending → List ℕ → List ℕ → Figure
  -- a header's word and the bits that are sent of it
  header_bits : List ℕ → List ℕ → Figure

abbrev pub Holds : Figure → Type 0
Holds (parity_of part message parity) = WordOf (rule_of part) message (message ++ parity)
Holds (coded_bits ending word bits) = map (coded ending word) (range_with_len 0 (length bits)) ≡ bits
Holds (header_bits word bits) = map (coded (rule_of McsHeader).ending word) header_kept ≡ bits

-- n zeros, then a 1
abbrev last_one : ℕ → List ℕ
last_one n = replicate n 0 ++ (1 ∷ [])

-- the 18 parity bits of such a message of a control block
abbrev after_last_one : List ℕ
after_last_one = 0 ∷ 1 ∷ 1 ∷ 0 ∷ 0 ∷ 1 ∷ 0 ∷ 0 ∷ 1 ∷ 0 ∷ 0 ∷ 0 ∷ 1 ∷ 1 ∷ 0 ∷ 0 ∷ 1 ∷ 0 ∷ []

abbrev pub figures : List Figure
figures =
    parity_of CcchDown (replicate 88 0) (replicate 18 1)
    ∷ parity_of CcchDown (last_one 87) after_last_one
    ∷ parity_of PacchDown (replicate 80 0) (replicate 18 1)
    ∷ parity_of PacchDown (last_one 79) after_last_one
    ∷ parity_of PacchUp (replicate 64 0) (replicate 18 1)
    ∷ parity_of PacchUp (last_one 63) after_last_one
    ∷ parity_of PacchUp48 (replicate 56 0) (replicate 18 1)
    ∷ parity_of PacchUp48 (last_one 55) after_last_one
    ∷ parity_of McsHeader (replicate 16 0) (replicate 8 1)
    ∷ parity_of McsHeader (last_one 15) (1 ∷ 0 ∷ 1 ∷ 1 ∷ 0 ∷ 1 ∷ 1 ∷ 0 ∷ [])
    ∷ parity_of McsData (last_one 177) (0 ∷ 0 ∷ 1 ∷ 0 ∷ 1 ∷ 1 ∷ 0 ∷ 0 ∷ 1 ∷ 1 ∷ 1 ∷ 0 ∷ [])
    ∷ coded_bits ZeroTail (1 ∷ replicate 6 0) (1 ∷ 1 ∷ 1 ∷ 0 ∷ 1 ∷ 1 ∷ 1 ∷ 1 ∷ 0 ∷ 1 ∷ 1 ∷ 0 ∷ 0 ∷ 0 ∷ 1 ∷ 1 ∷ 0 ∷ 0 ∷ 1 ∷ 1 ∷ 1 ∷ replicate 18 0)
    ∷ coded_bits TailBiting (last_one 6) (0 ∷ 1 ∷ 1 ∷ 1 ∷ 1 ∷ 0 ∷ 1 ∷ 1 ∷ 0 ∷ 0 ∷ 0 ∷ 1 ∷ 1 ∷ 0 ∷ 0 ∷ 1 ∷ 1 ∷ 1 ∷ 1 ∷ 1 ∷ 1 ∷ [])
    ∷ header_bits (replicate 16 0 ++ replicate 8 1)
    (0 ∷ 0 ∷ 0 ∷ 1 ∷ 1 ∷ 0 ∷ 0 ∷ 1 ∷ 0 ∷ 1 ∷ 1 ∷ 1 ∷ 0 ∷ 0 ∷ replicate 18 0
    ++ 1 ∷ 1 ∷ 1 ∷ 0 ∷ 0 ∷ 1 ∷ 1 ∷ 0 ∷ 1 ∷ 0 ∷ 0 ∷ 0 ∷ 1 ∷ 1 ∷ 1 ∷ 1 ∷ [])
    ∷ []

abbrev pub FiguresHold : Type 0
FiguresHold = AllByRecursion Holds figures
