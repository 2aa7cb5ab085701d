-- What becomes of a header on its way to the air.
use Rattle.std.specs.Prelude.{◌≡◌, ℕ, List, map, Ok, Err, Result, slice_index}
use Rattle.fault.specs.declared.Fault.{Fault}
use Rattle.fault.specs.declared.Fault.TheVariants.{Parity}
use Rattle.fault.specs.declared.ParityFault.{ParityFault}
use Rattle.code.specs.Bits.{string_check}
use Rattle.code.specs.Convolution.{coded_word}
use Rattle.code.specs.Parts.{rule_of}
use Rattle.code.specs.declared.part.Rule.{Rule}
use Rattle.code.specs.declared.parts.EcPart.TheVariants.{McsHeader}
use Rattle.parity.specs.Parity.{TheWordOf}
use Rattle.placement.specs.Kept.{header_kept}
use Rattle.ecbox.specs.declared.header.Stages.{Stages}

abbrev pub header_rule : Rule
header_rule = rule_of McsHeader

-- those of a header's coded bits that are sent
abbrev pub sent_of : List ℕ → List ℕ
sent_of bits = map (λ c. slice_index bits c) header_kept

-- the word of the message m, its coded bits, and those of them that are sent
pub record Staged (m : List ℕ) (s : Stages) : Type 0 where
  pub word : TheWordOf header_rule m s.word
  pub coded_bits : s.coded ≡ coded_word header_rule s.word
  pub kept : s.kept ≡ sent_of s.coded

-- a header of 16 bits is taken through its stages, and any other string is refused
abbrev pub StagesOf : List ℕ → Result Stages Fault → Type 0
StagesOf m (Ok s) = (string_check m header_rule.message ≡ Ok tt) × Staged m s
StagesOf m (Err fault) = (f : ParityFault) × (string_check m header_rule.message ≡ Err f) × (fault ≡ Parity f)
