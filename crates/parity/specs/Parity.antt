-- Right parity, and the word of a message.
use Rattle.std.specs.Prelude.{◌≡◌, ℕ, Bool, List, take, Ok, Err, Decides, Result}
use Rattle.fault.specs.declared.ParityFault.{ParityFault}
use Rattle.code.specs.Bits.{string_check}
use Rattle.code.specs.Part.{Limits, Message, Word}
use Rattle.code.specs.declared.part.Rule.{Rule}
use Rattle.parity.specs.Division.{Leaves, all_ones}

-- division by the part's polynomial leaves every coefficient 1
abbrev pub RightParity : Rule → List ℕ → Type 0
RightParity rule w = Leaves rule.generator w (all_ones rule.generator)

-- w is a word with right parity that begins with the message m
pub record WordOf (rule : Rule) (m w : List ℕ) : Type 0 where
  pub word : Word rule w
  pub begins : take rule.message w ≡ m
  pub right : RightParity rule w

-- w is that word, and there is no other
pub record TheWordOf (rule : Rule) (m w : List ℕ) : Type 0 where
  pub is : WordOf rule m w
  pub only : (v : List ℕ) → WordOf rule m v → v ≡ w

-- every message has one word with right parity, and no other
abbrev pub OneWord : Type 0
OneWord = (rule : Rule) → Limits rule → (m : List ℕ) → Message rule m → (w : List ℕ) × TheWordOf rule m w

-- the answer tells whether a word's parity is right, or is the check's refusal
abbrev pub Judged : Rule → List ℕ → Result Bool ParityFault → Type 0
Judged rule w (Ok right) = (string_check w rule.word ≡ Ok tt) × Decides right (RightParity rule w)
Judged rule w (Err fault) = string_check w rule.word ≡ Err fault
