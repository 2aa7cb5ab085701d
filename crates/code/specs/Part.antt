-- What a code part is: one separately coded piece of a block.
use Rattle.std.specs.Prelude.{◌≡◌, ℕ, ◌+◌, ◌*◌, ◌^◌, ◌<◌, ◌≤◌, List}
use Rattle.code.specs.Bits.{BitString}
use Rattle.code.specs.declared.part.Ending.{Ending}
use Rattle.code.specs.declared.part.Ending.TheVariants.{TailBiting, ZeroTail}
use Rattle.code.specs.declared.part.Generator.{Generator}
use Rattle.code.specs.declared.part.Rule.{Rule}

-- the limits of a parity polynomial
pub record Sound (g : Generator) : Type 0 where
  pub degree_least : 1 ≤ g.degree
  pub degree_most : g.degree ≤ 24
  pub below_leading : g.taps < 2 ^ g.degree

-- the limits of every code part
pub record Limits (r : Rule) : Type 0 where
  pub some_message : 1 ≤ r.message
  pub word_least : 6 ≤ r.word
  pub word_most : r.word ≤ 256
  pub generator : Sound r.generator
  pub message_and_parity : r.word ≡ r.message + r.generator.degree

-- the coder's steps over a word of n bits: six zeros follow a zero tail's word
abbrev pub steps : Ending → ℕ → ℕ
steps TailBiting n = n
steps ZeroTail n = n + 6

-- the coded places of a part: three for each step
abbrev pub places : Rule → ℕ
places r = 3 * steps r.ending r.word

-- a message of a part
abbrev pub Message : Rule → List ℕ → Type 0
Message r = BitString r.message

-- a word of a part: message, then parity, the parity right or wrong
abbrev pub Word : Rule → List ℕ → Type 0
Word r = BitString r.word
