-- What is written of one part. No public contract speaks of it.
use Rattle.std.specs.Prelude.{◌≡◌, ℕ, List}
use Rattle.code.specs.Convolution.{coded_word}
use Rattle.code.specs.declared.part.Rule.{Rule}
use Rattle.parity.specs.Parity.{TheWordOf}

-- coded are the coded bits of a part's message m, by its word with right parity
pub record PartEncoded (r : Rule) (m coded : List ℕ) : Type 0 where
  pub word : List ℕ
  pub of_message : TheWordOf r m word
  pub bits : coded ≡ coded_word r word
