-- The names of the five blocks.
use Rattle.std.specs.Prelude.{◌≡◌, ◌≢◌, ℕ, List, codes, Result, MatchResult}
use Rattle.block.specs.declared.blocks.EcBlock.{EcBlock}
use Rattle.block.specs.declared.blocks.EcBlock.TheVariants.{CcchDown, PacchDown, PacchUp, PacchUp48, Mcs}
use Rattle.block.specs.declared.name.UnknownBlock.{UnknownBlock}

abbrev pub block_name : EcBlock → List ℕ
block_name CcchDown = codes "CCCH/D"
block_name PacchDown = codes "PACCH/D"
block_name PacchUp = codes "PACCH/U"
block_name PacchUp48 = codes "PACCH/U/48"
block_name Mcs = codes "MCS-1'/48"

-- r is the block of that name, or an error where no block has it
abbrev pub Named : List ℕ → Result EcBlock UnknownBlock → Type 0
Named text r = MatchResult r (λ block. text ≡ block_name block) (λ _. (block : EcBlock) → text ≢ block_name block)
