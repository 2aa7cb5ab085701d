-- What the console writes.
use Rattle.std.specs.Prelude.{ℕ, List, ◌++◌, codes, decimal}
use Rattle.block.specs.Names.{block_name}
use Rattle.block.specs.declared.blocks.EcBlock.{EcBlock}
use Rattle.console.specs.Line.{bit_codes}
use Rattle.ecsend.specs.declared.text.Answer.{Answer}
use Rattle.ecsend.specs.declared.text.Answer.TheVariants.{Block, Burst, Slot, Repeat}

-- block NAME
abbrev pub block_line : EcBlock → List ℕ
block_line block = codes "block " ++ block_name block

-- burst NUMBER BITS
abbrev pub burst_line : ℕ → List ℕ → List ℕ
burst_line number places = codes "burst " ++ (decimal number ++ (codes " " ++ bit_codes places))

-- burst NUMBER slot NUMBER
abbrev pub slot_line : ℕ → ℕ → List ℕ
slot_line burst slot = codes "burst " ++ (decimal burst ++ (codes " slot " ++ decimal slot))

-- repeat NUMBER burst NUMBER
abbrev pub repeat_line : ℕ → ℕ → List ℕ
repeat_line repeat burst = codes "repeat " ++ (decimal repeat ++ (codes " burst " ++ decimal burst))

abbrev pub answer_line : Answer → List ℕ
answer_line (Block block) = block_line block
answer_line (Burst number places) = burst_line number places.now
answer_line (Slot burst slot) = slot_line burst slot
answer_line (Repeat repeat burst) = repeat_line repeat burst
