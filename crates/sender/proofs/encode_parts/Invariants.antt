use Rattle.std.proofs.Common.{◌≡◌, ℕ, ◌+◌, List, ◌++◌, length, take, drop}
use Rattle.std.specs.List.{sum_by}
use Rattle.code.specs.Part.{places}
use Rattle.block.specs.Left.{parts_left}
use Rattle.sender.specs.Sent.{Encoded}
use Rattle.sender.proofs.encode_parts.Given as goal

-- what is written, and then whatever encodes the rest of the message by the parts to come, encodes the message
abbrev pub invariant-loop-part : goal.invariant-loop-part
invariant-loop-part g l =
    let left = parts_left g.B.Block.layout l.part-iterator in
    (l.from + sum_by (λ p. p.message) left ≡ length l.message)
    × (l.start + sum_by places left ≡ length l.fn.coded)
    × ((rest : List ℕ) → Encoded left (drop l.from l.message) rest → Encoded (g.B.Block.layout l.block).parts l.message (take l.start l.coded ++ rest))
