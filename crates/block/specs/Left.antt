-- The parts of a block that are still to come.
use Rattle.std.specs.Prelude.{List, drop}
use Rattle.code.specs.declared.part.Rule.{Rule}
use Rattle.block.specs.Layout.{Layout}
use Rattle.block.specs.declared.parts.Parts.{Parts}

-- their rules
abbrev pub parts_left : {B : Type 0} → (B → Layout) → Parts B → List Rule
parts_left layout parts = drop parts.next (layout parts.block.now).parts
