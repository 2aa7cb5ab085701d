-- What a session keeps from line to line.
use Rattle.std.specs.Prelude.{◌≡◌, Some}
use Rattle.ecsend.specs.declared.SendingConsole.{SendingConsole}
use Rattle.ecsend.specs.declared.command.Command.{Command}
use Rattle.ecsend.specs.declared.command.Command.TheVariants.{Block, Call, Help}

-- a block stays named until another is
abbrev pub BlockNamed : SendingConsole → Command → SendingConsole → Type 0
BlockNamed old (Block block) new = new.block ≡ Some block
BlockNamed old (Call call) new = new.block ≡ old.block
BlockNamed old Help new = new.block ≡ old.block
