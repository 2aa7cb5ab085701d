-- What an operator reads of a line that is no command.
use Rattle.std.specs.Prelude.{ℕ, List, codes}
use Rattle.console.specs.declared.misread.Misread.{Misread}
use Rattle.console.specs.declared.misread.Misread.TheVariants.{NotText, Unknown, NoName, NoSuchBlock, NoBits, NotBits, NoNumber, NotANumber, TooManyWords, NoBlock, NoMemory}

abbrev pub misread_text : Misread → List ℕ
misread_text NotText = codes "the line is not text"
misread_text Unknown = codes "there is no such command: try help"
misread_text NoName = codes "the name of a block is missing"
misread_text NoSuchBlock = codes "there is no such block: try help"
misread_text NoBits = codes "the bits are missing"
misread_text NotBits = codes "bits are written 0 and 1"
misread_text NoNumber = codes "a number is missing"
misread_text NotANumber = codes "numbers are whole, from 0 to 18446744073709551615"
misread_text TooManyWords = codes "there are more words than the command takes"
misread_text NoBlock = codes "there is no block yet: name one with block"
misread_text NoMemory = codes "there is no memory for the line"
