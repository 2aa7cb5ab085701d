use Rattle.parity.proofs.Words.{some_word}
use Rattle.parity.proofs.laws.every_message_has_one_word.Goals as goal

pub returns : goal.returns
returns c = record { law = some_word }
