use Rattle.sender.proofs.One.{one_sending}
use Rattle.sender.proofs.laws.every_message_is_sent_in_one_way.Goals as goal

pub returns : goal.returns
returns c = record { law = one_sending }
