use Rattle.code.proofs.Linear.{coded_sum, coded_word_sum}
use Rattle.code.proofs.laws.coding_is_linear.Goals as goal

pub returns : goal.returns
returns c = record { law = record { each = coded_sum; all = coded_word_sum } }
