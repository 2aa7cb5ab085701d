use Rattle.std.proofs.Common.{rules, tests}
use Rattle.std.proofs.lemmas.Iterator.{YieldsList-from_map}
use Rattle.std.proofs.lemmas.Iterator.Consumers.{YieldsList-from_first, YieldsList-at, fits_by_from_yields_list}
use Rattle.block.specs.Left.{parts_left}
use Rattle.sender.proofs.Parts.{messages_fit}
use Rattle.sender.proofs.message_length.Goals as goal

pub sum-requires-clause-fits : goal.sum-requires-clause-fits
sum-requires-clause-fits g c =
    let layout = g.B.Block.layout c.args.block.now in
    let parts = YieldsList-from_first g.B.Part.CodePart.rule (parts_left g.B.Block.layout) layout.parts c.parts.ensures.value in
    fits_by_from_yields_list _ layout.parts c.map.result _
    (YieldsList-from_map _ (λ r. r.message) (YieldsList-at c.map.ensures.source parts) c.map.ensures.closure (λ x r q k. search (rules, tests)))
    (messages_fit layout (g.met.B.Block.limits c.args.block.now))
