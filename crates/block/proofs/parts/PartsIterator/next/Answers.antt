use Rattle.std.proofs.Common.{sym, arith}
use Rattle.std.proofs.lemmas.Option.{slice_get_within}
use Rattle.block.proofs.Left.{parts_below_places}
use Rattle.block.proofs.parts.PartsIterator.next.Goals as goal

pub overflow_add-self : goal.overflow_add-self
overflow_add-self g c =
    let block = c.args.self.now.block.now in
    let parts = (g.B.Block.layout block).parts in
    let limits = g.met.B.Block.limits block in
    let within = slice_get_within parts c.args.self.now.next _ (sym c.in_ok-part.ensures.value) in
    omega (arith, within, parts_below_places parts limits.parts_limits, limits.pile_coded, limits.coded_most)
