use Rattle.std.proofs.Common.{◌≡◌, get_or, Option, Some, None, sym, ap, ◌∙◌, rules, arith}
use Rattle.std.proofs.lemmas.Grind.{common_steps}
use Rattle.std.proofs.lemmas.Option.{slice_get-map, unwrap_or-slice_get}
use Rattle.std.specs.Option.{option_map, unwrap_or}
use Rattle.placement.specs.Kept.{header_kept}
use Rattle.ecbox.specs.Stages.{sent_of}
use Rattle.ecbox.proofs.header.kept_bit.Goals as goal

pub returns : goal.returns
returns c =
    let coded = c.args.coded.now in
    let i = c.args.index in
    let there = slice_get-map (λ n. get_or coded n 0) header_kept i in
    let is = unwrap_or-slice_get (sent_of coded) i 0 in
    record { value = grind (arith, common_steps, there, is, c.header_place.ensures.value) }
