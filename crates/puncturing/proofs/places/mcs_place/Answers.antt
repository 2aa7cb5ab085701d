use Rattle.std.proofs.Common.{arith}
use Rattle.std.proofs.lemmas.Grind.{common_steps}
use Rattle.std.proofs.iter.Serving.{serving}
use Rattle.puncturing.specs.declared.KeptList.TheVariants.{Mcs}
use Rattle.placement.proofs.Header.{header_by_formula}
use Rattle.puncturing.proofs.Closing.{place_low}
use Rattle.puncturing.proofs.places.mcs_place.Goals as goal

pub unwrap_or_else-requires : goal.unwrap_or_else-requires
unwrap_or_else-requires c = let low = place_low Mcs c.args.index c.requires.few in grind (arith, common_steps, serving, header_by_formula)
