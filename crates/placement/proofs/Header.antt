-- The header's kept list by a formula.
use Rattle.std.proofs.Common.{◌≡◌, ℕ, ◌+◌, ◌*◌, ◌/◌, ◌%◌, length, refl}
use Rattle.placement.specs.Kept.{kept, header_kept, header_place}
use Rattle.placement.proofs.Formula.{ByFormula, by_formula}

pub header_by_formula : ByFormula header_place 48 header_kept
unfolding kept
header_by_formula = by_formula header_place 48 header_kept refl

pub header_long : length header_kept ≡ 48
header_long = header_by_formula.long
