-- The closed forms give the kept lists.
use Rattle.std.proofs.Common.{◌≡◌, ℕ, ◌<◌, ◌≤◌, length, slice_get, Some, None, refl, arith}
use Rattle.placement.specs.Kept.{kept}
use Rattle.placement.proofs.Formula.{ByFormula, by_formula}
use Rattle.puncturing.specs.Kept.{evenly}
use Rattle.puncturing.specs.Lists.{figures_of, dropped_of, kept_of}
use Rattle.puncturing.specs.Closed.{even_place, place_of}
use Rattle.puncturing.specs.declared.KeptList.{KeptList}
use Rattle.puncturing.specs.declared.KeptList.TheVariants.{CcchDown, PacchDown, PacchUp, PacchUp48, Mcs}
use Rattle.puncturing.specs.Keeping.{keeping}

kept_by_formula : (l : KeptList) → ByFormula (place_of l) (figures_of l).kept (kept_of l)
unfolding kept evenly
kept_by_formula CcchDown = by_formula _ _ _ refl
kept_by_formula PacchDown = by_formula _ _ _ refl
kept_by_formula PacchUp = by_formula _ _ _ refl
kept_by_formula PacchUp48 = by_formula _ _ _ refl
kept_by_formula Mcs = by_formula _ _ _ refl

pub kept_long : (l : KeptList) → length (kept_of l) ≡ (figures_of l).kept
kept_long l = (kept_by_formula l).long

pub kept_get : (l : KeptList) (j : ℕ) → j < (figures_of l).kept → slice_get (kept_of l) j ≡ Some (place_of l j)
kept_get l j h = (kept_by_formula l).get j h

pub kept_past : (l : KeptList) (j : ℕ) → (figures_of l).kept ≤ j → slice_get (kept_of l) j ≡ None
kept_past l j h = (kept_by_formula l).past j h

pub place_low : (l : KeptList) (j : ℕ) → j < (figures_of l).kept → place_of l j < (figures_of l).coded
place_low l j h =
    let low = (keeping (figures_of l).coded (dropped_of l)).sent j (omega (arith, kept_long l)) in
    omega (arith, low.0, (kept_by_formula l).at j h)

-- every list but the last is even
pub even_at : (l : KeptList) → (l ≡ Mcs → ⊥) → place_of l ≡ even_place (figures_of l)
even_at CcchDown other = refl
even_at PacchDown other = refl
even_at PacchUp other = refl
even_at PacchUp48 other = refl
even_at Mcs other = absurd (other refl)
