-- Closed forms of the kept places, by which the code finds them. No public contract speaks of them.
use Rattle.std.specs.Prelude.{ℕ, ◌+◌, ◌-◌, ◌*◌, ◌/◌, ◌%◌, cond, List, [], ◌∷◌, ◌==◌, nat_lt, slice_index}
use Rattle.placement.specs.Kept.{header_place}
use Rattle.puncturing.specs.Kept.{exceptions}
use Rattle.puncturing.specs.declared.Figures.{Figures}
use Rattle.puncturing.specs.declared.KeptList.{KeptList}
use Rattle.puncturing.specs.declared.KeptList.TheVariants.{CcchDown, PacchDown, PacchUp, PacchUp48, Mcs}
use Rattle.puncturing.specs.Lists.{figures_of}

abbrev pub even_place : Figures → ℕ → ℕ
even_place f j = (f.coded * (j + 1) - 1) / f.kept

-- the residues modulo 21 by which the data's places are kept
abbrev pub kept_residues : List ℕ
kept_residues = 0 ∷ 1 ∷ 3 ∷ 4 ∷ 6 ∷ 7 ∷ 9 ∷ 12 ∷ 13 ∷ 15 ∷ 16 ∷ 18 ∷ 19 ∷ []

abbrev pub residue_place : ℕ → ℕ
residue_place j = 21 * (j / 13) + slice_index kept_residues (j % 13)

abbrev pub data_place : ℕ → ℕ
data_place j =
    cond (nat_lt j 46) (residue_place j)
    (cond (nat_lt j 366)
    (cond ((j - 46) % 40 == 0) (slice_index exceptions ((j - 46) / 40)) (residue_place (j - 1 - (j - 46) / 40)))
    (residue_place (j - 8)))

abbrev pub mcs_place : ℕ → ℕ
mcs_place j = cond (nat_lt j 48) (header_place j) (72 + data_place (j - 48))

abbrev pub place_of : KeptList → ℕ → ℕ
place_of CcchDown = even_place (figures_of CcchDown)
place_of PacchDown = even_place (figures_of PacchDown)
place_of PacchUp = even_place (figures_of PacchUp)
place_of PacchUp48 = even_place (figures_of PacchUp48)
place_of Mcs = mcs_place
