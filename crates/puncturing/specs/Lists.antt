-- The kept list at the bottom of each block's pile.
use Rattle.std.specs.Prelude.{◌≡◌, ℕ, ◌+◌, ◌-◌, Bool, cond, List, ◌++◌, map, length, nat_lt, slice_index}
use Rattle.placement.specs.Placing.{Placing}
use Rattle.placement.specs.Layers.{up_to}
use Rattle.placement.specs.declared.placement.Place.TheVariants.{Coded}
use Rattle.placement.specs.Kept.{kept, header_dropped, header_kept}
use Rattle.puncturing.specs.Kept.{Keeps, evenly, data_dropped}
use Rattle.puncturing.specs.declared.Figures.{Figures}
use Rattle.puncturing.specs.declared.KeptList.{KeptList}
use Rattle.puncturing.specs.declared.KeptList.TheVariants.{CcchDown, PacchDown, PacchUp, PacchUp48, Mcs}

-- how many places are coded, and how many of them are kept
abbrev pub figures_of : KeptList → Figures
figures_of CcchDown = record { coded = 318; kept = 116 }
figures_of PacchDown = record { coded = 294; kept = 114 }
figures_of PacchUp = record { coded = 246; kept = 116 }
figures_of PacchUp48 = record { coded = 222; kept = 106 }
figures_of Mcs = record { coded = 660; kept = 420 }

-- the data's places follow the header's 72
abbrev pub dropped_of : KeptList → ℕ → Bool
dropped_of CcchDown = evenly 318 202 202
dropped_of PacchDown = evenly 294 180 180
dropped_of PacchUp = evenly 246 130 130
dropped_of PacchUp48 = evenly 222 116 116
dropped_of Mcs = λ c. cond (nat_lt c 72) (header_dropped c) (data_dropped (c - 72))

abbrev pub kept_of : KeptList → List ℕ
kept_of l = kept (figures_of l).coded (dropped_of l)

-- outer place j shows entry j of a list of coded places, of which there are n
abbrev pub in_order : ℕ → List ℕ → Placing
in_order n list = record { coded = n; outer = length list; shows = up_to (length list) (λ j. Coded (slice_index list j)) }

abbrev pub listed : KeptList → Placing
listed l = in_order (figures_of l).coded (kept_of l)

-- the kept lists
pub record KeptLists : Type 0 where
  -- whatever is dropped, a kept list is the rest, in order
  pub rest : (n : ℕ) (dropped : ℕ → Bool) → Keeps n dropped (kept n dropped)
  -- how many places each block keeps
  pub counts : (l : KeptList) → length (kept_of l) ≡ (figures_of l).kept
  -- the header's list, and then the data's
  pub header_then_data : kept_of Mcs ≡ header_kept ++ map (λ c. 72 + c) (kept 588 data_dropped)
  pub header_count : length header_kept ≡ 48
  pub data_count : length (kept 588 data_dropped) ≡ 372
