-- What a placement is: the coded place or the fixed bit that each outer place shows.
use Rattle.std.specs.Prelude.{◌≡◌, ℕ, ◌<◌, ◌≤◌}
use Rattle.placement.specs.declared.placement.Place.{Place}
use Rattle.placement.specs.declared.placement.Place.TheVariants.{Coded, Fixed}

pub record Placing : Type 0 where
  -- how many coded places there are
  pub coded : ℕ
  -- how many outer places there are
  pub outer : ℕ
  pub shows : ℕ → Place

-- what every placement keeps
pub record Sound (p : Placing) : Type 0 where
  pub within : (k c : ℕ) → p.shows k ≡ Coded c → c < p.coded
  pub binary : (k b : ℕ) → p.shows k ≡ Fixed b → b < 2
  pub ends : (k : ℕ) → p.outer ≤ k → p.shows k ≡ Fixed 0

-- a fixed bit, or what an entry shows
abbrev pub through : (ℕ → Place) → Place → Place
through shows (Coded entry) = shows entry
through shows (Fixed bit) = Fixed bit

-- a layer over a placement: a coded place of the layer is an entry, which is an outer place of the placement below
abbrev pub over : Placing → Placing → Placing
over layer below = record {
  coded = below.coded;
  outer = layer.outer;
  shows = λ k. through below.shows (layer.shows k);
}
