-- Puncturing: which coded places are dropped, and what it means that the rest is kept.
use Rattle.std.specs.Prelude.{◌≡◌, ℕ, zero, suc, ◌*◌, ◌/◌, ◌%◌, ◌<◌, Bool, false, not, ◌&&◌, ◌||◌, List, [], ◌∷◌, length, ◌==◌, slice_index}
use Rattle.std.specs.Char.{char_set_contains}
use Rattle.std.specs.List.{Contains}

-- of the places below n, the list has all that are not dropped: nothing kept is dropped, nothing else is missing, the
-- order is kept
pub record Keeps (n : ℕ) (dropped : ℕ → Bool) (list : List ℕ) : Type 0 where
  pub sent : (j : ℕ) → j < length list → (slice_index list j < n) × (dropped (slice_index list j) ≡ false)
  pub missing : (c : ℕ) → c < n → dropped c ≡ false → Contains list c
  pub rising : (i j : ℕ) → i < j → j < length list → slice_index list i < slice_index list j

-- c is floor(i * top / bottom) for some i below the count
unfoldable pub evenly : ℕ → ℕ → ℕ → ℕ → Bool
evenly top bottom zero c = false
evenly top bottom (suc i) c = i * top / bottom == c || evenly top bottom i c

-- the data drops r + 21 j for these r
abbrev pub dropped_residues : List ℕ
dropped_residues = 2 ∷ 5 ∷ 8 ∷ 10 ∷ 11 ∷ 14 ∷ 17 ∷ 20 ∷ []

-- but for these, which are sent
abbrev pub exceptions : List ℕ
exceptions = 73 ∷ 136 ∷ 199 ∷ 262 ∷ 325 ∷ 388 ∷ 451 ∷ 514 ∷ []

abbrev pub data_dropped : ℕ → Bool
data_dropped c = char_set_contains dropped_residues (c % 21) && not (char_set_contains exceptions c)
