-- The layers: which entry below, or which fixed bit, each of their outer places shows.
use Rattle.std.specs.Prelude.{◌≡◌, ℕ, zero, suc, ◌+◌, ◌-◌, ◌*◌, ◌/◌, ◌%◌, ◌<◌, cond, List, [], ◌∷◌, ◌==◌, nat_lt, slice_index_or}
use Rattle.std.specs.Char.{char_set_contains}
use Rattle.std.specs.List.{count_by}
use Rattle.placement.specs.Placing.{Placing}
use Rattle.placement.specs.declared.placement.Place.{Place}
use Rattle.placement.specs.declared.placement.Place.TheVariants.{Coded, Fixed}

-- n outer places; past them stands a fixed 0
abbrev pub up_to : ℕ → (ℕ → Place) → ℕ → Place
up_to n shows k = cond (nat_lt k n) (shows k) (Fixed 0)

-- place j of burst B is outer place 116 B + j
abbrev pub by_burst : ℕ → (ℕ → ℕ → Place) → ℕ → Place
by_burst bursts shows = up_to (116 * bursts) (λ k. shows (k / 116) (k % 116))

-- place j of every burst shows entry j
abbrev pub straight : ℕ → Placing
straight bursts = record { coded = 116; outer = 116 * bursts; shows = by_burst bursts (λ burst j. Coded j) }

-- the two flags of each of four bursts
abbrev pub burst_flags : List (ℕ × ℕ)
burst_flags = (0, 0) ∷ (0, 1) ∷ (0, 1) ∷ (1, 0) ∷ []

-- 114 entries around the two flags in the middle of each burst
abbrev pub around_two : ℕ → ℕ → Place
around_two burst j =
    cond (nat_lt j 57) (Coded j)
    (cond (j == 57) (Fixed (slice_index_or burst_flags burst (0, 0)).0)
    (cond (j == 58) (Fixed (slice_index_or burst_flags burst (0, 0)).1)
    (Coded (j - 2))))

abbrev pub split_by_two : Placing
split_by_two = record { coded = 114; outer = 464; shows = by_burst 4 around_two }

-- 106 entries of their own for each burst, around ten fixed zeros
abbrev pub around_ten : ℕ → ℕ → Place
around_ten burst j =
    cond (nat_lt j 53) (Coded (106 * burst + j))
    (cond (nat_lt j 63) (Fixed 0)
    (Coded (106 * burst + j - 10)))

abbrev pub split_by_ten : Placing
split_by_ten = record { coded = 424; outer = 464; shows = by_burst 4 around_ten }

-- the places of the flags among 424
abbrev pub flags : List ℕ
flags = 25 ∷ 82 ∷ 139 ∷ 401 ∷ []

-- how many of a list lie before k
abbrev pub before : ℕ → List ℕ → ℕ
before k = count_by (λ x. nat_lt x k)

-- fixed 0 at the flags, the entries in order around them
abbrev pub around_flags : ℕ → Place
around_flags k = cond (char_set_contains flags k) (Fixed 0) (Coded (k - before k flags))

abbrev pub flagged : Placing
flagged = record { coded = 420; outer = 424; shows = up_to 424 around_flags }

-- the outer place of the interleaver to which entry k goes
abbrev pub spot : ℕ → ℕ
spot k = 106 * (k % 4) + (2 * ((49 * k) % 53) + (k % 8) / 4)

-- the entries below 424 go to the places below 424, and to each goes exactly one
pub record Permutation : Type 0 where
  pub inside : (k : ℕ) → k < 424 → spot k < 424
  pub one_each : (o : ℕ) → o < 424 → (k : ℕ) × (k < 424) × (spot k ≡ o) × ((i : ℕ) → i < 424 → spot i ≡ o → i ≡ k)

-- the one of the first n entries that goes to the place o
unfoldable pub moved : (ℕ → ℕ) → ℕ → ℕ → Place
moved goes zero o = Fixed 0
moved goes (suc n) o = cond (goes n == o) (Coded n) (moved goes n o)

abbrev pub interleaved : Placing
interleaved = record { coded = 424; outer = 424; shows = moved spot 424 }
