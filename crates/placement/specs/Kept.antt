-- Puncturing: which coded places are sent.
use Rattle.std.specs.Prelude.{ℕ, ◌+◌, ◌*◌, ◌/◌, ◌%◌, Bool, not, List, filter, ◌==◌}
use Rattle.std.specs.List.{range_with_len}

-- the places below n that are not dropped, in order
unfoldable pub kept : ℕ → (ℕ → Bool) → List ℕ
kept n dropped = filter (λ c. not (dropped c)) (range_with_len 0 n)

-- the header drops every place that leaves 2 when divided by 3
abbrev pub header_dropped : ℕ → Bool
header_dropped c = c % 3 == 2

abbrev pub header_kept : List ℕ
header_kept = kept 72 header_dropped

-- of the places that do not leave 2 when divided by 3, the one with j of them before it, by which the code finds it
abbrev pub header_place : ℕ → ℕ
header_place j = 3 * (j / 2) + j % 2
