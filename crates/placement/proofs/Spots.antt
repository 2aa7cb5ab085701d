-- The entry that goes to a place of the interleaver: by a formula, and the only one.
use Rattle.std.proofs.Common.{◌≡◌, ℕ, ◌+◌, ◌*◌, ◌/◌, ◌%◌, ◌<◌, ◌≤◌, sym, ◌∙◌, arith, rules}
use Rattle.placement.specs.Layers.{spot, moved}
use Rattle.placement.specs.Moved.{moved_at}
use Rattle.placement.specs.Sounds.{interleaved_sound}
use Rattle.placement.specs.declared.placement.Place.TheVariants.{Coded, Fixed}

abbrev pub entry_of : ℕ → ℕ
entry_of o = (265 * (o / 106 + 4 * (o % 106 % 2)) + 384 * (o % 106 / 2)) % 424

pub goes_there : (o : ℕ) → o < 424 → spot (entry_of o) ≡ o
goes_there o h = search rules

pub only_one : (o k : ℕ) → o < 424 → k < 424 → spot k ≡ o → k ≡ entry_of o
only_one o k h l e = search rules

pub shown_there : (o k : ℕ) → k < 424 → spot k ≡ o → moved spot 424 o ≡ Coded k
shown_there o k l e =
    moved_at spot o 424 k l e (λ i m f. only_one o i (omega arith) m f ∙ sym (only_one o k (omega arith) l e))

pub nothing_past : (o : ℕ) → 424 ≤ o → moved spot 424 o ≡ Fixed 0
nothing_past o h = interleaved_sound.ends o h
