-- Where burst b of repeat m of a block goes, and back: to burst b' of slot pn, of p slots, with `total` repeats in all.
use Rattle.std.specs.Prelude.{ℕ, ◌+◌, ◌*◌, ◌/◌, ◌%◌, Bool, true, false, cond, ◌||◌, List, [], ◌∷◌, Ok, Result, nat_lt}
use Rattle.std.specs.Char.{char_set_contains}
use Rattle.block.specs.Blocks.{layout_of}
use Rattle.block.specs.declared.blocks.EcBlock.{EcBlock}
use Rattle.block.specs.declared.blocks.EcBlock.TheVariants.{CcchDown, PacchDown, PacchUp, PacchUp48, Mcs}
use Rattle.fault.specs.Check.{unless}
use Rattle.fault.specs.declared.Fault.{Fault}
use Rattle.fault.specs.declared.Fault.TheVariants.{Timing, Placement}
use Rattle.fault.specs.declared.PlacementFault.TheVariants.{NoSuchBurst}
use Rattle.fault.specs.declared.TimingFault.TheVariants.{Total, Repeat, Slots}

-- how many times in all a block may be sent
abbrev pub totals : EcBlock → List ℕ
totals CcchDown = 1 ∷ 8 ∷ 16 ∷ 32 ∷ []
totals PacchDown = 1 ∷ 4 ∷ 8 ∷ 16 ∷ []
totals PacchUp = 1 ∷ 4 ∷ 8 ∷ 16 ∷ []
totals PacchUp48 = 48 ∷ []
totals Mcs = 48 ∷ []

-- whether the block stays on one slot, number 0, and p is not looked at
abbrev pub one_slot : EcBlock → Bool
one_slot CcchDown = true
one_slot PacchDown = false
one_slot PacchUp = false
one_slot PacchUp48 = false
one_slot Mcs = false

-- whether the block may be sent that many times
abbrev pub total_permitted : EcBlock → ℕ → Bool
total_permitted block total = char_set_contains (totals block) total

-- whether p is 2 or 4, where it is looked at
abbrev pub slots_permitted : EcBlock → ℕ → Bool
slots_permitted block p = one_slot block || char_set_contains (2 ∷ 4 ∷ []) p

-- how many slots the block uses
abbrev pub slots_used : EcBlock → ℕ → ℕ
slots_used block p = cond (one_slot block) 1 p

-- b' and pn from m, p and b
abbrev pub on_slot : EcBlock → ℕ → ℕ → ℕ → ℕ × ℕ
on_slot block m p b = cond (one_slot block) (b + 2 * m, 0) (b + 4 * (m / p), m % p)

-- m and b from p, b' and pn
abbrev pub in_block : EcBlock → ℕ → ℕ → ℕ → ℕ × ℕ
in_block block p b' pn = cond (one_slot block) (b' / 2, b' % 2) (p * (b' / 4) + pn, b' % 4)

-- where a burst of a repeat goes, after four checks
abbrev pub timeslot : EcBlock → ℕ → ℕ → ℕ → ℕ → Result (ℕ × ℕ) Fault
timeslot block total m p b =
    unless (total_permitted block total) (Timing Total)
    (unless (nat_lt m total) (Timing Repeat)
    (unless (slots_permitted block p) (Timing Slots)
    (unless (nat_lt b (layout_of block).bursts) (Placement (NoSuchBurst b))
    (Ok (on_slot block m p b)))))

-- what stands at a burst of a slot, after four checks
abbrev pub repeat_at : EcBlock → ℕ → ℕ → ℕ → ℕ → Result (ℕ × ℕ) Fault
repeat_at block total p b' pn =
    unless (total_permitted block total) (Timing Total)
    (unless (slots_permitted block p) (Timing Slots)
    (unless (nat_lt pn (slots_used block p)) (Timing Slots)
    (unless (nat_lt (in_block block p b' pn).0 total) (Timing Repeat)
    (Ok (in_block block p b' pn)))))
