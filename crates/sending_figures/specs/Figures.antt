-- The worked figures of puncturing, placements and timeslots: one list, and what it means that they hold.
use Rattle.std.specs.Prelude.{◌≡◌, ℕ, ◌+◌, ◌-◌, ◌*◌, true, List, [], ◌∷◌, ◌++◌, map, length, take, replicate, Ok, slice_index}
use Rattle.std.specs.Char.{char_set_contains}
use Rattle.std.specs.List.{AllByRecursion}
use Rattle.block.specs.declared.blocks.EcBlock.{EcBlock}
use Rattle.block.specs.declared.blocks.EcBlock.TheVariants.{PacchDown as pacch_down_block, PacchUp as pacch_up_block, PacchUp48 as pacch_up_48_block, Mcs as mcs_block}
use Rattle.code.specs.Convolution.{coded}
use Rattle.code.specs.Parts.{rule_of}
use Rattle.code.specs.declared.parts.EcPart.TheVariants.{McsHeader}
use Rattle.placement.specs.Layers.{spot, interleaved, split_by_ten}
use Rattle.placement.specs.Placing.{over}
use Rattle.placement.specs.declared.placement.Place.TheVariants.{Coded}
use Rattle.puncturing.specs.Lists.{dropped_of, kept_of}
use Rattle.puncturing.specs.declared.KeptList.{KeptList}
use Rattle.puncturing.specs.declared.KeptList.TheVariants.{CcchDown as ccch_down_kept, Mcs}
use Rattle.timeslot.specs.Timeslot.{timeslot}

pub data Figure : Type 0 where
  -- a header's word and the bits that are sent of it
  header_bits : List ℕ → List ℕ → Figure
  -- the first kept places of a list
  keeps_first : KeptList → List ℕ → Figure
  -- the last kept place of a list
  keeps_last : KeptList → ℕ → Figure
  -- a place that a list keeps
  keeps : KeptList → ℕ → Figure
  -- a place that a list drops
  drops : KeptList → ℕ → Figure
  -- an entry of the interleaver, and the group and column to which it goes
  goes_to : ℕ → ℕ → ℕ → Figure
  -- an entry of the interleaver, and the burst and place at which split by ten shows it
  shown_at : ℕ → ℕ → ℕ → Figure
  -- a burst of a repeat, by block, total, repeat, slots and burst, and the burst and slot to which it goes
  slot_of : EcBlock → ℕ → ℕ → ℕ → ℕ → ℕ → ℕ → Figure

abbrev pub Holds : Figure → Type 0
Holds (header_bits word bits) = map (coded (rule_of McsHeader).ending word) (take (length bits) (kept_of Mcs)) ≡ bits
Holds (keeps_first l places) = take (length places) (kept_of l) ≡ places
Holds (keeps_last l place) = slice_index (kept_of l) (length (kept_of l) - 1) ≡ place
Holds (keeps l place) = char_set_contains (kept_of l) place ≡ true
Holds (drops l place) = dropped_of l place ≡ true
Holds (goes_to entry group column) = spot entry ≡ 106 * group + column
Holds (shown_at entry burst place) = (over split_by_ten interleaved).shows (116 * burst + place) ≡ Coded entry
Holds (slot_of block total m p b b' pn) = timeslot block total m p b ≡ Ok (b', pn)

-- a place of the data among the coded places of its block
abbrev data_place : ℕ → ℕ
data_place c = 72 + c

abbrev pub figures : List Figure
figures =
    header_bits (replicate 16 0 ++ replicate 8 1)
    (0 ∷ 0 ∷ 0 ∷ 1 ∷ 1 ∷ 0 ∷ 0 ∷ 1 ∷ 0 ∷ 1 ∷ 1 ∷ 1 ∷ 0 ∷ 0 ∷ replicate 18 0
    ++ 1 ∷ 1 ∷ 1 ∷ 0 ∷ 0 ∷ 1 ∷ 1 ∷ 0 ∷ 1 ∷ 0 ∷ 0 ∷ 0 ∷ 1 ∷ 1 ∷ 1 ∷ 1 ∷ [])
    ∷ keeps_first ccch_down_kept (2 ∷ 5 ∷ 8 ∷ 10 ∷ [])
    ∷ keeps_last ccch_down_kept 317
    ∷ drops ccch_down_kept 316
    ∷ keeps Mcs (data_place 73)
    ∷ drops Mcs (data_place 52)
    ∷ goes_to 4 0 75
    ∷ goes_to 423 3 9
    ∷ shown_at 4 0 85
    ∷ shown_at 423 3 9
    ∷ slot_of pacch_down_block 8 5 4 2 6 1
    ∷ slot_of pacch_down_block 8 5 2 2 10 1
    ∷ slot_of pacch_up_block 8 5 4 2 6 1
    ∷ slot_of pacch_up_block 8 5 2 2 10 1
    ∷ slot_of pacch_up_48_block 48 5 4 2 6 1
    ∷ slot_of pacch_up_48_block 48 5 2 2 10 1
    ∷ slot_of mcs_block 48 5 4 2 6 1
    ∷ slot_of mcs_block 48 5 2 2 10 1
    ∷ []

abbrev pub FiguresHold : Type 0
FiguresHold = AllByRecursion Holds figures
