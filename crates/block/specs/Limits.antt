-- The piles of the five blocks are placements, and the blocks keep their limits.
use Rattle.std.specs.Prelude.{◌≡◌, Bool, true, ◌&&◌, ◌==◌, nat_le, refl}
use Rattle.std.proofs.Common.{arith}
use Rattle.std.proofs.lemmas.Bool.Decides.{nat_tests}
use Rattle.std.specs.List.{AllByRecursion, sum_by}
use Rattle.code.specs.Part.{places, Limits as PartLimits}
use Rattle.code.specs.declared.parts.EcPart.TheVariants.{CcchDown as ccch_down, PacchDown as pacch_down, PacchUp as pacch_up, PacchUp48 as pacch_up_48, McsHeader, McsData}
use Rattle.code.specs.Limits.{table_limits}
use Rattle.placement.specs.Placing.{Sound}
use Rattle.placement.specs.Sounds.{over_sound, straight_sound, split_by_two_sound, split_by_ten_sound, flagged_sound, interleaved_sound}
use Rattle.puncturing.specs.declared.KeptList.TheVariants.{CcchDown as ccch_down_kept, PacchDown as pacch_down_kept, PacchUp as pacch_up_kept, PacchUp48 as pacch_up_48_kept, Mcs as mcs_kept}
use Rattle.puncturing.specs.Listed.{listed_sound}
use Rattle.block.specs.Layout.{Layout, Limits}
use Rattle.block.specs.Blocks.{layout_of, pile_placing}
use Rattle.block.specs.declared.blocks.EcBlock.{EcBlock}
use Rattle.block.specs.declared.blocks.EcBlock.TheVariants.{CcchDown, PacchDown, PacchUp, PacchUp48, Mcs}
use Rattle.block.specs.declared.pile.EcPile.{EcPile}
use Rattle.block.specs.declared.pile.EcPile.TheVariants.{Straight, SplitByTwo, SplitByTen}

pub pile_sound : (p : EcPile) → Sound (pile_placing p)
pile_sound (Straight p) = over_sound _ _ (straight_sound p.layer.bursts) (listed_sound p.below)
pile_sound (SplitByTwo p) = over_sound _ _ split_by_two_sound (listed_sound p.below)
pile_sound (SplitByTen p) =
    over_sound _ _ split_by_ten_sound (over_sound _ _ interleaved_sound (over_sound _ _ flagged_sound (listed_sound p.below.below.below)))

abbrev within : Layout → Bool
within l =
    nat_le 1 l.bursts && nat_le l.bursts 4 && nat_le 1 l.repeats && nat_le l.repeats 48
    && l.pile.coded == sum_by places l.parts && nat_le l.pile.coded 1024

tested : (l : Layout) → AllByRecursion PartLimits l.parts → Sound l.pile → within l ≡ true → Limits l
tested l parts pile t = record {
  parts_limits = parts;
  pile_sound = pile;
  bursts_least = grind (arith, nat_tests);
  bursts_most = grind (arith, nat_tests);
  repeats_least = grind (arith, nat_tests);
  repeats_most = grind (arith, nat_tests);
  pile_coded = grind (arith, nat_tests);
  coded_most = grind (arith, nat_tests);
}

pub block_limits : (b : EcBlock) → Limits (layout_of b)
block_limits CcchDown = tested _ (table_limits ccch_down, tt) (over_sound _ _ (straight_sound 2) (listed_sound ccch_down_kept)) refl
block_limits PacchDown = tested _ (table_limits pacch_down, tt) (over_sound _ _ split_by_two_sound (listed_sound pacch_down_kept)) refl
block_limits PacchUp = tested _ (table_limits pacch_up, tt) (over_sound _ _ (straight_sound 4) (listed_sound pacch_up_kept)) refl
block_limits PacchUp48 = tested _ (table_limits pacch_up_48, tt) (over_sound _ _ (straight_sound 4) (listed_sound pacch_up_48_kept)) refl
block_limits Mcs = tested _ (table_limits McsHeader, (table_limits McsData, tt)) (over_sound _ _ split_by_ten_sound (over_sound _ _ interleaved_sound (over_sound _ _ flagged_sound (listed_sound mcs_kept)))) refl
