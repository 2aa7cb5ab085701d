-- The five blocks.
use Rattle.std.specs.Prelude.{[], ◌∷◌}
use Rattle.code.specs.Parts.{rule_of}
use Rattle.code.specs.declared.parts.EcPart.TheVariants.{CcchDown as ccch_down, PacchDown as pacch_down, PacchUp as pacch_up, PacchUp48 as pacch_up_48, McsHeader, McsData}
use Rattle.placement.specs.Placing.{Placing, over}
use Rattle.placement.specs.Layers.{straight, split_by_two, split_by_ten, flagged, interleaved}
use Rattle.puncturing.specs.Lists.{listed}
use Rattle.puncturing.specs.declared.KeptList.TheVariants.{CcchDown as ccch_down_kept, PacchDown as pacch_down_kept, PacchUp as pacch_up_kept, PacchUp48 as pacch_up_48_kept, Mcs as mcs_kept}
use Rattle.block.specs.Layout.{Layout}
use Rattle.block.specs.declared.blocks.EcBlock.{EcBlock}
use Rattle.block.specs.declared.blocks.EcBlock.TheVariants.{CcchDown, PacchDown, PacchUp, PacchUp48, Mcs}
use Rattle.block.specs.declared.pile.EcPile.{EcPile}
use Rattle.block.specs.declared.pile.EcPile.TheVariants.{Straight, SplitByTwo, SplitByTen}

-- what a pile shows, layer by layer
abbrev pub pile_placing : EcPile → Placing
pile_placing (Straight p) = over (straight p.layer.bursts) (listed p.below)
pile_placing (SplitByTwo p) = over split_by_two (listed p.below)
pile_placing (SplitByTen p) = over split_by_ten (over interleaved (over flagged (listed p.below.below.below)))

abbrev pub layout_of : EcBlock → Layout
layout_of CcchDown = record {
  parts = rule_of ccch_down ∷ [];
  pile = over (straight 2) (listed ccch_down_kept);
  bursts = 2;
  repeats = 32;
}
layout_of PacchDown = record {
  parts = rule_of pacch_down ∷ [];
  pile = over split_by_two (listed pacch_down_kept);
  bursts = 4;
  repeats = 16;
}
layout_of PacchUp = record {
  parts = rule_of pacch_up ∷ [];
  pile = over (straight 4) (listed pacch_up_kept);
  bursts = 4;
  repeats = 16;
}
layout_of PacchUp48 = record {
  parts = rule_of pacch_up_48 ∷ [];
  pile = over (straight 4) (listed pacch_up_48_kept);
  bursts = 4;
  repeats = 48;
}
layout_of Mcs = record {
  parts = rule_of McsHeader ∷ rule_of McsData ∷ [];
  pile = over split_by_ten (over interleaved (over flagged (listed mcs_kept)));
  bursts = 4;
  repeats = 48;
}
