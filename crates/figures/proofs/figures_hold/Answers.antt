use Rattle.std.proofs.Common.{refl}
use Rattle.placement.specs.Kept.{kept}
use Rattle.figures.specs.Figures.{figures, Holds}
use Rattle.figures.proofs.Computed.{holds_test, tested_figure, tested_all}
use Rattle.figures.proofs.figures_hold.Goals as goal

pub returns : goal.returns
unfolding kept
returns c = record { law = tested_all holds_test Holds tested_figure figures refl }
