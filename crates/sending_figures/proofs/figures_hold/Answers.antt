use Rattle.std.proofs.Common.{refl}
use Rattle.placement.specs.Layers.{moved}
use Rattle.placement.specs.Kept.{kept}
use Rattle.puncturing.specs.Kept.{evenly}
use Rattle.figures.proofs.Computed.{tested_all}
use Rattle.sending_figures.specs.Figures.{figures, Holds}
use Rattle.sending_figures.proofs.Computed.{holds_test, tested_figure}
use Rattle.sending_figures.proofs.figures_hold.Goals as goal

pub returns : goal.returns
unfolding kept evenly moved
returns c = record { law = tested_all holds_test Holds tested_figure figures refl }
