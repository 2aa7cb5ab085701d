use Rattle.std.proofs.Common.{refl}
use Rattle.placement.specs.Kept.{kept}
use Rattle.puncturing.proofs.Closing.{kept_long}
use Rattle.puncturing.specs.Keeping.{keeping}
use Rattle.puncturing.proofs.kept_is_what_is_not_dropped.Goals as goal

pub returns : goal.returns
unfolding kept
returns c = record {
  law = record {
    rest = keeping;
    counts = kept_long;
    header_then_data = refl;
    header_count = refl;
    data_count = refl;
  };
}
