-- A list of coded places is a placement.
use Rattle.std.specs.Prelude.{ℕ, ◌<◌, length, slice_index}
use Rattle.std.proofs.Common.{arith}
use Rattle.placement.specs.Placing.{Sound}
use Rattle.puncturing.specs.Lists.{in_order, listed, figures_of, dropped_of}
use Rattle.puncturing.specs.declared.KeptList.{KeptList}
use Rattle.puncturing.specs.Keeping.{keeping}

in_order_sound : (n : ℕ) (list : _) → ((j : ℕ) → j < length list → slice_index list j < n) → Sound (in_order n list)
in_order_sound n list low = record {
  within = λ k c e. let h = low k in grind arith;
  binary = λ k b e. grind arith;
  ends = λ k h. grind arith;
}

pub listed_sound : (l : KeptList) → Sound (listed l)
listed_sound l = in_order_sound _ _ (λ j h. ((keeping (figures_of l).coded (dropped_of l)).sent j h).0)
