-- Every layer is a placement, and so is a layer over a placement.
use Rattle.std.specs.Prelude.{ℕ}
use Rattle.std.proofs.Common.{arith}
use Rattle.placement.specs.Placing.{Placing, Sound, over}
use Rattle.placement.specs.Layers.{straight, split_by_two, split_by_ten, flagged, spot, interleaved}
use Rattle.placement.specs.Moved.{moved_none, moved_within, moved_fixed}

pub over_sound : (layer below : Placing) → Sound layer → Sound below → Sound (over layer below)
over_sound layer below l b = record {
  within = λ k c e. grind (arith, b.within);
  binary = λ k bit e. grind (arith, b.binary, l.binary);
  ends = λ k h. grind (arith, l.ends);
}

pub straight_sound : (bursts : ℕ) → Sound (straight bursts)
straight_sound bursts = record {
  within = λ k c e. grind arith;
  binary = λ k b e. grind arith;
  ends = λ k h. grind arith;
}

pub split_by_two_sound : Sound split_by_two
split_by_two_sound = record {
  within = λ k c e. grind arith;
  binary = λ k b e. grind arith;
  ends = λ k h. grind arith;
}

pub split_by_ten_sound : Sound split_by_ten
split_by_ten_sound = record {
  within = λ k c e. grind arith;
  binary = λ k b e. grind arith;
  ends = λ k h. grind arith;
}

pub flagged_sound : Sound flagged
flagged_sound = record {
  within = λ k c e. grind arith;
  binary = λ k b e. grind arith;
  ends = λ k h. grind arith;
}

pub interleaved_sound : Sound interleaved
interleaved_sound = record {
  within = λ k c e. moved_within spot k 424 c e;
  binary = λ k b e. omega (arith, moved_fixed spot k 424 b e);
  ends = λ k h. moved_none spot k 424 (λ i l e. omega arith);
}
