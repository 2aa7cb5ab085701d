use Rattle.std.proofs.Common.{◌≡◌, ℕ, ◌<◌, get_or}
use Rattle.sender.specs.Sent.{shown}
use Rattle.sender.proofs.lay.Given as goal

abbrev pub invariant-loop-place : goal.invariant-loop-place
invariant-loop-place g l = (k : ℕ) → k < l.place → get_or l.out k 0 ≡ shown l.coded ((g.P.Placement.placing l.pile).shows k)
