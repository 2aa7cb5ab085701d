use Rattle.std.proofs.Common.{◌≡◌, fold, replicate}
use Rattle.parity.specs.Register.{next}
use Rattle.parity.proofs.division.Register.take_zeros.Given as goal

abbrev pub invariant-loop-zero : goal.invariant-loop-zero
invariant-loop-zero l = (l.self.generator ≡ l.fn.self.generator) × (l.self.left ≡ fold (next l.fn.self.generator) l.fn.self.left (replicate l._zero 0))
