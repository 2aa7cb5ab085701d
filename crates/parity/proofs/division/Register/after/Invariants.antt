use Rattle.std.proofs.Common.{◌≡◌, fold, take}
use Rattle.parity.specs.Register.{next}
use Rattle.parity.proofs.division.Register.after.Given as goal

abbrev pub invariant-loop-bit : goal.invariant-loop-bit
invariant-loop-bit l = (l.register.generator ≡ l.fn.generator) × (l.register.left ≡ fold (next l.fn.generator) 0 (take l.bit-index l.bits))
