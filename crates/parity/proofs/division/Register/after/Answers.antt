use Rattle.std.proofs.Common.{sym, subst, take_all}
use Rattle.parity.specs.Division.{Leaves}
use Rattle.parity.proofs.Steps.{leaves_computed}
use Rattle.parity.proofs.Unique.{one_remainder}
use Rattle.parity.proofs.division.Register.after.Goals as goal

pub returns : goal.returns
returns c =
    let divisor = c.args.generator in
    let bits = c.args.bits.now in
    let left = rw (take_all _ _ c.loop-bit-test.false) at c.loop-bit.invariant.1 in
    let leaves = subst (Leaves divisor bits) (sym left) (leaves_computed divisor c.requires.sound bits c.requires.binary) in
    record {
      divisor = c.loop-bit.invariant.0;
      value = leaves;
      only = λ s other. one_remainder divisor c.requires.sound bits s _ other leaves;
    }
