use Rattle.std.proofs.Common.{fold}
use Rattle.parity.specs.Register.{next}
use Rattle.parity.proofs.Steps.{leaves_computed}
use Rattle.parity.proofs.Unique.{one_remainder}
use Rattle.parity.proofs.laws.division_leaves_one_remainder.Goals as goal

pub returns : goal.returns
returns c =
    record {
      law = λ g sound bits h.
          let left = leaves_computed g sound bits h in
          (fold (next g) 0 bits, left, λ s other. one_remainder g sound bits s (fold (next g) 0 bits) other left);
    }
