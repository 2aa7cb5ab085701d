use Rattle.std.proofs.Common.{◌≡◌, ◌-◌, ◌/◌, ◌^◌, take}
use Rattle.code.specs.Bits.{Bits}
use Rattle.parity.specs.Division.{read}
use Rattle.parity.proofs.write_number.Given as goal

abbrev pub invariant-loop-i : goal.invariant-loop-i
invariant-loop-i l = Bits (take l.i l.out) × (read (take l.i l.out) ≡ l.number / 2 ^ (l.n - l.i))
