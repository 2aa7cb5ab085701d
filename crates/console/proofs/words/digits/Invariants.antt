use Rattle.std.proofs.Common.{◌≡◌, take, vec_items}
use Rattle.console.specs.Digits.{Digits, digit_values}
use Rattle.console.proofs.words.digits.Given as goal

abbrev pub invariant-loop-byte : goal.invariant-loop-byte
invariant-loop-byte l = Digits (take l.byte-index l.byte-items) × (vec_items l.values ≡ digit_values (take l.byte-index l.byte-items))
