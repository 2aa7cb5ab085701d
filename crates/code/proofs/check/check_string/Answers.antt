use Rattle.std.proofs.Common.{◌≡◌, rules}
use Rattle.code.specs.Bits.{string_check}
use Rattle.code.proofs.Checks.{first_no_bit, string_made}
use Rattle.code.proofs.check.check_string.Goals as goal

pub returns : goal.returns
returns c =
    let bits = first_no_bit c.args.bits.now c.check_bits.result c.check_bits.ensures.refusal in
    let is : c.check_bits.result ≡ string_check c.args.bits.now c.args.asked = search rules in
    record { refusal = is; passed = string_made c.args.bits.now c.args.asked c.check_bits.result is }
