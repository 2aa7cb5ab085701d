use Rattle.std.proofs.Common.{◌≡◌, rules}
use Rattle.code.specs.Bits.{writing_check}
use Rattle.code.proofs.Checks.{first_no_bit, writing_made}
use Rattle.code.proofs.check.check_writing.Goals as goal

pub returns : goal.returns
returns c =
    let bits = first_no_bit c.args.bits.now c.check_bits.result c.check_bits.ensures.refusal in
    let is : c.check_bits.result ≡ writing_check c.args.bits.now c.args.asked c.args.out c.args.room = search rules in
    record { refusal = is; passed = writing_made c.args.bits.now c.args.asked c.args.out c.args.room c.check_bits.result is }
