use Rattle.std.proofs.Common.{ℕ, replicate, ◌∙◌}
use Rattle.code.specs.Bits.{BitString}
use Rattle.parity.proofs.Digits.{zeros_bits}
use Rattle.parity.proofs.Steps.{leaves_all}
use Rattle.parity.proofs.Words.{word_made}
use Rattle.parity.proofs.write_parity.Goals as goal

pub returns : goal.returns
returns g c =
    let rule = g.C.CodePart.rule c.args.part.now in
    let limits = g.met.C.CodePart.limits c.args.part.now in
    let p = rule.generator in
    let m = c.args.message.now in
    let out = c.write_number.new.out in
    let value = rw c.generator.ensures.value at c.after-register.ensures.value in
    let left = leaves_all p limits.generator m (replicate {A = ℕ} p.degree 0) _ (zeros_bits p.degree) value in
    let missing = rw (c.take_zeros.ensures.left, c.take_zeros.ensures.divisor, c.after-register.ensures.divisor, c.generator.ensures.value) at c.missing.ensures.value in
    let number = rw missing at c.write_number.ensures.after in
    let parity : BitString p.degree out = record { long = c.write_number.auto.out ∙ c.requires.room; bits = c.write_number.ensures.bits } in
    record { after = word_made rule limits m c.requires.message out parity _ left number }
