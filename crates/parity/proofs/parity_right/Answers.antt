use Rattle.std.proofs.Common.{rules, tests}
use Rattle.std.proofs.lemmas.Bool.Decides.{Decides-at}
use Rattle.parity.proofs.Words.{nothing_missing}
use Rattle.parity.proofs.parity_right.Goals as goal

pub returns : goal.returns
returns g c =
    let register = c.after-register.ensures in
    let missing = rw register.divisor at c.missing.ensures.value in
    let told = nothing_missing _ c.args.word.now _ _ register.value register.only missing in
    let right = rw c.generator.ensures.value at told in
    record { value = (search rules, Decides-at _ _ (search (rules, tests)) right) }
