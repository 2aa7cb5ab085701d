use Rattle.std.proofs.Common.{◌≡◌, ◌+◌, ◌-◌, ◌*◌, ◌/◌, ◌%◌, ◌^◌, ◌<◌, [], ◌∷◌, ◌++◌, length, take, sym, ap, ◌∙◌, subst, bit_and, arith}
use Rattle.std.proofs.lemmas.Nat.{and_mask}
use Rattle.std.proofs.lemmas.List.{take_more_set}
use Rattle.std.proofs.lemmas.List.Sums.{fold_push}
use Rattle.code.specs.Bits.{Bits}
use Rattle.code.proofs.Bits.{Bits-push}
use Rattle.parity.specs.Division.{read}
use Rattle.parity.proofs.Digits.{digits_more}
use Rattle.parity.proofs.write_number.Goals as goal

pub loop-i-preserved : goal.loop-i-preserved
loop-i-preserved c =
    let n = length c.args.out.now in
    let i = c.loop-i.i in
    let v = c.args.number in
    let out = c.loop-i.out in
    let k = n - 1 - i in
    let b = bit_and (v / 2 ^ k) 1 in
    let bit : b ≡ (v / 2 ^ k) % 2 = and_mask (v / 2 ^ k) 1 in
    let inside : i < length out = omega arith in
    let here : n - i ≡ k + 1 = omega arith in
    let there : n - (i + 1) ≡ k = omega arith in
    let before : read (take i out) ≡ v / 2 ^ (k + 1) = c.loop-i.invariant.1 ∙ ap (λ m. v / 2 ^ m) here in
    let more : read (take i out ++ (b ∷ [])) ≡ 2 * read (take i out) + b = fold_push (λ x y. 2 * x + y) 0 (take i out) b in
    let written : read (take i out ++ (b ∷ [])) ≡ v / 2 ^ k = omega (arith, more, before, bit, digits_more v k) in
    let longer = take_more_set out i b inside in (
      subst Bits (sym longer) (Bits-push (take i out) b c.loop-i.invariant.0 (omega (arith, bit))),
      ap read longer ∙ written ∙ ap (λ m. v / 2 ^ m) (sym there),
    )
