use Rattle.std.proofs.Common.{◌≡◌, ℕ, refl, ◌∙◌, arith}
use Rattle.code.proofs.Checks.{writing_passes}
use Rattle.ecbox.proofs.header.take_through.Goals as goal

-- a word is not refused
pub returns-in_err-encode : goal.returns-in_err-encode
returns-in_err-encode c =
    let word = c.in_ok-protect.ensures.after.is.word in
    let passes = writing_passes c.protect.new.word 24 72 72 word refl in
    let refused = c.in_err-encode.ensures.refusal ∙ passes in
    let z : ◌≡◌ {A = ℕ} 0 1 = cc in
    absurd (omega arith)
