use Rattle.std.proofs.Common.{◌≤◌, refl, ◌∙◌, arith}
use Rattle.std.proofs.lemmas.List.{length-take-le}
use Rattle.code.proofs.Checks.{writing_passes}
use Rattle.sender.proofs.encode_message.Goals as goal

-- a message is not refused
pub unwrap-requires : goal.unwrap-requires
unwrap-requires g c =
    let limits = g.met.C.CodePart.limits c.args.part.now in
    let room : c.word_length.result ≤ 256 = omega (arith, limits.word_most, c.word_length.ensures.value) in
    rw (c.protect.ensures.refusal ∙ writing_passes _ _ _ _ c.requires.message (length-take-le c.word_length.result _ room ∙ c.word_length.ensures.value)) refl

-- nor is its word
pub unwrap-requires-2 : goal.unwrap-requires-2
unwrap-requires-2 g c =
    let after = rw c.unwrap.ensures at c.protect.ensures.after in
    rw (c.encode.ensures.refusal ∙ writing_passes _ _ _ _ after.is.word c.requires.room) refl
