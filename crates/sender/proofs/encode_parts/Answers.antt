use Rattle.std.proofs.Common.{◌≡◌, ℕ, ◌+◌, ◌≤◌, List, [], ◌∷◌, ◌++◌, length, take, drop, sym, ap, ◌∙◌, subst, append-nil, arith}
use Rattle.std.proofs.lemmas.List.{take_all}
use Rattle.std.proofs.lemmas.List.Sums.{sum_by-cons}
use Rattle.std.proofs.lemmas.List.Edits.{length-between}
use Rattle.std.proofs.lemmas.Slice.{take-put_mid}
use Rattle.std.specs.List.{sum_by}
use Rattle.code.specs.Part.{places}
use Rattle.code.specs.declared.part.Rule.{Rule}
use Rattle.block.specs.Left.{parts_left}
use Rattle.sender.specs.Sent.{Encoded}
use Rattle.sender.proofs.Parts.{encoded_none, encoded_more}
use Rattle.sender.proofs.encode_parts.Goals as goal

pub loop-part-preserved : goal.loop-part-preserved
loop-part-preserved g c =
    let parts = (g.B.Block.layout c.args.block.now).parts in
    let rule = g.B.Part.CodePart.rule c.in-Some.part in
    let others = parts_left g.B.Block.layout c.next.new.self in
    let first : parts_left g.B.Block.layout c.loop-part.part-iterator ≡ rule ∷ others = c.in-Some.ensures.steps in
    let m = c.args.message.now in
    let from = c.loop-part.from in
    let start = c.loop-part.start in
    let old = c.loop-part.coded in
    let n = c.message_length.result in
    let k = c.coded_count.result in
    let out = c.encode_message.new.coded in
    let messages = ap (sum_by (λ p. p.message)) first ∙ sum_by-cons (λ p. p.message) rule others in
    let rooms = ap (sum_by places) first ∙ sum_by-cons places rule others in
    let end : start + k ≤ length old = omega (arith, rooms, c.loop-part.invariant.1, c.loop-part.auto.coded, c.coded_count.ensures.value) in
    let long : length out ≡ k = c.encode_message.auto.coded ∙ length-between old start (start + k) end ∙ omega arith in
    let before : (rest : List ℕ) → Encoded (rule ∷ others) (drop from m) rest → Encoded parts m (take start old ++ rest) =
    λ rest e. c.loop-part.invariant.2 rest (subst (λ (rs : List Rule). Encoded rs (drop from m) rest) (sym first) e) in (
      omega (arith, messages, c.loop-part.invariant.0, c.message_length.ensures.value),
      omega (arith, rooms, c.loop-part.invariant.1, c.coded_count.ensures.value),
      encoded_more parts others rule m _ old _ out from start n k c.message_length.ensures.value
          (ap (λ (j : ℕ). take j (drop from m)) (omega arith)) (take-put_mid start _ old out (start + k) (omega (arith, long)) (omega (arith, end)))
          c.encode_message.ensures.after before,
    )

pub returns : goal.returns
returns g c =
    let parts = (g.B.Block.layout c.args.block.now).parts in
    let m = c.args.message.now in
    let coded = c.loop-part.coded in
    let start = c.loop-part.start in
    let none : parts_left g.B.Block.layout c.loop-part.part-iterator ≡ [] = c.in-None.ensures.steps.0 in
    let last = c.loop-part.invariant.2 [] (subst (λ (rs : List Rule). Encoded rs (drop c.loop-part.from m) []) (sym none) (encoded_none (drop c.loop-part.from m))) in
    let all : take start coded ++ [] ≡ coded = append-nil (take start coded) ∙ take_all start coded (omega (arith, ap (sum_by places) none, c.loop-part.invariant.1, c.loop-part.auto.coded)) in
    record { after = subst (Encoded parts m) all last }
