use Rattle.std.proofs.Common.{◌≡◌, ◌<◌, ◌≢◌, length, ap, ◌∙◌, arith, get_or-set_other, get_or-set_same, below_more}
use Rattle.std.proofs.lemmas.List.FromFn.{fill_by_all}
use Rattle.code.specs.Convolution.{coded}
use Rattle.code.specs.Part.{places}
use Rattle.code.specs.declared.part.Ending.{Ending}
use Rattle.code.proofs.convolution.write_coded.Goals as goal

pub loop-place-preserved : goal.loop-place-preserved
loop-place-preserved g c =
    below_more _ _
    (λ k h. let other : k ≢ c.loop-place.place = omega arith in rw get_or-set_other (c.loop-place.invariant k h))
    (let inside : c.loop-place.place < length c.loop-place.out = omega arith in rw get_or-set_same c.coded_bit.ensures.value)

pub returns : goal.returns
returns g c =
    let rule = g.C.CodePart.rule c.args.part.now in
    let word = c.args.word.now in
    let long : length c.loop-place.out ≡ places rule = c.loop-place.auto.out ∙ c.requires.room in
    record {
      after = fill_by_all (coded rule.ending word) c.loop-place.out (places rule) 0 long
          (λ k l. c.loop-place.invariant k (omega (arith, long)) ∙ ap (λ (e : Ending). coded e word k) c.ending-ending.ensures.value);
    }
