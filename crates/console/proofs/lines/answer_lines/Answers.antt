use Rattle.std.proofs.Common.{rules}
use Rattle.std.proofs.lemmas.Fn.{FoldsTo-push}
use Rattle.console.proofs.Input.{if_known, left_by_lines}
use Rattle.console.proofs.lines.answer_lines.Goals as goal

pub loop-index-preserved : goal.loop-index-preserved
loop-index-preserved g c =
    FoldsTo-push _ _ _ _ _ _ c.loop-index.invariant
    (c.in_ok-line.field-0, c.in_ok-line.was, rw c.as_slice.ensures.value at c.answer.ensures.after)

pub returns : goal.returns
returns g c = record {
  after = if_known (g.R.Read.remaining c.args.input) _ (λ bytes known.
      left_by_lines g.C.Console.reads g.C.Console.carries g.R.Read.remaining
      c.loop-index.yielded c.into_iter-index-iterator.result c.loop-index.index-iterator c.next.new.self c.args.console.now c.loop-index.console bytes
      (search rules) (search rules) c.loop-index.yielded_by c.in-None.ensures.steps c.loop-index.invariant);
}
