use Rattle.std.specs.List.{FoldsTo}
use Rattle.console.proofs.Input.{LeftByItem}
use Rattle.console.proofs.lines.answer_lines.Given as goal

abbrev pub invariant-loop-index : goal.invariant-loop-index
invariant-loop-index g l = FoldsTo (LeftByItem g.C.Console.reads g.C.Console.carries) l.fn.console l.yielded l.console
