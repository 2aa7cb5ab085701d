-- What the console writes of a stage.
use Rattle.std.specs.Prelude.{ℕ, List, ◌++◌, length, codes, decimal}
use Rattle.console.specs.Line.{bit_codes}

-- NAME COUNT bits BITS
abbrev pub stage_line : List ℕ → List ℕ → List ℕ
stage_line name bits = name ++ (codes " " ++ (decimal (length bits) ++ (codes " bits " ++ bit_codes bits)))
