-- What a console writes of bits and of a refusal.
use Rattle.std.specs.Prelude.{ℕ, cond, List, ◌++◌, map, codes, decimal, ◌==◌}
use Rattle.fault.specs.Fault.{number_of, layer_of, detail_of}
use Rattle.fault.specs.Shown.{layer_text, detail_text}
use Rattle.fault.specs.declared.Detail.{Detail}
use Rattle.fault.specs.declared.Fault.{Fault}
use Rattle.fault.specs.declared.Layer.{Layer}

-- the character of a bit
abbrev pub bit_code : ℕ → ℕ
bit_code b = cond (b == 0) 48 49

abbrev pub bit_codes : List ℕ → List ℕ
bit_codes = map bit_code

-- refused NUMBER LAYER DETAIL
abbrev pub refused_line : ℕ → Layer → Detail → List ℕ
refused_line number layer detail =
    codes "refused " ++ (decimal number ++ (codes " " ++ (layer_text layer ++ (codes " " ++ detail_text detail))))

abbrev pub refusal_line : Fault → List ℕ
refusal_line f = refused_line (number_of f) (layer_of f) (detail_of f)
