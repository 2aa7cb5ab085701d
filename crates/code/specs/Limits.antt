-- The limits of the six parts: a test that computes, and what it means.
use Rattle.std.specs.Prelude.{◌≡◌, ◌+◌, ◌^◌, Bool, true, ◌&&◌, ◌==◌, nat_le, nat_lt, refl}
use Rattle.std.proofs.Common.{arith}
use Rattle.std.proofs.lemmas.Bool.Decides.{nat_tests}
use Rattle.code.specs.Part.{Limits}
use Rattle.code.specs.Parts.{rule_of}
use Rattle.code.specs.declared.part.Rule.{Rule}
use Rattle.code.specs.declared.parts.EcPart.{EcPart}
use Rattle.code.specs.declared.parts.EcPart.TheVariants.{CcchDown, PacchDown, PacchUp, PacchUp48, McsHeader, McsData}

abbrev within_limits : Rule → Bool
within_limits r =
    nat_le 1 r.message && nat_le 6 r.word && nat_le r.word 256
    && nat_le 1 r.generator.degree && nat_le r.generator.degree 24 && nat_lt r.generator.taps (2 ^ r.generator.degree)
    && r.word == r.message + r.generator.degree

tested_limits : (r : Rule) → within_limits r ≡ true → Limits r
tested_limits r t = record {
  some_message = grind (arith, nat_tests);
  word_least = grind (arith, nat_tests);
  word_most = grind (arith, nat_tests);
  generator = record {
    degree_least = grind (arith, nat_tests);
    degree_most = grind (arith, nat_tests);
    below_leading = grind (arith, nat_tests);
  };
  message_and_parity = grind (arith, nat_tests);
}

table_tested : (p : EcPart) → within_limits (rule_of p) ≡ true
table_tested CcchDown = refl
table_tested PacchDown = refl
table_tested PacchUp = refl
table_tested PacchUp48 = refl
table_tested McsHeader = refl
table_tested McsData = refl

pub table_limits : (p : EcPart) → Limits (rule_of p)
table_limits p = tested_limits (rule_of p) (table_tested p)
