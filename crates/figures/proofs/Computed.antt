-- A test of figures that computes, and what it means: one proof for the whole list.
use Rattle.std.proofs.Common.{◌≡◌, ℕ, Bool, true, ◌&&◌, eqb, nat_eq, List, [], ◌∷◌, ◌++◌, map, length, is_ok, IfOk, Ok, Err, fold, refl, sym, subst}
use Rattle.std.specs.List.{range_with_len, AllByRecursion, list_all}
use lib.Pointwise.{pointwise}
use Rattle.std.specs.Cmp.Lexicographic.{same_text}
use Rattle.std.proofs.lemmas.List.{take_at}
use Rattle.std.proofs.lemmas.List.Elements.{All-weaker, recursion_from_All}
use Rattle.std.proofs.lemmas.List.Sums.{AllPass-from_list_all}
use Rattle.std.proofs.lemmas.Bool.{and_parts, eqb-true, false≢true}
use Rattle.code.specs.Bits.{Checked, string_check}
use Rattle.code.specs.Convolution.{coded}
use Rattle.code.specs.Part.{Limits, Word}
use Rattle.code.specs.Parts.{rule_of}
use Rattle.code.specs.declared.parts.EcPart.TheVariants.{McsHeader}
use Rattle.code.proofs.Checks.{string_made}
use Rattle.code.specs.Limits.{table_limits}
use Rattle.code.specs.declared.part.Rule.{Rule}
use Rattle.parity.specs.Division.{Leaves, all_ones}
use Rattle.parity.specs.Register.{next}
use Rattle.parity.specs.Parity.{WordOf}
use Rattle.parity.proofs.Steps.{leaves_computed}
use Rattle.placement.specs.Kept.{header_kept}
use Rattle.figures.specs.Figures.{Figure, parity_of, coded_bits, header_bits, Holds}

passed : {P : Type 0} (r : Checked) → is_ok r ≡ true → IfOk r (λ _. P) → P
passed (Ok t) e h = h
passed (Err f) e h = absurd (false≢true e)

-- message and parity have a part's lengths, are bits, and leave every coefficient 1
abbrev word_test : Rule → List ℕ → List ℕ → Bool
word_test rule m p =
    eqb (length m) rule.message && is_ok (string_check (m ++ p) rule.word)
    && eqb (fold (next rule.generator) 0 (m ++ p)) (all_ones rule.generator)

tested_word : (rule : Rule) → Limits rule → (m p : List ℕ) → word_test rule m p ≡ true → WordOf rule m (m ++ p)
tested_word rule limits m p t =
    let a = and_parts _ _ t in
    let b = and_parts _ _ a.0 in
    let w = m ++ p in
    let word : Word rule w = passed (string_check w rule.word) b.1 (string_made w rule.word (string_check w rule.word) refl) in
    record {
      word = word;
      begins = take_at m p rule.message (eqb-true _ _ b.0);
      right = subst (Leaves rule.generator w) (eqb-true _ _ a.1) (leaves_computed rule.generator limits.generator w word.bits);
    }

abbrev pub holds_test : Figure → Bool
holds_test (parity_of part message parity) = word_test (rule_of part) message parity
holds_test (coded_bits ending word bits) = pointwise nat_eq (map (coded ending word) (range_with_len 0 (length bits))) bits
holds_test (header_bits word bits) = pointwise nat_eq (map (coded (rule_of McsHeader).ending word) header_kept) bits

pub tested_figure : (f : Figure) → holds_test f ≡ true → Holds f
tested_figure (parity_of part message parity) t = tested_word (rule_of part) (table_limits part) message parity t
tested_figure (coded_bits ending word bits) t = same_text _ _ (sym t)
tested_figure (header_bits word bits) t = same_text _ _ (sym t)

-- where a test tells that P holds, P holds of every entry of a list that passes
pub tested_all : {X : Type 0} (test : X → Bool) (P : X → Type 0) → ((x : X) → test x ≡ true → P x) → (xs : List X) → list_all test xs ≡ true → AllByRecursion P xs
tested_all test P told xs t = recursion_from_All P xs (All-weaker (λ x. test x ≡ true) P told xs (AllPass-from_list_all test xs t))
