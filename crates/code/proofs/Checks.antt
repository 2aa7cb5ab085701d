-- Where the checks of bits and lengths pass, and what they find.
use Rattle.std.proofs.Common.{◌≡◌, ℕ, zero, suc, ◌+◌, ◌<◌, ◌≤◌, Bool, true, false, eqb, ltb, List, [], ◌∷◌, length, get_or, IfOk, Ok, Err, sym, refl, ap, ◌∙◌, zero-add, arith}
use Rattle.std.proofs.lemmas.Bool.{lt-ltb, le-ltb, ltb-true, eq-eqb, eqb-true, cond-true, cond-false}
use Rattle.fault.specs.Check.{unless}
use Rattle.fault.specs.declared.ParityFault.{ParityFault}
use Rattle.fault.specs.declared.ParityFault.TheVariants.{Length, NotABit, WrongParity}
use Rattle.code.specs.Bits.{Bits, BitString, Checked, FirstNoBit, length_check, bits_check_from, bits_check, string_check, writing_check}
use Rattle.code.proofs.Bits.{Bits-from_get_or}

-- what passes had its test passed, and so had the rest
unless_passed : (t : Bool) (f : ParityFault) (rest : Checked) → unless t f rest ≡ Ok tt → (t ≡ true) × (rest ≡ Ok tt)
unless_passed true f rest e = (refl, e)
unless_passed false f rest e = cc

length_passed : (buffer given asked : ℕ) (rest : Checked) → length_check buffer given asked rest ≡ Ok tt → (given ≡ asked) × (rest ≡ Ok tt)
length_passed buffer given asked rest e =
    let p = unless_passed (eqb given asked) _ rest e in (eqb-true given asked p.0, p.1)

bits_passed : (i : ℕ) (bytes : List ℕ) → bits_check_from i bytes ≡ Ok tt → Bits bytes
bits_passed i [] e = tt
bits_passed i (b ∷ bytes) e =
    let p = unless_passed (ltb b 2) _ (bits_check_from (i + 1) bytes) e in
    (ltb-true b 2 p.0, bits_passed (i + 1) bytes p.1)

bits_pass : (i : ℕ) (bytes : List ℕ) → Bits bytes → bits_check_from i bytes ≡ Ok tt
bits_pass i [] h = refl
bits_pass i (b ∷ bytes) h =
    cond-true (ltb b 2) _ _ (lt-ltb b 2 h.0) ∙ bits_pass (i + 1) bytes h.1

bits_fail : (i : ℕ) (bytes : List ℕ) (j : ℕ) → j < length bytes → 2 ≤ get_or bytes j 0 → ((k : ℕ) → k < j → get_or bytes k 0 < 2) → bits_check_from i bytes ≡ Err (NotABit (i + j))
bits_fail i [] j inside bad good = absurd (omega arith)
bits_fail i (b ∷ bytes) zero inside bad good =
    cond-false (ltb b 2) _ _ (le-ltb b 2 bad) ∙ ap (λ n. Err (NotABit n)) (omega arith)
bits_fail i (b ∷ bytes) (suc j) inside bad good =
    cond-true (ltb b 2) _ _ (lt-ltb b 2 (good 0 (omega arith)))
    ∙ bits_fail (i + 1) bytes j (omega arith) bad (λ k h. good (suc k) (omega arith))
    ∙ ap (λ n. Err (NotABit n)) (omega arith)

-- finding the first byte that is no bit is the check
pub first_no_bit : (bytes : List ℕ) (r : Checked) → FirstNoBit bytes r → r ≡ bits_check bytes
first_no_bit bytes (Ok t) found = sym (bits_pass 0 bytes (Bits-from_get_or bytes found))
first_no_bit bytes (Err (Length buffer)) found = absurd found
first_no_bit bytes (Err (NotABit i)) found =
    sym (bits_fail 0 bytes i found.0 found.1 found.2 ∙ ap (λ n. Err (NotABit n)) (zero-add i))
first_no_bit bytes (Err (WrongParity part cost)) found = absurd found

-- what a call knows of its string once it is checked
pub string_made : (bits : List ℕ) (asked : ℕ) (r : Checked) → r ≡ string_check bits asked → IfOk r (λ _. BitString asked bits)
string_made bits asked (Ok t) e =
    let first = length_passed 1 (length bits) asked (bits_check bits) (sym e) in
    record { long = first.0; bits = bits_passed 0 bits first.1 }
string_made bits asked (Err f) e = tt

pub writing_made : (bits : List ℕ) (asked out room : ℕ) (r : Checked) → r ≡ writing_check bits asked out room → IfOk r (λ _. BitString asked bits × (out ≡ room))
writing_made bits asked out room (Ok t) e =
    let first = length_passed 1 (length bits) asked _ (sym e) in
    let second = length_passed 2 out room (bits_check bits) first.1 in
    (record { long = first.0; bits = bits_passed 0 bits second.1 }, second.0)
writing_made bits asked out room (Err f) e = tt

-- no string of the length asked is refused
pub string_passes : (bits : List ℕ) (asked : ℕ) → BitString asked bits → string_check bits asked ≡ Ok tt
string_passes bits asked string =
    cond-true (eqb (length bits) asked) _ _ (eq-eqb (length bits) asked string.long) ∙ bits_pass 0 bits string.bits

pub writing_passes : (bits : List ℕ) (asked out room : ℕ) → BitString asked bits → out ≡ room → writing_check bits asked out room ≡ Ok tt
writing_passes bits asked out room string fits =
    cond-true (eqb (length bits) asked) _ _ (eq-eqb (length bits) asked string.long)
    ∙ cond-true (eqb out room) _ _ (eq-eqb out room fits)
    ∙ bits_pass 0 bits string.bits
