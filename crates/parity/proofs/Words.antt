-- Every message has one word with right parity.
use Rattle.std.proofs.Common.{◌≡◌, ℕ, Decides, eqb, eq-eqb, eqb-true, ◌+◌, ◌*◌, ◌^◌, ◌<◌, List, ◌++◌, length, drop, replicate, fold, bit_xor, sym, ap, ◌∙◌, subst, arith, length-append, length-drop, take-append-drop}
use Rattle.std.specs.Int.Bits.{xor_shifted, xor_assoc, xor_zero_l, xor_self}
use Rattle.std.proofs.lemmas.Nat.{xor_comm, xor_lt}
use Rattle.std.proofs.lemmas.List.{length-replicate, take_at}
use Rattle.code.specs.Bits.{Bits, BitString}
use Rattle.code.specs.Part.{Limits, Message, Sound}
use Rattle.code.specs.declared.part.Generator.{Generator}
use Rattle.code.specs.declared.part.Rule.{Rule}
use Rattle.code.proofs.Bits.{Bits-append, Bits-drop}
use Rattle.parity.specs.Division.{Leaves, all_ones, read, product, polynomial}
use Rattle.parity.specs.Register.{next}
use Rattle.parity.specs.Parity.{RightParity, TheWordOf}
use Rattle.parity.proofs.Digits.{bits_of, bits_of_bits, bits_of_long, read-append, read_back, read_lt, read_same, read_zeros, zeros_bits}
use Rattle.parity.proofs.Steps.{leaves_computed}
use Rattle.parity.proofs.Unique.{one_remainder}
use Rattle.parity.proofs.Xor.{xor_again, xor_nothing, xor_equal}

module _ (g : Generator) (m p q : List ℕ) (bits-p : Bits p) (bits-q : Bits q) (long-p : length p ≡ g.degree) (long-q : length q ≡ g.degree) where
  shifted : (r : List ℕ) → Bits r → length r ≡ g.degree → read (m ++ r) ≡ bit_xor (read m * 2 ^ g.degree) (read r)
  shifted r h long =
      let small : read r < 2 ^ g.degree = rw long at (read_lt r h) in
      read-append m r ∙ ap (λ n. read m * 2 ^ n + read r) long ∙ sym (xor_shifted (read m) g.degree (read r) small)

  -- other last bits leave what differs more
  pub leaves_moved : (s : ℕ) → Leaves g (m ++ p) s → Leaves g (m ++ q) (bit_xor s (bit_xor (read p) (read q)))
  leaves_moved s old =
      let d = g.degree in
      let a = product old.quotient (polynomial g) in
      let small-p : read p < 2 ^ d = rw long-p at (read_lt p bits-p) in
      let small-q : read q < 2 ^ d = rw long-q at (read_lt q bits-q) in
      let front : read m * 2 ^ d ≡ bit_xor (bit_xor a s) (read p) =
      cc (xor_again (read m * 2 ^ d) (read p), shifted p bits-p long-p, old.whole) in
      record {
        quotient = old.quotient;
        binary = old.binary;
        small = xor_lt d s (bit_xor (read p) (read q)) old.small (xor_lt d (read p) (read q) small-p small-q);
        whole =
            cc (shifted q bits-q long-q, front, xor_assoc (bit_xor a s) (read p) (read q), xor_assoc a s (bit_xor (read p) (read q)));
      }

  -- one parity leaves one remainder
  pub one_parity : Sound g → (s : ℕ) → Leaves g (m ++ p) s → Leaves g (m ++ q) s → p ≡ q
  one_parity sound s one two =
      let differ = one_remainder g sound (m ++ q) s (bit_xor s (bit_xor (read p) (read q))) two (leaves_moved s one) in
      read_same p q bits-p bits-q (long-p ∙ sym long-q) (xor_equal (read p) (read q) (xor_nothing s (bit_xor (read p) (read q)) differ))

module _ (rule : Rule) (limits : Limits rule) (m : List ℕ) (message : Message rule m) where
  -- a message and right parity are the message's one word
  pub the_word : (p : List ℕ) → BitString rule.generator.degree p → RightParity rule (m ++ p) → TheWordOf rule m (m ++ p)
  the_word p parity right =
      let g = rule.generator in
      record {
        is = record {
          word = record {
            long = length-append m p ∙ omega (arith, message.long, parity.long, limits.message_and_parity);
            bits = Bits-append m p message.bits parity.bits;
          };
          begins = take_at m p rule.message message.long;
          right = right;
        };
        only = λ v other.
            let q = drop rule.message v in
            let whole : m ++ q ≡ v = ap (λ (t : List ℕ). t ++ q) (sym other.begins) ∙ take-append-drop rule.message v in
            let long-q : length q ≡ g.degree = length-drop rule.message v ∙ omega (arith, other.word.long, limits.message_and_parity) in
            let bits-q : Bits q = Bits-drop rule.message v other.word.bits in
            let same = one_parity g m p q parity.bits bits-q parity.long long-q limits.generator (all_ones g) right (subst (RightParity rule) (sym whole) other.right) in
            sym whole ∙ ap (λ (t : List ℕ). m ++ t) (sym same);
      }

  -- what is missing in the register once it has taken a message and a zero for each bit of parity is the parity
  pub word_made : (p : List ℕ) → BitString rule.generator.degree p → (r : ℕ) → Leaves rule.generator (m ++ replicate {A = ℕ} rule.generator.degree 0) r
      → read p ≡ bit_xor r (all_ones rule.generator) → TheWordOf rule m (m ++ p)
  word_made p parity r left missing =
      let g = rule.generator in
      let zeros = replicate {A = ℕ} g.degree 0 in
      let ones = all_ones g in
      let moved = leaves_moved g m zeros p (zeros_bits g.degree) parity.bits (length-replicate {A = ℕ} g.degree 0) parity.long r left in
      let all : bit_xor r (bit_xor (read zeros) (read p)) ≡ ones =
      cc (read_zeros g.degree, xor_zero_l (read p), missing, xor_comm r ones, xor_comm r (bit_xor r ones), xor_again ones r) in
      the_word p parity (subst (Leaves g (m ++ p)) all moved)

  -- and there is such parity
  pub some_word : (w : List ℕ) × TheWordOf rule m w
  some_word =
      let g = rule.generator in
      let d = g.degree in
      let zeros = replicate {A = ℕ} d 0 in
      let left = leaves_computed g limits.generator (m ++ zeros) (Bits-append m zeros message.bits (zeros_bits d)) in
      let r = fold (next g) 0 (m ++ zeros) in
      let v = bit_xor r (all_ones g) in
      let small : v < 2 ^ d = xor_lt d r (all_ones g) left.small (omega (arith, left.small)) in
      let p = bits_of d v in
      (m ++ p, word_made p (record { long = bits_of_long d v; bits = bits_of_bits d v }) r left (read_back d v small))

-- nothing is missing just where division leaves ones
pub nothing_missing : (g : Generator) (bits : List ℕ) (r missing : ℕ) → Leaves g bits r → ((s : ℕ) → Leaves g bits s → s ≡ r) → missing ≡ bit_xor r (all_ones g)
    → Decides (eqb missing 0) (Leaves g bits (all_ones g))
nothing_missing g bits r missing left only is =
    let ones = all_ones g in (
      λ none. subst (Leaves g bits) (xor_equal r ones (sym is ∙ eqb-true _ _ none)) left,
      λ right. eq-eqb _ _ (is ∙ ap (λ n. bit_xor n ones) (sym (only ones right)) ∙ xor_self ones),
    )
