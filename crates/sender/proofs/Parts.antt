-- The parts of a block, one by one.
use Rattle.std.proofs.Common.{◌≡◌, ℕ, ◌+◌, ◌^◌, ◌<◌, ◌≤◌, List, [], ◌∷◌, ◌++◌, take, drop, sym, refl, ap, ◌∙◌, subst, ap₂, arith}
use Rattle.std.proofs.lemmas.List.{append_assoc, drop-drop}
use Rattle.std.proofs.lemmas.List.Sums.{sum_by-cons}
use Rattle.std.specs.List.{sum_by, AllByRecursion}
use Rattle.code.specs.Part.{Limits as PartLimits, places}
use Rattle.code.specs.declared.part.Rule.{Rule}
use Rattle.block.proofs.Left.{word_below_places}
use Rattle.block.specs.Layout.{Layout, Limits}
use Rattle.parity.specs.Parity.{TheWordOf}
use Rattle.sender.specs.Sent.{Encoded, Words}
use Rattle.sender.specs.Written.{PartEncoded}

-- messages have no more bits than their parts have coded places
messages_below_places : (rs : List Rule) → AllByRecursion PartLimits rs → sum_by (λ p. p.message) rs ≤ sum_by places rs
messages_below_places [] limits = omega arith
messages_below_places (r ∷ rs) limits = omega (arith, word_below_places r, limits.0.message_and_parity, messages_below_places rs limits.1, sum_by-cons (λ p. p.message) r rs, sum_by-cons places r rs)

pub messages_fit : (l : Layout) → Limits l → sum_by (λ p. p.message) l.parts < 2 ^ 64
messages_fit l limits = omega (arith, messages_below_places l.parts limits.parts_limits, limits.pile_coded, limits.coded_most)

-- nothing is encoded of no parts
pub encoded_none : (m : List ℕ) → Encoded [] m []
encoded_none m = record { words = []; of_message = tt; bits = refl }

-- a part, and then the others
pub encoded_cons : (r : Rule) (rs : List Rule) (m own others coded rest : List ℕ) (n : ℕ) → n ≡ r.message → own ≡ take n m → others ≡ drop n m
    → PartEncoded r own coded → Encoded rs others rest → Encoded (r ∷ rs) m (coded ++ rest)
encoded_cons r rs m own others coded rest n long front back first after = record {
  words = first.word ∷ after.words;
  of_message = (
    subst (λ (t : List ℕ). TheWordOf r t first.word) (front ∙ ap (λ k. take k m) long) first.of_message,
    subst (λ (t : List ℕ). Words rs t after.words) (back ∙ ap (λ k. drop k m) long) after.of_message,
  );
  bits = ap₂ ◌++◌ first.bits after.bits;
}

-- one more part is written: if what was written before goes on to encode the message, so does what is written now
pub encoded_more : (all rs : List Rule) (r : Rule) (m own old new coded : List ℕ) (from start n k : ℕ)
    → n ≡ r.message → own ≡ take n (drop from m) → take (start + k) new ≡ take start old ++ coded → PartEncoded r own coded
    → ((rest : List ℕ) → Encoded (r ∷ rs) (drop from m) rest → Encoded all m (take start old ++ rest))
    → (rest : List ℕ) → Encoded rs (drop (from + n) m) rest → Encoded all m (take (start + k) new ++ rest)
encoded_more all rs r m own old new coded from start n k long mine front first before rest after =
    subst (Encoded all m)
    (sym (ap (λ (t : List ℕ). t ++ rest) front ∙ append_assoc (take start old) coded rest))
    (before (coded ++ rest) (encoded_cons r rs (drop from m) own (drop (from + n) m) coded rest n long mine (sym (drop-drop n from m)) first after))
