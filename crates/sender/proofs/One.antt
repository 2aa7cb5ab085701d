-- Every message of a block is sent in one way.
use Rattle.std.proofs.Common.{◌≡◌, ℕ, ◌*◌, ◌<◌, List, [], ◌∷◌, take, drop, refl, ap, ◌∙◌, ap₂, arith}
use Rattle.std.specs.List.{range_with_len, sum_by, AllByRecursion}
use Rattle.std.proofs.lemmas.List.{length-drop, length-take-le}
use Rattle.std.proofs.lemmas.List.Sums.{sum_by-cons}
use Rattle.code.specs.Bits.{Bits, BitString}
use Rattle.code.specs.Convolution.{coded, coded_word}
use Rattle.code.specs.Part.{places, Limits as PartLimits}
use Rattle.code.specs.declared.part.Rule.{Rule}
use Rattle.code.proofs.Bits.{Bits-append, Bits-drop, Bits-get_or, Bits-map, Bits-take}
use Rattle.parity.proofs.Words.{some_word}
use Rattle.placement.specs.Placing.{Sound}
use Rattle.placement.specs.declared.placement.Place.{Place}
use Rattle.placement.specs.declared.placement.Place.TheVariants.{Coded, Fixed}
use Rattle.block.specs.Layout.{Layout, Limits}
use Rattle.sender.specs.Sent.{BlockMessage, Words, coded_words, shown, shown_all, OneSending}

-- there are words of a message
some_words : (rs : List Rule) → AllByRecursion PartLimits rs → (m : List ℕ) → BitString (sum_by (λ p. p.message) rs) m → (ws : List (List ℕ)) × Words rs m ws
some_words [] limits m whole = ([], tt)
some_words (r ∷ rs) limits m whole =
    let n = r.message in
    let more = sum_by-cons (λ p. p.message) r rs in
    let own = some_word r limits.0 (take n m) (record { long = length-take-le n m (omega (arith, whole.long, more)); bits = Bits-take n m whole.bits }) in
    let rest = some_words rs limits.1 (drop n m) (record { long = length-drop n m ∙ omega (arith, whole.long, more); bits = Bits-drop n m whole.bits }) in
    (own.0 ∷ rest.0, (own.1, rest.1))

-- and no others
same_words : (rs : List Rule) (m : List ℕ) (ws vs : List (List ℕ)) → Words rs m ws → Words rs m vs → vs ≡ ws
same_words [] m [] [] a b = refl
same_words [] m [] (v ∷ vs) a b = absurd b
same_words [] m (w ∷ ws) vs a b = absurd a
same_words (r ∷ rs) m [] vs a b = absurd a
same_words (r ∷ rs) m (w ∷ ws) [] a b = absurd b
same_words (r ∷ rs) m (w ∷ ws) (v ∷ vs) a b = ap₂ ◌∷◌ (a.0.only v b.0.is) (same_words rs (drop r.message m) ws vs a.1 b.1)

coded_bits : (rs : List Rule) (ws : List (List ℕ)) → Bits (coded_words rs ws)
coded_bits [] ws = tt
coded_bits (r ∷ rs) [] = tt
coded_bits (r ∷ rs) (w ∷ ws) =
    Bits-append (coded_word r w) (coded_words rs ws)
    (Bits-map (coded r.ending w) (range_with_len 0 (places r)) (λ k. omega arith))
    (coded_bits rs ws)

shown_bit : (l : Layout) → Sound l.pile → (xs : List ℕ) → Bits xs → (k : ℕ) → shown xs (l.pile.shows k) < 2
shown_bit l sound xs bits k = go (l.pile.shows k) refl
  where
    go : (p : Place) → l.pile.shows k ≡ p → shown xs p < 2
    go (Coded c) e = Bits-get_or xs bits c
    go (Fixed b) e = sound.binary k b e

pub one_sending : (l : Layout) → Limits l → (m : List ℕ) → BlockMessage l m → OneSending l m
one_sending l limits m whole =
    let found = some_words l.parts limits.parts_limits m whole in
    let ws = found.0 in
    let bits = coded_words l.parts ws in
    let n = 116 * l.bursts in
    let out = shown_all l.pile.shows n bits in
    record {
      out = out;
      sent = record { coded = bits; encoded = record { words = ws; of_message = found.1; bits = refl }; laid = refl };
      only = λ other s.
          let same = same_words l.parts m ws s.encoded.words found.1 s.encoded.of_message in
          s.laid ∙ ap (shown_all l.pile.shows n) (s.encoded.bits ∙ ap (coded_words l.parts) same);
      bits = Bits-map (λ k. shown bits (l.pile.shows k)) (range_with_len 0 n) (shown_bit l limits.pile_sound bits (coded_bits l.parts ws));
    }
