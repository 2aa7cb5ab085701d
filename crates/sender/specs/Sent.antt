-- What is sent of a message.
use Rattle.std.specs.Prelude.{◌≡◌, ℕ, ◌*◌, List, [], ◌∷◌, ◌++◌, map, take, drop, slice_index}
use Rattle.std.specs.List.{range_with_len}
use Rattle.code.specs.Bits.{Bits, BitString}
use Rattle.code.specs.Convolution.{coded_word}
use Rattle.code.specs.declared.part.Rule.{Rule}
use Rattle.parity.specs.Parity.{TheWordOf}
use Rattle.placement.specs.declared.placement.Place.{Place}
use Rattle.placement.specs.declared.placement.Place.TheVariants.{Coded, Fixed}
use Rattle.block.specs.Layout.{Layout, Limits, message_length}

-- a message of a block: those of its parts, part 0's first
abbrev pub BlockMessage : Layout → List ℕ → Type 0
BlockMessage l = BitString (message_length l)

-- ws are the words with right parity of the parts' messages, of which each next one follows in m
abbrev pub Words : List Rule → List ℕ → List (List ℕ) → Type 0
Words [] m [] = Unit {0}
Words [] m (w ∷ ws) = ⊥
Words (r ∷ rs) m [] = ⊥
Words (r ∷ rs) m (w ∷ ws) = TheWordOf r (take r.message m) w × Words rs (drop r.message m) ws

-- all coded bits of the parts' words, part 0's first
abbrev pub coded_words : List Rule → List (List ℕ) → List ℕ
coded_words [] ws = []
coded_words (r ∷ rs) [] = []
coded_words (r ∷ rs) (w ∷ ws) = coded_word r w ++ coded_words rs ws

-- coded are the coded bits of the message m
pub record Encoded (parts : List Rule) (m coded : List ℕ) : Type 0 where
  pub words : List (List ℕ)
  pub of_message : Words parts m words
  pub bits : coded ≡ coded_words parts words

-- the bit at a place: the coded bit that it shows, or its fixed bit
abbrev pub shown : List ℕ → Place → ℕ
shown coded (Coded c) = slice_index coded c
shown coded (Fixed b) = b

-- n places of a pile, from the first on
abbrev pub shown_all : (ℕ → Place) → ℕ → List ℕ → List ℕ
shown_all shows n coded = map (λ k. shown coded (shows k)) (range_with_len 0 n)

-- out are the bursts of the message m, burst 0 first
pub record Sent (l : Layout) (m out : List ℕ) : Type 0 where
  pub coded : List ℕ
  pub encoded : Encoded l.parts m coded
  pub laid : out ≡ shown_all l.pile.shows (116 * l.bursts) coded

-- every message of a block is sent in one way, and no other, and all that is sent are bits
pub record OneSending (l : Layout) (m : List ℕ) : Type 0 where
  pub out : List ℕ
  pub sent : Sent l m out
  pub only : (other : List ℕ) → Sent l m other → other ≡ out
  pub bits : Bits out

abbrev pub EveryMessageIsSentInOneWay : Type 0
EveryMessageIsSentInOneWay = (l : Layout) → Limits l → (m : List ℕ) → BlockMessage l m → OneSending l m
