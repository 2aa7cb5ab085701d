-- A test of figures that computes, and what it means: one proof for the whole list.
use Rattle.std.proofs.Common.{◌≡◌, ℕ, ◌+◌, ◌-◌, ◌*◌, Bool, true, false, ◌&&◌, eqb, map, length, get_or, take, Ok, Err, Result, sym, ap, ap₂, nat_eq}
use Rattle.std.specs.Char.{char_set_contains}
use Rattle.std.specs.Cmp.Lexicographic.{same_text}
use lib.Pointwise.{pointwise}
use Rattle.std.proofs.lemmas.Bool.{and_parts, eqb-true, false≢true}
use Rattle.fault.specs.declared.Fault.{Fault}
use Rattle.code.specs.Convolution.{coded}
use Rattle.code.specs.Parts.{rule_of}
use Rattle.code.specs.declared.parts.EcPart.TheVariants.{McsHeader}
use Rattle.placement.specs.Layers.{spot, interleaved, split_by_ten}
use Rattle.placement.specs.Placing.{over}
use Rattle.placement.specs.declared.placement.Place.{Place}
use Rattle.placement.specs.declared.placement.Place.TheVariants.{Coded, Fixed}
use Rattle.puncturing.specs.Lists.{dropped_of, kept_of}
use Rattle.puncturing.specs.declared.KeptList.TheVariants.{Mcs}
use Rattle.timeslot.specs.Timeslot.{timeslot}
use Rattle.sending_figures.specs.Figures.{Figure, header_bits, keeps_first, keeps_last, keeps, drops, goes_to, shown_at, slot_of, Holds}

abbrev same_place : Place → ℕ → Bool
same_place (Coded c) entry = eqb c entry
same_place (Fixed b) entry = false

tested_place : (p : Place) (entry : ℕ) → same_place p entry ≡ true → p ≡ Coded entry
tested_place (Coded c) entry t = ap Coded (eqb-true c entry t)
tested_place (Fixed b) entry t = absurd (false≢true t)

abbrev same_pair : Result (ℕ × ℕ) Fault → ℕ → ℕ → Bool
same_pair (Ok (x, y)) a b = eqb x a && eqb y b
same_pair (Err f) a b = false

tested_pair : (r : Result (ℕ × ℕ) Fault) (a b : ℕ) → same_pair r a b ≡ true → r ≡ Ok (a, b)
tested_pair (Ok (x, y)) a b t =
    let parts = and_parts (eqb x a) (eqb y b) t in ap₂ (λ n m. Ok (n, m)) (eqb-true x a parts.0) (eqb-true y b parts.1)
tested_pair (Err f) a b t = absurd (false≢true t)

abbrev pub holds_test : Figure → Bool
holds_test (header_bits word bits) = pointwise nat_eq (map (coded (rule_of McsHeader).ending word) (take (length bits) (kept_of Mcs))) bits
holds_test (keeps_first l places) = pointwise nat_eq (take (length places) (kept_of l)) places
holds_test (keeps_last l place) = eqb (get_or (kept_of l) (length (kept_of l) - 1) 0) place
holds_test (keeps l place) = char_set_contains (kept_of l) place
holds_test (drops l place) = dropped_of l place
holds_test (goes_to entry group column) = eqb (spot entry) (106 * group + column)
holds_test (shown_at entry burst place) = same_place ((over split_by_ten interleaved).shows (116 * burst + place)) entry
holds_test (slot_of block total m p b b' pn) = same_pair (timeslot block total m p b) b' pn

pub tested_figure : (f : Figure) → holds_test f ≡ true → Holds f
tested_figure (header_bits word bits) t = same_text _ _ (sym t)
tested_figure (keeps_first l places) t = same_text _ _ (sym t)
tested_figure (keeps_last l place) t = eqb-true _ _ t
tested_figure (keeps l place) t = t
tested_figure (drops l place) t = t
tested_figure (goes_to entry group column) t = eqb-true _ _ t
tested_figure (shown_at entry burst place) t = tested_place ((over split_by_ten interleaved).shows (116 * burst + place)) entry t
tested_figure (slot_of block total m p b b' pn) t = tested_pair (timeslot block total m p b) b' pn t
