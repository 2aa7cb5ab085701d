-- The lines of an input, as an iterator gives them.
use Rattle.std.proofs.Common.{◌≡◌, ℕ, ◌<◌, List, [], ◌∷◌, length, Some, None, Ok, Option, Result, IfSome, vec_items, sym, refl, ◌∙◌, subst}
use Rattle.std.specs.List.{FoldsTo}
use Rattle.std.specs.Iterator.{Yields}
use Rattle.std.specs.Iterator.Adapters.{enumerate_source, enumerate_steps}
use Rattle.std.specs.Io.BufRead.{first_piece, DropsThrough}
use Rattle.std.specs.Io.KnownBytes.{IsAtEnd}
use Rattle.std.specs.Io.Iter.{split_byte, split_known_bytes, YieldsKnownPiece, YieldsWithout}
use Rattle.std.specs.declared.iter.Enumerate.{Enumerate}
use Rattle.std.specs.declared.io.traits.Split.{Split}
use Rattle.std.specs.declared.vec.Vec.{Vec}
use Rattle.console.specs.Lines.{LeftByLine, LeftByInput}
use Rattle.console.specs.declared.misread.Misread.{Misread}

-- an item that is a line, and no failure to read one
abbrev pub LeftByItem : {C K A E : Type 0} → (List ℕ → Result (Option K) Misread → Type 0) → (C → K → C → Type 0) → C → ℕ × Result (Vec ℕ A) E → C → Type 0
LeftByItem {C} {K} {A} reads carries old item new = (line : Vec ℕ A) × (item.1 ≡ Ok line) × LeftByLine reads carries old (vec_items line) new

-- what holds where a value is known
pub if_known : {X : Type 0} (o : Option X) (P : X → Type 0) → ((x : X) → o ≡ Some x → P x) → IfSome o P
if_known None P h = tt
if_known (Some x) P h = h x refl

module _ {C K A E S : Type 0} (reads : List ℕ → Result (Option K) Misread → Type 0) (carries : C → K → C → Type 0) (steps : S → Option (ℕ × Result (Vec ℕ A) E) → S → Type 0) (known : S → Option (List ℕ)) (by_line : S → Type 0)
    (ends : (s t : S) → by_line s → steps s None t → IsAtEnd (known s))
    (goes : (s : S) (i : ℕ) (line : Vec ℕ A) (t : S) → by_line s → steps s (Some (i, Ok line)) t → by_line t × IfSome (known s) (λ xs. (0 < length xs) × (vec_items line ≡ first_piece 10 xs)) × DropsThrough (known s) (known t) 10) where
  -- an iterator that gives each line of known bytes hands each of them on
  pub left_by_input : (xs : List (ℕ × Result (Vec ℕ A) E)) (s t u : S) (old new : C) (bytes : List ℕ) → by_line s → known s ≡ Some bytes
      → Yields steps s xs t → steps t None u → FoldsTo (LeftByItem reads carries) old xs new → LeftByInput reads carries old new bytes
  left_by_input [] s t u old new bytes is k y last f =
      let here : IsAtEnd (known s) = ends s u is (subst (λ (v : S). steps v None u) (sym y) last) in
      ([], subst IsAtEnd k here, f)
  left_by_input (x ∷ xs) s t u old new bytes is k y last f =
      let step = goes s x.0 f.1.0 y.0 is (subst (λ (r : Result (Vec ℕ A) E). steps s (Some (x.0, r)) y.0) f.1.1 y.1) in
      let piece = subst (λ o. IfSome o (λ xs. (0 < length xs) × (vec_items f.1.0 ≡ first_piece 10 xs))) k step.1 in
      let after = subst (λ o. DropsThrough o (known y.0) 10) k step.2 in
      let rest = left_by_input xs y.0 t u f.0 new _ step.0 after y.2 last f.2 in
      (vec_items f.1.0 ∷ rest.0, (piece.0, piece.1, rest.1), (f.0, f.1.2, rest.2))

-- what `split` of a reader gives
abbrev pub split_steps : {B A E : Type 0} → (B → Option (List ℕ)) → Split B A → Option (Result (Vec ℕ A) E) → Split B A → Type 0
split_steps remaining s r t =
    YieldsWithout vec_items r (split_byte s) × (split_byte t ≡ split_byte s)
    × YieldsKnownPiece vec_items (first_piece (split_byte s)) (split_byte s) (split_known_bytes remaining s) r (split_known_bytes remaining t)

-- so do the numbered lines of a reader whose bytes are known
pub left_by_lines : {C K A E B : Type 0} (reads : List ℕ → Result (Option K) Misread → Type 0) (carries : C → K → C → Type 0) (remaining : B → Option (List ℕ))
    → (xs : List (ℕ × Result (Vec ℕ A) E)) (s t u : Enumerate (Split B A)) (old new : C) (bytes : List ℕ)
    → split_byte (enumerate_source s) ≡ 10 → split_known_bytes remaining (enumerate_source s) ≡ Some bytes
    → Yields (enumerate_steps (split_steps remaining)) s xs t → enumerate_steps {A = Result (Vec ℕ A) E} (split_steps remaining) t None u
    → FoldsTo (LeftByItem reads carries) old xs new → LeftByInput reads carries old new bytes
left_by_lines {C} {K} {A} {E} {B} reads carries remaining =
    left_by_input reads carries (enumerate_steps (split_steps remaining)) (λ s. split_known_bytes remaining (enumerate_source s)) (λ s. split_byte (enumerate_source s) ≡ 10)
    (λ s t is e. e.0.2)
    (λ s i line t is e.
    let source = enumerate_source s in
    let piece =
    subst (λ (byte : ℕ). IfSome (split_known_bytes remaining source) (λ xs. (0 < length xs) × (vec_items line ≡ first_piece byte xs))
    × DropsThrough (split_known_bytes remaining source) (split_known_bytes remaining (enumerate_source t)) byte) is e.0.2 in
    (e.0.1 ∙ is, piece.0, piece.1))
