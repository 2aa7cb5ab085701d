-- What lines leave of a console.
use Rattle.std.specs.Prelude.{◌≡◌, ℕ, ◌<◌, List, [], ◌∷◌, length, Some, None, Ok, Err, Option, Result}
use Rattle.std.specs.List.{FoldsTo, slice_get}
use Rattle.std.specs.Io.BufRead.{first_piece, drop_through}
use Rattle.std.specs.Str.{IsUtf8}
use Rattle.console.specs.declared.misread.Misread.{Misread}

-- what is read of a line, carried out: a command changes the console as it may, and nothing else does
abbrev pub Carried : {C K : Type 0} → (C → K → C → Type 0) → Result (Option K) Misread → C → C → Type 0
Carried carries (Ok (Some command)) old new = carries old command new
Carried carries (Ok None) old new = new ≡ old
Carried carries (Err misread) old new = new ≡ old

-- the first byte is #
abbrev pub IsComment : List ℕ → Type 0
IsComment line = slice_get line 0 ≡ Some 35

-- a comment and a line that is no text change nothing, any other line what is read of it
pub record LeftByLine {C K : Type 0} (reads : List ℕ → Result (Option K) Misread → Type 0) (carries : C → K → C → Type 0) (old : C) (line : List ℕ) (new : C) : Type 0 where
  pub comment : IsComment line → new ≡ old
  pub no_text : (IsUtf8 line → ⊥) → new ≡ old
  pub text : (IsComment line → ⊥) → IsUtf8 line → (read : Result (Option K) Misread) × reads line read × Carried carries read old new

-- the lines of an input: what stands before each line feed, and before the end
abbrev pub AreLines : List ℕ → List (List ℕ) → Type 0
AreLines bytes [] = bytes ≡ []
AreLines bytes (line ∷ lines) = (0 < length bytes) × (line ≡ first_piece 10 bytes) × AreLines (drop_through 10 bytes) lines

-- each line of the input once, in order
abbrev pub LeftByInput : {C K : Type 0} → (List ℕ → Result (Option K) Misread → Type 0) → (C → K → C → Type 0) → C → C → List ℕ → Type 0
LeftByInput reads carries old new bytes = (lines : List (List ℕ)) × AreLines bytes lines × FoldsTo (LeftByLine reads carries) old lines new
