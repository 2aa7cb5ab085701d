-- The parts of a block that are still to come, from each number on.
use Rattle.std.proofs.Common.{◌≡◌, ℕ, ◌+◌, ◌*◌, ◌≤◌, List, [], ◌∷◌, length, drop, Some, None, ap, ◌∙◌, arith}
use Rattle.std.proofs.lemmas.Grind.{common_steps}
use Rattle.std.proofs.lemmas.List.{drop_all, drop_more}
use Rattle.std.proofs.lemmas.List.Sums.{sum_by-cons}
use Rattle.std.proofs.lemmas.Option.{gets, get_or_from_slice_get, slice_get_within}
use Rattle.std.specs.List.{slice_get, sum_by, AllByRecursion}
use Rattle.code.specs.Part.{Limits, steps, places}
use Rattle.code.specs.declared.part.Ending.{Ending}
use Rattle.code.specs.declared.part.Ending.TheVariants.{TailBiting, ZeroTail}
use Rattle.code.specs.declared.part.Rule.{Rule}

-- the part of a number is the first of those from it on
pub first_left : {X : Type 0} (xs : List X) (p : ℕ) (x : X) → slice_get xs p ≡ Some x → drop p xs ≡ x ∷ drop (p + 1) xs
first_left xs p x e = drop_more xs p x (slice_get_within xs p x e) ∙ ap (λ y. y ∷ drop (p + 1) xs) (get_or_from_slice_get xs p x x e)

-- where there is no part of a number, none is left from it on
pub none_left : {X : Type 0} (xs : List X) (p : ℕ) → slice_get xs p ≡ None → drop p xs ≡ []
none_left xs p e = drop_all p xs (grind (arith, common_steps, gets))

-- a word has no more bits than coded places
pub word_below_places : (r : Rule) → r.word ≤ places r
word_below_places r = go r.ending r.word
  where
    go : (e : Ending) (n : ℕ) → n ≤ 3 * steps e n
    go TailBiting n = omega arith
    go ZeroTail n = omega arith

-- there are no more parts than coded places
pub parts_below_places : (rs : List Rule) → AllByRecursion Limits rs → length rs ≤ sum_by places rs
parts_below_places [] limits = omega arith
parts_below_places (r ∷ rs) limits = omega (arith, word_below_places r, limits.0.word_least, parts_below_places rs limits.1, sum_by-cons places r rs)
