-- What a block is: its code parts in order, and a pile of placements that takes their coded places to bursts.
use Rattle.std.specs.Prelude.{◌≡◌, ℕ, ◌≤◌, List}
use Rattle.std.specs.List.{AllByRecursion, sum_by}
use Rattle.code.specs.Part.{places, Limits as PartLimits}
use Rattle.code.specs.declared.part.Rule.{Rule}
use Rattle.placement.specs.Placing.{Placing, Sound}

pub record Layout : Type 0 where
  -- the parts' rules, part 0's first
  pub parts : List Rule
  pub pile : Placing
  pub bursts : ℕ
  -- how often at most a burst of one number is accepted
  pub repeats : ℕ

-- how many bits a message of a block has
abbrev pub message_length : Layout → ℕ
message_length l = sum_by (λ p. p.message) l.parts

-- the limits of every block
pub record Limits (l : Layout) : Type 0 where
  pub parts_limits : AllByRecursion PartLimits l.parts
  pub pile_sound : Sound l.pile
  pub bursts_least : 1 ≤ l.bursts
  pub bursts_most : l.bursts ≤ 4
  pub repeats_least : 1 ≤ l.repeats
  pub repeats_most : l.repeats ≤ 48
  -- the pile's coded places are those of all parts, part 0's first
  pub pile_coded : l.pile.coded ≡ sum_by places l.parts
  pub coded_most : l.pile.coded ≤ 1024
