-- Checks, one after the other: the first that fails refuses.
use Rattle.std.specs.Prelude.{Bool, cond, Err, Result}

-- what the rest says where the test passes, else a refusal
abbrev pub unless : {X F : Type 0} → Bool → F → Result X F → Result X F
unless passes fault rest = cond passes rest (Err fault)
