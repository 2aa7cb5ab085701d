-- The figures of the six parts.
use Rattle.std.specs.Prelude.{◌+◌, ◌^◌}
use Rattle.code.specs.declared.part.Ending.TheVariants.{TailBiting, ZeroTail}
use Rattle.code.specs.declared.part.Generator.{Generator}
use Rattle.code.specs.declared.part.Rule.{Rule}
use Rattle.code.specs.declared.parts.EcPart.{EcPart}
use Rattle.code.specs.declared.parts.EcPart.TheVariants.{CcchDown, PacchDown, PacchUp, PacchUp48, McsHeader, McsData}

-- D^18 + D^17 + D^14 + D^13 + D^11 + D^10 + D^8 + D^7 + D^6 + D^3 + D^2 + 1
abbrev pub control_generator : Generator
control_generator = record { degree = 18; taps = 2 ^ 17 + 2 ^ 14 + 2 ^ 13 + 2 ^ 11 + 2 ^ 10 + 2 ^ 8 + 2 ^ 7 + 2 ^ 6 + 2 ^ 3 + 2 ^ 2 + 1 }

-- D^8 + D^6 + D^3 + 1
abbrev pub header_generator : Generator
header_generator = record { degree = 8; taps = 2 ^ 6 + 2 ^ 3 + 1 }

-- D^12 + D^11 + D^10 + D^8 + D^5 + D^4 + 1
abbrev pub data_generator : Generator
data_generator = record { degree = 12; taps = 2 ^ 11 + 2 ^ 10 + 2 ^ 8 + 2 ^ 5 + 2 ^ 4 + 1 }

abbrev pub rule_of : EcPart → Rule
rule_of CcchDown = record { message = 88; word = 106; ending = TailBiting; generator = control_generator }
rule_of PacchDown = record { message = 80; word = 98; ending = TailBiting; generator = control_generator }
rule_of PacchUp = record { message = 64; word = 82; ending = TailBiting; generator = control_generator }
rule_of PacchUp48 = record { message = 56; word = 74; ending = TailBiting; generator = control_generator }
rule_of McsHeader = record { message = 16; word = 24; ending = TailBiting; generator = header_generator }
rule_of McsData = record { message = 178; word = 190; ending = ZeroTail; generator = data_generator }
