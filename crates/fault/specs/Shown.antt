-- What is written of a layer, a detail and a fault, byte by byte.
use Rattle.std.specs.Prelude.{ℕ, List, ◌++◌, codes, decimal}
use Rattle.fault.specs.declared.Layer.{Layer}
use Rattle.fault.specs.declared.Layer.TheVariants as layers
use Rattle.fault.specs.declared.Detail.{Detail}
use Rattle.fault.specs.declared.Detail.TheVariants.{Number, PartAndCost}
use Rattle.fault.specs.declared.ValueFault.{ValueFault}
use Rattle.fault.specs.declared.ValueFault.TheVariants as value
use Rattle.fault.specs.declared.ParityFault.{ParityFault}
use Rattle.fault.specs.declared.ParityFault.TheVariants as parity
use Rattle.fault.specs.declared.PlacementFault.{PlacementFault}
use Rattle.fault.specs.declared.PlacementFault.TheVariants as placement
use Rattle.fault.specs.declared.ReceiverFault.{ReceiverFault}
use Rattle.fault.specs.declared.ReceiverFault.TheVariants as receiver
use Rattle.fault.specs.declared.TimingFault.{TimingFault}
use Rattle.fault.specs.declared.TimingFault.TheVariants as timing
use Rattle.fault.specs.declared.Fault.{Fault}
use Rattle.fault.specs.declared.Fault.TheVariants.{Value, Parity, Placement, Receiver, Timing}
use Rattle.fault.specs.Fault.{number_of, layer_of}

abbrev pub layer_text : Layer → List ℕ
layer_text layers.Value = codes "value"
layer_text layers.Parity = codes "parity"
layer_text layers.Placement = codes "placement"
layer_text layers.Receiver = codes "receiver"
layer_text layers.Timing = codes "timing"

abbrev pub detail_text : Detail → List ℕ
detail_text (Number n) = decimal n
detail_text (PartAndCost part cost) = decimal part ++ (codes " " ++ decimal cost)

-- a buffer, told by its number
abbrev pub length_text : ℕ → List ℕ
length_text buffer = codes "buffer " ++ (decimal buffer ++ codes " has the wrong length")

-- why a burst is not weighed
abbrev pub value_text : ValueFault → List ℕ
value_text (value.Length buffer) = length_text buffer
value_text value.Weight = codes "the weight or amplitude is not finite or is below zero"
value_text value.Noise = codes "the noise is not finite or is not above zero"
value_text value.Quotient = codes "amplitude divided by noise is not finite"

-- why a message is not sent, or a word is not read
abbrev pub parity_text : ParityFault → List ℕ
parity_text (parity.Length buffer) = length_text buffer
parity_text (parity.NotABit index) = codes "byte " ++ (decimal index ++ codes " is neither 0 nor 1")
parity_text (parity.WrongParity part cost) =
    codes "the word found for part " ++ (decimal part ++ (codes " has wrong parity, and no word costs less than " ++ decimal cost))

-- which burst there is not
abbrev pub placement_text : PlacementFault → List ℕ
placement_text (placement.NoSuchBurst burst) = codes "the block has no burst " ++ decimal burst

-- why a receiver refuses
abbrev pub receiver_text : ReceiverFault → List ℕ
receiver_text (receiver.Length buffer) = length_text buffer
receiver_text (receiver.NoMoreRepeats burst) =
    codes "burst " ++ (decimal burst ++ codes " was already accepted as many times as the block allows")
receiver_text receiver.NothingHeard = codes "no burst was accepted since opening or the last restart"
receiver_text (receiver.NoSuchPart part) = codes "the block has no part " ++ decimal part

-- why there is no such repeat on timeslots
abbrev pub timing_text : TimingFault → List ℕ
timing_text timing.Total = codes "the block is not sent that many times"
timing_text timing.Repeat = codes "there is no repeat of that number"
timing_text timing.Slots = codes "the block does not use that many slots, or has no slot of that number"

-- why, without the number and the layer
abbrev pub reason : Fault → List ℕ
reason (Value f) = value_text f
reason (Parity f) = parity_text f
reason (Placement f) = placement_text f
reason (Receiver f) = receiver_text f
reason (Timing f) = timing_text f

-- the sentence that an operator reads
abbrev pub sentence : Fault → List ℕ
sentence f =
    codes "refused by " ++ (decimal (number_of f) ++ (codes " in the " ++ (layer_text (layer_of f) ++ (codes " layer: " ++ reason f))))
