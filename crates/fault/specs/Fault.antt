-- What a fault tells: its number, the layer that refused, and its detail.
use Rattle.std.specs.Prelude.{ℕ}
use Rattle.fault.specs.declared.Layer.{Layer}
use Rattle.fault.specs.declared.Layer.TheVariants as layers
use Rattle.fault.specs.declared.Detail.{Detail}
use Rattle.fault.specs.declared.Detail.TheVariants.{Number, PartAndCost}
use Rattle.fault.specs.declared.ValueFault.TheVariants as value
use Rattle.fault.specs.declared.ParityFault.TheVariants as parity
use Rattle.fault.specs.declared.PlacementFault.TheVariants as placement
use Rattle.fault.specs.declared.ReceiverFault.TheVariants as receiver
use Rattle.fault.specs.declared.TimingFault.TheVariants as timing
use Rattle.fault.specs.declared.Fault.{Fault}
use Rattle.fault.specs.declared.Fault.TheVariants.{Value, Parity, Placement, Receiver, Timing}

abbrev pub number_of : Fault → ℕ
number_of (Value (value.Length buffer)) = 1
number_of (Parity (parity.Length buffer)) = 1
number_of (Receiver (receiver.Length buffer)) = 1
number_of (Parity (parity.NotABit index)) = 2
number_of (Placement (placement.NoSuchBurst burst)) = 3
number_of (Receiver (receiver.NoMoreRepeats burst)) = 4
number_of (Receiver receiver.NothingHeard) = 5
number_of (Parity (parity.WrongParity part cost)) = 6
number_of (Receiver (receiver.NoSuchPart part)) = 7
number_of (Value value.Weight) = 8
number_of (Value value.Noise) = 8
number_of (Value value.Quotient) = 8
number_of (Timing timing.Total) = 9
number_of (Timing timing.Repeat) = 9
number_of (Timing timing.Slots) = 9

abbrev pub layer_of : Fault → Layer
layer_of (Value f) = layers.Value
layer_of (Parity f) = layers.Parity
layer_of (Placement f) = layers.Placement
layer_of (Receiver f) = layers.Receiver
layer_of (Timing f) = layers.Timing

abbrev pub detail_of : Fault → Detail
detail_of (Value (value.Length buffer)) = Number buffer
detail_of (Parity (parity.Length buffer)) = Number buffer
detail_of (Receiver (receiver.Length buffer)) = Number buffer
detail_of (Parity (parity.NotABit index)) = Number index
detail_of (Placement (placement.NoSuchBurst burst)) = Number burst
detail_of (Receiver (receiver.NoMoreRepeats burst)) = Number burst
detail_of (Receiver receiver.NothingHeard) = Number 0
detail_of (Parity (parity.WrongParity part cost)) = PartAndCost part cost
detail_of (Receiver (receiver.NoSuchPart part)) = Number part
detail_of (Value value.Weight) = Number 1
detail_of (Value value.Noise) = Number 2
detail_of (Value value.Quotient) = Number 3
detail_of (Timing timing.Total) = Number 1
detail_of (Timing timing.Repeat) = Number 2
detail_of (Timing timing.Slots) = Number 3
