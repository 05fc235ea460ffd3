-- The number, layer and place by which each refusal is told. Layer 1 is the call itself, 2 the header, 3 the payload.
use Rattle.std.specs.Prelude.{ℕ}
use Rattle.frame.specs.Refusals.{form_number, form_place}
use Rattle.mode.specs.Faults as parts
use Rattle.delivery.specs.declared.fault.Fault.{Fault}
use Rattle.delivery.specs.declared.fault.Fault.TheVariants.{Band, Channel, Burst, Rate, Psdu, Buffer, Output, List, Header, Payload}
use Rattle.delivery.specs.declared.fault.HeaderFault.TheVariants.{Part as HeaderPart, Form}
use Rattle.delivery.specs.declared.fault.PayloadFault.TheVariants.{Length, Part as PayloadPart}

abbrev pub number : Fault → ℕ
number Band = 1
number Channel = 2
number Burst = 3
number Rate = 4
number Psdu = 5
number (Buffer n) = 6
number Output = 7
number (List n) = 8
number (Header (HeaderPart f)) = parts.number f
number (Header (Form f)) = form_number f
number (Payload (Length n)) = 15
number (Payload (PayloadPart f)) = parts.number f

abbrev pub layer : Fault → ℕ
layer Band = 1
layer Channel = 1
layer Burst = 1
layer Rate = 1
layer Psdu = 1
layer (Buffer n) = 1
layer Output = 1
layer (List n) = 1
layer (Header f) = 2
layer (Payload f) = 3

abbrev pub place : Fault → ℕ
place Band = 0
place Channel = 0
place Burst = 0
place Rate = 0
place Psdu = 0
place (Buffer n) = n
place Output = 264
place (List n) = n
place (Header (HeaderPart f)) = parts.place f
place (Header (Form f)) = form_place f
place (Payload (Length n)) = n
place (Payload (PayloadPart f)) = parts.place f
