-- The number, layer and place by which each fault of a header is told.
use Rattle.std.specs.Prelude.{ℕ}
use Rattle.frame.specs.declared.fault.FormFault.{FormFault}
use Rattle.frame.specs.declared.fault.FormFault.TheVariants.{Check, Reserved, Rate}
use Rattle.frame.specs.declared.fault.ReadHeaderFault.{ReadHeaderFault}
use Rattle.frame.specs.declared.fault.ReadHeaderFault.TheVariants.{Call, Form}

abbrev pub form_number : FormFault → ℕ
form_number Check = 12
form_number (Reserved p) = 13
form_number (Rate r) = 14

-- layer 2 is the header
abbrev pub form_layer : FormFault → ℕ
form_layer Check = 2
form_layer (Reserved p) = 2
form_layer (Rate r) = 2

-- the lowest reserved bit that is set, the rate that was read
abbrev pub form_place : FormFault → ℕ
form_place Check = 0
form_place (Reserved p) = p
form_place (Rate r) = r

abbrev pub read_number : ReadHeaderFault → ℕ
read_number (Call e) = 16
read_number (Form f) = form_number f

-- layer 1 is the call itself
abbrev pub read_layer : ReadHeaderFault → ℕ
read_layer (Call e) = 1
read_layer (Form f) = form_layer f

abbrev pub read_place : ReadHeaderFault → ℕ
read_place (Call e) = 0
read_place (Form f) = form_place f
