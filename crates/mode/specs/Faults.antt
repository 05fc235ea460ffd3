-- The number and the place by which a fault of a part is told.
use Rattle.std.specs.Prelude.{ℕ}
use Rattle.bits.specs.Refusals as refusals
use Rattle.mode.specs.declared.fault.PartFault.{PartFault}
use Rattle.mode.specs.declared.fault.PartFault.TheVariants.{Symbol, Step, Word}
use Rattle.mode.specs.declared.fault.HearFault.{HearFault}
use Rattle.mode.specs.declared.fault.HearFault.TheVariants.{Part, Call}

abbrev pub number : PartFault → ℕ
number (Symbol i) = 9
number (Step i) = 10
number (Word i) = 11

-- a place is an index of the list that was heard
abbrev pub place : PartFault → ℕ
place (Symbol i) = i
place (Step i) = i
place (Word i) = i

abbrev pub hear_number : HearFault → ℕ
hear_number (Part f) = number f
hear_number (Call e) = refusals.number e

abbrev pub hear_place : HearFault → ℕ
hear_place (Part f) = place f
hear_place (Call e) = refusals.place e
