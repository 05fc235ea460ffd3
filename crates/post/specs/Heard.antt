-- What the parts of a heard list are read as.
use Rattle.std.specs.Prelude.{◌≡◌, ℕ, ◌*◌, List, length, Ok, Err, Result}
use Rattle.std.specs.List.{AllByRecursion}
use Rattle.frame.specs.declared.fault.ReadHeaderFault.{ReadHeaderFault}
use Rattle.frame.specs.declared.fault.ReadHeaderFault.TheVariants.{Call as BadRead, Form as Unformed}
use Rattle.frame.specs.declared.header.Header.{Header}
use Rattle.frame.specs.Numbers.{Byte}
use Rattle.frame.specs.Headers.{Form, Read}
use Rattle.frame.specs.Headers as forms
use Rattle.frame.specs.Answers.{fields_of}
use Rattle.frame.specs.Scrambler.{scrambled}
use Rattle.mode.specs.declared.fault.HearFault.{HearFault}
use Rattle.mode.specs.declared.fault.HearFault.TheVariants.{Part, Call}
use Rattle.mode.specs.Modes.{Mode}
use Rattle.mode.specs.Parts.{Reach}
use Rattle.mode.specs.Answers.{Faulty}
use Rattle.delivery.specs.declared.fault.HeaderFault.{HeaderFault}
use Rattle.delivery.specs.declared.fault.PayloadFault.{PayloadFault}
use Rattle.delivery.specs.declared.fault.PayloadFault.TheVariants.{Length, Part as PayloadPart}
use Rattle.delivery.specs.Plans.{Plan, legal}
use Rattle.delivery.specs.Calls.{HeaderFaulty}

-- the call was not a bad one
abbrev pub NoCall : HearFault → Type 0
NoCall (Part f) = Unit {0}
NoCall (Call e) = ⊥

abbrev pub NoBadRead : ReadHeaderFault → Type 0
NoBadRead (Unformed f) = Unit {0}
NoBadRead (BadRead e) = ⊥

-- what the header of a list is read as, with its count of spoilt bits, or the fault
abbrev pub HeaderReads : Plan → List ℕ → Result (Header × ℕ) HeaderFault → Type 0
HeaderReads P list (Ok hk) =
    (bits : List ℕ) × Reach P.header list 0 (forms.count P.form) bits hk.1 × Read P.form (legal P) bits (Ok (fields_of hk.0))
HeaderReads P list (Err e) = HeaderFaulty P list e

-- what the payload of a list is read as: the bytes, and the count of spoilt bits, or the fault
abbrev pub PayloadReads : Mode → ℕ → List ℕ → ℕ → List ℕ → List ℕ → Result ℕ PayloadFault → Type 0
PayloadReads m seed list at before after (Ok k) =
    (length after ≡ length before) × AllByRecursion Byte after × Reach m list at (8 * length before) (scrambled seed after) k
PayloadReads m seed list at before after (Err (PayloadPart e)) = Faulty m list at (8 * length before) e × (after ≡ before)
PayloadReads m seed list at before after (Err (Length n)) = ⊥
