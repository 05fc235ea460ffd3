-- What the calls of a carrier answer, and what they leave in their buffers.
use Rattle.std.specs.Prelude.{◌≡◌, ℕ, ◌+◌, ◌<◌, ◌≤◌, List, ◌++◌, length, drop, Ok, Err, Result}
use Rattle.std.specs.List.{AllByRecursion}
use Rattle.bits.specs.declared.bad_call.BadCall.{BadCall}
use Rattle.bits.specs.Strings.{Bit}
use Rattle.mapping.specs.Maps.{Map}
use Rattle.mode.specs.declared.fault.PartFault.{PartFault}
use Rattle.mode.specs.declared.fault.PartFault.TheVariants.{Symbol, Step, Word}
use Rattle.mode.specs.declared.fault.HearFault.{HearFault}
use Rattle.mode.specs.declared.fault.HearFault.TheVariants.{Part, Call}
use Rattle.mode.specs.Shares.{words, unsents}
use Rattle.mode.specs.Modes.{Mode, Carried, count, sent}
use Rattle.mode.specs.Parts.{First, There, Strange, Amiss, Read, Reach, Lost, copies_of, Holds}

-- How many symbols n bits take. An n that is not carried is refused.
abbrev pub Counts : Mode → ℕ → Result ℕ BadCall → Type 0
Counts m n (Ok r) = Carried n × (r ≡ count m n)
Counts m n (Err e) = Carried n → ⊥

-- bits that a mode sends after the prior symbol, and a buffer that holds their symbols
pub record Sendable (m : Mode) (prior : ℕ) (xs buffer : List ℕ) : Type 0 where
  pub carried : Carried (length xs)
  pub bits : AllByRecursion Bit xs
  pub known : prior < m.map.q
  pub room : count m (length xs) ≤ length buffer

-- Sending: the front of the buffer becomes the symbols of the bits, and the answer is their count; the rest of the
-- buffer stays. Any other call is refused, and the buffer stays.
abbrev pub Sends : Mode → ℕ → List ℕ → List ℕ → List ℕ → Result ℕ BadCall → Type 0
Sends m prior xs before after (Ok n) =
    Sendable m prior xs before × (n ≡ count m (length xs)) × (after ≡ sent m prior xs ++ drop n before)
Sends m prior xs before after (Err e) = (Sendable m prior xs before → ⊥) × (after ≡ before)

-- What cannot be read from so many symbols after index `at`: the lowest index that is amiss is told, and that the number
-- there is not below q, or else that no step leads to it.
abbrev pub Misread : Map → List ℕ → ℕ → ℕ → PartFault → Type 0
Misread f list at many (Symbol i) = First (Amiss f list at) (at + 1 + many) i × Strange f list i
Misread f list at many (Step i) = First (Amiss f list at) (at + 1 + many) i × (Strange f list i → ⊥)
Misread f list at many (Word i) = ⊥

-- Reading so many symbols after index `at` leaves their bits, or tells what cannot be read.
abbrev pub ReadsPart : Map → List ℕ → ℕ → ℕ → List ℕ → Result (Unit {0}) PartFault → Type 0
ReadsPart f list at many after (Ok u) = Read f list at many after
ReadsPart f list at many after (Err e) = Misread f list at many e

-- What is at fault in a part: what cannot be read, or else the first lost word, which is told by the lowest index with
-- a copy of one of its bits.
abbrev pub Faulty : Mode → List ℕ → ℕ → ℕ → PartFault → Type 0
Faulty m list at n (Symbol i) = Misread m.map list at (count m n) (Symbol i)
Faulty m list at n (Step i) = Misread m.map list at (count m n) (Step i)
Faulty m list at n (Word i) =
    (bs : List ℕ) × Read m.map list at (count m n) bs
    × ((j : ℕ) × First (Lost m.code m.copies (unsents m.code.k n) (copies_of m n bs)) (words m.code.k n) j
    × First (Holds m at n j) (at + 1 + count m n) i)

-- Hearing a part that is there leaves its bits, or tells what is at fault.
abbrev pub HearsPart : Mode → List ℕ → ℕ → ℕ → List ℕ → Result ℕ PartFault → Type 0
HearsPart m list at n after (Ok c) = Reach m list at n after c
HearsPart m list at n after (Err f) = Faulty m list at n f

-- Hearing as many bits as the buffer has places, after the symbol at index `at`: if the list is within reach of bits,
-- these are in the buffer, and the answer is how many of their words' bits are spoilt. If a part is faulty, the answer
-- is the fault, and the buffer stays. A call without such a part is refused, and the buffer stays.
abbrev pub Hears : Mode → List ℕ → ℕ → List ℕ → List ℕ → Result ℕ HearFault → Type 0
Hears m list at before after (Ok c) = Reach m list at (length before) after c
Hears m list at before after (Err (Part f)) =
    There m list at (length before) × Faulty m list at (length before) f × (after ≡ before)
Hears m list at before after (Err (Call e)) = (There m list at (length before) → ⊥) × (after ≡ before)
