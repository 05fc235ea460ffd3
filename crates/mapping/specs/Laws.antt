-- What holds of the calls of every mapping.
use Rattle.std.specs.Prelude.{◌≡◌, ℕ, ◌<◌, List, length, Ok, Err, Result, ◌≢◌}
use Rattle.bits.specs.declared.bad_call.BadCall.{BadCall}
use Rattle.bits.specs.Strings.{Bits}
use Rattle.mapping.specs.declared.fault.ReadFault.{ReadFault}
use Rattle.mapping.specs.declared.fault.ReadFault.TheVariants.{Call, NoSuchStep}
use Rattle.mapping.specs.Maps.{Map, Lawful}
use Rattle.mapping.specs.Answers.{Steps, Reads}

-- stepping has an answer to every call
abbrev pub AlwaysSteps : Map → Type 0
AlwaysSteps m = (prior : ℕ) (bits : List ℕ) → (r : Result ℕ BadCall) × Steps m prior bits r

-- and only one
abbrev pub StepsOnce : Map → Type 0
StepsOnce m =
    (prior : ℕ) (bits : List ℕ) (r s : Result ℕ BadCall) → Steps m prior bits r → Steps m prior bits s → r ≡ s

-- reading has an answer to every call
abbrev pub AlwaysReads : Map → Type 0
AlwaysReads m =
    (prior next : ℕ) (before : List ℕ)
    → (after : List ℕ) × (r : Result (Unit {0}) ReadFault) × Reads m prior next before after r

-- and only one, with one thing that it leaves in the places
abbrev pub ReadsOnce : Map → Type 0
ReadsOnce m =
    (prior next : ℕ) (before after other : List ℕ) (r s : Result (Unit {0}) ReadFault)
    → Reads m prior next before after r → Reads m prior next before other s → (r ≡ s) × (after ≡ other)

-- a step, read into places for the bits of a symbol, gives the bits that it was made with
abbrev pub ReadsSteps : Map → Type 0
ReadsSteps m =
    (prior next : ℕ) (bits before after : List ℕ) (r : Result (Unit {0}) ReadFault)
    → Steps m prior bits (Ok next) → length before ≡ m.w → Reads m prior next before after r
    → (r ≡ Ok tt) × (after ≡ bits)

-- stepping and reading are functions of what they are called with, and reading undoes stepping
pub record Defined (m : Map) : Type 0 where
  pub always_steps : AlwaysSteps m
  pub steps_once : StepsOnce m
  pub always_reads : AlwaysReads m
  pub reads_once : ReadsOnce m
  pub reads_steps : ReadsSteps m

abbrev pub LawfulIsDefined : Type 0
LawfulIsDefined = (m : Map) → Lawful m → Defined m

-- Stepping with bits and reading the step into places for the bits of a symbol: the places become the bits. Any other
-- call is refused, and the places stay. The step is always there to be read.
abbrev pub ReadsBack : Map → ℕ → List ℕ → List ℕ → List ℕ → Result (Unit {0}) ReadFault → Type 0
ReadsBack m prior bits before after (Ok u) =
    (prior < m.q) × Bits m.w bits × (length before ≡ m.w) × (after ≡ bits)
ReadsBack m prior bits before after (Err NoSuchStep) = ⊥
ReadsBack m prior bits before after (Err (Call e)) =
    (prior < m.q → Bits m.w bits → length before ≢ m.w) × (after ≡ before)
