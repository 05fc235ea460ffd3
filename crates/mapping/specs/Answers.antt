-- What the calls of a mapping answer, and what they leave in their buffers.
use Rattle.std.specs.Prelude.{◌≡◌, ℕ, ◌<◌, List, length, Ok, Err, Result, ◌≢◌}
use Rattle.bits.specs.declared.bad_call.BadCall.{BadCall}
use Rattle.bits.specs.Strings.{Bits}
use Rattle.mapping.specs.declared.fault.ReadFault.{ReadFault}
use Rattle.mapping.specs.declared.fault.ReadFault.TheVariants.{Call, NoSuchStep}
use Rattle.mapping.specs.Maps.{Map}

-- Stepping: from a prior symbol w bits lead to the next. Any other call is refused.
abbrev pub Steps : Map → ℕ → List ℕ → Result ℕ BadCall → Type 0
Steps m prior bits (Ok next) = (prior < m.q) × Bits m.w bits × (next ≡ m.next prior bits)
Steps m prior bits (Err e) = prior < m.q → Bits m.w bits → ⊥

-- two symbols, and places for the bits of one
pub record Readable (m : Map) (prior next : ℕ) (places : List ℕ) : Type 0 where
  pub from : prior < m.q
  pub to : next < m.q
  pub size : length places ≡ m.w

-- Reading: the places become the bits that lead from the prior symbol to the next. If none do, the answer is
-- NoSuchStep and the places stay. Any other call is refused, and the places stay.
abbrev pub Reads : Map → ℕ → ℕ → List ℕ → List ℕ → Result (Unit {0}) ReadFault → Type 0
Reads m prior next before after (Ok u) =
    Readable m prior next before × Bits m.w after × (m.next prior after ≡ next)
Reads m prior next before after (Err NoSuchStep) =
    Readable m prior next before × ((bs : List ℕ) → Bits m.w bs → m.next prior bs ≢ next) × (after ≡ before)
Reads m prior next before after (Err (Call e)) = (Readable m prior next before → ⊥) × (after ≡ before)
