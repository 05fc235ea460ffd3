-- What holds of every lawful mode.
use Rattle.std.specs.Prelude.{◌≡◌, ℕ, ◌<◌, List, length, Ok, Err, Result, slice_index}
use Rattle.bits.specs.Strings.{Bits}
use Rattle.mode.specs.declared.fault.PartFault.{PartFault}
use Rattle.mode.specs.declared.fault.HearFault.{HearFault}
use Rattle.mode.specs.declared.fault.HearFault.TheVariants.{Part}
use Rattle.mode.specs.Modes.{Mode, Lawful, sent}
use Rattle.mode.specs.Parts.{There, part, Reach}
use Rattle.mode.specs.Answers.{Hears}

-- a part that holds what was sent is within reach of the bits that were sent, and no bit is spoilt
abbrev pub SentReaches : Type 0
SentReaches =
    (m : Mode) → Lawful m → (list : List ℕ) (at n : ℕ) (xs : List ℕ) → There m list at n → Bits n xs
    → slice_index list at < m.map.q → part m list at n ≡ sent m (slice_index list at) xs → Reach m list at n xs 0

-- a part is within reach of one list of bits at most, and with one count
abbrev pub OneReach : Type 0
OneReach =
    (m : Mode) → Lawful m → (list : List ℕ) (at n : ℕ) (xs ys : List ℕ) (b c : ℕ) → Reach m list at n xs b
    → Reach m list at n ys c → (xs ≡ ys) × (b ≡ c)

-- every call of hearing has an answer
abbrev pub HearsTotal : Type 0
HearsTotal =
    (m : Mode) → Lawful m → (list : List ℕ) (at : ℕ) (before : List ℕ)
    → (after : List ℕ) × (r : Result ℕ HearFault) × Hears m list at before after r

-- and one alone
abbrev pub HearsOne : Type 0
HearsOne =
    (m : Mode) → Lawful m → (list : List ℕ) (at : ℕ) (before us vs : List ℕ) (r s : Result ℕ HearFault)
    → Hears m list at before us r → Hears m list at before vs s → (us ≡ vs) × (r ≡ s)

-- a part within reach of bits is heard as these bits, with its true count
abbrev pub ReachHeard : Type 0
ReachHeard =
    (m : Mode) → Lawful m → (list : List ℕ) (at : ℕ) (before after xs : List ℕ) (c : ℕ) (r : Result ℕ HearFault)
    → Reach m list at (length before) xs c → Hears m list at before after r → (after ≡ xs) × (r ≡ Ok c)

-- a part that is there is refused exactly when it is within reach of no bits
pub record RefusedExactly : Type 0 where
  pub refused :
      (m : Mode) → Lawful m → (list : List ℕ) (at : ℕ) (before after : List ℕ) (r : Result ℕ HearFault)
      → There m list at (length before) → Hears m list at before after r
      → ((xs : List ℕ) (c : ℕ) → Reach m list at (length before) xs c → ⊥) → (f : PartFault) × (r ≡ Err (Part f))
  pub only :
      (m : Mode) → Lawful m → (list : List ℕ) (at : ℕ) (before after xs : List ℕ) (c : ℕ) (f : PartFault)
      → Hears m list at before after (Err (Part f)) → Reach m list at (length before) xs c → ⊥
