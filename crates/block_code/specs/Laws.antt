-- What is proved of every block code.
use Rattle.std.specs.Prelude.{◌≡◌, ℕ, ◌+◌, ◌≤◌, List, Ok, Err, Result}
use Rattle.bits.specs.Strings.{Bits}
use Rattle.block_code.specs.declared.fault.CorrectFault.{CorrectFault}
use Rattle.block_code.specs.declared.fault.CorrectFault.TheVariants.{NoWordNear}
use Rattle.block_code.specs.Codes.{Code, word, distance}
use Rattle.block_code.specs.Answers.{Far, Corrects}

-- a correction of these bits may answer r and leave these
abbrev pub OneCorrection : Code → Type 0
OneCorrection c =
    (before after other : List ℕ) (r s : Result ℕ CorrectFault)
    → Corrects c before after r → Corrects c before other s → (after ≡ other) × (r ≡ s)

-- every correction has an answer
abbrev pub SomeCorrection : Code → Type 0
SomeCorrection c = (before : List ℕ) → (after : List ℕ) × (r : Result ℕ CorrectFault) × Corrects c before after r

-- the bits that are within t places of a word become it, with the number of those places; those that are not stay
pub record Near (c : Code) : Type 0 where
  pub near : (before after : List ℕ) (r : Result ℕ CorrectFault) → Corrects c before after r → Bits (c.k + c.p) before
      → (m : List ℕ) → Bits c.k m → distance (word c m) before ≤ c.t
      → (after ≡ word c m) × (r ≡ Ok (distance (word c m) before))
  pub far : (before after : List ℕ) (r : Result ℕ CorrectFault) → Corrects c before after r → Bits (c.k + c.p) before
      → Far c before → (after ≡ before) × (r ≡ Err NoWordNear)
