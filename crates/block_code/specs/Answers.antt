-- What the calls of a block code answer, and what they leave in their buffers.
use Rattle.std.specs.Prelude.{◌≡◌, ℕ, ◌+◌, ◌<◌, ◌≤◌, List, length, Ok, Err, Result, ◌≢◌}
use Rattle.bits.specs.declared.bad_call.BadCall.{BadCall}
use Rattle.bits.specs.Strings.{Bits}
use Rattle.block_code.specs.declared.fault.CorrectFault.{CorrectFault}
use Rattle.block_code.specs.declared.fault.CorrectFault.TheVariants.{Call, NoWordNear}
use Rattle.block_code.specs.Codes.{Code, word, distance}

-- Encoding: for k message bits and p places the places become the parity of the message. Any other call is refused
-- and writes nothing.
abbrev pub Encodes : Code → List ℕ → List ℕ → List ℕ → Result (Unit {0}) BadCall → Type 0
Encodes c message before after (Ok u) =
    Bits c.k message × (length before ≡ c.p) × (after ≡ c.parity message)
Encodes c message before after (Err e) =
    (Bits c.k message → length before ≢ c.p) × (after ≡ before)

-- the bits became the word of a message, from which they differed in n places, at most t
pub record Corrected (c : Code) (before after : List ℕ) (n : ℕ) : Type 0 where
  pub message : List ℕ
  pub valid : Bits c.k message
  pub is : after ≡ word c message
  pub count : distance (word c message) before ≡ n
  pub within : n ≤ c.t

-- every word differs from the bits in more than t places
abbrev pub Far : Code → List ℕ → Type 0
Far c before = (m : List ℕ) → Bits c.k m → c.t < distance (word c m) before

-- Correcting k + p bits: if a word is within t places of them, they become that word, and the answer is the number of
-- those places. If none is, the answer is NoWordNear and the bits stay. Any other call is refused, and the bits stay.
abbrev pub Corrects : Code → List ℕ → List ℕ → Result ℕ CorrectFault → Type 0
Corrects c before after (Ok n) = Bits (c.k + c.p) before × Corrected c before after n
Corrects c before after (Err NoWordNear) = Bits (c.k + c.p) before × Far c before × (after ≡ before)
Corrects c before after (Err (Call e)) = (Bits (c.k + c.p) before → ⊥) × (after ≡ before)
