-- What hearing leaves of one word, and of all words of a part.
use Rattle.std.specs.Prelude.{◌≡◌, ℕ, ◌+◌, ◌-◌, ◌*◌, ◌/◌, ◌<◌, ◌≤◌, List, length, take, drop, Some, None, Ok, Err, Option, Result}
use Rattle.bits.specs.Strings.{Bits}
use Rattle.block_code.specs.Codes.{Code, word}
use Rattle.mapping.specs.Maps.{Map}
use Rattle.mode.specs.declared.fault.PartFault.{PartFault}
use Rattle.mode.specs.declared.air_bit.AirBit.{AirBit}
use Rattle.mode.specs.declared.decoder.LostWord.{LostWord}
use Rattle.mode.specs.Shares.{words, unsent, unsents}
use Rattle.mode.specs.Copying.{spoilt}
use Rattle.mode.specs.Orders.{deinterleaved}
use Rattle.mode.specs.Heard.{labelled, bits_of, Lowest}
use Rattle.mode.specs.Parts.{First, Read, Within, spoilt_all, Lost, sized}
use Rattle.mode.specs.Answers.{Misread}

-- the word of the message x has n spoilt bits, at most t, where s copies of each bit were heard as es
pub record NearWord (c : Code) (s : ℕ) (es x : List ℕ) (n : ℕ) : Type 0 where
  pub valid : Bits c.k x
  pub count : spoilt s (word c x) es ≡ n
  pub within : n ≤ c.t

-- every word has more than t spoilt bits
abbrev pub FarWord : Code → ℕ → List ℕ → Type 0
FarWord c s es = (x : List ℕ) → Bits c.k x → c.t < spoilt s (word c x) es

-- the message of a word that is near, and how many of its bits are spoilt; or none is near
abbrev pub HearsMessage : Code → ℕ → List ℕ → List ℕ → Option ℕ → Type 0
HearsMessage c s es after (Some n) = NearWord c s es after n
HearsMessage c s es after None = FarWord c s es

-- the same, with the whole word
abbrev pub HearsWord : Code → ℕ → List ℕ → List ℕ → Option ℕ → Type 0
HearsWord c s es after (Some n) = (x : List ℕ) × NearWord c s es x n × (after ≡ word c x)
HearsWord c s es after None = FarWord c s es

-- the bits that all words carry, and how many bits of the words are spoilt; or the lowest symbol with a copy of the
-- first lost word
abbrev pub HearsWords : Code → ℕ → List AirBit → ℕ → List ℕ → Result ℕ LostWord → Type 0
HearsWords c s hs n after (Ok r) =
    Bits n after × Within c s (unsents c.k n) after (bits_of hs) × (spoilt_all c s (unsents c.k n) after (bits_of hs) ≡ r)
HearsWords c s hs n after (Err w) =
    (j : ℕ) × First (Lost c s (unsents c.k n) (bits_of hs)) (words c.k n) j
    × Lowest (take (s * (c.k - unsent c.k n j + c.p)) (drop (s * sized c (take j (unsents c.k n))) hs)) w.symbol

-- the copies of the bits that so many symbols after index `at` carry, or what cannot be read
abbrev pub HearsCopies : Map → ℕ → List ℕ → ℕ → ℕ → List AirBit → Result (Unit {0}) PartFault → Type 0
HearsCopies f s list at many after (Ok u) =
    (bs : List ℕ) × Read f list at many bs × (after ≡ deinterleaved s (length bs / s) (labelled f.w 0 bs))
HearsCopies f s list at many after (Err e) = Misread f list at many e
