-- A part of a heard list: the symbol at index `at`, and after it the symbols of n bits.
use Rattle.std.specs.Prelude.{◌≡◌, ℕ, zero, suc, ◌+◌, ◌-◌, ◌*◌, ◌/◌, ◌<◌, ◌≤◌, ◌⊎◌, List, [], ◌∷◌, length, take, drop, ◌≢◌, slice_index}
use Rattle.bits.specs.Strings.{Bits}
use Rattle.block_code.specs.Codes.{Code, word, shortened}
use Rattle.mapping.specs.Maps.{Map}
use Rattle.mode.specs.Shares.{unsents}
use Rattle.mode.specs.Orders.{forth, deinterleaved}
use Rattle.mode.specs.Copying.{spoilt}
use Rattle.mode.specs.Modes.{Mode, Carried, total, count, stepped}

-- i is the least number below n that has P
pub record First (P : ℕ → Type 0) (n i : ℕ) : Type 0 where
  pub below : i < n
  pub has : P i
  pub least : (j : ℕ) → j < i → P j → ⊥

-- the list holds the part
pub record There (m : Mode) (list : List ℕ) (at n : ℕ) : Type 0 where
  pub carried : Carried n
  pub long : at + 1 + count m n ≤ length list

-- the part's symbols, after the one at index `at`
abbrev pub part : Mode → List ℕ → ℕ → ℕ → List ℕ
part m list at n = take (count m n) (drop (at + 1) list)

-- index i of the list holds a number that is not below q
abbrev pub Strange : Map → List ℕ → ℕ → Type 0
Strange f list i = f.q ≤ slice_index list i

-- no bits lead from the symbol p to the symbol s
abbrev pub Unread : Map → ℕ → ℕ → Type 0
Unread f p s = (bs : List ℕ) → Bits f.w bs → f.next p bs ≢ s

-- index i of the list, which is `at` or after it, holds no symbol, or one to which no step leads from the one before it
abbrev pub Amiss : Map → List ℕ → ℕ → ℕ → Type 0
Amiss f list at i =
    (at ≤ i) × (Strange f list i ⊎ ((at < i) × Unread f (slice_index list (i - 1)) (slice_index list i)))

-- the bits bs are read from so many symbols after index `at`: these are below q, and the bits lead through them
pub record Read (f : Map) (list : List ℕ) (at many : ℕ) (bs : List ℕ) : Type 0 where
  pub bits : Bits (many * f.w) bs
  pub known : (i : ℕ) → at ≤ i → i ≤ at + many → slice_index list i < f.q
  pub leads : stepped f many (slice_index list at) bs ≡ take many (drop (at + 1) list)

-- the copies of the coded bits, as many for each bit after the other, in a part from which the bits bs were read
abbrev pub copies_of : Mode → ℕ → List ℕ → List ℕ
copies_of m n bs = deinterleaved m.copies (total m n) bs

-- each word of the bits xs has at most t spoilt bits, where s copies of each coded bit were heard as es
abbrev pub Within : Code → ℕ → List ℕ → List ℕ → List ℕ → Type 0
Within c s [] xs es = Unit {0}
Within c s (u ∷ us) xs es =
    (spoilt s (word (shortened c u) (take (c.k - u) xs)) es ≤ c.t)
    × Within c s us (drop (c.k - u) xs) (drop (s * (c.k - u + c.p)) es)

-- how many bits of all the words are spoilt
abbrev pub spoilt_all : Code → ℕ → List ℕ → List ℕ → List ℕ → ℕ
spoilt_all c s [] xs es = 0
spoilt_all c s (u ∷ us) xs es =
    spoilt s (word (shortened c u) (take (c.k - u) xs)) es
    + spoilt_all c s us (drop (c.k - u) xs) (drop (s * (c.k - u + c.p)) es)

-- The part is within reach of the n bits xs, and c bits of their words are spoilt in it: it is there, its symbols are
-- below q, its steps can be read, and each word has at most t spoilt bits.
pub record Reach (m : Mode) (list : List ℕ) (at n : ℕ) (xs : List ℕ) (c : ℕ) : Type 0 where
  pub there : There m list at n
  pub valid : Bits n xs
  pub bits : List ℕ
  pub read : Read m.map list at (count m n) bits
  pub within : Within m.code m.copies (unsents m.code.k n) xs (copies_of m n bits)
  pub counts : spoilt_all m.code m.copies (unsents m.code.k n) xs (copies_of m n bits) ≡ c

-- word j has more than t spoilt bits whatever its message is
abbrev pub Lost : Code → ℕ → List ℕ → List ℕ → ℕ → Type 0
Lost c s [] es j = ⊥
Lost c s (u ∷ us) es zero =
    (x : List ℕ) → Bits (c.k - u) x → c.t < spoilt s (word (shortened c u) x) es
Lost c s (u ∷ us) es (suc j) = Lost c s us (drop (s * (c.k - u + c.p)) es) j

-- how many coded bits the words have; us are the unsent bits of each
abbrev pub sized : Code → List ℕ → ℕ
sized c [] = 0
sized c (u ∷ us) = (c.k - u + c.p) + sized c us

-- the coded bit with which word j begins
abbrev pub start : Mode → ℕ → ℕ → ℕ
start m n j = sized m.code (take j (unsents m.code.k n))

-- place x of the part's bits holds a copy of this coded bit
abbrev pub bit_at : Mode → ℕ → ℕ → ℕ
bit_at m n x = forth m.copies (total m n) x / m.copies

-- index i of the list carries a copy of a bit of word j
pub record Holds (m : Mode) (at n j i : ℕ) : Type 0 where
  pub copy : ℕ
  pub there : copy < m.copies * total m n
  pub index : i ≡ at + 1 + copy / m.map.w
  pub low : start m n j ≤ bit_at m n copy
  pub high : bit_at m n copy < start m n (j + 1)
