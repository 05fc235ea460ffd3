-- Modes: how a block code, a count of copies and a mapping carry bits as symbols.
use Rattle.std.specs.Prelude.{◌≡◌, ℕ, zero, suc, ◌+◌, ◌-◌, ◌*◌, ◌/◌, ◌%◌, ◌≤◌, ◌⊎◌, List, [], ◌∷◌, ◌++◌, length, take, drop, replicate}
use Rattle.block_code.specs.Codes.{Code, word, shortened}
use Rattle.block_code.specs.Codes as codes
use Rattle.mapping.specs.Maps.{Map}
use Rattle.mapping.specs.Maps as maps
use Rattle.mode.specs.Shares.{words, unsents}
use Rattle.mode.specs.Orders.{interleaved}
use Rattle.mode.specs.Copying.{spread}

pub record Mode : Type 0 where
  pub code : Code
  pub copies : ℕ
  pub map : Map

-- what every mode keeps
pub record Lawful (m : Mode) : Type 0 where
  pub code : codes.Lawful m.code
  pub roomy : 16 ≤ m.code.k
  pub copies : (m.copies ≡ 1) ⊎ ((m.copies ≡ 2) ⊎ (m.copies ≡ 4))
  pub map : maps.Lawful m.map

-- how many bits a mode carries at a time
pub record Carried (n : ℕ) : Type 0 where
  pub low : 2 ≤ n
  pub high : n ≤ 2112

-- the words of the bits, one after the other; us are the unsent bits of each
abbrev pub coded : Code → List ℕ → List ℕ → List ℕ
coded c [] xs = []
coded c (u ∷ us) xs = word (shortened c u) (take (c.k - u) xs) ++ coded c us (drop (c.k - u) xs)

-- how many bits the words have that carry n bits
unfoldable pub plain : Mode → ℕ → ℕ
plain m n = n + words m.code.k n * m.code.p

-- how many zeros are added: as few as make the count a multiple of w
unfoldable pub pad : Mode → ℕ → ℕ
pad m n = (m.map.w - plain m n % m.map.w) % m.map.w

-- how many coded bits there are with the zeros
unfoldable pub total : Mode → ℕ → ℕ
total m n = plain m n + pad m n

-- the coded bits with the zeros
unfoldable pub padded : Mode → List ℕ → List ℕ
padded m xs = coded m.code (unsents m.code.k (length xs)) xs ++ replicate (pad m (length xs)) 0

-- the copies of the coded bits in the order in which they go out
unfoldable pub air : Mode → List ℕ → List ℕ
air m xs = interleaved m.copies (total m (length xs)) (spread m.copies (padded m xs))

-- how many symbols n bits take
unfoldable pub count : Mode → ℕ → ℕ
count m n = m.copies * total m n / m.map.w

-- n symbols from the symbol p on, each from the next w bits
abbrev pub stepped : Map → ℕ → ℕ → List ℕ → List ℕ
stepped f zero p bs = []
stepped f (suc n) p bs = f.next p (take f.w bs) ∷ stepped f n (f.next p (take f.w bs)) (drop f.w bs)

-- the symbols of the bits, from the symbol p on
unfoldable pub sent : Mode → ℕ → List ℕ → List ℕ
sent m p xs = stepped m.map (count m (length xs)) p (air m xs)
