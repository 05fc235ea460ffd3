-- Block codes over bits.
use Rattle.std.specs.Prelude.{◌≡◌, ℕ, ◌+◌, ◌-◌, ◌*◌, ◌≤◌, cond, List, [], ◌∷◌, ◌++◌, replicate, ◌==◌, ◌≢◌}
use Rattle.bits.specs.Strings.{Bits}

-- A block code: k message bits, p parity bits, a reach t (so many wrong bits of a word are corrected), and the rule
-- that gives the parity of a message.
pub record Code : Type 0 where
  pub k : ℕ
  pub p : ℕ
  pub t : ℕ
  pub parity : List ℕ → List ℕ

-- a word is a message followed by its parity
abbrev pub word : Code → List ℕ → List ℕ
word c m = m ++ c.parity m

-- in how many places two strings of one length differ
abbrev pub distance : List ℕ → List ℕ → ℕ
distance [] ys = 0
distance (x ∷ xs) [] = 0
distance (x ∷ xs) (y ∷ ys) = cond (x == y) 0 1 + distance xs ys

-- the words of two different messages differ in at least d places
abbrev pub Apart : Code → ℕ → Type 0
Apart c d = (m n : List ℕ) → Bits c.k m → Bits c.k n → (m ≢ n) → d ≤ distance (word c m) (word c n)

-- d is the smallest distance of two words
pub record MinimumDistance (c : Code) (d : ℕ) : Type 0 where
  pub apart : Apart c d
  pub one : List ℕ
  pub other : List ℕ
  pub valid : Bits c.k one × Bits c.k other
  pub differ : one ≡ other → ⊥
  pub so_near : distance (word c one) (word c other) ≡ d

-- what every block code keeps
pub record Lawful (c : Code) : Type 0 where
  pub some : 1 ≤ c.k
  pub few : c.p ≤ 47
  pub short : c.k + c.p ≤ 63
  pub checks : (m : List ℕ) → Bits c.k m → Bits c.p (c.parity m)
  pub apart : Apart c (2 * c.t + 1)

-- the code whose messages begin with s zeros that are never sent
abbrev pub shortened : Code → ℕ → Code
shortened c s =
    record { k = c.k - s; p = c.p; t = c.t; parity = λ m. c.parity (replicate s 0 ++ m) }
