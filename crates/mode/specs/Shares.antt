-- How the bits of a part are shared out among words, when a word of the code has room for k message bits.
use Rattle.std.specs.Prelude.{◌≡◌, ℕ, ◌+◌, ◌-◌, ◌*◌, ◌/◌, ◌%◌, ◌<◌, ◌≤◌, cond, List, map, length, Ok, Err, sum_by, Result, nat_lt}
use Rattle.std.specs.List.{range_with_len, AllByRecursion}
use Rattle.bits.specs.declared.bad_call.BadCall.{BadCall}

-- how many words n bits take: n / k, rounded up
unfoldable pub words : ℕ → ℕ → ℕ
words k n = (n + (k - 1)) / k

-- word i of c words that are z bits short in all: the first z mod c words have one unsent bit more than the others
unfoldable pub spare : ℕ → ℕ → ℕ → ℕ
spare c z i = z / c + cond (nat_lt i (z % c)) 1 0

-- how many message bits of word i are unsent
unfoldable pub unsent : ℕ → ℕ → ℕ → ℕ
unsent k n i = spare (words k n) (words k n * k - n) i

-- the unsent bits of each word, in order
unfoldable pub unsents : ℕ → ℕ → List ℕ
unsents k n = map (unsent k n) (range_with_len 0 (words k n))

-- a word of a share: k is 1 to 63, n is 1 to 65,535, and n bits take more words than its number
pub record Shared (word k n : ℕ) : Type 0 where
  pub some : 1 ≤ k
  pub narrow : k ≤ 63
  pub bits : 1 ≤ n
  pub few : n ≤ 65535
  pub there : word < words k n

-- The share of a word: its message bits and its unsent bits. Any other call is refused.
abbrev pub Shares : ℕ → ℕ → ℕ → Result (ℕ × ℕ) BadCall → Type 0
Shares word k n (Ok s) = Shared word k n × (s.0 ≡ k - unsent k n word) × (s.1 ≡ unsent k n word)
Shares word k n (Err e) = Shared word k n → ⊥

-- what the shares of all words come to
pub record SharesOut (k n : ℕ) : Type 0 where
  pub each : length (unsents k n) ≡ words k n
  pub some : AllByRecursion (λ u. u < k) (unsents k n)
  pub sum : sum_by (λ u. k - u) (unsents k n) ≡ n

-- the messages of all words are the bits that are carried, and none is empty
abbrev pub AllShared : Type 0
AllShared = (k n : ℕ) → 1 ≤ k → SharesOut k n
