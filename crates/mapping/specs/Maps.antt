-- Mappings of bits to symbols.
use Rattle.std.specs.Prelude.{◌≡◌, ℕ, ◌<◌, ◌≤◌, List}
use Rattle.bits.specs.Strings.{Bits}

-- A mapping: w bits to a symbol, q symbol numbers, and the symbol to which w bits lead from the prior one.
pub record Map : Type 0 where
  pub w : ℕ
  pub q : ℕ
  pub next : ℕ → List ℕ → ℕ

-- what every mapping keeps
pub record Lawful (m : Map) : Type 0 where
  pub some : 1 ≤ m.w
  pub narrow : m.w ≤ 3
  pub several : 2 ≤ m.q
  pub bytes : m.q ≤ 256
  pub below : (s : ℕ) (bs : List ℕ) → s < m.q → Bits m.w bs → m.next s bs < m.q
  pub apart : (s : ℕ) (bs cs : List ℕ) → s < m.q → Bits m.w bs → Bits m.w cs → m.next s bs ≡ m.next s cs → bs ≡ cs
