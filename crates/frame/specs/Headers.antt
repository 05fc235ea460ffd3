-- What a header says, header forms, and what the bits of a header are read as.
use Rattle.std.specs.Prelude.{◌≡◌, ℕ, ◌+◌, ◌<◌, ◌≤◌, Bool, true, false, List, ◌++◌, get_or, take, drop, Ok, Err, Result, slice_index, slice_index_or}
use Rattle.std.specs.List.{ContainsAt as Has, AllByRecursion}
use Rattle.bits.specs.Strings.{Bits}
use Rattle.frame.specs.declared.fault.FormFault.{FormFault}
use Rattle.frame.specs.declared.fault.FormFault.TheVariants.{Check, Reserved, Rate}

-- what a header says: the rate of the PSDU, its bytes, the burst mark and the scrambler's seed
pub record Fields : Type 0 where
  pub rate : ℕ
  pub bytes : ℕ
  pub burst : ℕ
  pub seed : ℕ

-- A header form: a body that says the fields, and then the check bits of that body.
pub record Form : Type 0 where
  -- the number of bits in a body, and of check bits
  pub body : ℕ
  pub checks : ℕ
  -- how many seeds a body can say
  pub seeds : ℕ
  -- the body of given fields
  pub said : Fields → List ℕ
  -- the check bits of a body
  pub check : List ℕ → List ℕ
  -- the places of a body that hold zeros
  pub reserved : List ℕ
  -- the fields that the bits of a header say
  pub fields : List ℕ → Fields

-- the number of bits in a header
abbrev pub count : Form → ℕ
count f = f.body + f.checks

-- the header of given fields
abbrev pub header : Form → Fields → List ℕ
header f x = f.said x ++ f.check (f.said x)

-- each field is in its range
pub record InRange (f : Form) (x : Fields) : Type 0 where
  pub rate : x.rate ≤ 3
  pub low : 9 ≤ x.bytes
  pub high : x.bytes ≤ 264
  pub burst : x.burst ≤ 1
  pub seed : x.seed < f.seeds

-- the check bits are those of the body
abbrev pub Checked : Form → List ℕ → Type 0
Checked f bits = drop f.body bits ≡ f.check (take f.body bits)

-- the reserved places hold zeros
abbrev pub Clear : Form → List ℕ → Type 0
Clear f bits = AllByRecursion (λ p. slice_index bits p ≡ 0) f.reserved

-- p is the lowest reserved place that holds a one
pub record LowestSet (f : Form) (bits : List ℕ) (p : ℕ) : Type 0 where
  pub reserved : Has f.reserved p
  pub set : get_or bits p 0 ≡ 1
  pub lowest : AllByRecursion (λ q. slice_index bits q ≡ 1 → p ≤ q) f.reserved

-- the plan carries rate r: there are rates 0 to 3, and the plan's entry for r is true
abbrev pub Carried : List Bool → ℕ → Type 0
Carried legal r = (r ≤ 3) × (slice_index_or legal r false ≡ true)

-- What the bits of a header are read as. The check comes first, then the reserved places, then the rate.
abbrev pub Read : Form → List Bool → List ℕ → Result Fields FormFault → Type 0
Read f legal bits (Ok x) = Checked f bits × Clear f bits × Carried legal (f.fields bits).rate × (x ≡ f.fields bits)
Read f legal bits (Err Check) = Checked f bits → ⊥
Read f legal bits (Err (Reserved p)) = Checked f bits × LowestSet f bits p
Read f legal bits (Err (Rate r)) = Checked f bits × Clear f bits × (Carried legal r → ⊥) × (r ≡ (f.fields bits).rate)

-- what every header form keeps
pub record Lawful (f : Form) : Type 0 where
  -- a header is as many bits as the form has
  pub sized : (x : Fields) → InRange f x → Bits (count f) (header f x)
  -- reading what was written gives the fields
  pub read_back : (legal : List Bool) (x : Fields) → InRange f x → Carried legal x.rate → Read f legal (header f x) (Ok x)
  -- what is read without a fault is in range and, written again, gives the same bits
  pub written_back : (legal : List Bool) (bits : List ℕ) (x : Fields) → Bits (count f) bits → Read f legal bits (Ok x) → InRange f x × (header f x ≡ bits)
