-- Strings of bits and their parts.
use Rattle.std.proofs.Common.{◌≡◌, ℕ, ◌+◌, ◌-◌, ◌*◌, ◌<◌, ◌≤◌, ◌⊎◌, List, [], ◌∷◌, ◌++◌, length, take, drop, refl, inl, inr, mul-le-mul_left, arith}
use Rattle.std.specs.List.{AllByRecursion}
use Rattle.std.proofs.lemmas.List.{length-take, length-take-le, length-drop, length-append}
use Rattle.std.proofs.ByRecursion.{All-take, All-drop, All-append}
use Rattle.std.proofs.lemmas.Bool.{cases_eq, cases_lt}
use Rattle.bits.specs.Strings.{Bit, Bits}

pub take_bits : (w n : ℕ) (bs : List ℕ) → Bits (w + n) bs → Bits w (take w bs)
take_bits w n bs b = let l = b.size in record { size = length-take-le w bs (omega arith); bits = All-take Bit w bs b.bits }

pub drop_bits : (w n : ℕ) (bs : List ℕ) → Bits (w + n) bs → Bits n (drop w bs)
drop_bits w n bs b = let l = b.size in record { size = simp length-drop (omega arith); bits = All-drop Bit w bs b.bits }

pub bits_at : (m n : ℕ) (bs : List ℕ) → m ≡ n → Bits m bs → Bits n bs
bits_at m n bs e b = rw e at b

pub append_bits : (i j : ℕ) (xs ys : List ℕ) → Bits i xs → Bits j ys → Bits (i + j) (xs ++ ys)
append_bits i j xs ys a b =
    let l = a.size in
    let k = b.size in
    record { size = simp length-append (omega arith); bits = All-append Bit xs ys a.bits b.bits }

-- the part `&s[a..a + y]` as the checker reads it
pub length_part : {A : Type 0} (a y : ℕ) (xs : List A) → a + y ≤ length xs → length (take (a + y - a) (drop a xs)) ≡ y
length_part a y xs l = simp (length-take, length-drop) (omega arith)

pub part_bits : (a y m : ℕ) (xs : List ℕ) → a + y ≤ length xs → y ≡ m → AllByRecursion Bit xs → Bits m (take (a + y - a) (drop a xs))
part_bits a y m xs l e b =
    bits_at y m _ e (record { size = length_part a y xs l; bits = All-take Bit (a + y - a) (drop a xs) (All-drop Bit a xs b) })

-- row i of n rows of s places is there
pub row_there : (s n i e : ℕ) → e ≡ s * n → i < n → s * i + s ≤ e
row_there s n i e h l = omega (arith, mul-le-mul_left s l)

-- two lists of numbers are equal or not
pub cases_list : (xs ys : List ℕ) → (xs ≡ ys) ⊎ (xs ≡ ys → ⊥)
cases_list [] [] = inl refl
cases_list [] (y ∷ ys) = inr (λ e. let z : ◌≡◌ {A = ℕ} 0 1 = cc in omega arith)
cases_list (x ∷ xs) [] = inr (λ e. let z : ◌≡◌ {A = ℕ} 0 1 = cc in omega arith)
cases_list (x ∷ xs) (y ∷ ys) = go (cases_eq x y) (cases_list xs ys)
  where
    go : (x ≡ y) ⊎ (x ≡ y → ⊥) → (xs ≡ ys) ⊎ (xs ≡ ys → ⊥) → ((x ∷ xs) ≡ (y ∷ ys)) ⊎ ((x ∷ xs) ≡ (y ∷ ys) → ⊥)
    go (inl e) (inl f) = inl (cc)
    go (inl e) (inr n) = inr (λ q. n (cc))
    go (inr n) f = inr (λ q. n (cc))

abbrev pub Either : Type 0 → Type 0
Either A = A ⊎ (A → ⊥)

pub decide_le : (a b : ℕ) → Either (a ≤ b)
decide_le a b = elim (cases_lt b a) [ inl l ↦ inr (λ h. omega arith) | inr l ↦ inl l ]
