-- How much room a part takes at most.
use Rattle.std.proofs.Common.{◌≡◌, ℕ, ◌+◌, ◌-◌, ◌*◌, ◌%◌, ◌<◌, ◌≤◌, List, ◌++◌, length, take, drop, replicate, refl, ap, ◌∙◌, inl, inr, mul-le-mul_right, arith}
use Rattle.std.proofs.Math.Nat.{sub-zero}
use borrow.Rule.Slice.PartMut.{put_mid}
use Rattle.std.proofs.lemmas.Nat.{mul-le, mod_below}
use Rattle.std.proofs.lemmas.List.{take_at, length-take, length-drop}
use Rattle.std.proofs.lemmas.Bool.{cases_lt}
use Rattle.block_code.specs.Codes.{Code}
use Rattle.block_code.specs.Codes as codes
use Rattle.mapping.specs.Maps.{Map}
use Rattle.mapping.specs.Maps as maps
use Rattle.mode.specs.declared.copies.Copies.{Copies}
use Rattle.mode.specs.declared.copies.Copies.TheVariants.{One, Two, Four}
use Rattle.mode.specs.Shares.{words, unsents}
use Rattle.mode.specs.Orders.{interleaved}
use Rattle.mode.specs.Copying.{spread}
use Rattle.mode.specs.Modes.{Mode, Lawful, coded, plain, pad, total, count, padded, air}
use Rattle.mode.specs.Chains.{chained, copy_count}
use Rattle.mode.proofs.Splits.{words_room}
use Rattle.mode.proofs.Coding.{put_two}
use Rattle.mode.proofs.Whole.{few_copies, wide, count_width}

pub chain_lawful : (c : Code) (s : Copies) (f : Map) → codes.Lawful c → 16 ≤ c.k → maps.Lawful f → Lawful (chained c s f)
chain_lawful c One f l k r = record { code = l; roomy = k; copies = inl refl; map = r }
chain_lawful c Two f l k r = record { code = l; roomy = k; copies = inr (inl refl); map = r }
chain_lawful c Four f l k r = record { code = l; roomy = k; copies = inr (inr refl); map = r }

-- the copies of a bit are one at least and four at most
pub copies_some : (s : Copies) → 0 < copy_count s
copies_some One = omega arith
copies_some Two = omega arith
copies_some Four = omega arith

pub copies_four : (s : Copies) → copy_count s ≤ 4
copies_four One = omega arith
copies_four Two = omega arith
copies_four Four = omega arith

words_few : (k n : ℕ) → 16 ≤ k → n ≤ 2112 → words k n ≤ 132
words_few k n l h = elim (cases_lt 132 (words k n)) [
  | inl g ↦ let a : 133 * k ≤ words k n * k = mul-le-mul_right k g in absurd (omega (arith, words_room k n (omega arith)))
  | inr g ↦ g
]

module _ (m : Mode) (L : Lawful m) (n : ℕ) (h : n ≤ 2112) where
  pub parity_few : words m.code.k n * m.code.p ≤ 6204
  parity_few = mul-le (words m.code.k n) m.code.p 132 47 (words_few m.code.k n L.roomy h) L.code.few

  pub plain_few : plain m n ≤ 8316
  unfolding plain
  plain_few = omega (arith, parity_few)

  pub total_few : total m n ≤ 8318
  unfolding total pad
  total_few =
      omega (arith, plain_few, mod_below (m.map.w - plain m n % m.map.w) m.map.w (wide m L), L.map.narrow)

  pub air_few : m.copies * total m n ≤ 33272
  air_few = mul-le m.copies (total m n) 4 8318 (few_copies m L) total_few

  pub count_few : count m n ≤ 33272
  count_few =
      let a : count m n * 1 ≤ count m n * m.map.w = mul-le (count m n) 1 (count m n) m.map.w (omega arith) (wide m L) in
      omega (arith, air_few, count_width m L n)

-- as the code computes them
pub plain_adds : (m : Mode) (n : ℕ) → plain m n ≡ n + words m.code.k n * m.code.p
unfolding plain
plain_adds m n = refl

-- the words with the zeros behind them
pub padded_is : (m : Mode) (xs ws os zs : List ℕ) (a : ℕ) → ws ≡ coded m.code (unsents m.code.k (length xs)) xs → length ws ≡ a → a ≡ plain m (length xs) → length (ws ++ os) ≡ total m (length xs)
    → zs ≡ replicate (length (take (length (ws ++ os) - a) (drop a (ws ++ os)))) 0 → put_mid a (length (ws ++ os) - a) (ws ++ os) zs ≡ padded m xs
unfolding total padded
padded_is m xs ws os zs a e l f n z =
    let k : length (take (length (ws ++ os) - a) (drop a (ws ++ os))) ≡ pad m (length xs) = simp (length-take, length-drop) (omega arith) in
    put_two a ws os zs l ∙ ap (λ us. us ++ zs) e ∙ ap (λ us. coded m.code (unsents m.code.k (length xs)) xs ++ us) (z ∙ ap (λ j. replicate j 0) k)

-- the front of a list, as the code takes it
pub front_is : {A : Type 0} (xs ys : List A) (n : ℕ) → length xs ≡ n → take (n - 0) (xs ++ ys) ≡ xs
front_is xs ys n e = rw sub-zero (take_at xs ys n e)

pub front_length : {A : Type 0} (xs ys : List A) (n : ℕ) → length xs ≡ n → length (take (n - 0) (xs ++ ys)) ≡ n
front_length xs ys n e = ap length (front_is xs ys n e) ∙ e

pub air_is : (m : Mode) (xs ws us : List ℕ) (s : ℕ) → s ≡ m.copies → ws ≡ padded m xs → length ws ≡ total m (length xs) → us ≡ interleaved s (length ws) (spread s ws) → us ≡ air m xs
unfolding air
air_is m xs ws us s a d l f = f ∙ ap (λ j. interleaved s j (spread s ws)) l ∙ ap (λ j. interleaved s (total m (length xs)) (spread s j)) d ∙ ap (λ j. interleaved j (total m (length xs)) (spread j (padded m xs))) a
