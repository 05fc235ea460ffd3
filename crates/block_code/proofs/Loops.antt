-- The steps of the loops.
use Rattle.std.proofs.Common.{◌≡◌, ℕ, zero, suc, ◌+◌, ◌*◌, ◌/◌, ◌%◌, ◌<◌, T, List, [], ◌∷◌, ◌++◌, length, refl, get_or, sym, ap, ◌∙◌, ap₂, arith, eqb→eq, fold, ◌≢◌}
use Rattle.std.specs.Prelude.{bit_and, bit_xor, nat_eq, slice_index}
use Rattle.std.specs.Int.Bits.{xor_zero_r}
use Rattle.std.proofs.lemmas.Nat.{and_mask, xor_comm, xor_lt}
use Rattle.std.proofs.lemmas.List.{append_assoc}
use Rattle.std.specs.List.{AllByRecursion}
use Rattle.bits.specs.Strings.{Bit}
use Rattle.block_code.specs.declared.bch63.TheConstants.{POWERS}
use Rattle.block_code.specs.Pairs.{all_below, at_below}
use Rattle.block_code.specs.Bch.{pick, sum_at, power, cubed, first, third, times, divided, remainder}

-- the table of the code has the powers
table_right : T (all_below (λ k. nat_eq (slice_index POWERS k) (power k)) 63)
unfolding all_below power times
table_right = tt

pub table_at : (k : ℕ) → k < 63 → slice_index POWERS k ≡ power k
table_at k h = eqb→eq (slice_index POWERS k) (power k) (at_below (λ k. nat_eq (slice_index POWERS k) (power k)) 63 table_right k h)

pub bit_at : (xs : List ℕ) → AllByRecursion Bit xs → (j : ℕ) → get_or xs j 0 < 2
bit_at [] h j = omega arith
bit_at (x ∷ xs) h zero = h.0
bit_at (x ∷ xs) h (suc j) = bit_at xs h.1 j

-- the bits behind those that are left, n of them, have the sums s and t
pub record Summed (bits left : List ℕ) (n s t : ℕ) : Type 0 where
  pub seen : List ℕ
  pub all : bits ≡ left ++ seen
  pub count : n ≡ length seen
  pub first_is : s ≡ first seen
  pub third_is : t ≡ third seen

-- the next bit from the back, which is set
pub sum_set : {bits before left : List ℕ} {b n m i s t u v : ℕ} → Summed bits before n s t → before ≡ left ++ b ∷ [] → (b ≡ 0 → ⊥)
    → i ≡ n → m ≡ n + 1 → u ≡ power i → v ≡ cubed i → Summed bits left m (bit_xor s u) (bit_xor t v)
sum_set {left = left} {b} {i = i} {s} {t} {u} {v} S e set at next eu ev =
    record {
      seen = b ∷ S.seen;
      all = S.all ∙ ap (λ x. x ++ S.seen) e ∙ append_assoc left (b ∷ []) S.seen;
      count = omega (arith, S.count);
      first_is = more power s u S.first_is eu;
      third_is = more cubed t v S.third_is ev;
    }
  where
    picked : (b c : ℕ) → (b ≡ 0 → ⊥) → c ≡ pick b c
    picked zero c h = absurd (h refl)
    picked (suc b) c h = refl

    more : (f : ℕ → ℕ) (r x : ℕ) → r ≡ sum_at f S.seen → x ≡ f i → bit_xor r x ≡ sum_at f (b ∷ S.seen)
    more f r x er ex = xor_comm r x ∙ ap₂ bit_xor (ex ∙ ap f (at ∙ S.count) ∙ picked b (f (length S.seen)) set) er

-- ---- the remainder

pub divided-lt : (r b : ℕ) → divided r b < 4096
unfolding divided
divided-lt r b = xor_lt 12 ((2 * r) % 4096) (pick (bit_xor (r / 2048 % 2) b) 1337) (omega arith) (small (bit_xor (r / 2048 % 2) b))
  where
    small : (x : ℕ) → pick x 1337 < 4096
    small zero = omega arith
    small (suc x) = omega arith

pub folded : (r : ℕ) (xs : List ℕ) → fold divided r xs ≡ remainder r xs
folded r [] = refl
folded r (x ∷ xs) = folded (divided r x) xs

picked : (x c : ℕ) → x ≢ 0 → c ≡ pick x c
picked zero c n = absurd (n refl)
picked (suc x) c n = refl

module _ (r b : ℕ) where
  top_is : bit_xor (bit_and (r / 2048) 1) b ≡ bit_xor (r / 2048 % 2) b
  top_is = ap (λ x. bit_xor x b) (and_mask (r / 2048) 1)

  low_is : bit_and ((r * 2) % 65536) 4095 ≡ (2 * r) % 4096
  low_is = and_mask ((r * 2) % 65536) 12 ∙ omega arith

  pub divided_set : bit_xor (bit_and (r / 2048) 1) b ≢ 0 → bit_xor (bit_and ((r * 2) % 65536) 4095) 1337 ≡ divided r b
  unfolding divided
  divided_set n = ap₂ bit_xor low_is (picked (bit_xor (r / 2048 % 2) b) 1337 (λ z. n (top_is ∙ z)))

  pub divided_clear : bit_xor (bit_and (r / 2048) 1) b ≡ 0 → bit_and ((r * 2) % 65536) 4095 ≡ divided r b
  unfolding divided
  divided_clear z =
      sym (xor_zero_r (bit_and ((r * 2) % 65536) 4095)) ∙ ap₂ (λ x y. bit_xor x (pick y 1337)) low_is (sym z ∙ top_is)
