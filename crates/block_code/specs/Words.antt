-- The words are the lists of 63 bits whose two sums are zero.
use Rattle.std.specs.Prelude.{◌≡◌, ℕ, zero, suc, ◌+◌, ◌*◌, ◌/◌, ◌%◌, ◌^◌, ◌<◌, T, List, [], ◌∷◌, ◌++◌, length, bit_xor, nat_eq, slice_index, refl}
use Rattle.std.proofs.Common.{ap, ap₂, sym, ◌∙◌, arith, pow-suc, one-mul, mul_assoc, add-mul, mul_comm, eqb→eq}
use Rattle.std.specs.Int.Bits.{xor_assoc, xor_self, xor_zero_r, xor_shifted}
use Rattle.std.proofs.lemmas.Nat.{shr_high, xor_shr, xor_mod, xor_block}
use Rattle.std.specs.List.{AllByRecursion}
use Rattle.bits.specs.Strings.{Bit, bits_of}
use Rattle.block_code.specs.Bch.{pick, sum_at, remainder, divided, parity, power, times}
use Rattle.block_code.specs.Linear.{Linear, pick-xor, pick-map, sum-map, sum_same, sum-append, over, over_linear, xor_swap}
use Rattle.bits.specs.Numbers.{length_bits}
use Rattle.block_code.specs.Pairs.{both, all_below, at_below}

-- one step of the division at a bit of 0
turn : ℕ → ℕ
turn r = bit_xor ((2 * r) % 4096) (pick (r / 2048 % 2) 1337)

double : (a b : ℕ) → 2 * bit_xor a b ≡ bit_xor (2 * a) (2 * b)
double a b = omega (arith, xor_block 1 a b 0 0 (omega arith) (omega arith), ap₂ bit_xor (left a) (left b))
  where
    left : (x : ℕ) → x * 2 + 0 ≡ 2 * x
    left x = omega arith

turn_linear : Linear turn
unfolding turn
turn_linear =
    record {
      zeros = refl;
      adds = λ a b.
          ap₂ bit_xor
          (ap (λ x. x % 4096) (double a b) ∙ xor_mod (2 * a) (2 * b) 12)
          (ap (λ x. pick x 1337) (ap (λ x. x % 2) (xor_shr a b 11) ∙ xor_mod (a / 2048) (b / 2048) 1)
          ∙ pick-xor (a / 2048 % 2) (b / 2048 % 2) 1337 (omega arith) (omega arith))
          ∙ xor_swap ((2 * a) % 4096) ((2 * b) % 4096) (pick (a / 2048 % 2) 1337) (pick (b / 2048 % 2) 1337);
    }

divided_turn : (r b : ℕ) → b < 2 → divided r b ≡ bit_xor (turn r) (pick b 1337)
unfolding divided turn
divided_turn r b h =
    ap (bit_xor ((2 * r) % 4096)) (pick-xor (r / 2048 % 2) b 1337 (omega arith) h)
    ∙ sym (xor_assoc ((2 * r) % 4096) (pick (r / 2048 % 2) 1337) (pick b 1337))

turns : ℕ → ℕ → ℕ
turns zero r = r
turns (suc n) r = turns n (turn r)

turns_linear : (n : ℕ) → Linear (turns n)
unfolding turns
turns_linear zero = record { zeros = refl; adds = λ a b. refl }
turns_linear (suc n) =
    record {
      zeros = ap (turns n) turn_linear.zeros ∙ (turns_linear n).zeros;
      adds = λ a b. ap (turns n) (turn_linear.adds a b) ∙ (turns_linear n).adds (turn a) (turn b);
    }

-- D^(12 + i), reduced
pub tail : ℕ → ℕ
tail i = turns i 1337

remainder_from : (r : ℕ) (m : List ℕ) → AllByRecursion Bit m → remainder r m ≡ bit_xor (turns (length m) r) (sum_at tail m)
unfolding turns tail
remainder_from r [] h = sym (xor_zero_r r)
remainder_from r (b ∷ m) h =
    remainder_from (divided r b) m h.1
    ∙ ap (λ x. bit_xor x (sum_at tail m))
    (ap (turns (length m)) (divided_turn r b h.0) ∙ (turns_linear (length m)).adds (turn r) (pick b 1337)
    ∙ ap (bit_xor (turns (length m) (turn r))) (pick-map (turns (length m)) (turns_linear (length m)).zeros b 1337))
    ∙ xor_assoc (turns (length m) (turn r)) (pick b (turns (length m) 1337)) (sum_at tail m)

pub remainder-sum : (m : List ℕ) → AllByRecursion Bit m → remainder 0 m ≡ sum_at tail m
remainder-sum m h = remainder_from 0 m h ∙ ap (λ x. bit_xor x (sum_at tail m)) (turns_linear (length m)).zeros

-- ---- the sums of a word are zero

tails : T (all_below (λ i. nat_eq (over both 12 (tail i)) (both (i + 12))) 51)
unfolding all_below over both tail turns turn power times
tails = tt

tail_both : (i : ℕ) → i < 51 → over both 12 (tail i) ≡ both (i + 12)
tail_both i h = eqb→eq (over both 12 (tail i)) (both (i + 12)) (at_below (λ i. nat_eq (over both 12 (tail i)) (both (i + 12))) 51 tails i h)

pub length-parity : (m : List ℕ) → length (parity m) ≡ 12
unfolding parity
length-parity m = length_bits 12 (remainder 0 m)

sum-parity : (m : List ℕ) → length m ≡ 51 → AllByRecursion Bit m → sum_at both (parity m) ≡ sum_at (λ i. both (i + 12)) m
unfolding parity over
sum-parity m l h =
    ap (over both 12) (remainder-sum m h) ∙ sum-map tail (over both 12) (over_linear both 12) m
    ∙ sum_same (λ i. over both 12 (tail i)) (λ i. both (i + 12)) m (λ i k. tail_both i (omega arith))

pub word-zero : (m : List ℕ) → length m ≡ 51 → AllByRecursion Bit m → sum_at both (m ++ parity m) ≡ 0
word-zero m l h =
    sum-append both m (parity m)
    ∙ ap₂ bit_xor (ap (λ n. sum_at (λ i. both (i + n)) m) (length-parity m)) (sum-parity m l h)
    ∙ xor_self (sum_at (λ i. both (i + 12)) m)

-- ---- and only of a word

-- the remainder that a pair of sums stands for
inv : ℕ → ℕ
inv i = slice_index (1894 ∷ 3788 ∷ 2209 ∷ 1147 ∷ 2294 ∷ 1237 ∷ 1895 ∷ 4034 ∷ 3969 ∷ 3790 ∷ 2749 ∷ 2619 ∷ []) i

back_tails : T (all_below (λ i. nat_eq (over inv 12 (both (i + 12))) (tail i)) 51)
unfolding all_below over both tail turns turn power times inv
back_tails = tt

back_tail : (i : ℕ) → i < 51 → over inv 12 (both (i + 12)) ≡ tail i
back_tail i h = eqb→eq (over inv 12 (both (i + 12))) (tail i) (at_below (λ i. nat_eq (over inv 12 (both (i + 12))) (tail i)) 51 back_tails i h)

back_lows : T (all_below (λ i. nat_eq (over inv 12 (both i)) (2 ^ i)) 12)
unfolding all_below over both tail turns turn power times inv
back_lows = tt

back_low : (i : ℕ) → i < 12 → over inv 12 (both i) ≡ 2 ^ i
back_low i h = eqb→eq (over inv 12 (both i)) (2 ^ i) (at_below (λ i. nat_eq (over inv 12 (both i)) (2 ^ i)) 12 back_lows i h)

pub xor_same : (a b : ℕ) → bit_xor a b ≡ 0 → a ≡ b
xor_same a b e =
    sym (xor_zero_r a) ∙ ap (bit_xor a) (sym (xor_self b)) ∙ sym (xor_assoc a b b) ∙ ap (λ x. bit_xor x b) e

value : List ℕ → ℕ
value q = sum_at (λ i. 2 ^ i) q

value_lt : (q : List ℕ) → AllByRecursion Bit q → value q < 2 ^ length q
unfolding value
value_lt [] h = omega arith
value_lt (zero ∷ q) h = omega (arith, value_lt q h.1, pow-suc 2 (length q))
value_lt (suc zero ∷ q) h =
    omega (
      arith,
      value_lt q h.1,
      pow-suc 2 (length q),
      xor_shifted 1 (length q) (value q) (value_lt q h.1),
      ap (λ x. bit_xor x (value q)) (one-mul (2 ^ length q)),
    )
value_lt (suc (suc b) ∷ q) h = absurd (omega arith)

value_cons : (b : ℕ) (q : List ℕ) → b < 2 → AllByRecursion Bit q → value (b ∷ q) ≡ b * 2 ^ length q + value q
unfolding value
value_cons zero q h k = omega arith
value_cons (suc zero) q h k =
    ap (λ x. bit_xor x (value q)) (sym (one-mul (2 ^ length q))) ∙ xor_shifted 1 (length q) (value q) (value_lt q k)
value_cons (suc (suc b)) q h k = absurd (omega arith)

bits_value : (q : List ℕ) (hi : ℕ) → AllByRecursion Bit q → bits_of (length q) (hi * 2 ^ length q + value q) ≡ q
bits_value [] hi h = refl
bits_value (b ∷ q) hi h =
    ap (bits_of (suc (length q))) (shape hi)
    ∙ ap₂ ◌∷◌ (ap (λ x. x % 2) (shr_high (hi * 2 + b) (length q) (value q) (value_lt q h.1)) ∙ low) (bits_value q (hi * 2 + b) h.1)
  where
    low : (hi * 2 + b) % 2 ≡ b
    low = omega arith

    shape : (hi : ℕ) → hi * 2 ^ suc (length q) + value (b ∷ q) ≡ (hi * 2 + b) * 2 ^ length q + value q
    shape hi =
        let P : ℕ = 2 ^ length q in
        omega (arith, value_cons b q h.0 h.1, ap (λ x. hi * x) (pow-suc 2 (length q)), mul_assoc hi P 2, add-mul (hi * 2) b P, mul_assoc hi 2 P, ap (λ x. hi * x) (mul_comm 2 P))

pub zero_word : (m q : List ℕ) → length m ≡ 51 → AllByRecursion Bit m → length q ≡ 12 → AllByRecursion Bit q → sum_at both (m ++ q) ≡ 0 → q ≡ parity m
unfolding parity value
zero_word m q l h k i e = sym (bits ∙ ap (λ n. bits_of n (value q)) (sym k) ∙ ap (bits_of (length q)) plain ∙ bits_value q 0 i)
  where
    plain : value q ≡ 0 * 2 ^ length q + value q
    plain = omega arith

    sums : bit_xor (sum_at (λ i. both (i + 12)) m) (sum_at both q) ≡ 0
    sums = ap (λ n. bit_xor (sum_at (λ i. both (i + n)) m) (sum_at both q)) (sym k) ∙ sym (sum-append both m q) ∙ e

    same : sum_at tail m ≡ value q
    same =
        sym (sum_same (λ i. over inv 12 (both (i + 12))) tail m (λ i h. back_tail i (omega arith)))
        ∙ sym (sum-map (λ i. both (i + 12)) (over inv 12) (over_linear inv 12) m)
        ∙ ap (over inv 12) (xor_same (sum_at (λ i. both (i + 12)) m) (sum_at both q) sums)
        ∙ sum-map both (over inv 12) (over_linear inv 12) q
        ∙ sum_same (λ i. over inv 12 (both i)) (λ i. 2 ^ i) q (λ i h. back_low i (omega arith))

    bits : bits_of 12 (remainder 0 m) ≡ bits_of 12 (value q)
    bits = ap (bits_of 12) (remainder-sum m h ∙ same)
