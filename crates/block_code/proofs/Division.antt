-- The remainder holds the remainder of D^12 times the message.
use Rattle.std.proofs.Common.{◌≡◌, ℕ, zero, suc, ◌+◌, ◌*◌, ◌/◌, ◌%◌, ◌^◌, ◌<◌, List, [], ◌∷◌, length, sym, refl, ap, ◌∙◌, ap₂, mul_assoc, mul_comm, pow-suc, zero-mul, arith, pow_pos}
use Rattle.std.specs.Prelude.{bit_xor}
use Rattle.std.specs.Int.Bits.{xor_assoc, xor_zero_r, xor_shifted}
use Rattle.std.proofs.lemmas.Nat.{xor_comm, xor_block, xor_lt}
use Rattle.std.specs.List.{AllByRecursion}
use Rattle.bits.specs.Strings.{Bit}
use Rattle.block_code.specs.Bch.{pick, remainder, divided, product, parity, Divides}
use Rattle.block_code.specs.Linear.{pick-xor, pick-map, xor_left}
use Rattle.block_code.proofs.Loops.{divided-lt}

shifted : (a b n : ℕ) → bit_xor a b * 2 ^ n ≡ bit_xor (a * 2 ^ n) (b * 2 ^ n)
shifted a b n =
    omega (arith, xor_block n a b 0 0 (pow_pos n) (pow_pos n), ap₂ bit_xor (plain (a * 2 ^ n)) (plain (b * 2 ^ n)))
  where
    plain : (x : ℕ) → x + 0 ≡ x
    plain x = omega arith

-- one divided of the division
divide : (r b : ℕ) → r < 4096 → b < 2 → bit_xor (2 * r) (pick b 4096) ≡ bit_xor (pick (bit_xor (r / 2048 % 2) b) 5433) (divided r b)
unfolding divided
divide r b h k =
    ap (λ x. bit_xor x (pick b 4096)) top
    ∙ ap (λ x. bit_xor x (pick b 4096)) (xor_comm (pick t 4096) l) ∙ xor_assoc l (pick t 4096) (pick b 4096)
    ∙ ap (bit_xor l) (sym (pick-xor t b 4096 (omega arith) k) ∙ sym (split (bit_xor t b)))
    ∙ xor_left l (pick (bit_xor t b) 5433) (pick (bit_xor t b) 1337)
  where
    t : ℕ
    t = r / 2048 % 2

    l : ℕ
    l = (2 * r) % 4096

    as_product : (x : ℕ) → x < 2 → pick x 4096 ≡ x * 4096
    as_product zero n = omega arith
    as_product (suc zero) n = omega arith
    as_product (suc (suc x)) n = absurd (omega arith)

    top : 2 * r ≡ bit_xor (pick (r / 2048 % 2) 4096) ((2 * r) % 4096)
    top =
        sum ∙ sym (xor_shifted (r / 2048 % 2) 12 ((2 * r) % 4096) (omega arith))
        ∙ ap (λ x. bit_xor x ((2 * r) % 4096)) (sym (as_product (r / 2048 % 2) (omega arith)))
      where
        sum : 2 * r ≡ r / 2048 % 2 * 4096 + (2 * r) % 4096
        sum = omega arith

    split : (x : ℕ) → bit_xor (pick x 5433) (pick x 1337) ≡ pick x 4096
    split zero = refl
    split (suc x) = refl

record Result (r : ℕ) (m : List ℕ) : Type 0 where
  q : List ℕ
  bits : AllByRecursion Bit q
  size : length q ≡ length m
  whole : bit_xor (r * 2 ^ length m) (product 4096 m) ≡ bit_xor (product 5433 q) (remainder r m)
  small : remainder r m < 4096

divides : (r : ℕ) (m : List ℕ) → r < 4096 → AllByRecursion Bit m → Result r m
divides r [] h b = record { q = []; bits = tt; size = refl; whole = xor_zero_r (r * 1) ∙ omega arith; small = h }
divides r (b ∷ m) h k =
    let R : Result (divided r b) m = divides (divided r b) m (divided-lt r b) k.1 in
    let n : ℕ = length m in
    let t : ℕ = bit_xor (r / 2048 % 2) b in
    let P : ℕ = product 4096 m in
    record {
      q = t ∷ R.q;
      bits = (xor_lt 1 (r / 2048 % 2) b (omega arith) k.0, R.bits);
      size = ap suc R.size;
      small = R.small;
      whole =
          ap₂ (λ x y. bit_xor x (bit_xor y P)) (twice r n) (sym (pick-map (λ x. x * 2 ^ n) (zero-mul (2 ^ n)) b 4096))
          ∙ sym (xor_assoc (2 * r * 2 ^ n) (pick b 4096 * 2 ^ n) P)
          ∙ ap (λ x. bit_xor x P) (sym (shifted (2 * r) (pick b 4096) n) ∙ ap (λ x. x * 2 ^ n) (divide r b h k.0) ∙ shifted (pick t 5433) (divided r b) n)
          ∙ xor_assoc (pick t 5433 * 2 ^ n) (divided r b * 2 ^ n) P
          ∙ ap₂ bit_xor (pick-map (λ x. x * 2 ^ n) (zero-mul (2 ^ n)) t 5433 ∙ ap (λ x. pick t (5433 * 2 ^ x)) (sym R.size)) R.whole
          ∙ sym (xor_assoc (pick t (5433 * 2 ^ length R.q)) (product 5433 R.q) (remainder (divided r b) m));
    }
  where
    twice : (r n : ℕ) → r * 2 ^ suc n ≡ 2 * r * 2 ^ n
    twice r n = ap (λ x. r * x) (pow-suc 2 n ∙ mul_comm (2 ^ n) 2) ∙ sym (mul_assoc r 2 (2 ^ n)) ∙ ap (λ x. x * 2 ^ n) (mul_comm r 2)

pub divides_parity : Divides 5433
unfolding parity
divides_parity m M =
    let R : Result 0 m = divides 0 m (omega arith) M.bits in
    record {
      quotient = R.q;
      bits = record { size = R.size; bits = R.bits };
      rest = remainder 0 m;
      whole = ap (λ x. bit_xor x (product 4096 m)) (sym (zero-mul (2 ^ length m))) ∙ R.whole;
      small = R.small;
      told = refl;
    }
