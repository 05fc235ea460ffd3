-- The scrambler's sequence: its recurrence, and the register of the code.
use Rattle.std.proofs.Common.{bit_and, bit_or, bit_xor, ◌≡◌, ℕ, zero, suc, ◌+◌, ◌-◌, ◌*◌, ◌/◌, ◌%◌, ◌^◌, ◌<◌, Bool, true, false, cond, eqb, [], ◌∷◌, ◌++◌, map, length, get_or, take, sym, refl, ap, ◌∙◌, ap₂, add-zero, add-suc, add_comm, add-one, arith}
use Rattle.std.specs.Int.Bits.{or_shifted_r, xor_add_and}
use Rattle.std.specs.List.{range_with_len}
use Rattle.std.proofs.lemmas.Nat.{shl_whole, and_mask, or_shifted}
use Rattle.std.proofs.lemmas.List.FromFn.{length-map-range_with_len, map-range_with_len_more}
use Rattle.std.proofs.lemmas.List.{get_or-take}
use Rattle.bits.specs.Strings.{Bits}
use Rattle.frame.specs.Numbers.{low_bits, number_of}
use Rattle.frame.specs.Registers.{tapped, moved, given, mask}
use Rattle.frame.specs.Scrambler.{start, next, before, keystream}
use Rattle.frame.specs.Laws.{Recurs, KeystreamRecurs}
use Rattle.frame.specs.Numbering.{number_push, number-take_more, number_below, bit_of_number, low_bits_bits, take_bits, cons_bits, resized}

before_more : (seed n : ℕ) → before seed (n + 1) ≡ keystream seed n ∷ before seed n
unfolding before keystream
before_more seed n = rw add-one

-- the registers at the start
abbrev pub started : ℕ → ℕ
started seed = cond (eqb seed 0) 0x2cf4 0x3c80

start_is : (seed : ℕ) → start seed ≡ low_bits 14 (started seed)
start_is seed = go (eqb seed 0)
  where
    go : (b : Bool)
        → cond b (0 ∷ 0 ∷ 1 ∷ 0 ∷ 1 ∷ 1 ∷ 1 ∷ 1 ∷ 0 ∷ 0 ∷ 1 ∷ 1 ∷ 0 ∷ 1 ∷ []) (0 ∷ 0 ∷ 0 ∷ 0 ∷ 0 ∷ 0 ∷ 0 ∷ 1 ∷ 0 ∷ 0 ∷ 1 ∷ 1 ∷ 1 ∷ 1 ∷ [])
        ≡ low_bits 14 (cond b 0x2cf4 0x3c80)
    go true = refl
    go false = refl

pub before_bits : (seed n : ℕ) → Bits (n + 14) (before seed n)
unfolding before
before_bits seed zero = rw start_is (low_bits_bits 14 (started seed))
before_bits seed (suc n) =
    resized (suc (n + 14)) (suc n + 14) (before seed (suc n)) (omega arith)
    (cons_bits (n + 14) (next (before seed n)) (before seed n) (omega arith) (before_bits seed n))

pub keystream_bit : (seed n : ℕ) → keystream seed n < 2
unfolding keystream
keystream_bit seed n = omega arith

-- ---- the recurrence

-- j steps on, what stood at i stands at i + j
moved_back : (seed n j i : ℕ) → get_or (before seed (n + j)) (i + j) 0 ≡ get_or (before seed n) i 0
unfolding before
moved_back seed n zero i = rw (add-zero n, add-zero i)
moved_back seed n (suc j) i = rw (add-suc n j, add-suc i j) (moved_back seed n j i)

-- x[k − 14]
abbrev late : ℕ → ℕ → ℕ
late seed k = get_or (before seed k) 13 0

late_begins : (seed k : ℕ) → k < 14 → late seed (13 - k) ≡ get_or (start seed) k 0
unfolding before
late_begins seed k l =
    let e : k + (13 - k) ≡ 13 = omega arith in
    ap (λ m. get_or (before seed (13 - k)) m 0) (sym e) ∙ ap (λ m. get_or (before seed m) (k + (13 - k)) 0) (omega arith) ∙ moved_back seed 0 (13 - k) k

late_goes_on : (seed n : ℕ) → late seed (n + 14) ≡ (late seed (n + 12) + late seed (n + 2) + late seed (n + 1) + late seed n) % 2
unfolding keystream
late_goes_on seed n =
    let e : late seed (n + 14) ≡ next (before seed n) =
    ap (late seed) (omega arith) ∙ moved_back seed (n + 1) 13 0 ∙ ap (λ xs. get_or xs 0 0) (before_more seed n) in
    omega (arith, e, moved_back seed n 12 1, moved_back seed n 2 11, moved_back seed n 1 12)

-- a sequence with the recurrence has x[n−1−i] at i
module _ (seed : ℕ) (s : ℕ → ℕ) (r : Recurs seed s) where
  Agrees : ℕ → Type 0
  Agrees n = (i : ℕ) → i < n + 14 → get_or (before seed n) i 0 ≡ s (n + 13 - i)

  agrees_next : (n : ℕ) → Agrees n → next (before seed n) ≡ s (n + 14)
  unfolding Agrees
  agrees_next n at =
      let a : get_or (before seed n) 1 0 ≡ s (n + 12) = at 1 (omega arith) ∙ ap s (omega arith) in
      let b : get_or (before seed n) 11 0 ≡ s (n + 2) = at 11 (omega arith) ∙ ap s (omega arith) in
      let c : get_or (before seed n) 12 0 ≡ s (n + 1) = at 12 (omega arith) ∙ ap s (omega arith) in
      let d : get_or (before seed n) 13 0 ≡ s n = at 13 (omega arith) ∙ ap s (omega arith) in
      omega (arith, r.goes_on n)

  agrees : (n : ℕ) → Agrees n
  unfolding Agrees before
  agrees zero i l = sym (r.begins i l) ∙ ap s (omega arith)
  agrees (suc n) zero l = agrees_next n (agrees n) ∙ ap s (omega arith)
  agrees (suc n) (suc i) l = agrees n i (omega arith) ∙ ap s (omega arith)

pub keystream_recurs : KeystreamRecurs
unfolding keystream
keystream_recurs = (
  λ seed. (late seed, record { begins = late_begins seed; goes_on = late_goes_on seed }),
  λ seed s r n. agrees_next seed s r n (agrees seed s r n),
)

-- ---- the register

-- a register holds the fourteen values before x[n], x[n−1] in its lowest bit
abbrev Holds : ℕ → ℕ → ℕ → Type 0
Holds seed n v = v ≡ number_of (take 14 (before seed n))

module _ (seed n v : ℕ) (h : Holds seed n v) where
  window : Bits 14 (take 14 (before seed n))
  window = take_bits 14 n (before seed n) (resized (n + 14) (14 + n) (before seed n) (omega arith) (before_bits seed n))

  tap : (k : ℕ) → k < 14 → v / 2 ^ k % 2 ≡ get_or (before seed n) k 0
  tap k l =
      ap (λ m. m / 2 ^ k % 2) h ∙ bit_of_number (take 14 (before seed n)) k window.bits ∙ get_or-take 14 (before seed n) k 0 l

  -- the next bit
  holds_bit : tapped v ≡ keystream seed n
  unfolding keystream
  holds_bit = omega (arith, tap 1 (omega arith), tap 11 (omega arith), tap 12 (omega arith), tap 13 (omega arith))

  -- the register after it
  holds_more : Holds seed (n + 1) (moved v)
  holds_more =
      let l : 13 < length (before seed n) = omega (arith, (before_bits seed n).size) in
      let e : v ≡ number_of (take 13 (before seed n)) + get_or (before seed n) 13 0 * 2 ^ 13 = h ∙ number-take_more (before seed n) 13 l in
      let b : number_of (take 13 (before seed n)) < 2 ^ 13 =
      number_below 13 (take 13 (before seed n)) (take_bits 13 (n + 1) (before seed n) (resized (n + 14) (13 + (n + 1)) (before seed n) (omega arith) (before_bits seed n))) in
      let x : keystream seed n < 2 = keystream_bit seed n in
      let t : tapped v ≡ keystream seed n = holds_bit in
      let f : moved v ≡ keystream seed n + 2 * number_of (take 13 (before seed n)) = omega arith in
      f ∙ ap (λ xs. number_of (take 14 xs)) (sym (before_more seed n))

given_by : (seed n v : ℕ) → Holds seed n v → (k : ℕ) → given v k ≡ keystream seed (n + k)
unfolding given
given_by seed n v h zero = holds_bit seed n v h ∙ ap (keystream seed) (omega arith)
given_by seed n v h (suc k) = given_by seed (n + 1) (moved v) (holds_more seed n v h) k ∙ ap (keystream seed) (omega arith)

-- the table of the code
pub given_start : (seed : ℕ) → seed < 2 → (k : ℕ) → given (get_or (0x2cf4 ∷ 0x3c80 ∷ []) seed 0) k ≡ keystream seed k
unfolding before
given_start zero l k = given_by 0 0 0x2cf4 refl k ∙ ap (keystream 0) (omega arith)
given_start (suc zero) l k = given_by 1 0 0x3c80 refl k ∙ ap (keystream 1) (omega arith)
given_start (suc (suc seed)) l k = absurd (omega arith)

-- what the code takes for the next bit
abbrev tap_of : ℕ → ℕ
tap_of v = bit_and (bit_xor (bit_xor (bit_xor (v / 2 ^ 1) (v / 2 ^ 11)) (v / 2 ^ 12)) (v / 2 ^ 13)) 1

pub tap_is : (v : ℕ) → tap_of v ≡ tapped v
tap_is v =
    omega (
      arith,
      and_mask (bit_xor (bit_xor (bit_xor (v / 2 ^ 1) (v / 2 ^ 11)) (v / 2 ^ 12)) (v / 2 ^ 13)) 1,
      xor_add_and (bit_xor (bit_xor (v / 2 ^ 1) (v / 2 ^ 11)) (v / 2 ^ 12)) (v / 2 ^ 13),
      xor_add_and (bit_xor (v / 2 ^ 1) (v / 2 ^ 11)) (v / 2 ^ 12),
      xor_add_and (v / 2 ^ 1) (v / 2 ^ 11),
    )

pub moved_is : (v : ℕ) → bit_and (bit_or (v * 2 % 2 ^ 16) (tap_of v)) 0x3fff ≡ moved v
moved_is v =
    let m : v * 2 % 2 ^ 16 ≡ v % 2 ^ 15 * 2 ^ 1 = omega arith in
    let f : (v % 2 ^ 15 * 2 ^ 1 + tapped v) % 2 ^ 14 ≡ moved v = omega arith in
    ap (λ q. bit_and q 0x3fff) (ap₂ bit_or m (tap_is v) ∙ or_shifted (v % 2 ^ 15) 1 (tapped v) (omega arith))
    ∙ and_mask (v % 2 ^ 15 * 2 ^ 1 + tapped v) 14 ∙ f

pub given_next : (v k : ℕ) → given (moved v) k ≡ given v (k + 1)
unfolding given
given_next v k = rw add-one

given_bit : (v k : ℕ) → given v k < 2
unfolding given
given_bit v zero = omega arith
given_bit v (suc k) = given_bit (moved v) k

-- ---- eight values as a byte

pub mask_none : (x : ℕ → ℕ) (n : ℕ) → 0 ≡ mask x n 0
unfolding mask
mask_none x n = refl

mask_shifted : (x : ℕ → ℕ) (n m w : ℕ) → mask (λ k. x (k + n)) m w ≡ mask x (m + n) w
unfolding mask
mask_shifted x n m zero = refl
mask_shifted x n m (suc w) =
    let e : m + 1 + n ≡ m + n + 1 = omega arith in
    ap (λ y. x (m + n) + 2 * y) (mask_shifted x n (m + 1) w ∙ ap (λ k. mask x k w) e)

-- a register that gives the values from x[n] on gives the mask from there
pub mask_given : (x : ℕ → ℕ) (v n w : ℕ) → ((k : ℕ) → given v k ≡ x (k + n)) → mask (given v) 0 w ≡ mask x n w
mask_given x v n w h =
    let e : given v ≡ (λ k. x (k + n)) = λ i k. h k i in
    ap (λ y. mask y 0 w) e ∙ mask_shifted x n 0 w ∙ ap (λ k. mask x k w) (omega arith)

module _ (v : ℕ) where
  mask_bits : (n w : ℕ) → Bits w (map (given v) (range_with_len n w))
  mask_bits n zero = record { size = refl; bits = tt }
  mask_bits n (suc w) =
      cons_bits w (given v n) (map (given v) (range_with_len (n + 1) w)) (given_bit v n) (mask_bits (n + 1) w)

  mask_below : (w : ℕ) → mask (given v) 0 w < 2 ^ w
  unfolding mask
  mask_below w = number_below w (map (given v) (range_with_len 0 w)) (mask_bits 0 w)

  mask_more : (w : ℕ) → mask (given v) 0 (w + 1) ≡ given v w * 2 ^ w + mask (given v) 0 w
  unfolding mask
  mask_more w =
      let x = given v in
      let p : number_of (map x (range_with_len 0 w) ++ x w ∷ []) ≡ mask x 0 w + x w * 2 ^ w =
      number_push (map x (range_with_len 0 w)) (x w) ∙ ap (λ m. mask x 0 w + x w * 2 ^ m) (length-map-range_with_len x 0 w) in
      ap number_of (map-range_with_len_more x 0 w w (omega arith)) ∙ p ∙ add_comm (mask x 0 w) (x w * 2 ^ w)

  -- one more bit, as the code puts it in
  pub mask_step : (k byte bit : ℕ) → k < 8 → byte ≡ mask (given v) 0 k → bit ≡ given v k
      → bit_or byte (bit * 2 ^ k % 2 ^ 8) ≡ mask (given v) 0 (k + 1)
  mask_step k byte bit l e f =
      ap₂ (λ a b. bit_or a (b * 2 ^ k % 2 ^ 8)) e f
      ∙ ap (bit_or (mask (given v) 0 k)) (shl_whole (given v k) 1 k 8 (given_bit v k) (omega arith))
      ∙ or_shifted_r (given v k) k (mask (given v) 0 k) (mask_below k)
      ∙ sym (mask_more k)
