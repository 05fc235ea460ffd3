-- Scrambling is undone by itself, byte by byte.
use Rattle.std.proofs.Common.{◌≡◌, ℕ, zero, suc, ◌+◌, ◌-◌, ◌*◌, ◌/◌, ◌%◌, ◌<◌, List, [], ◌∷◌, ◌++◌, map, length, get_or, take, drop, set, sym, refl, ap, ◌∙◌, ap₂, arith}
use Rattle.std.specs.Int.Bits.{bit_xor, xor_add_and, xor_assoc, xor_self, xor_zero_r}
use Rattle.std.proofs.lemmas.Nat.{xor_shr}
use borrow.Rule.Slice.PartMut.{put_mid}
use Rattle.std.specs.List.{range_with_len, AllByRecursion}
use Rattle.std.proofs.lemmas.List.{append-nil, append_assoc, take_at, drop_at, take-append-drop, length-take, length-take-le, length-drop, take_more, take_more_set, nil_from_length}
use Rattle.std.proofs.lemmas.Slice.{take-put_mid}
use Rattle.bits.specs.Strings.{Bit, Bits}
use Rattle.frame.specs.Numbers.{low_bits, number_of, Byte, byte_bits}
use Rattle.frame.specs.Registers.{given, mask}
use Rattle.frame.specs.Scrambler.{keystream, masked, scrambled}
use Rattle.frame.specs.Laws.{ScramblingIsInvertible}
use Rattle.frame.specs.Numbering.{append_bits, take_bits, drop_bits, resized, low_bits_bits, number_low, number_below, low_number}
use Rattle.frame.proofs.Sequence.{keystream_bit, mask_given}

-- ---- the mask

module _ (x : ℕ → ℕ) where
  pub length-masked : (n : ℕ) (bs : List ℕ) → length (masked x n bs) ≡ length bs
  length-masked n [] = refl
  length-masked n (b ∷ bs) = ap suc (length-masked (n + 1) bs)

  pub masked_bits : (n k : ℕ) (bs : List ℕ) → length bs ≡ k → Bits k (masked x n bs)
  masked_bits n k bs e = record { size = length-masked n bs ∙ e; bits = each n bs }
    where
      each : (n : ℕ) (bs : List ℕ) → AllByRecursion Bit (masked x n bs)
      each n [] = tt
      each n (b ∷ bs) = (omega arith, each (n + 1) bs)

  pub masked_twice : (n : ℕ) (bs : List ℕ) → AllByRecursion Bit bs → masked x n (masked x n bs) ≡ bs
  masked_twice n [] h = refl
  masked_twice n (b ∷ bs) h =
      let l : b < 2 = h.0 in
      let e : ((b + x n) % 2 + x n) % 2 ≡ b = omega arith in
      rw (e, masked_twice (n + 1) bs h.1)

  pub masked-append : (n : ℕ) (us bs : List ℕ) → masked x n (us ++ bs) ≡ masked x n us ++ masked x (n + length us) bs
  masked-append n [] bs = ap (λ m. masked x m bs) (omega arith)
  masked-append n (a ∷ us) bs =
      ap (λ vs. (a + x n) % 2 ∷ vs)
      (masked-append (n + 1) us bs ∙ ap (λ m. masked x (n + 1) us ++ masked x m bs) (omega arith))

  -- w bits of the sequence as a number, from x n on
  abbrev sum : ℕ → ℕ → ℕ
  sum n w = number_of (map x (range_with_len n w))

  module _ (bit : (k : ℕ) → x k < 2) where
    -- the bits of a number are masked by a sum of numbers
    masked_low : (n w v : ℕ) → masked x n (low_bits w v) ≡ low_bits w (bit_xor v (sum n w))
    masked_low n zero v = refl
    masked_low n (suc w) v =
        let l : x n < 2 = bit n in
        let h : (v % 2 + x n) % 2 ≡ bit_xor v (sum n (suc w)) % 2 = omega (arith, xor_add_and v (sum n (suc w))) in
        let k : sum n (suc w) / 2 ≡ sum (n + 1) w = omega arith in
        let t : bit_xor v (sum n (suc w)) / 2 ≡ bit_xor (v / 2) (sum (n + 1) w) = xor_shr v (sum n (suc w)) 1 ∙ ap (bit_xor (v / 2)) k in
        ap₂ (λ b bs. b ∷ bs) h (masked_low (n + 1) w (v / 2) ∙ ap (low_bits w) (sym t))

-- ---- bytes

pub byte_bits_bits : (xs : List ℕ) → Bits (8 * length xs) (byte_bits xs)
byte_bits_bits [] = record { size = refl; bits = tt }
byte_bits_bits (x ∷ xs) =
    resized _ _ (byte_bits (x ∷ xs)) (omega arith)
    (append_bits 8 (8 * length xs) (low_bits 8 x) (byte_bits xs) (low_bits_bits 8 x) (byte_bits_bits xs))

pub byte_bits_push : (xs : List ℕ) (y : ℕ) → byte_bits (xs ++ y ∷ []) ≡ byte_bits xs ++ low_bits 8 y
byte_bits_push [] y = append-nil (low_bits 8 y)
byte_bits_push (x ∷ xs) y =
    ap (λ us. low_bits 8 x ++ us) (byte_bits_push xs y) ∙ sym (append_assoc (low_bits 8 x) (byte_bits xs) (low_bits 8 y))

-- the bytes that 8 × n bits make
bytes : ℕ → List ℕ → List ℕ
bytes zero bs = []
bytes (suc n) bs = number_of (take 8 bs) ∷ bytes n (drop 8 bs)

length_bytes : (n : ℕ) (bs : List ℕ) → length (bytes n bs) ≡ n
unfolding bytes
length_bytes zero bs = refl
length_bytes (suc n) bs = ap suc (length_bytes n (drop 8 bs))

bytes_each : (n : ℕ) (bs : List ℕ) → Bits (8 * n) bs → AllByRecursion Byte (bytes n bs)
unfolding bytes
bytes_each zero bs b = tt
bytes_each (suc n) bs b =
    let c = resized (8 * suc n) (8 + 8 * n) bs (omega arith) b in
    (number_below 8 (take 8 bs) (take_bits 8 (8 * n) bs c), bytes_each n (drop 8 bs) (drop_bits 8 (8 * n) bs c))

bytes_of : (xs : List ℕ) → AllByRecursion Byte xs → bytes (length xs) (byte_bits xs) ≡ xs
unfolding bytes
bytes_of [] h = refl
bytes_of (x ∷ xs) h =
    let t = take_at (low_bits 8 x) (byte_bits xs) 8 refl in
    let d = drop_at (low_bits 8 x) (byte_bits xs) 8 refl in
    ap₂ (λ y ys. y ∷ ys) (ap number_of t ∙ number_low 8 x h.0) (ap (bytes (length xs)) d ∙ bytes_of xs h.1)

byte_bits_of : (n : ℕ) (bs : List ℕ) → Bits (8 * n) bs → byte_bits (bytes n bs) ≡ bs
unfolding bytes
byte_bits_of zero bs b = sym (nil_from_length bs b.size)
byte_bits_of (suc n) bs b =
    let c = resized (8 * suc n) (8 + 8 * n) bs (omega arith) b in
    ap₂ (λ us vs. us ++ vs) (low_number 8 (take 8 bs) (take_bits 8 (8 * n) bs c)) (byte_bits_of n (drop 8 bs) (drop_bits 8 (8 * n) bs c))
    ∙ take-append-drop 8 bs

-- ---- the scrambler

pub scrambled_bits : (seed : ℕ) (xs : List ℕ) → Bits (8 * length xs) (scrambled seed xs)
scrambled_bits seed xs = masked_bits (keystream seed) 0 (8 * length xs) (byte_bits xs) (byte_bits_bits xs).size

pub scrambled_apart : (seed : ℕ) (xs ys : List ℕ) → AllByRecursion Byte xs → AllByRecursion Byte ys → length xs ≡ length ys → scrambled seed xs ≡ scrambled seed ys → xs ≡ ys
scrambled_apart seed xs ys a b l e =
    let x = keystream seed in
    let s : byte_bits xs ≡ byte_bits ys =
    sym (masked_twice x 0 (byte_bits xs) (byte_bits_bits xs).bits) ∙ ap (masked x 0) e ∙ masked_twice x 0 (byte_bits ys) (byte_bits_bits ys).bits in
    sym (bytes_of xs a) ∙ ap₂ bytes l s ∙ bytes_of ys b

pub scrambled_onto : (seed n : ℕ) (bits : List ℕ) → Bits (8 * n) bits → (xs : List ℕ) × (length xs ≡ n) × AllByRecursion Byte xs × (scrambled seed xs ≡ bits)
scrambled_onto seed n bits h =
    let x = keystream seed in
    let c = masked x 0 bits in
    let b : Bits (8 * n) c = masked_bits x 0 (8 * n) bits h.size in
    (bytes n c, length_bytes n c, bytes_each n c b, ap (masked x 0) (byte_bits_of n c b) ∙ masked_twice x 0 bits h.bits)

pub scrambling_is_invertible : ScramblingIsInvertible
scrambling_is_invertible = (scrambled_bits, scrambled_apart, scrambled_onto)

-- one more byte
pub scrambled_push : (seed n : ℕ) (xs : List ℕ) (y : ℕ) → 8 * length xs ≡ n
    → scrambled seed (xs ++ y ∷ []) ≡ scrambled seed xs ++ low_bits 8 (bit_xor y (mask (keystream seed) n 8))
unfolding mask
scrambled_push seed n xs y e =
    let x = keystream seed in
    ap (masked x 0) (byte_bits_push xs y) ∙ masked-append x 0 (byte_bits xs) (low_bits 8 y)
    ∙ ap (λ us. scrambled seed xs ++ us) (ap (λ m. masked x m (low_bits 8 y)) (omega (arith, (byte_bits_bits xs).size)) ∙ masked_low x (keystream_bit seed) n 8 y)

-- ---- the loops

-- a register that gives the sequence from byte i on, and its first eight values as a number
module _ (seed i v m : ℕ) (gives : (k : ℕ) → given v k ≡ keystream seed (k + 8 * i)) (made : m ≡ mask (given v) 0 8) where
  pub gives_next : (w : ℕ) → ((k : ℕ) → given w k ≡ given v (k + 8)) → (k : ℕ) → given w k ≡ keystream seed (k + 8 * (i + 1))
  gives_next w h k = h k ∙ gives (k + 8) ∙ ap (keystream seed) (omega arith)

  pushed : (zs : List ℕ) (y : ℕ) → length zs ≡ i → scrambled seed (zs ++ y ∷ []) ≡ scrambled seed zs ++ low_bits 8 (bit_xor y m)
  pushed zs y e =
      scrambled_push seed (8 * i) zs y (ap (λ n. 8 * n) e)
      ∙ ap (λ k. scrambled seed zs ++ low_bits 8 (bit_xor y k)) (sym (made ∙ mask_given (keystream seed) v (8 * i) 8 gives))

  -- the code writes eight places
  pub scramble_more : (xs bs ys : List ℕ) → i < length xs → length bs ≡ 8 * length xs → take (8 * i) bs ≡ scrambled seed (take i xs)
      → ys ≡ low_bits (length (take (8 * i + 8 - 8 * i) (drop (8 * i) bs))) (bit_xor (get_or xs i 0) m)
      → take (8 * (i + 1)) (put_mid (8 * i) (8 * i + 8 - 8 * i) bs ys) ≡ scrambled seed (take (i + 1) xs)
  scramble_more xs bs ys inside long done f =
      let y = get_or xs i 0 in
      let e : length (take (8 * i + 8 - 8 * i) (drop (8 * i) bs)) ≡ 8 = simp (length-take, length-drop) (omega arith) in
      let g : ys ≡ low_bits 8 (bit_xor y m) = f ∙ ap (λ w. low_bits w (bit_xor y m)) e in
      let l : length ys ≡ 8 = ap length g in
      take-put_mid (8 * i) (8 * i + 8 - 8 * i) bs ys (8 * (i + 1)) (omega arith) (omega arith) ∙ ap₂ (λ us vs. us ++ vs) done g
      ∙ sym (ap (scrambled seed) (take_more xs i 0 inside) ∙ pushed (take i xs) y (length-take-le i xs (omega arith)))

  -- the code reads eight bits
  pub unscramble_more : (xs bs eight rest : List ℕ) (n : ℕ) → i < length xs → bs ≡ scrambled seed (take i xs) ++ (eight ++ rest) → Bits 8 eight
      → n ≡ number_of eight → bs ≡ scrambled seed (take (i + 1) (set xs i (bit_xor n m))) ++ rest
  unscramble_more xs bs eight rest n inside parts valid f =
      let y = bit_xor n m in
      let u : bit_xor y m ≡ number_of eight = xor_assoc n m m ∙ ap (bit_xor n) (xor_self m) ∙ xor_zero_r n ∙ f in
      let s : scrambled seed (take (i + 1) (set xs i y)) ≡ scrambled seed (take i xs) ++ eight =
      ap (scrambled seed) (take_more_set xs i y inside) ∙ pushed (take i xs) y (length-take-le i xs (omega arith))
      ∙ ap (λ us. scrambled seed (take i xs) ++ us) (ap (low_bits 8) u ∙ low_number 8 eight valid) in
      parts ∙ sym (ap (λ us. us ++ rest) s ∙ append_assoc (scrambled seed (take i xs)) eight rest)

-- the bits of two parts
pub both_bits : (us vs : List ℕ) → AllByRecursion Bit (us ++ vs) → AllByRecursion Bit us × AllByRecursion Bit vs
both_bits [] vs h = (tt, h)
both_bits (u ∷ us) vs h = let r = both_bits us vs h.1 in ((h.0, r.0), r.1)
