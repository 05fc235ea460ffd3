-- Places turned round, and what the search for them shows.
use Rattle.std.proofs.Common.{◌≡◌, ℕ, zero, suc, ◌+◌, ◌-◌, ◌*◌, ◌/◌, ◌%◌, ◌<◌, ◌≤◌, ◌≢◌, List, [], ◌∷◌, ◌++◌, length, get_or, take, drop, set, sym, refl, ap, ◌∙◌, ap₂, inl, inr, arith, length-append, length-drop, length-set, take-append-drop, length-take}
use Rattle.std.specs.Prelude.{bit_xor}
use Rattle.std.specs.Int.Bits.{xor_assoc, xor_zero_r, xor_self}
use Rattle.std.proofs.lemmas.Nat.{xor_lt, xor_block}
use Rattle.std.proofs.ByRecursion.{All-append, All-take, All-drop}
use Rattle.std.proofs.lemmas.Bool.{cases_lt}
use Rattle.std.proofs.lemmas.List.{get_or-set_other}
use Rattle.std.specs.List.{AllByRecursion}
use Rattle.bits.specs.Strings.{Bit, Bits}
use Rattle.block_code.specs.Codes.{distance}
use Rattle.block_code.specs.Answers.{Corrected, Far}
use Rattle.block_code.specs.Bch.{pick, sum_at, power, times, cubed, first, third, parity, bch63, Fits1, Fits2, Vanish, Only}
use Rattle.block_code.specs.Linear.{added, length-added, sum_added, pick-xor, xor_left}
use Rattle.block_code.specs.Words.{word-zero, zero_word, length-parity}
use Rattle.block_code.specs.Distances.{distance_self}
use Rattle.block_code.specs.Places.{places, total, sum-places, Falls, places_fall, length-places}
use Rattle.block_code.specs.Distance.{bits_parity}
use Rattle.block_code.specs.Pairs.{both}

-- ---- the two sums, and both as one number

power-lt : (i : ℕ) → power i < 64
unfolding power times
power-lt zero = omega arith
power-lt (suc i) = xor_lt 6 ((2 * power i) % 64) (pick (power i / 32 % 2) 3) (omega arith) (small (power i / 32 % 2))
  where
    small : (b : ℕ) → pick b 3 < 64
    small zero = omega arith
    small (suc b) = omega arith

sum_lt : (f : ℕ → ℕ) → ((i : ℕ) → f i < 64) → (w : List ℕ) → sum_at f w < 64
sum_lt f h [] = omega arith
sum_lt f h (b ∷ w) = xor_lt 6 (pick b (f (length w))) (sum_at f w) (small b) (sum_lt f h w)
  where
    small : (b : ℕ) → pick b (f (length w)) < 64
    small zero = omega arith
    small (suc b) = h (length w)

pub both_two : (p q : ℕ) → bit_xor (both p) (both q) ≡ bit_xor (cubed p) (cubed q) * 64 + bit_xor (power p) (power q)
unfolding both
both_two p q = xor_block 6 (cubed p) (cubed q) (power p) (power q) (power-lt p) (power-lt q)

pub both_one : (p : ℕ) → both p ≡ cubed p * 64 + power p
unfolding both
both_one p = refl

pub both_sums : (w : List ℕ) → sum_at both w ≡ third w * 64 + first w
both_sums [] = refl
both_sums (zero ∷ w) = both_sums w
both_sums (suc b ∷ w) =
    ap₂ bit_xor (both_one (length w)) (both_sums w)
    ∙ xor_block 6 (cubed (length w)) (third w) (power (length w)) (first w) (power-lt (length w)) (sum_lt power power-lt w)

-- ---- a place turned round

abbrev pub flip : List ℕ → ℕ → List ℕ
flip w j = set w j (bit_xor (get_or w j 0) 1)

pub bits_flip : (w : List ℕ) (j : ℕ) → AllByRecursion Bit w → AllByRecursion Bit (flip w j)
bits_flip [] j h = tt
bits_flip (b ∷ w) zero h = (xor_lt 1 b 1 h.0 (omega arith), h.1)
bits_flip (b ∷ w) (suc j) h = (h.0, bits_flip w j h.1)

pub flip-sum : (f : ℕ → ℕ) (w : List ℕ) (j k : ℕ) → suc (j + k) ≡ length w → AllByRecursion Bit w → sum_at f (flip w j) ≡ bit_xor (f k) (sum_at f w)
flip-sum f [] j k l h = absurd (omega arith)
flip-sum f (b ∷ w) zero k l h =
    let e : length w ≡ k = omega arith in
    ap (λ x. bit_xor x (sum_at f w)) (pick-xor b 1 (f (length w)) h.0 (omega arith))
    ∙ xor_assoc (pick b (f (length w))) (f (length w)) (sum_at f w)
    ∙ xor_left (pick b (f (length w))) (f (length w)) (sum_at f w)
    ∙ ap (λ n. bit_xor (f n) (sum_at f (b ∷ w))) e
flip-sum f (b ∷ w) (suc j) k l h =
    ap₂ (λ n x. bit_xor (pick b (f n)) x) (length-set w j (bit_xor (get_or w j 0) 1)) (flip-sum f w j k (omega arith) h.1)
    ∙ xor_left (pick b (f (length w))) (f k) (sum_at f w)

pub distance-flip : (v w : List ℕ) (j : ℕ) → length v ≡ length w → j < length v → AllByRecursion Bit v → get_or v j 0 ≡ get_or w j 0 → distance (flip v j) w ≡ suc (distance v w)
distance-flip [] w j l h b e = absurd (omega arith)
distance-flip (x ∷ v) [] j l h b e = absurd (omega arith)
distance-flip (zero ∷ v) (y ∷ w) zero l h b e = rw (← e) (omega arith)
distance-flip (suc zero ∷ v) (y ∷ w) zero l h b e = rw (← e) (omega arith)
distance-flip (suc (suc x) ∷ v) (y ∷ w) zero l h b e = absurd (omega arith)
distance-flip (x ∷ v) (y ∷ w) (suc j) l h b e = omega (arith, distance-flip v w j (omega arith) (omega arith) b.1 e)

-- ---- what is found is a word

pub corrected : (before after : List ℕ) (n : ℕ) → length after ≡ 63 → AllByRecursion Bit after → sum_at both after ≡ 0 → distance after before ≡ n → n ≤ 2
    → Corrected bch63 before after n
corrected before after n l h z d t =
    record {
      message = take 51 after;
      valid = record { size = size; bits = All-take Bit 51 after h };
      is = is;
      count = ap (λ w. distance w before) (sym is) ∙ d;
      within = t;
    }
  where
    size : length (take 51 after) ≡ 51
    size = omega (arith, length-take 51 after)

    is : after ≡ take 51 after ++ parity (take 51 after)
    is =
        sym (take-append-drop 51 after)
        ∙ ap (λ q. take 51 after ++ q)
        (zero_word (take 51 after) (drop 51 after) size (All-take Bit 51 after h) (omega (arith, length-drop 51 after)) (All-drop Bit 51 after h)
        (ap (sum_at both) (take-append-drop 51 after) ∙ z))

-- ---- and where nothing is found, no word is near

module _ (v : List ℕ) (l : length v ≡ 63) (h : AllByRecursion Bit v)
    (none : first v ≡ 0 → third v ≡ 0 → ⊥)
    (ones : (k : ℕ) → k < 63 → Fits1 (first v) (third v) k → ⊥)
    (twos : (k m : ℕ) → k < 63 → m < k → Fits2 (first v) (third v) k m → ⊥) where
  miss : (ps : List ℕ) → Falls 63 ps → total both ps ≡ third v * 64 + first v → length ps ≤ 2 → ⊥
  miss [] f e n = none (omega arith) (omega arith)
  miss (p ∷ []) f e n =
      let x : cubed p * 64 + power p ≡ third v * 64 + first v = sym (both_one p) ∙ sym (xor_zero_r (both p)) ∙ e in
      ones p f.0 (omega (arith, power-lt p, sum_lt power power-lt v), omega (arith, power-lt p, sum_lt power power-lt v))
  miss (p ∷ q ∷ []) f e n =
      let x : bit_xor (cubed p) (cubed q) * 64 + bit_xor (power p) (power q) ≡ third v * 64 + first v =
      sym (both_two p q) ∙ ap (bit_xor (both p)) (sym (xor_zero_r (both q))) ∙ e in
      let y : bit_xor (power p) (power q) < 64 = xor_lt 6 (power p) (power q) (power-lt p) (power-lt q) in
      let z : first v < 64 = sum_lt power power-lt v in
      twos p q f.0 f.1.0 (omega arith, omega arith)
  miss (p ∷ q ∷ r ∷ ps) f e n = absurd (omega arith)

  pub far : Far bch63 v
  far m M =
      elim (cases_lt 2 (distance (m ++ parity m) v)) [
        | inl lt ↦ lt
        | inr le ↦
            let w : List ℕ = m ++ parity m in
            let k : length w ≡ length v = omega (arith, length-append m (parity m), length-parity m, M.size) in
            let b : AllByRecursion Bit w = All-append Bit m (parity m) M.bits (bits_parity m) in
            let n : length (added w v) ≡ 63 = length-added w v k ∙ k ∙ l in
            let f : Falls 63 (places (added w v)) = rw n at (places_fall (added w v)) in
            absurd (miss (places (added w v)) f
            (sym (sum-places both (added w v)) ∙ sum_added both w v k b h ∙ ap (λ x. bit_xor x (sum_at both v)) (word-zero m M.size M.bits) ∙ both_sums v)
            (omega (arith, length-places w v k b h)))
      ]

-- ---- what the search finds, in the words of the code

module _ (v : List ℕ) (V : Bits 63 v) (s t : ℕ) (es : s ≡ first v) (et : t ≡ third v) where
  l : length v ≡ 63
  l = V.size

  h : AllByRecursion Bit v
  h = V.bits

  sums : sum_at both v ≡ t * 64 + s
  sums = both_sums v ∙ ap₂ (λ x y. x * 64 + y) (sym et) (sym es)

  pub found0 : s ≡ 0 → t ≡ 0 → Corrected bch63 v v 0
  found0 x y = corrected v v 0 l h (sums ∙ ap₂ (λ x y. x * 64 + y) y x) (distance_self v) (omega arith)

  pub found1 : (i : ℕ) → i < 63 → Fits1 s t i → Corrected bch63 v (flip v (62 - i)) 1
  found1 i n f =
      corrected v (flip v (62 - i)) 1 (length-set v (62 - i) (bit_xor (get_or v (62 - i) 0) 1) ∙ l) (bits_flip v (62 - i) h)
      (flip-sum both v (62 - i) i (omega arith) h
      ∙ ap (bit_xor (both i)) (sums ∙ ap₂ (λ x y. x * 64 + y) (sym f.1) (sym f.0) ∙ sym (both_one i)) ∙ xor_self (both i))
      (distance-flip v v (62 - i) refl (omega arith) h refl ∙ ap suc (distance_self v)) (omega arith)

  pub found2 : (i j : ℕ) → i < 63 → j < i → Fits2 s t i j → Corrected bch63 v (flip (flip v (62 - i)) (62 - j)) 2
  found2 i j n m f =
      corrected v (flip u (62 - j)) 2 (length-set u (62 - j) (bit_xor (get_or u (62 - j) 0) 1) ∙ k) (bits_flip u (62 - j) b)
      (flip-sum both u (62 - j) j (omega (arith, k)) b ∙ ap (bit_xor (both j)) (flip-sum both v (62 - i) i (omega arith) h)
      ∙ xor_left (both j) (both i) (sum_at both v) ∙ sym (xor_assoc (both i) (both j) (sum_at both v))
      ∙ ap (bit_xor (bit_xor (both i) (both j)))
      (sums ∙ ap₂ (λ x y. x * 64 + y) (sym f.1) (sym f.0) ∙ sym (both_two i j))
      ∙ xor_self (bit_xor (both i) (both j)))
      (distance-flip u v (62 - j) (k ∙ sym l) (omega (arith, k)) b other ∙ ap suc (distance-flip v v (62 - i) refl (omega arith) h refl ∙ ap suc (distance_self v)))
      (omega arith)
    where
      u : List ℕ
      u = flip v (62 - i)

      k : length u ≡ 63
      k = length-set v (62 - i) (bit_xor (get_or v (62 - i) 0) 1) ∙ l

      b : AllByRecursion Bit u
      b = bits_flip v (62 - i) h

      apart : 62 - j ≢ 62 - i
      apart = omega arith

      other : get_or u (62 - j) 0 ≡ get_or v (62 - j) 0
      other = get_or-set_other v (62 - i) (62 - j) (bit_xor (get_or v (62 - i) 0) 1) 0 apart

  pub lost : (s ≡ 0 → t ≡ 0 → ⊥) → ((k : ℕ) → k < 63 → Fits1 s t k → ⊥) → ((k m : ℕ) → k < 63 → m < k → Fits2 s t k m → ⊥) → Far bch63 v
  lost none ones twos =
      far v l h (λ x y. none (es ∙ x) (et ∙ y)) (λ k n f. ones k n (f.0 ∙ sym es, f.1 ∙ sym et))
      (λ k m n o f. twos k m n o (f.0 ∙ sym es, f.1 ∙ sym et))

-- ---- the sums of words

pub vanish : Vanish
vanish m M =
    let e : third (m ++ parity m) * 64 + first (m ++ parity m) ≡ 0 = sym (both_sums (m ++ parity m)) ∙ word-zero m M.size M.bits in
    (omega arith, omega arith)

pub only : Only
only m q M Q e f =
    ap (λ x. m ++ x) (zero_word m q M.size M.bits Q.size Q.bits (both_sums (m ++ q) ∙ ap₂ (λ x y. x * 64 + y) f e))
