-- The counts of a mode, and the words of a part: copies are within reach of one list of bits only, and clean copies are.
use Rattle.std.proofs.Common.{◌≡◌, ℕ, ◌+◌, ◌-◌, ◌*◌, ◌/◌, ◌%◌, ◌<◌, ◌≤◌, ◌⊎◌, List, [], ◌∷◌, ◌++◌, length, take, drop, replicate, sym, refl, ap, ◌∙◌, inl, inr, mod-eq_of_lt, mul-le-mul_left, mul-div_cancel, arith}
use Rattle.std.proofs.Math.Nat.{mod_self, sub-zero}
use Rattle.std.proofs.lemmas.Bool.{cases_eq}
use Rattle.std.specs.List.{AllByRecursion}
use Rattle.std.proofs.lemmas.List.{length-drop, length-replicate, take-append-drop, nil_from_length, append_assoc, drop_at}
use Rattle.std.proofs.ByRecursion.{All-drop, All-get_or, All-from_get_or}
use Rattle.std.proofs.lemmas.Nat.{div-add-mod', mod_below}
use Rattle.bits.specs.Strings.{Bit, Bits}
use Rattle.block_code.specs.Codes.{Code, word, shortened}
use Rattle.block_code.specs.Codes as codes
use Rattle.mode.specs.Shares.{unsents}
use Rattle.mode.specs.Orders.{permuted, forth, back, interleaved, deinterleaved}
use Rattle.mode.specs.Copying.{spread, spoilt}
use Rattle.mode.specs.Modes.{Mode, Lawful, coded, plain, pad, total, count, padded, air}
use Rattle.mode.specs.Parts.{Within, spoilt_all, sized, copies_of}
use Rattle.mode.proofs.Turns.{Undoes, Enough, forth_undoes, back_undoes, length-permuted, get_or-permuted, deinterleave_interleave}
use Rattle.block_code.specs.ShorteningLemmas.{shortened_lawful}
use Rattle.block_code.specs.Zeros.{bits_zeros}
use Rattle.mode.proofs.Spoils.{one_message, word_bits, spoilt_none, length-spread, spread-append, spread_bits}
use Rattle.mode.proofs.Strings.{take_bits, drop_bits, bits_at, append_bits}
use Rattle.mode.proofs.Splits.{carried, unsents_below, carried-unsents, length-unsents}

-- words within reach of the same copies carry the same bits
pub within_one : (c : Code) (s : ℕ) (us xs ys es : List ℕ) → codes.Lawful c → AllByRecursion (λ u. u < c.k) us → Bits (carried c.k us) xs → Bits (carried c.k us) ys
    → AllByRecursion Bit es → s * sized c us ≤ length es → Within c s us xs es → Within c s us ys es → xs ≡ ys
within_one c s [] xs ys es k l a b h g p q = nil_from_length xs a.size ∙ sym (nil_from_length ys b.size)
within_one c s (u ∷ us) xs ys es k l a b h g p q =
    let n = c.k - u in
    let w = s * (n + c.p) in
    let v : s * (n + c.p) + s * sized c us ≤ length es = omega arith in
    let first : take n xs ≡ take n ys = one_message (shortened c u) s (take n xs) (take n ys) es (shortened_lawful c k u l.0)
    (take_bits n (carried c.k us) xs a) (take_bits n (carried c.k us) ys b) h (omega arith) p.0 q.0 in
    let rest : drop n xs ≡ drop n ys = within_one c s us (drop n xs) (drop n ys) (drop w es) k l.1
    (drop_bits n (carried c.k us) xs a) (drop_bits n (carried c.k us) ys b) (All-drop Bit w es h)
    (simp length-drop (omega arith)) p.1 q.1 in
    sym (take-append-drop n xs) ∙ cc (first, rest) ∙ take-append-drop n ys

-- a rule that moves places keeps bits
pub permuted_bits : (n : ℕ) (f g : ℕ → ℕ) (xs : List ℕ) → Undoes n f g → Bits n xs → Bits n (permuted f xs)
permuted_bits n f g xs u b = record {
  size = length-permuted f xs ∙ b.size;
  bits = All-from_get_or Bit (permuted f xs) 0 (λ i h.
      let e = length-permuted f xs in
      let k = b.size in
      let m : f i < n = u.below i (omega arith) in
      rw (get_or-permuted f xs i 0 (omega arith) (omega arith)) (All-get_or Bit xs (f i) 0 (omega arith) b.bits));
}

pub sized-carried : (c : Code) (us : List ℕ) → sized c us ≡ carried c.k us + length us * c.p
sized-carried c [] = omega arith
sized-carried c (u ∷ us) = omega (arith, sized-carried c us)

-- the zeros fill up the last symbol
filled : (a w : ℕ) → 0 < w → (j : ℕ) × (a + (w - a % w) % w ≡ j * w)
filled a w p = go (cases_eq (a % w) 0)
  where
    go : (a % w ≡ 0) ⊎ (a % w ≡ 0 → ⊥) → (j : ℕ) × (a + (w - a % w) % w ≡ j * w)
    go (inl e) = (a / w, rw (e, sub-zero, mod_self) (omega (arith, div-add-mod' a w)))
    go (inr n) =
        let l = mod_below a w p in
        let m : w - a % w < w = omega arith in
        (a / w + 1, rw (mod-eq_of_lt m) (omega (arith, div-add-mod' a w)))

-- the word of the next bits
pub next_word : (c : Code) (u : ℕ) (us xs : List ℕ) → codes.Lawful c → u < c.k → Bits (carried c.k (u ∷ us)) xs
    → Bits (c.k - u + c.p) (word (shortened c u) (take (c.k - u) xs))
next_word c u us xs k l b = word_bits (shortened c u) (take (c.k - u) xs) (shortened_lawful c k u l) (take_bits (c.k - u) (carried c.k us) xs b)

pub coded_bits : (c : Code) (us xs : List ℕ) → codes.Lawful c → AllByRecursion (λ u. u < c.k) us → Bits (carried c.k us) xs → Bits (sized c us) (coded c us xs)
coded_bits c [] xs k l b = record { size = refl; bits = tt }
coded_bits c (u ∷ us) xs k l b =
    append_bits (c.k - u + c.p) (sized c us) (word (shortened c u) (take (c.k - u) xs)) (coded c us (drop (c.k - u) xs))
    (next_word c u us xs k l.0 b)
    (coded_bits c us (drop (c.k - u) xs) k l.1 (drop_bits (c.k - u) (carried c.k us) xs b))

-- clean copies spoil no bit of any word
spoilt_clean : (c : Code) (s : ℕ) (us xs es : List ℕ) → codes.Lawful c → 0 < s → AllByRecursion (λ u. u < c.k) us → Bits (carried c.k us) xs
    → (Within c s us xs (spread s (coded c us xs) ++ es)) × (spoilt_all c s us xs (spread s (coded c us xs) ++ es) ≡ 0)
spoilt_clean c s [] xs es k p l b = (tt, refl)
spoilt_clean c s (u ∷ us) xs es k p l b =
    let n = c.k - u in
    let v = word (shortened c u) (take n xs) in
    let more = coded c us (drop n xs) in
    let e : spread s (v ++ more) ++ es ≡ spread s v ++ (spread s more ++ es) = ap (λ ys. ys ++ es) (spread-append s v more) ∙ append_assoc (spread s v) (spread s more) es in
    let len : length (spread s v) ≡ s * (n + c.p) = length-spread s v ∙ ap (λ i. s * i) (next_word c u us xs k l.0 b).size in
    let d : drop (s * (n + c.p)) (spread s v ++ (spread s more ++ es)) ≡ spread s more ++ es = drop_at (spread s v) (spread s more ++ es) (s * (n + c.p)) len in
    let z : spoilt s v (spread s v ++ (spread s more ++ es)) ≡ 0 = spoilt_none s v (spread s more ++ es) p in
    let ih = spoilt_clean c s us (drop n xs) es k p l.1 (drop_bits n (carried c.k us) xs b) in
    (rw e (omega (arith, z), rw d ih.0), rw e (rw (d, z) (omega (arith, ih.1))))

pub plain-total : (m : Mode) (n : ℕ) → plain m n ≤ total m n
unfolding total
plain-total m n = omega arith

module _ (m : Mode) (u : Lawful m) where
  pub roomy : 0 < m.code.k
  roomy = omega (arith, u.roomy)

  pub several : 0 < m.copies
  several = elim u.copies [ inl e ↦ omega arith | inr (inl e) ↦ omega arith | inr (inr e) ↦ omega arith ]

  pub few_copies : m.copies ≤ 4
  few_copies = elim u.copies [ inl e ↦ omega arith | inr (inl e) ↦ omega arith | inr (inr e) ↦ omega arith ]

  pub wide : 0 < m.map.w
  wide = omega (arith, u.map.some)

  pub sized-plain : (n : ℕ) → sized m.code (unsents m.code.k n) ≡ plain m n
  unfolding plain
  sized-plain n = omega (arith, sized-carried m.code (unsents m.code.k n), carried-unsents m.code.k n roomy, ap (λ i. i * m.code.p) (length-unsents m.code.k n))

  pub total_enough : (n : ℕ) → 2 ≤ n → Enough (total m n)
  unfolding total plain
  total_enough n l e = omega arith

  pub count_width : (n : ℕ) → count m n * m.map.w ≡ m.copies * total m n
  unfolding count total pad
  count_width n =
      let f = filled (plain m n) m.map.w wide in
      let e : m.copies * (plain m n + (m.map.w - plain m n % m.map.w) % m.map.w) ≡ (m.copies * f.0) * m.map.w =
      ap (λ i. m.copies * i) f.1 ∙ omega arith in
      rw e (ap (λ i. i * m.map.w) (mul-div_cancel (m.copies * f.0) wide))

  pub unsents_bits : (n : ℕ) (xs : List ℕ) → Bits n xs → Bits (carried m.code.k (unsents m.code.k n)) xs
  unsents_bits n xs b = bits_at _ _ xs (sym (carried-unsents m.code.k n roomy)) b

  -- the copies of a part from which bits were read
  pub copies_bits : (n : ℕ) (bs : List ℕ) → 2 ≤ n → Bits (m.copies * total m n) bs → Bits (m.copies * total m n) (copies_of m n bs)
  unfolding deinterleaved
  copies_bits n bs l b =
      permuted_bits (m.copies * total m n) (back m.copies (total m n)) (forth m.copies (total m n)) bs (back_undoes m.copies (total m n) several (total_enough n l)) b

  -- the copies of all words are there
  pub copies_there : (n : ℕ) → m.copies * sized m.code (unsents m.code.k n) ≤ m.copies * total m n
  copies_there n = omega (arith, mul-le-mul_left m.copies (plain-total m n), ap (λ i. m.copies * i) (sized-plain n))

  pub padded_bits : (n : ℕ) (xs : List ℕ) → Bits n xs → Bits (total m n) (padded m xs)
  unfolding total padded
  padded_bits n xs b =
      rw b.size
      (append_bits (plain m n) (pad m n) (coded m.code (unsents m.code.k n) xs) (replicate (pad m n) 0)
      (bits_at _ _ (coded m.code (unsents m.code.k n) xs) (sized-plain n)
      (coded_bits m.code (unsents m.code.k n) xs u.code (unsents_below m.code.k n roomy) (unsents_bits n xs b)))
      (record { size = length-replicate (pad m n) 0; bits = bits_zeros (pad m n) }))

  pub air_bits : (n : ℕ) (xs : List ℕ) → 2 ≤ n → Bits n xs → Bits (m.copies * total m n) (air m xs)
  unfolding air interleaved
  air_bits n xs l b =
      rw b.size
      (permuted_bits (m.copies * total m n) (forth m.copies (total m n)) (back m.copies (total m n)) (spread m.copies (padded m xs)) (forth_undoes m.copies (total m n) several (total_enough n l))
      (spread_bits m.copies (total m n) (padded m xs) (padded_bits n xs b)))

  -- the copies of what is sent
  air_copies : (n : ℕ) (xs : List ℕ) → 2 ≤ n → Bits n xs → copies_of m n (air m xs) ≡ spread m.copies (padded m xs)
  unfolding air
  air_copies n xs l b =
      rw b.size
      (deinterleave_interleave m.copies (total m n) (spread m.copies (padded m xs)) several (total_enough n l)
      (spread_bits m.copies (total m n) (padded m xs) (padded_bits n xs b)).size)

  clean_padded : (n : ℕ) (xs : List ℕ) → Bits n xs
      → Within m.code m.copies (unsents m.code.k n) xs (spread m.copies (padded m xs)) × (spoilt_all m.code m.copies (unsents m.code.k n) xs (spread m.copies (padded m xs)) ≡ 0)
  unfolding padded
  clean_padded n xs b =
      rw (b.size, spread-append m.copies (coded m.code (unsents m.code.k n) xs) (replicate (pad m n) 0))
      (spoilt_clean m.code m.copies (unsents m.code.k n) xs (spread m.copies (replicate (pad m n) 0)) u.code several (unsents_below m.code.k n roomy)
      (unsents_bits n xs b))

  -- what is sent spoils no bit
  pub clean : (n : ℕ) (xs : List ℕ) → 2 ≤ n → Bits n xs
      → Within m.code m.copies (unsents m.code.k n) xs (copies_of m n (air m xs)) × (spoilt_all m.code m.copies (unsents m.code.k n) xs (copies_of m n (air m xs)) ≡ 0)
  clean n xs l b = rw (air_copies n xs l b) (clean_padded n xs b)
