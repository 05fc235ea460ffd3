-- Where two words differ, the copies spoil one of them: so copies are within reach of one message only. A bit that is
-- not spoilt is decided rightly.
use Rattle.std.proofs.Common.{◌≡◌, ℕ, zero, suc, ◌+◌, ◌*◌, ◌<◌, ◌≤◌, cond, eqb, leb, List, [], ◌∷◌, ◌++◌, length, get_or, take, drop, replicate, sym, refl, ap, ◌∙◌, inl, inr, arith}
use Rattle.std.specs.List.{AllByRecursion}
use Rattle.std.proofs.lemmas.List.{length-take-le, length-drop, length-append, length-replicate, append_assoc, take_at, drop_at, take-append-le, drop-append-le}
use Rattle.std.proofs.ByRecursion.{All-take, All-drop, All-append, All-get_or}
use Rattle.std.proofs.lemmas.Bool.{eq-eqb, ne_eqb, cases_eq, le-leb, lt-leb, lt-ltb, le-ltb, cases_lt}
use Rattle.bits.specs.Strings.{Bit, Bits}
use Rattle.block_code.specs.Codes.{distance, Code, word, Lawful}
use Rattle.mode.specs.Copying.{spread, differing, majority, decided, spoilt}
use Rattle.mode.proofs.Strings.{cases_list}

pub differing-le : (b : ℕ) (xs : List ℕ) → differing b xs ≤ length xs
differing-le b [] = omega arith
differing-le b (x ∷ xs) = let h = differing-le b xs in grind (arith, cases_eq b x, eq-eqb, ne_eqb)

pub differing_both : (a b : ℕ) (ys : List ℕ) → Bit a → Bit b → (a ≡ b → ⊥) → AllByRecursion Bit ys → differing a ys + differing b ys ≡ length ys
differing_both a b [] x y n h = refl
differing_both a b (c ∷ ys) x y n h =
    let ih = differing_both a b ys x y n h.1 in
    let k : c < 2 = h.0 in
    grind (arith, cases_eq a c, cases_eq b c, eq-eqb, ne_eqb)

pub distance-spoilt : (s : ℕ) (us vs ys : List ℕ) → length us ≡ length vs → AllByRecursion Bit us → AllByRecursion Bit vs → AllByRecursion Bit ys → s * length us ≤ length ys → distance us vs ≤ spoilt s us ys + spoilt s vs ys
distance-spoilt s [] vs ys e a b c h = omega arith
distance-spoilt s (u ∷ us) [] ys e a b c h = omega arith
distance-spoilt s (u ∷ us) (v ∷ vs) ys e a b c h =
    let n : s + s * length us ≤ length ys = omega arith in
    let ih = distance-spoilt s us vs (drop s ys) (omega arith) a.1 b.1 (All-drop Bit s ys c) (simp length-drop (omega arith)) in
    omega (arith, one s u v (take s ys) a.0 b.0 (All-take Bit s ys c) (length-take-le s ys (omega arith)), ih)
  where
    one : (s u v : ℕ) (ys : List ℕ) → Bit u → Bit v → AllByRecursion Bit ys → length ys ≡ s → cond (eqb u v) 0 1 ≤ cond (leb s (2 * differing u ys)) 1 0 + cond (leb s (2 * differing v ys)) 1 0
    one s u v ys p q r e = elim (cases_eq u v) [
      | inl x ↦ rw (eq-eqb u v x) (omega arith)
      | inr x ↦ let d = differing_both u v ys p q x r in grind (arith, le-leb)
    ]

pub word_bits : (c : Code) (m : List ℕ) → Lawful c → Bits c.k m → Bits (c.k + c.p) (word c m)
word_bits c m s b =
    let k = s.checks m b in
    record { size = simp length-append (omega arith); bits = All-append Bit m (c.parity m) b.bits k.bits }

-- copies are within reach of one message only
pub one_message : (c : Code) (s : ℕ) (m n ys : List ℕ) → Lawful c → Bits c.k m → Bits c.k n → AllByRecursion Bit ys
    → s * (c.k + c.p) ≤ length ys → spoilt s (word c m) ys ≤ c.t → spoilt s (word c n) ys ≤ c.t → m ≡ n
one_message c s m n ys k a b h l p q = elim (cases_list m n) [
  | inl e ↦ e
  | inr ne ↦
      let u = word_bits c m k a in
      let v = word_bits c n k b in
      let r : length (word c m) ≡ length (word c n) = omega arith in
      let w : s * length (word c m) ≤ length ys = omega (arith, ap (λ i. s * i) u.size) in
      absurd (omega (arith, k.apart m n a b ne, distance-spoilt s (word c m) (word c n) ys r u.bits v.bits h w))
]

-- copies that are all equal to their bits spoil none, whatever comes after them
differing_none : (s b : ℕ) → differing b (replicate s b) ≡ 0
differing_none zero b = refl
differing_none (suc s) b = rw (eq-eqb b b refl) (omega (arith, differing_none s b))

pub spoilt_none : (s : ℕ) (bs ys : List ℕ) → 0 < s → spoilt s bs (spread s bs ++ ys) ≡ 0
spoilt_none s [] ys p = refl
spoilt_none s (b ∷ bs) ys p =
    let e : (replicate s b ++ spread s bs) ++ ys ≡ replicate s b ++ (spread s bs ++ ys) = append_assoc (replicate s b) (spread s bs) ys in
    let t = take_at (replicate s b) (spread s bs ++ ys) s (length-replicate s b) in
    let d = drop_at (replicate s b) (spread s bs ++ ys) s (length-replicate s b) in
    rw (e, t, d, differing_none s b, lt-leb s 0 p, spoilt_none s bs ys p)

pub length-spread : {A : Type 0} (s : ℕ) (xs : List A) → length (spread s xs) ≡ s * length xs
length-spread s [] = omega arith
length-spread s (x ∷ xs) = rw (length-append, length-replicate) (omega (arith, length-spread s xs))

pub spread-append : {A : Type 0} (s : ℕ) (xs ys : List A) → spread s (xs ++ ys) ≡ spread s xs ++ spread s ys
spread-append s [] ys = refl
spread-append s (x ∷ xs) ys = ap (λ zs. replicate s x ++ zs) (spread-append s xs ys) ∙ sym (append_assoc (replicate s x) (spread s xs) (spread s ys))

pub spread_bits : (s n : ℕ) (xs : List ℕ) → Bits n xs → Bits (s * n) (spread s xs)
spread_bits s n xs b = record { size = length-spread s xs ∙ ap (λ i. s * i) b.size; bits = all_spread xs b.bits }
  where
    all_same : (j x : ℕ) → Bit x → AllByRecursion Bit (replicate j x)
    all_same zero x h = tt
    all_same (suc j) x h = (h, all_same j x h)

    all_spread : (xs : List ℕ) → AllByRecursion Bit xs → AllByRecursion Bit (spread s xs)
    all_spread [] h = tt
    all_spread (x ∷ xs) h = All-append Bit (replicate s x) (spread s xs) (all_same s x h.0) (all_spread xs h.1)

-- what most copies say: below 2, and the bit itself if less than half of the copies differ from it
pub majority_bit : (xs : List ℕ) → 0 < length xs → AllByRecursion Bit xs → Bit (majority xs)
majority_bit xs p h =
    let b : get_or xs 0 0 < 2 = All-get_or Bit xs 0 0 p h in
    elim (cases_lt (length xs) (2 * differing (get_or xs 0 0) xs)) [
      | inl l ↦ rw (lt-ltb (length xs) (2 * differing (get_or xs 0 0) xs) l) (omega arith)
      | inr l ↦ rw (le-ltb (length xs) (2 * differing (get_or xs 0 0) xs) l) (omega arith)
    ]

pub majority_right : (b : ℕ) (xs : List ℕ) → 0 < length xs → Bit b → AllByRecursion Bit xs → 2 * differing b xs < length xs → majority xs ≡ b
majority_right b xs p k h l =
    let a : get_or xs 0 0 < 2 = All-get_or Bit xs 0 0 p h in
    elim (cases_eq (get_or xs 0 0) b) [
      | inl e ↦ let f : differing (get_or xs 0 0) xs ≡ differing b xs = ap (λ i. differing i xs) e in
          rw (le-ltb (length xs) (2 * differing (get_or xs 0 0) xs) (omega arith)) e
      | inr n ↦ let d = differing_both (get_or xs 0 0) b xs a k n h in
          rw (lt-ltb (length xs) (2 * differing (get_or xs 0 0) xs) (omega arith)) (omega arith)
    ]

pub decided_bits : (s n : ℕ) (xs : List ℕ) → 0 < s → s * n ≤ length xs → AllByRecursion Bit xs → Bits n (decided s n xs)
decided_bits s zero xs p l h = record { size = refl; bits = tt }
decided_bits s (suc n) xs p l h =
    let m : s + s * n ≤ length xs = omega arith in
    let e : length (take s xs) ≡ s = length-take-le s xs (omega arith) in
    let ih = decided_bits s n (drop s xs) p (simp length-drop (omega arith)) (All-drop Bit s xs h) in
    record { size = ap suc ih.size; bits = (majority_bit (take s xs) (omega arith) (All-take Bit s xs h), ih.bits) }

-- the decided bits differ from a word in no more places than it has spoilt bits
pub decided_near : (s : ℕ) (ws xs : List ℕ) → 0 < s → s * length ws ≤ length xs → AllByRecursion Bit ws → AllByRecursion Bit xs → distance ws (decided s (length ws) xs) ≤ spoilt s ws xs
decided_near s [] xs p l a h = omega arith
decided_near s (b ∷ bs) xs p l a h =
    let m : s + s * length bs ≤ length xs = omega arith in
    let e : length (take s xs) ≡ s = length-take-le s xs (omega arith) in
    let ih = decided_near s bs (drop s xs) p (simp length-drop (omega arith)) a.1 (All-drop Bit s xs h) in
    omega (arith, ih, one a.0 (All-take Bit s xs h) e)
  where
    one : Bit b → AllByRecursion Bit (take s xs) → length (take s xs) ≡ s → cond (eqb b (majority (take s xs))) 0 1 ≤ cond (leb s (2 * differing b (take s xs))) 1 0
    one k r e = elim (cases_lt (2 * differing b (take s xs)) s) [
      | inl q ↦ rw (eq-eqb b (majority (take s xs)) (sym (majority_right b (take s xs) (omega arith) k r (omega arith)))) (omega arith)
      | inr q ↦ rw (le-leb s (2 * differing b (take s xs)) q) (elim (cases_eq b (majority (take s xs))) [
        | inl z ↦ rw (eq-eqb b (majority (take s xs)) z) (omega arith)
        | inr z ↦ rw (ne_eqb b (majority (take s xs)) z) (omega arith)
      ])
    ]

-- spoilt bits depend only on the copies of the word
pub spoilt-front : (s : ℕ) (ws xs ys : List ℕ) → s * length ws ≤ length xs → spoilt s ws (xs ++ ys) ≡ spoilt s ws xs
spoilt-front s [] xs ys l = refl
spoilt-front s (b ∷ bs) xs ys l =
    let m : s + s * length bs ≤ length xs = omega arith in
    let k : s ≤ length xs = omega arith in
    rw (take-append-le s xs ys k, drop-append-le s xs ys k)
    (ap (λ n. cond (leb s (2 * differing b (take s xs))) 1 0 + n) (spoilt-front s bs (drop s xs) ys (simp length-drop (omega arith))))

pub spoilt-le : (s : ℕ) (ws es : List ℕ) → spoilt s ws es ≤ length ws
spoilt-le s [] es = omega arith
spoilt-le s (b ∷ ws) es =
    let ih = spoilt-le s ws (drop s es) in
    elim (cases_lt (2 * differing b (take s es)) s) [
      | inl l ↦ rw (lt-leb s (2 * differing b (take s es)) l) (omega arith)
      | inr l ↦ rw (le-leb s (2 * differing b (take s es)) l) (omega arith)
    ]
