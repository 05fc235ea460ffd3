-- Places that are moved and moved back.
use Rattle.std.proofs.Common.{◌≡◌, ℕ, ◌+◌, ◌-◌, ◌*◌, ◌/◌, ◌%◌, ◌<◌, ltb, ◌⊎◌, List, [], ◌∷◌, length, get_or, sym, refl, ap, ◌∙◌, inl, inr, mul_comm, arith}
use Rattle.std.proofs.lemmas.List.{same_lists, get_or_default}
use Rattle.std.proofs.lemmas.List.FromFn.{length-map-range_with_len, get_or-map-range_with_len}
use Rattle.std.proofs.lemmas.Nat.{div-mul-add, mod-mul-add, div-add-mod', mod_below, div_below, mul-add-lt}
use Rattle.std.proofs.lemmas.Bool.{lt-ltb, le-ltb, cases_lt, cond-true, cond-false}
use Rattle.mode.specs.Orders.{turned, blocked, headed, lead, forth, back, permuted, interleaved, deinterleaved, Undoing}

pub turned_below : (d s i : ℕ) → 0 < d → i < d * s → turned d s i < d * s
unfolding turned
turned_below d s i p h =
    let q : i / d < s = div_below i d s p (omega arith) in
    omega (arith, mul-add-lt (i % d) s (i / d) d (mod_below i d p) q)

pub turned_back : (d s i : ℕ) → 0 < d → i < d * s → turned s d (turned d s i) ≡ i
unfolding turned
turned_back d s i p h =
    let q : i / d < s = div_below i d s p (omega arith) in
    let e : s * (i % d) + i / d ≡ (i % d) * s + i / d = omega arith in
    let a = div-mul-add (i % d) s (i / d) q in
    let b = mod-mul-add (i % d) s (i / d) q in
    let m = div-add-mod' i d in
    rw (e, a, b) (omega arith)

-- a rule that moves places below n to places below n, and g that moves them back
pub record Undoes (n : ℕ) (f g : ℕ → ℕ) : Type 0 where
  pub below : (i : ℕ) → i < n → f i < n
  pub undone : (i : ℕ) → i < n → g (f i) ≡ i

pub turned_undoes : (d s : ℕ) → 0 < d → Undoes (d * s) (turned d s) (turned s d)
turned_undoes d s p = record { below = λ i h. turned_below d s i p h; undone = λ i h. turned_back d s i p h }

pub blocked_undoes : (b m : ℕ) (f g : ℕ → ℕ) → 0 < b → Undoes b f g → Undoes (b * m) (blocked b f) (blocked b g)
unfolding blocked
blocked_undoes b m f g p u = record { below = below; undone = undone }
  where
    below : (i : ℕ) → i < b * m → b * (i / b) + f (i % b) < b * m
    below i h =
        let q : i / b < m = div_below i b m p (omega arith) in
        let r = u.below (i % b) (mod_below i b p) in
        omega (arith, mul-add-lt (i / b) b (f (i % b)) m q r)

    undone : (i : ℕ) → i < b * m → b * ((b * (i / b) + f (i % b)) / b) + g ((b * (i / b) + f (i % b)) % b) ≡ i
    undone i h =
        let r = u.below (i % b) (mod_below i b p) in
        let e : b * (i / b) + f (i % b) ≡ (i / b) * b + f (i % b) = omega arith in
        let x = div-mul-add (i / b) b (f (i % b)) r in
        let y = mod-mul-add (i / b) b (f (i % b)) r in
        let z = u.undone (i % b) (mod_below i b p) in
        let m = div-add-mod' i b in
        rw (e, x, y, z) (omega arith)

pub headed_low : (h : ℕ) (f g : ℕ → ℕ) (i : ℕ) → i < h → headed h f g i ≡ f i
unfolding headed
headed_low h f g i l = cond-true (ltb i h) (f i) (h + g (i - h)) (lt-ltb i h l)

pub headed_high : (h : ℕ) (f g : ℕ → ℕ) (i : ℕ) → headed h f g (h + i) ≡ h + g i
unfolding headed
headed_high h f g i =
    let e : h + i - h ≡ i = omega arith in
    cond-false (ltb (h + i) h) (f (h + i)) (h + g (h + i - h)) (le-ltb (h + i) h (omega arith)) ∙ ap (λ j. h + g j) e

pub headed_undoes : (h n : ℕ) (f f' g g' : ℕ → ℕ) → Undoes h f f' → Undoes n g g' → Undoes (h + n) (headed h f g) (headed h f' g')
headed_undoes h n f f' g g' u v = record { below = below; undone = undone }
  where
    below : (i : ℕ) → i < h + n → headed h f g i < h + n
    below i l = elim (cases_lt i h) [
      | inl x ↦ rw (headed_low h f g i x) (omega (arith, u.below i x))
      | inr x ↦ let e : i ≡ h + (i - h) = omega arith in
          let w : i - h < n = omega arith in
          omega (arith, ap (headed h f g) e, headed_high h f g (i - h), v.below (i - h) w)
    ]

    undone : (i : ℕ) → i < h + n → headed h f' g' (headed h f g i) ≡ i
    undone i l = elim (cases_lt i h) [
      | inl x ↦ ap (headed h f' g') (headed_low h f g i x) ∙ headed_low h f' g' (f i) (u.below i x) ∙ u.undone i x
      | inr x ↦ let e : i ≡ h + (i - h) = omega arith in
          let w : i - h < n = omega arith in
          ap (headed h f' g') (ap (headed h f g) e ∙ headed_high h f g (i - h)) ∙ headed_high h f' g' (g (i - h))
          ∙ ap (λ j. h + j) (v.undone (i - h) w) ∙ sym e
    ]

-- how many coded bits there can be: an odd count has a first block of three
abbrev pub Enough : ℕ → Type 0
Enough t = (t ≡ 1) → ⊥

undoes_at : (n m : ℕ) (f g : ℕ → ℕ) → Undoes n f g → (m ≡ n) ⊎ (m ≡ 0) → Undoes m f g
undoes_at n m f g u (inl e) = rw e u
undoes_at n m f g u (inr e) = record { below = λ i h. absurd (omega arith); undone = λ i h. absurd (omega arith) }

pub cases_two : (t : ℕ) → (t % 2 ≡ 1) ⊎ (t % 2 ≡ 0)
cases_two t = grind arith

cases_lead : (s t : ℕ) → (lead s t ≡ 3 * s) ⊎ (lead s t ≡ 0)
unfolding lead
cases_lead s t = elim (cases_two t) [ inl e ↦ inl (rw e (omega arith)) | inr e ↦ inr (rw e (omega arith)) ]

-- how many blocks of two bits there are
abbrev pub pairs : ℕ → ℕ
pairs t = (t - 3 * (t % 2)) / 2

pub size : (s t : ℕ) → Enough t → lead s t + (2 * s) * pairs t ≡ s * t
unfolding lead
size s t k =
    let e : t ≡ 3 * (t % 2) + 2 * pairs t = omega arith in
    omega (arith, ap (λ n. s * n) e)

-- at both orders of the two rules
orders : (s t : ℕ) (f f' g g' : ℕ → ℕ) → 0 < s → Enough t → Undoes (3 * s) f f' → Undoes (2 * s) g g' → Undoes (s * t) (headed (lead s t) f (blocked (2 * s) g)) (headed (lead s t) f' (blocked (2 * s) g'))
orders s t f f' g g' p k u v =
    rw (← (size s t k)) (headed_undoes (lead s t) ((2 * s) * pairs t) f f' (blocked (2 * s) g) (blocked (2 * s) g')
    (undoes_at (3 * s) (lead s t) f f' u (cases_lead s t)) (blocked_undoes (2 * s) (pairs t) g g' (omega arith) v))

other_way : (d s : ℕ) → 0 < s → Undoes (d * s) (turned s d) (turned d s)
other_way d s p = rw (mul_comm d s) (turned_undoes s d p)

pub forth_undoes : (s t : ℕ) → 0 < s → Enough t → Undoes (s * t) (forth s t) (back s t)
unfolding forth back
forth_undoes s t p k = orders s t (turned 3 s) (turned s 3) (turned 2 s) (turned s 2) p k (turned_undoes 3 s (omega arith)) (turned_undoes 2 s (omega arith))

pub back_undoes : (s t : ℕ) → 0 < s → Enough t → Undoes (s * t) (back s t) (forth s t)
unfolding forth back
back_undoes s t p k = orders s t (turned s 3) (turned 3 s) (turned s 2) (turned 2 s) p k (other_way 3 s p) (other_way 2 s p)

pub length-permuted : {A : Type 0} (f : ℕ → ℕ) (xs : List A) → length (permuted f xs) ≡ length xs
length-permuted f [] = refl
length-permuted f (x ∷ xs) = length-map-range_with_len (λ i. get_or (x ∷ xs) (f i) x) 0 (length (x ∷ xs))

pub get_or-permuted : {A : Type 0} (f : ℕ → ℕ) (xs : List A) (i : ℕ) (d : A) → i < length xs → f i < length xs → get_or (permuted f xs) i d ≡ get_or xs (f i) d
get_or-permuted f [] i d l m = absurd (omega arith)
get_or-permuted f (x ∷ xs) i d l m =
    get_or-map-range_with_len (λ i. get_or (x ∷ xs) (f i) x) 0 (length (x ∷ xs)) i i d l (omega arith) ∙ get_or_default (x ∷ xs) (f i) x d m

pub permuted_undone : {A : Type 0} (n : ℕ) (f g : ℕ → ℕ) → Undoes n f g → (xs : List A) → length xs ≡ n → permuted f (permuted g xs) ≡ xs
permuted_undone n f g u xs e =
    let m : length (permuted f (permuted g xs)) ≡ length xs = simp length-permuted in
    same_lists (permuted f (permuted g xs)) xs m (λ k d h.
    let a : k < n = omega arith in
    let b : f k < n = u.below k a in
    let c : f k < length (permuted g xs) = omega (arith, length-permuted g xs) in
    let q : k < length (permuted g xs) = omega (arith, length-permuted g xs) in
    let w : g (f k) ≡ k = u.undone k a in
    get_or-permuted f (permuted g xs) k d q c ∙ get_or-permuted g xs (f k) d (omega arith) (omega arith) ∙ ap (λ j. get_or xs j d) w)

pub deinterleave_interleave : {A : Type 0} (s t : ℕ) (xs : List A) → 0 < s → Enough t → length xs ≡ s * t → deinterleaved s t (interleaved s t xs) ≡ xs
unfolding interleaved deinterleaved
deinterleave_interleave s t xs p k e = permuted_undone (s * t) (back s t) (forth s t) (back_undoes s t p k) xs e

pub interleave_deinterleave : {A : Type 0} (s t : ℕ) (xs : List A) → 0 < s → Enough t → length xs ≡ s * t → interleaved s t (deinterleaved s t xs) ≡ xs
unfolding interleaved deinterleaved
interleave_deinterleave s t xs p k e = permuted_undone (s * t) (forth s t) (back s t) (forth_undoes s t p k) xs e

-- what a loop over the places knows of one place
pub forth_below : (s t i : ℕ) → 0 < s → Enough t → i < s * t → forth s t i < s * t
forth_below s t i p k h = (forth_undoes s t p k).below i h

pub forth_low : (s t i : ℕ) → i < lead s t → forth s t i ≡ turned 3 s i
unfolding forth
forth_low s t i h = headed_low (lead s t) (turned 3 s) (blocked (2 * s) (turned 2 s)) i h

pub forth_high : (s t j : ℕ) → forth s t (lead s t + j) ≡ lead s t + (2 * s * (j / (2 * s)) + turned 2 s (j % (2 * s)))
unfolding forth blocked
forth_high s t j = headed_high (lead s t) (turned 3 s) (blocked (2 * s) (turned 2 s)) j

pub lead_is : (s t : ℕ) → lead s t ≡ s * (3 * (t % 2))
unfolding lead
lead_is s t = omega arith

pub undoing : {A : Type 0} → Undoing A
undoing s t xs p k e = (deinterleave_interleave s t xs p k e, interleave_deinterleave s t xs p k e)
