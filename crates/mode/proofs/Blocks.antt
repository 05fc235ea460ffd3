-- The whole de-interleaving is the de-interleavings of its blocks; and what it leaves of labelled bits.
use Rattle.std.proofs.Common.{◌≡◌, ℕ, zero, suc, ◌+◌, ◌-◌, ◌*◌, ◌/◌, ◌%◌, ◌<◌, ◌≤◌, ◌⊎◌, List, [], ◌∷◌, ◌++◌, map, length, get_or, take, drop, set, sym, refl, ap, ◌∙◌, inl, inr, mul-le-mul_left, arith}
use Rattle.std.proofs.Math.Nat.{mul-div_cancel_left, sub-zero}
use borrow.Rule.Slice.PartMut.{put_mid}
use Rattle.std.specs.List.{range_with_len}
use Rattle.std.proofs.lemmas.Bool.{cases_lt}
use Rattle.std.proofs.lemmas.List.{same_lists, length-append, length-take-le, length-drop, length-map, get_or-take, get_or-drop, take-append-drop, take-take, drop-take, drop-drop, take_at, drop_at, take_all, take_more, take_more_set}
use Rattle.std.proofs.lemmas.Slice.{take-put_mid}
use Rattle.std.proofs.lemmas.Nat.{div-mul-add, mod-mul-add, mul-le}
use Rattle.mode.specs.declared.air_bit.AirBit.{AirBit}
use Rattle.mode.specs.Orders.{Copied, turned, blocked, lead, back, permuted, deinterleaved}
use Rattle.mode.specs.Heard.{labelled, bits_of, symbols_of}
use Rattle.mode.proofs.Moves.{copied_at}
use Rattle.mode.proofs.Turns.{Enough, pairs, size, headed_low, headed_high, lead_is, cases_two, back_undoes, length-permuted, get_or-permuted}

module _ {A : Type 0} (f g : ℕ → ℕ) (xs : List A) (a b : ℕ) (fits : a + b ≤ length xs) (within : (j : ℕ) → j < b → (f (a + j) ≡ a + g j) × (g j < b)) where
  part_long : length (take b (drop a xs)) ≡ b
  part_long = length-take-le b (drop a xs) (simp length-drop (omega arith))

  -- a rule that stays in a part acts on the part alone
  pub permuted-part : take b (drop a (permuted f xs)) ≡ permuted g (take b (drop a xs))
  permuted-part =
      let p = length-permuted f xs in
      let l : length (take b (drop a (permuted f xs))) ≡ b = length-take-le b (drop a (permuted f xs)) (simp length-drop (omega arith)) in
      let q = length-permuted g (take b (drop a xs)) in
      let n = part_long in
      same_lists (take b (drop a (permuted f xs))) (permuted g (take b (drop a xs))) (omega arith) (λ j d h.
      let k : j < b = omega arith in
      let w = within j k in
      let z = w.1 in
      let y : f (a + j) < length xs = omega (arith, w.0) in
      let u = get_or-permuted f xs (a + j) d (omega arith) y in
      let v = get_or-permuted g (take b (drop a xs)) j d (omega arith) (omega arith) in
      get_or-take b (drop a (permuted f xs)) j d k ∙ get_or-drop a (permuted f xs) j d ∙ u ∙ ap (λ i. get_or xs i d) w.0
      ∙ sym (v ∙ get_or-take b (drop a xs) (g j) d z ∙ get_or-drop a xs (g j) d))

-- the first block
back_lead : (s t j : ℕ) → j < lead s t → back s t j ≡ back s 3 j
unfolding back
back_lead s t j h =
    let l : j < lead s 3 = lead_three h in
    headed_low (lead s t) (turned s 3) (blocked (2 * s) (turned s 2)) j h ∙ sym (headed_low (lead s 3) (turned s 3) (blocked (2 * s) (turned s 2)) j l)
  where
    lead_three : j < lead s t → j < lead s 3
    lead_three h = elim (cases_two t) [
      | inl e ↦ omega (arith, lead_is s 3, lead_is s t, ap (λ r. s * (3 * r)) e)
      | inr e ↦ omega (arith, lead_is s t, ap (λ r. s * (3 * r)) e)
    ]

-- each block after it
blocked_at : (b : ℕ) (f : ℕ → ℕ) (i j : ℕ) → j < b → blocked b f (b * i + j) ≡ b * i + f j
unfolding blocked
blocked_at b f i j h =
    let e : b * i + j ≡ i * b + j = omega arith in
    rw (e, div-mul-add i b j h, mod-mul-add i b j h)

back_high : (s t x : ℕ) → back s t (lead s t + x) ≡ lead s t + blocked (2 * s) (turned s 2) x
unfolding back
back_high s t x = headed_high (lead s t) (turned s 3) (blocked (2 * s) (turned s 2)) x

back_two : (s j : ℕ) → j < 2 * s → back s 2 j ≡ turned s 2 j
back_two s j h =
    let z : lead s 2 ≡ 0 = lead_is s 2 ∙ omega arith in
    let e : j ≡ lead s 2 + (2 * s * 0 + j) = omega arith in
    omega (arith, ap (back s 2) e, back_high s 2 (2 * s * 0 + j), blocked_at (2 * s) (turned s 2) 0 j h)

back_pair : (s t i j : ℕ) → j < 2 * s → back s t (lead s t + 2 * s * i + j) ≡ lead s t + 2 * s * i + back s 2 j
back_pair s t i j h =
    let e : lead s t + 2 * s * i + j ≡ lead s t + (2 * s * i + j) = omega arith in
    omega (arith, ap (back s t) e, back_high s t (2 * s * i + j), blocked_at (2 * s) (turned s 2) i j h, back_two s j h)

-- where each bit has one copy, nothing moves
back_one : (t j : ℕ) → back 1 t j ≡ j
unfolding back turned blocked
back_one t j =
    elim (cases_lt j (lead 1 t)) [
      | inl h ↦ headed_low (lead 1 t) (turned 1 3) (blocked (2 * 1) (turned 1 2)) j h ∙ omega arith
      | inr h ↦
          let e : j ≡ lead 1 t + (j - lead 1 t) = omega arith in
          ap (back 1 t) e ∙ headed_high (lead 1 t) (turned 1 3) (blocked (2 * 1) (turned 1 2)) (j - lead 1 t) ∙ omega arith
    ]

pub one_copy : {A : Type 0} (t : ℕ) (xs : List A) → deinterleaved 1 t xs ≡ xs
unfolding deinterleaved
one_copy t xs =
    let l = length-permuted (back 1 t) xs in
    same_lists (permuted (back 1 t) xs) xs l (λ j d h.
    let k : j < length xs = omega arith in
    get_or-permuted (back 1 t) xs j d k (omega (arith, back_one t j)) ∙ ap (λ i. get_or xs i d) (back_one t j))

module _ {A : Type 0} (s t : ℕ) (xs : List A) (p : 0 < s) (k : Enough t) (long : length xs ≡ s * t) where
  lead_fits : lead s t ≤ length xs
  lead_fits = omega (arith, size s t k)

  -- the first block has three bits or none
  pub first_block : take (lead s t) (deinterleaved s t xs) ≡ deinterleaved s (3 * (t % 2)) (take (lead s t) xs)
  unfolding deinterleaved
  first_block = go (cases_two t)
    where
      go : (t % 2 ≡ 1) ⊎ (t % 2 ≡ 0) → take (lead s t) (permuted (back s t) xs) ≡ permuted (back s (3 * (t % 2))) (take (lead s t) xs)
      go (inl e) =
          let n : lead s t ≡ s * 3 = lead_is s t ∙ ap (λ r. s * (3 * r)) e in
          rw e (permuted-part (back s t) (back s 3) xs 0 (lead s t) (omega (arith, lead_fits)) (λ j h.
          let q : back s 3 j < s * 3 = (back_undoes s 3 p (λ z. omega arith)).below j (omega arith) in
          let z : 0 + j ≡ j = omega arith in
          (rw z (back_lead s t j h ∙ omega arith), omega arith)))
      go (inr e) = let n : lead s t ≡ 0 = lead_is s t ∙ ap (λ r. s * (3 * r)) e ∙ omega arith in rw n

  pair_fits : (i : ℕ) → i < pairs t → lead s t + 2 * s * i + 2 * s ≤ length xs
  pair_fits i h = omega (arith, size s t k, mul-le-mul_left (2 * s) h)

  -- the others two
  pub next_block : (i : ℕ) → i < pairs t → take (2 * s) (drop (lead s t + 2 * s * i) (deinterleaved s t xs)) ≡ deinterleaved s 2 (take (2 * s) (drop (lead s t + 2 * s * i) xs))
  unfolding deinterleaved
  next_block i h =
      permuted-part (back s t) (back s 2) xs (lead s t + 2 * s * i) (2 * s) (pair_fits i h) (λ j l.
      let q : back s 2 j < s * 2 = (back_undoes s 2 p (λ z. omega arith)).below j (omega arith) in
      (back_pair s t i j l, omega arith))

-- labelled bits and their parts
pub length-labelled : (w i : ℕ) (bs : List ℕ) → length (labelled w i bs) ≡ length bs
length-labelled w i [] = refl
length-labelled w i (b ∷ bs) = ap suc (length-labelled w (i + 1) bs)

take-labelled : (w i n : ℕ) (bs : List ℕ) → take n (labelled w i bs) ≡ labelled w i (take n bs)
take-labelled w i zero bs = refl
take-labelled w i (suc n) [] = refl
take-labelled w i (suc n) (b ∷ bs) = ap (λ hs. record { bit = b; symbol = i / w } ∷ hs) (take-labelled w (i + 1) n bs)

drop-labelled : (w i n : ℕ) (bs : List ℕ) → drop n (labelled w i bs) ≡ labelled w (i + n) (drop n bs)
drop-labelled w i zero bs = ap (λ j. labelled w j bs) (omega arith)
drop-labelled w i (suc n) [] = refl
drop-labelled w i (suc n) (b ∷ bs) = drop-labelled w (i + 1) n bs ∙ ap (λ j. labelled w j (drop n bs)) (omega arith)

pub part-labelled : (w i a n : ℕ) (bs : List ℕ) → take n (drop a (labelled w i bs)) ≡ labelled w (i + a) (take n (drop a bs))
part-labelled w i a n bs = ap (take n) (drop-labelled w i a bs) ∙ take-labelled w (i + a) n (drop a bs)

pub labelled_push : (w i : ℕ) (bs : List ℕ) (b : ℕ) → labelled w i (bs ++ b ∷ []) ≡ labelled w i bs ++ record { bit = b; symbol = (i + length bs) / w } ∷ []
labelled_push w i [] b = ap (λ j. record { bit = b; symbol = j / w } ∷ []) (omega arith)
labelled_push w i (c ∷ bs) b =
    ap (λ hs. record { bit = c; symbol = i / w } ∷ hs) (labelled_push w (i + 1) bs b ∙ ap (λ j. labelled w (i + 1) bs ++ record { bit = b; symbol = j / w } ∷ []) (omega arith))

pub bits_labelled : (w i : ℕ) (bs : List ℕ) → bits_of (labelled w i bs) ≡ bs
bits_labelled w i [] = refl
bits_labelled w i (b ∷ bs) = ap (λ cs. b ∷ cs) (bits_labelled w (i + 1) bs)

pub symbol_labelled : (w i : ℕ) (bs : List ℕ) (j : ℕ) → j < length bs → get_or (symbols_of (labelled w i bs)) j 0 ≡ (i + j) / w
symbol_labelled w i [] j l = absurd (omega arith)
symbol_labelled w i (b ∷ bs) zero l = ap (λ n. n / w) (omega arith)
symbol_labelled w i (b ∷ bs) (suc j) l = symbol_labelled w (i + 1) bs j (omega arith) ∙ ap (λ n. n / w) (omega arith)

-- moving elements and changing each are one after the other in either order
map-map_counting : {A B : Type 0} (h : A → B) (f : ℕ → A) (g : ℕ → B) → ((i : ℕ) → h (f i) ≡ g i) → (is : List ℕ) → map h (map f is) ≡ map g is
map-map_counting h f g e [] = refl
map-map_counting h f g e (i ∷ is) = let x = e i in let y = map-map_counting h f g e is in cc

pub get_or-map_all : {A B : Type 0} (h : A → B) (xs : List A) (i : ℕ) (d : A) → h (get_or xs i d) ≡ get_or (map h xs) i (h d)
get_or-map_all h [] i d = refl
get_or-map_all h (x ∷ xs) zero d = refl
get_or-map_all h (x ∷ xs) (suc i) d = get_or-map_all h xs i d

map-permuted : {A B : Type 0} (h : A → B) (f : ℕ → ℕ) (xs : List A) → map h (permuted f xs) ≡ permuted f (map h xs)
map-permuted h f [] = refl
map-permuted h f (x ∷ xs) =
    let e : length (map h (x ∷ xs)) ≡ length (x ∷ xs) = length-map (x ∷ xs) h in
    map-map_counting h (λ i. get_or (x ∷ xs) (f i) x) (λ i. get_or (map h (x ∷ xs)) (f i) (h x)) (λ i. get_or-map_all h (x ∷ xs) (f i) x) (range_with_len 0 (length (x ∷ xs)))
    ∙ ap (λ n. map (λ i. get_or (map h (x ∷ xs)) (f i) (h x)) (range_with_len 0 n)) (sym e)

pub bits_deinterleaved : (s t w : ℕ) (bs : List ℕ) → bits_of (deinterleaved s t (labelled w 0 bs)) ≡ deinterleaved s t bs
unfolding deinterleaved
bits_deinterleaved s t w bs = map-permuted (λ h. h.bit) (back s t) (labelled w 0 bs) ∙ ap (permuted (back s t)) (bits_labelled w 0 bs)

-- the symbol that carried the bit at place x
pub symbol_deinterleaved : (s t w : ℕ) (bs : List ℕ) (x : ℕ) → 0 < s → Enough t → length bs ≡ s * t → x < s * t → get_or (symbols_of (deinterleaved s t (labelled w 0 bs))) x 0 ≡ back s t x / w
unfolding deinterleaved
symbol_deinterleaved s t w bs x p k e l =
    let b : back s t x < s * t = (back_undoes s t p k).below x l in
    let n : length (symbols_of (labelled w 0 bs)) ≡ length bs = length-map (labelled w 0 bs) (λ h. h.symbol) ∙ length-labelled w 0 bs in
    ap (λ hs. get_or hs x 0) (map-permuted (λ h. h.symbol) (back s t) (labelled w 0 bs)) ∙ get_or-permuted (back s t) (symbols_of (labelled w 0 bs)) x 0 (omega arith) (omega arith)
    ∙ symbol_labelled w 0 bs (back s t x) (omega arith) ∙ ap (λ j. j / w) (omega arith)

take_plus : {A : Type 0} (a b : ℕ) (xs : List A) → take (a + b) xs ≡ take a xs ++ take b (drop a xs)
take_plus a b xs =
    sym (take-append-drop a (take (a + b) xs)) ∙ ap (λ us. us ++ drop a (take (a + b) xs)) (take-take a (a + b) xs (omega arith)) ∙ ap (λ us. take a xs ++ us) (drop-take a b xs)

pub length-deinterleaved : {A : Type 0} (s t : ℕ) (xs : List A) → length (deinterleaved s t xs) ≡ length xs
unfolding deinterleaved
length-deinterleaved s t xs = length-permuted (back s t) xs

-- one more labelled bit
pub label_more : (w from : ℕ) (bs : List ℕ) (os : List AirBit) (i : ℕ) → i < length bs → i < length os → take i os ≡ labelled w from (take i bs)
    → take (i + 1) (set os i (record { bit = get_or bs i 0; symbol = (from + i) / w })) ≡ labelled w from (take (i + 1) bs)
label_more w from bs os i l m h =
    let x : AirBit = record { bit = get_or bs i 0; symbol = (from + i) / w } in
    let e : length (take i bs) ≡ i = length-take-le i bs (omega arith) in
    take_more_set os i x m ∙ ap (λ us. us ++ x ∷ []) h ∙ ap (λ j. labelled w from (take i bs) ++ record { bit = get_or bs i 0; symbol = (from + j) / w } ∷ []) (sym e)
    ∙ sym (labelled_push w from (take i bs) (get_or bs i 0)) ∙ ap (labelled w from) (sym (take_more bs i 0 l))

-- where the first places are de-interleaved
module _ (s t w : ℕ) (bs : List ℕ) (p : 0 < s) (k : Enough t) (long : length bs ≡ s * t) where
  whole : List AirBit
  whole = deinterleaved s t (labelled w 0 bs)

  labelled_long : length (labelled w 0 bs) ≡ s * t
  labelled_long = length-labelled w 0 bs ∙ long

  -- the places that the code takes for the first block, and for each other
  pub lead_there : s * (3 * (t % 2)) ≤ length bs
  lead_there = omega (arith, lead_is s t, size s t k, long)

  pub pair_there : (i : ℕ) → i < t / 2 - t % 2 → s * (3 * (t % 2)) + 2 * s * i + 2 * s ≤ length bs
  pair_there i h = omega (arith, lead_is s t, pair_fits s t (labelled w 0 bs) p k labelled_long i (omega arith), labelled_long, long)

  pub taken_first : (os us : List AirBit) → us ≡ deinterleaved s (length (take (s * (3 * (t % 2)) - 0) bs) / s) (labelled w 0 (take (s * (3 * (t % 2)) - 0) bs))
      → take (s * (3 * (t % 2))) (us ++ os) ≡ take (s * (3 * (t % 2))) (deinterleaved s t (labelled w 0 bs))
  taken_first os us e =
      let a = s * (3 * (t % 2)) in
      let n : length (take a bs) ≡ a = length-take-le a bs lead_there in
      let f : us ≡ deinterleaved s (length (take a bs) / s) (labelled w 0 (take a bs)) = rw sub-zero at e in
      let q : length (take a bs) / s ≡ 3 * (t % 2) = ap (λ j. j / s) n ∙ mul-div_cancel_left (3 * (t % 2)) p in
      let g : us ≡ deinterleaved s (3 * (t % 2)) (take a (labelled w 0 bs)) = f ∙ ap (λ j. deinterleaved s j (labelled w 0 (take a bs))) q ∙ ap (deinterleaved s (3 * (t % 2))) (sym (take-labelled w 0 a bs)) in
      let l : length us ≡ a = ap length f ∙ length-deinterleaved s (length (take a bs) / s) (labelled w 0 (take a bs)) ∙ length-labelled w 0 (take a bs) ∙ n in
      take_at us os a l ∙ g ∙ sym (rw (lead_is s t) at (first_block s t (labelled w 0 bs) p k labelled_long))

  pub taken_more : (os us : List AirBit) (a d i j : ℕ) → a ≡ s * (3 * (t % 2)) + d * i → d ≡ 2 * s → i < t / 2 - t % 2 → j ≡ a + d → length os ≡ length bs → take a os ≡ take a (deinterleaved s t (labelled w 0 bs))
      → us ≡ deinterleaved s (length (take (a + d - a) (drop a bs)) / s) (labelled w a (take (a + d - a) (drop a bs)))
      → take j (put_mid a (a + d - a) os us) ≡ take j (deinterleaved s t (labelled w 0 bs))
  taken_more os us a d i j ae de h je ol so e =
      let D = deinterleaved s t (labelled w 0 bs) in
      let f : a ≡ lead s t + 2 * s * i = ae ∙ ap (λ b. s * (3 * (t % 2)) + b * i) de ∙ omega (arith, lead_is s t) in
      let fits : a + d ≤ length bs = omega (arith, pair_there i h, lead_is s t) in
      let n : a + d - a ≡ 2 * s = omega arith in
      let l : length (take (2 * s) (drop a bs)) ≡ s * 2 = length-take-le (2 * s) (drop a bs) (simp length-drop (omega arith)) ∙ omega arith in
      let q : length (take (2 * s) (drop a bs)) / s ≡ 2 = ap (λ b. b / s) l ∙ mul-div_cancel_left 2 p in
      let g : us ≡ deinterleaved s (length (take (2 * s) (drop a bs)) / s) (labelled w a (take (2 * s) (drop a bs))) = rw n at e in
      let m : length us ≡ d = ap length g ∙ length-deinterleaved s (length (take (2 * s) (drop a bs)) / s) (labelled w a (take (2 * s) (drop a bs))) ∙ length-labelled w a (take (2 * s) (drop a bs)) ∙ l ∙ omega arith in
      let y : labelled w a (take (2 * s) (drop a bs)) ≡ take (2 * s) (drop a (labelled w 0 bs)) = ap (λ b. labelled w b (take (2 * s) (drop a bs))) (omega arith) ∙ sym (part-labelled w 0 a (2 * s) bs) in
      let z : take (2 * s) (drop a D) ≡ deinterleaved s 2 (take (2 * s) (drop a (labelled w 0 bs))) = rw f (next_block s t (labelled w 0 bs) p k labelled_long i (omega arith)) in
      let x : us ≡ take d (drop a D) = g ∙ ap (λ b. deinterleaved s b (labelled w a (take (2 * s) (drop a bs)))) q ∙ ap (deinterleaved s 2) y ∙ sym z ∙ ap (λ b. take b (drop a D)) (sym de) in
      rw je (take-put_mid a (a + d - a) os us (a + d) (omega arith) (omega arith) ∙ ap (λ vs. vs ++ us) so ∙ ap (λ vs. take a D ++ vs) x ∙ sym (take_plus a d D))

  pub taken_all : (os : List AirBit) (a d i : ℕ) → a ≡ s * (3 * (t % 2)) + d * i → d ≡ 2 * s → i ≡ t / 2 - t % 2 → length os ≡ length bs → take a os ≡ take a (deinterleaved s t (labelled w 0 bs)) → os ≡ deinterleaved s t (labelled w 0 bs)
  taken_all os a d i ae de h ol so =
      let D = deinterleaved s t (labelled w 0 bs) in
      let e : i ≡ pairs t = omega arith in
      let f : a ≡ s * t = ae ∙ ap (λ b. s * (3 * (t % 2)) + b * i) de ∙ ap (λ b. s * (3 * (t % 2)) + 2 * s * b) e ∙ omega (arith, lead_is s t, size s t k) in
      let n = length-deinterleaved s t (labelled w 0 bs) in
      sym (take_all a os (omega arith)) ∙ so ∙ take_all a D (omega (arith, labelled_long))

-- where i pairs of bits are taken, and what is left is cut into blocks of so many
pub record Taken (s t w : ℕ) (bs : List ℕ) (os : List AirBit) (i : ℕ) (rest : List ℕ) (size : ℕ) : Type 0 where
  pub left : rest ≡ drop (s * (3 * (t % 2)) + 2 * s * i) bs
  pub pair : size ≡ 2 * s
  pub few : i ≤ t / 2 - t % 2
  pub done : take (s * (3 * (t % 2)) + 2 * s * i) os ≡ take (s * (3 * (t % 2)) + 2 * s * i) (deinterleaved s t (labelled w 0 bs))

module _ (s t w : ℕ) (bs : List ℕ) (p : 0 < s) (k : Enough t) (long : length bs ≡ s * t) where
  pub taken_begin : (os us : List AirBit) (rest : List ℕ) → us ≡ deinterleaved s (length (take (s * (3 * (t % 2)) - 0) bs) / s) (labelled w 0 (take (s * (3 * (t % 2)) - 0) bs))
      → rest ≡ take (length bs - s * (3 * (t % 2))) (drop (s * (3 * (t % 2))) bs) → Taken s t w bs (us ++ os) 0 rest (2 * s)
  taken_begin os us rest e r =
      let z : s * (3 * (t % 2)) + 2 * s * 0 ≡ s * (3 * (t % 2)) = omega arith in
      record {
        left = r ∙ take_all (length bs - s * (3 * (t % 2))) (drop (s * (3 * (t % 2))) bs) (simp length-drop (omega arith)) ∙ ap (λ n. drop n bs) (sym z);
        pair = refl;
        few = omega arith;
        done = rw z (taken_first s t w bs p k long os us e);
      }

  module _ (os : List AirBit) (i : ℕ) (rest : List ℕ) (size : ℕ) (h : Taken s t w bs os i rest size) where
    -- the next block is a pair that is there
    pub block_there : (xs after : List ℕ) → rest ≡ xs ++ after → length xs ≡ size
        → (i < t / 2 - t % 2) × (s * (3 * (t % 2)) + 2 * s * i + 2 * s ≤ length bs)
        × (xs ≡ take (s * (3 * (t % 2)) + 2 * s * i + 2 * s - (s * (3 * (t % 2)) + 2 * s * i)) (drop (s * (3 * (t % 2)) + 2 * s * i) bs))
        × (after ≡ drop (s * (3 * (t % 2)) + 2 * s * i + 2 * s) bs)
    block_there xs after e l =
        let f : xs ++ after ≡ drop (s * (3 * (t % 2)) + 2 * s * i) bs = sym e ∙ h.left in
        let n : length xs ≡ 2 * s = l ∙ h.pair in
        let fits : s * (3 * (t % 2)) + 2 * s * i + 2 * s ≤ length bs = omega (arith, ap length f, length-append xs after, length-drop (s * (3 * (t % 2)) + 2 * s * i) bs) in (
          elim (cases_lt i (t / 2 - t % 2)) [
            | inl b ↦ b
            | inr b ↦
                let m : s * (t + 1) ≤ s * (3 * (t % 2) + 2 * i + 2) = mul-le-mul_left s (omega arith) in
                absurd (omega arith)
          ],
          fits,
          sym (take_at xs after (s * (3 * (t % 2)) + 2 * s * i + 2 * s - (s * (3 * (t % 2)) + 2 * s * i)) (n ∙ omega arith)) ∙ ap (take (s * (3 * (t % 2)) + 2 * s * i + 2 * s - (s * (3 * (t % 2)) + 2 * s * i))) f,
          sym (drop_at xs after (2 * s) n) ∙ ap (drop (2 * s)) f ∙ drop-drop (2 * s) (s * (3 * (t % 2)) + 2 * s * i) bs,
        )

    pub taken_next : (us : List AirBit) (xs after : List ℕ) (j : ℕ) → rest ≡ xs ++ after → length xs ≡ size → length os ≡ length bs → j ≡ i
        → us ≡ deinterleaved s (length xs / s) (labelled w (s * (3 * (t % 2)) + 2 * s * j) xs)
        → Taken s t w bs (put_mid (s * (3 * (t % 2)) + 2 * s * j) (s * (3 * (t % 2)) + 2 * s * j + 2 * s - (s * (3 * (t % 2)) + 2 * s * j)) os us) (i + 1) after size
    taken_next us xs after j e l ol ji ue =
        let b = block_there xs after e l in
        let n : s * (3 * (t % 2)) + 2 * s * (i + 1) ≡ s * (3 * (t % 2)) + 2 * s * i + 2 * s = omega arith in
        rw ji (record {
          left = b.3 ∙ ap (λ m. drop m bs) (sym n);
          pair = h.pair;
          few = omega (arith, b.0);
          done = taken_more s t w bs p k long os us (s * (3 * (t % 2)) + 2 * s * i) (2 * s) i _ refl refl b.0 n ol h.done (rw (ji, b.2) at ue);
        })

    pub taken_end : length rest < size → length os ≡ length bs → os ≡ deinterleaved s t (labelled w 0 bs)
    taken_end l ol =
        let e : i ≡ t / 2 - t % 2 =
        elim (cases_lt i (t / 2 - t % 2)) [
          | inl b ↦ absurd (omega (arith, pair_there s t w bs p k long i b, ap length h.left, length-drop (s * (3 * (t % 2)) + 2 * s * i) bs, h.pair))
          | inr b ↦ omega (arith, h.few)
        ] in
        taken_all s t w bs p k long os (s * (3 * (t % 2)) + 2 * s * i) (2 * s) i refl refl e ol h.done

-- what a block of b bits asks for
pub record Blockable (s w from : ℕ) (xs : List ℕ) (os : List AirBit) : Type 0 where
  pub copied : Copied s (length xs)
  pub small : length xs ≤ 12
  pub some : 0 < w
  pub few : from + length xs ≤ 65536
  pub room : length os ≡ length xs

pub blockable : (s b w from : ℕ) (xs : List ℕ) (os : List AirBit) → 0 < s → s ≤ 4 → (b ≡ 1 → ⊥) → b ≤ 3 → 0 < w → length xs ≡ s * b → length os ≡ s * b → from + s * b ≤ 65536 → Blockable s w from xs os
blockable s b w from xs os p q k small o e f l = record {
  copied = rw e (copied_at s b p k);
  small = omega (arith, mul-le s b 4 3 q small);
  some = o;
  few = omega arith;
  room = f ∙ sym e;
}
