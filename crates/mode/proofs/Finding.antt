-- A word is found exactly when some word has at most t spoilt bits; and the words of a part, one after the other.
use Rattle.std.proofs.Common.{◌≡◌, ℕ, zero, suc, ◌+◌, ◌-◌, ◌*◌, ◌<◌, ◌≤◌, List, [], ◌∷◌, ◌++◌, length, get_or, take, drop, leb, Some, None, Ok, Err, Result, sym, refl, ap, ◌∙◌, inl, inr, mul-le-mul_left, arith}
use Rattle.std.specs.List.{AllByRecursion}
use Rattle.std.proofs.lemmas.List.{length-take-le, length-drop, drop-drop, drop_all, take_all, take_more, take-append-drop, take-append-le, drop-append-le, nil_from_length}
use Rattle.std.proofs.ByRecursion.{All-append}
use Rattle.std.specs.Bool.{then_some}
use Rattle.std.specs.Result.{result_ok}
use Rattle.std.proofs.lemmas.Bool.{cases_lt, lt-leb, le-leb}
use Rattle.bits.specs.Strings.{Bit, Bits}
use Rattle.block_code.specs.Codes.{Code, word, distance, shortened}
use Rattle.block_code.specs.Codes as codes
use Rattle.block_code.specs.Answers.{Corrected, Corrects}
use Rattle.block_code.specs.declared.fault.CorrectFault.{CorrectFault}
use Rattle.block_code.specs.declared.fault.CorrectFault.TheVariants.{Call, NoWordNear}
use Rattle.block_code.specs.Near.{one_near}
use Rattle.block_code.specs.ShorteningLemmas.{shortened_lawful}
use Rattle.mode.specs.Shares.{words, unsent, unsents}
use Rattle.mode.specs.Copying.{decided, spoilt}
use Rattle.mode.specs.Parts.{First, Within, spoilt_all, Lost, sized}
use Rattle.mode.specs.declared.air_bit.AirBit.{AirBit}
use Rattle.mode.specs.Heard.{Lowest}
use Rattle.mode.specs.Hearing.{NearWord, FarWord, HearsWord}
use Rattle.mode.proofs.Strings.{bits_at}
use Rattle.mode.proofs.Spoils.{decided_bits, decided_near, word_bits, spoilt-front, spoilt-le}
use Rattle.mode.proofs.Splits.{carried, words_room, carried-unsents, length-unsents, get_or-unsents, unsent_below, unsents_more}
use Rattle.mode.proofs.Readings.{within_found}

module _ (c : Code) (L : codes.Lawful c) (s : ℕ) (es : List ℕ) (p : 0 < s) (bits : AllByRecursion Bit es) (n : ℕ) (size : n ≡ c.k + c.p) (room : length es ≡ s * n) (before : List ℕ) (be : before ≡ decided s n es) where
  word-decided : Bits (c.k + c.p) (decided s n es)
  word-decided = bits_at _ _ (decided s n es) size (decided_bits s n es p (omega arith) bits)

  -- the decided bits are as near to a word as it has spoilt bits
  near_decided : (x : List ℕ) → Bits c.k x → distance (word c x) (decided s n es) ≤ spoilt s (word c x) es
  near_decided x b =
      let w = word_bits c x L b in
      let e : length (word c x) ≡ n = omega (arith, w.size) in
      rw (← e) (decided_near s (word c x) es p (omega (arith, ap (λ j. s * j) e)) w.bits bits)

  pub refused_word : (after : List ℕ) (e : CorrectFault) → Corrects c before after (Err e) → FarWord c s es
  refused_word after (Call b) h = absurd (h.0 (rw be word-decided))
  refused_word after NoWordNear h = λ x b. omega (arith, rw be at (h.1 x b), near_decided x b)

  module _ (after : List ℕ) (j : ℕ) (h : Corrected c before after j) where
    -- too many bits of the corrected word are spoilt
    spoilt-word : c.t < spoilt s after es → FarWord c s es
    spoilt-word l x b = elim (cases_lt c.t (spoilt s (word c x) es)) [
      | inl q ↦ q
      | inr q ↦
          let k : distance (word c x) before ≤ c.t = rw be (omega (arith, near_decided x b)) in
          let e : h.message ≡ x = one_near c L before (rw be word-decided.size) h.message x h.valid b (omega (arith, h.count, h.within)) k in
          let f : spoilt s after es ≡ spoilt s (word c x) es = ap (λ w. spoilt s w es) (h.is ∙ ap (word c) e) in
          absurd (omega arith)
    ]

    found_word : (r : ℕ) → r ≡ spoilt s after es → r ≤ c.t → (x : List ℕ) × NearWord c s es x r × (after ≡ word c x)
    found_word r e l = (h.message, record { valid = h.valid; count = ap (λ w. spoilt s w es) (sym h.is) ∙ sym e; within = l }, h.is)

    -- either, as the code answers it
    pub heard_word : (r b : ℕ) → r ≡ spoilt s after es → b ≡ c.t → HearsWord c s es after (then_some (leb r b) r)
    heard_word r b e f = elim (cases_lt b r) [
      | inl l ↦ rw (lt-leb r b l) (spoilt-word (omega arith))
      | inr l ↦ rw (le-leb r b l) (found_word r e (omega arith))
    ]

-- what `ok` makes of a refusal, and of an answer
pub refused : {T E : Type 0} (r : Result T E) → None ≡ result_ok r → (e : E) × (r ≡ Err e)
refused (Ok x) h = absurd (let z : ◌≡◌ {A = ℕ} 0 1 = cc in omega arith)
refused (Err e) h = (e, refl)

pub answered : {T E : Type 0} (r : Result T E) (x : T) → Some x ≡ result_ok r → r ≡ Ok x
answered (Ok y) x h = cc
answered (Err e) x h = absurd (let z : ◌≡◌ {A = ℕ} 0 1 = cc in omega arith)

module _ (c : Code) (s : ℕ) where
  carried_push : (us : List ℕ) (u : ℕ) → carried c.k (us ++ u ∷ []) ≡ carried c.k us + (c.k - u)
  carried_push [] u = omega arith
  carried_push (v ∷ us) u = omega (arith, carried_push us u)

  sized_push : (us : List ℕ) (u : ℕ) → sized c (us ++ u ∷ []) ≡ sized c us + (c.k - u + c.p)
  sized_push [] u = omega arith
  sized_push (v ∷ us) u = omega (arith, sized_push us u)

  -- one more word within reach
  within_push : (us : List ℕ) (u : ℕ) (xs ys es : List ℕ) → length xs ≡ carried c.k us → length ys ≡ c.k - u → Within c s us xs es
      → spoilt s (word (shortened c u) ys) (drop (s * sized c us) es) ≤ c.t
      → Within c s (us ++ u ∷ []) (xs ++ ys) es × (spoilt_all c s (us ++ u ∷ []) (xs ++ ys) es ≡ spoilt_all c s us xs es + spoilt s (word (shortened c u) ys) (drop (s * sized c us) es))
  within_push [] u xs ys es a b w l =
      let e : xs ++ ys ≡ ys = ap (λ zs. zs ++ ys) (nil_from_length xs a) in
      let t : take (c.k - u) ys ≡ ys = take_all (c.k - u) ys (omega arith) in
      let z : s * 0 ≡ 0 = omega arith in
      let m : spoilt s (word (shortened c u) ys) es ≤ c.t = rw z at l in
      (rw (e, t) (m, tt), rw (e, t, z) (omega arith))
  within_push (v ∷ us) u xs ys es a b w l =
      let n = c.k - v in
      let t : take n (xs ++ ys) ≡ take n xs = take-append-le n xs ys (omega arith) in
      let d : drop n (xs ++ ys) ≡ drop n xs ++ ys = drop-append-le n xs ys (omega arith) in
      let q : drop (s * sized c us) (drop (s * (n + c.p)) es) ≡ drop (s * (n + c.p + sized c us)) es = drop-drop (s * sized c us) (s * (n + c.p)) es ∙ ap (λ j. drop j es) (omega arith) in
      let ih = within_push us u (drop n xs) ys (drop (s * (n + c.p)) es) (simp length-drop (omega arith)) b w.1 (rw q l) in
      let i : spoilt_all c s (us ++ u ∷ []) (drop n xs ++ ys) (drop (s * (n + c.p)) es) ≡ spoilt_all c s us (drop n xs) (drop (s * (n + c.p)) es) + spoilt s (word (shortened c u) ys) (drop (s * (n + c.p + sized c us)) es) = rw q at ih.1 in
      (rw (t, d) (w.0, ih.0), rw (t, d) (omega (arith, i)))

  -- a word that is far is lost
  lost_here : (us es : List ℕ) (j : ℕ) → j < length us → FarWord (shortened c (get_or us j 0)) s (drop (s * sized c (take j us)) es) → Lost c s us es j
  lost_here [] es j l f = absurd (omega arith)
  lost_here (u ∷ us) es zero l f = let z : s * 0 ≡ 0 = omega arith in rw z at f
  lost_here (u ∷ us) es (suc j) l f =
      let q : drop (s * sized c (take j us)) (drop (s * (c.k - u + c.p)) es) ≡ drop (s * (c.k - u + c.p + sized c (take j us))) es = drop-drop (s * sized c (take j us)) (s * (c.k - u + c.p)) es ∙ ap (λ i. drop i es) (omega arith) in
      lost_here us (drop (s * (c.k - u + c.p)) es) j (omega arith) (rw q f)

  lost_take : (us es : List ℕ) (j i : ℕ) → i < j → Lost c s us es i → Lost c s (take j us) es i
  lost_take [] es j i l f = absurd f
  lost_take (u ∷ us) es zero i l f = absurd (omega arith)
  lost_take (u ∷ us) es (suc j) zero l f = f
  lost_take (u ∷ us) es (suc j) (suc i) l f = lost_take us (drop (s * (c.k - u + c.p)) es) j i (omega arith) f

  -- where the copies of a word are cut out, its bits are spoilt as they were
  spoilt_cut : (ws es : List ℕ) (n : ℕ) → s * length ws ≡ n → n ≤ length es → spoilt s ws (take n es) ≡ spoilt s ws es
  spoilt_cut ws es n e l =
      sym (spoilt-front s ws (take n es) (drop n es) (omega (arith, length-take-le n es l))) ∙ ap (spoilt s ws) (take-append-drop n es)

  module _ (L : codes.Lawful c) (u : ℕ) (lt : u < c.k) (es : List ℕ) (n : ℕ) (size : n ≡ s * (c.k - u + c.p)) (fits : n ≤ length es) where
    cut : (x : List ℕ) → Bits (c.k - u) x → spoilt s (word (shortened c u) x) (take n es) ≡ spoilt s (word (shortened c u) x) es
    cut x b = spoilt_cut (word (shortened c u) x) es n (ap (λ j. s * j) (word_bits (shortened c u) x (shortened_lawful c L u lt) b).size ∙ sym size) fits

    pub near_whole : (x : List ℕ) (r : ℕ) → NearWord (shortened c u) s (take n es) x r → NearWord (shortened c u) s es x r
    near_whole x r h = record { valid = h.valid; count = sym (cut x h.valid) ∙ h.count; within = h.within }

    pub far_whole : FarWord (shortened c u) s (take n es) → FarWord (shortened c u) s es
    far_whole f x b = rw (cut x b) at (f x b)

    pub near_few : (x : List ℕ) (r : ℕ) → NearWord (shortened c u) s es x r → r ≤ 63
    near_few x r h = omega (arith, h.count, spoilt-le s (word (shortened c u) x) es, (word_bits (shortened c u) x (shortened_lawful c L u lt) h.valid).size, L.short)

-- j words are heard: their messages are in the first places of os, from the first copies of es
pub record Hearing (c : Code) (s : ℕ) (es os : List ℕ) (n j from at total : ℕ) : Type 0 where
  pub read : from + carried c.k (drop j (unsents c.k n)) ≡ n
  pub sent : from ≡ carried c.k (take j (unsents c.k n))
  pub place : at ≡ s * sized c (take j (unsents c.k n))
  pub left : at + s * sized c (drop j (unsents c.k n)) ≤ length es
  pub bits : AllByRecursion Bit (take from os)
  pub within : Within c s (take j (unsents c.k n)) (take from os) es
  pub counts : spoilt_all c s (take j (unsents c.k n)) (take from os) es ≡ total
  pub few : total ≤ 63 * j

pub hearing_none : (c : Code) (s : ℕ) (es os : List ℕ) (n : ℕ) → 0 < c.k → s * sized c (unsents c.k n) ≤ length es → Hearing c s es os n 0 0 0 0
hearing_none c s es os n p l = record {
  read = omega (arith, carried-unsents c.k n p);
  sent = refl;
  place = omega arith;
  left = omega arith;
  bits = tt;
  within = tt;
  counts = refl;
  few = omega arith;
}

-- the next word: its unsent bits are fewer than k, its message has room, and its copies are there
pub record Next (c : Code) (s : ℕ) (es : List ℕ) (n j from at m u : ℕ) : Type 0 where
  pub more : drop j (unsents c.k n) ≡ u ∷ drop (j + 1) (unsents c.k n)
  pub push : take (j + 1) (unsents c.k n) ≡ take j (unsents c.k n) ++ u ∷ []
  pub there : j < words c.k n
  pub unsent : u ≡ unsent c.k n j
  pub below : u < c.k
  pub bits : m ≡ c.k - u
  pub room : from + m ≤ n
  pub fits : at + s * (m + c.p) ≤ length es

pub next : (c : Code) (s : ℕ) (es os : List ℕ) (n j from at total i k m u : ℕ) → 0 < c.k → Hearing c s es os n j from at total → k ≡ c.k → i ≡ words k n → j < i → m ≡ k - unsent k n j → u ≡ unsent k n j
    → Next c s es n j from at m u
next c s es os n j from at total i k m u p h e w l x y =
    let a : j < words c.k n = rw (w, e) at l in
    let f : u ≡ unsent c.k n j = rw e at y in
    let g : drop j (unsents c.k n) ≡ u ∷ drop (j + 1) (unsents c.k n) = rw f (unsents_more c.k n j a) in
    let o : m ≡ c.k - u = omega (arith, x, y, e) in
    let b : u < c.k = rw f (unsent_below c.k n j p a) in
    let v : s * sized c (drop j (unsents c.k n)) ≡ s * (m + c.p) + s * sized c (drop (j + 1) (unsents c.k n)) = ap (λ us. s * sized c us) g ∙ ap (λ z. s * (z + c.p + sized c (drop (j + 1) (unsents c.k n)))) (sym o) ∙ omega arith in
    record {
      more = g;
      push = take_more (unsents c.k n) j 0 (omega (arith, length-unsents c.k n)) ∙ ap (λ z. take j (unsents c.k n) ++ z ∷ []) (get_or-unsents c.k n j a ∙ sym f);
      there = a;
      unsent = f;
      below = b;
      bits = o;
      room = omega (arith, h.read, ap (carried c.k) g);
      fits = omega (arith, h.left);
    }

module _ (c : Code) (L : codes.Lawful c) (s : ℕ) (es os : List ℕ) (n j from at total m u : ℕ) (h : Hearing c s es os n j from at total) (x : Next c s es n j from at m u) where
  size : s * (m + c.p) ≡ s * (c.k - u + c.p)
  size = ap (λ z. s * (z + c.p)) x.bits

  copies : s * (m + c.p) ≤ length (drop at es)
  copies = simp length-drop (omega (arith, x.fits))

  pub count_few : (ms : List ℕ) (r : ℕ) → NearWord (shortened c u) s (take (s * (m + c.p)) (drop at es)) ms r → r ≤ 63
  count_few ms r k = near_few c s L u x.below (drop at es) (s * (m + c.p)) size copies ms r (near_whole c s L u x.below (drop at es) (s * (m + c.p)) size copies ms r k)

  pub total_few : (ms : List ℕ) (r : ℕ) → NearWord (shortened c u) s (take (s * (m + c.p)) (drop at es)) ms r → n ≤ 2112 → total + r ≤ 137025
  total_few ms r k o =
      let w = words_room c.k n L.some in
      let a : words c.k n * 1 ≤ words c.k n * c.k = mul-le-mul_left (words c.k n) L.some in
      omega (arith, h.few, count_few ms r k, x.there, L.short)

  pub hearing_more : (ms cs : List ℕ) (r : ℕ) → NearWord (shortened c u) s (take (s * (m + c.p)) (drop at es)) ms r → take (from + m) cs ≡ take from os ++ ms → from ≤ length os
      → Hearing c s es cs n (j + 1) (from + m) (at + s * (m + c.p)) (total + r)
  hearing_more ms cs r k t fo =
      let U = unsents c.k n in
      let near = near_whole c s L u x.below (drop at es) (s * (m + c.p)) size copies ms r k in
      let lx : length (take from os) ≡ carried c.k (take j U) = length-take-le from os fo ∙ h.sent in
      let sp : spoilt s (word (shortened c u) ms) (drop (s * sized c (take j U)) es) ≡ r = ap (λ z. spoilt s (word (shortened c u) ms) (drop z es)) (sym h.place) ∙ near.count in
      let w = within_push c s (take j U) u (take from os) ms es lx near.valid.size h.within (omega (arith, near.within)) in
      let z : spoilt_all c s (take (j + 1) U) (take (from + m) cs) es ≡ total + r = rw (x.push, t) (w.1 ∙ omega (arith, h.counts)) in
      let cn : carried c.k (take (j + 1) U) ≡ carried c.k (take j U) + (c.k - u) = ap (carried c.k) x.push ∙ carried_push c s (take j U) u in
      let sn : sized c (take (j + 1) U) ≡ sized c (take j U) + (c.k - u + c.p) = ap (sized c) x.push ∙ sized_push c s (take j U) u in
      let rest : s * sized c (drop j U) ≡ s * (c.k - u + c.p) + s * sized c (drop (j + 1) U) = ap (λ us. s * sized c us) x.more ∙ omega arith in
      record {
        read = omega (arith, h.read, ap (carried c.k) x.more, x.bits, x.below);
        sent = omega (arith, h.sent, cn, x.bits);
        place = omega (arith, h.place, size, ap (λ q. s * q) sn);
        left = omega (arith, h.left, rest, size);
        bits = rw t (All-append Bit (take from os) ms h.bits near.valid.bits);
        within = rw (x.push, t) w.0;
        counts = z;
        few = omega (arith, h.few, count_few ms r k);
      }

  pub hearing_lost : FarWord (shortened c u) s (take (s * (m + c.p)) (drop at es)) → from ≤ length os → First (Lost c s (unsents c.k n) es) (words c.k n) j
  hearing_lost f fo =
      let U = unsents c.k n in
      let far : FarWord (shortened c u) s (drop at es) = far_whole c s L u x.below (drop at es) (s * (m + c.p)) size copies f in
      let e : get_or U j 0 ≡ u = get_or-unsents c.k n j x.there ∙ sym x.unsent in
      let g : FarWord (shortened c (get_or U j 0)) s (drop (s * sized c (take j U)) es) = rw (e, ← h.place) far in
      let b : Bits (carried c.k (take j U)) (take from os) = record { size = length-take-le from os fo ∙ h.sent; bits = h.bits } in
      record {
        below = x.there;
        has = lost_here c s U es j (omega (arith, length-unsents c.k n, x.there)) g;
        least = λ i l o. within_found c s (take j U) (take from os) es b h.within i (lost_take c s U es j i l o);
      }

pub hearing_all : (c : Code) (s : ℕ) (es os : List ℕ) (n j from at total i k : ℕ) → Hearing c s es os n j from at total → k ≡ c.k → i ≡ words k n → i ≤ j → length os ≡ n
    → Bits n os × Within c s (unsents c.k n) os es × (spoilt_all c s (unsents c.k n) os es ≡ total)
hearing_all c s es os n j from at total i k h e w l o =
    let U = unsents c.k n in
    let f : i ≡ words c.k n = rw e at w in
    let g = length-unsents c.k n in
    let z : drop j U ≡ [] = drop_all j U (omega arith) in
    let t : take j U ≡ U = take_all j U (omega arith) in
    let r : from ≡ n = omega (arith, h.read, ap (carried c.k) z) in
    let q : take from os ≡ os = take_all from os (omega arith) in
    (record { size = o; bits = rw q at h.bits }, rw (t, q) at h.within, rw (t, q) at h.counts)

-- the copies of a word are some
pub word_some : (c : Code) (s : ℕ) (es : List ℕ) (n j from at m u : ℕ) → 0 < s → Next c s es n j from at m u → 0 < s * (m + c.p)
word_some c s es n j from at m u p x =
    let a : 1 ≤ m + c.p = omega (arith, x.bits, x.below) in
    omega (arith, mul-le-mul_left s a)

-- the lowest symbol of the copies that the code cuts out
pub lowest_at : (c : Code) (s : ℕ) (es os : List ℕ) (hs : List AirBit) (n j from at total m u y r : ℕ) → Hearing c s es os n j from at total → Next c s es n j from at m u → y ≡ s * (m + c.p)
    → Lowest (take (at + y - at) (drop at hs)) r → Lowest (take (s * (c.k - unsent c.k n j + c.p)) (drop (s * sized c (take j (unsents c.k n))) hs)) r
lowest_at c s es os hs n j from at total m u y r h x e l =
    let a : at + y - at ≡ y = omega arith in
    let b : y ≡ s * (c.k - unsent c.k n j + c.p) = e ∙ ap (λ q. s * (q + c.p)) (x.bits ∙ ap (λ q. c.k - q) x.unsent) in
    rw (← h.place, ← (a ∙ b)) l
