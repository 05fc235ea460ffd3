-- What a part holds: its bits, its faults, its words, and where they stand in the list.
use Rattle.std.proofs.Common.{◌≡◌, ℕ, zero, suc, ◌+◌, ◌-◌, ◌*◌, ◌/◌, ◌<◌, ◌≤◌, ◌⊎◌, List, [], ◌∷◌, ◌++◌, length, get_or, take, drop, sym, refl, ap, ◌∙◌, inl, inr, mul-le-mul_left, arith}
use Rattle.std.proofs.Math.Nat.{mul-div_cancel_left}
use Rattle.std.proofs.lemmas.Bool.{cases_eq, cases_lt}
use Rattle.std.proofs.lemmas.List.{take_at, drop_at, length-take-le, length-drop, get_or-take, get_or-drop}
use Rattle.std.proofs.ByRecursion.{All-get_or}
use Rattle.std.proofs.lemmas.Nat.{div_below}
use Rattle.bits.specs.Strings.{Bits}
use Rattle.block_code.specs.Codes.{Code, word, shortened}
use Rattle.mode.specs.Shares.{words, unsents}
use Rattle.mode.specs.Orders.{back}
use Rattle.mode.specs.Copying.{spoilt}
use Rattle.mode.specs.Modes.{Mode, Lawful, stepped, total, count}
use Rattle.mode.specs.Parts.{There, part, Strange, Unread, Amiss, Read, Within, Lost, sized, start, bit_at, Holds}
use Rattle.block_code.specs.Near.{searched}
use Rattle.mode.proofs.Strings.{take_bits, drop_bits, bits_at, append_bits, Either, decide_le}
use Rattle.mode.proofs.Firsts.{first_or_none}
use Rattle.mode.proofs.Turns.{back_undoes}
use Rattle.mode.proofs.Splits.{carried, unsents_below, length-unsents}
use Rattle.mode.proofs.Stepping.{Leads, stepped_same, leads_read, decide_unread, read_leads}
use Rattle.mode.proofs.Whole.{roomy, several, wide, count_width, total_enough, copies_there}

-- words within reach are not lost
pub within_found : (c : Code) (s : ℕ) (us xs es : List ℕ) → Bits (carried c.k us) xs → Within c s us xs es → (j : ℕ) → Lost c s us es j → ⊥
within_found c s [] xs es b w j l = l
within_found c s (u ∷ us) xs es b w zero l = omega (arith, l (take (c.k - u) xs) (take_bits (c.k - u) (carried c.k us) xs b), w.0)
within_found c s (u ∷ us) xs es b w (suc j) l =
    within_found c s us (drop (c.k - u) xs) (drop (s * (c.k - u + c.p)) es) (drop_bits (c.k - u) (carried c.k us) xs b) w.1 j l

-- some message is within reach of the copies of a word
abbrev Found : Code → ℕ → ℕ → List ℕ → Type 0
Found c s u es = (x : List ℕ) × Bits (c.k - u) x × (spoilt s (word (shortened c u) x) es ≤ c.t)

find_one : (c : Code) (s u : ℕ) (es : List ℕ) → Found c s u es ⊎ Lost c s (u ∷ []) es 0
find_one c s u es =
    elim (searched (c.k - u) (λ x. spoilt s (word (shortened c u) x) es ≤ c.t) (λ x. decide_le (spoilt s (word (shortened c u) x) es) c.t)) [
      | inl h ↦ inl h
      | inr h ↦ inr (λ x b. elim (cases_lt c.t (spoilt s (word (shortened c u) x) es)) [ inl l ↦ l | inr l ↦ absurd (h x b l) ])
    ]

pub decide_lost : (c : Code) (s : ℕ) (us es : List ℕ) (j : ℕ) → Either (Lost c s us es j)
decide_lost c s [] es j = inr (λ h. h)
decide_lost c s (u ∷ us) es zero = elim (find_one c s u es) [ inl h ↦ inr (λ l. omega (arith, l h.0 h.1, h.2)) | inr l ↦ inl l ]
decide_lost c s (u ∷ us) es (suc j) = decide_lost c s us (drop (s * (c.k - u + c.p)) es) j

pub found_within : (c : Code) (s : ℕ) (us es : List ℕ) → ((j : ℕ) → j < length us → Lost c s us es j → ⊥) → (xs : List ℕ) × Bits (carried c.k us) xs × Within c s us xs es
found_within c s [] es h = ([], record { size = refl; bits = tt }, tt)
found_within c s (u ∷ us) es h = go (find_one c s u es) (found_within c s us (drop (s * (c.k - u + c.p)) es) (λ j l. h (suc j) (omega arith)))
  where
    go : Found c s u es ⊎ Lost c s (u ∷ []) es 0
        → (xs : List ℕ) × Bits (carried c.k us) xs × Within c s us xs (drop (s * (c.k - u + c.p)) es)
        → (xs : List ℕ) × Bits (carried c.k (u ∷ us)) xs × Within c s (u ∷ us) xs es
    go (inl a) r =
        let n = c.k - u in
        let x : take n (a.0 ++ r.0) ≡ a.0 = take_at a.0 r.0 n a.1.size in
        let y : drop n (a.0 ++ r.0) ≡ r.0 = drop_at a.0 r.0 n a.1.size in
        (a.0 ++ r.0, append_bits n (carried c.k us) a.0 r.0 a.1 r.1, rw (x, y) (a.2, r.2))
    go (inr l) r = absurd (h 0 (omega arith) l)

-- the words before word j + 1 are those before word j and word j
pub sized_more : (c : Code) (us : List ℕ) (j : ℕ) → j < length us → sized c (take (j + 1) us) ≡ sized c (take j us) + (c.k - get_or us j 0 + c.p)
sized_more c [] j l = absurd (omega arith)
sized_more c (u ∷ us) zero l = omega arith
sized_more c (u ∷ us) (suc j) l =
    let e : suc j + 1 ≡ suc (j + 1) = omega arith in
    rw e (omega (arith, sized_more c us j (omega arith)))

pub sized-take : (c : Code) (us : List ℕ) (j : ℕ) → sized c (take j us) ≤ sized c us
sized-take c [] zero = omega arith
sized-take c [] (suc j) = omega arith
sized-take c (u ∷ us) zero = omega arith
sized-take c (u ∷ us) (suc j) = omega (arith, sized-take c us j)

module _ (m : Mode) (list : List ℕ) (at n : ℕ) where
  pub part_length : There m list at n → length (part m list at n) ≡ count m n
  part_length t = length-take-le (count m n) (drop (at + 1) list) (simp length-drop (omega (arith, t.long)))

  pub part-get_or : (i : ℕ) → i < count m n → get_or (part m list at n) i 0 ≡ get_or list (at + 1 + i) 0
  part-get_or i l = get_or-take (count m n) (drop (at + 1) list) i 0 l ∙ get_or-drop (at + 1) list i 0

  pub prior_get_or : (i : ℕ) → i ≤ count m n → get_or (get_or list at 0 ∷ part m list at n) i 0 ≡ get_or list (at + i) 0
  prior_get_or zero l = ap (λ j. get_or list j 0) (omega arith)
  prior_get_or (suc i) l = part-get_or i (omega arith) ∙ ap (λ j. get_or list j 0) (omega arith)

  pub decide_amiss : (i : ℕ) → Either (Amiss m.map list at i)
  decide_amiss i = go (decide_le at i) (decide_le m.map.q (get_or list i 0)) (cases_lt at i) (decide_unread m.map (get_or list (i - 1) 0) (get_or list i 0))
    where
      go : Either (at ≤ i) → Either (Strange m.map list i) → (at < i) ⊎ (i ≤ at) → Either (Unread m.map (get_or list (i - 1) 0) (get_or list i 0)) → Either (Amiss m.map list at i)
      go (inr n) s b u = inr (λ a. n a.0)
      go (inl l) (inl s) b u = inl (l, inl s)
      go (inl l) (inr s) (inl b) (inl u) = inl (l, inr (b, u))
      go (inl l) (inr s) (inl b) (inr u) = inr (λ a. elim a.1 [ inl x ↦ s x | inr x ↦ u x.1 ])
      go (inl l) (inr s) (inr b) u = inr (λ a. elim a.1 [ inl x ↦ s x | inr x ↦ omega (arith, x.0) ])

  module _ (L : Lawful m) where
    -- the bits of a part lead through its symbols
    pub leads_of : (bs : List ℕ) → There m list at n → Read m.map list at (count m n) bs → Leads m.map (length (part m list at n)) (get_or list at 0) (part m list at n) bs
    leads_of bs t r =
        let e = part_length t in
        record {
          bits = bits_at _ _ bs (ap (λ i. i * m.map.w) (sym e)) r.bits;
          same = ap (λ i. stepped m.map i (get_or list at 0) bs) e ∙ r.leads;
        }

    pub read_same : (bs cs : List ℕ) → Read m.map list at (count m n) bs → Read m.map list at (count m n) cs → bs ≡ cs
    read_same bs cs r q =
        stepped_same m.map L.map (count m n) (get_or list at 0) bs cs (r.known at (omega arith) (omega arith))
        r.bits q.bits (r.leads ∙ sym q.leads)

    pub read_fine : (bs : List ℕ) → There m list at n → Read m.map list at (count m n) bs → (i : ℕ) → i < at + 1 + count m n → Amiss m.map list at i → ⊥
    read_fine bs t r i l a = elim a.1 [
      | inl s ↦ omega (arith, r.known i a.0 (omega arith))
      | inr u ↦
          let o = part_length t in
          let b = u.0 in
          let j : i - (at + 1) < count m n = omega arith in
          let x : get_or (get_or list at 0 ∷ part m list at n) (i - (at + 1)) 0 ≡ get_or list (i - 1) 0 = prior_get_or (i - (at + 1)) (omega arith) ∙ ap (λ y. get_or list y 0) (omega arith) in
          let y : get_or (part m list at n) (i - (at + 1)) 0 ≡ get_or list i 0 = part-get_or (i - (at + 1)) j ∙ ap (λ y. get_or list y 0) (omega arith) in
          leads_read m.map (get_or list at 0) (part m list at n) bs (leads_of bs t r) (i - (at + 1)) (omega arith) (rw (x, y) u.1)
    ]

    read_of : (bs : List ℕ) → There m list at n → ((i : ℕ) → i < at + 1 + count m n → Amiss m.map list at i → ⊥)
        → Leads m.map (length (part m list at n)) (get_or list at 0) (part m list at n) bs → Read m.map list at (count m n) bs
    read_of bs t h d =
        let o = part_length t in
        record {
          bits = bits_at _ _ bs (ap (λ i. i * m.map.w) o) d.bits;
          known = λ i a b. elim (cases_lt (get_or list i 0) m.map.q) [ inl l ↦ l | inr l ↦ absurd (h i (omega arith) (a, inl l)) ];
          leads = ap (λ i. stepped m.map i (get_or list at 0) bs) (sym o) ∙ d.same;
        }

    pub fine_read : There m list at n → ((i : ℕ) → i < at + 1 + count m n → Amiss m.map list at i → ⊥) → (bs : List ℕ) × Read m.map list at (count m n) bs
    fine_read t h =
        let o = part_length t in
        let d = read_leads m.map (get_or list at 0) (part m list at n) (λ i l u.
        let k : i < count m n = omega arith in
        let x : get_or (get_or list at 0 ∷ part m list at n) i 0 ≡ get_or list (at + 1 + i - 1) 0 = prior_get_or i (omega arith) ∙ ap (λ y. get_or list y 0) (omega arith) in
        let y : get_or (part m list at n) i 0 ≡ get_or list (at + 1 + i) 0 = part-get_or i k in
        h (at + 1 + i) (omega arith) (omega arith, inr (omega arith, rw (x, y) at u))) in
        (d.0, read_of d.0 t h d.1)

    pub start_there : (j : ℕ) → j < words m.code.k n → start m n j < start m n (j + 1)
    start_there j l =
        let us = unsents m.code.k n in
        let h : j < length us = omega (arith, length-unsents m.code.k n) in
        let b : get_or us j 0 < m.code.k = All-get_or (λ u. u < m.code.k) us j 0 h (unsents_below m.code.k n (roomy m L)) in
        omega (arith, sized_more m.code us j h)

    -- a copy of the first bit of word j
    pub holds_first : 2 ≤ n → (j : ℕ) → j < words m.code.k n → (i : ℕ) × Holds m at n j i × (i < at + 1 + count m n)
    holds_first two j l =
        let s = m.copies in
        let t = total m n in
        let p = several m L in
        let a = start_there j l in
        let b = sized-take m.code (unsents m.code.k n) (j + 1) in
        let k : s * start m n j < s * t = omega (arith, copies_there m L n, mul-le-mul_left s b, mul-le-mul_left s a) in
        let u = back_undoes s t p (total_enough m L n two) in
        let x : back s t (s * start m n j) < s * t = u.below (s * start m n j) k in
        let e : bit_at m n (back s t (s * start m n j)) ≡ start m n j = ap (λ y. y / s) (u.undone (s * start m n j) k) ∙ mul-div_cancel_left (start m n j) p in
        let d : back s t (s * start m n j) / m.map.w < count m n = div_below (back s t (s * start m n j)) m.map.w (count m n) (wide m L) (omega (arith, count_width m L n)) in (
          at + 1 + back s t (s * start m n j) / m.map.w,
          record {
            copy = back s t (s * start m n j);
            there = x;
            index = refl;
            low = omega (arith, e);
            high = omega (arith, e);
          },
          omega arith,
        )

    pub decide_holds : (j i : ℕ) → Either (Holds m at n j i)
    decide_holds j i = elim (first_or_none Here decide (m.copies * total m n)) [
      | inl f ↦ inl (record { copy = f.0; there = f.1.below; index = f.1.has.0; low = f.1.has.1; high = f.1.has.2 })
      | inr f ↦ inr (λ h. f h.copy h.there (h.index, h.low, h.high))
    ]
      where
        Here : ℕ → Type 0
        Here x = (i ≡ at + 1 + x / m.map.w) × (start m n j ≤ bit_at m n x) × (bit_at m n x < start m n (j + 1))

        decide : (x : ℕ) → Either (Here x)
        decide x = go (cases_eq i (at + 1 + x / m.map.w)) (decide_le (start m n j) (bit_at m n x)) (decide_le (suc (bit_at m n x)) (start m n (j + 1)))
          where
            go : Either (i ≡ at + 1 + x / m.map.w) → Either (start m n j ≤ bit_at m n x) → Either (suc (bit_at m n x) ≤ start m n (j + 1)) → Either (Here x)
            go (inl a) (inl b) (inl c) = inl (a, b, c)
            go (inl a) (inl b) (inr c) = inr (λ h. c h.2)
            go (inl a) (inr b) c = inr (λ h. b h.1)
            go (inr a) b c = inr (λ h. a h.0)
