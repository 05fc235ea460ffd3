-- Hearing a part: there is always an answer, and never two; and what the answers say of reach.
use Rattle.std.proofs.Common.{◌≡◌, ℕ, ◌+◌, ◌-◌, ◌<◌, ◌≤◌, ◌⊎◌, List, length, get_or, Ok, Err, Result, sym, refl, ap, ◌∙◌, inl, inr, arith}
use Rattle.std.proofs.lemmas.Bool.{cases_lt}
use Rattle.std.proofs.ByRecursion.{All-get_or}
use Rattle.bits.specs.Strings.{Bits}
use Rattle.mode.specs.declared.fault.PartFault.{PartFault}
use Rattle.mode.specs.declared.fault.PartFault.TheVariants.{Symbol, Step, Word}
use Rattle.mode.specs.declared.fault.HearFault.{HearFault}
use Rattle.mode.specs.declared.fault.HearFault.TheVariants.{Part, Call}
use Rattle.mode.specs.Shares.{words, unsents}
use Rattle.mode.specs.Modes.{Mode, Lawful, stepped, count, sent, air}
use Rattle.mode.specs.Parts.{First, There, part, Amiss, Read, Reach, Within, copies_of, Lost, Holds}
use Rattle.mode.specs.Answers.{Faulty, Hears}
use Rattle.mode.specs.Laws.{RefusedExactly}
use Rattle.mode.proofs.Strings.{bits_at, Either, decide_le}
use Rattle.mode.proofs.Firsts.{first_one, first_or_none}
use Rattle.mode.proofs.Splits.{carried-unsents, unsents_below, length-unsents}
use Rattle.mode.proofs.Stepping.{stepped_below, length-stepped}
use Rattle.mode.proofs.Whole.{within_one, roomy, count_width, copies_bits, copies_there, unsents_bits, air_bits, clean}
use Rattle.mode.proofs.Readings.{within_found, found_within, decide_lost, part-get_or, decide_amiss, read_same, read_fine, fine_read, holds_first, decide_holds}

decide_there : (m : Mode) (list : List ℕ) (at n : ℕ) → Either (There m list at n)
decide_there m list at n = go (decide_le 2 n) (decide_le n 2112) (decide_le (at + 1 + count m n) (length list))
  where
    go : Either (2 ≤ n) → Either (n ≤ 2112) → Either (at + 1 + count m n ≤ length list) → Either (There m list at n)
    go (inl a) (inl b) (inl c) = inl (record { carried = record { low = a; high = b }; long = c })
    go (inl a) (inl b) (inr c) = inr (λ t. c t.long)
    go (inl a) (inr b) c = inr (λ t. b t.carried.high)
    go (inr a) b c = inr (λ t. a t.carried.low)

module _ (m : Mode) (L : Lawful m) (list : List ℕ) (at n : ℕ) where
  -- the copies of a part from which bits were read
  module _ (two : 2 ≤ n) (bs : List ℕ) (r : Read m.map list at (count m n) bs) where
    pub same_bits : (xs ys : List ℕ) → Bits n xs → Bits n ys → Within m.code m.copies (unsents m.code.k n) xs (copies_of m n bs)
        → Within m.code m.copies (unsents m.code.k n) ys (copies_of m n bs) → xs ≡ ys
    same_bits xs ys a b v w =
        let h = copies_bits m L n bs two (bits_at _ _ bs (count_width m L n) r.bits) in
        within_one m.code m.copies (unsents m.code.k n) xs ys (copies_of m n bs) L.code (unsents_below m.code.k n (roomy m L))
        (unsents_bits m L n xs a) (unsents_bits m L n ys b) h.bits (omega (arith, h.size, copies_there m L n)) v w

  -- a part is within reach of one list of bits at most, and with one count
  pub one_reach : (xs ys : List ℕ) (b c : ℕ) → Reach m list at n xs b → Reach m list at n ys c → (xs ≡ ys) × (b ≡ c)
  one_reach xs ys b c r q =
      let d : r.bits ≡ q.bits = read_same m list at n L r.bits q.bits r.read q.read in
      let w : Within m.code m.copies (unsents m.code.k n) ys (copies_of m n r.bits) = rw d q.within in
      let e : xs ≡ ys = same_bits r.there.carried.low r.bits r.read xs ys r.valid q.valid r.within w in
      let x = r.counts in
      let y = q.counts in
      (e, cc)

  reach_fine : (xs : List ℕ) (c i k : ℕ) → Reach m list at n xs c → First (Amiss m.map list at) (at + 1 + count m n) i → ⊥
  reach_fine xs c i k r f = read_fine m list at n L r.bits r.there r.read i f.below f.has

  -- a part within reach has no fault
  pub reach_faultless : (xs : List ℕ) (c : ℕ) (f : PartFault) → Reach m list at n xs c → Faulty m list at n f → ⊥
  reach_faultless xs c (Symbol i) r f = reach_fine xs c i 0 r f.0
  reach_faultless xs c (Step i) r f = reach_fine xs c i 0 r f.0
  reach_faultless xs c (Word i) r f =
      let d : r.bits ≡ f.0 = read_same m list at n L r.bits f.0 r.read f.1 in
      let w : Within m.code m.copies (unsents m.code.k n) xs (copies_of m n f.0) = rw d at r.within in
      within_found m.code m.copies (unsents m.code.k n) xs (copies_of m n f.0) (unsents_bits m L n xs r.valid) w f.2.0 f.2.1.has

  word_fine : (i : ℕ) (bs : List ℕ) → There m list at n → Read m.map list at (count m n) bs → First (Amiss m.map list at) (at + 1 + count m n) i → ⊥
  word_fine i bs t r f = read_fine m list at n L bs t r i f.below f.has

  -- a part has one fault at most
  pub one_fault : (f g : PartFault) → There m list at n → Faulty m list at n f → Faulty m list at n g → f ≡ g
  one_fault (Symbol i) (Symbol j) t a b = ap Symbol (first_one _ _ _ i j a.0 b.0)
  one_fault (Symbol i) (Step j) t a b = absurd (b.1 (rw (first_one _ _ _ i j a.0 b.0) at a.1))
  one_fault (Symbol i) (Word j) t a b = absurd (word_fine i b.0 t b.1 a.0)
  one_fault (Step i) (Symbol j) t a b = absurd (a.1 (rw (first_one _ _ _ j i b.0 a.0) at b.1))
  one_fault (Step i) (Step j) t a b = ap Step (first_one _ _ _ i j a.0 b.0)
  one_fault (Step i) (Word j) t a b = absurd (word_fine i b.0 t b.1 a.0)
  one_fault (Word i) (Symbol j) t a b = absurd (word_fine j a.0 t a.1 b.0)
  one_fault (Word i) (Step j) t a b = absurd (word_fine j a.0 t a.1 b.0)
  one_fault (Word i) (Word j) t a b =
      let e : a.0 ≡ b.0 = read_same m list at n L a.0 b.0 a.1 b.1 in
      let P : List ℕ → ℕ → Type 0 = λ bs. Lost m.code m.copies (unsents m.code.k n) (copies_of m n bs) in
      let w : First (P a.0) (words m.code.k n) b.2.0 = rw e b.2.1 in
      let x : a.2.0 ≡ b.2.0 = first_one (P a.0) _ _ a.2.0 b.2.0 a.2.1 w in
      let y : First (Holds m at n a.2.0) (at + 1 + count m n) j = rw x b.2.2 in
      ap Word (first_one (Holds m at n a.2.0) _ _ i j a.2.2 y)

  -- a part that is there is within reach of bits or has a fault
  abbrev Told : Type 0
  Told = ((xs : List ℕ) × (c : ℕ) × Reach m list at n xs c) ⊎ ((f : PartFault) × Faulty m list at n f)

  module _ (t : There m list at n) where
    by_words : (bs : List ℕ) → Read m.map list at (count m n) bs
        → ((j : ℕ) × First (Lost m.code m.copies (unsents m.code.k n) (copies_of m n bs)) (words m.code.k n) j)
        ⊎ ((j : ℕ) → j < words m.code.k n → Lost m.code m.copies (unsents m.code.k n) (copies_of m n bs) j → ⊥) → Told
    by_words bs r (inl f) = go (first_or_none (Holds m at n f.0) (decide_holds m list at n L f.0) (at + 1 + count m n))
      where
        go : ((i : ℕ) × First (Holds m at n f.0) (at + 1 + count m n) i) ⊎ ((i : ℕ) → i < at + 1 + count m n → Holds m at n f.0 i → ⊥) → Told
        go (inl h) = inr (Word h.0, (bs, r, (f.0, f.1, h.1)))
        go (inr h) = let x = holds_first m list at n L t.carried.low f.0 f.1.below in absurd (h x.0 x.2 x.1)
    by_words bs r (inr f) =
        let k = m.code.k in
        let w = found_within m.code m.copies (unsents k n) (copies_of m n bs) (λ j l. f j (omega (arith, length-unsents k n))) in
        inl (
          w.0,
          _,
          record {
            there = t;
            valid = bits_at _ _ w.0 (carried-unsents k n (roomy m L)) w.1;
            bits = bs;
            read = r;
            within = w.2;
            counts = refl;
          },
        )

    by_symbols : ((i : ℕ) × First (Amiss m.map list at) (at + 1 + count m n) i) ⊎ ((i : ℕ) → i < at + 1 + count m n → Amiss m.map list at i → ⊥) → Told
    by_symbols (inl f) = elim (decide_le m.map.q (get_or list f.0 0)) [
      | inl s ↦ inr (Symbol f.0, (f.1, s))
      | inr s ↦ inr (Step f.0, (f.1, s))
    ]
    by_symbols (inr f) =
        let r = fine_read m list at n L t f in
        by_words r.0 r.1 (first_or_none (Lost m.code m.copies (unsents m.code.k n) (copies_of m n r.0))
        (decide_lost m.code m.copies (unsents m.code.k n) (copies_of m n r.0)) (words m.code.k n))

    pub told : Told
    told = by_symbols (first_or_none (Amiss m.map list at) (decide_amiss m list at n) (at + 1 + count m n))

  -- what is sent is within reach of what was sent
  pub sent_reaches : (xs : List ℕ) → There m list at n → Bits n xs → get_or list at 0 < m.map.q → part m list at n ≡ sent m (get_or list at 0) xs → Reach m list at n xs 0
  unfolding sent
  sent_reaches xs t b k e =
      let two = t.carried.low in
      let a = air_bits m L n xs two b in
      let h = clean m L n xs two b in
      let s = b.size in
      let q : part m list at n ≡ stepped m.map (count m n) (get_or list at 0) (air m xs) = e ∙ ap (λ j. stepped m.map (count m j) (get_or list at 0) (air m xs)) s in
      let low = stepped_below m.map L.map (count m n) (get_or list at 0) (air m xs) k (bits_at _ _ (air m xs) (sym (count_width m L n)) a) in
      record {
        there = t;
        valid = b;
        bits = air m xs;
        read = record {
          bits = bits_at _ _ (air m xs) (sym (count_width m L n)) a;
          known = λ i f g. elim (cases_lt at i) [
            | inl l ↦
                let j : i - (at + 1) < count m n = omega arith in
                let x : get_or (part m list at n) (i - (at + 1)) 0 ≡ get_or list i 0 = part-get_or m list at n (i - (at + 1)) j ∙ ap (λ y. get_or list y 0) (omega arith) in
                let z : get_or (stepped m.map (count m n) (get_or list at 0) (air m xs)) (i - (at + 1)) 0 < m.map.q =
                All-get_or (λ y. y < m.map.q) (stepped m.map (count m n) (get_or list at 0) (air m xs)) (i - (at + 1)) 0 (omega (arith, length-stepped m.map (count m n) (get_or list at 0) (air m xs))) low in
                rw (← x) (rw q z)
            | inr l ↦ let x : i ≡ at = omega arith in rw x k
          ];
          leads = sym q;
        };
        within = h.0;
        counts = h.1;
      }

module _ (m : Mode) (L : Lawful m) (list : List ℕ) (at : ℕ) (before : List ℕ) where
  pub hears_total : (after : List ℕ) × (r : Result ℕ HearFault) × Hears m list at before after r
  hears_total = go (decide_there m list at (length before))
    where
      by : There m list at (length before) → Told m L list at (length before) → (after : List ℕ) × (r : Result ℕ HearFault) × Hears m list at before after r
      by t (inl h) = (h.0, Ok h.1, h.2)
      by t (inr h) = (before, Err (Part h.0), (t, h.1, refl))

      go : Either (There m list at (length before)) → (after : List ℕ) × (r : Result ℕ HearFault) × Hears m list at before after r
      go (inl t) = by t (told m L list at (length before) t)
      go (inr n) = (before, Err (Call (record {})), (n, refl))

  pub hears_one : (us vs : List ℕ) (r s : Result ℕ HearFault) → Hears m list at before us r → Hears m list at before vs s → (us ≡ vs) × (r ≡ s)
  hears_one us vs (Ok b) (Ok c) x y = let e = one_reach m L list at (length before) us vs b c x y in (e.0, ap Ok e.1)
  hears_one us vs (Ok b) (Err (Part f)) x y = absurd (reach_faultless m L list at (length before) us b f x y.1)
  hears_one us vs (Ok b) (Err (Call e)) x y = absurd (y.0 x.there)
  hears_one us vs (Err (Part f)) (Ok c) x y = absurd (reach_faultless m L list at (length before) vs c f y x.1)
  hears_one us vs (Err (Part f)) (Err (Part g)) x y =
      (x.2 ∙ sym y.2, ap (λ h. Err (Part h)) (one_fault m L list at (length before) f g x.0 x.1 y.1))
  hears_one us vs (Err (Part f)) (Err (Call e)) x y = absurd (y.0 x.0)
  hears_one us vs (Err (Call e)) (Ok c) x y = absurd (x.0 y.there)
  hears_one us vs (Err (Call e)) (Err (Part g)) x y = absurd (x.0 y.0)
  hears_one us vs (Err (Call e)) (Err (Call f)) x y = (x.1 ∙ sym y.1, refl)

  pub reach_heard : (after xs : List ℕ) (c : ℕ) (r : Result ℕ HearFault) → Reach m list at (length before) xs c → Hears m list at before after r → (after ≡ xs) × (r ≡ Ok c)
  reach_heard after xs c r x y = hears_one after xs r (Ok c) y x

  pub refused : (after : List ℕ) (r : Result ℕ HearFault) → There m list at (length before) → Hears m list at before after r
      → ((xs : List ℕ) (c : ℕ) → Reach m list at (length before) xs c → ⊥) → (f : PartFault) × (r ≡ Err (Part f))
  refused after (Ok c) t h n = absurd (n after c h)
  refused after (Err (Part f)) t h n = (f, refl)
  refused after (Err (Call e)) t h n = absurd (h.0 t)

pub refused_exactly : RefusedExactly
refused_exactly = record {
  refused = λ m L list at before after r. refused m L list at before after r;
  only = λ m L list at before after xs c f h r. reach_faultless m L list at (length before) xs c f r h.1;
}
