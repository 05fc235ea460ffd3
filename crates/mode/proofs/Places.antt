-- Where in the list a word's copies stand, and what hearing the words of a part says of it.
use Rattle.std.proofs.Common.{◌≡◌, ℕ, ◌+◌, ◌-◌, ◌*◌, ◌/◌, ◌%◌, ◌<◌, ◌≤◌, List, length, get_or, take, drop, Ok, Err, Result, sym, ap, ◌∙◌, mul-le-mul_right, mul-le-mul_left, arith, refl}
use Rattle.std.proofs.Math.Nat.{mul-div_cancel_left, sub-zero}
use Rattle.std.proofs.lemmas.Nat.{div_below, le-div, div-add-mod', mod_below}
use Rattle.std.proofs.lemmas.List.{take-map, drop-map, get_or-take, get_or-drop, length-take-le, length-drop}
use Rattle.std.specs.List.{AllByRecursion}
use Rattle.bits.specs.Strings.{Bit}
use Rattle.mode.specs.declared.air_bit.AirBit.{AirBit}
use Rattle.mode.specs.declared.decoder.LostWord.{LostWord}
use Rattle.mode.specs.declared.fault.PartFault.{PartFault}
use Rattle.mode.specs.declared.fault.PartFault.TheVariants.{Word}
use Rattle.mode.specs.Shares.{words, unsent, unsents}
use Rattle.mode.specs.Orders.{Copied, forth, back, deinterleaved}
use Rattle.mode.specs.Heard.{labelled, bits_of, symbols_of, Lowest}
use Rattle.mode.specs.Modes.{Mode, Lawful, Carried, total, count}
use Rattle.mode.specs.Parts.{First, There, Read, Reach, Lost, copies_of, sized, start, bit_at, Holds}
use Rattle.mode.specs.Hearing.{HearsWords}
use Rattle.mode.specs.Answers.{Faulty, HearsPart}
use Rattle.mode.proofs.Turns.{forth_undoes, back_undoes}
use Rattle.mode.proofs.Strings.{bits_at}
use Rattle.mode.proofs.Moves.{copied_at}
use Rattle.mode.proofs.Room.{air_few}
use Rattle.mode.proofs.Splits.{length-unsents, get_or-unsents}
use Rattle.mode.proofs.Whole.{several, wide, count_width, total_enough, copies_bits, copies_there}
use Rattle.mode.proofs.Readings.{sized_more, sized-take}
use Rattle.mode.proofs.Blocks.{bits_deinterleaved, symbol_deinterleaved, length-deinterleaved, length-labelled}

-- the symbol at a place of a part
symbol_cut : (hs : List AirBit) (a n q : ℕ) → q < n → get_or (symbols_of (take n (drop a hs))) q 0 ≡ get_or (symbols_of hs) (a + q) 0
symbol_cut hs a n q l =
    ap (λ us. get_or us q 0) (sym (take-map (λ h. h.symbol) n (drop a hs)) ∙ ap (take n) (sym (drop-map (λ h. h.symbol) a hs)))
    ∙ get_or-take n (drop a (symbols_of hs)) q 0 l ∙ get_or-drop a (symbols_of hs) q 0

module _ (m : Mode) (L : Lawful m) (at n j : ℕ) (two : 2 ≤ n) (jl : j < words m.code.k n) (bs : List ℕ) (size : length bs ≡ m.copies * total m n) where
  next_start : start m n (j + 1) ≡ start m n j + (m.code.k - unsent m.code.k n j + m.code.p)
  next_start =
      sized_more m.code (unsents m.code.k n) j (omega (arith, length-unsents m.code.k n))
      ∙ ap (λ u. start m n j + (m.code.k - u + m.code.p)) (get_or-unsents m.code.k n j jl)

  fits : m.copies * start m n j + m.copies * (m.code.k - unsent m.code.k n j + m.code.p) ≤ m.copies * total m n
  fits = omega (arith, ap (λ x. m.copies * x) next_start, mul-le-mul_left m.copies (sized-take m.code (unsents m.code.k n) (j + 1)), copies_there m L n)

  -- the symbol of a copy of the word
  symbol_at : (q : ℕ) → q < m.copies * (m.code.k - unsent m.code.k n j + m.code.p)
      → get_or (symbols_of (take (m.copies * (m.code.k - unsent m.code.k n j + m.code.p)) (drop (m.copies * start m n j) (deinterleaved m.copies (total m n) (labelled m.map.w 0 bs))))) q 0
      ≡ back m.copies (total m n) (m.copies * start m n j + q) / m.map.w
  symbol_at q l =
      symbol_cut (deinterleaved m.copies (total m n) (labelled m.map.w 0 bs)) (m.copies * start m n j) (m.copies * (m.code.k - unsent m.code.k n j + m.code.p)) q l
      ∙ symbol_deinterleaved m.copies (total m n) m.map.w bs (m.copies * start m n j + q) (several m L) (total_enough m L n two) size (omega (arith, fits))

  cut_long : length (take (m.copies * (m.code.k - unsent m.code.k n j + m.code.p)) (drop (m.copies * start m n j) (deinterleaved m.copies (total m n) (labelled m.map.w 0 bs)))) ≡ m.copies * (m.code.k - unsent m.code.k n j + m.code.p)
  cut_long =
      let D = deinterleaved m.copies (total m n) (labelled m.map.w 0 bs) in
      let long : length D ≡ m.copies * total m n = length-deinterleaved m.copies (total m n) (labelled m.map.w 0 bs) ∙ length-labelled m.map.w 0 bs ∙ size in
      length-take-le (m.copies * (m.code.k - unsent m.code.k n j + m.code.p)) (drop (m.copies * start m n j) D) (simp length-drop (omega (arith, fits)))

  -- no copy of the word stands with a lower symbol
  none_below : (r : ℕ) → Lowest (take (m.copies * (m.code.k - unsent m.code.k n j + m.code.p)) (drop (m.copies * start m n j) (deinterleaved m.copies (total m n) (labelled m.map.w 0 bs)))) r
      → (i : ℕ) (h : Holds m at n j i) → r ≤ h.copy / m.map.w
  none_below r low i h =
      let s = m.copies in
      let t = total m n in
      let f = forth_undoes s t (several m L) (total_enough m L n two) in
      let x = forth s t h.copy in
      let lo : start m n j ≤ x / s = h.low in
      let hi : x / s + 1 ≤ start m n (j + 1) = omega (arith, h.high) in
      let d : x / s * s + x % s ≡ x = div-add-mod' x s in
      let o : x % s < s = mod_below x s (several m L) in
      let a : start m n j * s ≤ x / s * s = mul-le-mul_right s lo in
      let b : (x / s + 1) * s ≤ start m n (j + 1) * s = mul-le-mul_right s hi in
      let e : start m n (j + 1) * s ≡ start m n j * s + m.copies * (m.code.k - unsent m.code.k n j + m.code.p) = ap (λ y. y * s) next_start ∙ omega arith in
      let q : x - s * start m n j < m.copies * (m.code.k - unsent m.code.k n j + m.code.p) = omega arith in
      let y : s * start m n j + (x - s * start m n j) ≡ x = omega arith in
      let z : back s t x / m.map.w ≡ h.copy / m.map.w = ap (λ c. c / m.map.w) (f.undone h.copy h.there) in
      omega (arith, low.least (x - s * start m n j) (omega (arith, cut_long)), symbol_at (x - s * start m n j) q, ap (λ c. back s t c / m.map.w) y, z)

  pub lowest_holds : (r : ℕ) → Lowest (take (m.copies * (m.code.k - unsent m.code.k n j + m.code.p)) (drop (m.copies * start m n j) (deinterleaved m.copies (total m n) (labelled m.map.w 0 bs)))) r
      → First (Holds m at n j) (at + 1 + count m n) (at + 1 + r)
  lowest_holds r low =
      let s = m.copies in
      let t = total m n in
      let w = m.map.w in
      let p = several m L in
      let k = total_enough m L n two in
      let cell = cut_long in
      let ql : low.place < m.copies * (m.code.k - unsent m.code.k n j + m.code.p) = omega (arith, low.there) in
      let x = s * start m n j + low.place in
      let xl : x < s * t = omega (arith, fits) in
      let b = back_undoes s t p k in
      let bl : back s t x < s * t = b.below x xl in
      let re : back s t x / w ≡ r = sym (symbol_at low.place ql) ∙ low.is in
      let cw = count_width m L n in
      let bit : bit_at m n (back s t x) ≡ x / s = ap (λ y. y / s) (b.undone x xl) in
      let hi : x < start m n (j + 1) * s = omega (arith, ap (λ y. s * y) next_start) in
      record {
        below = omega (arith, div_below (back s t x) w (count m n) (wide m L) (omega (arith, cw)), re);
        has = record {
          copy = back s t x;
          there = bl;
          index = ap (λ y. at + 1 + y) (sym re);
          low = omega (arith, bit, le-div (start m n j) x s p (omega arith));
          high = omega (arith, bit, div_below x s (start m n (j + 1)) p hi);
        };
        least = λ i l h. omega (arith, none_below r low i h, h.index);
      }

module _ (m : Mode) (L : Lawful m) (list : List ℕ) (at n : ℕ) (t : There m list at n) (bs : List ℕ) (r : Read m.map list at (count m n) bs) where
  pub read_size : length bs ≡ m.copies * total m n
  read_size = r.bits.size ∙ count_width m L n

  pub heard_is : (hs : List AirBit) (s : ℕ) → s ≡ m.copies → hs ≡ deinterleaved s (length bs / s) (labelled m.map.w 0 bs) → hs ≡ deinterleaved m.copies (total m n) (labelled m.map.w 0 bs)
  heard_is hs s e f =
      let k : length bs / m.copies ≡ total m n = ap (λ x. x / m.copies) read_size ∙ mul-div_cancel_left (total m n) (several m L) in
      f ∙ ap (λ x. deinterleaved x (length bs / x) (labelled m.map.w 0 bs)) e ∙ ap (λ x. deinterleaved m.copies x (labelled m.map.w 0 bs)) k

  -- what hearing the words says
  module _ (hs : List AirBit) (e : hs ≡ deinterleaved m.copies (total m n) (labelled m.map.w 0 bs)) where
    heard_as : bits_of hs ≡ copies_of m n bs
    heard_as = ap bits_of e ∙ bits_deinterleaved m.copies (total m n) m.map.w bs

    pub heard_long : length hs ≡ m.copies * total m n
    heard_long = ap length e ∙ length-deinterleaved m.copies (total m n) (labelled m.map.w 0 bs) ∙ length-labelled m.map.w 0 bs ∙ read_size

    pub heard_bits : AllByRecursion Bit (bits_of hs)
    heard_bits = rw heard_as (copies_bits m L n bs t.carried.low (bits_at _ _ bs (count_width m L n) r.bits)).bits

    pub heard_room : m.copies * sized m.code (unsents m.code.k n) ≤ length hs
    heard_room = omega (arith, heard_long, copies_there m L n)

    heard_reach : (after : List ℕ) (c : ℕ) → HearsWords m.code m.copies hs n after (Ok c) → Reach m list at n after c
    heard_reach after c h = record {
      there = t;
      valid = h.0;
      bits = bs;
      read = r;
      within = rw heard_as at h.1;
      counts = rw heard_as at h.2;
    }

    heard_lost : (after : List ℕ) (w : LostWord) → HearsWords m.code m.copies hs n after (Err w) → Faulty m list at n (Word (at + 1 + w.symbol))
    heard_lost after w h =
        let f : First (Lost m.code m.copies (unsents m.code.k n) (copies_of m n bs)) (words m.code.k n) h.0 = rw heard_as at h.1 in
        (bs, r, (h.0, f, lowest_holds m L at n h.0 t.carried.low h.1.below bs read_size w.symbol (rw e at h.2)))

    -- either, where the fault stands in the place of the lost word
    pub heard_part : (after : List ℕ) (r : Result ℕ LostWord) (q : Result ℕ PartFault) → HearsWords m.code m.copies hs n after r
        → ((c : ℕ) → r ≡ Ok c → q ≡ Ok c) → ((w : LostWord) → r ≡ Err w → q ≡ Err (Word (at + 1 + w.symbol))) → HearsPart m list at n after q
    heard_part after (Ok c) q h f g = rw (f c refl) (heard_reach after c h)
    heard_part after (Err w) q h f g = rw (g w refl) (heard_lost after w h)

-- the places that a part takes
pub part_width : (m : Mode) → Lawful m → (n c w : ℕ) → c ≡ count m n → w ≡ m.map.w → c * w ≡ m.copies * total m n
part_width m L n c w e f = ap (λ x. x * w) e ∙ ap (λ x. count m n * x) f ∙ count_width m L n

pub length_front : {A : Type 0} (xs : List A) (n k : ℕ) → length xs ≡ k → n ≤ k → length (take (n - 0) xs) ≡ n
length_front xs n k e l = rw sub-zero (length-take-le n xs (omega arith))

-- what the copies of a part ask for
pub record Heardable (s : ℕ) (hs : List AirBit) (n : ℕ) : Type 0 where
  pub copied : Copied s (length hs)
  pub few : length hs ≤ 33272
  pub room : length hs ≡ n

pub heardable : (m : Mode) → Lawful m → (n s k : ℕ) (hs : List AirBit) → Carried n → s ≡ m.copies → k ≡ m.copies * total m n → length hs ≡ k → Heardable s hs k
heardable m L n s k hs o e f g = record {
  copied = rw (e, g ∙ f) (copied_at m.copies (total m n) (several m L) (total_enough m L n o.low));
  few = omega (arith, air_few m L n o.high);
  room = g;
}
