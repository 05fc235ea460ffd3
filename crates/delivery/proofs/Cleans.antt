-- What is sent, from the last preamble symbol on, is within reach of its frame, and no bit is spoilt.
use Rattle.std.proofs.Common.{◌≡◌, ℕ, zero, suc, ◌+◌, ◌*◌, ◌%◌, ◌<◌, ◌≤◌, true, false, cond, eqb, List, [], ◌∷◌, ◌++◌, length, get_or, take, drop, sym, refl, ap, ◌∙◌, subst, ap₂, arith, length-append}
use Rattle.std.specs.List.{AllByRecursion}
use Rattle.std.proofs.lemmas.List.{take_at, take_all, drop_at, drop-append-le}
use Rattle.bits.specs.Strings.{Bits}
use Rattle.frame.specs.Headers as forms
use Rattle.frame.specs.Scrambler.{scrambled}
use Rattle.frame.proofs.Scrambling.{scrambled_bits}
use Rattle.mode.specs.Modes.{Mode, Carried, stepped, sent, air, total, count}
use Rattle.mode.specs.Modes as modes
use Rattle.mode.specs.Parts as parts
use Rattle.mode.proofs.Stepping.{length-stepped, stepped_below}
use Rattle.mode.proofs.Whole.{air_bits, count_width}
use Rattle.mode.proofs.Hearings.{sent_reaches}
use Rattle.delivery.specs.Plans.{Plan, Lawful}
use Rattle.delivery.specs.Frames.{Frame, fields, Legal, Reach, last_of, header_count, preamble, header_sent, payload_by, payload_sent, body, symbols, needed}
use Rattle.delivery.specs.Delivery.{SentReaches}

-- ---- the last symbol

pub last_at : (p : ℕ) (ss ts : List ℕ) → get_or (p ∷ (ss ++ ts)) (length ss) 0 ≡ last_of p ss
last_at p [] ts = refl
last_at p (s ∷ ss) ts = last_at s ss ts

pub last_below : (q p : ℕ) (ss : List ℕ) → p < q → AllByRecursion (λ s. s < q) ss → last_of p ss < q
last_below q p [] h a = h
last_below q p (s ∷ ss) h a = last_below q s ss a.0 a.1

drop_last : (n p : ℕ) (ss : List ℕ) → length ss ≡ suc n → drop n ss ≡ last_of p ss ∷ []
drop_last zero p [] e = absurd (omega arith)
drop_last zero p (s ∷ []) e = refl
drop_last zero p (s ∷ t ∷ ss) e = absurd (omega arith)
drop_last (suc n) p [] e = absurd (omega arith)
drop_last (suc n) p (s ∷ ss) e = drop_last n s ss (omega arith)

-- ---- the symbols that a mode sends

module _ (m : Mode) (M : modes.Lawful m) (n p : ℕ) (xs : List ℕ) (b : Bits n xs) where
  pub length_sent : length (sent m p xs) ≡ count m n
  unfolding sent
  length_sent = length-stepped m.map (count m (length xs)) p (air m xs) ∙ ap (count m) b.size

  pub sent_below : 2 ≤ n → p < m.map.q → AllByRecursion (λ s. s < m.map.q) (sent m p xs)
  unfolding sent
  sent_below two h =
      let a = air_bits m M n xs two b in
      stepped_below m.map M.map (count m (length xs)) p (air m xs) h
      (record { size = a.size ∙ sym (ap (λ k. count m k * m.map.w) b.size ∙ count_width m M n); bits = a.bits })

module _ (P : Plan) (L : Lawful P) where
  pub preamble_bits : (c : ℕ) → Bits 90 (cond (eqb (c % 2) 0) P.even P.odd)
  preamble_bits c = elim (eqb (c % 2) 0) as (λ t. Bits 90 (cond t P.even P.odd)) [ true ↦ L.even | false ↦ L.odd ]

  pub length-preamble : (c : ℕ) → length (preamble P c) ≡ 90
  unfolding preamble
  length-preamble c = length-stepped P.header.map 90 P.start (cond (eqb (c % 2) 0) P.even P.odd)

  pub preamble_below : (c : ℕ) → last_of P.start (preamble P c) < P.header.map.q
  unfolding preamble
  preamble_below c =
      let b = preamble_bits c in
      last_below P.header.map.q P.start (preamble P c) L.start
      (stepped_below P.header.map L.header.map 90 P.start (cond (eqb (c % 2) 0) P.even P.odd) L.start
      (record { size = b.size ∙ ap (λ w. 90 * w) (sym L.bit); bits = b.bits }))

  -- ---- a frame's parts after the symbol p

  module _ (f : Frame) (F : Legal P f) (p : ℕ) (h : p < P.header.map.q) where
    bits : Bits (forms.count P.form) (forms.header P.form (fields f))
    bits = L.form.sized (fields f) F.ranges

    M : modes.Lawful F.mode
    M = L.modes f.rate F.mode F.carried

    n : ℕ
    n = 8 * length f.psdu

    carries : Carried (8 * length f.psdu)
    carries = record { low = omega (arith, F.ranges.low); high = omega (arith, F.ranges.high) }

    pub length-header : length (header_sent P p f) ≡ header_count P
    unfolding header_sent header_count
    length-header = length_sent P.header L.header (forms.count P.form) p (forms.header P.form (fields f)) bits

    pub header_last : last_of p (header_sent P p f) < P.header.map.q
    unfolding header_sent
    header_last =
        last_below P.header.map.q p (header_sent P p f) h
        (sent_below P.header L.header (forms.count P.form) p (forms.header P.form (fields f)) bits L.size.low h)

    payload_is : (r : ℕ) → payload_sent P r f ≡ sent F.mode r (scrambled f.seed f.psdu)
    unfolding payload_sent
    payload_is r = ap (λ o. payload_by o r f) F.carried

    pub length_payload : (r : ℕ) → length (payload_sent P r f) ≡ count F.mode (8 * length f.psdu)
    length_payload r =
        ap length (payload_is r)
        ∙ length_sent F.mode M (8 * length f.psdu) r (scrambled f.seed f.psdu) (scrambled_bits f.seed f.psdu)

    pub length-body : length (body P p f) ≡ header_count P + count F.mode (8 * length f.psdu)
    unfolding body
    length-body =
        length-append (header_sent P p f) (payload_sent P (last_of p (header_sent P p f)) f)
        ∙ ap₂ ◌+◌ length-header (length_payload (last_of p (header_sent P p f)))

    pub reaches : Reach P f (p ∷ body P p f) 0
    unfolding body header_sent header_count
    reaches =
        record {
          mode = F.mode;
          carried = F.carried;
          long = long;
          in_header = 0;
          in_payload = 0;
          header = sent_reaches P.header L.header list 0 (forms.count P.form) (forms.header P.form (fields f))
              (record { carried = L.size; long = head_room }) bits h head_part;
          payload = sent_reaches F.mode M list (header_count P) (8 * length f.psdu) (scrambled f.seed f.psdu)
              (record { carried = carries; long = omega (arith, long) }) (scrambled_bits f.seed f.psdu) known tail_part;
          sum = refl;
        }
      where
        hs : List ℕ
        hs = header_sent P p f

        ps : List ℕ
        ps = payload_sent P (last_of p (header_sent P p f)) f

        list : List ℕ
        list = p ∷ (header_sent P p f ++ payload_sent P (last_of p (header_sent P p f)) f)

        long : length list ≡ needed P F.mode (length f.psdu)
        long = omega (arith, length-body)

        head_room : 0 + 1 + count P.header (forms.count P.form) ≤ length list
        head_room = omega (arith, long)

        head_part : parts.part P.header list 0 (forms.count P.form) ≡ sent P.header p (forms.header P.form (fields f))
        head_part = take_at (header_sent P p f) (payload_sent P (last_of p (header_sent P p f)) f) (header_count P) length-header

        symbol : get_or list (header_count P) 0 ≡ last_of p (header_sent P p f)
        symbol = ap (λ k. get_or list k 0) (sym length-header) ∙ last_at p (header_sent P p f) (payload_sent P (last_of p (header_sent P p f)) f)

        known : get_or list (header_count P) 0 < F.mode.map.q
        known = subst (λ z. z < F.mode.map.q) (sym symbol) (subst (λ q. last_of p (header_sent P p f) < q) (sym (L.shared f.rate F.mode F.carried)) header_last)

        rest : drop (header_count P + 1) list ≡ payload_sent P (last_of p (header_sent P p f)) f
        rest =
            (let e : header_count P + 1 ≡ suc (header_count P) = omega arith in ap (λ k. drop k list) e)
            ∙ drop_at (header_sent P p f) (payload_sent P (last_of p (header_sent P p f)) f) (header_count P) length-header

        tail_part : parts.part F.mode list (header_count P) (8 * length f.psdu) ≡ sent F.mode (get_or list (header_count P) 0) (scrambled f.seed f.psdu)
        tail_part =
            ap (take (count F.mode (8 * length f.psdu))) rest
            ∙ take_all (count F.mode (8 * length f.psdu)) (payload_sent P (last_of p (header_sent P p f)) f) (omega (arith, length_payload (last_of p (header_sent P p f))))
            ∙ payload_is (last_of p (header_sent P p f))
            ∙ ap (λ r. sent F.mode r (scrambled f.seed f.psdu)) (sym symbol)

  -- how many symbols a frame takes
  pub length_symbols : (c : ℕ) (f : Frame) (F : Legal P f) → length (symbols P c f) ≡ 90 + header_count P + count F.mode (8 * length f.psdu)
  unfolding symbols
  length_symbols c f F =
      length-append (preamble P c) (body P (last_of P.start (preamble P c)) f)
      ∙ omega (arith, length-preamble c, length-body f F (last_of P.start (preamble P c)) (preamble_below c))

  pub clean : SentReaches P
  unfolding symbols
  clean c f F =
      subst (λ list. Reach P f list 0)
      (sym (drop-append-le 89 (preamble P c) (body P (last_of P.start (preamble P c)) f) (omega (arith, length-preamble c))
      ∙ ap (λ ss. ss ++ body P (last_of P.start (preamble P c)) f) (drop_last 89 P.start (preamble P c) (length-preamble c))))
      (reaches f F (last_of P.start (preamble P c)) (preamble_below c))
