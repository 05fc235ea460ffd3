-- What a heard list comes to, over the plan's own parts.
use Rattle.std.proofs.Common.{◌≡◌, ℕ, ◌+◌, ◌-◌, ◌*◌, ◌<◌, ◌≤◌, Bool, true, false, cond, leb, List, [], ◌∷◌, ◌++◌, length, take, drop, replicate, Some, Ok, Err, Result, sym, refl, ap, ◌∙◌, subst, ap₂, arith, length-append}
use Rattle.std.proofs.lemmas.List.{take-append-drop, length-take-le}
use Rattle.frame.specs.declared.header.Header.{Header}
use Rattle.frame.specs.Headers.{Fields, Form, Read, InRange, Carried}
use Rattle.frame.specs.Headers as forms
use Rattle.frame.specs.Answers.{fields_of}
use Rattle.frame.specs.Scrambler.{scrambled}
use Rattle.block_code.specs.Codes.{Code, word, shortened}
use Rattle.mode.specs.Shares.{unsents}
use Rattle.mode.specs.Copying.{spoilt, differing}
use Rattle.mode.specs.Modes.{Mode, coded, padded, pad, total, count}
use Rattle.mode.specs.Modes as modes
use Rattle.mode.specs.Parts.{Reach, There, spoilt_all, copies_of}
use Rattle.mode.specs.Answers.{Faulty}
use Rattle.mode.proofs.Whole.{padded_bits}
use Rattle.mode.proofs.Room.{total_few}
use Rattle.delivery.specs.declared.fault.PayloadFault.{PayloadFault}
use Rattle.delivery.specs.declared.fault.PayloadFault.TheVariants.{Length, Part as PayloadPart}
use Rattle.delivery.specs.Plans.{Plan, Lawful, legal}
use Rattle.delivery.specs.Frames.{fields, header_count, needed}
use Rattle.delivery.specs.Calls.{Said, PayloadFaulty, Delivers}
use Rattle.post.specs.Heard.{HeaderReads, PayloadReads}

-- ---- how many bits can be spoilt

spoilt_few : (s : ℕ) (w es : List ℕ) → spoilt s w es ≤ length w
spoilt_few s [] es = omega arith
spoilt_few s (b ∷ w) es = omega (arith, spoilt_few s w (drop s es), one (leb s (2 * differing b (take s es))))
  where
    one : (t : Bool) → cond t 1 0 ≤ 1
    one true = omega arith
    one false = omega arith

all_few : (c : Code) (s : ℕ) (us xs es : List ℕ) → spoilt_all c s us xs es ≤ length (coded c us xs)
all_few c s [] xs es = omega arith
all_few c s (u ∷ us) xs es =
    let w = word (shortened c u) (take (c.k - u) xs) in
    let ys = drop (c.k - u) xs in
    omega (arith, spoilt_few s w es, all_few c s us ys (drop (s * (c.k - u + c.p)) es), length-append w (coded c us ys))

pub reach_few : (m : Mode) → modes.Lawful m → (list : List ℕ) (at n : ℕ) (xs : List ℕ) (c : ℕ) → Reach m list at n xs c → c ≤ 8318
unfolding padded
reach_few m M list at n xs c R =
    let us = unsents m.code.k n in
    let p = (padded_bits m M n xs R.valid).size in
    let e : unsents m.code.k (length xs) ≡ us = ap (unsents m.code.k) R.valid.size in
    let q : length (coded m.code us xs ++ replicate (pad m (length xs)) 0) ≡ total m n = ap (λ vs. length (coded m.code vs xs ++ replicate (pad m (length xs)) 0)) (sym e) ∙ p in
    omega (arith, R.counts, all_few m.code m.copies us xs (copies_of m n R.bits), length-append (coded m.code us xs) (replicate (pad m (length xs)) 0), total_few m M n R.there.carried.high)

-- ---- after the header

module _ (P : Plan) (L : Lawful P) (list : List ℕ) (hd : Header) (s : ℕ) (G : HeaderReads P list (Ok (hd, s))) where
  pub ranges : InRange P.form (fields_of hd)
  ranges = (L.form.written_back (legal P) G.0 (fields_of hd) G.1.valid G.2).0

  pub seed_bit : hd.seed < 2
  seed_bit = subst (λ q. hd.seed < q) L.seeds ranges.seed

  pub carries : modes.Carried (8 * hd.bytes)
  carries = record { low = omega (arith, ranges.low); high = omega (arith, ranges.high) }

  pub spoilt-header : s ≤ 8318
  spoilt-header = reach_few P.header L.header list 0 (forms.count P.form) G.0 s G.1

  -- the header has the h symbols after the first, and the payload, of the mode n, the p after these
  module _ (h : ℕ) (eh : h ≡ header_count P) (long : 1 + h ≤ length list) (n : Mode) (en : P.rate hd.rate ≡ Some n) (p : ℕ) (ep : p ≡ count n (8 * hd.bytes)) where
    N : modes.Lawful n
    N = L.modes hd.rate n en

    said : Said P list (fields_of hd) n
    said = record { bits = G.0; headed = record { long = subst (λ i. 1 + i ≤ length list) eh long; spoilt = s; reach = G.1 }; read = G.2; carried = en }

    needed_is : 1 + h + p ≡ needed P n hd.bytes
    needed_is = ap₂ (λ i j. 1 + i + j) eh ep

    pub length_faulty : (length list ≡ 1 + h + p → ⊥) → PayloadFaulty P list (Length (1 + h + p))
    length_faulty ne = (fields_of hd, n, said, ne, needed_is)

    module _ (whole : length list ≡ 1 + h + p) (output : List ℕ) (room : 264 ≤ length output) where
      places : length (take hd.bytes output) ≡ hd.bytes
      places = length-take-le hd.bytes output (omega (arith, ranges.high))

      pub payload_there : There n list h (8 * length (take hd.bytes output))
      payload_there = subst (λ i. There n list h (8 * i)) (sym places) (record { carried = carries; long = omega (arith, ep, whole) })

      module _ (after : List ℕ) where
        from_head : (r : Result ℕ PayloadFault) → PayloadReads n hd.seed list h (take hd.bytes output) after r
            → PayloadReads n hd.seed list (header_count P) (take hd.bytes output) after r
        from_head r x = subst (λ i. PayloadReads n hd.seed list i (take hd.bytes output) after r) eh x

        faulty : (e : PayloadFault) → PayloadReads n hd.seed list (header_count P) (take hd.bytes output) after (Err e)
            → PayloadFaulty P list e × (after ++ drop hd.bytes output ≡ output)
        faulty (Length i) x = absurd x
        faulty (PayloadPart e) (x, y) = (
          (fields_of hd, n, said, whole ∙ needed_is, subst (λ i. Faulty n list (header_count P) (8 * i) e) places x),
          ap (λ zs. zs ++ drop hd.bytes output) y ∙ take-append-drop hd.bytes output,
        )

        -- the output after a fault
        pub payload_faulty : (e : PayloadFault) → PayloadReads n hd.seed list h (take hd.bytes output) after (Err e)
            → PayloadFaulty P list e × (after ++ drop hd.bytes output ≡ output)
        payload_faulty e x = faulty e (from_head (Err e) x)

        module _ (q : ℕ) (got : PayloadReads n hd.seed list h (take hd.bytes output) after (Ok q)) where
          x : PayloadReads n hd.seed list (header_count P) (take hd.bytes output) after (Ok q)
          x = from_head (Ok q) got

          size : length after ≡ hd.bytes
          size = x.0 ∙ places

          reach : Reach n list (header_count P) (8 * length after) (scrambled hd.seed after) q
          reach = subst (λ i. Reach n list (header_count P) (8 * i) (scrambled hd.seed after) q) (sym x.0) x.2

          pub spoilt_payload : q ≤ 8318
          spoilt_payload = reach_few n N list (header_count P) (8 * length after) (scrambled hd.seed after) q reach

          same : fields_of hd ≡ fields (record { rate = hd.rate; burst = hd.burst; seed = hd.seed; psdu = after })
          same = ap (λ i. record { rate = hd.rate; bytes = i; burst = hd.burst; seed = hd.seed }) (sym size)

          pub delivered : Delivers P list output (after ++ drop hd.bytes output)
              (record { rate = hd.rate; burst = hd.burst; seed = hd.seed; bytes = hd.bytes; spoilt = s + q })
          delivered =
              record {
                room = room;
                psdu = after;
                bytes = sym size;
                legal_frame = record { mode = n; carried = en; ranges = subst (InRange P.form) same ranges; bytes = x.1 };
                reach = record {
                  mode = n;
                  carried = en;
                  long = whole ∙ needed_is ∙ ap (needed P n) (sym size);
                  in_header = s;
                  in_payload = q;
                  header = subst (λ ys. Reach P.header list 0 (forms.count P.form) ys s)
                      (sym (L.form.written_back (legal P) G.0 (fields_of hd) G.1.valid G.2).1 ∙ ap (forms.header P.form) same) G.1;
                  payload = reach;
                  sum = refl;
                };
                put = ap (λ i. after ++ drop i output) (sym size);
              }
