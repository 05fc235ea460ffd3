-- A shortened code is lawful, and what the full code corrects with the zeros in front.
use Rattle.std.specs.Prelude.{◌≡◌, ℕ, ◌+◌, ◌-◌, ◌*◌, ◌<◌, ◌≤◌, List, ◌++◌, length, take, drop, replicate, Ok, Err, Result, ◌≢◌, refl}
use Rattle.std.proofs.Common.{ap, ap₂, sym, ◌∙◌, subst, inl, inr, arith, length-append, length-drop, take-append-drop}
use Rattle.std.proofs.ByRecursion.{All-append, All-drop}
use Rattle.std.proofs.lemmas.Bool.{cases_lt}
use Rattle.std.proofs.lemmas.List.{append_assoc, append_cancel_left, take_at, drop_at, take-append-le, drop-append-le, length-take-le, take-replicate, drop-replicate, length-replicate}
use Rattle.bits.specs.declared.bad_call.BadCall.{BadCall}
use Rattle.bits.specs.Strings.{Bit, Bits}
use Rattle.block_code.specs.declared.fault.CorrectFault.{CorrectFault}
use Rattle.block_code.specs.declared.fault.CorrectFault.TheVariants.{Call, NoWordNear}
use Rattle.block_code.specs.Codes.{Code, word, distance, Lawful, shortened}
use Rattle.block_code.specs.Answers.{Encodes, Corrected, Far, Corrects}
use Rattle.block_code.specs.Distances.{distance-front}
use Rattle.block_code.specs.Zeros.{bits_zeros}
use Rattle.block_code.specs.Near.{one_near, length-word}

module _ (c : Code) (s : ℕ) where
  -- the word in the full code is the short word with the zeros in front
  pub word_full : (m : List ℕ) → word c (replicate s 0 ++ m) ≡ replicate s 0 ++ word (shortened c s) m
  word_full m = append_assoc (replicate s 0) m (c.parity (replicate s 0 ++ m))

  pub distance_full : (m ys : List ℕ) → distance (word c (replicate s 0 ++ m)) (replicate s 0 ++ ys) ≡ distance (word (shortened c s) m) ys
  distance_full m ys =
      ap (λ w. distance w (replicate s 0 ++ ys)) (word_full m) ∙ distance-front (replicate s 0) (word (shortened c s) m) ys

pub bits_full : (s n k : ℕ) (m : List ℕ) → n ≡ k - s → s ≤ k → Bits n m → Bits k (replicate s 0 ++ m)
bits_full s n k m e l M =
    record {
      size = omega (arith, length-append (replicate s 0) m, length-replicate {A = ℕ} s 0, M.size);
      bits = All-append Bit (replicate s 0) m (bits_zeros s) M.bits;
    }

module _ (c : Code) (L : Lawful c) (s : ℕ) (lt : s < c.k) where
  message : (m : List ℕ) → Bits (c.k - s) m → Bits c.k (replicate s 0 ++ m)
  message m M = bits_full s (c.k - s) c.k m refl (omega arith) M

  pub shortened_lawful : Lawful (shortened c s)
  shortened_lawful =
      record {
        some = omega arith;
        few = L.few;
        short = omega (arith, L.short);
        checks = λ m M. L.checks (replicate s 0 ++ m) (message m M);
        apart = λ m n M N ne.
            subst (λ d. 2 * c.t + 1 ≤ d)
            (ap (distance (word c (replicate s 0 ++ m))) (word_full c s n) ∙ distance_full c s m (word (shortened c s) n))
            (L.apart (replicate s 0 ++ m) (replicate s 0 ++ n) (message m M) (message n N)
            (λ e. ne (append_cancel_left (replicate s 0) m n e)));
      }

  -- no word of the full code is near, so none of the shortened
  pub far_full : (ys : List ℕ) → Far c (replicate s 0 ++ ys) → Far (shortened c s) ys
  far_full ys F m M = subst (λ d. c.t < d) (distance_full c s m ys) (F (replicate s 0 ++ m) (message m M))

  module _ (ys after : List ℕ) (n : ℕ) (size : length ys ≡ c.k + c.p - s) (K : Corrected c (replicate s 0 ++ ys) after n) where
    full_size : length (replicate s 0 ++ ys) ≡ c.k + c.p
    full_size = omega (arith, length-append (replicate s 0) ys, length-replicate {A = ℕ} s 0, L.short)

    -- the word has a one among the unsent bits, so no word of the shortened code is near
    pub far_ones : (take s after ≢ replicate s 0) → Far (shortened c s) ys
    far_ones ones m M =
        elim (cases_lt c.t (distance (word (shortened c s) m) ys)) [
          | inl h ↦ h
          | inr h ↦
              let e : K.message ≡ replicate s 0 ++ m =
              one_near c L (replicate s 0 ++ ys) full_size K.message (replicate s 0 ++ m) K.valid (message m M)
              (omega (arith, K.count, K.within)) (omega (arith, distance_full c s m ys)) in
              absurd (ones (ap (take s) (K.is ∙ ap (word c) e ∙ word_full c s m)
              ∙ take_at (replicate s 0) (word (shortened c s) m) s (length-replicate s 0)))
        ]

    -- the unsent bits are zeros, so the rest is a word of the shortened code
    pub corrected_full : take s after ≡ replicate s 0 → Corrected (shortened c s) ys (drop s after) n
    corrected_full zeros =
        record {
          message = m;
          valid = record { size = omega (arith, length-drop s K.message, K.valid.size); bits = All-drop Bit s K.message K.valid.bits };
          is = ap (drop s) (K.is ∙ ap (word c) whole ∙ word_full c s m) ∙ drop_at (replicate s 0) (word (shortened c s) m) s (length-replicate s 0);
          count = sym (distance_full c s m ys) ∙ ap (λ x. distance (word c x) (replicate s 0 ++ ys)) (sym whole) ∙ K.count;
          within = K.within;
        }
      where
        m : List ℕ
        m = drop s K.message

        front : take s K.message ≡ replicate s 0
        front =
            sym (take-append-le s K.message (c.parity K.message) (omega (arith, K.valid.size))) ∙ ap (take s) (sym K.is) ∙ zeros

        whole : K.message ≡ replicate s 0 ++ m
        whole = sym (take-append-drop s K.message) ∙ ap (λ x. x ++ drop s K.message) front

  -- the full code's parity of the message with the zeros in front is the shortened code's
  pub encodes_full : (m before after : List ℕ) (r : Result (Unit {0}) BadCall) → Bits (c.k - s) m → Encodes c (replicate s 0 ++ m) before after r
      → Encodes (shortened c s) m before after r
  encodes_full m before after (Ok u) M e = (M, e.1, e.2)
  encodes_full m before after (Err f) M e = (λ _ size. e.0 (message m M) size, e.1)

  -- where the full code finds no word, the shortened has none
  pub refused_full : (ys after : List ℕ) (f : CorrectFault) → Bits (c.k - s + c.p) ys → Corrects c (replicate s 0 ++ ys) after (Err f)
      → Corrects (shortened c s) ys ys (Err f)
  refused_full ys after NoWordNear Y e = (Y, far_full ys e.1, refl)
  refused_full ys after (Call b) Y e =
      absurd (e.0 (bits_full s (c.k - s + c.p) (c.k + c.p) ys (omega arith) (omega arith) Y))

-- ---- the 63 places in which it works

pub padded : (z n : ℕ) (ys : List ℕ) → z + length ys ≤ 63 → n ≡ length ys
    → take z (replicate 63 0) ++ (ys ++ drop n (drop z (replicate 63 0))) ≡ (replicate z 0 ++ ys) ++ replicate (63 - (z + length ys)) 0
padded z n ys h e =
    let a : take z (replicate 63 0) ≡ replicate {A = ℕ} z 0 = take-replicate z 63 0 (omega arith) in
    let b : drop n (drop z (replicate 63 0)) ≡ replicate {A = ℕ} (63 - (z + length ys)) 0 =
    ap (drop n) (drop-replicate z 63 0) ∙ drop-replicate n (63 - z) 0 ∙ ap (λ k. replicate k 0) (omega arith) in
    ap₂ (λ p q. p ++ (ys ++ q)) a b ∙ sym (append_assoc (replicate z 0) ys (replicate (63 - (z + length ys)) 0))

-- what the code holds: how many bits are unsent, the numbers of the full code, the heard bits and the places
module _ {c : Code} {s k p : ℕ} {ys F : List ℕ} (L : Lawful c) (lt : s < c.k) (ek : k ≡ c.k) (ep : p ≡ c.p)
    (Y : Bits (k + p - s) ys) (eF : F ≡ (replicate s 0 ++ ys) ++ replicate (63 - (s + length ys)) 0) where
  heard : Bits (c.k - s + c.p) ys
  heard = record { size = omega (arith, Y.size); bits = Y.bits }

  given_is : take (k + p - 0) F ≡ replicate s 0 ++ ys
  given_is =
      ap (take (k + p - 0)) eF
      ∙ take_at (replicate s 0 ++ ys) (replicate (63 - (s + length ys)) 0) (k + p - 0)
      (omega (arith, length-append (replicate s 0) ys, length-replicate {A = ℕ} s 0, Y.size))

  pub refusing : (after : List ℕ) (f : CorrectFault) → Corrects c (take (k + p - 0) F) after (Err f) → Corrects (shortened c s) ys ys (Err f)
  refusing after f e = refused_full c L s lt ys after f heard (subst (λ xs. Corrects c xs after (Err f)) given_is e)

  module _ (after : List ℕ) (n : ℕ) (e : Corrects c (take (k + p - 0) F) after (Ok n)) where
    K : Corrected c (replicate s 0 ++ ys) after n
    K = subst (λ xs. Corrected c xs after n) given_is e.1

    size : length after ≡ c.k + c.p
    size = ap length K.is ∙ length-word c L K.message K.valid

    -- the unsent places, and the others
    front : take (s - 0) (after ++ drop (k + p - 0) F) ≡ take s after
    front = ap (λ x. take x (after ++ drop (k + p - 0) F)) (omega arith) ∙ take-append-le s after (drop (k + p - 0) F) (omega (arith, size))

    back : take (k + p - s) (drop s (after ++ drop (k + p - 0) F)) ≡ drop s after
    back =
        ap (take (k + p - s)) (drop-append-le s after (drop (k + p - 0) F) (omega (arith, size)))
        ∙ take_at (drop s after) (drop (k + p - 0) F) (k + p - s) (omega (arith, length-drop s after, size))

    long : length (take (s - 0) (after ++ drop (k + p - 0) F)) ≡ s
    long = ap length front ∙ length-take-le s after (omega (arith, size))

    pub striking : (take (s - 0) (after ++ drop (k + p - 0) F) ≢ replicate (length (take (s - 0) (after ++ drop (k + p - 0) F))) 0)
        → Corrects (shortened c s) ys ys (Err NoWordNear)
    striking ones =
        (heard, far_ones c L s lt ys after n (omega (arith, heard.size)) K (λ zeros. ones (front ∙ zeros ∙ ap (λ x. replicate x 0) (sym long))), refl)

    pub correcting : take (s - 0) (after ++ drop (k + p - 0) F) ≡ replicate (length (take (s - 0) (after ++ drop (k + p - 0) F))) 0
        → (zs : List ℕ) → zs ≡ take (k + p - s) (drop s (after ++ drop (k + p - 0) F)) → Corrects (shortened c s) ys zs (Ok n)
    correcting zeros zs ez = (
      heard,
      subst (λ xs. Corrected (shortened c s) ys xs n) (sym (ez ∙ back))
          (corrected_full c L s lt ys after n (omega (arith, heard.size)) K (sym front ∙ zeros ∙ ap (λ x. replicate x 0) long)),
    )

module _ {c : Code} {s k : ℕ} {m F : List ℕ} (L : Lawful c) (lt : s < c.k) (ek : k ≡ c.k)
    (M : Bits (k - s) m) (eF : F ≡ (replicate s 0 ++ m) ++ replicate (63 - (s + length m)) 0) where
  pub encoding : (before after : List ℕ) (r : Result (Unit {0}) BadCall) → Encodes c (take (k - 0) F) before after r
      → Encodes (shortened c s) m before after r
  encoding before after r e =
      encodes_full c L s lt m before after r (record { size = omega (arith, M.size); bits = M.bits })
      (subst (λ xs. Encodes c xs before after r)
      (ap (take (k - 0)) eF
      ∙ take_at (replicate s 0 ++ m) (replicate (63 - (s + length m)) 0) (k - 0)
      (omega (arith, length-append (replicate s 0) m, length-replicate {A = ℕ} s 0, M.size))) e)
