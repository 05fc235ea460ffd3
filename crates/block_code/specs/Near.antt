-- At most one word is near, in any lawful code, so that a correction has one answer.
use Rattle.std.specs.Prelude.{◌≡◌, ℕ, zero, suc, ◌+◌, ◌*◌, ◌≤◌, ◌⊎◌, List, [], ◌∷◌, length, Ok, Err, Result, refl}
use Rattle.std.proofs.Common.{ap, sym, ◌∙◌, inl, inr, arith, length-append}
use Rattle.std.specs.List.{AllByRecursion}
use Rattle.std.proofs.lemmas.Bool.{cases_eq, cases_lt}
use Rattle.bits.specs.Strings.{Bit, Bits}
use Rattle.block_code.specs.declared.fault.CorrectFault.{CorrectFault}
use Rattle.block_code.specs.declared.fault.CorrectFault.TheVariants.{Call, NoWordNear}
use Rattle.block_code.specs.Codes.{Code, word, distance, Lawful}
use Rattle.block_code.specs.Answers.{Corrects}
use Rattle.block_code.specs.Laws.{Near, OneCorrection, SomeCorrection}
use Rattle.block_code.specs.Distances.{distance_self, distance_via, distance_comm, same_from_distance}

-- ---- what can be decided

decide_le : (a b : ℕ) → (a ≤ b) ⊎ (a ≤ b → ⊥)
decide_le a b = elim (cases_lt b a) [ inl h ↦ inr (λ k. omega arith) | inr h ↦ inl h ]

decide_all : (xs : List ℕ) → AllByRecursion Bit xs ⊎ (AllByRecursion Bit xs → ⊥)
decide_all [] = inl tt
decide_all (x ∷ xs) =
    elim (cases_lt x 2) [
      | inl h ↦ elim (decide_all xs) [ inl a ↦ inl (h, a) | inr n ↦ inr (λ a. n a.1) ]
      | inr h ↦ inr (λ a. omega (arith, a.0))
    ]

decide_bits : (n : ℕ) (xs : List ℕ) → Bits n xs ⊎ (Bits n xs → ⊥)
decide_bits n xs =
    elim (cases_eq (length xs) n) [
      | inl e ↦ elim (decide_all xs) [ inl a ↦ inl (record { size = e; bits = a }) | inr not ↦ inr (λ b. not b.bits) ]
      | inr ne ↦ inr (λ b. ne b.size)
    ]

-- a string of n bits that has P is found, or there is none
pub searched : (n : ℕ) (P : List ℕ → Type 0) → ((m : List ℕ) → P m ⊎ (P m → ⊥))
    → ((m : List ℕ) × Bits n m × P m) ⊎ ((m : List ℕ) → Bits n m → P m → ⊥)
searched zero P d =
    elim (d []) [ inl p ↦ inl ([], record { size = refl; bits = tt }, p) | inr n ↦ inr (none n) ]
  where
    none : (P [] → ⊥) → (m : List ℕ) → Bits 0 m → P m → ⊥
    none n [] M p = n p
    none n (b ∷ m) M p = omega (arith, M.size)
searched (suc n) P d =
    elim (searched n (λ m. P (0 ∷ m)) (λ m. d (0 ∷ m))) [
      | inl f ↦ inl (0 ∷ f.0, record { size = ap suc f.1.size; bits = (omega arith, f.1.bits) }, f.2)
      | inr zeros ↦ elim (searched n (λ m. P (1 ∷ m)) (λ m. d (1 ∷ m))) [
        | inl f ↦ inl (1 ∷ f.0, record { size = ap suc f.1.size; bits = (omega arith, f.1.bits) }, f.2)
        | inr ones ↦ inr (none zeros ones)
      ]
    ]
  where
    none : ((m : List ℕ) → Bits n m → P (0 ∷ m) → ⊥) → ((m : List ℕ) → Bits n m → P (1 ∷ m) → ⊥) → (m : List ℕ) → Bits (suc n) m → P m → ⊥
    none zeros ones [] M p = omega (arith, M.size)
    none zeros ones (zero ∷ m) M p = zeros m (record { size = omega (arith, M.size); bits = M.bits.1 }) p
    none zeros ones (suc zero ∷ m) M p = ones m (record { size = omega (arith, M.size); bits = M.bits.1 }) p
    none zeros ones (suc (suc b) ∷ m) M p = omega (arith, M.bits.0)

module _ (c : Code) (L : Lawful c) where
  pub length-word : (m : List ℕ) → Bits c.k m → length (word c m) ≡ c.k + c.p
  length-word m M = omega (arith, length-append m (c.parity m), (L.checks m M).size, M.size)

  -- two messages whose words are near the same bits are one
  pub one_near : (before : List ℕ) → length before ≡ c.k + c.p → (m n : List ℕ) → Bits c.k m → Bits c.k n
      → distance (word c m) before ≤ c.t → distance (word c n) before ≤ c.t → m ≡ n
  one_near before size m n M N h k =
      elim (cases_eq (distance m n) 0) [
        | inl e ↦ same_from_distance m n (M.size ∙ sym N.size) e
        | inr ne ↦
            let far : 2 * c.t + 1 ≤ distance (word c m) (word c n) =
            L.apart m n M N (λ e. ne (ap (λ x. distance x n) e ∙ distance_self n)) in
            let a : length (word c m) ≡ length before = length-word m M ∙ sym size in
            let b : length (word c n) ≡ length before = length-word n N ∙ sym size in
            absurd (omega (
              arith,
              distance_via (word c m) before (word c n) (sym a) (b ∙ sym a),
              distance_comm before (word c m) (sym a),
              distance_comm before (word c n) (sym b),
            ))
      ]

  pub one_correction : OneCorrection c
  one_correction before after other (Ok n) (Ok k) a b =
      let e : a.1.message ≡ b.1.message =
      one_near before a.0.size a.1.message b.1.message a.1.valid b.1.valid
      (omega (arith, a.1.count, a.1.within)) (omega (arith, b.1.count, b.1.within)) in
      (a.1.is ∙ ap (word c) e ∙ sym b.1.is, ap Ok (sym a.1.count ∙ ap (λ m. distance (word c m) before) e ∙ b.1.count))
  one_correction before after other (Ok n) (Err NoWordNear) a b =
      absurd (omega (arith, b.1 a.1.message a.1.valid, a.1.count, a.1.within))
  one_correction before after other (Ok n) (Err (Call e)) a b = absurd (b.0 a.0)
  one_correction before after other (Err NoWordNear) (Ok n) a b =
      absurd (omega (arith, a.1 b.1.message b.1.valid, b.1.count, b.1.within))
  one_correction before after other (Err NoWordNear) (Err NoWordNear) a b = (a.2 ∙ sym b.2, refl)
  one_correction before after other (Err NoWordNear) (Err (Call e)) a b = absurd (b.0 a.0)
  one_correction before after other (Err (Call e)) (Ok n) a b = absurd (a.0 b.0)
  one_correction before after other (Err (Call e)) (Err NoWordNear) a b = absurd (a.0 b.0)
  one_correction before after other (Err (Call e)) (Err (Call f)) a b = (a.1 ∙ sym b.1, refl)

  -- ---- a correction by looking at every message

  some_correction_of : (before : List ℕ) → Bits (c.k + c.p) before → (after : List ℕ) × (r : Result ℕ CorrectFault) × Corrects c before after r
  some_correction_of before B =
      elim (searched c.k (λ m. distance (word c m) before ≤ c.t) (λ m. decide_le (distance (word c m) before) c.t)) [
        | inl found ↦
            let m = found.0 in
            (word c m, Ok (distance (word c m) before), (B, record { message = m; valid = found.1; is = refl; count = refl; within = found.2 }))
        | inr none ↦ (
          before,
          Err NoWordNear,
          (B, (λ m M. elim (cases_lt c.t (distance (word c m) before)) [ inl h ↦ h | inr h ↦ absurd (none m M h) ]), refl),
        )
      ]

  pub some_correction : SomeCorrection c
  some_correction before =
      elim (decide_bits (c.k + c.p) before) [
        | inl B ↦ some_correction_of before B
        | inr n ↦ (before, Err (Call (record {})), (n, refl))
      ]

  pub near : Near c
  near =
      record {
        near = λ before after r a B m M h.
            one_correction before after (word c m) r (Ok (distance (word c m) before)) a
            (B, record { message = m; valid = M; is = refl; count = refl; within = h });
        far = λ before after r a B F. one_correction before after before r (Err NoWordNear) a (B, F, refl);
      }
