-- Stepping and reading are functions, for every lawful mapping.
use Rattle.std.proofs.Common.{◌≡◌, ℕ, zero, suc, ◌<◌, ◌⊎◌, List, [], ◌∷◌, length, Ok, Err, sym, refl, ◌∙◌, inl, inr, arith, rules}
use Rattle.std.proofs.lemmas.Bool.{cases_lt, cases_eq}
use Rattle.bits.specs.Strings.{Bits}
use Rattle.mapping.specs.declared.fault.ReadFault.TheVariants.{Call, NoSuchStep}
use Rattle.mapping.specs.Maps.{Map, Lawful}
use Rattle.mapping.specs.Answers.{Readable}
use Rattle.mapping.specs.Laws.{AlwaysSteps, StepsOnce, AlwaysReads, ReadsOnce, ReadsSteps, LawfulIsDefined}

-- one bit more in front, and one less
longer : (n b : ℕ) (bs : List ℕ) → b < 2 → Bits n bs → Bits (suc n) (b ∷ bs)
longer n b bs h k = search rules

shorter : (n b : ℕ) (bs : List ℕ) → Bits (suc n) (b ∷ bs) → Bits n bs
shorter n b bs k = search rules

-- a call is a good one or not
cases_bits : (n : ℕ) (xs : List ℕ) → Bits n xs ⊎ (Bits n xs → ⊥)
cases_bits zero [] = inl (search rules)
cases_bits zero (x ∷ xs) = inr (λ b. omega (arith, b.size))
cases_bits (suc n) [] = inr (λ b. omega (arith, b.size))
cases_bits (suc n) (x ∷ xs) =
    elim (cases_lt x 2) [
      | inr h ↦ inr (λ b. omega (arith, b.bits.0))
      | inl h ↦
          elim (cases_bits n xs)
          [ inl b ↦ inl (longer n x xs h b) | inr no' ↦ inr (λ b. no' (shorter n x xs b)) ]
    ]

cases_readable : (m : Map) (prior next : ℕ) (places : List ℕ) → Readable m prior next places ⊎ (Readable m prior next places → ⊥)
cases_readable m prior next places =
    elim (cases_lt prior m.q) [
      | inr h ↦ inr (λ r. omega (arith, r.from))
      | inl h ↦
          elim (cases_lt next m.q) [
            | inr k ↦ inr (λ r. omega (arith, r.to))
            | inl k ↦
                elim (cases_eq (length places) m.w)
                [ inl e ↦ inl (record { from = h; to = k; size = e }) | inr no' ↦ inr (λ r. no' r.size) ]
          ]
    ]

-- no n bits lead to the symbol
None : ℕ → ℕ → (List ℕ → ℕ) → Type 0
None n next f = (bs : List ℕ) → Bits n bs → f bs ≡ next → ⊥

none_empty : (next : ℕ) (f : List ℕ → ℕ) → (f [] ≡ next → ⊥) → None 0 next f
unfolding None
none_empty next f h [] b e = h e
none_empty next f h (x ∷ xs) b e = omega (arith, b.size)

none_longer : (n next : ℕ) (f : List ℕ → ℕ) → None n next (λ bs. f (0 ∷ bs)) → None n next (λ bs. f (1 ∷ bs)) → None (suc n) next f
unfolding None
none_longer n next f h k [] b e = omega (arith, b.size)
none_longer n next f h k (zero ∷ bs) b e = h bs (shorter n 0 bs b) e
none_longer n next f h k (suc zero ∷ bs) b e = k bs (shorter n 1 bs b) e
none_longer n next f h k (suc (suc x) ∷ bs) b e = omega (arith, b.bits.0)

-- some n bits lead to the symbol, or none do
find : (n next : ℕ) (f : List ℕ → ℕ) → ((bs : List ℕ) × Bits n bs × (f bs ≡ next)) ⊎ None n next f
find zero next f =
    elim (cases_eq (f []) next)
    [ inl e ↦ inl ([], record { size = refl; bits = tt }, e) | inr h ↦ inr (none_empty next f h) ]
find (suc n) next f =
    elim (find n next (λ bs. f (0 ∷ bs))) [
      | inl p ↦ inl (0 ∷ p.0, longer n 0 p.0 (omega arith) p.1, p.2)
      | inr h ↦
          elim (find n next (λ bs. f (1 ∷ bs))) [
            | inl p ↦ inl (1 ∷ p.0, longer n 1 p.0 (omega arith) p.1, p.2)
            | inr k ↦ inr (none_longer n next f h k)
          ]
    ]

always_steps : (m : Map) → AlwaysSteps m
always_steps m prior bits =
    elim (cases_lt prior m.q) [
      | inr h ↦ (Err (record {}), λ l b. omega arith)
      | inl h ↦
          elim (cases_bits m.w bits)
          [ inl b ↦ (Ok (m.next prior bits), (h, b, refl)) | inr no' ↦ (Err (record {}), λ l b. no' b) ]
    ]

steps_once : (m : Map) → StepsOnce m
steps_once m prior bits (Ok x) (Ok y) a b = search rules
steps_once m prior bits (Ok x) (Err e) a b = search rules
steps_once m prior bits (Err e) (Ok y) a b = search rules
steps_once m prior bits (Err e) (Err f) a b = refl

always_reads : (m : Map) → AlwaysReads m
unfolding None
always_reads m prior next before =
    elim (cases_readable m prior next before) [
      | inr h ↦ (before, Err (Call (record {})), (h, refl))
      | inl r ↦
          elim (find m.w next (m.next prior))
          [ inl p ↦ (p.0, Ok tt, (r, p.1, p.2)) | inr h ↦ (before, Err NoSuchStep, (r, h, refl)) ]
    ]

reads_once : (m : Map) → Lawful m → ReadsOnce m
reads_once m l prior next before after other (Ok u) (Ok v) a b =
    (refl, l.apart prior after other a.0.from a.1 b.1 (a.2 ∙ sym b.2))
reads_once m l prior next before after other (Ok u) (Err NoSuchStep) a b = absurd (b.1 after a.1 a.2)
reads_once m l prior next before after other (Ok u) (Err (Call e)) a b = absurd (b.0 a.0)
reads_once m l prior next before after other (Err NoSuchStep) (Ok v) a b = absurd (a.1 other b.1 b.2)
reads_once m l prior next before after other (Err NoSuchStep) (Err NoSuchStep) a b = search rules
reads_once m l prior next before after other (Err NoSuchStep) (Err (Call e)) a b = absurd (b.0 a.0)
reads_once m l prior next before after other (Err (Call e)) (Ok v) a b = absurd (a.0 b.0)
reads_once m l prior next before after other (Err (Call e)) (Err NoSuchStep) a b = absurd (a.0 b.0)
reads_once m l prior next before after other (Err (Call e)) (Err (Call f)) a b = search rules

reads_steps : (m : Map) → Lawful m → ReadsSteps m
reads_steps m l prior next bits before after (Ok u) s e r =
    (refl, l.apart prior after bits s.0 r.1 s.1 (r.2 ∙ s.2))
reads_steps m l prior next bits before after (Err NoSuchStep) s e r = absurd (r.1 bits s.1 (sym s.2))
reads_steps m l prior next bits before after (Err (Call b)) s e r =
    let h = l.below prior bits s.0 s.1 in
    absurd (r.0 (record { from = s.0; to = omega (arith, h, s.2); size = e }))

pub defined : LawfulIsDefined
defined m l =
    record {
      always_steps = always_steps m;
      steps_once = steps_once m;
      always_reads = always_reads m;
      reads_once = reads_once m l;
      reads_steps = reads_steps m l;
    }
