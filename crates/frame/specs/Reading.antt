-- The bits of a header are read as one thing, in any form.
use Rattle.std.specs.Prelude.{◌≡◌, ℕ, zero, suc, ◌<◌, ◌≤◌, Bool, true, false, ◌⊎◌, List, [], ◌∷◌, get_or, take, drop, Ok, Err, Result, slice_index, slice_index_or, refl}
use Rattle.std.proofs.Common.{sym, ap, ◌∙◌, inl, inr, arith}
use Rattle.std.specs.List.{ContainsAt as Has, AllByRecursion}
use Rattle.std.proofs.lemmas.Bool.{cases_eq, cases_lt, cases_Bool, false≢true}
use Rattle.std.proofs.ByRecursion.{all-has, All-weaker}
use Rattle.bits.specs.Strings.{Bit}
use Rattle.frame.specs.declared.fault.FormFault.{FormFault}
use Rattle.frame.specs.declared.fault.FormFault.TheVariants.{Check, Reserved, Rate}
use Rattle.frame.specs.Headers.{Fields, Form, header, Checked, Clear, LowestSet, Carried, Read, Lawful}
use Rattle.frame.specs.Laws.{ReadingIsSingle, HeadersAreApart}

abbrev pub Either : Type 0 → Type 0
Either A = A ⊎ (A → ⊥)

pub decide_same : (xs ys : List ℕ) → Either (xs ≡ ys)
decide_same [] [] = inl refl
decide_same [] (y ∷ ys) = inr (λ e. let z : ◌≡◌ {A = ℕ} 0 1 = cc in omega arith)
decide_same (x ∷ xs) [] = inr (λ e. let z : ◌≡◌ {A = ℕ} 0 1 = cc in omega arith)
decide_same (x ∷ xs) (y ∷ ys) = go (cases_eq x y) (decide_same xs ys)
  where
    go : Either (x ≡ y) → Either (xs ≡ ys) → Either (x ∷ xs ≡ y ∷ ys)
    go (inl e) (inl f) = inl (cc)
    go (inl e) (inr f) = inr (λ h. f (cc))
    go (inr e) f = inr (λ h. e (cc))

pub decide_carried : (legal : List Bool) (r : ℕ) → Either (Carried legal r)
decide_carried legal r = go (cases_lt 3 r) (cases_Bool (slice_index_or legal r false))
  where
    go : (3 < r) ⊎ (r ≤ 3) → (slice_index_or legal r false ≡ true) ⊎ (slice_index_or legal r false ≡ false) → Either (Carried legal r)
    go (inl l) b = inr (λ h. omega (arith, h.0))
    go (inr l) (inl e) = inl (l, e)
    go (inr l) (inr e) = inr (λ h. false≢true (sym e ∙ h.1))

pub bit_at : (bits : List ℕ) (p : ℕ) → AllByRecursion Bit bits → slice_index bits p < 2
bit_at [] p h = omega arith
bit_at (b ∷ bits) zero h = h.0
bit_at (b ∷ bits) (suc p) h = bit_at bits p h.1

-- some place holds a one, and the lowest such is known; or none does
module _ (bits : List ℕ) (valid : AllByRecursion Bit bits) where
  abbrev Clean : List ℕ → Type 0
  Clean places = AllByRecursion (λ p. slice_index bits p ≡ 0) places

  abbrev Lowest : List ℕ → ℕ → Type 0
  Lowest places p = Has places p × (slice_index bits p ≡ 1) × AllByRecursion (λ q. slice_index bits q ≡ 1 → p ≤ q) places

  here : (p : ℕ) (places : List ℕ) → Has (p ∷ places) p
  here p places = (0, omega arith, λ d. refl)

  there : (p q : ℕ) (places : List ℕ) → Has places p → Has (q ∷ places) p
  there p q places h = (suc h.0, omega (arith, h.1), h.2)

  lowest_set : (places : List ℕ) → Clean places ⊎ ((p : ℕ) × Lowest places p)
  lowest_set [] = inl tt
  lowest_set (x ∷ places) = go (cases_eq (slice_index bits x) 0) (lowest_set places)
    where
      with_one : get_or bits x 0 ≡ 1 → (p : ℕ) → Lowest places p → (x < p) ⊎ (p ≤ x) → (p : ℕ) × Lowest (x ∷ places) p
      with_one e p h (inl l) =
          (x, (here x places, e, (λ f. omega arith, All-weaker (λ q. slice_index bits q ≡ 1 → p ≤ q) (λ q. slice_index bits q ≡ 1 → x ≤ q) (λ q k f. omega (arith, k f)) places h.2)))
      with_one e p h (inr l) = (p, (there p x places h.0, h.1, (λ f. l, h.2)))

      go : Either (slice_index bits x ≡ 0) → Clean places ⊎ ((p : ℕ) × Lowest places p) → Clean (x ∷ places) ⊎ ((p : ℕ) × Lowest (x ∷ places) p)
      go (inl e) (inl h) = inl (e, h)
      go (inl e) (inr (p, h)) = inr (p, (there p x places h.0, h.1, (λ f. absurd (omega arith), h.2)))
      go (inr n) (inl h) =
          let e : get_or bits x 0 ≡ 1 = omega (arith, bit_at bits x valid) in
          inr (x, (here x places, e, (λ f. omega arith, All-weaker (λ q. slice_index bits q ≡ 0) (λ q. slice_index bits q ≡ 1 → x ≤ q) (λ q k f. absurd (omega arith)) places h)))
      go (inr n) (inr (p, h)) =
          let e : get_or bits x 0 ≡ 1 = omega (arith, bit_at bits x valid) in
          inr (with_one e p h (cases_lt x p))

module _ (f : Form) (legal : List Bool) (bits : List ℕ) where
  -- a set place is not clear
  unclear : {p : ℕ} → LowestSet f bits p → Clear f bits → ⊥
  unclear {p} l c = omega (arith, l.set, all-has (λ q. slice_index bits q ≡ 0) f.reserved p c l.reserved)

  one_lowest : {p q : ℕ} → LowestSet f bits p → LowestSet f bits q → p ≡ q
  one_lowest {p} {q} a b =
      let h : p ≤ q = all-has (λ r. slice_index bits r ≡ 1 → p ≤ r) f.reserved q a.lowest b.reserved b.set in
      let k : q ≤ p = all-has (λ r. slice_index bits r ≡ 1 → q ≤ r) f.reserved p b.lowest a.reserved a.set in
      omega arith

  pub read_one : (r s : Result Fields FormFault) → Read f legal bits r → Read f legal bits s → r ≡ s
  read_one (Ok x) (Ok y) a b = ap Ok (a.3 ∙ sym b.3)
  read_one (Ok x) (Err Check) a b = absurd (b a.0)
  read_one (Ok x) (Err (Reserved q)) a b = absurd (unclear b.1 a.1)
  read_one (Ok x) (Err (Rate q)) a b = absurd (b.2 (rw b.3 a.2))
  read_one (Err Check) (Ok y) a b = absurd (a b.0)
  read_one (Err Check) (Err Check) a b = refl
  read_one (Err Check) (Err (Reserved q)) a b = absurd (a b.0)
  read_one (Err Check) (Err (Rate q)) a b = absurd (a b.0)
  read_one (Err (Reserved p)) (Ok y) a b = absurd (unclear a.1 b.1)
  read_one (Err (Reserved p)) (Err Check) a b = absurd (b a.0)
  read_one (Err (Reserved p)) (Err (Reserved q)) a b = ap (λ n. Err (Reserved n)) (one_lowest a.1 b.1)
  read_one (Err (Reserved p)) (Err (Rate q)) a b = absurd (unclear a.1 b.1)
  read_one (Err (Rate p)) (Ok y) a b = absurd (a.2 (rw a.3 b.2))
  read_one (Err (Rate p)) (Err Check) a b = absurd (b a.0)
  read_one (Err (Rate p)) (Err (Reserved q)) a b = absurd (unclear b.1 a.1)
  read_one (Err (Rate p)) (Err (Rate q)) a b = ap (λ n. Err (Rate n)) (a.3 ∙ sym b.3)

  pub read_some : AllByRecursion Bit bits → (r : Result Fields FormFault) × Read f legal bits r
  read_some valid =
      go (decide_same (drop f.body bits) (f.check (take f.body bits))) (lowest_set bits valid f.reserved) (decide_carried legal (f.fields bits).rate)
    where
      go : Either (Checked f bits) → Clear f bits ⊎ ((p : ℕ) × Lowest bits valid f.reserved p) → Either (Carried legal (f.fields bits).rate) → (r : Result Fields FormFault) × Read f legal bits r
      go (inr n) b c = (Err Check, n)
      go (inl a) (inr (p, h)) c = (Err (Reserved p), (a, record { reserved = h.0; set = h.1; lowest = h.2 }))
      go (inl a) (inl b) (inr n) = (Err (Rate (f.fields bits).rate), (a, b, n, refl))
      go (inl a) (inl b) (inl c) = (Ok (f.fields bits), (a, b, c, refl))

pub reading_is_single : (f : Form) → ReadingIsSingle f
reading_is_single f legal bits b =
    let r = read_some f legal bits b.bits in
    record { answer = r.0; read = r.1; only = λ s h. read_one f legal bits s r.0 h r.1 }

-- each of the four rates
all_carried : (r : ℕ) → r ≤ 3 → Carried (true ∷ true ∷ true ∷ true ∷ []) r
all_carried zero l = (l, refl)
all_carried (suc zero) l = (l, refl)
all_carried (suc (suc zero)) l = (l, refl)
all_carried (suc (suc (suc zero))) l = (l, refl)
all_carried (suc (suc (suc (suc r)))) l = absurd (omega arith)

pub headers_are_apart : (f : Form) → Lawful f → HeadersAreApart f
headers_are_apart f L x y a b e =
    let legal = true ∷ true ∷ true ∷ true ∷ [] in
    let h : Read f legal (header f x) (Ok x) = L.read_back legal x a (all_carried x.rate a.rate) in
    let k : Read f legal (header f x) (Ok y) = rw e (L.read_back legal y b (all_carried y.rate b.rate)) in
    let same : ◌≡◌ {A = Result Fields FormFault} (Ok x) (Ok y) = read_one f legal (header f x) (Ok x) (Ok y) h k in
    cc
