-- The symbols that a mapping steps through tell the bits.
use Rattle.std.proofs.Common.{◌≡◌, ℕ, zero, suc, ◌+◌, ◌*◌, ◌<◌, ◌⊎◌, List, [], ◌∷◌, ◌++◌, length, get_or, take, drop, sym, refl, ap, ◌∙◌, inl, inr, arith}
use Rattle.std.specs.List.{AllByRecursion}
use Rattle.std.proofs.lemmas.List.{take-append-drop, nil_from_length, take_at, drop_at}
use Rattle.std.proofs.lemmas.Bool.{cases_eq}
use Rattle.bits.specs.Strings.{Bits}
use Rattle.mapping.specs.Maps.{Map, Lawful}
use Rattle.mode.specs.Modes.{stepped}
use Rattle.mode.specs.Parts.{Unread}
use Rattle.block_code.specs.Near.{searched}
use Rattle.mode.proofs.Strings.{take_bits, drop_bits, bits_at, append_bits, Either}

-- bits that step through the n symbols ss, from the symbol p on
pub record Leads (f : Map) (n p : ℕ) (ss bs : List ℕ) : Type 0 where
  pub bits : Bits (n * f.w) bs
  pub same : stepped f n p bs ≡ ss

pub length-stepped : (f : Map) (n p : ℕ) (bs : List ℕ) → length (stepped f n p bs) ≡ n
length-stepped f zero p bs = refl
length-stepped f (suc n) p bs = ap suc (length-stepped f n (f.next p (take f.w bs)) (drop f.w bs))

module _ (f : Map) (r : Lawful f) where
  front : (n : ℕ) (bs : List ℕ) → Bits (suc n * f.w) bs → Bits f.w (take f.w bs)
  front n bs b = take_bits f.w (n * f.w) bs (bits_at _ _ bs (omega arith) b)

  rest : (n : ℕ) (bs : List ℕ) → Bits (suc n * f.w) bs → Bits (n * f.w) (drop f.w bs)
  rest n bs b = drop_bits f.w (n * f.w) bs (bits_at _ _ bs (omega arith) b)

  pub stepped_same : (n p : ℕ) (bs cs : List ℕ) → p < f.q → Bits (n * f.w) bs → Bits (n * f.w) cs → stepped f n p bs ≡ stepped f n p cs → bs ≡ cs
  stepped_same zero p bs cs q b c e =
      nil_from_length bs (b.size ∙ omega arith) ∙ sym (nil_from_length cs (c.size ∙ omega arith))
  stepped_same (suc n) p bs cs q b c e =
      let w = f.w in
      let same : f.next p (take w bs) ≡ f.next p (take w cs) = cc in
      let more : stepped f n (f.next p (take w bs)) (drop w bs) ≡ stepped f n (f.next p (take w cs)) (drop w cs) = cc in
      let first : take w bs ≡ take w cs = r.apart p (take w bs) (take w cs) q (front n bs b) (front n cs c) same in
      let last : drop w bs ≡ drop w cs = stepped_same n (f.next p (take w bs)) (drop w bs) (drop w cs) (r.below p (take w bs) q (front n bs b)) (rest n bs b) (rest n cs c) (cc) in
      sym (take-append-drop w bs) ∙ cc (first, last) ∙ take-append-drop w cs

  pub stepped_below : (n p : ℕ) (bs : List ℕ) → p < f.q → Bits (n * f.w) bs → AllByRecursion (λ s. s < f.q) (stepped f n p bs)
  stepped_below zero p bs q b = tt
  stepped_below (suc n) p bs q b =
      let one = r.below p (take f.w bs) q (front n bs b) in
      (one, stepped_below n (f.next p (take f.w bs)) (drop f.w bs) one (rest n bs b))

leads_more : (f : Map) (m p s : ℕ) (ss cs : List ℕ) → Leads f (suc m) p (s ∷ ss) cs → (f.next p (take f.w cs) ≡ s) × Leads f m s ss (drop f.w cs) × Bits f.w (take f.w cs)
leads_more f m p s ss cs h =
    let w = f.w in
    let e = h.same in
    let one : f.next p (take w cs) ≡ s = cc in
    let b = bits_at (suc m * f.w) (f.w + m * f.w) cs (omega arith) h.bits in
    (one, record { bits = drop_bits w (m * w) cs b; same = cc }, take_bits w (m * w) cs b)

-- steps that were read
pub leads_read : (f : Map) (p : ℕ) (ss bs : List ℕ) → Leads f (length ss) p ss bs → (i : ℕ) → i < length ss → Unread f (get_or (p ∷ ss) i 0) (get_or ss i 0) → ⊥
leads_read f p [] bs h i l u = omega arith
leads_read f p (s ∷ ss) bs h zero l u = let x = leads_more f (length ss) p s ss bs h in u (take f.w bs) x.2 x.0
leads_read f p (s ∷ ss) bs h (suc i) l u = leads_read f s ss (drop f.w bs) (leads_more f (length ss) p s ss bs h).1 i (omega arith) u

read_one : (f : Map) (p s : ℕ) → ((bs : List ℕ) × Bits f.w bs × (f.next p bs ≡ s)) ⊎ Unread f p s
read_one f p s = searched f.w (λ bs. f.next p bs ≡ s) (λ bs. cases_eq (f.next p bs) s)

pub decide_unread : (f : Map) (p s : ℕ) → Either (Unread f p s)
decide_unread f p s = elim (read_one f p s) [ inl h ↦ inr (λ u. u h.0 h.1 h.2) | inr u ↦ inl u ]

-- and steps that can be
pub read_leads : (f : Map) (p : ℕ) (ss : List ℕ) → ((i : ℕ) → i < length ss → Unread f (get_or (p ∷ ss) i 0) (get_or ss i 0) → ⊥) → (bs : List ℕ) × Leads f (length ss) p ss bs
read_leads f p [] h = ([], record { bits = record { size = omega arith; bits = tt }; same = refl })
read_leads f p (s ∷ ss) h = go (read_one f p s) (read_leads f s ss (λ i l. h (suc i) (omega arith)))
  where
    go : ((bs : List ℕ) × Bits f.w bs × (f.next p bs ≡ s)) ⊎ Unread f p s → (bs : List ℕ) × Leads f (length ss) s ss bs → (bs : List ℕ) × Leads f (suc (length ss)) p (s ∷ ss) bs
    go (inl a) r =
        let x : take f.w (a.0 ++ r.0) ≡ a.0 = take_at a.0 r.0 f.w a.1.size in
        let y : drop f.w (a.0 ++ r.0) ≡ r.0 = drop_at a.0 r.0 f.w a.1.size in
        let z = a.2 in
        let e = r.1.same in (
          a.0 ++ r.0,
          record {
            bits = bits_at _ _ (a.0 ++ r.0) (omega arith) (append_bits f.w (length ss * f.w) a.0 r.0 a.1 r.1.bits);
            same = rw (x, y, z) (ap (λ us. s ∷ us) e);
          },
        )
    go (inr u) r = absurd (h 0 (omega arith) u)
