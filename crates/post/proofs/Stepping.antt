-- Stepping through the bits of a preamble, one for each symbol.
use Rattle.std.proofs.Common.{◌≡◌, ℕ, suc, ◌+◌, ◌-◌, ◌<◌, ◌≤◌, List, [], ◌∷◌, ◌++◌, length, get_or, take, drop, set, sym, ap, ◌∙◌, subst, arith}
use Rattle.std.proofs.Math.Seq.{drop-cons}
use Rattle.std.proofs.lemmas.List.{append-nil, append_assoc, take_all, take_more_set, length-set}
use Rattle.std.proofs.ByRecursion.{All-get_or}
use Rattle.bits.specs.Strings.{Bit, Bits}
use Rattle.mapping.specs.Maps.{Map}
use Rattle.mapping.specs.Maps as maps
use Rattle.mode.specs.Modes.{stepped}

-- where the loop has written i symbols, the last of which is p
pub record Stepping (f : Map) (q : ℕ) (os bs : List ℕ) (i p : ℕ) : Type 0 where
  pub put : take i os ++ stepped f (length os - i) p (drop i bs) ≡ stepped f (length os) q bs
  pub known : p < f.q

-- one bit leads to one symbol
one : (f : Map) (n p y : ℕ) (ys : List ℕ) → f.w ≡ 1 → stepped f (suc n) p (y ∷ ys) ≡ f.next p (y ∷ []) ∷ stepped f n (f.next p (y ∷ [])) ys
one f n p y ys e = ap (λ w. f.next p (take w (y ∷ ys)) ∷ stepped f n (f.next p (take w (y ∷ ys))) (drop w (y ∷ ys))) e

module _ (f : Map) (L : maps.Lawful f) (w : f.w ≡ 1) (q : ℕ) (os bs : List ℕ) (i p : ℕ) (h : Stepping f q os bs i p) (b : Bits (length os) bs) (l : i < length os) where
  pub bit_there : Bits f.w (get_or bs i 0 ∷ [])
  bit_there = record { size = sym w; bits = (All-get_or Bit bs i 0 (omega (arith, b.size)) b.bits, tt) }

  pub step_more : (r : ℕ) → r ≡ f.next p (get_or bs i 0 ∷ []) → Stepping f q (set os i r) bs (i + 1) r
  step_more r e =
      let k = length os - (i + 1) in
      let n : length os - i ≡ suc k = omega arith in
      let d : drop i bs ≡ get_or bs i 0 ∷ drop (i + 1) bs =
      drop-cons bs i 0 (omega (arith, b.size)) ∙ (let z : suc i ≡ i + 1 = omega arith in ap (λ j. get_or bs i 0 ∷ drop j bs) z) in
      let s : r ∷ stepped f k r (drop (i + 1) bs) ≡ stepped f (length os - i) p (drop i bs) =
      sym (ap (λ j. stepped f j p (drop i bs)) n ∙ ap (stepped f (suc k) p) d ∙ one f k p (get_or bs i 0) (drop (i + 1) bs) w ∙ ap (λ z. z ∷ stepped f k z (drop (i + 1) bs)) (sym e)) in
      record {
        put =
            ap (λ xs. xs ++ stepped f (length (set os i r) - (i + 1)) r (drop (i + 1) bs)) (take_more_set os i r l)
            ∙ append_assoc (take i os) (r ∷ []) (stepped f (length (set os i r) - (i + 1)) r (drop (i + 1) bs))
            ∙ ap (λ j. take i os ++ (r ∷ stepped f (j - (i + 1)) r (drop (i + 1) bs))) (length-set os i r)
            ∙ ap (λ xs. take i os ++ xs) s ∙ h.put ∙ ap (λ j. stepped f j q bs) (sym (length-set os i r));
        known = subst (λ s. s < f.q) (sym e) (L.below p (get_or bs i 0 ∷ []) h.known bit_there);
      }

pub step_all : (f : Map) (q : ℕ) (os bs : List ℕ) (n i p : ℕ) → length os ≡ n → n ≤ i → Stepping f q os bs i p → os ≡ stepped f n q bs
step_all f q os bs n i p e l h =
    let z : length os - i ≡ 0 = omega arith in
    sym (append-nil os) ∙ ap (λ ys. ys ++ []) (sym (take_all i os (omega arith))) ∙ ap (λ j. take i os ++ stepped f j p (drop i bs)) (sym z) ∙ h.put ∙ ap (λ j. stepped f j q bs) e
