-- Reading one symbol after the other: where so many are read, and the first that cannot be.
use Rattle.std.proofs.Common.{◌≡◌, ℕ, suc, ◌+◌, ◌-◌, ◌*◌, ◌<◌, ◌≤◌, List, [], ◌∷◌, ◌++◌, length, get_or, take, drop, Bool, true, false, Ok, Err, Result, refl, sym, ap, ◌∙◌, inl, inr, arith}
use Rattle.std.specs.List.{AllByRecursion}
use Rattle.std.proofs.lemmas.Bool.{cases_eq}
use Rattle.std.proofs.lemmas.List.{append-nil, append_assoc, take_all, take_at, drop_at, take_more, length-take-le, length-drop, get_or-take, get_or-drop}
use Rattle.std.proofs.ByRecursion.{All-append}
use Rattle.std.specs.Result.{is_ok}
use Rattle.bits.specs.Strings.{Bit, Bits}
use Rattle.mapping.specs.declared.fault.ReadFault.{ReadFault}
use Rattle.mapping.specs.declared.fault.ReadFault.TheVariants.{Call, NoSuchStep}
use Rattle.mapping.specs.Maps.{Map}
use Rattle.mapping.specs.Maps as maps
use Rattle.mapping.specs.Answers.{Reads, Readable}
use Rattle.mode.specs.Modes.{stepped}
use Rattle.mode.proofs.Strings.{length_part}
use Rattle.mode.specs.Parts.{First, Strange, Unread, Amiss, Read}

-- a refused reading of a call that can be read
pub unread : (f : Map) (p s : ℕ) (before after : List ℕ) (e : ReadFault) → Readable f p s before → Reads f p s before after (Err e) → Unread f p s
unread f p s before after (Call b) r h = absurd (h.0 r)
unread f p s before after NoSuchStep r h = h.1

-- what was answered, where another result is of the same variant, as that of `map_err`
pub refused : {T E F : Type 0} (r : Result T E) (q : Result T F) (e : F) → is_ok q ≡ is_ok r → q ≡ Err e → (d : E) × (r ≡ Err d)
refused (Ok x) q e v f = absurd (let z : ◌≡◌ {A = Bool} false true = ap is_ok (sym f) ∙ v in let y : ◌≡◌ {A = ℕ} 0 1 = cc in omega arith)
refused (Err d) q e v f = (d, refl)

pub answered : {T E F : Type 0} (r : Result T E) (q : Result T F) (x : T) → is_ok q ≡ is_ok r → q ≡ Ok x → (y : T) × (r ≡ Ok y)
answered (Ok y) q x v f = (y, refl)
answered (Err d) q x v f = absurd (let z : ◌≡◌ {A = Bool} true false = ap is_ok (sym f) ∙ v in let y : ◌≡◌ {A = ℕ} 0 1 = cc in omega arith)

-- the symbol that the loop takes from a part of the list
pub part_symbol : (list : List ℕ) (a n k : ℕ) → a + n ≤ length list → k < length (take (a + n - a) (drop a list))
    → (k < n) × (get_or (take (a + n - a) (drop a list)) k 0 ≡ get_or list (a + k) 0)
part_symbol list a n k l h = let e = length_part a n list l in (omega arith, get_or-take (a + n - a) (drop a list) k 0 (omega arith) ∙ get_or-drop a list k 0)

-- k symbols are read, into the first places of bs, and the last of them is p
pub record Sofar (f : Map) (list : List ℕ) (at many : ℕ) (bs : List ℕ) (k p : ℕ) : Type 0 where
  pub prior : p ≡ get_or list (at + k) 0
  pub fine : (j : ℕ) → j < at + 1 + k → Amiss f list at j → ⊥
  pub known : (j : ℕ) → at ≤ j → j < at + 1 + k → get_or list j 0 < f.q
  pub bits : AllByRecursion Bit (take (f.w * k) bs)
  pub leads : (es : List ℕ) → stepped f many (get_or list at 0) (take (f.w * k) bs ++ es) ≡ take k (take many (drop (at + 1) list)) ++ stepped f (many - k) p es

module _ (f : Map) (list : List ℕ) (at many : ℕ) where
  module _ (L : maps.Lawful f) (bs : List ℕ) (k p : ℕ) (h : Sofar f list at many bs k p) where
    pub sofar_prior : p < f.q
    sofar_prior = rw h.prior (h.known (at + k) (omega arith) (omega arith))

    first_amiss : k < many → Amiss f list at (at + 1 + k) → First (Amiss f list at) (at + 1 + many) (at + 1 + k)
    first_amiss l x = record { below = omega arith; has = x; least = h.fine }

    pub step_fault : (i : ℕ) → i ≡ at + 1 + k → k < many → get_or list i 0 < f.q → Unread f p (get_or list i 0) → First (Amiss f list at) (at + 1 + many) i × (Strange f list i → ⊥)
    step_fault i e l s u =
        let d : at + 1 + k - 1 ≡ at + k = omega arith in
        let v : Unread f (get_or list (at + 1 + k - 1) 0) (get_or list (at + 1 + k) 0) = rw (d, ← h.prior, ← e) u in
        (rw e (first_amiss l (omega arith, inr (omega arith, v))), λ t. omega arith)

    pub sofar_more : (i s u v : ℕ) (ds cs : List ℕ) → i ≡ at + 1 + k → k < many → at + 1 + many ≤ length list → s ≡ get_or list i 0 → u ≡ s → s < f.q → v ≡ f.w → Bits f.w ds → f.next p ds ≡ s
        → take (v * k + v) cs ≡ take (v * k) bs ++ ds → Sofar f list at many cs (k + 1) u
    sofar_more i s u v ds cs e l t se ue sq ve b n o =
        let a = f.w * k in
        let c : take (f.w * (k + 1)) cs ≡ take a bs ++ ds = ap (λ j. take j cs) (omega arith) ∙ (rw ve at o) in
        let ss = take many (drop (at + 1) list) in
        let w = f.w in
        let long : length ss ≡ many = length-take-le many (drop (at + 1) list) (simp length-drop (omega arith)) in
        let x : get_or ss k 0 ≡ s = get_or-take many (drop (at + 1) list) k 0 l ∙ get_or-drop (at + 1) list k 0 ∙ ap (λ j. get_or list j 0) (sym e) ∙ sym se in
        let y : s ≡ get_or list (at + 1 + k) 0 = se ∙ ap (λ j. get_or list j 0) e in
        rw ue (record {
          prior = y ∙ ap (λ j. get_or list j 0) (omega arith);
          fine = λ j m z. elim (cases_eq j (at + 1 + k)) [
            | inl q ↦ elim z.1 [
              | inl o ↦ omega (arith, ap (λ r. get_or list r 0) q)
              | inr o ↦
                  let g : get_or list (j - 1) 0 ≡ p = ap (λ r. get_or list r 0) (omega arith) ∙ sym h.prior in
                  let d : get_or list j 0 ≡ s = ap (λ r. get_or list r 0) q ∙ sym y in
                  o.1 ds b (ap (λ r. f.next r ds) g ∙ n ∙ sym d)
            ]
            | inr q ↦ h.fine j (omega arith) z
          ];
          known = λ j m z. elim (cases_eq j (at + 1 + k)) [
            | inl q ↦ omega (arith, ap (λ r. get_or list r 0) q)
            | inr q ↦ h.known j m (omega arith)
          ];
          bits = rw c (All-append Bit (take a bs) ds h.bits b.bits);
          leads = λ es.
              let r : many - k ≡ suc (many - (k + 1)) = omega arith in
              let tk : take w (ds ++ es) ≡ ds = take_at ds es w b.size in
              let dr : drop w (ds ++ es) ≡ es = drop_at ds es w b.size in
              let z : stepped f (many - k) p (ds ++ es) ≡ s ∷ stepped f (many - (k + 1)) s es = rw (r, tk, dr, n) in
              let g : take (k + 1) ss ≡ take k ss ++ s ∷ [] = take_more ss k 0 (omega arith) ∙ ap (λ q. take k ss ++ q ∷ []) x in
              ap (λ us. stepped f many (get_or list at 0) (us ++ es)) c ∙ ap (stepped f many (get_or list at 0)) (append_assoc (take a bs) ds es) ∙ h.leads (ds ++ es)
              ∙ ap (λ us. take k ss ++ us) z ∙ sym (append_assoc (take k ss) (s ∷ []) (stepped f (many - (k + 1)) s es))
              ∙ ap (λ us. us ++ stepped f (many - (k + 1)) s es) (sym g);
        })

    pub sofar_all : many ≤ k → k ≤ many → at + 1 + many ≤ length list → length bs ≡ many * f.w → Read f list at many bs
    sofar_all l m t e =
        let ss = take many (drop (at + 1) list) in
        let long : length ss ≡ many = length-take-le many (drop (at + 1) list) (simp length-drop (omega arith)) in
        let ke : k ≡ many = omega arith in
        let full : take (f.w * k) bs ≡ bs = take_all (f.w * k) bs (omega (arith, ap (λ j. f.w * j) ke)) in
        let z : many - k ≡ 0 = omega arith in
        record {
          bits = record { size = e; bits = rw full at h.bits };
          known = λ i b c. h.known i b (omega arith);
          leads = ap (stepped f many (get_or list at 0)) (sym full ∙ sym (append-nil (take (f.w * k) bs))) ∙ h.leads [] ∙ ap (λ j. take k ss ++ stepped f j p []) z ∙ append-nil (take k ss) ∙ take_all k ss (omega arith);
        }
