-- The parts of a frame, each after the last symbol before it.
use Rattle.std.proofs.Common.{◌≡◌, ℕ, zero, suc, ◌+◌, ◌-◌, ◌%◌, ◌<◌, cond, eqb, List, [], ◌∷◌, ◌++◌, length, get_or, Some, sym, refl, ap, ◌∙◌, subst, ap₂, arith}
use Rattle.std.proofs.lemmas.List.{append_assoc, length-append}
use Rattle.frame.specs.Headers.{Fields, header}
use Rattle.frame.specs.Scrambler.{scrambled}
use Rattle.mode.specs.Modes.{Mode, stepped, sent}
use Rattle.delivery.specs.Plans.{Plan, Lawful}
use Rattle.delivery.specs.Frames.{Frame, fields, Legal, last_of, header_count, preamble, header_sent, payload_by, payload_sent, body, symbols}
use Rattle.delivery.proofs.Cleans.{length-preamble, preamble_below, length-header, header_last}

last_append : (p : ℕ) (ss ts : List ℕ) → last_of p (ss ++ ts) ≡ last_of (last_of p ss) ts
last_append p [] ts = refl
last_append p (s ∷ ss) ts = last_append s ss ts

-- the last of i + 1 symbols
last_is : (p : ℕ) (ss : List ℕ) (i : ℕ) → length ss ≡ suc i → get_or ss i 0 ≡ last_of p ss
last_is p [] i e = absurd (omega arith)
last_is p (s ∷ []) zero e = refl
last_is p (s ∷ []) (suc i) e = absurd (omega arith)
last_is p (s ∷ t ∷ ss) zero e = absurd (omega arith)
last_is p (s ∷ t ∷ ss) (suc i) e = last_is s (t ∷ ss) i (omega arith)

-- the preamble, as the plan's header mode steps through its bits
pub preamble_is : (P : Plan) (c n : ℕ) (m : Mode) (start : ℕ) (bits a : List ℕ) → m ≡ P.header → start ≡ P.start → bits ≡ cond (eqb (c % 2) 0) P.even P.odd → n ≡ 90
    → a ≡ stepped m.map n start bits → a ≡ preamble P c
unfolding preamble
preamble_is P c n m start bits a em es eb en e =
    e ∙ ap (λ z. stepped z.map n start bits) em ∙ ap (λ z. stepped P.header.map z start bits) en ∙ ap₂ (stepped P.header.map 90) es eb

module _ (P : Plan) (L : Lawful P) (c : ℕ) (f : Frame) (F : Legal P f) (a : List ℕ) (ea : a ≡ preamble P c) where
  first_prior : get_or a 89 0 ≡ last_of P.start (preamble P c)
  first_prior = last_is P.start a 89 (ap length ea ∙ length-preamble P L c) ∙ ap (last_of P.start) ea

  pub first_known : get_or a 89 0 < P.header.map.q
  first_known = subst (λ s. s < P.header.map.q) (sym first_prior) (preamble_below P L c)

  module _ (x : Fields) (ex : x ≡ fields f) (b : List ℕ) (eb : b ≡ sent P.header (get_or a 89 0) (header P.form x)) (n : Mode) (en : P.rate f.rate ≡ Some n) (i : ℕ) (ei : i ≡ 90 + header_count P - 1) where
    b_is : b ≡ header_sent P (last_of P.start (preamble P c)) f
    unfolding header_sent
    b_is = eb ∙ ap₂ (λ s y. sent P.header s (header P.form y)) first_prior ex

    long : length (a ++ b) ≡ suc i
    long =
        length-append a b
        ∙ omega (arith, ei, ap length ea, length-preamble P L c, ap length b_is, length-header P L f F (last_of P.start (preamble P c)) (preamble_below P L c))

    second_prior : get_or (a ++ b) i 0 ≡ last_of (last_of P.start (preamble P c)) (header_sent P (last_of P.start (preamble P c)) f)
    second_prior = last_is P.start (a ++ b) i long ∙ last_append P.start a b ∙ ap₂ (λ x y. last_of (last_of P.start x) y) ea b_is

    pub second_known : get_or (a ++ b) i 0 < n.map.q
    second_known =
        subst (λ s. s < n.map.q) (sym second_prior)
        (subst (λ q. last_of (last_of P.start (preamble P c)) (header_sent P (last_of P.start (preamble P c)) f) < q) (sym (L.shared f.rate n en))
        (header_last P L f F (last_of P.start (preamble P c)) (preamble_below P L c)))

    pub all_written : (ws : List ℕ) → ws ≡ sent n (get_or (a ++ b) i 0) (scrambled f.seed f.psdu) → (a ++ b) ++ ws ≡ symbols P c f
    unfolding symbols body payload_sent
    all_written ws e =
        append_assoc a b ws
        ∙ ap₂ ◌++◌ ea (ap₂ ◌++◌ b_is (e ∙ ap (λ s. sent n s (scrambled f.seed f.psdu)) second_prior
        ∙ ap (λ o. payload_by o (last_of (last_of P.start (preamble P c)) (header_sent P (last_of P.start (preamble P c)) f)) f) (sym en)))
