-- What the bits of a part become, where they can be sent.
use Rattle.std.proofs.Common.{◌≡◌, ℕ, ◌<◌, ◌≤◌, List, ◌++◌, length, drop, sym, ap, ◌∙◌, subst, ap₂, arith}
use Rattle.std.proofs.lemmas.List.{drop_all, append-nil}
use Rattle.bits.specs.Strings.{Bits}
use Rattle.frame.specs.Headers.{Fields, Form, InRange, header}
use Rattle.frame.specs.Headers as forms
use Rattle.mode.specs.Modes.{Mode, Carried, count, sent}
use Rattle.mode.specs.Answers.{Sendable}
use Rattle.delivery.specs.Plans.{Plan, Lawful}
use Rattle.delivery.specs.Frames.{header_count}

pub sendable : (m : Mode) (n prior : ℕ) (bits places : List ℕ) → Bits n bits → Carried n → prior < m.map.q → length places ≡ count m n → Sendable m prior bits places
sendable m n prior bits places b s k l =
    record {
      carried = subst Carried (sym b.size) s;
      bits = b.bits;
      known = k;
      room = subst (λ i. count m i ≤ length places) (sym b.size) (omega (arith, l));
    }

module _ (P : Plan) (L : Lawful P) (x : Fields) (R : InRange P.form x) (m : Mode) (em : m ≡ P.header) (f : Form) (ef : f ≡ P.form) (prior : ℕ) (k : prior < P.header.map.q)
    (bits places : List ℕ) (eb : bits ≡ header f x) (l : length places ≡ header_count P) where
  said : Bits (forms.count P.form) bits
  said = subst (Bits (forms.count P.form)) (sym (eb ∙ ap (λ z. header z x) ef)) (L.form.sized x R)

  room : length places ≡ count m (forms.count P.form)
  unfolding header_count
  room = l ∙ ap (λ z. count z (forms.count P.form)) (sym em)

  pub header_sendable : Sendable m prior bits places
  header_sendable = sendable m (forms.count P.form) prior bits places said L.size (subst (λ z. prior < z.map.q) (sym em) k) room

  -- the symbols fill the places
  pub header_filled : (after : List ℕ) (r : ℕ) → r ≡ count m (length bits) → after ≡ sent m prior bits ++ drop r places → after ≡ sent P.header prior (header P.form x)
  header_filled after r er e =
      e ∙ ap (λ zs. sent m prior bits ++ zs) (drop_all r places (omega (arith, room, er, ap (count m) said.size))) ∙ append-nil (sent m prior bits)
      ∙ ap₂ (λ z bs. sent z prior bs) em (eb ∙ ap (λ z. header z x) ef)
