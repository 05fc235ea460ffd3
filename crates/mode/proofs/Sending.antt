-- The symbols that a chain writes to the front of a buffer.
use Rattle.std.proofs.Common.{◌≡◌, ℕ, ◌-◌, ◌*◌, ◌≤◌, List, ◌++◌, length, take, drop, sym, refl, ap, ◌∙◌}
use Rattle.std.proofs.Math.Nat.{sub-zero}
use Rattle.std.specs.List.{AllByRecursion}
use Rattle.std.proofs.lemmas.List.{length-take-le}
use Rattle.bits.specs.Strings.{Bit, Bits}
use Rattle.mode.specs.Modes.{Mode, Lawful, Carried, total, count, air, stepped, sent}
use Rattle.mode.proofs.Strings.{bits_at}
use Rattle.mode.proofs.Room.{front_is}
use Rattle.mode.proofs.Whole.{count_width, air_bits}

module _ (m : Mode) (L : Lawful m) (xs ys : List ℕ) (s t : ℕ) (k : Carried (length xs)) (b : AllByRecursion Bit xs)
    (se : s ≡ m.copies) (te : t ≡ total m (length xs)) (ae : ys ≡ air m xs) where
  whole : Bits (m.copies * total m (length xs)) (air m xs)
  whole = air_bits m L (length xs) xs k.low (record { size = refl; bits = b })

  pub air-sized : length ys ≡ s * t
  air-sized = ap length ae ∙ whole.size ∙ rw (se, te)

  module _ (rest os : List ℕ) (c : ℕ) (ce : c ≡ count m (length xs)) (room : c ≤ length os) where
    places : length (take (c - 0) os) ≡ count m (length xs)
    places = rw (sub-zero, length-take-le c os room) ce

    pub symbols_asked : Bits (length (take (c - 0) os) * m.map.w) (take (s * t - 0) (ys ++ rest))
    symbols_asked =
        rw (front_is ys rest (s * t) air-sized, ae)
        (bits_at _ _ (air m xs) (sym (count_width m L (length xs)) ∙ ap (λ j. j * m.map.w) (sym places)) whole)

    pub sent_front : (p : ℕ) (us : List ℕ) → us ≡ stepped m.map (length (take (c - 0) os)) p (take (s * t - 0) (ys ++ rest)) → us ++ drop (c - 0) os ≡ sent m p xs ++ drop c os
    unfolding sent
    sent_front p us e =
        let f : us ≡ stepped m.map (count m (length xs)) p (air m xs) =
        e ∙ ap (λ j. stepped m.map j p (take (s * t - 0) (ys ++ rest))) places ∙ ap (stepped m.map (count m (length xs)) p) (front_is ys rest (s * t) air-sized ∙ ae) in
        rw sub-zero (ap (λ vs. vs ++ drop c os) f)
