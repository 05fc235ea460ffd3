-- Loops that move each element of a list to its place in another: the step, and what stands at the end.
use Rattle.std.proofs.Common.{◌≡◌, ℕ, ◌+◌, ◌-◌, ◌*◌, ◌/◌, ◌%◌, ◌^◌, ◌<◌, ◌≤◌, ◌≢◌, List, length, get_or, set, sym, ap, ◌∙◌, inl, inr, arith}
use Rattle.std.proofs.Math.Nat.{mul-mod_right, mul-div_cancel_left}
use Rattle.std.proofs.lemmas.List.{same_lists, get_or_read, get_or-set_same, get_or-set_other}
use Rattle.std.proofs.lemmas.Nat.{div-add-mod'}
use Rattle.std.proofs.lemmas.Bool.{cases_eq}
use Rattle.mode.specs.Orders.{Inside, turned, lead, forth, back, permuted, Copied}
use Rattle.mode.proofs.Turns.{Undoes, forth_below, forth_low, forth_high, lead_is, forth_undoes, back_undoes, length-permuted, get_or-permuted}

module _ {X : Type 0} (xs ys : List X) (f : ℕ → ℕ) where
  -- place i of ys is taken from place f i of xs
  pub gather_more : (i : ℕ) (x : X) → i < length ys → f i < length xs → x ≡ get_or xs (f i) x
      → ((k : ℕ) (d : X) → k < i → get_or ys k d ≡ get_or xs (f k) d)
      → (k : ℕ) (d : X) → k < i + 1 → get_or (set ys i x) k d ≡ get_or xs (f k) d
  gather_more i x l m e h k d b = elim (cases_eq k i) [
    | inl q ↦ ap (λ j. get_or (set ys i x) j d) q ∙ get_or-set_same ys i x d l ∙ get_or_read xs (f i) x m e d ∙ ap (λ j. get_or xs (f j) d) (sym q)
    | inr q ↦ get_or-set_other ys i k x d q ∙ h k d (omega arith)
  ]

  pub gather_all : (n : ℕ) (g : ℕ → ℕ) → Undoes n f g → length xs ≡ n → length ys ≡ n
      → ((k : ℕ) (d : X) → k < n → get_or ys k d ≡ get_or xs (f k) d) → ys ≡ permuted f xs
  gather_all n g u a b h =
      let e : length ys ≡ length (permuted f xs) = omega (arith, length-permuted f xs) in
      same_lists ys (permuted f xs) e (λ k d l.
      let w : f k < n = u.below k (omega arith) in
      h k d (omega arith) ∙ sym (get_or-permuted f xs k d (omega arith) (omega arith)))

  -- place i of xs is put at place f i of ys
  pub scatter_more : (n : ℕ) (g : ℕ → ℕ) → Undoes n f g → length xs ≡ n → length ys ≡ n → (i : ℕ) (x : X) → i < n → x ≡ get_or xs i x
      → ((k : ℕ) (d : X) → k < i → get_or ys (f k) d ≡ get_or xs k d)
      → (k : ℕ) (d : X) → k < i + 1 → get_or (set ys (f i) x) (f k) d ≡ get_or xs k d
  scatter_more n g u a b i x l e h k d m = elim (cases_eq k i) [
    | inl q ↦ let w : f i < length ys = omega (arith, u.below i l) in
        ap (λ j. get_or (set ys (f i) x) (f j) d) q ∙ get_or-set_same ys (f i) x d w ∙ get_or_read xs i x (omega arith) e d ∙ ap (λ j. get_or xs j d) (sym q)
    | inr q ↦ let ne : f k ≢ f i = λ z. q (sym (u.undone k (omega arith)) ∙ ap g z ∙ u.undone i l) in
        get_or-set_other ys (f i) (f k) x d ne ∙ h k d (omega arith)
  ]

  pub scatter_all : (n : ℕ) (g : ℕ → ℕ) → Undoes n g f → length xs ≡ n → length ys ≡ n
      → ((k : ℕ) (d : X) → k < n → get_or ys (f k) d ≡ get_or xs k d) → ys ≡ permuted g xs
  scatter_all n g u a b h =
      let e : length ys ≡ length (permuted g xs) = omega (arith, length-permuted g xs) in
      same_lists ys (permuted g xs) e (λ k d l.
      let w : g k < n = u.below k (omega arith) in
      ap (λ j. get_or ys j d) (sym (u.undone k (omega arith))) ∙ h (g k) d w ∙ sym (get_or-permuted g xs k d (omega arith) (omega arith)))

pub copied_size : (s n : ℕ) → Copied s n → s * (n / s) ≡ n
copied_size s n c = omega (arith, div-add-mod' n s, c.whole)

pub copied_at : (s t : ℕ) → 0 < s → (t ≡ 1 → ⊥) → Copied s (s * t)
copied_at s t p h = record {
  several = p;
  whole = mul-mod_right s t;
  enough = λ e. h (sym (mul-div_cancel_left t p) ∙ e);
}

pub copied_places : (s n : ℕ) → Copied s n → Undoes n (forth s (n / s)) (back s (n / s))
copied_places s n c = rw (copied_size s n c) at (forth_undoes s (n / s) c.several c.enough)

pub copied_back : (s n : ℕ) → Copied s n → Undoes n (back s (n / s)) (forth s (n / s))
copied_back s n c = rw (copied_size s n c) at (back_undoes s (n / s) c.several c.enough)

-- what the code of `source` goes by, with the first block's size as the code has it
module _ (s t i : ℕ) (c : Inside s t i) where
  pub at_low : i < s * (3 * (t % 2)) → turned 3 s i ≡ forth s t i
  at_low h = sym (forth_low s t i (omega (arith, lead_is s t)))

  pub at_high : s * (3 * (t % 2)) ≤ i → s * (3 * (t % 2)) + (2 * s * ((i - s * (3 * (t % 2))) / (2 * s)) + turned 2 s ((i - s * (3 * (t % 2))) % (2 * s))) ≡ forth s t i
  at_high h =
      let j = i - s * (3 * (t % 2)) in
      let e : i ≡ lead s t + (i - s * (3 * (t % 2))) = omega (arith, lead_is s t) in
      ap (λ n. n + (2 * s * (j / (2 * s)) + turned 2 s (j % (2 * s)))) (sym (lead_is s t)) ∙ sym (forth_high s t j) ∙ ap (forth s t) (sym e)

  pub high_below : s * (3 * (t % 2)) ≤ i → s * (3 * (t % 2)) + (2 * s * ((i - s * (3 * (t % 2))) / (2 * s)) + turned 2 s ((i - s * (3 * (t % 2))) % (2 * s))) < 2 ^ 64
  high_below h = omega (arith, at_high h, forth_below s t i c.several c.enough c.below, c.fits)
