-- Deciding bits from their copies, counting those that are spoilt, and the lowest symbol, one element after the other.
use Rattle.std.proofs.Common.{◌≡◌, ℕ, zero, suc, ◌+◌, ◌-◌, ◌*◌, ◌<◌, ◌≤◌, ◌⊎◌, min, cond, eqb, leb, fold, List, [], ◌∷◌, ◌++◌, length, get_or, take, drop, set, sym, refl, ap, ◌∙◌, inl, inr, mul-le-mul_left, arith}
use Rattle.std.specs.List.{count_by}
use Rattle.std.proofs.Math.Bool.{not}
use Rattle.std.proofs.lemmas.List.Recursion.{is_count_by}
use Rattle.std.proofs.lemmas.List.{drop-drop, length-append, length-map, map-append, take-map, drop-map, take_at, drop_at, append_assoc, nil_from_length, take_more_set, length-set}
use Rattle.std.proofs.lemmas.Bool.{eq-eqb, ne_eqb, le-leb, lt-leb, cases_eq, cases_lt}
use Rattle.mode.specs.declared.air_bit.AirBit.{AirBit}
use Rattle.mode.specs.Copying.{differing, majority, decided, spoilt}
use Rattle.mode.specs.Heard.{bits_of, symbols_of, Lowest}
use Rattle.mode.proofs.Spoils.{differing-le}
use Rattle.mode.proofs.Blocks.{get_or-map_all}

-- what the code takes for a place past the end
abbrev pub none : AirBit
none = record { bit = 0; symbol = 0 }

pub bit_is : (hs : List AirBit) (i : ℕ) → (get_or hs i none).bit ≡ get_or (bits_of hs) i 0
bit_is hs i = get_or-map_all (λ h. h.bit) hs i none

pub symbol_is : (hs : List AirBit) (i : ℕ) → (get_or hs i none).symbol ≡ get_or (symbols_of hs) i 0
symbol_is hs i = get_or-map_all (λ h. h.symbol) hs i none

pub length_bits : (hs : List AirBit) → length (bits_of hs) ≡ length hs
length_bits hs = length-map hs (λ h. h.bit)

-- the bits of a part `&hs[a..a + n]`
pub bits_part : (hs : List AirBit) (a n : ℕ) → bits_of (take (a + n - a) (drop a hs)) ≡ take n (drop a (bits_of hs))
bits_part hs a n =
    let e : a + n - a ≡ n = omega arith in
    rw e (sym (take-map (λ h. h.bit) n (drop a hs)) ∙ ap (take n) (sym (drop-map (λ h. h.bit) a hs)))

-- copies that differ, as the code counts them
pub differing_count : (b : ℕ) (hs : List AirBit) → differing b (bits_of hs) ≡ count_by (λ h. not (eqb h.bit b)) hs
differing_count b hs = is_count_by (λ hs. differing b (bits_of hs)) (λ h. not (eqb h.bit b)) refl one hs
  where
    one : (h : AirBit) (hs : List AirBit) → cond (eqb b h.bit) 0 1 + differing b (bits_of hs) ≡ cond (not (eqb h.bit b)) (1 + differing b (bits_of hs)) (differing b (bits_of hs))
    one h hs = elim (cases_eq b h.bit) [
      | inl e ↦ rw (eq-eqb b h.bit e, eq-eqb h.bit b (sym e)) (omega arith)
      | inr n ↦ rw (ne_eqb b h.bit n, ne_eqb h.bit b (λ e. n (sym e))) (omega arith)
    ]

module _ (hs : List AirBit) (r : ℕ) (e : r ≡ differing (get_or hs 0 none).bit (bits_of hs)) where
  counted : r ≡ differing (get_or (bits_of hs) 0 0) (bits_of hs)
  counted = e ∙ ap (λ b. differing b (bits_of hs)) (bit_is hs 0)

  pub against_le : r ≤ length hs
  against_le = omega (arith, counted, differing-le (get_or (bits_of hs) 0 0) (bits_of hs), length_bits hs)

-- i bits are decided
abbrev pub Decided : ℕ → List ℕ → List ℕ → ℕ → Type 0
Decided s es ws i = take i ws ++ decided s (length ws - i) (drop (s * i) es) ≡ decided s (length ws) es

pub decided_more : (s : ℕ) (es ws : List ℕ) (i r : ℕ) → Decided s es ws i → i < length ws → r ≡ majority (take s (drop (s * i) es)) → Decided s es (set ws i r) (i + 1)
decided_more s es ws i r h l e =
    let n : length ws - i ≡ suc (length ws - (i + 1)) = omega arith in
    let a : s * (i + 1) ≡ s * i + s = omega arith in
    let z : take (i + 1) (set ws i r) ++ decided s (length ws - (i + 1)) (drop (s * i + s) es) ≡ take i ws ++ decided s (length ws - i) (drop (s * i) es) =
    rw (take_more_set ws i r l, n, drop-drop, ← e) (append_assoc (take i ws) (r ∷ []) (decided s (length ws - (i + 1)) (drop (s * i + s) es))) in
    rw (length-set, a) (z ∙ h)

-- n bits are counted as spoilt, and the bits of rest are left with the copies of each
pub record Counted (s : ℕ) (ws : List ℕ) (hs : List AirBit) (n : ℕ) (rest : List ℕ) (more : List AirBit) (size : ℕ) : Type 0 where
  pub so_far : n + spoilt s rest (bits_of more) ≡ spoilt s ws (bits_of hs)
  pub few : n + length rest ≤ length ws
  pub row : size ≡ s
  pub long : length more ≡ s * length rest

module _ (s : ℕ) (ws : List ℕ) (hs : List AirBit) (n : ℕ) (rest : List ℕ) (more : List AirBit) (size : ℕ) (h : Counted s ws hs n rest more size) where
  module _ (b a : ℕ) (rest' : List ℕ) (ys more' : List AirBit) (re : rest ≡ b ∷ rest') (me : more ≡ ys ++ more') (l : length ys ≡ size) (e : a ≡ differing b (bits_of ys)) where
    own_long : length (bits_of ys) ≡ s
    own_long = length_bits ys ∙ l ∙ h.row

    pub against_few : a ≤ s
    against_few = omega (arith, e, differing-le b (bits_of ys), own_long)

    one_more : spoilt s rest (bits_of more) ≡ cond (leb s (2 * a)) 1 0 + spoilt s rest' (bits_of more')
    one_more =
        let q : bits_of more ≡ bits_of ys ++ bits_of more' = ap bits_of me ∙ map-append (λ h. h.bit) ys more' in
        rw (re, q, take_at (bits_of ys) (bits_of more') s own_long, drop_at (bits_of ys) (bits_of more') s own_long, e) refl

    counted_more : (m : ℕ) → m ≡ n + cond (leb s (2 * a)) 1 0 → m ≤ n + 1 → Counted s ws hs m rest' more' size
    counted_more m o k = record {
      so_far = omega (arith, h.so_far, one_more);
      few = omega (arith, h.few, ap length re);
      row = h.row;
      long = omega (arith, h.long, ap length me, length-append ys more', l, h.row, ap (λ us. s * length us) re);
    }

    pub counted_yes : s - a ≤ a → Counted s ws hs (n + 1) rest' more' size
    counted_yes k = counted_more (n + 1) (rw (le-leb s (2 * a) (omega arith)) refl) (omega arith)

    pub counted_no : a < s - a → Counted s ws hs n rest' more' size
    counted_no k = counted_more n (rw (lt-leb s (2 * a) (omega arith)) (omega arith)) (omega arith)

  pub counted_all : (length rest ≡ 0) ⊎ (length more < size) → n ≡ spoilt s ws (bits_of hs)
  counted_all o =
      let none : length rest ≡ 0 = elim o [
        | inl e ↦ e
        | inr l ↦ elim (cases_lt 0 (length rest)) [ inl b ↦ absurd (omega (arith, h.long, h.row, mul-le-mul_left s b)) | inr b ↦ omega arith ]
      ] in
      omega (arith, h.so_far, ap (λ us. spoilt s us (bits_of more)) (nil_from_length rest none))

-- the lowest symbol, as the code folds it
abbrev pub lower : ℕ → AirBit → ℕ
lower a h = min a h.symbol

pub lower_all : (hs : List AirBit) (a : ℕ) → (fold lower a hs ≤ a) × ((k : ℕ) → k < length hs → fold lower a hs ≤ get_or (symbols_of hs) k 0)
    × ((fold lower a hs ≡ a) ⊎ ((k : ℕ) × (k < length hs) × (get_or (symbols_of hs) k 0 ≡ fold lower a hs)))
lower_all [] a = (omega arith, λ k l. absurd (omega arith), inl refl)
lower_all (h ∷ hs) a = let ih = lower_all hs (min a h.symbol) in (omega (arith, ih.0), below ih.0 ih.1, reached ih.2)
  where
    below : fold lower (min a h.symbol) hs ≤ min a h.symbol → ((k : ℕ) → k < length hs → fold lower (min a h.symbol) hs ≤ get_or (symbols_of hs) k 0)
        → (k : ℕ) → k < length (h ∷ hs) → fold lower (min a h.symbol) hs ≤ get_or (symbols_of (h ∷ hs)) k 0
    below l f zero b = omega (arith, l)
    below l f (suc k) b = f k (omega arith)

    reached : ((fold lower (min a h.symbol) hs ≡ min a h.symbol) ⊎ ((k : ℕ) × (k < length hs) × (get_or (symbols_of hs) k 0 ≡ fold lower (min a h.symbol) hs)))
        → (fold lower (min a h.symbol) hs ≡ a) ⊎ ((k : ℕ) × (k < length (h ∷ hs)) × (get_or (symbols_of (h ∷ hs)) k 0 ≡ fold lower (min a h.symbol) hs))
    reached (inl e) = elim (cases_lt a h.symbol) [ inl l ↦ inl (omega (arith, e)) | inr l ↦ inr (0, omega arith, omega (arith, e)) ]
    reached (inr x) = inr (suc x.0, omega (arith, x.1), x.2)

pub lowest_is : (hs : List AirBit) (r : ℕ) → 0 < length hs → r ≡ fold lower (get_or hs 0 none).symbol hs → Lowest hs r
lowest_is hs r p e =
    let l = lower_all hs (get_or hs 0 none).symbol in
    rw e (elim l.2 [
      | inl f ↦ record { place = 0; there = p; is = sym (f ∙ symbol_is hs 0); least = l.1 }
      | inr x ↦ record { place = x.0; there = x.1; is = x.2; least = l.1 }
    ])
