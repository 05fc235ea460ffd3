-- Two places at most give sums of their own: one test, which antt computes.
use Rattle.std.specs.Prelude.{◌≡◌, ℕ, zero, suc, ◌+◌, ◌*◌, ◌/◌, ◌%◌, ◌<◌, Bool, true, false, ◌&&◌, T, List, [], ◌∷◌, replicate, ◌≢◌, bit_xor, nat_eq, slice_index, slice_index_or, slice_set, refl}
use Rattle.std.proofs.Common.{ap, sym, ◌∙◌, arith, eqb→eq, inl, inr}
use Rattle.std.proofs.lemmas.Bool.{cases_eq}
use Rattle.block_code.specs.Bch.{power, times}

unfoldable pub all_below : (ℕ → Bool) → ℕ → Bool
all_below t zero = true
all_below t (suc n) = t n && all_below t n

and_l : (a b : Bool) → T (a && b) → T a
and_l true b h = tt
and_l false b h = h

and_r : (a b : Bool) → T (a && b) → T b
and_r true b h = h
and_r false b h = absurd h

pub at_below : (t : ℕ → Bool) (n : ℕ) → T (all_below t n) → (k : ℕ) → k < n → T (t k)
unfolding all_below
at_below t zero h k l = absurd (omega arith)
at_below t (suc n) h k l =
    elim (cases_eq k n) [ inl e ↦ rw e (and_l (t n) (all_below t n) h) | inr ne ↦ at_below t n (and_r (t n) (all_below t n) h) k (omega arith) ]

-- both sums of the power i, as one number
unfoldable pub both : ℕ → ℕ
both i = power ((3 * i) % 63) * 64 + power i

boths : ℕ → ℕ → List ℕ
boths zero i = []
boths (suc n) i = both i ∷ boths n (suc i)

-- at a place's number plus one; at 0 no place
g : List ℕ
g = 0 ∷ boths 63 0

synd : List ℕ → ℕ → ℕ → ℕ
synd l a b = bit_xor (slice_index l a) (slice_index l b)

put : List (List ℕ) → ℕ → ℕ → List (List ℕ)
put n s v = slice_set n (s / 64) (slice_set (slice_index_or n (s / 64) []) (s % 64) v)

fill_row : List ℕ → ℕ → ℕ → List (List ℕ) → List (List ℕ)
fill_row l a zero n = n
fill_row l a (suc b) n = fill_row l a b (put n (synd l a b) (a * 64 + b))

fill : List ℕ → ℕ → List (List ℕ) → List (List ℕ)
fill l zero n = n
fill l (suc a) n = fill l a (fill_row l a a n)

table : List ℕ → List (List ℕ)
table l = fill l 64 (replicate 64 (replicate 64 0))

dec : List (List ℕ) → ℕ → ℕ
dec n s = slice_index (slice_index_or n (s / 64) []) (s % 64)

check : List (List ℕ) → List ℕ → Bool
check n l = all_below (λ a. all_below (λ b. nat_eq (dec n (synd l a b)) (a * 64 + b)) a) 64

passes : T (check (table g) g)
unfolding check all_below both boths g synd table dec power times fill fill_row put
passes = tt

decode : ℕ → ℕ
decode s = dec (table g) s

decodes : (a b : ℕ) → b < a → a < 64 → decode (synd g a b) ≡ a * 64 + b
unfolding decode check
decodes a b h k =
    eqb→eq (dec (table g) (synd g a b)) (a * 64 + b)
    (at_below (λ b. nat_eq (dec (table g) (synd g a b)) (a * 64 + b)) a
    (at_below (λ a. all_below (λ b. nat_eq (dec (table g) (synd g a b)) (a * 64 + b)) a) 64 passes a k) b h)

decode_zero : decode 0 ≡ 0
unfolding decode check all_below both boths g synd table dec power times fill fill_row put
decode_zero = refl

get_or_boths : (n i k : ℕ) → k < n → slice_index (boths n i) k ≡ both (i + k)
unfolding boths
get_or_boths zero i k h = absurd (omega arith)
get_or_boths (suc n) i zero h = ap both (omega arith)
get_or_boths (suc n) i (suc k) h = get_or_boths n (suc i) k (omega arith) ∙ ap both (omega arith)

-- what a place's number plus one adds
pub place : ℕ → ℕ
place a = slice_index g a

pub place-zero : place 0 ≡ 0
unfolding place g
place-zero = refl

pub place-suc : (k : ℕ) → k < 63 → place (suc k) ≡ both k
unfolding place g
place-suc k h = get_or_boths 63 0 k h ∙ ap both (omega arith)

pub apart_zero : (a b : ℕ) → b < a → a < 64 → bit_xor (place a) (place b) ≢ 0
unfolding place synd
apart_zero a b h k e =
    let z : a * 64 + b ≡ 0 = sym (decodes a b h k) ∙ ap decode e ∙ decode_zero in omega arith

pub apart : (a b c d : ℕ) → b < a → a < 64 → d < c → c < 64 → bit_xor (place a) (place b) ≡ bit_xor (place c) (place d)
    → (a ≡ c) × (b ≡ d)
unfolding place synd
apart a b c d h k i l e =
    let z : a * 64 + b ≡ c * 64 + d = sym (decodes a b h k) ∙ ap decode e ∙ decodes c d i l in (omega arith, omega arith)
