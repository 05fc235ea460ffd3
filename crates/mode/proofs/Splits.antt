-- The shares of the words come to the bits that are carried.
use Rattle.std.proofs.Common.{◌≡◌, ℕ, zero, suc, ◌+◌, ◌-◌, ◌*◌, ◌/◌, ◌%◌, ◌<◌, ◌≤◌, cond, ltb, List, [], ◌∷◌, map, length, get_or, drop, sum_by, refl, ap, ◌∙◌, inl, inr, mul-le-mul_left, arith}
use Rattle.std.specs.List.{range_with_len, AllByRecursion}
use Rattle.std.proofs.lemmas.Bool.{lt-ltb, le-ltb, cases_lt}
use Rattle.std.proofs.lemmas.Nat.{div-add-mod', mod_below}
use Rattle.std.proofs.lemmas.List.FromFn.{length-map-range_with_len, get_or-map-range_with_len}
use Rattle.std.proofs.ByRecursion.{All-weaker, All-get_or}
use Rattle.std.proofs.lemmas.List.{drop_more}
use Rattle.std.proofs.lemmas.List.Sums.{sum_by-cons}
use Rattle.mode.specs.Shares.{words, spare, unsent, unsents, SharesOut}

-- how many bits the words carry
abbrev pub carried : ℕ → List ℕ → ℕ
carried k [] = 0
carried k (u ∷ us) = (k - u) + carried k us

abbrev missing : List ℕ → ℕ
missing [] = 0
missing (u ∷ us) = u + missing us

carried_missing : (k : ℕ) (us : List ℕ) → AllByRecursion (λ u. u ≤ k) us → carried k us + missing us ≡ length us * k
carried_missing k [] h = omega arith
carried_missing k (u ∷ us) h = let l : u ≤ k = h.0 in omega (arith, carried_missing k us h.1)

-- one more at each of the first r places
missing_from : (q r a n : ℕ) → missing (map (λ i. q + cond (ltb i r) 1 0) (range_with_len a n)) + (r - (a + n)) ≡ n * q + (r - a)
missing_from q r a zero = omega arith
missing_from q r a (suc n) = elim (cases_lt a r) [
  | inl l ↦ rw (lt-ltb a r l) (omega (arith, missing_from q r (a + 1) n))
  | inr l ↦ rw (le-ltb a r l) (omega (arith, missing_from q r (a + 1) n))
]

missing_spare : (c z : ℕ) → 0 < c → missing (map (spare c z) (range_with_len 0 c)) ≡ z
unfolding spare
missing_spare c z p =
    omega (arith, missing_from (z / c) (z % c) 0 c, div-add-mod' z c, mod_below z c p)

pub spare_low : (c z i : ℕ) → i < z % c → z / c + 1 ≡ spare c z i
unfolding spare
spare_low c z i l = rw (lt-ltb i (z % c) l)

pub spare_high : (c z i : ℕ) → z % c ≤ i → z / c ≡ spare c z i
unfolding spare
spare_high c z i l = rw (le-ltb i (z % c) l) (omega arith)

spare-le : (c z i : ℕ) → 0 < c → spare c z i ≤ z
spare-le c z i p =
    let m : z / c * 1 ≤ z / c * c = mul-le-mul_left (z / c) p in
    let e : z / c * c + z % c ≡ z = div-add-mod' z c in
    elim (cases_lt i (z % c)) [
      | inl l ↦ omega (arith, spare_low c z i l)
      | inr l ↦ omega (arith, spare_high c z i l)
    ]

-- the words have room for the bits, and not for k more
pub words_room : (k n : ℕ) → 0 < k → (n ≤ words k n * k) × (words k n * k < n + k)
unfolding words
words_room k n p =
    let e = div-add-mod' (n + (k - 1)) k in
    let m = mod_below (n + (k - 1)) k p in
    (omega arith, omega arith)

all_of : (P : ℕ → Type 0) (f : ℕ → ℕ) → ((i : ℕ) → P (f i)) → (xs : List ℕ) → AllByRecursion P (map f xs)
all_of P f h [] = tt
all_of P f h (x ∷ xs) = (h x, all_of P f h xs)

pub length-unsents : (k n : ℕ) → length (unsents k n) ≡ words k n
unfolding unsents
length-unsents k n = length-map-range_with_len (unsent k n) 0 (words k n)

pub get_or-unsents : (k n i : ℕ) → i < words k n → get_or (unsents k n) i 0 ≡ unsent k n i
unfolding unsents
get_or-unsents k n i l = get_or-map-range_with_len (unsent k n) 0 (words k n) i i 0 l (omega arith)

-- by the count of words
below_at : (k n c : ℕ) → 0 < k → c * k < n + k → n ≤ c * k → AllByRecursion (λ u. u < k) (map (spare c (c * k - n)) (range_with_len 0 c))
below_at k n zero p h g = tt
below_at k n (suc c) p h g = all_of (λ u. u < k) (spare (suc c) (suc c * k - n)) (λ i. omega (arith, spare-le (suc c) (suc c * k - n) i (omega arith))) (range_with_len 0 (suc c))

missing_at : (k n c : ℕ) → n ≤ c * k → missing (map (spare c (c * k - n)) (range_with_len 0 c)) + n ≡ c * k
missing_at k n zero g = omega arith
missing_at k n (suc c) g = omega (arith, missing_spare (suc c) (suc c * k - n) (omega arith))

-- each word has a bit that is sent
pub unsents_below : (k n : ℕ) → 0 < k → AllByRecursion (λ u. u < k) (unsents k n)
unfolding unsents unsent
unsents_below k n p = let r = words_room k n p in below_at k n (words k n) p r.1 r.0

pub unsent_below : (k n i : ℕ) → 0 < k → i < words k n → unsent k n i < k
unsent_below k n i p l =
    omega (arith, get_or-unsents k n i l, All-get_or (λ u. u < k) (unsents k n) i 0 (omega (arith, length-unsents k n)) (unsents_below k n p))

pub carried-unsents : (k n : ℕ) → 0 < k → carried k (unsents k n) ≡ n
unfolding unsents unsent
carried-unsents k n p =
    let r = words_room k n p in
    let a : AllByRecursion (λ u. u ≤ k) (unsents k n) = All-weaker (λ u. u < k) (λ u. u ≤ k) (λ u h. omega arith) (unsents k n) (unsents_below k n p) in
    omega (arith, carried_missing k (unsents k n) a, missing_at k n (words k n) r.0, ap (λ c. c * k) (length-unsents k n))

carried-sum : (k : ℕ) (us : List ℕ) → sum_by (λ u. k - u) us ≡ carried k us
carried-sum k [] = refl
carried-sum k (u ∷ us) = sum_by-cons (λ v. k - v) u us ∙ ap (λ j. (k - u) + j) (carried-sum k us)

pub all_shared : (k n : ℕ) → 1 ≤ k → SharesOut k n
all_shared k n p = record {
  each = length-unsents k n;
  some = unsents_below k n p;
  sum = carried-sum k (unsents k n) ∙ carried-unsents k n p;
}

-- the words that are left from word i on
pub unsents_more : (k n i : ℕ) → i < words k n → drop i (unsents k n) ≡ unsent k n i ∷ drop (i + 1) (unsents k n)
unsents_more k n i l =
    drop_more (unsents k n) i 0 (omega (arith, length-unsents k n)) ∙ ap (λ y. y ∷ drop (i + 1) (unsents k n)) (get_or-unsents k n i l)

-- as the code computes it
pub unsent_is : (k n i c u : ℕ) → c ≡ words k n → u ≡ spare c (c * k - n) i → u ≡ unsent k n i
unfolding unsent
unsent_is k n i c u e f = f ∙ ap (λ j. spare j (j * k - n) i) e
