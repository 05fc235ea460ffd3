-- Writing the words of a part, copies of their bits, and the symbols of these, one after the other.
use Rattle.std.proofs.Common.{◌≡◌, ℕ, suc, ◌+◌, ◌-◌, ◌*◌, ◌<◌, ◌≤◌, List, [], ◌∷◌, ◌++◌, length, get_or, take, drop, set, replicate, sym, refl, ap, ◌∙◌, arith}
use borrow.Rule.Slice.PartMut.{put_mid}
use Rattle.std.specs.List.{AllByRecursion}
use Rattle.std.proofs.lemmas.List.{append-nil, append_assoc, drop_all, take_at, length-append, length-drop, drop-drop, take_all, length-take, take_more, take_more_set, length-set}
use Rattle.std.proofs.ByRecursion.{All-drop}
use Rattle.std.proofs.lemmas.Slice.{take-put_mid}
use Rattle.bits.specs.Strings.{Bits}
use Rattle.block_code.specs.Codes.{Code, word, shortened}
use Rattle.mapping.specs.Maps.{Map}
use Rattle.mapping.specs.Maps as maps
use Rattle.mode.specs.Shares.{words, unsent, unsents}
use Rattle.mode.specs.Copying.{spread}
use Rattle.mode.specs.Modes.{coded, stepped}
use Rattle.mode.specs.Parts.{sized}
use Rattle.mode.proofs.Splits.{carried, carried-unsents, length-unsents, unsents_below, unsents_more}
use Rattle.mode.proofs.Strings.{part_bits, row_there}
use Rattle.mode.proofs.Spoils.{spread-append}
use Rattle.mode.proofs.Whole.{sized-carried}

-- a write to the rest of a list
put_end : (a k : ℕ) (xs ys : List ℕ) → length xs ≤ a + k → put_mid a k xs ys ≡ take a xs ++ ys
put_end a k xs ys l =
    ap (λ zs. take a xs ++ (ys ++ zs)) (drop_all k (drop a xs) (simp length-drop (omega arith))) ∙ ap (λ zs. take a xs ++ zs) (append-nil ys)

pub put_two : (a : ℕ) (ms os ps : List ℕ) → length ms ≡ a → put_mid a (length (ms ++ os) - a) (ms ++ os) ps ≡ ms ++ ps
put_two a ms os ps e = put_end a (length (ms ++ os) - a) (ms ++ os) ps (omega arith) ∙ ap (λ zs. zs ++ ps) (take_at ms os a e)

-- where the loop has written i words: what is written, and what the words that are left have
pub record Coding (c : Code) (xs os : List ℕ) (i from at : ℕ) : Type 0 where
  pub put : take at os ++ coded c (drop i (unsents c.k (length xs))) (drop from xs) ≡ coded c (unsents c.k (length xs)) xs
  pub read : from + carried c.k (drop i (unsents c.k (length xs))) ≡ length xs
  pub room : at + sized c (drop i (unsents c.k (length xs))) ≡ length os

pub coding_none : (c : Code) (xs os : List ℕ) → 0 < c.k → length os ≡ length xs + words c.k (length xs) * c.p → Coding c xs os 0 0 0
coding_none c xs os p e =
    let f = carried-unsents c.k (length xs) p in
    let g = length-unsents c.k (length xs) in
    record { put = refl; read = omega arith; room = omega (arith, sized-carried c (unsents c.k (length xs)), ap (λ n. n * c.p) g) }

-- word i: its unsent bits are fewer than k, and its bits and its place are there
pub record Turn (c : Code) (xs os : List ℕ) (i from at m u : ℕ) : Type 0 where
  pub next : drop i (unsents c.k (length xs)) ≡ u ∷ drop (i + 1) (unsents c.k (length xs))
  pub below : u < c.k
  pub bits : m ≡ c.k - u
  pub reads : from + m ≤ length xs
  pub fits : at + (m + c.p) ≤ length os

pub turn : (c : Code) (xs os : List ℕ) (i from at j k m u : ℕ) → 0 < c.k → Coding c xs os i from at → k ≡ c.k → j ≡ words k (length xs) → i < j
    → m ≡ k - unsent k (length xs) i → u ≡ unsent k (length xs) i → Turn c xs os i from at m u
turn c xs os i from at j k m u p h e w l x y =
    let n = length xs in
    let a : i < words c.k n = rw (w, e) at l in
    let f : u ≡ unsent c.k n i = rw e at y in
    let g : drop i (unsents c.k n) ≡ u ∷ drop (i + 1) (unsents c.k n) = rw f (unsents_more c.k n i a) in
    let b = All-drop (λ z. z < c.k) i (unsents c.k n) (unsents_below c.k n p) in
    let d : AllByRecursion (λ z. z < c.k) (u ∷ drop (i + 1) (unsents c.k n)) = rw g at b in
    let z : m ≡ c.k - u = omega (arith, x, y, e) in
    record {
      next = g;
      below = d.0;
      bits = z;
      reads = omega (arith, h.read, ap (carried c.k) g);
      fits = omega (arith, h.room, ap (sized c) g);
    }

pub coding_more : (c : Code) (xs os ws : List ℕ) (i from at m u y : ℕ) → Coding c xs os i from at → Turn c xs os i from at m u
    → y ≡ m + c.p → length ws ≡ y → ws ≡ word (shortened c u) (take (from + m - from) (drop from xs))
    → Coding c xs (put_mid at (at + y - at) os ws) (i + 1) (from + m) (at + y)
coding_more c xs os ws i from at m u y h t b l e =
    let n = length xs in
    let us = drop (i + 1) (unsents c.k n) in
    let a = t.bits in
    let q : from + m - from ≡ c.k - u = omega arith in
    let v : ws ≡ word (shortened c u) (take (c.k - u) (drop from xs)) = rw q at e in
    let f : at + y ≤ length os = omega (arith, t.fits) in
    let g : take (at + y) (put_mid at (at + y - at) os ws) ≡ take at os ++ ws = take-put_mid at (at + y - at) os ws (at + y) (omega arith) (omega arith) in
    let x = t.next in
    let d : drop (c.k - u) (drop from xs) ≡ drop (from + m) xs = drop-drop (c.k - u) from xs ∙ ap (λ j. drop (from + j) xs) (sym a) in
    let more = coded c us (drop (from + m) xs) in
    let z : ws ++ more ≡ coded c (drop i (unsents c.k n)) (drop from xs) =
    ap (λ vs. vs ++ more) v ∙ ap (λ vs. word (shortened c u) (take (c.k - u) (drop from xs)) ++ coded c us vs) (sym d) ∙ ap (λ vs. coded c vs (drop from xs)) (sym x) in
    record {
      put = ap (λ vs. vs ++ more) g ∙ append_assoc (take at os) ws more ∙ ap (λ vs. take at os ++ vs) z ∙ h.put;
      read = omega (arith, h.read, ap (carried c.k) x, t.below);
      room = simp (length-append, length-take, length-drop) (omega (arith, h.room, ap (sized c) x));
    }

pub coding_all : (c : Code) (xs os : List ℕ) (i from at j k : ℕ) → Coding c xs os i from at → k ≡ c.k → j ≡ words k (length xs) → j ≤ i → os ≡ coded c (unsents c.k (length xs)) xs
coding_all c xs os i from at j k h e w l =
    let f : j ≡ words c.k (length xs) = rw e at w in
    let z : drop i (unsents c.k (length xs)) ≡ [] = drop_all i (unsents c.k (length xs)) (omega (arith, length-unsents c.k (length xs))) in
    sym (take_all at os (omega (arith, h.room, ap (sized c) z))) ∙ sym (append-nil (take at os)) ∙ ap (λ us. take at os ++ coded c us (drop from xs)) (sym z) ∙ h.put

-- where the loop has copied i bits
pub spread_more : (s : ℕ) (bs os ys : List ℕ) (i : ℕ) → i < length bs → s * i + s ≤ length os → take (s * i) os ≡ spread s (take i bs) → length ys ≡ s * i + s - s * i → ys ≡ replicate (length ys) (get_or bs i 0)
    → take (s * (i + 1)) (put_mid (s * i) (s * i + s - s * i) os ys) ≡ spread s (take (i + 1) bs)
spread_more s bs os ys i l r h k f =
    let a = s * i in
    let n : length ys ≡ s = omega arith in
    let e : s * (i + 1) ≡ a + s = omega arith in
    let g : ys ≡ replicate s (get_or bs i 0) ++ [] = f ∙ ap (λ j. replicate j (get_or bs i 0)) n ∙ sym (append-nil (replicate s (get_or bs i 0))) in
    ap (λ j. take j (put_mid a (a + s - a) os ys)) e ∙ take-put_mid a (a + s - a) os ys (a + s) (omega arith) (omega arith) ∙ ap (λ zs. zs ++ ys) h ∙ ap (λ zs. spread s (take i bs) ++ zs) g
    ∙ sym (spread-append s (take i bs) (get_or bs i 0 ∷ [])) ∙ ap (spread s) (sym (take_more bs i 0 l))

-- where the loop has written i symbols, the last of which is p: what is written, and what is left to step through
pub record Going (f : Map) (q : ℕ) (os bs : List ℕ) (i p a : ℕ) : Type 0 where
  pub put : take i os ++ stepped f (length os - i) p (drop a bs) ≡ stepped f (length os) q bs
  pub at : a ≡ i * f.w
  pub known : p < f.q

pub going_none : (f : Map) (q : ℕ) (os bs : List ℕ) → q < f.q → Going f q os bs 0 q 0
going_none f q os bs l = record { put = ap (λ j. stepped f j q bs) (omega arith); at = omega arith; known = l }

module _ (f : Map) (L : maps.Lawful f) (q : ℕ) (os bs : List ℕ) (i p a : ℕ) (h : Going f q os bs i p a) (b : Bits (length os * f.w) bs) where
  pub going_bits : (v : ℕ) → i < length os → v ≡ f.w → Bits f.w (take (a + v - a) (drop a bs))
  going_bits v l e = part_bits a v f.w bs (omega (arith, row_there f.w (length os) i (length bs) (b.size ∙ omega arith) l, h.at)) e b.bits

  pub going_more : (v r : ℕ) → i < length os → v ≡ f.w → r ≡ f.next p (take (a + v - a) (drop a bs)) → Going f q (set os i r) bs (i + 1) r (a + v)
  going_more v r l e x =
      let m : a + v - a ≡ f.w = omega arith in
      let y : r ≡ f.next p (take f.w (drop a bs)) = x ∙ ap (λ n. f.next p (take n (drop a bs))) m in
      let n : length os - i ≡ suc (length os - (i + 1)) = omega arith in
      let z : take (i + 1) (set os i r) ++ stepped f (length (set os i r) - (i + 1)) r (drop (a + f.w) bs) ≡ take i os ++ stepped f (length os - i) p (drop a bs) =
      rw (take_more_set os i r l, length-set, n, drop-drop, ← y) (append_assoc (take i os) (r ∷ []) (stepped f (length os - (i + 1)) r (drop (a + f.w) bs))) in
      record {
        put = rw e (z ∙ h.put ∙ ap (λ j. stepped f j q bs) (sym (length-set os i r)));
        at = omega (arith, h.at);
        known = rw x (L.below p (take (a + v - a) (drop a bs)) h.known (going_bits v l e));
      }

pub going_all : (f : Map) (q : ℕ) (os bs : List ℕ) (n i p a : ℕ) → length os ≡ n → n ≤ i → Going f q os bs i p a → os ≡ stepped f n q bs
going_all f q os bs n i p a e l h =
    let z : length os - i ≡ 0 = omega arith in
    sym (append-nil os) ∙ ap (λ ys. ys ++ []) (sym (take_all i os (omega arith))) ∙ ap (λ j. take i os ++ stepped f j p (drop a bs)) (sym z) ∙ h.put ∙ ap (λ j. stepped f j q bs) e
