-- The narrowband header: what is written is read again, and what is read was written.
use Rattle.std.specs.Prelude.{◌≡◌, ℕ, ◌+◌, ◌-◌, ◌*◌, ◌<◌, ◌≤◌, Bool, List, [], ◌∷◌, ◌++◌, map, length, take, drop, Ok, Err, Result, slice_index, slice_index_or, slice_set, refl}
use Rattle.std.proofs.Common.{sym, ap, subst, ◌∙◌, arith}
use borrow.Rule.Slice.PartMut.{put_mid, post_of}
use Rattle.std.specs.List.{range_with_len}
use Rattle.std.proofs.lemmas.List.{append-nil, length-drop, take_at, drop_at, drop_all, take-append-drop}
use Rattle.std.proofs.lemmas.List.FromFn.{fill_by_all}
use Rattle.bits.specs.Strings.{Bits}
use Rattle.frame.specs.declared.header.Header.{Header}
use Rattle.frame.specs.declared.fault.FormFault.{FormFault}
use Rattle.frame.specs.declared.fault.FormFault.TheVariants.{Rate}
use Rattle.frame.specs.declared.fault.ReadHeaderFault.{ReadHeaderFault}
use Rattle.frame.specs.declared.fault.ReadHeaderFault.TheVariants.{Form as Faulty}
use Rattle.frame.specs.Numbers.{low_bits, number_of}
use Rattle.frame.specs.Headers.{Fields, header, InRange, Checked, Clear, Carried, Read, Lawful}
use Rattle.frame.specs.Answers.{fields_of, Reads}
use Rattle.frame.specs.Narrowband.{register, hcs, said, fields, narrowband}
use Rattle.frame.specs.Numbering.{cons_bits, append_bits, take_bits, drop_bits, low_bits_bits, number_low, number_below, low_number}
use Rattle.frame.specs.Reading.{bit_at}

pub hcs_bits : (body : List ℕ) → Bits 4 (hcs body)
unfolding hcs
hcs_bits body =
    let b = (low_bits_bits 4 (15 - register body)).bits in
    record { size = refl; bits = (b.1.1.1.0, (b.1.1.0, (b.1.0, (b.0, tt)))) }

said_bits : (x : Fields) → x.burst ≤ 1 → x.seed < 2 → Bits 15 (said x)
unfolding said
said_bits x a b =
    append_bits 3 12 (low_bits 3 x.rate) _ (low_bits_bits 3 x.rate)
    (cons_bits 11 0 _ (omega arith)
    (append_bits 8 3 (low_bits 8 (x.bytes - 9)) _ (low_bits_bits 8 (x.bytes - 9))
    (record { size = refl; bits = (omega arith, (omega arith, (omega arith, tt))) })))

-- the parts of 19 bits
parts : (b : List ℕ) → length b ≡ 19 → take 15 b ≡ take 3 b ++ slice_index b 3 ∷ take 8 (drop 4 b) ++ slice_index b 12 ∷ slice_index b 13 ∷ slice_index b 14 ∷ []
parts b l =
    subst (λ us. take 15 us ≡ take 3 us ++ slice_index us 3 ∷ take 8 (drop 4 us) ++ slice_index us 12 ∷ slice_index us 13 ∷ slice_index us 14 ∷ [])
    (sym (fill_by_all (λ i. slice_index b i) b 19 0 l (λ k h. refl))) refl

sized : (x : Fields) → InRange narrowband x → Bits 19 (header narrowband x)
sized x r = append_bits 15 4 (said x) (hcs (said x)) (said_bits x r.burst r.seed) (hcs_bits (said x))

read_back : (legal : List Bool) (x : Fields) → InRange narrowband x → Carried legal x.rate → Read narrowband legal (header narrowband x) (Ok x)
unfolding said fields
read_back legal x r c =
    let t : take 15 (header narrowband x) ≡ said x = take_at (said x) (hcs (said x)) 15 refl in
    let d : drop 15 (header narrowband x) ≡ hcs (said x) = drop_at (said x) (hcs (said x)) 15 refl in
    let u : number_of (low_bits 3 x.rate) ≡ x.rate = number_low 3 x.rate (omega (arith, r.rate)) in
    let n : number_of (low_bits 8 (x.bytes - 9)) ≡ x.bytes - 9 = number_low 8 (x.bytes - 9) (omega (arith, r.high)) in
    let k : 9 + number_of (low_bits 8 (x.bytes - 9)) ≡ x.bytes = omega (arith, r.low) in
    let e : x ≡ fields (header narrowband x) = λ i. record { rate = sym u i; bytes = sym k i; burst = x.burst; seed = x.seed } in
    (d ∙ ap hcs (sym t), (refl, (refl, tt)), rw u c, e)

module _ (legal : List Bool) (b : List ℕ) (valid : Bits 19 b) where
  rate_bits : Bits 3 (take 3 b)
  rate_bits = take_bits 3 16 b valid

  length_bits : Bits 8 (take 8 (drop 4 b))
  length_bits = take_bits 8 7 (drop 4 b) (drop_bits 4 15 b valid)

  in_range : Carried legal (fields b).rate → InRange narrowband (fields b)
  unfolding fields
  in_range c =
      let m = number_below 8 (take 8 (drop 4 b)) length_bits in
      let s = bit_at b 13 valid.bits in
      record { rate = c.0; low = omega arith; high = omega arith; burst = omega arith; seed = bit_at b 14 valid.bits }

  said_again : slice_index_or b 3 0 ≡ 0 → slice_index b 12 ≡ 0 → said (fields b) ≡ take 15 b
  unfolding said fields
  said_again three twelve =
      let k : 9 + number_of (take 8 (drop 4 b)) - 9 ≡ number_of (take 8 (drop 4 b)) = omega arith in
      let n : low_bits 8 (9 + number_of (take 8 (drop 4 b)) - 9) ≡ take 8 (drop 4 b) = ap (low_bits 8) k ∙ low_number 8 (take 8 (drop 4 b)) length_bits in
      let r : low_bits 3 (number_of (take 3 b)) ≡ take 3 b = low_number 3 (take 3 b) rate_bits in
      let whole : (us vs : List ℕ) (i j : ℕ) → List ℕ = λ us vs i j. us ++ i ∷ vs ++ j ∷ slice_index b 13 ∷ slice_index b 14 ∷ [] in
      ap (λ us. whole us (low_bits 8 (9 + number_of (take 8 (drop 4 b)) - 9)) 0 0) r
      ∙ ap (λ vs. whole (take 3 b) vs 0 0) n
      ∙ ap (λ i. whole (take 3 b) (take 8 (drop 4 b)) i 0) (sym three)
      ∙ ap (λ j. whole (take 3 b) (take 8 (drop 4 b)) (slice_index b 3) j) (sym twelve)
      ∙ sym (parts b valid.size)

  written_back : (x : Fields) → Read narrowband legal b (Ok x) → InRange narrowband x × (header narrowband x ≡ b)
  written_back x h =
      let s = said_again h.1.0 h.1.1.0 in
      let e : header narrowband (fields b) ≡ b = ap (λ us. us ++ hcs us) s ∙ ap (λ us. take 15 b ++ us) (sym h.0) ∙ take-append-drop 15 b in
      (rw h.3 (in_range h.2), rw h.3 e)

pub narrowband_lawful : Lawful narrowband
narrowband_lawful = record { sized = sized; read_back = read_back; written_back = λ legal b x v h. written_back legal b v x h }

-- ---- the code's writes, one after another

module _ (was us vs : List ℕ) (x : Fields) where
  abbrev pub placed : List ℕ
  placed = slice_set (slice_set (slice_set (put_mid 4 8 (slice_set (us ++ post_of 0 3 was) 3 0) vs) 12 0) 13 x.burst) 14 x.seed

abbrev Placed : Fields → List ℕ → Type 0
Placed x was =
    (us vs : List ℕ) → us ≡ low_bits (length (take 3 was)) x.rate
    → vs ≡ low_bits (length (take 8 (drop 4 (slice_set (us ++ post_of 0 3 was) 3 0)))) (x.bytes - 9)
    → placed was us vs x ≡ said x ++ drop 15 was

placed_any : (x : Fields) (g : ℕ → ℕ) → Placed x (map g (range_with_len 0 19))
unfolding said
placed_any x g us vs e =
    let was = map g (range_with_len 0 19) in
    subst
    (λ ws. vs ≡ low_bits (length (take 8 (drop 4 (slice_set (ws ++ post_of 0 3 was) 3 0)))) (x.bytes - 9) → placed was ws vs x ≡ said x ++ drop 15 was)
    (sym e) (λ f. ap (λ ws. placed was (low_bits 3 x.rate) ws x) f)

placed_is : (was : List ℕ) (x : Fields) → length was ≡ 19 → Placed x was
placed_is was x l = subst (Placed x) (sym (fill_by_all (λ i. slice_index was i) was 19 0 l (λ k h. refl))) (placed_any x (λ i. slice_index was i))

module _ (was us vs : List ℕ) (x : Fields) (long : length was ≡ 19) (first : us ≡ low_bits (length (take 3 was)) x.rate)
    (second : vs ≡ low_bits (length (take 8 (drop 4 (slice_set (us ++ post_of 0 3 was) 3 0)))) (x.bytes - 9)) where
  whole : placed was us vs x ≡ said x ++ drop 15 was
  whole = placed_is was x long us vs first second

  body : InRange narrowband x → take 15 (placed was us vs x) ≡ said x
  body r = ap (take 15) whole ∙ take_at (said x) (drop 15 was) 15 (said_bits x r.burst r.seed).size

  pub header-written : (check last : List ℕ) → InRange narrowband x → check ≡ hcs (take 15 (placed was us vs x)) → last ≡ check
      → put_mid 15 4 (placed was us vs x) last ≡ header narrowband x
  header-written check last r e f =
      let tail : drop 4 (drop 15 (placed was us vs x)) ≡ [] =
      ap (λ ps. drop 4 (drop 15 ps)) whole ∙ ap (drop 4) (drop_at (said x) (drop 15 was) 15 (said_bits x r.burst r.seed).size)
      ∙ drop_all 4 (drop 15 was) (simp length-drop (omega arith)) in
      ap (λ ts. take 15 (placed was us vs x) ++ (last ++ ts)) tail
      ∙ ap (λ ts. take 15 (placed was us vs x) ++ ts) (append-nil last ∙ f ∙ e)
      ∙ ap (λ ts. ts ++ hcs ts) (body r)

-- ---- what the code reads

-- the rate, and the bits after it
abbrev pub rated : List ℕ → ℕ
rated bits = slice_index bits 0 + 2 * slice_index bits 1 + 4 * slice_index bits 2

abbrev pub rest_of : List ℕ → List ℕ
rest_of bits = take (length bits - 3) (drop 3 bits)

rated_is : (bits : List ℕ) → length bits ≡ 19 → rated bits ≡ (fields bits).rate
unfolding fields
rated_is bits l =
    subst (λ us. rated us ≡ number_of (take 3 us)) (sym (fill_by_all (λ i. slice_index bits i) bits 19 0 l (λ k h. refl))) (omega arith)

read_is : (bits : List ℕ) (n : ℕ) → length bits ≡ 19 → n ≡ number_of (take 8 (drop 1 (rest_of bits)))
    → ◌≡◌ {A = Fields} (record { rate = rated bits; bytes = 9 + n; burst = slice_index (rest_of bits) 10; seed = slice_index (rest_of bits) 11 }) (fields bits)
unfolding fields
read_is bits n l e =
    let same : (P : List ℕ → Type 0) → P (map (λ i. slice_index bits i) (range_with_len 0 19)) → P bits =
    λ P h. subst P (sym (fill_by_all (λ i. slice_index bits i) bits 19 0 l (λ k h. refl))) h in
    let r = rated_is bits l in
    let b : number_of (take 8 (drop 1 (rest_of bits))) ≡ number_of (take 8 (drop 4 bits)) =
    same (λ us. number_of (take 8 (drop 1 (rest_of us))) ≡ number_of (take 8 (drop 4 us))) refl in
    let u : slice_index_or (rest_of bits) 10 0 ≡ slice_index_or bits 13 0 = same (λ us. slice_index (rest_of us) 10 ≡ slice_index us 13) refl in
    let s : slice_index_or (rest_of bits) 11 0 ≡ slice_index_or bits 14 0 = same (λ us. slice_index (rest_of us) 11 ≡ slice_index us 14) refl in
    λ i. record { rate = r i; bytes = 9 + (e ∙ b) i; burst = u i; seed = s i }

module _ (legal : List Bool) (bits : List ℕ) (valid : Bits 19 bits) (checked : Checked narrowband bits) (clear : Clear narrowband bits) where
  pub fields_read : (h : Header) → Carried legal (rated bits) → (n : ℕ) → n ≡ number_of (take 8 (drop 1 (rest_of bits)))
      → h ≡ record { rate = rated bits; bytes = 9 + n; burst = slice_index (rest_of bits) 10; seed = slice_index (rest_of bits) 11 }
      → Reads narrowband legal bits (Ok h)
  fields_read h c n e f =
      (valid, (checked, clear, subst (Carried legal) (rated_is bits valid.size) c, ap fields_of f ∙ read_is bits n valid.size e))

  pub rate_refused : (r : Result Header ReadHeaderFault) (e : FormFault) → (Carried legal (rated bits) → ⊥)
      → e ≡ Rate (rated bits) → r ≡ Err (Faulty e) → Reads narrowband legal bits r
  rate_refused r e n f g =
      subst (Reads narrowband legal bits) (sym (g ∙ ap (λ d. Err (Faulty d)) f)) (valid, (checked, clear, n, rated_is bits valid.size))
