-- The plain code is lawful, and every string of 51 bits is its own word.
use Rattle.std.specs.Prelude.{◌≡◌, ℕ, ◌≤◌, List, [], ◌++◌, refl}
use Rattle.std.proofs.Common.{ap, sym, ◌∙◌, inl, inr, arith}
use Rattle.std.proofs.lemmas.List.{append-nil}
use Rattle.std.proofs.lemmas.Bool.{cases_lt}
use Rattle.bits.specs.Strings.{Bits}
use Rattle.block_code.specs.Codes.{word, distance, Lawful}
use Rattle.block_code.specs.Plain.{plain}
use Rattle.block_code.specs.Answers.{Corrected}
use Rattle.block_code.specs.Distances.{distance_self, same_from_distance}

pub lawful : Lawful plain
lawful =
    record {
      some = omega arith;
      few = omega arith;
      short = omega arith;
      checks = λ m M. record { size = refl; bits = tt };
      apart = λ m n M N ne.
          elim (cases_lt 0 (distance (word plain m) (word plain n))) [
            | inl h ↦ h
            | inr h ↦ absurd (ne (same_from_distance m n (M.size ∙ sym N.size) (zero m n h)))
          ];
    }
  where
    zero : (m n : List ℕ) → distance (word plain m) (word plain n) ≤ 0 → distance m n ≡ 0
    zero m n h =
        let a : m ++ [] ≡ m = append-nil m in
        let b : n ++ [] ≡ n = append-nil n in
        let e : distance (m ++ []) (n ++ []) ≡ distance m n = cc in
        omega arith

pub corrected : (xs : List ℕ) → Bits 51 xs → Corrected plain xs xs 0
corrected xs X =
    record {
      message = xs;
      valid = X;
      is = sym (append-nil xs);
      count = ap (λ w. distance w xs) (append-nil xs) ∙ distance_self xs;
      within = omega arith;
    }
