use Rattle.std.proofs.Common.{◌≡◌, ℕ, [], ◌∷◌, ◌++◌, replicate, refl}
use Rattle.mode.specs.Shares.{words, spare, unsent, unsents}
use Rattle.mode.specs.Orders.{turned, blocked, headed, lead, forth, interleaved}
use Rattle.mode.specs.Modes.{Mode, plain, pad, total, count}
use Rattle.mode.proofs.worked_examples.Goals as goal

two : unsents 51 72 ≡ 15 ∷ 15 ∷ []
unfolding words spare unsent unsents
two = refl

three : unsents 51 104 ≡ 17 ∷ 16 ∷ 16 ∷ []
unfolding words spare unsent unsents
three = refl

most : unsents 51 2112 ≡ replicate 30 1 ++ replicate 12 0
unfolding words spare unsent unsents
most = refl

even : (a b c d : ℕ) → interleaved 2 2 (a ∷ b ∷ c ∷ d ∷ []) ≡ a ∷ c ∷ b ∷ d ∷ []
unfolding turned blocked headed lead forth interleaved
even a b c d = refl

odd : (a b c d e f : ℕ) → interleaved 2 3 (a ∷ b ∷ c ∷ d ∷ e ∷ f ∷ []) ≡ a ∷ c ∷ e ∷ b ∷ d ∷ f ∷ []
unfolding turned blocked headed lead forth interleaved
odd a b c d e f = refl

padded : (m : Mode) → m.code.k ≡ 51 → m.code.p ≡ 12 → m.copies ≡ 1 → m.map.w ≡ 3 → (pad m 80 ≡ 1) × (count m 80 ≡ 35)
unfolding words plain pad total count
padded m k p s w = (rw (k, p, w), rw (k, p, s, w))

pub returns : goal.returns
returns c = (refl, record { two = two; three = three; most = most; even = even; odd = odd; padded = padded })
