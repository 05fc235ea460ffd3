-- The whole of a slice, as its own part.
use Rattle.std.specs.Prelude.{◌≡◌, ℕ, ◌-◌, List, ◌++◌, length, take}
use Rattle.std.proofs.Common.{ap, ◌∙◌, arith}
use borrow.Rule.Slice.PartMut.{post_of}
use Rattle.std.proofs.lemmas.List.{append-nil, take_all, drop_all}

pub take_whole : (bs : List ℕ) → take (length bs - 0) bs ≡ bs
take_whole bs = take_all (length bs - 0) bs (omega arith)

pub none_after : (us bs : List ℕ) → us ++ post_of 0 (length bs - 0) bs ≡ us
none_after us bs = ap (λ x. us ++ x) (drop_all (length bs - 0) bs (omega arith)) ∙ append-nil us
