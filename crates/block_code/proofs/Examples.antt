-- The worked examples, computed from the rules.
use Rattle.std.proofs.Common.{refl}
use Rattle.block_code.specs.Bch.{parity, divided}
use Rattle.block_code.specs.Examples.{Examples}

pub examples : Examples
unfolding parity divided
examples = record { last_bit = refl; header = refl }
