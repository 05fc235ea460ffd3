-- The plain code: a message without parity.
use Rattle.std.specs.Prelude.{[]}
use Rattle.block_code.specs.Codes.{Code}

abbrev pub plain : Code
plain = record { k = 51; p = 0; t = 0; parity = λ m. [] }
