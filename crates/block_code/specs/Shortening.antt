-- How many bits of a message a shortened code leaves unsent.
use Rattle.std.specs.Prelude.{ℕ, ◌-◌, min}
use Rattle.block_code.specs.Codes.{Code}

-- as many as it is told, but for at least one message bit that is sent
abbrev pub unsent_in : Code → ℕ → ℕ
unsent_in c s = min s (c.k - 1)
