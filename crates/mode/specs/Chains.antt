-- The mode that a code, a count of copies and a mapping make.
use Rattle.std.specs.Prelude.{◌≡◌, ℕ, Ok, Err, Result, ◌≢◌}
use Rattle.bits.specs.declared.bad_call.BadCall.{BadCall}
use Rattle.block_code.specs.Codes.{Code}
use Rattle.mapping.specs.Maps.{Map}
use Rattle.mode.specs.declared.copies.Copies.{Copies}
use Rattle.mode.specs.declared.copies.Copies.TheVariants.{One, Two, Four}
use Rattle.mode.specs.Modes.{Mode}

abbrev pub copy_count : Copies → ℕ
copy_count One = 1
copy_count Two = 2
copy_count Four = 4

-- the copies of which there are so many; no other number has any
abbrev pub Copied : ℕ → Result Copies BadCall → Type 0
Copied n (Ok c) = copy_count c ≡ n
Copied n (Err e) = (c : Copies) → copy_count c ≢ n

abbrev pub chained : Code → Copies → Map → Mode
chained c s f = record { code = c; copies = copy_count s; map = f }
