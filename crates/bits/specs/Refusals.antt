-- The number, layer and place by which a bad call is told.
use Rattle.std.specs.Prelude.{ℕ}
use Rattle.bits.specs.declared.bad_call.BadCall.{BadCall}

abbrev pub number : BadCall → ℕ
number b = 16

-- layer 1 is the call itself
abbrev pub layer : BadCall → ℕ
layer b = 1

abbrev pub place : BadCall → ℕ
place b = 0
