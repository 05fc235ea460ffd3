-- What the calls answer, and what they leave in their buffers.
use Rattle.std.specs.Prelude.{◌≡◌, ℕ, ◌*◌, ◌<◌, Bool, List, length, Ok, Err, Result, ◌≢◌}
use Rattle.std.specs.List.{AllByRecursion}
use Rattle.bits.specs.declared.bad_call.BadCall.{BadCall}
use Rattle.bits.specs.Strings.{Bits}
use Rattle.frame.specs.declared.header.Header.{Header}
use Rattle.frame.specs.declared.fault.ReadHeaderFault.{ReadHeaderFault}
use Rattle.frame.specs.declared.fault.ReadHeaderFault.TheVariants.{Call, Form as Faulty}
use Rattle.frame.specs.Numbers.{Byte}
use Rattle.frame.specs.Headers.{Fields, Form, count, header, InRange, Read}
use Rattle.frame.specs.Scrambler.{scrambled}

-- the fields of a header in the code
abbrev pub fields_of : Header → Fields
fields_of h = record { rate = h.rate; bytes = h.bytes; burst = h.burst; seed = h.seed }

-- Writing: for fields in range and as many places as the form has bits, the places become the header. Any other call
-- is refused and writes nothing.
abbrev pub Writes : Form → Fields → List ℕ → List ℕ → Result (Unit {0}) BadCall → Type 0
Writes f x before after (Ok u) = InRange f x × (length before ≡ count f) × (after ≡ header f x)
Writes f x before after (Err e) = (InRange f x → length before ≢ count f) × (after ≡ before)

-- Reading as many bits as the form has answers what they are read as. Any other call is refused.
abbrev pub Reads : Form → List Bool → List ℕ → Result Header ReadHeaderFault → Type 0
Reads f legal bits (Ok h) = Bits (count f) bits × Read f legal bits (Ok (fields_of h))
Reads f legal bits (Err (Faulty e)) = Bits (count f) bits × Read f legal bits (Err e)
Reads f legal bits (Err (Call e)) = Bits (count f) bits → ⊥

-- Scrambling: with a seed of 0 or 1 and eight places for each byte, the places become the scrambled bits. Any other call
-- is refused and writes nothing.
abbrev pub Scrambles : ℕ → List ℕ → List ℕ → List ℕ → Result (Unit {0}) BadCall → Type 0
Scrambles seed psdu before after (Ok u) =
    (seed < 2) × AllByRecursion Byte psdu × (length before ≡ 8 * length psdu) × (after ≡ scrambled seed psdu)
Scrambles seed psdu before after (Err e) = (seed < 2 → length before ≢ 8 * length psdu) × (after ≡ before)

-- Unscrambling: with a seed of 0 or 1 and eight bits for each place, the places become the bytes of which these are the
-- scrambled bits. Any other call is refused and writes nothing.
abbrev pub Unscrambles : ℕ → List ℕ → List ℕ → List ℕ → Result (Unit {0}) BadCall → Type 0
Unscrambles seed bits before after (Ok u) =
    (seed < 2) × Bits (8 * length before) bits × (length after ≡ length before) × AllByRecursion Byte after × (scrambled seed after ≡ bits)
Unscrambles seed bits before after (Err e) = (seed < 2 → Bits (8 * length before) bits → ⊥) × (after ≡ before)
