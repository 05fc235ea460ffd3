-- Frames, the symbols of a frame, and which heard lists are within reach of it.
use Rattle.std.specs.Prelude.{◌≡◌, ℕ, ◌+◌, ◌*◌, ◌%◌, cond, List, [], ◌∷◌, ◌++◌, length, Some, None, Option, ◌==◌}
use Rattle.std.specs.List.{AllByRecursion}
use Rattle.frame.specs.Numbers.{Byte}
use Rattle.frame.specs.Headers.{Fields, InRange, header}
use Rattle.frame.specs.Headers as forms
use Rattle.frame.specs.Scrambler.{scrambled}
use Rattle.mode.specs.Modes.{Mode, stepped, sent, count}
use Rattle.mode.specs.Parts as parts
use Rattle.delivery.specs.Plans.{Plan}

pub record Frame : Type 0 where
  pub rate : ℕ
  pub burst : ℕ
  pub seed : ℕ
  pub psdu : List ℕ

-- what the header of a frame says
abbrev pub fields : Frame → Fields
fields f = record { rate = f.rate; bytes = length f.psdu; burst = f.burst; seed = f.seed }

-- A legal frame of a plan: the plan has a mode for its rate; rate, burst mark, seed and count of bytes are in range, and
-- the PSDU is bytes.
pub record Legal (P : Plan) (f : Frame) : Type 0 where
  pub mode : Mode
  pub carried : P.rate f.rate ≡ Some mode
  pub ranges : InRange P.form (fields f)
  pub bytes : AllByRecursion Byte f.psdu

-- ---- its symbols

-- the last symbol of a list, or p of an empty one
abbrev pub last_of : ℕ → List ℕ → ℕ
last_of p [] = p
last_of p (s ∷ ss) = last_of s ss

-- how many symbols a header takes
unfoldable pub header_count : Plan → ℕ
header_count P = count P.header (forms.count P.form)

-- the preamble of a channel, one symbol a bit, through the header's mapping
unfoldable pub preamble : Plan → ℕ → List ℕ
preamble P channel = stepped P.header.map 90 P.start (cond (channel % 2 == 0) P.even P.odd)

-- the header's symbols after the symbol p
unfoldable pub header_sent : Plan → ℕ → Frame → List ℕ
header_sent P p f = sent P.header p (header P.form (fields f))

-- the payload's symbols after the symbol p, by the mode of its rate
abbrev pub payload_by : Option Mode → ℕ → Frame → List ℕ
payload_by None p f = []
payload_by (Some m) p f = sent m p (scrambled f.seed f.psdu)

unfoldable pub payload_sent : Plan → ℕ → Frame → List ℕ
payload_sent P p f = payload_by (P.rate f.rate) p f

-- header and payload after the symbol p
unfoldable pub body : Plan → ℕ → Frame → List ℕ
body P p f = header_sent P p f ++ payload_sent P (last_of p (header_sent P p f)) f

-- the symbols of a frame on a channel: each part steps from the symbol before it
unfoldable pub symbols : Plan → ℕ → Frame → List ℕ
symbols P channel f = preamble P channel ++ body P (last_of P.start (preamble P channel)) f

-- how long a heard list has to be whose payload has this mode and so many bytes, from the last preamble symbol on
abbrev pub needed : Plan → Mode → ℕ → ℕ
needed P m bytes = 1 + header_count P + count m (8 * bytes)

-- ---- reach

-- A heard list, from the last preamble symbol on, is within reach of a frame, with k bits of its words spoilt: it is as
-- long as the frame, and header and payload are within reach of the frame's bits, each after the symbol before it.
pub record Reach (P : Plan) (f : Frame) (list : List ℕ) (k : ℕ) : Type 0 where
  pub mode : Mode
  pub carried : P.rate f.rate ≡ Some mode
  pub long : length list ≡ needed P mode (length f.psdu)
  pub in_header : ℕ
  pub in_payload : ℕ
  pub header : parts.Reach P.header list 0 (forms.count P.form) (header P.form (fields f)) in_header
  pub payload : parts.Reach mode list (header_count P) (8 * length f.psdu) (scrambled f.seed f.psdu) in_payload
  pub sum : in_header + in_payload ≡ k
