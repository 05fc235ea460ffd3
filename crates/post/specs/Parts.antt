-- What a post writes and remembers.
use Rattle.std.specs.Prelude.{◌≡◌, ℕ, ◌+◌, ◌*◌, List, length, Some}
use Rattle.frame.specs.declared.header.Header.{Header}
use Rattle.mode.specs.Modes.{Mode, count}
use Rattle.delivery.specs.Plans.{Plan}
use Rattle.delivery.specs.Frames.{Frame, Legal, header_count}
use Rattle.delivery.specs.Calls.{State}
use Rattle.post.specs.declared.post.Post.{Post}

-- the channel and the seed of a post
abbrev pub state_of : {A : Type 0} → Post A → State
state_of p = record { channel = p.channel; seed = p.seed }

-- the frame of a header and a PSDU
abbrev pub frame_of : Header → List ℕ → Frame
frame_of h psdu = record { rate = h.rate; burst = h.burst; seed = h.seed; psdu = psdu }

-- the frame of a header and a PSDU can be written to so many symbols, its payload by this mode
pub record Writable (P : Plan) (m : Mode) (h : Header) (psdu : List ℕ) (size : ℕ) : Type 0 where
  pub legal : Legal P (frame_of h psdu)
  pub carried : P.rate h.rate ≡ Some m
  pub bytes : h.bytes ≡ length psdu
  pub size_is : size ≡ 90 + header_count P + count m (8 * length psdu)
