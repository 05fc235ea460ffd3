-- The four calls of a post, as relations of what goes in and what comes out.
use Rattle.std.specs.Prelude.{◌≡◌, ℕ, ◌+◌, ◌-◌, ◌*◌, ◌<◌, ◌≤◌, List, ◌++◌, length, drop, Some, Ok, Err, Result, ◌≢◌}
use Rattle.frame.specs.Headers.{Fields, Read}
use Rattle.frame.specs.Headers as forms
use Rattle.mode.specs.Modes.{Mode}
use Rattle.mode.specs.Parts as parts
use Rattle.mode.specs.Answers.{Faulty}
use Rattle.delivery.specs.declared.delivered.Delivered.{Delivered}
use Rattle.delivery.specs.declared.fault.Fault.{Fault}
use Rattle.delivery.specs.declared.fault.Fault.TheVariants.{Band, Channel, Burst, Rate, Psdu, Buffer, Output, List as Short, Header, Payload}
use Rattle.delivery.specs.declared.fault.HeaderFault.{HeaderFault}
use Rattle.delivery.specs.declared.fault.HeaderFault.TheVariants.{Part as HeaderPart, Form}
use Rattle.delivery.specs.declared.fault.PayloadFault.{PayloadFault}
use Rattle.delivery.specs.declared.fault.PayloadFault.TheVariants.{Length, Part as PayloadPart}
use Rattle.delivery.specs.Plans.{Plan, legal}
use Rattle.delivery.specs.Frames.{Frame, Legal, Reach, header_count, needed, symbols}

-- A post: the channel that it is tuned to, and the seed of its next frame.
pub record State : Type 0 where
  pub channel : ℕ
  pub seed : ℕ

-- ---- opening and retuning

abbrev pub Opens : Plan → ℕ → Result State Fault → Type 0
Opens P channel (Ok s) = (channel ≤ P.last) × (s ≡ record { channel = channel; seed = 0 })
Opens P channel (Err f) = (P.last < channel) × (f ≡ Channel)

-- the channel alone changes
abbrev pub Retunes : Plan → State → ℕ → State → Result (Unit {0}) Fault → Type 0
Retunes P s channel after (Ok u) = (channel ≤ P.last) × (after ≡ record { channel = channel; seed = s.seed })
Retunes P s channel after (Err f) = (P.last < channel) × (f ≡ Channel) × (after ≡ s)

-- ---- sending

-- what a post is asked to send
pub record Request : Type 0 where
  pub rate : ℕ
  pub burst : ℕ
  pub psdu : List ℕ

-- the frame that a post makes of a request
abbrev pub framed : State → Request → Frame
framed s q = record { rate = q.rate; burst = q.burst; seed = s.seed; psdu = q.psdu }

-- the plan has a mode for the rate, which is at most 3
abbrev pub Usable : Plan → ℕ → Type 0
Usable P r = (r ≤ 3) × ((m : Mode) × (P.rate r ≡ Some m))

abbrev pub Sized : List ℕ → Type 0
Sized psdu = (9 ≤ length psdu) × (length psdu ≤ 264)

-- why a request is refused: the first reason in the order burst mark, rate, PSDU, buffer
abbrev pub NotSent : Plan → State → Request → List ℕ → Fault → Type 0
NotSent P s q before Burst = 1 < q.burst
NotSent P s q before Rate = (q.burst ≤ 1) × (Usable P q.rate → ⊥)
NotSent P s q before Psdu = (q.burst ≤ 1) × Usable P q.rate × (Sized q.psdu → ⊥)
NotSent P s q before (Buffer n) =
    (q.burst ≤ 1) × Usable P q.rate × Sized q.psdu × (length before < n)
    × (n ≡ length (symbols P s.channel (framed s q)))
NotSent P s q before Band = ⊥
NotSent P s q before Channel = ⊥
NotSent P s q before Output = ⊥
NotSent P s q before (Short n) = ⊥
NotSent P s q before (Header f) = ⊥
NotSent P s q before (Payload f) = ⊥

-- Sending: the frame's symbols stand at the front of the buffer, the rest of it stays, the answer is their count, and the
-- seed flips. Where it is refused, all stays.
abbrev pub Sends : Plan → State → Request → List ℕ → State → List ℕ → Result ℕ Fault → Type 0
Sends P s q before t after (Ok n) =
    (q.burst ≤ 1) × Usable P q.rate × Sized q.psdu × (n ≤ length before)
    × (n ≡ length (symbols P s.channel (framed s q)))
    × (after ≡ symbols P s.channel (framed s q) ++ drop n before)
    × (t ≡ record { channel = s.channel; seed = 1 - s.seed })
Sends P s q before t after (Err f) = NotSent P s q before f × (t ≡ s) × (after ≡ before)

-- ---- hearing

-- the bits that the header of a list is within reach of
pub record Headed (P : Plan) (list bits : List ℕ) : Type 0 where
  pub long : 1 + header_count P ≤ length list
  pub spoilt : ℕ
  pub reach : parts.Reach P.header list 0 (forms.count P.form) bits spoilt

-- what is at fault in a header: its symbols or words, or what its bits say
abbrev pub HeaderFaulty : Plan → List ℕ → HeaderFault → Type 0
HeaderFaulty P list (HeaderPart f) = (1 + header_count P ≤ length list) × Faulty P.header list 0 (forms.count P.form) f
HeaderFaulty P list (Form f) = (bits : List ℕ) × Headed P list bits × Read P.form (legal P) bits (Err f)

-- the header of a list says these fields, and the plan has this mode for their rate
pub record Said (P : Plan) (list : List ℕ) (x : Fields) (m : Mode) : Type 0 where
  pub bits : List ℕ
  pub headed : Headed P list bits
  pub read : Read P.form (legal P) bits (Ok x)
  pub carried : P.rate x.rate ≡ Some m

-- what is at fault in a payload: the list has not the frame's length, or its symbols or words
abbrev pub PayloadFaulty : Plan → List ℕ → PayloadFault → Type 0
PayloadFaulty P list (Length n) =
    (x : Fields) × (m : Mode) × Said P list x m × (length list ≢ n) × (n ≡ needed P m x.bytes)
PayloadFaulty P list (PayloadPart f) =
    (x : Fields) × (m : Mode) × Said P list x m × (length list ≡ needed P m x.bytes)
    × Faulty m list (header_count P) (8 * x.bytes) f

-- why a list is not delivered into an output
abbrev pub NotHeard : Plan → List ℕ → List ℕ → Fault → Type 0
NotHeard P list out Output = length out < 264
NotHeard P list out (Short n) = (264 ≤ length out) × (length list < 1 + header_count P) × (n ≡ length list)
NotHeard P list out (Header f) = (264 ≤ length out) × HeaderFaulty P list f
NotHeard P list out (Payload f) = (264 ≤ length out) × PayloadFaulty P list f
NotHeard P list out Band = ⊥
NotHeard P list out Channel = ⊥
NotHeard P list out Burst = ⊥
NotHeard P list out Rate = ⊥
NotHeard P list out Psdu = ⊥
NotHeard P list out (Buffer n) = ⊥

-- the frame that is delivered
abbrev pub frame_of : Delivered → List ℕ → Frame
frame_of d psdu = record { rate = d.rate; burst = d.burst; seed = d.seed; psdu = psdu }

-- Hearing: a delivery is a legal frame that has the list within reach, with its true count of spoilt bits; its PSDU stands
-- at the front of the output, and the rest stays. Where it is refused, the output stays.
pub record Delivers (P : Plan) (list before after : List ℕ) (d : Delivered) : Type 0 where
  pub room : 264 ≤ length before
  pub psdu : List ℕ
  pub bytes : d.bytes ≡ length psdu
  pub legal_frame : Legal P (frame_of d psdu)
  pub reach : Reach P (frame_of d psdu) list d.spoilt
  pub put : after ≡ psdu ++ drop (length psdu) before

abbrev pub Hears : Plan → List ℕ → List ℕ → List ℕ → Result Delivered Fault → Type 0
Hears P list before after (Ok d) = Delivers P list before after d
Hears P list before after (Err f) = NotHeard P list before f × (after ≡ before)
