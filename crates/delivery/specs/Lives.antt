-- The life of a sending post: its accepted opening, then sends and retunings in any order, refused ones among them.
use Rattle.std.specs.Prelude.{ℕ, List, [], ◌∷◌, ◌++◌, Ok, Err, Result}
use Rattle.std.specs.List.{AllByRecursion}
use Rattle.frame.specs.Numbers.{Byte}
use Rattle.delivery.specs.declared.fault.Fault.{Fault}
use Rattle.delivery.specs.Plans.{Plan}
use Rattle.delivery.specs.Frames.{Frame}
use Rattle.delivery.specs.Calls.{State, Request, framed, Opens, Retunes, Sends}

-- an accepted send: the channel and the frame, the buffer before, the answer and the buffer after
pub record Sending : Type 0 where
  pub channel : ℕ
  pub frame : Frame
  pub before : List ℕ
  pub answer : ℕ
  pub after : List ℕ

-- the post as it is now, and its accepted sends in order
pub data Life (P : Plan) : State → List Sending → Type 0 where
  opened : (channel : ℕ) {s : State} → Opens P channel (Ok s) → Life P s []
  retuned : (channel : ℕ) (s : State) {t : State} {ss : List Sending} (r : Result (Unit {0}) Fault)
      → Life P s ss → Retunes P s channel t r → Life P t ss
  refused : (s : State) {t : State} {ss : List Sending} (q : Request) (before after : List ℕ) (f : Fault)
      → Life P s ss → Sends P s q before t after (Err f) → Life P t ss
  sent : (s : State) {t : State} (ss : List Sending) (q : Request) (before after : List ℕ) (n : ℕ)
      → Life P s ss → AllByRecursion Byte q.psdu → Sends P s q before t after (Ok n)
      → Life P t (ss ++ record { channel = s.channel; frame = framed s q; before = before; answer = n; after = after } ∷ [])
