-- The delivery theorem.
use Rattle.std.specs.Prelude.{◌≡◌, ℕ, ◌%◌, ◌≤◌, ◌↔◌, List, [], ◌∷◌, ◌++◌, map, length, take, drop, Some, None, Ok, Err, Option, Result}
use Rattle.std.specs.List.{range_with_len, AllByRecursion}
use Rattle.delivery.specs.declared.delivered.Delivered.{Delivered}
use Rattle.delivery.specs.declared.fault.Fault.{Fault}
use Rattle.delivery.specs.Plans.{Plan, Lawful}
use Rattle.delivery.specs.Frames.{Frame, Legal, Reach, symbols}
use Rattle.delivery.specs.Calls.{State, Hears, frame_of}
use Rattle.delivery.specs.Lives.{Sending, Life}

-- ---- what is sent and what is heard of it

-- an accepted send wrote the symbols of a legal frame to the front of its buffer, answered their count and left the rest
pub record Written (P : Plan) (s : Sending) : Type 0 where
  pub legal_frame : Legal P s.frame
  pub room : s.answer ≤ length s.before
  pub count : s.answer ≡ length (symbols P s.channel s.frame)
  pub after : s.after ≡ symbols P s.channel s.frame ++ drop s.answer s.before

-- one hearing: the list and the output that went in, the answer and the output that came out
pub record Hearing : Type 0 where
  pub list : List ℕ
  pub before : List ℕ
  pub answer : Result Delivered Fault
  pub after : List ℕ

-- a frame, and how many bits of its words are spoilt
pub record Told : Type 0 where
  pub frame : Frame
  pub spoilt : ℕ

-- the frame that an answer and an output tell, if any
abbrev pub told_by : Result Delivered Fault → List ℕ → Option Told
told_by (Ok d) after = Some (record { frame = frame_of d (take d.bytes after); spoilt = d.spoilt })
told_by (Err f) after = None

abbrev pub told : Hearing → Option Told
told h = told_by h.answer h.after

-- For each accepted send in order, a list within reach of its frame is heard into at least 264 bytes. The frames are told
-- with the true counts of spoilt bits.
pub data HeardEach (P : Plan) : List Sending → List Told → List Hearing → Type 0 where
  none : HeardEach P [] [] []
  one : {s : Sending} {ss : List Sending} {k : ℕ} {ts : List Told} {h : Hearing} {hs : List Hearing}
      → Reach P s.frame h.list k → 264 ≤ length h.before → Hears P h.list h.before h.after h.answer
      → HeardEach P ss ts hs → HeardEach P (s ∷ ss) (record { frame = s.frame; spoilt = k } ∷ ts) (h ∷ hs)

-- In any life of a sending post: each accepted send wrote its frame's symbols; the seeds run 0, 1, 0, 1 and so on; and
-- whatever lists are heard for its frames, each within reach of its frame, by posts of the same plan, exactly these frames
-- are delivered, in order, with their true counts.
pub record LivesDeliver (P : Plan) : Type 0 where
  pub written : {t : State} {ss : List Sending} → Life P t ss → AllByRecursion (Written P) ss
  pub seeds : {t : State} {ss : List Sending} → Life P t ss
      → map (λ s. s.frame.seed) ss ≡ map (λ i. i % 2) (range_with_len 0 (length ss))
  pub heard : {t : State} {ss : List Sending} {ts : List Told} {hs : List Hearing} → Life P t ss → HeardEach P ss ts hs
      → map told hs ≡ map Some ts

-- ---- nothing is invented, nothing is lost

-- a list is within reach of one legal frame at most, with one count
abbrev pub OneFrame : Plan → Type 0
OneFrame P =
    (list : List ℕ) (f g : Frame) (j k : ℕ) → Legal P f → Legal P g → Reach P f list j → Reach P g list k → (f ≡ g) × (j ≡ k)

abbrev pub Refused : Plan → List ℕ → List ℕ → Type 0
Refused P list before = (f : Fault) × (after : List ℕ) × Hears P list before after (Err f)

-- with at least 264 bytes of output a list is refused exactly when no legal frame has it within reach
abbrev pub RefusedExactly : Plan → Type 0
RefusedExactly P =
    (list before : List ℕ) → 264 ≤ length before
    → Refused P list before ↔ ((f : Frame) (k : ℕ) → Legal P f → Reach P f list k → ⊥)

-- ---- every hearing has one answer, and what is sent is within reach

pub record HearsOnce (P : Plan) : Type 0 where
  pub some : (list before : List ℕ) → (after : List ℕ) × (r : Result Delivered Fault) × Hears P list before after r
  pub only : (list before us vs : List ℕ) (r s : Result Delivered Fault) → Hears P list before us r → Hears P list before vs s
      → (us ≡ vs) × (r ≡ s)

-- what is sent, from the last preamble symbol on, is within reach of its frame, and no bit is spoilt
abbrev pub SentReaches : Plan → Type 0
SentReaches P = (channel : ℕ) (f : Frame) → Legal P f → Reach P f (drop 89 (symbols P channel f)) 0

-- ---- the theorem

-- of one plan: sent and heard, one frame, no loss
pub record Delivery (P : Plan) : Type 0 where
  pub lives : LivesDeliver P
  pub one_frame : OneFrame P
  pub refused_exactly : RefusedExactly P
  pub hears_once : HearsOnce P
  pub sent_reaches : SentReaches P

-- of every lawful plan
abbrev pub DeliveryTheorem : Type 0
DeliveryTheorem = (P : Plan) → Lawful P → Delivery P
