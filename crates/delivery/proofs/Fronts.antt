-- What the header of a heard list comes to: a fault, or fields and the mode of the payload. It comes to one of them.
use Rattle.std.proofs.Common.{◌≡◌, ℕ, ◌+◌, ◌≤◌, List, length, replicate, Ok, Err, Result, ap, subst, arith}
use Rattle.std.proofs.lemmas.List.{length-replicate}
use Rattle.frame.specs.declared.fault.FormFault.{FormFault}
use Rattle.frame.specs.Headers.{Fields, Read, InRange}
use Rattle.frame.specs.Headers as forms
use Rattle.frame.specs.Reading.{read_one, read_some}
use Rattle.mode.specs.declared.fault.PartFault.{PartFault}
use Rattle.mode.specs.declared.fault.HearFault.{HearFault}
use Rattle.mode.specs.declared.fault.HearFault.TheVariants.{Part, Call}
use Rattle.mode.specs.Modes.{Mode}
use Rattle.mode.specs.Parts as parts
use Rattle.mode.specs.Answers.{Faulty}
use Rattle.mode.specs.Answers as modes
use Rattle.mode.proofs.Hearings.{one_reach, reach_faultless, one_fault, hears_total}
use Rattle.delivery.specs.declared.fault.HeaderFault.{HeaderFault}
use Rattle.delivery.specs.declared.fault.HeaderFault.TheVariants.{Part as HeaderPart, Form}
use Rattle.delivery.specs.Plans.{Plan, Lawful, legal}
use Rattle.delivery.specs.Frames.{Frame, fields, Legal, Reach, header_count}
use Rattle.delivery.specs.Calls.{Headed, HeaderFaulty, Said}
use Rattle.delivery.proofs.Rates.{carried-legal, legal-carried}

pub data Front : Type 0 where
  faults : HeaderFault → Front
  says : Fields → Mode → Front

abbrev pub FrontIs : Plan → List ℕ → Front → Type 0
FrontIs P list (faults f) = HeaderFaulty P list f
FrontIs P list (says x m) = Said P list x m

module _ (P : Plan) (L : Lawful P) (list : List ℕ) where
  N : ℕ
  N = forms.count P.form

  -- the header's part is there
  pub there : 1 + header_count P ≤ length list → parts.There P.header list 0 (forms.count P.form)
  unfolding header_count
  there h = record { carried = L.size; long = omega arith }

  -- its bits are one list
  same_bits : (b c : List ℕ) → Headed P list b → Headed P list c → b ≡ c
  same_bits b c B C = (one_reach P.header L.header list 0 (forms.count P.form) b c B.spoilt C.spoilt B.reach C.reach).0

  faultless : (b : List ℕ) (f : PartFault) → Headed P list b → Faulty P.header list 0 (forms.count P.form) f → ⊥
  faultless b f B F = reach_faultless P.header L.header list 0 (forms.count P.form) b B.spoilt f B.reach F

  same_read : (b c : List ℕ) (r s : Result Fields FormFault) → Headed P list b → Headed P list c → Read P.form (legal P) b r
      → Read P.form (legal P) c s → r ≡ s
  same_read b c r s B C x y =
      read_one P.form (legal P) c r s (subst (λ z. Read P.form (legal P) z r) (same_bits b c B C) x) y

  pub one_front : (a b : Front) → FrontIs P list a → FrontIs P list b → a ≡ b
  one_front (faults (HeaderPart f)) (faults (HeaderPart g)) x y =
      ap (λ h. faults (HeaderPart h)) (one_fault P.header L.header list 0 (forms.count P.form) f g (there x.0) x.1 y.1)
  one_front (faults (HeaderPart f)) (faults (Form g)) x y = absurd (faultless y.0 f y.1 x.1)
  one_front (faults (HeaderPart f)) (says v m) x y = absurd (faultless y.bits f y.headed x.1)
  one_front (faults (Form f)) (faults (HeaderPart g)) x y = absurd (faultless x.0 g x.1 y.1)
  one_front (faults (Form f)) (faults (Form g)) x y =
      let e : ◌≡◌ {A = Result Fields FormFault} (Err f) (Err g) = same_read x.0 y.0 (Err f) (Err g) x.1 y.1 x.2 y.2 in
      let d : f ≡ g = cc in
      ap (λ h. faults (Form h)) d
  one_front (faults (Form f)) (says v m) x y =
      let e : ◌≡◌ {A = Result Fields FormFault} (Err f) (Ok v) = same_read x.0 y.bits (Err f) (Ok v) x.1 y.headed x.2 y.read in
      let z : ◌≡◌ {A = ℕ} 0 1 = cc in absurd (omega arith)
  one_front (says u m) (faults (HeaderPart g)) x y = absurd (faultless x.bits g x.headed y.1)
  one_front (says u m) (faults (Form g)) x y =
      let e : ◌≡◌ {A = Result Fields FormFault} (Ok u) (Err g) = same_read x.bits y.0 (Ok u) (Err g) x.headed y.1 x.read y.2 in
      let z : ◌≡◌ {A = ℕ} 0 1 = cc in absurd (omega arith)
  one_front (says u m) (says v n) x y =
      let e : ◌≡◌ {A = Result Fields FormFault} (Ok u) (Ok v) = same_read x.bits y.bits (Ok u) (Ok v) x.headed y.headed x.read y.read in
      let d : u ≡ v = cc in
      let a = x.carried in
      let b = y.carried in
      let c : P.rate u.rate ≡ P.rate v.rate = ap (λ z. P.rate z.rate) d in
      let k : m ≡ n = cc in
      cc

  pub some_front : 1 + header_count P ≤ length list → (a : Front) × FrontIs P list a
  some_front h = go (hears_total P.header L.header list 0 (replicate (forms.count P.form) 0))
    where
      size : length (replicate {A = ℕ} (forms.count P.form) 0) ≡ forms.count P.form
      size = length-replicate (forms.count P.form) 0

      by_read : (b : List ℕ) → Headed P list b → (r : Result Fields FormFault) × Read P.form (legal P) b r → (a : Front) × FrontIs P list a
      by_read b B (Ok x, r) =
          let c = legal-carried P x.rate (rw r.3 r.2) in
          (says x c.0, record { bits = b; headed = B; read = r; carried = c.1 })
      by_read b B (Err f, r) = (faults (Form f), (b, B, r))

      go : (after : List ℕ) × (r : Result ℕ HearFault) × modes.Hears P.header list 0 (replicate (forms.count P.form) 0) after r
          → (a : Front) × FrontIs P list a
      go (b, Ok k, r) =
          let q : parts.Reach P.header list 0 (forms.count P.form) b k = rw size at r in
          by_read b (record { long = h; spoilt = k; reach = q }) (read_some P.form (legal P) b q.valid.bits)
      go (b, Err (Part f), r) = (faults (HeaderPart f), (h, rw size at r.1))
      go (b, Err (Call e), r) = absurd (r.0 (rw size (there h)))

  -- a list within reach of a legal frame says that frame's fields
  pub reach_said : (f : Frame) (k : ℕ) → Legal P f → (R : Reach P f list k) → Said P list (fields f) R.mode
  reach_said f k F R =
      record {
        bits = forms.header P.form (fields f);
        headed = record { long = omega (arith, R.long); spoilt = R.in_header; reach = R.header };
        read = L.form.read_back (legal P) (fields f) F.ranges (carried-legal P f.rate R.mode F.ranges.rate R.carried);
        carried = R.carried;
      }
