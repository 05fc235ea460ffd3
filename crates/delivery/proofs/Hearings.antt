-- A hearing has one answer: the one legal frame that has the list within reach, or the first fault.
use Rattle.std.proofs.Common.{◌≡◌, ℕ, ◌+◌, ◌*◌, ◌<◌, ◌≤◌, List, ◌++◌, length, drop, replicate, Ok, Err, Result, sym, refl, ap, ◌∙◌, subst, ap₂, inl, inr, arith}
use Rattle.std.proofs.lemmas.List.{length-replicate}
use Rattle.std.specs.List.{AllByRecursion}
use Rattle.std.proofs.lemmas.Bool.{cases_lt, cases_eq}
use Rattle.frame.specs.Numbers.{Byte}
use Rattle.frame.specs.Headers.{Fields, InRange}
use Rattle.frame.specs.Headers as forms
use Rattle.frame.specs.Scrambler.{scrambled}
use Rattle.frame.specs.Reading.{headers_are_apart}
use Rattle.frame.proofs.Scrambling.{scrambled_apart, scrambled_onto}
use Rattle.mode.specs.declared.fault.HearFault.{HearFault}
use Rattle.mode.specs.declared.fault.HearFault.TheVariants.{Part, Call}
use Rattle.mode.specs.Modes.{Mode, count}
use Rattle.mode.specs.Modes as modes
use Rattle.mode.specs.Parts as parts
use Rattle.mode.specs.Answers.{Faulty}
use Rattle.mode.specs.Answers as answers
use Rattle.mode.proofs.Hearings.{one_reach, reach_faultless, one_fault, hears_total}
use Rattle.delivery.specs.declared.delivered.Delivered.{Delivered}
use Rattle.delivery.specs.declared.fault.Fault.{Fault}
use Rattle.delivery.specs.declared.fault.Fault.TheVariants.{Band, Channel, Burst, Rate, Psdu, Buffer, Output, List as Short, Header, Payload}
use Rattle.delivery.specs.declared.fault.HeaderFault.{HeaderFault}
use Rattle.delivery.specs.declared.fault.HeaderFault.TheVariants.{Part as HeaderPart, Form}
use Rattle.delivery.specs.declared.fault.PayloadFault.{PayloadFault}
use Rattle.delivery.specs.declared.fault.PayloadFault.TheVariants.{Length, Part as PayloadPart}
use Rattle.delivery.specs.Plans.{Plan, Lawful, legal}
use Rattle.delivery.specs.Frames.{Frame, fields, Legal, Reach, header_count, needed}
use Rattle.delivery.specs.Calls.{HeaderFaulty, Said, PayloadFaulty, NotHeard, frame_of, Delivers, Hears}
use Rattle.delivery.specs.Delivery.{OneFrame, RefusedExactly, HearsOnce}
use Rattle.delivery.proofs.Fronts.{Front, faults, says, FrontIs, one_front, some_front, reach_said}

same_frame : (f g : Frame) → f.rate ≡ g.rate → f.burst ≡ g.burst → f.seed ≡ g.seed → f.psdu ≡ g.psdu → f ≡ g
same_frame f g a b c d =
    ap (λ x. record { rate = x; burst = f.burst; seed = f.seed; psdu = f.psdu }) a
    ∙ ap (λ x. record { rate = g.rate; burst = x; seed = f.seed; psdu = f.psdu }) b
    ∙ ap (λ x. record { rate = g.rate; burst = g.burst; seed = x; psdu = f.psdu }) c
    ∙ ap (λ x. record { rate = g.rate; burst = g.burst; seed = g.seed; psdu = x }) d

same_delivered : (d e : Delivered) → d.rate ≡ e.rate → d.burst ≡ e.burst → d.seed ≡ e.seed → d.bytes ≡ e.bytes → d.spoilt ≡ e.spoilt → d ≡ e
same_delivered d e a b c n k =
    ap (λ x. record { rate = x; burst = d.burst; seed = d.seed; bytes = d.bytes; spoilt = d.spoilt }) a
    ∙ ap (λ x. record { rate = e.rate; burst = x; seed = d.seed; bytes = d.bytes; spoilt = d.spoilt }) b
    ∙ ap (λ x. record { rate = e.rate; burst = e.burst; seed = x; bytes = d.bytes; spoilt = d.spoilt }) c
    ∙ ap (λ x. record { rate = e.rate; burst = e.burst; seed = e.seed; bytes = x; spoilt = d.spoilt }) n
    ∙ ap (λ x. record { rate = e.rate; burst = e.burst; seed = e.seed; bytes = e.bytes; spoilt = x }) k

-- the reasons for which a list is not delivered
data Why (P : Plan) (list before : List ℕ) : Fault → Type 0 where
  output : length before < 264 → Why P list before Output
  short : {n : ℕ} → 264 ≤ length before → length list < 1 + header_count P → n ≡ length list → Why P list before (Short n)
  header : {f : HeaderFault} → 264 ≤ length before → HeaderFaulty P list f → Why P list before (Header f)
  payload : {f : PayloadFault} → 264 ≤ length before → PayloadFaulty P list f → Why P list before (Payload f)

why : (P : Plan) (list before : List ℕ) (g : Fault) → NotHeard P list before g → Why P list before g
why P list before Output x = output x
why P list before (Short n) x = short x.0 x.1 x.2
why P list before (Header f) x = header x.0 x.1
why P list before (Payload f) x = payload x.0 x.1
why P list before Band x = absurd x
why P list before Channel x = absurd x
why P list before Burst x = absurd x
why P list before Rate x = absurd x
why P list before Psdu x = absurd x
why P list before (Buffer n) x = absurd x

module _ (P : Plan) (L : Lawful P) where
  -- ---- one frame

  same_payload : (m n : Mode) (list : List ℕ) (at i j : ℕ) (xs ys : List ℕ) (b c : ℕ) → modes.Lawful m → m ≡ n → i ≡ j
      → parts.Reach m list at i xs b → parts.Reach n list at j ys c → (xs ≡ ys) × (b ≡ c)
  same_payload m n list at i j xs ys b c M e d r q =
      one_reach m M list at i xs ys b c r
      (subst (λ z. parts.Reach m list at z ys c) (sym d) (subst (λ z. parts.Reach z list at j ys c) (sym e) q))

  pub one_frame : OneFrame P
  one_frame list f g j k F G R S =
      let h = one_reach P.header L.header list 0 (forms.count P.form) (forms.header P.form (fields f)) (forms.header P.form (fields g))
      R.in_header S.in_header R.header S.header in
      let e : fields f ≡ fields g = headers_are_apart P.form L.form (fields f) (fields g) F.ranges G.ranges h.0 in
      let rate : f.rate ≡ g.rate = ap (λ x. x.rate) e in
      let seed : f.seed ≡ g.seed = ap (λ x. x.seed) e in
      let size : length f.psdu ≡ length g.psdu = ap (λ x. x.bytes) e in
      let a = R.carried in
      let b = S.carried in
      let c : P.rate f.rate ≡ P.rate g.rate = ap P.rate rate in
      let m : R.mode ≡ S.mode = cc in
      let p = same_payload R.mode S.mode list (header_count P) (8 * length f.psdu) (8 * length g.psdu) (scrambled f.seed f.psdu)
      (scrambled g.seed g.psdu) R.in_payload S.in_payload (L.modes f.rate R.mode R.carried) m (ap (λ x. 8 * x) size) R.payload S.payload in
      let x : scrambled f.seed f.psdu ≡ scrambled f.seed g.psdu = p.0 ∙ ap (λ s. scrambled s g.psdu) (sym seed) in
      let y : f.psdu ≡ g.psdu = scrambled_apart f.seed f.psdu g.psdu F.bytes G.bytes size x in
      (same_frame f g rate (ap (λ z. z.burst) e) seed y, sym R.sum ∙ ap₂ ◌+◌ h.1 p.1 ∙ S.sum)

  -- ---- one answer

  module _ (list : List ℕ) where
    long_front : (a : Front) → FrontIs P list a → 1 + header_count P ≤ length list
    long_front (faults (HeaderPart f)) x = x.0
    long_front (faults (Form f)) x = x.1.long
    long_front (says u m) x = x.headed.long

    not_both : (f : HeaderFault) (x : Fields) (m : Mode) → HeaderFaulty P list f → Said P list x m → ⊥
    not_both f x m F S =
        let e : faults f ≡ says x m = one_front P L list (faults f) (says x m) F S in
        let z : ◌≡◌ {A = ℕ} 0 1 = cc in omega arith

    same_said : (x y : Fields) (m n : Mode) → Said P list x m → Said P list y n → (x ≡ y) × (m ≡ n)
    same_said x y m n S T =
        let e : says x m ≡ says y n = one_front P L list (says x m) (says y n) S T in
        (cc, cc)

    -- what two payload stages come to
    same_needed : (x y : Fields) (m n : Mode) → Said P list x m → Said P list y n → needed P m x.bytes ≡ needed P n y.bytes
    same_needed x y m n S T =
        let e = same_said x y m n S T in
        ap₂ (λ a b. needed P a b.bytes) e.1 e.0

    one_payload : (f g : PayloadFault) → PayloadFaulty P list f → PayloadFaulty P list g → f ≡ g
    one_payload (Length a) (Length b) (x, m, S, ne, d) (y, n, T, nf, e) = ap Length (d ∙ same_needed x y m n S T ∙ sym e)
    one_payload (Length a) (PayloadPart g) (x, m, S, ne, d) (y, n, T, l, G) =
        absurd (ne (l ∙ sym (d ∙ same_needed x y m n S T)))
    one_payload (PayloadPart f) (Length b) (x, m, S, l, F) (y, n, T, nf, e) =
        absurd (nf (l ∙ same_needed x y m n S T ∙ sym e))
    one_payload (PayloadPart f) (PayloadPart g) (x, m, S, l, F) (y, n, T, k, G) =
        let e = same_said x y m n S T in
        let G' : Faulty m list (header_count P) (8 * x.bytes) g =
        subst (λ z. Faulty z list (header_count P) (8 * x.bytes) g) (sym e.1) (subst (λ z. Faulty n list (header_count P) (8 * z.bytes) g) (sym e.0) G) in
        ap PayloadPart (one_fault m (L.modes x.rate m S.carried) list (header_count P) (8 * x.bytes) f g (there x m S l) F G')
      where
        there : (x : Fields) (m : Mode) → Said P list x m → length list ≡ needed P m x.bytes → parts.There m list (header_count P) (8 * x.bytes)
        there x m S l =
            let r = (L.form.written_back (legal P) S.bits x S.headed.reach.valid S.read).0 in
            record { carried = record { low = omega (arith, r.low); high = omega (arith, r.high) }; long = omega arith }

    -- a frame within reach, and a fault
    faultless : (before : List ℕ) (f : Frame) (k : ℕ) (g : Fault) → 264 ≤ length before → Legal P f → Reach P f list k → NotHeard P list before g → ⊥
    faultless before f k Output h F R x = omega arith
    faultless before f k (Short n) h F R x = omega (arith, R.long, x.1)
    faultless before f k (Header g) h F R x = not_both g (fields f) R.mode x.1 (reach_said P L list f k F R)
    faultless before f k (Payload (Length n)) h F R (_, (y, m, S, ne, d)) =
        ne (R.long ∙ same_needed (fields f) y R.mode m (reach_said P L list f k F R) S ∙ sym d)
    faultless before f k (Payload (PayloadPart g)) h F R (_, (y, m, S, l, G)) =
        let e = same_said (fields f) y R.mode m (reach_said P L list f k F R) S in
        let G' : Faulty R.mode list (header_count P) (8 * length f.psdu) g =
        subst (λ z. Faulty z list (header_count P) (8 * length f.psdu) g) (sym e.1) (subst (λ z. Faulty m list (header_count P) (8 * z.bytes) g) (sym e.0) G) in
        reach_faultless R.mode (L.modes f.rate R.mode R.carried) list (header_count P) (8 * length f.psdu) (scrambled f.seed f.psdu) R.in_payload g R.payload G'
    faultless before f k Band h F R x = x
    faultless before f k Channel h F R x = x
    faultless before f k Burst h F R x = x
    faultless before f k Rate h F R x = x
    faultless before f k Psdu h F R x = x
    faultless before f k (Buffer n) h F R x = x

    -- the fields and the mode behind a fault of the payload
    behind : (f : PayloadFault) → PayloadFaulty P list f → (x : Fields) × (m : Mode) × Said P list x m
    behind (Length n) (x, m, S, ne, d) = (x, m, S)
    behind (PayloadPart f) (x, m, S, l, F) = (x, m, S)

    one_why : (before : List ℕ) (f g : Fault) → Why P list before f → Why P list before g → f ≡ g
    one_why before f g (output h) (output k) = refl
    one_why before f g (output h) (short k l e) = absurd (omega arith)
    one_why before f g (output h) (header k G) = absurd (omega arith)
    one_why before f g (output h) (payload k G) = absurd (omega arith)
    one_why before f g (short h l d) (output k) = absurd (omega arith)
    one_why before f g (short h l d) (short k m e) = ap Short (d ∙ sym e)
    one_why before f g (short h l d) (header {f = i} k G) = absurd (omega (arith, long_front (faults i) G))
    one_why before f g (short h l d) (payload {f = i} k G) = let b = behind i G in absurd (omega (arith, b.2.headed.long))
    one_why before f g (header h F) (output k) = absurd (omega arith)
    one_why before f g (header {f = i} h F) (short k l e) = absurd (omega (arith, long_front (faults i) F))
    one_why before f g (header {f = i} h F) (header {f = j} k G) =
        let e : faults i ≡ faults j = one_front P L list (faults i) (faults j) F G in
        let d : i ≡ j = cc in ap Header d
    one_why before f g (header {f = i} h F) (payload {f = j} k G) = let b = behind j G in absurd (not_both i b.0 b.1 F b.2)
    one_why before f g (payload h F) (output k) = absurd (omega arith)
    one_why before f g (payload {f = i} h F) (short k l e) = let b = behind i F in absurd (omega (arith, b.2.headed.long))
    one_why before f g (payload {f = i} h F) (header {f = j} k G) = let b = behind i F in absurd (not_both j b.0 b.1 G b.2)
    one_why before f g (payload {f = i} h F) (payload {f = j} k G) = ap Payload (one_payload i j F G)

    pub only : (before us vs : List ℕ) (r s : Result Delivered Fault) → Hears P list before us r → Hears P list before vs s → (us ≡ vs) × (r ≡ s)
    only before us vs (Ok d) (Ok e) D E =
        let x = one_frame list (frame_of d D.psdu) (frame_of e E.psdu) d.spoilt e.spoilt D.legal_frame E.legal_frame D.reach E.reach in
        let y : D.psdu ≡ E.psdu = ap (λ f. f.psdu) x.0 in (
          D.put ∙ ap (λ p. p ++ drop (length p) before) y ∙ sym E.put,
          ap Ok (same_delivered d e (ap (λ f. f.rate) x.0) (ap (λ f. f.burst) x.0) (ap (λ f. f.seed) x.0) (D.bytes ∙ ap length y ∙ sym E.bytes) x.1),
        )
    only before us vs (Ok d) (Err g) D E = absurd (faultless before (frame_of d D.psdu) d.spoilt g D.room D.legal_frame D.reach E.0)
    only before us vs (Err f) (Ok e) D E = absurd (faultless before (frame_of e E.psdu) e.spoilt f E.room E.legal_frame E.reach D.0)
    only before us vs (Err f) (Err g) D E =
        (D.1 ∙ sym E.1, ap Err (one_why before f g (why P list before f D.0) (why P list before g E.0)))

    -- ---- some answer

    pub delivers : (before : List ℕ) (f : Frame) (k : ℕ) → 264 ≤ length before → Legal P f → Reach P f list k
        → Delivers P list before (f.psdu ++ drop (length f.psdu) before)
        (record { rate = f.rate; burst = f.burst; seed = f.seed; bytes = length f.psdu; spoilt = k })
    delivers before f k h F R =
        record { room = h; psdu = f.psdu; bytes = refl; legal_frame = F; reach = R; put = refl }

    Answered : List ℕ → Type 0
    Answered before = (after : List ℕ) × (r : Result Delivered Fault) × Hears P list before after r

    -- after the header
    by_payload : (before : List ℕ) (x : Fields) (m : Mode) → 264 ≤ length before → Said P list x m → Answered before
    unfolding Answered
    by_payload before x m h S =
        elim (cases_eq (length list) (needed P m x.bytes)) [
          | inl l ↦ heard l (hears_total m M list (header_count P) (replicate (8 * x.bytes) 0))
          | inr ne ↦ (before, Err (Payload (Length (needed P m x.bytes))), ((h, (x, m, S, ne, refl)), refl))
        ]
      where
        M : modes.Lawful m
        M = L.modes x.rate m S.carried

        W : InRange P.form x × (forms.header P.form x ≡ S.bits)
        W = L.form.written_back (legal P) S.bits x S.headed.reach.valid S.read

        size : length (replicate {A = ℕ} (8 * x.bytes) 0) ≡ 8 * x.bytes
        size = length-replicate (8 * x.bytes) 0

        frame : (xs : List ℕ) → Frame
        frame xs = record { rate = x.rate; burst = x.burst; seed = x.seed; psdu = xs }

        whole : (bs : List ℕ) (c : ℕ) → length list ≡ needed P m x.bytes → parts.Reach m list (header_count P) (8 * x.bytes) bs c
            → (xs : List ℕ) × (length xs ≡ x.bytes) × AllByRecursion Byte xs × (scrambled x.seed xs ≡ bs) → Answered before
        whole bs c l r (xs, n, b, e) =
            let same : fields (frame xs) ≡ x = ap (λ k. record { rate = x.rate; bytes = k; burst = x.burst; seed = x.seed }) n in
            let F : Legal P (frame xs) = record { mode = m; carried = S.carried; ranges = subst (InRange P.form) (sym same) W.0; bytes = b } in
            let R : Reach P (frame xs) list (S.headed.spoilt + c) =
            record {
              mode = m;
              carried = S.carried;
              long = l ∙ ap (needed P m) (sym n);
              in_header = S.headed.spoilt;
              in_payload = c;
              header = subst (λ ys. parts.Reach P.header list 0 (forms.count P.form) ys S.headed.spoilt)
                  (sym W.1 ∙ ap (forms.header P.form) (sym same)) S.headed.reach;
              payload = subst (λ k. parts.Reach m list (header_count P) (8 * k) (scrambled x.seed xs) c) (sym n)
                  (subst (λ ys. parts.Reach m list (header_count P) (8 * x.bytes) ys c) (sym e) r);
              sum = refl;
            } in (
              xs ++ drop (length xs) before,
              Ok (record { rate = x.rate; burst = x.burst; seed = x.seed; bytes = length xs; spoilt = S.headed.spoilt + c }),
              delivers before (frame xs) (S.headed.spoilt + c) h F R,
            )

        heard : length list ≡ needed P m x.bytes
            → (after : List ℕ) × (r : Result ℕ HearFault) × answers.Hears m list (header_count P) (replicate (8 * x.bytes) 0) after r → Answered before
        heard l (bs, Ok c, r) =
            let q : parts.Reach m list (header_count P) (8 * x.bytes) bs c = rw size at r in
            whole bs c l q (scrambled_onto x.seed x.bytes bs q.valid)
        heard l (bs, Err (Part f), r) = (before, Err (Payload (PayloadPart f)), ((h, (x, m, S, l, rw size at r.1)), refl))
        heard l (bs, Err (Call e), r) =
            absurd (r.0 (rw size (record {
              carried = record { low = omega (arith, W.0.low); high = omega (arith, W.0.high) };
              long = omega arith;
            })))

    pub some : (before : List ℕ) → (after : List ℕ) × (r : Result Delivered Fault) × Hears P list before after r
    unfolding Answered
    some before =
        elim (cases_lt (length before) 264) [
          | inl l ↦ (before, Err Output, (l, refl))
          | inr h ↦ elim (cases_lt (length list) (1 + header_count P)) [
            | inl l ↦ (before, Err (Short (length list)), ((h, l, refl), refl))
            | inr l ↦ by_front h (some_front P L list l)
          ]
        ]
      where
        by_front : 264 ≤ length before → (a : Front) × FrontIs P list a → Answered before
        by_front h (faults f, F) = (before, Err (Header f), ((h, F), refl))
        by_front h (says x m, S) = by_payload before x m h S

  pub hears_once : HearsOnce P
  hears_once = record { some = λ list. some list; only = λ list before us vs r s. only list before us vs r s }

  -- ---- refused exactly when no legal frame has the list within reach

  pub refused_exactly : RefusedExactly P
  refused_exactly list before h = (to, from)
    where
      to : (f : Fault) × (after : List ℕ) × Hears P list before after (Err f) → (g : Frame) (k : ℕ) → Legal P g → Reach P g list k → ⊥
      to (f, after, x) g k G R = faultless list before g k f h G R x.0

      go : ((g : Frame) (k : ℕ) → Legal P g → Reach P g list k → ⊥) → (after : List ℕ) × (r : Result Delivered Fault) × Hears P list before after r
          → (f : Fault) × (after : List ℕ) × Hears P list before after (Err f)
      go none (after, Ok d, D) = absurd (none (frame_of d D.psdu) d.spoilt D.legal_frame D.reach)
      go none (after, Err f, D) = (f, after, D)

      from : ((g : Frame) (k : ℕ) → Legal P g → Reach P g list k → ⊥) → (f : Fault) × (after : List ℕ) × Hears P list before after (Err f)
      from none = go none (some list before)
