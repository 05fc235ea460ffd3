-- Whole lives: what each accepted send wrote, the seeds, and what is heard.
use Rattle.std.proofs.Common.{◌≡◌, ℕ, ◌%◌, ◌<◌, ◌≤◌, List, [], ◌∷◌, ◌++◌, map, length, drop, Some, Ok, Err, Result, sym, refl, ap, ◌∙◌, arith}
use Rattle.std.specs.List.{range_with_len, AllByRecursion}
use Rattle.std.proofs.lemmas.List.FromFn.{map-range_with_len_more}
use Rattle.std.proofs.ByRecursion.{All-push}
use Rattle.std.proofs.lemmas.List.{length_push, map_push, take_at}
use Rattle.frame.specs.Numbers.{Byte}
use Rattle.delivery.specs.declared.fault.Fault.{Fault}
use Rattle.delivery.specs.Plans.{Plan, Lawful}
use Rattle.delivery.specs.Frames.{Frame, Legal, Reach}
use Rattle.delivery.specs.Calls.{State, Request, framed, Retunes, Sends, Hears}
use Rattle.delivery.specs.Lives.{Sending, Life, opened, retuned, refused, sent}
use Rattle.delivery.specs.Delivery.{Written, Hearing, Told, told, HeardEach, none, one, LivesDeliver}
use Rattle.delivery.proofs.Hearings.{only, delivers}

retunes_seed : (P : Plan) (s t : State) (c : ℕ) (r : Result (Unit {0}) Fault) → Retunes P s c t r → t.seed ≡ s.seed
retunes_seed P s t c (Ok u) x = ap (λ z. z.seed) x.1
retunes_seed P s t c (Err f) x = ap (λ z. z.seed) x.2

module _ (P : Plan) where
  pub life_seed : {t : State} {ss : List Sending} → Life P t ss → t.seed ≡ length ss % 2
  life_seed (opened channel x) = ap (λ z. z.seed) x.1
  life_seed (retuned channel s {t} r l x) = retunes_seed P s t channel r x ∙ life_seed l
  life_seed (refused s q before after f l x) = ap (λ z. z.seed) x.1 ∙ life_seed l
  life_seed (sent s ss q before after n l b x) = ap (λ z. z.seed) x.6 ∙ simp length_push (omega (arith, life_seed l))

  pub seeds : {t : State} {ss : List Sending} → Life P t ss → map (λ s. s.frame.seed) ss ≡ map (λ i. i % 2) (range_with_len 0 (length ss))
  seeds (opened channel x) = refl
  seeds (retuned channel s r l x) = seeds l
  seeds (refused s q before after f l x) = seeds l
  seeds (sent s ss q before after n l b x) =
      map_push (λ s. s.frame.seed) ss _
      ∙ ap (λ us. us ++ s.seed ∷ []) (seeds l)
      ∙ ap (λ i. map (λ j. j % 2) (range_with_len 0 (length ss)) ++ i ∷ []) (life_seed l)
      ∙ sym (map-range_with_len_more (λ j. j % 2) 0 (length ss) (length ss) (omega arith))
      ∙ ap (λ k. map (λ j. j % 2) (range_with_len 0 k)) (sym (length_push ss _))

module _ (P : Plan) (L : Lawful P) where
  -- an accepted send is of a legal frame
  pub sent_legal : (s : State) (q : Request) (before : List ℕ) (t : State) (after : List ℕ) (n : ℕ) → s.seed < 2 → AllByRecursion Byte q.psdu
      → Sends P s q before t after (Ok n) → Legal P (framed s q)
  sent_legal s q before t after n e b x =
      record {
        mode = x.1.1.0;
        carried = x.1.1.1;
        ranges = record { rate = x.1.0; low = x.2.0; high = x.2.1; burst = x.0; seed = omega (arith, L.seeds) };
        bytes = b;
      }

  pub written : {t : State} {ss : List Sending} → Life P t ss → AllByRecursion (Written P) ss
  written (opened channel x) = tt
  written (retuned channel s r l x) = written l
  written (refused s q before after f l x) = written l
  written (sent s {t} ss q before after n l b x) =
      All-push (Written P) ss _ (written l)
      (record {
        legal_frame = sent_legal s q before t after n (omega (arith, life_seed P l)) b x;
        room = x.3;
        count = x.4;
        after = x.5;
      })

  told_one : (f : Frame) (k : ℕ) (h : Hearing) → Legal P f → Reach P f h.list k → 264 ≤ length h.before
      → Hears P h.list h.before h.after h.answer → told h ≡ Some (record { frame = f; spoilt = k })
  told_one f k h F R l x =
      let e = only P L h.list h.before h.after (f.psdu ++ drop (length f.psdu) h.before) h.answer
      (Ok (record { rate = f.rate; burst = f.burst; seed = f.seed; bytes = length f.psdu; spoilt = k })) x (delivers P L h.list h.before f k l F R) in
      let t = take_at f.psdu (drop (length f.psdu) h.before) (length f.psdu) refl in
      rw (e.0, e.1, t)

  heard : {ss : List Sending} {ts : List Told} {hs : List Hearing} → AllByRecursion (Written P) ss → HeardEach P ss ts hs → map told hs ≡ map Some ts
  heard a none = refl
  heard a (one {s} {k = k} {h = h} r l x more) =
      let e = told_one s.frame k h a.0.legal_frame r l x in
      let d = heard a.1 more in
      cc

  pub lives : LivesDeliver P
  lives = record { written = written; seeds = seeds P; heard = λ l x. heard (written l) x }
