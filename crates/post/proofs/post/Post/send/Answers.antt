use Rattle.std.proofs.Common.{rules, Some, ◌≡◌, ℕ, ◌+◌, List, ◌++◌, length, drop, sym, refl, ap, ap₂, ◌∙◌, arith}
use Rattle.std.proofs.lemmas.List.{length-take-le}
use Rattle.std.proofs.ByRecursion.{All-from_get_or}
use Rattle.frame.specs.Numbers.{Byte}
use Rattle.delivery.specs.Frames.{Frame, Legal, symbols}
use Rattle.delivery.specs.Calls.{Sized}
use Rattle.delivery.proofs.Cleans.{length_symbols}
use Rattle.post.proofs.post.Post.send.Given.{Over}
use Rattle.post.proofs.post.Post.send.Goals as goal
use Rattle.post.proofs.post.Post.send.Goals.{After-count}

-- the frame's symbols at the front of the buffer
put : (n : ℕ) (us vs before : List ℕ) → us ≡ vs → us ++ drop n before ≡ vs ++ drop n before
put n us vs before e = ap (λ zs. zs ++ drop n before) e

-- the frame of the request
frame : (g : Over) (c : After-count g) → Frame
frame g c = record { rate = c.args.rate; burst = c.args.burst; seed = c.args.self.now.seed; psdu = c.args.psdu.now }

sized : (g : Over) (c : After-count g) → Sized c.args.psdu.now
sized g c = search rules

rated : (g : Over) (c : After-count g) → (g.P.RadioPlan.plan c.args.self.now.plan).rate c.args.rate ≡ Some (g.P.Mode.Carrier.mode c.in_ok-payload.payload)
rated g c = search rules

legal_frame : (g : Over) (c : After-count g) → Legal (g.P.RadioPlan.plan c.args.self.now.plan) (frame g c)
unfolding frame
legal_frame g c =
    let L = g.met.P.RadioPlan.lawful c.args.self.now.plan in
    record {
      mode = g.P.Mode.Carrier.mode c.in_ok-payload.payload;
      carried = rated g c;
      ranges = record { rate = omega arith; low = (sized g c).0; high = (sized g c).1; burst = omega arith; seed = omega (arith, L.seeds, c.args.self.now.bit) };
      bytes = All-from_get_or Byte c.args.psdu.now 0 (λ i l. (c.type_inv.psdu i).fits);
    }

needed : (g : Over) (c : After-count g) → 90 + c.header_count.result + c.count.result ≡ length (symbols (g.P.RadioPlan.plan c.args.self.now.plan) c.args.self.now.channel (frame g c))
unfolding frame legal_frame
needed g c =
    ap₂ (λ a b. 90 + a + b) c.header_count.ensures.value c.count.ensures.value
    ∙ sym (length_symbols (g.P.RadioPlan.plan c.args.self.now.plan) (g.met.P.RadioPlan.lawful c.args.self.now.plan) c.args.self.now.channel (frame g c) (legal_frame g c))

pub returns-then-symbols-needed : goal.returns-then-symbols-needed
unfolding frame
returns-then-symbols-needed g c =
    let k = (goal.at.returns-then-symbols-needed g c).After-count in
    record {
      plan = refl;
      sends = (
        (
          omega arith,
          (omega arith, (_, rated g k)),
          sized g k,
          c.if-symbols-needed.true,
          needed g k,
        ),
        refl,
        refl,
      );
    }

pub write_frame-requires : goal.write_frame-requires
unfolding frame
write_frame-requires g c =
    let k = (goal.at.write_frame-requires g c).After-count in
    record {
      legal = legal_frame g k;
      carried = rated g k;
      bytes = refl;
      size_is = omega (
        arith,
        length-take-le (90 + c.header_count.result + c.count.result) c.args.symbols.now (omega (arith, c.if-symbols-needed.false)),
        c.header_count.ensures.value,
        c.count.ensures.value,
      );
    }

pub returns : goal.returns
unfolding frame
returns g c =
    let k = (goal.at.returns g c).After-count in
    record {
      plan = refl;
      sends = (
        omega arith,
        (omega arith, (_, rated g k)),
        sized g k,
        c.if-symbols-needed.false,
        needed g k,
        put (90 + c.header_count.result + c.count.result) c.write_frame.new.symbols
            (symbols (g.P.RadioPlan.plan c.args.self.now.plan) c.args.self.now.channel (frame g k)) c.args.symbols.now c.write_frame.ensures,
        refl,
      );
    }
