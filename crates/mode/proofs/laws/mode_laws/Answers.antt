use Rattle.std.proofs.Common.{refl}
use Rattle.mode.proofs.Hearings.{sent_reaches, one_reach, reach_heard, refused_exactly, hears_total, hears_one}
use Rattle.mode.proofs.laws.mode_laws.Goals as goal

pub returns : goal.returns
returns c = record {
  count = refl;
  sent = λ m L list at n xs. sent_reaches m L list at n xs;
  one = λ m L list at n xs ys b c. one_reach m L list at n xs ys b c;
  heard = λ m L list at before after xs c r. reach_heard m L list at before after xs c r;
  refused = refused_exactly;
  total = λ m L list at before. hears_total m L list at before;
  single = λ m L list at before us vs r s. hears_one m L list at before us vs r s;
}
