-- The delivery theorem, put together.
use Rattle.delivery.specs.Plans.{Plan, Lawful}
use Rattle.delivery.specs.Delivery.{Delivery, DeliveryTheorem}
use Rattle.delivery.proofs.Hearings.{one_frame, refused_exactly, hears_once}
use Rattle.delivery.proofs.Cleans.{clean}
use Rattle.delivery.proofs.Living.{lives}

pub delivery : (P : Plan) → Lawful P → Delivery P
delivery P L =
    record {
      lives = lives P L;
      one_frame = one_frame P L;
      refused_exactly = refused_exactly P L;
      hears_once = hears_once P L;
      sent_reaches = clean P L;
    }

pub theorem : DeliveryTheorem
theorem P L = delivery P L
