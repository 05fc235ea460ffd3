use Rattle.frame.specs.Reading.{reading_is_single, headers_are_apart}
use Rattle.frame.proofs.header_laws.Goals as goal

pub returns : goal.returns
returns g c =
    let L = g.met.F.HeaderForm.lawful in
    record { lawful = L; single = reading_is_single _; apart = headers_are_apart _ L }
