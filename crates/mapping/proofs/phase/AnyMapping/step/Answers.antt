use Rattle.std.proofs.Common.{rules}
use Rattle.mapping.specs.TablesLemmas.{number_in}
use Rattle.mapping.proofs.phase.AnyMapping.step.Goals as goal

pub bounds-steps-number : goal.bounds-steps-number
bounds-steps-number g c = search (rules, number_in)
