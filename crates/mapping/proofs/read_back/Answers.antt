use Rattle.mapping.proofs.Defined.{defined}
use Rattle.mapping.proofs.read_back.Goals as goal

pub returns-in_err-next-clause-defined : goal.returns-in_err-next-clause-defined
returns-in_err-next-clause-defined g c = defined

pub returns-clause-defined : goal.returns-clause-defined
returns-clause-defined g c = defined
