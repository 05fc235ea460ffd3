use Rattle.std.proofs.Common.{ℕ, ◌<◌, length, get_or, arith}
use Rattle.std.proofs.ByRecursion.{All-get_or}
use Rattle.std.proofs.iter.Serving.{serving}
use Rattle.mapping.proofs.phase.find_step.Goals as goal

pub position-requires-clause-callable : goal.position-requires-clause-callable
position-requires-clause-callable c =
    let h : (k d : ℕ) → k < length c.args.steps.now → get_or c.args.steps.now k d < 16 =
    λ k d l. All-get_or (λ s. s < 16) c.args.steps.now k d l c.requires.steps in
    grind (serving, arith)
