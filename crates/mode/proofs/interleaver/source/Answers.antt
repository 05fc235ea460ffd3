use Rattle.std.proofs.Common.{◌∙◌, arith}
use Rattle.mode.proofs.Moves.{at_low, at_high, high_below}
use Rattle.mode.proofs.interleaver.source.Goals as goal

pub overflow_add-result : goal.overflow_add-result
overflow_add-result c = omega (arith, high_below c.args.copies c.args.bits c.args.i c.requires c.if-i-lead.false, c.turned-else-i-lead.ensures)

pub overflow_add-result-else-i-lead : goal.overflow_add-result-else-i-lead
overflow_add-result-else-i-lead c = omega (arith, high_below c.args.copies c.args.bits c.args.i c.requires c.if-i-lead.false, c.turned-else-i-lead.ensures)

pub returns-then-i-lead : goal.returns-then-i-lead
returns-then-i-lead c = c.turned.ensures ∙ at_low c.args.copies c.args.bits c.args.i c.requires c.if-i-lead.true

pub returns-else-i-lead : goal.returns-else-i-lead
returns-else-i-lead c = omega (arith, at_high c.args.copies c.args.bits c.args.i c.requires c.if-i-lead.false, c.turned-else-i-lead.ensures)
