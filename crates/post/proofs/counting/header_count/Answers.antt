use Rattle.std.proofs.Common.{ap, ap₂, ◌∙◌}
use Rattle.frame.specs.Headers as forms
use Rattle.mode.specs.Modes.{count}
use Rattle.delivery.specs.Frames.{header_count}
use Rattle.post.proofs.counting.header_count.Goals as goal

pub returns-clause-value : goal.returns-clause-value
unfolding header_count
returns-clause-value g c = c.count.ensures.value ∙ ap₂ count c.header.ensures (c.bits_count.ensures ∙ ap forms.count c.form.ensures)
