use Rattle.delivery.proofs.Whole.{delivery}
use Rattle.post.proofs.post.Post.open.Goals as goal

pub returns-then-channel-last_channel-clause-delivers : goal.returns-then-channel-last_channel-clause-delivers
returns-then-channel-last_channel-clause-delivers g c = delivery (g.P.RadioPlan.plan c.args.plan) (g.met.P.RadioPlan.lawful c.args.plan)

pub returns-clause-delivers : goal.returns-clause-delivers
returns-clause-delivers g c = delivery (g.P.RadioPlan.plan c.args.plan) (g.met.P.RadioPlan.lawful c.args.plan)
