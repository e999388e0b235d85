-- `hold_slack` is one difference.
use mathlib.Core.Path.{◌∙◌}
use Rattle.timing.proofs.Slack.{out_of_word, hold_is}
use Rattle.timing.proofs.results.hold_slack.Goals as goal

pub returns : goal.returns
returns c = out_of_word _ c.minus.type_inv ∙ c.minus.ensures ∙ rw c.from.ensures (hold_is c.args.arrival c.args.hold)
