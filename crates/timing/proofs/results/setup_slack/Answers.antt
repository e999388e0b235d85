-- `setup_slack` is one difference.
use mathlib.Core.Path.{◌∙◌}
use native.Mathlib.Omega.{arith}
use Rattle.timing.proofs.Slack.{out_of_word, setup_is}
use Rattle.timing.proofs.results.setup_slack.Goals as goal

pub returns : goal.returns
returns c = out_of_word _ c.minus.type_inv ∙ c.minus.ensures ∙ rw (c.from.ensures, c.from-2.ensures) (setup_is c.args.arrival c.args.cycle c.args.setup (omega arith))
