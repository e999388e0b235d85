-- `time` is one difference.
use mathlib.Core.Path.{◌∙◌}
use Rattle.timing.proofs.Slack.{out_of_word, time_is}
use Rattle.timing.proofs.results.time.Goals as goal

pub returns : goal.returns
returns c = out_of_word _ c.minus.type_inv ∙ c.minus.ensures ∙ time_is c.args.t
