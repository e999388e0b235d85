-- `six` puts six numbers side by side.
use Rattle.timing.specs.Inside.Results.{six_of}
use borrow.Author.Rules.{rules}
use Rattle.timing.proofs.results.six.Goals as goal

pub returns : goal.returns
unfolding six_of
returns c = search rules
