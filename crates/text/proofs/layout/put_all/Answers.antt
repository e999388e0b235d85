-- `put_all` stores a word a turn.
use native.Mathlib.Omega.{arith}
use Rattle.text.proofs.Storing.{behind_words_lem}
use Rattle.text.proofs.layout.put_all.Goals as goal

pub returns-clause-behind : goal.returns-clause-behind
returns-clause-behind c = omega (arith, c.loop-word.invariant.0, behind_words_lem c.args.at c.args.words.now)
