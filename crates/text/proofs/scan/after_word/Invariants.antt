-- `after_word` takes a byte of the word a turn: from where it stands, the rest of the word is still to be found.
use Rattle.std.proofs.Common.{◌≡◌}
use lib.ListN.{drop}
use Rattle.grammar.specs.Inside.Reader.{word_at}
use Rattle.text.proofs.scan.after_word.Given as goal

abbrev pub invariant-loop-c : goal.invariant-loop-c
invariant-loop-c l = word_at l.word l.text l.at ≡ word_at (drop l.c-index l.word) l.text l.next
