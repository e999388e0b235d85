-- `put_all` stores a word a turn: what is left of the words is still to be stored.
use Rattle.std.proofs.Common.{◌≡◌, ◌+◌, ◌*◌}
use lib.ListN.{drop}
use Rattle.text.specs.Inside.Stores.{stored_all}
use Rattle.text.proofs.layout.put_all.Given as goal

abbrev pub invariant-loop-word : goal.invariant-loop-word
invariant-loop-word l =
    (l.next ≡ l.at + 4 * l.word-index) × (stored_all l.initial.room l.at l.words ≡ stored_all l.room l.next (drop l.word-index l.words))
