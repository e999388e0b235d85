-- `number` takes a digit a turn. What is left to read from the place on, behind the digits taken, is what the whole number is read as.
use Rattle.std.proofs.Common.{◌≡◌, ◌-◌, ◌≤◌}
use Rattle.grammar.specs.Numbers.{greatest, most_digits}
use Rattle.grammar.specs.Inside.Reader.{number_at, digits_at}
use Rattle.text.proofs.scan.number.Given as goal

abbrev pub invariant-loop : goal.invariant-loop
invariant-loop l = (number_at l.text l.at ≡ digits_at (most_digits - l.counter) l.text l.next l.value) × (l.value ≤ greatest)
