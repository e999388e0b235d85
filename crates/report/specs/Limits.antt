-- How long the buffers of a report are, worked out from the most synchronizers that an image has.
use Rattle.std.specs.Prelude.{ℕ, ◌+◌, ◌*◌}
use Rattle.image.specs.Header.{most_synchronizers}

-- the buffers that timing is lent have one arc for each synchronizer, and six numbers
abbrev pub LENT_ARCS : ℕ
LENT_ARCS = most_synchronizers

abbrev pub LENT_NUMBERS : ℕ
LENT_NUMBERS = 6 * LENT_ARCS

-- the longest first line, `timed 512 512 512`: a word of 5 letters, three times a space and 3 digits, a line feed
abbrev pub FIRST_LINE : ℕ
FIRST_LINE = 5 + 3 * (1 + 3) + 1

-- the longest line of a synchronizer: 3 digits, six times a space with a sign and 13 digits, a line feed
abbrev pub ROW : ℕ
ROW = 3 + 6 * (1 + 1 + 13) + 1

-- no report has more bytes
abbrev pub LONGEST : ℕ
LONGEST = FIRST_LINE + ROW * most_synchronizers
