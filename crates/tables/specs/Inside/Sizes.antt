-- How large the engine's tables are: they have room for the largest image.
use Rattle.std.specs.Prelude.{ℕ, ◌+◌, ◌*◌}
use Rattle.image.specs.Header.{most_phases, most_synchronizers, most_arcs}

abbrev pub PHASES : ℕ
PHASES = most_phases

abbrev pub NODES : ℕ
NODES = most_synchronizers

abbrev pub ARCS : ℕ
ARCS = most_arcs

-- where the arcs into each node begin, and where those into the last end
abbrev pub FIRSTS : ℕ
FIRSTS = NODES + 1

-- how often nodes are raised at most: by as many further passes as there are nodes, and by six first ones before them
abbrev pub GROWS : ℕ
GROWS = NODES * NODES

abbrev pub RAISES : ℕ
RAISES = 6 * NODES + GROWS
