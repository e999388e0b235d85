-- The laws that timing's proofs share. A function's own proof is in a folder of its name: its answers stand in its last lines, in the order of its
-- needs, and `(λ c. search needs)` answers a need that antt's search finds by itself.
-- walks over arcs, and passes
pub mod Sweepable
pub mod WebShape
pub mod Zeros
-- loading
pub mod RecordsRead
pub mod Shifts
pub mod Launches
pub mod Leading
pub mod OneMoreLoaded
pub mod Splitting
pub mod LoadedTables
-- results
pub mod Entering
pub mod SixResults
pub mod Slack
pub mod Writing
-- the growing ring
pub mod WalkBackArcs
pub mod WalkBackPlaces
pub mod WalkBack
pub mod Looping
-- the path
pub mod Tracing
-- the calls, and what their promises leave open
pub mod LoadedTimes
pub mod LoadedPaths
pub mod FirstYes
pub mod OneTiming
pub mod OnePath
