-- `back`: the step leads to a synchronizer whose rank is one lower. What is left is a trail of as many arcs as that rank.
use mathlib.Core.Path.{◌≡◌}
use lib.ListN.{length}
use native.Mathlib.Omega.{arith}
use Rattle.tables.specs.Inside.Net.{times_of}
use Rattle.timing.proofs.Tracing.{lower, traced_more}
use Prim.Native.Nat.{ℕ, suc, ◌-◌, ◌<◌}
use mathlib.Core.Path.{refl}
use Rattle.timing.proofs.trail.Ranking.+back.Goals as goal
use Rattle.timing.proofs.trail.Ranking.+back.Goals.{After-step-from}

-- the rank of the source
falls : (t : ℕ) (c : goal.After-step-from t) → suc (times_of c.args.self.now.ranks.now c.step-from.result) ≡ times_of c.args.self.now.ranks.now c.args.i
falls t c = lower c.args.self.now.stepping c.requires.0 (omega (arith, c.if-self-i-eq0.false)) c.step-from.ensures.stepped

pub step-from-requires-clause-entered : goal.step-from-requires-clause-entered
step-from-requires-clause-entered t c =
    let s = c.args.self.now in
    s.stepping.entered c.args.i (times_of s.ranks.now c.args.i - 1) c.requires.0 (omega (arith, c.if-self-i-eq0.false))

pub back-requires : goal.back-requires
back-requires t c =
    let e = falls t (goal.at.back-requires t c).After-step-from in
    (omega (arith, c.decreases, e), (c.step-from.ensures.upper_bound, omega (arith, c.requires.1, c.step-from.auto.arcs)))

pub returns-clause-traced : goal.returns-clause-traced
returns-clause-traced t c =
    let s = c.args.self.now in
    let e = falls t (goal.at.returns-clause-traced t c).After-step-from in
    let room : times_of s.ranks.now c.step-from.result < length c.args.arcs.now = omega (arith, s.low c.args.i c.requires.0, c.requires.1, e) in
    rw e at (traced_more room refl c.step-from.ensures.stepped c.back.ensures.traced)
