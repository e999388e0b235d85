-- Each reader follows grammar's, whatever fuel is enough (`Is`): an atom by its first byte, a row part after part (`Reached`).
use mathlib.Core.Path.{refl, sym, ◌∙◌}
use Prim.Native.Nat.{ℕ, ◌<◌}
use Rattle.std.proofs.Common.{arith, Some, None}
use Rattle.grammar.specs.Windows.{opening, between, series, parallel}
use Rattle.grammar.specs.Inside.Reader.{and_then}
use Rattle.grammar.proofs.Places.{behind_found}
use Rattle.grammar.proofs.Rows.{Reached, reached_first, none_first, reached_more, none_more, reached_end, atom_ends, atom_too_deep, atom_bracketed}
use Rattle.text.proofs.windows.+form.Goals as goal

-- ---- an atom
pub read_atom-returns-in_default : goal.read_atom-returns-in_default
read_atom-returns-in_default t c f l =
    c.ends.ensures ∙ atom_ends c.args.depth c.args.text.now c.args.at (sym c.in_default.ensures) f l

pub read_atom-returns-then-depth-eq0 : goal.read_atom-returns-then-depth-eq0
read_atom-returns-then-depth-eq0 t c =
    rw c.if-depth-eq0.true (atom_too_deep c.args.text.now c.args.at c.in-Some.next (sym c.in-Some.ensures))

pub read_atom-read_expression-requires : goal.read_atom-read_expression-requires
read_atom-read_expression-requires t c =
    let here = behind_found c.args.text.now c.args.at opening c.in-Some.next (sym c.in-Some.ensures) in
    (omega (arith, here), tt)

pub read_atom-returns-in_err-w : goal.read_atom-returns-in_err-w
unfolding and_then
read_atom-returns-in_err-w t c f l =
    c.from_residual.ensures
    ∙ atom_bracketed c.args.depth c.args.text.now c.args.at c.in-Some.next None c.if-depth-eq0.false (sym c.in-Some.ensures)
    c.in_err-w.ensures f l

pub read_atom-returns : goal.read_atom-returns
unfolding and_then
read_atom-returns t c f l =
    c.closed.ensures
    ∙ atom_bracketed c.args.depth c.args.text.now c.args.at c.in-Some.next (Some c.in_ok-w.w) c.if-depth-eq0.false (sym c.in-Some.ensures)
    c.in_ok-w.ensures f l

-- ---- a branch
pub read_branch-returns-in_err-w : goal.read_branch-returns-in_err-w
read_branch-returns-in_err-w t c f l =
    c.from_residual.ensures
    ∙ none_first series c.args.depth c.args.text.now c.args.at c.in_err-w.ensures f l

pub read_branch-loop-next-init : goal.read_branch-loop-next-init
read_branch-loop-next-init t c =
    reached_first series c.args.depth c.args.text.now c.args.at c.in_ok-w.w c.in_ok-w.ensures

pub read_branch-read_atom-requires-in-Some : goal.read_branch-read_atom-requires-in-Some
read_branch-read_atom-requires-in-Some t c =
    let here = behind_found c.args.text.now c.loop-next.w.next (between series) c.in-Some.next (sym c.in-Some.ensures) in
    (omega (arith, here, c.loop-next.invariant.onward), tt)

pub read_branch-returns-in_err-read_atom : goal.read_branch-returns-in_err-read_atom
unfolding and_then
read_branch-returns-in_err-read_atom t c f l =
    c.from_residual-in_err-read_atom.ensures
    ∙ none_more series c.args.depth c.args.text.now c.args.at c.in-Some.next c.loop-next.w None c.loop-next.invariant (sym c.in-Some.ensures)
    c.in_err-read_atom.ensures refl f l

pub read_branch-returns-in_err-w-2 : goal.read_branch-returns-in_err-w-2
unfolding and_then
read_branch-returns-in_err-w-2 t c f l =
    c.from_residual-in_err-w-2.ensures
    ∙ none_more series c.args.depth c.args.text.now c.args.at c.in-Some.next c.loop-next.w (Some c.in_ok-read_atom.field-0) c.loop-next.invariant (sym c.in-Some.ensures)
    c.in_ok-read_atom.ensures (sym c.in_err-w-2.ensures) f l

-- one part more
branch_more : (t : ℕ) (c : goal.read_branch-In_ok-w-2 t) → Reached series c.args.depth c.args.text.now c.args.at c.in_ok-w-2.w × (c.loop-next.w.next < c.in_ok-w-2.w.next)
branch_more t c =
    reached_more series c.args.depth c.args.text.now c.args.at c.in-Some.next c.loop-next.w c.in_ok-read_atom.field-0 c.in_ok-w-2.w
    c.loop-next.invariant (sym c.in-Some.ensures) c.in_ok-read_atom.ensures
    (sym c.in_ok-w-2.ensures)

pub read_branch-loop-next-smaller : goal.read_branch-loop-next-smaller
read_branch-loop-next-smaller t c =
    let here = behind_found c.args.text.now c.loop-next.w.next (between series) c.in-Some.next (sym c.in-Some.ensures) in
    omega (arith, here.0, (branch_more t c).1)

pub read_branch-loop-next-preserved : goal.read_branch-loop-next-preserved
read_branch-loop-next-preserved t c = (branch_more t c).0

pub read_branch-returns : goal.read_branch-returns
read_branch-returns t c =
    reached_end series c.args.depth c.args.text.now c.args.at c.loop-next.w c.loop-next.invariant (sym c.in_default.ensures)

-- ---- an expression
pub read_expression-returns-in_err-w : goal.read_expression-returns-in_err-w
read_expression-returns-in_err-w t c f l =
    c.from_residual.ensures
    ∙ none_first parallel c.args.depth c.args.text.now c.args.at c.in_err-w.ensures f l

pub read_expression-loop-next-init : goal.read_expression-loop-next-init
read_expression-loop-next-init t c =
    reached_first parallel c.args.depth c.args.text.now c.args.at c.in_ok-w.w c.in_ok-w.ensures

pub read_expression-read_branch-requires-in-Some : goal.read_expression-read_branch-requires-in-Some
read_expression-read_branch-requires-in-Some t c =
    let here = behind_found c.args.text.now c.loop-next.w.next (between parallel) c.in-Some.next (sym c.in-Some.ensures) in
    (omega (arith, here, c.loop-next.invariant.onward), tt)

pub read_expression-returns-in_err-read_branch : goal.read_expression-returns-in_err-read_branch
unfolding and_then
read_expression-returns-in_err-read_branch t c f l =
    c.from_residual-in_err-read_branch.ensures
    ∙ none_more parallel c.args.depth c.args.text.now c.args.at c.in-Some.next c.loop-next.w None c.loop-next.invariant (sym c.in-Some.ensures)
    c.in_err-read_branch.ensures refl f l

expression_more : (t : ℕ) (c : goal.read_expression-After-in_parallel-w t) →
    Reached parallel c.args.depth c.args.text.now c.args.at c.in_parallel-w.result × (c.loop-next.w.next < c.in_parallel-w.result.next)
expression_more t c =
    reached_more parallel c.args.depth c.args.text.now c.args.at c.in-Some.next c.loop-next.w c.in_ok-read_branch.field-0 c.in_parallel-w.result
    c.loop-next.invariant (sym c.in-Some.ensures) c.in_ok-read_branch.ensures
    (sym c.in_parallel-w.ensures)

pub read_expression-loop-next-smaller : goal.read_expression-loop-next-smaller
read_expression-loop-next-smaller t c =
    let here = behind_found c.args.text.now c.loop-next.w.next (between parallel) c.in-Some.next (sym c.in-Some.ensures) in
    omega (arith, here.0, (expression_more t c).1)

pub read_expression-loop-next-preserved : goal.read_expression-loop-next-preserved
read_expression-loop-next-preserved t c = (expression_more t c).0

pub read_expression-returns : goal.read_expression-returns
read_expression-returns t c =
    reached_end parallel c.args.depth c.args.text.now c.args.at c.loop-next.w c.loop-next.invariant (sym c.in_default.ensures)
