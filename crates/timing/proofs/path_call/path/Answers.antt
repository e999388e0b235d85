-- `path` hands a refused image back as it is, and a good one on.
use mathlib.Core.Path.{sym, ◌∙◌}
use Rattle.std.proofs.lemmas.Result.{err_from_is_err_and}
use Rattle.timing.proofs.RecordsRead.{fits}
use Rattle.timing.specs.PathPromise.{refused}
use Rattle.timing.proofs.path_call.path.Goals as goal

pub returns-in_err-image : goal.returns-in_err-image
returns-in_err-image c =
    let given = err_from_is_err_and c.from_residual.result c.from_residual.ensures.1 in
    rw (given.1, given.2) (refused (sym c.check.ensures ∙ c.in_err-image.was))

pub invariant_of-ask : goal.invariant_of-ask
invariant_of-ask c = let e = sym c.check.ensures ∙ c.in_ok-image.was in record { good = e; fits = fits c.args.bytes.now e }
