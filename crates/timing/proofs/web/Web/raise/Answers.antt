-- `raise` stores what the synchronizer rises to.
use Rattle.tables.proofs.Trying.{lifted_by}
use Rattle.timing.proofs.Sweepable.{sweepable}
use Rattle.timing.proofs.web.Web.raise.Goals as goal

pub returns : goal.returns
returns c = lifted_by (sweepable c.args.self.now) c.requires.here c.rises_to-time.ensures
