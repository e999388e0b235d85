-- `better` takes the greater for the late side and the lesser for the early one.
use Rattle.timing.proofs.web.Web.better.Goals as goal

pub returns-then-self : goal.returns-then-self
returns-then-self c = rw c.if-self.true c.max.ensures

pub returns-else-self : goal.returns-else-self
returns-else-self c = rw c.if-self.false c.min.ensures
