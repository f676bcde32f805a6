-- Where no byte can be stored, the string is counted. Assumes nothing.
use Rattle.lines.proofs.Sinks.{added_past}
use Rattle.lines.proofs.text.TextSink.put.Goals as goal

pub returns-then-self : goal.returns-then-self
returns-then-self c = added_past _ _ c.if-self.true c.place_after-self.ensures
