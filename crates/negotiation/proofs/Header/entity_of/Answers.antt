use Rattle.negotiation.specs.laws.Ends.{entity-own, entity-other}
use Rattle.negotiation.proofs.Header.entity_of.Goals as goal

pub returns-then-v-self : goal.returns-then-v-self
returns-then-v-self c = entity-own _ _ c.if-v-self.true

pub returns-else-v-self : goal.returns-else-v-self
returns-else-v-self c = entity-other _ _ c.if-v-self.false
