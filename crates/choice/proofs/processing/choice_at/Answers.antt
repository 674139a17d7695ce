use mathlib.Core.Path.{refl, sym, ◌∙◌}
use Rattle.negotiation.specs.laws.State.{state_of}
use Rattle.choice.proofs.processing.choice_at.Goals as goal

pub opponent_rules-requires : goal.opponent_rules-requires
unfolding state_of
opponent_rules-requires c = (
  c.requires.0,
  c.requires.1,
  c.requires.2,
  record { number = c.requires.3; expression = refl; unprocessed = sym c.is_processed.ensures ∙ c.if-is_processed.false; opponent = c.if-p-side.false },
)
