-- The reader that is passed on has the message and the index that were lent.
use Rattle.std.specs.Prelude.{length}
use Rattle.std.proofs.Common.{◌∙◌}
use Rattle.message.specs.Command.{command_at}
use Rattle.reader.specs.laws.Position.{behind_in}
use Rattle.reader.specs.laws.PositionLaws.{behind-read}
use Rattle.reader.proofs.next_command.Goals as goal

pub returns : goal.returns
returns c =
    let message = c.start-r.ensures.0 in
    let at = c.start-r.ensures.1 in
    let answer = c.command-answer.ensures ∙ (λ i. command_at (message i).now (at i)) in (
      answer,
      c.advance-behind.ensures.1 ∙ (λ i. behind_in (length (message i).now) (at i) (answer i)) ∙ behind-read c.args.message.now c.args.at,
    )
