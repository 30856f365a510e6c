use Rattle.plx_words.proofs.Nested.{none-made}
use Rattle.plx_text.specs.Commands.{built_line}
use Rattle.plx_words.specs.Pieces.{all_spelled}
use Rattle.plx_commands.specs.declared.command.Command.{Command}
use Rattle.plx_text.proofs.event.read_start.Goals as goal

pub returns-in_default : goal.returns-in_default
returns-in_default c = none-made _ _ _ (λ (command : Command) spells. c.in_default.ensures.none _ (all_spelled (built_line command)) spells.0.1.0.1 (cc))
