-- What a command of an attached image asks.
use Rattle.std.specs.Prelude.{ℕ}
use Rattle.plx_rules.specs.Commands.{create_process, delete_process, read_process, write_process}
use Rattle.plx_rules.specs.Ends.{End}
use Rattle.plx_rules.specs.Process.{Process}
use Rattle.plx_rules.specs.Session.{Known, Session}
use Rattle.plx_rules.specs.Settings.{Setting}
use Rattle.plx_session.specs.declared.command.ImageCommand.{ImageCommand}
use Rattle.plx_session.specs.declared.command.ImageCommand.TheVariants as image

-- what a command of an attached image asks of the image's session, up to the end of its lease
abbrev pub image_process : Setting → Known → (image : ℕ) → ImageCommand → Session → (until : ℕ) → Process End
image_process s known slot (image.Create size label record') = create_process s known slot size label
image_process s known slot (image.Delete record') = delete_process s known slot
image_process s known slot (image.Read vblock block) = read_process s known slot vblock
image_process s known slot (image.Write vblock block descriptor) = write_process s known slot vblock block
