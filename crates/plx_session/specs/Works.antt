-- The machine of a command of an attached image: what it still asks, and of which image it is.
use Rattle.plx_rules.specs.Ends.{End}
use Rattle.plx_rules.specs.Process.{Process}
use Rattle.plx_rules.specs.Session.{Known}
use Rattle.plx_session.specs.Rests.{read_rest, record_rest, write_rest}
use Rattle.plx_session.specs.declared.leased.Leased.{Leased}
use Rattle.plx_session.specs.declared.work.ImageWork.{ImageWork}
use Rattle.plx_session.specs.declared.work.ImageWork.TheVariants as work

-- what it still asks
abbrev pub image_rest : Known → ImageWork → Process End
image_rest known (work.Record r) = record_rest known r
image_rest known (work.Read r) = read_rest known r
image_rest known (work.Write w) = write_rest known w

-- its image
abbrev pub image_leased : ImageWork → Leased
image_leased (work.Record r) = r.image
image_leased (work.Read r) = r.image
image_leased (work.Write w) = w.image
