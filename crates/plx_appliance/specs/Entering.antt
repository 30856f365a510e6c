-- A command at its first reading.
use Rattle.std.specs.Prelude.{◌≡◌, IfOk, Result}
use Rattle.plx_commands.specs.declared.reply.Reply.{Reply}
use Rattle.plx_rules.specs.Process.{Process}
use Rattle.plx_rules.specs.Ends.{End}
use Rattle.plx_appliance.specs.Lent.{lent_of}
use Rattle.plx_appliance.specs.RenewStarts.{leases_in}
use Rattle.plx_appliance.specs.Space.{extents_in, hand_in}
use Rattle.plx_appliance.specs.Works.{IsTied, StartsInside, work_entered, work_suits}
use Rattle.plx_appliance.specs.declared.holdings.Holdings.{Holdings}
use Rattle.plx_session.specs.Works.{image_leased}
use Rattle.plx_session.specs.declared.leased.Leased.{Leased}
use Rattle.plx_appliance.specs.declared.work.Work.{Work}
use Rattle.plx_appliance.specs.declared.work.Work.TheVariants as work

-- a command asks this from its first reading on, its machine is of this boot and begins rightly, and what is kept stays
pub record Enters (old new : Holdings) (asked : Process End) (result : Result Work Reply) : Type 0 where
  pub process : work_entered (lent_of new) result ≡ asked
  pub leases : leases_in new ≡ leases_in old
  pub extents : extents_in new ≡ extents_in old
  pub hand : hand_in new ≡ hand_in old
  pub sessions : new.sessions ≡ old.sessions
  pub setting : new.setting ≡ old.setting
  pub tied : IfOk result (IsTied old.setting)
  pub inside : IfOk result (StartsInside (leases_in old) (extents_in old))
  pub suits : IfOk result (work_suits new.space)

-- a machine of this image, without a claim of its lease
abbrev pub IsOfImage : Leased → Work → Type 0
IsOfImage image (work.Detach d) = d.image ≡ image
IsOfImage image (work.Image w) = image_leased w ≡ image
IsOfImage image other = ⊥
