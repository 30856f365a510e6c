-- What a retire still asks: of the extents by their own machine, and then of the images whose leases are held.
use Rattle.std.specs.Prelude.{◌≡◌, ◌+◌, ◌-◌, ℕ, List, Option, Some, None, Result, Ok, Err}
use Rattle.plx_alloc.specs.Gives.{Around}
use Rattle.plx_alloc.specs.Moving.{TellsRetired, released_at}
use Rattle.plx_alloc.specs.Moving.{retire_ask as extents_ask}
use Rattle.plx_alloc.specs.Retires.{retire_extents_rest as extents_rest}
use Rattle.plx_alloc.specs.Suiting.{SuitsRetire}
use Rattle.plx_alloc.specs.Tables.{hand_numbers, held_hand}
use Rattle.plx_alloc.specs.Tables.{extent_leases as extents_of}
use Rattle.plx_alloc.specs.declared.allocator.Allocator.{Allocator}
use Rattle.plx_alloc.specs.declared.retire.Retire.{Retire as SpaceRetire}
use Rattle.plx_commands.specs.declared.reply.Reply.{Reply}
use Rattle.plx_commands.specs.declared.reply.Reply.TheVariants as reply
use Rattle.plx_disk.specs.declared.ask.Answer.{Answer}
use Rattle.plx_geom.specs.Geometry.{Geometry, image_lease}
use Rattle.plx_rules.specs.Boot.{Fits}
use Rattle.plx_rules.specs.Hands.{found_by, hand_answered}
use Rattle.plx_rules.specs.Process.{Process, bytes_out}
use Rattle.plx_rules.specs.Ends.{End, ends}
use Rattle.plx_rules.specs.Holds.{Hold}
use Rattle.plx_rules.specs.Session.{Known}
use Rattle.plx_rules.specs.Settings.{Setting}
use Rattle.plx_rules.specs.Space.{release_then, retire_images, retire_lease}
use Rattle.plx_session.specs.Ending.{enter_process, known_after}
use Rattle.plx_session.specs.Giving.{rules_setting}
use Rattle.plx_appliance.specs.Kept.{known_by}
use Rattle.plx_appliance.specs.Lent.{Lent}
use Rattle.plx_appliance.specs.Releasing.{image_leases_after_release}
use Rattle.plx_session.specs.Leases.{leased_use}
use Rattle.plx_appliance.specs.Tokens.{image_leases}
use Rattle.plx_appliance.specs.declared.lease.Leases.{Leases}
use Rattle.plx_session.specs.declared.leased.Leased.{Leased}
use Rattle.plx_appliance.specs.declared.retire.Retire.{Retire}
use Rattle.plx_appliance.specs.declared.retire.RetireStage.{RetireStage}
use Rattle.plx_appliance.specs.declared.retire.RetireStage.TheVariants as stage
use Rattle.plx_appliance.specs.declared.sessions.Sessions.{Sessions}
use Rattle.plx_session.specs.declared.setting.Setting.{Setting as Own}

-- ---- the images

-- what is asked of the images from one on, by their leases; the root's lease is never held
abbrev pub images_from : Setting → Known → (leases : ℕ → Hold) → (image : ℕ) → Process End
images_from s known leases image = retire_images s known (λ block. leases (block - 2)) (s.geometry.images - image) image (ends reply.Retired known)

-- the release of the lease of an image, and those after it
abbrev pub image_rest : Setting → (leases : ℕ → Hold) → Known → Leased → Process End
image_rest s leases known image = release_then s known (leased_use image) (images_from s known leases (image.slot.0 + 1))

-- a lease that is due is released, where there is one
abbrev pub due_if : Setting → Known → Option Leased → (rest : Process End) → Process End
due_if s known None rest = rest
due_if s known (Some image) rest = release_then s known (leased_use image) rest

-- this is the lease of an image, where it is due
abbrev pub IsDue : Own → Sessions → Leases → (image : ℕ) → Option Leased → Type 0
IsDue setting sessions leases image found = (claims : ℕ) (rest : Process End) →
    due_if (rules_setting setting) (known_by sessions claims) found rest
    ≡ retire_lease (rules_setting setting) (known_by sessions claims) (image_lease image) ((known_by sessions claims).sessions image) (image_leases leases.leases.items image) rest

-- this is the image whose lease is due next, of images from one on, or the reply once none is left
abbrev pub IsNextDue : Own → Sessions → Leases → (from : ℕ) → Result Leased Reply → Type 0
IsNextDue setting sessions leases from next = (claims : ℕ) →
    enter_process (image_rest (rules_setting setting) (image_leases leases.leases.items)) (known_by sessions claims) next
    ≡ images_from (rules_setting setting) (known_by sessions claims) (image_leases leases.leases.items) from

-- ---- the stages

-- what the retire of the extents is a part of: the images follow
abbrev pub around_of : Setting → (appliance : ℕ) → Known → (leases : ℕ → Hold) → Around
around_of s appliance known leases = record { appliance = appliance; sessions = known.sessions; rest = images_from s known leases 0 }

-- what a retire still asks: of the extents and then of the images, or the release of an image's lease and those after it
abbrev pub retire_stage_rest : RetireStage → Lent → Retire → Process End
retire_stage_rest (stage.Extents m) lent r = extents_rest (around_of (rules_setting r.setting) r.setting.appliance.0 lent.known lent.leases) lent.space m
retire_stage_rest (stage.Image image) lent r = image_rest (rules_setting r.setting) lent.leases lent.known image

-- what a retire still asks, at its stage
abbrev pub retire_images_rest : Lent → Retire → Process End
retire_images_rest lent r = retire_stage_rest r.stage lent r

-- what is left once a retire had its first reading: its rest, or its end with this reply
abbrev pub retire_entered : Lent → Result Retire Reply → Process End
retire_entered lent (Ok r) = retire_images_rest lent r
retire_entered lent (Err reply) = ends reply (known_after reply lent.known)

-- a retire at an extent suits what is kept of space, and one at an image is for its setting
abbrev pub retire_suits : Allocator → Own → RetireStage → Type 0
retire_suits space setting (stage.Extents m) = SuitsRetire space m
retire_suits space setting (stage.Image image) = image.setting ≡ setting

-- what was read last tells which blocks the write of a map gives back
abbrev pub retire_tells : Geometry → RetireStage → Option (ℕ × List ℕ) → Type 0
retire_tells g (stage.Extents m) found = TellsRetired g m found
retire_tells g (stage.Image image) found = Unit {0}

-- a retire stands at an image of this setting
abbrev pub IsAtImage : Own → RetireStage → Type 0
IsAtImage setting (stage.Extents m) = ⊥
IsAtImage setting (stage.Image image) = image.setting ≡ setting

-- ---- how it moves

-- a retire at an extent was answered: a release that is done changes what is held of its lease, and what was read last tells what is given back
pub record ExtentMoves (m : SpaceRetire) (new : Retire) (answer : Answer) (before after : Lent) (result : Option Reply) : Type 0 where
  pub images : after.leases ≡ before.leases
  pub extents : extents_of after.space ≡ released_at m.at answer m.giving.extent.0 (extents_of before.space)
  pub hand : (o : Around) (found : Option (ℕ × List ℕ)) (bytes : List ℕ) → TellsRetired before.space.geometry m found → bytes ≡ bytes_out (extents_rest o before.space m) →
      hand_numbers after.space ≡ held_hand before.space.geometry (extents_of after.space) (hand_answered before.space.geometry found (extents_ask m) bytes answer (hand_numbers before.space))
  pub found : Fits (extents_ask m) answer → result ≡ None → retire_tells after.space.geometry new.stage (found_by (extents_ask m) answer)

-- a retire at an image was answered: a release that is done changes what is held of its lease
pub record ImageMoves (image : Leased) (new : Retire) (answer : Answer) (before after : Lent) (result : Option Reply) : Type 0 where
  pub images : after.leases ≡ image_leases_after_release answer image.slot.0 before.leases
  pub space : after.space ≡ before.space
  pub tells : (g : Geometry) (found : Option (ℕ × List ℕ)) → result ≡ None → retire_tells g new.stage found

-- a retire was answered: how far it has come, by its stage
abbrev pub retire_moves : RetireStage → (new : Retire) → Answer → (before after : Lent) → Option Reply → Type 0
retire_moves (stage.Extents m) new answer before after result = ExtentMoves m new answer before after result
retire_moves (stage.Image image) new answer before after result = ImageMoves image new answer before after result
