-- Renewals and releases in commands.
use Rattle.std.proofs.Common.{◌≡◌, ◌+◌, ℕ, None, refl}
use Rattle.plx_base.specs.declared.lease.Claim.{Claim}
use Rattle.plx_commands.specs.declared.reply.Reply.TheVariants as reply
use Rattle.plx_geom.specs.Geometry.{image_lease}
use Rattle.plx_rules.specs.Process.{Process}
use Rattle.plx_rules.specs.Commands.{detach_process, later_of, renewal}
use Rattle.plx_rules.specs.Ends.{End, ends}
use Rattle.plx_rules.specs.Holds.{Held}
use Rattle.plx_rules.specs.Processes.{followed_by}
use Rattle.plx_rules.specs.Session.{Session, Known, with_session}
use Rattle.plx_rules.specs.Settings.{Setting}
use Rattle.plx_rules.specs.Times.{term}
use Rattle.law_run.specs.Releases.{release_process}
use Rattle.law_run.specs.Renewals.{renewal_process}
use Rattle.plx_lease.specs.Following.{after_release, after_renewal}

-- a held lease is renewed, and the command goes on
pub renewal-followed : (s : Setting) (known : Known) (reading lease : ℕ) (claim : Claim) (until : ℕ) (rest : Process End) →
    renewal s known reading lease (Held claim until) rest ≡ followed_by (renewal_process lease claim until (later_of until (reading + term))) (after_renewal s known lease rest)
renewal-followed s known reading lease claim until rest = refl

-- a detach is a release
pub detach-followed : (s : Setting) (known : Known) (image : ℕ) (session : Session) (until : ℕ) →
    detach_process s known image session until ≡ followed_by (release_process (image_lease image) until) (after_release s known (image_lease image) (ends reply.Detached (with_session known image None)))
detach-followed s known image session until = refl
