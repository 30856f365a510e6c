-- What a detach still asks.
use Rattle.std.specs.Prelude.{None}
use Rattle.plx_base.specs.declared.write_kind.WriteKind.TheVariants as kind
use Rattle.plx_commands.specs.declared.reply.Reply.TheVariants as reply
use Rattle.plx_geom.specs.Geometry.{image_lease, lease_at}
use Rattle.plx_rules.specs.Ends.{End, ends, write_then}
use Rattle.plx_rules.specs.Process.{Process}
use Rattle.plx_rules.specs.Session.{Known, with_session}
use Rattle.plx_session.specs.Giving.{rules_setting}
use Rattle.plx_session.specs.Leases.{leased_use}
use Rattle.plx_appliance.specs.declared.detach.Detach.{Detach}

-- a detach
abbrev pub detach_rest : Known → Detach → Process End
detach_rest known d =
    write_then (rules_setting d.image.setting) known (leased_use d.image) kind.Release (lease_at (image_lease d.image.slot.0)) d.spelled
    (ends reply.Detached (with_session known d.image.slot.0 None))
