-- The first reading of a command.
use Rattle.std.proofs.Common.{◌≡◌, ℕ, ◌+◌, ◌<◌, List, Option, Some, None, Bool, true, false, refl, ap, ◌∙◌, arith}
use Rattle.std.specs.Prelude.{◌-◌, nat_lt, nat_le, if◌then◌else◌, ◌&&◌}
use Rattle.plx_geom.specs.Geometry.{Geometry, image_lease, lease_at, lease_count}
use Rattle.plx_rules.specs.Process.{Process, Ends, ReadThen, WriteThen, ClockThen, UntilThen}
use Rattle.plx_rules.specs.Attaching.{attach_process}
use Rattle.plx_rules.specs.Boot.{In, after_process, place_of}
use Rattle.plx_rules.specs.Commands.{attached_process}
use Rattle.plx_rules.specs.Ends.{End}
use Rattle.plx_rules.specs.Holds.{Hold, Nothing, Seen, Wrote, Waited, Held, after_first, first_hold, session_at}
use Rattle.plx_rules.specs.Machines.{Asks}
use Rattle.plx_rules.specs.Session.{Known, Session}
use Rattle.plx_rules.specs.Settings.{Setting}
use Rattle.plx_commands.specs.declared.command.Command.{Command}
use Rattle.plx_appliance.specs.Begins.{waiting_process}
use Rattle.plx_appliance.specs.Holding.{HoldsAs, first_extents, first_leases, hold_without_claim}
use Rattle.plx_appliance.specs.Tokens.{lease_holds_at}
use Rattle.plx_appliance.specs.declared.begun.Begun.{Begun}
use Rattle.plx_appliance.specs.declared.begun.Begun.TheVariants as begun
use Rattle.plx_appliance.proofs.RenewBegins.{renew-agrees}
use Rattle.plx_appliance.proofs.SpaceBegins.{reserve-agrees, retire-agrees, same-extents}
use Rattle.plx_base.proofs.Tests.{nat_lt-tells}

-- what asks stays in its command
pub place-asks : (known : Known) (command : Command) (process : Process End) → Asks process → place_of known command process ≡ In known command process
place-asks known command (Ends end) asks = absurd asks
place-asks known command (ReadThen block rest fault) asks = refl
place-asks known command (WriteThen kind block bytes guard done fault missed) asks = refl
place-asks known command (ClockThen rest) asks = refl
place-asks known command (UntilThen from rest) asks = refl

pub holds-asks : (process : Process End) (holds : ℕ → Hold) → Asks process → after_process process holds ≡ holds
holds-asks (Ends end) holds asks = absurd asks
holds-asks (ReadThen block rest fault) holds asks = refl
holds-asks (WriteThen kind block bytes guard done fault missed) holds asks = refl
holds-asks (ClockThen rest) holds asks = refl
holds-asks (UntilThen from rest) holds asks = refl

-- a hold at the first reading, by what is left of it
first-settled : (session : Option Session) (reading : ℕ) (hold : Hold) → first_hold session reading hold ≡ first_hold session reading (hold_without_claim hold)
first-settled None reading Nothing = refl
first-settled None reading (Seen sample) = refl
first-settled None reading (Wrote claim until) = refl
first-settled None reading (Waited claim until) = refl
first-settled None reading (Held claim until) = refl
first-settled (Some session) reading Nothing = refl
first-settled (Some session) reading (Seen sample) = refl
first-settled (Some session) reading (Wrote claim until) = refl
first-settled (Some session) reading (Waited claim until) = refl
first-settled (Some session) reading (Held claim until) = refl

pub first-nothing : (session : Option Session) (reading : ℕ) → first_hold session reading Nothing ≡ Nothing
first-nothing None reading = refl
first-nothing (Some session) reading = refl

-- the first reading, block by block
first-hold-by-block : (b c : Bool) (session : Option Session) (reading : ℕ) (hold other : Hold) →
    first_hold (if b then session else None) reading (if b then hold else if c then other else Nothing)
    ≡ (if b then first_hold session reading hold else if c then first_hold None reading other else Nothing)
first-hold-by-block true c session reading hold other = refl
first-hold-by-block false true session reading hold other = refl
first-hold-by-block false false session reading hold other = refl

pub first-agrees : (g : Geometry) (known : Known) (reading : ℕ) (leases extents : ℕ → Hold) (holds : ℕ → Hold) → HoldsAs g leases extents holds →
    (lease : ℕ) → lease < lease_count g → after_first g known reading holds (lease_at lease) ≡ lease_holds_at g (first_leases known reading leases) (first_extents reading extents) (lease_at lease)
first-agrees g known reading leases extents holds h lease within =
    let block = lease_at lease in
    let b = nat_le 2 block && nat_lt block (2 + g.images) in
    first-settled (session_at g known block) reading (holds block)
    ∙ ap (first_hold (session_at g known block) reading) (h lease within)
    ∙ first-hold-by-block b (nat_le (2 + g.images) block) (known.sessions (block - 2)) reading (leases (block - 2)) (extents (block - (2 + g.images)))

-- a process that goes by one hold, where it is looked at
attach-agrees : (s : Setting) (known : Known) (image : ℕ) (session : Option Session) (within : Bool) (hold other : Hold) → (within ≡ true → hold ≡ other) →
    attach_process s known image session within hold ≡ attach_process s known image session within other
attach-agrees s known image (Some session) within hold other e = refl
attach-agrees s known image None true hold other e = ap (attach_process s known image None true) (e refl)
attach-agrees s known image None false hold other e = refl

attached-agrees : (s : Setting) (known : Known) (image : ℕ) (session : Option Session) (within : Bool) (hold other : Hold) (reading : ℕ) (rest : Session → ℕ → Process End) → (within ≡ true → hold ≡ other) →
    attached_process s known image session within hold reading rest ≡ attached_process s known image session within other reading rest
attached-agrees s known image None within hold other reading rest e = refl
attached-agrees s known image (Some session) true hold other reading rest e = ap (λ h. attached_process s known image (Some session) true h reading rest) (e refl)
attached-agrees s known image (Some session) false hold other reading rest e = refl

at-image : (g : Geometry) (holds others : ℕ → Hold) (image : ℕ) → ((lease : ℕ) → lease < lease_count g → holds (lease_at lease) ≡ others (lease_at lease)) →
    nat_lt image g.images ≡ true → holds (lease_at (image_lease image)) ≡ others (lease_at (image_lease image))
at-image g holds others image h within =
    let below : image < g.images = nat_lt-tells image g.images within in
    h (image_lease image) (omega (arith, below))

-- a command that has begun goes by the leases alone
pub begun-agrees : (s : Setting) (known : Known) (holds others : ℕ → Hold) (hand : List ℕ) (reading : ℕ) (b : Begun) →
    ((lease : ℕ) → lease < lease_count s.geometry → holds (lease_at lease) ≡ others (lease_at lease)) →
    waiting_process s known holds hand reading b ≡ waiting_process s known others hand reading b
begun-agrees s known holds others hand reading (begun.Attach slot room) h =
    attach-agrees s known slot.0 (known.sessions slot.0) (nat_lt slot.0 s.geometry.images) _ _ (at-image s.geometry holds others slot.0 h)
begun-agrees s known holds others hand reading (begun.Detach slot lease) h =
    attached-agrees s known slot.0 (known.sessions slot.0) (nat_lt slot.0 s.geometry.images) _ _ reading _ (at-image s.geometry holds others slot.0 h)
begun-agrees s known holds others hand reading (begun.Image slot command) h =
    attached-agrees s known slot.0 (known.sessions slot.0) (nat_lt slot.0 s.geometry.images) _ _ reading _ (at-image s.geometry holds others slot.0 h)
begun-agrees s known holds others hand reading (begun.Renew renewals lease) h = renew-agrees s known holds others reading h
begun-agrees s known holds others hand reading (begun.Reserve need room lease) h =
    reserve-agrees s known holds others hand need.count (same-extents s.geometry holds others h)
begun-agrees s known holds others hand reading (begun.Retire room extent_lease image_lease) h = retire-agrees s known holds others hand h
