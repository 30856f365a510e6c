-- The write that a boot waits for rests on what its place gives.
use Rattle.std.proofs.Common.{◌≡◌, ℕ, ◌<◌, List, length, Some, None, refl, ap, sym, subst, ◌∙◌, arith}
use Rattle.std.proofs.lemmas.Option.{slice_get_within}
use Rattle.plx_base.proofs.Tests.{same-some}
use Rattle.plx_base.specs.declared.write_kind.WriteKind.{WriteKind}
use Rattle.plx_commands.proofs.Places.{at-all, at-other, at-same}
use Rattle.plx_commands.specs.Places.{at}
use Rattle.plx_commands.specs.declared.command.Command.{Command}
use Rattle.plx_commands.specs.declared.event.Event.{Event}
use Rattle.plx_geom.specs.Geometry.{Geometry}
use Rattle.plx_rules.specs.Boot.{In, Place, configuration}
use Rattle.plx_rules.specs.Ends.{End}
use Rattle.plx_rules.specs.Owners.{RestsAsAsked, WaitsRestAsAsked}
use Rattle.plx_rules.specs.Process.{Process, WriteThen}
use Rattle.plx_rules.specs.Rests.{rests_on}
use Rattle.plx_rules.specs.Session.{Known}
use Rattle.plx_rules.specs.World as world
use Rattle.plx_rules.specs.World.{World, Reached, Seat, Step, setting_at, stands}
use Rattle.law_lease.proofs.LeaseSteps.{reached-leased}
use Rattle.law_lease.proofs.Leased.{Leased}

-- the same, of a seat
abbrev SeatRests : Geometry → (rests : ℕ → List ℕ) → (appliance : ℕ) → Seat → Type 0
SeatRests g rests a seat = (number : ℕ) → seat.pending ≡ Some number →
    RestsAsAsked g (rests number) (configuration (setting_at g a seat.boots) seat.log) (configuration (setting_at g a seat.boots) seat.log).place

abbrev AllRest : World → Type 0
AllRest w = (a : ℕ) → a < w.appliances → SeatRests w.geometry w.rests a (w.seats a)

-- a seat that waits for no write
unwaited-rests : (w : World) (a : ℕ) (seat : Seat) → seat.pending ≡ None → AllRest w → (b : ℕ) → b < w.appliances → SeatRests w.geometry w.rests b (at w.seats a seat b)
unwaited-rests w a seat free old b below = at-all (λ c s. c < w.appliances → SeatRests w.geometry w.rests c s) w.seats a seat
    (λ under n waits. absurd (let e : None ≡ Some n = sym free ∙ waits in let P : ⊥ = cc in P)) (λ c ne under. old c under) b below

-- a write is issued
issued-rests : (w : World) (leased : Leased w) (a : ℕ) (known : Known) (command : Command) (k : WriteKind) (block : ℕ) (bytes : List ℕ) (guard : ℕ) (done fault : Process End) (missed : ℕ → Process End) →
    (stands w a).place ≡ In known command (WriteThen k block bytes guard done fault missed) → AllRest w → (b : ℕ) → b < w.appliances →
    SeatRests w.geometry (at w.rests (length w.surface.writes) (rests_on w.geometry command (stands w a).holds (stands w a).filled k block bytes)) b
    (at w.seats a (record (w.seats a) { pending = Some (length w.surface.writes) }) b)
issued-rests w leased a known command k block bytes guard done fault missed here old b below =
    at-all (λ c s. c < w.appliances → SeatRests w.geometry since c s) w.seats a (record (w.seats a) { pending = Some (length w.surface.writes) }) (λ under n waits. own n waits) (λ c ne under n waits. other c under n waits) b below
  where
    leases : List ℕ
    leases = rests_on w.geometry command (stands w a).holds (stands w a).filled k block bytes

    since : ℕ → List ℕ
    since = at w.rests (length w.surface.writes) leases

    own : (n : ℕ) → Some (length w.surface.writes) ≡ Some n → RestsAsAsked w.geometry (since n) (stands w a) (stands w a).place
    own n waits =
        let last : since n ≡ leases = ap since (sym (same-some (length w.surface.writes) n waits)) ∙ at-same w.rests (length w.surface.writes) leases in
        subst (λ (q : Place). RestsAsAsked w.geometry (since n) (stands w a) q) (sym here) last

    other : (c : ℕ) → c < w.appliances → (n : ℕ) → (w.seats c).pending ≡ Some n → RestsAsAsked w.geometry (since n) (stands w c) (stands w c).place
    other c under n waits =
        let asked = (leased.seated c under).asked n waits in
        let less = slice_get_within w.surface.writes n asked.0 asked.1 in
        subst (λ (l : List ℕ). RestsAsAsked w.geometry l (stands w c) (stands w c).place) (sym (at-other w.rests (length w.surface.writes) n leases (λ e. omega (arith, less, e)))) (old c under n waits)

keeps-rests : {w v : World} {event : Event} → Step w event v → Leased w → AllRest w → AllRest v
keeps-rests (world.ticks room) leased old = old
keeps-rests (world.starts {w = w} {appliance = a} known below here whole built) leased old = unwaited-rests w a.0 _ refl old
keeps-rests (world.begins {w = w} {appliance = a} known command below here is) leased old = unwaited-rests w a.0 _ refl old
keeps-rests (world.reads {w = w} {appliance = a} known command block rest fault below here) leased old = unwaited-rests w a.0 _ refl old
keeps-rests (world.read_faults {w = w} {appliance = a} known command block rest fault below here) leased old = unwaited-rests w a.0 _ refl old
keeps-rests (world.issues {w = w} {appliance = a} known command what block bytes guard done fault missed below here free) leased old =
    issued-rests w leased a.0 known command what block bytes guard done fault missed here old
keeps-rests (world.lands number write below back may) leased old = old
keeps-rests (world.dones {w = w} {appliance = a} known command what block bytes guard done fault missed number below here waited whole) leased old = unwaited-rests w a.0 _ refl old
keeps-rests (world.write_faults {w = w} {appliance = a} known command what block bytes guard done fault missed below here) leased old = unwaited-rests w a.0 _ refl old
keeps-rests (world.misses {w = w} {appliance = a} known command what block bytes guard done fault missed below here free past is) leased old = unwaited-rests w a.0 _ refl old
keeps-rests (world.clocks {w = w} {appliance = a} known command rest below here is) leased old = unwaited-rests w a.0 _ refl old
keeps-rests (world.waits {w = w} {appliance = a} known command from rest below here is past) leased old = unwaited-rests w a.0 _ refl old
keeps-rests (world.crashes {w = w} {appliance = a} below room) leased old = unwaited-rests w a.0 _ refl old

reached-rests : {w : World} → Reached w → AllRest w
reached-rests (world.first geometry some few formatted) = λ a below n waits. absurd (let P : ⊥ = cc in P)
reached-rests (world.later reached step) = keeps-rests step (reached-leased reached) (reached-rests reached)

pub waits-rest-as-asked : WaitsRestAsAsked
waits-rest-as-asked w reached a number below waits = reached-rests reached a below number waits
