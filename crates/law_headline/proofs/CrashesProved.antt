-- A crash leaves exactly the fresh appliance of the next boot.
use Rattle.std.proofs.Common.{◌≡◌, ◌≢◌, ◌≤◌, ◌<◌, ◌+◌, ℕ, [], None, refl, ap, subst, sym, ◌∙◌, arith}
use Rattle.plx_base.specs.declared.numbers.ApplianceNo.{ApplianceNo}
use Rattle.plx_commands.specs.declared.event.Event.TheVariants as event
use Rattle.plx_commands.proofs.Places.{at-same, at-other}
use Rattle.plx_commands.specs.Places.{at}
use Rattle.plx_rules.specs.Boot.{Configuration, configuration}
use Rattle.plx_rules.specs.Boots.{IsBoot}
use Rattle.plx_rules.specs.Owners.{hold_at_place, pending_write}
use Rattle.plx_rules.specs.Pools.{hand_at}
use Rattle.plx_rules.specs.Settings.{boot_number}
use Rattle.plx_rules.specs.World as world
use Rattle.plx_rules.specs.World.{World, Seat, Reached, Step, setting_at}
use Rattle.law_lease.proofs.Boots.{boot-numbers-apart, boots-have-numbers}
use Rattle.law_lease.proofs.LeaseSteps.{reached-leased}
use Rattle.law_headline.specs.Crashes.{CrashLeaves, CrashesLeaveFreshBoots, IsNewNumber}

-- the number of an appliance's next boot is new
next-number : (w : World) → Reached w → (a boots : ℕ) → a < w.appliances → boots ≡ (w.seats a).boots + 1 → IsNewNumber w (boot_number a boots)
next-number w reached a boots below next =
    let few = (reached-leased reached).few in
    let unborn : (b k : ℕ) → IsBoot w b k → boot_number b k ≢ boot_number a boots =
    λ b k boot same.
    (let there = boot.below in
    let is = boot-numbers-apart b a k boots (omega (arith, there, few)) (omega (arith, below, few)) same in
    let P : ℕ → Type 0 = λ n. k ≤ (w.seats n).boots in
    let begun = subst P is.0 boot.begun in
    let later = is.1 in
    omega (arith, begun, later, next)) in
    record {
      unborn = unborn;
      unowned = λ n write there same.
          (let owner = (boots-have-numbers w reached).owned n write there in unborn owner.appliance owner.boots owner.begun (sym owner.is ∙ same));
    }

crash-leaves : {w : World} {a : ApplianceNo} {v : World} → Reached w → Step w (event.Crash a) v → CrashLeaves w v a.0
crash-leaves reached (world.crashes {w = w} {appliance = a} below room) =
    let seat : Seat = record { boots = (w.seats a.0).boots + 1; log = []; pending = None } in
    let is = at-same w.seats a.0 seat in
    let next = ap (λ (s : Seat). s.boots) is in
    let fresh = ap (λ (s : Seat). configuration (setting_at w.geometry a.0 s.boots) s.log) is in
    record {
      next = next;
      number = next-number w reached a.0 _ below next;
      log = ap (λ (s : Seat). s.log) is;
      idle = ap (λ (p : Configuration). p.place) fresh;
      leases = λ block. ap (λ (p : Configuration). hold_at_place p.place (pending_write w.surface.writes (at w.seats a.0 seat a.0).pending) block (p.holds block)) fresh;
      hand = ap (λ (p : Configuration). hand_at w.geometry p.place p.found p.filled p.hand) fresh;
      waiting = ap (λ (s : Seat). s.pending) is;
      others = λ b ne. at-other w.seats a.0 b seat ne;
      surface = refl;
    }

pub crashes-leave : CrashesLeaveFreshBoots
crashes-leave w v reached a step = crash-leaves reached step
