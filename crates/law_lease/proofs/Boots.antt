-- Each boot has a number of its own, and the owner of each issued write is the number of a boot.
use Rattle.std.proofs.Common.{◌≡◌, ◌≤◌, ◌<◌, ℕ, ◌⊎◌, inl, inr, Some, refl, ap, sym, subst, ◌∙◌, arith}
use Rattle.std.specs.Prelude.{slice_get, slice_set}
use Rattle.std.proofs.lemmas.Bool.Decides.{eqb_tells}
use Rattle.plx_commands.proofs.Places.{at-all}
use Rattle.plx_commands.specs.Places.{at}
use Rattle.plx_disk.proofs.Lists.{set-same, set-other}
use Rattle.plx_disk.specs.Writes.{Issued, with_sector}
use Rattle.plx_rules.specs.Boots.{IsBoot, IsBootNumber, BootsHaveNumbers}
use Rattle.plx_rules.specs.Settings.{boot_number}
use Rattle.plx_rules.specs.World as world
use Rattle.plx_rules.specs.World.{World, Seat, Step, Reached}
use Rattle.law_lease.proofs.LeaseIssues.{boots-apart}
use Rattle.law_lease.proofs.LeaseSteps.{reached-leased}
use Rattle.law_lease.proofs.Lists.{push-cases}

-- boots of few appliances have two numbers
pub boot-numbers-apart : (a b k l : ℕ) → a < 8 → b < 8 → boot_number a k ≡ boot_number b l → (a ≡ b) × (k ≡ l)
boot-numbers-apart a b k l one other same =
    let is = boots-apart a b k l one other same in (is, omega (arith, same, is))

-- as many appliances are there, each in its boot or in a later one
record Boots (w v : World) : Type 0 where
  pub count : v.appliances ≡ w.appliances
  pub boots : (a : ℕ) → (w.seats a).boots ≤ (v.seats a).boots

-- the boot of one appliance stays, or is a later one
boots-at : (w : World) (a : ℕ) (seat : Seat) → (w.seats a).boots ≤ seat.boots → (b : ℕ) → (w.seats b).boots ≤ (at w.seats a seat b).boots
boots-at w a seat later = at-all (λ b s. (w.seats b).boots ≤ s.boots) w.seats a seat later (λ b ne. omega arith)

step-boots : {w v : World} {event : _} → Step w event v → Boots w v
step-boots (world.ticks room) = record { count = refl; boots = λ a. omega arith }
step-boots (world.starts {w = w} {appliance = a} known below here whole built) = record { count = refl; boots = boots-at w a.0 _ (omega arith) }
step-boots (world.begins {w = w} {appliance = a} known command below here is) = record { count = refl; boots = boots-at w a.0 _ (omega arith) }
step-boots (world.reads {w = w} {appliance = a} known command block rest fault below here) = record { count = refl; boots = boots-at w a.0 _ (omega arith) }
step-boots (world.read_faults {w = w} {appliance = a} known command block rest fault below here) = record { count = refl; boots = boots-at w a.0 _ (omega arith) }
step-boots (world.issues {w = w} {appliance = a} known command kind block bytes guard done fault missed below here free) = record { count = refl; boots = boots-at w a.0 _ (omega arith) }
step-boots (world.lands number write below back may) = record { count = refl; boots = λ a. omega arith }
step-boots (world.dones {w = w} {appliance = a} known command kind block bytes guard done fault missed number below here waited whole) = record { count = refl; boots = boots-at w a.0 _ (omega arith) }
step-boots (world.write_faults {w = w} {appliance = a} known command kind block bytes guard done fault missed below here) = record { count = refl; boots = boots-at w a.0 _ (omega arith) }
step-boots (world.misses {w = w} {appliance = a} known command kind block bytes guard done fault missed below here free past is) = record { count = refl; boots = boots-at w a.0 _ (omega arith) }
step-boots (world.clocks {w = w} {appliance = a} known command rest below here is) = record { count = refl; boots = boots-at w a.0 _ (omega arith) }
step-boots (world.waits {w = w} {appliance = a} known command from rest below here is past) = record { count = refl; boots = boots-at w a.0 _ (omega arith) }
step-boots (world.crashes {w = w} {appliance = a} below room) = record { count = refl; boots = boots-at w a.0 _ (omega arith) }

-- a boot stays one
boot-stays : (w v : World) (a k : ℕ) → Boots w v → IsBoot w a k → IsBoot v a k
boot-stays w v a k later boot =
    let count = later.count in
    let more = later.boots a in
    let below = boot.below in
    let begun = boot.begun in
    record { below = omega (arith, count, below); begun = omega (arith, more, begun) }

number-stays : (w v : World) (number : ℕ) → Boots w v → IsBootNumber w number → IsBootNumber v number
number-stays w v number later is =
    record { appliance = is.appliance; boots = is.boots; begun = boot-stays w v is.appliance is.boots later is.begun; is = is.is }

-- each issued write is a boot's
abbrev AreOwned : World → Type 0
AreOwned w = (number : ℕ) (write : Issued) → slice_get w.surface.writes number ≡ Some write → IsBootNumber w write.owner

-- the write of a step is one of before, with the same owner, or that of a present boot
record IsOwned (w : World) (write : Issued) : Type 0 where
  pub appliance : ℕ
  pub below : appliance < w.appliances
  pub is : write.owner ≡ boot_number appliance (w.seats appliance).boots

step-writes : {w v : World} {event : _} → Step w event v → (number : ℕ) (write : Issued) → slice_get v.surface.writes number ≡ Some write →
    ((before : Issued) × (slice_get w.surface.writes number ≡ Some before) × (write.owner ≡ before.owner)) ⊎ IsOwned w write
step-writes (world.ticks room) n x there = inl (x, there, refl)
step-writes (world.starts known below here whole built) n x there = inl (x, there, refl)
step-writes (world.begins known command below here is) n x there = inl (x, there, refl)
step-writes (world.reads known command block rest fault below here) n x there = inl (x, there, refl)
step-writes (world.read_faults known command block rest fault below here) n x there = inl (x, there, refl)
step-writes (world.issues {w = w} {appliance = a} known command kind block bytes guard done fault missed below here free) n x there =
    elim (push-cases w.surface.writes _ x n there) [
      | inl old ↦ inl (x, old, refl)
      | inr fresh ↦ inr (record { appliance = a.0; below = below; is = ap (λ (y : Issued). y.owner) (sym fresh.1) })
    ]
step-writes (world.lands {w = w} {sector = sector} number write below back may) n x there = elim (eqb_tells n number) [
  | inl same ↦
      let P : ℕ → Type 0 = λ k. slice_get (slice_set w.surface.writes number (with_sector write sector)) k ≡ Some x in
      let Q : ℕ → Type 0 = λ k. slice_get w.surface.writes k ≡ Some write in
      let f : Some x ≡ Some (with_sector write sector) = sym (subst P same.1 there) ∙ set-same w.surface.writes number (with_sector write sector) write may.found in
      let e : x ≡ with_sector write sector = cc in
      inl (write, subst Q (sym same.1) may.found, ap (λ (y : Issued). y.owner) e)
  | inr away ↦ inl (x, sym (set-other w.surface.writes number n (with_sector write sector) away.1) ∙ there, refl)
]
step-writes (world.dones known command kind block bytes guard done fault missed number below here waited whole) n x there = inl (x, there, refl)
step-writes (world.write_faults known command kind block bytes guard done fault missed below here) n x there = inl (x, there, refl)
step-writes (world.misses known command kind block bytes guard done fault missed below here free past is) n x there = inl (x, there, refl)
step-writes (world.clocks known command rest below here is) n x there = inl (x, there, refl)
step-writes (world.waits known command from rest below here is past) n x there = inl (x, there, refl)
step-writes (world.crashes below room) n x there = inl (x, there, refl)

owned-step : (w v : World) {event : _} → Step w event v → AreOwned w → AreOwned v
owned-step w v step owned n x there = elim (step-writes step n x there) [
  | inl old ↦ subst (λ (k : ℕ). IsBootNumber v k) (sym old.2) (number-stays w v old.0.owner (step-boots step) (owned n old.0 old.1))
  | inr fresh ↦
      let below = fresh.below in
      number-stays w v x.owner (step-boots step)
      (record { appliance = fresh.appliance; boots = (w.seats fresh.appliance).boots; begun = record { below = below; begun = omega arith }; is = fresh.is })
]

owned-reached : {w : World} → Reached w → AreOwned w
owned-reached (world.first geometry some few formatted) = λ n x there. absurd (let P : ⊥ = cc in P)
owned-reached (world.later {w = w} {v = v} reached step) = owned-step w v step (owned-reached reached)

-- in every world that events lead to
pub boots-have-numbers : BootsHaveNumbers
boots-have-numbers w reached =
    let few = (reached-leased reached).few in
    record {
      apart = λ a b k l one other same. (let x = one.below in let y = other.below in boot-numbers-apart a b k l (omega (arith, x, few)) (omega (arith, y, few)) same);
      owned = owned-reached reached;
    }
