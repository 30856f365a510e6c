-- Every world that events lead to meets the headline.
use Rattle.std.proofs.Common.{◌≡◌, ℕ, ◌≤◌, ◌<◌, inl, inr, List, [], drop, refl, ap, sym, subst, ◌∙◌, arith}
use Rattle.plx_base.specs.Sectors.{Device}
use Rattle.plx_commands.specs.Model.{first_slot}
use Rattle.plx_commands.specs.declared.event.Event.{Event}
use Rattle.plx_gate.specs.declared.image.ImageRecord.TheVariants.{Free}
use Rattle.plx_gate.proofs.Descriptors.{read-zeros}
use Rattle.plx_extent.specs.Maps.{HoldsMap}
use Rattle.plx_geom.specs.Geometry.{Geometry, IsGeometry, image_lease, descriptor_at}
use Rattle.plx_geom.specs.declared.place.Place.TheVariants.{Record, JDesc, Map}
use Rattle.plx_rules.specs.Formatted.{IsFormatted}
use Rattle.plx_rules.specs.Headline.{HeadlineOfAll, NeverDamaged, model_in}
use Rattle.plx_rules.specs.Pools.{MapsStay}
use Rattle.plx_rules.specs.World as world
use Rattle.plx_rules.specs.World.{World, Step, Reached, first_seat, first_world}
use Rattle.law_lease.proofs.LeaseSteps.{keeps-leases, first-leased}
use Rattle.law_lease.proofs.Leased.{Leased}
use Rattle.law_lease.proofs.Open.{open-found}
use Rattle.law_headline.proofs.Content.{KeepsContent}
use Rattle.law_headline.proofs.ContentAnswers.{begin-content, clock-content, wait-content, read-content, fault-content, write-fault-content, miss-content, done-content}
use Rattle.law_headline.proofs.ContentEvents.{tick-content, crash-content, start-content}
use Rattle.law_headline.proofs.ContentWrites.{issue-content, land-content}
use Rattle.law_headline.proofs.Journals.{HoldsSlot}
use Rattle.law_headline.proofs.MapFacts.{map-empty}
use Rattle.law_headline.proofs.StoredFacts.{stores-kept}
use Rattle.law_run.proofs.Counted.{counts-tells}
use Rattle.plx_gate.proofs.Images.{image-back}
use Rattle.plx_gate.specs.Images.{read_image}
use Rattle.plx_gate.specs.Descriptors.{read_descriptor}
use Rattle.plx_rules.specs.Stored.{all_of}
use Rattle.plx_base.specs.Blocks.{zeros}

keeps-step : {w v : World} {event : Event} → Step w event v → Leased v → KeepsContent w → KeepsContent v
keeps-step (world.ticks {w = w} {by = by} room) leased content = tick-content w by content leased
keeps-step (world.starts {w = w} {appliance = a} {command = command} known below here well built) leased content = start-content w a.0 command known below here well built content leased
keeps-step (world.begins {w = w} {appliance = a} {reading = reading} known command below here is) leased content = begin-content w content a.0 below known command reading here is leased
keeps-step (world.reads {w = w} {appliance = a} known command block rest fault below here) leased content = read-content w content a.0 below known command block rest fault here leased
keeps-step (world.read_faults {w = w} {appliance = a} known command block rest fault below here) leased content = fault-content w content a.0 below known command block rest fault here leased
keeps-step (world.issues {w = w} {appliance = a} known command what block bytes guard done fault missed below here free) leased content =
    issue-content w content a.0 below known command what block bytes guard done fault missed here free leased
keeps-step (world.lands {w = w} {appliance = a} {back = back} {sector = sector} number write below back' may) leased content =
    land-content w content number sector write may a.0 back leased
keeps-step (world.dones {w = w} {appliance = a} known command what block bytes guard done fault missed number below here waited landed) leased content =
    done-content w content a.0 below known command what block bytes guard done fault missed here number waited landed leased
keeps-step (world.write_faults {w = w} {appliance = a} known command what block bytes guard done fault missed below here) leased content =
    write-fault-content w content a.0 below known command what block bytes guard done fault missed here leased
keeps-step (world.misses {w = w} {appliance = a} {reading = reading} known command what block bytes guard done fault missed below here free past is) leased content =
    miss-content w content a.0 below known command what block bytes guard done fault missed here reading leased
keeps-step (world.clocks {w = w} {appliance = a} {reading = reading} known command rest below here is) leased content = clock-content w content a.0 below known command rest reading here is leased
keeps-step (world.waits {w = w} {appliance = a} {reading = reading} known command from rest below here is past) leased content = wait-content w content a.0 below known command from rest reading here is past leased
keeps-step (world.crashes {w = w} {appliance = a} below room) leased content = crash-content w a.0 below content leased

-- ---- the first world

keeps-first : (g : Geometry) (device : Device) → IsFormatted g device → (i : ℕ) → i < g.images → HoldsSlot g device i first_slot
keeps-first g device formatted i within = record {
  kept = Free 0;
  writes = [];
  journal = record {
    fits = record {
      within = within;
      found = ap read_image (formatted.places (Record (record { 0 = i })) within) ∙ image-back (Free 0) (omega arith);
      plain = refl;
      room = omega arith;
      numbers = λ k write found. absurd (let P : ⊥ = cc in P);
      counts = λ k write found. absurd (let P : ⊥ = cc in P);
      blocks = λ k write found. absurd (let P : ⊥ = cc in P);
      only = λ slot d counts. absurd (let t = (counts-tells g (all_of device) i (Free 0) slot d counts).live in let P : ⊥ = cc in P);
      whole = λ slot below. ap (drop 512) (empty slot below);
    };
    sound = λ slot below. (
      (λ e. (let both = sym (ap read_descriptor (empty slot below) ∙ read-zeros) ∙ e in let P : ⊥ = cc in P)),
      λ d is unapplied. absurd (let P : ⊥ = cc in P),
    );
    old = λ slot below. inl (empty slot below);
  };
  either = inl (record { live = refl; generation = refl; size = refl; label = refl; count = refl; blocks = λ vblock. refl; frozen = refl });
}
  where
    empty : (slot : ℕ) → slot < g.slots → device (descriptor_at g i slot) ≡ zeros
    empty slot below = formatted.places (JDesc (record { 0 = i }) slot) (within, below)

first-content : (g : Geometry) (appliances : ℕ) (device : Device) → IsGeometry g → appliances ≤ 8 → IsFormatted g device → KeepsContent (first_world g appliances device)
first-content g appliances device geometry few formatted = record {
  leased = first-leased g appliances device geometry few formatted;
  told = refl;
  permitted = tt;
  undamaged = tt;
  stored = λ i within. keeps-first g device formatted i within;
  spelled = λ n x found. absurd (let P : ⊥ = cc in P);
  maps = λ extent within. (let low = geometry.blocks_low in let P : List ℕ → Type 0 = λ bytes. HoldsMap g.extent_blocks bytes in
      subst P (sym (formatted.places (Map (record { 0 = extent })) within)) (map-empty g.extent_blocks (omega (arith, low)) geometry.blocks_high));
  hands = λ a below. record { hand = λ extent within. refl; found = tt };
  placed = λ home n x is op. absurd (let e = open-found g (λ number. []) appliances 1000 [] (λ b. first_seat) home n x op in let P : ⊥ = cc in P);
  whose = λ i within n x op of b mine. absurd (let e = open-found g (λ number. []) appliances 1000 [] (λ b'. first_seat) (image_lease i) n x op in let P : ⊥ = cc in P);
  waits = λ n x found all. absurd (let P : ⊥ = cc in P);
  seats = λ a below. (refl, (λ j. refl), (λ k s is. absurd (let P : ⊥ = cc in P)));
  owned = λ i within a below minds. elim minds [ inl grips ↦ absurd (let e = grips.2.0 in let P : ⊥ = cc in P) | inr mine ↦ absurd (let P : ⊥ = cc in P) ];
}

pub reached-content : {w : World} → Reached w → KeepsContent w
reached-content (world.first {g = g} {appliances = appliances} {device = device} geometry some few formatted) = first-content g appliances device geometry few formatted
reached-content (world.later reached step) = let content = reached-content reached in keeps-step step (keeps-leases step content.leased) content

pub headline-of-all : HeadlineOfAll
headline-of-all w reached =
    let content = reached-content reached in
    record {
      told = content.told;
      permitted = content.permitted;
      stored = λ i within. stores-kept w.geometry i w.surface.device ((model_in w).slots i) (content.stored i within);
    }

pub never-damaged : NeverDamaged
never-damaged w reached = (reached-content reached).undamaged

pub maps-stay : MapsStay
maps-stay w reached = (reached-content reached).maps
