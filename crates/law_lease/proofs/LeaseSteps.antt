-- What holds of the leases in the first world stays at each step.
use Rattle.std.proofs.Common.{◌≡◌, ℕ, zero, suc, ◌+◌, ◌-◌, ◌^◌, ◌≤◌, ◌<◌, inl, inr, List, [], ◌∷◌, ◌++◌, Bool, true, false, Option, Some, None, refl, ap, sym, subst, ◌∙◌, arith, length, slice_set}
use Rattle.std.specs.Prelude.{slice_get}
use Rattle.std.proofs.lemmas.Bool.Decides.{eqb_tells, leb_tells}
use Rattle.std.proofs.lemmas.List.{length-set}
use Rattle.std.proofs.lemmas.Option.{slice_get_within}
use Rattle.plx_base.proofs.Devices.{put-all}
use Rattle.plx_base.proofs.Landed.{length-landed}
use Rattle.plx_base.specs.Sectors.{Device, put, with_landed_sector}
use Rattle.plx_base.specs.declared.lease.LeaseRecord.TheVariants.{Free, Claimed}
use Rattle.plx_base.specs.declared.numbers.ExtentNo.{ExtentNo}
use Rattle.plx_base.specs.declared.numbers.SlotNo.{SlotNo}
use Rattle.plx_base.specs.declared.write_kind.WriteKind.{WriteKind}
use Rattle.plx_base.specs.declared.write_kind.WriteKind.TheVariants as kind
use Rattle.plx_commands.proofs.Places.{at-all, at-same, at-other}
use Rattle.plx_commands.specs.Places.{at}
use Rattle.plx_commands.specs.declared.command.Command.{Command}
use Rattle.plx_commands.specs.declared.entry.Entry.{Entry}
use Rattle.plx_commands.specs.declared.event.Event.{Event}
use Rattle.plx_disk.proofs.Lists.{set-same, set-other, push-last, push-before}
use Rattle.plx_disk.specs.Writes.{Issued, all_sectors, fresh_write, with_sector, HasLanded}
use Rattle.plx_disk.specs.declared.ask.Ask.TheVariants as ask
use Rattle.plx_disk.specs.declared.ask.Answer.TheVariants as answer
use Rattle.plx_geom.specs.Geometry.{Geometry, IsGeometry, lease_count, image_lease, extent_lease, lease_at}
use Rattle.plx_geom.specs.declared.place.Place.TheVariants as place
use Rattle.plx_gate.specs.Leases.{lease_bytes}
use Rattle.plx_rules.specs.Process.{Process, Ends, ReadThen, WriteThen, ClockThen, UntilThen}
use Rattle.plx_rules.specs.Boot.{BootEntry, Began, Asked, Place, Idle, Begins, In, Configuration, configuration, place_of, after_process, goes_to, place_after_begin, first_process, went_on}
use Rattle.plx_rules.specs.Claims.{claim_of}
use Rattle.plx_rules.specs.Commands.{IsWellFormed}
use Rattle.plx_rules.specs.Ends.{End}
use Rattle.plx_rules.specs.Formatted.{IsFormatted}
use Rattle.plx_rules.specs.Hands.{filled_held, hand_held}
use Rattle.plx_rules.specs.Holds.{Hold, no_holds, after_answer, after_write, after_first, session_at, hold_after_reading}
use Rattle.plx_rules.specs.Rests.{rests_on}
use Rattle.plx_rules.specs.Session.{Known}
use Rattle.plx_rules.specs.Settings.{Setting, boot_number}
use Rattle.plx_rules.specs.Histories.{Past}
use Rattle.plx_rules.specs.World as world
use Rattle.plx_rules.specs.World.{World, Seat, Step, Reached, IsReadingAt, first_world, setting_at}
use Rattle.plx_rules.specs.Times.{term}
use Rattle.law_lease.proofs.EachCommand.{lawful-command}
use Rattle.law_lease.proofs.LeaseFrames.{Shrinks, good-shrinks}
use Rattle.law_lease.proofs.LeaseGoes.{good-process, good-timed, good-first, lease-at-log, good-free, good-read, good-written}
use Rattle.law_lease.proofs.LeaseIssues.{lease-issued}
use Rattle.law_lease.proofs.LeaseLands.{lease-lands}
use Rattle.law_lease.proofs.Leased.{MayIssue, LawfulRest, LawfulAt, IsLiveWrite, Good, GoodSeat, LeaseOn, IsPlaced, IsRight, IsAskedAt, IsLawfulSeat, Leased}
use Rattle.law_lease.proofs.Lists.{push-cases, none-some}

-- ---- time passes

lease-ticks : (g : Geometry) (rests : ℕ → List ℕ) (appliances time later : ℕ) (device : Device) (writes : List Issued) (seats : ℕ → Seat) (lease : ℕ) → time ≤ later →
    LeaseOn g rests appliances time device writes seats lease → LeaseOn g rests appliances later device writes seats lease
lease-ticks g rests appliances time later device writes seats lease passed on =
    let old : (m : ℕ) (x : Issued) → IsLiveWrite rests later writes lease m x → IsLiveWrite rests time writes lease m x =
    λ m x is. record { found = is.found; needs = is.needs; missing = is.missing; live = (let l = is.live in omega arith) } in
    let shrinks : Shrinks rests rests time later writes writes lease = λ m x is. (x, old m x is) in
    record {
      standing = on.standing;
      limits = on.limits;
      spells = on.spells;
      alone = λ m n x y one other. on.alone m n x y (old m x one) (old n y other);
      backed = λ m x is. (let b = on.backed m x (old m x is) in
          record { claim = b.claim; until = b.until; there = b.there; owner = b.owner; guarded = b.guarded; waited = (let w = b.waited in omega arith); of_kind = b.of_kind });
      claims = λ m x there is here. (let c = on.claims m x there is here in record {
        claim = c.claim;
        spells = c.spells;
        limits = c.limits;
        owner = c.owner;
        guarded = c.guarded;
        waits = λ first live. (let w = c.waits first (omega arith) in record { sampled = (let s = w.sampled in omega arith); clear = w.clear });
      });
      each = λ a below. good-shrinks rests rests time later writes writes lease on.standing (boot_number a (seats a).boots) (seats a).pending passed shrinks _ (on.each a below);
    }

-- ---- an appliance goes on

-- only a write waits for one that is issued
pub not-waiting : (g : Geometry) (time : ℕ) (writes : List Issued) (a : ℕ) (seat : Seat) (place : Place) → IsLawfulSeat g time writes a seat →
    (configuration (setting_at g a seat.boots) seat.log).place ≡ place → ((boot : ℕ) (x : Issued) → IsAskedAt place boot x → ⊥) → seat.pending ≡ None
not-waiting g time writes a seat place is here no-ask = by_pending seat.pending refl
  where
    by_pending : (q : Option ℕ) → seat.pending ≡ q → seat.pending ≡ None
    by_pending None e = e
    by_pending (Some n) e =
        let asked = is.asked n e in
        absurd (no-ask (boot_number a seat.boots) asked.0
        (let P : Place → Type 0 = λ p. IsAskedAt p (boot_number a seat.boots) asked.0 in subst P here asked.2))

lawful-placed : (g : Geometry) (boot : ℕ) (known : Known) (command : Command) (holds : ℕ → Hold) (filled : List (ℕ × List ℕ)) (sample : Option ℕ) (process : Process End) →
    LawfulRest g boot command holds (filled_held g holds filled) sample process →
    LawfulAt g boot (after_process process holds) (filled_held g (after_process process holds) filled) sample (place_of known command process)
lawful-placed g boot known command holds filled sample (Ends end) lawful = tt
lawful-placed g boot known command holds filled sample (ReadThen block rest fault) lawful = lawful
lawful-placed g boot known command holds filled sample (WriteThen k block bytes guard done fault missed) lawful = lawful
lawful-placed g boot known command holds filled sample (ClockThen rest) lawful = lawful
lawful-placed g boot known command holds filled sample (UntilThen from rest) lawful = lawful

module _ (w : World) (leased : Leased w) (a : ℕ) (below : a < w.appliances) (trace : List Entry) (history : List Past) where
  abbrev g : Geometry
  g = w.geometry

  abbrev time : ℕ
  time = w.surface.time

  abbrev writes : List Issued
  writes = w.surface.writes

  abbrev seat : Seat
  seat = w.seats a

  abbrev setting : Setting
  setting = setting_at w.geometry a (w.seats a).boots

  abbrev boot : ℕ
  boot = setting.boot

  abbrev with-log : List BootEntry → World
  with-log log = record w {
    seats = at w.seats a (record { boots = (w.seats a).boots; log = log; pending = None });
    trace = trace;
    history = history;
  }

  -- the log leads to a configuration that waits for no write
  log-leased : (log : List BootEntry) (q : Configuration) → configuration setting log ≡ q →
      ((lease : ℕ) (within : lease < lease_count g) → Good w.rests time writes lease (leased.on lease within).standing boot None (q.holds (lease_at lease))) →
      LawfulAt g boot q.holds q.filled q.sample q.place → ((s : ℕ) → q.sample ≡ Some s → s ≤ time + 50) → Leased (with-log log)
  log-leased log q leads good lawful sampled = record {
    geometry = leased.geometry;
    few = leased.few;
    early = leased.early;
    long = leased.long;
    right = leased.right;
    seated = at-all (λ b s. b < w.appliances → IsLawfulSeat g time writes b s) w.seats a _
        (λ below'. record {
          boots = (leased.seated a below).boots;
          lawful = (let P : Configuration → Type 0 = λ r. LawfulAt g boot r.holds r.filled r.sample r.place in subst P (sym leads) lawful);
          sampled = (let P : Configuration → Type 0 = λ r. (s : ℕ) → r.sample ≡ Some s → s ≤ time + 50 in subst P (sym leads) sampled);
          asked = λ n e. absurd (none-some n e);
        })
        (λ b ne below'. leased.seated b below');
    on = λ lease within. lease-at-log g w.rests w.appliances time w.surface.device writes w.seats lease (leased.on lease within) a log q leads (good lease within);
  }

  -- an ask was answered
  went-leased : (log : List BootEntry) (known : Known) (command : Command) (holds : ℕ → Hold) (hand : List ℕ) (filled : List (ℕ × List ℕ)) (sample : Option ℕ) (found : Option (ℕ × List ℕ)) {latest : ℕ} (process : Process End) →
      configuration setting log ≡ goes_to g known command holds hand filled sample found latest process →
      ((lease : ℕ) (within : lease < lease_count g) → Good w.rests time writes lease (leased.on lease within).standing boot None (holds (lease_at lease))) →
      LawfulRest g boot command holds (filled_held g holds filled) sample process → ((s : ℕ) → sample ≡ Some s → s ≤ time + 50) → Leased (with-log log)
  went-leased log known command holds hand filled sample found {latest} process leads good lawful sampled =
      log-leased log (goes_to g known command holds hand filled sample found latest process) leads
      (λ lease within. good-process w.rests time writes lease (leased.on lease within).standing boot process holds (lease_at lease) (good lease within))
      (lawful-placed g boot known command holds filled sample process lawful) sampled

  abbrev p : Configuration
  p = configuration setting seat.log

  lawful-at : (place : Place) → p.place ≡ place → LawfulAt g boot p.holds p.filled p.sample place
  lawful-at place here = let P : Place → Type 0 = λ q. LawfulAt g boot p.holds p.filled p.sample q in subst P here (leased.seated a below).lawful

  pub start-leased : (known : Known) (command : Command) → p.place ≡ Idle known → IsWellFormed command → Leased (with-log (Began command ∷ seat.log))
  start-leased known command here whole =
      let free = not-waiting g time writes a seat (Idle known) (leased.seated a below) here (λ b x no'. no') in
      log-leased (Began command ∷ seat.log) (record p { sample = None; found = None; place = place_after_begin command p.place }) refl
      (λ lease within. good-free g w.rests w.appliances time w.surface.device writes w.seats lease (leased.on lease within) a below free)
      (let P : Place → Type 0 = λ q. LawfulAt g boot p.holds p.filled None (place_after_begin command q) in subst P (sym here) whole)
      (λ s e. absurd (none-some s e))

  -- a reading is below 2 ^ 48
  soon : (reading : ℕ) → IsReadingAt reading time → reading < 2 ^ 48
  soon reading is = let e = is.early in let t = leased.early in omega arith

  some-same : (x y : ℕ) → Some x ≡ Some y → x ≡ y
  some-same x y e = cc

  pub begin-leased : (known : Known) (command : Command) (reading : ℕ) → p.place ≡ Begins known command → IsReadingAt reading time →
      Leased (with-log (Asked ask.Clock [] (answer.Reading reading) ∷ seat.log))
  begin-leased known command reading here is =
      let free = not-waiting g time writes a seat (Begins known command) (leased.seated a below) here (λ b x no'. no') in
      went-leased (Asked ask.Clock [] (answer.Reading reading) ∷ seat.log) known command (after_first g known reading p.holds) _ [] (Some reading) _
      (first_process setting known reading command p)
      (ap (went_on setting ask.Clock [] (answer.Reading reading) p) here)
      (λ lease within. good-first w.rests time writes lease (leased.on lease within).standing boot (session_at g known (lease_at lease)) reading (p.holds (lease_at lease))
      (good-free g w.rests w.appliances time w.surface.device writes w.seats lease (leased.on lease within) a below free))
      (lawful-command setting leased.geometry (let many = leased.few in let boots = (leased.seated a below).boots in omega (arith, below, many, boots)) known p.holds (hand_held g (after_first g known reading p.holds) p.hand) reading command (soon reading is) (lawful-at (Begins known command) here))
      (λ s e. let f = some-same reading s e in let l = is.early in omega (arith, f, l))

  module _ (known : Known) (command : Command) where
    pub read-leased : (block : ℕ) (rest : List ℕ → Process End) (fault : Process End) → p.place ≡ In known command (ReadThen block rest fault) →
        Leased (with-log (Asked (ask.Read (record { 0 = block })) [] (answer.Bytes (w.surface.device block)) ∷ seat.log))
    read-leased block rest fault here =
        let free = not-waiting g time writes a seat _ (leased.seated a below) here (λ b x no'. no') in
        let bytes = w.surface.device block in
        went-leased (Asked (ask.Read (record { 0 = block })) [] (answer.Bytes bytes) ∷ seat.log) known command
        (after_answer p.sample (ask.Read (record { 0 = block })) [] (answer.Bytes bytes) p.holds) _ _ None _ (rest bytes)
        (ap (went_on setting (ask.Read (record { 0 = block })) [] (answer.Bytes bytes) p) here)
        (λ lease within. good-read g w.rests w.appliances time w.surface.device writes w.seats lease (leased.on lease within) a below free (leased.seated a below).sampled block)
        ((lawful-at (In known command (ReadThen block rest fault)) here).0 bytes)
        (λ s e. absurd (none-some s e))

    pub fault-leased : (block : ℕ) (rest : List ℕ → Process End) (fault : Process End) → p.place ≡ In known command (ReadThen block rest fault) →
        Leased (with-log (Asked (ask.Read (record { 0 = block })) [] answer.Fault ∷ seat.log))
    fault-leased block rest fault here =
        let free = not-waiting g time writes a seat _ (leased.seated a below) here (λ b x no'. no') in
        went-leased (Asked (ask.Read (record { 0 = block })) [] answer.Fault ∷ seat.log) known command p.holds _ _ None _ fault
        (ap (went_on setting (ask.Read (record { 0 = block })) [] answer.Fault p) here)
        (λ lease within. good-free g w.rests w.appliances time w.surface.device writes w.seats lease (leased.on lease within) a below free)
        (lawful-at (In known command (ReadThen block rest fault)) here).1
        (λ s e. absurd (none-some s e))

    pub clock-leased : (rest : ℕ → Process End) (reading : ℕ) → p.place ≡ In known command (ClockThen rest) → IsReadingAt reading time →
        Leased (with-log (Asked ask.Clock [] (answer.Reading reading) ∷ seat.log))
    clock-leased rest reading here is =
        let free = not-waiting g time writes a seat _ (leased.seated a below) here (λ b x no'. no') in
        went-leased (Asked ask.Clock [] (answer.Reading reading) ∷ seat.log) known command (λ block. hold_after_reading reading (p.holds block)) _ _ (Some reading) _ (rest reading)
        (ap (went_on setting ask.Clock [] (answer.Reading reading) p) here)
        (λ lease within. good-timed w.rests time writes lease (leased.on lease within).standing boot reading (p.holds (lease_at lease)) is.early
        (good-free g w.rests w.appliances time w.surface.device writes w.seats lease (leased.on lease within) a below free))
        (lawful-at (In known command (ClockThen rest)) here reading (soon reading is))
        (λ s e. let f = some-same reading s e in let l = is.early in omega (arith, f, l))

    pub wait-leased : (from : ℕ) (rest : ℕ → Process End) (reading : ℕ) → p.place ≡ In known command (UntilThen from rest) → IsReadingAt reading time → from ≤ reading →
        Leased (with-log (Asked (ask.Until from) [] (answer.Reading reading) ∷ seat.log))
    wait-leased from rest reading here is past =
        let free = not-waiting g time writes a seat _ (leased.seated a below) here (λ b x no'. no') in
        went-leased (Asked (ask.Until from) [] (answer.Reading reading) ∷ seat.log) known command (λ block. hold_after_reading reading (p.holds block)) _ _ (Some reading) _ (rest reading)
        (ap (went_on setting (ask.Until from) [] (answer.Reading reading) p) here)
        (λ lease within. good-timed w.rests time writes lease (leased.on lease within).standing boot reading (p.holds (lease_at lease)) is.early
        (good-free g w.rests w.appliances time w.surface.device writes w.seats lease (leased.on lease within) a below free))
        (lawful-at (In known command (UntilThen from rest)) here reading past (soon reading is))
        (λ s e. let f = some-same reading s e in let l = is.early in omega (arith, f, l))

    -- a write is answered
    module _ (what : WriteKind) (block : ℕ) (bytes : List ℕ) (guard : ℕ) (done fault : Process End) (missed : ℕ → Process End)
        (here : p.place ≡ In known command (WriteThen what block bytes guard done fault missed)) where
      pub write-fault-leased : Leased (with-log (Asked (ask.Write what (record { 0 = block }) guard) bytes answer.Fault ∷ seat.log))
      write-fault-leased =
          went-leased (Asked (ask.Write what (record { 0 = block }) guard) bytes answer.Fault ∷ seat.log) known command no_holds _ _ None _ fault
          (ap (went_on setting (ask.Write what (record { 0 = block }) guard) bytes answer.Fault p) here)
          (λ lease within. tt) (lawful-at _ here).2 (λ s e. absurd (none-some s e))

      pub miss-leased : (reading : ℕ) → Leased (with-log (Asked (ask.Write what (record { 0 = block }) guard) bytes (answer.Missed reading) ∷ seat.log))
      miss-leased reading =
          went-leased (Asked (ask.Write what (record { 0 = block }) guard) bytes (answer.Missed reading) ∷ seat.log) known command no_holds _ _ None _ (missed reading)
          (ap (went_on setting (ask.Write what (record { 0 = block }) guard) bytes (answer.Missed reading) p) here)
          (λ lease within. tt) ((lawful-at _ here).3 reading) (λ s e. absurd (none-some s e))

      pub done-leased : (n : ℕ) → seat.pending ≡ Some n → HasLanded w.surface n →
          Leased (with-log (Asked (ask.Write what (record { 0 = block }) guard) bytes answer.Done ∷ seat.log))
      done-leased n waited landed =
          let asked = (leased.seated a below).asked n waited in
          let write = asked.0 in
          let same : landed.0 ≡ write = (let e : Some landed.0 ≡ Some write = sym landed.1 ∙ asked.1 in cc) in
          let all : write.landed ≡ all_sectors = ap (λ (x : Issued). x.landed) (sym same) ∙ landed.2 in
          let P : Place → Type 0 = λ q. IsAskedAt q boot write in
          let asked' = subst P here asked.2 in
          went-leased (Asked (ask.Write what (record { 0 = block }) guard) bytes answer.Done ∷ seat.log) known command (after_write what block bytes p.holds) _ _ None _ done
          (ap (went_on setting (ask.Write what (record { 0 = block }) guard) bytes answer.Done p) here)
          (λ lease within.
          let good = good-written g w.rests w.appliances time w.surface.device writes w.seats lease (leased.on lease within) a below leased.few (leased.seated a below).boots n write waited asked.1 all asked.2
          (leased.seated a below).lawful in
          let G : WriteKind → ℕ → List ℕ → Type 0 = λ k b x. Good w.rests time writes lease (leased.on lease within).standing boot None (after_write k b x p.holds (lease_at lease)) in
          subst (λ (x : List ℕ). G what block x) asked'.2 (subst (λ (b : ℕ). G what b write.bytes) asked'.1 (subst (λ (k : WriteKind). G k write.block write.bytes) asked'.0 good)))
          (lawful-at _ here).1
          (λ s e. absurd (none-some s e))

-- ---- a write is issued, or a sector of one lands

pub placed-may : (g : Geometry) (b : ℕ) (holds : ℕ → Hold) (rests : List ℕ) (k : WriteKind) (block : ℕ) (bytes : List ℕ) (guard : ℕ) → MayIssue g b holds rests k block bytes guard → IsPlaced g k block bytes rests
placed-may g b holds rests kind.Claim block bytes guard may =
    (may.lease, may.within, may.at_lease, (Claimed (claim_of b may.number may.sample) (may.sample + term), may.spells), may.alone)
placed-may g b holds rests kind.Renew block bytes guard may = (may.lease, may.within, may.at_lease, (Claimed may.claim may.next, may.spells), may.alone)
placed-may g b holds rests kind.Release block bytes guard may = (may.lease, may.within, may.at_lease, (Free, may.spells), may.alone)
placed-may g b holds rests kind.Take block bytes guard may = may.placed
placed-may g b holds rests kind.Give block bytes guard may = may.placed
placed-may g b holds rests kind.Sweep block bytes guard may = may.placed
placed-may g b holds rests kind.Fresh block bytes guard may = may.placed
placed-may g b holds rests kind.Record block bytes guard may = may.placed
placed-may g b holds rests kind.JData block bytes guard may = may.placed
placed-may g b holds rests kind.JCommit block bytes guard may = may.placed
placed-may g b holds rests other block bytes guard may = absurd may

-- the write that is waited for, where a sector of some write has landed
asked-landed : (writes : List Issued) (number sector : ℕ) (write : Issued) → slice_get writes number ≡ Some write → (place : Place) (boot n : ℕ) (x : Issued) → slice_get writes n ≡ Some x →
    IsAskedAt place boot x → (y : Issued) × (slice_get (slice_set writes number (with_sector write sector)) n ≡ Some y) × IsAskedAt place boot y
asked-landed writes number sector write found place boot n x there asked = elim (eqb_tells n number) [
  | inl same ↦
      let is : x ≡ write = (let P : ℕ → Type 0 = λ k. slice_get writes k ≡ Some x in let e : Some x ≡ Some write = sym (subst P same.1 there) ∙ found in cc) in
      let P : ℕ → Type 0 = λ k. slice_get (slice_set writes number (with_sector write sector)) k ≡ Some (with_sector write sector) in (
        with_sector write sector,
        subst P (sym same.1) (set-same writes number (with_sector write sector) write found),
        asked-sector place boot write sector (let Q : Issued → Type 0 = λ z. IsAskedAt place boot z in subst Q is asked),
      )
  | inr away ↦ (x, set-other writes number n (with_sector write sector) away.1 ∙ there, asked)
]
  where
    asked-sector : (place : Place) (boot : ℕ) (write : Issued) (sector : ℕ) → IsAskedAt place boot write → IsAskedAt place boot (with_sector write sector)
    asked-sector (In known command (WriteThen what block bytes guard done fault missed)) boot write sector asked = asked
    asked-sector (Idle known) boot write sector asked = absurd asked
    asked-sector (Begins known command) boot write sector asked = absurd asked
    asked-sector (In known command (Ends end)) boot write sector asked = absurd asked
    asked-sector (In known command (ReadThen block rest fault)) boot write sector asked = absurd asked
    asked-sector (In known command (ClockThen rest)) boot write sector asked = absurd asked
    asked-sector (In known command (UntilThen from rest)) boot write sector asked = absurd asked

-- a flag that is there is one of eight
sector-below : (flags : List Bool) (sector : ℕ) → length flags ≡ 8 → slice_get flags sector ≡ Some false → sector < 8
sector-below flags sector eight there = omega (arith, eight, slice_get_within flags sector false there)

-- each block keeps its length where a sector lands
long-landed : (device : Device) (block sector : ℕ) (bytes : List ℕ) → ((b : ℕ) → length (device b) ≡ 4096) → length bytes ≡ 4096 → sector < 8 →
    (b : ℕ) → length (put device block (with_landed_sector sector bytes (device block)) b) ≡ 4096
long-landed device block sector bytes long whole below =
    put-all (λ b x. length x ≡ 4096) device block (with_landed_sector sector bytes (device block))
    (length-landed sector bytes (device block) (omega (arith, whole, below)) (omega (arith, long block, below)) ∙ long block)
    (λ b ne. long b)

-- each step keeps it
pub keeps-leases : {w v : World} {event : Event} → Step w event v → Leased w → Leased v
keeps-leases (world.ticks {w = w} {by = by} room) leased = record {
  geometry = leased.geometry;
  few = leased.few;
  early = room;
  long = leased.long;
  right = leased.right;
  seated = λ a below. (let s = leased.seated a below in
      record { boots = s.boots; lawful = s.lawful; sampled = λ n e. (let t = s.sampled n e in omega arith); asked = s.asked });
  on = λ lease within. lease-ticks w.geometry w.rests w.appliances w.surface.time (w.surface.time + by) w.surface.device w.surface.writes w.seats lease (omega arith) (leased.on lease within);
}
keeps-leases (world.starts {w = w} {appliance = a} {command = command} known below here whole built) leased = start-leased w leased a.0 below _ _ known command here whole
keeps-leases (world.begins {w = w} {appliance = a} {reading = reading} known command below here is) leased = begin-leased w leased a.0 below _ _ known command reading here is
keeps-leases (world.reads {w = w} {appliance = a} known command block rest fault below here) leased = read-leased w leased a.0 below _ _ known command block rest fault here
keeps-leases (world.read_faults {w = w} {appliance = a} known command block rest fault below here) leased = fault-leased w leased a.0 below _ _ known command block rest fault here
keeps-leases (world.issues {w = w} {appliance = a} known command what block bytes guard done fault missed below here free) leased =
    let boot = boot_number a.0 (w.seats a.0).boots in
    let p = configuration (setting_at w.geometry a.0 (w.seats a.0).boots) (w.seats a.0).log in
    let leases = rests_on w.geometry command p.holds p.filled what block bytes in
    let P : Place → Type 0 = λ q. LawfulAt w.geometry boot p.holds p.filled p.sample q in
    let may : MayIssue w.geometry boot p.holds leases what block bytes guard = (subst P here (leased.seated a.0 below).lawful).0 in
    let long : length bytes ≡ 4096 = (subst P here (leased.seated a.0 below).lawful).4 in
    let write = fresh_write boot what block bytes guard in
    record {
      geometry = leased.geometry;
      few = leased.few;
      early = leased.early;
      long = leased.long;
      right = λ n x there. elim (push-cases w.surface.writes write x n there) [
        | inl old ↦
            let within = slice_get_within w.surface.writes n x old in
            subst (λ (l : List ℕ). IsRight w.geometry l x) (sym (at-other w.rests (length w.surface.writes) n leases (λ e. omega (arith, within, e)))) (leased.right n x old)
        | inr fresh ↦
            let same : at w.rests (length w.surface.writes) leases n ≡ leases = ap (at w.rests (length w.surface.writes) leases) fresh.0 ∙ at-same w.rests (length w.surface.writes) leases in
            subst (λ (y : Issued). IsRight w.geometry (at w.rests (length w.surface.writes) leases n) y) fresh.1
            (subst (λ (l : List ℕ). IsRight w.geometry l write) (sym same)
            (record { placed = placed-may w.geometry boot p.holds leases what block bytes guard may; flags = refl; long = long; uncancelled = refl }))
      ];
      seated = at-all (λ b s. b < w.appliances → IsLawfulSeat w.geometry w.surface.time (w.surface.writes ++ write ∷ []) b s) w.seats a.0 _
          (λ below'. let s = leased.seated a.0 below in record {
            boots = s.boots;
            lawful = s.lawful;
            sampled = s.sampled;
            asked = λ n e. (let f : length w.surface.writes ≡ n = cc in
                let Q : ℕ → Type 0 = λ k. slice_get (w.surface.writes ++ write ∷ []) k ≡ Some write in
                let R : Place → Type 0 = λ q. IsAskedAt q boot write in
                (write, subst Q f (push-last w.surface.writes write), subst R (sym here) (refl, refl, refl, refl, refl)));
          })
          (λ b ne below'. let s = leased.seated b below' in record {
            boots = s.boots;
            lawful = s.lawful;
            sampled = s.sampled;
            asked = λ n e. (let x = s.asked n e in (x.0, push-before w.surface.writes write x.0 n x.1, x.2));
          });
      on = λ lease within. lease-issued w.geometry w.rests w.appliances w.surface.time w.surface.device w.surface.writes w.seats lease within leased.geometry leased.few (leased.on lease within) a.0 below
          (leased.seated a.0 below).boots free leases what block bytes guard
          (λ b q ne below' h e. (let x = (leased.seated b below').asked h e in push-before w.surface.writes write x.0 h x.1 ∙ sym x.1)) may;
    }
keeps-leases (world.lands {w = w} {appliance = a} {back = back} {sector = sector} number write below back' may) leased = record {
  geometry = leased.geometry;
  few = leased.few;
  early = leased.early;
  long = long-landed w.surface.device write.block sector write.bytes leased.long (leased.right number write may.found).long (sector-below write.landed sector (leased.right number write may.found).flags may.missing);
  right = λ n x there. elim (eqb_tells n number) [
    | inl same ↦
        let r = leased.right number write may.found in
        let e : x ≡ with_sector write sector = (let P : ℕ → Type 0 = λ k. slice_get (slice_set w.surface.writes number (with_sector write sector)) k ≡ Some x in
        let f : Some x ≡ Some (with_sector write sector) = sym (subst P same.1 there) ∙ set-same w.surface.writes number (with_sector write sector) write may.found in cc) in
        subst (λ (y : Issued). IsRight w.geometry (w.rests n) y) (sym e) (record { placed = (let P : ℕ → Type 0 = λ k. IsPlaced w.geometry write.kind write.block write.bytes (w.rests k) in subst P (sym same.1) r.placed); flags = length-set write.landed sector true ∙ r.flags; long = r.long; uncancelled = r.uncancelled })
    | inr away ↦ leased.right n x (sym (set-other w.surface.writes number n (with_sector write sector) away.1) ∙ there)
  ];
  seated = λ b below'. (let s = leased.seated b below' in record {
    boots = s.boots;
    lawful = s.lawful;
    sampled = s.sampled;
    asked = λ n e. (let x = s.asked n e in asked-landed w.surface.writes number sector write may.found _ _ n x.0 x.1 x.2);
  });
  on = λ lease within. lease-lands w.geometry w.rests w.appliances w.surface.time w.surface.device w.surface.writes w.seats lease within (leased.on lease within) leased.seated number sector write may.found
      may.missing may.early (leased.right number write may.found);
}
keeps-leases (world.dones {w = w} {appliance = a} known command what block bytes guard done fault missed number below here waited whole) leased =
    done-leased w leased a.0 below _ _ known command what block bytes guard done fault missed here number waited whole
keeps-leases (world.write_faults {w = w} {appliance = a} known command what block bytes guard done fault missed below here) leased =
    write-fault-leased w leased a.0 below _ _ known command what block bytes guard done fault missed here
keeps-leases (world.misses {w = w} {appliance = a} {reading = reading} known command what block bytes guard done fault missed below here free past is) leased =
    miss-leased w leased a.0 below _ _ known command what block bytes guard done fault missed here reading
keeps-leases (world.clocks {w = w} {appliance = a} {reading = reading} known command rest below here is) leased = clock-leased w leased a.0 below _ _ known command rest reading here is
keeps-leases (world.waits {w = w} {appliance = a} {reading = reading} known command from rest below here is past) leased =
    wait-leased w leased a.0 below _ _ known command from rest reading here is past
keeps-leases (world.crashes {w = w} {appliance = a} below room) leased = record {
  geometry = leased.geometry;
  few = leased.few;
  early = leased.early;
  long = leased.long;
  right = leased.right;
  seated = at-all (λ b s. b < w.appliances → IsLawfulSeat w.geometry w.surface.time w.surface.writes b s) w.seats a.0 _
      (λ below'. record { boots = room; lawful = tt; sampled = λ n e. absurd (none-some n e); asked = λ n e. absurd (none-some n e) })
      (λ b ne below'. leased.seated b below');
  on = λ lease within. (let on = leased.on lease within in record {
    standing = on.standing;
    limits = on.limits;
    spells = on.spells;
    alone = on.alone;
    backed = on.backed;
    claims = on.claims;
    each = at-all (λ b s. b < w.appliances → GoodSeat w.geometry w.rests w.surface.time w.surface.writes lease on.standing b s) w.seats a.0
        (record { boots = (w.seats a.0).boots + 1; log = []; pending = None }) (λ below'. tt) (λ b ne below'. on.each b below');
  });
}

-- every lease of a formatted device is free
lease-formatted : (g : Geometry) (device : Device) → IsFormatted g device → (lease : ℕ) → lease < lease_count g → device (lease_at lease) ≡ lease_bytes Free
lease-formatted g device formatted zero within = formatted.places place.RootLease tt
lease-formatted g device formatted (suc lease) within = elim (leb_tells (suc lease) g.images) [
  | inl below ↦
      let slot : SlotNo = record { 0 = lease } in
      let e : lease_at (suc lease) ≡ lease_at (image_lease lease) = omega arith in
      ap device e ∙ formatted.places (place.ImageLease slot) below.1
  | inr above ↦
      let extent : ExtentNo = record { 0 = lease - g.images } in
      let e : lease_at (suc lease) ≡ lease_at (extent_lease g (lease - g.images)) = omega (arith, above.1) in
      ap device e ∙ formatted.places (place.ExtentLease extent) (omega (arith, above.1, within))
]

-- the first world has it
pub first-leased : (g : Geometry) (appliances : ℕ) (device : Device) → IsGeometry g → appliances ≤ 8 → IsFormatted g device → Leased (first_world g appliances device)
first-leased g appliances device geometry few formatted = record {
  geometry = geometry;
  few = few;
  early = omega arith;
  long = formatted.whole;
  right = λ n x there. cc;
  seated = λ a below. record { boots = omega arith; lawful = tt; sampled = λ n e. absurd (none-some n e); asked = λ n e. absurd (none-some n e) };
  on = λ lease within. record {
    standing = Free;
    limits = tt;
    spells = lease-formatted g device formatted lease within;
    alone = λ m n x y one other. absurd (let e = one.found in let P : ⊥ = cc in P);
    backed = λ m x is. absurd (let e = is.found in let P : ⊥ = cc in P);
    claims = λ m x there is here. absurd (let P : ⊥ = cc in P);
    each = λ a below. tt;
  };
}

-- and so has every world that events lead to
pub reached-leased : {w : World} → Reached w → Leased w
reached-leased (world.first {g = g} {appliances = appliances} {device = device} geometry some few formatted) = first-leased g appliances device geometry few formatted
reached-leased (world.later reached step) = keeps-leases step (reached-leased reached)
