-- What holds of the trees stays where a boot begins a command, where an ask is answered, and where a write is issued.
use Rattle.std.proofs.Common.{◌≡◌, ℕ, ◌+◌, ◌<◌, ◌≤◌, inl, inr, List, [], ◌∷◌, Bool, true, false, Option, Some, None, refl, ap, sym, ◌∙◌, subst}
use Rattle.std.specs.Prelude.{slice_get, ◌==◌, if◌then◌else◌}
use Rattle.plx_base.specs.declared.lease.Claim.{Claim}
use Rattle.plx_base.specs.declared.write_kind.WriteKind.{WriteKind}
use Rattle.plx_base.specs.declared.write_kind.WriteKind.TheVariants as kind
use Rattle.plx_commands.proofs.Places.{at-all}
use Rattle.plx_commands.specs.Places.{at}
use Rattle.plx_commands.specs.Replies.{is_in}
use Rattle.plx_commands.specs.declared.command.Command.{Command}
use Rattle.plx_commands.specs.declared.entry.Entry.{Entry}
use Rattle.plx_commands.specs.declared.event.Event.{Event}
use Rattle.plx_disk.specs.Writes.{Issued, HasLanded, all_sectors}
use Rattle.plx_disk.specs.declared.ask.Ask.TheVariants as ask
use Rattle.plx_disk.specs.declared.ask.Answer.TheVariants as answer
use Rattle.plx_extent.specs.Maps.{bits_of}
use Rattle.plx_geom.specs.Geometry.{Geometry, extent_lease, lease_at}
use Rattle.plx_rules.specs.Boot.{BootEntry, Began, Asked, Place, Idle, Begins, In, Configuration, configuration, place_of, after_process, goes_to, place_after_begin, first_process, went_on}
use Rattle.plx_rules.specs.Ends.{End}
use Rattle.plx_rules.specs.Hands.{filled_done, hand_from, hand_unlinked, hand_written, is_held}
use Rattle.plx_rules.specs.Holds.{Hold, Held, no_holds, after_answer, after_write, after_first, session_at, hold_after_reading}
use Rattle.plx_rules.specs.Owners.{first_landed, pending_write}
use Rattle.plx_rules.specs.Process.{Process, ReadThen, WriteThen, ClockThen, UntilThen}
use Rattle.plx_rules.specs.Rests.{extent_of}
use Rattle.plx_rules.specs.Session.{Known}
use Rattle.plx_rules.specs.Settings.{Setting}
use Rattle.plx_rules.specs.Histories.{Past}
use Rattle.plx_rules.specs.World.{World, Seat, setting_at}
use Rattle.plx_rules.proofs.Holds.{first-held, timed-held, nothing-held, process-held}
use Rattle.law_lease.proofs.LeaseFrames.{grip-open}
use Rattle.law_lease.proofs.LeaseLands.{first-set}
use Rattle.law_lease.proofs.LeaseSteps.{not-waiting}
use Rattle.law_lease.proofs.Leased.{IsAskedAt, Leased, grip_at, grip_while}
use Rattle.law_lease.proofs.Open.{open-elsewhere}
use Rattle.law_space.proofs.Held.{hand-held, read-held, written-held}
use Rattle.law_space.proofs.Lists.{in-filter}
use Rattle.law_space.proofs.MapWrites.{hand-after}
use Rattle.law_tree.proofs.Treed.{Treed, FreshSeat, IsFree, due, hand_while}

-- a write that takes and gives no block leaves the hand
from-leaves : (leaves : List ℕ → List ℕ) (g : Geometry) (k : WriteKind) (block : ℕ) (bytes : List ℕ) (f : Option (ℕ × List ℕ)) (hand : List ℕ) (c : ℕ) →
    ((old new : List Bool) → hand_written k block old new hand ≡ hand) → is_in c (leaves (hand_from g f k block bytes hand)) ≡ true → is_in c (leaves hand) ≡ true
from-leaves leaves g k block bytes None hand c same is = is
from-leaves leaves g k block bytes (Some x) hand c same is = by_test (x.0 == block) is
  where
    by_test : (t : Bool) → is_in c (leaves (if t then hand_written k block (bits_of g.extent_blocks x.1) (bits_of g.extent_blocks bytes) hand else hand)) ≡ true → is_in c (leaves hand) ≡ true
    by_test true is' = subst (λ (h : List ℕ). is_in c (leaves h) ≡ true) (same (bits_of g.extent_blocks x.1) (bits_of g.extent_blocks bytes)) is'
    by_test false is' = is'

-- by its kind: a give and a link leave blocks out, a take adds some
done-due : (g : Geometry) (known : Known) (command : Command) (k : WriteKind) (block : ℕ) (bytes : List ℕ) (guard : ℕ) (done fault : Process End) (missed : ℕ → Process End) (found : Option (ℕ × List ℕ))
    (filled : List (ℕ × List ℕ)) (hand : List ℕ) (c : ℕ) → is_in c (hand_unlinked k filled (hand_from g found k block bytes hand)) ≡ true →
    is_in c (hand_while g (In known command (WriteThen k block bytes guard done fault missed)) found filled hand) ≡ true
done-due g known command kind.Take block bytes guard done fault missed found filled hand c is = is
done-due g known command kind.Give block bytes guard done fault missed found filled hand c is = elim (hand-after g found kind.Give block bytes hand c is) [
  | inl before ↦ before
  | inr taken ↦ absurd (let e : kind.Give ≡ kind.Take = taken.take in let P : ⊥ = cc in P)
]
done-due g known command kind.Link block bytes guard done fault missed found filled hand c is = from-leaves (λ h. hand_unlinked kind.Link filled h) g kind.Link block bytes found hand c (λ old new. refl) is
done-due g known command kind.Record block bytes guard done fault missed found filled hand c is = from-leaves (λ h. hand_unlinked kind.Record filled h) g kind.Record block bytes found hand c (λ old new. refl) is
done-due g known command other block bytes guard done fault missed found filled hand c is = from-leaves (λ h. h) g other block bytes found hand c (λ old new. refl) is

module _ (names : ℕ → ℕ → Type 0) (w : World) (leased : Leased w) (treed : Treed names w) (a : ℕ) (below : a < w.appliances) (trace : List Entry) (history : List Past) where
  abbrev g : Geometry
  g = w.geometry

  abbrev time : ℕ
  time = w.surface.time

  abbrev writes : List Issued
  writes = w.surface.writes

  abbrev seat : Seat
  seat = w.seats a

  abbrev setting : Setting
  setting = setting_at w.geometry a (w.seats a).boots

  abbrev p : Configuration
  p = configuration setting (w.seats a).log

  abbrev lease_of : ℕ → ℕ
  lease_of c = lease_at (extent_lease w.geometry (extent_of w.geometry c))

  -- a seat that waits for no write
  abbrev pub with-seat : Seat → World
  with-seat s = record w { seats = at w.seats a s; trace = trace; history = history }

  pub seat-treed : (s : Seat) → s.pending ≡ None → FreshSeat g time w.surface.device writes a s → Treed names (with-seat s)
  seat-treed s free fresh = record {
    shared = treed.shared;
    rooted = treed.rooted;
    fresh = at-all (λ b x. b < w.appliances → FreshSeat g time w.surface.device writes b x) w.seats a s (λ under. fresh) (λ b ne under. treed.fresh b under);
    placed = λ home n x is op. treed.placed home n x is (open-elsewhere g w.rests w.appliances time writes w.seats home a s free n x op);
    waits = λ n x found all. treed.waits n x found (λ lease under. open-elsewhere g w.rests w.appliances time writes w.seats lease a s free n x (all lease under));
  }

  abbrev with-log : List BootEntry → Seat
  with-log log = record { boots = (w.seats a).boots; log = log; pending = None }

  log-treed : (log : List BootEntry) (q : Configuration) → configuration setting log ≡ q →
      ((c : ℕ) → is_in c q.hand ≡ true → (claim : Claim) (until : ℕ) → grip_at q.place None (lease_of c) (q.holds (lease_of c)) ≡ Held claim until → time ≤ until + 50 → IsFree g w.surface.device c) →
      Treed names (with-seat (with-log log))
  log-treed log q leads free = seat-treed (with-log log) refl
      (λ c is claim until grips.
      (let P : Configuration → Type 0 = λ r. is_in c r.hand ≡ true in
      let Q : Configuration → Type 0 = λ r. grip_at r.place None (lease_of c) (r.holds (lease_of c)) ≡ Held claim until in
      free c (subst P leads is) claim until (subst Q leads grips.0) grips.1))

  went-treed : (log : List BootEntry) (known : Known) (command : Command) (holds : ℕ → Hold) (hand : List ℕ) (filled : List (ℕ × List ℕ)) (sample : Option ℕ) (found : Option (ℕ × List ℕ)) {latest : ℕ} (process : Process End) →
      configuration setting log ≡ goes_to g known command holds hand filled sample found latest process →
      ((c : ℕ) → is_in c hand ≡ true → (claim : Claim) (until : ℕ) → holds (lease_of c) ≡ Held claim until → time ≤ until + 50 → IsFree g w.surface.device c) → Treed names (with-seat (with-log log))
  went-treed log known command holds hand filled sample found {latest} process leads free =
      log-treed log (goes_to g known command holds hand filled sample found latest process) leads
      (λ c is claim until e live. free c (in-filter (λ b. is_held (after_process process holds (lease_at (extent_lease g (extent_of g b))))) c hand is).0 claim until
      (process-held process holds (lease_of c) claim until (sym (grip-open (place_of known command process) None (lease_of c) (after_process process holds (lease_of c)) refl) ∙ e)) live)

  -- what is in hand where no write is waited for
  free-hand : seat.pending ≡ None → (c : ℕ) → is_in c p.hand ≡ true → (claim : Claim) (until : ℕ) → p.holds (lease_of c) ≡ Held claim until → time ≤ until + 50 → IsFree g w.surface.device c
  free-hand none c is claim until held live =
      let D : Option ℕ → Type 0 = λ o. is_in c (due g o p.place p.found p.filled p.hand) ≡ true in
      let K : Option ℕ → Type 0 = λ o. grip_at p.place (pending_write writes o) (lease_of c) (p.holds (lease_of c)) ≡ Held claim until in
      treed.fresh a below c (subst D (sym none) is) claim until (subst K (sym none) (grip-open p.place None (lease_of c) (p.holds (lease_of c)) refl ∙ held), live)

  pub start-treed : (known : Known) (command : Command) → p.place ≡ Idle known → Treed names (with-seat (with-log (Began command ∷ seat.log)))
  start-treed known command here =
      let none = not-waiting g time writes a seat (Idle known) (leased.seated a below) here (λ b x no'. no') in
      log-treed (Began command ∷ seat.log) (record p { sample = None; found = None; place = place_after_begin command p.place }) refl
      (λ c is claim until e live. free-hand none c is claim until (sym (grip-open (place_after_begin command p.place) None (lease_of c) (p.holds (lease_of c)) refl) ∙ e) live)

  pub begin-treed : (known : Known) (command : Command) (reading : ℕ) → p.place ≡ Begins known command → Treed names (with-seat (with-log (Asked ask.Clock [] (answer.Reading reading) ∷ seat.log)))
  begin-treed known command reading here =
      let none = not-waiting g time writes a seat (Begins known command) (leased.seated a below) here (λ b x no'. no') in
      went-treed (Asked ask.Clock [] (answer.Reading reading) ∷ seat.log) known command (after_first g known reading p.holds) p.hand [] (Some reading) None (first_process setting known reading command p)
      (ap (went_on setting ask.Clock [] (answer.Reading reading) p) here)
      (λ c is claim until e live. free-hand none c is claim until (first-held (session_at g known (lease_of c)) reading (p.holds (lease_of c)) claim until e) live)

  module _ (known : Known) (command : Command) where
    pub read-treed : (block : ℕ) (rest : List ℕ → Process End) (fault : Process End) → p.place ≡ In known command (ReadThen block rest fault) →
        Treed names (with-seat (with-log (Asked (ask.Read (record { 0 = block })) [] (answer.Bytes (w.surface.device block)) ∷ seat.log)))
    read-treed block rest fault here =
        let none = not-waiting g time writes a seat _ (leased.seated a below) here (λ b x no'. no') in
        let bytes = w.surface.device block in
        went-treed (Asked (ask.Read (record { 0 = block })) [] (answer.Bytes bytes) ∷ seat.log) known command (after_answer p.sample (ask.Read (record { 0 = block })) [] (answer.Bytes bytes) p.holds) p.hand p.filled None (Some (block, bytes)) (rest bytes)
        (ap (went_on setting (ask.Read (record { 0 = block })) [] (answer.Bytes bytes) p) here)
        (λ c is claim until e live. elim (read-held p.holds block (lease_of c) p.sample bytes claim until e) [
          | inl held ↦ free-hand none c is claim until held live
          | inr unheld ↦ absurd (let f : true ≡ false = sym (hand-held setting seat.log c is) ∙ unheld in let P : ⊥ = cc in P)
        ])

    pub fault-treed : (block : ℕ) (rest : List ℕ → Process End) (fault : Process End) → p.place ≡ In known command (ReadThen block rest fault) →
        Treed names (with-seat (with-log (Asked (ask.Read (record { 0 = block })) [] answer.Fault ∷ seat.log)))
    fault-treed block rest fault here =
        let none = not-waiting g time writes a seat _ (leased.seated a below) here (λ b x no'. no') in
        went-treed (Asked (ask.Read (record { 0 = block })) [] answer.Fault ∷ seat.log) known command p.holds p.hand p.filled None None fault
        (ap (went_on setting (ask.Read (record { 0 = block })) [] answer.Fault p) here) (λ c is claim until e live. free-hand none c is claim until e live)

    pub clock-treed : (rest : ℕ → Process End) (reading : ℕ) → p.place ≡ In known command (ClockThen rest) → Treed names (with-seat (with-log (Asked ask.Clock [] (answer.Reading reading) ∷ seat.log)))
    clock-treed rest reading here =
        let none = not-waiting g time writes a seat _ (leased.seated a below) here (λ b x no'. no') in
        went-treed (Asked ask.Clock [] (answer.Reading reading) ∷ seat.log) known command (λ block. hold_after_reading reading (p.holds block)) p.hand p.filled (Some reading) None (rest reading)
        (ap (went_on setting ask.Clock [] (answer.Reading reading) p) here)
        (λ c is claim until e live. free-hand none c is claim until (timed-held reading (p.holds (lease_of c)) claim until e) live)

    pub wait-treed : (from : ℕ) (rest : ℕ → Process End) (reading : ℕ) → p.place ≡ In known command (UntilThen from rest) → Treed names (with-seat (with-log (Asked (ask.Until from) [] (answer.Reading reading) ∷ seat.log)))
    wait-treed from rest reading here =
        let none = not-waiting g time writes a seat _ (leased.seated a below) here (λ b x no'. no') in
        went-treed (Asked (ask.Until from) [] (answer.Reading reading) ∷ seat.log) known command (λ block. hold_after_reading reading (p.holds block)) p.hand p.filled (Some reading) None (rest reading)
        (ap (went_on setting (ask.Until from) [] (answer.Reading reading) p) here)
        (λ c is claim until e live. free-hand none c is claim until (timed-held reading (p.holds (lease_of c)) claim until e) live)

    module _ (what : WriteKind) (block : ℕ) (bytes : List ℕ) (guard : ℕ) (done fault : Process End) (missed : ℕ → Process End)
        (here : p.place ≡ In known command (WriteThen what block bytes guard done fault missed)) where
      pub write-fault-treed : Treed names (with-seat (with-log (Asked (ask.Write what (record { 0 = block }) guard) bytes answer.Fault ∷ seat.log)))
      write-fault-treed =
          went-treed (Asked (ask.Write what (record { 0 = block }) guard) bytes answer.Fault ∷ seat.log) known command no_holds (hand_unlinked what p.filled p.hand) p.filled None None fault
          (ap (went_on setting (ask.Write what (record { 0 = block }) guard) bytes answer.Fault p) here) (λ c is claim until e live. nothing-held claim until e)

      pub miss-treed : (reading : ℕ) → Treed names (with-seat (with-log (Asked (ask.Write what (record { 0 = block }) guard) bytes (answer.Missed reading) ∷ seat.log)))
      miss-treed reading =
          went-treed (Asked (ask.Write what (record { 0 = block }) guard) bytes (answer.Missed reading) ∷ seat.log) known command no_holds (hand_unlinked what p.filled p.hand) p.filled None None (missed reading)
          (ap (went_on setting (ask.Write what (record { 0 = block }) guard) bytes (answer.Missed reading) p) here) (λ c is claim until e live. nothing-held claim until e)

      pub done-treed : (n : ℕ) → seat.pending ≡ Some n → HasLanded w.surface n → Treed names (with-seat (with-log (Asked (ask.Write what (record { 0 = block }) guard) bytes answer.Done ∷ seat.log)))
      done-treed n waited landed =
          went-treed (Asked (ask.Write what (record { 0 = block }) guard) bytes answer.Done ∷ seat.log) known command (after_write what block bytes p.holds) (hand_unlinked what p.filled (hand_from g p.found what block bytes p.hand)) (filled_done what block bytes p.filled) None None done
          (ap (went_on setting (ask.Write what (record { 0 = block }) guard) bytes answer.Done p) here) free
        where
          asked : (write : Issued) × (slice_get writes n ≡ Some write) × IsAskedAt p.place setting.boot write
          asked = (leased.seated a below).asked n waited

          write : Issued
          write = asked.0

          all : write.landed ≡ all_sectors
          all = let same : landed.0 ≡ write = (let e : Some landed.0 ≡ Some write = sym landed.1 ∙ asked.1 in cc) in ap (λ (x : Issued). x.landed) (sym same) ∙ landed.2

          free : (c : ℕ) → is_in c (hand_unlinked what p.filled (hand_from g p.found what block bytes p.hand)) ≡ true → (claim : Claim) (until : ℕ) → after_write what block bytes p.holds (lease_of c) ≡ Held claim until → time ≤ until + 50 → IsFree g w.surface.device c
          free c is claim until e live =
              let there : pending_write writes seat.pending ≡ Some write = ap (pending_write writes) waited ∙ asked.1 in
              let set : first_landed (Some write) ≡ true = first-set write true (ap (λ (l : List Bool). slice_get l 0) all) in
              let held : grip_at p.place (Some write) (lease_of c) (p.holds (lease_of c)) ≡ Held claim until =
              ap (λ (q : Place). grip_at q (Some write) (lease_of c) (p.holds (lease_of c))) here
              ∙ (ap (λ (f : Bool). grip_while what (lease_of c == block) f bytes (p.holds (lease_of c))) set ∙ written-held what block bytes p.holds (lease_of c) claim until e) in
              let K : Option Issued → Type 0 = λ o. grip_at p.place o (lease_of c) (p.holds (lease_of c)) ≡ Held claim until in
              let D : Option ℕ → Type 0 = λ o. is_in c (due g o p.place p.found p.filled p.hand) ≡ true in
              let E : Place → Type 0 = λ q. is_in c (hand_while g q p.found p.filled p.hand) ≡ true in
              treed.fresh a below c (subst D (sym waited) (subst E (sym here) (done-due g known command what block bytes guard done fault missed p.found p.filled p.hand c is))) claim until (subst K (sym there) held, live)
