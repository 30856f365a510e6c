-- What holds of the maps in the first world stays at each step.
use Rattle.std.proofs.Common.{◌≡◌, ℕ, ◌+◌, ◌-◌, ◌≤◌, ◌<◌, ◌⊎◌, inl, inr, List, [], ◌∷◌, ◌++◌, Bool, true, false, Option, Some, None, refl, ap, sym, subst, ◌∙◌, arith, length}
use Rattle.std.specs.Prelude.{slice_get, ◌==◌}
use Rattle.plx_base.specs.declared.lease.Claim.{Claim}
use Rattle.plx_base.specs.declared.write_kind.WriteKind.{WriteKind}
use Rattle.plx_base.specs.declared.write_kind.WriteKind.TheVariants as kind
use Rattle.plx_commands.proofs.Places.{at-all}
use Rattle.plx_commands.specs.Places.{at}
use Rattle.plx_commands.specs.Replies.{is_in}
use Rattle.plx_commands.specs.declared.command.Command.{Command}
use Rattle.plx_commands.specs.declared.entry.Entry.{Entry}
use Rattle.plx_commands.specs.declared.event.Event.{Event}
use Rattle.plx_disk.proofs.Lists.{push-last, push-before}
use Rattle.plx_disk.specs.Writes.{Issued, HasLanded, all_sectors, fresh_write}
use Rattle.plx_disk.specs.declared.ask.Ask.TheVariants as ask
use Rattle.plx_disk.specs.declared.ask.Answer.TheVariants as answer
use Rattle.plx_extent.specs.Maps.{bit_of}
use Rattle.plx_geom.specs.Geometry.{Geometry, extent_lease, lease_at, map_at}
use Rattle.plx_rules.specs.Boot.{BootEntry, Began, Asked, Place, Idle, Begins, In, Configuration, configuration, place_of, after_process, goes_to, place_after_begin, first_process, went_on}
use Rattle.plx_rules.specs.Ends.{End}
use Rattle.plx_rules.specs.Hands.{filled_done, hand_from, hand_held, hand_unlinked, is_held}
use Rattle.plx_rules.specs.Holds.{Hold, Held, no_holds, after_answer, after_write, after_first, session_at, hold_after_reading}
use Rattle.plx_rules.specs.Owners.{first_landed, pending_write}
use Rattle.plx_rules.specs.Process.{Process, Ends, ReadThen, WriteThen, ClockThen, UntilThen}
use Rattle.plx_rules.specs.Rests.{extent_of, rests_on}
use Rattle.plx_rules.specs.Session.{Known}
use Rattle.plx_rules.specs.Settings.{Setting, boot_number}
use Rattle.plx_rules.specs.Histories.{Past}
use Rattle.plx_rules.specs.World as world
use Rattle.plx_rules.specs.World.{World, Seat, Step, Reached, setting_at}
use Rattle.law_lease.proofs.LeaseFrames.{grip-open}
use Rattle.law_lease.proofs.LeaseLands.{first-set}
use Rattle.law_lease.proofs.LeaseSteps.{not-waiting, reached-leased}
use Rattle.law_lease.proofs.Leased.{IsAskedAt, IsGranted, LawfulAt, Leased, MayIssue, grip_at, grip_while}
use Rattle.law_lease.proofs.Lists.{push-cases}
use Rattle.law_space.proofs.CarefulCommands.{careful-command}
use Rattle.law_space.proofs.Held.{hand-held, read-held, written-held}
use Rattle.law_space.proofs.Kept.{AreMarking, CarefulAt, IsMarking, CarefulSeat, KeptAt, KeptSeat, MapKept, Spaced, lease_block}
use Rattle.law_space.proofs.Lists.{in-filter, unlinked-in}
use Rattle.law_space.proofs.MapWrites.{kept-done, kept-fewer, map-kept-issued, kept-read, kept-unread, map-of, marking-issued}
use Rattle.law_space.proofs.Marks.{Careful, IsOfMap, MayMark}
use Rattle.law_space.proofs.SpaceLands.{marking-lands, seat-landed}
use Rattle.plx_rules.proofs.Holds.{first-held, timed-held, nothing-held, process-held}

careful-placed : (found : Option (ℕ × List ℕ)) (known : Known) (command : Command) (process : Process End) → Careful found process → CarefulAt found (place_of known command process)
careful-placed found known command (Ends end) careful = tt
careful-placed found known command (ReadThen block rest fault) careful = careful
careful-placed found known command (WriteThen k block bytes guard done fault missed) careful = careful
careful-placed found known command (ClockThen rest) careful = careful
careful-placed found known command (UntilThen from rest) careful = careful

module _ (w : World) (leased : Leased w) (spaced : Spaced w) (a : ℕ) (below : a < w.appliances) (trace : List Entry) (history : List Past) where
  abbrev g : Geometry
  g = w.geometry

  abbrev time : ℕ
  time = w.surface.time

  abbrev writes : List Issued
  writes = w.surface.writes

  abbrev seat : Seat
  seat = w.seats a

  abbrev setting : Setting
  setting = setting_at w.geometry a (w.seats a).boots

  abbrev p : Configuration
  p = configuration setting (w.seats a).log

  -- the map of an extent as it stands
  abbrev map_now : ℕ → List ℕ
  map_now extent = w.surface.device (map_at w.geometry extent)

  abbrev with-log : List BootEntry → World
  with-log log = record w {
    seats = at w.seats a (record { boots = (w.seats a).boots; log = log; pending = None });
    trace = trace;
    history = history;
  }

  -- the log leads to a configuration that waits for no write
  log-spaced : (log : List BootEntry) (q : Configuration) → configuration setting log ≡ q → CarefulAt q.found q.place →
      ((extent : ℕ) → extent < g.extents → KeptAt g time extent (map_now extent) None q) → Spaced (with-log log)
  log-spaced log q leads careful kept = record {
    careful = at-all (λ b s. b < w.appliances → CarefulSeat g b s) w.seats a _
        (λ below'. let P : Configuration → Type 0 = λ r. CarefulAt r.found r.place in subst P (sym leads) careful)
        (λ b ne below'. spaced.careful b below');
    kept = λ b below' extent within. at-all (λ c s. c < w.appliances → KeptSeat g time extent (map_now extent) writes c s) w.seats a _
        (λ under. let P : Configuration → Type 0 = λ r. KeptAt g time extent (map_now extent) None r in subst P (sym leads) (kept extent within))
        (λ c ne under. spaced.kept c under extent within) b below';
    marking = spaced.marking;
  }

  -- an ask was answered
  went-spaced : (log : List BootEntry) (known : Known) (command : Command) (holds : ℕ → Hold) (hand : List ℕ) (filled : List (ℕ × List ℕ)) (sample : Option ℕ) (found : Option (ℕ × List ℕ)) {latest : ℕ} (process : Process End) →
      configuration setting log ≡ goes_to g known command holds hand filled sample found latest process → Careful found process →
      ((extent : ℕ) → extent < g.extents → (claim : Claim) (until : ℕ) → holds (lease_block g extent) ≡ Held claim until → time ≤ until + 50 → MapKept g extent (map_now extent) None hand found) →
      Spaced (with-log log)
  went-spaced log known command holds hand filled sample found {latest} process leads careful kept =
      log-spaced log (goes_to g known command holds hand filled sample found latest process) leads (careful-placed found known command process careful)
      (λ extent within claim until e live.
      let lease = lease_block g extent in
      let held : holds lease ≡ Held claim until =
      process-held process holds lease claim until (sym (grip-open (place_of known command process) None lease (after_process process holds lease) refl) ∙ e) in
      kept-fewer g extent (map_now extent) None hand (hand_held g (after_process process holds) hand) found
      (λ block is. (in-filter (λ b. is_held (after_process process holds (lease_at (extent_lease g (extent_of g b))))) block hand is).0)
      (kept extent within claim until held live))

  careful-at : (place : Place) → p.place ≡ place → CarefulAt p.found place
  careful-at place here = let P : Place → Type 0 = λ q. CarefulAt p.found q in subst P here (spaced.careful a below)

  -- the maps of extents whose leases are held, where no write is waited for
  pub kept-free : seat.pending ≡ None → (extent : ℕ) → extent < g.extents → (claim : Claim) (until : ℕ) → p.holds (lease_block g extent) ≡ Held claim until → time ≤ until + 50 →
      MapKept g extent (map_now extent) None p.hand p.found
  kept-free free extent within claim until held live =
      let K : Option ℕ → Type 0 = λ o. KeptAt g time extent (map_now extent) (pending_write writes o) p in
      (subst K free (spaced.kept a below extent within)) claim until (grip-open p.place None (lease_block g extent) (p.holds (lease_block g extent)) refl ∙ held) live

  -- the same, once nothing was read
  kept-since : seat.pending ≡ None → (extent : ℕ) → extent < g.extents → (claim : Claim) (until : ℕ) → p.holds (lease_block g extent) ≡ Held claim until → time ≤ until + 50 →
      MapKept g extent (map_now extent) None p.hand None
  kept-since free extent within claim until held live = kept-unread g extent (map_now extent) p.hand p.found (kept-free free extent within claim until held live)

  pub start-spaced : (known : Known) (command : Command) → p.place ≡ Idle known → Spaced (with-log (Began command ∷ seat.log))
  start-spaced known command here =
      let free = not-waiting g time writes a seat (Idle known) (leased.seated a below) here (λ b x no'. no') in
      log-spaced (Began command ∷ seat.log) (record p { sample = None; found = None; place = place_after_begin command p.place }) refl
      (let P : Place → Type 0 = λ q. CarefulAt None (place_after_begin command q) in subst P (sym here) tt)
      (λ extent within claim until e live. kept-since free extent within claim until
      (sym (grip-open (place_after_begin command p.place) None (lease_block g extent) (p.holds (lease_block g extent)) refl) ∙ e) live)

  pub begin-spaced : (known : Known) (command : Command) (reading : ℕ) → p.place ≡ Begins known command → Spaced (with-log (Asked ask.Clock [] (answer.Reading reading) ∷ seat.log))
  begin-spaced known command reading here =
      let free = not-waiting g time writes a seat (Begins known command) (leased.seated a below) here (λ b x no'. no') in
      went-spaced (Asked ask.Clock [] (answer.Reading reading) ∷ seat.log) known command (after_first g known reading p.holds) p.hand [] (Some reading) None
      (first_process setting known reading command p)
      (ap (went_on setting ask.Clock [] (answer.Reading reading) p) here)
      (careful-command setting leased.geometry known (after_first g known reading p.holds) (hand_held g (after_first g known reading p.holds) p.hand) reading command None)
      (λ extent within claim until e live. kept-since free extent within claim until
      (first-held (session_at g known (lease_block g extent)) reading (p.holds (lease_block g extent)) claim until e) live)

  module _ (known : Known) (command : Command) where
    pub read-spaced : (block : ℕ) (rest : List ℕ → Process End) (fault : Process End) → p.place ≡ In known command (ReadThen block rest fault) →
        Spaced (with-log (Asked (ask.Read (record { 0 = block })) [] (answer.Bytes (w.surface.device block)) ∷ seat.log))
    read-spaced block rest fault here =
        let free = not-waiting g time writes a seat _ (leased.seated a below) here (λ b x no'. no') in
        let bytes = w.surface.device block in
        went-spaced (Asked (ask.Read (record { 0 = block })) [] (answer.Bytes bytes) ∷ seat.log) known command
        (after_answer p.sample (ask.Read (record { 0 = block })) [] (answer.Bytes bytes) p.holds) p.hand p.filled None (Some (block, bytes)) (rest bytes)
        (ap (went_on setting (ask.Read (record { 0 = block })) [] (answer.Bytes bytes) p) here)
        ((careful-at (In known command (ReadThen block rest fault)) here).0 bytes)
        (λ extent within claim until e live.
        kept-read g extent w.surface.device p.hand block (leased.long (map_at g extent)) (marked free extent within claim until live (read-held p.holds block (lease_block g extent) p.sample bytes claim until e)))
      where
        marked : seat.pending ≡ None → (extent : ℕ) → extent < g.extents → (claim : Claim) (until : ℕ) → time ≤ until + 50 →
            (p.holds (lease_block g extent) ≡ Held claim until) ⊎ (is_held (p.holds (lease_block g extent)) ≡ false) →
            (b : ℕ) → is_in b p.hand ≡ true → extent_of g b ≡ extent → (map_at g extent ≤ b) × (bit_of (map_now extent) (b - map_at g extent) ≡ true)
        marked free extent within claim until live (inl held) b is lies =
            let kept = kept-free free extent within claim until held live in
            let m = kept.marked b is lies in
            (m.0, ap (λ (x : List ℕ). bit_of x (b - map_at g extent)) kept.laid_now ∙ m.1)
        marked free extent within claim until live (inr not_held) b is lies =
            absurd (let f : true ≡ false = sym (hand-held setting seat.log b is) ∙ (ap (λ (n : ℕ). is_held (p.holds (lease_block g n))) lies ∙ not_held) in let P : ⊥ = cc in P)

    pub fault-spaced : (block : ℕ) (rest : List ℕ → Process End) (fault : Process End) → p.place ≡ In known command (ReadThen block rest fault) →
        Spaced (with-log (Asked (ask.Read (record { 0 = block })) [] answer.Fault ∷ seat.log))
    fault-spaced block rest fault here =
        let free = not-waiting g time writes a seat _ (leased.seated a below) here (λ b x no'. no') in
        went-spaced (Asked (ask.Read (record { 0 = block })) [] answer.Fault ∷ seat.log) known command p.holds p.hand p.filled None None fault
        (ap (went_on setting (ask.Read (record { 0 = block })) [] answer.Fault p) here)
        (careful-at (In known command (ReadThen block rest fault)) here).1
        (λ extent within claim until e live. kept-since free extent within claim until e live)

    pub clock-spaced : (rest : ℕ → Process End) (reading : ℕ) → p.place ≡ In known command (ClockThen rest) →
        Spaced (with-log (Asked ask.Clock [] (answer.Reading reading) ∷ seat.log))
    clock-spaced rest reading here =
        let free = not-waiting g time writes a seat _ (leased.seated a below) here (λ b x no'. no') in
        went-spaced (Asked ask.Clock [] (answer.Reading reading) ∷ seat.log) known command (λ block. hold_after_reading reading (p.holds block)) p.hand p.filled (Some reading) None (rest reading)
        (ap (went_on setting ask.Clock [] (answer.Reading reading) p) here)
        (careful-at (In known command (ClockThen rest)) here reading)
        (λ extent within claim until e live. kept-since free extent within claim until (timed-held reading (p.holds (lease_block g extent)) claim until e) live)

    pub wait-spaced : (from : ℕ) (rest : ℕ → Process End) (reading : ℕ) → p.place ≡ In known command (UntilThen from rest) →
        Spaced (with-log (Asked (ask.Until from) [] (answer.Reading reading) ∷ seat.log))
    wait-spaced from rest reading here =
        let free = not-waiting g time writes a seat _ (leased.seated a below) here (λ b x no'. no') in
        went-spaced (Asked (ask.Until from) [] (answer.Reading reading) ∷ seat.log) known command (λ block. hold_after_reading reading (p.holds block)) p.hand p.filled (Some reading) None (rest reading)
        (ap (went_on setting (ask.Until from) [] (answer.Reading reading) p) here)
        (careful-at (In known command (UntilThen from rest)) here reading)
        (λ extent within claim until e live. kept-since free extent within claim until (timed-held reading (p.holds (lease_block g extent)) claim until e) live)

    -- a write is answered
    module _ (what : WriteKind) (block : ℕ) (bytes : List ℕ) (guard : ℕ) (done fault : Process End) (missed : ℕ → Process End)
        (here : p.place ≡ In known command (WriteThen what block bytes guard done fault missed)) where
      pub write-fault-spaced : Spaced (with-log (Asked (ask.Write what (record { 0 = block }) guard) bytes answer.Fault ∷ seat.log))
      write-fault-spaced =
          went-spaced (Asked (ask.Write what (record { 0 = block }) guard) bytes answer.Fault ∷ seat.log) known command no_holds (hand_unlinked what p.filled p.hand) p.filled None None fault
          (ap (went_on setting (ask.Write what (record { 0 = block }) guard) bytes answer.Fault p) here)
          (careful-at _ here).2 (λ extent within claim until e live. nothing-held claim until e)

      pub miss-spaced : (reading : ℕ) → Spaced (with-log (Asked (ask.Write what (record { 0 = block }) guard) bytes (answer.Missed reading) ∷ seat.log))
      miss-spaced reading =
          went-spaced (Asked (ask.Write what (record { 0 = block }) guard) bytes (answer.Missed reading) ∷ seat.log) known command no_holds (hand_unlinked what p.filled p.hand) p.filled None None (missed reading)
          (ap (went_on setting (ask.Write what (record { 0 = block }) guard) bytes (answer.Missed reading) p) here)
          ((careful-at _ here).3 reading) (λ extent within claim until e live. nothing-held claim until e)

      pub done-spaced : (n : ℕ) → seat.pending ≡ Some n → HasLanded w.surface n →
          Spaced (with-log (Asked (ask.Write what (record { 0 = block }) guard) bytes answer.Done ∷ seat.log))
      done-spaced n waited landed =
          went-spaced (Asked (ask.Write what (record { 0 = block }) guard) bytes answer.Done ∷ seat.log) known command (after_write what block bytes p.holds) (hand_unlinked what p.filled (hand_from g p.found what block bytes p.hand)) (filled_done what block bytes p.filled) None None done
          (ap (went_on setting (ask.Write what (record { 0 = block }) guard) bytes answer.Done p) here)
          (careful-at _ here).1
          (λ extent within claim until e live. kept-fewer g extent (map_now extent) None (hand_from g p.found what block bytes p.hand) (hand_unlinked what p.filled (hand_from g p.found what block bytes p.hand)) None
          (λ b is. unlinked-in what p.filled (hand_from g p.found what block bytes p.hand) b is) (kept extent within claim until e live))
        where
          asked : (write : Issued) × (slice_get writes n ≡ Some write) × IsAskedAt p.place setting.boot write
          asked = (leased.seated a below).asked n waited

          write : Issued
          write = asked.0

          all : write.landed ≡ all_sectors
          all = let same : landed.0 ≡ write = (let e : Some landed.0 ≡ Some write = sym landed.1 ∙ asked.1 in cc) in ap (λ (x : Issued). x.landed) (sym same) ∙ landed.2

          asked-here : (write.kind ≡ what) × (write.block ≡ block) × (write.bytes ≡ bytes) × (write.guard ≡ guard) × (write.owner ≡ setting.boot)
          asked-here = let P : Place → Type 0 = λ q. IsAskedAt q setting.boot write in subst P here asked.2

          kept : (extent : ℕ) → extent < g.extents → (claim : Claim) (until : ℕ) → after_write what block bytes p.holds (lease_block g extent) ≡ Held claim until → time ≤ until + 50 →
              MapKept g extent (map_now extent) None (hand_from g p.found what block bytes p.hand) None
          kept extent within claim until e live =
              let lease = lease_block g extent in
              let hold = p.holds lease in
              let right = leased.right n write asked.1 in
              let there : pending_write writes seat.pending ≡ Some write = ap (pending_write writes) waited ∙ asked.1 in
              let set : first_landed (Some write) ≡ true = first-set write true (ap (λ (l : List Bool). slice_get l 0) all) in
              let held : grip_at p.place (Some write) lease hold ≡ Held claim until =
              ap (λ (q : Place). grip_at q (Some write) lease hold) here
              ∙ (ap (λ (f : Bool). grip_while what (lease == block) f bytes hold) set ∙ written-held what block bytes p.holds lease claim until e) in
              let K : Option Issued → Type 0 = λ o. KeptAt g time extent (map_now extent) o p in
              let old : MapKept g extent (map_now extent) (Some write) p.hand p.found = (subst K there (spaced.kept a below extent within)) claim until held live in
              let M : WriteKind → ℕ → List ℕ → Type 0 = λ k b x. MayMark k p.found b x in
              let N : WriteKind → ℕ → List ℕ → Type 0 = λ k b x. MapKept g extent (map_now extent) None (hand_from g p.found k b x p.hand) None in
              let may : M what block bytes = (careful-at _ here).0 in
              let may' : M write.kind write.block write.bytes =
              subst (λ (x : List ℕ). M write.kind write.block x) (sym asked-here.2) (subst (λ (b : ℕ). M write.kind b bytes) (sym asked-here.1) (subst (λ (k : WriteKind). M k block bytes) (sym asked-here.0) may)) in
              let new : N write.kind write.block write.bytes =
              kept-done g leased.geometry extent (map_now extent) p.hand p.found write (w.rests n) right.placed all right.long (leased.long (map_at g extent)) may' old in
              subst (λ (x : List ℕ). N what block x) asked-here.2 (subst (λ (b : ℕ). N what b write.bytes) asked-here.1 (subst (λ (k : WriteKind). N k write.block write.bytes) asked-here.0 new))

-- a write is issued
issue-spaced : (w : World) (leased : Leased w) (spaced : Spaced w) (a : ℕ) (below : a < w.appliances) (k : WriteKind) (block : ℕ) (bytes : List ℕ) (guard : ℕ) → (w.seats a).pending ≡ None →
    (b : ℕ) → b < w.appliances → (extent : ℕ) → extent < w.geometry.extents →
    KeptSeat w.geometry w.surface.time extent (w.surface.device (map_at w.geometry extent)) (w.surface.writes ++ fresh_write (boot_number a (w.seats a).boots) k block bytes guard ∷ []) b
    (at w.seats a (record { boots = (w.seats a).boots; log = (w.seats a).log; pending = Some (length w.surface.writes) }) b)
issue-spaced w leased spaced a below k block bytes guard free b below' extent within =
    at-all (λ c s. c < w.appliances → KeptSeat w.geometry w.surface.time extent now longer c s) w.seats a _ (λ under. mine) (λ c ne under. other c under (w.seats c).pending refl) b below'
  where
    now : List ℕ
    now = w.surface.device (map_at w.geometry extent)

    write : Issued
    write = fresh_write (boot_number a (w.seats a).boots) k block bytes guard

    longer : List Issued
    longer = w.surface.writes ++ write ∷ []

    p : Configuration
    p = configuration (setting_at w.geometry a (w.seats a).boots) (w.seats a).log

    lease : ℕ
    lease = lease_block w.geometry extent

    mine : KeptAt w.geometry w.surface.time extent now (pending_write longer (Some (length w.surface.writes))) p
    mine =
        let K : Option Issued → Type 0 = λ o. KeptAt w.geometry w.surface.time extent now o p in
        subst K (sym (push-last w.surface.writes write)) (λ claim until e live.
        (let F : Option ℕ → Type 0 = λ o. KeptAt w.geometry w.surface.time extent now (pending_write w.surface.writes o) p in
        let held : p.holds lease ≡ Held claim until = sym (grip-open p.place (Some write) lease (p.holds lease) refl) ∙ e in
        map-kept-issued w.geometry extent now p.hand p.found (boot_number a (w.seats a).boots) k block bytes guard
        ((subst F free (spaced.kept a below extent within)) claim until (grip-open p.place None lease (p.holds lease) refl ∙ held) live)))

    other : (c : ℕ) → c < w.appliances → (q : Option ℕ) → (w.seats c).pending ≡ q → KeptSeat w.geometry w.surface.time extent now longer c (w.seats c)
    other c under q is =
        let pc = configuration (setting_at w.geometry c (w.seats c).boots) (w.seats c).log in
        let K : Option Issued → Type 0 = λ o. KeptAt w.geometry w.surface.time extent now o pc in
        subst K (ap (pending_write w.surface.writes) is ∙ (same q is ∙ ap (pending_write longer) (sym is))) (spaced.kept c under extent within)
      where
        same : (q : Option ℕ) → (w.seats c).pending ≡ q → pending_write w.surface.writes q ≡ pending_write longer q
        same None is = refl
        same (Some h) is = let x = (leased.seated c under).asked h is in x.1 ∙ sym (push-before w.surface.writes write x.0 h x.1)

-- a write of a map that may be asked is of an extent whose lease is held
map-granted : (g : Geometry) (boot : ℕ) (holds : ℕ → Hold) (rests : List ℕ) (k : WriteKind) (block : ℕ) (bytes : List ℕ) (guard : ℕ) → IsOfMap k → MayIssue g boot holds rests k block bytes guard →
    (extent : ℕ) × (extent < g.extents) × (block ≡ map_at g extent) × IsGranted holds (extent_lease g extent) guard
map-granted g boot holds rests kind.Take block bytes guard of_map may =
    let m = map-of g kind.Take block bytes rests tt may.placed in (m.0, m.1, m.2, may.grants (extent_lease g m.0) m.3)
map-granted g boot holds rests kind.Give block bytes guard of_map may =
    let m = map-of g kind.Give block bytes rests tt may.placed in (m.0, m.1, m.2, may.grants (extent_lease g m.0) m.3)
map-granted g boot holds rests kind.Sweep block bytes guard of_map may =
    let m = map-of g kind.Sweep block bytes rests tt may.placed in (m.0, m.1, m.2, may.grants (extent_lease g m.0) m.3)
map-granted g boot holds rests other block bytes guard of_map may = absurd of_map

-- the writes of maps, once one more write is issued
issue-marking : (w : World) (leased : Leased w) (spaced : Spaced w) (a : ℕ) (below : a < w.appliances) (known : Known) (command : Command) (k : WriteKind) (block : ℕ) (bytes : List ℕ) (guard : ℕ)
    (done fault : Process End) (missed : ℕ → Process End) → (configuration (setting_at w.geometry a (w.seats a).boots) (w.seats a).log).place ≡ In known command (WriteThen k block bytes guard done fault missed) →
    (w.seats a).pending ≡ None →
    AreMarking w.surface.time w.surface.device (w.surface.writes ++ fresh_write (boot_number a (w.seats a).boots) k block bytes guard ∷ [])
issue-marking w leased spaced a below known command k block bytes guard done fault missed here free n x there of_map missing live =
    elim (push-cases w.surface.writes (fresh_write (boot_number a (w.seats a).boots) k block bytes guard) x n there) [
      | inl old ↦ spaced.marking n x old of_map missing live
      | inr fresh ↦
          let boot = boot_number a (w.seats a).boots in
          let p = configuration (setting_at w.geometry a (w.seats a).boots) (w.seats a).log in
          let L : Place → Type 0 = λ q. LawfulAt w.geometry boot p.holds p.filled p.sample q in
          let C : Place → Type 0 = λ q. CarefulAt p.found q in
          let may = (subst L here (leased.seated a below).lawful).0 in
          let mark : MayMark k p.found block bytes = (subst C here (spaced.careful a below)).0 in
          let of_map' : IsOfMap k = subst (λ (y : Issued). IsOfMap y.kind) (sym fresh.1) of_map in
          let live' : w.surface.time ≤ guard + 50 = subst (λ (y : Issued). w.surface.time ≤ y.guard + 50) (sym fresh.1) live in
          let m = map-granted w.geometry boot p.holds (rests_on w.geometry command p.holds p.filled k block bytes) k block bytes guard of_map' may in
          let early = m.3.guarded in
          let kept = kept-free w leased spaced a below [] [] free m.0 m.1 m.3.claim m.3.until m.3.hold (omega (arith, live', early)) in
          subst (λ (y : Issued). IsMarking y (w.surface.device y.block)) fresh.1
          (subst (λ (b : List ℕ). IsMarking (fresh_write boot k block bytes guard) b) (ap w.surface.device (sym m.2))
          (marking-issued w.geometry m.0 (w.surface.device (map_at w.geometry m.0)) p.hand p.found boot k block bytes guard m.2 mark kept))
    ]

-- each step keeps it
keeps-spaces : {w v : World} {event : Event} → Step w event v → Leased w → Spaced w → Spaced v
keeps-spaces (world.ticks {w = w} {by = by} room) leased spaced = record {
  careful = spaced.careful;
  kept = λ a below extent within claim until e live. spaced.kept a below extent within claim until e (omega arith);
  marking = λ n x there of_map missing live. spaced.marking n x there of_map missing (omega arith);
}
keeps-spaces (world.starts {w = w} {appliance = a} {command = command} known below here whole built) leased spaced = start-spaced w leased spaced a.0 below _ _ known command here
keeps-spaces (world.begins {w = w} {appliance = a} {reading = reading} known command below here is) leased spaced = begin-spaced w leased spaced a.0 below _ _ known command reading here
keeps-spaces (world.reads {w = w} {appliance = a} known command block rest fault below here) leased spaced = read-spaced w leased spaced a.0 below _ _ known command block rest fault here
keeps-spaces (world.read_faults {w = w} {appliance = a} known command block rest fault below here) leased spaced = fault-spaced w leased spaced a.0 below _ _ known command block rest fault here
keeps-spaces (world.issues {w = w} {appliance = a} known command what block bytes guard done fault missed below here free) leased spaced = record {
  careful = at-all (λ b s. b < w.appliances → CarefulSeat w.geometry b s) w.seats a.0 _ (λ below'. spaced.careful a.0 below) (λ b ne below'. spaced.careful b below');
  kept = issue-spaced w leased spaced a.0 below what block bytes guard free;
  marking = issue-marking w leased spaced a.0 below known command what block bytes guard done fault missed here free;
}
keeps-spaces (world.lands {w = w} {appliance = a} {back = back} {sector = sector} number write below back' may) leased spaced = record {
  careful = spaced.careful;
  kept = λ b below' extent within. seat-landed w leased spaced number sector write may b below' extent within;
  marking = marking-lands w leased spaced number sector write may;
}
keeps-spaces (world.dones {w = w} {appliance = a} known command what block bytes guard done fault missed number below here waited whole) leased spaced =
    done-spaced w leased spaced a.0 below _ _ known command what block bytes guard done fault missed here number waited whole
keeps-spaces (world.write_faults {w = w} {appliance = a} known command what block bytes guard done fault missed below here) leased spaced =
    write-fault-spaced w leased spaced a.0 below _ _ known command what block bytes guard done fault missed here
keeps-spaces (world.misses {w = w} {appliance = a} {reading = reading} known command what block bytes guard done fault missed below here free past is) leased spaced =
    miss-spaced w leased spaced a.0 below _ _ known command what block bytes guard done fault missed here reading
keeps-spaces (world.clocks {w = w} {appliance = a} {reading = reading} known command rest below here is) leased spaced = clock-spaced w leased spaced a.0 below _ _ known command rest reading here
keeps-spaces (world.waits {w = w} {appliance = a} {reading = reading} known command from rest below here is past) leased spaced =
    wait-spaced w leased spaced a.0 below _ _ known command from rest reading here
keeps-spaces (world.crashes {w = w} {appliance = a} below room) leased spaced = record {
  careful = at-all (λ b s. b < w.appliances → CarefulSeat w.geometry b s) w.seats a.0 _ (λ below'. tt) (λ b ne below'. spaced.careful b below');
  kept = λ b below' extent within. at-all (λ c s. c < w.appliances → KeptSeat w.geometry w.surface.time extent (w.surface.device (map_at w.geometry extent)) w.surface.writes c s) w.seats a.0
      (record { boots = (w.seats a.0).boots + 1; log = []; pending = None }) (λ under claim until e live. nothing-held claim until e) (λ c ne under. spaced.kept c under extent within) b below';
  marking = spaced.marking;
}

-- every world that events lead to has it
pub reached-spaced : {w : World} → Reached w → Spaced w
reached-spaced (world.first {g = g} {appliances = appliances} {device = device} geometry some few formatted) = record {
  careful = λ a below. tt;
  kept = λ a below extent within claim until e live. nothing-held claim until e;
  marking = λ n x there of_map missing live. absurd (let P : ⊥ = cc in P);
}
reached-spaced (world.later reached step) = keeps-spaces step (reached-leased reached) (reached-spaced reached)
