-- A command that nothing disturbs, over the steps of a world.
use Rattle.plx_rules.specs.Settings.{Setting}
use Rattle.plx_rules.specs.Hands.{hand_held}
use Rattle.plx_rules.specs.Commands.{command_process}
use Rattle.law_quiet.proofs.Walks.{Quietly}
use Rattle.law_quiet.proofs.Unbusy.{Suits}
use Rattle.std.proofs.Common.{◌≡◌, ℕ, ◌+◌, ◌≤◌, List, [], ◌∷◌, length, Some, refl, ap, sym, subst, ◌∙◌, arith}
use Rattle.plx_commands.proofs.Places.{at-same}
use Rattle.plx_commands.specs.declared.command.Command.{Command}
use Rattle.plx_commands.specs.declared.event.Event.{Event}
use Rattle.plx_disk.specs.Writes.{Surface, with_issued}
use Rattle.plx_disk.specs.declared.ask.Ask.TheVariants as ask
use Rattle.plx_disk.specs.declared.ask.Answer.TheVariants as answer
use Rattle.plx_rules.specs.Boot.{Asked, Began, first_process}
use Rattle.plx_rules.specs.Histories.{Past}
use Rattle.plx_rules.specs.Holds.{Hold, after_first}
use Rattle.plx_rules.specs.Process.{ReadThen, WriteThen, ClockThen, UntilThen}
use Rattle.plx_rules.specs.Times.{drift}
use Rattle.plx_rules.specs.Undisturbed.{LeavesAlone}
use Rattle.plx_rules.specs.World as world
use Rattle.plx_rules.specs.World.{World, Seat, Reached, Step, setting_at, setting_of, stands, with_log_entry, issued_write}
use Rattle.law_quiet.proofs.Phases.{Watch, Phase, asked-phase, started-phase, first-phase, issued-phase, ticked-phase, landed-phase, read-goes, read-fault-goes, done-goes, fault-goes, missed-goes, clock-goes, wait-goes}

-- how the watched command goes on in a world
pub record Kept (k : Watch) (w : World) (a : ℕ) (v : World) : Type 0 where
  pub geometry : v.geometry ≡ w.geometry
  pub appliances : v.appliances ≡ w.appliances
  pub boots : (v.seats a).boots ≡ (w.seats a).boots
  pub time : k.low ≤ v.surface.time
  pub phase : Phase k v.geometry a v.surface (v.seats a)

-- the watched command ends well from its first reading on
abbrev pub EndsWell : Watch → World → Type 0
EndsWell k w =
    (s : Setting) → s.geometry ≡ w.geometry → (reading : ℕ) → k.wanted ≡ Some reading →
    Quietly (Suits k.space) k.low k.device
    (command_process s k.known (after_first s.geometry k.known reading k.holds) (hand_held s.geometry (after_first s.geometry k.known reading k.holds) k.hand) reading k.command)

module _ (k : Watch) (w : World) (ready : EndsWell k w) where
  -- the answer to an ask of a command
  answer-kept : (v next : World) (a : ℕ) (seat : Seat) → Kept k w a v → next.geometry ≡ v.geometry → next.appliances ≡ v.appliances → next.surface ≡ v.surface → next.seats a ≡ seat →
      seat.boots ≡ (v.seats a).boots → Phase k v.geometry a v.surface seat → Kept k w a next
  answer-kept v next a seat kept geometry appliances surface seats boots phase = record {
    geometry = geometry ∙ kept.geometry;
    appliances = appliances ∙ kept.appliances;
    boots = ap (λ (s : Seat). s.boots) seats ∙ (boots ∙ kept.boots);
    time = subst (λ (s : Surface). k.low ≤ s.time) (sym surface) kept.time;
    phase = subst (λ g. Phase k g a next.surface (next.seats a)) (sym geometry)
        (subst (λ s. Phase k v.geometry a s (next.seats a)) (sym surface) (subst (λ s. Phase k v.geometry a v.surface s) (sym seats) phase));
  }

  late-reading : (v : World) (a reading : ℕ) → Kept k w a v → v.surface.time ≤ reading + drift → k.low ≤ reading + drift
  late-reading v a reading kept late = let t = kept.time in omega (arith, t, late)

  -- the first reading of a command
  first-goes : (v : World) (a : ℕ) (reading : ℕ) → Kept k w a v → (one : Command) → k.command ≡ one → k.wanted ≡ Some reading →
      (stands v a).holds ≡ k.holds → (stands v a).hand ≡ k.hand → Quietly (Suits k.space) k.low k.device (first_process (setting_of v a) k.known reading one (stands v a))
  first-goes v a reading kept one is was holds hand =
      let F : Command → (ℕ → Hold) → List ℕ → Type 0 =
      λ c h b. Quietly (Suits k.space) k.low k.device (command_process (setting_of v a) k.known (after_first v.geometry k.known reading h) (hand_held v.geometry (after_first v.geometry k.known reading h) b) reading c) in
      subst (λ c. F c (stands v a).holds (stands v a).hand) is
      (subst (λ h. F k.command h (stands v a).hand) (sym holds) (subst (λ b. F k.command k.holds b) (sym hand) (ready (setting_of v a) kept.geometry reading was)))

  -- each step that leaves the command alone
  pub kept-step : {u v : World} {one : Event} → Step u one v → (a : ℕ) → ((past : Past) (older : List Past) → v.history ≡ past ∷ older → LeavesAlone a k.from past) → Kept k w a u → Kept k w a v
  kept-step {u = u} (world.ticks {by = by} soon) a alone kept = record {
    geometry = kept.geometry;
    appliances = kept.appliances;
    boots = kept.boots;
    time = (let t = kept.time in omega (arith, t));
    phase = ticked-phase k u.geometry a u.surface by (u.seats a) kept.phase;
  }
  kept-step {u = u} {v = v} (world.starts {appliance = b} {command = command} known below at_place formed built) a alone kept =
      subst (λ n. Kept k w n u → Kept k w n v) (alone _ _ refl).own
      (λ kept. answer-kept u v b.0 (with_log_entry (u.seats b.0) (Began command)) kept refl refl refl (at-same u.seats b.0 (with_log_entry (u.seats b.0) (Began command))) refl
      (started-phase k u.geometry b.0 u.surface (u.seats b.0) command known at_place kept.phase)) kept
  kept-step {u = u} {v = v} (world.begins {appliance = b} {reading = reading} known command below at_place now) a alone kept =
      subst (λ n. Kept k w n u → Kept k w n v) (alone _ _ refl).own
      (λ kept. let seat = with_log_entry (u.seats b.0) (Asked ask.Clock [] (answer.Reading reading)) in
      answer-kept u v b.0 seat kept refl refl refl (at-same u.seats b.0 seat) refl
      (first-phase k u.geometry b.0 u.surface (u.seats b.0) reading known command at_place (first-goes u b.0 reading kept) kept.phase)) kept
  kept-step {u = u} {v = v} (world.reads {appliance = b} known command block rest fault below at_place) a alone kept =
      subst (λ n. Kept k w n u → Kept k w n v) (alone _ _ refl).own
      (λ kept. let seat = with_log_entry (u.seats b.0) (Asked (ask.Read (record { 0 = block })) [] (answer.Bytes (u.surface.device block))) in
      answer-kept u v b.0 seat kept refl refl refl (at-same u.seats b.0 seat) refl
      (asked-phase k u.geometry b.0 u.surface (u.seats b.0) (ask.Read (record { 0 = block })) [] (answer.Bytes (u.surface.device block)) known command (ReadThen block rest fault) at_place
      (read-goes k u.surface (u.seats b.0).pending block rest fault) kept.phase)) kept
  kept-step {u = u} {v = v} (world.read_faults {appliance = b} known command block rest fault below at_place) a alone kept =
      subst (λ n. Kept k w n u → Kept k w n v) (alone _ _ refl).own
      (λ kept. let seat = with_log_entry (u.seats b.0) (Asked (ask.Read (record { 0 = block })) [] answer.Fault) in
      answer-kept u v b.0 seat kept refl refl refl (at-same u.seats b.0 seat) refl
      (asked-phase k u.geometry b.0 u.surface (u.seats b.0) (ask.Read (record { 0 = block })) [] answer.Fault known command (ReadThen block rest fault) at_place
      (read-fault-goes k u.surface (u.seats b.0).pending block rest fault) kept.phase)) kept
  kept-step {u = u} {v = v} (world.issues {appliance = b} known command kind block bytes guard done fault missed below at_place free) a alone kept =
      subst (λ n. Kept k w n u → Kept k w n v) (alone _ _ refl).own
      (λ kept. let seat : Seat = record (u.seats b.0) { pending = Some (length u.surface.writes) } in
      let same = at-same u.seats b.0 seat in record {
        geometry = kept.geometry;
        appliances = kept.appliances;
        boots = ap (λ (s : Seat). s.boots) same ∙ kept.boots;
        time = kept.time;
        phase = subst (λ s. Phase k u.geometry b.0 (with_issued u.surface (issued_write u b kind block bytes guard)) s) (sym same)
            (issued-phase k u.geometry b.0 u.surface (u.seats b.0) (setting_of u b.0).boot kind block bytes guard known command done fault missed at_place free kept.phase);
      }) kept
  kept-step {u = u} {v = v} (world.lands {appliance = b} {back = back} {sector = sector} number write below is may) a alone kept = record {
    geometry = kept.geometry;
    appliances = kept.appliances;
    boots = kept.boots;
    time = kept.time;
    phase = landed-phase k u.geometry a u.surface (u.seats a) number sector write ((alone _ _ refl).late number refl) may kept.phase;
  }
  kept-step {u = u} {v = v} (world.dones {appliance = b} known command kind block bytes guard done fault missed number below at_place waits landed) a alone kept =
      subst (λ n. Kept k w n u → Kept k w n v) (alone _ _ refl).own
      (λ kept. let seat = with_log_entry (u.seats b.0) (Asked (ask.Write kind (record { 0 = block }) guard) bytes answer.Done) in
      answer-kept u v b.0 seat kept refl refl refl (at-same u.seats b.0 seat) refl
      (asked-phase k u.geometry b.0 u.surface (u.seats b.0) (ask.Write kind (record { 0 = block }) guard) bytes answer.Done known command (WriteThen kind block bytes guard done fault missed) at_place
      (done-goes k u.surface (u.seats b.0).pending kind block bytes guard done fault missed number waits landed) kept.phase)) kept
  kept-step {u = u} {v = v} (world.write_faults {appliance = b} known command kind block bytes guard done fault missed below at_place) a alone kept =
      subst (λ n. Kept k w n u → Kept k w n v) (alone _ _ refl).own
      (λ kept. let seat = with_log_entry (u.seats b.0) (Asked (ask.Write kind (record { 0 = block }) guard) bytes answer.Fault) in
      answer-kept u v b.0 seat kept refl refl refl (at-same u.seats b.0 seat) refl
      (asked-phase k u.geometry b.0 u.surface (u.seats b.0) (ask.Write kind (record { 0 = block }) guard) bytes answer.Fault known command (WriteThen kind block bytes guard done fault missed) at_place
      (fault-goes k u.surface (u.seats b.0).pending kind block bytes guard done fault missed) kept.phase)) kept
  kept-step {u = u} {v = v} (world.misses {appliance = b} {reading = reading} known command kind block bytes guard done fault missed below at_place free past now) a alone kept =
      subst (λ n. Kept k w n u → Kept k w n v) (alone _ _ refl).own
      (λ kept. let seat = with_log_entry (u.seats b.0) (Asked (ask.Write kind (record { 0 = block }) guard) bytes (answer.Missed reading)) in
      answer-kept u v b.0 seat kept refl refl refl (at-same u.seats b.0 seat) refl
      (asked-phase k u.geometry b.0 u.surface (u.seats b.0) (ask.Write kind (record { 0 = block }) guard) bytes (answer.Missed reading) known command (WriteThen kind block bytes guard done fault missed) at_place
      (missed-goes k u.surface (u.seats b.0).pending kind block bytes guard done fault missed reading) kept.phase)) kept
  kept-step {u = u} {v = v} (world.clocks {appliance = b} {reading = reading} known command rest below at_place now) a alone kept =
      subst (λ n. Kept k w n u → Kept k w n v) (alone _ _ refl).own
      (λ kept. let seat = with_log_entry (u.seats b.0) (Asked ask.Clock [] (answer.Reading reading)) in
      answer-kept u v b.0 seat kept refl refl refl (at-same u.seats b.0 seat) refl
      (asked-phase k u.geometry b.0 u.surface (u.seats b.0) ask.Clock [] (answer.Reading reading) known command (ClockThen rest) at_place
      (clock-goes k u.surface (u.seats b.0).pending rest reading (late-reading u b.0 reading kept now.late)) kept.phase)) kept
  kept-step {u = u} {v = v} (world.waits {appliance = b} {reading = reading} known command from rest below at_place now past) a alone kept =
      subst (λ n. Kept k w n u → Kept k w n v) (alone _ _ refl).own
      (λ kept. let seat = with_log_entry (u.seats b.0) (Asked (ask.Until from) [] (answer.Reading reading)) in
      answer-kept u v b.0 seat kept refl refl refl (at-same u.seats b.0 seat) refl
      (asked-phase k u.geometry b.0 u.surface (u.seats b.0) (ask.Until from) [] (answer.Reading reading) known command (UntilThen from rest) at_place
      (wait-goes k u.surface (u.seats b.0).pending from rest reading past (late-reading u b.0 reading kept now.late)) kept.phase)) kept
  kept-step (world.crashes below room) a alone kept = absurd (alone _ _ refl).own
