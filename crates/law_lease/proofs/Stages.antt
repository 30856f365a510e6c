-- Worlds on the way to an example: what is known of one is enough to make the next step.
use Rattle.std.proofs.Common.{◌≡◌, ◌≢◌, ℕ, zero, suc, ◌+◌, ◌^◌, ◌≤◌, ◌<◌, List, [], ◌∷◌, ◌++◌, length, Bool, true, false, Option, Some, None, refl, ap, sym, subst, ◌∙◌, arith, slice_set, inl, inr}
use Rattle.std.specs.Prelude.{slice_get, drop}
use Rattle.std.proofs.lemmas.Bool.Decides.{eqb_tells}
use Rattle.plx_base.proofs.Devices.{put-same, put-other, put-all}
use Rattle.plx_base.proofs.Mixed.{mixed-landed, mixed-none, mixed-all}
use Rattle.plx_base.specs.Sectors.{Device, put, with_landed_sector, with_landed_sectors}
use Rattle.plx_base.specs.declared.numbers.ApplianceNo.{ApplianceNo}
use Rattle.plx_base.specs.declared.write_kind.WriteKind.{WriteKind}
use Rattle.plx_base.specs.declared.write_kind.WriteKind.TheVariants as kind
use Rattle.plx_commands.proofs.Places.{at-all, at-same, at-other}
use Rattle.plx_commands.specs.Places.{at}
use Rattle.plx_commands.specs.declared.command.Command.{Command}
use Rattle.plx_commands.specs.declared.reply.Reply.{Reply}
use Rattle.plx_commands.specs.declared.reply.Reply.TheVariants as reply
use Rattle.plx_commands.specs.declared.entry.Entry.{Entry}
use Rattle.plx_commands.specs.declared.entry.Entry.TheVariants as entry
use Rattle.plx_commands.specs.declared.event.Event.{Event}
use Rattle.plx_commands.specs.declared.event.Event.TheVariants as event
use Rattle.plx_disk.proofs.Lists.{set-same, push-last}
use Rattle.plx_disk.specs.Writes.{Issued, all_sectors, no_sectors}
use Rattle.plx_disk.specs.declared.ask.Ask.{Ask}
use Rattle.plx_disk.specs.declared.ask.Ask.TheVariants as ask
use Rattle.plx_disk.specs.declared.ask.Answer.{Answer}
use Rattle.plx_disk.specs.declared.ask.Answer.TheVariants as answer
use Rattle.plx_geom.specs.Geometry.{Geometry, block_count}
use Rattle.plx_rules.specs.Process.{Process, Ends, ReadThen, WriteThen, ClockThen, UntilThen, answered}
use Rattle.plx_rules.specs.Boot.{BootEntry, Began, Asked, Place, Idle, Begins, In, Configuration, configuration, place_after_begin, first_process, went_on, goes_to, after_process, place_of}
use Rattle.plx_rules.specs.Hands.{filled_answered, found_by, hand_answered, hand_left}
use Rattle.plx_rules.specs.Commands.{IsBuilt, IsWellFormed, command_process}
use Rattle.plx_rules.specs.Ends.{End}
use Rattle.plx_rules.specs.Holds.{Hold, hold_after_read, after_answer, after_write, holds_after_reply, after_first, first_hold, session_at, sample_of, latest_after}
use Rattle.plx_rules.specs.Session.{Known}
use Rattle.plx_rules.specs.Settings.{boot_number}
use Rattle.plx_rules.specs.Histories.{Past, came, landing}
use Rattle.plx_rules.specs.World as world
use Rattle.plx_rules.specs.Rests.{rests_on}
use Rattle.plx_rules.specs.World.{World, Seat, Step, Reached, IsReadingAt, IsBack, setting_at, setting_of, stands, with_reply_of, with_log_entry, goes_on, with_surface, after_start, after_issue, issued_by, is_boot_of}
use Rattle.law_lease.proofs.LeaseSteps.{reached-leased}
use Rattle.law_lease.proofs.Runs.{own-boot}

-- of what a boot holds: what it holds of one lease, its last reading, and where it stands
pub record Spot : Type 0 where
  pub hold : Hold
  pub sample : Option ℕ
  pub place : Place

-- a configuration of which this is known, of the lease in that block
pub record IsSpot (lease : ℕ) (q : Configuration) (r : Spot) : Type 0 where
  pub hold : q.holds lease ≡ r.hold
  pub sample : q.sample ≡ r.sample
  pub place : q.place ≡ r.place

-- an answer moves what is held of a lease by that alone
answer-alone : (lease : ℕ) (sample : Option ℕ) (asked : Ask) (bytes : List ℕ) (ans : Answer) (holds : ℕ → Hold) →
    after_answer sample asked bytes ans holds lease ≡ after_answer sample asked bytes ans (λ b. holds lease) lease
answer-alone lease sample (ask.Read block) bytes (answer.Bytes found) holds = elim (eqb_tells lease block.0) [
  | inl same ↦
      let P : ℕ → Type 0 = λ n. at holds n (hold_after_read sample found (holds n)) lease ≡ at (λ b. holds lease) n (hold_after_read sample found (holds lease)) lease in
      subst P same.1 (at-same holds lease (hold_after_read sample found (holds lease)) ∙ sym (at-same (λ b. holds lease) lease (hold_after_read sample found (holds lease))))
  | inr away ↦ at-other holds block.0 lease (hold_after_read sample found (holds block.0)) away.1 ∙ sym (at-other (λ b. holds lease) block.0 lease (hold_after_read sample found (holds lease)) away.1)
]
answer-alone lease sample (ask.Write what block guard) bytes answer.Done holds = write-alone what block.0
  where
    at-alone : (block : ℕ) (h : Hold) → at holds block h lease ≡ at (λ b. holds lease) block h lease
    at-alone block h = elim (eqb_tells lease block) [
      | inl same ↦ subst (λ (n : ℕ). at holds n h lease ≡ at (λ b. holds lease) n h lease) same.1 (at-same holds lease h ∙ sym (at-same (λ b. holds lease) lease h))
      | inr away ↦ at-other holds block lease h away.1 ∙ sym (at-other (λ b. holds lease) block lease h away.1)
    ]

    write-alone : (what : WriteKind) (block : ℕ) → after_write what block bytes holds lease ≡ after_write what block bytes (λ b. holds lease) lease
    write-alone kind.Claim block = at-alone block _
    write-alone kind.Renew block = at-alone block _
    write-alone kind.Release block = at-alone block _
    write-alone other block = refl
answer-alone lease sample (ask.Read block) bytes answer.Done holds = refl
answer-alone lease sample (ask.Read block) bytes (answer.Reading reading) holds = refl
answer-alone lease sample (ask.Read block) bytes (answer.Missed reading) holds = refl
answer-alone lease sample (ask.Read block) bytes answer.Fault holds = refl
answer-alone lease sample (ask.Write what block guard) bytes (answer.Bytes found) holds = refl
answer-alone lease sample (ask.Write what block guard) bytes (answer.Reading reading) holds = refl
answer-alone lease sample (ask.Write what block guard) bytes (answer.Missed reading) holds = refl
answer-alone lease sample (ask.Write what block guard) bytes answer.Fault holds = refl
answer-alone lease sample ask.Clock bytes (answer.Bytes found) holds = refl
answer-alone lease sample ask.Clock bytes answer.Done holds = refl
answer-alone lease sample ask.Clock bytes (answer.Reading reading) holds = refl
answer-alone lease sample ask.Clock bytes (answer.Missed reading) holds = refl
answer-alone lease sample ask.Clock bytes answer.Fault holds = refl
answer-alone lease sample (ask.Until from) bytes (answer.Bytes found) holds = refl
answer-alone lease sample (ask.Until from) bytes answer.Done holds = refl
answer-alone lease sample (ask.Until from) bytes (answer.Reading reading) holds = refl
answer-alone lease sample (ask.Until from) bytes (answer.Missed reading) holds = refl
answer-alone lease sample (ask.Until from) bytes answer.Fault holds = refl

-- and so does a reply
process-alone : (lease : ℕ) (process : Process End) (holds : ℕ → Hold) → after_process process holds lease ≡ after_process process (λ b. holds lease) lease
process-alone lease (Ends end) holds = reply-alone end.reply
  where
    reply-alone : (r : Reply) → holds_after_reply r holds lease ≡ holds_after_reply r (λ b. holds lease) lease
    reply-alone (reply.Lost name until reading) = refl
    reply-alone other = refl
process-alone lease (ReadThen block rest fault) holds = refl
process-alone lease (WriteThen what block bytes guard done fault missed) holds = refl
process-alone lease (ClockThen rest) holds = refl
process-alone lease (UntilThen from rest) holds = refl

-- what is held of the lease after an answer that leads to this rest
abbrev pub hold_next : (lease : ℕ) → Spot → Ask → List ℕ → Answer → Process End → Hold
hold_next lease r asked bytes ans rest = after_process rest (λ b. after_answer r.sample asked bytes ans (λ c. r.hold) lease) lease

next-holds : (lease : ℕ) (q : Configuration) (r : Spot) → IsSpot lease q r → (asked : Ask) (bytes : List ℕ) (ans : Answer) (rest : Process End) →
    after_process rest (after_answer q.sample asked bytes ans q.holds) lease ≡ hold_next lease r asked bytes ans rest
next-holds lease q r is asked bytes ans rest =
    process-alone lease rest (after_answer q.sample asked bytes ans q.holds)
    ∙ ((λ i. after_process rest (λ b. answer-alone lease q.sample asked bytes ans q.holds i) lease)
    ∙ (λ i. after_process rest (λ b. after_answer (is.sample i) asked bytes ans (λ c. is.hold i) lease) lease))

-- eight flags, of which the first ones are set
abbrev first_flags : ℕ → List Bool
first_flags zero = no_sectors
first_flags (suc k) = slice_set (first_flags k) k true

module _ (g : Geometry) (appliances : ℕ) (few : appliances ≤ 8) (lease : ℕ) where
  -- a world of this geometry
  abbrev pub world_at : (time : ℕ) → Device → List Issued → (rests : ℕ → List ℕ) → (ℕ → Seat) → List Entry → List Past → World
  world_at time device writes rests seats trace history = record {
    geometry = g;
    appliances = appliances;
    surface = record { blocks = block_count g; device = device; writes = writes; time = time };
    rests = rests;
    seats = seats;
    trace = trace;
    history = history;
  }

  -- where an appliance stands in its boot
  abbrev place_in : ℕ → Seat → Configuration
  place_in b seat = configuration (setting_at g b seat.boots) seat.log

  -- a world that is reached at this time, with this device and this trace, in which each appliance stands so in its first boot and waits for no write
  pub record Stage (t : ℕ) (d : Device) (p : ℕ → Spot) (tr : List Entry) : Type 0 where
    pub device : Device
    pub writes : List Issued
    pub rests : ℕ → List ℕ
    pub seats : ℕ → Seat
    pub history : List Past
    pub reached : Reached (world_at t device writes rests seats tr history)
    pub same : (b : ℕ) → device b ≡ d b
    pub places : (b : ℕ) → IsSpot lease (place_in b (seats b)) (p b)
    pub free : (b : ℕ) → (seats b).pending ≡ None
    pub boots : (b : ℕ) → (seats b).boots ≡ 0

  -- it doesn't matter how the places are said
  pub same-places : {t : ℕ} {d : Device} {p : ℕ → Spot} {tr : List Entry} → Stage t d p tr → (q : ℕ → Spot) → ((b : ℕ) → p b ≡ q b) → Stage t d q tr
  same-places st q same = record {
    device = st.device;
    writes = st.writes;
    rests = st.rests;
    seats = st.seats;
    history = st.history;
    reached = st.reached;
    same = st.same;
    places = λ b. subst (IsSpot lease (place_in b (st.seats b))) (same b) (st.places b);
    free = st.free;
    boots = st.boots;
  }

  -- time passes
  pub stage-after-tick : {t : ℕ} {d : Device} {p : ℕ → Spot} {tr : List Entry} → Stage t d p tr → (by : ℕ) → t + by < 2 ^ 47 → Stage (t + by) d p tr
  stage-after-tick st by soon = record {
    device = st.device;
    writes = st.writes;
    rests = st.rests;
    seats = st.seats;
    history = came (event.Tick by) ∷ st.history;
    reached = world.later st.reached (world.ticks soon);
    same = st.same;
    places = st.places;
    free = st.free;
    boots = st.boots;
  }

  module _ {t : ℕ} {d : Device} {p : ℕ → Spot} {tr : List Entry} (st : Stage t d p tr) (a : ApplianceNo) (below : a.0 < appliances) where
    abbrev w : World
    w = world_at t st.device st.writes st.rests st.seats tr st.history

    abbrev r : Spot
    r = p a.0

    now : IsReadingAt t t
    now = record { early = omega arith; late = omega arith }

    stands-at : (place : Place) → r.place ≡ place → (stands w a.0).place ≡ place
    stands-at place here = (st.places a.0).place ∙ here

    -- something happens to the appliance
    go : (entry : BootEntry) (history : List Past) (trace : List Entry) (q : Spot) →
        Reached (world_at t st.device st.writes st.rests (at st.seats a.0 (with_log_entry (st.seats a.0) entry)) trace history) →
        IsSpot lease (place_in a.0 (with_log_entry (st.seats a.0) entry)) q → Stage t d (at p a.0 q) trace
    go entry history trace q reached is = record {
      device = st.device;
      writes = st.writes;
      rests = st.rests;
      seats = at st.seats a.0 (with_log_entry (st.seats a.0) entry);
      history = history;
      reached = reached;
      same = st.same;
      places = at-all (λ b s. IsSpot lease (place_in b s) (at p a.0 q b)) st.seats a.0 _
          (subst (λ (x : Spot). IsSpot lease (place_in a.0 (with_log_entry (st.seats a.0) entry)) x) (sym (at-same p a.0 q)) is)
          (λ b ne. subst (λ (x : Spot). IsSpot lease (place_in b (st.seats b)) x) (sym (at-other p a.0 b q ne)) (st.places b));
      free = at-all (λ b s. s.pending ≡ None) st.seats a.0 _ refl (λ b ne. st.free b);
      boots = at-all (λ b s. s.boots ≡ 0) st.seats a.0 _ (st.boots a.0) (λ b ne. st.boots b);
    }

    -- where an answered ask leads
    abbrev pub spot_next : Known → Command → Hold → Answer → Process End → Spot
    spot_next known command hold ans rest = record { hold = hold; sample = sample_of ans; place = place_of known command rest }

    spot-next : (known : Known) (command : Command) (process : Process End) → r.place ≡ In known command process → (asked : Ask) (bytes : List ℕ) (ans : Answer) (rest : Process End) → answered process ans ≡ rest →
        (hold : Hold) → hold_next lease r asked bytes ans rest ≡ hold → (seat : Seat) → IsSpot lease (place_in a.0 seat) r →
        IsSpot lease (place_in a.0 (with_log_entry seat (Asked asked bytes ans))) (spot_next known command hold ans rest)
    spot-next known command process here asked bytes ans rest leads hold held seat is =
        let q : Configuration = place_in a.0 seat in
        let e : place_in a.0 (with_log_entry seat (Asked asked bytes ans)) ≡ goes_to g known command (after_answer q.sample asked bytes ans q.holds) (hand_left asked q.filled (hand_answered g q.found asked bytes ans q.hand)) (filled_answered asked bytes ans q.filled) (sample_of ans) (found_by asked ans) (latest_after ans q.latest) rest =
        ap (went_on (setting_at g a.0 seat.boots) asked bytes ans q) (is.place ∙ here)
        ∙ ap (goes_to g known command (after_answer q.sample asked bytes ans q.holds) (hand_left asked q.filled (hand_answered g q.found asked bytes ans q.hand)) (filled_answered asked bytes ans q.filled) (sample_of ans) (found_by asked ans) (latest_after ans q.latest)) leads in
        subst (λ (x : Configuration). IsSpot lease x (spot_next known command hold ans rest)) (sym e) (record {
          hold = next-holds lease q r is asked bytes ans rest ∙ held;
          sample = refl;
          place = refl;
        })

    -- an ask of a command is answered
    go-in : (known : Known) (command : Command) (process : Process End) → r.place ≡ In known command process → (one : Event) (asked : Ask) (bytes : List ℕ) (ans : Answer) (rest : Process End) →
        answered process ans ≡ rest → (hold : Hold) → hold_next lease r asked bytes ans rest ≡ hold → Step w one (goes_on w one a asked bytes ans (answered process ans)) →
        Stage t d (at p a.0 (spot_next known command hold ans rest)) (with_reply_of a rest tr)
    go-in known command process here one asked bytes ans rest leads hold held step =
        go (Asked asked bytes ans) (came one ∷ st.history) (with_reply_of a rest tr) _
        (world.later st.reached (subst (λ (x : Process End). Step w one (goes_on w one a asked bytes ans x)) leads step))
        (spot-next known command process here asked bytes ans rest leads hold held (st.seats a.0) (st.places a.0))

    -- the clock answers
    pub stage-after-clock : (known : Known) (command : Command) (next : ℕ → Process End) → r.place ≡ In known command (ClockThen next) → (rest : Process End) → next t ≡ rest →
        (hold : Hold) → hold_next lease r ask.Clock [] (answer.Reading t) rest ≡ hold → Stage t d (at p a.0 (spot_next known command hold (answer.Reading t) rest)) (with_reply_of a rest tr)
    stage-after-clock known command next here rest is hold held =
        go-in known command (ClockThen next) here (event.Reading a t) ask.Clock [] (answer.Reading t) rest is hold held
        (world.clocks {reading = t} known command next below (stands-at _ here) now)

    -- a wait is over
    pub stage-after-wait : (known : Known) (command : Command) (from : ℕ) (next : ℕ → Process End) → r.place ≡ In known command (UntilThen from next) → from ≤ t → (rest : Process End) → next t ≡ rest →
        (hold : Hold) → hold_next lease r (ask.Until from) [] (answer.Reading t) rest ≡ hold → Stage t d (at p a.0 (spot_next known command hold (answer.Reading t) rest)) (with_reply_of a rest tr)
    stage-after-wait known command from next here past rest is hold held =
        go-in known command (UntilThen from next) here (event.Reading a t) (ask.Until from) [] (answer.Reading t) rest is hold held
        (world.waits {reading = t} known command from next below (stands-at _ here) now past)

    -- a read is answered
    pub stage-after-read : (known : Known) (command : Command) (block : ℕ) (next : List ℕ → Process End) (fault : Process End) → r.place ≡ In known command (ReadThen block next fault) →
        (found : List ℕ) → d block ≡ found → (rest : Process End) → next found ≡ rest →
        (hold : Hold) → hold_next lease r (ask.Read (record { 0 = block })) [] (answer.Bytes found) rest ≡ hold →
        Stage t d (at p a.0 (spot_next known command hold (answer.Bytes found) rest)) (with_reply_of a rest tr)
    stage-after-read known command block next fault here found there rest is hold held =
        let P : List ℕ → Type 0 = λ bytes. Step w (event.Read a) (goes_on w (event.Read a) a (ask.Read (record { 0 = block })) [] (answer.Bytes bytes) (next bytes)) in
        go-in known command (ReadThen block next fault) here (event.Read a) (ask.Read (record { 0 = block })) [] (answer.Bytes found) rest is hold held
        (subst P (st.same block ∙ there) (world.reads known command block next fault below (stands-at _ here)))

    -- a command begins
    pub starts-now : (known : Known) (command : Command) → r.place ≡ Idle known → IsWellFormed command → IsBuilt command →
        Stage t d (at p a.0 (record { hold = r.hold; sample = None; place = Begins known command })) (entry.Start a command ∷ tr)
    starts-now known command here whole built =
        go (Began command) (came (event.Start a command) ∷ st.history) (entry.Start a command ∷ tr) _
        (world.later st.reached (world.starts known below (stands-at _ here) whole built))
        (record { hold = (st.places a.0).hold; sample = refl; place = ap (place_after_begin command) (stands-at _ here) })

    -- and its first reading comes: what it asks goes by what is held of the lease
    pub first-reading : (known : Known) (command : Command) → r.place ≡ Begins known command → (rest : Process End) →
        ((holds : ℕ → Hold) (hand : List ℕ) → holds lease ≡ r.hold → command_process (setting_at g a.0 0) known (after_first g known t holds) hand t command ≡ rest) →
        (hold : Hold) → after_process rest (λ b. after_first g known t (λ c. r.hold) lease) lease ≡ hold →
        Stage t d (at p a.0 (spot_next known command hold (answer.Reading t) rest)) (with_reply_of a rest tr)
    first-reading known command here rest is hold held =
        let q : Configuration = stands w a.0 in
        let held-q : q.holds lease ≡ r.hold = (st.places a.0).hold in
        let process : (boots : ℕ) → Process End = λ boots. first_process (setting_at g a.0 boots) known t command q in
        let all : process (st.seats a.0).boots ≡ rest = ap process (st.boots a.0) ∙ is q.holds _ held-q in
        let P : Process End → Type 0 = λ x. Step w (event.Reading a t) (goes_on w (event.Reading a t) a ask.Clock [] (answer.Reading t) x) in
        let e : place_in a.0 (with_log_entry (st.seats a.0) (Asked ask.Clock [] (answer.Reading t))) ≡ goes_to g known command (after_first g known t q.holds) q.hand [] (Some t) None t rest =
        ap (went_on (setting_at g a.0 (st.seats a.0).boots) ask.Clock [] (answer.Reading t) q) (stands-at _ here)
        ∙ ap (goes_to g known command (after_first g known t q.holds) q.hand [] (Some t) None t) all in
        go (Asked ask.Clock [] (answer.Reading t)) (came (event.Reading a t) ∷ st.history) (with_reply_of a rest tr) _
        (world.later st.reached (subst P all (world.begins {reading = t} known command below (stands-at _ here) now)))
        (subst (λ (x : Configuration). IsSpot lease x (spot_next known command hold (answer.Reading t) rest)) (sym e) (record {
          hold = process-alone lease rest (after_first g known t q.holds) ∙ ((λ i. after_process rest (λ b. first_hold (session_at g known lease) t (held-q i)) lease) ∙ held);
          sample = refl;
          place = refl;
        }))

    -- a write is issued, lands sector after sector, and is done
    module _ (known : Known) (command : Command) (what : WriteKind) (block : ℕ) (bytes : List ℕ) (guard : ℕ) (done fault : Process End) (missed : ℕ → Process End)
        (here : r.place ≡ In known command (WriteThen what block bytes guard done fault missed)) (early : t ≤ guard + 50) (long : length bytes ≡ 4096) where
      abbrev pub number : ℕ
      number = length st.writes

      abbrev pub owner : ℕ
      owner = boot_number a.0 (st.seats a.0).boots

      abbrev pub write_of : List Bool → Issued
      write_of flags = record { owner = owner; kind = what; block = block; bytes = bytes; guard = guard; landed = flags; cancelled = false }

      abbrev pub waiting : ℕ → Seat
      waiting = at st.seats a.0 (record (st.seats a.0) { pending = Some number })

      abbrev pub since : ℕ → List ℕ
      since = at st.rests number (rests_on g command (stands w a.0).holds (stands w a.0).filled what block bytes)

      old-long : length (st.device block) ≡ 4096
      old-long = (reached-leased st.reached).long block

      -- so much of it has landed
      pub record Landing (flags : List Bool) : Type 0 where
        pub device : Device
        pub writes : List Issued
        pub history : List Past
        pub reached : Reached (world_at t device writes since waiting tr history)
        pub found : slice_get writes number ≡ Some (write_of flags)
        pub there : device block ≡ with_landed_sectors flags bytes (st.device block)
        pub others : (b : ℕ) → b ≢ block → device b ≡ st.device b

      issued-first : Landing no_sectors
      issued-first = record {
        device = st.device;
        writes = st.writes ++ write_of no_sectors ∷ [];
        history = came (event.Issue a) ∷ st.history;
        reached = world.later st.reached (world.issues known command what block bytes guard done fault missed below (stands-at _ here) (st.free a.0));
        found = push-last st.writes (write_of no_sectors);
        there = sym (mixed-none 8 bytes (st.device block));
        others = λ b ne. refl;
      }

      lands-next : (flags : List Bool) (k : ℕ) → length flags ≡ 8 → slice_get flags k ≡ Some false → Landing flags → Landing (slice_set flags k true)
      lands-next flags k eight missing l = record {
        device = put l.device block (with_landed_sector k bytes (l.device block));
        writes = slice_set l.writes number (write_of (slice_set flags k true));
        history = landing (event.Land a (issued_by a.0 (drop (number + 1) l.writes)) k) number ∷ l.history;
        reached = world.later l.reached (world.lands {back = issued_by a.0 (drop (number + 1) l.writes)} {sector = k} number (write_of flags) below
            (record { found = l.found; owner = own-boot a.0 (st.seats a.0).boots (omega (arith, few, below)); newer = refl })
            (record { found = l.found; open_yet = refl; missing = missing; early = early }));
        found = set-same l.writes number (write_of (slice_set flags k true)) (write_of flags) l.found;
        there = put-same l.device block (with_landed_sector k bytes (l.device block))
            ∙ (ap (with_landed_sector k bytes) l.there ∙ mixed-landed flags bytes (st.device block) k false missing (omega (arith, long, eight)) (omega (arith, old-long, eight)));
        others = λ b ne. put-other l.device block (with_landed_sector k bytes (l.device block)) b ne ∙ l.others b ne;
      }

      pub landed-whole : Landing all_sectors
      landed-whole =
          lands-next (first_flags 7) 7 refl refl (lands-next (first_flags 6) 6 refl refl (lands-next (first_flags 5) 5 refl refl (lands-next (first_flags 4) 4 refl refl
          (lands-next (first_flags 3) 3 refl refl (lands-next (first_flags 2) 2 refl refl (lands-next (first_flags 1) 1 refl refl (lands-next (first_flags 0) 0 refl refl issued-first)))))))

      pub still-places : (b : ℕ) → IsSpot lease (place_in b (waiting b)) (p b)
      still-places = at-all (λ b s. IsSpot lease (place_in b s) (p b)) st.seats a.0 _ (st.places a.0) (λ b ne. st.places b)

      still-boots : (b : ℕ) → (waiting b).boots ≡ 0
      still-boots = at-all (λ b s. s.boots ≡ 0) st.seats a.0 _ (st.boots a.0) (λ b ne. st.boots b)

      pub waits-for : (waiting a.0).pending ≡ Some number
      waits-for = ap (λ (s : Seat). s.pending) (at-same st.seats a.0 (record (st.seats a.0) { pending = Some number }))

      abbrev pub last : World
      last = world_at t landed-whole.device landed-whole.writes since waiting tr landed-whole.history

      pub stage-after-write : (rest : Process End) → done ≡ rest → (hold : Hold) → hold_next lease r (ask.Write what (record { 0 = block }) guard) bytes answer.Done rest ≡ hold →
          Stage t (put d block bytes) (at p a.0 (spot_next known command hold answer.Done rest)) (with_reply_of a rest tr)
      stage-after-write rest is hold held = record {
        device = landed-whole.device;
        writes = landed-whole.writes;
        rests = since;
        seats = at waiting a.0 (with_log_entry (waiting a.0) (Asked (ask.Write what (record { 0 = block }) guard) bytes answer.Done));
        history = came (event.Done a) ∷ landed-whole.history;
        reached = world.later landed-whole.reached
            (subst (λ (x : Process End). Step last (event.Done a) (goes_on last (event.Done a) a (ask.Write what (record { 0 = block }) guard) bytes answer.Done x)) is
            (world.dones known command what block bytes guard done fault missed number below
            ((still-places a.0).place ∙ here) waits-for (write_of all_sectors, landed-whole.found, refl)));
        same = λ b. sym (put-all (λ c x. x ≡ landed-whole.device c) d block bytes (sym (mixed-all 8 bytes (st.device block) long old-long) ∙ sym landed-whole.there)
            (λ c ne. sym (landed-whole.others c ne ∙ st.same c)) b);
        places = at-all (λ b s. IsSpot lease (place_in b s) (at p a.0 q b)) waiting a.0 _
            (subst (λ (x : Spot). IsSpot lease (place_in a.0 (with_log_entry (waiting a.0) (Asked (ask.Write what (record { 0 = block }) guard) bytes answer.Done))) x) (sym (at-same p a.0 q))
            (spot-next known command (WriteThen what block bytes guard done fault missed) here (ask.Write what (record { 0 = block }) guard) bytes answer.Done rest is hold held (waiting a.0) (still-places a.0)))
            (λ b ne. subst (λ (x : Spot). IsSpot lease (place_in b (waiting b)) x) (sym (at-other p a.0 b q ne)) (still-places b));
        free = at-all (λ b s. s.pending ≡ None) waiting a.0 _ refl (λ b ne. at-all (λ c s. c ≢ a.0 → s.pending ≡ None) st.seats a.0 _ (λ away. absurd (away refl)) (λ c ne' away. st.free c) b ne);
        boots = at-all (λ b s. s.boots ≡ 0) waiting a.0 _ (still-boots a.0) (λ b ne. still-boots b);
      }
        where
          q : Spot
          q = spot_next known command hold answer.Done rest
