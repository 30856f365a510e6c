-- How an appliance goes on with one command, and after it, where nothing disturbs it.
use Rattle.law_quiet.proofs.Walks.{Always, Tracked, Quietly}
use Rattle.law_quiet.proofs.Unbusy.{IsUnhindered, Suits}
use Rattle.std.proofs.Common.{◌≡◌, ◌⊎◌, inl, inr, ℕ, ◌+◌, ◌≤◌, List, [], ◌∷◌, ◌++◌, length, Bool, Option, Some, None, refl, ap, sym, subst, ◌∙◌, append_assoc}
use Rattle.plx_base.specs.Sectors.{Device, put}
use Rattle.plx_base.specs.declared.write_kind.WriteKind.{WriteKind}
use Rattle.plx_commands.specs.declared.command.Command.{Command}
use Rattle.plx_commands.specs.declared.reply.Reply.{Reply}
use Rattle.plx_disk.specs.Writes.{Surface, Issued, MayLand, HasLanded, fresh_write, with_issued, after_landing, after_time}
use Rattle.plx_disk.specs.declared.ask.Ask.{Ask}
use Rattle.plx_disk.specs.declared.ask.Ask.TheVariants as ask
use Rattle.plx_disk.specs.declared.ask.Answer.{Answer}
use Rattle.plx_disk.specs.declared.ask.Answer.TheVariants as answer
use Rattle.plx_geom.specs.Geometry.{Geometry}
use Rattle.plx_rules.specs.Boot.{Began, Asked, Idle, Begins, In, Configuration, configuration, place_of, place_after_begin, first_process, went_on, reply_of, replies_at}
use Rattle.plx_rules.specs.Ends.{End}
use Rattle.plx_rules.specs.Holds.{Hold, sample_of}
use Rattle.plx_rules.specs.Process.{Process, Ends, ReadThen, WriteThen, ClockThen, UntilThen, answered}
use Rattle.plx_rules.specs.Session.{Known}
use Rattle.plx_rules.specs.Times.{drift}
use Rattle.plx_rules.specs.World.{Seat, setting_at, with_log_entry}
use Rattle.law_run.specs.CommandLogs.{Exchange, Finished, CommandLog, Commands, Between, Within, commands, commands_after_start, commands_after_exchange, earliest, first_reading}
use Rattle.law_run.specs.Configurations.{finished_of}
use Rattle.law_quiet.proofs.Devices.{AtRest, OnDevice, rest-on, rest-free, rest-later, on-later, issued-way, done-rest, none-lands, landed-way}

-- the command that is watched, whether it is for space, the commands before it, and its first reading; what was known, held and in hand as it
-- began, the device then, how many writes were issued, and the time
pub record Watch : Type 0 where
  pub command : Command
  pub space : Bool
  pub known : Known
  pub hand : List ℕ
  pub before : List Finished
  pub wanted : Option ℕ
  pub holds : ℕ → Hold
  pub device : Device
  pub from : ℕ
  pub low : ℕ

-- the rest of a command ends well
abbrev pub GoesWell : Watch → Surface → (pending : Option ℕ) → Process End → Type 0
GoesWell k surface pending process = Always (Suits k.space) process ⊎ ((device : Device) × Tracked (Suits k.space) k.low device process × OnDevice k.from device surface pending process)

abbrev pub log_with : Watch → Command → List Exchange → CommandLog
log_with k one exchanges = record { before = k.before; command = one; exchanges = exchanges }

abbrev pub stand : Geometry → ℕ → Seat → Configuration
stand g a seat = configuration (setting_at g a seat.boots) seat.log

abbrev pub cut : Geometry → ℕ → Seat → Commands
cut g a seat = commands (setting_at g a seat.boots) seat.log

-- where a seat stands: the command hasn't begun, has begun, runs, or has its reply; it is told of the watched command alone, and with its first reading
pub data Phase (k : Watch) (g : Geometry) (a : ℕ) (surface : Surface) (seat : Seat) : Type 0 where
  idle : (stand g a seat).place ≡ Idle k.known → (stand g a seat).holds ≡ k.holds → (stand g a seat).hand ≡ k.hand → cut g a seat ≡ Between k.before → AtRest k.from k.device surface None →
      Phase k g a surface seat
  begun : (one : Command) → (stand g a seat).place ≡ Begins k.known one → (stand g a seat).holds ≡ k.holds → (stand g a seat).hand ≡ k.hand → cut g a seat ≡ Within (log_with k one []) →
      AtRest k.from k.device surface None → Phase k g a surface seat
  within : (known : Known) (one : Command) (process : Process End) (exchanges : List Exchange) (reading : ℕ) → (stand g a seat).place ≡ In known one process →
      cut g a seat ≡ Within (log_with k one exchanges) → first_reading exchanges ≡ Some reading →
      (k.command ≡ one → k.wanted ≡ Some reading → GoesWell k surface seat.pending process) → Phase k g a surface seat
  over : (more : List Finished) (done : Finished) → finished_of (cut g a seat) ≡ more ++ done ∷ k.before →
      (k.command ≡ done.command → k.wanted ≡ first_reading done.exchanges → IsUnhindered done.reply k.space) → Phase k g a surface seat

-- ---- the commands of a log that have their replies are more and more

finished-started : (command : Command) (so_far : Commands) → finished_of (commands_after_start command so_far) ≡ finished_of so_far
finished-started command (Between before) = refl
finished-started command (Within log) = refl

finished-more : (x : Exchange) (r : Option Reply) (so_far : Commands) → (more : List Finished) × (finished_of (commands_after_exchange x r so_far) ≡ more ++ finished_of so_far)
finished-more x r (Between before) = ([], refl)
finished-more x None (Within log) = ([], refl)
finished-more x (Some r) (Within log) = ((record { command = log.command; exchanges = x ∷ log.exchanges; reply = r }) ∷ [], refl)

in-is : (known known' : Known) (one one' : Command) (process process' : Process End) → In known one process ≡ In known' one' process' → process ≡ process'
in-is known known' one one' process process' same = cc

module _ (k : Watch) (g : Geometry) (a : ℕ) (surface : Surface) where
  -- an answer leads to a rest
  turn : (seat : Seat) (known : Known) (one : Command) (x : Exchange) (exchanges : List Exchange) (reading : ℕ) (rest : Process End) →
      (stand g a seat).place ≡ place_of known one rest → cut g a seat ≡ commands_after_exchange x (reply_of rest) (Within (log_with k one exchanges)) →
      first_reading (x ∷ exchanges) ≡ Some reading → (k.command ≡ one → k.wanted ≡ Some reading → GoesWell k surface seat.pending rest) → Phase k g a surface seat
  turn seat known one x exchanges reading (Ends end) place commands first goes =
      over [] (record { command = one; exchanges = x ∷ exchanges; reply = end.reply }) (ap finished_of commands)
      (λ is was. elim (goes is (was ∙ first)) [ inl fine ↦ fine | inr tracked ↦ tracked.1 ])
  turn seat known one x exchanges reading (ReadThen block rest fault) place commands first goes = within known one (ReadThen block rest fault) (x ∷ exchanges) reading place commands first goes
  turn seat known one x exchanges reading (WriteThen kind block bytes guard done fault missed) place commands first goes =
      within known one (WriteThen kind block bytes guard done fault missed) (x ∷ exchanges) reading place commands first goes
  turn seat known one x exchanges reading (ClockThen rest) place commands first goes = within known one (ClockThen rest) (x ∷ exchanges) reading place commands first goes
  turn seat known one x exchanges reading (UntilThen from rest) place commands first goes = within known one (UntilThen from rest) (x ∷ exchanges) reading place commands first goes

  over-asked : (seat : Seat) (asked : Ask) (bytes : List ℕ) (ans : Answer) (more : List Finished) (done : Finished) → finished_of (cut g a seat) ≡ more ++ done ∷ k.before →
      (k.command ≡ done.command → k.wanted ≡ first_reading done.exchanges → IsUnhindered done.reply k.space) → Phase k g a surface (with_log_entry seat (Asked asked bytes ans))
  over-asked seat asked bytes ans more done is good =
      let next = finished-more (record { ask = asked; bytes = bytes; answer = ans }) (replies_at (setting_at g a seat.boots) ans (stand g a seat) (stand g a seat).place) (cut g a seat) in
      over (next.0 ++ more) done (next.1 ∙ (ap (λ xs. next.0 ++ xs) is ∙ sym (append_assoc next.0 more (done ∷ k.before)))) good

  -- an ask of a command is answered
  pub asked-phase : (seat : Seat) (asked : Ask) (bytes : List ℕ) (ans : Answer) (known : Known) (one : Command) (process : Process End) → (stand g a seat).place ≡ In known one process →
      (GoesWell k surface seat.pending process → GoesWell k surface None (answered process ans)) → Phase k g a surface seat → Phase k g a surface (with_log_entry seat (Asked asked bytes ans))
  asked-phase seat asked bytes ans known one process here turns (idle place holds hand commands rest) = absurd (let e : Idle k.known ≡ In known one process = sym place ∙ here in let P : ⊥ = cc in P)
  asked-phase seat asked bytes ans known one process here turns (begun one' place holds hand commands rest) =
      absurd (let e : Begins k.known one' ≡ In known one process = sym place ∙ here in let P : ⊥ = cc in P)
  asked-phase seat asked bytes ans known one process here turns (within known' one' process' exchanges reading place commands first goes) =
      let same : process' ≡ process = in-is known' known one' one process' process (sym place ∙ here) in
      let s = setting_at g a seat.boots in
      let p = stand g a seat in
      let x : Exchange = record { ask = asked; bytes = bytes; answer = ans } in
      let R : Option Reply → Commands = λ r. commands_after_exchange x r (Within (log_with k one' exchanges)) in
      turn (with_log_entry seat (Asked asked bytes ans)) known' one' x exchanges reading (answered process ans)
      (ap (λ pl. (went_on s asked bytes ans p pl).place) place ∙ ap (λ q. place_of known' one' (answered q ans)) same)
      (ap (commands_after_exchange x (replies_at s ans p p.place)) commands ∙ (ap (λ pl. R (replies_at s ans p pl)) place ∙ ap (λ q. R (reply_of (answered q ans))) same))
      (ap (λ o. earliest o (sample_of ans)) first)
      (λ is was. turns (subst (λ q. GoesWell k surface seat.pending q) same (goes is was)))
  asked-phase seat asked bytes ans known one process here turns (over more done is good) = over-asked seat asked bytes ans more done is good

  -- a command begins
  pub started-phase : (seat : Seat) (command : Command) (known : Known) → (stand g a seat).place ≡ Idle known → Phase k g a surface seat → Phase k g a surface (with_log_entry seat (Began command))
  started-phase seat command known here (idle place holds hand commands rest) =
      begun command (ap (place_after_begin command) place) holds hand (ap (commands_after_start command) commands) rest
  started-phase seat command known here (begun one place holds hand commands rest) = absurd (let e : Begins k.known one ≡ Idle known = sym place ∙ here in let P : ⊥ = cc in P)
  started-phase seat command known here (within known' one process exchanges reading place commands first goes) =
      absurd (let e : In known' one process ≡ Idle known = sym place ∙ here in let P : ⊥ = cc in P)
  started-phase seat command known here (over more done is good) = over more done (finished-started command (cut g a seat) ∙ is) good

  -- its first reading comes
  pub first-phase : (seat : Seat) (reading : ℕ) (known : Known) (command : Command) → (stand g a seat).place ≡ Begins known command →
      ((one : Command) → k.command ≡ one → k.wanted ≡ Some reading → (stand g a seat).holds ≡ k.holds → (stand g a seat).hand ≡ k.hand →
      Quietly (Suits k.space) k.low k.device (first_process (setting_at g a seat.boots) k.known reading one (stand g a seat))) →
      Phase k g a surface seat → Phase k g a surface (with_log_entry seat (Asked ask.Clock [] (answer.Reading reading)))
  first-phase seat reading known command here goes (idle place holds hand commands rest) = absurd (let e : Idle k.known ≡ Begins known command = sym place ∙ here in let P : ⊥ = cc in P)
  first-phase seat reading known command here goes (begun one place holds hand commands rest) =
      let s = setting_at g a seat.boots in
      let p = stand g a seat in
      let x : Exchange = record { ask = ask.Clock; bytes = []; answer = answer.Reading reading } in
      let process = first_process s k.known reading one p in
      turn (with_log_entry seat (Asked ask.Clock [] (answer.Reading reading))) k.known one x [] reading process
      (ap (λ pl. (went_on s ask.Clock [] (answer.Reading reading) p pl).place) place)
      (ap (commands_after_exchange x (replies_at s (answer.Reading reading) p p.place)) commands
      ∙ ap (λ pl. commands_after_exchange x (replies_at s (answer.Reading reading) p pl) (Within (log_with k one []))) place)
      refl
      (λ is was. elim (goes one is was holds hand) [
        | inl fine ↦ inl fine
        | inr tracked ↦ inr (k.device, tracked, rest-on k.from k.device surface None process rest)
      ])
  first-phase seat reading known command here goes (within known' one process exchanges reading' place commands first goes') =
      absurd (let e : In known' one process ≡ Begins known command = sym place ∙ here in let P : ⊥ = cc in P)
  first-phase seat reading known command here goes (over more done is good) = over-asked seat ask.Clock [] (answer.Reading reading) more done is good

-- the device changes alone
pub same-phase : (k : Watch) (g : Geometry) (a : ℕ) (surface surface' : Surface) (seat : Seat) → ((device : Device) → AtRest k.from device surface None → AtRest k.from device surface' None) →
    ((process : Process End) → GoesWell k surface seat.pending process → GoesWell k surface' seat.pending process) → Phase k g a surface seat → Phase k g a surface' seat
same-phase k g a surface surface' seat rests goes (idle place holds hand commands rest) = idle place holds hand commands (rests k.device rest)
same-phase k g a surface surface' seat rests goes (begun one place holds hand commands rest) = begun one place holds hand commands (rests k.device rest)
same-phase k g a surface surface' seat rests goes (within known one process exchanges reading place commands first good) =
    within known one process exchanges reading place commands first (λ is was. goes process (good is was))
same-phase k g a surface surface' seat rests goes (over more done is good) = over more done is good

-- time passes
pub ticked-phase : (k : Watch) (g : Geometry) (a : ℕ) (surface : Surface) (by : ℕ) (seat : Seat) → Phase k g a surface seat → Phase k g a (after_time surface by) seat
ticked-phase k g a surface by seat phase =
    same-phase k g a surface (after_time surface by) seat (λ device rest. rest-later k.from device surface by None rest) ticked phase
  where
    ticked : (process : Process End) → GoesWell k surface seat.pending process → GoesWell k (after_time surface by) seat.pending process
    ticked process (inl fine) = inl fine
    ticked process (inr tracked) = inr (tracked.0, tracked.1, on-later k.from tracked.0 surface by seat.pending process tracked.2)

-- a write is issued
pub issued-phase : (k : Watch) (g : Geometry) (a : ℕ) (surface : Surface) (seat : Seat) (owner : ℕ) (kind : WriteKind) (block : ℕ) (bytes : List ℕ) (guard : ℕ) (known : Known) (one : Command)
    (done fault : Process End) (missed : ℕ → Process End) → (stand g a seat).place ≡ In known one (WriteThen kind block bytes guard done fault missed) → seat.pending ≡ None → Phase k g a surface seat →
    Phase k g a (with_issued surface (fresh_write owner kind block bytes guard)) (record seat { pending = Some (length surface.writes) })
issued-phase k g a surface seat owner kind block bytes guard known one done fault missed here free (idle place holds hand commands rest) =
    absurd (let e : Idle k.known ≡ In known one (WriteThen kind block bytes guard done fault missed) = sym place ∙ here in let P : ⊥ = cc in P)
issued-phase k g a surface seat owner kind block bytes guard known one done fault missed here free (begun one' place holds hand commands rest) =
    absurd (let e : Begins k.known one' ≡ In known one (WriteThen kind block bytes guard done fault missed) = sym place ∙ here in let P : ⊥ = cc in P)
issued-phase k g a surface seat owner kind block bytes guard known one done fault missed here free (within known' one' process exchanges reading place commands first goes) =
    let same : process ≡ WriteThen kind block bytes guard done fault missed = in-is known' known one' one process (WriteThen kind block bytes guard done fault missed) (sym place ∙ here) in
    within known' one' (WriteThen kind block bytes guard done fault missed) exchanges reading (place ∙ ap (In known' one') same) commands first
    (λ is was. on (subst (λ q. GoesWell k surface seat.pending q) same (goes is was)))
  where
    on : GoesWell k surface seat.pending (WriteThen kind block bytes guard done fault missed) →
        GoesWell k (with_issued surface (fresh_write owner kind block bytes guard)) (Some (length surface.writes)) (WriteThen kind block bytes guard done fault missed)
    on (inl fine) = inl fine
    on (inr tracked) = inr (
      tracked.0,
      tracked.1,
      elim tracked.2 [
        | inl rest ↦ inr (issued-way k.from tracked.0 surface seat.pending owner kind block bytes guard rest)
        | inr way ↦ absurd (let e : None ≡ Some way.number = sym free ∙ way.waits in let P : ⊥ = cc in P)
      ],
    )
issued-phase k g a surface seat owner kind block bytes guard known one done fault missed here free (over more finished is good) = over more finished is good

-- ---- what each answer makes of the rest

pub read-goes : (k : Watch) (surface : Surface) (pending : Option ℕ) (block : ℕ) (rest : List ℕ → Process End) (fault : Process End) → GoesWell k surface pending (ReadThen block rest fault) →
    GoesWell k surface None (rest (surface.device block))
read-goes k surface pending block rest fault (inl fine) = inl (fine.0 (surface.device block))
read-goes k surface pending block rest fault (inr tracked) = elim (subst (λ bytes. Quietly (Suits k.space) k.low tracked.0 (rest bytes)) (sym (tracked.2.same block)) tracked.1.0) [
  | inl fine ↦ inl fine
  | inr t ↦ inr (tracked.0, t, rest-on k.from tracked.0 surface None (rest (surface.device block)) (rest-free k.from tracked.0 surface pending tracked.2))
]

pub read-fault-goes : (k : Watch) (surface : Surface) (pending : Option ℕ) (block : ℕ) (rest : List ℕ → Process End) (fault : Process End) → GoesWell k surface pending (ReadThen block rest fault) → GoesWell k surface None fault
read-fault-goes k surface pending block rest fault (inl fine) = inl fine.1
read-fault-goes k surface pending block rest fault (inr tracked) = inl tracked.1.1

module _ (k : Watch) (surface : Surface) (pending : Option ℕ) (kind : WriteKind) (block : ℕ) (bytes : List ℕ) (guard : ℕ) (done fault : Process End) (missed : ℕ → Process End) where
  pub done-goes : (number : ℕ) → pending ≡ Some number → HasLanded surface number → GoesWell k surface pending (WriteThen kind block bytes guard done fault missed) → GoesWell k surface None done
  done-goes number waits landed (inl fine) = inl fine.0
  done-goes number waits landed (inr tracked) = elim tracked.2 [
    | inl rest ↦ absurd (let free = rest.free in let e : None ≡ Some number = sym free ∙ waits in let P : ⊥ = cc in P)
    | inr way ↦ elim tracked.1.1 [
      | inl fine ↦ inl fine
      | inr t ↦ inr (put tracked.0 block bytes, t, rest-on k.from (put tracked.0 block bytes) surface None done (done-rest k.from tracked.0 surface pending block bytes number tracked.1.0 waits landed way))
    ]
  ]

  pub fault-goes : GoesWell k surface pending (WriteThen kind block bytes guard done fault missed) → GoesWell k surface None fault
  fault-goes (inl fine) = inl fine.1
  fault-goes (inr tracked) = inl tracked.1.2

  pub missed-goes : (reading : ℕ) → GoesWell k surface pending (WriteThen kind block bytes guard done fault missed) → GoesWell k surface None (missed reading)
  missed-goes reading (inl fine) = inl (fine.2 reading)
  missed-goes reading (inr tracked) = inl (tracked.1.3 reading)

pub clock-goes : (k : Watch) (surface : Surface) (pending : Option ℕ) (rest : ℕ → Process End) (reading : ℕ) → k.low ≤ reading + drift → GoesWell k surface pending (ClockThen rest) → GoesWell k surface None (rest reading)
clock-goes k surface pending rest reading late (inl fine) = inl (fine reading)
clock-goes k surface pending rest reading late (inr tracked) = elim (tracked.1 reading late) [
  | inl fine ↦ inl fine
  | inr t ↦ inr (tracked.0, t, rest-on k.from tracked.0 surface None (rest reading) (rest-free k.from tracked.0 surface pending tracked.2))
]

pub wait-goes : (k : Watch) (surface : Surface) (pending : Option ℕ) (from : ℕ) (rest : ℕ → Process End) (reading : ℕ) → from ≤ reading → k.low ≤ reading + drift → GoesWell k surface pending (UntilThen from rest) →
    GoesWell k surface None (rest reading)
wait-goes k surface pending from rest reading past late (inl fine) = inl (fine reading)
wait-goes k surface pending from rest reading past late (inr tracked) = elim (tracked.1 reading past late) [
  | inl fine ↦ inl fine
  | inr t ↦ inr (tracked.0, t, rest-on k.from tracked.0 surface None (rest reading) (rest-free k.from tracked.0 surface pending tracked.2))
]

-- a sector lands
module _ (k : Watch) (surface : Surface) (pending : Option ℕ) (number sector : ℕ) (write : Issued) (late : k.from ≤ number) (may : MayLand surface number sector write) where
  pub land-goes : (process : Process End) → GoesWell k surface pending process → GoesWell k (after_landing surface number write sector) pending process
  land-goes process (inl fine) = inl fine
  land-goes (Ends end) (inr tracked) = absurd (none-lands k.from tracked.0 surface pending number sector write late may tracked.2)
  land-goes (ReadThen block rest fault) (inr tracked) = absurd (none-lands k.from tracked.0 surface pending number sector write late may tracked.2)
  land-goes (WriteThen kind block bytes guard done fault missed) (inr tracked) = inr (
    tracked.0,
    tracked.1,
    elim tracked.2 [
      | inl rest ↦ absurd (none-lands k.from tracked.0 surface pending number sector write late may rest)
      | inr way ↦ inr (landed-way k.from tracked.0 surface pending block bytes number sector write late may tracked.1.0 way)
    ],
  )
  land-goes (ClockThen rest) (inr tracked) = absurd (none-lands k.from tracked.0 surface pending number sector write late may tracked.2)
  land-goes (UntilThen from rest) (inr tracked) = absurd (none-lands k.from tracked.0 surface pending number sector write late may tracked.2)

pub landed-phase : (k : Watch) (g : Geometry) (a : ℕ) (surface : Surface) (seat : Seat) (number sector : ℕ) (write : Issued) → k.from ≤ number → MayLand surface number sector write → Phase k g a surface seat →
    Phase k g a (after_landing surface number write sector) seat
landed-phase k g a surface seat number sector write late may phase =
    same-phase k g a surface (after_landing surface number write sector) seat (λ device rest. absurd (none-lands k.from device surface None number sector write late may rest))
    (land-goes k surface seat.pending number sector write late may) phase
