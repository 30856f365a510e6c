-- How many plain events a run has left, and that each of its events leaves less.
use Rattle.std.proofs.Common.{◌≡◌, ◌+◌, ◌-◌, ◌≤◌, ◌<◌, ℕ, zero, suc, List, [], ◌∷◌, ◌++◌, length, Option, Some, None, Bool, true, false, refl, ap, ◌∙◌, arith, slice_set}
use Rattle.std.specs.Prelude.{slice_get}
use Rattle.law_run.proofs.Begun.{begins-right, runs-keep-rules}
use Rattle.law_run.proofs.Runs.{Agree, agrees}
use Rattle.law_run.specs.Bounds.{bound, bound_of, count_held, one_held}
use Rattle.law_run.specs.CommandLogs.{Exchange, Finished, CommandLog, Commands, Between, Within, commands, commands_after_exchange, with_exchange}
use Rattle.law_run.specs.Holdings.{holds_after}
use Rattle.law_run.specs.Rules.{IsSetting, KeepsRules}
use Rattle.plx_base.specs.declared.numbers.ApplianceNo.{ApplianceNo}
use Rattle.plx_commands.proofs.Places.{at-same}
use Rattle.plx_commands.specs.declared.command.Command.{Command}
use Rattle.plx_commands.specs.declared.command.Command.TheVariants.{Attach, Detach, Create, Delete, Read, Write, Flush, Reserve, Renew, Retire, Reclaim}
use Rattle.plx_commands.specs.declared.event.Event.{Event}
use Rattle.plx_commands.specs.declared.event.Event.TheVariants as event
use Rattle.plx_commands.specs.declared.reply.Reply.{Reply}
use Rattle.plx_disk.proofs.Lists.{push-last, set-same}
use Rattle.plx_disk.specs.Writes.{Issued, after_landing, with_sector}
use Rattle.plx_disk.specs.declared.ask.Answer.{Answer}
use Rattle.plx_disk.specs.declared.ask.Answer.TheVariants as answer
use Rattle.plx_disk.specs.declared.ask.Ask.{Ask}
use Rattle.plx_disk.specs.declared.ask.Ask.TheVariants as ask
use Rattle.plx_geom.specs.Geometry.{IsGeometry, lease_at, lease_count}
use Rattle.plx_rules.specs.Boot as boot
use Rattle.plx_rules.specs.Boot.{Place, Idle, Begins, In, Configuration, IsRun, asks, configuration, replies, writes_out}
use Rattle.plx_rules.specs.Ends.{End}
use Rattle.plx_rules.specs.Histories.{Past}
use Rattle.plx_rules.specs.Holds.{Hold, Nothing, Seen, Wrote, Waited, Held}
use Rattle.plx_rules.specs.Process.{Process}
use Rattle.plx_rules.specs.Sequences.{missing_sector, next_sector}
use Rattle.plx_rules.specs.Settings.{Setting}
use Rattle.plx_rules.specs.World as rules
use Rattle.plx_rules.specs.World.{Seat, Step, goes_on, setting_at, setting_of, stands, with_surface}
use Rattle.plx_world.specs.Running.{asks_left, commands_at, events_left, run_left, sectors_left, write_left}

-- ---- how much is left at most

sectors-most : (m : Option ℕ) → sectors_left m ≤ 9
sectors-most None = omega arith
sectors-most (Some sector) = omega arith

write-most : (write : Option Issued) → write_left write ≤ 9
write-most None = omega arith
write-most (Some write) = sectors-most (missing_sector write.landed)

events-most : (pending : Option ℕ) (writes : List Issued) → events_left pending writes ≤ 9
events-most None writes = omega arith
events-most (Some number) writes = write-most (slice_get writes number)

-- no more leases are held than there are
one-most : (hold : Hold) → one_held hold ≤ 1
one-most Nothing = omega arith
one-most (Seen sample) = omega arith
one-most (Wrote claim until) = omega arith
one-most (Waited claim until) = omega arith
one-most (Held claim until) = omega arith

held-most : (holds : ℕ → Hold) (left lease : ℕ) → count_held holds left lease ≤ left
held-most holds zero lease = omega arith
held-most holds (suc left) lease =
    let one = one-most (holds (lease_at lease)) in
    let others = held-most holds left (lease + 1) in
    omega (arith, one, others)

-- the limits of a geometry limit each bound
bound-high : (s : Setting) → IsGeometry s.geometry → (before : List Finished) (command : Command) (done : List Exchange) → bound_of s before command done ≤ 4294967296
bound-high s g before (Attach slot) done = let high = g.slots_high in omega (arith, high)
bound-high s g before (Detach slot) done = omega arith
bound-high s g before (Create slot size label) done = omega arith
bound-high s g before (Delete slot) done = omega arith
bound-high s g before (Read slot vblock) done = omega arith
bound-high s g before (Write slot vblock payload) done = omega arith
bound-high s g before (Flush slot) done = omega arith
bound-high s g before (Reserve count) done = let high = g.extents_high in omega (arith, high)
bound-high s g before Renew done =
    let images = g.images_high in
    let extents = g.extents_high in
    let held = held-most (holds_after s.geometry before) (lease_count s.geometry) 0 in
    omega (arith, images, extents, held)
bound-high s g before Retire done = let images = g.images_high in let extents = g.extents_high in omega (arith, images, extents)
bound-high s g before Reclaim done = omega arith

asks-high : (s : Setting) → IsGeometry s.geometry → (so_far : Commands) → asks_left s so_far ≤ 4294967296
asks-high s g (Between finished) = omega arith
asks-high s g (Within log) = let high = bound-high s g log.before log.command log.exchanges in omega (arith, high)

pub run-high : (w : rules.World) (a : ApplianceNo) → IsGeometry w.geometry → run_left w a ≤ 68719476736
run-high w a g =
    let asks = asks-high (setting_of w a.0) g (commands_at w a.0) in
    let events = events-most (w.seats a.0).pending w.surface.writes in
    omega (arith, asks, events)

-- ---- less after an answer

-- the log of an appliance is a run
pub record IsRunAt (w : rules.World) (a : ℕ) : Type 0 where
  pub within : IsSetting (setting_of w a)
  pub run : IsRun (setting_of w a) (w.seats a).log

-- what a command meets leaves its bound
bound-steady : (s : Setting) (before : List Finished) (command : Command) (x : Exchange) (done : List Exchange) →
    bound_of s before command (x ∷ done) ≡ bound_of s before command done
bound-steady s before (Attach slot) x done = refl
bound-steady s before (Detach slot) x done = refl
bound-steady s before (Create slot size label) x done = refl
bound-steady s before (Delete slot) x done = refl
bound-steady s before (Read slot vblock) x done = refl
bound-steady s before (Write slot vblock payload) x done = refl
bound-steady s before (Flush slot) x done = refl
bound-steady s before (Reserve count) x done = refl
bound-steady s before Renew x done = refl
bound-steady s before Retire x done = refl
bound-steady s before Reclaim x done = refl

-- an answered ask leaves one less
fewer-within : (s : Setting) (x : Exchange) (reply : Option Reply) (log : CommandLog) → length log.exchanges < bound s log →
    asks_left s (commands_after_exchange x reply (Within log)) < asks_left s (Within log)
fewer-within s x None log below =
    let same : bound s (with_exchange x log) ≡ bound s log = bound-steady s log.before log.command x log.exchanges in omega (arith, below, same)
fewer-within s x (Some reply) log below = omega (arith, below)

-- a boot that asks is within a command
fewer-asks : (s : Setting) (p : Configuration) (place : Place) (so_far : Commands) (x : Exchange) (reply : Option Reply) (asked : Ask) →
    Agree s p.holds p.hand p.filled p.sample p.found place so_far → KeepsRules s so_far (asks place) (writes_out place) → asks place ≡ Some asked →
    asks_left s (commands_after_exchange x reply so_far) < asks_left s so_far
fewer-asks s p (Idle known) so_far x reply asked agree keeps stands = absurd (let P : ⊥ = cc in P)
fewer-asks s p (Begins known command) (Between before) x reply asked agree keeps stands = absurd agree
fewer-asks s p (Begins known command) (Within log) x reply asked agree keeps stands = fewer-within s x reply log (keeps.bounded asked stands)
fewer-asks s p (In known command process) (Between before) x reply asked agree keeps stands = absurd agree
fewer-asks s p (In known command process) (Within log) x reply asked agree keeps stands = fewer-within s x reply log (keeps.bounded asked stands)

-- where the ask was answered
less-answered : (w : rules.World) (one : Event) (a : ApplianceNo) (asked : Ask) (bytes : List ℕ) (given : Answer) (rest : Process End) → IsRunAt w a.0 →
    asks (stands w a.0).place ≡ Some asked → run_left (goes_on w one a asked bytes given rest) a < run_left w a
less-answered w one a asked bytes given rest is stands-at =
    let s = setting_of w a.0 in
    let log = (w.seats a.0).log in
    let x : Exchange = record { ask = asked; bytes = bytes; answer = given } in
    let seat = rules.with_log_entry (w.seats a.0) (boot.Asked asked bytes given) in
    let same = at-same w.seats a.0 seat in
    let v = goes_on w one a asked bytes given rest in
    let left : asks_left (setting_of v a.0) (commands_at v a.0) ≡ asks_left s (commands_after_exchange x (replies s given (stands w a.0)) (commands_at w a.0)) =
    ap (λ (y : Seat). asks_left (setting_at w.geometry a.0 y.boots) (commands (setting_at w.geometry a.0 y.boots) y.log)) same in
    let nine : events_left (v.seats a.0).pending v.surface.writes ≡ 9 = ap (λ (y : Seat). events_left y.pending w.surface.writes) same in
    let fewer = fewer-asks s (stands w a.0) (stands w a.0).place (commands_at w a.0) x (replies s given (stands w a.0)) asked
    (agrees s (begins-right s is.within) log is.run) (runs-keep-rules s log is.within is.run) stands-at in
    omega (arith, left, nine, fewer)

-- one plain event of a run less
abbrev pub IsLess : ApplianceNo → rules.World → rules.World → Type 0
IsLess a w v = IsRunAt w a.0 → run_left v a < run_left w a

pub less-read : {w : rules.World} {a : ApplianceNo} {v : rules.World} → Step w (event.Read a) v → IsLess a w v
less-read {w} {a} (rules.reads known command block rest fault below here) is =
    less-answered w (event.Read a) a (ask.Read (record { 0 = block })) [] (answer.Bytes (w.surface.device block)) (rest (w.surface.device block)) is (ap asks here)

pub less-fault : {w : rules.World} {a : ApplianceNo} {v : rules.World} → Step w (event.Fault a) v → IsLess a w v
less-fault {w} {a} (rules.read_faults known command block rest fault below here) is =
    less-answered w (event.Fault a) a (ask.Read (record { 0 = block })) [] answer.Fault fault is (ap asks here)
less-fault {w} {a} (rules.write_faults known command kind block bytes guard done fault missed below here) is =
    less-answered w (event.Fault a) a (ask.Write kind (record { 0 = block }) guard) bytes answer.Fault fault is (ap asks here)

pub less-done : {w : rules.World} {a : ApplianceNo} {v : rules.World} → Step w (event.Done a) v → IsLess a w v
less-done {w} {a} (rules.dones known command kind block bytes guard done fault missed number below here pending landed) is =
    less-answered w (event.Done a) a (ask.Write kind (record { 0 = block }) guard) bytes answer.Done done is (ap asks here)

pub less-miss : {w : rules.World} {a : ApplianceNo} {reading : ℕ} {v : rules.World} → Step w (event.Miss a reading) v → IsLess a w v
less-miss {w} {a} {reading} (rules.misses known command kind block bytes guard done fault missed below here none past late) is =
    less-answered w (event.Miss a reading) a (ask.Write kind (record { 0 = block }) guard) bytes (answer.Missed reading) (missed reading) is (ap asks here)

pub less-reading : {w : rules.World} {a : ApplianceNo} {reading : ℕ} {v : rules.World} → Step w (event.Reading a reading) v → IsLess a w v
less-reading {w} {a} {reading} (rules.begins known command below here late) is =
    less-answered w (event.Reading a reading) a ask.Clock [] (answer.Reading reading) (boot.first_process (setting_of w a.0) known reading command (stands w a.0)) is (ap asks here)
less-reading {w} {a} {reading} (rules.clocks known command rest below here late) is =
    less-answered w (event.Reading a reading) a ask.Clock [] (answer.Reading reading) (rest reading) is (ap asks here)
less-reading {w} {a} {reading} (rules.waits known command from rest below here late past) is =
    less-answered w (event.Reading a reading) a (ask.Until from) [] (answer.Reading reading) (rest reading) is (ap asks here)

-- ---- less once a write is issued, and once a sector has landed

pub less-issue : {w : rules.World} {a : ApplianceNo} {v : rules.World} → Step w (event.Issue a) v → IsLess a w v
less-issue {w} {a} (rules.issues known command kind block bytes guard done fault missed below here none) is =
    let write = rules.issued_write w a kind block bytes guard in
    let writes = w.surface.writes ++ write ∷ [] in
    let seat = record (w.seats a.0) { pending = Some (length w.surface.writes) } in
    let same = at-same w.seats a.0 seat in
    let new = rules.after_issue w a command kind block bytes guard in
    let left : asks_left (setting_of new a.0) (commands_at new a.0) ≡ asks_left (setting_of w a.0) (commands_at w a.0) =
    ap (λ (y : Seat). asks_left (setting_at w.geometry a.0 y.boots) (commands (setting_at w.geometry a.0 y.boots) y.log)) same in
    let nine : events_left (w.seats a.0).pending w.surface.writes ≡ 9 = ap (λ (p : Option ℕ). events_left p w.surface.writes) none in
    let eight : events_left (new.seats a.0).pending writes ≡ 8 =
    ap (λ (y : Seat). events_left y.pending writes) same ∙ ap write_left (push-last w.surface.writes write) in
    omega (arith, left, nine, eight)

-- the next missing sector is past it
abbrev IsPast : Option ℕ → ℕ → Type 0
IsPast None n = Unit {0}
IsPast (Some m) n = n < m

past-first : (m : Option ℕ) → IsPast (next_sector m) 0
past-first None = tt
past-first (Some k) = omega arith

past-more : (m : Option ℕ) (n : ℕ) → IsPast m n → IsPast (next_sector m) (suc n)
past-more None n past = tt
past-more (Some k) n past = omega (arith, past)

one_more-zero : (m : Option ℕ) → next_sector m ≡ Some 0 → ⊥
one_more-zero None e = cc
one_more-zero (Some k) e = let same : k + 1 ≡ 0 = cc in absurd (omega (arith, same))

one_more-suc : (m : Option ℕ) (n : ℕ) → next_sector m ≡ Some (suc n) → m ≡ Some n
one_more-suc None n e = absurd (let P : ⊥ = cc in P)
one_more-suc (Some k) n e =
    let same : k + 1 ≡ suc n = cc in
    let down : k ≡ n = omega (arith, same) in
    ap (λ (x : ℕ). Some x) down

past-set : (flags : List Bool) (sector : ℕ) → missing_sector flags ≡ Some sector → IsPast (missing_sector (slice_set flags sector true)) sector
past-set [] sector e = absurd (let P : ⊥ = cc in P)
past-set (false ∷ flags) zero e = past-first (missing_sector flags)
past-set (false ∷ flags) (suc k) e = absurd (let P : ⊥ = cc in P)
past-set (true ∷ flags) zero e = absurd (one_more-zero (missing_sector flags) e)
past-set (true ∷ flags) (suc k) e = past-more (missing_sector (slice_set flags k true)) k (past-set flags k (one_more-suc (missing_sector flags) k e))

left-less : (m : Option ℕ) (n : ℕ) → n < 8 → IsPast m n → sectors_left m < 8 - n
left-less None n below past = omega (arith, below)
left-less (Some k) n below past = omega (arith, below, past)

pub less-land : (w : rules.World) (one : Past) (a : ApplianceNo) (number sector : ℕ) (write : Issued) → (w.seats a.0).pending ≡ Some number →
    slice_get w.surface.writes number ≡ Some write → missing_sector write.landed ≡ Some sector → sector < 8 →
    run_left (with_surface w one (after_landing w.surface number write sector)) a < run_left w a
less-land w one a number sector write pending found least within =
    let writes = slice_set w.surface.writes number (with_sector write sector) in
    let before : events_left (w.seats a.0).pending w.surface.writes ≡ 8 - sector =
    ap (λ (p : Option ℕ). events_left p w.surface.writes) pending ∙ ap write_left found ∙ ap sectors_left least in
    let after : events_left (w.seats a.0).pending writes ≡ sectors_left (missing_sector (slice_set write.landed sector true)) =
    ap (λ (p : Option ℕ). events_left p writes) pending ∙ ap write_left (set-same w.surface.writes number (with_sector write sector) write found) in
    let less = left-less (missing_sector (slice_set write.landed sector true)) sector within (past-set write.landed sector least) in
    omega (arith, before, after, less)
