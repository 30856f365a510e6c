-- Runs and schedules, put together from their parts.
use Rattle.std.proofs.Common.{◌≡◌, ◌+◌, ◌<◌, ℕ, List, [], ◌∷◌, ◌++◌, Option, Some, None, Bool, true, false, refl, sym, subst, ◌∙◌, arith}
use Rattle.plx_base.specs.declared.numbers.ApplianceNo.{ApplianceNo}
use Rattle.plx_commands.specs.declared.event.Event.{Event}
use Rattle.plx_commands.specs.declared.event.Event.TheVariants as event
use Rattle.plx_commands.specs.declared.event.Stop.{Stop}
use Rattle.plx_geom.specs.Geometry.{Geometry, IsGeometry}
use Rattle.plx_rules.specs.Sequences.{Runs, ends, goes, RunsPartly, none_yet, more, Makes, plain, runs, runs_upto, MakesPartly, nothing, of_run, of_upto, IsPlayed, made, skipped, Plays, PlaysPartly, next_event}
use Rattle.plx_rules.specs.Sequences as sequences
use Rattle.plx_rules.specs.World as rules
use Rattle.plx_rules.specs.World.{Reached, Step}
use Rattle.law_lease.proofs.Runs.{played-reached, reached-plays}
use Rattle.plx_world.specs.Playing.{IsLawful, LawsHold, Leads, LeadsPartly, LeadsTo, LeavesFreshBoot, PlaysAll, PlaysSome}
use Rattle.plx_world.specs.Running.{RunGoesOn, IsOver, MakesRun, Onward, RunsSome, RunsWhole, arrived, onward, run_left}
use Rattle.plx_world.specs.Standing.{WorldStands, StandsOn, Steps}
use Rattle.plx_world.specs.declared.world.World.{World}
use Rattle.plx_world.proofs.Left.{run-high}
use Rattle.plx_world.proofs.There.{run-there, step-count}

-- ---- plain events

-- a plain event is one step
abbrev pub is_plain_event : Event → Bool
is_plain_event (event.Run appliance) = false
is_plain_event (event.Upto appliance stop) = false
is_plain_event other = true

plain-step : {w v : rules.World} {one : Event} → is_plain_event one ≡ true → Makes w one v → Step w one v
plain-step p (plain step) = step
plain-step p (runs appliance one next step rest) = cc
plain-step p (runs_upto appliance stop one next step rest) = cc

-- ---- what is reached

reached-makes : {w v : rules.World} {one : Event} → Reached w → Makes w one v → Reached v
reached-makes {w} {v} {one} reached makes = played-reached w v (one ∷ []) reached (sequences.PlaysPartly.next (made makes) sequences.PlaysPartly.over)

reached-partly : {w v : rules.World} {one : Event} → Reached w → MakesPartly w one v → Reached v
reached-partly {w} {v} {one} reached makes = played-reached w v (one ∷ []) reached (sequences.PlaysPartly.within makes)

-- ---- the laws of what a call leads to

-- they hold of a world that events lead to
lawful : LawsHold → {w : rules.World} → Reached w → IsLawful w
lawful laws {w} reached = record {
  reached = reached;
  headline = laws.headline w reached;
  undamaged = laws.undamaged w reached;
  exclusion = laws.exclusion w reached;
  guarding = laws.guarding w reached;
  allocated = laws.allocated w reached;
  apart = laws.apart w reached;
  takes = laws.takes w reached;
  gives = laws.gives w reached;
  reachable = laws.reachable w reached;
  levels = laws.levels w reached;
  paths = laws.paths w reached;
  logs = laws.logs w reached;
  rules = laws.rules w reached;
  numbers = laws.numbers w reached;
}

leads-to : LawsHold → {new : World} {w v : rules.World} → WorldStands new v → (Reached w → Reached v) → LeadsTo new w v
leads-to laws h on = record { stands = h; lawful = λ reached. lawful laws (on reached) }

-- a call that has changed nothing
leads-nowhere : LawsHold → {new : World} {w : rules.World} → WorldStands new w → LeadsTo new w w
leads-nowhere laws h = leads-to laws h (λ reached. reached)

leaves-fresh : LawsHold → (w v : rules.World) (one : Event) → Makes w one v → LeavesFreshBoot one w v
leaves-fresh laws w v (event.Crash a) makes = λ reached. laws.crash w v reached a (plain-step refl makes)
leaves-fresh laws w v other makes = tt

-- an event that was made
abbrev IsMade : World → Event → (w v : rules.World) → Type 0
IsMade new one w v = Makes w one v × LeavesFreshBoot one w v × LeadsTo new w v

is-made : LawsHold → (new : World) (one : Event) (w v : rules.World) → Makes w one v → WorldStands new v → IsMade new one w v
is-made laws new one w v makes h = (makes, leaves-fresh laws w v one makes, leads-to laws h (λ reached. reached-makes reached makes))

-- ---- what an event leads to

pub leads-plain : LawsHold → (old new : World) (one : Event) (possible : Bool) → is_plain_event one ≡ true → Steps old new one possible → Leads old new one possible
leads-plain laws old new one true p steps w h =
    let found = steps w h in
    let is = is-made laws new one w found.0 (plain found.1) found.2 in (found.0, is.0, is.1, is.2)
leads-plain laws old new one false p steps w h = let found = steps w h in ((λ v makes. found.0 v (plain-step p makes)), leads-nowhere laws found.1)

pub partly-plain : LawsHold → (old new : World) (one : Event) → StandsOn old new → LeadsPartly old new one
partly-plain laws old new one stays w h = (w, nothing, leads-nowhere laws (stays w h))

-- ---- runs

-- no run is a step
step-run : {a : ApplianceNo} {w v : rules.World} → Step w (event.Run a) v → ⊥
step-run step = elim step [ ]

step-upto : {a : ApplianceNo} {stop : Stop} {w v : rules.World} → Step w (event.Upto a stop) v → ⊥
step-upto step = elim step [ ]

-- a run that is over makes none
run-over : (w v : rules.World) (a : ApplianceNo) → IsOver a None w → Makes w (event.Run a) v → ⊥
run-over w v a over (plain step) = step-run step
run-over w v a over (runs appliance one next step rest) = let both = sym (over (run-there w a None one next step)) ∙ next in cc

upto-over : (w v : rules.World) (a : ApplianceNo) (stop : Stop) → IsOver a (Some stop) w → Makes w (event.Upto a stop) v → ⊥
upto-over w v a stop over (plain step) = step-upto step
upto-over w v a stop over (runs_upto appliance s one next step rest) = let both = sym (over (run-there w a (Some stop) one next step)) ∙ next in cc

pub leads-run : LawsHold → (old new : World) (a : ApplianceNo) (possible : Bool) → MakesRun a None old new possible → Leads old new (event.Run a) possible
leads-run laws old new a true makes w h =
    let v = (makes w h).0 in
    let found = (makes w h).1 in
    let is = is-made laws new (event.Run a) w v (runs a found.one found.next found.step found.rest) found.stands in (v, is.0, is.1, is.2)
leads-run laws old new a false makes w h = let found = makes w h in ((λ v m. run-over w v a found.0 m), leads-nowhere laws found.1)

pub leads-upto : LawsHold → (old new : World) (a : ApplianceNo) (stop : Stop) (possible : Bool) → MakesRun a (Some stop) old new possible → Leads old new (event.Upto a stop) possible
leads-upto laws old new a stop true makes w h =
    let v = (makes w h).0 in
    let found = (makes w h).1 in
    let is = is-made laws new (event.Upto a stop) w v (runs_upto a stop found.one found.next found.step found.rest) found.stands in (v, is.0, is.1, is.2)
leads-upto laws old new a stop false makes w h = let found = makes w h in ((λ v m. upto-over w v a stop found.0 m), leads-nowhere laws found.1)

-- some events of a run
leads-process : LawsHold → (new : World) (one : Event) (w v : rules.World) → MakesPartly w one v → WorldStands new v → LeadsTo new w v
leads-process laws new one w v partly h = leads-to laws h (λ reached. reached-partly reached partly)

pub partly-run : LawsHold → (old new : World) (a : ApplianceNo) → RunsSome a None old new → LeadsPartly old new (event.Run a)
partly-run laws old new a some w h =
    let found = some w h in (found.0, of_run a found.1, leads-process laws new (event.Run a) w found.0 (of_run a found.1) found.2)

pub partly-upto : LawsHold → (old new : World) (a : ApplianceNo) (stop : Stop) → RunsSome a (Some stop) old new → LeadsPartly old new (event.Upto a stop)
partly-upto laws old new a stop some w h =
    let found = some w h in (found.0, of_upto a stop found.1, leads-process laws new (event.Upto a stop) w found.0 (of_upto a stop found.1) found.2)

-- ---- schedules

-- one more event
leads-on : (old new : World) (one : Event) (possible : Bool) → Leads old new one possible → (w : rules.World) → WorldStands old w →
    (v : rules.World) × IsPlayed w one v × LeadsTo new w v
leads-on old new one true leads w h = let found = leads w h in (found.0, made found.1, found.3)
leads-on old new one false leads w h = let found = leads w h in (w, skipped found.0, found.1)

-- what is led to from a world that events lead to, and on from there
leads-along : (old new : World) (w u v : rules.World) → (Reached w → Reached u) → LeadsTo new u v → LeadsTo new w v
leads-along old new w u v on last = record { stands = last.stands; lawful = λ reached. last.lawful (on reached) }

plays-append : {w u v : rules.World} (events : List Event) (one : Event) → Plays w events u → IsPlayed u one v → Plays w (events ++ one ∷ []) v
plays-append [] one sequences.Plays.over p = sequences.Plays.next p sequences.Plays.over
plays-append (e ∷ events) one (sequences.Plays.next first rest) p = sequences.Plays.next first (plays-append events one rest p)

pub plays-more : (first old new : World) (events : List Event) (one : Event) (possible : Bool) → PlaysAll first old events → Leads old new one possible →
    PlaysAll first new (events ++ one ∷ [])
plays-more first old new events one possible plays leads w h =
    let so_far = plays w h in
    let last = leads-on old new one possible leads so_far.0 so_far.2.stands in
    (last.0, plays-append events one so_far.1 last.1, leads-along old new w so_far.0 last.0 (λ reached. reached-plays so_far.1 reached) last.2)

some-append : {w u v : rules.World} (events others : List Event) (one : Event) → Plays w events u → MakesPartly u one v → PlaysPartly w (events ++ one ∷ others) v
some-append [] others one sequences.Plays.over p = sequences.PlaysPartly.within p
some-append (e ∷ events) others one (sequences.Plays.next first rest) p = sequences.PlaysPartly.next first (some-append events others one rest p)

pub plays-some : (first old new : World) (events others : List Event) (one : Event) → PlaysAll first old events → LeadsPartly old new one →
    PlaysSome first new (events ++ one ∷ others)
plays-some first old new events others one plays leads w h =
    let so_far = plays w h in
    let partly = leads so_far.0 so_far.2.stands in
    (partly.0, some-append events others one so_far.1 partly.1, leads-along old new w so_far.0 partly.0 (λ reached. reached-plays so_far.1 reached) partly.2)

-- none yet
pub plays-none : LawsHold → (world : World) → PlaysAll world world []
plays-none laws world w h = (w, sequences.Plays.over, leads-nowhere laws h)

-- ---- a run, event by event

-- one more event
run-append : {a : ApplianceNo} {stop : Option Stop} {w u v : rules.World} (one : Event) → RunsPartly a stop w u → next_event u a stop ≡ Some one → Step u one v →
    RunsPartly a stop w v
run-append one none_yet next step = more one next step none_yet
run-append one (more first n s rest) next step = more first n s (run-append one rest next step)

-- events that are made whatever the stop is
run-onward : {a : ApplianceNo} {stop : Option Stop} {w u v : rules.World} → RunsPartly a stop w u → Onward a u v → RunsPartly a stop w v
run-onward partly arrived = partly
run-onward {a} {stop} partly (onward one next step rest) = run-onward (run-append one partly (next stop) step) rest

onward-runs : {a : ApplianceNo} {stop : Option Stop} {w u v : rules.World} → Onward a w u → Runs a stop u v → Runs a stop w v
onward-runs arrived last = last
onward-runs {a} {stop} (onward one next step rest) last = goes one (next stop) step (onward-runs rest last)

onward-partly : {a : ApplianceNo} {stop : Option Stop} {w u v : rules.World} → Onward a w u → RunsPartly a stop u v → RunsPartly a stop w v
onward-partly arrived partly = partly
onward-partly {a} {stop} (onward one next step rest) partly = more one (next stop) step (onward-partly rest partly)

-- as many appliances are there after them
onward-count : {a : ApplianceNo} {w v : rules.World} → Onward a w v → v.appliances ≡ w.appliances
onward-count arrived = refl
onward-count (onward one next step rest) = onward-count rest ∙ step-count step

run-joined : {a : ApplianceNo} {stop : Option Stop} {w u v : rules.World} → RunsPartly a stop w u → Runs a stop u v → Runs a stop w v
run-joined none_yet rest = rest
run-joined (more one next step others) rest = goes one next step (run-joined others rest)

-- so far a run made some events, and with those that are left they are fewer than `most`
pub record IsUnderWay (a : ApplianceNo) (stop : Option Stop) (old : World) (count most : ℕ) (w v : rules.World) : Type 0 where
  pub partly : RunsPartly a stop w v
  pub stands : WorldStands old v
  pub fewer : run_left v a + count < most

abbrev pub HasRun : ApplianceNo → Option Stop → World → World → (count most : ℕ) → Type 0
HasRun a stop first old count most = (w : rules.World) → WorldStands first w → (v : rules.World) × IsUnderWay a stop old count most w v

-- it goes on
pub has-more : (a : ApplianceNo) (stop : Option Stop) (first old new : World) (i most : ℕ) → HasRun a stop first old i most → RunGoesOn a stop old new true →
    HasRun a stop first new (i + 1) most
has-more a stop first old new i most has going w h =
    let so_far = has w h in
    let is = so_far.1 in
    let one = going so_far.0 is.stands in
    let less = one.1.less in
    let fewer = is.fewer in (
      one.0,
      record {
        partly = run-onward (run-append one.1.one is.partly one.1.next one.1.step) one.1.rest;
        stands = one.1.stands;
        fewer = omega (arith, less, fewer);
      },
    )

-- as many appliances are there after some events of a run
partly-count : {a : ApplianceNo} {stop : Option Stop} {w v : rules.World} → RunsPartly a stop w v → v.appliances ≡ w.appliances
partly-count none_yet = refl
partly-count (more one next step rest) = partly-count rest ∙ step-count step

-- it ends
pub has-over : (a : ApplianceNo) (stop : Option Stop) (first old new : World) (i most : ℕ) → HasRun a stop first old i most → RunGoesOn a stop old new false →
    RunsWhole a stop first new
has-over a stop first old new i most has going w h within =
    let so_far = has w h in
    let is = so_far.1 in
    let over = going so_far.0 is.stands in
    let same = partly-count is.partly in
    (so_far.0, run-joined is.partly (ends (over.0 (omega (arith, within, same)))), over.1)

-- a run, its first event and the rest
pub run-whole : (a : ApplianceNo) (stop : Option Stop) (first old new : World) → RunGoesOn a stop first old true → RunsWhole a stop old new → MakesRun a stop first new true
run-whole a stop first old new going whole w h =
    let one = going w h in
    let is = one.1 in
    let within = run-there w a stop is.one is.next is.step in
    let same = step-count is.step in
    let still = onward-count is.rest in
    let rest = whole one.0 is.stands (omega (arith, within, same, still)) in
    (rest.0, record { one = is.one; after = is.after; next = is.next; step = is.step; rest = onward-runs is.rest rest.1; stands = rest.2 })

pub run-some : (a : ApplianceNo) (stop : Option Stop) (first old new : World) → RunGoesOn a stop first old true → RunsSome a stop old new → RunsSome a stop first new
run-some a stop first old new going some w h =
    let one = going w h in
    let rest = some one.0 one.1.stands in
    (rest.0, more one.1.one one.1.next one.1.step (onward-partly one.1.rest rest.1), rest.2)

pub run-none : (a : ApplianceNo) (stop : Option Stop) (first old : World) → StandsOn first old → RunsSome a stop first old
run-none a stop first old stays w h = (w, none_yet, stays w h)

-- ---- how much is left at first

pub has-first : (a : ApplianceNo) (stop : Option Stop) (world : World) (most : ℕ) → IsGeometry world.geometry → 68719476736 < most → HasRun a stop world world 0 most
has-first a stop world most geometry far w h =
    let G : Geometry → Type 0 = λ g. IsGeometry g in
    let high = run-high w a (subst G h.geometry geometry) in
    (w, record { partly = none_yet; stands = h; fewer = omega (arith, high, far) })
