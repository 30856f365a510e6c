-- A world that was played, and what is told of it.
use Rattle.std.proofs.Common.{◌≡◌, ◌≤◌, ◌∙◌, ℕ, List, [], ◌∷◌, ◌++◌, Bool, false, ap, reverse, subst, sym}
use Rattle.law_lease.proofs.Runs.{reached-plays}
use Rattle.plx_base.specs.Sectors.{Device}
use Rattle.plx_commands.specs.declared.entry.Entry.{Entry}
use Rattle.plx_commands.specs.declared.event.Event.{Event}
use Rattle.plx_geom.specs.Geometry.{Geometry, IsGeometry}
use Rattle.plx_rules.specs.Formatted.{IsFormatted}
use Rattle.plx_rules.specs.Pools.{allocated_in}
use Rattle.plx_rules.specs.Sequences.{Plays}
use Rattle.plx_rules.specs.Sequences as sequences
use Rattle.plx_rules.specs.World as rules
use Rattle.plx_rules.specs.World.{Reached, first_world}
use Rattle.plx_text.specs.Once.{TraceOnce}
use Rattle.plx_text.specs.Readings.{IsRead}
use Rattle.plx_text.specs.Traces.{trace_lines, trace_text}
use Rattle.plx_words.specs.Texts.{LinesTell}
use Rattle.plx_world.specs.Standing.{WorldStands}
use Rattle.plx_world.specs.declared.world.World.{World}
use Rattle.plx_cli.specs.Batches.{HasPlayed, IsTextOf, PlaysNext}
use Rattle.plx_cli.specs.Program.{IsTrace, ToldOnce}

-- the text of a trace and its counts, as those of the world that the program's stands for
pub text-told : (g : Geometry) (appliances : ℕ) (text : List ℕ) (entries : List Entry) (reachable allocated : ℕ) (last : World) → entries ≡ last.trace.items → reachable ≡ 0 →
    ((w : rules.World) → Reached w → WorldStands last w → allocated ≡ allocated_in w) → text ≡ trace_text g appliances entries reachable allocated →
    LinesTell (trace_lines g appliances entries reachable allocated) → IsTextOf g appliances last text
text-told g appliances text entries reachable allocated last same none counts is tells = λ w reached stands.
    let counted = counts w reached stands in
    let alike : trace_lines g appliances entries reachable allocated ≡ trace_lines g appliances (reverse w.trace) 0 (allocated_in w) =
    ap (λ told. trace_lines g appliances told reachable allocated) (same ∙ stands.trace)
    ∙ ap (λ count. trace_lines g appliances (reverse w.trace) count allocated) none
    ∙ ap (λ count. trace_lines g appliances (reverse w.trace) 0 count) counted in (
      is ∙ ap (λ told. trace_text g appliances told reachable allocated) (same ∙ stands.trace)
          ∙ ap (λ count. trace_text g appliances (reverse w.trace) count allocated) none
          ∙ ap (λ count. trace_text g appliances (reverse w.trace) 0 count) counted,
      subst (λ lines. LinesTell lines) alike tells,
    )

-- nothing was played yet
pub played-none : (first : Geometry × ℕ) (begun : World) → (device : Device) × IsFormatted first.0 device × WorldStands begun (first_world first.0 first.1 device) →
    HasPlayed first [] begun
played-none first begun made = record { device = made.0; formatted = made.1; world = first_world first.0 first.1 made.0; plays = sequences.Plays.over; stands = made.2 }

plays-joined : {w u v : rules.World} (events others : List Event) → Plays w events u → Plays u others v → Plays w (events ++ others) v
plays-joined [] others sequences.Plays.over rest = rest
plays-joined (one ∷ events) others (sequences.Plays.next played more) rest = sequences.Plays.next played (plays-joined events others more rest)

module _ (first : Geometry × ℕ) (events : List Event) (old new : World) (number : ℕ) (rest : List ℕ) (after : ℕ) (left : List ℕ) (more : Bool)
    (played : HasPlayed first events old) (next : PlaysNext old new number rest after left more) where
  -- more was played
  pub played-more : HasPlayed first (events ++ next.events) new
  played-more =
      let found = next.plays played.world played.stands in
      record { device = played.device; formatted = played.formatted; world = found.0; plays = plays-joined events next.events played.plays found.1; stands = found.2.stands }

  -- and that was all
  pub played-all : (bytes text : List ℕ) → IsGeometry first.0 → 1 ≤ first.1 → first.1 ≤ 8 → IsRead bytes first events number rest → more ≡ false →
      IsTextOf first.0 first.1 new text → IsTrace bytes text
  played-all bytes text limits low high read over tells =
      let found = next.plays played.world played.stands in
      let lawful = found.2.lawful (reached-plays played.plays (Reached.first limits low high played.formatted)) in
      let told = tells found.0 lawful.reached found.2.stands in
      record {
        first = first;
        events = events ++ next.events;
        schedule = next.ends over bytes first events read;
        told = record {
          device = played.device;
          formatted = played.formatted;
          world = found.0;
          plays = plays-joined events next.events played.plays found.1;
          lawful = lawful;
          trace = told.0;
          tells = told.1;
        };
      }

-- what was written tells of one trace alone
pub told-once : TraceOnce → ToldOnce
told-once once first first' events events' text told told' =
    once first first' (reverse told.world.trace) (reverse told'.world.trace) 0 0 (allocated_in told.world) (allocated_in told'.world) told.tells told'.tells (sym told.trace ∙ told'.trace)
