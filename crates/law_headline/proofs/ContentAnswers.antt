-- What holds stays at each answer of an ask.
use Rattle.std.proofs.Common.{◌≡◌, ℕ, suc, ◌+◌, ◌^◌, ◌≤◌, ◌<◌, ◌⊎◌, inl, inr, List, [], ◌∷◌, Bool, true, false, Option, Some, None, refl, ap, sym, subst, ◌∙◌, arith}
use Rattle.std.specs.Prelude.{slice_get, is_some, ◌==◌, ◌&&◌, if◌then◌else◌, nat_lt}
use Rattle.std.specs.Str.{bytes_eq}
use Rattle.std.proofs.lemmas.Bool.Decides.{eqb_tells, leb_tells}
use Rattle.std.proofs.lemmas.Slice.Eq.{bytes_eq-Decides}
use Rattle.plx_base.specs.Payload.{bytes_of}
use Rattle.plx_base.specs.Sectors.{Device, put, with_landed_sectors}
use Rattle.plx_base.proofs.Devices.{put-again}
use Rattle.plx_base.proofs.Mixed.{mixed-none}
use Rattle.plx_base.proofs.Tests.{nat_lt-tells, and-parts}
use Rattle.plx_base.specs.declared.lease.Claim.{Claim}
use Rattle.plx_base.specs.declared.lease.LeaseRecord.{LeaseRecord}
use Rattle.plx_base.specs.declared.lease.LeaseRecord.TheVariants.{Free, Claimed}
use Rattle.plx_base.specs.declared.write_kind.WriteKind.{WriteKind}
use Rattle.plx_base.specs.declared.write_kind.WriteKind.TheVariants as kind
use Rattle.plx_commands.specs.Model.{Model, has_all}
use Rattle.plx_commands.specs.Places.{at}
use Rattle.plx_commands.specs.Replies.{is_in, row}
use Rattle.plx_commands.specs.Slots.{named_slots}
use Rattle.plx_commands.specs.declared.command.Command.{Command}
use Rattle.plx_commands.specs.declared.command.Command.TheVariants.{Attach, Detach, Create, Delete, Read, Write, Flush, Reserve, Renew, Retire, Reclaim}
use Rattle.plx_commands.specs.declared.event.Event.{Event}
use Rattle.plx_commands.specs.declared.event.Event.TheVariants as event
use Rattle.plx_commands.specs.declared.reply.Reply.{Reply}
use Rattle.plx_commands.specs.declared.reply.Reply.TheVariants as reply
use Rattle.plx_commands.proofs.Places.{at-all, at-same, at-other}
use Rattle.plx_disk.specs.Writes.{Issued, all_sectors, HasLanded}
use Rattle.plx_disk.specs.declared.ask.Ask.TheVariants as ask
use Rattle.plx_disk.specs.declared.ask.Answer.TheVariants as answer
use Rattle.plx_extent.specs.Maps.{HoldsMap}
use Rattle.plx_gate.specs.Leases.{lease_bytes, read_lease, IsClaimed}
use Rattle.plx_geom.specs.Geometry.{Geometry, image_lease, lease_at}
use Rattle.plx_geom.proofs.Places.{image-below}
use Rattle.law_lease.proofs.Lists.{none-some}
use Rattle.plx_rules.specs.Process.{Process, Ends, ReadThen, WriteThen, ClockThen, UntilThen}
use Rattle.plx_rules.specs.Boot.{BootEntry, Asked, Place, Begins, In, Configuration, configuration, place_of, after_process, goes_to, went_on, first_process}
use Rattle.plx_rules.specs.Commands.{IsBuilt, IsWellFormed, attached_process, of_attached, detach_process, create_process, delete_process, read_process, write_process, command_process}
use Rattle.plx_rules.specs.Ends.{End}
use Rattle.plx_rules.specs.Hands.{hand_answered, hand_held, hand_left, hand_unlinked}
use Rattle.plx_rules.specs.Headline.{IsUndamaged, starts_and_crashes, events_told, model_in}
use Rattle.plx_rules.specs.Holds.{Hold, Nothing, Seen, Wrote, Waited, Held, no_holds, after_write, after_first, session_at, hold_after_reading, hold_after_read, hold_after_reread, seen_for, seen_by, hold_after_renewal, hold_after_claim}
use Rattle.plx_rules.specs.Owners.{first_landed, pending_write}
use Rattle.plx_rules.specs.Rests.{rests_on}
use Rattle.plx_rules.specs.Session.{Session, Known}
use Rattle.plx_rules.specs.Settings.{Setting}
use Rattle.plx_rules.specs.Times.{is_expired}
use Rattle.plx_rules.specs.Histories.{came}
use Rattle.plx_rules.specs.World.{World, IsReadingAt, setting_at, goes_on, with_reply_of}
use Rattle.law_lease.proofs.LawfulCommands.{first-rests}
use Rattle.law_lease.proofs.LeaseFrames.{grip-open}
use Rattle.law_lease.proofs.LeaseGoes.{good-free}
use Rattle.law_lease.proofs.LeaseLands.{first-set}
use Rattle.law_lease.proofs.LeaseSteps.{not-waiting, placed-may}
use Rattle.law_lease.proofs.Open.{IsOpen, open-elsewhere, one-waits}
use Rattle.law_lease.proofs.Leased.{MayIssue, LawfulAt, Unlanded, Good, StandsConfirmed, IsAskedAt, grip_while, grip_at, Leased}
use Rattle.law_headline.proofs.Content.{appliance_no, stands_at, IsJournalled, PlaceFits, IsBegun, HasContent, OwnedAt, Grips, Minds, KeepsContent}
use Rattle.law_headline.proofs.ContentGoes.{content-went, dropping-false, NoSession, went_to}
use Rattle.law_headline.proofs.FairCommands.{fair-command}
use Rattle.law_headline.proofs.FairProcesses.{backs-first}
use Rattle.law_headline.proofs.HandFacts.{NoMap, HandFits, no-map-filter, no-map-unlinked, hand-done}
use Rattle.law_headline.proofs.Harmless.{Harmless, yields-stays}
use Rattle.law_headline.proofs.Harmless as harmless
use Rattle.law_headline.proofs.Held.{IsSpelled, attached_of, Regime, Without, With, ModelRuns, Looks, IsOf, IsOn, HeldProcess, IsBacking, Backs, IsDrop, is_below, are_below, is_some_slot, just_at, Fair}
use Rattle.law_headline.proofs.HeldBegins.{begin-without, begin-with}
use Rattle.law_headline.proofs.HeldCommands.{slot_no}
use Rattle.law_headline.proofs.HeldFrames.{missing_of, held-process-same}
use Rattle.law_headline.proofs.ImageWrites.{held-image-write, held-or, placed-cases}
use Rattle.law_headline.proofs.Journals.{Same}
use Rattle.law_model.proofs.ModelFacts.{sound-all}
use Rattle.law_model.specs.Sound.{Sound}
use Rattle.law_model.proofs.Replied.{IsDropping, IsAmongSlots, Names}
use Rattle.plx_rules.proofs.Holds.{first-held, process-held, timed-held}

-- ---- how a lease comes to be held

seen-unheld : (sample : Option ℕ) (bytes : List ℕ) (claim : Claim) (until : ℕ) → seen_for sample bytes ≡ Held claim until → ⊥
seen-unheld None bytes claim until e = cc
seen-unheld (Some s) bytes claim until e = by_found (read_lease bytes) e
  where
    by_test : (b : Bool) → (if b then Seen s else Nothing) ≡ Held claim until → ⊥
    by_test true e = cc
    by_test false e = cc

    by_found : (x : Option LeaseRecord) → seen_by x s ≡ Held claim until → ⊥
    by_found None e = cc
    by_found (Some lease) e = by_test (is_expired lease s) e

-- a read that leaves a lease held: it was held, or the read confirms it
shown-held-or-waited : (sample : Option ℕ) (bytes : List ℕ) (hold : Hold) (claim : Claim) (until : ℕ) → hold_after_read sample bytes hold ≡ Held claim until →
    (hold ≡ Held claim until) ⊎ ((hold ≡ Waited claim until) × (bytes ≡ lease_bytes (Claimed claim until)))
shown-held-or-waited sample bytes Nothing claim until e = absurd (seen-unheld sample bytes claim until e)
shown-held-or-waited sample bytes (Seen s) claim until e = absurd (seen-unheld sample bytes claim until e)
shown-held-or-waited sample bytes (Wrote c u) claim until e = absurd (seen-unheld sample bytes claim until e)
shown-held-or-waited sample bytes (Held c u) claim until e = inl e
shown-held-or-waited sample bytes (Waited c u) claim until e = by_test (bytes_eq bytes (lease_bytes (Claimed c u))) (bytes_eq-Decides bytes (lease_bytes (Claimed c u))).0 e
  where
    by_test : (b : Bool) → (b ≡ true → bytes ≡ lease_bytes (Claimed c u)) → hold_after_reread b (Held c u) ≡ Held claim until →
        (Waited c u ≡ Held claim until) ⊎ ((Waited c u ≡ Waited claim until) × (bytes ≡ lease_bytes (Claimed claim until)))
    by_test false tells e = absurd (let P : ⊥ = cc in P)
    by_test true tells e =
        let fc : c ≡ claim = cc in
        let fu : u ≡ until = cc in
        inr ((λ j. Waited (fc j) (fu j)), tells refl ∙ (λ j. lease_bytes (Claimed (fc j) (fu j))))

-- a reply that drops all doesn't tell of bytes outside the format
undamaged-drop : (r : Reply) → IsDropping r → IsUndamaged r
undamaged-drop (reply.Damaged block) drops = absurd (let P : ⊥ = cc in P)
undamaged-drop other drops = tt

module _ (w : World) (content : KeepsContent w) (a : ℕ) (below : a < w.appliances) where
  abbrev g : Geometry
  g = w.geometry

  abbrev time : ℕ
  time = w.surface.time

  abbrev device : Device
  device = w.surface.device

  abbrev writes : List Issued
  writes = w.surface.writes

  abbrev m : Model
  m = model_in w

  abbrev s : Setting
  s = setting_at g a (w.seats a).boots

  abbrev p : Configuration
  p = stands_at g a (w.seats a)

  fits-at : (place : Place) → p.place ≡ place → PlaceFits g a m p place
  fits-at place here = let P : Place → Type 0 = λ q. PlaceFits g a m p q in subst P here (content.seats a below)

  free-at : (place : Place) → p.place ≡ place → ((b : ℕ) (x : Issued) → IsAskedAt place b x → ⊥) → (w.seats a).pending ≡ None
  free-at place here no-ask = not-waiting g time writes a (w.seats a) place (content.leased.seated a below) here no-ask

  -- what is in hand
  in-hand : HandFits g p
  in-hand = content.hands a below

  -- what stands in a lease's block is a lease, and in a map's a map
  spelled-now : (block : ℕ) → IsSpelled g block (device block)
  spelled-now block = record {
    lease = λ lease within here. let on = content.leased.on lease within in (on.standing, ap device here ∙ on.spells, on.limits);
    map = λ extent within here. let M : List ℕ → Type 0 = λ bytes. HoldsMap g.extent_blocks bytes in subst M (sym (ap device here)) (content.maps extent within);
  }

  -- what is held is gripped, while no write is waited for
  grips-now : (w.seats a).pending ≡ None → (i : ℕ) (claim : Claim) (until : ℕ) → p.holds (lease_at (image_lease i)) ≡ Held claim until → time ≤ until + 50 → Grips g time writes a (w.seats a) i claim until
  grips-now free i claim until held live =
      let P : Option ℕ → Type 0 = λ o. grip_at p.place (pending_write writes o) (lease_at (image_lease i)) (p.holds (lease_at (image_lease i))) ≡ Held claim until in
      (subst P (sym free) (grip-open p.place None (lease_at (image_lease i)) (p.holds (lease_at (image_lease i))) refl ∙ held), live)

  owned-at : (place : Place) → p.place ≡ place → (i : ℕ) → i < g.images → Minds g time writes m a (w.seats a) i → OwnedAt g a i device writes (w.seats a).pending m place
  owned-at place here i within minds =
      let P : Place → Type 0 = λ q. OwnedAt g a i device writes (w.seats a).pending m q in subst P here (content.owned i within a below minds)

  -- what a boot minds after an answer it minded before, where it gripped before what it grips
  minds-back : (i : ℕ) (log : List BootEntry) →
      ((claim : Claim) (until : ℕ) → Grips g time writes a (record { boots = (w.seats a).boots; log = log; pending = None }) i claim until → Grips g time writes a (w.seats a) i claim until) →
      Minds g time writes m a (record { boots = (w.seats a).boots; log = log; pending = None }) i → Minds g time writes m a (w.seats a) i
  minds-back i log back (inl grips) = inl (grips.0, grips.1, back grips.0 grips.1 grips.2)
  minds-back i log back (inr mine) = inr mine

  -- nothing is open where no write is waited for
  quiet-free : (log : List BootEntry) → (w.seats a).pending ≡ None → (i : ℕ) → i < g.images → (k : ℕ) (x : Issued) →
      IsOpen g w.rests w.appliances time writes (at w.seats a (record { boots = (w.seats a).boots; log = log; pending = None })) (image_lease i) k x → IsOf g i x.block → (m.slots i).owner ≡ Some a → ⊥
  quiet-free log free i within k x op of mine =
      none-some k (sym free ∙ content.whose i within k x (open-elsewhere g w.rests w.appliances time writes w.seats (image_lease i) a _ refl k x op) of a mine)

  -- a session that isn't there
  is-none : (o : Option Session) → is_some o ≡ false → o ≡ None
  is-none None e = refl
  is-none (Some s) e = absurd (let P : ⊥ = cc in P)

  -- a seat that waits for no write holds what its configuration says
  seat-holds : (log : List BootEntry) (known : Known) (command : Command) (holds : ℕ → Hold) (hand : List ℕ) (filled : List (ℕ × List ℕ)) (sample : Option ℕ) (found : Option (ℕ × List ℕ)) {latest : ℕ} (process : Process End) →
      configuration s log ≡ goes_to g known command holds hand filled sample found latest process → (i : ℕ) (claim : Claim) (until : ℕ) →
      Grips g time writes a (record { boots = (w.seats a).boots; log = log; pending = None }) i claim until → holds (lease_at (image_lease i)) ≡ Held claim until
  seat-holds log known command holds hand filled sample found process leads i claim until grips =
      let P : Configuration → Type 0 = λ q. grip_at q.place None (lease_at (image_lease i)) (q.holds (lease_at (image_lease i))) ≡ Held claim until in
      let e : after_process process holds (lease_at (image_lease i)) ≡ Held claim until =
      sym (grip-open (place_of known command process) None (lease_at (image_lease i)) (after_process process holds (lease_at (image_lease i))) refl) ∙ subst P leads grips.0 in
      process-held process holds (lease_at (image_lease i)) claim until e

  sound : Sound m
  sound = sound-all w.geometry.images w.appliances w.trace content.permitted

  -- the image is kept, as an attach of it may look at it
  looks-without : (command : Command) (known : Known) (i : ℕ) (within : i < g.images) → command ≡ Attach (slot_no i) → ModelRuns g a command known m → Looks g a i command known (Without (content.stored i within).kept (content.stored i within).writes) m
  looks-without command known i within is running = record { running = running; slot = ((content.stored i within).either, sound.differs i); purpose = is }

  -- a reading below a lease's end is early
  below-live : (hold : Hold) (reading : ℕ) → is_below hold reading ≡ true → IsReadingAt reading time → (claim : Claim) × (until : ℕ) × (hold ≡ Held claim until) × (time ≤ until + 50)
  below-live (Held claim until) reading e is = (
    claim,
    until,
    refl,
    (elim (leb_tells (suc reading) until) [
      | inl less ↦ (let l = is.late in omega (arith, l, less.1))
      | inr not ↦ absurd (let f : true ≡ false = sym e ∙ not.0 in let P : ⊥ = cc in P)
    ]),
  )
  below-live Nothing reading e is = absurd (let P : ⊥ = cc in P)
  below-live (Seen s) reading e is = absurd (let P : ⊥ = cc in P)
  below-live (Wrote c u) reading e is = absurd (let P : ⊥ = cc in P)
  below-live (Waited c u) reading e is = absurd (let P : ⊥ = cc in P)

  just-of : (holds : ℕ → Hold) (reading : ℕ) → IsReadingAt reading time → (slots : List ℕ) → (is_some_slot slots && are_below g holds reading slots) ≡ true →
      (i : ℕ) × (i < g.images) × IsAmongSlots i slots × ((claim : Claim) × (until : ℕ) × (holds (lease_at (image_lease i)) ≡ Held claim until) × (time ≤ until + 50))
  just-of holds reading is [] e = absurd (let P : ⊥ = cc in P)
  just-of holds reading is (j ∷ others) e =
      let x = and-parts (nat_lt j g.images && is_below (holds (lease_at (image_lease j))) reading) (are_below g holds reading others) e in
      let y = and-parts (nat_lt j g.images) (is_below (holds (lease_at (image_lease j))) reading) x.0 in
      (j, nat_lt-tells j g.images y.0, inl refl, below-live (holds (lease_at (image_lease j))) reading y.1 is)

  just-holds : (command : Command) (holds : ℕ → Hold) (reading : ℕ) → just_at g command holds reading ≡ true → IsReadingAt reading time →
      (i : ℕ) × (i < g.images) × Names command i × ((claim : Claim) × (until : ℕ) × (holds (lease_at (image_lease i)) ≡ Held claim until) × (time ≤ until + 50))
  just-holds command holds reading e is = just-of holds reading is (named_slots command) e

  -- ---- the clock

  -- a reading in a command that serves an image, or doesn't
  read-clock : (event : Event) (log : List BootEntry) (known : Known) (command : Command) (process : Process End) (reading : ℕ) (hand : List ℕ) (filled : List (ℕ × List ℕ)) {latest : ℕ} → NoMap g hand → starts_and_crashes w.trace ≡ events_told (came event ∷ w.history) →
      (place : Place) → p.place ≡ place → ((b : ℕ) (x : Issued) → IsAskedAt place b x → ⊥) → IsReadingAt reading time → ModelRuns g a command known m →
      Leased (went_to w content a below event log known command (λ block. hold_after_reading reading (p.holds block)) (Some reading) (just_at g command (λ block. hold_after_reading reading (p.holds block)) reading) (with_reply_of (appliance_no a) process w.trace)) →
      configuration s log ≡ goes_to g known command (λ block. hold_after_reading reading (p.holds block)) hand filled (Some reading) None latest process →
      Fair g a command known (λ block. hold_after_reading reading (p.holds block)) (Some reading) (just_at g command (λ block. hold_after_reading reading (p.holds block)) reading) process →
      ((i : ℕ) → i < g.images → Minds g time writes m a (w.seats a) i →
      (Names command i → (regime : Regime) × Looks g a i command known regime m × HeldProcess g a i command known regime process device × IsOn g i device regime) × ((Names command i → ⊥) → HasContent g a i known device m)) →
      KeepsContent (went_to w content a below event log known command (λ block. hold_after_reading reading (p.holds block)) (Some reading) (just_at g command (λ block. hold_after_reading reading (p.holds block)) reading) (with_reply_of (appliance_no a) process w.trace))
  read-clock event log known command process reading hand filled none said place here no-ask is running leased leads fair own =
      let free = free-at place here no-ask in
      let h : ℕ → Hold = λ block. hold_after_reading reading (p.holds block) in
      content-went w content a below event log known command h (Some reading) (just_at g command h reading) said running process hand filled None none tt leased leads fair
      (λ i within minds.
      let mine = own i within (minds-back i log (λ claim until grips. grips-now free i claim until
      (timed-held reading (p.holds (lease_at (image_lease i))) claim until (seat-holds log known command h hand filled (Some reading) None process leads i claim until grips)) grips.1) minds) in
      ((λ names. inl (mine.0 names)), mine.1))
      (inl (quiet-free _ free))
      (λ e.
      let j = just-holds command h reading e is in
      let held = timed-held reading (p.holds (lease_at (image_lease j.0))) j.3.0 j.3.1 j.3.2 in
      let grips = grips-now free j.0 j.3.0 j.3.1 held j.3.3 in
      record { image = j.0; within = j.1; names = j.2; serves = inl ((own j.0 j.1 (inl (j.3.0, j.3.1, grips))).0 j.2); claim = j.3.0; until = j.3.1; grips = grips; free = free })

  module _ (known : Known) (command : Command) where
    pub clock-content : (rest : ℕ → Process End) (reading : ℕ) → p.place ≡ In known command (ClockThen rest) → IsReadingAt reading time →
        Leased (goes_on w (event.Reading (appliance_no a) reading) (appliance_no a) ask.Clock [] (answer.Reading reading) (rest reading)) →
        KeepsContent (goes_on w (event.Reading (appliance_no a) reading) (appliance_no a) ask.Clock [] (answer.Reading reading) (rest reading))
    clock-content rest reading here is leased =
        let place = In known command (ClockThen rest) in
        let fits = fits-at place here in
        let early : reading < 2 ^ 48 = (let e = is.early in let t = content.leased.early in omega arith) in
        read-clock (event.Reading (appliance_no a) reading) (Asked ask.Clock [] (answer.Reading reading) ∷ (w.seats a).log) known command (rest reading) reading p.hand _ in-hand.hand content.told place here (λ b x no'. no') is fits.0
        leased
        (ap (went_on s ask.Clock [] (answer.Reading reading) p) here)
        (fits.1 reading early)
        (λ i within minds. let mine = owned-at place here i within minds in
        ((λ names. let s = mine.0 names in (s.regime, s.looks, s.held reading, s.on)), mine.1))

    pub wait-content : (from : ℕ) (rest : ℕ → Process End) (reading : ℕ) → p.place ≡ In known command (UntilThen from rest) → IsReadingAt reading time → from ≤ reading →
        Leased (goes_on w (event.Reading (appliance_no a) reading) (appliance_no a) (ask.Until from) [] (answer.Reading reading) (rest reading)) →
        KeepsContent (goes_on w (event.Reading (appliance_no a) reading) (appliance_no a) (ask.Until from) [] (answer.Reading reading) (rest reading))
    wait-content from rest reading here is past leased =
        let place = In known command (UntilThen from rest) in
        let fits = fits-at place here in
        let early : reading < 2 ^ 48 = (let e = is.early in let t = content.leased.early in omega arith) in
        read-clock (event.Reading (appliance_no a) reading) (Asked (ask.Until from) [] (answer.Reading reading) ∷ (w.seats a).log) known command (rest reading) reading p.hand _ in-hand.hand content.told place here (λ b x no'. no') is fits.0
        leased
        (ap (went_on s (ask.Until from) [] (answer.Reading reading) p) here)
        (fits.1 reading past early)
        (λ i within minds. let mine = owned-at place here i within minds in
        ((λ names. let s = mine.0 names in (s.regime, s.looks, s.held reading, s.on)), mine.1))

    -- ---- a read

    module _ (block : ℕ) (rest : List ℕ → Process End) (fault : Process End) (here : p.place ≡ In known command (ReadThen block rest fault)) where
      abbrev place : Place
      place = In known command (ReadThen block rest fault)

      never : {X : Type 0} → false ≡ true → X
      never e = absurd (let P : ⊥ = cc in P)

      pub read-content : Leased (goes_on w (event.Read (appliance_no a)) (appliance_no a) (ask.Read (record { 0 = block })) [] (answer.Bytes (device block)) (rest (device block))) →
          KeepsContent (goes_on w (event.Read (appliance_no a)) (appliance_no a) (ask.Read (record { 0 = block })) [] (answer.Bytes (device block)) (rest (device block)))
      read-content leased =
          let bytes = device block in
          let fits = fits-at place here in
          let free = free-at place here (λ b x no'. no') in
          let h = at p.holds block (hold_after_read p.sample bytes (p.holds block)) in
          let log = Asked (ask.Read (record { 0 = block })) [] (answer.Bytes bytes) ∷ (w.seats a).log in
          let leads = ap (went_on s (ask.Read (record { 0 = block })) [] (answer.Bytes bytes) p) here in
          content-went w content a below (event.Read (appliance_no a)) log known command h None false content.told fits.0 (rest bytes) p.hand _ (Some (block, bytes)) in-hand.hand (spelled-now block).map
          leased leads (fits.1.0 bytes (spelled-now block))
          (λ i within minds. elim minds [
            | inl gripped ↦ (
                let claim = gripped.0 in
                let until = gripped.1 in
                let grips = gripped.2 in
                let holds = seat-holds log known command h p.hand _ None (Some (block, bytes)) (rest bytes) leads i claim until grips in
                let was : (p.holds (lease_at (image_lease i)) ≡ Held claim until) ⊎ ((lease_at (image_lease i) ≡ block) × (p.holds (lease_at (image_lease i)) ≡ Waited claim until) × (bytes ≡ lease_bytes (Claimed claim until))) =
                (elim (eqb_tells (lease_at (image_lease i)) block) [
                  | inl same ↦
                      let P : ℕ → Type 0 = λ b. at p.holds b (hold_after_read p.sample (device b) (p.holds b)) (lease_at (image_lease i)) ≡ Held claim until in
                      let e : hold_after_read p.sample (device (lease_at (image_lease i))) (p.holds (lease_at (image_lease i))) ≡ Held claim until =
                      sym (at-same p.holds (lease_at (image_lease i)) (hold_after_read p.sample (device (lease_at (image_lease i))) (p.holds (lease_at (image_lease i))))) ∙ subst P (sym same.1) holds in
                      elim (shown-held-or-waited p.sample (device (lease_at (image_lease i))) (p.holds (lease_at (image_lease i))) claim until e) [
                        | inl held ↦ inl held
                        | inr waited ↦ inr (same.1, waited.0, ap device (sym same.1) ∙ waited.1)
                      ]
                  | inr away ↦ inl (sym (at-other p.holds block (lease_at (image_lease i)) (hold_after_read p.sample bytes (p.holds block)) away.1) ∙ holds)
                ]) in
                elim was [
                  | inl held ↦
                      let mine = owned-at place here i within (inl (claim, until, grips-now free i claim until held grips.1)) in
                      ((λ names. let s = mine.0 names in inl (s.regime, s.looks, s.held.1, s.on)), mine.1)
                  | inr fresh ↦
                      let confirm = fits.1.2 i claim until within (sym fresh.0) fresh.1 in
                      let P : List ℕ → Type 0 = λ x. HeldProcess g a i command known (Without (content.stored i within).kept (content.stored i within).writes) (rest x) device in (
                        (λ names. inl (
                          Without (content.stored i within).kept (content.stored i within).writes,
                          looks-without command known i within confirm.0 fits.0,
                          subst P (sym fresh.2) (confirm.1 device (content.stored i within).kept (content.stored i within).writes (content.stored i within).journal),
                          (content.stored i within).journal,
                        )),
                        (λ away. absurd (away (let N : Command → Type 0 = λ c. Names c i in subst N (sym confirm.0) (inl refl)))),
                      )
                ])
            | inr owner ↦ (let mine = owned-at place here i within (inr owner) in ((λ names. let s = mine.0 names in inl (s.regime, s.looks, s.held.1, s.on)), mine.1))
          ])
          (inl (quiet-free _ free))
          never

      pub fault-content : Leased (goes_on w (event.Fault (appliance_no a)) (appliance_no a) (ask.Read (record { 0 = block })) [] answer.Fault fault) →
          KeepsContent (goes_on w (event.Fault (appliance_no a)) (appliance_no a) (ask.Read (record { 0 = block })) [] answer.Fault fault)
      fault-content leased =
          let fits = fits-at place here in
          let free = free-at place here (λ b x no'. no') in
          let log = Asked (ask.Read (record { 0 = block })) [] answer.Fault ∷ (w.seats a).log in
          let leads = ap (went_on s (ask.Read (record { 0 = block })) [] answer.Fault p) here in
          content-went w content a below (event.Fault (appliance_no a)) log known command p.holds None false content.told fits.0 fault p.hand _ None in-hand.hand tt
          leased leads fits.1.1
          (λ i within minds.
          let mine = owned-at place here i within (minds-back i log (λ claim until grips. grips-now free i claim until (seat-holds log known command p.holds p.hand _ None None fault leads i claim until grips) grips.1) minds) in
          ((λ names. let s = mine.0 names in inl (s.regime, s.looks, s.held.2, s.on)), mine.1))
          (inl (quiet-free _ free))
          never

    -- ---- a write is answered

    module _ (what : WriteKind) (block : ℕ) (bytes : List ℕ) (guard : ℕ) (done fault : Process End) (missed : ℕ → Process End)
        (here : p.place ≡ In known command (WriteThen what block bytes guard done fault missed)) where
      abbrev wplace : Place
      wplace = In known command (WriteThen what block bytes guard done fault missed)

      unjust : {X : Type 0} → false ≡ true → X
      unjust e = absurd (let P : ⊥ = cc in P)

      unheld : {X : Type 0} (claim : Claim) (until : ℕ) → Nothing ≡ Held claim until → X
      unheld claim until e = absurd (let P : ⊥ = cc in P)

      dropped : (event : Event) (log : List BootEntry) (h : ℕ → Hold) (process : Process End) → IsDrop process → Fair g a command known no_holds None false process → (i : ℕ) →
          NoSession w content a below event log known command h None false process i
      dropped event log h (Ends end) drops fair i = (
        elim fair.allowed [ inl fine ↦ fine | inr rest ↦ elim rest [ inl e ↦ unjust e | inr y ↦ unjust (sym (yields-stays y) ∙ drops) ] ],
        is-none (end.known.sessions i) (fair.kept i ∙ dropping-false end.reply command (attached_of known) i drops),
        undamaged-drop end.reply drops,
      )
      dropped event log h (ReadThen b r f) drops fair i = absurd drops
      dropped event log h (WriteThen k b x u d f r) drops fair i = absurd drops
      dropped event log h (ClockThen r) drops fair i = absurd drops
      dropped event log h (UntilThen n r) drops fair i = absurd drops

      pub write-fault-content : Leased (goes_on w (event.Fault (appliance_no a)) (appliance_no a) (ask.Write what (record { 0 = block }) guard) bytes answer.Fault fault) →
          KeepsContent (goes_on w (event.Fault (appliance_no a)) (appliance_no a) (ask.Write what (record { 0 = block }) guard) bytes answer.Fault fault)
      write-fault-content leased =
          let fits = fits-at wplace here in
          let log = Asked (ask.Write what (record { 0 = block }) guard) bytes answer.Fault ∷ (w.seats a).log in
          let leads = ap (went_on s (ask.Write what (record { 0 = block }) guard) bytes answer.Fault p) here in
          content-went w content a below (event.Fault (appliance_no a)) log known command no_holds None false content.told fits.0 fault (hand_unlinked what p.filled p.hand) _ None (no-map-unlinked g what p.filled p.hand in-hand.hand) tt
          leased leads fits.1.3
          (λ i within minds. elim minds [
            | inl grips ↦ unheld grips.0 grips.1 (seat-holds log known command no_holds (hand_unlinked what p.filled p.hand) _ None None fault leads i grips.0 grips.1 grips.2)
            | inr owner ↦ ((λ names. inr (dropped (event.Fault (appliance_no a)) log no_holds fault fits.1.5 fits.1.3 i)), (owned-at wplace here i within (inr owner)).1)
          ])
          (inr fits.1.5)
          unjust

      pub miss-content : (reading : ℕ) → Leased (goes_on w (event.Miss (appliance_no a) reading) (appliance_no a) (ask.Write what (record { 0 = block }) guard) bytes (answer.Missed reading) (missed reading)) →
          KeepsContent (goes_on w (event.Miss (appliance_no a) reading) (appliance_no a) (ask.Write what (record { 0 = block }) guard) bytes (answer.Missed reading) (missed reading))
      miss-content reading leased =
          let fits = fits-at wplace here in
          let log = Asked (ask.Write what (record { 0 = block }) guard) bytes (answer.Missed reading) ∷ (w.seats a).log in
          let leads = ap (went_on s (ask.Write what (record { 0 = block }) guard) bytes (answer.Missed reading) p) here in
          content-went w content a below (event.Miss (appliance_no a) reading) log known command no_holds None false content.told fits.0 (missed reading) (hand_unlinked what p.filled p.hand) _ None (no-map-unlinked g what p.filled p.hand in-hand.hand) tt
          leased leads (fits.1.4 reading)
          (λ i within minds. elim minds [
            | inl grips ↦ unheld grips.0 grips.1 (seat-holds log known command no_holds (hand_unlinked what p.filled p.hand) _ None None (missed reading) leads i grips.0 grips.1 grips.2)
            | inr owner ↦ ((λ names. inr (dropped (event.Miss (appliance_no a) reading) log no_holds (missed reading) (fits.1.6 reading) (fits.1.4 reading) i)), (owned-at wplace here i within (inr owner)).1)
          ])
          (inr (fits.1.6 reading))
          unjust

      module _ (number : ℕ) (waited : (w.seats a).pending ≡ Some number) (landed : HasLanded w.surface number) where
        write : Issued
        write = landed.0

        asked : IsAskedAt wplace s.boot landed.0
        asked =
            let x = (content.leased.seated a below).asked number waited in
            let same : x.0 ≡ landed.0 = (let e : Some x.0 ≡ Some landed.0 = sym x.1 ∙ landed.1 in cc) in
            let P : Place → Issued → Type 0 = λ q y. IsAskedAt q s.boot y in
            subst (P wplace) same (subst (λ (q : Place). P q x.0) here x.2)

        -- a lease that is held then was held before
        done-held : (k : WriteKind) (i : ℕ) (claim : Claim) (until : ℕ) → after_write k block bytes p.holds (lease_at (image_lease i)) ≡ Held claim until →
            (grip_while k (lease_at (image_lease i) == block) true bytes (p.holds (lease_at (image_lease i))) ≡ Held claim until) × (k ≡ kind.Release → block ≡ lease_at (image_lease i) → ⊥)
        done-held kind.Claim i claim until e = (
          elim (eqb_tells (lease_at (image_lease i)) block) [
            | inl same ↦
                let P : ℕ → Type 0 = λ b. at p.holds b (hold_after_claim (read_lease bytes)) (lease_at (image_lease i)) ≡ Held claim until in
                absurd (unwritten (read_lease bytes) (sym (at-same p.holds (lease_at (image_lease i)) (hold_after_claim (read_lease bytes))) ∙ subst P (sym same.1) e))
            | inr away ↦ sym (at-other p.holds block (lease_at (image_lease i)) (hold_after_claim (read_lease bytes)) away.1) ∙ e
          ],
          λ k. absurd (let P : ⊥ = cc in P),
        )
          where
            unwritten : (r : Option LeaseRecord) → hold_after_claim r ≡ Held claim until → ⊥
            unwritten None e = cc
            unwritten (Some Free) e = cc
            unwritten (Some (Claimed c u)) e = cc
        done-held kind.Renew i claim until e = (
          elim (eqb_tells (lease_at (image_lease i)) block) [
            | inl same ↦
                let P : ℕ → Type 0 = λ b. at p.holds b (hold_after_renewal (read_lease bytes)) (lease_at (image_lease i)) ≡ Held claim until in
                rw same.0 (sym (at-same p.holds (lease_at (image_lease i)) (hold_after_renewal (read_lease bytes))) ∙ subst P (sym same.1) e)
            | inr away ↦ rw away.0 (sym (at-other p.holds block (lease_at (image_lease i)) (hold_after_renewal (read_lease bytes)) away.1) ∙ e)
          ],
          λ k. absurd (let P : ⊥ = cc in P),
        )
        done-held kind.Release i claim until e = elim (eqb_tells (lease_at (image_lease i)) block) [
          | inl same ↦
              let P : ℕ → Type 0 = λ b. at p.holds b Nothing (lease_at (image_lease i)) ≡ Held claim until in
              unheld claim until (sym (at-same p.holds (lease_at (image_lease i)) Nothing) ∙ subst P (sym same.1) e)
          | inr away ↦ (rw away.0 (sym (at-other p.holds block (lease_at (image_lease i)) Nothing away.1) ∙ e), λ k at'. away.1 (sym at'))
        ]
        done-held kind.JData i claim until e = (e, λ k. absurd (let P : ⊥ = cc in P))
        done-held kind.JCommit i claim until e = (e, λ k. absurd (let P : ⊥ = cc in P))
        done-held kind.Take i claim until e = (e, λ k. absurd (let P : ⊥ = cc in P))
        done-held kind.Give i claim until e = (e, λ k. absurd (let P : ⊥ = cc in P))
        done-held kind.Sweep i claim until e = (e, λ k. absurd (let P : ⊥ = cc in P))
        done-held kind.Fresh i claim until e = (e, λ k. absurd (let P : ⊥ = cc in P))
        done-held kind.Link i claim until e = (e, λ k. absurd (let P : ⊥ = cc in P))
        done-held kind.Overwrite i claim until e = (e, λ k. absurd (let P : ⊥ = cc in P))
        done-held kind.Record i claim until e = (e, λ k. absurd (let P : ⊥ = cc in P))
        done-held kind.Log i claim until e = (e, λ k. absurd (let P : ⊥ = cc in P))

        done-grips : (i : ℕ) (claim : Claim) (until : ℕ) → after_write what block bytes p.holds (lease_at (image_lease i)) ≡ Held claim until → time ≤ until + 50 → Grips g time writes a (w.seats a) i claim until
        done-grips i claim until e live =
            let hold = p.holds (lease_at (image_lease i)) in
            let there : pending_write writes (w.seats a).pending ≡ Some landed.0 = ap (pending_write writes) waited ∙ landed.1 in
            let set : first_landed (Some landed.0) ≡ true = first-set landed.0 true (ap (λ (l : List Bool). slice_get l 0) landed.2) in
            let P : Place → Type 0 = λ q. grip_at q (pending_write writes (w.seats a).pending) (lease_at (image_lease i)) hold ≡ Held claim until in
            (subst P (sym here) (ap (λ (b : Bool). grip_while what (lease_at (image_lease i) == block) b bytes hold) (ap first_landed there ∙ set) ∙ (done-held what i claim until e).0), live)

        whole : device block ≡ bytes → (i : ℕ) → Same g i (put device block bytes) device
        whole is i = record { recorded = at' _; descriptors = λ s less. at' _; blocks = λ s less. at' _ }
          where
            at' : (b : ℕ) → device b ≡ put device block bytes b
            at' b = sym (ap (λ (x : List ℕ). put device block x b) (sym is) ∙ put-again device block b)

        pub done-content : Leased (goes_on w (event.Done (appliance_no a)) (appliance_no a) (ask.Write what (record { 0 = block }) guard) bytes answer.Done done) →
            KeepsContent (goes_on w (event.Done (appliance_no a)) (appliance_no a) (ask.Write what (record { 0 = block }) guard) bytes answer.Done done)
        done-content leased =
            let fits = fits-at wplace here in
            let h = after_write what block bytes p.holds in
            let hand' = hand_left (ask.Write what (record { 0 = block }) guard) p.filled (hand_answered g p.found (ask.Write what (record { 0 = block }) guard) bytes answer.Done p.hand) in
            let log = Asked (ask.Write what (record { 0 = block }) guard) bytes answer.Done ∷ (w.seats a).log in
            let leads = ap (went_on s (ask.Write what (record { 0 = block }) guard) bytes answer.Done p) here in
            content-went w content a below (event.Done (appliance_no a)) log known command h None false content.told fits.0 done hand' _ None
            (no-map-unlinked g what p.filled _ (hand-done g content.leased.geometry what block bytes _ (placed-may g s.boot p.holds _ what block bytes guard may) p.found in-hand.found p.hand in-hand.hand)) tt
            leased leads fits.1.2
            (λ i within minds.
            let mine = owned-at wplace here i within (minds-back i log (λ claim until grips. done-grips i claim until (seat-holds log known command h hand' _ None None done leads i claim until grips) grips.1) minds) in (
              λ names. (let s = mine.0 names in
                  inl (
                    s.regime,
                    s.looks,
                    done-held' i within s.regime s.held
                        (λ k. s.fills number landed.0 waited landed.1 (let Q : WriteKind → Type 0 = λ x. IsJournalled x in subst Q (sym asked.0) k)),
                    s.on,
                  )),
              mine.1,
            ))
            (inl (λ i within k x op of mine. done-closed i within k x op of mine))
            unjust
          where
            closed : (k : WriteKind) (flags : List Bool) → flags ≡ all_sectors → Unlanded k flags → ⊥
            closed kind.Renew flags is missing = (let e : Some true ≡ Some false = sym (ap (λ (l : List Bool). slice_get l 0) is) ∙ missing in cc)
            closed kind.Release flags is missing = (let e : Some true ≡ Some false = sym (ap (λ (l : List Bool). slice_get l 0) is) ∙ missing in cc)
            closed other flags is missing = missing is

            -- the write that is done is open no longer: it has landed whole, and no other boot waits for it
            done-closed : (i : ℕ) → i < g.images → (k : ℕ) (x : Issued) → IsOpen g w.rests w.appliances time writes (at w.seats a (record { boots = (w.seats a).boots; log = Asked (ask.Write what (record { 0 = block }) guard) bytes answer.Done ∷ (w.seats a).log; pending = None })) (image_lease i) k x →
                IsOf g i x.block → (m.slots i).owner ≡ Some a → ⊥
            done-closed i within k x op of mine =
                let n : Some number ≡ Some k = sym waited ∙ content.whose i within k x (open-elsewhere g w.rests w.appliances time writes w.seats (image_lease i) a _ refl k x op) of a mine in
                let at' : number ≡ k = cc in
                by_open at' op
              where
                by_open : number ≡ k → IsOpen g w.rests w.appliances time writes (at w.seats a (record { boots = (w.seats a).boots; log = Asked (ask.Write what (record { 0 = block }) guard) bytes answer.Done ∷ (w.seats a).log; pending = None })) (image_lease i) k x → ⊥
                by_open at' (inl live) =
                    let Q : ℕ → Type 0 = λ j. slice_get writes j ≡ Some x in
                    let same : landed.0 ≡ x = (let e : Some landed.0 ≡ Some x = sym landed.1 ∙ subst Q (sym at') live.found in cc) in
                    closed x.kind x.landed (ap (λ (y : Issued). y.landed) (sym same) ∙ landed.2) live.missing
                by_open at' (inr o) =
                    at-all (λ b s'. b < w.appliances → s'.pending ≡ Some k → ⊥) w.seats a _
                    (λ under waits'. none-some k waits')
                    (λ b ne under waits'. ne (one-waits w content.leased b a k under below waits' (waited ∙ ap Some at')))
                    o.0 o.1 o.3

            may : MayIssue g s.boot p.holds (rests_on g command p.holds p.filled what block bytes) what block bytes guard
            may = let P : Place → Type 0 = λ q. LawfulAt g s.boot p.holds p.filled p.sample q in (subst P here (content.leased.seated a below).lawful).0

            full : (with_landed_sectors (missing_of landed.0.landed) landed.0.bytes (device landed.0.block) ≡ landed.0.bytes) → device block ≡ bytes
            full fills =
                let none : with_landed_sectors (missing_of landed.0.landed) landed.0.bytes (device landed.0.block) ≡ device landed.0.block =
                ap (λ (l : List Bool). with_landed_sectors (missing_of l) landed.0.bytes (device landed.0.block)) landed.2 ∙ mixed-none 8 landed.0.bytes (device landed.0.block) in
                sym (ap device asked.1) ∙ (sym none ∙ (fills ∙ asked.2))

            done-held' : (i : ℕ) → i < g.images → (regime : Regime) → HeldProcess g a i command known regime (WriteThen what block bytes guard done fault missed) device →
                (IsJournalled what → with_landed_sectors (missing_of landed.0.landed) landed.0.bytes (device landed.0.block) ≡ landed.0.bytes) → HeldProcess g a i command known regime done device
            done-held' i within regime held fills = elim (held-or g a i command known regime block bytes guard done fault missed device what held) [
              | inl released ↦ released
              | inr of ↦ elim (placed-cases g content.leased.geometry what block bytes _ (placed-may g s.boot p.holds _ what block bytes guard may) i within) [
                | inl mine ↦
                    let write = held-image-write g a i command known regime block bytes guard done fault missed device what mine.1 held in
                    held-process-same g a i command known regime done (put device block bytes) device (whole (full (fills mine.1)) i) write.follows
                | inr away ↦ absurd (away of)
              ]
            ]

  -- ---- the first reading of a command

  abbrev Serving : Known → Command → Process End → ℕ → Type 0
  Serving known command process i =
      ((regime : Regime) × Looks g a i command known regime m × HeldProcess g a i command known regime process device × IsOn g i device regime)
      ⊎ NoSession w content a below (event.Reading (appliance_no a) 0) [] known command p.holds None false process i

  -- a command of an image without a session ends for want of it
  serves-none : (known : Known) (h : ℕ → Hold) (reading i j : ℕ) (command : Command) (rest : Session → ℕ → Process End) → named_slots command ≡ j ∷ [] → is_in 1 (row command) ≡ true → j ≡ i → known.sessions i ≡ None →
      Serving known command (of_attached s known h reading j rest) i
  serves-none known h reading i j command rest one listed names is =
      let none : known.sessions j ≡ None = ap known.sessions names ∙ is in
      let P : Option Session → Type 0 = λ o. Serving known command (attached_process s known j o (nat_lt j g.images) (h (lease_at (image_lease j))) reading rest) i in
      let H : List ℕ → Type 0 = λ l. has_all (attached_of known) l ≡ false in
      subst P (sym none) (inr (harmless.without listed (subst H (sym one) (ap (λ (o : Option Session). is_some o && true) none)), is, tt))

  -- a command of an image whose lease is held serves it, or ends for want of a session
  module _ (known : Known) (reading : ℕ) (i : ℕ) (within : i < g.images) (claim : Claim) (until : ℕ) (held : after_first g known reading p.holds (lease_at (image_lease i)) ≡ Held claim until) where
    abbrev h : ℕ → Hold
    h = after_first g known reading p.holds

    abbrev hand : List ℕ
    hand = hand_held g h p.hand

    serves-without : (command : Command) → ModelRuns g a command known m → IsBuilt command → Names command i → known.sessions i ≡ None → Serving known command (command_process s known h hand reading command) i
    serves-without (Attach j) running built (inl names) is =
        let k = content.stored i within in
        let P : ℕ → Type 0 = λ n. Serving known (Attach (slot_no n)) (command_process s known h hand reading (Attach (slot_no n))) i in
        let running' : ModelRuns g a (Attach (slot_no i)) known m = (let Q : ℕ → Type 0 = λ n. ModelRuns g a (Attach (slot_no n)) known m in subst Q names running) in
        subst P (sym names) (inl (
          Without k.kept k.writes,
          looks-without (Attach (slot_no i)) known i within refl running',
          begin-without s content.leased.geometry a i within known h hand reading claim until held device k.kept k.writes k.journal is,
          k.journal,
        ))
    serves-without (Detach j) running built (inl names) is = serves-none known h reading i j.0 (Detach j) (detach_process s known j.0) refl refl names is
    serves-without (Create j size label) running built (inl names) is = serves-none known h reading i j.0 (Create j size label) (create_process s known j.0 size label) refl refl names is
    serves-without (Delete j) running built (inl names) is = serves-none known h reading i j.0 (Delete j) (delete_process s known j.0) refl refl names is
    serves-without (Read j v) running built (inl names) is = serves-none known h reading i j.0 (Read j v) (read_process s known j.0 v) refl refl names is
    serves-without (Write j v x) running built (inl names) is = serves-none known h reading i j.0 (Write j v x) (write_process s known j.0 v (bytes_of x)) refl refl names is
    serves-without (Attach j) running built (inr no') is = absurd no'
    serves-without (Detach j) running built (inr no') is = absurd no'
    serves-without (Create j size label) running built (inr no') is = absurd no'
    serves-without (Delete j) running built (inr no') is = absurd no'
    serves-without (Read j v) running built (inr no') is = absurd no'
    serves-without (Write j v x) running built (inr no') is = absurd no'
    serves-without (Flush j) running built names is = absurd built
    serves-without (Reserve count) running built names is = absurd names
    serves-without Renew running built names is = absurd names
    serves-without Retire running built names is = absurd names
    serves-without Reclaim running built names is = absurd names

    serves : (command : Command) → ModelRuns g a command known m → IsWellFormed command → IsBuilt command → Names command i → (o : Option Session) → known.sessions i ≡ o →
        ((t : Session) → known.sessions i ≡ Some t → IsBegun g a i command known t device m) → Serving known command (command_process s known h hand reading command) i
    serves command running well built names (Some t) is begun =
        let b = begun t is in
        inl (
          With b.image b.change,
          b.looks,
          begin-with s content.leased.geometry a i within known h hand reading claim until held device t.image t.writes b.journal b.image b.left is command b.change names well built b.begun,
          tt,
        )
    serves command running well built names None is begun = serves-without command running built names is

  backed-by : (known : Known) (h : ℕ → Hold) → Backs g h known → (i : ℕ) (o : Option Session) → known.sessions i ≡ o → is_some o ≡ true → IsBacking g h i
  backed-by known h backs i None e some = absurd (let P : ⊥ = cc in P)
  backed-by known h backs i (Some t) e some = backs i t e

  pub begin-content : (known : Known) (command : Command) (reading : ℕ) → p.place ≡ Begins known command → IsReadingAt reading time →
      Leased (goes_on w (event.Reading (appliance_no a) reading) (appliance_no a) ask.Clock [] (answer.Reading reading) (first_process s known reading command p)) →
      KeepsContent (goes_on w (event.Reading (appliance_no a) reading) (appliance_no a) ask.Clock [] (answer.Reading reading) (first_process s known reading command p))
  begin-content known command reading here is leased =
      let place = Begins known command in
      let fits = fits-at place here in
      let free = free-at place here (λ b x no'. no') in
      let early : reading < 2 ^ 48 = (let e = is.early in let t = content.leased.early in omega arith) in
      let boots = (content.leased.seated a below).boots in
      let few = content.leased.few in
      let h = after_first g known reading p.holds in
      let process = first_process s known reading command p in
      let log = Asked ask.Clock [] (answer.Reading reading) ∷ (w.seats a).log in
      let leads = ap (went_on s ask.Clock [] (answer.Reading reading) p) here in
      let backs = backs-first g known p.holds reading fits.1 in
      let limits : (i : ℕ) → i < g.images → (claim : Claim) (until : ℕ) → h (lease_at (image_lease i)) ≡ Held claim until → IsClaimed claim until =
      λ i within claim until held.
      (let held' = first-held (session_at g known (lease_at (image_lease i))) reading (p.holds (lease_at (image_lease i))) claim until held in
      let G : Hold → Type 0 = λ x. Good w.rests time writes (image_lease i) (content.leased.on (image_lease i) (image-below g i within)).standing s.boot None x in
      let good : StandsConfirmed w.rests time writes (image_lease i) (content.leased.on (image_lease i) (image-below g i within)).standing s.boot None claim until =
      subst G held' (good-free g w.rests w.appliances time device writes w.seats (image_lease i) (content.leased.on (image_lease i) (image-below g i within)) a below free) in
      good.limits) in
      let own : (i : ℕ) → i < g.images → (claim : Claim) (until : ℕ) → h (lease_at (image_lease i)) ≡ Held claim until → Minds g time writes m a (w.seats a) i →
      (Names command i → Serving known command process i) × ((Names command i → ⊥) → HasContent g a i known device m) =
      λ i within claim until held minds.
      (let mine = owned-at place here i within minds in (
        λ names. serves known reading i within claim until held command fits.0 fits.2 fits.3 names (known.sessions i) refl (mine.0 names),
        mine.1,
      )) in
      content-went w content a below (event.Reading (appliance_no a) reading) log known command h (Some reading) (just_at g command h reading) content.told fits.0 process p.hand [] None in-hand.hand tt
      leased leads
      (fair-command s content.leased.geometry a (omega (arith, below, few, boots)) known reading h (hand_held g h p.hand) (no-map-filter g _ p.hand in-hand.hand) backs
      (λ i. first-rests (session_at g known (lease_at (image_lease i))) reading (p.holds (lease_at (image_lease i)))) limits command fits.2 fits.3 early)
      (λ i within minds. elim minds [
        | inl grips ↦
            let held = seat-holds log known command h p.hand [] (Some reading) None process leads i grips.0 grips.1 grips.2 in
            own i within grips.0 grips.1 held (inl (
              grips.0,
              grips.1,
              grips-now free i grips.0 grips.1
                  (first-held (session_at g known (lease_at (image_lease i))) reading (p.holds (lease_at (image_lease i))) grips.0 grips.1 held) grips.2.1,
            ))
        | inr mine ↦
            let some : is_some (known.sessions i) ≡ true = sym (fits.0.sessions i) ∙ sound.session a i mine in
            let b = backed-by known h backs i (known.sessions i) refl some in
            own i within b.claim b.until b.held (inr mine)
      ])
      (inl (quiet-free _ free))
      (λ e.
      let j = just-holds command h reading e is in
      let held = first-held (session_at g known (lease_at (image_lease j.0))) reading (p.holds (lease_at (image_lease j.0))) j.3.0 j.3.1 j.3.2 in
      let grips = grips-now free j.0 j.3.0 j.3.1 held j.3.3 in
      record { image = j.0; within = j.1; names = j.2; serves = (own j.0 j.1 j.3.0 j.3.1 j.3.2 (inl (j.3.0, j.3.1, grips))).0 j.2; claim = j.3.0; until = j.3.1; grips = grips; free = free })
