-- What holds stays where time passes, a command starts, or an appliance crashes.
use Rattle.std.proofs.Common.{◌≡◌, ℕ, ◌+◌, ◌<◌, inl, inr, [], ◌∷◌, Bool, true, false, Option, Some, None, refl, ap, sym, subst, ◌∙◌, arith}
use Rattle.std.specs.Prelude.{is_some, ◌&&◌}
use Rattle.std.proofs.lemmas.Bool.Decides.{eqb_tells}
use Rattle.plx_commands.specs.Facts.{refusals, is_none}
use Rattle.plx_commands.specs.Judge.{Permitted}
use Rattle.plx_commands.specs.Model.{Model, Slot, images_in, owns_all}
use Rattle.plx_commands.specs.Moves.{under_way, where_owned, begins_change, started_at, model_without_sessions, model_after}
use Rattle.plx_commands.specs.Places.{at}
use Rattle.plx_commands.specs.Slots.{named_slots, changed_slot, image_after}
use Rattle.plx_commands.specs.declared.command.Command.{Command}
use Rattle.plx_commands.specs.declared.command.Command.TheVariants.{Attach, Detach, Create, Delete, Read, Write, Flush, Reserve, Renew, Retire, Reclaim}
use Rattle.plx_commands.specs.declared.entry.Entry.TheVariants as entry
use Rattle.plx_commands.specs.declared.event.Event.TheVariants as event
use Rattle.plx_commands.proofs.Accepted.{accepts-start, accepts-crash}
use Rattle.plx_commands.proofs.Places.{at-all, at-same, at-other}
use Rattle.plx_disk.specs.Writes.{Issued, after_time}
use Rattle.plx_geom.specs.Geometry.{image_lease, lease_at}
use Rattle.law_lease.proofs.Lists.{none-some}
use Rattle.plx_base.proofs.Tests.{nat_lt-true, nat_le-false}
use Rattle.plx_rules.specs.Boot.{Began, Place, Idle, place_after_begin}
use Rattle.plx_rules.specs.Commands.{IsBuilt, IsWellFormed}
use Rattle.plx_rules.specs.Headline.{model_before, model_in}
use Rattle.plx_rules.specs.Holds.{Held}
use Rattle.plx_rules.specs.Owners.{pending_write}
use Rattle.plx_rules.specs.Session.{Session, Known}
use Rattle.plx_rules.specs.Histories.{came}
use Rattle.plx_rules.specs.World.{World, Seat, with_surface, after_start, after_crash}
use Rattle.law_lease.proofs.LeaseFrames.{grip-open}
use Rattle.law_lease.proofs.LeaseSteps.{not-waiting}
use Rattle.law_lease.proofs.Leased.{grip_at, Leased}
use Rattle.law_lease.proofs.Open.{IsOpen, open-elsewhere, open-later}
use Rattle.law_headline.proofs.Content.{appliance_no, stands_at, PlaceFits, HasContent, OwnedAt, Minds, Whose, SeatFits, SeatHand, SeatOwns, Placed, WaitsAreMet, KeepsContent}
use Rattle.law_headline.proofs.ContentFrames.{place-unmoved, owned-foreign}
use Rattle.law_model.proofs.Foreign.{Foreign, foreign-start, foreign-back}
use Rattle.law_headline.proofs.Held.{ModelRuns, HasImage, IsOf}
use Rattle.law_headline.proofs.HeldBegins.{IsBegunChange}
use Rattle.law_headline.proofs.HeldCommands.{slot_no}
use Rattle.law_headline.proofs.HeldFrames.{keeps-foreign}
use Rattle.law_headline.proofs.Journals.{HoldsSlot}
use Rattle.law_model.proofs.ModelFacts.{sound-all, counts-all}
use Rattle.law_model.specs.Sound.{Sound}
use Rattle.law_model.proofs.Owners.{owns-own, disowned-not}
use Rattle.law_headline.proofs.PlacedByKind.{placed-moves}
use Rattle.law_model.proofs.Replied.{Names, changed-named, named-one, Unmoved, unmoved-started, unmoved-forgotten}

-- ---- time passes

pub tick-content : (w : World) (by : ℕ) → KeepsContent w → Leased (with_surface w (came (event.Tick by)) (after_time w.surface by)) → KeepsContent (with_surface w (came (event.Tick by)) (after_time w.surface by))
tick-content w by content leased = record {
  leased = leased;
  told = content.told;
  permitted = content.permitted;
  undamaged = content.undamaged;
  stored = content.stored;
  spelled = content.spelled;
  maps = content.maps;
  hands = content.hands;
  placed = λ home n x is op. content.placed home n x is (open-later w.geometry w.rests w.appliances w.surface.time by w.surface.writes w.seats home n x op);
  whose = λ i within n x op of. content.whose i within n x (open-later w.geometry w.rests w.appliances w.surface.time by w.surface.writes w.seats (image_lease i) n x op) of;
  waits = λ n x found all. content.waits n x found (λ lease under. open-later w.geometry w.rests w.appliances w.surface.time by w.surface.writes w.seats lease n x (all lease under));
  seats = content.seats;
  owned = λ i within a below minds. content.owned i within a below (elim minds [
    | inl grips ↦ inl (grips.0, grips.1, (grips.2.0, (let l = grips.2.1 in omega arith)))
    | inr mine ↦ inr mine
  ]);
}

-- ---- the model moves, and no write of the appliance is waited for

module _ (w : World) (content : KeepsContent w) (a : ℕ) (below : a < w.appliances) (n : Model) (unmoved : Unmoved a (model_in w) n) (foreign : (j : ℕ) → Foreign a ((model_in w).slots j) (n.slots j)) (sound : Sound n) (seat : Seat) (free : seat.pending ≡ None) where
  -- what is open was open before
  open-before : (i k : ℕ) (x : Issued) → IsOpen w.geometry w.rests w.appliances w.surface.time w.surface.writes (at w.seats a seat) (image_lease i) k x →
      IsOpen w.geometry w.rests w.appliances w.surface.time w.surface.writes w.seats (image_lease i) k x
  open-before i = open-elsewhere w.geometry w.rests w.appliances w.surface.time w.surface.writes w.seats (image_lease i) a seat free

  foreign-stored : (i : ℕ) → i < w.geometry.images → HoldsSlot w.geometry w.surface.device i (n.slots i)
  foreign-stored i within = keeps-foreign w.geometry i a w.surface.device ((model_in w).slots i) (n.slots i) (foreign i) (content.stored i within)

  foreign-placed : Placed w.geometry w.rests w.appliances w.surface.time w.surface.device w.surface.writes (at w.seats a seat) n.slots
  foreign-placed home k x is op =
      placed-moves x.kind w.geometry w.surface.device w.surface.device (model_in w).slots n.slots home x.block x.bytes (λ only. only)
      (λ keeps i within its. let old = keeps i within its in (old.0, (λ flags count. keeps-foreign w.geometry i a _ ((model_in w).slots i) (n.slots i) (foreign i) (old.1 flags count))))
      (content.placed home k x is (open-elsewhere w.geometry w.rests w.appliances w.surface.time w.surface.writes w.seats home a seat free k x op))

  foreign-waits : WaitsAreMet w.geometry w.rests w.appliances w.surface.time w.surface.device w.surface.writes (at w.seats a seat)
  foreign-waits k x found all = content.waits k x found (λ lease under. open-elsewhere w.geometry w.rests w.appliances w.surface.time w.surface.writes w.seats lease a seat free k x (all lease under))

  foreign-seats : SeatFits w.geometry n a seat → (b : ℕ) → b < w.appliances → SeatFits w.geometry n b (at w.seats a seat b)
  foreign-seats mine = at-all (λ b s. b < w.appliances → SeatFits w.geometry n b s) w.seats a seat (λ under. mine)
      (λ b ne under. let pb = stands_at w.geometry b (w.seats b) in place-unmoved w.geometry a b (model_in w) n pb pb.place ne unmoved (content.seats b under))

  foreign-hands : SeatHand w.geometry a seat → (b : ℕ) → b < w.appliances → SeatHand w.geometry b (at w.seats a seat b)
  foreign-hands mine = at-all (λ b s. b < w.appliances → SeatHand w.geometry b s) w.seats a seat (λ under. mine) (λ b ne under. content.hands b under)

  foreign-owned : ((i : ℕ) → i < w.geometry.images → SeatOwns w.geometry w.surface.time w.surface.device w.surface.writes n i a seat) →
      (i : ℕ) → i < w.geometry.images → (b : ℕ) → b < w.appliances → SeatOwns w.geometry w.surface.time w.surface.device w.surface.writes n i b (at w.seats a seat b)
  foreign-owned mine i within = at-all (λ b s. b < w.appliances → SeatOwns w.geometry w.surface.time w.surface.device w.surface.writes n i b s) w.seats a seat (λ under. mine i within)
      (λ b ne under minds. owned-foreign w.geometry a b i w.surface.device w.surface.writes (w.seats b).pending (model_in w) n ne unmoved (foreign i) (sound.differs i) _
      (content.owned i within b under (elim minds [ inl grips ↦ inl grips | inr theirs ↦ inr ((foreign i).owner b theirs) ])))

  foreign-whose : ((i : ℕ) → i < w.geometry.images → (k : ℕ) (x : Issued) → IsOpen w.geometry w.rests w.appliances w.surface.time w.surface.writes w.seats (image_lease i) k x → IsOf w.geometry i x.block → (n.slots i).owner ≡ Some a → ⊥) →
      (i : ℕ) → i < w.geometry.images → Whose w.geometry w.rests w.appliances w.surface.time w.surface.writes (at w.seats a seat) i (n.slots i)
  foreign-whose quiet i within k x op of b owns' = elim (eqb_tells b a) [
    | inl same ↦ absurd (quiet i within k x (open-before i k x op) of (owns' ∙ ap Some same.1))
    | inr away ↦ ap (λ (s : Seat). s.pending) (at-other w.seats a b seat away.1) ∙ content.whose i within k x (open-before i k x op) of b ((foreign i).owner b owns')
  ]

known-below : (w : World) (a : ℕ) → a < w.appliances → a < (model_in w).appliances
known-below w a below = let e = (counts-all w.geometry.images w.appliances w.trace).1 in omega (arith, e, below)

-- ---- an appliance crashes

pub crash-content : (w : World) (a : ℕ) → a < w.appliances → KeepsContent w → Leased (after_crash w (appliance_no a)) → KeepsContent (after_crash w (appliance_no a))
crash-content w a below content leased =
    let m = model_in w in
    let n = model_without_sessions m a in
    let permitted : Permitted (model_before w) (entry.Crash (appliance_no a) ∷ w.trace) = (accepts-crash m (appliance_no a) (known-below w a below), content.permitted) in
    let sound' : Sound n = sound-all w.geometry.images w.appliances (entry.Crash (appliance_no a) ∷ w.trace) permitted in
    let seat : Seat = record { boots = (w.seats a).boots + 1; log = []; pending = None } in
    let foreign : (j : ℕ) → Foreign a (m.slots j) (n.slots j) = λ j. foreign-back a (m.slots j) in
    let unmoved = unmoved-forgotten m a in
    record {
      leased = leased;
      told = ap (λ es. entry.Crash (appliance_no a) ∷ es) content.told;
      permitted = permitted;
      undamaged = content.undamaged;
      stored = foreign-stored w content a below n unmoved foreign sound' seat refl;
      spelled = content.spelled;
      maps = content.maps;
      hands = foreign-hands w content a below n unmoved foreign sound' seat refl (record { hand = λ extent within. refl; found = tt });
      placed = foreign-placed w content a below n unmoved foreign sound' seat refl;
      waits = foreign-waits w content a below n unmoved foreign sound' seat refl;
      seats = foreign-seats w content a below n unmoved foreign sound' seat refl
          (at-same m.running a None, (λ j. ap (λ (f : ℕ → Bool). f j) (at-same m.sessions a (λ k. false))), (λ k s is. absurd (let P : ⊥ = cc in P)));
      owned = foreign-owned w content a below n unmoved foreign sound' seat refl
          (λ i within minds. elim minds [ inl grips ↦ absurd (let e = grips.2.0 in let P : ⊥ = cc in P) | inr mine ↦ absurd (disowned-not (m.slots i).owner a mine) ]);
      whose = foreign-whose w content a below n unmoved foreign sound' seat refl (λ i within k x op of mine. disowned-not (m.slots i).owner a mine);
    }

-- ---- a command starts

-- a slot that the command doesn't name stays
started-away : (m : Model) (a : ℕ) (command : Command) (i : ℕ) (o : Option ℕ) → changed_slot command ≡ o → (Names command i → ⊥) → started_at m a command o i ≡ m.slots i
started-away m a command i None e away = refl
started-away m a command i (Some j) e away = by_test (begins_change m a command)
  where
    by_test : (b : Bool) → where_owned b m.slots j (under_way (m.slots j) (image_after (images_in m) j command)) i ≡ m.slots i
    by_test true = at-other m.slots j i (under_way (m.slots j) (image_after (images_in m) j command)) (λ is. away (named-one command j i (changed-named command j e) (sym is)))
    by_test false = refl

-- the owner's slot, once its command has started
record IsStarted (a : ℕ) (command : Command) (s t : Slot) : Type 0 where
  pub owner : t.owner ≡ Some a
  pub image : t.image ≡ s.image
  pub begun : IsBegunChange command s.image t.change

-- a change that is put under way, or one that no fact lets begin
started-change : (m : Model) (a i : ℕ) (command : Command) → (m.slots i).owner ≡ Some a → owns_all m a (named_slots command) ≡ true →
    (is_none (refusals m a command) ≡ true → IsBegunChange command (m.slots i).image (Some (image_after (images_in m) i command))) →
    (is_none (refusals m a command) ≡ false → IsBegunChange command (m.slots i).image (m.slots i).change) →
    IsStarted a command (m.slots i) (started_at m a command (Some i) i)
started-change m a i command owner owned fine refused = by_tests (owns_all m a (named_slots command)) (is_none (refusals m a command)) owned refl
  where
    by_tests : (b c : Bool) → b ≡ true → is_none (refusals m a command) ≡ c → IsStarted a command (m.slots i) (where_owned (b && c) m.slots i (under_way (m.slots i) (image_after (images_in m) i command)) i)
    by_tests false c e f = absurd (let P : ⊥ = cc in P)
    by_tests true true e f =
        let P : Slot → Type 0 = λ t. IsStarted a command (m.slots i) t in
        subst P (sym (at-same m.slots i (under_way (m.slots i) (image_after (images_in m) i command)))) (record { owner = owner; image = refl; begun = fine f })
    by_tests true false e f = record { owner = owner; image = refl; begun = refused f }

-- a test that is false and holds
never-both : {X : Type 0} (test : Bool) → test ≡ false → test ≡ true → X
never-both true e f = absurd (let P : ⊥ = cc in P)
never-both false e f = absurd (let P : ⊥ = cc in P)

owned-one : (m : Model) (a i : ℕ) → (m.slots i).owner ≡ Some a → owns_all m a (i ∷ []) ≡ true
owned-one m a i owner = ap (λ (b : Bool). b && true) (owns-own (m.slots i).owner a owner)

started-own : (m : Model) (a i : ℕ) (command : Command) → Names command i → (m.slots i).owner ≡ Some a → (m.slots i).change ≡ None → m.sessions a i ≡ true → i < m.images →
    IsStarted a command (m.slots i) (started_at m a command (changed_slot command) i)
started-own m a i (Attach j) names owner decided session within = record { owner = owner; image = refl; begun = decided }
started-own m a i (Detach j) names owner decided session within = record { owner = owner; image = refl; begun = decided }
started-own m a i (Read j v) names owner decided session within = record { owner = owner; image = refl; begun = decided }
started-own m a i (Flush j) names owner decided session within = record { owner = owner; image = refl; begun = decided }
started-own m a i (Create j size label) (inl is) owner decided session within =
    let P : ℕ → Type 0 = λ n. IsStarted a (Create (slot_no n) size label) (m.slots i) (started_at m a (Create (slot_no n) size label) (Some n) i) in
    subst P (sym is) (started-change m a i (Create (slot_no i) size label) owner (owned-one m a i owner) (λ fine dead fits young. refl)
    (λ refused dead fits young. never-both (is_none (refusals m a (Create (slot_no i) size label))) refused (rw (session, nat_lt-true i m.images within, dead, fits, young) refl)))
started-own m a i (Delete j) (inl is) owner decided session within =
    let P : ℕ → Type 0 = λ n. IsStarted a (Delete (slot_no n)) (m.slots i) (started_at m a (Delete (slot_no n)) (Some n) i) in
    subst P (sym is) (started-change m a i (Delete (slot_no i)) owner (owned-one m a i owner) (λ fine lives. refl)
    (λ refused lives. never-both (is_none (refusals m a (Delete (slot_no i)))) refused (rw (session, nat_lt-true i m.images within, lives) refl)))
started-own m a i (Write j v x) (inl is) owner decided session within =
    let P : ℕ → Type 0 = λ n. IsStarted a (Write (slot_no n) v x) (m.slots i) (started_at m a (Write (slot_no n) v x) (Some n) i) in
    subst P (sym is) (started-change m a i (Write (slot_no i) v x) owner (owned-one m a i owner) (λ fine lives less young. refl)
    (λ refused lives less young. never-both (is_none (refusals m a (Write (slot_no i) v x))) refused
    (rw (session, nat_lt-true i m.images within, lives, nat_le-false (m.slots i).image.size v less, young) refl)))
started-own m a i (Create j size label) (inr no') owner decided session within = absurd no'
started-own m a i (Delete j) (inr no') owner decided session within = absurd no'
started-own m a i (Write j v x) (inr no') owner decided session within = absurd no'
started-own m a i (Reserve count) names owner decided session within = absurd names
started-own m a i Renew names owner decided session within = absurd names
started-own m a i Retire names owner decided session within = absurd names
started-own m a i Reclaim names owner decided session within = absurd names

pub start-content : (w : World) (a : ℕ) (command : Command) (known : Known) → a < w.appliances → (stands_at w.geometry a (w.seats a)).place ≡ Idle known → IsWellFormed command → IsBuilt command →
    KeepsContent w → Leased (after_start w (appliance_no a) command) → KeepsContent (after_start w (appliance_no a) command)
start-content w a command known below here well built content leased =
    let g = w.geometry in
    let m = model_in w in
    let p = stands_at g a (w.seats a) in
    let n = model_after m (entry.Start (appliance_no a) command) in
    let fits : PlaceFits g a m p (Idle known) = (let P : Place → Type 0 = λ q. PlaceFits g a m p q in subst P here (content.seats a below)) in
    let permitted : Permitted (model_before w) (entry.Start (appliance_no a) command ∷ w.trace) = (accepts-start m (appliance_no a) command (known-below w a below) fits.0, content.permitted) in
    let sound : Sound m = sound-all g.images w.appliances w.trace content.permitted in
    let sound' : Sound n = sound-all g.images w.appliances (entry.Start (appliance_no a) command ∷ w.trace) permitted in
    let seat : Seat = record { boots = (w.seats a).boots; log = Began command ∷ (w.seats a).log; pending = None } in
    let foreign : (j : ℕ) → Foreign a (m.slots j) (n.slots j) = λ j. foreign-start m a command j sound fits.0 in
    let unmoved = unmoved-started m a command in
    let free = not-waiting g w.surface.time w.surface.writes a (w.seats a) (Idle known) (content.leased.seated a below) here (λ b x no'. no') in
    let running : ModelRuns g a command known n = record {
      placed = known-below w a below;
      images = (counts-all g.images w.appliances w.trace).0;
      runs = at-same m.running a (Some command);
      sessions = fits.1;
    } in
    record {
      leased = leased;
      told = ap (λ es. entry.Start (appliance_no a) command ∷ es) content.told;
      permitted = permitted;
      undamaged = content.undamaged;
      stored = foreign-stored w content a below n unmoved foreign sound' seat refl;
      spelled = content.spelled;
      maps = content.maps;
      hands = foreign-hands w content a below n unmoved foreign sound' seat refl (record { hand = (content.hands a below).hand; found = tt });
      placed = foreign-placed w content a below n unmoved foreign sound' seat refl;
      waits = foreign-waits w content a below n unmoved foreign sound' seat refl;
      seats = foreign-seats w content a below n unmoved foreign sound' seat refl
          (let P : Place → Type 0 = λ q. PlaceFits g a n (record p { sample = None; found = None; place = place_after_begin command q }) (place_after_begin command q) in
          subst P (sym here) (running, fits.2, well, built));
      owned = foreign-owned w content a below n unmoved foreign sound' seat refl
          (λ i within minds.
          let old : Minds g w.surface.time w.surface.writes m a (w.seats a) i = elim minds [
            | inl grips ↦
                let G : Option ℕ → Type 0 = λ o. grip_at p.place (pending_write w.surface.writes o) (lease_at (image_lease i)) (p.holds (lease_at (image_lease i))) ≡ Held grips.0 grips.1 in
                let held : p.holds (lease_at (image_lease i)) ≡ Held grips.0 grips.1 =
                sym (grip-open (place_after_begin command p.place) None (lease_at (image_lease i)) (p.holds (lease_at (image_lease i))) refl) ∙ grips.2.0 in
                inl (grips.0, grips.1, (subst G (sym free) (grip-open p.place None (lease_at (image_lease i)) (p.holds (lease_at (image_lease i))) refl ∙ held), grips.2.1))
            | inr mine ↦ inr ((foreign i).owner a mine)
          ] in
          let O : Place → Type 0 = λ q. OwnedAt g a i w.surface.device w.surface.writes (w.seats a).pending m q in
          let has : HasContent g a i known w.surface.device m = subst O here (content.owned i within a below old) in
          let P : Place → Type 0 = λ q. OwnedAt g a i w.surface.device w.surface.writes None n (place_after_begin command q) in
          subst P (sym here) (
            (λ names s is.
                let h = has s is in
                let images : m.images ≡ g.images = (counts-all g.images w.appliances w.trace).0 in
                let st = started-own m a i command names h.owner h.decided (fits.1 i ∙ ap (λ (o : Option Session). is_some o) is) (omega (arith, images, within)) in
                record {
                  image = (m.slots i).image;
                  change = (n.slots i).change;
                  looks = record { running = running; slot = (st.owner, st.image, refl); purpose = tt };
                  begun = st.begun;
                  journal = h.journal;
                  left = h.left;
                }),
            (λ away s is. let Q : Slot → Type 0 = λ t. HasImage g i a s w.surface.device t in subst Q (sym (started-away m a command i (changed_slot command) refl away)) (has s is)),
          ));
      whose = foreign-whose w content a below n unmoved foreign sound' seat refl
          (λ i within k x op of mine. none-some k (sym free ∙ content.whose i within k x op of a ((foreign i).owner a mine)));
    }
