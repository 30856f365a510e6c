-- What holds stays where an ask is answered: the command goes on, or it ends with a reply.
use Rattle.std.proofs.Common.{◌≡◌, ◌≢◌, ℕ, ◌<◌, ◌⊎◌, inl, inr, List, [], ◌∷◌, Bool, true, false, Option, Some, None, refl, ap, sym, subst, ◌∙◌}
use mathlib.Core.Path.{fun_ext}
use Rattle.std.specs.Prelude.{is_some}
use Rattle.std.proofs.lemmas.Bool.Decides.{eqb_tells}
use Rattle.plx_base.specs.Sectors.{Device}
use Rattle.plx_base.specs.declared.lease.Claim.{Claim}
use Rattle.plx_commands.specs.Judge.{Permitted}
use Rattle.plx_commands.specs.Model.{Model, Slot}
use Rattle.plx_commands.specs.Moves.{model_after_reply, replied_in, model_after}
use Rattle.plx_commands.specs.Places.{at}
use Rattle.plx_commands.specs.Replies.{number_of, ends_sessions}
use Rattle.plx_commands.specs.Slots.{named_slots}
use Rattle.plx_commands.specs.declared.command.Command.{Command}
use Rattle.plx_commands.specs.declared.command.Command.TheVariants.{Attach, Detach, Create, Delete, Read, Write, Flush, Reserve, Renew, Retire, Reclaim}
use Rattle.plx_commands.specs.declared.entry.Entry.{Entry}
use Rattle.plx_commands.specs.declared.entry.Entry.TheVariants as entry
use Rattle.plx_commands.specs.declared.event.Event.{Event}
use Rattle.plx_commands.specs.declared.reply.Reply.{Reply}
use Rattle.plx_commands.proofs.Accepted.{Answers, accepts-reply}
use Rattle.plx_commands.proofs.Places.{at-all, at-other}
use Rattle.plx_disk.specs.Writes.{Issued}
use Rattle.plx_geom.specs.Geometry.{Geometry, image_lease}
use Rattle.law_lease.proofs.Lists.{none-some}
use Rattle.plx_rules.specs.Process.{Process, Ends, ReadThen, WriteThen, ClockThen, UntilThen}
use Rattle.plx_rules.specs.Boot.{BootEntry, In, Configuration, configuration, goes_to}
use Rattle.plx_rules.specs.Ends.{End}
use Rattle.plx_rules.specs.Headline.{starts_and_crashes, events_told, IsUndamaged, model_before, model_in}
use Rattle.plx_rules.specs.Holds.{Hold}
use Rattle.plx_rules.specs.Session.{Session, Known}
use Rattle.plx_rules.specs.Histories.{came}
use Rattle.plx_rules.specs.World.{World, Seat, setting_at, with_reply_of}
use Rattle.law_lease.proofs.Leased.{Leased}
use Rattle.law_lease.proofs.Open.{IsOpen, open-elsewhere}
use Rattle.law_headline.proofs.Content.{appliance_no, stands_at, PlaceFits, HasContent, OwnedAt, Grips, Minds, Whose, SeatFits, SeatHand, SeatOwns, Placed, WaitsAreMet, KeepsContent}
use Rattle.law_headline.proofs.ContentFrames.{place-unmoved, owned-foreign, owned-taken, one-grip, grip-only}
use Rattle.law_model.proofs.Foreign.{Foreign}
use Rattle.law_headline.proofs.HandFacts.{NoMap, FoundMap, HandFits, no-map-filter}
use Rattle.law_headline.proofs.Harmless.{Harmless, Yields, harmless-answers, harmless-foreign, yields-answers, yields-stays, yields-foreign}
use Rattle.law_headline.proofs.Held.{attached_of, Regime, Without, With, ModelRuns, Looks, HasImage, IsOf, IsOn, HeldProcess, IsDrop, IsFairEnd, Fair}
use Rattle.law_headline.proofs.HeldCommands.{slot_no}
use Rattle.law_headline.proofs.HeldFrames.{keeps-foreign}
use Rattle.law_headline.proofs.Journals.{HoldsSlot}
use Rattle.law_model.proofs.ModelFacts.{sound-all}
use Rattle.law_model.specs.Sound.{Sound}
use Rattle.law_model.proofs.Owners.{owner-cases}
use Rattle.law_headline.proofs.PlacedByKind.{placed-moves}
use Rattle.law_model.proofs.Replied.{IsAmongSlots, Names, IsDropping, sessions_after, sessions_sorted, not-own, ending-refusal, sessions-replied, running-replied, unmoved-replied, away-same, away-foreign, replied-others, dropping-disowned, attach-left}

-- a command names an image, or doesn't
names-among : (i : ℕ) (slots : List ℕ) → (IsAmongSlots i slots) ⊎ (IsAmongSlots i slots → ⊥)
names-among i [] = inr (λ e. e)
names-among i (j ∷ others) = elim (eqb_tells j i) [
  | inl same ↦ inl (inl same.1)
  | inr away ↦ elim (names-among i others) [ inl later ↦ inl (inr later) | inr none ↦ inr (λ e. elim e [ inl here ↦ away.1 here | inr later ↦ none later ]) ]
]

pub names-or : (command : Command) (i : ℕ) → (Names command i) ⊎ (Names command i → ⊥)
names-or command i = names-among i (named_slots command)

-- no command names two images yet
one-slot : (k i j : ℕ) → IsAmongSlots i (k ∷ []) → IsAmongSlots j (k ∷ []) → i ≡ j
one-slot k i j (inl one) (inl two) = sym one ∙ two
one-slot k i j (inr one) two = absurd one
one-slot k i j (inl one) (inr two) = absurd two

pub names-same : (command : Command) (i j : ℕ) → Names command i → Names command j → i ≡ j
names-same (Attach k) i j one two = one-slot k.0 i j one two
names-same (Detach k) i j one two = one-slot k.0 i j one two
names-same (Create k size label) i j one two = one-slot k.0 i j one two
names-same (Delete k) i j one two = one-slot k.0 i j one two
names-same (Read k v) i j one two = one-slot k.0 i j one two
names-same (Write k v x) i j one two = one-slot k.0 i j one two
names-same (Flush k) i j one two = one-slot k.0 i j one two
names-same (Reserve count) i j one two = absurd one
names-same Renew i j one two = absurd one
names-same Retire i j one two = absurd one
names-same Reclaim i j one two = absurd one

-- after a reply that drops all, there is no session
pub dropping-false : (r : Reply) (command : Command) (f : ℕ → Bool) (k : ℕ) → IsDropping r → sessions_after command r f k ≡ false
dropping-false r command f k drops =
    ap (λ (b : Bool). sessions_sorted b (ends_sessions (number_of r)) command f k) (not-own command r (ending-refusal (number_of r) drops).0)
    ∙ ap (λ (b : Bool). sessions_sorted false b command f k) drops

dropping-or : (r : Reply) → (IsDropping r) ⊎ (ends_sessions (number_of r) ≡ false)
dropping-or r = by_flag (ends_sessions (number_of r))
  where
    by_flag : (b : Bool) → (b ≡ true) ⊎ (b ≡ false)
    by_flag true = inl refl
    by_flag false = inr refl

both-ways : {X : Type 0} (r : Reply) → IsDropping r → ends_sessions (number_of r) ≡ false → X
both-ways r drops stays = absurd (let e : true ≡ false = sym drops ∙ stays in let P : ⊥ = cc in P)

module _ (w : World) (content : KeepsContent w) (a : ℕ) (below : a < w.appliances) (event : Event) (log : List BootEntry) (known : Known) (command : Command)
    (holds : ℕ → Hold) (sample : Option ℕ) (just : Bool) where
  abbrev g : Geometry
  g = w.geometry

  abbrev time : ℕ
  time = w.surface.time

  abbrev device : Device
  device = w.surface.device

  abbrev writes : List Issued
  writes = w.surface.writes

  abbrev m : Model
  m = model_in w

  abbrev seat' : Seat
  seat' = record { boots = (w.seats a).boots; log = log; pending = None }

  -- the world after the answer, with this trace
  abbrev pub went_to : List Entry → World
  went_to trace = record w {
    seats = at w.seats a (record { boots = (w.seats a).boots; log = log; pending = None });
    trace = trace;
    history = came event ∷ w.history;
  }

  -- the command's reply is harmless, and leaves no session of the image
  abbrev pub NoSession : Process End → ℕ → Type 0
  NoSession (Ends end) i = Harmless g.images (attached_of known) command end.reply × (end.known.sessions i ≡ None) × IsUndamaged end.reply
  NoSession process i = ⊥

  -- what is left of the command is right for the image's owner
  abbrev pub IsRightFor : Process End → ℕ → Type 0
  IsRightFor process i = (regime : Regime) × Looks g a i command known regime m × HeldProcess g a i command known regime process device × IsOn g i device regime

  -- the command serves the image, or ends for want of a session
  abbrev pub Serves : Process End → ℕ → Type 0
  Serves process i = IsRightFor process i ⊎ NoSession process i

  -- what the boot's image is, once it holds the lease
  abbrev pub Owned : Process End → Type 0
  Owned process = (i : ℕ) → i < g.images → Minds g time writes m a seat' i →
      (Names command i → Serves process i) × ((Names command i → ⊥) → HasContent g a i known device m)

  -- what is open after the answer was open before
  open-before : (i k : ℕ) (x : Issued) → IsOpen g w.rests w.appliances time writes (at w.seats a seat') (image_lease i) k x → IsOpen g w.rests w.appliances time writes w.seats (image_lease i) k x
  open-before i = open-elsewhere g w.rests w.appliances time writes w.seats (image_lease i) a seat' refl

  waits-stay : WaitsAreMet g w.rests w.appliances time device writes (at w.seats a seat')
  waits-stay k x found all = content.waits k x found (λ lease under. open-elsewhere g w.rests w.appliances time writes w.seats lease a seat' refl k x (all lease under))

  -- nothing of what the boot's appliance owns in the model is open after the answer
  abbrev pub LeavesNoneOpen : Type 0
  LeavesNoneOpen = (i : ℕ) → i < g.images → (k : ℕ) (x : Issued) → IsOpen g w.rests w.appliances time writes (at w.seats a seat') (image_lease i) k x → IsOf g i x.block → (m.slots i).owner ≡ Some a → ⊥

  -- directly after a reading below the end of the named image's lease
  pub record IsJust (process : Process End) : Type 0 where
    pub image : ℕ
    pub within : image < g.images
    pub names : Names command image
    pub serves : Serves process image
    pub claim : Claim
    pub until : ℕ
    pub grips : Grips g time writes a (w.seats a) image claim until
    pub free : (w.seats a).pending ≡ None

  module _ (said : starts_and_crashes w.trace ≡ events_told (came event ∷ w.history)) (running : ModelRuns g a command known m) where
    -- the command goes on
    content-on : (process : Process End) (hand : List ℕ) (filled : List (ℕ × List ℕ)) (found : Option (ℕ × List ℕ)) {latest : ℕ} → NoMap g hand → FoundMap g found → Leased (went_to w.trace) →
        configuration (setting_at g a (w.seats a).boots) log ≡ record { holds = holds; hand = hand; filled = filled; sample = sample; found = found; latest = latest; place = In known command process } → Fair g a command known holds sample false process →
        ((i : ℕ) → i < g.images → Minds g time writes m a seat' i →
        (Names command i → IsRightFor process i) × ((Names command i → ⊥) → HasContent g a i known device m)) → LeavesNoneOpen →
        KeepsContent (went_to w.trace)
    content-on process hand filled found none read leased leads fair own quiet = record {
      leased = leased;
      told = said;
      permitted = content.permitted;
      undamaged = content.undamaged;
      stored = content.stored;
      spelled = content.spelled;
      maps = content.maps;
      hands = at-all (λ b s. b < w.appliances → SeatHand g b s) w.seats a seat'
          (λ under. let P : Configuration → Type 0 = λ q. HandFits g q in subst P (sym leads) (record { hand = none; found = read }))
          (λ b ne under. content.hands b under);
      placed = λ home k x is op. content.placed home k x is (open-elsewhere g w.rests w.appliances time writes w.seats home a seat' refl k x op);
      waits = waits-stay;
      whose = λ i within k x op of b owns'. elim (eqb_tells b a) [
        | inl same ↦ absurd (quiet i within k x op of (owns' ∙ ap Some same.1))
        | inr away ↦ ap (λ (s : Seat). s.pending) (at-other w.seats a b seat' away.1) ∙ content.whose i within k x (open-before i k x op) of b owns'
      ];
      seats = at-all (λ b s. b < w.appliances → SeatFits g m b s) w.seats a seat'
          (λ under. let P : Configuration → Type 0 = λ q. PlaceFits g a m q q.place in subst P (sym leads) (running, fair))
          (λ b ne under. content.seats b under);
      owned = λ i within. at-all (λ b s. b < w.appliances → SeatOwns g time device writes m i b s) w.seats a seat'
          (λ under minds.
          let mine = own i within minds in
          let P : Configuration → Type 0 = λ q. OwnedAt g a i device writes None m q.place in
          subst P (sym leads) (
            (λ names. (let s = mine.0 names in record { regime = s.0; looks = s.1; held = s.2; on = s.3; fills = λ n x e. absurd (none-some n e) })),
            mine.1,
          ))
          (λ b ne under. content.owned i within b under);
    }

    -- the command ends
    module _ (end : End) (hand : List ℕ) (filled : List (ℕ × List ℕ)) (found : Option (ℕ × List ℕ)) {latest : ℕ} (none : NoMap g hand) (read : FoundMap g found) (leased : Leased (went_to (entry.Reply (appliance_no a) end.reply ∷ w.trace))) (leads : configuration (setting_at g a (w.seats a).boots) log ≡ goes_to g known command holds hand filled sample found latest (Ends end))
        (fair : IsFairEnd g command known holds just end) (own : Owned (Ends end)) (quiet : LeavesNoneOpen ⊎ IsDropping end.reply) (now : just ≡ true → IsJust (Ends end)) where
      abbrev n : Model
      n = model_after_reply m a command end.reply

      is-model : model_after m (entry.Reply (appliance_no a) end.reply) ≡ n
      is-model = ap (λ (r : Option Command). replied_in m a r end.reply) running.runs

      sound : Sound m
      sound = sound-all w.geometry.images w.appliances w.trace content.permitted

      -- every slot is as others leave it; or the reply is the owner's
      abbrev IsOwners : Type 0
      IsOwners = (i : ℕ) × (i < g.images) × Names command i × (IsRightFor (Ends end) i) × ((claim : Claim) × (until : ℕ) × Grips g time writes a (w.seats a) i claim until) × ((w.seats a).pending ≡ None)

      replies-how : (Harmless g.images (attached_of known) command end.reply) ⊎ (IsOwners ⊎ Yields command end.reply)
      replies-how = elim fair.allowed [
        | inl fine ↦ inl fine
        | inr rest ↦ elim rest [
          | inl is ↦
              let j = now is in
              elim j.serves [ inl held ↦ inr (inl (j.image, j.within, j.names, held, (j.claim, j.until, j.grips), j.free)) | inr none ↦ inl none.0 ]
          | inr yields ↦ inr (inr yields)
        ]
      ]

      answers : Answers m a command end.reply
      answers = elim replies-how [
        | inl fine ↦ harmless-answers g.images (attached_of known) m a fine (fun_ext running.sessions) running.images
        | inr rest ↦ elim rest [ inl owner ↦ (owner.3.2 m owner.3.1).0 | inr yields ↦ yields-answers m a yields ]
      ]

      undamaged' : IsUndamaged end.reply
      undamaged' = elim fair.clean [
        | inl fine ↦ fine
        | inr is ↦ (let j = now is in elim j.serves [ inl held ↦ (held.2 m held.1).3 | inr none ↦ none.2 ])
      ]

      permitted' : Permitted (model_before w) (entry.Reply (appliance_no a) end.reply ∷ w.trace)
      permitted' = (accepts-reply m (appliance_no a) command end.reply running.placed running.runs answers, content.permitted)

      sound' : Sound n
      sound' = subst Sound is-model (sound-all w.geometry.images w.appliances (entry.Reply (appliance_no a) end.reply ∷ w.trace) permitted')

      -- a slot whose owner isn't this appliance
      abbrev IsGripped : ℕ → Type 0
      IsGripped j = (claim : Claim) × (until : ℕ) × Grips g time writes a (w.seats a) j claim until

      abbrev IsClosed : ℕ → Type 0
      IsClosed j = (k : ℕ) (x : Issued) → IsOpen g w.rests w.appliances time writes (at w.seats a seat') (image_lease j) k x → IsOf g j x.block → ⊥

      foreign-or : (j : ℕ) → j < g.images → (Foreign a (m.slots j) (n.slots j)) ⊎ ((IsRightFor (Ends end) j) × IsClosed j × (IsGripped j ⊎ ((m.slots j).owner ≡ Some a)))
      foreign-or j within = elim replies-how [
        | inl fine ↦ inl (harmless-foreign g.images (attached_of known) m a fine sound (fun_ext running.sessions) j)
        | inr rest ↦ elim rest [
          | inl owner ↦ elim (names-or command j) [
            | inl names ↦
                let same : owner.0 ≡ j = names-same command owner.0 j owner.2 names in
                let P : ℕ → Type 0 = λ k. (IsRightFor (Ends end) k) × IsGripped k in
                let o = subst P same (owner.3, owner.4) in
                inr (o.0, (λ k x op of. none-some k (sym owner.5 ∙ grip-only w content.leased j a within below o.1.0 o.1.1 o.1.2 k x (open-before j k x op))), inl o.1)
            | inr away ↦ inl (away-foreign m a command end.reply j away)
          ]
          | inr yields ↦ elim (owner-cases (m.slots j).owner a) [
            | inl mine ↦ elim (names-or command j) [
              | inl names ↦ elim ((own j within (inr mine.1)).0 names) [
                | inl held ↦ inr (
                  held,
                  (λ k x op of. elim quiet [
                    | inl still ↦ still j within k x op of mine.1
                    | inr drops ↦ both-ways end.reply drops (yields-stays yields)
                  ]),
                  inr mine.1,
                )
                | inr none ↦ inl (harmless-foreign g.images (attached_of known) m a none.0 sound (fun_ext running.sessions) j)
              ]
              | inr away ↦ inl (away-foreign m a command end.reply j away)
            ]
            | inr ne ↦ inl (yields-foreign m a yields j ne.1)
          ]
        ]
      ]

      sessions-are : (j : ℕ) → n.sessions a j ≡ is_some (end.known.sessions j)
      sessions-are j =
          let before : m.sessions a ≡ attached_of known = fun_ext running.sessions in
          ap (λ (f : ℕ → Bool). f j) (sessions-replied m a command end.reply) ∙ (ap (λ (f : ℕ → Bool). sessions_after command end.reply f j) before ∙ sym (fair.kept j))

      -- what the appliance has of an image after its reply
      has-from : (i : ℕ) → i < g.images → (Names command i → Serves (Ends end) i) × ((Names command i → ⊥) → HasContent g a i known device m) → HasContent g a i end.known device n
      has-from i within mine s is =
          elim (names-or command i) [
            | inl names ↦ elim (mine.0 names) [
              | inl held ↦ (held.2 m held.1).2 s is
              | inr none ↦ absurd (let e : None ≡ Some s = sym none.1 ∙ is in let P : ⊥ = cc in P)
            ]
            | inr away ↦ elim (dropping-or end.reply) [
              | inl drops ↦
                  absurd (let e : true ≡ false = sym (ap (λ (o : Option Session). is_some o) is) ∙ (fair.kept i ∙ dropping-false end.reply command (attached_of known) i drops) in let P : ⊥ = cc in P)
              | inr keeps ↦ elim (fair.away i away) [
                | inl same ↦
                    let P : Slot → Type 0 = λ t. HasImage g i a s device t in
                    subst P (sym (away-same m a command end.reply i away keeps)) (mine.1 away s (sym same ∙ is))
                | inr drops ↦ both-ways end.reply drops keeps
              ]
            ]
          ]

      has-after : (i : ℕ) → i < g.images → Minds g time writes n a seat' i → HasContent g a i end.known device n
      has-after i within (inl grips) s is = has-from i within (own i within (inl grips)) s is
      has-after i within (inr mine) s is = elim (foreign-or i within) [
        | inl foreign ↦ has-from i within (own i within (inr (foreign.owner a mine))) s is
        | inr owner ↦ (owner.0.2 m owner.0.1).2 s is
      ]

      -- what another boot minds is left to it
      left-to : (i : ℕ) → i < g.images → (b : ℕ) → b ≢ a → b < w.appliances → IsRightFor (Ends end) i → IsGripped i → Minds g time writes n b (w.seats b) i → Foreign a (m.slots i) (n.slots i)
      left-to i within b ne under held gripped minds = by_minds minds
        where
          by_regime : (regime : Regime) → Looks g a i command known regime m → (n.slots i).owner ≡ Some b → Foreign a (m.slots i) (n.slots i)
          by_regime (With image change) looks theirs =
              let before : (m.slots i).owner ≡ Some b = replied-others m a command end.reply i b ne theirs in
              absurd (ne (let f : Some b ≡ Some a = sym before ∙ looks.slot.0 in cc))
          by_regime (Without kept ws) looks theirs =
              let P : Command → Type 0 = λ c. ((model_after_reply m a c end.reply).slots i).owner ≡ Some b → Foreign a (m.slots i) ((model_after_reply m a c end.reply).slots i) in
              subst P (sym looks.purpose) (attach-left m a (slot_no i) end.reply b ne) theirs

          by_minds : Minds g time writes n b (w.seats b) i → Foreign a (m.slots i) (n.slots i)
          by_minds (inl grips) = absurd (ne (one-grip w content.leased i b a within under below grips.0 gripped.0 grips.1 gripped.1 grips.2 gripped.2))
          by_minds (inr theirs) = by_regime held.0 held.1 theirs

      minds-back : (i b : ℕ) → Foreign a (m.slots i) (n.slots i) → Minds g time writes n b (w.seats b) i → Minds g time writes m b (w.seats b) i
      minds-back i b foreign (inl grips) = inl grips
      minds-back i b foreign (inr theirs) = inr (foreign.owner b theirs)

      others : (i : ℕ) → i < g.images → (b : ℕ) → b ≢ a → (under : b < w.appliances) → Minds g time writes n b (w.seats b) i →
          OwnedAt g b i device writes (w.seats b).pending n (stands_at g b (w.seats b)).place
      others i within b ne under minds = elim (foreign-or i within) [
        | inl foreign ↦ still' foreign
        | inr owner ↦ elim owner.2 [
          | inl gripped ↦ still' (left-to i within b ne under owner.0 gripped minds)
          | inr mine ↦
              owned-taken g content.leased.geometry.slots_high a b i device writes (w.seats b).pending m n ne (unmoved-replied m a command end.reply) mine
              (owner.0.2 m owner.0.1).1 (sound'.differs i) _
              (content.owned i within b under (elim minds [ inl grips ↦ inl grips | inr theirs ↦ inr (replied-others m a command end.reply i b ne theirs) ]))
        ]
      ]
        where
          still' : Foreign a (m.slots i) (n.slots i) → OwnedAt g b i device writes (w.seats b).pending n (stands_at g b (w.seats b)).place
          still' foreign = owned-foreign g a b i device writes (w.seats b).pending m n ne (unmoved-replied m a command end.reply) foreign (sound'.differs i) _
              (content.owned i within b under (minds-back i b foreign minds))

      content-replied : KeepsContent (went_to (entry.Reply (appliance_no a) end.reply ∷ w.trace))
      content-replied =
          record {
            leased = leased;
            told = said;
            permitted = permitted';
            undamaged = (undamaged', content.undamaged);
            spelled = content.spelled;
            maps = content.maps;
            hands = at-all (λ b s. b < w.appliances → SeatHand g b s) w.seats a seat'
                (λ under. let P : Configuration → Type 0 = λ q. HandFits g q in subst P (sym leads) (record { hand = no-map-filter g _ hand none; found = read }))
                (λ b ne under. content.hands b under);
            stored = λ i within.
                let P : Model → Type 0 = λ x. HoldsSlot g device i (x.slots i) in
                subst P (sym is-model) (elim (foreign-or i within) [
                  | inl foreign ↦ keeps-foreign g i a device (m.slots i) (n.slots i) foreign (content.stored i within)
                  | inr owner ↦ (owner.0.2 m owner.0.1).1
                ]);
            waits = waits-stay;
            placed =
                let P : Model → Type 0 = λ x. Placed g w.rests w.appliances time device writes (at w.seats a seat') x.slots in
                subst P (sym is-model) (λ home k x is op. placed-moves x.kind g device device m.slots n.slots home x.block x.bytes (λ only. only)
                (λ keeps i within its.
                let old = keeps i within its in (
                  old.0,
                  elim (foreign-or i within) [
                    | inl foreign ↦ (λ flags count. keeps-foreign g i a _ (m.slots i) (n.slots i) foreign (old.1 flags count))
                    | inr owner ↦ absurd (let O : ℕ → Type 0 = λ l. IsOpen g w.rests w.appliances time writes (at w.seats a seat') l k x in owner.1 k x (subst O its op) old.0)
                  ],
                ))
                (content.placed home k x is (open-elsewhere g w.rests w.appliances time writes w.seats home a seat' refl k x op)));
            whose = λ i within.
                let P : Model → Type 0 = λ x. Whose g w.rests w.appliances time writes (at w.seats a seat') i (x.slots i) in
                subst P (sym is-model) (λ k x op of b owns'. elim (foreign-or i within) [
                  | inl foreign ↦
                      let before = foreign.owner b owns' in
                      elim (eqb_tells b a) [
                        | inl same ↦ elim quiet [
                          | inl still ↦ absurd (still i within k x op of (before ∙ ap Some same.1))
                          | inr drops ↦ absurd (dropping-disowned m a command end.reply drops i (owns' ∙ ap Some same.1))
                        ]
                        | inr away ↦ ap (λ (s : Seat). s.pending) (at-other w.seats a b seat' away.1) ∙ content.whose i within k x (open-before i k x op) of b before
                      ]
                  | inr owner ↦ absurd (owner.1 k x op of)
                ]);
            seats =
                let P : Model → Type 0 = λ x. (b : ℕ) → b < w.appliances → SeatFits g x b (at w.seats a seat' b) in
                subst P (sym is-model) (at-all (λ b s. b < w.appliances → SeatFits g n b s) w.seats a seat'
                (λ under. let Q : Configuration → Type 0 = λ q. PlaceFits g a n q q.place in subst Q (sym leads) (running-replied m a command end.reply, sessions-are, fair.backs))
                (λ b ne under. let pb = stands_at g b (w.seats b) in
                place-unmoved g a b m n pb pb.place ne (unmoved-replied m a command end.reply) (content.seats b under)));
            owned = λ i within.
                let P : Model → Type 0 = λ x. (b : ℕ) → b < w.appliances → SeatOwns g time device writes x i b (at w.seats a seat' b) in
                subst P (sym is-model) (at-all (λ b s. b < w.appliances → SeatOwns g time device writes n i b s) w.seats a seat'
                (λ under minds. let Q : Configuration → Type 0 = λ q. OwnedAt g a i device writes None n q.place in subst Q (sym leads) (has-after i within minds))
                (λ b ne under minds. others i within b ne under minds));
          }

    -- an ask was answered
    only-held : (process : Process End) → ((i : ℕ) → NoSession process i → ⊥) → Owned process → (i : ℕ) → i < g.images → Minds g time writes m a seat' i →
        (Names command i → IsRightFor process i) × ((Names command i → ⊥) → HasContent g a i known device m)
    only-held process none own i within minds =
        let mine = own i within minds in (λ names. elim (mine.0 names) [ inl held ↦ held | inr no' ↦ absurd (none i no') ], mine.1)

    still : LeavesNoneOpen ⊎ ⊥ → LeavesNoneOpen
    still (inl quiet) = quiet
    still (inr no') = absurd no'

    pub content-went : (process : Process End) (hand : List ℕ) (filled : List (ℕ × List ℕ)) (found : Option (ℕ × List ℕ)) {latest : ℕ} → NoMap g hand → FoundMap g found → Leased (went_to (with_reply_of (appliance_no a) process w.trace)) →
        configuration (setting_at g a (w.seats a).boots) log ≡ goes_to g known command holds hand filled sample found latest process → Fair g a command known holds sample just process →
        Owned process → LeavesNoneOpen ⊎ IsDrop process → (just ≡ true → IsJust process) → KeepsContent (went_to (with_reply_of (appliance_no a) process w.trace))
    content-went (Ends end) hand filled found none read leased leads fair own quiet now = content-replied end hand filled found none read leased leads fair own quiet now
    content-went (ReadThen block rest fault) hand filled found none read leased leads fair own quiet now =
        content-on (ReadThen block rest fault) _ _ found (no-map-filter g _ hand none) read leased leads fair (only-held (ReadThen block rest fault) (λ i e. e) own) (still quiet)
    content-went (WriteThen what block bytes guard done fault missed) hand filled found none read leased leads fair own quiet now =
        content-on (WriteThen what block bytes guard done fault missed) _ _ found (no-map-filter g _ hand none) read leased leads fair (only-held (WriteThen what block bytes guard done fault missed) (λ i e. e) own) (still quiet)
    content-went (ClockThen rest) hand filled found none read leased leads fair own quiet now = content-on (ClockThen rest) _ _ found (no-map-filter g _ hand none) read leased leads fair (only-held (ClockThen rest) (λ i e. e) own) (still quiet)
    content-went (UntilThen from rest) hand filled found none read leased leads fair own quiet now = content-on (UntilThen from rest) _ _ found (no-map-filter g _ hand none) read leased leads fair (only-held (UntilThen from rest) (λ i e. e) own) (still quiet)
