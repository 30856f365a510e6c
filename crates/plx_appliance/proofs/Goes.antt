-- A command that goes on, or ends, after an answer.
use Rattle.std.proofs.Common.{◌≡◌, ℕ, ◌<◌, List, [], ◌∷◌, Option, Some, None, refl, sym, ap, ◌∙◌, subst}
use Rattle.std.specs.Prelude.{Bool, true, false, nat_le, if◌then◌else◌}
use Rattle.plx_commands.specs.declared.reply.Reply.{Reply}
use Rattle.plx_commands.specs.declared.reply.Reply.TheVariants as reply
use Rattle.plx_disk.specs.declared.ask.Ask.TheVariants as ask
use Rattle.plx_disk.specs.declared.ask.Answer.TheVariants as answer
use Rattle.plx_geom.specs.Geometry.{Geometry, lease_at, lease_count}
use Rattle.plx_rules.specs.Process.{Process, Ends, ReadThen, WriteThen, ClockThen, UntilThen}
use Rattle.plx_token.specs.declared.held.Held.{Held as Token}
use Rattle.plx_token.specs.declared.kind.Image.{Image}
use Rattle.plx_rules.specs.Boot.{first_process as first_asks}
use Rattle.plx_rules.specs.Boot.{Configuration, Idle, In, BootEntry, Asked, after_process, goes_to, place_of, configuration, replies, replies_at, reply_of, went_on}
use Rattle.plx_rules.specs.Commands.{command_process}
use Rattle.plx_rules.specs.Ends.{End, ends}
use Rattle.plx_rules.specs.Hands.{hand_held}
use Rattle.plx_rules.specs.Holds.{Hold, Nothing, Seen, Wrote, Waited, Held, after_first, holds_after_reply, first_hold, session_at}
use Rattle.plx_rules.specs.Machines.{Asks}
use Rattle.plx_rules.specs.Session.{Known, Session}
use Rattle.plx_rules.specs.Settings.{Setting}
use Rattle.plx_appliance.specs.Appliance.{HasBegun, IsInWork}
use Rattle.plx_appliance.specs.Begins.{waiting_process}
use Rattle.plx_appliance.specs.AfterReply.{hand_after_reply, leases_after}
use Rattle.plx_session.specs.Ending.{known_after}
use Rattle.plx_appliance.specs.Holding.{HoldsAs, first_extents, first_leases, hold_without_claim}
use Rattle.plx_appliance.specs.Lent.{Lent}
use Rattle.plx_appliance.specs.Space.{AreWithin, held_hand}
use Rattle.plx_appliance.specs.Works.{Inside, StartsInside, work_rest, work_setting}
use Rattle.plx_appliance.specs.Tokens.{lease_holds_at, image_leases}
use Rattle.plx_appliance.specs.declared.begun.Begun.{Begun}
use Rattle.plx_appliance.specs.declared.work.Work.{Work}
use Rattle.plx_appliance.proofs.Answered.{lawful}
use Rattle.plx_appliance.proofs.First.{begun-agrees, first-agrees, holds-asks, place-asks}
use Rattle.plx_appliance.proofs.Held.{nothing-at}
use Rattle.plx_appliance.proofs.InHand.{hand-as, reply-hand}

-- after a reply
pub reply-holds : (g : Geometry) (leases extents : ℕ → Hold) (holds : ℕ → Hold) (r : Reply) → HoldsAs g leases extents holds →
    HoldsAs g (leases_after r leases) (leases_after r extents) (holds_after_reply r holds)
reply-holds g leases extents holds (reply.Attached report) h = h
reply-holds g leases extents holds reply.Detached h = h
reply-holds g leases extents holds reply.Created h = h
reply-holds g leases extents holds reply.Deleted h = h
reply-holds g leases extents holds (reply.Data payload) h = h
reply-holds g leases extents holds (reply.Written number) h = h
reply-holds g leases extents holds (reply.Flushed applied blocks) h = h
reply-holds g leases extents holds reply.Reserved h = h
reply-holds g leases extents holds reply.Renewed h = h
reply-holds g leases extents holds reply.Retired h = h
reply-holds g leases extents holds (reply.Reclaimed covered freed reads) h = h
reply-holds g leases extents holds reply.NotAttached h = h
reply-holds g leases extents holds reply.AlreadyAttached h = h
reply-holds g leases extents holds reply.NoImage h = h
reply-holds g leases extents holds reply.Exists h = h
reply-holds g leases extents holds (reply.OutOfRange size) h = h
reply-holds g leases extents holds (reply.Busy lease seen) h = h
reply-holds g leases extents holds (reply.Lost lease until reading) h = λ lease within. nothing-at g (lease_at lease)
reply-holds g leases extents holds (reply.ReadFault block) h = h
reply-holds g leases extents holds (reply.WriteFault block) h = h
reply-holds g leases extents holds reply.Full h = h
reply-holds g leases extents holds (reply.Damaged block) h = h
reply-holds g leases extents holds (reply.WornOut count) h = h

-- the configuration after the first reading of a command
abbrev first_moves : (s : Setting) (known : Known) (b : Begun) (log : List BootEntry) (reading : ℕ) → HasBegun s known b (configuration s log) → Configuration
first_moves s known b log reading h =
    goes_to s.geometry known h.command (after_first s.geometry known reading (configuration s log).holds) (configuration s log).hand [] (Some reading) None reading
    (first_asks s known reading h.command (configuration s log))

first-moved : (s : Setting) (known : Known) (b : Begun) (log : List BootEntry) (reading : ℕ) (h : HasBegun s known b (configuration s log)) →
    configuration s (Asked ask.Clock [] (answer.Reading reading) ∷ log) ≡ first_moves s known b log reading h
first-moved s known b log reading h = ap (λ place. went_on s ask.Clock [] (answer.Reading reading) (configuration s log) place) h.place_is

-- a first reading leaves leases that are held
first-is-settled : (session : Option Session) (reading : ℕ) (hold : Hold) → hold_without_claim (first_hold session reading hold) ≡ first_hold session reading hold
first-is-settled None reading Nothing = refl
first-is-settled None reading (Seen sample) = refl
first-is-settled None reading (Wrote claim until) = refl
first-is-settled None reading (Waited claim until) = refl
first-is-settled None reading (Held claim until) = by_test (nat_le until reading)
  where
    by_test : (b : Bool) → hold_without_claim (if b then Nothing else Held claim until) ≡ (if b then Nothing else Held claim until)
    by_test true = refl
    by_test false = refl
first-is-settled (Some session) reading Nothing = refl
first-is-settled (Some session) reading (Seen sample) = refl
first-is-settled (Some session) reading (Wrote claim until) = refl
first-is-settled (Some session) reading (Waited claim until) = refl
first-is-settled (Some session) reading (Held claim until) = refl

-- what is in hand after it, by the leases that are kept
first-hand : (g : Geometry) (known : Known) (reading : ℕ) (leases extents holds : ℕ → Hold) (hand : List ℕ) → HoldsAs g leases extents holds → AreWithin g hand →
    hand_held g (after_first g known reading holds) hand ≡ held_hand g (first_extents reading extents) hand
first-hand g known reading leases extents holds hand held within =
    hand-as g (first_leases known reading leases) (first_extents reading extents) (after_first g known reading holds) hand
    (λ lease low. first-is-settled (session_at g known (lease_at lease)) reading (holds (lease_at lease)) ∙ first-agrees g known reading leases extents holds held lease low) within

-- what it asks then
first-process : (s : Setting) (known : Known) (b : Begun) (p : Configuration) (reading : ℕ) (leases extents : ℕ → Hold) (hand : List ℕ) (h : HasBegun s known b p) →
    HoldsAs s.geometry leases extents p.holds → p.hand ≡ hand → AreWithin s.geometry hand →
    first_asks s known reading h.command p
    ≡ waiting_process s known (lease_holds_at s.geometry (first_leases known reading leases) (first_extents reading extents)) (held_hand s.geometry (first_extents reading extents) hand) reading b
first-process s known b p reading leases extents hand h held is within =
    let holds = after_first s.geometry known reading p.holds in
    ap (λ (l : List ℕ). command_process s known holds (hand_held s.geometry holds l) reading h.command) is
    ∙ ap (λ (l : List ℕ). command_process s known holds l reading h.command) (first-hand s.geometry known reading leases extents p.holds hand held within)
    ∙ sym (h.process_is holds (held_hand s.geometry (first_extents reading extents) hand) reading)
    ∙ begun-agrees s known holds (lease_holds_at s.geometry (first_leases known reading leases) (first_extents reading extents)) (held_hand s.geometry (first_extents reading extents) hand) reading b
    (first-agrees s.geometry known reading leases extents p.holds held)

pub reply-asks : (process : Process End) → Asks process → None ≡ reply_of process
reply-asks (Ends end) asks = absurd asks
reply-asks (ReadThen block rest fault) asks = refl
reply-asks (WriteThen kind block bytes guard done fault missed) asks = refl
reply-asks (ClockThen rest) asks = refl
reply-asks (UntilThen from rest) asks = refl

-- the reply to which it leads
first-replies : (s : Setting) (known : Known) (b : Begun) (p : Configuration) (reading : ℕ) (h : HasBegun s known b p) →
    replies s (answer.Reading reading) p ≡ reply_of (first_asks s known reading h.command p)
first-replies s known b p reading h = ap (λ place. replies_at s (answer.Reading reading) p place) h.place_is

-- a command goes on after its first reading
pub record FirstIn (s : Setting) (lent : Lent) (w : Work) (tokens : List (Option (Token Image))) (extents : ℕ → Hold) (hand : List ℕ) (log : List BootEntry) (reading : ℕ) : Type 0 where
  pub in_it : IsInWork lent w (configuration s (Asked ask.Clock [] (answer.Reading reading) ∷ log))
  pub held : HoldsAs s.geometry (image_leases tokens) extents (configuration s (Asked ask.Clock [] (answer.Reading reading) ∷ log)).holds
  pub in_hand : (configuration s (Asked ask.Clock [] (answer.Reading reading) ∷ log)).hand ≡ hand
  pub no_reply : None ≡ replies s (answer.Reading reading) (configuration s log)
  pub unfilled : (configuration s (Asked ask.Clock [] (answer.Reading reading) ∷ log)).filled ≡ []

-- a command that has begun stands for its log, with these leases and this hand
pub record BegunStands (s : Setting) (known : Known) (b : Begun) (log : List BootEntry) (leases extents : ℕ → Hold) (hand : List ℕ) : Type 0 where
  pub begun : HasBegun s known b (configuration s log)
  pub held : HoldsAs s.geometry leases extents (configuration s log).holds
  pub hand_is : (configuration s log).hand ≡ hand
  pub within : AreWithin s.geometry hand

pub first-in : (s : Setting) (known : Known) (after : Lent) (b : Begun) (w : Work) (log : List BootEntry) (reading : ℕ) (leases extents : ℕ → Hold) (hand : List ℕ) (tokens : List (Option (Token Image))) →
    BegunStands s known b log leases extents hand →
    work_rest after w ≡ waiting_process s known (lease_holds_at s.geometry (first_leases known reading leases) (first_extents reading extents)) (held_hand s.geometry (first_extents reading extents) hand) reading b →
    image_leases tokens ≡ first_leases known reading leases → StartsInside (image_leases tokens) (first_extents reading extents) w → (work_setting w).geometry ≡ s.geometry →
    after.known.sessions ≡ known.sessions →
    FirstIn s after w tokens (first_extents reading extents) (held_hand s.geometry (first_extents reading extents) hand) log reading
first-in s known after b w log reading leases extents hand tokens waits is same starts tied sessions =
    let p = configuration s log in
    let h = waits.begun in
    let holds = after_first s.geometry known reading p.holds in
    let exts = first_extents reading extents in
    let process = first_asks s known reading h.command p in
    let process-is : process ≡ work_rest after w = first-process s known b p reading leases extents hand h waits.held waits.hand_is waits.within ∙ sym is in
    let next = configuration s (Asked ask.Clock [] (answer.Reading reading) ∷ log) in
    let moved = first-moved s known b log reading h in
    let asks = (lawful w).asks after in
    let place : next.place ≡ In known h.command (work_rest after w) =
    ap (λ (q : Configuration). q.place) moved ∙ ap (place_of known h.command) process-is ∙ place-asks known h.command (work_rest after w) asks in
    let stays : after_process process holds ≡ holds = ap (λ (q : Process End). after_process q holds) process-is ∙ holds-asks (work_rest after w) holds asks in
    let holding : next.holds ≡ holds = ap (λ (q : Configuration). q.holds) moved ∙ stays in
    let agrees : (lease : ℕ) → lease < lease_count s.geometry → next.holds (lease_at lease) ≡ lease_holds_at s.geometry (image_leases tokens) exts (lease_at lease) =
    λ lease within. ap (λ (q : ℕ → Hold). q (lease_at lease)) holding ∙ first-agrees s.geometry known reading leases extents p.holds waits.held lease within
    ∙ ap (λ (q : ℕ → Hold). lease_holds_at s.geometry q exts (lease_at lease)) (sym same) in
    let clean : (block : ℕ) → next.holds block ≡ hold_without_claim (next.holds block) =
    λ block. subst (λ (t : ℕ → Hold). t block ≡ hold_without_claim (t block)) (sym holding) (sym (first-is-settled (session_at s.geometry known block) reading (p.holds block))) in
    record {
      in_it = record {
        before = known;
        command = h.command;
        place_is = place;
        sessions = sym sessions;
        inside = subst (λ (o : Option (ℕ × List ℕ)). Inside w next.holds next.sample o) (sym (ap (λ (q : Configuration). q.found) moved))
            ((lawful w).starts s.geometry (image_leases tokens) exts next.holds next.sample tied starts agrees clean);
      };
      held = λ lease within. ap (λ (q : ℕ → Hold). hold_without_claim (q (lease_at lease))) holding
          ∙ first-is-settled (session_at s.geometry known (lease_at lease)) reading (p.holds (lease_at lease))
          ∙ first-agrees s.geometry known reading leases extents p.holds waits.held lease within
          ∙ ap (λ (q : ℕ → Hold). lease_holds_at s.geometry q exts (lease_at lease)) (sym same);
      in_hand = ap (λ (q : Configuration). q.hand) moved ∙ ap (λ (q : ℕ → Hold). hand_held s.geometry q p.hand) stays ∙ ap (hand_held s.geometry holds) waits.hand_is
          ∙ first-hand s.geometry known reading leases extents p.holds hand waits.held waits.within;
      no_reply = reply-asks (work_rest after w) asks ∙ ap reply_of (sym process-is) ∙ sym (first-replies s known b p reading h);
      unfilled = ap (λ (q : Configuration). q.filled) moved;
    }

-- a command ends at its first reading
pub record FirstEnds (s : Setting) (known : Known) (r : Reply) (leases extents : ℕ → Hold) (hand : List ℕ) (log : List BootEntry) (reading : ℕ) : Type 0 where
  pub idle : (configuration s (Asked ask.Clock [] (answer.Reading reading) ∷ log)).place ≡ Idle (known_after r known)
  pub held : HoldsAs s.geometry (leases_after r leases) (leases_after r extents) (configuration s (Asked ask.Clock [] (answer.Reading reading) ∷ log)).holds
  pub in_hand : (configuration s (Asked ask.Clock [] (answer.Reading reading) ∷ log)).hand ≡ hand_after_reply r hand
  pub replied : Some r ≡ replies s (answer.Reading reading) (configuration s log)
  pub unfilled : (configuration s (Asked ask.Clock [] (answer.Reading reading) ∷ log)).filled ≡ []

pub first-ends : (s : Setting) (known after : Known) (b : Begun) (r : Reply) (log : List BootEntry) (reading : ℕ) (leases extents : ℕ → Hold) (hand : List ℕ) (tokens : List (Option (Token Image))) →
    BegunStands s known b log leases extents hand →
    ends r (known_after r after) ≡ waiting_process s known (lease_holds_at s.geometry (first_leases known reading leases) (first_extents reading extents)) (held_hand s.geometry (first_extents reading extents) hand) reading b →
    image_leases tokens ≡ first_leases known reading leases →
    FirstEnds s after r (image_leases tokens) (first_extents reading extents) (held_hand s.geometry (first_extents reading extents) hand) log reading
first-ends s known after b r log reading leases extents hand tokens waits is same =
    let p = configuration s log in
    let g = s.geometry in
    let h = waits.begun in
    let exts = first_extents reading extents in
    let holds = after_first g known reading p.holds in
    let process = first_asks s known reading h.command p in
    let process-is : process ≡ ends r (known_after r after) = first-process s known b p reading leases extents hand h waits.held waits.hand_is waits.within ∙ sym is in
    let next = configuration s (Asked ask.Clock [] (answer.Reading reading) ∷ log) in
    let moved = first-moved s known b log reading h in
    let stays : after_process process holds ≡ holds_after_reply r holds = ap (λ (q : Process End). after_process q holds) process-is in
    let holding : next.holds ≡ holds_after_reply r holds = ap (λ (q : Configuration). q.holds) moved ∙ stays in
    let kept : HoldsAs g (image_leases tokens) exts holds = λ lease within.
    first-is-settled (session_at g known (lease_at lease)) reading (p.holds (lease_at lease))
    ∙ first-agrees g known reading leases extents p.holds waits.held lease within ∙ ap (λ (q : ℕ → Hold). lease_holds_at g q exts (lease_at lease)) (sym same) in
    let now = reply-holds g (image_leases tokens) exts holds r kept in
    record {
      idle = ap (λ (q : Configuration). q.place) moved ∙ ap (place_of known h.command) process-is;
      held = subst (λ (q : ℕ → Hold). HoldsAs g (leases_after r (image_leases tokens)) (leases_after r exts) q) (sym holding) now;
      in_hand = ap (λ (q : Configuration). q.hand) moved ∙ ap (λ (q : ℕ → Hold). hand_held g q p.hand) stays ∙ ap (hand_held g (holds_after_reply r holds)) waits.hand_is
          ∙ hand-as g (leases_after r (image_leases tokens)) (leases_after r exts) (holds_after_reply r holds) hand now waits.within
          ∙ reply-hand g exts r (held_hand g exts hand) hand refl;
      replied = ap reply_of (sym process-is) ∙ sym (first-replies s known b p reading h);
      unfilled = ap (λ (q : Configuration). q.filled) moved;
    }
