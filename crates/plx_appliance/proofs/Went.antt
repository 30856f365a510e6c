-- Where an appliance stands after an answer to the command that runs.
use Rattle.std.proofs.Common.{◌≡◌, ℕ, List, [], ◌∷◌, Option, Some, None, true, false, refl, sym, ap, ◌∙◌, subst}
use Rattle.plx_commands.specs.declared.reply.Reply.{Reply}
use Rattle.plx_disk.specs.declared.ask.Ask.{Ask}
use Rattle.plx_disk.specs.declared.ask.Ask.TheVariants as ask
use Rattle.plx_disk.specs.declared.ask.Answer.{Answer}
use Rattle.plx_rules.specs.Process.{Process, answered, bytes_out, standing}
use Rattle.plx_rules.specs.Boot.{Asked, Fits, BootEntry, Idle, Place, Configuration, after_process, asks, goes_to, place_of, configuration, replies, replies_at, reply_of, went_on, writes_out}
use Rattle.plx_rules.specs.Ends.{End, ends}
use Rattle.plx_rules.specs.Hands.{filled_answered, filled_held, found_by, hand_answered, hand_held, hand_left}
use Rattle.plx_rules.specs.Holds.{Hold, after_answer, holds_after_reply, sample_of, latest_after}
use Rattle.plx_geom.specs.Geometry.{Geometry}
use Rattle.plx_rules.specs.Session.{Known}
use Rattle.plx_rules.specs.Settings.{Setting}
use Rattle.plx_appliance.specs.Appliance.{HasBegun, IsInWork, IsStanding, StandsAt, StandsFor, has_begun, runs, appliance_setting}
use Rattle.plx_appliance.specs.AfterReply.{hand_after_reply, leases_after}
use Rattle.plx_session.specs.Ending.{known_after}
use Rattle.plx_appliance.specs.Holding.{HoldsAs, DropsNothing, image_leases_after_write, dropped_hand}
use Rattle.plx_appliance.specs.Space.{AreWithin, IsHand, extents_in, hand_in, held_hand}
use Rattle.plx_session.specs.Giving.{rules_setting}
use Rattle.plx_appliance.specs.Kept.{known_of}
use Rattle.plx_appliance.specs.Lent.{Lent, lent_of}
use Rattle.plx_appliance.specs.Ties.{stage_setting, stage_suits}
use Rattle.plx_appliance.specs.Tokens.{image_leases}
use Rattle.plx_appliance.specs.declared.appliance.Appliance.{Appliance}
use Rattle.plx_appliance.specs.declared.appliance.Stage.{Stage}
use Rattle.plx_appliance.specs.declared.appliance.Stage.TheVariants as stage
use Rattle.plx_appliance.specs.declared.begun.Begun.{Begun}
use Rattle.plx_appliance.specs.declared.holdings.Holdings.{Holdings}
use Rattle.plx_session.specs.declared.setting.Setting.{Setting as Given}
use Rattle.plx_appliance.specs.Works.{Inside, Moves, Spares, work_rest, work_setting, work_suits}
use Rattle.plx_appliance.specs.declared.work.Work.{Work}
use Rattle.plx_appliance.proofs.Answered.{lawful}
use Rattle.plx_appliance.proofs.Failing.{kept-leases, same-ask}
use Rattle.plx_appliance.proofs.First.{holds-asks, place-asks}
use Rattle.plx_appliance.proofs.Goes.{reply-asks, reply-holds}
use Rattle.plx_appliance.proofs.InHand.{left-unfilled, unfilled-after, hand-within, dropped-hand, hand-as, kept-hand, reply-hand}

-- what an appliance keeps of leases, and its hand
pub record KeptLeases : Type 0 where
  pub leases : ℕ → Hold
  pub extents : ℕ → Hold
  pub hand : List ℕ

-- the ask of the command that runs stands, it is answered, and the appliance keeps what the log holds then
pub record WorkIsAnswered (s : Setting) (lent later : Lent) (w new : Work) (log : List BootEntry) (q : Ask) (bytes : List ℕ) (a : Answer) (before after : KeptLeases) (result : Option Reply) : Type 0 where
  pub at : IsInWork lent w (configuration s log)
  pub hand : (configuration s log).hand ≡ before.hand
  pub held : HoldsAs s.geometry (image_leases_after_write q a after.leases) (image_leases_after_write q a after.extents) (after_answer (configuration s log).sample q bytes a (configuration s log).holds)
  pub sessions : result ≡ None → later.known.sessions ≡ lent.known.sessions
  pub inside : result ≡ None → Inside new (after_answer (configuration s log).sample q bytes a (configuration s log).holds) (sample_of a) (found_by q a)
  pub within : AreWithin s.geometry (hand_answered s.geometry (configuration s log).found q bytes a before.hand)
  pub unfilled : (configuration s log).filled ≡ []
  pub fills : filled_answered q bytes a [] ≡ []
  pub hand_moves : held_hand s.geometry after.extents (hand_answered s.geometry (configuration s log).found q bytes a before.hand) ≡ after.hand

-- the configuration after it
configuration-after : (s : Setting) (lent : Lent) (w : Work) (log : List BootEntry) (q : Ask) (bytes : List ℕ) (a : Answer) → (i : IsInWork lent w (configuration s log)) →
    configuration s (Asked q bytes a ∷ log)
    ≡ goes_to s.geometry i.before i.command (after_answer (configuration s log).sample q bytes a (configuration s log).holds)
    (hand_left q (configuration s log).filled (hand_answered s.geometry (configuration s log).found q bytes a (configuration s log).hand)) (filled_answered q bytes a (configuration s log).filled) (sample_of a) (found_by q a)
    (latest_after a (configuration s log).latest) (answered (work_rest lent w) a)
configuration-after s lent w log q bytes a i = ap (λ (place : Place). went_on s q bytes a (configuration s log) place) i.place_is

replies-in-work : (s : Setting) (lent : Lent) (w : Work) (log : List BootEntry) (a : Answer) → IsInWork lent w (configuration s log) →
    replies s a (configuration s log) ≡ reply_of (answered (work_rest lent w) a)
replies-in-work s lent w log a i = ap (λ (place : Place). replies_at s a (configuration s log) place) i.place_is

-- a command goes on
pub record WentIn (s : Setting) (later : Lent) (new : Work) (log : List BootEntry) (q : Ask) (bytes : List ℕ) (a : Answer) (after : KeptLeases) : Type 0 where
  pub in_it : IsInWork later new (configuration s (Asked q bytes a ∷ log))
  pub held : HoldsAs s.geometry (image_leases_after_write q a after.leases) (image_leases_after_write q a after.extents) (configuration s (Asked q bytes a ∷ log)).holds
  pub in_hand : (configuration s (Asked q bytes a ∷ log)).hand ≡ dropped_hand q a after.hand
  pub unfilled : (configuration s (Asked q bytes a ∷ log)).filled ≡ []
  pub no_reply : None ≡ replies s a (configuration s log)

pub went-in : (s : Setting) (lent later : Lent) (w new : Work) (log : List BootEntry) (q : Ask) (bytes : List ℕ) (a : Answer) (before after : KeptLeases) →
    WorkIsAnswered s lent later w new log q bytes a before after None → work_rest later new ≡ answered (work_rest lent w) a →
    WentIn s later new log q bytes a after
went-in s lent later w new log q bytes a before after h is =
    let p = configuration s log in
    let g = s.geometry in
    let next = configuration s (Asked q bytes a ∷ log) in
    let now = after_answer p.sample q bytes a p.holds in
    let all = hand_answered g p.found q bytes a before.hand in
    let moved = configuration-after s lent w log q bytes a h.at in
    let asks = (lawful new).asks later in
    let stays : after_process (answered (work_rest lent w) a) now ≡ now = ap (λ (process : Process End). after_process process now) (sym is) ∙ holds-asks (work_rest later new) now asks in
    let holding : next.holds ≡ now = ap (λ (r : Configuration). r.holds) moved ∙ stays in
    record {
      in_it = record {
        before = h.at.before;
        command = h.at.command;
        place_is = ap (λ (r : Configuration). r.place) moved ∙ ap (place_of h.at.before h.at.command) (sym is) ∙ place-asks h.at.before h.at.command (work_rest later new) asks;
        sessions = h.at.sessions ∙ sym (h.sessions refl);
        inside = subst (λ (o : Option (ℕ × List ℕ)). Inside new next.holds next.sample o) (sym (ap (λ (r : Configuration). r.found) moved))
            (subst (λ (o : Option ℕ). Inside new next.holds o (found_by q a)) (sym (ap (λ (r : Configuration). r.sample) moved))
            (subst (λ (t : ℕ → Hold). Inside new t (sample_of a) (found_by q a)) (sym holding) (h.inside refl)));
      };
      held = subst (λ (t : ℕ → Hold). HoldsAs g (image_leases_after_write q a after.leases) (image_leases_after_write q a after.extents) t) (sym holding) h.held;
      in_hand = ap (λ (r : Configuration). r.hand) moved ∙ ap (λ (t : ℕ → Hold). hand_held g t (hand_left q p.filled (hand_answered g p.found q bytes a p.hand))) stays
          ∙ ap (hand_held g now) (left-unfilled q p.filled (hand_answered g p.found q bytes a p.hand) h.unfilled)
          ∙ ap (λ (l : List ℕ). hand_held g now (hand_answered g p.found q bytes a l)) h.hand
          ∙ hand-as g (image_leases_after_write q a after.leases) (image_leases_after_write q a after.extents) now all h.held h.within
          ∙ dropped-hand g after.extents q a after.hand all h.hand_moves;
      unfilled = ap (λ (x : Configuration). x.filled) moved
          ∙ ap (λ (f : List (ℕ × List ℕ)). filled_held g (after_process (answered (work_rest lent w) a) now) (filled_answered q bytes a f)) h.unfilled
          ∙ ap (filled_held g (after_process (answered (work_rest lent w) a) now)) h.fills;
      no_reply = reply-asks (work_rest later new) asks ∙ ap reply_of is ∙ sym (replies-in-work s lent w log a h.at);
    }

-- a command ends
pub record WentOut (s : Setting) (known : Known) (r : Reply) (log : List BootEntry) (q : Ask) (bytes : List ℕ) (a : Answer) (after : KeptLeases) : Type 0 where
  pub idle : (configuration s (Asked q bytes a ∷ log)).place ≡ Idle (known_after r known)
  pub held : HoldsAs s.geometry (leases_after r (image_leases_after_write q a after.leases)) (leases_after r (image_leases_after_write q a after.extents)) (configuration s (Asked q bytes a ∷ log)).holds
  pub in_hand : (configuration s (Asked q bytes a ∷ log)).hand ≡ hand_after_reply r (dropped_hand q a after.hand)
  pub unfilled : (configuration s (Asked q bytes a ∷ log)).filled ≡ []
  pub replied : Some r ≡ replies s a (configuration s log)

pub went-out : (s : Setting) (lent later : Lent) (w new : Work) (r : Reply) (log : List BootEntry) (q : Ask) (bytes : List ℕ) (a : Answer) (before after : KeptLeases) →
    WorkIsAnswered s lent later w new log q bytes a before after (Some r) → ends r (known_after r later.known) ≡ answered (work_rest lent w) a →
    WentOut s later.known r log q bytes a after
went-out s lent later w new r log q bytes a before after h is =
    let p = configuration s log in
    let g = s.geometry in
    let now = after_answer p.sample q bytes a p.holds in
    let all = hand_answered g p.found q bytes a before.hand in
    let moved = configuration-after s lent w log q bytes a h.at in
    let stays : after_process (answered (work_rest lent w) a) now ≡ holds_after_reply r now = ap (λ (process : Process End). after_process process now) (sym is) in
    let holding : (configuration s (Asked q bytes a ∷ log)).holds ≡ holds_after_reply r now = ap (λ (x : Configuration). x.holds) moved ∙ stays in
    let leases = image_leases_after_write q a after.leases in
    let extents = image_leases_after_write q a after.extents in
    let kept = reply-holds g leases extents now r h.held in
    record {
      idle = ap (λ (x : Configuration). x.place) moved ∙ ap (place_of h.at.before h.at.command) (sym is);
      held = subst (λ (t : ℕ → Hold). HoldsAs g (leases_after r leases) (leases_after r extents) t) (sym holding) kept;
      in_hand = ap (λ (x : Configuration). x.hand) moved ∙ ap (λ (t : ℕ → Hold). hand_held g t (hand_left q p.filled (hand_answered g p.found q bytes a p.hand))) stays
          ∙ ap (hand_held g (holds_after_reply r now)) (left-unfilled q p.filled (hand_answered g p.found q bytes a p.hand) h.unfilled)
          ∙ ap (λ (l : List ℕ). hand_held g (holds_after_reply r now) (hand_answered g p.found q bytes a l)) h.hand
          ∙ hand-as g (leases_after r leases) (leases_after r extents) (holds_after_reply r now) all kept h.within
          ∙ reply-hand g extents r (dropped_hand q a after.hand) all (dropped-hand g after.extents q a after.hand all h.hand_moves);
      unfilled = ap (λ (x : Configuration). x.filled) moved
          ∙ ap (λ (f : List (ℕ × List ℕ)). filled_held g (after_process (answered (work_rest lent w) a) now) (filled_answered q bytes a f)) h.unfilled
          ∙ ap (filled_held g (after_process (answered (work_rest lent w) a) now)) h.fills;
      replied = ap reply_of is ∙ sym (replies-in-work s lent w log a h.at);
    }

-- what is kept
abbrev pub keeps_of : Holdings → KeptLeases
keeps_of h = record { leases = image_leases h.leases.leases.items; extents = extents_in h; hand = hand_in h }

-- the hand is one of extents whose leases are held
pub hand-of : (h : Holdings) → IsHand h.setting.geometry (extents_in h) (hand_in h)
hand-of h = record {
  held = subst (λ (g : Geometry). held_hand g (extents_in h) (hand_in h) ≡ hand_in h) h.geometry h.handed;
  within = subst (λ (g : Geometry). AreWithin g (hand_in h)) h.geometry (hand-within h.space.geometry h.space.hand.items h.space.limits h.space.pool);
}

-- what is kept of space is for the same geometry
pub space-of : (h : Holdings) (g : Geometry) → h.setting.geometry ≡ g → (h.space.geometry ≡ g) × IsHand g (extents_in h) (hand_in h)
space-of h g same = (h.geometry ∙ same, subst (λ (k : Geometry). IsHand k (extents_in h) (hand_in h)) same (hand-of h))

-- so the command of an appliance is answered
pub answered-by : (a : Appliance) (w new : Work) (log : List BootEntry) (q r : Ask) (bytes : List ℕ) (found : Answer) (h : Holdings) (result : Option Reply) →
    a.stage ≡ stage.In w → StandsFor a log → IsStanding a log r bytes → Fits r found → ((lent : Lent) → Some q ≡ standing (work_rest lent w)) → Spares w q →
    Moves w new found (lent_of a.holdings) (lent_of h) result → h.setting ≡ a.holdings.setting → (result ≡ None → work_setting new ≡ work_setting w) → (result ≡ None → work_suits h.space new) →
    (result ≡ None → (known_of h).sessions ≡ (known_of a.holdings).sessions) →
    (q ≡ r) × WorkIsAnswered (appliance_setting a) (lent_of a.holdings) (lent_of h) w new log r bytes found (keeps_of a.holdings) (keeps_of h) result
answered-by a w new log q r bytes found h result runs stands standing' fits is spare moves kept goes suits sessions =
    let lent = lent_of a.holdings in
    let later = lent_of h in
    let s = appliance_setting a in
    let g = s.geometry in
    let p = configuration s log in
    let i : IsInWork lent w p = subst (λ (st : Stage). StandsAt s lent st p) runs stands.at in
    let place : asks p.place ≡ standing (work_rest lent w) = ap asks i.place_is in
    let e : q ≡ r = same-ask q r (is lent ∙ sym place ∙ standing'.ask_is) in
    let tied : work_setting w ≡ a.holdings.setting = subst (λ (st : Stage). stage_setting a.holdings.setting st ≡ a.holdings.setting) runs a.same in
    let same : (work_setting w).geometry ≡ g = ap (λ (st : Given). st.geometry) tied in
    let own = space-of a.holdings g refl in
    let left = space-of h g (ap (λ (st : Given). st.geometry) kept) in
    let suit : work_suits a.holdings.space w = subst (λ (st : Stage). stage_suits a.holdings.space st) runs a.suits in
    let stands' : Some r ≡ standing (work_rest lent w) = sym standing'.ask_is ∙ place in
    let spares : Spares w r = subst (λ (x : Ask). Spares w x) e spare in
    let writes : bytes_out (work_rest lent w) ≡ bytes = sym (ap writes_out i.place_is) ∙ standing'.bytes_are in
    let now = λ (bs : List ℕ). after_answer p.sample r bs found p.holds in
    let held : HoldsAs g (image_leases_after_write r found later.leases) (image_leases_after_write r found (extents_in h)) (now (bytes_out (work_rest lent w))) =
    (lawful w).leases g lent later new r found p.holds p.sample p.found result same own.0 suit stands' spares fits stands.held i.inside moves in
    let hand = (lawful w).hand g lent later new r found p.holds p.sample p.found result same own.0 left.0 stands' spares i.inside own.1 left.1 moves in (
      e,
      record {
        at = i;
        hand = stands.hand;
        unfilled = stands.unfilled;
        fills = unfilled-after r bytes found ((lawful w).fills lent r stands' spares);
        sessions = sessions;
        held = subst (λ (bs : List ℕ). HoldsAs g (image_leases_after_write r found later.leases) (image_leases_after_write r found (extents_in h)) (now bs)) writes held;
        inside = λ none. subst (λ (bs : List ℕ). Inside new (now bs) (sample_of found) (found_by r found)) writes
            ((lawful w).inside g lent later new r found p.holds p.sample p.found result same own.0 suit stands' spares fits held i.inside moves none
            (record { setting = ap (λ (st : Given). st.geometry) (goes none) ∙ same; space = left.0; suits = suits none }));
        within = subst (λ (bs : List ℕ). AreWithin g (hand_answered g p.found r bs found (hand_in a.holdings))) writes hand.within;
        hand_moves = subst (λ (bs : List ℕ). held_hand g (extents_in h) (hand_answered g p.found r bs found (hand_in a.holdings)) ≡ hand_in h) writes hand.held;
      },
    )

-- what is kept once its command ended
pub record IsSettled (a : Appliance) (h kept : Holdings) (r : Reply) (q : Ask) (found : Answer) : Type 0 where
  pub setting : kept.setting ≡ a.holdings.setting
  pub known : known_of kept ≡ known_after r (known_of h)
  pub leases : image_leases kept.leases.leases.items ≡ leases_after r (image_leases_after_write q found (image_leases h.leases.leases.items))
  pub extents : extents_in kept ≡ leases_after r (image_leases_after_write q found (extents_in h))
  pub hand : hand_in kept ≡ hand_after_reply r (dropped_hand q found (hand_in h))

-- what an appliance stands for, by what it keeps
pub record Stood (kept : Holdings) (p : Configuration) (At : Lent → Type 0) : Type 0 where
  pub at : At (lent_of kept)
  pub held : HoldsAs kept.setting.geometry (image_leases kept.leases.leases.items) (extents_in kept) p.holds
  pub hand : p.hand ≡ hand_in kept
  pub unfilled : p.filled ≡ []

-- the same by what is kept in its place
pub stood-as : (kept : Holdings) (p : Configuration) (At : Lent → Type 0) (g : Geometry) (k : KeptLeases) → kept.setting.geometry ≡ g →
    keeps_of kept ≡ k → At (lent_of kept) → HoldsAs g k.leases k.extents p.holds → p.hand ≡ k.hand → p.filled ≡ [] → Stood kept p At
stood-as kept p At g k same keeps at held hand unfilled = record {
  at = at;
  held = subst (λ (x : Geometry). HoldsAs x (image_leases kept.leases.leases.items) (extents_in kept) p.holds) (sym same)
      (subst (λ (x : KeptLeases). HoldsAs g x.leases x.extents p.holds) (sym keeps) held);
  hand = hand ∙ ap (λ (x : KeptLeases). x.hand) (sym keeps);
  unfilled = unfilled;
}

abbrev pub kept_state : (leases extents : ℕ → Hold) → (hand : List ℕ) → KeptLeases
kept_state leases extents hand = record { leases = leases; extents = extents; hand = hand }

pub keeps-by : (leases leases2 extents extents2 : ℕ → Hold) (hand hand2 : List ℕ) → leases ≡ leases2 → extents ≡ extents2 → hand ≡ hand2 →
    kept_state leases extents hand ≡ kept_state leases2 extents2 hand2
keeps-by leases leases2 extents extents2 hand hand2 l e h =
    ap (λ (x : ℕ → Hold). kept_state x extents hand) l ∙ ap (λ (x : ℕ → Hold). kept_state leases2 x hand) e ∙ ap (λ (x : List ℕ). kept_state leases2 extents2 x) h

-- an appliance whose command goes on stands for the longer log
pub stands-in : (a : Appliance) (h : Holdings) (new : Work) (log : List BootEntry) (q : Ask) (bytes : List ℕ) (found : Answer) →
    h.setting ≡ a.holdings.setting → DropsNothing q found → WentIn (appliance_setting a) (lent_of h) new log q bytes found (keeps_of h) →
    Stood h (configuration (rules_setting h.setting) (Asked q bytes found ∷ log)) (λ lent. IsInWork lent new (configuration (rules_setting h.setting) (Asked q bytes found ∷ log)))
stands-in a h new log q bytes found same kept went =
    subst (λ (st : Given). Stood h (configuration (rules_setting st) (Asked q bytes found ∷ log)) (λ lent. IsInWork lent new (configuration (rules_setting st) (Asked q bytes found ∷ log)))) (sym same)
    (stood-as h (configuration (appliance_setting a) (Asked q bytes found ∷ log)) (λ lent. IsInWork lent new (configuration (appliance_setting a) (Asked q bytes found ∷ log))) a.holdings.setting.geometry
    (record { leases = image_leases_after_write q found (image_leases h.leases.leases.items); extents = image_leases_after_write q found (extents_in h); hand = dropped_hand q found (hand_in h) })
    (ap (λ (st : Given). st.geometry) same)
    (keeps-by _ _ _ _ _ _ (sym (kept-leases q found (image_leases h.leases.leases.items) kept)) (sym (kept-leases q found (extents_in h) kept)) (sym (kept-hand q found (hand_in h) kept)))
    went.in_it went.held went.in_hand went.unfilled)

-- and so does one whose command ends
pub stands-out : (a : Appliance) (h kept : Holdings) (r : Reply) (log : List BootEntry) (q : Ask) (bytes : List ℕ) (found : Answer) →
    IsSettled a h kept r q found → WentOut (appliance_setting a) (known_of h) r log q bytes found (keeps_of h) →
    Stood kept (configuration (rules_setting kept.setting) (Asked q bytes found ∷ log)) (λ lent. (configuration (rules_setting kept.setting) (Asked q bytes found ∷ log)).place ≡ Idle lent.known)
stands-out a h kept r log q bytes found d went =
    subst (λ (st : Given). Stood kept (configuration (rules_setting st) (Asked q bytes found ∷ log)) (λ lent. (configuration (rules_setting st) (Asked q bytes found ∷ log)).place ≡ Idle lent.known)) (sym d.setting)
    (stood-as kept (configuration (appliance_setting a) (Asked q bytes found ∷ log)) (λ lent. (configuration (appliance_setting a) (Asked q bytes found ∷ log)).place ≡ Idle lent.known) a.holdings.setting.geometry
    (record { leases = leases_after r (image_leases_after_write q found (image_leases h.leases.leases.items)); extents = leases_after r (image_leases_after_write q found (extents_in h)); hand = hand_after_reply r (dropped_hand q found (hand_in h)) })
    (ap (λ (st : Given). st.geometry) d.setting) (keeps-by _ _ _ _ _ _ d.leases d.extents d.hand)
    (subst (λ (known : Known). (configuration (appliance_setting a) (Asked q bytes found ∷ log)).place ≡ Idle known) (sym d.known) went.idle) went.held went.in_hand went.unfilled)

-- a command that runs waits for its first reading, or is after it
pub by-begun : {P : Type 0} (st : Stage) → true ≡ has_begun st → ((b : Begun) → st ≡ stage.Begun b → P) → P
by-begun stage.Idle h goes = absurd cc
by-begun (stage.Begun b) h goes = goes b refl
by-begun (stage.In w) h goes = absurd cc

pub by-running : {P : Type 0} (st : Stage) → false ≡ has_begun st → runs st ≡ true → ((w : Work) → st ≡ stage.In w → P) → P
by-running stage.Idle h running goes = absurd cc
by-running (stage.Begun b) h running goes = absurd cc
by-running (stage.In w) h running goes = goes w refl

-- what it waits for
pub begun-stands : (a : Appliance) (b : Begun) (log : List BootEntry) (q : Ask) (bytes : List ℕ) → a.stage ≡ stage.Begun b → StandsFor a log → IsStanding a log q bytes →
    (ask.Clock ≡ q) × ([] ≡ bytes)
begun-stands a b log q bytes is stands standing' =
    let h : HasBegun (appliance_setting a) (known_of a.holdings) b (configuration (appliance_setting a) log) =
    subst (λ (st : Stage). StandsAt (appliance_setting a) (lent_of a.holdings) st (configuration (appliance_setting a) log)) is stands.at in
    (same-ask ask.Clock q (sym (ap asks h.place_is) ∙ standing'.ask_is), sym (ap writes_out h.place_is) ∙ standing'.bytes_are)
