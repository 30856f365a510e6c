-- Where an appliance stands after the first reading of a command.
use Rattle.std.proofs.Common.{◌≡◌, ℕ, List, [], ◌∷◌, refl, sym, ap, ◌∙◌, subst}
use Rattle.plx_commands.specs.declared.reply.Reply.{Reply}
use Rattle.plx_disk.specs.declared.ask.Ask.TheVariants as ask
use Rattle.plx_disk.specs.declared.ask.Answer.TheVariants as answer
use Rattle.plx_rules.specs.Boot.{Asked, BootEntry, Idle, Configuration, configuration}
use Rattle.plx_rules.specs.Ends.{End, ends}
use Rattle.plx_rules.specs.Process.{Process}
use Rattle.plx_rules.specs.Holds.{Hold}
use Rattle.plx_rules.specs.Session.{Known}
use Rattle.plx_appliance.specs.Appliance.{IsInWork, StandsAt, StandsFor, appliance_setting}
use Rattle.plx_appliance.specs.Begins.{waiting_process}
use Rattle.plx_appliance.specs.AfterReply.{hand_after_reply, leases_after}
use Rattle.plx_session.specs.Ending.{known_after}
use Rattle.plx_session.specs.Giving.{rules_setting}
use Rattle.plx_appliance.specs.Holding.{first_extents, first_leases}
use Rattle.plx_appliance.specs.RenewStarts.{holds_in}
use Rattle.plx_appliance.specs.Space.{AreWithin, extents_in, hand_in, held_hand}
use Rattle.plx_appliance.specs.Kept.{known_of, sessions_of}
use Rattle.plx_appliance.specs.Lent.{lent_of}
use Rattle.plx_appliance.specs.Works.{IsTied, StartsInside, work_rest}
use Rattle.plx_appliance.specs.Tokens.{lease_holds_at, image_leases}
use Rattle.plx_appliance.specs.declared.appliance.Appliance.{Appliance}
use Rattle.plx_appliance.specs.declared.appliance.Stage.{Stage}
use Rattle.plx_appliance.specs.declared.appliance.Stage.TheVariants as stage
use Rattle.plx_appliance.specs.declared.begun.Begun.{Begun}
use Rattle.plx_appliance.specs.declared.holdings.Holdings.{Holdings}
use Rattle.plx_appliance.specs.declared.sessions.Sessions.{Sessions}
use Rattle.plx_session.specs.declared.setting.Setting.{Setting}
use Rattle.plx_appliance.specs.declared.work.Work.{Work}
use Rattle.plx_appliance.proofs.Went.{Stood, keeps-by, stood-as}
use Rattle.plx_appliance.proofs.Goes.{FirstIn, FirstEnds, BegunStands, first-in, first-ends}

-- what is kept once the leases that are over were dropped
pub record IsDroppedOf (a : Appliance) (h : Holdings) (reading : ℕ) : Type 0 where
  pub setting : h.setting ≡ a.holdings.setting
  pub known : known_of h ≡ known_of a.holdings
  pub leases : image_leases h.leases.leases.items ≡ first_leases (known_of a.holdings) reading (image_leases a.holdings.leases.leases.items)
  pub extents : extents_in h ≡ first_extents reading (extents_in a.holdings)
  pub hand : hand_in h ≡ held_hand a.holdings.setting.geometry (extents_in h) (hand_in a.holdings)

-- the hand then
dropped-hand : (a : Appliance) (h : Holdings) (reading : ℕ) → IsDroppedOf a h reading →
    hand_in h ≡ held_hand a.holdings.setting.geometry (first_extents reading (extents_in a.holdings)) (hand_in a.holdings)
dropped-hand a h reading d = d.hand ∙ ap (λ (es : ℕ → Hold). held_hand a.holdings.setting.geometry es (hand_in a.holdings)) d.extents

-- what a command asks by what is kept then, and by what the appliance kept
over-old : (a : Appliance) (h : Holdings) (reading : ℕ) (b : Begun) (process : Process End) → IsDroppedOf a h reading →
    process ≡ waiting_process (rules_setting h.setting) (known_of h) (holds_in h) (hand_in h) reading b →
    process ≡ waiting_process (appliance_setting a) (known_of a.holdings)
    (lease_holds_at a.holdings.setting.geometry (first_leases (known_of a.holdings) reading (image_leases a.holdings.leases.leases.items)) (first_extents reading (extents_in a.holdings)))
    (held_hand a.holdings.setting.geometry (first_extents reading (extents_in a.holdings)) (hand_in a.holdings)) reading b
over-old a h reading b process d is =
    let g = a.holdings.setting.geometry in
    let s = appliance_setting a in
    let k = known_of a.holdings in
    let by_setting = subst (λ (st : Setting). process ≡ waiting_process (rules_setting st) (known_of h) (lease_holds_at st.geometry (image_leases h.leases.leases.items) (extents_in h)) (hand_in h) reading b) d.setting is in
    let by_known = subst (λ (x : Known). process ≡ waiting_process s x (lease_holds_at g (image_leases h.leases.leases.items) (extents_in h)) (hand_in h) reading b) d.known by_setting in
    let by_leases = subst (λ (ls : ℕ → Hold). process ≡ waiting_process s k (lease_holds_at g ls (extents_in h)) (hand_in h) reading b) d.leases by_known in
    let by_hand = subst (λ (l : List ℕ). process ≡ waiting_process s k (lease_holds_at g (first_leases k reading (image_leases a.holdings.leases.leases.items)) (extents_in h)) l reading b) (dropped-hand a h reading d) by_leases in
    subst (λ (es : ℕ → Hold). process ≡ waiting_process s k (lease_holds_at g (first_leases k reading (image_leases a.holdings.leases.leases.items)) es)
    (held_hand g (first_extents reading (extents_in a.holdings)) (hand_in a.holdings)) reading b) d.extents by_hand

-- an appliance whose command has begun
begun-waits : (a : Appliance) (b : Begun) (log : List BootEntry) → a.stage ≡ stage.Begun b → StandsFor a log → AreWithin a.holdings.setting.geometry (hand_in a.holdings) →
    BegunStands (appliance_setting a) (known_of a.holdings) b log (image_leases a.holdings.leases.leases.items) (extents_in a.holdings) (hand_in a.holdings)
begun-waits a b log begun stands within = record {
  begun = subst (λ (st : Stage). StandsAt (appliance_setting a) (lent_of a.holdings) st (configuration (appliance_setting a) log)) begun stands.at;
  held = stands.held;
  hand_is = stands.hand;
  within = within;
}

pub stood-in : (a : Appliance) (b : Begun) (log : List BootEntry) (reading : ℕ) (h h2 : Holdings) (w : Work) →
    a.stage ≡ stage.Begun b → StandsFor a log → AreWithin a.holdings.setting.geometry (hand_in a.holdings) → IsDroppedOf a h reading →
    work_rest (lent_of h2) w ≡ waiting_process (rules_setting h.setting) (known_of h) (holds_in h) (hand_in h) reading b →
    image_leases h2.leases.leases.items ≡ image_leases h.leases.leases.items → IsTied h.setting w → StartsInside (image_leases h.leases.leases.items) (extents_in h) w →
    h2.sessions ≡ h.sessions →
    FirstIn (appliance_setting a) (lent_of h2) w h2.leases.leases.items (extents_in h) (hand_in h) log reading
stood-in a b log reading h h2 w begun stands within d process same tied starts sessions =
    let exts = first_extents reading (extents_in a.holdings) in
    let first = first-in (appliance_setting a) (known_of a.holdings) (lent_of h2) b w log reading (image_leases a.holdings.leases.leases.items) (extents_in a.holdings) (hand_in a.holdings) h2.leases.leases.items
    (begun-waits a b log begun stands within)
    (over-old a h reading b (work_rest (lent_of h2) w) d process)
    (same ∙ d.leases)
    (subst (λ (es : ℕ → Hold). StartsInside (image_leases h2.leases.leases.items) es w) d.extents (subst (λ (ls : ℕ → Hold). StartsInside ls (extents_in h) w) (sym same) starts))
    (ap (λ (st : Setting). st.geometry) (tied.same ∙ d.setting))
    (ap (λ (s : Sessions). sessions_of s.images.items) sessions ∙ ap (λ (known : Known). known.sessions) d.known) in
    subst (λ (l : List ℕ). FirstIn (appliance_setting a) (lent_of h2) w h2.leases.leases.items (extents_in h) l log reading) (sym (dropped-hand a h reading d))
    (subst (λ (es : ℕ → Hold). FirstIn (appliance_setting a) (lent_of h2) w h2.leases.leases.items es (held_hand a.holdings.setting.geometry exts (hand_in a.holdings)) log reading) (sym d.extents) first)

pub stood-ends : (a : Appliance) (b : Begun) (log : List BootEntry) (reading : ℕ) (h h2 : Holdings) (r : Reply) →
    a.stage ≡ stage.Begun b → StandsFor a log → AreWithin a.holdings.setting.geometry (hand_in a.holdings) → IsDroppedOf a h reading →
    ends r (known_after r (known_of h2)) ≡ waiting_process (rules_setting h.setting) (known_of h) (holds_in h) (hand_in h) reading b →
    image_leases h2.leases.leases.items ≡ image_leases h.leases.leases.items →
    FirstEnds (appliance_setting a) (known_of h2) r (image_leases h2.leases.leases.items) (extents_in h) (hand_in h) log reading
stood-ends a b log reading h h2 r begun stands within d process same =
    let exts = first_extents reading (extents_in a.holdings) in
    let first = first-ends (appliance_setting a) (known_of a.holdings) (known_of h2) b r log reading (image_leases a.holdings.leases.leases.items) (extents_in a.holdings) (hand_in a.holdings) h2.leases.leases.items
    (begun-waits a b log begun stands within)
    (over-old a h reading b (ends r (known_after r (known_of h2))) d process)
    (same ∙ d.leases) in
    subst (λ (l : List ℕ). FirstEnds (appliance_setting a) (known_of h2) r (image_leases h2.leases.leases.items) (extents_in h) l log reading) (sym (dropped-hand a h reading d))
    (subst (λ (es : ℕ → Hold). FirstEnds (appliance_setting a) (known_of h2) r (image_leases h2.leases.leases.items) es (held_hand a.holdings.setting.geometry exts (hand_in a.holdings)) log reading) (sym d.extents) first)

-- the configuration after a first reading
abbrev read_at : Setting → List BootEntry → (reading : ℕ) → Configuration
read_at setting log reading = configuration (rules_setting setting) (Asked ask.Clock [] (answer.Reading reading) ∷ log)

-- so an appliance stands whose command goes on
pub first-stands : (a : Appliance) (h e : Holdings) (w : Work) (log : List BootEntry) (reading : ℕ) → e.setting ≡ a.holdings.setting → extents_in e ≡ extents_in h → hand_in e ≡ hand_in h →
    FirstIn (appliance_setting a) (lent_of e) w e.leases.leases.items (extents_in h) (hand_in h) log reading →
    Stood e (configuration (rules_setting e.setting) (Asked ask.Clock [] (answer.Reading reading) ∷ log)) (λ lent. IsInWork lent w (configuration (rules_setting e.setting) (Asked ask.Clock [] (answer.Reading reading) ∷ log)))
first-stands a h e w log reading same extents hand first =
    subst (λ (st : Setting). Stood e (read_at st log reading) (λ lent. IsInWork lent w (read_at st log reading))) (sym same)
    (stood-as e (read_at a.holdings.setting log reading) (λ lent. IsInWork lent w (read_at a.holdings.setting log reading)) a.holdings.setting.geometry
    (record { leases = image_leases e.leases.leases.items; extents = extents_in h; hand = hand_in h })
    (ap (λ (st : Setting). st.geometry) same) (keeps-by _ _ _ _ _ _ refl extents hand) first.in_it first.held first.in_hand first.unfilled)

-- and one whose command ends
pub last-stands : (a : Appliance) (h e k : Holdings) (r : Reply) (log : List BootEntry) (reading : ℕ) → k.setting ≡ a.holdings.setting → known_of k ≡ known_after r (known_of e) →
    image_leases k.leases.leases.items ≡ leases_after r (image_leases e.leases.leases.items) → extents_in k ≡ leases_after r (extents_in h) → hand_in k ≡ hand_after_reply r (hand_in h) →
    FirstEnds (appliance_setting a) (known_of e) r (image_leases e.leases.leases.items) (extents_in h) (hand_in h) log reading →
    Stood k (configuration (rules_setting k.setting) (Asked ask.Clock [] (answer.Reading reading) ∷ log)) (λ lent. (configuration (rules_setting k.setting) (Asked ask.Clock [] (answer.Reading reading) ∷ log)).place ≡ Idle lent.known)
last-stands a h e k r log reading same known leases extents hand first =
    subst (λ (st : Setting). Stood k (read_at st log reading) (λ lent. (read_at st log reading).place ≡ Idle lent.known)) (sym same)
    (stood-as k (read_at a.holdings.setting log reading) (λ lent. (read_at a.holdings.setting log reading).place ≡ Idle lent.known) a.holdings.setting.geometry
    (record { leases = leases_after r (image_leases e.leases.leases.items); extents = leases_after r (extents_in h); hand = hand_after_reply r (hand_in h) })
    (ap (λ (st : Setting). st.geometry) same) (keeps-by _ _ _ _ _ _ leases extents hand)
    (subst (λ (k2 : Known). (read_at a.holdings.setting log reading).place ≡ Idle k2) (sym known) first.idle) first.held first.in_hand first.unfilled)
