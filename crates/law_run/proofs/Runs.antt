-- Each run keeps the rules, where each command that begins does.
use Rattle.std.proofs.Common.{◌≡◌, ℕ, suc, ◌+◌, ◌-◌, ◌^◌, ◌≤◌, ◌<◌, List, [], ◌∷◌, length, Bool, true, false, Option, Some, None, refl, ap, sym, subst, ◌∙◌, arith}
use Rattle.std.specs.Prelude.{is_some, if◌then◌else◌, nat_le, nat_lt, ◌&&◌}
use Rattle.plx_commands.specs.declared.command.Command.{Command}
use Rattle.plx_commands.specs.declared.command.Command.TheVariants.{Attach, Detach, Create, Delete, Read, Write, Flush, Reserve, Renew, Retire, Reclaim}
use Rattle.plx_disk.specs.declared.ask.Ask.{Ask}
use Rattle.plx_disk.specs.declared.ask.Ask.TheVariants as ask
use Rattle.plx_disk.specs.declared.ask.Answer.{Answer}
use Rattle.plx_disk.specs.declared.ask.Answer.TheVariants as answer
use Rattle.plx_geom.specs.Geometry.{Geometry}
use Rattle.plx_rules.specs.Process.{Process, Ends, ReadThen, WriteThen, ClockThen, UntilThen, answered, standing, bytes_out}
use Rattle.plx_rules.specs.Boot as boot
use Rattle.plx_rules.specs.Boot.{BootEntry, Place, Idle, Begins, In, Configuration, configuration, goes_to, place_after_begin, went_on, asks, writes_out, reply_of, replies_at, Fits, IsRun}
use Rattle.plx_rules.specs.Commands.{IsBuilt, IsWellFormed, command_process}
use Rattle.plx_rules.specs.Ends.{End}
use Rattle.plx_rules.specs.Hands.{found_by, filled_answered, filled_held, hand_answered, hand_held, hand_left}
use Rattle.plx_rules.specs.Holds.{Hold, Nothing, Seen, Wrote, Waited, Held, after_answer, sample_of, holds_after_reply, first_hold, after_first}
use Rattle.plx_rules.specs.Session.{Session, Known}
use Rattle.plx_rules.specs.Settings.{Setting}
use Rattle.law_run.specs.AllowedAsks.{WentOn, MayAsk}
use Rattle.law_run.specs.Bounds.{bound, bound_of}
use Rattle.law_run.specs.Causes.{MayGoOnWith, MayFollow, AllFollow}
use Rattle.law_run.specs.CommandLogs.{Exchange, Finished, CommandLog, Commands, Between, Within, commands_after_start, commands_after_exchange, commands, with_exchange}
use Rattle.law_run.specs.Holdings.{at_first, after_first_answer, holds_along, holds_after, last_found, hand_told, hand_along, hand_after, hand_by_log, filled_told, filled_along, filled_by_log}
use Rattle.law_run.specs.Configurations.{known_at, IsByCommands, ConfigurationsAgree}
use Rattle.law_run.specs.Rules.{AllAllowed, AllKept, KeepsFullRules, IsSetting}
use Rattle.law_run.specs.Sessions.{is_attached}
use Rattle.law_run.proofs.Meets.{exchange, meets-next}
use Rattle.law_run.proofs.Right.{clock, FitsAt, Rests, May, Shows, Right}
use Rattle.law_run.specs.Senses.{IsAny}

-- what is held after the first reading of a command
abbrev pub start : Setting → List Finished → (reading : ℕ) → ℕ → Hold
start s before reading = holds_along s.geometry (is_attached before) (holds_after s.geometry before) (clock reading ∷ [])

-- what is in hand then
abbrev pub hand_start : Setting → List Finished → (reading : ℕ) → List ℕ
hand_start s before reading = hand_by_log s before (clock reading ∷ [])

-- a command that begins after these commands keeps the rules from its first reading on
abbrev pub BeginsRight : Setting → Type 0
BeginsRight s = (before : List Finished) (known : Known) (command : Command) (reading : ℕ) → IsWellFormed command → IsBuilt command → AllKept s IsAny before → Rests s before known → reading < 2 ^ 48 →
    (left : ℕ) × (1 + left ≤ bound_of s before command (clock reading ∷ []))
    × Right s before command (clock reading ∷ []) (command_process s known (start s before reading) (hand_start s before reading) reading command) left

-- ---- the first reading

first-same : (found : Option Session) (attached : Bool) (reading : ℕ) (hold : Hold) → ((found ≡ None → attached ≡ false) × ((x : Session) → found ≡ Some x → attached ≡ true)) →
    first_hold found reading hold ≡ at_first attached reading hold
first-same None true reading hold is = let P : true ≡ false = is.0 refl in absurd (let Q : ⊥ = cc in Q)
first-same None false reading Nothing is = refl
first-same None false reading (Seen sample) is = refl
first-same None false reading (Wrote claim until) is = refl
first-same None false reading (Waited claim until) is = refl
first-same None false reading (Held claim until) is = refl
first-same (Some x) false reading hold is = let P : false ≡ true = is.1 x refl in absurd (let Q : ⊥ = cc in Q)
first-same (Some x) true reading Nothing is = refl
first-same (Some x) true reading (Seen sample) is = refl
first-same (Some x) true reading (Wrote claim until) is = refl
first-same (Some x) true reading (Waited claim until) is = refl
first-same (Some x) true reading (Held claim until) is = refl

tells-attached : (s : Setting) (before : List Finished) (image : ℕ) (found : Option Session) → FitsAt s before image found →
    (found ≡ None → is_attached before image ≡ false) × ((x : Session) → found ≡ Some x → is_attached before image ≡ true)
tells-attached s before image None fits = (λ e. fits, λ x e. (let P : ⊥ = cc in absurd P))
tells-attached s before image (Some session) fits = (λ e. (let P : ⊥ = cc in absurd P), λ x e. fits.0)

first-hold-by-log : (s : Setting) (before : List Finished) (known : Known) (reading : ℕ) (hold : Hold) (block : ℕ) (test : Bool) → FitsAt s before (block - 2) (known.sessions (block - 2)) →
    first_hold (if test then known.sessions (block - 2) else None) reading hold ≡ at_first (if test then is_attached before (block - 2) else false) reading hold
first-hold-by-log s before known reading hold block true fits =
    first-same (known.sessions (block - 2)) (is_attached before (block - 2)) reading hold (tells-attached s before (block - 2) (known.sessions (block - 2)) fits)
first-hold-by-log s before known reading hold block false fits = first-same None false reading hold (λ e. refl, λ x e. (let P : ⊥ = cc in absurd P))

-- the sessions drop as the replies say
pub first-is : (s : Setting) (before : List Finished) (known : Known) (reading : ℕ) → Rests s before known → (holds : ℕ → Hold) →
    after_first s.geometry known reading holds ≡ after_first_answer s.geometry (is_attached before) (answer.Reading reading) holds
first-is s before known reading rests holds =
    λ i block. first-hold-by-log s before known reading (holds block) block (nat_le 2 block && nat_lt block (2 + s.geometry.images)) (rests.sessions (block - 2)) i

-- ---- one more exchange

abbrev pub HasFirst : List Exchange → Type 0
HasFirst [] = ⊥
HasFirst (x ∷ older) = Unit {0}

abbrev pub last_sample : List Exchange → Option ℕ
last_sample [] = None
last_sample (x ∷ older) = sample_of x.answer

pub along-more : (g : Geometry) (attached : ℕ → Bool) (before : ℕ → Hold) (x : Exchange) (done : List Exchange) → HasFirst done →
    holds_along g attached before (x ∷ done) ≡ after_answer (last_sample done) x.ask x.bytes x.answer (holds_along g attached before done)
along-more g attached before x [] has = absurd has
along-more g attached before x (y ∷ older) has = refl

pub told-more : (g : Geometry) (attached : ℕ → Bool) (before : ℕ → Hold) (hand : List ℕ) (x : Exchange) (done : List Exchange) → HasFirst done →
    hand_told g attached before hand (x ∷ done) ≡ hand_left x.ask (filled_along g attached before done) (hand_answered g (last_found done) x.ask x.bytes x.answer (hand_along g attached before hand done))
told-more g attached before hand x [] has = absurd has
told-more g attached before hand x (y ∷ older) has = refl

pub filled-more : (g : Geometry) (attached : ℕ → Bool) (before : ℕ → Hold) (x : Exchange) (done : List Exchange) → HasFirst done →
    filled_told g attached before (x ∷ done) ≡ filled_answered x.ask x.bytes x.answer (filled_along g attached before done)
filled-more g attached before x [] has = absurd has
filled-more g attached before x (y ∷ older) has = refl

-- ---- where a boot stands

-- a command runs of which this is the rest
pub record RunsWithRest (s : Setting) (log : CommandLog) (process : Process End) : Type 0 where
  pub older : AllKept s IsAny log.before
  pub allowed : AllAllowed s log.before log.command log.exchanges
  pub at_once : AllFollow s log.before log.command log.exchanges
  pub left : ℕ
  pub right : Right s log.before log.command log.exchanges process left
  pub bounded : length log.exchanges + left ≤ bound s log

-- a command has begun
pub record Begun (s : Setting) (known : Known) (command : Command) (log : CommandLog) : Type 0 where
  pub older : AllKept s IsAny log.before
  pub rests : Rests s log.before known
  pub is : log.command ≡ command
  pub none_yet : log.exchanges ≡ []
  pub formed : IsWellFormed command
  pub built : IsBuilt command

abbrev pub held_in : Setting → CommandLog → ℕ → Hold
held_in s log = holds_along s.geometry (is_attached log.before) (holds_after s.geometry log.before) log.exchanges

-- where a boot stands fits its commands
abbrev pub Agree : Setting → (ℕ → Hold) → List ℕ → List (ℕ × List ℕ) → Option ℕ → Option (ℕ × List ℕ) → Place → Commands → Type 0
Agree s holds hand filled sample found (Idle known) (Between before) = AllKept s IsAny before × Rests s before known × (holds ≡ holds_after s.geometry before) × (hand ≡ hand_after s.geometry before)
Agree s holds hand filled sample found (Begins known command) (Within log) = Begun s known command log × (holds ≡ holds_after s.geometry log.before) × (hand ≡ hand_after s.geometry log.before)
Agree s holds hand filled sample found (In known command process) (Within log) =
    RunsWithRest s log process × (holds ≡ held_in s log) × (sample ≡ last_sample log.exchanges) × HasFirst log.exchanges × Rests s log.before known
    × (hand ≡ hand_by_log s log.before log.exchanges) × (found ≡ last_found log.exchanges) × (filled ≡ filled_by_log s log.before log.exchanges)
Agree s holds hand filled sample found place commands = ⊥

abbrev pub AgreeAt : Setting → Configuration → Commands → Type 0
AgreeAt s p commands = Agree s p.holds p.hand p.filled p.sample p.found p.place commands

-- what a command meets lowers its bound by nothing
bound-grows : (s : Setting) (before : List Finished) (command : Command) (x : Exchange) (done : List Exchange) → bound_of s before command done ≤ bound_of s before command (x ∷ done)
bound-grows s before (Attach slot) x done = omega arith
bound-grows s before (Detach slot) x done = omega arith
bound-grows s before (Create slot size label) x done = omega arith
bound-grows s before (Delete slot) x done = omega arith
bound-grows s before (Read slot vblock) x done = omega arith
bound-grows s before (Write slot vblock payload) x done = omega arith
bound-grows s before (Flush slot) x done = omega arith
bound-grows s before (Reserve count) x done = omega arith
bound-grows s before Renew x done = omega arith
bound-grows s before Retire x done = omega arith
bound-grows s before Reclaim x done = omega arith

-- an answered ask is one more exchange
along : (s : Setting) (log : CommandLog) (x : Exchange) (known : Known) (command : Command) (holds : ℕ → Hold) (hand : List ℕ) (filled : List (ℕ × List ℕ)) (process : Process End) (left : ℕ) → AllKept s IsAny log.before → Rests s log.before known →
    AllAllowed s log.before log.command log.exchanges → AllFollow s log.before log.command log.exchanges → MayAsk s log x.ask x.bytes × MayFollow s log x.ask → Right s log.before log.command (x ∷ log.exchanges) process left →
    length log.exchanges + suc left ≤ bound s (with_exchange x log) →
    holds ≡ holds_along s.geometry (is_attached log.before) (holds_after s.geometry log.before) (x ∷ log.exchanges) →
    hand ≡ hand_told s.geometry (is_attached log.before) (holds_after s.geometry log.before) (hand_after s.geometry log.before) (x ∷ log.exchanges) →
    filled ≡ filled_told s.geometry (is_attached log.before) (holds_after s.geometry log.before) (x ∷ log.exchanges) →
    AgreeAt s (goes_to s.geometry known command holds hand filled (sample_of x.answer) (found_by x.ask x.answer) 0 process) (commands_after_exchange x (reply_of process) (Within log))
along s log x known command holds hand filled (Ends end) left older rests allowed at_once may right bounded same told fills =
    ((record { allowed = (may.0, allowed); at_once = (may.1, at_once); replied = right.0; bounded = omega arith }, older), right.1, ap (holds_after_reply end.reply) same, λ i. hand_held s.geometry (holds_after_reply end.reply (same i)) (told i))
along s log x known command holds hand filled (ReadThen block rest fault) left older rests allowed at_once may right bounded same told fills =
    (record { older = older; allowed = (may.0, allowed); at_once = (may.1, at_once); left = left; right = right; bounded = omega arith }, same, refl, tt, rests, λ i. hand_held s.geometry (same i) (told i), refl, λ i. filled_held s.geometry (same i) (fills i))
along s log x known command holds hand filled (WriteThen kind block bytes guard done fault missed) left older rests allowed at_once may right bounded same told fills =
    (record { older = older; allowed = (may.0, allowed); at_once = (may.1, at_once); left = left; right = right; bounded = omega arith }, same, refl, tt, rests, λ i. hand_held s.geometry (same i) (told i), refl, λ i. filled_held s.geometry (same i) (fills i))
along s log x known command holds hand filled (ClockThen rest) left older rests allowed at_once may right bounded same told fills =
    (record { older = older; allowed = (may.0, allowed); at_once = (may.1, at_once); left = left; right = right; bounded = omega arith }, same, refl, tt, rests, λ i. hand_held s.geometry (same i) (told i), refl, λ i. filled_held s.geometry (same i) (fills i))
along s log x known command holds hand filled (UntilThen from rest) left older rests allowed at_once may right bounded same told fills =
    (record { older = older; allowed = (may.0, allowed); at_once = (may.1, at_once); left = left; right = right; bounded = omega arith }, same, refl, tt, rests, λ i. hand_held s.geometry (same i) (told i), refl, λ i. filled_held s.geometry (same i) (fills i))

-- what follows the answer to the ask that stands
follows : (s : Setting) (log : CommandLog) (known : Known) (command : Command) (holds : ℕ → Hold) (hand : List ℕ) (filled : List (ℕ × List ℕ)) (sample : Option ℕ) (found : Option (ℕ × List ℕ)) (process : Process End) (a : Ask) (x : Answer) →
    Agree s holds hand filled sample found (In known command process) (Within log) → standing process ≡ Some a → Fits a x →
    AgreeAt s (goes_to s.geometry known command (after_answer sample a (bytes_out process) x holds) (hand_left a filled (hand_answered s.geometry found a (bytes_out process) x hand)) (filled_answered a (bytes_out process) x filled) (sample_of x) (found_by a x) 0 (answered process x))
    (commands_after_exchange (exchange a (bytes_out process) x) (reply_of (answered process x)) (Within log))
follows s log known command holds hand filled sample found process a x agree stands fits =
    let r = agree.0 in
    let next = meets-next (May s log.before log.command) (Shows s log.before log.command) process log.exchanges a r.left r.right stands in
    along s log (exchange a (bytes_out process) x) known command (after_answer sample a (bytes_out process) x holds) (hand_left a filled (hand_answered s.geometry found a (bytes_out process) x hand)) (filled_answered a (bytes_out process) x filled) (answered process x) next.left r.older agree.4 r.allowed r.at_once next.allowed
    (next.follows x fits)
    (let within = r.bounded in let fewer = next.fewer in let grows = bound-grows s log.before log.command (exchange a (bytes_out process) x) log.exchanges in omega arith)
    (ap (λ h. after_answer sample a (bytes_out process) x h) agree.1
    ∙ (ap (λ o. after_answer o a (bytes_out process) x (held_in s log)) agree.2
    ∙ sym (along-more s.geometry (is_attached log.before) (holds_after s.geometry log.before) (exchange a (bytes_out process) x) log.exchanges agree.3)))
    ((λ i. hand_left a (agree.7 i) (hand_answered s.geometry (agree.6 i) a (bytes_out process) x (agree.5 i)))
    ∙ sym (told-more s.geometry (is_attached log.before) (holds_after s.geometry log.before) (hand_after s.geometry log.before) (exchange a (bytes_out process) x) log.exchanges agree.3))
    (ap (filled_answered a (bytes_out process) x) agree.7
    ∙ sym (filled-more s.geometry (is_attached log.before) (holds_after s.geometry log.before) (exchange a (bytes_out process) x) log.exchanges agree.3))

-- where the first reading of a command leads
abbrev first_at : Setting → CommandLog → Known → Command → (reading : ℕ) → (ℕ → Hold) → List ℕ → Type 0
first_at s log known command reading holds hand =
    AgreeAt s (goes_to s.geometry known command holds hand [] (Some reading) None reading (command_process s known holds (hand_held s.geometry holds hand) reading command))
    (commands_after_exchange (clock reading) (reply_of (command_process s known holds (hand_held s.geometry holds hand) reading command)) (Within log))

-- the first reading of a command
right-at-first : (s : Setting) → BeginsRight s → (log : CommandLog) (known : Known) (command : Command) (holds : ℕ → Hold) (hand : List ℕ) (reading : ℕ) →
    Begun s known command log → holds ≡ holds_after s.geometry log.before → hand ≡ hand_after s.geometry log.before → reading < 2 ^ 48 →
    first_at s log known command reading (after_first s.geometry known reading holds) hand
right-at-first s right log known command holds hand reading b same in_hand small =
    let H = holds_after s.geometry log.before in
    let here : after_first s.geometry known reading holds ≡ start s log.before reading =
    ap (after_first s.geometry known reading) same ∙ first-is s log.before known reading b.rests H in
    let next = right log.before known command reading b.formed b.built b.older b.rests small in
    let Q : List Exchange → Type 0 = λ done. AllAllowed s log.before log.command done in
    let process = command_process s known (start s log.before reading) (hand_start s log.before reading) reading command in
    let R : Command → List Exchange → Type 0 = λ c done. Right s log.before c (clock reading ∷ done) process next.0 in
    let moved : R log.command log.exchanges = subst (λ c. R c log.exchanges) (sym b.is) (subst (λ done. R command done) (sym b.none_yet) next.2) in
    let size : length log.exchanges ≡ 0 = ap (λ (d : List Exchange). length d) b.none_yet in
    let limit : bound_of s log.before log.command (clock reading ∷ log.exchanges) ≡ bound_of s log.before command (clock reading ∷ []) =
    (λ i. bound_of s log.before (b.is i) (clock reading ∷ b.none_yet i)) in
    subst (λ (h : ℕ → Hold). first_at s log known command reading h hand) (sym here)
    (subst (λ (k : List ℕ). first_at s log known command reading (start s log.before reading) k) (sym in_hand)
    (along s log (clock reading) known command (start s log.before reading) (hand_after s.geometry log.before) [] process next.0 b.older b.rests
    (subst Q (sym b.none_yet) tt) (subst (λ done. AllFollow s log.before log.command done) (sym b.none_yet) tt)
    (subst (λ done. WentOn done × Unit {0}) (sym b.none_yet) (tt, tt), subst (λ done. MayGoOnWith s log ask.Clock done) (sym b.none_yet) tt) moved (let n = next.1 in omega arith)
    (ap (λ done. holds_along s.geometry (is_attached log.before) H (clock reading ∷ done)) (sym b.none_yet))
    (ap (λ done. hand_told s.geometry (is_attached log.before) H (hand_after s.geometry log.before) (clock reading ∷ done)) (sym b.none_yet))
    (ap (λ done. filled_told s.geometry (is_attached log.before) H (clock reading ∷ done)) (sym b.none_yet))))

-- a entry of a run keeps where the boot stands and its commands in step
goes-on : (s : Setting) → BeginsRight s → (p : Configuration) (place : Place) (so_far : Commands) (a : Ask) (bytes : List ℕ) (x : Answer) →
    Agree s p.holds p.hand p.filled p.sample p.found place so_far → asks place ≡ Some a → writes_out place ≡ bytes → Fits a x →
    AgreeAt s (went_on s a bytes x p place) (commands_after_exchange (exchange a bytes x) (replies_at s x p place) so_far)
goes-on s right p (Idle known) so_far a bytes x agree stands writes fits = absurd (let P : ⊥ = cc in P)
goes-on s right p (Begins known command) (Between before) a bytes x agree stands writes fits = absurd agree
goes-on s right p (Begins known command) (Within log) a bytes x agree stands writes fits =
    let is : ask.Clock ≡ a = cc in
    let P : Ask → Type 0 = λ b. (Fits b x → AgreeAt s (went_on s b bytes x p (Begins known command)) (commands_after_exchange (exchange b bytes x) (replies_at s x p (Begins known command)) (Within log))) in
    subst P is (by-bytes bytes writes) fits
  where
    by-answer : (y : Answer) → Fits ask.Clock y →
        AgreeAt s (went_on s ask.Clock [] y p (Begins known command)) (commands_after_exchange (exchange ask.Clock [] y) (replies_at s y p (Begins known command)) (Within log))
    by-answer (answer.Reading reading) small = right-at-first s right log known command p.holds p.hand reading agree.0 agree.1 agree.2 small
    by-answer y small = absurd small

    by-bytes : (out : List ℕ) → writes_out (Begins known command) ≡ out → Fits ask.Clock x →
        AgreeAt s (went_on s ask.Clock out x p (Begins known command)) (commands_after_exchange (exchange ask.Clock out x) (replies_at s x p (Begins known command)) (Within log))
    by-bytes out e small =
        subst (λ (o : List ℕ). AgreeAt s (went_on s ask.Clock o x p (Begins known command)) (commands_after_exchange (exchange ask.Clock o x) (replies_at s x p (Begins known command)) (Within log))) e
        (by-answer x small)
goes-on s right p (In known command process) (Between before) a bytes x agree stands writes fits = absurd agree
goes-on s right p (In known command process) (Within log) a bytes x agree stands writes fits =
    let P : List ℕ → Type 0 = λ out. AgreeAt s (went_on s a out x p (In known command process)) (commands_after_exchange (exchange a out x) (reply_of (answered process x)) (Within log)) in
    subst P writes (follows s log known command p.holds p.hand p.filled p.sample p.found process a x agree stands fits)

begins : (s : Setting) (holds : ℕ → Hold) (hand : List ℕ) (filled : List (ℕ × List ℕ)) (sample : Option ℕ) (found : Option (ℕ × List ℕ)) (known : Known) (so_far : Commands) (command : Command) → IsWellFormed command → IsBuilt command →
    Agree s holds hand filled sample found (Idle known) so_far → Agree s holds hand filled None None (Begins known command) (commands_after_start command so_far)
begins s holds hand filled sample found known (Between before) command formed built agree =
    (record { older = agree.0; rests = agree.1; is = refl; none_yet = refl; formed = formed; built = built }, agree.2, agree.3)
begins s holds hand filled sample found known (Within log) command formed built agree = absurd agree

pub agrees : (s : Setting) → BeginsRight s → (log : List BootEntry) → IsRun s log → AgreeAt s (configuration s log) (commands s log)
agrees s right log boot.empty = (tt, record { sessions = λ image. refl; claims = refl }, refl, refl)
agrees s right log (boot.begins {log = older} {command = command} known run idle formed built) =
    let p = configuration s older in
    let P : Place → Type 0 = λ here. Agree s p.holds p.hand p.filled p.sample p.found here (commands s older) in
    let Q : Place → Type 0 = λ here. Agree s p.holds p.hand p.filled None None (place_after_begin command here) (commands_after_start command (commands s older)) in
    subst Q (sym idle) (begins s p.holds p.hand p.filled p.sample p.found known (commands s older) command formed built (subst P idle (agrees s right older run)))
agrees s right log (boot.goes_on {log = older} {ask = a} {bytes = bytes} {answer = x} run stands writes fits) =
    let p = configuration s older in
    goes-on s right p p.place (commands s older) a bytes x (agrees s right older run) stands writes fits

keeps-rules : (s : Setting) (holds : ℕ → Hold) (hand : List ℕ) (filled : List (ℕ × List ℕ)) (sample : Option ℕ) (found : Option (ℕ × List ℕ)) (here : Place) (so_far : Commands) → ((log : CommandLog) → so_far ≡ Within log → 1 ≤ bound s log) →
    Agree s holds hand filled sample found here so_far → KeepsFullRules s so_far (asks here) (writes_out here)
keeps-rules s holds hand filled sample found (Idle known) (Between before) least agree = agree.0
keeps-rules s holds hand filled sample found (Idle known) (Within log) least agree = absurd agree
keeps-rules s holds hand filled sample found (Begins known command) (Between before) least agree = absurd agree
keeps-rules s holds hand filled sample found (Begins known command) (Within log) least agree =
    let b = agree.0 in record {
      older = b.older;
      allowed = subst (λ done. AllAllowed s log.before log.command done) (sym b.none_yet) tt;
      at_once = subst (λ done. AllFollow s log.before log.command done) (sym b.none_yet) tt;
      stands = λ a stands. (let is : ask.Clock ≡ a = cc in subst (λ (c : Ask). MayAsk s log c []) is (subst (λ done. WentOn done × Unit {0}) (sym b.none_yet) (tt, tt)));
      follows = λ a stands. subst (λ done. MayGoOnWith s log a done) (sym b.none_yet) tt;
      bounded = λ a stands. (let size : length log.exchanges ≡ 0 = ap (λ (d : List Exchange). length d) b.none_yet in let one = least log refl in omega arith);
    }
keeps-rules s holds hand filled sample found (In known command process) (Between before) least agree = absurd agree
keeps-rules s holds hand filled sample found (In known command process) (Within log) least agree =
    let r = agree.0 in record {
      older = r.older;
      allowed = r.allowed;
      at_once = r.at_once;
      stands = λ a stands. (meets-next (May s log.before log.command) (Shows s log.before log.command) process log.exchanges a r.left r.right stands).allowed.0;
      follows = λ a stands. (meets-next (May s log.before log.command) (Shows s log.before log.command) process log.exchanges a r.left r.right stands).allowed.1;
      bounded = λ a stands. (
          let fewer = (meets-next (May s log.before log.command) (Shows s log.before log.command) process log.exchanges a r.left r.right stands).fewer in
          let within = r.bounded in omega arith);
    }

-- each log that is a run keeps the rules in both senses: no tree is read by a command that is built
abbrev pub RunsKeepBoth : Type 0
RunsKeepBoth = (s : Setting) (log : List BootEntry) → IsSetting s → IsRun s log →
    KeepsFullRules s (commands s log) (asks (configuration s log).place) (writes_out (configuration s log).place)

-- so it does where each command that begins does
pub runs-keep : ((s : Setting) → IsSetting s → BeginsRight s) → ((s : Setting) (log : CommandLog) → 1 ≤ bound s log) → RunsKeepBoth
runs-keep right least s log setting run =
    let p = configuration s log in
    keeps-rules s p.holds p.hand p.filled p.sample p.found p.place (commands s log) (λ l e. least s l) (agrees s (right s setting) log run)

-- ---- leases and sessions

attached-same : (s : Setting) (before : List Finished) (image : ℕ) (found : Option Session) → FitsAt s before image found → is_some found ≡ is_attached before image
attached-same s before image None fits = sym fits
attached-same s before image (Some session) fits = sym fits.0

by-commands : (s : Setting) (p : Configuration) (place : Place) (so_far : Commands) → p.place ≡ place → Agree s p.holds p.hand p.filled p.sample p.found place so_far →
    IsByCommands s p so_far
by-commands s p (Idle known) (Between before) ps agree = record {
  holds = λ block i. agree.2 i block;
  hand = agree.3;
  attached = λ image. ap (λ (here : Place). is_some ((known_at here).sessions image)) ps ∙ attached-same s before image (known.sessions image) (agree.1.sessions image);
  claims = ap (λ (here : Place). (known_at here).claims) ps ∙ agree.1.claims;
}
by-commands s p (Idle known) (Within log) ps agree = absurd agree
by-commands s p (Begins known command) (Between before) ps agree = absurd agree
by-commands s p (Begins known command) (Within log) ps agree =
    let b = agree.0 in record {
      holds = λ block i. (agree.1 ∙ ap (holds_along s.geometry (is_attached log.before) (holds_after s.geometry log.before)) (sym b.none_yet)) i block;
      hand = agree.2 ∙ ap (hand_by_log s log.before) (sym b.none_yet);
      attached = λ image. ap (λ (here : Place). is_some ((known_at here).sessions image)) ps ∙ attached-same s log.before image (known.sessions image) (b.rests.sessions image);
      claims = ap (λ (here : Place). (known_at here).claims) ps ∙ b.rests.claims;
    }
by-commands s p (In known command process) (Between before) ps agree = absurd agree
by-commands s p (In known command process) (Within log) ps agree = record {
  holds = λ block i. agree.1 i block;
  hand = agree.5;
  attached = λ image. ap (λ (here : Place). is_some ((known_at here).sessions image)) ps ∙ attached-same s log.before image (known.sessions image) (agree.4.sessions image);
  claims = ap (λ (here : Place). (known_at here).claims) ps ∙ agree.4.claims;
}

-- of each run, where each command that begins keeps the rules
pub configurations-agree : ((s : Setting) → IsSetting s → BeginsRight s) → ConfigurationsAgree
configurations-agree right s log setting run =
    let p = configuration s log in by-commands s p p.place (commands s log) refl (agrees s (right s setting) log run)
