-- Reserves: a take from the first reading on.
use Rattle.std.proofs.Common.{◌≡◌, ℕ, ◌+◌, ◌*◌, ◌≤◌, ◌<◌, ◌^◌, List, [], ◌∷◌, ◌++◌, length, Bool, true, false, Some, refl, ap, ◌∙◌, arith, inl, inr}
use Rattle.std.specs.Prelude.{if◌then◌else◌, nat_le}
use Rattle.plx_base.specs.declared.numbers.SlotNo.{SlotNo}
use Rattle.plx_commands.specs.declared.command.Command.{Command}
use Rattle.plx_commands.specs.declared.command.Command.TheVariants.{Attach, Reserve}
use Rattle.plx_commands.specs.declared.reply.Reply.{Reply}
use Rattle.plx_commands.specs.declared.reply.Reply.TheVariants as reply
use Rattle.plx_disk.specs.declared.ask.Ask.{Ask}
use Rattle.plx_disk.specs.declared.ask.Answer.{Answer}
use Rattle.plx_disk.specs.declared.ask.Answer.TheVariants as answer
use Rattle.plx_geom.proofs.Places.{image-below, image-extent}
use Rattle.plx_geom.specs.Geometry.{IsGeometry, image_lease, extent_lease, lease_at}
use Rattle.plx_rules.specs.Commands.{command_process}
use Rattle.plx_rules.specs.Ends.{End, ends}
use Rattle.plx_rules.specs.Hands.{is_held}
use Rattle.plx_rules.specs.Holds.{Hold, Nothing, Seen, Wrote, Waited, Held}
use Rattle.plx_rules.specs.Rests.{extent_of}
use Rattle.plx_rules.specs.Session.{Known}
use Rattle.plx_rules.specs.Settings.{Setting}
use Rattle.plx_rules.specs.Space.{Taking}
use Rattle.law_lease.proofs.LawfulCommands.{IsRest}
use Rattle.law_run.specs.CommandLogs.{Exchange, Finished, CommandLog, first_reading}
use Rattle.law_run.specs.Causes as causes
use Rattle.law_run.specs.Causes.{HasReadOutside, HasReached, IsRefused, MayGoOnAfter, MayFollow}
use Rattle.law_run.specs.Holdings.{at_first, holds_after}
use Rattle.law_run.specs.Replies.{Comes, for_space, in_map, in_lease}
use Rattle.law_run.specs.Rules.{AllKept}
use Rattle.law_run.specs.Sessions.{attached_by}
use Rattle.law_run.specs.Space.{IsTake, of_reserve}
use Rattle.law_run.specs.Takes as takes
use Rattle.law_run.specs.Takes.{MayBeginTake, HoldsOthers, RefusesTake, FailsTake, HasEnough, counted_by_log, take_bound}
use Rattle.law_run.proofs.Asking.{replied-fine}
use Rattle.law_run.proofs.Hands.{has-filter, kept-within}
use Rattle.law_run.proofs.Holding.{Spared, spared-first, first-more}
use Rattle.law_run.proofs.OnExtent.{reserve-fine, rests-still}
use Rattle.law_run.specs.Uses as uses
use Rattle.law_run.specs.Uses.{IsOfCommand}
use Rattle.law_run.proofs.Uses.{not-claim}
use Rattle.law_run.proofs.Following.{first-follows, read-nothing, no-attach}
use Rattle.law_run.proofs.Passed.{passed-all}
use Rattle.law_run.proofs.Rests.{KeepsHolds, rests-failed}
use Rattle.law_run.proofs.Right.{clock, Rests, log_on, May, Shows, Right}
use Rattle.law_run.proofs.Runs.{start, hand_start}
use Rattle.law_run.proofs.TakeFollows as takes_follow
use Rattle.law_run.proofs.TakeFollows.{ReadsOutside, FollowsAnswer, FollowsTake}
use Rattle.law_run.proofs.TakeRules.{at-rest, take-meets}
use Rattle.law_run.specs.Senses.{IsAny}

-- after the first reading a lease is held, or it isn't
first-rest : (attached : Bool) (reading : ℕ) (hold : Hold) → IsRest (at_first attached reading hold)
first-rest true reading Nothing = tt
first-rest true reading (Seen sample) = tt
first-rest true reading (Wrote claim until) = tt
first-rest true reading (Waited claim until) = tt
first-rest true reading (Held claim until) = tt
first-rest false reading Nothing = tt
first-rest false reading (Seen sample) = tt
first-rest false reading (Wrote claim until) = tt
first-rest false reading (Waited claim until) = tt
first-rest false reading (Held claim until) = by-test (nat_le until reading)
  where
    by-test : (test : Bool) → IsRest (if test then Nothing else Held claim until)
    by-test true = tt
    by-test false = tt

-- the newest of some exchanges
abbrev newest_of : List Exchange → Exchange
newest_of [] = clock 0
newest_of (x ∷ older) = x

-- ---- what is told of a take's exchanges is told of the command's

module _ (s : Setting) (before : List Finished) (command : Command) (reading : ℕ) where
  -- the command's exchanges: its first reading, and then those of its take
  abbrev all_of : List Exchange → List Exchange
  all_of own = own ++ clock reading ∷ []

  abbrev log : List Exchange → CommandLog
  log own = log_on before command (all_of own)

  first-all : (own : List Exchange) → first_reading (all_of own) ≡ Some reading
  first-all [] = refl
  first-all (x ∷ own) = first-more (all_of own) x reading (first-all own)

-- ---- a take that is all of a command

module _ (s : Setting) (before : List Finished) (known : Known) (count reading : ℕ) (rests : Rests s before known) where
  abbrev all : List Exchange → List Exchange
  all own = all_of s before (Reserve count) reading own

  abbrev whole_log : List Exchange → CommandLog
  whole_log own = log_on before (Reserve count) (all own)

  -- the command as its take begins
  abbrev first : CommandLog
  first = log_on before (Reserve count) (clock reading ∷ [])

  -- the take is one in its log
  is-take : (own : List Exchange) → IsTake (whole_log own) own count
  is-take own = record { begun = clock reading ∷ []; takes = of_reserve reading refl refl; since = refl }

  refusal-comes : (own : List Exchange) (r : Reply) → RefusesTake s (whole_log own) own count r → Comes s IsAny (whole_log own) r
  refusal-comes own r (takes.full full) = (own, count, is-take own, full)
  refusal-comes own r (takes.busy extent seen busy) = for_space extent (own, count, is-take own, busy)
  refusal-comes own r (takes.worn_out last worn) = (own, count, is-take own, worn)
  refusal-comes own r (takes.unread block was) = was
  refusal-comes own r (takes.map_damaged block is) = in_map is
  refusal-comes own r (takes.lease_damaged block is) = in_lease is

  refusal-attached : (own : List Exchange) (r : Reply) → RefusesTake s (whole_log own) own count r → (other : ℕ) (b : Bool) → attached_by r (Reserve count) other b ≡ b
  refusal-attached own r (takes.full full) other b = refl
  refusal-attached own r (takes.busy extent seen busy) other b = refl
  refusal-attached own r (takes.worn_out last worn) other b = refl
  refusal-attached own r (takes.unread block was) other b = refl
  refusal-attached own r (takes.map_damaged block is) other b = refl
  refusal-attached own r (takes.lease_damaged block is) other b = refl

  refusal-keeps : (own : List Exchange) (r : Reply) → RefusesTake s (whole_log own) own count r → KeepsHolds r
  refusal-keeps own r (takes.full full) holds = refl
  refusal-keeps own r (takes.busy extent seen busy) holds = refl
  refusal-keeps own r (takes.worn_out last worn) holds = refl
  refusal-keeps own r (takes.unread block was) holds = refl
  refusal-keeps own r (takes.map_damaged block is) holds = refl
  refusal-keeps own r (takes.lease_damaged block is) holds = refl

  -- the leases of attached images are held still
  others-spared : (own : List Exchange) → HoldsOthers s first (whole_log own) → Spared s before (all own) s.geometry.images
  others-spared own others other apart below attached held =
      let h = spared-first s before reading s.geometry.images other apart below attached held in
      (h.0, h.1, others (image_lease other) (image-below s.geometry other below) (λ e within. image-extent s.geometry other e below) ∙ h.2)

  fails-reserve : (own : List Exchange) (end : End) → FailsTake s first (whole_log own) own known count end → Shows s before (Reserve count) (all own) end
  fails-reserve own end (takes.refused r why others) = (
    replied-fine s before (Reserve count) reading (reserve-fine s before count reading) (all own) (first-all s before (Reserve count) reading own) r (refusal-comes own r why),
    rests-still s before (Reserve count) (all own) r known (counted_by_log s (whole_log own) known) (λ other. refl) (λ image. refl) (refusal-attached own r why) (refusal-keeps own r why)
        (others-spared own others) refl rests,
  )
  fails-reserve own end (takes.lost name until last why) = (
    replied-fine s before (Reserve count) reading (reserve-fine s before count reading) (all own) (first-all s before (Reserve count) reading own) _ why,
    record { sessions = λ image. refl; claims = refl },
  )
  fails-reserve own end (takes.unwritten k block guard bytes was) = (
    replied-fine s before (Reserve count) reading (reserve-fine s before count reading) (all own) (first-all s before (Reserve count) reading own) (reply.WriteFault block)
        (k, guard, bytes, was),
    rests-failed s before (Reserve count) (all own) block _ refl,
  )

  -- with enough blocks in hand it is done
  ends-reserve : (t : Taking) (own : List Exchange) → HasEnough s first (whole_log own) known count t → Right s before (Reserve count) (all own) (ends reply.Reserved t.known) 0
  ends-reserve t own has = (
    replied-fine s before (Reserve count) reading (reserve-fine s before count reading) (all own) (first-all s before (Reserve count) reading own) reply.Reserved
        (record { count = count; command = refl; enough = (let h = ap (λ (l : List ℕ). length l) has.told.hand in let e = has.enough in omega (arith, h)) }),
    rests-still s before (Reserve count) (all own) reply.Reserved known t.known (λ other. refl) (λ image. ap (λ (k : Known). k.sessions image) has.told.knows) (λ other b. refl) (λ h. refl)
        (others-spared own has.others) (ap (λ (k : Known). k.claims) has.told.knows) rests,
  )

  begins-reserve : AllKept s IsAny before → MayBeginTake s first (start s before reading) [] known (hand_start s before reading)
  begins-reserve older = record {
    used = record { sound = λ one there. absurd there; complete = λ one u. unused one.lease u.of };
    extents = λ e below. refl;
    at_rest = λ l below. at-rest _ (first-rest _ reading (holds_after s.geometry before (lease_at l)));
    in_hand = refl;
    within = λ b has. kept-within s before older b (has-filter (λ c. is_held (start s before reading (lease_at (extent_lease s.geometry (extent_of s.geometry c))))) _ b has).0;
    counted = (let c = rests.claims in omega arith);
    first = clock reading;
    others = [];
    begun = refl;
    went = (tt, tt);
  }
    where
      -- it uses no lease as it begins
      unused : (l : ℕ) → ¬ IsOfCommand s first l
      unused l (uses.named image below named is) = let P : ⊥ = cc in P
      unused l (uses.claimed claim below (inl here)) = not-claim (clock reading) _ refl refl here
      unused l (uses.claimed claim below (inr none)) = none

  -- ---- what it asks follows on what it has met

  no-attaching : (own : List Exchange) (slot : SlotNo) → ¬ ((whole_log own).command ≡ Attach slot)
  no-attaching own slot is = let P : ⊥ = cc in P

  no-facts : (own : List Exchange) → ¬ IsRefused s (whole_log own)
  no-facts own refused = passed-all s (whole_log own) (reserve-fine s before count reading (all own) (first-all s before (Reserve count) reading own)) refused.0 refused.1 refused.2

  -- bytes outside the format are the take's
  outside-own : (own : List Exchange) → HasReadOutside s (whole_log own) → ReadsOutside s own
  outside-own [] outside = absurd (read-nothing s (whole_log []) refl outside)
  outside-own (x ∷ older) (causes.of_lease lease bytes within last bad) = takes_follow.of_lease lease bytes within (older, λ i. newest_of (last.1 i) ∷ older) bad
  outside-own (x ∷ older) (causes.of_map extent bytes below last bad) = takes_follow.of_map extent bytes below (older, λ i. newest_of (last.1 i) ∷ older) bad
  outside-own (x ∷ older) (causes.of_image image block bytes named last bad) = let P : ⊥ = cc in absurd P

  after-own : (x : Exchange) (older : List Exchange) (a : Ask) (y : Answer) → FollowsAnswer s (whole_log (x ∷ older)) (x ∷ older) a y → MayGoOnAfter s (whole_log (x ∷ older)) a y
  after-own x older a (answer.Bytes bytes) follows = (λ outside. follows (outside-own (x ∷ older) outside), no-attach s (whole_log (x ∷ older)) (no-attaching (x ∷ older)))
  after-own x older a answer.Done follows = tt
  after-own x older a (answer.Reading last) follows = (reached, λ outside. follows.1 (outside-own older outside), no-facts (x ∷ older))
    where
      reached : ¬ HasReached s (whole_log (x ∷ older)) last
      reached late = let soon = follows.0 late.due late.used in let past = late.past in omega (arith, soon, past)
  after-own x older a (answer.Missed last) follows = absurd follows
  after-own x older a answer.Fault follows = absurd follows

  reserve-follows : (own : List Exchange) (a : Ask) → FollowsTake s first a own → MayFollow s (whole_log own) a
  reserve-follows [] a follows = first-follows s before (Reserve count) reading (reserve-fine s before count reading) (λ image until named is. (let P : ⊥ = cc in absurd P)) a
  reserve-follows (x ∷ older) a follows = after-own x older a x.answer follows

pub reserve-begins : (s : Setting) → IsGeometry s.geometry → s.boot < 2 ^ 128 → (before : List Finished) (known : Known) (count reading : ℕ) → AllKept s IsAny before → Rests s before known →
    (left : ℕ) × (left ≤ 8 * s.geometry.extents)
    × Right s before (Reserve count) (clock reading ∷ []) (command_process s known (start s before reading) (hand_start s before reading) reading (Reserve count)) left
reserve-begins s geometry small before known count reading older rests = (
  take_bound s.geometry + 0,
  omega arith,
  take-meets s geometry small (first s before known count reading rests) (start s before reading) known count (record {
    May = May s before (Reserve count);
    Shows = Shows s before (Reserve count);
    may = λ own a bytes allowed place follows. (allowed, reserve-follows s before known count reading rests own a follows);
    fails = fails-reserve s before known count reading rests;
  }) [] (hand_start s before reading) (begins-reserve s before known count reading rests older) (λ t. ends reply.Reserved t.known) 0 (ends-reserve s before known count reading rests),
)
