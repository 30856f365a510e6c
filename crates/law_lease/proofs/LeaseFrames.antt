-- What is right of a lease stays, while its record stays or changes.
use Rattle.std.proofs.Common.{◌≡◌, ℕ, ◌+◌, ◌≤◌, inl, inr, List, Bool, true, false, Option, refl, ap, sym, subst, ◌∙◌, arith}
use Rattle.std.specs.Prelude.{◌==◌}
use Rattle.plx_base.specs.declared.lease.Claim.{Claim}
use Rattle.plx_base.specs.declared.lease.LeaseRecord.{LeaseRecord}
use Rattle.plx_base.specs.declared.lease.LeaseRecord.TheVariants.{Claimed}
use Rattle.plx_base.specs.declared.write_kind.WriteKind.{WriteKind}
use Rattle.plx_base.specs.declared.write_kind.WriteKind.TheVariants as kind
use Rattle.plx_disk.specs.Writes.{Issued}
use Rattle.plx_rules.specs.Process.{Ends, ReadThen, WriteThen, ClockThen, UntilThen}
use Rattle.plx_rules.specs.Boot.{Place, Idle, Begins, In}
use Rattle.plx_rules.specs.Holds.{Hold, Nothing, Seen, Wrote, Waited, Held}
use Rattle.plx_rules.specs.Owners.{first_landed}
use Rattle.plx_rules.specs.Times.{window}
use Rattle.law_lease.proofs.Leased.{IsLiveWrite, NoneLive, LiveOnly, SparesLease, Waits, Mine, IsWritten, Good, grip_while, grip_at}

-- every write that is live later was live before
abbrev pub Shrinks : (rests since : ℕ → List ℕ) → ℕ → ℕ → List Issued → List Issued → ℕ → Type 0
Shrinks rests since time later writes now lease =
    (n : ℕ) (x : Issued) → IsLiveWrite since later now lease n x → (y : Issued) × IsLiveWrite rests time writes lease n y

pub none-shrinks : (rests since : ℕ → List ℕ) (time later : ℕ) (writes now : List Issued) (lease : ℕ) → Shrinks rests since time later writes now lease →
    NoneLive rests time writes lease → NoneLive since later now lease
none-shrinks rests since time later writes now lease shrinks none = λ n x is. let was = shrinks n x is in none n was.0 was.1

pub only-shrinks : (rests since : ℕ → List ℕ) (time later : ℕ) (writes now : List Issued) (lease : ℕ) (pending : Option ℕ) → Shrinks rests since time later writes now lease →
    LiveOnly rests time writes lease pending → LiveOnly since later now lease pending
only-shrinks rests since time later writes now lease pending shrinks only = λ n x is. let was = shrinks n x is in only n was.0 was.1

module _ (rests since : ℕ → List ℕ) (time later : ℕ) (writes now : List Issued) (lease : ℕ) (standing : LeaseRecord) (boot : ℕ) (pending : Option ℕ)
    (passed : time ≤ later) (shrinks : Shrinks rests since time later writes now lease) where
  mine-shrinks : (sample : ℕ) → Mine rests time writes lease standing boot sample → Mine since later now lease standing boot sample
  mine-shrinks sample mine = λ claim until there own is. none-shrinks rests since time later writes now lease shrinks (mine claim until there own is)

  written-shrinks : (claim : Claim) (until : ℕ) → IsWritten rests time writes lease standing boot claim until → IsWritten since later now lease standing boot claim until
  written-shrinks claim until is = record { own = is.own; ends = is.ends; limits = is.limits; mine = mine-shrinks claim.sample is.mine }

  -- the record stays, and no more writes are live
  pub good-shrinks : (hold : Hold) → Good rests time writes lease standing boot pending hold → Good since later now lease standing boot pending hold
  good-shrinks Nothing is = tt
  good-shrinks (Seen sample) is = record {
    waits = record { sampled = (let s = is.waits.sampled in omega arith); clear = is.waits.clear };
    mine = mine-shrinks sample is.mine;
  }
  good-shrinks (Wrote claim until) is = written-shrinks claim until is
  good-shrinks (Waited claim until) is = (written-shrinks claim until is.0, omega (arith, is.1))
  good-shrinks (Held claim until) is = record {
    own = is.own;
    limits = is.limits;
    waited = (let w = is.waited in omega arith);
    there = λ live. is.there (omega arith);
    only = λ live. only-shrinks rests since time later writes now lease pending shrinks (is.only (omega arith));
  }

module _ (rests : ℕ → List ℕ) (time : ℕ) (writes now : List Issued) (lease : ℕ) (standing changed : LeaseRecord) (boot : ℕ) (pending : Option ℕ)
    (none : NoneLive rests time now lease) (clears : (sample : ℕ) → sample ≤ time + 50 → SparesLease standing sample → SparesLease changed sample) where
  -- the record changes, where no other boot holds the lease
  pub good-changed : ((claim : Claim) (until : ℕ) → claim.sample + 551 ≤ time → time ≤ until + 50 → standing ≡ Claimed claim until → LiveOnly rests time writes lease pending → ⊥) →
      (hold : Hold) → Good rests time writes lease standing boot pending hold → Good rests time now lease changed boot pending hold
  good-changed unheld Nothing is = tt
  good-changed unheld (Seen sample) is = record {
    waits = record { sampled = is.waits.sampled; clear = clears sample is.waits.sampled is.waits.clear };
    mine = λ claim until there own same. none;
  }
  good-changed unheld (Wrote claim until) is = record { own = is.own; ends = is.ends; limits = is.limits; mine = λ c u there own same. none }
  good-changed unheld (Waited claim until) is = (record { own = is.0.own; ends = is.0.ends; limits = is.0.limits; mine = λ c u there own same. none }, is.1)
  good-changed unheld (Held claim until) is = record {
    own = is.own;
    limits = is.limits;
    waited = is.waited;
    there = λ live. absurd (unheld claim until is.waited live (is.there live) (is.only live));
    only = λ live. absurd (unheld claim until is.waited live (is.there live) (is.only live));
  }

-- a claim that may land meets no lease that still stands
pub claim-alone : (time : ℕ) (standing : LeaseRecord) (sample : ℕ) → time ≤ (sample + window) + 50 → Waits time standing sample → (claim : Claim) (until : ℕ) →
    claim.sample + 551 ≤ time → time ≤ until + 50 → standing ≡ Claimed claim until → ⊥
claim-alone time standing sample early waits claim until waited live there = no (subst (λ (r : LeaseRecord). SparesLease r sample) there waits.clear)
  where
    no : SparesLease (Claimed claim until) sample → ⊥
    no (inl past) = let s = waits.sampled in omega (arith, past, s, live)
    no (inr near) = omega (arith, near, waited, early)

-- after it, every other claim that may land has a sample near it
pub claim-clears : (time sample other : ℕ) (standing : LeaseRecord) (claim : Claim) (until : ℕ) → claim.sample ≡ sample → time ≤ (sample + window) + 50 → other ≤ time + 50 →
    SparesLease standing other → SparesLease (Claimed claim until) other
claim-clears time sample other standing claim until is early sampled clear = inr (omega (arith, is, early, sampled))

-- a renewal in time makes no expired lease of the record
pub renew-clears : (time : ℕ) (standing : LeaseRecord) (claim : Claim) (until next sample : ℕ) → standing ≡ Claimed claim until → time ≤ until + 50 → sample ≤ time + 50 →
    SparesLease standing sample → SparesLease (Claimed claim next) sample
renew-clears time standing claim until next sample there live sampled clear = go (subst (λ (r : LeaseRecord). SparesLease r sample) there clear)
  where
    go : SparesLease (Claimed claim until) sample → SparesLease (Claimed claim next) sample
    go (inl past) = absurd (omega (arith, past, live, sampled))
    go (inr near) = inr near

-- two records that stand are one claim
pub one-claim : (standing : LeaseRecord) (c d : Claim) (u v : ℕ) → standing ≡ Claimed c u → standing ≡ Claimed d v → (c ≡ d) × (u ≡ v)
one-claim standing c d u v one other = let e : Claimed c u ≡ Claimed d v = sym one ∙ other in (cc, cc)

-- ---- what a boot holds while it asks a write

pub grip_while-open : (kind : WriteKind) (here : Bool) (bytes : List ℕ) (hold : Hold) → grip_while kind here false bytes hold ≡ hold
grip_while-open kind.Release true bytes hold = refl
grip_while-open kind.Release false bytes hold = refl
grip_while-open kind.Renew true bytes hold = refl
grip_while-open kind.Renew false bytes hold = refl
grip_while-open other here bytes hold = refl

pub grip_while-away : (kind : WriteKind) (landed : Bool) (bytes : List ℕ) (hold : Hold) → grip_while kind false landed bytes hold ≡ hold
grip_while-away kind.Release landed bytes hold = refl
grip_while-away kind.Renew landed bytes hold = refl
grip_while-away other landed bytes hold = refl

-- a write of which the first sector hasn't landed changes nothing of it
pub grip-open : (place : Place) (pending : Option Issued) (lease : ℕ) (hold : Hold) → first_landed pending ≡ false → grip_at place pending lease hold ≡ hold
grip-open (Idle known) pending lease hold e = refl
grip-open (Begins known command) pending lease hold e = refl
grip-open (In known command (Ends end)) pending lease hold e = refl
grip-open (In known command (ReadThen block rest fault)) pending lease hold e = refl
grip-open (In known command (ClockThen rest)) pending lease hold e = refl
grip-open (In known command (UntilThen from rest)) pending lease hold e = refl
grip-open (In known command (WriteThen kind block bytes guard done fault missed)) pending lease hold e =
    ap (λ (b : Bool). grip_while kind (lease == block) b bytes hold) e ∙ grip_while-open kind (lease == block) bytes hold
