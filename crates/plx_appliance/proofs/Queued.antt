-- The renewals of leases that are held, from the last lease down.
use Rattle.std.proofs.Common.{◌≡◌, ℕ, suc, ◌+◌, ◌-◌, List, [], ◌∷◌, ◌++◌, Option, Some, None, refl, ap, ◌∙◌, subst, arith}
use Rattle.std.specs.Prelude.{IfSome}
use Rattle.plx_commands.specs.declared.reply.Reply.TheVariants as reply
use Rattle.plx_geom.specs.Geometry.{lease_at}
use Rattle.plx_rules.specs.Process.{Process}
use Rattle.plx_rules.specs.Commands.{renew_process, renewal}
use Rattle.plx_rules.specs.Ends.{End, ends}
use Rattle.plx_rules.specs.Holds.{Hold}
use Rattle.plx_rules.specs.Session.{Known}
use Rattle.plx_rules.specs.Settings.{Setting}
use Rattle.plx_lease.specs.Renewing.{renewal_hold}
use Rattle.plx_lease.specs.declared.renewal.LeaseRenewal.{LeaseRenewal}
use Rattle.plx_appliance.specs.Renews.{AreHeld, renewal_if, renewal_then, renewals_then, with_next}
use Rattle.plx_appliance.proofs.Renewed.{held-less, held-more, renewals-last}

-- of `all` leases the list has the renewals of the last `count`, which are those from `low` on
pub record IsQueued (all : ℕ) (holds : ℕ → Hold) (reading : ℕ) (list : List LeaseRenewal) (count low : ℕ) : Type 0 where
  pub process : (s : Setting) (known : Known) → renewals_then s known list (ends reply.Renewed known) ≡ renew_process s known holds reading count low
  pub held : AreHeld low all (λ lease. holds (lease_at lease)) list

pub queued-none : (all : ℕ) (holds : ℕ → Hold) (reading : ℕ) → IsQueued all holds reading [] 0 (all - 0)
queued-none all holds reading = record { process = λ s known. refl; held = omega arith }

-- one lease more
next-process : (s : Setting) (known : Known) (holds : ℕ → Hold) (reading count lease : ℕ) →
    renewal s known reading lease (holds (lease_at lease)) (renew_process s known holds reading count (lease + 1)) ≡ renew_process s known holds reading (count + 1) lease
next-process s known holds reading count lease =
    let more : suc count ≡ count + 1 = omega arith in
    ap (λ (left : ℕ). renew_process s known holds reading left lease) more

-- one that isn't held
queued-less : (all : ℕ) (holds : ℕ → Hold) (reading lease count : ℕ) (list : List LeaseRenewal) → IsQueued all holds reading list count (lease + 1) →
    ((s : Setting) (known : Known) (rest : Process End) → rest ≡ renewal s known reading lease (holds (lease_at lease)) rest) →
    IsQueued all holds reading list (count + 1) lease
queued-less all holds reading lease count list h none = record {
  process = λ s known. h.process s known ∙ none s known (renew_process s known holds reading count (lease + 1)) ∙ next-process s known holds reading count lease;
  held = held-less lease all (λ lease. holds (lease_at lease)) list h.held;
}

-- one that is
queued-more : (all : ℕ) (holds : ℕ → Hold) (reading lease count : ℕ) (list : List LeaseRenewal) (r : LeaseRenewal) → IsQueued all holds reading list count (lease + 1) →
    ((s : Setting) (known : Known) (rest : Process End) → renewal_then s known r rest ≡ renewal s known reading lease (holds (lease_at lease)) rest) →
    r.number ≡ lease → holds (lease_at lease) ≡ renewal_hold r → IsQueued all holds reading (list ++ r ∷ []) (count + 1) lease
queued-more all holds reading lease count list r h some same hold = record {
  process = λ s known. renewals-last s known list r (ends reply.Renewed known) ∙ ap (renewal_then s known r) (h.process s known)
      ∙ some s known (renew_process s known holds reading count (lease + 1)) ∙ next-process s known holds reading count lease;
  held = held-more lease all (λ lease. holds (lease_at lease)) list r h.held same (ap (λ (n : ℕ). holds (lease_at n)) same ∙ hold);
}

by-found : (all : ℕ) (holds : ℕ → Hold) (reading lease count : ℕ) (list : List LeaseRenewal) (found : Option LeaseRenewal) → IsQueued all holds reading list count (lease + 1) →
    ((s : Setting) (known : Known) (rest : Process End) → renewal_if s known found rest ≡ renewal s known reading lease (holds (lease_at lease)) rest) →
    IfSome found (λ r. r.number ≡ lease) → IfSome found (λ r. holds (lease_at lease) ≡ renewal_hold r) → IsQueued all holds reading (with_next list found) (count + 1) lease
by-found all holds reading lease count list None h process same hold = queued-less all holds reading lease count list h process
by-found all holds reading lease count list (Some r) h process same hold = queued-more all holds reading lease count list r h process same hold

pub queued-next : (all : ℕ) (holds : ℕ → Hold) (reading lease count : ℕ) (list : List LeaseRenewal) (found : Option LeaseRenewal) → lease + (count + 1) ≡ all →
    IsQueued all holds reading list count (all - count) →
    ((s : Setting) (known : Known) (rest : Process End) → renewal_if s known found rest ≡ renewal s known reading lease (holds (lease_at lease)) rest) →
    IfSome found (λ r. r.number ≡ lease) → IfSome found (λ r. holds (lease_at lease) ≡ renewal_hold r) →
    IsQueued all holds reading (with_next list found) (count + 1) (all - (count + 1))
queued-next all holds reading lease count list found is h process same hold =
    let low : all - count ≡ lease + 1 = omega (arith, is) in
    let here : lease ≡ all - (count + 1) = omega (arith, is) in
    subst (λ (n : ℕ). IsQueued all holds reading (with_next list found) (count + 1) n) here
    (by-found all holds reading lease count list found (subst (λ (n : ℕ). IsQueued all holds reading list count n) low h) process same hold)

-- those of all leases
pub queued-all : (all : ℕ) (holds : ℕ → Hold) (reading : ℕ) (list : List LeaseRenewal) (count : ℕ) → count ≡ all →
    IsQueued all holds reading list count (all - count) → IsQueued all holds reading list all 0
queued-all all holds reading list count is h =
    let none : all - count ≡ 0 = omega (arith, is) in
    subst (λ (n : ℕ). IsQueued all holds reading list n 0) is (subst (λ (n : ℕ). IsQueued all holds reading list count n) none h)
