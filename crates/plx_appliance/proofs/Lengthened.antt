-- A renew that was answered: what is kept of the leases, and the renewals that are left.
use Rattle.std.proofs.Common.{◌≡◌, ℕ, zero, suc, ◌-◌, ◌<◌, ◌≤◌, List, [], ◌∷◌, ◌++◌, Option, None, inl, inr, refl, sym, ap, ◌∙◌, subst, arith}
use Rattle.std.specs.Prelude.{Bool, true, false, nat_le, nat_lt, if◌then◌else◌}
use Rattle.std.proofs.lemmas.Bool.Decides.{eqb_tells, nat_tests}
use Rattle.plx_base.specs.declared.lease.LeaseName.{LeaseName}
use Rattle.plx_base.specs.declared.lease.LeaseName.TheVariants.{Image, Extent}
use Rattle.plx_alloc.specs.Tables.{extent_leases as extents_of}
use Rattle.plx_commands.specs.Places.{at}
use Rattle.plx_commands.proofs.Places.{at-same, at-other}
use Rattle.plx_commands.specs.declared.reply.Reply.{Reply}
use Rattle.plx_disk.specs.declared.ask.Answer.{Answer}
use Rattle.plx_disk.specs.declared.ask.Answer.TheVariants as answer
use Rattle.plx_geom.specs.Geometry.{Geometry, extent_lease, image_lease, lease_at, lease_count, root_lease}
use Rattle.plx_gate.specs.Leases.{read_lease}
use Rattle.plx_rules.specs.Boot.{Fits}
use Rattle.plx_rules.specs.Commands.{later_of}
use Rattle.plx_rules.specs.Holds.{Hold, Nothing, Seen, Wrote, Waited, Held, after_answer, hold_after_renewal}
use Rattle.plx_rules.specs.InUse.{lease_name}
use Rattle.plx_rules.specs.Process.{bytes_out}
use Rattle.plx_lease.specs.Renewing.{longer_hold, renewal_ask, renewal_hold, renewal_rest}
use Rattle.plx_lease.specs.declared.renewal.LeaseRenewal.{LeaseRenewal}
use Rattle.plx_lease.proofs.Own.{renewed-own}
use Rattle.plx_appliance.specs.Holding.{HoldsAs, image_leases_after_write, hold_without_claim}
use Rattle.plx_appliance.specs.Lent.{Lent}
use Rattle.plx_appliance.specs.Renews.{AreHeld, IsRenewing, RenewMoves, longer_extents, longer_images}
use Rattle.plx_appliance.specs.declared.renew.Renew.{Renew}
use Rattle.plx_appliance.specs.Tokens.{lease_holds_at}
use Rattle.plx_session.specs.declared.setting.Setting.{Setting}
use Rattle.plx_appliance.proofs.Entered.{held-extent, held-image, held-root}
use Rattle.plx_appliance.proofs.Held.{nothing-at}
use Rattle.plx_appliance.proofs.Moved.{holds-extent, holds-one}
use Rattle.plx_appliance.proofs.Renewed.{last-held, others-held}

-- ---- one lease is held longer

-- what is held by a log, once this lease is held up to a moment, where that is the later one
abbrev pub longer_at : (lease end : ℕ) → (holds : ℕ → Hold) → ℕ → Hold
longer_at lease end holds = at holds (lease_at lease) (longer_hold end (holds (lease_at lease)))

settled-longer : (end : ℕ) (hold : Hold) → hold_without_claim (longer_hold end hold) ≡ longer_hold end (hold_without_claim hold)
settled-longer end Nothing = refl
settled-longer end (Seen sample) = refl
settled-longer end (Wrote claim until) = refl
settled-longer end (Waited claim until) = refl
settled-longer end (Held claim until) = refl

-- of the lease itself
own-longer : (lease end : ℕ) (holds : ℕ → Hold) (hold : Hold) → hold_without_claim (holds (lease_at lease)) ≡ hold → hold_without_claim (longer_at lease end holds (lease_at lease)) ≡ longer_hold end hold
own-longer lease end holds hold is =
    ap hold_without_claim (at-same holds (lease_at lease) (longer_hold end (holds (lease_at lease)))) ∙ settled-longer end (holds (lease_at lease)) ∙ ap (longer_hold end) is

-- the root's is never held
root-longer : (g : Geometry) (end : ℕ) (leases extents holds : ℕ → Hold) → HoldsAs g leases extents holds → HoldsAs g leases extents (longer_at root_lease end holds)
root-longer g end leases extents holds h = λ lease low. elim (eqb_tells lease root_lease) [
  | inl same ↦ ap (λ (n : ℕ). hold_without_claim (longer_at root_lease end holds (lease_at n))) same.1
      ∙ own-longer root_lease end holds Nothing (h root_lease (omega arith) ∙ held-root g leases extents)
      ∙ sym (held-root g leases extents) ∙ ap (λ (n : ℕ). lease_holds_at g leases extents (lease_at n)) (sym same.1)
  | inr other ↦ ap hold_without_claim (at-other holds (lease_at root_lease) (lease_at lease) (longer_hold end (holds (lease_at root_lease))) (λ e. other.1 (omega (arith, e)))) ∙ h lease low
]

image-longer : (g : Geometry) (slot end : ℕ) (leases extents holds : ℕ → Hold) → slot < g.images → HoldsAs g leases extents holds →
    HoldsAs g (at leases slot (longer_hold end (leases slot))) extents (longer_at (image_lease slot) end holds)
image-longer g slot end leases extents holds within h =
    let block = lease_at (image_lease slot) in
    let longer = longer_hold end (leases slot) in
    holds-one g slot leases (at leases slot longer) extents holds (longer_at (image_lease slot) end holds) within h
    (own-longer (image_lease slot) end holds (leases slot) (h (image_lease slot) (omega (arith, within)) ∙ held-image g leases extents slot within) ∙ sym (at-same leases slot longer))
    (λ other ne. at-other leases slot other longer ne)
    (λ b ne. ap hold_without_claim (at-other holds block b (longer_hold end (holds block)) ne))

extent-longer : (g : Geometry) (extent end : ℕ) (leases extents holds : ℕ → Hold) → extent < g.extents → HoldsAs g leases extents holds →
    HoldsAs g leases (at extents extent (longer_hold end (extents extent))) (longer_at (extent_lease g extent) end holds)
extent-longer g extent end leases extents holds within h =
    let block = lease_at (extent_lease g extent) in
    let longer = longer_hold end (extents extent) in
    holds-extent g extent leases extents (at extents extent longer) holds (longer_at (extent_lease g extent) end holds) h
    (own-longer (extent_lease g extent) end holds (extents extent) (h (extent_lease g extent) (omega (arith, within)) ∙ held-extent g leases extents extent) ∙ sym (at-same extents extent longer))
    (λ other ne. at-other extents extent other longer ne)
    (λ b ne. ap hold_without_claim (at-other holds block b (longer_hold end (holds block)) ne))

-- by its name
longer-holds : (g : Geometry) (lease end : ℕ) (leases extents holds : ℕ → Hold) → lease < lease_count g → HoldsAs g leases extents holds →
    HoldsAs g (longer_images (lease_name g lease) end leases) (longer_extents (lease_name g lease) end extents) (longer_at lease end holds)
longer-holds g zero end leases extents holds within h = root-longer g end leases extents holds h
longer-holds g (suc number) end leases extents holds within h = by_test (nat_lt number g.images) refl
  where
    named : (b : Bool) (name : LeaseName) → nat_lt number g.images ≡ b → (if b then Image (record { 0 = number }) else Extent (record { 0 = number - g.images })) ≡ name →
        HoldsAs g (longer_images name end leases) (longer_extents name end extents) (longer_at (suc number) end holds) →
        HoldsAs g (longer_images (lease_name g (suc number)) end leases) (longer_extents (lease_name g (suc number)) end extents) (longer_at (suc number) end holds)
    named b name test is held =
        subst (λ (n : LeaseName). HoldsAs g (longer_images n end leases) (longer_extents n end extents) (longer_at (suc number) end holds))
        (sym (ap (λ (t : Bool). if t then Image (record { 0 = number }) else Extent (record { 0 = number - g.images })) test ∙ is)) held

    by_test : (b : Bool) → nat_lt number g.images ≡ b →
        HoldsAs g (longer_images (lease_name g (suc number)) end leases) (longer_extents (lease_name g (suc number)) end extents) (longer_at (suc number) end holds)
    by_test true is =
        let same : image_lease number ≡ suc number = omega arith in
        named true (Image (record { 0 = number })) is refl
        (subst (λ (n : ℕ). HoldsAs g (at leases number (longer_hold end (leases number))) extents (longer_at n end holds)) same
        (image-longer g number end leases extents holds (grind (arith, nat_tests, is)) h))
    by_test false is =
        let past : g.images ≤ number = grind (arith, nat_tests, is) in
        let extent = number - g.images in
        let same : extent_lease g extent ≡ suc number = omega (arith, past) in
        named false (Extent (record { 0 = extent })) is refl
        (subst (λ (n : ℕ). HoldsAs g leases (at extents extent (longer_hold end (extents extent))) (longer_at n end holds)) same
        (extent-longer g extent end leases extents holds (omega (arith, past, within)) h))

-- ---- a renewal was answered

-- the later of two moments in order
later-end : (one other : ℕ) → one ≤ other → later_of one other ≡ other
later-end one other h = by_test (nat_le one other) refl
  where
    by_test : (b : Bool) → nat_le one other ≡ b → (if b then other else one) ≡ other
    by_test true e = refl
    by_test false e = grind (arith, nat_tests)

-- once a renewal is written, its lease is held longer
written-longer : (r : LeaseRenewal) (hold : Hold) → hold ≡ renewal_hold r → hold_after_renewal (read_lease (bytes_out (renewal_rest r))) ≡ longer_hold r.later hold
written-longer r hold is = renewed-own r ∙ ap (Held r.claim) (sym (later-end r.until r.later r.after)) ∙ ap (longer_hold r.later) (sym is)

pub renewed-holds : (g : Geometry) (old new : Renew) (a : Answer) (before after : Lent) (holds : ℕ → Hold) (sample : Option ℕ) (result : Option Reply) →
    old.setting.geometry ≡ g → Fits (renewal_ask old.renewal) a → HoldsAs g before.leases (extents_of before.space) holds → IsRenewing old (λ lease. holds (lease_at lease)) →
    RenewMoves old new a before after result →
    HoldsAs g (image_leases_after_write (renewal_ask old.renewal) a after.leases) (image_leases_after_write (renewal_ask old.renewal) a (extents_of after.space)) (after_answer sample (renewal_ask old.renewal) (bytes_out (renewal_rest old.renewal)) a holds)
renewed-holds g old new answer.Done before after holds sample result same fits h i m =
    let r = old.renewal in
    let lease = r.number in
    let last = last-held 0 (lease_count old.setting.geometry) (λ lease. holds (lease_at lease)) old.left.items r i in
    let within : lease < lease_count g = subst (λ (k : Geometry). lease < lease_count k) same last.0 in
    let there : longer_at lease r.later holds ≡ at holds (lease_at lease) (hold_after_renewal (read_lease (bytes_out (renewal_rest r)))) =
    ap (at holds (lease_at lease)) (sym (written-longer r (holds (lease_at lease)) last.1)) in
    let longer = subst (λ (k : Geometry). HoldsAs g (longer_images (lease_name k lease) r.later before.leases) (longer_extents (lease_name k lease) r.later (extents_of before.space)) (longer_at lease r.later holds)) (sym same)
    (longer-holds g lease r.later before.leases (extents_of before.space) holds within h) in
    subst (λ (t : ℕ → Hold). HoldsAs g after.leases (extents_of after.space) t) there
    (subst (λ (ls : ℕ → Hold). HoldsAs g ls (extents_of after.space) (longer_at lease r.later holds)) (sym m.images)
    (subst (λ (es : ℕ → Hold). HoldsAs g (longer_images (lease_name old.setting.geometry lease) r.later before.leases) es (longer_at lease r.later holds)) (sym m.extents) longer))
renewed-holds g old new answer.Fault before after holds sample result same fits h i m = λ lease low. nothing-at g (lease_at lease)
renewed-holds g old new (answer.Missed r) before after holds sample result same fits h i m = λ lease low. nothing-at g (lease_at lease)
renewed-holds g old new (answer.Bytes b) before after holds sample result same fits h i m = absurd fits
renewed-holds g old new (answer.Reading r) before after holds sample result same fits h i m = absurd fits

pub renewed-inside : (old new : Renew) (a : Answer) (before after : Lent) (holds : ℕ → Hold) (sample : Option ℕ) (result : Option Reply) →
    Fits (renewal_ask old.renewal) a → IsRenewing old (λ lease. holds (lease_at lease)) → RenewMoves old new a before after result → result ≡ None →
    IsRenewing new (λ lease. after_answer sample (renewal_ask old.renewal) (bytes_out (renewal_rest old.renewal)) a holds (lease_at lease))
renewed-inside old new answer.Done before after holds sample result fits i m none =
    let r = old.renewal in
    let leases = λ (lease : ℕ). holds (lease_at lease) in
    let bytes = bytes_out (renewal_rest r) in
    let now = λ (lease : ℕ). at holds (lease_at r.number) (hold_after_renewal (read_lease bytes)) (lease_at lease) in
    let left = others-held 0 (lease_count old.setting.geometry) leases now old.left.items r i
    (λ lease ne. at-other holds (lease_at r.number) (lease_at lease) (hold_after_renewal (read_lease bytes)) (λ e. ne (omega (arith, e)))) in
    subst (λ (st : Setting). AreHeld 0 (lease_count st.geometry) now (new.left.items ++ new.renewal ∷ [])) (sym m.setting)
    (subst (λ (items : List LeaseRenewal). AreHeld 0 (lease_count old.setting.geometry) now items) (m.goes_on none) left)
renewed-inside old new answer.Fault before after holds sample result fits i m none = absurd (m.goes_on none)
renewed-inside old new (answer.Missed r) before after holds sample result fits i m none = absurd (m.goes_on none)
renewed-inside old new (answer.Bytes b) before after holds sample result fits i m none = absurd fits
renewed-inside old new (answer.Reading r) before after holds sample result fits i m none = absurd fits
