-- What is lent of space, as its machines see it, is what the definitions ask of.
use Rattle.std.proofs.Common.{◌≡◌, ℕ, ◌+◌, ◌-◌, [], sym, ap, ◌∙◌, subst, arith}
use Rattle.plx_base.specs.declared.numbers.Boot.{Boot}
use Rattle.plx_geom.specs.Geometry.{Geometry, extent_lease, lease_at}
use Rattle.plx_rules.specs.Ends.{End}
use Rattle.plx_rules.specs.Process.{Process}
use Rattle.plx_rules.specs.Holds.{Hold}
use Rattle.plx_rules.specs.Settings.{Setting}
use Rattle.plx_rules.specs.Space.{reserve_process, retire_extents}
use Rattle.plx_alloc.specs.Tables.{hand_numbers, holds_of}
use Rattle.plx_alloc.specs.Tables.{allocator_setting as space_given}
use Rattle.plx_alloc.specs.Tables.{extent_holds_at as space_held}
use Rattle.plx_session.specs.Giving.{rules_setting}
use Rattle.plx_appliance.specs.Kept.{known_of}
use Rattle.plx_appliance.specs.RenewStarts.{holds_in, leases_in}
use Rattle.plx_appliance.specs.Space.{extents_in, hand_in}
use Rattle.plx_appliance.specs.Tokens.{lease_holds_at}
use Rattle.plx_appliance.specs.declared.holdings.Holdings.{Holdings}
use Rattle.plx_appliance.proofs.Entered.{held-extent}
use Rattle.plx_appliance.proofs.SpaceBegins.{AreSameExtents, extents-agree, reserve-agrees}

abbrev setting_by : Geometry → (appliance boot : ℕ) → Setting
setting_by g appliance boot = record { geometry = g; appliance = appliance; boot = boot }

-- the setting
pub same-given : (h : Holdings) → space_given h.setting.appliance.0 h.space ≡ rules_setting h.setting
same-given h =
    ap (λ (g : Geometry). setting_by g h.setting.appliance.0 h.space.boot.0) h.geometry
    ∙ ap (λ (b : Boot). setting_by h.setting.geometry h.setting.appliance.0 b.0) h.boot

-- the lease of an extent, by its block
held-space : (g : Geometry) (leases extents : ℕ → Hold) → AreSameExtents g (space_held g extents) (lease_holds_at g leases extents)
held-space g leases extents extent within =
    let back : lease_at (extent_lease g extent) - (2 + g.images) ≡ extent = omega arith in
    ap extents back ∙ sym (held-extent g leases extents extent)

same-holds : (h : Holdings) → AreSameExtents h.setting.geometry (holds_of h.space) (holds_in h)
same-holds h =
    subst (λ (g : Geometry). AreSameExtents h.setting.geometry (space_held g (extents_in h)) (holds_in h)) (sym h.geometry)
    (held-space h.setting.geometry (leases_in h) (extents_in h))

-- a reserve
pub reserve-lent : (h : Holdings) (count : ℕ) →
    reserve_process (space_given h.setting.appliance.0 h.space) (known_of h) (holds_of h.space) (hand_numbers h.space) count
    ≡ reserve_process (rules_setting h.setting) (known_of h) (holds_in h) (hand_in h) count
reserve-lent h count =
    ap (λ (s : Setting). reserve_process s (known_of h) (holds_of h.space) (hand_numbers h.space) count) (same-given h)
    ∙ reserve-agrees (rules_setting h.setting) (known_of h) (holds_of h.space) (holds_in h) (hand_in h) count (same-holds h)

-- the extents of a retire
pub retire-lent : (h : Holdings) (rest : Process End) →
    retire_extents (space_given h.setting.appliance.0 h.space) (known_of h) [] (holds_of h.space) (hand_numbers h.space) h.space.geometry.extents 0 rest
    ≡ retire_extents (rules_setting h.setting) (known_of h) [] (holds_in h) (hand_in h) h.setting.geometry.extents 0 rest
retire-lent h rest =
    ap (λ (s : Setting). retire_extents s (known_of h) [] (holds_of h.space) (hand_numbers h.space) h.space.geometry.extents 0 rest) (same-given h)
    ∙ ap (λ (g : Geometry). retire_extents (rules_setting h.setting) (known_of h) [] (holds_of h.space) (hand_numbers h.space) g.extents 0 rest) h.geometry
    ∙ extents-agree (rules_setting h.setting) (known_of h) [] (holds_of h.space) (holds_in h) (hand_in h) h.setting.geometry.extents 0 rest (same-holds h) (omega arith)
