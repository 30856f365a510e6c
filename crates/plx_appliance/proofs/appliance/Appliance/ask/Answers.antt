use Rattle.std.proofs.Common.{◌≡◌, sym, ap, ◌∙◌, subst}
use Rattle.plx_geom.specs.Geometry.{Geometry}
use Rattle.plx_rules.specs.Boot.{configuration}
use Rattle.plx_alloc.specs.Asking.{IsOnDevice}
use Rattle.plx_appliance.specs.Appliance.{StandsAt, appliance_setting}
use Rattle.plx_appliance.specs.Lent.{lent_of}
use Rattle.plx_appliance.specs.Ties.{stage_setting, stage_suits}
use Rattle.plx_appliance.specs.declared.appliance.Stage.{Stage}
use Rattle.plx_session.specs.declared.setting.Setting.{Setting}
use Rattle.plx_appliance.proofs.appliance.Appliance.ask.Goals as goal

pub returns-in-In-clause-within : goal.returns-in-In-clause-within
returns-in-In-clause-within c = λ log stands.
    let a = c.args.self.now in
    let p = configuration (appliance_setting a) log in
    let i = subst (λ (st : Stage). StandsAt (appliance_setting a) (lent_of a.holdings) st p) c.in-In.is stands.at in
    let tied = subst (λ (st : Stage). stage_setting a.holdings.setting st ≡ a.holdings.setting) c.in-In.is a.same in
    let suits = subst (λ (st : Stage). stage_suits a.holdings.space st) c.in-In.is a.suits in
    let same = ap (λ (st : Setting). st.geometry) tied in
    subst (λ (g : Geometry). IsOnDevice g c.ask.result) same
    (c.ask.ensures.within a.holdings.space p.holds p.sample p.found suits (a.holdings.geometry ∙ sym same) i.inside)
