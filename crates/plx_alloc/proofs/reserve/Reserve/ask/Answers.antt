use Rattle.std.proofs.Common.{rules, ◌≡◌, Some}
use Rattle.plx_base.specs.declared.write_kind.WriteKind.TheVariants as kind
use Rattle.plx_disk.specs.declared.ask.Ask.TheVariants as ask
use Rattle.plx_rules.specs.Process.{standing}
use Rattle.law_run.proofs.TakeRules.{take-ask}
use Rattle.plx_alloc.specs.Takes.{reserve_rest}
use Rattle.plx_alloc.proofs.reserve.Reserve.ask.Goals as goal

pub returns-in-Map-clause-rules : goal.returns-in-Map-clause-rules
returns-in-Map-clause-rules c = λ o a.
    let m = c.args.self.now in
    let stands : Some (ask.Read m.map) ≡ standing (reserve_rest o a m) = search rules in
    take-ask (reserve_rest o a m) (ask.Read m.map) stands

pub returns-in-Write-clause-rules : goal.returns-in-Write-clause-rules
returns-in-Write-clause-rules c = λ o a.
    let m = c.args.self.now in
    let stands : Some (ask.Write kind.Take m.map m.until) ≡ standing (reserve_rest o a m) = search rules in
    take-ask (reserve_rest o a m) (ask.Write kind.Take m.map m.until) stands

pub returns-in-Claim-clause-rules : goal.returns-in-Claim-clause-rules
returns-in-Claim-clause-rules c = λ o a.
    let m = c.args.self.now in
    let stands : Some c.ask.result ≡ standing (reserve_rest o a m) = search rules in
    take-ask (reserve_rest o a m) c.ask.result stands

pub returns-in-Damaged-clause-rules : goal.returns-in-Damaged-clause-rules
returns-in-Damaged-clause-rules c = λ o a.
    let m = c.args.self.now in
    let stands : Some ask.Clock ≡ standing (reserve_rest o a m) = search rules in
    take-ask (reserve_rest o a m) ask.Clock stands
