-- A take begins and goes on by its rules.
use Rattle.std.proofs.Common.{◌≡◌}
use Rattle.plx_disk.specs.declared.ask.Answer.{Answer}
use Rattle.plx_rules.specs.Ends.{End}
use Rattle.plx_rules.specs.Process.{Process, answered}
use Rattle.law_run.proofs.Machines.{comes-first, moves-on}
use Rattle.law_run.proofs.TakeRules.{take-end}
use Rattle.plx_alloc.specs.TakeEnds.{BeginsRightly, MovesOnRightly}

pub begins-rightly : (start rest : Process End) → rest ≡ start → BeginsRightly start rest
begins-rightly start rest is = record { log = comes-first start rest is; end = take-end rest }

pub moves-on-rightly : (old : Process End) (x : Answer) (new : Process End) → new ≡ answered old x → MovesOnRightly old x new
moves-on-rightly old x new is = record { log = moves-on old x new is; end = take-end new }
