use Rattle.std.proofs.Common.{◌≡◌, None, Option, false, true, ℕ, arith, refl, subst}
use Rattle.std.specs.Prelude.{is_some}
use Rattle.plx_rules.specs.World.{IsReadingAt}
use Rattle.plx_world.proofs.Stepping.{IsWaitedFor, known-ask, misses-early, misses-none, misses-write, none-pending}
use Rattle.plx_world.proofs.world.World.miss.Goals as goal

pub returns-in_ok-answer-in-Some-Write-clause-ok : goal.returns-in_ok-answer-in-Some-Write-clause-ok
returns-in_ok-answer-in-Some-Write-clause-ok c =
    let old = c.args.self.now in
    let asked = c.in-Some-Write in
    let near : c.is_near.result ≡ true = let no = c.if-not-is_near.false in cc in
    let none : is_some c.pending.result ≡ false = let is = c.is_some.ensures in let no = c.if-is_some.false in cc in
    let P : Option ℕ → Type 0 = λ p. IsWaitedFor old c.args.appliance p in
    let now = c.time.ensures.time in
    let Q : ℕ → Type 0 = λ t. IsReadingAt c.args.reading t in
    misses-write old c.answer.new.self c.args.appliance asked.field-0-0 asked.field-0-1 asked.guard c.args.reading (λ w h. cc (asked.ensures.ask w h))
    (subst P (none-pending c.pending.result none) c.pending.ensures) (omega arith) (subst Q now (c.is_near.ensures.0 near)) (let e = c.time.ensures.early in omega arith)
    c.in_ok-answer-in-Some-Write.ensures.ok

pub returns-then-reading-guard-clause-ok : goal.returns-then-reading-guard-clause-ok
returns-then-reading-guard-clause-ok c =
    let asked = c.in-Some-Write in
    misses-early c.args.self.now c.args.appliance c.args.reading asked.field-0-0 asked.field-0-1 asked.guard (λ w h. cc (asked.ensures.ask w h)) (omega arith)

pub returns-in-Some-Read-clause-ok : goal.returns-in-Some-Read-clause-ok
returns-in-Some-Read-clause-ok c =
    let found = c.in-Some-Read in
    misses-none c.args.self.now c.args.appliance c.args.reading _ (known-ask c.args.self.now c.args.appliance found.field-0 _ found.ensures.ask found.field-0-is) refl

pub returns-in-Some-Clock-clause-ok : goal.returns-in-Some-Clock-clause-ok
returns-in-Some-Clock-clause-ok c =
    let found = c.in-Some-Clock in
    misses-none c.args.self.now c.args.appliance c.args.reading _ (known-ask c.args.self.now c.args.appliance found.field-0 _ found.ensures.ask found.field-0-is) refl

pub returns-in-Some-Until-clause-ok : goal.returns-in-Some-Until-clause-ok
returns-in-Some-Until-clause-ok c =
    let found = c.in-Some-Until in
    misses-none c.args.self.now c.args.appliance c.args.reading _ (known-ask c.args.self.now c.args.appliance found.field-0 _ found.ensures.ask found.field-0-is) refl

pub returns-in-None-clause-ok : goal.returns-in-None-clause-ok
returns-in-None-clause-ok c = misses-none c.args.self.now c.args.appliance c.args.reading None c.in-None.ensures.ask refl
