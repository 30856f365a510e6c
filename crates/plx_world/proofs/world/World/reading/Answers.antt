use Rattle.std.proofs.Common.{◌≡◌, None, false, true, ℕ, arith, refl, subst}
use Rattle.plx_rules.specs.World.{IsReadingAt}
use Rattle.plx_world.proofs.Stepping.{clocks-early, clocks-far, clocks-none, clocks-now, known-ask, waits-until}
use Rattle.plx_world.proofs.world.World.reading.Goals as goal

pub returns-in_ok-answer-in-Some-Clock-clause-ok : goal.returns-in_ok-answer-in-Some-Clock-clause-ok
returns-in_ok-answer-in-Some-Clock-clause-ok c =
    let near : c.is_near.result ≡ true = let no = c.if-not-is_near.false in cc in
    let now = c.time.ensures.time in
    let Q : ℕ → Type 0 = λ t. IsReadingAt c.args.reading t in
    clocks-now c.args.self.now c.answer.new.self c.args.appliance c.args.reading (λ w h. cc (c.in-Some-Clock.ensures.ask w h)) (subst Q now (c.is_near.ensures.0 near))
    (let e = c.time.ensures.early in omega arith) c.in_ok-answer-in-Some-Clock.ensures.ok

pub returns-in_ok-answer-in-Some-Until-clause-ok : goal.returns-in_ok-answer-in-Some-Until-clause-ok
returns-in_ok-answer-in-Some-Until-clause-ok c =
    let near : c.is_near.result ≡ true = let no = c.if-not-is_near.false in cc in
    let now = c.time.ensures.time in
    let Q : ℕ → Type 0 = λ t. IsReadingAt c.args.reading t in
    waits-until c.args.self.now c.answer-in-Some-Until.new.self c.args.appliance c.in-Some-Until.from c.args.reading (λ w h. cc (c.in-Some-Until.ensures.ask w h))
    (subst Q now (c.is_near.ensures.0 near)) (let e = c.time.ensures.early in omega arith) (omega arith) c.in_ok-answer-in-Some-Until.ensures.ok

pub returns-then-from-reading-clause-ok : goal.returns-then-from-reading-clause-ok
returns-then-from-reading-clause-ok c =
    let found = c.in-Some-Until in
    clocks-early c.args.self.now c.args.appliance found.from c.args.reading (known-ask c.args.self.now c.args.appliance found.field-0 _ found.ensures.ask found.field-0-is) c.if-from-reading.true

pub returns-then-not-is_near-clause-ok : goal.returns-then-not-is_near-clause-ok
returns-then-not-is_near-clause-ok c =
    let far : c.is_near.result ≡ false = let no = c.if-not-is_near.true in cc in
    clocks-far c.args.self.now c.args.appliance c.args.reading c.time.result c.is_near.result c.time.ensures.time far c.is_near.ensures.1

pub returns-in-Some-Read-clause-ok : goal.returns-in-Some-Read-clause-ok
returns-in-Some-Read-clause-ok c =
    let found = c.in-Some-Read in
    clocks-none c.args.self.now c.args.appliance c.args.reading _ (known-ask c.args.self.now c.args.appliance found.field-0 _ found.ensures.ask found.field-0-is) refl

pub returns-in-Some-Write-clause-ok : goal.returns-in-Some-Write-clause-ok
returns-in-Some-Write-clause-ok c =
    let found = c.in-Some-Write in
    clocks-none c.args.self.now c.args.appliance c.args.reading _ (known-ask c.args.self.now c.args.appliance found.field-0 _ found.ensures.ask found.field-0-is) refl

pub returns-in-None-clause-ok : goal.returns-in-None-clause-ok
returns-in-None-clause-ok c = clocks-none c.args.self.now c.args.appliance c.args.reading None c.in-None.ensures.ask refl
