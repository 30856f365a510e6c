use Rattle.std.proofs.Common.{ℕ, arith}
use Rattle.std.proofs.lemmas.Bool.{false≢true}
use Rattle.plx_geom.specs.Geometry.{Geometry}
use Rattle.plx_text.proofs.Worlds.{after-four, after-three, none-of, six-words, geometry-spelled}
use Rattle.plx_text.specs.Schedules.{SpellsWorld, world_of}
use Rattle.plx_text.proofs.event.read_parts.Goals as goal

pub returns-in_err-extent_blocks : goal.returns-in_err-extent_blocks
returns-in_err-extent_blocks c = rw c.from_residual-in_err-extent_blocks.ensures (none-of (λ (world : Geometry × ℕ). SpellsWorld world c.args.words.now) (world_of c.args.words.now)
    (λ world spells. c.in_err-extent_blocks.ensures.none world.0.extent_blocks _ (omega (arith, spells.0.1.1.1.0.1))
    (after-three _ _ _ _ _ _ _ _ _ _ _ c.in_ok-exactly.ensures.some c.in_ok-images.ensures.some.1 c.in_ok-extents.ensures.some.1 spells.1)))

pub returns-in_err-slots : goal.returns-in_err-slots
returns-in_err-slots c = rw c.from_residual-in_err-slots.ensures (none-of (λ (world : Geometry × ℕ). SpellsWorld world c.args.words.now) (world_of c.args.words.now)
    (λ world spells. c.in_err-slots.ensures.none world.0.slots _ (omega (arith, spells.0.1.1.1.1.0.1))
    (after-four _ _ _ _ _ _ _ _ _ _ _ _ _ _ c.in_ok-exactly.ensures.some c.in_ok-images.ensures.some.1 c.in_ok-extents.ensures.some.1
    c.in_ok-extent_blocks.ensures.some.1 spells.1)))

pub returns-in_default : goal.returns-in_default
returns-in_default c = none-of (λ (world : Geometry × ℕ). SpellsWorld world c.args.words.now) (world_of c.args.words.now)
    (λ world spells. false≢true (c.in_default.ensures.limits.1
    (geometry-spelled world c.args.words.now c.in_ok-images.images c.in_ok-extents.extents c.in_ok-extent_blocks.extent_blocks c.in_ok-slots.slots c.in_ok-appliances.appliances
    c.in_ok-images.ensures.some.0 c.in_ok-extents.ensures.some.0 c.in_ok-extent_blocks.ensures.some.0 c.in_ok-slots.ensures.some.0 (omega (arith, c.in_ok-appliances.ensures.some.1))
    (six-words _ _ _ _ _ _ _ _ _ _ _ _ c.in_ok-exactly.ensures.some c.in_ok-images.ensures.some.1 c.in_ok-extents.ensures.some.1
    c.in_ok-extent_blocks.ensures.some.1 c.in_ok-slots.ensures.some.1 c.in_ok-appliances.ensures.some.2)
    spells)))
