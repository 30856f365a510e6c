-- An example: a block is taken, and is in hand.
use Rattle.std.specs.Prelude.{◌<◌, ℕ}
use Rattle.plx_rules.specs.Pools.{HasInHand}
use Rattle.plx_rules.specs.World.{World, Reached}

-- events lead to a world in which a block is in the hand of an appliance that owns its extent's lease
abbrev pub BlockInHand : Type 0
BlockInHand = (w : World) × (appliance : ℕ) × (block : ℕ) × Reached w × (appliance < w.appliances) × HasInHand w appliance block
