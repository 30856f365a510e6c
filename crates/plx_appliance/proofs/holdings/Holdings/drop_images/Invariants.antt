use Rattle.std.proofs.Common.{◌≡◌}
use Rattle.plx_appliance.specs.Kept.{known_of}
use Rattle.plx_appliance.specs.Tokens.{image_leases}
use Rattle.plx_appliance.proofs.Dropping.{AreImagesDropped}
use Rattle.plx_appliance.proofs.holdings.Holdings.drop_images.Given as goal

abbrev pub invariant-loop-index : goal.invariant-loop-index
invariant-loop-index l =
    (l.self.setting ≡ l.initial.self.setting) × (known_of l.self ≡ known_of l.initial.self) × (l.self.space ≡ l.initial.self.space)
    × AreImagesDropped (known_of l.initial.self) l.reading (image_leases l.initial.self.leases.leases.items) (image_leases l.self.leases.leases.items) l.index
