-- What is held once a release was answered.
use Rattle.std.specs.Prelude.{ℕ}
use Rattle.plx_commands.specs.Places.{at}
use Rattle.plx_disk.specs.declared.ask.Answer.{Answer}
use Rattle.plx_disk.specs.declared.ask.Answer.TheVariants as answer
use Rattle.plx_rules.specs.Holds.{Hold, Nothing}

-- the lease of an image isn't held any more once its release is done
abbrev pub image_leases_after_release : Answer → (image : ℕ) → (ℕ → Hold) → ℕ → Hold
image_leases_after_release answer.Done image leases = at leases image Nothing
image_leases_after_release other image leases = leases
