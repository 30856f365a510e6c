-- The leases that a boot holds, in a table by slot.
use Rattle.std.specs.Prelude.{ℕ, List, Option, None, get_or}
use Rattle.plx_token.specs.declared.held.Held.{Held}
use Rattle.plx_token.specs.declared.kind.Image.{Image}
use Rattle.plx_token.specs.declared.kind.Root.{Root}
use Rattle.plx_lease.specs.declared.tokens.Tokens.{Tokens}

-- the root's lease
abbrev pub root_token : Tokens → Option (Held Root)
root_token tokens = tokens.root

-- the images' leases by slot
abbrev pub images_of : Tokens → List (Option (Held Image))
images_of tokens = tokens.images.items

-- the lease of an image; of a slot that there isn't none
abbrev pub image_token : Tokens → (slot : ℕ) → Option (Held Image)
image_token tokens slot = get_or (images_of tokens) slot None
