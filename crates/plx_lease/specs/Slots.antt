-- Leases of images in a table by slot.
use Rattle.std.specs.Prelude.{◌≡◌, ℕ, List, Option, Some, None, get_or}
use Rattle.plx_token.specs.declared.held.Held.{Held}
use Rattle.plx_token.specs.declared.kind.Image.{Image}

-- each lease is that of the image in its slot
abbrev pub AreInPlace : List (Option (Held Image)) → Type 0
AreInPlace images = (slot : ℕ) (held : Held Image) → get_or images slot None ≡ Some held → held.lease.0.0 ≡ slot
