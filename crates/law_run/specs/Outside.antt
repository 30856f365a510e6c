-- Which bytes are outside the format.
use Rattle.std.specs.Prelude.{◌≡◌, ◌≢◌, ◌≤◌, ◌<◌, ℕ, List, Some, None, true, false}
use Rattle.plx_gate.specs.Descriptors.{read_descriptor}
use Rattle.plx_gate.specs.Images.{read_image}
use Rattle.plx_gate.specs.Leases.{read_lease}
use Rattle.plx_gate.specs.declared.descriptor.Descriptor.{Descriptor}
use Rattle.plx_gate.specs.declared.image.ImageRecord.{ImageRecord}
use Rattle.plx_geom.specs.Geometry.{Geometry, lease_count, lease_at, record_at, descriptor_at}
use Rattle.plx_rules.specs.Journal.{journal_slot, is_unapplied}
use Rattle.plx_rules.specs.Records.{is_plain, size_of, applied_of}
use Rattle.plx_rules.specs.Stored.{Given, record_on, CountsIn, IsCounted}

-- a write is missing: the least number above the last one applied with which no write counts
pub record IsMissingNumber (g : Geometry) (given : Given) (image : ℕ) (kept : ImageRecord)
    (missing : ℕ) : Type 0 where
  pub above : applied_of kept < missing
  pub absent : (vblock block : ℕ) → ¬ IsCounted g given image kept missing vblock block
  pub there : (number : ℕ) → applied_of kept < number → number < missing →
      (vblock : ℕ) × (block : ℕ) × IsCounted g given image kept number vblock block

-- bytes that were read at a block are outside the format: they spell no lease;
-- no record; a record that counts snapshots or has a tree, which commands don't read yet;
-- no descriptor; one of the image that stands in another slot than its number's,
-- or names a block past the size; or the one with the least number above a missing one
pub data IsOutside (g : Geometry) (given : Given)
    (image : ℕ) (block : ℕ) (bytes : List ℕ) : Type 0 where
  no_lease : (lease : ℕ) → lease < lease_count g → block ≡ lease_at lease →
      read_lease bytes ≡ None → IsOutside g given image block bytes
  no_record : block ≡ record_at g image →
      read_image bytes ≡ None → IsOutside g given image block bytes
  not_plain : (kept : ImageRecord) → block ≡ record_at g image →
      read_image bytes ≡ Some kept → is_plain kept ≡ false → IsOutside g given image block bytes
  no_descriptor : (slot : ℕ) → slot < g.slots → block ≡ descriptor_at g image slot →
      read_descriptor bytes ≡ None → IsOutside g given image block bytes
  misplaced : (kept : ImageRecord) (slot : ℕ) (d : Descriptor) → slot < g.slots →
      block ≡ descriptor_at g image slot → record_on g given image ≡ Some kept →
      read_descriptor bytes ≡ Some (Some d) → is_unapplied kept d ≡ true →
      journal_slot g.slots d.number ≢ slot → IsOutside g given image block bytes
  past_size : (kept : ImageRecord) (slot : ℕ) (d : Descriptor) → slot < g.slots →
      block ≡ descriptor_at g image slot → record_on g given image ≡ Some kept →
      read_descriptor bytes ≡ Some (Some d) → is_unapplied kept d ≡ true →
      size_of kept ≤ d.vblock → IsOutside g given image block bytes
  past_gap : (kept : ImageRecord) (slot : ℕ) (d : Descriptor) (missing : ℕ) →
      block ≡ descriptor_at g image slot → record_on g given image ≡ Some kept →
      CountsIn g given image kept slot d → IsMissingNumber g given image kept missing →
      missing < d.number →
      ((number vblock its : ℕ) → IsCounted g given image kept number vblock its →
      missing < number → d.number ≤ number) → IsOutside g given image block bytes
