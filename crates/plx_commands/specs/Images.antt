-- An image, as the block-list model knows it.
use Rattle.std.specs.Prelude.{ℕ, ◌+◌, List, [], ◌∷◌, length, Bool, true, false, if◌then◌else◌}
use Rattle.plx_base.specs.Blocks.{zeros}
use Rattle.plx_commands.specs.Places.{at}
use Rattle.plx_commands.specs.declared.reply.Report.{Report}

-- what an image held when a snapshot of it was taken, and whether the snapshot is dropped
pub record Frozen : Type 0 where
  pub content : ℕ → List ℕ
  pub dropped : Bool

-- an image: whether the slot has one, how often one was made in it, its size in blocks,
-- its label, how often it was written, what each block holds, and its snapshots
pub record Image : Type 0 where
  pub live : Bool
  pub generation : ℕ
  pub size : ℕ
  pub label : List ℕ
  pub writes : ℕ
  pub content : ℕ → List ℕ
  pub frozen : List Frozen

-- a free slot, in which so many images were made
abbrev pub free_image : ℕ → Image
free_image generation = record {
  live = false;
  generation = generation;
  size = 0;
  label = [];
  writes = 0;
  content = λ vblock. zeros;
  frozen = [];
}

-- an image as it is made
abbrev pub new_image : (generation size : ℕ) → (label : List ℕ) → Image
new_image generation size label = record (free_image generation) {
  live = true;
  size = size;
  label = label;
}

-- the image once one of its blocks is written
abbrev pub image_after_write : Image → ℕ → List ℕ → Image
image_after_write image vblock bytes = record image {
  writes = image.writes + 1;
  content = at image.content vblock bytes;
}

-- how many snapshots are dropped
abbrev pub count_dropped : List Frozen → ℕ
count_dropped [] = 0
count_dropped (snapshot ∷ others) =
    if snapshot.dropped then count_dropped others + 1 else count_dropped others

-- what an attach reports of an image
abbrev pub report_of : Image → Report
report_of image = record {
  live = image.live;
  generation = image.generation;
  size = image.size;
  writes = image.writes;
  taken = length image.frozen;
  dropped = count_dropped image.frozen;
  label = image.label;
}
