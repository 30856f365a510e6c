-- What commands make of the image that given bytes store, and what is told of it.
use Rattle.std.specs.Prelude.{◌+◌, ℕ, List, [], ◌∷◌, length, true, false, if◌then◌else◌, ◌==◌}
use Rattle.plx_base.specs.Blocks.{zeros}
use Rattle.plx_commands.specs.declared.reply.Report.{Report}
use Rattle.plx_rules.specs.Stored.{Holds, StoredFrozen, Dropped, Kept, StoredImage}

-- the image once one of its blocks is written
abbrev pub written_on : StoredImage → (vblock : ℕ) → List ℕ → StoredImage
written_on image vblock bytes =
    record image {
      writes = image.writes + 1;
      content = λ v. if v == vblock then Holds bytes else image.content v;
    }

-- the free slot, in which so many images were made
abbrev pub deleted_on : StoredImage → StoredImage
deleted_on image = record {
  live = false;
  generation = image.generation;
  size = 0;
  label = [];
  writes = 0;
  content = λ vblock. Holds zeros;
  frozen = [];
}

-- the image that is made in a free slot
abbrev pub created_on : StoredImage → (size : ℕ) → (label : List ℕ) → StoredImage
created_on image size label = record {
  live = true;
  generation = image.generation + 1;
  size = size;
  label = label;
  writes = 0;
  content = λ vblock. Holds zeros;
  frozen = [];
}

-- how many of its snapshots are dropped
abbrev pub count_dropped_on : List StoredFrozen → ℕ
count_dropped_on [] = 0
count_dropped_on (Dropped ∷ others) = count_dropped_on others + 1
count_dropped_on (Kept content ∷ others) = count_dropped_on others

-- what is reported of an image
abbrev pub report_on : StoredImage → Report
report_on image = record {
  live = image.live;
  generation = image.generation;
  size = image.size;
  writes = image.writes;
  taken = length image.frozen;
  dropped = count_dropped_on image.frozen;
  label = image.label;
}
