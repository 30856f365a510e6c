-- Which image a report tells of.
use Rattle.std.specs.Prelude.{◌≡◌, ℕ, List, [], ◌∷◌, Bool, true, false, ◌&&◌, ◌==◌, Option, Some}
use Rattle.std.specs.Prelude.{◌⊎◌, if◌then◌else◌, unwrap_or}
use Rattle.plx_commands.specs.Images.{Image, report_of}
use Rattle.plx_commands.specs.declared.reply.Report.{Report}

-- two flags are equal
abbrev pub same_flag : Bool → Bool → Bool
same_flag true b = b
same_flag false true = false
same_flag false false = true

-- two lists of bytes are equal
abbrev pub same_bytes : List ℕ → List ℕ → Bool
same_bytes [] [] = true
same_bytes [] (y ∷ ys) = false
same_bytes (x ∷ xs) [] = false
same_bytes (x ∷ xs) (y ∷ ys) = (x == y) && same_bytes xs ys

-- two reports are equal
abbrev pub same_report : Report → Report → Bool
same_report r s =
    (r.writes == s.writes)
    && ((r.generation == s.generation)
    && ((r.size == s.size)
    && ((r.taken == s.taken)
    && ((r.dropped == s.dropped)
    && (same_flag r.live s.live && same_bytes r.label s.label)))))

-- a report is the image's, or that of its change
abbrev pub IsReported : Image → Option Image → Report → Type 0
IsReported image change report =
    (report ≡ report_of image)
    ⊎ ((other : Image) × (change ≡ Some other) × (report ≡ report_of other))

-- the image that a report decides for: itself where the
-- report is its own, else the one that its change makes
abbrev pub reported_image : Image → Option Image → Report → Image
reported_image image change report =
    if same_report report (report_of image) then image else unwrap_or change image
