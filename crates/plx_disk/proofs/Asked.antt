-- What is answered about one issued write.
use Rattle.std.proofs.Common.{◌≡◌, ℕ, List, Option, Some, None, false, refl}
use Rattle.std.specs.Prelude.{slice_get, MatchOption}
use Rattle.plx_disk.specs.Missing.{IsLeastMissing, IsMissing, MissesNone}
use Rattle.plx_disk.specs.Writes.{Issued, Surface, all_sectors}
use Rattle.plx_disk.specs.Standing.{StandForAll, StandsForIssued}
use Rattle.plx_disk.specs.declared.write.Write.{Write}
use Rattle.plx_disk.proofs.Kept.{kept-issued, kept-at}

-- its least missing sector
pub missing-says : {time : ℕ} (s : Surface) (kept : List Write) (n : ℕ) (k : Write) (answer : Option ℕ) → StandForAll time kept s.writes → slice_get kept n ≡ Some k →
    ((w : Issued) → StandsForIssued time k w → answer ≡ None → w.cancelled ≡ false → w.landed ≡ all_sectors) →
    ((w : Issued) → StandsForIssued time k w → (m : ℕ) → answer ≡ Some m → (w.cancelled ≡ false) × IsLeastMissing w.landed m) →
    MatchOption answer (MissesNone s n) (IsMissing s n)
missing-says s kept n k None h e none least =
    λ w found not_cancelled. none w (kept-at kept s.writes n k w h e found) refl not_cancelled
missing-says s kept n k (Some m) h e none least =
    let i = kept-issued kept s.writes n k h e in
    let l = least i.0 i.2 m refl in
    record { write = i.0; found = i.1; open_yet = l.0; least = l.1 }
