-- Asks that concern no lease and no block in hand.
use Rattle.plx_disk.specs.declared.ask.Ask.{Ask}
use Rattle.plx_geom.specs.Geometry.{Geometry}
use Rattle.plx_alloc.specs.Asking.{SparesHand, SparesLeases}

-- an ask that is answered with no change of any lease or of the hand
abbrev pub IsSpare : Geometry → Ask → Type 0
IsSpare g ask = SparesLeases g ask × SparesHand ask
