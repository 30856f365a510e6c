-- The two senses of the rules on a log: the local one, of records, logs and journals, which holds
-- however a log was answered; and the full one, through trees too, which is said of logs of worlds
-- that are reached.
use Rattle.std.specs.Prelude.{if◌then◌else◌, nat_lt, None}
use Rattle.plx_geom.specs.Geometry.{Geometry, extents_start}
use Rattle.plx_rules.specs.Stored.{Given}

pub data Sense : Type 0 where
  Local : Sense
  Full : Sense

-- what is given of the fixed blocks alone: no block of a tree, so no pointer to one is followed
abbrev pub given_fixed : Geometry → Given → Given
given_fixed g given = λ block. if nat_lt block (extents_start g) then given block else None

-- the bytes of which a sense speaks
abbrev pub seen_in : Sense → Geometry → Given → Given
seen_in Local g given = given_fixed g given
seen_in Full g given = given

-- the local sense alone
abbrev pub IsLocal : Sense → Type 0
IsLocal Local = Unit {0}
IsLocal Full = ⊥

-- both senses
abbrev pub IsAny : Sense → Type 0
IsAny sense = Unit {0}
