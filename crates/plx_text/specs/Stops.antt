-- The words of stops.
use Rattle.std.specs.Prelude.{◌≡◌, ℕ, List, [], ◌∷◌, Option, Some, codes}
use Rattle.plx_base.specs.declared.write_kind.WriteKind.TheVariants as kind
use Rattle.plx_commands.specs.declared.event.Region.TheVariants as region
use Rattle.plx_commands.specs.declared.event.Stop.{Stop}
use Rattle.plx_commands.specs.declared.event.Stop.TheVariants as stop
use Rattle.plx_words.specs.Candidates.{Reads, by_word}
use Rattle.plx_words.specs.Pieces.{Piece, FitsPiece, piece_text, unspelled, word}

-- the word of a stop. A stop that isn't named here has none yet
abbrev pub stop_piece : Stop → Piece
stop_piece (stop.Write kind.Claim) = word (codes "claim")
stop_piece (stop.Write kind.Renew) = word (codes "renew")
stop_piece (stop.Write kind.Release) = word (codes "release")
stop_piece (stop.Write kind.Take) = word (codes "take")
stop_piece (stop.Write kind.Give) = word (codes "give")
stop_piece (stop.Write kind.Record) = word (codes "record")
stop_piece (stop.Write kind.JData) = word (codes "jdata")
stop_piece (stop.Write kind.JCommit) = word (codes "jcommit")
stop_piece (stop.Read region.Lease) = word (codes "r-lease")
stop_piece (stop.Read region.Record) = word (codes "r-record")
stop_piece (stop.Read region.Journal) = word (codes "r-journal")
stop_piece (stop.Read region.Map) = word (codes "r-map")
stop_piece other = unspelled

-- this word spells a stop
abbrev pub SpellsStop : Stop → List ℕ → Type 0
SpellsStop stop text = FitsPiece (stop_piece stop) × (text ≡ piece_text (stop_piece stop))

-- the one stop that a word can be
abbrev pub stop_of : List ℕ → Option Stop
stop_of text = by_word text (
    (codes "claim", Some (stop.Write kind.Claim))
    ∷ (codes "renew", Some (stop.Write kind.Renew))
    ∷ (codes "release", Some (stop.Write kind.Release))
    ∷ (codes "take", Some (stop.Write kind.Take))
    ∷ (codes "give", Some (stop.Write kind.Give))
    ∷ (codes "record", Some (stop.Write kind.Record))
    ∷ (codes "jdata", Some (stop.Write kind.JData))
    ∷ (codes "jcommit", Some (stop.Write kind.JCommit))
    ∷ (codes "r-lease", Some (stop.Read region.Lease))
    ∷ (codes "r-record", Some (stop.Read region.Record))
    ∷ (codes "r-journal", Some (stop.Read region.Journal))
    ∷ (codes "r-map", Some (stop.Read region.Map))
    ∷ [])

-- what a reader of a stop's word gives
abbrev pub ReadsStop : Option Stop → List ℕ → Type 0
ReadsStop result text = Reads result (stop_of text) (λ stop. SpellsStop stop text)
