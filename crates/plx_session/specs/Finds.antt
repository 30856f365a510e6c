-- What is found in a journal slot, as the definitions see it.
use Rattle.plx_rules.specs.Journal.{Finding, Outside, Unused, Counts}
use Rattle.plx_session.specs.declared.finding.Finding.{Finding as Found}
use Rattle.plx_session.specs.declared.finding.Finding.TheVariants as found

-- what is found
abbrev pub finding_shown : Found → Finding
finding_shown found.Outside = Outside
finding_shown found.Unused = Unused
finding_shown (found.Counts descriptor) = Counts descriptor
