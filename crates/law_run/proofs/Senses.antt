-- What holds of known bytes in both senses, and the rules in one sense of those in both.
use Rattle.std.proofs.Common.{◌≡◌, ℕ, ◌<◌, List, [], ◌∷◌, Option, refl, arith}
use Rattle.plx_base.proofs.Tests.{nat_lt-true}
use Rattle.plx_commands.specs.declared.reply.Reply.{Reply}
use Rattle.plx_commands.specs.declared.reply.Reply.TheVariants as reply
use Rattle.plx_disk.specs.declared.ask.Ask.{Ask}
use Rattle.plx_geom.proofs.Places.{descriptor-below, data-below}
use Rattle.plx_geom.specs.Geometry.{Geometry, extents_start, record_at}
use Rattle.plx_rules.specs.Session.{Session}
use Rattle.plx_rules.specs.Settings.{Setting}
use Rattle.plx_rules.specs.Stored.{Given, Stores}
use Rattle.law_run.specs.CommandLogs.{Finished, CommandLog, Commands, Between, Within}
use Rattle.law_run.specs.Replies.{Comes, IsReplied, refused, worked}
use Rattle.law_run.specs.Rules.{AllKept, KeepsRulesIn}
use Rattle.law_run.specs.Senses.{Sense, Local, Full, given_fixed, seen_in}
use Rattle.law_run.proofs.Facts.{stored_by_session, stores-session}
use Rattle.law_run.proofs.Grown.{fits-along}
use Rattle.law_run.proofs.Right.{FitsSession}

-- ---- what is known of a session

fixed-same : (g : Geometry) (given : Given) (block : ℕ) → block < extents_start g → given_fixed g given block ≡ given block
fixed-same g given block before = rw (nat_lt-true block (extents_start g) before) refl

pub fits-seen : (sense : Sense) (g : Geometry) (given : Given) (image : ℕ) (session : Session) → FitsSession g given image session → FitsSession g (seen_in sense g given) image session
fits-seen Full g given image session fits = fits
fits-seen Local g given image session fits =
    fits-along g given (given_fixed g given) image session (fixed-same g given (record_at g image) (let w = fits.within in omega arith))
    (λ slot below. fixed-same g given _ (let d = descriptor-below g image slot fits.within below in omega (arith, d)))
    (λ slot below. fixed-same g given _ (data-below g image slot fits.within below)) fits

pub stores-seen : (sense : Sense) (g : Geometry) (given : Given) (image : ℕ) (session : Session) → FitsSession g given image session →
    Stores g (seen_in sense g given) image (stored_by_session session)
stores-seen sense g given image session fits = stores-session g (seen_in sense g given) image session (fits-seen sense g given image session fits)

-- ---- fewer senses

module _ (s : Setting) (more fewer : Sense → Type 0) (among : (sense : Sense) → fewer sense → more sense) where
  comes-in : (log : CommandLog) (r : Reply) → Comes s more log r → Comes s fewer log r
  comes-in log (reply.Attached report) comes = λ sense is. comes sense (among sense is)
  comes-in log reply.Created comes = λ sense is. comes sense (among sense is)
  comes-in log reply.Deleted comes = λ sense is. comes sense (among sense is)
  comes-in log (reply.Data payload) comes = λ sense is. comes sense (among sense is)
  comes-in log (reply.Written number) comes = λ sense is. comes sense (among sense is)
  comes-in log r comes = comes

  replied-in : (log : CommandLog) (r : Reply) → IsReplied s more log r → IsReplied s fewer log r
  replied-in log r (refused place first fact least) = refused place first fact least
  replied-in log r (worked none comes) = worked none (comes-in log r comes)

  kept-in : (before : List Finished) → AllKept s more before → AllKept s fewer before
  kept-in [] kept = tt
  kept-in (finished ∷ before) kept =
      (record { allowed = kept.0.allowed; at_once = kept.0.at_once; replied = replied-in _ finished.reply kept.0.replied; bounded = kept.0.bounded }, kept-in before kept.1)

  pub keeps-in : (so_far : Commands) (standing : Option Ask) (bytes : List ℕ) → KeepsRulesIn s more so_far standing bytes → KeepsRulesIn s fewer so_far standing bytes
  keeps-in (Between finished) standing bytes keeps = kept-in finished keeps
  keeps-in (Within log) standing bytes keeps = record {
    older = kept-in log.before keeps.older;
    allowed = keeps.allowed;
    at_once = keeps.at_once;
    stands = keeps.stands;
    follows = keeps.follows;
    bounded = keeps.bounded;
  }
