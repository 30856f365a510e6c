-- Each flag, list of bytes and report is the same as itself.
use Rattle.std.proofs.Common.{◌≡◌, ℕ, List, [], ◌∷◌, Bool, true, false, refl}
use Rattle.plx_base.proofs.Tests.{eqb-true}
use Rattle.plx_commands.specs.Reports.{same_flag, same_bytes, same_report}
use Rattle.plx_commands.specs.declared.reply.Report.{Report}

pub same-flag : (flag : Bool) → same_flag flag flag ≡ true
same-flag true = refl
same-flag false = refl

pub same-bytes : (xs : List ℕ) → same_bytes xs xs ≡ true
same-bytes [] = refl
same-bytes (x ∷ xs) = rw (eqb-true x x refl) (same-bytes xs)

pub same-report : (r : Report) → same_report r r ≡ true
same-report r =
    rw (
      eqb-true r.writes r.writes refl,
      eqb-true r.generation r.generation refl,
      eqb-true r.size r.size refl,
      eqb-true r.taken r.taken refl,
      eqb-true r.dropped r.dropped refl,
      same-flag r.live,
    ) (same-bytes r.label)
