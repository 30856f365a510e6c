-- The bytes that were known before the writes of a command that read nothing.
use Rattle.std.proofs.Common.{◌≡◌, ℕ, List, [], ◌∷◌, Bool, true, false, Option, refl, ◌∙◌}
use Rattle.std.specs.Prelude.{if◌then◌else◌}
use Rattle.plx_base.proofs.Tests.{or-parts}
use Rattle.plx_disk.specs.declared.ask.Ask.{Ask}
use Rattle.plx_disk.specs.declared.ask.Ask.TheVariants as ask
use Rattle.plx_disk.specs.declared.ask.Answer.{Answer}
use Rattle.plx_disk.specs.declared.ask.Answer.TheVariants as answer
use Rattle.plx_rules.specs.Stored.{Given}
use Rattle.law_run.specs.CommandLogs.{Exchange}
use Rattle.law_run.specs.KnownBytes.{given_after_exchange, given_after_exchanges, is_write_of, has_written, given_before_writes}

-- no ask of these is a read
abbrev pub IsNoRead : Ask → Type 0
IsNoRead (ask.Read block) = ⊥
IsNoRead (ask.Write kind block guard) = Unit {0}
IsNoRead ask.Clock = Unit {0}
IsNoRead (ask.Until from) = Unit {0}

abbrev pub ReadsNothing : List Exchange → Type 0
ReadsNothing [] = Unit {0}
ReadsNothing (x ∷ older) = IsNoRead x.ask × ReadsNothing older

told-elsewhere : (a : Ask) (bytes : List ℕ) (x : Answer) (given : Given) (block : ℕ) → IsNoRead a → is_write_of block a ≡ false → given_after_exchange a bytes x given block ≡ given block
told-elsewhere (ask.Read b) bytes x given block quiet other = absurd quiet
told-elsewhere (ask.Write kind b guard) bytes answer.Done given block quiet other = rw other refl
told-elsewhere (ask.Write kind b guard) bytes x given block quiet other = refl
told-elsewhere ask.Clock bytes x given block quiet other = refl
told-elsewhere (ask.Until from) bytes x given block quiet other = refl

told-beside : (exchanges : List Exchange) (given : Given) (block : ℕ) → ReadsNothing exchanges → has_written block exchanges ≡ false → given_after_exchanges exchanges given block ≡ given block
told-beside [] given block quiet other = refl
told-beside (x ∷ older) given block quiet other =
    let both = or-parts (is_write_of block x.ask) (has_written block older) other in
    told-elsewhere x.ask x.bytes x.answer (given_after_exchanges older given) block quiet.0 both.0 ∙ told-beside older given block quiet.1 both.1

by-written : (test : Bool) (was now held : Option (List ℕ)) → (test ≡ true → was ≡ held) → (test ≡ false → now ≡ held) → (if test then was else now) ≡ held
by-written true was now held first second = first refl
by-written false was now held first second = second refl

pub unwritten-quiet : (exchanges : List Exchange) (given : Given) (block : ℕ) → ReadsNothing exchanges → given_before_writes exchanges given block ≡ given block
unwritten-quiet [] given block quiet = refl
unwritten-quiet (x ∷ older) given block quiet =
    by-written (has_written block (x ∷ older)) (given_before_writes older given block) (given_after_exchanges (x ∷ older) given block) (given block)
    (λ e. unwritten-quiet older given block quiet.1) (λ e. told-beside (x ∷ older) given block quiet e)
