-- What the outcome of a call says of an event.
use Rattle.std.proofs.Common.{◌≡◌, ◌<◌, ℕ, zero, suc, List, [], ◌∷◌, ◌++◌, length, take, drop, get_or, Some, None, Bool, true, ap, sym, subst, arith}
use Rattle.std.specs.Prelude.{IfOk, OnErr, Result, Ok, Err}
use Rattle.plx_base.specs.declared.numbers.ApplianceNo.{ApplianceNo}
use Rattle.plx_commands.specs.declared.event.Event.{Event}
use Rattle.plx_commands.specs.declared.event.Event.TheVariants as event
use Rattle.plx_commands.specs.declared.event.Stop.{Stop}
use Rattle.plx_world.specs.Playing.{LawsHold, Leads, LeadsPartly}
use Rattle.plx_world.specs.Running.{MakesRun, RunsSome}
use Rattle.plx_world.specs.Standing.{StandsOn, Steps}
use Rattle.plx_world.specs.declared.world.World.{World}
use Rattle.plx_world.proofs.Sequences.{is_plain_event, leads-plain, leads-run, leads-upto, partly-plain, partly-run, partly-upto}

-- a plain event
pub ok-plain : LawsHold → {E : Type 0} (old new : World) (one plain : Event) (r : Result Bool E) → one ≡ plain → is_plain_event plain ≡ true → IfOk r (Steps old new plain) → IfOk r (Leads old new one)
ok-plain laws old new one plain (Ok made) is p steps = let P : Event → Type 0 = λ e. Leads old new e made in subst P (sym is) (leads-plain laws old new plain made p steps)
ok-plain laws old new one plain (Err error) is p steps = tt

pub leads-as : LawsHold → (old new : World) (one plain : Event) (made : Bool) → one ≡ plain → is_plain_event plain ≡ true → Steps old new plain made → Leads old new one made
leads-as laws old new one plain made is p steps = let P : Event → Type 0 = λ e. Leads old new e made in subst P (sym is) (leads-plain laws old new plain made p steps)

pub err-plain : LawsHold → {E : Type 0} (old new : World) (one : Event) (r : Result Bool E) → OnErr r (StandsOn old new) → OnErr r (LeadsPartly old new one)
err-plain laws old new one (Ok made) stays = tt
err-plain laws old new one (Err error) stays = partly-plain laws old new one stays

-- a run
pub ok-run : LawsHold → {E : Type 0} (old new : World) (one : Event) (a : ApplianceNo) (r : Result Bool E) → one ≡ event.Run a → IfOk r (MakesRun a None old new) → IfOk r (Leads old new one)
ok-run laws old new one a (Ok made) is makes = let P : Event → Type 0 = λ e. Leads old new e made in subst P (sym is) (leads-run laws old new a made makes)
ok-run laws old new one a (Err error) is makes = tt

pub err-run : LawsHold → {E : Type 0} (old new : World) (one : Event) (a : ApplianceNo) (r : Result Bool E) → one ≡ event.Run a → OnErr r (RunsSome a None old new) →
    OnErr r (LeadsPartly old new one)
err-run laws old new one a (Ok made) is some = tt
err-run laws old new one a (Err error) is some = let P : Event → Type 0 = λ e. LeadsPartly old new e in subst P (sym is) (partly-run laws old new a some)

-- an upto
pub ok-upto : LawsHold → {E : Type 0} (old new : World) (one : Event) (a : ApplianceNo) (stop : Stop) (r : Result Bool E) → one ≡ event.Upto a stop →
    IfOk r (MakesRun a (Some stop) old new) → IfOk r (Leads old new one)
ok-upto laws old new one a stop (Ok made) is makes = let P : Event → Type 0 = λ e. Leads old new e made in subst P (sym is) (leads-upto laws old new a stop made makes)
ok-upto laws old new one a stop (Err error) is makes = tt

pub err-upto : LawsHold → {E : Type 0} (old new : World) (one : Event) (a : ApplianceNo) (stop : Stop) (r : Result Bool E) → one ≡ event.Upto a stop →
    OnErr r (RunsSome a (Some stop) old new) → OnErr r (LeadsPartly old new one)
err-upto laws old new one a stop (Ok made) is some = tt
err-upto laws old new one a stop (Err error) is some = let P : Event → Type 0 = λ e. LeadsPartly old new e in subst P (sym is) (partly-upto laws old new a stop some)

-- a list is what stands before one of its events, that one, and what stands behind it
pub processes-around : (xs : List Event) (i : ℕ) (x : Event) → i < length xs → x ≡ get_or xs i x → take i xs ++ x ∷ drop (suc i) xs ≡ xs
processes-around [] i x within is = absurd (omega (arith, within))
processes-around (y ∷ xs) zero x within is = ap (λ (z : Event). z ∷ xs) is
processes-around (y ∷ xs) (suc i) x within is = ap (λ (rest : List Event). y ∷ rest) (processes-around xs i x (omega (arith, within)) is)
