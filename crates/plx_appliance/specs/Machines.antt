-- What is said of the machine of a command: one record a machine, and a table of all.
use Rattle.std.specs.Prelude.{◌≡◌, ℕ, List, Option}
use Rattle.std.proofs.Props.{props}
use Rattle.plx_alloc.specs.Asking.{reserve_spares}
use Rattle.plx_alloc.specs.Moving.{ReadsFirst}
use Rattle.plx_alloc.specs.Suiting.{SuitsReserve}
use Rattle.plx_alloc.specs.declared.allocator.Allocator.{Allocator}
use Rattle.plx_commands.specs.declared.reply.Reply.{Reply}
use Rattle.plx_disk.specs.declared.ask.Answer.{Answer}
use Rattle.plx_disk.specs.declared.ask.Ask.{Ask}
use Rattle.plx_geom.specs.Geometry.{lease_at}
use Rattle.plx_rules.specs.Ends.{End}
use Rattle.plx_rules.specs.Holds.{Hold}
use Rattle.plx_rules.specs.Process.{Process}
use Rattle.plx_session.specs.Asking.{IsSpare}
use Rattle.plx_session.specs.Works.{image_leased, image_rest}
use Rattle.plx_session.specs.declared.setting.Setting.{Setting}
use Rattle.plx_session.specs.declared.work.ImageWork.{ImageWork}
use Rattle.plx_appliance.specs.Attaches.{attach_inside, attach_moves, attach_rest, attach_setting, attach_slots, attach_spares, attach_starts}
use Rattle.plx_appliance.specs.Detaches.{detach_rest}
use Rattle.plx_appliance.specs.Lent.{Lent}
use Rattle.plx_appliance.specs.Releasing.{image_leases_after_release}
use Rattle.plx_appliance.specs.Renews.{IsRenewing, RenewMoves, renew_rest}
use Rattle.plx_appliance.specs.Reserves.{IsReserving, ReserveMoves, reserve_work_rest}
use Rattle.plx_appliance.specs.Retires.{retire_images_rest, retire_moves, retire_suits, retire_tells}
use Rattle.plx_appliance.specs.Suits.{retire-prop, take-prop}
use Rattle.plx_appliance.specs.Tokens.{lease_holds_at}
use Rattle.plx_appliance.specs.declared.attach.Attach.{Attach}
use Rattle.plx_appliance.specs.declared.detach.Detach.{Detach}
use Rattle.plx_appliance.specs.declared.renew.Renew.{Renew}
use Rattle.plx_appliance.specs.declared.reserve.Reserve.{Reserve}
use Rattle.plx_appliance.specs.declared.retire.Retire.{Retire}
use Rattle.plx_appliance.specs.declared.work.Work.{Work}
use Rattle.plx_appliance.specs.declared.work.Work.TheVariants as work

-- what it still asks (rest), what it is given (setting), for how many journal slots it has memory (slots), which leases and which blocks in hand an ask of it concerns (Spares), what of space suits it (Suits),
-- in one way at most (one); how far it has come by its log with its claims and with what was read last (Inside), how it begins (Starts), and what its answers make of what is held and in hand (Moves)
pub record Machine : Type 1 where
  pub rest : Lent → Process End
  pub setting : Setting
  pub slots : ℕ
  pub Spares : Ask → Type 0
  pub Suits : Allocator → Type 0
  pub one : (space : Allocator) → IsProp (Suits space)
  pub Inside : (holds : ℕ → Hold) → (sample : Option ℕ) → (found : Option (ℕ × List ℕ)) → Type 0
  pub Starts : (leases extents : ℕ → Hold) → Type 0
  pub Moves : (new : Work) → Answer → (before after : Lent) → Option Reply → Type 0

-- a command stays the same command, and so moves
pub record Stays {M : Type 0} (made : M → Work) (Moved : M → Type 0) (new : Work) : Type 0 where
  pub now : M
  pub is : new ≡ made now
  pub moves : Moved now

-- an attach
abbrev pub attach_machine : Attach → Machine
attach_machine a = record {
  rest = λ lent. attach_rest lent.known a;
  setting = attach_setting a;
  slots = attach_slots a;
  Spares = λ ask. attach_spares a ask;
  Suits = λ space. Unit {0};
  one = λ space. Prim.hlevel props;
  Inside = λ holds sample found. attach_inside a holds sample;
  Starts = λ leases extents. attach_starts leases a;
  Moves = λ new answer before after result.
      Stays work.Attach (λ x. attach_moves a x answer before.leases after.leases result) new × (after.space ≡ before.space);
}

-- a detach
abbrev pub detach_machine : Detach → Machine
detach_machine d = record {
  rest = λ lent. detach_rest lent.known d;
  setting = d.image.setting;
  slots = d.image.setting.geometry.slots;
  Spares = λ ask. Unit {0};
  Suits = λ space. Unit {0};
  one = λ space. Prim.hlevel props;
  Inside = λ holds sample found. Unit {0};
  Starts = λ leases extents. Unit {0};
  Moves = λ new answer before after result.
      Stays work.Detach (λ x. after.leases ≡ image_leases_after_release answer d.image.slot.0 before.leases) new × (after.space ≡ before.space);
}

-- a command of an attached image
abbrev pub image_machine : ImageWork → Machine
image_machine w = record {
  rest = λ lent. image_rest lent.known w;
  setting = (image_leased w).setting;
  slots = (image_leased w).setting.geometry.slots;
  Spares = λ ask. IsSpare (image_leased w).setting.geometry ask;
  Suits = λ space. Unit {0};
  one = λ space. Prim.hlevel props;
  Inside = λ holds sample found. Unit {0};
  Starts = λ leases extents. Unit {0};
  Moves = λ new answer before after result. Stays work.Image (λ x. after.leases ≡ before.leases) new × (after.space ≡ before.space);
}

-- a renew
abbrev pub renew_machine : Renew → Machine
renew_machine r = record {
  rest = λ lent. renew_rest lent.known r;
  setting = r.setting;
  slots = r.setting.geometry.slots;
  Spares = λ ask. Unit {0};
  Suits = λ space. Unit {0};
  one = λ space. Prim.hlevel props;
  Inside = λ holds sample found. IsRenewing r (λ lease. holds (lease_at lease));
  Starts = λ leases extents. IsRenewing r (λ lease. lease_holds_at r.setting.geometry leases extents (lease_at lease));
  Moves = λ new answer before after result. Stays work.Renew (λ x. RenewMoves r x answer before after result) new;
}

-- a reserve
abbrev pub reserve_machine : Reserve → Machine
reserve_machine r = record {
  rest = λ lent. reserve_work_rest lent r;
  setting = r.setting;
  slots = r.setting.geometry.slots;
  Spares = λ ask. (space : Allocator) → SuitsReserve space r.work → reserve_spares r.work.at space.geometry r.work ask;
  Suits = λ space. SuitsReserve space r.work;
  one = λ space. take-prop space r.work;
  Inside = λ holds sample found. IsReserving r holds sample found;
  Starts = λ leases extents. ReadsFirst r.work.at;
  Moves = λ new answer before after result. Stays work.Reserve (λ x. ReserveMoves r x answer before after result) new;
}

-- a retire
abbrev pub retire_machine : Retire → Machine
retire_machine r = record {
  rest = λ lent. retire_images_rest lent r;
  setting = r.setting;
  slots = r.setting.geometry.slots;
  Spares = λ ask. Unit {0};
  Suits = λ space. retire_suits space r.setting r.stage;
  one = λ space. retire-prop space r.setting r.stage;
  Inside = λ holds sample found. retire_tells r.setting.geometry r.stage found;
  Starts = λ leases extents. (found : Option (ℕ × List ℕ)) → retire_tells r.setting.geometry r.stage found;
  Moves = λ new answer before after result. Stays work.Retire (λ x. retire_moves r.stage x answer before after result) new;
}

-- what is said of the machine that runs
abbrev pub machine_of : Work → Machine
machine_of (work.Attach a) = attach_machine a
machine_of (work.Detach d) = detach_machine d
machine_of (work.Image w) = image_machine w
machine_of (work.Renew r) = renew_machine r
machine_of (work.Reserve r) = reserve_machine r
machine_of (work.Retire r) = retire_machine r
