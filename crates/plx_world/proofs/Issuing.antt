-- A write is issued.
use Rattle.std.proofs.Common.{◌≡◌, ◌≢◌, ◌+◌, ◌*◌, ◌-◌, ◌%◌, ◌≤◌, ◌<◌, ℕ, List, [], ◌∷◌, ◌++◌, length, Option, Some, None, Bool, true, false, refl, ap, sym, subst, ◌∙◌, arith, inl, inr}
use Rattle.std.proofs.lemmas.List.{append-nil}
use Rattle.std.specs.Prelude.{slice_get, slice_set}
use Rattle.std.proofs.lemmas.Bool.Decides.{eqb_tells}
use Rattle.std.proofs.lemmas.Nat.{mod-mul-add}
use Rattle.std.proofs.lemmas.Option.{slice_get_within}
use Rattle.law_lease.proofs.Runs.{own-boot}
use Rattle.plx_appliance.specs.Appliance.{StandsFor, appliance_setting}
use Rattle.plx_appliance.specs.declared.appliance.Appliance.{Appliance}
use Rattle.plx_base.specs.declared.numbers.ApplianceNo.{ApplianceNo}
use Rattle.plx_base.specs.declared.numbers.BlockNo.{BlockNo}
use Rattle.plx_base.specs.declared.write_kind.WriteKind.{WriteKind}
use Rattle.plx_commands.proofs.Places.{at-other, at-same}
use Rattle.plx_commands.specs.declared.event.Event.TheVariants as event
use Rattle.plx_disk.specs.Standing.{Stands as DiskStands}
use Rattle.plx_disk.specs.Standing.{Turns}
use Rattle.plx_disk.specs.Writes.{Issued, Surface, fresh_write, with_issued}
use Rattle.plx_disk.specs.declared.ask.Ask.{Ask}
use Rattle.plx_disk.specs.declared.ask.Ask.TheVariants as ask
use Rattle.plx_rules.specs.Boot.{BootEntry, Configuration, configuration, writes_out}
use Rattle.plx_rules.specs.Settings.{boot_number}
use Rattle.plx_rules.specs.World as rules
use Rattle.plx_rules.specs.World.{Step, after_issue, is_boot_of, issued_write, issues, stands}
use Rattle.plx_world.specs.Numbers.{with_number_if, own_numbers}
use Rattle.plx_world.specs.Seats.{AsksAs}
use Rattle.plx_world.specs.Standing.{Steps}
use Rattle.plx_world.specs.declared.seat.Seat.{Seat}
use Rattle.plx_world.specs.declared.world.World.{World}
use Rattle.plx_world.proofs.Answered.{seats-changed}
use Rattle.plx_world.proofs.Inverted.{step-issue}
use Rattle.plx_world.proofs.Numbered.{own-push}
use Rattle.plx_world.proofs.Placed.{asked-write}
use Rattle.plx_world.proofs.Seating.{asked-absent, asked-there, if-none, pending-there, configuration-of, seat-at}
use Rattle.plx_world.proofs.Stepping.{IsAsk, IsWaitedFor, apart, asks-there, asks_write, impossible}

-- the boot of an appliance is no other's
other-boot : (a k boots : ℕ) → a < 8 → k ≢ a → is_boot_of k (boot_number a boots) ≡ false
other-boot a k boots below other =
    let e : boot_number a boots - 1 ≡ boots * 256 + a = omega arith in
    let m : (boot_number a boots - 1) % 256 ≡ a = ap (λ n. n % 256) e ∙ mod-mul-add boots 256 a (omega (arith, below)) in
    elim (eqb_tells ((boot_number a boots - 1) % 256) k) [ inl is ↦ absurd (other (sym is.1 ∙ m)) | inr no-one ↦ no-one.0 ]

-- one more write of an appliance
own-more : (a boots : ℕ) (writes : List Issued) (x : Issued) → a < 8 → x.owner ≡ boot_number a boots →
    own_numbers a 0 (writes ++ x ∷ []) ≡ own_numbers a 0 writes ++ length writes ∷ []
own-more a boots writes x below owner =
    let own : is_boot_of a x.owner ≡ true = ap (is_boot_of a) owner ∙ own-boot a boots below in
    let zero-more : 0 + length writes ≡ length writes = omega arith in
    own-push a 0 writes x
    ∙ ap (λ (b : Bool). own_numbers a 0 writes ++ with_number_if b (0 + length writes) []) own
    ∙ ap (λ (n : ℕ). own_numbers a 0 writes ++ n ∷ []) zero-more

-- no other appliance has more
own-others : (a k boots : ℕ) (writes : List Issued) (x : Issued) → a < 8 → k ≢ a → x.owner ≡ boot_number a boots → own_numbers k 0 (writes ++ x ∷ []) ≡ own_numbers k 0 writes
own-others a k boots writes x below other owner =
    let foreign : is_boot_of k x.owner ≡ false = ap (is_boot_of k) owner ∙ other-boot a k boots below other in
    own-push k 0 writes x
    ∙ ap (λ (b : Bool). own_numbers k 0 writes ++ with_number_if b (0 + length writes) []) foreign
    ∙ append-nil (own_numbers k 0 writes)

-- what the code's issue of a write has to leave
pub record Issues (old new : World) (n number : ℕ) (before after : Seat) : Type 0 where
  pub geometry : new.geometry ≡ old.geometry
  pub seats : new.seats.items ≡ slice_set old.seats.items n after
  pub count : length new.seats.items ≡ length old.seats.items
  pub trace : new.trace.items ≡ old.trace.items
  pub appliance : after.appliance ≡ before.appliance
  pub boots : after.boots ≡ before.boots
  pub pending : after.pending ≡ Some number
  pub issued : after.issued.items ≡ before.issued.items ++ number ∷ []

pub issues-write : (old new : World) (a : ApplianceNo) (kind : WriteKind) (block : BlockNo) (guard owner number : ℕ) (bytes : List ℕ) (before after : Seat) →
    slice_get old.seats.items a.0 ≡ Some before → length old.seats.items ≤ 8 → Issues old new a.0 number before after →
    IsAsk old a (Some (ask.Write kind block guard)) → IsWaitedFor old a None → owner ≡ boot_number a.0 before.boots →
    ((log : List BootEntry) → StandsFor before.appliance log → bytes ≡ writes_out (configuration (appliance_setting before.appliance) log).place) →
    ((s : Surface) → DiskStands old.disk s → number ≡ length s.writes) →
    Turns old.disk new.disk (λ s. with_issued s (fresh_write owner kind block.0 bytes guard)) →
    Steps old new (event.Issue a) true
issues-write old new a kind block guard owner number bytes before after at many left is pends owned out counted turns w h =
    let n = a.0 in
    let there = asks-there old a (ask.Write kind block guard) w is h in
    let found = asked-write (stands w n).place kind block guard there.1 in
    let one = h.seats n before at in
    let none = if-none n w.appliances (w.seats n).pending there.0 (pends w h) in
    let count = h.count in
    let within = there.0 in
    let few : n < 8 = omega (arith, count, many, within) in
    let bytes-are : bytes ≡ found.bytes =
    out (w.seats n).log one.log ∙ ap (λ (p : Configuration). writes_out p.place) (configuration-of w n before one) ∙ ap writes_out found.at in
    let owner-is : owner ≡ boot_number n (w.seats n).boots = owned ∙ ap (boot_number n) one.boots in
    let number-is : number ≡ length w.surface.writes = counted w.surface h.surface in
    let v = after_issue w a found.command kind block.0 found.bytes guard in
    let write = issued_write w a kind block.0 found.bytes guard in
    let s : rules.Seat = record (w.seats n) { pending = Some (length w.surface.writes) } in
    let B : List ℕ → Type 0 = λ x. DiskStands new.disk (with_issued w.surface (fresh_write owner kind block.0 x guard)) in
    let O : ℕ → Type 0 = λ x. DiskStands new.disk (with_issued w.surface (fresh_write x kind block.0 found.bytes guard)) in
    let L : Appliance → Type 0 = λ x. StandsFor x (w.seats n).log in (
      v,
      issues found.known found.command kind block.0 found.bytes guard found.done found.fault found.missed there.0 found.at none,
      record {
        geometry = left.geometry ∙ h.geometry;
        count = left.count ∙ h.count;
        surface = subst O owner-is (subst B bytes-are (turns w.surface h.surface));
        seats = seats-changed old.seats.items new.seats.items w v n before after at left.seats h.seats
            (seat-at v n s after (at-same w.seats n s) (ap appliance_setting left.appliance ∙ one.setting) (left.boots ∙ one.boots) (subst L (sym left.appliance) one.log)
            (left.pending ∙ ap (λ (m : ℕ). Some m) number-is)
            (left.issued ∙ ap (λ (xs : List ℕ). xs ++ number ∷ []) one.issued ∙ ap (λ (m : ℕ). own_numbers n 0 w.surface.writes ++ m ∷ []) number-is
            ∙ sym (own-more n (w.seats n).boots w.surface.writes write few refl)))
            refl
            (λ k other. at-other w.seats n k s other) (λ k other. own-others n k (w.seats n).boots w.surface.writes write few other refl);
        trace = left.trace ∙ h.trace;
      },
    )

-- none is asked for, or it was issued before
pub issues-none : (old : World) (a : ApplianceNo) (asked : Option Ask) → IsAsk old a asked → asks_write asked ≡ false → Steps old old (event.Issue a) false
issues-none old a asked is none = impossible old old (event.Issue a) (λ w h. h)
    (λ w v h step. let found = step-issue step in apart asks_write asked (Some (ask.Write found.kind found.block found.guard)) none refl (is w h ∙ found.asked))

pub issues-before : (old : World) (a : ApplianceNo) (pending : Option ℕ) → IsWaitedFor old a pending → pending ≢ None → Steps old old (event.Issue a) false
issues-before old a pending pends before = impossible old old (event.Issue a) (λ w h. h)
    (λ w v h step. before (pends w h ∙ (step-issue step).pends))

-- ---- a seat that asks for a write

pub asks-it : (world : World) (a : ApplianceNo) (seat : Seat) (asked : Option Ask) → slice_get world.seats.items a.0 ≡ Some seat → AsksAs seat.appliance asked → IsAsk world a asked
asks-it world a seat asked at is w h = asked-there world w a.0 seat asked at (slice_get_within world.seats.items a.0 seat at) is h

pub pends-it : (world : World) (a : ApplianceNo) (seat : Seat) (pending : Option ℕ) → slice_get world.seats.items a.0 ≡ Some seat → seat.pending ≡ pending → IsWaitedFor world a pending
pends-it world a seat pending at is w h = sym is ∙ pending-there world w a.0 seat at (slice_get_within world.seats.items a.0 seat at) h

pub issues-absent : (old : World) (a : ApplianceNo) → length old.seats.items ≤ a.0 → Steps old old (event.Issue a) false
issues-absent old a past = issues-none old a None (λ w h. asked-absent old w a.0 past h) refl
