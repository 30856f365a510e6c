-- The ask of an appliance is answered.
use Rattle.std.proofs.Common.{◌≡◌, ◌≢◌, ℕ, List, [], ◌∷◌, ◌++◌, length, reverse, Option, Some, None, refl, ap, sym, subst, ◌∙◌, append-nil}
use Rattle.std.specs.Prelude.{OnErr, Result, Ok, Err, slice_get, slice_set}
use Rattle.std.proofs.lemmas.Grind.{reverse_onto}
use Rattle.plx_appliance.specs.Appliance.{IsStanding, appliance_setting}
use Rattle.plx_session.specs.Giving as giving
use Rattle.plx_session.specs.declared.setting.Setting.{Setting as Own}
use Rattle.plx_base.specs.declared.numbers.ApplianceNo.{ApplianceNo}
use Rattle.plx_commands.proofs.Places.{at-other, at-same}
use Rattle.plx_commands.specs.declared.entry.Entry.{Entry}
use Rattle.plx_commands.specs.declared.entry.Entry.TheVariants as entry
use Rattle.plx_commands.specs.declared.reply.Reply.{Reply}
use Rattle.plx_disk.specs.Standing.{Stands as DiskStands}
use Rattle.plx_disk.specs.declared.ask.Answer.{Answer}
use Rattle.plx_disk.specs.declared.disk.Disk.{Disk}
use Rattle.plx_rules.specs.Boot.{Asked, Configuration, asks, configuration, replies, reply_of, writes_out}
use Rattle.plx_rules.specs.Ends.{End}
use Rattle.plx_rules.specs.Process.{Process, Ends, ReadThen, WriteThen, ClockThen, UntilThen}
use Rattle.plx_rules.specs.Settings.{Setting}
use Rattle.plx_rules.specs.World as rules
use Rattle.plx_rules.specs.World.{goes_on, stands, with_reply_of, with_log_entry}
use Rattle.plx_world.specs.Answering.{IsAnswered, told_entries}
use Rattle.plx_world.specs.Numbers.{own_numbers}
use Rattle.plx_world.specs.Seats.{KeepsSeat, TakesAnswer}
use Rattle.plx_world.specs.Standing.{IsSeat, StandsOn}
use Rattle.plx_world.specs.declared.seat.Seat.{Seat}
use Rattle.plx_world.specs.declared.world.World.{World}
use Rattle.plx_world.proofs.Seating.{configuration-of, seat-at, seat-same, set-all}

-- one more entry of a trace
pub one-more : (new : List Entry) (trace old : List Entry) (one : Entry) → new ≡ trace ++ one ∷ [] → trace ≡ reverse old → new ≡ reverse (one ∷ old)
one-more new trace old one is same = is ∙ ap (λ (xs : List Entry). xs ++ one ∷ []) same ∙ sym (reverse_onto old one [])

-- the reply, where the command ends with it
told-entries-more : (a : ApplianceNo) (rest : Process End) (new trace old : List Entry) → new ≡ trace ++ told_entries a (reply_of rest) → trace ≡ reverse old → new ≡ reverse (with_reply_of a rest old)
told-entries-more a (Ends end) new trace old is same = one-more new trace old (entry.Reply a end.reply) is same
told-entries-more a (ReadThen block rest fault) new trace old is same = is ∙ append-nil trace ∙ same
told-entries-more a (WriteThen kind block bytes guard done fault missed) new trace old is same = is ∙ append-nil trace ∙ same
told-entries-more a (ClockThen rest) new trace old is same = is ∙ append-nil trace ∙ same
told-entries-more a (UntilThen from rest) new trace old is same = is ∙ append-nil trace ∙ same

-- the seats of a world in which one seat, and one appliance, have changed
pub seats-changed : (old new : List Seat) (w v : rules.World) (n : ℕ) (before after : Seat) → slice_get old n ≡ Some before →
    new ≡ slice_set old n after → ((k : ℕ) (seat : Seat) → slice_get old k ≡ Some seat → IsSeat w k seat) → IsSeat v n after →
    v.geometry ≡ w.geometry → ((k : ℕ) → k ≢ n → v.seats k ≡ w.seats k) → ((k : ℕ) → k ≢ n → own_numbers k 0 v.surface.writes ≡ own_numbers k 0 w.surface.writes) →
    (k : ℕ) (seat : Seat) → slice_get new k ≡ Some seat → IsSeat v k seat
seats-changed old new w v n before after at changed seats here g others numbers =
    let P : List Seat → Type 0 = λ xs. (k : ℕ) (seat : Seat) → slice_get xs k ≡ Some seat → IsSeat v k seat in
    subst P (sym changed) (set-all (λ k seat. IsSeat v k seat) old n before after at here (λ k seat other found. seat-same w v k seat g (others k other) (numbers k other) (seats k seat found)))

-- what the code's answer has to leave
pub record LeavesAnswer (old new : World) (a : ApplianceNo) (before after : Seat) : Type 0 where
  pub geometry : new.geometry ≡ old.geometry
  pub disk : new.disk ≡ old.disk
  pub seats : new.seats.items ≡ slice_set old.seats.items a.0 after
  pub count : length new.seats.items ≡ length old.seats.items
  pub pending : after.pending ≡ None
  pub kept : KeepsSeat before after

pub answers : (old new : World) (a : ApplianceNo) (given : Answer) (before after : Seat) (reply : Option Reply) → slice_get old.seats.items a.0 ≡ Some before →
    LeavesAnswer old new a before after → new.trace.items ≡ old.trace.items ++ told_entries a reply →
    TakesAnswer before.appliance after.appliance given reply →
    IsAnswered old new a given
answers old new a given before after reply at left trace taken = record {
  leads = λ w event ask bytes rest h asked out fits leads.
      let n = a.0 in
      let log = (w.seats n).log in
      let one = h.seats n before at in
      let where-is : configuration (appliance_setting before.appliance) log ≡ stands w n = configuration-of w n before one in
      let standing : IsStanding before.appliance log ask bytes = record {
        ask_is = ap (λ (p : Configuration). asks p.place) where-is ∙ asked;
        bytes_are = ap (λ (p : Configuration). writes_out p.place) where-is ∙ out;
      } in
      let same : appliance_setting after.appliance ≡ appliance_setting before.appliance = ap (λ (s : Own). giving.rules_setting s) left.kept.setting in
      let reply-is : reply ≡ reply_of rest =
      taken.reply log ask bytes one.log standing fits
      ∙ ap (λ (p : Configuration). replies (appliance_setting before.appliance) given p) where-is
      ∙ ap (λ (s : Setting). replies s given (stands w n)) one.setting
      ∙ leads in
      let v = goes_on w event a ask bytes given rest in
      let s = with_log_entry (w.seats n) (Asked ask bytes given) in
      let D : Disk → Type 0 = λ x. DiskStands x w.surface in
      record {
        geometry = left.geometry ∙ h.geometry;
        count = left.count ∙ h.count;
        surface = subst D (sym left.disk) h.surface;
        seats = seats-changed old.seats.items new.seats.items w v n before after at left.seats h.seats
            (seat-at v n s after (at-same w.seats n s) (same ∙ one.setting) (left.kept.boots ∙ one.boots) (taken.log log ask bytes one.log standing fits) left.pending (left.kept.issued ∙ one.issued))
            refl
            (λ k other. at-other w.seats n k s other) (λ k other. refl);
        trace = told-entries-more a rest new.trace.items old.trace.items w.trace (trace ∙ ap (λ (r : Option Reply). old.trace.items ++ told_entries a r) reply-is) h.trace;
      };
}

-- where a call found no memory
pub on-err : {A E : Type 0} (r : Result A E) (P : Type 0) → P → OnErr r P
on-err (Ok value) P p = tt
on-err (Err error) P p = p

-- there is no room for an entry
pub entries-stay : (old new : World) → new.geometry ≡ old.geometry → new.disk ≡ old.disk → new.seats.items ≡ old.seats.items → new.trace.items ≡ old.trace.items → StandsOn old new
entries-stay old new geometry disk seats trace w h =
    let D : Disk → Type 0 = λ x. DiskStands x w.surface in
    let S : List Seat → Type 0 = λ v. (k : ℕ) (seat : Seat) → slice_get v k ≡ Some seat → IsSeat w k seat in
    record {
      geometry = geometry ∙ h.geometry;
      count = ap (λ (v : List Seat). length v) seats ∙ h.count;
      surface = subst D (sym disk) h.surface;
      seats = subst S (sym seats) h.seats;
      trace = trace ∙ h.trace;
    }
