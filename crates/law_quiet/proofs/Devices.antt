-- What stands on a device while a command writes, and no other write lands.
use Rattle.std.proofs.Common.{◌≡◌, ◌≢◌, ◌⊎◌, inl, inr, ℕ, ◌≤◌, List, length, true, false, Option, Some, None, refl, ap, sym, subst, ◌∙◌, arith, slice_set}
use Rattle.std.specs.Prelude.{slice_get}
use Rattle.std.proofs.lemmas.Bool.Decides.{eqb_tells}
use Rattle.std.proofs.lemmas.List.{length-set}
use Rattle.plx_base.specs.Sectors.{Device, put, with_landed_sector, with_landed_sectors}
use Rattle.plx_base.specs.declared.write_kind.WriteKind.{WriteKind}
use Rattle.plx_base.proofs.Devices.{put-all, put-same, put-other}
use Rattle.plx_base.proofs.Mixed.{mixed-all, mixed-landed, mixed-none}
use Rattle.plx_disk.specs.Writes.{Surface, Issued, MayLand, HasLanded, all_sectors, fresh_write, with_issued, with_sector, after_landing, after_time}
use Rattle.plx_disk.proofs.Lists.{push-last, set-same, set-other}
use Rattle.plx_rules.specs.Process.{Process, Ends, ReadThen, WriteThen, ClockThen, UntilThen}
use Rattle.law_lease.proofs.LeaseLands.{not-whole}
use Rattle.law_lease.proofs.Lists.{push-cases}

-- each block of a device has 4,096 bytes
abbrev pub IsLong : Device → Type 0
IsLong device = (b : ℕ) → length (device b) ≡ 4096

-- a surface has this device, and of the writes from this number on each has landed whole
pub record AtRest (from : ℕ) (device : Device) (surface : Surface) (pending : Option ℕ) : Type 0 where
  pub long : IsLong device
  pub same : (b : ℕ) → surface.device b ≡ device b
  pub landed : (m : ℕ) (x : Issued) → from ≤ m → slice_get surface.writes m ≡ Some x → x.landed ≡ all_sectors
  pub free : pending ≡ None

-- a surface has this device but for one write, of these bytes to this block, of which some sectors have landed
pub record UnderWay (from : ℕ) (device : Device) (surface : Surface) (pending : Option ℕ) (block : ℕ) (bytes : List ℕ) : Type 0 where
  pub long : IsLong device
  pub number : ℕ
  pub waits : pending ≡ Some number
  pub write : Issued
  pub found : slice_get surface.writes number ≡ Some write
  pub place : write.block ≡ block
  pub spells : write.bytes ≡ bytes
  pub eight : length write.landed ≡ 8
  pub here : surface.device block ≡ with_landed_sectors write.landed bytes (device block)
  pub others : (b : ℕ) → b ≢ block → surface.device b ≡ device b
  pub landed : (m : ℕ) (x : Issued) → from ≤ m → m ≢ number → slice_get surface.writes m ≡ Some x → x.landed ≡ all_sectors

-- by what is asked next
abbrev pub OnDevice : {E : Type 0} → (from : ℕ) → Device → Surface → (pending : Option ℕ) → Process E → Type 0
OnDevice from device surface pending (Ends end) = AtRest from device surface pending
OnDevice from device surface pending (ReadThen block rest fault) = AtRest from device surface pending
OnDevice from device surface pending (WriteThen kind block bytes guard done fault missed) = AtRest from device surface pending ⊎ UnderWay from device surface pending block bytes
OnDevice from device surface pending (ClockThen rest) = AtRest from device surface pending
OnDevice from device surface pending (UntilThen from' rest) = AtRest from device surface pending

pub rest-on : {E : Type 0} (from : ℕ) (device : Device) (surface : Surface) (pending : Option ℕ) (process : Process E) → AtRest from device surface pending → OnDevice from device surface pending process
rest-on from device surface pending (Ends end) rest = rest
rest-on from device surface pending (ReadThen block next fault) rest = rest
rest-on from device surface pending (WriteThen kind block bytes guard done fault missed) rest = inl rest
rest-on from device surface pending (ClockThen next) rest = rest
rest-on from device surface pending (UntilThen from' next) rest = rest

-- it doesn't matter what an appliance waited for
pub rest-free : (from : ℕ) (device : Device) (surface : Surface) (pending : Option ℕ) → AtRest from device surface pending → AtRest from device surface None
rest-free from device surface pending rest = record { long = rest.long; same = rest.same; landed = rest.landed; free = refl }

-- time passes
pub rest-later : (from : ℕ) (device : Device) (surface : Surface) (by : ℕ) (pending : Option ℕ) → AtRest from device surface pending → AtRest from device (after_time surface by) pending
rest-later from device surface by pending rest = record { long = rest.long; same = rest.same; landed = rest.landed; free = rest.free }

way-later : (from : ℕ) (device : Device) (surface : Surface) (by : ℕ) (pending : Option ℕ) (block : ℕ) (bytes : List ℕ) → UnderWay from device surface pending block bytes →
    UnderWay from device (after_time surface by) pending block bytes
way-later from device surface by pending block bytes way = record {
  long = way.long;
  number = way.number;
  waits = way.waits;
  write = way.write;
  found = way.found;
  place = way.place;
  spells = way.spells;
  eight = way.eight;
  here = way.here;
  others = way.others;
  landed = way.landed;
}

pub on-later : {E : Type 0} (from : ℕ) (device : Device) (surface : Surface) (by : ℕ) (pending : Option ℕ) (process : Process E) → OnDevice from device surface pending process →
    OnDevice from device (after_time surface by) pending process
on-later from device surface by pending (Ends end) on = rest-later from device surface by pending on
on-later from device surface by pending (ReadThen block rest fault) on = rest-later from device surface by pending on
on-later from device surface by pending (WriteThen kind block bytes guard done fault missed) (inl rest) = inl (rest-later from device surface by pending rest)
on-later from device surface by pending (WriteThen kind block bytes guard done fault missed) (inr way) = inr (way-later from device surface by pending block bytes way)
on-later from device surface by pending (ClockThen rest) on = rest-later from device surface by pending on
on-later from device surface by pending (UntilThen from' rest) on = rest-later from device surface by pending on

-- a write is issued
pub issued-way : (from : ℕ) (device : Device) (surface : Surface) (pending : Option ℕ) (owner : ℕ) (kind : WriteKind) (block : ℕ) (bytes : List ℕ) (guard : ℕ) → AtRest from device surface pending →
    UnderWay from device (with_issued surface (fresh_write owner kind block bytes guard)) (Some (length surface.writes)) block bytes
issued-way from device surface pending owner kind block bytes guard rest = record {
  long = rest.long;
  number = length surface.writes;
  waits = refl;
  write = fresh_write owner kind block bytes guard;
  found = push-last surface.writes (fresh_write owner kind block bytes guard);
  place = refl;
  spells = refl;
  eight = refl;
  here = rest.same block ∙ sym (mixed-none 8 bytes (device block));
  others = λ b ne. rest.same b;
  landed = λ m x late ne found. elim (push-cases surface.writes (fresh_write owner kind block bytes guard) x m found) [
    | inl old ↦ rest.landed m x late old
    | inr new ↦ absurd (ne new.0)
  ];
}

-- it is Done once it has landed whole
pub done-rest : (from : ℕ) (device : Device) (surface : Surface) (pending : Option ℕ) (block : ℕ) (bytes : List ℕ) (number : ℕ) → length bytes ≡ 4096 → pending ≡ Some number → HasLanded surface number →
    UnderWay from device surface pending block bytes → AtRest from (put device block bytes) surface None
done-rest from device surface pending block bytes number long waits landed way =
    let e : Some number ≡ Some way.number = sym waits ∙ way.waits in
    let one : number ≡ way.number = cc in
    let f : Some landed.0 ≡ Some way.write = sym landed.1 ∙ (ap (slice_get surface.writes) one ∙ way.found) in
    let is : landed.0 ≡ way.write = cc in
    let whole : way.write.landed ≡ all_sectors = ap (λ (x : Issued). x.landed) (sym is) ∙ landed.2 in
    let now : surface.device block ≡ bytes =
    way.here ∙ (ap (λ flags. with_landed_sectors flags bytes (device block)) whole ∙ mixed-all 8 bytes (device block) (omega (arith, long)) (let old = way.long block in omega (arith, old))) in
    record {
      long = put-all (λ b x. length x ≡ 4096) device block bytes long (λ b ne. way.long b);
      same = λ b. sym (put-all (λ c x. x ≡ surface.device c) device block bytes (sym now) (λ c ne. sym (way.others c ne)) b);
      landed = λ m x late found. elim (eqb_tells m way.number) [
        | inl same ↦ (
            let g : Some x ≡ Some way.write = sym found ∙ (ap (slice_get surface.writes) same.1 ∙ way.found) in
            let h : x ≡ way.write = cc in
            ap (λ (y : Issued). y.landed) h ∙ whole)
        | inr other ↦ way.landed m x late other.1 found
      ];
      free = refl;
    }

-- where no write is under way none lands
pub none-lands : (from : ℕ) (device : Device) (surface : Surface) (pending : Option ℕ) (number sector : ℕ) (write : Issued) → from ≤ number → MayLand surface number sector write →
    AtRest from device surface pending → ⊥
none-lands from device surface pending number sector write late may rest = not-whole write.landed sector may.missing (rest.landed number write late may.found)

-- a sector lands
pub landed-way : (from : ℕ) (device : Device) (surface : Surface) (pending : Option ℕ) (block : ℕ) (bytes : List ℕ) (number sector : ℕ) (write : Issued) → from ≤ number → MayLand surface number sector write →
    length bytes ≡ 4096 → UnderWay from device surface pending block bytes → UnderWay from device (after_landing surface number write sector) pending block bytes
landed-way from device surface pending block bytes number sector write late may long way = elim (eqb_tells number way.number) [
  | inl same ↦ one same.1
  | inr other ↦ absurd (not-whole write.landed sector may.missing (way.landed number write late other.1 may.found))
]
  where
    one : number ≡ way.number → UnderWay from device (after_landing surface number write sector) pending block bytes
    one same =
        let e : Some write ≡ Some way.write = sym may.found ∙ (ap (slice_get surface.writes) same ∙ way.found) in
        let is : write ≡ way.write = cc in
        let there : write.block ≡ block = ap (λ (x : Issued). x.block) is ∙ way.place in
        let spells : write.bytes ≡ bytes = ap (λ (x : Issued). x.bytes) is ∙ way.spells in
        let eight : length write.landed ≡ 8 = ap (λ (x : Issued). length x.landed) is ∙ way.eight in
        let old = way.long block in
        let now : with_landed_sector sector write.bytes (surface.device write.block) ≡ with_landed_sectors (slice_set write.landed sector true) bytes (device block) =
        ap (λ b. with_landed_sector sector write.bytes (surface.device b)) there
        ∙ (ap (λ x. with_landed_sector sector x (surface.device block)) spells
        ∙ (ap (with_landed_sector sector bytes) (way.here ∙ ap (λ (x : Issued). with_landed_sectors x.landed bytes (device block)) (sym is))
        ∙ mixed-landed write.landed bytes (device block) sector false may.missing (omega (arith, long, eight)) (omega (arith, old, eight)))) in
        let new : Device = put surface.device write.block (with_landed_sector sector write.bytes (surface.device write.block)) in
        let new-here : new block ≡ with_landed_sectors (slice_set write.landed sector true) bytes (device block) =
        subst (λ b. put surface.device b (with_landed_sector sector write.bytes (surface.device write.block)) block ≡ with_landed_sectors (slice_set write.landed sector true) bytes (device block)) (sym there)
        (put-same surface.device block (with_landed_sector sector write.bytes (surface.device write.block)) ∙ now) in
        record {
          long = way.long;
          number = number;
          waits = way.waits ∙ ap Some (sym same);
          write = with_sector write sector;
          found = set-same surface.writes number (with_sector write sector) write may.found;
          place = there;
          spells = spells;
          eight = length-set write.landed sector true ∙ eight;
          here = new-here;
          others = λ b ne. put-other surface.device write.block (with_landed_sector sector write.bytes (surface.device write.block)) b (λ z. ne (z ∙ there)) ∙ way.others b ne;
          landed = λ m x late' ne found. way.landed m x late' (λ z. ne (z ∙ sym same)) (sym (set-other surface.writes number m (with_sector write sector) ne) ∙ found);
        }
