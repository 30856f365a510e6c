-- Commands that work on extents: no refusal's fact holds of them, and what their reads and ends leave.
use Rattle.std.proofs.Common.{◌≡◌, ℕ, suc, ◌+◌, ◌-◌, ◌≤◌, List, ◌∷◌, Bool, true, false, Option, Some, None, refl, ap, sym, subst, ◌∙◌, arith}
use Rattle.std.specs.Prelude.{nat_le, ◌==◌, is_some}
use Rattle.plx_base.proofs.Tests.{eqb-true, nat_lt-false, nat_le-false, and-no}
use Rattle.plx_base.specs.declared.lease.LeaseName.TheVariants as lease
use Rattle.plx_commands.specs.declared.command.Command.{Command}
use Rattle.plx_commands.specs.declared.command.Command.TheVariants.{Reserve, Retire}
use Rattle.plx_commands.specs.declared.reply.Reply.{Reply}
use Rattle.plx_disk.specs.declared.ask.Ask.TheVariants as ask
use Rattle.plx_geom.specs.Geometry.{Geometry, lease_count, extent_lease, map_at}
use Rattle.plx_rules.specs.InUse.{lease_name}
use Rattle.plx_rules.specs.Rests.{extent_of}
use Rattle.plx_rules.specs.Session.{Session, Known}
use Rattle.plx_rules.specs.Settings.{Setting}
use Rattle.plx_rules.specs.Space.{read_map}
use Rattle.law_lease.proofs.Rests.{map-found}
use Rattle.law_run.specs.CommandLogs.{Exchange, Finished}
use Rattle.law_run.specs.Holdings.{is_lease_read, claims_in, is_map_found, claims_begun}
use Rattle.law_run.specs.Refusals.{NamesBlock, of_read, of_write, NeedsImage, of_delete, of_block}
use Rattle.law_run.specs.Sessions.{names, attached_by}
use Rattle.law_run.proofs.Asking.{IsFine}
use Rattle.law_run.proofs.Holding.{Spared}
use Rattle.law_run.proofs.Rests.{KeepsHolds, rests-by}
use Rattle.law_run.proofs.Right.{FitsAt, Rests, finish}

-- ---- no refusal's fact holds

reserve-block : (count image v : ℕ) → ¬ NamesBlock (Reserve count) image v
reserve-block count image v (of_read other is same) = let P : ⊥ = cc in P
reserve-block count image v (of_write other payload is same) = let P : ⊥ = cc in P

reserve-image : (count image : ℕ) → ¬ NeedsImage (Reserve count) image
reserve-image count image (of_delete other is same) = let P : ⊥ = cc in P
reserve-image count image (of_block vblock names) = reserve-block count image vblock names

pub reserve-fine : (s : Setting) (before : List Finished) (count reading : ℕ) → IsFine s before (Reserve count) reading
reserve-fine s before count reading done first = record {
  sessions = λ lt image needed. absurd (let P : ⊥ = cc in P);
  unattached = λ lt slot is. absurd (let P : ⊥ = cc in P);
  in_time = λ lt one reading' is. (let used = is.used in let P : ⊥ = cc in P);
  slots = λ lt slot is. absurd (let P : ⊥ = cc in P);
  images = λ lt image kept needs found. absurd (reserve-image count image needs);
  free = λ lt slot size label kept is found. absurd (let P : ⊥ = cc in P);
  blocks = λ lt image v kept names found. absurd (reserve-block count image v names);
  sizes = λ lt slot size label is. absurd (let P : ⊥ = cc in P);
  fresh = λ lt slot size label kept is found. absurd (let P : ⊥ = cc in P);
  counted = λ lt slot v payload kept count' is found counts. absurd (let P : ⊥ = cc in P);
  claimed = λ lt slot is. absurd (let P : ⊥ = cc in P);
  room = λ lt slot v payload kept count' is found counts. absurd (let P : ⊥ = cc in P);
}

retire-block : (image v : ℕ) → ¬ NamesBlock Retire image v
retire-block image v (of_read other is same) = let P : ⊥ = cc in P
retire-block image v (of_write other payload is same) = let P : ⊥ = cc in P

retire-image : (image : ℕ) → ¬ NeedsImage Retire image
retire-image image (of_delete other is same) = let P : ⊥ = cc in P
retire-image image (of_block vblock names) = retire-block image vblock names

pub retire-fine : (s : Setting) (before : List Finished) (reading : ℕ) → IsFine s before Retire reading
retire-fine s before reading done first = record {
  sessions = λ lt image needed. absurd (let P : ⊥ = cc in P);
  unattached = λ lt slot is. absurd (let P : ⊥ = cc in P);
  in_time = λ lt one reading' is. (let used = is.used in let P : ⊥ = cc in P);
  slots = λ lt slot is. absurd (let P : ⊥ = cc in P);
  images = λ lt image kept needs found. absurd (retire-image image needs);
  free = λ lt slot size label kept is found. absurd (let P : ⊥ = cc in P);
  blocks = λ lt image v kept names found. absurd (retire-block image v names);
  sizes = λ lt slot size label is. absurd (let P : ⊥ = cc in P);
  fresh = λ lt slot size label kept is found. absurd (let P : ⊥ = cc in P);
  counted = λ lt slot v payload kept count is found counts. absurd (let P : ⊥ = cc in P);
  claimed = λ lt slot is. absurd (let P : ⊥ = cc in P);
  room = λ lt slot v payload kept count is found counts. absurd (let P : ⊥ = cc in P);
}

-- ---- names and places

-- the name of an extent's lease
pub extent-name : (g : Geometry) (extent : ℕ) → lease_name g (extent_lease g extent) ≡ lease.Extent (record { 0 = extent })
extent-name g extent =
    let e : extent_lease g extent ≡ suc (g.images + extent) = omega arith in
    let back : g.images + extent - g.images ≡ extent = omega arith in
    ap (lease_name g) e ∙ rw (nat_lt-false (g.images + extent) g.images (omega arith)) (ap (λ n. lease.Extent (record { 0 = n })) back)

-- a map is no lease
pub map-no-lease : (g : Geometry) (extent : ℕ) → is_lease_read g (ask.Read (record { 0 = map_at g extent })) ≡ false
map-no-lease g extent = and-no (nat_le 1 (map_at g extent)) (nat_le (map_at g extent) (lease_count g)) (nat_le-false (map_at g extent) (lease_count g) (omega arith))

-- bytes that are no map are none that was found
pub bad-map : (g : Geometry) (block : ℕ) (bytes : List ℕ) → read_map g.extent_blocks bytes ≡ None → is_map_found g (Some (block, bytes)) ≡ false
bad-map g block bytes none = and-no (map_at g (extent_of g block) == block) (is_some (read_map g.extent_blocks bytes)) (ap is_some none)

-- a map that was read is
pub map-is-found : (g : Geometry) (extent : ℕ) (bytes : List ℕ) (bits : List Bool) → 1 ≤ g.extent_blocks → read_map g.extent_blocks bytes ≡ Some bits → is_map_found g (Some (map_at g extent, bytes)) ≡ true
map-is-found g extent bytes bits some is =
    let e = eqb-true (map_at g (extent_of g (map_at g extent))) (map_at g extent) (ap (map_at g) (map-found g extent some)) in
    let f : is_some (read_map g.extent_blocks bytes) ≡ true = ap is_some is in
    rw (e, f) refl

-- ---- what stays known

-- a command that names no image leaves what is known, but for the claims that it began
pub rests-still : (s : Setting) (before : List Finished) (command : Command) (done : List Exchange) (r : Reply) (known next : Known) → ((other : ℕ) → names command other ≡ false) →
    ((other : ℕ) → next.sessions other ≡ known.sessions other) → ((other : ℕ) (b : Bool) → attached_by r command other b ≡ b) → KeepsHolds r → Spared s before done s.geometry.images →
    next.claims ≡ claims_in s.geometry done + claims_begun s.geometry before → Rests s before known → Rests s (finish command done r ∷ before) next
rests-still s before command done r known next names-none same none keeps spared claims rests =
    rests-by s before command done r known next s.geometry.images (λ other apart. names-none other) (λ other apart. same other) (λ other b apart. none other b) keeps spared
    (subst (λ (o : Option Session). FitsAt s (finish command done r ∷ before) s.geometry.images o) (sym (same s.geometry.images))
    (past (known.sessions s.geometry.images) (rests.sessions s.geometry.images)))
    claims rests
  where
    past : (found : Option Session) → FitsAt s before s.geometry.images found → FitsAt s (finish command done r ∷ before) s.geometry.images found
    past None fits = none s.geometry.images _ ∙ fits
    past (Some session) fits = absurd (let within = fits.1.within in omega arith)
