-- Bytes that an attach read and that are within the format.
use Rattle.std.proofs.Common.{◌≡◌, ◌≢◌, ℕ, ◌-◌, ◌<◌, List, [], ◌∷◌, length, true, false, Option, Some, None, refl, ap, sym, subst, ◌∙◌, arith, inl, inr}
use Rattle.std.specs.Prelude.{nat_lt, if◌then◌else◌}
use Rattle.plx_disk.specs.declared.ask.Ask.{Ask}
use Rattle.plx_disk.specs.declared.ask.Ask.TheVariants as ask
use Rattle.plx_disk.specs.declared.ask.Answer.{Answer}
use Rattle.plx_disk.specs.declared.ask.Answer.TheVariants as answer
use Rattle.plx_gate.specs.Descriptors.{read_descriptor}
use Rattle.plx_gate.specs.Images.{read_image}
use Rattle.plx_gate.specs.Leases.{read_lease}
use Rattle.plx_gate.specs.declared.descriptor.Descriptor.{Descriptor}
use Rattle.plx_gate.specs.declared.image.ImageRecord.{ImageRecord}
use Rattle.plx_geom.specs.Geometry.{Geometry, lease_count, lease_at, record_at, descriptor_at, data_at}
use Rattle.plx_geom.proofs.Places.{lease-record, lease-descriptor, lease-data, record-descriptor, record-data, data-descriptor}
use Rattle.plx_rules.specs.Journal.{journal_slot, is_unapplied, is_placed}
use Rattle.plx_rules.specs.Records.{is_plain, size_of, applied_of}
use Rattle.plx_rules.specs.Session.{Session}
use Rattle.plx_rules.specs.Stored.{Given, record_on, counted_in, CountsIn, IsCounted}
use Rattle.law_lease.proofs.Lists.{get-there}
use Rattle.law_run.specs.Causes.{record_alone}
use Rattle.law_run.specs.CommandLogs.{Exchange, IsIn}
use Rattle.law_run.specs.Outside.{IsMissingNumber, IsOutside, no_lease, no_record, not_plain, no_descriptor, misplaced, past_size, past_gap}
use Rattle.law_run.proofs.Facts.{counts-number, fits-counted}
use Rattle.law_run.proofs.Grown.{descriptor-one}
use Rattle.law_run.proofs.Meets.{exchange}
use Rattle.law_run.proofs.Right.{FitsSession}
use Rattle.plx_base.proofs.Tests.{nat_lt-tells, clash, eqb-is, eqb-true, eqb-false}

-- what a slot's block says is within the format
abbrev pub IsSound : ImageRecord → (slots slot : ℕ) → Option (Option Descriptor) → Type 0
IsSound kept slots slot found =
    (found ≢ None) × ((d : Descriptor) → found ≡ Some (Some d) → is_unapplied kept d ≡ true → (is_placed slots slot d ≡ true) × (nat_lt d.vblock (size_of kept) ≡ true))

-- the bytes of a block are, as a lease, as the record, or as a descriptor of the image
pub record IsInside (g : Geometry) (image : ℕ) (kept : ImageRecord) (block : ℕ) (bytes : List ℕ) : Type 0 where
  pub leases : (lease : ℕ) → lease < lease_count g → block ≡ lease_at lease → read_lease bytes ≢ None
  pub records : block ≡ record_at g image → read_image bytes ≡ Some kept
  pub descriptors : (slot : ℕ) → slot < g.slots → block ≡ descriptor_at g image slot → IsSound kept g.slots slot (read_descriptor bytes)

-- of what an exchange read
abbrev pub InsideOf : Geometry → (image : ℕ) → ImageRecord → Ask → Answer → Type 0
InsideOf g image kept (ask.Read block) (answer.Bytes bytes) = IsInside g image kept block.0 bytes
InsideOf g image kept a x = Unit {0}

abbrev pub AllInside : Geometry → (image : ℕ) → ImageRecord → List Exchange → Type 0
AllInside g image kept [] = Unit {0}
AllInside g image kept (x ∷ older) = InsideOf g image kept x.ask x.answer × AllInside g image kept older

pub inside-of : (g : Geometry) (image : ℕ) (kept : ImageRecord) (a : Ask) (x : Answer) (done : List Exchange) → AllInside g image kept done → IsIn (exchange a [] x) done → InsideOf g image kept a x
inside-of g image kept a x [] all there = absurd there
inside-of g image kept a x (y ∷ older) all (inl same) = subst (λ (z : Exchange). InsideOf g image kept z.ask z.answer) (sym same) all.0
inside-of g image kept a x (y ∷ older) all (inr there) = inside-of g image kept a x older all.1 there

-- ---- blocks of which only one thing is asked

pub inside-lease : (g : Geometry) (image : ℕ) (kept : ImageRecord) (lease : ℕ) (bytes : List ℕ) → lease < lease_count g → read_lease bytes ≢ None → IsInside g image kept (lease_at lease) bytes
inside-lease g image kept lease bytes within some = record {
  leases = λ other less same. some;
  records = λ same. absurd (lease-record g lease image within same);
  descriptors = λ slot less same. absurd (lease-descriptor g lease image slot within same);
}

pub inside-record : (g : Geometry) (image : ℕ) (kept : ImageRecord) (bytes : List ℕ) → image < g.images → read_image bytes ≡ Some kept → IsInside g image kept (record_at g image) bytes
inside-record g image kept bytes within found = record {
  leases = λ lease less same. absurd (lease-record g lease image less (sym same));
  records = λ same. found;
  descriptors = λ slot less same. absurd (record-descriptor g image image slot within same);
}

pub inside-descriptor : (g : Geometry) (image : ℕ) (kept : ImageRecord) (slot : ℕ) (bytes : List ℕ) → image < g.images → IsSound kept g.slots slot (read_descriptor bytes) →
    IsInside g image kept (descriptor_at g image slot) bytes
inside-descriptor g image kept slot bytes within sound = record {
  leases = λ lease less same. absurd (lease-descriptor g lease image slot less (sym same));
  records = λ same. absurd (record-descriptor g image image slot within (sym same));
  descriptors = λ other less same. subst (λ n. IsSound kept g.slots n (read_descriptor bytes)) (descriptor-one g image slot other same) sound;
}

pub inside-data : (g : Geometry) (image : ℕ) (kept : ImageRecord) (slot : ℕ) (bytes : List ℕ) → image < g.images → IsInside g image kept (data_at g image slot) bytes
inside-data g image kept slot bytes within = record {
  leases = λ lease less same. absurd (lease-data g lease image slot less (sym same));
  records = λ same. absurd (record-data g image image slot within (sym same));
  descriptors = λ other less same. absurd (data-descriptor g image image slot other same);
}

-- ---- no gap

-- a session that fits has no missing number below one of its own
no-gap : (g : Geometry) (given : Given) (image : ℕ) (session : Session) → FitsSession g given image session → (slot : ℕ) (d : Descriptor) (missing : ℕ) → CountsIn g given image session.image slot d → IsMissingNumber g given image session.image missing →
    missing < d.number → ⊥
no-gap g given image session fits slot d missing counts gone below =
    let n = counts-number g given image session fits slot d counts in
    let above = gone.above in
    let k : ℕ = missing - applied_of session.image - 1 in
    let within : missing - applied_of session.image - 1 < length session.writes = omega (arith, n.4, n.5) in
    let w = get-there session.writes (missing - applied_of session.image - 1) within in
    let its = data_at g image (journal_slot g.slots w.0.number) in
    gone.absent w.0.vblock its
    (subst (λ n. IsCounted g given image session.image n w.0.vblock its) (fits.numbers (missing - applied_of session.image - 1) w.0 w.1 ∙ (omega (arith, above)))
    (fits-counted g given image session fits (missing - applied_of session.image - 1) w.0 w.1))

-- bytes within the format aren't outside it
pub not-outside : (g : Geometry) (given : Given) (image : ℕ) (session : Session) (block : ℕ) (bytes : List ℕ) → FitsSession g given image session → IsInside g image session.image block bytes →
    ¬ IsOutside g given image block bytes
not-outside g given image session block bytes fits inside (no_lease lease less same none) = inside.leases lease less same none
not-outside g given image session block bytes fits inside (no_record same none) = let e = inside.records same in let P : ⊥ = cc in P
not-outside g given image session block bytes fits inside (not_plain kept same found bad) =
    let e : Some session.image ≡ Some kept = sym (inside.records same) ∙ found in
    let is : session.image ≡ kept = cc in
    clash (is_plain kept) (ap is_plain (sym is) ∙ fits.plain) bad
not-outside g given image session block bytes fits inside (no_descriptor slot less same none) = (inside.descriptors slot less same).0 none
not-outside g given image session block bytes fits inside (misplaced kept slot d less same found is unapplied elsewhere) =
    let e : Some session.image ≡ Some kept = sym fits.found ∙ found in
    let k : kept ≡ session.image = cc in
    elsewhere (eqb-is (journal_slot g.slots d.number) slot ((inside.descriptors slot less same).1 d is (ap (λ (r : ImageRecord). is_unapplied r d) (sym k) ∙ unapplied)).0)
not-outside g given image session block bytes fits inside (past_size kept slot d less same found is unapplied past) =
    let e : Some session.image ≡ Some kept = sym fits.found ∙ found in
    let k : kept ≡ session.image = cc in
    let below = nat_lt-tells d.vblock (size_of session.image) ((inside.descriptors slot less same).1 d is (ap (λ (r : ImageRecord). is_unapplied r d) (sym k) ∙ unapplied)).1 in
    let size = ap size_of k in
    omega arith
not-outside g given image session block bytes fits inside (past_gap kept slot d missing same found counts gone below least) =
    let e : Some session.image ≡ Some kept = sym fits.found ∙ found in
    let k : kept ≡ session.image = cc in
    no-gap g given image session fits slot d missing (subst (λ (r : ImageRecord). CountsIn g given image r slot d) k counts)
    (subst (λ (r : ImageRecord). IsMissingNumber g given image r missing) k gone) below

-- ---- as far as the record tells

-- a lease within the format is no block of an image that could be outside
pub lease-inside : (g : Geometry) (given : Given) (image lease : ℕ) (bytes : List ℕ) → lease < lease_count g → read_lease bytes ≢ None → ¬ IsOutside g given image (lease_at lease) bytes
lease-inside g given image lease bytes within some (no_lease other less same none) = some none
lease-inside g given image lease bytes within some (no_record same none) = lease-record g lease image within same
lease-inside g given image lease bytes within some (not_plain kept same found bad) = lease-record g lease image within same
lease-inside g given image lease bytes within some (no_descriptor slot less same none) = lease-descriptor g lease image slot within same
lease-inside g given image lease bytes within some (misplaced kept slot d less same found is unapplied elsewhere) = lease-descriptor g lease image slot within same
lease-inside g given image lease bytes within some (past_size kept slot d less same found is unapplied past) = lease-descriptor g lease image slot within same
lease-inside g given image lease bytes within some (past_gap kept slot d missing same found counts gone below least) = lease-descriptor g lease image slot within same

-- nor are bytes of an image whose record is known, where they are within the format
pub alone-inside : (g : Geometry) (given : Given) (image : ℕ) (kept : ImageRecord) (block : ℕ) (bytes : List ℕ) → image < g.images → record_on g given image ≡ Some kept → is_plain kept ≡ true →
    IsInside g image kept block bytes → ¬ IsOutside g (record_alone g given image) image block bytes
alone-inside g given image kept block bytes within found plain inside outside = by-cause outside
  where
    alone : record_on g (record_alone g given image) image ≡ Some kept
    alone = let e = eqb-true (record_at g image) (record_at g image) refl in rw e found

    one : (other : ImageRecord) → record_on g (record_alone g given image) image ≡ Some other → other ≡ kept
    one other is = let e : Some kept ≡ Some other = sym alone ∙ is in cc

    by-cause : ¬ IsOutside g (record_alone g given image) image block bytes
    by-cause (no_lease lease less same none) = inside.leases lease less same none
    by-cause (no_record same none) = let e = inside.records same in let P : ⊥ = cc in P
    by-cause (not_plain other same is bad) =
        let e : Some kept ≡ Some other = sym (inside.records same) ∙ is in
        let k : kept ≡ other = cc in clash (is_plain other) (ap is_plain (sym k) ∙ plain) bad
    by-cause (no_descriptor slot less same none) = (inside.descriptors slot less same).0 none
    by-cause (misplaced other slot d less same is says unapplied elsewhere) =
        let k = one other is in
        elsewhere (eqb-is (journal_slot g.slots d.number) slot ((inside.descriptors slot less same).1 d says (ap (λ (r : ImageRecord). is_unapplied r d) (sym k) ∙ unapplied)).0)
    by-cause (past_size other slot d less same is says unapplied past) =
        let k = one other is in
        let below = nat_lt-tells d.vblock (size_of kept) ((inside.descriptors slot less same).1 d says (ap (λ (r : ImageRecord). is_unapplied r d) (sym k) ∙ unapplied)).1 in
        let size = ap size_of k in
        omega arith
    by-cause (past_gap other slot d missing same is counts gone below least) =
        let e = eqb-false (descriptor_at g image slot) (record_at g image) (λ at. record-descriptor g image image slot within (sym at)) in
        let f : counted_in other g.slots slot (if false then given (descriptor_at g image slot) else None) ≡ Some d =
        subst (λ test. counted_in other g.slots slot (if test then given (descriptor_at g image slot) else None) ≡ Some d) e counts.found in
        let P : ⊥ = cc in P
