-- A lease is owned, used, lost and taken over, in worlds that events lead to: the laws speak of something.
use Rattle.std.proofs.Common.{◌≡◌, ℕ, ◌+◌, ◌≤◌, ◌<◌, List, [], ◌∷◌, length, Option, Some, None, refl, ap, ◌∙◌, arith, inl}
use Rattle.std.proofs.lemmas.List.{length-replicate}
use Rattle.std.proofs.lemmas.List.Sums.{AllPass-from_list_all}
use Rattle.plx_base.specs.Blocks.{zeros, filled}
use Rattle.plx_base.specs.Labels.{is_label_byte}
use Rattle.plx_base.specs.Sectors.{Device, put}
use Rattle.plx_base.specs.declared.lease.Claim.{Claim}
use Rattle.plx_base.specs.declared.lease.LeaseRecord.TheVariants.{Free, Claimed}
use Rattle.plx_base.specs.declared.payload.Payload.TheVariants.{All}
use Rattle.plx_base.specs.declared.write_kind.WriteKind.TheVariants as kind
use Rattle.plx_commands.specs.declared.command.Command.{Command}
use Rattle.plx_commands.specs.declared.command.Command.TheVariants.{Attach, Create, Read, Write}
use Rattle.plx_commands.specs.declared.entry.Entry.{Entry}
use Rattle.plx_commands.specs.declared.entry.Entry.TheVariants.{Start, Reply}
use Rattle.plx_commands.specs.Places.{at}
use Rattle.plx_commands.specs.declared.reply.Reply.TheVariants as reply
use Rattle.plx_gate.proofs.Descriptors.{length-descriptor, read-descriptor, read-zeros}
use Rattle.plx_gate.proofs.Images.{image-back, length-image}
use Rattle.plx_gate.proofs.Leases.{lease-back}
use Rattle.plx_gate.specs.Descriptors.{descriptor_bytes, read_descriptor}
use Rattle.plx_gate.specs.Images.{IsImage, image_bytes, read_image}
use Rattle.plx_gate.specs.Leases.{IsLease, lease_bytes, read_lease}
use Rattle.plx_gate.specs.declared.descriptor.Descriptor.{Descriptor}
use Rattle.plx_gate.specs.declared.image.ImageRecord.{ImageRecord}
use Rattle.plx_gate.specs.declared.image.ImageRecord.TheVariants as image_is
use Rattle.plx_geom.specs.Geometry.{Geometry, IsGeometry, image_lease, lease_at}
use Rattle.plx_rules.specs.Process.{Process}
use Rattle.plx_rules.specs.Journaled.{Journaled}
use Rattle.plx_rules.specs.Attaching.{image_use, attach_ends, after_load, after_record, load_image, after_claim}
use Rattle.plx_rules.specs.Boot.{Place, Idle, Begins, In, Configuration, configuration}
use Rattle.plx_rules.specs.Claims.{claim_of, own_record, claim_process}
use Rattle.plx_rules.specs.Commands.{record_process, journal_process, next_write}
use Rattle.plx_rules.specs.Ends.{End, ends, ends_in_time, lost_process, write_then}
use Rattle.plx_rules.specs.Holds.{Hold, Nothing, Held}
use Rattle.plx_rules.specs.Journal.{finding_of}
use Rattle.plx_rules.specs.Loading.{LoadEnd, load_read, load_found, load_process}
use Rattle.plx_rules.specs.Owners.{Owns, hold_at_place, pending_write}
use Rattle.plx_rules.specs.Processes.{followed_by}
use Rattle.plx_rules.specs.Records.{made_record, plain_record}
use Rattle.plx_rules.specs.Session.{Session, Known, nothing_known, with_claim, with_session, new_session, with_write, with_write_by_number}
use Rattle.plx_rules.specs.Settings.{Setting}
use Rattle.plx_rules.specs.World as world
use Rattle.plx_rules.specs.World.{setting_at}
use Rattle.law_lease.specs.TakenOver.{one, other, slot, free_report, written_report, trace_before, trace_after, TakenOver}
use Rattle.law_lease.proofs.FirstDevice.{formatted_device, formatted-is}
use Rattle.law_lease.proofs.ClaimStages.{lease-claimed}
use Rattle.law_lease.proofs.Stages.{Spot, Stage, world_at, starts-now, first-reading, stage-after-clock, stage-after-read, stage-after-write, stage-after-tick}

-- one image, one extent and two journal slots, and its formatted device
abbrev pub small_geometry : Geometry
small_geometry = record { images = 1; extents = 1; extent_blocks = 16; slots = 2 }

pub small-is : IsGeometry small_geometry
small-is = record {
  images_low = omega arith;
  images_high = omega arith;
  extents_low = omega arith;
  extents_high = omega arith;
  blocks_low = omega arith;
  blocks_high = omega arith;
  slots_low = omega arith;
  slots_high = omega arith;
}

-- the device as it is formatted
abbrev pub first_device : Device
first_device = formatted_device small_geometry

-- the claims of the two boots, and the image that is made
abbrev pub mine : Claim
mine = claim_of 1 0 1000

-- the claim of the other
abbrev its : Claim
its = claim_of 2 0 11101

-- the image's record
abbrev made_image : ImageRecord
made_image = made_record 1 8 []

-- what the write writes
abbrev block : List ℕ
block = filled 90

-- the descriptor of the write
abbrev d : Descriptor
d = record { generation = 1; vblock = 3; number = 1 }

-- what blocks say
pub free-back : read_lease (lease_bytes Free) ≡ Some Free
free-back = lease-back Free tt

pub mine-is : IsLease (own_record mine)
mine-is = record { boot = omega arith; number = omega arith; sample = omega arith; low = omega arith; high = omega arith }

mine-back : read_lease (lease_bytes (Claimed mine 11000)) ≡ Some (Claimed mine 11000)
mine-back = lease-back (Claimed mine 11000) mine-is

its-is : IsLease (own_record its)
its-is = record { boot = omega arith; number = omega arith; sample = omega arith; low = omega arith; high = omega arith }

free-image : read_image (image_bytes (image_is.Free 0)) ≡ Some (image_is.Free 0)
free-image = image-back (image_is.Free 0) (omega arith)

made-is : IsImage made_image
made-is = record {
  generation_low = omega arith;
  generation_high = omega arith;
  size_low = omega arith;
  size_high = omega arith;
  taken_high = omega arith;
  root_pointer = inl refl;
  applied_high = omega arith;
  label_is = record { short = omega arith; printable = AllPass-from_list_all is_label_byte [] refl; no_hyphen = λ e. cc };
}

made-back : read_image (image_bytes made_image) ≡ Some made_image
made-back = image-back made_image made-is

d-back : read_descriptor (descriptor_bytes d) ≡ Some (Some d)
d-back = read-descriptor d (record { generation_low = omega arith; generation_high = omega arith; vblock = omega arith; number_low = omega arith; number_high = omega arith })

length-block : length block ≡ 4096
unfolding filled
length-block = length-replicate {A = ℕ} 4096 90

-- what the two boots are given, and what the first one knows as time goes by
abbrev pub s0 : Setting
s0 = setting_at small_geometry 0 0

-- what the second boot is given
abbrev s1 : Setting
s1 = setting_at small_geometry 1 0

-- what is known of nothing
abbrev pub k0 : Known
k0 = nothing_known 0

-- what is known after one claim
abbrev k1 : Known
k1 = with_claim k0

-- each appliance begins in no command, and holds nothing
abbrev pub p0 : ℕ → Spot
p0 = λ b. record { hold = Nothing; sample = None; place = Idle k0 }

few : 2 ≤ 8
few = omega arith

one-appliance-in : 0 < 2
one-appliance-in = omega arith

other-appliance-in : 1 < 2
other-appliance-in = omega arith

-- a stage of the example, with the lease in block 2
abbrev S : ℕ → Device → (ℕ → Spot) → List Entry → Type 0
S t device p tr = Stage small_geometry 2 few 2 t device p tr

-- the places of the two appliances, with one changed
abbrev pub one_at : (ℕ → Spot) → Hold → Option ℕ → Place → ℕ → Spot
one_at p hold sample place = at p 0 (record { hold = hold; sample = sample; place = place })

-- the same for the other
abbrev other_at : (ℕ → Spot) → Hold → Option ℕ → Place → ℕ → Spot
other_at p hold sample place = at p 1 (record { hold = hold; sample = sample; place = place })

-- the world begins
t0 : S 1000 first_device p0 []
t0 = record {
  device = first_device;
  writes = [];
  rests = λ number. [];
  seats = λ b. world.first_seat;
  history = [];
  reached = world.first small-is (omega arith) (omega arith) (formatted-is small_geometry small-is);
  same = λ b. refl;
  places = λ b. record { hold = refl; sample = refl; place = refl };
  free = λ b. refl;
  boots = λ b. refl;
}

-- what is left of an attach that is about to claim the lease of its image
abbrev claims : Setting → Process End
claims s = followed_by (claim_process s.boot [] 1 0) (after_claim s k1 0)

-- ---- the one attaches the free slot

-- a session of the free slot
abbrev free_session : Session
free_session = new_session (image_is.Free 0)

-- what the first one knows once it has attached
abbrev k2 : Known
k2 = with_session k1 0 (Some free_session)

-- the lease's block with its claim
abbrev pub mine_bytes : List ℕ
mine_bytes = lease_bytes (Claimed mine 11000)

-- the device with that claim
abbrev d1 : Device
d1 = put first_device 2 mine_bytes

-- the trace once the first one has begun
abbrev e1 : List Entry
e1 = Start one (Attach slot) ∷ []

-- the places once the first one begins its attach
abbrev p1 : ℕ → Spot
p1 = one_at p0 Nothing None (Begins k0 (Attach slot))

t1 : S 1000 first_device p1 e1
t1 = starts-now small_geometry 2 few 2 t0 one one-appliance-in k0 (Attach slot) refl tt tt

-- the places once it has read its clock
abbrev p2 : ℕ → Spot
p2 = one_at p1 Nothing (Some 1000) (In k0 (Attach slot) (claims s0))

t2 : S 1000 first_device p2 e1
t2 = first-reading small_geometry 2 few 2 t1 one one-appliance-in k0 (Attach slot) refl (claims s0) (λ holds hand e. rw e refl) Nothing refl

-- the places once it holds the lease
abbrev p3 : ℕ → Spot
p3 = one_at p2 (Held mine 11000) None (In k0 (Attach slot) (load_image s0 k1 0 11000))

t3 : S 1601 d1 p3 e1
t3 = lease-claimed small_geometry 2 few 1 t2 one one-appliance-in k0 (Attach slot) 1 0 (after_claim s0 k1 0) refl refl (lease_bytes Free) refl Free free-back refl mine-is (omega arith) refl

-- the places once it has read the slot's record
abbrev p4 : ℕ → Spot
p4 = one_at p3 (Held mine 11000) None (In k0 (Attach slot) (attach_ends s0 k1 0 11000 free_session))

t4 : S 1601 d1 p4 e1
t4 = stage-after-read small_geometry 2 few 2 t3 one one-appliance-in k0 (Attach slot) 4 _ _ refl (image_bytes (image_is.Free 0)) refl (attach_ends s0 k1 0 11000 free_session)
    (ap (λ (found : Option ImageRecord). after_record s0 k1 0 11000 (plain_record found)) free-image)
    (Held mine 11000) refl

-- the trace once its attach is answered
abbrev e2 : List Entry
e2 = Reply one (reply.Attached free_report) ∷ e1

-- the places once its attach is answered
abbrev p5 : ℕ → Spot
p5 = one_at p4 (Held mine 11000) (Some 1601) (Idle k2)

t5 : S 1601 d1 p5 e2
t5 = stage-after-clock small_geometry 2 few 2 t4 one one-appliance-in k0 (Attach slot) _ refl (ends (reply.Attached free_report) k2) refl (Held mine 11000) refl

-- ---- it makes an image

-- the command that makes the image
abbrev create : Command
create = Create slot 8 []

-- a session of the image
abbrev made_session : Session
made_session = new_session made_image

-- what the first one knows of the image
abbrev k3 : Known
k3 = with_session k2 0 (Some made_session)

-- the device with the image's record
abbrev d2 : Device
d2 = put d1 4 (image_bytes made_image)

-- the places once it begins its create
abbrev p6 : ℕ → Spot
p6 = one_at p5 (Held mine 11000) None (Begins k2 create)

t6 : S 1601 d1 p6 (Start one create ∷ e2)
t6 = starts-now small_geometry 2 few 2 t5 one one-appliance-in k2 create refl (record { short = omega arith; printable = AllPass-from_list_all is_label_byte [] refl; no_hyphen = λ e. cc }) tt

-- the places once it has read its clock
abbrev p7 : ℕ → Spot
p7 = one_at p6 (Held mine 11000) (Some 1601) (In k2 create (record_process s0 k2 0 11000 made_image reply.Created))

t7 : S 1601 d1 p7 (Start one create ∷ e2)
t7 = first-reading small_geometry 2 few 2 t6 one one-appliance-in k2 create refl (record_process s0 k2 0 11000 made_image reply.Created) (λ holds hand e. rw e refl) (Held mine 11000) refl

-- the places once its record has landed
abbrev p8 : ℕ → Spot
p8 = one_at p7 (Held mine 11000) None (In k2 create (ends_in_time s0 k2 (image_use 0 11000) reply.Created k3))

t8 : S 1601 d2 p8 (Start one create ∷ e2)
t8 = stage-after-write small_geometry 2 few 2 t7 one one-appliance-in k2 create kind.Record 4 (image_bytes made_image) 11000 _ _ _ refl (omega arith) (length-image made_image made-is)
    (ends_in_time s0 k2 (image_use 0 11000) reply.Created k3) refl (Held mine 11000) refl

-- the trace once its create is answered
abbrev e3 : List Entry
e3 = Reply one reply.Created ∷ Start one create ∷ e2

-- the places once its create is answered
abbrev p9 : ℕ → Spot
p9 = one_at p8 (Held mine 11000) (Some 1601) (Idle k3)

t9 : S 1601 d2 p9 e3
t9 = stage-after-clock small_geometry 2 few 2 t8 one one-appliance-in k2 create _ refl (ends reply.Created k3) refl (Held mine 11000) refl

-- ---- and writes a block

-- the command that writes a block
abbrev write : Command
write = Write slot 3 (All 90)

-- what it knows of the written image
abbrev k4 : Known
k4 = with_session k3 0 (Some (with_write made_session (next_write made_session 3 block)))

-- the device with the data
abbrev d3 : Device
d3 = put d2 7 block

-- the device with the descriptor
abbrev d4 : Device
d4 = put d3 6 (descriptor_bytes d)

-- the places once it begins its write
abbrev p10 : ℕ → Spot
p10 = one_at p9 (Held mine 11000) None (Begins k3 write)

t10 : S 1601 d2 p10 (Start one write ∷ e3)
t10 = starts-now small_geometry 2 few 2 t9 one one-appliance-in k3 write refl length-block tt

-- the places once it has read its clock
abbrev p11 : ℕ → Spot
p11 = one_at p10 (Held mine 11000) (Some 1601) (In k3 write (journal_process s0 k3 0 3 block made_session 11000))

t11 : S 1601 d2 p11 (Start one write ∷ e3)
t11 = first-reading small_geometry 2 few 2 t10 one one-appliance-in k3 write refl (journal_process s0 k3 0 3 block made_session 11000) (λ holds hand e. rw e refl) (Held mine 11000) refl

-- what is left once the descriptor has landed
abbrev final_process : Process End
final_process = ends_in_time s0 k3 (image_use 0 11000) (reply.Written 1) k4

-- what is left once the data has landed
abbrev commits : Process End
commits = write_then s0 k3 (record { lease = 1; until = 11000 }) kind.JCommit 6 (descriptor_bytes d) final_process

-- the places once its data has landed
abbrev p12 : ℕ → Spot
p12 = one_at p11 (Held mine 11000) None (In k3 write commits)

t12 : S 1601 d3 p12 (Start one write ∷ e3)
t12 = stage-after-write small_geometry 2 few 2 t11 one one-appliance-in k3 write kind.JData 7 block 11000 _ _ _ refl (omega arith) length-block commits refl (Held mine 11000) refl

-- the places once its descriptor has landed
abbrev p13 : ℕ → Spot
p13 = one_at p12 (Held mine 11000) None (In k3 write final_process)

t13 : S 1601 d4 p13 (Start one write ∷ e3)
t13 = stage-after-write small_geometry 2 few 2 t12 one one-appliance-in k3 write kind.JCommit 6 (descriptor_bytes d) 11000 _ _ _ refl (omega arith) (length-descriptor d) final_process refl (Held mine 11000) refl

-- the places once its write is answered
abbrev p14 : ℕ → Spot
p14 = one_at p13 (Held mine 11000) (Some 1601) (Idle k4)

t14 : S 1601 d4 p14 trace_before
t14 = stage-after-clock small_geometry 2 few 2 t13 one one-appliance-in k3 write _ refl (ends (reply.Written 1) k4) refl (Held mine 11000) refl

-- ---- its lease ends, and the other attaches the image

-- the lease's block with the other's claim
abbrev its_bytes : List ℕ
its_bytes = lease_bytes (Claimed its 21101)

-- the device with the other's claim
abbrev d5 : Device
d5 = put d4 2 its_bytes

-- the trace once the other has begun
abbrev e4 : List Entry
e4 = Start other (Attach slot) ∷ trace_before

t15 : S 11101 d4 p14 trace_before
t15 = stage-after-tick small_geometry 2 few 2 t14 9500 (omega arith)

-- the places once the other begins its attach
abbrev p16 : ℕ → Spot
p16 = other_at p14 Nothing None (Begins k0 (Attach slot))

t16 : S 11101 d4 p16 e4
t16 = starts-now small_geometry 2 few 2 t15 other other-appliance-in k0 (Attach slot) refl tt tt

-- the places once it has read its clock
abbrev p17 : ℕ → Spot
p17 = other_at p16 Nothing (Some 11101) (In k0 (Attach slot) (claims s1))

t17 : S 11101 d4 p17 e4
t17 = first-reading small_geometry 2 few 2 t16 other other-appliance-in k0 (Attach slot) refl (claims s1) (λ holds hand e. rw e refl) Nothing refl

-- the places once it holds the lease, since the first one's claim is over
abbrev p18 : ℕ → Spot
p18 = other_at p17 (Held its 21101) None (In k0 (Attach slot) (load_image s1 k1 0 21101))

t18 : S 11702 d5 p18 e4
t18 = lease-claimed small_geometry 2 few 1 t17 other other-appliance-in k0 (Attach slot) 2 0 (after_claim s1 k1 0) refl refl mine_bytes refl (Claimed mine 11000) mine-back refl its-is (omega arith) refl

-- the journal: its first slot counts, and its second is empty
abbrev then_end : LoadEnd → Process End
then_end = after_load s1 k1 0 21101 made_image

-- what is left once the other has read the record
abbrev reads_journal : Process End
reads_journal = followed_by (load_process small_geometry 0 made_image 2 0 []) then_end

-- the one write of the journal
abbrev witness_writes : List Journaled
witness_writes = record { number = 1; vblock = 3; block = block } ∷ []

-- what is left once it has read the first descriptor
abbrev reads_data : Process End
reads_data = followed_by (load_read 7 (λ data'. load_process small_geometry 0 made_image 1 1 (record { number = 1; vblock = 3; block = data' } ∷ []))) then_end

-- what is left once it has read the first slot
abbrev reads_second : Process End
reads_second = followed_by (load_process small_geometry 0 made_image 1 1 witness_writes) then_end

-- the session with which it ends
abbrev its_session : Session
its_session = record { image = made_image; writes = witness_writes }

-- what the other knows once it has attached
abbrev k5 : Known
k5 = with_session k1 0 (Some its_session)

-- the places once it has read the image's record
abbrev p19 : ℕ → Spot
p19 = other_at p18 (Held its 21101) None (In k0 (Attach slot) reads_journal)

t19 : S 11702 d5 p19 e4
t19 = stage-after-read small_geometry 2 few 2 t18 other other-appliance-in k0 (Attach slot) 4 _ _ refl (image_bytes made_image) refl reads_journal
    (ap (λ (found : Option ImageRecord). after_record s1 k1 0 21101 (plain_record found)) made-back)
    (Held its 21101) refl

-- the places once it has read the first slot's descriptor
abbrev p20 : ℕ → Spot
p20 = other_at p19 (Held its 21101) None (In k0 (Attach slot) reads_data)

t20 : S 11702 d5 p20 e4
t20 = stage-after-read small_geometry 2 few 2 t19 other other-appliance-in k0 (Attach slot) 6 _ _ refl (descriptor_bytes d) refl reads_data
    (ap (λ (found : Option (Option Descriptor)). followed_by (load_found 6 (finding_of made_image 2 0 found) (load_process small_geometry 0 made_image 1 1 [])
    (λ number vblock. load_read 7 (λ data'. load_process small_geometry 0 made_image 1 1 (record { number = number; vblock = vblock; block = data' } ∷ [])))) then_end) d-back)
    (Held its 21101) refl

-- the places once it has read the first slot's data
abbrev p21 : ℕ → Spot
p21 = other_at p20 (Held its 21101) None (In k0 (Attach slot) reads_second)

t21 : S 11702 d5 p21 e4
t21 = stage-after-read small_geometry 2 few 2 t20 other other-appliance-in k0 (Attach slot) 7 _ _ refl block refl reads_second refl (Held its 21101) refl

-- the places once it has read the second slot's descriptor, an empty one
abbrev p22 : ℕ → Spot
p22 = other_at p21 (Held its 21101) None (In k0 (Attach slot) (attach_ends s1 k1 0 21101 its_session))

t22 : S 11702 d5 p22 e4
t22 = stage-after-read small_geometry 2 few 2 t21 other other-appliance-in k0 (Attach slot) 8 _ _ refl zeros refl (attach_ends s1 k1 0 21101 its_session)
    (ap (λ (found : Option (Option Descriptor)). followed_by (load_found 8 (finding_of made_image 2 1 found) (load_process small_geometry 0 made_image 0 2 witness_writes)
    (λ number vblock. load_read 9 (λ data'. load_process small_geometry 0 made_image 0 2 (with_write_by_number (record { number = number; vblock = vblock; block = data' }) witness_writes)))) then_end) read-zeros)
    (Held its 21101) refl

-- the trace once its attach is answered
abbrev e5 : List Entry
e5 = Reply other (reply.Attached written_report) ∷ e4

-- the places once its attach is answered
abbrev p23 : ℕ → Spot
p23 = other_at p22 (Held its 21101) (Some 11702) (Idle k5)

t23 : S 11702 d5 p23 e5
t23 = stage-after-clock small_geometry 2 few 2 t22 other other-appliance-in k0 (Attach slot) _ refl (ends (reply.Attached written_report) k5) refl (Held its 21101) refl

-- ---- the one learns of its loss

-- the first one's second write
abbrev again : Command
again = Read slot 3

-- the places once the first one begins its second write
abbrev p24 : ℕ → Spot
p24 = one_at p23 (Held mine 11000) None (Begins k4 again)

t24 : S 11702 d5 p24 (Start one again ∷ e5)
t24 = starts-now small_geometry 2 few 2 t23 one one-appliance-in k4 again refl tt tt

-- the places once that is answered by the loss of its lease
abbrev p25 : ℕ → Spot
p25 = one_at p24 Nothing (Some 11702) (Idle (nothing_known 1))

t25 : S 11702 d5 p25 trace_after
t25 = first-reading small_geometry 2 few 2 t24 one one-appliance-in k4 again refl (lost_process s0 k4 (record { lease = 1; until = 11000 }) 11702) (λ holds hand e. rw e refl) Nothing refl

-- ---- who owns

-- an appliance in no command owns what it holds
owns-idle : {t : ℕ} {device : Device} {p : ℕ → Spot} {tr : List Entry} (st : S t device p tr) (a : ℕ) (known : Known) (claim : Claim) (until : ℕ) → (p a).place ≡ Idle known →
    (p a).hold ≡ Held claim until → t ≤ until + 50 → Owns (world_at small_geometry 2 few 2 t st.device st.writes st.rests st.seats tr st.history) a (image_lease 0)
owns-idle st a known claim until here held early =
    let q : Configuration = configuration (setting_at small_geometry a (st.seats a).boots) (st.seats a).log in
    record {
      within = omega arith;
      claim = claim;
      until = until;
      held = ap (λ (place : Place). hold_at_place place (pending_write st.writes (st.seats a).pending) (lease_at (image_lease 0)) (q.holds (lease_at (image_lease 0)))) ((st.places a).place ∙ here)
          ∙ ((st.places a).hold ∙ held);
      time = early;
    }

pub taken-over : TakenOver
taken-over = (
  world_at small_geometry 2 few 2 1601 t14.device t14.writes t14.rests t14.seats trace_before t14.history,
  world_at small_geometry 2 few 2 11702 t25.device t25.writes t25.rests t25.seats trace_after t25.history,
  record {
    reached = t14.reached;
    owned = owns-idle t14 0 k4 mine 11000 refl refl (omega arith);
    told = refl;
    later = t25.reached;
    taken = owns-idle t25 1 k5 its 21101 refl refl (omega arith);
    told_after = refl;
  },
)
