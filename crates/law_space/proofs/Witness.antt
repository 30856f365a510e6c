-- A block is taken, and is in hand, in a world that events lead to: the laws speak of something.
use Rattle.std.proofs.Common.{◌≡◌, ◌≢◌, ℕ, ◌≤◌, ◌<◌, List, [], ◌∷◌, length, Bool, true, false, Option, Some, None, refl, ap, sym, subst, ◌∙◌, arith, get_or}
use Rattle.plx_base.proofs.Spelling.{read-back}
use Rattle.plx_base.specs.Sectors.{Device, put}
use Rattle.plx_base.specs.declared.lease.LeaseRecord.TheVariants.{Free}
use Rattle.plx_base.specs.declared.write_kind.WriteKind.TheVariants as kind
use Rattle.plx_commands.proofs.Places.{at-all, at-other}
use Rattle.plx_commands.specs.Places.{at}
use Rattle.plx_commands.specs.Replies.{is_in}
use Rattle.plx_commands.specs.declared.command.Command.{Command}
use Rattle.plx_commands.specs.declared.command.Command.TheVariants.{Reserve}
use Rattle.plx_commands.specs.declared.entry.Entry.{Entry}
use Rattle.plx_commands.specs.declared.entry.Entry.TheVariants.{Start}
use Rattle.plx_commands.specs.declared.event.Event.TheVariants as event
use Rattle.plx_commands.specs.declared.reply.Reply.TheVariants as reply
use Rattle.plx_disk.specs.declared.ask.Ask.TheVariants as ask
use Rattle.plx_disk.specs.declared.ask.Answer.TheVariants as answer
use Rattle.plx_extent.proofs.EmptyMaps.{is_map-empty, map_bytes-empty}
use Rattle.plx_extent.proofs.Maps.{bits-back, get_or-bits_of, length-bits_from, length-map_bytes, map_bytes-bit}
use Rattle.plx_extent.specs.Maps.{bit_of, bits_of, empty_bits, map_bytes}
use Rattle.plx_gate.specs.Leases.{lease_bytes}
use Rattle.plx_geom.specs.Geometry.{extent_lease, lease_at}
use Rattle.plx_rules.specs.Boot.{Began, Asked, Place, In, Configuration, configuration, goes_to, went_on}
use Rattle.plx_rules.specs.Claims.{ClaimEnd, claim_process}
use Rattle.plx_rules.specs.Ends.{End, ends}
use Rattle.plx_rules.specs.Formatted.{empty_map}
use Rattle.plx_rules.specs.Hands.{hand_from, is_held, set_since}
use Rattle.plx_rules.specs.Holds.{Nothing, Held, after_write}
use Rattle.plx_rules.specs.Owners.{hold_at_place, pending_write}
use Rattle.plx_rules.specs.Process.{Process, ReadThen}
use Rattle.plx_rules.specs.Processes.{followed_by}
use Rattle.plx_rules.specs.Pools.{HasInHand, hand_at}
use Rattle.plx_rules.specs.Rests.{extent_of}
use Rattle.plx_rules.specs.Session.{with_claim}
use Rattle.plx_rules.specs.Space.{Taking, after_extent_claim, extent_use, first_taking, is_own_set, other_found, read_map, take_found, take_here, taken_process, with_claim_begun, with_claimed, with_set}
use Rattle.plx_rules.specs.Histories.{came}
use Rattle.plx_rules.specs.World as world
use Rattle.plx_rules.specs.World.{World, Seat, Reached, first_seat, goes_on, setting_at, stands, with_log_entry}
use Rattle.law_lease.proofs.FirstDevice.{formatted-is}
use Rattle.law_lease.specs.TakenOver.{one}
use Rattle.law_lease.proofs.ClaimStages.{lease-claimed}
use Rattle.law_lease.proofs.LeaseFrames.{grip-open}
use Rattle.law_lease.proofs.Stages.{IsSpot, Spot, Stage, landed-whole, last, stage-after-read, still-places, waits-for}
use Rattle.law_lease.proofs.Witness.{first_device, free-back, k0, mine, mine-is, mine_bytes, one_at, p0, s0, small-is, small_geometry}
use Rattle.law_space.proofs.Kept.{CarefulAt, KeptAt, MapKept}
use Rattle.law_space.proofs.Lists.{append-in, filter-in, set-since}
use Rattle.law_space.proofs.SpaceSteps.{reached-spaced}
use Rattle.law_space.specs.BlockInHand.{BlockInHand}

-- the command
abbrev reserve : Command
reserve = Reserve 1

-- ---- what blocks say

-- the map of the extent as it is formatted
map-spelled : empty_map ≡ map_bytes (empty_bits 16)
unfolding empty_map
map-spelled = sym (map_bytes-empty 16 (omega arith))

map-back : read_map 16 empty_map ≡ Some (empty_bits 16)
unfolding read_map
map-back =
    subst (λ (x : List ℕ). read_map 16 x ≡ Some (empty_bits 16)) (sym map-spelled)
    (read-back is_own_set map_bytes (bits_of 16 (map_bytes (empty_bits 16))) (empty_bits 16) refl (bits-back (empty_bits 16) 16 (is_map-empty 16 (omega arith)).long (omega arith)))

-- the map once its first block is taken
abbrev taken_bits : List Bool
taken_bits = with_set (11 ∷ []) 10 (empty_bits 16)

-- ---- the processes of the command

-- the command ends with enough in hand
abbrev then_taken : Taking → Process End
then_taken = taken_process s0 1 (λ t. ends reply.Reserved t.known)

-- the take as it begins
abbrev none_taken : Taking
none_taken = first_taking [] k0 []

-- the take once it has begun its claim
abbrev begun_taken : Taking
begun_taken = with_claim_begun none_taken

-- the take once its claim is confirmed
abbrev held_taken : Taking
held_taken = with_claimed begun_taken (extent_use small_geometry 0 11000)

-- what follows the claim
abbrev then_take : ClaimEnd → Process End
then_take = after_extent_claim s0 1 0 then_taken begun_taken

-- it reads the map under no lease
abbrev reads_map : Process End
reads_map = ReadThen 10 (λ bytes. other_found s0 1 0 (read_map 16 bytes) then_taken none_taken) (ends (reply.ReadFault (record { 0 = 10 })) k0)

-- it claims_extent the lease of the extent
abbrev claims_extent : Process End
claims_extent = followed_by (claim_process 1 [] 2 0) then_take

-- it reads the map of the extent that it holds
abbrev takes : Process End
takes = take_here s0 1 0 11000 then_taken held_taken

-- it writes the map
abbrev writes_map : Process End
writes_map = take_found s0 1 0 11000 (Some (empty_bits 16)) then_taken held_taken

-- it is over
abbrev reserve_end : Process End
reserve_end = ends reply.Reserved (with_claim k0)

-- ---- the stages

one-appliance : 1 ≤ 8
one-appliance = omega arith

appliance-in : 0 < 1
appliance-in = omega arith

-- a stage of the example, with the lease in block 3
abbrev AtStage : ℕ → Device → (ℕ → Spot) → List Entry → Type 0
AtStage t device p tr = Stage small_geometry 1 one-appliance 3 t device p tr

-- the trace once the command has begun
abbrev trace : List Entry
trace = Start one reserve ∷ []

-- the appliance once it has begun the command
abbrev begun_seat : Seat
begun_seat = with_log_entry first_seat (Began reserve)

-- and once it has read its clock
abbrev clock_seat : Seat
clock_seat = with_log_entry begun_seat (Asked ask.Clock [] (answer.Reading 1000))

-- the places once it has read its clock
abbrev map_places : ℕ → Spot
map_places = one_at p0 Nothing (Some 1000) (In k0 reserve reads_map)

-- the appliances, once it has begun the command
abbrev seats1 : ℕ → Seat
seats1 = at (λ b. first_seat) 0 begun_seat

-- and once it has read its clock
abbrev seats2 : ℕ → Seat
seats2 = at seats1 0 clock_seat

map-stage : AtStage 1000 first_device map_places trace
map-stage = record {
  device = first_device;
  writes = [];
  rests = λ number. [];
  seats = seats2;
  history = came (event.Reading one 1000) ∷ came (event.Start one reserve) ∷ [];
  reached = world.later (world.later (world.first small-is (omega arith) (omega arith) (formatted-is small_geometry small-is))
      (world.starts {appliance = one} {command = reserve} k0 appliance-in refl (omega arith, omega arith) tt))
      (world.begins {appliance = one} {reading = 1000} k0 reserve appliance-in refl (record { early = omega arith; late = omega arith }));
  same = λ b. refl;
  places = at-all (λ b s. IsSpot 3 (configuration (setting_at small_geometry b s.boots) s.log) (map_places b)) seats1 0 clock_seat (record { hold = refl; sample = refl; place = refl })
      (λ b ne. subst (λ (x : Spot). IsSpot 3 (configuration (setting_at small_geometry b (seats1 b).boots) (seats1 b).log) x) (sym (at-other p0 0 b _ ne))
      (subst (λ (s : Seat). IsSpot 3 (configuration (setting_at small_geometry b s.boots) s.log) (p0 b)) (sym (at-other (λ c. first_seat) 0 b begun_seat ne))
      (record { hold = refl; sample = refl; place = refl })));
  free = at-all (λ b s. s.pending ≡ None) seats1 0 clock_seat refl (at-all (λ b s. b ≢ 0 → s.pending ≡ None) (λ b. first_seat) 0 begun_seat (λ ne. refl) (λ b ne away. refl));
  boots = at-all (λ b s. s.boots ≡ 0) seats1 0 clock_seat refl (at-all (λ b s. b ≢ 0 → s.boots ≡ 0) (λ b. first_seat) 0 begun_seat (λ ne. refl) (λ b ne away. refl));
}

-- the places once it has seen that a block is free
abbrev claim_places : ℕ → Spot
claim_places = one_at map_places Nothing None (In k0 reserve claims_extent)

claim-stage : AtStage 1000 first_device claim_places trace
claim-stage = stage-after-read small_geometry 1 one-appliance 3 map-stage one appliance-in k0 reserve 10 _ _ refl empty_map refl claims_extent
    (ap (λ (seen : Option (List Bool)). other_found s0 1 0 seen then_taken none_taken) map-back) Nothing refl

-- the device with its claim
abbrev claimed_device : Device
claimed_device = put first_device 3 mine_bytes

-- the places once it holds the lease
abbrev held_places : ℕ → Spot
held_places = one_at claim_places (Held mine 11000) None (In k0 reserve takes)

held-stage : AtStage 1601 claimed_device held_places trace
held-stage = lease-claimed small_geometry 1 one-appliance 2 claim-stage one appliance-in k0 reserve 1 0 then_take refl refl (lease_bytes Free) refl Free free-back refl mine-is (omega arith) refl

-- the places once it has read the map
abbrev write_places : ℕ → Spot
write_places = one_at held_places (Held mine 11000) None (In k0 reserve writes_map)

write-stage : AtStage 1601 claimed_device write_places trace
write-stage = stage-after-read small_geometry 1 one-appliance 3 held-stage one appliance-in k0 reserve 10 _ _ refl empty_map refl writes_map
    (ap (λ (seen : Option (List Bool)). take_found s0 1 0 11000 seen then_taken held_taken) map-back)
    (Held mine 11000) refl

-- ---- the map is written

-- the bytes that it writes
abbrev taken_bytes : List ℕ
taken_bytes = map_bytes taken_bits

-- where the appliance stands as it writes the map
abbrev q : Configuration
q = configuration (setting_at small_geometry 0 (write-stage.seats 0).boots) (write-stage.seats 0).log

writes-there : q.place ≡ In k0 reserve writes_map
writes-there = (write-stage.places 0).place

held-there : q.holds 3 ≡ Held mine 11000
held-there = (write-stage.places 0).hold

-- the map was read directly before
read-before : (old : List ℕ) × (q.found ≡ Some (10, old))
read-before =
    let C : Place → Type 0 = λ r. CarefulAt q.found r in
    let may = (subst C writes-there ((reached-spaced write-stage.reached).careful 0 appliance-in)).0 in
    (may.0, may.1)

-- and what was read is the empty map
map-read-empty : read-before.0 ≡ empty_map
map-read-empty =
    let K : Option ℕ → Type 0 = λ o. KeptAt small_geometry 1601 0 (write-stage.device 10) (pending_write write-stage.writes o) q in
    let kept : MapKept small_geometry 0 (write-stage.device 10) None q.hand q.found =
    (subst K (write-stage.free 0) ((reached-spaced write-stage.reached).kept 0 appliance-in 0 (omega arith))) mine 11000 (grip-open q.place None 3 (q.holds 3) refl ∙ held-there) (omega arith) in
    sym (kept.shown read-before.0 read-before.1) ∙ (sym kept.laid_now ∙ write-stage.same 10)

-- the block's bit was clear, and becomes set
bit-clear : get_or (bits_of 16 read-before.0) 1 false ≡ false
bit-clear =
    get_or-bits_of 16 read-before.0 1 (omega arith)
    ∙ (ap (λ (x : List ℕ). bit_of x 1) (map-read-empty ∙ map-spelled) ∙ map_bytes-bit (empty_bits 16) 1 (omega arith))

bit-set : get_or (bits_of 16 taken_bytes) 1 false ≡ true
bit-set = get_or-bits_of 16 taken_bytes 1 (omega arith) ∙ map_bytes-bit taken_bits 1 (omega arith)

-- so it is in hand once the write is done
in-hand-written : is_in 11 (hand_from small_geometry q.found kind.Take 10 taken_bytes q.hand) ≡ true
in-hand-written =
    subst (λ (f : Option (ℕ × List ℕ)). is_in 11 (hand_from small_geometry f kind.Take 10 taken_bytes q.hand) ≡ true) (sym read-before.1)
    (append-in 11 q.hand (set_since 10 (bits_of 16 read-before.0) (bits_of 16 taken_bytes))
    (set-since 10 1 (bits_of 16 read-before.0) (bits_of 16 taken_bytes) (omega (arith, length-bits_from 16 0 read-before.0)) bit-clear bit-set))

-- the world before the write is done
abbrev before : World
before = last small_geometry 1 one-appliance 3 write-stage one appliance-in k0 reserve kind.Take 10 taken_bytes 11000 _ _ _ refl (omega arith) (length-map_bytes taken_bits)

-- and after it
abbrev after : World
after = goes_on before (event.Done one) one (ask.Write kind.Take (record { 0 = 10 }) 11000) taken_bytes answer.Done reserve_end

after-reached : Reached after
after-reached =
    world.later (landed-whole small_geometry 1 one-appliance 3 write-stage one appliance-in k0 reserve kind.Take 10 taken_bytes 11000 _ _ _ refl (omega arith) (length-map_bytes taken_bits)).reached
    (world.dones k0 reserve kind.Take 10 taken_bytes 11000 _ _ _ (length write-stage.writes) appliance-in
    (still-places small_geometry 1 one-appliance 3 write-stage one appliance-in k0 reserve kind.Take 10 taken_bytes 11000 _ _ _ refl (omega arith) (length-map_bytes taken_bits) 0).place
    (waits-for small_geometry 1 one-appliance 3 write-stage one appliance-in k0 reserve kind.Take 10 taken_bytes 11000 _ _ _ refl (omega arith) (length-map_bytes taken_bits))
    (_, (landed-whole small_geometry 1 one-appliance 3 write-stage one appliance-in k0 reserve kind.Take 10 taken_bytes 11000 _ _ _ refl (omega arith) (length-map_bytes taken_bits)).found, refl))

-- where the appliance stands then
abbrev q_after : Configuration
q_after =
    goes_to small_geometry k0 reserve (after_write kind.Take 10 taken_bytes q.holds) (hand_from small_geometry q.found kind.Take 10 taken_bytes q.hand) q.filled None None q.latest reserve_end

stands-after : stands after 0 ≡ q_after
stands-after = ap (went_on (setting_at small_geometry 0 (write-stage.seats 0).boots) (ask.Write kind.Take (record { 0 = 10 }) 11000) taken_bytes answer.Done q) writes-there

has-block : HasInHand after 0 11
has-block = record {
  owns = record {
    within = omega arith;
    claim = mine;
    until = 11000;
    held = (let H : Configuration → Type 0 = λ r. hold_at_place r.place (pending_write after.surface.writes (after.seats 0).pending) 3 (r.holds 3) ≡ Held mine 11000 in subst H (sym stands-after) held-there);
    time = omega arith;
  };
  here = (let H : Configuration → Type 0 = λ r. is_in 11 (hand_at small_geometry r.place r.found r.filled r.hand) ≡ true in
      subst H (sym stands-after)
      (filter-in (λ block. is_held (q.holds (lease_at (extent_lease small_geometry (extent_of small_geometry block))))) 11 (hand_from small_geometry q.found kind.Take 10 taken_bytes q.hand) in-hand-written
      (ap is_held held-there)));
}

pub block-in-hand : BlockInHand
block-in-hand = (after, 0, 11, after-reached, appliance-in, has-block)
