-- The processes of a take go by the leases in use only as far as readings reach them.
use Rattle.std.proofs.Common.{◌≡◌, ◌∙◌, ap, refl, ℕ, zero, suc, List, [], ◌∷◌, length, Bool, true, false, Option, Some, None}
use Rattle.std.specs.Prelude.{◌+◌, ◌-◌, nat_le, nat_lt, if◌then◌else◌, take}
use Rattle.std.specs.Str.{bytes_eq}
use Rattle.std.proofs.Math.Path.{fun_ext}
use Rattle.plx_base.specs.declared.lease.Claim.{Claim}
use Rattle.plx_base.specs.declared.lease.LeaseRecord.{LeaseRecord}
use Rattle.plx_base.specs.declared.write_kind.WriteKind.TheVariants as kind
use Rattle.plx_commands.specs.Limits.{last_claim}
use Rattle.plx_commands.specs.declared.reply.Reply.TheVariants as reply
use Rattle.plx_extent.specs.Maps.{map_bytes}
use Rattle.plx_gate.specs.Leases.{lease_bytes, read_lease}
use Rattle.plx_geom.specs.Geometry.{extent_lease, lease_at, map_at}
use Rattle.plx_rules.specs.Claims.{ClaimEnd, ClaimHeld, ClaimBusy, ClaimLost, ClaimReadFault, ClaimWriteFault, ClaimDamaged, claim_damaged, claim_in_time, claim_of, claim_process, if_expired, own_record, own_use, reread_by, reread_process, seen_process, written_process}
use Rattle.plx_rules.specs.Ends.{End, damaged_process, ends, lost_process, read_then, write_then}
use Rattle.plx_rules.specs.Holds.{Hold, Nothing, Seen, Wrote, Waited, Held}
use Rattle.plx_rules.specs.InUse.{InUse, earlier, unless_reached}
use Rattle.plx_rules.specs.Process.{Process, Ends, ReadThen, WriteThen, ClockThen, UntilThen}
use Rattle.plx_rules.specs.Processes.{followed_by}
use Rattle.plx_rules.specs.Session.{Known}
use Rattle.plx_rules.specs.Settings.{Setting}
use Rattle.plx_rules.specs.Space.{Taking, after_extent_claim, claim_extent, claim_if_free, extent_use, free_from, if_needed, other_found, read_map, shortage_process, set_process, take_found, take_held, take_here, take_if_held, take_if_other, take_others, taken_process, with_busy, with_claim_begun, with_claimed, with_set, with_taken}
use Rattle.plx_rules.specs.Times.{is_expired, wait, window}
use Rattle.plx_alloc.specs.Takes.{AreReachedAs, GoesByReached}

-- ---- a claim

-- one more lease beside them
pub reached-more : (one : InUse) (uses others : List InUse) → AreReachedAs uses others → AreReachedAs (one ∷ uses) (one ∷ others)
reached-more one uses others same reading = ap (λ due. if nat_le one.until reading then Some (earlier one due) else due) (same reading)

claim_in_time-same : (uses others : List InUse) → AreReachedAs uses others → (reading : ℕ) (rest : Process ClaimEnd) →
    claim_in_time uses reading rest ≡ claim_in_time others reading rest
claim_in_time-same uses others same reading rest = ap (λ due. unless_reached due (λ due. Ends (ClaimLost due reading)) rest) (same reading)

claim_damaged-same : (uses others : List InUse) → AreReachedAs uses others → claim_damaged uses ≡ claim_damaged others
claim_damaged-same uses others same = ap ClockThen (fun_ext (λ reading. claim_in_time-same uses others same reading (Ends ClaimDamaged)))

reread_by-same : (uses others : List InUse) → AreReachedAs uses others → (mine : Bool) (claim : Claim) (seen : Option LeaseRecord) →
    reread_by mine uses claim seen ≡ reread_by mine others claim seen
reread_by-same uses others same true claim seen = refl
reread_by-same uses others same false claim None = claim_damaged-same uses others same
reread_by-same uses others same false claim (Some seen) = refl

reread_process-same : (uses others : List InUse) → AreReachedAs uses others → (lease : ℕ) (claim : Claim) →
    reread_process uses lease claim ≡ reread_process others lease claim
reread_process-same uses others same lease claim =
    ap (λ (rest : List ℕ → Process ClaimEnd). ReadThen (lease_at lease) rest (Ends ClaimReadFault))
    (fun_ext (λ bytes. reread_by-same uses others same (bytes_eq bytes (lease_bytes (own_record claim))) claim (read_lease bytes)))

waited-same : (uses others : List InUse) → AreReachedAs uses others → (lease : ℕ) (claim : Claim) (reading : ℕ) →
    claim_in_time uses reading (reread_process uses lease claim) ≡ claim_in_time others reading (reread_process others lease claim)
waited-same uses others same lease claim reading =
    claim_in_time-same uses others same reading (reread_process uses lease claim)
    ∙ ap (λ process. claim_in_time others reading process) (reread_process-same uses others same lease claim)

written_process-same : (uses others : List InUse) → AreReachedAs uses others → (lease : ℕ) (claim : Claim) →
    written_process uses lease claim ≡ written_process others lease claim
written_process-same uses others same lease claim =
    let one = own_use lease claim in
    ap (λ (rest : ℕ → Process ClaimEnd). WriteThen kind.Claim (lease_at lease) (lease_bytes (own_record claim)) (claim.sample + window)
    (UntilThen (claim.sample + wait) rest) (Ends ClaimWriteFault) (λ reading. Ends (ClaimLost (record { lease = lease; until = claim.sample + window }) reading)))
    (fun_ext (λ reading. waited-same (one ∷ uses) (one ∷ others) (reached-more one uses others same) lease claim reading))

seen_process-same : (uses others : List InUse) → AreReachedAs uses others → (lease : ℕ) (claim : Claim) (seen : Option LeaseRecord) →
    seen_process uses lease claim seen ≡ seen_process others lease claim seen
seen_process-same uses others same lease claim None = claim_damaged-same uses others same
seen_process-same uses others same lease claim (Some seen) =
    ap (if_expired (is_expired seen claim.sample) seen) (written_process-same uses others same lease claim)

sampled-same : (uses others : List InUse) → AreReachedAs uses others → (boot lease number sample : ℕ) →
    claim_in_time uses sample (ReadThen (lease_at lease) (λ bytes. seen_process uses lease (claim_of boot number sample) (read_lease bytes)) (Ends ClaimReadFault))
    ≡ claim_in_time others sample (ReadThen (lease_at lease) (λ bytes. seen_process others lease (claim_of boot number sample) (read_lease bytes)) (Ends ClaimReadFault))
sampled-same uses others same boot lease number sample =
    claim_in_time-same uses others same sample (ReadThen (lease_at lease) (λ bytes. seen_process uses lease (claim_of boot number sample) (read_lease bytes)) (Ends ClaimReadFault))
    ∙ ap (λ (rest : List ℕ → Process ClaimEnd). claim_in_time others sample (ReadThen (lease_at lease) rest (Ends ClaimReadFault)))
    (fun_ext (λ bytes. seen_process-same uses others same lease (claim_of boot number sample) (read_lease bytes)))

pub claim-same : (uses others : List InUse) → AreReachedAs uses others → (boot lease number : ℕ) →
    claim_process boot uses lease number ≡ claim_process boot others lease number
claim-same uses others same boot lease number = ap ClockThen (fun_ext (λ sample. sampled-same uses others same boot lease number sample))

-- ---- the other processes

-- the same take, with its leases listed so
abbrev with_uses : Taking → List InUse → Taking
with_uses t others = record t { uses = others }

pub damaged-same : (s : Setting) (known : Known) (uses others : List InUse) → AreReachedAs uses others → (block : ℕ) →
    damaged_process s known uses block ≡ damaged_process s known others block
damaged-same s known uses others same block =
    ap ClockThen (fun_ext (λ reading. ap (λ due. unless_reached due (λ due. lost_process s known due reading) (ends (reply.Damaged (record { 0 = block })) known)) (same reading)))

if-goes : (enough : Bool) (here rest : Taking → Process End) → GoesByReached here → GoesByReached rest → (t : Taking) (others : List InUse) →
    AreReachedAs t.uses others → (if enough then rest t else here t) ≡ (if enough then rest (with_uses t others) else here (with_uses t others))
if-goes true here rest first last t others same = last t others same
if-goes false here rest first last t others same = first t others same

needed-goes : (count : ℕ) (here rest : Taking → Process End) → GoesByReached here → GoesByReached rest → GoesByReached (if_needed count here rest)
needed-goes count here rest first last t others same = if-goes (nat_le count (length t.hand)) here rest first last t others same

set_process-goes : (s : Setting) (extent until : ℕ) (bits : List Bool) (blocks : List ℕ) (rest : Taking → Process End) → GoesByReached rest →
    GoesByReached (set_process s extent until bits blocks rest)
set_process-goes s extent until bits [] rest goes t others same = goes t others same
set_process-goes s extent until bits (block ∷ blocks) rest goes t others same =
    ap (write_then s t.known (extent_use s.geometry extent until) kind.Take (map_at s.geometry extent)
    (map_bytes (with_set (block ∷ blocks) (map_at s.geometry extent) bits))) (goes (with_taken t (block ∷ blocks)) others same)

take_found-goes : (s : Setting) (count extent until : ℕ) (found : Option (List Bool)) (rest : Taking → Process End) → GoesByReached rest →
    GoesByReached (take_found s count extent until found rest)
take_found-goes s count extent until None rest goes t others same =
    let own = extent_use s.geometry extent until in
    damaged-same s t.known (own ∷ t.uses) (own ∷ others) (reached-more own t.uses others same) (map_at s.geometry extent)
take_found-goes s count extent until (Some bits) rest goes t others same =
    set_process-goes s extent until bits (take (count - length t.hand) (free_from t.hand (map_at s.geometry extent) bits)) rest goes t others same

pub take_here-goes : (s : Setting) (count extent until : ℕ) (rest : Taking → Process End) → GoesByReached rest → GoesByReached (take_here s count extent until rest)
take_here-goes s count extent until rest goes t others same =
    ap (λ (next : List ℕ → Process End). read_then (map_at s.geometry extent) t.known next)
    (fun_ext (λ bytes. take_found-goes s count extent until (read_map s.geometry.extent_blocks bytes) rest goes t others same))

take_if_held-goes : (s : Setting) (count extent : ℕ) (hold : Hold) (rest : Taking → Process End) → GoesByReached rest →
    GoesByReached (take_if_held s count extent hold rest)
take_if_held-goes s count extent Nothing rest goes t others same = goes t others same
take_if_held-goes s count extent (Seen sample) rest goes t others same = goes t others same
take_if_held-goes s count extent (Wrote claim until) rest goes t others same = goes t others same
take_if_held-goes s count extent (Waited claim until) rest goes t others same = goes t others same
take_if_held-goes s count extent (Held claim until) rest goes t others same = take_here-goes s count extent until rest goes t others same

pub take_held-goes : (s : Setting) (count : ℕ) (holds : ℕ → Hold) (left extent : ℕ) (rest : Taking → Process End) → GoesByReached rest →
    GoesByReached (take_held s count holds left extent rest)
take_held-goes s count holds zero extent rest goes t others same = goes t others same
take_held-goes s count holds (suc left) extent rest goes t others same =
    let next = take_held-goes s count holds left (extent + 1) rest goes in
    needed-goes count (take_if_held s count extent (holds (lease_at (extent_lease s.geometry extent))) (take_held s count holds left (extent + 1) rest))
    (take_held s count holds left (extent + 1) rest)
    (take_if_held-goes s count extent (holds (lease_at (extent_lease s.geometry extent))) (take_held s count holds left (extent + 1) rest) next) next t others same

pub after_extent_claim-goes : (s : Setting) (count extent : ℕ) (rest : Taking → Process End) → GoesByReached rest → (t : Taking) (others : List InUse) →
    AreReachedAs t.uses others → (end : ClaimEnd) → after_extent_claim s count extent rest t end ≡ after_extent_claim s count extent rest (with_uses t others) end
after_extent_claim-goes s count extent rest goes t others same (ClaimHeld claim until) =
    let own = extent_use s.geometry extent until in
    take_here-goes s count extent until rest goes (with_claimed t own) (own ∷ others) (reached-more own t.uses others same)
after_extent_claim-goes s count extent rest goes t others same (ClaimBusy seen) = goes (with_busy t (extent_lease s.geometry extent) seen) others same
after_extent_claim-goes s count extent rest goes t others same (ClaimLost due reading) = refl
after_extent_claim-goes s count extent rest goes t others same ClaimReadFault = refl
after_extent_claim-goes s count extent rest goes t others same ClaimWriteFault = refl
after_extent_claim-goes s count extent rest goes t others same ClaimDamaged = refl

claim_extent-goes : (may : Bool) (s : Setting) (count extent : ℕ) (rest : Taking → Process End) → GoesByReached rest → GoesByReached (claim_extent may s count extent rest)
claim_extent-goes false s count extent rest goes t others same = refl
claim_extent-goes true s count extent rest goes t others same =
    ap (λ process. followed_by process (after_extent_claim s count extent rest (with_claim_begun t)))
    (claim-same t.uses others same s.boot (extent_lease s.geometry extent) t.known.claims)
    ∙ ap (λ (next : ClaimEnd → Process End). followed_by (claim_process s.boot others (extent_lease s.geometry extent) t.known.claims) next)
    (fun_ext (λ end. after_extent_claim-goes s count extent rest goes (with_claim_begun t) others same end))

claim_if_free-goes : (s : Setting) (count extent : ℕ) (free : List ℕ) (rest : Taking → Process End) → GoesByReached rest →
    GoesByReached (claim_if_free s count extent free rest)
claim_if_free-goes s count extent [] rest goes t others same = goes t others same
claim_if_free-goes s count extent (block ∷ blocks) rest goes t others same =
    claim_extent-goes (nat_lt t.known.claims last_claim) s count extent rest goes t others same

other_found-goes : (s : Setting) (count extent : ℕ) (found : Option (List Bool)) (rest : Taking → Process End) → GoesByReached rest →
    GoesByReached (other_found s count extent found rest)
other_found-goes s count extent None rest goes t others same = damaged-same s t.known t.uses others same (map_at s.geometry extent)
other_found-goes s count extent (Some bits) rest goes t others same =
    claim_if_free-goes s count extent (free_from t.hand (map_at s.geometry extent) bits) rest goes t others same

looked-goes : (s : Setting) (count extent : ℕ) (rest : Taking → Process End) → GoesByReached rest →
    GoesByReached (λ t. read_then (map_at s.geometry extent) t.known (λ bytes. other_found s count extent (read_map s.geometry.extent_blocks bytes) rest t))
looked-goes s count extent rest goes t others same =
    ap (λ (next : List ℕ → Process End). read_then (map_at s.geometry extent) t.known next)
    (fun_ext (λ bytes. other_found-goes s count extent (read_map s.geometry.extent_blocks bytes) rest goes t others same))

take_if_other-goes : (s : Setting) (count extent : ℕ) (hold : Hold) (rest : Taking → Process End) → GoesByReached rest →
    GoesByReached (take_if_other s count extent hold rest)
take_if_other-goes s count extent Nothing rest goes t others same = looked-goes s count extent rest goes t others same
take_if_other-goes s count extent (Seen sample) rest goes t others same = looked-goes s count extent rest goes t others same
take_if_other-goes s count extent (Wrote claim until) rest goes t others same = looked-goes s count extent rest goes t others same
take_if_other-goes s count extent (Waited claim until) rest goes t others same = looked-goes s count extent rest goes t others same
take_if_other-goes s count extent (Held claim until) rest goes t others same = goes t others same

pub take_others-goes : (s : Setting) (count : ℕ) (holds : ℕ → Hold) (left extent : ℕ) (rest : Taking → Process End) → GoesByReached rest →
    GoesByReached (take_others s count holds left extent rest)
take_others-goes s count holds zero extent rest goes t others same = goes t others same
take_others-goes s count holds (suc left) extent rest goes t others same =
    let next = take_others-goes s count holds left (extent + 1) rest goes in
    needed-goes count (take_if_other s count extent (holds (lease_at (extent_lease s.geometry extent))) (take_others s count holds left (extent + 1) rest))
    (take_others s count holds left (extent + 1) rest)
    (take_if_other-goes s count extent (holds (lease_at (extent_lease s.geometry extent))) (take_others s count holds left (extent + 1) rest) next) next t others same

pub taken_process-goes : (s : Setting) (count : ℕ) (rest : Taking → Process End) → GoesByReached rest → GoesByReached (taken_process s count rest)
taken_process-goes s count rest goes t others same = if-goes (nat_le count (length t.hand)) (λ t. shortage_process s t.known t.busy) rest (λ t others same. refl) goes t others same
