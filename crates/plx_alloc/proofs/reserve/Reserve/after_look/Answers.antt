use Rattle.std.proofs.Common.{rules, ◌≡◌, ◌<◌, ◌+◌, ◌∙◌, ℕ, suc, true, false, ap, sym, refl, subst, length, Some, None, arith}
use Rattle.std.specs.Prelude.{nat_lt}
use Rattle.plx_base.specs.Spelling.{IsReading}
use Rattle.plx_commands.specs.Limits.{last_claim}
use Rattle.plx_commands.specs.declared.reply.Reply.TheVariants as reply
use Rattle.plx_extent.specs.Maps.{IsMap, map_bytes}
use Rattle.plx_geom.specs.Geometry.{extent_lease, lease_at, map_at}
use Rattle.plx_base.specs.declared.numbers.Boot.{Boot}
use Rattle.plx_lease.specs.Claiming.{claim_rest}
use Rattle.plx_lease.specs.Uses.{uses_of}
use Rattle.plx_rules.specs.Claims.{claim_process}
use Rattle.plx_rules.specs.Holds.{Hold}
use Rattle.plx_token.specs.declared.kind.Extent.{Extent}
use Rattle.plx_rules.specs.Ends.{damaged_process, ends}
use Rattle.plx_rules.specs.Space.{claim_extent, free_from, other_found, read_map}
use Rattle.plx_alloc.specs.Tables.{claims_after, allocator_setting, hand_numbers, has_any, held_of, extent_hold, numbers}
use Rattle.plx_alloc.specs.Takes.{next_rest, outer_known, taking_of}
use Rattle.plx_alloc.specs.declared.reserve.Reserve.{Reserve}
use Rattle.plx_alloc.specs.declared.reserve.ReserveAt.TheVariants as at
use Rattle.plx_alloc.proofs.Reading.{map-read-found}
use Rattle.plx_alloc.proofs.Suited.{hand-same, hold-none, next-none, next-some, numbers-length}
use Rattle.plx_base.proofs.Tests.{nat_le-false}
use Rattle.plx_alloc.proofs.Taking.{known_outside, claims-nothing-free, free-some, look-stands, looked-rest}
use Rattle.plx_alloc.proofs.reserve.Reserve.after_look.Goals as goal

pub returns-in_default-clause-rest : goal.returns-in_default-clause-rest
returns-in_default-clause-rest c = λ o.
    let a = c.args.space.now in
    let m = c.args.self.now in
    let s = allocator_setting o.appliance a in
    let known = outer_known o a in
    let blocks : c.blocks-2.inside.extent_blocks ≡ a.geometry.extent_blocks = search rules in
    let bytes : c.as_slice.result.now ≡ c.args.bytes.now = c.as_slice.ensures.same in
    let reading : IsReading (IsMap a.geometry.extent_blocks) map_bytes c.args.bytes.now None =
    subst (λ n. IsReading (IsMap n) map_bytes c.args.bytes.now None) blocks (subst (λ b. IsReading (IsMap c.blocks-2.inside.extent_blocks) map_bytes b None) bytes c.in_default.ensures) in
    let read : read_map a.geometry.extent_blocks c.args.bytes.now ≡ None = map-read-found a.geometry.extent_blocks c.args.bytes.now None a.limits.blocks_high reading in
    ap (λ block. damaged_process s known (uses_of m.uses) block) c.requires.suits.map
    ∙ sym (ap (λ found. other_found s m.count m.extent.0 found (next_rest o a m) (taking_of o a m)) read)

found-none : (c : goal.After-go_on) → read_map c.args.space.now.geometry.extent_blocks c.args.bytes.now ≡ Some c.in-Some.bits
found-none c =
    let a = c.args.space.now in
    let blocks : c.blocks-2.inside.extent_blocks ≡ a.geometry.extent_blocks = search rules in
    let bytes : c.as_slice.result.now ≡ c.args.bytes.now = c.as_slice.ensures.same in
    map-read-found a.geometry.extent_blocks c.args.bytes.now (Some c.in-Some.bits) a.limits.blocks_high
    (subst (λ n. IsReading (IsMap n) map_bytes c.args.bytes.now (Some c.in-Some.bits)) blocks (subst (λ b. IsReading (IsMap c.blocks-2.inside.extent_blocks) map_bytes b (Some c.in-Some.bits)) bytes c.in-Some.ensures))

free-not : (c : goal.After-go_on) → has_any (free_from (hand_numbers c.args.space.now) (map_at c.args.space.now.geometry c.args.self.now.extent.0) c.in-Some.bits) ≡ false
free-not c =
    let a = c.args.space.now in
    let m = c.args.self.now in
    ap (λ hand. has_any (free_from hand (map_at a.geometry m.extent.0) c.in-Some.bits)) (sym c.hand.ensures.blocks)
    ∙ (ap (λ block. has_any (free_from (numbers c.hand.result.now) block c.in-Some.bits)) (sym c.requires.suits.map)
    ∙ (sym c.has_free.ensures ∙ c.if-not-has_free.true))

pub returns-then-not-has_free-clause-rest : goal.returns-then-not-has_free-clause-rest
returns-then-not-has_free-clause-rest c = λ o.
    let a = c.args.space.now in
    let m = c.args.self.now in
    let s = allocator_setting o.appliance a in
    c.go_on.ensures.rest o
    ∙ sym (ap (λ found. other_found s m.count m.extent.0 found (next_rest o a m) (taking_of o a m)) (found-none c)
    ∙ claims-nothing-free s m.count m.extent.0 (free_from (hand_numbers a) (map_at a.geometry m.extent.0) c.in-Some.bits) (next_rest o a m) (taking_of o a m) (free-not c))

found-worn : (c : goal.In_default-next_claim) → read_map c.args.space.now.geometry.extent_blocks c.args.bytes.now ≡ Some c.in-Some.bits
found-worn c =
    let a = c.args.space.now in
    let blocks : c.blocks-2.inside.extent_blocks ≡ a.geometry.extent_blocks = search rules in
    let bytes : c.as_slice.result.now ≡ c.args.bytes.now = c.as_slice.ensures.same in
    map-read-found a.geometry.extent_blocks c.args.bytes.now (Some c.in-Some.bits) a.limits.blocks_high
    (subst (λ n. IsReading (IsMap n) map_bytes c.args.bytes.now (Some c.in-Some.bits)) blocks (subst (λ b. IsReading (IsMap c.blocks-2.inside.extent_blocks) map_bytes b (Some c.in-Some.bits)) bytes c.in-Some.ensures))

free-worn : (c : goal.In_default-next_claim) → has_any (free_from (hand_numbers c.args.space.now) (map_at c.args.space.now.geometry c.args.self.now.extent.0) c.in-Some.bits) ≡ true
free-worn c =
    let a = c.args.space.now in
    let m = c.args.self.now in
    ap (λ hand. has_any (free_from hand (map_at a.geometry m.extent.0) c.in-Some.bits)) (sym c.hand.ensures.blocks)
    ∙ (ap (λ block. has_any (free_from (numbers c.hand.result.now) block c.in-Some.bits)) (sym c.requires.suits.map)
    ∙ (sym c.has_free.ensures ∙ c.if-not-has_free.false))

pub returns-in_default-next_claim-clause-rest : goal.returns-in_default-next_claim-clause-rest
returns-in_default-next_claim-clause-rest c = λ o.
    let a = c.args.space.now in
    let m = c.args.self.now in
    let s = allocator_setting o.appliance a in
    let worn : a.claims ≡ last_claim = next-none a.claims (sym c.in_default-next_claim.is ∙ c.next_claim.ensures.number) in
    let over : nat_lt a.claims last_claim ≡ false = nat_le-false (suc a.claims) last_claim (omega (arith, worn)) in
    ap (λ n. ends (reply.WornOut last_claim) (known_outside o n)) (c.next_claim.ensures.claims ∙ ap (claims_after a.claims) c.in_default-next_claim.is)
    ∙ sym (ap (λ found. other_found s m.count m.extent.0 found (next_rest o a m) (taking_of o a m)) (found-worn c)
    ∙ (free-some s m.count m.extent.0 (free_from (hand_numbers a) (map_at a.geometry m.extent.0) c.in-Some.bits) (next_rest o a m) (taking_of o a m) (free-worn c)
    ∙ ap (λ may. claim_extent may s m.count m.extent.0 (next_rest o a m) (taking_of o a m)) over))

found-claim : (c : goal.After-self-2-1) → read_map c.args.space.now.geometry.extent_blocks c.args.bytes.now ≡ Some c.in-Some.bits
found-claim c =
    let a = c.args.space.now in
    let blocks : c.blocks-2.inside.extent_blocks ≡ a.geometry.extent_blocks = search rules in
    let bytes : c.as_slice.result.now ≡ c.args.bytes.now = c.as_slice.ensures.same in
    map-read-found a.geometry.extent_blocks c.args.bytes.now (Some c.in-Some.bits) a.limits.blocks_high
    (subst (λ n. IsReading (IsMap n) map_bytes c.args.bytes.now (Some c.in-Some.bits)) blocks (subst (λ b. IsReading (IsMap c.blocks-2.inside.extent_blocks) map_bytes b (Some c.in-Some.bits)) bytes c.in-Some.ensures))

free-claim : (c : goal.After-self-2-1) → has_any (free_from (hand_numbers c.args.space.now) (map_at c.args.space.now.geometry c.args.self.now.extent.0) c.in-Some.bits) ≡ true
free-claim c =
    let a = c.args.space.now in
    let m = c.args.self.now in
    ap (λ hand. has_any (free_from hand (map_at a.geometry m.extent.0) c.in-Some.bits)) (sym c.hand.ensures.blocks)
    ∙ (ap (λ block. has_any (free_from (numbers c.hand.result.now) block c.in-Some.bits)) (sym c.requires.suits.map)
    ∙ (sym c.has_free.ensures ∙ c.if-not-has_free.false))

pub returns-clause-rest : goal.returns-clause-rest
returns-clause-rest c = λ o.
    let a = c.args.space.now in
    let b = c.next_claim.new.self in
    let m = c.args.self.now in
    let s = allocator_setting o.appliance a in
    let e = c.next_claim.ensures in
    let claims : b.claims ≡ a.claims + 1 = e.claims ∙ ap (claims_after a.claims) c.in-Some-next_claim.is in
    let next = next-some a.claims c.in-Some-next_claim.number (sym c.in-Some-next_claim.is ∙ e.number) in
    let ne = next.1 in
    let most = a.begun in
    let less : a.claims < last_claim = omega (arith, ne, most) in
    let lease : c.lease_number.result ≡ extent_lease a.geometry m.extent.0 = c.lease_number.ensures ∙ ap (λ g. extent_lease g m.extent.0) e.same.geometry in
    let place : 1 + c.from.result ≡ lease_at (extent_lease a.geometry m.extent.0) = ap (λ n. 1 + n) (c.from.ensures ∙ lease) in
    let claim : claim_rest c.begin_next.new.self ≡ claim_process a.boot.0 (uses_of m.uses) (extent_lease a.geometry m.extent.0) a.claims =
    c.begin_next.ensures.rest (extent_lease a.geometry m.extent.0) place
    ∙ (ap (λ (boot : Boot). claim_process boot.0 (uses_of m.uses) (extent_lease a.geometry m.extent.0) c.in-Some-next_claim.number) (c.boot.ensures ∙ e.same.boot)
    ∙ ap (claim_process a.boot.0 (uses_of m.uses) (extent_lease a.geometry m.extent.0)) next.0) in
    let new : Reserve = record m { at = at.Claim; claim = c.begin_next.new.self } in
    looked-rest o a b m new e.same e.leases e.hand claims less refl refl refl refl refl refl claim
    ∙ sym (ap (λ found. other_found s m.count m.extent.0 found (next_rest o a m) (taking_of o a m)) (found-claim c)
    ∙ free-some s m.count m.extent.0 (free_from (hand_numbers a) (map_at a.geometry m.extent.0) c.in-Some.bits) (next_rest o a m) (taking_of o a m) (free-claim c))

pub go_on-requires-clause-room : goal.go_on-requires-clause-room
go_on-requires-clause-room c = (look-stands c.args.space.now c.args.self.now c.requires.at c.requires.suits.stands).none_yet

pub returns-clause-suits : goal.returns-clause-suits
returns-clause-suits c = λ none.
    let a = c.args.space.now in
    let b = c.next_claim.new.self in
    let m = c.args.self.now in
    let e = c.next_claim.ensures in
    let suits = c.requires.suits in
    let stands = look-stands a m c.requires.at suits.stands in
    let lease : c.lease_number.result ≡ extent_lease a.geometry m.extent.0 = c.lease_number.ensures ∙ ap (λ g. extent_lease g m.extent.0) e.same.geometry in
    let place : 1 + c.from.result ≡ lease_at (extent_lease a.geometry m.extent.0) = ap (λ n. 1 + n) (c.from.ensures ∙ lease) in
    let long-a = numbers-length a.hand.items in
    let long-b = numbers-length b.hand.items in
    let long : length (hand_numbers b) ≡ length (hand_numbers a) = ap length e.hand in
    let room = suits.room in
    record {
      extent = subst (λ g. m.extent.0 < g.extents) (sym e.same.geometry) suits.extent;
      map = suits.map ∙ ap (λ g. map_at g m.extent.0) (sym e.same.geometry);
      room = omega (arith, long-a, long-b, long, room);
      held = hand-same a b e.same e.leases e.hand suits.held;
      stands = record {
        other = record {
          pass = stands.pass;
          free = hold-none (held_of b m.extent.0) (ap (λ (table : ℕ → Hold). table m.extent.0) e.leases ∙ ap extent_hold stands.free);
          none_yet = stands.none_yet;
        };
        lease = ap (λ (k : Extent). k.0) c.begin_next.ensures.lease;
        number = c.begin_next.ensures.number (extent_lease a.geometry m.extent.0) place ∙ ap (λ g. extent_lease g m.extent.0) (sym e.same.geometry);
      };
    }

pub returns-clause-starts : goal.returns-clause-starts
returns-clause-starts c = λ none'.
    let a = c.args.space.now in
    let m = c.args.self.now in
    let e = c.next_claim.ensures in
    let stands = look-stands a m c.requires.at c.requires.suits.stands in
    let lease : c.lease_number.result ≡ extent_lease a.geometry m.extent.0 = c.lease_number.ensures ∙ ap (λ g. extent_lease g m.extent.0) e.same.geometry in
    let place : 1 + c.from.result ≡ lease_at (extent_lease a.geometry m.extent.0) = ap (λ n. 1 + n) (c.from.ensures ∙ lease) in
    record {
      number = c.begin_next.ensures.number (extent_lease a.geometry m.extent.0) place;
      none = ap (λ (table : ℕ → Hold). table m.extent.0) e.leases ∙ ap extent_hold stands.free;
      fresh = c.begin_next.ensures.hold;
      sampled = c.begin_next.ensures.sampled;
    }
