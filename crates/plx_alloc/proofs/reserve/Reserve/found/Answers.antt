use Rattle.std.proofs.Common.{rules, ◌≡◌, ◌≢◌, ◌-◌, ◌∙◌, ap, sym, subst, length, take, Some, None, [], ◌∷◌, arith}
use Rattle.plx_base.specs.Spelling.{IsReading}
use Rattle.plx_base.specs.declared.write_kind.WriteKind.TheVariants as kind
use Rattle.plx_extent.specs.Maps.{IsMap, map_bytes}
use Rattle.plx_geom.specs.Geometry.{map_at}
use Rattle.plx_lease.specs.Uses.{use_if, use_of, uses_of}
use Rattle.plx_rules.specs.Ends.{damaged_process, write_then}
use Rattle.plx_rules.specs.InUse.{earlier}
use Rattle.plx_rules.specs.Space.{extent_use, free_from, read_map, set_process, take_found, with_set, with_taken}
use Rattle.plx_alloc.specs.Tables.{allocator_setting, hand_numbers, numbers}
use Rattle.plx_alloc.specs.Takes.{next_rest, outer_known, taking_of}
use Rattle.plx_alloc.proofs.Reached.{damaged-same}
use Rattle.plx_alloc.proofs.Reading.{map-read-found}
use Rattle.plx_alloc.specs.Pools.{AreBetween}
use Rattle.plx_alloc.proofs.Since.{tells-taken}
use Rattle.plx_alloc.proofs.Suited.{numbers-length}
use Rattle.plx_alloc.proofs.Taking.{any-none, any-some, earlier-reached, map-stands, set_process-none, set_process-some}
use Rattle.plx_alloc.proofs.reserve.Reserve.found.Goals as goal

pub returns-in_default-clause-rest : goal.returns-in_default-clause-rest
returns-in_default-clause-rest c = λ o.
    let a = c.args.space.now in
    let m = c.args.self.now in
    let s = allocator_setting o.appliance a in
    let known = outer_known o a in
    let own = extent_use a.geometry m.extent.0 m.until in
    let blocks : c.blocks-2.inside.extent_blocks ≡ a.geometry.extent_blocks = search rules in
    let bytes : c.as_slice.result.now ≡ c.args.bytes.now = c.as_slice.ensures.same in
    let reading : IsReading (IsMap a.geometry.extent_blocks) map_bytes c.args.bytes.now None =
    subst (λ n. IsReading (IsMap n) map_bytes c.args.bytes.now None) blocks (subst (λ b. IsReading (IsMap c.blocks-2.inside.extent_blocks) map_bytes b None) bytes c.in_default.ensures) in
    let read : read_map a.geometry.extent_blocks c.args.bytes.now ≡ None = map-read-found a.geometry.extent_blocks c.args.bytes.now None a.limits.blocks_high reading in
    let first : use_of c.earlier.result ≡ earlier own (use_if m.uses) = c.earlier.ensures ∙ ap (λ use'. earlier use' (use_if m.uses)) c.own_use.ensures in
    sym (ap (λ found. take_found s m.count m.extent.0 m.until found (next_rest o a m) (taking_of o a m)) read
    ∙ (damaged-same s known (own ∷ uses_of m.uses) (use_of c.earlier.result ∷ []) (earlier-reached own m.uses c.earlier.result first) (map_at a.geometry m.extent.0)
    ∙ ap (λ block. damaged_process s known (use_of c.earlier.result ∷ []) block) (sym c.requires.suits.map)))

found-empty : (c : goal.After-go_on) → read_map c.args.space.now.geometry.extent_blocks c.args.bytes.now ≡ Some c.in-Some.bits
found-empty c =
    let a = c.args.space.now in
    let blocks : c.blocks-2.inside.extent_blocks ≡ a.geometry.extent_blocks = search rules in
    let bytes : c.as_slice.result.now ≡ c.args.bytes.now = c.as_slice.ensures.same in
    map-read-found a.geometry.extent_blocks c.args.bytes.now (Some c.in-Some.bits) a.limits.blocks_high
    (subst (λ n. IsReading (IsMap n) map_bytes c.args.bytes.now (Some c.in-Some.bits)) blocks (subst (λ b. IsReading (IsMap c.blocks-2.inside.extent_blocks) map_bytes b (Some c.in-Some.bits)) bytes c.in-Some.ensures))

taken-empty : (c : goal.After-go_on) → numbers c.choose.result.items
    ≡ take (c.args.self.now.count - length (hand_numbers c.args.space.now)) (free_from (hand_numbers c.args.space.now) (map_at c.args.space.now.geometry c.args.self.now.extent.0) c.in-Some.bits)
taken-empty c =
    let a = c.args.space.now in
    let m = c.args.self.now in
    let need : c.saturating_sub-need.result ≡ m.count - length (hand_numbers a) = search rules in
    c.choose.ensures.taken
    ∙ (ap (λ n. take n (free_from (numbers c.hand.result.now) m.map.0 c.in-Some.bits)) need
    ∙ (ap (λ hand. take (m.count - length (hand_numbers a)) (free_from hand m.map.0 c.in-Some.bits)) c.hand.ensures.blocks
    ∙ ap (λ block. take (m.count - length (hand_numbers a)) (free_from (hand_numbers a) block c.in-Some.bits)) c.requires.suits.map))

pub returns-then-is_empty-clause-rest : goal.returns-then-is_empty-clause-rest
returns-then-is_empty-clause-rest c = λ o.
    let a = c.args.space.now in
    let m = c.args.self.now in
    let s = allocator_setting o.appliance a in
    let items = c.choose.result.items in
    let next = next_rest o a m in
    let t = taking_of o a m in
    let none' : length items ≡ 0 = search rules in
    c.go_on.ensures.rest o
    ∙ sym (ap (λ found. take_found s m.count m.extent.0 m.until found next t) (found-empty c)
    ∙ (ap (λ blocks. set_process s m.extent.0 m.until c.in-Some.bits blocks next t) (sym (taken-empty c))
    ∙ set_process-none s m.extent.0 m.until c.in-Some.bits (numbers items) next t (any-none items none')))

found-some : (c : goal.After-self-3-1) → read_map c.args.space.now.geometry.extent_blocks c.args.bytes.now ≡ Some c.in-Some.bits
found-some c =
    let a = c.args.space.now in
    let blocks : c.blocks-2.inside.extent_blocks ≡ a.geometry.extent_blocks = search rules in
    let bytes : c.as_slice.result.now ≡ c.args.bytes.now = c.as_slice.ensures.same in
    map-read-found a.geometry.extent_blocks c.args.bytes.now (Some c.in-Some.bits) a.limits.blocks_high
    (subst (λ n. IsReading (IsMap n) map_bytes c.args.bytes.now (Some c.in-Some.bits)) blocks (subst (λ b. IsReading (IsMap c.blocks-2.inside.extent_blocks) map_bytes b (Some c.in-Some.bits)) bytes c.in-Some.ensures))

taken-some : (c : goal.After-self-3-1) → numbers c.choose.result.items
    ≡ take (c.args.self.now.count - length (hand_numbers c.args.space.now)) (free_from (hand_numbers c.args.space.now) (map_at c.args.space.now.geometry c.args.self.now.extent.0) c.in-Some.bits)
taken-some c =
    let a = c.args.space.now in
    let m = c.args.self.now in
    let need : c.saturating_sub-need.result ≡ m.count - length (hand_numbers a) = search rules in
    c.choose.ensures.taken
    ∙ (ap (λ n. take n (free_from (numbers c.hand.result.now) m.map.0 c.in-Some.bits)) need
    ∙ (ap (λ hand. take (m.count - length (hand_numbers a)) (free_from hand m.map.0 c.in-Some.bits)) c.hand.ensures.blocks
    ∙ ap (λ block. take (m.count - length (hand_numbers a)) (free_from (hand_numbers a) block c.in-Some.bits)) c.requires.suits.map))

pub returns-clause-rest : goal.returns-clause-rest
returns-clause-rest c = λ o.
    let a = c.args.space.now in
    let m = c.args.self.now in
    let s = allocator_setting o.appliance a in
    let known = outer_known o a in
    let own = extent_use a.geometry m.extent.0 m.until in
    let items = c.choose.result.items in
    let next = next_rest o a m in
    let t = taking_of o a m in
    let some : length items ≢ 0 = search rules in
    let out : c.spell_map.new.block ≡ map_bytes (with_set (numbers items) (map_at a.geometry m.extent.0) c.in-Some.bits) =
    c.spell_map.ensures ∙ (ap map_bytes c.choose.ensures.set
    ∙ ap (λ block. map_bytes (with_set (numbers items) block c.in-Some.bits)) c.requires.suits.map) in
    ap (λ block. write_then s known own kind.Take block c.spell_map.new.block (next (with_taken t (numbers items)))) c.requires.suits.map
    ∙ (ap (λ bytes. write_then s known own kind.Take (map_at a.geometry m.extent.0) bytes (next (with_taken t (numbers items)))) out
    ∙ sym (ap (λ found. take_found s m.count m.extent.0 m.until found next t) (found-some c)
    ∙ (ap (λ blocks. set_process s m.extent.0 m.until c.in-Some.bits blocks next t) (sym (taken-some c))
    ∙ set_process-some s m.extent.0 m.until c.in-Some.bits (numbers items) next t (any-some items some))))

pub returns-clause-suits : goal.returns-clause-suits
returns-clause-suits c = λ none'.
    let a = c.args.space.now in
    let m = c.args.self.now in
    let suits = c.requires.suits in
    let stands = map-stands a m c.requires.at suits.stands in
    let blocks : c.blocks-2.inside.extent_blocks ≡ a.geometry.extent_blocks = search rules in
    let need : c.saturating_sub-need.result ≡ m.count - length (hand_numbers a) = search rules in
    let few = c.choose.ensures.len in
    let long = numbers-length a.hand.items in
    let most = m.most in
    let room = suits.room in
    record {
      extent = suits.extent;
      map = suits.map;
      room = omega (arith, few, need, long, most, room);
      held = suits.held;
      stands = record { lease = stands.lease; own = subst (λ n. AreBetween m.map.0 n c.choose.result.items) blocks c.choose.ensures.own };
    }

pub returns-clause-tells : goal.returns-clause-tells
returns-clause-tells c = λ none' hand.
    let a = c.args.space.now in
    let m = c.args.self.now in
    let g = a.geometry in
    let n = m.count - length (hand_numbers a) in
    let items = c.choose.result.items in
    let map = m.map.0 in
    let blocks : c.blocks-2.inside.extent_blocks ≡ g.extent_blocks = search rules in
    let is : IsMap g.extent_blocks c.in-Some.bits = subst (λ n. IsMap n c.in-Some.bits) blocks c.in-Some.ensures.0 in
    let bytes : c.args.bytes.now ≡ map_bytes c.in-Some.bits = sym c.as_slice.ensures.same ∙ c.in-Some.ensures.1 in
    let out : c.spell_map.new.block ≡ map_bytes (with_set (numbers items) map c.in-Some.bits) =
    c.spell_map.ensures ∙ (ap map_bytes c.choose.ensures.set) in
    let taken : numbers items ≡ take n (free_from (hand_numbers a) map c.in-Some.bits) =
    taken-some c ∙ ap (λ block. take n (free_from (hand_numbers a) block c.in-Some.bits)) (sym c.requires.suits.map) in
    tells-taken g.extent_blocks (hand_numbers a) n map c.in-Some.bits (numbers items) c.args.bytes.now c.spell_map.new.block hand a.limits.blocks_high is bytes out taken
