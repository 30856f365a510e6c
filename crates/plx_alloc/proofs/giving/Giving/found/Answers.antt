use Rattle.std.proofs.Common.{◌∙◌, ap, sym, subst, rules, ◌≡◌, ◌∷◌, Some, None, length, arith}
use Rattle.plx_base.specs.Spelling.{IsReading}
use Rattle.plx_base.specs.declared.write_kind.WriteKind.TheVariants as kind
use Rattle.plx_commands.specs.Replies.{is_in}
use Rattle.plx_extent.specs.Maps.{IsMap, map_bytes}
use Rattle.plx_geom.specs.Geometry.{map_at}
use Rattle.plx_lease.specs.Uses.{uses_of}
use Rattle.plx_rules.specs.Ends.{damaged_process, write_then}
use Rattle.plx_rules.specs.Space.{give_found, in_extent, read_map, with_clear}
use Rattle.plx_alloc.specs.Gives.{around_known, retire_use}
use Rattle.plx_alloc.specs.Pools.{AreBetween}
use Rattle.plx_alloc.specs.Tables.{allocator_setting, hand_numbers, numbers}
use Rattle.plx_alloc.proofs.Cleared.{map-outside-pool, with_clear-mine}
use Rattle.plx_alloc.proofs.Gives.{kept-use}
use Rattle.plx_alloc.proofs.Reading.{map-read-found}
use Rattle.plx_alloc.proofs.Since.{tells-given}
use Rattle.plx_alloc.proofs.giving.Giving.found.Goals as goal
use Rattle.plx_rules.proofs.Maps.{length-with_clear}

pub returns-in_default-clause-rest : goal.returns-in_default-clause-rest
returns-in_default-clause-rest c = λ o.
    let a = c.args.space.now in
    let m = c.args.self.now in
    let s = allocator_setting o.appliance a in
    let known = around_known o a in
    let mine = in_extent a.geometry m.extent.0 (hand_numbers a) in
    let blocks : c.blocks-2.inside.extent_blocks ≡ a.geometry.extent_blocks = search rules in
    let bytes : c.as_slice.result.now ≡ c.args.bytes.now = c.as_slice.ensures.same in
    let reading : IsReading (IsMap a.geometry.extent_blocks) map_bytes c.args.bytes.now None =
    subst (λ n. IsReading (IsMap n) map_bytes c.args.bytes.now None) blocks (subst (λ b. IsReading (IsMap c.blocks-2.inside.extent_blocks) map_bytes b None) bytes c.in_default.ensures) in
    let read : read_map a.geometry.extent_blocks c.args.bytes.now ≡ None = map-read-found a.geometry.extent_blocks c.args.bytes.now None a.limits.blocks_high reading in
    sym (ap (λ found. give_found s known (uses_of m.uses) m.extent.0 m.until mine found o.rest) read
    ∙ (ap (λ due. damaged_process s known (due ∷ uses_of m.uses) (map_at a.geometry m.extent.0)) (sym (kept-use a.geometry m c.requires.suits.lease))
    ∙ ap (λ block. damaged_process s known (retire_use m ∷ uses_of m.uses) block) (sym c.requires.suits.map)))

pub clear-requires-clause-apart : goal.clear-requires-clause-apart
clear-requires-clause-apart c =
    let a = c.args.space.now in
    let m = c.args.self.now in
    let low = a.limits.blocks_low in
    ap (is_in m.map.0) c.hand.ensures.blocks
    ∙ (ap (λ block. is_in block (hand_numbers a)) c.requires.suits.map ∙ map-outside-pool a.geometry m.extent.0 a.hand.items (omega (arith, low)) a.pool)

found-bits : (c : goal.After-self-3-1) → IsMap c.args.space.now.geometry.extent_blocks c.in-Some.bits
found-bits c =
    let blocks : c.blocks-2.inside.extent_blocks ≡ c.args.space.now.geometry.extent_blocks = search rules in
    subst (λ n. IsMap n c.in-Some.bits) blocks c.in-Some.ensures.0

out-bits : (c : goal.After-self-3-1) → c.spell_map.new.block ≡ map_bytes c.clear.new.bits
out-bits c = c.spell_map.ensures

pub returns-clause-rest : goal.returns-clause-rest
returns-clause-rest c = λ o.
    let a = c.args.space.now in
    let m = c.args.self.now in
    let g = a.geometry in
    let e = m.extent.0 in
    let s = allocator_setting o.appliance a in
    let known = around_known o a in
    let bits = c.in-Some.bits in
    let mine = in_extent g e (hand_numbers a) in
    let is = found-bits c in
    let read : read_map g.extent_blocks c.args.bytes.now ≡ Some bits = map-read-found g.extent_blocks c.args.bytes.now (Some bits) a.limits.blocks_high (is, sym c.as_slice.ensures.same ∙ c.in-Some.ensures.1) in
    let out : c.spell_map.new.block ≡ map_bytes (with_clear mine (map_at g e) bits) =
    out-bits c ∙ (ap map_bytes c.clear.ensures.cleared
    ∙ (ap (λ hand. map_bytes (with_clear hand m.map.0 bits)) c.hand.ensures.blocks
    ∙ (ap (λ block. map_bytes (with_clear (hand_numbers a) block bits)) c.requires.suits.map
    ∙ ap map_bytes (sym (with_clear-mine g e (hand_numbers a) bits is.long))))) in
    ap (λ bytes. write_then s known (retire_use m) kind.Give m.map.0 bytes o.rest) out
    ∙ (ap (λ block. write_then s known (retire_use m) kind.Give block (map_bytes (with_clear mine (map_at g e) bits)) o.rest) c.requires.suits.map
    ∙ (ap (λ due. write_then s known due kind.Give (map_at g e) (map_bytes (with_clear mine (map_at g e) bits)) o.rest) (kept-use g m c.requires.suits.lease)
    ∙ sym (ap (λ found. give_found s known (uses_of m.uses) e m.until mine found o.rest) read)))

pub returns-clause-suits : goal.returns-clause-suits
returns-clause-suits c =
    let m = c.args.self.now in
    let suits = c.requires.suits in
    let blocks : c.blocks-2.inside.extent_blocks ≡ c.args.space.now.geometry.extent_blocks = search rules in
    record {
      extent = suits.extent;
      map = suits.map;
      lease = suits.lease;
      held = suits.held;
      gives = subst (λ n. AreBetween m.map.0 n c.clear.result.items) blocks c.clear.ensures.own;
    }

pub returns-clause-tells : goal.returns-clause-tells
returns-clause-tells c = λ hand.
    let a = c.args.space.now in
    let m = c.args.self.now in
    let bits = c.in-Some.bits in
    let long : length c.clear.new.bits ≡ length bits = ap length c.clear.ensures.cleared ∙ length-with_clear (numbers c.hand.result.now) m.map.0 bits in
    tells-given a.geometry.extent_blocks m.map.0 bits c.clear.new.bits (numbers c.clear.result.items) c.args.bytes.now c.spell_map.new.block hand
    a.limits.blocks_high (found-bits c) (sym c.as_slice.ensures.same ∙ c.in-Some.ensures.1) (out-bits c) long c.clear.ensures.given
