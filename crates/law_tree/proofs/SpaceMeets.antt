-- What writes of maps meet as they are issued: a take's blocks were clear, and a give's are in hand.
use Rattle.std.proofs.Common.{◌≡◌, ℕ, zero, suc, ◌+◌, ◌-◌, ◌<◌, ◌≤◌, inl, inr, List, [], ◌∷◌, ◌++◌, Bool, true, false, Option, Some, None, refl, ap, sym, ◌∙◌, subst, arith, get_or}
use Rattle.std.specs.Prelude.{◌==◌, ◌&&◌, not, if◌then◌else◌}
use Rattle.plx_base.specs.Sectors.{Device}
use Rattle.plx_base.specs.declared.write_kind.WriteKind.{WriteKind}
use Rattle.plx_base.specs.declared.write_kind.WriteKind.TheVariants as kind
use Rattle.plx_commands.specs.Replies.{is_in}
use Rattle.plx_commands.specs.declared.command.Command.{Command}
use Rattle.plx_extent.proofs.Maps.{get_or-bits_of, length-bits_from, map_bytes-bit}
use Rattle.plx_extent.specs.Maps.{bit_of, bits_of}
use Rattle.plx_geom.specs.Geometry.{Geometry, extent_lease, lease_at, map_at}
use Rattle.plx_geom.proofs.Places.{map-map}
use Rattle.plx_radix.specs.Paths.{Unreachable}
use Rattle.plx_rules.proofs.Maps.{length-with_clear}
use Rattle.plx_rules.specs.Boot.{BootEntry, Place, In, Configuration, configuration, IsRun}
use Rattle.plx_rules.specs.Ends.{End}
use Rattle.plx_rules.specs.Hands.{hand_from, set_since}
use Rattle.plx_rules.specs.Process.{WriteThen, Process}
use Rattle.plx_rules.specs.Rests.{extent_of}
use Rattle.plx_rules.specs.Session.{Known}
use Rattle.plx_rules.specs.Settings.{Setting}
use Rattle.plx_rules.specs.Space.{with_clear}
use Rattle.plx_rules.specs.World.{World, Reached, stands, setting_of}
use Rattle.law_lease.proofs.LeaseSteps.{reached-leased}
use Rattle.law_lease.proofs.Leased.{Leased, grip_at}
use Rattle.law_lease.proofs.LeaseFrames.{grip-open}
use Rattle.law_lease.proofs.Runs.{boots-run}
use Rattle.plx_rules.specs.Holds.{Held}
use Rattle.plx_rules.specs.Owners.{pending_write}
use Rattle.law_run.specs.AllowedAsks.{MayWrite, take_of_blocks, give_of_blocks, HasRead}
use Rattle.law_run.specs.CommandLogs.{CommandLog, Commands, Between, Within, commands}
use Rattle.law_run.specs.Holdings.{hand_by_log, last_found}
use Rattle.law_run.specs.Rules.{IsSetting}
use Rattle.law_run.proofs.Begun.{begins-right}
use Rattle.law_run.proofs.FreeBlocks.{since-clear, own-read}
use Rattle.law_run.proofs.Right.{Right}
use Rattle.law_run.proofs.Runs.{Agree, agrees}
use Rattle.law_run.proofs.Worlds.{given-within}
use Rattle.law_space.proofs.Lists.{bit-extent, in-append}
use Rattle.law_space.proofs.Marks.{read-spells}
use Rattle.law_space.proofs.SpaceSteps.{kept-free, reached-spaced}
use Rattle.plx_rules.specs.Trees.{trees_of}
use Rattle.law_tree.proofs.ByKind.{Clears}
use Rattle.law_tree.proofs.Roots.{pool-extent}
use Rattle.law_tree.proofs.TreeSteps.{HoldsInTime}
use Rattle.law_tree.proofs.Treed.{Treed, IsFree, due}

-- ---- the rule of the write that stands, by the exchanges of its command

pub record WriteAsked (s : Setting) (p : Configuration) (k : WriteKind) (block : ℕ) (bytes : List ℕ) (guard : ℕ) : Type 0 where
  pub of : CommandLog
  pub may : MayWrite s of k block bytes guard
  pub hand : p.hand ≡ hand_by_log s of.before of.exchanges
  pub found : p.found ≡ last_found of.exchanges

pub write-asked : (s : Setting) (log : List BootEntry) → IsSetting s → IsRun s log → (known : Known) (command : Command) (k : WriteKind) (block : ℕ) (bytes : List ℕ) (guard : ℕ) (done fault : Process End) (missed : ℕ → Process End) →
    (configuration s log).place ≡ In known command (WriteThen k block bytes guard done fault missed) → WriteAsked s (configuration s log) k block bytes guard
write-asked s log setting run known command k block bytes guard done fault missed here =
    by_log (commands s log) (let P : Place → Type 0 = λ q. Agree s (configuration s log).holds (configuration s log).hand (configuration s log).filled (configuration s log).sample (configuration s log).found q (commands s log) in subst P here (agrees s (begins-right s setting) log run))
  where
    p : Configuration
    p = configuration s log

    by_left : (of : CommandLog) (left : ℕ) → Right s of.before of.command of.exchanges (WriteThen k block bytes guard done fault missed) left →
        (configuration s log).hand ≡ hand_by_log s of.before of.exchanges → (configuration s log).found ≡ last_found of.exchanges → WriteAsked s (configuration s log) k block bytes guard
    by_left of zero right hand found = absurd right
    by_left of (suc left) right hand found = record { of = of; may = right.0.0.1; hand = hand; found = found }

    by_log : (so_far : Commands) → Agree s (configuration s log).holds (configuration s log).hand (configuration s log).filled (configuration s log).sample (configuration s log).found (In known command (WriteThen k block bytes guard done fault missed)) so_far → WriteAsked s (configuration s log) k block bytes guard
    by_log (Between before) agree = absurd agree
    by_log (Within of) agree = by_left of agree.0.left agree.0.right agree.5 agree.6

-- ---- lists of bits

-- a bit that was cleared is that of one of the blocks
clear-named : (blocks : List ℕ) (from : ℕ) (bits : List Bool) (i : ℕ) → get_or bits i false ≡ true → get_or (with_clear blocks from bits) i false ≡ false → is_in (from + i) blocks ≡ true
clear-named blocks from [] i set clear = absurd (let P : ⊥ = cc in P)
clear-named blocks from (bit ∷ bits) zero set clear =
    let e : from + 0 ≡ from = omega arith in
    subst (λ (x : ℕ). is_in x blocks ≡ true) (sym e) (by_bit bit (is_in from blocks) set clear)
  where
    by_bit : (a b : Bool) → a ≡ true → (a && not b) ≡ false → b ≡ true
    by_bit true true set' clear' = refl
    by_bit true false set' clear' = absurd (let P : ⊥ = cc in P)
    by_bit false b set' clear' = absurd (let P : ⊥ = cc in P)
clear-named blocks from (bit ∷ bits) (suc i) set clear =
    let e : from + 1 + i ≡ from + suc i = omega arith in
    subst (λ (x : ℕ). is_in x blocks ≡ true) e (clear-named blocks (from + 1) bits i set clear)

-- ---- in a world

module _ (names : ℕ → ℕ → Type 0) (w : World) (reached : Reached w) (treed : Treed names w) (a : ℕ) (below : a < w.appliances) (none : (w.seats a).pending ≡ None) where
  abbrev g : Geometry
  g = w.geometry

  abbrev d : Device
  d = w.surface.device

  abbrev p : Configuration
  p = stands w a

  abbrev leased : Leased w
  leased = reached-leased reached

  -- a block in hand is free
  pub in-hand-free : (c : ℕ) → is_in c p.hand ≡ true → HoldsInTime p.holds w.surface.time (extent_lease g (extent_of g c)) → IsFree g d c
  in-hand-free c is holds =
      let D : Option ℕ → Type 0 = λ o. is_in c (due g o p.place p.found p.filled p.hand) ≡ true in
      let K : Option ℕ → Type 0 = λ o. grip_at p.place (pending_write w.surface.writes o) (lease_at (extent_lease g (extent_of g c))) (p.holds (lease_at (extent_lease g (extent_of g c)))) ≡ Held holds.0 holds.1 in
      treed.fresh a below c (subst D (sym none) is) holds.0 holds.1
      (subst K (sym none) (grip-open p.place None (lease_at (extent_lease g (extent_of g c))) (p.holds (lease_at (extent_lease g (extent_of g c)))) refl ∙ holds.2), holds.3)

  -- the map that was read directly before stands on the device, where its extent's lease is held in time
  map-stands : (extent : ℕ) (read : List ℕ) → extent < g.extents → p.found ≡ Some (map_at g extent, read) → HoldsInTime p.holds w.surface.time (extent_lease g extent) → d (map_at g extent) ≡ read
  map-stands extent read within found holds =
      let kept = kept-free w leased (reached-spaced reached) a below [] [] none extent within holds.0 holds.1 holds.2 holds.3 in
      kept.laid_now ∙ kept.shown read found

  pub rule : (known : Known) (command : Command) (k : WriteKind) (block : ℕ) (bytes : List ℕ) (guard : ℕ) (done fault : Process End) (missed : ℕ → Process End) →
      p.place ≡ In known command (WriteThen k block bytes guard done fault missed) → WriteAsked (setting_of w a) p k block bytes guard
  rule known command k block bytes guard done fault missed here =
      write-asked (setting_of w a) (w.seats a).log (given-within w reached a below) (boots-run w reached a below) known command k block bytes guard done fault missed here

  -- a map that was just read
  map-found : (k : WriteKind) (block : ℕ) (bytes : List ℕ) (guard : ℕ) (asks : WriteAsked (setting_of w a) p k block bytes guard) (extent : ℕ) (read : List ℕ) → block ≡ map_at g extent → HasRead asks.of block read → p.found ≡ Some (map_at g extent, read)
  map-found k block bytes guard asks extent read at has = asks.found ∙ (ap last_found has.1 ∙ ap (λ (b : ℕ). Some (b, read)) at)

  -- the blocks that a take brings are free
  pub take-free : (block : ℕ) (bytes : List ℕ) (guard : ℕ) → WriteAsked (setting_of w a) p kind.Take block bytes guard → (c : ℕ) → is_in c (hand_from g p.found kind.Take block bytes p.hand) ≡ true →
      HoldsInTime p.holds w.surface.time (extent_lease g (extent_of g c)) → IsFree g d c
  take-free block bytes guard asks c is holds = by_rule asks.may
    where
      by_rule : MayWrite (setting_of w a) asks.of kind.Take block bytes guard → IsFree g d c
      by_rule (take_of_blocks extent claim read bits blocks within at_map held has spelled free limits written) =
          let found = map-found kind.Take block bytes guard asks extent read at_map has in
          let F : Option (ℕ × List ℕ) → Type 0 = λ f. is_in c (hand_from g f kind.Take block bytes p.hand) ≡ true in
          by_test (map_at g extent == block) (subst F found is)
        where
          by_test : (t : Bool) → is_in c (if t then p.hand ++ set_since block (bits_of g.extent_blocks read) (bits_of g.extent_blocks bytes) else p.hand) ≡ true → IsFree g d c
          by_test false is' = in-hand-free c is' holds
          by_test true is' = elim (in-append c p.hand (set_since block (bits_of g.extent_blocks read) (bits_of g.extent_blocks bytes)) is') [
            | inl before ↦ in-hand-free c before holds
            | inr new ↦
                let since = since-clear c block (bits_of g.extent_blocks read) (bits_of g.extent_blocks bytes) new in
                let long = length-bits_from g.extent_blocks 0 read in
                let less : since.0 < g.extent_blocks = omega (arith, since.2, long) in
                let here : c ≡ map_at g extent + since.0 = omega (arith, since.1, at_map) in
                let its : extent_of g c ≡ extent = bit-extent g extent since.0 c less here in
                let clear : bit_of read since.0 ≡ false = sym (get_or-bits_of g.extent_blocks read since.0 less) ∙ since.3 in
                let low : 1 ≤ since.0 = above-own since.0 (own-read g.extent_blocks read bits spelled) since.3 in
                let holds' = subst (λ (e : ℕ). HoldsInTime p.holds w.surface.time (extent_lease g e)) its holds in
                let stands' : d (map_at g extent) ≡ read = map-stands extent read within (map-found kind.Take block bytes guard asks extent read at_map has) holds' in
                record {
                  pool = record { extent = extent; bit = since.0; is = record { extent_high = within; bit_low = low; bit_high = less; here = omega (arith, here) } };
                  off = λ q ds m le at. (
                      let r = treed.rooted q ds c m le at in
                      let set : bit_of (d (map_at g (extent_of g c))) (c - map_at g (extent_of g c)) ≡ true = r.1 in
                      let place : c - map_at g extent ≡ since.0 = omega (arith, here) in
                      let set' : bit_of read since.0 ≡ true =
                      ap (λ (x : List ℕ). bit_of x since.0) (sym stands') ∙ (ap (λ (i : ℕ). bit_of (d (map_at g extent)) i) (sym place) ∙ subst (λ (e : ℕ). bit_of (d (map_at g e)) (c - map_at g e) ≡ true) its set) in
                      let f : true ≡ false = sym set' ∙ clear in
                      let P : ⊥ = cc in P);
                }
          ]
            where
              above-own : (i : ℕ) → get_or (bits_of g.extent_blocks read) 0 false ≡ true → get_or (bits_of g.extent_blocks read) i false ≡ false → 1 ≤ i
              above-own zero own clear = absurd (let f : true ≡ false = sym own ∙ clear in let P : ⊥ = cc in P)
              above-own (suc i) own clear = omega arith

  -- the blocks that a give clears are reached by no path
  pub give-clears : (block : ℕ) (bytes : List ℕ) (guard : ℕ) → WriteAsked (setting_of w a) p kind.Give block bytes guard → ((extent : ℕ) → block ≡ map_at g extent → HoldsInTime p.holds w.surface.time (extent_lease g extent)) → Clears g d block bytes
  give-clears block bytes guard asks holds c pool here set clear = by_rule asks.may
    where
      by_rule : MayWrite (setting_of w a) asks.of kind.Give block bytes guard → Unreachable (trees_of g d) c
      by_rule (give_of_blocks extent claim read bits blocks within at_map held has spelled in_hand limits written) =
          let geometry = leased.geometry in
          let high = geometry.blocks_high in
          let e : extent_of g c ≡ extent = same-extent in
          let h = subst (λ (x : ℕ). HoldsInTime p.holds w.surface.time (extent_lease g x)) (sym e) (holds extent at_map) in
          let stands' : d (map_at g extent) ≡ read = map-stands extent read within (map-found kind.Give block bytes guard asks extent read at_map has) (holds extent at_map) in
          let s = read-spells g.extent_blocks read bits spelled in
          let bit : c - map_at g extent < g.extent_blocks = bit-low in
          let set' : get_or bits (c - map_at g extent) false ≡ true =
          sym (map_bytes-bit bits (c - map_at g extent) (omega (arith, s.1, high))) ∙ (ap (λ (x : List ℕ). bit_of x (c - map_at g extent)) (sym s.0)
          ∙ (ap (λ (x : List ℕ). bit_of x (c - map_at g extent)) (sym stands') ∙ subst (λ (x : ℕ). bit_of (d (map_at g x)) (c - map_at g x) ≡ true) e set)) in
          let clear' : get_or (with_clear blocks block bits) (c - map_at g extent) false ≡ false =
          sym (map_bytes-bit (with_clear blocks block bits) (c - map_at g extent) (omega (arith, s.1, high, length-with_clear blocks block bits))) ∙ (ap (λ (x : List ℕ). bit_of x (c - map_at g extent)) (sym written)
          ∙ subst (λ (x : ℕ). bit_of bytes (c - map_at g x) ≡ false) e clear) in
          let named : is_in (block + (c - map_at g extent)) blocks ≡ true = clear-named blocks block bits (c - map_at g extent) set' clear' in
          let is : block + (c - map_at g extent) ≡ c = past in
          let mine : is_in c p.hand ≡ true = subst (λ (x : List ℕ). is_in c x ≡ true) (sym asks.hand) (in_hand c (subst (λ (x : ℕ). is_in x blocks ≡ true) is named)) in
          (in-hand-free c mine h).off
        where
          some : 16 ≤ g.extent_blocks
          some = leased.geometry.blocks_low

          same-extent : extent_of g c ≡ extent
          same-extent = map-map g (extent_of g c) extent (omega (arith, some)) (here ∙ at_map)

          past : block + (c - map_at g extent) ≡ c
          past =
              let i = pool.is in
              let e : pool.extent ≡ extent = sym (pool-extent g c pool) ∙ same-extent in
              let at' : c ≡ map_at g extent + pool.bit = i.here ∙ ap (λ (x : ℕ). map_at g x + pool.bit) e in
              omega (arith, at', at_map)

          bit-low : c - map_at g extent < g.extent_blocks
          bit-low =
              let i = pool.is in
              let e : pool.extent ≡ extent = sym (pool-extent g c pool) ∙ same-extent in
              let at' : c ≡ map_at g extent + pool.bit = i.here ∙ ap (λ (x : ℕ). map_at g x + pool.bit) e in
              let high = i.bit_high in
              omega (arith, at', high)
