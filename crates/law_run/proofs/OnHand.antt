-- What is held and in hand as blocks are given back and leases of extents released, after any exchanges of a command.
use Rattle.std.proofs.Common.{◌≡◌, ◌≢◌, ℕ, ◌+◌, ◌≤◌, ◌<◌, List, [], ◌∷◌, ◌++◌, length, Bool, true, false, Some, refl, ap, sym, subst, ◌∙◌, arith, inl, inr, ◌⊎◌}
use Rattle.std.specs.Prelude.{◌==◌, ◌||◌, not, if◌then◌else◌}
use Rattle.std.proofs.lemmas.Bool.Decides.{eqb_tells}
use Rattle.plx_base.proofs.Tests.{eqb-true, clash, opposite-true}
use Rattle.plx_base.specs.declared.lease.Claim.{Claim}
use Rattle.plx_base.specs.declared.lease.LeaseRecord.TheVariants as lease_is
use Rattle.plx_base.specs.declared.write_kind.WriteKind.TheVariants as kind
use Rattle.plx_commands.proofs.Places.{at-other, at-same}
use Rattle.plx_commands.specs.Places.{at}
use Rattle.plx_commands.specs.Replies.{is_in}
use Rattle.plx_disk.specs.declared.ask.Ask.TheVariants as ask
use Rattle.plx_disk.specs.declared.ask.Answer.TheVariants as answer
use Rattle.plx_extent.proofs.Maps.{bits-back, length-bits_from}
use Rattle.plx_extent.specs.Maps.{bits_of, map_bytes}
use Rattle.plx_gate.specs.Leases.{lease_bytes}
use Rattle.plx_geom.proofs.Places.{lease-lease, lease-map, image-below, extent-below}
use Rattle.plx_geom.specs.Geometry.{Geometry, lease_count, image_lease, extent_lease, lease_at, map_at}
use Rattle.plx_rules.proofs.Maps.{length-with_clear}
use Rattle.plx_rules.specs.Hands.{is_held, set_since, blocks_without, hand_written, hand_from, hand_answered}
use Rattle.plx_rules.specs.Holds.{Hold, Nothing, Held}
use Rattle.plx_rules.specs.Rests.{extent_of}
use Rattle.plx_rules.specs.Settings.{Setting}
use Rattle.plx_rules.specs.Space.{read_map, with_clear, in_extent}
use Rattle.law_run.specs.AllowedAsks.{GoesOn, WentOn}
use Rattle.law_run.specs.CommandLogs.{Exchange, Finished, IsIn, first_reading}
use Rattle.law_run.specs.Holdings.{holds_along, holds_after, hold_by_log, hand_by_log, filled_by_log, last_found, claims_in, begins_claim}
use Rattle.law_run.specs.OnHand.{WasClear}
use Rattle.law_run.specs.Sessions.{is_attached}
use Rattle.law_run.proofs.FreeBlocks.{map-bits}
use Rattle.law_run.proofs.Hands.{HasBlock, has-filter, filter-has, hand-is-held, hand-keeps, hand-fewer, LinksNone, left-same, told-quiet, give-leaves, give-fewer}
use Rattle.law_run.proofs.Holding.{first-more, claims-more, reads-no-claim}
use Rattle.law_run.proofs.Meets.{exchange}
use Rattle.law_run.proofs.OnExtent.{map-no-lease}
use Rattle.law_run.proofs.Uses.{claims_at}
use Rattle.law_run.proofs.Right.{read_of}
use Rattle.law_run.proofs.Runs.{HasFirst, along-more}

-- the leases before an extent's, of those of extents
abbrev pub PastExtent : Setting → (extent lease : ℕ) → Type 0
PastExtent s extent lease = (extent_lease s.geometry 0 ≤ lease) × (lease < extent_lease s.geometry extent)

-- the extents before this one
abbrev pub GivenBack : (extent other : ℕ) → Type 0
GivenBack extent other = other < extent

pub no-claim : (x : Exchange) → claims_at x.ask ≡ false → (block guard : ℕ) (bytes : List ℕ) → x ≢ exchange (ask.Write kind.Claim (record { 0 = block }) guard) bytes answer.Done
no-claim x none block guard bytes e = clash (claims_at x.ask) (ap (λ (y : Exchange). claims_at y.ask) e) none

-- ---- the bits that a give clears

rest-none : (test : Bool) (start b : ℕ) (rest : List ℕ) → is_in b (if test then start ∷ rest else rest) ≡ false → is_in b rest ≡ false
rest-none true start b rest none = by-head (b == start) none
  where
    by-head : (head : Bool) → (head || is_in b rest) ≡ false → is_in b rest ≡ false
    by-head true is = absurd (let P : ⊥ = cc in P)
    by-head false is = is
rest-none false start b rest none = none

-- of the blocks whose bits are cleared, one whose bit wasn't set before had it clear
unset-clear : (blocks : List ℕ) (b start : ℕ) (bits : List Bool) → HasBlock blocks b → is_in b (set_since start (with_clear blocks start bits) bits) ≡ false →
    with_clear (b ∷ []) start bits ≡ bits
unset-clear blocks b start [] among none = refl
unset-clear blocks b start (false ∷ bits) among none = ap (λ (l : List Bool). false ∷ l) (unset-clear blocks b (start + 1) bits among none)
unset-clear blocks b start (true ∷ bits) among none = elim (eqb_tells start b) [
  | inl same ↦ absurd (
      let there : is_in start blocks ≡ true = subst (λ c. is_in c blocks ≡ true) (sym same.1) among in
      let e : is_in b (start ∷ set_since (start + 1) (with_clear blocks (start + 1) bits) bits) ≡ false =
      subst (λ (t : Bool). is_in b (if not (not t) then start ∷ set_since (start + 1) (with_clear blocks (start + 1) bits) bits else set_since (start + 1) (with_clear blocks (start + 1) bits) bits) ≡ false) there none in
      clash (is_in b (start ∷ set_since (start + 1) (with_clear blocks (start + 1) bits) bits)) (rw (eqb-true b start (sym same.1)) refl) e)
  | inr apart ↦
      rw apart.0 (ap (λ (l : List Bool). true ∷ l) (unset-clear blocks b (start + 1) bits among
      (rest-none (not (not (is_in start blocks))) start b (set_since (start + 1) (with_clear blocks (start + 1) bits) bits) none)))
]

-- so a block that a give leaves in hand had its bit clear in the map that was read
left-clear : (g : Geometry) (map : ℕ) (read : List ℕ) (bits : List Bool) (blocks hand : List ℕ) (b : ℕ) → g.extent_blocks ≤ 32768 → read_map g.extent_blocks read ≡ Some bits → HasBlock blocks b →
    HasBlock (hand_from g (Some (map, read)) kind.Give map (map_bytes (with_clear blocks map bits)) hand) b → with_clear (b ∷ []) map bits ≡ bits
left-clear g map read bits blocks hand b high is among has =
    let old : bits ≡ bits_of g.extent_blocks read = map-bits g.extent_blocks read bits is in
    let long : length (with_clear blocks map bits) ≡ g.extent_blocks = length-with_clear blocks map bits ∙ (ap (λ (l : List Bool). length l) old ∙ length-bits_from g.extent_blocks 0 read) in
    let new : bits_of g.extent_blocks (map_bytes (with_clear blocks map bits)) ≡ with_clear blocks map bits = bits-back (with_clear blocks map bits) g.extent_blocks long high in
    let there : HasBlock (hand_written kind.Give map (bits_of g.extent_blocks read) (bits_of g.extent_blocks (map_bytes (with_clear blocks map bits))) hand) b =
    subst (λ (t : Bool). HasBlock (if t then hand_written kind.Give map (bits_of g.extent_blocks read) (bits_of g.extent_blocks (map_bytes (with_clear blocks map bits))) hand else hand) b)
    (eqb-true map map refl) has in
    let plain : HasBlock (blocks_without (set_since map (with_clear blocks map bits) bits) hand) b =
    subst (λ (l : List Bool). HasBlock (blocks_without (set_since map (with_clear blocks map bits) l) hand) b) (sym old)
    (subst (λ (l : List Bool). HasBlock (blocks_without (set_since map l (bits_of g.extent_blocks read)) hand) b) new there) in
    unset-clear blocks b map bits among
    (opposite-true (is_in b (set_since map (with_clear blocks map bits) bits)) (has-filter (λ c. not (is_in c (set_since map (with_clear blocks map bits) bits))) hand b plain).1)

clear-more : (g : Geometry) (own : List Exchange) (x : Exchange) (b : ℕ) → WasClear g own b → WasClear g (x ∷ own) b
clear-more g own x b was = record { bytes = was.bytes; bits = was.bits; read = inr was.read; spells = was.spells; clear = was.clear }

-- ---- exchanges of some work on the hand

-- the work has added these to the exchanges of its command: no claim was begun or written since, and the leases of images that it spares are held as before
pub record Along (s : Setting) (before : List Finished) (from : List Exchange) (spares : ℕ → Type 0) (own : List Exchange) : Type 0 where
  pub has : HasFirst (own ++ from)
  pub first : (reading : ℕ) → first_reading from ≡ Some reading → first_reading (own ++ from) ≡ Some reading
  pub begun : claims_in s.geometry (own ++ from) ≡ claims_in s.geometry from
  pub went : WentOn (own ++ from)
  pub unclaimed : (block guard : ℕ) (bytes : List ℕ) → IsIn (exchange (ask.Write kind.Claim (record { 0 = block }) guard) bytes answer.Done) (own ++ from) →
      IsIn (exchange (ask.Write kind.Claim (record { 0 = block }) guard) bytes answer.Done) from
  pub spared : (image : ℕ) → image < s.geometry.images → spares (image_lease image) →
      hold_by_log s before (own ++ from) (image_lease image) ≡ hold_by_log s before from (image_lease image)

-- the leases of some are given up, where they are held and aren't spared; and of some extents the blocks in hand are given back, but for those whose bits were clear
pub record Retiring (s : Setting) (before : List Finished) (from : List Exchange) (spares P K : ℕ → Type 0) (own : List Exchange) : Type 0 where
  pub along : Along s before from spares own
  pub later : (l : ℕ) → l < lease_count s.geometry → ¬ P l → hold_by_log s before (own ++ from) l ≡ hold_by_log s before from l
  pub given : (l : ℕ) (claim : Claim) (until : ℕ) → l < lease_count s.geometry → P l → hold_by_log s before (own ++ from) l ≡ Held claim until → spares l
  pub hand : (b : ℕ) → HasBlock (hand_by_log s before from) b → ¬ K (extent_of s.geometry b) → ¬ P (extent_lease s.geometry (extent_of s.geometry b)) →
      HasBlock (hand_by_log s before (own ++ from)) b
  pub fewer : (b : ℕ) → HasBlock (hand_by_log s before (own ++ from)) b → HasBlock (hand_by_log s before from) b
  pub cleared : (b : ℕ) → HasBlock (hand_by_log s before (own ++ from)) b → K (extent_of s.geometry b) → WasClear s.geometry own b

module _ (s : Setting) (before : List Finished) (from : List Exchange) (spares : ℕ → Type 0) (inside : (b : ℕ) → HasBlock (hand_by_log s before from) b → extent_of s.geometry b < s.geometry.extents) where
  abbrev Work : (P K : ℕ → Type 0) → (own : List Exchange) → Type 0
  Work P K own = Retiring s before from spares P K own

  -- at the beginning
  pub retires-none : HasFirst from → WentOn from → (P K : ℕ → Type 0) → ((l : ℕ) → l < lease_count s.geometry → ¬ P l) → ((e : ℕ) → ¬ K e) → Work P K []
  retires-none has went P K none-given none-back = record {
    along = record { has = has; first = λ reading is. is; begun = refl; went = went; unclaimed = λ block guard bytes is. is; spared = λ image below spared. refl };
    later = λ l below left. refl;
    given = λ l claim until below p held. absurd (none-given l below p);
    hand = λ b has k left. has;
    fewer = λ b has. has;
    cleared = λ b has k. absurd (none-back (extent_of s.geometry b) k);
  }

  -- ---- one more exchange

  along-next : (own : List Exchange) (x : Exchange) → Along s before from spares own → begins_claim s.geometry x.ask (own ++ from) ≡ false → GoesOn x.answer → claims_at x.ask ≡ false →
      ((image : ℕ) → image < s.geometry.images → spares (image_lease image) → hold_by_log s before (x ∷ own ++ from) (image_lease image) ≡ hold_by_log s before (own ++ from) (image_lease image)) →
      Along s before from spares (x ∷ own)
  along-next own x a unread goes unclaimed spared = record {
    has = tt;
    first = λ reading is. first-more (own ++ from) x reading (a.first reading is);
    begun = claims-more s.geometry (own ++ from) x unread ∙ a.begun;
    went = (goes, a.went);
    unclaimed = λ block guard bytes is. elim is [ inl here ↦ absurd (no-claim x unclaimed block guard bytes (sym here)) | inr there ↦ a.unclaimed block guard bytes there ];
    spared = λ image below spare. spared image below spare ∙ a.spared image below spare;
  }

  -- an exchange that leaves all leases as they are, and the blocks in hand of the extents that aren't given back
  same-holds : (P K K' : ℕ → Type 0) (own : List Exchange) (x : Exchange) → Work P K own → LinksNone x.ask → begins_claim s.geometry x.ask (own ++ from) ≡ false → GoesOn x.answer → claims_at x.ask ≡ false →
      ((l : ℕ) → l < lease_count s.geometry → hold_by_log s before (x ∷ own ++ from) l ≡ hold_by_log s before (own ++ from) l) → ((e : ℕ) → K e → K' e) →
      ((b : ℕ) → ¬ K' (extent_of s.geometry b) → HasBlock (hand_by_log s before (own ++ from)) b →
      HasBlock (hand_answered s.geometry (last_found (own ++ from)) x.ask x.bytes x.answer (hand_by_log s before (own ++ from))) b) →
      ((b : ℕ) → HasBlock (hand_answered s.geometry (last_found (own ++ from)) x.ask x.bytes x.answer (hand_by_log s before (own ++ from))) b → HasBlock (hand_by_log s before (own ++ from)) b) →
      ((b : ℕ) → HasBlock (hand_answered s.geometry (last_found (own ++ from)) x.ask x.bytes x.answer (hand_by_log s before (own ++ from))) b → K' (extent_of s.geometry b) →
      K (extent_of s.geometry b) ⊎ WasClear s.geometry own b) →
      Work P K' (x ∷ own)
  same-holds P K K' own x r links unread goes unclaimed same wider keeps fewer clear = record {
    along = along-next own x r.along unread goes unclaimed (λ image below spare. same (image_lease image) (image-below s.geometry image below));
    later = λ l below left. same l below ∙ r.later l below left;
    given = λ l claim until below p held. r.given l claim until below p (sym (same l below) ∙ held);
    hand = λ b has apart left. (
        let old = r.hand b has (λ k. apart (wider _ k)) left in
        hand-keeps s before x (own ++ from) b r.along.has
        (subst (λ (l : List ℕ). HasBlock l b) (sym (left-same x.ask (filled_by_log s before (own ++ from)) _ links)) (keeps b apart old))
        (ap is_held (same (extent_lease s.geometry (extent_of s.geometry b)) (extent-below s.geometry _ (inside b has))) ∙ hand-is-held s before (own ++ from) b r.along.has old));
    fewer = λ b has. r.fewer b (fewer b (hand-fewer s before x (own ++ from) b r.along.has has));
    cleared = λ b has k. (
        let told = hand-fewer s before x (own ++ from) b r.along.has has in
        elim (clear b told k) [ inl old ↦ clear-more s.geometry own x b (r.cleared b (fewer b told) old) | inr was ↦ clear-more s.geometry own x b was ]);
  }

  -- a map is read
  pub map-read : (P K : ℕ → Type 0) (own : List Exchange) (extent : ℕ) (bytes : List ℕ) → Work P K own → Work P K (read_of (map_at s.geometry extent) bytes ∷ own)
  map-read P K own extent bytes r =
      let x = read_of (map_at s.geometry extent) bytes in
      let H = holds_along s.geometry (is_attached before) (holds_after s.geometry before) (own ++ from) in
      same-holds P K K own x r tt (reads-no-claim s.geometry (map_at s.geometry extent) (own ++ from) (map-no-lease s.geometry extent)) tt refl
      (λ l below. ap (λ (h : ℕ → Hold). h (lease_at l)) (along-more s.geometry (is_attached before) (holds_after s.geometry before) x (own ++ from) r.along.has)
      ∙ at-other H (map_at s.geometry extent) (lease_at l) _ (lease-map s.geometry l extent below))
      (λ e k. k) (λ b apart has. has) (λ b has. has) (λ b has k. inl k)

  -- blocks of an extent are given back, all that are in hand
  pub given-back : (high : s.geometry.extent_blocks ≤ 32768) (P : ℕ → Type 0) (own : List Exchange) (extent until : ℕ) (read : List ℕ) (bits : List Bool) (blocks : List ℕ) →
      read_map s.geometry.extent_blocks read ≡ Some bits → in_extent s.geometry extent (hand_by_log s before from) ≡ blocks →
      Work P (GivenBack extent) (read_of (map_at s.geometry extent) read ∷ own) →
      Work P (GivenBack (extent + 1)) (exchange (ask.Write kind.Give (record { 0 = map_at s.geometry extent }) until) (map_bytes (with_clear blocks (map_at s.geometry extent) bits)) answer.Done
      ∷ read_of (map_at s.geometry extent) read ∷ own)
  given-back high P own extent until read bits blocks is among r =
      let own1 = read_of (map_at s.geometry extent) read ∷ own in
      let done = own1 ++ from in
      let bytes = map_bytes (with_clear blocks (map_at s.geometry extent) bits) in
      let x = exchange (ask.Write kind.Give (record { 0 = map_at s.geometry extent }) until) bytes answer.Done in
      same-holds P (GivenBack extent) (GivenBack (extent + 1)) own1 x r tt refl tt refl
      (λ l below. ap (λ (h : ℕ → Hold). h (lease_at l)) (along-more s.geometry (is_attached before) (holds_after s.geometry before) x done r.along.has))
      (λ e k. omega (arith, k))
      (λ b apart has. give-leaves s.geometry (last_found done) extent bytes (hand_by_log s before done) b (λ e. apart (omega (arith, e))) has)
      (λ b has. give-fewer s.geometry (last_found done) (map_at s.geometry extent) bytes (hand_by_log s before done) b has)
      (λ b has k. elim (eqb_tells (extent_of s.geometry b) extent) [
        | inl same ↦ inr (by-same b has same.1)
        | inr apart ↦ inl (omega (arith, k, apart.1))
      ])
    where
      by-same : (b : ℕ) →
          HasBlock (hand_answered s.geometry (Some (map_at s.geometry extent, read)) (ask.Write kind.Give (record { 0 = map_at s.geometry extent }) until)
          (map_bytes (with_clear blocks (map_at s.geometry extent) bits)) answer.Done (hand_by_log s before (read_of (map_at s.geometry extent) read ∷ own ++ from))) b →
          extent_of s.geometry b ≡ extent → WasClear s.geometry (read_of (map_at s.geometry extent) read ∷ own) b
      by-same b has same =
          let hand1 = hand_by_log s before (read_of (map_at s.geometry extent) read ∷ own ++ from) in
          let bytes = map_bytes (with_clear blocks (map_at s.geometry extent) bits) in
          let first = r.fewer b (give-fewer s.geometry (Some (map_at s.geometry extent, read)) (map_at s.geometry extent) bytes hand1 b has) in
          let here : HasBlock blocks b =
          subst (λ (l : List ℕ). HasBlock l b) among (filter-has (λ c. extent_of s.geometry c == extent) (hand_by_log s before from) b first (eqb-true (extent_of s.geometry b) extent same)) in
          record {
            bytes = read;
            bits = bits;
            read = inl (ap (λ e. read_of (map_at s.geometry e) read) same);
            spells = is;
            clear = subst (λ e. with_clear (b ∷ []) (map_at s.geometry e) bits ≡ bits) (sym same) (left-clear s.geometry (map_at s.geometry extent) read bits blocks hand1 b high is here has);
          }

  -- a lease is given up
  pub released : (P Q K : ℕ → Type 0) (own : List Exchange) (l until : ℕ) → Work P K own → ((other : ℕ) → P other → Q other) → ((other : ℕ) → Q other → P other ⊎ (other ≡ l)) → Q l →
      ((image : ℕ) → image < s.geometry.images → spares (image_lease image) → image_lease image ≢ l) →
      Work Q K (exchange (ask.Write kind.Release (record { 0 = lease_at l }) until) (lease_bytes lease_is.Free) answer.Done ∷ own)
  released P Q K own l until r wider split here free =
      let done = own ++ from in
      let x = exchange (ask.Write kind.Release (record { 0 = lease_at l }) until) (lease_bytes lease_is.Free) answer.Done in
      let H = holds_along s.geometry (is_attached before) (holds_after s.geometry before) done in
      let step : (other : ℕ) → hold_by_log s before (x ∷ done) other ≡ at H (lease_at l) Nothing (lease_at other) =
      λ other. ap (λ (h : ℕ → Hold). h (lease_at other)) (along-more s.geometry (is_attached before) (holds_after s.geometry before) x done r.along.has) in
      let apart : (other : ℕ) → other ≢ l → hold_by_log s before (x ∷ done) other ≡ hold_by_log s before done other =
      λ other ne. step other ∙ at-other H (lease_at l) (lease_at other) Nothing (λ e. ne (lease-lease other l e)) in
      let quiet = told-quiet s.geometry (last_found done) x.ask x.bytes x.answer (hand_by_log s before done) tt in
      let less : (b : ℕ) → HasBlock (hand_by_log s before (x ∷ done)) b → HasBlock (hand_by_log s before done) b =
      λ b has. subst (λ (h : List ℕ). HasBlock h b) quiet (hand-fewer s before x done b r.along.has has) in
      record {
        along = along-next own x r.along refl tt refl (λ image below spare. apart (image_lease image) (free image below spare));
        later = λ other below left. apart other (λ e. left (subst Q (sym e) here)) ∙ r.later other below (λ p. left (wider other p));
        given = λ other claim until' below q held. elim (eqb_tells other l) [
          | inl same ↦ absurd (
              let gone : hold_by_log s before (x ∷ done) l ≡ Nothing = step l ∙ at-same H (lease_at l) Nothing in
              let e : Nothing ≡ Held claim until' = sym gone ∙ subst (λ n. hold_by_log s before (x ∷ done) n ≡ Held claim until') same.1 held in
              let P : ⊥ = cc in P)
          | inr ne ↦ elim (split other q) [
            | inl p ↦ r.given other claim until' below p (sym (apart other ne.1) ∙ held)
            | inr is ↦ absurd (ne.1 is)
          ]
        ];
        hand = λ b has k left. (
            let old = r.hand b has k (λ p. left (wider _ p)) in
            hand-keeps s before x done b r.along.has (subst (λ (h : List ℕ). HasBlock h b) (sym quiet) old)
            (ap is_held (apart (extent_lease s.geometry (extent_of s.geometry b)) (λ e. left (subst Q (sym e) here))) ∙ hand-is-held s before done b r.along.has old));
        fewer = λ b has. r.fewer b (less b has);
        cleared = λ b has k. clear-more s.geometry own x b (r.cleared b (less b has) k);
      }

  -- ---- no exchange

  -- a lease is passed over that isn't held, or is spared
  pub passed-over : (P Q K : ℕ → Type 0) (own : List Exchange) (l : ℕ) → Work P K own → ((other : ℕ) → P other → Q other) → ((other : ℕ) → Q other → P other ⊎ (other ≡ l)) →
      ((claim : Claim) (until : ℕ) → hold_by_log s before (own ++ from) l ≡ Held claim until → spares l) → Work Q K own
  passed-over P Q K own l r wider split kept = record {
    along = r.along;
    later = λ other below left. r.later other below (λ p. left (wider other p));
    given = λ other claim until below q held. elim (split other q) [
      | inl p ↦ r.given other claim until below p held
      | inr is ↦ subst spares (sym is) (kept claim until (subst (λ n. hold_by_log s before (own ++ from) n ≡ Held claim until) is held))
    ];
    hand = λ b has k left. r.hand b has k (λ p. left (wider _ p));
    fewer = r.fewer;
    cleared = r.cleared;
  }

  -- an extent counts as given back of which no block is in hand
  pub given-more : (P : ℕ → Type 0) (own : List Exchange) (extent : ℕ) → Work P (GivenBack extent) own → ((b : ℕ) → HasBlock (hand_by_log s before (own ++ from)) b → extent_of s.geometry b ≢ extent) →
      Work P (GivenBack (extent + 1)) own
  given-more P own extent r none = record {
    along = r.along;
    later = r.later;
    given = r.given;
    hand = λ b has k left. r.hand b has (λ e. k (omega (arith, e))) left;
    fewer = r.fewer;
    cleared = λ b has k. r.cleared b has (let apart = none b has in omega (arith, k, apart));
  }

  -- the same leases count as given up
  pub same-leases : (P Q K : ℕ → Type 0) (own : List Exchange) → Work P K own → ((l : ℕ) → P l → Q l) → ((l : ℕ) → l < lease_count s.geometry → Q l → P l) → Work Q K own
  same-leases P Q K own r wider back = record {
    along = r.along;
    later = λ l below left. r.later l below (λ p. left (wider l p));
    given = λ l claim until below q held. r.given l claim until below (back l below q) held;
    hand = λ b has k left. r.hand b has k (λ p. left (wider _ p));
    fewer = r.fewer;
    cleared = r.cleared;
  }

  -- none is in hand of an extent whose lease isn't held
  pub none-unheld : (own : List Exchange) (extent : ℕ) → HasFirst (own ++ from) → is_held (hold_by_log s before (own ++ from) (extent_lease s.geometry extent)) ≡ false →
      (b : ℕ) → HasBlock (hand_by_log s before (own ++ from)) b → extent_of s.geometry b ≢ extent
  none-unheld own extent has-first unheld b has same =
      clash (is_held (hold_by_log s before (own ++ from) (extent_lease s.geometry extent)))
      (subst (λ e. is_held (hold_by_log s before (own ++ from) (extent_lease s.geometry e)) ≡ true) same (hand-is-held s before (own ++ from) b has-first has)) unheld

  -- nor of one of which none was in hand as the work began
  pub none-among : (P K : ℕ → Type 0) (own : List Exchange) (extent : ℕ) → Work P K own → in_extent s.geometry extent (hand_by_log s before from) ≡ [] →
      (b : ℕ) → HasBlock (hand_by_log s before (own ++ from)) b → extent_of s.geometry b ≢ extent
  none-among P K own extent r none b has same =
      let here = subst (λ (l : List ℕ). HasBlock l b) none
      (filter-has (λ c. extent_of s.geometry c == extent) (hand_by_log s before from) b (r.fewer b has) (eqb-true (extent_of s.geometry b) extent same)) in
      let P : ⊥ = cc in P
