-- What holds stays where a write is issued, and where a sector lands.
use Rattle.std.proofs.Common.{◌≡◌, ◌≢◌, ℕ, zero, suc, ◌+◌, ◌≤◌, ◌<◌, ◌⊎◌, inl, inr, List, [], ◌∷◌, ◌++◌, Bool, true, false, Option, Some, None, refl, ap, sym, subst, ◌∙◌, arith, length, slice_set}
use Rattle.std.specs.Prelude.{slice_get}
use Rattle.std.proofs.lemmas.Bool.Decides.{eqb_tells}
use Rattle.std.proofs.lemmas.List.{length-set}
use Rattle.std.proofs.lemmas.Option.{slice_get_within}
use Rattle.plx_base.specs.Sectors.{Device, put, with_landed_sectors, with_landed_sector}
use Rattle.plx_base.proofs.Devices.{put-same, put-other}
use Rattle.plx_base.proofs.Mixed.{mixed-none, mixed-all, mixed-landed}
use Rattle.plx_base.specs.declared.lease.Claim.{Claim}
use Rattle.plx_base.specs.declared.write_kind.WriteKind.{WriteKind}
use Rattle.plx_commands.specs.Model.{Model, Slot}
use Rattle.plx_commands.specs.Places.{at}
use Rattle.plx_commands.specs.declared.command.Command.{Command}
use Rattle.plx_commands.specs.declared.event.Event.TheVariants as event
use Rattle.plx_commands.proofs.Places.{at-all, at-same, at-other}
use Rattle.plx_disk.specs.Writes.{Issued, with_sector, no_sectors, fresh_write, MayLand, after_landing}
use Rattle.plx_extent.proofs.Landings.{landed-holds}
use Rattle.plx_extent.specs.Maps.{HoldsMap}
use Rattle.plx_geom.specs.Geometry.{Geometry, IsGeometry, image_lease, lease_count, map_at}
use Rattle.plx_geom.proofs.Places.{image-image, image-below}
use Rattle.plx_disk.proofs.Lists.{push-before, push-last}
use Rattle.plx_rules.specs.Process.{Process, Ends, ReadThen, WriteThen, ClockThen, UntilThen}
use Rattle.plx_rules.specs.Boot.{Place, Idle, Begins, In, Configuration}
use Rattle.plx_rules.specs.Ends.{End}
use Rattle.plx_rules.specs.Headline.{model_in}
use Rattle.plx_rules.specs.Holds.{Hold}
use Rattle.law_lease.proofs.Lists.{push-cases}
use Rattle.plx_rules.specs.Pools.{HasMaps}
use Rattle.plx_rules.specs.Homes.{Covers}
use Rattle.plx_rules.specs.Rests.{IsUnder, home_of, rests_on}
use Rattle.plx_commands.specs.Replies.{is_in}
use Rattle.plx_rules.specs.Session.{Known}
use Rattle.plx_rules.specs.Settings.{boot_number}
use Rattle.plx_rules.specs.Histories.{landing}
use Rattle.plx_rules.specs.World.{World, Seat, with_surface, after_issue}
use Rattle.law_lease.proofs.LeaseSteps.{placed-may}
use Rattle.law_lease.proofs.Frame.{Frame, IsNewlyOpen, SameUnder, frame-all, frame-others, stood-issued, grips-before, grips-free, grips-other, grips-own, land-frame, landed-or, open-issued}
use Rattle.law_lease.proofs.Open.{GripsLease, IsOpen, open-found}
use Rattle.law_lease.proofs.Leased.{MayIssue, LawfulAt, IsAskedAt, IsRight, Leased}
use Rattle.law_headline.proofs.Content.{appliance_no, stands_at, IsJournalled, PlaceFits, OwnedAt, Grips, Minds, Whose, SeatFits, SpellMaps, SeatHand, SeatOwns, Placed, WaitsAreMet, KeepsContent}
use Rattle.law_headline.proofs.ContentFrames.{owned-same, grip-only}
use Rattle.law_headline.proofs.ContentGoes.{names-same}
use Rattle.law_headline.proofs.Held.{Regime, Without, With, IsWith, IsOn, Looks, IsOf, HeldProcess, IsNamed, Fair}
use Rattle.law_headline.proofs.HeldFrames.{missing_of, missing-landed, same-refl, same-put, same-over, held-process-same, keeps-landed}
use Rattle.law_headline.proofs.ImageWrites.{placed-block, placed-keeps, placed-made, named-image, use-image, held-image-write, image-held, image-write, of-covers, of-one-image, placed-cases, same-under}
use Rattle.law_headline.proofs.JournalFacts.{Keeps-same}
use Rattle.law_headline.proofs.Journals.{HoldsSlot, Same}
use Rattle.law_headline.proofs.BytesByKind.{OnlyBytes, only-lands}
use Rattle.law_headline.proofs.MapFacts.{IsMapSpelled, map-write}
use Rattle.law_headline.proofs.PlacedByKind.{KeepsAll, PlacedBy, placed-moves}
use Rattle.law_model.proofs.Replied.{Names}
use Rattle.law_headline.proofs.WaitsByKind.{WaitsOn, waits-asked, waits-lands, waits-others}

-- a journal's write that is waited for is one of the named image
named-of : (g : Geometry) (a i : ℕ) (command : Command) (known : Known) (holds : ℕ → Hold) (sample : Option ℕ) (process : Process End) (boot : ℕ) (x : Issued) →
    Fair g a command known holds sample false process → IsAskedAt (In known command process) boot x → IsJournalled x.kind → (j : ℕ) × (j < g.images) × (IsOf g j x.block) × Names command j
named-of g a i command known holds sample (WriteThen what block bytes guard done fault missed) boot x fair asked journalled =
    let N : WriteKind → Type 0 = λ k. IsNamed g command k block in
    let P : ℕ → Type 0 = λ b. (j : ℕ) × (j < g.images) × (IsOf g j b) × Names command j in
    subst P (sym asked.1) (named-image g command block x.kind journalled (subst N (sym asked.0) fair.0.named))
named-of g a i command known holds sample (Ends end) boot x fair asked journalled = absurd asked
named-of g a i command known holds sample (ReadThen block rest fault) boot x fair asked journalled = absurd asked
named-of g a i command known holds sample (ClockThen rest) boot x fair asked journalled = absurd asked
named-of g a i command known holds sample (UntilThen from rest) boot x fair asked journalled = absurd asked

-- a block of a named image is one of the image that the command names
of-named : (g : Geometry) (command : Command) (i block : ℕ) → (j : ℕ) × (j < g.images) × (IsOf g j block) × Names command j → Names command i → IsOf g i block
of-named g command i block named names = let P : ℕ → Type 0 = λ j. IsOf g j block in subst P (names-same command named.0 i named.3 names) named.2

-- the frame of a landing leaves each other open write what it had
placed-others : (w : World) (content : KeepsContent w) (other : Device) (flagged : List Issued) (number : ℕ) (write : Issued) →
    Frame w.geometry w.rests w.appliances w.surface.time w.surface.device other w.surface.writes flagged w.seats number write →
    (home n : ℕ) (x : Issued) → n ≢ number → slice_get w.surface.writes n ≡ Some x → home_of (w.rests n) ≡ Some home → IsOpen w.geometry w.rests w.appliances w.surface.time flagged w.seats home n x →
    PlacedBy x.kind w.geometry other (model_in w).slots home x.block x.bytes
placed-others w content other flagged number write frame home n x ne found is op =
    let g = w.geometry in
    let device = w.surface.device in
    let slots = (model_in w).slots in
    elim (placed-block g x.kind x.block x.bytes (w.rests n) home (content.leased.right n x found).placed is) [
      | inr all ↦ all other slots
      | inl its ↦
          let within : home < lease_count g = subst (λ (l : ℕ). l < lease_count g) (sym its.2) (image-below g its.0 its.1) in
          let left = frame-others w content.leased other flagged number write frame home within n x ne op in
          let at' : other x.block ≡ device x.block = left.1 x.block (subst (λ (l : ℕ). Covers g l x.block) (sym its.2) (of-covers g its.0 x.block its.1 its.3)) in
          let O : List ℕ → Type 0 = λ y. OnlyBytes x.kind x.bytes y in
          placed-moves x.kind g device other slots slots home x.block x.bytes (λ only. subst O (sym at') only)
          (λ keeps i below at''.
          let old = keeps i below at'' in
          let same = same-under g i device other below (subst (λ (l : ℕ). SameUnder g l device other) at'' left.1) in (
            old.0,
            λ flags count.
                let P : List ℕ → Type 0 = λ y. HoldsSlot g (put other x.block (with_landed_sectors flags x.bytes y)) i (slots i) in
                subst P (sym at')
                (Keeps-same g (put device x.block (with_landed_sectors flags x.bytes (device x.block))) (put other x.block (with_landed_sectors flags x.bytes (device x.block))) i (slots i)
                (same-put g i x.block (with_landed_sectors flags x.bytes (device x.block)) device other same) (old.1 flags count)),
          ))
          (content.placed home n x is left.0)
    ]

module _ (w : World) (content : KeepsContent w) where
  abbrev g : Geometry
  g = w.geometry

  geometry : IsGeometry g
  geometry = content.leased.geometry

  abbrev time : ℕ
  time = w.surface.time

  abbrev device : Device
  device = w.surface.device

  abbrev writes : List Issued
  writes = w.surface.writes

  abbrev m : Model
  m = model_in w

  abbrev p : ℕ → Configuration
  p b = stands_at g b (w.seats b)

  -- what an appliance waits for, in a command that names an image
  waits-of : (b : ℕ) → b < w.appliances → (i : ℕ) (known : Known) (command : Command) (process : Process End) → (p b).place ≡ In known command process → Names command i → (n : ℕ) (x : Issued) →
      (w.seats b).pending ≡ Some n → slice_get writes n ≡ Some x → IsJournalled x.kind → IsOf g i x.block
  waits-of b below i known command process here names n x waits found journalled =
      let asked = (content.leased.seated b below).asked n waits in
      let same : asked.0 ≡ x = (let e : Some asked.0 ≡ Some x = sym asked.1 ∙ found in cc) in
      let Q : Issued → Type 0 = λ y. IsAskedAt (p b).place (boot_number b (w.seats b).boots) y in
      let R : Place → Type 0 = λ q. IsAskedAt q (boot_number b (w.seats b).boots) x in
      let F : Place → Type 0 = λ q. PlaceFits g b m (p b) q in
      let fits : PlaceFits g b m (p b) (In known command process) = subst F here (content.seats b below) in
      of-named g command i x.block
      (named-of g b i command known (p b).holds (p b).sample process (boot_number b (w.seats b).boots) x fits.1 (subst R here (subst Q same asked.2)) journalled) names

  -- ---- a write is issued

  module _ (a : ℕ) (below : a < w.appliances) (known : Known) (command : Command) (what : WriteKind) (block : ℕ) (bytes : List ℕ) (guard : ℕ) (done fault : Process End) (missed : ℕ → Process End)
      (here : (p a).place ≡ In known command (WriteThen what block bytes guard done fault missed)) (free : (w.seats a).pending ≡ None) where
    abbrev boot : ℕ
    boot = boot_number a (w.seats a).boots

    abbrev fresh : Issued
    fresh = fresh_write boot what block bytes guard

    abbrev now : List Issued
    now = writes ++ fresh ∷ []

    abbrev process : Process End
    process = WriteThen what block bytes guard done fault missed

    fits : PlaceFits g a m (p a) (In known command process)
    fits = let F : Place → Type 0 = λ q. PlaceFits g a m (p a) q in subst F here (content.seats a below)

    serving : (i : ℕ) → i < g.images → Minds g time writes m a (w.seats a) i → OwnedAt g a i device writes (w.seats a).pending m (In known command process)
    serving i within minds =
        let P : Place → Type 0 = λ q. OwnedAt g a i device writes (w.seats a).pending m q in subst P here (content.owned i within a below minds)

    with-owner : (i : ℕ) (regime : Regime) → Looks g a i command known regime m → IsWith regime → (m.slots i).owner ≡ Some a
    with-owner i (With image change) looks is = looks.slot.0
    with-owner i (Without kept ws) looks is = absurd is

    -- on what it rests
    abbrev leases : List ℕ
    leases = rests_on g command (p a).holds (p a).filled what block bytes

    may : MayIssue g boot (p a).holds leases what block bytes guard
    may = let P : Place → Type 0 = λ q. LawfulAt g boot (p a).holds (p a).filled (p a).sample q in (subst P here (content.leased.seated a below).lawful).0

    -- of its block only its own bytes differ, its image is kept, and it is the appliance's in the model
    pub new-keeps : (i : ℕ) → i < g.images → IsOf g i block → is_in (image_lease i) leases ≡ true →
        (time ≤ guard + 50) ⊎ ((claim : Claim) × (until : ℕ) × Grips g time writes a (w.seats a) i claim until) →
        OnlyBytes what bytes (device block) × KeepsAll g device i (m.slots i) block bytes × ((m.slots i).owner ≡ Some a)
    new-keeps i within of needs live = elim (placed-cases g geometry what block bytes leases (placed-may g boot (p a).holds leases what block bytes guard may) i within) [
      | inl mine ↦
          let grant = (use-image g boot (p a).holds leases block bytes guard what mine.1 may).grants (image_lease i) needs in
          let named = named-image g command block what mine.1 fits.1.0.named in
          let names : Names command i = (let P : ℕ → Type 0 = λ j. Names command j in subst P (of-one-image g geometry named.0 i block named.1 within named.2 of) named.3) in
          let grips : (claim : Claim) × (until : ℕ) × Grips g time writes a (w.seats a) i claim until = elim live [
            | inl early ↦ (grant.claim, grant.until, grips-free w content.leased a below free leases what block bytes guard (image_lease i) grant.claim grant.until grant.hold (let guarded = grant.guarded in omega arith))
            | inr held ↦ held
          ] in
          let s = (serving i within (inl grips)).0 names in
          let write = held-image-write g a i command known s.regime block bytes guard done fault missed device what mine.1 s.held in
          (write.only, (λ flags count. write.keeps flags count m s.looks), with-owner i s.regime s.looks write.changes)
      | inr away ↦ absurd (away of)
    ]

    abbrev seat' : Seat
    seat' = record { boots = (w.seats a).boots; log = (w.seats a).log; pending = Some (length writes) }

    abbrev since : ℕ → List ℕ
    since = at w.rests (length writes) leases

    -- what is open once the write is issued was open before, or is the new one
    opened : (i n : ℕ) (x : Issued) → IsOpen g since w.appliances time now (at w.seats a seat') (image_lease i) n x →
        (IsOpen g w.rests w.appliances time writes w.seats (image_lease i) n x) ⊎ IsNewlyOpen w content.leased a below free leases what block bytes guard (image_lease i) n x
    opened i = open-issued w content.leased a below free leases what block bytes guard (image_lease i)

    pub issue-content : Leased (after_issue w (appliance_no a) command what block bytes guard) → KeepsContent (after_issue w (appliance_no a) command what block bytes guard)
    issue-content leased = record {
      leased = leased;
      told = content.told;
      permitted = content.permitted;
      undamaged = content.undamaged;
      stored = content.stored;
      spelled = λ n x found. elim (push-cases writes fresh x n found) [
        | inl old ↦ content.spelled n x old
        | inr is ↦ (let P : Issued → Type 0 = λ y. IsMapSpelled g y.kind y.bytes in subst P is.1 fits.1.0.spells)
      ];
      maps = content.maps;
      hands = at-all (λ b s. b < w.appliances → SeatHand g b s) w.seats a seat' (λ under. content.hands a below) (λ b ne under. content.hands b under);
      placed = λ home n x is op. elim (open-issued w content.leased a below free leases what block bytes guard home n x op) [
        | inl was ↦
            let old = slice_get_within writes n x (open-found g w.rests w.appliances time writes w.seats home n x was) in
            content.placed home n x (ap home_of (sym (at-other w.rests (length writes) n leases (λ e. omega (arith, old, e)))) ∙ is) was
        | inr new ↦
            let its-home : home_of leases ≡ Some home = ap home_of (sym (ap since new.last ∙ at-same w.rests (length writes) leases)) ∙ is in
            let P : Issued → Type 0 = λ y. PlacedBy y.kind g device m.slots home y.block y.bytes in
            subst P new.is (elim (placed-block g what block bytes leases home (placed-may g boot (p a).holds leases what block bytes guard may) its-home) [
              | inr all ↦ all device m.slots
              | inl its ↦
                  let L : ℕ → Type 0 = λ l. (is_in l leases ≡ true) × ((time ≤ guard + 50) ⊎ ((claim : Claim) × (until : ℕ) × GripsLease g time writes a (w.seats a) l claim until)) in
                  let live = subst L its.2 (new.under, new.live) in
                  let made = new-keeps its.0 its.1 its.3 live.0 live.1 in
                  placed-made what g device m.slots home block bytes its.4 made.0
                  (λ j within at'.
                  let same : its.0 ≡ j = image-image its.0 j (sym its.2 ∙ at') in
                  let K : ℕ → Type 0 = λ k. IsOf g k block × KeepsAll g device k (m.slots k) block bytes in
                  subst K same (its.3, made.1))
            ])
      ];
      waits = λ n x found all. elim (push-cases writes fresh x n found) [
        | inl old ↦ content.waits n x old (stood-issued w content.leased a below free leases what block bytes guard n x old all)
        | inr is ↦
            let P : Issued → Type 0 = λ y. WaitsOn y.kind g device y.block y.bytes y.landed in
            subst P is.1 (waits-asked what g boot (p a).holds leases device block bytes guard may)
      ];
      whose = λ i within n x op of b mine. elim (opened i n x op) [
        | inl was ↦ elim (eqb_tells b a) [
          | inl same ↦ absurd (let e : None ≡ Some n = sym free ∙ content.whose i within n x was of a (mine ∙ ap Some same.1) in let P : ⊥ = cc in P)
          | inr away ↦ ap (λ (s : Seat). s.pending) (at-other w.seats a b seat' away.1) ∙ content.whose i within n x was of b mine
        ]
        | inr is ↦
            let Q : Issued → Type 0 = λ y. IsOf g i y.block in
            let owner = (new-keeps i within (subst Q (sym is.is) of) is.under is.live).2 in
            let same : a ≡ b = (let e : Some a ≡ Some b = sym owner ∙ mine in cc) in
            let S : ℕ → Type 0 = λ j. (at w.seats a seat' j).pending ≡ Some n in
            subst S same (ap (λ (s : Seat). s.pending) (at-same w.seats a seat') ∙ ap Some (sym is.last))
      ];
      seats = at-all (λ b s. b < w.appliances → SeatFits g m b s) w.seats a seat' (λ under. content.seats a below) (λ b ne under. content.seats b under);
      owned = λ i within. at-all (λ b s. b < w.appliances → SeatOwns g time device now m i b s) w.seats a seat'
          (λ under minds.
          let before : Minds g time writes m a (w.seats a) i = elim minds [
            | inl grips ↦ inl (grips.0, grips.1, grips-own w content.leased a below free leases what block bytes guard (image_lease i) grips.0 grips.1 grips.2)
            | inr owner ↦ inr owner
          ] in
          let mine = serving i within before in
          let P : Place → Type 0 = λ q. OwnedAt g a i device now (Some (length writes)) m q in
          subst P (sym here) (
            (λ names. let s = mine.0 names in record {
              regime = s.regime;
              looks = s.looks;
              held = s.held;
              on = s.on;
              fills = λ n x waits found journalled.
                  let at' : length writes ≡ n = cc in
                  let Q : ℕ → Type 0 = λ k. slice_get now k ≡ Some x in
                  let is : fresh ≡ x = (let e : Some fresh ≡ Some x = sym (push-last writes fresh) ∙ subst Q (sym at') found in cc) in
                  let R : Issued → Type 0 = λ y. with_landed_sectors (missing_of y.landed) y.bytes (device y.block) ≡ y.bytes in
                  subst R is (mixed-all 8 bytes (device block) fits.1.1 (content.leased.long block));
            }),
            mine.1,
          ))
          (λ b ne under minds.
          let old : Minds g time writes m b (w.seats b) i = elim minds [
            | inl grips ↦ inl (grips.0, grips.1, grips-other w content.leased a below free leases what block bytes guard (image_lease i) b under grips.0 grips.1 grips.2)
            | inr owner ↦ inr owner
          ] in
          owned-same g b i device device writes now (w.seats b).pending m (same-refl g i device) (p b).place
          (λ known' command' process' at' names n x waits found journalled.
          let asked = (content.leased.seated b under).asked n waits in
          let same : asked.0 ≡ x = (let e : Some asked.0 ≡ Some x = sym (push-before writes fresh asked.0 n asked.1) ∙ found in cc) in
          let was : slice_get writes n ≡ Some x = asked.1 ∙ ap Some same in
          (was, waits-of b under i known' command' process' at' names n x waits was journalled))
          (content.owned i within b under old));
    }

  -- ---- a sector lands

  module _ (number sector : ℕ) (write : Issued) (may : MayLand w.surface number sector write) where
    abbrev now' : List Issued
    now' = slice_set writes number (with_sector write sector)

    abbrev after : Device
    after = put device write.block (with_landed_sector sector write.bytes (device write.block))

    right : IsRight g (w.rests number) write
    right = content.leased.right number write may.found

    below-8 : sector < 8
    below-8 = let b = slice_get_within write.landed sector false may.missing in let f = right.flags in omega arith

    bytes-long : length write.bytes ≡ 4096
    bytes-long = right.long

    frame : Frame g w.rests w.appliances time device after writes now' w.seats number write
    frame = land-frame w content.leased number sector write may

    keeps-after : (i : ℕ) → (slot : Slot) → ((flags : List Bool) → length flags ≡ 8 → HoldsSlot g (put device write.block (with_landed_sectors flags write.bytes (device write.block))) i slot) → HoldsSlot g after i slot
    keeps-after i slot keeps =
        let one : List Bool = slice_set no_sectors sector true in
        let none : with_landed_sectors no_sectors write.bytes (device write.block) ≡ device write.block = mixed-none 8 write.bytes (device write.block) in
        let is : with_landed_sector sector write.bytes (device write.block) ≡ with_landed_sectors one write.bytes (device write.block) =
        ap (with_landed_sector sector write.bytes) (sym none) ∙ mixed-landed no_sectors write.bytes (device write.block) sector false (no-sector sector below-8) bytes-long (content.leased.long write.block) in
        let P : List ℕ → Type 0 = λ x. HoldsSlot g (put device write.block x) i slot in
        subst P (sym is) (keeps one (length-set no_sectors sector true))
      where
        no-sector : (k : ℕ) → k < 8 → slice_get no_sectors k ≡ Some false
        no-sector zero less = refl
        no-sector (suc zero) less = refl
        no-sector (suc (suc zero)) less = refl
        no-sector (suc (suc (suc zero))) less = refl
        no-sector (suc (suc (suc (suc zero)))) less = refl
        no-sector (suc (suc (suc (suc (suc zero))))) less = refl
        no-sector (suc (suc (suc (suc (suc (suc zero)))))) less = refl
        no-sector (suc (suc (suc (suc (suc (suc (suc zero))))))) less = refl
        no-sector (suc (suc (suc (suc (suc (suc (suc (suc k)))))))) less = absurd (omega (arith, less))

    -- as an image sees it: it is one of the image, and open under its lease; or it is none of the image's, and what the image has is the same
    cases : (i : ℕ) → i < g.images → (IsOf g i write.block × IsJournalled write.kind × IsOpen g w.rests w.appliances time writes w.seats (image_lease i) number write × (home_of (w.rests number) ≡ Some (image_lease i)))
        ⊎ ((IsOf g i write.block → ⊥) × Same g i device after)
    cases i within = elim (frame.each (image_lease i) (image-below g i within)) [
      | inl own ↦ (let its = image-write g geometry i write.block write.bytes (w.rests number) within own.covers own.home write.kind right.placed in inl (its.0, its.1, own.opens, own.home))
      | inr away ↦ inr ((λ of. away.uncovered (of-covers g i write.block within of)), same-under g i device after within away.same)
    ]

    stored-after : (i : ℕ) → i < g.images → HoldsSlot g after i (m.slots i)
    stored-after i within = elim (cases i within) [
      | inl mine ↦ keeps-after i (m.slots i) (placed-keeps write.kind g device m.slots (image_lease i) write.block write.bytes mine.1 (content.placed (image_lease i) number write mine.3 mine.2) i within refl).1
      | inr no' ↦ Keeps-same g device after i (m.slots i) no'.1 (content.stored i within)
    ]

    placed-after : Placed g w.rests w.appliances time after now' w.seats m.slots
    placed-after home n x is op = elim (landed-or w content.leased number sector write may n x (open-found g w.rests w.appliances time now' w.seats home n x op)) [
      | inl here' ↦
          let U : ℕ → Type 0 = λ k. (home_of (w.rests k) ≡ Some home) × IsOpen g w.rests w.appliances time now' w.seats home k x in
          let its = subst U here'.0 (is, op) in
          let P : Issued → Type 0 = λ y. PlacedBy y.kind g after m.slots home y.block y.bytes in
          subst P (sym here'.1) (placed-moves write.kind g device after m.slots m.slots home write.block write.bytes
          (λ only. let O : List ℕ → Type 0 = λ y. OnlyBytes write.kind write.bytes y in
          subst O (sym (put-same device write.block (with_landed_sector sector write.bytes (device write.block)))) (only-lands write.kind sector write.bytes (device write.block) only))
          (λ keeps i within at'. let old = keeps i within at' in
          (old.0, keeps-landed g i write.block sector write.bytes device (m.slots i) below-8 bytes-long (content.leased.long write.block) old.1))
          (content.placed home number write its.0 (frame.still home x its.1)))
      | inr away ↦ placed-others w content after now' number write frame home n x away.0 away.1 is op
    ]

    spelled-after : SpellMaps g now'
    spelled-after n x found = elim (landed-or w content.leased number sector write may n x found) [
      | inl here' ↦ (let P : Issued → Type 0 = λ y. IsMapSpelled g y.kind y.bytes in subst P (sym here'.1) (content.spelled number write may.found))
      | inr away ↦ content.spelled n x away.1
    ]

    -- a landing leaves a map's block as it is, or is a sector of a map
    maps-after : HasMaps g after
    maps-after extent within = elim (eqb_tells (map_at g extent) write.block) [
      | inl same ↦
          let new = map-write g extent write.kind write.block write.bytes (w.rests number) right.placed same.1 (content.spelled number write may.found) in
          let old = subst (λ (b : ℕ). HoldsMap g.extent_blocks (device b)) same.1 (content.maps extent within) in
          let P : List ℕ → Type 0 = λ bytes. HoldsMap g.extent_blocks bytes in
          subst (λ (b : ℕ). P (after b)) (sym same.1) (subst P (sym (put-same device write.block (with_landed_sector sector write.bytes (device write.block)))) (landed-holds g.extent_blocks sector write.bytes (device write.block) below-8 new old))
      | inr away ↦ (let P : List ℕ → Type 0 = λ bytes. HoldsMap g.extent_blocks bytes in subst P (sym (put-other device write.block (with_landed_sector sector write.bytes (device write.block)) (map_at g extent) away.1)) (content.maps extent within))
    ]

    whose-after : (i : ℕ) → i < g.images → Whose g w.rests w.appliances time now' w.seats i (m.slots i)
    whose-after i within n x op of b mine' = elim (landed-or w content.leased number sector write may n x (open-found g w.rests w.appliances time now' w.seats (image_lease i) n x op)) [
      | inl here' ↦
          let Q : Issued → Type 0 = λ y. IsOf g i y.block in
          elim (cases i within) [
            | inl mine ↦ content.whose i within number write mine.2 mine.0 b mine' ∙ ap Some (sym here'.0)
            | inr no' ↦ absurd (no'.0 (subst Q here'.1 of))
          ]
      | inr away ↦ content.whose i within n x (frame.before (image_lease i) n x away.0 op) of b mine'
    ]

    -- what is right at a write stays right while it lands
    held-lands : (b i : ℕ) (command : Command) (known : Known) (regime : Regime) (process : Process End) (boot : ℕ) → IsAskedAt (In known command process) boot write → IsJournalled write.kind →
        HeldProcess g b i command known regime process device → HeldProcess g b i command known regime process after
    held-lands b i command known regime (WriteThen what block bytes guard done fault missed) number_of_boot asked journalled held =
        let D : ℕ → List ℕ → Device = λ k x. put device k (with_landed_sector sector x (device k)) in
        let K : WriteKind → Type 0 = λ k. IsJournalled k in
        let long : length bytes ≡ 4096 = ap length (sym asked.2) ∙ bytes-long in
        let here' : HeldProcess g b i command known regime (WriteThen what block bytes guard done fault missed) (D block bytes) = by_kind what (subst K asked.0 journalled) long held in
        let P : ℕ → List ℕ → Type 0 = λ k x. HeldProcess g b i command known regime (WriteThen what block bytes guard done fault missed) (D k x) in
        subst (λ (k : ℕ). P k write.bytes) (sym asked.1) (subst (P block) (sym asked.2) here')
      where
        by_kind : (k : WriteKind) → IsJournalled k → length bytes ≡ 4096 → HeldProcess g b i command known regime (WriteThen k block bytes guard done fault missed) device →
            HeldProcess g b i command known regime (WriteThen k block bytes guard done fault missed) (put device block (with_landed_sector sector bytes (device block)))
        by_kind k is long held =
            let write' = held-image-write g b i command known regime block bytes guard done fault missed device k is held in
            let made = put device block (with_landed_sector sector bytes (device block)) in
            image-held g b i command known regime block bytes guard done fault missed made k is (record {
              of = write'.of;
              keeps = λ flags count x looks. keeps-landed g i block sector bytes device (x.slots i) below-8 long (content.leased.long block) (λ f c. write'.keeps f c x looks) flags count;
              follows = held-process-same g b i command known regime done (put device block bytes) (put made block bytes) (same-over g i block bytes (with_landed_sector sector bytes (device block)) device) write'.follows;
              changes = write'.changes;
              only = (let O : List ℕ → Type 0 = λ y. OnlyBytes k bytes y in
                  subst O (sym (put-same device block (with_landed_sector sector bytes (device block)))) (only-lands k sector bytes (device block) write'.only));
            })
    held-lands b i command known regime (Ends end) number_of_boot asked journalled held = absurd asked
    held-lands b i command known regime (ReadThen block rest fault) number_of_boot asked journalled held = absurd asked
    held-lands b i command known regime (ClockThen rest) number_of_boot asked journalled held = absurd asked
    held-lands b i command known regime (UntilThen from rest) number_of_boot asked journalled held = absurd asked

    -- only the image's owner in the model asks it
    held-with : (b i : ℕ) (command : Command) (known : Known) (regime : Regime) (process : Process End) (boot : ℕ) → IsAskedAt (In known command process) boot write → IsJournalled write.kind →
        HeldProcess g b i command known regime process device → IsWith regime
    held-with b i command known regime (WriteThen what block bytes guard done fault missed) number_of_boot asked journalled held =
        let K : WriteKind → Type 0 = λ k. IsJournalled k in (held-image-write g b i command known regime block bytes guard done fault missed device what (subst K asked.0 journalled) held).changes
    held-with b i command known regime (Ends end) number_of_boot asked journalled held = absurd asked
    held-with b i command known regime (ReadThen block rest fault) number_of_boot asked journalled held = absurd asked
    held-with b i command known regime (ClockThen rest) number_of_boot asked journalled held = absurd asked
    held-with b i command known regime (UntilThen from rest) number_of_boot asked journalled held = absurd asked

    on-with : (i : ℕ) (regime : Regime) → IsWith regime → IsOn g i after regime
    on-with i (Without kept ws) is = absurd is
    on-with i (With image change) is = tt

    owned-lands : (i : ℕ) → i < g.images → (b : ℕ) → b < w.appliances → SeatOwns g time after now' m i b (w.seats b)
    owned-lands i within b under minds =
        let before : Minds g time writes m b (w.seats b) i = elim minds [
          | inl grips ↦ inl (grips-before w content.leased number sector write may (image_lease i) b under grips.0 grips.1 grips.2)
          | inr owner ↦ inr owner
        ] in
        let owned = content.owned i within b under before in
        elim (cases i within) [
          | inr no' ↦ owned-same g b i device after writes now' (w.seats b).pending m no'.1 (p b).place
              (λ known command process at' names n x waits found journalled. elim (landed-or w content.leased number sector write may n x found) [
                | inl here' ↦
                    let P : ℕ → Type 0 = λ k. (w.seats b).pending ≡ Some k in
                    let K : Issued → Type 0 = λ y. IsJournalled y.kind in
                    absurd (no'.0 (waits-of b under i known command process at' names number write (subst P here'.0 waits) may.found (subst K here'.1 journalled)))
                | inr away ↦ (away.1, waits-of b under i known command process at' names n x waits away.1 journalled)
              ])
              owned
          | inl mine ↦
              let waits : (w.seats b).pending ≡ Some number = elim before [
                | inl grips ↦ grip-only w content.leased i b within under grips.0 grips.1 grips.2 number write mine.2
                | inr owner ↦ content.whose i within number write mine.2 mine.0 b owner
              ] in
              let asked = (content.leased.seated b under).asked number waits in
              let same : asked.0 ≡ write = (let e : Some asked.0 ≡ Some write = sym asked.1 ∙ may.found in cc) in
              let Q : Issued → Type 0 = λ y. IsAskedAt (p b).place (boot_number b (w.seats b).boots) y in
              by_place (p b).place waits mine (subst Q same asked.2) (content.seats b under) owned
        ]
      where
        by_place : (place : Place) → (w.seats b).pending ≡ Some number → (IsOf g i write.block × IsJournalled write.kind × IsOpen g w.rests w.appliances time writes w.seats (image_lease i) number write × (home_of (w.rests number) ≡ Some (image_lease i))) →
            IsAskedAt place (boot_number b (w.seats b).boots) write → PlaceFits g b m (p b) place → OwnedAt g b i device writes (w.seats b).pending m place → OwnedAt g b i after now' (w.seats b).pending m place
        by_place (Idle known) waits mine asked fits owned = absurd asked
        by_place (Begins known command) waits mine asked fits owned = absurd asked
        by_place (In known command process) waits mine asked fits owned =
            let named = named-of g b i command known (p b).holds (p b).sample process (boot_number b (w.seats b).boots) write fits.1 asked mine.1 in
            let N : ℕ → Type 0 = λ j. Names command j in
            let names : Names command i = subst N (of-one-image g geometry named.0 i write.block named.1 within named.2 mine.0) named.3 in
            let s = owned.0 names in (
              λ names'. record {
                regime = s.regime;
                looks = s.looks;
                held = held-lands b i command known s.regime process (boot_number b (w.seats b).boots) asked mine.1 s.held;
                on = on-with i s.regime (held-with b i command known s.regime process (boot_number b (w.seats b).boots) asked mine.1 s.held);
                fills = λ n x waits' found journalled. elim (landed-or w content.leased number sector write may n x found) [
                  | inl here' ↦
                      let P : Issued → Type 0 = λ y. with_landed_sectors (missing_of y.landed) y.bytes (after y.block) ≡ y.bytes in
                      let at' : after write.block ≡ with_landed_sector sector write.bytes (device write.block) = put-same device write.block (with_landed_sector sector write.bytes (device write.block)) in
                      let f = right.flags in
                      let e : with_landed_sectors (missing_of (slice_set write.landed sector true)) write.bytes (after write.block) ≡ write.bytes =
                      ap (with_landed_sectors (missing_of (slice_set write.landed sector true)) write.bytes) at'
                      ∙ (missing-landed write.landed write.bytes (device write.block) sector may.missing (rw f bytes-long) (rw f (content.leased.long write.block))
                      ∙ s.fills number write waits may.found mine.1) in
                      subst P (sym here'.1) e
                  | inr away ↦ absurd (away.0 (let e : Some n ≡ Some number = sym waits' ∙ waits in cc))
                ];
              },
              λ away. absurd (away names),
            )

    waits-after : WaitsAreMet g w.rests w.appliances time after now' w.seats
    waits-after n x found all = elim (landed-or w content.leased number sector write may n x found) [
      | inl here' ↦
          let U : ℕ → Type 0 = λ k. (lease : ℕ) → IsUnder w.rests k lease → IsOpen g w.rests w.appliances time now' w.seats lease k x in
          let its = subst U here'.0 all in
          let P : Issued → Type 0 = λ y. WaitsOn y.kind g after y.block y.bytes y.landed in
          subst P (sym here'.1) (waits-lands write.kind g device write.block write.bytes write.landed sector may.missing
          (content.waits number write may.found (λ lease under. frame.still lease x (its lease under))))
      | inr away ↦
          let left = frame-all w content.leased after now' number write frame n x away.0 away.1 all in
          waits-others x.kind g (w.rests n) device after x.block x.bytes x.landed left.1 (content.waits n x away.1 left.0)
    ]

    pub land-content : (a back : ℕ) → Leased (with_surface w (landing (event.Land (appliance_no a) back sector) number) (after_landing w.surface number write sector)) →
        KeepsContent (with_surface w (landing (event.Land (appliance_no a) back sector) number) (after_landing w.surface number write sector))
    land-content a back leased = record {
      leased = leased;
      told = content.told;
      permitted = content.permitted;
      undamaged = content.undamaged;
      stored = stored-after;
      spelled = spelled-after;
      maps = maps-after;
      hands = content.hands;
      placed = placed-after;
      waits = waits-after;
      whose = whose-after;
      seats = content.seats;
      owned = owned-lands;
    }
