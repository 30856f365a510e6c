-- What is right while a boot owns an image stays, while the device holds the same of it and the model looks the same.
use Rattle.std.proofs.Common.{◌≡◌, ◌≢◌, ℕ, zero, suc, ◌*◌, ◌<◌, inl, inr, List, [], ◌∷◌, ◌++◌, take, drop, length, Bool, true, false, Some, None, refl, ap, sym, subst, ◌∙◌, arith, slice_set}
use Rattle.std.specs.Prelude.{slice_get, if◌then◌else◌}
use Rattle.std.proofs.lemmas.Bool.Decides.{eqb_tells}
use Rattle.std.proofs.lemmas.List.{take_at, drop_at, length-take, length-drop, length-set}
use Rattle.plx_base.specs.Sectors.{Device, put, with_landed_sectors, with_landed_sector}
use Rattle.plx_base.proofs.Devices.{put-same}
use Rattle.plx_base.specs.declared.write_kind.WriteKind.{WriteKind}
use Rattle.plx_base.specs.declared.write_kind.WriteKind.TheVariants as kind
use Rattle.plx_commands.specs.Images.{Image}
use Rattle.plx_commands.specs.Model.{Model, Slot}
use Rattle.plx_commands.specs.declared.command.Command.{Command}
use Rattle.plx_gate.specs.declared.image.ImageRecord.{ImageRecord}
use Rattle.plx_geom.specs.Geometry.{Geometry, record_at, descriptor_at, data_at}
use Rattle.plx_rules.specs.Process.{Process, Ends, ReadThen, WriteThen, ClockThen, UntilThen}
use Rattle.plx_rules.specs.Journaled.{Journaled}
use Rattle.plx_rules.specs.Ends.{End}
use Rattle.plx_rules.specs.Session.{Session, Known}
use Rattle.law_headline.proofs.BytesByKind.{OnlyBytes}
use Rattle.law_model.proofs.Foreign.{Foreign}
use Rattle.law_headline.proofs.Held.{Regime, Without, With, LooksSlot, Looks, HasImage, IsOf, HeldProcess}
use Rattle.law_headline.proofs.JournalFacts.{IsJournal-same, Keeps-same}
use Rattle.law_headline.proofs.Journals.{IsShown, ShowEither, HoldsSlot, Same}
use Rattle.law_model.specs.Sound.{Differs}

-- ---- what a journal shows of a slot that another appliance's entry left

pub show-foreign : (a : ℕ) (s t : Slot) → Foreign a s t → {kept : ImageRecord} {writes : List Journaled} → ShowEither kept writes s → ShowEither kept writes t
show-foreign a s t foreign {kept} {writes} (inl l) = inl (subst (λ (i : Image). IsShown kept writes i) (sym foreign.image) l)
show-foreign a s t foreign {kept} {writes} (inr away) = elim foreign.change [
  | inl same ↦ inr (away.0, same ∙ away.1, away.2)
  | inr none ↦ absurd (let e : None ≡ Some away.0 = sym none ∙ away.1 in let P : ⊥ = cc in P)
]

-- ---- sectors

-- all but a landed sector
pub mixed-over : (flags : List Bool) (new old : List ℕ) (k : ℕ) → k < length flags → length new ≡ 512 * length flags → length old ≡ 512 * length flags →
    with_landed_sectors flags new (with_landed_sector k new old) ≡ with_landed_sectors (slice_set flags k true) new old
mixed-over [] new old k below ln lo = absurd (omega arith)
mixed-over (f ∷ flags) new old zero below ln lo =
    let front : length (take 512 new) ≡ 512 = simp length-take (omega arith) in
    let t : take 512 (with_landed_sector 0 new old) ≡ take 512 new = take_at (take 512 new) (drop 512 old) 512 front in
    let d : drop 512 (with_landed_sector 0 new old) ≡ drop 512 old = drop_at (take 512 new) (drop 512 old) 512 front in
    rw d (picked f t)
  where
    picked : (f : Bool) → take 512 (with_landed_sector 0 new old) ≡ take 512 new →
        take 512 (if f then new else with_landed_sector 0 new old) ++ with_landed_sectors flags (drop 512 new) (drop 512 old) ≡ take 512 new ++ with_landed_sectors flags (drop 512 new) (drop 512 old)
    picked true t = refl
    picked false t = ap (λ x. x ++ with_landed_sectors flags (drop 512 new) (drop 512 old)) t
mixed-over (f ∷ flags) new old (suc k) below ln lo =
    let front : length (take 512 old) ≡ 512 = simp length-take (omega arith) in
    let t : take 512 (with_landed_sector (suc k) new old) ≡ take 512 old = take_at (take 512 old) (with_landed_sector k (drop 512 new) (drop 512 old)) 512 front in
    let d : drop 512 (with_landed_sector (suc k) new old) ≡ with_landed_sector k (drop 512 new) (drop 512 old) = drop_at (take 512 old) (with_landed_sector k (drop 512 new) (drop 512 old)) 512 front in
    let ih = mixed-over flags (drop 512 new) (drop 512 old) k (omega arith) (simp length-drop (omega arith)) (simp length-drop (omega arith)) in
    rw (d, ih) (picked f t)
  where
    picked : (f : Bool) → take 512 (with_landed_sector (suc k) new old) ≡ take 512 old →
        take 512 (if f then new else with_landed_sector (suc k) new old) ++ with_landed_sectors (slice_set flags k true) (drop 512 new) (drop 512 old)
        ≡ take 512 (if f then new else old) ++ with_landed_sectors (slice_set flags k true) (drop 512 new) (drop 512 old)
    picked true t = refl
    picked false t = ap (λ x. x ++ with_landed_sectors (slice_set flags k true) (drop 512 new) (drop 512 old)) t

-- the sectors that are missing
abbrev pub missing_of : List Bool → List Bool
missing_of [] = []
missing_of (true ∷ flags) = false ∷ missing_of flags
missing_of (false ∷ flags) = true ∷ missing_of flags

pub length-missing : (flags : List Bool) → length (missing_of flags) ≡ length flags
length-missing [] = refl
length-missing (true ∷ flags) = ap suc (length-missing flags)
length-missing (false ∷ flags) = ap suc (length-missing flags)

-- what is missing makes the same of a block after a landing
pub missing-landed : (flags : List Bool) (new old : List ℕ) (k : ℕ) → slice_get flags k ≡ Some false → length new ≡ 512 * length flags → length old ≡ 512 * length flags →
    with_landed_sectors (missing_of (slice_set flags k true)) new (with_landed_sector k new old) ≡ with_landed_sectors (missing_of flags) new old
missing-landed [] new old k e ln lo = cc
missing-landed (true ∷ flags) new old zero e ln lo = cc
missing-landed (false ∷ flags) new old zero e ln lo =
    let front : length (take 512 new) ≡ 512 = simp length-take (omega arith) in
    let t : take 512 (with_landed_sector 0 new old) ≡ take 512 new = take_at (take 512 new) (drop 512 old) 512 front in
    let d : drop 512 (with_landed_sector 0 new old) ≡ drop 512 old = drop_at (take 512 new) (drop 512 old) 512 front in
    rw (d, t) refl
missing-landed (f ∷ flags) new old (suc k) e ln lo =
    let front : length (take 512 old) ≡ 512 = simp length-take (omega arith) in
    let t : take 512 (with_landed_sector (suc k) new old) ≡ take 512 old = take_at (take 512 old) (with_landed_sector k (drop 512 new) (drop 512 old)) 512 front in
    let d : drop 512 (with_landed_sector (suc k) new old) ≡ with_landed_sector k (drop 512 new) (drop 512 old) = drop_at (take 512 old) (with_landed_sector k (drop 512 new) (drop 512 old)) 512 front in
    let ih = missing-landed flags (drop 512 new) (drop 512 old) k e (simp length-drop (omega arith)) (simp length-drop (omega arith)) in
    by_flag f t d ih
  where
    by_flag : (f : Bool) → take 512 (with_landed_sector (suc k) new old) ≡ take 512 old → drop 512 (with_landed_sector (suc k) new old) ≡ with_landed_sector k (drop 512 new) (drop 512 old) →
        with_landed_sectors (missing_of (slice_set flags k true)) (drop 512 new) (with_landed_sector k (drop 512 new) (drop 512 old)) ≡ with_landed_sectors (missing_of flags) (drop 512 new) (drop 512 old) →
        with_landed_sectors (missing_of (f ∷ slice_set flags k true)) new (with_landed_sector (suc k) new old) ≡ with_landed_sectors (missing_of (f ∷ flags)) new old
    by_flag true t d ih = rw (d, ih, t) refl
    by_flag false t d ih = rw (d, ih) refl

-- ---- the device

pub same-refl : (g : Geometry) (i : ℕ) (d : Device) → Same g i d d
same-refl g i d = record { recorded = refl; descriptors = λ s below. refl; blocks = λ s below. refl }

pub same-at : (g : Geometry) (i block : ℕ) (d e : Device) → IsOf g i block → Same g i d e → e block ≡ d block
same-at g i block d e (inl here) same = ap e here ∙ (same.recorded ∙ ap d (sym here))
same-at g i block d e (inr (slot, below, inl here)) same = ap e here ∙ (same.descriptors slot below ∙ ap d (sym here))
same-at g i block d e (inr (slot, below, inr here)) same = ap e here ∙ (same.blocks slot below ∙ ap d (sym here))

-- a write of the same bytes on both
pub same-put : (g : Geometry) (i block : ℕ) (bytes : List ℕ) (d e : Device) → Same g i d e → Same g i (put d block bytes) (put e block bytes)
same-put g i block bytes d e same = record {
  recorded = at (record_at g i) same.recorded;
  descriptors = λ s below. at (descriptor_at g i s) (same.descriptors s below);
  blocks = λ s below. at (data_at g i s) (same.blocks s below);
}
  where
    at : (b : ℕ) → e b ≡ d b → put e block bytes b ≡ put d block bytes b
    at b is = elim (eqb_tells b block) [ inl here ↦ rw here.0 refl | inr away ↦ rw away.0 is ]

-- the same everywhere
pub same-all : (g : Geometry) (i : ℕ) (d e : Device) → ((b : ℕ) → e b ≡ d b) → Same g i d e
same-all g i d e same = record { recorded = same _; descriptors = λ s below. same _; blocks = λ s below. same _ }

-- a write over another
pub same-over : (g : Geometry) (i block : ℕ) (bytes x : List ℕ) (d : Device) → Same g i (put d block bytes) (put (put d block x) block bytes)
same-over g i block bytes x d = same-all g i (put d block bytes) (put (put d block x) block bytes) at
  where
    at : (b : ℕ) → put (put d block x) block bytes b ≡ put d block bytes b
    at b = elim (eqb_tells b block) [ inl here ↦ rw here.0 refl | inr away ↦ rw (away.0) refl ]

pub has-same : (g : Geometry) (i a : ℕ) (s : Session) (d e : Device) (slot : Slot) → Same g i d e → HasImage g i a s d slot → HasImage g i a s e slot
has-same g i a s d e slot same has = record {
  owner = has.owner;
  decided = has.decided;
  journal = IsJournal-same g d e i s.image s.writes same has.journal;
  left = has.left;
}

module _ (g : Geometry) (a i : ℕ) (command : Command) (known : Known) (regime : Regime) where
  -- on a device that holds the same of the image
  pub held-process-same : (process : Process End) (d e : Device) → Same g i d e → HeldProcess g a i command known regime process d → HeldProcess g a i command known regime process e
  held-process-same (Ends end) d e same held = λ m looks. (let h = held m looks in
      (h.0, Keeps-same g d e i _ same h.1, λ s is. has-same g i a s d e _ same (h.2 s is), h.3))
  held-process-same (ReadThen block rest fault) d e same held = (
    held.0,
    (let P : List ℕ → Type 0 = λ x. HeldProcess g a i command known regime (rest x) e in subst P (sym (same-at g i block d e held.0 same)) (held-process-same (rest (d block)) d e same held.1)),
    held-process-same fault d e same held.2,
  )
  held-process-same (WriteThen what block bytes guard done fault missed) d e same held =
      by_kind what held (λ h. held-process-same done (put d block bytes) (put e block bytes) (same-put g i block bytes d e same) h) (λ h. held-process-same done d e same h)
    where
      by_kind : (k : WriteKind) → HeldProcess g a i command known regime (WriteThen k block bytes guard done fault missed) d →
          (HeldProcess g a i command known regime done (put d block bytes) → HeldProcess g a i command known regime done (put e block bytes)) →
          (HeldProcess g a i command known regime done d → HeldProcess g a i command known regime done e) →
          HeldProcess g a i command known regime (WriteThen k block bytes guard done fault missed) e
      by_kind kind.Release held next plain = ((λ m looks. Keeps-same g d e i (m.slots i) same (held.0 m looks)), plain held.1)
      by_kind other held next plain = (
        held.0,
        (λ flags count m looks.
            let old : e block ≡ d block = same-at g i block d e held.0 same in
            let P : List ℕ → Type 0 = λ x. HoldsSlot g (put e block (with_landed_sectors flags bytes x)) i (m.slots i) in
            subst P (sym old) (Keeps-same g (put d block (with_landed_sectors flags bytes (d block))) (put e block (with_landed_sectors flags bytes (d block))) i (m.slots i)
            (same-put g i block (with_landed_sectors flags bytes (d block)) d e same) (held.1 flags count m looks))),
        next held.2,
        held.3,
        (let O : List ℕ → Type 0 = λ x. OnlyBytes other bytes x in subst O (sym (same-at g i block d e held.0 same)) held.4),
      )
  held-process-same (ClockThen rest) d e same held = λ reading. held-process-same (rest reading) d e same (held reading)
  held-process-same (UntilThen from rest) d e same held = λ reading. held-process-same (rest reading) d e same (held reading)

-- a landing of the write that is asked
pub keeps-landed : (g : Geometry) (i block k : ℕ) (bytes : List ℕ) (d : Device) (slot : Slot) → k < 8 → length bytes ≡ 4096 → length (d block) ≡ 4096 →
    ((flags : List Bool) → length flags ≡ 8 → HoldsSlot g (put d block (with_landed_sectors flags bytes (d block))) i slot) →
    (flags : List Bool) → length flags ≡ 8 →
    HoldsSlot g (put (put d block (with_landed_sector k bytes (d block))) block (with_landed_sectors flags bytes (put d block (with_landed_sector k bytes (d block)) block))) i slot
keeps-landed g i block k bytes d slot below long old keeps flags count =
    let x = with_landed_sector k bytes (d block) in
    let at : put d block x block ≡ x = put-same d block x in
    let over : with_landed_sectors flags bytes x ≡ with_landed_sectors (slice_set flags k true) bytes (d block) = mixed-over flags bytes (d block) k (omega arith) (rw count long) (rw count old) in
    let P : List ℕ → Type 0 = λ y. HoldsSlot g (put (put d block x) block y) i slot in
    subst P (sym (ap (with_landed_sectors flags bytes) at ∙ over))
    (Keeps-same g (put d block (with_landed_sectors (slice_set flags k true) bytes (d block))) (put (put d block x) block (with_landed_sectors (slice_set flags k true) bytes (d block))) i slot
    (same-over g i block (with_landed_sectors (slice_set flags k true) bytes (d block)) x d)
    (keeps (slice_set flags k true) (length-set flags k true ∙ count)))

-- ---- the model

pub looks-foreign : (g : Geometry) (h i a : ℕ) (command : Command) (known : Known) (regime : Regime) (m n : Model) → h ≢ a → Foreign a (m.slots i) (n.slots i) → Differs (n.slots i) →
    n.images ≡ m.images → n.appliances ≡ m.appliances → n.running h ≡ m.running h → ((j : ℕ) → n.sessions h j ≡ m.sessions h j) →
    Looks g h i command known regime m → Looks g h i command known regime n
looks-foreign g h i a command known regime m n ne foreign differs images appliances runs sessions looks = record {
  running = record {
    placed = (let p = looks.running.placed in omega (arith, p, appliances));
    images = images ∙ looks.running.images;
    runs = runs ∙ looks.running.runs;
    sessions = λ j. sessions j ∙ looks.running.sessions j;
  };
  slot = by_regime regime looks.slot;
  purpose = looks.purpose;
}
  where
    by_regime : (r : Regime) → LooksSlot h r (m.slots i) → LooksSlot h r (n.slots i)
    by_regime (Without kept writes) is = (show-foreign a (m.slots i) (n.slots i) foreign is.0, differs)
    by_regime (With image change) is =
        let same : n.slots i ≡ m.slots i = foreign.others (λ e. ne (let f : Some h ≡ Some a = sym is.0 ∙ e in cc)) in
        let P : Slot → Type 0 = λ s. LooksSlot h (With image change) s in
        subst P (sym same) is

pub keeps-foreign : (g : Geometry) (i a : ℕ) (d : Device) (s t : Slot) → Foreign a s t → HoldsSlot g d i s → HoldsSlot g d i t
keeps-foreign g i a d s t foreign k = record { kept = k.kept; writes = k.writes; journal = k.journal; either = show-foreign a s t foreign k.either }

pub has-foreign : (g : Geometry) (i h a : ℕ) (session : Session) (d : Device) (s t : Slot) → h ≢ a → Foreign a s t → HasImage g i h session d s → HasImage g i h session d t
has-foreign g i h a session d s t ne foreign has =
    let same : t ≡ s = foreign.others (λ e. ne (let f : Some h ≡ Some a = sym has.owner ∙ e in cc)) in
    let P : Slot → Type 0 = λ x. HasImage g i h session d x in
    subst P (sym same) has
