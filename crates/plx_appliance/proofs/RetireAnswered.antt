-- A retire that is answered: what is kept, what is in hand, and what it makes of what was read last.
use Rattle.std.proofs.Common.{◌≡◌, ℕ, ◌<◌, List, [], ◌∷◌, Bool, true, false, Option, Some, None, refl, sym, ap, ◌∙◌, subst}
use Rattle.std.specs.Prelude.{◌==◌, not, if◌then◌else◌}
use Rattle.plx_base.specs.declared.write_kind.WriteKind.TheVariants as kind
use Rattle.plx_commands.specs.Replies.{is_in}
use Rattle.plx_commands.specs.declared.reply.Reply.{Reply}
use Rattle.plx_extent.specs.Maps.{bits_of}
use Rattle.plx_disk.specs.declared.ask.Ask.{Ask}
use Rattle.plx_disk.specs.declared.ask.Ask.TheVariants as ask
use Rattle.plx_disk.specs.declared.ask.Answer.{Answer}
use Rattle.plx_disk.specs.declared.ask.Answer.TheVariants as answer
use Rattle.plx_geom.specs.Geometry.{Geometry, extent_lease, image_lease, lease_at, map_at}
use Rattle.plx_rules.specs.Process.{bytes_out, standing}
use Rattle.plx_rules.specs.Boot.{Fits}
use Rattle.plx_rules.specs.Hands.{found_by, hand_answered, hand_from, hand_written, set_since, blocks_without}
use Rattle.plx_rules.specs.Holds.{Hold, after_answer}
use Rattle.plx_rules.specs.Machines.{Asks}
use Rattle.plx_alloc.specs.Asking.{SparesLeases}
use Rattle.plx_alloc.specs.Gives.{Around, giving_at}
use Rattle.plx_alloc.specs.Moving.{giving_ask, giving_ask_at, released_at, retire_ask_at}
use Rattle.plx_alloc.specs.Moving.{retire_ask as extents_ask}
use Rattle.plx_alloc.specs.Retires.{release_next, retire_at as extents_at}
use Rattle.plx_alloc.specs.Retires.{retire_extents_rest as extents_rest}
use Rattle.plx_alloc.specs.Tables.{hand_numbers, held_hand}
use Rattle.plx_alloc.specs.Tables.{extent_leases as extents_of}
use Rattle.plx_alloc.specs.declared.allocator.Allocator.{Allocator}
use Rattle.plx_alloc.specs.declared.giving.Giving.{Giving}
use Rattle.plx_alloc.specs.declared.giving.GivingAt.{GivingAt}
use Rattle.plx_alloc.specs.declared.giving.GivingAt.TheVariants as giving
use Rattle.plx_alloc.specs.declared.retire.RetireAt.{RetireAt}
use Rattle.plx_alloc.specs.declared.retire.RetireAt.TheVariants as at
use Rattle.plx_session.specs.Giving.{rules_setting}
use Rattle.plx_appliance.specs.Holding.{HoldsAs, image_leases_after_write}
use Rattle.plx_appliance.specs.Lent.{Lent}
use Rattle.plx_appliance.specs.Retires.{around_of, retire_stage_rest, retire_moves, retire_images_rest, retire_suits, retire_tells}
use Rattle.plx_appliance.specs.Space.{AreWithin, IsHand}
use Rattle.plx_session.specs.declared.leased.Leased.{Leased}
use Rattle.plx_appliance.specs.declared.retire.Retire.{Retire}
use Rattle.plx_appliance.specs.declared.retire.RetireStage.{RetireStage}
use Rattle.plx_appliance.specs.declared.retire.RetireStage.TheVariants as stage
use Rattle.plx_session.specs.declared.setting.Setting.{Setting as Own}
use Rattle.plx_alloc.proofs.Asking.{map-is-no-lease}
use Rattle.plx_session.proofs.Machines.{EndsOnFailure}
use Rattle.plx_appliance.proofs.Failing.{same-ask}
use Rattle.plx_appliance.proofs.Held.{nothing-at, spare-holds}
use Rattle.plx_appliance.proofs.InHand.{FillsNone, spares-hand}
use Rattle.plx_appliance.proofs.Moved.{extent-released, release-holds-as}

-- ---- what it asks

-- the release of the lease of an image
abbrev pub image_release : Leased → Ask
image_release image = ask.Write kind.Release (record { 0 = lease_at (image_lease image.slot.0) }) image.until

-- the ask of a retire
abbrev pub ask_of : RetireStage → Ask
ask_of (stage.Extents m) = extents_ask m
ask_of (stage.Image image) = image_release image

giving-standing : (place : GivingAt) (o : Around) (a : Allocator) (m : Giving) → standing (giving_at place o a m) ≡ Some (giving_ask_at place m)
giving-standing giving.Map o a m = refl
giving-standing giving.Write o a m = refl
giving-standing giving.Damaged o a m = refl

extents-standing : (place : RetireAt) (o : Around) (a : Allocator) (m : Giving) → standing (extents_at place o a m) ≡ Some (retire_ask_at place m)
extents-standing at.Give o a m = giving-standing m.at (record o { rest = release_next o a m }) a m
extents-standing at.Release o a m = refl

place-standing : (lent : Lent) (place : RetireStage) (r : Retire) → standing (retire_stage_rest place lent r) ≡ Some (ask_of place)
place-standing lent (stage.Extents m) r = extents-standing m.at (around_of (rules_setting r.setting) r.setting.appliance.0 lent.known lent.leases) lent.space m.giving
place-standing lent (stage.Image image) r = refl

pub ask-is : (lent : Lent) (r : Retire) (q : Ask) → Some q ≡ standing (retire_images_rest lent r) → ask_of r.stage ≡ q
ask-is lent r q stands = sym (same-ask q (ask_of r.stage) (stands ∙ place-standing lent r.stage r))

giving-asks : (place : GivingAt) (o : Around) (a : Allocator) (m : Giving) → Asks (giving_at place o a m)
giving-asks giving.Map o a m = tt
giving-asks giving.Write o a m = tt
giving-asks giving.Damaged o a m = tt

extents-asks : (place : RetireAt) (o : Around) (a : Allocator) (m : Giving) → Asks (extents_at place o a m)
extents-asks at.Give o a m = giving-asks m.at (record o { rest = release_next o a m }) a m
extents-asks at.Release o a m = tt

-- a retire asks
pub retire-asks : (lent : Lent) (place : RetireStage) (r : Retire) → Asks (retire_stage_rest place lent r)
retire-asks lent (stage.Extents m) r = extents-asks m.at (around_of (rules_setting r.setting) r.setting.appliance.0 lent.known lent.leases) lent.space m.giving
retire-asks lent (stage.Image image) r = tt

giving-fails : (place : GivingAt) (o : Around) (a : Allocator) (m : Giving) → EndsOnFailure (giving_at place o a m)
giving-fails giving.Map o a m = tt
giving-fails giving.Write o a m = (λ asks. asks, λ reading asks. asks)
giving-fails giving.Damaged o a m = tt

extents-fail : (place : RetireAt) (o : Around) (a : Allocator) (m : Giving) → EndsOnFailure (extents_at place o a m)
extents-fail at.Give o a m = giving-fails m.at (record o { rest = release_next o a m }) a m
extents-fail at.Release o a m = (λ asks. asks, λ reading asks. asks)

-- a write that fails or is missed ends it
pub retire-fails : (lent : Lent) (place : RetireStage) (r : Retire) → EndsOnFailure (retire_stage_rest place lent r)
retire-fails lent (stage.Extents m) r = extents-fail m.at (around_of (rules_setting r.setting) r.setting.appliance.0 lent.known lent.leases) lent.space m.giving
retire-fails lent (stage.Image image) r = (λ asks. asks, λ reading asks. asks)

-- ---- what is kept of leases

-- the release of the lease of an extent
abbrev extent_release : (lease until : ℕ) → Ask
extent_release lease until = ask.Write kind.Release (record { 0 = lease_at lease }) until

extent-holds : (g : Geometry) (extent until : ℕ) (leases extents later holds : ℕ → Hold) (sample : Option ℕ) (bytes : List ℕ) (found : Answer) →
    Fits (extent_release (extent_lease g extent) until) found → HoldsAs g leases extents holds → later ≡ released_at at.Release found extent extents →
    HoldsAs g (image_leases_after_write (extent_release (extent_lease g extent) until) found leases) (image_leases_after_write (extent_release (extent_lease g extent) until) found later)
    (after_answer sample (extent_release (extent_lease g extent) until) bytes found holds)
extent-holds g extent until leases extents later holds sample bytes answer.Done fits h is =
    subst (λ (es : ℕ → Hold). HoldsAs g leases es (after_answer sample (extent_release (extent_lease g extent) until) bytes answer.Done holds)) (sym is) (extent-released g extent leases extents holds h)
extent-holds g extent until leases extents later holds sample bytes answer.Fault fits h is = λ lease low. nothing-at g (lease_at lease)
extent-holds g extent until leases extents later holds sample bytes (answer.Missed r) fits h is = λ lease low. nothing-at g (lease_at lease)
extent-holds g extent until leases extents later holds sample bytes (answer.Bytes b) fits h is = absurd fits
extent-holds g extent until leases extents later holds sample bytes (answer.Reading r) fits h is = absurd fits

-- an ask that concerns no lease
spare-kept : (g : Geometry) (leases extents later holds : ℕ → Hold) (sample : Option ℕ) (q : Ask) (bytes : List ℕ) (found : Answer) → SparesLeases g q →
    HoldsAs g leases extents holds → later ≡ extents → HoldsAs g (image_leases_after_write q found leases) (image_leases_after_write q found later) (after_answer sample q bytes found holds)
spare-kept g leases extents later holds sample q bytes found spare h is =
    subst (λ (es : ℕ → Hold). HoldsAs g (image_leases_after_write q found leases) (image_leases_after_write q found es) (after_answer sample q bytes found holds)) (sym is) (spare-holds g leases extents holds sample q bytes found spare h)

giving-spares : (place : GivingAt) (g : Geometry) (m : Giving) → m.map.0 ≡ map_at g m.extent.0 → SparesLeases g (giving_ask_at place m)
giving-spares giving.Map g m map = map-is-no-lease g m.extent.0 m.map.0 map
giving-spares giving.Write g m map = tt
giving-spares giving.Damaged g m map = tt

extents-hold : (place : RetireAt) (g : Geometry) (m : Giving) (leases extents later holds : ℕ → Hold) (sample : Option ℕ) (bytes : List ℕ) (found : Answer) →
    m.map.0 ≡ map_at g m.extent.0 → m.lease ≡ extent_lease g m.extent.0 → Fits (retire_ask_at place m) found → HoldsAs g leases extents holds → later ≡ released_at place found m.extent.0 extents →
    HoldsAs g (image_leases_after_write (retire_ask_at place m) found leases) (image_leases_after_write (retire_ask_at place m) found later) (after_answer sample (retire_ask_at place m) bytes found holds)
extents-hold at.Give g m leases extents later holds sample bytes found map lease fits h is =
    spare-kept g leases extents later holds sample (giving_ask m) bytes found (giving-spares m.at g m map) h is
extents-hold at.Release g m leases extents later holds sample bytes found map lease fits h is =
    let goal = λ (n : ℕ). HoldsAs g (image_leases_after_write (extent_release n m.until) found leases) (image_leases_after_write (extent_release n m.until) found later) (after_answer sample (extent_release n m.until) bytes found holds) in
    subst goal (sym lease) (extent-holds g m.extent.0 m.until leases extents later holds sample bytes found (subst (λ (n : ℕ). Fits (extent_release n m.until) found) lease fits) h is)

place-holds : (g : Geometry) (place : RetireStage) (own : Own) (new : Retire) (a : Answer) (before after : Lent) (holds : ℕ → Hold) (sample : Option ℕ) (bytes : List ℕ) (result : Option Reply) →
    own.geometry ≡ g → before.space.geometry ≡ g → retire_suits before.space own place → Fits (ask_of place) a →
    HoldsAs g before.leases (extents_of before.space) holds → retire_moves place new a before after result →
    HoldsAs g (image_leases_after_write (ask_of place) a after.leases) (image_leases_after_write (ask_of place) a (extents_of after.space)) (after_answer sample (ask_of place) bytes a holds)
place-holds g (stage.Extents m) own new a before after holds sample bytes result is space suits fits h moves =
    let q = extents_ask m in
    subst (λ (ls : ℕ → Hold). HoldsAs g (image_leases_after_write q a ls) (image_leases_after_write q a (extents_of after.space)) (after_answer sample q bytes a holds)) (sym moves.images)
    (extents-hold m.at g m.giving before.leases (extents_of before.space) (extents_of after.space) holds sample bytes a
    (suits.map ∙ ap (λ (k : Geometry). map_at k m.giving.extent.0) space) (suits.lease ∙ ap (λ (k : Geometry). extent_lease k m.giving.extent.0) space) fits h moves.extents)
place-holds g (stage.Image image) own new a before after holds sample bytes result is space suits fits h moves =
    let q = image_release image in
    let within : image.slot.0 < g.images = subst (λ (k : Geometry). image.slot.0 < k.images) (ap (λ (s : Own). s.geometry) suits ∙ is) image.inside in
    subst (λ (later : Allocator). HoldsAs g (image_leases_after_write q a after.leases) (image_leases_after_write q a (extents_of later)) (after_answer sample q bytes a holds)) (sym moves.space)
    (release-holds-as g image.slot.0 image.until bytes a before.leases after.leases (extents_of before.space) holds sample within fits h moves.images)

-- what is kept of the leases is what the log holds
pub retire-holds : (g : Geometry) (lent later : Lent) (old new : Retire) (q : Ask) (a : Answer) (holds : ℕ → Hold) (sample : Option ℕ) (result : Option Reply) →
    old.setting.geometry ≡ g → lent.space.geometry ≡ g → retire_suits lent.space old.setting old.stage → Some q ≡ standing (retire_images_rest lent old) → Fits q a →
    HoldsAs g lent.leases (extents_of lent.space) holds → retire_moves old.stage new a lent later result →
    HoldsAs g (image_leases_after_write q a later.leases) (image_leases_after_write q a (extents_of later.space)) (after_answer sample q (bytes_out (retire_images_rest lent old)) a holds)
retire-holds g lent later old new q a holds sample result same space suits stands fits h m =
    let e = ask-is lent old q stands in
    let bytes = bytes_out (retire_images_rest lent old) in
    subst (λ (r : Ask). HoldsAs g (image_leases_after_write r a later.leases) (image_leases_after_write r a (extents_of later.space)) (after_answer sample r bytes a holds)) e
    (place-holds g old.stage old.setting new a lent later holds sample bytes result same space suits (subst (λ (r : Ask). Fits r a) (sym e) fits) h m)

-- ---- what it makes of what was read last

place-inside : (place : RetireStage) (new : Retire) (a : Answer) (before after : Lent) (result : Option Reply) → Fits (ask_of place) a → retire_moves place new a before after result → result ≡ None →
    retire_tells after.space.geometry new.stage (found_by (ask_of place) a)
place-inside (stage.Extents m) new a before after result fits moves none = moves.found fits none
place-inside (stage.Image image) new a before after result fits moves none = moves.tells after.space.geometry (found_by (image_release image) a) none

-- what it makes of what was read last
pub retire-inside : (g : Geometry) (lent later : Lent) (old new : Retire) (q : Ask) (a : Answer) (result : Option Reply) → later.space.geometry ≡ g →
    Some q ≡ standing (retire_images_rest lent old) → Fits q a → retire_moves old.stage new a lent later result → result ≡ None → retire_tells g new.stage (found_by q a)
retire-inside g lent later old new q a result space stands fits m none =
    let e = ask-is lent old q stands in
    subst (λ (r : Ask). retire_tells g new.stage (found_by r a)) e
    (subst (λ (k : Geometry). retire_tells k new.stage (found_by (ask_of old.stage) a)) space
    (place-inside old.stage new a lent later result (subst (λ (r : Ask). Fits r a) (sym e) fits) m none))

-- ---- what is in hand

-- what is left of blocks lies where they lay
without-within : (g : Geometry) (others hand : List ℕ) → AreWithin g hand → AreWithin g (blocks_without others hand)
without-within g others [] within = tt
without-within g others (block ∷ hand) within = by_test (not (is_in block others)) (without-within g others hand within.1)
  where
    by_test : (b : Bool) → AreWithin g (blocks_without others hand) → AreWithin g (if b then block ∷ blocks_without others hand else blocks_without others hand)
    by_test true rest = (within.0, rest)
    by_test false rest = rest

give-within : (g : Geometry) (read : Option (ℕ × List ℕ)) (map : ℕ) (bytes hand : List ℕ) → AreWithin g hand → AreWithin g (hand_from g read kind.Give map bytes hand)
give-within g None map bytes hand within = within
give-within g (Some read) map bytes hand within = by_test (read.0 == map)
  where
    by_test : (b : Bool) → AreWithin g (if b then hand_written kind.Give map (bits_of g.extent_blocks read.1) (bits_of g.extent_blocks bytes) hand else hand)
    by_test true = without-within g (set_since map (bits_of g.extent_blocks bytes) (bits_of g.extent_blocks read.1)) hand within
    by_test false = within

giving-within : (place : GivingAt) (g : Geometry) (m : Giving) (read : Option (ℕ × List ℕ)) (bytes : List ℕ) (a : Answer) (hand : List ℕ) → AreWithin g hand →
    AreWithin g (hand_answered g read (giving_ask_at place m) bytes a hand)
giving-within giving.Map g m read bytes a hand within = within
giving-within giving.Write g m read bytes answer.Done hand within = give-within g read m.map.0 bytes hand within
giving-within giving.Write g m read bytes answer.Fault hand within = within
giving-within giving.Write g m read bytes (answer.Missed reading) hand within = within
giving-within giving.Write g m read bytes (answer.Bytes found) hand within = within
giving-within giving.Write g m read bytes (answer.Reading reading) hand within = within
giving-within giving.Damaged g m read bytes a hand within = within

extents-within : (place : RetireAt) (g : Geometry) (m : Giving) (read : Option (ℕ × List ℕ)) (bytes : List ℕ) (a : Answer) (hand : List ℕ) → AreWithin g hand →
    AreWithin g (hand_answered g read (retire_ask_at place m) bytes a hand)
extents-within at.Give g m read bytes a hand within = giving-within m.at g m read bytes a hand within
extents-within at.Release g m read bytes a hand within =
    subst (AreWithin g) (sym (spares-hand g read (retire_ask_at at.Release m) bytes a hand tt)) within

place-within : (place : RetireStage) (g : Geometry) (read : Option (ℕ × List ℕ)) (bytes : List ℕ) (a : Answer) (hand : List ℕ) → AreWithin g hand →
    AreWithin g (hand_answered g read (ask_of place) bytes a hand)
place-within (stage.Extents m) g read bytes a hand within = extents-within m.at g m.giving read bytes a hand within
place-within (stage.Image image) g read bytes a hand within = subst (AreWithin g) (sym (spares-hand g read (image_release image) bytes a hand tt)) within

place-hand : (place : RetireStage) (r new : Retire) (read : Option (ℕ × List ℕ)) (a : Answer) (before after : Lent) (result : Option Reply) →
    held_hand before.space.geometry (extents_of before.space) (hand_numbers before.space) ≡ hand_numbers before.space → retire_tells before.space.geometry place read → retire_moves place new a before after result →
    held_hand before.space.geometry (extents_of after.space) (hand_answered before.space.geometry read (ask_of place) (bytes_out (retire_stage_rest place before r)) a (hand_numbers before.space)) ≡ hand_numbers after.space
place-hand (stage.Extents m) r new read a before after result held tells moves =
    let o = around_of (rules_setting r.setting) r.setting.appliance.0 before.known before.leases in
    sym (moves.hand o read (bytes_out (extents_rest o before.space m)) tells refl)
place-hand (stage.Image image) r new read a before after result held tells moves =
    let now = before.space in
    let g = now.geometry in
    let bytes = bytes_out (retire_stage_rest (stage.Image image) before r) in
    subst (λ (later : Allocator). held_hand g (extents_of later) (hand_answered g read (image_release image) bytes a (hand_numbers now)) ≡ hand_numbers later) (sym moves.space)
    (ap (held_hand g (extents_of now)) (spares-hand g read (image_release image) bytes a (hand_numbers now) tt) ∙ held)

-- what a retire asks fills no block
giving-fills : (place : GivingAt) (m : Giving) → FillsNone (giving_ask_at place m)
giving-fills giving.Map m = tt
giving-fills giving.Write m = tt
giving-fills giving.Damaged m = tt

extents-fill : (place : RetireAt) (m : Giving) → FillsNone (retire_ask_at place m)
extents-fill at.Give m = giving-fills m.at m
extents-fill at.Release m = tt

pub place-fills : (place : RetireStage) → FillsNone (ask_of place)
place-fills (stage.Extents m) = extents-fill m.at m.giving
place-fills (stage.Image image) = tt

-- what is in hand
pub retire-hand : (g : Geometry) (lent later : Lent) (old new : Retire) (q : Ask) (a : Answer) (found : Option (ℕ × List ℕ)) (result : Option Reply) →
    lent.space.geometry ≡ g → later.space.geometry ≡ g → Some q ≡ standing (retire_images_rest lent old) → retire_tells g old.stage found →
    IsHand g (extents_of lent.space) (hand_numbers lent.space) → IsHand g (extents_of later.space) (hand_numbers later.space) → retire_moves old.stage new a lent later result →
    AreWithin g (hand_answered g found q (bytes_out (retire_images_rest lent old)) a (hand_numbers lent.space))
    × (held_hand g (extents_of later.space) (hand_answered g found q (bytes_out (retire_images_rest lent old)) a (hand_numbers lent.space)) ≡ hand_numbers later.space)
retire-hand g lent later old new q a found result space after stands tells before kept m =
    let e = ask-is lent old q stands in
    let bytes = bytes_out (retire_images_rest lent old) in
    let own = lent.space.geometry in
    let held = subst (λ (k : Geometry). held_hand k (extents_of lent.space) (hand_numbers lent.space) ≡ hand_numbers lent.space) (sym space) before.held in
    let told = subst (λ (k : Geometry). retire_tells k old.stage found) (sym space) tells in
    subst (λ (r : Ask). AreWithin g (hand_answered g found r bytes a (hand_numbers lent.space))
    × (held_hand g (extents_of later.space) (hand_answered g found r bytes a (hand_numbers lent.space)) ≡ hand_numbers later.space)) e (
      place-within old.stage g found bytes a (hand_numbers lent.space) before.within,
      subst (λ (k : Geometry). held_hand k (extents_of later.space) (hand_answered k found (ask_of old.stage) bytes a (hand_numbers lent.space)) ≡ hand_numbers later.space) space
          (place-hand old.stage old new found a lent later result held told m),
    )
