-- The command that runs is answered: what is kept, how far its claim has come, and where the appliance stands.
use Rattle.std.proofs.Common.{◌≡◌, ℕ, ◌<◌, ◌++◌, [], ◌∷◌, Option, Some, None, sym, ap, ◌∙◌, subst}
use Rattle.plx_base.specs.declared.write_kind.WriteKind.TheVariants as kind
use Rattle.plx_disk.specs.declared.ask.Ask.{Ask}
use Rattle.plx_disk.specs.declared.ask.Ask.TheVariants as ask
use Rattle.plx_disk.specs.declared.ask.Answer.{Answer}
use Rattle.plx_disk.specs.declared.ask.Answer.TheVariants as answer
use Rattle.plx_geom.specs.Geometry.{Geometry, extent_lease, image_lease, lease_at, lease_count}
use Rattle.plx_alloc.specs.Asking.{SparesHand}
use Rattle.plx_alloc.specs.Moving.{ReadsFirst, tells_at}
use Rattle.plx_alloc.specs.Tables.{hand_numbers}
use Rattle.plx_alloc.specs.Tables.{extent_leases as extents_of}
use Rattle.plx_alloc.specs.declared.reserve.Reserve.{Reserve as Take}
use Rattle.plx_alloc.specs.declared.reserve.ReserveAt.{ReserveAt}
use Rattle.plx_alloc.specs.declared.reserve.ReserveAt.TheVariants as at
use Rattle.plx_rules.specs.Boot.{Fits}
use Rattle.plx_rules.specs.Ends.{End}
use Rattle.plx_rules.specs.Hands.{found_by}
use Rattle.plx_rules.specs.Holds.{Hold, after_answer, sample_of}
use Rattle.plx_rules.specs.Machines.{Asks, IsTimely}
use Rattle.plx_rules.specs.Process.{Process, answered, bytes_out, standing}
use Rattle.plx_lease.specs.Renewing.{renewal_ask, renewal_rest}
use Rattle.plx_session.proofs.Machines.{image-asks, image-fails}
use Rattle.plx_session.specs.Works.{image_leased}
use Rattle.plx_session.specs.declared.work.ImageWork.{ImageWork}
use Rattle.plx_appliance.specs.Detaches.{detach_rest}
use Rattle.plx_appliance.specs.Holding.{HoldsAs, DropsNothing, image_leases_after_write}
use Rattle.plx_appliance.specs.Lent.{Lent}
use Rattle.plx_appliance.specs.Renews.{IsRenewing, renew_rest}
use Rattle.plx_appliance.specs.Reserves.{HaveNoClaims, claiming_at, outer_of}
use Rattle.plx_appliance.specs.Retires.{retire_tells}
use Rattle.plx_appliance.specs.Tokens.{lease_holds_at}
use Rattle.plx_appliance.specs.Works.{Inside, work_rest}
use Rattle.plx_appliance.specs.declared.detach.Detach.{Detach}
use Rattle.plx_appliance.specs.declared.renew.Renew.{Renew}
use Rattle.plx_appliance.specs.declared.reserve.Reserve.{Reserve}
use Rattle.plx_appliance.specs.declared.retire.Retire.{Retire}
use Rattle.plx_appliance.specs.declared.work.Work.{Work}
use Rattle.plx_appliance.specs.declared.work.Work.TheVariants as work
use Rattle.plx_appliance.proofs.AttachAnswered.{attach-lawful}
use Rattle.plx_appliance.proofs.Failing.{kept-asks, same-ask}
use Rattle.plx_appliance.proofs.InHand.{FillsNone, spares-fills}
use Rattle.plx_appliance.proofs.Lawful.{IsLawful, WorkGoesOn, by-stays, kept-hand, same-space, spare-moved}
use Rattle.plx_appliance.proofs.Lengthened.{renewed-holds, renewed-inside}
use Rattle.plx_appliance.proofs.Moved.{release-holds-as}
use Rattle.plx_appliance.proofs.Renewed.{held-same}
use Rattle.plx_appliance.proofs.Reserved.{reserve-fills, reserve-hand, take-ask-stands, take-asks, reserve-holds, reserve-inside, take-fails}
use Rattle.plx_appliance.proofs.RetireAnswered.{ask-is, place-fills, retire-asks, retire-fails, retire-hand, retire-holds, retire-inside}

-- an answer that fits is within the limit of readings
pub fits-timely : (q : Ask) (a : Answer) → Fits q a → IsTimely a
fits-timely (ask.Read block) (answer.Bytes b) fits = tt
fits-timely (ask.Read block) answer.Done fits = absurd fits
fits-timely (ask.Read block) (answer.Reading r) fits = absurd fits
fits-timely (ask.Read block) (answer.Missed r) fits = absurd fits
fits-timely (ask.Read block) answer.Fault fits = tt
fits-timely (ask.Write k block guard) (answer.Bytes b) fits = tt
fits-timely (ask.Write k block guard) answer.Done fits = tt
fits-timely (ask.Write k block guard) (answer.Reading r) fits = absurd fits
fits-timely (ask.Write k block guard) (answer.Missed r) fits = fits.1
fits-timely (ask.Write k block guard) answer.Fault fits = tt
fits-timely ask.Clock (answer.Bytes b) fits = tt
fits-timely ask.Clock answer.Done fits = tt
fits-timely ask.Clock (answer.Reading r) fits = fits
fits-timely ask.Clock (answer.Missed r) fits = absurd fits
fits-timely ask.Clock answer.Fault fits = tt
fits-timely (ask.Until from) (answer.Bytes b) fits = tt
fits-timely (ask.Until from) answer.Done fits = tt
fits-timely (ask.Until from) (answer.Reading r) fits = fits.1
fits-timely (ask.Until from) (answer.Missed r) fits = absurd fits
fits-timely (ask.Until from) answer.Fault fits = tt

-- ---- a detach

-- its ask
abbrev release_ask : Detach → Ask
release_ask d = ask.Write kind.Release (record { 0 = lease_at (image_lease d.image.slot.0) }) d.image.until

release-spares : (lent : Lent) (d : Detach) (q : Ask) → Some q ≡ standing (detach_rest lent.known d) → SparesHand q
release-spares lent d q stands = subst (λ (r : Ask). SparesHand r) (sym (same-ask q (release_ask d) stands)) tt

detach-lawful : (d : Detach) → IsLawful (work.Detach d)
detach-lawful d = record {
  asks = λ lent. tt;
  fails = λ lent. (λ h. h, λ reading h. h);
  starts = λ g leases extents holds sample same starts agrees clean. tt;
  leases = λ g lent later new q a holds sample found result same space suits stands spare fits h i m.
      let image = d.image.slot.0 in
      let within : image < g.images = subst (λ (k : Geometry). image < k.images) same d.image.inside in
      let e : release_ask d ≡ q = sym (same-ask q (release_ask d) stands) in
      same-space g q a (image_leases_after_write q a later.leases) (after_answer sample q d.spelled a holds) lent.space later.space m.1
      (subst (λ (r : Ask). HoldsAs g (image_leases_after_write r a later.leases) (image_leases_after_write r a (extents_of lent.space)) (after_answer sample r d.spelled a holds)) e
      (release-holds-as g image d.image.until d.spelled a lent.leases later.leases (extents_of lent.space) holds sample within (subst (λ (r : Ask). Fits r a) (sym e) fits) h m.0.moves));
  inside = λ g lent later new q a holds sample found result same space suits stands spare fits h i m none goes.
      by-stays (λ w. Inside w (after_answer sample q (bytes_out (work_rest lent (work.Detach d))) a holds) (sample_of a) (found_by q a)) m.0 (λ x moves. tt);
  hand = λ g lent later new q a holds sample found result same space after stands spare i own left m.
      kept-hand g lent later q _ a found (release-spares lent d q stands) own left (ap hand_numbers m.1);
  fills = λ lent q stands spare. spares-fills q (release-spares lent d q stands);
}

-- ---- a command of an attached image

image-lawful : (w : ImageWork) → IsLawful (work.Image w)
image-lawful w = record {
  asks = λ lent. image-asks lent.known w;
  fails = λ lent. image-fails lent.known w;
  starts = λ g leases extents holds sample same starts agrees clean. tt;
  leases = λ g lent later new q a holds sample found result same space suits stands spare fits h i m.
      same-space g q a (image_leases_after_write q a later.leases) (after_answer sample q (bytes_out (work_rest lent (work.Image w))) a holds) lent.space later.space m.1
      (spare-moved g (image_leased w).setting.geometry q _ a lent.leases later.leases (extents_of lent.space) holds sample same spare.0 h m.0.moves);
  inside = λ g lent later new q a holds sample found result same space suits stands spare fits h i m none goes.
      by-stays (λ w'. Inside w' (after_answer sample q (bytes_out (work_rest lent (work.Image w))) a holds) (sample_of a) (found_by q a)) m.0 (λ x moves. tt);
  hand = λ g lent later new q a holds sample found result same space after stands spare i own left m.
      kept-hand g lent later q _ a found spare.1 own left (ap hand_numbers m.1);
  fills = λ lent q stands spare. spares-fills q spare.1;
}

-- ---- a renew

renewal-spares : (lent : Lent) (r : Renew) (q : Ask) → Some q ≡ standing (renew_rest lent.known r) → SparesHand q
renewal-spares lent r q stands = subst (λ (x : Ask). SparesHand x) (sym (same-ask q (renewal_ask r.renewal) stands)) tt

renew-lawful : (old : Renew) → IsLawful (work.Renew old)
renew-lawful old = record {
  asks = λ lent. tt;
  fails = λ lent. (λ h. h, λ reading h. h);
  starts = λ g leases extents holds sample same starts agrees clean.
      held-same 0 (lease_count old.setting.geometry) (λ lease. lease_holds_at old.setting.geometry leases extents (lease_at lease)) (λ lease. holds (lease_at lease))
      (old.left.items ++ old.renewal ∷ []) starts (λ lease below.
      agrees lease (subst (λ (k : Geometry). lease < lease_count k) same below) ∙ ap (λ (k : Geometry). lease_holds_at k leases extents (lease_at lease)) (sym same));
  leases = λ g lent later new q a holds sample found result same space suits stands spare fits h i m.
      let e : renewal_ask old.renewal ≡ q = sym (same-ask q (renewal_ask old.renewal) stands) in
      let bytes = bytes_out (renewal_rest old.renewal) in
      subst (λ (r : Ask). HoldsAs g (image_leases_after_write r a later.leases) (image_leases_after_write r a (extents_of later.space)) (after_answer sample r bytes a holds)) e
      (renewed-holds g old m.now a lent later holds sample result same (subst (λ (r : Ask). Fits r a) (sym e) fits) h i m.moves);
  inside = λ g lent later new q a holds sample found result same space suits stands spare fits h i m none goes.
      let e : renewal_ask old.renewal ≡ q = sym (same-ask q (renewal_ask old.renewal) stands) in
      let bytes = bytes_out (renewal_rest old.renewal) in
      by-stays (λ w. Inside w (after_answer sample q bytes a holds) (sample_of a) (found_by q a)) m
      (λ x moves. subst (λ (r : Ask). IsRenewing x (λ lease. after_answer sample r bytes a holds (lease_at lease))) e
      (renewed-inside old x a lent later holds sample result (subst (λ (r : Ask). Fits r a) (sym e) fits) i moves none));
  hand = λ g lent later new q a holds sample found result same space after stands spare i own left m.
      kept-hand g lent later q _ a found (renewal-spares lent old q stands) own left m.moves.hand;
  fills = λ lent q stands spare. spares-fills q (renewal-spares lent old q stands);
}

-- ---- a reserve

-- a take that begins reads a map, and no claim is under way
starts-taking : (g : Geometry) (place : ReserveAt) (m : Take) (holds : ℕ → Hold) (sample : Option ℕ) → ReadsFirst place → HaveNoClaims g holds →
    claiming_at place g m holds sample × tells_at place g m None
starts-taking g at.Map m holds sample reads clean = (clean, tt)
starts-taking g at.Look m holds sample reads clean = (clean, tt)
starts-taking g at.Write m holds sample reads clean = absurd reads
starts-taking g at.Claim m holds sample reads clean = absurd reads
starts-taking g at.Damaged m holds sample reads clean = absurd reads

reserve-lawful : (old : Reserve) → IsLawful (work.Reserve old)
reserve-lawful old = record {
  asks = λ lent. take-asks (outer_of old.setting lent.known.sessions) lent.space old.work.at old.work;
  fails = λ lent. take-fails (outer_of old.setting lent.known.sessions) lent.space old.work.at old.work;
  starts = λ g leases extents holds sample same starts agrees clean.
      let begins = starts-taking old.setting.geometry old.work.at old.work holds sample starts (λ extent within. clean (lease_at (extent_lease old.setting.geometry extent))) in
      record { claim = begins.0; tells = begins.1 };
  leases = λ g lent later new q a holds sample found result same space suits stands spare fits h i m.
      reserve-holds g lent later old m.now q a holds sample found result same space suits stands spare fits h i m.moves;
  inside = λ g lent later new q a holds sample found result same space suits stands spare fits h i m none goes.
      let own = subst (λ w. WorkGoesOn g later w) m.is goes in
      subst (λ w. Inside w (after_answer sample q (bytes_out (work_rest lent (work.Reserve old))) a holds) (sample_of a) (found_by q a)) (sym m.is)
      (reserve-inside g lent later old m.now q a holds sample found result same space suits stands spare fits h i m.moves none own.setting own.space own.suits);
  hand = λ g lent later new q a holds sample found result same space after stands spare i own left m.
      let hand = reserve-hand g lent later old m.now q a holds sample found result same space stands i left m.moves in
      record { within = hand.0; held = hand.1 };
  fills = λ lent q stands spare. subst (λ (x : Ask). FillsNone x) (take-ask-stands lent old q stands) (reserve-fills old.work.at old.work);
}

-- ---- a retire

retire-lawful : (old : Retire) → IsLawful (work.Retire old)
retire-lawful old = record {
  asks = λ lent. retire-asks lent old.stage old;
  fails = λ lent. retire-fails lent old.stage old;
  starts = λ g leases extents holds sample same starts agrees clean. starts None;
  leases = λ g lent later new q a holds sample found result same space suits stands spare fits h i m.
      retire-holds g lent later old m.now q a holds sample result same space suits stands fits h m.moves;
  inside = λ g lent later new q a holds sample found result same space suits stands spare fits h i m none goes.
      let own = subst (λ w. WorkGoesOn g later w) m.is goes in
      subst (λ w. Inside w (after_answer sample q (bytes_out (work_rest lent (work.Retire old))) a holds) (sample_of a) (found_by q a)) (sym m.is)
      (subst (λ (k : Geometry). retire_tells k m.now.stage (found_by q a)) (sym own.setting) (retire-inside g lent later old m.now q a result own.space stands fits m.moves none));
  hand = λ g lent later new q a holds sample found result same space after stands spare i own left m.
      let hand = retire-hand g lent later old m.now q a found result space after stands (subst (λ (k : Geometry). retire_tells k old.stage found) same i) own left m.moves in
      record { within = hand.0; held = hand.1 };
  fills = λ lent q stands spare. subst (λ (x : Ask). FillsNone x) (ask-is lent old q stands) (place-fills old.stage);
}

-- ---- all machines

pub lawful : (w : Work) → IsLawful w
lawful (work.Attach a) = attach-lawful a
lawful (work.Detach d) = detach-lawful d
lawful (work.Image w) = image-lawful w
lawful (work.Renew r) = renew-lawful r
lawful (work.Reserve r) = reserve-lawful r
lawful (work.Retire r) = retire-lawful r

-- where one goes on, what is held stays
pub work-kept : (lent later : Lent) (w new : Work) (q : Ask) (a : Answer) → Some q ≡ standing (work_rest lent w) → work_rest later new ≡ answered (work_rest lent w) a → DropsNothing q a
work-kept lent later w new q a stands is =
    kept-asks (work_rest lent w) q a stands ((lawful w).fails lent) (subst (λ (process : Process End). Asks process) is ((lawful new).asks later))
