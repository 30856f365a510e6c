-- An attach that was answered: what is kept of the leases, and how far its claim has come.
use Rattle.std.proofs.Common.{◌≡◌, ℕ, ◌<◌, List, Option, Some, None, sym, ap, ◌∙◌, subst, arith}
use Rattle.plx_base.specs.declared.lease.Claim.{Claim}
use Rattle.plx_base.specs.declared.numbers.SlotNo.{SlotNo}
use Rattle.plx_commands.specs.declared.reply.Reply.{Reply}
use Rattle.plx_disk.specs.declared.ask.Ask.{Ask}
use Rattle.plx_disk.specs.declared.ask.Answer.{Answer}
use Rattle.plx_geom.specs.Geometry.{Geometry, image_lease, lease_at, lease_count}
use Rattle.plx_alloc.specs.Asking.{SparesHand}
use Rattle.plx_alloc.specs.Tables.{hand_numbers}
use Rattle.plx_alloc.specs.Tables.{extent_leases as extents_of}
use Rattle.plx_rules.specs.Boot.{Fits}
use Rattle.plx_rules.specs.Hands.{found_by}
use Rattle.plx_rules.specs.Holds.{Hold, Nothing, after_answer, sample_of}
use Rattle.plx_rules.specs.Machines.{Asks, AsksOnly}
use Rattle.plx_rules.specs.Process.{bytes_out, standing}
use Rattle.plx_rules.specs.Session.{Known}
use Rattle.plx_rules.proofs.Nested.{asks-followed, bytes-followed, standing-followed}
use Rattle.plx_lease.specs.Claiming.{claim_rest}
use Rattle.plx_lease.specs.Holding.{IsSampled, LeavesClaim, claim_ask_at, claim_ask, claim_hold}
use Rattle.plx_lease.specs.declared.claim.ClaimAt.{ClaimAt}
use Rattle.plx_lease.specs.declared.claim.ClaimAt.TheVariants as claim
use Rattle.plx_lease.specs.declared.claim.LeaseClaim.{LeaseClaim}
use Rattle.plx_lease.specs.declared.claim_end.ClaimEnd.{ClaimEnd as End'}
use Rattle.plx_lease.proofs.Asking.{claim-asks}
use Rattle.plx_lease.proofs.Held.{claim-holds, claim-standing}
use Rattle.plx_session.proofs.Machines.{EndsOnFailure, load-asks, load-fails}
use Rattle.plx_token.specs.declared.kind.Image.{Image}
use Rattle.plx_appliance.specs.Attaches.{ImageClaimMoves, IsClaiming, attach_inside, attach_moves, attach_rest, attach_setting, attach_spares, attach_starts}
use Rattle.plx_appliance.specs.Holding.{HoldsAs, hold_without_claim, image_leases_after_write}
use Rattle.plx_appliance.specs.Tokens.{lease_holds_at}
use Rattle.plx_appliance.specs.Works.{Inside, work_rest}
use Rattle.plx_appliance.specs.declared.attach.Attach.{Attach}
use Rattle.plx_appliance.specs.declared.attach.Attach.TheVariants as attach
use Rattle.plx_appliance.specs.declared.attach.ImageClaim.{ImageClaim}
use Rattle.plx_appliance.specs.declared.work.Work.TheVariants as work
use Rattle.plx_appliance.proofs.Entered.{held-image}
use Rattle.plx_appliance.proofs.Failing.{claim-fails, same-ask}
use Rattle.plx_appliance.proofs.InHand.{spares-fills}
use Rattle.plx_appliance.proofs.Lawful.{IsLawful, by-stays, kept-hand, same-space, spare-moved}
use Rattle.plx_appliance.proofs.Moved.{claim-settled, claimed-others, holds-own, leaves-settled}

-- ---- where it stands

attach-asks : (known : Known) (a : Attach) → Asks (attach_rest known a)
attach-asks known (attach.Claim c) = asks-followed (claim_rest c.claim) _ (claim-asks c.claim)
attach-asks known (attach.Load l) = load-asks l.at known l

attach-fails : (known : Known) (a : Attach) → EndsOnFailure (attach_rest known a)
attach-fails known (attach.Claim c) = claim-fails c.claim.at c.claim _ (λ h. h) (λ due reading h. h)
attach-fails known (attach.Load l) = load-fails l.at known l

-- the claim of an attach that begins
starts-inside : (g : Geometry) (leases extents : ℕ → Hold) (a : Attach) (holds : ℕ → Hold) (sample : Option ℕ) → (attach_setting a).geometry ≡ g → attach_starts leases a →
    ((lease : ℕ) → lease < lease_count g → holds (lease_at lease) ≡ lease_holds_at g leases extents (lease_at lease)) → attach_inside a holds sample
starts-inside g leases extents (attach.Claim c) holds sample same starts agrees =
    let slot = c.slot.0 in
    let within : slot < g.images = subst (λ (q : Geometry). slot < q.images) same c.inside in
    let hold : holds (lease_at (image_lease slot)) ≡ Nothing =
    agrees (image_lease slot) (omega (arith, within)) ∙ held-image g leases extents slot within ∙ starts.none in
    record { number = starts.number; hold = ap (λ (n : ℕ). holds (lease_at n)) starts.number ∙ hold ∙ sym starts.fresh; sampled = starts.sampled sample }
starts-inside g leases extents (attach.Load l) holds sample same starts agrees = tt

-- ---- once it was answered

-- how far a claim has come once it was answered
claim-own : (old : ImageClaim) (new : Attach) (a : Answer) (before after holds : ℕ → Hold) (sample : Option ℕ) (result : Option Reply) →
    (m : ImageClaimMoves old new a before after result) → IsClaiming old holds sample → Fits (claim_ask old.claim) a →
    LeavesClaim (after_answer sample (claim_ask old.claim) (bytes_out (claim_rest old.claim)) a holds (lease_at old.claim.number)) (sample_of a) m.claim m.end
claim-own old new a before after holds sample result m i fits = claim-holds old.claim m.claim m.end sample a holds i.sampled i.hold (m.hold fits)

claim-moved : (g : Geometry) (old : ImageClaim) (new : Attach) (a : Answer) (before after extents holds : ℕ → Hold) (sample : Option ℕ) (result : Option Reply) →
    old.setting.geometry ≡ g → Fits (claim_ask old.claim) a → AsksOnly (lease_at old.claim.number) (claim_ask old.claim) →
    HoldsAs g before extents holds → IsClaiming old holds sample → ImageClaimMoves old new a before after result →
    HoldsAs g (image_leases_after_write (claim_ask old.claim) a after) (image_leases_after_write (claim_ask old.claim) a extents) (after_answer sample (claim_ask old.claim) (bytes_out (claim_rest old.claim)) a holds)
claim-moved g old new a before after extents holds sample result same fits only h i m =
    let image = old.slot.0 in
    let q = claim_ask old.claim in
    let bytes = bytes_out (claim_rest old.claim) in
    let within : image < g.images = subst (λ (k : Geometry). image < k.images) same old.inside in
    let none : before image ≡ Nothing =
    sym (held-image g before extents image within) ∙ sym (h (image_lease image) (omega (arith, within))) ∙ ap (λ (n : ℕ). hold_without_claim (holds (lease_at n))) (sym i.number)
    ∙ ap hold_without_claim i.hold ∙ claim-settled old.claim in
    let own : hold_without_claim (after_answer sample q bytes a holds (lease_at (image_lease image))) ≡ after image =
    ap (λ (n : ℕ). hold_without_claim (after_answer sample q bytes a holds (lease_at n))) (sym i.number)
    ∙ leaves-settled m.claim m.end image before (after_answer sample q bytes a holds (lease_at old.claim.number)) (sample_of a) none (claim-own old new a before after holds sample result m i fits)
    ∙ sym (ap (λ (t : ℕ → Hold). t image) m.leases) in
    holds-own g image before after extents holds sample q bytes a within (subst (λ (n : ℕ). AsksOnly (lease_at n) q) i.number only) h own
    (λ other ne. ap (λ (t : ℕ → Hold). t other) m.leases ∙ claimed-others m.end image before other ne)

claim-inside : (old : ImageClaim) (new : Attach) (a : Answer) (before after holds : ℕ → Hold) (sample : Option ℕ) (result : Option Reply) →
    Fits (claim_ask old.claim) a → IsClaiming old holds sample → ImageClaimMoves old new a before after result → result ≡ None →
    attach_inside new (after_answer sample (claim_ask old.claim) (bytes_out (claim_rest old.claim)) a holds) (sample_of a)
claim-inside old (attach.Claim c) a before after holds sample result fits i m none =
    let now = after_answer sample (claim_ask old.claim) (bytes_out (claim_rest old.claim)) a holds in
    let on = m.goes_on none in
    let leaves = subst (λ (end : Option (End' Image)). LeavesClaim (now (lease_at old.claim.number)) (sample_of a) m.claim end) on.0
    (claim-own old (attach.Claim c) a before after holds sample result m i fits) in
    let number : c.claim.number ≡ m.claim.number = ap (λ (own : LeaseClaim Image). own.number) on.1 in
    record {
      number = number ∙ m.number ∙ i.number ∙ ap (λ (slot : SlotNo). image_lease slot.0) (sym on.2);
      hold = ap (λ (n : ℕ). now (lease_at n)) (number ∙ m.number) ∙ leaves.0 ∙ ap (λ (own : LeaseClaim Image). claim_hold own) (sym on.1);
      sampled = subst (λ (own : LeaseClaim Image). IsSampled own (sample_of a)) (sym on.1) leaves.1;
    }
claim-inside old (attach.Load l) a before after holds sample result fits i m none = tt

-- the ask of a claim is the one that stands
claim-ask-is : (known : Known) (old : ImageClaim) (q : Ask) → Some q ≡ standing (attach_rest known (attach.Claim old)) → claim_ask old.claim ≡ q
claim-ask-is known old q e = sym (same-ask q (claim_ask old.claim) (e ∙ standing-followed (claim_rest old.claim) _ (claim-asks old.claim) ∙ claim-standing old.claim))

attach-holds : (g : Geometry) (known : Known) (old new : Attach) (q : Ask) (a : Answer) (before after extents holds : ℕ → Hold) (sample : Option ℕ) (result : Option Reply) →
    (attach_setting old).geometry ≡ g → Some q ≡ standing (attach_rest known old) → attach_spares old q → Fits q a →
    HoldsAs g before extents holds → attach_inside old holds sample → attach_moves old new a before after result →
    HoldsAs g (image_leases_after_write q a after) (image_leases_after_write q a extents) (after_answer sample q (bytes_out (attach_rest known old)) a holds)
attach-holds g known (attach.Claim old) new q a before after extents holds sample result same stands spare fits h i m =
    let e = claim-ask-is known old q stands in
    let bytes = bytes_out (claim_rest old.claim) in
    subst (λ (bs : List ℕ). HoldsAs g (image_leases_after_write q a after) (image_leases_after_write q a extents) (after_answer sample q bs a holds)) (sym (bytes-followed (claim_rest old.claim) _ (claim-asks old.claim)))
    (subst (λ (r : Ask). HoldsAs g (image_leases_after_write r a after) (image_leases_after_write r a extents) (after_answer sample r bytes a holds)) e
    (claim-moved g old new a before after extents holds sample result same (subst (λ (r : Ask). Fits r a) (sym e) fits) (subst (λ (r : Ask). AsksOnly (lease_at old.claim.number) r) (sym e) spare) h i m))
attach-holds g known (attach.Load l) new q a before after extents holds sample result same stands spare fits h i m =
    spare-moved g l.image.setting.geometry q _ a before after extents holds sample same spare.0 h m.1

attach-comes : (known : Known) (old new : Attach) (q : Ask) (a : Answer) (before after holds : ℕ → Hold) (sample : Option ℕ) (result : Option Reply) →
    Some q ≡ standing (attach_rest known old) → Fits q a → attach_inside old holds sample → attach_moves old new a before after result → result ≡ None →
    attach_inside new (after_answer sample q (bytes_out (attach_rest known old)) a holds) (sample_of a)
attach-comes known (attach.Claim old) new q a before after holds sample result stands fits i m none =
    let e = claim-ask-is known old q stands in
    let bytes = bytes_out (claim_rest old.claim) in
    subst (λ (bs : List ℕ). attach_inside new (after_answer sample q bs a holds) (sample_of a)) (sym (bytes-followed (claim_rest old.claim) _ (claim-asks old.claim)))
    (subst (λ (r : Ask). attach_inside new (after_answer sample r bytes a holds) (sample_of a)) e
    (claim-inside old new a before after holds sample result (subst (λ (r : Ask). Fits r a) (sym e) fits) i m none))
attach-comes known (attach.Load l) (attach.Load new) q a before after holds sample result stands fits i m none = tt
attach-comes known (attach.Load l) (attach.Claim new) q a before after holds sample result stands fits i m none = absurd m.0

-- what a claim asks takes and gives back no block
claim-spares : (at : ClaimAt) (lease : ℕ) (c : Claim) → SparesHand (claim_ask_at at lease c)
claim-spares claim.Sample lease c = tt
claim-spares claim.Read lease c = tt
claim-spares claim.Damaged lease c = tt
claim-spares claim.Write lease c = tt
claim-spares claim.Wait lease c = tt
claim-spares claim.Reread lease c = tt
claim-spares claim.DamagedLate lease c = tt

attach-asked : (known : Known) (old : Attach) (q : Ask) → Some q ≡ standing (attach_rest known old) → attach_spares old q → SparesHand q
attach-asked known (attach.Claim old) q stands spare =
    subst (λ (r : Ask). SparesHand r) (claim-ask-is known old q stands) (claim-spares old.claim.at old.claim.number old.claim.claim)
attach-asked known (attach.Load l) q stands spare = spare.1

-- ---- all that holds of it

pub attach-lawful : (old : Attach) → IsLawful (work.Attach old)
attach-lawful old = record {
  asks = λ lent. attach-asks lent.known old;
  fails = λ lent. attach-fails lent.known old;
  starts = λ g leases extents holds sample same starts agrees clean. starts-inside g leases extents old holds sample same starts agrees;
  leases = λ g lent later new q a holds sample found result same space suits stands spare fits h i m.
      let now = after_answer sample q (bytes_out (work_rest lent (work.Attach old))) a holds in
      same-space g q a (image_leases_after_write q a later.leases) now lent.space later.space m.1
      (attach-holds g lent.known old m.0.now q a lent.leases later.leases (extents_of lent.space) holds sample result same stands spare fits h i m.0.moves);
  inside = λ g lent later new q a holds sample found result same space suits stands spare fits h i m none goes.
      by-stays (λ w. Inside w (after_answer sample q (bytes_out (work_rest lent (work.Attach old))) a holds) (sample_of a) (found_by q a)) m.0
      (λ x moves. attach-comes lent.known old x q a lent.leases later.leases holds sample result stands fits i moves none);
  hand = λ g lent later new q a holds sample found result same space after stands spare i own left m.
      kept-hand g lent later q _ a found (attach-asked lent.known old q stands spare) own left (ap hand_numbers m.1);
  fills = λ lent q stands spare. spares-fills q (attach-asked lent.known old q stands spare);
}
