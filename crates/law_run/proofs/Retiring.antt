-- Retires.
use Rattle.std.proofs.Common.{◌≡◌, ◌≢◌, ℕ, zero, suc, ◌+◌, ◌*◌, ◌≤◌, ◌<◌, List, [], ◌∷◌, ◌++◌, Bool, true, false, Option, Some, None, refl, sym, subst, ◌∙◌, arith, inl, inr, ◌⊎◌}
use Rattle.std.proofs.lemmas.Bool.Decides.{eqb_tells, leb_tells}
use Rattle.plx_base.specs.declared.lease.Claim.{Claim}
use Rattle.plx_base.specs.declared.lease.LeaseRecord.TheVariants as lease_is
use Rattle.plx_base.specs.declared.write_kind.WriteKind.TheVariants as kind
use Rattle.plx_commands.specs.declared.command.Command.TheVariants.{Retire}
use Rattle.plx_commands.specs.declared.reply.Reply.{Reply}
use Rattle.plx_commands.specs.declared.reply.Reply.TheVariants as reply
use Rattle.plx_disk.specs.declared.ask.Ask.TheVariants as ask
use Rattle.plx_disk.specs.declared.ask.Answer.TheVariants as answer
use Rattle.plx_gate.specs.Leases.{lease_bytes}
use Rattle.plx_geom.proofs.Places.{image-below, extent-below}
use Rattle.plx_geom.specs.Geometry.{IsGeometry, lease_count, root_lease, image_lease, extent_lease, lease_at, map_at}
use Rattle.plx_rules.specs.Process.{Process}
use Rattle.plx_rules.specs.Commands.{command_process}
use Rattle.plx_rules.specs.Ends.{End, ends}
use Rattle.plx_rules.specs.Holds.{Hold, Nothing, Seen, Wrote, Waited, Held}
use Rattle.plx_rules.specs.Rests.{extent_of}
use Rattle.plx_rules.specs.InUse.{lease_name}
use Rattle.plx_rules.specs.Session.{Session, Known}
use Rattle.plx_rules.specs.Settings.{Setting}
use Rattle.plx_rules.specs.Space.{retire_lease, retire_images, retire_process}
use Rattle.law_run.specs.AllowedAsks.{release_of_lease}
use Rattle.law_run.specs.CommandLogs.{Exchange, Finished, IsIn, first_reading}
use Rattle.law_run.specs.Holdings.{hold_by_log, hand_by_log, claims_in, claims_begun, begins_claim}
use Rattle.law_run.specs.OnHand as on_hand
use Rattle.law_run.specs.Replies.{in_map}
use Rattle.law_run.specs.Rules.{AllKept}
use Rattle.law_run.specs.Sessions.{attached_by, is_attached}
use Rattle.law_run.proofs.Asking.{replied-fine, asks-write, unwritten-shows, missed-shows}
use Rattle.law_run.proofs.Hands.{HasBlock, none-has, held-is, hand-is-held, hand-in-extents}
use Rattle.law_run.proofs.HandMaps.{hand-no-maps}
use Rattle.law_run.proofs.Holding.{Spared, spared-more, hold-after-first, first-more, claims-more, reads-no-claim}
use Rattle.law_run.proofs.Meets.{exchange, meets-more, Meets}
use Rattle.law_run.proofs.OnExtent.{retire-fine, map-no-lease, bad-map, rests-still}
use Rattle.law_run.proofs.GivingUp.{Endings, retire_asks, retire-asks-are, retires}
use Rattle.law_run.proofs.OnHand.{Along, GivenBack, PastExtent, Retiring, no-claim, passed-over, released, retires-none, same-leases}
use Rattle.law_run.proofs.OnHandEnds.{lost-comes, map-damaged}
use Rattle.law_run.proofs.Following.{meets-two}
use Rattle.law_run.proofs.Rests.{KeepsHolds, rests-lost}
use Rattle.law_run.specs.Uses as uses
use Rattle.law_run.specs.Uses.{AreUsed, IsOfCommand}
use Rattle.law_run.proofs.Uses.{claims_at}
use Rattle.law_run.proofs.Right.{clock, read_of, FitsAt, Rests, finish, log_on, Shows, Right, MayByRules, MayByCauses}
use Rattle.law_run.proofs.RetireFollows.{image_asks, retire-follows}
use Rattle.law_run.proofs.Runs.{start, hand_start}
use Rattle.law_run.specs.Senses.{IsAny}
use Rattle.plx_base.proofs.Tests.{clash}
use Rattle.law_lease.proofs.Rests.{in-one, lease-place-found}

-- those of extents, and those of images before this one
abbrev PastImage : Setting → (image lease : ℕ) → Type 0
PastImage s image lease = (extent_lease s.geometry 0 ≤ lease) ⊎ ((1 ≤ lease) × (lease < image_lease image))

image-asks-are : (left n : ℕ) → image_asks left n ≡ left + n
image-asks-are zero n = omega arith
image-asks-are (suc left) n = let e = image-asks-are left n in omega arith

module _ (s : Setting) (geometry : IsGeometry s.geometry) (before : List Finished) (known : Known) (reading : ℕ) (rests : Rests s before known) (older : AllKept s IsAny before) where
  -- its first exchange
  abbrev from : List Exchange
  from = clock reading ∷ []

  -- the leases of attached images are spared
  abbrev Spares : ℕ → Type 0
  Spares l = (image : ℕ) × (l ≡ image_lease image) × (is_attached before image ≡ true)

  abbrev Work : (P K : ℕ → Type 0) → (own : List Exchange) → Type 0
  Work P K own = Retiring s before from Spares P K own

  abbrev MeetsRetiring : (own : List Exchange) → Process End → ℕ → Type 0
  MeetsRetiring own process n = Meets (MayByRules s before Retire) (Shows s before Retire) (own ++ from) process n

  -- the blocks in hand are of extents of the geometry
  within : (b : ℕ) → HasBlock (hand_start s before reading) b → extent_of s.geometry b < s.geometry.extents
  within b has = hand-in-extents s before Retire from older ((tt, tt), tt) b has

  -- ---- ends

  -- its first reading, and the claims that the boot has begun
  first : (own : List Exchange) → Along s before from Spares own → first_reading (own ++ from) ≡ Some reading
  first own a = a.first reading refl

  claims : (own : List Exchange) (x : Exchange) → Along s before from Spares own → begins_claim s.geometry x.ask (own ++ from) ≡ false → known.claims ≡ claims_in s.geometry (x ∷ own ++ from) + claims_begun s.geometry before
  claims own x a unread = let c = rests.claims in let m = claims-more s.geometry (own ++ from) x unread in let b = a.begun in omega arith

  leases-spared : (own : List Exchange) → Along s before from Spares own → Spared s before (own ++ from) s.geometry.images
  leases-spared own a other apart below attached held =
      (held.0, held.1, a.spared other below (other, refl, attached) ∙ hold-after-first s before reading other held.0 held.1 below attached held.2)

  -- a reply that leaves what is known
  still : (done : List Exchange) (r : Reply) → ((other : ℕ) (b : Bool) → attached_by r Retire other b ≡ b) → KeepsHolds r → Spared s before done s.geometry.images →
      known.claims ≡ claims_in s.geometry done + claims_begun s.geometry before → Rests s (finish Retire done r ∷ before) known
  still done r none keeps spared claims =
      rests-still s before Retire done r known known (λ other. refl) (λ other. refl) none keeps spared claims rests

  -- no claim was written
  unclaimed : (own : List Exchange) (x : Exchange) → Along s before from Spares own → claims_at x.ask ≡ false → (block guard : ℕ) (bytes : List ℕ) →
      ¬ IsIn (exchange (ask.Write kind.Claim (record { 0 = block }) guard) bytes answer.Done) (x ∷ own ++ from)
  unclaimed own x a none block guard bytes (inl here) = no-claim x none block guard bytes (sym here)
  unclaimed own x a none block guard bytes (inr there) = elim (a.unclaimed block guard bytes there) [ inl e ↦ no-claim (clock reading) refl block guard bytes (sym e) | inr nowhere ↦ nowhere ]

  -- so it uses no lease
  unused : (own : List Exchange) (x : Exchange) → Along s before from Spares own → claims_at x.ask ≡ false → AreUsed s (log_on before Retire (x ∷ own ++ from)) []
  unused own x a none = record { sound = λ one there. absurd there; complete = λ one u. by-command one.lease u.of }
    where
      by-command : (l : ℕ) → ¬ IsOfCommand s (log_on before Retire (x ∷ own ++ from)) l
      by-command l (uses.named image below named is) = let P : ⊥ = cc in P
      by-command l (uses.claimed claim below was) = unclaimed own x a none (lease_at l) _ _ was

  endings : Endings s before from Spares [] known (Shows s before Retire)
  endings = record {
    unread = λ own extent a below. (
        let x = exchange (ask.Read (record { 0 = map_at s.geometry extent })) [] answer.Fault in
        let r = reply.ReadFault (record { 0 = map_at s.geometry extent }) in (
          replied-fine s before Retire reading (retire-fine s before reading) (x ∷ own ++ from) (first-more (own ++ from) x reading (first own a)) r (own ++ from, refl),
          still (x ∷ own ++ from) r (λ other b. refl) (λ h. refl) (spared-more s before (own ++ from) x s.geometry.images a.has (λ other apart. tt) (leases-spared own a))
              (claims own x a (reads-no-claim s.geometry (map_at s.geometry extent) (own ++ from) (map-no-lease s.geometry extent))),
        ));
    unwritten = λ own k block until bytes a.
        unwritten-shows s before known Retire reading (retire-fine s before reading) (own ++ from) until k block bytes (first own a)
        (claims own (exchange (ask.Write k (record { 0 = block }) until) bytes answer.Fault) a refl);
    missed = λ own k extent block until bytes last a below needs.
        missed-shows s before known Retire reading (retire-fine s before reading) (own ++ from) (extent_lease s.geometry extent) until k block bytes last (first own a)
        (claims own (exchange (ask.Write k (record { 0 = block }) until) bytes (answer.Missed last)) a refl) (extent-below s.geometry extent below) (needs Retire);
    reached = λ own extent until last claim bytes due a below none held found. (
        let own1 = read_of (map_at s.geometry extent) bytes ∷ own in
        let done = clock last ∷ own1 ++ from in (
          replied-fine s before Retire reading (retire-fine s before reading) done (first-more (own1 ++ from) (clock last) reading (first own1 a)) (reply.Lost (lease_name s.geometry due.lease) due.until last)
              (lost-comes s geometry (log_on before Retire done) [] due last (unused own1 (clock last) a refl)
              (on_hand.reached extent until claim bytes (own ++ from) below refl none held found)),
          rests-lost s before Retire done (lease_name s.geometry due.lease) due.until last known.claims (claims own1 (clock last) a (bad-map s.geometry (map_at s.geometry extent) bytes none)),
        ));
    damaged = λ own extent until last claim bytes a below none held found. (
        let own1 = read_of (map_at s.geometry extent) bytes ∷ own in
        let done = clock last ∷ own1 ++ from in
        let r = reply.Damaged (record { 0 = map_at s.geometry extent }) in (
          replied-fine s before Retire reading (retire-fine s before reading) done (first-more (own1 ++ from) (clock last) reading (first own1 a)) r
              (in_map (map-damaged s (log_on before Retire done) [] extent until last claim bytes (own ++ from) refl none held found)),
          still done r (λ other b. refl) (λ h. refl) (spared-more s before (own1 ++ from) (clock last) s.geometry.images a.has (λ other apart. tt) (leases-spared own1 a)) (claims own1 (clock last) a (bad-map s.geometry (map_at s.geometry extent) bytes none)),
        ));
  }

  -- what is met with so many answers left is met with one more
  more : (n : ℕ) (process : Process End) (own : List Exchange) → MeetsRetiring own process n → MeetsRetiring own process (suc n)
  more n process own right = meets-more (MayByRules s before Retire) (Shows s before Retire) process (own ++ from) n right

  -- ---- the leases of images, and the root's

  -- the lease of an attached image is one of the geometry's
  attached-below : (image : ℕ) → is_attached before image ≡ true → image < s.geometry.images
  attached-below image attached = by-session (known.sessions image) (rests.sessions image)
    where
      by-session : (found : Option Session) → FitsAt s before image found → image < s.geometry.images
      by-session None fits = absurd (clash (is_attached before image) attached fits)
      by-session (Some session) fits = fits.1.within

  -- a lease that no attached image has is released where it is held
  right-lease : (P Q K : ℕ → Type 0) (own : List Exchange) (l n : ℕ) (hold : Hold) (rest : Process End) → l < lease_count s.geometry → Work P K own → hold_by_log s before (own ++ from) l ≡ hold →
      ((other : ℕ) → P other → Q other) → ((other : ℕ) → Q other → P other ⊎ (other ≡ l)) → Q l → ((image : ℕ) → image < s.geometry.images → is_attached before image ≡ true → image_lease image ≢ l) →
      ((own' : List Exchange) → Work Q K own' → MeetsRetiring own' rest n) → MeetsRetiring own (retire_lease s known l None hold rest) (suc n)
  right-lease P Q K own l n hold rest below r held wider split here free right = by-hold hold held
    where
      unheld : ((claim : Claim) (until : ℕ) → ¬ (hold_by_log s before (own ++ from) l ≡ Held claim until)) → MeetsRetiring own rest (suc n)
      unheld none = more n rest own (right own (passed-over s before from Spares within P Q K own l r wider split (λ claim until h. absurd (none claim until h))))

      by-hold : (hold' : Hold) → hold_by_log s before (own ++ from) l ≡ hold' → MeetsRetiring own (retire_lease s known l None hold' rest) (suc n)
      by-hold (Held claim until) is =
          asks-write (MayByRules s before Retire) s before known Retire reading (retire-fine s before reading) (own ++ from) l until kind.Release (lease_at l) (lease_bytes lease_is.Free) rest n (first own r.along)
          (let c = rests.claims in let b = r.along.begun in omega arith) (λ y e. claims-more s.geometry (own ++ from) y (rw e refl)) below (in-one l _ (sym (lease-place-found l)))
          (r.along.went, release_of_lease l claim below refl is refl)
          (right _ (released s before from Spares within P Q K own l until r wider split here
          (λ image less spare e. free spare.0 (attached-below spare.0 spare.2) spare.2 (sym spare.1 ∙ e))))
      by-hold Nothing is = unheld (λ claim until h. (let P : ⊥ = cc in P))
      by-hold (Seen sample) is = unheld (λ claim until h. (let P : ⊥ = cc in P))
      by-hold (Wrote c u) is = unheld (λ claim until h. (let P : ⊥ = cc in P))
      by-hold (Waited c u) is = unheld (λ claim until h. (let P : ⊥ = cc in P))

  split-image : (image other : ℕ) → PastImage s (image + 1) other → PastImage s image other ⊎ (other ≡ image_lease image)
  split-image image other (inl extents) = inl (inl extents)
  split-image image other (inr p) = elim (leb_tells (suc other) (image_lease image)) [
    | inl less ↦ inl (inr (p.0, less.1))
    | inr less' ↦ inr (omega (arith, p.1, less'.1))
  ]

  wider-image : (image other : ℕ) → PastImage s image other → PastImage s (image + 1) other
  wider-image image other (inl extents) = inl extents
  wider-image image other (inr p) = inr (p.0, omega (arith, p.1))

  -- the images from one on
  images : (K : ℕ → Type 0) (left image : ℕ) (own : List Exchange) (n : ℕ) (rest : Process End) → left + image ≡ s.geometry.images → Work (PastImage s image) K own →
      ((own' : List Exchange) → Work (PastImage s s.geometry.images) K own' → MeetsRetiring own' rest n) →
      MeetsRetiring own (retire_images s known (start s before reading) left image rest) (image_asks left n)
  images K zero image own n rest all r right =
      right own (subst (λ i. Work (PastImage s i) K own) (let e : image ≡ s.geometry.images = omega arith in e) r)
  images K (suc left) image own n rest all r right =
      by-session (known.sessions image) (rests.sessions image) (start s before reading (lease_at (image_lease image)))
      (r.later (image_lease image) (image-below s.geometry image (omega arith)) (not-yet image (omega arith)))
      (λ own' r'. images K left (image + 1) own' n rest (omega arith) r' right)
    where
      tail : Process End
      tail = retire_images s known (start s before reading) left (image + 1) rest

      not-yet : (i : ℕ) → i < s.geometry.images → ¬ PastImage s i (image_lease i)
      not-yet i below (inl extents) = omega (arith, below, extents)
      not-yet i below (inr p) = omega (arith, p.1)

      by-session : (found : Option Session) → FitsAt s before image found → (hold : Hold) → hold_by_log s before (own ++ from) (image_lease image) ≡ hold →
          ((own' : List Exchange) → Work (PastImage s (image + 1)) K own' → MeetsRetiring own' tail (image_asks left n)) →
          MeetsRetiring own (retire_lease s known (image_lease image) found hold tail) (suc (image_asks left n))
      by-session None fits hold is next =
          right-lease (PastImage s image) (PastImage s (image + 1)) K own (image_lease image) (image_asks left n) hold tail (image-below s.geometry image (omega arith)) r is
          (wider-image image) (split-image image) (inr (omega arith, omega arith))
          (λ other less attached e. clash (is_attached before image) (subst (λ i. is_attached before i ≡ true) (let same : other ≡ image = omega (arith, e) in same) attached) fits) next
      by-session (Some session) fits hold is next =
          more (image_asks left n) tail own
          (next own (passed-over s before from Spares within (PastImage s image) (PastImage s (image + 1)) K own (image_lease image) r (wider-image image) (split-image image) (λ claim until h. (image, refl, fits.0))))

  -- all leases are given up
  all-retired : (K : ℕ → Type 0) (own : List Exchange) → Work (λ l. Unit {0}) K own → MeetsRetiring own (ends reply.Retired known) 0
  all-retired K own r = (
    replied-fine s before Retire reading (retire-fine s before reading) (own ++ from) (first own r.along) reply.Retired (record {
      command = refl;
      empty = none-has (hand_by_log s before (own ++ from)) (λ b has. (
          let e = extent_of s.geometry b in
          let below = within b (r.fewer b has) in
          let held = held-is _ (hand-is-held s before (own ++ from) b r.along.has has) in
          let spare = r.given (extent_lease s.geometry e) held.0 held.1 (extent-below s.geometry e below) tt held.2 in
          let i = attached-below spare.0 spare.2 in
          omega (arith, spare.1, i)));
      released = λ l claim until below held. r.given l claim until below tt held;
    }),
    still (own ++ from) reply.Retired (λ other b. refl) (λ h. refl) (leases-spared own r.along) (let c = rests.claims in let b = r.along.begun in omega arith),
  )

  allowed-retire : Meets (MayByRules s before Retire) (Shows s before Retire) from (retire_process s known (start s before reading) (hand_start s before reading)) (retire_asks s.geometry.extents (image_asks s.geometry.images 1))
  allowed-retire =
      retires s before from Spares within geometry.blocks_high (omega (arith, geometry.blocks_low)) Retire [] known (MayByRules s before Retire) (Shows s before Retire) (hand-no-maps s before Retire from older ((tt, tt), tt)) (λ done a bytes may place. may) endings
      (start s before reading) (λ extent below. refl) (hand_start s before reading) refl (λ done a bytes extent may below place. may)
      s.geometry.extents 0 [] (image_asks s.geometry.images 1) _ (omega arith)
      (retires-none s before from Spares within tt (tt, tt) (PastExtent s 0) (GivenBack 0) (λ l below p. omega (arith, p.0, p.1)) (λ e k. omega (arith, k)))
      (λ own1 r1. images (GivenBack s.geometry.extents) s.geometry.images 0 own1 1 _ (omega arith)
      (same-leases s before from Spares within (PastExtent s s.geometry.extents) (PastImage s 0) (GivenBack s.geometry.extents) own1 r1 (λ l p. inl p.0) from-images)
      (λ own2 r2. right-lease (PastImage s s.geometry.images) (λ l. Unit {0}) (GivenBack s.geometry.extents) own2 root_lease 0 (start s before reading (lease_at root_lease)) (ends reply.Retired known)
      (omega arith) r2 (r2.later root_lease (omega arith) not-root) (λ l p. tt) from-root tt (λ image below attached e. omega (arith, e)) (λ own3 r3. all-retired (GivenBack s.geometry.extents) own3 r3)))
    where
      from-images : (l : ℕ) → l < lease_count s.geometry → PastImage s 0 l → PastExtent s s.geometry.extents l
      from-images l below (inl extents) = (extents, omega (arith, below))
      from-images l below (inr p) = absurd (omega (arith, p.0, p.1))

      not-root : ¬ PastImage s s.geometry.images root_lease
      not-root (inl extents) = omega (arith, extents)
      not-root (inr p) = omega (arith, p.0)

      from-root : (l : ℕ) → Unit {0} → PastImage s s.geometry.images l ⊎ (l ≡ root_lease)
      from-root l all = elim (eqb_tells l 0) [
        | inl same ↦ inr same.1
        | inr apart ↦ elim (leb_tells (extent_lease s.geometry 0) l) [
          | inl extents ↦ inl (inl extents.1)
          | inr less ↦ inl (inr (omega (arith, apart.1), omega (arith, less.1)))
        ]
      ]

pub retire-begins : (s : Setting) → IsGeometry s.geometry → (before : List Finished) (known : Known) (reading : ℕ) → AllKept s IsAny before → Rests s before known →
    (left : ℕ) × (left ≤ 1 + 3 * s.geometry.extents + s.geometry.images)
    × Right s before Retire (clock reading ∷ []) (command_process s known (start s before reading) (hand_start s before reading) reading Retire) left
retire-begins s geometry before known reading older rests = (
  retire_asks s.geometry.extents (image_asks s.geometry.images 1),
  (let e = retire-asks-are s.geometry.extents (image_asks s.geometry.images 1) in let i = image-asks-are s.geometry.images 1 in omega arith),
  meets-two (MayByRules s before Retire) (MayByCauses s before Retire) (Shows s before Retire) (λ done end. Unit {0}) (retire_process s known (start s before reading) (hand_start s before reading))
      (clock reading ∷ []) (retire_asks s.geometry.extents (image_asks s.geometry.images 1)) (retire_asks s.geometry.extents (image_asks s.geometry.images 1))
      (allowed-retire s geometry before known reading rests older) (retire-follows s before known (start s before reading) (hand_start s before reading) reading),
)
