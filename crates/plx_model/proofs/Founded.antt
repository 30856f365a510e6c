-- Which replies are among the refusals whose facts hold.
use Rattle.std.proofs.Common.{◌≡◌, ◌↔◌, ℕ, List, [], ◌∷◌, ◌++◌, Bool, true, false, Option, Some, None, refl, sym, ap, subst, inl, inr, ◌⊎◌}
use Rattle.plx_commands.proofs.Accepted.{among-more, among-later}
use Rattle.plx_commands.specs.Facts.{IsAmong, where_holds}
use Rattle.plx_commands.specs.Limits.{last_claim}
use Rattle.plx_commands.specs.declared.reply.Reply.{Reply}
use Rattle.plx_commands.specs.declared.reply.Reply.TheVariants.{NotAttached, AlreadyAttached, NoImage, Exists, OutOfRange, WornOut}
use Rattle.plx_model.specs.Shown.{IsFoundedIn, IsWornAt, beyond, listed_refusals, listed_claims, listed_images, worn_refusal}
use Rattle.plx_model.specs.declared.refusals.ImageRefusals.{ImageRefusals}
use Rattle.plx_model.specs.declared.refusals.Refusals.{Refusals}

among-either : (reply : Reply) (some more : List Reply) → IsAmong reply (some ++ more) → IsAmong reply some ⊎ IsAmong reply more
among-either reply [] more h = inr h
among-either reply (other ∷ others) more (inl e) = inl (inl e)
among-either reply (other ∷ others) more (inr h) = deeper (among-either reply others more h)
  where
    deeper : IsAmong reply others ⊎ IsAmong reply more → IsAmong reply (other ∷ others) ⊎ IsAmong reply more
    deeper (inl here) = inl (inr here)
    deeper (inr later) = inr later

-- a reply isn't among refusals of which it is none
not_held : (reply refusal : Reply) (b : Bool) → ¬ (reply ≡ refusal) → ¬ IsAmong reply (where_holds b refusal)
not_held reply refusal true other (inl e) = other e
not_held reply refusal true other (inr h) = h
not_held reply refusal false other h = h

among-the-rest : (reply : Reply) (some more : List Reply) → ¬ IsAmong reply some → IsAmong reply (some ++ more) → IsAmong reply more
among-the-rest reply some more none h = by_side (among-either reply some more h)
  where
    by_side : IsAmong reply some ⊎ IsAmong reply more → IsAmong reply more
    by_side (inl here) = absurd (none here)
    by_side (inr later) = later

not-in-more : (reply : Reply) (some more : List Reply) → ¬ IsAmong reply more → IsAmong reply (some ++ more) → IsAmong reply some
not-in-more reply some more none h = by_side (among-either reply some more h)
  where
    by_side : IsAmong reply some ⊎ IsAmong reply more → IsAmong reply some
    by_side (inl here) = here
    by_side (inr later) = absurd (none later)

not_worn : (size : ℕ) (count : Option ℕ) → ¬ IsAmong (OutOfRange size) (worn_refusal count)
not_worn size None h = h
not_worn size (Some count) (inl e) = let P : ⊥ = cc in P
not_worn size (Some count) (inr h) = h

not_beyond : (count : ℕ) (range : Option ℕ) → ¬ IsAmong (WornOut count) (beyond range)
not_beyond count None h = h
not_beyond count (Some size) (inl e) = let P : ⊥ = cc in P
not_beyond count (Some size) (inr h) = h

in_beyond : (size : ℕ) (range : Option ℕ) → IsAmong (OutOfRange size) (beyond range) → range ≡ Some size
in_beyond size None h = absurd h
in_beyond size (Some other) (inl e) = let same : size ≡ other = cc in ap Some (sym same)
in_beyond size (Some other) (inr h) = absurd h

in_worn : (count : ℕ) (last : Option ℕ) → IsAmong (WornOut count) (worn_refusal last) → last ≡ Some count
in_worn count None h = absurd h
in_worn count (Some other) (inl e) = let same : count ≡ other = cc in ap Some (sym same)
in_worn count (Some other) (inr h) = absurd h

where-held : (reply refusal : Reply) (b : Bool) → IsAmong reply (where_holds b refusal) → (b ≡ true) × (reply ≡ refusal)
where-held reply refusal true (inl e) = (refl, e)
where-held reply refusal true (inr h) = absurd h
where-held reply refusal false h = absurd h

-- a refusal that is none by sessions is among all only where it is among those by images, or by claims
past_sessions : (reply : Reply) (facts : Refusals) → ¬ (reply ≡ AlreadyAttached) → ¬ (reply ≡ NotAttached) → IsAmong reply (listed_refusals facts) → IsAmong reply (listed_images facts.images)
past_sessions reply facts p q h =
    among-the-rest reply (where_holds facts.attached AlreadyAttached ++ where_holds facts.not_attached NotAttached) (listed_images facts.images)
    (λ among. not_held reply NotAttached facts.not_attached q (among-the-rest reply (where_holds facts.attached AlreadyAttached) (where_holds facts.not_attached NotAttached) (not_held reply AlreadyAttached facts.attached p) among)) h

past_flags : (reply : Reply) (facts : ImageRefusals) → ¬ (reply ≡ NoImage) → ¬ (reply ≡ Exists) → IsAmong reply (listed_images facts) → IsAmong reply (beyond facts.range ++ worn_refusal facts.worn)
past_flags reply facts p q h =
    among-the-rest reply (where_holds facts.exists Exists) (beyond facts.range ++ worn_refusal facts.worn) (not_held reply Exists facts.exists q)
    (among-the-rest reply (where_holds facts.no_image NoImage) (where_holds facts.exists Exists ++ (beyond facts.range ++ worn_refusal facts.worn)) (not_held reply NoImage facts.no_image p) h)

within_images : (reply : Reply) (facts : Refusals) → IsAmong reply (beyond facts.images.range ++ worn_refusal facts.images.worn) → IsAmong reply (listed_refusals facts)
within_images reply facts h =
    among-later reply (where_holds facts.attached AlreadyAttached ++ where_holds facts.not_attached NotAttached) (listed_images facts.images)
    (among-later reply (where_holds facts.images.no_image NoImage) (where_holds facts.images.exists Exists ++ (beyond facts.images.range ++ worn_refusal facts.images.worn))
    (among-later reply (where_holds facts.images.exists Exists) (beyond facts.images.range ++ worn_refusal facts.images.worn) h))

-- which size and which count are named
pub founded_range : (facts : Refusals) (size : ℕ) → (facts.images.range ≡ Some size) ↔ IsFoundedIn (listed_refusals facts ++ listed_claims facts) (OutOfRange size)
founded_range facts size = (there, back)
  where
    there : facts.images.range ≡ Some size → IsFoundedIn (listed_refusals facts ++ listed_claims facts) (OutOfRange size)
    there e rests =
        among-more (OutOfRange size) (listed_refusals facts) (listed_claims facts)
        (within_images (OutOfRange size) facts (among-more (OutOfRange size) (beyond facts.images.range) (worn_refusal facts.images.worn) (subst (λ (o : Option ℕ). IsAmong (OutOfRange size) (beyond o)) (sym e) (inl refl))))

    back : IsFoundedIn (listed_refusals facts ++ listed_claims facts) (OutOfRange size) → facts.images.range ≡ Some size
    back h =
        in_beyond size facts.images.range
        (not-in-more (OutOfRange size) (beyond facts.images.range) (worn_refusal facts.images.worn) (not_worn size facts.images.worn)
        (past_flags (OutOfRange size) facts.images (λ e. let P : ⊥ = cc in P) (λ e. let P : ⊥ = cc in P)
        (past_sessions (OutOfRange size) facts (λ e. let P : ⊥ = cc in P) (λ e. let P : ⊥ = cc in P)
        (not-in-more (OutOfRange size) (listed_refusals facts) (listed_claims facts) (not_held (OutOfRange size) (WornOut last_claim) facts.claims (λ e. let P : ⊥ = cc in P)) (h refl)))))

pub founded_worn : (facts : Refusals) (count : ℕ) → IsWornAt facts.images.worn facts.claims count ↔ IsFoundedIn (listed_refusals facts ++ listed_claims facts) (WornOut count)
founded_worn facts count = (there, back)
  where
    there : IsWornAt facts.images.worn facts.claims count → IsFoundedIn (listed_refusals facts ++ listed_claims facts) (WornOut count)
    there (inl e) rests =
        among-more (WornOut count) (listed_refusals facts) (listed_claims facts)
        (within_images (WornOut count) facts (among-later (WornOut count) (beyond facts.images.range) (worn_refusal facts.images.worn) (subst (λ (o : Option ℕ). IsAmong (WornOut count) (worn_refusal o)) (sym e) (inl refl))))
    there (inr claims) rests =
        among-later (WornOut count) (listed_refusals facts) (listed_claims facts)
        (subst (λ (b : Bool). IsAmong (WornOut count) (where_holds b (WornOut last_claim))) (sym claims.0) (inl (ap WornOut claims.1)))

    by_side : IsAmong (WornOut count) (listed_refusals facts) ⊎ IsAmong (WornOut count) (listed_claims facts) → IsWornAt facts.images.worn facts.claims count
    by_side (inl among) =
        inl (in_worn count facts.images.worn
        (among-the-rest (WornOut count) (beyond facts.images.range) (worn_refusal facts.images.worn) (not_beyond count facts.images.range)
        (past_flags (WornOut count) facts.images (λ e. let P : ⊥ = cc in P) (λ e. let P : ⊥ = cc in P)
        (past_sessions (WornOut count) facts (λ e. let P : ⊥ = cc in P) (λ e. let P : ⊥ = cc in P) among))))
    by_side (inr claimed) =
        let both : (facts.claims ≡ true) × (WornOut count ≡ WornOut last_claim) = where-held (WornOut count) (WornOut last_claim) facts.claims claimed in
        inr (both.0, let e : WornOut count ≡ WornOut last_claim = both.1 in let same : count ≡ last_claim = cc in same)

    back : IsFoundedIn (listed_refusals facts ++ listed_claims facts) (WornOut count) → IsWornAt facts.images.worn facts.claims count
    back h = by_side (among-either (WornOut count) (listed_refusals facts) (listed_claims facts) (h refl))
