-- The session of one image is lent to the machine of a command, out of the table of all sessions.
use Rattle.std.proofs.Common.{◌≡◌, ℕ, ◌<◌, List, Option, Some, None, length, get_or, inl, inr, refl, sym, ap, ◌∙◌, subst, arith}
use Rattle.std.specs.Prelude.{slice_set}
use Rattle.std.proofs.Math.Path.{fun_ext}
use Rattle.std.proofs.lemmas.Bool.Decides.{eqb_tells}
use Rattle.std.proofs.lemmas.List.{get_or-set_other, get_or_read_under}
use Rattle.std.proofs.lemmas.Grind.{get_or-set_at}
use Rattle.plx_commands.specs.Places.{at}
use Rattle.plx_commands.specs.declared.reply.Reply.{Reply}
use Rattle.plx_rules.specs.Ends.{End}
use Rattle.plx_rules.specs.Process.{Process}
use Rattle.plx_rules.specs.Session.{Known}
use Rattle.plx_rules.specs.Session.{Session as KnownSession}
use Rattle.plx_session.specs.Ending.{process_after}
use Rattle.plx_session.proofs.Known.{with-same}
use Rattle.plx_session.specs.Shown.{known_session, known_with}
use Rattle.plx_session.specs.Works.{image_rest}
use Rattle.plx_session.specs.declared.session.Session.{Session}
use Rattle.plx_session.specs.declared.work.ImageWork.{ImageWork}
use Rattle.plx_appliance.specs.Kept.{sessions_of}

-- the table once one place of it changed
sessions-set : (images : List (Option Session)) (i : ℕ) (new : Option Session) → i < length images → sessions_of (slice_set images i new) ≡ at (sessions_of images) i (known_session new)
sessions-set images i new within = fun_ext (λ k. elim (eqb_tells k i) [
  | inl same ↦ rw same.0 (ap known_session (get_or-set_at images i k new None same.1 within))
  | inr other ↦ rw other.0 (ap known_session (get_or-set_other images i k new None other.1))
])

-- what is left by what is known then, where it stays the same for a machine that goes on
left-later : (known later : Known) (w : ImageWork) (result : Option Reply) (process : Process End) → (result ≡ None → later ≡ known) →
    process_after (image_rest known w) later result ≡ process → process_after (image_rest later w) later result ≡ process
left-later known later w None process same left = ap (λ (k : Known). image_rest k w) (same refl) ∙ left
left-later known later w (Some reply) process same left = left

-- what is known by a table of sessions
abbrev known_in : List (Option Session) → (claims : ℕ) → Known
known_in images claims = record { sessions = sessions_of images; claims = claims }

-- a machine that was answered over the session of its image was answered over all sessions
pub answered-lent : (images : List (Option Session)) (claims count i j : ℕ) (session new : Option Session) (w : ImageWork) (result : Option Reply) (process : Known → Process End) →
    i ≡ j → j < count → count ≡ length images → session ≡ get_or images i session → (result ≡ None → new ≡ session) →
    ((known : Known) → known.sessions j ≡ known_session session → process_after (image_rest known w) (known_with known j new) result ≡ process known) →
    process_after (image_rest (known_in (slice_set images i new) claims) w) (known_in (slice_set images i new) claims) result ≡ process (known_in images claims)
answered-lent images claims count i j session new w result process place below long is stays left =
    let known = known_in images claims in
    let within : i < length images = omega (arith, place, below, long) in
    let own : known.sessions i ≡ known_session session = sym (ap known_session (get_or_read_under images i (length images) session None is within refl)) in
    let later : known_in (slice_set images i new) claims ≡ known_with known i new = ap (λ (t : ℕ → Option KnownSession). record known { sessions = t }) (sessions-set images i new within) in
    let P : Known → Type 0 = λ k. process_after (image_rest k w) k result ≡ process known in
    subst P (sym later)
    (left-later known (known_with known i new) w result (process known) (λ none. ap (λ (s : Option Session). known_with known i s) (stays none) ∙ with-same known i (known_session session) own)
    (subst (λ (n : ℕ). process_after (image_rest known w) (known_with known n new) result ≡ process known) (sym place)
    (left known (subst (λ (n : ℕ). known.sessions n ≡ known_session session) place own))))
