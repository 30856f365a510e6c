-- An appliance claims a lease: from the stage at which it is about to, to the one at which it holds it.
use Rattle.std.proofs.Common.{◌≡◌, ℕ, ◌+◌, ◌^◌, ◌≤◌, ◌<◌, List, [], ◌∷◌, Bool, true, Option, Some, None, refl, ap, ◌∙◌, arith, inl, inr}
use Rattle.std.specs.Prelude.{nat_lt, ◌&&◌, if◌then◌else◌}
use Rattle.std.specs.Str.{bytes_eq}
use Rattle.std.proofs.lemmas.Bool.Decides.{eqb_tells}
use Rattle.std.proofs.lemmas.Slice.Eq.{bytes_eq-Decides}
use Rattle.plx_base.proofs.Devices.{put-same}
use Rattle.plx_base.proofs.Tests.{nat_le-true, nat_le-false, nat_lt-true}
use Rattle.plx_base.specs.Sectors.{Device, put}
use Rattle.plx_base.specs.declared.lease.Claim.{Claim}
use Rattle.plx_base.specs.declared.lease.LeaseRecord.{LeaseRecord}
use Rattle.plx_base.specs.declared.numbers.ApplianceNo.{ApplianceNo}
use Rattle.plx_base.specs.declared.write_kind.WriteKind.TheVariants as kind
use Rattle.plx_commands.proofs.Places.{at-same}
use Rattle.plx_commands.specs.Places.{at}
use Rattle.plx_commands.specs.declared.command.Command.{Command}
use Rattle.plx_commands.specs.declared.entry.Entry.{Entry}
use Rattle.plx_disk.specs.declared.ask.Ask.{Ask}
use Rattle.plx_disk.specs.declared.ask.Ask.TheVariants as ask
use Rattle.plx_disk.specs.declared.ask.Answer.{Answer}
use Rattle.plx_disk.specs.declared.ask.Answer.TheVariants as answer
use Rattle.plx_gate.proofs.Leases.{lease-back, length-lease}
use Rattle.plx_gate.specs.Leases.{IsLease, lease_bytes, read_lease}
use Rattle.plx_geom.specs.Geometry.{Geometry, lease_at}
use Rattle.plx_rules.specs.Boot.{In, after_process, place_of}
use Rattle.plx_rules.specs.Claims.{ClaimEnd, ClaimHeld, ClaimLost, ClaimReadFault, claim_of, end_of_term, own_record, own_use, claim_in_time, if_expired, reread_by, reread_process, written_process, seen_process, claim_process}
use Rattle.plx_rules.specs.Ends.{End}
use Rattle.plx_rules.specs.Holds.{Hold, Nothing, Seen, Wrote, Waited, Held, hold_after_claim, hold_after_reading, hold_after_reread, seen_by}
use Rattle.plx_rules.specs.InUse.{InUse, unless_reached}
use Rattle.plx_rules.specs.Process.{Process, Ends, ReadThen, UntilThen}
use Rattle.plx_rules.specs.Processes.{followed_by}
use Rattle.plx_rules.specs.Session.{Known}
use Rattle.plx_rules.specs.Times.{is_expired, wait, window}
use Rattle.plx_rules.specs.World.{with_reply_of}
use Rattle.law_lease.proofs.Stages.{Spot, Stage, hold_next, same-places, stage-after-clock, stage-after-read, stage-after-tick, stage-after-wait, stage-after-write}

module _ (g : Geometry) (appliances : ℕ) (few : appliances ≤ 8) (lease : ℕ) {t : ℕ} {d : Device} {p : ℕ → Spot} {tr : List Entry}
    (st : Stage g appliances few (lease_at lease) t d p tr) (a : ApplianceNo) (below : a.0 < appliances)
    (known : Known) (command : Command) (boot number : ℕ) (next : ClaimEnd → Process End) where
  -- the stages of the claim
  abbrev S : ℕ → Device → (ℕ → Spot) → Type 0
  S time device places = Stage g appliances few (lease_at lease) time device places tr

  -- the claim
  abbrev pub claim : Claim
  claim = claim_of boot number t

  -- the moment until which it holds the lease
  abbrev pub until : ℕ
  until = end_of_term claim

  -- the lease's block with the claim
  abbrev pub own_bytes : List ℕ
  own_bytes = lease_bytes (own_record claim)

  -- the lease is in use once the claim is written
  abbrev uses : List InUse
  uses = own_use lease claim ∷ []

  -- the rest once it has read its clock
  abbrev reads_lease : Process End
  reads_lease = followed_by (ReadThen (lease_at lease) (λ bytes. seen_process [] lease claim (read_lease bytes)) (Ends ClaimReadFault)) next

  -- once it has read the lease
  abbrev writes_claim : Process End
  writes_claim = followed_by (written_process [] lease claim) next

  -- once its claim is written
  abbrev awaits : Process End
  awaits = followed_by (UntilThen (t + wait) (λ reading. claim_in_time uses reading (reread_process uses lease claim))) next

  -- once it has waited
  abbrev rereads : Process End
  rereads = followed_by (reread_process uses lease claim) next

  -- and once the lease is held
  abbrev pub process_once_held : Process End
  process_once_held = next (ClaimHeld claim until)

  -- where it stands with this rest of the command
  abbrev spot : Hold → Option ℕ → Process End → Spot
  spot hold sample rest = record { hold = hold; sample = sample; place = place_of known command rest }

  -- what is held next, where the spot of the appliance was changed
  held-next : (q : ℕ → Spot) (s : Spot) (asked : Ask) (bytes : List ℕ) (ans : Answer) (rest : Process End) (hold : Hold) →
      hold_next (lease_at lease) s asked bytes ans rest ≡ hold → hold_next (lease_at lease) (at q a.0 s a.0) asked bytes ans rest ≡ hold
  held-next q s asked bytes ans rest hold held = ap (λ (x : Spot). hold_next (lease_at lease) x asked bytes ans rest) (at-same q a.0 s) ∙ held

  -- and where it stands
  place-next : (q : ℕ → Spot) (s : Spot) → (at q a.0 s a.0).place ≡ s.place
  place-next q s = ap (λ (x : Spot). x.place) (at-same q a.0 s)

  -- it was about to claim the lease, of which it held nothing; the lease was free or expired, and the claim can be written
  module _ (here : (p a.0).place ≡ In known command (followed_by (claim_process boot [] lease number) next)) (none : (p a.0).hold ≡ Nothing)
      (found : List ℕ) (there : d (lease_at lease) ≡ found) (seen : LeaseRecord) (says : read_lease found ≡ Some seen) (over : is_expired seen t ≡ true)
      (is : IsLease (own_record claim)) (soon : t + wait < 2 ^ 47) where
    -- the places once it has read its clock
    abbrev sampled_places : ℕ → Spot
    sampled_places = at p a.0 (spot Nothing (Some t) reads_lease)

    once-sampled : S t d sampled_places
    once-sampled = stage-after-clock g appliances few (lease_at lease) st a below known command _ here reads_lease refl Nothing (ap (hold_after_reading t) none)

    -- once it has read the lease
    abbrev seen_places : ℕ → Spot
    seen_places = at sampled_places a.0 (spot (Seen t) None writes_claim)

    once-seen : S t d seen_places
    once-seen = stage-after-read g appliances few (lease_at lease) once-sampled a below known command (lease_at lease) _ _ (place-next p (spot Nothing (Some t) reads_lease)) found there writes_claim
        (ap (λ (x : Option LeaseRecord). followed_by (seen_process [] lease claim x) next) says ∙ ap (λ (x : Bool). followed_by (if_expired x seen (written_process [] lease claim)) next) over)
        (Seen t) (held-next p (spot Nothing (Some t) reads_lease) (ask.Read (record { 0 = lease_at lease })) [] (answer.Bytes found) writes_claim (Seen t)
        (at-same (λ b. Nothing) (lease_at lease) (seen_by (read_lease found) t)
        ∙ (ap (λ (x : Option LeaseRecord). seen_by x t) says ∙ ap (λ (x : Bool). if x then Seen t else Nothing) over)))

    -- once its claim has landed
    abbrev written_places : ℕ → Spot
    written_places = at seen_places a.0 (spot (Wrote claim until) None awaits)

    once-written : S t (put d (lease_at lease) own_bytes) written_places
    once-written = stage-after-write g appliances few (lease_at lease) once-seen a below known command kind.Claim (lease_at lease) own_bytes (t + window) _ _ _
        (place-next sampled_places (spot (Seen t) None writes_claim)) (omega arith) (length-lease (own_record claim)) awaits refl
        (Wrote claim until) (held-next sampled_places (spot (Seen t) None writes_claim) (ask.Write kind.Claim (record { 0 = lease_at lease }) (t + window)) own_bytes answer.Done awaits (Wrote claim until)
        (at-same (λ b. Seen t) (lease_at lease) (hold_after_claim (read_lease own_bytes)) ∙ ap hold_after_claim (lease-back (own_record claim) is)))

    -- once it has waited
    abbrev waited_places : ℕ → Spot
    waited_places = at written_places a.0 (spot (Waited claim until) (Some (t + wait)) rereads)

    once-waited : S (t + wait) (put d (lease_at lease) own_bytes) waited_places
    once-waited = stage-after-wait g appliances few (lease_at lease) (stage-after-tick g appliances few (lease_at lease) once-written wait soon) a below known command (t + wait) _
        (place-next seen_places (spot (Wrote claim until) None awaits)) (omega arith) rereads
        (ap (λ (reached : Bool). followed_by (unless_reached (if reached then Some (own_use lease claim) else None) (λ due. Ends (ClaimLost due (t + wait))) (reread_process uses lease claim)) next)
        (nat_le-false until (t + wait) (omega arith)))
        (Waited claim until) (held-next seen_places (spot (Wrote claim until) None awaits) (ask.Until (t + wait)) [] (answer.Reading (t + wait)) rereads (Waited claim until)
        (ap (λ (x : Bool). if x && nat_lt (t + wait) until then Waited claim until else Wrote claim until) (nat_le-true (t + wait) (t + wait) (omega arith))
        ∙ ap (λ (x : Bool). if x then Waited claim until else Wrote claim until) (nat_lt-true (t + wait) until (omega arith))))

    -- it holds the lease from the second reading on, where the rest doesn't end with a loss
    pub lease-claimed : after_process process_once_held (λ b. Held claim until) (lease_at lease) ≡ Held claim until →
        Stage g appliances few (lease_at lease) (t + wait) (put d (lease_at lease) own_bytes)
        (at p a.0 (record { hold = Held claim until; sample = None; place = place_of known command process_once_held })) (with_reply_of a process_once_held tr)
    lease-claimed kept =
        let own : bytes_eq own_bytes own_bytes ≡ true = (bytes_eq-Decides own_bytes own_bytes).1 refl in
        same-places g appliances few (lease_at lease)
        (stage-after-read g appliances few (lease_at lease) once-waited a below known command (lease_at lease) _ _ (place-next written_places (spot (Waited claim until) (Some (t + wait)) rereads))
        own_bytes (put-same d (lease_at lease) own_bytes) process_once_held
        (ap (λ (x : Bool). followed_by (reread_by x uses claim (read_lease own_bytes)) next) own)
        (Held claim until) (held-next written_places (spot (Waited claim until) (Some (t + wait)) rereads) (ask.Read (record { 0 = lease_at lease })) [] (answer.Bytes own_bytes) process_once_held (Held claim until)
        (ap (λ (x : Hold). after_process process_once_held (λ b. x) (lease_at lease))
        (at-same (λ b. Waited claim until) (lease_at lease) (hold_after_reread (bytes_eq own_bytes own_bytes) (Held claim until)) ∙ ap (λ (x : Bool). hold_after_reread x (Held claim until)) own)
        ∙ kept)))
        _ (λ b. elim (eqb_tells b a.0) [ inl same ↦ rw same.0 refl | inr other ↦ rw other.0 refl ])
