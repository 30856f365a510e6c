-- What a reserve still asks, and what it moves.
use Rattle.std.specs.Prelude.{◌≡◌, ◌≢◌, ◌<◌, ℕ, List, Option, None, refl}
use Rattle.plx_alloc.specs.Moving.{TellsTaken, reserve_ask, reserve_moves}
use Rattle.plx_alloc.specs.Tables.{hand_numbers}
use Rattle.plx_alloc.specs.Tables.{extent_leases as extents_of}
use Rattle.plx_alloc.specs.Takes.{Outer}
use Rattle.plx_alloc.specs.Takes.{reserve_rest as take_rest}
use Rattle.plx_alloc.specs.declared.reserve.Reserve.{Reserve as Take}
use Rattle.plx_alloc.specs.declared.reserve.ReserveAt.{ReserveAt}
use Rattle.plx_alloc.specs.declared.reserve.ReserveAt.TheVariants as at
use Rattle.plx_alloc.specs.declared.space_end.SpaceEnd.{SpaceEnd}
use Rattle.plx_commands.specs.declared.reply.Reply.{Reply}
use Rattle.plx_commands.specs.declared.reply.Reply.TheVariants as reply
use Rattle.plx_disk.specs.declared.ask.Answer.{Answer}
use Rattle.plx_geom.specs.Geometry.{Geometry, extent_lease, lease_at}
use Rattle.plx_lease.specs.Holding.{IsSampled, claim_hold}
use Rattle.plx_rules.specs.Boot.{Fits}
use Rattle.plx_rules.specs.Ends.{End, ends}
use Rattle.plx_rules.specs.Hands.{found_by, hand_answered}
use Rattle.plx_rules.specs.Holds.{Hold}
use Rattle.plx_rules.specs.Process.{Process}
use Rattle.plx_rules.specs.Session.{Session}
use Rattle.plx_appliance.specs.Holding.{hold_without_claim}
use Rattle.plx_appliance.specs.Lent.{Lent}
use Rattle.plx_appliance.specs.declared.reserve.Reserve.{Reserve}
use Rattle.plx_session.specs.declared.setting.Setting.{Setting}

-- the command of a take: once enough blocks are in hand it ends
abbrev pub outer_of : Setting → (sessions : ℕ → Option Session) → Outer
outer_of setting sessions = record {
  appliance = setting.appliance.0;
  sessions = sessions;
  rest = λ t. ends reply.Reserved t.known;
  goes = λ t others same. refl;
}

-- what a reserve still asks
abbrev pub reserve_work_rest : Lent → Reserve → Process End
reserve_work_rest lent r = take_rest (outer_of r.setting lent.known.sessions) lent.space r.work

-- of an extent's lease no claim is under way
abbrev pub HasNoClaim : Geometry → (holds : ℕ → Hold) → (extent : ℕ) → Type 0
HasNoClaim g holds extent = holds (lease_at (extent_lease g extent)) ≡ hold_without_claim (holds (lease_at (extent_lease g extent)))

-- of no extent's lease is one under way
abbrev pub HaveNoClaims : Geometry → (holds : ℕ → Hold) → Type 0
HaveNoClaims g holds = (extent : ℕ) → extent < g.extents → HasNoClaim g holds extent

-- the claim of a take: as far as it has come with the lease of its extent, the log has, and of no other extent's lease a claim is under way
pub record IsClaimingExtent (g : Geometry) (m : Take) (holds : ℕ → Hold) (sample : Option ℕ) : Type 0 where
  pub number : m.claim.number ≡ extent_lease g m.extent.0
  pub hold : holds (lease_at m.claim.number) ≡ claim_hold m.claim
  pub sampled : IsSampled m.claim sample
  pub others : (extent : ℕ) → extent < g.extents → extent ≢ m.extent.0 → HasNoClaim g holds extent

-- how far a take has come with its claim
abbrev pub claiming_at : ReserveAt → Geometry → Take → (holds : ℕ → Hold) → Option ℕ → Type 0
claiming_at at.Claim g m holds sample = IsClaimingExtent g m holds sample
claiming_at at.Map g m holds sample = HaveNoClaims g holds
claiming_at at.Write g m holds sample = HaveNoClaims g holds
claiming_at at.Look g m holds sample = HaveNoClaims g holds
claiming_at at.Damaged g m holds sample = HaveNoClaims g holds

-- and what was read last tells which blocks its write takes
pub record IsReserving (r : Reserve) (holds : ℕ → Hold) (sample : Option ℕ) (found : Option (ℕ × List ℕ)) : Type 0 where
  pub claim : claiming_at r.work.at r.setting.geometry r.work holds sample
  pub tells : TellsTaken r.setting.geometry r.work found

-- a reserve was answered: its take moves the leases of extents and the hand
pub record ReserveMoves (old new : Reserve) (answer : Answer) (before after : Lent) (result : Option Reply) : Type 0 where
  pub images : after.leases ≡ before.leases
  pub end : Option SpaceEnd
  pub goes_on : result ≡ None → end ≡ None
  pub extents : reserve_moves old.work.at before.space.geometry old.work new.work answer (extents_of before.space) (extents_of after.space) end
  pub hand : (found : Option (ℕ × List ℕ)) (bytes : List ℕ) → TellsTaken before.space.geometry old.work found → (old.work.at ≡ at.Write → bytes ≡ old.work.out) →
      hand_numbers after.space ≡ hand_answered before.space.geometry found (reserve_ask old.work) bytes answer (hand_numbers before.space)
  pub found : Fits (reserve_ask old.work) answer → result ≡ None → TellsTaken after.space.geometry new.work (found_by (reserve_ask old.work) answer)
