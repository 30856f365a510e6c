-- All blocks in hand of an extent, and all extents, are given up, after any exchanges of a command.
use Rattle.std.proofs.Common.{◌≡◌, ℕ, zero, suc, ◌+◌, ◌*◌, ◌≤◌, ◌<◌, List, [], ◌∷◌, ◌++◌, false, Some, None, refl, ap, sym, subst, ◌∙◌, arith, inl, inr, ◌⊎◌, ◌≢◌, true}
use Rattle.std.specs.Prelude.{◌==◌}
use Rattle.std.proofs.lemmas.Bool.Decides.{leb_tells}
use Rattle.plx_base.specs.declared.lease.Claim.{Claim}
use Rattle.plx_base.specs.declared.lease.LeaseRecord.TheVariants as lease_is
use Rattle.plx_base.specs.declared.write_kind.WriteKind.{WriteKind}
use Rattle.plx_base.specs.declared.write_kind.WriteKind.TheVariants as kind
use Rattle.plx_commands.specs.declared.command.Command.{Command}
use Rattle.plx_commands.specs.declared.reply.Reply.TheVariants as reply
use Rattle.plx_disk.specs.declared.ask.Ask.{Ask}
use Rattle.plx_disk.specs.declared.ask.Ask.TheVariants as ask
use Rattle.plx_disk.specs.declared.ask.Answer.TheVariants as answer
use Rattle.plx_extent.specs.Maps.{map_bytes}
use Rattle.plx_gate.specs.Leases.{lease_bytes}
use Rattle.plx_geom.proofs.Places.{extent-below}
use Rattle.plx_geom.specs.Geometry.{extent_lease, lease_at, map_at}
use Rattle.plx_rules.specs.Ends.{End}
use Rattle.plx_rules.specs.Hands.{is_held}
use Rattle.plx_rules.specs.Holds.{Hold, Nothing, Seen, Wrote, Waited, Held}
use Rattle.plx_rules.specs.InUse.{InUse, lease_name, first_reached}
use Rattle.plx_rules.specs.Process.{Process}
use Rattle.plx_rules.specs.Rests.{extent_of}
use Rattle.plx_rules.specs.Session.{Known, nothing_known}
use Rattle.plx_rules.specs.Settings.{Setting}
use Rattle.plx_rules.specs.Space.{extent_use, read_map, with_clear, release_then, in_extent, give_process, retire_extent, retire_extents}
use Rattle.law_run.specs.AllowedAsks.{MayAsk, release_of_lease}
use Rattle.law_run.specs.CommandLogs.{Exchange, Finished}
use Rattle.law_run.specs.Holdings.{hold_by_log, hand_by_log}
use Rattle.law_run.specs.Machines.{IsOfBlock}
use Rattle.law_run.specs.OnHand.{IsOfOneMap}
use Rattle.law_run.proofs.Hands.{HasBlock, has-filter}
use Rattle.law_run.proofs.Holding.{hold-stays}
use Rattle.law_run.proofs.Meets.{exchange, Meets, meets-more}
use Rattle.law_run.proofs.OnHand.{Along, GivenBack, PastExtent, Retiring, given-back, given-more, map-read, none-among, none-unheld, passed-over, released}
use Rattle.law_run.proofs.OneGive.{give_ask, one-gives}
use Rattle.law_run.proofs.Right.{clock, read_of, log_on}
use Rattle.plx_base.proofs.Tests.{clash, eqb-is}
use Rattle.plx_commands.specs.Replies.{is_in}
use Rattle.law_run.specs.Replies.{rests_by_log}
use Rattle.law_lease.proofs.Rests.{in-one, lease-place-found, map-found}

-- so many answers for each extent
abbrev pub retire_asks : (left n : ℕ) → ℕ
retire_asks zero n = n
retire_asks (suc left) n = suc (suc (suc (retire_asks left n)))

pub retire-asks-are : (left n : ℕ) → retire_asks left n ≡ 3 * left + n
retire-asks-are zero n = omega arith
retire-asks-are (suc left) n = let e = retire-asks-are left n in omega arith

-- what an end of the work shows, each by its last ask
pub record Endings (s : Setting) (before : List Finished) (from : List Exchange) (spares : ℕ → Type 0) (uses : List InUse) (known : Known) (Shows : List Exchange → End → Type 0) : Type 0 where
  pub unread : (own : List Exchange) (extent : ℕ) → Along s before from spares own → extent < s.geometry.extents →
      Shows (exchange (ask.Read (record { 0 = map_at s.geometry extent })) [] answer.Fault ∷ own ++ from) (record { reply = reply.ReadFault (record { 0 = map_at s.geometry extent }); known = known })
  pub unwritten : (own : List Exchange) (k : WriteKind) (block until : ℕ) (bytes : List ℕ) → Along s before from spares own →
      Shows (exchange (ask.Write k (record { 0 = block }) until) bytes answer.Fault ∷ own ++ from) (record { reply = reply.WriteFault (record { 0 = block }); known = nothing_known known.claims })
  pub missed : (own : List Exchange) (k : WriteKind) (extent block until : ℕ) (bytes : List ℕ) (last : ℕ) → Along s before from spares own → extent < s.geometry.extents →
      ((command : Command) → is_in (extent_lease s.geometry extent) (rests_by_log s before command (own ++ from) k block bytes) ≡ true) →
      Shows (exchange (ask.Write k (record { 0 = block }) until) bytes (answer.Missed last) ∷ own ++ from)
      (record { reply = reply.Lost (lease_name s.geometry (extent_lease s.geometry extent)) until last; known = nothing_known known.claims })
  pub reached : (own : List Exchange) (extent until last : ℕ) (claim : Claim) (bytes : List ℕ) (due : InUse) → Along s before from spares (read_of (map_at s.geometry extent) bytes ∷ own) → extent < s.geometry.extents →
      read_map s.geometry.extent_blocks bytes ≡ None → hold_by_log s before (clock last ∷ read_of (map_at s.geometry extent) bytes ∷ own ++ from) (extent_lease s.geometry extent) ≡ Held claim until →
      first_reached (extent_use s.geometry extent until ∷ uses) last ≡ Some due →
      Shows (clock last ∷ read_of (map_at s.geometry extent) bytes ∷ own ++ from)
      (record { reply = reply.Lost (lease_name s.geometry due.lease) due.until last; known = nothing_known known.claims })
  pub damaged : (own : List Exchange) (extent until last : ℕ) (claim : Claim) (bytes : List ℕ) → Along s before from spares (read_of (map_at s.geometry extent) bytes ∷ own) → extent < s.geometry.extents →
      read_map s.geometry.extent_blocks bytes ≡ None → hold_by_log s before (clock last ∷ read_of (map_at s.geometry extent) bytes ∷ own ++ from) (extent_lease s.geometry extent) ≡ Held claim until →
      first_reached (extent_use s.geometry extent until ∷ uses) last ≡ None →
      Shows (clock last ∷ read_of (map_at s.geometry extent) bytes ∷ own ++ from) (record { reply = reply.Damaged (record { 0 = map_at s.geometry extent }); known = known })

module _ (s : Setting) (before : List Finished) (from : List Exchange) (spares : ℕ → Type 0) (inside : (b : ℕ) → HasBlock (hand_by_log s before from) b → extent_of s.geometry b < s.geometry.extents) where
  abbrev Work : (P K : ℕ → Type 0) → (own : List Exchange) → Type 0
  Work P K own = Retiring s before from spares P K own

  module _ (high : s.geometry.extent_blocks ≤ 32768) (some : 1 ≤ s.geometry.extent_blocks) (command : Command) (uses : List InUse) (known : Known) (May : List Exchange → Ask → List ℕ → Type 0) (Shows : List Exchange → End → Type 0)
      (pool : (b : ℕ) → HasBlock (hand_by_log s before from) b → (extent : ℕ) → b ≢ map_at s.geometry extent)
      (allowed : (done : List Exchange) (a : Ask) (bytes : List ℕ) → MayAsk s (log_on before command done) a bytes → IsOfOneMap s.geometry a → May done a bytes)
      (endings : Endings s before from spares uses known Shows) where
    abbrev MeetsGivingUp : (own : List Exchange) → Process End → ℕ → Type 0
    MeetsGivingUp own process n = Meets May Shows (own ++ from) process n

    -- what is met with so many answers left is met with one more
    pub more : (n : ℕ) (process : Process End) (own : List Exchange) → MeetsGivingUp own process n → MeetsGivingUp own process (suc n)
    more n process own meets = meets-more May Shows process (own ++ from) n meets

    -- the blocks in hand of an extent are given back, and the work goes on
    pub gives : (P : ℕ → Type 0) (own : List Exchange) (extent until n : ℕ) (claim : Claim) (blocks : List ℕ) (rest : Process End) → extent < s.geometry.extents → ¬ P (extent_lease s.geometry extent) →
        Work P (GivenBack extent) own → hold_by_log s before (own ++ from) (extent_lease s.geometry extent) ≡ Held claim until → in_extent s.geometry extent (hand_by_log s before from) ≡ blocks →
        ((own' : List Exchange) → Work P (GivenBack (extent + 1)) own' → hold_by_log s before (own' ++ from) (extent_lease s.geometry extent) ≡ Held claim until → MeetsGivingUp own' rest n) →
        MeetsGivingUp own (give_process s known uses extent until blocks rest) (suc (suc n))
    gives P own extent until n claim [] rest below left r held among next =
        let one = next own (given-more s before from spares inside P own extent r (none-among s before from spares inside P (GivenBack extent) own extent r among)) held in
        more (suc n) rest own (more n rest own one)
    gives P own extent until n claim (block ∷ blocks) rest below left r held among next =
        one-gives s before command uses known May Shows (own ++ from) extent until claim all (record {
          within = below;
          held = held;
          fresh = λ b has. r.hand b (mine b has).0 (λ k. (let same = (mine b has).1 in omega (arith, k, same))) (λ p. left (subst (λ e. P (extent_lease s.geometry e)) (mine b has).1 p));
          own = λ b has. (mine b has).1;
          pool = λ b has. pool b (mine b has).0 extent;
          has = r.along.has;
          went = r.along.went;
        })
        (λ done a bytes may place. allowed done a bytes may (extent, below, place)) (record {
          unread = endings.unread own extent r.along below;
          unwritten = λ read bits is. endings.unwritten (read_of (map_at s.geometry extent) read ∷ own) kind.Give (map_at s.geometry extent) until _ (now read).along;
          missed = λ read bits last is. endings.missed (read_of (map_at s.geometry extent) read ∷ own) kind.Give extent (map_at s.geometry extent) until _ last (now read).along below
              (λ c. in-one (extent_lease s.geometry extent) _ (sym (ap (extent_lease s.geometry) (map-found s.geometry extent some))));
          reached = λ read last due none held' found. endings.reached own extent until last claim read due (now read).along below none held' found;
          damaged = λ read last none held' found. endings.damaged own extent until last claim read (now read).along below none held' found;
        })
        rest n (λ read bits is.
        let own1 = read_of (map_at s.geometry extent) read ∷ own in
        let x = exchange (give_ask s extent until) (map_bytes (with_clear all (map_at s.geometry extent) bits)) answer.Done in
        let held1 = hold-stays s before (own ++ from) (read_of (map_at s.geometry extent) read) (extent_lease s.geometry extent) claim until r.along.has tt held in
        next (x ∷ own1) (given-back s before from spares inside high P own extent until read bits all is among (now read)) (hold-stays s before (own1 ++ from) x (extent_lease s.geometry extent) claim until tt tt held1))
      where
        all : List ℕ
        all = block ∷ blocks

        now : (read : List ℕ) → Work P (GivenBack extent) (read_of (map_at s.geometry extent) read ∷ own)
        now read = map-read s before from spares inside P (GivenBack extent) own extent read r

        mine : (b : ℕ) → HasBlock all b → HasBlock (hand_by_log s before from) b × (extent_of s.geometry b ≡ extent)
        mine b has =
            let f = has-filter (λ c. extent_of s.geometry c == extent) (hand_by_log s before from) b (subst (λ (h : List ℕ). HasBlock h b) (sym among) has) in
            (f.0, eqb-is (extent_of s.geometry b) extent f.1)

    -- all extents are given up, and the work goes on
    module _ (holds : ℕ → Hold) (held_here : (extent : ℕ) → extent < s.geometry.extents → holds (lease_at (extent_lease s.geometry extent)) ≡ hold_by_log s before from (extent_lease s.geometry extent))
        (hand : List ℕ) (in_hand : hand ≡ hand_by_log s before from)
        (frees : (done : List Exchange) (a : Ask) (bytes : List ℕ) (extent : ℕ) → MayAsk s (log_on before command done) a bytes → extent < s.geometry.extents →
        IsOfBlock (lease_at (extent_lease s.geometry extent)) a → May done a bytes) where
      split-extent : (extent other : ℕ) → PastExtent s (extent + 1) other → PastExtent s extent other ⊎ (other ≡ extent_lease s.geometry extent)
      split-extent extent other p = elim (leb_tells (suc other) (extent_lease s.geometry extent)) [
        | inl less ↦ inl (p.0, less.1)
        | inr less' ↦ inr (omega (arith, p.1, less'.1))
      ]

      -- an extent's lease is released
      release-extent : (own : List Exchange) (extent until n : ℕ) (claim : Claim) (rest : Process End) → extent < s.geometry.extents → Work (PastExtent s extent) (GivenBack (extent + 1)) own →
          hold_by_log s before (own ++ from) (extent_lease s.geometry extent) ≡ Held claim until →
          ((own' : List Exchange) → Work (PastExtent s (extent + 1)) (GivenBack (extent + 1)) own' → MeetsGivingUp own' rest n) →
          MeetsGivingUp own (release_then s known (extent_use s.geometry extent until) rest) (suc n)
      release-extent own extent until n claim rest below r held right =
          let l = extent_lease s.geometry extent in (
            frees (own ++ from) (ask.Write kind.Release (record { 0 = lease_at l }) until) (lease_bytes lease_is.Free) extent
                (r.along.went, release_of_lease l claim (extent-below s.geometry extent below) refl held refl) below refl,
            right _ (released s before from spares inside (PastExtent s extent) (PastExtent s (extent + 1)) (GivenBack (extent + 1)) own l until r (λ other p. (p.0, omega (arith, p.1))) (split-extent extent) (omega arith, omega arith)
                (λ image less spare e. omega (arith, less, e))),
            endings.unwritten own kind.Release (lease_at l) until (lease_bytes lease_is.Free) r.along,
            λ last past small. endings.missed own kind.Release extent (lease_at l) until (lease_bytes lease_is.Free) last r.along below
                (λ c. in-one (extent_lease s.geometry extent) _ (sym (lease-place-found (extent_lease s.geometry extent)))),
          )

      -- the extents from one on
      pub retires : (left extent : ℕ) (own : List Exchange) (n : ℕ) (rest : Process End) → left + extent ≡ s.geometry.extents → Work (PastExtent s extent) (GivenBack extent) own →
          ((own' : List Exchange) → Work (PastExtent s s.geometry.extents) (GivenBack s.geometry.extents) own' → MeetsGivingUp own' rest n) →
          MeetsGivingUp own (retire_extents s known uses holds hand left extent rest) (retire_asks left n)
      retires zero extent own n rest all r right =
          right own (subst (λ e. Work (PastExtent s e) (GivenBack e) own) (let e : extent ≡ s.geometry.extents = omega arith in e) r)
      retires (suc left) extent own n rest all r right =
          by-hold (holds (lease_at (extent_lease s.geometry extent)))
          (r.later (extent_lease s.geometry extent) (extent-below s.geometry extent (omega arith)) (λ p. omega (arith, p.1)) ∙ sym (held_here extent (omega arith)))
          (λ own' r'. retires left (extent + 1) own' n rest (omega arith) r' right)
        where
          tail : Process End
          tail = retire_extents s known uses holds hand left (extent + 1) rest

          m : ℕ
          m = retire_asks left n

          unheld : is_held (hold_by_log s before (own ++ from) (extent_lease s.geometry extent)) ≡ false →
              ((own' : List Exchange) → Work (PastExtent s (extent + 1)) (GivenBack (extent + 1)) own' → MeetsGivingUp own' tail m) → MeetsGivingUp own tail (suc (suc (suc m)))
          unheld none next =
              let r' = given-more s before from spares inside (PastExtent s extent) own extent r (none-unheld s before from spares inside own extent r.along.has none) in
              let one = next own (passed-over s before from spares inside (PastExtent s extent) (PastExtent s (extent + 1)) (GivenBack (extent + 1)) own (extent_lease s.geometry extent) r'
              (λ other p. (p.0, omega (arith, p.1))) (split-extent extent) (λ claim until h. absurd (clash _ (ap is_held h) none))) in
              more (suc (suc m)) tail own (more (suc m) tail own (more m tail own one))

          by-hold : (hold : Hold) → hold_by_log s before (own ++ from) (extent_lease s.geometry extent) ≡ hold →
              ((own' : List Exchange) → Work (PastExtent s (extent + 1)) (GivenBack (extent + 1)) own' → MeetsGivingUp own' tail m) →
              MeetsGivingUp own (retire_extent s known uses hand extent hold tail) (suc (suc (suc m)))
          by-hold (Held claim until) is next =
              gives (PastExtent s extent) own extent until (suc m) claim (in_extent s.geometry extent hand) (release_then s known (extent_use s.geometry extent until) tail) (omega arith)
              (λ p. omega (arith, p.1)) r is (ap (in_extent s.geometry extent) (sym in_hand))
              (λ own' r' held'. release-extent own' extent until m claim tail (omega arith) r' held' next)
          by-hold Nothing is next = unheld (ap is_held is) next
          by-hold (Seen sample) is next = unheld (ap is_held is) next
          by-hold (Wrote c u) is next = unheld (ap is_held is) next
          by-hold (Waited c u) is next = unheld (ap is_held is) next
