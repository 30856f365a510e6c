-- An undisturbed command whose leases are free, expired or held has its own Ok.
use Rattle.plx_geom.specs.Geometry.{Geometry, IsGeometry, image_lease, extent_lease, lease_at}
use Rattle.plx_rules.specs.Holds.{Hold, after_first}
use Rattle.plx_rules.specs.Hands.{hand_held}
use Rattle.plx_rules.specs.Commands.{command_process}
use Rattle.law_quiet.proofs.Walks.{Quietly}
use Rattle.law_quiet.proofs.Takes.{reserves}
use Rattle.law_quiet.proofs.Unbusy.{IsUnhindered, Suits, IsReady, is_reserve, fine-attach, fine-command}
use Rattle.law_quiet.proofs.Kept.{Kept, EndsWell, kept-step}
use Rattle.law_quiet.specs.Quiet.{ComesAfter, here, later, IsClear, CanClaim, free_blocks, IsUntroubled, OkWhereUndisturbed}
use Rattle.std.proofs.Common.{◌+◌, ◌<◌, ◌≡◌, inl, inr, ℕ, ◌≤◌, List, [], ◌∷◌, ◌++◌, length, true, refl, ap, sym, subst, ◌∙◌, arith, length-append}
use Rattle.std.proofs.lemmas.Option.{slice_get_within}
use Rattle.plx_base.specs.declared.numbers.BlockNo.{BlockNo}
use Rattle.plx_commands.specs.Replies.{is_own}
use Rattle.plx_commands.specs.declared.command.Command.{Command}
use Rattle.plx_commands.specs.declared.command.Command.TheVariants.{Attach, Detach, Create, Delete, Read, Write, Flush, Reserve, Renew, Retire, Reclaim}
use Rattle.plx_commands.specs.declared.event.Event.{Event}
use Rattle.plx_commands.specs.declared.reply.Reply.{Reply}
use Rattle.plx_commands.specs.declared.reply.Reply.TheVariants as reply
use Rattle.plx_disk.specs.declared.ask.Ask.TheVariants as ask
use Rattle.plx_disk.specs.declared.ask.Answer.TheVariants as answer
use Rattle.plx_rules.specs.Boot.{asks, writes_out}
use Rattle.plx_rules.specs.Histories.{Past}
use Rattle.plx_rules.specs.Session.{Known}
use Rattle.plx_rules.specs.Settings.{Setting}
use Rattle.plx_rules.specs.Undisturbed.{LeavesAlone, AllLeaveAlone}
use Rattle.plx_rules.specs.World as world
use Rattle.plx_rules.specs.World.{World, Reached, Step, setting_at, setting_of, stands}
use Rattle.law_lease.proofs.LeaseSteps.{reached-leased}
use Rattle.law_run.specs.CommandLogs.{Exchange, Finished, CommandLog, Commands, Between, Within, WasAnswered, commands, log_of, first_reading}
use Rattle.law_run.specs.Configurations.{finished_of}
use Rattle.law_run.specs.Replies.{Comes, IsReplied, refused, worked}
use Rattle.law_run.specs.Replies as replies
use Rattle.law_run.specs.Rules.{KeepsFullRules}
use Rattle.law_run.specs.Senses.{Local, IsAny}
use Rattle.law_run.specs.Space.{TakesAfter, of_reserve}
use Rattle.law_run.proofs.Worlds.{boots-keep-rules}
use Rattle.law_quiet.proofs.Phases.{Watch, Phase, idle, begun, within, over, log_with, cut}

-- ---- by the log of the command

takes-reserve : (command : Command) (done : List Exchange) (count : ℕ) → TakesAfter command done count → command ≡ Reserve count
takes-reserve command done count (of_reserve reading is first) = is

module _ (s : Setting) (log : CommandLog) (calm : IsUntroubled s log) where
  of-work : (r : Reply) → Comes s IsAny log r → IsUnhindered r (is_reserve log.command) → is_own log.command r ≡ true
  of-work (reply.Attached report) comes free = subst (λ c. is_own c (reply.Attached report) ≡ true) (sym (comes Local tt).command) refl
  of-work reply.Detached comes free = subst (λ c. is_own c reply.Detached ≡ true) (sym comes.command) refl
  of-work reply.Created comes free = subst (λ c. is_own c reply.Created ≡ true) (sym (comes Local tt).command) refl
  of-work reply.Deleted comes free = subst (λ c. is_own c reply.Deleted ≡ true) (sym (comes Local tt).command) refl
  of-work (reply.Data payload) comes free = subst (λ c. is_own c (reply.Data payload) ≡ true) (sym (comes Local tt).command) refl
  of-work (reply.Written number) comes free = subst (λ c. is_own c (reply.Written number) ≡ true) (sym (comes Local tt).command) refl
  of-work (reply.Flushed applied blocks) comes free = absurd comes
  of-work reply.Reserved comes free = subst (λ c. is_own c reply.Reserved ≡ true) (sym comes.command) refl
  of-work reply.Renewed comes free = subst (λ c. is_own c reply.Renewed ≡ true) (sym comes.command) refl
  of-work reply.Retired comes free = subst (λ c. is_own c reply.Retired ≡ true) (sym comes.command) refl
  of-work (reply.Reclaimed covered freed reads) comes free = absurd comes
  of-work reply.NotAttached comes free = absurd comes
  of-work reply.AlreadyAttached comes free = absurd comes
  of-work reply.NoImage comes free = absurd comes
  of-work reply.Exists comes free = absurd comes
  of-work (reply.OutOfRange size) comes free = absurd comes
  of-work (reply.Busy lease seen) comes free = absurd free
  of-work (reply.Lost lease until reading) (replies.missed k b bytes was rests) free = absurd (calm.miss _ bytes _ was)
  of-work (reply.Lost lease until reading) (replies.reached due name ends last its past first) free = absurd (let early = calm.in_time due reading last its in omega (arith, early, past))
  of-work (reply.ReadFault b) comes free = absurd (calm.fault _ _ comes)
  of-work (reply.WriteFault b) comes free = absurd (calm.fault _ comes.2 comes.3)
  of-work reply.Full comes free = absurd (subst (λ c. IsUnhindered reply.Full (is_reserve c)) (takes-reserve log.command comes.2.begun comes.1 comes.2.takes) free)
  of-work (reply.Damaged b) (replies.in_image is) free = absurd (calm.image_inside is.image b is.bytes is.named is.read is.outside)
  of-work (reply.Damaged b) (replies.in_map is) free =
      absurd (calm.map_inside is.extent is.bytes (subst (λ (c : BlockNo). WasAnswered log (ask.Read c) [] (answer.Bytes is.bytes)) (λ i. record { 0 = is.here i }) is.read) is.outside)
  of-work (reply.Damaged b) (replies.in_lease is) free =
      absurd (calm.lease_inside is.extent is.bytes (subst (λ (c : BlockNo). WasAnswered log (ask.Read c) [] (answer.Bytes is.bytes)) (λ i. record { 0 = is.here i }) is.read) is.outside)
  of-work (reply.WornOut count) comes free = absurd (calm.claims count comes)

  own-reply : (r : Reply) → IsReplied s IsAny log r → IsUnhindered r (is_reserve log.command) → is_own log.command r ≡ true
  own-reply r (refused place once refuses first) free = absurd (calm.fact place r refuses)
  own-reply r (worked fine comes) free = of-work r comes free

-- ---- over the world

grown : {u v : World} {one : Event} → Step u one v → (past : Past) × (v.history ≡ past ∷ u.history)
grown (world.ticks soon) = (_, refl)
grown (world.starts known below place formed built) = (_, refl)
grown (world.begins known command below place now) = (_, refl)
grown (world.reads known command block rest fault below place) = (_, refl)
grown (world.read_faults known command block rest fault below place) = (_, refl)
grown (world.issues known command kind block bytes guard done fault missed below place free) = (_, refl)
grown (world.lands number write below is may) = (_, refl)
grown (world.dones known command kind block bytes guard done fault missed number below place waits landed) = (_, refl)
grown (world.write_faults known command kind block bytes guard done fault missed below place) = (_, refl)
grown (world.misses known command kind block bytes guard done fault missed below place free past now) = (_, refl)
grown (world.clocks known command rest below place now) = (_, refl)
grown (world.waits known command from rest below place now past) = (_, refl)
grown (world.crashes below room) = (_, refl)

longer : {w v : World} → ComesAfter w v → length w.history ≤ length v.history
longer here = omega arith
longer (later {u = u} follows step) = let e = ap length (grown step).1 in let l = longer follows in omega (arith, e, l)

reached-later : {w v : World} → Reached w → ComesAfter w v → Reached v
reached-later reached here = reached
reached-later reached (later follows step) = world.later (reached-later reached follows) step

kept-along : (k : Watch) (w : World) → EndsWell k w → (a : ℕ) → Kept k w a w → {v : World} → ComesAfter w v → (since : List Past) → v.history ≡ since ++ w.history →
    AllLeaveAlone a k.from since → Kept k w a v
kept-along k w ready a first here since same alone = first
kept-along k w ready a first (later {u = u} follows step) [] same alone =
    absurd (let past = grown step in let e = ap length (sym same ∙ past.1) in let l = longer follows in omega (arith, e, l))
kept-along k w ready a first (later {u = u} {v = v} follows step) (newest ∷ older) same alone =
    let past = grown step in
    let e : past.0 ∷ u.history ≡ newest ∷ (older ++ w.history) = sym past.1 ∙ same in
    let tail : u.history ≡ older ++ w.history = cc in
    kept-step k w ready step a
    (λ p rest is. let f : p ∷ rest ≡ newest ∷ (older ++ w.history) = sym is ∙ same in let head : newest ≡ p = cc in subst (λ (q : Past). LeavesAlone a k.from q) head alone.0)
    (kept-along k w ready a first follows older tail alone.1)

-- what is clear as the command starts
clear-ready : (w : World) (lease : ℕ) (holds : ℕ → Hold) → IsClear w holds lease → IsReady w.surface.time w.surface.device lease (holds (lease_at lease))
clear-ready w lease holds (inl open') = inl (open'.seen, open'.stands, open'.expired)
clear-ready w lease holds (inr held) = inr held

-- with what is clear each command ends well
ready-command : (w : World) (s : Setting) → IsGeometry w.geometry → s.geometry ≡ w.geometry → (known : Known) (holds : ℕ → Hold) (hand : List ℕ) (reading : ℕ) (command : Command) → CanClaim w holds hand command →
    Quietly (Suits (is_reserve command)) w.surface.time w.surface.device (command_process s known holds hand reading command)
ready-command w s geometry same known holds hand reading (Attach slot) clear =
    fine-attach w.surface.time w.surface.device s known holds hand reading slot (clear-ready w (image_lease slot.0) holds clear)
ready-command w s geometry same known holds hand reading (Reserve count) clear =
    reserves s (subst IsGeometry (sym same) geometry) count holds w.surface.device hand w.surface.time
    (λ e below. clear-ready w (extent_lease s.geometry e) holds (subst (λ (g : Geometry). IsClear w holds (extent_lease g e)) (sym same) (clear.leases e (subst (λ (g : Geometry). e < g.extents) same below))))
    known (subst (λ (g : Geometry). count ≤ length hand + free_blocks g w.surface.device hand g.extents 0) (sym same) clear.room)
ready-command w s geometry same known holds hand reading (Detach slot) clear = inl (fine-command s known holds hand reading (Detach slot) tt)
ready-command w s geometry same known holds hand reading (Create slot size label) clear = inl (fine-command s known holds hand reading (Create slot size label) tt)
ready-command w s geometry same known holds hand reading (Delete slot) clear = inl (fine-command s known holds hand reading (Delete slot) tt)
ready-command w s geometry same known holds hand reading (Read slot vblock) clear = inl (fine-command s known holds hand reading (Read slot vblock) tt)
ready-command w s geometry same known holds hand reading (Write slot vblock payload) clear = inl (fine-command s known holds hand reading (Write slot vblock payload) tt)
ready-command w s geometry same known holds hand reading (Flush slot) clear = inl (fine-command s known holds hand reading (Flush slot) tt)
ready-command w s geometry same known holds hand reading Renew clear = inl (fine-command s known holds hand reading Renew tt)
ready-command w s geometry same known holds hand reading Retire clear = inl (fine-command s known holds hand reading Retire tt)
ready-command w s geometry same known holds hand reading Reclaim clear = inl (fine-command s known holds hand reading Reclaim tt)

-- the command after these is the first of more
first-done : (more : List Finished) (done finished : Finished) (before : List Finished) → finished ∷ before ≡ more ++ done ∷ before → done ≡ finished
first-done [] done finished before same = cc
first-done (one ∷ more) done finished before same =
    absurd (let e = ap length same in let l = length-append more (done ∷ before) in omega (arith, e, l))

-- the watched command has its reply, which is spared
replied-free : (k : Watch) (w : World) (a : ℕ) (v : World) (finished : Finished) → cut v.geometry a (v.seats a) ≡ Between (finished ∷ k.before) → k.command ≡ finished.command →
    k.wanted ≡ first_reading finished.exchanges → Phase k v.geometry a v.surface (v.seats a) → IsUnhindered finished.reply k.space
replied-free k w a v finished done is was (idle place holds hand commands rest) =
    absurd (let e : Between (finished ∷ k.before) ≡ Between k.before = sym done ∙ commands in let f : finished ∷ k.before ≡ k.before = cc in let l = ap length f in omega (arith, l))
replied-free k w a v finished done is was (begun one place holds hand commands rest) =
    absurd (let e : Between (finished ∷ k.before) ≡ Within (log_with k one []) = sym done ∙ commands in let P : ⊥ = cc in P)
replied-free k w a v finished done is was (within known one process exchanges reading place commands first goes) =
    absurd (let e : Between (finished ∷ k.before) ≡ Within (log_with k one exchanges) = sym done ∙ commands in let P : ⊥ = cc in P)
replied-free k w a v finished done is was (over more last told good) =
    let same : last ≡ finished = first-done more last finished k.before (sym (ap finished_of done) ∙ told) in
    subst (λ (f : Finished). IsUnhindered f.reply k.space) same (good (is ∙ ap (λ (f : Finished). f.command) (sym same)) (was ∙ ap (λ (f : Finished). first_reading f.exchanges) (sym same)))

pub ok-where-undisturbed : OkWhereUndisturbed
ok-where-undisturbed w v a before finished reached below follows quiet run clear calm =
    let leased = reached-leased reached in
    let k : Watch = record {
      command = finished.command;
      space = is_reserve finished.command;
      known = run.known;
      hand = (stands w a).hand;
      before = before;
      wanted = first_reading finished.exchanges;
      holds = (stands w a).holds;
      device = w.surface.device;
      from = length w.surface.writes;
      low = w.surface.time;
    } in
    let ready : EndsWell k w = λ s same reading is.
    let H : Geometry → ℕ → Hold = λ g. after_first g run.known reading (stands w a).holds in
    ready-command w s leased.geometry same run.known (H s.geometry) (hand_held s.geometry (H s.geometry) (stands w a).hand) reading finished.command
    (subst (λ (g : Geometry). CanClaim w (H g) (hand_held g (H g) (stands w a).hand) finished.command) (sym same) (clear reading is)) in
    let first : Kept k w a w = record {
      geometry = refl;
      appliances = refl;
      boots = refl;
      time = omega arith;
      phase = idle run.idle refl refl run.start (record {
        long = leased.long;
        same = λ b. refl;
        landed = λ m x late found. absurd (let in_time = slice_get_within w.surface.writes m x found in omega (arith, late, in_time));
        free = refl;
      });
    } in
    let kept = kept-along k w ready a first follows quiet.since quiet.same quiet.alone in
    let free = replied-free k w a v finished run.over refl refl kept.phase in
    let more = kept.appliances in
    let rules = boots-keep-rules v (reached-later reached follows) a (omega (arith, more, below)) in
    let P : Commands → Type 0 = λ c. KeepsFullRules (setting_of v a) c (asks (stands v a).place) (writes_out (stands v a).place) in
    let all = subst P run.over rules in
    let same : setting_of w a ≡ setting_of v a =
    ap (λ g. setting_at g a (w.seats a).boots) (sym kept.geometry) ∙ ap (setting_at v.geometry a) (sym kept.boots) in
    own-reply (setting_of v a) (log_of finished before) (subst (λ (s : Setting). IsUntroubled s (log_of finished before)) same calm) finished.reply all.0.replied free
