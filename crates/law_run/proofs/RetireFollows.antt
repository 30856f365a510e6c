-- What a retire asks follows on what it has met.
use Rattle.std.proofs.Common.{◌≡◌, ◌≢◌, ℕ, zero, suc, ◌+◌, List, [], ◌∷◌, Bool, Option, Some, None, refl, sym, ◌∙◌}
use Rattle.plx_base.specs.declared.write_kind.WriteKind.{WriteKind}
use Rattle.plx_base.specs.declared.write_kind.WriteKind.TheVariants as kind
use Rattle.plx_commands.specs.declared.command.Command.TheVariants.{Retire}
use Rattle.plx_commands.specs.declared.reply.Reply.TheVariants as reply
use Rattle.plx_disk.specs.declared.ask.Ask.{Ask}
use Rattle.plx_geom.proofs.Places.{lease-map}
use Rattle.plx_geom.specs.Geometry.{root_lease, image_lease, extent_lease, lease_at, map_at}
use Rattle.plx_rules.specs.Ends.{End, ends, lost_process, write_then}
use Rattle.plx_rules.specs.Holds.{Hold, Nothing, Seen, Wrote, Waited, Held}
use Rattle.plx_rules.specs.InUse.{InUse, first_reached, unless_reached}
use Rattle.plx_rules.specs.Process.{Process}
use Rattle.plx_rules.specs.Session.{Session, Known}
use Rattle.plx_rules.specs.Settings.{Setting}
use Rattle.plx_rules.specs.Space.{extent_use, read_map, release_then, in_extent, give_found, give_process, retire_extent, retire_extents, retire_lease, retire_images, retire_process}
use Rattle.law_run.specs.Causes.{MayFollow}
use Rattle.law_run.specs.CommandLogs.{Exchange, Finished}
use Rattle.law_run.proofs.Following.{first-follows, read-inside, no-attach}
use Rattle.law_run.proofs.GivingUp.{retire_asks}
use Rattle.law_run.proofs.Meets.{Meets, meets-more}
use Rattle.law_run.proofs.OnExtent.{retire-fine}
use Rattle.law_run.proofs.Right.{clock, read_of, log_on, MayByCauses}

-- one answer for each image
abbrev pub image_asks : (left n : ℕ) → ℕ
image_asks zero n = n
image_asks (suc left) n = suc (image_asks left n)

module _ (s : Setting) (before : List Finished) (known : Known) where
  -- after these exchanges, with so many answers left, each ask of the rest follows on what was met
  abbrev FollowsAll : List Exchange → Process End → ℕ → Type 0
  FollowsAll done process n = Meets (MayByCauses s before Retire) (λ d end. Unit {0}) done process n

  -- any ask may follow on them
  abbrev Calm : List Exchange → Type 0
  Calm done = (a : Ask) → MayFollow s (log_on before Retire done) a

  -- some work follows wherever any ask may
  abbrev FollowsCalm : Process End → ℕ → Type 0
  FollowsCalm process n = (done : List Exchange) → Calm done → FollowsAll done process n

  more : (process : Process End) (n : ℕ) → FollowsCalm process n → FollowsCalm process (suc n)
  more process n rest done calm = meets-more (MayByCauses s before Retire) (λ d end. Unit {0}) process done n (rest done calm)

  -- a map that spells its bits
  map-calm : (done : List Exchange) (extent : ℕ) (bytes : List ℕ) → read_map s.geometry.extent_blocks bytes ≢ None → Calm (read_of (map_at s.geometry extent) bytes ∷ done)
  map-calm done extent bytes some a = (
    λ outside. absurd (read-inside s (log_on before Retire (read_of (map_at s.geometry extent) bytes ∷ done)) (map_at s.geometry extent) bytes refl
        (λ lease less same. absurd (lease-map s.geometry lease extent less (sym same))) (λ other below same. some) (λ image named. (let P : ⊥ = cc in absurd P)) outside),
    no-attach s (log_on before Retire (read_of (map_at s.geometry extent) bytes ∷ done)) (λ slot is. (let P : ⊥ = cc in P)),
  )

  -- a write, and work after it
  write-calm : (due : InUse) (k : WriteKind) (block : ℕ) (bytes : List ℕ) (rest : Process End) (n : ℕ) → FollowsCalm rest n → FollowsCalm (write_then s known due k block bytes rest) (suc n)
  write-calm due k block bytes rest n follows done calm = (calm _, follows _ (λ a. tt), tt, λ reading past small. tt)

  -- bytes that are no map
  ends-both : (found : Option InUse) (reading : ℕ) (process : Process End) (done : List Exchange) (n : ℕ) → FollowsAll done process n → FollowsAll done (unless_reached found (λ due. lost_process s known due reading) process) n
  ends-both None reading process done n rest = rest
  ends-both (Some due) reading process done n rest = tt

  map-found : (done : List Exchange) (extent until : ℕ) (blocks bytes : List ℕ) (found : Option (List Bool)) → read_map s.geometry.extent_blocks bytes ≡ found → (rest : Process End) (n : ℕ) →
      FollowsCalm rest n → FollowsAll (read_of (map_at s.geometry extent) bytes ∷ done) (give_found s known [] extent until blocks found rest) (suc n)
  map-found done extent until blocks bytes None is rest n follows = (
    (λ outside. refl, no-attach s (log_on before Retire (read_of (map_at s.geometry extent) bytes ∷ done)) (λ slot is. (let P : ⊥ = cc in P))),
    λ reading small. ends-both (first_reached (extent_use s.geometry extent until ∷ []) reading) reading (ends (reply.Damaged (record { 0 = map_at s.geometry extent })) known) _ n tt,
  )
  map-found done extent until blocks bytes (Some bits) is rest n follows =
      write-calm (extent_use s.geometry extent until) kind.Give (map_at s.geometry extent) _ rest n follows (read_of (map_at s.geometry extent) bytes ∷ done)
      (map-calm done extent bytes (λ none. (let e = sym is ∙ none in let P : ⊥ = cc in P)))

  give-calm : (extent until : ℕ) (blocks : List ℕ) (rest : Process End) (n : ℕ) → FollowsCalm rest n → FollowsCalm (give_process s known [] extent until blocks rest) (suc (suc n))
  give-calm extent until [] rest n follows done calm = more rest (suc n) (more rest n follows) done calm
  give-calm extent until (block ∷ blocks) rest n follows done calm =
      (calm _, λ bytes long. map-found done extent until (block ∷ blocks) bytes (read_map s.geometry.extent_blocks bytes) refl rest n follows, tt)

  module _ (holds : ℕ → Hold) (hand : List ℕ) where
    extent-calm : (extent : ℕ) (hold : Hold) (rest : Process End) (n : ℕ) → FollowsCalm rest n → FollowsCalm (retire_extent s known [] hand extent hold rest) (suc (suc (suc n)))
    extent-calm extent (Held claim until) rest n follows =
        give-calm extent until (in_extent s.geometry extent hand) (release_then s known (extent_use s.geometry extent until) rest) (suc n)
        (write-calm (extent_use s.geometry extent until) kind.Release _ _ rest n follows)
    extent-calm extent Nothing rest n follows = more rest (suc (suc n)) (more rest (suc n) (more rest n follows))
    extent-calm extent (Seen sample) rest n follows = more rest (suc (suc n)) (more rest (suc n) (more rest n follows))
    extent-calm extent (Wrote claim until) rest n follows = more rest (suc (suc n)) (more rest (suc n) (more rest n follows))
    extent-calm extent (Waited claim until) rest n follows = more rest (suc (suc n)) (more rest (suc n) (more rest n follows))

    extents-calm : (left extent : ℕ) (rest : Process End) (n : ℕ) → FollowsCalm rest n → FollowsCalm (retire_extents s known [] holds hand left extent rest) (retire_asks left n)
    extents-calm zero extent rest n follows = follows
    extents-calm (suc left) extent rest n follows =
        extent-calm extent (holds (lease_at (extent_lease s.geometry extent))) (retire_extents s known [] holds hand left (extent + 1) rest) (retire_asks left n) (extents-calm left (extent + 1) rest n follows)

    lease-calm : (lease : ℕ) (session : Option Session) (hold : Hold) (rest : Process End) (n : ℕ) → FollowsCalm rest n → FollowsCalm (retire_lease s known lease session hold rest) (suc n)
    lease-calm lease None (Held claim until) rest n follows = write-calm (record { lease = lease; until = until }) kind.Release _ _ rest n follows
    lease-calm lease None Nothing rest n follows = more rest n follows
    lease-calm lease None (Seen sample) rest n follows = more rest n follows
    lease-calm lease None (Wrote claim until) rest n follows = more rest n follows
    lease-calm lease None (Waited claim until) rest n follows = more rest n follows
    lease-calm lease (Some session) hold rest n follows = more rest n follows

    images-calm : (left image : ℕ) (rest : Process End) (n : ℕ) → FollowsCalm rest n → FollowsCalm (retire_images s known holds left image rest) (image_asks left n)
    images-calm zero image rest n follows = follows
    images-calm (suc left) image rest n follows =
        lease-calm (image_lease image) (known.sessions image) (holds (lease_at (image_lease image))) (retire_images s known holds left (image + 1) rest) (image_asks left n)
        (images-calm left (image + 1) rest n follows)

    -- from the first reading on
    pub retire-follows : (reading : ℕ) → FollowsAll (clock reading ∷ []) (retire_process s known holds hand) (retire_asks s.geometry.extents (image_asks s.geometry.images 1))
    retire-follows reading =
        extents-calm s.geometry.extents 0 _ (image_asks s.geometry.images 1)
        (images-calm s.geometry.images 0 _ 1 (lease-calm root_lease None (holds (lease_at root_lease)) (ends reply.Retired known) 0 (λ done calm. tt)))
        (clock reading ∷ []) (first-follows s before Retire reading (retire-fine s before reading) (λ image until named is. (let P : ⊥ = cc in absurd P)))
