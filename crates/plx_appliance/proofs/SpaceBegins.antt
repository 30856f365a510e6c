-- A reserve and a retire at their first reading go by the leases alone.
use Rattle.std.proofs.Common.{◌≡◌, ℕ, zero, suc, ◌+◌, ◌<◌, ◌≤◌, List, [], refl, ap, ◌∙◌, arith}
use Rattle.std.specs.Prelude.{None}
use Rattle.std.proofs.Math.Path.{fun_ext}
use Rattle.plx_commands.specs.declared.reply.Reply.TheVariants as reply
use Rattle.plx_geom.specs.Geometry.{Geometry, extent_lease, image_lease, root_lease, lease_at, lease_count}
use Rattle.plx_rules.specs.InUse.{InUse}
use Rattle.plx_rules.specs.Process.{Process}
use Rattle.plx_rules.specs.Ends.{End, ends}
use Rattle.plx_rules.specs.Holds.{Hold}
use Rattle.plx_rules.specs.Session.{Known}
use Rattle.plx_rules.specs.Settings.{Setting}
use Rattle.plx_rules.specs.Space.{Taking, first_taking, if_needed, reserve_process, retire_extent, retire_extents, retire_images, retire_lease, retire_process, take_held, take_if_held, take_if_other, take_others, take_process, taken_process}

-- of each lease the same is held
abbrev pub AreSame : Geometry → (holds others : ℕ → Hold) → Type 0
AreSame g holds others = (lease : ℕ) → lease < lease_count g → holds (lease_at lease) ≡ others (lease_at lease)

-- of each lease of an extent the same is held
abbrev pub AreSameExtents : Geometry → (holds others : ℕ → Hold) → Type 0
AreSameExtents g holds others = (extent : ℕ) → extent < g.extents → holds (lease_at (extent_lease g extent)) ≡ others (lease_at (extent_lease g extent))

pub same-extents : (g : Geometry) (holds others : ℕ → Hold) → AreSame g holds others → AreSameExtents g holds others
same-extents g holds others h extent within = h (extent_lease g extent) (omega (arith, within))

held-agree : (s : Setting) (count : ℕ) (holds others : ℕ → Hold) (left extent : ℕ) (rest : Taking → Process End) → AreSameExtents s.geometry holds others →
    extent + left ≤ s.geometry.extents → take_held s count holds left extent rest ≡ take_held s count others left extent rest
held-agree s count holds others zero extent rest h within = refl
held-agree s count holds others (suc left) extent rest h within =
    let next = held-agree s count holds others left (extent + 1) rest h (omega (arith, within)) in
    let here = h extent (omega (arith, within)) in
    let lease = lease_at (extent_lease s.geometry extent) in
    let go = λ (hold : Hold) (after : Taking → Process End) (t : Taking). if_needed count (take_if_held s count extent hold after) after t in
    fun_ext (λ (t : Taking). ap (λ (hold : Hold). go hold (take_held s count holds left (extent + 1) rest) t) here
    ∙ ap (λ (after : Taking → Process End). go (others lease) after t) next)

others-agree : (s : Setting) (count : ℕ) (holds others : ℕ → Hold) (left extent : ℕ) (rest : Taking → Process End) → AreSameExtents s.geometry holds others →
    extent + left ≤ s.geometry.extents → take_others s count holds left extent rest ≡ take_others s count others left extent rest
others-agree s count holds others zero extent rest h within = refl
others-agree s count holds others (suc left) extent rest h within =
    let next = others-agree s count holds others left (extent + 1) rest h (omega (arith, within)) in
    let here = h extent (omega (arith, within)) in
    let lease = lease_at (extent_lease s.geometry extent) in
    let go = λ (hold : Hold) (after : Taking → Process End) (t : Taking). if_needed count (take_if_other s count extent hold after) after t in
    fun_ext (λ (t : Taking). ap (λ (hold : Hold). go hold (take_others s count holds left (extent + 1) rest) t) here
    ∙ ap (λ (after : Taking → Process End). go (others lease) after t) next)

pub take-agrees : (s : Setting) (holds others : ℕ → Hold) (count : ℕ) (rest : Taking → Process End) (t : Taking) → AreSameExtents s.geometry holds others →
    take_process s holds count rest t ≡ take_process s others count rest t
take-agrees s holds others count rest t h =
    let n = s.geometry.extents in
    let first : take_others s count holds n 0 (taken_process s count rest) ≡ take_others s count others n 0 (taken_process s count rest) =
    others-agree s count holds others n 0 (taken_process s count rest) h (omega arith) in
    ap (λ (after : Taking → Process End). take_held s count holds n 0 after t) first
    ∙ ap (λ (process : Taking → Process End). process t) (held-agree s count holds others n 0 (take_others s count others n 0 (taken_process s count rest)) h (omega arith))

pub reserve-agrees : (s : Setting) (known : Known) (holds others : ℕ → Hold) (hand : List ℕ) (count : ℕ) → AreSameExtents s.geometry holds others →
    reserve_process s known holds hand count ≡ reserve_process s known others hand count
reserve-agrees s known holds others hand count h =
    take-agrees s holds others count (λ t. ends reply.Reserved t.known) (first_taking [] known hand) h

pub extents-agree : (s : Setting) (known : Known) (uses : List InUse) (holds others : ℕ → Hold) (hand : List ℕ) (left extent : ℕ) (rest : Process End) → AreSameExtents s.geometry holds others →
    extent + left ≤ s.geometry.extents → retire_extents s known uses holds hand left extent rest ≡ retire_extents s known uses others hand left extent rest
extents-agree s known uses holds others hand zero extent rest h within = refl
extents-agree s known uses holds others hand (suc left) extent rest h within =
    let lease = lease_at (extent_lease s.geometry extent) in
    ap (λ (hold : Hold). retire_extent s known uses hand extent hold (retire_extents s known uses holds hand left (extent + 1) rest)) (h extent (omega (arith, within)))
    ∙ ap (retire_extent s known uses hand extent (others lease)) (extents-agree s known uses holds others hand left (extent + 1) rest h (omega (arith, within)))

pub images-agree : (s : Setting) (known : Known) (holds others : ℕ → Hold) (left image : ℕ) (rest : Process End) →
    ((place : ℕ) → image ≤ place → place < image + left → holds (lease_at (image_lease place)) ≡ others (lease_at (image_lease place))) → retire_images s known holds left image rest ≡ retire_images s known others left image rest
images-agree s known holds others zero image rest h = refl
images-agree s known holds others (suc left) image rest h =
    let lease = lease_at (image_lease image) in
    ap (λ (hold : Hold). retire_lease s known (image_lease image) (known.sessions image) hold (retire_images s known holds left (image + 1) rest)) (h image (omega arith) (omega arith))
    ∙ ap (retire_lease s known (image_lease image) (known.sessions image) (others lease)) (images-agree s known holds others left (image + 1) rest (λ place low high. h place (omega (arith, low)) (omega (arith, high))))

pub retire-agrees : (s : Setting) (known : Known) (holds others : ℕ → Hold) (hand : List ℕ) → AreSame s.geometry holds others →
    retire_process s known holds hand ≡ retire_process s known others hand
retire-agrees s known holds others hand h =
    let g = s.geometry in
    let root = λ (hold : Hold). retire_lease s known root_lease None hold (ends reply.Retired known) in
    let last = h root_lease (omega arith) in
    ap (λ (hold : Hold). retire_extents s known [] holds hand g.extents 0 (retire_images s known holds g.images 0 (root hold))) last
    ∙ ap (retire_extents s known [] holds hand g.extents 0) (images-agree s known holds others g.images 0 (root (others (lease_at root_lease))) (λ place low high. h (image_lease place) (omega (arith, high))))
    ∙ extents-agree s known [] holds others hand g.extents 0 (retire_images s known others g.images 0 (root (others (lease_at root_lease)))) (same-extents g holds others h) (omega arith)
