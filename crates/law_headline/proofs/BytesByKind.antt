-- Which bytes of its block a write may change, by its kind.
use Rattle.std.proofs.Common.{◌≡◌, ℕ, inl, inr, List, ap, sym, subst, ◌∙◌}
use Rattle.std.proofs.lemmas.Bool.Decides.{eqb_tells}
use Rattle.plx_base.proofs.Spelling.{landed-same}
use Rattle.plx_base.specs.Sectors.{with_landed_sector}
use Rattle.plx_base.specs.Spelling.{OnlySector}
use Rattle.plx_base.specs.declared.write_kind.WriteKind.{WriteKind}
use Rattle.plx_base.specs.declared.write_kind.WriteKind.TheVariants as kind

-- only these bytes differ: of a record and of a descriptor, those of the first sector; of a journal's data all may; nothing is said of other kinds
abbrev pub OnlyBytes : WriteKind → (new old : List ℕ) → Type 0
OnlyBytes kind.Claim new old = Unit {0}
OnlyBytes kind.Renew new old = Unit {0}
OnlyBytes kind.Release new old = Unit {0}
OnlyBytes kind.Take new old = Unit {0}
OnlyBytes kind.Give new old = Unit {0}
OnlyBytes kind.Sweep new old = Unit {0}
OnlyBytes kind.Fresh new old = Unit {0}
OnlyBytes kind.Link new old = Unit {0}
OnlyBytes kind.Overwrite new old = Unit {0}
OnlyBytes kind.Record new old = OnlySector 0 new old
OnlyBytes kind.Log new old = Unit {0}
OnlyBytes kind.JData new old = Unit {0}
OnlyBytes kind.JCommit new old = OnlySector 0 new old

-- a landing leaves the block the new one, or as it was
only-again : (sector landing : ℕ) (new old : List ℕ) → OnlySector sector new old → OnlySector sector new (with_landed_sector landing new old)
only-again sector landing new old only = elim (eqb_tells landing sector) [
  | inl same ↦
      let is : with_landed_sector landing new old ≡ new = ap (λ (k : ℕ). with_landed_sector k new old) same.1 ∙ only.own in
      subst (OnlySector sector new) (sym is) (record { own = landed-same sector new; others = λ other away. landed-same other new })
  | inr away ↦ subst (OnlySector sector new) (sym (only.others landing away.1)) only
]

-- so only these bytes differ still where one of its sectors has landed
pub only-lands : (k : WriteKind) (sector : ℕ) (new old : List ℕ) → OnlyBytes k new old → OnlyBytes k new (with_landed_sector sector new old)
only-lands kind.Claim sector new old only = tt
only-lands kind.Renew sector new old only = tt
only-lands kind.Release sector new old only = tt
only-lands kind.Take sector new old only = tt
only-lands kind.Give sector new old only = tt
only-lands kind.Sweep sector new old only = tt
only-lands kind.Fresh sector new old only = tt
only-lands kind.Link sector new old only = tt
only-lands kind.Overwrite sector new old only = tt
only-lands kind.Record sector new old only = only-again 0 sector new old only
only-lands kind.Log sector new old only = tt
only-lands kind.JData sector new old only = tt
only-lands kind.JCommit sector new old only = only-again 0 sector new old only
