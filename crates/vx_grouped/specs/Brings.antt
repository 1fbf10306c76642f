-- What an import makes of the volumes of a group, all of their blocks together.
use Rattle.std.specs.Prelude.{◌≡◌, ℕ, Bool, true, IsSome, IsTrue, List, Option, Result, Ok, Err}
use Rattle.vx_disk.specs.Shelf.{Each, Image, Goes, Meaning, Nothing}
use Rattle.vx_disk.specs.Racks.{Alike}
use Rattle.vx_disk.specs.declared.shelf.Shelf.{Ghosts}
use Rattle.vx_model.specs.declared.errors.Stop.{Stop}
use Rattle.vx_untold.specs.Shades.{shade_meaning}
use Rattle.vx_untold.specs.declared.shade.Shade.{Shade}
use Rattle.vx_grouped.specs.declared.group_site.GroupSite.{GroupSite}
use Rattle.vx_grouped.specs.declared.group_site.GroupSite.TheVariants.{Down, Marked, Up}
use Rattle.vx_grouped.specs.declared.laid.Laid.{Laid}
use Rattle.vx_grouped.specs.SiteReturns.{stops_early}
use Rattle.vx_logimport.specs.declared.rested.Rested.{Rested}
use Rattle.vx_config.specs.declared.config.Config.{Config}
use Rattle.vx_copies.specs.Answers.{returned}
use Rattle.vx_copyfmt.specs.Imports.{Found}
use Rattle.vx_kept.specs.Groups.{Shows, found, group_meaning}
use Rattle.vx_kept.specs.Keeping.{Extends}
use Rattle.vx_kept.specs.Opens.{OpenVolumes}
use Rattle.vx_volume.specs.Plexes.{Inside}
use Rattle.vx_group.specs.Holding.{wide}
use Rattle.vx_group.specs.Resumes.{AtRest, stopped}
use Rattle.vx_group.specs.Stands.{inner_meaning}
use Rattle.vx_group.specs.declared.group_core.GroupCore.{GroupCore}

-- A configuration was found in an image of the disks. By it, each plex that takes part being ACTIVE, the volumes had all that they have now; and the group has the
-- replicated volume group that it names.
pub record TookVolumes (old : Meaning) (core : GroupCore) (m : Meaning) : Type 0 where
  pub image : Image
  pub config : Config
  pub readable : ℕ → Bool
  pub opened : Config
  pub each : Each old.leaves image
  pub is : found old image ≡ Found config
  pub opens : OpenVolumes 0 (returned readable config) opened
  pub goes : Goes Nothing (group_meaning opened (λ v. 0) old) (inner_meaning (wide core) m)
  pub rvg : core.inner.config.rvg ≡ config.rvg

-- So it is where contents are told, which they are as before; and of disks that crashed a volume that stopped uncleanly has what an image of them shows, one value
-- of each block.
pub record BringsVolumes (old : Meaning) (core : GroupCore) (m : Meaning) : Type 0 where
  pub tells : m.tells ≡ old.tells
  pub took : IsTrue old.tells → TookVolumes old core m
  pub unclean : IsTrue old.tells → (c x : Config) (i above : Image) (v b : ℕ) (value : List ℕ) → AtRest old → Each old.leaves i → found old i ≡ Found x → Extends x c → Shows c x i above → stopped x v ≡ true → Inside c v b
      → (inner_meaning (wide core) m).leaves v b value → value ≡ above v b

-- where it is done
abbrev pub BringsGroup : {S G E : Type 0} → Meaning → (S → Meaning) → (G → GroupCore) → (G → S) → Result G E → Type 0
BringsGroup old meaning core shelf (Ok g) = BringsVolumes old (core g) (meaning (shelf g))
BringsGroup old meaning core shelf (Err e) = Unit {0}

-- it is known which volumes rest, where this is answered
abbrev pub RestKnown : Option Rested → Result (Unit {0}) Stop → Type 0
RestKnown o (Ok done) = IsSome o
RestKnown o (Err stop) = stops_early stop ≡ true → IsSome o

module _ {R : Type 0} {g : Ghosts R} where
  -- the same of a group that came up of disks that were alike
  pub record BringsSite (old : Meaning) (laid : Laid R g) : Type 0 where
    pub first : Shade R
    pub revived : Alike old (shade_meaning g.meaning first)
    pub brings : BringsVolumes (shade_meaning g.meaning first) laid.core (shade_meaning g.meaning laid.shelf)

  -- where it did
  abbrev pub BringsAtSite : Meaning → GroupSite R g → Result (Unit {0}) Stop → Type 0
  BringsAtSite old (Up laid) (Ok done) = BringsSite old laid
  BringsAtSite old other r = Unit {0}

  -- It came up where the answer says so, and is not up where it was refused; its disks are those of a group.
  abbrev pub AnswersUp : GroupSite R g → Result (Unit {0}) Stop → Type 0
  AnswersUp (Up laid) (Ok done) = Unit {0}
  AnswersUp (Up laid) (Err stop) = ⊥
  AnswersUp (Marked rack) r = ⊥
  AnswersUp other (Ok done) = ⊥
  AnswersUp other (Err stop) = Unit {0}

  -- So it is of one that was not up; one that was, and disks on which a group was begun, are as they were, and refused.
  abbrev pub ComesUp : GroupSite R g → GroupSite R g → Result (Unit {0}) Stop → Type 0
  ComesUp (Up laid) new (Ok done) = ⊥
  ComesUp (Up laid) new (Err stop) = new ≡ Up laid
  ComesUp (Marked rack) new (Ok done) = ⊥
  ComesUp (Marked rack) new (Err stop) = new ≡ Marked rack
  ComesUp other new r = AnswersUp new r

  -- disks that crashed come up, or are refused before anything was written, only where it is known which volumes rest
  abbrev pub CameKnown : GroupSite R g → Result (Unit {0}) Stop → Type 0
  CameKnown (Down idle) r = RestKnown idle.rested r
  CameKnown old r = Unit {0}
