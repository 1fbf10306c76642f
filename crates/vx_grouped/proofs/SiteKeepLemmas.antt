-- Which blocks of a write a site's group has, by its note.
use Rattle.std.proofs.Common.{◌≡◌, ℕ, Bool, List, sym, subst, refl}
use Rattle.std.specs.Prelude.{Ok, Err}
use Rattle.vx_model.specs.declared.no.No.{No}
use Rattle.vx_model.specs.declared.no.No.TheVariants.{Device, Down as IsOff}
use Rattle.vx_disk.specs.Causes.{DeviceCause}
use Rattle.vx_disk.specs.declared.shelf.Shelf.{Ghosts}
use Rattle.vx_history.specs.Groups.{GroupNode}
use Rattle.vx_history.specs.Steps.{burned}
use Rattle.vx_history.specs.World.{Node}
use Rattle.vx_watched.specs.Since.{CalledSince}
use Rattle.vx_config.specs.declared.config.Config.{Config}
use Rattle.vx_grouped.specs.GroupNotes.{IsGroupAt}
use Rattle.vx_grouped.specs.GroupSites.{GroupUp, laid_disks, laid_below}
use Rattle.vx_grouped.specs.SiteKeeps.{PlainKeeps, PlainKept}
use Rattle.vx_grouped.specs.declared.laid.Laid.{Laid}
use Rattle.vx_grouped.specs.declared.group_site.GroupSite.TheVariants.{Up}
use Rattle.vx_grouped.proofs.SettleLemmas.{fuse_burned}
use Rattle.vx_grouped.proofs.SiteLemmas.{up_burned}
use Rattle.vx_config.specs.Configs.{HasSpelling}
use Rattle.vx_kept.specs.Cleans.{at_serial}
use Rattle.vx_watched.specs.Traces.{TellsLess}
use Rattle.vx_grouped.proofs.TraceLemmas.{lit_since}

module _ {R : Type 0} {g : Ghosts R} (n : Node) (note : GroupNode) (v b : ℕ) (bytes : List ℕ) (group new : Laid R g) (up : GroupUp n note (laid_below group).tells group.core (laid_disks group)) (since : CalledSince (laid_disks group) (laid_disks new)) (less : TellsLess (laid_below group) (laid_below new)) where
  stays_up : IsGroupAt n note new.core (laid_disks new) → new.core.inner.config ≡ group.core.inner.config → GroupUp (record n { fuse = burned n.fuse }) note (laid_below new).tells new.core (laid_disks new)
  stays_up at same = up_burned n note (laid_below new).tells new.core (laid_disks new) up.noted (lit_since note (note) (laid_below group).tells (laid_below new).tells (laid_disks group) (laid_disks new) refl since.tells less up.lit) (subst (λ (c : Config). HasSpelling (at_serial 0 c)) (sym same) up.spells) (fuse_burned n.fuse (laid_disks group) (laid_disks new) since.unarmed up.fuse) at

  pub kept_done : (bits : List Bool) → PlainKeeps v b bytes group.core (laid_disks group) new.core (laid_disks new) (Ok bits) → PlainKept n note v b bytes (Up group) (Up new) (Ok bits)
  kept_done bits it = (it.kept note up.at.lies.holds, stays_up (it.stays n note up.at) it.same)

  kept_by : (why : No) → IsGroupAt n note new.core (laid_disks new) → new.core.inner.config ≡ group.core.inner.config → DeviceCause (laid_disks group) (laid_disks new) why → PlainKept n note v b bytes (Up group) (Up new) (Err why)
  kept_by (Device disk) at same cause = (stays_up at same, cause)
  kept_by IsOff at same cause = absurd (at.up cause)
  kept_by other at same cause = absurd cause

  pub kept_failed : (why : No) → PlainKeeps v b bytes group.core (laid_disks group) new.core (laid_disks new) (Err why) → PlainKept n note v b bytes (Up group) (Up new) (Err why)
  kept_failed why it = kept_by why (it.stays n note up.at) it.same it.cause
