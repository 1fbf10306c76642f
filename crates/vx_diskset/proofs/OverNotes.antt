-- How the note of a group moves in calls on the replicated volume group over it.
use Rattle.std.proofs.Common.{◌≡◌, ◌∙◌, inl, inr, ℕ, ◌<◌, Bool, true, false, List, refl, sym, arith}
use Rattle.vx_disk.specs.Racks.{IsRack}
use Rattle.vx_disk.specs.declared.shelf.Shelf.{Ghosts}
use Rattle.vx_untold.specs.Shades.{shade_meaning}
use Rattle.vx_untold.specs.declared.shade.Shade.{Shade}
use Rattle.vx_history.specs.Groups.{BlockMay, GroupNode}
use Rattle.vx_history.specs.World.{Node}
use Rattle.vx_model.specs.declared.units.Units.{Units}
use Rattle.vx_config.specs.Configs.{HasSpelling}
use Rattle.vx_kept.specs.Cleans.{at_serial}
use Rattle.vx_watched.specs.Since.{CalledSince}
use Rattle.vx_watched.specs.Traces.{TellsLess}
use Rattle.vx_ground.specs.Accounts.{GroundSince, ground_state}
use Rattle.vx_ground.specs.Lifted.{laid_volumes}
use Rattle.vx_ground.proofs.AccountLemmas.{account_loses}
use Rattle.vx_grouped.specs.ConfigMoves.{LosesSome}
use Rattle.vx_grouped.specs.GroupNotes.{noted_config}
use Rattle.vx_grouped.specs.GroupSites.{GroupUp, laid_below, laid_disks}
use Rattle.vx_grouped.specs.SiteEnds.{ConfigGoes}
use Rattle.vx_grouped.specs.declared.group_site.GroupSite.TheVariants.{Up}
use Rattle.vx_grouped.specs.declared.laid.Laid.{Laid}
use Rattle.vx_grouped.proofs.BothLemmas.{both_on}
use Rattle.vx_grouped.proofs.SettleLemmas.{fell_fused}
use Rattle.vx_grouped.proofs.SpellLemmas.{spells_like}
use Rattle.vx_diskset.specs.Aboves.{InsideOf}
use Rattle.vx_diskset.specs.Noted.{NotesWorked, below_rvg}
use Rattle.vx_diskset.specs.Shelves.{ChangesOnly, OfRvg}
use Rattle.vx_diskset.proofs.GroundNotes.{ground_agrees, ground_cut, ground_tidy, ground_up, note_ground, note_works}

-- ---- the group of a site, behind calls on the replicated volume group over it

module _ {R : Type 0} {g : Ghosts R} (n : Node) (note : GroupNode) (units : Units) (old new : Laid R g) (racks : (s : Shade R) → IsRack (shade_meaning g.meaning s)) (up : GroupUp (below_rvg n) note (laid_below old).tells old.core (laid_disks old))
    (ground : GroundSince (ground_state old.core) (laid_disks old) (ground_state new.core) (laid_disks new)) (since : CalledSince (laid_disks old) (laid_disks new)) (less : TellsLess (laid_below old) (laid_below new))
    (moves : ChangesOnly (OfRvg units) (laid_volumes old) (laid_volumes new)) (inside : InsideOf units note) where
  spells : HasSpelling (at_serial 0 new.core.inner.config)
  spells = spells_like old.core.inner.config new.core.inner.config ground.parts ground.frames ground.blocks up.spells

  sizes : (v : ℕ) → note.bytes.size v ≡ (laid_volumes new).size v
  sizes v = up.at.lies.holds.size v ∙ sym (moves.size v)

  may : (v b : ℕ) (x : List ℕ) → v < (laid_volumes new).units → b < (laid_volumes new).size v → (laid_volumes new).leaves v b x → BlockMay note v b x
  may v b x low within left = elim (moves.leaves v b x left) [
    | inl was ↦ up.at.lies.holds.has v b x (let same = moves.units in omega (arith, low, same)) (let same = moves.size v in omega (arith, within, same)) was
    | inr mine ↦ inl (inside v mine)
  ]

  abbrev next : GroupNode
  next = note_ground (noted_config new.core.inner.config) new.core note

  goes : ConfigGoes (LosesSome (laid_disks old) (laid_disks new)) note next (Up old) (Up new)
  goes = record {
    was = old.core.inner.config;
    now = new.core.inner.config;
    had = refl;
    has = refl;
    noted = record { is = up.at.lies.config; spells = up.spells };
    noted_now = record { is = refl; spells = spells };
    change = account_loses (ground_state old.core) (ground_state new.core) (laid_disks old) (laid_disks new) (racks old.shelf).counts (racks new.shelf).counts ground
        (both_on old.core new.core (laid_disks old) (laid_disks new) old.stands.group new.stands.group);
  }

  by_down : (t : Bool) → (laid_disks new).down ≡ t → NotesWorked n note (Up old) (Up new)
  by_down false is = (
    next,
    note_works new.core note (noted_config new.core.inner.config),
    goes,
    inl (
      ground_up (below_rvg n) note note old.core.inner.config old new up ground since less refl sizes may spells is,
      ground_agrees (below_rvg n) note note old.core.inner.config old new up ground since less refl sizes may is,
    ),
    ground_tidy (noted_config new.core.inner.config) new.core note,
  )
  by_down true is = (
    next,
    note_works new.core note (noted_config new.core.inner.config),
    goes,
    inr (
      ground_cut (below_rvg n) note note old.core.inner.config old new up ground since less refl sizes may spells is,
      fell_fused n.fuse (laid_disks old) (laid_disks new) up.fuse up.at.up since.safe is,
    ),
    ground_tidy (noted_config new.core.inner.config) new.core note,
  )

  -- its note moves so
  pub over_notes : NotesWorked n note (Up old) (Up new)
  over_notes = by_down (laid_disks new).down refl

  by_next : (t : Bool) (is : (laid_disks new).down ≡ t) → (by_down t is).0 ≡ next
  unfolding by_down
  by_next false is = refl
  by_next true is = refl

  -- to this one
  pub next_is : over_notes.0 ≡ next
  unfolding over_notes
  next_is = by_next (laid_disks new).down refl
