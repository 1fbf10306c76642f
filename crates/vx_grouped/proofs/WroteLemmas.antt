-- Writes and reads of a site's group, by its note.
use Rattle.std.proofs.Common.{ap, refl, sym, subst, ◌≡◌, ℕ, true, false, List, [], IsTrue, arith, ◌∙◌}
use Rattle.std.specs.Prelude.{Result, Ok, Err}
use Rattle.vx_model.specs.Content.{Write}
use Rattle.vx_model.specs.declared.no.No.{No}
use Rattle.vx_model.specs.declared.no.No.TheVariants.{Device, Down as IsOff}
use Rattle.vx_model.specs.declared.site.SiteState.TheVariants.{Down as IsDown}
use Rattle.vx_disk.specs.Causes.{DeviceCause}
use Rattle.vx_disk.specs.Racks.{IsRack, Stopped}
use Rattle.vx_disk.specs.Shelf.{Meaning}
use Rattle.vx_untold.specs.declared.shade.Shade.{Shade}
use Rattle.vx_disk.specs.declared.shelf.Shelf.{Ghosts}
use Rattle.vx_history.specs.Groups.{GroupNode, note_cut, note_doubt, note_write}
use Rattle.vx_history.specs.Steps.{burned}
use Rattle.vx_history.specs.World.{Node}
use Rattle.vx_copies.proofs.OneTry.{wanted_count}
use Rattle.vx_group.proofs.HoldLemmas.{narrow_sound}
use Rattle.vx_group.specs.Holding.{wide}
use Rattle.vx_group.specs.Loses.{LosesPlexes}
use Rattle.vx_group.proofs.LoseLemmas.{loses_same}
use Rattle.vx_watched.specs.Since.{CalledSince}
use Rattle.vx_config.specs.declared.config.Config.{Config}
use Rattle.vx_grouped.specs.Away.{IsAwayAt}
use Rattle.vx_grouped.specs.Ends.{WriteLeaves, plain_write}
use Rattle.vx_grouped.specs.GroupNotes.{GroupLies, IsGroupAt, note_called, noted_config}
use Rattle.vx_grouped.specs.GroupSites.{GroupUp, idle_disks, laid_disks, site_disks, IsLit, laid_below, idle_below}
use Rattle.vx_grouped.specs.SiteEnds.{ConfigGoes, PlainRead, PlainWrote, HasNow, is_off}
use Rattle.vx_grouped.specs.Watches.{PlainReads, PlainWrites}
use Rattle.vx_grouped.specs.declared.idle.Idle.{Idle}
use Rattle.vx_grouped.specs.declared.laid.Laid.{Laid}
use Rattle.vx_grouped.specs.declared.group_site.GroupSite.{GroupSite}
use Rattle.vx_grouped.specs.declared.group_site.GroupSite.TheVariants.{Up, Down}
use Rattle.vx_grouped.proofs.WriteLemmas.{both_lose}
use Rattle.vx_grouped.proofs.SettleLemmas.{called_settles, called_unsettles, fell_fused, fuse_burned}
use Rattle.vx_grouped.proofs.SiteLemmas.{down_with, up_burned, up_with}
use Rattle.vx_grouped.specs.CoreMoves.{BothOn}
use Rattle.vx_config.specs.Configs.{HasSpelling}
use Rattle.vx_grouped.specs.ConfigMoves.{EachPlexRose, LosesSome}
use Rattle.vx_kept.specs.Cleans.{at_serial}
use Rattle.vx_grouped.proofs.MovesLemmas.{each_rose, loses_some}
use Rattle.vx_untold.specs.Shades.{shade_meaning}
use Rattle.vx_grouped.proofs.SpellLemmas.{spells_like}
use Rattle.vx_watched.specs.Traces.{TellsLess}
use Rattle.vx_grouped.proofs.TraceLemmas.{lit_since}

-- what the answer of a device says of the disks
pub down_by : (m m' : Meaning) (no : No) → is_off no ≡ true → DeviceCause m m' no → IsTrue m'.down
down_by m m' (Device disk) off cause = cc
down_by m m' IsOff off cause = cause
down_by m m' other off cause = cc

module _ {R : Type 0} {g : Ghosts R} (n : Node) (note : GroupNode) (v b : ℕ) (bytes : List ℕ) (group new : Laid R g) (up : GroupUp n note (laid_below group).tells group.core (laid_disks group)) (since : CalledSince (laid_disks group) (laid_disks new)) (less : TellsLess (laid_below group) (laid_below new)) where
  lit : (next : GroupNode) → next.dark ≡ note.dark → IsLit next (laid_below new).tells (laid_disks new)
  lit next dark = lit_since note next (laid_below group).tells (laid_below new).tells (laid_disks group) (laid_disks new) dark since.tells less up.lit

  abbrev own : Write
  own = plain_write v b bytes

  -- it has a spelling still
  lasts : LosesPlexes group.core.inner.config new.core.inner.config (laid_disks group) (laid_disks new) → HasSpelling (at_serial 0 new.core.inner.config)
  lasts loses = spells_like group.core.inner.config new.core.inner.config loses.parts loses.frames loses.disks.blocks up.spells

  module _ (racks : (s : Shade R) → IsRack (shade_meaning g.meaning s)) where
    -- what became of its configuration, whatever crashed since
    lost : (s : Shade R) → LosesPlexes group.core.inner.config new.core.inner.config (laid_disks group) (shade_meaning g.meaning s) → BothOn group.core.inner.config new.core.inner.config (laid_disks group).units
        → LosesSome (laid_disks group) (shade_meaning g.meaning s) group.core.inner.config new.core.inner.config
    lost s loses on = loses_some group.core.inner.config new.core.inner.config (laid_disks group) (shade_meaning g.meaning s) (racks group.shelf).counts (racks s).counts on loses

    noted : (next : GroupNode) → next.config ≡ noted_config new.core.inner.config → (e : GroupSite R g) → HasNow new.core.inner.config e → HasSpelling (at_serial 0 new.core.inner.config)
        → LosesSome (laid_disks group) (site_disks e) group.core.inner.config new.core.inner.config → ConfigGoes (LosesSome (laid_disks group) (site_disks e)) note next (Up group) e
    noted next is e has spells change = record {
      was = group.core.inner.config;
      now = new.core.inner.config;
      had = refl;
      has = has;
      noted = record { is = up.at.lies.config; spells = up.spells };
      noted_now = record { is = is; spells = spells };
      change = change;
    }

    -- a write that is done
    done_by : PlainWrites v b bytes group.core (laid_disks group) new.core (laid_disks new) (Ok tt) → WriteLeaves {T = Unit {0}} n note own new.core (laid_disks new) (Ok tt) → PlainWrote n note own (Up group) (Up new) (Ok tt)
    done_by it leaves = (
      note_called leaves.0 new.core note,
      called_settles leaves.0 new.core note leaves.2,
      up_with n note (note_write own (note_called leaves.0 new.core note)) (laid_below new).tells new.core (laid_disks new) up.noted (lit (note_write own (note_called leaves.0 new.core note)) refl) (lasts it.loses) (fuse_burned n.fuse (laid_disks group) (laid_disks new) since.unarmed up.fuse) leaves.1,
      noted (note_called leaves.0 new.core note) refl (Up new) refl (lasts it.loses) (lost new.shelf it.loses it.on),
    )

    pub wrote_done : PlainWrites v b bytes group.core (laid_disks group) new.core (laid_disks new) (Ok tt) → PlainWrote n note own (Up group) (Up new) (Ok tt)
    wrote_done it = done_by it (it.leaves n note up.at)

    -- imports that agreed do so behind its first refused commit
    agrees_by : (group.core.inner.committed ≡ true → new.core.inner.agreed ≡ true) → false ≡ false → note.loose ≡ false → note.begun ≡ [] → new.core.inner.agreed ≡ true
    agrees_by keeps once tight none = keeps (up.at.lies.committed tight none)

    up_by : (no : No) → is_off no ≡ false → WriteLeaves {T = Unit {0}} n note own new.core (laid_disks new) (Err no) → (false ≡ false → note.loose ≡ false → note.begun ≡ [] → new.core.inner.agreed ≡ true) → DeviceCause (laid_disks group) (laid_disks new) no
        → LosesPlexes group.core.inner.config new.core.inner.config (laid_disks group) (laid_disks new) → BothOn group.core.inner.config new.core.inner.config (laid_disks group).units → PlainWrote n note own (Up group) (Up new) (Err no)
    up_by (Device disk) off leaves agrees cause loses on = (
      note_called leaves.0 new.core note,
      called_unsettles false leaves.0 new.core note agrees,
      up_with n note (note_doubt own (note_called leaves.0 new.core note)) (laid_below new).tells new.core (laid_disks new) up.noted (lit (note_doubt own (note_called leaves.0 new.core note)) refl) (lasts loses) (fuse_burned n.fuse (laid_disks group) (laid_disks new) since.unarmed up.fuse) leaves.1,
      cause,
      noted (note_called leaves.0 new.core note) refl (Up new) refl (lasts loses) (lost new.shelf loses on),
    )
    up_by IsOff off leaves agrees cause loses on = cc
    up_by other off leaves agrees cause loses on = absurd leaves

    -- one that failed, over disks that are up
    pub wrote_up : (no : No) → is_off no ≡ false → PlainWrites v b bytes group.core (laid_disks group) new.core (laid_disks new) (Err no) → PlainWrote n note own (Up group) (Up new) (Err no)
    wrote_up why off it = up_by why off (it.leaves n note up.at) (agrees_by it.agreed) it.cause it.loses it.on

    module _ (idle : Idle R g) (stopped : Stopped (laid_disks new) (idle_disks idle))
        (away : (k : Node) (next : GroupNode) → GroupLies k next new.core (laid_disks new) → IsAwayAt (record k { state = IsDown }) next new.core.inner.config (idle_disks idle))
        (same : idle.agreed ≡ new.core.inner.agreed) (fell : TellsLess (laid_below new) (idle_below idle)) where
      cut_by : (no : No) → is_off no ≡ true → WriteLeaves {T = Unit {0}} n note own new.core (laid_disks new) (Err no) → (false ≡ false → note.loose ≡ false → note.begun ≡ [] → new.core.inner.agreed ≡ true) → HasSpelling (at_serial 0 new.core.inner.config)
          → LosesPlexes group.core.inner.config new.core.inner.config (laid_disks group) (idle_disks idle) → BothOn group.core.inner.config new.core.inner.config (laid_disks group).units → PlainWrote n note own (Up group) (Down idle) (Err no)
      cut_by (Device disk) off leaves agrees spells loses on = cc
      cut_by IsOff off leaves agrees spells loses on = (
        note_called leaves.0 new.core note,
        called_unsettles false leaves.0 new.core note agrees,
        down_with n note (note_cut own (note_called leaves.0 new.core note)) idle.agreed (idle_below idle).tells new.core.inner.config (idle_disks idle) up.noted
            (lit_since note (note_cut own (note_called leaves.0 new.core note)) (laid_below new).tells (idle_below idle).tells (laid_disks new) (idle_disks idle) refl stopped.tells fell (lit note refl)) (λ tight. same ∙ leaves.1.lies.agreed tight) (record { down = stopped.down; unarmed = stopped.unarmed }) spells
            (away n (note_cut own (note_called leaves.0 new.core note)) leaves.1.lies),
        fell_fused n.fuse (laid_disks group) (laid_disks new) up.fuse up.at.up since.safe leaves.1.down,
        noted (note_called leaves.0 new.core note) refl (Down idle) tt spells (lost idle.rack loses on),
      )
      cut_by other off leaves agrees spells loses on = cc

      -- one in which the fuse ran out
      pub wrote_cut : (no : No) → is_off no ≡ true → PlainWrites v b bytes group.core (laid_disks group) new.core (laid_disks new) (Err no) → PlainWrote n note own (Up group) (Down idle) (Err no)
      wrote_cut why off it =
          cut_by why off (it.leaves n note up.at) (agrees_by it.agreed) (lasts it.loses)
          (both_lose (laid_disks group) (laid_disks new) (idle_disks idle) (racks group.shelf) (racks new.shelf) (racks idle.rack) since.counts (λ d. let same = stopped.counts.disk_faults d in omega (arith, same)) group.core.inner.config new.core.inner.config new.core.inner.config
          it.loses (loses_same new.core.inner.config (laid_disks new) (idle_disks idle))) it.on

  -- ---- reads

  spells_same : new.core.inner.config ≡ group.core.inner.config → HasSpelling (at_serial 0 new.core.inner.config)
  spells_same same = subst (λ (c : Config). HasSpelling (at_serial 0 c)) (sym same) up.spells

  stays_up : IsGroupAt n note new.core (laid_disks new) → new.core.inner.config ≡ group.core.inner.config → GroupUp (record n { fuse = burned n.fuse }) note (laid_below new).tells new.core (laid_disks new)
  stays_up at same = up_burned n note (laid_below new).tells new.core (laid_disks new) up.noted (lit note refl) (spells_same same) (fuse_burned n.fuse (laid_disks group) (laid_disks new) since.unarmed up.fuse) at

  pub read_done : PlainReads v b bytes group.core (laid_disks group) new.core (laid_disks new) (Ok tt) → PlainRead n note v b bytes (Up group) (Up new) (Ok tt)
  read_done it = (it.reads note up.at.lies.holds, stays_up (it.stays n note up.at) it.same)

  read_by : (no : No) → IsGroupAt n note new.core (laid_disks new) → new.core.inner.config ≡ group.core.inner.config → DeviceCause (laid_disks group) (laid_disks new) no
      → ((disk : ℕ) → no ≡ Device disk → EachPlexRose group.core.inner.config v (laid_disks group) (laid_disks new)) → PlainRead n note v b bytes (Up group) (Up new) (Err no)
  read_by (Device disk) at same cause gives = (stays_up at same, cause, gives disk refl)
  read_by IsOff at same cause gives = absurd (at.up cause)
  read_by other at same cause gives = absurd cause

  pub read_failed : ((s : Shade R) → IsRack (shade_meaning g.meaning s)) → (no : No) → PlainReads v b bytes group.core (laid_disks group) new.core (laid_disks new) (Err no) → PlainRead n note v b bytes (Up group) (Up new) (Err no)
  read_failed racks why it =
      read_by why (it.stays n note up.at) it.same it.cause
      (λ disk is. each_rose group.core.inner.config (laid_disks group) (laid_disks new) (racks group.shelf).counts (racks new.shelf).counts (narrow_sound group.core (laid_disks group) group.stands.group)
      (wanted_count (laid_disks group).units (laid_disks group).size (wide group.core).config group.stands.group.stands.wanted) v (it.gives_up disk (ap (λ (x : No). let r : Result (Unit {0}) No = Err x in r) is)))
