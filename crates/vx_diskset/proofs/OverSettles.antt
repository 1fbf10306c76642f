-- Disks that crashed of which images of a volume without a plex that is CLEAN stopped uncleanly.
use Rattle.std.proofs.Common.{◌≡◌, ◌∙◌, ◌⊎◌, inl, inr, ℕ, zero, suc, ◌<◌, true, false, IsTrue, Option, Some, None, length, arith, refl, sym}
use Rattle.std.specs.Prelude.{not}
use Rattle.vx_config.specs.Checks.{blocks_of, is_stale}
use Rattle.vx_config.specs.declared.config.Config.{Config}
use Rattle.vx_config.specs.declared.entry.PlexEntry.{PlexEntry}
use Rattle.vx_copyfmt.specs.Imports.{Found}
use Rattle.vx_disk.specs.Shelf.{Each, Image, Meaning}
use Rattle.vx_events.specs.RvgNotes.{inside_of}
use Rattle.vx_group.specs.Resumes.{stopped}
use Rattle.vx_group.specs.Settles.{FindsAlike, LivesAgree, LacksCommit}
use Rattle.vx_kept.specs.Choice.{chosen, live, live_or}
use Rattle.vx_kept.specs.Cleans.{NoneClean, clean, clean_or, is_clean}
use Rattle.vx_kept.specs.Facts.{KeptFact}
use Rattle.vx_kept.specs.Groups.{found as finds}
use Rattle.vx_kept.specs.Keeping.{Kin}
use Rattle.vx_kept.proofs.Low.{found_same}
use Rattle.vx_layout.specs.Places.{plex_at}
use Rattle.vx_loggroup.proofs.RestedLogs.{is_stopped}
use Rattle.vx_model.specs.declared.site.PlexState.{PlexState}
use Rattle.vx_model.specs.declared.site.PlexState.TheVariants.{Active, Clean, Stale}
use Rattle.vx_model.specs.declared.units.Units.{Units}
use Rattle.vx_volume.specs.Plexes.{Inside, active, active_or}
use Rattle.vx_diskset.proofs.OverCrash.{IsUnder, ready_under}
use Rattle.vx_diskset.specs.Stands.{RvgSettles, FellSettles, idle_ready}
use Rattle.vx_diskset.specs.Layouts.{units_of}
use Rattle.vx_disk.specs.Racks.{Stopped}
use Rattle.vx_disk.specs.declared.shelf.Shelf.{Ghosts}
use Rattle.vx_group.specs.Holding.{wide}
use Rattle.vx_grouped.specs.GroupSites.{idle_disks, laid_disks}
use Rattle.vx_grouped.specs.declared.idle.Idle.{Idle}
use Rattle.vx_grouped.specs.declared.laid.Laid.{Laid}
use Rattle.vx_history.specs.World.{Node}
use Rattle.vx_kept.specs.Commits.{Member}
use Rattle.vx_logimport.specs.declared.rested.Rested.{Rested}
use Rattle.vx_loggroup.proofs.SettledFacts.{settled_of}

-- a plex that takes part and is not CLEAN is ACTIVE
active_by : (o : Option PlexEntry) → live_or o ≡ true → clean_or o ≡ false → active_or o ≡ true
active_by None takes off = takes
active_by (Some p) takes off = by p.state refl takes off
  where
    by : (s : PlexState) → p.state ≡ s → not (is_stale s) ≡ true → is_clean s ≡ false → active_or (Some p) ≡ true
    by Active at lives unmarked = rw at refl
    by Clean at lives unmarked = absurd (let clash : true ≡ false = unmarked in cc)
    by Stale at lives unmarked = absurd (let clash : false ≡ true = lives in cc)

on_lives : (x : Config) (v p : ℕ) → NoneClean x v → IsTrue (live x v p) → IsTrue (active x v p)
unfolding active clean live
on_lives x v p none takes = active_by (plex_at x v p) takes (none.each p)

module _ (units : Units) (c : Config) (good : ℕ → Type 0) (m r : Meaning) (under : IsUnder r m) (kept : KeptFact c good m) (there : (v : ℕ) → inside_of units v ≡ true → v < length c.volumes) (alike : (v : ℕ) → FindsAlike v m) where
  module _ (i : Image) (x : Config) (v : ℕ) (each : Each r.leaves i) (is : finds r i ≡ Found x) (inside : inside_of units v ≡ true) where
    each_up : Each m.leaves i
    each_up u b = under.leaves u b (i u b) (each u b)

    is_up : finds m i ≡ Found x
    is_up = sym (found_same m r under.units under.size (λ u. true) i) ∙ is

    kin : Kin c x
    kin = kept.kin i x each_up is_up

    low : v < length x.volumes
    low = let here = there v inside in let more = kin.shape.volumes in omega (arith, here, more)

    by_blocks : NoneClean x v → (n : ℕ) → blocks_of x.volumes v ≡ n → (stopped x v ≡ true) ⊎ LivesAgree x v r
    by_blocks none zero at = inr (record { so = λ p q b y z in_it on_p on_q at_p at_q. absurd (let lt = in_it.within in omega (arith, lt, at)) })
    by_blocks none (suc n) at =
        let in_it : Inside x v 0 = record { volume = low; within = omega (arith, at) } in
        inl (is_stopped x v (chosen x v) 0 in_it (on_lives x v (chosen x v) none (kin.some v (there v inside))))

    settled : NoneClean x v ⊎ LivesAgree x v m → (stopped x v ≡ true) ⊎ LivesAgree x v r
    settled (inl none) = by_blocks none (blocks_of x.volumes v) refl
    settled (inr agree) = inr (record { so = λ p q b y z in_it on_p on_q at_p at_q. agree.so p q b y z in_it on_p on_q (under.leaves _ _ y at_p) (under.leaves _ _ z at_q) })

  -- so it is with the volumes of a replicated volume group
  pub rvg_settles : RvgSettles units r
  rvg_settles = record { each = λ i x v each is inside. settled i x v each is inside ((alike v).each i x (each_up i x v each is inside) (is_up i x v each is inside)) }

-- so a crash leaves the disks of a group, unless it lacks a commit
module _ {R : Type 0} {g : Ghosts R} (l : Laid R g) (n : Node) (idle : Idle R g) (stop : Stopped (laid_disks l) (idle_disks idle)) (there : (v : ℕ) → inside_of (units_of n) v ≡ true → v < length (wide l.core).config.volumes) where
  under_crash : IsUnder (idle_ready idle) (laid_disks l)
  under_crash = let it = ready_under g idle.agreed idle.rack in record {
    units = it.units ∙ stop.units;
    size = λ u. it.size u ∙ stop.size u;
    tells = λ told. sym stop.tells ∙ it.tells told;
    leaves = λ u b v left. stop.leaves u b v (it.leaves u b v left);
  }

  pub settles_by : (LacksCommit l.core.inner → ⊥) → RvgSettles (units_of n) (idle_ready idle)
  settles_by never =
      let it = settled_of (wide l.core) (laid_disks l) (l.settles.told (λ lacks. never (record { missed = lacks.missed; spent = lacks.spent }))) in
      rvg_settles (units_of n) (wide l.core).config (Member (wide l.core).good (laid_disks l)) (laid_disks l) (idle_ready idle) under_crash l.stands.group.stands.kept there it.alike

  pub fell_settles : ((r : Rested) → idle.rested ≡ Some r → LacksCommit l.core.inner → ⊥) → FellSettles n idle
  fell_settles lacking = λ r is. settles_by (lacking r is)
