-- The account behind a commit that names a replicated volume group, or was refused.
use Rattle.std.proofs.Common.{◌≡◌, ◌∙◌, ℕ, true, false, List, Option, None, Some, IsTrue, refl, sym, subst}
use Rattle.std.specs.Prelude.{Err, Ok, Result}
use Rattle.vx_config.specs.declared.config.Config.{Config}
use Rattle.vx_config.specs.declared.entry.DiskEntry.{DiskEntry}
use Rattle.vx_copies.specs.Marks.{blocks_at, failed_at}
use Rattle.vx_disk.specs.Counts.{Rose}
use Rattle.vx_disk.specs.Shelf.{Meaning}
use Rattle.vx_kept.proofs.Chosen.{active_volumes, frames_volumes}
use Rattle.vx_group.specs.Dets.{DetStops}
use Rattle.vx_group.specs.Loses.{SameParts}
use Rattle.vx_group.specs.Rvgs.{set_rvg_refusal, with_rvg}
use Rattle.vx_group.specs.declared.group_core.GroupCore.{GroupCore}
use Rattle.vx_group.proofs.FindingLemmas.{newest_goes}
use Rattle.vx_grouped.proofs.ImageLemmas.{sure_by, sure_free, sure_kept}
use Rattle.vx_grouped.specs.GroupNotes.{is_sure}
use Rattle.vx_model.specs.declared.errors.Stop.{Stop}
use Rattle.vx_model.specs.declared.errors.Stop.TheVariants.{No as Refused, OutOfMemory}
use Rattle.vx_model.specs.declared.no.No.{No}
use Rattle.vx_model.specs.declared.no.No.TheVariants.{Device, Down}
use Rattle.vx_model.specs.declared.units.Units.{Units}
use Rattle.vx_ground.specs.Accounts.{DisksQuiet, GroundSince, GroundState, ground_state, PlexQuiet}
use Rattle.vx_ground.specs.Named.{FewWhy, NamesGroup, named_state}
use Rattle.vx_group.proofs.UsesLemmas.{uses_volumes}

-- what is kept of a group whose volumes are named is as before but for that
pub ground_named : (units : Units) (a b : GroundState) (m m' : Meaning) → GroundSince a m b m' → GroundSince (named_state units a) m (named_state units b) m'
ground_named units a b m m' it =
    let before : Config = with_rvg (Some units) a.config in
    let now : Config = with_rvg (Some units) b.config in
    let quiet_named : (v p : ℕ) → PlexQuiet before v p m m' → PlexQuiet a.config v p m m' = (λ v p quiet. record { none = λ u its rose. quiet.none u (uses_volumes a.config before refl v p u ∙ its) rose }) in
    record {
      parts = record { site = it.parts.site; rvg = refl; count = it.parts.count; later = it.parts.later };
      frames = λ v. frames_volumes now b.config refl v ∙ it.frames v ∙ sym (frames_volumes before a.config refl v);
      counts = it.counts;
      lies = λ v p u. uses_volumes b.config now refl v p u ∙ it.lies v p u ∙ sym (uses_volumes a.config before refl v p u);
      plexes = λ v p quiet is. active_volumes now b.config refl v p ∙ it.plexes v p (quiet_named v p quiet) (sym (active_volumes before a.config refl v p) ∙ is);
      on = λ v p quiet is. active_volumes before a.config refl v p ∙ it.on v p (λ q. quiet_named v q (quiet q)) (sym (active_volumes now b.config refl v p) ∙ is);
      blocks = it.blocks;
      blamed = it.blamed;
      stays = it.stays;
      openly = it.openly;
      newest = it.newest;
      falls = it.falls;
      sure = it.sure;
    }

module _ (units : Units) (c d : GroupCore) (m m' : Meaning) (first : (u : ℕ) → m.disk_faults u ≡ m.faults u) (last : (u : ℕ) → m'.disk_faults u ≡ m'.faults u) where
  counted : (u : ℕ) → Rose (m.faults u) (m'.faults u) → Rose (m.disk_faults u) (m'.disk_faults u)
  counted u rose = subst (λ (k : ℕ). Rose k (m'.disk_faults u)) (sym (first u)) (subst (λ (k : ℕ). Rose (m.faults u) k) (sym (last u)) rose)

  -- over a configuration with these volumes and disks
  named_since : (a : Config) (r : Result (Unit {0}) Stop) → SameParts a d.inner.config → a.volumes ≡ c.inner.config.volumes → a.disks ≡ c.inner.config.disks → NamesGroup units c m d m' r
      → (is_sure c ≡ true → DisksQuiet m m' → (IsTrue m'.down → ⊥) → is_sure d ≡ true) → GroundSince (record (ground_state c) { config = a }) m (ground_state d) m'
  named_since a r parts volumes disks it sure = record {
    parts = parts;
    frames = λ v. frames_volumes d.inner.config c.inner.config it.same.volumes v ∙ sym (frames_volumes a c.inner.config volumes v);
    counts = it.goes.disk_faults;
    lies = λ v p u. uses_volumes c.inner.config d.inner.config it.same.volumes v p u ∙ sym (uses_volumes c.inner.config a volumes v p u);
    plexes = λ v p quiet is. active_volumes d.inner.config c.inner.config it.same.volumes v p ∙ sym (active_volumes a c.inner.config volumes v p) ∙ is;
    on = λ v p quiet is. active_volumes a c.inner.config volumes v p ∙ sym (active_volumes d.inner.config c.inner.config it.same.volumes v p) ∙ is;
    blocks = λ u. subst (λ (ds : List DiskEntry). blocks_at d.inner.config.disks u ≡ blocks_at ds u) (sym disks) (it.disks.blocks u);
    blamed = λ u off on none. none (counted u (it.disks.blamed u (subst (λ (ds : List DiskEntry). failed_at ds u ≡ false) disks off) on));
    stays = λ u on. it.disks.stays u (subst (λ (ds : List DiskEntry). failed_at ds u ≡ true) disks on);
    openly = it.finds.core.openly;
    newest = λ clear was is. newest_goes c d m m' clear was it.finds.core is;
    falls = it.goes.falls;
    sure = sure;
  }

  -- it is done
  pub named_ground : (r : Result (Unit {0}) Stop) (x : Unit {0}) → r ≡ Ok x → NamesGroup units c m d m' r → GroundSince (named_state units (ground_state c)) m (ground_state d) m'
  named_ground r x is names =
      let it : NamesGroup units c m d m' (Ok x) = subst (λ (y : Result (Unit {0}) Stop). NamesGroup units c m d m' y) is names in
      named_since (with_rvg (Some units) c.inner.config) (Ok x) (record { site = it.same.site; rvg = it.ends.named; count = it.same.count; later = it.later }) refl refl it
      (λ is quiet up. sure_by d.inner.committed d.held (it.trust (sure_kept c.inner.committed c.held is)) (it.finds.free (sure_free c.inner.committed c.held is)))

  stopped_by : (why : Stop) → FewWhy why → DetStops {T = Unit {0}} m m' (Err why) → DisksQuiet m m' → (IsTrue m'.down → ⊥) → ⊥
  stopped_by (Refused (Device disk)) few it quiet up = quiet.none disk few it
  stopped_by (Refused Down) few it quiet up = up it
  stopped_by (Refused other) few it quiet up = absurd it
  stopped_by OutOfMemory few it quiet up = absurd it

  unnamed_sure : (why : Stop) → NamesGroup units c m d m' (Err why) → (o : Option No) → set_rvg_refusal c.inner.config units ≡ o → is_sure c ≡ true → DisksQuiet m m' → (IsTrue m'.down → ⊥) → is_sure d ≡ true
  unnamed_sure why it None is sure quiet up = absurd (stopped_by why it.few (it.cause is) quiet up)
  unnamed_sure why it (Some no_room) is sure quiet up = subst (λ (k : GroupCore). is_sure k ≡ true) (sym (it.refused no_room is).1) sure

  -- it was refused
  pub unnamed_ground : (r : Result (Unit {0}) Stop) (why : Stop) → r ≡ Err why → NamesGroup units c m d m' r → GroundSince (ground_state c) m (ground_state d) m'
  unnamed_ground r why is names =
      let it : NamesGroup units c m d m' (Err why) = subst (λ (y : Result (Unit {0}) Stop). NamesGroup units c m d m' y) is names in
      named_since c.inner.config (Err why) (record { site = it.same.site; rvg = it.ends; count = it.same.count; later = it.later }) refl refl it
      (unnamed_sure why it (set_rvg_refusal c.inner.config units) refl)
