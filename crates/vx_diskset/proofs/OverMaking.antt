-- The disks of a site on which a replicated volume group is made, whatever is answered.
use Rattle.std.proofs.Common.{◌≡◌, ◌∙◌, ◌⊎◌, inl, inr, ℕ, ◌≤◌, true, arith, refl, subst, sym}
use Rattle.std.specs.Prelude.{Some}
use Rattle.vx_config.specs.Checks.{blocks_of, is_group}
use Rattle.vx_disk.specs.Disks.{Disks, is_set}
use Rattle.vx_disk.specs.Moves.{Nowhere}
use Rattle.vx_disk.specs.Racks.{IsRack}
use Rattle.vx_disk.specs.Shelf.{Goes, Meaning, Nothing as NoValue}
use Rattle.vx_disk.specs.declared.shelf.Shelf.{Ghosts}
use Rattle.vx_watched.specs.Since.{CalledSince, fuse_calls}
use Rattle.vx_group.proofs.HoldLemmas.{wide_shape}
use Rattle.vx_ground.specs.Lifted.{laid_volumes}
use Rattle.vx_grouped.specs.GroupSites.{laid_below, laid_disks, site_below, site_disks}
use Rattle.vx_grouped.specs.Volumes.{laid_seen}
use Rattle.vx_grouped.specs.declared.group_site.GroupSite.{GroupSite}
use Rattle.vx_grouped.specs.declared.group_site.GroupSite.TheVariants.{Up as UpSite, Deported, Down as FellSite, Marked, Gone}
use Rattle.vx_grouped.specs.declared.laid.Laid.{Laid}
use Rattle.vx_grouped.proofs.VolumeLemmas.{none_go}
use Rattle.vx_model.specs.declared.limits.TheConstants.{LEAST_BLOCKS}
use Rattle.vx_model.specs.declared.units.Units.{Units}
use Rattle.vx_rvg.specs.Views.{Core, IsSound, UnitsPlaced}
use Rattle.vx_untold.specs.Shades.{rack_of, shade_meaning, shade_rack}
use Rattle.vx_untold.specs.declared.shade.Shade.{Shade}
use Rattle.vx_watched.specs.Traces.{TellsLess}
use Rattle.vx_diskset.specs.Aboves.{site_in}
use Rattle.vx_diskset.specs.Asked.{FuseGoesOn, SameFailing, disks_told}
use Rattle.vx_diskset.specs.DiskSets.{Later}
use Rattle.vx_diskset.specs.GroupCalls.{AtSite, CalledOn}
use Rattle.vx_diskset.specs.Makings.{UpOrFell}
use Rattle.vx_diskset.specs.Stands.{IsRackTold}
use Rattle.vx_diskset.specs.declared.disk_set.DiskSet.{DiskSet}
use Rattle.vx_diskset.specs.declared.disk_set.DiskSet.TheVariants.{Bare, Spoiled, Up, Receives, Down, OfGroup, Over, Gone as GoneSet}
use Rattle.vx_diskset.specs.declared.group_set.GroupSet.{GroupSet}
use Rattle.vx_diskset.proofs.GroupCalling.{IsSettled, OnGroup, failing_risen, fuse_risen, has_group, later_risen, rises_called}
use Rattle.vx_diskset.proofs.OverCalling.{has_over}
use Rattle.vx_diskset.proofs.OverFrames.{frame_sound}
use Rattle.vx_diskset.proofs.UnderCalling.{told_both}
use Rattle.vx_diskset.proofs.UnitsLie.{units_large, units_placed}

-- ---- calls behind others

pub since_both : (first mid last : Meaning) → CalledSince first mid → CalledSince mid last → CalledSince first last
since_both first mid last one two = record {
  units = two.units ∙ one.units;
  size = λ u. two.size u ∙ one.size u;
  tells = two.tells ∙ one.tells;
  counts = λ d. let a = one.counts d in let b = two.counts d in omega (arith, a, b);
  falls = λ down. two.falls (one.falls down);
  unarmed = λ none. two.unarmed (one.unarmed none);
  safe = λ none down. one.safe none (two.safe (one.unarmed none) down);
  rack = two.rack ∙ one.rack;
  told = told_both first.disks mid.disks last.disks mid.down last.down two.falls two.rack one.told two.told;
}

-- ---- the volumes

module _ {R : Type 0} {g : Ghosts R} (l : Laid R g) (u : Units) (may : is_group l.core.inner.config.volumes u ≡ true) where
  module _ (m : Meaning) (units : m.units ≡ (laid_volumes l).units) (size : (v : ℕ) → m.size v ≡ (laid_volumes l).size v) where
    sizes : m.size ≡ blocks_of l.core.inner.config.volumes
    sizes = λ t. λ v. (size v ∙ (wide_shape l.core).blocks v) t

    -- they are there behind calls that change neither how many they are nor how large
    pub placed_then : UnitsPlaced u m
    placed_then = units_placed l.core.inner.config.volumes u may m (units ∙ (wide_shape l.core).volumes) sizes

    pub large_then : LEAST_BLOCKS ≤ m.size u.srl
    large_then = subst (λ (f : ℕ → ℕ). LEAST_BLOCKS ≤ f u.srl) (sym sizes) (units_large l.core.inner.config.volumes u may)

module _ {R : Type 0} {g : Ghosts R} where
  -- behind the commit it is sound as it was
  pub sound_named : (core : Core) (l k : Laid R g) → Goes NoValue (laid_volumes l) (laid_volumes k) → IsSound core (laid_volumes l) → IsSound core (laid_volumes k)
  sound_named core l k goes sound = frame_sound core (laid_volumes l) (laid_volumes k) Nowhere (none_go (laid_seen l) (laid_seen k) goes) sound

  -- ---- disk sets

  -- a fuse that was not touched
  pub fuse_rest : (e : DiskSet R g) → FuseGoesOn e e
  fuse_rest e = record {
    set = λ o n one two on. subst (λ (d : Disks). is_set d.fuse ≡ true) (sym (same o n one two)) on;
    left = λ o n one two on. subst (λ (d : Disks). fuse_calls n.fuse ≤ fuse_calls d.fuse) (sym (same o n one two)) (omega arith);
  }
    where
      same : (o n : Disks) → disks_told e ≡ Some o → disks_told e ≡ Some n → o ≡ n
      same o n one two = let both : Some o ≡ Some n = sym one ∙ two in cc

  -- a group that was taken out and is the same
  pub since_in : (o : GroupSite R g) (l k : Laid R g) (e : GroupSite R g) → o ≡ UpSite l → k.shelf ≡ l.shelf → CalledSince (laid_disks k) (site_disks e) → CalledSince (site_disks o) (site_disks e)
  since_in o l k e is shelf it =
      subst (λ (x : GroupSite R g). CalledSince (site_disks x) (site_disks e)) (sym is) (subst (λ (x : Shade R). CalledSince (shade_meaning g.meaning x) (site_disks e)) shelf it)

  pub told_in : (o : GroupSite R g) (l k : Laid R g) (e : GroupSite R g) → o ≡ UpSite l → k.shelf ≡ l.shelf → TellsLess (laid_below k) (site_below e) → TellsLess (site_below o) (site_below e)
  told_in o l k e is shelf it =
      subst (λ (x : GroupSite R g). TellsLess (site_below x) (site_below e)) (sym is) (subst (λ (x : Shade R). TellsLess (g.meaning (rack_of x)) (site_below e)) shelf it)

  -- the account of the calls on the disks of a group
  pub called_made : (e new : DiskSet R g) (o : GroupSet R g) → e ≡ OfGroup o → AtSite (λ x. CalledSince (site_disks o.site) (site_disks x)) new → CalledOn e new
  called_made e new o is since = subst (λ (x : DiskSet R g). CalledOn x new) (sym is) since

  calm_settled : ((r : R) → IsRack (g.meaning r)) → (e : GroupSite R g) → UpOrFell e → IsSettled e
  calm_settled rackful (UpSite laid) it = record { rack = shade_rack g.meaning rackful laid.shelf; at = inl it }
  calm_settled rackful (FellSite idle) it = record { rack = shade_rack g.meaning rackful idle.rack; at = inr it }
  calm_settled rackful (Deported idle) it = absurd it
  calm_settled rackful (Marked rack) it = absurd it
  calm_settled rackful Gone it = absurd it

  both_at : (P Q : GroupSite R g → Type 0) (new : DiskSet R g) → AtSite P new → AtSite Q new → AtSite (λ x. P x × Q x) new
  both_at P Q (OfGroup s) one two = (one, two)
  both_at P Q (Over s) one two = (one, two)
  both_at P Q (Bare rack) one two = absurd one
  both_at P Q (Spoiled rack) one two = absurd one
  both_at P Q (Up rvg) one two = absurd one
  both_at P Q (Receives s) one two = absurd one
  both_at P Q (Down rack) one two = absurd one
  both_at P Q GoneSet one two = absurd one

  made_site : (P : GroupSite R g → Type 0) (new : DiskSet R g) → AtSite P new → OnGroup new P
  made_site P (OfGroup s) it = record { site = s.site; has = it; disks = has_group (OfGroup s) s refl; told = λ told. told }
  made_site P (Over s) it = record { site = site_in s; has = it; disks = has_over (Over s) s refl; told = λ told. told }
  made_site P (Bare rack) it = absurd it
  made_site P (Spoiled rack) it = absurd it
  made_site P (Up rvg) it = absurd it
  made_site P (Receives s) it = absurd it
  made_site P (Down rack) it = absurd it
  made_site P GoneSet it = absurd it

  module _ (e new : DiskSet R g) (o : GroupSet R g) (is : e ≡ OfGroup o) (since : AtSite (λ x. CalledSince (site_disks o.site) (site_disks x)) new) where
    on : OnGroup new (λ x. CalledSince (site_disks o.site) (site_disks x))
    on = made_site (λ x. CalledSince (site_disks o.site) (site_disks x)) new since

    pub made_failing : SameFailing e new
    made_failing = failing_risen e new (site_disks o.site) (site_disks on.site) (has_group e o is) on.disks (rises_called (site_disks o.site) (site_disks on.site) on.has)

    pub made_later : AtSite (λ x. TellsLess (site_below o.site) (site_below x)) new → Later e new
    made_later less =
        let it = made_site (λ x. CalledSince (site_disks o.site) (site_disks x) × TellsLess (site_below o.site) (site_below x)) new
        (both_at (λ x. CalledSince (site_disks o.site) (site_disks x)) (λ x. TellsLess (site_below o.site) (site_below x)) new since less) in
        later_risen e new (site_disks o.site) (site_disks it.site) (has_group e o is) it.disks (rises_called (site_disks o.site) (site_disks it.site) it.has.0)
        (λ told. subst (λ (x : DiskSet R g). IsRackTold x) (sym is) (it.has.1 (it.told told)))

    pub made_fuse : ((r : R) → IsRack (g.meaning r)) → (new ≡ OfGroup o) ⊎ AtSite (λ x. UpOrFell x) new → FuseGoesOn e new
    made_fuse rackful (inl same) = subst (λ (x : DiskSet R g). FuseGoesOn e x) (is ∙ sym same) (fuse_rest e)
    made_fuse rackful (inr quiet) =
        let it = made_site (λ x. CalledSince (site_disks o.site) (site_disks x) × UpOrFell x) new (both_at (λ x. CalledSince (site_disks o.site) (site_disks x)) (λ x. UpOrFell x) new since quiet) in
        let calm = calm_settled rackful it.site it.has.1 in
        fuse_risen e new (site_disks o.site) (site_disks it.site) (has_group e o is) it.disks (rises_called (site_disks o.site) (site_disks it.site) it.has.0) calm.rack calm.at
