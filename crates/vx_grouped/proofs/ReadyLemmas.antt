-- Disks by themselves, as an import takes them: the site stands over them as it did.
use Rattle.std.proofs.Common.{◌≡◌, ℕ, Bool, true, false, refl, ◌∙◌, sym, subst, not, ap}
use Rattle.std.specs.Prelude.{Result}
use Rattle.vx_config.specs.declared.config.Config.{Config}
use Rattle.vx_model.specs.declared.errors.Stop.{Stop}
use Rattle.vx_disk.specs.Shelf.{Meaning}
use Rattle.vx_disk.specs.declared.shelf.Shelf.{Ghosts}
use Rattle.vx_history.specs.Groups.{GroupNode}
use Rattle.vx_history.specs.World.{Fuse, FuseLit, FuseSet, Node, NoFuse}
use Rattle.vx_untold.specs.Shades.{shade_meaning, rack_of}
use Rattle.vx_untold.specs.Untold.{untold}
use Rattle.vx_untold.specs.declared.shade.Shade.{Shade}
use Rattle.vx_untold.specs.declared.shade.Shade.TheVariants.{Bright, Dark}
use Rattle.vx_grouped.specs.Away.{AwayLies}
use Rattle.vx_grouped.specs.GroupSites.{AwayNoted, DownNoted, GroupAway, GroupDown, site_disks, IsLit, dimmed_site, site_below, idle_below}
use Rattle.vx_grouped.specs.Readies.{ready_of}
use Rattle.vx_grouped.specs.SetFuses.{HasFuse}
use Rattle.vx_grouped.specs.SiteReturns.{ImportsFrom, RecoversFrom, ReturnSince, SiteImports, SiteRecovers, as_imported}
use Rattle.vx_grouped.specs.declared.group_site.GroupSite.{GroupSite}
use Rattle.vx_grouped.specs.declared.group_site.GroupSite.TheVariants.{Deported, Down, Gone, Marked, Up}
use Rattle.vx_grouped.specs.declared.idle.Idle.{Idle}
use Rattle.vx_grouped.proofs.SinceReturns.{dark_none, return_at, return_ready, return_then, dark_down, dark_armed}
use Rattle.vx_grouped.proofs.SiteReturnLemmas.{dark_away}
use Rattle.vx_grouped.specs.GroupNotes.{NotesFound, note_dimmed}
use Rattle.vx_grouped.proofs.ImageLemmas.{none_noted, noted_as}
use Rattle.vx_watched.specs.Traces.{TellsLess}
use Rattle.vx_grouped.proofs.SiteLemmas.{noted_dimmed, away_dimmed, lit_dimmed, runs_dimmed, some_as}

dark_fuse : (f : Fuse) (m : Meaning) → HasFuse f m → HasFuse f (untold m)
dark_fuse NoFuse m it = it
dark_fuse (FuseSet calls) m it = it
dark_fuse (FuseLit most) m it = tt

module _ {R : Type 0} (meaning : R → Meaning) where
  pub lies_ready : (agreed : Bool) (s : Shade R) (k : Node) (note : GroupNode) (last : Config) → AwayLies k note last (shade_meaning meaning s) → AwayLies k note last (shade_meaning meaning (ready_of agreed s))
  lies_ready true s k note last it = it
  lies_ready false (Dark r) k note last it = it
  lies_ready false (Bright r) k note last it = dark_away k note last (meaning r) (untold (meaning r)) refl (λ u. refl) (dark_none meaning (Bright r)) it

  -- the configurations of images, as they are noted
  pub noted_ready : (agreed : Bool) (s : Shade R) (note : GroupNode) (c : Config) → NotesFound note c (shade_meaning meaning s) → NotesFound note c (shade_meaning meaning (ready_of agreed s))
  noted_ready true s note c it = it
  noted_ready false (Dark r) note c it = it
  noted_ready false (Bright r) note c it = none_noted note c (untold (meaning r)) (dark_none meaning (Bright r)).leaves

  pub down_ready : (agreed : Bool) (s : Shade R) → (shade_meaning meaning (ready_of agreed s)).down ≡ (shade_meaning meaning s).down
  down_ready true s = refl
  down_ready false s = dark_down meaning s

  armed_ready : (agreed : Bool) (s : Shade R) → (shade_meaning meaning (ready_of agreed s)).armed ≡ (shade_meaning meaning s).armed
  armed_ready true s = refl
  armed_ready false s = dark_armed meaning s

  fuse_ready : (agreed : Bool) (s : Shade R) (f : Fuse) → HasFuse f (shade_meaning meaning s) → HasFuse f (shade_meaning meaning (ready_of agreed s))
  fuse_ready true s f it = it
  fuse_ready false (Dark r) f it = it
  fuse_ready false (Bright r) f it = dark_fuse f (meaning r) it

  pub below_ready : (agreed : Bool) (s : Shade R) → rack_of (ready_of agreed s) ≡ rack_of s
  below_ready true s = refl
  below_ready false s = refl

  module _ (n : Node) (note : GroupNode) (told : Bool) where
    lit_ready : (agreed : Bool) (s : Shade R) → IsLit note told (shade_meaning meaning s) → IsLit (note_dimmed (not agreed) note) told (shade_meaning meaning (ready_of agreed s))
    lit_ready true s it = it
    lit_ready false s it = lit_dimmed note told (shade_meaning meaning (Dark (rack_of s)))

    pub ready_down : (agreed : Bool) (s : Shade R) → GroupDown n note agreed told (shade_meaning meaning s) → GroupDown (dimmed_site (not agreed) note n) (note_dimmed (not agreed) note) true told (shade_meaning meaning (ready_of agreed s))
    ready_down agreed s it = record {
      noted = noted_dimmed (not agreed) n note it.noted;
      lit = lit_ready agreed s it.lit;
      agrees = λ tight. refl;
      unfused = it.unfused;
      stopped = record { down = down_ready agreed s ∙ it.stopped.down; unarmed = armed_ready agreed s ∙ it.stopped.unarmed };
      last = it.last;
      spells = it.spells;
      away = record {
        state = it.away.state;
        config = it.away.config;
        found = noted_as note (note_dimmed (not agreed) note) it.last (shade_meaning meaning (ready_of agreed s)) refl refl (noted_ready agreed s note it.last it.away.found);
        runs = runs_dimmed (not agreed) note it.last it.away.runs;
        some = some_as n (dimmed_site (not agreed) note n) it.last refl refl it.away.some;
        lies = away_dimmed (not agreed) n (dimmed_site (not agreed) note n) note it.last (shade_meaning meaning (ready_of agreed s)) refl refl (lies_ready agreed s n note it.last it.away.lies);
      };
    }

    pub ready_away : (agreed : Bool) (s : Shade R) → GroupAway n note agreed told (shade_meaning meaning s) → GroupAway (dimmed_site (not agreed) note n) (note_dimmed (not agreed) note) true told (shade_meaning meaning (ready_of agreed s))
    ready_away agreed s it = record {
      noted = noted_dimmed (not agreed) n note it.noted;
      lit = lit_ready agreed s it.lit;
      agrees = λ tight. refl;
      up = λ is. it.up (sym (down_ready agreed s) ∙ is);
      fuse = fuse_ready agreed s n.fuse it.fuse;
      last = it.last;
      newest = it.newest;
      spells = it.spells;
      away = record {
        state = it.away.state;
        config = it.away.config;
        frames = it.away.frames;
        found = noted_as note (note_dimmed (not agreed) note) it.newest (shade_meaning meaning (ready_of agreed s)) refl refl (noted_ready agreed s note it.newest it.away.found);
        some = some_as n (dimmed_site (not agreed) note n) it.newest refl refl it.away.some;
        lies = away_dimmed (not agreed) n (dimmed_site (not agreed) note n) note it.last (shade_meaning meaning (ready_of agreed s)) refl refl (lies_ready agreed s n note it.last it.away.lies);
      };
    }

module _ {R : Type 0} {g : Ghosts R} (e : GroupSite R g) (idle : Idle R g) (rack : Shade R) (ready : rack ≡ ready_of idle.agreed idle.rack) (new : GroupSite R g) (answer : Result (Unit {0}) Stop) where
  pub recovered_ready : e ≡ Down idle → ((n : Node) (note : GroupNode) → GroupDown n note true (g.meaning (rack_of rack)).tells (shade_meaning g.meaning rack) → RecoversFrom n note (shade_meaning g.meaning rack) new answer) → (n : Node) (note : GroupNode) → DownNoted n note e
      → SiteRecovers n note e new answer
  recovered_ready is each n note it =
      let down = subst (λ (x : GroupSite R g). DownNoted n note x) is it in
      subst (λ (x : GroupSite R g). SiteRecovers n note x new answer) (sym is) (subst (λ (s : Shade R). RecoversFrom (dimmed_site (not idle.agreed) note n) (note_dimmed (not idle.agreed) note) (shade_meaning g.meaning s) new answer) ready
      (each (dimmed_site (not idle.agreed) note n) (note_dimmed (not idle.agreed) note) (subst (λ (s : Shade R). GroupDown (dimmed_site (not idle.agreed) note n) (note_dimmed (not idle.agreed) note) true (g.meaning (rack_of s)).tells (shade_meaning g.meaning s)) (sym ready)
      (subst (λ (r : R). GroupDown (dimmed_site (not idle.agreed) note n) (note_dimmed (not idle.agreed) note) true (g.meaning r).tells (shade_meaning g.meaning (ready_of idle.agreed idle.rack))) (sym (below_ready g.meaning idle.agreed idle.rack))
      (ready_down g.meaning n note (idle_below idle).tells idle.agreed idle.rack down)))))

  pub imported_ready : e ≡ Deported idle → ((n : Node) (note : GroupNode) → GroupAway n note true (g.meaning (rack_of rack)).tells (shade_meaning g.meaning rack) → ImportsFrom n note (shade_meaning g.meaning rack) new answer) → (n : Node) (note : GroupNode) → AwayNoted n note e
      → SiteImports n note e new answer
  imported_ready is each n note it =
      let away = subst (λ (x : GroupSite R g). AwayNoted n note x) is it in
      subst (λ (x : GroupSite R g). SiteImports n note x new answer) (sym is) (subst (λ (s : Shade R). ImportsFrom (dimmed_site (not idle.agreed) note n) (note_dimmed (not idle.agreed) note) (shade_meaning g.meaning s) new answer) ready
      (each (dimmed_site (not idle.agreed) note n) (note_dimmed (not idle.agreed) note) (subst (λ (s : Shade R). GroupAway (dimmed_site (not idle.agreed) note n) (note_dimmed (not idle.agreed) note) true (g.meaning (rack_of s)).tells (shade_meaning g.meaning s)) (sym ready)
      (subst (λ (r : R). GroupAway (dimmed_site (not idle.agreed) note n) (note_dimmed (not idle.agreed) note) true (g.meaning r).tells (shade_meaning g.meaning (ready_of idle.agreed idle.rack))) (sym (below_ready g.meaning idle.agreed idle.rack))
      (ready_away g.meaning n note (idle_below idle).tells idle.agreed idle.rack away)))))

  pub since_ready : site_disks e ≡ shade_meaning g.meaning idle.rack → ReturnSince (shade_meaning g.meaning rack) (site_disks new) → ReturnSince (site_disks e) (site_disks new)
  since_ready is since =
      subst (λ (m : Meaning). ReturnSince m (site_disks new)) (sym is) (return_then (shade_meaning g.meaning idle.rack) (shade_meaning g.meaning rack) (site_disks new)
      (return_at (λ s. shade_meaning g.meaning s) (shade_meaning g.meaning idle.rack) (ready_of idle.agreed idle.rack) rack ready (return_ready g.meaning idle.agreed idle.rack)) since)

-- the rack inside tells no more
module _ {R : Type 0} {g : Ghosts R} (e : GroupSite R g) (idle : Idle R g) (rack : Shade R) (ready : rack ≡ ready_of idle.agreed idle.rack) (new : GroupSite R g) where
  pub told_ready : site_below e ≡ g.meaning (rack_of idle.rack) → TellsLess (g.meaning (rack_of rack)) (site_below new) → TellsLess (site_below e) (site_below new)
  told_ready is less =
      subst (λ (m : Meaning). TellsLess m (site_below new)) (sym is)
      (subst (λ (r : R). TellsLess (g.meaning r) (site_below new)) (ap (λ s. rack_of s) ready ∙ below_ready g.meaning idle.agreed idle.rack) less)

-- the disks as an import sees them are as many, as large, and have the same counts
pub record ImportedSame (old new : Meaning) : Type 0 where
  pub units : new.units ≡ old.units
  pub size : (u : ℕ) → new.size u ≡ old.size u
  pub counts : (d : ℕ) → new.disk_faults d ≡ old.disk_faults d

same_all : (m : Meaning) → ImportedSame m m
same_all m = record { units = refl; size = λ u. refl; counts = λ d. refl }

same_ready : {R : Type 0} (meaning : R → Meaning) (agreed : Bool) (s : Shade R) → ImportedSame (shade_meaning meaning s) (shade_meaning meaning (ready_of agreed s))
same_ready meaning true s = same_all (shade_meaning meaning s)
same_ready meaning false (Dark r) = same_all (untold (meaning r))
same_ready meaning false (Bright r) = record { units = refl; size = λ u. refl; counts = λ d. refl }

pub imported_same : {R : Type 0} {g : Ghosts R} (e : GroupSite R g) → ImportedSame (site_disks e) (as_imported e)
imported_same {R} {g} (Up group) = same_all (site_disks {R = R} {g = g} (Up group))
imported_same {R} {g} (Deported idle) = same_ready g.meaning idle.agreed idle.rack
imported_same {R} {g} (Down idle) = same_ready g.meaning idle.agreed idle.rack
imported_same {R} {g} (Marked rack) = same_all (site_disks {R = R} {g = g} (Marked rack))
imported_same {R} {g} Gone = same_all (site_disks {R = R} {g = g} Gone)
