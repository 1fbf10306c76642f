-- A group that is found on disks of which it is not known what they hold, by its note.
use Rattle.std.proofs.Common.{◌≡◌, ℕ, true, false, [], IsTrue, IsFalse, refl, sym, ◌∙◌, ap, subst}
use Rattle.std.proofs.lemmas.Bool.{both_ways, false_from_ne_true}
use Rattle.std.specs.Prelude.{None, Ok, Some}
use Rattle.vx_model.specs.declared.errors.Stop.{Stop}
use Rattle.vx_model.specs.declared.site.SiteState.TheVariants.{Up as IsUp}
use Rattle.vx_disk.specs.Racks.{IsRack}
use Rattle.vx_disk.specs.Shelf.{Meaning}
use Rattle.vx_disk.specs.declared.shelf.Shelf.{Ghosts}
use Rattle.vx_history.specs.Groups.{GroupNode, MissedNote}
use Rattle.vx_history.specs.World.{Fuse, Node, NoFuse, no_volumes}
use Rattle.vx_config.specs.Checks.{blocks_of}
use Rattle.vx_config.specs.Configs.{HasSpelling}
use Rattle.vx_config.specs.declared.config.Config.{Config}
use Rattle.vx_group.specs.Imports.{ImportStops}
use Rattle.vx_group.specs.Resumes.{CanImport}
use Rattle.vx_untold.specs.Untold.{untold}
use Rattle.vx_watched.specs.Since.{CalledSince}
use Rattle.vx_grouped.specs.Away.{AwayLies}
use Rattle.vx_grouped.specs.Begins.{group_begun}
use Rattle.vx_grouped.specs.Finds.{CanFind, FindStops, FindsUp, IsFoundNote}
use Rattle.vx_grouped.specs.GroupNotes.{noted_config}
use Rattle.vx_grouped.specs.GroupSites.{GroupUp, laid_disks, laid_below}
use Rattle.vx_grouped.specs.PlainMaps.{PartsNoted, laid_parts}
use Rattle.vx_grouped.specs.Returns.{GroupReturns, note_imported}
use Rattle.vx_grouped.specs.SetFuses.{HasFuse}
use Rattle.vx_grouped.specs.SiteEnds.{stops_down}
use Rattle.vx_grouped.specs.SiteMaps.{StandMaps}
use Rattle.vx_grouped.specs.SiteReturns.{ReturnSince}
use Rattle.vx_grouped.specs.declared.laid.Laid.{Laid}
use Rattle.vx_grouped.specs.declared.group_site.GroupSite.TheVariants.{Up}
use Rattle.vx_grouped.proofs.NotedLemmas.{spells_zero}
use Rattle.vx_grouped.proofs.SinceReturns.{returns_unarmed}
use Rattle.vx_grouped.proofs.SiteLemmas.{lies_as}
use Rattle.vx_grouped.proofs.StopLemmas.{down_of}
use Rattle.vx_grouped.proofs.WhyLemmas.{why_by}

-- nothing is asked of disks that tell nothing
pub untold_can : (m : Meaning) → CanImport (untold m)
untold_can m = record {
  base = λ i x each is. absurd (each 0 0);
  one = λ i j readable x each_i each_j is. absurd (each_i 0 0);
  plain = λ i readable x each is. absurd (each 0 0);
}

-- a note for disks of which nothing is known
abbrev seen_note : Config → MissedNote → GroupNode
seen_note last w = record {
  config = noted_config last;
  begun = [];
  loose = false;
  dark = true;
  bytes = record no_volumes { size = λ v. blocks_of last.volumes v };
  others = λ v b. [];
  cut = None;
  maps = w;
  inside = λ v. false;
}

seen_lies : (n : Node) (m : Meaning) (can : CanFind n m) (last : Config) (w : MissedNote) → AwayLies n (seen_note last w) last (untold m)
seen_lies n m can last w = record {
  units = can.units;
  size = can.size;
  can = λ tight. untold_can m;
  sizes = λ v. refl;
  finds = λ i each. absurd (each 0 0);
  volumes = λ i x each is. absurd (each 0 0);
  has = λ i x each is. absurd (each 0 0);
}

no_fuse : (f : Fuse) (m : Meaning) → f ≡ NoFuse → IsFalse m.armed → HasFuse f m
no_fuse f m is none = subst (λ (x : Fuse). HasFuse x m) (sym is) none

one_config : (a b : Config) → Some a ≡ Some b → a ≡ b
one_config a b is = cc is

module _ {R : Type 0} {g : Ghosts R} (site : ℕ) (n : Node) (m : Meaning) (can : CanFind n m) (group : Laid R g) (was : IsRack m) (now : IsRack (laid_disks group)) (has : HasSpelling group.core.inner.config) (since : ReturnSince m (laid_disks group))
    (leaves : (k : Node) (note : GroupNode) (last : Config) → AwayLies k note last (untold m) → GroupReturns k note last (untold m) group.core (laid_disks group)) (w : MissedNote) (maps : PartsNoted w (laid_parts group)) where
  back : GroupReturns n (seen_note group.core.inner.config w) group.core.inner.config (untold m) group.core (laid_disks group)
  back = leaves n (seen_note group.core.inner.config w) group.core.inner.config (seen_lies n m can group.core.inner.config w)

  abbrev note : GroupNode
  note = note_imported group.core.inner back.renewed back.value (seen_note group.core.inner.config w)

  up : GroupUp (group_begun note site n) note (laid_below group).tells group.core (laid_disks group)
  up = record {
    lit = λ bright. absurd (let clash : true ≡ false = bright in cc);
    noted = record { is = refl; none = record { role = refl; volumes = refl; log = refl; safe = refl; running = refl } };
    fuse = no_fuse n.fuse (laid_disks group) can.unfused (returns_unarmed m (laid_disks group) was now since can.unarmed);
    spells = spells_zero group.core.inner.config has;
    at = record { state = refl; up = back.at.up; lies = lies_as (record n { state = IsUp }) (group_begun note site n) note group.core (laid_disks group) refl refl back.at.lies };
  }

  found : IsFoundNote note group.core.inner.config
  found = record {
    config = record { is = refl; spells = spells_zero group.core.inner.config has };
    begun = refl;
    loose = refl;
    dark = refl;
    size = λ v. refl;
    cut = refl;
    inside = λ v. refl;
  }

  -- what memory has of maps is noted
  found_maps : StandMaps note (Up group)
  found_maps = record {
    config = group.core.inner.config;
    is = refl;
    spells = spells_zero group.core.inner.config has;
    up = λ c is. sym (one_config group.core.inner.config c is);
    maps = maps;
  }

  pub found_up : (S : Type 0) → FindsUp {S = S} site n (Ok (Up group))
  found_up S = (note, group.core.inner.config, found, refl, up, found_maps)

-- ---- none is found

pub find_stops : (n : Node) (m m' : Meaning) (stop : Stop) → IsRack m → IsRack m' → CanFind n m → CalledSince m m' → ImportStops (untold m) (untold m') stop → FindStops n m m' stop
find_stops n m m' stop was now can since stops = record {
  units = since.units ∙ can.units;
  size = λ u low. since.size u ∙ can.size u low;
  up = false_from_ne_true m'.down still;
  unarmed = since.unarmed can.unarmed;
  why = why_by m (untold m) (untold m') m' (λ u. refl) (λ u. refl) was.counts now.counts ⊥ (λ never i readable each. absurd never) (λ never. absurd never) ⊥ (λ never. absurd never) refl can.up stop
      (λ off. still (down_of (untold m) (untold m') stop (ap stops_down off) stops)) stops;
}
  where
    still : IsTrue m'.down → ⊥
    still down = both_ways m.down can.up (since.safe can.unarmed down)
