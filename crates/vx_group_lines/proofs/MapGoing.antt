-- How what is noted of the maps of a site's group goes on by a call of a line.
use Rattle.std.proofs.Common.{◌≡◌, ◌∙◌, ap, refl, subst, sym}
use Rattle.std.specs.Prelude.{None, Some, Ok}
use Rattle.vx_config.specs.declared.config.Config.{Config}
use Rattle.vx_disk.specs.Shelf.{Meaning}
use Rattle.vx_disk.specs.declared.shelf.Shelf.{Ghosts}
use Rattle.vx_history.specs.Groups.{GroupNode, MissedNote}
use Rattle.vx_history.specs.Missing.{no_maps, with_maps}
use Rattle.vx_history.specs.World.{Node}
use Rattle.vx_kept.specs.Cleans.{at_serial}
use Rattle.vx_grouped.specs.GroupNotes.{NotesConfig}
use Rattle.vx_grouped.specs.GroupSites.{DownNoted, UpNoted, idle_disks, site_config, site_disks, AwayNoted}
use Rattle.vx_grouped.specs.SiteEnds.{ConfigGoes, HasNow, NewestCommitted}
use Rattle.vx_grouped.specs.SiteMaps.{DownRests, MapsFor, MapsOf, StandMaps, UpMaps, DeportMapped, MapsLike}
use Rattle.vx_grouped.specs.declared.group_site.GroupSite.{GroupSite}
use Rattle.vx_grouped.specs.declared.group_site.GroupSite.TheVariants.{Deported, Down, Gone, Marked, Up}
use Rattle.vx_grouped.proofs.MapStandLemmas.{none_on_disks}
use Rattle.vx_diskset.specs.GroupCalls.{AtPlain, OnSites}
use Rattle.vx_diskset.specs.declared.disk_set.DiskSet.{DiskSet}
use Rattle.vx_diskset.specs.declared.disk_set.DiskSet.TheVariants.{Bare as BareSet, Spoiled, Up as RaisedSet, Receives, Down as DownSet, OfGroup, Over, Gone as GoneSet}
use Rattle.vx_diskset.specs.declared.group_set.GroupSet.{GroupSet}
use Rattle.vx_events.specs.GroupMaps.{WithMaps}
use Rattle.vx_above.proofs.Changing.{notes_config}

-- what a call makes of maps, by the disks and the configurations before and behind it
abbrev pub Goes : Type 1
Goes = Meaning → Meaning → Config → Config → MissedNote → MissedNote → Type 0

-- the note goes on, and has such maps then
pub with_goes : (Keeps : GroupNode → GroupNode → Type 0) (Maps : Config → Config → MissedNote → MissedNote → Type 0) (note next : GroupNode) (was now : Config) (w : MissedNote) → NotesConfig note was → NotesConfig next now → Keeps note next
    → Maps (at_serial 0 was) (at_serial 0 now) note.maps w → WithMaps Keeps Maps note (with_maps w next)
with_goes Keeps Maps note next was now w noted noted_now keeps change = record {
  middle = next;
  goes = keeps;
  maps = w;
  old = at_serial 0 was;
  now = at_serial 0 now;
  was = notes_config note was noted;
  now_is = notes_config next now noted_now;
  change = change;
  is = refl;
}

pub one_config : (a b : Config) → Some a ≡ Some b → a ≡ b
one_config a b is = cc is

module _ {R : Type 0} {g : Ghosts R} where
  -- ---- of a group that is up

  of_site : (note : GroupNode) (c was : Config) (e : GroupSite R g) → site_config e ≡ Some was → MapsFor note c e → MapsOf note.maps c e
  of_site note c was (Up group) is it = it
  of_site note c was (Deported idle) is it = absurd (let clash : None ≡ Some was = is in cc)
  of_site note c was (Down idle) is it = absurd (let clash : None ≡ Some was = is in cc)
  of_site note c was (Marked rack) is it = absurd (let clash : None ≡ Some was = is in cc)
  of_site note c was Gone is it = absurd (let clash : None ≡ Some was = is in cc)

  pub to_site : (w : MissedNote) (next : GroupNode) (c now : Config) (e : GroupSite R g) → site_config e ≡ Some now → MapsOf w c e → MapsFor (with_maps w next) c e
  to_site w next c now (Up group) is it = it
  to_site w next c now (Deported idle) is it = absurd (let clash : None ≡ Some now = is in cc)
  to_site w next c now (Down idle) is it = absurd (let clash : None ≡ Some now = is in cc)
  to_site w next c now (Marked rack) is it = absurd (let clash : None ≡ Some now = is in cc)
  to_site w next c now Gone is it = absurd (let clash : None ≡ Some now = is in cc)

  pub up_config : (n : Node) (note : GroupNode) (c : Config) (e : GroupSite R g) → UpNoted n note e → HasNow c e → site_config e ≡ Some c
  up_config n note c (Up group) up has = ap (λ (x : Config). Some x) has
  up_config n note c (Deported idle) up has = absurd up
  up_config n note c (Down idle) up has = absurd up
  up_config n note c (Marked rack) up has = absurd up
  up_config n note c Gone up has = absurd up

  -- the next note has these maps, and the site stands for it
  pub record MapsOn (By : MissedNote → MissedNote → Type 0) (note next : GroupNode) (new : GroupSite R g) : Type 0 where
    pub maps : MissedNote
    pub by : By note.maps maps
    pub stands : StandMaps (with_maps maps next) new

  -- the group is up behind the call, as `seen` notes it
  pub goes_up : (By : Goes) (m : Node) (note next seen : GroupNode) (old new : GroupSite R g) (Change : Config → Config → Type 0) → StandMaps note old → (goes : ConfigGoes Change note next old new) → UpNoted m seen new → UpMaps By old new
      → MapsOn (By (site_disks old) (site_disks new) goes.was goes.now) note next new
  goes_up By m note next seen old new Change had goes up moved =
      let has : site_config new ≡ Some goes.now = up_config m seen goes.now new up goes.has in
      let same : goes.was ≡ had.config = had.up goes.was goes.had in
      let first : MapsOf note.maps goes.was old = subst (λ (c : Config). MapsOf note.maps c old) (sym same) (of_site note had.config goes.was old goes.had had.maps) in
      let then = (moved.0 goes.was goes.now goes.had has).so note.maps first in
      record {
        maps = then.0;
        by = then.1;
        stands = record {
          config = goes.now;
          is = goes.noted_now.is;
          spells = goes.noted_now.spells;
          up = λ c is. one_config c goes.now (sym is ∙ has);
          maps = to_site then.0 next goes.now goes.now new has then.2;
        };
      }

  -- ---- of one that was deported, by the configuration that each image has

  pub record MapsAway (note next : GroupNode) (old new : GroupSite R g) (was : Config) : Type 0 where
    pub config : Config
    pub noted : NotesConfig next config
    pub maps : MissedNote
    pub by : MapsLike (site_disks old) (site_disks new) was config note.maps maps
    pub stands : StandMaps (with_maps maps next) new

  pub goes_away : (m : Node) (note next : GroupNode) (old : GroupSite R g) (was : Config) → StandMaps note old → site_config old ≡ Some was → (new : GroupSite R g) → AwayNoted m next new → NewestCommitted next new → DeportMapped old new (Ok tt)
      → MapsAway note next old new was
  goes_away m note next old was had is (Up group) away newest moved = absurd away
  goes_away m note next old was had is (Deported idle) away newest moved =
      let first : MapsOf note.maps was old = subst (λ (c : Config). MapsOf note.maps c old) (sym (had.up was is)) (of_site note had.config was old is had.maps) in
      let then = (moved was newest.0 is newest.2).so note.maps first in
      record {
        config = newest.0;
        noted = newest.1;
        maps = then.0;
        by = then.1;
        stands = record {
          config = newest.0;
          is = newest.1.is;
          spells = newest.1.spells;
          up = λ c some. absurd (let clash : None ≡ Some c = some in cc);
          maps = λ bright. then.2;
        };
      }
  goes_away m note next old was had is (Down idle) away newest moved = absurd away
  goes_away m note next old was had is (Marked rack) away newest moved = absurd away
  goes_away m note next old was had is Gone away newest moved = absurd away

  -- ---- of one whose fuse ran out: no map is known any more

  pub off_stands : (m : Node) (seen next : GroupNode) (now : Config) (e : GroupSite R g) → NotesConfig next now → DownNoted m seen e → DownRests e → StandMaps (with_maps no_maps next) e
  off_stands m seen next now (Up group) noted down rests = absurd down
  off_stands m seen next now (Deported idle) noted down rests = absurd down
  off_stands m seen next now (Down idle) noted down rests = record {
    config = now;
    is = noted.is;
    spells = noted.spells;
    up = λ c is. absurd (let clash : None ≡ Some c = is in cc);
    maps = λ bright. record { disks = none_on_disks 0 now (idle_disks idle); rests = rests };
  }
  off_stands m seen next now (Marked rack) noted down rests = absurd down
  off_stands m seen next now Gone noted down rests = absurd down

  -- ---- notes that differ in what else they say

  pub stand_as : (a b : GroupNode) (e : GroupSite R g) → b.config ≡ a.config → b.maps ≡ a.maps → b.dark ≡ a.dark → StandMaps a e → StandMaps b e
  stand_as a b e config maps dark it = record { config = it.config; is = config ∙ it.is; spells = it.spells; up = it.up; maps = by e it.maps }
    where
      by : (x : GroupSite R g) → MapsFor a it.config x → MapsFor b it.config x
      by (Up group) had = subst (λ (w : MissedNote). MapsOf w it.config (Up group)) (sym maps) had
      by (Deported idle) had = λ bright. subst (λ (w : MissedNote). MapsOf w it.config (Deported idle)) (sym maps) (had (sym dark ∙ bright))
      by (Down idle) had = λ bright. subst (λ (w : MissedNote). MapsOf w it.config (Down idle)) (sym maps) (had (sym dark ∙ bright))
      by (Marked rack) had = tt
      by Gone had = tt

  -- ---- disk sets

  pub on_both : (Q : GroupSite R g → GroupSite R g → Type 0) (before after : DiskSet R g) (set next : GroupSet R g) → before ≡ OfGroup set → after ≡ OfGroup next → OnSites Q before after → Q set.site next.site
  on_both Q before after set next was is it = subst (λ (x : DiskSet R g). OnSites Q (OfGroup set) x) is (subst (λ (x : DiskSet R g). OnSites Q x after) was it)

  at_map : (P Q : GroupSite R g → Type 0) → ((x : GroupSite R g) → P x → Q x) → (e : DiskSet R g) → AtPlain P e → AtPlain Q e
  at_map P Q f (BareSet rack) it = absurd it
  at_map P Q f (Spoiled rack) it = absurd it
  at_map P Q f (RaisedSet rvg) it = absurd it
  at_map P Q f (Receives s) it = absurd it
  at_map P Q f (DownSet rack) it = absurd it
  at_map P Q f (OfGroup s) it = f s.site it
  at_map P Q f (Over s) it = absurd it
  at_map P Q f GoneSet it = absurd it

  pub on_map : (P Q : GroupSite R g → GroupSite R g → Type 0) → ((o e : GroupSite R g) → P o e → Q o e) → (before after : DiskSet R g) (set : GroupSet R g) → before ≡ OfGroup set → OnSites P before after → OnSites Q before after
  on_map P Q f before after set is it =
      subst (λ (x : DiskSet R g). OnSites Q x after) (sym is) (at_map (P set.site) (Q set.site) (λ e. f set.site e) after (subst (λ (x : DiskSet R g). OnSites P x after) is it))
