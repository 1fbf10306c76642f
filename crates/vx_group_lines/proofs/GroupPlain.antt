-- A run of blocks of a volume of a group that is up, as a line names it.
use Rattle.std.proofs.Common.{◌≡◌, ◌∙◌, ◌+◌, ◌*◌, ◌≤◌, ℕ, zero, suc, true, List, [], ◌∷◌, map, ap, sym, arith}
use Rattle.std.specs.Prelude.{Option, Some, is_some, slice_get, unwrap_or}
use Rattle.vx_model.specs.declared.site.SiteState.TheVariants.{Up as IsUp}
use Rattle.vx_config.specs.Checks.{blocks_of}
use Rattle.vx_config.specs.declared.config.Config.{Config}
use Rattle.vx_config.specs.declared.entry.VolumeEntry.{VolumeEntry}
use Rattle.vx_disk.specs.declared.shelf.Shelf.{Ghosts}
use Rattle.vx_history.specs.Doubts.{Doubted}
use Rattle.vx_history.specs.Groups.{GroupNode}
use Rattle.vx_history.specs.World.{Node}
use Rattle.vx_order.specs.declared.facts.SiteFacts.{SiteFacts}
use Rattle.vx_order.specs.declared.facts.VolumeFacts.{VolumeFacts}
use Rattle.vx_group.proofs.HoldLemmas.{wide_shape}
use Rattle.vx_grouped.specs.GroupSites.{FitsPlain, UpNoted}
use Rattle.vx_grouped.specs.declared.group_site.GroupSite.{GroupSite}
use Rattle.vx_grouped.specs.declared.group_site.GroupSite.TheVariants.{Up as SiteUp, Deported as SiteAway, Down as SiteDown, Marked, Gone as SiteGone}
use Rattle.vx_diskset.specs.declared.disk_set.DiskSet.{DiskSet}
use Rattle.vx_events.proofs.Places.{some_same}
use Rattle.vx_events.proofs.RefusedCalls.{CallMay}
use Rattle.vx_events.specs.Facts.{place_of, seat_of, site_number}
use Rattle.vx_events.specs.GroupLines.{plain_number}
use Rattle.vx_events.specs.GroupNotes.{note_at}
use Rattle.vx_events.specs.GroupViews.{noted_table, plain_fact}
use Rattle.vx_events.specs.StepsOver.{fact_of_group, over_group_at}
use Rattle.vx_yard.proofs.NamedSite.{named_same, place_at}
use Rattle.vx_yard.specs.Standing.{StandsFor}
use Rattle.vx_yard.specs.declared.yard.Yard.{Yard}
use Rattle.vx_group_lines.proofs.GroupAt.{GroupAt, group_at, up_noted}
use Rattle.vx_group_lines.proofs.Numbered.{placed_at}
use Rattle.vx_group_lines.specs.Noting.{HasConfig, number_in}
use Rattle.vx_above.proofs.GroupStatus.{config_is, table_is}

-- how many blocks the tests see of a volume
plain_blocks : (vs : List VolumeEntry) (v : ℕ) (x : VolumeFacts) → slice_get (map plain_fact vs) v ≡ Some x → blocks_of vs v ≡ x.blocks
plain_blocks [] v x at = absurd (cc)
plain_blocks (y ∷ ys) zero x at = ap (λ (f : VolumeFacts). f.blocks) (some_same at)
plain_blocks (y ∷ ys) (suc v) x at = plain_blocks ys v x at

module _ {R : Type 0} {g : Ghosts R} where
  -- and so many are noted of it
  pub up_size : (n : Node) (note : GroupNode) (e : GroupSite R g) → UpNoted n note e → (v : ℕ) (x : VolumeFacts) → slice_get (noted_table note) v ≡ Some x → note.bytes.size v ≡ x.blocks
  up_size n note (SiteUp group) it v x at =
      let c : Config = group.core.inner.config in
      let table : noted_table note ≡ map plain_fact c.volumes = table_is note c (config_is note.config c it.at.lies.config it.spells) in
      it.at.lies.holds.size v ∙ (wide_shape group.core).blocks v ∙ plain_blocks c.volumes v x (ap (λ (fs : List VolumeFacts). slice_get fs v) (sym table) ∙ at)
  up_size n note (SiteAway idle) it v x at = absurd it
  up_size n note (SiteDown idle) it v x at = absurd it
  up_size n note (Marked rack) it v x at = absurd it
  up_size n note SiteGone it v x at = absurd it

  -- so many blocks from this one on, which lie in the volume of this number
  pub record PlainCall (d : Doubted) (y : Yard R g) (name volume : List ℕ) (start count s place : ℕ) (e : DiskSet R g) : Type 0 where
    pub at : GroupAt d y name s e
    pub number : site_number d.world name ≡ s
    pub up : (d.world.nodes s).state ≡ IsUp
    pub volume_is : plain_number (note_at (d.world.nodes s)) volume ≡ place
    pub some : 1 ≤ count
    pub within : start + count ≤ (note_at (d.world.nodes s)).bytes.size place

  pub plain_call : (d : Doubted) (y : Yard R g) (name volume : List ℕ) (start count s place : ℕ) (e : DiskSet R g) → StandsFor d y → over_group_at d.world name ≡ true → CallMay y.facts.items name volume start count
      → seat_of y.facts.items name ≡ Some s → slice_get y.disk_sets.items s ≡ Some e → ((f : SiteFacts) → slice_get y.facts.items s ≡ Some f → place_of f.volumes volume ≡ Some place) → PlainCall d y name volume start count s place e
  plain_call d y name volume start count s place e stands over may seat there place_is =
      let n : Node = d.world.nodes s in
      let note : GroupNode = note_at n in
      let at : GroupAt d y name s e = group_at d y name s e stands seat over there in
      let fact : may.site.facts ≡ fact_of_group n note = named_same y name s (fact_of_group n note) may.site seat at.fact in
      let up : n.state ≡ IsUp = ap (λ (f : SiteFacts). f.state) (sym fact) ∙ may.up in
      let found : place_of (noted_table note) volume ≡ Some place = place_is (fact_of_group n note) at.fact in
      let where_found : may.at.place ≡ place = some_same (sym may.at.is ∙ ap (λ (f : SiteFacts). place_of f.volumes volume) fact ∙ found) in
      let size : note.bytes.size place ≡ may.found.blocks = up_size n note at.set.site (up_noted n at.set.site at.stands.stands up) place may.found
      (ap (λ (f : SiteFacts). slice_get f.volumes place) (sym fact) ∙ ap (λ (i : ℕ). slice_get may.site.facts.volumes i) (sym where_found) ∙ may.at.there) in
      record {
        at = at;
        number = (place_at d y name s stands seat).number;
        up = up;
        volume_is = ap (λ (o : Option ℕ). unwrap_or o 0) found;
        some = may.some;
        within = omega (arith, may.range, size);
      }

  -- the same by the number in the group
  pub plain_numbered : (d : Doubted) (y : Yard R g) (name volume : List ℕ) (start count s place : ℕ) (e : DiskSet R g) → StandsFor d y → over_group_at d.world name ≡ true → CallMay y.facts.items name volume start count
      → seat_of y.facts.items name ≡ Some s → slice_get y.disk_sets.items s ≡ Some e → ((c : Config) → HasConfig s c y → place ≡ number_in c.volumes volume) → PlainCall d y name volume start count s place e
  plain_numbered d y name volume start count s place e stands over may seat there number =
      let n : Node = d.world.nodes s in
      let note : GroupNode = note_at n in
      let at : GroupAt d y name s e = group_at d y name s e stands seat over there in
      let fact : may.site.facts ≡ fact_of_group n note = named_same y name s (fact_of_group n note) may.site seat at.fact in
      let up : n.state ≡ IsUp = ap (λ (f : SiteFacts). f.state) (sym fact) ∙ may.up in
      plain_call d y name volume start count s place e stands over may seat there
      (placed_at y s e volume place n note at.set at.is_set (up_noted n at.set.site at.stands.stands up) at.fact there number
      (λ f shown. ap (λ (k : SiteFacts). is_some (place_of k.volumes volume)) (sym (named_same y name s f may.site seat shown)) ∙ ap (λ (o : Option ℕ). is_some o) may.at.is))

  -- such bytes fit it
  pub plain_fits : (d : Doubted) (y : Yard R g) (name volume : List ℕ) (start count s place : ℕ) (e : DiskSet R g) (size : ℕ) → PlainCall d y name volume start count s place e → size ≡ 512 * count
      → FitsPlain (note_at (d.world.nodes s)) place start size
  plain_fits d y name volume start count s place e size plain is = record {
    some = omega (arith, plain.some, is);
    whole = omega (arith, is);
    within = omega (arith, plain.within, is);
  }
