-- The number of a volume of a group without a replicated volume group is its place in the table that the tests see.
use Rattle.std.proofs.Common.{◌≡◌, ◌∙◌, ◌+◌, ℕ, true, false, List, [], ◌∷◌, map, ap, sym, subst, refl}
use Rattle.std.proofs.lemmas.Iterator.Adapters.{position_from-zero}
use Rattle.std.specs.List.{position, position_from}
use Rattle.std.specs.Prelude.{Option, Some, None, IsSome, cond, slice_get, unwrap_or}
use Rattle.std.specs.Str.{bytes_eq}
use Rattle.vx_config.specs.declared.config.Config.{Config}
use Rattle.vx_config.specs.declared.entry.VolumeEntry.{VolumeEntry}
use Rattle.vx_disk.specs.declared.shelf.Shelf.{Ghosts}
use Rattle.vx_history.specs.Groups.{GroupNode}
use Rattle.vx_history.specs.World.{Node}
use Rattle.vx_order.specs.declared.facts.SiteFacts.{SiteFacts}
use Rattle.vx_order.specs.declared.facts.VolumeFacts.{VolumeFacts}
use Rattle.vx_grouped.specs.GroupSites.{UpNoted, site_config}
use Rattle.vx_grouped.specs.declared.group_site.GroupSite.{GroupSite}
use Rattle.vx_grouped.specs.declared.group_site.GroupSite.TheVariants.{Up as SiteUp, Deported as SiteAway, Down as SiteDown, Marked, Gone as SiteGone}
use Rattle.vx_diskset.specs.GroupCalls.{AtSite}
use Rattle.vx_diskset.specs.declared.disk_set.DiskSet.{DiskSet}
use Rattle.vx_diskset.specs.declared.disk_set.DiskSet.TheVariants.{OfGroup}
use Rattle.vx_diskset.specs.declared.group_set.GroupSet.{GroupSet}
use Rattle.vx_events.proofs.Places.{some_same}
use Rattle.vx_events.specs.Facts.{place_of}
use Rattle.vx_events.specs.GroupViews.{noted_table, plain_fact}
use Rattle.vx_events.specs.StepsOver.{fact_of_group}
use Rattle.vx_yard.specs.declared.yard.Yard.{Yard}
use Rattle.vx_above.proofs.Changing.{notes_table}
use Rattle.vx_group_lines.specs.Noting.{HasConfig, number_in}

named_from : (name : List ℕ) (k : ℕ) (vs : List VolumeEntry)
    → position_from (λ (v : VolumeFacts). bytes_eq v.name name) k (map plain_fact vs) ≡ position_from (λ (v : VolumeEntry). bytes_eq v.name name) k vs
named_from name k [] = refl
named_from name k (v ∷ vs) = ap (λ (o : Option ℕ). cond (bytes_eq v.name name) (Some k) o) (named_from name (k + 1) vs)

-- the tests see the volumes by their names
named_there : (name : List ℕ) (vs : List VolumeEntry) → place_of (map plain_fact vs) name ≡ position (λ (v : VolumeEntry). bytes_eq v.name name) vs
named_there name vs =
    position_from-zero (λ (v : VolumeFacts). bytes_eq v.name name) (map plain_fact vs)
    ∙ named_from name 0 vs
    ∙ sym (position_from-zero (λ (v : VolumeEntry). bytes_eq v.name name) vs)

-- so the number is the one that is noted
pub numbered : (name : List ℕ) (vs : List VolumeEntry) → unwrap_or (place_of (map plain_fact vs) name) 0 ≡ number_in vs name
numbered name vs = ap (λ (o : Option ℕ). unwrap_or o 0) (named_there name vs)

there_is : (o : Option ℕ) → IsSome o → o ≡ Some (unwrap_or o 0)
there_is None some = absurd (let clash : false ≡ true = some in cc)
there_is (Some k) some = refl

module _ {R : Type 0} {g : Ghosts R} where
  pub placed_at : (y : Yard R g) (s : ℕ) (e : DiskSet R g) (volume : List ℕ) (k : ℕ) (n : Node) (note : GroupNode) (set : GroupSet R g) → e ≡ OfGroup set → UpNoted n note set.site → slice_get y.facts.items s ≡ Some (fact_of_group n note)
      → slice_get y.disk_sets.items s ≡ Some e → ((c : Config) → HasConfig s c y → k ≡ number_in c.volumes volume) → ((f : SiteFacts) → slice_get y.facts.items s ≡ Some f → IsSome (place_of f.volumes volume))
      → (f : SiteFacts) → slice_get y.facts.items s ≡ Some f → place_of f.volumes volume ≡ Some k
  placed_at y s e volume k n note set is_set up fact there number some f at = by set.site refl up
    where
      by : (x : GroupSite R g) → set.site ≡ x → UpNoted n note x → place_of f.volumes volume ≡ Some k
      by (SiteUp laid) is it =
          let c : Config = laid.core.inner.config in
          let table : noted_table note ≡ map plain_fact c.volumes = notes_table note c (record { is = it.at.lies.config; spells = it.spells }) in
          let volumes : f.volumes ≡ noted_table note = ap (λ (x : SiteFacts). x.volumes) (some_same (sym at ∙ fact)) in
          let has : HasConfig s c y = record {
            disk_set = e;
            there = there;
            is = subst (λ (x : DiskSet R g). AtSite (λ z. site_config z ≡ Some c) x) (sym is_set) (ap (λ (z : GroupSite R g). site_config z) is);
          } in
          let found : unwrap_or (place_of f.volumes volume) 0 ≡ k =
          ap (λ (vs : List VolumeFacts). unwrap_or (place_of vs volume) 0) (volumes ∙ table) ∙ numbered volume c.volumes ∙ sym (number c has) in
          there_is (place_of f.volumes volume) (some f at) ∙ ap (λ (j : ℕ). Some j) found
      by (SiteAway idle) is it = absurd it
      by (SiteDown idle) is it = absurd it
      by (Marked rack) is it = absurd it
      by SiteGone is it = absurd it
