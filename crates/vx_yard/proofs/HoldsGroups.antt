-- What the disks of a site over a group hold of it.
use Rattle.std.proofs.Common.{◌≡◌, ◌∙◌, ◌⊎◌, ◌<◌, ◌≤◌, inl, inr, ℕ, zero, suc, List, [], ◌∷◌, Option, length, ap, refl, subst, sym, arith, IsTrue}
use Rattle.std.specs.Prelude.{Contains, Some, None, get_or, true, false}
use Rattle.std.specs.List.{slice_get}
use Rattle.std.proofs.lemmas.Option.{slice_get_cases}
use Rattle.vx_model.specs.declared.site.SiteState.TheVariants.{Bare as IsBare}
use Rattle.vx_history.specs.Groups.{BlockMay, GroupNode, MissedNote}
use Rattle.vx_history.specs.World.{Node}
use Rattle.vx_disk.specs.Shelf.{Each, Image, Lawful, Meaning}
use Rattle.vx_disk.specs.declared.shelf.Shelf.{Ghosts}
use Rattle.vx_config.specs.Checks.{blocks_of}
use Rattle.vx_config.specs.Configs.{HasSpelling}
use Rattle.vx_config.specs.Forms.{Reading}
use Rattle.vx_config.specs.declared.config.Config.{Config}
use Rattle.vx_config.specs.declared.entry.VolumeEntry.{VolumeEntry}
use Rattle.vx_copyfmt.specs.Imports.{Found}
use Rattle.vx_kept.specs.Choice.{live}
use Rattle.vx_kept.specs.Cleans.{at_serial}
use Rattle.vx_kept.specs.Groups.{found}
use Rattle.vx_kept.specs.Keeping.{SameShape, frame_at, frame_or}
use Rattle.vx_layout.specs.Places.{place}
use Rattle.vx_volume.specs.Plexes.{Inside}
use Rattle.vx_group.proofs.HoldLemmas.{wide_shape}
use Rattle.vx_group.specs.Holding.{GroupStands, wide}
use Rattle.vx_group.specs.declared.group_core.GroupCore.{GroupCore}
use Rattle.vx_grouped.proofs.NotedLemmas.{noted_is}
use Rattle.vx_grouped.specs.Away.{AwayLies}
use Rattle.vx_grouped.specs.GroupNotes.{GroupLies, NotesFound, noted_config, noted_try}
use Rattle.vx_grouped.specs.GroupSites.{GroupSiteStands, site_disks}
use Rattle.vx_grouped.specs.declared.group_site.GroupSite.{GroupSite}
use Rattle.vx_grouped.specs.declared.group_site.GroupSite.TheVariants.{Up as GroupUp, Deported as GroupAway, Down as GroupDown, Marked, Gone as GroupGone}
use Rattle.vx_grouped.specs.MapsNoted.{MapsNoted, MapsOnDisk}
use Rattle.vx_grouped.specs.SiteMaps.{StandMaps}
use Rattle.vx_loggroup.proofs.FactLemmas.{from_logged}
use Rattle.vx_untold.specs.Shades.{shade_lawful, shade_meaning}
use Rattle.vx_diskset.specs.Holds.{KeptBeside}
use Rattle.vx_diskset.specs.Stands.{IsGroupSet}
use Rattle.vx_diskset.specs.declared.group_set.GroupSet.{GroupSet}
use Rattle.vx_events.proofs.Places.{never_some, some_same}
use Rattle.vx_events.specs.GroupLines.{is_over_group}
use Rattle.vx_events.specs.GroupViews.{config_of, read_front}
use Rattle.vx_yard.specs.Holds.{HoldsGroup}
use Rattle.vx_yard.proofs.MapsHold.{away_maps_hold, up_maps_hold}
use Rattle.vx_yard.proofs.OverGroup.{bare_apart, both_ways}

some_volume : (vs : List VolumeEntry) (v b : ℕ) → b < blocks_of vs v → v < length vs
some_volume [] v b low = absurd (omega (arith, low))
some_volume (x ∷ vs) zero b low = omega arith
some_volume (x ∷ vs) (suc v) b low = let more : v < length vs = some_volume vs v b low in omega (arith, more)

inside_of : (c : Config) (v b : ℕ) → b < blocks_of c.volumes v → Inside c v b
inside_of c v b low = record { volume = some_volume c.volumes v b low; within = low }

-- ---- the configuration that is noted

-- a volume with the frame of one of c stands within c
frame_within : (c d : Config) (v : ℕ) → frame_at d v ≡ frame_at c v → v < length d.volumes → v < length c.volumes
frame_within c d v same low = by (slice_get_cases c.volumes v).1 (slice_get_cases d.volumes v).1
  where
    by : ((x : VolumeEntry) × (v < length c.volumes) × (slice_get c.volumes v ≡ Some x) × (get_or c.volumes v x ≡ x)) ⊎ ((length c.volumes ≤ v) × (slice_get c.volumes v ≡ None))
        → ((x : VolumeEntry) × (v < length d.volumes) × (slice_get d.volumes v ≡ Some x) × (get_or d.volumes v x ≡ x)) ⊎ ((length d.volumes ≤ v) × (slice_get d.volumes v ≡ None))
        → v < length c.volumes
    by (inl x) other = x.1
    by (inr past) (inl y) = absurd (never_some (sym (ap (λ (o : Option VolumeEntry). frame_or o) past.1) ∙ sym same ∙ ap (λ (o : Option VolumeEntry). frame_or o) y.2))
    by (inr past) (inr far) = absurd (omega (arith, low, far.0))

-- what is noted of a configuration is read back
read_back : (note : GroupNode) (k c : Config) → HasSpelling (at_serial 0 k) → note.config ≡ noted_config k → config_of note.config ≡ Some c → at_serial 0 k ≡ c
unfolding noted_config
read_back note k c spells is noted = some_same (sym (ap (λ (bytes : List ℕ). config_of bytes) is ∙ ap (λ (r : Reading Config). read_front r) (noted_is (at_serial 0 k) spells)) ∙ noted)

-- what stands as in this configuration stands as in the one that is noted
framed : (note : GroupNode) (k c x : Config) → HasSpelling (at_serial 0 k) → note.config ≡ noted_config k → config_of note.config ≡ Some c
    → ((v : ℕ) → v < length k.volumes → frame_at x v ≡ frame_at k v) → (v : ℕ) → v < length c.volumes → frame_at x v ≡ frame_at c v
framed note k c x spells is noted stands = subst (λ (e : Config). (v : ℕ) → v < length e.volumes → frame_at x v ≡ frame_at e v) (read_back note k c spells is noted) stands

-- and what has it but for its serial has the one that is noted
one_noted : (note : GroupNode) (k c x : Config) (m : Meaning) (i : Image) → HasSpelling (at_serial 0 k) → note.config ≡ noted_config k → config_of note.config ≡ Some c → NotesFound note k m → note.loose ≡ false → Each m.leaves i → found m i ≡ Found x
    → (at_serial 0 x ≡ c) ⊎ Contains note.begun (noted_try x)
one_noted note k c x m i spells is noted it tight each at = elim (it.each tight i x each at) [
  | inl same ↦ inl (same ∙ read_back note k c spells is noted)
  | inr has ↦ inr has
]

-- ---- the sites

-- what is noted of the maps is so of each image that the disks have now
abbrev MapsNow : GroupNode → Meaning → Type 0
MapsNow note m = (i : Image) (c x : Config) → config_of note.config ≡ Some c → m.now i → found m i ≡ Found x → MapsOnDisk note.maps c x i

-- a group that is up
up_holds : (n : Node) (note : GroupNode) (c : GroupCore) (m : Meaning) → HasSpelling (at_serial 0 c.inner.config) → GroupLies n note c m → GroupStands c m → Lawful m → MapsNow note m → HoldsGroup note m
up_holds n note c m spells lies stands lawful maps = record {
  finds = λ i now. stands.stands.kept.finds i (lawful.within i now);
  one = λ i k x tight noted now is. one_noted note c.inner.config k x m i spells lies.config noted lies.images.noted tight (lawful.within i now) is;
  volumes = λ i k x noted now is. framed note c.inner.config k x spells lies.config noted (stood i x now is);
  has = has;
  maps = maps;
}
  where
    stood : (i : Image) (x : Config) → m.now i → found m i ≡ Found x → (v : ℕ) → v < length c.inner.config.volumes → frame_at x v ≡ frame_at c.inner.config v
    stood i x now is v low =
        let shape : SameShape (wide c).config c.inner.config = wide_shape c in
        let long : length (wide c).config.volumes ≡ length c.inner.config.volumes = shape.volumes in
        (stands.stands.kept.kin i x (lawful.within i now) is).shape.frames v (omega (arith, low, long)) ∙ shape.frames v

    has : (i : Image) (x : Config) → m.now i → found m i ≡ Found x → (v p b : ℕ) → b < note.bytes.size v → IsTrue (live x v p) → BlockMay note v b (i (place x v p b).0 (place x v p b).1)
    has i x now is v p b low on =
        let each : Each m.leaves i = lawful.within i now in
        let it = stands.stands.kept.kin i x each is in
        let there : Inside (wide c).config v b = inside_of (wide c).config v b (subst (λ (k : ℕ). b < k) (lies.holds.size v) low) in
        let at : ℕ × ℕ = place (wide c).config v p b in
        let same : place x v p b ≡ at = it.shape.place v p b there.volume in
        subst (λ (k : ℕ × ℕ). BlockMay note v b (i k.0 k.1)) (sym same)
        (lies.holds.has v b (i at.0 at.1) there.volume there.within
        (inl (record { inside = there; plex = p; is_on = it.on v p there.volume on; value = each at.0 at.1 })))

-- one whose disks are by themselves: it is noted with a configuration whose volumes stand as in the last one
away_holds : (n : Node) (note : GroupNode) (k last : Config) (m : Meaning) → HasSpelling (at_serial 0 k) → note.config ≡ noted_config k → ((v : ℕ) → frame_at k v ≡ frame_at last v) → NotesFound note k m → AwayLies n note last m
    → Lawful m → MapsNow note m → HoldsGroup note m
away_holds n note k last m spells config frames found lies lawful maps = record {
  finds = λ i now. lies.finds i (lawful.within i now);
  one = λ i c x tight noted now is. one_noted note k c x m i spells config noted found tight (lawful.within i now) is;
  volumes = λ i c x noted now is. framed note k c x spells config noted (λ v low. (lies.volumes i x (lawful.within i now) is).frames v (frame_within last k v (frames v) low) ∙ sym (frames v));
  has = λ i x now is v p b low on. lies.has i x (lawful.within i now) is v p b (inside_of last v b (subst (λ (j : ℕ). b < j) (lies.sizes v) low)) on;
  maps = maps;
}

module _ {R : Type 0} {g : Ghosts R} (lawful : (r : R) → Lawful (g.meaning r)) where
  -- a site that has a group
  abbrev IsMade : GroupSite R g → Type 0
  IsMade (Marked rack) = ⊥
  IsMade GroupGone = ⊥
  IsMade other = Unit {0}

  site_maps : (note : GroupNode) (s : GroupSite R g) → IsMade s → StandMaps note s → note.dark ≡ false → MapsNow note (site_disks s)
  site_maps note (GroupUp laid) made had bright = λ i c x reads now is.
      let k : Config = laid.core.inner.config in
      let same : k ≡ had.config = had.up k refl in
      let w : MissedNote = note.maps in
      up_maps_hold w laid.core laid.logs.items laid.alike laid.stopped (shade_meaning g.meaning laid.shelf)
      (from_logged laid.core laid.logs.items laid.alike laid.stopped (shade_meaning g.meaning laid.shelf) laid.stands) (shade_lawful g.meaning lawful laid.shelf)
      (subst (λ (e : Config). MapsNoted w e laid.logs.items laid.alike laid.stopped) (sym same) had.maps) c x i
      (ap (λ (e : Config). at_serial 0 e) same ∙ read_back note had.config c had.spells had.is reads) now is
  site_maps note (GroupAway idle) made had bright = λ i c x reads now is.
      away_maps_hold note.maps had.config (shade_meaning g.meaning idle.rack) (shade_lawful g.meaning lawful idle.rack) (had.maps bright).disks c x i (read_back note had.config c had.spells had.is reads) now is
  site_maps note (GroupDown idle) made had bright = λ i c x reads now is.
      away_maps_hold note.maps had.config (shade_meaning g.meaning idle.rack) (shade_lawful g.meaning lawful idle.rack) (had.maps bright).disks c x i (read_back note had.config c had.spells had.is reads) now is
  site_maps note (Marked rack) made had bright = absurd made
  site_maps note GroupGone made had bright = absurd made

  site_holds : (n : Node) (s : GroupSite R g) (note : GroupNode) → GroupSiteStands n s → (n.state ≡ IsBare → ⊥) → n.group ≡ Some note → StandMaps note s → note.dark ≡ false → HoldsGroup note (site_disks s)
  site_holds n (GroupUp laid) note (k, it) made noted had bright =
      let m : Meaning = shade_meaning g.meaning laid.shelf in
      let same : k ≡ note = some_same (sym it.noted.is ∙ noted) in
      subst (λ (x : GroupNode). HoldsGroup x m) same
      (up_holds n k laid.core m it.spells it.at.lies laid.stands.group (shade_lawful g.meaning lawful laid.shelf) (subst (λ (x : GroupNode). MapsNow x m) (sym same) (site_maps note (GroupUp laid) tt had bright)))
  site_holds n (GroupAway idle) note (k, it) made noted had bright =
      let m : Meaning = shade_meaning g.meaning idle.rack in
      let same : k ≡ note = some_same (sym it.noted.is ∙ noted) in
      subst (λ (x : GroupNode). HoldsGroup x m) same
      (away_holds n k it.newest it.last m it.spells it.away.config it.away.frames it.away.found it.away.lies (shade_lawful g.meaning lawful idle.rack) (subst (λ (x : GroupNode). MapsNow x m) (sym same) (site_maps note (GroupAway idle) tt had bright)))
  site_holds n (GroupDown idle) note (k, it) made noted had bright =
      let m : Meaning = shade_meaning g.meaning idle.rack in
      let same : k ≡ note = some_same (sym it.noted.is ∙ noted) in
      subst (λ (x : GroupNode). HoldsGroup x m) same
      (away_holds n k it.last it.last m it.spells it.away.config (λ v. refl) it.away.found it.away.lies (shade_lawful g.meaning lawful idle.rack) (subst (λ (x : GroupNode). MapsNow x m) (sym same) (site_maps note (GroupDown idle) tt had bright)))
  site_holds n (Marked rack) note it made noted had bright = absurd (made it.state)
  site_holds n GroupGone note it made noted had bright = absurd it

  pub set_holds : (beside : KeptBeside) (n : Node) (s : GroupSet R g) (note : GroupNode) → IsGroupSet beside n s → is_over_group n ≡ true → n.group ≡ Some note → note.dark ≡ false → HoldsGroup note (site_disks s.site)
  set_holds beside n s note it over noted bright =
      let made : n.state ≡ IsBare → ⊥ = λ bare. both_ways over (bare_apart n (it.bare bare)) in
      site_holds n s.site note it.stands made noted (it.maps made note noted) bright
