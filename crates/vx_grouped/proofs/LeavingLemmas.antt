-- A deport of a site's group, by its note.
use Rattle.std.proofs.Common.{◌≡◌, ◌⊎◌, ◌-◌, ◌<◌, ◌≤◌, inl, inr, ℕ, false, true, [], IsTrue, refl, sym, ◌∙◌, subst, arith, Bool, if◌then◌else◌}
use Rattle.std.proofs.lemmas.Bool.{cases_lt}
use Rattle.std.specs.Prelude.{Some, Ok, Err, slice_get}
use Rattle.vx_model.specs.declared.errors.Stop.{Stop}
use Rattle.vx_model.specs.declared.errors.Stop.TheVariants.{No as Refused, OutOfMemory}
use Rattle.vx_model.specs.declared.no.Counted.TheVariants.{Number as Numbers}
use Rattle.vx_model.specs.declared.no.No.{No}
use Rattle.vx_model.specs.declared.no.No.TheVariants.{Device, Down as IsOff, Limit}
use Rattle.vx_model.specs.declared.site.SiteState.TheVariants.{Deported as IsDeported, Down as IsDown}
use Rattle.vx_disk.specs.Counts.{Rose}
use Rattle.vx_disk.specs.Shelf.{Meaning}
use Rattle.vx_disk.specs.declared.shelf.Shelf.{Ghosts}
use Rattle.vx_history.specs.Groups.{GroupNode}
use Rattle.vx_history.specs.World.{Node}
use Rattle.vx_config.specs.Changes.{Matched, live_again}
use Rattle.vx_config.specs.Table.{greatest}
use Rattle.vx_group.specs.Dets.{DetStops, margin}
use Rattle.vx_watched.specs.Since.{CalledSince}
use Rattle.vx_group.specs.declared.group_core.GroupCore.{GroupCore}
use Rattle.vx_grouped.specs.Away.{IsDeportedAt, note_deported, IsAwayAt}
use Rattle.vx_grouped.specs.GroupSites.{GroupUp, idle_disks, laid_disks, laid_below, idle_below}
use Rattle.vx_grouped.specs.SiteEnds.{LacksDeport, SiteDeported, stops_down}
use Rattle.vx_grouped.specs.declared.idle.Idle.{Idle}
use Rattle.vx_grouped.specs.declared.laid.Laid.{Laid}
use Rattle.vx_grouped.specs.declared.group_site.GroupSite.TheVariants.{Up, Deported, Down}
use Rattle.vx_grouped.proofs.SettleLemmas.{deport_settles, fuse_burned}
use Rattle.vx_grouped.proofs.SiteLemmas.{away_with}
use Rattle.vx_group.specs.Quiesces.{AnyFailed}
use Rattle.vx_grouped.specs.ConfigMoves.{CleansPlexes, DiskMoves, LosesSome, OpensMost, OpensSame, PlexRose, none_again}
use Rattle.vx_grouped.specs.CoreMoves.{BackMoves}
use Rattle.vx_grouped.specs.Ends.{CallLeaves}
use Rattle.vx_group.specs.Resumes.{CanImport}
use Rattle.vx_model.specs.declared.site.PlexState.{PlexState}
use Rattle.vx_model.specs.declared.site.PlexState.TheVariants.{Active, Clean, Stale}
use Rattle.vx_untold.specs.declared.shade.Shade.{Shade}
use Rattle.vx_group.specs.Deports.{DeportedBy}
use Rattle.vx_grouped.specs.GroupNotes.{GroupLies}
use Rattle.vx_group.specs.Holding.{GroupStands, wide}
use Rattle.vx_config.specs.Configs.{HasSpelling}
use Rattle.vx_disk.specs.Racks.{IsRack, Stopped}
use Rattle.vx_kept.specs.Cleans.{at_serial}
use Rattle.vx_grouped.proofs.CalledLemmas.{blames_device, called_cut, called_up, none_else}
use Rattle.vx_grouped.proofs.WriteLemmas.{both_lose}
use Rattle.vx_grouped.proofs.DeportedLemmas.{deported_at, newest_frames, newest_lives}
use Rattle.vx_grouped.proofs.MovesLemmas.{disk_place, loses_some, plex_rose, volume_moves}
use Rattle.vx_grouped.proofs.PlexMoveLemmas.{on_by}
use Rattle.vx_grouped.proofs.StateChangeLemmas.{live_state, live_there, on_state, on_there}
use Rattle.vx_config.specs.declared.entry.PlexEntry.{PlexEntry}
use Rattle.vx_copies.proofs.OneTry.{wanted_count}
use Rattle.vx_layout.specs.Places.{plex_at}
use Rattle.vx_volume.specs.Plexes.{active}
use Rattle.vx_volume.specs.Volumes.{PlexBlamed}
use Rattle.vx_kept.proofs.Chosen.{live_volumes}
use Rattle.vx_kept.proofs.Narrower.{on_live}
use Rattle.vx_group.proofs.HoldLemmas.{narrow_on, narrow_sound}
use Rattle.vx_group.proofs.LoseLemmas.{loses_same}
use Rattle.vx_untold.specs.Shades.{shade_meaning, rack_of}
use Rattle.vx_grouped.proofs.SpellLemmas.{spells_like}
use Rattle.vx_watched.specs.Traces.{TellsLess}
use Rattle.vx_grouped.proofs.TraceLemmas.{lit_since}

-- why it was refused: as too few serials were left, or for a device
abbrev pub Refuses : GroupCore → Meaning → Meaning → Stop → Type 0
Refuses c m m' stop = ((stop ≡ Refused (Limit Numbers greatest)) × (greatest - margin < c.inner.config.serial)) ⊎ DetStops {T = Unit {0}} m m' (Err stop)

pub refuses_by_serial : (c : GroupCore) (m m' : Meaning) (stop : Stop) → (greatest - margin < c.inner.config.serial → stop ≡ Refused (Limit Numbers greatest)) → (c.inner.config.serial ≤ greatest - margin → DetStops {T = Unit {0}} m m' (Err stop)) → Refuses c m m' stop
refuses_by_serial c m m' stop full enough = elim (cases_lt (greatest - margin) c.inner.config.serial) [
  | inl lt ↦ inl (full lt, lt)
  | inr le ↦ inr (enough le)
]

pub deport_down : (c : GroupCore) (m m' : Meaning) (stop : Stop) → stops_down stop ≡ true → Refuses c m m' stop → IsTrue m'.down
deport_down c m m' (Refused IsOff) off (inl full) = let clash : Refused IsOff ≡ Refused (Limit Numbers greatest) = full.0 in cc
deport_down c m m' (Refused IsOff) off (inr it) = it
deport_down c m m' (Refused (Device disk)) off it = cc
deport_down c m m' (Refused other) off it = cc
deport_down c m m' OutOfMemory off it = cc

pub deport_rose : (c : GroupCore) (m m' : Meaning) (stop : Stop) → Refuses c m m' stop → (disk : ℕ) → stop ≡ Refused (Device disk) → Rose (m.disk_faults disk) (m'.disk_faults disk)
deport_rose c m m' stop (inl full) disk is = let clash : Refused (Limit Numbers greatest) ≡ Refused (Device disk) = sym full.0 ∙ is in absurd (never clash)
  where
    never : Refused (Limit Numbers greatest) ≡ Refused (Device disk) → ⊥
    never clash = cc
deport_rose c m m' stop (inr it) disk is = subst (λ (x : Stop). DetStops {T = Unit {0}} m m' (Err x)) is it

-- why it is refused, but for a device
deport_lacks : (c : GroupCore) (m m' : Meaning) (stop : Stop) → Refuses c m m' stop → (which : No) → stop ≡ Refused which → blames_device which ≡ false → (which ≡ Limit Numbers greatest) × (greatest - margin < c.inner.config.serial)
deport_lacks c m m' stop (inl full) which is other = (same_limit which (sym is ∙ full.0), full.1)
  where
    same_limit : (x : No) → Refused x ≡ Refused (Limit Numbers greatest) → x ≡ Limit Numbers greatest
    same_limit x same = cc
deport_lacks c m m' stop (inr it) which is other = absurd (none_else m m' which other (subst (λ (x : Stop). DetStops {T = Unit {0}} m m' (Err x)) is it))

-- ---- the configuration of disks that were deported

opened_by : (s t : PlexState) → live_state t ≡ live_state s → live_again t ≡ live_again s
opened_by Active Active same = refl
opened_by Active Clean same = refl
opened_by Active Stale same = let clash : false ≡ true = same in cc
opened_by Clean Active same = refl
opened_by Clean Clean same = refl
opened_by Clean Stale same = let clash : false ≡ true = same in cc
opened_by Stale Active same = let clash : true ≡ false = same in cc
opened_by Stale Clean same = let clash : true ≡ false = same in cc
opened_by Stale Stale same = refl

opened_most : (Lost : Type 0) (s t : PlexState) → (live_state s ≡ true → on_state s ≡ true) → (on_state s ≡ true → (live_state t ≡ true) ⊎ Lost) → (live_again t ≡ live_again s) ⊎ ((t ≡ Stale) × Lost) ⊎ ((live_again t ≡ Active) × (s ≡ Stale))
opened_most Lost Active Active all goes = inl refl
opened_most Lost Active Clean all goes = inl refl
opened_most Lost Active Stale all goes = elim (goes refl) [ inl live ↦ absurd (let clash : false ≡ true = live in cc) | inr rose ↦ inr (inl (refl, rose)) ]
opened_most Lost Clean t all goes = absurd (let clash : false ≡ true = all refl in cc)
opened_most Lost Stale Active all goes = inr (inr (refl, refl))
opened_most Lost Stale Clean all goes = inr (inr (refl, refl))
opened_most Lost Stale Stale all goes = inl refl

module _ (n : Node) (note : GroupNode) (c : GroupCore) (m m' : Meaning) (lies : GroupLies n note c m) (stands : GroupStands c m) (one : (u : ℕ) → m.disk_faults u ≡ m.faults u) (two : (u : ℕ) → m'.disk_faults u ≡ m'.faults u) (it : DeportedBy (wide c).config c.inner m m') where
  disks : (k : ℕ) → Matched (DiskMoves none_again m m' k) (slice_get c.inner.config.disks k) (slice_get it.config.disks k)
  disks = disk_place c.inner.config it.config m m' one two none_again it.failing.count it.failing.blocks it.failing.blamed (λ u off. it.failing.stays u)

  -- a plex that takes part no more was on a disk that failed
  most : (v k : ℕ) (p q : PlexEntry) → plex_at c.inner.config v k ≡ Some p → plex_at it.config v k ≡ Some q → (live_again q.state ≡ live_again p.state) ⊎ ((q.state ≡ Stale) × PlexRose m m' p) ⊎ ((live_again q.state ≡ Active) × (p.state ≡ Stale))
  most v k p q at_p at_q =
      opened_most (PlexRose m m' p) p.state q.state (λ is. on_by c.inner.config (narrow_on c m stands) v k p at_p is) (λ is. goes (it.quiesces.loses.plexes v k (on_there c.inner.config v k p at_p ∙ is)))
    where
      goes : IsTrue (active it.behind.config v k) ⊎ PlexBlamed c.inner.config v k m m' → (live_state q.state ≡ true) ⊎ PlexRose m m' p
      goes (inl on) = inl (sym (live_there it.config v k q at_q) ∙ newest_lives n note c m m' lies stands it v k ∙ on_live it.behind.config v k on)
      goes (inr blamed) = inr (plex_rose c.inner.config m m' one two (narrow_sound c m stands) (wanted_count m.units m.size (wide c).config stands.stands.wanted) v k p at_p blamed)

  cleans_by : (it.behind.config.volumes ≡ c.inner.config.volumes) ⊎ AnyFailed m m' → CleansPlexes m m' c.inner.config it.config
  cleans_by (inl same) = inl (record {
    parts = it.parts;
    disks = disks;
    volumes = λ v. volume_moves OpensSame c.inner.config it.config v (newest_frames n note c m m' lies stands it v) (λ e k p q at_e at_p at_q.
        opened_by p.state q.state (sym (live_there it.config v k q at_q) ∙ newest_lives n note c m m' lies stands it v k ∙ live_volumes it.behind.config c.inner.config same v k ∙ live_there c.inner.config v k p at_p));
  })
  cleans_by (inr any) = inr (
    any,
    record {
      parts = it.parts;
      disks = disks;
      volumes = λ v. volume_moves (OpensMost m m') c.inner.config it.config v (newest_frames n note c m m' lies stands it v) (λ e k p q at_e at_p at_q. most v k p q at_p at_q);
    },
  )

  cleans : CleansPlexes m m' c.inner.config it.config
  cleans = cleans_by it.quiesces.volumes

  newest_spells : HasSpelling (at_serial 0 c.inner.config) → HasSpelling (at_serial 0 it.config)
  newest_spells has = spells_like c.inner.config it.config it.parts (newest_frames n note c m m' lies stands it) it.failing.blocks has

-- the note of a deport is tight where the newest configuration was committed
deport_tight : (kept : Bool) → (if kept then false else true) ≡ false → kept ≡ true
deport_tight true is = refl
deport_tight false is = cc

module _ {R : Type 0} {g : Ghosts R} (n : Node) (note : GroupNode) (group : Laid R g) (up : GroupUp n note (laid_below group).tells group.core (laid_disks group)) (racks : (s : Shade R) → IsRack (shade_meaning g.meaning s)) where
  module _ (idle : Idle R g) (since : CalledSince (laid_disks group) (idle_disks idle)) (same : idle.agreed ≡ group.core.inner.committed) (less : TellsLess (laid_below group) (idle_below idle)) where
    deported_of : (it : DeportedBy (wide group.core).config group.core.inner (laid_disks group) (idle_disks idle)) → IsDeportedAt (record n { state = IsDeported }) (note_deported it.config group.core.inner note) group.core.inner.config it.config (idle_disks idle)
        → (IsTrue (idle_disks idle).down → ⊥) → SiteDeported n note (Up group) (Deported idle) (Ok tt)
    deported_of it at still =
        let spells = newest_spells n note group.core (laid_disks group) (idle_disks idle) up.at.lies group.stands.group (racks group.shelf).counts (racks idle.rack).counts it up.spells in (
          note_deported it.config group.core.inner note,
          deport_settles it.config group.core.inner note up.at.lies.committed,
          away_with n note (note_deported it.config group.core.inner note) idle.agreed (idle_below idle).tells group.core.inner.config it.config (idle_disks idle) up.noted
              (lit_since note (note_deported it.config group.core.inner note) (laid_below group).tells (idle_below idle).tells (laid_disks group) (idle_disks idle) refl since.tells less up.lit) (λ tight. same ∙ deport_tight group.core.inner.committed tight) still (fuse_burned n.fuse (laid_disks group) (idle_disks idle) since.unarmed up.fuse) spells at,
          record {
            was = group.core.inner.config;
            now = it.config;
            had = refl;
            has = tt;
            noted = record { is = up.at.lies.config; spells = up.spells };
            noted_now = record { is = refl; spells = spells };
            change = cleans n note group.core (laid_disks group) (idle_disks idle) up.at.lies group.stands.group (racks group.shelf).counts (racks idle.rack).counts it;
          },
          (it.config, record { is = refl; spells = spells }, record { finds = it.finds }),
        )

    pub deported_done : (group.core.inner.committed ≡ true → CanImport (idle_disks idle)) → DeportedBy (wide group.core).config group.core.inner (laid_disks group) (idle_disks idle) → (IsTrue (idle_disks idle).down → ⊥)
        → SiteDeported n note (Up group) (Deported idle) (Ok tt)
    deported_done can it still = deported_of it (deported_at n note group.core (laid_disks group) (idle_disks idle) up.at.lies group.stands.group it can) still

  -- the same of the disks that were handed out
  pub deported_from : (idle : Idle R g) (rack : Shade R) → idle.rack ≡ rack → idle.agreed ≡ group.core.inner.committed → CalledSince (laid_disks group) (shade_meaning g.meaning rack) → TellsLess (laid_below group) (g.meaning (rack_of rack)) → (group.core.inner.committed ≡ true → CanImport (shade_meaning g.meaning rack))
      → DeportedBy (wide group.core).config group.core.inner (laid_disks group) (shade_meaning g.meaning rack) → (IsTrue (shade_meaning g.meaning rack).down → ⊥) → SiteDeported n note (Up group) (Deported idle) (Ok tt)
  deported_from idle rack same agreed since less can it still =
      deported_done idle (subst (λ (s : Shade R). CalledSince (laid_disks group) (shade_meaning g.meaning s)) (sym same) since) agreed (subst (λ (s : Shade R). TellsLess (laid_below group) (g.meaning (rack_of s))) (sym same) less)
      (subst (λ (s : Shade R). group.core.inner.committed ≡ true → CanImport (shade_meaning g.meaning s)) (sym same) can)
      (subst (λ (s : Shade R). DeportedBy (wide group.core).config group.core.inner (laid_disks group) (shade_meaning g.meaning s)) (sym same) it)
      (subst (λ (s : Shade R). IsTrue (shade_meaning g.meaning s).down → ⊥) (sym same) still)

  module _ (new : Laid R g) (since : CalledSince (laid_disks group) (laid_disks new)) (less : TellsLess (laid_below group) (laid_below new)) (stop : Stop) (why : Refuses group.core (laid_disks group) (laid_disks new) stop) (back : BackMoves group.core new.core (laid_disks group) (laid_disks new)) where
    spells : HasSpelling (at_serial 0 new.core.inner.config)
    spells = spells_like group.core.inner.config new.core.inner.config back.loses.parts back.loses.frames back.loses.disks.blocks up.spells

    agrees_back : false ≡ false → note.loose ≡ false → note.begun ≡ [] → new.core.inner.agreed ≡ true
    agrees_back once tight none = back.agrees (up.at.lies.committed tight none)

    pub deport_up : stops_down stop ≡ false → CallLeaves {T = Unit {0}} n note new.core (laid_disks new) (Err stop) → SiteDeported n note (Up group) (Up new) (Err stop)
    deport_up off leaves =
        called_up (Unit {0}) n note group new up since less spells false (λ c d. ⊥) (LosesSome (laid_disks group) (laid_disks new)) (LosesSome (laid_disks group) (laid_disks new)) (λ which. LacksDeport (Up group) which) stop off leaves agrees_back (deport_rose group.core (laid_disks group) (laid_disks new) stop why)
        (λ which is blames. loses_some group.core.inner.config new.core.inner.config (laid_disks group) (laid_disks new) (racks group.shelf).counts (racks new.shelf).counts back.on back.loses)
        (deport_lacks group.core (laid_disks group) (laid_disks new) stop why)

    module _ (idle : Idle R g) (stopped : Stopped (laid_disks new) (idle_disks idle))
        (away : (k : Node) (next : GroupNode) → GroupLies k next new.core (laid_disks new) → IsAwayAt (record k { state = IsDown }) next new.core.inner.config (idle_disks idle))
        (same : idle.agreed ≡ new.core.inner.agreed) (fell : TellsLess (laid_below new) (idle_below idle)) where
      pub deport_cut : stops_down stop ≡ true → CallLeaves {T = Unit {0}} n note new.core (laid_disks new) (Err stop) → SiteDeported n note (Up group) (Down idle) (Err stop)
      deport_cut off leaves =
          called_cut (Unit {0}) n note group new up since less spells false (λ c d. ⊥) (LosesSome (laid_disks group) (idle_disks idle)) (LosesSome (laid_disks group) (idle_disks idle)) (λ which. LacksDeport (Up group) which) idle stopped away same fell stop off leaves agrees_back
          (λ which is blames. loses_some group.core.inner.config new.core.inner.config (laid_disks group) (idle_disks idle) (racks group.shelf).counts (racks idle.rack).counts back.on
          (both_lose (laid_disks group) (laid_disks new) (idle_disks idle) (racks group.shelf) (racks new.shelf) (racks idle.rack) since.counts (λ d. let same = stopped.counts.disk_faults d in omega (arith, same))
          group.core.inner.config new.core.inner.config new.core.inner.config back.loses (loses_same new.core.inner.config (laid_disks new) (idle_disks idle))))
