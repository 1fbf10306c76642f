-- A volume that is made in a site's group, by its note.
use Rattle.std.proofs.Common.{inl, inr, ◌-◌, length, ◌≡◌, ℕ, Bool, true, false, List, IsTrue, refl, sym, ◌∙◌, ap, subst}
use Rattle.std.specs.Prelude.{Option, Some, None, Result, Ok, Err, nat_le, nat_lt, not, if◌then◌else◌}
use Rattle.std.specs.List.{list_any}
use Rattle.vx_model.specs.declared.errors.Stop.{Stop}
use Rattle.vx_model.specs.declared.errors.Stop.TheVariants.{No as Refused, OutOfMemory}
use Rattle.vx_model.specs.declared.limits.TheConstants.{MOST_PLEXES, MOST_VOLUMES}
use Rattle.vx_model.specs.declared.no.Counted.TheVariants.{Number, Plexes, Subdisks, Volumes}
use Rattle.vx_model.specs.declared.no.No.{No}
use Rattle.vx_model.specs.declared.no.No.TheVariants.{Device, Down as IsOff, Exists, Limit, Size, Space}
use Rattle.vx_model.specs.declared.site.SiteState.TheVariants.{Down as IsDown}
use Rattle.vx_disk.specs.Counts.{Rose}
use Rattle.vx_disk.specs.Racks.{Stopped, IsRack}
use Rattle.vx_disk.specs.Shelf.{Meaning}
use Rattle.vx_disk.specs.declared.shelf.Shelf.{Ghosts}
use Rattle.vx_history.specs.Groups.{GroupNode}
use Rattle.vx_history.specs.Steps.{burned}
use Rattle.vx_history.specs.World.{Node}
use Rattle.vx_config.specs.Table.{greatest}
use Rattle.vx_config.specs.declared.config.Config.{Config}
use Rattle.vx_config.specs.declared.entry.DiskEntry.{DiskEntry}
use Rattle.vx_untold.specs.declared.shade.Shade.{Shade}
use Rattle.vx_layout.specs.declared.shape.Shape.{Shape}
use Rattle.vx_group.specs.Dets.{margin}
use Rattle.vx_group.specs.Makes.{MakeEnds, VolumeMade, has_name, is_shape, make_refusal, MakeStops}
use Rattle.vx_group.specs.declared.group_core.GroupCore.{GroupCore}
use Rattle.vx_group.specs.declared.inner.Inner.{Inner}
use Rattle.vx_watched.specs.Since.{CalledSince}
use Rattle.vx_grouped.specs.Added.{VolumeLeaves, note_added, IsUnmoved}
use Rattle.vx_grouped.specs.Away.{IsAwayAt}
use Rattle.vx_grouped.specs.GroupNotes.{GroupLies, note_called}
use Rattle.vx_grouped.specs.GroupSites.{GroupUp, idle_disks, laid_disks, laid_below, idle_below}
use Rattle.vx_grouped.specs.SiteAdds.{MakesVolume, SiteAdded, IsRoomShort, LacksVolume}
use Rattle.vx_grouped.specs.SetFuses.{HasFuse}
use Rattle.vx_grouped.specs.SiteEnds.{stops_down}
use Rattle.vx_grouped.specs.declared.idle.Idle.{Idle}
use Rattle.vx_grouped.specs.declared.laid.Laid.{Laid}
use Rattle.vx_grouped.specs.declared.group_site.GroupSite.TheVariants.{Up, Down}
use Rattle.vx_grouped.proofs.CalledLemmas.{called_cut, called_up, err_is, goes, blames_device, none_refused}
use Rattle.vx_grouped.proofs.SettleLemmas.{called_settles, fuse_burned}
use Rattle.vx_grouped.proofs.SiteLemmas.{up_with}
use Rattle.vx_config.specs.Configs.{HasSpelling}
use Rattle.vx_grouped.specs.ConfigMoves.{LosesSome, VolumeAdded}
use Rattle.vx_copies.specs.Commits.{MoreFailed}
use Rattle.vx_kept.specs.Cleans.{at_serial}
use Rattle.vx_grouped.proofs.MovesLemmas.{fails_alone}
use Rattle.vx_untold.specs.Shades.{shade_meaning, rack_of}
use Rattle.vx_grouped.proofs.NotedLemmas.{spells_zero}
use Rattle.vx_layout.specs.Made.{with_volume}
use Rattle.vx_watched.specs.Traces.{TellsLess}
use Rattle.vx_grouped.proofs.TraceLemmas.{lit_since}

-- tests of names, counts and shapes blame no device
make_not : (a b e f h : Bool) (n1 n2 n3 n4 n5 x : No) → (n1 ≡ x → ⊥) → (n2 ≡ x → ⊥) → (n3 ≡ x → ⊥) → (n4 ≡ x → ⊥) → (n5 ≡ x → ⊥)
    → (if a then Some n1 else (if b then Some n2 else (if e then Some n3 else (if f then Some n4 else (if h then Some n5 else None))))) ≡ Some x → ⊥
make_not true b e f h n1 n2 n3 n4 n5 x x1 x2 x3 x4 x5 is = x1 (let same : n1 ≡ x = cc in same)
make_not false true e f h n1 n2 n3 n4 n5 x x1 x2 x3 x4 x5 is = x2 (let same : n2 ≡ x = cc in same)
make_not false false true f h n1 n2 n3 n4 n5 x x1 x2 x3 x4 x5 is = x3 (let same : n3 ≡ x = cc in same)
make_not false false false true h n1 n2 n3 n4 n5 x x1 x2 x3 x4 x5 is = x4 (let same : n4 ≡ x = cc in same)
make_not false false false false true n1 n2 n3 n4 n5 x x1 x2 x3 x4 x5 is = x5 (let same : n5 ≡ x = cc in same)
make_not false false false false false n1 n2 n3 n4 n5 x x1 x2 x3 x4 x5 is = cc

module _ (c : Config) (name : List ℕ) (want : Shape) where
  never_make : (x : No) → (Exists name ≡ x → ⊥) → (Limit Volumes MOST_VOLUMES ≡ x → ⊥) → (Limit Plexes MOST_PLEXES ≡ x → ⊥) → (Limit Number greatest ≡ x → ⊥) → (Size ≡ x → ⊥) → make_refusal c name want ≡ Some x → ⊥
  never_make x =
      make_not (list_any (has_name name) c.volumes) (nat_le MOST_VOLUMES (length c.volumes)) (nat_lt MOST_PLEXES want.mirrors) (nat_lt (greatest - margin) c.serial) (not (is_shape want))
      (Exists name) (Limit Volumes MOST_VOLUMES) (Limit Plexes MOST_PLEXES) (Limit Number greatest) Size x

  never_device : (disk : ℕ) → make_refusal c name want ≡ Some (Device disk) → ⊥
  never_device disk =
      never_make (Device disk) (λ is. let clash : Exists name ≡ Device disk = is in cc) (λ is. let clash : Limit Volumes MOST_VOLUMES ≡ Device disk = is in cc) (λ is. let clash : Limit Plexes MOST_PLEXES ≡ Device disk = is in cc)
      (λ is. let clash : Limit Number greatest ≡ Device disk = is in cc) (λ is. let clash : Size ≡ Device disk = is in cc)

  never_off : make_refusal c name want ≡ Some IsOff → ⊥
  never_off =
      never_make IsOff (λ is. let clash : Exists name ≡ IsOff = is in cc) (λ is. let clash : Limit Volumes MOST_VOLUMES ≡ IsOff = is in cc) (λ is. let clash : Limit Plexes MOST_PLEXES ≡ IsOff = is in cc)
      (λ is. let clash : Limit Number greatest ≡ IsOff = is in cc) (λ is. let clash : Size ≡ IsOff = is in cc)

-- what a refusal behind the tests says
ends_down : (name : List ℕ) (want : Shape) (c d : Inner) (m m' : Meaning) (stop : Stop) → stops_down stop ≡ true → MakeEnds name want c d m m' (Err stop) → IsTrue m'.down
ends_down name want c d m m' (Refused (Device disk)) off it = cc
ends_down name want c d m m' (Refused IsOff) off it = it.1
ends_down name want c d m m' (Refused other) off it = cc
ends_down name want c d m m' OutOfMemory off it = cc

only_off : (x : No) → stops_down (Refused x) ≡ true → x ≡ IsOff
only_off (Device disk) on = cc
only_off IsOff on = refl
only_off other on = cc

module _ (name : List ℕ) (want : Shape) (c d : GroupCore) (m m' : Meaning) (r : Result ℕ Stop) (works : MakesVolume name want c m d m' r) where
  rose_in : (o : Option No) → make_refusal c.inner.config name want ≡ o → (disk : ℕ) → r ≡ Err (Refused (Device disk)) → Rose (m.disk_faults disk) (m'.disk_faults disk)
  rose_in None none disk is = (subst (λ (x : Result ℕ Stop). MakeEnds name want c.inner d.inner m m' x) is (works.ends none)).1
  rose_in (Some why) some disk is =
      let same : Refused why ≡ Refused (Device disk) = err_is r (Refused why) (Refused (Device disk)) (works.refused why some) is in
      let one : why ≡ Device disk = cc in
      absurd (never_device c.inner.config name want disk (some ∙ ap (λ (x : No). Some x) one))

  pub make_rose : (disk : ℕ) → r ≡ Err (Refused (Device disk)) → Rose (m.disk_faults disk) (m'.disk_faults disk)
  make_rose disk is = rose_in (make_refusal c.inner.config name want) refl disk is

  down_in : (o : Option No) → make_refusal c.inner.config name want ≡ o → (stop : Stop) → r ≡ Err stop → stops_down stop ≡ true → IsTrue m'.down
  down_in None none stop is off = ends_down name want c.inner d.inner m m' stop off (subst (λ (x : Result ℕ Stop). MakeEnds name want c.inner d.inner m m' x) is (works.ends none))
  down_in (Some why) some stop is off =
      let one : stop ≡ Refused why = err_is r stop (Refused why) is (works.refused why some) in
      absurd (never_off c.inner.config name want (some ∙ ap (λ (x : No). Some x) (only_off why (subst (λ (x : Stop). stops_down x ≡ true) one off))))

  pub make_down : (stop : Stop) → r ≡ Err stop → stops_down stop ≡ true → IsTrue m'.down
  make_down stop is off = down_in (make_refusal c.inner.config name want) refl stop is off

  made_in : (o : Option No) → make_refusal c.inner.config name want ≡ o → (vol : ℕ) → r ≡ Ok vol → VolumeMade name want vol c.inner d.inner m'
  made_in None none vol is = subst (λ (x : Result ℕ Stop). MakeEnds name want c.inner d.inner m m' x) is (works.ends none)
  made_in (Some why) some vol is = absurd (never (sym is ∙ works.refused why some))
    where
      never : {a : ℕ} {e : Stop} → Ok a ≡ Err e → ⊥
      never clash = cc

  pub made_volume : (vol : ℕ) → r ≡ Ok vol → VolumeMade name want vol c.inner d.inner m'
  made_volume vol is = made_in (make_refusal c.inner.config name want) refl vol is

-- a crash raises no count
pub failed_since : (m m' r : Meaning) {before after : List DiskEntry} → Stopped m' r → MoreFailed m m' before after → MoreFailed m r before after
failed_since m m' r stopped it = record {
  count = it.count;
  blocks = it.blocks;
  stays = it.stays;
  blamed = λ u was is. subst (λ (x : ℕ). Rose (m.faults u) x) (sym (stopped.counts.faults u)) (it.blamed u was is);
}

-- why it is refused, but for a device
room_by : (c : Config) (name : List ℕ) (want : Shape) (m m' : Meaning) (why : No) → blames_device why ≡ false → MakeStops c name want m m' why → IsRoomShort c name want why
room_by c name want m m' (Space need have) other it = it
room_by c name want m m' (Limit Subdisks most) other it = it
room_by c name want m m' (Device disk) other it = let clash : true ≡ false = other in cc
room_by c name want m m' IsOff other it = let clash : true ≡ false = other in cc
room_by c name want m m' rest other it = absurd it

module _ {R : Type 0} {g : Ghosts R} (n : Node) (note : GroupNode) (name : List ℕ) (want : Shape) (group new : Laid R g) (up : GroupUp n note (laid_below group).tells group.core (laid_disks group)) (since : CalledSince (laid_disks group) (laid_disks new)) (less : TellsLess (laid_below group) (laid_below new)) (has : HasSpelling new.core.inner.config)
    (racks : (s : Shade R) → IsRack (shade_meaning g.meaning s)) where
  pub spells : HasSpelling (at_serial 0 new.core.inner.config)
  spells = spells_zero new.core.inner.config has

  fuse : HasFuse (burned n.fuse) (laid_disks new)
  fuse = fuse_burned n.fuse (laid_disks group) (laid_disks new) since.unarmed up.fuse

  added : (vol : ℕ) → MakesVolume name want group.core (laid_disks group) new.core (laid_disks new) (Ok vol) → VolumeMade name want vol group.core.inner new.core.inner (laid_disks new)
      → VolumeAdded name want vol (laid_disks group) (laid_disks new) group.core.inner.config new.core.inner.config
  added vol works made = record {
    number = made.number;
    found = made.found;
    space = made.space;
    volume = made.volume;
    is_volume = made.is_volume;
    moves = fails_alone group.core.inner.config (with_volume group.core.inner.config made.volume) new.core.inner.config (laid_disks group) (laid_disks new) (racks group.shelf).counts (racks new.shelf).counts refl
        (record { site = works.parts.site; rvg = works.parts.rvg; count = works.parts.count; later = works.parts.later }) works.disks made.volumes;
  }

  made_by : (vol : ℕ) → MakesVolume name want group.core (laid_disks group) new.core (laid_disks new) (Ok vol) → VolumeLeaves n note want new.core (laid_disks new) (Ok vol) → SiteAdded n note name want (Up group) (Up new) (Ok vol)
  made_by vol works leaves = (
    note_called leaves.0 new.core note,
    called_settles leaves.0 new.core note leaves.2,
    up_with n note (note_added vol want.blocks (note_called leaves.0 new.core note)) (laid_below new).tells new.core (laid_disks new) up.noted (lit_since note (note_added vol want.blocks (note_called leaves.0 new.core note)) (laid_below group).tells (laid_below new).tells (laid_disks group) (laid_disks new) refl since.tells less up.lit) spells fuse leaves.1,
    goes ℕ n note group new up since less spells (VolumeAdded name want vol (laid_disks group) (laid_disks new)) (note_called leaves.0 new.core note) refl (Up new) refl
        (added vol works (made_volume name want group.core new.core (laid_disks group) (laid_disks new) (Ok vol) works vol refl)),
  )

  pub made_done : (vol : ℕ) → MakesVolume name want group.core (laid_disks group) new.core (laid_disks new) (Ok vol) → SiteAdded n note name want (Up group) (Up new) (Ok vol)
  made_done vol works = made_by vol works (works.leaves n note up.at)

  module _ (stop : Stop) (works : MakesVolume name want group.core (laid_disks group) new.core (laid_disks new) (Err stop)) where
    pub ended : make_refusal group.core.inner.config name want ≡ None → (which : No) → stop ≡ Refused which → MakeEnds name want group.core.inner new.core.inner (laid_disks group) (laid_disks new) (Err (Refused which))
    ended none which is = subst (λ (x : Stop). MakeEnds name want group.core.inner new.core.inner (laid_disks group) (laid_disks new) (Err x)) is (works.ends none)

    pub not_made : (s : Shade R) → (new.core.inner.config.volumes ≡ group.core.inner.config.volumes) → MoreFailed (laid_disks group) (shade_meaning g.meaning s) group.core.inner.config.disks new.core.inner.config.disks
        → LosesSome (laid_disks group) (shade_meaning g.meaning s) group.core.inner.config new.core.inner.config
    not_made s volumes failing = fails_alone group.core.inner.config group.core.inner.config new.core.inner.config (laid_disks group) (shade_meaning g.meaning s) (racks group.shelf).counts (racks s).counts refl works.parts failing volumes

    pub none_of : (which : No) → stop ≡ Refused which → blames_device which ≡ true → make_refusal group.core.inner.config name want ≡ None
    none_of = none_refused ℕ (make_refusal group.core.inner.config name want) stop (Err stop) refl works.refused (never_off group.core.inner.config name want) (never_device group.core.inner.config name want)

    fails : (which : No) → stop ≡ Refused which → blames_device which ≡ true → LosesSome (laid_disks group) (laid_disks new) group.core.inner.config new.core.inner.config
    fails which is blames = not_made new.shelf (ended (none_of which is blames) which is).0 works.disks

    lacks_in : (o : Option No) → make_refusal group.core.inner.config name want ≡ o → (which : No) → stop ≡ Refused which → blames_device which ≡ false → LacksVolume (Up group) name want which
    lacks_in None none which is other = inr (none, room_by group.core.inner.config name want (laid_disks group) (laid_disks new) which other (ended none which is).1)
    lacks_in (Some why) some which is other =
        let same : stop ≡ Refused why = err_is (Err stop) stop (Refused why) refl (works.refused why some) in
        let two : Refused why ≡ Refused which = sym same ∙ is in
        let three : why ≡ which = cc in
        inl (some ∙ ap (λ (x : No). Some x) three)

    lacks : (which : No) → stop ≡ Refused which → blames_device which ≡ false → LacksVolume (Up group) name want which
    lacks = lacks_in (make_refusal group.core.inner.config name want) refl

  pub made_up : (stop : Stop) → stops_down stop ≡ false → MakesVolume name want group.core (laid_disks group) new.core (laid_disks new) (Err stop) → IsUnmoved {T = ℕ} (Err stop) ((new.core ≡ group.core) × (new.shelf ≡ group.shelf))
      → SiteAdded n note name want (Up group) (Up new) (Err stop)
  made_up (Refused why) off works still =
      called_up ℕ n note group new up since less spells false (λ c d. ⊥) (LosesSome (laid_disks group) (laid_disks new)) (LosesSome (laid_disks group) (laid_disks new)) (LacksVolume (Up group) name want) (Refused why) off (works.leaves n note up.at) (λ once tight none. works.agreed (up.at.lies.committed tight none))
      (λ disk is. make_rose name want group.core new.core (laid_disks group) (laid_disks new) (Err (Refused why)) works disk (ap (λ (x : Stop). Err x) is)) (fails (Refused why) works) (lacks (Refused why) works)
  made_up OutOfMemory off works still =
      subst (λ (x : GroupCore). GroupUp n note (laid_below new).tells x (shade_meaning g.meaning new.shelf)) (sym still.0) (subst (λ (s : Shade R). GroupUp n note (g.meaning (rack_of s)).tells group.core (shade_meaning g.meaning s)) (sym still.1) up)

  module _ (idle : Idle R g) (stopped : Stopped (laid_disks new) (idle_disks idle))
      (away : (k : Node) (next : GroupNode) → GroupLies k next new.core (laid_disks new) → IsAwayAt (record k { state = IsDown }) next new.core.inner.config (idle_disks idle))
      (same : idle.agreed ≡ new.core.inner.agreed) (fell : TellsLess (laid_below new) (idle_below idle)) where
    pub made_cut : (stop : Stop) → stops_down stop ≡ true → MakesVolume name want group.core (laid_disks group) new.core (laid_disks new) (Err stop) → SiteAdded n note name want (Up group) (Down idle) (Err stop)
    made_cut (Refused why) off works =
        called_cut ℕ n note group new up since less spells false (λ c d. ⊥) (LosesSome (laid_disks group) (idle_disks idle)) (LosesSome (laid_disks group) (idle_disks idle)) (LacksVolume (Up group) name want) idle stopped away same fell (Refused why) off (works.leaves n note up.at) (λ once tight none. works.agreed (up.at.lies.committed tight none))
        (λ which is blames. not_made (Refused why) works idle.rack (ended (Refused why) works (none_of (Refused why) works which is blames) which is).0 (failed_since (laid_disks group) (laid_disks new) (idle_disks idle) stopped works.disks))
    made_cut OutOfMemory off works = cc
