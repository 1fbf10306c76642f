-- A recovery of a site's group, by its note.
use Rattle.std.proofs.Common.{⊎_elim, ◌≡◌, ◌⊎◌, inl, inr, ℕ, zero, suc, ◌<◌, Bool, true, false, List, [], ◌∷◌, length, IsTrue, IsFalse, refl, sym, ◌∙◌, ap, subst, arith, not}
use Rattle.std.proofs.lemmas.Bool.{both_ways, false_from_ne_true}
use Rattle.std.specs.Prelude.{if◌then◌else◌, slice_get, Option, Some, None, Ok, Err}
use Rattle.std.proofs.lemmas.Option.{slice_get_within}
use Rattle.vx_model.specs.declared.errors.Stop.{Stop}
use Rattle.vx_model.specs.declared.errors.Stop.TheVariants.{No as Refused, OutOfMemory}
use Rattle.vx_model.specs.declared.no.No.TheVariants.{Device, Down as IsOff}
use Rattle.vx_model.specs.declared.site.SiteState.TheVariants.{Up as IsUp}
use Rattle.vx_disk.specs.Counts.{Rose}
use Rattle.vx_disk.specs.Racks.{Alike, Stopped, IsRack}
use Rattle.vx_disk.specs.Shelf.{Meaning, Each, Image, Lawful}
use Rattle.vx_disk.specs.declared.shelf.Shelf.{Ghosts}
use Rattle.vx_history.specs.Groups.{BlockMay, GroupNode}
use Rattle.vx_history.specs.Steps.{burned, crashed, worked}
use Rattle.vx_history.specs.World.{Fuse, Node, NoFuse, FuseSet, FuseLit}
use Rattle.vx_config.specs.Checks.{blocks_of, blocks_or_none}
use Rattle.vx_config.specs.declared.config.Config.{Config}
use Rattle.vx_config.specs.declared.entry.DiskEntry.{DiskEntry}
use Rattle.vx_config.specs.declared.entry.VolumeEntry.{VolumeEntry}
use Rattle.vx_untold.specs.declared.shade.Shade.{Shade}
use Rattle.vx_copyfmt.specs.Imports.{ImportOutcome, Found, Missing, NoConfig as NothingFound, Damaged, Format}
use Rattle.vx_volume.specs.Plexes.{Inside}
use Rattle.vx_group.specs.Imports.{ImportStops}
use Rattle.vx_group.specs.Resumes.{CanImport}
use Rattle.vx_group.specs.declared.group_core.GroupCore.{GroupCore}
use Rattle.vx_watched.specs.Since.{CalledSince}
use Rattle.vx_grouped.specs.Away.{AwayLies}
use Rattle.vx_grouped.specs.GroupSites.{GroupAway, GroupDown, GroupUp, NotesGroup, laid_disks, AreStopped, IsLit, dimmed_site, laid_below}
use Rattle.vx_grouped.specs.Returns.{GroupReturns, TakesOpened, note_imported}
use Rattle.vx_grouped.specs.SetFuses.{HasFuse}
use Rattle.vx_grouped.specs.SiteEnds.{stops_down}
use Rattle.vx_grouped.specs.SiteReturns.{ImportRefused, NoteReturns, KnownAway, returned_with, stops_early, ImportWhy, ImportsFrom, KeepsFuse, RecoversFrom, ReturnSince, ReturnsUp, TellsNone}
use Rattle.vx_grouped.specs.declared.idle.Idle.{Idle}
use Rattle.vx_grouped.specs.declared.laid.Laid.{Laid}
use Rattle.vx_grouped.specs.declared.group_site.GroupSite.{GroupSite}
use Rattle.vx_grouped.specs.declared.group_site.GroupSite.TheVariants.{Up, Deported, Down}
use Rattle.vx_grouped.proofs.AlikeLemmas.{less_away}
use Rattle.vx_grouped.proofs.SettleLemmas.{fell_fused, fuse_burned}
use Rattle.vx_grouped.proofs.ImageLemmas.{less_from, less_noted, none_noted, noted_as}
use Rattle.vx_grouped.proofs.SiteLemmas.{lies_as, noted_dimmed, away_dimmed, lit_dimmed, runs_dimmed, some_as}
use Rattle.vx_grouped.specs.ConfigMoves.{AnyState, ConfigBack, OpensMoves, VolumeMoves}
use Rattle.vx_config.specs.Configs.{HasSpelling}
use Rattle.vx_grouped.specs.Clean.{StoppedSome, StopsClean}
use Rattle.vx_grouped.specs.GroupNotes.{NotesConfig, NotesFound, note_dimmed}
use Rattle.vx_grouped.proofs.RunMapLemmas.{clean_noted, noted_as_is}
use Rattle.vx_grouped.proofs.TakenLemmas.{takes_moves}
use Rattle.vx_config.specs.Changes.{Matched}
use Rattle.vx_kept.specs.Cleans.{at_serial}
use Rattle.vx_grouped.proofs.MovesLemmas.{disk_blocks_at, disk_failed_at, rose_as, volume_moves}
use Rattle.vx_kept.specs.Groups.{found, found_by}
use Rattle.vx_kept.specs.Keeping.{frame, frame_at, frame_or}
use Rattle.vx_kept.specs.Facts.{is_found}
use Rattle.vx_kept.specs.Trusts.{is_plain}
use Rattle.vx_untold.specs.Shades.{shade_meaning, rack_of}
use Rattle.vx_grouped.proofs.NotedLemmas.{spells_zero}
use Rattle.vx_grouped.proofs.NoneLemmas.{holds_any}
use Rattle.vx_grouped.proofs.WhyLemmas.{why_by}
use Rattle.vx_watched.specs.Traces.{TellsLess}
use Rattle.vx_grouped.proofs.TraceLemmas.{lit_since}
use Rattle.vx_grouped.proofs.StopLemmas.{down_of, early_goes}

-- ---- notes

either_block : (t : Bool) (value old : List ℕ) (others : List (List ℕ)) → (((if t then value else old) ≡ old) × ((if t then [] else others) ≡ others)) ⊎ ((if t then [] else others) ≡ [])
either_block true value old others = inr refl
either_block false value old others = inl (refl, refl)

-- a volume with a block is one of them
some_volume : (vs : List VolumeEntry) (v b : ℕ) → b < blocks_of vs v → v < length vs
some_volume [] v b low = absurd (omega (arith, low))
some_volume (x ∷ xs) zero b low = omega arith
some_volume (x ∷ xs) (suc v) b low = let rest = some_volume xs v b low in omega (arith, rest)

may_by : (note : GroupNode) (v b : ℕ) (t : Bool) (value : List ℕ) → (t ≡ true → BlockMay note v b value) → BlockMay note v b (if t then value else note.bytes.block v b)
may_by note v b true value may = may refl
may_by note v b false value may = inr (inl refl)

module _ (n : Node) (note : GroupNode) (last : Config) (m0 m : Meaning) (told : m.tells ≡ m0.tells) (lies : AwayLies n note last m) (core : GroupCore) (m' : Meaning) (back : GroupReturns n note last m core m') where
  abbrev pub next : GroupNode
  next = note_imported core.inner back.renewed back.value note

  inside : (v b : ℕ) → b < note.bytes.size v → Inside last v b
  inside v b low =
      let within : b < blocks_of last.volumes v = (let same = lies.sizes v in omega (arith, low, same)) in
      record { volume = some_volume last.volumes v b within; within = within }

  pub returns_note : NoteReturns (IsTrue m0.tells) note next
  returns_note = record {
    begun = refl;
    loose = refl;
    cut = refl;
    dark = refl;
    inside = refl;
    block = λ v b. either_block (back.renewed v) (back.value v b) (note.bytes.block v b) (note.others v b);
    may = λ tells v b low. may_by note v b (back.renewed v) (back.value v b) (λ on. back.may (subst IsTrue (sym told) tells) v b (inside v b low) on);
    size = λ tells v low. back.sizes (subst IsTrue (sym told) tells) v (inside v 0 low).volume ∙ sym (lies.sizes v);
  }

  pub returns_up : (before : Bool) → NotesGroup n note → IsLit next before m' → HasSpelling (at_serial 0 core.inner.config) → HasFuse (burned n.fuse) m' → GroupUp (returned_with next n) next before core m'
  returns_up before noted lit spells fuse = record {
    lit = lit;
    noted = record { is = refl; none = record { role = noted.none.role; volumes = noted.none.volumes; log = noted.none.log; safe = noted.none.safe; running = refl } };
    fuse = fuse;
    spells = spells;
    at = record { state = refl; up = back.at.up; lies = lies_as (record n { state = IsUp }) (returned_with next n) next core m' refl refl back.at.lies };
  }

no_fuse : (f : Fuse) (m : Meaning) → f ≡ NoFuse → IsFalse m.armed → HasFuse (burned f) m
no_fuse f m is none = subst (λ (x : Fuse). HasFuse (burned x) m) (sym is) none

-- ---- what an import made of the site

-- nothing is asked of disks that leave nothing
pub none_can : (m : Meaning) → TellsNone m → CanImport m
none_can m none = record {
  base = λ i x each is. absurd (none.leaves 0 0 (i 0 0) (each 0 0));
  one = λ i j readable x each_i each_j is. absurd (none.leaves 0 0 (i 0 0) (each_i 0 0));
  plain = λ i readable x each is. absurd (none.leaves 0 0 (i 0 0) (each 0 0));
}

frame_blocks : (o : Option VolumeEntry) → blocks_or_none (frame_or o) ≡ blocks_or_none o
unfolding frame
frame_blocks None = refl
frame_blocks (Some v) = refl

-- the same blocks, where the frames are the same
pub frames_blocks : (c d : Config) → ((v : ℕ) → frame_at c v ≡ frame_at d v) → (v : ℕ) → blocks_of c.volumes v ≡ blocks_of d.volumes v
frames_blocks c d frames v = sym (frame_blocks (slice_get c.volumes v)) ∙ ap blocks_or_none (frames v) ∙ frame_blocks (slice_get d.volumes v)

-- a list with the frames of another one is as long
frames_long : (vs us : List VolumeEntry) → ((k : ℕ) → frame_or (slice_get us k) ≡ frame_or (slice_get vs k)) → length us ≡ length vs
frames_long [] [] same = refl
frames_long [] (u ∷ us) same = absurd (let no_one : Some (frame u) ≡ None = same 0 in cc)
frames_long (v ∷ vs) [] same = absurd (let no_one : None ≡ Some (frame v) = same 0 in cc)
frames_long (v ∷ vs) (u ∷ us) same = let rest = frames_long vs us (λ k. same (suc k)) in omega (arith, rest)

pub unarmed_any : (f : Fuse) (m : Meaning) → IsFalse m.armed → HasFuse (burned f) m
unarmed_any NoFuse m none = none
unarmed_any (FuseSet calls) m none = tt
unarmed_any (FuseLit most) m none = tt

-- disks of which nothing is told
pub dark_away : (n : Node) (note : GroupNode) (last : Config) (m m' : Meaning) → m'.units ≡ m.units → ((u : ℕ) → m'.size u ≡ m.size u) → TellsNone m' → AwayLies n note last m → AwayLies n note last m'
dark_away n note last m m' units size none it = record {
  units = units ∙ it.units;
  size = λ u low. size u ∙ it.size u low;
  can = λ tight. none_can m' none;
  sizes = it.sizes;
  finds = λ i each. absurd (none.leaves 0 0 (i 0 0) (each 0 0));
  volumes = λ i x each is. absurd (none.leaves 0 0 (i 0 0) (each 0 0));
  has = λ i x each is. absurd (none.leaves 0 0 (i 0 0) (each 0 0));
}

module _ {R : Type 0} {g : Ghosts R} (n : Node) (note : GroupNode) (last newest : Config) (had : NotesConfig note newest) (frames : (v : ℕ) → frame_at newest v ≡ frame_at last v) (racks : (s : Shade R) → IsRack (shade_meaning g.meaning s))
    (old : Meaning) (first : Shade R) (units : (shade_meaning g.meaning first).units ≡ old.units) (size : (u : ℕ) → (shade_meaning g.meaning first).size u ≡ old.size u) (faults : (u : ℕ) → (shade_meaning g.meaning first).disk_faults u ≡ old.disk_faults u)
    (lies : AwayLies n note last (shade_meaning g.meaning first)) (group : Laid R g) (since : CalledSince (shade_meaning g.meaning first) (laid_disks group)) (has : HasSpelling group.core.inner.config)
    (back : GroupReturns n note last (shade_meaning g.meaning first) group.core (laid_disks group)) (before : Bool) (lit : IsLit note before (shade_meaning g.meaning first)) (less : IsTrue (laid_below group).tells → IsTrue before)
    (before_found : NotesFound note newest (shade_meaning g.meaning first)) where
  abbrev now : Config
  now = group.core.inner.config

  long : length newest.volumes ≡ length last.volumes
  long = frames_long last.volumes newest.volumes frames

  below : (k : ℕ) (disk : DiskEntry) → slice_get now.disks k ≡ Some disk → k < (shade_meaning g.meaning first).units
  below k disk at = let lt = slice_get_within now.disks k disk at in let count = back.disks.count in omega (arith, lt, count)

  config_back : ConfigBack (IsTrue (laid_disks group).tells) old (laid_disks group) newest now
  config_back = record {
    volumes = λ tells v lt. volume_moves AnyState newest now v (back.frames (sym since.tells ∙ tells) v (let same = long in omega (arith, lt, same)) ∙ sym (frames v)) (λ e k p q at_e at_p at_q. tt);
    count = back.disks.count ∙ units;
    blocks = λ k disk at. sym (disk_blocks_at now.disks k disk at) ∙ back.disks.blocks k (below k disk at) ∙ size k;
    failed = λ k disk at failed.
        subst (λ (x : ℕ). Rose x ((laid_disks group).disk_faults k)) (faults k)
        (rose_as (shade_meaning g.meaning first) (laid_disks group) k ((racks first).counts k) ((racks group.shelf).counts k) (back.disks.failed k (below k disk at) (disk_failed_at now.disks k disk at ∙ failed)));
  }

  abbrev noted_next : GroupNode
  noted_next = next n note last (laid_disks group) (shade_meaning g.meaning first) (sym since.tells) lies group.core (laid_disks group) back

  -- a block of a volume that did not stop cleanly has one value
  renewed_or : note.loose ≡ false → note.begun ≡ [] → (v b : ℕ) → (back.renewed v ≡ true) ⊎ StoppedSome (shade_meaning g.meaning first) v → (noted_next.others v b ≡ []) ⊎ ((v < length newest.volumes) × StopsClean newest v)
  renewed_or tight none v b (inl on) = inl (ap (λ (t : Bool). if t then [] else note.others v b) on)
  renewed_or tight none v b (inr some) = inr (clean_noted note newest (shade_meaning g.meaning first) before_found tight none v some)

  -- what was taken up has the configuration that was noted, but for its serial
  taken_was : note.loose ≡ false → note.begun ≡ [] → (t : TakesOpened (shade_meaning g.meaning first) now (laid_disks group)) → at_serial 0 t.config ≡ at_serial 0 newest
  taken_was tight none t = noted_as_is note newest none t.config (before_found.each tight t.image t.config t.each t.finds)

  opened_or : note.loose ≡ false → note.begun ≡ [] → TakesOpened (shade_meaning g.meaning first) now (laid_disks group) → (v : ℕ) → Matched (VolumeMoves (OpensMoves old (laid_disks group))) (slice_get newest.volumes v) (slice_get now.volumes v)
  opened_or tight none t v =
      subst (λ (c : Config). Matched (VolumeMoves (OpensMoves old (laid_disks group))) (slice_get c.volumes v) (slice_get now.volumes v)) (taken_was tight none t)
      (takes_moves old (shade_meaning g.meaning first) (laid_disks group) units faults (racks first).counts (racks group.shelf).counts now back.on t v)

  parts_or : note.loose ≡ false → note.begun ≡ [] → TakesOpened (shade_meaning g.meaning first) now (laid_disks group) → (now.site ≡ newest.site) × (now.rvg ≡ newest.rvg)
  parts_or tight none t = (
    t.loses.parts.site ∙ t.site ∙ ap (λ (c : Config). c.site) (taken_was tight none t),
    t.loses.parts.rvg ∙ t.rvg ∙ ap (λ (c : Config). c.rvg) (taken_was tight none t),
  )

  pub came_up : NotesGroup n note → HasFuse (burned n.fuse) (laid_disks group) → ReturnsUp n note old (Up group)
  came_up noted fuse = (
    noted_next,
    returns_note n note last (laid_disks group) (shade_meaning g.meaning first) (sym since.tells) lies group.core (laid_disks group) back,
    returns_up n note last (laid_disks group) (shade_meaning g.meaning first) (sym since.tells) lies group.core (laid_disks group) back (laid_below group).tells noted
        (lit_since note noted_next before (laid_below group).tells (shade_meaning g.meaning first) (laid_disks group) refl since.tells less lit) (spells_zero now has) fuse,
    record {
      was = newest;
      now = now;
      has = refl;
      noted = had;
      noted_now = record { is = refl; spells = spells_zero now has };
      sizes = λ v. refl;
      change = config_back;
      one = λ tells tight none v b low. renewed_or tight none v b (back.stops (sym since.tells ∙ tells) v (some_volume now.volumes v b low));
      opens = λ tells tight none v. opened_or tight none (back.takes (sym since.tells ∙ tells)) v;
      parts = λ tells tight none. parts_or tight none (back.takes (sym since.tells ∙ tells));
    },
  )

-- ---- why it was not

-- what an import that was refused so left may be imported still
module _ (n : Node) (note : GroupNode) (last : Config) (m m' m3 : Meaning) (law : Lawful m) (lies : AwayLies n note last m) (can : CanImport m) (stop : Stop) (stops : ImportStops m m' stop) where
  plain_of : IsTrue m.tells → (i : Image) (readable : ℕ → Bool) → Each m.reads i → is_plain (found_by m readable i) ≡ true
  plain_of tells i readable read =
      let each : Each m.leaves i = λ u b. law.shown u b (i u b) (read u b) in
      by each (found m i) refl (lies.finds i each)
    where
      by : Each m.leaves i → (o : ImportOutcome Config) → found m i ≡ o → is_found o ≡ true → is_plain (found_by m readable i) ≡ true
      by each (Found x) is yes_it = can.plain i readable x each is
      by each (Missing d) is yes_it = absurd (let clash : false ≡ true = yes_it in cc)
      by each NothingFound is yes_it = absurd (let clash : false ≡ true = yes_it in cc)
      by each (Damaged d block stored computed) is yes_it = absurd (let clash : false ≡ true = yes_it in cc)
      by each (Format version) is yes_it = absurd (let clash : false ≡ true = yes_it in cc)

  -- it had written nothing
  pub early_lies : stops_early stop ≡ true → (units : m3.units ≡ m'.units) (size : (u : ℕ) → m3.size u ≡ m'.size u) (leaves : (u b : ℕ) (v : List ℕ) → m3.leaves u b v → m'.leaves u b v) → AwayLies n note last m3
  early_lies early units size leaves =
      let goes = early_goes m m' stop early stops in
      less_away n note m m3 (units ∙ goes.units) (λ u. size u ∙ goes.size u) (λ u b v left. ⊎_elim (λ was. was) (λ none. absurd none) (goes.leaves u b v (leaves u b v left))) last lies

  pub early_noted : stops_early stop ≡ true → m3.units ≡ m'.units → ((u : ℕ) → m3.size u ≡ m'.size u) → ((u b : ℕ) (v : List ℕ) → m3.leaves u b v → m'.leaves u b v) → (c : Config) → NotesFound note c m → NotesFound note c m3
  early_noted early units size leaves c it =
      let goes = early_goes m m' stop early stops in
      less_noted note c m m3 (less_from m m3 (units ∙ goes.units) (λ u. size u ∙ goes.size u) (λ u b v left. ⊎_elim (λ was. was) (λ none. absurd none) (goes.leaves u b v (leaves u b v left)))) it

-- a site that crashed has no fuse that could run out
never_off : (m m' : Meaning) (stop : Stop) → IsFalse m.down → IsFalse m.armed → CalledSince m m' → ImportStops m m' stop → stop ≡ Refused IsOff → ⊥
never_off m m' stop up unarmed since stops is = both_ways m.down up (since.safe unarmed (down_of m m' stop (ap stops_down is) stops))

module _ {R : Type 0} {g : Ghosts R} (n : Node) (note : GroupNode) (racks : (s : Shade R) → IsRack (shade_meaning g.meaning s)) (laws : (s : Shade R) → Lawful (shade_meaning g.meaning s)) where
  -- ---- a site that crashed

  module _ (rack first : Shade R) (down : GroupDown n note true (g.meaning (rack_of rack)).tells (shade_meaning g.meaning rack)) (rises : TellsLess (g.meaning (rack_of rack)) (g.meaning (rack_of first))) (revived : Alike (shade_meaning g.meaning rack) (shade_meaning g.meaning first)) (up : IsFalse (shade_meaning g.meaning first).down)
      (armed : (shade_meaning g.meaning first).armed ≡ (shade_meaning g.meaning rack).armed) where
    lies : AwayLies n note down.last (shade_meaning g.meaning first)
    lies = less_away n note (shade_meaning g.meaning rack) (shade_meaning g.meaning first) revived.contents.units revived.contents.size revived.contents.leaves down.last down.away.lies

    found_first : NotesFound note down.last (shade_meaning g.meaning first)
    found_first = less_noted note down.last (shade_meaning g.meaning rack) (shade_meaning g.meaning first) (less_from (shade_meaning g.meaning rack) (shade_meaning g.meaning first) revived.contents.units revived.contents.size revived.contents.leaves) down.away.found

    had : NotesConfig note down.last
    had = record { is = down.away.config; spells = down.spells }

    unarmed : IsFalse (shade_meaning g.meaning first).armed
    unarmed = armed ∙ down.stopped.unarmed

    lit_first : IsLit note (g.meaning (rack_of rack)).tells (shade_meaning g.meaning first)
    lit_first = λ bright told. revived.contents.tells ∙ down.lit bright told

    pub recovered_up : (group : Laid R g) → CalledSince (shade_meaning g.meaning first) (laid_disks group) → TellsLess (g.meaning (rack_of first)) (laid_below group) → HasSpelling group.core.inner.config
        → ((last : Config) → AwayLies n note last (shade_meaning g.meaning first) → GroupReturns n note last (shade_meaning g.meaning first) group.core (laid_disks group)) → RecoversFrom n note (shade_meaning g.meaning rack) (Up group) (Ok tt)
    recovered_up group since less has back =
        came_up n note down.last down.last had (λ v. refl) racks (shade_meaning g.meaning rack) first revived.contents.units revived.contents.size revived.counts.disk_faults lies group since has (back down.last lies) (g.meaning (rack_of rack)).tells lit_first (λ told. rises (less told)) found_first
        down.noted (no_fuse n.fuse (laid_disks group) down.unfused (since.unarmed unarmed))

    module _ (middle : Shade R) (idle : Idle R g) (fallen : Shade R) (is : idle.rack ≡ fallen) (agreed : idle.agreed ≡ true) (goes : TellsLess (g.meaning (rack_of first)) (g.meaning (rack_of middle))) (falls : TellsLess (g.meaning (rack_of middle)) (g.meaning (rack_of fallen))) (stop : Stop) (since : CalledSince (shade_meaning g.meaning first) (shade_meaning g.meaning middle)) (stops : ImportStops (shade_meaning g.meaning first) (shade_meaning g.meaning middle) stop)
        (can : CanImport (shade_meaning g.meaning first)) (fell : AreStopped (shade_meaning g.meaning fallen)) (counts : (d : ℕ) → (shade_meaning g.meaning fallen).disk_faults d ≡ (shade_meaning g.meaning middle).disk_faults d) (kept : ReturnSince (shade_meaning g.meaning middle) (shade_meaning g.meaning fallen))
        (early : stops_early stop ≡ true → Stopped (shade_meaning g.meaning middle) (shade_meaning g.meaning fallen)) (dark : stops_early stop ≡ false → TellsNone (shade_meaning g.meaning fallen)) where
      lies_by : (t : Bool) → stops_early stop ≡ t → AwayLies n note down.last (shade_meaning g.meaning fallen)
      lies_by true it =
          let stopped = early it in
          early_lies n note down.last (shade_meaning g.meaning first) (shade_meaning g.meaning middle) (shade_meaning g.meaning fallen) (laws first) lies can stop stops it stopped.units stopped.size stopped.leaves
      lies_by false it = dark_away n note down.last (shade_meaning g.meaning first) (shade_meaning g.meaning fallen) (kept.units ∙ since.units) (λ u. kept.size u ∙ since.size u) (dark it) lies

      fallen_found : (t : Bool) → stops_early stop ≡ t → NotesFound note down.last (shade_meaning g.meaning fallen)
      fallen_found true it =
          let stopped = early it in
          early_noted n note down.last (shade_meaning g.meaning first) (shade_meaning g.meaning middle) (shade_meaning g.meaning fallen) (laws first) lies can stop stops it stopped.units stopped.size stopped.leaves down.last found_first
      fallen_found false it = none_noted note down.last (shade_meaning g.meaning fallen) (dark it).leaves

      lit_by : (t : Bool) → stops_early stop ≡ t → IsLit (note_dimmed (not t) note) (g.meaning (rack_of fallen)).tells (shade_meaning g.meaning fallen)
      lit_by true it = λ bright told. (early it).tells ∙ since.tells ∙ lit_first bright (rises (goes (falls told)))
      lit_by false it = lit_dimmed note (g.meaning (rack_of fallen)).tells (shade_meaning g.meaning fallen)

      stands : (t : Bool) → stops_early stop ≡ t → GroupDown (dimmed_site (not t) note n) (note_dimmed (not t) note) idle.agreed (g.meaning (rack_of fallen)).tells (shade_meaning g.meaning fallen)
      stands t it = record {
        noted = noted_dimmed (not t) n note down.noted;
        lit = lit_by t it;
        agrees = λ tight. agreed;
        unfused = down.unfused;
        stopped = fell;
        last = down.last;
        spells = down.spells;
        away = record {
          state = down.away.state;
          config = down.away.config;
          found = noted_as note (note_dimmed (not t) note) down.last (shade_meaning g.meaning fallen) refl refl (fallen_found t it);
          runs = runs_dimmed (not t) note down.last down.away.runs;
          some = some_as n (dimmed_site (not t) note n) down.last refl refl down.away.some;
          lies = away_dimmed (not t) n (dimmed_site (not t) note n) note down.last (shade_meaning g.meaning fallen) refl refl (lies_by t it);
        };
      }

      tells_first : IsTrue (shade_meaning g.meaning fallen).tells → IsTrue (shade_meaning g.meaning first).tells
      tells_first tells = sym since.tells ∙ kept.tells tells

      why : ImportWhy (IsTrue (shade_meaning g.meaning fallen).tells) (KnownAway (IsTrue (shade_meaning g.meaning fallen).tells) note) (shade_meaning g.meaning rack) (shade_meaning g.meaning fallen) stop
      why =
          why_by (shade_meaning g.meaning rack) (shade_meaning g.meaning first) (shade_meaning g.meaning middle) (shade_meaning g.meaning fallen) revived.counts.disk_faults counts (racks first).counts (racks middle).counts
          (IsTrue (shade_meaning g.meaning fallen).tells) (λ tells. plain_of n note down.last (shade_meaning g.meaning first) (shade_meaning g.meaning middle) (shade_meaning g.meaning fallen) (laws first) lies can stop stops (tells_first tells)) tells_first
          (KnownAway (IsTrue (shade_meaning g.meaning fallen).tells) note) (λ sure. holds_any n note down.last down.last (shade_meaning g.meaning first) (laws first) lies can found_first down.away.some (tells_first sure.0) sure.1 sure.2) revived.contents.units up stop
          (never_off (shade_meaning g.meaning first) (shade_meaning g.meaning middle) stop up unarmed since stops) stops

      between_by : (t : Bool) → stops_early stop ≡ t → IsTrue (shade_meaning g.meaning fallen).tells → (e : Shade R) → e ≡ fallen → Stopped (shade_meaning g.meaning middle) (shade_meaning g.meaning e)
      between_by true it tells e same = subst (λ (s : Shade R). Stopped (shade_meaning g.meaning middle) (shade_meaning g.meaning s)) (sym same) (early it)
      between_by false it tells e same = absurd (let no_one : true ≡ false = sym tells ∙ (dark it).tells in cc)

      pub recovered_not : RecoversFrom n note (shade_meaning g.meaning rack) (Down idle) (Err stop)
      recovered_not = (
        subst (λ (s : Shade R). GroupDown (dimmed_site (not (stops_early stop)) note n) (note_dimmed (not (stops_early stop)) note) idle.agreed (g.meaning (rack_of s)).tells (shade_meaning g.meaning s)) (sym is) (stands (stops_early stop) refl),
        subst (λ (s : Shade R). ImportWhy (IsTrue (shade_meaning g.meaning s).tells) (KnownAway (IsTrue (shade_meaning g.meaning s).tells) note) (shade_meaning g.meaning rack) (shade_meaning g.meaning s) stop) (sym is) why,
        λ tells. record {
          first = first;
          middle = middle;
          revived = revived;
          stops = stops;
          crashed = between_by (stops_early stop) refl (subst (λ (s : Shade R). IsTrue (shade_meaning g.meaning s).tells) is tells) idle.rack is;
        },
      )

  -- ---- a site that was deported

  module _ (rack : Shade R) (away : GroupAway n note true (g.meaning (rack_of rack)).tells (shade_meaning g.meaning rack)) where
    had_away : NotesConfig note away.newest
    had_away = record { is = away.away.config; spells = away.spells }

    keeps_fuse : (m : Meaning) → CalledSince (shade_meaning g.meaning rack) m → (IsTrue m.down → ⊥) → KeepsFuse (shade_meaning g.meaning rack) m
    keeps_fuse m since still = record { goes = λ o k was is. (since.told o k was is).fuse (false_from_ne_true m.down still) }

    pub imported_up : (group : Laid R g) → CalledSince (shade_meaning g.meaning rack) (laid_disks group) → TellsLess (g.meaning (rack_of rack)) (laid_below group) → HasSpelling group.core.inner.config
        → ((last : Config) → AwayLies n note last (shade_meaning g.meaning rack) → GroupReturns n note last (shade_meaning g.meaning rack) group.core (laid_disks group)) → ImportsFrom n note (shade_meaning g.meaning rack) (Up group) (Ok tt)
    imported_up group since less has back =
        let it = back away.last away.away.lies in (
          came_up n note away.last away.newest had_away away.away.frames racks (shade_meaning g.meaning rack) rack refl (λ u. refl) (λ u. refl) away.away.lies group since has it (g.meaning (rack_of rack)).tells away.lit less away.away.found away.noted
              (fuse_burned n.fuse (shade_meaning g.meaning rack) (laid_disks group) since.unarmed away.fuse),
          keeps_fuse (laid_disks group) since it.at.up,
        )

    module _ (middle : Shade R) (stop : Stop) (since : CalledSince (shade_meaning g.meaning rack) (shade_meaning g.meaning middle)) (goes : TellsLess (g.meaning (rack_of rack)) (g.meaning (rack_of middle))) (stops : ImportStops (shade_meaning g.meaning rack) (shade_meaning g.meaning middle) stop) (can : CanImport (shade_meaning g.meaning rack)) where
      away_as_is : (dims agreed told : Bool) (m : Meaning) → AwayLies n note away.last m → NotesFound note away.newest m → (IsTrue m.down → ⊥) → HasFuse (burned n.fuse) m → IsLit (note_dimmed dims note) told m → agreed ≡ true
          → GroupAway (worked (dimmed_site dims note n)) (note_dimmed dims note) agreed told m
      away_as_is dims agreed told m lies found still fuse lit agrees = record {
        noted = record { is = refl; none = record { role = away.noted.none.role; volumes = away.noted.none.volumes; log = away.noted.none.log; safe = away.noted.none.safe; running = away.noted.none.running } };
        lit = lit;
        agrees = λ tight. agrees;
        up = still;
        fuse = fuse;
        last = away.last;
        newest = away.newest;
        spells = away.spells;
        away = record { state = away.away.state; config = away.away.config; frames = away.away.frames; found = noted_as note (note_dimmed dims note) away.newest m refl refl found; some = some_as n (worked (dimmed_site dims note n)) away.newest refl refl away.away.some; lies = away_dimmed dims n (worked (dimmed_site dims note n)) note away.last m refl refl lies };
      }

      lit_middle : IsLit (note_dimmed false note) (g.meaning (rack_of middle)).tells (shade_meaning g.meaning middle)
      lit_middle = λ bright told. since.tells ∙ away.lit bright (goes told)

      why_away : (s : Shade R) → IsFalse (shade_meaning g.meaning rack).down → ((d : ℕ) → (shade_meaning g.meaning s).disk_faults d ≡ (shade_meaning g.meaning middle).disk_faults d) → (IsTrue (shade_meaning g.meaning s).tells → IsTrue (shade_meaning g.meaning rack).tells)
          → (stop ≡ Refused IsOff → ⊥) → ImportWhy (IsTrue (shade_meaning g.meaning s).tells) (KnownAway (IsTrue (shade_meaning g.meaning s).tells) note) (shade_meaning g.meaning rack) (shade_meaning g.meaning s) stop
      why_away s up counts tells never =
          why_by (shade_meaning g.meaning rack) (shade_meaning g.meaning rack) (shade_meaning g.meaning middle) (shade_meaning g.meaning s) (λ u. refl) counts (racks rack).counts (racks middle).counts
          (IsTrue (shade_meaning g.meaning s).tells) (λ told. plain_of n note away.last (shade_meaning g.meaning rack) (shade_meaning g.meaning middle) (shade_meaning g.meaning s) (laws rack) away.away.lies can stop stops (tells told)) tells
          (KnownAway (IsTrue (shade_meaning g.meaning s).tells) note) (λ sure. holds_any n note away.last away.newest (shade_meaning g.meaning rack) (laws rack) away.away.lies can away.away.found away.away.some (tells sure.0) sure.1 sure.2) refl up stop never stops

      never_stops : stops_down stop ≡ false → stop ≡ Refused IsOff → ⊥
      never_stops off is = let clash : false ≡ true = sym off ∙ ap stops_down is in cc

      refused_as : (e : GroupSite R g) → stops_down stop ≡ false → ImportRefused false n note (shade_meaning g.meaning rack) e stop → ImportsFrom n note (shade_meaning g.meaning rack) e (Err stop)
      refused_as e off it = subst (λ (b : Bool). ImportRefused b n note (shade_meaning g.meaning rack) e stop) (sym off) it

      early_up : (x : Stop) → stops_early x ≡ true → stops_down x ≡ false
      early_up (Refused IsOff) early = cc
      early_up (Refused other) early = refl
      early_up OutOfMemory early = refl

      -- it had written nothing, and the disks are as they were
      pub imported_early : (idle : Idle R g) → idle.rack ≡ middle → idle.agreed ≡ true → stops_early stop ≡ true → (IsTrue (shade_meaning g.meaning middle).down → ⊥) → ImportsFrom n note (shade_meaning g.meaning rack) (Deported idle) (Err stop)
      imported_early idle is agreed early still =
          refused_as (Deported idle) (early_up stop early) (subst (λ (s : Shade R). GroupAway (worked (dimmed_site (not (stops_early stop)) note n)) (note_dimmed (not (stops_early stop)) note) idle.agreed (g.meaning (rack_of s)).tells (shade_meaning g.meaning s) × (IsFalse (shade_meaning g.meaning s).armed ⊎ KeepsFuse (shade_meaning g.meaning rack) (shade_meaning g.meaning s))
          × ImportWhy (IsTrue (shade_meaning g.meaning s).tells) (KnownAway (IsTrue (shade_meaning g.meaning s).tells) note) (shade_meaning g.meaning rack) (shade_meaning g.meaning s) stop) (sym is) (
            away_as_is (not (stops_early stop)) idle.agreed (g.meaning (rack_of middle)).tells (shade_meaning g.meaning middle)
                (early_lies n note away.last (shade_meaning g.meaning rack) (shade_meaning g.meaning middle) (shade_meaning g.meaning middle) (laws rack) away.away.lies can stop stops early refl (λ u. refl) (λ u b v left. left))
                (early_noted n note away.last (shade_meaning g.meaning rack) (shade_meaning g.meaning middle) (shade_meaning g.meaning middle) (laws rack) away.away.lies can stop stops early refl (λ u. refl) (λ u b v left. left) away.newest away.away.found)
                still (fuse_burned n.fuse (shade_meaning g.meaning rack) (shade_meaning g.meaning middle) since.unarmed away.fuse)
                (subst (λ (t : Bool). IsLit (note_dimmed (not t) note) (g.meaning (rack_of middle)).tells (shade_meaning g.meaning middle)) (sym early) lit_middle) agreed,
            inr (keeps_fuse (shade_meaning g.meaning middle) since still),
            why_away middle (false_from_ne_true (shade_meaning g.meaning rack).down away.up) (λ d. refl) (λ tells. sym since.tells ∙ tells) (never_stops (early_up stop early)),
          ))

      -- the fuse ran out in it: the disks are down, and nothing is told of them any more
      pub fell_dark : (fallen : Shade R) → AreStopped (shade_meaning g.meaning fallen) → ReturnSince (shade_meaning g.meaning middle) (shade_meaning g.meaning fallen) → TellsNone (shade_meaning g.meaning fallen) → IsTrue (shade_meaning g.meaning middle).down
          → (idle : Idle R g) → idle.rack ≡ fallen → idle.agreed ≡ true → ImportRefused true n note (shade_meaning g.meaning rack) (Down idle) stop
      fell_dark fallen fell kept none down idle is agreed = (
        subst (λ (s : Shade R). GroupDown (crashed (returned_with (note_dimmed true note) n) 0) (note_dimmed true note) idle.agreed (g.meaning (rack_of s)).tells (shade_meaning g.meaning s)) (sym is) (record {
          lit = lit_dimmed note (g.meaning (rack_of fallen)).tells (shade_meaning g.meaning fallen);
          agrees = λ tight. agreed;
          noted = record { is = refl; none = record { role = away.noted.none.role; volumes = away.noted.none.volumes; log = refl; safe = refl; running = refl } };
          unfused = refl;
          stopped = fell;
          last = away.newest;
          spells = away.spells;
          away = record {
            state = refl;
            config = away.away.config;
            found = none_noted (note_dimmed true note) away.newest (shade_meaning g.meaning fallen) none.leaves;
            runs = λ bright. absurd (let clash : true ≡ false = bright in cc);
            some = some_as n (crashed (returned_with (note_dimmed true note) n) 0) away.newest refl refl away.away.some;
            lies = record {
              units = kept.units ∙ since.units ∙ away.away.lies.units;
              size = λ u low. kept.size u ∙ since.size u ∙ away.away.lies.size u low;
              can = λ tight. none_can (shade_meaning g.meaning fallen) none;
              sizes = λ v. away.away.lies.sizes v ∙ sym (frames_blocks away.newest away.last away.away.frames v);
              finds = λ i each. absurd (none.leaves 0 0 (i 0 0) (each 0 0));
              volumes = λ i x each found_x. absurd (none.leaves 0 0 (i 0 0) (each 0 0));
              has = λ i x each found_x. absurd (none.leaves 0 0 (i 0 0) (each 0 0));
            };
          };
        }),
        fell_fused n.fuse (shade_meaning g.meaning rack) (shade_meaning g.meaning middle) away.fuse away.up since.safe down,
      )

      -- so it is where it had written nothing
      pub imported_fell : (fallen : Shade R) → AreStopped (shade_meaning g.meaning fallen) → ReturnSince (shade_meaning g.meaning middle) (shade_meaning g.meaning fallen) → TellsNone (shade_meaning g.meaning fallen) → IsTrue (shade_meaning g.meaning middle).down
          → (idle : Idle R g) → idle.rack ≡ fallen → idle.agreed ≡ true → ImportsFrom n note (shade_meaning g.meaning rack) (Down idle) (Err (Refused IsOff))
      imported_fell fallen fell kept none down idle is agreed = fell_dark fallen fell kept none down idle is agreed

      module _ (fallen : Shade R) (falls : TellsLess (g.meaning (rack_of middle)) (g.meaning (rack_of fallen))) (fell : AreStopped (shade_meaning g.meaning fallen)) (counts : (d : ℕ) → (shade_meaning g.meaning fallen).disk_faults d ≡ (shade_meaning g.meaning middle).disk_faults d) (kept : ReturnSince (shade_meaning g.meaning middle) (shade_meaning g.meaning fallen))
          (early : stops_early stop ≡ true → Stopped (shade_meaning g.meaning middle) (shade_meaning g.meaning fallen)) (dark : stops_early stop ≡ false → TellsNone (shade_meaning g.meaning fallen)) where
        lies_fell : (t : Bool) → stops_early stop ≡ t → AwayLies n note away.last (shade_meaning g.meaning fallen)
        lies_fell true it =
            let stopped = early it in
            early_lies n note away.last (shade_meaning g.meaning rack) (shade_meaning g.meaning middle) (shade_meaning g.meaning fallen) (laws rack) away.away.lies can stop stops it stopped.units stopped.size stopped.leaves
        lies_fell false it = dark_away n note away.last (shade_meaning g.meaning rack) (shade_meaning g.meaning fallen) (kept.units ∙ since.units) (λ u. kept.size u ∙ since.size u) (dark it) away.away.lies

        found_fell : (t : Bool) → stops_early stop ≡ t → NotesFound note away.newest (shade_meaning g.meaning fallen)
        found_fell true it =
            let stopped = early it in
            early_noted n note away.last (shade_meaning g.meaning rack) (shade_meaning g.meaning middle) (shade_meaning g.meaning fallen) (laws rack) away.away.lies can stop stops it stopped.units stopped.size stopped.leaves away.newest away.away.found
        found_fell false it = none_noted note away.newest (shade_meaning g.meaning fallen) (dark it).leaves

        lit_fell : (t : Bool) → stops_early stop ≡ t → IsLit (note_dimmed (not t) note) (g.meaning (rack_of fallen)).tells (shade_meaning g.meaning fallen)
        lit_fell true it = λ bright told. (early it).tells ∙ lit_middle bright (falls told)
        lit_fell false it = lit_dimmed note (g.meaning (rack_of fallen)).tells (shade_meaning g.meaning fallen)

        tells_rack : IsTrue (shade_meaning g.meaning fallen).tells → IsTrue (shade_meaning g.meaning rack).tells
        tells_rack tells = sym since.tells ∙ kept.tells tells

        -- the disks crashed, and are up again
        pub imported_late : (idle : Idle R g) (new : Shade R) → idle.rack ≡ new → idle.agreed ≡ true → TellsLess (g.meaning (rack_of fallen)) (g.meaning (rack_of new)) → stops_down stop ≡ false → Alike (shade_meaning g.meaning fallen) (shade_meaning g.meaning new) → IsFalse (shade_meaning g.meaning new).down
            → (shade_meaning g.meaning new).armed ≡ (shade_meaning g.meaning fallen).armed → ImportsFrom n note (shade_meaning g.meaning rack) (Deported idle) (Err stop)
        imported_late idle new is agreed rises off alike up armed =
            refused_as (Deported idle) off (subst (λ (s : Shade R). GroupAway (worked (dimmed_site (not (stops_early stop)) note n)) (note_dimmed (not (stops_early stop)) note) idle.agreed (g.meaning (rack_of s)).tells (shade_meaning g.meaning s) × (IsFalse (shade_meaning g.meaning s).armed ⊎ KeepsFuse (shade_meaning g.meaning rack) (shade_meaning g.meaning s))
            × ImportWhy (IsTrue (shade_meaning g.meaning s).tells) (KnownAway (IsTrue (shade_meaning g.meaning s).tells) note) (shade_meaning g.meaning rack) (shade_meaning g.meaning s) stop) (sym is) (
              away_as_is (not (stops_early stop)) idle.agreed (g.meaning (rack_of new)).tells (shade_meaning g.meaning new)
                  (less_away n note (shade_meaning g.meaning fallen) (shade_meaning g.meaning new) alike.contents.units alike.contents.size alike.contents.leaves away.last (lies_fell (stops_early stop) refl))
                  (less_noted note away.newest (shade_meaning g.meaning fallen) (shade_meaning g.meaning new) (less_from (shade_meaning g.meaning fallen) (shade_meaning g.meaning new) alike.contents.units alike.contents.size alike.contents.leaves) (found_fell (stops_early stop) refl))
                  (both_ways (shade_meaning g.meaning new).down up) (unarmed_any n.fuse (shade_meaning g.meaning new) (armed ∙ fell.unarmed))
                  (λ bright told. alike.contents.tells ∙ lit_fell (stops_early stop) refl bright (rises told)) agreed,
              inl (armed ∙ fell.unarmed),
              why_away new (false_from_ne_true (shade_meaning g.meaning rack).down away.up) (λ d. alike.counts.disk_faults d ∙ counts d) (λ tells. tells_rack (sym alike.contents.tells ∙ tells)) (never_stops off),
            ))

        late_of : (x : Stop) → stops_down x ≡ true → stops_early x ≡ false
        late_of (Refused IsOff) off = refl
        late_of (Refused (Device disk)) off = refl
        late_of (Refused other) off = cc
        late_of OutOfMemory off = cc

        pub imported_down : (idle : Idle R g) → idle.rack ≡ fallen → idle.agreed ≡ true → stops_down stop ≡ true → ImportsFrom n note (shade_meaning g.meaning rack) (Down idle) (Err stop)
        imported_down idle is agreed off =
            subst (λ (b : Bool). ImportRefused b n note (shade_meaning g.meaning rack) (Down idle) stop) (sym off)
            (fell_dark fallen fell kept (dark (late_of stop off)) (down_of (shade_meaning g.meaning rack) (shade_meaning g.meaning middle) stop off stops) idle is agreed)
