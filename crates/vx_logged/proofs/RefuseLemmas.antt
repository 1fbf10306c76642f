-- Maps of a volume of a group behind a write that was refused, and what stands before one.
use Rattle.std.proofs.Common.{◌≡◌, ◌∙◌, inl, inr, ℕ, ◌+◌, ◌/◌, ◌<◌, ◌≤◌, Bool, true, false, Option, Some, None, List, IsTrue, refl, sym, ap, subst, arith}
use Rattle.std.specs.Prelude.{◌&&◌, ◌||◌, Err}
use Rattle.std.proofs.lemmas.Bool.{lt-ltb}
use Rattle.vx_bitmap.specs.Bits.{is_among}
use Rattle.vx_bitmap.specs.Maps.{MapOn}
use Rattle.vx_config.specs.Checks.{blocks_of, is_sound, plexes_of}
use Rattle.vx_config.specs.Table.{greatest}
use Rattle.vx_config.specs.declared.config.Config.{Config}
use Rattle.vx_disk.specs.Blocks.{bit_at}
use Rattle.vx_disk.specs.Causes.{Cause}
use Rattle.vx_disk.specs.Shelf.{Goes, Lawful, Meaning, Nothing, Written}
use Rattle.vx_disk.specs.declared.shelf.ShelfError.{ShelfError}
use Rattle.vx_disk.specs.declared.shelf.ShelfError.TheVariants.{Fault, Down}
use Rattle.vx_disk.proofs.Causing.{Rose_after}
use Rattle.vx_disk.proofs.Runs.{then_nothing, weaker}
use Rattle.vx_drl.specs.Dirty.{Dirty}
use Rattle.vx_fmr.specs.Missed.{FmrLoaded, Missed}
use Rattle.vx_group.specs.Holding.{GroupStands, wide}
use Rattle.vx_group.specs.Stands.{inner_meaning, volume_faults}
use Rattle.vx_group.specs.declared.group_core.GroupCore.{GroupCore}
use Rattle.vx_group.specs.declared.inner.Inner.{Inner}
use Rattle.vx_group.proofs.HoldLemmas.{wide_none}
use Rattle.vx_group.proofs.Standing.{fit_of, kept_of, low_Stands, low_finds, sound_of}
use Rattle.vx_grouplogs.specs.Covering.{OnLogs}
use Rattle.vx_grouplogs.specs.Marking.{MarksOnly, dirty_or}
use Rattle.vx_grouplogs.specs.On.{VolumeOn}
use Rattle.vx_grouplogs.proofs.CoverLemmas.{others_kept}
use Rattle.vx_grouplogs.proofs.FreshLemmas.{fresh_active}
use Rattle.vx_grouplogs.proofs.GroupLemmas.{logs_keep}
use Rattle.vx_grouplogs.proofs.KnowActs.{know_logs, know_none, logs_off_plex}
use Rattle.vx_grouplogs.proofs.LogPlaces.{logs_above}
use Rattle.vx_grouplogs.proofs.LogShape.{has_back}
use Rattle.vx_grouplogs.proofs.MapLemmas.{goes_logs, maps_logs, on_mapped}
use Rattle.vx_grouplogs.proofs.OnCalls.{on_others}
use Rattle.vx_groupmaps.specs.Knowing.{MapsKnow, MapsKnowBy, MapsNote, or_those}
use Rattle.vx_groupmaps.specs.Missing.{HoldMissed, OnMaps, none_spared, or_run}
use Rattle.vx_groupmaps.specs.Refusing.{MapBlocks, all_plexes, first_plexes}
use Rattle.vx_groupmaps.proofs.BetweenLemmas.{goes_reads}
use Rattle.vx_groupmaps.proofs.KnowLemmas.{know_less, note_more, plex_below, those_know, those_noted}
use Rattle.vx_groupmaps.proofs.MapPlaces.{has_stale, maps_on, stale_off}
use Rattle.vx_groupmaps.proofs.RefusedLemmas.{has_all}
use Rattle.vx_kept.specs.Finds.{FindsFrom, NoConfiguration}
use Rattle.vx_kept.specs.Keeping.{frame_at}
use Rattle.vx_layout.specs.Places.{HasBlock, place}
use Rattle.vx_logs.specs.Held.{FmrRun, stale}
use Rattle.vx_logs.specs.Noting.{FmrEnds, FmrKeeps}
use Rattle.vx_logs.specs.declared.logs.Logs.{Logs}
use Rattle.vx_logs.proofs.MarkLemmas.{fits_later as logs_later, same_drl}
use Rattle.vx_volume.specs.Plexes.{DisksFit, Inside, active}
use Rattle.vx_volume.proofs.PlaceLemmas.{count_few}
use Rattle.vx_logged.specs.Behind.{MapSaid, MarkedBefore, all_those}
use Rattle.vx_logged.specs.Logged.{MapKept, Narrowed, OthersOn}

-- ---- calls on the log of missed regions of a volume, whatever plex is held back

module _ (core : GroupCore) (v : ℕ) (m m' : Meaning) (stands : GroupStands core m) (goes : Goes (OnMaps (wide core).config v) m m') where
  wide_sound : is_sound (wide core).config ≡ true
  wide_sound = sound_of (wide core) m stands.stands

  logs_goes : Goes (OnLogs (wide core).config v) m m'
  logs_goes = goes_logs (wide core).config v m m' goes

  pub maps_Stands : Lawful m → Lawful m' → GroupStands core m'
  maps_Stands before after = record {
    stands = low_Stands (wide core) (OnLogs (wide core).config v) m m' logs_goes (logs_above (wide core).config wide_sound v) before after stands.stands;
    held = stands.held;
  }

  pub maps_finds : Lawful m → Lawful m' → FindsFrom NoConfiguration m m'
  maps_finds before after = low_finds (wide core) (OnLogs (wide core).config v) m m' logs_goes (logs_above (wide core).config wide_sound v) before after stands.stands

  pub maps_nothing : Lawful m → Lawful m' → Goes Nothing (inner_meaning (wide core) m) (inner_meaning (wide core) m')
  maps_nothing before after = (logs_keep (wide core).config wide_sound v m m' before after logs_goes).goes core.inner.good (volume_faults core.inner.faults) (kept_of (wide core) m stands.stands)

  pub maps_others : OthersOn v core core m m'
  maps_others = record {
    each = on_others (wide core).config v m m' (others_kept (wide core).config wide_sound v m m' (fit_of (wide core) m stands.stands) logs_goes);
    maps = λ w l apart know. know_logs (wide core).config wide_sound v m m' logs_goes w none_spared l know;
  }

-- ---- the maps in memory, by a configuration of their volume

lost_maps : (those : ℕ → Bool) (first last : ℕ) (gone : Bool) (o k : Option Missed) (m m' : Meaning) → FmrEnds those false first last gone o k m m' → ((f : Missed) → o ≡ Some f → MapOn f.map m) → (g : Missed) → k ≡ Some g → MapOn g.map m'
lost_maps those first last gone None None m m' ends stand g is = absurd cc
lost_maps those first last gone None (Some h) m m' ends stand g is = absurd ends
lost_maps those first last gone (Some f) None m m' ends stand g is = absurd cc
lost_maps those first last gone (Some f) (Some h) m m' ends stand g is = let same : h ≡ g = cc in subst (λ (x : Missed). MapOn x.map m') same (ends.1.stands (stand f refl))

module _ (c : Config) (sound : is_sound c ≡ true) (v : ℕ) (some : 0 < blocks_of c.volumes v) (l k : Logs) (m m' : Meaning) (fit : DisksFit c.disks m) (on : VolumeOn c v l m) (drl : k.drl ≡ l.drl) (blocks : Goes (MapBlocks l.fmr) m m') where
  pub missed_goes : Goes (OnMaps c v) m m'
  missed_goes = weaker (MapBlocks l.fmr) (OnMaps c v) m m' blocks (λ u b x at. by l.fmr refl u b x at)
    where
      by : (o : Option Missed) → l.fmr ≡ o → (u b : ℕ) (x : List ℕ) → FmrRun o u b → OnMaps c v u b x
      by None is u b x none = absurd none
      by (Some f) is u b x run = maps_on c sound v some f (on.fits.fmr f is) m fit u b x run

  -- a log of which the maps are these, or are in memory no more
  missed_on : (o : Option Missed) → ((f : Missed) → o ≡ Some f → FmrLoaded c v f) → ((f : Missed) → o ≡ Some f → MapOn f.map m') → k.fmr ≡ o → VolumeOn c v k m'
  missed_on o loaded stand is =
      subst (λ (n : Option Missed). VolumeOn c v (record { drl = k.drl; fmr = n }) m') (sym is)
      (subst (λ (d : Option Dirty). VolumeOn c v (record { drl = d; fmr = o }) m') (sym drl) (on_mapped c sound v some m m' fit missed_goes l o loaded stand on))

  pub none_on : k.fmr ≡ None → VolumeOn c v k m'
  none_on is = missed_on None (λ (f : Missed) at. absurd (let clash : None ≡ Some f = at in cc)) (λ (f : Missed) at. absurd (let clash : None ≡ Some f = at in cc)) is

  module _ (n first last : ℕ) (gone : Bool) (ends : FmrEnds (first_plexes n) false first last gone l.fmr k.fmr m m') (count : n ≡ plexes_of c v) (keeps : FmrKeeps l.fmr k.fmr) where
    pub ends_on : VolumeOn c v k m'
    ends_on = missed_on k.fmr (logs_later c v l (record { drl = l.drl; fmr = k.fmr }) on.fits (same_drl l.drl) keeps).fmr (lost_maps (first_plexes n) first last gone l.fmr k.fmr m m' ends on.stands.fmr) refl

    off : (p b : ℕ) (x : List ℕ) → HasBlock c v p b → OnMaps c v (place c v p b).0 (place c v p b).1 x → ⊥
    off p b x has at = logs_off_plex c sound v v p b x has (maps_logs c v (place c v p b).0 (place c v p b).1 x at)

    pub ends_know : MapsKnowBy c v (or_run first last none_spared) l m → MapsKnow c v k m'
    ends_know know = those_know c sound v some l on.fits (OnMaps c v) m m' (goes_reads (OnMaps c v) m m' missed_goes) off (first_plexes n) first last gone k ends none_spared
        (know_less c v (or_run first last none_spared) (or_those (first_plexes n) first last none_spared) l m (λ p b has clear. less p b has clear) know)
      where
        here : (p b : ℕ) → HasBlock c v p b → first_plexes n p ≡ true
        here p b has =
            let low = plex_below c v p b has in
            let few = count_few c sound v in
            ap (λ (t : Bool). t && bit_at all_plexes p) (lt-ltb p n (omega (arith, low, count))) ∙ has_all p (omega (arith, low, few))

        less : (p b : ℕ) → HasBlock c v p b → (first_plexes n p && is_among first last (b / 64)) || false ≡ false → is_among first last (b / 64) || false ≡ false
        less p b has clear = subst (λ (t : Bool). (t && is_among first last (b / 64)) || false ≡ false) (here p b has) clear

    pub ends_note : MapsNote all_those first last l k
    ends_note = note_more (first_plexes n) all_those first last l k (λ p is. refl) (those_noted c sound v some l on.fits (OnMaps c v) m m' (goes_reads (OnMaps c v) m m' missed_goes) off (first_plexes n) first last gone k ends)

pub none_know : (c : Config) (v : ℕ) (k : Logs) (m : Meaning) → k.fmr ≡ None → MapsKnow c v k m
none_know c v k m none = know_none c v none_spared k m none

-- ---- the refusal of a write behind notes

pub cause_refused : (T : Type 0) (a m m' : Meaning) (v : ℕ) (e r : ShelfError) → Cause {T = T} a m v (Err e) → ((u : ℕ) → m.faults u ≤ m'.faults u) → ((u : ℕ) → m.disk_faults u ≤ m'.disk_faults u) → ((IsTrue m'.down → ⊥) → r ≡ e) → (IsTrue m'.down → r ≡ Down)
    → (IsTrue m.down → IsTrue m'.down) → Cause {T = T} a m' v (Err r)
cause_refused T a m m' v e r cause faults disks same fell falls = by m'.down refl
  where
    later : (IsTrue m'.down → ⊥) → (x : ShelfError) → Cause {T = T} a m v (Err x) → Cause {T = T} a m' v (Err x)
    later up (Fault disk) it = (
      record { count = Rose_after (a.faults v) (m.faults v) (m'.faults v) it.0.count (faults v); disk_count = Rose_after (a.disk_faults disk) (m.disk_faults disk) (m'.disk_faults disk) it.0.disk_count (disks disk) },
      record { before = it.1.before; after = up },
    )
    later up Down it = falls it

    by : (b : Bool) → m'.down ≡ b → Cause {T = T} a m' v (Err r)
    by true is = subst (λ (x : ShelfError). Cause {T = T} a m' v (Err x)) (sym (fell is)) is
    by false is =
        let up : IsTrue m'.down → ⊥ = λ down. let clash : false ≡ true = sym is ∙ down in cc in
        subst (λ (x : ShelfError). Cause {T = T} a m' v (Err x)) (sym (same up)) (later up e cause)

-- ---- what stands before a write

-- a plex that was STALE is so behind calls at which no plex becomes ACTIVE
pub stale_kept : (b c : GroupCore) (v : ℕ) (m : Meaning) → GroupStands c m → frame_at (wide c).config v ≡ frame_at (wide b).config v → blocks_of (wide c).config.volumes v ≡ blocks_of (wide b).config.volumes v
    → ((p : ℕ) → IsTrue (active (wide c).config v p) → IsTrue (active (wide b).config v p)) → Inside (wide b).config v 0 → (p : ℕ) → IsTrue (stale (wide b).config v p) → IsTrue (stale (wide c).config v p)
stale_kept b c v m stands frames blocks less inside p on = by (stale (wide c).config v p) refl
  where
    has : HasBlock (wide c).config v p 0
    has = has_back (wide c).config (wide b).config v (sym frames) (sym blocks) p 0 (has_stale (wide b).config v p 0 on inside)

    by : (t : Bool) → stale (wide c).config v p ≡ t → t ≡ true
    by true is = refl
    by false is = absurd (let clash : false ≡ true = sym (stale_off (wide b).config v p on) ∙ less p (fresh_active (wide c).config v p 0 stands.stands.on has is) in cc)

-- plexes that were STALE before calls that detach some have noted what those do that are STALE then
pub hold_older : (c d : GroupCore) (v first last : ℕ) (l : Logs) (m : Meaning) → GroupStands d m → Narrowed c d → d.held ≡ None → Inside (wide c).config v 0 → HoldMissed d.inner.config v first last l → HoldMissed (wide c).config v first last l
hold_older c d v first last l m stands narrow none inside holds = record {
  so = λ f is p r on low high. holds.so f is p r (subst (λ (x : Config). IsTrue (stale x v p)) same (stale_kept c d v m stands (narrow.shape.frames v) (narrow.shape.blocks v) (narrow.on v) inside p on)) low high;
}
  where
    same : (wide d).config ≡ d.inner.config
    same = ap (λ (i : Inner). i.config) (wide_none d none)

-- the notes of a refused write are those of any plex
pub those_any : (those : ℕ → Bool) (first last : ℕ) (l k : Logs) → MapsNote those first last l k → MapsNote all_those first last l k
those_any those first last l k notes = note_more those all_those first last l k (λ p is. refl) notes

-- ---- what is said of the maps once their loss was committed

pub map_said : (core : GroupCore) (v : ℕ) (l : Logs) (done : Bool) → (done ≡ true → MapKept core v l) → (done ≡ false → greatest ≤ core.inner.config.serial + 9) → MapSaid core v l
map_said core v l true kept spent = inl (kept refl)
map_said core v l false kept spent = inr (spent refl)

-- ---- marks before a write, behind calls that change nothing

pub marks_later : {S : Type 0} (meaning : S → Meaning) (v block : ℕ) (bytes : List ℕ) (first last : ℕ) (c d e : GroupCore) (old mid new : Meaning) → MarkedBefore meaning v block bytes first last c d old mid → Goes Nothing (inner_meaning (wide d) mid) (inner_meaning (wide e) new)
    → MarkedBefore meaning v block bytes first last c e old new
marks_later meaning v block bytes first last c d e old mid new (inl none) goes = inl (then_nothing Nothing (inner_meaning (wide c) old) (inner_meaning (wide d) mid) (inner_meaning (wide e) new) none goes)
marks_later meaning v block bytes first last c d e old mid new (inr it) goes = inr (record {
  moment = it.moment;
  core = it.core;
  logs = it.logs;
  before = it.before;
  marked = it.marked;
  behind = then_nothing (Written v block bytes) (inner_meaning (wide it.core) (meaning it.moment)) (inner_meaning (wide d) mid) (inner_meaning (wide e) new) it.behind goes;
})

-- and beside calls before it that change nothing, at which no plex that was STALE is so no more
pub marks_sooner : {S : Type 0} (meaning : S → Meaning) (v block : ℕ) (bytes : List ℕ) (first last : ℕ) (b c d : GroupCore) (old mid new : Meaning) → Goes Nothing (inner_meaning (wide b) old) (inner_meaning (wide c) mid)
    → ((p : ℕ) → IsTrue (stale (wide b).config v p) → IsTrue (stale (wide c).config v p)) → MarkedBefore meaning v block bytes first last c d mid new → MarkedBefore meaning v block bytes first last b d old new
marks_sooner meaning v block bytes first last b c d old mid new goes kept (inl none) = inl (then_nothing Nothing (inner_meaning (wide b) old) (inner_meaning (wide c) mid) (inner_meaning (wide d) new) goes none)
marks_sooner meaning v block bytes first last b c d old mid new goes kept (inr it) = inr (record {
  moment = it.moment;
  core = it.core;
  logs = it.logs;
  before = then_nothing Nothing (inner_meaning (wide b) old) (inner_meaning (wide c) mid) (inner_meaning (wide it.core) (meaning it.moment)) goes it.before;
  marked = record { group = it.marked.group; stands = it.marked.stands; dirty = it.marked.dirty; said = it.marked.said; missed = record { so = λ f is p r on low high. it.marked.missed.so f is p r (kept p on) low high } };
  behind = it.behind;
})

-- a dirty region log that stays
pub only_same : (n first last : ℕ) (l k j : Logs) → j.drl ≡ k.drl → MarksOnly n first last l k → MarksOnly n first last l j
only_same n first last l k j same one = record { each = λ r lt is. one.each r lt (subst (λ (o : Option Dirty). dirty_or o r ≡ true) same is) }
