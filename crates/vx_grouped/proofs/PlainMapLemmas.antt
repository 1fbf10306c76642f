-- What a write of a group, and the flush that makes it durable, make of what is noted of its maps.
use Rattle.std.proofs.Common.{◌≡◌, ◌⊎◌, ◌∙◌, ◌<◌, ◌≤◌, ◌+◌, ◌&&◌, ℕ, Bool, true, false, List, length, refl, sym, ap, subst, IsTrue, inl, inr, arith}
use Rattle.std.specs.Prelude.{None, Some, Option, ◌==◌}
use Rattle.std.proofs.lemmas.Bool.{eq-eqb, eqb-true}
use Rattle.vx_config.specs.Checks.{blocks_of, plexes_of}
use Rattle.vx_config.specs.Table.{greatest}
use Rattle.vx_config.specs.declared.config.Config.{Config}
use Rattle.vx_config.specs.declared.entry.VolumeLog.TheVariants.{Fmr}
use Rattle.vx_bitmap.specs.Bits.{is_among}
use Rattle.vx_disk.specs.Counts.{Rose}
use Rattle.vx_disk.specs.Racks.{IsRack}
use Rattle.vx_disk.specs.Shelf.{Meaning}
use Rattle.vx_fmr.specs.Missed.{Missed}
use Rattle.vx_group.specs.Attaches.{region_count}
use Rattle.vx_group.specs.Holding.{GroupStands, wide}
use Rattle.vx_group.specs.Loses.{LosesPlexes}
use Rattle.vx_group.specs.declared.group_core.GroupCore.{GroupCore}
use Rattle.vx_group.proofs.HoldLemmas.{narrow_on, wide_shape}
use Rattle.vx_history.specs.Missing.{in_write}
use Rattle.vx_kept.specs.Keeping.{frame_at}
use Rattle.vx_logged.proofs.HoldsLemmas.{inner_blocks, inner_count}
use Rattle.vx_loggroup.proofs.EndedLemmas.{maps_end}
use Rattle.vx_loggroup.proofs.KeepingLemmas.{frames_places}
use Rattle.vx_loggroup.proofs.ThenMoves.{begins_then, doubts_then, keeps_then, moves_then}
use Rattle.vx_loggroup.specs.Attaching.{fmr_at}
use Rattle.vx_loggroup.specs.Keeping.{LogsKeep}
use Rattle.vx_loggroup.specs.LoggedVolumes.{is_alike}
use Rattle.vx_loggroup.specs.Moving.{IsThere, MapsBeginIn, MapsDoubt, MapsEnd, MapsFlushed, MapsMove, all_anew, goes_by, in_run, no_volume, only_volume}
use Rattle.vx_logs.specs.Writes.{first_region, last_region}
use Rattle.vx_logs.specs.declared.logs.Logs.{Logs}
use Rattle.vx_model.specs.Content.{Write, blocks_in}
use Rattle.vx_model.specs.Sizes.{regions_of}
use Rattle.vx_volume.specs.Plexes.{active}
use Rattle.vx_grouped.specs.PlainMaps.{MapParts, PartsMoved, map_parts}
use Rattle.vx_grouped.specs.SiteMaps.{DoubtMaps, WriteMaps}
use Rattle.vx_grouped.proofs.DoubtedMapLemmas.{RunAlone}
use Rattle.vx_grouped.proofs.SiteMapLemmas.{doubt_goes, write_goes}
use Rattle.vx_grouped.proofs.WriteLemmas.{both_lose, rack_rises}

-- ---- equal parts

pub parts_same : (c d : Config) (l k : List Logs) (a b : List Bool) (s t : Bool) → d ≡ c → k ≡ l → b ≡ a → t ≡ s → map_parts d k b t ≡ map_parts c l a s
parts_same c d l k a b s t config logs flags stopped =
    ap (λ (x : Config). map_parts x k b t) config ∙ ap (λ (x : List Logs). map_parts c x b t) logs ∙ ap (λ (x : List Bool). map_parts c l x t) flags ∙ ap (λ (x : Bool). map_parts c l a x) stopped

-- what a call does, carried along them
pub parts_carried : (P : MapParts → Meaning → MapParts → Meaning → Type 0) (x x' y y' : MapParts) (m m' n n' : Meaning) → x' ≡ x → m' ≡ m → y ≡ y' → n ≡ n' → P x' m' y' n' → P x m y n
parts_carried P x x' y y' m m' n n' first shelf last new it =
    subst (λ (z : MapParts). P z m y n) first (subst (λ (z : Meaning). P x' z y n) shelf (subst (λ (z : MapParts). P x' m' z n) (sym last) (subst (λ (z : Meaning). P x' m' y' z) (sym new) it)))

-- the counts of a rack are those of its disks
pub rack_rose : (m m' : Meaning) → IsRack m → IsRack m' → (u : ℕ) → Rose (m.faults u) (m'.faults u) → Rose (m.disk_faults u) (m'.disk_faults u)
rack_rose m m' old new u rose = subst (λ (n : ℕ). Rose n (m'.disk_faults u)) (sym (old.counts u)) (subst (λ (n : ℕ). Rose (m.faults u) n) (sym (new.counts u)) rose)

-- ---- two calls in a row: the write, and the flush behind it

module _ (c e d : GroupCore) (vol first last : ℕ) (l j k : List Logs)
    (counts : (v : ℕ) → plexes_of e.inner.config v ≡ plexes_of c.inner.config v) (blocks : (v : ℕ) → blocks_of e.inner.config.volumes v ≡ blocks_of c.inner.config.volumes v)
    (gone : (v : ℕ) → fmr_at j v ≡ None → fmr_at k v ≡ None) (rests : (w p : ℕ) → IsTrue (active e.inner.config w p) → IsTrue (active c.inner.config w p))
    (free : (e.held ≡ None) ⊎ (fmr_at j vol ≡ None)) (behind : e.held ≡ None → (w p : ℕ) → IsTrue (active d.inner.config w p) → IsTrue (active e.inner.config w p)) where
  there_then : (v p r : ℕ) → IsThere c.inner.config v p r → IsThere e.inner.config v p r
  there_then v p r it = record {
    plex = subst (λ (n : ℕ). p < n) (sym (counts v)) it.plex;
    region = subst (λ (n : ℕ). r < regions_of n) (sym (blocks v)) it.region;
  }

  -- maps that are there behind both were there between them
  middle_then : (v : ℕ) (g : Missed) → fmr_at k v ≡ Some g → (f : Missed) × (fmr_at j v ≡ Some f)
  middle_then v g at = by (fmr_at j v) refl
    where
      by : (o : Option Missed) → fmr_at j v ≡ o → (f : Missed) × (fmr_at j v ≡ Some f)
      by None is = absurd (let clash : None ≡ Some g = sym (gone v is) ∙ at in cc)
      by (Some f) is = (f, is)

  off_still : (x y : Bool) → (IsTrue y → IsTrue x) → x ≡ false → y ≡ false
  off_still x true back off = let clash : false ≡ true = sym off ∙ back refl in cc
  off_still x false back off = refl

  stays_then : (v p : ℕ) → active c.inner.config v p ≡ false → active e.inner.config v p ≡ false
  stays_then v p off = off_still (active c.inner.config v p) (active e.inner.config v p) (rests v p) off

  here_is : (v r : ℕ) → in_run vol first last v r ≡ true → v ≡ vol
  here_is v r is = by (v == vol) refl is
    where
      by : (x : Bool) → (v == vol) ≡ x → (x && is_among first last r) ≡ true → v ≡ vol
      by true same on = eqb-true v vol same
      by false same on = absurd (let clash : false ≡ true = on in cc)

  rests_then : (v p r : ℕ) (g : Missed) → fmr_at k v ≡ Some g → in_run vol first last v r ≡ true → active e.inner.config v p ≡ false → active d.inner.config v p ≡ false
  rests_then v p r g at here off = off_still (active e.inner.config v p) (active d.inner.config v p) (behind (by free) v p) off
    where
      by : (e.held ≡ None) ⊎ (fmr_at j vol ≡ None) → e.held ≡ None
      by (inl none) = none
      by (inr none) = absurd (let same = here_is v r here in let clash : None ≡ Some g = sym (gone vol none) ∙ ap (λ (u : ℕ). fmr_at k u) (sym same) ∙ at in cc)

  pub both_move : (sure : Bool) → MapsMove c.inner.config e.inner.config (in_run vol first last) (all_anew vol sure) l j → MapsFlushed e.inner.config d.inner.config (in_run vol first last) (all_anew vol sure) j k
      → MapsMove c.inner.config d.inner.config (in_run vol first last) (all_anew vol sure) l k
  both_move sure one two = moves_then c.inner.config e.inner.config d.inner.config (in_run vol first last) (all_anew vol sure) l j k there_then middle_then stays_then rests_then one two

  pub both_doubt : (sure : Bool) → MapsMove c.inner.config e.inner.config (in_run vol first last) (all_anew vol sure) l j → MapsDoubt e.inner.config d.inner.config (in_run vol first last) j k
      → MapsDoubt c.inner.config d.inner.config (in_run vol first last) l k
  both_doubt sure one two = doubts_then c.inner.config e.inner.config d.inner.config (in_run vol first last) (all_anew vol sure) l j k there_then middle_then stays_then rests_then one two

-- why maps are gone behind both; the serial does not fall in the second call
pub both_end : (c e d : GroupCore) (l j k : List Logs) (s t : Bool) (m n o : Meaning) → ((v : ℕ) → frame_at e.inner.config v ≡ frame_at c.inner.config v) → ((v : ℕ) → frame_at d.inner.config v ≡ frame_at e.inner.config v)
    → ((u : ℕ) → m.faults u ≤ n.faults u) → ((u : ℕ) → n.faults u ≤ o.faults u) → (IsTrue n.down → IsTrue o.down) → e.inner.config.serial ≤ d.inner.config.serial
    → LosesPlexes c.inner.config d.inner.config m o → (s ≡ false → t ≡ true → greatest ≤ c.inner.config.serial + 45) → LogsKeep c e l j m n → LogsKeep e d j k n o → MapsEnd c.inner.config d.inner.config s t l k m o
both_end c e d l j k s t m n o first second risen rises falls later loses full one two =
    maps_end c d l k s t m o (keeps_then c e d l j k m n o (frames_places c.inner.config e.inner.config first) risen rises falls later one two) loses.disks.blamed (λ off on. let far = full off on in omega (arith, far))
    (λ v r at. frames_places c.inner.config d.inner.config (λ w. second w ∙ first w) v Fmr r at) loses.parts.later

-- ---- what is noted behind them

module _ (own : Write) (c d : GroupCore) (l k : List Logs) (s t : Bool) (a b : List Bool) (m m' : Meaning) (was : IsRack m) (now : IsRack m') (one : GroupStands c m) (two : GroupStands d m')
    (frames : (v : ℕ) → frame_at d.inner.config v ≡ frame_at c.inner.config v) (units : length (wide d).config.volumes ≡ length (wide c).config.volumes) (sizes : (v : ℕ) → blocks_of (wide d).config.volumes v ≡ blocks_of (wide c).config.volumes v)
    (low : own.volume < length (wide c).config.volumes) (ends : MapsEnd c.inner.config d.inner.config s t l k m m') (begins : MapsBeginIn (only_volume own.volume) c.inner.config d.inner.config s t l k) where
  many : length d.inner.config.volumes ≡ length c.inner.config.volumes
  many = sym (wide_shape d).volumes ∙ units ∙ (wide_shape c).volumes

  same : (v : ℕ) → goes_by k d.inner.config t v ≡ true → (plexes_of d.inner.config v ≡ plexes_of c.inner.config v) × (region_count d.inner.config v ≡ region_count c.inner.config v)
  same v on = (inner_count c d v (frames v) (sizes v), ap regions_of (inner_blocks c d v (sizes v)))

  there : own.volume < length c.inner.config.volumes
  there = subst (λ (n : ℕ). own.volume < n) (wide_shape c).volumes low

  -- it was done
  pub wrote_parts : (t ≡ false → MapsMove c.inner.config d.inner.config (in_write own) (all_anew own.volume (is_alike a own.volume)) l k) → ((v : ℕ) → is_alike a v ≡ true → is_alike b v ≡ true)
      → PartsMoved (WriteMaps own m m') (map_parts c.inner.config l a s) (map_parts d.inner.config k b t) m'
  wrote_parts moves alike = record {
    so = λ w up noted.
        write_goes w c.inner.config d.inner.config l k s t a b m m' noted (narrow_on c m one) (narrow_on d m' two) same many up (rack_rose m m' was now) ends own begins moves there alike;
  }

  apart_by : (v : ℕ) → (v == own.volume) ≡ false → v ≡ own.volume → ⊥
  apart_by v off is = let clash : false ≡ true = sym off ∙ eq-eqb v own.volume is in cc

  -- it was refused
  pub doubted_parts : (t ≡ false → MapsDoubt c.inner.config d.inner.config (in_write own) l k) → (is_alike a own.volume ≡ true → t ≡ false → (IsTrue m'.down → ⊥) → is_alike b own.volume ≡ false → RunAlone c.inner.config k own.volume (in_write own))
      → ((v : ℕ) → (v ≡ own.volume → ⊥) → is_alike a v ≡ true → is_alike b v ≡ true) → PartsMoved (DoubtMaps own m m') (map_parts c.inner.config l a s) (map_parts d.inner.config k b t) m'
  doubted_parts moves alone alike = record {
    so = λ w up noted.
        doubt_goes w c.inner.config d.inner.config l k s t a b m m' noted (narrow_on c m one) (narrow_on d m' two) same many up (rack_rose m m' was now) ends own begins moves there
        (λ sure going off. alone sure going up off) (λ v off. alike v (apart_by v off));
  }

-- ---- a write, and the flush behind it

module _ (own : Write) (c e d : GroupCore) (l j k : List Logs) (s u t : Bool) (a mid b : List Bool) (m n o : Meaning) (first : IsRack m) (second : IsRack n) (last : IsRack o) (one : GroupStands c m) (two : GroupStands d o)
    (loses : LosesPlexes c.inner.config e.inner.config m n) (loses_then : LosesPlexes e.inner.config d.inner.config n o) (risen : (x : ℕ) → m.disk_faults x ≤ n.disk_faults x) (rises : (x : ℕ) → n.disk_faults x ≤ o.disk_faults x)
    (units : length (wide e).config.volumes ≡ length (wide c).config.volumes) (as_many : length (wide d).config.volumes ≡ length (wide e).config.volumes)
    (sizes : (v : ℕ) → blocks_of (wide e).config.volumes v ≡ blocks_of (wide c).config.volumes v) (as_large : (v : ℕ) → blocks_of (wide d).config.volumes v ≡ blocks_of (wide e).config.volumes v)
    (low : own.volume < length (wide c).config.volumes) (falls : IsTrue n.down → IsTrue o.down) (later : e.inner.config.serial ≤ d.inner.config.serial) (full : s ≡ false → u ≡ true → greatest ≤ c.inner.config.serial + 45)
    (keeps : LogsKeep c e l j m n) (kept : LogsKeep e d j k n o) (comes : MapsBeginIn (only_volume own.volume) c.inner.config e.inner.config s u l j) (none_comes : MapsBeginIn no_volume e.inner.config d.inner.config u t j k)
    (gone : (v : ℕ) → fmr_at j v ≡ None → fmr_at k v ≡ None) (rests : u ≡ false → (w p : ℕ) → IsTrue (active e.inner.config w p) → IsTrue (active c.inner.config w p)) (free : u ≡ false → (e.held ≡ None) ⊎ (fmr_at j own.volume ≡ None))
    (behind : e.held ≡ None → (w p : ℕ) → IsTrue (active d.inner.config w p) → IsTrue (active e.inner.config w p)) (flags : (b ≡ mid) × (t ≡ u)) (alike : mid ≡ a) where
  abbrev from_region : ℕ
  from_region = first_region own.start

  abbrev to_region : ℕ
  to_region = last_region own.start (blocks_in own.bytes)

  going_on : t ≡ false → u ≡ false
  going_on off = sym flags.1 ∙ off

  frames_both : (v : ℕ) → frame_at d.inner.config v ≡ frame_at c.inner.config v
  frames_both v = loses_then.frames v ∙ loses.frames v

  sizes_both : (v : ℕ) → blocks_of (wide d).config.volumes v ≡ blocks_of (wide c).config.volumes v
  sizes_both v = as_large v ∙ sizes v

  counts_first : (v : ℕ) → plexes_of e.inner.config v ≡ plexes_of c.inner.config v
  counts_first v = inner_count c e v (loses.frames v) (sizes v)

  blocks_first : (v : ℕ) → blocks_of e.inner.config.volumes v ≡ blocks_of c.inner.config.volumes v
  blocks_first v = inner_blocks c e v (sizes v)

  ends_both : MapsEnd c.inner.config d.inner.config s t l k m o
  ends_both =
      both_end c e d l j k s t m n o loses.frames loses_then.frames (rack_rises m n first second risen) (rack_rises n o second last rises) falls later
      (both_lose m n o first second last risen rises c.inner.config e.inner.config d.inner.config loses loses_then) (λ off on. full off (sym flags.1 ∙ on)) keeps kept

  begins_both : MapsBeginIn (only_volume own.volume) c.inner.config d.inner.config s t l k
  begins_both = begins_then (only_volume own.volume) c.inner.config e.inner.config d.inner.config s u t l j k comes none_comes

  flags_both : (v : ℕ) → is_alike a v ≡ true → is_alike b v ≡ true
  flags_both v is = ap (λ (z : List Bool). is_alike z v) (flags.0 ∙ alike) ∙ is

  -- both are done
  pub both_wrote : (u ≡ false → MapsMove c.inner.config e.inner.config (in_run own.volume from_region to_region) (all_anew own.volume (is_alike a own.volume)) l j)
      → (u ≡ false → MapsFlushed e.inner.config d.inner.config (in_run own.volume from_region to_region) (all_anew own.volume (is_alike mid own.volume)) j k) → PartsMoved (WriteMaps own m o) (map_parts c.inner.config l a s) (map_parts d.inner.config k b t) o
  both_wrote moves follows =
      wrote_parts own c d l k s t a b m o first last one two frames_both (as_many ∙ units) sizes_both low ends_both begins_both
      (λ off.
      let on = going_on off in
      both_move c e d own.volume from_region to_region l j k counts_first blocks_first gone (rests on) (free on) behind (is_alike a own.volume) (moves on)
      (subst (λ (z : List Bool). MapsFlushed e.inner.config d.inner.config (in_run own.volume from_region to_region) (all_anew own.volume (is_alike z own.volume)) j k) alike (follows on)))
      flags_both

  -- the flush was refused
  pub both_doubted : (u ≡ false → MapsMove c.inner.config e.inner.config (in_run own.volume from_region to_region) (all_anew own.volume (is_alike a own.volume)) l j) → (u ≡ false → MapsDoubt e.inner.config d.inner.config (in_run own.volume from_region to_region) j k)
      → PartsMoved (DoubtMaps own m o) (map_parts c.inner.config l a s) (map_parts d.inner.config k b t) o
  both_doubted moves doubts =
      doubted_parts own c d l k s t a b m o first last one two frames_both (as_many ∙ units) sizes_both low ends_both begins_both
      (λ off.
      let on = going_on off in
      both_doubt c e d own.volume from_region to_region l j k counts_first blocks_first gone (rests on) (free on) behind (is_alike a own.volume) (moves on) (doubts on))
      (λ sure going up off. absurd (let clash : true ≡ false = sym (flags_both own.volume sure) ∙ off in cc)) (λ v apart. flags_both v)
