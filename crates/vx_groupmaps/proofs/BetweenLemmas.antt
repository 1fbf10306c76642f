-- The maps over a group's own calls: writes, plexes that are detached and attached, and a deport.
use Rattle.std.proofs.Common.{◌≡◌, ◌∙◌, inl, inr, ℕ, ◌+◌, ◌-◌, ◌*◌, ◌/◌, ◌%◌, ◌<◌, ◌≤◌, Bool, true, false, Option, Some, List, IsTrue, refl, sym, ap, subst, arith}
use Rattle.std.specs.Prelude.{◌||◌}
use Rattle.vx_bitmap.specs.Bits.{is_among, is_marked}
use Rattle.vx_bitmap.proofs.Blocks.{by_block}
use Rattle.vx_config.specs.Checks.{blocks_of as blocks_in, is_sound}
use Rattle.vx_config.specs.declared.config.Config.{Config}
use Rattle.vx_config.specs.declared.entry.LogEntry.{LogEntry}
use Rattle.vx_config.specs.declared.entry.VolumeLog.TheVariants.{Fmr as FmrLog}
use Rattle.vx_disk.specs.Blocks.{bit_at}
use Rattle.vx_disk.specs.Shelf.{Each, Goes, Image, Meaning, Nothing, Values}
use Rattle.vx_fmr.specs.Missed.{Missed, has_missed, missed_place}
use Rattle.vx_layout.specs.Places.{HasBlock, place}
use Rattle.vx_layout.proofs.Placing.{sound_apart}
use Rattle.vx_logs.specs.Held.{InUse, LogsFit, LogsStand}
use Rattle.vx_logs.specs.Writes.{first_region, last_region}
use Rattle.vx_logs.specs.declared.logs.Logs.{Logs}
use Rattle.vx_logs.proofs.NoteLemmas.{among_is}
use Rattle.vx_maplog.specs.Logs.{log_of}
use Rattle.vx_model.specs.Content.{block_of}
use Rattle.vx_volume.specs.Copies.{OnCopy}
use Rattle.vx_volume.specs.Plexes.{InRun, Inside, active}
use Rattle.vx_volume.specs.Volumes.{OnPlexes}
use Rattle.vx_volume.proofs.PlaceLemmas.{has_of}
use Rattle.vx_groupmaps.specs.Between.{AttachesPlex, Detaches, HasVolumeContent, NewlyIn, PlexesSettled, ReadsOr}
use Rattle.vx_groupmaps.specs.Missing.{ActiveAgree, DiskAgrees, ImageAgrees, MapAgrees, MapsCover, MapsCoverBy, bit_in_maps, by_map, or_run, or_set, or_spared}
use Rattle.vx_groupmaps.proofs.MapPlaces.{bit_low, has_mapped, mapped_stale, region_low, stale_there}

-- a call on the shelf says so of what is read everywhere
pub goes_reads : (W : Values) (m m' : Meaning) → Goes W m m' → ReadsOr W m m'
goes_reads W m m' goes = record { so = λ u b x low read. goes.reads u b x read; falls = goes.falls }

apart_of : (a s w : Bool) → (a || s) || w ≡ false → (a ≡ false) × (s || w ≡ false)
apart_of true s w is = absurd (let clash : true ≡ false = is in cc)
apart_of false s w is = (refl, is)

-- a region that none of the run has holds no block of it
pub out_of_run : (block n b : ℕ) → is_among (first_region block) (last_region block n) (b / 64) ≡ false → InRun block n b → ⊥
out_of_run block n b out run =
    let low : block / 64 ≤ b / 64 = omega (arith, run.first) in
    let high : b / 64 ≤ (block + n - 1) / 64 = omega (arith, run.last) in
    let clash : true ≡ false = sym (among_is (first_region block) (last_region block n) (b / 64) low high) ∙ out in
    cc

-- ---- one volume

module _ (c : Config) (sound : is_sound c ≡ true) (v : ℕ) where
  pub above : (p b : ℕ) → HasBlock c v p b → 512 ≤ (place c v p b).1
  above p b has = ((sound_apart c sound).region v p b has).public

  -- what a plex reads that has no block of what is written
  kept_read : (W : Values) (m m' : Meaning) → ReadsOr W m m' → (IsTrue m'.down → ⊥) → (p b : ℕ) (x : List ℕ) → HasBlock c v p b → (W (place c v p b).0 (place c v p b).1 x → ⊥) → m'.reads (place c v p b).0 (place c v p b).1 x → m.reads (place c v p b).0 (place c v p b).1 x
  kept_read W m m' reads up p b x has off read = elim (reads.so (place c v p b).0 (place c v p b).1 x (above p b has) read) [
    | inl (inl was) ↦ was
    | inl (inr now) ↦ absurd (off now)
    | inr down ↦ absurd (up down)
  ]

  -- ---- a write of a run of blocks

  module _ (block n : ℕ) (bytes : List ℕ) (run_in : (k : ℕ) → InRun block n k → Inside c v k) where
    off_write : (p b : ℕ) (x : List ℕ) → HasBlock c v p b → is_among (first_region block) (last_region block n) (b / 64) ≡ false → OnPlexes c v block n bytes (place c v p b).0 (place c v p b).1 x → ⊥
    off_write p b x has out on =
        let same = (sound_apart c sound).one v p b v on.plex on.put.number has (has_of c v on.plex on.put.number on.is_on (run_in on.put.number on.put.run)) (sym on.put.at) in
        out_of_run block n b out (subst (λ (k : ℕ). InRun block n k) (sym same.2) on.put.run)

    module _ (m m' : Meaning) (reads : ReadsOr (OnPlexes c v block n bytes) m m') (up : IsTrue m'.down → ⊥) where
      written_out : (p q b : ℕ) (x y : List ℕ) → HasBlock c v p b → HasBlock c v q b → is_among (first_region block) (last_region block n) (b / 64) ≡ false
          → m'.reads (place c v p b).0 (place c v p b).1 x → m'.reads (place c v q b).0 (place c v q b).1 y → m.reads (place c v p b).0 (place c v p b).1 x × m.reads (place c v q b).0 (place c v q b).1 y
      written_out p q b x y has_p has_q out at_p at_q = (
        kept_read (OnPlexes c v block n bytes) m m' reads up p b x has_p (off_write p b x has_p out) at_p,
        kept_read (OnPlexes c v block n bytes) m m' reads up q b y has_q (off_write q b y has_q out) at_q,
      )

      pub write_agrees : (spare missed : ℕ → ℕ → Bool) → MapAgrees c v (or_spared spare missed) m.reads → MapAgrees c v (or_spared (or_run (first_region block) (last_region block n) spare) missed) m'.reads
      write_agrees spare missed agree = record {
        so = λ p q b x y is on inside clear at_p at_q.
            let among : Bool = is_among (first_region block) (last_region block n) (b / 64) in
            let parts = apart_of among (spare p (b / 64)) (missed p (b / 64)) clear in
            let old = written_out p q b x y (has_mapped c v p b is inside) (has_of c v q b on inside) parts.0 at_p at_q in
            agree.so p q b x y is on inside parts.1 old.0 old.1;
      }

      -- plexes that were ACTIVE and agreed do so out of the regions of the write
      pub write_active : ActiveAgree c v (λ r. false) m.reads → ActiveAgree c v (is_among (first_region block) (last_region block n)) m'.reads
      write_active agree = record {
        so = λ p q b x y on_p on_q inside clear at_p at_q.
            let old = written_out p q b x y (has_of c v p b on_p inside) (has_of c v q b on_q inside) clear at_p at_q in
            agree.so p q b x y on_p on_q inside refl old.0 old.1;
      }

  -- where nothing is written
  pub still_agrees : (m m' : Meaning) → ReadsOr Nothing m m' → (IsTrue m'.down → ⊥) → (missed : ℕ → ℕ → Bool) → MapAgrees c v missed m.reads → MapAgrees c v missed m'.reads
  still_agrees m m' reads up missed agree = record {
    so = λ p q b x y is on inside clear at_p at_q.
        agree.so p q b x y is on inside clear (kept_read Nothing m m' reads up p b x (has_mapped c v p b is inside) (λ none. none) at_p) (kept_read Nothing m m' reads up q b y (has_of c v q b on inside) (λ none. none) at_q);
  }

  pub still_active : (m m' : Meaning) → ReadsOr Nothing m m' → (IsTrue m'.down → ⊥) → (loose : ℕ → Bool) → ActiveAgree c v loose m.reads → ActiveAgree c v loose m'.reads
  still_active m m' reads up loose agree = record {
    so = λ p q b x y on_p on_q inside clear at_p at_q.
        agree.so p q b x y on_p on_q inside clear (kept_read Nothing m m' reads up p b x (has_of c v p b on_p inside) (λ none. none) at_p) (kept_read Nothing m m' reads up q b y (has_of c v q b on_q inside) (λ none. none) at_q);
  }

  -- a plex beside one that is copied to
  pub off_copy : (a : ℕ) → ((b : ℕ) → Inside c v b → HasBlock c v a b) → (r b : ℕ) (z : List ℕ) → HasBlock c v r b → (r ≡ a → ⊥) → OnCopy c v a (place c v r b).0 (place c v r b).1 z → ⊥
  off_copy a has r b z has_r other on_a = other ((sound_apart c sound).one v r b v a on_a.number has_r (has on_a.number on_a.inside) (sym on_a.at)).1

-- ---- configurations

module _ (c d : Config) (v : ℕ) (values : Values) (detaches : Detaches c d v) where
  at_old : (p b : ℕ) (x : List ℕ) → values (place d v p b).0 (place d v p b).1 x → values (place c v p b).0 (place c v p b).1 x
  at_old p b x at = subst (λ (s : ℕ × ℕ). values s.0 s.1 x) (detaches.places p b) at

  -- plexes that agreed while they were ACTIVE go on to agree, but where they may differ
  pub detached_agrees : (missed : ℕ → ℕ → Bool) (loose : ℕ → Bool) → ((p r : ℕ) → missed p r ≡ false → loose r ≡ false) → ActiveAgree c v loose values → MapAgrees c v missed values → MapAgrees d v missed values
  detached_agrees missed loose less active agree = record {
    so = λ p q b x y is on inside clear at_p at_q. elim (detaches.mapped p is) [
      | inl was ↦ agree.so p q b x y was (detaches.on q on) (detaches.inside b inside) clear (at_old p b x at_p) (at_old q b y at_q)
      | inr was ↦ active.so p q b x y was (detaches.on q on) (detaches.inside b inside) (less p (b / 64) clear) (at_old p b x at_p) (at_old q b y at_q)
    ];
  }

  -- and where nothing is said of them they are spared
  pub detached_spared : (set : ℕ) (spare missed : ℕ → ℕ → Bool) → NewlyIn c d v set → MapAgrees c v (or_spared spare missed) values → MapAgrees d v (or_spared (or_set set spare) missed) values
  detached_spared set spare missed newly agree = record {
    so = λ p q b x y is on inside clear at_p at_q.
        let parts = apart_of (bit_at set p) (spare p (b / 64)) (missed p (b / 64)) clear in
        elim (detaches.mapped p is) [
          | inl was ↦ agree.so p q b x y was (detaches.on q on) (detaches.inside b inside) parts.1 (at_old p b x at_p) (at_old q b y at_q)
          | inr was ↦ absurd (let clash : true ≡ false = sym (newly.so p is was) ∙ parts.0 in cc)
        ];
  }

-- ---- the maps of a volume

module _ (c : Config) (sound : is_sound c ≡ true) (v : ℕ) (l : Logs) (m m' : Meaning) (d : Config) (detaches : Detaches c d v) (spare : ℕ → ℕ → Bool) (cover : MapsCoverBy c v spare l m) where
  module _ (block n : ℕ) (bytes : List ℕ) (run_in : (k : ℕ) → InRun block n k → Inside c v k) (reads : ReadsOr (OnPlexes c v block n bytes) m m') where
    -- a write that leaves some plexes STALE, which agreed before, and whose maps are still to be marked
    pub write_covers : ActiveAgree c v (λ r. false) m.reads → MapsCoverBy d v (or_run (first_region block) (last_region block n) spare) l m'
    write_covers active = record {
      so = λ f is up.
          detached_agrees c d v m'.reads detaches (or_spared (or_run (first_region block) (last_region block n) spare) (has_missed f)) (is_among (first_region block) (last_region block n))
          (λ p r clear. (apart_of (is_among (first_region block) (last_region block n) r) (spare p r) (has_missed f p r) clear).0)
          (write_active c sound v block n bytes run_in m m' reads up active)
          (write_agrees c sound v block n bytes run_in m m' reads up spare (has_missed f) (cover.so f is (λ down. up (reads.falls down))));
    }

    -- the same where nothing is said of those: they are spared
    pub write_spares : (set : ℕ) → NewlyIn c d v set → MapsCoverBy d v (or_set set (or_run (first_region block) (last_region block n) spare)) l m'
    write_spares set newly = record {
      so = λ f is up.
          detached_spared c d v m'.reads detaches set (or_run (first_region block) (last_region block n) spare) (has_missed f) newly
          (write_agrees c sound v block n bytes run_in m m' reads up spare (has_missed f) (cover.so f is (λ down. up (reads.falls down))));
    }

  -- plexes that are detached in no write
  module _ (reads : ReadsOr Nothing m m') where
    pub detach_covers : ActiveAgree c v (λ r. false) m.reads → MapsCoverBy d v spare l m'
    detach_covers active = record {
      so = λ f is up.
          detached_agrees c d v m'.reads detaches (or_spared spare (has_missed f)) (λ r. false) (λ p r clear. refl) (still_active c sound v m m' reads up (λ r. false) active)
          (still_agrees c sound v m m' reads up (or_spared spare (has_missed f)) (cover.so f is (λ down. up (reads.falls down))));
    }

    pub detach_spares : (set : ℕ) → NewlyIn c d v set → MapsCoverBy d v (or_set set spare) l m'
    detach_spares set newly = record {
      so = λ f is up.
          detached_spared c d v m'.reads detaches set spare (has_missed f) newly (still_agrees c sound v m m' reads up (or_spared spare (has_missed f)) (cover.so f is (λ down. up (reads.falls down))));
    }

pub attach_covers : (c : Config) → is_sound c ≡ true → (v a : ℕ) → active c v a ≡ false → ((b : ℕ) → Inside c v b → HasBlock c v a b) → (l : Logs) (m m' : Meaning) → ReadsOr (OnCopy c v a) m m' → (d : Config) → AttachesPlex c d v a
    → by_map d v a ≡ false → HasVolumeContent c v a m.reads m'.reads → (spare : ℕ → ℕ → Bool) → MapsCoverBy c v spare l m → MapsCoverBy d v spare l m'
attach_covers c sound v a off has l m m' reads d attaches unmapped content spare cover = record {
  so = λ f is up. record {
    so = λ p q b x y is_map on inside clear at_p at_q.
        let inside_c = attaches.inside b inside in
        let map_c = attaches.mapped p is_map in
        let agree = cover.so f is (λ down. up (reads.falls down)) in
        let read_p = stayed up p b x (has_mapped c v p b map_c inside_c) (not_this p is_map) (back p b x at_p) in
        elim (attaches.on q on) [
          | inl was ↦ agree.so p q b x y map_c was inside_c clear read_p (stayed up q b y (has_of c v q b was inside_c) (not_on q was) (back q b y at_q))
          | inr new ↦
              (let source = content.so b y inside_c (subst (λ (r : ℕ). m'.reads (place c v r b).0 (place c v r b).1 y) new (back q b y at_q)) in
              agree.so p source.0 b x y map_c source.1 inside_c clear read_p source.2)
        ];
  };
}
  where
    back : (p b : ℕ) (x : List ℕ) → m'.reads (place d v p b).0 (place d v p b).1 x → m'.reads (place c v p b).0 (place c v p b).1 x
    back p b x at = subst (λ (s : ℕ × ℕ). m'.reads s.0 s.1 x) (attaches.places p b) at

    stayed : (IsTrue m'.down → ⊥) → (r b : ℕ) (z : List ℕ) → HasBlock c v r b → (r ≡ a → ⊥) → m'.reads (place c v r b).0 (place c v r b).1 z → m.reads (place c v r b).0 (place c v r b).1 z
    stayed up r b z has_r other read = kept_read c sound v (OnCopy c v a) m m' reads up r b z has_r (off_copy c sound v a has r b z has_r other) read

    not_this : (p : ℕ) → IsTrue (by_map d v p) → p ≡ a → ⊥
    not_this p is_map same = let clash : true ≡ false = sym is_map ∙ ap (λ (r : ℕ). by_map d v r) same ∙ unmapped in cc

    not_on : (q : ℕ) → IsTrue (active c v q) → q ≡ a → ⊥
    not_on q on same = let clash : true ≡ false = sym on ∙ ap (λ (r : ℕ). active c v r) same ∙ off in cc

-- ---- what a crash leaves

-- where each plex leaves what it read, and the log that is in use stands in memory
pub settled_disk : (c : Config) → is_sound c ≡ true → (v : ℕ) → 0 < blocks_in c.volumes v → (l : Logs) → LogsFit c v l → ((e : LogEntry) → InUse c v FmrLog e → (f : Missed) × (l.fmr ≡ Some f)) → (m m' : Meaning) → (IsTrue m.down → ⊥)
    → PlexesSettled c v l m m' → LogsStand l m' → MapsCover c v l m → DiskAgrees c v m'
settled_disk c sound v some l fits whole m m' up settled stand cover = record {
  so = λ e p q b x y z used is on inside left clear at_p at_q.
      let w = whole e used in
      by e p q b x y z used is on inside left clear at_p at_q w.0 w.1;
}
  where
    one_entry : (o : Option LogEntry) (d e : LogEntry) → o ≡ Some d → o ≡ Some e → e ≡ d
    one_entry o d e one two = let both : Some e ≡ Some d = sym two ∙ one in cc

    by : (e : LogEntry) (p q b : ℕ) (x y z : List ℕ) → InUse c v FmrLog e → IsTrue (by_map c v p) → IsTrue (active c v q) → Inside c v b
        → m'.leaves e.disk (e.start + bit_in_maps c v p b / 4096) z → is_marked z (bit_in_maps c v p b % 4096) ≡ false
        → m'.leaves (place c v p b).0 (place c v p b).1 x → m'.leaves (place c v q b).0 (place c v q b).1 y → (f : Missed) → l.fmr ≡ Some f → x ≡ y
    by e p q b x y z used is on inside left clear at_p at_q f at =
        let it = fits.fmr f at in
        let same : e ≡ it.log.entry = one_entry (log_of c v FmrLog) it.log.entry e it.log.is used.is in
        let unit : e.disk ≡ f.map.unit = ap (λ (n : LogEntry). n.disk) same ∙ sym it.log.run.there in
        let start : e.start ≡ f.map.first = ap (λ (n : LogEntry). n.start) same ∙ sym it.log.run.begins in
        let bit : bit_in_maps c v p b ≡ missed_place f p (b / 64) = ap (λ (n : ℕ). p * n + b / 64) (sym it.stride) in
        let k : ℕ = missed_place f p (b / 64) / 4096 in
        let one : m'.leaves f.map.unit (e.start + bit_in_maps c v p b / 4096) z = subst (λ (u : ℕ). m'.leaves u (e.start + bit_in_maps c v p b / 4096) z) unit left in
        let two : m'.leaves f.map.unit (f.map.first + bit_in_maps c v p b / 4096) z = subst (λ (n : ℕ). m'.leaves f.map.unit (n + bit_in_maps c v p b / 4096) z) start one in
        let three : m'.leaves f.map.unit (f.map.first + k) z = subst (λ (n : ℕ). m'.leaves f.map.unit (f.map.first + n / 4096) z) bit two in
        let low = bit_low c sound v some f it p (b / 64) (stale_there c sound v some f it p (mapped_stale c v p is)) (region_low c sound v some f it b inside) in
        let z_is : z ≡ block_of f.map.bytes k = ((stand.fmr f at).each k low).only z three in
        let off : is_marked z (missed_place f p (b / 64) % 4096) ≡ false = subst (λ (n : ℕ). is_marked z (n % 4096) ≡ false) bit clear in
        let none : has_missed f p (b / 64) ≡ false = by_block f.map.bytes (missed_place f p (b / 64)) ∙ ap (λ (ys : List ℕ). is_marked ys (missed_place f p (b / 64) % 4096)) (sym z_is) ∙ off in
        (cover.so f at up).so p q b x y is on inside none (settled.mapped f p b x at is inside none at_p) (settled.on q b y on inside at_q)

-- what is said of all that a crash leaves, of one image
pub image_agrees : (c : Config) (v : ℕ) (m : Meaning) (i : Image) → DiskAgrees c v m → Each m.leaves i → ImageAgrees c v i
image_agrees c v m i disk each = record {
  so = λ e p q b used is on inside clear.
      disk.so e p q b (i (place c v p b).0 (place c v p b).1) (i (place c v q b).0 (place c v q b).1) (i e.disk (e.start + bit_in_maps c v p b / 4096)) used is on inside (each e.disk (e.start + bit_in_maps c v p b / 4096)) clear
      (each (place c v p b).0 (place c v p b).1) (each (place c v q b).0 (place c v q b).1);
}
