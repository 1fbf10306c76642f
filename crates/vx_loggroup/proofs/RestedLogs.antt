-- What the disks of a group with logs tell behind a deport before which they were flushed.
use Rattle.std.proofs.Common.{◌≡◌, ◌∙◌, ◌⊎◌, inl, inr, ℕ, zero, suc, ◌+◌, ◌*◌, ◌/◌, ◌%◌, ◌<◌, ◌≤◌, Bool, true, false, IsTrue, Option, Some, None, List, length, refl, sym, ap, subst, arith}
use Rattle.std.specs.Prelude.{◌||◌}
use Rattle.std.proofs.lemmas.Bool.{cases_eq}
use Rattle.vx_bitmap.specs.Bits.{is_marked}
use Rattle.vx_bitmap.specs.Maps.{MapOn, map_block_count}
use Rattle.vx_bitmap.proofs.Blocks.{by_block}
use Rattle.vx_config.specs.Checks.{blocks_of as blocks_in, is_sound, plexes_of}
use Rattle.vx_config.specs.declared.config.Config.{Config}
use Rattle.vx_config.specs.declared.entry.LogEntry.{LogEntry}
use Rattle.vx_config.specs.declared.entry.VolumeLog.TheVariants.{Fmr}
use Rattle.vx_copyfmt.specs.Imports.{Found}
use Rattle.vx_disk.specs.Shelf.{Each, Image, Meaning}
use Rattle.vx_fmr.specs.Missed.{FmrLoaded, Missed, has_missed, missed_place}
use Rattle.vx_group.specs.Deports.{DeportedBy}
use Rattle.vx_group.specs.Holding.{GroupStands, wide}
use Rattle.vx_group.specs.Resumes.{stopped}
use Rattle.vx_group.specs.declared.group_core.GroupCore.{GroupCore}
use Rattle.vx_group.specs.Dets.{any_below}
use Rattle.vx_group.proofs.HoldLemmas.{narrow_wider, wide_shape}
use Rattle.vx_group.proofs.Standing.{fit_of, sound_of}
use Rattle.vx_groupmaps.specs.Missing.{bit_in_maps}
use Rattle.vx_groupmaps.proofs.KnowLemmas.{plex_below}
use Rattle.vx_groupmaps.proofs.MapPlaces.{bit_low, region_low}
use Rattle.vx_grouplogs.proofs.LogShape.{has_back, run_back}
use Rattle.vx_kept.specs.Choice.{live}
use Rattle.vx_kept.specs.Cleans.{at_serial, cleaned, is_unsure}
use Rattle.vx_kept.specs.Groups.{found}
use Rattle.vx_kept.specs.Keeping.{Kin, SameShape}
use Rattle.vx_kept.specs.LogRuns.{log_trusted}
use Rattle.vx_kept.proofs.Chosen.{active_volumes}
use Rattle.vx_kept.proofs.CleanLemmas.{AllClean, all_clean}
use Rattle.vx_layout.specs.Places.{HasBlock, place, plex_at}
use Rattle.vx_layout.proofs.Placing.{sound_apart}
use Rattle.vx_logged.specs.Logged.{Known, LogOn}
use Rattle.vx_group.specs.Settles.{LivesAgree, ReadsOne}
use Rattle.vx_logimport.specs.Rests.{AlikeRests, MapsRest, MapsTell}
use Rattle.vx_logimport.proofs.RestLemmas.{in_use_trusts}
use Rattle.vx_logs.specs.Held.{InUse}
use Rattle.vx_logs.proofs.LogLemmas.{log_placed}
use Rattle.vx_maplog.specs.Logs.{log_of}
use Rattle.vx_model.specs.Sizes.{map_blocks}
use Rattle.vx_volume.proofs.PlaceLemmas.{has_of}
use Rattle.vx_logs.specs.declared.logs.Logs.{Logs}
use Rattle.vx_model.specs.Content.{block_of}
use Rattle.vx_volume.specs.Plexes.{Inside, active, active_or}
use Rattle.vx_loggroup.proofs.DeportedLogs.{at_shape, on_at}

active_same : (x y : Config) (v q : ℕ) → plex_at x v q ≡ plex_at y v q → active x v q ≡ active y v q
unfolding active
active_same x y v q same = ap active_or same

or_left : (a b : Bool) → a ≡ true → a || b ≡ true
or_left a b is = ap (λ (t : Bool). t || b) is

or_right : (a b : Bool) → b ≡ true → a || b ≡ true
or_right true b is = refl
or_right false b is = is

any_one : (test : ℕ → Bool) (n p : ℕ) → p < n → test p ≡ true → any_below test n ≡ true
any_one test zero p lt is = absurd (omega (arith, lt))
any_one test (suc n) p lt is = elim (cases_eq p n) [
  | inl same ↦ or_right (any_below test n) (test n) (subst (λ (k : ℕ). test k ≡ true) same is)
  | inr apart ↦ or_left (any_below test n) (test n) (any_one test n p (omega (arith, lt, apart)) is)
]

-- a volume with a plex that is ACTIVE stopped uncleanly
pub is_stopped : (x : Config) (v p b : ℕ) → Inside x v b → IsTrue (active x v p) → stopped x v ≡ true
unfolding stopped
is_stopped x v p b inside on = any_one (active x v) (plexes_of x v) p (plex_below x v p b (has_of x v p b on inside)) on

the_entry : (o : Option LogEntry) (f h : LogEntry) → o ≡ Some f → o ≡ Some h → h ≡ f
the_entry o f h one two = let both : Some h ≡ Some f = sym two ∙ one in cc

module _ (c : GroupCore) (m1 new : Meaning) (stands : GroupStands c m1) (it : DeportedBy (wide c).config c.inner m1 new) (up : IsTrue new.down → ⊥) where
  abbrev at : Config
  at = at_serial it.config.serial it.behind.config

  abbrev w_config : Config
  w_config = (wide c).config

  shape : SameShape at w_config
  shape = at_shape c m1 new stands it

  sound : is_sound w_config ≡ true
  sound = sound_of (wide c) m1 stands.stands

  clean_all : AllClean it.behind.unsure (length c.inner.config.volumes) it.behind.config (cleaned it.behind.unsure it.behind.config (length c.inner.config.volumes))
  clean_all = all_clean it.behind.unsure (length c.inner.config.volumes) it.behind.config

  same_volumes : (x : Config) → x ≡ it.config → x.volumes ≡ (cleaned it.behind.unsure it.behind.config (length c.inner.config.volumes)).volumes
  same_volumes x is = ap (λ (y : Config). y.volumes) is ∙ it.volumes

  -- ---- a volume of an image in which it stopped cleanly

  module _ (i : Image) (x : Config) (each : Each new.leaves i) (is : found new i ≡ Found x) (v : ℕ) (clean : stopped x v ≡ false) where
    is_config : x ≡ it.config
    is_config = let both : Found x ≡ Found it.config = sym is ∙ it.finds i each in cc

    kin : Kin at x
    kin = it.kept.kin i x each is

    low_of : v < length x.volumes → v < length c.inner.config.volumes
    low_of lt =
        let one : length x.volumes ≡ length (cleaned it.behind.unsure it.behind.config (length c.inner.config.volumes)).volumes = ap length (same_volumes x is_config) in
        let two = clean_all.alike.shape.volumes in
        let three = it.quiesces.shape.volumes in
        omega (arith, lt, one, two, three)

    at_low : v < length c.inner.config.volumes → v < length at.volumes
    at_low lt = let same = it.quiesces.shape.volumes in omega (arith, lt, same)

    module _ (lt : v < length c.inner.config.volumes) where
      on_behind : (q : ℕ) → IsTrue (live x v q) → IsTrue (active it.behind.config v q)
      on_behind q on = sym (active_volumes at it.behind.config refl v q) ∙ kin.on v q (at_low lt) on

      on_wide : (q : ℕ) → IsTrue (live x v q) → IsTrue (active w_config v q)
      on_wide q on = narrow_wider c m1 stands v q (it.quiesces.on v q (on_behind q on))

      -- it is not unsure, or a plex of it would be ACTIVE
      sure : (q b : ℕ) → Inside x v b → IsTrue (live x v q) → is_unsure it.behind.unsure v ≡ false
      sure q b inside on = by (is_unsure it.behind.unsure v) refl
        where
          by : (t : Bool) → is_unsure it.behind.unsure v ≡ t → t ≡ false
          by false off = refl
          by true mark =
              let same = clean_all.same v q (λ below off. let clash : true ≡ false = sym mark ∙ off in cc) in
              let on_clean : IsTrue (active (cleaned it.behind.unsure it.behind.config (length c.inner.config.volumes)) v q) = active_same (cleaned it.behind.unsure it.behind.config (length c.inner.config.volumes)) it.behind.config v q same ∙ on_behind q on in
              let on_x : IsTrue (active x v q) = active_volumes x (cleaned it.behind.unsure it.behind.config (length c.inner.config.volumes)) (same_volumes x is_config) v q ∙ on_clean in
              absurd (let clash : false ≡ true = sym clean ∙ is_stopped x v q b inside on_x in cc)

      lay : (p b : ℕ) → place x v p b ≡ place w_config v p b
      lay p b = kin.shape.place v p b (at_low lt) ∙ shape.place v p b

      inside_w : (b : ℕ) → Inside x v b → Inside w_config v b
      inside_w b inside = record {
        volume = let same = (wide_shape c).volumes in omega (arith, lt, same);
        within = let low = inside.within in let one = kin.shape.blocks v (at_low lt) in let two = shape.blocks v in omega (arith, low, one, two);
      }

      -- what a plex that takes part leaves it read
      read_q : (q b : ℕ) (z : List ℕ) → Inside x v b → IsTrue (live x v q) → new.leaves (place x v q b).0 (place x v q b).1 z → m1.reads (place w_config v q b).0 (place w_config v q b).1 z
      read_q q b z inside on left =
          let flushed = it.quiesces.flushed v q lt (sure q b inside on) (on_behind q on) in
          let down : place w_config v q b ≡ place c.inner.config v q b = (wide_shape c).place v q b in
          let inner : Inside c.inner.config v b = record { volume = lt; within = let low = (inside_w b inside).within in let same = (wide_shape c).blocks v in omega (arith, low, same) } in
          subst (λ (s : ℕ × ℕ). m1.reads s.0 s.1 z) (sym down) (flushed.each b z inner (subst (λ (s : ℕ × ℕ). new.leaves s.0 s.1 z) (lay q b ∙ down) left))

      pub lives_agree : ReadsOne w_config v m1 → LivesAgree x v new
      lives_agree reads = record {
        so = λ p q b y z inside on_p on_q at_p at_q.
            reads.one b y z (record { inside = inside_w b inside; plex = p; is_on = on_wide p on_p; value = read_q p b y inside on_p at_p }) (record { inside = inside_w b inside; plex = q; is_on = on_wide q on_q; value = read_q q b z inside on_q at_q });
      }

      -- ---- its log of missed regions

      module _ (l : Logs) (on : LogOn c v l m1) (f : Missed) (has_f : l.fmr ≡ Some f) where
        loaded : FmrLoaded w_config v f
        loaded = on.fits.fmr f has_f

        w_low : v < length w_config.volumes
        w_low = let same = (wide_shape c).volumes in omega (arith, lt, same)

        holds : MapOn f.map new
        holds = (on_at c m1 new stands it v l w_low on).stands.fmr f has_f

        blocks_x : blocks_in x.volumes v ≡ blocks_in w_config.volumes v
        blocks_x = kin.shape.blocks v (at_low lt) ∙ shape.blocks v

        -- where the image has it
        at_map : (e : LogEntry) → InUse x v Fmr e → (e.disk ≡ f.map.unit) × (e.start ≡ f.map.first) × (e.blocks ≡ loaded.log.entry.blocks)
        at_map e in_use =
            let run = run_back w_config x v Fmr (kin.shape.logs v Fmr (at_low lt) ∙ shape.logs v Fmr) e in_use.is in
            let same : run.entry ≡ loaded.log.entry = the_entry (log_of w_config v Fmr) loaded.log.entry run.entry loaded.log.is run.is in
            (sym run.disk ∙ ap (λ (n : LogEntry). n.disk) same ∙ sym loaded.log.run.there, sym run.start ∙ ap (λ (n : LogEntry). n.start) same ∙ sym loaded.log.run.begins, sym run.blocks ∙ ap (λ (n : LogEntry). n.blocks) same)

        has_bytes : (e : LogEntry) → InUse x v Fmr e → (k : ℕ) (w : List ℕ) → k < map_block_count f.map → new.leaves e.disk (e.start + k) w → w ≡ block_of f.map.bytes k
        has_bytes e in_use k w low left =
            let where_it = at_map e in_use in
            (holds.each k low).only w (subst (λ (n : ℕ). new.leaves f.map.unit (n + k) w) where_it.1 (subst (λ (u : ℕ). new.leaves u (e.start + k) w) where_it.0 left))

        bit_is : (p b : ℕ) → bit_in_maps x v p b ≡ missed_place f p (b / 64)
        bit_is p b = ap (λ (n : ℕ). p * n + b / 64) (ap (λ (n : ℕ). 4096 * map_blocks n) blocks_x ∙ sym loaded.stride)

        module _ (know : Known c v l m1) where
          -- a plex reads what it read
          read_at : (p b : ℕ) (y : List ℕ) → HasBlock w_config v p b → new.reads (place x v p b).0 (place x v p b).1 y → m1.reads (place w_config v p b).0 (place w_config v p b).1 y
          read_at p b y has read =
              let there : new.reads (place w_config v p b).0 (place w_config v p b).1 y = subst (λ (s : ℕ × ℕ). new.reads s.0 s.1 y) (lay p b) read in
              elim (it.quiesces.acts.reads (place w_config v p b).0 (place w_config v p b).1 y ((sound_apart w_config sound).region v p b has).public there) [
                | inl (inl was) ↦ was
                | inl (inr none) ↦ absurd none
                | inr down ↦ absurd (up down)
              ]

          pub maps_tell : MapsTell x v new
          maps_tell = record {
            so = λ e p q b y z w in_use has on_q inside low left at_off at_p at_q.
                let some : 0 < blocks_in w_config.volumes v = let within = (inside_w b inside).within in omega (arith, within) in
                let has_w : HasBlock w_config v p b = has_back w_config x v (kin.shape.frames v (at_low lt) ∙ shape.frames v) blocks_x p b has in
                let plex : p < f.plexes = let below = plex_below w_config v p b has_w in let count = loaded.plexes in omega (arith, below, count) in
                let within = bit_low w_config sound v some f loaded p (b / 64) plex (region_low w_config sound v some f loaded b (inside_w b inside)) in
                let left' : new.leaves e.disk (e.start + missed_place f p (b / 64) / 4096) w = subst (λ (t : ℕ). new.leaves e.disk (e.start + t / 4096) w) (bit_is p b) left in
                let bytes : w ≡ block_of f.map.bytes (missed_place f p (b / 64) / 4096) = has_bytes e in_use (missed_place f p (b / 64) / 4096) w within left' in
                let off' : is_marked w (missed_place f p (b / 64) % 4096) ≡ false = subst (λ (t : ℕ). is_marked w (t % 4096) ≡ false) (bit_is p b) at_off in
                let clear : has_missed f p (b / 64) ≡ false = by_block f.map.bytes (missed_place f p (b / 64)) ∙ subst (λ (t : List ℕ). is_marked t (missed_place f p (b / 64) % 4096) ≡ false) bytes off' in
                let has_q : HasBlock w_config v q b = has_of w_config v q b (on_wide q on_q) (inside_w b inside) in
                (know.so f has_f (λ down. up (it.quiesces.acts.falls down))).so p q b y z has_w (on_wide q on_q) (inside_w b inside) clear (read_at p b y has_w at_p) (read_at q b z has_q at_q);
            one = λ e k y z in_use some low left_y left_z.
                let some_w : 0 < blocks_in w_config.volumes v = let same = blocks_x in omega (arith, some, same) in
                let where_it = at_map e in_use in
                let put = log_placed w_config v Fmr f.map m1 sound some_w (fit_of (wide c) m1 stands.stands) loaded.log in
                let within : k < map_block_count f.map = let same = where_it.2 in let blocks = put.blocks in let long = loaded.log.run.long in omega (arith, low, same, blocks, long) in
                has_bytes e in_use k y within left_y ∙ sym (has_bytes e in_use k z within left_z);
          }

  -- ---- each volume

  module _ (l : Logs) (v : ℕ) (on : LogOn c v l m1) (know : Known c v l m1) (kept : log_trusted c.inner.config v Fmr ≡ true → l.fmr ≡ None → ⊥) (lt : v < length c.inner.config.volumes) where
    trusted_c : (i : Image) (x : Config) → Each new.leaves i → found new i ≡ Found x → (e : LogEntry) → InUse x v Fmr e → log_trusted c.inner.config v Fmr ≡ true
    trusted_c i x each is e in_use =
        (wide_shape c).trusted v Fmr (shape.trusted v Fmr ((it.kept.kin i x each is).shape.trusted v Fmr (let same = it.quiesces.shape.volumes in omega (arith, lt, same)) (in_use_trusts x v e in_use)))

    pub maps_rest : MapsRest v new
    maps_rest = record { each = λ i x each is clean. by i x each is clean l.fmr refl }
      where
        by : (i : Image) (x : Config) → Each new.leaves i → found new i ≡ Found x → stopped x v ≡ false → (o : Option Missed) → l.fmr ≡ o → MapsTell x v new
        by i x each is clean None none = record {
          so = λ e p q b y z w in_use has on_q inside low left off at_p at_q. absurd (kept (trusted_c i x each is e in_use) none);
          one = λ e k y z in_use some low left_y left_z. absurd (kept (trusted_c i x each is e in_use) none);
        }
        by i x each is clean (Some f) has_f = maps_tell i x each is v clean lt l on f has_f know

  pub alike_rest : (v : ℕ) → (v < length c.inner.config.volumes → ReadsOne w_config v m1) → AlikeRests v new
  alike_rest v reads = record {
    each = λ i x each is clean. record {
      so = λ p q b y z inside on_p on_q at_p at_q. let lt = low_of i x each is v clean inside.volume in (lives_agree i x each is v clean lt (reads lt)).so p q b y z inside on_p on_q at_p at_q;
    };
  }
