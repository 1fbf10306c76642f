-- What logs that were read tell of the plexes.
use Rattle.std.proofs.Common.{◌≡◌, ◌⊎◌, inl, inr, ⊎_elim, ℕ, ◌+◌, ◌/◌, ◌<◌, Bool, true, false, IsTrue, Option, Some, None, List, length, refl, ap, sym, ◌∙◌, subst, arith}
use Rattle.std.proofs.lemmas.Option.{same_Some}
use Rattle.std.specs.Prelude.{not, slice_get}
use Rattle.vx_bitmap.specs.Maps.{MapOn, map_block_count}
use Rattle.vx_bitmap.proofs.Blocks.{by_block}
use Rattle.vx_config.specs.Checks.{blocks_of, is_sound}
use Rattle.vx_config.specs.declared.config.Config.{Config}
use Rattle.vx_config.specs.declared.entry.LogEntry.{LogEntry}
use Rattle.vx_config.specs.declared.entry.VolumeLog.TheVariants.{Drl}
use Rattle.vx_copies.specs.Answers.{returned}
use Rattle.vx_copyfmt.specs.Imports.{Found}
use Rattle.vx_disk.specs.Shelf.{Each, Goes, Image, Lawful, Meaning, Nothing}
use Rattle.vx_disk.proofs.Causing.{Rose_after}
use Rattle.vx_drl.specs.Dirty.{Dirty, is_dirty}
use Rattle.vx_layout.specs.Places.{place}
use Rattle.vx_logs.specs.Held.{DrlFits, InUse}
use Rattle.vx_logs.specs.declared.logs.Logs.{Logs}
use Rattle.vx_maplog.specs.Logs.{log_of, used_or}
use Rattle.vx_model.specs.Content.{block_of}
use Rattle.vx_model.specs.Sizes.{map_blocks, regions_of}
use Rattle.vx_resync.specs.Picks.{DrlReaches, marked_or}
use Rattle.vx_volume.specs.Plexes.{DisksFit, Inside, active}
use Rattle.vx_kept.specs.Choice.{live}
use Rattle.vx_kept.specs.Groups.{found}
use Rattle.vx_kept.specs.LogRuns.{log_trusted}
use Rattle.vx_kept.proofs.Chosen.{place_volumes}
use Rattle.vx_kept.proofs.Lasting.{cases_bool}
use Rattle.vx_kept.proofs.Narrower.{on_live}
use Rattle.vx_group.specs.Mends.{AgreeElsewhere, MarksTell, drl_at, drl_or}
use Rattle.vx_group.specs.Resumes.{CanImport, IsTaken}
use Rattle.vx_group.specs.declared.taking.Plan.{Plan}
use Rattle.vx_group.proofs.Standing.{fit_of, low_Stands, sound_of}
use Rattle.vx_grouplogs.specs.Covering.{AlikeBut, DiskCovers}
use Rattle.vx_grouplogs.specs.On.{VolumeOn}
use Rattle.vx_grouplogs.proofs.CoverLemmas.{region_inside}
use Rattle.vx_logimport.specs.Covers.{ConfigCovers, DisksCover, DisksTell, LogSettled}
use Rattle.vx_logimport.specs.Marked.{LogRead, LogsRead, dirty_logs}
use Rattle.vx_logimport.specs.Rests.{rests}

pub not_lost : (o : Option LogEntry) (e : LogEntry) → o ≡ Some e → used_or o ≡ true → e.lost ≡ false
not_lost o e is used = by e.lost (sym (ap used_or is) ∙ used)
  where
    by : (b : Bool) → not b ≡ true → b ≡ false
    by true off = absurd (let clash : false ≡ true = off in cc)
    by false off = refl

trusted_used : (c : Config) (v : ℕ) → log_trusted c v Drl ≡ true → used_or (log_of c v Drl) ≡ true
unfolding log_trusted
trusted_used c v is = is

-- a plan behind calls that changed nothing
pub taken_later : (old m1 m2 : Meaning) (plan : Plan) → IsTaken old m1 plan → Goes Nothing m1 m2 → Lawful m1 → Lawful m2 → IsTaken old m2 plan
taken_later old m1 m2 plan taken goes before after = record {
  config = taken.config;
  up = record {
    readable = taken.up.readable;
    image = taken.up.image;
    blamed = λ u lt off. Rose_after (old.faults u) (m1.faults u) (m2.faults u) (taken.up.blamed u lt off) (goes.faults u);
    read = taken.up.read;
    is = taken.up.is;
    opens = taken.up.opens;
  };
  made = taken.made;
  stands = low_Stands plan.core Nothing m1 m2 goes (λ u b x none. absurd none) before after taken.stands;
}

module _ (old m1 : Meaning) (plan : Plan) (taken : IsTaken old m1 plan) (law : Lawful old) (law1 : Lawful m1) (goes : Goes Nothing old m1) (can : CanImport old) (may : List Bool) (cover : (v : ℕ) → DisksCover v old) (tells : (v : ℕ) → rests may v ≡ true → DisksTell v old) where
  abbrev opened : Config
  opened = plan.core.config

  abbrev x : Config
  x = taken.config

  abbrev i : Image
  i = taken.up.image

  pub sound : is_sound opened ≡ true
  sound = sound_of plan.core m1 taken.stands

  pub fit : DisksFit opened.disks m1
  fit = fit_of plan.core m1 taken.stands

  was_left : (u b : ℕ) (y : List ℕ) → m1.leaves u b y → old.leaves u b y
  was_left u b y left = ⊎_elim (λ was. was) (λ none. absurd none) (goes.leaves u b y left)

  told : (u b : ℕ) (y : List ℕ) → old.leaves u b y → IsTrue old.tells
  told u b y left = elim (cases_bool old.tells) [
    | inl is ↦ is
    | inr not ↦ absurd (law.none not u b y left)
  ]

  image_left : IsTrue old.tells → Each old.leaves i
  image_left tell = λ u b. law.shown u b (taken.up.image u b) (taken.up.read tell u b)

  is_found : IsTrue old.tells → found old i ≡ Found x
  is_found tell = can.one taken.up.image taken.up.image taken.up.readable x (image_left tell) (image_left tell) taken.up.is

  covers : (v : ℕ) → IsTrue old.tells → ConfigCovers x v old
  covers v tell = (cover v).covers i x (image_left tell) (is_found tell)

  settled : (v : ℕ) → rests may v ≡ true → IsTrue old.tells → LogSettled x v old
  settled v so tell = (tells v so).settled i x (image_left tell) (is_found tell)

  at_x : (v p k : ℕ) → place opened v p k ≡ place x v p k
  at_x v p k = taken.up.opens.alike.shape.place v p k ∙ place_volumes (returned taken.up.readable x) x refl v p k

  in_x : (v k : ℕ) → Inside opened v k → Inside x v k
  in_x v k inside = record {
    volume = let lt = inside.volume in let same : length opened.volumes ≡ length x.volumes = taken.up.opens.alike.shape.volumes in omega (arith, lt, same);
    within = let lt = inside.within in let same : blocks_of opened.volumes v ≡ blocks_of x.volumes v = taken.up.opens.alike.shape.blocks v in omega (arith, lt, same);
  }

  live_x : (v p : ℕ) → IsTrue (active opened v p) → IsTrue (live x v p)
  unfolding live
  live_x v p is_on = sym (taken.up.opens.alike.lives v p) ∙ on_live opened v p is_on

  in_use : (v : ℕ) (e : LogEntry) → log_of opened v Drl ≡ Some e → used_or (log_of opened v Drl) ≡ true → InUse x v Drl e
  in_use v e is used = record { is = sym (taken.up.opens.alike.logs v Drl) ∙ is; kept = not_lost (log_of opened v Drl) e is used }

  left_x : (v p k : ℕ) (y : List ℕ) → m1.leaves (place opened v p k).0 (place opened v p k).1 y → old.leaves (place x v p k).0 (place x v p k).1 y
  left_x v p k y left = subst (λ (at : ℕ × ℕ). old.leaves at.0 at.1 y) (at_x v p k) (was_left (place opened v p k).0 (place opened v p k).1 y left)

  -- the log on the disks covers
  disk_of : (v : ℕ) → log_trusted opened v Drl ≡ true → DiskCovers opened v m1
  disk_of v trusted = record {
    so = λ e b p q y z w is inside on_p on_q left off at_p at_q.
        let tell : IsTrue old.tells = told (place x v p b).0 (place x v p b).1 y (left_x v p b y at_p) in
        (covers v tell).so e p q b y z w (in_use v e is (trusted_used opened v trusted)) (in_x v b inside) (live_x v p on_p) (live_x v q on_q)
        (was_left e.disk (e.start + (b / 64) / 4096) w left) off (left_x v p b y at_p) (left_x v q b z at_q);
  }

  -- ---- a log that was read
  module _ (good : ℕ) (v : ℕ) (d : Dirty) (m2 : Meaning) (read : LogRead good may opened v (Some d) old m2) where
    abbrev e : LogEntry
    e = read.1.log.entry

    e_used : InUse x v Drl e
    e_used = in_use v read.1.log.entry read.1.log.is read.0

    -- a block of the log as it was read may be left
    block_left : IsTrue old.tells → (k : ℕ) → k < map_block_count d.map → old.leaves e.disk (e.start + k) (block_of d.map.bytes k)
    block_left tell k lt =
        subst (λ (u : ℕ). old.leaves u (read.1.log.entry.start + k) (block_of d.map.bytes k)) read.1.log.run.there
        (subst (λ (n : ℕ). old.leaves d.map.unit (n + k) (block_of d.map.bytes k)) read.1.log.run.begins
        (law.shown d.map.unit (d.map.first + k) (block_of d.map.bytes k) (read.2.each tell k lt)))

    alike_of : AlikeBut opened v (is_dirty d) m1
    alike_of = record {
      one = λ b y z off one two.
          let tell : IsTrue old.tells = told (place x v one.plex b).0 (place x v one.plex b).1 y (left_x v one.plex b y one.value) in
          let long = read.1.log.run.long in
          let regions = read.1.regions in
          let lt = region_inside (blocks_of opened.volumes v) b one.inside.within in
          let low : (b / 64) / 4096 < map_block_count d.map = omega (arith, lt, regions, long) in
          (covers v tell).so e one.plex two.plex b y z (block_of d.map.bytes ((b / 64) / 4096)) e_used (in_x v b one.inside) (live_x v one.plex one.is_on) (live_x v two.plex two.is_on)
          (block_left tell ((b / 64) / 4096) low) (sym (by_block d.map.bytes (b / 64)) ∙ off) (left_x v one.plex b y one.value) (left_x v two.plex b z two.value);
    }

    map_of : MapOn d.map m1
    map_of = record {
      each = λ k lt. record {
        only = λ y left.
            let was = was_left d.map.unit (d.map.first + k) y left in
            let tell : IsTrue old.tells = told d.map.unit (d.map.first + k) y was in
            let long = read.1.log.run.long in
            let low : k < map_blocks (blocks_of opened.volumes v) = omega (arith, lt, long) in
            (settled v read.5 tell).one read.1.log.entry k y (block_of d.map.bytes k) e_used (subst (λ (n : ℕ). k < map_blocks n) (taken.up.opens.alike.shape.blocks v) low)
            (subst (λ (u : ℕ). old.leaves u (read.1.log.entry.start + k) y) read.1.log.run.there (subst (λ (n : ℕ). old.leaves d.map.unit (n + k) y) read.1.log.run.begins was)) (block_left tell k lt);
      };
    }

  on_none : (v : ℕ) → VolumeOn opened v (dirty_logs None) m1
  on_none v = record {
    fits = record { drl = λ d is. absurd (let clash : None ≡ Some d = is in cc); fmr = λ f is. absurd (let clash : None ≡ Some f = is in cc) };
    stands = record { drl = λ d is. absurd (let clash : None ≡ Some d = is in cc); fmr = λ f is. absurd (let clash : None ≡ Some f = is in cc) };
    memory = record { so = λ d is. absurd (let clash : None ≡ Some d = is in cc) };
    disk = disk_of v;
  }

  on_read : (good v : ℕ) (o : Option Dirty) (m2 : Meaning) → LogRead good may opened v o old m2 → VolumeOn opened v (dirty_logs o) m1
  on_read good v None m2 read = on_none v
  on_read good v (Some g) m2 read = record {
    fits = record { drl = λ d is. subst (λ (h : Dirty). DrlFits opened v h) (same_Some g d is) read.1; fmr = λ f is. absurd (let clash : None ≡ Some f = is in cc) };
    stands = record { drl = λ d is. subst (λ (h : Dirty). MapOn h.map m1) (same_Some g d is) (map_of good v g m2 read); fmr = λ f is. absurd (let clash : None ≡ Some f = is in cc) };
    memory = record { so = λ d is. subst (λ (h : Dirty). AlikeBut opened v (is_dirty h) m1) (same_Some g d is) (alike_of good v g m2 read) };
    disk = disk_of v;
  }

  -- ---- what the copies go by

  reach_by : (good v n : ℕ) (o : Option Dirty) (m2 : Meaning) → n ≡ regions_of (blocks_of opened.volumes v) → LogRead good may opened v o old m2 → DrlReaches n o
  reach_by good v n None m2 is read = tt
  reach_by good v n (Some d) m2 is read = let regions = read.1.regions in omega (arith, is, regions)

  agree_by : (good v : ℕ) (o : Option Dirty) (m2 : Meaning) → LogRead good may opened v o old m2 → AgreeElsewhere opened v (marked_or o) m1
  agree_by good v None m2 read = record { same = λ p q k y z inside off on_p on_q at_p at_q. absurd (let clash : true ≡ false = off in cc) }
  agree_by good v (Some d) m2 read = record {
    same = λ p q k y z inside off on_p on_q at_p at_q.
        (alike_of good v d m2 read).one k y z off (record { inside = inside; plex = p; is_on = on_p; value = law1.shown (place opened v p k).0 (place opened v p k).1 y at_p })
        (record { inside = inside; plex = q; is_on = on_q; value = law1.shown (place opened v q k).0 (place opened v q k).1 z at_q });
  }

  module _ (good : ℕ) (logs : List Logs) (m2 : Meaning) (read : LogsRead good may opened logs old m2) where
    pub on_opened : (v : ℕ) → VolumeOn opened v (dirty_logs (drl_at logs v)) m1
    on_opened v = by (slice_get logs v) refl
      where
        by : (q : Option Logs) → slice_get logs v ≡ q → VolumeOn opened v (dirty_logs (drl_or q)) m1
        by None is = on_none v
        by (Some l) is = on_read good v l.drl m2 (read.each v l is)

    reach_of : (v n : ℕ) → n ≡ regions_of (blocks_of opened.volumes v) → DrlReaches n (drl_at logs v)
    reach_of v n at = by (slice_get logs v) refl
      where
        by : (q : Option Logs) → slice_get logs v ≡ q → DrlReaches n (drl_or q)
        by None is = tt
        by (Some l) is = reach_by good v n l.drl m2 at (read.each v l is)

    agree_of : (v : ℕ) → AgreeElsewhere opened v (marked_or (drl_at logs v)) m1
    agree_of v = by (slice_get logs v) refl
      where
        by : (q : Option Logs) → slice_get logs v ≡ q → AgreeElsewhere opened v (marked_or (drl_or q)) m1
        by None is = record { same = λ p q k y z inside off on_p on_q at_p at_q. absurd (let clash : true ≡ false = off in cc) }
        by (Some l) is = agree_by good v l.drl m2 (read.each v l is)

    pub marks_of : (flags : List Bool) → MarksTell opened flags logs m1
    marks_of flags = record {
      reach = λ v lt. reach_of v (regions_of (blocks_of opened.volumes v)) refl;
      agree = λ v lt mark. agree_of v;
    }
