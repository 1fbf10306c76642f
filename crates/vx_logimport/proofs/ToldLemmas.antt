-- What the disks of a group tell behind a crash, where its logs stood.
use Rattle.std.proofs.Common.{◌≡◌, ◌⊎◌, ◌∙◌, inl, inr, ℕ, ◌+◌, ◌/◌, ◌<◌, ◌≤◌, true, false, Option, Some, None, List, length, refl, sym, ap, subst, arith}
use Rattle.vx_config.specs.Checks.{blocks_of}
use Rattle.vx_config.specs.declared.config.Config.{Config}
use Rattle.vx_config.specs.declared.entry.LogEntry.{LogEntry}
use Rattle.vx_config.specs.declared.entry.VolumeLog.TheVariants.{Drl}
use Rattle.vx_copyfmt.specs.Imports.{Found}
use Rattle.vx_disk.specs.Shelf.{Each, Image, Meaning}
use Rattle.vx_drl.specs.Dirty.{Dirty}
use Rattle.vx_kept.specs.Groups.{found}
use Rattle.vx_kept.specs.Keeping.{Kin}
use Rattle.vx_kept.specs.LogRuns.{log_trusted}
use Rattle.vx_kept.proofs.Low.{found_same}
use Rattle.vx_layout.specs.Places.{place}
use Rattle.vx_logs.specs.Held.{InUse}
use Rattle.vx_logs.specs.declared.logs.Logs.{Logs}
use Rattle.vx_maplog.specs.Logs.{log_of}
use Rattle.vx_model.specs.Content.{block_of}
use Rattle.vx_model.specs.Sizes.{map_blocks}
use Rattle.vx_volume.specs.Plexes.{Inside}
use Rattle.vx_group.specs.Holding.{GroupStands, wide}
use Rattle.vx_group.specs.Resumes.{AtRest}
use Rattle.vx_group.specs.declared.group_core.GroupCore.{GroupCore}
use Rattle.vx_group.proofs.HoldLemmas.{wide_shape}
use Rattle.vx_group.proofs.TrustingLemmas.{used_trusted}
use Rattle.vx_grouplogs.specs.On.{VolumeOn}
use Rattle.vx_grouplogs.proofs.LogShape.{run_back}
use Rattle.vx_logimport.specs.Covers.{ConfigCovers, DisksCover, DisksTell, LogSettled}

the_entry : (o : Option LogEntry) (f h : LogEntry) → o ≡ Some f → o ≡ Some h → h ≡ f
the_entry o f h one two = let both : Some h ≡ Some f = sym two ∙ one in cc

covers_less : (x : Config) (v : ℕ) (m m' : Meaning) → ((u b : ℕ) (y : List ℕ) → m'.leaves u b y → m.leaves u b y) → ConfigCovers x v m → ConfigCovers x v m'
covers_less x v m m' less covers = record {
  so = λ e p q b y z w in_use inside live_p live_q left off at_p at_q.
      covers.so e p q b y z w in_use inside live_p live_q (less e.disk (e.start + (b / 64) / 4096) w left) off (less (place x v p b).0 (place x v p b).1 y at_p) (less (place x v q b).0 (place x v q b).1 z at_q);
}

settled_less : (x : Config) (v : ℕ) (m m' : Meaning) → ((u b : ℕ) (y : List ℕ) → m'.leaves u b y → m.leaves u b y) → LogSettled x v m → LogSettled x v m'
settled_less x v m m' less settled = record {
  one = λ e k y z in_use low left_y left_z. settled.one e k y z in_use low (less e.disk (e.start + k) y left_y) (less e.disk (e.start + k) z left_z);
}

-- an image of a group, by its own configuration
module _ (c x : Config) (v : ℕ) (l : Logs) (m : Meaning) (lt : v < length c.volumes) (on : VolumeOn c v l m) (kin : Kin c x) where
  pub covers_of : ConfigCovers x v m
  covers_of = record {
    so = λ e p q b y z w in_use inside live_p live_q left off at_p at_q.
        let trusted = kin.shape.trusted v Drl lt (used_trusted x v e in_use) in
        let run = run_back c x v Drl (kin.shape.logs v Drl lt) e in_use.is in
        let there : Inside c v b = record { volume = lt; within = omega (arith, inside.within, kin.shape.blocks v lt) } in
        let left' : m.leaves run.entry.disk (run.entry.start + (b / 64) / 4096) w = subst (λ (n : ℕ). m.leaves run.entry.disk (n + (b / 64) / 4096) w) (sym run.start) (subst (λ (u : ℕ). m.leaves u (e.start + (b / 64) / 4096) w) (sym run.disk) left) in
        (on.disk trusted).so run.entry b p q y z w run.is there (kin.on v p lt live_p) (kin.on v q lt live_q) left' off
        (subst (λ (at : ℕ × ℕ). m.leaves at.0 at.1 y) (kin.shape.place v p b lt) at_p) (subst (λ (at : ℕ × ℕ). m.leaves at.0 at.1 z) (kin.shape.place v q b lt) at_q);
  }

  module _ (kept : log_trusted c v Drl ≡ true → l.drl ≡ None → ⊥) where
    -- a block of the log has what it has in memory
    only_one : (d : Dirty) → l.drl ≡ Some d → (e : LogEntry) (k : ℕ) (y : List ℕ) → log_of x v Drl ≡ Some e → k < map_blocks (blocks_of x.volumes v) → m.leaves e.disk (e.start + k) y → y ≡ block_of d.map.bytes k
    only_one d at e k y is low left =
        let run = run_back c x v Drl (kin.shape.logs v Drl lt) e is in
        let log = (on.fits.drl d at).log in
        let same : run.entry ≡ log.entry = the_entry (log_of c v Drl) log.entry run.entry log.is run.is in
        let unit : e.disk ≡ d.map.unit = sym run.disk ∙ ap (λ (n : LogEntry). n.disk) same ∙ sym log.run.there in
        let start : e.start ≡ d.map.first = sym run.start ∙ ap (λ (n : LogEntry). n.start) same ∙ sym log.run.begins in
        let long = log.run.long in
        let low_c : k < map_blocks (blocks_of c.volumes v) = subst (λ (n : ℕ). k < map_blocks n) (kin.shape.blocks v lt) low in
        ((on.stands.drl d at).each k (omega (arith, low_c, long))).only y
        (subst (λ (n : ℕ). m.leaves d.map.unit (n + k) y) start (subst (λ (u : ℕ). m.leaves u (e.start + k) y) unit left))

    pub settled_of : LogSettled x v m
    settled_of = record {
      one = λ e k y z in_use low left_y left_z. by e k y z in_use low left_y left_z l.drl refl;
    }
      where
        by : (e : LogEntry) (k : ℕ) (y z : List ℕ) → InUse x v Drl e → k < map_blocks (blocks_of x.volumes v) → m.leaves e.disk (e.start + k) y → m.leaves e.disk (e.start + k) z → (o : Option Dirty) → l.drl ≡ o → y ≡ z
        by e k y z in_use low left_y left_z None none = absurd (kept (kin.shape.trusted v Drl lt (used_trusted x v e in_use)) none)
        by e k y z in_use low left_y left_z (Some d) at = only_one d at e k y in_use.is low left_y ∙ sym (only_one d at e k z in_use.is low left_z)

-- fewer images tell what all told
pub cover_less : (v : ℕ) (m m' : Meaning) → m'.units ≡ m.units → ((u : ℕ) → m'.size u ≡ m.size u) → ((u b : ℕ) (y : List ℕ) → m'.leaves u b y → m.leaves u b y) → DisksCover v m → DisksCover v m'
cover_less v m m' units size less tells = record {
  covers = λ i x each is. covers_less x v m m' less (tells.covers i x (λ u b. less u b (i u b) (each u b)) (sym (found_same m m' units size (λ u. true) i) ∙ is));
}

pub tells_less : (v : ℕ) (m m' : Meaning) → m'.units ≡ m.units → ((u : ℕ) → m'.size u ≡ m.size u) → ((u b : ℕ) (y : List ℕ) → m'.leaves u b y → m.leaves u b y) → DisksTell v m → DisksTell v m'
tells_less v m m' units size less tells = record {
  covers = λ i x each is. covers_less x v m m' less (tells.covers i x (λ u b. less u b (i u b) (each u b)) (sym (found_same m m' units size (λ u. true) i) ∙ is));
  settled = λ i x each is. settled_less x v m m' less (tells.settled i x (λ u b. less u b (i u b) (each u b)) (sym (found_same m m' units size (λ u. true) i) ∙ is));
}

-- where a crash leaves one value of each block
pub rest_settled : (x : Config) (v : ℕ) (m : Meaning) → AtRest m → LogSettled x v m
rest_settled x v m rest = record { one = λ e k y z in_use low left_y left_z. rest.one e.disk (e.start + k) y z left_y left_z }

-- behind a crash, by the log in memory before it
module _ (core : GroupCore) (v : ℕ) (l : Logs) (m m' : Meaning) (stands : GroupStands core m) (lt : v < length core.inner.config.volumes) (on : VolumeOn (wide core).config v l m)
    (units : m'.units ≡ m.units) (size : (u : ℕ) → m'.size u ≡ m.size u) (less : (u b : ℕ) (y : List ℕ) → m'.leaves u b y → m.leaves u b y) where
  in_wide : v < length (wide core).config.volumes
  in_wide = let count = (wide_shape core).volumes in omega (arith, count, lt)

  was_each : (i : Image) → Each m'.leaves i → Each m.leaves i
  was_each i each = λ u b. less u b (i u b) (each u b)

  was_found : (i : Image) (x : Config) → found m' i ≡ Found x → found m i ≡ Found x
  was_found i x is = sym (found_same m m' units size (λ u. true) i) ∙ is

  kin_of : (i : Image) (x : Config) → Each m'.leaves i → found m' i ≡ Found x → Kin (wide core).config x
  kin_of i x each is = stands.stands.kept.kin i x (was_each i each) (was_found i x is)

  pub group_told : (log_trusted (wide core).config v Drl ≡ true → l.drl ≡ None → ⊥) ⊎ AtRest m' → DisksTell v m'
  group_told why = record {
    covers = λ i x each is. covers_less x v m m' less (covers_of (wide core).config x v l m in_wide on (kin_of i x each is));
    settled = λ i x each is. by i x each is why;
  }
    where
      by : (i : Image) (x : Config) → Each m'.leaves i → found m' i ≡ Found x → (log_trusted (wide core).config v Drl ≡ true → l.drl ≡ None → ⊥) ⊎ AtRest m' → LogSettled x v m'
      by i x each is (inl kept) = settled_less x v m m' less (settled_of (wide core).config x v l m in_wide on (kin_of i x each is) kept)
      by i x each is (inr rest) = rest_settled x v m' rest

-- of a volume that memory has not no image trusts a log
pub beyond_told : (core : GroupCore) (v : ℕ) (m m' : Meaning) → GroupStands core m → length (wide core).config.volumes ≤ v → m'.units ≡ m.units → ((u : ℕ) → m'.size u ≡ m.size u) → ((u b : ℕ) (y : List ℕ) → m'.leaves u b y → m.leaves u b y) → DisksTell v m'
beyond_told core v m m' stands le units size less = record {
  covers = λ i x each is. record { so = λ e p q b y z w in_use inside live_p live_q left off at_p at_q. absurd (none i x each is e in_use) };
  settled = λ i x each is. record { one = λ e k y z in_use low left_y left_z. absurd (none i x each is e in_use) };
}
  where
    none : (i : Image) (x : Config) → Each m'.leaves i → found m' i ≡ Found x → (e : LogEntry) → InUse x v Drl e → ⊥
    none i x each is e in_use =
        let kin = stands.stands.kept.kin i x (λ u b. less u b (i u b) (each u b)) (sym (found_same m m' units size (λ u. true) i) ∙ is) in
        let clash : true ≡ false = sym (used_trusted x v e in_use) ∙ kin.shape.beyond v Drl le in cc
