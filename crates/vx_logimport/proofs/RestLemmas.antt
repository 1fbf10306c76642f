-- What a group that was imported knows of a volume that stopped cleanly, by what disks tell of it.
use Rattle.std.proofs.Common.{◌≡◌, ◌∙◌, ◌⊎◌, inl, inr, ⊎_elim, ℕ, ◌+◌, ◌*◌, ◌/◌, ◌%◌, ◌<◌, Bool, true, false, List, IsTrue, length, refl, sym, ap, subst, arith}
use Rattle.std.specs.Prelude.{not, Some}
use Rattle.vx_bitmap.specs.Bits.{is_marked}
use Rattle.vx_config.specs.Checks.{blocks_of, is_sound}
use Rattle.vx_config.specs.declared.config.Config.{Config}
use Rattle.vx_config.specs.declared.entry.LogEntry.{LogEntry}
use Rattle.vx_config.specs.declared.entry.VolumeLog.TheVariants.{Fmr}
use Rattle.vx_copies.specs.Answers.{returned}
use Rattle.vx_copyfmt.specs.Imports.{Found}
use Rattle.vx_disk.specs.Shelf.{Each, Image, Lawful, Meaning}
use Rattle.vx_layout.specs.Places.{HasBlock, place}
use Rattle.vx_layout.proofs.Placing.{sound_apart}
use Rattle.vx_logs.specs.Held.{InUse}
use Rattle.vx_logs.specs.Marks.{stride_of}
use Rattle.vx_model.specs.Sizes.{map_blocks}
use Rattle.vx_maplog.specs.Logs.{log_of, is_used, used_or}
use Rattle.vx_volume.specs.Plexes.{Inside, active}
use Rattle.vx_volume.proofs.PlaceLemmas.{has_of}
use Rattle.vx_kept.specs.Choice.{live}
use Rattle.vx_kept.specs.Groups.{found}
use Rattle.vx_kept.specs.LogRuns.{log_trusted}
use Rattle.vx_kept.proofs.Chosen.{place_volumes}
use Rattle.vx_kept.proofs.Lasting.{cases_bool}
use Rattle.vx_kept.proofs.Narrower.{on_live}
use Rattle.vx_group.specs.Resumes.{CanImport, stopped}
use Rattle.vx_group.proofs.Standing.{sound_of}
use Rattle.vx_groupmaps.specs.Missing.{bit_in_maps}
use Rattle.vx_grouplogs.specs.Covering.{AllAlike, OnLogs}
use Rattle.vx_grouplogs.proofs.KnowActs.{logs_off_plex}
use Rattle.vx_grouplogs.proofs.LogPlaces.{logs_above}
use Rattle.vx_grouplogs.proofs.LogShape.{has_back, run_back}
use Rattle.vx_logimport.specs.Marked.{OnStopped, ResumedBy}
use Rattle.vx_logimport.specs.Rests.{AlikeRests, MapsRest, MapsTell}
use Rattle.vx_logimport.specs.declared.importing.Marked.{Marked}
use Rattle.vx_logimport.proofs.MarkLemmas.{not_lost}

-- by an entry that is trusted
pub trusted_in_use : (c : Config) (v : ℕ) (e : LogEntry) → log_of c v Fmr ≡ Some e → log_trusted c v Fmr ≡ true → InUse c v Fmr e
unfolding log_trusted
trusted_in_use c v e is used = record { is = is; kept = not_lost (log_of c v Fmr) e is used }

-- by the test of the code
pub used_in_use : (c : Config) (v : ℕ) (e : LogEntry) → log_of c v Fmr ≡ Some e → is_used c v Fmr ≡ true → InUse c v Fmr e
used_in_use c v e is used = record { is = is; kept = by e.lost (sym (ap used_or is) ∙ used) }
  where
    by : (b : Bool) → not b ≡ true → b ≡ false
    by true off = absurd (let clash : false ≡ true = off in cc)
    by false off = refl

pub in_use_trusts : (c : Config) (v : ℕ) (e : LogEntry) → InUse c v Fmr e → log_trusted c v Fmr ≡ true
unfolding log_trusted
in_use_trusts c v e it = ap used_or it.is ∙ ap not it.kept

module _ (may : List Bool) (old new : Meaning) (k : Marked) (law : Lawful old) (can : CanImport old) (it : ResumedBy may old k new) (v : ℕ) (clean : stopped it.config v ≡ false) where
  abbrev x : Config
  x = it.config

  abbrev opened : Config
  opened = it.opened

  abbrev d : Config
  d = k.core.config

  abbrev i : Image
  i = it.taken.image

  sound : is_sound d ≡ true
  sound = sound_of k.core new it.resumed.stands

  told : (u b : ℕ) (y : List ℕ) → old.leaves u b y → IsTrue old.tells
  told u b y left = elim (cases_bool old.tells) [
    | inl is ↦ is
    | inr no_one ↦ absurd (law.none no_one u b y left)
  ]

  image_left : IsTrue old.tells → Each old.leaves i
  image_left tell = λ u b. law.shown u b (it.taken.image u b) (it.taken.read tell u b)

  is_found : IsTrue old.tells → found old i ≡ Found x
  is_found tell = can.one it.taken.image it.taken.image it.taken.readable x (image_left tell) (image_left tell) it.taken.is

  at_x : (w p b : ℕ) → place d w p b ≡ place x w p b
  at_x w p b = it.shape.place w p b ∙ it.taken.opens.alike.shape.place w p b ∙ place_volumes (returned it.taken.readable x) x refl w p b

  in_x : (b : ℕ) → Inside d v b → Inside x v b
  in_x b inside = record {
    volume = let lt = inside.volume in let one = it.shape.volumes in let two : length opened.volumes ≡ length x.volumes = it.taken.opens.alike.shape.volumes in omega (arith, lt, one, two);
    within = let lt = inside.within in let one = it.shape.blocks v in let two : blocks_of opened.volumes v ≡ blocks_of x.volumes v = it.taken.opens.alike.shape.blocks v in omega (arith, lt, one, two);
  }

  live_x : (p : ℕ) → IsTrue (active d v p) → IsTrue (live x v p)
  unfolding live
  live_x p is_on = sym (it.taken.opens.alike.lives v p) ∙ on_live opened v p (it.on v p is_on)

  -- a block of the volume was not written
  not_put : (p b : ℕ) (y : List ℕ) → HasBlock d v p b → OnStopped x opened k.logs.items (place d v p b).0 (place d v p b).1 y → ⊥
  not_put p b y has put =
      let has_put : HasBlock opened put.volume put.plex put.number = has_of opened put.volume put.plex put.number put.is_on put.inside in
      let there : HasBlock d put.volume put.plex put.number = has_back d opened put.volume (sym (it.shape.frames put.volume)) (sym (it.shape.blocks put.volume)) put.plex put.number has_put in
      let one = (sound_apart d sound).one v p b put.volume put.plex put.number has there (sym (it.shape.place put.volume put.plex put.number ∙ put.at)) in
      let clash : false ≡ true = sym clean ∙ subst (λ (w : ℕ). stopped x w ≡ true) (sym one.0) put.unclean in
      cc

  -- it has what it had
  left_d : (p b : ℕ) (y : List ℕ) → HasBlock d v p b → new.leaves (place d v p b).0 (place d v p b).1 y → old.leaves (place d v p b).0 (place d v p b).1 y
  left_d p b y has left = ⊎_elim (λ was. was) (λ put. absurd (not_put p b y has put)) (it.only.leaves (place d v p b).0 (place d v p b).1 y ((sound_apart d sound).region v p b has).public left)

  -- and reads as it did
  read_x : (p b : ℕ) (y : List ℕ) → HasBlock d v p b → new.reads (place d v p b).0 (place d v p b).1 y → old.reads (place x v p b).0 (place x v p b).1 y
  read_x p b y has read = subst (λ (at : ℕ × ℕ). old.reads at.0 at.1 y) (at_x v p b) (elim (it.only.reads (place d v p b).0 (place d v p b).1 y ((sound_apart d sound).region v p b has).public read) [
    | inl (inl was) ↦ was
    | inl (inr put) ↦ absurd (not_put p b y has put)
    | inr down ↦ absurd (it.resumed.up down)
  ])

  left_x : (p b : ℕ) (y : List ℕ) → HasBlock d v p b → new.leaves (place d v p b).0 (place d v p b).1 y → old.leaves (place x v p b).0 (place x v p b).1 y
  left_x p b y has left = subst (λ (at : ℕ × ℕ). old.leaves at.0 at.1 y) (at_x v p b) (left_d p b y has left)

  -- its plexes are alike
  pub rests_alike : AlikeRests v old → AllAlike d v new
  rests_alike rests = record {
    one = λ b y z off one two.
        let has_one = has_of d v one.plex b one.is_on one.inside in
        let has_two = has_of d v two.plex b two.is_on two.inside in
        let at_one = left_x one.plex b y has_one one.value in
        let at_two = left_x two.plex b z has_two two.value in
        let tell = told (place x v one.plex b).0 (place x v one.plex b).1 y at_one in
        (rests.each i x (image_left tell) (is_found tell) clean).so one.plex two.plex b y z (in_x b one.inside) (live_x one.plex one.is_on) (live_x two.plex two.is_on) at_one at_two;
  }

  -- ---- its log of missed regions

  -- the entry in what was found
  pub record WasEntry (e : LogEntry) : Type 0 where
    pub entry : LogEntry
    pub used : InUse x v Fmr entry
    pub disk : entry.disk ≡ e.disk
    pub start : entry.start ≡ e.start
    pub blocks : entry.blocks ≡ e.blocks

  pub was_entry : (e : LogEntry) → InUse d v Fmr e → WasEntry e
  was_entry e in_use =
      let run = run_back opened d v Fmr (it.shape.logs v Fmr) e in_use.is in
      let used = trusted_in_use opened v run.entry run.is (it.shape.trusted v Fmr (in_use_trusts d v e in_use)) in
      record { entry = run.entry; used = record { is = sym (it.taken.opens.alike.logs v Fmr) ∙ used.is; kept = used.kept }; disk = run.disk; start = run.start; blocks = run.blocks }

  -- a block of it has what it had
  left_log : (e : LogEntry) (n : ℕ) (y : List ℕ) → InUse d v Fmr e → n < e.blocks → new.leaves e.disk (e.start + n) y → old.leaves e.disk (e.start + n) y
  left_log e n y in_use low left =
      let on : OnLogs d v e.disk (e.start + n) y = record { log = Fmr; entry = e; is = in_use.is; run = record { there = refl; first = omega arith; last = omega (arith, low) } } in
      ⊎_elim (λ was. was)
      (λ put.
      let has_put : HasBlock opened put.volume put.plex put.number = has_of opened put.volume put.plex put.number put.is_on put.inside in
      let there : HasBlock d put.volume put.plex put.number = has_back d opened put.volume (sym (it.shape.frames put.volume)) (sym (it.shape.blocks put.volume)) put.plex put.number has_put in
      let at : place d put.volume put.plex put.number ≡ (e.disk, e.start + n) = it.shape.place put.volume put.plex put.number ∙ put.at in
      absurd (logs_off_plex d sound v put.volume put.plex put.number y there (subst (λ (s : ℕ × ℕ). OnLogs d v s.0 s.1 y) (sym at) on)))
      (it.only.leaves e.disk (e.start + n) y (logs_above d sound v e.disk (e.start + n) y on) left)

  log_x : (e : LogEntry) (was : WasEntry e) (n : ℕ) (y : List ℕ) → old.leaves e.disk (e.start + n) y → old.leaves was.entry.disk (was.entry.start + n) y
  log_x e was n y left = subst (λ (s : ℕ). old.leaves was.entry.disk (s + n) y) (sym was.start) (subst (λ (u : ℕ). old.leaves u (e.start + n) y) (sym was.disk) left)

  same_stride : stride_of x v ≡ stride_of d v
  same_stride = ap (λ (n : ℕ). 4096 * n) (by (blocks_of x.volumes v) (blocks_of d.volumes v) (let one = it.shape.blocks v in let two : blocks_of opened.volumes v ≡ blocks_of x.volumes v = it.taken.opens.alike.shape.blocks v in omega (arith, one, two)))
    where
      by : (a b : ℕ) → a ≡ b → map_blocks a ≡ map_blocks b
      by a b is = ap map_blocks is

  same_bit : (p b : ℕ) → bit_in_maps d v p b ≡ bit_in_maps x v p b
  same_bit p b = ap (λ (n : ℕ). p * n + b / 64) (sym same_stride)

  has_x : (p b : ℕ) → HasBlock d v p b → HasBlock x v p b
  has_x p b has = has_back x d v (it.shape.frames v ∙ it.taken.opens.alike.shape.frames v) (it.shape.blocks v ∙ it.taken.opens.alike.shape.blocks v) p b has

  some_x : 0 < blocks_of d.volumes v → 0 < blocks_of x.volumes v
  some_x lt = let one = it.shape.blocks v in let two : blocks_of opened.volumes v ≡ blocks_of x.volumes v = it.taken.opens.alike.shape.blocks v in omega (arith, lt, one, two)

  pub rests_maps : MapsRest v old → MapsTell d v new
  rests_maps rests = record {
    so = λ e p q b y z w in_use has live_q inside low left off at_p at_q.
        let on_q = it.resumed.stands.on.each v q live_q in
        let has_q = has_of d v q b on_q inside in
        let was = was_entry e in_use in
        let n : ℕ = bit_in_maps d v p b / 4096 in
        let log = log_x e was n w (left_log e n w in_use low left) in
        let at_p' = read_x p b y has at_p in
        let at_q' = read_x q b z has_q at_q in
        let tell = told (place x v p b).0 (place x v p b).1 y (law.shown (place x v p b).0 (place x v p b).1 y at_p') in
        (rests.each i x (image_left tell) (is_found tell) clean).so was.entry p q b y z w was.used (has_x p b has) (live_x q on_q) (in_x b inside)
        (subst (λ (t : ℕ). t / 4096 < was.entry.blocks) (same_bit p b) (let same = was.blocks in omega (arith, low, same)))
        (subst (λ (t : ℕ). old.leaves was.entry.disk (was.entry.start + t / 4096) w) (same_bit p b) log) (subst (λ (t : ℕ). is_marked w (t % 4096) ≡ false) (same_bit p b) off) at_p' at_q';
    one = λ e n y z in_use some low left_y left_z.
        let was = was_entry e in_use in
        let at_y = log_x e was n y (left_log e n y in_use low left_y) in
        let at_z = log_x e was n z (left_log e n z in_use low left_z) in
        let tell = told was.entry.disk (was.entry.start + n) y at_y in
        (rests.each i x (image_left tell) (is_found tell) clean).one was.entry n y z was.used (some_x some) (let same = was.blocks in omega (arith, low, same)) at_y at_z;
  }

  -- each image has the configuration that was found
  pub image_config : (j : Image) → Each old.leaves j → found old j ≡ Found x
  image_config j each = can.one it.taken.image j it.taken.readable x (image_left (told 0 0 (j 0 0) (each 0 0))) each it.taken.is

  -- and the block of its log that is left
  pub image_block : MapsRest v old → (e : LogEntry) (in_use : InUse d v Fmr e) → 0 < blocks_of d.volumes v → (n : ℕ) (y : List ℕ) → n < e.blocks → new.leaves e.disk (e.start + n) y → (j : Image) → Each old.leaves j
      → j (was_entry e in_use).entry.disk ((was_entry e in_use).entry.start + n) ≡ y
  image_block rests e in_use some n y low left j each =
      let was = was_entry e in_use in
      (rests.each j x each (image_config j each) clean).one was.entry n (j was.entry.disk (was.entry.start + n)) y was.used (some_x some) (let same = was.blocks in omega (arith, low, same)) (each was.entry.disk (was.entry.start + n))
      (log_x e was n y (left_log e n y in_use low left))
