-- The maps of missed regions that an import took up are those of the disks as they were.
use Rattle.std.proofs.Common.{◌≡◌, ◌∙◌, inl, inr, ℕ, zero, suc, ◌+◌, ◌*◌, ◌/◌, ◌%◌, ◌<◌, Bool, true, false, IsTrue, Option, Some, None, List, [], ◌∷◌, length, refl, sym, ap, subst, arith}
use Rattle.std.specs.Prelude.{not, slice_get}
use Rattle.std.proofs.lemmas.Option.{slice_get_within}
use Rattle.vx_bitmap.specs.Bits.{is_marked}
use Rattle.vx_bitmap.specs.Maps.{map_block_count}
use Rattle.vx_bitmap.proofs.Blocks.{by_block}
use Rattle.vx_config.specs.Checks.{blocks_of, is_sound, plexes_of}
use Rattle.vx_config.specs.declared.config.Config.{Config}
use Rattle.vx_config.specs.declared.entry.DiskEntry.{DiskEntry}
use Rattle.vx_config.specs.declared.entry.LogEntry.{LogEntry}
use Rattle.vx_config.specs.declared.entry.VolumeLog.TheVariants.{Fmr}
use Rattle.vx_copies.specs.Answers.{good_set}
use Rattle.vx_copies.specs.Marks.{failed_at}
use Rattle.vx_copies.proofs.Goods.{good_bit}
use Rattle.vx_copyfmt.specs.Imports.{Found}
use Rattle.vx_disk.specs.Blocks.{bit_at}
use Rattle.vx_disk.specs.Shelf.{Each, Image, Lawful, Meaning}
use Rattle.vx_fmr.specs.Missed.{Missed, has_missed, missed_place}
use Rattle.vx_group.specs.Resumes.{CanImport, stopped}
use Rattle.vx_group.proofs.Standing.{fit_of, sound_of}
use Rattle.vx_groupmaps.specs.Knowing.{NotesMore}
use Rattle.vx_groupmaps.proofs.MapPlaces.{bit_low, last_low}
use Rattle.vx_grouplogs.proofs.MapLemmas.{map_low}
use Rattle.vx_kept.specs.Groups.{found}
use Rattle.vx_logimport.specs.Marked.{ResumedBy, log_within, within_or}
use Rattle.vx_logimport.specs.Rests.{LogsTell, MapsRest}
use Rattle.vx_logimport.specs.declared.importing.Marked.{Marked}
use Rattle.vx_logimport.specs.declared.rested.Rested.{Rested}
use Rattle.vx_logimport.proofs.RestLemmas.{WasEntry, image_block, image_config, used_in_use, was_entry}
use Rattle.vx_logs.specs.Held.{InUse, logged_in}
use Rattle.vx_logs.specs.Marks.{stride_of}
use Rattle.vx_logs.specs.declared.logs.Logs.{Logs}
use Rattle.vx_model.specs.Content.{block_of}
use Rattle.vx_model.specs.Sizes.{map_blocks, regions_of}
use Rattle.vx_loggroup.specs.Moving.{IsThere, MapTaken, MapsTaken}
use Rattle.vx_loggroup.specs.Taking.{MapWas, MapsShrink, MapsWere, MapsWhy}
use Rattle.vx_loggroup.proofs.NewLemmas.{HasMaps, has_maps}
use Rattle.vx_loggroup.proofs.SetLemmas.{item_at}

-- a disk of the set of those that are held as good
failed_low : (ds : List DiskEntry) (u : ℕ) → failed_at ds u ≡ true → u < length ds
failed_low [] u is = absurd (let clash : false ≡ true = is in cc)
failed_low (d ∷ ds) zero is = omega arith
failed_low (d ∷ ds) (suc u) is = let low = failed_low ds u is in omega (arith, low)

good_held : (ds : List DiskEntry) (u : ℕ) → bit_at (good_set ds) u ≡ true → failed_at ds u ≡ false
good_held ds u on = by (failed_at ds u) refl
  where
    by : (x : Bool) → failed_at ds u ≡ x → failed_at ds u ≡ false
    by false is = is
    by true is = absurd (let clash : true ≡ false = sym on ∙ good_bit ds u (failed_low ds u is) ∙ ap not is in cc)

-- a map that is as it was
same_map : (f g : Missed) (p r : ℕ) → NotesMore (λ q. false) 0 0 f g → p < f.plexes → r < f.stride → has_missed g p r ≡ has_missed f p r
same_map f g p r notes plex region = by (has_missed f p r) refl (has_missed g p r) refl
  where
    by : (a : Bool) → has_missed f p r ≡ a → (b : Bool) → has_missed g p r ≡ b → has_missed g p r ≡ has_missed f p r
    by true was b now = notes.stay p r plex region was ∙ sym was
    by false was false now = now ∙ sym was
    by false was true now = elim (notes.only p r plex region now) [
      | inl had ↦ now ∙ sym had
      | inr run ↦ absurd (let clash : false ≡ true = run.0 in cc)
    ]

module _ (may : List Bool) (old m1 : Meaning) (k : Marked) (law0 : Lawful old) (can : CanImport old) (it : ResumedBy may old k m1) where
  abbrev d : Config
  d = k.core.config

  sound : is_sound d ≡ true
  sound = sound_of k.core m1 it.resumed.stands

  told : (i : Image) → Each old.leaves i → IsTrue m1.tells
  told i each = it.goes.tells ∙ by old.tells refl
    where
      by : (t : Bool) → old.tells ≡ t → old.tells ≡ true
      by true is = is
      by false is = absurd (law0.none is 0 0 (i 0 0) (each 0 0))

  module _ (v : ℕ) (f : Missed) (was : MapWas d v f m1) (clean : stopped it.config v ≡ false) (rest : MapsRest v old) (i : Image) (each : Each old.leaves i) where
    abbrev e : LogEntry
    e = was.fits.log.entry

    in_use : InUse d v Fmr e
    in_use = used_in_use d v e was.fits.log.is was.used

    abbrev entry : WasEntry may old m1 k law0 can it v clean e
    entry = was_entry may old m1 k law0 can it v clean e in_use

    low_entry : (n : ℕ) → n < map_block_count f.map → n < e.blocks
    low_entry n low = let few = map_low d sound v was.some e f m1 (fit_of k.core m1 it.resumed.stands) was.fits.log.is was.fits in omega (arith, low, few)

    left_entry : (n : ℕ) → n < map_block_count f.map → m1.leaves e.disk (e.start + n) (block_of f.map.bytes n)
    left_entry n low =
        subst (λ (s : ℕ). m1.leaves e.disk (s + n) (block_of f.map.bytes n)) was.fits.log.run.begins
        (subst (λ (u : ℕ). m1.leaves u (f.map.first + n) (block_of f.map.bytes n)) was.fits.log.run.there (was.left (told i each) n low))

    -- a block of the log in the image
    block_is : (n : ℕ) → n < map_block_count f.map → i entry.entry.disk (entry.entry.start + n) ≡ block_of f.map.bytes n
    block_is n low = image_block may old m1 k law0 can it v clean rest e in_use was.some n (block_of f.map.bytes n) (low_entry n low) (left_entry n low) i each

    bit_is : (p r : ℕ) → IsThere d v p r → has_missed f p r ≡ logged_in entry.entry i (p * stride_of d v + r)
    bit_is p r there =
        let n : ℕ = missed_place f p r in
        let plex : p < f.plexes = let low = there.plex in let count = was.fits.plexes in omega (arith, low, count) in
        let region : r < f.stride = last_low d sound v was.some f was.fits r there.region in
        by_block f.map.bytes n ∙ ap (λ (x : List ℕ). is_marked x (n % 4096)) (sym (block_is (n / 4096) (bit_low d sound v was.some f was.fits p r plex region)))
        ∙ ap (λ (s : ℕ). logged_in entry.entry i (p * s + r)) was.fits.stride

    -- the disk of the log was held as good
    is_good : log_within k.good d v Fmr ≡ true → failed_at it.config.disks entry.entry.disk ≡ false
    is_good within =
        good_held it.config.disks entry.entry.disk
        (ap (λ (u : ℕ). bit_at (good_set it.config.disks) u) entry.disk ∙ ap (λ (g : ℕ). bit_at g e.disk) (sym it.good) ∙ sym (ap (within_or k.good) was.fits.log.is) ∙ within)

    pub map_taken : log_within k.good d v Fmr ≡ true → (x : Config) → it.config ≡ x → MapTaken x d v f i
    map_taken within x same = record {
      entry = entry.entry;
      used = subst (λ (y : Config). InUse y v Fmr entry.entry) same entry.used;
      good = subst (λ (y : Config). failed_at y.disks entry.entry.disk ≡ false) same (is_good within);
      same = bit_is;
    }

  module _ (r : Rested) (tells : LogsTell r old) (ls js : List Logs) (why : MapsWhy k.good d k.stopped r ls) (were : MapsWere d ls m1) (shrink : MapsShrink ls js) (to : Config) (count : (v : ℕ) → plexes_of to v ≡ plexes_of d v) (blocks : (v : ℕ) → blocks_of to.volumes v ≡ blocks_of d.volumes v)
      (many : (v : ℕ) (l : Logs) → slice_get ls v ≡ Some l → v < length d.volumes) where
    there_was : (v p n : ℕ) → IsThere to v p n → IsThere d v p n
    there_was v p n there = record { plex = subst (λ (m : ℕ). p < m) (count v) there.plex; region = subst (λ (m : ℕ). n < regions_of m) (blocks v) there.region }

    clean_of : (v : ℕ) (l : Logs) (f : Missed) → slice_get ls v ≡ Some l → l.fmr ≡ Some f → stopped it.config v ≡ false
    clean_of v l f at has = sym (it.flags v (many v l at)) ∙ (why.each v l at (λ none. let clash : None ≡ Some f = sym none ∙ has in cc)).clean

    rest_of : (v : ℕ) (l : Logs) (f : Missed) → slice_get ls v ≡ Some l → l.fmr ≡ Some f → MapsRest v old
    rest_of v l f at has = tells.maps v (why.each v l at (λ none. let clash : None ≡ Some f = sym none ∙ has in cc)).maps

    within_of : (v : ℕ) (l : Logs) (f : Missed) → slice_get ls v ≡ Some l → l.fmr ≡ Some f → log_within k.good d v Fmr ≡ true
    within_of v l f at has = (why.each v l at (λ none. let clash : None ≡ Some f = sym none ∙ has in cc)).within

    config_is : (v : ℕ) → stopped it.config v ≡ false → (i : Image) (x : Config) → Each old.leaves i → found old i ≡ Found x → it.config ≡ x
    config_is v clean i x each is = let both : Found it.config ≡ Found x = sym (image_config may old m1 k law0 can it v clean i each) ∙ is in cc

    took_one : (v : ℕ) (g : Missed) (i : Image) (x : Config) → Each old.leaves i → found old i ≡ Found x → (j : Logs) → slice_get js v ≡ Some j → j.fmr ≡ Some g → (l : Logs) → slice_get ls v ≡ Some l → (o : Option Missed) → l.fmr ≡ o → MapTaken x to v g i
    took_one v g i x each is j now has l at None none = absurd (let clash : None ≡ Some g = sym (shrink.each v l j at now none) ∙ has in cc)
    took_one v g i x each is j now has l at (Some f) had =
        let was = were.each v l f at had in
        let clean = clean_of v l f at had in
        let taken = map_taken v f was clean (rest_of v l f at had) i each (within_of v l f at had) x (config_is v clean i x each is) in
        record {
          entry = taken.entry;
          used = taken.used;
          good = taken.good;
          same = λ p n there.
              let old_there = there_was v p n there in
              let plex : p < f.plexes = (let low = old_there.plex in let many = was.fits.plexes in omega (arith, low, many)) in
              let region : n < f.stride = last_low d sound v was.some f was.fits n old_there.region in
              same_map f g p n ((shrink.stay v l j at now).each f g had has) plex region ∙ taken.same p n old_there ∙ ap (λ (b : ℕ). logged_in taken.entry i (p * (4096 * map_blocks b) + n)) (sym (blocks v));
        }

    pub maps_taken : MapsTaken old to js
    maps_taken = record {
      each = λ v g i x at each is.
          let now : HasMaps js v g = has_maps js v g at in
          let was = item_at ls v (let low = slice_get_within js v now.logs now.at in let long = shrink.many in omega (arith, low, long)) in
          took_one v g i x each is now.logs now.at now.has was.0 was.1 was.0.fmr refl;
    }
