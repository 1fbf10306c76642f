-- A group that stands, while marks in its change maps change.
use Rattle.std.proofs.Common.{◌≡◌, ◌∙◌, ◌⊎◌, inl, inr, ⊎_elim, ℕ, zero, suc, ◌+◌, ◌*◌, ◌/◌, ◌%◌, ◌<◌, ◌≤◌, Bool, true, false, List, [], ◌∷◌, ◌++◌, length, take, get_or, Option, Some, None, MatchOption, IsTrue, IsFalse, refl, sym, ap, subst, arith, append-nil}
use Rattle.std.specs.Prelude.{if◌then◌else◌, ltb, slice_get}
use Rattle.std.proofs.lemmas.Bool.{cases_lt, lt-ltb}
use Rattle.std.proofs.lemmas.Bool.Decides.{nat_tests}
use Rattle.std.proofs.lemmas.List.{get_or_past}
use Rattle.std.proofs.lemmas.Option.{get_or_from_slice_get, slice_get-get_or, slice_get_within}
use Rattle.vx_model.specs.Content.{Write, block_of}
use Rattle.vx_model.specs.declared.no.No.{No}
use Rattle.vx_model.specs.declared.no.No.TheVariants as no
use Rattle.vx_model.specs.declared.units.Units.{Units}
use Rattle.vx_disk.specs.Causes.{BlamesUnit}
use Rattle.vx_disk.specs.Disks.{Disks}
use Rattle.vx_disk.specs.Moves.{Beside, Moves, Run, Says}
use Rattle.vx_disk.specs.Shelf.{Image, Keeps, Meaning}
use Rattle.vx_disk.proofs.Moving.{kept_beside, left_beside, wider}
use Rattle.vx_bitmap.specs.Bits.{is_marked}
use Rattle.vx_bitmap.specs.Maps.{Lies, MapOn, SamePlace, is_marked_in, map_block_count, regions_mapped}
use Rattle.vx_bitmap.proofs.Blocks.{by_block}
use Rattle.vx_dcm.specs.Places.{DcmLoaded, MapChanging, Maps, MapsBetween, SomeChanged}
use Rattle.vx_overlay.specs.Writes.{newest_of}
use Rattle.vx_ringlog.specs.Chain.{Recovers}
use Rattle.vx_ringlog.specs.Logs.{Seal}
use Rattle.vx_ringlog.proofs.Calls.{call_safe}
use Rattle.vx_ringio.specs.Classes.{classes}
use Rattle.vx_ringio.proofs.Following.{image_beside, tracks_beside}
use Rattle.vx_srl.specs.Views.{Log}
use Rattle.vx_srl.specs.declared.kept.Kept.{Kept}
use Rattle.vx_rvg.specs.Commits.{HasStaged}
use Rattle.vx_rvg.specs.Contents.{writes_of}
use Rattle.vx_rvg.specs.Groups.{core_halted}
use Rattle.vx_rvg.specs.Holdings.{Holding, with_writes}
use Rattle.vx_rvg.specs.Marks.{HasAllMaps, Marking, MarksBetween, Remarks, blocks_over, map_run, marked_in, with_blocks_of_maps, with_marks}
use Rattle.vx_rvg.specs.StagedMarks.{FoundPart, StagedMarking, StagedRemarks}
use Rattle.vx_rvg.specs.Stands.{FoundAs, HasMaps, HasMarks, KeepsMaps, ReadyWith}
use Rattle.vx_rvg.specs.Views.{Core, IsSound, IsSoundWith, unit_of}
use Rattle.vx_rvg.proofs.ContentFacts.{has_content_beside, volume_there}
use Rattle.vx_rvg.proofs.MapStands.{loaded_lies}
use Rattle.vx_rvg.proofs.SaveCalls.{halted_sound}
use Rattle.vx_rvg.proofs.StagedSound.{kept_with}
use Rattle.vx_rvg.proofs.StagedStands.{none_left, none_staged, part_having, seal_part}
use Rattle.vx_rvg.proofs.WriteSound.{SameSizes, loaded_same}

-- ---- lists of blocks

-- the blocks of a unit of an image
abbrev pub blocks_from : (ℕ → List ℕ) → ℕ → ℕ → List (List ℕ)
blocks_from f k zero = []
blocks_from f k (suc n) = f k ∷ blocks_from f (suc k) n

blocks_long : (f : ℕ → List ℕ) (k n : ℕ) → length (blocks_from f k n) ≡ n
blocks_long f k zero = refl
blocks_long f k (suc n) = ap suc (blocks_long f (suc k) n)

blocks_at : (f : ℕ → List ℕ) (k n j : ℕ) → j < n → get_or (blocks_from f k n) j [] ≡ f (k + j)
blocks_at f k zero j low = absurd (omega (arith, low))
blocks_at f k (suc n) zero low = ap f (let e : k ≡ k + 0 = omega arith in e)
blocks_at f k (suc n) (suc j) low = blocks_at f (suc k) n j (omega (arith, low)) ∙ ap f (let e : suc k + j ≡ k + suc j = omega arith in e)

pub over_long : (bytes : List ℕ) (count k : ℕ) (maps : List (List ℕ)) → length (blocks_over bytes count k maps) ≡ length maps
over_long bytes count k [] = refl
over_long bytes count k (x ∷ xs) = ap suc (over_long bytes count (suc k) xs)

pub over_at : (bytes : List ℕ) (count k : ℕ) (maps : List (List ℕ)) (j : ℕ) → j < length maps → get_or (blocks_over bytes count k maps) j [] ≡ (if ltb (k + j) count then block_of bytes (k + j) else get_or maps j [])
over_at bytes count k [] j low = absurd (omega (arith, low))
over_at bytes count k (x ∷ xs) zero low = ap (λ (n : ℕ). if ltb n count then block_of bytes n else x) (let e : k ≡ k + 0 = omega arith in e)
over_at bytes count k (x ∷ xs) (suc j) low =
    over_at bytes count (suc k) xs j (omega (arith, low)) ∙ ap (λ (n : ℕ). if ltb n count then block_of bytes n else get_or xs j []) (let e : suc k + j ≡ k + suc j = omega arith in e)

-- ---- the maps that memory has, and the blocks of the unit

-- a block of maps that are all known
mark_at : (d : Maps) (maps : List (List ℕ)) (k : ℕ) → HasMarks d maps → HasAllMaps d maps → k < map_block_count d.map → slice_get maps k ≡ Some (block_of d.map.bytes k)
mark_at d maps k marks all low =
    let there : slice_get maps k ≡ Some (get_or maps k []) = slice_get-get_or maps k [] (omega (arith, low, all)) in
    there ∙ ap (λ (bytes : List ℕ). Some bytes) (marks.each k (get_or maps k []) low there)

module _ (units : Units) (d : Maps) (maps : List (List ℕ)) (m : Meaning) (loaded : DcmLoaded units m d) (keeps : KeepsMaps units maps m) (marks : HasMarks d maps) (all : HasAllMaps d maps) where
  -- whatever a crash leaves, they stand
  pub maps_on : MapOn d.map m
  maps_on = record {
    each = λ k low.
        subst (λ (u : ℕ). Keeps m u (d.map.first + k) (block_of d.map.bytes k)) (sym loaded.unit)
        (subst (λ (b : ℕ). Keeps m units.maps b (block_of d.map.bytes k)) (let e : k ≡ d.map.first + k = omega (arith, loaded.first) in e) (keeps.each k (block_of d.map.bytes k) (mark_at d maps k marks all low)));
  }

  -- a region is marked where the blocks have it marked
  pub marks_as : (r : ℕ) → r < regions_mapped d.map → marked_in maps r ≡ is_marked d.map.bytes r
  marks_as r low =
      let there : r / 4096 < map_block_count d.map = below r (length d.map.bytes) _ low loaded.long in
      ap (λ (b : List ℕ). is_marked b (r % 4096)) (get_or_from_slice_get maps (r / 4096) (block_of d.map.bytes (r / 4096)) [] (mark_at d maps (r / 4096) marks all there)) ∙ sym (by_block d.map.bytes r)
    where
      below : (r long blocks : ℕ) → r < 8 * long → long ≡ 512 * blocks → r / 4096 < long / 512
      below r long blocks low is = omega (arith, low, is)

  -- ---- an image in a change of marks

  module _ (mine : ℕ → Type 0) (value : Bool) (i : Image) (beside : Beside (Run units.maps 0 (map_block_count d.map)) m.leaves i) (changing : MapChanging d.map mine value m i) where
    abbrev pub now : List (List ℕ)
    now = blocks_from (λ b. i units.maps b) 0 (length maps)

    now_at : (b : ℕ) → b < length maps → get_or now b [] ≡ i units.maps b
    now_at b low = blocks_at (λ n. i units.maps n) 0 (length maps) b low ∙ ap (λ (n : ℕ). i units.maps n) (let e : 0 + b ≡ b = omega arith in e)

    now_has : HasMaps units now i
    now_has = record {
      each = λ b bytes there.
          let low : b < length maps = subst (λ (n : ℕ). b < n) (blocks_long (λ n. i units.maps n) 0 (length maps)) (slice_get_within now b bytes there) in
          sym (now_at b low) ∙ get_or_from_slice_get now b bytes [] there;
    }

    now_rest : (b : ℕ) → map_block_count d.map ≤ b → get_or now b [] ≡ get_or maps b []
    now_rest b high =
        ⊎_elim
        (λ (low : b < length maps).
        now_at b low
        ∙ (keeps.each b (get_or maps b []) (slice_get-get_or maps b [] low)).only (i units.maps b)
        (left_beside (Run units.maps 0 (map_block_count d.map)) m units.maps b (λ run. omega (arith, run.last, high)) i beside))
        (λ (past : length maps ≤ b). get_or_past now b [] (subst (λ (n : ℕ). n ≤ b) (sym (blocks_long (λ n. i units.maps n) 0 (length maps))) past) ∙ sym (get_or_past maps b [] past))
        (cases_lt b (length maps))

    now_marks : (r : ℕ) → r < regions_mapped d.map → marked_in now r ≡ is_marked_in d.map i r
    now_marks r low =
        let there : r / 4096 < length maps = below r (length d.map.bytes) _ (length maps) low loaded.long all in
        ap (λ (b : List ℕ). is_marked b (r % 4096)) (now_at (r / 4096) there)
        ∙ ap (λ (u : ℕ). is_marked (i u (r / 4096)) (r % 4096)) (sym loaded.unit)
        ∙ ap (λ (b : ℕ). is_marked (i d.map.unit b) (r % 4096)) (let e : r / 4096 ≡ d.map.first + r / 4096 = omega (arith, loaded.first) in e)
      where
        below : (r long blocks size : ℕ) → r < 8 * long → long ≡ 512 * blocks → long / 512 ≤ size → r / 4096 < size
        below r long blocks size low is le = omega (arith, low, is, le)

    now_between : MarksBetween d mine value maps now
    now_between = record {
      long = blocks_long (λ b. i units.maps b) 0 (length maps);
      rest = now_rest;
      marks = record {
        each = λ r low.
            elim ((changing.each maps_on).each r low) [
              | inl same ↦ inl (now_marks r low ∙ same ∙ sym (marks_as r low))
              | inr set ↦ inr (set.0, now_marks r low ∙ set.1)
            ];
      };
    }

-- ---- the maps behind a change

module _ (units : Units) (d d' : Maps) (maps : List (List ℕ)) (m m' : Meaning) (loaded : DcmLoaded units m d) (place : SamePlace d.map d'.map) (sizes : d'.sizes ≡ d.sizes) where
  -- they are as many
  pub loaded_changed : SameSizes m m' → DcmLoaded units m' d'
  loaded_changed same =
      let was = loaded_same units d m m' same loaded in
      record { unit = place.unit ∙ was.unit; first = place.first ∙ was.first; long = place.long ∙ was.long; sizes = sizes ∙ was.sizes }

  module _ (P : Says) (moves : Moves (Run units.maps 0 (map_block_count d.map)) P m m') (keeps : KeepsMaps units maps m) (on : MapOn d'.map m') where
    abbrev pub count : ℕ
    count = map_block_count d'.map

    abbrev pub over : List (List ℕ)
    over = blocks_over d'.map.bytes count 0 maps

    over_is : (b : ℕ) → b < length maps → get_or over b [] ≡ (if ltb b count then block_of d'.map.bytes b else get_or maps b [])
    over_is b low = over_at d'.map.bytes count 0 maps b low ∙ ap (λ (n : ℕ). if ltb n count then block_of d'.map.bytes n else get_or maps b []) (let e : 0 + b ≡ b = omega arith in e)

    pub over_marks : HasMarks d' over
    over_marks = record {
      each = λ k bytes low is.
          let there : k < length maps = subst (λ (n : ℕ). k < n) (over_long d'.map.bytes count 0 maps) (slice_get_within over k bytes is) in
          sym (get_or_from_slice_get over k bytes [] is) ∙ over_is k there ∙ ap (λ (t : Bool). if t then block_of d'.map.bytes k else get_or maps k []) (lt-ltb k count low);
    }

    here : (k : ℕ) → k < count → Keeps m' units.maps k (block_of d'.map.bytes k)
    here k low =
        let loaded' : d'.map.unit ≡ units.maps = place.unit ∙ loaded.unit in
        subst (λ (b : ℕ). Keeps m' units.maps b (block_of d'.map.bytes k)) (let e : d'.map.first + k ≡ k = omega (arith, place.first, loaded.first) in e)
        (subst (λ (u : ℕ). Keeps m' u (d'.map.first + k) (block_of d'.map.bytes k)) loaded' (on.each k low))

    kept_at : (b : ℕ) → b < length maps → Keeps m' units.maps b (get_or over b [])
    kept_at b low =
        ⊎_elim
        (λ (inside : b < count). subst (λ (x : List ℕ). Keeps m' units.maps b x) (sym (over_is b low ∙ ap (λ (t : Bool). if t then block_of d'.map.bytes b else get_or maps b []) (lt-ltb b count inside))) (here b inside))
        (λ (past : count ≤ b).
        subst (λ (x : List ℕ). Keeps m' units.maps b x) (sym (over_is b low ∙ ap (λ (t : Bool). if t then block_of d'.map.bytes b else get_or maps b []) (not_below b count past)))
        (kept_beside (Run units.maps 0 (map_block_count d.map)) P m m' moves units.maps b (λ run. omega (arith, run.last, past, place.long)) (get_or maps b []) (keeps.each b (get_or maps b []) (slice_get-get_or maps b [] low))))
        (cases_lt b count)
      where
        not_below : (b n : ℕ) → n ≤ b → ltb b n ≡ false
        not_below b n le = grind (arith, nat_tests)

    pub over_kept : KeepsMaps units over m'
    over_kept = record {
      size = (let long = over_long d'.map.bytes count 0 maps in let least = keeps.size in let same = moves.size units.maps in omega (arith, long, least, same));
      each = λ b bytes there.
          let low : b < length maps = subst (λ (n : ℕ). b < n) (over_long d'.map.bytes count 0 maps) (slice_get_within over b bytes there) in
          subst (λ (x : List ℕ). Keeps m' units.maps b x) (get_or_from_slice_get over b bytes [] there) (kept_at b low);
    }

-- ---- of whatever the group held

module _ {ks : List Kept} (core : Core) (m : Meaning) (sound : IsSoundWith ks core m) where
  -- the log and the volumes lie beside the change maps
  log_aside : (b : ℕ) → b < core.log.ring + 2 → map_run core core.log.unit b → ⊥
  log_aside b low run = sound.placed.maps_apart (sym run.there ∙ sound.log_unit)

  module _ (xs : List Write) (h : Holding) (has : HasStaged xs core h m) where
    volumes_aside : (v b : ℕ) → b < h.content.size v → map_run core (unit_of core.units.vols v) b → ⊥
    volumes_aside v b low run = sound.placed.maps_aside v (volume_there core.units.vols h.content m v b has.stands.ready.sizes low) run.there

    aside_part : (i : Image) → Beside (map_run core) m.leaves i
        → (k : ℕ) × Recovers core.log.ring (classes core.log.unit core.log.ring i) has.stands.log.header (has.stands.log.held ++ take k has.stands.log.staged)
    aside_part i beside =
        seal_part core.log.ring has.stands.log (classes core.log.unit core.log.ring i)
        ((call_safe core.log.ring has.stands.log Seal has.stands.ready.ring.is_log tt).0.0 (classes core.log.unit core.log.ring i) (image_beside core.log.unit core.log.ring has.stands.log.unit (map_run core) m i has.stands.ready.ring.tracks beside log_aside))

    marking_found : HasAllMaps core.maps h.maps → (mine : ℕ → Type 0) (value : Bool) (i : Image) → Beside (map_run core) m.leaves i → MapChanging core.maps.map mine value m i
        → (maps : List (List ℕ)) × MarksBetween core.maps mine value h.maps maps × FoundPart core i xs (with_blocks_of_maps maps h)
    marking_found all mine value i beside changing = (
      now core.units core.maps h.maps m sound.maps has.stands.maps has.stands.marks all mine value i beside changing,
      now_between core.units core.maps h.maps m sound.maps has.stands.maps has.stands.marks all mine value i beside changing,
      record {
        count = (aside_part i beside).0;
        found =
            part_having xs core h m has sound.log_unit i (aside_part i beside).0 (aside_part i beside).1
            (has_content_beside (map_run core) core.units.vols h.content (writes_of has.stands.log.held) m i volumes_aside has.stands.ready.content beside)
            (now core.units core.maps h.maps m sound.maps has.stands.maps has.stands.marks all mine value i beside changing)
            (now_has core.units core.maps h.maps m sound.maps has.stands.maps has.stands.marks all mine value i beside changing);
      },
    )

    module _ (d : Maps) (m' : Meaning) (P : Says) (moves : Moves (map_run core) P m m') (up : IsTrue m'.down → ⊥) where
      keeps_on : (v b : ℕ) → b < h.content.size v → (y : List ℕ) → Keeps m (unit_of core.units.vols v) b y → Keeps m' (unit_of core.units.vols v) b y
      keeps_on v b low y keeps = kept_beside (map_run core) P m m' moves (unit_of core.units.vols v) b (volumes_aside v b low) y keeps

      keeps_each : (o : Option (List ℕ)) (v b : ℕ) → b < h.content.size v → MatchOption o (Keeps m (unit_of core.units.vols v) b (h.content.block v b)) (λ bytes. bytes ≡ h.content.block v b)
          → MatchOption o (Keeps m' (unit_of core.units.vols v) b (h.content.block v b)) (λ bytes. bytes ≡ h.content.block v b)
      keeps_each (Some bytes) v b low is = is
      keeps_each None v b low keeps = keeps_on v b low (h.content.block v b) keeps

      marked_ready : ReadyWith has.records (record core { maps = d }) h.content has.stands.log m'
      marked_ready = record {
        ring = record {
          is_log = has.stands.ready.ring.is_log;
          tracks = tracks_beside core.log.unit core.log.ring has.stands.log.unit (map_run core) P m m' moves log_aside up has.stands.ready.ring.tracks;
          describes = has.stands.ready.ring.describes;
        };
        idle = has.stands.ready.idle;
        whole = has.stands.ready.whole;
        sizes = record { each = λ v there. has.stands.ready.sizes.each v there ∙ sym (moves.size (unit_of core.units.vols v)); none = has.stands.ready.sizes.none };
        content = record { each = λ v b low. keeps_each (newest_of h.content.size (writes_of has.stands.log.held) v b) v b low (has.stands.ready.content.each v b low) };
        waiting = has.stands.ready.waiting;
        settled = λ v b low none. keeps_on v b low (h.content.block v b) (has.stands.ready.settled v b low none);
      }

      marked_staged : SamePlace core.maps.map d.map → d.sizes ≡ core.maps.sizes → MapOn d.map m' → HasStaged xs (record core { maps = d }) (with_marks d h) m'
      marked_staged place sizes on = record {
        records = has.records;
        are = has.are;
        whole = has.whole;
        stands = record {
          log = has.stands.log;
          ready = marked_ready;
          low = has.stands.low;
          writes = has.stands.writes;
          place = has.stands.place;
          maps = over_kept core.units core.maps d h.maps m m' sound.maps place sizes P moves has.stands.maps on;
          marks = over_marks core.units core.maps d h.maps m m' sound.maps place sizes P moves has.stands.maps on;
        };
      }

  -- ---- the call

  module _ (d : Maps) (m' : Meaning) (mine : ℕ → Type 0) (value : Bool) (place : SamePlace core.maps.map d.map) (sizes : d.sizes ≡ core.maps.sizes)
      (moves : Moves (Run core.maps.map.unit core.maps.map.first (map_block_count core.maps.map)) (MapChanging core.maps.map mine value m) m m') where
    mark_moves : Moves (map_run core) (StagedMarking core mine value m) m m'
    mark_moves =
        wider (Run core.maps.map.unit core.maps.map.first (map_block_count core.maps.map)) (map_run core) (MapChanging core.maps.map mine value m) (StagedMarking core mine value m) m m' moves
        (λ u b run. record { there = run.there ∙ sound.maps.unit; first = omega arith; last = omega (arith, run.last, sound.maps.first) })
        (λ i beside changing. record { each = λ xs h has all. marking_found xs h has all mine value i (as_run i beside) changing })
      where
        as_run : (i : Image) → Beside (Run core.maps.map.unit core.maps.map.first (map_block_count core.maps.map)) m.leaves i → Beside (map_run core) m.leaves i
        as_run i beside u b = ⊎_elim (λ was. inl was) (λ run. inr (record { there = run.there ∙ sound.maps.unit; first = omega arith; last = omega (arith, run.last, sound.maps.first) })) (beside u b)

    mark_sound : IsSoundWith ks (record core { maps = d }) m'
    mark_sound =
        let s = kept_with ks core m m' (record { units = moves.units; size = moves.size }) moves.falls sound in
        record {
          placed = s.placed;
          maps = loaded_changed core.units core.maps d [] m m' sound.maps place sizes (record { units = moves.units; size = moves.size });
          log_unit = s.log_unit;
          lies = s.lies;
          idle = s.idle;
          low = s.low;
          known = s.known;
          room = s.room;
          waiting = s.waiting;
        }

    mark_halted : (why : No) → IsSoundWith ks (core_halted why (record core { maps = d })) m'
    mark_halted why = halted_sound (record core { maps = d }) m' why mark_sound

    mark_rests : (IsTrue m'.down → ⊥) → (MapOn core.maps.map m → MapOn d.map m') → StagedRemarks core (record core { maps = d }) m m'
    mark_rests up stands_on = record {
      each = λ xs h has all.
          marked_staged xs h has d m' (StagedMarking core mine value m) mark_moves up place sizes (stands_on (maps_on core.units core.maps h.maps m sound.maps has.stands.maps has.stands.marks all));
    }

-- ---- where nothing is staged

pub marking_alone : (core : Core) (mine : ℕ → Type 0) (value : Bool) (m : Meaning) (i : Image) → StagedMarking core mine value m i → Marking core mine value m i
marking_alone core mine value m i marking = record {
  each = λ h stands all.
      let got = marking.each [] h (none_staged core h m stands) all in
      (got.0, got.1, alone got.2.count (with_blocks_of_maps got.0 h) got.2.found);
}
  where
    alone : (k : ℕ) (h : Holding) → FoundAs core i (with_writes (take k []) h) → FoundAs core i h
    alone zero h found = subst (λ (ws : List Write). FoundAs core i (record { low = h.low; writes = ws; place = h.place; content = h.content; maps = h.maps })) (append-nil h.writes) found
    alone (suc k) h found = subst (λ (ws : List Write). FoundAs core i (record { low = h.low; writes = ws; place = h.place; content = h.content; maps = h.maps })) (append-nil h.writes) found

pub moves_alone : (core : Core) (mine : ℕ → Type 0) (value : Bool) (m m' : Meaning) → Moves (map_run core) (StagedMarking core mine value m) m m' → Moves (map_run core) (Marking core mine value m) m m'
moves_alone core mine value m m' moves =
    wider (map_run core) (map_run core) (StagedMarking core mine value m) (Marking core mine value m) m m' moves (λ u b run. run) (λ i beside marking. marking_alone core mine value m i marking)

pub remarks_alone : (core after : Core) (old new : Meaning) → StagedRemarks core after old new → Remarks core after old new
remarks_alone core after old new remarks = record { each = λ h stands all. none_left after (with_marks after.maps h) new (remarks.each [] h (none_staged core h old stands) all) }

-- ---- v is the group as the code has it

pub maps_halted : (why : No) (c : Core) → (core_halted why c).maps ≡ c.maps
maps_halted (no.Device disk) c = refl
maps_halted other c = refl

log_halted : (why : No) (c : Core) → (core_halted why c).log ≡ c.log
log_halted (no.Device disk) c = refl
log_halted other c = refl

-- the log of a group that a call halted
pub halted_log : (why : No) (c c' : Core) → c' ≡ core_halted why c → c'.log ≡ c.log
halted_log why c c' is = ap (λ (k : Core). k.log) is ∙ log_halted why c

module _ (v core : Core) (view : v ≡ core) (d : Maps) where
  pub told_is : record v { maps = d } ≡ record core { maps = d }
  told_is = ap (λ (k : Core). record k { maps = d }) view

  module _ (why : No) (c' : Core) (is : c' ≡ core_halted why (record v { maps = d })) where
    pub halted_maps : c'.maps ≡ d
    halted_maps = ap (λ (k : Core). k.maps) is ∙ maps_halted why (record v { maps = d })

    pub told_halted : c' ≡ core_halted why (record core { maps = c'.maps })
    told_halted = is ∙ ap (λ (k : Core). core_halted why k) told_is ∙ ap (λ (x : Maps). core_halted why (record core { maps = x })) (sym halted_maps)

    pub told_part : (mine : ℕ → ℕ → ℕ → Type 0) (value : Bool) → MapsBetween mine value v.maps d → MapsBetween mine value core.maps c'.maps
    told_part mine value part =
        subst (λ (x : Maps). MapsBetween mine value core.maps x) (sym halted_maps) (subst (λ (k : Core). MapsBetween mine value k.maps d) view part)

    pub told_bits : (mine : Core → ℕ → Type 0) (value : Bool) → SomeChanged (mine v) value (regions_mapped v.maps.map) (is_marked v.maps.map.bytes) (is_marked d.map.bytes)
        → SomeChanged (mine core) value (regions_mapped core.maps.map) (is_marked core.maps.map.bytes) (is_marked c'.maps.map.bytes)
    told_bits mine value bits =
        subst (λ (x : Maps). SomeChanged (mine core) value (regions_mapped core.maps.map) (is_marked core.maps.map.bytes) (is_marked x.map.bytes)) (sym halted_maps)
        (subst (λ (k : Core). SomeChanged (mine k) value (regions_mapped k.maps.map) (is_marked k.maps.map.bytes) (is_marked d.map.bytes)) view bits)

    pub told_place : SamePlace v.maps.map d.map → SamePlace core.maps.map c'.maps.map
    told_place place = subst (λ (x : Maps). SamePlace core.maps.map x.map) (sym halted_maps) (subst (λ (k : Core). SamePlace k.maps.map d.map) view place)

    pub told_sizes : d.sizes ≡ v.maps.sizes → c'.maps.sizes ≡ core.maps.sizes
    told_sizes same = ap (λ (x : Maps). x.sizes) halted_maps ∙ same ∙ ap (λ (k : Core). k.maps.sizes) view

pub stays_up : (before after : Bool) → IsFalse before → (IsTrue after → IsTrue before) → IsTrue after → ⊥
stays_up true after up falls down = let wrong : true ≡ false = up in cc
stays_up false after up falls down = let wrong : false ≡ true = falls down in cc

module _ {ks : List Kept} (v core : Core) (view : v ≡ core) (m : Meaning) (sound : IsSoundWith ks core m) where
  sound_here : IsSoundWith ks v m
  sound_here = subst (λ (k : Core). IsSoundWith ks k m) (sym view) sound

  pub told_lies : Lies v.maps.map m
  told_lies = loaded_lies v.units v.maps m sound_here.placed sound_here.maps

  pub told_blames : (disks : Option Disks) (why : No) → BlamesUnit disks v.maps.map.unit why → BlamesUnit disks core.units.maps why
  told_blames disks why blames = subst (λ (u : ℕ). BlamesUnit disks u why) (sound_here.maps.unit ∙ ap (λ (k : Core). k.units.maps) view) blames

  module _ (d : Maps) (m' : Meaning) (mine : Core → ℕ → Type 0) (value : Bool) (place : SamePlace v.maps.map d.map) (sizes : d.sizes ≡ v.maps.sizes)
      (moves : Moves (Run v.maps.map.unit v.maps.map.first (map_block_count v.maps.map)) (MapChanging v.maps.map (mine v) value m) m m') where
    pub told_staged_moves : Moves (map_run core) (StagedMarking core (mine core) value m) m m'
    told_staged_moves = subst (λ (k : Core). Moves (map_run k) (StagedMarking k (mine k) value m) m m') view (mark_moves v m sound_here d m' (mine v) value place sizes moves)

    pub told_moves : Moves (map_run core) (Marking core (mine core) value m) m m'
    told_moves = moves_alone core (mine core) value m m' told_staged_moves

    pub told_sound : IsSoundWith ks (record v { maps = d }) m'
    told_sound = mark_sound v m sound_here d m' (mine v) value place sizes moves

    pub told_fails : (why : No) (c' : Core) → c' ≡ core_halted why (record v { maps = d }) → IsSoundWith ks c' m'
    told_fails why c' is = subst (λ (k : Core). IsSoundWith ks k m') (sym is) (mark_halted v m sound_here d m' (mine v) value place sizes moves why)

    pub told_staged_rests : (IsTrue m'.down → ⊥) → (MapOn v.maps.map m → MapOn d.map m') → StagedRemarks core (record v { maps = d }) m m'
    told_staged_rests up on = subst (λ (k : Core). StagedRemarks k (record v { maps = d }) m m') view (mark_rests v m sound_here d m' (mine v) value place sizes moves up on)

    pub told_rests : (IsTrue m'.down → ⊥) → (MapOn v.maps.map m → MapOn d.map m') → Remarks core (record v { maps = d }) m m'
    told_rests up on = remarks_alone core (record v { maps = d }) m m' (told_staged_rests up on)

-- what is staged is what was
pub staged_as : (v core : Core) → v ≡ core → (k : Core) (m : Meaning) → k.log ≡ v.log → IsSoundWith core.log.staged k m → IsSoundWith k.log.staged k m
staged_as v core view k m same sound = subst (λ (ks : List Kept). IsSoundWith ks k m) (ap (λ (c : Core). c.log.staged) (sym view) ∙ ap (λ (l : Log). l.staged) (sym same)) sound

-- none is
pub alone_sound : (core k : Core) (m : Meaning) → core.log.staged ≡ [] → k.log ≡ core.log → IsSoundWith k.log.staged k m → IsSound k m
alone_sound core k m idle same sound = subst (λ (ks : List Kept). IsSoundWith ks k m) (ap (λ (l : Log). l.staged) same ∙ idle) sound
