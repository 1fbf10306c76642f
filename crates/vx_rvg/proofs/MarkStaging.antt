-- A group that has writes staged, while a write is staged whose regions are marked first.
use Rattle.std.proofs.Common.{◌≡◌, ◌∙◌, inl, inr, ℕ, ◌+◌, ◌≤◌, true, false, List, [], ◌∷◌, ◌++◌, length, take, Option, Some, None, IsSome, OnOk, Result, Ok, Err, refl, sym, ap, subst}
use Rattle.std.proofs.lemmas.Result.{on_ok_weaker}
use Rattle.vx_model.specs.Content.{Write}
use Rattle.vx_model.specs.declared.no.No.{No}
use Rattle.vx_disk.specs.Moves.{Blocks, Moves, Run, Union}
use Rattle.vx_disk.specs.Shelf.{Image, Meaning}
use Rattle.vx_disk.proofs.Moving.{goes_on, wider}
use Rattle.vx_bitmap.specs.Bits.{is_marked}
use Rattle.vx_bitmap.specs.Maps.{map_block_count, regions_mapped}
use Rattle.vx_dcm.specs.Places.{DcmLoaded, IsPlaceOfSlots, Maps, SlotsMarked, SomeChanged}
use Rattle.vx_dcm.proofs.SlotMarks.{slots_all}
use Rattle.vx_rvg.specs.Commits.{Committing, HasStaged, StageIs, Stages, number_refusal}
use Rattle.vx_rvg.specs.Holdings.{Holding, with_writes}
use Rattle.vx_rvg.specs.Marks.{HasAllMaps, Marks, blocks_over, map_run, with_marks}
use Rattle.vx_rvg.specs.StagedMarks.{MarkedCommitting, StagedMarking, StagedRemarks}
use Rattle.vx_rvg.specs.Stands.{FoundAs}
use Rattle.vx_rvg.specs.Views.{Core}
use Rattle.vx_rvg.proofs.MarkStands.{maps_halted, marks_as}
use Rattle.vx_rvg.proofs.OverMarks.{marks_changed}
use Rattle.vx_rvg.proofs.WriteLog.{cause_from}

-- ---- what a stage answers

-- it keeps the change maps
pub stage_keeps : (r : Result ℕ No) (c c' : Core) (vol start : ℕ) (bytes : List ℕ) (m m' : Meaning) → Stages c vol start bytes m m' c' r → c'.maps ≡ c.maps
stage_keeps (Ok number) c c' vol start bytes m m' did = ap (λ (k : Core). k.maps) did.1
stage_keeps (Err why) c c' vol start bytes m m' did = ap (λ (k : Core). k.maps) did.0 ∙ maps_halted why c

pub stage_is_keeps : (o : Option No) (r : Result ℕ No) (c c' : Core) (vol start : ℕ) (bytes : List ℕ) (m m' : Meaning) → StageIs o c vol start bytes m m' c' r → c'.maps ≡ c.maps
stage_is_keeps (Some why) r c c' vol start bytes m m' did = ap (λ (k : Core). k.maps) did.1
stage_is_keeps None r c c' vol start bytes m m' did = stage_keeps r c c' vol start bytes m m' did

stages_since : (r : Result ℕ No) (c c' : Core) (vol start : ℕ) (bytes : List ℕ) (m mid m' : Meaning) → ((d : ℕ) → m.disk_faults d ≤ mid.disk_faults d) → Stages c vol start bytes mid m' c' r → Stages c vol start bytes m m' c' r
stages_since (Ok number) c c' vol start bytes m mid m' counts did = did
stages_since (Err why) c c' vol start bytes m mid m' counts did = (did.0, cause_from m mid m' why counts did.1)

-- ---- the marks could not be written

pub marks_alone : (core : Core) (mine : ℕ → Type 0) (m mid : Meaning) → Moves (map_run core) (StagedMarking core mine true m) m mid
    → Moves (Union (map_run core) (Run core.units.srl 0 (core.log.ring + 2))) (StagedMarking core mine true m) m mid
marks_alone core mine m mid moves =
    wider (map_run core) (Union (map_run core) (Run core.units.srl 0 (core.log.ring + 2))) (StagedMarking core mine true m) (StagedMarking core mine true m) m mid moves (λ u b run. record { here = inl run }) (λ i beside marking. marking)

-- the marks could not be written: nothing more is staged
pub stopped_alone : (core c1 : Core) → number_refusal core ≡ None → (vol start : ℕ) (bytes : List ℕ) (m mid : Meaning) (why : No) → Marks core m mid c1 (Err why)
    → StageIs (number_refusal core) (record core { maps = c1.maps }) vol start bytes m mid c1 (Err why)
stopped_alone core c1 none vol start bytes m mid why stops = subst (λ (o : Option No). StageIs o (record core { maps = c1.maps }) vol start bytes m mid c1 (Err why)) (sym none) stops

-- where no number is refused
pub no_refusal : (core : Core) (P : Type 0) → number_refusal core ≡ None → IsSome (number_refusal core) → P
no_refusal core P none some = let wrong : false ≡ true = subst (λ (o : Option No). IsSome o) none some in cc

-- ---- a stage behind the marks

module _ (core c1 : Core) (is : c1 ≡ record core { maps = c1.maps }) where
  -- no number is refused behind the marks
  pub none_refused_still : number_refusal core ≡ None → number_refusal c1 ≡ None
  none_refused_still none = ap (λ (k : Core). number_refusal k) is ∙ none

  module _ (none : number_refusal core ≡ None) (r : Result ℕ No) (c2 : Core) (vol start : ℕ) (bytes : List ℕ) (mid m' : Meaning) (answers : StageIs (number_refusal c1) c1 vol start bytes mid m' c2 r) where
    did : Stages c1 vol start bytes mid m' c2 r
    did = subst (λ (o : Option No). StageIs o c1 vol start bytes mid m' c2 r) (none_refused_still none) answers

    pub staged_maps : c2.maps ≡ c1.maps
    staged_maps = stage_keeps r c1 c2 vol start bytes mid m' did

    -- the write is staged, or a device call failed
    pub staged_since : (m : Meaning) → ((d : ℕ) → m.disk_faults d ≤ mid.disk_faults d) → StageIs (number_refusal core) (record core { maps = c2.maps }) vol start bytes m m' c2 r
    staged_since m counts =
        let back : c1 ≡ record core { maps = c2.maps } = is ∙ ap (λ (x : Maps). record core { maps = x }) (sym staged_maps) in
        subst (λ (o : Option No). StageIs o (record core { maps = c2.maps }) vol start bytes m m' c2 r) (sym none)
        (subst (λ (k : Core). Stages k vol start bytes m m' c2 r) back (stages_since r c1 c2 vol start bytes m mid m' counts did))

    -- it stands behind what was staged, with the marks
    pub staged_marks : (x : Write) (m : Meaning) → StagedRemarks core c1 m mid → OnOk r ((xs : List Write) (h : Holding) → HasStaged xs c1 h mid → HasStaged (xs ++ x ∷ []) c2 h m')
        → OnOk r ((xs : List Write) (h : Holding) → HasStaged xs core h m → HasAllMaps core.maps h.maps → HasStaged (xs ++ x ∷ []) c2 (with_marks c2.maps h) m')
    staged_marks x m remarks staged =
        on_ok_weaker r
        (λ stand xs h has all. subst (λ (d : Maps). HasStaged (xs ++ x ∷ []) c2 (with_marks d h) m') (sym staged_maps) (stand xs (with_marks c1.maps h) (remarks.each xs h has all)))
        staged

  -- ---- an image in the call

  module _ (mine : ℕ → Type 0) (m mid : Meaning) (loaded : DcmLoaded core.units m core.maps) (loaded1 : DcmLoaded c1.units mid c1.maps) (remarks : StagedRemarks core c1 m mid)
      (bits : SomeChanged mine true (regions_mapped core.maps.map) (is_marked core.maps.map.bytes) (is_marked c1.maps.map.bytes)) (long : length c1.maps.map.bytes ≡ length core.maps.map.bytes) where
    staging_found : (i : Image) → Committing c1 mid i → StagedMarking core mine true m i
    staging_found i found = record {
      each = λ xs h has all.
          let has1 : HasStaged xs c1 (with_marks c1.maps h) mid = remarks.each xs h has all in
          let part : (k : ℕ) × FoundAs c1 i (with_writes (take k xs) (with_marks c1.maps h)) = found.each xs (with_marks c1.maps h) has1 in (
            blocks_over c1.maps.map.bytes (map_block_count c1.maps.map) 0 h.maps,
            marks_changed core c1 mine m mid loaded loaded1 bits long h.maps has.stands.maps has.stands.marks all has1.stands.maps has1.stands.marks,
            record { count = part.0; found = subst (λ (k : Core). FoundAs k i (with_writes (take part.0 xs) (with_marks c1.maps h))) is part.1 },
          );
    }

    abbrev both : Blocks
    both = Union (map_run core) (Run core.units.srl 0 (core.log.ring + 2))

    pub staging_moves : (last : Meaning) → Moves (map_run core) (StagedMarking core mine true m) m mid → Moves (Run c1.units.srl 0 (c1.log.ring + 2)) (Committing c1 mid) mid last → Moves both (StagedMarking core mine true m) m last
    staging_moves last first second =
        goes_on both (Run c1.units.srl 0 (c1.log.ring + 2)) (StagedMarking core mine true m) (Committing c1 mid) m mid last (marks_alone core mine m mid first) second
        (λ u b run. record { here = inr (subst (λ (k : Core). Run k.units.srl 0 (k.log.ring + 2) u b) is run) }) (λ i beside found. staging_found i found)

-- ---- a seal behind marks

-- what was marked before is marked in each image of it
pub seal_marked : (core : Core) (m m' : Meaning) → DcmLoaded core.units m core.maps → Moves (Run core.units.srl 0 (core.log.ring + 2)) (Committing core m) m m'
    → (marks vol first last : ℕ) → SlotsMarked marks vol first last core.maps → Moves (Run core.units.srl 0 (core.log.ring + 2)) (MarkedCommitting core (IsPlaceOfSlots core.maps marks vol first last) m) m m'
seal_marked core m m' loaded moves marks vol first last all =
    wider (Run core.units.srl 0 (core.log.ring + 2)) (Run core.units.srl 0 (core.log.ring + 2)) (Committing core m) (MarkedCommitting core (IsPlaceOfSlots core.maps marks vol first last) m) m m' moves (λ u b run. run)
    (λ i beside found. record {
      each = λ xs h has known.
          let part : (k : ℕ) × FoundAs core i (with_writes (take k xs) h) = found.each xs h has in (
            record { each = λ r low own. marks_as core.units core.maps h.maps m loaded has.stands.maps has.stands.marks known r low ∙ slots_all core.maps core.maps marks vol first last refl all r own },
            record { count = part.0; found = part.1 },
          );
    })
