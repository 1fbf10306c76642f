-- The blocks of the maps that memory has behind marks, over those before them.
use Rattle.std.proofs.Common.{◌≡◌, ◌∙◌, ◌⊎◌, inl, inr, ⊎_elim, ℕ, ◌+◌, ◌<◌, ◌≤◌, Bool, true, false, List, [], length, get_or, sym, ap, arith}
use Rattle.std.specs.Prelude.{if◌then◌else◌, ltb}
use Rattle.std.proofs.lemmas.Bool.{cases_lt}
use Rattle.std.proofs.lemmas.Bool.Decides.{nat_tests}
use Rattle.std.proofs.lemmas.List.{get_or_past}
use Rattle.vx_model.specs.Content.{block_of}
use Rattle.vx_disk.specs.Shelf.{Meaning}
use Rattle.vx_bitmap.specs.Bits.{is_marked}
use Rattle.vx_bitmap.specs.Maps.{map_block_count, regions_mapped}
use Rattle.vx_dcm.specs.Places.{DcmLoaded, SomeChanged}
use Rattle.vx_rvg.specs.Marks.{HasAllMaps, MarksBetween, blocks_over, marked_in}
use Rattle.vx_rvg.specs.Stands.{HasMarks, KeepsMaps}
use Rattle.vx_rvg.specs.Views.{Core}
use Rattle.vx_rvg.proofs.MarkStands.{marks_as, over_at, over_long}

module _ (core c1 : Core) (mine : ℕ → Type 0) (m mid : Meaning) (loaded : DcmLoaded core.units m core.maps) (loaded1 : DcmLoaded c1.units mid c1.maps)
    (bits : SomeChanged mine true (regions_mapped core.maps.map) (is_marked core.maps.map.bytes) (is_marked c1.maps.map.bytes)) (long : length c1.maps.map.bytes ≡ length core.maps.map.bytes)
    (maps : List (List ℕ)) (keeps : KeepsMaps core.units maps m) (marks : HasMarks core.maps maps) (all : HasAllMaps core.maps maps)
    (keeps1 : KeepsMaps c1.units (blocks_over c1.maps.map.bytes (map_block_count c1.maps.map) 0 maps) mid) (marks1 : HasMarks c1.maps (blocks_over c1.maps.map.bytes (map_block_count c1.maps.map) 0 maps)) where
  abbrev over : List (List ℕ)
  over = blocks_over c1.maps.map.bytes (map_block_count c1.maps.map) 0 maps

  all1 : HasAllMaps c1.maps over
  all1 = let same = over_long c1.maps.map.bytes (map_block_count c1.maps.map) 0 maps in omega (arith, all, same, long)

  pub now_marked : (r : ℕ) → r < regions_mapped core.maps.map → marked_in over r ≡ is_marked c1.maps.map.bytes r
  now_marked r low = marks_as c1.units c1.maps over mid loaded1 keeps1 marks1 all1 r (omega (arith, low, long))

  was_as : (r : ℕ) → r < regions_mapped core.maps.map → marked_in maps r ≡ is_marked core.maps.map.bytes r
  was_as r low = marks_as core.units core.maps maps m loaded keeps marks all r low

  rest : (b : ℕ) → map_block_count core.maps.map ≤ b → get_or over b [] ≡ get_or maps b []
  rest b high =
      ⊎_elim
      (λ (low : b < length maps).
      over_at c1.maps.map.bytes (map_block_count c1.maps.map) 0 maps b low
      ∙ ap (λ (t : Bool). if t then block_of c1.maps.map.bytes (0 + b) else get_or maps b []) (not_below (0 + b) (map_block_count c1.maps.map) (omega (arith, high, long))))
      (λ (past : length maps ≤ b). get_or_past over b [] (omega (arith, past, over_long c1.maps.map.bytes (map_block_count c1.maps.map) 0 maps)) ∙ sym (get_or_past maps b [] past))
      (cases_lt b (length maps))
    where
      not_below : (b n : ℕ) → n ≤ b → ltb b n ≡ false
      not_below b n le = grind (arith, nat_tests)

  -- some of the marks changed
  pub marks_changed : MarksBetween core.maps mine true maps over
  marks_changed = record {
    long = over_long c1.maps.map.bytes (map_block_count c1.maps.map) 0 maps;
    rest = rest;
    marks = record {
      each = λ r low.
          elim (bits.each r low) [
            | inl same ↦ inl (now_marked r low ∙ same ∙ sym (was_as r low))
            | inr set ↦ inr (set.0, now_marked r low ∙ set.1)
          ];
    };
  }
