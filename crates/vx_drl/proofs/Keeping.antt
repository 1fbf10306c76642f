-- What a dirty region log keeps.
use Rattle.std.proofs.Common.{◌≡◌, ◌∙◌, inl, ⊎_elim, ℕ, ◌+◌, ◌*◌, ◌<◌, ◌≤◌, Bool, true, false, List, length, refl, sym, ap, arith}
use Rattle.std.specs.Int.{div_ceil}
use Rattle.std.proofs.lemmas.Bool.{cases_eq}
use Rattle.vx_model.specs.Sizes.{map_blocks}
use Rattle.vx_bitmap.specs.Bits.{AllAre, Between, is_marked}
use Rattle.vx_bitmap.specs.Maps.{Map}
use Rattle.vx_config.specs.Checks.{blocks_of}
use Rattle.vx_config.specs.declared.config.Config.{Config}
use Rattle.vx_config.specs.declared.entry.VolumeLog.TheVariants.{Drl as DrlLog}
use Rattle.vx_maplog.specs.Logs.{LogLoaded}
use Rattle.vx_drl.specs.Dirty.{Dirty, HoldsMarks, IsDirtyKept, held_with, is_dirty}

-- the map of a log has a bit for each region of the volume
pub kept_of : (c : Config) (v : ℕ) (map : Map) (blocks regions : ℕ) → LogLoaded c v DrlLog map → blocks ≡ blocks_of c.volumes v → 0 < blocks → regions ≡ div_ceil blocks 64 → IsDirtyKept map regions
kept_of c v map blocks regions log is some count =
    let long : length map.bytes ≡ 512 * (1 * map_blocks (blocks_of c.volumes v)) = log.run.long in
    let long' : length map.bytes ≡ 512 * (1 * map_blocks blocks) = long ∙ ap (λ (n : ℕ). 512 * (1 * map_blocks n)) (sym is) in
    let long'' : length map.bytes ≡ 512 * (1 * div_ceil regions 4096) = long' ∙ ap (λ (n : ℕ). 512 * (1 * div_ceil n 4096)) (sym count) in
    record { some = omega (arith, count, some); fit = omega (arith, long'') }

-- the marks that are held, by whether all regions were marked
pub holds_of : (first last : ℕ) (old new : Dirty) (marked : Bool) → (marked ≡ true → AllAre first last true (is_dirty old)) → (AllAre first last true (is_dirty old) → marked ≡ true)
    → new.held ≡ held_with marked first last old.held → HoldsMarks first last old new
holds_of first last old new true all each is = record { same = λ are. is; more = λ none. absurd (none (all refl)) }
holds_of first last old new false all each is = record { same = λ are. absurd (let clash : false ≡ true = each are in cc); more = λ none. is }

-- the regions below one are marked
pub record MarkedTo (first n : ℕ) (bytes : List ℕ) : Type 0 where
  pub each : (r : ℕ) → first ≤ r → r < n → is_marked bytes r ≡ true

pub marked_next : (first n : ℕ) (bytes : List ℕ) → MarkedTo first n bytes → is_marked bytes n ≡ true → MarkedTo first (n + 1) bytes
marked_next first n bytes to is = record {
  each = λ r low high. ⊎_elim (λ (same : r ≡ n). ap (λ (k : ℕ). is_marked bytes k) same ∙ is) (λ (other : r ≡ n → ⊥). to.each r low (omega (arith, high, other))) (cases_eq r n);
}

pub unmarked : (first last n : ℕ) (bytes : List ℕ) → first ≤ n → n ≤ last → is_marked bytes n ≡ false → AllAre first last true (is_marked bytes) → false ≡ true
unmarked first last n bytes low high is all = sym is ∙ all.each n low high

pub nothing_between : (start end : ℕ) (value : Bool) (n : ℕ) (marks : ℕ → Bool) → Between start end value n marks marks
nothing_between start end value n marks = record { each = λ r low. inl refl }
