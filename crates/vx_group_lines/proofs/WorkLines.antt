-- What the lines that go to a group hand on to their work.
use Rattle.std.proofs.Common.{◌≡◌, ◌∙◌, ◌*◌, ◌<◌, ◌≤◌, ℕ, Bool, true, false, List, ap, arith, length, refl, replicate, subst, sym}
use Rattle.std.proofs.lemmas.Bool.{and_parts}
use Rattle.std.proofs.lemmas.List.{length-replicate}
use Rattle.std.proofs.lemmas.Bool.Decides.{nat_tests}
use Rattle.std.specs.Prelude.{◌&&◌, ◌^◌, IfOk, IfSome, None, Result, Ok, Err, min, nat_le, nat_lt}
use Rattle.vx_events.proofs.Refused.{when_none}
use Rattle.vx_events.specs.GroupLines.{layout_columns, layout_width, preferred_plex}
use Rattle.vx_order.specs.Volumes.{is_layout, is_volume_shape, preferred_unknown}
use Rattle.vx_script.specs.declared.line.Layout.{Layout}
use Rattle.vx_script.specs.declared.line.Layout.TheVariants.{Concat, Stripe}
use Rattle.vx_script.specs.declared.line.ReadPolicy.{ReadPolicy}
use Rattle.vx_script.specs.declared.line.ReadPolicy.TheVariants.{Round, Prefer}
use Rattle.vx_script.specs.declared.line.ScriptLine.{ScriptLine}
use Rattle.vx_script.specs.declared.line.ScriptLine.TheVariants.{GroupInit, GroupDeport, GroupImport, Volume, PlexDetach, PlexAttach, Rvg, Disk, Crash, Fuse, Recover, Status, Write as WriteLine, Put as PutLine, Read as ReadLine, Show as ShowLine}
use Rattle.vx_script.specs.declared.line.DiskState.{DiskState}
use Rattle.vx_script.specs.declared.line.VolumeLog.{VolumeLog}
use Rattle.vx_script.specs.declared.line.VolumeMap.{VolumeMap}
use Rattle.vx_history.specs.Doubts.{Doubted}
use Rattle.vx_disk.specs.declared.shelf.Shelf.{Ghosts}
use Rattle.vx_diskset.proofs.KeepsFailing.{alone_same, failing_same}
use Rattle.vx_diskset.specs.declared.disk_set.DiskSet.{DiskSet}
use Rattle.vx_events.proofs.RefusedCalls.{CallMay, read_may, show_may}
use Rattle.vx_events.specs.StepsOver.{over_group_at}
use Rattle.vx_yard.proofs.NamedSite.{unbegun_site}
use Rattle.vx_yard.specs.OfSites.{AsAsked, ReadsBy}
use Rattle.vx_yard.specs.Standing.{StandsFor}
use Rattle.vx_yard.specs.Working.{IsFree, takes_memory}
use Rattle.vx_yard.specs.Yards.{in_files}
use Rattle.vx_yard.specs.declared.yard.Yard.{Yard}
use Rattle.vx_group_lines.specs.Plain.IsReadOf.{ByRead, ByShow}
use Rattle.vx_group_lines.specs.Plain.{IsReadAt, IsReadOf, is_block_kind, is_group_kind}

-- ---- answers

-- what holds of every answer
pub ok_any : {T E : Type 0} (P : T → Type 0) (r : Result T E) → ((x : T) → P x) → IfOk r P
ok_any P (Ok x) all = all x
ok_any P (Err e) all = tt

-- a line for which memory may be short
pub memory_short : {P : Type 0} → (words line : ScriptLine) → words ≡ line → takes_memory line ≡ true → takes_memory words ≡ false → P
memory_short words line is taken none = absurd (let e : true ≡ false = sym taken ∙ ap takes_memory (sym is) ∙ none in cc)

-- ---- blocks of one byte

-- no more are asked for than there may be
pub filled_is : (count fill : ℕ) (bytes : List ℕ) → count ≤ 16 → bytes ≡ replicate (512 * min count 16) fill → bytes ≡ replicate (512 * count) fill
filled_is count fill bytes few is = is ∙ ap (λ (n : ℕ). replicate (512 * n) fill) (small few)
  where
    small : count ≤ 16 → min count 16 ≡ count
    small few = omega (arith, few)

pub filled_length : (count fill : ℕ) (bytes : List ℕ) → bytes ≡ replicate (512 * count) fill → length bytes ≡ 512 * count
filled_length count fill bytes is = ap (λ (xs : List ℕ). length xs) is ∙ length-replicate {A = ℕ} (512 * count) fill

-- ---- the shape of a new volume

le_by : (a b : ℕ) → nat_le a b ≡ true → a ≤ b
le_by a b e = grind (arith, nat_tests)

lt_by : (a b : ℕ) → nat_lt a b ≡ true → a < b
lt_by a b e = grind (arith, nat_tests)

more_by : (a b : ℕ) → nat_le a b ≡ false → b < a
more_by a b e = grind (arith, nat_tests)

layout_by : (layout : Layout) → is_layout layout ≡ true → (layout_columns layout ≤ 8) × (layout_width layout ≤ 0xffff_ffff)
layout_by Concat e = (omega arith, omega arith)
layout_by (Stripe columns width) e =
    let one = and_parts (nat_le 1 columns && nat_le columns 8 && nat_le 1 width) (nat_lt width (2 ^ 32)) e in
    let two = and_parts (nat_le 1 columns && nat_le columns 8) (nat_le 1 width) one.0 in
    let three = and_parts (nat_le 1 columns) (nat_le columns 8) two.0 in
    let below : width < 2 ^ 32 = lt_by width (2 ^ 32) one.1 in
    (le_by columns 8 three.1, omega (arith, below))

pub shape_layout : (blocks mirrors : ℕ) (layout : Layout) → is_volume_shape blocks mirrors layout ≡ true → (layout_columns layout ≤ 8) × (layout_width layout ≤ 0xffff_ffff)
shape_layout blocks mirrors layout e =
    layout_by layout (and_parts (nat_le 1 blocks && nat_le blocks (2 ^ 40) && nat_le 1 mirrors) (is_layout layout) e).1

pub prefers_below : (policy : ReadPolicy) (mirrors : ℕ) → preferred_unknown policy mirrors ≡ None → IfSome (preferred_plex policy) (λ p. p < mirrors)
prefers_below Round mirrors e = tt
prefers_below (Prefer plex) mirrors e = more_by mirrors plex (when_none (nat_le mirrors plex) _ e)

-- and so it has a number of the program
pub prefers_few : (policy : ReadPolicy) (mirrors : ℕ) → mirrors ≤ 8 → preferred_unknown policy mirrors ≡ None → IfSome (preferred_plex policy) (λ p. p ≤ 0xffff_ffff)
prefers_few Round mirrors few e = tt
prefers_few (Prefer plex) mirrors few e =
    let below : plex < mirrors = more_by mirrors plex (when_none (nat_le mirrors plex) _ e) in
    omega (arith, below, few)

-- ---- a line that is none of the others

pub rest_blocks : (line : ScriptLine) → is_group_kind line ≡ true → ((a : List ℕ) → line ≡ GroupInit a → ⊥) → ((a : List ℕ) → line ≡ GroupDeport a → ⊥) → ((a : List ℕ) → line ≡ GroupImport a → ⊥) → ((a : List ℕ) (b : List ℕ) (c : ℕ) (d : ℕ) (e : Layout) (f : VolumeLog) (g : VolumeMap) (h : ReadPolicy) → line ≡ Volume a b c d e f g h → ⊥) → ((a : List ℕ) (b : List ℕ) (c : ℕ) → line ≡ PlexDetach a b c → ⊥) → ((a : List ℕ) (b : List ℕ) (c : ℕ) → line ≡ PlexAttach a b c → ⊥) → ((a : List ℕ) (b : List ℕ) (c : List ℕ) (d : List (List ℕ)) → line ≡ Rvg a b c d → ⊥) → ((a : List ℕ) (b : ℕ) (c : DiskState) → line ≡ Disk a b c → ⊥) → ((a : List ℕ) (b : ℕ) → line ≡ Crash a b → ⊥) → ((a : List ℕ) (b : ℕ) (c : ℕ) → line ≡ Fuse a b c → ⊥) → ((a : List ℕ) → line ≡ Recover a → ⊥) → ((a : List ℕ) → line ≡ Status a → ⊥)
    → is_block_kind line ≡ true
rest_blocks (GroupInit a) is w0 w1 w2 w3 w4 w5 w6 w7 w8 w9 w10 w11 = absurd (w0 a refl)
rest_blocks (GroupDeport a) is w0 w1 w2 w3 w4 w5 w6 w7 w8 w9 w10 w11 = absurd (w1 a refl)
rest_blocks (GroupImport a) is w0 w1 w2 w3 w4 w5 w6 w7 w8 w9 w10 w11 = absurd (w2 a refl)
rest_blocks (Volume a b c d e f g h) is w0 w1 w2 w3 w4 w5 w6 w7 w8 w9 w10 w11 = absurd (w3 a b c d e f g h refl)
rest_blocks (PlexDetach a b c) is w0 w1 w2 w3 w4 w5 w6 w7 w8 w9 w10 w11 = absurd (w4 a b c refl)
rest_blocks (PlexAttach a b c) is w0 w1 w2 w3 w4 w5 w6 w7 w8 w9 w10 w11 = absurd (w5 a b c refl)
rest_blocks (Rvg a b c d) is w0 w1 w2 w3 w4 w5 w6 w7 w8 w9 w10 w11 = absurd (w6 a b c d refl)
rest_blocks (Disk a b c) is w0 w1 w2 w3 w4 w5 w6 w7 w8 w9 w10 w11 = absurd (w7 a b c refl)
rest_blocks (Crash a b) is w0 w1 w2 w3 w4 w5 w6 w7 w8 w9 w10 w11 = absurd (w8 a b refl)
rest_blocks (Fuse a b c) is w0 w1 w2 w3 w4 w5 w6 w7 w8 w9 w10 w11 = absurd (w9 a b c refl)
rest_blocks (Recover a) is w0 w1 w2 w3 w4 w5 w6 w7 w8 w9 w10 w11 = absurd (w10 a refl)
rest_blocks (Status a) is w0 w1 w2 w3 w4 w5 w6 w7 w8 w9 w10 w11 = absurd (w11 a refl)
rest_blocks other is w0 w1 w2 w3 w4 w5 w6 w7 w8 w9 w10 w11 = is

pub rest_none : (line : ScriptLine) → is_block_kind line ≡ true → ((a b : List ℕ) (c d e : ℕ) → line ≡ WriteLine a b c d e → ⊥) → ((a b : List ℕ) (c : ℕ) (d : List ℕ) → line ≡ PutLine a b c d → ⊥)
    → ((a b : List ℕ) (c d : ℕ) → line ≡ ReadLine a b c d → ⊥) → ((a b : List ℕ) (c d : ℕ) → line ≡ ShowLine a b c d → ⊥) → ⊥
rest_none (WriteLine a b c d e) is w p r s = w a b c d e refl
rest_none (PutLine a b c d) is w p r s = p a b c d refl
rest_none (ReadLine a b c d) is w p r s = r a b c d refl
rest_none (ShowLine a b c d) is w p r s = s a b c d refl
rest_none other is w p r s = absurd (cc)

-- ---- a line that reads

module _ {R : Type 0} {g : Ghosts R} (y : Yard R g) (name volume : List ℕ) (start count : ℕ) where
  call_by : (line : ScriptLine) → IsReadOf line name volume start count → IsFree y line → CallMay y.facts.items name volume start count
  call_by line (ByRead is) free = read_may y.facts.items (in_files y) name volume start count (subst (λ (l : ScriptLine). IsFree y l) is free)
  call_by line (ByShow is) free = show_may y.facts.items (in_files y) name volume start count (subst (λ (l : ScriptLine). IsFree y l) is free)

  pub reads_may : IsReadAt y name volume start count → CallMay y.facts.items name volume start count
  reads_may (line, is, free) = call_by line is free

  none_read : (b : Bool) (e : DiskSet R g) → ReadsBy b e e
  none_read true e = failing_same e
  none_read false e = alone_same e

  -- one for which memory was short
  pub reads_none : (d : Doubted) (line : ScriptLine) → StandsFor d y → IsReadOf line name volume start count → IsFree y line → AsAsked d.world line y y
  reads_none d line stands (ByRead is) free =
      subst (λ (l : ScriptLine). AsAsked d.world l y y) (sym is)
      (unbegun_site (ReadsBy (over_group_at d.world name)) d y name (none_read (over_group_at d.world name)) stands (call_by line (ByRead is) free).site)
  reads_none d line stands (ByShow is) free =
      subst (λ (l : ScriptLine). AsAsked d.world l y y) (sym is)
      (unbegun_site (ReadsBy (over_group_at d.world name)) d y name (none_read (over_group_at d.world name)) stands (call_by line (ByShow is) free).site)
