-- Disks of which it is known what they hold have a configuration.
use Rattle.std.proofs.Common.{◌≡◌, ◌⊎◌, inl, inr, ℕ, ◌<◌, ◌≤◌, false, IsTrue, List, [], refl, sym, ◌∙◌, ap, subst, arith}
use Rattle.std.specs.Prelude.{Contains}
use Rattle.vx_disk.specs.Shelf.{Each, Image, Lawful, Meaning}
use Rattle.vx_history.specs.Groups.{GroupNode}
use Rattle.vx_history.specs.World.{Node}
use Rattle.vx_config.specs.declared.config.Config.{Config}
use Rattle.vx_config.specs.declared.entry.DiskEntry.{DiskEntry}
use Rattle.vx_copyio.specs.Labelling.{HasSmall}
use Rattle.vx_kept.specs.Cleans.{at_serial}
use Rattle.vx_kept.specs.Trusts.{FailsAll}
use Rattle.vx_group.specs.Resumes.{CanImport}
use Rattle.vx_grouped.specs.Away.{AwayLies, AwayFit}
use Rattle.vx_grouped.specs.GroupNotes.{NotesFound, noted_try}
use Rattle.vx_grouped.proofs.RunMapLemmas.{in_none}
use Rattle.vx_grouped.proofs.WhyLemmas.{HoldsAny, one_unread}

-- a configuration of an image holds the disks as failed that the note does
disks_as : (note : GroupNode) (c : Config) → note.begun ≡ [] → (x : Config) → (at_serial 0 x ≡ at_serial 0 c) ⊎ Contains note.begun (noted_try x) → x.disks ≡ c.disks
disks_as note c none x (inl same) = ap (λ (y : Config). y.disks) same
disks_as note c none x (inr has) = absurd (in_none note.begun (noted_try x) none has)

module _ (n : Node) (note : GroupNode) (last c : Config) (m : Meaning) (law : Lawful m) (lies : AwayLies n note last m) (can : CanImport m) (found : NotesFound note c m) (fit : AwayFit n c) where
  each_of : (i : Image) → Each m.reads i → Each m.leaves i
  each_of i read = λ u b. law.shown u b (i u b) (read u b)

  never_small : HasSmall m → ⊥
  never_small it =
      let there : it.unit < n.disks = subst (λ (k : ℕ). it.unit < k) lies.units it.there in
      let large : 1024 ≤ n.blocks = fit.large (omega (arith, there)) in
      let size : m.size it.unit ≡ n.blocks = lies.size it.unit there in
      let small : m.size it.unit < 1024 = it.small in
      omega (arith, large, size, small)

  pub holds_any : IsTrue m.tells → note.loose ≡ false → note.begun ≡ [] → HoldsAny m
  holds_any tells tight none = record {
    tells = tells;
    large = never_small;
    unread = λ i readable read is. one_unread m i readable (lies.finds i (each_of i read)) is;
    some = λ i readable x read is all.
        let each : Each m.leaves i = each_of i read in
        let same : x.disks ≡ c.disks = disks_as note c none x (found.each tight i x each (can.one i i readable x each each is)) in
        fit.some (subst (λ (ds : List DiskEntry). FailsAll ds) same all);
  }
