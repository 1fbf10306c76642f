-- What a site notes of its group, behind a call.
use Rattle.std.proofs.Common.{◌≡◌, ℕ, zero, suc, ◌<◌, ◌||◌, Bool, true, false, List, [], ◌∷◌, length, refl, sym, ◌∙◌, arith}
use Rattle.std.specs.Prelude.{if◌then◌else◌, not}
use Rattle.vx_disk.specs.Shelf.{Meaning}
use Rattle.vx_history.specs.Groups.{GroupNode}
use Rattle.vx_history.specs.World.{Node}
use Rattle.vx_config.specs.declared.entry.DiskEntry.{DiskEntry}
use Rattle.vx_copies.specs.Commits.{MoreFailed}
use Rattle.vx_copies.specs.Marks.{blocks_at}
use Rattle.vx_copies.proofs.OneTry.{wanted_count}
use Rattle.vx_layout.specs.Places.{disk_blocks}
use Rattle.vx_group.specs.Finds.{CoreFinds}
use Rattle.vx_group.specs.Holding.{GroupStands, wide}
use Rattle.vx_group.specs.Stands.{inner_meaning}
use Rattle.vx_group.specs.declared.group_core.GroupCore.{GroupCore}
use Rattle.vx_group.proofs.Standing.{disks_fit}
use Rattle.vx_grouped.specs.GroupNotes.{GroupLies, is_sure, loose_by, note_called, noted_config, noted_try}
use Rattle.vx_grouped.specs.Plain.{HoldsPlain}
use Rattle.vx_grouped.proofs.ImageLemmas.{called_sure, images_called, nexts_of, sure_kept, tries}

-- ---- flags: `kept` is committed, `agr` agreed

called_agreed : (sure kept agr l : Bool) → (sure ≡ true → kept ≡ true) → (kept ≡ true → agr ≡ true) → (if sure then false else (l || not agr)) ≡ false → agr ≡ true
called_agreed true kept agr l is both tight = both (is refl)
called_agreed false kept true l is both tight = refl
called_agreed false kept false true is both tight = cc
called_agreed false kept false false is both tight = cc

-- ---- the disks below

pub blocks_same : (ds : List DiskEntry) (u : ℕ) → u < length ds → disk_blocks ds u ≡ blocks_at ds u
blocks_same [] u low = absurd (omega (arith, low))
blocks_same (d ∷ ds) zero low = refl
blocks_same (d ∷ ds) (suc u) low = blocks_same ds u (omega (arith, low))

module _ (c d : GroupCore) (m m' : Meaning) (one : GroupStands c m) (two : GroupStands d m') (failing : MoreFailed m m' c.inner.config.disks d.inner.config.disks) where
  first_count : length c.inner.config.disks ≡ m.units
  first_count = wanted_count m.units m.size (wide c).config one.stands.wanted

  last_count : length d.inner.config.disks ≡ m'.units
  last_count = wanted_count m'.units m'.size (wide d).config two.stands.wanted

  pub rack_units : m'.units ≡ m.units
  rack_units = sym last_count ∙ failing.count ∙ first_count

  pub rack_size : (u : ℕ) → u < m.units → m'.size u ≡ m.size u
  rack_size u low =
      let low_c : u < length c.inner.config.disks = (let is = first_count in omega (arith, low, is)) in
      let low_d : u < length d.inner.config.disks = (let is = failing.count in omega (arith, low_c, is)) in
      (disks_fit (wide d).config m' two.stands.wanted).size u low_d ∙ blocks_same d.inner.config.disks u low_d ∙ failing.blocks u
      ∙ sym (blocks_same c.inner.config.disks u low_c) ∙ sym ((disks_fit (wide c).config m one.stands.wanted).size u low_c)

-- ---- behind a call

module _ (n : Node) (note : GroupNode) (c d : GroupCore) (m m' : Meaning) (lies : GroupLies n note c m) (stands : GroupStands d m') (units : m'.units ≡ m.units) (size : (u : ℕ) → u < m.units → m'.size u ≡ m.size u) where
  sizes : (u : ℕ) → u < n.disks → m'.size u ≡ n.blocks
  sizes u low = size u (let is = lies.units in omega (arith, low, is)) ∙ lies.size u low

  pub lies_called : (finds : CoreFinds (wide c) (wide d) m m') (note' : GroupNode) → note'.config ≡ noted_config d.inner.config → note'.begun ≡ (note_called (nexts_of c d m m' finds) d note).begun → note'.loose ≡ loose_by d note.loose
      → HoldsPlain note' (inner_meaning (wide d) m') → GroupLies n note' d m'
  lies_called finds note' config begun loose holds = record {
    units = units ∙ lies.units;
    size = sizes;
    config = config;
    agreed = λ tight. called_agreed (is_sure d) d.inner.committed d.inner.agreed note.loose (sure_kept d.inner.committed d.held) stands.stands.trusts.both (sym loose ∙ tight);
    committed = λ tight none. sure_kept d.inner.committed d.held (called_sure (noted_try c.inner.config) (tries finds.begun) d note note' begun none);
    images = images_called note c d m m' lies.images finds note' begun loose;
    holds = holds;
  }
