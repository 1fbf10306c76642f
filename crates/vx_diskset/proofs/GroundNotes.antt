-- What a site notes of its group behind calls of which there is an account, whatever it notes of the volumes.
use Rattle.std.proofs.Common.{◌≡◌, ◌∙◌, ◌⊎◌, inl, inr, zero, suc, ℕ, ◌<◌, Bool, true, false, not, IsTrue, IsFalse, List, [], ◌∷◌, ◌++◌, ap, arith, refl, subst, sym}
use Rattle.std.specs.Prelude.{◌^◌, if◌then◌else◌}
use Rattle.std.proofs.lemmas.Bool.{cases_lt}
use Rattle.vx_disk.specs.Counts.{Rose}
use Rattle.vx_disk.specs.Shelf.{Each, Image, Meaning}
use Rattle.vx_disk.specs.declared.shelf.Shelf.{Ghosts}
use Rattle.vx_history.specs.Groups.{BlockMay, GroupNode, NoteWorks}
use Rattle.vx_history.specs.World.{Node}
use Rattle.vx_config.specs.Configs.{HasSpelling}
use Rattle.vx_config.specs.declared.config.Config.{Config}
use Rattle.vx_copyfmt.specs.Imports.{Found}
use Rattle.vx_kept.specs.Cleans.{at_serial}
use Rattle.vx_kept.specs.Finds.{AllAtOnce}
use Rattle.vx_kept.specs.Groups.{found}
use Rattle.vx_group.specs.Holding.{wide}
use Rattle.vx_group.proofs.HoldLemmas.{wide_none}
use Rattle.vx_group.specs.declared.group_core.GroupCore.{GroupCore}
use Rattle.vx_group.specs.declared.inner.Inner.{Inner}
use Rattle.vx_watched.specs.Since.{CalledSince}
use Rattle.vx_watched.specs.Traces.{TellsLess}
use Rattle.vx_events.specs.RvgWorks.{NoteAgrees}
use Rattle.vx_ground.specs.Accounts.{DisksQuiet, GroundSince, ground_state}
use Rattle.vx_ground.proofs.AccountLemmas.{rose_or}
use Rattle.vx_groupmaps.specs.Loading.{DeviceRose}
use Rattle.vx_ground.specs.Lifted.{laid_volumes}
use Rattle.vx_grouped.specs.GroupNotes.{GroupLies, ImagesAre, is_sure, noted_config}
use Rattle.vx_grouped.specs.GroupSites.{GroupFallen, GroupUp, IsLit, laid_below, laid_disks, with_note}
use Rattle.vx_grouped.specs.declared.laid.Laid.{Laid}
use Rattle.vx_grouped.proofs.ImageLemmas.{sure_by, sure_free, sure_kept}
use Rattle.vx_grouped.proofs.SettleLemmas.{fuse_burned}
use Rattle.vx_grouped.proofs.SiteLemmas.{lies_as, noted_with, up_with}
use Rattle.vx_grouped.proofs.TraceLemmas.{lit_since}
use Rattle.vx_diskset.specs.Noted.{AgreesStill, IsNoteTidy}

-- ---- a note under which commits may have been begun: imports may disagree then

abbrev pub note_ground : (x : List ℕ) → GroupCore → GroupNode → GroupNode
note_ground x core note = record note { config = noted_config core.inner.config; begun = if is_sure core then [] else x ∷ note.begun; loose = not (is_sure core) }

works_begun : (sure loose : Bool) (x : List ℕ) (begun : List (List ℕ))
    → ((if sure then [] else x ∷ begun) ≡ (if sure then [] else x ∷ [])) ⊎ (((if sure then [] else x ∷ begun) ≡ (if sure then [] else x ∷ []) ++ begun) × (loose ≡ true → not sure ≡ true))
works_begun true loose x begun = inl refl
works_begun false loose x begun = inr (refl, λ is. refl)

works_tight : (sure : Bool) (x : List ℕ) → (if sure then [] else x ∷ []) ≡ [] → not sure ≡ false
works_tight true x none = refl
works_tight false x none = absurd (let wrong : x ∷ [] ≡ [] = none in cc)

pub note_works : (core : GroupCore) (note : GroupNode) (x : List ℕ) → NoteWorks note (note_ground x core note)
note_works core note x = record {
  same = record { dark = refl; bytes = refl; others = refl; cut = refl; maps = refl; inside = refl };
  firsts = if is_sure core then [] else x ∷ [];
  begun = works_begun (is_sure core) note.loose x note.begun;
  tight = λ was none firsts. works_tight (is_sure core) x firsts;
}

pub sure_of : (sure : Bool) → not sure ≡ false → sure ≡ true
sure_of true is = refl
sure_of false is = absurd (let wrong : true ≡ false = is in cc)

-- nothing is begun while imports agree
pub ground_tidy : (x : List ℕ) (core : GroupCore) (note : GroupNode) → IsNoteTidy (note_ground x core note)
ground_tidy x core note = λ tight. ap (λ (b : Bool). if b then [] else x ∷ note.begun) (sure_of (is_sure core) tight)

-- ---- whether a call failed on one of the first disks

rose_within : (m m' : Meaning) (n : ℕ) → DeviceRose m m' ⊎ ((u : ℕ) → u < n → Rose (m.disk_faults u) (m'.disk_faults u) → ⊥)
rose_within m m' zero = inr (λ u low rose. omega (arith, low))
rose_within m m' (suc n) = elim (rose_or (m.disk_faults n) (m'.disk_faults n)) [
  | inl rose ↦ inl (record { disk = n; rose = rose })
  | inr none ↦ elim (rose_within m m' n) [
    | inl some ↦ inl some
    | inr less ↦ inr (λ u low rose. elim (cases_lt u n) [
      | inl below ↦ less u below rose
      | inr above ↦
          let same : u ≡ n = omega (arith, low, above) in
          none (subst (λ (k : ℕ). Rose (m.disk_faults k) (m'.disk_faults k)) same rose)
    ])
  ]
]

-- ---- the group of a site that noted `was` before the calls; `base` is what it notes of the volumes behind them

-- by what the note says of imports
pub calm_by : (note next : GroupNode) (old new : Meaning) → AgreesStill note next old new → (NoteAgrees note → NoteAgrees next) ⊎ DeviceRose old new
calm_by note next old new (inl keeps) = inl (λ agrees. let so = keeps agrees.loose agrees.begun in record { loose = so.0; begun = so.1 })
calm_by note next old new (inr some) = inr some

module _ {R : Type 0} {g : Ghosts R} (site : Node) (was base : GroupNode) (x : Config) (old new : Laid R g) (up : GroupUp site was (laid_below old).tells old.core (laid_disks old))
    (ground : GroundSince (record (ground_state old.core) { config = x }) (laid_disks old) (ground_state new.core) (laid_disks new)) (since : CalledSince (laid_disks old) (laid_disks new)) (less : TellsLess (laid_below old) (laid_below new))
    (dark : base.dark ≡ was.dark) (size : (v : ℕ) → base.bytes.size v ≡ (laid_volumes new).size v)
    (may : (v b : ℕ) (y : List ℕ) → v < (laid_volumes new).units → b < (laid_volumes new).size v → (laid_volumes new).leaves v b y → BlockMay base v b y) where
  abbrev pub next : GroupNode
  next = note_ground (noted_config new.core.inner.config) new.core base

  pub ground_lit : IsLit next (laid_below new).tells (laid_disks new)
  ground_lit = lit_since was next (laid_below old).tells (laid_below new).tells (laid_disks old) (laid_disks new) dark since.tells less up.lit

  newest : new.core.inner.committed ≡ true → AllAtOnce (wide new.core).config (laid_disks new)
  newest is = ground.newest up.at.lies.images.openly up.at.lies.images.newest is

  found_one : is_sure new.core ≡ true → (i : Image) (y : Config) → Each (laid_disks new).leaves i → found (laid_disks new) i ≡ Found y → at_serial 0 y ≡ at_serial 0 new.core.inner.config
  found_one sure i y each is =
      let config : (wide new.core).config ≡ new.core.inner.config = ap (λ (e : Inner). e.config) (wide_none new.core (sure_free new.core.inner.committed new.core.held sure)) in
      subst (λ (z : Config). at_serial 0 y ≡ at_serial 0 z) config ((newest (sure_kept new.core.inner.committed new.core.held sure)).each i y each is)

  images : ImagesAre next new.core (laid_disks new)
  images = record {
    noted = record { each = λ tight i y each is. inl (found_one (sure_of (is_sure new.core) tight) i y each is) };
    newest = newest;
    openly = ground.openly up.at.lies.images.openly;
    free = λ tight none. sure_free new.core.inner.committed new.core.held (sure_of (is_sure new.core) tight);
  }

  pub ground_lies : GroupLies site next new.core (laid_disks new)
  ground_lies = record {
    units = since.units ∙ up.at.lies.units;
    size = λ u low. since.size u ∙ up.at.lies.size u low;
    config = refl;
    agreed = λ tight. new.stands.group.stands.trusts.both (sure_kept new.core.inner.committed new.core.held (sure_of (is_sure new.core) tight));
    committed = λ tight none. sure_kept new.core.inner.committed new.core.held (sure_of (is_sure new.core) tight);
    images = images;
    holds = record { size = size; has = may };
  }

  agrees_then : IsFalse (laid_disks new).down → DisksQuiet (laid_disks old) (laid_disks new) → was.loose ≡ false → was.begun ≡ [] → (next.loose ≡ false) × (next.begun ≡ [])
  agrees_then is quiet tight none =
      let sure : is_sure new.core ≡ true =
      ground.sure (sure_by old.core.inner.committed old.core.held (up.at.lies.committed tight none) (up.at.lies.images.free tight none)) quiet (λ down. let wrong : false ≡ true = sym is ∙ down in cc) in
      (ap not sure, ap (λ (b : Bool). if b then [] else noted_config new.core.inner.config ∷ base.begun) sure)

  -- where imports agreed they do, or a call failed
  pub ground_agrees : IsFalse (laid_disks new).down → AgreesStill was next (laid_disks old) (laid_disks new)
  ground_agrees is = elim (rose_within (laid_disks old) (laid_disks new) (2 ^ 32)) [
    | inl rose ↦ inr rose
    | inr quiet ↦ inl (agrees_then is (record { none = quiet }))
  ]

  module _ (spells : HasSpelling (at_serial 0 new.core.inner.config)) where
    -- its disks are up
    pub ground_up : IsFalse (laid_disks new).down → GroupUp (with_note next site) next (laid_below new).tells new.core (laid_disks new)
    ground_up is = up_with site was next (laid_below new).tells new.core (laid_disks new) up.noted ground_lit spells (fuse_burned site.fuse (laid_disks old) (laid_disks new) since.unarmed up.fuse)
        (record { state = up.at.state; up = λ down. let wrong : false ≡ true = sym is ∙ down in absurd (cc); lies = ground_lies })

    -- or they are down
    pub ground_cut : IsTrue (laid_disks new).down → GroupFallen (with_note next site) next (laid_below new).tells new.core (laid_disks new)
    ground_cut down = record {
      noted = noted_with site was next up.noted;
      lit = ground_lit;
      spells = spells;
      cut = record { down = down; lies = lies_as site (with_note next site) next new.core (laid_disks new) refl refl ground_lies };
    }
