-- What the calls of a group say of two configurations in memory, one before and one behind.
use Rattle.std.proofs.Common.{◌≡◌, ◌∙◌, ◌⊎◌, inl, inr, zero, suc, List, [], ◌∷◌, ℕ, ◌<◌, ◌≤◌, IsTrue, length, refl, sym, subst, arith}
use Rattle.std.specs.Prelude.{Option, Some, None, Result, Ok, Err, OnOk}
use Rattle.std.proofs.lemmas.Bool.{cases_lt}
use Rattle.vx_model.specs.declared.errors.Stop.{Stop}
use Rattle.vx_model.specs.declared.errors.Stop.TheVariants.{No as Refused, OutOfMemory}
use Rattle.vx_model.specs.declared.no.No.{No}
use Rattle.vx_disk.specs.Shelf.{Meaning}
use Rattle.vx_config.specs.declared.entry.DiskEntry.{DiskEntry}
use Rattle.vx_copies.specs.Commits.{MoreFailed}
use Rattle.vx_copies.specs.Marks.{blocks_at}
use Rattle.vx_copies.proofs.OneTry.{wanted_count}
use Rattle.vx_volume.specs.Plexes.{active, uses}
use Rattle.vx_kept.specs.Keeping.{SameShape, frame_at}
use Rattle.vx_group.specs.Holding.{GroupStands, wide}
use Rattle.vx_group.specs.Loses.{SameParts}
use Rattle.vx_group.specs.Makes.{Unmoved}
use Rattle.vx_group.specs.Regains.{Regains}
use Rattle.vx_group.specs.declared.group_core.GroupCore.{GroupCore}
use Rattle.vx_group.proofs.HoldLemmas.{narrow_on, narrow_sound}
use Rattle.vx_group.proofs.Standing.{disks_fit}
use Rattle.vx_grouped.specs.Added.{IsUnmoved}
use Rattle.vx_grouped.specs.ConfigMoves.{none_again}
use Rattle.vx_grouped.specs.CoreMoves.{BothOn, CoreMoves}
use Rattle.vx_grouped.proofs.MovesLemmas.{core_moves}
use Rattle.vx_grouped.proofs.NoteLemmas.{blocks_same}

-- where memory ran out nothing has changed
pub still_by : (T U : Type 0) (stop : Stop) (P : Type 0) → Unmoved {T = T} (Err stop) P → IsUnmoved {T = U} (Err stop) P
still_by T U (Refused why) P it = tt
still_by T U OutOfMemory P it = it

pub still_more : {T : Type 0} (r : Result T Stop) (P Q : Type 0) → (P → Q) → IsUnmoved r P → IsUnmoved r Q
still_more (Ok done) P Q more it = tt
still_more (Err (Refused why)) P Q more it = tt
still_more (Err OutOfMemory) P Q more it = more it

-- where a plex was ACTIVE an attach has done nothing
pub stays_by : {T : Type 0} (r : Result T Stop) (o : Option No) (v p : ℕ) (c d : GroupCore) → ((why : No) → o ≡ Some why → r ≡ Err (Refused why)) → (o ≡ None → d ≡ c) → IsTrue (active c.inner.config v p) → OnOk r (IsTrue (active d.inner.config v p))
stays_by (Err stop) o v p c d refused same is = tt
stays_by (Ok done) None v p c d refused same is = subst (λ (x : GroupCore). IsTrue (active x.inner.config v p)) (sym (same refl)) is
stays_by (Ok done) (Some why) v p c d refused same is = absurd (never (refused why refl))
  where
    never : Ok done ≡ Err (Refused why) → ⊥
    never clash = cc

past : (ds : List DiskEntry) (u : ℕ) → length ds ≤ u → blocks_at ds u ≡ 0
past [] u high = refl
past (d ∷ ds) zero high = absurd (omega (arith, high))
past (d ∷ ds) (suc u) high = past ds u (omega (arith, high))

module _ (c d : GroupCore) (m m' : Meaning) (one : GroupStands c m) (two : GroupStands d m') where
  first_count : length c.inner.config.disks ≡ m.units
  first_count = wanted_count m.units m.size (wide c).config one.stands.wanted

  last_count : length d.inner.config.disks ≡ m'.units
  last_count = wanted_count m'.units m'.size (wide d).config two.stands.wanted

  pub both_on : BothOn c.inner.config d.inner.config m.units
  both_on = record { was = narrow_on c m one; now = narrow_on d m' two; sound = narrow_sound c m one; count = first_count }

  -- a call in which disks may have failed
  pub moves_by : SameParts c.inner.config d.inner.config → ((v : ℕ) → frame_at d.inner.config v ≡ frame_at c.inner.config v) → MoreFailed m m' c.inner.config.disks d.inner.config.disks → CoreMoves none_again c.inner.config d.inner.config m m'
  moves_by parts frames failing = core_moves c.inner.config d.inner.config m m' parts frames failing both_on

  -- one in which disks may be held as good again
  module _ (units : m'.units ≡ m.units) (size : (u : ℕ) → m'.size u ≡ m.size u) where
    blocks : (u : ℕ) → (u < m.units) ⊎ (m.units ≤ u) → blocks_at d.inner.config.disks u ≡ blocks_at c.inner.config.disks u
    blocks u (inl low) =
        let low_c : u < length c.inner.config.disks = (let is = first_count in omega (arith, low, is)) in
        let low_d : u < length d.inner.config.disks = (let is = last_count in omega (arith, low, is, units)) in
        sym (blocks_same d.inner.config.disks u low_d) ∙ sym ((disks_fit (wide d).config m' two.stands.wanted).size u low_d) ∙ size u
        ∙ (disks_fit (wide c).config m one.stands.wanted).size u low_c ∙ blocks_same c.inner.config.disks u low_c
    blocks u (inr high) = past d.inner.config.disks u (let is = last_count in omega (arith, high, is, units)) ∙ sym (past c.inner.config.disks u (let is = first_count in omega (arith, high, is)))

    pub regains_by : (v p : ℕ) → SameParts c.inner.config d.inner.config → SameShape d.inner.config c.inner.config → Regains c.inner.config d.inner.config v p m m' → CoreMoves (uses c.inner.config v p) c.inner.config d.inner.config m m'
    regains_by v p parts shape it = record {
      parts = parts;
      frames = shape.frames;
      on = both_on;
      blocks = λ u. blocks u (cases_lt u m.units);
      blamed = it.blamed;
      stays = λ u off failed. it.others u failed off;
    }
