-- A call over the parts of a group of which no plex is held back, and the plex that is held back behind it; a plex that is detached.
use Rattle.std.proofs.Common.{◌≡◌, None, Option, ℕ, List, ap, sym, ◌∙◌, subst, arith}
use Rattle.vx_disk.specs.Shelf.{Goes, Lawful, Meaning, Nothing}
use Rattle.vx_config.specs.declared.config.Config.{Config}
use Rattle.vx_config.specs.declared.entry.DiskEntry.{DiskEntry}
use Rattle.vx_copies.specs.Commits.{MoreFailed}
use Rattle.vx_fmr.specs.Missed.{Missed}
use Rattle.vx_volume.specs.Plexes.{active}
use Rattle.vx_kept.specs.Keeping.{Acts, SameShape, Sees}
use Rattle.vx_kept.proofs.StateLemmas.{then_shape}
use Rattle.vx_group.specs.Attaches.{Attaches}
use Rattle.vx_group.specs.Calls.{GroupAttaches, GroupNarrows, members_by}
use Rattle.vx_group.specs.Finds.{CoreFinds}
use Rattle.vx_group.specs.Holding.{GroupStands, HeldBack, config_by, wide}
use Rattle.vx_group.specs.Loses.{SameParts}
use Rattle.vx_group.specs.Moves.{Narrows}
use Rattle.vx_group.specs.Stands.{inner_meaning, volume_faults}
use Rattle.vx_group.specs.declared.group_core.GroupCore.{GroupCore}
use Rattle.vx_group.specs.declared.group_core.Held.{Held}
use Rattle.vx_group.specs.declared.inner.Inner.{Inner}
use Rattle.vx_group.proofs.CallLemmas.{narrows_Goes}
use Rattle.vx_group.proofs.HoldLemmas.{back_rest, wide_none}
use Rattle.vx_group.proofs.LoseLemmas.{then_parts}
use Rattle.vx_group.specs.Settles.{CoreSettles}

module _ (c d : GroupCore) (e : Inner) (m m' : Meaning) (none : c.held ≡ None) (is : wide d ≡ e) where
  pub alone_attaches : (v p : ℕ) (f : Option Missed) → Attaches v p f c.inner e m m' → SameShape d.inner.config e.config → ((w q : ℕ) → (w ≡ v → q ≡ p → ⊥) → active d.inner.config w q ≡ active e.config w q) → SameParts e.config d.inner.config → GroupAttaches v p f c d m m'
  alone_attaches v p f attaches shape others last = record {
    goes = subst (λ (i : Inner). Goes Nothing (inner_meaning (wide c) m) (inner_meaning i m')) (sym is) (subst (λ (i : Inner). Goes Nothing (inner_meaning i m) (inner_meaning e m')) (sym (wide_none c none)) attaches.goes);
    acts = attaches.acts;
    shape = then_shape d.inner.config e.config c.inner.config shape attaches.shape;
    others = λ w q apart. others w q apart ∙ attaches.others w q apart;
    parts = then_parts c.inner.config e.config d.inner.config attaches.parts last;
    faults = ap (λ (i : Inner). i.faults) is ∙ attaches.faults;
    unsure = ap (λ (i : Inner). i.unsure) is ∙ attaches.unsure;
  }

  pub alone_core : CoreFinds c.inner e m m' → CoreFinds (wide c) (wide d) m m'
  alone_core finds = subst (λ (i : Inner). CoreFinds (wide c) i m m') (sym is) (subst (λ (i : Inner). CoreFinds i e m m') (sym (wide_none c none)) finds)

  pub alone_told : CoreSettles c.inner e m m' → CoreSettles (wide c) (wide d) m m'
  alone_told told = subst (λ (i : Inner). CoreSettles (wide c) i m m') (sym is) (subst (λ (i : Inner). CoreSettles i e m m') (sym (wide_none c none)) told)

-- the disks are those of before
pub back_failing : (v p : ℕ) (c d : GroupCore) → c.held ≡ None → HeldBack v p c d → (ds : List DiskEntry) (m m' : Meaning) → MoreFailed m m' ds c.inner.config.disks → MoreFailed m m' ds d.inner.config.disks
back_failing v p c d none back ds m m' failing = subst (λ (xs : List DiskEntry). MoreFailed m m' ds xs) (sym (ap (λ (x : Config). x.disks) (back_rest v p c d none back))) failing

-- ---- a commit that detaches a plex, where none is held back

module _ (c d : GroupCore) (m m' : Meaning) (none : c.held ≡ None) (still : d.held ≡ None) (it : Narrows c.inner d.inner m m') where
  pub alone_wide : Narrows (wide c) (wide d) m m'
  alone_wide = subst (λ (i : Inner). Narrows i (wide d) m m') (sym (wide_none c none)) (subst (λ (i : Inner). Narrows c.inner i m m') (sym (wide_none d still)) it)

  pub alone_goes : GroupStands c m → Lawful m' → Goes Nothing (inner_meaning (wide c) m) (inner_meaning (wide d) m')
  alone_goes stands lawful = narrows_Goes (wide c) (wide d) m m' lawful stands.stands alone_wide (volume_faults c.inner.faults) (volume_faults d.inner.faults) (λ u. let same = ap (λ (f : List ℕ). volume_faults f u) it.faults in omega (arith, same))

  pub alone_narrows : GroupNarrows c d m m'
  alone_narrows = record {
    acts = subst (λ (o : Option Held). Acts Nothing (Sees (config_by o c.inner.config) (members_by o c.inner.good m) m) m m') (sym none) it.acts;
    shape = it.shape;
    on = it.on;
    wide_on = alone_wide.on;
    faults = it.faults;
    unsure = it.unsure;
  }
