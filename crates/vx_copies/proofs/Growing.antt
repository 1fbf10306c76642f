-- Of two calls after each other, what each makes of a configuration and of the disks that it holds as failed.
use Rattle.std.proofs.Common.{inl, inr, ℕ, ◌≤◌, List, ◌∙◌, arith}
use Rattle.vx_disk.specs.Shelf.{Meaning}
use Rattle.vx_disk.proofs.Causing.{Rose_after, Rose_before}
use Rattle.vx_config.specs.declared.config.Config.{Config}
use Rattle.vx_config.specs.declared.entry.DiskEntry.{DiskEntry}
use Rattle.vx_copies.specs.Commits.{Grown, IsBefore, MoreFailed}
use Rattle.vx_copies.proofs.OneTry.{held_or}

module _ (old mid new : Meaning) (one : (u : ℕ) → old.faults u ≤ mid.faults u) (two : (u : ℕ) → mid.faults u ≤ new.faults u) where
  more_both : (a b c : List DiskEntry) → MoreFailed old mid a b → MoreFailed mid new b c → MoreFailed old new a c
  more_both a b c first second = record {
    count = second.count ∙ first.count;
    blocks = λ u. second.blocks u ∙ first.blocks u;
    stays = λ u failed. second.stays u (first.stays u failed);
    blamed = λ u was is. elim (held_or b u) [
      | inl good ↦ Rose_before _ _ _ (one u) (second.blamed u good is)
      | inr failed ↦ Rose_after _ _ _ (first.blamed u was failed) (two u)
    ];
  }

  pub grown_both : (a c d : Config) → Grown old mid a c → Grown mid new c d → Grown old new a d
  grown_both a c d first second = record {
    site = second.site ∙ first.site;
    disks = more_both a.disks c.disks d.disks first.disks second.disks;
    volumes = second.volumes ∙ first.volumes;
    rvg = second.rvg ∙ first.rvg;
  }

  -- counts that rose before
  more_later : (a b : List DiskEntry) → MoreFailed old mid a b → MoreFailed old new a b
  more_later a b first = record {
    count = first.count;
    blocks = first.blocks;
    stays = first.stays;
    blamed = λ u was is. Rose_after _ _ _ (first.blamed u was is) (two u);
  }

  grown_later : (a c : Config) → Grown old mid a c → Grown old new a c
  grown_later a c first = record { site = first.site; disks = more_later a.disks c.disks first.disks; volumes = first.volumes; rvg = first.rvg }

  pub before_later : (a c d : Config) → c.serial ≤ d.serial → Grown mid new c d → (s : ℕ) (x : Config) → IsBefore a c old mid s x → IsBefore a d old new s x
  before_later a c d le grown s x before = record {
    is = record { serial_is = before.is.serial_is; above = before.is.above; within = omega (arith, before.is.within, le); grown = grown_later a x before.is.grown };
    fewer = λ u failed. grown.disks.stays u (before.fewer u failed);
  }

  pub before_first : (a c d : Config) → a.serial ≤ c.serial → Grown old mid a c → (s : ℕ) (x : Config) → IsBefore c d mid new s x → IsBefore a d old new s x
  before_first a c d le grown s x before = record {
    is = record { serial_is = before.is.serial_is; above = omega (arith, before.is.above, le); within = before.is.within; grown = grown_both a c x grown before.is.grown };
    fewer = before.fewer;
  }
