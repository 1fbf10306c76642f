-- `hold_one`: its result.
use Rattle.std.proofs.Common.{◌≡◌, inl, inr, true, false, List, length, refl, ap, sym, ◌∙◌, arith}
use Rattle.vx_config.specs.declared.entry.DiskEntry.{DiskEntry}
use Rattle.vx_copies.specs.Marks.{failed_at}
use Rattle.vx_copies.proofs.Settling.{failed_at as failed_is, no_disk}
use Rattle.vx_group.proofs.regaining.hold_one.Goals as goal

pub returns-then-not-uses : goal.returns-then-not-uses
returns-then-not-uses c = inr (refl, λ is. absurd (let clash : false ≡ true = sym c.if-not-uses.true ∙ c.uses.ensures ∙ is in cc), refl)

pub returns-then-not-as_slice-disk : goal.returns-then-not-as_slice-disk
returns-then-not-as_slice-disk c = inr (
  refl,
  λ is.
      ap (λ (ds : List DiskEntry). failed_at ds c.args.disk) (sym c.as_slice.ensures.disks)
      ∙ failed_is c.as_slice.result.now c.args.disk no_disk (let same = ap length c.as_slice.ensures.disks in let lt = c.requires.inside in omega (arith, same, lt))
      ∙ c.if-not-as_slice-disk.true,
  refl,
)

pub returns : goal.returns
returns c = inl (c.hold_good.ensures, sym c.uses.ensures ∙ c.if-not-uses.false, refl)
