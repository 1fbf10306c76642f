-- `read_in`: clauses stands, goes, shown and ok; what `read` asks.
use Rattle.std.proofs.Common.{ℕ, ◌/◌, ◌∙◌, length, refl, sym, subst, arith}
use Rattle.vx_volume.specs.Volumes.{PlexRead}
use Rattle.vx_group.specs.Holding.{wide}
use Rattle.vx_group.specs.Stands.{volume_faults, inner_meaning}
use Rattle.vx_group.specs.Turns.{next_plex}
use Rattle.vx_group.proofs.CallLemmas.{with_Stands}
use Rattle.vx_group.proofs.MendLemmas.{same_Goes}
use Rattle.vx_group.proofs.HoldLemmas.{narrow_size, narrow_some, narrow_units}
use Rattle.vx_group.proofs.ReadLemmas.{fault_reads, group_read, narrow_fits, wide_read}
use Rattle.vx_group.proofs.Standing.{fit_of}
use Rattle.vx_group.proofs.WriteLemmas.{flushed_Stands, plain_Goes}
use Rattle.vx_group.proofs.reading.read_in.Goals as goal

pub read-requires-clause-volume : goal.read-requires-clause-volume
read-requires-clause-volume g c = let lt = c.requires.fits.exists in let same = narrow_units c.args.core.now (g.S.Shelf.meaning c.args.shelf.now) c.requires.stands in omega (arith, lt, same)

pub read-requires-clause-within : goal.read-requires-clause-within
read-requires-clause-within g c = let le = c.requires.fits.within in let same = narrow_size c.args.core.now (g.S.Shelf.meaning c.args.shelf.now) c.requires.stands c.args.vol in omega (arith, le, same)

pub read-requires-clause-some : goal.read-requires-clause-some
read-requires-clause-some g c =
    narrow_some c.args.core.now (g.S.Shelf.meaning c.args.shelf.now) c.requires.stands c.args.vol (let lt = c.requires.fits.exists in let same = narrow_units c.args.core.now (g.S.Shelf.meaning c.args.shelf.now) c.requires.stands in omega (arith, lt, same))

pub read-requires-clause-disks : goal.read-requires-clause-disks
read-requires-clause-disks g c = fit_of (wide c.args.core.now) (g.S.Shelf.meaning c.args.shelf.now) c.requires.stands.stands

pub returns-in-Ok-clause-stands : goal.returns-in-Ok-clause-stands
returns-in-Ok-clause-stands g c = record { stands = with_Stands (wide c.args.core.now) _ _ (g.S.Shelf.meaning c.read.new.shelf) (flushed_Stands (wide c.args.core.now) c.args.vol (g.S.Shelf.meaning c.args.shelf.now) (g.S.Shelf.meaning c.read.new.shelf) (g.met.S.Shelf.lawful c.args.shelf.now) (g.met.S.Shelf.lawful c.read.new.shelf) c.requires.stands.stands c.read.ensures.goes); held = c.requires.stands.held }

pub returns-in-Ok-clause-goes : goal.returns-in-Ok-clause-goes
returns-in-Ok-clause-goes g c = plain_Goes (wide c.args.core.now) c.args.vol (g.S.Shelf.meaning c.args.shelf.now) (g.S.Shelf.meaning c.read.new.shelf) (g.met.S.Shelf.lawful c.args.shelf.now) (g.met.S.Shelf.lawful c.read.new.shelf) c.requires.stands.stands c.read.ensures.goes (volume_faults c.args.core.now.inner.faults) (λ u. omega arith)

pub returns-in-Err-Device-clause-stands : goal.returns-in-Err-Device-clause-stands
returns-in-Err-Device-clause-stands g c = record { stands = with_Stands (wide c.args.core.now) _ _ (g.S.Shelf.meaning c.read.new.shelf) (flushed_Stands (wide c.args.core.now) c.args.vol (g.S.Shelf.meaning c.args.shelf.now) (g.S.Shelf.meaning c.read.new.shelf) (g.met.S.Shelf.lawful c.args.shelf.now) (g.met.S.Shelf.lawful c.read.new.shelf) c.requires.stands.stands c.read.ensures.goes); held = c.requires.stands.held }

pub returns-in-Err-Device-clause-goes : goal.returns-in-Err-Device-clause-goes
returns-in-Err-Device-clause-goes g c = plain_Goes (wide c.args.core.now) c.args.vol (g.S.Shelf.meaning c.args.shelf.now) (g.S.Shelf.meaning c.read.new.shelf) (g.met.S.Shelf.lawful c.args.shelf.now) (g.met.S.Shelf.lawful c.read.new.shelf) c.requires.stands.stands c.read.ensures.goes (volume_faults c.count_fault.new.faults) c.count_fault.ensures.no_less

pub returns-in-Ok-clause-shown : goal.returns-in-Ok-clause-shown
returns-in-Ok-clause-shown g c =
    group_read c.args.core.now.inner c.args.vol c.args.block c.read.new.into (g.S.Shelf.meaning c.args.shelf.now) (g.S.Shelf.meaning c.read.new.shelf)
    (narrow_fits c.args.core.now (g.S.Shelf.meaning c.args.shelf.now) c.requires.stands c.args.vol c.args.block _ _ c.read.auto.into c.requires.fits) c.in-Ok.ensures.reads.0 c.in-Ok.ensures.reads.1.is_on (subst (λ (n : ℕ). PlexRead c.args.core.now.inner.config c.args.vol c.in-Ok.ensures.reads.0 c.args.block c.args.block (n / 512) c.read.new.into (g.S.Shelf.meaning c.args.shelf.now)) (sym c.read.auto.into) c.in-Ok.ensures.reads.1.read)

pub returns-in-Ok-clause-ok : goal.returns-in-Ok-clause-ok
returns-in-Ok-clause-ok g c =
    wide_read c.args.core.now (g.S.Shelf.meaning c.args.shelf.now) c.requires.stands c.args.vol c.args.block c.read.new.into (g.S.Shelf.meaning c.read.new.shelf)
    (narrow_fits c.args.core.now (g.S.Shelf.meaning c.args.shelf.now) c.requires.stands c.args.vol c.args.block _ _ c.read.auto.into c.requires.fits) c.in-Ok.ensures.reads.0 c.in-Ok.ensures.reads.1.is_on (subst (λ (n : ℕ). PlexRead c.args.core.now.inner.config c.args.vol c.in-Ok.ensures.reads.0 c.args.block c.args.block (n / 512) c.read.new.into (g.S.Shelf.meaning c.args.shelf.now)) (sym c.read.auto.into) c.in-Ok.ensures.reads.1.read)

pub returns-then-is_down-clause-below : goal.returns-then-is_down-clause-below
returns-then-is_down-clause-below g c = same_Goes (g.S.Shelf.meaning c.args.shelf.now)

pub returns-in-Ok-clause-turn : goal.returns-in-Ok-clause-turn
returns-in-Ok-clause-turn g c = record {
  plex = c.in-Ok.ensures.reads.0;
  from = c.in-Ok.ensures.reads.1;
  next = record { here = c.set_next.ensures.here ∙ c.in-Ok.ensures.reads.2; others = c.set_next.ensures.others };
}

pub returns-in-Err-Device-clause-turn : goal.returns-in-Err-Device-clause-turn
returns-in-Err-Device-clause-turn g c = rw c.in-Err-Device.field-0-is (
  fault_reads c.args.core.now.inner.config (record { number = c.args.vol; next = next_plex c.args.core.now.inner.next c.args.vol }) c.read.new.v c.args.block (length c.args.into.now / 512) c.read.new.into (g.S.Shelf.meaning c.args.shelf.now) (g.S.Shelf.meaning c.read.new.shelf) c.in-Err-Device.field-0
      c.in-Err-Device.disk c.in-Err-Device.field-0-is c.in-Err-Device.ensures.reads,
  refl,
)

pub returns-then-is_down-clause-stands : goal.returns-then-is_down-clause-stands
returns-then-is_down-clause-stands g c = c.requires.stands

pub returns-then-is_down-clause-goes : goal.returns-then-is_down-clause-goes
returns-then-is_down-clause-goes g c = same_Goes (inner_meaning (wide c.args.core.now) (g.S.Shelf.meaning c.args.shelf.now))

pub returns-then-is_down-clause-shown : goal.returns-then-is_down-clause-shown
returns-then-is_down-clause-shown g c = tt

pub returns-then-is_down-clause-ok : goal.returns-then-is_down-clause-ok
returns-then-is_down-clause-ok g c = tt

pub returns-then-is_down-clause-down : goal.returns-then-is_down-clause-down
returns-then-is_down-clause-down g c = refl

pub returns-then-is_down-clause-cause : goal.returns-then-is_down-clause-cause
returns-then-is_down-clause-cause g c = sym c.is_down.ensures ∙ c.if-is_down.true

pub returns-then-is_down-clause-held : goal.returns-then-is_down-clause-held
returns-then-is_down-clause-held g c = refl

pub returns-then-is_down-clause-same : goal.returns-then-is_down-clause-same
returns-then-is_down-clause-same g c = refl

pub returns-then-is_down-clause-settled : goal.returns-then-is_down-clause-settled
returns-then-is_down-clause-settled g c = refl

pub returns-then-is_down-clause-unsure : goal.returns-then-is_down-clause-unsure
returns-then-is_down-clause-unsure g c = refl

pub returns-then-is_down-clause-counts : goal.returns-then-is_down-clause-counts
returns-then-is_down-clause-counts g c = λ u apart. refl

pub returns-then-is_down-clause-trusted : goal.returns-then-is_down-clause-trusted
returns-then-is_down-clause-trusted g c = (refl, refl)

pub returns-in-Ok-clause-held : goal.returns-in-Ok-clause-held
returns-in-Ok-clause-held g c = refl

pub returns-in-Ok-clause-trusted : goal.returns-in-Ok-clause-trusted
returns-in-Ok-clause-trusted g c = (refl, refl)

pub returns-in-Ok-clause-same : goal.returns-in-Ok-clause-same
returns-in-Ok-clause-same g c = refl

pub returns-in-Ok-clause-settled : goal.returns-in-Ok-clause-settled
returns-in-Ok-clause-settled g c = refl

pub returns-in-Ok-clause-unsure : goal.returns-in-Ok-clause-unsure
returns-in-Ok-clause-unsure g c = refl

pub returns-in-Err-Device-clause-held : goal.returns-in-Err-Device-clause-held
returns-in-Err-Device-clause-held g c = refl

pub returns-in-Err-Device-clause-trusted : goal.returns-in-Err-Device-clause-trusted
returns-in-Err-Device-clause-trusted g c = (refl, refl)

pub returns-in-Err-Device-clause-same : goal.returns-in-Err-Device-clause-same
returns-in-Err-Device-clause-same g c = refl

pub returns-in-Err-Device-clause-settled : goal.returns-in-Err-Device-clause-settled
returns-in-Err-Device-clause-settled g c = refl

pub returns-in-Err-Device-clause-unsure : goal.returns-in-Err-Device-clause-unsure
returns-in-Err-Device-clause-unsure g c = refl

pub returns-in-Err-Device-clause-shown : goal.returns-in-Err-Device-clause-shown
returns-in-Err-Device-clause-shown g c = tt

pub returns-in-Err-Device-clause-ok : goal.returns-in-Err-Device-clause-ok
returns-in-Err-Device-clause-ok g c = tt
