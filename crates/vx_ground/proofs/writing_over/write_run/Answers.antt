-- A run of blocks is written as it reads.
use Rattle.std.proofs.Common.{◌≡◌, ◌∙◌, ◌*◌, ℕ, List, length, take, replicate, length-take-le, arith, refl}
use Rattle.std.proofs.lemmas.Result.{err_from_is_err_and}
use Rattle.vx_disk.specs.Shelf.{Wrote}
use Rattle.vx_disk.proofs.Causing.{Cause_both}
use Rattle.vx_disk.proofs.Runs.{none_written}
use Rattle.vx_ground.specs.Rewrites.{Rewrote, WasLeft}
use Rattle.vx_ground.proofs.RewriteLemmas.{ok_then, run_goes, run_rewrote}
use Rattle.vx_ground.proofs.writing_over.write_run.Goals as goal

pub read-requires : goal.read-requires
read-requires g c =
    let none : List ℕ = replicate 8192 0 in
    let zeros : length none ≡ 8192 = refl in
    let long : length (take (c.args.count * 512) none) ≡ c.args.count * 512 = length-take-le (c.args.count * 512) none (let few = c.requires.few in omega (arith, few, zeros)) in
    record {
      exists = c.requires.there;
      some = let some = c.requires.some in omega (arith, some, long);
      whole = omega (arith, long);
      within = let within = c.requires.within in omega (arith, within, long);
    }

pub write-requires : goal.write-requires
write-requires g c =
    let none : List ℕ = replicate 8192 0 in
    let zeros : length none ≡ 8192 = refl in
    let auto : length c.read.new.into ≡ length (take (c.args.count * 512) none) = c.read.auto.into in
    let long : length c.read.new.into ≡ c.args.count * 512 = auto ∙ length-take-le (c.args.count * 512) none (let few = c.requires.few in omega (arith, few, zeros)) in
    record {
      exists = let there = c.requires.there in let units = c.read.ensures.goes.units in omega (arith, there, units);
      some = let some = c.requires.some in omega (arith, some, long);
      whole = omega (arith, long);
      within = let within = c.requires.within in let size = c.read.ensures.goes.size c.args.unit in omega (arith, within, long, size);
    }

pub returns-in_err-read-clause-goes : goal.returns-in_err-read-clause-goes
returns-in_err-read-clause-goes g c = none_written (WasLeft c.args.unit (g.S.Shelf.meaning c.args.shelf.now)) (g.S.Shelf.meaning c.args.shelf.now) (g.S.Shelf.meaning c.read.new.self) c.read.ensures.goes

pub returns-in_err-read-clause-cause : goal.returns-in_err-read-clause-cause
returns-in_err-read-clause-cause g c =
    let p = err_from_is_err_and c.from_residual.result c.from_residual.ensures.1 in
    rw (p.1, p.2) c.in_err-read.ensures.cause

pub returns-clause-goes : goal.returns-clause-goes
returns-clause-goes g c =
    run_goes c.args.unit c.args.block c.read.new.into (g.S.Shelf.meaning c.args.shelf.now) (g.S.Shelf.meaning c.read.new.self) (g.S.Shelf.meaning c.write.new.self) (g.met.S.Shelf.lawful c.args.shelf.now) (g.met.S.Shelf.lawful c.write.new.self)
    c.read.ensures.goes c.in_ok-read.ensures.ok c.write.ensures.goes

pub returns-clause-ok : goal.returns-clause-ok
returns-clause-ok g c =
    let none : List ℕ = replicate 8192 0 in
    let zeros : length none ≡ 8192 = refl in
    let auto : length c.read.new.into ≡ length (take (c.args.count * 512) none) = c.read.auto.into in
    let long : length c.read.new.into ≡ 512 * c.args.count = auto ∙ length-take-le (c.args.count * 512) none (let few = c.requires.few in omega (arith, few, zeros)) ∙ omega arith in
    ok_then c.write.result (Wrote c.args.unit c.args.block c.read.new.into (g.S.Shelf.meaning c.read.new.self) (g.S.Shelf.meaning c.write.new.self)) (Rewrote c.args.unit c.args.block c.args.count (g.S.Shelf.meaning c.args.shelf.now) (g.S.Shelf.meaning c.write.new.self))
    (λ wrote. run_rewrote c.args.unit c.args.block c.args.count c.read.new.into long (g.S.Shelf.meaning c.args.shelf.now) (g.S.Shelf.meaning c.read.new.self) (g.S.Shelf.meaning c.write.new.self) c.read.ensures.goes c.in_ok-read.ensures.cause wrote)
    c.write.ensures.ok

pub returns-clause-cause : goal.returns-clause-cause
returns-clause-cause g c =
    Cause_both (g.S.Shelf.meaning c.args.shelf.now) (g.S.Shelf.meaning c.read.new.self) (g.S.Shelf.meaning c.write.new.self) c.args.unit c.write.result c.in_ok-read.ensures.cause c.read.ensures.goes.faults c.read.ensures.goes.disk_faults c.write.ensures.cause
