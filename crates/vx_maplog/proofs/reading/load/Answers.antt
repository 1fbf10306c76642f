-- The run of a log is there, and what was read of it is the log's map.
use Rattle.std.proofs.Common.{◌∙◌, ◌+◌, ◌≤◌, ℕ, subst, sym, arith}
use Rattle.vx_maplog.proofs.Entries.{placed}
use Rattle.vx_maplog.proofs.Loads.{log_lies, log_loaded, ok_then}
use Rattle.vx_maplog.proofs.reading.load.Goals as goal

pub read_run-requires-clause-some : goal.read_run-requires-clause-some
read_run-requires-clause-some g c =
    (placed c.args.config.now c.args.volume c.args.log c.in-Some.entry (g.S.Shelf.meaning c.args.shelf.now) c.requires.has.sound (sym c.log_of.ensures ∙ c.in-Some.is) c.requires.has.some c.requires.disks).some

pub read_run-requires-clause-exists : goal.read_run-requires-clause-exists
read_run-requires-clause-exists g c =
    let at = placed c.args.config.now c.args.volume c.args.log c.in-Some.entry (g.S.Shelf.meaning c.args.shelf.now) c.requires.has.sound (sym c.log_of.ensures ∙ c.in-Some.is) c.requires.has.some c.requires.disks in
    omega (arith, at.exists, c.from.ensures)

pub read_run-requires-clause-within : goal.read_run-requires-clause-within
read_run-requires-clause-within g c =
    let at = placed c.args.config.now c.args.volume c.args.log c.in-Some.entry (g.S.Shelf.meaning c.args.shelf.now) c.requires.has.sound (sym c.log_of.ensures ∙ c.in-Some.is) c.requires.has.some c.requires.disks in
    subst (λ (u : ℕ). c.in-Some.entry.start + c.in-Some.entry.blocks ≤ (g.S.Shelf.meaning c.args.shelf.now).size u) (sym c.from.ensures) at.within

pub returns-clause-loaded : goal.returns-clause-loaded
returns-clause-loaded g c =
    let is = sym c.log_of.ensures ∙ c.in-Some.is in
    let at = placed c.args.config.now c.args.volume c.args.log c.in-Some.entry (g.S.Shelf.meaning c.args.shelf.now) c.requires.has.sound is c.requires.has.some c.requires.disks in
    ok_then c.read_run.result (λ map run. log_loaded c.args.config.now c.args.volume c.args.log c.in-Some.entry (g.S.Shelf.meaning c.args.shelf.now) (g.S.Shelf.meaning c.args.shelf.now) map c.from.result c.from.ensures is at run)
    c.read_run.ensures.there

pub returns-clause-lies : goal.returns-clause-lies
returns-clause-lies g c =
    let is = sym c.log_of.ensures ∙ c.in-Some.is in
    let at = placed c.args.config.now c.args.volume c.args.log c.in-Some.entry (g.S.Shelf.meaning c.args.shelf.now) c.requires.has.sound is c.requires.has.some c.requires.disks in
    ok_then c.read_run.result
    (λ map run. log_lies c.args.config.now c.args.volume c.args.log c.in-Some.entry (g.S.Shelf.meaning c.args.shelf.now) (g.S.Shelf.meaning c.read_run.new.shelf) map c.from.result c.from.ensures is at run c.read_run.ensures.goes)
    c.read_run.ensures.there
