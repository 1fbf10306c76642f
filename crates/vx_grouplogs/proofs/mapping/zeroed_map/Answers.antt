-- `zeroed_map`: its clauses; what the calls ask.
use Rattle.vx_bitmap.specs.Maps.{MapOn}
use Rattle.vx_fmr.specs.Missed.{Missed}
use Rattle.std.proofs.Common.{◌≡◌, ◌∙◌, ◌+◌, ◌≤◌, ℕ, sym, subst, arith}
use Rattle.std.proofs.lemmas.Option.{same_Some}
use Rattle.vx_config.specs.declared.entry.VolumeLog.TheVariants.{Fmr}
use Rattle.vx_disk.specs.Shelf.{Goes}
use Rattle.vx_disk.proofs.Runs.{then_nothing}
use Rattle.vx_groupmaps.specs.Missing.{OnMaps}
use Rattle.vx_logs.proofs.LogLemmas.{holds_of}
use Rattle.vx_maplog.proofs.Entries.{placed}
use Rattle.vx_grouplogs.specs.Zeroing.{AreZeros, ZerosIn}
use Rattle.vx_grouplogs.proofs.MapLemmas.{map_low, maps_settled, zeros_maps}
use Rattle.vx_grouplogs.proofs.mapping.zeroed_map.Goals as goal

pub zero_run-requires-clause-exists : goal.zero_run-requires-clause-exists
zero_run-requires-clause-exists g c = let at = placed c.args.config.now c.args.vol Fmr c.in-Some.entry (g.S.Shelf.meaning c.args.shelf.now) c.requires.checked (sym c.log_of.ensures ∙ c.in-Some.is) c.requires.some (holds_of c.args.config.now.disks (g.S.Shelf.meaning c.args.shelf.now) c.requires.disks) in let unit = c.from.ensures in omega (arith, at.exists, unit)

pub zero_run-requires-clause-within : goal.zero_run-requires-clause-within
zero_run-requires-clause-within g c =
    let at = placed c.args.config.now c.args.vol Fmr c.in-Some.entry (g.S.Shelf.meaning c.args.shelf.now) c.requires.checked (sym c.log_of.ensures ∙ c.in-Some.is) c.requires.some (holds_of c.args.config.now.disks (g.S.Shelf.meaning c.args.shelf.now) c.requires.disks) in
    subst (λ (u : ℕ). c.in-Some.entry.start + c.in-Some.entry.blocks ≤ (g.S.Shelf.meaning c.args.shelf.now).size u) (sym c.from.ensures) at.within

pub returns-in-Err-clause-goes : goal.returns-in-Err-clause-goes
returns-in-Err-clause-goes g c = (zeros_maps c.args.config.now c.args.vol c.in-Some.entry (g.S.Shelf.meaning c.args.shelf.now) (g.S.Shelf.meaning c.zero_run.new.shelf) (sym c.log_of.ensures ∙ c.in-Some.is) (subst (λ (u : ℕ). Goes (ZerosIn u c.in-Some.entry.start c.in-Some.entry.blocks) (g.S.Shelf.meaning c.args.shelf.now) (g.S.Shelf.meaning c.zero_run.new.shelf)) c.from.ensures c.zero_run.ensures.goes))

pub returns-then-is_down-clause-goes : goal.returns-then-is_down-clause-goes
returns-then-is_down-clause-goes g c = (zeros_maps c.args.config.now c.args.vol c.in-Some.entry (g.S.Shelf.meaning c.args.shelf.now) (g.S.Shelf.meaning c.zero_run.new.shelf) (sym c.log_of.ensures ∙ c.in-Some.is) (subst (λ (u : ℕ). Goes (ZerosIn u c.in-Some.entry.start c.in-Some.entry.blocks) (g.S.Shelf.meaning c.args.shelf.now) (g.S.Shelf.meaning c.zero_run.new.shelf)) c.from.ensures c.zero_run.ensures.goes))

pub returns-in-Err-load-clause-goes : goal.returns-in-Err-load-clause-goes
returns-in-Err-load-clause-goes g c = then_nothing (OnMaps c.args.config.now c.args.vol) (g.S.Shelf.meaning c.args.shelf.now) (g.S.Shelf.meaning c.zero_run.new.shelf) (g.S.Shelf.meaning c.load.new.shelf) (zeros_maps c.args.config.now c.args.vol c.in-Some.entry (g.S.Shelf.meaning c.args.shelf.now) (g.S.Shelf.meaning c.zero_run.new.shelf) (sym c.log_of.ensures ∙ c.in-Some.is) (subst (λ (u : ℕ). Goes (ZerosIn u c.in-Some.entry.start c.in-Some.entry.blocks) (g.S.Shelf.meaning c.args.shelf.now) (g.S.Shelf.meaning c.zero_run.new.shelf)) c.from.ensures c.zero_run.ensures.goes)) c.load.ensures.goes

pub returns-in-Ok-load-clause-goes : goal.returns-in-Ok-load-clause-goes
returns-in-Ok-load-clause-goes g c = then_nothing (OnMaps c.args.config.now c.args.vol) (g.S.Shelf.meaning c.args.shelf.now) (g.S.Shelf.meaning c.zero_run.new.shelf) (g.S.Shelf.meaning c.load.new.shelf) (zeros_maps c.args.config.now c.args.vol c.in-Some.entry (g.S.Shelf.meaning c.args.shelf.now) (g.S.Shelf.meaning c.zero_run.new.shelf) (sym c.log_of.ensures ∙ c.in-Some.is) (subst (λ (u : ℕ). Goes (ZerosIn u c.in-Some.entry.start c.in-Some.entry.blocks) (g.S.Shelf.meaning c.args.shelf.now) (g.S.Shelf.meaning c.zero_run.new.shelf)) c.from.ensures c.zero_run.ensures.goes)) c.load.ensures.goes

pub returns-in-Ok-load-clause-stands : goal.returns-in-Ok-load-clause-stands
returns-in-Ok-load-clause-stands g c = λ f is.
    let one : c.in-Ok-load.fmr ≡ f = same_Some c.in-Ok-load.fmr f is in
    subst (λ (x : Missed). MapOn x.map (g.S.Shelf.meaning c.load.new.shelf)) one
    (c.in-Ok-load.ensures.stands
    (maps_settled c.args.config.now c.args.vol c.in-Some.entry c.in-Ok-load.fmr (g.S.Shelf.meaning c.zero_run.new.shelf) (sym c.log_of.ensures ∙ c.in-Some.is)
    (map_low c.args.config.now c.requires.checked c.args.vol c.requires.some c.in-Some.entry c.in-Ok-load.fmr (g.S.Shelf.meaning c.args.shelf.now) c.requires.disks (sym c.log_of.ensures ∙ c.in-Some.is) c.in-Ok-load.ensures.loaded) c.in-Ok-load.ensures.loaded
    (subst (λ (u : ℕ). AreZeros u c.in-Some.entry.start c.in-Some.entry.blocks (g.S.Shelf.meaning c.zero_run.new.shelf)) c.from.ensures c.in-Ok.ensures.zeros)))
