-- `begin_run`: its clauses; what the calls ask.
use Rattle.std.proofs.Common.{ℕ, ◌+◌, ◌≤◌, ◌∙◌, sym, subst, arith}
use Rattle.vx_config.specs.declared.entry.VolumeLog.TheVariants.{Drl}
use Rattle.vx_disk.specs.Shelf.{Goes}
use Rattle.vx_logs.proofs.LogLemmas.{holds_of}
use Rattle.vx_maplog.proofs.Entries.{placed}
use Rattle.vx_grouplogs.specs.Zeroing.{AreZeros, ZerosIn}
use Rattle.vx_grouplogs.proofs.BeginLemmas.{begin_alike, begin_gone, begin_keeps, begin_on, begin_others, fit_later, then_more, then_none, zeros_logs, zeros_settled}
use Rattle.vx_grouplogs.proofs.beginning.begin_run.Goals as goal

pub zero_run-requires-clause-exists : goal.zero_run-requires-clause-exists
zero_run-requires-clause-exists g c = let at = placed c.args.config.now c.args.vol Drl c.in-Some.entry (g.S.Shelf.meaning c.args.shelf.now) c.requires.checked (sym c.log_of.ensures ∙ c.in-Some.is) c.requires.some (holds_of c.args.config.now.disks (g.S.Shelf.meaning c.args.shelf.now) c.requires.disks) in let unit = c.from.ensures in omega (arith, at.exists, unit)

pub zero_run-requires-clause-within : goal.zero_run-requires-clause-within
zero_run-requires-clause-within g c =
    let at = placed c.args.config.now c.args.vol Drl c.in-Some.entry (g.S.Shelf.meaning c.args.shelf.now) c.requires.checked (sym c.log_of.ensures ∙ c.in-Some.is) c.requires.some (holds_of c.args.config.now.disks (g.S.Shelf.meaning c.args.shelf.now) c.requires.disks) in
    subst (λ (u : ℕ). c.in-Some.entry.start + c.in-Some.entry.blocks ≤ (g.S.Shelf.meaning c.args.shelf.now).size u) (sym c.from.ensures) at.within

pub returns-in-Err-clause-goes : goal.returns-in-Err-clause-goes
returns-in-Err-clause-goes g c = zeros_logs c.args.config.now c.args.vol c.in-Some.entry (g.S.Shelf.meaning c.args.shelf.now) (g.S.Shelf.meaning c.zero_run.new.shelf) (sym c.log_of.ensures ∙ c.in-Some.is) (subst (λ (u : ℕ). Goes (ZerosIn u c.in-Some.entry.start c.in-Some.entry.blocks) (g.S.Shelf.meaning c.args.shelf.now) (g.S.Shelf.meaning c.zero_run.new.shelf)) c.from.ensures c.zero_run.ensures.goes)

pub returns-in-Err-clause-group : goal.returns-in-Err-clause-group
returns-in-Err-clause-group g c = begin_keeps c.args.config.now c.requires.checked c.args.vol c.requires.some (g.S.Shelf.meaning c.args.shelf.now) (g.S.Shelf.meaning c.zero_run.new.shelf) (g.met.S.Shelf.lawful c.args.shelf.now) (g.met.S.Shelf.lawful c.zero_run.new.shelf) c.requires.disks c.requires.alike (zeros_logs c.args.config.now c.args.vol c.in-Some.entry (g.S.Shelf.meaning c.args.shelf.now) (g.S.Shelf.meaning c.zero_run.new.shelf) (sym c.log_of.ensures ∙ c.in-Some.is) (subst (λ (u : ℕ). Goes (ZerosIn u c.in-Some.entry.start c.in-Some.entry.blocks) (g.S.Shelf.meaning c.args.shelf.now) (g.S.Shelf.meaning c.zero_run.new.shelf)) c.from.ensures c.zero_run.ensures.goes))

pub returns-in-Err-clause-on : goal.returns-in-Err-clause-on
returns-in-Err-clause-on g c = begin_gone c.args.config.now c.requires.checked c.args.vol c.requires.some (g.S.Shelf.meaning c.args.shelf.now) (g.S.Shelf.meaning c.zero_run.new.shelf) (g.met.S.Shelf.lawful c.args.shelf.now) (g.met.S.Shelf.lawful c.zero_run.new.shelf) c.requires.disks c.requires.alike (zeros_logs c.args.config.now c.args.vol c.in-Some.entry (g.S.Shelf.meaning c.args.shelf.now) (g.S.Shelf.meaning c.zero_run.new.shelf) (sym c.log_of.ensures ∙ c.in-Some.is) (subst (λ (u : ℕ). Goes (ZerosIn u c.in-Some.entry.start c.in-Some.entry.blocks) (g.S.Shelf.meaning c.args.shelf.now) (g.S.Shelf.meaning c.zero_run.new.shelf)) c.from.ensures c.zero_run.ensures.goes))

pub returns-in-Err-clause-alike : goal.returns-in-Err-clause-alike
returns-in-Err-clause-alike g c = begin_alike c.args.config.now c.requires.checked c.args.vol c.requires.some (g.S.Shelf.meaning c.args.shelf.now) (g.S.Shelf.meaning c.zero_run.new.shelf) (g.met.S.Shelf.lawful c.args.shelf.now) (g.met.S.Shelf.lawful c.zero_run.new.shelf) c.requires.disks c.requires.alike (zeros_logs c.args.config.now c.args.vol c.in-Some.entry (g.S.Shelf.meaning c.args.shelf.now) (g.S.Shelf.meaning c.zero_run.new.shelf) (sym c.log_of.ensures ∙ c.in-Some.is) (subst (λ (u : ℕ). Goes (ZerosIn u c.in-Some.entry.start c.in-Some.entry.blocks) (g.S.Shelf.meaning c.args.shelf.now) (g.S.Shelf.meaning c.zero_run.new.shelf)) c.from.ensures c.zero_run.ensures.goes))

pub returns-in-Err-clause-others : goal.returns-in-Err-clause-others
returns-in-Err-clause-others g c = begin_others c.args.config.now c.requires.checked c.args.vol c.requires.some (g.S.Shelf.meaning c.args.shelf.now) (g.S.Shelf.meaning c.zero_run.new.shelf) (g.met.S.Shelf.lawful c.args.shelf.now) (g.met.S.Shelf.lawful c.zero_run.new.shelf) c.requires.disks c.requires.alike (zeros_logs c.args.config.now c.args.vol c.in-Some.entry (g.S.Shelf.meaning c.args.shelf.now) (g.S.Shelf.meaning c.zero_run.new.shelf) (sym c.log_of.ensures ∙ c.in-Some.is) (subst (λ (u : ℕ). Goes (ZerosIn u c.in-Some.entry.start c.in-Some.entry.blocks) (g.S.Shelf.meaning c.args.shelf.now) (g.S.Shelf.meaning c.zero_run.new.shelf)) c.from.ensures c.zero_run.ensures.goes))

pub returns-then-is_down-clause-goes : goal.returns-then-is_down-clause-goes
returns-then-is_down-clause-goes g c = zeros_logs c.args.config.now c.args.vol c.in-Some.entry (g.S.Shelf.meaning c.args.shelf.now) (g.S.Shelf.meaning c.zero_run.new.shelf) (sym c.log_of.ensures ∙ c.in-Some.is) (subst (λ (u : ℕ). Goes (ZerosIn u c.in-Some.entry.start c.in-Some.entry.blocks) (g.S.Shelf.meaning c.args.shelf.now) (g.S.Shelf.meaning c.zero_run.new.shelf)) c.from.ensures c.zero_run.ensures.goes)

pub returns-then-is_down-clause-group : goal.returns-then-is_down-clause-group
returns-then-is_down-clause-group g c = begin_keeps c.args.config.now c.requires.checked c.args.vol c.requires.some (g.S.Shelf.meaning c.args.shelf.now) (g.S.Shelf.meaning c.zero_run.new.shelf) (g.met.S.Shelf.lawful c.args.shelf.now) (g.met.S.Shelf.lawful c.zero_run.new.shelf) c.requires.disks c.requires.alike (zeros_logs c.args.config.now c.args.vol c.in-Some.entry (g.S.Shelf.meaning c.args.shelf.now) (g.S.Shelf.meaning c.zero_run.new.shelf) (sym c.log_of.ensures ∙ c.in-Some.is) (subst (λ (u : ℕ). Goes (ZerosIn u c.in-Some.entry.start c.in-Some.entry.blocks) (g.S.Shelf.meaning c.args.shelf.now) (g.S.Shelf.meaning c.zero_run.new.shelf)) c.from.ensures c.zero_run.ensures.goes))

pub returns-then-is_down-clause-on : goal.returns-then-is_down-clause-on
returns-then-is_down-clause-on g c = begin_gone c.args.config.now c.requires.checked c.args.vol c.requires.some (g.S.Shelf.meaning c.args.shelf.now) (g.S.Shelf.meaning c.zero_run.new.shelf) (g.met.S.Shelf.lawful c.args.shelf.now) (g.met.S.Shelf.lawful c.zero_run.new.shelf) c.requires.disks c.requires.alike (zeros_logs c.args.config.now c.args.vol c.in-Some.entry (g.S.Shelf.meaning c.args.shelf.now) (g.S.Shelf.meaning c.zero_run.new.shelf) (sym c.log_of.ensures ∙ c.in-Some.is) (subst (λ (u : ℕ). Goes (ZerosIn u c.in-Some.entry.start c.in-Some.entry.blocks) (g.S.Shelf.meaning c.args.shelf.now) (g.S.Shelf.meaning c.zero_run.new.shelf)) c.from.ensures c.zero_run.ensures.goes))

pub returns-then-is_down-clause-alike : goal.returns-then-is_down-clause-alike
returns-then-is_down-clause-alike g c = begin_alike c.args.config.now c.requires.checked c.args.vol c.requires.some (g.S.Shelf.meaning c.args.shelf.now) (g.S.Shelf.meaning c.zero_run.new.shelf) (g.met.S.Shelf.lawful c.args.shelf.now) (g.met.S.Shelf.lawful c.zero_run.new.shelf) c.requires.disks c.requires.alike (zeros_logs c.args.config.now c.args.vol c.in-Some.entry (g.S.Shelf.meaning c.args.shelf.now) (g.S.Shelf.meaning c.zero_run.new.shelf) (sym c.log_of.ensures ∙ c.in-Some.is) (subst (λ (u : ℕ). Goes (ZerosIn u c.in-Some.entry.start c.in-Some.entry.blocks) (g.S.Shelf.meaning c.args.shelf.now) (g.S.Shelf.meaning c.zero_run.new.shelf)) c.from.ensures c.zero_run.ensures.goes))

pub returns-then-is_down-clause-others : goal.returns-then-is_down-clause-others
returns-then-is_down-clause-others g c = begin_others c.args.config.now c.requires.checked c.args.vol c.requires.some (g.S.Shelf.meaning c.args.shelf.now) (g.S.Shelf.meaning c.zero_run.new.shelf) (g.met.S.Shelf.lawful c.args.shelf.now) (g.met.S.Shelf.lawful c.zero_run.new.shelf) c.requires.disks c.requires.alike (zeros_logs c.args.config.now c.args.vol c.in-Some.entry (g.S.Shelf.meaning c.args.shelf.now) (g.S.Shelf.meaning c.zero_run.new.shelf) (sym c.log_of.ensures ∙ c.in-Some.is) (subst (λ (u : ℕ). Goes (ZerosIn u c.in-Some.entry.start c.in-Some.entry.blocks) (g.S.Shelf.meaning c.args.shelf.now) (g.S.Shelf.meaning c.zero_run.new.shelf)) c.from.ensures c.zero_run.ensures.goes))

pub returns-in-Err-load-clause-goes : goal.returns-in-Err-load-clause-goes
returns-in-Err-load-clause-goes g c = then_none c.args.config.now c.args.vol (g.S.Shelf.meaning c.args.shelf.now) (g.S.Shelf.meaning c.zero_run.new.shelf) (g.S.Shelf.meaning c.load.new.shelf) (zeros_logs c.args.config.now c.args.vol c.in-Some.entry (g.S.Shelf.meaning c.args.shelf.now) (g.S.Shelf.meaning c.zero_run.new.shelf) (sym c.log_of.ensures ∙ c.in-Some.is) (subst (λ (u : ℕ). Goes (ZerosIn u c.in-Some.entry.start c.in-Some.entry.blocks) (g.S.Shelf.meaning c.args.shelf.now) (g.S.Shelf.meaning c.zero_run.new.shelf)) c.from.ensures c.zero_run.ensures.goes)) c.load.ensures.goes

pub returns-in-Err-load-clause-group : goal.returns-in-Err-load-clause-group
returns-in-Err-load-clause-group g c = begin_keeps c.args.config.now c.requires.checked c.args.vol c.requires.some (g.S.Shelf.meaning c.args.shelf.now) (g.S.Shelf.meaning c.load.new.shelf) (g.met.S.Shelf.lawful c.args.shelf.now) (g.met.S.Shelf.lawful c.load.new.shelf) c.requires.disks c.requires.alike (then_none c.args.config.now c.args.vol (g.S.Shelf.meaning c.args.shelf.now) (g.S.Shelf.meaning c.zero_run.new.shelf) (g.S.Shelf.meaning c.load.new.shelf) (zeros_logs c.args.config.now c.args.vol c.in-Some.entry (g.S.Shelf.meaning c.args.shelf.now) (g.S.Shelf.meaning c.zero_run.new.shelf) (sym c.log_of.ensures ∙ c.in-Some.is) (subst (λ (u : ℕ). Goes (ZerosIn u c.in-Some.entry.start c.in-Some.entry.blocks) (g.S.Shelf.meaning c.args.shelf.now) (g.S.Shelf.meaning c.zero_run.new.shelf)) c.from.ensures c.zero_run.ensures.goes)) c.load.ensures.goes)

pub returns-in-Err-load-clause-on : goal.returns-in-Err-load-clause-on
returns-in-Err-load-clause-on g c = begin_gone c.args.config.now c.requires.checked c.args.vol c.requires.some (g.S.Shelf.meaning c.args.shelf.now) (g.S.Shelf.meaning c.load.new.shelf) (g.met.S.Shelf.lawful c.args.shelf.now) (g.met.S.Shelf.lawful c.load.new.shelf) c.requires.disks c.requires.alike (then_none c.args.config.now c.args.vol (g.S.Shelf.meaning c.args.shelf.now) (g.S.Shelf.meaning c.zero_run.new.shelf) (g.S.Shelf.meaning c.load.new.shelf) (zeros_logs c.args.config.now c.args.vol c.in-Some.entry (g.S.Shelf.meaning c.args.shelf.now) (g.S.Shelf.meaning c.zero_run.new.shelf) (sym c.log_of.ensures ∙ c.in-Some.is) (subst (λ (u : ℕ). Goes (ZerosIn u c.in-Some.entry.start c.in-Some.entry.blocks) (g.S.Shelf.meaning c.args.shelf.now) (g.S.Shelf.meaning c.zero_run.new.shelf)) c.from.ensures c.zero_run.ensures.goes)) c.load.ensures.goes)

pub returns-in-Err-load-clause-alike : goal.returns-in-Err-load-clause-alike
returns-in-Err-load-clause-alike g c = begin_alike c.args.config.now c.requires.checked c.args.vol c.requires.some (g.S.Shelf.meaning c.args.shelf.now) (g.S.Shelf.meaning c.load.new.shelf) (g.met.S.Shelf.lawful c.args.shelf.now) (g.met.S.Shelf.lawful c.load.new.shelf) c.requires.disks c.requires.alike (then_none c.args.config.now c.args.vol (g.S.Shelf.meaning c.args.shelf.now) (g.S.Shelf.meaning c.zero_run.new.shelf) (g.S.Shelf.meaning c.load.new.shelf) (zeros_logs c.args.config.now c.args.vol c.in-Some.entry (g.S.Shelf.meaning c.args.shelf.now) (g.S.Shelf.meaning c.zero_run.new.shelf) (sym c.log_of.ensures ∙ c.in-Some.is) (subst (λ (u : ℕ). Goes (ZerosIn u c.in-Some.entry.start c.in-Some.entry.blocks) (g.S.Shelf.meaning c.args.shelf.now) (g.S.Shelf.meaning c.zero_run.new.shelf)) c.from.ensures c.zero_run.ensures.goes)) c.load.ensures.goes)

pub returns-in-Err-load-clause-others : goal.returns-in-Err-load-clause-others
returns-in-Err-load-clause-others g c = begin_others c.args.config.now c.requires.checked c.args.vol c.requires.some (g.S.Shelf.meaning c.args.shelf.now) (g.S.Shelf.meaning c.load.new.shelf) (g.met.S.Shelf.lawful c.args.shelf.now) (g.met.S.Shelf.lawful c.load.new.shelf) c.requires.disks c.requires.alike (then_none c.args.config.now c.args.vol (g.S.Shelf.meaning c.args.shelf.now) (g.S.Shelf.meaning c.zero_run.new.shelf) (g.S.Shelf.meaning c.load.new.shelf) (zeros_logs c.args.config.now c.args.vol c.in-Some.entry (g.S.Shelf.meaning c.args.shelf.now) (g.S.Shelf.meaning c.zero_run.new.shelf) (sym c.log_of.ensures ∙ c.in-Some.is) (subst (λ (u : ℕ). Goes (ZerosIn u c.in-Some.entry.start c.in-Some.entry.blocks) (g.S.Shelf.meaning c.args.shelf.now) (g.S.Shelf.meaning c.zero_run.new.shelf)) c.from.ensures c.zero_run.ensures.goes)) c.load.ensures.goes)

pub returns-in-Ok-clear_run-clause-goes : goal.returns-in-Ok-clear_run-clause-goes
returns-in-Ok-clear_run-clause-goes g c = then_more c.args.config.now c.args.vol (g.S.Shelf.meaning c.args.shelf.now) (g.S.Shelf.meaning c.load.new.shelf) (g.S.Shelf.meaning c.clear_run.new.shelf) (then_none c.args.config.now c.args.vol (g.S.Shelf.meaning c.args.shelf.now) (g.S.Shelf.meaning c.zero_run.new.shelf) (g.S.Shelf.meaning c.load.new.shelf) (zeros_logs c.args.config.now c.args.vol c.in-Some.entry (g.S.Shelf.meaning c.args.shelf.now) (g.S.Shelf.meaning c.zero_run.new.shelf) (sym c.log_of.ensures ∙ c.in-Some.is) (subst (λ (u : ℕ). Goes (ZerosIn u c.in-Some.entry.start c.in-Some.entry.blocks) (g.S.Shelf.meaning c.args.shelf.now) (g.S.Shelf.meaning c.zero_run.new.shelf)) c.from.ensures c.zero_run.ensures.goes)) c.load.ensures.goes) c.clear_run.ensures.goes

pub returns-in-Ok-clear_run-clause-group : goal.returns-in-Ok-clear_run-clause-group
returns-in-Ok-clear_run-clause-group g c = begin_keeps c.args.config.now c.requires.checked c.args.vol c.requires.some (g.S.Shelf.meaning c.args.shelf.now) (g.S.Shelf.meaning c.clear_run.new.shelf) (g.met.S.Shelf.lawful c.args.shelf.now) (g.met.S.Shelf.lawful c.clear_run.new.shelf) c.requires.disks c.requires.alike (then_more c.args.config.now c.args.vol (g.S.Shelf.meaning c.args.shelf.now) (g.S.Shelf.meaning c.load.new.shelf) (g.S.Shelf.meaning c.clear_run.new.shelf) (then_none c.args.config.now c.args.vol (g.S.Shelf.meaning c.args.shelf.now) (g.S.Shelf.meaning c.zero_run.new.shelf) (g.S.Shelf.meaning c.load.new.shelf) (zeros_logs c.args.config.now c.args.vol c.in-Some.entry (g.S.Shelf.meaning c.args.shelf.now) (g.S.Shelf.meaning c.zero_run.new.shelf) (sym c.log_of.ensures ∙ c.in-Some.is) (subst (λ (u : ℕ). Goes (ZerosIn u c.in-Some.entry.start c.in-Some.entry.blocks) (g.S.Shelf.meaning c.args.shelf.now) (g.S.Shelf.meaning c.zero_run.new.shelf)) c.from.ensures c.zero_run.ensures.goes)) c.load.ensures.goes) c.clear_run.ensures.goes)

pub returns-in-Ok-clear_run-clause-on : goal.returns-in-Ok-clear_run-clause-on
returns-in-Ok-clear_run-clause-on g c = c.clear_run.ensures.on

pub returns-in-Ok-clear_run-clause-alike : goal.returns-in-Ok-clear_run-clause-alike
returns-in-Ok-clear_run-clause-alike g c = begin_alike c.args.config.now c.requires.checked c.args.vol c.requires.some (g.S.Shelf.meaning c.args.shelf.now) (g.S.Shelf.meaning c.clear_run.new.shelf) (g.met.S.Shelf.lawful c.args.shelf.now) (g.met.S.Shelf.lawful c.clear_run.new.shelf) c.requires.disks c.requires.alike (then_more c.args.config.now c.args.vol (g.S.Shelf.meaning c.args.shelf.now) (g.S.Shelf.meaning c.load.new.shelf) (g.S.Shelf.meaning c.clear_run.new.shelf) (then_none c.args.config.now c.args.vol (g.S.Shelf.meaning c.args.shelf.now) (g.S.Shelf.meaning c.zero_run.new.shelf) (g.S.Shelf.meaning c.load.new.shelf) (zeros_logs c.args.config.now c.args.vol c.in-Some.entry (g.S.Shelf.meaning c.args.shelf.now) (g.S.Shelf.meaning c.zero_run.new.shelf) (sym c.log_of.ensures ∙ c.in-Some.is) (subst (λ (u : ℕ). Goes (ZerosIn u c.in-Some.entry.start c.in-Some.entry.blocks) (g.S.Shelf.meaning c.args.shelf.now) (g.S.Shelf.meaning c.zero_run.new.shelf)) c.from.ensures c.zero_run.ensures.goes)) c.load.ensures.goes) c.clear_run.ensures.goes)

pub returns-in-Ok-clear_run-clause-others : goal.returns-in-Ok-clear_run-clause-others
returns-in-Ok-clear_run-clause-others g c = begin_others c.args.config.now c.requires.checked c.args.vol c.requires.some (g.S.Shelf.meaning c.args.shelf.now) (g.S.Shelf.meaning c.clear_run.new.shelf) (g.met.S.Shelf.lawful c.args.shelf.now) (g.met.S.Shelf.lawful c.clear_run.new.shelf) c.requires.disks c.requires.alike (then_more c.args.config.now c.args.vol (g.S.Shelf.meaning c.args.shelf.now) (g.S.Shelf.meaning c.load.new.shelf) (g.S.Shelf.meaning c.clear_run.new.shelf) (then_none c.args.config.now c.args.vol (g.S.Shelf.meaning c.args.shelf.now) (g.S.Shelf.meaning c.zero_run.new.shelf) (g.S.Shelf.meaning c.load.new.shelf) (zeros_logs c.args.config.now c.args.vol c.in-Some.entry (g.S.Shelf.meaning c.args.shelf.now) (g.S.Shelf.meaning c.zero_run.new.shelf) (sym c.log_of.ensures ∙ c.in-Some.is) (subst (λ (u : ℕ). Goes (ZerosIn u c.in-Some.entry.start c.in-Some.entry.blocks) (g.S.Shelf.meaning c.args.shelf.now) (g.S.Shelf.meaning c.zero_run.new.shelf)) c.from.ensures c.zero_run.ensures.goes)) c.load.ensures.goes) c.clear_run.ensures.goes)

pub returns-in-Err-clear_run-clause-goes : goal.returns-in-Err-clear_run-clause-goes
returns-in-Err-clear_run-clause-goes g c = then_more c.args.config.now c.args.vol (g.S.Shelf.meaning c.args.shelf.now) (g.S.Shelf.meaning c.load.new.shelf) (g.S.Shelf.meaning c.clear_run.new.shelf) (then_none c.args.config.now c.args.vol (g.S.Shelf.meaning c.args.shelf.now) (g.S.Shelf.meaning c.zero_run.new.shelf) (g.S.Shelf.meaning c.load.new.shelf) (zeros_logs c.args.config.now c.args.vol c.in-Some.entry (g.S.Shelf.meaning c.args.shelf.now) (g.S.Shelf.meaning c.zero_run.new.shelf) (sym c.log_of.ensures ∙ c.in-Some.is) (subst (λ (u : ℕ). Goes (ZerosIn u c.in-Some.entry.start c.in-Some.entry.blocks) (g.S.Shelf.meaning c.args.shelf.now) (g.S.Shelf.meaning c.zero_run.new.shelf)) c.from.ensures c.zero_run.ensures.goes)) c.load.ensures.goes) c.clear_run.ensures.goes

pub returns-in-Err-clear_run-clause-group : goal.returns-in-Err-clear_run-clause-group
returns-in-Err-clear_run-clause-group g c = begin_keeps c.args.config.now c.requires.checked c.args.vol c.requires.some (g.S.Shelf.meaning c.args.shelf.now) (g.S.Shelf.meaning c.clear_run.new.shelf) (g.met.S.Shelf.lawful c.args.shelf.now) (g.met.S.Shelf.lawful c.clear_run.new.shelf) c.requires.disks c.requires.alike (then_more c.args.config.now c.args.vol (g.S.Shelf.meaning c.args.shelf.now) (g.S.Shelf.meaning c.load.new.shelf) (g.S.Shelf.meaning c.clear_run.new.shelf) (then_none c.args.config.now c.args.vol (g.S.Shelf.meaning c.args.shelf.now) (g.S.Shelf.meaning c.zero_run.new.shelf) (g.S.Shelf.meaning c.load.new.shelf) (zeros_logs c.args.config.now c.args.vol c.in-Some.entry (g.S.Shelf.meaning c.args.shelf.now) (g.S.Shelf.meaning c.zero_run.new.shelf) (sym c.log_of.ensures ∙ c.in-Some.is) (subst (λ (u : ℕ). Goes (ZerosIn u c.in-Some.entry.start c.in-Some.entry.blocks) (g.S.Shelf.meaning c.args.shelf.now) (g.S.Shelf.meaning c.zero_run.new.shelf)) c.from.ensures c.zero_run.ensures.goes)) c.load.ensures.goes) c.clear_run.ensures.goes)

pub returns-in-Err-clear_run-clause-on : goal.returns-in-Err-clear_run-clause-on
returns-in-Err-clear_run-clause-on g c = begin_gone c.args.config.now c.requires.checked c.args.vol c.requires.some (g.S.Shelf.meaning c.args.shelf.now) (g.S.Shelf.meaning c.clear_run.new.shelf) (g.met.S.Shelf.lawful c.args.shelf.now) (g.met.S.Shelf.lawful c.clear_run.new.shelf) c.requires.disks c.requires.alike (then_more c.args.config.now c.args.vol (g.S.Shelf.meaning c.args.shelf.now) (g.S.Shelf.meaning c.load.new.shelf) (g.S.Shelf.meaning c.clear_run.new.shelf) (then_none c.args.config.now c.args.vol (g.S.Shelf.meaning c.args.shelf.now) (g.S.Shelf.meaning c.zero_run.new.shelf) (g.S.Shelf.meaning c.load.new.shelf) (zeros_logs c.args.config.now c.args.vol c.in-Some.entry (g.S.Shelf.meaning c.args.shelf.now) (g.S.Shelf.meaning c.zero_run.new.shelf) (sym c.log_of.ensures ∙ c.in-Some.is) (subst (λ (u : ℕ). Goes (ZerosIn u c.in-Some.entry.start c.in-Some.entry.blocks) (g.S.Shelf.meaning c.args.shelf.now) (g.S.Shelf.meaning c.zero_run.new.shelf)) c.from.ensures c.zero_run.ensures.goes)) c.load.ensures.goes) c.clear_run.ensures.goes)

pub returns-in-Err-clear_run-clause-alike : goal.returns-in-Err-clear_run-clause-alike
returns-in-Err-clear_run-clause-alike g c = begin_alike c.args.config.now c.requires.checked c.args.vol c.requires.some (g.S.Shelf.meaning c.args.shelf.now) (g.S.Shelf.meaning c.clear_run.new.shelf) (g.met.S.Shelf.lawful c.args.shelf.now) (g.met.S.Shelf.lawful c.clear_run.new.shelf) c.requires.disks c.requires.alike (then_more c.args.config.now c.args.vol (g.S.Shelf.meaning c.args.shelf.now) (g.S.Shelf.meaning c.load.new.shelf) (g.S.Shelf.meaning c.clear_run.new.shelf) (then_none c.args.config.now c.args.vol (g.S.Shelf.meaning c.args.shelf.now) (g.S.Shelf.meaning c.zero_run.new.shelf) (g.S.Shelf.meaning c.load.new.shelf) (zeros_logs c.args.config.now c.args.vol c.in-Some.entry (g.S.Shelf.meaning c.args.shelf.now) (g.S.Shelf.meaning c.zero_run.new.shelf) (sym c.log_of.ensures ∙ c.in-Some.is) (subst (λ (u : ℕ). Goes (ZerosIn u c.in-Some.entry.start c.in-Some.entry.blocks) (g.S.Shelf.meaning c.args.shelf.now) (g.S.Shelf.meaning c.zero_run.new.shelf)) c.from.ensures c.zero_run.ensures.goes)) c.load.ensures.goes) c.clear_run.ensures.goes)

pub returns-in-Err-clear_run-clause-others : goal.returns-in-Err-clear_run-clause-others
returns-in-Err-clear_run-clause-others g c = begin_others c.args.config.now c.requires.checked c.args.vol c.requires.some (g.S.Shelf.meaning c.args.shelf.now) (g.S.Shelf.meaning c.clear_run.new.shelf) (g.met.S.Shelf.lawful c.args.shelf.now) (g.met.S.Shelf.lawful c.clear_run.new.shelf) c.requires.disks c.requires.alike (then_more c.args.config.now c.args.vol (g.S.Shelf.meaning c.args.shelf.now) (g.S.Shelf.meaning c.load.new.shelf) (g.S.Shelf.meaning c.clear_run.new.shelf) (then_none c.args.config.now c.args.vol (g.S.Shelf.meaning c.args.shelf.now) (g.S.Shelf.meaning c.zero_run.new.shelf) (g.S.Shelf.meaning c.load.new.shelf) (zeros_logs c.args.config.now c.args.vol c.in-Some.entry (g.S.Shelf.meaning c.args.shelf.now) (g.S.Shelf.meaning c.zero_run.new.shelf) (sym c.log_of.ensures ∙ c.in-Some.is) (subst (λ (u : ℕ). Goes (ZerosIn u c.in-Some.entry.start c.in-Some.entry.blocks) (g.S.Shelf.meaning c.args.shelf.now) (g.S.Shelf.meaning c.zero_run.new.shelf)) c.from.ensures c.zero_run.ensures.goes)) c.load.ensures.goes) c.clear_run.ensures.goes)

pub load-requires-clause-disks : goal.load-requires-clause-disks
load-requires-clause-disks g c = holds_of c.args.config.now.disks (g.S.Shelf.meaning c.zero_run.new.shelf) (fit_later c.args.config.now c.args.vol (g.S.Shelf.meaning c.args.shelf.now) (g.S.Shelf.meaning c.zero_run.new.shelf) c.requires.disks (zeros_logs c.args.config.now c.args.vol c.in-Some.entry (g.S.Shelf.meaning c.args.shelf.now) (g.S.Shelf.meaning c.zero_run.new.shelf) (sym c.log_of.ensures ∙ c.in-Some.is) (subst (λ (u : ℕ). Goes (ZerosIn u c.in-Some.entry.start c.in-Some.entry.blocks) (g.S.Shelf.meaning c.args.shelf.now) (g.S.Shelf.meaning c.zero_run.new.shelf)) c.from.ensures c.zero_run.ensures.goes)))

pub clear_run-requires-clause-disks : goal.clear_run-requires-clause-disks
clear_run-requires-clause-disks g c = fit_later c.args.config.now c.args.vol (g.S.Shelf.meaning c.args.shelf.now) (g.S.Shelf.meaning c.load.new.shelf) c.requires.disks (then_none c.args.config.now c.args.vol (g.S.Shelf.meaning c.args.shelf.now) (g.S.Shelf.meaning c.zero_run.new.shelf) (g.S.Shelf.meaning c.load.new.shelf) (zeros_logs c.args.config.now c.args.vol c.in-Some.entry (g.S.Shelf.meaning c.args.shelf.now) (g.S.Shelf.meaning c.zero_run.new.shelf) (sym c.log_of.ensures ∙ c.in-Some.is) (subst (λ (u : ℕ). Goes (ZerosIn u c.in-Some.entry.start c.in-Some.entry.blocks) (g.S.Shelf.meaning c.args.shelf.now) (g.S.Shelf.meaning c.zero_run.new.shelf)) c.from.ensures c.zero_run.ensures.goes)) c.load.ensures.goes)

pub clear_run-requires-clause-alike : goal.clear_run-requires-clause-alike
clear_run-requires-clause-alike g c = begin_alike c.args.config.now c.requires.checked c.args.vol c.requires.some (g.S.Shelf.meaning c.args.shelf.now) (g.S.Shelf.meaning c.load.new.shelf) (g.met.S.Shelf.lawful c.args.shelf.now) (g.met.S.Shelf.lawful c.load.new.shelf) c.requires.disks c.requires.alike (then_none c.args.config.now c.args.vol (g.S.Shelf.meaning c.args.shelf.now) (g.S.Shelf.meaning c.zero_run.new.shelf) (g.S.Shelf.meaning c.load.new.shelf) (zeros_logs c.args.config.now c.args.vol c.in-Some.entry (g.S.Shelf.meaning c.args.shelf.now) (g.S.Shelf.meaning c.zero_run.new.shelf) (sym c.log_of.ensures ∙ c.in-Some.is) (subst (λ (u : ℕ). Goes (ZerosIn u c.in-Some.entry.start c.in-Some.entry.blocks) (g.S.Shelf.meaning c.args.shelf.now) (g.S.Shelf.meaning c.zero_run.new.shelf)) c.from.ensures c.zero_run.ensures.goes)) c.load.ensures.goes)

pub clear_run-requires-clause-on : goal.clear_run-requires-clause-on
clear_run-requires-clause-on g c =
    let at = placed c.args.config.now c.args.vol Drl c.in-Some.entry (g.S.Shelf.meaning c.args.shelf.now) c.requires.checked (sym c.log_of.ensures ∙ c.in-Some.is) c.requires.some (holds_of c.args.config.now.disks (g.S.Shelf.meaning c.args.shelf.now) c.requires.disks) in
    let long = c.in-Ok-load.ensures.loaded.log.run.long in
    begin_on c.args.config.now c.requires.checked c.args.vol c.requires.some (g.S.Shelf.meaning c.args.shelf.now) (g.S.Shelf.meaning c.load.new.shelf) (g.met.S.Shelf.lawful c.args.shelf.now) (g.met.S.Shelf.lawful c.load.new.shelf) c.requires.disks c.requires.alike (then_none c.args.config.now c.args.vol (g.S.Shelf.meaning c.args.shelf.now) (g.S.Shelf.meaning c.zero_run.new.shelf) (g.S.Shelf.meaning c.load.new.shelf) (zeros_logs c.args.config.now c.args.vol c.in-Some.entry (g.S.Shelf.meaning c.args.shelf.now) (g.S.Shelf.meaning c.zero_run.new.shelf) (sym c.log_of.ensures ∙ c.in-Some.is) (subst (λ (u : ℕ). Goes (ZerosIn u c.in-Some.entry.start c.in-Some.entry.blocks) (g.S.Shelf.meaning c.args.shelf.now) (g.S.Shelf.meaning c.zero_run.new.shelf)) c.from.ensures c.zero_run.ensures.goes)) c.load.ensures.goes) c.in-Ok-load.drl c.in-Ok-load.ensures.loaded
    (c.in-Ok-load.ensures.stands (zeros_settled c.args.config.now c.args.vol c.in-Some.entry c.in-Ok-load.drl (g.S.Shelf.meaning c.zero_run.new.shelf) (sym c.log_of.ensures ∙ c.in-Some.is) (let blocks = at.blocks in omega (arith, long, blocks)) c.in-Ok-load.ensures.loaded
    (subst (λ (u : ℕ). AreZeros u c.in-Some.entry.start c.in-Some.entry.blocks (g.S.Shelf.meaning c.zero_run.new.shelf)) c.from.ensures c.in-Ok.ensures.zeros)))

pub returns-in-Ok-clear_run-clause-off : goal.returns-in-Ok-clear_run-clause-off
returns-in-Ok-clear_run-clause-off g c = c.in-Ok-clear_run.ensures.off (let held = c.in-Ok-load.ensures.loaded.held in omega (arith, held))
