-- `take_one`: its clauses; what `load_maps` asks.
use Rattle.std.proofs.Common.{◌≡◌, ◌∙◌, None, Some, sym, subst, arith}
use Rattle.vx_group.proofs.CallLemmas.{not_down}
use Rattle.vx_group.proofs.MendLemmas.{same_Goes}
use Rattle.vx_grouplogs.proofs.KnowActs.{know_none}
use Rattle.vx_groupmaps.specs.Missing.{none_spared}
use Rattle.vx_group.specs.Holding.{wide}
use Rattle.vx_logged.proofs.StandLemmas.{inner_fit, inner_sound, know_wide, to_inner, to_wide}
use Rattle.vx_logged.specs.Logged.{LogOn}
use Rattle.vx_logs.specs.declared.logs.Logs.{Logs}
use Rattle.vx_loggroup.proofs.TakenMaps.{none_on, none_same, taken_known, taken_log, taken_used, taken_was}
use Rattle.vx_loggroup.proofs.taking.take_one.Goals as goal

pub load_maps-requires-clause-checked : goal.load_maps-requires-clause-checked
load_maps-requires-clause-checked g c = inner_sound c.args.core.now c.args.vol (g.S.Shelf.meaning c.args.shelf.now) (g.S.Shelf.meaning c.args.shelf.now) c.requires.none c.requires.stands

pub load_maps-requires-clause-some : goal.load_maps-requires-clause-some
load_maps-requires-clause-some g c = let is = c.blocks_of.ensures in let off = c.if-blocks_of-eq0.false in omega (arith, is, off)

pub load_maps-requires-clause-disks : goal.load_maps-requires-clause-disks
load_maps-requires-clause-disks g c = inner_fit c.args.core.now c.args.vol (g.S.Shelf.meaning c.args.shelf.now) (g.S.Shelf.meaning c.args.shelf.now) c.requires.none c.requires.stands

pub load_maps-requires-clause-up : goal.load_maps-requires-clause-up
load_maps-requires-clause-up g c = sym c.is_down.ensures ∙ c.if-is_down.false

pub returns-then-blocks_of-eq0-clause-goes : goal.returns-then-blocks_of-eq0-clause-goes
returns-then-blocks_of-eq0-clause-goes g c = same_Goes (g.S.Shelf.meaning c.args.shelf.now)

pub returns-then-blocks_of-eq0-clause-known : goal.returns-then-blocks_of-eq0-clause-known
returns-then-blocks_of-eq0-clause-known g c = know_none (wide c.args.core.now).config c.args.vol none_spared c.args.one.now (g.S.Shelf.meaning c.args.shelf.now) c.requires.plain

pub returns-then-is_down-clause-goes : goal.returns-then-is_down-clause-goes
returns-then-is_down-clause-goes g c = same_Goes (g.S.Shelf.meaning c.args.shelf.now)

pub returns-then-is_down-clause-known : goal.returns-then-is_down-clause-known
returns-then-is_down-clause-known g c = know_none (wide c.args.core.now).config c.args.vol none_spared c.args.one.now (g.S.Shelf.meaning c.args.shelf.now) c.requires.plain

pub returns-in-Ok-clause-log : goal.returns-in-Ok-clause-log
returns-in-Ok-clause-log g c =
    to_wide c.args.core.now c.args.vol (g.S.Shelf.meaning c.args.shelf.now) (g.S.Shelf.meaning c.load_maps.new.shelf) c.requires.none c.requires.stands c.args.vol (record { drl = c.args.one.now.drl; fmr = c.in-Ok.loaded.fmr })
    (taken_log c.args.core.now.inner.config (inner_sound c.args.core.now c.args.vol (g.S.Shelf.meaning c.args.shelf.now) (g.S.Shelf.meaning c.args.shelf.now) c.requires.none c.requires.stands) c.args.vol
    (let is = c.blocks_of.ensures in let off = c.if-blocks_of-eq0.false in omega (arith, is, off)) (g.S.Shelf.meaning c.args.shelf.now) (g.S.Shelf.meaning c.load_maps.new.shelf) (g.met.S.Shelf.lawful c.args.shelf.now)
    (inner_fit c.args.core.now c.args.vol (g.S.Shelf.meaning c.args.shelf.now) (g.S.Shelf.meaning c.args.shelf.now) c.requires.none c.requires.stands) c.load_maps.ensures.goes (c.requires.tells (not_down c.is_down.result (g.S.Shelf.meaning c.args.shelf.now).down c.is_down.ensures c.if-is_down.false)) c.args.one.now
    (to_inner c.args.core.now c.args.vol (g.S.Shelf.meaning c.args.shelf.now) (g.S.Shelf.meaning c.args.shelf.now) c.requires.none c.requires.stands c.args.vol c.args.one.now c.requires.log) c.in-Ok.loaded.fmr c.in-Ok.loaded.gone c.in-Ok.ensures.takes)

pub returns-in-Ok-clause-known : goal.returns-in-Ok-clause-known
returns-in-Ok-clause-known g c =
    know_wide c.args.core.now c.args.vol (g.S.Shelf.meaning c.args.shelf.now) (g.S.Shelf.meaning c.load_maps.new.shelf) c.requires.none c.requires.stands c.args.vol none_spared (record { drl = c.args.one.now.drl; fmr = c.in-Ok.loaded.fmr })
    (taken_known c.args.core.now.inner.config (inner_sound c.args.core.now c.args.vol (g.S.Shelf.meaning c.args.shelf.now) (g.S.Shelf.meaning c.args.shelf.now) c.requires.none c.requires.stands) c.args.vol
    (let is = c.blocks_of.ensures in let off = c.if-blocks_of-eq0.false in omega (arith, is, off)) (g.S.Shelf.meaning c.args.shelf.now) (g.S.Shelf.meaning c.load_maps.new.shelf) (g.met.S.Shelf.lawful c.args.shelf.now)
    (inner_fit c.args.core.now c.args.vol (g.S.Shelf.meaning c.args.shelf.now) (g.S.Shelf.meaning c.args.shelf.now) c.requires.none c.requires.stands) c.load_maps.ensures.goes (c.requires.tells (not_down c.is_down.result (g.S.Shelf.meaning c.args.shelf.now).down c.is_down.ensures c.if-is_down.false)) c.args.one.now
    (to_inner c.args.core.now c.args.vol (g.S.Shelf.meaning c.args.shelf.now) (g.S.Shelf.meaning c.args.shelf.now) c.requires.none c.requires.stands c.args.vol c.args.one.now c.requires.log) c.in-Ok.loaded.fmr c.in-Ok.loaded.gone c.in-Ok.ensures.takes)

pub returns-in-Err-clause-log : goal.returns-in-Err-clause-log
returns-in-Err-clause-log g c =
    subst (λ (l : Logs). LogOn c.args.core.now c.args.vol l (g.S.Shelf.meaning c.load_maps.new.shelf)) (none_same c.args.one.now c.requires.plain)
    (to_wide c.args.core.now c.args.vol (g.S.Shelf.meaning c.args.shelf.now) (g.S.Shelf.meaning c.load_maps.new.shelf) c.requires.none c.requires.stands c.args.vol (record { drl = c.args.one.now.drl; fmr = None })
    (none_on c.args.core.now.inner.config (inner_sound c.args.core.now c.args.vol (g.S.Shelf.meaning c.args.shelf.now) (g.S.Shelf.meaning c.args.shelf.now) c.requires.none c.requires.stands) c.args.vol
    (let is = c.blocks_of.ensures in let off = c.if-blocks_of-eq0.false in omega (arith, is, off)) (g.S.Shelf.meaning c.args.shelf.now) (g.S.Shelf.meaning c.load_maps.new.shelf) (g.met.S.Shelf.lawful c.args.shelf.now)
    (inner_fit c.args.core.now c.args.vol (g.S.Shelf.meaning c.args.shelf.now) (g.S.Shelf.meaning c.args.shelf.now) c.requires.none c.requires.stands) c.load_maps.ensures.goes (c.requires.tells (not_down c.is_down.result (g.S.Shelf.meaning c.args.shelf.now).down c.is_down.ensures c.if-is_down.false)) c.args.one.now
    (to_inner c.args.core.now c.args.vol (g.S.Shelf.meaning c.args.shelf.now) (g.S.Shelf.meaning c.args.shelf.now) c.requires.none c.requires.stands c.args.vol c.args.one.now c.requires.log)))

pub returns-in-Err-clause-known : goal.returns-in-Err-clause-known
returns-in-Err-clause-known g c = know_none (wide c.args.core.now).config c.args.vol none_spared c.args.one.now (g.S.Shelf.meaning c.load_maps.new.shelf) c.requires.plain

pub returns-then-blocks_of-eq0-clause-used : goal.returns-then-blocks_of-eq0-clause-used
returns-then-blocks_of-eq0-clause-used g c = λ some. absurd (some c.requires.plain)

pub returns-then-is_down-clause-used : goal.returns-then-is_down-clause-used
returns-then-is_down-clause-used g c = λ some. absurd (some c.requires.plain)

pub returns-in-Ok-clause-used : goal.returns-in-Ok-clause-used
returns-in-Ok-clause-used g c = taken_used c.args.core.now.inner.config c.args.vol c.in-Ok.loaded.fmr c.in-Ok.loaded.gone (g.S.Shelf.meaning c.args.shelf.now) (g.S.Shelf.meaning c.load_maps.new.shelf) c.in-Ok.ensures.takes

pub returns-in-Err-clause-used : goal.returns-in-Err-clause-used
returns-in-Err-clause-used g c = λ some. absurd (some c.requires.plain)

pub returns-then-blocks_of-eq0-clause-was : goal.returns-then-blocks_of-eq0-clause-was
returns-then-blocks_of-eq0-clause-was g c = λ f at. absurd (let clash : None ≡ Some f = sym c.requires.plain ∙ at in cc)

pub returns-then-is_down-clause-was : goal.returns-then-is_down-clause-was
returns-then-is_down-clause-was g c = λ f at. absurd (let clash : None ≡ Some f = sym c.requires.plain ∙ at in cc)

pub returns-in-Err-clause-was : goal.returns-in-Err-clause-was
returns-in-Err-clause-was g c = λ f at. absurd (let clash : None ≡ Some f = sym c.requires.plain ∙ at in cc)

pub returns-in-Ok-clause-was : goal.returns-in-Ok-clause-was
returns-in-Ok-clause-was g c = taken_was c.args.core.now.inner.config c.args.vol c.in-Ok.loaded.fmr c.in-Ok.loaded.gone (g.S.Shelf.meaning c.args.shelf.now) (g.S.Shelf.meaning c.load_maps.new.shelf) (g.met.S.Shelf.lawful c.args.shelf.now)
    (let is = c.blocks_of.ensures in let off = c.if-blocks_of-eq0.false in omega (arith, is, off)) c.in-Ok.ensures.takes
