-- The regions that are noted for a plex.
use Rattle.std.proofs.Common.{◌≡◌, ◌<◌, ap, true, arith}
use Rattle.vx_fmr.specs.Missed.{Missed}
use Rattle.vx_fmr.proofs.Changes.{run_all, run_changed, run_others}
use Rattle.vx_fmr.proofs.fmr.Fmr.note.Goals as goal

pub returns-clause-changed : goal.returns-clause-changed
returns-clause-changed g c =
    let e : c.self.inside.regions ≡ c.args.self.now.regions = ap (λ (f : Missed). f.regions) c.self.view_is in
    let low : c.args.last < c.self.inside.stride = omega (arith, e, c.requires.inside, c.self.invariant.fit) in
    run_changed (record { map = c.self.inside.map; plexes = c.self.inside.plexes; stride = c.self.inside.stride; regions = c.self.inside.regions }) c.args.self.now c.self.view_is
    c.set_run.new.self c.args.plex c.args.first c.args.last c.place-start.result c.place-end.result true c.place-start.ensures.is c.place-end.ensures.is c.self.invariant c.requires.exists low c.set_run.result c.set_run.ensures.changed

pub returns-clause-others : goal.returns-clause-others
returns-clause-others g c =
    let e : c.self.inside.regions ≡ c.args.self.now.regions = ap (λ (f : Missed). f.regions) c.self.view_is in
    let low : c.args.last < c.self.inside.stride = omega (arith, e, c.requires.inside, c.self.invariant.fit) in
    run_others (record { map = c.self.inside.map; plexes = c.self.inside.plexes; stride = c.self.inside.stride; regions = c.self.inside.regions }) c.args.self.now c.self.view_is
    c.set_run.new.self c.args.plex c.args.first c.args.last c.place-start.result c.place-end.result true c.place-start.ensures.is c.place-end.ensures.is c.self.invariant c.requires.exists low c.set_run.ensures.part

pub returns-clause-nothing : goal.returns-clause-nothing
returns-clause-nothing g c = λ all.
    let e : c.self.inside.regions ≡ c.args.self.now.regions = ap (λ (f : Missed). f.regions) c.self.view_is in
    let low : c.args.last < c.self.inside.stride = omega (arith, e, c.requires.inside, c.self.invariant.fit) in
    c.set_run.ensures.nothing (run_all (record { map = c.self.inside.map; plexes = c.self.inside.plexes; stride = c.self.inside.stride; regions = c.self.inside.regions }) c.args.self.now c.self.view_is
    c.set_run.new.self c.args.plex c.args.first c.args.last c.place-start.result c.place-end.result true c.place-start.ensures.is c.place-end.ensures.is c.self.invariant c.requires.exists low all)
