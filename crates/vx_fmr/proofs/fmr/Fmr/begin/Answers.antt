-- The map of a plex that is emptied.
use Rattle.std.proofs.Common.{◌≡◌, ◌∙◌, ℕ, ◌-◌, ◌<◌, ap, false, arith}
use Rattle.vx_fmr.specs.Missed.{Missed, missed_place}
use Rattle.vx_fmr.proofs.Changes.{run_all, run_changed, run_others}
use Rattle.vx_fmr.proofs.fmr.Fmr.begin.Goals as goal

pub returns-clause-changed : goal.returns-clause-changed
returns-clause-changed g c =
    let e : c.self.inside.stride ≡ c.args.self.now.stride = ap (λ (f : Missed). f.stride) c.self.view_is in
    let low : c.args.self.now.stride - 1 < c.self.inside.stride = omega (arith, e, c.self.invariant.some, c.self.invariant.fit) in
    run_changed (record { map = c.self.inside.map; plexes = c.self.inside.plexes; stride = c.self.inside.stride; regions = c.self.inside.regions }) c.args.self.now c.self.view_is
    c.clear_run.new.self c.args.plex 0 (c.args.self.now.stride - 1) c.place-start.result c.place-end.result false c.place-start.ensures.is (c.place-end.ensures.is ∙ ap (λ (n : ℕ). missed_place c.args.self.now c.args.plex (n - 1)) e) c.self.invariant c.requires.exists low c.clear_run.result c.clear_run.ensures.changed

pub returns-clause-others : goal.returns-clause-others
returns-clause-others g c =
    let e : c.self.inside.stride ≡ c.args.self.now.stride = ap (λ (f : Missed). f.stride) c.self.view_is in
    let low : c.args.self.now.stride - 1 < c.self.inside.stride = omega (arith, e, c.self.invariant.some, c.self.invariant.fit) in
    run_others (record { map = c.self.inside.map; plexes = c.self.inside.plexes; stride = c.self.inside.stride; regions = c.self.inside.regions }) c.args.self.now c.self.view_is
    c.clear_run.new.self c.args.plex 0 (c.args.self.now.stride - 1) c.place-start.result c.place-end.result false c.place-start.ensures.is (c.place-end.ensures.is ∙ ap (λ (n : ℕ). missed_place c.args.self.now c.args.plex (n - 1)) e) c.self.invariant c.requires.exists low c.clear_run.ensures.part

pub returns-clause-nothing : goal.returns-clause-nothing
returns-clause-nothing g c = λ all.
    let e : c.self.inside.stride ≡ c.args.self.now.stride = ap (λ (f : Missed). f.stride) c.self.view_is in
    let low : c.args.self.now.stride - 1 < c.self.inside.stride = omega (arith, e, c.self.invariant.some, c.self.invariant.fit) in
    c.clear_run.ensures.nothing (run_all (record { map = c.self.inside.map; plexes = c.self.inside.plexes; stride = c.self.inside.stride; regions = c.self.inside.regions }) c.args.self.now c.self.view_is
    c.clear_run.new.self c.args.plex 0 (c.args.self.now.stride - 1) c.place-start.result c.place-end.result false c.place-start.ensures.is (c.place-end.ensures.is ∙ ap (λ (n : ℕ). missed_place c.args.self.now c.args.plex (n - 1)) e) c.self.invariant c.requires.exists low all)
