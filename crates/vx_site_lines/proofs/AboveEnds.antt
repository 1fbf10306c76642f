-- A line at a site with a replicated volume group over its group that leaves what it notes of the group as it is.
use Rattle.std.proofs.Common.{◌≡◌, ◌∙◌, inl, ℕ, true, [], ap, sym, subst, refl, arith}
use Rattle.std.proofs.Math.Path.{fun_ext}
use Rattle.std.specs.Prelude.{Option, Some, Result, Err}
use Rattle.vx_model.specs.declared.errors.OutOfMemory.{OutOfMemory}
use Rattle.vx_disk.specs.declared.shelf.Shelf.{Ghosts}
use Rattle.vx_history.specs.Doubts.{Doubted}
use Rattle.vx_history.specs.Groups.{GroupNode}
use Rattle.vx_history.specs.World.{Fuse, Node, World, with_node}
use Rattle.vx_script.specs.declared.line.ScriptLine.{ScriptLine}
use Rattle.vx_effects.proofs.Effects.{updated_self}
use Rattle.vx_events.specs.Ends.{Ends, place_of}
use Rattle.vx_events.specs.GroupNotes.{IsKnown, note_at}
use Rattle.vx_events.specs.RvgOver.{EndsOver, NotesLine, SaysOver, fuse_behind, noting_over}
use Rattle.vx_events.specs.RvgViews.{is_over_rvg}
use Rattle.vx_events.specs.RvgWorks.{FuseRanOut}
use Rattle.vx_events.specs.declared.said.Said.{Said}
use Rattle.vx_events.specs.Parts.{StopsInPart}
use Rattle.vx_events.proofs.Parts.{none_done}
use Rattle.vx_yard.specs.AboveLines.{LeadsAboveIs}
use Rattle.vx_yard.specs.Standing.{StandsFor}
use Rattle.vx_yard.specs.Yards.{count_of}
use Rattle.vx_yard.specs.declared.yard.Yard.{Yard}
use Rattle.vx_yard.proofs.ChangeSite.{rose_none}
use Rattle.vx_above.proofs.OverSites.{note_is}

-- the world as it is
noted_over_same : (line : ScriptLine) (w v : World) (s : ℕ) (note : GroupNode) → (v.nodes s).group ≡ Some note → fuse_behind line (w.nodes s).fuse (v.nodes s).fuse ≡ (v.nodes s).fuse → v ≡ noting_over line w v s note
noted_over_same line w v s note is lit =
    let k : Node = v.nodes s in
    let n : Node = record k { group = Some note; fuse = fuse_behind line (w.nodes s).fuse k.fuse } in
    let same : n ≡ k =
    ap (λ (o : Option GroupNode). let m : Node = record k { group = o; fuse = fuse_behind line (w.nodes s).fuse k.fuse } in m) (sym is) ∙ ap (λ (f : Fuse). let m : Node = record k { fuse = f } in m) lit in
    ap (λ (ns : ℕ → Node). let x : World = record v { nodes = ns } in x) (fun_ext (λ i. updated_self v.nodes s i)) ∙ ap (λ (m : Node). with_node v s m) (sym same)

-- no call failed
pub stays_over : (told : Type 0) (d : Doubted) (line : ScriptLine) (s : ℕ) (inner said : Said) (e : Doubted) → Ends (IsKnown told (note_at (d.world.nodes s))) d line (place_of d.world line) [] inner e
    → NotesLine (FuseRanOut (d.world.nodes s) inner) s [] line (note_at (d.world.nodes s)) (note_at (d.world.nodes s)) → SaysOver (d.world.nodes s) (note_at (d.world.nodes s)) inner said
    → is_over_rvg (d.world.nodes s) ≡ true → (e.world.nodes s).group ≡ (d.world.nodes s).group → fuse_behind line (d.world.nodes s).fuse (e.world.nodes s).fuse ≡ (e.world.nodes s).fuse → EndsOver told d line s [] said e
stays_over told d line s inner said e ends notes says over group lit = record {
  borne = [];
  ending = [];
  split = refl;
  bears = tt;
  inner = inner;
  middle = e;
  ends = ends;
  next = note_at (d.world.nodes s);
  notes = notes;
  says = says;
  left = record { world = noted_over_same line d.world e.world s (note_at (d.world.nodes s)) (group ∙ note_is (d.world.nodes s) over) lit; after = λ i. refl; strayed = refl };
}

module _ {R : Type 0} {g : Ghosts R} where
  -- memory ran out before the line
  pub unbegun_above : (d : Doubted) (line : ScriptLine) (y : Yard R g) (r : Result Said OutOfMemory) (e : OutOfMemory) → r ≡ Err e → StandsFor d y → LeadsAboveIs d line y y r
  unbegun_above d line y r e is stands = subst (λ (x : Result Said OutOfMemory). LeadsAboveIs d line y y x) (sym is) (record {
    next = d;
    part = inl (StopsInPart (none_done d line));
    stands = stands;
    carries = λ was. was;
    rose = rose_none (count_of y) (count_of y) (λ i u. omega arith);
  })
