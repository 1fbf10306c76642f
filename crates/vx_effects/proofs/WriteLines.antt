-- What the events of a line that writes leave, with what the line notes.
use Rattle.std.proofs.Common.{◌≡◌, ◌∙◌, ℕ, ◌<◌, ◌≤◌, List, [], ◌∷◌, ◌++◌, length, false, refl, ap, arith}
use Rattle.std.specs.Prelude.{Option, Some, None}
use Rattle.vx_model.specs.Content.{Write as WriteBlocks}
use Rattle.vx_model.specs.declared.site.SiteState.TheVariants.{Up}
use Rattle.vx_history.specs.Doubts.{After, Doubted, happened}
use Rattle.vx_history.specs.Events.{kept_of, link_left, lost_touch}
use Rattle.vx_history.specs.Steps.{burned, crashed, half_begun, logged, spent, worked_on, write_calls}
use Rattle.vx_history.specs.World.{Fuse, FuseLit, FuseSet, Gathering, Link, NoFuse, Node, Packet}
use Rattle.vx_history.specs.declared.event.Event.TheVariants.{Crash, Write}
use Rattle.vx_history.proofs.Fuses.{burned_twice}
use Rattle.vx_events.specs.Doubts.{run_as}
use Rattle.vx_events.specs.Effects.{EffectAt}
use Rattle.vx_events.specs.LinksFit.{RowFits}
use Rattle.vx_effects.specs.Writes.{IsLetIn}
use Rattle.vx_effects.proofs.Effects.{changes_then, left_effect}
use Rattle.vx_effects.proofs.Links.{row_left}
use Rattle.vx_effects.proofs.Rises.{note_effect}
use Rattle.vx_effects.proofs.Writes.{half_effect, write_effect}

burned_spent : (k : ℕ) (f : Fuse) → burned (spent k f) ≡ spent k f
burned_spent k NoFuse = refl
burned_spent k (FuseSet calls) = refl
burned_spent k (FuseLit most) = refl

-- the fuse of a site may have let calls pass
pub worked_effect : (s : ℕ) (d e : Doubted) (n : Node) {row : ℕ → Link} {many : ℕ} {doubt : Option After} {packets : List Packet} {gathered : Option Gathering}
    → EffectAt s d e n row many doubt packets gathered
    → EffectAt s d (record e { world = worked_on e.world s }) (record n { fuse = burned n.fuse }) row many doubt packets gathered
worked_effect s d e n f =
    let m : Node = record (e.world.nodes s) { fuse = burned (e.world.nodes s).fuse } in
    let g = note_effect e s m in
    record {
      site = changes_then s d e (record e { world = worked_on e.world s }) f.site g.site;
      is = record {
        node = g.is.node ∙ ap (λ (k : Node). let x : Node = record k { fuse = burned k.fuse } in x) f.is.node;
        links = f.is.links;
        headers = f.is.headers;
        after = f.is.after;
      };
      sent = f.sent;
      gathering = f.gathering;
    }

same_node : (s : ℕ) (d e : Doubted) (n m : Node) {row : ℕ → Link} {many : ℕ} {doubt : Option After} {packets : List Packet} {gathered : Option Gathering} → n ≡ m
    → EffectAt s d e n row many doubt packets gathered → EffectAt s d e m row many doubt packets gathered
same_node s d e n m same f =
    record { site = f.site; is = record { node = f.is.node ∙ same; links = f.is.links; headers = f.is.headers; after = f.is.after }; sent = f.sent; gathering = f.gathering }

module _ (d : Doubted) (s : ℕ) (x : WriteBlocks) (fit : RowFits s d.world.sites (d.world.links s)) (can : IsLetIn d.world s x) where
  abbrev n : Node
  n = d.world.nodes s

  abbrev half : ℕ → Node
  half disk = record n { log = n.log ++ x ∷ []; halted = Some disk; fuse = burned n.fuse }

  -- it is done
  pub line_written : EffectAt s d (record (happened d (Write s x.volume x.start x.bytes None) false) { world = worked_on (happened d (Write s x.volume x.start x.bytes None) false).world s })
      (logged n x) (d.world.links s) (d.world.headers s) (d.after s) d.world.packets (d.world.gathering s)
  line_written =
      let e : Doubted = happened d (Write s x.volume x.start x.bytes None) false in
      let with_fuse : Fuse → Node = λ f. record (logged n x) { fuse = f } in
      same_node s d (record e { world = worked_on e.world s }) (record (logged n x) { fuse = burned (spent write_calls n.fuse) }) (logged n x)
      (ap with_fuse (burned_spent write_calls n.fuse)) (worked_effect s d e (logged n x) (write_effect d s x fit can false))

  -- a disk failed in it
  pub line_halted : (disk : ℕ)
      → EffectAt s d (record (happened d (Write s x.volume x.start x.bytes (Some disk)) false) { world = worked_on (happened d (Write s x.volume x.start x.bytes (Some disk)) false).world s })
      (record n { log = n.log ++ x ∷ []; halted = Some disk; fuse = burned n.fuse }) (d.world.links s) (d.world.headers s) (d.after s) d.world.packets (d.world.gathering s)
  line_halted disk =
      let e : Doubted = happened d (Write s x.volume x.start x.bytes (Some disk)) false in
      let with_fuse : Fuse → Node = λ f. record (half disk) { fuse = f } in
      same_node s d (record e { world = worked_on e.world s }) (record (half disk) { fuse = burned (burned n.fuse) }) (half disk)
      (ap with_fuse (burned_twice n.fuse)) (worked_effect s d e (half disk) (half_effect d s x fit can disk false))

  -- the fuse of its site ran out in it
  pub line_cut : (count : ℕ) → n.safe ≤ count → count ≤ length (n.log ++ x ∷ [])
      → EffectAt s d (run_as false d (Write s x.volume x.start x.bytes (Some 0) ∷ Crash s count ∷ [])) (crashed (half_begun n x) count) (λ k. lost_touch (d.world.links s k))
      (d.world.headers s) None d.world.packets None
  line_cut count least most =
      let e : Doubted = happened d (Write s x.volume x.start x.bytes (Some 0)) false in
      let f = half_effect d s x fit can 0 false in
      let below : s < e.world.sites = omega (arith, can.call.site, f.site.sites) in
      let up : (e.world.nodes s).state ≡ Up = ap (λ (m : Node). m.state) f.is.node ∙ can.call.up in
      let g = left_effect e s count false below up in
      let kept : kept_of (half 0) count ≡ count = omega (arith, least, most) in
      record {
        site = changes_then s d e (run_as false d (Write s x.volume x.start x.bytes (Some 0) ∷ Crash s count ∷ [])) f.site g.site;
        is = record {
          node = g.is.node ∙ ap (λ (m : Node). crashed m (kept_of m count)) f.is.node ∙ ap (λ (k : ℕ). crashed (half_begun n x) k) kept;
          links = λ k.
              g.is.links k
              ∙ ap (λ (l : Link). link_left (e.world.nodes s) (kept_of (e.world.nodes s) count) l) (f.is.links k)
              ∙ row_left (e.world.nodes s) (kept_of (e.world.nodes s) count) s d.world.sites (d.world.links s) fit k;
          headers = g.is.headers ∙ f.is.headers;
          after = g.is.after;
        };
        sent = g.sent ∙ f.sent;
        gathering = g.gathering;
      }
