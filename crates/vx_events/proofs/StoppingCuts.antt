-- A fuse that runs out in a write: the crash that keeps it or not is one of a site that may be as it was, or as it is behind the write.
use Rattle.std.proofs.Common.{◌≡◌, ◌∙◌, ℕ, Bool, true, false, List, [], ◌∷◌, ap, sym, subst, refl}
use Rattle.std.specs.Prelude.{Option, Some, None, if◌then◌else◌, leb, ◌+◌, ◌<◌}
use Rattle.vx_model.specs.Answer.{is_too_large}
use Rattle.vx_model.specs.Content.{Write as WriteBlocks, blocks_in}
use Rattle.vx_model.specs.Sites.{is_origin}
use Rattle.vx_model.specs.declared.history.Line.{Line}
use Rattle.vx_model.specs.declared.limits.TheConstants.{MOST_NUMBER}
use Rattle.vx_model.specs.declared.no.Counted.TheVariants.{Number}
use Rattle.vx_model.specs.declared.no.No.TheVariants.{Limit}
use Rattle.vx_model.specs.declared.site.SiteState.TheVariants.{Up}
use Rattle.vx_history.proofs.Updates.{all_updated, at_place}
use Rattle.vx_history.specs.Admission.{Admitted, Held_by, Goes}
use Rattle.vx_history.specs.Doubts.{After, Doubted, halved, resolved, taken_up, crashed_as}
use Rattle.vx_history.specs.Events.{admitted, written_if, put_in, links_changed, crash_at, kept_of, link_left}
use Rattle.vx_history.specs.Headers.{headers_by}
use Rattle.vx_history.specs.Likes.{IsLike, SameLink}
use Rattle.vx_history.specs.Refusals.{Outcome}
use Rattle.vx_history.specs.Sends.{is_linked}
use Rattle.vx_history.specs.Step.{step, outcome_of, run, done}
use Rattle.vx_history.specs.Stops.{IsLikeDoubted}
use Rattle.vx_history.specs.Steps.{crashed, kept_by, half_written, stopped_by, burned}
use Rattle.vx_history.specs.World.{Node, Link as LinkOf, History, World, updated, line_updated, with_node, with_history}
use Rattle.vx_history.specs.declared.event.Event.{Event}
use Rattle.vx_history.specs.declared.event.Event.TheVariants.{Write as WriteAt, Crash as CrashAt}
use Rattle.vx_events.specs.Doubts.{run_as}
use Rattle.vx_events.proofs.Keeping.{past, past_volume}
use Rattle.vx_events.proofs.Steps.{crash_step}

pub other_place : {A : Type 0} (f : ℕ → A) (i : ℕ) (x : A) (k : ℕ) → (k ≡ i → ⊥) → updated f i x k ≡ f k
other_place f i x k apart =
    all_updated (λ j y. (j ≡ k) → (k ≡ i → ⊥) → y ≡ f k) f i x (λ is off. absurd (off (sym is))) (λ j _ is _. ap f is) k refl apart

-- v is w but for one site, its links, and notes
pub record IsMoved (s : ℕ) (w v : World) : Type 0 where
  pub sites : v.sites ≡ w.sites
  pub nodes : (i : ℕ) → (i ≡ s → ⊥) → v.nodes i ≡ w.nodes i
  pub rows : (i : ℕ) → (i ≡ s → ⊥) → v.links i ≡ w.links i
  pub lines : v.lines ≡ w.lines
  pub packets : v.packets ≡ w.packets
  pub promised : v.promised ≡ w.promised
  pub gathering : (i : ℕ) → v.gathering i ≡ w.gathering i
  pub up : (w.nodes s).state ≡ Up → (v.nodes s).state ≡ Up

unmoved : (s : ℕ) (w : World) → IsMoved s w w
unmoved s w = record {
  sites = refl;
  nodes = λ i _. refl;
  rows = λ i _. refl;
  lines = refl;
  packets = refl;
  promised = refl;
  gathering = λ i. refl;
  up = λ is. is;
}

module _ (w : World) (s : ℕ) (x : WriteBlocks) where
  half_moved : IsMoved s w (half_written (links_changed w s x) s x 0)
  half_moved = record {
    sites = refl;
    nodes = λ i apart. other_place w.nodes s _ i apart;
    rows = λ i apart. other_place w.links s _ i apart;
    lines = refl;
    packets = refl;
    promised = refl;
    gathering = λ i. refl;
    up = λ is. ap (λ (n : Node). n.state) (at_place w.nodes s _) ∙ is;
  }

  written_moved : (a : Admitted) → IsMoved s w (written_if a w s x (Some 0)).world
  written_moved (Held_by why) = unmoved s w
  written_moved (Goes changes) = past (IsMoved s w) (leb MOST_NUMBER (w.nodes s).safe) (Limit Number MOST_NUMBER) w (put_in (links_changed w s x) s x (Some 0)) (unmoved s w) half_moved

-- a write that a disk ended changes its own site
write_moved : (w : World) (s volume start : ℕ) (bytes : List ℕ) → IsMoved s w (step w (WriteAt s volume start bytes (Some 0))).world
write_moved w s volume start bytes =
    let x : WriteBlocks = record { volume = volume; start = start; bytes = bytes } in
    let m = past_volume (IsMoved s w) w s volume start (blocks_in bytes) (is_too_large (w.nodes s).ring (blocks_in bytes)) (written_if (admitted w s x) w s x (Some 0)) (unmoved s w) (written_moved w s x (admitted w s x)) in
    record { sites = m.sites; nodes = m.nodes; rows = m.rows; lines = m.lines; packets = m.packets; promised = m.promised; gathering = m.gathering; up = m.up }

-- ---- crashes of two worlds that differ in whether a site is halted, and in notes

-- the crash of a site of this node and these links, whichever world has them
abbrev crash_lines : (Line → History) → Node → (kept : ℕ) → Line → History
crash_lines lines n k = if is_origin n.role then line_updated lines n.line (kept_by (lines n.line) n k) else lines

lines_are : (b : Bool) (w : World) (s : ℕ) (n : Node) (h : History) → (if b then with_history w s n h else with_node w s n).lines ≡ (if b then line_updated w.lines n.line h else w.lines)
lines_are true w s n h = refl
lines_are false w s n h = refl

nodes_are : (b : Bool) (w : World) (s : ℕ) (n : Node) (h : History) → (if b then with_history w s n h else with_node w s n).nodes ≡ updated w.nodes s n
nodes_are true w s n h = refl
nodes_are false w s n h = refl

links_are : (b : Bool) (w : World) (s : ℕ) (n : Node) (h : History) → (if b then with_history w s n h else with_node w s n).links ≡ w.links
links_are true w s n h = refl
links_are false w s n h = refl

sites_are : (b : Bool) (w : World) (s : ℕ) (n : Node) (h : History) → (if b then with_history w s n h else with_node w s n).sites ≡ w.sites
sites_are true w s n h = refl
sites_are false w s n h = refl

packets_are : (b : Bool) (w : World) (s : ℕ) (n : Node) (h : History) → (if b then with_history w s n h else with_node w s n).packets ≡ w.packets
packets_are true w s n h = refl
packets_are false w s n h = refl

promised_are : (b : Bool) (w : World) (s : ℕ) (n : Node) (h : History) → (if b then with_history w s n h else with_node w s n).promised ≡ w.promised
promised_are true w s n h = refl
promised_are false w s n h = refl

gathering_are : (b : Bool) (w : World) (s : ℕ) (n : Node) (h : History) → (if b then with_history w s n h else with_node w s n).gathering ≡ w.gathering
gathering_are true w s n h = refl
gathering_are false w s n h = refl

like_node : (a b : Node) → b ≡ a → b ≡ record a { fuse = b.fuse; failing = b.failing; group = b.group }
like_node a b e = subst (λ (x : Node). x ≡ record a { fuse = x.fuse; failing = x.failing; group = x.group }) (sym e) refl

like_link : (a b : LinkOf) → b ≡ a → SameLink a b
like_link a b e = record { linked = ap is_linked e; same = λ _. e }

-- a has the node and the links of v at one site, but for its fuse and for what halted it
record IsNear (s : ℕ) (a v : World) : Type 0 where
  sites : v.sites ≡ a.sites
  here : a.nodes s ≡ record (v.nodes s) { halted = (a.nodes s).halted; fuse = (a.nodes s).fuse }
  nodes : (i : ℕ) → (i ≡ s → ⊥) → v.nodes i ≡ a.nodes i
  rows : (i : ℕ) → v.links i ≡ a.links i
  lines : v.lines ≡ a.lines
  packets : v.packets ≡ a.packets
  promised : v.promised ≡ a.promised
  gathering : (i : ℕ) → v.gathering i ≡ a.gathering i

module _ (s kept : ℕ) (a v : World) (near : IsNear s a v) where
  -- the crash makes one node of both
  node_same : crashed (v.nodes s) (kept_of (v.nodes s) kept) ≡ crashed (a.nodes s) (kept_of (a.nodes s) kept)
  node_same = ap (λ (n : Node). crashed n (kept_of n kept)) (sym near.here)

  nodes_same : (i : ℕ) → (crash_at v s (kept_of (v.nodes s) kept)).nodes i ≡ (crash_at a s (kept_of (a.nodes s) kept)).nodes i
  nodes_same i =
      let n : Node = crashed (a.nodes s) (kept_of (a.nodes s) kept) in
      ap (λ (f : ℕ → Node). f i) (nodes_are (is_origin (v.nodes s).role) v s (crashed (v.nodes s) (kept_of (v.nodes s) kept)) (kept_by (v.lines (v.nodes s).line) (v.nodes s) (kept_of (v.nodes s) kept)))
      ∙ ap (λ (m : Node). updated v.nodes s m i) node_same
      ∙ all_updated (λ j m. m ≡ updated a.nodes s n j) v.nodes s n (sym (at_place a.nodes s n)) (λ j apart. near.nodes j apart ∙ sym (other_place a.nodes s n j apart)) i
      ∙ ap (λ (f : ℕ → Node). f i) (sym (nodes_are (is_origin (a.nodes s).role) a s n (kept_by (a.lines (a.nodes s).line) (a.nodes s) (kept_of (a.nodes s) kept))))

  lines_same : (l : Line) → (crash_at v s (kept_of (v.nodes s) kept)).lines l ≡ (crash_at a s (kept_of (a.nodes s) kept)).lines l
  lines_same l =
      ap (λ (f : Line → History). f l) (lines_are (is_origin (v.nodes s).role) v s (crashed (v.nodes s) (kept_of (v.nodes s) kept)) (kept_by (v.lines (v.nodes s).line) (v.nodes s) (kept_of (v.nodes s) kept)))
      ∙ ap (λ (n : Node). crash_lines v.lines n (kept_of n kept) l) (sym near.here)
      ∙ ap (λ (f : Line → History). crash_lines f (a.nodes s) (kept_of (a.nodes s) kept) l) near.lines
      ∙ ap (λ (f : Line → History). f l) (sym (lines_are (is_origin (a.nodes s).role) a s (crashed (a.nodes s) (kept_of (a.nodes s) kept)) (kept_by (a.lines (a.nodes s).line) (a.nodes s) (kept_of (a.nodes s) kept))))

  rows_same : (i : ℕ) → (crash_at v s (kept_of (v.nodes s) kept)).links i ≡ (crash_at a s (kept_of (a.nodes s) kept)).links i
  rows_same i =
      let row : ℕ → LinkOf = λ to. link_left (a.nodes s) (kept_of (a.nodes s) kept) (a.links s to) in
      ap (λ (f : ℕ → ℕ → LinkOf). updated f s (λ to. link_left (v.nodes s) (kept_of (v.nodes s) kept) (v.links s to)) i) (links_are (is_origin (v.nodes s).role) v s (crashed (v.nodes s) (kept_of (v.nodes s) kept)) (kept_by (v.lines (v.nodes s).line) (v.nodes s) (kept_of (v.nodes s) kept)))
      ∙ ap (λ (n : Node). updated v.links s (λ to. link_left n (kept_of n kept) (v.links s to)) i) (sym near.here)
      ∙ ap (λ (r : ℕ → LinkOf). updated v.links s (λ to. link_left (a.nodes s) (kept_of (a.nodes s) kept) (r to)) i) (near.rows s)
      ∙ all_updated (λ j r. r ≡ updated a.links s row j) v.links s row (sym (at_place a.links s row)) (λ j apart. near.rows j ∙ sym (other_place a.links s row j apart)) i
      ∙ ap (λ (f : ℕ → ℕ → LinkOf). updated f s row i) (sym (links_are (is_origin (a.nodes s).role) a s (crashed (a.nodes s) (kept_of (a.nodes s) kept)) (kept_by (a.lines (a.nodes s).line) (a.nodes s) (kept_of (a.nodes s) kept))))

  gathering_same : (i : ℕ) → (crash_at v s (kept_of (v.nodes s) kept)).gathering i ≡ (crash_at a s (kept_of (a.nodes s) kept)).gathering i
  gathering_same i =
      ap (λ (f : ℕ → _). updated f s None i) (gathering_are (is_origin (v.nodes s).role) v s (crashed (v.nodes s) (kept_of (v.nodes s) kept)) (kept_by (v.lines (v.nodes s).line) (v.nodes s) (kept_of (v.nodes s) kept)))
      ∙ all_updated (λ j g. g ≡ updated a.gathering s None j) v.gathering s None (sym (at_place a.gathering s None)) (λ j apart. near.gathering j ∙ sym (other_place a.gathering s None j apart)) i
      ∙ ap (λ (f : ℕ → _). updated f s None i) (sym (gathering_are (is_origin (a.nodes s).role) a s (crashed (a.nodes s) (kept_of (a.nodes s) kept)) (kept_by (a.lines (a.nodes s).line) (a.nodes s) (kept_of (a.nodes s) kept))))

  crashes_like : IsLike (crash_at a s (kept_of (a.nodes s) kept)) (crash_at v s (kept_of (v.nodes s) kept))
  crashes_like =
      let n : Node = crashed (a.nodes s) (kept_of (a.nodes s) kept) in
      let h : History = kept_by (a.lines (a.nodes s).line) (a.nodes s) (kept_of (a.nodes s) kept) in
      let m : Node = crashed (v.nodes s) (kept_of (v.nodes s) kept) in
      let g : History = kept_by (v.lines (v.nodes s).line) (v.nodes s) (kept_of (v.nodes s) kept) in
      record {
        sites = sites_are (is_origin (v.nodes s).role) v s m g ∙ near.sites ∙ sym (sites_are (is_origin (a.nodes s).role) a s n h);
        nodes = λ i. like_node _ _ (nodes_same i);
        links = λ p q. like_link _ _ (ap (λ (r : ℕ → LinkOf). r q) (rows_same p));
        lines = lines_same;
        packets = packets_are (is_origin (v.nodes s).role) v s m g ∙ near.packets ∙ sym (packets_are (is_origin (a.nodes s).role) a s n h);
        promised = promised_are (is_origin (v.nodes s).role) v s m g ∙ near.promised ∙ sym (promised_are (is_origin (a.nodes s).role) a s n h);
        gathering = gathering_same;
      }

-- ---- the write that was cut

module _ (d : Doubted) (s volume start : ℕ) (bytes : List ℕ) (kept : ℕ) (below : s < d.world.sites) (up : (d.world.nodes s).state ≡ Up) where
  abbrev w : World
  w = d.world

  abbrev e : Event
  e = WriteAt s volume start bytes (Some 0)

  abbrev v : World
  v = (step w e).world

  -- the site as it may be on its disks
  abbrev may : After
  may = record { node = (stopped_by v s 0).nodes s; row = v.links s }

  abbrev told : World
  told = record (stopped_by w s 0) { headers = v.headers }

  moved : IsMoved s w v
  moved = write_moved w s volume start bytes

  near : IsNear s (resolved told s may) v
  near =
      let stopped : Node = record (v.nodes s) { halted = Some 0; fuse = burned (v.nodes s).fuse } in
      let there : (resolved told s may).nodes s ≡ stopped = at_place told.nodes s may.node ∙ at_place v.nodes s stopped in
      record {
        sites = moved.sites;
        here = subst (λ (n : Node). n ≡ record (v.nodes s) { halted = n.halted; fuse = n.fuse }) (sym there) refl;
        nodes = λ i apart. moved.nodes i apart ∙ sym (other_place w.nodes s _ i apart) ∙ sym (other_place told.nodes s may.node i apart);
        rows = λ i. all_updated (λ j r. v.links j ≡ r) told.links s may.row refl (λ j apart. moved.rows j apart) i;
        lines = moved.lines;
        packets = moved.packets;
        promised = moved.promised;
        gathering = moved.gathering;
      }

  headers_apart : {x y : World} {h : ℕ → ℕ} → IsLike x y → IsLike x (record y { headers = h })
  headers_apart like = record { sites = like.sites; nodes = like.nodes; links = like.links; lines = like.lines; packets = like.packets; promised = like.promised; gathering = like.gathering }

  -- the crash of the site as it is behind the write
  abbrev crashed_may : World
  crashed_may = crash_at (resolved told s may) s (kept_of ((resolved told s may).nodes s) kept)

  -- with it on the disks, the crash is that behind the write
  world_like : IsLike (crashed_as (halved d e s 0) s kept true).world (run w (e ∷ CrashAt s kept ∷ []))
  world_like =
      let after : (halved d e s 0).after s ≡ Some may = at_place d.after s (Some may) in
      let like : IsLike crashed_may (crash_at v s (kept_of (v.nodes s) kept)) = crashes_like s kept (resolved told s may) v near in
      let there : (crashed_as (halved d e s 0) s kept true).world ≡ crashed_may = ap (λ (o : Option After). crash_at (taken_up told s o) s (kept_of ((taken_up told s o).nodes s) kept)) after in
      let behind : outcome_of v (CrashAt s kept) ≡ done (crash_at v s (kept_of (v.nodes s) kept)) = crash_step v s kept (subst (λ (n : ℕ). s < n) (sym moved.sites) below) (moved.up up) in
      subst (λ (x : World). IsLike x (run w (e ∷ CrashAt s kept ∷ []))) (sym there)
      (subst (λ (o : Outcome). IsLike crashed_may (record o.world { headers = λ i. v.headers i + headers_by (CrashAt s kept) v o i })) (sym behind) (headers_apart like))

  -- and the site is in doubt no longer
  pub cut_like : IsLikeDoubted (crashed_as (halved d e s 0) s kept true) (run_as false d (e ∷ CrashAt s kept ∷ []))
  cut_like = record {
    worlds = world_like;
    after = λ k. sym (all_updated (λ j (x : Option After). x ≡ updated d.after s None j) (halved d e s 0).after s None (sym (at_place d.after s None))
        (λ j apart. other_place d.after s (Some may) j apart ∙ sym (other_place d.after s None j apart)) k);
  }
