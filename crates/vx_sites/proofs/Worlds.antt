-- A world in memory with one part in place of another.
use Rattle.std.proofs.Common.{◌≡◌, ℕ, ◌+◌, ◌-◌, ◌<◌, ◌≤◌, max, List, [], ◌∷◌, ◌++◌, length, map, get_or, take, drop, replicate, refl, sym, ap, ◌∙◌, zero, suc}
use Rattle.std.specs.Prelude.{Option, None, eqb, if◌then◌else◌}
use Rattle.std.proofs.Math.ListN.{set}
use Rattle.std.proofs.lemmas.List.{length-set, length-append}
use Rattle.vx_model.specs.Content.{Write, Content, put, fold_writes, zeros}
use Rattle.vx_history.specs.World.{Node as PlainNode, Link as PlainLink, History as PlainHistory, World as PlainWorld, NoFuse, Regions, bare_site, no_volumes, no_link, no_history, updated, line_updated, with_node, with_history}
use Rattle.vx_history.proofs.Updates.{at_place, by_test, eqb_equal}
use Rattle.vx_history.specs.Sends.{with_links}
use Rattle.vx_history.specs.Steps.{burned, logged, spent, write_calls, told_of, written, crashed, raw_content, raw_set, raw_made, group_set, group_made}
use Rattle.vx_model.specs.Sizes.{ring_of}
use Rattle.vx_model.specs.Sites.{first_line, same_line}
use Rattle.vx_history.specs.Events.{applied, joined}
use Rattle.vx_model.specs.declared.history.Line.{Line}
use Rattle.vx_model.specs.declared.site.Role.TheVariants.{Primary, Secondary}
use Rattle.vx_model.specs.declared.site.Mark.{Mark}
use Rattle.vx_model.specs.declared.site.Mark.TheVariants.{Consistent, Inconsistent}
use Rattle.vx_model.specs.declared.site.SPhase.TheVariants.{Quiet}
use Rattle.vx_model.specs.declared.site.SiteState.TheVariants.{Up, Down}
use Rattle.vx_sites.specs.declared.node.Node.{Node}
use Rattle.vx_sites.specs.declared.link.Row.{Row}
use Rattle.vx_sites.specs.declared.maps.MapEntry.{MapEntry}
use Rattle.vx_history.specs.Groups.{GroupNode}
use Rattle.vx_history.specs.Volumes.{data_content, starting_with, volumes_made, volumes_set}
use Rattle.vx_history.specs.declared.volumes.DataVolume.{DataVolume}
use Rattle.vx_sites.proofs.Volumes.{called_data, called_none, data_of_none, named_raw, sizes_raw}
use Rattle.vx_sites.specs.Shapes.{called_volumes, sizes, node_of, nodes_of, row_of, links_of, link_maps, mapped_links, with_map}
use Rattle.vx_sites.proofs.Tables.{at_each, seen-at, seen-beyond, seen-push, seen-changed}

-- a site changes
pub node_changed : (w : PlainWorld) (nodes : List Node) (i : ℕ) (v x : Node) (change : PlainNode → PlainNode) → w.sites ≡ length nodes → w.nodes ≡ nodes_of nodes
    → i < length nodes → v ≡ get_or nodes i v → node_of x ≡ change (node_of v)
    → (let new : PlainWorld = record w { sites = length (set nodes i x); nodes = nodes_of (set nodes i x) } in new ≡ with_node w i (change (w.nodes i)))
node_changed w nodes i v x change many same lt is changed =
    ap (λ (n : ℕ). let new : PlainWorld = record w { sites = n; nodes = nodes_of (set nodes i x) } in new) (length-set nodes i x ∙ sym many)
    ∙ ap (λ (f : ℕ → PlainNode). let new : PlainWorld = record w { nodes = f } in new) (seen-changed node_of (bare_site [] 0 0) nodes i v x w.nodes change lt is (sym same) changed)

-- a site is added
pub node_added : (w : PlainWorld) (nodes : List Node) (x : Node) → w.sites ≡ length nodes → w.nodes ≡ nodes_of nodes
    → (let new : PlainWorld = record w { sites = length (nodes ++ x ∷ []); nodes = nodes_of (nodes ++ x ∷ []) } in new ≡ record w { sites = w.sites + 1; nodes = updated w.nodes w.sites (node_of x) })
node_added w nodes x many same =
    ap (λ (n : ℕ). let new : PlainWorld = record w { sites = n; nodes = nodes_of (nodes ++ x ∷ []) } in new) (length-append nodes (x ∷ []) ∙ ap (λ (n : ℕ). n + 1) (sym many))
    ∙ ap (λ (f : ℕ → PlainNode). let new : PlainWorld = record w { sites = w.sites + 1; nodes = f } in new)
    (seen-push node_of (bare_site [] 0 0) nodes x ∙ ap (λ (f : ℕ → PlainNode). updated f (length nodes) (node_of x)) (sym same) ∙ ap (λ (n : ℕ). updated w.nodes n (node_of x)) (sym many))

-- links with their maps
abbrev pub mapped : (ℕ → ℕ → Regions) → (ℕ → ℕ → PlainLink) → ℕ → ℕ → PlainLink
mapped maps links p s = with_map (maps p s) (links p s)

-- the change of a row leaves the maps of its links
abbrev pub KeepsMaps : ((ℕ → PlainLink) → ℕ → PlainLink) → (ℕ → Regions) → Type 0
KeepsMaps change maps = (row : ℕ → PlainLink) → (λ s. with_map (maps s) (change row s)) ≡ change (λ s. with_map (maps s) (row s))

mapped_changed : (maps : ℕ → ℕ → Regions) (links : ℕ → ℕ → PlainLink) (p : ℕ) (change : (ℕ → PlainLink) → ℕ → PlainLink) → KeepsMaps change (maps p)
    → mapped maps (updated links p (change (links p))) ≡ updated (mapped maps links) p (change (mapped maps links p))
mapped_changed maps links p change keeps =
    at_each (mapped maps links) p (change (mapped maps links p)) (mapped maps (updated links p (change (links p))))
    (ap (λ (row : ℕ → PlainLink). (λ (s : ℕ). with_map (maps p s) (row s))) (at_place links p (change (links p))) ∙ keeps (links p))
    (λ k apart. ap (λ (row : ℕ → PlainLink). (λ (s : ℕ). with_map (maps k s) (row s))) (elsewhere k apart))
  where
    elsewhere : (k : ℕ) → (k ≡ p → ⊥) → updated links p (change (links p)) k ≡ links k
    elsewhere k apart = by_test (λ (row : ℕ → PlainLink). row ≡ links k) (eqb k p) (change (links p)) (links k) (λ e. absurd (apart (eqb_equal k p e))) (λ e. refl)

-- the links of a site change, and not their maps; the rows may first have become more
pub row_changed : (w : PlainWorld) (maps : List MapEntry) (rows : List Row) (p : ℕ) (v x : Row) (change : (ℕ → PlainLink) → ℕ → PlainLink) → KeepsMaps change (link_maps maps p) → mapped_links maps rows ≡ w.links
    → p < length rows → v ≡ get_or rows p v → row_of x.links.items ≡ change (row_of v.links.items)
    → (let new : PlainWorld = record w { links = mapped_links maps (set rows p x) } in new ≡ with_links w p (change (w.links p)))
row_changed w maps rows p v x change keeps same lt is changed =
    ap (λ (f : ℕ → ℕ → PlainLink). let new : PlainWorld = record w { links = f } in new)
    (ap (λ (f : ℕ → ℕ → PlainLink). mapped (link_maps maps) f) (seen-changed (λ (r : Row). row_of r.links.items) (λ (s : ℕ). no_link) rows p v x (links_of rows) change lt is refl changed)
    ∙ mapped_changed (link_maps maps) (links_of rows) p change keeps
    ∙ ap (λ (f : ℕ → ℕ → PlainLink). updated f p (change (f p))) same)

-- a site without a row has no links
pub no_row : (maps : List MapEntry) (rows : List Row) (p : ℕ) → length rows ≤ p → (λ s. with_map (link_maps maps p s) (row_of [] s)) ≡ mapped_links maps rows p
no_row maps rows p past =
    ap {B = ℕ → PlainLink} (λ (row : ℕ → PlainLink) (s : ℕ). with_map (link_maps maps p s) (row s)) (sym (seen-beyond (λ (r : Row). row_of r.links.items) (λ (s : ℕ). no_link) rows p past))

-- the site of this number
pub node_at : (nodes : List Node) (i : ℕ) (v : Node) → i < length nodes → v ≡ get_or nodes i v → nodes_of nodes i ≡ node_of v
node_at nodes i v lt is = seen-at node_of (bare_site [] 0 0) nodes i v lt is

-- a site that is crashed, and one of which more is durable
pub crashed_is : (n : PlainNode) (k : ℕ) (base : Content) (log : List Write) → base ≡ fold_writes n.base (drop n.safe (take k n.log)) → log ≡ take k n.log
    → (let m : PlainNode = record n { state = Down; fed_by = n.other; base = base; log = log; safe = k; halted = None; fuse = burned NoFuse } in m) ≡ crashed n k
crashed_is n k base log b l =
    ap (λ (c : Content). let m : PlainNode = record n { state = Down; fed_by = n.other; base = c; log = log; safe = k; halted = None; fuse = NoFuse } in m) b
    ∙ ap (λ (xs : List Write). let m : PlainNode = record n { state = Down; fed_by = n.other; base = fold_writes n.base (drop n.safe (take k n.log)); log = xs; safe = k; halted = None; fuse = NoFuse } in m) l

pub applied_is : (n : PlainNode) (k : ℕ) (mark : Mark) (base : Content) → base ≡ fold_writes n.base (drop n.safe (take k n.log))
    → (let m : PlainNode = record n { base = base; safe = k; mark = mark } in m) ≡ applied n k mark
applied_is n k mark base b = ap (λ (c : Content). let m : PlainNode = record n { base = c; safe = k; mark = mark } in m) b

pub joined_is : (a n : PlainNode) (p top replay : ℕ) (stood : List Line) (start : Content) (log : List Write) → top ≡ max n.top a.line.generation
    → stood ≡ n.stood ++ a.line ∷ [] → replay ≡ (if same_line n.line a.line then n.replay else 0) → start ≡ n.base → log ≡ []
    → (let m : PlainNode = record n { role = Secondary; mark = Inconsistent; line = a.line; parent = a.parent; fork = a.fork; top = top; stood = stood; phase = Quiet; replay = replay; end = 0; other = p; fed_by = p; start = start; log = log; safe = 0; low = 1; fork_map = None } in m) ≡ joined a p n
joined_is a n p top replay stood start log t o r s l =
    ap (λ (k : ℕ). let m : PlainNode = record n { role = Secondary; mark = Inconsistent; line = a.line; parent = a.parent; fork = a.fork; top = k; stood = stood; phase = Quiet; replay = replay; end = 0; other = p; fed_by = p; start = start; log = log; safe = 0; low = 1; fork_map = None } in m) t
    ∙ ap (λ (ls : List Line). let m : PlainNode = record n { role = Secondary; mark = Inconsistent; line = a.line; parent = a.parent; fork = a.fork; top = max n.top a.line.generation; stood = ls; phase = Quiet; replay = replay; end = 0; other = p; fed_by = p; start = start; log = log; safe = 0; low = 1; fork_map = None } in m) o
    ∙ ap (λ (k : ℕ). let m : PlainNode = record n { role = Secondary; mark = Inconsistent; line = a.line; parent = a.parent; fork = a.fork; top = max n.top a.line.generation; stood = n.stood ++ a.line ∷ []; phase = Quiet; replay = k; end = 0; other = p; fed_by = p; start = start; log = log; safe = 0; low = 1; fork_map = None } in m) r
    ∙ ap (λ (c : Content). let m : PlainNode = record n { role = Secondary; mark = Inconsistent; line = a.line; parent = a.parent; fork = a.fork; top = max n.top a.line.generation; stood = n.stood ++ a.line ∷ []; phase = Quiet; replay = (if same_line n.line a.line then n.replay else 0); end = 0; other = p; fed_by = p; start = c; log = log; safe = 0; low = 1; fork_map = None } in m) s
    ∙ ap (λ (xs : List Write). let m : PlainNode = record (joined a p n) { log = xs } in m) l

pub logged_is : (n : PlainNode) (x : Write) (base : Content) (log : List Write) → base ≡ put n.base x → log ≡ n.log ++ x ∷ []
    → (let m : PlainNode = record n { base = base; log = log; safe = n.safe + 1; fuse = spent write_calls n.fuse } in m) ≡ logged n x
logged_is n x base log b l =
    ap (λ (c : Content). let m : PlainNode = record n { base = c; log = log; safe = n.safe + 1; fuse = spent write_calls n.fuse } in m) b
    ∙ ap (λ (xs : List Write). let m : PlainNode = record n { base = put n.base x; log = xs; safe = n.safe + 1; fuse = spent write_calls n.fuse } in m) l

-- a write that is logged, and what is recorded of its line
pub written_is : (w : PlainWorld) (i : ℕ) (x : Write) (v : PlainNode) (lines : Line → PlainHistory) → w.nodes i ≡ v → lines ≡ line_updated w.lines v.line (told_of (w.lines v.line) x)
    → with_node (record w { lines = lines }) i (logged (w.nodes i) x) ≡ written w i x
written_is w i x v lines is told =
    ap (λ (f : Line → PlainHistory). with_node (record w { lines = f }) i (logged (w.nodes i) x)) (told ∙ ap (λ (n : PlainNode). line_updated w.lines n.line (told_of (w.lines n.line) x)) (sym is))

-- a raw set, and what is recorded of its line
pub raw_is : (n : PlainNode) (site ring : ℕ) (blocks : List ℕ) (names : List (List ℕ)) (stood : List Line) (start base : Content) (log : List Write) → ring ≡ ring_of n.blocks
    → blocks ≡ replicate (n.disks - 2) n.blocks → names ≡ [] → stood ≡ n.stood ++ first_line site ∷ []
    → start ≡ zeros (sizes blocks) → base ≡ zeros (sizes blocks) → log ≡ []
    → (let m : PlainNode = record n { state = Up; ring = ring; volumes = called_volumes names 1 blocks; role = Primary; mark = Consistent; line = first_line site; top = 1; stood = stood; session = 1; start = start; base = base; log = log; safe = 0; halted = None } in m) ≡ raw_set site n
raw_is n site ring blocks names stood start base log r v a o s b l =
    rw (r, o, s, b, l, a, v, called_none 1 (replicate (n.disks - 2) n.blocks), named_raw 1 (n.disks - 2) n.blocks, sizes_raw (n.disks - 2) n.blocks) refl

pub raw_made_is : (w : PlainWorld) (i : ℕ) (v : PlainNode) (lines : Line → PlainHistory) (start : Content) (blocks : List ℕ) → w.nodes i ≡ v
    → blocks ≡ replicate (v.disks - 2) v.blocks
    → start ≡ zeros (sizes blocks) → lines ≡ line_updated w.lines (first_line i) (record no_history { start = start })
    → with_node (record w { lines = lines }) i (raw_set i (w.nodes i)) ≡ raw_made w i
raw_made_is w i v lines start blocks is many made told =
    let content : start ≡ raw_content (w.nodes i).disks (w.nodes i).blocks =
    made ∙ ap (λ (bs : List ℕ). zeros (sizes bs)) many ∙ ap zeros (sizes_raw (v.disks - 2) v.blocks)
    ∙ ap (λ (n : PlainNode). raw_content n.disks n.blocks) (sym is) in
    ap (λ (f : Line → PlainHistory). with_node (record w { lines = f }) i (raw_set i (w.nodes i)))
    (told ∙ ap (λ (c : Content). line_updated w.lines (first_line i) (record no_history { start = c })) content)

-- a group of disks, and what is recorded of its line
pub group_is : (n : PlainNode) (site : ℕ) (blocks : List ℕ) (names : List (List ℕ)) (stood : List Line) (start base : Content) (log : List Write) → blocks ≡ []
    → stood ≡ n.stood ++ first_line site ∷ [] → start ≡ no_volumes → base ≡ no_volumes → log ≡ []
    → (let m : PlainNode = record n { state = Up; ring = 0; volumes = called_volumes names 1 blocks; role = Primary; mark = Consistent; line = first_line site; top = 1; stood = stood; session = 1; start = start; base = base; log = log; safe = 0; halted = None } in m) ≡ group_set site n
group_is n site blocks names stood start base log v o s b l = rw (o, s, b, l, v) refl

pub group_made_is : (w : PlainWorld) (i : ℕ) (lines : Line → PlainHistory) (start : Content) → start ≡ no_volumes
    → lines ≡ line_updated w.lines (first_line i) (record no_history { start = start })
    → with_node (record w { lines = lines }) i (group_set i (w.nodes i)) ≡ group_made w i
group_made_is w i lines start made told =
    ap (λ (f : Line → PlainHistory). with_node (record w { lines = f }) i (group_set i (w.nodes i)))
    (told ∙ ap (λ (c : Content). line_updated w.lines (first_line i) (record no_history { start = c })) made)

-- a group of disks with its replicated volume group, and what is recorded of its line
pub volumes_is : (n : PlainNode) (log ring : ℕ) (xs : List DataVolume) (names : List (List ℕ)) (blocks : List ℕ) (start base : Content) → ring ≡ ring_of log
    → names ≡ map (λ (x : DataVolume). x.name) xs → blocks ≡ map (λ (x : DataVolume). x.blocks) xs → start ≡ zeros (sizes blocks) → base ≡ zeros (sizes blocks)
    → (let m : PlainNode = record n { ring = ring; volumes = called_volumes names 1 blocks; start = start; base = base; group = None } in m) ≡ volumes_set log xs (record n { group = None })
volumes_is n log ring xs names blocks start base r a v s b = rw (r, s, b, a, v, called_data 1 xs, data_of_none xs) refl

pub volumes_made_is : (w : PlainWorld) (i log : ℕ) (xs : List DataVolume) (v : PlainNode) (lines : Line → PlainHistory) (start : Content) (blocks : List ℕ)
    → w.nodes i ≡ v → v.group ≡ None → blocks ≡ map (λ (x : DataVolume). x.blocks) xs → start ≡ zeros (sizes blocks)
    → lines ≡ line_updated w.lines v.line (starting_with start (w.lines v.line))
    → with_node (record w { lines = lines }) i (volumes_set log xs (record (w.nodes i) { group = None })) ≡ volumes_made w i log xs
volumes_made_is w i log xs v lines start blocks is none many made told =
    let n : PlainNode = w.nodes i in
    let group : n.group ≡ None = ap (λ (m : PlainNode). m.group) is ∙ none in
    let holds : start ≡ data_content n.group xs = made ∙ ap (λ (bs : List ℕ). zeros (sizes bs)) many ∙ data_of_none xs
    ∙ ap (λ (g : Option GroupNode). data_content g xs) (sym group) in
    ap (λ (f : Line → PlainHistory). with_node (record w { lines = f }) i (volumes_set log xs (record n { group = None })))
    (told ∙ ap (λ (c : Content). line_updated w.lines v.line (starting_with c (w.lines v.line))) holds
    ∙ ap (λ (m : PlainNode). line_updated w.lines m.line (starting_with (data_content n.group xs) (w.lines m.line))) (sym is))
    ∙ ap (λ (g : Option GroupNode). with_history w i (volumes_set log xs (record n { group = g })) (starting_with (data_content n.group xs) (w.lines n.line))) (sym group)

-- no site of a world in memory has a fuse
pub no_fuses : (nodes : List Node) (i : ℕ) → (nodes_of nodes i).fuse ≡ NoFuse
no_fuses [] zero = refl
no_fuses [] (suc i) = refl
no_fuses (n ∷ nodes) zero = refl
no_fuses (n ∷ nodes) (suc i) = no_fuses nodes i
