-- What the events of a primary without links make of the world.
use Rattle.std.specs.Prelude.{ℕ, ◌+◌, ◌-◌, List, [], ◌∷◌, ◌++◌, length, take, drop, ltb, if◌then◌else◌, Some, None, codes, zero, suc}
use Rattle.std.specs.Fmt.{decimal}
use Rattle.vx_model.specs.Content.{Write, Content, put, fold_writes, zeros}
use Rattle.vx_history.specs.World.{Node, History, World, Volume, Fuse, NoFuse, FuseSet, FuseLit, bare_site, no_replays, no_volumes, updated, with_node, with_history}
use Rattle.vx_model.specs.Sites.{no_line, first_line}
use Rattle.vx_model.specs.Sizes.{ring_of}
use Rattle.vx_model.specs.declared.site.Role.TheVariants.{Primary}
use Rattle.vx_model.specs.declared.site.Mark.TheVariants.{Consistent}
use Rattle.vx_model.specs.declared.site.SiteState.TheVariants.{Up, Deported, Down}

-- a further site, of which nothing is made yet
abbrev pub site_made : World → List ℕ → ℕ → ℕ → World
site_made w name disks blocks = record w { sites = w.sites + 1; nodes = updated w.nodes w.sites (bare_site name disks blocks) }

-- so many volumes d1, d2 and so on, the first of them with number k, each as large as a disk
abbrev pub raw_volumes : ℕ → ℕ → ℕ → List Volume
raw_volumes k zero blocks = []
raw_volumes k (suc n) blocks = record { name = codes "d" ++ decimal k; blocks = blocks } ∷ raw_volumes (k + 1) n blocks

-- the content of a raw set's volumes as they are made
abbrev pub raw_content : ℕ → ℕ → Content
raw_content disks blocks = zeros (λ v. if ltb v (disks - 2) then blocks else 0)

-- a bare site as the primary of its first line, with these blocks of its log, these volumes and what they hold
abbrev pub begun_site : ℕ → (ring : ℕ) → List Volume → Content → Node → Node
begun_site site ring volumes content n = record n {
  state = Up;
  ring = ring;
  volumes = volumes;
  role = Primary;
  mark = Consistent;
  line = first_line site;
  top = 1;
  stood = n.stood ++ first_line site ∷ [];
  session = 1;
  start = content;
  base = content;
  log = [];
  safe = 0;
  halted = None;
}

-- a line that begins, and holds no write
abbrev pub begun_line : Content → History
begun_line content = record { parent = no_line; fork = 0; start = content; held = []; told = 0; replays = λ s. no_replays }

abbrev pub line_begun : World → ℕ → (ring : ℕ) → List Volume → Content → World
line_begun w s ring volumes content = with_history w s (begun_site s ring volumes content (w.nodes s)) (begun_line content)

-- a bare site as a raw set: disk 0 is its log, the last disk its maps, and each disk between a volume of zeros
abbrev pub raw_set : ℕ → Node → Node
raw_set site n = begun_site site (ring_of n.blocks) (raw_volumes 1 (n.disks - 2) n.blocks) (raw_content n.disks n.blocks) n

abbrev pub raw_history : Node → History
raw_history n = begun_line (raw_content n.disks n.blocks)

abbrev pub raw_made : World → ℕ → World
raw_made w s = with_history w s (raw_set s (w.nodes s)) (raw_history (w.nodes s))

-- a bare site as a group of disks: it has no log yet, and no volumes
abbrev pub group_set : ℕ → Node → Node
group_set site n = begun_site site 0 [] no_volumes n

abbrev pub group_made : World → ℕ → World
group_made w s = line_begun w s 0 [] no_volumes

-- a group of disks without a replicated volume group that comes up again, in the session that it had
abbrev pub group_up : Node → Node
group_up n = record n { state = Up; halted = None }

abbrev pub group_back : World → ℕ → World
group_back w s = with_node w s (group_up (w.nodes s))

-- a fuse behind a line that may write or flush
abbrev pub burned : Fuse → Fuse
burned NoFuse = NoFuse
burned (FuseSet calls) = FuseLit calls
burned (FuseLit most) = FuseLit most

-- a site whose disks may have been written and flushed
abbrev pub worked : Node → Node
worked n = record n { fuse = burned n.fuse }

-- a fuse behind so many writes and flushes, or more
abbrev pub spent : ℕ → Fuse → Fuse
spent n NoFuse = NoFuse
spent n (FuseSet calls) = FuseLit (calls - n)
spent n (FuseLit most) = FuseLit (most - n)

-- a write that is done is so many writes and flushes of the site's disks, or more
abbrev pub write_calls : ℕ
write_calls = 4

-- a site with one more write, which is durable
abbrev pub logged : Node → Write → Node
logged n x = record n { base = put n.base x; log = n.log ++ x ∷ []; safe = n.safe + 1; fuse = spent write_calls n.fuse }

-- its line with that write, which was answered
abbrev pub told_of : History → Write → History
told_of h x = record h { held = h.held ++ x ∷ []; told = length h.held + 1 }

-- a write that was answered with its number
abbrev pub written : World → ℕ → Write → World
written w s x = let n = w.nodes s in with_history w s (logged n x) (told_of (w.lines n.line) x)

-- a write that met a failing disk: whether it stands is not known, and the site is halted
abbrev pub half_written : World → ℕ → Write → ℕ → World
half_written w s x disk = let n = w.nodes s in with_node w s (record n { log = n.log ++ x ∷ []; halted = Some disk; fuse = burned n.fuse })

-- a site that crashed and kept its first k writes; who fed it is forgotten
abbrev pub crashed : Node → ℕ → Node
crashed n k =
    record n { state = Down; fed_by = n.other; base = fold_writes n.base (drop n.safe (take k n.log)); log = take k n.log; safe = k; halted = None; fuse = NoFuse }

-- its line holds them
abbrev pub kept_by : History → Node → ℕ → History
kept_by h n k = record h { held = take k n.log }

abbrev pub crash_left : World → ℕ → ℕ → World
crash_left w s k = let n = w.nodes s in with_history w s (crashed n k) (kept_by (w.lines n.line) n k)

-- a site that gave its disks up, whose fuse is this
abbrev pub deported_site : Fuse → Node → Node
deported_site fuse n = record n { state = Deported; fuse = fuse }

abbrev pub deported_world : Fuse → World → ℕ → World
deported_world fuse w s = with_node w s (deported_site fuse (w.nodes s))

-- a site that gave its disks up, whose fuse ran out as it was brought up; who fed it is forgotten
abbrev pub fallen_site : Node → Node
fallen_site n = record n { state = Down; fed_by = n.other; fuse = NoFuse }

abbrev pub fallen_world : World → ℕ → World
fallen_world w s = with_node w s (fallen_site (w.nodes s))

-- a site with a write that was begun
abbrev pub half_begun : Node → Write → Node
half_begun n x = record n { log = n.log ++ x ∷ [] }

-- a site whose fuse ran out in a write: a crash that kept its first k writes
abbrev pub cut_write : World → ℕ → Write → ℕ → World
cut_write w s x k = let n = w.nodes s in with_history w s (crashed (half_begun n x) k) (kept_by (w.lines n.line) (half_begun n x) k)

-- a site that came up again, in its next session
abbrev pub recovered : Node → Node
recovered n = record n { state = Up; session = n.session + 1; halted = None }

abbrev pub came_up : World → ℕ → World
came_up w s = with_node w s (recovered (w.nodes s))

-- a site whose recovery failed after its log had begun its next session
abbrev pub session_begun : World → ℕ → World
session_begun w s = let n = w.nodes s in with_node w s (record n { session = n.session + 1 })

-- a site that a failing disk halted in a line that writes nothing new
abbrev pub stopped_by : World → ℕ → ℕ → World
stopped_by w s disk = let n = w.nodes s in with_node w s (record n { halted = Some disk; fuse = burned n.fuse })

-- a site whose disks may have been written and flushed, with nothing changed beside
abbrev pub worked_on : World → ℕ → World
worked_on w s = let n = w.nodes s in with_node w s (record n { fuse = burned n.fuse })

-- a site whose disks have a fuse that lets so many writes and flushes pass
abbrev pub fused : World → ℕ → ℕ → World
fused w s calls = with_node w s (record (w.nodes s) { fuse = FuseSet calls })
