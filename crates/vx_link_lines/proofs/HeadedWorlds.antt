-- What a world with noted fuses has of a site behind an event that writes one header of its log, or that a disk or a fuse ended.
use Rattle.std.proofs.Common.{◌≡◌, ◌∙◌, ◌+◌, ◌<◌, ◌≤◌, ℕ, Bool, true, false, List, length, ap, sym, subst}
use Rattle.std.specs.Prelude.{Option, Some, None, slice_get}
use Rattle.std.proofs.lemmas.Option.{slice_get_within}
use Rattle.vx_history.proofs.Behind.{after_of}
use Rattle.vx_history.proofs.Fuses.{burned_twice}
use Rattle.vx_history.proofs.Updates.{at_place}
use Rattle.vx_history.specs.Doubts.{After, Doubted, crashed_as, halved, resolved_at, taken_up}
use Rattle.vx_history.specs.Events.{kept_of, link_left}
use Rattle.vx_history.specs.Steps.{crashed, worked}
use Rattle.vx_history.specs.World.{Fuse, Gathering, Link, Node, Packet}
use Rattle.vx_history.specs.declared.event.Event.{Event}
use Rattle.vx_model.specs.declared.state.KeptLink.{KeptLink}
use Rattle.vx_diskset.specs.Holds.{KeptBeside, KeptSite, beside_of, doubt_of, header_links, row_links}
use Rattle.vx_effects.proofs.Effects.{changes_then}
use Rattle.vx_effects.proofs.Rows.{left_kept}
use Rattle.vx_events.specs.Effects.{ChangesNode, EffectAt}
use Rattle.vx_events.proofs.Steps.{kept_is}
use Rattle.vx_link_lines.specs.Headed.{NotesAt, behind, noted_by}
use Rattle.vx_yard.proofs.CrashSite.{beside_sure}
use Rattle.vx_effects.proofs.Halves.{crashed_effect, halved_effect, may_be_node, may_be_row, stopped}
use Rattle.vx_yard.proofs.Rows.{row_links_same}

pub stopped_noted : (n : Node) (disk : ℕ) → stopped (worked n) disk ≡ stopped n disk
stopped_noted n disk = ap (λ (f : Fuse). let m : Node = record n { halted = Some disk; fuse = f } in m) (burned_twice n.fuse)

pub worked_stopped : (n : Node) (disk : ℕ) → worked (stopped n disk) ≡ stopped n disk
worked_stopped n disk = ap (λ (f : Fuse). let m : Node = record n { halted = Some disk; fuse = f } in m) (burned_twice n.fuse)

-- what the effect of an event is where fuses are noted before and behind it
pub noted_effect : (note : (ℕ → Node) → ℕ → Node) (s : ℕ) → NotesAt s note → (d h : Doubted) {n : Node} {row : ℕ → Link} {many : ℕ} {doubt : Option After} {packets : List Packet} {gathered : Option Gathering}
    → EffectAt s d h n row many doubt packets gathered → EffectAt s (noted_by note d) (noted_by note h) (worked n) row many doubt packets gathered
noted_effect note s notes d h f = record {
  site = record {
    sites = f.site.sites;
    nodes = λ i apart. notes.alike d.world.nodes h.world.nodes i (f.site.nodes i apart);
    links = f.site.links;
    headers = f.site.headers;
    after = f.site.after;
    strayed = f.site.strayed;
    gathering = f.site.gathering;
  };
  is = record { node = notes.here h.world.nodes ∙ ap (λ (m : Node). worked m) f.is.node; links = f.is.links; headers = f.is.headers; after = f.is.after };
  sent = f.sent;
  gathering = f.gathering;
}

module _ (note : (ℕ → Node) → ℕ → Node) (s : ℕ) (notes : NotesAt s note) (d : Doubted) (e : Event) (m : Node) (row : ℕ → Link) (ls : List KeptLink) (gathered : Option Gathering)
    (f : EffectAt s d (behind d e) m row (d.world.headers s + 1) (d.after s) d.world.packets gathered)
    (kept : row_links row d.world.sites ≡ ls) (sure : d.after s ≡ None) where
  abbrev n : Node
  n = d.world.nodes s

  abbrev before : Doubted
  before = noted_by note d

  -- ---- the event is done

  abbrev pub done : Doubted
  done = noted_by note (behind d e)

  pub done_effect : EffectAt s before done (worked m) row (d.world.headers s + 1) (d.after s) d.world.packets gathered
  done_effect = noted_effect note s notes d (behind d e) f

  pub done_beside : beside_of done s ≡ record { links = ls; headers = d.world.headers s + 1; doubt = None }
  done_beside =
      beside_sure done s ls (d.world.headers s + 1)
      (row_links_same row (done.world.links s) done_effect.is.links done.world.sites ∙ ap (λ (k : ℕ). row_links row k) done_effect.site.sites ∙ kept) done_effect.is.headers (done_effect.is.after ∙ sure)

  -- ---- a disk failed in it

  module _ (disk : ℕ) where
    abbrev half : Doubted
    half = halved d e s disk

    abbrev pub halted : Doubted
    halted = noted_by note half

    pub half_effect : EffectAt s d half (stopped n disk) (d.world.links s) (d.world.headers s + 1) (Some (after_of d e s disk)) d.world.packets (d.world.gathering s)
    half_effect = halved_effect d e s m row d.world.packets gathered f disk

    pub halted_effect : EffectAt s before halted (stopped n disk) (d.world.links s) (d.world.headers s + 1) (Some (after_of d e s disk)) d.world.packets (d.world.gathering s)
    halted_effect =
        subst (λ (k : Node). EffectAt s before halted k (d.world.links s) (d.world.headers s + 1) (Some (after_of d e s disk)) d.world.packets (d.world.gathering s)) (worked_stopped n disk)
        (noted_effect note s notes d half half_effect)

    -- what it may be besides
    pub may_node : (after_of d e s disk).node ≡ stopped m disk
    may_node = may_be_node d e s m row d.world.packets gathered f disk

    pub may_row : (k : ℕ) → (after_of d e s disk).row k ≡ row k
    may_row k = may_be_row d e s m row d.world.packets gathered f disk k

    may_links : row_links (after_of d e s disk).row halted.world.sites ≡ ls
    may_links = row_links_same row (after_of d e s disk).row may_row halted.world.sites ∙ ap (λ (k : ℕ). row_links row k) halted_effect.site.sites ∙ kept

    abbrev other : KeptSite
    other = record { node = stopped m disk; links = ls; headers = d.world.headers s + 1 }

    pub halted_doubt : doubt_of halted.world s (halted.after s) ≡ Some other
    halted_doubt =
        ap (λ (o : Option After). doubt_of halted.world s o) halted_effect.is.after
        ∙ ap (λ (k : Node). Some (let x : KeptSite = record { node = k; links = row_links (after_of d e s disk).row halted.world.sites; headers = halted.world.headers s } in x)) may_node
        ∙ ap (λ (ls : List KeptLink). Some (let x : KeptSite = record { node = stopped m disk; links = ls; headers = halted.world.headers s } in x)) may_links
        ∙ ap (λ (k : ℕ). Some (let x : KeptSite = record { node = stopped m disk; links = ls; headers = k } in x)) halted_effect.is.headers

    pub halted_beside : beside_of halted s ≡ record { links = header_links d.world s; headers = d.world.headers s + 1; doubt = Some (record { node = stopped (worked m) disk; links = ls; headers = d.world.headers s + 1 }) }
    halted_beside =
        ap (λ (ls : List KeptLink). let b : KeptBeside = record { links = ls; headers = halted.world.headers s; doubt = doubt_of halted.world s (halted.after s) } in b)
        (row_links_same (d.world.links s) (halted.world.links s) halted_effect.is.links halted.world.sites ∙ ap (λ (k : ℕ). row_links (d.world.links s) k) halted_effect.site.sites)
        ∙ ap (λ (k : ℕ). let b : KeptBeside = record { links = header_links d.world s; headers = k; doubt = doubt_of halted.world s (halted.after s) } in b) halted_effect.is.headers
        ∙ ap (λ (o : Option KeptSite). let b : KeptBeside = record { links = header_links d.world s; headers = d.world.headers s + 1; doubt = o } in b)
        (halted_doubt ∙ ap (λ (k : Node). Some (let x : KeptSite = record { node = k; links = ls; headers = d.world.headers s + 1 } in x)) (sym (stopped_noted m disk)))

  -- ---- its fuse ran out in it

  module _ (count : ℕ) (taken : Bool) (k : Node) (links : ℕ → Link) (ks : List KeptLink)
      (node_is : (resolved_at (halved d e s 0) s taken).world.nodes s ≡ k) (row_is : (j : ℕ) → (resolved_at (halved d e s 0) s taken).world.links s j ≡ links j)
      (links_are : row_links links d.world.sites ≡ ks) (least : k.safe ≤ count) (most : count ≤ length k.log) where
    abbrev cut : Doubted
    cut = crashed_as (halved d e s 0) s count taken

    abbrev pub fell : Doubted
    fell = noted_by note cut

    cut_effect : EffectAt s (halved d e s 0) cut (crashed ((resolved_at (halved d e s 0) s taken).world.nodes s) (kept_of ((resolved_at (halved d e s 0) s taken).world.nodes s) count))
        (λ j. link_left ((resolved_at (halved d e s 0) s taken).world.nodes s) (kept_of ((resolved_at (halved d e s 0) s taken).world.nodes s) count) ((resolved_at (halved d e s 0) s taken).world.links s j)) ((halved d e s 0).world.headers s) None d.world.packets None
    cut_effect = crashed_effect (halved d e s 0) s count taken

    crashed_node : (resolved_at (halved d e s 0) s taken).world.nodes s ≡ k → crashed ((resolved_at (halved d e s 0) s taken).world.nodes s) (kept_of ((resolved_at (halved d e s 0) s taken).world.nodes s) count) ≡ crashed k count
    crashed_node is = ap (λ (q : Node). crashed q (kept_of q count)) is ∙ ap (λ (j : ℕ). crashed k j) (kept_is k count least most)

    pub fell_changes : ChangesNode s before fell
    fell_changes =
        let c : ChangesNode s d cut = changes_then s d (halved d e s 0) cut (half_effect 0).site cut_effect.site in
        record {
          sites = c.sites;
          nodes = λ i apart. notes.alike d.world.nodes cut.world.nodes i (c.nodes i apart);
          links = c.links;
          headers = c.headers;
          after = c.after;
          strayed = c.strayed;
          gathering = c.gathering;
        }

    pub fell_node : fell.world.nodes s ≡ crashed k count
    fell_node = notes.here cut.world.nodes ∙ ap (λ (q : Node). worked q) (cut_effect.is.node ∙ crashed_node node_is)

    pub fell_sent : fell.world.packets ≡ d.world.packets
    fell_sent = cut_effect.sent

    pub fell_gathering : fell.world.gathering s ≡ None
    fell_gathering = cut_effect.gathering

    pub fell_sure : fell.after s ≡ None
    fell_sure = cut_effect.is.after

    pub fell_beside : beside_of fell s ≡ record { links = ks; headers = d.world.headers s + 1; doubt = None }
    fell_beside =
        let q : Node = (resolved_at (halved d e s 0) s taken).world.nodes s in
        let left : Link → Link = link_left q (kept_of q count) in
        beside_sure fell s ks (d.world.headers s + 1)
        (row_links_same (λ j. left (links j)) (fell.world.links s) (λ j. cut_effect.is.links j ∙ ap left (row_is j)) fell.world.sites
        ∙ ap (λ (i : ℕ). row_links (λ j. left (links j)) i) fell_changes.sites ∙ left_kept q (kept_of q count) links d.world.sites ∙ links_are)
        (cut_effect.is.headers ∙ (half_effect 0).is.headers) cut_effect.is.after

  -- the site is what it was
  pub own_node : (resolved_at (halved d e s 0) s false).world.nodes s ≡ stopped n 0
  own_node = at_place d.world.nodes s (stopped n 0)

  -- or the event is on its disks
  pub other_node : (resolved_at (halved d e s 0) s true).world.nodes s ≡ stopped m 0
  other_node =
      ap (λ (o : Option After). (taken_up (halved d e s 0).world s o).nodes s) (half_effect 0).is.after ∙ at_place (halved d e s 0).world.nodes s (after_of d e s 0).node ∙ may_node 0

  pub other_row : (j : ℕ) → (resolved_at (halved d e s 0) s true).world.links s j ≡ row j
  other_row j =
      ap (λ (o : Option After). (taken_up (halved d e s 0).world s o).links s j) (half_effect 0).is.after
      ∙ ap (λ (r : ℕ → Link). r j) (at_place (halved d e s 0).world.links s (after_of d e s 0).row) ∙ may_row 0 j

-- ---- places

pub within : {A : Type 0} (xs : List A) (i : ℕ) (x : A) → slice_get xs i ≡ Some x → i < length xs
within xs i x is = slice_get_within xs i x is
