-- Rows of links that are the same link by link, and what the tests see of a site with them, which may be over a group.
use Rattle.std.proofs.Common.{◌≡◌, ◌∙◌, ◌+◌, ◌++◌, ℕ, zero, suc, Bool, true, false, List, [], ◌∷◌, length, ap, refl, sym}
use Rattle.std.specs.Prelude.{◌&&◌, eqb, not, Option, Some, is_some, map, unwrap_or, if◌then◌else◌}
use Rattle.vx_history.specs.Groups.{GroupNode}
use Rattle.vx_history.specs.Events.{is_in_place, link_in_place, linked_sites, put_before}
use Rattle.vx_history.specs.KeptLinks.{kept_link, kept_links}
use Rattle.vx_history.specs.World.{Link, Node, Volume}
use Rattle.vx_model.specs.declared.site.SiteState.{SiteState}
use Rattle.vx_model.specs.declared.site.SiteState.TheVariants.{Down as IsDown}
use Rattle.vx_model.specs.declared.state.KeptLink.{KeptLink}
use Rattle.vx_order.specs.declared.facts.LinkFacts.{LinkFacts}
use Rattle.vx_order.specs.declared.facts.RvgFacts.{RvgFacts}
use Rattle.vx_order.specs.declared.facts.SiteFacts.{SiteFacts}
use Rattle.vx_order.specs.declared.facts.VolumeFacts.{VolumeFacts}
use Rattle.vx_diskset.specs.Holds.{row_links}
use Rattle.vx_events.specs.Facts.{group_by, volume_fact}
use Rattle.vx_events.specs.GroupLines.{is_over_group}
use Rattle.vx_events.specs.GroupNotes.{no_note, note_at}
use Rattle.vx_events.specs.GroupViews.{config_of, noted_table}
use Rattle.vx_events.specs.RvgFits.{entries_noted, rvg_noted}
use Rattle.vx_events.specs.RvgViews.{data_facts, data_units, others_of}
use Rattle.vx_events.specs.StepsOver.{fact_of_group}
use Rattle.vx_events.specs.LinkedFacts.{needed_by, link_fact, link_facts, links_by, seen_fact}
use Rattle.vx_effects.specs.Facts.{down_fact}

module _ (row new : ℕ → Link) (same : (k : ℕ) → new k ≡ row k) where
  in_place_same : (place n : ℕ) → link_in_place new place n ≡ link_in_place row place n
  in_place_same place zero = refl
  in_place_same place (suc k) =
      ap (λ (l : Link). if is_in_place l.made place then Some k else link_in_place new place k) (same k)
      ∙ ap (λ (o : Option ℕ). if is_in_place (row k).made place then Some k else o) (in_place_same place k)

  pub linked_same : (sites place n : ℕ) → linked_sites new sites place n ≡ linked_sites row sites place n
  linked_same sites place zero = refl
  linked_same sites place (suc k) =
      ap (λ (o : Option ℕ). put_before o (linked_sites new sites (place + 1) k)) (in_place_same place sites)
      ∙ ap (λ (ss : List ℕ). put_before (link_in_place row place sites) ss) (linked_same sites (place + 1) k)

  kept_same : (ss : List ℕ) → kept_links new ss ≡ kept_links row ss
  kept_same [] = refl
  kept_same (s ∷ ss) = ap (λ (l : Link). kept_link s l ∷ kept_links new ss) (same s) ∙ ap (λ (ls : List KeptLink). kept_link s (row s) ∷ ls) (kept_same ss)

  -- the header of a log keeps the same of them
  pub row_links_same : (sites : ℕ) → row_links new sites ≡ row_links row sites
  row_links_same sites = kept_same (linked_sites new sites 0 sites) ∙ ap (λ (ss : List ℕ). kept_links row ss) (linked_same sites 0 sites)

  shown_same : (n : Node) (ss : List ℕ) → link_facts n new ss ≡ link_facts n row ss
  shown_same n [] = refl
  shown_same n (s ∷ ss) = ap (λ (l : Link). link_fact n s l ∷ link_facts n new ss) (same s) ∙ ap (λ (ls : List LinkFacts). link_fact n s (row s) ∷ ls) (shown_same n ss)

  pub link_facts_same : (n : Node) (sites : ℕ) → link_facts n new (linked_sites new sites 0 sites) ≡ link_facts n row (linked_sites row sites 0 sites)
  link_facts_same n sites = shown_same n (linked_sites new sites 0 sites) ∙ ap (λ (ss : List ℕ). link_facts n row ss) (linked_same sites 0 sites)

-- what the tests see of a site with this node and these links, among so many sites
abbrev pub fact_from : Node → (ℕ → Link) → ℕ → SiteFacts
fact_from n row sites = record (seen_fact n) { links = links_by n.state (link_facts n row (linked_sites row sites 0 sites)) }

pub fact_same : (n m : Node) (row new : ℕ → Link) (sites many : ℕ) → m ≡ n → ((k : ℕ) → new k ≡ row k) → many ≡ sites → fact_from m new many ≡ fact_from n row sites
fact_same n m row new sites many node same count =
    ap (λ (k : Node). fact_from k new many) node ∙ ap (λ (k : ℕ). fact_from n new k) count
    ∙ ap (λ (ls : List LinkFacts). let f : SiteFacts = record (seen_fact n) { links = links_by n.state ls } in f) (link_facts_same row new same n sites)

-- the same of a site that may be over a group
abbrev pub over_from : Node → (ℕ → Link) → ℕ → SiteFacts
over_from n row sites = if is_over_group n then fact_of_group n (note_at n) else fact_from n row sites

pub over_same : (n m : Node) (row new : ℕ → Link) (sites many : ℕ) → m ≡ n → ((k : ℕ) → new k ≡ row k) → many ≡ sites → over_from m new many ≡ over_from n row sites
over_same n m row new sites many node same count =
    ap (λ (k : Node). over_from k new many) node
    ∙ ap (λ (f : SiteFacts). if is_over_group n then fact_of_group n (note_at n) else f) (fact_same n n row new sites many refl same count)

-- a site that is over no group
pub apart_same : (n m : Node) (row new : ℕ → Link) (sites many : ℕ) → is_over_group n ≡ false → m ≡ n → ((k : ℕ) → new k ≡ row k) → many ≡ sites → over_from m new many ≡ fact_from n row sites
apart_same n m row new sites many apart node same count =
    over_same n m row new sites many node same count ∙ ap (λ (b : Bool). if b then fact_of_group n (note_at n) else fact_from n row sites) apart

-- ---- a site that went down

pub facts_is : (f k : SiteFacts) → f.name ≡ k.name → f.state ≡ k.state → f.disks ≡ k.disks → f.blocks ≡ k.blocks → f.grouped ≡ k.grouped → f.volumes ≡ k.volumes → f.rvg ≡ k.rvg → f.links ≡ k.links → f ≡ k
facts_is f k name state disks blocks grouped volumes rvg links =
    ap (λ (x : List ℕ). let y : SiteFacts = record f { name = x } in y) name
    ∙ ap (λ (x : SiteState). let y : SiteFacts = record f { name = k.name; state = x } in y) state
    ∙ ap (λ (x : ℕ). let y : SiteFacts = record f { name = k.name; state = k.state; disks = x } in y) disks
    ∙ ap (λ (x : ℕ). let y : SiteFacts = record f { name = k.name; state = k.state; disks = k.disks; blocks = x } in y) blocks
    ∙ ap (λ (x : Bool). let y : SiteFacts = record f { name = k.name; state = k.state; disks = k.disks; blocks = k.blocks; grouped = x } in y) grouped
    ∙ ap (λ (x : List VolumeFacts). let y : SiteFacts = record k { volumes = x; rvg = f.rvg; links = f.links } in y) volumes
    ∙ ap (λ (x : Option RvgFacts). let y : SiteFacts = record k { rvg = x; links = f.links } in y) rvg
    ∙ ap (λ (x : List LinkFacts). let y : SiteFacts = record k { links = x } in y) links

-- the volumes that the tests see, of a site with this note and these volumes
abbrev table_by : Option GroupNode → List Volume → List VolumeFacts
table_by o vs =
    if is_some o && not (eqb (length vs) 0)
    then data_facts (entries_noted (unwrap_or o no_note)) (data_units (rvg_noted (unwrap_or o no_note))) vs ++ others_of (config_of (unwrap_or o no_note).config)
    else map volume_fact vs

-- the parts of a node that the tests see of a site that is down
pub record IsDownOf (n c : Node) : Type 0 where
  pub name : c.name ≡ n.name
  pub disks : c.disks ≡ n.disks
  pub blocks : c.blocks ≡ n.blocks
  pub volumes : c.volumes ≡ n.volumes
  pub group : c.group ≡ n.group
  pub state : c.state ≡ IsDown

module _ (n c : Node) (row new : ℕ → Link) (sites many : ℕ) (is : IsDownOf n c) where
  down_by : (b : Bool) → down_fact (if b then fact_of_group n (note_at n) else fact_from n row sites) ≡ (if b then fact_of_group c (note_at c) else fact_from c new many)
  down_by true = facts_is (down_fact (fact_of_group n (note_at n))) (fact_of_group c (note_at c)) (sym is.name) (sym is.state) (sym is.disks) (sym is.blocks) refl
      (ap (λ (o : Option GroupNode). noted_table (unwrap_or o no_note)) (sym is.group)) refl refl
  down_by false = facts_is (down_fact (fact_from n row sites)) (fact_from c new many) (sym is.name) (sym is.state) (sym is.disks) (sym is.blocks)
      (ap (λ (o : Option GroupNode). is_some o && not (eqb (length n.volumes) 0)) (sym is.group) ∙ ap (λ (vs : List Volume). is_some c.group && not (eqb (length vs) 0)) (sym is.volumes))
      (ap (λ (o : Option GroupNode). table_by o n.volumes) (sym is.group) ∙ ap (λ (vs : List Volume). table_by c.group vs) (sym is.volumes))
      (ap (λ (t : SiteState). group_by t c) (sym is.state))
      (ap (λ (t : SiteState). links_by t (link_facts c new (linked_sites new many 0 many))) (sym is.state))

  over_down : is_over_group c ≡ is_over_group n
  over_down = ap (λ (o : Option GroupNode). is_some o && eqb (length c.volumes) 0) is.group ∙ ap (λ (vs : List Volume). is_some n.group && eqb (length vs) 0) is.volumes

  -- the tests see the same of it, but that it is down
  pub down_over : down_fact (over_from n row sites) ≡ over_from c new many
  down_over = down_by (is_over_group n) ∙ ap (λ (b : Bool). if b then fact_of_group c (note_at c) else fact_from c new many) (sym over_down)

-- another node, of which the tests see the same
pub shown_by : (n m : Node) (row : ℕ → Link) → ((s : ℕ) (l : Link) → needed_by m s l ≡ needed_by n s l) → (ss : List ℕ) → link_facts m row ss ≡ link_facts n row ss
shown_by n m row used [] = refl
shown_by n m row used (s ∷ ss) =
    ap (λ (k : ℕ). (let f : LinkFacts = record (link_fact n s (row s)) { used = k } in f) ∷ link_facts m row ss) (used s (row s))
    ∙ ap (λ (ls : List LinkFacts). link_fact n s (row s) ∷ ls) (shown_by n m row used ss)

pub fact_like : (n m : Node) (row : ℕ → Link) (sites : ℕ) → seen_fact m ≡ seen_fact n → ((s : ℕ) (l : Link) → needed_by m s l ≡ needed_by n s l) → fact_from m row sites ≡ fact_from n row sites
fact_like n m row sites same used =
    ap (λ (x : SiteFacts). let f : SiteFacts = record x { links = links_by x.state (link_facts m row (linked_sites row sites 0 sites)) } in f) same
    ∙ ap (λ (ls : List LinkFacts). let f : SiteFacts = record (seen_fact n) { links = links_by n.state ls } in f) (shown_by n m row used (linked_sites row sites 0 sites))
