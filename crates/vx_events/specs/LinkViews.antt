-- What the status of a site shows of its links.
use Rattle.std.specs.Prelude.{ℕ, ◌+◌, List, [], ◌∷◌}
use Rattle.vx_history.specs.Events.{linked_sites}
use Rattle.vx_history.specs.Refusals.{how_many_below}
use Rattle.vx_history.specs.World.{Link, Regions, Volume, World}
use Rattle.vx_model.specs.Sizes.{regions_of}
use Rattle.vx_model.specs.declared.site.SiteState.{SiteState}
use Rattle.vx_model.specs.declared.site.SiteState.TheVariants.{Bare, Up, Deported, Down}
use Rattle.vx_report.specs.declared.view.LinkView.{LinkView}
use Rattle.vx_report.specs.declared.view.SiteView.{SiteView}
use Rattle.vx_events.specs.Views.{name_of, view_of}

-- how many regions of these volumes a map marks; the first of them has number v
abbrev pub marked_from : Regions → (v : ℕ) → List Volume → ℕ
marked_from map v [] = 0
marked_from map v (x ∷ xs) = how_many_below (regions_of x.blocks) (map v) + marked_from map (v + 1) xs

-- the link of site p to site s
abbrev pub link_view : World → (p s : ℕ) → Link → LinkView
link_view w p s l = record {
  name = name_of w s;
  bunker = l.bunker;
  attached = l.attached;
  connected = l.connected;
  paused = l.paused;
  mode = l.mode;
  marked = marked_from l.map 0 (w.nodes p).volumes;
  net = l.net;
  stored = l.stored;
}

abbrev pub link_views : World → (p : ℕ) → List ℕ → List LinkView
link_views w p [] = []
link_views w p (s ∷ ss) = link_view w p s (w.links p s) ∷ link_views w p ss

-- only a site that is up shows its links
abbrev pub views_by : SiteState → List LinkView → List LinkView
views_by Bare views = []
views_by Up views = views
views_by Deported views = []
views_by Down views = []

-- the status of site p, with its links in the order of their making
abbrev pub linked_view : World → (p : ℕ) → SiteView
linked_view w p = record (view_of w (w.nodes p)) { links = views_by (w.nodes p).state (link_views w p (linked_sites (w.links p) w.sites 0 w.sites)) }
