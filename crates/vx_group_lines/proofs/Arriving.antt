-- What the events of a line over a group, and what it notes of its site, leave of the world.
use Rattle.std.proofs.Common.{◌≡◌, ◌∙◌, ◌<◌, ℕ, false, true, List, [], map, ap, subst, sym, refl, arith}
use Rattle.std.specs.Prelude.{Option, Some, None}
use Rattle.vx_model.specs.declared.site.Role.TheVariants.{Primary}
use Rattle.vx_model.specs.declared.site.SiteState.TheVariants.{Bare, Up}
use Rattle.vx_history.proofs.Updates.{at_place}
use Rattle.vx_history.specs.Doubts.{After, Doubted, happened}
use Rattle.vx_history.specs.Events.{kept_of, lost_touch}
use Rattle.vx_history.specs.Groups.{GroupNode}
use Rattle.vx_history.specs.Sound.{is_at_rest}
use Rattle.vx_history.specs.Steps.{burned, crashed, deported_site, group_set, group_up, worked_on}
use Rattle.vx_history.specs.World.{Gathering, Link, Node, NoFuse, Packet, with_node}
use Rattle.vx_history.specs.Volumes.{as_volume, volumes_set}
use Rattle.vx_history.specs.declared.event.Event.TheVariants.{Crash as CrashAt, Deport as DeportAt, Group as GroupAt, Volumes as VolumesAt}
use Rattle.vx_history.specs.declared.volumes.DataVolume.{DataVolume}
use Rattle.vx_grouped.specs.GroupSites.{HasNoRvg}
use Rattle.vx_diskset.specs.Holds.{header_links, row_links, state_with}
use Rattle.vx_effects.proofs.Effects.{changes_same, changes_then, crash_effect}
use Rattle.vx_effects.proofs.Fitting.{fit_happened}
use Rattle.vx_effects.proofs.Groups.{again_effect, data_effect, deport_effect, group_effect}
use Rattle.vx_effects.proofs.Leaving.{fit_note}
use Rattle.vx_effects.proofs.Moves.{Rests}
use Rattle.vx_effects.proofs.Rows.{touch_kept}
use Rattle.vx_events.proofs.Steps.{kept_is}
use Rattle.vx_events.specs.Effects.{ChangesNode, EffectAt}
use Rattle.vx_events.specs.GroupLines.{fuse_lost, noting}
use Rattle.vx_events.specs.LinksFit.{LinksFit}
use Rattle.vx_yard.proofs.Alike.{apart_place}
use Rattle.vx_yard.proofs.Rows.{row_links_same}
use Rattle.vx_yard.specs.Standing.{BeginsFirst}
use Rattle.vx_yard.proofs.FirstSites.{begins_like, never_bare}
use Rattle.vx_diskset.specs.Stands.{bare_with}
use Rattle.vx_diskset.specs.Makings.{IsFirstSite}

-- Site s of world e is this node, which keeps no link and may be nothing else, and has so much in assembly; no packet was sent, and no other site changed.
pub record Arrives (d e : Doubted) (s : ℕ) (m : Node) (gathered : Option Gathering) : Type 0 where
  pub site : ChangesNode s d e
  pub fits : LinksFit e
  pub node : e.world.nodes s ≡ m
  pub first : BeginsFirst s (d.world.nodes s) → BeginsFirst s m
  pub sure : e.after s ≡ None
  pub links : header_links e.world s ≡ []
  pub packets : e.world.packets ≡ d.world.packets
  pub gathering : e.world.gathering s ≡ gathered

pub arrives_none : (d : Doubted) (s : ℕ) → LinksFit d → d.after s ≡ None → header_links d.world s ≡ [] → Arrives d d s (d.world.nodes s) (d.world.gathering s)
arrives_none d s fits sure links = record { site = changes_same s d; fits = fits; node = refl; first = λ was. was; sure = sure; links = links; packets = refl; gathering = refl }

pub arrives_as : (d e : Doubted) (s : ℕ) (m k : Node) (gathered : Option Gathering) → m ≡ k → Arrives d e s m gathered → Arrives d e s k gathered
arrives_as d e s m k gathered is arrives = subst (λ (x : Node). Arrives d e s x gathered) is arrives

-- ---- notes

-- a node in which nothing changed that links look at
pub record IsStill (n m : Node) : Type 0 where
  pub state : m.state ≡ n.state
  pub halted : m.halted ≡ n.halted
  pub role : m.role ≡ n.role
  pub rests : Rests n m
  pub first : (site : ℕ) → BeginsFirst site n → BeginsFirst site m

abbrev pub with_at : Doubted → ℕ → Node → Doubted
with_at e s m = record e { world = with_node e.world s m }

changes_at : (d e : Doubted) (s : ℕ) (m : Node) → ChangesNode s d e → ChangesNode s d (with_at e s m)
changes_at d e s m before = changes_then s d e (with_at e s m) before (record {
  sites = refl;
  nodes = λ i apart. apart_place e.world.nodes s m i apart;
  links = λ i k apart. refl;
  headers = λ i apart. refl;
  after = λ i apart. refl;
  strayed = λ calm. calm;
  gathering = λ i apart. refl;
})

-- with another node at its place
pub arrives_with : (d e : Doubted) (s : ℕ) (n m : Node) (gathered : Option Gathering) → IsStill (e.world.nodes s) m → Arrives d e s n gathered → Arrives d (with_at e s m) s m gathered
arrives_with d e s n m gathered still arrives = record {
  site = changes_at d e s m arrives.site;
  fits = fit_note e s m still.state still.halted still.role still.rests arrives.fits;
  node = at_place e.world.nodes s m;
  first = λ was. still.first s (subst (λ (x : Node). BeginsFirst s x) (sym arrives.node) (arrives.first was));
  sure = arrives.sure;
  links = arrives.links;
  packets = arrives.packets;
  gathering = arrives.gathering;
}

abbrev pub noted_at : Doubted → ℕ → GroupNode → Doubted
noted_at e s next = record e { world = noting e.world s next }

-- with a note
pub arrives_noted : (d e : Doubted) (s : ℕ) (n : Node) (next : GroupNode) (gathered : Option Gathering) → Arrives d e s n gathered
    → Arrives d (noted_at e s next) s (record n { group = Some next }) gathered
arrives_noted d e s n next gathered arrives =
    let m : Node = record (e.world.nodes s) { group = Some next } in
    arrives_as d (noted_at e s next) s m (record n { group = Some next }) gathered (ap (λ (x : Node). let k : Node = record x { group = Some next } in k) arrives.node)
    (arrives_with d e s n m gathered (record { state = refl; halted = refl; role = refl; rests = record { quiet = λ is. is; rests = λ is. is }; first = λ site was. begins_like site (e.world.nodes s) m (λ bare. bare) refl refl refl refl was }) arrives)

-- and behind calls that may have written
pub arrives_worked : (d e : Doubted) (s : ℕ) (n : Node) (next : GroupNode) (gathered : Option Gathering) → Arrives d e s n gathered
    → Arrives d (record e { world = worked_on (noting e.world s next) s }) s (record n { group = Some next; fuse = burned n.fuse }) gathered
arrives_worked d e s n next gathered arrives =
    let v : Doubted = noted_at e s next in
    let k : Node = record n { group = Some next } in
    let m : Node = record (v.world.nodes s) { fuse = burned (v.world.nodes s).fuse } in
    let first : Arrives d v s k gathered = arrives_noted d e s n next gathered arrives in
    arrives_as d (with_at v s m) s m (record n { group = Some next; fuse = burned n.fuse }) gathered
    (ap (λ (x : Node). let y : Node = record x { fuse = burned x.fuse } in y) first.node)
    (arrives_with d v s k m gathered (record { state = refl; halted = refl; role = refl; rests = record { quiet = λ is. is; rests = λ is. is }; first = λ site was. begins_like site (v.world.nodes s) m (λ bare. bare) refl refl refl refl was }) first)

-- and where the fuse is lost
pub arrives_unfused : (d e : Doubted) (s : ℕ) (n : Node) (next : GroupNode) (gathered : Option Gathering) → Arrives d e s n gathered
    → Arrives d (record e { world = fuse_lost (noting e.world s next) s }) s (record n { group = Some next; fuse = NoFuse }) gathered
arrives_unfused d e s n next gathered arrives =
    let v : Doubted = noted_at e s next in
    let k : Node = record n { group = Some next } in
    let m : Node = record (v.world.nodes s) { fuse = NoFuse } in
    let first : Arrives d v s k gathered = arrives_noted d e s n next gathered arrives in
    arrives_as d (with_at v s m) s m (record n { group = Some next; fuse = NoFuse }) gathered
    (ap (λ (x : Node). let y : Node = record x { fuse = NoFuse } in y) first.node)
    (arrives_with d v s k m gathered (record { state = refl; halted = refl; role = refl; rests = record { quiet = λ is. is; rests = λ is. is }; first = λ site was. begins_like site (v.world.nodes s) m (λ bare. bare) refl refl refl refl was }) first)

-- and where it is lost, by the world that has its note
pub arrives_lost : (d e : Doubted) (s : ℕ) (n : Node) (gathered : Option Gathering) → Arrives d e s n gathered → Arrives d (record e { world = fuse_lost e.world s }) s (record n { fuse = NoFuse }) gathered
arrives_lost d e s n gathered arrives =
    let m : Node = record (e.world.nodes s) { fuse = NoFuse } in
    arrives_as d (with_at e s m) s m (record n { fuse = NoFuse }) gathered (ap (λ (x : Node). let y : Node = record x { fuse = NoFuse } in y) arrives.node)
    (arrives_with d e s n m gathered (record { state = refl; halted = refl; role = refl; rests = record { quiet = λ is. is; rests = λ is. is }; first = λ site was. begins_like site (e.world.nodes s) m (λ bare. bare) refl refl refl refl was }) arrives)

-- ---- events

effect_links : (d e : Doubted) (s : ℕ) (n : Node) (row : ℕ → Link) (many : ℕ) (doubt : Option After) (packets : List Packet) (gathered : Option Gathering)
    → EffectAt s d e n row many doubt packets gathered → (sites : ℕ) → row_links (e.world.links s) sites ≡ row_links row sites
effect_links d e s n row many doubt packets gathered f sites = row_links_same row (e.world.links s) (λ k. f.is.links k) sites

-- one event more, whose links are still none
pub arrives_then : (d e f : Doubted) (s : ℕ) (n m : Node) (row : ℕ → Link) (many : ℕ) (doubt : Option After) (packets : List Packet) (before gathered : Option Gathering) → Arrives d e s n before
    → EffectAt s e f m row many doubt packets gathered → LinksFit f → doubt ≡ None → packets ≡ e.world.packets → row_links row e.world.sites ≡ []
    → (BeginsFirst s (e.world.nodes s) → BeginsFirst s m) → Arrives d f s m gathered
arrives_then d e f s n m row many doubt packets before gathered arrives f_is fits sure sent links first = record {
  site = changes_then s d e f arrives.site f_is.site;
  fits = fits;
  node = f_is.is.node;
  first = λ was. first (subst (λ (x : Node). BeginsFirst s x) (sym arrives.node) (arrives.first was));
  sure = f_is.is.after ∙ sure;
  links = effect_links e f s m row many doubt packets gathered f_is f.world.sites ∙ ap (λ (k : ℕ). row_links row k) f_is.site.sites ∙ links;
  packets = f_is.sent ∙ sent ∙ arrives.packets;
  gathering = f_is.gathering;
}

-- a site without writes crashes
pub arrives_crash : (d e : Doubted) (s : ℕ) (n : Node) (before : Option Gathering) → Arrives d e s n before → s < e.world.sites → n.state ≡ Up → n.log ≡ [] → n.safe ≡ 0
    → Arrives d (happened e (CrashAt s 0) false) s (crashed n 0) None
arrives_crash d e s n before arrives below up log safe =
    let none : kept_of n 0 ≡ 0 = kept_is n 0 (omega (arith, safe)) (omega arith) in
    let row : ℕ → Link = λ k. lost_touch (e.world.links s k) in
    let up_there : (e.world.nodes s).state ≡ Up = ap (λ (x : Node). x.state) arrives.node ∙ up in
    arrives_as d (happened e (CrashAt s 0) false) s (crashed (e.world.nodes s) (kept_of (e.world.nodes s) 0)) (crashed n 0) None
    (ap (λ (x : Node). crashed x (kept_of x 0)) arrives.node ∙ ap (λ (k : ℕ). crashed n k) none)
    (arrives_then d e (happened e (CrashAt s 0) false) s n (crashed (e.world.nodes s) (kept_of (e.world.nodes s) 0)) row (e.world.headers s) None e.world.packets before None arrives
    (crash_effect e s 0 false (arrives.fits.rows s) below up_there) (fit_happened e (CrashAt s 0) false tt arrives.fits) refl refl (touch_kept (e.world.links s) e.world.sites ∙ arrives.links)
    (λ was. begins_like s (e.world.nodes s) (crashed (e.world.nodes s) (kept_of (e.world.nodes s) 0)) (λ bare. never_bare (e.world.nodes s) up_there bare) refl refl refl refl was))

-- a group that is down or deported comes up
pub arrives_up : (d e : Doubted) (s : ℕ) (n : Node) (before : Option Gathering) → Arrives d e s n before → s < e.world.sites → is_at_rest n.state ≡ true → n.role ≡ Primary → n.volumes ≡ [] → n.log ≡ []
    → Arrives d (happened e (GroupAt s) false) s (group_up n) before
arrives_up d e s n before arrives below rest role volumes log =
    arrives_as d (happened e (GroupAt s) false) s (group_up (e.world.nodes s)) (group_up n) before (ap (λ (x : Node). group_up x) arrives.node)
    (subst (λ (o : Option Gathering). Arrives d (happened e (GroupAt s) false) s (group_up (e.world.nodes s)) o) arrives.gathering
    (arrives_then d e (happened e (GroupAt s) false) s n (group_up (e.world.nodes s)) (e.world.links s) (e.world.headers s) (e.after s) e.world.packets before (e.world.gathering s) arrives
    (again_effect e s false below (ap (λ (x : Node). is_at_rest x.state) arrives.node ∙ rest) (ap (λ (x : Node). x.role) arrives.node ∙ role)
    (ap (λ (x : Node). x.volumes) arrives.node ∙ volumes) (ap (λ (x : Node). x.log) arrives.node ∙ log))
    (fit_happened e (GroupAt s) false tt arrives.fits) arrives.sure refl arrives.links
    (λ was. begins_like s (e.world.nodes s) (group_up (e.world.nodes s))
    (λ bare. let rests : true ≡ false = sym rest ∙ ap (λ (x : Node). is_at_rest x.state) (sym arrives.node) ∙ ap is_at_rest bare in absurd (cc)) refl refl refl refl was)))

-- a group that a bare site becomes is on its first line
first_made : (s : ℕ) (n : Node) → n ≡ bare_with n → IsFirstSite s (group_set s n)
first_made s n is = record { state = ap (λ (x : Node). state_with (group_set s x) []) is; session = refl; low = ap (λ (x : Node). x.low) is }

-- a bare site becomes a group
pub arrives_made : (d e : Doubted) (s : ℕ) (n : Node) (before : Option Gathering) → Arrives d e s n before → s < e.world.sites → n.state ≡ Bare → n ≡ bare_with n
    → Arrives d (happened e (GroupAt s) false) s (group_set s n) before
arrives_made d e s n before arrives below bare is =
    arrives_as d (happened e (GroupAt s) false) s (group_set s (e.world.nodes s)) (group_set s n) before (ap (λ (x : Node). group_set s x) arrives.node)
    (subst (λ (o : Option Gathering). Arrives d (happened e (GroupAt s) false) s (group_set s (e.world.nodes s)) o) arrives.gathering
    (arrives_then d e (happened e (GroupAt s) false) s n (group_set s (e.world.nodes s)) (e.world.links s) (e.world.headers s) (e.after s) e.world.packets before (e.world.gathering s) arrives
    (group_effect e s false below (ap (λ (x : Node). x.state) arrives.node ∙ bare)) (fit_happened e (GroupAt s) false tt arrives.fits) arrives.sure refl arrives.links
    (λ was made none. subst (λ (x : Node). IsFirstSite s (group_set s x)) (sym arrives.node) (first_made s n is))))

-- a group is deported
pub arrives_away : (d e : Doubted) (s : ℕ) (n : Node) (before : Option Gathering) → Arrives d e s n before → s < e.world.sites → n.state ≡ Up → n.halted ≡ None → n.log ≡ [] → n.safe ≡ 0
    → Arrives d (happened e (DeportAt s) false) s (deported_site n.fuse (crashed n 0)) None
arrives_away d e s n before arrives below up runs log safe =
    let none : kept_of n 0 ≡ 0 = kept_is n 0 (omega (arith, safe)) (omega arith) in
    let row : ℕ → Link = λ k. lost_touch (e.world.links s k) in
    let there : Node = deported_site (e.world.nodes s).fuse (crashed (e.world.nodes s) (kept_of (e.world.nodes s) 0)) in
    arrives_as d (happened e (DeportAt s) false) s there (deported_site n.fuse (crashed n 0)) None
    (ap (λ (x : Node). deported_site x.fuse (crashed x (kept_of x 0))) arrives.node ∙ ap (λ (k : ℕ). deported_site n.fuse (crashed n k)) none)
    (arrives_then d e (happened e (DeportAt s) false) s n there row (e.world.headers s) (e.after s) e.world.packets before None arrives
    (deport_effect e s false (arrives.fits.rows s) below (ap (λ (x : Node). x.state) arrives.node ∙ up) (ap (λ (x : Node). x.halted) arrives.node ∙ runs))
    (fit_happened e (DeportAt s) false tt arrives.fits) arrives.sure refl (touch_kept (e.world.links s) e.world.sites ∙ arrives.links)
    (λ was. begins_like s (e.world.nodes s) there (λ bare. never_bare (e.world.nodes s) (ap (λ (x : Node). x.state) arrives.node ∙ up) bare) refl refl refl refl was))

-- a group that is up gets data volumes
pub arrives_data : (d e : Doubted) (s : ℕ) (n : Node) (log : ℕ) (xs : List DataVolume) (before : Option Gathering) → Arrives d e s n before → s < e.world.sites → n.state ≡ Up → HasNoRvg n → (map as_volume xs ≡ [] → ⊥)
    → Arrives d (happened e (VolumesAt s log xs) false) s (volumes_set log xs n) before
arrives_data d e s n log xs before arrives below up none some =
    arrives_as d (happened e (VolumesAt s log xs) false) s (volumes_set log xs (e.world.nodes s)) (volumes_set log xs n) before (ap (λ (x : Node). volumes_set log xs x) arrives.node)
    (subst (λ (o : Option Gathering). Arrives d (happened e (VolumesAt s log xs) false) s (volumes_set log xs (e.world.nodes s)) o) arrives.gathering
    (arrives_then d e (happened e (VolumesAt s log xs) false) s n (volumes_set log xs (e.world.nodes s)) (e.world.links s) (e.world.headers s) (e.after s) e.world.packets before (e.world.gathering s) arrives
    (data_effect e s log xs false below (ap (λ (x : Node). x.state) arrives.node ∙ up) (ap (λ (x : Node). x.halted) arrives.node ∙ none.running) (ap (λ (x : Node). x.role) arrives.node ∙ none.role)
    (ap (λ (x : Node). x.volumes) arrives.node ∙ none.volumes) (ap (λ (x : Node). x.log) arrives.node ∙ none.log))
    (fit_happened e (VolumesAt s log xs) false tt arrives.fits) arrives.sure refl arrives.links (λ was made bare. absurd (some bare))))
