-- The group, and the plex of it, that a line names; and what a reply to a refusal leaves.
use Rattle.std.proofs.Common.{◌≡◌, ◌∙◌, ◌<◌, ◌≤◌, ℕ, true, List, ap, refl, sym, subst, arith}
use Rattle.std.specs.Prelude.{Option, Some, IfOk, IsSome, is_some, min, slice_get, slice_set, unwrap_or, Result, Ok, Err}
use Rattle.std.specs.Str.{bytes_eq}
use Rattle.vx_model.specs.declared.errors.OutOfMemory.{OutOfMemory}
use Rattle.vx_model.specs.declared.errors.Stop.{Stop}
use Rattle.vx_model.specs.declared.errors.Stop.TheVariants.{No as StopsBy, OutOfMemory as MemoryStop}
use Rattle.vx_model.specs.declared.no.No.{No}
use Rattle.vx_model.specs.declared.site.SiteState.TheVariants.{Up as IsUp, Deported as IsDeported}
use Rattle.vx_disk.specs.declared.shelf.Shelf.{Ghosts}
use Rattle.vx_group.proofs.HoldLemmas.{narrow_sound}
use Rattle.vx_history.specs.Doubts.{Doubted}
use Rattle.vx_history.specs.Groups.{GroupNode}
use Rattle.vx_history.specs.World.{Node}
use Rattle.vx_order.specs.declared.facts.SiteFacts.{SiteFacts}
use Rattle.vx_order.specs.declared.facts.VolumeFacts.{VolumeFacts}
use Rattle.vx_script.specs.declared.line.ScriptLine.{ScriptLine}
use Rattle.vx_untold.specs.Shades.{shade_meaning}
use Rattle.vx_volume.proofs.PlaceLemmas.{count_few}
use Rattle.vx_grouped.specs.GroupSites.{AwayNoted, UpNoted}
use Rattle.vx_grouped.specs.declared.group_site.GroupSite.{GroupSite}
use Rattle.vx_grouped.specs.declared.group_site.GroupSite.TheVariants.{Up as SiteUp, Deported as SiteAway, Down as SiteDown, Marked, Gone as SiteGone}
use Rattle.vx_diskset.specs.GroupCalls.{AtSite}
use Rattle.vx_diskset.specs.declared.disk_set.DiskSet.{DiskSet}
use Rattle.vx_diskset.specs.declared.disk_set.DiskSet.TheVariants.{OfGroup}
use Rattle.vx_diskset.specs.declared.group_set.GroupSet.{GroupSet}
use Rattle.vx_events.proofs.Places.{some_same}
use Rattle.vx_events.proofs.Refused.{FoundAt}
use Rattle.vx_events.specs.Facts.{place_of, seat_of}
use Rattle.vx_events.specs.GroupLines.{plain_number}
use Rattle.vx_events.specs.GroupNotes.{note_at}
use Rattle.vx_events.specs.GroupViews.{noted_table}
use Rattle.vx_events.specs.StepsOver.{fact_of_group, over_group_at}
use Rattle.vx_events.specs.declared.said.Said.{Said}
use Rattle.vx_events.specs.declared.said.Said.TheVariants.{Refused}
use Rattle.vx_yard.proofs.NamedSite.{named_same}
use Rattle.vx_yard.specs.Standing.{LeadsIs, LeadsOverIs, StandsFor}
use Rattle.vx_yard.specs.Writes.{below_facts}
use Rattle.vx_yard.specs.declared.yard.Yard.{Yard}
use Rattle.vx_yard.specs.Yards.{in_files}
use Rattle.vx_group_lines.proofs.GroupAt.{GroupAt, away_noted, group_at, up_noted}
use Rattle.vx_group_lines.proofs.GroupCalls.{at_up}
use Rattle.vx_group_lines.proofs.GroupPlex.{HasPlex, has_plex_at}
use Rattle.vx_group_lines.proofs.Tests.{AwayMay, PlexMay, UpMay}
use Rattle.vx_group_lines.specs.Noting.{ImportReply, KeepsRest, LetsGoAt, reply_kept, reply_noted}

-- whatever is answered
pub if_ok : {T E : Type 0} (P : T → Type 0) (r : Result T E) → ((x : T) → P x) → IfOk r P
if_ok P (Ok x) all = all x
if_ok P (Err e) all = tt

pub min_few : (n : ℕ) → n ≤ 0xffff_ffff → min n 0xffff_ffff ≡ n
min_few n few = omega (arith, few)

-- the plex that the tests found
pub record PlexAt (note : GroupNode) (volume : List ℕ) (plex : ℕ) : Type 0 where
  pub found : VolumeFacts
  pub there : slice_get (noted_table note) (plain_number note volume) ≡ Some found
  pub below : plex < found.plexes

plex_there : (note : GroupNode) (volume : List ℕ) (plex : ℕ) (vs : List VolumeFacts) (found : VolumeFacts) → vs ≡ noted_table note → FoundAt (λ (v : VolumeFacts). bytes_eq v.name volume) vs found → plex < found.plexes → PlexAt note volume plex
plex_there note volume plex vs found same at below =
    let here : FoundAt (λ (v : VolumeFacts). bytes_eq v.name volume) (noted_table note) found = subst (λ (xs : List VolumeFacts). FoundAt (λ (v : VolumeFacts). bytes_eq v.name volume) xs found) same at in
    record {
      found = found;
      there = ap (λ (o : Option ℕ). slice_get (noted_table note) (unwrap_or o 0)) here.is ∙ here.there;
      below = below;
    }

module _ {R : Type 0} {g : Ghosts R} where
  -- a group that is up, at the site of this name
  pub record UpAt (d : Doubted) (y : Yard R g) (name : List ℕ) (s : ℕ) (before : DiskSet R g) : Type 0 where
    pub at : GroupAt d y name s before
    pub up : (d.world.nodes s).state ≡ IsUp
    pub is_up : UpNoted (d.world.nodes s) (note_at (d.world.nodes s)) at.set.site
    pub noted : AtSite (UpNoted (d.world.nodes s) (note_at (d.world.nodes s))) before

  pub up_named : (d : Doubted) (y : Yard R g) (name : List ℕ) (s : ℕ) (before : DiskSet R g) → StandsFor d y → seat_of y.facts.items name ≡ Some s → over_group_at d.world name ≡ true → slice_get y.disk_sets.items s ≡ Some before
      → UpMay y.facts.items name → UpAt d y name s before
  up_named d y name s before stands seat over there may =
      let at : GroupAt d y name s before = group_at d y name s before stands seat over there in
      let up : (d.world.nodes s).state ≡ IsUp = ap (λ (f : SiteFacts). f.state) (sym (named_same y name s (fact_of_group (d.world.nodes s) (note_at (d.world.nodes s))) may.site seat at.fact)) ∙ may.up in
      record { at = at; up = up; is_up = up_noted (d.world.nodes s) at.set.site at.stands.stands up; noted = at_up d y name s before at up }

  pub plex_named : (d : Doubted) (y : Yard R g) (name volume : List ℕ) (plex s : ℕ) (before : DiskSet R g) → seat_of y.facts.items name ≡ Some s → GroupAt d y name s before → PlexMay y.facts.items name volume plex
      → PlexAt (note_at (d.world.nodes s)) volume plex
  plex_named d y name volume plex s before seat at may =
      plex_there (note_at (d.world.nodes s)) volume plex may.may.site.facts.volumes may.found
      (ap (λ (f : SiteFacts). f.volumes) (named_same y name s (fact_of_group (d.world.nodes s) (note_at (d.world.nodes s))) may.may.site seat at.fact)) may.at may.below

  -- its volume was found
  pub plain_there : (y : Yard R g) (name volume : List ℕ) (plex s : ℕ) (f : SiteFacts) → seat_of y.facts.items name ≡ Some s → slice_get y.facts.items s ≡ Some f → PlexMay y.facts.items name volume plex → IsSome (place_of f.volumes volume)
  plain_there y name volume plex s f seat at may =
      ap (λ (k : SiteFacts). is_some (place_of k.volumes volume)) (sym (named_same y name s f may.may.site seat at)) ∙ ap (λ (o : Option ℕ). is_some o) may.at.is

  pub plain_is : (d : Doubted) (y : Yard R g) (name volume : List ℕ) (s v : ℕ) (before : DiskSet R g) → GroupAt d y name s before → ((f : SiteFacts) → slice_get y.facts.items s ≡ Some f → place_of f.volumes volume ≡ Some v)
      → v ≡ plain_number (note_at (d.world.nodes s)) volume
  plain_is d y name volume s v before at place =
      sym (ap (λ (o : Option ℕ). unwrap_or o 0) (place (fact_of_group (d.world.nodes s) (note_at (d.world.nodes s))) at.fact))

  -- no volume has more plexes
  few_plexes : (n : Node) (note : GroupNode) (e : GroupSite R g) (v plex : ℕ) (found : VolumeFacts) → UpNoted n note e → slice_get (noted_table note) v ≡ Some found → plex < found.plexes → plex ≤ 8
  few_plexes n note (SiteUp group) v plex found it at below =
      let has : HasPlex group.core.inner.config v plex = has_plex_at note group.core.inner.config v plex found (record { is = it.at.lies.config; spells = it.spells }) at below in
      omega (arith, has.plex, count_few group.core.inner.config (narrow_sound group.core (shade_meaning g.meaning group.shelf) group.stands.group) v)
  few_plexes n note (SiteAway idle) v plex found it at below = absurd it
  few_plexes n note (SiteDown idle) v plex found it at below = absurd it
  few_plexes n note (Marked rack) v plex found it at below = absurd it
  few_plexes n note SiteGone v plex found it at below = absurd it

  pub plex_fits : (n : Node) (note : GroupNode) (e : GroupSite R g) (volume : List ℕ) (plex : ℕ) → UpNoted n note e → PlexAt note volume plex → min plex 0xffff_ffff ≡ plex
  plex_fits n note e volume plex it at = min_few plex (omega (arith, few_plexes n note e (plain_number note volume) plex at.found it at.there at.below))

  -- ---- a reply to a refusal

  pub record ReplySame (mid new : Yard R g) : Type 0 where
    pub disk_sets : new.disk_sets ≡ mid.disk_sets
    pub racks : new.racks ≡ mid.racks
    pub files : in_files new ≡ in_files mid

  pub reply_same : (s : ℕ) (f : SiteFacts) (stop : Stop) (mid new : Yard R g) (r : Result Said OutOfMemory) → reply_noted s f stop mid new r → ReplySame mid new
  reply_same s f (StopsBy why) mid new r it = record { disk_sets = it.same.disk_sets; racks = it.same.racks; files = ap (λ o. is_some o) it.same.dir }
  reply_same s f MemoryStop mid new r it = record { disk_sets = ap (λ (y : Yard R g). y.disk_sets) it.0; racks = ap (λ (y : Yard R g). y.racks) it.0; files = ap (λ (y : Yard R g). in_files y) it.0 }

  -- and one to a refusal of an import, by the disks that it left
  pub kept_same : (e : DiskSet R g) (s : ℕ) (f : SiteFacts) (stop : Stop) (mid new : Yard R g) (r : Result Said OutOfMemory) → reply_kept e s f stop mid new r → ReplySame mid new
  kept_same e s f (StopsBy why) mid new r it = record { disk_sets = it.same.disk_sets; racks = it.same.racks; files = ap (λ o. is_some o) it.same.dir }
  kept_same e s f MemoryStop mid new r it = record { disk_sets = ap (λ (y : Yard R g). y.disk_sets) it.0; racks = ap (λ (y : Yard R g). y.racks) it.0; files = ap (λ (y : Yard R g). in_files y) it.0 }

  pub kept_as : (s : ℕ) (f : SiteFacts) (stop : Stop) (mid new : Yard R g) (r : Result Said OutOfMemory) (e : DiskSet R g) → ImportReply s f stop mid new r → slice_get mid.disk_sets.items s ≡ Some e → reply_kept e s f stop mid new r
  kept_as s f stop mid new r e it there = subst (λ (x : DiskSet R g). reply_kept x s f stop mid new r) (some_same (sym it.there ∙ there)) it.is

  pub refusal_kept : (s : ℕ) (f : SiteFacts) (why : No) (stop : Stop) (mid new : Yard R g) (said : Said) → stop ≡ StopsBy why → new.facts.items ≡ slice_set mid.facts.items s (below_facts why f) → LetsGoAt s why mid new → KeepsRest mid new
      → said ≡ Refused why → ImportReply s f stop mid new (Ok said)
  refusal_kept s f why stop mid new said is facts lets same as_said = record {
    disk_set = lets.disk_set;
    there = lets.there;
    is = subst (λ (w : Stop). reply_kept lets.disk_set s f w mid new (Ok said)) (sym is) (record { facts = facts; assemblies = lets.is; same = same; said = ap (λ (x : Said). Ok x) as_said });
  }

  pub memory_kept : (s : ℕ) (f : SiteFacts) (stop : Stop) (mid : Yard R g) (e : DiskSet R g) → stop ≡ MemoryStop → slice_get mid.disk_sets.items s ≡ Some e → ImportReply s f stop mid mid (Err (record {}))
  memory_kept s f stop mid e is there = record { disk_set = e; there = there; is = subst (λ (w : Stop). reply_kept e s f w mid mid (Err (record {}))) (sym is) (refl, refl) }

  -- which is as to any refusal, where no replicated volume group is over the group
  pub plain_reply : (t : GroupSet R g) (s : ℕ) (f : SiteFacts) (stop : Stop) (mid new : Yard R g) (r : Result Said OutOfMemory) → reply_kept (OfGroup t) s f stop mid new r → reply_noted s f stop mid new r
  plain_reply t s f (StopsBy why) mid new r it = record { facts = it.facts; assemblies = it.assemblies; same = it.same; said = it.said }
  plain_reply t s f MemoryStop mid new r it = it

  -- memory was wanted before anything was done
  pub unbegun_over : (d : Doubted) (line : ScriptLine) (y new : Yard R g) (r : Result Said OutOfMemory) (e : OutOfMemory) → r ≡ Err e → LeadsIs d line y new r → LeadsOverIs d line y new r
  unbegun_over d line y new r e is stays =
      subst (λ (x : Result Said OutOfMemory). LeadsOverIs d line y new x) (sym is) (subst (λ (x : Result Said OutOfMemory). LeadsIs d line y new x) is stays)

  -- a group that was deported, at the site of this name
  pub record AwayAt (d : Doubted) (y : Yard R g) (name : List ℕ) (s : ℕ) (before : DiskSet R g) : Type 0 where
    pub at : GroupAt d y name s before
    pub away : (d.world.nodes s).state ≡ IsDeported
    pub is_away : AwayNoted (d.world.nodes s) (note_at (d.world.nodes s)) at.set.site
    pub noted : AtSite (AwayNoted (d.world.nodes s) (note_at (d.world.nodes s))) before

  pub away_named : (d : Doubted) (y : Yard R g) (name : List ℕ) (s : ℕ) (before : DiskSet R g) → StandsFor d y → seat_of y.facts.items name ≡ Some s → over_group_at d.world name ≡ true → slice_get y.disk_sets.items s ≡ Some before
      → AwayMay y.facts.items name → AwayAt d y name s before
  away_named d y name s before stands seat over there may =
      let at : GroupAt d y name s before = group_at d y name s before stands seat over there in
      let away : (d.world.nodes s).state ≡ IsDeported = ap (λ (f : SiteFacts). f.state) (sym (named_same y name s (fact_of_group (d.world.nodes s) (note_at (d.world.nodes s))) may.site seat at.fact)) ∙ may.away in
      let is_away : AwayNoted (d.world.nodes s) (note_at (d.world.nodes s)) at.set.site = away_noted (d.world.nodes s) at.set.site at.stands.stands away in
      record {
        at = at;
        away = away;
        is_away = is_away;
        noted = subst (λ (x : DiskSet R g). AtSite (AwayNoted (d.world.nodes s) (note_at (d.world.nodes s))) x) (sym at.is_set) is_away;
      }
