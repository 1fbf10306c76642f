-- What a line over a group leads a yard to, by what its call left of the disks of the site.
use Rattle.std.proofs.Common.{◌≡◌, ◌∙◌, ◌<◌, ◌≤◌, ℕ, true, false, [], length, ap, sym, subst, arith}
use Rattle.std.specs.Prelude.{Option, Some, None, slice_set, Result, Ok, Err}
use Rattle.vx_model.specs.declared.errors.OutOfMemory.{OutOfMemory}
use Rattle.vx_model.specs.Sites.{is_origin}
use Rattle.vx_model.specs.declared.limits.TheConstants.{LEAST_BLOCKS, MOST_DISKS}
use Rattle.vx_model.specs.declared.site.Role.{Role}
use Rattle.vx_model.specs.declared.site.Role.TheVariants.{Primary}
use Rattle.vx_model.specs.declared.site.SiteState.TheVariants.{Bare as IsBare, Up as IsUp, Deported as IsDeported, Down as IsDown}
use Rattle.vx_disk.specs.declared.shelf.Shelf.{Ghosts}
use Rattle.vx_history.specs.Doubts.{After, Doubted}
use Rattle.vx_history.specs.Groups.{GroupNode}
use Rattle.vx_history.specs.World.{Gathering, Node}
use Rattle.vx_order.specs.declared.facts.SiteFacts.{SiteFacts}
use Rattle.vx_script.specs.declared.line.ScriptLine.{ScriptLine}
use Rattle.vx_grouped.specs.Ends.{plain_write}
use Rattle.vx_grouped.specs.GroupSites.{AwayNoted, DownNoted, FitsPlain, NotesGroup, UpNoted}
use Rattle.vx_diskset.specs.Asked.{FailsAs, FusedAs}
use Rattle.vx_diskset.specs.GroupSets.{cut_value, noted_cut}
use Rattle.vx_diskset.specs.Holds.{KeptBeside, beside_of, doubt_of}
use Rattle.vx_diskset.specs.Stands.{CutLies, IsGroupSet, SiteStands, bare_with}
use Rattle.vx_diskset.specs.declared.disk_set.DiskSet.{DiskSet}
use Rattle.vx_diskset.specs.declared.disk_set.DiskSet.TheVariants.{OfGroup}
use Rattle.vx_diskset.specs.declared.group_set.CutWrite.{CutWrite}
use Rattle.vx_diskset.specs.declared.group_set.GroupSet.{GroupSet}
use Rattle.vx_events.proofs.OverSeats.{fact_grouped}
use Rattle.vx_events.proofs.Parts.{none_done}
use Rattle.vx_events.proofs.Places.{never_some}
use Rattle.vx_events.specs.Fails.{Fails}
use Rattle.vx_events.specs.GroupEnds.{GroupEnds}
use Rattle.vx_events.specs.GroupLines.{is_over_group}
use Rattle.vx_events.specs.GroupNotes.{note_at}
use Rattle.vx_events.specs.Parts.{StopsInPart}
use Rattle.vx_events.specs.RvgFits.{rvg_noted}
use Rattle.vx_events.specs.StepsOver.{fact_of_group, fact_over, group_place}
use Rattle.vx_events.specs.declared.said.Said.{Said}
use Rattle.vx_yard.proofs.Carrying.{Feeds, LetsGo, SameLoad, carries_at, carries_let, feeds_none}
use Rattle.vx_yard.proofs.OneSite.{Changed, Comes, stands_at, told_by}
use Rattle.vx_yard.proofs.OverGroup.{noted_over}
use Rattle.vx_yard.specs.Carries.{Carries}
use Rattle.vx_yard.specs.Standing.{BeginsFirst, LeadsOver, LeadsOverIs, LeadsOverOrStops, StandsFor}
use Rattle.vx_yard.specs.Stands.{RoseAll}
use Rattle.vx_yard.specs.Yards.{IsTold, count_of}
use Rattle.vx_yard.specs.declared.yard.Yard.{Yard}
use Rattle.vx_group_lines.proofs.Arriving.{Arrives}
use Rattle.vx_grouped.specs.SiteMaps.{StandMaps}
use Rattle.vx_grouped.specs.declared.group_site.GroupSite.{GroupSite}
use Rattle.vx_group_lines.proofs.GroupAt.{away_notes, away_stands, down_notes, down_stands, note_is, up_notes, up_stands}

-- ---- the node of a site over a group

-- with as many disks of as many blocks
pub record SameDisks (n m : Node) : Type 0 where
  pub name : m.name ≡ n.name
  pub disks : m.disks ≡ n.disks
  pub blocks : m.blocks ≡ n.blocks

-- what the tests see of it
pub record Seen (m : Node) (next : GroupNode) (f : SiteFacts) : Type 0 where
  pub is : f ≡ fact_of_group m next

pub fact_seen : (e : Doubted) (s : ℕ) (m : Node) (next : GroupNode) (f : SiteFacts) → e.world.nodes s ≡ m → NotesGroup m next → f ≡ fact_of_group m next → f ≡ fact_over e.world s
fact_seen e s m next f node noted is =
    let over : is_over_group (e.world.nodes s) ≡ true = ap (λ (x : Node). is_over_group x) node ∙ noted_over m next noted in
    is ∙ ap (λ (k : GroupNode). fact_of_group m k) (note_is m next noted) ∙ ap (λ (x : Node). fact_of_group x (note_at x)) (sym node) ∙ sym (fact_grouped e.world s over)

pub feeds_nobody : (n m : Node) → m.role ≡ Primary → Feeds n m
feeds_nobody n m role = feeds_none n m (λ up receives. let e : true ≡ false = sym (ap (λ (r : Role). is_origin r) role) ∙ receives in absurd (cc))

-- how large the disks of a site are
pub record Sized (n : Node) : Type 0 where
  pub few : n.disks ≤ MOST_DISKS
  pub some : LEAST_BLOCKS ≤ n.blocks

pub sized_as : (n m : Node) → SameDisks n m → Sized n → Sized m
sized_as n m same it = record { few = subst (λ (k : ℕ). k ≤ MOST_DISKS) (sym same.disks) it.few; some = subst (λ (k : ℕ). LEAST_BLOCKS ≤ k) (sym same.blocks) it.some }

no_cut : (m : Node) (o : Option CutWrite) → cut_value o ≡ None → (x : CutWrite) → o ≡ Some x → CutLies m x
no_cut m o none x is = absurd (let e : Some (plain_write x.volume x.block x.bytes) ≡ None = sym (ap (λ (k : Option CutWrite). cut_value k) is) ∙ none in cc)

noted_as : (m : Node) (next : GroupNode) → NotesGroup m next → noted_cut m.group ≡ next.cut
noted_as m next noted = ap (λ (o : Option GroupNode). noted_cut o) noted.is

up_bare : (m : Node) → m.state ≡ IsUp → m.state ≡ IsBare → m ≡ bare_with m
up_bare m up bare = absurd (let e : IsUp ≡ IsBare = sym up ∙ bare in cc)

away_bare : (m : Node) → m.state ≡ IsDeported → m.state ≡ IsBare → m ≡ bare_with m
away_bare m away bare = absurd (let e : IsDeported ≡ IsBare = sym away ∙ bare in cc)

down_bare : (m : Node) → m.state ≡ IsDown → m.state ≡ IsBare → m ≡ bare_with m
down_bare m down bare = absurd (let e : IsDown ≡ IsBare = sym down ∙ bare in cc)

-- and the note names no replicated volume group, whatever it is called
plain_as : (m : Node) (next : GroupNode) → NotesGroup m next → rvg_noted next ≡ None → (note : GroupNode) → m.group ≡ Some note → rvg_noted note ≡ None
plain_as m next noted plain note is =
    let same : next ≡ note = (let some : Some next ≡ Some note = sym noted.is ∙ is in cc) in
    subst (λ (k : GroupNode). rvg_noted k ≡ None) same plain

module _ {R : Type 0} {g : Ghosts R} where
  -- ---- the disk set of the site

  -- such disks, whatever stands beside the node, as long as that is no doubt and no link
  abbrev pub Sets : Node → GroupSet R g → Type 0
  Sets m set = (beside : KeptBeside) → beside.doubt ≡ None → beside.links ≡ [] → IsGroupSet beside m set

  pub sized_of : (beside : KeptBeside) (n : Node) (set : GroupSet R g) → IsGroupSet beside n set → Sized n
  sized_of beside n set it = record { few = it.few; some = it.some }

  -- the note of the site is this one
  maps_as : (m : Node) (next : GroupNode) (e : GroupSite R g) → NotesGroup m next → StandMaps next e → (note : GroupNode) → m.group ≡ Some note → StandMaps note e
  maps_as m next e noted maps note is =
      let same : next ≡ note = (let some : Some next ≡ Some note = sym noted.is ∙ is in cc) in
      subst (λ (k : GroupNode). StandMaps k e) same maps

  -- a group that is up
  pub up_set : (m : Node) (next : GroupNode) (set : GroupSet R g) → Sized m → UpNoted m next set.site → StandMaps next set.site → rvg_noted next ≡ None → cut_value set.cut ≡ None → next.cut ≡ None → Sets m set
  up_set m next set sized up maps plain none cut beside sure unlinked =
      let says = up_notes m next set.site up in
      record {
        sure = λ _. sure;
        unlinked = λ _. unlinked;
        stands = up_stands m next set.site up;
        cut = none ∙ sym cut ∙ sym (noted_as m next says.0);
        lies = no_cut m set.cut none;
        bare = up_bare m says.1;
        few = sized.few;
        some = sized.some;
        maps = λ made. maps_as m next set.site says.0 maps;
        plain = λ made. plain_as m next says.0 plain;
      }

  -- one that is deported
  pub away_set : (m : Node) (next : GroupNode) (set : GroupSet R g) → Sized m → AwayNoted m next set.site → StandMaps next set.site → rvg_noted next ≡ None → cut_value set.cut ≡ None → next.cut ≡ None → Sets m set
  away_set m next set sized away maps plain none cut beside sure unlinked =
      let says = away_notes m next set.site away in
      record {
        sure = λ _. sure;
        unlinked = λ _. unlinked;
        stands = away_stands m next set.site away;
        cut = none ∙ sym cut ∙ sym (noted_as m next says.0);
        lies = no_cut m set.cut none;
        bare = away_bare m says.1;
        few = sized.few;
        some = sized.some;
        maps = λ made. maps_as m next set.site says.0 maps;
        plain = λ made. plain_as m next says.0 plain;
      }

  -- and one that is down, where the write that is cut lies in its volume
  pub down_set : (m : Node) (next : GroupNode) (set : GroupSet R g) → Sized m → DownNoted m next set.site → StandMaps next set.site → rvg_noted next ≡ None → cut_value set.cut ≡ next.cut
      → ((x : CutWrite) → set.cut ≡ Some x → FitsPlain next x.volume x.block (length x.bytes)) → Sets m set
  down_set m next set sized down maps plain cut fits beside sure unlinked =
      let says = down_notes m next set.site down in
      record {
        sure = λ _. sure;
        unlinked = λ _. unlinked;
        stands = down_stands m next set.site down;
        cut = cut ∙ sym (noted_as m next says.0);
        lies = λ x is. record {
          down = says.1;
          fits = λ note noted.
              let same : next ≡ note = let e : Some next ≡ Some note = sym says.0.is ∙ noted in cc in
              subst (λ (k : GroupNode). FitsPlain k x.volume x.block (length x.bytes)) same (fits x is);
        };
        bare = down_bare m says.1;
        few = sized.few;
        some = sized.some;
        maps = λ made. maps_as m next set.site says.0 maps;
        plain = λ made. plain_as m next says.0 plain;
      }

  -- ---- the world

  -- what a site comes to whose disks are these
  pub group_comes : (d e : Doubted) (s : ℕ) (m : Node) (gathered : Option Gathering) (set : GroupSet R g) → Arrives d e s m gathered → Sets m set → FailsAs m (OfGroup set) → FusedAs m (OfGroup set) → Comes d e s (OfGroup set)
  group_comes d e s m gathered set arrives here failing fuse =
      let at : m ≡ e.world.nodes s = sym arrives.node in
      record {
        changes = arrives.site;
        links = arrives.fits;
        stands = subst (λ (x : Node). SiteStands (beside_of e s) x (OfGroup set)) at
            (here (beside_of e s) (ap (λ (o : Option After). doubt_of e.world s o) arrives.sure) arrives.links);
        failing = subst (λ (x : Node). FailsAs x (OfGroup set)) at failing;
        fuse = subst (λ (x : Node). FusedAs x (OfGroup set)) at fuse;
        role = tt;
        doubt = λ was a is. absurd (never_some (sym arrives.sure ∙ is));
      }

  -- what the yard stands for behind the line, and what it carries
  pub record Follows (d e : Doubted) (old new : Yard R g) : Type 0 where
    pub stands : StandsFor e new
    pub carries : Carries d old → Carries e new

  -- what it has in assembly stays
  pub follows_on : (d e : Doubted) (s : ℕ) (m : Node) (next : GroupNode) (f : SiteFacts) (old new : Yard R g) (before : DiskSet R g) (set : GroupSet R g) → StandsFor d old → s < d.world.sites
      → Changed old new s before (OfGroup set) → Arrives d e s m (d.world.gathering s) → NotesGroup m next → Sets m set → FailsAs m (OfGroup set) → FusedAs m (OfGroup set)
      → f ≡ fact_of_group m next → new.facts.items ≡ slice_set old.facts.items s f → SameLoad old new → Follows d e old new
  follows_on d e s m next f old new before set stands below changed arrives noted here failing fuse fact facts load = record {
    stands = stands_at d e old new s f before (OfGroup set) stands below changed (group_comes d e s m (d.world.gathering s) set arrives here failing fuse)
        (λ was. subst (λ (x : Node). BeginsFirst s x) (sym arrives.node) (arrives.first was)) (λ _. tt)
        (fact_seen e s m next f arrives.node noted fact) facts;
    carries = λ carries.
        carries_at s d e old new carries load (record { site = arrives.site; packets = arrives.packets; gathering = arrives.gathering })
        (subst (λ (x : Node). Feeds (d.world.nodes s) x) (sym arrives.node) (feeds_nobody (d.world.nodes s) m noted.none.role))
        (told_by old new s before (OfGroup set) changed);
  }

  -- it lets that go, and is not up
  pub follows_off : (d e : Doubted) (s : ℕ) (m : Node) (next : GroupNode) (f : SiteFacts) (old new : Yard R g) (before : DiskSet R g) (set : GroupSet R g) → StandsFor d old → s < d.world.sites
      → Changed old new s before (OfGroup set) → Arrives d e s m None → (m.state ≡ IsUp → ⊥) → NotesGroup m next → Sets m set → FailsAs m (OfGroup set) → FusedAs m (OfGroup set)
      → f ≡ fact_of_group m next → new.facts.items ≡ slice_set old.facts.items s f → LetsGo old new s → Follows d e old new
  follows_off d e s m next f old new before set stands below changed arrives off noted here failing fuse fact facts lets = record {
    stands = stands_at d e old new s f before (OfGroup set) stands below changed (group_comes d e s m None set arrives here failing fuse)
        (λ was. subst (λ (x : Node). BeginsFirst s x) (sym arrives.node) (arrives.first was)) (λ _. tt)
        (fact_seen e s m next f arrives.node noted fact) facts;
    carries = λ carries.
        carries_let s d e old new lets (omega (arith, below, stands.disk_sets.few)) arrives.site arrives.packets arrives.gathering
        (λ up. off (ap (λ (x : Node). x.state) (sym arrives.node) ∙ up)) (told_by old new s before (OfGroup set) changed) carries;
  }

  -- the line, by its events and notes
  pub leads_by : (d e : Doubted) (line : ScriptLine) (s : ℕ) (fails : Fails) (said : Said) (old new : Yard R g) → group_place d.world line ≡ s → GroupEnds (IsTold new) d line s fails said e → Follows d e old new
      → RoseAll fails (count_of old) (count_of new) → LeadsOver d line said old new
  leads_by d e line s fails said old new place ends follows rose = record {
    next = e;
    fails = fails;
    done = subst (λ (k : ℕ). GroupEnds (IsTold new) d line k fails said e) (sym place) ends;
    stands = follows.stands;
    carries = follows.carries;
    rose = rose;
  }

  -- want of memory before anything is done
  pub or_stops : (d : Doubted) (line : ScriptLine) (old new : Yard R g) (r : Result Said OutOfMemory) → LeadsOverIs d line old new r → LeadsOverOrStops d line old new r
  or_stops d line old new (Ok said) leads = leads
  or_stops d line old new (Err e) stays = record { next = d; part = StopsInPart (none_done d line); stands = stays.stands; carries = stays.carries; rose = stays.rose }
