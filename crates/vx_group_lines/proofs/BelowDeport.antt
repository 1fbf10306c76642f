-- The line that deports the group below a replicated volume group: to that one it is a crash which keeps what is safe.
use Rattle.std.proofs.Common.{◌≡◌, ◌∙◌, ◌⊎◌, ◌+◌, ◌≤◌, ℕ, Bool, false, [], List, length, ap, sym, subst, refl, arith, inl, inr}
use Rattle.std.specs.Prelude.{None, slice_set, Result, Ok, Err}
use Rattle.vx_model.specs.declared.errors.OutOfMemory.{OutOfMemory}
use Rattle.vx_model.specs.declared.errors.Stop.{Stop}
use Rattle.vx_model.specs.declared.errors.Stop.TheVariants.{No as StopsBy, OutOfMemory as MemoryStop}
use Rattle.vx_model.specs.declared.no.No.{No}
use Rattle.vx_model.specs.declared.no.No.TheVariants.{Unknown, Exists, Range, Size, Role, Down as IsOff, Device, Missing, NoConfig, LastPlex, Space, LogFull, Stalled, LinkDown, Unconfirmed, Inconsistent, Behind, Replaying, Limit, Halted, Gap, Damaged, Paused, Unsettled, Format}
use Rattle.vx_disk.specs.Counts.{Rose}
use Rattle.vx_disk.specs.Shelf.{Meaning}
use Rattle.vx_disk.specs.declared.shelf.Shelf.{Ghosts}
use Rattle.vx_config.specs.declared.config.Config.{Config}
use Rattle.vx_kept.specs.Cleans.{at_serial}
use Rattle.vx_history.specs.Doubts.{Doubted, happened}
use Rattle.vx_history.specs.Groups.{GroupNode, NoteSettles, NoteUnsettles}
use Rattle.vx_history.specs.Missing.{with_maps}
use Rattle.vx_history.specs.Steps.{crashed, worked}
use Rattle.vx_history.specs.Stops.{IsFused}
use Rattle.vx_history.specs.World.{Node}
use Rattle.vx_history.specs.declared.event.Event.TheVariants.{Deport as DeportAt}
use Rattle.vx_order.specs.declared.facts.SiteFacts.{SiteFacts}
use Rattle.vx_script.specs.declared.line.ScriptLine.TheVariants.{GroupDeport}
use Rattle.vx_grouped.proofs.MapNoteLemmas.{away_with_maps, down_with_maps, up_with_maps}
use Rattle.vx_grouped.specs.ConfigMoves.{CleansPlexes, LosesSome, none_again}
use Rattle.vx_grouped.specs.GroupSites.{AwayNoted, DownNoted, UpNoted, deported_with, site_disks, with_note}
use Rattle.vx_grouped.specs.SiteEnds.{ConfigGoes, LacksDeport, SiteDeported}
use Rattle.vx_grouped.specs.declared.group_site.GroupSite.{GroupSite}
use Rattle.vx_grouped.specs.declared.group_site.GroupSite.TheVariants.{Up as SiteUp, Deported as SiteAway, Down as SiteDown, Marked, Gone as SiteGone}
use Rattle.vx_diskset.proofs.OverAway.{newest_named}
use Rattle.vx_diskset.specs.Aboves.{site_in}
use Rattle.vx_diskset.specs.Noted.{IsNoteTidy, below_rvg}
use Rattle.vx_diskset.specs.OverAways.{DeportedBelow, DeportsBelow}
use Rattle.vx_diskset.specs.Stands.{faults_at}
use Rattle.vx_diskset.specs.declared.disk_set.DiskSet.{DiskSet}
use Rattle.vx_diskset.specs.declared.over_set.OverSet.{OverSet}
use Rattle.vx_events.proofs.RvgStays.{same_config, then_same}
use Rattle.vx_events.specs.Fails.{Fails}
use Rattle.vx_events.specs.GroupConfigs.{ConfigLoses, ConfigRests, opened_again}
use Rattle.vx_events.specs.GroupEnds.{AreOf, GroupDone, GroupFails, GroupLacks, GroupWants}
use Rattle.vx_events.specs.GroupMaps.{MapsCalled, MapsLost}
use Rattle.vx_events.specs.GroupNotes.{note_at, Reconfigures}
use Rattle.vx_events.specs.GroupViews.{noted_table}
use Rattle.vx_events.specs.LinkedFacts.{linked_fact}
use Rattle.vx_events.specs.RvgFits.{rvg_noted}
use Rattle.vx_events.specs.RvgOver.{AsGroup, CutBelow, note_loosened}
use Rattle.vx_events.specs.RvgViews.{over_table}
use Rattle.vx_events.specs.declared.said.Said.{Said}
use Rattle.vx_events.specs.declared.said.Said.TheVariants.{Done, Refused}
use Rattle.vx_yard.proofs.Carrying.{LetsGo}
use Rattle.vx_yard.proofs.CrashLine.{rose_still}
use Rattle.vx_yard.specs.GroupFacts.{deported_facts}
use Rattle.vx_yard.specs.Standing.{StandsFor}
use Rattle.vx_yard.specs.Stands.{RoseAll}
use Rattle.vx_yard.specs.Writes.{below_facts}
use Rattle.vx_yard.specs.Yards.{count_of}
use Rattle.vx_yard.specs.declared.yard.Yard.{Yard}
use Rattle.vx_above.proofs.Changing.{moves_table, moves_to, reconfigures}
use Rattle.vx_above.proofs.Fails.{calls_of}
use Rattle.vx_above.proofs.Losing.{Names}
use Rattle.vx_above.proofs.OverSites.{note_is}
use Rattle.vx_above.proofs.SiteCalls.{calls, names_below, rose_below}
use Rattle.vx_above.proofs.Tables.{table_like}
use Rattle.vx_group_lines.proofs.BelowDone.{IsBelowLine, LeadsBelow, loosened_world, never_on, seen_keeps, tight_then}
use Rattle.vx_group_lines.proofs.BelowGone.{below_gone, world_gone}
use Rattle.vx_group_lines.proofs.BelowLoosened.{off_loosened, up_loosened}
use Rattle.vx_group_lines.proofs.BelowUp.{BelowCalled}
use Rattle.vx_group_lines.proofs.GroupDeports.{cleans_table, cleans_to, failed_disk}
use Rattle.vx_group_lines.proofs.GroupDone.{burned_noted}
use Rattle.vx_group_lines.proofs.GroupEnding.{IsQuiet, Midway, lets_on, load_on}
use Rattle.vx_group_lines.proofs.GroupLeads.{Follows}
use Rattle.vx_group_lines.proofs.MapGoing.{with_goes}
use Rattle.vx_group_lines.proofs.NoMaps.{none_called, none_lacks, none_lost, none_noted}
use Rattle.vx_group_lines.proofs.Plains.{cleans_rvg, rvg_goes}
use Rattle.vx_group_lines.specs.Noting.{IsNotedRefusal, reply_noted}

-- its events, and those of its refusals, are as of any group
pub deport_is : (d : Doubted) (s : ℕ) (name : List ℕ) → IsBelowLine d s (GroupDeport name)
deport_is d s name = record {
  done = λ k. tt;
  broke = λ k. record { world = refl; after = λ i. refl; strayed = refl };
  lacks = λ k. record { world = refl; after = λ i. refl; strayed = refl };
  off = λ count k. record { world = refl; after = λ i. refl; strayed = refl };
}

-- ---- why it was refused

module _ {R : Type 0} {g : Ghosts R} where
  record Broke (n : Node) (note : GroupNode) (old new : GroupSite R g) (disk : ℕ) : Type 0 where
    next : GroupNode
    loosens : Bool
    keeps : NoteUnsettles false note next
    tidy : IsNoteTidy (note_loosened loosens next)
    noted : UpNoted (with_note (note_loosened loosens next) n) (note_loosened loosens next) new
    rose : Rose ((site_disks old).disk_faults disk) ((site_disks new).disk_faults disk)
    goes : ConfigGoes (LosesSome (site_disks old) (site_disks new)) note next old new

  record WentOff (n : Node) (note : GroupNode) (old new : GroupSite R g) : Type 0 where
    next : GroupNode
    loosens : Bool
    keeps : NoteUnsettles false note next
    tidy : IsNoteTidy (note_loosened loosens next)
    noted : DownNoted (crashed (with_note (note_loosened loosens next) n) 0) (note_loosened loosens next) new
    fused : IsFused n.fuse
    goes : ConfigGoes (LosesSome (site_disks old) (site_disks new)) note next old new

  record Wants (n : Node) (note : GroupNode) (old new : GroupSite R g) (why : No) : Type 0 where
    quiet : IsQuiet why
    noted : UpNoted (worked n) note new
    lacks : LacksDeport old why

  abbrev Whys : Node → GroupNode → GroupSite R g → GroupSite R g → No → Type 0
  Whys n note old new why = ((disk : ℕ) × (why ≡ Device disk) × Broke n note old new disk) ⊎ ((why ≡ IsOff) × WentOff n note old new) ⊎ Wants n note old new why

  module _ (n : Node) (note : GroupNode) (old new : GroupSite R g) where
    lacking : (why : No) → IsQuiet why → UpNoted (worked n) note new × LacksDeport old why → Whys n note old new why
    lacking why quiet it = inr (inr (record { quiet = quiet; noted = it.0; lacks = it.1 }))

    deport_why : (why : No) → DeportedBelow n note old new (Err (StopsBy why)) → Whys n note old new why
    deport_why (Device disk) it = inl (disk, refl, record { next = it.0; loosens = it.1; keeps = it.2; tidy = it.3; noted = it.4; rose = it.5; goes = it.6 })
    deport_why IsOff it = inr (inl (refl, record { next = it.0; loosens = it.1; keeps = it.2; tidy = it.3; noted = it.4; fused = it.5; goes = it.6 }))
    deport_why (Unknown what) it = lacking (Unknown what) (record { facts = λ f. refl; loads = λ s a b h. h }) it
    deport_why (Exists name) it = lacking (Exists name) (record { facts = λ f. refl; loads = λ s a b h. h }) it
    deport_why Range it = lacking Range (record { facts = λ f. refl; loads = λ s a b h. h }) it
    deport_why Size it = lacking Size (record { facts = λ f. refl; loads = λ s a b h. h }) it
    deport_why Role it = lacking Role (record { facts = λ f. refl; loads = λ s a b h. h }) it
    deport_why (Missing disk) it = lacking (Missing disk) (record { facts = λ f. refl; loads = λ s a b h. h }) it
    deport_why NoConfig it = lacking NoConfig (record { facts = λ f. refl; loads = λ s a b h. h }) it
    deport_why LastPlex it = lacking LastPlex (record { facts = λ f. refl; loads = λ s a b h. h }) it
    deport_why (Space need have) it = lacking (Space need have) (record { facts = λ f. refl; loads = λ s a b h. h }) it
    deport_why (LogFull link) it = lacking (LogFull link) (record { facts = λ f. refl; loads = λ s a b h. h }) it
    deport_why (Stalled link) it = lacking (Stalled link) (record { facts = λ f. refl; loads = λ s a b h. h }) it
    deport_why (LinkDown link) it = lacking (LinkDown link) (record { facts = λ f. refl; loads = λ s a b h. h }) it
    deport_why (Unconfirmed number) it = lacking (Unconfirmed number) (record { facts = λ f. refl; loads = λ s a b h. h }) it
    deport_why Inconsistent it = lacking Inconsistent (record { facts = λ f. refl; loads = λ s a b h. h }) it
    deport_why (Behind stored head) it = lacking (Behind stored head) (record { facts = λ f. refl; loads = λ s a b h. h }) it
    deport_why (Replaying link) it = lacking (Replaying link) (record { facts = λ f. refl; loads = λ s a b h. h }) it
    deport_why (Limit what most) it = lacking (Limit what most) (record { facts = λ f. refl; loads = λ s a b h. h }) it
    deport_why (Halted disk) it = lacking (Halted disk) (record { facts = λ f. refl; loads = λ s a b h. h }) it
    deport_why (Gap low need) it = lacking (Gap low need) (record { facts = λ f. refl; loads = λ s a b h. h }) it
    deport_why (Damaged unit block stored computed) it = lacking (Damaged unit block stored computed) (record { facts = λ f. refl; loads = λ s a b h. h }) it
    deport_why Paused it = lacking Paused (record { facts = λ f. refl; loads = λ s a b h. h }) it
    deport_why (Unsettled stored head) it = lacking (Unsettled stored head) (record { facts = λ f. refl; loads = λ s a b h. h }) it
    deport_why (Format version) it = lacking (Format version) (record { facts = λ f. refl; loads = λ s a b h. h }) it

  -- no serial is left where none are noted to be
  lacks_deport : (note : GroupNode) (e : GroupSite R g) (name : List ℕ) (why : No) → note.maps ≡ none_noted → LacksDeport e why → GroupWants note (GroupDeport name) why
  lacks_deport note (SiteUp group) name why none lacks = subst (λ (w : No). GroupWants note (GroupDeport name) w) (sym lacks.0) (tt, refl, none_lacks note none)
  lacks_deport note (SiteAway idle) name why none lacks = absurd lacks
  lacks_deport note (SiteDown idle) name why none lacks = absurd lacks
  lacks_deport note (Marked rack) name why none lacks = absurd lacks
  lacks_deport note SiteGone name why none lacks = absurd lacks

-- ---- the line

module _ {R : Type 0} {g : Ghosts R} (d : Doubted) (old new : Yard R g) (name : List ℕ) (s : ℕ) (before after : DiskSet R g) (p : OverSet R g) (stands : StandsFor d old) (call : BelowCalled d old new name s before after p)
    (running : (d.world.nodes s).halted ≡ None) (none : (note_at (d.world.nodes s)).maps ≡ none_noted) (asks : UpNoted (below_rvg (d.world.nodes s)) (note_at (d.world.nodes s)) (site_in call.at.set)) where
  abbrev n : Node
  n = d.world.nodes s

  abbrev note : GroupNode
  note = note_at (d.world.nodes s)

  abbrev was_site : GroupSite R g
  was_site = site_in call.at.set

  abbrev o : Meaning
  o = site_disks (site_in call.at.set)

  abbrev e : Meaning
  e = site_disks (site_in p)

  abbrev f : SiteFacts
  f = linked_fact d.world s

  abbrev many_of : Config → ℕ → ℕ
  many_of was disk = (site_disks (site_in call.at.set)).units + length was.disks + disk + 1

  names : (many : ℕ) → o.units ≤ many → Names s many (calls s old new many) o e
  names many enough = names_below old new s before after call.changed o e (λ j. ap (λ (x : DiskSet R g). faults_at x j) call.at.is_set) (λ j. ap (λ (x : DiskSet R g). faults_at x j) call.is) many enough

  are : (many : ℕ) → AreOf s (calls s old new many)
  are many = calls_of s (count_of old s) (count_of new s) many

  rose : (many : ℕ) → RoseAll (calls s old new many) (count_of old) (count_of new)
  rose many = rose_below old new s before after call.changed many

  -- ---- done

  pub deport_below : DeportsBelow (Ok (tt {0})) call.at.set p → new.facts.items ≡ slice_set old.facts.items s (deported_facts (linked_fact d.world s)) → LetsGo old new s → LeadsBelow d (GroupDeport name) s Done old new
  deport_below it facts lets =
      let on : SiteDeported (below_rvg n) note was_site (site_in p) (Ok (tt {0})) = it.deported (below_rvg n) note asks in
      let next : GroupNode = on.0 in
      let went : AwayNoted (deported_with next (below_rvg n)) next (site_in p) = on.2 in
      let goes : ConfigGoes (CleansPlexes o e) note next was_site (site_in p) = on.3 in
      let k : GroupNode = with_maps none_noted next in
      let many : ℕ = many_of goes.was (failed_disk goes.change) in
      let fails : Fails = calls s old new many in
      let named : Names s many fails o e = names many (omega arith) in
      let rvg : rvg_noted next ≡ rvg_noted note = rvg_goes note next goes.was goes.now goes.noted goes.noted_now (cleans_rvg o e goes.was goes.now goes.change) in
      let shows : noted_table next ≡ noted_table note = cleans_table s many fails o e note next named goes.was goes.now goes.noted goes.noted_now goes.change in
      let seen_table : over_table (with_note k n) k ≡ over_table n note = table_like n (with_note k n) note k refl rvg shows in
      let follows : Follows d (world_gone d s k) old new
      = below_gone d old new name s before after p stands call running k (away_with_maps none_noted (deported_with next (below_rvg n)) next (site_in p) went)
      (record {
        keeps = then_same note next k (seen_keeps note next goes.was goes.now goes.noted goes.noted_now shows rvg) refl;
        tidy = tight_then note next call.at.noted.3.tidy on.1;
        cut = on.1.same.cut;
        inside = on.1.same.inside;
      })
      (λ units named. newest_named next (site_in p) units on.4 named) it.away seen_table facts lets in
      record {
        next = world_gone d s k;
        middle = world_gone d s k;
        fails = fails;
        ends = AsGroup (GroupDone k (are many) (
          with_goes (Reconfigures (λ c x. ConfigRests s fails (opened_again c) (opened_again x)) NoteSettles) (MapsCalled s fails) note next goes.was goes.now none_noted goes.noted goes.noted_now
              (reconfigures s many fails o e note next named (λ c x. ConfigRests s fails (opened_again c) (opened_again x)) (λ a b. NoteSettles a b) goes.was goes.now goes.noted goes.noted_now
              (cleans_to s many fails o e note next named goes.was goes.now (omega arith) goes.change (omega arith)) on.1)
              (none_called s fails (at_serial 0 goes.was) (at_serial 0 goes.now) note.maps none),
          refl,
        )
            (record { world = refl; after = λ i. refl; strayed = refl }));
        loosens = false;
        why = λ on never off. never_on refl on;
        left = record { world = sym (loosened_world false (happened d (DeportAt s) false).world s k); after = λ i. refl; strayed = refl };
        stands = follows.stands;
        carries = follows.carries;
        rose = rose many;
      }

  -- ---- refused

  module _ (mid : Yard R g) (half : Midway old mid) (result : Result Said OutOfMemory) where
    abbrev LeadsSo : Type 0
    LeadsSo = (said : Said) × (result ≡ Ok said) × LeadsBelow d (GroupDeport name) s said old new

    facts_same : (x : SiteFacts) → x ≡ linked_fact d.world s → new.facts.items ≡ slice_set mid.facts.items s x → new.facts.items ≡ slice_set old.facts.items s (linked_fact d.world s)
    facts_same x is facts = facts ∙ ap (λ (fs : List SiteFacts). slice_set fs s x) half.facts ∙ ap (λ (y : SiteFacts). slice_set old.facts.items s y) is

    broke_below : (why : No) (disk : ℕ) → Broke (below_rvg n) note was_site (site_in p) disk → why ≡ Device disk → IsNotedRefusal s (linked_fact d.world s) why mid new result → LeadsSo
    broke_below why disk b is refusal =
        let r : IsNotedRefusal s f (Device disk) mid new result = subst (λ (w : No). IsNotedRefusal s f w mid new result) is refusal in
        let next : GroupNode = b.next in
        let left : GroupNode = note_loosened b.loosens next in
        let k : GroupNode = with_maps none_noted next in
        let goes : ConfigGoes (LosesSome o e) note next was_site (site_in p) = b.goes in
        let many : ℕ = many_of goes.was disk in
        let fails : Fails = calls s old new many in
        let named : Names s many fails o e = names many (omega arith) in
        let rvg : rvg_noted next ≡ rvg_noted note = rvg_goes note next goes.was goes.now goes.noted goes.noted_now goes.change.parts.rvg in
        let shows : noted_table next ≡ noted_table note = moves_table s many fails o e note next named none_again goes.was goes.now goes.noted goes.noted_now goes.change in (
          Refused (Device disk),
          r.said,
          up_loosened d (GroupDeport name) old new name s before after p stands call b.loosens k b.tidy (then_same note next k (seen_keeps note next goes.was goes.now goes.noted goes.noted_now shows rvg) refl) b.keeps.same.cut
              b.keeps.same.inside shows rvg (Refused (Device disk)) fails (up_with_maps none_noted (with_note left (below_rvg n)) left (site_in p) b.noted) (facts_same (below_facts (Device disk) f) refl r.facts)
              (load_on old mid new half r.same r.assemblies)
              (GroupFails disk k (are many) (named.each disk (omega arith) b.rose)
              (with_goes (Reconfigures (λ c x. ConfigLoses s fails c x) (NoteUnsettles false)) (MapsCalled s fails) note next goes.was goes.now none_noted goes.noted goes.noted_now
              (reconfigures s many fails o e note next named (λ c x. ConfigLoses s fails c x) (λ a b. NoteUnsettles false a b) goes.was goes.now goes.noted goes.noted_now
              (moves_to s many fails o e note next named none_again goes.was goes.now (omega arith) goes.change) b.keeps)
              (none_called s fails (at_serial 0 goes.was) (at_serial 0 goes.now) note.maps none)) refl ((deport_is d s name).broke k))
              (λ on never off. never disk (named.each disk (omega arith) b.rose)) (rose many),
        )

    off_below : (why : No) → WentOff (below_rvg n) note was_site (site_in p) → (result' : Result (Unit {0}) Stop) → DeportsBelow result' call.at.set p → why ≡ IsOff → IsNotedRefusal s (linked_fact d.world s) why mid new result → LeadsSo
    off_below why b result' it is refusal =
        let r : IsNotedRefusal s f IsOff mid new result = subst (λ (w : No). IsNotedRefusal s f w mid new result) is refusal in
        let next : GroupNode = b.next in
        let left : GroupNode = note_loosened b.loosens next in
        let k : GroupNode = with_maps none_noted next in
        let goes : ConfigGoes (LosesSome o e) note next was_site (site_in p) = b.goes in
        let many : ℕ = many_of goes.was 0 in
        let fails : Fails = calls s old new many in
        let named : Names s many fails o e = names many (omega arith) in
        let rvg : rvg_noted next ≡ rvg_noted note = rvg_goes note next goes.was goes.now goes.noted goes.noted_now goes.change.parts.rvg in
        let shows : noted_table next ≡ noted_table note = moves_table s many fails o e note next named none_again goes.was goes.now goes.noted goes.noted_now goes.change in (
          Refused IsOff,
          r.said,
          off_loosened d (GroupDeport name) old new name s before after p stands call b.loosens k b.tidy (then_same note next k (seen_keeps note next goes.was goes.now goes.noted goes.noted_now shows rvg) refl) b.keeps.same.cut
              b.keeps.same.inside shows rvg (Refused IsOff) fails (down_with_maps none_noted (crashed (with_note left (below_rvg n)) 0) left (site_in p) b.noted) (λ units named. it.named units _ (crashed (with_note left (below_rvg n)) 0) left b.noted)
              (r.facts ∙ ap (λ (fs : List SiteFacts). slice_set fs s (below_facts IsOff f)) half.facts) (lets_on old mid new s half r.same r.assemblies)
              (λ count. CutBelow count k (are many) b.fused
              (with_goes (Reconfigures (λ c x. ConfigLoses s fails c x) (NoteUnsettles false)) MapsLost note next goes.was goes.now none_noted goes.noted goes.noted_now
              (reconfigures s many fails o e note next named (λ c x. ConfigLoses s fails c x) (λ a b. NoteUnsettles false a b) goes.was goes.now goes.noted goes.noted_now
              (moves_to s many fails o e note next named none_again goes.was goes.now (omega arith) goes.change) b.keeps)
              (none_lost (at_serial 0 goes.was) (at_serial 0 goes.now) note.maps)) refl ((deport_is d s name).off count k))
              (λ on never off. off (b.fused, refl)) (rose many),
        )

    wants_below : (why : No) → Wants (below_rvg n) note was_site (site_in p) why → IsNotedRefusal s (linked_fact d.world s) why mid new result → LeadsSo
    wants_below why w refusal =
        let up : UpNoted (with_note note (below_rvg n)) note (site_in p) = burned_noted (below_rvg n) note (site_in p) (note_is n call.at.over) w.noted in (
          Refused why,
          refusal.said,
          up_loosened d (GroupDeport name) old new name s before after p stands call false note call.at.noted.3.tidy (same_config note note refl) refl refl refl refl (Refused why) [] up
              (facts_same (below_facts why f) (w.quiet.facts f) refusal.facts) (load_on old mid new half refusal.same (w.quiet.loads s mid.assemblies.items new.assemblies.items refusal.assemblies))
              (GroupLacks why (lacks_deport note was_site name why none w.lacks) refl refl ((deport_is d s name).lacks note)) (λ on never off. never_on refl on) (rose_still old new s before after call.changed.there call.changed.later call.changed.disk_sets),
        )

    pub deport_below_stopped : (stop : Stop) → DeportsBelow (Err stop) call.at.set p → reply_noted s (linked_fact d.world s) stop mid new result → LeadsSo
    deport_below_stopped (StopsBy why) it refusal = by_why (deport_why (below_rvg n) note was_site (site_in p) why (it.deported (below_rvg n) note asks))
      where
        by_why : Whys (below_rvg n) note was_site (site_in p) why → LeadsSo
        by_why (inl (disk, is, b)) = broke_below why disk b is refusal
        by_why (inr (inl (is, b))) = off_below why b (Err (StopsBy why)) it is refusal
        by_why (inr (inr w)) = wants_below why w refusal
    deport_below_stopped MemoryStop it refusal = absurd (it.deported (below_rvg n) note asks)
