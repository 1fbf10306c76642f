-- The part of a line that makes a link in which a site comes to the line of another one, by the call on the disks of the site.
use Rattle.std.proofs.Common.{◌≡◌, ◌<◌, ℕ, suc, List, [], ◌∷◌, length, true, false, ap, sym, subst, refl, arith}
use Rattle.std.specs.Prelude.{Bool, Some, None, not, ◌&&◌, eqb, slice_get, slice_set, Result, Ok, Err}
use Rattle.std.proofs.lemmas.Bool.Decides.{nat_tests}
use Rattle.vx_model.specs.Content.{Write}
use Rattle.vx_model.specs.declared.limits.TheConstants.{MOST_SITES}
use Rattle.vx_model.specs.declared.link.Prot.TheVariants.{Fail as FailsWhenFull}
use Rattle.vx_model.specs.declared.link.SyncMode.{SyncMode}
use Rattle.vx_model.specs.declared.no.No.{No}
use Rattle.vx_model.specs.declared.no.No.TheVariants.{Device, Limit, Down as IsOff}
use Rattle.vx_model.specs.declared.state.State.{State}
use Rattle.vx_history.proofs.StateCases.{primary_leads}
use Rattle.vx_history.proofs.Updates.{and_left, and_right}
use Rattle.vx_history.specs.Doubts.{Doubted}
use Rattle.vx_history.specs.Events.{joined}
use Rattle.vx_history.specs.Refusals.{is_empty, is_primary, some_below}
use Rattle.vx_history.specs.Sends.{is_linked}
use Rattle.vx_history.specs.Step.{step}
use Rattle.vx_history.specs.World.{Node, World}
use Rattle.vx_history.specs.declared.event.Event.{Event}
use Rattle.vx_history.specs.declared.event.Event.TheVariants.{Link as LinkAt}
use Rattle.vx_history.specs.declared.event.LinkPart.TheVariants.{Joins}
use Rattle.vx_history.specs.declared.event.Said.TheVariants.{Done as IsDone}
use Rattle.vx_history.specs.Steps.{worked}
use Rattle.vx_order.specs.declared.facts.SiteFacts.{SiteFacts}
use Rattle.vx_disk.specs.declared.shelf.Shelf.{Ghosts}
use Rattle.vx_diskset.proofs.Roles.{role_like, role_origin}
use Rattle.vx_diskset.specs.Asked.{HeadUnder, LeavesFuse}
use Rattle.vx_diskset.specs.Burning.{NoMore}
use Rattle.vx_diskset.specs.DiskSets.{CrashedAt}
use Rattle.vx_diskset.specs.Holds.{KeptBeside, beside_of, header_links, state_with}
use Rattle.vx_diskset.specs.Keeps.{done_by}
use Rattle.vx_diskset.specs.Stands.{SiteStands}
use Rattle.vx_diskset.specs.declared.disk_set.DiskSet.{DiskSet}
use Rattle.vx_effects.proofs.Fitting.{fit_happened}
use Rattle.vx_effects.proofs.LinkParts.{AreTwo, joins_effect, two_done}
use Rattle.vx_events.specs.StepsOver.{facts_over}
use Rattle.vx_events.specs.LinksFit.{LinksFit}
use Rattle.vx_events.specs.declared.said.Said.{Said}
use Rattle.vx_events.specs.declared.said.Said.TheVariants.{Refused}
use Rattle.vx_joins.specs.Joins.{CanJoin, JoinedAt, JoinedWith}
use Rattle.vx_link_lines.specs.Headed.{HeadedSo, NextFor, NotesAt, behind, noted_by}
use Rattle.vx_yard.specs.Loads.{LetGo}
use Rattle.vx_yard.specs.Standing.{StandsFor}
use Rattle.vx_yard.specs.Writes.{noted_facts}
use Rattle.vx_yard.specs.declared.yard.Yard.{Yard}
use Rattle.vx_yard.proofs.Carrying.{LetsGoBy, carries_cleared}
use Rattle.vx_link_lines.proofs.HeadedWorlds.{done_effect}
use Rattle.vx_link_lines.proofs.HeaderCalls.{Answered, IsHeader}
use Rattle.vx_link_lines.proofs.LinkChain.{fresh, second_links}
use Rattle.vx_link_lines.proofs.NotedYard.{sure_open}
use Rattle.vx_yard.proofs.OneSite.{Changed, told_by}
use Rattle.vx_link_lines.proofs.PartLine.{header_done, header_refused}

none_logged : (log : List Write) → is_empty log ≡ true → log ≡ []
none_logged [] is = refl
none_logged (x ∷ xs) is = absurd (not_zero (length xs) is)
  where
    not_zero : (k : ℕ) → eqb (suc k) 0 ≡ true → ⊥
    not_zero k h = grind (arith, nat_tests)

module _ {R : Type 0} {g : Ghosts R} where
  -- what a join promises, as a header of any node
  pub answered_join : (Off : KeptBeside → Node → DiskSet R g → Type 0) (beside : KeptBeside) (a : Node) (p : ℕ) (n : Node) (old new : DiskSet R g) (result : Result (Unit {0}) No)
      → JoinedWith Off beside a p n old new result → Answered Off beside n (joined a p n) beside.links old new result
  answered_join Off beside a p n old new (Ok done) is = is.0
  answered_join Off beside a p n old new (Err (Device disk)) is = is
  answered_join Off beside a p n old new (Err (Limit what most)) is = is
  answered_join Off beside a p n old new (Err IsOff) is = is
  answered_join Off beside a p n old new (Err other) is = absurd is

-- ---- the site may come to that line

module _ (d : Doubted) (p s : ℕ) (sync : SyncMode) (fit : LinksFit d) (alone : (d.world.nodes s).group ≡ None) (said : (step d.world (LinkAt p s sync FailsWhenFull Joins)).said ≡ IsDone) where
  abbrev site : Node
  site = d.world.nodes s

  abbrev no_links : Bool
  no_links = not (some_below d.world.sites (λ j. is_linked (d.world.links s j)))

  two_sites : AreTwo d.world p s
  two_sites = (two_done d.world p s sync FailsWhenFull Joins said).0

  pub can_join : CanJoin (beside_of d s) (worked site)
  can_join = record {
    up = two_sites.up_too;
    running = two_sites.running_too;
    apart = alone;
    origin = primary_leads site.role (and_left (is_primary site.role) (is_empty site.log && no_links) (fresh d p s sync fit said));
    empty = none_logged site.log (and_left (is_empty site.log) no_links (and_right (is_primary site.role) (is_empty site.log && no_links) (fresh d p s sync fit said)));
    unlinked = second_links d p s sync fit said;
  }

module _ {R : Type 0} {g : Ghosts R} where
  -- what the call on the disks promises of their fuse
  pub join_headed : (note : (ℕ → Node) → ℕ → Node) (d : Doubted) (p s : ℕ) (sync : SyncMode) → NotesAt s note → LinksFit d → (d.world.nodes s).group ≡ None → (step d.world (LinkAt p s sync FailsWhenFull Joins)).said ≡ IsDone
      → (old : Yard R g) (before after : DiskSet R g) → StandsFor (noted_by note d) old → s < d.world.sites → slice_get old.disk_sets.items s ≡ Some before → (result : Result (Unit {0}) No)
      → ((beside : KeptBeside) (k : Node) → SiteStands beside k before → CanJoin beside k → HeadUnder 2 (done_by result) before after) → HeadUnder 2 (done_by result) before after
  join_headed note d p s sync notes fit alone said old before after stands below at result call =
      call (beside_of d s) (worked (d.world.nodes s)) (subst (λ (k : Node). SiteStands (beside_of d s) k before) (notes.here d.world.nodes) (stands.disk_sets.sites s before below at)) (can_join d p s sync fit alone said)

module _ {R : Type 0} {g : Ghosts R} (note : (ℕ → Node) → ℕ → Node) (d : Doubted) (p s : ℕ) (sync : SyncMode) (notes : NotesAt s note) (fit : LinksFit d) (alone : (d.world.nodes s).group ≡ None) (said : (step d.world (LinkAt p s sync FailsWhenFull Joins)).said ≡ IsDone)
    (old new : Yard R g) (before after : DiskSet R g) (stands : StandsFor (noted_by note d) old) (below : s < d.world.sites) (changed : Changed old new s before after) where
  abbrev w : World
  w = d.world

  abbrev n : Node
  n = w.nodes s

  abbrev m : Node
  m = joined (w.nodes p) p n

  abbrev e : Event
  e = LinkAt p s sync FailsWhenFull Joins

  two : AreTwo w p s
  two = (two_done w p s sync FailsWhenFull Joins said).0

  header : IsHeader d e s m (header_links w s) None
  header = record {
    row = w.links s;
    effect = joins_effect d p s sync FailsWhenFull false said;
    kept = refl;
    sure = sure_open d s fit (two.up_too, two.running_too);
    like = record { state = refl; name = refl; disks = refl; blocks = refl; volumes = refl; group = refl; failing = refl; fuse = refl };
    fits = fit_happened d e false refl fit;
    fits_before = fit;
    sets = refl;
    opens = (two.up_too, two.running_too);
    none = alone;
    writes = refl;
  }

  can : CanJoin (beside_of d s) (worked n)
  can = can_join d p s sync fit alone said

  stood : SiteStands (beside_of d s) (worked n) before
  stood = subst (λ (k : Node). SiteStands (beside_of d s) k before) (notes.here w.nodes) (stands.disk_sets.sites s before below changed.there)

  -- what the call on the disks promises of a state
  abbrev pub Joined : State → Result (Unit {0}) No → Type 0
  Joined st result = (beside : KeptBeside) (a : Node) (q : ℕ) (k : Node) → SiteStands beside k before → CanJoin beside k → st ≡ state_with (joined a q k) [] → JoinedAt beside a q k before after result

  abbrev pub Calls : Result (Unit {0}) No → Type 0
  Calls result = (beside : KeptBeside) (k : Node) → SiteStands beside k before → LeavesFuse NoMore (done_by result) before after

  module _ (st : State) (is : st ≡ state_with m []) where
    joins : (result : Result (Unit {0}) No) → Joined st result → JoinedAt (beside_of d s) (w.nodes p) p (worked n) before after result
    joins result call = call (beside_of d s) (w.nodes p) p (worked n) stood can is

    pub join_done : Joined st (Ok tt) → Calls (Ok tt) → new.facts.items ≡ facts_over (behind d e).world → new.flight ≡ old.flight → LetGo s old.assemblies.items new.assemblies.items
        → new.feeders.items ≡ slice_set old.feeders.items s p → NextFor [] (noted_by note d) (noted_by note (behind d e)) old new
    join_done call calls facts flight lets feeders =
        let f = done_effect note s notes d e m header.row (header_links w s) None header.effect header.kept header.sure in
        let j = joins (Ok tt) call in
        header_done note s notes d e m (header_links w s) None header old before stands below changed.there new after changed (role_like (joined (w.nodes p) p (worked n)) m after refl j.1)
        (answered_join CrashedAt (beside_of d s) (w.nodes p) p (worked n) before after (Ok tt) j) (calls (beside_of d s) (worked n) stood) facts
        (λ carries. carries_cleared s p (noted_by note d) (noted_by note (behind d e)) old new carries
        (record { flight = flight; assembly = lets.assembly; none = lets.none; assemblies = lets.is }) small feeders f.site f.sent f.gathering
        (λ up receives. sym (ap (λ (k : Node). k.fed_by) f.is.node)) (λ told. told_by old new s before after changed told))
      where
        small : s < MOST_SITES
        small = omega (arith, below, stands.disk_sets.few)

    pub join_refused : (why : No) (said_so : Said) (x x' : SiteFacts) → said_so ≡ Refused why → Joined st (Err why) → Calls (Err why) → slice_get old.facts.items s ≡ Some x → x' ≡ noted_facts why x
        → new.facts.items ≡ slice_set old.facts.items s x' → LetsGoBy why old new s → HeadedSo note d e s old new (Err said_so)
    join_refused why said_so x x' says call calls there shown facts lets =
        header_refused note s notes d e m (header_links w s) None header old before stands below changed.there new after changed (role_origin n after can.origin) why said_so x x' says
        (answered_join CrashedAt (beside_of d s) (w.nodes p) p (worked n) before after (Err why) (joins (Err why) call)) (calls (beside_of d s) (worked n) stood) there shown facts lets
