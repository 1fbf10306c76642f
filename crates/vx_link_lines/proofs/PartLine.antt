-- A part of a line that writes one header, by the call on the disks of its site.
use Rattle.std.proofs.Common.{◌≡◌, ◌∙◌, ◌<◌, ℕ, List, [], ap, sym, subst}
use Rattle.std.specs.Prelude.{Option, Some, slice_get, slice_set, Result, Ok, Err}
use Rattle.vx_history.specs.Doubts.{Doubted}
use Rattle.vx_history.specs.World.{Gathering, Node}
use Rattle.vx_history.specs.declared.event.Event.{Event}
use Rattle.vx_history.specs.Steps.{worked}
use Rattle.vx_model.specs.declared.no.No.{No}
use Rattle.vx_model.specs.Sites.{is_origin}
use Rattle.vx_model.specs.declared.state.KeptLink.{KeptLink}
use Rattle.vx_model.specs.declared.state.State.{State}
use Rattle.vx_order.specs.declared.facts.SiteFacts.{SiteFacts}
use Rattle.vx_disk.specs.declared.shelf.Shelf.{Ghosts}
use Rattle.vx_diskset.specs.Asked.{LeavesFuse}
use Rattle.vx_diskset.specs.Burning.{NoMore}
use Rattle.vx_diskset.specs.DiskSets.{CrashedAt}
use Rattle.vx_diskset.specs.Holds.{KeptBeside, beside_of}
use Rattle.vx_diskset.specs.Keeps.{CanKeep, KeptAt, done_by, restated}
use Rattle.vx_diskset.proofs.Roles.{role_like}
use Rattle.vx_diskset.specs.Stands.{KeepsRole, RoleIs, SiteStands}
use Rattle.vx_diskset.specs.declared.disk_set.DiskSet.{DiskSet}
use Rattle.vx_events.specs.StepsOver.{facts_over}
use Rattle.vx_events.specs.declared.said.Said.{Said}
use Rattle.vx_events.specs.declared.said.Said.TheVariants.{Done, Refused}
use Rattle.vx_yard.specs.Carries.{Carries}
use Rattle.vx_link_lines.specs.Headed.{HeadedSo, NextFor, NotesAt, behind, noted_by}
use Rattle.vx_yard.specs.Standing.{StandsFor}
use Rattle.vx_yard.specs.Writes.{noted_facts}
use Rattle.vx_yard.specs.declared.yard.Yard.{Yard}
use Rattle.vx_yard.proofs.Carrying.{LetsGoBy, SameLoad, carries_node}
use Rattle.vx_link_lines.proofs.Headed.{headed_done, headed_refused}
use Rattle.vx_link_lines.proofs.HeadedWorlds.{done_effect}
use Rattle.vx_link_lines.proofs.HeaderCalls.{Answered, IsHeader, answered_keep}
use Rattle.vx_yard.proofs.OneSite.{Changed, role_kept, told_by}

-- ---- any header

module _ {R : Type 0} {g : Ghosts R} (note : (ℕ → Node) → ℕ → Node) (s : ℕ) (notes : NotesAt s note) (d : Doubted) (e : Event) (m : Node) (ls : List KeptLink) (gathered : Option Gathering)
    (h : IsHeader d e s m ls gathered) (old : Yard R g) (before : DiskSet R g) (stands : StandsFor (noted_by note d) old) (below : s < d.world.sites) (at : slice_get old.disk_sets.items s ≡ Some before) where
  -- the site as it stands before the call
  pub header_stood : SiteStands (beside_of d s) (worked (d.world.nodes s)) before
  header_stood = subst (λ (k : Node). SiteStands (beside_of d s) k before) (notes.here d.world.nodes) (stands.disk_sets.sites s before below at)

  module _ (new : Yard R g) (after : DiskSet R g) (changed : Changed old new s before after) where
    pub header_done : RoleIs m after → Answered CrashedAt (beside_of d s) (worked (d.world.nodes s)) (worked m) ls before after (Ok tt) → LeavesFuse NoMore Done before after → new.facts.items ≡ facts_over (behind d e).world
        → (Carries (noted_by note d) old → Carries (noted_by note (behind d e)) new) → NextFor [] (noted_by note d) (noted_by note (behind d e)) old new
    header_done kind is calls facts carries = headed_done note s notes d e m ls gathered h old new before after stands below changed kind is calls facts carries

    pub header_refused : RoleIs (d.world.nodes s) after → (why : No) (said : Said) (f f' : SiteFacts) → said ≡ Refused why → Answered CrashedAt (beside_of d s) (worked (d.world.nodes s)) (worked m) ls before after (Err why)
        → LeavesFuse NoMore (Refused why) before after → slice_get old.facts.items s ≡ Some f → f' ≡ noted_facts why f → new.facts.items ≡ slice_set old.facts.items s f' → LetsGoBy why old new s
        → HeadedSo note d e s old new (Err said)
    header_refused kind why said f f' says is calls there shown facts lets =
        (why, says, headed_refused note s notes d e m ls gathered h old new before after stands below changed kind why f f' is calls there shown facts lets)

-- ---- one that keeps a state

-- an event that writes this state into the header of a site's log
pub record IsKeptHeader (d : Doubted) (e : Event) (s : ℕ) (st : State) : Type 0 where
  pub header : IsHeader d e s (restated (d.world.nodes s) st) st.links (d.world.gathering s)
  pub role : st.role ≡ (d.world.nodes s).role
  pub can : CanKeep (beside_of d s) (worked (d.world.nodes s)) st

module _ {R : Type 0} {g : Ghosts R} (note : (ℕ → Node) → ℕ → Node) (s : ℕ) (notes : NotesAt s note) (d : Doubted) (e : Event) (st : State) (h : IsKeptHeader d e s st) (old : Yard R g) (before : DiskSet R g)
    (stands : StandsFor (noted_by note d) old) (below : s < d.world.sites) (at : slice_get old.disk_sets.items s ≡ Some before) where
  abbrev n : Node
  n = d.world.nodes s

  -- what the call on the disks promises of a state
  abbrev pub Keeps : DiskSet R g → State → Result (Unit {0}) No → Type 0
  Keeps after x result = (beside : KeptBeside) (m : Node) → SiteStands beside m before → CanKeep beside m x → KeptAt beside m x before after result

  abbrev pub Calls : DiskSet R g → Result (Unit {0}) No → Type 0
  Calls after result = (beside : KeptBeside) (m : Node) → SiteStands beside m before → LeavesFuse NoMore (done_by result) before after

  stood : SiteStands (beside_of d s) (worked n) before
  stood = subst (λ (k : Node). SiteStands (beside_of d s) k before) (notes.here d.world.nodes) (stands.disk_sets.sites s before below at)

  kept : (after : DiskSet R g) (x : State) (result : Result (Unit {0}) No) → x ≡ st → Keeps after x result → KeptAt (beside_of d s) (worked n) st before after result
  kept after x result is call =
      subst (λ (y : State). KeptAt (beside_of d s) (worked n) y before after result) is
      (call (beside_of d s) (worked n) stood (subst (λ (y : State). CanKeep (beside_of d s) (worked n) y) (sym is) h.can))

  module _ (new : Yard R g) (after : DiskSet R g) (changed : Changed old new s before after) (keeps : KeepsRole before after) where
    kind : RoleIs n after
    kind =
        role_like ((noted_by note d).world.nodes s) n after (ap (λ (k : Node). is_origin k.role) (sym (notes.here d.world.nodes)))
        (role_kept (noted_by note d) old s before after stands below at keeps)

    pub kept_done : KeptAt (beside_of d s) (worked n) st before after (Ok tt) → LeavesFuse NoMore Done before after → new.facts.items ≡ facts_over (behind d e).world → SameLoad old new
        → NextFor [] (noted_by note d) (noted_by note (behind d e)) old new
    kept_done is calls facts load =
        let w = done_effect note s notes d e (restated n st) h.header.row st.links (d.world.gathering s) h.header.effect h.header.kept h.header.sure in
        let here : (noted_by note d).world.nodes s ≡ worked n = notes.here d.world.nodes in
        header_done note s notes d e (restated n st) st.links (d.world.gathering s) h.header old before stands below at new after changed (role_like n (restated n st) after (ap is_origin h.role) kind) (answered_keep CrashedAt (beside_of d s) (worked n) st before after (Ok tt) is) calls facts
        (carries_node s (noted_by note d) (noted_by note (behind d e)) (worked (restated n st)) old new load w.site w.sent w.gathering w.is.node (sym (ap (λ (k : Node). k.state) here))
        (h.role ∙ sym (ap (λ (k : Node). k.role) here)) (sym (ap (λ (k : Node). k.fed_by) here)) (λ told. told_by old new s before after changed told))

    pub kept_refused : (why : No) (said : Said) (f f' : SiteFacts) → said ≡ Refused why → KeptAt (beside_of d s) (worked n) st before after (Err why) → LeavesFuse NoMore (Refused why) before after
        → slice_get old.facts.items s ≡ Some f → f' ≡ noted_facts why f → new.facts.items ≡ slice_set old.facts.items s f' → LetsGoBy why old new s → HeadedSo note d e s old new (Err said)
    kept_refused why said f f' says is calls there shown facts lets =
        header_refused note s notes d e (restated n st) st.links (d.world.gathering s) h.header old before stands below at new after changed kind why said f f' says
        (answered_keep CrashedAt (beside_of d s) (worked n) st before after (Err why) is) calls there shown facts lets

    module _ (x : State) (is : x ≡ st) where
      pub part_done : Keeps after x (Ok tt) → Calls after (Ok tt) → new.facts.items ≡ facts_over (behind d e).world → SameLoad old new → NextFor [] (noted_by note d) (noted_by note (behind d e)) old new
      part_done kept_by calls facts load = kept_done (kept after x (Ok tt) is kept_by) (calls (beside_of d s) (worked n) stood) facts load

      pub part_refused : (why : No) (said : Said) (f f' : SiteFacts) → said ≡ Refused why → Keeps after x (Err why) → Calls after (Err why) → slice_get old.facts.items s ≡ Some f → f' ≡ noted_facts why f
          → new.facts.items ≡ slice_set old.facts.items s f' → LetsGoBy why old new s → HeadedSo note d e s old new (Err said)
      part_refused why said f f' says kept_by calls there shown facts lets =
          kept_refused why said f f' says (kept after x (Err why) is kept_by) (calls (beside_of d s) (worked n) stood) there shown facts lets
