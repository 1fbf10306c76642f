-- A yard behind an event that writes one header of the log of a site, by what the call on its disks answered.
use Rattle.std.proofs.Common.{◌≡◌, ◌∙◌, ⊎_elim, ◌+◌, ◌<◌, ◌≤◌, ℕ, Bool, true, false, List, [], ◌∷◌, length, ap, sym, subst, refl, arith}
use Rattle.std.specs.Prelude.{Option, Some, None, slice_get, slice_set, Ok, Err}
use Rattle.vx_history.proofs.Behind.{after_of}
use Rattle.vx_history.proofs.Fuses.{burned_twice, fused_before, worked_twice}
use Rattle.vx_history.proofs.Updates.{at_place}
use Rattle.vx_history.specs.Doubts.{After, Doubted, crashed_as, halved, resolved_at}
use Rattle.vx_history.specs.Groups.{GroupNode}
use Rattle.vx_history.specs.Steps.{burned, crashed, worked}
use Rattle.vx_history.specs.World.{Gathering, Link, Node, Volume}
use Rattle.vx_history.specs.declared.event.Event.{Event}
use Rattle.vx_model.specs.declared.limits.TheConstants.{MOST_SITES}
use Rattle.vx_model.specs.declared.no.Counted.{Counted}
use Rattle.vx_model.specs.declared.no.No.{No}
use Rattle.vx_model.specs.declared.no.No.TheVariants.{Device, Limit, Down as Off}
use Rattle.vx_model.specs.declared.site.SiteState.TheVariants.{Up as IsUp}
use Rattle.vx_model.specs.declared.state.KeptLink.{KeptLink}
use Rattle.vx_disk.specs.Disks.{Disks}
use Rattle.vx_disk.specs.declared.shelf.Shelf.{Ghosts}
use Rattle.vx_disk.specs.Spends.{Passed}
use Rattle.vx_order.specs.declared.facts.RvgFacts.{RvgFacts}
use Rattle.vx_order.specs.declared.facts.SiteFacts.{SiteFacts}
use Rattle.vx_diskset.specs.Asked.{FailsAs, FusedAs, LeavesFuse, size_in}
use Rattle.vx_diskset.specs.Burning.{Burnt, NoMore}
use Rattle.vx_diskset.specs.DiskSets.{CrashedAt, fell_to, halted_at}
use Rattle.vx_diskset.specs.Fuses.{LeftAs}
use Rattle.vx_diskset.specs.Holds.{KeptBeside, KeptSite, beside_of, itself, header_links, row_links, sure_of}
use Rattle.vx_diskset.specs.Stands.{RoleIs, SiteStands}
use Rattle.vx_diskset.specs.declared.disk_set.DiskSet.{DiskSet}
use Rattle.vx_events.proofs.Places.{never_some, some_same}
use Rattle.vx_events.specs.Effects.{ChangesNode}
use Rattle.vx_events.specs.LinkedFacts.{linked_fact}
use Rattle.vx_events.specs.StepsOver.{facts_over}
use Rattle.vx_events.specs.declared.said.Said.{Said}
use Rattle.vx_events.specs.declared.said.Said.TheVariants.{Done, Refused}
use Rattle.vx_effects.proofs.Effects.{changes_same}
use Rattle.vx_effects.proofs.Facts.{facts_at, halted_is, over_apart, over_same}
use Rattle.vx_effects.proofs.Leaving.{fit_crashed_as, fit_halved}
use Rattle.vx_effects.specs.Facts.{fact_of, halted_fact, halted_group as halted_there, halted_group, over_of, down_fact}
use Rattle.vx_diskset.proofs.Roles.{role_like}
use Rattle.vx_model.specs.Sites.{is_origin}
use Rattle.vx_yard.specs.Carries.{Carries}
use Rattle.vx_yard.specs.Changes.{halted_facts}
use Rattle.vx_link_lines.specs.Headed.{CutFor, FullFor, HeadedIs, NextFor, NotesAt, behind, noted_by}
use Rattle.vx_yard.specs.Standing.{IsSameSite, StandsFor, BeginsFirst}
use Rattle.vx_yard.specs.Writes.{noted_facts}
use Rattle.vx_yard.specs.Yards.{IsTold}
use Rattle.vx_yard.specs.declared.yard.Yard.{Yard}
use Rattle.vx_yard.proofs.ApplySite.{calls_keep}
use Rattle.vx_yard.proofs.Carrying.{LetsGo, LetsGoBy, SameLoad, carries_let, carries_node, carries_same}
use Rattle.vx_yard.proofs.CrashLine.{rose_still}
use Rattle.vx_yard.proofs.CrashSite.{down_up}
use Rattle.vx_yard.proofs.FailsStay.{fails_then}
use Rattle.vx_yard.proofs.FuseStays.{fused_none, fused_on, left_passed}
use Rattle.vx_effects.proofs.Halves.{stopped}
use Rattle.vx_link_lines.proofs.HeaderCalls.{Answered, IsHeader, in_doubt, over_body}
use Rattle.vx_linked.proofs.Heard.{site_apart}
use Rattle.vx_events.specs.GroupLines.{is_over_group}
use Rattle.vx_link_lines.proofs.HeadedWorlds as worlds
use Rattle.vx_link_lines.proofs.HeadedWorlds.{stopped_noted}
use Rattle.vx_yard.proofs.Lists.{get-set_same, set_same}
use Rattle.vx_yard.proofs.OneSite.{Changed, role_off, rose_at, told_by}
use Rattle.vx_yard.proofs.OverGroup.{begins_apart, none_over, noted_none}
use Rattle.vx_yard.proofs.RawSites.{raw_site, raw_told}
use Rattle.vx_link_lines.proofs.Turned.{stands_turned}

group_halted : (disk : ℕ) (o : Option RvgFacts) → halted_group disk o ≡ halted_there disk o
group_halted disk None = refl
group_halted disk (Some rvg) = refl

-- the facts of a world that differs at one site
facts_there : (d e : Doubted) (s : ℕ) (n : Node) (row : ℕ → Link) → ChangesNode s d e → s < d.world.sites → is_over_group n ≡ false → e.world.nodes s ≡ n → ((k : ℕ) → e.world.links s k ≡ row k)
    → facts_over e.world ≡ slice_set (facts_over d.world) s (fact_of n row d.world.sites)
facts_there d e s n row changes below alone node links =
    facts_at s d e changes below
    ∙ ap (slice_set (facts_over d.world) s)
    (ap (λ (m : Node). over_of m (e.world.links s) e.world.sites) node ∙ ap (λ (k : ℕ). over_of n (e.world.links s) k) changes.sites ∙ over_same n row (e.world.links s) d.world.sites links
    ∙ over_apart n row d.world.sites alone)

-- a site that went down shows nothing of what a header says
abbrev down_with : (n : Node) (row : ℕ → Link) (sites : ℕ) → (name : List ℕ) → (disks blocks : ℕ) → List Volume → Option GroupNode → SiteFacts
down_with n row sites name disks blocks volumes group =
    down_fact (fact_of (let k : Node = record n { name = name; disks = disks; blocks = blocks; volumes = volumes; group = group } in k) row sites)

down_alike : (n m : Node) (a b : ℕ → Link) (sites : ℕ) → m.name ≡ n.name → m.disks ≡ n.disks → m.blocks ≡ n.blocks → m.volumes ≡ n.volumes → m.group ≡ n.group
    → down_fact (fact_of m b sites) ≡ down_fact (fact_of n a sites)
down_alike n m a b sites name disks blocks volumes group =
    ap (λ (x : List ℕ). down_with n a sites x m.disks m.blocks m.volumes m.group) name
    ∙ ap (λ (x : ℕ). down_with n a sites n.name x m.blocks m.volumes m.group) disks
    ∙ ap (λ (x : ℕ). down_with n a sites n.name n.disks x m.volumes m.group) blocks
    ∙ ap (λ (x : List Volume). down_with n a sites n.name n.disks n.blocks x m.group) volumes
    ∙ ap (λ (x : Option GroupNode). down_with n a sites n.name n.disks n.blocks n.volumes x) group

module _ {R : Type 0} {g : Ghosts R} (note : (ℕ → Node) → ℕ → Node) (s : ℕ) (notes : NotesAt s note) (d : Doubted) (e : Event) (m : Node) (ls : List KeptLink) (gathered : Option Gathering)
    (h : IsHeader d e s m ls gathered) (old new : Yard R g) (before after : DiskSet R g) (stands : StandsFor (noted_by note d) old) (below : s < d.world.sites) (changed : Changed old new s before after) where
  abbrev n : Node
  n = d.world.nodes s

  abbrev start : Doubted
  start = noted_by note d

  told_then : IsTold new → IsTold old
  told_then told = told_by old new s before after changed told

  here : start.world.nodes s ≡ worked n
  here = notes.here d.world.nodes

  stood : SiteStands (beside_of d s) (worked n) before
  stood = subst (λ (k : Node). SiteStands (beside_of d s) k before) here (stands.disk_sets.sites s before below changed.there)

  failed : FailsAs (worked n) before
  failed = subst (λ (k : Node). FailsAs k before) here (stands.failing s before below changed.there)

  lit : FusedAs (worked n) before
  lit = subst (λ (k : Node). FusedAs k before) here (stands.fuses s before below changed.there)

  fails_still : (k : Node) (said : Said) → k.failing ≡ n.failing → LeavesFuse NoMore said before after → FailsAs k after
  fails_still k said same calls = fails_then (worked n) k before after same (calls_keep NoMore said before after calls) failed

  fuse_still : (k : Node) (said : Said) → k.fuse ≡ burned n.fuse → ((x y : Disks) → Burnt NoMore said (size_in before) x y → Passed x y) → LeavesFuse NoMore said before after → FusedAs k after
  fuse_still k said same passed calls =
      fused_on (Burnt NoMore said (size_in before)) (worked n) k (burned n.fuse) before after same
      (λ x y burns left. subst (λ q. LeftAs q y.fuse) (burned_twice n.fuse) (left_passed (burned n.fuse) x.fuse y.fuse (passed x y burns).fuse left)) calls.told lit

  small : s < MOST_SITES
  small = omega (arith, below, stands.disk_sets.few)

  -- ---- it is done

  pub headed_done : RoleIs m after → Answered CrashedAt (beside_of d s) (worked n) (worked m) ls before after (Ok tt) → LeavesFuse NoMore Done before after → new.facts.items ≡ facts_over (behind d e).world
      → (Carries start old → Carries (noted_by note (behind d e)) new) → NextFor [] start (noted_by note (behind d e)) old new
  headed_done kind is calls facts carries =
      let w = worlds.done_effect note s notes d e m h.row ls gathered h.effect h.kept h.sure in
      let to : Doubted = noted_by note (behind d e) in
      let there : worked m ≡ to.world.nodes s = sym w.is.node in
      record {
        stands = stands_turned start to old new s before after stands below changed
            (record {
              changes = w.site;
              links = notes.fits (behind d e) h.fits;
              stands = subst (λ (k : Node). SiteStands (beside_of to s) k after) there
                  (subst (λ (b : KeptBeside). SiteStands b (worked m) after) (sym (worlds.done_beside note s notes d e m h.row ls gathered h.effect h.kept h.sure))
                  (subst (λ (k : Node). SiteStands (record { links = ls; headers = d.world.headers s + 1; doubt = None }) k after) (worked_twice m) is));
              failing = subst (λ (k : Node). FailsAs k after) there (fails_still (worked m) Done h.like.failing calls);
              fuse = subst (λ (k : Node). FusedAs k after) there (fuse_still (worked m) Done (ap burned h.like.fuse) (λ x y burns. burns) calls);
              role = subst (λ (k : Node). RoleIs k after) there (role_like m (worked m) after refl kind);
            })
            (λ _. subst (λ (k : Node). BeginsFirst s k) there
            (begins_apart s (record { links = ls; headers = d.world.headers s + 1; doubt = None }) (worked m) after
            (subst (λ (k : Node). SiteStands (record { links = ls; headers = d.world.headers s + 1; doubt = None }) k after) (worked_twice m) is) (over_body n m h.like ∙ none_over n h.none)))
            (λ _. noted_none (record { links = ls; headers = d.world.headers s + 1; doubt = None }) (worked (worked m)) (to.world.nodes s) after is (h.like.group ∙ h.none))
            (facts ∙ sym (notes.shows (behind d e).world))
            (λ a is. absurd (never_some (sym (w.is.after ∙ h.sure) ∙ is)));
        carries = carries;
        rose = rose_still old new s before after changed.there changed.later changed.disk_sets;
      }

  -- ---- it was refused

  -- the facts of the site as a refusal leaves them
  noted_there : (why : No) (x x' : SiteFacts) → slice_get old.facts.items s ≡ Some x → x' ≡ noted_facts why x → new.facts.items ≡ slice_set old.facts.items s x'
      → new.facts.items ≡ slice_set (facts_over start.world) s (noted_facts why (linked_fact start.world s))
  noted_there why x x' at is facts =
      let shown : slice_get (facts_over start.world) s ≡ Some x = ap (λ (fs : List SiteFacts). slice_get fs s) (sym stands.facts) ∙ at in
      let same : x ≡ linked_fact start.world s = some_same (sym shown ∙ site_apart start.world s below (ap is_over_group here ∙ none_over n h.none)) in
      facts ∙ ap (λ (fs : List SiteFacts). slice_set fs s x') stands.facts ∙ ap (slice_set (facts_over start.world) s) (is ∙ ap (noted_facts why) same)

  -- a disk failed in it
  pub headed_halts : RoleIs n after → (disk : ℕ) (x x' : SiteFacts) → Answered CrashedAt (beside_of d s) (worked n) (worked m) ls before after (Err (Device disk)) → LeavesFuse NoMore (Refused (Device disk)) before after
      → slice_get old.facts.items s ≡ Some x → x' ≡ halted_facts disk x → new.facts.items ≡ slice_set old.facts.items s x' → SameLoad old new
      → NextFor ((s, disk) ∷ []) start (noted_by note (halved d e s disk)) old new
  headed_halts kind disk x x' is calls at noted facts load =
      let w = worlds.halted_effect note s notes d e m h.row ls gathered h.effect h.kept h.sure disk in
      let to : Doubted = noted_by note (halved d e s disk) in
      let there : stopped n disk ≡ to.world.nodes s = sym w.is.node in
      let may = worlds.may_node note s notes d e m h.row ls gathered h.effect h.kept h.sure disk in
      record {
        stands = stands_turned start to old new s before after stands below changed
            (record {
              changes = w.site;
              links = notes.fits (halved d e s disk) (fit_halved d e s disk h.opens h.writes h.sets h.fits_before);
              stands = subst (λ (k : Node). SiteStands (beside_of to s) k after) there
                  (subst (λ (b : KeptBeside). SiteStands b (stopped n disk) after) (sym (worlds.halted_beside note s notes d e m h.row ls gathered h.effect h.kept h.sure disk))
                  (subst (λ (k : Node). SiteStands (in_doubt (beside_of d s) (worked m) ls disk) k after) (stopped_noted n disk) is.0));
              failing = subst (λ (k : Node). FailsAs k after) there (fails_still (stopped n disk) (Refused (Device disk)) refl calls);
              fuse = subst (λ (k : Node). FusedAs k after) there (fuse_still (stopped n disk) (Refused (Device disk)) refl (λ x y burns. burns) calls);
              role = subst (λ (k : Node). RoleIs k after) there (role_like n (stopped n disk) after refl kind);
            })
            (λ _. subst (λ (k : Node). BeginsFirst s k) there
            (begins_apart s (in_doubt (beside_of d s) (worked m) ls disk) (stopped n disk) after
            (subst (λ (k : Node). SiteStands (in_doubt (beside_of d s) (worked m) ls disk) k after) (stopped_noted n disk) is.0) (none_over n h.none)))
            (λ _. noted_none (in_doubt (beside_of d s) (worked m) ls disk) (halted_at (worked n) disk) (to.world.nodes s) after is.0 h.none)
            (noted_there (Device disk) x x' at noted facts
            ∙ ap (λ (o : Option RvgFacts). slice_set (facts_over start.world) s (let y : SiteFacts = record (linked_fact start.world s) { rvg = o } in y)) (group_halted disk (linked_fact start.world s).rvg)
            ∙ ap (slice_set (facts_over start.world) s)
            (ap (λ (k : Node). halted_fact disk (fact_of k (d.world.links s) d.world.sites)) here
            ∙ sym (halted_is (worked n) (d.world.links s) d.world.sites disk) ∙ ap (λ (k : Node). fact_of k (d.world.links s) d.world.sites) (stopped_noted n disk))
            ∙ sym (facts_there start to s (stopped n disk) (d.world.links s) w.site below (none_over n h.none) w.is.node w.is.links))
            (λ a some.
            let same : after_of d e s disk ≡ a = some_same (sym w.is.after ∙ some) in
            subst (λ (b : After). IsSameSite (to.world.nodes s) b.node) same
            (subst (λ (k : Node). IsSameSite k (after_of d e s disk).node) there
            (subst (λ (k : Node). IsSameSite (stopped n disk) k) (sym may) (record { name = h.like.name; disks = h.like.disks; blocks = h.like.blocks; volumes = h.like.volumes }))));
        carries = carries_node s start to (stopped n disk) old new load w.site w.sent w.gathering w.is.node (sym (ap (λ (k : Node). k.state) here)) (sym (ap (λ (k : Node). k.role) here))
            (sym (ap (λ (k : Node). k.fed_by) here)) told_then;
        rose = rose_at old new s disk before after changed is.1;
      }

  -- no number is left for it
  pub headed_full : RoleIs n after → (what : Counted) (most : ℕ) (x x' : SiteFacts) → Answered CrashedAt (beside_of d s) (worked n) (worked m) ls before after (Err (Limit what most)) → LeavesFuse NoMore (Refused (Limit what most)) before after
      → slice_get old.facts.items s ≡ Some x → x' ≡ x → new.facts.items ≡ slice_set old.facts.items s x' → SameLoad old new → FullFor note d s (Limit what most) old new
  headed_full kind what most x x' is calls at noted facts load =
      record {
        is = is.0;
        least = λ told. is.1 (raw_told after (raw_site (beside_of d s) (worked n) after h.none is.2)
            (told.each s after (ap (λ es. slice_get es s) changed.disk_sets ∙ get-set_same old.disk_sets.items s after (worlds.within old.disk_sets.items s before changed.there))));
        next = record {
          stands = stands_turned start start old new s before after stands below changed
              (record {
                changes = changes_same s start;
                links = stands.links;
                stands = subst (λ (k : Node). SiteStands (beside_of d s) k after) (sym here) is.2;
                failing = subst (λ (k : Node). FailsAs k after) (sym here) (fails_still (worked n) (Refused (Limit what most)) refl calls);
                fuse = subst (λ (k : Node). FusedAs k after) (sym here) (fuse_still (worked n) (Refused (Limit what most)) refl (λ x y burns. burns) calls);
                role = role_like n (start.world.nodes s) after (ap (λ (k : Node). is_origin k.role) here) kind;
              })
              (λ first. first) (λ _. noted_none (beside_of d s) (worked n) (start.world.nodes s) after is.2 h.none)
              (facts ∙ ap (slice_set old.facts.items s) noted ∙ set_same old.facts.items s x at ∙ stands.facts)
              (λ a some. absurd (never_some (sym h.sure ∙ some)));
          carries = carries_same start old new load told_then;
          rose = rose_still old new s before after changed.there changed.later changed.disk_sets;
        };
      }

  -- its fuse ran out in it
  pub headed_cut : (x x' : SiteFacts) → Answered CrashedAt (beside_of d s) (worked n) (worked m) ls before after (Err Off) → LeavesFuse NoMore (Refused Off) before after → slice_get old.facts.items s ≡ Some x → x' ≡ down_fact x
      → new.facts.items ≡ slice_set old.facts.items s x' → LetsGo old new s → CutFor note d e s old new
  headed_cut x x' is calls at noted facts lets =
      ⊎_elim (λ own. itself_by is.1.kept own is.1.count is.1.least is.1.most is.1.stands) (λ other. doubt_by is.1.kept other is.1.count is.1.least is.1.most is.1.stands) is.1.is
    where
      by : (count : ℕ) (taken : Bool) (k : Node) (links : ℕ → Link) (ks : List KeptLink) (node_is : (resolved_at (halved d e s 0) s taken).world.nodes s ≡ k)
          (row_is : (j : ℕ) → (resolved_at (halved d e s 0) s taken).world.links s j ≡ links j) (links_are : row_links links d.world.sites ≡ ks) (least : k.safe ≤ count) (most : count ≤ length k.log)
          → k.group ≡ None → k.state ≡ IsUp → k.failing ≡ n.failing → down_fact (fact_of k links d.world.sites) ≡ down_fact (fact_of n links d.world.sites)
          → SiteStands (record { links = ks; headers = d.world.headers s + 1; doubt = None }) (crashed k count) after → CutFor note d e s old new
      by count taken k links ks node_is row_is links_are least most none up failing shown stood_there =
          let alone : is_over_group k ≡ false = none_over k none in
          let to : Doubted = noted_by note (crashed_as (halved d e s 0) s count taken) in
          let changes = worlds.fell_changes note s notes d e m h.row ls gathered h.effect h.kept h.sure count taken k links ks node_is row_is links_are least most in
          let node = worlds.fell_node note s notes d e m h.row ls gathered h.effect h.kept h.sure count taken k links ks node_is row_is links_are least most in
          let there : crashed k count ≡ to.world.nodes s = sym node in
          let half_up : ((halved d e s 0).world.nodes s).state ≡ IsUp = ap (λ (q : Node). q.state) (at_place d.world.nodes s (stopped n 0)) ∙ h.opens.0 in
          record {
            fused = fused_before n.fuse is.0;
            kept = count;
            taken = taken;
            next = record {
              stands = stands_turned start to old new s before after stands below changed
                  (record {
                    changes = changes;
                    links = notes.fits (crashed_as (halved d e s 0) s count taken) (fit_crashed_as (halved d e s 0) s count taken half_up (fit_halved d e s 0 h.opens h.writes h.sets h.fits_before));
                    stands = subst (λ (q : Node). SiteStands (beside_of to s) q after) there
                        (subst (λ (b : KeptBeside). SiteStands b (crashed k count) after) (sym (worlds.fell_beside note s notes d e m h.row ls gathered h.effect h.kept h.sure count taken k links ks node_is row_is links_are least most)) stood_there);
                    failing = subst (λ (q : Node). FailsAs q after) there (fails_still (crashed k count) (Refused Off) failing calls);
                    fuse = subst (λ (q : Node). FusedAs q after) there (fused_none (crashed k count) after refl);
                    role = role_off (record { links = ks; headers = d.world.headers s + 1; doubt = None }) (crashed k count) (to.world.nodes s) after stood_there (λ is_up. down_up is_up);
                  })
                  (λ _. subst (λ (q : Node). BeginsFirst s q) there
                  (begins_apart s (record { links = ks; headers = d.world.headers s + 1; doubt = None }) (crashed k count) after stood_there alone))
                  (λ _. noted_none (record { links = ks; headers = d.world.headers s + 1; doubt = None }) (crashed k count) (to.world.nodes s) after stood_there none)
                  (noted_there Off x x' at noted facts
                  ∙ ap (λ (q : Node). slice_set (facts_over start.world) s (down_fact (fact_of q (d.world.links s) d.world.sites))) here
                  ∙ ap (slice_set (facts_over start.world) s) (sym shown)
                  ∙ sym (facts_there start to s (crashed k count) (to.world.links s) changes below alone node (λ j. refl)))
                  (λ a some. absurd (never_some (sym (worlds.fell_sure note s notes d e m h.row ls gathered h.effect h.kept h.sure count taken k links ks node_is row_is links_are least most) ∙ some)));
              carries = carries_let s start to old new lets small changes (worlds.fell_sent note s notes d e m h.row ls gathered h.effect h.kept h.sure count taken k links ks node_is row_is links_are least most)
                  (worlds.fell_gathering note s notes d e m h.row ls gathered h.effect h.kept h.sure count taken k links ks node_is row_is links_are least most) (λ is_up. down_up (sym (ap (λ (q : Node). q.state) node) ∙ is_up)) told_then;
              rose = rose_still old new s before after changed.there changed.later changed.disk_sets;
            };
          }

      itself_by : (q : KeptSite) → q ≡ itself (in_doubt (beside_of d s) (worked m) ls 0) (halted_at (worked n) 0) → (count : ℕ) → q.node.safe ≤ count → count ≤ length q.node.log → SiteStands (sure_of q) (fell_to (halted_at (worked n) 0) q.node count) after
          → CutFor note d e s old new
      itself_by q own =
          subst (λ (y : KeptSite). (count : ℕ) → y.node.safe ≤ count → count ≤ length y.node.log → SiteStands (sure_of y) (fell_to (halted_at (worked n) 0) y.node count) after → CutFor note d e s old new) (sym own)
          (λ count least most stood_there.
          by count false (stopped n 0) (d.world.links s) (header_links d.world s) (worlds.own_node note s notes d e m h.row ls gathered h.effect h.kept h.sure) (λ j. refl) refl least most h.none h.opens.0 refl refl stood_there)

      doubt_by : (q : KeptSite) → (in_doubt (beside_of d s) (worked m) ls 0).doubt ≡ Some q → (count : ℕ) → q.node.safe ≤ count → count ≤ length q.node.log → SiteStands (sure_of q) (fell_to (halted_at (worked n) 0) q.node count) after → CutFor note d e s old new
      doubt_by q other =
          subst (λ (y : KeptSite). (count : ℕ) → y.node.safe ≤ count → count ≤ length y.node.log → SiteStands (sure_of y) (fell_to (halted_at (worked n) 0) y.node count) after → CutFor note d e s old new) (some_same other)
          (λ count least most stood_there.
          by count true (stopped m 0) h.row ls (worlds.other_node note s notes d e m h.row ls gathered h.effect h.kept h.sure) (worlds.other_row note s notes d e m h.row ls gathered h.effect h.kept h.sure) h.kept least most (h.like.group ∙ h.none) (h.like.state ∙ h.opens.0) h.like.failing
          (down_alike n (stopped m 0) (d.world.links s) h.row d.world.sites h.like.name h.like.disks h.like.blocks h.like.volumes h.like.group)
          (subst (λ (o : Option GroupNode). SiteStands (record { links = ls; headers = d.world.headers s + 1; doubt = None }) (let y : Node = record (crashed (stopped m 0) count) { group = o } in y) after) (sym h.like.group) stood_there))

  -- by what was answered
  pub headed_refused : RoleIs n after → (why : No) (x x' : SiteFacts) → Answered CrashedAt (beside_of d s) (worked n) (worked m) ls before after (Err why) → LeavesFuse NoMore (Refused why) before after → slice_get old.facts.items s ≡ Some x
      → x' ≡ noted_facts why x → new.facts.items ≡ slice_set old.facts.items s x' → LetsGoBy why old new s → HeadedIs note d e s old new (Err why)
  headed_refused kind (Device disk) x x' is calls at noted facts lets =
      (is.2, headed_halts kind disk x x' is calls at noted facts (record { flight = lets.flight; assemblies = lets.assemblies; feeders = lets.feeders }))
  headed_refused kind (Limit what most) x x' is calls at noted facts lets =
      headed_full kind what most x x' is calls at noted facts (record { flight = lets.flight; assemblies = lets.assemblies; feeders = lets.feeders })
  headed_refused kind Off x x' is calls at noted facts lets = headed_cut x x' is calls at noted facts (record { flight = lets.flight; assemblies = lets.assemblies; feeders = lets.feeders })
  headed_refused kind other x x' is calls at noted facts lets = absurd is
