-- A yard in which a site came up with the links that the header of its log keeps.
use Rattle.std.proofs.Common.{◌≡◌, ◌∙◌, ◌<◌, ◌++◌, ℕ, suc, Bool, true, false, List, [], ◌∷◌, length, map, ap, sym, subst, refl, ⊎_elim}
use Rattle.std.specs.Prelude.{Option, Some, None, drop, ◌&&◌, if◌then◌else◌, slice_get, slice_set}
use Rattle.std.proofs.lemmas.Bool.{cases_eq}
use Rattle.vx_model.specs.Sites.{is_origin}
use Rattle.vx_model.specs.declared.link.Mode.{Mode}
use Rattle.vx_model.specs.declared.link.Mode.TheVariants.{Log, Dcm, Replay, Fork, Stale}
use Rattle.vx_model.specs.declared.site.SiteState.{SiteState}
use Rattle.vx_model.specs.declared.site.SiteState.TheVariants.{Up}
use Rattle.vx_model.specs.declared.state.KeptLink.{KeptLink}
use Rattle.vx_model.specs.declared.state.State.{State}
use Rattle.vx_courier.proofs.Joining.{stands_later}
use Rattle.vx_courier.specs.Together.{AssemblyStands}
use Rattle.vx_courier.specs.UnderWay.{FlightStands}
use Rattle.vx_disk.specs.declared.shelf.Shelf.{Ghosts}
use Rattle.vx_diskset.specs.Asked.{FailsAs, FusedAs}
use Rattle.vx_diskset.specs.Holds.{KeptBeside, beside_of, row_links, state_with}
use Rattle.vx_diskset.specs.Stands.{RoleIs, SiteStands}
use Rattle.vx_diskset.specs.declared.disk_set.DiskSet.{DiskSet}
use Rattle.vx_history.specs.Doubts.{Doubted}
use Rattle.vx_history.specs.Events.{linked_sites, logged_blocks, recovery_greeting}
use Rattle.vx_history.specs.KeptLinks.{kept_link, kept_links}
use Rattle.vx_history.specs.Sends.{is_linked, packets_of}
use Rattle.vx_history.specs.World.{Gathering, Hello, Link, Node, Packet}
use Rattle.vx_effects.proofs.Restarts.{row_facts}
use Rattle.vx_effects.specs.Restarts.{IsAgain, fact_again, facts_again, needs_of}
use Rattle.vx_events.proofs.LinkTesting.{AllLinked, all_linked}
use Rattle.vx_events.proofs.Places.{never_some, some_same}
use Rattle.vx_events.specs.Effects.{EffectAt}
use Rattle.vx_events.specs.Facts.{group_by, group_fact, volume_fact}
use Rattle.vx_events.specs.LinkedFacts.{link_facts, links_by, needed_by}
use Rattle.vx_events.specs.LinksFit.{LinksFit, is_plain_mode}
use Rattle.vx_order.specs.declared.facts.LinkFacts.{LinkFacts}
use Rattle.vx_order.specs.declared.facts.RvgFacts.{RvgFacts}
use Rattle.vx_order.specs.declared.facts.SiteFacts.{SiteFacts}
use Rattle.vx_order.specs.declared.facts.VolumeFacts.{VolumeFacts}
use Rattle.vx_yard.specs.Carries.{Carries}
use Rattle.vx_yard.specs.Changes.{up_group}
use Rattle.vx_site_lines.specs.Rises.{AreNeeds, hello_by, link_needs, risen_facts}
use Rattle.vx_yard.specs.Standing.{StandsFor}
use Rattle.vx_yard.specs.declared.yard.Yard.{Yard}
use Rattle.vx_yard.proofs.Carrying.{feeds_same}
use Rattle.vx_yard.proofs.CrashSite.{beside_sure}
use Rattle.vx_yard.proofs.Lists.{get-set_other, get-set_same, length-set}
use Rattle.vx_yard.proofs.OneSite.{Changed, Comes, stands_at, told_by}
use Rattle.vx_yard.proofs.Rows.{fact_from, fact_same, row_links_same}
use Rattle.vx_above.proofs.SeenSites.{IsWhole, group_seen}
use Rattle.vx_site_lines.proofs.Apart.{fact_at, over_is, seen_alone}
use Rattle.vx_diskset.proofs.GroupStands.{none_apart}
use Rattle.vx_yard.proofs.OverGroup.{begins_apart, noted_none}

-- each of these links goes by the log, or by nothing yet
abbrev pub AllPlain : (ℕ → Link) → Type 0
AllPlain row = (s : ℕ) → is_linked (row s) ≡ true → is_plain_mode (row s).mode ≡ true

-- ---- what its links need of its log

need_in : (n : Node) (s : ℕ) (l : Link) (m : Mode) → l.mode ≡ m → is_plain_mode m ≡ true → needed_by n s l ≡ link_needs n (kept_link s l)
need_in n s l Log e plain =
    let with_mode : Mode → Link = λ m. record l { mode = m } in
    ap (λ (m : Mode). needed_by n s (with_mode m)) e
    ∙ sym (ap (λ (m : Mode). link_needs n (kept_link s (with_mode m))) e)
need_in n s l Dcm e plain = absurd (cc)
need_in n s l (Replay id phase left start end) e plain = absurd (cc)
need_in n s l (Fork maps) e plain = absurd (cc)
need_in n s l Stale e plain =
    let with_mode : Mode → Link = λ m. record l { mode = m } in
    ap (λ (m : Mode). needed_by n s (with_mode m)) e ∙ none l.attached (logged_blocks (drop l.stored n.log)) ∙ sym (none l.attached _)
    ∙ sym (ap (λ (m : Mode). link_needs n (kept_link s (with_mode m))) e)
  where
    none : (b : Bool) (k : ℕ) → (if b && false then k else 0) ≡ 0
    none true k = refl
    none false k = refl

module _ (n : Node) (row : ℕ → Link) (plain : AllPlain row) where
  -- in the places of links that a header keeps stands what they need
  again_used : (ss : List ℕ) (used : List ℕ) → AllLinked row ss → ((k : ℕ) (l : KeptLink) → slice_get (kept_links row ss) k ≡ Some l → slice_get used k ≡ Some (link_needs n l))
      → facts_again (kept_links row ss) used ≡ facts_again (kept_links row ss) (needs_of n row ss)
  again_used [] used all needs = refl
  again_used (s ∷ ss) [] all needs = absurd (never_some (needs 0 (kept_link s (row s)) refl))
  again_used (s ∷ ss) (u ∷ us) all needs =
      let here : u ≡ link_needs n (kept_link s (row s)) = some_same (needs 0 (kept_link s (row s)) refl) in
      ap (λ (k : ℕ). fact_again (kept_link s (row s)) k ∷ facts_again (kept_links row ss) us) (here ∙ sym (need_in n s (row s) (row s).mode refl (plain s all.0)))
      ∙ ap (λ (ls : List LinkFacts). fact_again (kept_link s (row s)) (needed_by n s (row s)) ∷ ls) (again_used ss us all.1 (λ k l at. needs (suc k) l at))

  pub risen_links : (sites : ℕ) (used : List ℕ) → IsAgain row → AreNeeds n (row_links row sites) used
      → facts_again (row_links row sites) used ≡ link_facts n row (linked_sites row sites 0 sites)
  risen_links sites used again needs =
      again_used (linked_sites row sites 0 sites) used (all_linked row sites 0 sites) needs.each ∙ sym (row_facts n row sites again)

-- ---- what the tests see

-- the facts of a site with the disks of this one
pub record SeesDisks (n : Node) (f : SiteFacts) : Type 0 where
  pub name : f.name ≡ n.name
  pub disks : f.disks ≡ n.disks
  pub blocks : f.blocks ≡ n.blocks
  pub grouped : f.grouped ≡ false
  pub volumes : f.volumes ≡ map volume_fact n.volumes

abbrev facts_with : (name : List ℕ) (disks blocks : ℕ) → (grouped : Bool) → List VolumeFacts → SiteState → Option RvgFacts → List LinkFacts → SiteFacts
facts_with name disks blocks grouped volumes state rvg links = record { name = name; state = state; disks = disks; blocks = blocks; grouped = grouped; volumes = volumes; rvg = rvg; links = links }

pub risen_fact_is : (k : Node) (row : ℕ → Link) (sites ring : ℕ) (used : List ℕ) (f : SiteFacts) → k.group ≡ None → IsWhole k ring → SeesDisks k f → AllPlain row → IsAgain row
    → AreNeeds k (row_links row sites) used → risen_facts (state_with k (row_links row sites)) k.safe ring used f ≡ fact_from k row sites
risen_fact_is k row sites ring used f none w sees plain again needs =
    let state : State = state_with k (row_links row sites) in
    let links : List LinkFacts = link_facts k row (linked_sites row sites 0 sites) in
    ap (λ (x : List ℕ). facts_with x f.disks f.blocks f.grouped f.volumes Up (Some (up_group state k.safe ring)) (facts_again (row_links row sites) used)) sees.name
    ∙ ap (λ (x : ℕ). facts_with k.name x f.blocks f.grouped f.volumes Up (Some (up_group state k.safe ring)) (facts_again (row_links row sites) used)) sees.disks
    ∙ ap (λ (x : ℕ). facts_with k.name k.disks x f.grouped f.volumes Up (Some (up_group state k.safe ring)) (facts_again (row_links row sites) used)) sees.blocks
    ∙ ap (λ (x : Bool). facts_with k.name k.disks k.blocks x f.volumes Up (Some (up_group state k.safe ring)) (facts_again (row_links row sites) used)) sees.grouped
    ∙ ap (λ (x : List VolumeFacts). facts_with k.name k.disks k.blocks false x Up (Some (up_group state k.safe ring)) (facts_again (row_links row sites) used)) sees.volumes
    ∙ ap (λ (x : RvgFacts). facts_with k.name k.disks k.blocks false (map volume_fact k.volumes) Up (Some x) (facts_again (row_links row sites) used)) (group_seen k ring (row_links row sites) w)
    ∙ ap (λ (x : List LinkFacts). facts_with k.name k.disks k.blocks false (map volume_fact k.volumes) Up (Some (group_fact k)) x) (risen_links k row plain sites used again needs)
    ∙ sym (ap (λ (t : SiteState). facts_with k.name k.disks k.blocks false (map volume_fact k.volumes) t (group_by t k) (links_by t links)) w.up)
    ∙ sym (ap (λ (x : SiteFacts). let seen : SiteFacts = record x { links = links_by k.state links } in seen) (seen_alone k none))

-- ---- what it sends

pub risen_hello : (s session last : ℕ) (k : Node) (ls : List KeptLink) → session ≡ k.session → last ≡ k.safe → length k.log ≡ k.safe
    → hello_by s (state_with k ls) session last ≡ recovery_greeting s k
risen_hello s session last k ls session_is last_is whole =
    ap (λ (x : ℕ). hello_by s (state_with k ls) x last) session_is ∙ ap (λ (x : ℕ). hello_by s (state_with k ls) k.session x) last_is
    ∙ ap (λ (x : ℕ). if is_origin k.role then [] else packets_of s k.other k.line (Hello k.session x k.safe)) (sym whole)

-- ---- the yard

module _ {R : Type 0} {g : Ghosts R} where
  -- A site of this world is now this node with these links, which its disk set stands for.
  pub record ComesUp (mid e : Doubted) (s ring : ℕ) (k : Node) (row : ℕ → Link) (after : DiskSet R g) : Type 0 where
    pub effect : EffectAt s mid e k row (mid.world.headers s) None (mid.world.packets ++ recovery_greeting s k) (mid.world.gathering s)
    pub fits : LinksFit e
    pub plain : AllPlain row
    pub again : IsAgain row
    pub whole : IsWhole k ring
    pub none : k.group ≡ None
    pub rests : k.fed_by ≡ k.other
    pub stands : SiteStands (record { links = row_links row mid.world.sites; headers = mid.world.headers s; doubt = None }) k after
    pub failing : FailsAs k after
    pub fuse : FusedAs k after
    pub role : RoleIs k after

  module _ (mid e : Doubted) (old new : Yard R g) (s ring : ℕ) (k : Node) (row : ℕ → Link) (f : SiteFacts) (state : State) (used : List ℕ) (before after : DiskSet R g)
      (stands : StandsFor mid old) (below : s < mid.world.sites) (changed : Changed old new s before after) (up : ComesUp mid e s ring k row after) (sees : SeesDisks k f)
      (is : state ≡ state_with k (row_links row mid.world.sites)) (needs : AreNeeds k (row_links row mid.world.sites) used) where
    comes : Comes mid e s after
    comes =
        let beside : KeptBeside = record { links = row_links row mid.world.sites; headers = mid.world.headers s; doubt = None } in
        record {
          changes = up.effect.site;
          links = up.fits;
          stands = subst (λ (n : Node). SiteStands (beside_of e s) n after) (sym up.effect.is.node)
              (subst (λ (b : KeptBeside). SiteStands b k after)
              (sym (beside_sure e s (row_links row mid.world.sites) (mid.world.headers s)
              (row_links_same row (e.world.links s) up.effect.is.links e.world.sites ∙ ap (row_links row) up.effect.site.sites) up.effect.is.headers up.effect.is.after))
              up.stands);
          failing = subst (λ (n : Node). FailsAs n after) (sym up.effect.is.node) up.failing;
          fuse = subst (λ (n : Node). FusedAs n after) (sym up.effect.is.node) up.fuse;
          role = subst (λ (n : Node). RoleIs n after) (sym up.effect.is.node) up.role;
          doubt = λ was a there. absurd (never_some (sym up.effect.is.after ∙ there));
        }

    pub up_stands : new.facts.items ≡ slice_set old.facts.items s (risen_facts state k.safe ring used f) → StandsFor e new
    up_stands facts =
        stands_at mid e old new s (risen_facts state k.safe ring used f) before after stands below changed comes
        (λ _. begins_apart s (beside_of e s) (e.world.nodes s) after comes.stands (over_is k (e.world.nodes s) up.effect.is.node (none_apart k up.none)))
        (λ _. noted_none (beside_of e s) (e.world.nodes s) (e.world.nodes s) after comes.stands (ap (λ (n : Node). n.group) up.effect.is.node ∙ up.none))
        (fact_at e.world s (risen_facts state k.safe ring used f) (over_is k (e.world.nodes s) up.effect.is.node (none_apart k up.none))
        (ap (λ (x : State). risen_facts x k.safe ring used f) is ∙ risen_fact_is k row mid.world.sites ring used f up.none up.whole sees up.plain up.again needs
        ∙ sym (fact_same k (e.world.nodes s) row (e.world.links s) mid.world.sites e.world.sites up.effect.is.node up.effect.is.links up.effect.site.sites))) facts

    -- what it carries
    pub up_carries : (session last : ℕ) → session ≡ k.session → last ≡ k.safe → ((ps : List Packet) → FlightStands ps old.flight → FlightStands (ps ++ hello_by s state session last) new.flight)
        → new.assemblies ≡ old.assemblies → new.feeders.items ≡ slice_set old.feeders.items s state.other → s < length old.feeders.items → Carries mid old → Carries e new
    up_carries session last session_is last_is flight assemblies feeders inside carries = record {
      flight = subst (λ (ps : List Packet). FlightStands ps new.flight) (sym sent) (flight mid.world.packets carries.flight);
      places = ap (λ xs. length xs.items) assemblies ∙ carries.places;
      assemblies = λ told calm i a at.
          subst (λ (ps : List Packet). AssemblyStands ps i (e.world.gathering i) a) (sym sent)
          (stands_later mid.world.packets (hello_by s state session last) i (e.world.gathering i) a
          (subst (λ (o : Option Gathering). AssemblyStands mid.world.packets i o a) (sym (gathers i))
          (carries.assemblies (told_by old new s before after changed told) (up.effect.site.strayed calm) i a (sym (ap (λ xs. slice_get xs.items i) assemblies) ∙ at))));
      numbers = ap (λ (fs : List ℕ). length fs) feeders ∙ length-set old.feeders.items s state.other ∙ carries.numbers;
      feeders = λ i feeder at. ⊎_elim
          (λ (same : i ≡ s) is_up receives.
          let here : state.other ≡ feeder = some_same (sym (get-set_same old.feeders.items s state.other inside) ∙ ap (λ (j : ℕ). slice_get (slice_set old.feeders.items s state.other) j) (sym same) ∙ by i feeder at) in
          sym here ∙ ap (λ (x : State). x.other) is ∙ sym up.rests ∙ sym (ap (λ (n : Node). n.fed_by) (ap (λ (j : ℕ). e.world.nodes j) same ∙ up.effect.is.node)))
          (λ apart is_up receives.
          let was = (feeds_same (mid.world.nodes i) (e.world.nodes i) (up.effect.site.nodes i apart)).each is_up receives in
          carries.feeders i feeder (sym (get-set_other old.feeders.items s i state.other apart) ∙ by i feeder at) was.0 was.1 ∙ sym was.2)
          (cases_eq i s);
    }
      where
        sent : e.world.packets ≡ mid.world.packets ++ hello_by s state session last
        sent = up.effect.sent ∙ ap (λ (ps : List Packet). mid.world.packets ++ ps)
            (sym (ap (λ (x : State). hello_by s x session last) is ∙ risen_hello s session last k (row_links row mid.world.sites) session_is last_is up.whole.whole))

        gathers : (i : ℕ) → e.world.gathering i ≡ mid.world.gathering i
        gathers i = ⊎_elim (λ (same : i ≡ s). subst (λ (j : ℕ). e.world.gathering j ≡ mid.world.gathering j) (sym same) up.effect.gathering) (λ apart. up.effect.site.gathering i apart) (cases_eq i s)

        by : (i feeder : ℕ) → slice_get new.feeders.items i ≡ Some feeder → slice_get (slice_set old.feeders.items s state.other) i ≡ Some feeder
        by i feeder at = sym (ap (λ (fs : List ℕ). slice_get fs i) feeders) ∙ at
