-- A yard of which one site has another disk set, and other facts.
use Rattle.std.proofs.Common.{◌≡◌, ◌∙◌, ◌+◌, ◌<◌, ℕ, false, List, [], ◌∷◌, length, ap, sym, subst, refl, arith, ⊎_elim}
use Rattle.std.specs.Prelude.{Option, Some, None, slice_get, slice_set}
use Rattle.std.specs.Vec.{vec_capacity}
use Rattle.std.proofs.lemmas.Bool.{cases_eq}
use Rattle.std.proofs.lemmas.Option.{slice_get_within}
use Rattle.vx_history.specs.Doubts.{After, Doubted}
use Rattle.vx_history.specs.World.{Node, World}
use Rattle.vx_model.specs.declared.state.KeptLink.{KeptLink}
use Rattle.vx_disk.specs.declared.shelf.Shelf.{Ghosts}
use Rattle.vx_order.specs.declared.facts.SiteFacts.{SiteFacts}
use Rattle.vx_diskset.specs.Asked.{FailsAs, FusedAs}
use Rattle.vx_diskset.specs.DiskSets.{Later, RoseAt}
use Rattle.vx_diskset.specs.Holds.{KeptBeside, KeptSite, beside_of, doubt_of, row_links}
use Rattle.vx_diskset.specs.Stands.{KeepsRole, OverStands, RoleBy, RoleIs, SiteStands}
use Rattle.vx_diskset.specs.Aboves.{above_site}
use Rattle.vx_diskset.specs.declared.disk_set.DiskSet.{DiskSet}
use Rattle.vx_diskset.specs.declared.disk_set.DiskSet.TheVariants.{Bare, Spoiled, Up, Receives, Down, OfGroup, Over, Gone}
use Rattle.vx_diskset.specs.declared.over_set.OverSite.{OverSite}
use Rattle.vx_diskset.specs.declared.over_set.OverSite.TheVariants.{Origin as OriginSite, Receiver as ReceiverSite, Deported as OverAway, Down as OverFell, Gone as NoOver}
use Rattle.vx_diskset.specs.Noted.{NotedOver}
use Rattle.vx_model.specs.declared.site.SiteState.TheVariants.{Up as IsUp}
use Rattle.vx_events.specs.Effects.{ChangesNode}
use Rattle.vx_events.specs.Facts.{values_from}
use Rattle.vx_events.specs.GroupLines.{is_over_group}
use Rattle.vx_events.specs.LinkedFacts.{linked_fact}
use Rattle.vx_events.specs.StepsOver.{fact_over, facts_over}
use Rattle.vx_events.proofs.OverSeats.{fact_apart}
use Rattle.vx_events.specs.LinksFit.{LinksFit}
use Rattle.vx_events.proofs.Places.{some_same}
use Rattle.vx_events.proofs.Values.{slice_get-values_from}
use Rattle.vx_yard.specs.Stands.{AreTold, RoseAll, site_faults}
use Rattle.vx_yard.specs.Standing.{BeginsFirst, IsSameSite, SitesAgree, StandsFor}
use Rattle.vx_yard.specs.Yards.{IsTold, count_of}
use Rattle.vx_yard.specs.declared.yard.Yard.{Yard}
use Rattle.vx_yard.proofs.ChangeSite.{counts_later, counts_rose, rose_one, told_before}
use Rattle.vx_yard.proofs.Lists.{get-set_same, get-set_other, length-set, set_same, values_from-set}
use Rattle.vx_yard.proofs.OverGroup.{begins_apart}
use Rattle.vx_yard.proofs.Rows.{over_same, row_links_same}

-- ---- the sites that are as they were

pub doubt_same : (w v : World) (i : ℕ) → v.sites ≡ w.sites → v.headers i ≡ w.headers i → (o : Option After) → doubt_of v i o ≡ doubt_of w i o
doubt_same w v i sites headers None = refl
doubt_same w v i sites headers (Some a) =
    ap (λ (k : ℕ). Some (let x : KeptSite = record { node = a.node; links = row_links a.row k; headers = v.headers i } in x)) sites
    ∙ ap (λ (k : ℕ). Some (let x : KeptSite = record { node = a.node; links = row_links a.row w.sites; headers = k } in x)) headers

-- what the world has of a site beside its node
pub beside_same : (d e : Doubted) (i : ℕ) → e.world.sites ≡ d.world.sites → ((k : ℕ) → e.world.links i k ≡ d.world.links i k) → e.world.headers i ≡ d.world.headers i → e.after i ≡ d.after i → beside_of e i ≡ beside_of d i
beside_same d e i sites links headers after =
    ap (λ (ls : List KeptLink). let b : KeptBeside = record { links = ls; headers = e.world.headers i; doubt = doubt_of e.world i (e.after i) } in b)
    (ap (λ (k : ℕ). row_links (e.world.links i) k) sites ∙ row_links_same (d.world.links i) (e.world.links i) links d.world.sites)
    ∙ ap (λ (k : ℕ). let b : KeptBeside = record { links = row_links (d.world.links i) d.world.sites; headers = k; doubt = doubt_of e.world i (e.after i) } in b) headers
    ∙ ap (λ (o : Option KeptSite). let b : KeptBeside = record { links = row_links (d.world.links i) d.world.sites; headers = d.world.headers i; doubt = o } in b)
    (ap (λ (o : Option After). doubt_of e.world i o) after ∙ doubt_same d.world e.world i sites headers (d.after i))

pub facts_set : (d e : Doubted) (s : ℕ) → ChangesNode s d e → facts_over e.world ≡ slice_set (facts_over d.world) s (fact_over e.world s)
facts_set d e s changes =
    let start : 0 + s ≡ s = omega arith in
    ap (λ (k : ℕ). values_from (λ i. fact_over e.world i) 0 k) changes.sites
    ∙ values_from-set (λ i. fact_over d.world i) (λ i. fact_over e.world i) 0 d.world.sites s (fact_over e.world s) (ap (λ (i : ℕ). fact_over e.world i) start)
    (λ j apart.
    let other : j ≡ s → ⊥ = λ is. apart (is ∙ sym start) in
    over_same (d.world.nodes j) (e.world.nodes j) (d.world.links j) (e.world.links j) d.world.sites e.world.sites (changes.nodes j other) (λ k. changes.links j k other) changes.sites)

module _ {R : Type 0} {g : Ghosts R} where
  -- what a site comes to, whose disk set is this one then
  pub record Comes (d e : Doubted) (s : ℕ) (after : DiskSet R g) : Type 1 where
    pub changes : ChangesNode s d e
    pub links : LinksFit e
    pub stands : SiteStands (beside_of e s) (e.world.nodes s) after
    pub failing : FailsAs (e.world.nodes s) after
    pub fuse : FusedAs (e.world.nodes s) after
    pub role : RoleIs (e.world.nodes s) after
    pub doubt : ((a : After) → d.after s ≡ Some a → IsSameSite (d.world.nodes s) a.node) → (a : After) → e.after s ≡ Some a → IsSameSite (e.world.nodes s) a.node

  -- a yard with another disk set of a site
  pub record Changed (old new : Yard R g) (s : ℕ) (before after : DiskSet R g) : Type 0 where
    pub there : slice_get old.disk_sets.items s ≡ Some before
    pub later : Later before after
    pub disk_sets : new.disk_sets.items ≡ slice_set old.disk_sets.items s after
    pub racks : new.racks ≡ old.racks

  -- contents that are told now were told before
  pub told_by : (old new : Yard R g) (s : ℕ) (before after : DiskSet R g) → Changed old new s before after → IsTold new → IsTold old
  told_by old new s before after changed told = told_before old.disk_sets.items s before after changed.there changed.later (subst (λ es. AreTold es) changed.disk_sets told)

  -- the group of a site behind a call that keeps what it is
  pub role_kept : (d : Doubted) (y : Yard R g) (s : ℕ) (before after : DiskSet R g) → StandsFor d y → s < d.world.sites → slice_get y.disk_sets.items s ≡ Some before → KeepsRole before after → RoleIs (d.world.nodes s) after
  role_kept d y s before after stands below there keeps = keeps.kept (d.world.nodes s) (stands.roles.each s before below there)

  -- a site that is not up has no group
  over_off : (beside : KeptBeside) (n k : Node) (s : OverSite R g) → OverStands beside n s → (n.state ≡ IsUp → ⊥) → RoleBy k (above_site s)
  over_off beside n k (OriginSite f) stands off = absurd (off stands.state)
  over_off beside n k (ReceiverSite f) stands off = tt
  over_off beside n k (OverAway idle) stands off = tt
  over_off beside n k (OverFell idle) stands off = tt
  over_off beside n k NoOver stands off = tt

  pub role_off : (beside : KeptBeside) (n k : Node) (e : DiskSet R g) → SiteStands beside n e → (n.state ≡ IsUp → ⊥) → RoleIs k e
  role_off beside n k (Bare rack) stands off = tt
  role_off beside n k (Spoiled rack) stands off = tt
  role_off beside n k (Up rvg) stands off = absurd (off stands.1.state)
  role_off beside n k (Receives site) stands off = tt
  role_off beside n k (Down rack) stands off = tt
  role_off beside n k (OfGroup s) stands off = tt
  role_off beside n k (Over s) stands off = over_off beside n k s.site stands.1 off
  role_off beside n k Gone stands off = tt

  -- what stands at a place, where one was changed
  pub at_set : (P : ℕ → DiskSet R g → Type 0) (es : List (DiskSet R g)) (s : ℕ) (after : DiskSet R g) → s < length es → P s after → (i : ℕ) (x : DiskSet R g) → slice_get (slice_set es s after) i ≡ Some x
      → ((i ≡ s → ⊥) → slice_get es i ≡ Some x → P i x) → P i x
  at_set P es s after inside here i x is other = ⊎_elim
      (λ (same : i ≡ s).
      let found : after ≡ x = some_same (sym (get-set_same es s after inside) ∙ ap (λ (k : ℕ). slice_get (slice_set es s after) k) (sym same) ∙ is) in
      subst (λ (k : ℕ). P k x) (sym same) (subst (λ (y : DiskSet R g). P s y) found here))
      (λ apart. other apart (sym (get-set_other es s i after apart) ∙ is))
      (cases_eq i s)

  sites_set : (d e : Doubted) (es : List (DiskSet R g)) (s : ℕ) (after : DiskSet R g) → SitesAgree d es → s < d.world.sites → Comes d e s after → SitesAgree e (slice_set es s after)
  sites_set d e es s after agree below comes = record {
    eight = length-set es s after ∙ agree.eight;
    few = omega (arith, agree.few, comes.changes.sites);
    sites = λ i x inside is.
        at_set (λ j y. SiteStands (beside_of e j) (e.world.nodes j) y) es s after (omega (arith, below, agree.few, agree.eight)) comes.stands i x is
        (λ apart was.
        subst (λ (b : KeptBeside). SiteStands b (e.world.nodes i) x)
        (sym (beside_same d e i comes.changes.sites (λ k. comes.changes.links i k apart) (comes.changes.headers i apart) (comes.changes.after i apart)))
        (subst (λ (n : Node). SiteStands (beside_of d i) n x) (sym (comes.changes.nodes i apart)) (agree.sites i x (omega (arith, inside, comes.changes.sites)) was)));
    others = λ i x past is. agree.others i x (omega (arith, past, comes.changes.sites)) (sym (get-set_other es s i after (λ same. omega (arith, past, below, same, comes.changes.sites))) ∙ is);
  }

  -- so the yard stands with another disk set of a site, in the world that this one comes to
  pub stands_at : (d e : Doubted) (old new : Yard R g) (s : ℕ) (f : SiteFacts) (before after : DiskSet R g) → StandsFor d old → s < d.world.sites → Changed old new s before after → Comes d e s after
      → (BeginsFirst s (d.world.nodes s) → BeginsFirst s (e.world.nodes s)) → (NotedOver (d.world.nodes s) before → NotedOver (e.world.nodes s) after)
      → f ≡ fact_over e.world s → new.facts.items ≡ slice_set old.facts.items s f → StandsFor e new
  stands_at d e old new s f before after stands below changed comes first noted fact facts = record {
    facts = facts ∙ ap (λ (fs : List SiteFacts). slice_set fs s f) stands.facts ∙ ap (λ (x : SiteFacts). slice_set (facts_over d.world) s x) fact ∙ sym (facts_set d e s comes.changes);
    disk_sets = subst (λ es. SitesAgree e es) (sym changed.disk_sets) (sites_set d e old.disk_sets.items s after stands.disk_sets below comes);
    links = comes.links;
    roles = record {
      each = λ i x inside is. at_set (λ j y. RoleIs (e.world.nodes j) y) old.disk_sets.items s after within comes.role i x (here i x is)
          (λ apart was. subst (λ (n : Node). RoleIs n x) (sym (comes.changes.nodes i apart)) (stands.roles.each i x (omega (arith, inside, comes.changes.sites)) was));
    };
    first = λ i inside. ⊎_elim
        (λ (same : i ≡ s). subst (λ (k : ℕ). BeginsFirst k (e.world.nodes k)) (sym same) (first (stands.first s below)))
        (λ apart. subst (λ (n : Node). BeginsFirst i n) (sym (comes.changes.nodes i apart)) (stands.first i (omega (arith, inside, comes.changes.sites))))
        (cases_eq i s);
    noted = λ i x inside is. at_set (λ j y. NotedOver (e.world.nodes j) y) old.disk_sets.items s after within (noted (stands.noted s before below changed.there)) i x (here i x is)
        (λ apart was. subst (λ (n : Node). NotedOver n x) (sym (comes.changes.nodes i apart)) (stands.noted i x (omega (arith, inside, comes.changes.sites)) was));
    doubts = λ i a is. doubted i a is;
    failing = λ i x inside is. at_set (λ j y. FailsAs (e.world.nodes j) y) old.disk_sets.items s after within comes.failing i x (here i x is)
        (λ apart was. subst (λ (n : Node). FailsAs n x) (sym (comes.changes.nodes i apart)) (stands.failing i x (omega (arith, inside, comes.changes.sites)) was));
    fuses = λ i x inside is. at_set (λ j y. FusedAs (e.world.nodes j) y) old.disk_sets.items s after within comes.fuse i x (here i x is)
        (λ apart was. subst (λ (n : Node). FusedAs n x) (sym (comes.changes.nodes i apart)) (stands.fuses i x (omega (arith, inside, comes.changes.sites)) was));
    none = ap (λ r. r.items) changed.racks ∙ stands.none;
    room = omega (arith, stands.room, ap (λ r. vec_capacity r) changed.racks);
  }
    where
      within : s < length old.disk_sets.items
      within = slice_get_within old.disk_sets.items s before changed.there

      here : (i : ℕ) (x : DiskSet R g) → slice_get new.disk_sets.items i ≡ Some x → slice_get (slice_set old.disk_sets.items s after) i ≡ Some x
      here i x is = sym (ap (λ es. slice_get es i) changed.disk_sets) ∙ is

      -- what a site in doubt may be
      doubted : (i : ℕ) (a : After) → e.after i ≡ Some a → IsSameSite (e.world.nodes i) a.node
      doubted i a is = ⊎_elim
          (λ (same : i ≡ s). subst (λ (k : ℕ). IsSameSite (e.world.nodes k) a.node) (sym same)
          (comes.doubt (λ b there. stands.doubts s b there) a (ap (λ (k : ℕ). e.after k) (sym same) ∙ is)))
          (λ apart. subst (λ (n : Node). IsSameSite n a.node) (sym (comes.changes.nodes i apart)) (stands.doubts i a (sym (comes.changes.after i apart) ∙ is)))
          (cases_eq i s)

  -- the same of a site of which the tests see nothing new
  pub stands_still : (d e : Doubted) (old new : Yard R g) (s : ℕ) (before after : DiskSet R g) → StandsFor d old → s < d.world.sites → Changed old new s before after → Comes d e s after
      → (BeginsFirst s (d.world.nodes s) → BeginsFirst s (e.world.nodes s)) → (NotedOver (d.world.nodes s) before → NotedOver (e.world.nodes s) after)
      → fact_over e.world s ≡ fact_over d.world s → new.facts.items ≡ old.facts.items → StandsFor e new
  stands_still d e old new s before after stands below changed comes first noted fact facts =
      let start : 0 + s ≡ s = omega arith in
      let there : slice_get old.facts.items s ≡ Some (fact_over e.world s) =
      ap (λ (fs : List SiteFacts). slice_get fs s) stands.facts ∙ slice_get-values_from (λ i. fact_over d.world i) 0 d.world.sites s below ∙ ap (λ (i : ℕ). Some (fact_over d.world i)) start
      ∙ ap (λ (x : SiteFacts). Some x) (sym fact) in
      stands_at d e old new s (fact_over e.world s) before after stands below changed comes first noted refl (facts ∙ sym (set_same old.facts.items s (fact_over e.world s) there))

  -- the same of a site that is over no group
  pub stands_apart : (d e : Doubted) (old new : Yard R g) (s : ℕ) (f : SiteFacts) (before after : DiskSet R g) → StandsFor d old → s < d.world.sites → Changed old new s before after → Comes d e s after
      → (NotedOver (d.world.nodes s) before → NotedOver (e.world.nodes s) after) → is_over_group (e.world.nodes s) ≡ false → f ≡ linked_fact e.world s → new.facts.items ≡ slice_set old.facts.items s f → StandsFor e new
  stands_apart d e old new s f before after stands below changed comes noted apart fact facts =
      stands_at d e old new s f before after stands below changed comes (λ _. begins_apart s (beside_of e s) (e.world.nodes s) after comes.stands apart) noted (fact ∙ sym (fact_apart e.world s apart)) facts

  pub still_apart : (d e : Doubted) (old new : Yard R g) (s : ℕ) (before after : DiskSet R g) → StandsFor d old → s < d.world.sites → Changed old new s before after → Comes d e s after
      → (NotedOver (d.world.nodes s) before → NotedOver (e.world.nodes s) after) → is_over_group (d.world.nodes s) ≡ false → is_over_group (e.world.nodes s) ≡ false → linked_fact e.world s ≡ linked_fact d.world s → new.facts.items ≡ old.facts.items → StandsFor e new
  still_apart d e old new s before after stands below changed comes noted was apart fact facts =
      stands_still d e old new s before after stands below changed comes (λ _. begins_apart s (beside_of e s) (e.world.nodes s) after comes.stands apart) noted (fact_apart e.world s apart ∙ fact ∙ sym (fact_apart d.world s was)) facts

  -- one call failed, on a disk of the site
  pub rose_at : (old new : Yard R g) (s disk : ℕ) (before after : DiskSet R g) → Changed old new s before after → RoseAt before after disk → RoseAll ((s, disk) ∷ []) (count_of old) (count_of new)
  rose_at old new s disk before after changed rose =
      subst (λ es. RoseAll ((s, disk) ∷ []) (count_of old) (site_faults es)) (sym changed.disk_sets)
      (rose_one s disk (count_of old) (site_faults (slice_set old.disk_sets.items s after)) (λ i u. counts_later old.disk_sets.items s before after changed.there changed.later i u)
      (counts_rose old.disk_sets.items s disk before after changed.there rose))
