-- A site as it gets a replicated volume group over volumes of its group.
use Rattle.std.proofs.Common.{◌≡◌, ◌∙◌, inl, ⊎_elim, ℕ, ◌<◌, true, List, [], length, IsTrue, IsFalse, ap, arith, refl, subst, sym}
use Rattle.std.specs.Prelude.{None, Some}
use Rattle.std.proofs.lemmas.Bool.{cases_lt}
use Rattle.vx_config.specs.Checks.{blocks_of, is_group}
use Rattle.vx_config.specs.declared.config.Config.{Config}
use Rattle.vx_disk.specs.Shelf.{Lawful, Meaning}
use Rattle.vx_events.specs.GroupViews.{config_of}
use Rattle.vx_events.specs.RvgFits.{data_of}
use Rattle.vx_events.specs.RvgNotes.{inside_of}
use Rattle.vx_grouped.specs.GroupSites.{HasNoRvg}
use Rattle.vx_history.specs.Groups.{GroupNode}
use Rattle.vx_history.specs.Steps.{burned}
use Rattle.vx_history.specs.Volumes.{data_content}
use Rattle.vx_history.specs.World.{Node}
use Rattle.vx_model.specs.Content.{Content, Write}
use Rattle.vx_model.specs.Sizes.{ring_of}
use Rattle.vx_model.specs.States.{first_state}
use Rattle.vx_model.specs.declared.site.SiteState.TheVariants.{Up as IsUp}
use Rattle.vx_model.specs.declared.units.Units.{Units}
use Rattle.vx_rvg.specs.Contents.{HasSizes}
use Rattle.vx_rvg.specs.Groups.{new_core}
use Rattle.vx_rvg.specs.Holdings.{nothing_logged}
use Rattle.vx_rvg.specs.Stands.{Stands}
use Rattle.vx_rvg.specs.Views.{Core, IsSound, UnitsPlaced, last_of, unit_of}
use Rattle.vx_srl.specs.Views.{widths}
use Rattle.vx_diskset.specs.Fuses.{FuseOn, IsFirstLog}
use Rattle.vx_diskset.specs.Holds.{KeptBeside, state_with}
use Rattle.vx_diskset.specs.Lasts.{StandsHolding}
use Rattle.vx_diskset.specs.Layouts.{IsLaid, config_units, units_of}
use Rattle.vx_diskset.specs.Makings.{IsFirstSite, rvg_made}
use Rattle.vx_diskset.specs.Needs.{TakesAs}
use Rattle.vx_diskset.specs.Stands.{IsUpAt}
use Rattle.vx_diskset.proofs.BesideLemmas.{never_besides}
use Rattle.vx_diskset.proofs.LastWrites.{stands_with}
use Rattle.vx_diskset.proofs.Narrowing.{data_here, inside_there, volumes_at, volumes_many, volumes_named, volumes_past, volumes_size}
use Rattle.vx_diskset.proofs.NeedLemmas.{none_of, takes_none}
use Rattle.vx_diskset.proofs.StaysUp.{told_now, writes_found}
use Rattle.vx_diskset.proofs.UnitsLie.{units_few, units_large, units_some}
use Rattle.vx_model.specs.declared.state.KeptLink.{KeptLink}

module _ (site : ℕ) (n : Node) (first : IsFirstSite site n) (none : HasNoRvg n) (state : n.state ≡ IsUp) (c : Config) (u : Units) (middle next : GroupNode) (core : Core) (m : Meaning) (law : Lawful m) (sound : IsSound core m) (placed : UnitsPlaced u m)
    (core_is : core ≡ new_core u (first_state site) (ring_of (blocks_of c.volumes u.srl)) core.maps) (may : is_group c.volumes u ≡ true) (size : (v : ℕ) → m.size v ≡ blocks_of c.volumes v) (up : IsFalse m.down) (fuse : FuseOn (burned n.fuse) m)
    (on : config_units (config_of next.config) ≡ u)
    (stands : IsTrue m.tells → (k : Content) → HasSizes u.vols k m → ((v b : ℕ) → b < k.size v → m.leaves (unit_of u.vols v) b (k.block v b)) → Stands core (nothing_logged k []) m)
    (left : IsTrue m.tells → (v b : ℕ) → v < length u.vols → m.leaves (unit_of u.vols v) b (middle.bytes.block (unit_of u.vols v) b)) where
  abbrev k : Node
  k = rvg_made c u middle next n

  abbrev content : Content
  content = data_content (Some middle) (data_of c.volumes u)

  -- ---- how it lies on the volumes

  laid : IsLaid u (ring_of (blocks_of c.volumes u.srl)) (volumes_at c.volumes u.vols) content.size m
  laid = record {
    large = (let least = units_large c.volumes u may in let same = size u.srl in omega (arith, least, same));
    ring_is = ap ring_of (sym (size u.srl));
    some = (let many = volumes_many c.volumes u.vols in let least = units_some c.volumes u may in omega (arith, many, least));
    few = (let many = volumes_many c.volumes u.vols in let most = units_few c.volumes u may in omega (arith, many, most));
    count = sym (volumes_many c.volumes u.vols);
    named = λ v x at. volumes_named c.volumes u.vols v x at;
    each = λ v low. let many = volumes_many c.volumes u.vols in volumes_size c.volumes u.vols v (omega (arith, low, many)) ∙ sym (size (unit_of u.vols v));
    none = λ v high. let many = volumes_many c.volumes u.vols in volumes_past c.volumes u.vols v (omega (arith, high, many));
  }

  sizes : HasSizes u.vols content m
  sizes = record {
    each = λ v low. volumes_size c.volumes u.vols v low ∙ sym (size (unit_of u.vols v));
    none = λ v high. volumes_past c.volumes u.vols v high;
  }

  -- a volume with a block is one of them
  there : (v b : ℕ) → b < content.size v → v < length u.vols
  there v b low = ⊎_elim (λ is. is) (λ high. absurd (let nothing = volumes_past c.volumes u.vols v high in omega (arith, low, nothing))) (cases_lt v (length u.vols))

  held : IsTrue m.tells → (v b : ℕ) → b < content.size v → m.leaves (unit_of u.vols v) b (content.block v b)
  held told v b low = subst (λ (y : List ℕ). m.leaves (unit_of u.vols v) b y) (sym (data_here c.volumes middle u.vols v b (there v b low))) (left told v b (there v b low))

  -- ---- its log

  none_logged : length n.log ≡ 0
  none_logged = ap (λ (xs : List Write). length xs) none.log

  on_units : core.units ≡ units_of k
  on_units = ap (λ (x : Core). x.units) core_is ∙ sym on

  kept_here : core.log.header.state ≡ state_with k []
  kept_here = ap (λ (x : Core). x.log.header.state) core_is ∙ sym first.state

  session_here : core.log.header.incarnation ≡ n.session
  session_here = ap (λ (x : Core). x.log.header.incarnation) core_is ∙ sym first.session

  stamp_here : core.log.header.stamp ≡ 2
  stamp_here = ap (λ (x : Core). x.log.header.stamp) core_is

  holds : IsTrue m.tells → StandsHolding core [] content m
  holds told = record {
    held = nothing_logged content [];
    has = record { some = omega arith; last = refl; writes = refl; content = refl; whole = λ room. (refl, refl) };
    needs = none_of core.log.header.state.links 0 (ap (λ (x : Core). x.log.header.state.links) core_is);
    stands = stands told content sizes (held told);
  }

  holds_log : IsTrue m.tells → StandsHolding core n.log content m
  holds_log told = subst (λ (xs : List Write). StandsHolding core xs content m) (sym none.log) (holds told)

  first_log : IsFirstLog core.log n.log
  first_log = subst (λ (xs : List Write). IsFirstLog core.log xs) (sym none.log)
      (record { place = ap (λ (x : Core). x.log.header.place) core_is; widths_are = ap (λ (x : Core). widths x.log.held) core_is })

  pub rvg_stands : (beside : KeptBeside) → beside.links ≡ [] → beside.doubt ≡ None → IsUpAt beside k core m
  rvg_stands beside unlinked certain = record {
    state = state;
    up = up;
    fuse = fuse;
    lies = record {
      laid = subst (λ (x : Units). IsLaid x (ring_of (blocks_of c.volumes u.srl)) (volumes_at c.volumes u.vols) content.size m) (sym on) laid;
      there = λ j is. inside_there u m placed j (subst (λ (x : Units). inside_of x j ≡ true) on is);
    };
    low = first.low;
    units = on_units;
    ring = ap (λ (x : Core). x.log.ring) core_is;
    found = [];
    kept = kept_here;
    linked = λ told. sym unlinked;
    session = session_here;
    begun = λ told. let one = first.session in omega (arith, one);
    stamp = λ told running. let one = first.session in let two = stamp_here in omega (arith, one, two);
    fresh = λ origin told running one room. first_log;
    first = (let one = ap (λ (x : Core). x.log.header.low) core_is in omega (arith, one));
    head = ap (λ (x : Core). last_of x) core_is ∙ sym none.safe;
    halted = ap (λ (x : Core). x.halted) core_is ∙ sym none.running;
    logged = (let zero_safe = none.safe in omega (arith, zero_safe));
    durable = λ running. let no_log = none_logged in omega (arith, no_log);
    takes = λ running. subst (λ (xs : List Write). TakesAs core.log xs) (sym none.log) (takes_none core.log (ap (λ (x : Core). x.log.held) core_is));
    content = λ running told. holds_log told;
    left = λ i now.
        let told = told_now m i law now in
        inl (writes_found k core i on_units (ap (λ (x : Core). x.log.ring) core_is) (kept_here ∙ ap (λ (ls : List KeptLink). state_with k ls) (sym unlinked)) session_here (let one = first.session in let two = stamp_here in omega (arith, one, two))
        (none_logged ∙ sym none.safe) (stands_with core n.log content m i sound.log_unit law (holds_log told) now));
    sure = λ running. certain;
    may = never_besides beside.doubt m certain;
  }
