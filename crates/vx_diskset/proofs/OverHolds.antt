-- A site that is down, whose group of disks has a replicated volume group, behind a recovery that was refused, or of whose disks it is not known what they hold.
use Rattle.vx_grouped.specs.SiteMaps.{CameMapped}
use Rattle.std.proofs.Common.{◌≡◌, ◌∙◌, ◌⊎◌, inl, inr, ⊎_elim, ℕ, ◌≤◌, Bool, true, false, List, [], ◌∷◌, length, not, IsTrue, ap, arith, refl, subst, sym}
use Rattle.std.specs.Prelude.{◌||◌, Err, None, Ok, Option, Some, if◌then◌else◌}
use Rattle.vx_config.specs.declared.config.Config.{Config}
use Rattle.vx_disk.specs.Counts.{Rose}
use Rattle.vx_disk.specs.Shelf.{Lawful, Meaning}
use Rattle.vx_disk.specs.declared.shelf.Shelf.{Ghosts}
use Rattle.vx_events.specs.GroupViews.{config_of}
use Rattle.vx_events.specs.RvgFits.{config_rvg, entries_noted, rvg_noted}
use Rattle.vx_grouped.specs.Brings.{BringsSite}
use Rattle.vx_grouped.specs.GroupNotes.{is_sure, note_dimmed, noted_config}
use Rattle.vx_grouped.specs.GroupSites.{AreStopped, AwayNoted, dimmed_site, DownNoted, GroupDown, GroupUp, idle_below, idle_disks, IsLit, laid_below, laid_disks, NotesGroup, site_below, site_disks}
use Rattle.vx_grouped.specs.Readies.{ready_of}
use Rattle.vx_grouped.specs.SiteEnds.{stops_down}
use Rattle.vx_grouped.specs.SiteReturns.{ImportWhy, KnownAway, returned_with, ReturnSince, ReturnsUp, stops_early, TellsNone}
use Rattle.vx_grouped.specs.declared.group_site.GroupSite.{GroupSite}
use Rattle.vx_grouped.specs.declared.group_site.GroupSite.TheVariants.{Deported, Down, Up}
use Rattle.vx_grouped.specs.declared.idle.Idle.{Idle}
use Rattle.vx_grouped.specs.declared.laid.Laid.{Laid}
use Rattle.vx_grouped.proofs.ImageLemmas.{none_noted, sure_by}
use Rattle.vx_grouped.proofs.ReadyLemmas.{imported_same}
use Rattle.vx_grouped.proofs.SettleLemmas.{fell_fused}
use Rattle.vx_grouped.proofs.SiteLemmas.{away_as, some_as}
use Rattle.vx_grouped.proofs.SiteReturnLemmas.{dark_away, none_can}
use Rattle.vx_history.specs.Groups.{GroupNode}
use Rattle.vx_history.specs.Steps.{burned}
use Rattle.vx_history.specs.Stops.{IsFused}
use Rattle.vx_history.proofs.Fuses.{burned_twice}
use Rattle.vx_history.specs.World.{Fuse, NoFuse, Node}
use Rattle.vx_model.specs.Content.{Write}
use Rattle.vx_model.specs.declared.errors.Stop.{Stop}
use Rattle.vx_model.specs.declared.errors.Stop.TheVariants.{No as Refused, OutOfMemory}
use Rattle.vx_model.specs.declared.no.No.{No}
use Rattle.vx_model.specs.declared.site.SiteState.{SiteState}
use Rattle.vx_model.specs.declared.site.SiteState.TheVariants.{Down as IsDown}
use Rattle.vx_model.specs.declared.units.Units.{Units}
use Rattle.vx_untold.specs.Shades.{rack_of, shade_meaning}
use Rattle.vx_untold.specs.declared.shade.Shade.{Shade}
use Rattle.vx_untold.specs.declared.shade.Shade.TheVariants.{Bright, Dark}
use Rattle.vx_diskset.specs.Aboves.{InsideOf, site_in}
use Rattle.vx_diskset.specs.GroupSets.{cut_value}
use Rattle.vx_diskset.specs.Holds.{KeptBeside}
use Rattle.vx_diskset.specs.Layouts.{config_units, units_by, units_of}
use Rattle.vx_diskset.specs.Noted.{AgreesStill, FoundNamed, NotedOn, RestsNamed, SiteNoted, TidyNote, below_rvg}
use Rattle.vx_diskset.specs.OverRises.{CameGroup, FoundAgain, HeldStill, PlainAgain, came_with, note_held, rest_in}
use Rattle.vx_diskset.specs.OverStarts.{BroughtBy, FellBack, Started, TriedOn, is_dark}
use Rattle.vx_diskset.specs.Stands.{FellOver, FellSettles, IsOverSite, RestsOver, SiteStands, idle_ready}
use Rattle.vx_diskset.specs.declared.disk_set.DiskSet.TheVariants.{Over}
use Rattle.vx_diskset.specs.declared.group_set.CutWrite.{CutWrite}
use Rattle.vx_diskset.specs.declared.group_set.GroupSet.{GroupSet}
use Rattle.vx_diskset.specs.declared.over_set.OverSet.{OverSet}
use Rattle.vx_diskset.specs.declared.over_set.OverSite.TheVariants.{Down as GroupFell}
use Rattle.vx_diskset.proofs.FoundOvers.{found_less, found_over_set}
use Rattle.vx_diskset.proofs.GroundNotes.{note_ground}
use Rattle.vx_diskset.proofs.OverCame.{each_rest, found_rest, took}
use Rattle.vx_diskset.proofs.OverCrash.{ready_under}
use Rattle.vx_diskset.proofs.OverDims.{fell_dim, fell_still, less_left}
use Rattle.vx_diskset.proofs.OverDisks.{named_less}
use Rattle.vx_diskset.proofs.OverKept.{fell_site}
use Rattle.vx_diskset.proofs.OverLikes.{over_like}
use Rattle.vx_diskset.proofs.OverMoved.{up_here}
use Rattle.vx_diskset.proofs.OverNoted.{note_read}
use Rattle.vx_diskset.proofs.PlainBacks.{Went, fused_back, off_tried, went_on, why_tried}
use Rattle.vx_diskset.proofs.StaysUp.{not_true}

-- ---- tests

pub dim_loose : (agreed loose : Bool) → (loose ≡ false → agreed ≡ true) → not agreed ≡ true → loose ≡ true
dim_loose agreed true agrees dims = refl
dim_loose true false agrees dims = absurd (let clash : false ≡ true = dims in cc)
dim_loose false false agrees dims = absurd (let clash : false ≡ true = agrees refl in cc)

pub or_either : (a b : Bool) → (a || b) ≡ true → (a ≡ true) ⊎ (b ≡ true)
or_either true b is = inl refl
or_either false b is = inr is

pub or_first : (a b : Bool) → (a || b) ≡ false → a ≡ false
or_first true b is = absurd (let clash : true ≡ false = is in cc)
or_first false b is = refl

pub or_second : (a b : Bool) → (a || b) ≡ false → b ≡ false
or_second true b is = absurd (let clash : true ≡ false = is in cc)
or_second false b is = is

pub true_by : (b : Bool) → not b ≡ false → b ≡ true
true_by true is = refl
true_by false is = absurd (let clash : true ≡ false = is in cc)

bright_by : (dark : Bool) → (dark ≡ false → ⊥) → dark ≡ true
bright_by true never = refl
bright_by false never = absurd (never refl)

pub never_both : (b : Bool) → b ≡ true → b ≡ false → ⊥
never_both b is not_so = let clash : true ≡ false = sym is ∙ not_so in cc

pub never_none : {A : Type 0} {x : A} → Some x ≡ None → ⊥
never_none e = cc

-- ---- disks by themselves

pub never_fused : (n : Node) → n.fuse ≡ NoFuse → IsFused (burned n.fuse) → ⊥
never_fused n unfused it = subst (λ (f : Fuse). IsFused f) unfused (fused_back n.fuse it)

pub agreed_told : {R : Type 0} (meaning : R → Meaning) (agreed : Bool) (s : Shade R) → IsTrue (shade_meaning meaning (ready_of agreed s)).tells → agreed ≡ true
agreed_told meaning true s is = refl
agreed_told meaning false (Bright rack) is = absurd (let clash : false ≡ true = is in cc)
agreed_told meaning false (Dark rack) is = absurd (let clash : false ≡ true = is in cc)

pub bright_told : {R : Type 0} (meaning : R → Meaning) (s : Shade R) → IsTrue (shade_meaning meaning s).tells → is_dark s ≡ false
bright_told meaning (Bright rack) is = refl
bright_told meaning (Dark rack) is = absurd (let clash : false ≡ true = is in cc)

-- disks that tell nothing, by a note of before
held_down : (n : Node) (note : GroupNode) (was below : Bool) (old : Meaning) → GroupDown n note was below old → (loosens dims told agreed : Bool) (m : Meaning) → (loosens ≡ false → agreed ≡ true) → TellsNone m → AreStopped m → m.units ≡ old.units → ((u : ℕ) → m.size u ≡ old.size u)
    → IsLit (note_held loosens dims note) told m → GroupDown (record n { group = Some (note_held loosens dims note) }) (note_held loosens dims note) agreed told m
held_down n note was below old it loosens dims told agreed m agrees none stopped units size lit =
    let lies = dark_away n note it.last old m units size none it.away.lies in
    record {
      noted = record { is = refl; none = record { role = it.noted.none.role; volumes = it.noted.none.volumes; log = it.noted.none.log; safe = it.noted.none.safe; running = it.noted.none.running } };
      lit = lit;
      agrees = λ tight. agrees (or_first loosens note.loose tight);
      unfused = it.unfused;
      stopped = stopped;
      last = it.last;
      spells = it.spells;
      away = record {
        state = it.away.state;
        config = it.away.config;
        found = none_noted (note_held loosens dims note) it.last m none.leaves;
        runs = λ bright. it.away.runs (or_second dims note.dark bright);
        some = some_as n (record n { group = Some (note_held loosens dims note) }) it.last refl refl it.away.some;
        lies = record {
          units = lies.units;
          size = lies.size;
          can = λ tight. none_can m none;
          sizes = lies.sizes;
          finds = λ i each. absurd (none.leaves 0 0 (i 0 0) (each 0 0));
          volumes = λ i x each is. absurd (none.leaves 0 0 (i 0 0) (each 0 0));
          has = λ i x each is. absurd (none.leaves 0 0 (i 0 0) (each 0 0));
        };
      };
    }

pub agrees_down : (note next : GroupNode) (old mid new : Meaning) → ((d : ℕ) → new.disk_faults d ≡ mid.disk_faults d) → AgreesStill note next old mid → AgreesStill note next old new
agrees_down note next old mid new counts (inl keeps) = inl keeps
agrees_down note next old mid new counts (inr some) = inr (record { disk = some.disk; rose = subst (λ (x : ℕ). Rose (old.disk_faults some.disk) x) (sym (counts some.disk)) some.rose })

module _ {R : Type 0} {g : Ghosts R} where
  -- by another node, with a write that is cut
  pub down_for : (a k : Node) (note : GroupNode) (c : Option Write) (idle : Idle R g) → NotesGroup k (record note { cut = c }) → k.state ≡ IsDown → k.fuse ≡ NoFuse → a.disks ≡ k.disks → a.blocks ≡ k.blocks → DownNoted a note (Down idle) → DownNoted k (record note { cut = c }) (Down idle)
  down_for a k note c idle noted state unfused disks blocks it =
      let lies = away_as a k note it.last (idle_disks idle) disks blocks it.away.lies in
      record {
        noted = noted;
        lit = it.lit;
        agrees = it.agrees;
        unfused = unfused;
        stopped = it.stopped;
        last = it.last;
        spells = it.spells;
        away = record {
          state = state;
          config = it.away.config;
          found = record { each = it.away.found.each };
          runs = it.away.runs;
          some = some_as a k it.last disks blocks it.away.some;
          lies = record { units = lies.units; size = lies.size; can = lies.can; sizes = lies.sizes; finds = lies.finds; volumes = lies.volumes; has = lies.has };
        };
      }

-- ---- a group that came up from disks by themselves

module _ {R : Type 0} {g : Ghosts R} where
  pub record CameUp (n : Node) (note : GroupNode) (idle : Idle R g) (laid : Laid R g) : Type 0 where
    pub returns : ReturnsUp (dimmed_site (not idle.agreed) note (below_rvg n)) (note_dimmed (not idle.agreed) note) (idle_ready idle) (Up laid)
    pub brings : BringsSite (idle_ready idle) laid
    pub since : ReturnSince (idle_disks idle) (laid_disks laid)

  -- a site that is down, as its note has it
  pub came_down : (n : Node) (note : GroupNode) (idle : Idle R g) → DownNoted (below_rvg n) note (Down idle) → (laid : Laid R g) → BroughtBy (Down idle) (Up laid) (Ok tt) → CameUp n note idle laid
  came_down n note idle down laid by = record { returns = by.recovered (below_rvg n) note down; brings = by.brings; since = by.since }

  -- one that is deported
  pub came_away : (n : Node) (note : GroupNode) (idle : Idle R g) → AwayNoted (below_rvg n) note (Deported idle) → (laid : Laid R g) → BroughtBy (Deported idle) (Up laid) (Ok tt) → CameUp n note idle laid
  came_away n note idle away laid by = record { returns = (by.imported (below_rvg n) note away).0; brings = by.brings; since = by.since }

module _ {R : Type 0} {g : Ghosts R} (n : Node) (note : GroupNode) (idle : Idle R g) (agrees : note.loose ≡ false → idle.agreed ≡ true) (names : FoundNamed (units_of n) (length (entries_noted note)) (idle_ready idle)) where
  abbrev ready : GroupNode
  ready = note_dimmed (not idle.agreed) note

  -- ---- an import that was done

  module _ (laid : Laid R g) (by : CameUp n note idle laid) where
    pub came_group : CameGroup n note (Down idle) laid
    came_group = let it = by.returns in record { middle = it.0; returns = it.1; config = it.3; up = it.2; from = λ k. by.since.counts k }

    abbrev middle : GroupNode
    middle = came_group.middle

    abbrev brings : BringsSite (idle_ready idle) laid
    brings = by.brings

    abbrev first : Meaning
    first = shade_meaning g.meaning brings.first

    pub group_here : GroupUp (below_rvg (came_with (burned n.fuse) middle n)) middle (laid_below laid).tells laid.core (laid_disks laid)
    group_here = up_here n ready middle laid came_group.up

    pub read_rvg : rvg_noted middle ≡ laid.core.inner.config.rvg
    read_rvg = ap (λ (o : Option Config). config_rvg o) (note_read middle came_group.config.now came_group.config.noted_now) ∙ ap (λ (c : Config). c.rvg) (sym came_group.config.has)

    -- what the import found of it
    pub names_found : (told : IsTrue (laid_disks laid).tells) → (laid.core.inner.config.rvg ≡ Some (units_of n)) × (length (took (idle_ready idle) first laid.core (laid_disks laid) brings.revived brings.brings told).config.volumes ≡ length (entries_noted note))
    names_found told =
        let it = took (idle_ready idle) first laid.core (laid_disks laid) brings.revived brings.brings told in
        let said = names.each it.image it.config (each_rest (idle_ready idle) first laid.core (laid_disks laid) brings.revived brings.brings told) (found_rest (idle_ready idle) first laid.core (laid_disks laid) brings.revived brings.brings told) in
        (it.rvg ∙ said.0, said.1)

    -- nothing is known of disks that tell nothing where their rack does
    pub dark_here : IsTrue (laid_below laid).tells → (IsTrue (laid_disks laid).tells → ⊥) → middle.dark ≡ true
    dark_here below untold = bright_by middle.dark (λ bright. untold (group_here.lit bright below))

    pub known : middle.dark ≡ true → (note.dark ≡ true) ⊎ (note.loose ≡ true)
    known dark = ⊎_elim (λ dims. inr (dim_loose idle.agreed note.loose agrees dims)) (λ was. inl was) (or_either (not idle.agreed) note.dark (sym came_group.returns.dark ∙ dark))

    -- the import left the configuration sure
    pub sure_here : is_sure laid.core ≡ true
    sure_here = sure_by laid.core.inner.committed laid.core.held (group_here.at.lies.committed came_group.returns.loose came_group.returns.begun) (group_here.at.lies.images.free came_group.returns.loose came_group.returns.begun)

    pub ground_same : note_ground (noted_config laid.core.inner.config) laid.core middle ≡ middle
    ground_same =
        ap (λ (b : Bool). let x : GroupNode = record middle { config = noted_config laid.core.inner.config; begun = if b then [] else noted_config laid.core.inner.config ∷ middle.begun; loose = not b } in x) sure_here
        ∙ ap (λ (c : List ℕ). let x : GroupNode = record middle { config = c; begun = []; loose = false } in x) (sym group_here.at.lies.config)
        ∙ ap (λ (b : List (List ℕ)). let x : GroupNode = record middle { begun = b; loose = false } in x) (sym came_group.returns.begun)
        ∙ ap (λ (b : Bool). let x : GroupNode = record middle { loose = b } in x) (sym came_group.returns.loose)

    -- ---- the group has none

    pub plain_again : CameMapped (Down idle) (Up laid) (Ok tt) → (s : GroupSet R g) → s ≡ (let x : GroupSet R g = record { site = Up laid; cut = None } in x) → laid.core.inner.config.rvg ≡ None → PlainAgain n note (Down idle) s
    plain_again maps s is none =
        let untold : IsTrue (laid_disks laid).tells → ⊥ = λ told. never_none (sym (names_found told).0 ∙ none) in
        record { laid = laid; group = came_group; less = record { was = λ below. known (dark_here below untold); dark = λ below. dark_here below untold }; maps = maps; none = none; is = is }

    -- ---- it is not known what the disks hold, and the replicated volume group that was found came up

    pub found_risen : ((s : Shade R) → Lawful (shade_meaning g.meaning s)) → (beside : KeptBeside) → IsOverSite beside n → (IsTrue (laid_disks laid).tells → ⊥) → (u : Units) → laid.core.inner.config.rvg ≡ Some u → (s : OverSet R g) → Started u laid s
        → FoundAgain beside n note (Down idle) s
    found_risen laws beside over untold u has s started =
        let site : Node = returned_with middle (record (below_rvg n) { group = Some ready }) in
        let it = found_over_set laws n site middle u laid s came_group.up has untold started refl refl (burned_twice n.fuse) came_group.returns.cut beside over.1 over.4 in
        record {
          laid = laid;
          group = came_group;
          over = it.0;
          less = found_less laws n site middle u laid s came_group.up has untold started refl refl (burned_twice n.fuse) came_group.returns.cut note it.0.next it.1 known;
          to = λ k. subst (λ (e : GroupSite R g). (laid_disks laid).disk_faults k ≤ (site_disks e).disk_faults k) (sym started.site) (started.starts.since.counts k);
        }

  -- ---- the site behind an import

  module _ (down : DownNoted (below_rvg n) note (Down idle)) (laws : (s : Shade R) → Lawful (shade_meaning g.meaning s)) (beside : KeptBeside) (cut : Option CutWrite) (group : n.group ≡ Some note) (state : n.state ≡ IsDown) (over : IsOverSite beside n) (unfused : n.fuse ≡ NoFuse)
      (rests : RestsOver (λ c. FellOver c beside n (idle_ready idle)) beside n (idle_ready idle)) (settles : FellSettles n idle) (cut_is : cut_value cut ≡ note.cut) (inside : InsideOf (units_of n) note) (tidy : TidyNote (units_of n) note) where
    -- with a note of the same configuration
    same_units : units_of n ≡ config_units (config_of note.config)
    same_units = ap (λ (o : Option GroupNode). units_by o n.disks) group

    as_rest : (w : GroupNode) (s : OverSet R g) → SiteStands beside (let m : Node = record n { state = IsDown; fuse = NoFuse; group = Some w } in m) (Over s) → SiteStands beside (rest_in n.session w n) (Over s)
    as_rest w s it =
        subst (λ (st : SiteState). SiteStands beside (let m : Node = record n { state = st; group = Some w } in m) (Over s)) (sym state)
        (subst (λ (f : Fuse). SiteStands beside (let m : Node = record n { state = IsDown; fuse = f; group = Some w } in m) (Over s)) (sym unfused) it)

    -- ---- it is down still, with this note

    module _ (loosens dims : Bool) where
      abbrev held : GroupNode
      held = note_held loosens dims note

      held_noted : (s : OverSet R g) (now : Idle R g) → site_in s ≡ Down now → cut_value s.cut ≡ cut_value cut → DownNoted (below_rvg (rest_in n.session held n)) held (Down now) → FoundNamed (units_of n) (length (entries_noted note)) (idle_ready now) → SiteNoted (rest_in n.session held n) held (Over s)
      held_noted s now at cuts noted named = (
        subst (λ (e : GroupSite R g). NotedOn (below_rvg (rest_in n.session held n)) held e) (sym at) noted,
        cuts ∙ cut_is,
        subst (λ (u : Units). InsideOf u note) same_units inside,
        record { tidy = λ tight. tidy.tidy (or_second loosens note.loose tight); named = tidy.named ∙ ap (λ (u : Units). Some u) same_units },
        subst (λ (e : GroupSite R g). RestsNamed (config_units (config_of note.config)) (length (entries_noted note)) e) (sym at) (subst (λ (u : Units). FoundNamed u (length (entries_noted note)) (idle_ready now)) same_units named),
      )

    -- ---- the import was refused

    module _ (now : Idle R g) (stop : Stop) (by : BroughtBy (Down idle) (Down now) (Err stop)) (s : OverSet R g) (at : site_in s ≡ Down now) (cuts : cut_value s.cut ≡ cut_value cut) where
      refused : DownNoted (dimmed_site (not (stops_early stop)) ready (record (below_rvg n) { group = Some ready })) (note_dimmed (not (stops_early stop)) ready) (Down now)
          × ImportWhy (IsTrue (idle_disks now).tells) (KnownAway (IsTrue (idle_disks now).tells) ready) (idle_ready idle) (idle_disks now) stop
      refused = let it = by.recovered (below_rvg n) note down in (it.0, it.1)

      site_at : s.site ≡ GroupFell now
      site_at = fell_site s.site now at

      why_held : ImportWhy (IsTrue (site_disks (site_in s)).tells) (KnownAway (IsTrue (site_disks (site_in s)).tells) ready) (idle_ready idle) (site_disks (site_in s)) stop
      why_held = subst (λ (e : GroupSite R g). ImportWhy (IsTrue (site_disks e).tells) (KnownAway (IsTrue (site_disks e).tells) ready) (idle_ready idle) (site_disks e) stop) (sym at) refused.1

      -- before it wrote
      held_early : stops_early stop ≡ true → HeldStill beside n note (Down idle) s stop
      held_early early = record {
        loosens = false;
        dims = not idle.agreed;
        loose = λ is. absurd (let clash : false ≡ true = is in cc);
        dimmed = λ dims so told. inr (dim_loose idle.agreed note.loose down.agrees dims);
        short = λ is. (refl, λ dims. inl (dim_loose idle.agreed note.loose down.agrees dims));
        why = why_held;
        noted = held_noted false (not idle.agreed) s now at cuts
            (subst (λ (b : Bool). DownNoted (dimmed_site (not b) ready (record (below_rvg n) { group = Some ready })) (note_dimmed (not b) ready) (Down now)) early refused.0)
            (named_less (units_of n) (length (entries_noted note)) (idle_ready idle) (idle_ready now) (less_left (idle_ready idle) (idle_ready now) (by.less early)) names);
        stands = over_like beside n (rest_in n.session (note_held false (not idle.agreed) note) n) s refl (λ none. never_none none) (sym same_units) (λ x it. it) (λ none. none)
            (fell_still beside n s stop early over idle now state unfused rests settles by.known by.less site_at);
      }

      -- or behind that
      held_late : stops_early stop ≡ false → HeldStill beside n note (Down idle) s stop
      held_late late =
          let none : TellsNone (idle_disks now) = by.dark late in
          let under = ready_under g now.agreed now.rack in
          record {
            loosens = false;
            dims = true;
            loose = λ is. absurd (let clash : false ≡ true = is in cc);
            dimmed = λ dims early. absurd (never_both (stops_early stop) early late);
            short = λ is. absurd (never_both (stops_early stop) (ap (λ (x : Stop). stops_early x) is) late);
            why = why_held;
            noted = held_noted false true s now at cuts
                (subst (λ (b : Bool). DownNoted (dimmed_site (not b) ready (record (below_rvg n) { group = Some ready })) (note_dimmed (not b) ready) (Down now)) late refused.0)
                (record { each = λ i x each is. absurd (none.leaves 0 0 (i 0 0) (under.leaves 0 0 (i 0 0) (each 0 0))) });
            stands = as_rest (note_held false true note) s
                (fell_dim beside n (Some (note_held false true note)) (sym same_units) (λ is. never_none is) (λ c. FellOver c beside n (idle_ready idle)) (idle_ready idle) rests over now
                (λ told. never_both (idle_disks now).tells (under.tells told) none.tells) laws s site_at);
          }

      by_early : (t : Bool) → stops_early stop ≡ t → HeldStill beside n note (Down idle) s stop
      by_early true early = held_early early
      by_early false late = held_late late

      pub held_refused : HeldStill beside n note (Down idle) s stop
      held_refused = by_early (stops_early stop) refl

    -- ---- it was done, and it is not known what the disks hold

    module _ (laid : Laid R g) (by : CameUp n note idle laid) (untold : IsTrue (laid_disks laid).tells → ⊥) where
      -- the replicated volume group that was found came up

      pub found_again : (u : Units) → laid.core.inner.config.rvg ≡ Some u → (s : OverSet R g) → Started u laid s → FoundAgain beside n note (Down idle) s
      found_again = found_risen laid by laws beside over untold

      -- or it was refused

      module _ (u : Units) (mid : Laid R g) (last : Idle R g) (fell : FellBack mid last) (s : OverSet R g) (at : site_in s ≡ Down last) (cuts : s.cut ≡ cut) (stop : Stop) (tried : TriedOn u laid mid stop) where
        went : Went laid mid
        went = went_on u laid mid stop tried

        last_tells : (idle_disks last).tells ≡ false
        last_tells =
            not_true (idle_disks last).tells
            (λ told. untold (sym went.since.tells ∙ sym fell.is.stopped.tells ∙ sym (ap (λ (x : Shade R). (shade_meaning g.meaning x).tells) fell.rack) ∙ told))

        none : TellsNone (idle_disks last)
        none = record { tells = last_tells; leaves = λ v b x left. (laws last.rack).none last_tells v b x left }

        below_laid : IsTrue (idle_below last).tells → IsTrue (laid_below laid).tells
        below_laid below = went.told (fell.is.told (subst (λ (x : Shade R). IsTrue (g.meaning (rack_of x)).tells) fell.rack below))

        stopped : AreStopped (idle_disks last)
        stopped = subst (λ (x : Shade R). AreStopped (shade_meaning g.meaning x)) (sym fell.rack) (record { down = fell.is.stopped.down; unarmed = fell.is.stopped.unarmed })

        counts_last : (d : ℕ) → (idle_disks last).disk_faults d ≡ (laid_disks mid).disk_faults d
        counts_last d = ap (λ (x : Shade R). (shade_meaning g.meaning x).disk_faults d) fell.rack ∙ fell.is.stopped.counts.disk_faults d

        -- imports agree where the start wanted memory
        agreed_by : (b : Bool) → is_dark fell.fell.rack ≡ b → stop ≡ OutOfMemory → last.agreed ≡ true
        agreed_by true dim is = fell.void dim
        agreed_by false lit is =
            let same : mid ≡ laid = subst (λ (x : Stop). TriedOn u laid mid x) is tried in
            fell.agreed lit ∙ fell.is.agreed ∙ ap (λ (x : Laid R g). is_sure x.core) same ∙ sure_here laid by

        off_never : IsTrue (laid_disks mid).down → ⊥
        off_never off = never_fused n unfused (fell_fused (burned n.fuse) (laid_disks laid) (laid_disks mid) (group_here laid by).fuse (group_here laid by).at.up went.since.safe off)

        why_untold : (x : Stop) → TriedOn u laid mid x → ImportWhy (IsTrue (idle_disks last).tells) (KnownAway (IsTrue (idle_disks last).tells) ready) (idle_ready idle) (idle_disks last) x
        why_untold (Refused why) it =
            why_tried u laid mid (idle_ready idle) (idle_disks last) (λ d. let same = (imported_same {R = R} {g = g} (Down idle)).counts d in let le = by.since.counts d in omega (arith, same, le)) counts_last (IsTrue (idle_disks last).tells) (KnownAway (IsTrue (idle_disks last).tells) ready)
            (λ told. never_both (idle_disks last).tells told last_tells) (λ sure. never_both (idle_disks last).tells sure.0 last_tells) why (λ is. off_never (off_tried u laid mid why (ap (λ (x : No). stops_down (Refused x)) is) it)) it
        why_untold OutOfMemory it = tt

        pub held_untold : HeldStill beside n note (Down idle) s stop
        held_untold = record {
          loosens = not last.agreed;
          dims = not idle.agreed;
          loose = λ is below. known laid by (dark_here laid by (below_laid (subst (λ (e : GroupSite R g). IsTrue (site_below e).tells) at below)) untold);
          dimmed = λ dims early below. inr (dim_loose idle.agreed note.loose down.agrees dims);
          short = λ is. (ap not (agreed_by (is_dark fell.fell.rack) refl is), λ dims. inl (dim_loose idle.agreed note.loose down.agrees dims));
          why = subst (λ (e : GroupSite R g). ImportWhy (IsTrue (site_disks e).tells) (KnownAway (IsTrue (site_disks e).tells) ready) (idle_ready idle) (site_disks e) stop) (sym at) (why_untold stop tried);
          noted = held_noted (not last.agreed) (not idle.agreed) s last at (ap (λ (o : Option CutWrite). cut_value o) cuts)
              (held_down (below_rvg n) note idle.agreed (idle_below idle).tells (idle_disks idle) down (not last.agreed) (not idle.agreed) (idle_below last).tells last.agreed (idle_disks last) (λ tight. true_by last.agreed tight) none stopped
              (ap (λ (x : Shade R). (shade_meaning g.meaning x).units) fell.rack ∙ fell.is.stopped.units ∙ went.since.units ∙ by.since.units)
              (λ v. ap (λ (x : Shade R). (shade_meaning g.meaning x).size v) fell.rack ∙ fell.is.stopped.size v ∙ went.since.size v ∙ by.since.size v)
              (λ lit below. absurd (untold ((group_here laid by).lit ((came_group laid by).returns.dark ∙ lit) (below_laid below)))))
              (record { each = λ i x each is. absurd (none.leaves 0 0 (i 0 0) ((ready_under g last.agreed last.rack).leaves 0 0 (i 0 0) (each 0 0))) });
          stands = as_rest (note_held (not last.agreed) (not idle.agreed) note) s
              (fell_dim beside n (Some (note_held (not last.agreed) (not idle.agreed) note)) (sym same_units) (λ is. never_none is) (λ c. FellOver c beside n (idle_ready idle)) (idle_ready idle) rests over last
              (λ told. never_both (idle_disks last).tells ((ready_under g last.agreed last.rack).tells told) last_tells) laws s (fell_site s.site last at));
        }
