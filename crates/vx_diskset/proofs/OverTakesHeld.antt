-- An import of a site that was deported, whose group of disks has a replicated volume group: the group did not come up, or it is not known what came up.
use Rattle.std.proofs.Common.{◌≡◌, ◌∙◌, ◌⊎◌, inl, inr, ⊎_elim, ℕ, Bool, true, false, IsTrue, length, ap, arith, refl, subst, sym}
use Rattle.std.specs.Prelude.{Err, IsFalse, Ok, Option, None, Some, not}
use Rattle.vx_disk.specs.Racks.{IsRack}
use Rattle.vx_disk.specs.Shelf.{Lawful, Meaning}
use Rattle.vx_disk.specs.declared.shelf.Shelf.{Ghosts}
use Rattle.vx_events.specs.GroupViews.{config_of}
use Rattle.vx_events.specs.RvgFits.{entries_noted}
use Rattle.vx_grouped.specs.GroupNotes.{is_sure, note_dimmed}
use Rattle.vx_grouped.specs.GroupSites.{AwayNoted, idle_below, idle_disks, laid_below, laid_disks, site_below, site_disks, AreStopped, GroupUp, dimmed_site}
use Rattle.vx_grouped.specs.SiteEnds.{stops_down}
use Rattle.vx_grouped.specs.declared.group_site.GroupSite.{GroupSite}
use Rattle.vx_grouped.specs.declared.group_site.GroupSite.TheVariants.{Up, Deported, Down}
use Rattle.vx_grouped.specs.declared.idle.Idle.{Idle}
use Rattle.vx_grouped.specs.declared.laid.Laid.{Laid}
use Rattle.vx_history.specs.Groups.{GroupNode}
use Rattle.vx_history.specs.Steps.{burned, crashed, worked}
use Rattle.vx_history.specs.World.{NoFuse, Node, Fuse}
use Rattle.vx_model.specs.declared.errors.Stop.{Stop}
use Rattle.vx_model.specs.declared.errors.Stop.TheVariants.{No as Refused, OutOfMemory}
use Rattle.vx_model.specs.declared.no.No.{No}
use Rattle.vx_model.specs.declared.no.No.TheVariants.{Down as IsOff}
use Rattle.vx_model.specs.declared.site.SPhase.TheVariants.{Quiet}
use Rattle.vx_model.specs.declared.site.SiteState.TheVariants.{Deported as IsAway, Down as IsDown}
use Rattle.vx_model.specs.declared.units.Units.{Units}
use Rattle.vx_untold.specs.Shades.{shade_meaning, rack_of}
use Rattle.vx_untold.specs.declared.shade.Shade.{Shade}
use Rattle.vx_model.specs.declared.site.SiteState.{SiteState}
use Rattle.vx_grouped.specs.SiteReturns.{ImportRefused, ImportWhy, KeepsFuse, KnownAway, TellsNone, returned_with, stops_early}
use Rattle.vx_grouped.specs.SetFuses.{HasFuse}
use Rattle.vx_grouped.proofs.ReadyLemmas.{imported_same}
use Rattle.vx_grouped.proofs.SettleLemmas.{fell_fused}
use Rattle.vx_diskset.proofs.OverCrash.{ready_under}
use Rattle.vx_diskset.proofs.GroupStands.{IsLikeGroup, down_like}
use Rattle.vx_diskset.specs.Aboves.{InsideOf, site_in}
use Rattle.vx_diskset.specs.GroupSets.{cut_value}
use Rattle.vx_diskset.specs.Holds.{KeptBeside}
use Rattle.vx_diskset.specs.Layouts.{config_units, units_by, units_of}
use Rattle.vx_diskset.specs.Noted.{FoundNamed, NotedOn, RestsNamed, SiteNoted, TidyNote, below_rvg}
use Rattle.vx_diskset.specs.OverRises.{CameGroup, FoundAgain, PlainAgain, came_with, note_held}
use Rattle.vx_diskset.specs.OverStarts.{BroughtBy, FellBack, Revived, Started, TriedOn, is_dark}
use Rattle.vx_diskset.specs.OverTakes.{HeldAway, HeldOff, fallen_in, fuse_gone, gone_in}
use Rattle.vx_diskset.specs.Stands.{AwayLeft, IsOverSite, RestsOver, SiteStands, idle_ready}
use Rattle.vx_diskset.specs.declared.disk_set.DiskSet.TheVariants.{Over}
use Rattle.vx_diskset.specs.declared.group_set.CutWrite.{CutWrite}
use Rattle.vx_diskset.specs.declared.group_set.GroupSet.{GroupSet}
use Rattle.vx_diskset.specs.declared.over_set.OverSet.{OverSet}
use Rattle.vx_diskset.specs.declared.over_set.OverSite.TheVariants.{Deported as GroupAway, Down as GroupFell}
use Rattle.vx_diskset.proofs.OverAway.{given_site}
use Rattle.vx_diskset.proofs.OverDims.{away_dim, away_still, fell_dim, less_left}
use Rattle.vx_diskset.proofs.OverDisks.{named_less}
use Rattle.vx_diskset.proofs.OverGone.{gone_as, held_fell, held_gone}
use Rattle.vx_diskset.proofs.OverHolds.{CameUp, came_away, came_group, dark_here, dim_loose, found_risen, group_here, known, never_both, never_none, or_second, sure_here, true_by, or_first}
use Rattle.vx_diskset.proofs.OverKept.{fell_site}
use Rattle.vx_diskset.proofs.OverLikes.{fed_like, idle_like}
use Rattle.vx_diskset.proofs.PlainBacks.{Went, fused_back, off_tried, went_on, why_tried}
use Rattle.vx_diskset.proofs.StaysUp.{not_true}

-- the fuse of disks that may be lost
has_gone : (lost : Bool) (f : Fuse) (m : Meaning) → (lost ≡ true → IsFalse m.armed) → HasFuse (burned f) m → HasFuse (fuse_gone lost f) m
has_gone true f m unarmed has = unarmed refl
has_gone false f m unarmed has = has

-- of a crash nothing but the disks of the group is noted
fell_like : (n : Node) (w : GroupNode) (m : Node) → m.state ≡ IsDown → m.disks ≡ n.disks → m.blocks ≡ n.blocks → m.group ≡ Some w → m.fuse ≡ NoFuse → (ready : GroupNode) → IsLikeGroup (crashed (returned_with w (record (below_rvg n) { group = Some ready })) 0) (below_rvg m)
fell_like n w m state disks blocks group fuse ready = record {
  state = sym state;
  disks = sym disks;
  blocks = sym blocks;
  group = sym group;
  none = λ none. record { role = refl; volumes = refl; log = refl; safe = refl; running = refl };
  fuse = λ x has. subst (λ (f : Fuse). HasFuse f x) (sym fuse) has;
  unfused = λ none. fuse;
}

module _ {R : Type 0} {g : Ghosts R} (racks : (s : Shade R) → IsRack (shade_meaning g.meaning s)) (laws : (s : Shade R) → Lawful (shade_meaning g.meaning s)) (beside : KeptBeside) (n : Node) (note : GroupNode) (idle : Idle R g) (cut : Option CutWrite) (group : n.group ≡ Some note)
    (state : n.state ≡ IsAway) (quiet : n.phase ≡ Quiet) (over : IsOverSite beside n) (rests : RestsOver (λ c. AwayLeft c beside n (idle_ready idle)) beside n (idle_ready idle)) (away : AwayNoted (below_rvg n) note (Deported idle)) (cut_is : cut_value cut ≡ note.cut) (inside : InsideOf (units_of n) note)
    (tidy : TidyNote (units_of n) note) (names : FoundNamed (units_of n) (length (entries_noted note)) (idle_ready idle)) where
  abbrev ready : GroupNode
  ready = note_dimmed (not idle.agreed) note

  abbrev site_ready : Node
  site_ready = record (below_rvg n) { group = Some ready }

  same_units : units_of n ≡ config_units (config_of note.config)
  same_units = ap (λ (o : Option GroupNode). units_by o n.disks) group

  -- ---- with a note of the same configuration

  module _ (loosens dims : Bool) where
    abbrev held : GroupNode
    held = note_held loosens dims note

    held_site : (k : Node) (s : OverSet R g) (e : GroupSite R g) → site_in s ≡ e → config_units (config_of note.config) ≡ units_of k → cut_value s.cut ≡ cut_value cut → NotedOn (below_rvg k) held e → RestsNamed (units_of n) (length (entries_noted note)) e → SiteNoted k held (Over s)
    held_site k s e at units cuts noted named =
        let same : units_of n ≡ units_of k = same_units ∙ units in (
          subst (λ (x : GroupSite R g). NotedOn (below_rvg k) held x) (sym at) noted,
          cuts ∙ cut_is,
          subst (λ (u : Units). InsideOf u note) same inside,
          record { tidy = λ tight. tidy.tidy (or_second loosens note.loose tight); named = tidy.named ∙ ap (λ (u : Units). Some u) same },
          subst (λ (x : GroupSite R g). RestsNamed (units_of k) (length (entries_noted note)) x) (sym at) (subst (λ (u : Units). RestsNamed u (length (entries_noted note)) e) same named),
        )

    -- disks that tell nothing, by themselves or down
    module _ (x : Idle R g) (untold : IsTrue (idle_ready x).tells → ⊥) (s : OverSet R g) where
      dim_away : (fuse : Fuse) → s.site ≡ GroupAway x → SiteStands beside (gone_in fuse n.session held n) (Over s)
      dim_away fuse at =
          subst (λ (st : SiteState). SiteStands beside (let m : Node = record n { state = st; fuse = fuse; group = Some held } in m) (Over s)) (sym state)
          (away_dim beside n (Some held) (sym same_units) (λ is. never_none is) (λ c. AwayLeft c beside n (idle_ready idle)) (idle_ready idle) rests over x untold fuse s at)

      dim_fell : s.site ≡ GroupFell x → SiteStands beside (fallen_in n.session held n) (Over s)
      dim_fell at =
          fed_like beside (let m : Node = record n { state = IsDown; fuse = NoFuse; group = Some held } in m) n.other s x at
          (fell_dim beside n (Some held) (sym same_units) (λ is. never_none is) (λ c. AwayLeft c beside n (idle_ready idle)) (idle_ready idle) rests over x untold laws s at)

    -- no import of them finds anything
    named_dim : (x : Idle R g) → TellsNone (idle_disks x) → FoundNamed (units_of n) (length (entries_noted note)) (idle_ready x)
    named_dim x none = record { each = λ i c each is. absurd (none.leaves 0 0 (i 0 0) ((ready_under g x.agreed x.rack).leaves 0 0 (i 0 0) (each 0 0))) }

  -- ---- the import was refused

  module _ (now : Idle R g) (stop : Stop) (by : BroughtBy (Deported idle) (Deported now) (Err stop)) (on : stops_down stop ≡ false) (s : OverSet R g) (at : site_in s ≡ Deported now) (cuts : cut_value s.cut ≡ cut_value cut) where
    refused : ImportRefused false site_ready ready (idle_ready idle) (Deported now) stop
    refused = subst (λ (b : Bool). ImportRefused b site_ready ready (idle_ready idle) (Deported now) stop) on (by.imported (below_rvg n) note away)

    site_at : s.site ≡ GroupAway now
    site_at = given_site laws s.site now at

    why_held : ImportWhy (IsTrue (site_disks (site_in s)).tells) (KnownAway (IsTrue (site_disks (site_in s)).tells) ready) (idle_ready idle) (site_disks (site_in s)) stop
    why_held = subst (λ (e : GroupSite R g). ImportWhy (IsTrue (site_disks e).tells) (KnownAway (IsTrue (site_disks e).tells) ready) (idle_ready idle) (site_disks e) stop) (sym at) refused.2

    -- the fuse is lost with the disks, or no call that passed was not let pass
    module _ (lost : Bool) (unarmed : lost ≡ true → IsFalse (idle_disks now).armed) (fused : lost ≡ false → KeepsFuse (idle_ready idle) (idle_disks now)) where
      held_fuse : lost ≡ false → KeepsFuse (idle_ready idle) (site_disks (site_in s))
      held_fuse is = subst (λ (e : GroupSite R g). KeepsFuse (idle_ready idle) (site_disks e)) (sym at) (fused is)

      -- a note of the same configuration
      gone_note : (k : Node) (a : Node) (next : GroupNode) → k.state ≡ IsAway → k.fuse ≡ fuse_gone lost n.fuse → a.disks ≡ k.disks → a.blocks ≡ k.blocks → a.fuse ≡ burned n.fuse → k.group ≡ Some next → AwayNoted a next (Deported now) → NotedOn (below_rvg k) next (Deported now)
      gone_note k a next there fuse disks blocks was noted it =
          gone_as a (below_rvg k) next now.agreed (idle_below now).tells (idle_disks now) (record { is = noted; none = record { role = refl; volumes = refl; log = refl; safe = refl; running = refl } }) there
          (subst (λ (f : Fuse). HasFuse f (idle_disks now)) (sym fuse) (has_gone lost n.fuse (idle_disks now) unarmed (subst (λ (f : Fuse). HasFuse f (idle_disks now)) was it.fuse))) disks blocks it

      -- before it wrote
      away_early : stops_early stop ≡ true → HeldAway beside n note (Deported idle) s stop
      away_early early =
          let k : Node = gone_in (fuse_gone lost n.fuse) n.session (note_held false (not idle.agreed) note) n in
          record {
            loosens = false;
            dims = not idle.agreed;
            loose = λ is. absurd (let clash : false ≡ true = is in cc);
            dimmed = λ dims so told. inr (dim_loose idle.agreed note.loose away.agrees dims);
            short = λ is. (refl, λ dims. inl (dim_loose idle.agreed note.loose away.agrees dims));
            why = why_held;
            lost = lost;
            fuse = held_fuse;
            noted = held_site false (not idle.agreed) k s (Deported now) at refl cuts
                (gone_note k (worked (dimmed_site false ready site_ready)) (note_held false (not idle.agreed) note) state refl refl refl refl refl
                (subst (λ (b : Bool). AwayNoted (worked (dimmed_site (not b) ready site_ready)) (note_dimmed (not b) ready) (Deported now)) early refused.0))
                (named_less (units_of n) (length (entries_noted note)) (idle_ready idle) (idle_ready now) (less_left (idle_ready idle) (idle_ready now) (by.less early)) names);
            stands = idle_like beside n k s now site_at refl (λ none. never_none none) (sym same_units) (away_still beside n s stop early over idle now state rests by.less site_at);
          }

      -- or behind that
      away_late : stops_early stop ≡ false → HeldAway beside n note (Deported idle) s stop
      away_late late =
          let none : TellsNone (idle_disks now) = by.dark late in
          let under = ready_under g now.agreed now.rack in
          let k : Node = gone_in (fuse_gone lost n.fuse) n.session (note_held false true note) n in
          record {
            loosens = false;
            dims = true;
            loose = λ is. absurd (let clash : false ≡ true = is in cc);
            dimmed = λ dims early. absurd (never_both (stops_early stop) early late);
            short = λ is. absurd (never_both (stops_early stop) (ap (λ (x : Stop). stops_early x) is) late);
            why = why_held;
            lost = lost;
            fuse = held_fuse;
            noted = held_site false true k s (Deported now) at refl cuts
                (gone_note k (worked (dimmed_site true ready site_ready)) (note_held false true note) state refl refl refl refl refl
                (subst (λ (b : Bool). AwayNoted (worked (dimmed_site (not b) ready site_ready)) (note_dimmed (not b) ready) (Deported now)) late refused.0)) (named_dim false true now none);
            stands = dim_away false true now (λ told. never_both (idle_disks now).tells (under.tells told) none.tells) s (fuse_gone lost n.fuse) site_at;
          }

      away_in_by : (t : Bool) → stops_early stop ≡ t → HeldAway beside n note (Deported idle) s stop
      away_in_by true early = away_early early
      away_in_by false late = away_late late

    pub away_refused : HeldAway beside n note (Deported idle) s stop
    away_refused = ⊎_elim
        (λ (unarmed : IsFalse (idle_disks now).armed). away_in_by true (λ is. unarmed) (λ is. absurd (let clash : true ≡ false = is in cc)) (stops_early stop) refl)
        (λ (fused : KeepsFuse (idle_ready idle) (idle_disks now)). away_in_by false (λ is. absurd (let clash : false ≡ true = is in cc)) (λ is. fused) (stops_early stop) refl)
        refused.1

  -- its fuse ran out

  module _ (now : Idle R g) (by : BroughtBy (Deported idle) (Down now) (Err (Refused IsOff))) (s : OverSet R g) (at : site_in s ≡ Down now) (cuts : cut_value s.cut ≡ cut_value cut) where
    pub off_refused : HeldOff beside n note (Deported idle) s
    off_refused =
        let it : ImportRefused true site_ready ready (idle_ready idle) (Down now) (Refused IsOff) = by.imported (below_rvg n) note away in
        let none : TellsNone (idle_disks now) = by.dark refl in
        let under = ready_under g now.agreed now.rack in
        let k : Node = fallen_in n.session (note_held false true note) n in
        record {
          loosens = false;
          loose = λ is. absurd (let clash : false ≡ true = is in cc);
          fused = it.1;
          noted = held_site false true k s (Down now) at refl cuts
              (down_like (crashed (returned_with (note_dimmed true ready) site_ready) 0) (below_rvg k) (fell_like n (note_dimmed true ready) k refl refl refl refl refl ready) (note_dimmed true ready) now.agreed (idle_below now).tells (idle_disks now) it.0)
              (named_dim false true now none);
          stands = dim_fell false true now (λ told. never_both (idle_disks now).tells (under.tells told) none.tells) s (fell_site s.site now at);
        }

  -- ---- the group came up

  module _ (laid : Laid R g) (by : BroughtBy (Deported idle) (Up laid) (Ok tt)) where
    risen : CameUp n note idle laid
    risen = came_away n note idle away laid by

    abbrev came : CameGroup n note (Down idle) laid
    came = came_group n note idle away.agrees names laid risen

    abbrev middle : GroupNode
    middle = came.middle

    group_up : GroupUp (below_rvg (came_with (burned n.fuse) middle n)) middle (laid_below laid).tells laid.core (laid_disks laid)
    group_up = group_here n note idle away.agrees names laid risen

    abbrev as_away : (l : Laid R g) → CameGroup n note (Down idle) l → CameGroup n note (Deported idle) l
    as_away l it = record { middle = it.middle; returns = it.returns; config = it.config; up = it.up; from = it.from }

    -- ---- it is not known what they hold

    module _ (untold : IsTrue (laid_disks laid).tells → ⊥) where
      pub found_taken : (u : Units) → laid.core.inner.config.rvg ≡ Some u → (s : OverSet R g) → Started u laid s → FoundAgain beside n note (Deported idle) s
      found_taken u has s started =
          let it : FoundAgain beside n note (Down idle) s = found_risen n note idle away.agrees names laid risen laws beside over untold u has s started in
          record { laid = it.laid; group = as_away it.laid it.group; over = it.over; less = it.less; to = it.to }

      pub plain_taken : (s : GroupSet R g) → s ≡ (let x : GroupSet R g = record { site = Up laid; cut = None } in x) → laid.core.inner.config.rvg ≡ None → PlainAgain n note (Deported idle) s
      plain_taken s is none = record {
        laid = laid;
        group = as_away laid came;
        less = record { was = λ below. known n note idle away.agrees names laid risen (dark_here n note idle away.agrees names laid risen below untold); dark = λ below. dark_here n note idle away.agrees names laid risen below untold };
        maps = by.maps;
        none = none;
        is = is;
      }

      module _ (u : Units) (mid : Laid R g) (last : Idle R g) (fell : FellBack mid last) (s : OverSet R g) (cuts : s.cut ≡ cut) (stop : Stop) (tried : TriedOn u laid mid stop) where
        went : Went laid mid
        went = went_on u laid mid stop tried

        last_tells : (idle_disks last).tells ≡ false
        last_tells =
            not_true (idle_disks last).tells
            (λ told. untold (sym went.since.tells ∙ sym fell.is.stopped.tells ∙ sym (ap (λ (x : Shade R). (shade_meaning g.meaning x).tells) fell.rack) ∙ told))

        none_last : TellsNone (idle_disks last)
        none_last = record { tells = last_tells; leaves = λ v b x left. (laws last.rack).none last_tells v b x left }

        below_last : IsTrue (idle_below last).tells → IsTrue (laid_below laid).tells
        below_last below = went.told (fell.is.told (subst (λ (x : Shade R). IsTrue (g.meaning (rack_of x)).tells) fell.rack below))

        known_last : IsTrue (idle_below last).tells → (note.dark ≡ true) ⊎ (note.loose ≡ true)
        known_last below = known n note idle away.agrees names laid risen (dark_here n note idle away.agrees names laid risen (below_last below) untold)

        stopped_last : AreStopped (idle_disks last)
        stopped_last = subst (λ (x : Shade R). AreStopped (shade_meaning g.meaning x)) (sym fell.rack) (record { down = fell.is.stopped.down; unarmed = fell.is.stopped.unarmed })

        counts_last : (d : ℕ) → (idle_disks last).disk_faults d ≡ (laid_disks mid).disk_faults d
        counts_last d = ap (λ (x : Shade R). (shade_meaning g.meaning x).disk_faults d) fell.rack ∙ fell.is.stopped.counts.disk_faults d

        units_last : (idle_disks last).units ≡ (idle_disks idle).units
        units_last = ap (λ (x : Shade R). (shade_meaning g.meaning x).units) fell.rack ∙ fell.is.stopped.units ∙ went.since.units ∙ by.since.units

        size_last : (v : ℕ) → (idle_disks last).size v ≡ (idle_disks idle).size v
        size_last v = ap (λ (x : Shade R). (shade_meaning g.meaning x).size v) fell.rack ∙ fell.is.stopped.size v ∙ went.since.size v ∙ by.since.size v

        -- imports agree where the start wanted memory
        agreed_by : (b : Bool) → is_dark fell.fell.rack ≡ b → stop ≡ OutOfMemory → last.agreed ≡ true
        agreed_by true dim is = fell.void dim
        agreed_by false lit is =
            let same : mid ≡ laid = subst (λ (x : Stop). TriedOn u laid mid x) is tried in
            fell.agreed lit ∙ fell.is.agreed ∙ ap (λ (x : Laid R g). is_sure x.core) same ∙ sure_here n note idle away.agrees names laid risen

        -- the disks are by themselves
        module _ (x : Idle R g) (at : site_in s ≡ Deported x) (back : Revived last x) (on : stops_down stop ≡ false) where
          none_x : TellsNone (idle_disks x)
          none_x = record { tells = back.alike.contents.tells ∙ last_tells; leaves = λ v b w left. none_last.leaves v b w (back.alike.contents.leaves v b w left) }

          counts_x : (d : ℕ) → (idle_disks x).disk_faults d ≡ (laid_disks mid).disk_faults d
          counts_x d = back.alike.counts.disk_faults d ∙ counts_last d

          why_untold : (w : Stop) → stops_down w ≡ false → TriedOn u laid mid w → ImportWhy (IsTrue (idle_disks x).tells) (KnownAway (IsTrue (idle_disks x).tells) ready) (idle_ready idle) (idle_disks x) w
          why_untold (Refused why) up it =
              why_tried u laid mid (idle_ready idle) (idle_disks x) (λ d. let same = (imported_same {R = R} {g = g} (Deported idle)).counts d in let le = by.since.counts d in omega (arith, same, le)) counts_x (IsTrue (idle_disks x).tells)
              (KnownAway (IsTrue (idle_disks x).tells) ready) (λ told. never_both (idle_disks x).tells told none_x.tells) (λ sure. never_both (idle_disks x).tells sure.0 none_x.tells) why
              (λ is. let clash : true ≡ false = sym (ap (λ (w : No). stops_down (Refused w)) is) ∙ up in cc) it
          why_untold OutOfMemory up it = tt

          pub held_taken : HeldAway beside n note (Deported idle) s stop
          held_taken =
              let k : Node = gone_in NoFuse n.session (note_held (not x.agreed) (not idle.agreed) note) n in
              record {
                loosens = not x.agreed;
                dims = not idle.agreed;
                loose = λ is below. known_last (back.told (subst (λ (e : GroupSite R g). IsTrue (site_below e).tells) at below));
                dimmed = λ dims early below. inr (dim_loose idle.agreed note.loose away.agrees dims);
                short = λ is. (ap not (back.agreed ∙ agreed_by (is_dark fell.fell.rack) refl is), λ dims. inl (dim_loose idle.agreed note.loose away.agrees dims));
                why = subst (λ (e : GroupSite R g). ImportWhy (IsTrue (site_disks e).tells) (KnownAway (IsTrue (site_disks e).tells) ready) (idle_ready idle) (site_disks e) stop) (sym at) (why_untold stop on tried);
                lost = true;
                fuse = λ is. absurd (let clash : true ≡ false = is in cc);
                noted = held_site (not x.agreed) (not idle.agreed) k s (Deported x) at refl (ap (λ (o : Option CutWrite). cut_value o) cuts)
                    (held_gone (below_rvg n) note idle.agreed (idle_below idle).tells (idle_disks idle) away (not x.agreed) (not idle.agreed) (idle_below x).tells x.agreed (idle_disks x) (λ tight. true_by x.agreed (or_first (not x.agreed) note.loose tight)) none_x
                    (back.alike.contents.units ∙ units_last) (λ v. back.alike.contents.size v ∙ size_last v) (λ lit below. absurd (untold (group_up.lit (came.returns.dark ∙ lit) (below_last (back.told below))))) (below_rvg k)
                    (record { is = refl; none = record { role = refl; volumes = refl; log = refl; safe = refl; running = refl } }) state (back.armed ∙ stopped_last.unarmed)
                    (λ off. let clash : true ≡ false = sym off ∙ back.up in cc) refl refl)
                    (named_dim (not x.agreed) (not idle.agreed) x none_x);
                stands = dim_away (not x.agreed) (not idle.agreed) x (λ told. never_both (idle_disks x).tells ((ready_under g x.agreed x.rack).tells told) none_x.tells) s NoFuse (given_site laws s.site x at);
              }

        -- they are down
        pub held_fused : site_in s ≡ Down last → stop ≡ Refused IsOff → HeldOff beside n note (Deported idle) s
        held_fused at is =
            let k : Node = fallen_in n.session (note_held (not last.agreed) true note) n in
            let off : IsTrue (laid_disks mid).down = off_tried u laid mid IsOff refl (subst (λ (w : Stop). TriedOn u laid mid w) is tried) in
            record {
              loosens = not last.agreed;
              loose = λ on below. known_last (subst (λ (e : GroupSite R g). IsTrue (site_below e).tells) at below);
              fused = fused_back n.fuse (fell_fused (burned n.fuse) (laid_disks laid) (laid_disks mid) group_up.fuse group_up.at.up went.since.safe off);
              noted = held_site (not last.agreed) true k s (Down last) at refl (ap (λ (o : Option CutWrite). cut_value o) cuts)
                  (held_fell (below_rvg n) note idle.agreed (idle_below idle).tells (idle_disks idle) away (not last.agreed) true (idle_below last).tells last.agreed (idle_disks last) (λ tight. true_by last.agreed (or_first (not last.agreed) note.loose tight)) none_last
                  units_last size_last (λ lit below. absurd (let clash : true ≡ false = lit in cc)) (below_rvg k) (record { is = refl; none = record { role = refl; volumes = refl; log = refl; safe = refl; running = refl } }) refl refl refl stopped_last refl refl)
                  (named_dim (not last.agreed) true last none_last);
              stands = dim_fell (not last.agreed) true last (λ told. never_both (idle_disks last).tells ((ready_under g last.agreed last.rack).tells told) last_tells) s (fell_site s.site last at);
            }
