-- What a line leads to that goes to the group of its site: one that finds no replicated volume group over it, and one that may find one.
use Rattle.std.proofs.Common.{◌≡◌, ◌∙◌, Bool, true, false, List, ℕ, ap, sym, subst, refl}
use Rattle.std.specs.Prelude.{◌&&◌, ◌||◌, Result, not}
use Rattle.vx_model.specs.declared.errors.OutOfMemory.{OutOfMemory}
use Rattle.vx_disk.specs.declared.shelf.Shelf.{Ghosts}
use Rattle.vx_history.specs.Doubts.{Doubted}
use Rattle.vx_history.specs.World.{World}
use Rattle.vx_order.specs.Calls.{is_data}
use Rattle.vx_script.specs.declared.line.ScriptLine.{ScriptLine}
use Rattle.vx_script.specs.declared.line.ScriptLine.TheVariants.{GroupInit, GroupDeport, GroupImport, Volume, PlexDetach, PlexAttach, Rvg, Disk, Crash, Fuse, Recover, Status, Write, Put, Read, Show}
use Rattle.vx_events.proofs.RvgTests.{group_alone}
use Rattle.vx_events.specs.Facts.{site_number}
use Rattle.vx_events.specs.OpenLines.{is_open}
use Rattle.vx_events.specs.RvgOver.{kind_named}
use Rattle.vx_events.specs.RvgSteps.{MakesNoRvg, is_for_rvg, over_rvg_at}
use Rattle.vx_events.specs.StepsOver.{is_for_group, over_group_at}
use Rattle.vx_events.specs.declared.said.Said.{Said}
use Rattle.vx_yard.specs.AboveLines.{LeadsAboveIs, LeadsBesideIs, WorksIs}
use Rattle.vx_yard.specs.Gaining.{LeadsRvgIs}
use Rattle.vx_yard.specs.Standing.{LeadsOverIs, StandsFor}
use Rattle.vx_yard.specs.Working.{IsFree}
use Rattle.vx_yard.specs.Yards.{IsYardKept, in_files}
use Rattle.vx_yard.specs.declared.yard.Yard.{Yard}
use Rattle.vx_above.proofs.Works.{works_above, works_beside, works_over, works_rvg}
use Rattle.vx_group_lines.specs.Plain.{IsReadOf, goes_to_group, plain_at}
use Rattle.vx_group_lines.specs.Plain.IsReadOf.{ByRead, ByShow}
use Rattle.vx_group_lines.proofs.Going.{grouped_is}
use Rattle.vx_group_lines.proofs.GroupLeads.{or_stops}
use Rattle.vx_group_lines.proofs.Tests.{UpMay, attach_may, deport_may, detach_may, import_may, volume_may}

or_left : (a b : Bool) → (a || b) ≡ true → b ≡ false → a ≡ true
or_left true b is off = refl
or_left false b is off = absurd (let clash : true ≡ false = sym is ∙ off in cc)

-- of a volume that is one of a group, and no data volume, at a site with a replicated volume group over it, and at one without
plain_off : (group over mine : Bool) → (group || (over && not mine)) ≡ true → over ≡ false → group ≡ true
plain_off true over mine is off = refl
plain_off false true mine is off = absurd (let clash : true ≡ false = off in cc)
plain_off false false mine is off = is

plain_on : (group over mine : Bool) → (group || (over && not mine)) ≡ true → over ≡ true → (group ≡ true → over ≡ false) → mine ≡ false
plain_on true over mine is here apart = absurd (let clash : true ≡ false = sym here ∙ apart refl in cc)
plain_on false true true is here apart = absurd (let clash : false ≡ true = is in cc)
plain_on false true false is here apart = refl
plain_on false false mine is here apart = absurd (let clash : false ≡ true = here in cc)

-- a line that may do nothing but work on the group, or that makes it, and neither writes nor reads a volume
abbrev pub WorksAlone : ScriptLine → Type 0
WorksAlone (GroupDeport site) = ⊥
WorksAlone (GroupImport site) = ⊥
WorksAlone (Volume site volume blocks mirrors layout log map policy) = ⊥
WorksAlone (PlexDetach site volume plex) = ⊥
WorksAlone (PlexAttach site volume plex) = ⊥
WorksAlone (Recover site) = ⊥
WorksAlone (Rvg site srl maps volumes) = ⊥
WorksAlone (Write site volume start count fill) = ⊥
WorksAlone (Put site volume start bytes) = ⊥
WorksAlone (Read site volume start count) = ⊥
WorksAlone (Show site volume start count) = ⊥
WorksAlone other = Unit {0}

alone_makes : (line : ScriptLine) → WorksAlone line → MakesNoRvg line
alone_makes (Rvg site srl maps volumes) alone = alone
alone_makes other alone = tt

-- where it is not open, no replicated volume group is over the group
alone_off : (w : World) (line : ScriptLine) → WorksAlone line → goes_to_group w line ≡ true → is_open w line ≡ false → is_for_rvg w line ≡ false
alone_off w (GroupInit site) alone goes closed = refl
alone_off w (GroupDeport site) alone goes closed = absurd alone
alone_off w (GroupImport site) alone goes closed = absurd alone
alone_off w (Volume site volume blocks mirrors layout log map policy) alone goes closed = absurd alone
alone_off w (PlexDetach site volume plex) alone goes closed = absurd alone
alone_off w (PlexAttach site volume plex) alone goes closed = absurd alone
alone_off w (Rvg site srl maps volumes) alone goes closed = absurd alone
alone_off w (Disk site disk state) alone goes closed = group_alone (w.nodes (site_number w site)) goes
alone_off w (Crash site pick) alone goes closed = group_alone (w.nodes (site_number w site)) goes
alone_off w (Fuse site calls pick) alone goes closed = group_alone (w.nodes (site_number w site)) goes
alone_off w (Recover site) alone goes closed = absurd alone
alone_off w (Status site) alone goes closed = group_alone (w.nodes (site_number w site)) goes
alone_off w (Write site volume start count fill) alone goes closed = absurd alone
alone_off w (Put site volume start bytes) alone goes closed = absurd alone
alone_off w (Read site volume start count) alone goes closed = absurd alone
alone_off w (Show site volume start count) alone goes closed = absurd alone
alone_off w other alone goes closed = absurd (let clash : false ≡ true = goes in cc)

module _ {R : Type 0} {g : Ghosts R} (d : Doubted) (y : Yard R g) where
  up_alone : (name : List ℕ) → StandsFor d y → UpMay y.facts.items name → over_rvg_at d.world name ≡ false → over_group_at d.world name ≡ true
  up_alone name stands may off =
      or_left (over_group_at d.world name) (over_rvg_at d.world name)
      (sym (grouped_is d y name may.site.at.place may.site.facts stands may.site.at.is may.site.at.there) ∙ may.grouped) off

  -- a line that goes to the group of its site, and no replicated volume group is over that
  alone_goes : (line : ScriptLine) → MakesNoRvg line → StandsFor d y → IsYardKept y → IsFree y line → goes_to_group d.world line ≡ true → is_for_rvg d.world line ≡ false → is_for_group d.world line ≡ true
  alone_goes (GroupInit name) none stands kept free goes off = refl
  alone_goes (GroupDeport name) none stands kept free goes off = up_alone name stands (deport_may y.facts.items (in_files y) name free) off
  alone_goes (GroupImport name) none stands kept free goes off =
      let may = import_may y.facts.items (in_files y) name free in
      or_left (over_group_at d.world name) (over_rvg_at d.world name)
      (sym (grouped_is d y name may.site.at.place may.site.facts stands may.site.at.is may.site.at.there) ∙ (kept.each may.site.at.place may.site.facts may.site.at.there).grouped may.away) off
  alone_goes (Volume name volume blocks mirrors layout log map policy) none stands kept free goes off =
      up_alone name stands (volume_may y.facts.items (in_files y) name volume blocks mirrors layout log map policy free).may off
  alone_goes (PlexDetach name volume plex) none stands kept free goes off = up_alone name stands (detach_may y.facts.items (in_files y) name volume plex free).may off
  alone_goes (PlexAttach name volume plex) none stands kept free goes off = up_alone name stands (attach_may y.facts.items (in_files y) name volume plex free).may off
  alone_goes (Rvg name srl maps volumes) none stands kept free goes off = absurd none
  alone_goes (Disk name disk state) none stands kept free goes off = goes
  alone_goes (Crash name pick) none stands kept free goes off = goes
  alone_goes (Fuse name calls pick) none stands kept free goes off = goes
  alone_goes (Recover name) none stands kept free goes off = or_left (over_group_at d.world name) (over_rvg_at d.world name) goes off
  alone_goes (Status name) none stands kept free goes off = goes
  alone_goes (Write name volume start count fill) none stands kept free goes off =
      plain_off (over_group_at d.world name) (over_rvg_at d.world name) (is_data (kind_named (d.world.nodes (site_number d.world name)) volume)) goes off
  alone_goes (Put name volume start bytes) none stands kept free goes off = plain_off (over_group_at d.world name) (over_rvg_at d.world name) (is_data (kind_named (d.world.nodes (site_number d.world name)) volume)) goes off
  alone_goes (Read name volume start count) none stands kept free goes off = plain_off (over_group_at d.world name) (over_rvg_at d.world name) (is_data (kind_named (d.world.nodes (site_number d.world name)) volume)) goes off
  alone_goes (Show name volume start count) none stands kept free goes off = plain_off (over_group_at d.world name) (over_rvg_at d.world name) (is_data (kind_named (d.world.nodes (site_number d.world name)) volume)) goes off
  alone_goes other none stands kept free goes off = absurd (let clash : false ≡ true = goes in cc)

  -- the words of the line
  pub goes_alone : (words line : ScriptLine) → words ≡ line → MakesNoRvg line → StandsFor d y → IsYardKept y → IsFree y words → goes_to_group d.world words ≡ true → is_for_rvg d.world words ≡ false → is_for_group d.world line ≡ true
  goes_alone words line is none stands kept free goes off =
      alone_goes line none stands kept (subst (λ (x : ScriptLine). IsFree y x) is free) (subst (λ (x : ScriptLine). goes_to_group d.world x ≡ true) is goes)
      (subst (λ (x : ScriptLine). is_for_rvg d.world x ≡ false) is off)

  module _ (new : Yard R g) where
    -- ---- one that finds no replicated volume group, or is open

    alone_works : (line : ScriptLine) (r : Result Said OutOfMemory) → WorksAlone line → StandsFor d y → IsYardKept y → IsFree y line → goes_to_group d.world line ≡ true → is_open d.world line ≡ false
        → (is_for_group d.world line ≡ true → LeadsOverIs d line y new r) → WorksIs d line y new r
    alone_works line r alone stands kept free goes closed leads =
        let off : is_for_rvg d.world line ≡ false = alone_off d.world line alone goes closed in
        let group : is_for_group d.world line ≡ true = alone_goes line (alone_makes line alone) stands kept free goes off in
        works_over d line y new (alone_makes line alone) closed off r group (or_stops d line y new r (leads group))

    pub works_closed : (words line : ScriptLine) (r : Result Said OutOfMemory) → words ≡ line → WorksAlone line → StandsFor d y → IsYardKept y → IsFree y words → goes_to_group d.world words ≡ true → is_open d.world words ≡ false
        → (is_for_group d.world line ≡ true → LeadsOverIs d line y new r) → WorksIs d words y new r
    works_closed words line r is alone stands kept free goes closed leads =
        subst (λ (x : ScriptLine). WorksIs d x y new r) (sym is)
        (alone_works line r alone stands kept (subst (λ (x : ScriptLine). IsFree y x) is free) (subst (λ (x : ScriptLine). goes_to_group d.world x ≡ true) is goes)
        (subst (λ (x : ScriptLine). is_open d.world x ≡ false) is closed) leads)

    -- ---- one that works on the group, whether one is over it or not

    both_works : (line : ScriptLine) (name : List ℕ) (r : Result Said OutOfMemory) → MakesNoRvg line → is_for_rvg d.world line ≡ over_rvg_at d.world name → StandsFor d y → IsYardKept y → IsFree y line → goes_to_group d.world line ≡ true → is_open d.world line ≡ false
        → (is_for_group d.world line ≡ true → LeadsOverIs d line y new r) → (over_rvg_at d.world name ≡ true → LeadsAboveIs d line y new r) → WorksIs d line y new r
    both_works line name r none there stands kept free goes closed beside above = by (over_rvg_at d.world name) refl
      where
        by : (b : Bool) → over_rvg_at d.world name ≡ b → WorksIs d line y new r
        by true over = works_above d line y new none closed (there ∙ over) r (above over)
        by false off =
            let group : is_for_group d.world line ≡ true = alone_goes line none stands kept free goes (there ∙ off) in
            works_over d line y new none closed (there ∙ off) r group (or_stops d line y new r (beside group))

    pub works_both : (words line : ScriptLine) (name : List ℕ) (r : Result Said OutOfMemory) → words ≡ line → MakesNoRvg line → is_for_rvg d.world line ≡ over_rvg_at d.world name → StandsFor d y → IsYardKept y → IsFree y words → goes_to_group d.world words ≡ true
        → is_open d.world words ≡ false → (is_for_group d.world line ≡ true → LeadsOverIs d line y new r) → (over_rvg_at d.world name ≡ true → LeadsAboveIs d line y new r) → WorksIs d words y new r
    works_both words line name r is none there stands kept free goes closed beside above =
        subst (λ (x : ScriptLine). WorksIs d x y new r) (sym is)
        (both_works line name r none there stands kept (subst (λ (x : ScriptLine). IsFree y x) is free) (subst (λ (x : ScriptLine). goes_to_group d.world x ≡ true) is goes)
        (subst (λ (x : ScriptLine). is_open d.world x ≡ false) is closed) beside above)

    -- ---- one that brings the group up, and may find one

    import_works : (name : List ℕ) (r : Result Said OutOfMemory) → StandsFor d y → IsYardKept y → IsFree y (GroupImport name) → (is_for_group d.world (GroupImport name) ≡ true → LeadsBesideIs d (GroupImport name) y new r)
        → (is_for_rvg d.world (GroupImport name) ≡ true → LeadsAboveIs d (GroupImport name) y new r) → WorksIs d (GroupImport name) y new r
    import_works name r stands kept free beside above = by (over_rvg_at d.world name) refl
      where
        by : (b : Bool) → over_rvg_at d.world name ≡ b → WorksIs d (GroupImport name) y new r
        by true over = works_above d (GroupImport name) y new tt refl over r (above over)
        by false off = works_beside d (GroupImport name) y new tt refl off r (beside (alone_goes (GroupImport name) tt stands kept free refl off))

    pub works_import : (words : ScriptLine) (name : List ℕ) (r : Result Said OutOfMemory) → words ≡ GroupImport name → StandsFor d y → IsYardKept y → IsFree y words → (is_for_group d.world (GroupImport name) ≡ true → LeadsBesideIs d (GroupImport name) y new r)
        → (is_for_rvg d.world (GroupImport name) ≡ true → LeadsAboveIs d (GroupImport name) y new r) → WorksIs d words y new r
    works_import words name r is stands kept free beside above =
        subst (λ (x : ScriptLine). WorksIs d x y new r) (sym is) (import_works name r stands kept (subst (λ (x : ScriptLine). IsFree y x) is free) beside above)

    recover_works : (name : List ℕ) (r : Result Said OutOfMemory) → (over_group_at d.world name || over_rvg_at d.world name) ≡ true → (is_for_group d.world (Recover name) ≡ true → LeadsBesideIs d (Recover name) y new r)
        → (is_for_rvg d.world (Recover name) ≡ true → LeadsAboveIs d (Recover name) y new r) → WorksIs d (Recover name) y new r
    recover_works name r goes beside above = by (over_rvg_at d.world name) refl
      where
        by : (b : Bool) → over_rvg_at d.world name ≡ b → WorksIs d (Recover name) y new r
        by true over = works_above d (Recover name) y new tt refl over r (above over)
        by false off = works_beside d (Recover name) y new tt refl off r (beside (or_left (over_group_at d.world name) (over_rvg_at d.world name) goes off))

    pub works_recover : (words : ScriptLine) (name : List ℕ) (r : Result Said OutOfMemory) → words ≡ Recover name → goes_to_group d.world words ≡ true → (is_for_group d.world (Recover name) ≡ true → LeadsBesideIs d (Recover name) y new r)
        → (is_for_rvg d.world (Recover name) ≡ true → LeadsAboveIs d (Recover name) y new r) → WorksIs d words y new r
    works_recover words name r is goes beside above =
        subst (λ (x : ScriptLine). WorksIs d x y new r) (sym is) (recover_works name r (subst (λ (x : ScriptLine). goes_to_group d.world x ≡ true) is goes) beside above)

    -- ---- one that writes or reads a volume

    reads_works : (line : ScriptLine) (name volume : List ℕ) (r : Result Said OutOfMemory) → MakesNoRvg line → is_open d.world line ≡ false → is_for_rvg d.world line ≡ over_rvg_at d.world name
        → is_for_group d.world line ≡ over_group_at d.world name → plain_at d.world name volume ≡ true → (is_for_group d.world line ≡ true → LeadsOverIs d line y new r)
        → (over_rvg_at d.world name ≡ true → is_data (kind_named (d.world.nodes (site_number d.world name)) volume) ≡ false → LeadsAboveIs d line y new r) → WorksIs d line y new r
    reads_works line name volume r none closed there group plain beside above = by (over_rvg_at d.world name) refl
      where
        by : (b : Bool) → over_rvg_at d.world name ≡ b → WorksIs d line y new r
        by true over =
            works_above d line y new none closed (there ∙ over) r
            (above over (plain_on (over_group_at d.world name) (over_rvg_at d.world name) (is_data (kind_named (d.world.nodes (site_number d.world name)) volume)) plain over (λ here. group_alone (d.world.nodes (site_number d.world name)) here)))
        by false off =
            let here : is_for_group d.world line ≡ true = group ∙ plain_off (over_group_at d.world name) (over_rvg_at d.world name) (is_data (kind_named (d.world.nodes (site_number d.world name)) volume)) plain off in
            works_over d line y new none closed (there ∙ off) r here (or_stops d line y new r (beside here))

    pub works_write : (words line : ScriptLine) (name volume : List ℕ) (r : Result Said OutOfMemory) → words ≡ line → MakesNoRvg line → is_open d.world line ≡ false → is_for_rvg d.world line ≡ over_rvg_at d.world name
        → is_for_group d.world line ≡ over_group_at d.world name → goes_to_group d.world line ≡ plain_at d.world name volume → goes_to_group d.world words ≡ true → (is_for_group d.world line ≡ true → LeadsOverIs d line y new r)
        → (over_rvg_at d.world name ≡ true → is_data (kind_named (d.world.nodes (site_number d.world name)) volume) ≡ false → LeadsAboveIs d line y new r) → WorksIs d words y new r
    works_write words line name volume r is none closed there group goes_is goes beside above =
        subst (λ (x : ScriptLine). WorksIs d x y new r) (sym is)
        (reads_works line name volume r none closed there group (sym goes_is ∙ subst (λ (x : ScriptLine). goes_to_group d.world x ≡ true) is goes) beside above)

    pub works_read : (line : ScriptLine) (name volume : List ℕ) (start count : ℕ) (r : Result Said OutOfMemory) → IsReadOf line name volume start count → goes_to_group d.world line ≡ true → (is_for_group d.world line ≡ true → LeadsOverIs d line y new r)
        → (over_rvg_at d.world name ≡ true → is_data (kind_named (d.world.nodes (site_number d.world name)) volume) ≡ false → LeadsAboveIs d line y new r) → WorksIs d line y new r
    works_read line name volume start count r (ByRead is) goes beside above =
        reads_works line name volume r (subst (λ (x : ScriptLine). MakesNoRvg x) (sym is) tt) (ap (λ (x : ScriptLine). is_open d.world x) is) (ap (λ (x : ScriptLine). is_for_rvg d.world x) is)
        (ap (λ (x : ScriptLine). is_for_group d.world x) is) (sym (ap (λ (x : ScriptLine). goes_to_group d.world x) is) ∙ goes) beside above
    works_read line name volume start count r (ByShow is) goes beside above =
        reads_works line name volume r (subst (λ (x : ScriptLine). MakesNoRvg x) (sym is) tt) (ap (λ (x : ScriptLine). is_open d.world x) is) (ap (λ (x : ScriptLine). is_for_rvg d.world x) is)
        (ap (λ (x : ScriptLine). is_for_group d.world x) is) (sym (ap (λ (x : ScriptLine). goes_to_group d.world x) is) ∙ goes) beside above

    -- ---- one that makes one

    pub works_made : (words : ScriptLine) (site srl maps : List ℕ) (volumes : List (List ℕ)) (r : Result Said OutOfMemory) → words ≡ Rvg site srl maps volumes → LeadsRvgIs d site srl maps volumes y new r → WorksIs d words y new r
    works_made words site srl maps volumes r is leads = subst (λ (x : ScriptLine). WorksIs d x y new r) (sym is) (works_rvg d site srl maps volumes y new r leads)
