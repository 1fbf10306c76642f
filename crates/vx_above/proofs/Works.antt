-- What a line that no test refuses, and that is not open, is answered: one that makes a replicated volume group, one at a site that has one over a group of disks, one
-- that works on a group of disks, or another.
use Rattle.std.proofs.Common.{◌≡◌, arith, ℕ, Bool, true, false, List, [], inl, sym, subst, refl}
use Rattle.std.specs.Prelude.{Result, Ok, Err}
use Rattle.vx_history.specs.Doubts.{Doubted}
use Rattle.vx_model.specs.declared.errors.OutOfMemory.{OutOfMemory}
use Rattle.vx_disk.specs.declared.shelf.Shelf.{Ghosts}
use Rattle.vx_script.specs.declared.line.ScriptLine.{ScriptLine}
use Rattle.vx_script.specs.declared.line.ScriptLine.TheVariants.{Rvg}
use Rattle.vx_events.specs.Fails.{Fails}
use Rattle.vx_events.specs.OpenLines.{is_open}
use Rattle.vx_events.specs.RvgOver.{OverRvg}
use Rattle.vx_events.specs.RvgSteps.{AsBefore, FoundPlain, MakesNoRvg, WorksAbove, WorksBeside, WorksFull, is_for_rvg, rvg_place}
use Rattle.vx_events.specs.StepsOver.{WorksOver, group_place, is_for_group}
use Rattle.vx_events.specs.declared.said.Said.{Said}
use Rattle.vx_events.specs.Parts.{StopsInPart}
use Rattle.vx_events.proofs.Parts.{none_done}
use Rattle.vx_yard.specs.AboveLines.{LeadsAboveIs, LeadsBesideIs, WorksIs}
use Rattle.vx_yard.specs.Gaining.{LeadsRvgIs}
use Rattle.vx_yard.proofs.OverGroup.{over_plain}
use Rattle.vx_yard.proofs.RecoverLine.{rose_then}
use Rattle.vx_model.proofs.Lists.{get_there}
use Rattle.vx_diskset.specs.Holds.{beside_of}
use Rattle.vx_yard.specs.Standing.{LeadsFoundIs, LeadsIs, LeadsOrStops, LeadsOverOrStops, StandsFor, StaysFor, StopsAbove, StopsFor}
use Rattle.vx_yard.specs.Yards.{IsTold, count_of}
use Rattle.vx_yard.specs.declared.yard.Yard.{Yard}

-- ---- a line that makes no replicated volume group

full_by : (told : Type 0) (d : Doubted) (line : ScriptLine) (fails : Fails) (said : Said) (new : Doubted) → MakesNoRvg line → WorksAbove (is_open d.world line) (is_for_rvg d.world line) told d line fails said new → WorksFull told d line fails said new
full_by told d (Rvg site srl maps volumes) fails said new none works = absurd none
full_by told d other fails said new none works = works

module _ (told : Type 0) (d : Doubted) (line : ScriptLine) (fails : Fails) (said : Said) (new : Doubted) (none : MakesNoRvg line) where
  above_full : is_open d.world line ≡ false → is_for_rvg d.world line ≡ true → OverRvg told d line (rvg_place d.world line) fails said new → WorksFull told d line fails said new
  above_full closed over works =
      full_by told d line fails said new none
      (subst (λ (b : Bool). WorksAbove b (is_for_rvg d.world line) told d line fails said new) (sym closed)
      (subst (λ (b : Bool). WorksAbove false b told d line fails said new) (sym over) works))

  beside_full : is_open d.world line ≡ false → is_for_rvg d.world line ≡ false → WorksBeside told d line fails said new → WorksFull told d line fails said new
  beside_full closed over works =
      full_by told d line fails said new none
      (subst (λ (b : Bool). WorksAbove b (is_for_rvg d.world line) told d line fails said new) (sym closed)
      (subst (λ (b : Bool). WorksAbove false b told d line fails said new) (sym over) works))

module _ {R : Type 0} {g : Ghosts R} where
  -- of a line for which memory was short before it began nothing is done
  stays_short : (d : Doubted) (line : ScriptLine) (old new : Yard R g) → StaysFor d old new → StopsFor d line old new
  stays_short d line old new stays = record { next = d; part = StopsInPart (none_done d line); stands = stays.stands; carries = stays.carries; rose = stays.rose }

  -- one that is done whole or not at all
  pub leads_whole : (d : Doubted) (line : ScriptLine) (old new : Yard R g) (r : Result Said OutOfMemory) → LeadsIs d line old new r → LeadsOrStops d line old new r
  leads_whole d line old new (Ok said) leads = leads
  leads_whole d line old new (Err e) stays = stays_short d line old new stays

  -- what want of memory leaves where no replicated volume group stands over a group
  pub stops_full : (d : Doubted) (line : ScriptLine) (old new : Yard R g) → StopsFor d line old new → StopsAbove d line old new
  stops_full d line old new stops = record { next = stops.next; part = inl stops.part; stands = stops.stands; carries = stops.carries; rose = stops.rose }

  -- what a site notes of its group names no replicated volume group, where none is over it
  found_plain : (line : ScriptLine) (s : ℕ) (next : Doubted) (new : Yard R g) → StandsFor next new → FoundPlain line s next
  found_plain line s next new stands = λ brings below over.
      let there = get_there new.disk_sets.items s (omega (arith, below, stands.disk_sets.few, stands.disk_sets.eight)) in
      over_plain (beside_of next s) (next.world.nodes s) there.0 (stands.disk_sets.sites s there.0 below there.1) over

  -- a line that works on a group, and found none
  pub beside_over : (d : Doubted) (line : ScriptLine) (old new : Yard R g) (r : Result Said OutOfMemory) → is_for_group d.world line ≡ true → LeadsOverOrStops d line old new r → LeadsBesideIs d line old new r
  beside_over d line old new (Ok said) over leads = record {
    next = leads.next;
    fails = leads.fails;
    works = AsBefore (subst (λ (b : Bool). WorksOver b (IsTold new) d line leads.fails said leads.next) (sym over) leads.done) (found_plain line (group_place d.world line) leads.next new leads.stands);
    stands = leads.stands;
    carries = leads.carries;
    rose = leads.rose;
  }
  beside_over d line old new (Err e) over stops = stops_full d line old new stops

  -- a recovery that looked for a group on disks of which nothing is told, and found none with a replicated volume group
  pub beside_found : (d : Doubted) (line : ScriptLine) (old new : Yard R g) (r : Result Said OutOfMemory) → is_for_group d.world line ≡ false → LeadsFoundIs d line old new r → LeadsBesideIs d line old new r
  beside_found d line old new (Ok said) plain leads = record {
    next = leads.next;
    fails = leads.fails;
    works = AsBefore (subst (λ (b : Bool). WorksOver b (IsTold new) d line leads.fails said leads.next) (sym plain) leads.done) (found_plain line (group_place d.world line) leads.next new leads.stands);
    stands = leads.stands;
    carries = leads.carries;
    rose = leads.rose;
  }
  beside_found d line old new (Err e) plain stays = stops_full d line old new (stays_short d line old new stays)

  -- one of which nothing was done, as memory was short
  pub beside_short : (d : Doubted) (line : ScriptLine) (old new : Yard R g) → StaysFor d old new → StopsAbove d line old new
  beside_short d line old new stays = stops_full d line old new (stays_short d line old new stays)

  -- a line for which memory was short before it began
  pub works_short : (d : Doubted) (line : ScriptLine) (old new : Yard R g) (r : Result Said OutOfMemory) (e : OutOfMemory) → r ≡ Err e → LeadsIs d line old new r → WorksIs d line old new r
  works_short d line old new (Ok said) e is leads = absurd (cc)
  works_short d line old new (Err x) e is stays = stops_full d line old new (stays_short d line old new stays)

  -- ---- a line at sites without one

  module _ (d : Doubted) (line : ScriptLine) (old new : Yard R g) (none : MakesNoRvg line) (closed : is_open d.world line ≡ false) (off : is_for_rvg d.world line ≡ false) where
    -- one that works on no group
    pub works_plain : (r : Result Said OutOfMemory) → is_for_group d.world line ≡ false → LeadsOrStops d line old new r → WorksIs d line old new r
    works_plain (Ok said) plain leads = record {
      next = leads.next;
      fails = leads.fails;
      works = beside_full (IsTold new) d line leads.fails said leads.next none closed off
          (AsBefore (subst (λ (b : Bool). WorksOver b (IsTold new) d line leads.fails said leads.next) (sym plain) (inl leads.done)) (found_plain line (group_place d.world line) leads.next new leads.stands));
      stands = leads.stands;
      carries = leads.carries;
      rose = leads.rose;
    }
    works_plain (Err e) plain stops = stops_full d line old new stops

    pub works_whole : (r : Result Said OutOfMemory) → is_for_group d.world line ≡ false → LeadsIs d line old new r → WorksIs d line old new r
    works_whole r plain leads = works_plain r plain (leads_whole d line old new r leads)

    -- one that works on a group
    pub works_over : (r : Result Said OutOfMemory) → is_for_group d.world line ≡ true → LeadsOverOrStops d line old new r → WorksIs d line old new r
    works_over (Ok said) over leads = record {
      next = leads.next;
      fails = leads.fails;
      works = beside_full (IsTold new) d line leads.fails said leads.next none closed off
          (AsBefore (subst (λ (b : Bool). WorksOver b (IsTold new) d line leads.fails said leads.next) (sym over) leads.done) (found_plain line (group_place d.world line) leads.next new leads.stands));
      stands = leads.stands;
      carries = leads.carries;
      rose = leads.rose;
    }
    works_over (Err e) over stops = stops_full d line old new stops

    -- one that may find a replicated volume group
    pub works_beside : (r : Result Said OutOfMemory) → LeadsBesideIs d line old new r → WorksIs d line old new r
    works_beside (Ok said) leads = record {
      next = leads.next;
      fails = leads.fails;
      works = beside_full (IsTold new) d line leads.fails said leads.next none closed off leads.works;
      stands = leads.stands;
      carries = leads.carries;
      rose = leads.rose;
    }
    works_beside (Err e) stops = stops

  -- ---- a line at a site with one

  pub works_above : (d : Doubted) (line : ScriptLine) (old new : Yard R g) → MakesNoRvg line → is_open d.world line ≡ false → is_for_rvg d.world line ≡ true → (r : Result Said OutOfMemory) → LeadsAboveIs d line old new r → WorksIs d line old new r
  works_above d line old new none closed over (Ok said) leads = record {
    next = leads.next;
    fails = leads.fails;
    works = above_full (IsTold new) d line leads.fails said leads.next none closed over leads.works;
    stands = leads.stands;
    carries = leads.carries;
    rose = leads.rose;
  }
  works_above d line old new none closed over (Err e) stops = stops

  -- a line of one site, with one or not
  pub works_either : (d : Doubted) (line : ScriptLine) (old new : Yard R g) → MakesNoRvg line → is_open d.world line ≡ false → (r : Result Said OutOfMemory) → is_for_group d.world line ≡ false
      → (is_for_rvg d.world line ≡ false → LeadsOrStops d line old new r) → (is_for_rvg d.world line ≡ true → LeadsAboveIs d line old new r) → WorksIs d line old new r
  works_either d line old new none closed r plain leads above = by (is_for_rvg d.world line) refl
    where
      by : (b : Bool) → is_for_rvg d.world line ≡ b → WorksIs d line old new r
      by true over = works_above d line old new none closed over r (above over)
      by false off = works_plain d line old new none closed off r plain (leads off)

  -- one that makes one
  pub works_rvg : (d : Doubted) (site srl maps : List ℕ) (volumes : List (List ℕ)) (old new : Yard R g) (r : Result Said OutOfMemory) → LeadsRvgIs d site srl maps volumes old new r → WorksIs d (Rvg site srl maps volumes) old new r
  works_rvg d site srl maps volumes old new (Ok said) leads = record { next = leads.next; fails = leads.fails; works = leads.makes; stands = leads.stands; carries = leads.carries; rose = leads.rose }
  works_rvg d site srl maps volumes old new (Err e) stops = record { next = stops.next; part = stops.part; stands = stops.stands; carries = stops.carries; rose = stops.rose }

  -- ---- any line

  -- one before which nothing was done
  pub works_then : (d : Doubted) (line : ScriptLine) (old mid new : Yard R g) (r : Result Said OutOfMemory) → StaysFor d old mid → WorksIs d line mid new r → WorksIs d line old new r
  works_then d line old mid new (Ok said) stays work = record {
    next = work.next;
    fails = work.fails;
    works = work.works;
    stands = work.stands;
    carries = λ was. work.carries (stays.carries was);
    rose = rose_then work.fails (count_of old) (count_of mid) (count_of new) stays.rose work.rose;
  }
  works_then d line old mid new (Err e) stays stops = record {
    next = stops.next;
    part = stops.part;
    stands = stops.stands;
    carries = λ was. stops.carries (stays.carries was);
    rose = rose_then [] (count_of old) (count_of mid) (count_of new) stays.rose stops.rose;
  }
