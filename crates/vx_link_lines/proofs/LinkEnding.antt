-- What a line that makes a link leads a yard to, by how far its parts came.
use Rattle.std.proofs.Common.{◌≡◌, ◌∙◌, inl, inr, ◌<◌, ◌*◌, ℕ, false, List, [], ◌∷◌, ap, sym, subst, refl, arith}
use Rattle.std.specs.Prelude.{Result, Ok, Err, Some, None, slice_get}
use Rattle.vx_history.specs.Doubts.{Doubted, Runs}
use Rattle.vx_history.specs.Step.{step}
use Rattle.vx_history.specs.Steps.{worked_on}
use Rattle.vx_history.specs.Stops.{IsFused, all_fails}
use Rattle.vx_history.specs.World.{Node, World}
use Rattle.vx_history.specs.declared.event.Event.{Event}
use Rattle.vx_history.specs.declared.event.Event.TheVariants.{Link as LinkAt}
use Rattle.vx_history.specs.declared.event.LinkPart.TheVariants.{Joins, Made, Marked, Opened}
use Rattle.vx_history.specs.declared.event.Said.{Said as EventSaid}
use Rattle.vx_history.specs.declared.event.Said.TheVariants.{Done as IsDone}
use Rattle.vx_history.specs.Events.{joined as joined_to}
use Rattle.vx_model.specs.declared.link.Prot.TheVariants.{Fail as FailsWhenFull}
use Rattle.vx_model.specs.declared.link.Prot.{Prot}
use Rattle.vx_model.specs.declared.link.SyncMode.{SyncMode}
use Rattle.vx_script.specs.declared.line.ScriptLine.{ScriptLine}
use Rattle.vx_script.specs.declared.line.ScriptLine.TheVariants.{Link}
use Rattle.vx_disk.specs.Racks.{IsRack}
use Rattle.vx_disk.specs.declared.shelf.Shelf.{Ghosts}
use Rattle.vx_model.specs.declared.site.Mark.TheVariants.{Consistent}
use Rattle.vx_model.specs.declared.state.State.{State}
use Rattle.vx_model.proofs.Lists.{get_there}
use Rattle.vx_diskset.specs.Asked.{HeadUnder}
use Rattle.vx_diskset.specs.Holds.{beside_of, header_links, state_with}
use Rattle.vx_diskset.specs.Stands.{SiteStands}
use Rattle.vx_diskset.specs.declared.disk_set.DiskSet.{DiskSet}
use Rattle.vx_events.specs.Fails.{Fails}
use Rattle.vx_events.specs.Facts.{site_number}
use Rattle.vx_events.specs.Fuses.{MayPass, header_calls}
use Rattle.vx_events.specs.LinkEnds.{LinkEnds, LinkReplies, LinksDone, link_noted}
use Rattle.vx_events.specs.LinkLists.{link_events, link_parts}
use Rattle.vx_events.specs.LinksFit.{LinksFit}
use Rattle.vx_events.specs.Sayings.{RepeatsSaid}
use Rattle.vx_events.specs.declared.said.Said.{Said}
use Rattle.vx_events.specs.declared.said.Said.TheVariants.{Done, Refused}
use Rattle.vx_link_lines.specs.Headed.{HeadedSo, NextFor, NotesAt, behind, noted_by, part_said}
use Rattle.vx_link_lines.specs.Linking.{IsLinking}
use Rattle.vx_yard.specs.BothSites.{BothSites, LinkBurns}
use Rattle.vx_yard.specs.OfSites.{HasCalled, OfSite}
use Rattle.vx_yard.specs.Standing.{Leads, StandsFor}
use Rattle.vx_yard.specs.Yards.{IsTold, count_of}
use Rattle.vx_link_lines.specs.declared.linking.LinkStates.{LinkStates}
use Rattle.vx_yard.specs.declared.yard.Yard.{Yard}
use Rattle.vx_link_lines.proofs.HeadedEnds.{IsBehind, headed_ends}
use Rattle.vx_link_lines.proofs.LinkChain as chain
use Rattle.vx_link_lines.proofs.NotedBoth.{carries_both, note_both, notes_both, stands_both}
use Rattle.vx_yard.proofs.BothSites.{UnderJoined, UnderMade, UnderMarked, UnderOpened, link_burns, stops_joined, stops_made, stops_marked, stops_opened, under_joined, under_made, under_marked, under_opened}
use Rattle.vx_yard.proofs.HeadNeeds.{head_passes, head_works, refused_undone}
use Rattle.vx_yard.proofs.RecoverLine.{rose_then}

module _ {R : Type 0} {g : Ghosts R} where
  -- two in a row
  pub next_then : (fails : Fails) (d e f : Doubted) (a b c : Yard R g) → NextFor [] d e a b → NextFor fails e f b c → NextFor fails d f a c
  next_then fails d e f a b c one two = record {
    stands = two.stands;
    carries = λ carries. two.carries (one.carries carries);
    rose = rose_then fails (count_of a) (count_of b) (count_of c) one.rose two.rose;
  }

  -- nothing was done yet
  pub next_none : (d : Doubted) (y : Yard R g) → StandsFor d y → NextFor [] d d y y
  next_none d y stands = record { stands = stands; carries = λ carries. carries; rose = record { each = λ s k. omega arith } }

  -- ---- what each call promises of its part

  module _ (p s : ℕ) (sync : SyncMode) (states : LinkStates) (old new : Yard R g) (result : Result (Unit {0}) Said) where
    abbrev pub HeadsJoin : Type 0
    HeadsJoin =
        (d : Doubted) (note : (ℕ → Node) → ℕ → Node) → NotesAt s note → StandsFor (noted_by note d) old → LinksFit d → s < d.world.sites
        → (d.world.nodes p).group ≡ None → (d.world.nodes s).group ≡ None → (step d.world (LinkAt p s sync FailsWhenFull Joins)).said ≡ IsDone → states.joined ≡ state_with (joined_to (d.world.nodes p) p (d.world.nodes s)) [] → HeadedSo note d (LinkAt p s sync FailsWhenFull Joins) s old new result

    abbrev pub HeadsMade : Type 0
    HeadsMade =
        (d : Doubted) (note : (ℕ → Node) → ℕ → Node) → NotesAt p note → StandsFor (noted_by note d) old → LinksFit d → p < d.world.sites → (d.world.nodes p).group ≡ None → (d.world.nodes s).session ≡ states.session
        → (step d.world (LinkAt p s sync FailsWhenFull Made)).said ≡ IsDone → states.made ≡ state_with (d.world.nodes p) (header_links (step d.world (LinkAt p s sync FailsWhenFull Made)).world p)
        → HeadedSo note d (LinkAt p s sync FailsWhenFull Made) p old new result

    abbrev pub HeadsMarked : Type 0
    HeadsMarked =
        (d : Doubted) (note : (ℕ → Node) → ℕ → Node) → NotesAt s note → StandsFor (noted_by note d) old → LinksFit d → s < d.world.sites → (d.world.nodes s).group ≡ None → (step d.world (LinkAt p s sync FailsWhenFull Marked)).said ≡ IsDone
        → states.marked ≡ (let m : State = record (state_with (d.world.nodes s) (header_links d.world s)) { mark = Consistent } in m) → HeadedSo note d (LinkAt p s sync FailsWhenFull Marked) s old new result

    abbrev pub HeadsOpened : Type 0
    HeadsOpened =
        (d : Doubted) (note : (ℕ → Node) → ℕ → Node) → NotesAt p note → StandsFor (noted_by note d) old → LinksFit d → p < d.world.sites → (d.world.nodes p).group ≡ None → (d.world.nodes p).safe ≡ states.last
        → (step d.world (LinkAt p s sync FailsWhenFull Opened)).said ≡ IsDone → states.opened ≡ state_with (d.world.nodes p) (header_links (step d.world (LinkAt p s sync FailsWhenFull Opened)).world p)
        → HeadedSo note d (LinkAt p s sync FailsWhenFull Opened) p old new result

  -- ---- the line

  module _ (d : Doubted) (first second : List ℕ) (prot : Prot) (p s : ℕ) (sync : SyncMode) (states : LinkStates) (l : IsLinking d first second p s sync states) (old : Yard R g) (stands : StandsFor d old) where
    abbrev line : ScriptLine
    line = Link first second sync prot

    abbrev note : (ℕ → Node) → ℕ → Node
    note = note_both p s

    fit : LinksFit d
    fit = stands.links

    start : StandsFor (noted_by note d) old
    start =
        let e = get_there old.disk_sets.items p (omega (arith, l.below, stands.disk_sets.few, stands.disk_sets.eight)) in
        let f = get_there old.disk_sets.items s (omega (arith, l.below_too, stands.disk_sets.few, stands.disk_sets.eight)) in
        stands_both d old p s e.0 f.0 stands l.below l.below_too e.1 f.1

    numbers : link_events d.world line ≡ link_parts p s sync
    numbers = ap (λ (k : ℕ). link_parts k (site_number d.world second) sync) l.number ∙ ap (λ (k : ℕ). link_parts p k sync) l.number_too

    notes : (v : World) → link_noted d.world line v ≡ record v { nodes = note v.nodes }
    notes v = ap (λ (k : ℕ). worked_on (worked_on v k) (site_number d.world second)) l.number ∙ ap (λ (k : ℕ). worked_on (worked_on v p) k) l.number_too

    -- the disk of the log of this site works, and its fuse may let the calls of two headers pass
    abbrev IsReady : ℕ → Type 0
    IsReady i = ((d.world.nodes i).failing 0 ≡ false) × MayPass (2 * header_calls) (d.world.nodes i).fuse

    ready : ((r : R) → IsRack (g.meaning r)) → (i : ℕ) → i < d.world.sites → (before after : DiskSet R g) → slice_get old.disk_sets.items i ≡ Some before → HeadUnder 4 Done before after → IsReady i
    ready racks i below before after at head =
        let stood : SiteStands (beside_of d i) (d.world.nodes i) before = stands.disk_sets.sites i before below at in (
          head_works racks 4 (beside_of d i) (d.world.nodes i) before after stood head (omega arith) (stands.failing i before below at),
          head_passes racks 4 (beside_of d i) (d.world.nodes i) before after stood head (stands.fuses i before below at),
        )

    leads_by : {e : Doubted} {fails : Fails} {said : Said} (new : Yard R g) → LinkEnds (IsTold new) d line fails said e → (said ≡ Done → IsReady p × IsReady s)
        → NextFor fails (noted_by note d) e old new → Leads d line said old new
    leads_by {e} {fails} new ends needs next = record {
      next = e;
      fails = fails;
      done = record {
        ends = ends;
        counts = tt;
        works = λ is.
            let both = needs is in (
              subst (λ (k : ℕ). (d.world.nodes k).failing 0 ≡ false) (sym l.number) both.0.0,
              subst (λ (k : ℕ). (d.world.nodes k).failing 0 ≡ false) (sym l.number_too) both.1.0,
            );
        calls = λ is.
            let both = needs is in (
              subst (λ (k : ℕ). MayPass (2 * header_calls) (d.world.nodes k).fuse) (sym l.number) both.0.1,
              subst (λ (k : ℕ). MayPass (2 * header_calls) (d.world.nodes k).fuse) (sym l.number_too) both.1.1,
            );
      };
      stands = next.stands;
      carries = λ carries. next.carries (carries_both d old p s carries);
      rose = next.rose;
    }

    -- a part ended it
    ends_by : (e : Event) (i : ℕ) (middle : Doubted) → IsBehind d line note e i middle → (mid new : Yard R g) → NextFor [] (noted_by note d) (noted_by note middle) old mid → (said : Said)
        → HeadedSo note middle e i mid new (Err said) → Leads d line said old new
    ends_by e i middle b mid new before said h =
        let r = headed_ends d line note e i middle b mid new h.0 h.2 in
        subst (λ (x : Said). Leads d line x old new) (sym h.1) (leads_by new r.ends (λ (is : Refused h.0 ≡ Done). absurd (refused_undone h.0 is)) (next_then r.fails (noted_by note d) (noted_by note middle) r.next old mid new before r.goes))

    abbrev joins : Event
    joins = LinkAt p s sync FailsWhenFull Joins

    abbrev makes : Event
    makes = LinkAt p s sync FailsWhenFull Made

    abbrev marks : Event
    marks = LinkAt p s sync FailsWhenFull Marked

    abbrev opening : Event
    opening = LinkAt p s sync FailsWhenFull Opened

    abbrev one : Doubted
    one = behind d joins

    abbrev two : Doubted
    two = behind one makes

    abbrev three : Doubted
    three = behind two marks

    abbrev four : Doubted
    four = behind three opening

    -- the yard stands so far behind the first parts
    abbrev pub Comes : Doubted → Yard R g → Type 0
    Comes middle mid = NextFor [] (noted_by note d) (noted_by note middle) old mid

    pub below_one : (i : ℕ) → i < d.world.sites → i < (noted_by note one).world.sites
    below_one i below = chain.below_one d p s sync fit l.said i below

    pub below_two : (i : ℕ) → i < d.world.sites → i < (noted_by note two).world.sites
    below_two i below = chain.below_two d p s sync fit l.said i below

    pub below_three : (i : ℕ) → i < d.world.sites → i < (noted_by note three).world.sites
    below_three i below = chain.below_three d p s sync fit l.said i below

    -- ---- the second site joins

    called_one : (new : Yard R g) (result : Result (Unit {0}) Said) → HeadsJoin p s sync states old new result → HeadedSo note d joins s old new result
    called_one new result call = call d note (notes_both p s s (inr refl)) start fit l.below_too l.apart l.apart_too l.said l.are.joined

    pub comes_one : (new : Yard R g) → HeadsJoin p s sync states old new (Ok tt) → Comes one new
    comes_one new call = called_one new (Ok tt) call

    pub ends_one : (new : Yard R g) (said : Said) → HeadsJoin p s sync states old new (Err said) → Leads d line said old new
    ends_one new said call =
        ends_by joins s d
        (record {
          before = [];
          rest = makes ∷ marks ∷ opening ∷ [];
          split = numbers;
          runs = refl;
          none = refl;
          opens = chain.open_here d p s sync fit l.said;
          writes = refl;
          takes = refl;
          notes = notes;
          fused = λ f. f;
        })
        old new (next_none (noted_by note d) old start) said (called_one new (Err said) call)

    -- ---- the first one has the link

    called_two : (mid new : Yard R g) (result : Result (Unit {0}) Said) → Comes one mid → HeadsMade p s sync states mid new result → HeadedSo note one makes p mid new result
    called_two mid new result before call =
        call one note (notes_both p s p (inl refl)) before.stands (chain.fit_one d p s sync fit l.said) (chain.below_one d p s sync fit l.said p l.below)
        (ap (λ (n : Node). n.group) (chain.first_one d p s sync fit l.said) ∙ l.apart)
        (ap (λ (n : Node). n.session) (chain.second_one d p s sync fit l.said) ∙ sym l.are.session) (chain.said_two d p s sync fit l.said)
        (chain.made_is d p s sync fit l.said states.made states.session l.are.made)

    pub comes_two : (mid new : Yard R g) → Comes one mid → HeadsMade p s sync states mid new (Ok tt) → Comes two new
    comes_two mid new before call = next_then [] (noted_by note d) (noted_by note one) (noted_by note two) old mid new before (called_two mid new (Ok tt) before call)

    pub ends_two : (mid new : Yard R g) (said : Said) → Comes one mid → HeadsMade p s sync states mid new (Err said) → Leads d line said old new
    ends_two mid new said before call =
        ends_by makes p one
        (record {
          before = joins ∷ [];
          rest = marks ∷ opening ∷ [];
          split = numbers;
          runs = (false, refl);
          none = refl;
          opens = chain.open_one d p s sync fit l.said;
          writes = refl;
          takes = refl;
          notes = notes;
          fused = λ f. subst (λ (n : Node). IsFused n.fuse) (chain.first_one d p s sync fit l.said) f;
        })
        mid new before said (called_two mid new (Err said) before call)

    -- ---- the second one is consistent

    called_three : (mid new : Yard R g) (result : Result (Unit {0}) Said) → Comes two mid → HeadsMarked p s sync states mid new result → HeadedSo note two marks s mid new result
    called_three mid new result before call =
        call two note (notes_both p s s (inr refl)) before.stands (chain.fit_two d p s sync fit l.said) (chain.below_two d p s sync fit l.said s l.below_too)
        (ap (λ (n : Node). n.group) (chain.second_two d p s sync fit l.said) ∙ l.apart_too) (chain.said_three d p s sync fit l.said)
        (chain.marked_is d p s sync fit l.said states.marked l.are.marked)

    pub comes_three : (mid new : Yard R g) → Comes two mid → HeadsMarked p s sync states mid new (Ok tt) → Comes three new
    comes_three mid new before call = next_then [] (noted_by note d) (noted_by note two) (noted_by note three) old mid new before (called_three mid new (Ok tt) before call)

    pub ends_three : (mid new : Yard R g) (said : Said) → Comes two mid → HeadsMarked p s sync states mid new (Err said) → Leads d line said old new
    ends_three mid new said before call =
        ends_by marks s two
        (record {
          before = joins ∷ makes ∷ [];
          rest = opening ∷ [];
          split = numbers;
          runs = (false, (false, refl));
          none = refl;
          opens = chain.open_two d p s sync fit l.said;
          writes = refl;
          takes = refl;
          notes = notes;
          fused = λ f. subst (λ (n : Node). IsFused n.fuse) (chain.second_two d p s sync fit l.said) f;
        })
        mid new before said (called_three mid new (Err said) before call)

    -- ---- the link goes by the log

    called_four : (mid new : Yard R g) (result : Result (Unit {0}) Said) → Comes three mid → HeadsOpened p s sync states mid new result → HeadedSo note three opening p mid new result
    called_four mid new result before call =
        call three note (notes_both p s p (inl refl)) before.stands (chain.fit_three d p s sync fit l.said) (chain.below_three d p s sync fit l.said p l.below)
        (ap (λ (n : Node). n.group) (chain.first_three d p s sync fit l.said) ∙ l.apart)
        (ap (λ (n : Node). n.safe) (chain.first_three d p s sync fit l.said) ∙ sym l.are.last) (chain.said_four d p s sync fit l.said)
        (chain.opened_is d p s sync fit l.said states.opened states.session states.last l.are.last l.are.opened)

    pub ends_four : (mid new : Yard R g) (said : Said) → Comes three mid → HeadsOpened p s sync states mid new (Err said) → Leads d line said old new
    ends_four mid new said before call =
        ends_by opening p three
        (record {
          before = joins ∷ makes ∷ marks ∷ [];
          rest = [];
          split = numbers;
          runs = (false, (false, (false, refl)));
          none = refl;
          opens = chain.open_three d p s sync fit l.said;
          writes = refl;
          takes = refl;
          notes = notes;
          fused = λ f. subst (λ (n : Node). IsFused n.fuse) (chain.first_three d p s sync fit l.said) f;
        })
        mid new before said (called_four mid new (Err said) before call)

    -- all parts are done
    pub ends_done : ((r : R) → IsRack (g.meaning r)) → (mid new : Yard R g) → Comes three mid → HeadsOpened p s sync states mid new (Ok tt) → BothSites (LinkBurns Done) p s old new → Leads d line Done old new
    ends_done racks mid new before call both =
        leads_by {fails = []} new
        (LinksDone four (subst (λ (es : List Event). Runs d es four) (sym numbers) (false, (false, (false, (false, refl))))) (ap (λ (es : List Event). all_fails es) numbers) refl
        (subst (λ (es : List Event). LinkReplies line d four es Done) (sym numbers) (subst (λ (o : EventSaid). RepeatsSaid four.world 0 o Done) (sym (chain.said_four d p s sync fit l.said)) refl))
        (record { world = sym (notes four.world); after = λ i. refl; strayed = refl }))
        (λ is. (ready racks p l.below both.first both.first_new both.there both.did.0, ready racks s l.below_too both.second both.second_new both.there_too both.did.1))
        (next_then [] (noted_by note d) (noted_by note three) (noted_by note four) old mid new before (called_four mid new (Ok tt) before call))

    -- ---- the calls on the disks

    apart : p ≡ s → ⊥
    apart = chain.apart_too d p s sync fit l.said

    -- what the call of the first part promises of the fuse of its site
    abbrev pub CallsJoin : Yard R g → Result (Unit {0}) Said → Type 0
    CallsJoin new result =
        (e : Doubted) (noting : (ℕ → Node) → ℕ → Node) → NotesAt s noting → StandsFor (noted_by noting e) old → LinksFit e → s < e.world.sites → (e.world.nodes s).group ≡ None
        → (step e.world (LinkAt p s sync FailsWhenFull Joins)).said ≡ IsDone → OfSite (HeadUnder 2 (part_said result)) s old new

    pub under_one : (new : Yard R g) (result : Result (Unit {0}) Said) → CallsJoin new result → BothSites (UnderJoined (part_said result)) p s old new
    under_one new result call =
        under_joined p s apart (part_said result) old new (omega (arith, l.below, stands.disk_sets.few, stands.disk_sets.eight)) (omega (arith, l.below_too, stands.disk_sets.few, stands.disk_sets.eight))
        (call d note (notes_both p s s (inr refl)) start fit l.below_too l.apart_too l.said)

    pub under_two : (mid new : Yard R g) (said : Said) → BothSites (UnderJoined Done) p s old mid → OfSite (HeadUnder 2 said) p mid new → BothSites (UnderMade said) p s old new
    under_two mid new said before of = under_made p s apart said old mid new before of

    pub under_three : (mid new : Yard R g) (said : Said) → BothSites (UnderMade Done) p s old mid → OfSite (HeadUnder 2 said) s mid new → BothSites (UnderMarked said) p s old new
    under_three mid new said before of = under_marked p s apart said old mid new before of

    under_four : (mid new : Yard R g) (said : Said) → BothSites (UnderMarked Done) p s old mid → OfSite (HeadUnder 2 said) p mid new → BothSites (UnderOpened said) p s old new
    under_four mid new said before of = under_opened p s apart said old mid new before of

    -- a part ended the line
    pub burns_one : (new : Yard R g) (said : Said) → HeadsJoin p s sync states old new (Err said) → CallsJoin new (Err said) → BothSites (LinkBurns said) p s old new
    burns_one new said call calls =
        let h = called_one new (Err said) call in
        stops_joined p s said h.0 h.1 old new (under_one new (Err said) calls)

    pub burns_two : (mid new : Yard R g) (said : Said) → Comes one mid → HeadsMade p s sync states mid new (Err said) → BothSites (UnderJoined Done) p s old mid → OfSite (HeadUnder 2 said) p mid new
        → BothSites (LinkBurns said) p s old new
    burns_two mid new said before call both of =
        let h = called_two mid new (Err said) before call in
        stops_made p s said h.0 h.1 old new (under_two mid new said both of)

    pub burns_three : (mid new : Yard R g) (said : Said) → Comes two mid → HeadsMarked p s sync states mid new (Err said) → BothSites (UnderMade Done) p s old mid → OfSite (HeadUnder 2 said) s mid new
        → BothSites (LinkBurns said) p s old new
    burns_three mid new said before call both of =
        let h = called_three mid new (Err said) before call in
        stops_marked p s said h.0 h.1 old new (under_three mid new said both of)

    pub burns_four : (mid new : Yard R g) (said : Said) → Comes three mid → HeadsOpened p s sync states mid new (Err said) → BothSites (UnderMarked Done) p s old mid → OfSite (HeadUnder 2 said) p mid new
        → BothSites (LinkBurns said) p s old new
    burns_four mid new said before call both of =
        let h = called_four mid new (Err said) before call in
        stops_opened p s said h.0 h.1 old new (under_four mid new said both of)

    -- all parts are done
    pub burns_done : (mid new : Yard R g) → BothSites (UnderMarked Done) p s old mid → OfSite (HeadUnder 2 Done) p mid new → BothSites (LinkBurns Done) p s old new
    burns_done mid new both of = link_burns p s old new (under_four mid new Done both of)

    -- by the names of its sites
    pub called_named : (said : Said) (new : Yard R g) → BothSites (LinkBurns said) p s old new → HasCalled d.world line said old new
    called_named said new both =
        subst (λ (k : ℕ). BothSites (LinkBurns said) k (site_number d.world second) old new) (sym l.number) (subst (λ (k : ℕ). BothSites (LinkBurns said) p k old new) (sym l.number_too) both)
