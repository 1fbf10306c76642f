-- How a line that settles a link ends, by how its parts went.
use Rattle.std.proofs.Common.{◌≡◌, ◌∙◌, ◌⊎◌, ⊎_elim, inl, inr, ◌<◌, ◌≤◌, ◌++◌, ℕ, List, [], ◌∷◌, Bool, true, false, ap, sym, subst, refl, arith}
use Rattle.std.specs.Prelude.{eqb, if◌then◌else◌}
use Rattle.vx_model.specs.Sites.{is_origin}
use Rattle.vx_model.specs.declared.no.No.{No}
use Rattle.vx_model.proofs.Lists.{get_there}
use Rattle.vx_history.proofs.Updates.{eqb_equal}
use Rattle.vx_history.specs.Doubts.{Doubted}
use Rattle.vx_history.specs.Steps.{worked, worked_on}
use Rattle.vx_history.specs.World.{World}
use Rattle.vx_history.specs.declared.event.Event.{Event}
use Rattle.vx_disk.specs.declared.shelf.Shelf.{Ghosts}
use Rattle.vx_events.specs.Facts.{site_number}
use Rattle.vx_events.specs.LinkEnds.{AreLeft}
use Rattle.vx_events.specs.LinkLists.{link_events}
use Rattle.vx_events.specs.Parts.{StopsInPart, StopsShort}
use Rattle.vx_events.specs.declared.said.Said.TheVariants.{Refused, Settled}
use Rattle.vx_script.specs.declared.line.ScriptLine.TheVariants.{Settle}
use Rattle.vx_settling.proofs.Burning.{both_burnt}
use Rattle.vx_settling.proofs.Moving.{line_short, passes_then}
use Rattle.vx_settling.proofs.Running.{are_all, are_parts, run_is, runs_only}
use Rattle.vx_settling.proofs.Stopping.{runs_then, settle_part}
use Rattle.vx_settling.proofs.Working.{line_done, line_stopped}
use Rattle.vx_settling.specs.Burnt.{noted_as}
use Rattle.vx_settling.specs.Kinds.{AreSettling}
use Rattle.vx_settling.specs.Works.{CalmTold, Shortens, SettleWorks}
use Rattle.vx_yard.specs.Carries.{Carries}
use Rattle.vx_node.specs.Settling.{EndedFor, NotedFor, OnFor, ShortFor}
use Rattle.vx_yard.specs.Standing.{Leads, StandsFor, StopsFor}
use Rattle.vx_yard.specs.Stands.{AreTold, RoseAll}
use Rattle.vx_yard.specs.Yards.{IsTold, count_of}
use Rattle.vx_yard.specs.declared.yard.Yard.{Yard}
use Rattle.vx_yard.proofs.Carrying.{Feeds, carries_on, feeds_like, feeds_same}
use Rattle.vx_link_lines.proofs.Deaf.{all_calm}
use Rattle.vx_link_lines.proofs.NotedYard.{stands_noted}
use Rattle.vx_yard.proofs.RecoverLine.{rose_then}

-- the fuses of two sites are noted
abbrev pub noted_two : (a b : ℕ) → Doubted → Doubted
noted_two a b d = record d { world = worked_on (worked_on d.world a) b }

module _ {R : Type 0} {g : Ghosts R} where
  note_stands : (d : Doubted) (y : Yard R g) (s : ℕ) → StandsFor d y → s < d.world.sites → StandsFor (record d { world = worked_on d.world s }) y
  note_stands d y s stands below =
      let one = get_there y.disk_sets.items s (omega (arith, below, stands.disk_sets.few, stands.disk_sets.eight)) in
      stands_noted d y s one.0 stands below one.1

  note_carries : (d : Doubted) (y : Yard R g) (s : ℕ) → Carries d y → Carries (record d { world = worked_on d.world s }) y
  note_carries d y s carries =
      carries_on d (record d { world = worked_on d.world s }) y y carries (record { flight = refl; assemblies = refl; feeders = refl }) refl (λ i. refl) (λ i. by i (eqb i s) refl) (λ told. told) (λ calm. calm)
    where
      by : (i : ℕ) (c : Bool) → eqb i s ≡ c → Feeds (d.world.nodes i) (if c then worked (d.world.nodes s) else d.world.nodes i)
      by i true is = subst (λ (j : ℕ). Feeds (d.world.nodes j) (worked (d.world.nodes s))) (sym (eqb_equal i s is)) (feeds_like (d.world.nodes s) (worked (d.world.nodes s)) refl refl refl)
      by i false is = feeds_same (d.world.nodes i) (d.world.nodes i) refl

  -- where some of them were noted, both are
  both_same : (a b : ℕ) (d : Doubted) (y : Yard R g) (n : NotedFor a b d y) → noted_two a b (noted_as n.fuses d) ≡ noted_two a b d
  both_same a b d y n = ap (λ (w : World). let q : Doubted = record d { world = w } in q) (both_burnt a b n.fuses d.world n.burns)

  pub both_stand : (a b : ℕ) (d : Doubted) (y : Yard R g) → NotedFor a b d y → a < d.world.sites → b < d.world.sites → StandsFor (noted_two a b d) y
  both_stand a b d y n first second =
      subst (λ (q : Doubted). StandsFor q y) (both_same a b d y n)
      (note_stands (record (noted_as n.fuses d) { world = worked_on (noted_as n.fuses d).world a }) y b (note_stands (noted_as n.fuses d) y a n.stands first) second)

  pub both_carry : (a b : ℕ) (d : Doubted) (y : Yard R g) → NotedFor a b d y → Carries (noted_two a b d) y
  both_carry a b d y n =
      subst (λ (q : Doubted). Carries q y) (both_same a b d y n)
      (note_carries (record (noted_as n.fuses d) { world = worked_on (noted_as n.fuses d).world a }) y b (note_carries (noted_as n.fuses d) y a n.carries))

  -- whether contents are told, and the world has not strayed
  calm_known : (d : Doubted) (y : Yard R g) → CalmTold (IsTold y) d ⊎ (CalmTold (IsTold y) d → ⊥)
  calm_known d y = by (all_calm y.disk_sets.items d.strayed)
    where
      by : (AreTold y.disk_sets.items × (d.strayed ≡ false)) ⊎ (AreTold y.disk_sets.items → d.strayed ≡ false → ⊥) → CalmTold (IsTold y) d ⊎ (CalmTold (IsTold y) d → ⊥)
      by (inl both) = inl both
      by (inr untold) = inr (λ both. untold both.0 both.1)

  module _ (d : Doubted) (p s : List ℕ) (old new : Yard R g) where
    abbrev a : ℕ
    a = site_number d.world p

    abbrev b : ℕ
    b = site_number d.world s

    abbrev all : List Event
    all = link_events d.world (Settle p s)

    -- all is done
    pub settle_leads : (on : OnFor p s (site_number d.world p) (site_number d.world s) d (link_events d.world (Settle p s)) old new) → is_origin (d.world.nodes (site_number d.world p)).role ≡ true
        → (d.world.nodes (site_number d.world p)).safe ≤ (on.next.world.links (site_number d.world p) (site_number d.world s)).stored → Leads d (Settle p s) (Settled (d.world.nodes (site_number d.world p)).safe) old new
    settle_leads on origin stored =
        let e : Doubted = on.next in
        let can = on.serves.may.can in
        record {
          next = noted_two a b e;
          fails = [];
          done = record {
            ends = line_done (IsTold new) d (calm_known d new) p s e (noted_two a b e) origin on.works stored (record { world = refl; after = λ i. refl; strayed = refl });
            counts = tt;
            works = tt;
            calls = tt;
          };
          stands = both_stand a b e new on.serves.noted can.first can.second;
          carries = λ _. both_carry a b e new on.serves.noted;
          rose = on.rose;
        }

    -- it was refused
    pub settle_ended : (why : No) → (end : EndedFor (site_number d.world p) (site_number d.world s) d (link_events d.world (Settle p s)) why old new) → site_number d.world p < d.world.sites → site_number d.world s < d.world.sites
        → Leads d (Settle p s) (Refused why) old new
    settle_ended why end first second =
        let e : Doubted = end.last in
        record {
          next = noted_two a b e;
          fails = end.fails;
          done = record {
            ends = line_stopped (IsTold new) d (calm_known d new) p s end.fails (Refused why) e (noted_two a b e) end.stops (record { world = refl; after = λ i. refl; strayed = refl });
            counts = tt;
            works = tt;
            calls = tt;
          };
          stands = both_stand a b e new end.noted (subst (λ (n : ℕ). a < n) (sym end.sites) first) (subst (λ (n : ℕ). b < n) (sym end.sites) second);
          carries = λ _. both_carry a b e new end.noted;
          rose = end.rose;
        }

    -- memory ran out behind the first event
    module _ (x : Event) (rest : List Event) (m : Doubted) (mid : Yard R g) where
      short_so : (CalmTold (IsTold new) d → link_events d.world (Settle p s) ≡ x ∷ rest) → SettleWorks (CalmTold (IsTold new) d) (site_number d.world p) (site_number d.world s) d (x ∷ []) m → (last : Doubted) → Shortens (CalmTold (IsTold new) m) (site_number d.world p) (site_number d.world s) m rest last
          → StopsShort (IsTold new) d (Settle p s) (noted_two (site_number d.world p) (site_number d.world s) last)
      short_so split one last short = ⊎_elim
          (λ (tells : CalmTold (IsTold new) d).
          let first = short.exact (tells.0, one.moves.strayed ∙ tells.1) in
          let runs = runs_then d m last (x ∷ []) first.before (one.exact tells) first.runs in
          let more : link_events d.world (Settle p s) ≡ (x ∷ first.before) ++ first.rest = split tells ∙ ap (λ (es : List Event). x ∷ es) first.split in
          let are = are_parts (x ∷ first.before) first.rest (subst AreSettling more (are_all d.world (site_number d.world p) (site_number d.world s))) in
          let same = runs_only d last (x ∷ first.before) are.0 runs ∙ sym (run_is d (x ∷ first.before) are.0) in
          StopsInPart (settle_part d p s (x ∷ first.before) first.rest (noted_two a b last) more (subst (λ (q : Doubted). AreLeft (Settle p s) d q (noted_two a b last)) same (record { world = refl; after = λ i. refl; strayed = refl }))))
          (λ (untold : CalmTold (IsTold new) d → ⊥).
          line_short (IsTold new) d last p s (passes_then a b d m last one.moves short.moves) (noted_two a b last) (λ tells calm. untold (tells, calm)) (record { world = refl; after = λ i. refl; strayed = refl }))
          (calm_known d new)

      pub settle_short : (CalmTold (IsTold new) d → link_events d.world (Settle p s) ≡ x ∷ rest) → SettleWorks (CalmTold (IsTold new) d) (site_number d.world p) (site_number d.world s) d (x ∷ []) m → RoseAll [] (count_of old) (count_of mid)
          → site_number d.world p < d.world.sites → site_number d.world s < d.world.sites → ShortFor (site_number d.world p) (site_number d.world s) m rest mid new → StopsFor d (Settle p s) old new
      settle_short split one rose first second short =
          let e : Doubted = short.last in
          let moves = passes_then a b d m e one.moves short.short.moves in
          record {
            next = noted_two a b e;
            part = short_so split one e short.short;
            stands = both_stand a b e new short.noted (subst (λ (n : ℕ). a < n) (sym moves.sites) first) (subst (λ (n : ℕ). b < n) (sym moves.sites) second);
            carries = λ _. both_carry a b e new short.noted;
            rose = rose_then [] (count_of old) (count_of mid) (count_of new) rose short.rose;
          }
