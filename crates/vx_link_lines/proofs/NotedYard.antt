-- A yard that stands for a world stands for it with the fuse of a site noted too.
use Rattle.std.proofs.Common.{◌≡◌, ◌∙◌, ◌<◌, ℕ, ap, sym, subst, refl, ⊎_elim, arith}
use Rattle.std.specs.Prelude.{Option, Some, None, slice_get}
use Rattle.std.proofs.lemmas.Bool.{cases_eq}
use Rattle.vx_history.proofs.Updates.{all_updated, at_place}
use Rattle.vx_history.specs.Doubts.{After, Doubted}
use Rattle.vx_history.specs.Refusals.{is_running}
use Rattle.vx_history.specs.Steps.{burned, worked}
use Rattle.vx_history.specs.Stops.{IsOpen}
use Rattle.vx_history.specs.World.{Fuse, FuseLit, FuseSet, NoFuse, Node, updated}
use Rattle.vx_disk.specs.declared.shelf.Shelf.{Ghosts}
use Rattle.vx_diskset.proofs.NotedLikes.{noted_worked}
use Rattle.vx_diskset.proofs.Worked.{stands_worked}
use Rattle.vx_diskset.specs.Asked.{FailsAs, FusedAs}
use Rattle.vx_diskset.specs.Fuses.{LeftAs}
use Rattle.vx_diskset.specs.Holds.{beside_of}
use Rattle.vx_diskset.specs.Noted.{NotedOver}
use Rattle.vx_diskset.specs.Stands.{SiteStands}
use Rattle.vx_diskset.specs.declared.disk_set.DiskSet.{DiskSet}
use Rattle.vx_effects.proofs.Fitting.{updated_other}
use Rattle.vx_effects.proofs.Leaving.{fit_worked}
use Rattle.vx_effects.proofs.Notes.{worked_shows}
use Rattle.vx_events.specs.LinksFit.{LinksFit}
use Rattle.vx_diskset.proofs.Roles.{role_like}
use Rattle.vx_model.specs.Sites.{is_origin}
use Rattle.vx_yard.specs.Carries.{Carries}
use Rattle.vx_link_lines.specs.Headed.{NotesAt, noted_by}
use Rattle.vx_yard.specs.Standing.{IsSameSite, StandsFor, BeginsFirst}
use Rattle.vx_yard.specs.declared.yard.Yard.{Yard}
use Rattle.vx_yard.proofs.Carrying.{Feeds, carries_on, feeds_like, feeds_same}
use Rattle.vx_yard.proofs.Lists.{set_same}
use Rattle.vx_yard.proofs.OneSite.{Changed}
use Rattle.vx_link_lines.proofs.Turned.{stands_turned}
use Rattle.vx_yard.proofs.FirstSites.{begins_like}

-- the note of one site
abbrev pub note_one : ℕ → (ℕ → Node) → ℕ → Node
note_one s nodes = updated nodes s (worked (nodes s))

pub notes_one : (s : ℕ) → NotesAt s (note_one s)
notes_one s = record {
  here = λ nodes. at_place nodes s (worked (nodes s));
  alike = λ nodes new i same. ⊎_elim
      (λ (is : i ≡ s).
      ap (note_one s new) is ∙ at_place new s (worked (new s)) ∙ ap (λ (k : ℕ). worked (new k)) (sym is) ∙ ap (λ (n : Node). worked n) same ∙ ap (λ (k : ℕ). worked (nodes k)) is
      ∙ sym (at_place nodes s (worked (nodes s))) ∙ sym (ap (note_one s nodes) is))
      (λ apart. updated_other new s i (worked (new s)) apart ∙ same ∙ sym (updated_other nodes s i (worked (nodes s)) apart))
      (cases_eq i s);
  shows = λ w. worked_shows w s;
  fits = λ d fit. fit_worked d s fit;
}

pub left_burned : (f : Fuse) (x : Option (ℕ × ℕ)) → LeftAs f x → LeftAs (burned f) x
left_burned NoFuse x h = tt
left_burned (FuseSet calls) x h = h
left_burned (FuseLit most) x h = h

-- a site that runs is not in doubt
pub sure_open : (d : Doubted) (s : ℕ) → LinksFit d → IsOpen (d.world.nodes s) → d.after s ≡ None
sure_open d s fit opens = by (d.after s) refl
  where
    by : (o : Option After) → d.after s ≡ o → o ≡ None
    by None is = refl
    by (Some a) is = absurd (let f = sym (fit.doubts s a is).halted ∙ ap (λ (h : Option ℕ). is_running h) opens.1 in cc)

module _ {R : Type 0} {g : Ghosts R} where
  pub stands_noted : (d : Doubted) (y : Yard R g) (s : ℕ) (e : DiskSet R g) → StandsFor d y → s < d.world.sites → slice_get y.disk_sets.items s ≡ Some e → StandsFor (noted_by (note_one s) d) y
  stands_noted d y s e stands below there =
      let to : Doubted = noted_by (note_one s) d in
      let here : to.world.nodes s ≡ worked (d.world.nodes s) = at_place d.world.nodes s (worked (d.world.nodes s)) in
      let fails : FailsAs (d.world.nodes s) e = stands.failing s e below there in
      let lit : FusedAs (d.world.nodes s) e = stands.fuses s e below there in
      let changed : Changed y y s e e = record { there = there; later = record { counts = λ k. omega arith; told = λ told. told }; disk_sets = sym (set_same y.disk_sets.items s e there); racks = refl } in
      stands_turned d to y y s e e stands below changed
      (record {
        changes = record {
          sites = refl;
          nodes = λ i apart. updated_other d.world.nodes s i (worked (d.world.nodes s)) apart;
          links = λ i k apart. refl;
          headers = λ i apart. refl;
          after = λ i apart. refl;
          strayed = λ calm. calm;
          gathering = λ i apart. refl;
        };
        links = fit_worked d s stands.links;
        stands = subst (λ (n : Node). SiteStands (beside_of d s) n e) (sym here) (stands_worked (beside_of d s) (d.world.nodes s) e (stands.disk_sets.sites s e below there));
        failing = subst (λ (n : Node). FailsAs n e) (sym here) (record { told = fails.told });
        fuse = subst (λ (n : Node). FusedAs n e) (sym here) (record { told = λ x at. left_burned (d.world.nodes s).fuse x.fuse (lit.told x at) });
        role = role_like (d.world.nodes s) (to.world.nodes s) e (ap (λ (n : Node). is_origin n.role) here) (stands.roles.each s e below there);
      })
      (λ first. subst (λ (n : Node). BeginsFirst s n) (sym here) (begins_like s (d.world.nodes s) (worked (d.world.nodes s)) (λ bare. bare) refl refl refl refl first))
      (λ noted. subst (λ (n : Node). NotedOver n e) (sym here) (noted_worked (d.world.nodes s) e noted))
      (stands.facts ∙ sym (worked_shows d.world s))
      (λ a is. subst (λ (n : Node). IsSameSite n a.node) (sym here)
      (let same = stands.doubts s a is in record { name = same.name; disks = same.disks; blocks = same.blocks; volumes = same.volumes }))

  -- what it carries does not look at fuses
  pub carries_noted : (d : Doubted) (y : Yard R g) (s : ℕ) → Carries d y → Carries (noted_by (note_one s) d) y
  carries_noted d y s carries = carries_on d (noted_by (note_one s) d) y y carries (record { flight = refl; assemblies = refl; feeders = refl }) refl (λ i. refl) (λ i. feeds_noted i) (λ told. told) (λ calm. calm)
    where
      feeds_noted : (i : ℕ) → Feeds (d.world.nodes i) (note_one s d.world.nodes i)
      feeds_noted = all_updated (λ (i : ℕ) (m : Node). Feeds (d.world.nodes i) m) d.world.nodes s (worked (d.world.nodes s)) (feeds_like (d.world.nodes s) (worked (d.world.nodes s)) refl refl refl)
          (λ i apart. feeds_same (d.world.nodes i) (d.world.nodes i) refl)
