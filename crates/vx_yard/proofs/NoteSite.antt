-- A site of which a line notes something, and the events of one step, where sites may be in doubt.
use Rattle.std.proofs.Common.{◌≡◌, ◌∙◌, ℕ, false, List, [], ◌∷◌, ap, sym, subst, refl}
use Rattle.std.specs.Prelude.{Option, None}
use Rattle.vx_history.proofs.Updates.{at_place}
use Rattle.vx_history.specs.Doubts.{Doubted, crashed_by, resolved_for}
use Rattle.vx_history.specs.Refusals.{Outcome}
use Rattle.vx_history.specs.Step.{headers_counted, outcome_of, run, step}
use Rattle.vx_history.specs.World.{Node, World, with_node}
use Rattle.vx_history.specs.declared.event.Event.{Event}
use Rattle.vx_disk.specs.declared.shelf.Shelf.{Ghosts}
use Rattle.vx_script.specs.declared.line.ScriptLine.{ScriptLine}
use Rattle.vx_diskset.specs.Asked.{FailsAs, FusedAs}
use Rattle.vx_diskset.specs.Holds.{beside_of}
use Rattle.vx_diskset.proofs.Roles.{role_like}
use Rattle.vx_diskset.specs.Stands.{RoleIs, SiteStands}
use Rattle.vx_diskset.specs.declared.disk_set.DiskSet.{DiskSet}
use Rattle.vx_events.proofs.Calm.{chosen_world, run_world}
use Rattle.vx_events.proofs.Straying.{run_strays}
use Rattle.vx_events.specs.Doubts.{run_as}
use Rattle.vx_events.specs.Effects.{ChangesNode}
use Rattle.vx_events.specs.Ends.{AllDone, DiskFails, Ends, LeavesOf, MayName, noted}
use Rattle.vx_effects.proofs.Leaving.{fit_note}
use Rattle.vx_events.specs.LinksFit.{LinksFit}
use Rattle.vx_events.specs.Lists.{Choice, events_of}
use Rattle.vx_events.specs.Sayings.{Replies, RepeatsOf}
use Rattle.vx_events.specs.declared.said.Said.{Said}
use Rattle.vx_events.specs.declared.said.Said.TheVariants.{Refused}
use Rattle.vx_model.specs.Sites.{is_origin}
use Rattle.vx_model.specs.declared.no.No.TheVariants.{Device}
use Rattle.vx_yard.proofs.Alike.{apart_place}
use Rattle.vx_yard.specs.Standing.{IsSameSite}
use Rattle.vx_yard.proofs.OneSite.{Comes}
use Rattle.vx_yard.proofs.SiteEvents.{first_choice}
use Rattle.vx_effects.proofs.Effects.{changes_then}

-- the world in which a site has this node
abbrev pub with_one : Doubted → (s : ℕ) → Node → Doubted
with_one d s n = record d { world = with_node d.world s n }

pub changes_one : (d : Doubted) (s : ℕ) (n : Node) → ChangesNode s d (with_one d s n)
changes_one d s n = record {
  sites = refl;
  nodes = λ i apart. apart_place d.world.nodes s n i apart;
  links = λ i k apart. refl;
  headers = λ i apart. refl;
  after = λ i apart. refl;
  strayed = λ calm. calm;
  gathering = λ i apart. refl;
}

-- a node of which nothing changed but what is noted of its disks
abbrev pub IsNoted : Node → Node → Type 0
IsNoted n m = m ≡ record n { fuse = m.fuse; failing = m.failing; group = m.group }

-- links fit as well
pub fits_one : (d : Doubted) (s : ℕ) (n : Node) → IsNoted (d.world.nodes s) n → LinksFit d → LinksFit (with_one d s n)
fits_one d s n noted fits =
    fit_note d s n (ap (λ (m : Node). m.state) noted) (ap (λ (m : Node). m.halted) noted) (ap (λ (m : Node). m.role) noted)
    (record {
      quiet = λ e. ap (λ (m : Node). m.phase) noted ∙ e;
      rests = λ was down. ap (λ (m : Node). m.fed_by) noted ∙ was (sym (ap (λ (m : Node). m.state) noted) ∙ down) ∙ sym (ap (λ (m : Node). m.other) noted);
    }) fits

-- a line without events is done
pub none_left : (told : Type 0) (d : Doubted) (line : ScriptLine) (s : ℕ) (said : Said) (v : World) → events_of d.world line first_choice ≡ [] → Replies told line s false d [] said → v ≡ noted s line d.world
    → Ends told d line s [] said (record d { world = v })
none_left told d line s said v is says leads = AllDone first_choice false tt
    (subst (λ (es : List Event). Replies told line s false d es said) (sym is) says)
    (record {
      world = leads ∙ ap (λ (es : List Event). noted s line (run d.world es)) (sym is) ∙ ap (λ (u : World). noted s line u) (sym (run_world d (events_of d.world line first_choice)));
      after = λ i. ap (λ (es : List Event). (run_as false d es).after i) (sym is);
      strayed = sym (run_strays false d (events_of d.world line first_choice));
    })

-- a line that was done by its one event, which crashes no site
pub one_left : (told : Type 0) (d : Doubted) (line : ScriptLine) (s : ℕ) (c : Choice) (e : Event) (o : Outcome) (said : Said) (v : World) → events_of d.world line c ≡ e ∷ [] → crashed_by e ≡ None → outcome_of d.world e ≡ o
    → RepeatsOf told s e (headers_counted d.world e o) said → v ≡ noted s line (headers_counted d.world e o).world → Ends told d line s [] said (record d { world = v })
one_left told d line s c e o said v is whole at says leads =
    let here : RepeatsOf told s e (step d.world e) said = subst (λ (p : Outcome). RepeatsOf told s e (headers_counted d.world e p) said) (sym at) says in
    AllDone c false tt
    (subst (λ (es : List Event). Replies told line s false d es said) (sym is) (subst (λ (u : World). RepeatsOf told s e (step u e) said) (sym (chosen_world d e)) here))
    (record {
      world = leads ∙ ap (λ (p : Outcome). noted s line (headers_counted d.world e p).world) (sym at) ∙ ap (λ (es : List Event). noted s line (run d.world es)) (sym is)
          ∙ ap (λ (u : World). noted s line u) (sym (run_world d (events_of d.world line c)));
      after = λ i. ap (λ (k : Option ℕ). (resolved_for k d false).after i) (sym whole) ∙ ap (λ (es : List Event). (run_as false d es).after i) (sym is);
      strayed = sym (run_strays false d (events_of d.world line c));
    })

-- a disk failed, and nothing of the line's one event stands
pub only_left : (told : Type 0) (d : Doubted) (line : ScriptLine) (s : ℕ) (e : Event) (disk : ℕ) → events_of d.world line first_choice ≡ e ∷ [] → LeavesOf e disk [] → MayName (d.world.nodes s) e disk → noted s line d.world ≡ d.world
    → Ends told d line s ((s, disk) ∷ []) (Refused (Device disk)) d
only_left told d line s e disk is leaves names still = DiskFails first_choice false [] e [] [] disk is leaves names refl refl (record { world = sym still; after = λ i. refl; strayed = refl })

module _ {R : Type 0} {g : Ghosts R} where
  -- a site whose node is another, with what it has beside it
  pub comes_one : (d : Doubted) (s : ℕ) (n : Node) (after : DiskSet R g) → IsNoted (d.world.nodes s) n → LinksFit d → SiteStands (beside_of d s) n after → FailsAs n after → FusedAs n after → RoleIs (d.world.nodes s) after → Comes d (with_one d s n) s after
  comes_one d s n after noted fits stands failing fuse role =
      let here : n ≡ (with_one d s n).world.nodes s = sym (at_place d.world.nodes s n) in
      record {
        changes = changes_one d s n;
        links = fits_one d s n noted fits;
        stands = subst (λ (m : Node). SiteStands (beside_of d s) m after) here stands;
        failing = subst (λ (m : Node). FailsAs m after) here failing;
        fuse = subst (λ (m : Node). FusedAs m after) here fuse;
        role = subst (λ (m : Node). RoleIs m after) here (role_like (d.world.nodes s) n after (ap (λ (m : Node). is_origin m.role) noted) role);
        doubt = λ was a is.
            let w = was a is in
            subst (λ (m : Node). IsSameSite m a.node) here
            (record {
              name = w.name ∙ sym (ap (λ (m : Node). m.name) noted);
              disks = w.disks ∙ sym (ap (λ (m : Node). m.disks) noted);
              blocks = w.blocks ∙ sym (ap (λ (m : Node). m.blocks) noted);
              volumes = w.volumes ∙ sym (ap (λ (m : Node). m.volumes) noted);
            });
      }

  -- one thing behind another
  pub comes_then : (d e f : Doubted) (s : ℕ) (mid after : DiskSet R g) → Comes d e s mid → Comes e f s after → Comes d f s after
  comes_then d e f s mid after first second = record {
    changes = changes_then s d e f first.changes second.changes;
    links = second.links;
    stands = second.stands;
    failing = second.failing;
    fuse = second.fuse;
    role = second.role;
    doubt = λ was a is. second.doubt (first.doubt was) a is;
  }

  -- a site of which nothing is noted
  pub comes_same : (d : Doubted) (s : ℕ) (after : DiskSet R g) → LinksFit d → SiteStands (beside_of d s) (d.world.nodes s) after → FailsAs (d.world.nodes s) after → FusedAs (d.world.nodes s) after → RoleIs (d.world.nodes s) after → Comes d d s after
  comes_same d s after fits stands failing fuse role = record {
    changes = record { sites = refl; nodes = λ i apart. refl; links = λ i k apart. refl; headers = λ i apart. refl; after = λ i apart. refl; strayed = λ calm. calm; gathering = λ i apart. refl };
    links = fits;
    stands = stands;
    failing = failing;
    fuse = fuse;
    role = role;
    doubt = λ was a is. was a is;
  }
