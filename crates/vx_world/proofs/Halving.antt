-- An event of a site that a failing disk ended: what the site is then, and what it may be on its disks, are both sound.
use Rattle.std.proofs.Common.{◌≡◌, ◌∙◌, inl, inr, ℕ, ap, sym, subst, refl, Bool, true, false, Some}
use Rattle.std.specs.Prelude.{Option, eqb, if◌then◌else◌}
use Rattle.std.proofs.lemmas.Bool.{cases_eq}
use Rattle.vx_history.proofs.GoodLemmas.{up_is_made, made_is_given}
use Rattle.vx_history.proofs.Updates.{at_place, eqb_equal}
use Rattle.vx_history.specs.Refusals.{is_running}
use Rattle.vx_history.specs.Sends.{is_linked}
use Rattle.vx_history.specs.Steps.{stopped_by, burned}
use Rattle.vx_history.specs.Groups.{GroupNode}
use Rattle.vx_history.specs.World.{Node, Link, Fuse, World, updated}
use Rattle.vx_model.specs.declared.site.SiteState.TheVariants.{Up}
use Rattle.vx_world.proofs.Crashes.{fault_keeps}
use Rattle.vx_history.specs.GoodGatherings.{Gathers}
use Rattle.vx_history.specs.GoodWorld.{GoodWorld}
use Rattle.vx_history.specs.Doubts.{After, resolved}
use Rattle.vx_history.specs.Likes.{IsLike}
use Rattle.vx_history.specs.Listed.{HasPlaces}
use Rattle.vx_world.specs.Twins.{Twin, GoodTwin, IsAlone}
use Rattle.vx_world.proofs.Keeping.{gather_up}
use Rattle.vx_world.proofs.Moves.{sound_gathering}
use Rattle.vx_world.proofs.Liking.{sound_like, fits_like}
use Rattle.vx_world.proofs.KeptSites.{stopped_leaves}

pub aside : {A : Type 0} (f : ℕ → A) (s : ℕ) (x : A) (i : ℕ) → (i ≡ s → ⊥) → updated f s x i ≡ f i
aside f s x i apart = by_place (eqb i s) refl
  where
    by_place : (b : Bool) → eqb i s ≡ b → (if b then x else f i) ≡ f i
    by_place true e = absurd (apart (eqb_equal i s e))
    by_place false e = refl

abbrev pub half : Node → ℕ → Node
half n disk = record n { halted = Some disk; fuse = burned n.fuse }

module _ (s disk : ℕ) (w u : World) (good : GoodWorld w) (done : GoodWorld u) (up : (w.nodes s).state ≡ Up) (alone : IsAlone s w u) where
  abbrev was : World
  was = stopped_by w s disk

  abbrev after : After
  after = record { node = half (u.nodes s) disk; row = u.links s }

  abbrev may : World
  may = resolved was s after

  abbrev did : World
  did = stopped_by u s disk

  same_node : (i : ℕ) → may.nodes i ≡ did.nodes i
  same_node i = elim (cases_eq i s) [
    | inl same ↦
        subst (λ (j : ℕ). may.nodes j ≡ did.nodes j) (sym same)
        (at_place was.nodes s (half (u.nodes s) disk) ∙ sym (at_place u.nodes s (half (u.nodes s) disk)))
    | inr apart ↦
        aside was.nodes s (half (u.nodes s) disk) i apart ∙ aside w.nodes s (half (w.nodes s) disk) i apart ∙ sym (alone.nodes i apart) ∙ sym
        (aside u.nodes s (half (u.nodes s) disk) i apart)
  ]

  same_row : (i : ℕ) → may.links i ≡ did.links i
  same_row i = elim (cases_eq i s) [
    | inl same ↦ subst (λ (j : ℕ). may.links j ≡ did.links j) (sym same) (at_place w.links s (u.links s))
    | inr apart ↦ aside w.links s (u.links s) i apart ∙ sym (alone.rows i apart)
  ]

  noted : (a b : Node) → b ≡ a → b ≡ record a { fuse = b.fuse; failing = b.failing; group = b.group }
  noted a b e =
      e
      ∙ ap (λ (f : Fuse). let n : Node = record a { fuse = f } in n) (sym (ap (λ (n : Node). n.fuse) e))
      ∙ ap (λ (f : ℕ → Bool). let n : Node = record a { fuse = b.fuse; failing = f } in n) (sym (ap (λ (n : Node). n.failing) e))
      ∙ ap (λ (g : Option GroupNode). let n : Node = record a { fuse = b.fuse; failing = b.failing; group = g } in n) (sym (ap (λ (n : Node). n.group) e))

  -- the world behind the event, with what the site had in assembly before it
  abbrev told : World
  told = record did { gathering = w.gathering }

  like : IsLike told may
  like = record {
    sites = sym alone.sites;
    nodes = λ i. noted (did.nodes i) (may.nodes i) (same_node i);
    links = λ p q. let e : may.links p q ≡ did.links p q = ap (λ (r : ℕ → Link). r q) (same_row p) in record { linked = ap is_linked e; same = λ _. e };
    lines = λ l. ap (λ f. f l) (sym alone.lines);
    packets = sym alone.packets;
    promised = sym alone.promised;
    gathering = λ i. refl;
  }

  twin : Twin s was may
  twin = record {
    sites = refl;
    nodes = λ i apart. aside was.nodes s (half (u.nodes s) disk) i apart;
    rows = λ i apart. aside w.links s (u.links s) i apart;
    lines = refl;
    packets = refl;
    promised = refl;
    gathering = λ i. refl;
    here = made_is_given w s good.sound.good (up_is_made (w.nodes s) up);
    name = ap (λ (n : Node). n.name) (at_place was.nodes s (half (u.nodes s) disk)) ∙ alone.name ∙ sym
        (ap (λ (n : Node). n.name) (at_place w.nodes s (half (w.nodes s) disk)));
    up = ap (λ (n : Node). n.state) (at_place w.nodes s (half (w.nodes s) disk)) ∙ up;
    up_too = ap (λ (n : Node). n.state) (at_place was.nodes s (half (u.nodes s) disk)) ∙ alone.up;
    halted = ap (λ (n : Node). is_running n.halted) (at_place w.nodes s (half (w.nodes s) disk));
    halted_too = ap (λ (n : Node). is_running n.halted) (at_place was.nodes s (half (u.nodes s) disk));
  }

  -- what is in assembly is as it was
  gathers : Gathers may
  gathers = record {
    parts = good.gathers.parts;
    each = λ i. gather_up i (w.nodes i) (may.nodes i) w.packets (w.gathering i) (stays_up i) (good.gathers.each i);
  }
    where
      stays_up : (i : ℕ) → (w.nodes i).state ≡ Up
          → ((resolved (stopped_by w s disk) s (record { node = half (u.nodes s) disk; row = u.links s })).nodes i).state ≡ Up
      stays_up i is = elim (cases_eq i s) [
        | inl same ↦ subst (λ (j : ℕ). (may.nodes j).state ≡ Up) (sym same)
            (ap (λ (n : Node). n.state) (at_place was.nodes s (half (u.nodes s) disk)) ∙ alone.up)
        | inr apart ↦ ap (λ (n : Node). n.state) (aside was.nodes s (half (u.nodes s) disk) i apart ∙ aside w.nodes s (half (w.nodes s) disk) i apart) ∙ is
      ]

  -- each row is one of before or one of behind the event
  places : (p : ℕ) → HasPlaces may.sites (may.links p)
  places p = subst (λ (row : ℕ → Link). HasPlaces w.sites row) (sym (same_row p)) (subst (λ (n : ℕ). HasPlaces n (u.links p)) alone.sites (done.places p))

  pub half_good : GoodTwin s was may
  half_good = record {
    twin = twin;
    good = record { sound = fault_keeps w s disk good.sound up; fits = (stopped_leaves w s disk).fits good.fits; gathers = (stopped_leaves w s disk).gathers good.gathers; places = good.places };
    good_too = record {
      sound = sound_like told may (sound_gathering did w.gathering (fault_keeps u s disk done.sound alone.up)) like;
      fits = fits_like told may (sound_gathering did w.gathering (fault_keeps u s disk done.sound alone.up)) like
          (let f = (stopped_leaves u s disk).fits done.fits in record { sized = f.sized; logs = f.logs; held = f.held; alike = f.alike; alone = f.alone });
      gathers = gathers;
      places = places;
    };
  }
