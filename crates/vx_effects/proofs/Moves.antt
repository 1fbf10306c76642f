-- The ways in which an event changes the world, by what they keep of its links, of the states and roles of its sites and of sites in doubt.
use Rattle.std.proofs.Common.{◌≡◌, ◌∙◌, ℕ, ◌≤◌, ◌<◌, true, false, refl, ap, sym, subst}
use Rattle.std.specs.Prelude.{Some}
use Rattle.vx_history.proofs.Updates.{all_updated}
use Rattle.vx_history.specs.Doubts.{After, Doubted}
use Rattle.vx_history.specs.Refusals.{is_running}
use Rattle.vx_model.specs.Sites.{is_origin}
use Rattle.vx_history.specs.Sends.{is_linked, is_made, with_links}
use Rattle.vx_history.specs.World.{Link, Node, World, updated, with_node}
use Rattle.vx_model.specs.declared.site.SPhase.TheVariants.{Quiet}
use Rattle.vx_model.specs.declared.site.SiteState.TheVariants.{Bare, Up}
use Rattle.vx_events.specs.LinksFit.{DoubtFits, IsBlank, IsRested, LinksFit, RowFits}
use Rattle.vx_effects.proofs.Links.{KeepsLink, keeps_same, keeps_then, row_moves}

-- a site that is up stays so, and halted where it was
pub record Stays (n m : Node) : Type 0 where
  pub up : n.state ≡ Up → m.state ≡ Up
  pub halted : n.state ≡ Up → is_running n.halted ≡ false → is_running m.halted ≡ false

pub stays_same : (n : Node) → Stays n n
stays_same n = record { up = λ up. up; halted = λ up h. h }

-- a site comes to no replay, and one that goes down was fed by none since
pub record Rests (n m : Node) : Type 0 where
  pub quiet : n.phase ≡ Quiet → m.phase ≡ Quiet
  pub rests : IsRested n → IsRested m

pub rests_same : (n : Node) → Rests n n
rests_same n = record { quiet = λ e. e; rests = λ e. e }

-- a site that has links among so many sites is still one where writes arise, if it was
abbrev pub StillKeeps : (sites : ℕ) → (row : ℕ → Link) → (n m : Node) → Type 0
StillKeeps sites row n m = (k : ℕ) → k < sites → is_linked (row k) ≡ true → is_origin n.role ≡ true → is_origin m.role ≡ true

pub keeps_role : (sites : ℕ) (row : ℕ → Link) (n m : Node) → m.role ≡ n.role → StillKeeps sites row n m
keeps_role sites row n m e = λ k _ _ keeps. ap is_origin e ∙ keeps

-- Each link is kept, and writes arise where it starts, if they did; no site becomes bare or comes to a replay, and none comes to be beyond the last; where E holds, a site that
-- is up stays so, and halted.
pub record Moves (E : ℕ → Type 0) (w v : World) : Type 0 where
  pub sites : v.sites ≡ w.sites
  pub links : (p k : ℕ) → KeepsLink (w.links p k) (v.links p k)
  pub bare : (p : ℕ) → (v.nodes p).state ≡ Bare → (w.nodes p).state ≡ Bare
  pub later : (p : ℕ) → w.sites ≤ p → (w.nodes p).state ≡ Bare → (v.nodes p).state ≡ Bare
  pub stays : (p : ℕ) → E p → Stays (w.nodes p) (v.nodes p)
  pub starts : (p : ℕ) → StillKeeps w.sites (w.links p) (w.nodes p) (v.nodes p)
  pub rests : (p : ℕ) → Rests (w.nodes p) (v.nodes p)

abbrev pub All : ℕ → Type 0
All p = Unit {0}

module _ (E : ℕ → Type 0) where
  pub moves_same : (w : World) → Moves E w w
  moves_same w = record {
    sites = refl;
    links = λ p k. keeps_same (w.links p k);
    bare = λ p b. b;
    later = λ p h b. b;
    stays = λ p e. stays_same (w.nodes p);
    starts = λ p. keeps_role w.sites (w.links p) (w.nodes p) (w.nodes p) refl;
    rests = λ p. rests_same (w.nodes p);
  }

  pub moves_then : (w u v : World) → Moves E w u → Moves E u v → Moves E w v
  moves_then w u v one two = record {
    sites = two.sites ∙ one.sites;
    links = λ p k. keeps_then (w.links p k) (u.links p k) (v.links p k) (one.links p k) (two.links p k);
    bare = λ p b. one.bare p (two.bare p b);
    later = λ p h b. two.later p (subst (λ (n : ℕ). n ≤ p) (sym one.sites) h) (one.later p h b);
    stays = λ p e. record {
      up = λ up. (two.stays p e).up ((one.stays p e).up up);
      halted = λ up h. (two.stays p e).halted ((one.stays p e).up up) ((one.stays p e).halted up h);
    };
    starts = λ p k below linked keeps.
        two.starts p k (subst (λ (n : ℕ). k < n) (sym one.sites) below) (ap is_made (one.links p k).made ∙ linked) (one.starts p k below linked keeps);
    rests = λ p. record { quiet = λ e. (two.rests p).quiet ((one.rests p).quiet e); rests = λ e. (two.rests p).rests ((one.rests p).rests e) };
  }

  -- all else of a world is not looked at
  pub moves_like : (w u v : World) → v.sites ≡ u.sites → ((p : ℕ) → v.nodes p ≡ u.nodes p) → ((p k : ℕ) → v.links p k ≡ u.links p k) → Moves E w u → Moves E w v
  moves_like w u v sites nodes links m = record {
    sites = sites ∙ m.sites;
    links = λ p k. subst (λ (l : Link). KeepsLink (w.links p k) l) (sym (links p k)) (m.links p k);
    bare = λ p b. m.bare p (subst (λ (n : Node). n.state ≡ Bare) (nodes p) b);
    later = λ p h b. subst (λ (n : Node). n.state ≡ Bare) (sym (nodes p)) (m.later p h b);
    stays = λ p e. subst (λ (n : Node). Stays (w.nodes p) n) (sym (nodes p)) (m.stays p e);
    starts = λ p. subst (λ (n : Node). StillKeeps w.sites (w.links p) (w.nodes p) n) (sym (nodes p)) (m.starts p);
    rests = λ p. subst (λ (n : Node). Rests (w.nodes p) n) (sym (nodes p)) (m.rests p);
  }

  pub moves_node : (w : World) (s : ℕ) (n : Node) → (n.state ≡ Bare → (w.nodes s).state ≡ Bare) → (w.sites ≤ s → (w.nodes s).state ≡ Bare → n.state ≡ Bare)
      → (E s → Stays (w.nodes s) n) → StillKeeps w.sites (w.links s) (w.nodes s) n → Rests (w.nodes s) n → Moves E w (with_node w s n)
  moves_node w s n bare later stays starts rests = record {
    sites = refl;
    links = λ p k. keeps_same (w.links p k);
    bare = all_updated (λ (p : ℕ) (m : Node). m.state ≡ Bare → (w.nodes p).state ≡ Bare) w.nodes s n bare (λ p _ b. b);
    later = all_updated (λ (p : ℕ) (m : Node). w.sites ≤ p → (w.nodes p).state ≡ Bare → m.state ≡ Bare) w.nodes s n later (λ p _ h b. b);
    stays = all_updated (λ (p : ℕ) (m : Node). E p → Stays (w.nodes p) m) w.nodes s n stays (λ p _ e. stays_same (w.nodes p));
    starts = all_updated (λ (p : ℕ) (m : Node). StillKeeps w.sites (w.links p) (w.nodes p) m) w.nodes s n starts (λ p _. keeps_role w.sites (w.links p) (w.nodes p) (w.nodes p) refl);
    rests = all_updated (λ (p : ℕ) (m : Node). Rests (w.nodes p) m) w.nodes s n rests (λ p _. rests_same (w.nodes p));
  }

  -- a site in the same state, halted by the same disk, of which this is shown besides
  pub moves_kept : (w : World) (s : ℕ) (n : Node) → n.state ≡ (w.nodes s).state → n.halted ≡ (w.nodes s).halted → StillKeeps w.sites (w.links s) (w.nodes s) n
      → Rests (w.nodes s) n → Moves E w (with_node w s n)
  moves_kept w s n state halted starts rests =
      moves_node w s n (λ b. sym state ∙ b) (λ h b. state ∙ b)
      (λ e. record { up = λ up. state ∙ up; halted = λ up h. ap is_running halted ∙ h }) starts rests

  -- a site in the same state and role, halted by the same disk and fed by the same site
  pub moves_alike : (w : World) (s : ℕ) (n : Node) → n.state ≡ (w.nodes s).state → n.halted ≡ (w.nodes s).halted → n.role ≡ (w.nodes s).role → Rests (w.nodes s) n
      → Moves E w (with_node w s n)
  moves_alike w s n state halted role rests = moves_kept w s n state halted (keeps_role w.sites (w.links s) (w.nodes s) n role) rests

  pub moves_row : (w : World) (s : ℕ) (row : ℕ → Link) → ((k : ℕ) → KeepsLink (w.links s k) (row k)) → Moves E w (with_links w s row)
  moves_row w s row keeps = record {
    sites = refl;
    links = λ p k. all_updated (λ (q : ℕ) (r : ℕ → Link). KeepsLink (w.links q k) (r k)) w.links s row (keeps k) (λ q _. keeps_same (w.links q k)) p;
    bare = λ p b. b;
    later = λ p h b. b;
    stays = λ p e. stays_same (w.nodes p);
    starts = λ p. keeps_role w.sites (w.links p) (w.nodes p) (w.nodes p) refl;
    rests = λ p. rests_same (w.nodes p);
  }

  pub moves_link : (w : World) (s k : ℕ) (l : Link) → KeepsLink (w.links s k) l → Moves E w (with_links w s (updated (w.links s) k l))
  moves_link w s k l keeps =
      moves_row w s (updated (w.links s) k l) (all_updated (λ (j : ℕ) (m : Link). KeepsLink (w.links s j) m) (w.links s) k l keeps (λ j _. keeps_same (w.links s j)))

-- ---- what holds of links is kept

pub blank_moves : {E : ℕ → Type 0} (w v : World) (p : ℕ) → Moves E w v → v.headers p ≡ w.headers p → IsBlank w p → IsBlank v p
blank_moves w v p m headers blank = record {
  links = λ k. ap is_made (m.links p k).made ∙ blank.links k;
  headers = headers ∙ blank.headers;
}

pub fit_moves : {E : ℕ → Type 0} (d e : Doubted) → Moves E d.world e.world
    → ((p : ℕ) → (d.world.nodes p).state ≡ Bare → e.world.headers p ≡ d.world.headers p)
    → ((p : ℕ) (a : After) → e.after p ≡ Some a → (d.after p ≡ Some a) × E p)
    → LinksFit d → LinksFit e
fit_moves d e m headers doubts fit = record {
  rows = λ p. subst (λ (n : ℕ). RowFits p n (e.world.links p)) (sym m.sites) (row_moves p d.world.sites (d.world.links p) (e.world.links p) (m.links p) (fit.rows p));
  later = λ p h. let below : d.world.sites ≤ p = subst (λ (n : ℕ). n ≤ p) m.sites h in m.later p below (fit.later p below);
  bare = λ p b. blank_moves d.world e.world p m (headers p (m.bare p b)) (fit.bare p (m.bare p b));
  doubts = λ p a is.
      let was = doubts p a is in
      let f : DoubtFits d.world p a = fit.doubts p a was.0 in
      let s : Stays (d.world.nodes p) (e.world.nodes p) = m.stays p was.1 in
      record {
        up = s.up f.up;
        halted = s.halted f.up f.halted;
        up_too = f.up_too;
        halted_too = f.halted_too;
        row = subst (λ (n : ℕ). RowFits p n a.row) (sym m.sites) f.row;
        starts = f.starts;
        quiet = f.quiet;
      };
  starts = λ p k linked.
      let was : is_linked (d.world.links p k) ≡ true = ap is_made (sym (m.links p k).made) ∙ linked in
      m.starts p k ((fit.rows p).places.within k was) was (fit.starts p k was);
  quiet = λ p. (m.rests p).quiet (fit.quiet p);
  rests = λ p. (m.rests p).rests (fit.rests p);
}
