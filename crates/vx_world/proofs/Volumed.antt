-- A group of disks that gets its replicated volume group: all that holds of the world goes on to hold.
use Rattle.std.proofs.Common.{◌≡◌, ◌∙◌, ℕ, zero, suc, ◌+◌, ◌≤◌, List, [], take, refl, ap, sym, subst, arith, true, false}
use Rattle.std.specs.List.{AllByRecursion}
use Rattle.vx_model.specs.Content.{Content, Write, blocks_in, fold_writes}
use Rattle.vx_model.specs.Sites.{is_origin}
use Rattle.vx_model.specs.declared.history.Line.{Line}
use Rattle.vx_model.specs.declared.site.SiteState.TheVariants.{Bare, Up}
use Rattle.vx_history.proofs.GoodLemmas.{good_changed, made_is_given, up_is_made}
use Rattle.vx_history.proofs.GroupLemmas.{group_facts}
use Rattle.vx_history.proofs.Updates.{all_lines, all_updated, at_place}
use Rattle.vx_history.specs.Events.{is_plain_group}
use Rattle.vx_history.specs.Fits.{Fitting, IsAlike, IsSized, LeadsAlone, WriteFits, blocks_of_volume}
use Rattle.vx_history.specs.Good.{Good, GoodNode, IsMade}
use Rattle.vx_history.specs.GoodGatherings.{MayGather}
use Rattle.vx_history.specs.Sound.{Sound}
use Rattle.vx_history.specs.Volumes.{data_content, starting_with, volumes_made, volumes_set}
use Rattle.vx_history.specs.World.{History, Node, Volume, World, updated}
use Rattle.vx_history.specs.declared.volumes.DataVolume.{DataVolume}
use Rattle.vx_world.proofs.Carry.{IsLater}
use Rattle.vx_world.proofs.Keeping.{Keeps, gather_up}
use Rattle.vx_world.proofs.KeptSites.{alike_self}
use Rattle.vx_world.proofs.Lists.{each_weaker, prefix_refl}
use Rattle.vx_world.proofs.Moves.{sound_with_history}

take_none : (k : ℕ) → take k (let none : List Write = [] in none) ≡ []
take_none zero = refl
take_none (suc k) = refl

module _ (w : World) (q log : ℕ) (xs : List DataVolume) (s : Sound w) (up : (w.nodes q).state ≡ Up) (plain : is_plain_group (w.nodes q) ≡ true) where
  abbrev n : Node
  n = w.nodes q

  abbrev m : Node
  m = volumes_set log xs (w.nodes q)

  abbrev content : Content
  content = data_content (w.nodes q).group xs

  abbrev h : History
  h = starting_with (data_content (w.nodes q).group xs) (w.lines (w.nodes q).line)

  abbrev now : ℕ → Node
  now = updated w.nodes q (volumes_set log xs (w.nodes q))

  made : IsMade n
  made = up_is_made n up

  none : n.volumes ≡ []
  none = (group_facts n plain).1

  empty : n.log ≡ []
  empty = (group_facts n plain).2

  origin : is_origin n.role ≡ true
  origin = ap is_origin (group_facts n plain).0

  own : n.line.origin ≡ q
  own = (s.good.nodes q).own_line made origin

  -- what is said of a site rests on what its line holds, and not on what it began with
  restarted : (k : ℕ) (b : Node) → GoodNode (w.lines n.line) k b → GoodNode h k b
  restarted k b good = record {
    safe_fits = good.safe_fits;
    own_line = good.own_line;
    receiver_log = good.receiver_log;
    origin_log = good.origin_log;
    origin_whole = good.origin_whole;
    origin_mark = good.origin_mark;
    plain = good.plain;
    content = good.content;
    copy = good.copy;
  }

  volumes_good : Good (volumes_made w q log xs)
  volumes_good =
      let good : GoodNode (w.lines n.line) q n = s.good.nodes q in
      good_changed w q m h s.good
      (record {
        safe_fits = good.safe_fits;
        own_line = good.own_line;
        receiver_log = good.receiver_log;
        origin_log = good.origin_log;
        origin_whole = good.origin_whole;
        origin_mark = good.origin_mark;
        plain = good.plain;
        content = λ _. ap (λ (ws : List Write). fold_writes content ws) (sym (ap (λ (ws : List Write). take n.safe ws) empty ∙ take_none n.safe));
        copy = λ _ not. absurd (let e : true ≡ false = sym origin ∙ not in cc);
      })
      made own (s.good.told n.line) (λ k. s.good.replays n.line k)
      (λ k _ _ e. restarted k (w.nodes k) (subst (λ (l : Line). GoodNode (w.lines l) k (w.nodes k)) e (s.good.nodes k)))
      (made_is_given w q s.good made)

  later_volumes : IsLater n m
  later_volumes = record {
    line = refl;
    origin = refl;
    bunker = refl;
    session = omega arith;
    safe = omega arith;
    stored = λ k held. held;
    present = λ _ is _. (is, omega arith);
    made = λ is. is;
    top = omega arith;
    stood = refl;
  }

  pub volumes_keeps : Sound (volumes_made w q log xs)
  volumes_keeps =
      sound_with_history w q m h s volumes_good later_volumes made origin (prefix_refl (w.lines n.line).held) (s.whole q) (s.fed q) (s.takes q) (s.marked q) (s.newest q)
      (s.stands q) (λ _ _ says. says) (s.known q) (s.unbegun n.line)

  -- no write fits a site without volumes
  no_fit : (x : Write) → WriteFits n x → ⊥
  no_fit x fits =
      let within : x.start + blocks_in x.bytes ≤ 0 = subst (λ (vs : List Volume). x.start + blocks_in x.bytes ≤ blocks_of_volume vs x.volume) none fits.within in
      omega (arith, within, fits.some)

  held_there : Fitting w → (l : Line) → AllByRecursion (WriteFits (now l.origin)) (w.lines l).held
  held_there f l =
      each_weaker (WriteFits (w.nodes l.origin)) (WriteFits (now l.origin))
      (λ x. all_updated (λ k (b : Node). WriteFits (w.nodes k) x → WriteFits b x) w.nodes q m (λ fits. absurd (no_fit x fits)) (λ _ _ fits. fits) l.origin)
      (w.lines l).held (f.held l)

  volumes_fits : Fitting w → Fitting (volumes_made w q log xs)
  volumes_fits f = record {
    sized = all_updated (λ _ (b : Node). IsSized b) w.nodes q m
        (record { start = λ v. refl; base = λ v. refl; bare = λ e. absurd (let g : Up ≡ Bare = sym up ∙ e in cc) }) (λ k _. f.sized k);
    logs = all_updated (λ _ (b : Node). AllByRecursion (WriteFits b) b.log) w.nodes q m
        (subst (λ (ws : List Write). AllByRecursion (WriteFits m) ws) (sym empty) tt) (λ k _. f.logs k);
    held = all_lines (λ l (r : History). AllByRecursion (WriteFits (now l.origin)) r.held) w.lines n.line h (held_there f n.line) (λ l _. held_there f l);
    alike = all_updated (λ _ (b : Node). IsMade b → IsAlike (now b.line.origin) b) w.nodes q m
        (λ _. subst (λ (o : ℕ). IsAlike (now o) m) (sym own) (subst (λ (b : Node). IsAlike b m) (sym (at_place w.nodes q m)) (alike_self m)))
        (λ k apart is. all_updated
        (λ o (b : Node). o ≡ (w.nodes k).line.origin → LeadsAlone (w.nodes o) k (w.nodes k) → IsAlike (w.nodes o) (w.nodes k) → IsAlike b (w.nodes k)) w.nodes q m
        (λ at lone _. absurd (apart (sym (at ∙ lone none)))) (λ _ _ _ _ alike. alike) (w.nodes k).line.origin refl (f.alone k is) (f.alike k is));
    alone = all_updated (λ k (b : Node). IsMade b → LeadsAlone (now b.line.origin) k b) w.nodes q m (λ _ _. own)
        (λ k _ is bare. f.alone k is
        (all_updated (λ o (b : Node). b.volumes ≡ [] → (w.nodes o).volumes ≡ []) w.nodes q m (λ _. none) (λ _ _ e. e) (w.nodes k).line.origin bare));
  }

  pub volumes_leaves : Keeps w (volumes_made w q log xs)
  volumes_leaves = record {
    gathers = λ g. record {
      parts = g.parts;
      each = all_updated (λ k (b : Node). MayGather k b w.packets (w.gathering k)) w.nodes q m
          (gather_up q n m w.packets (w.gathering q) (λ is. is) (g.each q)) (λ k _. g.each k);
    };
    fits = volumes_fits;
    places = λ places. places;
  }
