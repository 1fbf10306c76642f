-- New sites and new links beside a halted site.
use Rattle.vx_model.specs.Sites.{first_line, is_bare, is_origin, is_up, same_line}
use Rattle.vx_model.specs.Sizes.{is_raw_shape}
use Rattle.vx_model.specs.declared.limits.TheConstants.{MOST_DISKS, MOST_LINKS, MOST_SITES}
use Rattle.std.proofs.Common.{◌≡◌, ◌∙◌, inl, inr, ℕ, ◌+◌, List, ap, sym, subst, refl, arith, Bool, true, false}
use Rattle.std.specs.Prelude.{Option, Some, None, not, ◌&&◌, ◌||◌, eqb, ltb, leb, bytes_eq}
use Rattle.std.proofs.lemmas.Bool.{cases_eq}
use Rattle.vx_history.specs.Events.{fall_from, group_again, group_from, is_plain_group, joined, new_link, opened}
use Rattle.vx_history.specs.Receiving.{phase_takes}
use Rattle.vx_history.specs.Refusals.{Outcome, unless, unless_halted, at_site, at_work, both_at_work, may_link, follows, count_links_of, is_fresh, is_running, is_primary, is_consistent, is_stale_mode, is_empty, sizes_meet, rings_fit, some_below, how_many_below}
use Rattle.vx_history.specs.Sends.{is_linked, with_link}
use Rattle.vx_history.specs.Step.{outcome_of, done, link_part}
use Rattle.vx_history.specs.Steps.{site_made, raw_made, raw_set, raw_history, fallen_site, group_back, group_set, group_up, begun_line}
use Rattle.vx_history.specs.Volumes.{data_content, starting_with, volumes_made, volumes_set}
use Rattle.vx_history.specs.declared.volumes.DataVolume.{DataVolume}
use Rattle.vx_model.specs.declared.history.Line.{Line}
use Rattle.vx_history.specs.World.{History, Node, Link, World, bare_site, no_volumes, updated, with_node}
use Rattle.vx_history.specs.declared.event.Event.TheVariants.{Site, Raw, Group, Volumes, Fall, Link as LinkAt}
use Rattle.vx_history.specs.declared.event.LinkPart.{LinkPart}
use Rattle.vx_history.specs.declared.event.LinkPart.TheVariants.{Joins, Made, Marked, Opened}
use Rattle.vx_model.specs.declared.link.Prot.{Prot}
use Rattle.vx_model.specs.declared.link.SyncMode.{SyncMode}
use Rattle.vx_model.specs.declared.no.No.TheVariants.{Exists, Size, Role as WrongRole, Down as NotUp, Limit}
use Rattle.vx_model.specs.declared.no.Counted.TheVariants.{Sites, Disks, Links}
use Rattle.vx_model.specs.declared.site.Mark.TheVariants.{Consistent}
use Rattle.vx_model.specs.declared.site.SiteState.{SiteState}
use Rattle.vx_model.specs.declared.site.SiteState.TheVariants.{Bare, Up, Deported, Down}
use Rattle.vx_history.specs.Gatherings.{emptied}
use Rattle.vx_world.specs.Twins.{Twin}
use Rattle.vx_world.proofs.TwinTests.{not_both, both, there, stuck, works}
use Rattle.vx_world.proofs.TwinChanges.{twin_link, twin_node, elsewhere, place}
use Rattle.vx_world.proofs.Besides.{some_same, twin_history, twin_empty, bare_both}

-- ## New sites and links

module _ (s : ℕ) (w v : World) (twin : Twin s w v) where
  -- ---- new sites and raw sets

  pub twin_raw : (p : ℕ) → Twin s (outcome_of w (Raw p)).world (outcome_of v (Raw p)).world
  twin_raw p =
      let shaped_w : Outcome = unless (not (is_raw_shape (w.nodes p).disks (w.nodes p).blocks)) Size w (done (raw_made w p)) in
      let shaped_v : Outcome = unless (not (is_raw_shape (v.nodes p).disks (v.nodes p).blocks)) Size v (done (raw_made v p)) in
      there s w v p (unless (not (is_bare (w.nodes p).state)) WrongRole w shaped_w) (unless (not (is_bare (v.nodes p).state)) WrongRole v shaped_v) twin
      (both s (not (is_bare (w.nodes p).state)) (not (is_bare (v.nodes p).state)) WrongRole WrongRole w v shaped_w shaped_v (ap not ((bare_both s w v twin) p)) twin
      (λ bare. elim (cases_eq p s) [
        | inl same ↦ absurd (not_both (not (is_bare (w.nodes p).state))
            (subst (λ (i : ℕ). not (is_bare (w.nodes i).state) ≡ true) (sym same) (ap (λ (t : SiteState). not (is_bare t)) twin.up)) bare)
        | inr apart ↦
            let node : v.nodes p ≡ w.nodes p = twin.nodes p apart in
            both s (not (is_raw_shape (w.nodes p).disks (w.nodes p).blocks)) (not (is_raw_shape (v.nodes p).disks (v.nodes p).blocks)) Size Size w v
            (done (raw_made w p)) (done (raw_made v p)) (ap (λ (n : Node). not (is_raw_shape n.disks n.blocks)) node) twin
            (λ _. twin_history s w v twin p (raw_set p (w.nodes p)) (raw_set p (v.nodes p)) (raw_history (w.nodes p)) (raw_history (v.nodes p)) apart
            (ap (λ (n : Node). raw_set p n) node) (ap raw_history node))
      ]))

  again_both : (p : ℕ) → (p ≡ s → ⊥) → Twin s (group_again w p).world (group_again v p).world
  again_both p apart =
      both s (not (is_plain_group (w.nodes p))) (not (is_plain_group (v.nodes p))) WrongRole WrongRole w v (done (group_back w p)) (done (group_back v p))
      (ap (λ (n : Node). not (is_plain_group n)) (twin.nodes p apart)) twin
      (λ _. twin_node s w v twin p (group_up (w.nodes p)) (group_up (v.nodes p)) apart (ap group_up (twin.nodes p apart)))

  groups_both : (t : SiteState) (p : ℕ) → (p ≡ s → ⊥) → Twin s (group_from t w p).world (group_from t v p).world
  groups_both Bare p apart =
      twin_history s w v twin p (group_set p (w.nodes p)) (group_set p (v.nodes p)) (begun_line no_volumes) (begun_line no_volumes) apart
      (ap (λ (n : Node). group_set p n) (twin.nodes p apart)) refl
  groups_both Up p apart = twin
  groups_both Deported p apart = again_both p apart
  groups_both Down p apart = again_both p apart

  pub twin_group : (p : ℕ) → Twin s (outcome_of w (Group p)).world (outcome_of v (Group p)).world
  twin_group p =
      there s w v p (group_from (w.nodes p).state w p) (group_from (v.nodes p).state v p) twin
      (elim (cases_eq p s) [
        | inl same ↦
            let up : (w.nodes p).state ≡ Up = subst (λ (i : ℕ). (w.nodes i).state ≡ Up) (sym same) twin.up in
            let up_too : (v.nodes p).state ≡ Up = subst (λ (i : ℕ). (v.nodes i).state ≡ Up) (sym same) twin.up_too in
            subst (λ (t : SiteState). Twin s (group_from t w p).world (group_from (v.nodes p).state v p).world) (sym up)
            (subst (λ (t : SiteState). Twin s w (group_from t v p).world) (sym up_too) twin)
        | inr apart ↦
            subst (λ (t : SiteState). Twin s (group_from (w.nodes p).state w p).world (group_from t v p).world)
            (sym (ap (λ (n : Node). n.state) (twin.nodes p apart))) (groups_both (w.nodes p).state p apart)
      ])

  falls_both : (t : SiteState) (p : ℕ) → (p ≡ s → ⊥) → Twin s (fall_from t w p).world (fall_from t v p).world
  falls_both Bare p apart = twin
  falls_both Up p apart = twin
  falls_both Deported p apart = twin_node s w v twin p (fallen_site (w.nodes p)) (fallen_site (v.nodes p)) apart (ap fallen_site (twin.nodes p apart))
  falls_both Down p apart = twin

  pub twin_fall : (p : ℕ) → Twin s (outcome_of w (Fall p)).world (outcome_of v (Fall p)).world
  twin_fall p =
      there s w v p (fall_from (w.nodes p).state w p) (fall_from (v.nodes p).state v p) twin
      (elim (cases_eq p s) [
        | inl same ↦
            let up : (w.nodes p).state ≡ Up = subst (λ (i : ℕ). (w.nodes i).state ≡ Up) (sym same) twin.up in
            let up_too : (v.nodes p).state ≡ Up = subst (λ (i : ℕ). (v.nodes i).state ≡ Up) (sym same) twin.up_too in
            subst (λ (t : SiteState). Twin s (fall_from t w p).world (fall_from (v.nodes p).state v p).world) (sym up)
            (subst (λ (t : SiteState). Twin s w (fall_from t v p).world) (sym up_too) twin)
        | inr apart ↦
            subst (λ (t : SiteState). Twin s (fall_from (w.nodes p).state w p).world (fall_from t v p).world)
            (sym (ap (λ (n : Node). n.state) (twin.nodes p apart))) (falls_both (w.nodes p).state p apart)
      ])

  pub twin_volumes : (p log : ℕ) (xs : List DataVolume) → Twin s (outcome_of w (Volumes p log xs)).world (outcome_of v (Volumes p log xs)).world
  twin_volumes p log xs =
      let o : Outcome = done (volumes_made w p log xs) in
      let r : Outcome = done (volumes_made v p log xs) in
      let tested_w : Outcome = unless (not (is_plain_group (w.nodes p))) WrongRole w o in
      let tested_v : Outcome = unless (not (is_plain_group (v.nodes p))) WrongRole v r in
      there s w v p (at_work w p tested_w) (at_work v p tested_v) twin
      (works s w v p tested_w tested_v twin
      (λ apart. both s (not (is_plain_group (w.nodes p))) (not (is_plain_group (v.nodes p))) WrongRole WrongRole w v o r
      (ap (λ (n : Node). not (is_plain_group n)) (twin.nodes p apart)) twin
      (λ _. twin_history s w v twin p (volumes_set log xs (w.nodes p)) (volumes_set log xs (v.nodes p))
      (starting_with (data_content (w.nodes p).group xs) (w.lines (w.nodes p).line)) (starting_with (data_content (v.nodes p).group xs) (v.lines (v.nodes p).line)) apart
      (ap (λ (n : Node). volumes_set log xs n) (twin.nodes p apart))
      (ap (λ (n : Node). starting_with (data_content n.group xs) (v.lines n.line)) (twin.nodes p apart)
      ∙ ap (λ (f : Line → History). starting_with (data_content (w.nodes p).group xs) (f (w.nodes p).line)) twin.lines))))

  pub made_both : (name : List ℕ) (disks blocks : ℕ) → Twin s (site_made w name disks blocks) (site_made v name disks blocks)
  made_both name disks blocks =
      let b : Node = bare_site name disks blocks in
      let apart : w.sites ≡ s → ⊥ = λ (e : w.sites ≡ s). omega (arith, twin.here, e) in
      let apart_too : v.sites ≡ s → ⊥ = λ (e : v.sites ≡ s). omega (arith, twin.here, twin.sites, e) in record {
        sites = ap (λ (n : ℕ). n + 1) twin.sites;
        nodes = λ i other. ap (λ (n : ℕ). updated v.nodes n b i) twin.sites ∙ place s w v twin w.nodes v.nodes w.sites b b i refl (twin.nodes i other);
        rows = twin.rows;
        lines = twin.lines;
        packets = twin.packets;
        promised = twin.promised;
        gathering = twin.gathering;
        here = omega (arith, twin.here);
        name = elsewhere s w v twin (λ (x : Node). (updated v.nodes v.sites b s).name ≡ x.name) w.nodes w.sites b apart
            (elsewhere s w v twin (λ (x : Node). x.name ≡ (w.nodes s).name) v.nodes v.sites b apart_too twin.name);
        up = elsewhere s w v twin (λ (x : Node). x.state ≡ Up) w.nodes w.sites b apart twin.up;
        up_too = elsewhere s w v twin (λ (x : Node). x.state ≡ Up) v.nodes v.sites b apart_too twin.up_too;
        halted = elsewhere s w v twin (λ (x : Node). is_running x.halted ≡ false) w.nodes w.sites b apart twin.halted;
        halted_too = elsewhere s w v twin (λ (x : Node). is_running x.halted ≡ false) v.nodes v.sites b apart_too twin.halted_too;
      }

  pub twin_site : (name : List ℕ) (disks blocks : ℕ) → Twin s (outcome_of w (Site name disks blocks)).world (outcome_of v (Site name disks blocks)).world
  twin_site name disks blocks =
      let names : (k : ℕ) → bytes_eq (v.nodes k).name name ≡ bytes_eq (w.nodes k).name name = λ k. elim (cases_eq k s) [
        | inl same ↦ subst (λ (i : ℕ). bytes_eq (v.nodes i).name name ≡ bytes_eq (w.nodes i).name name) (sym same)
            (ap (λ (xs : List ℕ). bytes_eq xs name) twin.name)
        | inr apart ↦ ap (λ (n : Node). bytes_eq n.name name) (twin.nodes k apart)
      ] in
      let o : Outcome = done (site_made w name disks blocks) in
      let r : Outcome = done (site_made v name disks blocks) in
      let shaped_w : Outcome = unless (eqb disks 0 || ltb blocks 8) Size w o in
      let shaped_v : Outcome = unless (eqb disks 0 || ltb blocks 8) Size v r in
      let few_w : Outcome = unless (ltb MOST_DISKS disks) (Limit Disks MOST_DISKS) w shaped_w in
      let few_v : Outcome = unless (ltb MOST_DISKS disks) (Limit Disks MOST_DISKS) v shaped_v in
      both s (some_below w.sites (λ k. bytes_eq (w.nodes k).name name)) (some_below v.sites (λ k. bytes_eq (v.nodes k).name name)) (Exists name)
      (Exists name) w v
      (unless (leb MOST_SITES w.sites) (Limit Sites MOST_SITES) w few_w) (unless (leb MOST_SITES v.sites) (Limit Sites MOST_SITES) v few_v)
      (some_same v.sites (λ k. bytes_eq (w.nodes k).name name) (λ k. bytes_eq (v.nodes k).name name) names ∙ ap
      (λ (n : ℕ). some_below n (λ k. bytes_eq (w.nodes k).name name)) twin.sites) twin
      (λ _. both s (leb MOST_SITES w.sites) (leb MOST_SITES v.sites) (Limit Sites MOST_SITES) (Limit Sites MOST_SITES) w v few_w few_v
      (ap (λ (n : ℕ). leb MOST_SITES n) twin.sites) twin
      (λ _. both s (ltb MOST_DISKS disks) (ltb MOST_DISKS disks) (Limit Disks MOST_DISKS) (Limit Disks MOST_DISKS) w v shaped_w shaped_v refl twin
      (λ _. both s (eqb disks 0 || ltb blocks 8) (eqb disks 0 || ltb blocks 8) Size Size w v o r refl twin
      (λ _. made_both name disks blocks))))

  -- ---- new links

  pub up_any : (p : ℕ) → is_up (v.nodes p).state ≡ is_up (w.nodes p).state
  up_any p = elim (cases_eq p s) [
    | inl same ↦ subst (λ (i : ℕ). is_up (v.nodes i).state ≡ is_up (w.nodes i).state) (sym same) (ap is_up (twin.up_too ∙ sym twin.up))
    | inr apart ↦ ap (λ (n : Node). is_up n.state) (twin.nodes p apart)
  ]

  pub halts_both : (h k : Option ℕ) (o r : Outcome) → k ≡ h → Twin s o.world r.world → Twin s (unless_halted h w o).world (unless_halted k v r).world
  halts_both None k o r e rest = subst (λ (j : Option ℕ). Twin s o.world (unless_halted j v r).world) (sym e) rest
  halts_both (Some disk) k o r e rest = subst (λ (j : Option ℕ). Twin s w (unless_halted j v r).world) (sym e) twin

  pub still : (u : World) (h k : Option ℕ) (o : Outcome) → is_running k ≡ false → (unless_halted h u (unless_halted k u o)).world ≡ u
  still u None k o e = stuck u k o e
  still u (Some disk) k o e = refl

  pub both_work : (p q : ℕ) (o r : Outcome) → ((p ≡ s → ⊥) → (q ≡ s → ⊥) → Twin s o.world r.world)
      → Twin s (both_at_work w p q o).world (both_at_work v p q r).world
  both_work p q o r rest =
      both s (not (is_up (w.nodes p).state && is_up (w.nodes q).state)) (not (is_up (v.nodes p).state && is_up (v.nodes q).state)) NotUp NotUp w v
      (unless_halted (w.nodes p).halted w (unless_halted (w.nodes q).halted w o)) (unless_halted (v.nodes p).halted v (unless_halted (v.nodes q).halted v r))
      (ap (λ (b : Bool). not (b && is_up (v.nodes q).state)) (up_any p) ∙ ap (λ (b : Bool). not (is_up (w.nodes p).state && b)) (up_any q)) twin
      (λ _. elim (cases_eq p s) [
        | inl same ↦
            subst (λ (x : World). Twin s x (unless_halted (v.nodes p).halted v (unless_halted (v.nodes q).halted v r)).world)
            (sym (stuck w (w.nodes p).halted (unless_halted (w.nodes q).halted w o)
            (subst (λ (i : ℕ). is_running (w.nodes i).halted ≡ false) (sym same) twin.halted)))
            (subst (λ (x : World). Twin s w x)
            (sym (stuck v (v.nodes p).halted (unless_halted (v.nodes q).halted v r)
            (subst (λ (i : ℕ). is_running (v.nodes i).halted ≡ false) (sym same) twin.halted_too))) twin)
        | inr apart ↦ elim (cases_eq q s) [
          | inl same ↦
              subst (λ (x : World). Twin s x (unless_halted (v.nodes p).halted v (unless_halted (v.nodes q).halted v r)).world)
              (sym (still w (w.nodes p).halted (w.nodes q).halted o (subst (λ (i : ℕ). is_running (w.nodes i).halted ≡ false) (sym same) twin.halted)))
              (subst (λ (x : World). Twin s w x)
              (sym (still v (v.nodes p).halted (v.nodes q).halted r
              (subst (λ (i : ℕ). is_running (v.nodes i).halted ≡ false) (sym same) twin.halted_too))) twin)
          | inr other ↦
              halts_both (w.nodes p).halted (v.nodes p).halted (unless_halted (w.nodes q).halted w o) (unless_halted (v.nodes q).halted v r)
              (ap (λ (n : Node). n.halted) (twin.nodes p apart))
              (halts_both (w.nodes q).halted (v.nodes q).halted o r (ap (λ (n : Node). n.halted) (twin.nodes q other)) (rest apart other))
        ]
      ])

  module _ (p q : ℕ) (apart : p ≡ s → ⊥) (other : q ≡ s → ⊥) where
    here_is : v.nodes p ≡ w.nodes p
    here_is = twin.nodes p apart

    there_is : v.nodes q ≡ w.nodes q
    there_is = twin.nodes q other

    row_is : v.links p ≡ w.links p
    row_is = twin.rows p apart

    same_follows : follows v p q ≡ follows w p q
    same_follows = ap (λ (n : Node). not (is_origin n.role) && same_line n.line (v.nodes p).line) there_is ∙ ap
        (λ (n : Node). not (is_origin (w.nodes q).role) && same_line (w.nodes q).line n.line) here_is

    same_links : count_links_of v p ≡ count_links_of w p
    same_links = ap (λ (r : ℕ → Link). how_many_below v.sites (λ k. is_linked (r k))) row_is ∙ ap
        (λ (n : ℕ). how_many_below n (λ k. is_linked (w.links p k))) twin.sites

    same_fresh : is_fresh v q ≡ is_fresh w q
    same_fresh =
        ap (λ (n : Node). is_primary n.role && (is_empty n.log && not (some_below v.sites (λ k. is_linked (v.links q k))))) there_is
        ∙ ap (λ (r : ℕ → Link). is_primary (w.nodes q).role && (is_empty (w.nodes q).log && not (some_below v.sites (λ k. is_linked (r k)))))
        (twin.rows q other)
        ∙ ap (λ (n : ℕ). is_primary (w.nodes q).role && (is_empty (w.nodes q).log && not (some_below n (λ k. is_linked (w.links q k))))) twin.sites

    same_may : may_link v p q ≡ may_link w p q
    same_may =
        ap (λ (n : Node). is_primary n.role && (not (eqb q p) && (is_empty n.log && (same_line n.line (first_line p) && is_fresh v q)))) here_is
        ∙ ap (λ (b : Bool). is_primary (w.nodes p).role && (not
        (eqb q p) && (is_empty (w.nodes p).log && (same_line (w.nodes p).line (first_line p) && b)))) same_fresh

    same_linked : is_linked (v.links p q) ≡ is_linked (w.links p q)
    same_linked = ap (λ (r : ℕ → Link). is_linked (r q)) row_is

    part_both : (sync : SyncMode) (prot : Prot) (part : LinkPart) → Twin s (link_part part w p q sync prot).world (link_part part v p q sync prot).world
    part_both sync prot Joins =
        let o : Outcome = done (emptied (with_node w q (joined (w.nodes p) p (w.nodes q))) q) in
        let r : Outcome = done (emptied (with_node v q (joined (v.nodes p) p (v.nodes q))) q) in
        let fit_w : Outcome = unless (not (sizes_meet (w.nodes p).volumes (w.nodes q).volumes && rings_fit (w.nodes p) (w.nodes q))) Size w o in
        let fit_v : Outcome = unless (not (sizes_meet (v.nodes p).volumes (v.nodes q).volumes && rings_fit (v.nodes p) (v.nodes q))) Size v r in
        let few_w : Outcome = unless (leb MOST_LINKS (count_links_of w p)) (Limit Links MOST_LINKS) w fit_w in
        let few_v : Outcome = unless (leb MOST_LINKS (count_links_of v p)) (Limit Links MOST_LINKS) v fit_v in
        both s (not (may_link w p q)) (not (may_link v p q)) WrongRole WrongRole w v (unless (is_linked (w.links p q)) (Exists (w.nodes q).name) w few_w)
        (unless (is_linked (v.links p q)) (Exists (v.nodes q).name) v few_v) (ap not same_may) twin
        (λ _. both s (is_linked (w.links p q)) (is_linked (v.links p q)) (Exists (w.nodes q).name) (Exists (v.nodes q).name) w v few_w few_v same_linked twin
        (λ _. both s (leb MOST_LINKS (count_links_of w p)) (leb MOST_LINKS (count_links_of v p)) (Limit Links MOST_LINKS) (Limit Links MOST_LINKS) w v fit_w fit_v
        (ap (λ (n : ℕ). leb MOST_LINKS n) same_links) twin
        (λ _. both s (not (sizes_meet (w.nodes p).volumes (w.nodes q).volumes && rings_fit (w.nodes p) (w.nodes q)))
        (not (sizes_meet (v.nodes p).volumes (v.nodes q).volumes && rings_fit (v.nodes p) (v.nodes q))) Size Size w v o r
        (ap (λ (n : Node). not (sizes_meet n.volumes (v.nodes q).volumes && rings_fit n (v.nodes q))) here_is ∙ ap
        (λ (n : Node). not (sizes_meet (w.nodes p).volumes n.volumes && rings_fit (w.nodes p) n)) there_is) twin
        (λ _. twin_empty s (with_node w q (joined (w.nodes p) p (w.nodes q))) (with_node v q (joined (v.nodes p) p (v.nodes q))) q
        (twin_node s w v twin q (joined (w.nodes p) p (w.nodes q)) (joined (v.nodes p) p (v.nodes q)) other
        (ap (λ (n : Node). joined n p (v.nodes q)) here_is ∙ ap (λ (n : Node). joined (w.nodes p) p n) there_is))))))
    part_both sync prot Made =
        let l : Link = new_link (count_links_of w p) sync prot (w.nodes q) in
        let m : Link = new_link (count_links_of v p) sync prot (v.nodes q) in
        both s (not (is_primary (w.nodes p).role && follows w p q)) (not (is_primary (v.nodes p).role && follows v p q)) WrongRole WrongRole w v
        (unless (is_linked (w.links p q)) (Exists (w.nodes q).name) w (done (with_link w p q l)))
        (unless (is_linked (v.links p q)) (Exists (v.nodes q).name) v (done (with_link v p q m)))
        (ap (λ (n : Node). not (is_primary n.role && follows v p q)) here_is ∙ ap (λ (b : Bool). not (is_primary (w.nodes p).role && b)) same_follows) twin
        (λ _. both s (is_linked (w.links p q)) (is_linked (v.links p q)) (Exists (w.nodes q).name) (Exists (v.nodes q).name) w v (done (with_link w p q l))
        (done (with_link v p q m)) same_linked twin
        (λ _. twin_link s w v twin p q l m apart
        (ap (λ (n : ℕ). new_link n sync prot (v.nodes q)) same_links ∙ ap (λ (n : Node). new_link (count_links_of w p) sync prot n) there_is)))
    part_both sync prot Marked =
        let marks : Node → Node = λ n. record n { mark = Consistent } in
        both s (not (is_primary (w.nodes p).role && (follows w p q && (is_linked (w.links p q) && is_empty (w.nodes p).log))))
        (not (is_primary (v.nodes p).role && (follows v p q && (is_linked (v.links p q) && is_empty (v.nodes p).log)))) WrongRole WrongRole w v
        (done (with_node w q (marks (w.nodes q)))) (done (with_node v q (marks (v.nodes q))))
        (ap (λ (n : Node). not (is_primary n.role && (follows v p q && (is_linked (v.links p q) && is_empty n.log)))) here_is
        ∙ ap (λ (b : Bool). not (is_primary (w.nodes p).role && (b && (is_linked (v.links p q) && is_empty (w.nodes p).log)))) same_follows
        ∙ ap (λ (b : Bool). not (is_primary (w.nodes p).role && (follows w p q && (b && is_empty (w.nodes p).log)))) same_linked) twin
        (λ _. twin_node s w v twin q (marks (w.nodes q)) (marks (v.nodes q)) other (ap marks there_is))
    part_both sync prot Opened =
        let rest : Node → Node → Link → Bool = λ n k l. is_linked l && (is_empty n.log && (is_stale_mode l.mode && (phase_takes k.phase && is_consistent k.mark))) in
        both s (not (is_primary (w.nodes p).role && (follows w p q && rest (w.nodes p) (w.nodes q) (w.links p q))))
        (not (is_primary (v.nodes p).role && (follows v p q && rest (v.nodes p) (v.nodes q) (v.links p q)))) WrongRole WrongRole w v
        (done (with_link w p q (opened (w.links p q) (w.nodes p).safe))) (done (with_link v p q (opened (v.links p q) (v.nodes p).safe)))
        (ap (λ (n : Node). not (is_primary n.role && (follows v p q && rest n (v.nodes q) (v.links p q)))) here_is
        ∙ ap (λ (b : Bool). not (is_primary (w.nodes p).role && (b && rest (w.nodes p) (v.nodes q) (v.links p q)))) same_follows
        ∙ ap (λ (n : Node). not (is_primary (w.nodes p).role && (follows w p q && rest (w.nodes p) n (v.links p q)))) there_is
        ∙ ap (λ (r : ℕ → Link). not (is_primary (w.nodes p).role && (follows w p q && rest (w.nodes p) (w.nodes q) (r q)))) row_is) twin
        (λ _. twin_link s w v twin p q (opened (w.links p q) (w.nodes p).safe) (opened (v.links p q) (v.nodes p).safe) apart
        (ap (λ (n : Node). opened (v.links p q) n.safe) here_is ∙ ap (λ (r : ℕ → Link). opened (r q) (w.nodes p).safe) row_is))

  pub twin_join : (p q : ℕ) (sync : SyncMode) (prot : Prot) (part : LinkPart) → Twin s (outcome_of w (LinkAt p q sync prot part)).world (outcome_of v (LinkAt p q sync prot part)).world
  twin_join p q sync prot part =
      there s w v p (at_site w q (both_at_work w p q (link_part part w p q sync prot))) (at_site v q (both_at_work v p q (link_part part v p q sync prot))) twin
      (there s w v q (both_at_work w p q (link_part part w p q sync prot)) (both_at_work v p q (link_part part v p q sync prot)) twin
      (both_work p q (link_part part w p q sync prot) (link_part part v p q sync prot) (λ apart other. part_both p q apart other sync prot part)))
