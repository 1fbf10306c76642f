-- Waiting, crashes, recoveries and new links in worlds that differ in notes alone.
use Rattle.std.proofs.Common.{◌≡◌, ◌∙◌, ℕ, zero, suc, ◌+◌, List, [], ◌∷◌, ◌++◌, length, ap, sym, subst, refl, Bool, true, false}
use Rattle.std.specs.Prelude.{Option, Some, None, not, ◌&&◌, ◌||◌, eqb, leb, ltb, if◌then◌else◌}
use Rattle.vx_model.specs.Sites.{is_origin, same_line, first_line}
use Rattle.vx_model.specs.declared.history.Line.{Line}
use Rattle.vx_model.specs.declared.limits.TheConstants.{MOST_LINKS, MOST_NUMBER}
use Rattle.vx_model.specs.declared.link.Prot.{Prot}
use Rattle.vx_model.specs.declared.link.SyncMode.{SyncMode}
use Rattle.vx_model.specs.declared.no.No.TheVariants.{Size, Role as WrongRole, Exists, Limit, Unknown, Unconfirmed, NoConfig}
use Rattle.vx_model.specs.declared.no.Named.TheVariants.{Number as ByNumber}
use Rattle.vx_model.specs.declared.no.Counted.TheVariants.{Links, Number as CountOfNumbers}
use Rattle.vx_model.specs.declared.site.Mark.TheVariants.{Consistent}
use Rattle.vx_model.specs.declared.site.SiteState.{SiteState}
use Rattle.vx_model.specs.declared.site.SiteState.TheVariants.{Bare, Up, Deported, Down}
use Rattle.vx_history.specs.Admission.{is_fail}
use Rattle.vx_history.specs.Receiving.{received_step, phase_takes}
use Rattle.vx_history.specs.LinkForms.{plain_receiver}
use Rattle.vx_history.specs.World.{World, Node, Link as LinkState, History, Packet, Promise, Gathering, Durable, InSession, with_node}
use Rattle.vx_history.specs.Likes.{IsLike, SameLink}
use Rattle.vx_history.specs.Steps.{crashed, crash_left, kept_by, deported_site, recovered}
use Rattle.vx_history.specs.Sends.{is_linked, with_links, greeting}
use Rattle.vx_history.specs.Refusals.{says, is_primary, is_consistent, is_stale_mode, is_empty, follows, some_below, is_unconfirmed, holds_back, may_link, is_fresh, sizes_meet, rings_fit, count_links_of}
use Rattle.vx_history.specs.Gatherings.{emptied}
use Rattle.vx_history.specs.Events
use Rattle.vx_history.specs.Step.{done, link_part}
use Rattle.vx_history.specs.declared.event.Said.TheVariants.{Pending, Recovered, Refused}
use Rattle.vx_history.specs.declared.event.LinkPart.{LinkPart}
use Rattle.vx_history.specs.declared.event.LinkPart.TheVariants.{Joins, Made, Marked, Opened}
use Rattle.vx_history.specs.declared.receiver.REvent.TheVariants.{Restart as RestartSite}
use Rattle.vx_world.proofs.Likely.{noted, Same, same_of, tests, one_of, link_self, link_changed, pair_updated, like_node, like_history, like_rows, like_link, like_sending, like_promising, like_gathering}
use Rattle.vx_world.proofs.LikeTests.{any_linked, many_linked, held_same, unconfirmed_same}
use Rattle.vx_world.proofs.LikeChanges.{delivered_same}

-- ## Waiting, crashes and recoveries

module _ (w v : World) (like : IsLike w v) where
  pub deliver_same : (number : ℕ)
      → Same (Events.delivered w number (Events.packet_at w.packets number)) (Events.delivered v number (Events.packet_at v.packets number))
  deliver_same number =
      subst (λ (ps : List Packet). Same (Events.delivered w number (Events.packet_at w.packets number))
      (Events.delivered v number (Events.packet_at ps number))) (sym like.packets) (delivered_same w v like number (Events.packet_at w.packets number))

  pub promise_same : (n : Node) (number k : ℕ) (a b : LinkState) → SameLink a b → Events.promise_of n number k b ≡ Events.promise_of n number k a
  promise_same n number k a b same = by_link (is_linked a) refl
    where
      none : (l : LinkState) → is_linked l ≡ false → Events.promise_of n number k l ≡ []
      none l e = ap (λ (c : Bool). if c && (l.attached && is_fail l.sync) then record { line = n.line; number = number; site = k; surety = if leb number l.stored then Durable else InSession l.session } ∷ [] else []) e

      by_link : (c : Bool) → is_linked a ≡ c → Events.promise_of n number k b ≡ Events.promise_of n number k a
      by_link true e = ap (λ (l : LinkState). Events.promise_of n number k l) (same.same e)
      by_link false e = none b (same.linked ∙ e) ∙ sym (none a e)

  pub promises_same : (n : Node) (number p sites : ℕ) → Events.promises_of n number (v.links p) sites ≡ Events.promises_of n number (w.links p) sites
  promises_same n number p zero = refl
  promises_same n number p (suc k) =
      ap (λ (es : List Promise). es ++ Events.promises_of n number (v.links p) k) (promise_same n number k (w.links p k) (v.links p k) (like.links p k))
      ∙ ap (λ (es : List Promise). Events.promise_of n number k (w.links p k) ++ es) (promises_same n number p k)

  pub all_promises : (p number : ℕ) → Events.promises_of (v.nodes p) number (v.links p) v.sites ≡ Events.promises_of (w.nodes p) number (w.links p) w.sites
  all_promises p number =
      ap (λ (k : ℕ). Events.promises_of (v.nodes p) number (v.links p) k) like.sites
      ∙ promises_same (v.nodes p) number p w.sites
      ∙ by_line (v.nodes p) (w.nodes p) (ap (λ (n : Node). n.line) (like.nodes p)) w.sites
    where
      one : (a b : Node) → a.line ≡ b.line → (k : ℕ) (l : LinkState) → Events.promise_of a number k l ≡ Events.promise_of b number k l
      one a b e k l = ap (λ (x : Line). if is_linked l && (l.attached && is_fail l.sync) then record { line = x; number = number; site = k; surety = if leb number l.stored then Durable else InSession l.session } ∷ [] else []) e

      by_line : (a b : Node) → a.line ≡ b.line → (sites : ℕ) → Events.promises_of a number (w.links p) sites ≡ Events.promises_of b number (w.links p) sites
      by_line a b e zero = refl
      by_line a b e (suc k) =
          ap (λ (es : List Promise). es ++ Events.promises_of a number (w.links p) k) (one a b e k (w.links p k)) ∙ ap
          (λ (es : List Promise). Events.promise_of b number k (w.links p k) ++ es) (by_line a b e k)

  pub wait_same : (p number : ℕ) → Same (Events.waited w p number) (Events.waited v p number)
  wait_same p number =
      tests (eqb number 0 || ltb (w.nodes p).safe number) (eqb number 0 || ltb (v.nodes p).safe number) (Unknown (ByNumber number))
      (Unknown (ByNumber number)) w v _ _ (ap (λ (n : Node). eqb number 0 || ltb n.safe number) (like.nodes p)) refl like
      (λ _. tests (some_below w.sites (λ k. is_unconfirmed number k (w.links p k))) (some_below v.sites (λ k. is_unconfirmed number k (v.links p k)))
      (Unconfirmed number) (Unconfirmed number) w v _ _ (unconfirmed_same w v like p number) refl like
      (λ _. one_of (some_below w.sites (λ k. holds_back number k (w.links p k))) (some_below v.sites (λ k. holds_back number k (v.links p k)))
      (says w (Pending number)) (says v (Pending number)) _ _ (held_same w v like p number)
      (λ _. same_of w v (Pending number) (Pending number) like refl)
      (λ _. record {
        world = like_promising w v like (Events.promises_of (w.nodes p) number (w.links p) w.sites)
            (Events.promises_of (v.nodes p) number (v.links p) v.sites) (all_promises p number);
        said = refl;
      })))

  pub left_same : (u x : World) → IsLike u x → (q k : ℕ)
      → IsLike (emptied (with_links u q (λ to. Events.link_left (w.nodes q) k (w.links q to))) q) (emptied (with_links x q (λ to. Events.link_left (v.nodes q) k (v.links q to))) q)
  left_same u x l q k =
      let rows : IsLike (with_links u q (λ to. Events.link_left (w.nodes q) k (w.links q to))) (with_links x q (λ to. Events.link_left (v.nodes q) k (v.links q to))) =
      like_rows u x l q (λ to. Events.link_left (w.nodes q) k (w.links q to)) (λ to. Events.link_left (v.nodes q) k (v.links q to))
      (λ to. subst (λ (m : LinkState). SameLink (Events.link_left (w.nodes q) k (w.links q to)) m)
      (sym (ap (λ (n : Node). Events.link_left n k (v.links q to)) (like.nodes q)))
      (link_changed (λ m. Events.link_left (w.nodes q) k m) (λ m. refl) (w.links q to) (v.links q to) (like.links q to))) in
      like_gathering _ _ rows _ _ (λ i. pair_updated (λ (g h : Option Gathering). h ≡ g) u.gathering x.gathering q None None i refl (l.gathering i))

  pub crash_same : (q k : ℕ) → IsLike (Events.crash_at w q k) (Events.crash_at v q k)
  crash_same q k = by_role (is_origin (w.nodes q).role) (is_origin (v.nodes q).role) (ap (λ (n : Node). is_origin n.role) (like.nodes q))
    where
      down : crashed (v.nodes q) k ≡ noted (crashed (w.nodes q) k) (crashed (v.nodes q) k)
      down = ap (λ (n : Node). crashed n k) (like.nodes q)

      kept : kept_by (v.lines (v.nodes q).line) (v.nodes q) k ≡ kept_by (w.lines (w.nodes q).line) (w.nodes q) k
      kept = ap (λ (n : Node). kept_by (v.lines n.line) n k) (like.nodes q) ∙ ap (λ (h : History). kept_by h (w.nodes q) k) (like.lines (w.nodes q).line)

      by_role : (b c : Bool) → c ≡ b
          → IsLike (emptied (with_links (if b then crash_left w q k else with_node w q (crashed (w.nodes q) k)) q
          (λ to. Events.link_left (w.nodes q) k (w.links q to))) q)
          (emptied (with_links (if c then crash_left v q k else with_node v q (crashed (v.nodes q) k)) q (λ to. Events.link_left (v.nodes q) k (v.links q to))) q)
      by_role true true e = left_same (crash_left w q k) (crash_left v q k)
          (like_history w v like q (crashed (w.nodes q) k) (crashed (v.nodes q) k) (kept_by (w.lines (w.nodes q).line) (w.nodes q) k)
          (kept_by (v.lines (v.nodes q).line) (v.nodes q) k) down kept) q k
      by_role false false e = left_same (with_node w q (crashed (w.nodes q) k)) (with_node v q (crashed (v.nodes q) k))
          (like_node w v like q (crashed (w.nodes q) k) (crashed (v.nodes q) k) down) q k
      by_role true false e = let f : false ≡ true = e in absurd (cc)
      by_role false true e = let f : true ≡ false = e in absurd (cc)

  pub crash_like : (q kept : ℕ) → IsLike (Events.crash_at w q (Events.kept_of (w.nodes q) kept)) (Events.crash_at v q (Events.kept_of (v.nodes q) kept))
  crash_like q kept =
      subst (λ (k : ℕ). IsLike (Events.crash_at w q (Events.kept_of (w.nodes q) kept)) (Events.crash_at v q k))
      (sym (ap (λ (n : Node). Events.kept_of n kept) (like.nodes q))) (crash_same q (Events.kept_of (w.nodes q) kept))

  pub deport_same : (q : ℕ) → IsLike (Events.deport_at w q) (Events.deport_at v q)
  deport_same q =
      let u : World = Events.crash_at w q (Events.kept_of (w.nodes q) 0) in
      let x : World = Events.crash_at v q (Events.kept_of (v.nodes q) 0) in
      like_node u x (crash_like q 0) q (deported_site (w.nodes q).fuse (u.nodes q)) (deported_site (v.nodes q).fuse (x.nodes q))
      (ap (λ (n : Node). deported_site (v.nodes q).fuse n) ((crash_like q 0).nodes q))

  pub come_back_same : (a k : Node) → k ≡ noted a k → Events.come_back k ≡ noted (Events.come_back a) (Events.come_back k)
  come_back_same a k e = ap Events.come_back e ∙ by_origin (is_origin a.role) ∙ ap (λ (n : Node). noted (Events.come_back a) n) (sym (ap Events.come_back e))
    where
      by_origin : (b : Bool)
          → (if b then recovered (noted a k) else record
          (recovered (noted a k)) {
            session = (received_step (plain_receiver a)
                (RestartSite (length a.log) (a.session + 1))).state.session;
            mark = (received_step (plain_receiver a)
                (RestartSite (length a.log) (a.session + 1))).state.mark;
          })
          ≡ noted (if b then recovered a else record
          (recovered a) {
            session = (received_step (plain_receiver a) (RestartSite (length a.log) (a.session + 1))).state.session;
            mark = (received_step
                (plain_receiver a) (RestartSite (length a.log) (a.session + 1))).state.mark;
          })
          (if b then recovered (noted a k) else record
          (recovered (noted a k)) {
            session = (received_step (plain_receiver a)
                (RestartSite (length a.log) (a.session + 1))).state.session;
            mark = (received_step (plain_receiver a)
                (RestartSite (length a.log) (a.session + 1))).state.mark;
          })
      by_origin true = refl
      by_origin false = refl

  pub recovered_same : (q : ℕ) → IsLike (Events.recovered_at w q) (Events.recovered_at v q)
  recovered_same q =
      let n : Node = Events.come_back (w.nodes q) in
      let k : Node = Events.come_back (v.nodes q) in
      let e : k ≡ noted n k = come_back_same (w.nodes q) (v.nodes q) (like.nodes q) in
      let u : World = with_links (with_node w q n) q (λ to. Events.restarted_link n to (w.links q to)) in
      let x : World = with_links (with_node v q k) q (λ to. Events.restarted_link k to (v.links q to)) in
      let rows : IsLike u x = like_rows (with_node w q n) (with_node v q k) (like_node w v like q n k e) q (λ to. Events.restarted_link n to (w.links q to))
      (λ to. Events.restarted_link k to (v.links q to))
      (λ to. subst (λ (l : LinkState). SameLink (Events.restarted_link n to (w.links q to)) l)
      (sym (ap (λ (m : Node). Events.restarted_link m to (v.links q to)) e))
      (link_changed (λ l. Events.restarted_link n to l) (λ l. refl) (w.links q to) (v.links q to) (like.links q to))) in
      like_sending u x rows (Events.recovery_greeting q n) (Events.recovery_greeting q k)
      (ap (λ (m : Node). if is_origin m.role then [] else greeting q m.other m) e)

  pub recovery_same : (q : ℕ) (fails : Option ℕ) → Same (Events.recovery w q fails) (Events.recovery v q fails)
  recovery_same q None = record { world = recovered_same q; said = ap (λ (n : Node). Recovered (length n.log)) (like.nodes q) }
  recovery_same q (Some disk) = record {
    world = like_node w v like q (record (w.nodes q) { session = (w.nodes q).session + 1 }) (record (v.nodes q) { session = (v.nodes q).session + 1 })
        (ap (λ (n : Node). let m : Node = record n { session = n.session + 1 } in m) (like.nodes q));
    said = refl;
  }

  pub recover_same : (q : ℕ) (state : SiteState) (fails : Option ℕ) → Same (Events.recover_from state w q fails) (Events.recover_from state v q fails)
  recover_same q Bare fails = same_of w v (Refused NoConfig) (Refused NoConfig) like refl
  recover_same q Up fails = same_of w v (Refused WrongRole) (Refused WrongRole) like refl
  recover_same q Deported fails =
      tests (leb MOST_NUMBER (w.nodes q).session) (leb MOST_NUMBER (v.nodes q).session) (Limit CountOfNumbers MOST_NUMBER)
      (Limit CountOfNumbers MOST_NUMBER) w v _ _ (ap (λ (n : Node). leb MOST_NUMBER n.session) (like.nodes q)) refl like (λ _. recovery_same q fails)
  recover_same q Down fails =
      tests (leb MOST_NUMBER (w.nodes q).session) (leb MOST_NUMBER (v.nodes q).session) (Limit CountOfNumbers MOST_NUMBER)
      (Limit CountOfNumbers MOST_NUMBER) w v _ _ (ap (λ (n : Node). leb MOST_NUMBER n.session) (like.nodes q)) refl like (λ _. recovery_same q fails)

  -- ## Links that are made

  pub follows_same : (p q : ℕ) → follows v p q ≡ follows w p q
  follows_same p q = ap (λ (n : Node). not (is_origin n.role) && same_line n.line (v.nodes p).line) (like.nodes q) ∙ ap
      (λ (n : Node). not (is_origin (w.nodes q).role) && same_line (w.nodes q).line n.line) (like.nodes p)

  pub fresh_same : (q : ℕ) → is_fresh v q ≡ is_fresh w q
  fresh_same q =
      ap (λ (n : Node). is_primary n.role && (is_empty n.log && not (some_below v.sites (λ k. is_linked (v.links q k))))) (like.nodes q)
      ∙ ap (λ (b : Bool). is_primary (w.nodes q).role && (is_empty (w.nodes q).log && not b)) (any_linked w v like q)

  pub may_link_same : (p q : ℕ) → may_link v p q ≡ may_link w p q
  may_link_same p q =
      ap (λ (n : Node). is_primary n.role && (not (eqb q p) && (is_empty n.log && (same_line n.line (first_line p) && is_fresh v q)))) (like.nodes p)
      ∙ ap (λ (b : Bool). is_primary (w.nodes p).role && (not (eqb q p) && (is_empty (w.nodes p).log && (same_line (w.nodes p).line (first_line p) && b))))
      (fresh_same q)

  pub fit_same : (p q : ℕ)
      → (sizes_meet (v.nodes p).volumes (v.nodes q).volumes && rings_fit (v.nodes p) (v.nodes q)) ≡ (sizes_meet (w.nodes p).volumes (w.nodes q).volumes && rings_fit (w.nodes p) (w.nodes q))
  fit_same p q = ap (λ (n : Node). sizes_meet n.volumes (v.nodes q).volumes && rings_fit n (v.nodes q)) (like.nodes p) ∙ ap
      (λ (n : Node). sizes_meet (w.nodes p).volumes n.volumes && rings_fit (w.nodes p) n) (like.nodes q)

  pub name_same : (q : ℕ) → Exists (v.nodes q).name ≡ Exists (w.nodes q).name
  name_same q = ap (λ (n : Node). Exists n.name) (like.nodes q)

  pub joins_same : (p q : ℕ)
      → Same (done (emptied (with_node w q (Events.joined (w.nodes p) p (w.nodes q))) q)) (done (emptied (with_node v q (Events.joined (v.nodes p) p (v.nodes q))) q))
  joins_same p q =
      let n : Node = Events.joined (w.nodes p) p (w.nodes q) in
      let k : Node = Events.joined (v.nodes p) p (v.nodes q) in
      let e : k ≡ noted n k = ap (λ (m : Node). Events.joined m p (v.nodes q)) (like.nodes p) ∙ ap (λ (m : Node). Events.joined (w.nodes p) p m)
      (like.nodes q) in record {
        world = like_gathering (with_node w q n) (with_node v q k) (like_node w v like q n k e) _ _
            (λ i. pair_updated (λ (g h : Option Gathering). h ≡ g) w.gathering v.gathering q None None i refl (like.gathering i));
        said = refl;
      }

  pub part_same : (part : LinkPart) (p q : ℕ) (sync : SyncMode) (prot : Prot) → Same (link_part part w p q sync prot) (link_part part v p q sync prot)
  part_same Joins p q sync prot =
      tests (not (may_link w p q)) (not (may_link v p q)) WrongRole WrongRole w v _ _ (ap not (may_link_same p q)) refl like
      (λ _. tests (is_linked (w.links p q)) (is_linked (v.links p q)) (Exists (w.nodes q).name) (Exists (v.nodes q).name) w v _ _ (like.links p q).linked
      (name_same q) like
      (λ _. tests (leb MOST_LINKS (count_links_of w p)) (leb MOST_LINKS (count_links_of v p)) (Limit Links MOST_LINKS) (Limit Links MOST_LINKS) w v _ _
      (ap (λ (n : ℕ). leb MOST_LINKS n) (many_linked w v like p)) refl like
      (λ _. tests _ _ Size Size w v _ _ (ap not (fit_same p q)) refl like (λ _. joins_same p q))))
  part_same Made p q sync prot =
      let l : LinkState = Events.new_link (count_links_of w p) sync prot (w.nodes q) in
      let m : LinkState = Events.new_link (count_links_of v p) sync prot (v.nodes q) in
      let e : m ≡ l = ap (λ (n : ℕ). Events.new_link n sync prot (v.nodes q)) (many_linked w v like p) ∙ ap (λ (n : Node). Events.new_link (count_links_of w p) sync prot n)
      (like.nodes q) in
      tests (not (is_primary (w.nodes p).role && follows w p q)) (not (is_primary (v.nodes p).role && follows v p q)) WrongRole WrongRole w v _ _
      (ap (λ (n : Node). not (is_primary n.role && follows v p q)) (like.nodes p) ∙ ap (λ (b : Bool). not (is_primary (w.nodes p).role && b))
      (follows_same p q)) refl like
      (λ _. tests (is_linked (w.links p q)) (is_linked (v.links p q)) (Exists (w.nodes q).name) (Exists (v.nodes q).name) w v _ _ (like.links p q).linked
      (name_same q) like
      (λ _. record { world = like_link w v like p q l m (subst (λ (k : LinkState). SameLink l k) (sym e) (link_self l)); said = refl }))
  part_same Marked p q sync prot =
      let a : Node = record (w.nodes q) { mark = Consistent } in
      let b : Node = record (v.nodes q) { mark = Consistent } in
      tests _ _ WrongRole WrongRole w v _ _
      (ap not (marked_test p q)) refl like
      (λ _. record { world = like_node w v like q a b (ap (λ (n : Node). let m : Node = record n { mark = Consistent } in m) (like.nodes q)); said = refl })
    where
      marked_test : (p q : ℕ)
          → (is_primary (v.nodes p).role && (follows v p q && (is_linked (v.links p q) && is_empty (v.nodes p).log))) ≡ (is_primary (w.nodes p).role && (follows w p q && (is_linked (w.links p q) && is_empty (w.nodes p).log)))
      marked_test p q =
          ap (λ (n : Node). is_primary n.role && (follows v p q && (is_linked (v.links p q) && is_empty n.log))) (like.nodes p)
          ∙ ap (λ (b : Bool). is_primary (w.nodes p).role && (b && (is_linked (v.links p q) && is_empty (w.nodes p).log))) (follows_same p q)
          ∙ ap (λ (b : Bool). is_primary (w.nodes p).role && (follows w p q && (b && is_empty (w.nodes p).log))) (like.links p q).linked
  part_same Opened p q sync prot = by_link (is_linked (w.links p q)) refl
    where
      rest_of : (u : World) → LinkState → Bool
      rest_of u l = is_empty (u.nodes p).log && (is_stale_mode l.mode && (phase_takes (u.nodes q).phase && is_consistent (u.nodes q).mark))

      rest_same : (l : LinkState) → rest_of v l ≡ rest_of w l
      rest_same l =
          ap (λ (n : Node). is_empty n.log && (is_stale_mode l.mode && (phase_takes (v.nodes q).phase && is_consistent (v.nodes q).mark))) (like.nodes p)
          ∙ ap (λ (n : Node). is_empty (w.nodes p).log && (is_stale_mode l.mode && (phase_takes n.phase && is_consistent n.mark))) (like.nodes q)

      fronts : (c : Bool) → (is_primary (v.nodes p).role && (follows v p q && c)) ≡ (is_primary (w.nodes p).role && (follows w p q && c))
      fronts c = ap (λ (n : Node). is_primary n.role && (follows v p q && c)) (like.nodes p) ∙ ap (λ (b : Bool). is_primary (w.nodes p).role && (b && c))
          (follows_same p q)

      none : (a b c : Bool) → c ≡ false → (a && (b && c)) ≡ false
      none true true c e = e
      none true false c e = refl
      none false b c e = refl

      by_link : (c : Bool) → is_linked (w.links p q) ≡ c → Same (link_part Opened w p q sync prot) (link_part Opened v p q sync prot)
      by_link true is =
          let same : v.links p q ≡ w.links p q = (like.links p q).same is in
          let l : LinkState = Events.opened (w.links p q) (w.nodes p).safe in
          let m : LinkState = Events.opened (v.links p q) (v.nodes p).safe in
          let e : m ≡ l = ap (λ (k : LinkState). Events.opened k (v.nodes p).safe) same ∙ ap (λ (n : Node). Events.opened (w.links p q) n.safe)
          (like.nodes p) in
          tests _ _ WrongRole WrongRole w v _ _
          (ap not (ap (λ (k : LinkState). is_primary (v.nodes p).role && (follows v p q && (is_linked k && rest_of v k))) same
          ∙ fronts (is_linked (w.links p q) && rest_of v (w.links p q))
          ∙ ap (λ (b : Bool). is_primary (w.nodes p).role && (follows w p q && (is_linked (w.links p q) && b))) (rest_same (w.links p q)))) refl like
          (λ _. record { world = like_link w v like p q l m (subst (λ (k : LinkState). SameLink l k) (sym e) (link_self l)); said = refl })
      by_link false is =
          let none_w : (is_primary (w.nodes p).role && (follows w p q && (is_linked (w.links p q) && rest_of w (w.links p q)))) ≡ false =
          none (is_primary (w.nodes p).role) (follows w p q) (is_linked (w.links p q) && rest_of w (w.links p q))
          (ap (λ (b : Bool). b && rest_of w (w.links p q)) is) in
          let none_v : (is_primary (v.nodes p).role && (follows v p q && (is_linked (v.links p q) && rest_of v (v.links p q)))) ≡ false =
          none (is_primary (v.nodes p).role) (follows v p q) (is_linked (v.links p q) && rest_of v (v.links p q))
          (ap (λ (b : Bool). b && rest_of v (v.links p q)) ((like.links p q).linked ∙ is)) in
          tests _ _ WrongRole WrongRole w v _ _ (ap not (none_v ∙ sym none_w)) refl like
          (λ opens. let f : not false ≡ false = sym (ap not none_w) ∙ opens in let g : true ≡ false = f in absurd (cc))
