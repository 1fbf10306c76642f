-- Crashes, and sites that come up again, leave a good world good.
use Rattle.std.proofs.Common.{◌≡◌, ℕ, ◌+◌, ◌≤◌, List, [], ◌∷◌, ◌++◌, length, take, drop, refl, ap, sym, ◌∙◌, subst, inl, arith, length-append, true, false}
use Rattle.std.specs.Prelude.{Some}
use Rattle.std.proofs.lemmas.List.{length-take, take-take, take-append-drop, take-append-le}
use Rattle.vx_model.specs.Content.{Write, Content, fold_writes, IsPrefixOf}
use Rattle.vx_history.specs.World.{Node, History, World, Fuse, FuseSet, with_node, with_history}
use Rattle.vx_model.specs.Sites.{is_origin}
use Rattle.vx_history.specs.Steps.{crashed, kept_by, crash_left, half_begun, cut_write, deported_site, deported_world, fallen_site, fallen_world, group_back, group_up, recovered, came_up, session_begun, stopped_by, worked_on, fused, burned}
use Rattle.vx_history.specs.Events.{crash_at}
use Rattle.vx_history.specs.Good.{GoodNode, Good, IsMade, TellsContent}
use Rattle.vx_history.specs.GoodCopies.{GoodCopy, GoodReplays}
use Rattle.vx_history.proofs.Copies.{copy_more, replays_more}
use Rattle.vx_model.specs.declared.history.Line.{Line}
use Rattle.vx_model.specs.declared.site.SiteState.TheVariants.{Down}
use Rattle.vx_model.specs.declared.site.Mark.TheVariants.{Consistent}
use Rattle.vx_history.proofs.Updates.{by_test, at_place}
use Rattle.vx_history.proofs.GoodLemmas.{made_is_given, good_changed, good_stays, fold_append, prefix_push}

-- what a node has with its first k writes
module _ (n : Node) (k : ℕ) (least : n.safe ≤ k) (most : k ≤ length n.log) where
  pub kept_length : length (take k n.log) ≡ k
  kept_length = omega (arith, length-take k n.log, most)

  kept_whole : take k (take k n.log) ≡ take k n.log
  kept_whole = take-take k k n.log (omega arith)

  kept_front : take n.safe (take k n.log) ≡ take n.safe n.log
  kept_front = take-take n.safe k n.log least

  -- the durable writes and those that a crash kept beside them
  kept_parts : take n.safe n.log ++ drop n.safe (take k n.log) ≡ take k n.log
  kept_parts = ap (λ (t : List Write). t ++ drop n.safe (take k n.log)) (sym kept_front) ∙ take-append-drop n.safe (take k n.log)

  pub kept_content : n.base ≡ fold_writes n.start (take n.safe n.log) → fold_writes n.base (drop n.safe (take k n.log)) ≡ fold_writes n.start (take k (take k n.log))
  kept_content e =
      ap (λ (c : Content). fold_writes c (drop n.safe (take k n.log))) e
      ∙ sym (fold_append n.start (take n.safe n.log) (drop n.safe (take k n.log)))
      ∙ ap (λ (t : List Write). fold_writes n.start t) (kept_parts ∙ sym kept_whole)

-- a longer first part
prefix_longer : (n : Node) (k : ℕ) (xs held : List Write) → n.safe ≤ k → take n.safe n.log ≡ held → k ≤ length n.log → IsPrefixOf xs held → IsPrefixOf xs (take k n.log)
prefix_longer n k xs held least e most prefix =
    subst (λ (t : List Write). IsPrefixOf xs t) (kept_parts n k least most)
    (prefix_push xs (take n.safe n.log) (drop n.safe (take k n.log)) (subst (λ (t : List Write). IsPrefixOf xs t) (sym e) prefix))

-- a site that crashed with its log, or with a write more that it had begun, and kept the first k
module _ (w : World) (i k : ℕ) (s : Good w) (made : IsMade (w.nodes i)) (origin : is_origin (w.nodes i).role ≡ true) (n : Node) (same : n.line ≡ (w.nodes i).line)
    (least : n.safe ≤ k) (most : k ≤ length n.log) (held : take n.safe n.log ≡ (w.lines n.line).held) (role : is_origin n.role ≡ true) (mark : n.mark ≡ Consistent)
    (content : TellsContent n → n.base ≡ fold_writes n.start (take n.safe n.log)) where
  own : n.line.origin ≡ i
  own = ap (λ (l : Line). l.origin) same ∙ (s.nodes i).own_line made origin

  here : GoodNode (kept_by (w.lines n.line) n k) i (crashed n k)
  here = record {
    safe_fits = omega (arith, kept_length n k least most);
    own_line = λ _ _. own;
    receiver_log = λ _ not. absurd (let e : true ≡ false = sym role ∙ not in cc);
    origin_log = λ _ _. take-take k k n.log (omega arith);
    origin_whole = λ _ _. omega (arith, kept_length n k least most);
    origin_mark = λ _. mark;
    plain = λ bare. absurd (cc);
    content = λ tells. kept_content n k least most (content tells);
    copy = λ _ not. absurd (let e : true ≡ false = sym role ∙ not in cc);
  }

  -- the line holds what it held, and what the crash kept beside
  pub kept_line : (w.lines n.line).held ++ drop n.safe (take k n.log) ≡ take k n.log
  kept_line = ap (λ (t : List Write). t ++ drop n.safe (take k n.log)) (sym held) ∙ kept_parts n k least most

  table : (j : ℕ) → GoodReplays (take k n.log) ((w.lines n.line).replays j)
  table j =
      let h : History = w.lines n.line in
      subst (λ (t : List Write). GoodReplays t (h.replays j)) kept_line (replays_more h.held (drop n.safe (take k n.log)) (h.replays j) (s.replays n.line j))

  there : (j : ℕ) → (j ≡ i → ⊥) → IsMade (w.nodes j) → (w.nodes j).line ≡ n.line → GoodNode (kept_by (w.lines n.line) n k) j (w.nodes j)
  there j apart is e =
      let good : GoodNode (w.lines n.line) j (w.nodes j) = subst (λ (l : Line). GoodNode (w.lines l) j (w.nodes j)) e (s.nodes j) in
      record {
        safe_fits = good.safe_fits;
        own_line = good.own_line;
        receiver_log = λ is_made not. prefix_longer n k (w.nodes j).log (w.lines n.line).held least held most (good.receiver_log is_made not);
        origin_log = λ is_made is_origin'. absurd (apart (sym (good.own_line is_made is_origin') ∙ ap (λ (l : Line). l.origin) e ∙ own));
        origin_whole = good.origin_whole;
        origin_mark = good.origin_mark;
        plain = good.plain;
        content = good.content;
        copy = λ is_made not.
            let h : History = w.lines n.line in
            subst (λ (t : List Write). GoodCopy t (h.replays j) (w.nodes j)) kept_line
            (copy_more h.held (drop n.safe (take k n.log)) (h.replays j) (s.replays n.line j) (w.nodes j) good.safe_fits (good.receiver_log is_made not) (good.copy is_made not));
      }

  good_down : Good (with_history w i (crashed n k) (kept_by (w.lines n.line) n k))
  good_down =
      good_changed w i (crashed n k) (kept_by (w.lines n.line) n k) s here
      (λ e. cc) own
      (omega (arith, s.told n.line, ap (λ (t : List Write). length t) held, length-take n.safe n.log, kept_length n k least most, least))
      table
      there
      (made_is_given w i s made)

pub good_crashed : (w : World) (i k : ℕ) → Good w → IsMade (w.nodes i) → is_origin (w.nodes i).role ≡ true → (w.nodes i).safe ≤ k → k ≤ length (w.nodes i).log → Good (crash_left w i k)
good_crashed w i k s made origin least most =
    let n : Node = w.nodes i in
    let good = s.nodes i in
    good_down w i k s made origin n refl least most (good.origin_log made origin) origin (good.origin_mark origin) good.content

-- the same where it had begun a write
pub good_cut : (w : World) (i : ℕ) (x : Write) (k : ℕ) → Good w → IsMade (w.nodes i) → is_origin (w.nodes i).role ≡ true → (w.nodes i).safe ≤ k → k ≤ length (w.nodes i).log + 1 → Good (cut_write w i x k)
good_cut w i x k s made origin least most =
    let n : Node = w.nodes i in
    let good = s.nodes i in
    let front : take n.safe (n.log ++ x ∷ []) ≡ take n.safe n.log = take-append-le n.safe n.log (x ∷ []) good.safe_fits in
    good_down w i k s made origin (half_begun n x) refl least (omega (arith, most, length-append n.log (x ∷ []))) (front ∙ good.origin_log made origin) origin (good.origin_mark origin)
    (λ tells. good.content tells ∙ ap (λ (t : List Write). fold_writes n.start t) (sym front))

-- a site of which only the state, the session or the halt changed, and that has no write that is not durable or is halted
stays_node : (w : World) (i : ℕ) (n : Node) → Good w → IsMade (w.nodes i) → n.line ≡ (w.nodes i).line → GoodNode (w.lines n.line) i n → IsMade n → Good (with_node w i n)
stays_node w i n s made line good is =
    good_stays w i n s good (λ _. inl (subst (λ (l : Line). IsMade (w.nodes l.origin)) (sym line) (s.begun i made))) (λ _. is) (λ past. absurd (made (s.later i past)))

-- a site that is down gives its disks up
pub good_deported : (w : World) (i : ℕ) (fuse : Fuse) → Good w → IsMade (w.nodes i) → length (w.nodes i).log ≤ (w.nodes i).safe → Good (deported_world fuse w i)
good_deported w i fuse s made whole =
    let good = s.nodes i in
    stays_node w i (deported_site fuse (w.nodes i)) s made refl
    (record {
      safe_fits = good.safe_fits;
      own_line = λ _ is. good.own_line made is;
      receiver_log = λ _ not. good.receiver_log made not;
      origin_log = λ _ is. good.origin_log made is;
      origin_whole = λ _ _. whole;
      origin_mark = good.origin_mark;
      plain = λ bare. absurd (cc);
      content = good.content;
      copy = λ _ not. let c = good.copy made not in record { size = c.size; known = c.known; copying = c.copying; filling = c.filling };
    })
    (λ e. cc)

-- one that gave them up is down
pub good_fallen : (w : World) (i : ℕ) → Good w → IsMade (w.nodes i) → length (w.nodes i).log ≤ (w.nodes i).safe → Good (fallen_world w i)
good_fallen w i s made whole =
    let good = s.nodes i in
    stays_node w i (fallen_site (w.nodes i)) s made refl
    (record {
      safe_fits = good.safe_fits;
      own_line = λ _ is. good.own_line made is;
      receiver_log = λ _ not. good.receiver_log made not;
      origin_log = λ _ is. good.origin_log made is;
      origin_whole = λ _ _. whole;
      origin_mark = good.origin_mark;
      plain = λ bare. absurd (cc);
      content = good.content;
      copy = λ _ not. let c = good.copy made not in record { size = c.size; known = c.known; copying = c.copying; filling = c.filling };
    })
    (λ e. cc)

-- a site with all its writes durable comes up again
pub good_recovered : (w : World) (i : ℕ) → Good w → IsMade (w.nodes i) → length (w.nodes i).log ≤ (w.nodes i).safe → Good (came_up w i)
good_recovered w i s made whole =
    let good = s.nodes i in
    stays_node w i (recovered (w.nodes i)) s made refl
    (record {
      safe_fits = good.safe_fits;
      own_line = λ _ is. good.own_line made is;
      receiver_log = λ _ not. good.receiver_log made not;
      origin_log = λ _ is. good.origin_log made is;
      origin_whole = λ _ _. whole;
      origin_mark = good.origin_mark;
      plain = λ bare. absurd (cc);
      content = good.content;
      copy = λ _ not. let c = good.copy made not in record { size = c.size; known = c.known; copying = c.copying; filling = c.filling };
    })
    (λ e. cc)

-- and so does a group of disks that stays in its session
pub good_back : (w : World) (i : ℕ) → Good w → IsMade (w.nodes i) → length (w.nodes i).log ≤ (w.nodes i).safe → Good (group_back w i)
good_back w i s made whole =
    let good = s.nodes i in
    stays_node w i (group_up (w.nodes i)) s made refl
    (record {
      safe_fits = good.safe_fits;
      own_line = λ _ is. good.own_line made is;
      receiver_log = λ _ not. good.receiver_log made not;
      origin_log = λ _ is. good.origin_log made is;
      origin_whole = λ _ _. whole;
      origin_mark = good.origin_mark;
      plain = λ bare. absurd (cc);
      content = good.content;
      copy = λ _ not. let c = good.copy made not in record { size = c.size; known = c.known; copying = c.copying; filling = c.filling };
    })
    (λ e. cc)

pub good_session_begun : (w : World) (i : ℕ) → Good w → IsMade (w.nodes i) → Good (session_begun w i)
good_session_begun w i s made =
    let good = s.nodes i in
    stays_node w i (record (w.nodes i) { session = (w.nodes i).session + 1 }) s made refl
    (record {
      safe_fits = good.safe_fits;
      own_line = good.own_line;
      receiver_log = good.receiver_log;
      origin_log = good.origin_log;
      origin_whole = good.origin_whole;
      origin_mark = good.origin_mark;
      plain = good.plain;
      content = good.content;
      copy = λ is not. let c = good.copy is not in record { size = c.size; known = c.known; copying = c.copying; filling = c.filling };
    })
    made

pub good_stopped : (w : World) (i disk : ℕ) → Good w → IsMade (w.nodes i) → Good (stopped_by w i disk)
good_stopped w i disk s made =
    let good = s.nodes i in
    stays_node w i (record (w.nodes i) { halted = Some disk; fuse = burned (w.nodes i).fuse }) s made refl
    (record {
      safe_fits = good.safe_fits;
      own_line = good.own_line;
      receiver_log = good.receiver_log;
      origin_log = good.origin_log;
      origin_whole = λ _ none. absurd (cc);
      origin_mark = good.origin_mark;
      plain = good.plain;
      content = good.content;
      copy = λ is not. let c = good.copy is not in record { size = c.size; known = c.known; copying = c.copying; filling = c.filling };
    })
    made

-- what a fuse is changes nothing else
good_fuse : (w : World) (i : ℕ) (fuse : Fuse) → Good w → IsMade (w.nodes i) → Good (with_node w i (record (w.nodes i) { fuse = fuse }))
good_fuse w i fuse s made =
    let good = s.nodes i in
    stays_node w i (record (w.nodes i) { fuse = fuse }) s made refl
    (record {
      safe_fits = good.safe_fits;
      own_line = good.own_line;
      receiver_log = good.receiver_log;
      origin_log = good.origin_log;
      origin_whole = good.origin_whole;
      origin_mark = good.origin_mark;
      plain = good.plain;
      content = good.content;
      copy = λ is not. let c = good.copy is not in record { size = c.size; known = c.known; copying = c.copying; filling = c.filling };
    })
    made

pub good_worked : (w : World) (i : ℕ) → Good w → IsMade (w.nodes i) → Good (worked_on w i)
good_worked w i s made = good_fuse w i (burned (w.nodes i).fuse) s made

pub good_fused : (w : World) (i calls : ℕ) → Good w → IsMade (w.nodes i) → Good (fused w i calls)
good_fused w i calls s made = good_fuse w i (FuseSet calls) s made

-- a site that crashed is down
pub crash_state : (w : World) (i k : ℕ) → ((crash_at w i k).nodes i).state ≡ Down
crash_state w i k =
    by_test (λ (v : World). (v.nodes i).state ≡ Down) (is_origin (w.nodes i).role) (crash_left w i k) (with_node w i (crashed (w.nodes i) k))
    (λ _. ap (λ (n : Node). n.state) (at_place w.nodes i (crashed (w.nodes i) k)))
    (λ _. ap (λ (n : Node). n.state) (at_place w.nodes i (crashed (w.nodes i) k)))
