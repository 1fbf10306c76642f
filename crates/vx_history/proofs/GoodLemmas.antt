-- Each event of a primary without links leaves a good world good.
use Rattle.std.proofs.Common.{◌≡◌, ℕ, ◌+◌, ◌-◌, ◌≤◌, ◌<◌, List, [], ◌∷◌, ◌++◌, length, take, refl, ap, sym, ◌∙◌, subst, inl, inr, ◌⊎◌, arith, append_assoc, length-append, true, false, ⊎_elim}
use Rattle.std.specs.Prelude.{Some, eqb}
use Rattle.std.proofs.lemmas.Bool.{cases_lt}
use Rattle.std.proofs.lemmas.List.{take_all, take-append-le}
pub use Rattle.vx_model.proofs.Contents.{fold_append}
use Rattle.vx_model.specs.Content.{Write, Content, put, fold_writes, IsPrefixOf}
use Rattle.vx_history.specs.World.{Node, History, Volume, World, no_replays, no_volumes, updated, line_updated, with_node, with_history, empty_world, bare_site}
use Rattle.vx_model.specs.Sites.{same_line}
use Rattle.vx_model.specs.Sizes.{ring_of}
use Rattle.vx_history.specs.Steps.{site_made, begun_site, begun_line, line_begun, raw_made, raw_volumes, raw_content, group_made, logged, told_of, written, half_written, burned}
use Rattle.vx_history.specs.Good.{GoodNode, Good, IsMade, IsWorking}
use Rattle.vx_history.specs.GoodCopies.{GoodReplays}
use Rattle.vx_history.proofs.Copies.{copy_more, replays_more}
use Rattle.vx_model.specs.declared.history.Line.{Line}
use Rattle.vx_model.specs.declared.site.SiteState.{SiteState}
use Rattle.vx_model.specs.declared.site.SiteState.TheVariants.{Bare, Up, Deported, Down}
use Rattle.vx_history.proofs.Updates.{by_test, all_updated, all_lines, at_line, at_place, same_line_equal, eqb_equal}

pub bare_or_made : (s : SiteState) → (s ≡ Bare) ⊎ (s ≡ Bare → ⊥)
bare_or_made Bare = inl refl
bare_or_made Up = inr (λ e. cc)
bare_or_made Deported = inr (λ e. cc)
bare_or_made Down = inr (λ e. cc)

pub up_is_made : (n : Node) → n.state ≡ Up → IsMade n
up_is_made n up bare = let e : Up ≡ Bare = sym up ∙ bare in cc

pub made_is_given : (w : World) (i : ℕ) → Good w → IsMade (w.nodes i) → i < w.sites
made_is_given w i s made = ⊎_elim (λ below. below) (λ past. absurd (made (s.later i past))) (cases_lt i w.sites)

-- what is said of a bare site rests on no line
pub good_bare : (g h : History) (i : ℕ) (n : Node) → n.state ≡ Bare → GoodNode g i n → GoodNode h i n
good_bare g h i n bare good = record {
  safe_fits = good.safe_fits;
  own_line = good.own_line;
  receiver_log = λ made. absurd (made bare);
  origin_log = λ made. absurd (made bare);
  origin_whole = good.origin_whole;
  origin_mark = good.origin_mark;
  plain = good.plain;
  content = good.content;
  copy = λ made. absurd (made bare);
}

-- a site with the record of its line
pub good_changed : (w : World) (i : ℕ) (n : Node) (h : History) → Good w → GoodNode h i n → IsMade n → n.line.origin ≡ i → h.told ≤ length h.held
    → ((s : ℕ) → GoodReplays h.held (h.replays s)) → ((k : ℕ) → (k ≡ i → ⊥) → IsMade (w.nodes k) → (w.nodes k).line ≡ n.line → GoodNode h k (w.nodes k)) → i < w.sites → Good (with_history w i n h)
good_changed w i n h s good made own told table others given = record {
  nodes = all_updated (λ k (m : Node). GoodNode (line_updated w.lines n.line h m.line) k m) w.nodes i n
      (subst (λ (r : History). GoodNode r i n) (sym (at_line w.lines n.line h)) good)
      (λ k apart. by_test (λ (r : History). GoodNode r k (w.nodes k)) (same_line (w.nodes k).line n.line) h (w.lines (w.nodes k).line)
      (λ e. ⊎_elim
      (λ bare. good_bare (w.lines (w.nodes k).line) h k (w.nodes k) bare (s.nodes k))
      (λ is. others k apart is (same_line_equal (w.nodes k).line n.line e))
      (bare_or_made (w.nodes k).state))
      (λ _. s.nodes k));
  begun = all_updated (λ k (m : Node). IsMade m → IsMade (updated w.nodes i n m.line.origin)) w.nodes i n
      (λ _. subst (λ (k : ℕ). IsMade (updated w.nodes i n k)) (sym own) (subst IsMade (sym (at_place w.nodes i n)) made))
      (λ k _ is. by_test IsMade (eqb (w.nodes k).line.origin i) n (w.nodes (w.nodes k).line.origin) (λ _. made) (λ _. s.begun k is));
  later = all_updated (λ k (m : Node). w.sites ≤ k → m.state ≡ Bare) w.nodes i n (λ past. absurd (omega arith)) (λ k _ past. s.later k past);
  told = all_lines (λ l (r : History). r.told ≤ length r.held) w.lines n.line h told (λ k _. s.told k);
  replays = all_lines (λ l (r : History). (k : ℕ) → GoodReplays r.held (r.replays k)) w.lines n.line h table (λ k _. s.replays k);
}

-- a site that stays on its line, of which the record stays
pub good_stays : (w : World) (i : ℕ) (n : Node) → Good w → GoodNode (w.lines n.line) i n → (IsMade n → IsMade (w.nodes n.line.origin) ⊎ (n.line.origin ≡ i)) → (IsMade (w.nodes i) → IsMade n)
    → (w.sites ≤ i → n.state ≡ Bare) → Good (with_node w i n)
good_stays w i n s good begun stays bare = record {
  nodes = all_updated (λ k (m : Node). GoodNode (w.lines m.line) k m) w.nodes i n good (λ k _. s.nodes k);
  begun = all_updated (λ k (m : Node). IsMade m → IsMade (updated w.nodes i n m.line.origin)) w.nodes i n
      (λ made. later made n.line.origin (begun made))
      (λ k _ is. still (w.nodes k).line.origin (s.begun k is));
  later = all_updated (λ k (m : Node). w.sites ≤ k → m.state ≡ Bare) w.nodes i n bare (λ k _ past. s.later k past);
  told = s.told;
  replays = s.replays;
}
  where
    still : (k : ℕ) → IsMade (w.nodes k) → IsMade (updated w.nodes i n k)
    still k made = by_test IsMade (eqb k i) n (w.nodes k) (λ e. stays (subst (λ (j : ℕ). IsMade (w.nodes j)) (eqb_equal k i e) made)) (λ _. made)

    later : IsMade n → (k : ℕ) → IsMade (w.nodes k) ⊎ (k ≡ i) → IsMade (updated w.nodes i n k)
    later made k (inl is) = still k is
    later made k (inr e) = subst (λ (j : ℕ). IsMade (updated w.nodes i n j)) (sym e) (subst IsMade (sym (at_place w.nodes i n)) made)

-- where no replay was begun nothing is asked
none_begun : (held : List Write) → GoodReplays held no_replays
none_begun held = record { spans = λ i le. (omega arith, omega arith); rise = λ i j less le. absurd (omega (arith, less, le)) }

pub good_empty : Good empty_world
good_empty = record {
  nodes = λ i. record {
    safe_fits = omega arith;
    own_line = λ made. absurd (made refl);
    receiver_log = λ made. absurd (made refl);
    origin_log = λ made. absurd (made refl);
    origin_whole = λ _ _. omega arith;
    origin_mark = λ _. refl;
    plain = λ _. (refl, refl);
    content = λ _. refl;
    copy = λ made. absurd (made refl);
  };
  begun = λ i made. absurd (made refl);
  later = λ i _. refl;
  told = λ l. omega arith;
  replays = λ l s. none_begun [];
}

good_bare_site : (h : History) (i : ℕ) (name : List ℕ) (disks blocks : ℕ) → GoodNode h i (bare_site name disks blocks)
good_bare_site h i name disks blocks = record {
  safe_fits = omega arith;
  own_line = λ made. absurd (made refl);
  receiver_log = λ made. absurd (made refl);
  origin_log = λ made. absurd (made refl);
  origin_whole = λ _ _. omega arith;
  origin_mark = λ _. refl;
  plain = λ _. (refl, refl);
  content = λ _. refl;
  copy = λ made. absurd (made refl);
}

pub good_site : (w : World) (name : List ℕ) (disks blocks : ℕ) → Good w → Good (site_made w name disks blocks)
good_site w name disks blocks s =
    let bare : (w.nodes w.sites).state ≡ Bare = s.later w.sites (omega arith) in
    let changed : Good (with_node w w.sites (bare_site name disks blocks)) = good_stays w w.sites (bare_site name disks blocks) s
    (good_bare_site _ w.sites name disks blocks) (λ made. absurd (made refl)) (λ made. absurd (made bare)) (λ _. refl) in
    record { nodes = changed.nodes; begun = changed.begun; later = λ k past. changed.later k (omega arith); told = changed.told; replays = changed.replays }

pub good_begun : (w : World) (i ring : ℕ) (volumes : List Volume) (content : Content) → Good w → i < w.sites → (w.nodes i).state ≡ Bare
    → Good (line_begun w i ring volumes content)
good_begun w i ring volumes content s given bare =
    good_changed w i (begun_site i ring volumes content (w.nodes i)) (begun_line content) s
    (record {
      safe_fits = omega arith;
      own_line = λ _ _. refl;
      receiver_log = λ _ not. absurd (cc);
      origin_log = λ _ _. refl;
      origin_whole = λ _ _. omega arith;
      origin_mark = λ _. refl;
      plain = λ bare. absurd (let e : Up ≡ Bare = bare in cc);
      content = λ _. refl;
      copy = λ _ not. absurd (cc);
    })
    (λ e. cc) refl (omega arith)
    (λ _. none_begun [])
    (λ k _ made e. absurd (subst (λ (l : Line). IsMade (w.nodes l.origin)) e (s.begun k made) bare))
    given

pub good_raw : (w : World) (i : ℕ) → Good w → i < w.sites → (w.nodes i).state ≡ Bare → Good (raw_made w i)
good_raw w i = let n : Node = w.nodes i in good_begun w i (ring_of n.blocks) (raw_volumes 1 (n.disks - 2) n.blocks) (raw_content n.disks n.blocks)

pub good_group : (w : World) (i : ℕ) → Good w → i < w.sites → (w.nodes i).state ≡ Bare → Good (group_made w i)
good_group w i = good_begun w i 0 [] no_volumes

pub prefix_push : (xs ys zs : List Write) → IsPrefixOf xs ys → IsPrefixOf xs (ys ++ zs)
unfolding IsPrefixOf
prefix_push xs ys zs (rest, e) = (rest ++ zs, sym (append_assoc xs rest zs) ∙ ap (λ (t : List Write). t ++ zs) e)

-- a log of which all is durable, with one more durable write
module _ (n : Node) (x : Write) (fits : n.safe ≤ length n.log) (whole : length n.log ≤ n.safe) where
  all_before : take n.safe n.log ≡ n.log
  all_before = take_all n.safe n.log whole

  all_after : take (n.safe + 1) (n.log ++ x ∷ []) ≡ n.log ++ x ∷ []
  all_after = take_all (n.safe + 1) (n.log ++ x ∷ []) (omega (arith, length-append n.log (x ∷ [])))

  pub log_after : (held : List Write) → take n.safe n.log ≡ held → take (n.safe + 1) (n.log ++ x ∷ []) ≡ held ++ x ∷ []
  log_after held e = all_after ∙ ap (λ (t : List Write). t ++ x ∷ []) (sym all_before ∙ e)

  pub content_after : n.base ≡ fold_writes n.start (take n.safe n.log) → put n.base x ≡ fold_writes n.start (take (n.safe + 1) (n.log ++ x ∷ []))
  content_after e =
      ap (λ (c : Content). put c x) (e ∙ ap (λ (t : List Write). fold_writes n.start t) all_before)
      ∙ sym (fold_append n.start n.log (x ∷ [])) ∙ ap (λ (t : List Write). fold_writes n.start t) (sym all_after)

pub good_written : (w : World) (i : ℕ) (x : Write) → Good w → IsWorking (w.nodes i) → Good (written w i x)
good_written w i x s working =
    let n : Node = w.nodes i in
    let h : History = w.lines n.line in
    let good : GoodNode h i n = s.nodes i in
    let made : IsMade n = up_is_made n working.up in
    let whole : length n.log ≤ n.safe = good.origin_whole working.origin working.running in
    good_changed w i (logged n x) (told_of h x) s
    (record {
      safe_fits = omega (arith, good.safe_fits, length-append n.log (x ∷ []));
      own_line = good.own_line;
      receiver_log = λ _ not. absurd (let e : true ≡ false = sym working.origin ∙ not in cc);
      origin_log = λ _ _. log_after n x good.safe_fits whole h.held (good.origin_log made working.origin);
      origin_whole = λ _ _. omega (arith, whole, length-append n.log (x ∷ []));
      origin_mark = good.origin_mark;
      plain = good.plain;
      content = λ tells. content_after n x good.safe_fits whole (good.content tells);
      copy = λ _ not. absurd (let e : true ≡ false = sym working.origin ∙ not in cc);
    })
    made (good.own_line made working.origin) (omega (arith, length-append h.held (x ∷ [])))
    (λ k. replays_more h.held (x ∷ []) (h.replays k) (s.replays n.line k))
    (λ k apart is e. other k apart is e)
    (made_is_given w i s made)
  where
    other : (k : ℕ) → (k ≡ i → ⊥) → IsMade (w.nodes k) → (w.nodes k).line ≡ (w.nodes i).line → GoodNode (told_of (w.lines (w.nodes i).line) x) k (w.nodes k)
    other k apart is e =
        let good : GoodNode (w.lines (w.nodes i).line) k (w.nodes k) = subst (λ (l : Line). GoodNode (w.lines l) k (w.nodes k)) e (s.nodes k) in
        let own : (w.nodes i).line.origin ≡ i = (s.nodes i).own_line (up_is_made (w.nodes i) working.up) working.origin in
        record {
          safe_fits = good.safe_fits;
          own_line = good.own_line;
          receiver_log = λ made not. prefix_push (w.nodes k).log (w.lines (w.nodes i).line).held (x ∷ []) (good.receiver_log made not);
          origin_log = λ made origin. absurd (apart (sym (good.own_line made origin) ∙ ap (λ (l : Line). l.origin) e ∙ own));
          origin_whole = good.origin_whole;
          origin_mark = good.origin_mark;
          plain = good.plain;
          content = good.content;
          copy = λ made not.
              let h : History = w.lines (w.nodes i).line in
              copy_more h.held (x ∷ []) (h.replays k) (s.replays (w.nodes i).line k) (w.nodes k) good.safe_fits (good.receiver_log made not) (good.copy made not);
        }

take_front : (n : ℕ) (xs ys : List Write) → n ≤ length xs → take n (xs ++ ys) ≡ take n xs
take_front n xs ys h = take-append-le n xs ys h

pub good_half_written : (w : World) (i : ℕ) (x : Write) (disk : ℕ) → Good w → IsWorking (w.nodes i) → Good (half_written w i x disk)
good_half_written w i x disk s working =
    let n : Node = w.nodes i in
    let good : GoodNode (w.lines n.line) i n = s.nodes i in
    let made : IsMade n = up_is_made n working.up in
    let front : take n.safe (n.log ++ x ∷ []) ≡ take n.safe n.log = take_front n.safe n.log (x ∷ []) good.safe_fits in
    good_stays w i (record n { log = n.log ++ x ∷ []; halted = Some disk; fuse = burned n.fuse }) s
    (record {
      safe_fits = omega (arith, good.safe_fits, length-append n.log (x ∷ []));
      own_line = good.own_line;
      receiver_log = λ _ not. absurd (let e : true ≡ false = sym working.origin ∙ not in cc);
      origin_log = λ made origin. front ∙ good.origin_log made origin;
      origin_whole = λ _ none. absurd (cc);
      origin_mark = good.origin_mark;
      plain = good.plain;
      content = λ tells. good.content tells ∙ ap (λ (t : List Write). fold_writes n.start t) (sym front);
      copy = λ _ not. absurd (let e : true ≡ false = sym working.origin ∙ not in cc);
    })
    (λ is. inl (s.begun i is)) (λ is. is) (λ past. s.later i past)
