-- Each change of one site keeps what is said of it.
use Rattle.std.proofs.Common.{◌≡◌, ◌⊎◌, ⊎_elim, inl, inr, ℕ, ◌+◌, ◌≤◌, ◌++◌, List, [], ◌∷◌, length, take, refl, ap, sym, subst, ◌∙◌, arith, length-append, Bool, true, false}
use Rattle.std.proofs.lemmas.Bool.Decides.{nat_tests}
use Rattle.std.specs.Prelude.{Option, Some, None, ◌&&◌, leb}
use Rattle.std.proofs.lemmas.List.{length-take, take-take, take-append-le}
use Rattle.vx_model.specs.Content.{Content, Write, fold_writes, IsNumber}
use Rattle.vx_history.specs.World.{Node, Link, History, Fuse, NoFuse}
use Rattle.vx_model.specs.Sites.{is_origin}
use Rattle.vx_history.specs.Steps.{burned, logged, crashed, deported_site, fallen_site, group_up, recovered}
use Rattle.vx_history.specs.Good.{GoodNode, IsMade, TellsContent}
use Rattle.vx_history.specs.GoodCopies.{GoodCopy, GoodReplays}
use Rattle.vx_history.specs.Receiving.{marked_by, is_log_phase, phase_takes}
use Rattle.vx_history.specs.LinkForms.{plain_receiver}
use Rattle.vx_model.specs.declared.site.Mark.{Mark}
use Rattle.vx_model.specs.declared.site.Mark.TheVariants.{Consistent}
use Rattle.vx_model.specs.declared.site.SPhase.{SPhase}
use Rattle.vx_model.specs.declared.site.SPhase.TheVariants.{Quiet, Regions, Log as ByLog, ForkKept}
use Rattle.vx_model.specs.declared.site.SiteState.{SiteState}
use Rattle.vx_model.specs.declared.site.SiteState.TheVariants.{Up, Deported, Down}
use Rattle.vx_history.specs.declared.receiver.RState.{RState}
use Rattle.vx_history.proofs.Advancing.{advanced, base_still, content_advanced, copy_advanced, mode_advanced, mode_alike}
use Rattle.vx_history.proofs.Updates.{and_left, and_right, by_test}
use Rattle.vx_history.proofs.CrashLemmas.{kept_length, kept_content}
use Rattle.vx_history.specs.Events.{applied, joined, with_write, come_back, kept_of}
use Rattle.vx_history.specs.Sound.{is_at_rest}
use Rattle.vx_world.proofs.Guards.{rest_up}
use Rattle.vx_world.proofs.Lists.{prefix_none, prefix_next, prefix_trans, prefix_take, not_both}
use Rattle.vx_world.proofs.Carry.{IsLater, LinkSays, stored_still}

pub later_logged : (n : Node) (x : Write) → IsLater n (logged n x)
later_logged n x = record {
  line = refl;
  origin = refl;
  bunker = refl;
  session = omega arith;
  safe = omega arith;
  stored = stored_still n (logged n x) (omega arith) refl refl (λ m. m);
  present = λ _ up _. (up, omega (arith, length-append n.log (x ∷ [])));
  made = λ m. m;
  top = omega arith;
  stood = refl;
}

-- one more write, whatever is known of it
pub later_longer : (n : Node) (x : Write) (halted : Option ℕ) (fuse : Fuse) → IsLater n (record n { log = n.log ++ x ∷ []; halted = halted; fuse = fuse })
later_longer n x halted fuse = record {
  line = refl;
  origin = refl;
  bunker = refl;
  session = omega arith;
  safe = omega arith;
  stored = λ k h. h;
  present = λ _ up _. (up, omega (arith, length-append n.log (x ∷ [])));
  made = λ m. m;
  top = omega arith;
  stood = refl;
}

-- an update that a receiver takes
pub later_taken : (n : Node) (source : ℕ) (x : Write) → IsLater n (with_write n source x)
later_taken n source x = record {
  line = refl;
  origin = refl;
  bunker = refl;
  session = omega arith;
  safe = omega arith;
  stored = λ k h. h;
  present = λ _ up _. (up, omega (arith, length-append n.log (x ∷ [])));
  made = λ m. m;
  top = omega arith;
  stood = refl;
}

pub good_taken : (h : History) (s : ℕ) (n : Node) (source : ℕ) (x : Write) (number : ℕ) → IsMade n → is_origin n.role ≡ false → phase_takes n.phase ≡ true
    → IsNumber h.held number x → number ≡ length n.log + 1 → GoodNode h s n → GoodNode h s (with_write n source x)
good_taken h s n source x number made r takes is next good = record {
  safe_fits = omega (arith, good.safe_fits, length-append n.log (x ∷ []));
  own_line = good.own_line;
  receiver_log = λ _ _. prefix_next n.log h.held number x (good.receiver_log made r) is next;
  origin_log = λ _ o. not_both (is_origin n.role) o r;
  origin_whole = λ o. not_both (is_origin n.role) o r;
  origin_mark = good.origin_mark;
  plain = good.plain;
  content = λ tells. good.content tells ∙ ap (λ (t : List Write). fold_writes n.start t) (sym (take-append-le n.safe n.log (x ∷ []) good.safe_fits));
  copy = λ _ _.
      let c = good.copy made r in
      record { size = c.size; known = c.known; copying = λ by. absurd (let e : false ≡ true = sym (ap phase_takes by) ∙ takes in cc); filling = c.filling };
}

-- why a receiver that has so many records on its disks may be marked consistent
abbrev pub MayMark : Node → ℕ → Mark → Type 0
MayMark n k mark = mark ≡ Consistent → (n.mark ≡ Consistent) ⊎ ((n.phase ≡ ByLog) × (n.end ≤ k))

pub good_applied : (h : History) (s k : ℕ) (mark : Mark) (n : Node) → GoodReplays h.held (h.replays s) → IsMade n → is_origin n.role ≡ false → n.safe ≤ k → k ≤ length n.log
    → (n.mark ≡ Consistent → mark ≡ Consistent) → MayMark n k mark → GoodNode h s n → GoodNode h s (applied n k mark)
good_applied h s k mark n table made r least most rises only good = record {
  safe_fits = most;
  own_line = good.own_line;
  receiver_log = good.receiver_log;
  origin_log = λ _ o. not_both (is_origin n.role) o r;
  origin_whole = λ o. not_both (is_origin n.role) o r;
  origin_mark = λ o. not_both (is_origin n.role) o r;
  plain = good.plain;
  content = content_advanced h.held (h.replays s) n k n.log mark table (good.receiver_log made r) good.content (good.copy made r) least most refl (omega arith) rises only;
  copy = λ _ _. copy_advanced h.held (h.replays s) n k n.log mark table (good.receiver_log made r) good.content (good.copy made r) least most refl (omega arith) rises only;
}

-- so the mode of a link to it says what it said
pub fed_applied : (h : History) (s k : ℕ) (mark : Mark) (n : Node) → GoodReplays h.held (h.replays s) → IsMade n → is_origin n.role ≡ false → n.safe ≤ k → k ≤ length n.log
    → (n.mark ≡ Consistent → mark ≡ Consistent) → MayMark n k mark → GoodNode h s n → (l : Link) → LinkSays h s n l → LinkSays h s (applied n k mark) l
fed_applied h s k mark n table made r least most rises only good l =
    mode_advanced h.held (h.replays s) n k n.log mark table (good.receiver_log made r) good.content (good.copy made r) least most refl (omega arith) rises only l.map l.stored l.mode

pub later_applied : (n : Node) (k : ℕ) (mark : Mark) → n.safe ≤ k → (n.mark ≡ Consistent → mark ≡ Consistent) → IsLater n (applied n k mark)
later_applied n k mark least marks =
    record {
      line = refl;
      origin = refl;
      bunker = refl;
      session = omega arith;
      safe = least;
      stored = stored_still n (applied n k mark) least refl refl marks;
      present = λ _ up _.
          (up, omega arith);
      made = λ m. m;
      top = omega arith;
      stood = refl;
    }

-- a crash of a receiver
pub good_dropped : (h : History) (s k : ℕ) (n : Node) → GoodReplays h.held (h.replays s) → IsMade n → is_origin n.role ≡ false → n.safe ≤ k → k ≤ length n.log → GoodNode h s n
    → GoodNode h s (crashed n k)
good_dropped h s k n table made r least most good = record {
  safe_fits = omega (arith, kept_length n k least most);
  own_line = λ _ o. not_both (is_origin n.role) o r;
  receiver_log = λ _ _. prefix_trans (take k n.log) n.log h.held (prefix_take k n.log) (good.receiver_log made r);
  origin_log = λ _ o. not_both (is_origin n.role) o r;
  origin_whole = λ o. not_both (is_origin n.role) o r;
  origin_mark = λ o. not_both (is_origin n.role) o r;
  plain = λ bare. absurd (cc);
  content = λ tells. kept_content n k least most (good.content tells);
  copy = λ _ _.
      let c = copy_advanced h.held (h.replays s) n k (take k n.log) n.mark table (good.receiver_log made r) good.content (good.copy made r) least most
      (take-take k k n.log (omega arith)) (omega (arith, length-take k n.log)) (λ m. m) (λ m. inl m) in
      record { size = c.size; known = c.known; copying = c.copying; filling = c.filling };
}

pub fed_dropped : (h : History) (s k : ℕ) (n : Node) → GoodReplays h.held (h.replays s) → IsMade n → is_origin n.role ≡ false → n.safe ≤ k → k ≤ length n.log → GoodNode h s n
    → (l : Link) → LinkSays h s n l → LinkSays h s (crashed n k) l
fed_dropped h s k n table made r least most good l says =
    let m : Node = advanced n k (take k n.log) n.mark in
    mode_alike h.held (h.replays s) m Down m.log m.session m.mark None NoFuse n.other m.failing m.group (λ c. c) l.map l.stored l.mode
    (mode_advanced h.held (h.replays s) n k (take k n.log) n.mark table (good.receiver_log made r) good.content (good.copy made r) least most
    (take-take k k n.log (omega arith)) (omega (arith, length-take k n.log)) (λ m. m) (λ m. inl m) l.map l.stored l.mode says)

pub later_crashed : (n : Node) (k : ℕ) → n.safe ≤ k → IsMade n → IsLater n (crashed n k)
later_crashed n k least made =
    record {
      line = refl;
      origin = refl;
      bunker = refl;
      session = omega arith;
      safe = least;
      stored = stored_still n (crashed n k) least refl refl (λ m. m);
      present = λ _ up _. absurd
          (cc);
      made = λ _ e. cc;
      top = omega arith;
      stood = refl;
    }

-- what the mode of a link says of a site it says of another state of it that differs in nothing that a mode looks at
pub fed_still : (h : History) (s : ℕ) (n : Node) (state : SiteState) (log : List Write) (session : ℕ) (mark : Mark) (halted : Option ℕ) (fuse : Fuse) (fed : ℕ)
    → (n.mark ≡ Consistent → mark ≡ Consistent) → (l : Link) → LinkSays h s n l
    → LinkSays h s (record n { state = state; log = log; session = session; mark = mark; halted = halted; fuse = fuse; fed_by = fed }) l
fed_still h s n state log session mark halted fuse fed rises l =
    mode_alike h.held (h.replays s) n state log session mark halted fuse fed n.failing n.group rises l.map l.stored l.mode

-- what a crash keeps
pub kept_least : (n : Node) (k : ℕ) → n.safe ≤ length n.log → n.safe ≤ kept_of n k
kept_least n k fits = omega (arith, fits)

pub kept_most : (n : Node) (k : ℕ) → kept_of n k ≤ length n.log
kept_most n k = omega arith

-- a site that came up again with this mark
abbrev pub risen : Node → Mark → Node
risen n mark = record n { state = Up; session = n.session + 1; halted = None; mark = mark }

-- the mark of a receiver only rises, and at the end of its replay it is consistent
pub mark_rises : (s : RState) (number : ℕ) (P : RState → Type 0)
    → ((mark : Mark) → (s.mark ≡ Consistent → mark ≡ Consistent) → (s.phase ≡ ByLog → s.end ≤ number → mark ≡ Consistent)
    → (mark ≡ Consistent → (s.mark ≡ Consistent) ⊎ ((s.phase ≡ ByLog) × (s.end ≤ number))) → P (record s { mark = mark })) → P (marked_by s number)
mark_rises s number P each =
    by_test P (is_log_phase s.phase && leb s.end number) (record s { mark = Consistent }) s
    (λ e. each Consistent (λ _. refl) (λ _ _. refl)
    (λ _. inr (log_is s.phase (and_left (is_log_phase s.phase) (leb s.end number) e), within s.end number (and_right (is_log_phase s.phase) (leb s.end number) e))))
    (λ e. each s.mark (λ m. m) (λ by end. absurd (not_both (is_log_phase s.phase && leb s.end number)
    (both (is_log_phase s.phase) (leb s.end number) (ap is_log_phase by) (at_most s.end number end)) e)) (λ m. inl m))
  where
    log_is : (p : SPhase) → is_log_phase p ≡ true → p ≡ ByLog
    log_is Quiet e = absurd (cc)
    log_is Regions e = absurd (cc)
    log_is ByLog e = refl
    log_is ForkKept e = absurd (cc)

    within : (m n : ℕ) → leb m n ≡ true → m ≤ n
    within m n h = grind (arith, nat_tests)

    both : (a b : Bool) → a ≡ true → b ≡ true → (a && b) ≡ true
    both true b e f = f
    both false b e f = absurd (cc)

    at_most : (m n : ℕ) → m ≤ n → leb m n ≡ true
    at_most m n h = grind (arith, nat_tests)

-- a site that comes back is one that has risen
pub back_by : (P : Node → Type 0) (n : Node)
    → ((mark : Mark) → (n.mark ≡ Consistent → mark ≡ Consistent) → (is_origin n.role ≡ true → mark ≡ n.mark)
    → (is_origin n.role ≡ false → n.phase ≡ ByLog → n.end ≤ length n.log → mark ≡ Consistent) → MayMark n (length n.log) mark → P (risen n mark)) → P (come_back n)
back_by P n each =
    by_test P (is_origin n.role) (recovered n) _
    (λ o. each n.mark (λ m. m) (λ _. refl) (λ r. not_both (is_origin n.role) o r) (λ m. inl m))
    (λ r. mark_rises (record (plain_receiver n) { last = length n.log; waiting = 0; session = n.session + 1 }) (length n.log)
    (λ s. P (record (recovered n) { session = s.session; mark = s.mark }))
    (λ mark marks ends only. each mark marks (λ o. not_both (is_origin n.role) o r) (λ _. ends) only))

-- a receiver that has all its records on its disks, with another mark
module _ (h : History) (s : ℕ) (mark : Mark) (n : Node) (table : GoodReplays h.held (h.replays s)) (made : IsMade n) (r : is_origin n.role ≡ false) (whole : length n.log ≤ n.safe)
    (rises : n.mark ≡ Consistent → mark ≡ Consistent) (only : MayMark n (length n.log) mark) (good : GoodNode h s n) where
  here : MayMark n n.safe mark
  here e = ⊎_elim (λ c. inl c) (λ (by : (n.phase ≡ ByLog) × (n.end ≤ length n.log)). inr (by.0, omega (arith, by.1, whole))) (only e)

  -- with its base as it is
  pub copy_remarked : GoodCopy h.held (h.replays s) (record n { mark = mark })
  copy_remarked =
      subst (λ (c : Content). GoodCopy h.held (h.replays s) (record n { base = c; mark = mark })) (base_still n)
      (copy_advanced h.held (h.replays s) n n.safe n.log mark table (good.receiver_log made r) good.content (good.copy made r) (omega arith) good.safe_fits refl (omega arith) rises here)

  pub content_remarked : TellsContent (record n { mark = mark }) → n.base ≡ fold_writes n.start (take n.safe n.log)
  content_remarked tells =
      sym (base_still n)
      ∙ content_advanced h.held (h.replays s) n n.safe n.log mark table (good.receiver_log made r) good.content (good.copy made r) (omega arith) good.safe_fits refl (omega arith) rises here tells

pub good_risen : (h : History) (s : ℕ) (mark : Mark) (n : Node) → GoodReplays h.held (h.replays s) → IsMade n → (is_origin n.role ≡ true → mark ≡ n.mark) → length n.log ≤ n.safe
    → (n.mark ≡ Consistent → mark ≡ Consistent) → MayMark n (length n.log) mark → GoodNode h s n → GoodNode h s (risen n mark)
good_risen h s mark n table made same whole rises only good = record {
  safe_fits = good.safe_fits;
  own_line = λ _. good.own_line made;
  receiver_log = λ _. good.receiver_log made;
  origin_log = λ _. good.origin_log made;
  origin_whole = λ _ _. whole;
  origin_mark = λ o. same o ∙ good.origin_mark o;
  plain = λ bare. absurd (cc);
  content = λ tells. told tells (is_origin n.role) refl;
  copy = λ _ r.
      let c = copy_remarked h s mark n table made r whole rises only good in record { size = c.size; known = c.known; copying = c.copying; filling = c.filling };
}
  where
    told : TellsContent (risen n mark) → (b : Bool) → is_origin n.role ≡ b → n.base ≡ fold_writes n.start (take n.safe n.log)
    told tells true o = good.content (inr (good.origin_mark o))
    told tells false r = content_remarked h s mark n table made r whole rises only good tells

pub later_risen : (n : Node) (mark : Mark) → (n.mark ≡ Consistent → mark ≡ Consistent) → IsLater n (risen n mark)
later_risen n mark marks = record {
  line = refl;
  origin = refl;
  bunker = refl;
  session = omega arith;
  safe = omega arith;
  stored = stored_still n (risen n mark) (omega arith) refl refl marks;
  present = λ _ _ e. absurd (omega (arith, e));
  made = λ _ e. cc;
  top = omega arith;
  stood = refl;
}

-- a session that began at a site that stays down or deported
pub later_begun : (n : Node) → is_at_rest n.state ≡ true → IsLater n (record n { session = n.session + 1 })
later_begun n rest = record {
  line = refl;
  origin = refl;
  bunker = refl;
  session = omega arith;
  safe = omega arith;
  stored = λ k h. h;
  present = λ _ up _. absurd (rest_up n.state rest up);
  made = λ m. m;
  top = omega arith;
  stood = refl;
}

-- a site that is down and gives its disks up
pub later_deported : (n : Node) (fuse : Fuse) → n.state ≡ Down → IsLater n (deported_site fuse n)
later_deported n fuse down = record {
  line = refl;
  origin = refl;
  bunker = refl;
  session = omega arith;
  safe = omega arith;
  stored = λ k h. h;
  present = λ _ up _. absurd (let e : Deported ≡ Up = up in cc);
  made = λ _ e. cc;
  top = omega arith;
  stood = refl;
}

-- one that gave them up is down
pub later_fallen : (n : Node) → IsLater n (fallen_site n)
later_fallen n = record {
  line = refl;
  origin = refl;
  bunker = refl;
  session = omega arith;
  safe = omega arith;
  stored = λ k h. h;
  present = λ _ up _. absurd (let e : Down ≡ Up = up in cc);
  made = λ _ e. cc;
  top = omega arith;
  stood = refl;
}

-- a group of disks that comes up again in its session
pub later_back : (n : Node) → is_origin n.role ≡ true → IsLater n (group_up n)
later_back n origin = record {
  line = refl;
  origin = refl;
  bunker = refl;
  session = omega arith;
  safe = omega arith;
  stored = λ k h. h;
  present = λ r _ _. absurd (let e : true ≡ false = sym origin ∙ r in cc);
  made = λ _ e. cc;
  top = omega arith;
  stood = refl;
}

pub later_halted : (n : Node) (disk : ℕ) → IsLater n (record n { halted = Some disk; fuse = burned n.fuse })
later_halted n disk = record {
  line = refl;
  origin = refl;
  bunker = refl;
  session = omega arith;
  safe = omega arith;
  stored = λ k h. h;
  present = λ _ up _.
      (up, omega arith);
  made = λ m. m;
  top = omega arith;
  stood = refl;
}

pub good_marked : (h : History) (s : ℕ) (n : Node) → n.phase ≡ Quiet → GoodNode h s n → GoodNode h s (record n { mark = Consistent })
good_marked h s n takes good = record {
  safe_fits = good.safe_fits;
  own_line = good.own_line;
  receiver_log = good.receiver_log;
  origin_log = good.origin_log;
  origin_whole = good.origin_whole;
  origin_mark = λ _. refl;
  plain = good.plain;
  content = λ _. good.content (inl takes);
  copy = λ made r.
      let c = good.copy made r in
      record {
        size = c.size;
        known = c.known;
        copying = λ by. absurd (let e : Quiet ≡ Regions = sym takes ∙ by in cc);
        filling = λ by. absurd (let e : Quiet ≡ ByLog = sym takes ∙ by in cc);
      };
}

pub later_marked : (n : Node) → IsLater n (record n { mark = Consistent })
later_marked n = record {
  line = refl;
  origin = refl;
  bunker = refl;
  session = omega arith;
  safe = omega arith;
  stored = stored_still n (record n { mark = Consistent }) (omega arith) refl refl (λ _. refl);
  present = λ _ up _.
      (up, omega arith);
  made = λ m. m;
  top = omega arith;
  stood = refl;
}

pub good_joined : (h : History) (s p : ℕ) (a n : Node) → IsMade n → (joined a p n).replay ≤ (h.replays s).begun → GoodNode h s (joined a p n)
good_joined h s p a n made known = record {
  safe_fits = omega arith;
  own_line = λ _ o. absurd (cc);
  receiver_log = λ _ _. prefix_none h.held;
  origin_log = λ _ o. absurd (cc);
  origin_whole = λ o _. absurd (cc);
  origin_mark = λ o. absurd (cc);
  plain = λ bare. absurd (made bare);
  content = λ _. refl;
  copy = λ _ _. record {
    size = refl;
    known = known;
    copying = λ by. absurd (let e : Quiet ≡ Regions = by in cc);
    filling = λ by. absurd (let e : Quiet ≡ ByLog = by in cc);
  };
}
