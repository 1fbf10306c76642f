-- Changes that leave worlds that differ in notes alone such worlds.
use Rattle.std.proofs.Common.{◌≡◌, ◌∙◌, ℕ, zero, suc, ◌+◌, List, ◌++◌, ap, sym, subst, refl, Bool, true, false}
use Rattle.std.proofs.lemmas.Bool.{not-false}
use Rattle.std.specs.Prelude.{Option, Some, None, not, ◌&&◌, ◌||◌, eqb, leb, if◌then◌else◌}
use Rattle.vx_model.specs.Sites.{same_line, is_up}
use Rattle.vx_model.specs.declared.no.No.{No}
use Rattle.vx_model.specs.declared.no.No.TheVariants.{Unknown, Role as WrongRole, Down as NotUp, LinkDown, Paused}
use Rattle.vx_model.specs.declared.no.Named.TheVariants.{Number as ByNumber}
use Rattle.vx_model.specs.declared.no.SiteName.TheVariants.{Number as SiteNumber}
use Rattle.vx_model.specs.declared.site.Role.{Role}
use Rattle.vx_history.specs.World.{Node, Link, History, Packet, Promise, Gathering, World, updated, line_updated, with_node, with_history}
use Rattle.vx_history.specs.Likes.{IsLike, SameLink}
use Rattle.vx_history.specs.Sends.{is_made, is_linked, with_links, with_link, sending, promising}
use Rattle.vx_history.specs.Refusals.{Outcome, says, unless, unless_halted, at_site, at_work, both_at_work, on_link_if, when_live, some_below, how_many_below}
use Rattle.vx_history.specs.declared.event.Said.{Said}
use Rattle.vx_history.specs.declared.event.Said.TheVariants.{Refused}

-- the site with these notes
abbrev pub noted : Node → Node → Node
noted n k = record n { fuse = k.fuse; failing = k.failing; group = k.group }

-- the same is said, of worlds that differ in notes alone
pub record Same (o r : Outcome) : Type 0 where
  pub world : IsLike o.world r.world
  pub said : r.said ≡ o.said

pub same_of : (w v : World) (a b : Said) → IsLike w v → b ≡ a → Same (says w a) (says v b)
same_of w v a b like e = record { world = like; said = e }

-- ## Tests side by side

pub tests : (b c : Bool) (why how : No) (w v : World) (o r : Outcome) → c ≡ b → how ≡ why → IsLike w v → (b ≡ false → Same o r)
    → Same (unless b why w o) (unless c how v r)
tests true true why how w v o r e f like rest = record { world = like; said = ap Refused f }
tests false false why how w v o r e f like rest = rest refl
tests true false why how w v o r e f like rest = let g : false ≡ true = e in absurd (cc)
tests false true why how w v o r e f like rest = let g : true ≡ false = e in absurd (cc)

pub halts : (h k : Option ℕ) (w v : World) (o r : Outcome) → k ≡ h → IsLike w v → Same o r → Same (unless_halted h w o) (unless_halted k v r)
halts h k w v o r e like rest = subst (λ (j : Option ℕ). Same (unless_halted h w o) (unless_halted j v r)) (sym e) (by_halt h)
  where
    by_halt : (j : Option ℕ) → Same (unless_halted j w o) (unless_halted j v r)
    by_halt None = rest
    by_halt (Some disk) = record { world = like; said = refl }

pub one_of : (b c : Bool) (o r x y : Outcome) → c ≡ b → (b ≡ true → Same o r) → (b ≡ false → Same x y) → Same (if b then o else x) (if c then r else y)
one_of true true o r x y e first second = first refl
one_of false false o r x y e first second = second refl
one_of true false o r x y e first second = let g : false ≡ true = e in absurd (cc)
one_of false true o r x y e first second = let g : true ≡ false = e in absurd (cc)

pub some_same : (n : ℕ) (f g : ℕ → Bool) → ((k : ℕ) → g k ≡ f k) → some_below n g ≡ some_below n f
some_same zero f g e = refl
some_same (suc n) f g e = ap (λ (b : Bool). b || some_below n g) (e n) ∙ ap (λ (b : Bool). f n || b) (some_same n f g e)

pub count_same : (n : ℕ) (f g : ℕ → Bool) → ((k : ℕ) → g k ≡ f k) → how_many_below n g ≡ how_many_below n f
count_same zero f g e = refl
count_same (suc n) f g e = ap (λ (b : Bool). (if b then 1 else 0) + how_many_below n g) (e n) ∙ ap (λ (k : ℕ). (if f n then 1 else 0) + k) (count_same n f g e)

-- a test of links that fails where there is none
pub link_test : (t : Link → Bool) → ((l : Link) → is_linked l ≡ false → t l ≡ false) → (a b : Link) → SameLink a b → t b ≡ t a
link_test t none a b same = by_link (is_linked a) refl
  where
    by_link : (c : Bool) → is_linked a ≡ c → t b ≡ t a
    by_link true e = ap t (same.same e)
    by_link false e = none b (same.linked ∙ e) ∙ sym (none a e)

pub link_self : (l : Link) → SameLink l l
link_self l = record { linked = refl; same = λ _. refl }

-- a change that makes no link and takes none away
pub link_changed : (f : Link → Link) → ((l : Link) → is_linked (f l) ≡ is_linked l) → (a b : Link) → SameLink a b → SameLink (f a) (f b)
link_changed f keeps a b same = record {
  linked = keeps b ∙ same.linked ∙ sym (keeps a);
  same = λ e. ap f (same.same (sym (keeps a) ∙ e));
}

pub made_same : (a b : Link) → SameLink a b → b.made ≡ a.made
made_same a b same = by_link (is_linked a) refl
  where
    none : (m : Option ℕ) → is_made m ≡ false → m ≡ None
    none None e = refl
    none (Some place) e = let g : true ≡ false = e in absurd (cc)

    by_link : (c : Bool) → is_linked a ≡ c → b.made ≡ a.made
    by_link true e = ap (λ (l : Link). l.made) (same.same e)
    by_link false e = none b.made (same.linked ∙ e) ∙ sym (none a.made e)

-- ## Changes side by side

pub pair_updated : {A : Type 0} (P : A → A → Type 0) (f g : ℕ → A) (p : ℕ) (x y : A) (i : ℕ) → P x y → P (f i) (g i) → P (updated f p x i) (updated g p y i)
pair_updated {A} P f g p x y i here rest = by_place (eqb i p)
  where
    by_place : (b : Bool) → P (if b then x else f i) (if b then y else g i)
    by_place true = here
    by_place false = rest

module _ (w v : World) (like : IsLike w v) where
  pub like_node : (p : ℕ) (n k : Node) → k ≡ noted n k → IsLike (with_node w p n) (with_node v p k)
  like_node p n k e = record {
    sites = like.sites;
    nodes = λ i. pair_updated (λ (a b : Node). b ≡ noted a b) w.nodes v.nodes p n k i e (like.nodes i);
    links = like.links;
    lines = like.lines;
    packets = like.packets;
    promised = like.promised;
    gathering = like.gathering;
  }

  pub like_history : (p : ℕ) (n k : Node) (h j : History) → k ≡ noted n k → j ≡ h → IsLike (with_history w p n h) (with_history v p k j)
  like_history p n k h j e f = record {
    sites = like.sites;
    nodes = λ i. pair_updated (λ (a b : Node). b ≡ noted a b) w.nodes v.nodes p n k i e (like.nodes i);
    links = like.links;
    lines = λ l. ap (λ (x : Node). line_updated v.lines x.line j l) e ∙ ap (λ (y : History). line_updated v.lines n.line y l) f ∙ ap
        (λ (z : History). if same_line l n.line then h else z) (like.lines l);
    packets = like.packets;
    promised = like.promised;
    gathering = like.gathering;
  }

  pub like_rows : (p : ℕ) (row more : ℕ → Link) → ((q : ℕ) → SameLink (row q) (more q)) → IsLike (with_links w p row) (with_links v p more)
  like_rows p row more e = record {
    sites = like.sites;
    nodes = like.nodes;
    links = λ i q. pair_updated (λ (r s : ℕ → Link). SameLink (r q) (s q)) w.links v.links p row more i (e q) (like.links i q);
    lines = like.lines;
    packets = like.packets;
    promised = like.promised;
    gathering = like.gathering;
  }

  pub like_link : (p q : ℕ) (l m : Link) → SameLink l m → IsLike (with_link w p q l) (with_link v p q m)
  like_link p q l m e =
      like_rows p (updated (w.links p) q l) (updated (v.links p) q m) (λ k. pair_updated SameLink (w.links p) (v.links p) q l m k e (like.links p k))

  pub like_sending : (ps qs : List Packet) → qs ≡ ps → IsLike (sending w ps) (sending v qs)
  like_sending ps qs e = record {
    sites = like.sites;
    nodes = like.nodes;
    links = like.links;
    lines = like.lines;
    packets = ap (λ (xs : List Packet). v.packets ++ xs) e ∙ ap (λ (xs : List Packet). xs ++ ps) like.packets;
    promised = like.promised;
    gathering = like.gathering;
  }

  pub like_promising : (es fs : List Promise) → fs ≡ es → IsLike (promising w es) (promising v fs)
  like_promising es fs e = record {
    sites = like.sites;
    nodes = like.nodes;
    links = like.links;
    lines = like.lines;
    packets = like.packets;
    promised = ap (λ (xs : List Promise). v.promised ++ xs) e ∙ ap (λ (xs : List Promise). xs ++ es) like.promised;
    gathering = like.gathering;
  }

  pub like_gathering : (f g : ℕ → Option Gathering) → ((i : ℕ) → g i ≡ f i) → IsLike (record w { gathering = f }) (record v { gathering = g })
  like_gathering f g e = record { sites = like.sites; nodes = like.nodes; links = like.links; lines = like.lines; packets = like.packets; promised = like.promised; gathering = e }

  pub like_headers : (f g : ℕ → ℕ) → IsLike (record w { headers = f }) (record v { headers = g })
  like_headers f g = record { sites = like.sites; nodes = like.nodes; links = like.links; lines = like.lines; packets = like.packets; promised = like.promised; gathering = like.gathering }

  -- ## Tests of sites and links

  pub at_site_same : (p : ℕ) (o r : Outcome) → Same o r → Same (at_site w p o) (at_site v p r)
  at_site_same p o r rest = tests (leb w.sites p) (leb v.sites p) (Unknown (ByNumber p)) (Unknown (ByNumber p)) w v o r
      (ap (λ (k : ℕ). leb k p) like.sites) refl like (λ _. rest)

  pub at_work_same : (p : ℕ) (o r : Outcome) → Same o r → Same (at_work w p o) (at_work v p r)
  at_work_same p o r rest =
      tests (not (is_up (w.nodes p).state)) (not (is_up (v.nodes p).state)) NotUp NotUp w v (unless_halted (w.nodes p).halted w o)
      (unless_halted (v.nodes p).halted v r) (ap (λ (n : Node). not (is_up n.state)) (like.nodes p)) refl like
      (λ _. halts (w.nodes p).halted (v.nodes p).halted w v o r (ap (λ (n : Node). n.halted) (like.nodes p)) like rest)

  pub both_same : (p q : ℕ) (o r : Outcome) → Same o r → Same (both_at_work w p q o) (both_at_work v p q r)
  both_same p q o r rest =
      let second_w : Outcome = unless_halted (w.nodes q).halted w o in
      let second_v : Outcome = unless_halted (v.nodes q).halted v r in
      tests (not (is_up (w.nodes p).state && is_up (w.nodes q).state)) (not (is_up (v.nodes p).state && is_up (v.nodes q).state)) NotUp NotUp w v
      (unless_halted (w.nodes p).halted w second_w) (unless_halted (v.nodes p).halted v second_v)
      (ap (λ (n : Node). not (is_up n.state && is_up (v.nodes q).state)) (like.nodes p) ∙ ap (λ (n : Node). not (is_up (w.nodes p).state && is_up n.state))
      (like.nodes q)) refl like
      (λ _. halts (w.nodes p).halted (v.nodes p).halted w v second_w second_v (ap (λ (n : Node). n.halted) (like.nodes p)) like
      (halts (w.nodes q).halted (v.nodes q).halted w v o r (ap (λ (n : Node). n.halted) (like.nodes q)) like rest))

  -- behind its tests the link is there, and the same in both
  pub on_link_same : (test : Role → Bool) (p q : ℕ) (o r : Outcome) → (v.links p q ≡ w.links p q → is_linked (w.links p q) ≡ true → Same o r)
      → Same (on_link_if test w p q o) (on_link_if test v p q r)
  on_link_same test p q o r rest =
      let linked_w : Outcome = unless (not (is_linked (w.links p q))) (Unknown (ByNumber q)) w o in
      let linked_v : Outcome = unless (not (is_linked (v.links p q))) (Unknown (ByNumber q)) v r in
      let role_w : Outcome = unless (not (test (w.nodes p).role)) WrongRole w linked_w in
      let role_v : Outcome = unless (not (test (v.nodes p).role)) WrongRole v linked_v in
      at_site_same p (at_site w q (at_work w p role_w)) (at_site v q (at_work v p role_v))
      (at_site_same q (at_work w p role_w) (at_work v p role_v)
      (at_work_same p role_w role_v
      (tests (not (test (w.nodes p).role)) (not (test (v.nodes p).role)) WrongRole WrongRole w v linked_w linked_v
      (ap (λ (n : Node). not (test n.role)) (like.nodes p)) refl like
      (λ _. tests (not (is_linked (w.links p q))) (not (is_linked (v.links p q))) (Unknown (ByNumber q)) (Unknown (ByNumber q)) w v o r
      (ap not (like.links p q).linked) refl like
      (λ is. let made : is_linked (w.links p q) ≡ true = not-false (is_linked (w.links p q)) is in rest ((like.links p q).same made) made)))))

  pub when_live_same : (q : ℕ) (l m : Link) (o r : Outcome) → m ≡ l → Same o r → Same (when_live w q l o) (when_live v q m r)
  when_live_same q l m o r e rest =
      let paused_w : Outcome = unless l.paused Paused w o in
      let paused_v : Outcome = unless m.paused Paused v r in
      tests (not (l.attached && l.connected)) (not (m.attached && m.connected)) (LinkDown (SiteNumber q)) (LinkDown (SiteNumber q)) w v paused_w paused_v
      (ap (λ (k : Link). not (k.attached && k.connected)) e) refl like
      (λ _. tests l.paused m.paused Paused Paused w v o r (ap (λ (k : Link). k.paused) e) refl like (λ _. rest))
