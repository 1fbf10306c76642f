-- Tests of links, and of writes that are let in, in worlds that differ in notes alone.
use Rattle.std.proofs.Common.{◌≡◌, ◌∙◌, ℕ, zero, suc, ◌+◌, List, ◌∷◌, ap, sym, subst, refl, Bool, true, false}
use Rattle.std.specs.Prelude.{Option, Some, None, not, ◌&&◌, ltb, if◌then◌else◌}
use Rattle.vx_model.specs.Content.{Write, blocks_in}
use Rattle.vx_model.specs.declared.link.Link.{Link as PlainLink}
use Rattle.vx_history.specs.Admission.{Admitted, admit, is_fail}
use Rattle.vx_history.specs.LinkForms.{plain_link}
use Rattle.vx_history.specs.World.{World, Node, Link as LinkState}
use Rattle.vx_history.specs.Likes.{IsLike, SameLink}
use Rattle.vx_history.specs.Sends.{is_made, is_linked}
use Rattle.vx_history.specs.Refusals.{some_below, is_unconfirmed, is_waited_for, holds_back, count_links_of, goes, waits, how_many_below}
use Rattle.vx_history.specs.Events
use Rattle.vx_world.proofs.Likely.{some_same, count_same, link_test, link_changed, made_same, like_rows}

-- a test of links of a site, over all sites
module _ (w v : World) (like : IsLike w v) where
  -- of no link it fails
  pub some_links : (p : ℕ) (t : ℕ → LinkState → Bool) → ((k : ℕ) (l : LinkState) → is_linked l ≡ false → t k l ≡ false)
      → some_below v.sites (λ k. t k (v.links p k)) ≡ some_below w.sites (λ k. t k (w.links p k))
  some_links p t none =
      ap (λ (n : ℕ). some_below n (λ k. t k (v.links p k))) like.sites
      ∙ some_same w.sites (λ k. t k (w.links p k)) (λ k. t k (v.links p k)) (λ k. link_test (t k) (none k) (w.links p k) (v.links p k) (like.links p k))

  pub any_linked : (p : ℕ) → some_below v.sites (λ k. is_linked (v.links p k)) ≡ some_below w.sites (λ k. is_linked (w.links p k))
  any_linked p = some_links p (λ k l. is_linked l) (λ k l e. e)

  pub many_linked : (p : ℕ) → count_links_of v p ≡ count_links_of w p
  many_linked p =
      ap (λ (n : ℕ). how_many_below n (λ k. is_linked (v.links p k))) like.sites
      ∙ count_same w.sites (λ k. is_linked (w.links p k)) (λ k. is_linked (v.links p k)) (λ k. (like.links p k).linked)

  pub waited_same : (p : ℕ) → some_below v.sites (λ k. is_waited_for k (v.links p k)) ≡ some_below w.sites (λ k. is_waited_for k (w.links p k))
  waited_same p = some_links p is_waited_for (λ k l e. ap (λ (b : Bool). b && (waits l.sync && goes k l)) e)

  pub held_same : (p number : ℕ) → some_below v.sites (λ k. holds_back number k (v.links p k)) ≡ some_below w.sites (λ k. holds_back number k (w.links p k))
  held_same p number = some_links p (λ k l. holds_back number k l)
      (λ k l e. ap (λ (b : Bool). b && (l.attached && (waits l.sync && (goes k l && ltb l.net number)))) e)

  pub unconfirmed_same : (p number : ℕ)
      → some_below v.sites (λ k. is_unconfirmed number k (v.links p k)) ≡ some_below w.sites (λ k. is_unconfirmed number k (w.links p k))
  unconfirmed_same p number = some_links p (λ k l. is_unconfirmed number k l)
      (λ k l e. ap (λ (b : Bool). b && (l.attached && (is_fail l.sync && (ltb l.net number && not (goes k l))))) e)

  -- ## Admission

  pub in_place : (p place : ℕ) (n : ℕ) → Events.link_in_place (v.links p) place n ≡ Events.link_in_place (w.links p) place n
  in_place p place zero = refl
  in_place p place (suc k) =
      ap (λ (m : Option ℕ). if Events.is_in_place m place then Some k else Events.link_in_place (v.links p) place k)
      (made_same (w.links p k) (v.links p k) (like.links p k))
      ∙ ap (λ (o : Option ℕ). if Events.is_in_place (w.links p k).made place then Some k else o) (in_place p place k)

  pub sites_same : (p n place places : ℕ) → Events.linked_sites (v.links p) n place places ≡ Events.linked_sites (w.links p) n place places
  sites_same p n place zero = refl
  sites_same p n place (suc k) =
      ap (λ (o : Option ℕ). Events.put_before o (Events.linked_sites (v.links p) n (place + 1) k)) (in_place p place n)
      ∙ ap (λ (ss : List ℕ). Events.put_before (Events.link_in_place (w.links p) place n) ss) (sites_same p n (place + 1) k)

  -- a site in a place has a link
  pub place_linked : (p place n s : ℕ) → Events.link_in_place (w.links p) place n ≡ Some s → is_linked (w.links p s) ≡ true
  place_linked p place zero s e = absurd (cc)
  place_linked p place (suc k) s e = by_picked (Events.is_in_place (w.links p k).made place) e (λ t. here (w.links p k).made t)
      (λ f. place_linked p place k s f)
    where
      here : (m : Option ℕ) → Events.is_in_place m place ≡ true → is_made m ≡ true
      here None t = let g : false ≡ true = t in absurd (cc)
      here (Some made) t = refl

      by_picked : (b : Bool) → (if b then Some k else Events.link_in_place (w.links p) place k) ≡ Some s → (b ≡ true → is_linked (w.links p k) ≡ true)
          → (Events.link_in_place (w.links p) place k ≡ Some s → is_linked (w.links p s) ≡ true) → is_linked (w.links p s) ≡ true
      by_picked true f linked rest = let g : Some k ≡ Some s = f in let same : k ≡ s = cc in subst (λ (j : ℕ). is_linked (w.links p j) ≡ true) same
          (linked refl)
      by_picked false f linked rest = rest f

  pub plain_same : (p n place places : ℕ)
      → Events.plain_links (v.links p) (Events.linked_sites (w.links p) n place places) ≡ Events.plain_links (w.links p) (Events.linked_sites (w.links p) n place places)
  plain_same p n place zero = refl
  plain_same p n place (suc k) = by_place (plain_same p n (place + 1) k) (Events.link_in_place (w.links p) place n) refl
    where
      by_place : Events.plain_links (v.links p) (Events.linked_sites (w.links p) n (place + 1) k) ≡ Events.plain_links (w.links p) (Events.linked_sites (w.links p) n (place + 1) k) → (o : Option ℕ) → Events.link_in_place (w.links p) place n ≡ o
          → Events.plain_links (v.links p) (Events.put_before o (Events.linked_sites (w.links p) n (place + 1) k)) ≡ Events.plain_links (w.links p)
          (Events.put_before o (Events.linked_sites (w.links p) n (place + 1) k))
      by_place rest None e = rest
      by_place rest (Some s) e =
          ap (λ (l : LinkState). plain_link s l ∷ Events.plain_links (v.links p) (Events.linked_sites (w.links p) n (place + 1) k))
          ((like.links p s).same (place_linked p place n s e))
          ∙ ap (λ (ls : List PlainLink). plain_link s (w.links p s) ∷ ls) rest

  uses_same : (m : Node) (p n place places : ℕ)
      → Events.log_uses m (v.links p) (Events.linked_sites (w.links p) n place places) ≡ Events.log_uses m (w.links p) (Events.linked_sites (w.links p) n place places)
  uses_same m p n place zero = refl
  uses_same m p n place (suc k) = by_place (uses_same m p n (place + 1) k) (Events.link_in_place (w.links p) place n) refl
    where
      by_place : Events.log_uses m (v.links p) (Events.linked_sites (w.links p) n (place + 1) k) ≡ Events.log_uses m (w.links p) (Events.linked_sites (w.links p) n (place + 1) k) → (o : Option ℕ) → Events.link_in_place (w.links p) place n ≡ o
          → Events.log_uses m (v.links p) (Events.put_before o (Events.linked_sites (w.links p) n (place + 1) k)) ≡ Events.log_uses m (w.links p)
          (Events.put_before o (Events.linked_sites (w.links p) n (place + 1) k))
      by_place rest None e = rest
      by_place rest (Some s) e =
          ap (λ (l : LinkState). Events.used_above m s l ∷ Events.log_uses m (v.links p) (Events.linked_sites (w.links p) n (place + 1) k))
          ((like.links p s).same (place_linked p place n s e))
          ∙ ap (λ (ns : List ℕ). Events.used_above m s (w.links p s) ∷ ns) rest

  pub admitted_same : (p : ℕ) (x : Write) → Events.admitted v p x ≡ Events.admitted w p x
  admitted_same p x =
      let rule : Node → List PlainLink → List ℕ → Admitted = λ n links used. admit (blocks_in x.bytes + 1) n.ring links used in
      let linked : List ℕ = Events.linked_sites (w.links p) w.sites 0 w.sites in
      ap (λ (n : ℕ). let ss : List ℕ = Events.linked_sites (v.links p) n 0 n in rule (v.nodes p) (Events.plain_links (v.links p) ss)
      (Events.log_uses (v.nodes p) (v.links p) ss)) like.sites
      ∙ ap (λ (ss : List ℕ). rule (v.nodes p) (Events.plain_links (v.links p) ss) (Events.log_uses (v.nodes p) (v.links p) ss)) (sites_same p w.sites 0 w.sites)
      ∙ ap (λ (ls : List PlainLink). rule (v.nodes p) ls (Events.log_uses (v.nodes p) (v.links p) linked)) (plain_same p w.sites 0 w.sites)
      ∙ ap (λ (ns : List ℕ). rule (v.nodes p) (Events.plain_links (w.links p) linked) ns) (uses_same (v.nodes p) p w.sites 0 w.sites)
      ∙ ap (λ (n : Node). rule n (Events.plain_links (w.links p) linked) (uses_by n)) (like.nodes p)
    where
      uses_by : Node → List ℕ
      uses_by n = Events.log_uses n (w.links p) (Events.linked_sites (w.links p) w.sites 0 w.sites)

  pub marked_same : (p : ℕ) (xs : List Write) → IsLike (Events.links_marked w p xs) (Events.links_marked v p xs)
  marked_same p xs =
      like_rows w v like p (λ k. Events.link_marked xs (w.links p k)) (λ k. Events.link_marked xs (v.links p k))
      (λ k. link_changed (λ l. Events.link_marked xs l) (λ l. refl) (w.links p k) (v.links p k) (like.links p k))

  pub changed_same : (p : ℕ) (x : Write) → IsLike (Events.links_changed w p x) (Events.links_changed v p x)
  changed_same p x =
      like_rows w v like p (λ k. Events.link_after (w.nodes p) x k (w.links p k)) (λ k. Events.link_after (v.nodes p) x k (v.links p k))
      (λ k. subst (λ (l : LinkState). SameLink (Events.link_after (w.nodes p) x k (w.links p k)) l)
      (sym (ap (λ (n : Node). Events.link_after n x k (v.links p k)) (like.nodes p)))
      (link_changed (λ l. Events.link_after (w.nodes p) x k l) (λ l. refl) (w.links p k) (v.links p k) (like.links p k)))
