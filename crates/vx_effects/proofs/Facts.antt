-- What the tests of a line see of a world that an event at one site left.
use Rattle.std.proofs.Common.{◌≡◌, ◌∙◌, ◌+◌, ◌<◌, ◌≤◌, ℕ, zero, suc, List, [], ◌∷◌, ◌++◌, length, drop, Bool, true, false, ap, sym, refl, arith}
use Rattle.std.specs.Prelude.{◌&&◌, ltb, Option, Some, slice_set, if◌then◌else◌}
use Rattle.std.proofs.lemmas.Bool.Decides.{nat_tests}
use Rattle.vx_model.specs.Content.{Write, blocks_in}
use Rattle.vx_model.specs.Sites.{is_origin}
use Rattle.vx_model.specs.declared.site.Mark.{Mark}
use Rattle.vx_model.specs.declared.site.SiteState.{SiteState}
use Rattle.vx_model.specs.declared.site.SiteState.TheVariants.{Bare, Up, Deported, Down}
use Rattle.vx_history.proofs.Updates.{by_test}
use Rattle.vx_history.specs.Admission.{hold, is_holding}
use Rattle.vx_history.specs.Doubts.{Doubted}
use Rattle.vx_history.specs.Events.{applied, come_back, linked_sites, logged_blocks, used_above}
use Rattle.vx_history.specs.KeptLinks.{kept_links}
use Rattle.vx_history.specs.LinkForms.{plain_link, plain_receiver}
use Rattle.vx_history.specs.Receiving.{received_step}
use Rattle.vx_history.specs.Steps.{burned, crashed, logged, recovered}
use Rattle.vx_history.specs.World.{Link, Node}
use Rattle.vx_history.specs.declared.receiver.REvent.TheVariants.{Restart}
use Rattle.vx_history.specs.declared.receiver.RState.{RState}
use Rattle.vx_order.specs.declared.facts.LinkFacts.{LinkFacts}
use Rattle.vx_order.specs.declared.facts.RvgFacts.{RvgFacts}
use Rattle.vx_order.specs.declared.facts.SiteFacts.{SiteFacts}
use Rattle.vx_events.proofs.Values.{values_from-push}
use Rattle.vx_events.specs.Effects.{AddsSite, ChangesNode}
use Rattle.vx_events.specs.Facts.{group_by, group_fact, head_of, values_from}
use Rattle.vx_events.specs.GroupLines.{is_over_group}
use Rattle.vx_events.specs.GroupNotes.{note_at}
use Rattle.vx_events.specs.LinkedFacts.{link_fact, link_facts, links_by, seen_fact}
use Rattle.vx_events.specs.LinksFit.{LinksFit}
use Rattle.vx_events.specs.StepsOver.{fact_of_group, fact_over, facts_over}
use Rattle.vx_effects.specs.Facts.{down_fact, fact_of, grown_link, grown_links, half_fact, halted_fact, halted_group, last_group, logged_fact, marked_fact, marked_group, over_of, risen_fact}
use Rattle.vx_effects.proofs.Rows.{facts_same, row_same, sites_further, sites_same}

-- ---- a list of values with another one in a place

values_same : {A : Type 0} (f g : ℕ → A) (k n : ℕ) → ((i : ℕ) → k ≤ i → i < k + n → g i ≡ f i) → values_from g k n ≡ values_from f k n
values_same f g k zero same = refl
values_same {A} f g k (suc n) same =
    ap (λ (x : A). x ∷ values_from g (k + 1) n) (same k (omega arith) (omega arith))
    ∙ ap (λ (xs : List A). f k ∷ xs) (values_same f g (k + 1) n (λ i least less. same i (omega (arith, least)) (omega (arith, less))))

values_set : {A : Type 0} (f g : ℕ → A) (k n s : ℕ) → s < n → ((i : ℕ) → (i ≡ k + s → ⊥) → g i ≡ f i) → values_from g k n ≡ slice_set (values_from f k n) s (g (k + s))
values_set f g k zero s below same = absurd (omega (arith, below))
values_set {A} f g k (suc n) zero below same =
    let start : k ≡ k + 0 = omega arith in
    ap (λ (xs : List A). g k ∷ xs) (values_same f g (k + 1) n (λ i least less. same i (λ (e : i ≡ k + 0). omega (arith, e, least))))
    ∙ ap (λ (i : ℕ). g i ∷ values_from f (k + 1) n) start
values_set {A} f g k (suc n) (suc s) below same =
    let over : (k + 1) + s ≡ k + suc s = omega arith in
    ap (λ (x : A). x ∷ values_from g (k + 1) n) (same k (λ (e : k ≡ k + suc s). omega (arith, e)))
    ∙ ap (λ (xs : List A). f k ∷ xs)
    (values_set f g (k + 1) n s (omega (arith, below)) (λ i apart. same i (λ (e : i ≡ k + suc s). apart (e ∙ sym over)))
    ∙ ap (λ (i : ℕ). slice_set (values_from f (k + 1) n) s (g i)) over)

-- ---- the facts of a site by its node, its links and how many sites there are

pub fact_same : (n : Node) (row new : ℕ → Link) (sites : ℕ) → ((k : ℕ) → new k ≡ row k) → fact_of n new sites ≡ fact_of n row sites
fact_same n row new sites same =
    ap (λ (ss : List ℕ). let f : SiteFacts = record (seen_fact n) { links = links_by n.state (link_facts n new ss) } in f)
    (sites_same row new (λ k. ap (λ (l : Link). l.made) (same k)) sites 0 sites)
    ∙ ap (λ (fs : List LinkFacts). let f : SiteFacts = record (seen_fact n) { links = links_by n.state fs } in f) (facts_same n row new same (linked_sites row sites 0 sites))

-- and those of one that may be over a group
pub over_same : (n : Node) (row new : ℕ → Link) (sites : ℕ) → ((k : ℕ) → new k ≡ row k) → over_of n new sites ≡ over_of n row sites
over_same n row new sites same = ap (λ (f : SiteFacts). if is_over_group n then fact_of_group n (note_at n) else f) (fact_same n row new sites same)

pub over_apart : (n : Node) (row : ℕ → Link) (sites : ℕ) → is_over_group n ≡ false → over_of n row sites ≡ fact_of n row sites
over_apart n row sites none = ap (λ (b : Bool). if b then fact_of_group n (note_at n) else fact_of n row sites) none

pub other_fact : (s : ℕ) (d e : Doubted) → ChangesNode s d e → (i : ℕ) → (i ≡ s → ⊥) → fact_over e.world i ≡ fact_over d.world i
other_fact s d e c i apart =
    ap (λ (n : Node). over_of n (e.world.links i) e.world.sites) (c.nodes i apart)
    ∙ ap (λ (sites : ℕ). over_of (d.world.nodes i) (e.world.links i) sites) c.sites
    ∙ over_same (d.world.nodes i) (d.world.links i) (e.world.links i) d.world.sites (λ k. c.links i k apart)

-- with the facts of the one site in their place
pub facts_at : (s : ℕ) (d e : Doubted) → ChangesNode s d e → s < d.world.sites → facts_over e.world ≡ slice_set (facts_over d.world) s (fact_over e.world s)
facts_at s d e c below =
    let start : 0 + s ≡ s = omega arith in
    ap (λ (n : ℕ). values_from (λ i. fact_over e.world i) 0 n) c.sites
    ∙ values_set (λ i. fact_over d.world i) (λ i. fact_over e.world i) 0 d.world.sites s below (λ i apart. other_fact s d e c i (λ (is : i ≡ s). apart (is ∙ sym start)))
    ∙ ap (λ (i : ℕ). slice_set (facts_over d.world) s (fact_over e.world i)) start

-- ---- a further site

bare_fact : (n : Node) (row : ℕ → Link) (sites : ℕ) → n.state ≡ Bare → fact_of n row sites ≡ seen_fact n
bare_fact n row sites bare =
    ap (λ (t : SiteState). let f : SiteFacts = record (seen_fact n) { links = links_by t (link_facts n row (linked_sites row sites 0 sites)) } in f) bare

pub facts_added : (d e : Doubted) (n : Node) → AddsSite d e n → n.state ≡ Bare → is_over_group n ≡ false → LinksFit d → facts_over e.world ≡ facts_over d.world ++ seen_fact n ∷ []
facts_added d e n adds bare none fit =
    let sites : ℕ = d.world.sites in
    let more : e.world.sites ≡ suc sites = adds.sites ∙ (let one : sites + 1 ≡ suc sites = omega arith in one) in
    let start : 0 + sites ≡ sites = omega arith in
    ap (λ (k : ℕ). values_from (λ i. fact_over e.world i) 0 k) more
    ∙ values_from-push (λ i. fact_over e.world i) 0 sites
    ∙ ap (λ (fs : List SiteFacts). fs ++ fact_over e.world (0 + sites) ∷ [])
    (values_same (λ i. fact_over d.world i) (λ i. fact_over e.world i) 0 sites (λ i _ less. old i (λ (is : i ≡ sites). omega (arith, is, less))))
    ∙ ap (λ (f : SiteFacts). facts_over d.world ++ f ∷ [])
    (ap (λ (i : ℕ). fact_over e.world i) start ∙ ap (λ (m : Node). over_of m (e.world.links sites) e.world.sites) adds.node ∙ over_apart n (e.world.links sites) e.world.sites none ∙ bare_fact n (e.world.links sites) e.world.sites bare)
  where
    old : (i : ℕ) → (i ≡ d.world.sites → ⊥) → fact_over e.world i ≡ fact_over d.world i
    old i apart =
        let row : ℕ → Link = d.world.links i in
        let m : Node = d.world.nodes i in
        ap (λ (n : Node). over_of n (e.world.links i) e.world.sites) (adds.nodes i apart)
        ∙ ap (λ (sites : ℕ). over_of m (e.world.links i) sites) adds.sites
        ∙ over_same m row (e.world.links i) (d.world.sites + 1) (λ k. adds.links i k)
        ∙ ap (λ (ss : List ℕ). if is_over_group m then fact_of_group m (note_at m) else (let f : SiteFacts = record (seen_fact m) { links = links_by m.state (link_facts m row ss) } in f)) (sites_further d.world.sites row (fit.rows i).places)

-- ---- the facts of a site as its node changes

-- the blocks above a hold, with one more write
blocks_more : (h : ℕ) (xs : List Write) (x : Write)
    → logged_blocks (drop h (xs ++ x ∷ [])) ≡ (if ltb h (length xs + 1) then logged_blocks (drop h xs) + (blocks_in x.bytes + 1) else logged_blocks (drop h xs))
blocks_more zero [] x =
    let less : ltb 0 (0 + 1) ≡ true = grind (arith, nat_tests) in
    let one : (blocks_in x.bytes + 1) + 0 ≡ 0 + (blocks_in x.bytes + 1) = omega arith in
    one ∙ sym (ap (λ (b : Bool). if b then 0 + (blocks_in x.bytes + 1) else 0) less)
blocks_more (suc h) [] x =
    let more : ltb (suc h) (0 + 1) ≡ false = grind (arith, nat_tests) in
    none h ∙ sym (ap (λ (b : Bool). if b then 0 + (blocks_in x.bytes + 1) else 0) more)
  where
    none : (h : ℕ) → logged_blocks (drop h (let xs : List Write = [] in xs)) ≡ 0
    none zero = refl
    none (suc h) = refl
blocks_more zero (y ∷ xs) x =
    let less : ltb 0 (length (y ∷ xs) + 1) ≡ true = is_less (length (y ∷ xs)) in
    let rest : logged_blocks (xs ++ x ∷ []) ≡ logged_blocks xs + (blocks_in x.bytes + 1) = all_blocks xs in
    let sum : (blocks_in y.bytes + 1) + logged_blocks (xs ++ x ∷ []) ≡ ((blocks_in y.bytes + 1) + logged_blocks xs) + (blocks_in x.bytes + 1) = omega (arith, rest) in
    sum ∙ sym (ap (λ (b : Bool). if b then logged_blocks (y ∷ xs) + (blocks_in x.bytes + 1) else logged_blocks (y ∷ xs)) less)
  where
    is_less : (n : ℕ) → ltb 0 (n + 1) ≡ true
    is_less n = grind (arith, nat_tests)

    all_blocks : (xs : List Write) → logged_blocks (xs ++ x ∷ []) ≡ logged_blocks xs + (blocks_in x.bytes + 1)
    all_blocks [] = omega arith
    all_blocks (y ∷ ys) = let rest : logged_blocks (ys ++ x ∷ []) ≡ logged_blocks ys + (blocks_in x.bytes + 1) = all_blocks ys in omega (arith, rest)
blocks_more (suc h) (y ∷ xs) x =
    let same : ltb (suc h) (length (y ∷ xs) + 1) ≡ ltb h (length xs + 1) = one_less h (length xs) in
    blocks_more h xs x ∙ sym (ap (λ (b : Bool). if b then logged_blocks (drop h xs) + (blocks_in x.bytes + 1) else logged_blocks (drop h xs)) same)
  where
    one_less : (h n : ℕ) → ltb (suc h) (suc n + 1) ≡ ltb h (n + 1)
    one_less h n = grind (arith, nat_tests)

-- links over a log with one more write
links_more : (n m : Node) (x : Write) (row : ℕ → Link) → m.log ≡ n.log ++ x ∷ [] → (ss : List ℕ)
    → link_facts m row ss ≡ grown_links (length n.log + 1) (blocks_in x.bytes + 1) (link_facts n row ss)
links_more n m x row log [] = refl
links_more n m x row log (s ∷ ss) =
    let l : Link = row s in
    let h : ℕ = hold (plain_link s l) in
    let more : used_above m s l ≡ (if ltb h (length n.log + 1) then used_above n s l + (blocks_in x.bytes + 1) else used_above n s l) =
    ap (λ (xs : List Write). logged_blocks (drop h xs)) log ∙ blocks_more h n.log x in
    ap (λ (k : ℕ). (let f : LinkFacts = record { link = plain_link s l; used = if is_holding (plain_link s l) then k else 0 } in f) ∷ link_facts m row ss) more
    ∙ ap (λ (k : ℕ). (let f : LinkFacts = record { link = plain_link s l; used = k } in f) ∷ link_facts m row ss)
    (by_hold (is_holding (plain_link s l)) (ltb h (length n.log + 1)) (used_above n s l) (blocks_in x.bytes + 1))
    ∙ ap (λ (fs : List LinkFacts). grown_link (length n.log + 1) (blocks_in x.bytes + 1) (link_fact n s l) ∷ fs) (links_more n m x row log ss)
  where
    by_hold : (a b : Bool) (k more : ℕ) → (if a then (if b then k + more else k) else 0) ≡ (if a && b then (if a then k else 0) + more else (if a then k else 0))
    by_hold true b k more = refl
    by_hold false b k more = refl

links_log : (n m : Node) (row : ℕ → Link) → m.log ≡ n.log → (ss : List ℕ) → link_facts m row ss ≡ link_facts n row ss
links_log n m row log [] = refl
links_log n m row log (s ∷ ss) =
    let l : Link = row s in
    ap (λ (xs : List Write). (let f : LinkFacts = record { link = plain_link s l; used = if is_holding (plain_link s l) then logged_blocks (drop (hold (plain_link s l)) xs) else 0 } in f) ∷ link_facts m row ss) log
    ∙ ap (λ (fs : List LinkFacts). link_fact n s l ∷ fs) (links_log n m row log ss)

links_grown : (t : SiteState) (number blocks : ℕ) (fs : List LinkFacts) → links_by t (grown_links number blocks fs) ≡ grown_links number blocks (links_by t fs)
links_grown Bare number blocks fs = refl
links_grown Up number blocks fs = refl
links_grown Deported number blocks fs = refl
links_grown Down number blocks fs = refl

abbrev pub with_parts : SiteFacts → Option RvgFacts → List LinkFacts → SiteFacts
with_parts f rvg links = record f { rvg = rvg; links = links }

module _ (n : Node) (row : ℕ → Link) (sites : ℕ) where
  abbrev f : SiteFacts
  f = fact_of n row sites

  abbrev ss : List ℕ
  ss = linked_sites row sites 0 sites

  more_links : (m : Node) (x : Write) (number : ℕ) → m.log ≡ n.log ++ x ∷ [] → length n.log + 1 ≡ number
      → links_by n.state (link_facts m row ss) ≡ grown_links number (blocks_in x.bytes + 1) f.links
  more_links m x number log is =
      ap (links_by n.state) (links_more n m x row log ss)
      ∙ links_grown n.state (length n.log + 1) (blocks_in x.bytes + 1) (link_facts n row ss)
      ∙ ap (λ (k : ℕ). grown_links k (blocks_in x.bytes + 1) f.links) is

  -- an origin with one more write
  last_is : (t : SiteState) (x : Write) → is_origin n.role ≡ true → group_by t (logged n x) ≡ last_group (n.safe + 1) (group_by t n)
  last_is Bare x origin = refl
  last_is Up x origin = ap (λ (b : Bool). Some (let r : RvgFacts = record (group_fact n) { last = if b then n.safe + 1 else length (n.log ++ x ∷ []) } in r)) origin
  last_is Deported x origin = refl
  last_is Down x origin = refl

  pub logged_is : (x : Write) → is_origin n.role ≡ true → length n.log ≡ n.safe → fact_of (logged n x) row sites ≡ logged_fact (n.safe + 1) (blocks_in x.bytes + 1) f
  logged_is x origin all =
      let number : length n.log + 1 ≡ n.safe + 1 = omega (arith, all) in
      ap (λ (rvg : Option RvgFacts). with_parts f rvg (links_by n.state (link_facts (logged n x) row ss))) (last_is n.state x origin)
      ∙ ap (with_parts f (last_group (n.safe + 1) f.rvg)) (more_links (logged n x) x (n.safe + 1) refl number)

  -- an origin that a disk halted in a write
  abbrev half : Write → ℕ → Node
  half x disk = record n { log = n.log ++ x ∷ []; halted = Some disk; fuse = burned n.fuse }

  half_group : (t : SiteState) (x : Write) (disk : ℕ) → is_origin n.role ≡ true → group_by t (half x disk) ≡ halted_group disk (group_by t n)
  half_group Bare x disk origin = refl
  half_group Up x disk origin =
      let with_last : ℕ → RvgFacts = λ k. record (group_fact n) { last = k; halted = Some disk } in
      let last : head_of (half x disk) ≡ head_of n = ap (λ (b : Bool). if b then n.safe else length (n.log ++ x ∷ [])) origin ∙ sym (ap (λ (b : Bool). if b then n.safe else length n.log) origin) in
      ap (λ (k : ℕ). Some (with_last k)) last
  half_group Deported x disk origin = refl
  half_group Down x disk origin = refl

  pub half_is : (x : Write) (disk : ℕ) → is_origin n.role ≡ true → length n.log ≡ n.safe → fact_of (half x disk) row sites ≡ half_fact disk (n.safe + 1) (blocks_in x.bytes + 1) f
  half_is x disk origin all =
      let number : length n.log + 1 ≡ n.safe + 1 = omega (arith, all) in
      ap (λ (rvg : Option RvgFacts). with_parts f rvg (links_by n.state (link_facts (half x disk) row ss))) (half_group n.state x disk origin)
      ∙ ap (with_parts f (halted_group disk f.rvg)) (more_links (half x disk) x (n.safe + 1) refl number)

  -- a site that a disk halted
  abbrev stopped : ℕ → Node
  stopped disk = record n { halted = Some disk; fuse = burned n.fuse }

  stopped_group : (t : SiteState) (disk : ℕ) → group_by t (stopped disk) ≡ halted_group disk (group_by t n)
  stopped_group Bare disk = refl
  stopped_group Up disk = refl
  stopped_group Deported disk = refl
  stopped_group Down disk = refl

  pub halted_is : (disk : ℕ) → fact_of (stopped disk) row sites ≡ halted_fact disk f
  halted_is disk =
      ap (λ (rvg : Option RvgFacts). with_parts f rvg (links_by n.state (link_facts (stopped disk) row ss))) (stopped_group n.state disk)
      ∙ ap (λ (fs : List LinkFacts). with_parts f (halted_group disk f.rvg) (links_by n.state fs)) (links_log n (stopped disk) row refl ss)

  -- a site that applied records
  marked_is_group : (t : SiteState) (number : ℕ) (mark : Mark) → is_origin n.role ≡ false → group_by t (applied n number mark) ≡ marked_group mark (group_by t n)
  marked_is_group Bare number mark receives = refl
  marked_is_group Up number mark receives =
      let with_last : ℕ → RvgFacts = λ k. record (group_fact n) { last = k; mark = mark } in
      let last : head_of (applied n number mark) ≡ head_of n = ap (λ (b : Bool). if b then number else length n.log) receives ∙ sym (ap (λ (b : Bool). if b then n.safe else length n.log) receives) in
      ap (λ (k : ℕ). Some (with_last k)) last
  marked_is_group Deported number mark receives = refl
  marked_is_group Down number mark receives = refl

  pub marked_is : (number : ℕ) (mark : Mark) → is_origin n.role ≡ false → fact_of (applied n number mark) row sites ≡ marked_fact mark f
  marked_is number mark receives =
      ap (λ (rvg : Option RvgFacts). with_parts f rvg (links_by n.state (link_facts (applied n number mark) row ss))) (marked_is_group n.state number mark receives)
      ∙ ap (λ (fs : List LinkFacts). with_parts f (marked_group mark f.rvg) (links_by n.state fs)) (links_log n (applied n number mark) row refl ss)

  -- a crash, whatever it keeps
  pub down_is : (k : ℕ) (new : ℕ → Link) → fact_of (crashed n k) new sites ≡ down_fact f
  down_is k new = refl

  -- a site that comes up
  back_by : (P : Node → Type 0) → P (recovered n) → ((session : ℕ) (mark : Mark) → P (record (recovered n) { session = session; mark = mark })) → P (come_back n)
  back_by P origin receiver =
      let r : RState = (received_step (plain_receiver n) (Restart (length n.log) (n.session + 1))).state in
      by_test P (is_origin n.role) (recovered n) (record (recovered n) { session = r.session; mark = r.mark }) (λ _. origin) (λ _. receiver r.session r.mark)

  pub risen_is : (new : ℕ → Link) → fact_of (come_back n) new sites ≡ risen_fact (come_back n) new sites f
  risen_is new = back_by (λ (m : Node). fact_of m new sites ≡ risen_fact m new sites f) refl (λ session mark. refl)

-- ---- what the header of another site's log keeps

pub other_kept : (s : ℕ) (d e : Doubted) → ChangesNode s d e → (i : ℕ) → (i ≡ s → ⊥)
    → kept_links (e.world.links i) (linked_sites (e.world.links i) e.world.sites 0 e.world.sites) ≡ kept_links (d.world.links i) (linked_sites (d.world.links i) d.world.sites 0 d.world.sites)
other_kept s d e c i apart =
    ap (λ (sites : ℕ). kept_links (e.world.links i) (linked_sites (e.world.links i) sites 0 sites)) c.sites
    ∙ row_same (d.world.links i) (e.world.links i) d.world.sites (λ k. c.links i k apart)
