-- A crash and a recovery, step by step as the program takes them.
use Rattle.std.proofs.Common.{◌≡◌, ◌∙◌, ℕ, ◌+◌, Bool, true, false, List, [], length, take, drop, sym, ap, refl}
use Rattle.std.specs.Prelude.{leb, ◌&&◌, if◌then◌else◌}
use Rattle.std.proofs.lemmas.List.{append-nil}
use Rattle.vx_model.specs.Content.{Write}
use Rattle.vx_history.specs.World.{World, Node, Link, Packet, updated, line_updated, with_node}
use Rattle.vx_model.specs.Sites.{is_origin}
use Rattle.vx_history.specs.Sends.{with_links, sending, greeting}
use Rattle.vx_history.specs.LinkForms.{plain_receiver}
use Rattle.vx_history.specs.Gatherings.{emptied}
use Rattle.vx_history.specs.Steps.{crashed, crash_left, kept_by, recovered}
use Rattle.vx_history.specs.Receiving.{marked_by, site_restarted, is_log_phase}
use Rattle.vx_history.specs.Events.{link_marked, links_marked, lost_touch, crash_world, crash_at, come_back, restarted_link, recovery_greeting, recovered_at}
use Rattle.vx_model.specs.declared.site.Mark.{Mark}
use Rattle.vx_model.specs.declared.site.Mark.TheVariants.{Consistent}
use Rattle.vx_history.specs.declared.receiver.RState.{RState}
use Rattle.vx_history.proofs.Updates.{at_place}
use Rattle.vx_world.proofs.Crashes.{each_link, row_twice}

-- ## Crashes

pub crashed_receiver : (w v : World) (s k : ℕ) → is_origin (w.nodes s).role ≡ false → v ≡ with_node w s (crashed (w.nodes s) k) → v ≡ crash_world w s k
crashed_receiver w v s k role is =
    is ∙ sym (ap (λ (b : Bool). if b then crash_left w s k else with_node w s (crashed (w.nodes s) k)) role)

pub crashed_origin : (w mid v : World) (s k : ℕ) → is_origin (w.nodes s).role ≡ true
    → mid ≡ record w { lines = line_updated w.lines (w.nodes s).line (kept_by (w.lines (w.nodes s).line) (w.nodes s) k) } → v ≡ with_node mid s
    (crashed (mid.nodes s) k)
    → v ≡ crash_world w s k
crashed_origin w mid v s k role kept is =
    is
    ∙ ap (λ (x : World). with_node x s (crashed (x.nodes s) k)) kept
    ∙ sym (ap (λ (b : Bool). if b then crash_left w s k else with_node w s (crashed (w.nodes s) k)) role)

-- a crash leaves the links, until they lose touch
crash_links : (w : World) (s k : ℕ) (b : Bool) → (let x : World = if b then crash_left w s k else with_node w s (crashed (w.nodes s) k) in x).links ≡ w.links
crash_links w s k true = refl
crash_links w s k false = refl

-- and a site that crashes looks at no link
crash_apart : (w : World) (links : ℕ → ℕ → Link) (s k : ℕ) (b : Bool)
    → (let v : World = record w { links = links } in let x : World = if b then crash_left v s k else with_node v s (crashed (v.nodes s) k) in x)
    ≡ (let x : World = if b then crash_left w s k else with_node w s (crashed (w.nodes s) k) in record x { links = links })
crash_apart w links s k true = refl
crash_apart w links s k false = refl

pub crash_count : (w : World) (s k : ℕ) → (crash_at w s k).sites ≡ w.sites
crash_count w s k = by_role (is_origin (w.nodes s).role)
  where
    by_role : (b : Bool) → (let x : World = if b then crash_left w s k else with_node w s (crashed (w.nodes s) k) in x).sites ≡ w.sites
    by_role true = refl
    by_role false = refl

-- the regions of what it keeps are marked, it goes down, its links lose touch, and it has nothing in assembly
pub crash_done : (w marked mid apart v : World) (s k : ℕ) → marked ≡ links_marked w s (drop (w.nodes s).safe (take k (w.nodes s).log)) → mid ≡ crash_world marked s k
    → apart ≡ with_links mid s (λ to. lost_touch (mid.links s to)) → v ≡ emptied apart s → v ≡ crash_at w s k
crash_done w marked mid apart v s k marks down lost empty =
    let xs : List Write = drop (w.nodes s).safe (take k (w.nodes s).log) in
    let row : ℕ → Link = λ to. link_marked xs (w.links s to) in
    let u : World = links_marked w s xs in
    let left : (ℕ → ℕ → Link) → World = λ f. record (crash_world u s k) { links = updated (crash_world u s k).links s (each_link lost_touch (f s)) } in
    empty
    ∙ ap (λ (x : World). emptied x s) lost
    ∙ ap (λ (x : World). emptied (with_links x s (λ to. lost_touch (x.links s to))) s) (down ∙ ap (λ (x : World). crash_world x s k) marks)
    ∙ ap (λ (f : ℕ → ℕ → Link). let x : World = left f in emptied x s) (crash_links u s k (is_origin (w.nodes s).role))
    ∙ ap (λ (f : ℕ → ℕ → Link). let x : World = record (crash_world u s k) { links = updated f s (each_link lost_touch (u.links s)) } in emptied x s)
    (crash_links u s k (is_origin (w.nodes s).role))
    ∙ ap (λ (f : ℕ → ℕ → Link). let x : World = record (crash_world u s k) { links = f } in emptied x s) (row_twice w.links s row lost_touch)
    ∙ ap (λ (x : World). let y : World = record x { links = updated w.links s (each_link lost_touch row) } in emptied y s)
    (crash_apart w u.links s k (is_origin (w.nodes s).role))
    ∙ ap (λ (f : ℕ → ℕ → Link). let x : World = record (crash_world w s k) { links = updated f s (each_link lost_touch row) } in emptied x s)
    (sym (crash_links w s k (is_origin (w.nodes s).role)))

-- ## Recoveries

-- whatever the mark of a receiver becomes, its session is the next one
session_after : (s : RState) (last : ℕ) (b : Bool) → (let r : RState = if b then record s { mark = Consistent } else s in r).session ≡ s.session
session_after s last true = refl
session_after s last false = refl

pub back_origin : (n : Node) (mark : Mark) → is_origin n.role ≡ true → mark ≡ n.mark → come_back n ≡ record (recovered n) { mark = mark }
back_origin n mark role is =
    let r : RState = site_restarted (plain_receiver n) (length n.log) (n.session + 1) in
    ap (λ (b : Bool). let x : Node = if b then recovered n else record (recovered n) { session = r.session; mark = r.mark } in x) role
    ∙ sym (ap (λ (m : Mark). let x : Node = record (recovered n) { mark = m } in x) is)

pub back_receiver : (n : Node) (mark : Mark) → is_origin n.role ≡ false
    → mark ≡ (marked_by (record (plain_receiver n) { last = length n.log; waiting = 0; session = n.session + 1 }) (length n.log)).mark
    → come_back n ≡ record (recovered n) { mark = mark }
back_receiver n mark role is =
    let s : RState = record (plain_receiver n) { last = length n.log; waiting = 0; session = n.session + 1 } in
    let r : RState = marked_by s (length n.log) in
    ap (λ (b : Bool). let x : Node = if b then recovered n else record (recovered n) { session = r.session; mark = r.mark } in x) role
    ∙ ap (λ (k : ℕ). let x : Node = record (recovered n) { session = k; mark = r.mark } in x)
    (session_after s (length n.log) (is_log_phase s.phase && leb s.end (length n.log)))
    ∙ sym (ap (λ (m : Mark). let x : Node = record (recovered n) { mark = m } in x) is)

-- an origin sends nothing
pub greets_none : (w : World) (s : ℕ) → is_origin (w.nodes s).role ≡ true → w ≡ sending w (recovery_greeting s (w.nodes s))
greets_none w s role =
    let n : Node = w.nodes s in
    sym (ap (λ (ps : List Packet). let x : World = record w { packets = ps } in x) (append-nil w.packets))
    ∙ ap (λ (b : Bool). sending w (if b then [] else greeting s n.other n)) (sym role)

pub greets_primary : (w v : World) (s : ℕ) (n : Node) → is_origin n.role ≡ false → n ≡ w.nodes s → v ≡ sending w (greeting s n.other n)
    → v ≡ sending w (recovery_greeting s (w.nodes s))
greets_primary w v s n role is sent =
    sent
    ∙ sym (ap (λ (b : Bool). sending w (if b then [] else greeting s n.other n)) role)
    ∙ ap (λ (m : Node). sending w (recovery_greeting s m)) is

pub recovered_is : (w up on v : World) (s : ℕ) (mark : Mark) → come_back (w.nodes s) ≡ record (recovered (w.nodes s)) { mark = mark }
    → up ≡ with_node w s (record (recovered (w.nodes s)) { mark = mark })
    → on ≡ with_links up s (λ to. restarted_link (up.nodes s) to (up.links s to))
    → v ≡ sending on (recovery_greeting s (on.nodes s))
    → v ≡ recovered_at w s
recovered_is w up on v s mark back came linked greeted =
    let n : Node = come_back (w.nodes s) in
    let was : up ≡ with_node w s n = came ∙ ap (λ (x : Node). with_node w s x) (sym back) in
    let mid : World = with_links (with_node w s n) s (λ to. restarted_link n to (w.links s to)) in
    let on_is : on ≡ mid = linked ∙ ap (λ (x : World). with_links x s (λ to. restarted_link (x.nodes s) to (x.links s to))) was in
    greeted
    ∙ ap (λ (x : World). sending x (recovery_greeting s (x.nodes s))) on_is
    ∙ ap (λ (x : Node). sending mid (recovery_greeting s x)) (at_place w.nodes s n)
