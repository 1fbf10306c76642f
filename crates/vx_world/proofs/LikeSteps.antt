-- Each event makes worlds that differ in notes alone of such worlds, and says the same of both.
use Rattle.std.proofs.Common.{◌≡◌, ◌∙◌, ℕ, ◌+◌, List, [], ◌∷◌, ap, sym, subst, refl}
use Rattle.std.specs.Prelude.{Bool, true, false, Option, Some, None, not, leb, ltb, bytes_eq}
use Rattle.vx_model.specs.Sites.{is_origin, is_up, is_bare}
use Rattle.vx_model.specs.Sizes.{is_raw_shape}
use Rattle.vx_model.specs.declared.limits.TheConstants.{MOST_DISKS, MOST_SITES}
use Rattle.vx_model.specs.declared.no.No.TheVariants.{Size, Role as WrongRole, Down as NotUp, Exists, Limit}
use Rattle.vx_model.specs.declared.no.Counted.TheVariants.{Sites, Disks}
use Rattle.vx_model.specs.declared.site.SiteState.{SiteState}
use Rattle.vx_model.specs.declared.site.SiteState.TheVariants.{Bare, Up, Deported, Down}
use Rattle.vx_history.specs.World.{World, History, Node, Link as LinkState, bare_site, no_volumes, updated}
use Rattle.vx_history.specs.Likes.{IsLike}
use Rattle.vx_history.specs.Steps.{burned, fallen_site, site_made, raw_set, raw_history, group_set, group_up, begun_line}
use Rattle.vx_history.specs.Refusals.{Outcome, at_site, at_work, keeps_links, on_link_if, some_below, unless, unless_halted}
use Rattle.vx_history.specs.Sends.{is_linked, with_link}
use Rattle.vx_history.specs.declared.event.Said.TheVariants.{Refused}
use Rattle.vx_history.specs.Events
use Rattle.vx_history.specs.Groups.{GroupNode}
use Rattle.vx_history.specs.Looks.{AllLookSame, LooksSame}
use Rattle.vx_history.specs.Volumes.{data_content, starting_with, volumes_made, volumes_set}
use Rattle.vx_history.specs.declared.volumes.DataVolume.{DataVolume}
use Rattle.vx_model.specs.declared.no.No.{No}
use Rattle.vx_history.specs.Step.{done, outcome_of, step, run}
use Rattle.vx_history.specs.declared.event.Event.{Event}
use Rattle.vx_history.specs.declared.event.Event.TheVariants.{Site, Raw, Group, Volumes, Write as WriteAt, Read, Apply, Pump, Tick, Deliver, Connect, Cut, Pause, Resume, Wait, Link, Set, Attach, Detach, Crash, Deport, Fall, Recover, Fault}
use Rattle.vx_history.specs.declared.sender.SEvent.TheVariants.{Connect as ConnectLink, Pump as PumpLink, Cut as CutLink, Pause as PauseLink, Resume as ResumeLink}
use Rattle.vx_world.proofs.Likely.{noted, Same, same_of, tests, some_same, link_changed, pair_updated, like_node, like_history, like_link, like_sending, like_headers, at_site_same, at_work_same, both_same, on_link_same, when_live_same}
use Rattle.vx_world.proofs.LikeChanges.{write_same, read_same, apply_same, moved_same, event_same, tick_same, greeting_same}
use Rattle.vx_world.proofs.LikeCrashes.{deliver_same, wait_same, crash_like, deport_same, recover_same, part_same}

-- ## Every event

pub site_same : (w v : World) → IsLike w v → (name : List ℕ) (disks blocks : ℕ) → IsLike (site_made w name disks blocks) (site_made v name disks blocks)
site_same w v like name disks blocks =
    subst (λ (k : ℕ). IsLike (site_made w name disks blocks) (record v { sites = k + 1; nodes = updated v.nodes k (bare_site name disks blocks) }))
    (sym like.sites)
    (record {
      sites = refl;
      nodes = λ i. pair_updated (λ (a b : Node). b ≡ noted a b) w.nodes v.nodes w.sites (bare_site name disks blocks) (bare_site name disks blocks) i refl
          (like.nodes i);
      links = like.links;
      lines = like.lines;
      packets = like.packets;
      promised = like.promised;
      gathering = like.gathering;
    })

again_same : (w v : World) → IsLike w v → (q : ℕ) → Same (Events.group_again w q) (Events.group_again v q)
again_same w v like q =
    tests (not (Events.is_plain_group (w.nodes q))) (not (Events.is_plain_group (v.nodes q))) WrongRole WrongRole w v _ _
    (ap (λ (n : Node). not (Events.is_plain_group n)) (like.nodes q)) refl like
    (λ _. record { world = like_node w v like q (group_up (w.nodes q)) (group_up (v.nodes q)) (ap group_up (like.nodes q)); said = refl })

group_same : (w v : World) → IsLike w v → (q : ℕ) (state : SiteState) → Same (Events.group_from state w q) (Events.group_from state v q)
group_same w v like q Bare = record {
  world = like_history w v like q (group_set q (w.nodes q)) (group_set q (v.nodes q)) (begun_line no_volumes) (begun_line no_volumes)
      (ap (λ (n : Node). group_set q n) (like.nodes q)) refl;
  said = refl;
}
group_same w v like q Up = same_of w v (Refused WrongRole) (Refused WrongRole) like refl
group_same w v like q Deported = again_same w v like q
group_same w v like q Down = again_same w v like q

-- a link of an origin is set, attached or detached
set_same : (w v : World) → IsLike w v → (p q : ℕ) (change : LinkState → LinkState) → ((l : LinkState) → is_linked (change l) ≡ is_linked l)
    → Same (on_link_if is_origin w p q (done (with_link w p q (change (w.links p q))))) (on_link_if is_origin v p q (done (with_link v p q (change (v.links p q)))))
set_same w v like p q change linked =
    on_link_same w v like is_origin p q _ _
    (λ same _. record {
      world = like_link w v like p q (change (w.links p q)) (change (v.links p q)) (link_changed change linked (w.links p q) (v.links p q) (like.links p q));
      said = refl;
    })

fall_same : (w v : World) → IsLike w v → (q : ℕ) (state : SiteState) → Same (Events.fall_from state w q) (Events.fall_from state v q)
fall_same w v like q Bare = same_of w v (Refused WrongRole) (Refused WrongRole) like refl
fall_same w v like q Up = same_of w v (Refused WrongRole) (Refused WrongRole) like refl
fall_same w v like q Deported = record {
  world = like_node w v like q (fallen_site (w.nodes q)) (fallen_site (v.nodes q)) (ap fallen_site (like.nodes q));
  said = refl;
}
fall_same w v like q Down = same_of w v (Refused WrongRole) (Refused WrongRole) like refl

-- a site gets the same data volumes in worlds in which it notes the same of its group
volumes_same : (log : ℕ) (xs : List DataVolume) (n k : Node) → k ≡ noted n k → k.group ≡ n.group → volumes_set log xs k ≡ noted (volumes_set log xs n) (volumes_set log xs k)
volumes_same log xs n k e group =
    ap (volumes_set log xs) e
    ∙ ap (λ (g : Option GroupNode). let m : Node = record (noted (volumes_set log xs n) k) { start = data_content g xs; base = data_content g xs } in m) group

pub outcome_same : (w v : World) → IsLike w v → (e : Event) → LooksSame e w v → Same (outcome_of w e) (outcome_of v e)
outcome_same w v like (Site name disks blocks) sees =
    tests (some_below w.sites (λ k. bytes_eq (w.nodes k).name name)) (some_below v.sites (λ k. bytes_eq (v.nodes k).name name)) (Exists name)
    (Exists name) w v _ _
    (ap (λ (n : ℕ). some_below n (λ k. bytes_eq (v.nodes k).name name)) like.sites ∙ some_same w.sites (λ k. bytes_eq (w.nodes k).name name)
    (λ k. bytes_eq (v.nodes k).name name) (λ k. ap (λ (n : Node). bytes_eq n.name name) (like.nodes k))) refl like
    (λ _. tests (leb MOST_SITES w.sites) (leb MOST_SITES v.sites) (Limit Sites MOST_SITES) (Limit Sites MOST_SITES) w v _ _
    (ap (λ (k : ℕ). leb MOST_SITES k) like.sites) refl like
    (λ _. tests (ltb MOST_DISKS disks) (ltb MOST_DISKS disks) (Limit Disks MOST_DISKS) (Limit Disks MOST_DISKS) w v _ _ refl refl like
    (λ _. tests _ _ Size Size w v _ _ refl refl like (λ _. record { world = site_same w v like name disks blocks; said = refl }))))
outcome_same w v like (Raw q) sees =
    at_site_same w v like q _ _
    (tests (not (is_bare (w.nodes q).state)) (not (is_bare (v.nodes q).state)) WrongRole WrongRole w v _ _
    (ap (λ (n : Node). not (is_bare n.state)) (like.nodes q)) refl like
    (λ _. tests (not (is_raw_shape (w.nodes q).disks (w.nodes q).blocks)) (not (is_raw_shape (v.nodes q).disks (v.nodes q).blocks)) Size Size w v _ _
    (ap (λ (n : Node). not (is_raw_shape n.disks n.blocks)) (like.nodes q)) refl like
    (λ _. record {
      world = like_history w v like q (raw_set q (w.nodes q)) (raw_set q (v.nodes q)) (raw_history (w.nodes q)) (raw_history (v.nodes q))
          (ap (λ (n : Node). raw_set q n) (like.nodes q)) (ap raw_history (like.nodes q));
      said = refl;
    })))
outcome_same w v like (Group q) sees =
    at_site_same w v like q _ _
    (subst (λ (s : SiteState). Same (Events.group_from (w.nodes q).state w q) (Events.group_from s v q))
    (sym (ap (λ (n : Node). n.state) (like.nodes q))) (group_same w v like q (w.nodes q).state))
outcome_same w v like (Volumes q log xs) sees =
    let group : (v.nodes q).group ≡ (w.nodes q).group = sees in
    at_site_same w v like q _ _ (at_work_same w v like q _ _
    (tests (not (Events.is_plain_group (w.nodes q))) (not (Events.is_plain_group (v.nodes q))) WrongRole WrongRole w v _ _
    (ap (λ (n : Node). not (Events.is_plain_group n)) (like.nodes q)) refl like
    (λ _. record {
      world = like_history w v like q (volumes_set log xs (w.nodes q)) (volumes_set log xs (v.nodes q))
          (starting_with (data_content (w.nodes q).group xs) (w.lines (w.nodes q).line)) (starting_with (data_content (v.nodes q).group xs) (v.lines (v.nodes q).line))
          (volumes_same log xs (w.nodes q) (v.nodes q) (like.nodes q) group)
          (ap (λ (g : Option GroupNode). starting_with (data_content g xs) (v.lines (v.nodes q).line)) group
          ∙ ap (λ (n : Node). starting_with (data_content (w.nodes q).group xs) (v.lines n.line)) (like.nodes q)
          ∙ ap (λ (l : History). starting_with (data_content (w.nodes q).group xs) l) (like.lines (w.nodes q).line));
      said = refl;
    })))
outcome_same w v like (WriteAt p volume start bytes fails) sees = write_same w v like p (record { volume = volume; start = start; bytes = bytes }) fails
outcome_same w v like (Read p volume start count) sees = read_same w v like p volume start count
outcome_same w v like (Apply q count reached) sees = at_site_same w v like q _ _ (at_work_same w v like q _ _ (apply_same w v like q count reached))
outcome_same w v like (Pump p q) sees =
    on_link_same w v like keeps_links p q _ _
    (λ same _. when_live_same w v like q (w.links p q) (v.links p q) _ _ same (record { world = moved_same w v like p q PumpLink same; said = refl }))
outcome_same w v like (Tick p q) sees = tick_same w v like p q
outcome_same w v like (Deliver number) sees = deliver_same w v like number
outcome_same w v like (Connect p q) sees =
    on_link_same w v like keeps_links p q _ _
    (λ same _. record {
      world = like_sending (Events.link_event w p q ConnectLink) (Events.link_event v p q ConnectLink)
          (moved_same w v like p q ConnectLink same) (Events.greeting_back w p q) (Events.greeting_back v p q) (greeting_same w v like p q);
      said = refl;
    })
outcome_same w v like (Cut p q) sees = event_same w v like p q CutLink
outcome_same w v like (Pause p q) sees = event_same w v like p q PauseLink
outcome_same w v like (Resume p q) sees = event_same w v like p q ResumeLink
outcome_same w v like (Wait p number) sees =
    at_site_same w v like p _ _ (at_work_same w v like p _ _
    (tests (not (is_origin (w.nodes p).role)) (not (is_origin (v.nodes p).role)) WrongRole WrongRole w v _ _
    (ap (λ (n : Node). not (is_origin n.role)) (like.nodes p)) refl like (λ _. wait_same w v like p number)))
outcome_same w v like (Link p q sync prot part) sees = at_site_same w v like p _ _
    (at_site_same w v like q _ _ (both_same w v like p q _ _ (part_same w v like part p q sync prot)))
outcome_same w v like (Set p q sync prot) sees = set_same w v like p q (λ l. Events.link_with sync prot l) (λ l. refl)
outcome_same w v like (Attach p q) sees = set_same w v like p q Events.link_attached (λ l. refl)
outcome_same w v like (Detach p q) sees = set_same w v like p q Events.link_detached (λ l. refl)
outcome_same w v like (Crash q kept) sees =
    at_site_same w v like q _ _
    (tests (not (is_up (w.nodes q).state)) (not (is_up (v.nodes q).state)) NotUp NotUp w v _ _ (ap (λ (n : Node). not (is_up n.state)) (like.nodes q)) refl like
    (λ _. record { world = crash_like w v like q kept; said = refl }))
outcome_same w v like (Deport q) sees =
    at_site_same w v like q _ _ (at_work_same w v like q _ _ (record { world = deport_same w v like q; said = refl }))
outcome_same w v like (Fall q) sees =
    at_site_same w v like q _ _
    (subst (λ (s : SiteState). Same (Events.fall_from (w.nodes q).state w q) (Events.fall_from s v q))
    (sym (ap (λ (n : Node). n.state) (like.nodes q))) (fall_same w v like q (w.nodes q).state))
outcome_same w v like (Recover q fails) sees =
    at_site_same w v like q _ _ (subst (λ (s : SiteState). Same (Events.recover_from (w.nodes q).state w q fails) (Events.recover_from s v q fails))
    (sym (ap (λ (n : Node). n.state) (like.nodes q))) (recover_same w v like q (w.nodes q).state fails))
outcome_same w v like (Fault q disk) sees =
    at_site_same w v like q _ _
    (tests (not (is_up (w.nodes q).state)) (not (is_up (v.nodes q).state)) NotUp NotUp w v _ _ (ap (λ (n : Node). not (is_up n.state)) (like.nodes q)) refl like
    (λ _. record {
      world = like_node w v like q (record (w.nodes q) { halted = Some disk; fuse = burned (w.nodes q).fuse })
          (record (v.nodes q) { halted = Some disk; fuse = burned (v.nodes q).fuse })
          (ap (λ (n : Node). let m : Node = record n { halted = Some disk; fuse = burned n.fuse } in m) (like.nodes q));
      said = refl;
    }))

-- whatever headers are counted
pub step_like : (w v : World) (e : Event) → IsLike w v → LooksSame e w v → IsLike (step w e).world (step v e).world
step_like w v e like sees = like_headers (outcome_of w e).world (outcome_of v e).world (outcome_same w v like e sees).world (step w e).world.headers
    (step v e).world.headers

-- a test that does not refuse, before outcomes of which the same is said
said_unless : (b : Bool) (why : No) (w : World) (o r : Outcome) → r.said ≡ o.said → (unless b why w r).said ≡ (unless b why w o).said
said_unless true why w o r e = refl
said_unless false why w o r e = e

said_running : (h : Option ℕ) (w : World) (o r : Outcome) → r.said ≡ o.said → (unless_halted h w r).said ≡ (unless_halted h w o).said
said_running None w o r e = e
said_running (Some disk) w o r e = refl

-- what is said of data volumes that are made does not rest on what they hold
volumes_said : (w : World) (q : ℕ) (a b : World)
    → (at_site w q (at_work w q (unless (not (Events.is_plain_group (w.nodes q))) WrongRole w (done b)))).said
    ≡ (at_site w q (at_work w q (unless (not (Events.is_plain_group (w.nodes q))) WrongRole w (done a)))).said
volumes_said w q a b =
    said_unless (leb w.sites q) _ w _ _ (said_unless (not (is_up (w.nodes q).state)) NotUp w _ _
    (said_running (w.nodes q).halted w _ _ (said_unless (not (Events.is_plain_group (w.nodes q))) WrongRole w (done a) (done b) refl)))

volumes_tested : (w v : World) → IsLike w v → (q log : ℕ) (xs : List DataVolume) → (outcome_of v (Volumes q log xs)).said ≡ (outcome_of w (Volumes q log xs)).said
volumes_tested w v like q log xs =
    let plain_w : Outcome = unless (not (Events.is_plain_group (w.nodes q))) WrongRole w (done w) in
    let plain_v : Outcome = unless (not (Events.is_plain_group (v.nodes q))) WrongRole v (done v) in
    let same : Same (at_site w q (at_work w q plain_w)) (at_site v q (at_work v q plain_v)) =
    at_site_same w v like q (at_work w q plain_w) (at_work v q plain_v) (at_work_same w v like q plain_w plain_v
    (tests (not (Events.is_plain_group (w.nodes q))) (not (Events.is_plain_group (v.nodes q))) WrongRole WrongRole w v (done w) (done v)
    (ap (λ (n : Node). not (Events.is_plain_group n)) (like.nodes q)) refl like (λ _. record { world = like; said = refl }))) in
    volumes_said v q v (volumes_made v q log xs) ∙ same.said ∙ volumes_said w q (volumes_made w q log xs) w

pub said_like : (w v : World) (e : Event) → IsLike w v → (step v e).said ≡ (step w e).said
said_like w v (Site name disks blocks) like = (outcome_same w v like (Site name disks blocks) tt).said
said_like w v (Raw p) like = (outcome_same w v like (Raw p) tt).said
said_like w v (Group p) like = (outcome_same w v like (Group p) tt).said
said_like w v (Volumes p log xs) like = volumes_tested w v like p log xs
said_like w v (WriteAt p volume start bytes fails) like = (outcome_same w v like (WriteAt p volume start bytes fails) tt).said
said_like w v (Read p volume start count) like = (outcome_same w v like (Read p volume start count) tt).said
said_like w v (Apply p count reached) like = (outcome_same w v like (Apply p count reached) tt).said
said_like w v (Pump p q) like = (outcome_same w v like (Pump p q) tt).said
said_like w v (Tick p q) like = (outcome_same w v like (Tick p q) tt).said
said_like w v (Deliver number) like = (outcome_same w v like (Deliver number) tt).said
said_like w v (Connect p q) like = (outcome_same w v like (Connect p q) tt).said
said_like w v (Cut p q) like = (outcome_same w v like (Cut p q) tt).said
said_like w v (Pause p q) like = (outcome_same w v like (Pause p q) tt).said
said_like w v (Resume p q) like = (outcome_same w v like (Resume p q) tt).said
said_like w v (Wait p number) like = (outcome_same w v like (Wait p number) tt).said
said_like w v (Link p q sync prot part) like = (outcome_same w v like (Link p q sync prot part) tt).said
said_like w v (Set p q sync prot) like = (outcome_same w v like (Set p q sync prot) tt).said
said_like w v (Attach p q) like = (outcome_same w v like (Attach p q) tt).said
said_like w v (Detach p q) like = (outcome_same w v like (Detach p q) tt).said
said_like w v (Crash p kept) like = (outcome_same w v like (Crash p kept) tt).said
said_like w v (Deport p) like = (outcome_same w v like (Deport p) tt).said
said_like w v (Fall p) like = (outcome_same w v like (Fall p) tt).said
said_like w v (Recover p fails) like = (outcome_same w v like (Recover p fails) tt).said
said_like w v (Fault p disk) like = (outcome_same w v like (Fault p disk) tt).said

-- an event looks at the same where all sites have the same notes of their groups
pub looks_same : (w v : World) → ((i : ℕ) → (v.nodes i).group ≡ (w.nodes i).group) → (e : Event) → LooksSame e w v
looks_same w v groups (Site name disks blocks) = tt
looks_same w v groups (Raw p) = tt
looks_same w v groups (Group p) = tt
looks_same w v groups (Volumes p log xs) = groups p
looks_same w v groups (WriteAt p volume start bytes fails) = tt
looks_same w v groups (Read p volume start count) = tt
looks_same w v groups (Apply p count reached) = tt
looks_same w v groups (Pump p q) = tt
looks_same w v groups (Tick p q) = tt
looks_same w v groups (Deliver number) = tt
looks_same w v groups (Connect p q) = tt
looks_same w v groups (Cut p q) = tt
looks_same w v groups (Pause p q) = tt
looks_same w v groups (Resume p q) = tt
looks_same w v groups (Wait p number) = tt
looks_same w v groups (Link p q sync prot part) = tt
looks_same w v groups (Set p q sync prot) = tt
looks_same w v groups (Attach p q) = tt
looks_same w v groups (Detach p q) = tt
looks_same w v groups (Crash p kept) = tt
looks_same w v groups (Deport p) = tt
looks_same w v groups (Fall p) = tt
looks_same w v groups (Recover p fails) = tt
looks_same w v groups (Fault p disk) = tt

pub run_like : (w v : World) (es : List Event) → IsLike w v → AllLookSame es w v → IsLike (run w es) (run v es)
run_like w v [] like all = like
run_like w v (e ∷ es) like (sees, all) = run_like (step w e).world (step v e).world es (step_like w v e like sees) all
