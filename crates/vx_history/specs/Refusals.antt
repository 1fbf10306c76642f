-- The tests of an event, in the one order of refusals, and what is said of a world.
use Rattle.std.specs.Prelude.{ℕ, zero, suc, ◌+◌, Bool, true, false, not, ◌&&◌, ◌||◌, eqb, ltb, leb, List, [], ◌∷◌, length, Option, Some, None, if◌then◌else◌, bytes_eq}
use Rattle.vx_model.specs.declared.limits.TheConstants.{LEAST_BLOCKS, MOST_DISKS, MOST_LINKS, MOST_NUMBER, MOST_SITES}
use Rattle.vx_model.specs.Content.{Write}
use Rattle.vx_history.specs.World.{Node, Link, Volume, World}
use Rattle.vx_model.specs.Sites.{is_origin, same_line, is_up, is_bare, first_line}
use Rattle.vx_model.specs.Answer.{is_wrong_count, is_past}
use Rattle.vx_history.specs.Admission.{is_live_link, is_log, is_fail, Held, Link_is_down, Log_is_full, Log_stalls}
use Rattle.vx_history.specs.LinkForms.{plain_link}
use Rattle.vx_model.specs.declared.site.Role.{Role}
use Rattle.vx_model.specs.declared.site.Role.TheVariants.{Primary, Secondary, Handing, Bunker}
use Rattle.vx_model.specs.declared.site.Mark.{Mark}
use Rattle.vx_model.specs.declared.site.Mark.TheVariants.{Consistent, Inconsistent}
use Rattle.vx_model.specs.declared.link.SyncMode.{SyncMode}
use Rattle.vx_model.specs.declared.link.SyncMode.TheVariants.{Off as NeverWaits, Override as WaitsIfLive, Fail as FailsIfNotLive}
use Rattle.vx_model.specs.declared.link.Mode.{Mode}
use Rattle.vx_model.specs.declared.link.Mode.TheVariants.{Log, Dcm, Replay, Fork, Stale}
use Rattle.vx_model.specs.declared.no.No.{No}
use Rattle.vx_model.specs.declared.no.No.TheVariants.{Unknown, Exists, Range, Size, Role as WrongRole, Down as NotUp, LogFull, Stalled, LinkDown, Limit, Halted, Paused}
use Rattle.vx_model.specs.declared.no.Named.TheVariants.{Number as ByNumber}
use Rattle.vx_model.specs.declared.no.SiteName.TheVariants.{Number as SiteNumber}
use Rattle.vx_model.specs.declared.no.Counted.TheVariants.{Sites, Disks, Links, Number as CountOfNumbers}
use Rattle.vx_history.specs.declared.event.Said.{Said}
use Rattle.vx_history.specs.declared.event.Said.TheVariants.{Refused}
use Rattle.vx_history.specs.Sends.{is_linked}

-- a world after an event, and what is said
pub record Outcome : Type 0 where
  pub world : World
  pub said : Said

abbrev pub says : World → Said → Outcome
says w said = record { world = w; said = said }

-- a refused event changes nothing
abbrev pub refused : World → No → Outcome
refused w why = says w (Refused why)

-- the outcome, unless this refusal stands
abbrev pub unless : Bool → No → World → Outcome → Outcome
unless b why w o = if b then refused w why else o

abbrev pub unless_halted : Option ℕ → World → Outcome → Outcome
unless_halted None w o = o
unless_halted (Some disk) w o = refused w (Halted disk)

-- no disk has halted the site
abbrev pub is_running : Option ℕ → Bool
is_running None = true
is_running (Some disk) = false

abbrev pub is_primary : Role → Bool
is_primary Primary = true
is_primary Secondary = false
is_primary (Handing to) = false
is_primary Bunker = false

-- a site that holds writes of a line, and no volumes
abbrev pub is_bunker : Role → Bool
is_bunker Primary = false
is_bunker Secondary = false
is_bunker (Handing to) = false
is_bunker Bunker = true

-- links start at primaries, at sites that hand over, and at bunkers
abbrev pub keeps_links : Role → Bool
keeps_links Primary = true
keeps_links Secondary = false
keeps_links (Handing to) = true
keeps_links Bunker = true

abbrev pub is_consistent : Mark → Bool
is_consistent Consistent = true
is_consistent Inconsistent = false

abbrev pub is_stale_mode : Mode → Bool
is_stale_mode Log = false
is_stale_mode Dcm = false
is_stale_mode (Replay id phase left start end) = false
is_stale_mode (Fork maps) = false
is_stale_mode Stale = true

abbrev pub is_empty : List Write → Bool
is_empty xs = eqb (length xs) 0

-- whether the test holds of a number below this one
abbrev pub some_below : ℕ → (ℕ → Bool) → Bool
some_below zero test = false
some_below (suc k) test = test k || some_below k test

-- how many numbers below this one it holds of
abbrev pub how_many_below : ℕ → (ℕ → Bool) → ℕ
how_many_below zero test = 0
how_many_below (suc k) test = (if test k then 1 else 0) + how_many_below k test

-- 1: no site has this number
abbrev pub at_site : World → ℕ → Outcome → Outcome
at_site w p o = unless (leb w.sites p) (Unknown (ByNumber p)) w o

-- 6 and 20 of one site
abbrev pub at_work : World → ℕ → Outcome → Outcome
at_work w p o = unless (not (is_up (w.nodes p).state)) NotUp w (unless_halted (w.nodes p).halted w o)

-- 6 and 20 of two sites
abbrev pub both_at_work : World → ℕ → ℕ → Outcome → Outcome
both_at_work w p s o =
    unless (not (is_up (w.nodes p).state && is_up (w.nodes s).state)) NotUp w
    (unless_halted (w.nodes p).halted w (unless_halted (w.nodes s).halted w o))

-- the tests of an event on a link of the site p, at which links of its role start
abbrev pub on_link_if : (Role → Bool) → World → ℕ → ℕ → Outcome → Outcome
on_link_if test w p s o =
    at_site w p (at_site w s (at_work w p
    (unless (not (test (w.nodes p).role)) WrongRole w
    (unless (not (is_linked (w.links p s))) (Unknown (ByNumber s)) w o))))

abbrev pub on_link : World → ℕ → ℕ → Outcome → Outcome
on_link w p s o = on_link_if keeps_links w p s o

-- 14 and 23: over a link that is attached and connected, and not paused
abbrev pub when_live : World → ℕ → Link → Outcome → Outcome
when_live w s l o = unless (not (l.attached && l.connected)) (LinkDown (SiteNumber s)) w (unless l.paused Paused w o)

-- the tests of a read or write of this many blocks of a volume, at a primary; of a bare site no volume is known
abbrev pub on_volume : World → ℕ → (volume start count : ℕ) → (too_large : Bool) → Outcome → Outcome
on_volume w p volume start count too_large o =
    let n = w.nodes p in
    at_site w p
    (unless (is_bare n.state) (Unknown (ByNumber volume)) w
    (at_work w p
    (unless (not (is_primary n.role)) WrongRole w
    (unless (leb (length n.volumes) volume) (Unknown (ByNumber volume)) w
    (unless (is_wrong_count count || too_large) Size w
    (unless (is_past n.base volume start count) Range w o))))))

abbrev pub unless_at_most : ℕ → World → Outcome → Outcome
unless_at_most number w o = unless (leb MOST_NUMBER number) (Limit CountOfNumbers MOST_NUMBER) w o

-- why a write is held by a link
abbrev pub why_held : Held → No
why_held (Link_is_down site) = LinkDown (SiteNumber site)
why_held (Log_is_full site) = LogFull (SiteNumber site)
why_held (Log_stalls site) = Stalled (SiteNumber site)

-- 2, 19 and 4 of a further site; how many blocks a disk may have at most is a matter of where it is kept
abbrev pub may_be_site : World → List ℕ → (disks blocks : ℕ) → Outcome → Outcome
may_be_site w name disks blocks o =
    unless (some_below w.sites (λ k. bytes_eq (w.nodes k).name name)) (Exists name) w
    (unless (leb MOST_SITES w.sites) (Limit Sites MOST_SITES) w
    (unless (ltb MOST_DISKS disks) (Limit Disks MOST_DISKS) w
    (unless (eqb disks 0 || ltb blocks LEAST_BLOCKS) Size w o)))

-- volumes of the same number and sizes
abbrev pub agree : List Volume → List Volume → Bool
agree [] [] = true
agree [] (y ∷ ys) = false
agree (x ∷ xs) [] = false
agree (x ∷ xs) (y ∷ ys) = eqb x.blocks y.blocks && agree xs ys

-- there are some, and the others are as many and of the same sizes
abbrev pub sizes_meet : List Volume → List Volume → Bool
sizes_meet xs ys = not (eqb (length xs) 0) && agree xs ys

-- the site has nothing logged and no links
abbrev pub is_fresh : World → ℕ → Bool
is_fresh w s = is_primary (w.nodes s).role && (is_empty (w.nodes s).log && not (some_below w.sites (λ k. is_linked (w.links s k))))

-- p may link s by the log: nothing is logged at either, and each is the primary of a line of its own
abbrev pub may_link : World → ℕ → ℕ → Bool
may_link w p s =
    is_primary (w.nodes p).role && (not (eqb s p) && (is_empty (w.nodes p).log && (same_line (w.nodes p).line (first_line p) && is_fresh w s)))

-- as large as a log that receives has to be
abbrev pub rings_fit : Node → Node → Bool
rings_fit a b = leb 17 b.ring || leb a.ring b.ring

abbrev pub count_links_of : World → ℕ → ℕ
count_links_of w p = how_many_below w.sites (λ k. is_linked (w.links p k))

-- s stands on the line of p as one that receives
abbrev pub follows : World → ℕ → ℕ → Bool
follows w p s = not (is_origin (w.nodes s).role) && same_line (w.nodes s).line (w.nodes p).line

-- 5, 2, 19 and 4 of a line that links s to p
abbrev pub may_join : World → ℕ → ℕ → Outcome → Outcome
may_join w p s o =
    unless (not (may_link w p s)) WrongRole w
    (unless (is_linked (w.links p s)) (Exists (w.nodes s).name) w
    (unless (leb MOST_LINKS (count_links_of w p)) (Limit Links MOST_LINKS) w
    (unless (not (sizes_meet (w.nodes p).volumes (w.nodes s).volumes && rings_fit (w.nodes p) (w.nodes s))) Size w o)))

-- whether a link waits for the write of this number, or can't be waited for, or is one that writes wait for at all
abbrev pub waits : SyncMode → Bool
waits NeverWaits = false
waits WaitsIfLive = true
waits FailsIfNotLive = true

-- a live link by the log, at number s
abbrev pub goes : ℕ → Link → Bool
goes s l = is_live_link (plain_link s l) && is_log l.mode

abbrev pub is_waited_for : ℕ → Link → Bool
is_waited_for s l = is_linked l && (waits l.sync && goes s l)

abbrev pub holds_back : (number : ℕ) → ℕ → Link → Bool
holds_back number s l = is_linked l && (l.attached && (waits l.sync && (goes s l && ltb l.net number)))

abbrev pub is_unconfirmed : (number : ℕ) → ℕ → Link → Bool
is_unconfirmed number s l = is_linked l && (l.attached && (is_fail l.sync && (ltb l.net number && not (goes s l))))
