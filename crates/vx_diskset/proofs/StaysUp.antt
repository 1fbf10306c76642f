-- A site that is up stays so over calls on its group.
use Rattle.std.proofs.Common.{◌≡◌, ◌⊎◌, inl, inr, ⊎_elim, ℕ, zero, suc, ◌≤◌, Bool, true, false, List, [], ◌∷◌, length, take, drop, Option, None, IsTrue, refl, sym, ◌∙◌, ap, subst, arith}
use Rattle.std.specs.Prelude.{IsFalse}
use Rattle.std.proofs.lemmas.List.{take_all}
use Rattle.vx_model.specs.Content.{Content, Write, fold_writes}
use Rattle.vx_history.specs.World.{Node, Fuse, NoFuse, FuseSet, FuseLit}
use Rattle.vx_history.specs.Steps.{burned, spent, worked}
use Rattle.vx_model.specs.declared.state.State.{State}
use Rattle.vx_model.specs.declared.units.Units.{Units}
use Rattle.vx_srlfmt.specs.declared.header.Header.{Header}
use Rattle.vx_srl.specs.Views.{widths}
use Rattle.vx_srl.specs.declared.kept.Kept.{Kept}
use Rattle.vx_diskset.specs.DiskSets.{with_first}
use Rattle.vx_diskset.specs.Holds.{KeptBeside}
use Rattle.vx_disk.specs.Shelf.{Meaning, Image, Lawful}
use Rattle.vx_disk.specs.Moves.{Blocks, Says, Moves}
use Rattle.vx_rvg.specs.Holdings.{Holding}
use Rattle.vx_rvg.specs.Stands.{FoundGroup}
use Rattle.vx_rvg.specs.Views.{Core}
use Rattle.vx_diskset.specs.Holds.{HasSite, HasWrites, state_with}
use Rattle.vx_diskset.specs.Layouts.{units_of}
use Rattle.vx_diskset.proofs.Laying.{lies_moved}
use Rattle.vx_diskset.specs.Holds.{most_header}
use Rattle.vx_diskset.specs.Fuses.{FuseOn}
use Rattle.vx_history.specs.Stops.{IsFused}
use Rattle.vx_diskset.specs.Lasts.{FoundWith, StandsHolding}
use Rattle.vx_diskset.proofs.LastWrites.{FoundOf}
use Rattle.vx_diskset.proofs.BesideLemmas.{may_same, site_map}
use Rattle.vx_diskset.proofs.NeedLemmas.{takes_same}
use Rattle.vx_diskset.specs.Stands.{IsFitted, IsUpAt, IsHeldAt}

pub not_true : (b : Bool) → (IsTrue b → ⊥) → IsFalse b
not_true true h = absurd (h refl)
not_true false h = refl

pub not_false : (b : Bool) → (IsFalse b → ⊥) → IsTrue b
not_false true h = refl
not_false false h = absurd (h refl)

pub never_both : (b : Bool) → IsTrue b → IsFalse b → ⊥
never_both b is not = cc

-- a shelf that has an image tells its contents
pub told_now : (m : Meaning) (i : Image) → Lawful m → m.now i → IsTrue m.tells
told_now m i lawful now = not_false m.tells (λ untold. lawful.never untold m.moment i (lawful.counts_now m.moment i (omega arith) now))

-- what is left behind a call was left before it, or in it
pub left_moved : (mine : Blocks) (P : Says) (m new : Meaning) (i : Image) → Lawful m → Lawful new → Moves mine P m new → new.now i → m.now i ⊎ P i
left_moved mine P m new i lawful after moves now =
    ⊎_elim (λ was. inl (lawful.only_now i was)) (λ during. inr during.1)
    (moves.since m.moment i (omega arith) (after.counts_now m.moment i moves.later now))

-- a call on a shelf that stays up
pub fitted_moved : (disks blocks : ℕ) (mine : Blocks) (P : Says) (m new : Meaning) → Moves mine P m new → IsFitted disks blocks m → IsFalse new.down → IsFitted disks blocks new
fitted_moved disks blocks mine P m new moves fitted up = record {
  units = moves.units ∙ fitted.units;
  size = λ u there. moves.size u ∙ fitted.size u there;
  up = up;
}

-- a call on a shelf without a fuse does not bring it down
pub stays_up : (mine : Blocks) (P : Says) (m new : Meaning) → Moves mine P m new → IsFalse m.armed → IsFalse m.down → IsFalse new.down
stays_up mine P m new moves unarmed up = not_true new.down (λ down. never_both m.down (moves.safe unarmed down) up)

-- a call that brings a shelf down ran out its fuse
pub fused_by : (f : Fuse) (mine : Blocks) (P : Says) (m new : Meaning) → Moves mine P m new → FuseOn f m → IsFalse m.down → IsTrue new.down → IsFused f
fused_by NoFuse mine P m new moves unarmed up down = never_both m.down (moves.safe unarmed down) up
fused_by (FuseSet calls) mine P m new moves has up down = tt
fused_by (FuseLit most) mine P m new moves has up down = tt

-- a fuse behind a call that may write and flush
pub fuse_moved : (f : Fuse) (mine : Blocks) (P : Says) (m new : Meaning) → Moves mine P m new → FuseOn f m → FuseOn (burned f) new
fuse_moved NoFuse mine P m new moves unarmed = moves.unarmed unarmed
fuse_moved (FuseSet calls) mine P m new moves has = tt
fuse_moved (FuseLit most) mine P m new moves has = tt

pub fuse_burned : (f : Fuse) (m : Meaning) → FuseOn f m → FuseOn (burned f) m
fuse_burned NoFuse m has = has
fuse_burned (FuseSet calls) m has = tt
fuse_burned (FuseLit most) m has = tt

-- the same of a line that is known to have made so many calls
pub fuse_spent : (n : ℕ) (f : Fuse) (m : Meaning) → FuseOn (burned f) m → FuseOn (spent n f) m
fuse_spent n NoFuse m has = has
fuse_spent n (FuseSet calls) m has = tt
fuse_spent n (FuseLit most) m has = tt

-- ---- an image with the group's content has the site's

-- a greater stamp is one that no header has either
pub found_below : (units : Units) (ring : ℕ) (state : State) (session stamp most : ℕ) (i : Image) (h : Holding) → stamp ≤ most → FoundGroup units ring state session stamp i h → FoundGroup units ring state session most i h
found_below units ring state session stamp most i h le found = record {
  header = found.header;
  records = found.records;
  recovers = found.recovers;
  state_is = found.state_is;
  session_is = found.session_is;
  stamp_most = omega (arith, found.stamp_most, le);
  some = found.some;
  low_is = found.low_is;
  writes_are = found.writes_are;
  place_is = found.place_is;
  content = found.content;
  maps = found.maps;
}

pub drop-take_none : {A : Type 0} (k : ℕ) (xs : List A) → drop k (take k xs) ≡ []
drop-take_none zero [] = refl
drop-take_none zero (x ∷ xs) = refl
drop-take_none (suc k) [] = refl
drop-take_none (suc k) (x ∷ xs) = drop-take_none k xs

pub found_same : (u u' : Units) (r r' : ℕ) (state state' : State) (session session' stamp stamp' : ℕ) (xs xs' : List Write) (c c' : Content) (i : Image)
    → u ≡ u' → r ≡ r' → state ≡ state' → session ≡ session' → stamp ≤ stamp' → xs ≡ xs' → c ≡ c' → FoundWith u r state session stamp i xs c → FoundWith u' r' state' session' stamp' i xs' c'
found_same u u' r r' state state' session session' stamp stamp' xs xs' c c' i eu er es en le ex ec with =
    subst (λ (x : Units). FoundWith x r' state' session' stamp' i xs' c') eu
    (subst (λ (x : ℕ). FoundWith u x state' session' stamp' i xs' c') er
    (subst (λ (x : State). FoundWith u r x session' stamp' i xs' c') es
    (subst (λ (x : ℕ). FoundWith u r state x stamp' i xs' c') en
    (subst (λ (x : List Write). FoundWith u r state session stamp' i x c') ex
    (subst (λ (x : Content). FoundWith u r state session stamp' i xs x) ec
    (record { held = with.held; has = with.has; needs = with.needs; found = found_below u r state session stamp stamp' i with.held le with.found }))))))

-- the content with the writes that are durable and none beside
pub durable_content : (n : Node) → n.base ≡ fold_writes n.base (drop n.safe (take n.safe n.log))
durable_content n = ap (λ (xs : List Write). fold_writes n.base xs) (sym (drop-take_none n.safe n.log))

-- all writes are durable
pub all_taken : (n : Node) → length n.log ≡ n.safe → n.log ≡ take n.safe n.log
all_taken n many = sym (take_all n.safe n.log (omega (arith, many)))

pub writes_found : {beside : KeptBeside} (n : Node) (core : Core) (i : Image) → core.units ≡ units_of n → core.log.ring ≡ n.ring → core.log.header.state ≡ state_with n beside.links → core.log.header.incarnation ≡ n.session
    → core.log.header.stamp ≤ most_header beside n → length n.log ≡ n.safe → FoundOf core i n.log n.base → HasWrites beside n i
writes_found {beside} n core i units ring state session stamp many found = record {
  count = n.safe;
  least = omega arith;
  most = omega (arith, many);
  found = found_same core.units (units_of n) core.log.ring n.ring core.log.header.state (state_with n beside.links) core.log.header.incarnation n.session core.log.header.stamp (most_header beside n)
      n.log (take n.safe n.log) n.base (fold_writes n.base (drop n.safe (take n.safe n.log))) i units ring state session stamp (all_taken n many) (durable_content n) found;
}

-- what the header keeps, where contents are told
pub kept_whole : {beside : KeptBeside} (n : Node) (c : Core) (m : Meaning) → IsUpAt beside n c m → IsTrue m.tells → c.log.header.state ≡ state_with n beside.links
kept_whole n c m up told = up.kept ∙ ap (state_with n) (up.linked told)

-- an image in a call on a running group that changes no content
pub up_found : {beside : KeptBeside} (n : Node) (c : Core) (m : Meaning) (i : Image) → IsUpAt beside n c m → n.halted ≡ None → IsTrue m.tells → FoundOf c i n.log n.base → HasWrites beside n i
up_found n c m i up running told found =
    writes_found n c i up.units up.ring (kept_whole n c m up told) up.session (let t = up.stamp told running in omega (arith, t)) (omega (arith, up.logged, up.durable running)) found

-- ---- the site behind a call

-- its log is the same as before
pub record SameLog (c c' : Core) : Type 0 where
  pub units : c'.units ≡ c.units
  pub ring : c'.log.ring ≡ c.log.ring
  pub header : c'.log.header ≡ c.log.header
  pub held : c'.log.held ≡ c.log.held

-- a site that is up after a call that leaves its log alone, maybe halted by it
pub up_with : {beside : KeptBeside} (n : Node) (c c' : Core) (m new : Meaning) (h : Option ℕ) (f : Fuse) (mine : Blocks) (P : Says) → Moves mine P m new → IsFalse new.down → FuseOn f new → IsUpAt beside n c m → SameLog c c' → c'.halted ≡ h
    → (h ≡ None → n.halted ≡ None) → (h ≡ None → IsTrue new.tells → StandsHolding c' n.log n.base new) → ((i : Image) → new.now i → HasSite beside n i) → IsUpAt beside (record n { halted = h; fuse = f }) c' new
up_with n c c' m new h f mine P moves still fuse up same halted running content left = record {
  state = up.state;
  up = still;
  fuse = fuse;
  lies = lies_moved n mine P m new moves up.lies;
  units = same.units ∙ up.units;
  ring = same.ring ∙ up.ring;
  low = up.low;
  found = up.found;
  kept = ap (λ (x : Header). x.state) same.header ∙ up.kept;
  linked = λ told. up.linked (sym moves.tells ∙ told);
  session = ap (λ (x : Header). x.incarnation) same.header ∙ up.session;
  begun = λ told. up.begun (sym moves.tells ∙ told);
  stamp = λ told none. let t = up.stamp (sym moves.tells ∙ told) (running none) in omega (arith, t, ap (λ (x : Header). x.stamp) same.header);
  fresh = λ origin told none first room. let f = up.fresh origin (sym moves.tells ∙ told) (running none) first room in
      record { place = ap (λ (x : Header). x.place) same.header ∙ f.place; widths_are = ap widths same.held ∙ f.widths_are };
  first = omega (arith, up.first, ap (λ (x : Header). x.low) same.header);
  head = omega (arith, up.head, ap (λ (x : Header). x.low) same.header, ap (λ (xs : List Kept). length xs) same.held);
  halted = halted;
  logged = up.logged;
  durable = λ none. up.durable (running none);
  takes = λ none. takes_same c.log c'.log n.log (ap (λ (x : Header). x.low) same.header) same.held (up.takes (running none));
  content = content;
  left = λ i now. site_map n (record n { halted = h; fuse = f }) i (λ has. record { count = has.count; least = has.least; most = has.most; found = has.found }) (left i now);
  sure = λ none. up.sure (running none);
  may = λ k is. may_same k m new moves.units moves.size moves.tells (up.may k is);
}

-- a site that is up, with a fuse of which less is known
pub up_worked : {beside : KeptBeside} (n : Node) (c : Core) (m : Meaning) → IsUpAt beside n c m → IsUpAt beside (worked n) c m
up_worked n c m up = record {
  state = up.state;
  up = up.up;
  fuse = fuse_burned n.fuse m up.fuse;
  lies = up.lies;
  units = up.units;
  ring = up.ring;
  low = up.low;
  found = up.found;
  kept = up.kept;
  linked = up.linked;
  session = up.session;
  begun = up.begun;
  stamp = up.stamp;
  fresh = up.fresh;
  first = up.first;
  head = up.head;
  halted = up.halted;
  logged = up.logged;
  durable = up.durable;
  takes = up.takes;
  content = up.content;
  left = λ i now. site_map n (worked n) i (λ has. record { count = has.count; least = has.least; most = has.most; found = has.found }) (up.left i now);
  sure = up.sure;
  may = up.may;
}

-- ---- whatever befell the disks of a site that was up

pub held_moved : {beside : KeptBeside} (n : Node) (c : Core) (m new : Meaning) (mine : Blocks) (P : Says) → Moves mine P m new → IsUpAt beside n c m → ((i : Image) → new.now i → HasSite beside n i) → IsHeldAt beside n new
held_moved n c m new mine P moves up left = record {
  lies = lies_moved n mine P m new moves up.lies;
  logged = up.logged;
  low = up.low;
  begun = λ told. up.begun (sym moves.tells ∙ told);
  left = left;
  may = λ k is. may_same k m new moves.units moves.size moves.tells (up.may k is);
}

-- one whose writes are all durable, by these alone
pub whole_held : {beside : KeptBeside} (n : Node) (m : Meaning) → length n.log ≤ n.safe → IsHeldAt beside n m → IsHeldAt beside (with_first n n.safe) m
whole_held {beside} n m whole held = subst (λ (ws : List Write). IsHeldAt beside (let k : Node = record n { log = ws } in k) m) (sym (take_all n.safe n.log whole)) held

pub held_up : {beside : KeptBeside} (n : Node) (c : Core) (m : Meaning) → IsUpAt beside n c m → IsHeldAt beside n m
held_up n c m up = record {
  lies = up.lies;
  logged = up.logged;
  low = up.low;
  begun = up.begun;
  left = up.left;
  may = up.may;
}
