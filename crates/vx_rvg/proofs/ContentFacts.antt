-- What a group that stands leaves in each image, where its log begins and ends, and what it holds.
use Rattle.std.proofs.Common.{◌≡◌, inl, inr, ⊎_elim, ℕ, zero, suc, ◌+◌, ◌-◌, ◌<◌, Bool, true, false, List, [], ◌∷◌, ◌++◌, length, take, drop, Option, Some, None, MatchOption, refl, sym, ◌∙◌, ap, subst, arith, append-nil}
use Rattle.std.specs.Prelude.{if◌then◌else◌}
use Rattle.std.proofs.lemmas.Bool.{cases_lt}
use Rattle.std.proofs.lemmas.Bool.Decides.{nat_tests}
use Rattle.vx_model.specs.Content.{Content, Write}
use Rattle.vx_model.specs.declared.units.Units.{Units}
use Rattle.vx_srlfmt.specs.Kinds.{Kind, Top, Front, Body, Damaged, Other, kind_of}
use Rattle.vx_srlfmt.specs.declared.header.Header.{Header}
use Rattle.vx_srlfmt.specs.declared.record.RecordHead.{RecordHead}
use Rattle.vx_disk.specs.Shelf.{Meaning, Image, Each, Lawful, Keeps}
use Rattle.vx_disk.specs.Moves.{Blocks, Beside, Moves, Run, Says}
use Rattle.vx_disk.proofs.Moving.{kept_beside, left_beside}
use Rattle.vx_overlay.specs.Writes.{newest_of}
use Rattle.vx_ringlog.specs.Cells as cells
use Rattle.vx_ringlog.specs.Chain.{IsGreaterTop, Recovers}
use Rattle.vx_ringlog.specs.Logs.{State, Seal, Found as LogFound}
use Rattle.vx_ringlog.specs.Records.{Record}
use Rattle.vx_ringlog.proofs.Calls.{call_safe}
use Rattle.vx_ringio.specs.Classes.{class_of, classes, is_of_ring, narrowed}
use Rattle.vx_ringio.proofs.Following.{now_left, class_here}
use Rattle.vx_srl.specs.Rings.{RingOn, heads_of, kept_heads}
use Rattle.vx_srl.specs.Views.{Log, head_number}
use Rattle.vx_srl.specs.declared.kept.Kept.{Kept}
use Rattle.vx_rvg.specs.Contents.{writes_of, KeepsContent, HasContent, HasSizes}
use Rattle.vx_rvg.specs.Holdings.{Holding, kept_in, with_content}
use Rattle.vx_rvg.specs.Stands.{FoundAs, HasMaps, KeepsMaps, Stands}
use Rattle.vx_rvg.specs.Views.{Core, UnitsPlaced, unit_of, last_of}

-- ---- what an image has

keeps_option : (m : Meaning) (i : Image) (u b : ℕ) (bytes : List ℕ) (o : Option (List ℕ)) → m.leaves u b (i u b)
    → MatchOption o (Keeps m u b bytes) (λ new. new ≡ bytes) → MatchOption o (i u b ≡ bytes) (λ new. new ≡ bytes)
keeps_option m i u b bytes (Some new) left is = is
keeps_option m i u b bytes None left keeps = keeps.only (i u b) left

-- the volumes of an image, where each block that the list names is one that a crash may leave
pub has_content_at : (vols : List ℕ) (c : Content) (xs : List Write) (m : Meaning) (i : Image) → KeepsContent vols c xs m
    → ((v b : ℕ) → b < c.size v → m.leaves (unit_of vols v) b (i (unit_of vols v) b)) → HasContent vols c xs i
has_content_at vols c xs m i keeps left = record {
  each = λ v b low. keeps_option m i (unit_of vols v) b (c.block v b) (newest_of c.size xs v b) (left v b low) (keeps.each v b low);
}

pub has_content : (vols : List ℕ) (c : Content) (xs : List Write) (m : Meaning) (i : Image) → KeepsContent vols c xs m → Each m.leaves i → HasContent vols c xs i
has_content vols c xs m i keeps each = has_content_at vols c xs m i keeps (λ v b low. each (unit_of vols v) b)

-- the same in a call that changes none of their blocks
pub has_content_beside : (mine : Blocks) (vols : List ℕ) (c : Content) (xs : List Write) (m : Meaning) (i : Image)
    → ((v b : ℕ) → b < c.size v → mine (unit_of vols v) b → ⊥) → KeepsContent vols c xs m → Beside mine m.leaves i → HasContent vols c xs i
has_content_beside mine vols c xs m i apart keeps beside =
    has_content_at vols c xs m i keeps (λ v b low. left_beside mine m (unit_of vols v) b (apart v b low) i beside)

-- ---- the header that counts has a first number

kept_top : (t : Bool) (h g : Header) → (if t then Top h else Other) ≡ Top g → t ≡ true
kept_top true h g is = refl
kept_top false h g is = cc

same_top : (t : Bool) (h g : Header) → (if t then Top h else Other) ≡ Top g → h ≡ g
same_top true h g is = cc
same_top false h g is = cc

narrowed_of : (ring : ℕ) (k : Kind) (g : Header) → narrowed ring k ≡ Top g → is_of_ring ring g ≡ true
narrowed_of ring (Top h) g is = subst (λ (x : Header). is_of_ring ring x ≡ true) (same_top (is_of_ring ring h) h g is) (kept_top (is_of_ring ring h) h g is)
narrowed_of ring (Front q) g is = cc
narrowed_of ring (Body bytes) g is = cc
narrowed_of ring Damaged g is = cc
narrowed_of ring Other g is = cc

class_of_ring : (ring : ℕ) (b : List ℕ) (g : Header) → class_of ring b ≡ Top g → is_of_ring ring g ≡ true
unfolding class_of
class_of_ring ring b g is = narrowed_of ring (kind_of b) g is

of_ring_low : (ring : ℕ) (h : Header) → is_of_ring ring h ≡ true → 0 < h.low
of_ring_low ring h is = grind (arith, nat_tests)

top_low : (unit ring : ℕ) (i : Image) (b : ℕ) (h : Header) → b < 2 → classes unit ring i b ≡ Top h → 0 < h.low
top_low unit ring i b h small is = of_ring_low ring h (class_of_ring ring (i unit b) h (sym (class_here unit ring i b (omega (arith, small))) ∙ is))

pub counts_low : (unit ring : ℕ) (i : Image) (h : Header) → IsGreaterTop (classes unit ring i) h → 0 < h.low
counts_low unit ring i h (inl first) = top_low unit ring i 0 h (omega arith) first.0
counts_low unit ring i h (inr second) = top_low unit ring i 1 h (omega arith) second.0

pub recovers_low : (unit ring : ℕ) (i : Image) (h : Header) (rs : List Record) → Recovers ring (classes unit ring i) h rs → 0 < h.low
recovers_low unit ring i h rs recovers = counts_low unit ring i h recovers.starts.counts

-- ---- as many records as are kept

head_is : (a b : RecordHead) (xs ys : List RecordHead) → a ∷ xs ≡ b ∷ ys → xs ≡ ys
head_is a b xs ys is = cc

pub heads_length : (rs : List Record) (ks : List Kept) → heads_of rs ≡ kept_heads ks → length rs ≡ length ks
heads_length [] [] is = refl
heads_length [] (k ∷ ks) is = cc
heads_length (r ∷ rs) [] is = cc
heads_length (r ∷ rs) (k ∷ ks) is = ap suc (heads_length rs ks (head_is r.head k.head (heads_of rs) (kept_heads ks) is))

pub held_length : (l : Log) (s : State) (m : Meaning) → RingOn l s m → length s.held ≡ length l.held
held_length l s m on = heads_length s.held l.held on.describes.held

-- the number behind the last one
pub head_is_last : (l : Log) → 0 < l.header.low → l.header.low + length l.held ≡ head_number l + 1
head_is_last l some = omega (arith, some)

-- ---- what a crash leaves between calls

pub no_more : (rs ss : List Record) (k : ℕ) → ss ≡ [] → rs ++ take k ss ≡ rs
no_more rs ss k none = ap (λ (l : List Record). rs ++ take k l) none ∙ ap (λ (l : List Record). rs ++ l) (take_none k) ∙ append-nil rs
  where
    take_none : (k : ℕ) → take {A = Record} k [] ≡ []
    take_none zero = refl
    take_none (suc k) = refl

pub found_held : (ring : ℕ) (s : State) (i : cells.RingImage) → s.staged ≡ [] → LogFound ring s Seal i → Recovers ring i s.header s.held
found_held ring s i idle (inl found) = subst (λ (l : List Record). Recovers ring i s.header l) (no_more s.held s.staged found.0 idle) found.1
found_held ring s i idle (inr none) = absurd none

-- the log that stands, in an image of which each block is one that a crash may leave
pub ring_left : (l : Log) (s : State) (m : Meaning) (i : Image) → RingOn l s m → s.staged ≡ [] → Each m.leaves i → Recovers l.ring (classes l.unit l.ring i) s.header s.held
ring_left l s m i on idle each =
    found_held l.ring s (classes l.unit l.ring i) idle
    ((call_safe l.ring s Seal on.is_log tt).0.0 (classes l.unit l.ring i) (now_left l.unit l.ring s.unit m i on.tracks each))

-- ---- the maps

-- an image has the maps, where each block of them is one that a crash may leave
pub has_maps : (units : Units) (maps : List (List ℕ)) (m : Meaning) (i : Image) → KeepsMaps units maps m → ((b : ℕ) → m.leaves units.maps b (i units.maps b)) → HasMaps units maps i
has_maps units maps m i keeps left = record { each = λ b bytes there. (keeps.each b bytes there).only (i units.maps b) (left b) }

-- the same in a call that changes none of them
pub has_maps_beside : (mine : Blocks) (units : Units) (maps : List (List ℕ)) (m : Meaning) (i : Image) → ((b : ℕ) → mine units.maps b → ⊥) → KeepsMaps units maps m → Beside mine m.leaves i → HasMaps units maps i
has_maps_beside mine units maps m i apart keeps beside = has_maps units maps m i keeps (λ b. left_beside mine m units.maps b (apart b) i beside)

-- and behind it
pub maps_moved : (mine : Blocks) (P : Says) (units : Units) (maps : List (List ℕ)) (m m' : Meaning) → Moves mine P m m' → ((b : ℕ) → mine units.maps b → ⊥) → KeepsMaps units maps m → KeepsMaps units maps m'
maps_moved mine P units maps m m' moves apart keeps = record {
  size = (let least = keeps.size in let same = moves.size units.maps in omega (arith, least, same));
  each = λ b bytes there. kept_beside mine P m m' moves units.maps b (apart b) bytes (keeps.each b bytes there);
}

-- they lie beside the log
pub maps_beside : (core : Core) (m : Meaning) → UnitsPlaced core.units m → core.log.unit ≡ core.units.srl → (b : ℕ) → Run core.log.unit 0 (core.log.ring + 2) core.units.maps b → ⊥
maps_beside core m placed unit_is b run = placed.maps_apart (run.there ∙ unit_is)

-- ---- what a group holds

pub writes_count : (rs : List Record) → length (writes_of rs) ≡ length rs
writes_count [] = refl
writes_count (r ∷ rs) = ap suc (writes_count rs)

-- as many writes as its log has records
pub stands_count : (core : Core) (h : Holding) (m : Meaning) → Stands core h m → length h.writes ≡ length core.log.held
stands_count core h m stands = ap (λ (xs : List Write). length xs) (sym stands.writes) ∙ writes_count stands.log.held ∙ held_length core.log stands.log m stands.ready.ring

-- the number behind its last write
pub stands_last : (core : Core) (h : Holding) (m : Meaning) → Stands core h m → 0 < core.log.header.low → h.low + length h.writes ≡ last_of core + 1
stands_last core h m stands some = omega (arith, some, stands.low, stands_count core h m stands)

holding_is : (h : Holding) (low place : ℕ) (writes : List Write) → low ≡ h.low → place ≡ h.place → writes ≡ h.writes
    → record { low = low; writes = writes; place = place; content = h.content; maps = h.maps } ≡ h
holding_is h low place writes one begins two = λ i. record { low = one i; writes = two i; place = begins i; content = h.content; maps = h.maps }

none_gone : (n k : ℕ) (xs : List Write) → n ≡ k → drop (n - k) xs ≡ xs
none_gone n k xs is = let none : n - k ≡ 0 = omega (arith, is) in ap (λ (j : ℕ). drop j xs) none

-- a log that gave up nothing has all
pub kept_all : (core : Core) (h : Holding) (m : Meaning) → Stands core h m → kept_in core h ≡ h
kept_all core h m stands = holding_is h core.log.header.low core.log.header.place (drop (length h.writes - length core.log.held) h.writes) stands.low stands.place (none_gone (length h.writes) (length core.log.held) h.writes (stands_count core h m stands))

module _ (core : Core) (h : Holding) (m : Meaning) (i : Image) (unit_is : core.log.unit ≡ core.units.srl) (stands : Stands core h m) where
  -- an image with the log that stands, and any content and maps
  pub found_having : Recovers core.log.ring (classes core.log.unit core.log.ring i) stands.log.header stands.log.held
      → (d : Content) (maps : List (List ℕ)) → HasContent core.units.vols d (writes_of stands.log.held) i → HasMaps core.units maps i
      → FoundAs core i (record { low = h.low; writes = h.writes; place = h.place; content = d; maps = maps })
  found_having recovers d maps content has = record {
    header = stands.log.header;
    records = stands.log.held;
    recovers = subst (λ (u : ℕ). Recovers core.log.ring (classes u core.log.ring i) stands.log.header stands.log.held) unit_is recovers;
    state_is = ap (λ (g : Header). g.state) stands.ready.ring.describes.header;
    session_is = ap (λ (g : Header). g.incarnation) stands.ready.ring.describes.header;
    stamp_most = omega (arith, ap (λ (g : Header). g.stamp) stands.ready.ring.describes.header);
    some = omega (arith, recovers_low core.log.unit core.log.ring i stands.log.header stands.log.held recovers, ap (λ (g : Header). g.low) stands.ready.ring.describes.header, stands.low);
    low_is = ap (λ (g : Header). g.low) stands.ready.ring.describes.header ∙ stands.low;
    writes_are = stands.writes;
    place_is = ap (λ (g : Header). g.place) stands.ready.ring.describes.header ∙ stands.place;
    content = subst (λ (xs : List Write). HasContent core.units.vols d xs i) stands.writes content;
    maps = has;
  }

  -- the same with its maps
  pub found_with : Recovers core.log.ring (classes core.log.unit core.log.ring i) stands.log.header stands.log.held
      → (d : Content) → HasContent core.units.vols d (writes_of stands.log.held) i → HasMaps core.units h.maps i → FoundAs core i (with_content d h)
  found_with recovers d content has = found_having recovers d h.maps content has

  -- an image with the log that stands, its content and its maps
  pub found_as : Recovers core.log.ring (classes core.log.unit core.log.ring i) stands.log.header stands.log.held
      → HasContent core.units.vols h.content (writes_of stands.log.held) i → HasMaps core.units h.maps i → FoundAs core i h
  found_as recovers content maps = found_with recovers h.content content maps

  pub left_found : Each m.leaves i → FoundAs core i h
  left_found each =
      found_as (ring_left core.log stands.log m i stands.ready.ring stands.ready.idle each)
      (has_content core.units.vols h.content (writes_of stands.log.held) m i stands.ready.content each) (has_maps core.units h.maps m i stands.maps (λ b. each core.units.maps b))

-- a group that stands has what it holds in each image that a crash now leaves
pub stands_found : (core : Core) (h : Holding) (m : Meaning) (i : Image) → core.log.unit ≡ core.units.srl → Lawful m → Stands core h m → m.now i → FoundAs core i h
stands_found core h m i unit_is lawful stands now = left_found core h m i unit_is stands (lawful.within i now)

-- ---- the volumes lie beside the log

pub volume_there : (vols : List ℕ) (c : Content) (m : Meaning) (v b : ℕ) → HasSizes vols c m → b < c.size v → v < length vols
volume_there vols c m v b sizes low = ⊎_elim (λ is. is) (λ high. absurd (omega (arith, low, sizes.none v high))) (cases_lt v (length vols))

pub volumes_beside : (core : Core) (c : Content) (m : Meaning) → UnitsPlaced core.units m → core.log.unit ≡ core.units.srl → HasSizes core.units.vols c m
    → (v b : ℕ) → b < c.size v → Run core.log.unit 0 (core.log.ring + 2) (unit_of core.units.vols v) b → ⊥
volumes_beside core c m placed unit_is sizes v b low run = placed.apart v (volume_there core.units.vols c m v b sizes low) (run.there ∙ unit_is)
