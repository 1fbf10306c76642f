-- The writes of a log are taken up, one after another.
use Rattle.std.proofs.Common.{◌≡◌, ℕ, zero, suc, ◌+◌, ◌-◌, ◌≤◌, Bool, List, [], ◌∷◌, ◌++◌, length, take, drop, Some, None, IsTrue, sym, ◌∙◌, ap, subst, arith, length-append}
use Rattle.std.specs.Prelude.{if◌then◌else◌, leb, slice_get, All}
use Rattle.std.proofs.lemmas.List.{map-append, take-append-drop}
use Rattle.std.proofs.lemmas.List.Elements.{All-nil, All-push}
use Rattle.std.proofs.lemmas.Option.{same_Some}
use Rattle.vx_model.specs.Content.{Write, blocks_in}
use Rattle.vx_model.specs.declared.call.Update.{Update}
use Rattle.vx_model.specs.declared.no.No.{No}
use Rattle.vx_model.specs.declared.no.No.TheVariants as no
use Rattle.vx_srlfmt.specs.declared.record.RecordHead.{RecordHead}
use Rattle.vx_disk.specs.Shelf.{Goes, Meaning, Nothing}
use Rattle.vx_disk.proofs.Runs.{same_Goes, then_nothing}
use Rattle.vx_overlay.specs.Pending.{Pending}
use Rattle.vx_overlay.specs.Writes.{entries_of, entries_at}
use Rattle.vx_overlay.specs.declared.entry.Entry.{Entry}
use Rattle.vx_overlay.proofs.WriteLemmas.{entries_append, entries_count}
use Rattle.vx_ringlog.specs.Logs.{State}
use Rattle.vx_ringlog.specs.Records.{Record, given, write_logged}
use Rattle.vx_ringio.proofs.Following.{rest_tracks}
use Rattle.vx_ringio.proofs.Seeing.{gave_before}
use Rattle.vx_srl.specs.Calls.{AgreesWithFront, FetchCause, Fetches, NamesBody, update_with}
use Rattle.vx_srl.specs.Rings.{RingOn}
use Rattle.vx_srl.specs.Views.{IsOrdered, Log, all_of, widths}
use Rattle.vx_srl.specs.declared.errors.SrlNo.{SrlNo}
use Rattle.vx_srl.specs.declared.errors.SrlNo.TheVariants.{NoRoom, Other, Overrun}
use Rattle.vx_srl.specs.declared.kept.Kept.{Kept}
use Rattle.vx_srl.proofs.Shared_S1.{Same, held_same, widths_append}
use Rattle.vx_rvg.specs.Contents.{write_of_update, writes_of}
use Rattle.vx_rvg.specs.Fills.{FillCause, IsFilledTo, NamesOne}
use Rattle.vx_rvg.specs.Groups.{no_of}
use Rattle.vx_rvg.specs.Stands.{IsWholeRecord}
use Rattle.vx_rvg.specs.Views.{blocks_within, volume_size}
use Rattle.vx_rvg.proofs.ApplyAll.{within_few}
use Rattle.vx_rvg.proofs.WriteLog.{cause_from}
use Rattle.vx_rvg.proofs.WriteSound.{SameSizes, volume_same, within_append}

-- ---- lists

pub none_is : {A : Type 0} → (x : A) → None ≡ Some x → ⊥
none_is x is = cc

take_more : {A : Type 0} → (xs : List A) (k : ℕ) (x : A) → slice_get xs k ≡ Some x → take (suc k) xs ≡ take k xs ++ x ∷ []
take_more [] k x is = absurd (none_is x is)
take_more (a ∷ xs) zero x is = ap (λ b. b ∷ []) (same_Some a x is)
take_more (a ∷ xs) (suc k) x is = ap (λ ys. a ∷ ys) (take_more xs k x is)

-- the header that is kept of a record
head_at : (rs : List Record) (ks : List Kept) (k : ℕ) (r : Record) (kept : Kept) → Same rs ks → slice_get rs k ≡ Some r → slice_get ks k ≡ Some kept → r.head ≡ kept.head
head_at [] ks k r kept same at there = absurd (none_is r at)
head_at (a ∷ rs) [] k r kept same at there = absurd same
head_at (a ∷ rs) (b ∷ ks) zero r kept same at there =
    ap (λ (x : Record). x.head) (sym (same_Some a r at)) ∙ same.0 ∙ ap (λ (x : Kept). x.head) (same_Some b kept there)
head_at (a ∷ rs) (b ∷ ks) (suc k) r kept same at there = head_at rs ks k r kept same.2 at there

-- ---- sums

take_widths : (k : ℕ) (ks : List Kept) → widths (take k ks) ≤ widths ks
take_widths k ks =
    let both : widths (take k ks ++ drop k ks) ≡ widths ks = ap (λ (l : List Kept). widths l) (take-append-drop k ks) in
    omega (arith, both, widths_append (take k ks) (drop k ks))

-- ---- a call that writes nothing

-- a log that stands on the shelf stands there behind it
pub ring_rests : (l : Log) (s : State) (old new : Meaning) → Goes Nothing old new → (IsTrue new.down → ⊥) → RingOn l s old → RingOn l s new
ring_rests l s old new goes up on = record { is_log = on.is_log; tracks = rest_tracks l.unit l.ring s.unit old new goes up on.tracks; describes = on.describes }

still_tells : (old new : Meaning) → Goes Nothing old new → IsTrue old.tells → IsTrue new.tells
still_tells old new goes tells = subst (λ (t : Bool). IsTrue t) (sym goes.tells) tells

-- ---- the loop

-- the first k records were read
pub record Filling (l : Log) (vols : List ℕ) (old now : Meaning) (k room : ℕ) (pending : Pending) : Type 0 where
  pub goes : Goes Nothing old now
  pub up : IsTrue now.down → ⊥
  pub capacity : pending.capacity ≡ room
  pub filled : IsFilledTo l (volume_size vols old) old k pending.entries

filled_none : (l : Log) (size : ℕ → ℕ) (m : Meaning) (k : ℕ) (entries : List Entry) → k ≡ 0 → entries ≡ [] → IsFilledTo l size m k entries
filled_none l size m k entries zero_is none = subst (λ (n : ℕ). IsFilledTo l size m n entries) (sym zero_is) (record {
  count = ap (λ (es : List Entry). length es) none;
  entries_are = λ s on tells. none;
  whole = λ s on tells. All-nil IsWholeRecord;
})

pub begun : (l : Log) (vols : List ℕ) (old : Meaning) (k room : ℕ) (pending : Pending) → (IsTrue old.down → ⊥) → pending.entries ≡ [] → pending.capacity ≡ room → k ≡ 0
    → Filling l vols old old k room pending
begun l vols old k room pending up none capacity zero_is = record { goes = same_Goes Nothing old; up = up; capacity = capacity; filled = filled_none l (volume_size vols old) old k pending.entries zero_is none }

-- the sizes that are looked at are the same
size_of_one : (one two : ℕ → ℕ) (x : Write) → two x.volume ≡ one x.volume → entries_of two (x ∷ []) ≡ entries_of one (x ∷ [])
size_of_one one two x same = ap (λ (n : ℕ). (if leb (x.start + blocks_in x.bytes) n then entries_at x.volume x.start (blocks_in x.bytes) x.bytes else []) ++ []) same

module _ (l : Log) (vols : List ℕ) (old mid new : Meaning) (k room : ℕ) (pending : Pending) (so : Filling l vols old mid k room pending) (n : ℕ) (at : n - l.header.low ≡ k) (update : Update)
    (agrees : AgreesWithFront l n update) where
  there : slice_get l.held k ≡ Some agrees.front.kept
  there = subst (λ (i : ℕ). slice_get l.held i ≡ Some agrees.front.kept) at agrees.front.there

  count_is : blocks_in update.bytes ≡ agrees.front.kept.head.count
  count_is = omega (arith, agrees.size, ap (λ (h : RecordHead). h.count) agrees.front.is)

  held_more : take (suc k) l.held ≡ take k l.held ++ agrees.front.kept ∷ []
  held_more = take_more l.held k agrees.front.kept there

  -- there is room for its blocks
  pub room_for : IsOrdered l.ring l.header (all_of l) → room ≡ l.ring → length pending.entries + blocks_in update.bytes ≤ pending.capacity
  room_for ordered ring =
      let size : ℕ → ℕ = volume_size vols old in
      let more : widths (take (suc k) l.held) ≡ widths (take k l.held ++ agrees.front.kept ∷ []) = ap (λ (ks : List Kept). widths ks) held_more in
      omega (
        arith,
        so.filled.count,
        within_few size (take k l.held),
        more,
        widths_append (take k l.held) (agrees.front.kept ∷ []),
        take_widths (suc k) l.held,
        widths_append l.held l.staged,
        ordered.fits,
        so.capacity,
        ring,
        count_is,
      )

  module _ (gives : Fetches l n mid update) (goes : Goes Nothing mid new) (up : IsTrue new.down → ⊥) (after : Pending)
      (added : after.entries ≡ pending.entries ++ entries_of (volume_size vols new) (write_of_update update ∷ [])) (same_room : after.capacity ≡ pending.capacity) where
    abbrev size : ℕ → ℕ
    size = volume_size vols old

    both : Goes Nothing old new
    both = then_nothing Nothing old mid new so.goes goes

    sizes : SameSizes old new
    sizes = record { units = both.units; size = both.size }

    abbrev own : List Entry
    own = entries_of (volume_size vols old) (write_of_update update ∷ [])

    added_here : after.entries ≡ pending.entries ++ own
    added_here = added ∙ ap (λ (es : List Entry). pending.entries ++ es) (size_of_one (volume_size vols old) (volume_size vols new) (write_of_update update) (volume_same vols old new sizes update.vol))

    own_count : length own ≡ blocks_within size (agrees.front.kept ∷ [])
    own_count =
        let vol : update.vol ≡ agrees.front.kept.head.vol = agrees.vol ∙ ap (λ (h : RecordHead). h.vol) agrees.front.is in
        let block : update.block ≡ agrees.front.kept.head.block = agrees.block ∙ ap (λ (h : RecordHead). h.block) agrees.front.is in
        entries_count size (write_of_update update ∷ [])
        ∙ ap (λ (c : ℕ). (if leb (update.block + c) (size update.vol) then c else 0) + 0) count_is
        ∙ ap (λ (b : ℕ). (if leb (b + agrees.front.kept.head.count) (size update.vol) then agrees.front.kept.head.count else 0) + 0) block
        ∙ ap (λ (v : ℕ). (if leb (agrees.front.kept.head.block + agrees.front.kept.head.count) (size v) then agrees.front.kept.head.count else 0) + 0) vol

    counted : length after.entries ≡ blocks_within size (take (suc k) l.held)
    counted =
        ap (λ (es : List Entry). length es) added_here ∙ length-append pending.entries own
        ∙ ap (λ (c : ℕ). c + length own) so.filled.count ∙ ap (λ (c : ℕ). blocks_within size (take k l.held) + c) own_count
        ∙ sym (within_append size (take k l.held) (agrees.front.kept ∷ [])) ∙ ap (λ (ks : List Kept). blocks_within size ks) (sym held_more)

    module _ (s : State) (on : RingOn l s old) (tells : IsTrue old.tells) where
      got : (r : Record) × (slice_get s.held (n - l.header.low) ≡ Some r) × (update ≡ update_with r)
      got = gives.each s (ring_rests l s old mid so.goes so.up on) (still_tells old mid so.goes tells)

      at_k : slice_get s.held k ≡ Some got.0
      at_k = subst (λ (i : ℕ). slice_get s.held i ≡ Some got.0) at got.1

      stands_more : take (suc k) s.held ≡ take k s.held ++ got.0 ∷ []
      stands_more = take_more s.held k got.0 at_k

      own_is : own ≡ entries_of size (write_logged got.0 ∷ [])
      own_is = ap (λ (u : Update). entries_of size (write_of_update u ∷ [])) got.2

      entries_more : after.entries ≡ entries_of size (writes_of (take (suc k) s.held))
      entries_more =
          added_here ∙ ap (λ (es : List Entry). es ++ own) (so.filled.entries_are s on tells) ∙ ap (λ (es : List Entry). entries_of size (writes_of (take k s.held)) ++ es) own_is
          ∙ sym (entries_append size (writes_of (take k s.held)) (write_logged got.0 ∷ [])) ∙ ap (λ (ws : List Write). entries_of size ws) (sym (map-append write_logged (take k s.held) (got.0 ∷ [])))
          ∙ ap (λ (rs : List Record). entries_of size (writes_of rs)) (sym stands_more)

      own_whole : IsWholeRecord got.0
      own_whole =
          let bytes : length update.bytes ≡ length (given got.0) = ap (λ (u : Update). length u.bytes) got.2 in
          let head : got.0.head ≡ agrees.front.kept.head = head_at s.held l.held k got.0 agrees.front.kept (held_same l s old on) at_k there in
          omega (arith, bytes, agrees.size, ap (λ (h : RecordHead). h.count) agrees.front.is, ap (λ (h : RecordHead). h.count) head)

      whole_more : All IsWholeRecord (take (suc k) s.held)
      whole_more = subst (λ (rs : List Record). All IsWholeRecord rs) (sym stands_more) (All-push IsWholeRecord (take k s.held) got.0 (so.filled.whole s on tells) own_whole)

    pub went_on : (k' : ℕ) → k' ≡ suc k → Filling l vols old new k' room after
    went_on k' next = subst (λ (i : ℕ). Filling l vols old new i room after) (sym next) (record {
      goes = both;
      up = up;
      capacity = same_room ∙ so.capacity;
      filled = record { count = counted; entries_are = entries_more; whole = whole_more };
    })

-- ---- what ends it

fetch_cause : (l : Log) (n : ℕ) (mid new : Meaning) (why : SrlNo) → FetchCause l mid new why → NamesBody l n mid why → FillCause l mid new (no_of why)
fetch_cause l n mid new (Other (no.Damaged unit block stored computed)) cause names =
    (cause.0, cause.1, record { place = n - l.header.low; kept = names.0; there = names.1; at = names.2; stored_is = names.3; body = names.4 }, cause.2)
fetch_cause l n mid new (Other why) cause names = cause
fetch_cause l n mid new (NoRoom need free) cause names = absurd cause
fetch_cause l n mid new (Overrun low) cause names = absurd cause

names_before : (l : Log) (block : ℕ) (stored computed : List ℕ) (old mid : Meaning) → Goes Nothing old mid → (IsTrue mid.down → ⊥) → NamesOne l block stored computed mid → NamesOne l block stored computed old
names_before l block stored computed old mid goes up names = record {
  place = names.place;
  kept = names.kept;
  there = names.there;
  at = names.at;
  stored_is = names.stored_is;
  body = λ tells.
      let sees = names.body (still_tells old mid goes tells) in
      record { body = sees.body; count = sees.count; gave = gave_before l.unit l.ring old mid (names.kept.place + 1) sees.body goes up sees.gave; computed_is = sees.computed_is };
}

cause_since : (l : Log) (old mid new : Meaning) → Goes Nothing old mid → (IsTrue mid.down → ⊥) → (why : No) → FillCause l mid new why → FillCause l old new why
cause_since l old mid new goes up (no.Damaged unit block stored computed) cause = (cause.0, cause.1, names_before l block stored computed old mid goes up cause.2, (λ s on tells. cause.3 s (ring_rests l s old mid goes up on) (still_tells old mid goes tells)))
cause_since l old mid new goes up (no.Device disk) cause = cause_from old mid new (no.Device disk) goes.disk_faults cause
cause_since l old mid new goes up no.Down cause = cause
cause_since l old mid new goes up other cause = absurd cause

pub filling_stops : (l : Log) (vols : List ℕ) (old mid new : Meaning) (k room : ℕ) (pending : Pending) → Filling l vols old mid k room pending → (n : ℕ) (why : SrlNo) → FetchCause l mid new why
    → NamesBody l n mid why → FillCause l old new (no_of why)
filling_stops l vols old mid new k room pending so n why cause names = cause_since l old mid new so.goes so.up (no_of why) (fetch_cause l n mid new why cause names)
