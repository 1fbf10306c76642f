-- What a group holds and has staged, over the calls of a group commit.
use Rattle.std.proofs.Common.{◌≡◌, inl, inr, ℕ, zero, suc, ◌+◌, ◌<◌, ◌≤◌, List, [], ◌∷◌, ◌++◌, length, take, drop, Option, Some, None, refl, sym, ◌∙◌, ap, subst, arith, append-nil}
use Rattle.std.specs.Prelude.{All, MatchOption, unwrap_or}
use Rattle.std.proofs.lemmas.List.{append_assoc, drop-append-le}
use Rattle.std.proofs.lemmas.List.Elements.{All-nil, All-push, All-append}
use Rattle.std.proofs.lemmas.Nat.{div-add-mod'}
use Rattle.vx_model.specs.Content.{Content, Write, blocks_in, fold_writes, put}
use Rattle.vx_model.proofs.Contents.{fold_size}
use Rattle.vx_srlfmt.specs.declared.header.Header.{Header}
use Rattle.vx_disk.specs.Moves.{Beside, Moves, Run, Says}
use Rattle.vx_disk.specs.Shelf.{Image, Keeps, Meaning}
use Rattle.vx_disk.proofs.Moving.{kept_beside, wider}
use Rattle.vx_overlay.specs.declared.entry.Entry.{Entry}
use Rattle.vx_overlay.specs.Pending.{newest}
use Rattle.vx_overlay.specs.Writes.{IsWholeWrite, entries_at, entries_of, newest_of}
use Rattle.vx_overlay.proofs.Newest.{newest-append}
use Rattle.vx_overlay.proofs.WriteLemmas.{entries_append, fold_newest, neither, newest_entries}
use Rattle.vx_ringlog.specs.Cells as cells
use Rattle.vx_ringlog.specs.Chain.{Recovers}
use Rattle.vx_ringlog.specs.Logs.{Found, Seal, Stage, State, behind_call}
use Rattle.vx_ringlog.specs.Records.{Record}
use Rattle.vx_ringio.specs.Bodies.{IsBlocks}
use Rattle.vx_ringio.specs.Classes.{classes}
use Rattle.vx_srl.specs.Calls.{sealing, staging}
use Rattle.vx_srl.specs.Rings.{Finding, RingGoes, LeadsTo}
use Rattle.vx_srl.specs.Views.{record_next}
use Rattle.vx_rvg.specs.Commits.{Committing, HasStaged, with_sealed, with_staged}
use Rattle.vx_rvg.specs.Contents.{HasContent, HasSizes, KeepsContent, writes_of}
use Rattle.vx_rvg.specs.Holdings.{Holding, with_writes}
use Rattle.vx_rvg.specs.Marks.{with_blocks_of_maps}
use Rattle.vx_rvg.specs.Stands.{FoundAs, HasMaps, IsCovered, IsWholeRecord, Stands, StandsWith, entries_waiting}
use Rattle.vx_rvg.specs.Views.{Core, UnitsPlaced, applied_count, unit_of, volume_size}
use Rattle.vx_rvg.proofs.ContentFacts.{has_content_beside, has_maps_beside, held_length, maps_beside, maps_moved, recovers_low, volumes_beside}
use Rattle.vx_rvg.proofs.ReadStands.{whole_writes}
use Rattle.vx_rvg.proofs.WriteContent.{put_has, put_keeps, record_writes, writes_more}
use Rattle.vx_rvg.proofs.WriteStands.{entries_one, volume_size_is, write_at}

-- ---- lists of writes

pub entries_are : (size : ℕ → ℕ) (xs ys : List Write) → entries_waiting size xs ys ≡ entries_of size xs ++ entries_of size ys
entries_are size xs [] = sym (append-nil (entries_of size xs))
entries_are size xs (y ∷ ys) = refl

writes_join : (rs ss : List Record) → writes_of (rs ++ ss) ≡ writes_of rs ++ writes_of ss
writes_join [] ss = refl
writes_join (r ∷ rs) ss = ap (λ (ws : List Write). writes_of (r ∷ []) ++ ws) (writes_join rs ss)

writes_take : (k : ℕ) (rs : List Record) → writes_of (take k rs) ≡ take k (writes_of rs)
writes_take zero rs = refl
writes_take (suc k) [] = refl
writes_take (suc k) (r ∷ rs) = ap (λ (ws : List Write). writes_of (r ∷ []) ++ ws) (writes_take k rs)

join_one : (xs : List Write) (y : Write) (ys : List Write) → (xs ++ y ∷ []) ++ ys ≡ xs ++ y ∷ ys
join_one [] y ys = refl
join_one (x ∷ xs) y ys = ap (λ (ws : List Write). x ∷ ws) (join_one xs y ys)

-- several writes more over a content that an image has
folds_has : (vols : List ℕ) (c : Content) (ws xs : List Write) (i : Image) → HasContent vols c ws i → HasContent vols (fold_writes c xs) (ws ++ xs) i
folds_has vols c ws [] i has = subst (λ (l : List Write). HasContent vols c l i) (sym (append-nil ws)) has
folds_has vols c ws (x ∷ xs) i has =
    subst (λ (l : List Write). HasContent vols (fold_writes (put c x) xs) l i) (join_one ws x xs) (folds_has vols (put c x) (ws ++ x ∷ []) xs i (put_has vols c x ws i has))

folds_keep : (vols : List ℕ) (c : Content) (ws xs : List Write) (m : Meaning) → KeepsContent vols c ws m → KeepsContent vols (fold_writes c xs) (ws ++ xs) m
folds_keep vols c ws [] m keeps = subst (λ (l : List Write). KeepsContent vols c l m) (sym (append-nil ws)) keeps
folds_keep vols c ws (x ∷ xs) m keeps =
    subst (λ (l : List Write). KeepsContent vols (fold_writes (put c x) xs) l m) (join_one ws x xs)
    (folds_keep vols (put c x) (ws ++ x ∷ []) xs m (put_keeps vols c x ws m m (λ v b y low kept. kept) keeps))

same_sizes : (vols : List ℕ) (c d : Content) (m : Meaning) → d.size ≡ c.size → HasSizes vols c m → HasSizes vols d m
same_sizes vols c d m is sizes = record { each = λ v low. ap (λ (f : ℕ → ℕ). f v) is ∙ sizes.each v low; none = λ v high. ap (λ (f : ℕ → ℕ). f v) is ∙ sizes.none v high }

-- ---- what is held and what is staged, as one content

unwritten : (o : Option (List ℕ)) (P : List ℕ → Type 0) (x y : List ℕ) → o ≡ None → y ≡ unwrap_or o x → P x → P y
unwritten (Some bytes) P x y none is has = cc
unwritten None P x y none is has = subst P (sym is) has

module _ (xs : List Write) (core : Core) (h : Holding) (m : Meaning) (has : HasStaged xs core h m) (unit_is : core.log.unit ≡ core.units.srl) (i : Image) (k : ℕ)
    (recovers : Recovers core.log.ring (classes core.log.unit core.log.ring i) has.stands.log.header (has.stands.log.held ++ take k has.stands.log.staged))
    (held_has : HasContent core.units.vols h.content (writes_of has.stands.log.held) i) where
  first : writes_of (take k has.stands.log.staged) ≡ take k xs
  first = writes_take k has.stands.log.staged ∙ ap (λ (ws : List Write). take k ws) (ap (λ (rs : List Record). writes_of rs) has.stands.ready.idle ∙ has.are)

  -- an image with the log that stands, a first part of what is staged, and any maps
  pub part_having : (maps : List (List ℕ)) → HasMaps core.units maps i → FoundAs core i (with_writes (take k xs) (with_blocks_of_maps maps h))
  part_having maps has_maps =
      let header : has.stands.log.header ≡ core.log.header = has.stands.ready.ring.describes.header in
      record {
        header = has.stands.log.header;
        records = has.stands.log.held ++ take k has.stands.log.staged;
        recovers = subst (λ (u : ℕ). Recovers core.log.ring (classes u core.log.ring i) has.stands.log.header (has.stands.log.held ++ take k has.stands.log.staged)) unit_is recovers;
        state_is = ap (λ (g : Header). g.state) header;
        session_is = ap (λ (g : Header). g.incarnation) header;
        stamp_most = omega (arith, ap (λ (g : Header). g.stamp) header);
        some = omega (arith, recovers_low core.log.unit core.log.ring i has.stands.log.header (has.stands.log.held ++ take k has.stands.log.staged) recovers, ap (λ (g : Header). g.low) header, has.stands.low);
        low_is = ap (λ (g : Header). g.low) header ∙ has.stands.low;
        writes_are = writes_join has.stands.log.held (take k has.stands.log.staged) ∙ (ap (λ (ws : List Write). ws ++ writes_of (take k has.stands.log.staged)) has.stands.writes ∙ ap (λ (ws : List Write). h.writes ++ ws) first);
        place_is = ap (λ (g : Header). g.place) header ∙ has.stands.place;
        content = folds_has core.units.vols h.content h.writes (take k xs) i (subst (λ (ws : List Write). HasContent core.units.vols h.content ws i) has.stands.writes held_has);
        maps = has_maps;
      }

module _ (xs : List Write) (core : Core) (h : Holding) (m : Meaning) (has : HasStaged xs core h m) (few : applied_count core ≤ length core.log.held) where
  abbrev s : State
  s = has.stands.log

  abbrev c : Content
  c = h.content

  abbrev d : Content
  d = fold_writes h.content xs

  size_is : d.size ≡ c.size
  size_is = fold_size c xs

  staged_is : writes_of s.staged ≡ xs
  staged_is = ap (λ (rs : List Record). writes_of rs) has.stands.ready.idle ∙ has.are

  staged_whole : All IsWholeRecord s.staged
  staged_whole = subst (λ (rs : List Record). All IsWholeRecord rs) (sym has.stands.ready.idle) has.whole

  all_writes : writes_of (s.held ++ s.staged) ≡ writes_of s.held ++ xs
  all_writes = writes_join s.held s.staged ∙ ap (λ (ws : List Write). writes_of s.held ++ ws) staged_is

  waits : core.pending.entries ≡ entries_of c.size (writes_of (drop (applied_count core) s.held)) ++ entries_of c.size xs
  waits =
      has.stands.ready.waiting ∙ entries_are c.size (writes_of (drop (applied_count core) s.held)) (writes_of has.records)
      ∙ ap (λ (ws : List Write). entries_of c.size (writes_of (drop (applied_count core) s.held)) ++ entries_of c.size ws) has.are

  held_few : applied_count core ≤ length s.held
  held_few = omega (arith, few, held_length core.log s m has.stands.ready.ring)

  all_wait : core.pending.entries ≡ entries_of d.size (writes_of (drop (applied_count core) (s.held ++ s.staged)))
  all_wait =
      let n : ℕ = applied_count core in
      let rest : drop n (s.held ++ s.staged) ≡ drop n s.held ++ s.staged = drop-append-le n s.held s.staged held_few in
      let writes : writes_of (drop n (s.held ++ s.staged)) ≡ writes_of (drop n s.held) ++ xs
      = ap (λ (rs : List Record). writes_of rs) rest ∙ writes_join (drop n s.held) s.staged ∙ ap (λ (ws : List Write). writes_of (drop n s.held) ++ ws) staged_is in
      waits ∙ sym (entries_append c.size (writes_of (drop n s.held)) xs)
      ∙ ap (λ (ws : List Write). entries_of c.size ws) (sym writes)
      ∙ ap (λ (f : ℕ → ℕ). entries_of f (writes_of (drop n (s.held ++ s.staged)))) (sym size_is)

  settles : (v b : ℕ) → b < d.size v → newest core.pending.entries v b ≡ None → Keeps m (unit_of core.units.vols v) b (d.block v b)
  settles v b low none =
      let n : ℕ = applied_count core in
      let front : List Entry = entries_of c.size (writes_of (drop n s.held)) in
      let both : _ = neither (newest (entries_of c.size xs) v b) (newest front v b) (sym (newest-append front (entries_of c.size xs) v b) ∙ (sym (ap (λ (es : List Entry). newest es v b) waits) ∙ none)) in
      let whole : All IsWholeWrite xs = subst (λ (ws : List Write). All IsWholeWrite ws) has.are (whole_writes has.records has.whole) in
      let aside : newest_of c.size xs v b ≡ None = sym (newest_entries c.size xs v b whole) ∙ both.0 in
      let low_c : b < c.size v = subst (λ (k : ℕ). b < k) (ap (λ (f : ℕ → ℕ). f v) size_is) low in
      unwritten (newest_of c.size xs v b) (λ y. Keeps m (unit_of core.units.vols v) b y) (c.block v b) (d.block v b) aside (fold_newest c xs v b) (has.stands.ready.settled v b low_c none)

  -- the volumes have the content with all that is staged
  pub staged_covers : IsCovered core (fold_writes h.content xs) (has.stands.log.held ++ has.stands.log.staged) m
  staged_covers = record {
    whole = All-append IsWholeRecord s.held s.staged has.stands.ready.whole staged_whole;
    sizes = same_sizes core.units.vols c d m size_is has.stands.ready.sizes;
    content = subst (λ (ws : List Write). KeepsContent core.units.vols d ws m) (sym all_writes) (folds_keep core.units.vols c (writes_of s.held) xs m has.stands.ready.content);
    waiting = all_wait;
    settled = settles;
  }

  -- ---- what an image in a call has

  module _ (placed : UnitsPlaced core.units m) (unit_is : core.log.unit ≡ core.units.srl) (i : Image) (aside : Beside (Run core.log.unit 0 (core.log.ring + 2)) m.leaves i) (k : ℕ)
      (recovers : Recovers core.log.ring (classes core.log.unit core.log.ring i) s.header (s.held ++ take k s.staged)) where
    held_has : HasContent core.units.vols h.content (writes_of s.held) i
    held_has =
        has_content_beside (Run core.log.unit 0 (core.log.ring + 2)) core.units.vols h.content (writes_of s.held) m i
        (volumes_beside core h.content m placed unit_is has.stands.ready.sizes) has.stands.ready.content aside

    pub part_found : FoundAs core i (with_writes (take k xs) h)
    part_found =
        part_having xs core h m has unit_is i k recovers held_has h.maps
        (has_maps_beside (Run core.log.unit 0 (core.log.ring + 2)) core.units h.maps m i (maps_beside core m placed unit_is) has.stands.maps aside)

-- ---- a call

stage_part : (ring : ℕ) (s : State) (r : Record) (i : cells.RingImage) → Found ring s (Stage r) i → (k : ℕ) × Recovers ring i s.header (s.held ++ take k s.staged)
stage_part ring s r i (inl found) = found
stage_part ring s r i (inr none) = absurd none

pub seal_part : (ring : ℕ) (s : State) (i : cells.RingImage) → Found ring s Seal i → (k : ℕ) × Recovers ring i s.header (s.held ++ take k s.staged)
seal_part ring s i (inl found) = found
seal_part ring s i (inr none) = absurd none

module _ (core : Core) (m m' : Meaning) (placed : UnitsPlaced core.units m) (unit_is : core.log.unit ≡ core.units.srl) (few : applied_count core ≤ length core.log.held) where
  in_log : (u b : ℕ) → Run core.log.unit 0 (core.log.ring + 2) u b → Run core.units.srl 0 (core.log.ring + 2) u b
  in_log u b is = record { there = is.there ∙ unit_is; first = is.first; last = is.last }

  pub stage_moves : (r : Record) → RingGoes core.log (staging r) m m' → Moves (Run core.units.srl 0 (core.log.ring + 2)) (Committing core m) m m'
  stage_moves r goes =
      wider (Run core.log.unit 0 (core.log.ring + 2)) (Run core.units.srl 0 (core.log.ring + 2)) (Finding core.log (staging r) m) (Committing core m) m m' goes in_log
      (λ i aside finding. record {
        each = λ xs h has.
            let part : _ = stage_part core.log.ring has.stands.log r (classes core.log.unit core.log.ring i) (finding.each has.stands.log has.stands.ready.ring) in
            (part.0, part_found xs core h m has few placed unit_is i aside part.0 part.1);
      })

  pub seal_moves : RingGoes core.log sealing m m' → Moves (Run core.units.srl 0 (core.log.ring + 2)) (Committing core m) m m'
  seal_moves goes =
      wider (Run core.log.unit 0 (core.log.ring + 2)) (Run core.units.srl 0 (core.log.ring + 2)) (Finding core.log sealing m) (Committing core m) m m' goes in_log
      (λ i aside finding. record {
        each = λ xs h has.
            let part : _ = seal_part core.log.ring has.stands.log (classes core.log.unit core.log.ring i) (finding.each has.stands.log has.stands.ready.ring) in
            (part.0, part_found xs core h m has few placed unit_is i aside part.0 part.1);
      })

  module _ (P : Says) (moves : Moves (Run core.log.unit 0 (core.log.ring + 2)) P m m') (xs : List Write) (h : Holding) (has : HasStaged xs core h m) where
    kept : (c : Content) → HasSizes core.units.vols c m → (v b : ℕ) (y : List ℕ) → b < c.size v → Keeps m (unit_of core.units.vols v) b y → Keeps m' (unit_of core.units.vols v) b y
    kept c sizes v b y low keeps =
        kept_beside (Run core.log.unit 0 (core.log.ring + 2)) P m m' moves (unit_of core.units.vols v) b (volumes_beside core c m placed unit_is sizes v b low) y keeps

    kept_match : (c : Content) → HasSizes core.units.vols c m → (v b : ℕ) → b < c.size v → (o : Option (List ℕ)) → MatchOption o (Keeps m (unit_of core.units.vols v) b (c.block v b)) (λ bytes. bytes ≡ c.block v b)
        → MatchOption o (Keeps m' (unit_of core.units.vols v) b (c.block v b)) (λ bytes. bytes ≡ c.block v b)
    kept_match c sizes v b low (Some bytes) is = is
    kept_match c sizes v b low None keeps = kept c sizes v b (c.block v b) low keeps

    moved_sizes_of : (c : Content) → HasSizes core.units.vols c m → HasSizes core.units.vols c m'
    moved_sizes_of c sizes = record { each = λ v low. sizes.each v low ∙ sym (moves.size (unit_of core.units.vols v)); none = sizes.none }

    moved_content : (c : Content) (ws : List Write) → HasSizes core.units.vols c m → KeepsContent core.units.vols c ws m → KeepsContent core.units.vols c ws m'
    moved_content c ws sizes keeps = record { each = λ v b low. kept_match c sizes v b low (newest_of c.size ws v b) (keeps.each v b low) }

    -- with a write more staged
    pub stage_has : (vol start : ℕ) (bytes : List ℕ) → vol < length core.units.vols → IsBlocks bytes → start + blocks_in bytes ≤ volume_size core.units.vols m vol
        → LeadsTo core.log (staging (record_next core.log vol start bytes)) (with_staged core vol start bytes).log m m'
        → HasStaged (xs ++ record { volume = vol; start = start; bytes = bytes } ∷ []) (with_staged core vol start bytes) h m'
    stage_has vol start bytes exists blocks within leads =
        let x : Write = write_at vol start bytes in
        let r : Record = record_next core.log vol start bytes in
        let s : State = has.stands.log in
        let c : Content = h.content in
        let ready = has.stands.ready in
        let is = record_writes core.log vol start bytes blocks in
        let own_whole : IsWholeRecord r = ap (λ (w : Write). length w.bytes) is ∙ omega (arith, blocks.whole, div-add-mod' (length bytes) 512) in
        let inside : start + blocks_in bytes ≤ c.size vol = omega (arith, within, volume_size_is core.units.vols m vol exists, ready.sizes.each vol exists) in
        let more : writes_of (has.records ++ r ∷ []) ≡ xs ++ x ∷ [] = writes_more has.records r x is ∙ ap (λ (ws : List Write). ws ++ x ∷ []) has.are in
        let front : List Entry = entries_of c.size (writes_of (drop (applied_count core) s.held)) in
        let old_waits : core.pending.entries ≡ front ++ entries_of c.size xs = waits xs core h m has few in
        let own : List Entry = entries_at vol start (blocks_in bytes) bytes in
        record {
          records = has.records ++ r ∷ [];
          are = more;
          whole = All-push IsWholeRecord has.records r has.whole own_whole;
          stands = record {
            log = behind_call core.log.ring s (Stage r);
            low = has.stands.low;
            writes = has.stands.writes;
            place = has.stands.place;
            maps = maps_moved (Run core.log.unit 0 (core.log.ring + 2)) P core.units h.maps m m' moves (maps_beside core m placed unit_is) has.stands.maps;
            marks = has.stands.marks;
            ready = record {
              ring = leads.each s ready.ring;
              idle = ap (λ (rs : List Record). rs ++ r ∷ []) ready.idle;
              whole = ready.whole;
              sizes = moved_sizes_of c ready.sizes;
              content = moved_content c (writes_of s.held) ready.sizes ready.content;
              waiting =
                  ap (λ (es : List Entry). es ++ own) old_waits
                  ∙ append_assoc front (entries_of c.size xs) own
                  ∙ ap (λ (es : List Entry). front ++ (entries_of c.size xs ++ es)) (sym (entries_one c.size x inside))
                  ∙ ap (λ (es : List Entry). front ++ es) (sym (entries_append c.size xs (x ∷ [])))
                  ∙ ap (λ (ws : List Write). front ++ entries_of c.size ws) (sym more)
                  ∙ sym (entries_are c.size (writes_of (drop (applied_count core) s.held)) (writes_of (has.records ++ r ∷ [])));
              settled = λ v b low none.
                  let both : _ = neither (newest own v b) (newest core.pending.entries v b) (sym (newest-append core.pending.entries own v b) ∙ none) in
                  kept c ready.sizes v b (c.block v b) low (ready.settled v b low both.1);
            };
          };
        }

    -- with all that is staged in its log
    pub seal_stands : LeadsTo core.log sealing (with_sealed core).log m m' → Stands (with_sealed core) (with_writes xs h) m'
    seal_stands leads =
        let s : State = has.stands.log in
        let d : Content = fold_writes h.content xs in
        let covers = staged_covers xs core h m has few in
        record {
          log = behind_call core.log.ring s Seal;
          low = has.stands.low;
          writes = all_writes xs core h m has few ∙ ap (λ (ws : List Write). ws ++ xs) has.stands.writes;
          place = has.stands.place;
          maps = maps_moved (Run core.log.unit 0 (core.log.ring + 2)) P core.units h.maps m m' moves (maps_beside core m placed unit_is) has.stands.maps;
          marks = has.stands.marks;
          ready = record {
            ring = leads.each s has.stands.ready.ring;
            idle = refl;
            whole = covers.whole;
            sizes = moved_sizes_of d covers.sizes;
            content = moved_content d (writes_of (s.held ++ s.staged)) covers.sizes covers.content;
            waiting = covers.waiting;
            settled = λ v b low none. kept d covers.sizes v b (d.block v b) low (covers.settled v b low none);
          };
        }

-- ---- with nothing staged

pub none_staged : (core : Core) (h : Holding) (m : Meaning) → Stands core h m → HasStaged [] core h m
none_staged core h m stands = record { records = []; are = refl; whole = All-nil IsWholeRecord; stands = stands }

no_writes : (rs : List Record) → writes_of rs ≡ [] → rs ≡ []
no_writes [] is = refl
no_writes (r ∷ rs) is = cc

pub none_left : (core : Core) (h : Holding) (m : Meaning) → HasStaged [] core h m → Stands core h m
none_left core h m has = subst (λ (rs : List Record). StandsWith rs core h m) (no_writes has.records has.are) has.stands
