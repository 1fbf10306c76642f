-- What a write leaves of a site that is up.
use Rattle.std.proofs.Common.{◌≡◌, ◌∙◌, inl, ◌+◌, ◌<◌, ◌≤◌, ℕ, suc, List, [], ◌∷◌, ◌++◌, length, take, drop, ap, sym, subst, refl, arith, IsTrue, true, length-append}
use Rattle.std.specs.Prelude.{IsFalse, Some, None}
use Rattle.std.proofs.lemmas.List.{take-append-le, take_all}
use Rattle.vx_model.specs.Content.{Write, put, fold_writes}
use Rattle.vx_model.specs.Sites.{is_origin}
use Rattle.vx_history.specs.Events.{logged_blocks}
use Rattle.vx_history.specs.World.{Node}
use Rattle.vx_history.specs.Steps.{logged, half_begun, burned, write_calls}
use Rattle.vx_model.specs.declared.state.KeptLink.{KeptLink}
use Rattle.vx_diskset.specs.Holds.{KeptBeside}
use Rattle.vx_srlfmt.specs.declared.header.Header.{Header}
use Rattle.vx_disk.specs.Shelf.{Meaning, Image, Lawful}
use Rattle.vx_rvg.specs.Views.{Core, last_of}
use Rattle.vx_diskset.specs.DiskSets.{halted_with, halted_at}
use Rattle.vx_diskset.specs.Holds.{HasWrites, state_with}
use Rattle.vx_diskset.specs.Layouts.{LiesOn, units_of}
use Rattle.vx_diskset.specs.Holds.{most_header, most_with}
use Rattle.vx_diskset.specs.Lasts.{FoundWith, StandsHolding}
use Rattle.vx_diskset.specs.Needs.{TakesAs}
use Rattle.vx_diskset.specs.Rooms.{IsRoomy}
use Rattle.vx_diskset.specs.Fuses.{IsFirstLog}
use Rattle.vx_diskset.specs.Fuses.{FuseOn}
use Rattle.vx_diskset.specs.Stands.{IsUpAt}
use Rattle.vx_diskset.proofs.BesideLemmas.{never_besides, site_map}
use Rattle.vx_diskset.proofs.LastWrites.{FoundOf, stands_with}
use Rattle.vx_diskset.proofs.StaysUp.{told_now, found_same, writes_found, fuse_spent, SameLog}

last_pushed : (xs : List Write) (x : Write) → drop (length xs) (take (suc (length xs)) (xs ++ x ∷ [])) ≡ x ∷ []
last_pushed [] x = refl
last_pushed (y ∷ xs) x = last_pushed xs x

-- one more write behind durable ones
content_pushed : (n : Node) (x : Write) → length n.log ≡ n.safe → put n.base x ≡ fold_writes n.base (drop n.safe (take (n.safe + 1) (n.log ++ x ∷ [])))
content_pushed n x many =
    let more : suc n.safe ≡ n.safe + 1 = omega arith in
    ap (λ (ws : List Write). fold_writes n.base ws)
    (sym (subst (λ (k : ℕ). drop k (take (suc k) (n.log ++ x ∷ [])) ≡ x ∷ []) many (last_pushed n.log x))
    ∙ ap (λ (k : ℕ). drop n.safe (take k (n.log ++ x ∷ []))) more)

-- an image with the site's writes, where one more was begun
pub has_begun : {beside : KeptBeside} (n : Node) (x : Write) (i : Image) → HasWrites beside n i → HasWrites beside (half_begun n x) i
has_begun {beside} n x i has = record {
  count = has.count;
  least = has.least;
  most = omega (arith, has.most, length-append n.log (x ∷ []));
  found = subst (λ (ws : List Write). FoundWith (units_of n) n.ring (state_with n beside.links) n.session (most_with beside n has.count) i ws (fold_writes n.base (drop n.safe ws)))
      (sym (take-append-le has.count n.log (x ∷ []) has.most)) has.found;
}

-- the same of one that a disk halted
pub half_begins : {beside : KeptBeside} (n : Node) (x : Write) (disk : ℕ) (i : Image) → HasWrites beside (halted_with n x disk) i → HasWrites beside (half_begun n x) i
half_begins n x disk i has = record { count = has.count; least = has.least; most = has.most; found = has.found }

-- an image with the site's writes, where one more may stand or not
pub has_half : {beside : KeptBeside} (n : Node) (x : Write) (disk : ℕ) (i : Image) → HasWrites beside n i → HasWrites beside (halted_with n x disk) i
has_half {beside} n x disk i has = record {
  count = has.count;
  least = has.least;
  most = omega (arith, has.most, length-append n.log (x ∷ []));
  found = subst (λ (ws : List Write). FoundWith (units_of n) n.ring (state_with n beside.links) n.session (most_with beside n has.count) i ws (fold_writes n.base (drop n.safe ws)))
      (sym (take-append-le has.count n.log (x ∷ []) has.most)) has.found;
}

-- what the header of a log keeps, where contents are told
pub roomy_kept : {beside : KeptBeside} (n : Node) (c : Core) (m : Meaning) → IsRoomy beside n c m → IsTrue m.tells → c.log.header.state ≡ state_with n beside.links
roomy_kept n c m roomy told = roomy.kept ∙ ap (λ (ls : List KeptLink). state_with n ls) (roomy.linked told)

-- an image in a write that has it
pub has_whole : {beside : KeptBeside} (n : Node) (c : Core) (m : Meaning) (x : Write) (disk : ℕ) (i : Image) → IsRoomy beside n c m → IsTrue m.tells → length n.log ≡ n.safe → FoundOf c i (n.log ++ x ∷ []) (put n.base x) → HasWrites beside (halted_with n x disk) i
has_whole {beside} n c m x disk i roomy told many found = record {
  count = n.safe + 1;
  least = omega arith;
  most = omega (arith, many, length-append n.log (x ∷ []));
  found = found_same c.units (units_of n) c.log.ring n.ring c.log.header.state (state_with n beside.links) c.log.header.incarnation n.session c.log.header.stamp (most_with beside n (n.safe + 1))
      (n.log ++ x ∷ []) (take (n.safe + 1) (n.log ++ x ∷ [])) (put n.base x) (fold_writes n.base (drop n.safe (take (n.safe + 1) (n.log ++ x ∷ [])))) i
      roomy.units roomy.ring (roomy_kept n c m roomy told) roomy.session (let t = roomy.stamp told in omega (arith, t)) (sym (take_all (n.safe + 1) (n.log ++ x ∷ []) (omega (arith, many, length-append n.log (x ∷ []))))) (content_pushed n x many) found;
}

-- or that does not
pub has_safe : {beside : KeptBeside} (n : Node) (c : Core) (m : Meaning) (i : Image) → IsRoomy beside n c m → IsTrue m.tells → length n.log ≡ n.safe → FoundOf c i n.log n.base → HasWrites beside n i
has_safe n c m i roomy told many found = writes_found n c i roomy.units roomy.ring (roomy_kept n c m roomy told) roomy.session (roomy.stamp told) many found

never_none : {k : ℕ} → Some k ≡ None → ⊥
never_none e = cc

-- a site that a disk halted in a write
module _ (n : Node) (x : Write) (disk : ℕ) where
  -- before anything of the write was logged
  pub half_of : {beside : KeptBeside} (c : Core) (m : Meaning) → IsUpAt beside (halted_at n disk) c m → IsUpAt beside (halted_with n x disk) c m
  half_of c m up = record {
    state = up.state;
    up = up.up;
    lies = up.lies;
    fuse = up.fuse;
    units = up.units;
    ring = up.ring;
    low = up.low;
    found = up.found;
    kept = up.kept;
    linked = up.linked;
    session = up.session;
    begun = up.begun;
    stamp = λ told none. absurd (never_none none);
    fresh = λ origin told none. absurd (never_none none);
    first = up.first;
    head = up.head;
    halted = up.halted;
    logged = omega (arith, up.logged, length-append n.log (x ∷ []));
    durable = λ none. absurd (never_none none);
    takes = λ none. absurd (never_none none);
    content = λ none. absurd (never_none none);
    left = λ i now. site_map (halted_at n disk) (halted_with n x disk) i (λ has. has_half n x disk i (record { count = has.count; least = has.least; most = has.most; found = has.found })) (up.left i now);
    sure = λ none. absurd (never_none none);
    may = up.may;
  }

  -- while it was logged
  pub up_half : {beside : KeptBeside} (c0 c c' : Core) (m0 m new : Meaning) → IsUpAt beside n c0 m0 → IsRoomy beside n c m → new.tells ≡ m.tells → IsFalse new.down → LiesOn n new → FuseOn (burned n.fuse) new → (IsTrue new.tells → 0 < n.session) → SameLog c c' → c'.halted ≡ Some disk → beside.doubt ≡ None
      → ((i : Image) → new.now i → HasWrites beside (halted_with n x disk) i) → IsUpAt beside (halted_with n x disk) c' new
  up_half {beside} c0 c c' m0 m new up roomy tells still lies fuse begun same halted sure left = record {
    state = up.state;
    up = still;
    lies = lies;
    fuse = fuse;
    units = same.units ∙ roomy.units;
    ring = same.ring ∙ roomy.ring;
    low = up.low;
    found = roomy.found;
    kept = ap (λ (h : Header). h.state) same.header ∙ roomy.kept;
    linked = λ told. roomy.linked (sym tells ∙ told);
    session = ap (λ (h : Header). h.incarnation) same.header ∙ roomy.session;
    begun = begun;
    stamp = λ told none. absurd (never_none none);
    fresh = λ origin told none. absurd (never_none none);
    first = omega (arith, roomy.first, ap (λ (h : Header). h.low) same.header);
    head = omega (arith, roomy.head, ap (λ (h : Header). h.low) same.header, ap (λ ks. length ks) same.held);
    halted = halted;
    logged = omega (arith, up.logged, length-append n.log (x ∷ []));
    durable = λ none. absurd (never_none none);
    takes = λ none. absurd (never_none none);
    content = λ none. absurd (never_none none);
    left = λ i now. inl (left i now);
    sure = λ none. absurd (never_none none);
    may = never_besides beside.doubt new sure;
  }

-- a site with one more write
pub up_logged : {beside : KeptBeside} (n : Node) (x : Write) (c0 c c' : Core) (m0 m new : Meaning) → IsUpAt beside n c0 m0 → n.halted ≡ None → IsRoomy beside n c m → Lawful new → c'.log.unit ≡ c'.units.srl → new.tells ≡ m.tells
    → IsFalse new.down → LiesOn n new → FuseOn (burned n.fuse) new → (IsTrue new.tells → 0 < n.session) → (is_origin n.role ≡ true → IsTrue new.tells → n.session ≡ 1 → logged_blocks (n.log ++ x ∷ []) ≤ n.ring → IsFirstLog c'.log (n.log ++ x ∷ [])) → TakesAs c'.log (n.log ++ x ∷ []) → c'.units ≡ c.units → c'.log.ring ≡ c.log.ring → c'.log.header ≡ c.log.header → c'.halted ≡ c.halted → last_of c' ≡ last_of c + 1
    → (IsTrue new.tells → StandsHolding c' (n.log ++ x ∷ []) (put n.base x) new) → IsUpAt beside (logged n x) c' new
up_logged {beside} n x c0 c c' m0 m new up none roomy lawful unit_is tells still lies fuse begun fresh takes units ring header halted head content = record {
  state = up.state;
  up = still;
  lies = lies;
  fuse = fuse_spent write_calls n.fuse new fuse;
  units = units ∙ roomy.units;
  ring = ring ∙ roomy.ring;
  low = up.low;
  found = roomy.found;
  kept = ap (λ (h : Header). h.state) header ∙ roomy.kept;
  linked = λ told. roomy.linked (sym tells ∙ told);
  session = ap (λ (h : Header). h.incarnation) header ∙ roomy.session;
  begun = begun;
  stamp = λ told _. stamped told;
  fresh = λ origin told _ one room. fresh origin told one room;
  first = omega (arith, roomy.first, ap (λ (h : Header). h.low) header);
  head = head_is;
  halted = halted ∙ roomy.running ∙ sym none;
  logged = omega (arith, up.logged, length-append n.log (x ∷ []));
  durable = λ _. omega (arith, up.durable none, length-append n.log (x ∷ []));
  takes = λ _. takes;
  content = λ _ told. content told;
  sure = λ _. up.sure none;
  may = never_besides beside.doubt new (up.sure none);
  left = λ i now.
      let told = told_now new i lawful now in
      inl (writes_found (logged n x) c' i (units ∙ roomy.units) (ring ∙ roomy.ring) (ap (λ (h : Header). h.state) header ∙ roomy_kept n c m roomy (sym tells ∙ told))
      (ap (λ (h : Header). h.incarnation) header ∙ roomy.session) (omega (arith, stamped told)) (omega (arith, up.logged, up.durable none, length-append n.log (x ∷ [])))
      (stands_with c' (n.log ++ x ∷ []) (put n.base x) new i unit_is lawful (content told) now));
}
  where
    stamped : IsTrue new.tells → c'.log.header.stamp + 1 ≤ most_header beside (logged n x)
    stamped told = let t = roomy.stamp (sym tells ∙ told) in omega (arith, t, ap (λ (h : Header). h.stamp) header)

    head_is : last_of c' ≡ n.safe + 1
    head_is = omega (arith, head, roomy.head)
